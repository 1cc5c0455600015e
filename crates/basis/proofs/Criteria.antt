-- The criterion for lists of lines, from the criterion over any lines.
use Rattle.std.proofs.Common.{ℕ, ◌<◌, List, sym, ap, ◌∙◌, subst, arith}
use mathlib.Core.HLevel.{Σ_prop_path}
use native.Mathlib.Bridge.{le_prop}
use native.Mathlib.Decide.{dec_lt}
use Rattle.ring.specs.CoefficientRing.{CoefficientRing}
use Rattle.ring.specs.Derived.{Divides as DividesCode}
use Rattle.order.specs.Term.{Term}
use Rattle.order.specs.TermOrder.{TermOrder}
use Rattle.basis.specs.Polynomial.{Monomial, Polynomial}
use Rattle.basis.specs.Basis.{Head, Line, line_of, DividedByLine, Headed, StrongBasis}
use Rattle.basis.specs.Criterion.{head_lcm, term_over_head, head_gcd, a_polynomial, s_polynomial, Criterion}
use Rattle.basis.specs.Laws.{CriterionMakesBasis}
use Rattle.basis.proofs.Rings.{one_times, sum_turns, factor_of_itself, negative_right}
use Rattle.basis.proofs.Equations.{turned_difference, alone}
use Rattle.basis.proofs.Codes.{Code, same_code, code_ring, zero_code?, factor_of_multiple, multiple_of_factor}
use Rattle.basis.proofs.SixTerms.{six_terms, order_of_six, divisor_of, divides_of, lift_left, lift_right, lcm_is_least}
use Rattle.basis.proofs.Shifts.{shifted}
use Rattle.basis.proofs.Coefficients.{at}
use Rattle.basis.proofs.Lows.{Lines, value, low_same, low_zero, low_multiple}
use Rattle.basis.proofs.Swaps.{Annihilated, Joined}
use Rattle.basis.proofs.Descents.{Fitting, heads_fit}
use Rattle.basis.proofs.Heads.{head_exists}
use Rattle.basis.proofs.CriticalPolynomials.{at_a_polynomial, at_s_polynomial, head_code, head_below, over, gcd_code, left_cofactor, right_cofactor, gcd_combination, over_left, over_right}
use Rattle.basis.proofs.LineLists.{Number as NumberIn, line as line_in, headed as headed_in, all_lines, low_of, steps_of_lines}

module _ (ring : CoefficientRing) (order : TermOrder) (lines : List Line) (criterion : Criterion ring order lines) where
  open code_ring ring use {zero as 𝟎, one as 𝟏, sum as ◌+◌, negative as −◌, product as ◌*◌}

  infixl 60 ◌+◌
  infixl 70 ◌*◌
  infix 80 −◌
  abbrev Number : Type 0
  Number = NumberIn ring order lines criterion.heads

  abbrev line : Number → Line
  line k = line_in ring order lines criterion.heads k

  abbrev headed : (k : Number) → Headed ring order (line_of lines k.0)
  headed k = headed_in ring order lines criterion.heads k

  abbrev L : Lines (code_ring ring) six_terms (order_of_six order) Number
  L = all_lines ring order lines criterion.heads

  annihilated : (k : Number) → Annihilated L k
  annihilated k =
      let r : ℕ = (line k).head.coefficient in
      let a : Code ring = (ring.annihilator r, ring.annihilator_below r) in
      record {
        annihilator = a;
        divides = λ e h. factor_of_multiple ring e a (ring.annihilator_divides r e.0 (head_below ring order (line k) (headed k)) e.1 (ap (λ c. c.0) h));
        low = low_same L (low_of ring order lines criterion.heads (line k).head.term (a_polynomial ring (line k)) (criterion.annihilated k.0 k.1)) (λ x. sym (at_a_polynomial ring (line k) x));
      }

  -- two lines, the first with the smaller number
  joined_in_turn : (i k : Number) → i.0 < k.0 → Joined L i k
  joined_in_turn i k h =
      let c = criterion.covered i.0 k.0 h k.1 in
      let cover : Number = (c.line, c.inside) in
      let g : Code ring = gcd_code ring order (line i) (line k) (headed i) (headed k) in
      record {
        g = g;
        u = left_cofactor ring order (line i) (line k) (headed i) (headed k);
        v = right_cofactor ring order (line i) (line k) (headed i) (headed k);
        over_i = over ring (head_gcd ring (line i) (line k)).g (line i);
        over_k = over ring (head_gcd ring (line i) (line k)).g (line k);
        combination = gcd_combination ring order (line i) (line k) (headed i) (headed k);
        divides_i = over_left ring order (line i) (line k) (headed i) (headed k);
        divides_k = over_right ring order (line i) (line k) (headed i) (headed k);
        top = head_lcm (line i) (line k);
        lift_i = term_over_head (head_lcm (line i) (line k)) (line i);
        lift_k = term_over_head (head_lcm (line i) (line k)) (line k);
        lifts_i = lift_left (line i).head.term (line k).head.term;
        lifts_k = lift_right (line i).head.term (line k).head.term;
        least = lcm_is_least (line i).head.term (line k).head.term;
        low = low_same L (low_of ring order lines criterion.heads (head_lcm (line i) (line k)) (s_polynomial ring (line i) (line k)) (criterion.subtracted i.0 k.0 h k.1)) (λ x. sym (at_s_polynomial ring (line i) (line k) x));
        cover = cover;
        cover_term = divisor_of (line cover).head.term (head_lcm (line i) (line k)) c.divides.term;
        cover_code = factor_of_multiple ring g (head_code ring order (line cover) (headed cover)) c.divides.coefficient;
      }

  turned : (i k : Number) → Joined L i k → Joined L k i
  turned i k b = record {
    g = b.g;
    u = b.v;
    v = b.u;
    over_i = b.over_k;
    over_k = b.over_i;
    combination = b.combination ∙ sum_turns (code_ring ring) (b.u * L.head_code i) (b.v * L.head_code k);
    divides_i = b.divides_k;
    divides_k = b.divides_i;
    top = b.top;
    lift_i = b.lift_k;
    lift_k = b.lift_i;
    lifts_i = b.lifts_k;
    lifts_k = b.lifts_i;
    least = λ x p q. b.least x q p;
    low = low_same L (low_multiple L (− 𝟏) b.low) (λ x. turned_difference (code_ring ring) b.over_i b.over_k (shifted (code_ring ring) six_terms b.lift_k (L.at k) x) (shifted (code_ring ring) six_terms b.lift_i (L.at i) x));
    cover = b.cover;
    cover_term = b.cover_term;
    cover_code = b.cover_code;
  }

  -- a line with itself: nothing to ask
  itself : (k : Number) → Joined L k k
  itself k =
      let t : Term = (line k).head.term in
      let lift : Term = term_over_head (head_lcm (line k) (line k)) (line k) in
      record {
        g = L.head_code k;
        u = 𝟏;
        v = 𝟎;
        over_i = 𝟏;
        over_k = 𝟏;
        combination = alone (code_ring ring) (L.head_code k);
        divides_i = one_times (code_ring ring) (L.head_code k);
        divides_k = one_times (code_ring ring) (L.head_code k);
        top = head_lcm (line k) (line k);
        lift_i = lift;
        lift_k = lift;
        lifts_i = lift_left t t;
        lifts_k = lift_left t t;
        least = lcm_is_least t t;
        low = low_same L (low_zero L) (λ x. negative_right (code_ring ring) (𝟏 * shifted (code_ring ring) six_terms lift (L.at k) x));
        cover = k;
        cover_term = (lift, lift_left t t);
        cover_code = factor_of_itself (code_ring ring) (L.head_code k);
      }

  joined : (i k : Number) → Joined L i k
  joined i k = which (dec_lt i.0 k.0) (dec_lt k.0 i.0)
    where
      which : Dec (i.0 < k.0) → Dec (k.0 < i.0) → Joined L i k
      which (yes h) _ = joined_in_turn i k h
      which (no n) (yes h) = turned k i (joined_in_turn k i h)
      which (no n) (no m) = subst (λ j. Joined L i j) (Σ_prop_path (λ j. le_prop) (omega arith)) (itself i)

  -- a line that fits at the head of f divides it
  divided : (f : Polynomial) (m : Monomial) → Head ring order f m → Fitting L m.term (at ring f m.term) → DividedByLine ring lines m
  divided f m h fits =
      let l : Number = fits.line in
      record {
        line = l.0;
        inside = l.1;
        divides = record {
          term = divides_of (line l).head.term m.term fits.term;
          coefficient = subst (λ c. DividesCode ring (line l).head.coefficient c) h.there (multiple_of_factor ring (at ring f m.term) (L.head_code l) fits.code);
        };
      }

  strong_basis : StrongBasis ring order lines
  strong_basis f c t nz =
      let (m, h) = head_exists ring order f t nz in
      let (σ, same) = steps_of_lines ring order lines criterion.heads f c in
      let fits : Fitting L m.term (value L σ m.term) =
      heads_fit L annihilated joined (zero_code? ring) σ m.term
      (λ z. h.not_zero (sym h.there ∙ ap (λ c. c.0) (same m.term ∙ z)))
      (λ y l. sym (same y) ∙ same_code ring (at ring f y) 𝟎 (h.none_after y l)) in
      record { head = m; is_head = h; divided = divided f m h (subst (Fitting L m.term) (sym (same m.term)) fits) }

pub criterion_makes_basis : (ring : CoefficientRing) (order : TermOrder) → CriterionMakesBasis ring order
criterion_makes_basis ring order lines criterion = strong_basis ring order lines criterion
