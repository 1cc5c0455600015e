-- The coefficients of A-, G- and S-polynomials, and their heads.
use Rattle.std.proofs.Common.{◌≡◌, ℕ, ◌<◌, ◌++◌, sym, ap, ◌∙◌, subst, ap₂}
use Rattle.ring.specs.CoefficientRing.{CoefficientRing}
use Rattle.order.specs.Term.{Term, unit, product}
use Rattle.order.specs.TermOrder.{TermOrder}
use Rattle.basis.specs.Polynomial.{Polynomial, coefficient, scaled}
use Rattle.basis.specs.Basis.{Line, Headed}
use Rattle.basis.specs.Criterion.{head_lcm, term_over_head, head_gcd, head_over, a_polynomial, g_polynomial, s_polynomial}
use Rattle.basis.specs.Laws.{CriticalPolynomials}
use Rattle.basis.proofs.Rings.{negative_times, times_zero, zero_right}
use Rattle.basis.proofs.Equations.{heads_cancel}
use Rattle.basis.proofs.Codes.{Code, same_code, code_ring, code_of_code}
use Rattle.basis.proofs.SixTerms.{six_terms, order_of_six, lift_left, lift_right}
use Rattle.basis.proofs.Shifts.{shifted, shifted_at_product, shifted_after}
use Rattle.basis.proofs.Coefficients.{at, coefficient_below, at_append, at_scaled, shifted_by_unit}
use Rattle.basis.proofs.Quotients.{quotient_is_code, quotient_gives_back}

module _ (ring : CoefficientRing) where
  open code_ring ring use {zero as 𝟎, sum as ◌+◌, negative as −◌, product as ◌*◌}

  infixl 60 ◌+◌
  infixl 70 ◌*◌
  infix 80 −◌
  abbrev raised_line : Term → Line → Term → Code ring
  raised_line t k = shifted (code_ring ring) six_terms (term_over_head t k) (at ring k.polynomial)

  -- the coefficients of the three
  pub at_a_polynomial : (k : Line) (x : Term) → at ring (a_polynomial ring k) x ≡ (ring.annihilator k.head.coefficient, ring.annihilator_below k.head.coefficient) * at ring k.polynomial x
  at_a_polynomial k x =
      at_scaled ring (ring.annihilator k.head.coefficient) unit k.polynomial x
      ∙ ap₂ ◌*◌ (code_of_code ring (ring.annihilator k.head.coefficient) (ring.annihilator_below k.head.coefficient)) (shifted_by_unit ring (at ring k.polynomial) x)

  -- two codes times two lines, raised to t
  abbrev pub raised_sum : Term → ℕ → ℕ → Line → Line → Polynomial
  raised_sum t a b i k = scaled ring a (term_over_head t i) i.polynomial ++ scaled ring b (term_over_head t k) k.polynomial

  pub at_raised_sum : (t : Term) (a b : Code ring) (i k : Line) (x : Term) → at ring (raised_sum t a.0 b.0 i k) x ≡ a * raised_line t i x + b * raised_line t k x
  at_raised_sum t a b i k x =
      at_append ring (scaled ring a.0 (term_over_head t i) i.polynomial) (scaled ring b.0 (term_over_head t k) k.polynomial) x
      ∙ ap₂ ◌+◌ (at_scaled ring a.0 (term_over_head t i) i.polynomial x ∙ ap (λ c. c * raised_line t i x) (code_of_code ring a.0 a.1))
      (at_scaled ring b.0 (term_over_head t k) k.polynomial x ∙ ap (λ c. c * raised_line t k x) (code_of_code ring b.0 b.1))

  -- the quotient of a head coefficient by g, as an element of the ring of codes
  abbrev pub over : ℕ → Line → Code ring
  over g k = (head_over ring g k, quotient_is_code ring k.head.coefficient g)

  pub at_s_polynomial : (i k : Line) (x : Term)
      → at ring (s_polynomial ring i k) x ≡ over (head_gcd ring i k).g k * raised_line (head_lcm i k) i x + − (over (head_gcd ring i k).g i * raised_line (head_lcm i k) k x)
  at_s_polynomial i k x =
      at_raised_sum (head_lcm i k) (over (head_gcd ring i k).g k) (− over (head_gcd ring i k).g i) i k x
      ∙ ap (λ y. over (head_gcd ring i k).g k * raised_line (head_lcm i k) i x + y) (negative_times (code_ring ring) (over (head_gcd ring i k).g i) (raised_line (head_lcm i k) k x))

  module _ (order : TermOrder) where
    -- a head coefficient is a code
    pub head_below : (k : Line) → Headed ring order k → k.head.coefficient < ring.size
    head_below k h = subst (λ c. c < ring.size) h.there (coefficient_below ring k.polynomial k.head.term)

    abbrev pub head_code : (k : Line) → Headed ring order k → Code ring
    head_code k h = (k.head.coefficient, head_below k h)

    pub at_head : (k : Line) (h : Headed ring order k) → at ring k.polynomial k.head.term ≡ head_code k h
    at_head k h = same_code ring (at ring k.polynomial k.head.term) (head_code k h) h.there

    pub after_head : (k : Line) → Headed ring order k → (x : Term) → order.before k.head.term x → at ring k.polynomial x ≡ 𝟎
    after_head k h x l = same_code ring (at ring k.polynomial x) 𝟎 (h.none_after x l)

    -- a line raised to t has its head coefficient there, and nothing after
    raised_at : (t : Term) (k : Line) (h : Headed ring order k) → product k.head.term (term_over_head t k) ≡ t → raised_line t k t ≡ head_code k h
    raised_at t k h e =
        ap (raised_line t k) (sym (six_terms.commutes (term_over_head t k) k.head.term ∙ e))
        ∙ shifted_at_product (code_ring ring) six_terms (term_over_head t k) (at ring k.polynomial) k.head.term ∙ at_head k h

    raised_after : (t : Term) (k : Line) (h : Headed ring order k) → product k.head.term (term_over_head t k) ≡ t → (x : Term) → order.before t x → raised_line t k x ≡ 𝟎
    raised_after t k h e x l =
        shifted_after (code_ring ring) six_terms (order_of_six order) (term_over_head t k) k.head.term (at ring k.polynomial) (after_head k h) x
        (subst (λ z. order.before z x) (sym (six_terms.commutes (term_over_head t k) k.head.term ∙ e)) l)

    module _ (i k : Line) (hi : Headed ring order i) (hk : Headed ring order k) where
      at_left : raised_line (head_lcm i k) i (head_lcm i k) ≡ head_code i hi
      at_left = raised_at (head_lcm i k) i hi (lift_left i.head.term k.head.term)

      at_right : raised_line (head_lcm i k) k (head_lcm i k) ≡ head_code k hk
      at_right = raised_at (head_lcm i k) k hk (lift_right i.head.term k.head.term)

      -- the gcd and its cofactors
      abbrev pub gcd_code : Code ring
      gcd_code = ((head_gcd ring i k).g, (ring.gcd_below i.head.coefficient k.head.coefficient).0)

      abbrev pub left_cofactor : Code ring
      left_cofactor = ((head_gcd ring i k).u, (ring.gcd_below i.head.coefficient k.head.coefficient).1)

      abbrev pub right_cofactor : Code ring
      right_cofactor = ((head_gcd ring i k).v, (ring.gcd_below i.head.coefficient k.head.coefficient).2)

      pub gcd_combination : gcd_code ≡ left_cofactor * head_code i hi + right_cofactor * head_code k hk
      gcd_combination = same_code ring _ _ (ring.gcd_is_combination i.head.coefficient k.head.coefficient (head_below i hi) (head_below k hk))

      pub over_left : over (head_gcd ring i k).g i * gcd_code ≡ head_code i hi
      over_left = same_code ring _ _ (quotient_gives_back ring i.head.coefficient (head_gcd ring i k).g (head_below i hi) gcd_code.1 (ring.gcd_divides_left i.head.coefficient k.head.coefficient (head_below i hi) (head_below k hk)))

      pub over_right : over (head_gcd ring i k).g k * gcd_code ≡ head_code k hk
      over_right = same_code ring _ _ (quotient_gives_back ring k.head.coefficient (head_gcd ring i k).g (head_below k hk) gcd_code.1 (ring.gcd_divides_right i.head.coefficient k.head.coefficient (head_below i hi) (head_below k hk)))

      g_there : coefficient ring (g_polynomial ring i k) (head_lcm i k) ≡ (head_gcd ring i k).g
      g_there = ap (λ c. c.0) (at_raised_sum (head_lcm i k) left_cofactor right_cofactor i k (head_lcm i k)
          ∙ ap₂ (λ y z. left_cofactor * y + right_cofactor * z) at_left at_right ∙ sym gcd_combination)

      g_none_after : (t : Term) → order.before (head_lcm i k) t → coefficient ring (g_polynomial ring i k) t ≡ 0
      g_none_after t l = ap (λ c. c.0) (at_raised_sum (head_lcm i k) left_cofactor right_cofactor i k t
          ∙ ap₂ (λ y z. left_cofactor * y + right_cofactor * z) (raised_after (head_lcm i k) i hi (lift_left i.head.term k.head.term) t l) (raised_after (head_lcm i k) k hk (lift_right i.head.term k.head.term) t l)
          ∙ ap₂ ◌+◌ (times_zero (code_ring ring) left_cofactor) (times_zero (code_ring ring) right_cofactor) ∙ zero_right (code_ring ring) 𝟎)

      s_cancelled : coefficient ring (s_polynomial ring i k) (head_lcm i k) ≡ 0
      s_cancelled = ap (λ c. c.0) (at_raised_sum (head_lcm i k) (over (head_gcd ring i k).g k) (− over (head_gcd ring i k).g i) i k (head_lcm i k)
          ∙ ap₂ (λ y z. over (head_gcd ring i k).g k * y + (− over (head_gcd ring i k).g i) * z) at_left at_right
          ∙ heads_cancel (code_ring ring) gcd_code (head_code i hi) (head_code k hk) (over (head_gcd ring i k).g i) (over (head_gcd ring i k).g k) over_left over_right)

    a_cancelled : (k : Line) → Headed ring order k → coefficient ring (a_polynomial ring k) k.head.term ≡ 0
    a_cancelled k h = ap (λ c. c.0) (at_a_polynomial k k.head.term) ∙ ap (ring.product (ring.annihilator k.head.coefficient)) h.there ∙ ring.annihilator_annihilates k.head.coefficient (head_below k h)

    pub critical_polynomials : CriticalPolynomials ring order
    critical_polynomials = record { g_there = g_there; g_none_after = g_none_after; s_cancelled = s_cancelled; a_cancelled = a_cancelled }
