-- Going on after checks: what is refused stays refused, and what is granted goes on.
use Rattle.std.proofs.Common.{◌≡◌, ℕ, ◌<◌, Bool, true, false, ◌&&◌, List, [], ◌∷◌, length, take, Ok, Err, Result, sym, refl, ap, ◌∙◌, ⊎_elim, arith}
use Rattle.std.proofs.lemmas.List.{length-take-le, take_all}
use Rattle.std.proofs.lemmas.Bool.{cases_lt, lt-leb}
use Rattle.refusal.specs.declared.Refusal.{Refusal}
use Rattle.refusal.specs.declared.Refusal.TheVariants.{CoefficientOutOfRange, TermsNotFalling, TooManyMonomials}
use Rattle.ring.specs.CoefficientRing.{CoefficientRing}
use Rattle.order.specs.TermOrder.{TermOrder}
use Rattle.term.specs.declared.monomial.Monomial.{Monomial}
use Rattle.formula.specs.Formula.{checked, code, coded, falling, is_coefficient, max_monomials, provided}
use Rattle.formula.specs.Sum.{added}
use Rattle.script.specs.Listed.{max_listed}
use Rattle.answer.specs.Formulas.{KeptSuffice, shown_formula, sum_of, then}

-- a list that is shown was granted, and is shown as it is
granted : {A : Type 0} (check : Result (Unit {0}) Refusal) (a x : A) → Ok x ≡ then check (Ok a) → (check ≡ Ok tt) × (x ≡ a)
granted (Ok u) a x h = (refl, cc)
granted (Err f) a x h = let z : ◌≡◌ {A = ℕ} 0 1 = cc in absurd (omega arith)

-- after that the next call decides
go_on : {A B : Type 0} (check : Result (Unit {0}) Refusal) (a x : A) (next : Result B Refusal) → Ok x ≡ then check (Ok a) → next ≡ then check next
go_on check a x next h = sym (ap (λ r. then r next) (granted check a x h).0)

-- a check that refuses in front of one call refuses in front of every call
check_refused : {A B : Type 0} (check : Result (Unit {0}) Refusal) (a : A) (e : Refusal) (next : Result B Refusal) → Err e ≡ then check (Ok a) → Err e ≡ then check next
check_refused (Ok u) a e next h = let z : ◌≡◌ {A = ℕ} 0 1 = cc in absurd (omega arith)
check_refused (Err f) a e next h = cc

-- a test that refuses in front of one call refuses in front of every call, and one that grants goes on
provided_refused : {A : Type 0} (test : Bool) (f e : Refusal) (next : Result A Refusal) → Err e ≡ provided {A = Unit {0}} test f (Ok tt) → Err e ≡ provided test f next
provided_refused true f e next h = let z : ◌≡◌ {A = ℕ} 0 1 = cc in absurd (omega arith)
provided_refused false f e next h = cc

provided_granted : {A : Type 0} (test : Bool) (f : Refusal) (u : Unit {0}) (next : Result A Refusal) → Ok u ≡ provided {A = Unit {0}} test f (Ok tt) → next ≡ provided test f next
provided_granted true f u next h = refl
provided_granted false f u next h = let z : ◌≡◌ {A = ℕ} 0 1 = cc in absurd (omega arith)

-- a monomial alone is a formula exactly where its code is a coefficient
single : (ring : CoefficientRing) (order : TermOrder) (s : Monomial) → checked ring order (s ∷ []) ≡ provided (is_coefficient ring (code s)) CoefficientOutOfRange (Ok tt)
single ring order s = at (is_coefficient ring (code s))
  where
    at : (b : Bool) → provided {A = Unit {0}} (b && true) CoefficientOutOfRange (Ok tt) ≡ provided b CoefficientOutOfRange (Ok tt)
    at true = refl
    at false = refl

module _ (ring : CoefficientRing) (order : TermOrder) (f : List Monomial) (s : Monomial) (line shown_f shown_line : List Monomial) where
  -- with both lists granted, the rest decides
  both_granted : (r : Result (List Monomial) Refusal) → Ok shown_f ≡ shown_formula ring order f → Ok shown_line ≡ shown_formula ring order line → r ≡ provided (is_coefficient ring (code s)) CoefficientOutOfRange (added ring order f s line) → r ≡ sum_of ring order f s line
  both_granted r p q h =
      h ∙
      go_on (checked ring order line) line shown_line (provided (is_coefficient ring (code s)) CoefficientOutOfRange (added ring order f s line)) q ∙
      go_on (checked ring order f) f shown_f (then (checked ring order line) (provided (is_coefficient ring (code s)) CoefficientOutOfRange (added ring order f s line))) p

  -- the second list is refused
  pub line_refused : (e : Refusal) → Ok shown_f ≡ shown_formula ring order f → Err e ≡ shown_formula ring order line → Err e ≡ sum_of ring order f s line
  line_refused e p q =
      let sum = provided (is_coefficient ring (code s)) CoefficientOutOfRange (added ring order f s line) in
      check_refused (checked ring order line) line e sum q ∙ go_on (checked ring order f) f shown_f (then (checked ring order line) sum) p

  -- the factor's coefficient is refused
  pub coefficient_refused : (e : Refusal) → Ok shown_f ≡ shown_formula ring order f → Ok shown_line ≡ shown_formula ring order line → Err e ≡ checked ring order (s ∷ []) → Err e ≡ sum_of ring order f s line
  coefficient_refused e p q h =
      both_granted (Err e) p q (provided_refused (is_coefficient ring (code s)) CoefficientOutOfRange e (added ring order f s line) (h ∙ single ring order s))

  -- nothing is refused before the sum
  pub sum_decides : (r : Result (List Monomial) Refusal) (u : Unit {0}) → Ok shown_f ≡ shown_formula ring order f → Ok shown_line ≡ shown_formula ring order line → Ok u ≡ checked ring order (s ∷ []) → r ≡ added ring order shown_f s shown_line → r ≡ sum_of ring order f s line
  sum_decides r u p q k h =
      let a = (granted (checked ring order f) f shown_f p).1 in
      let b = (granted (checked ring order line) line shown_line q).1 in
      both_granted r p q (h ∙ (λ i. added ring order (a i) s (b i)) ∙ provided_granted (is_coefficient ring (code s)) CoefficientOutOfRange u (added ring order f s line) (k ∙ single ring order s))

-- a list that is too long is refused for that
too_long : (ring : CoefficientRing) (order : TermOrder) (f : List Monomial) → max_monomials < length f → checked ring order f ≡ Err TooManyMonomials
too_long ring order f h =
    ap (λ test. provided test TooManyMonomials (provided (coded ring f) CoefficientOutOfRange (provided (falling order f) TermsNotFalling (Ok tt)))) (lt-leb (length f) max_monomials h)

-- so the check of a list is that of the monomials which are kept of it, and goes on alike
kept_check : {A : Type 0} (ring : CoefficientRing) (order : TermOrder) (f : List Monomial) (next : List Monomial → Result A Refusal) → then (checked ring order (take max_listed f)) (next (take max_listed f)) ≡ then (checked ring order f) (next f)
kept_check ring order f next =
    ⊎_elim
    (λ long.
    let n : length (take max_listed f) ≡ max_listed = length-take-le max_listed f (omega arith) in
    ap (λ r. then r (next (take max_listed f))) (too_long ring order (take max_listed f) (omega arith)) ∙ sym (ap (λ r. then r (next f)) (too_long ring order f (omega arith))))
    (λ short. ap (λ g. then (checked ring order g) (next g)) (take_all max_listed f short))
    (cases_lt max_listed (length f))

pub kept_suffice : (ring : CoefficientRing) (order : TermOrder) → KeptSuffice ring order
kept_suffice ring order = record {
  to_show = λ f. kept_check ring order f (λ g. Ok g);
  to_add = λ f s line.
      ap (then (checked ring order (take max_listed f))) (kept_check ring order line (λ g. provided (is_coefficient ring (code s)) CoefficientOutOfRange (added ring order (take max_listed f) s g))) ∙
      kept_check ring order f (λ g. then (checked ring order line) (provided (is_coefficient ring (code s)) CoefficientOutOfRange (added ring order g s line)));
}
