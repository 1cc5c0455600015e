-- The law of adding a step.
use Rattle.std.proofs.Common.{◌≡◌, ℕ, ◌<◌, ◌≤◌, Bool, true, false, leb, List, length, Ok, sym, refl, ap, ◌∙◌, subst, arith}
use Rattle.std.proofs.lemmas.Bool.{leb-true}
use Rattle.std.specs.List.{AllByRecursion}
use Rattle.std.proofs.ByRecursion.{All-weaker}
use Rattle.refusal.specs.declared.Refusal.TheVariants.{ExponentTooLarge, SumTooLong}
use Rattle.ring.specs.CoefficientRing.{CoefficientRing}
use Rattle.order.specs.TermOrder.{TermOrder}
use Rattle.term.specs.declared.monomial.Monomial.{Monomial}
use Rattle.formula.specs.Formula.{Coefficient, code, max_monomials, provided}
use Rattle.formula.specs.Laws.{AdditionLaw, StepSum}
use Rattle.formula.specs.Polynomial.{coefficient}
use Rattle.formula.specs.Sum.{added, merged, multiplied, not_too_long, products_fit}
use Rattle.formula.proofs.Additions.{Codes, coefficient_merged, coefficient_multiplied}
use Rattle.formula.proofs.Formulas.{codes_multiplied, coefficients_merged, falling_merged, falling_multiplied, packed_merged, packed_multiplied}

module _ (ring : CoefficientRing) (order : TermOrder) (f : List Monomial) (s : Monomial) (line : List Monomial) where
  -- what a granted sum is
  pub record Granted (h : List Monomial) : Type 0 where
    pub fitting : products_fit s line ≡ true
    pub few : length h ≤ max_monomials
    pub is : h ≡ merged ring order f (multiplied ring s line)

  pub granted : (h : List Monomial) → added ring order f s line ≡ Ok h → Granted h
  granted h e = by (products_fit s line) refl e
    where
      room : (b : Bool) → leb (length (merged ring order f (multiplied ring s line))) max_monomials ≡ b → products_fit s line ≡ true → provided b SumTooLong (Ok (merged ring order f (multiplied ring s line))) ≡ Ok h → Granted h
      room true l k e = let p : merged ring order f (multiplied ring s line) ≡ h = cc in record { fitting = k; few = subst (λ x. length x ≤ max_monomials) p (leb-true _ max_monomials l); is = sym p }
      room false l k e = let z : ◌≡◌ {A = ℕ} 0 1 = cc in absurd (omega arith)

      by : (b : Bool) → products_fit s line ≡ b → provided b ExponentTooLarge (not_too_long (merged ring order f (multiplied ring s line))) ≡ Ok h → Granted h
      by true k e = room (leb (length (merged ring order f (multiplied ring s line))) max_monomials) refl k e
      by false k e = let z : ◌≡◌ {A = ℕ} 0 1 = cc in absurd (omega arith)

codes_of : (ring : CoefficientRing) (f : List Monomial) → AllByRecursion (λ m. Coefficient ring (code m)) f → Codes ring f
codes_of ring f h = All-weaker (λ m. Coefficient ring (code m)) (λ m. code m < ring.size) (λ m l. l.1) f h

pub addition_law : (ring : CoefficientRing) (order : TermOrder) → AdditionLaw ring order
addition_law ring order f s line h hf hl c e =
    let g = granted ring order f s line h e in
    let cf = codes_of ring f hf.coefficients in
    let cg = codes_multiplied ring order s line in
    subst (StepSum ring order f s line) (sym g.is) (record {
      coefficients = λ t. coefficient_merged ring order f (multiplied ring s line) t cf cg ∙ ap (ring.sum (coefficient ring f t)) (coefficient_multiplied ring s c line t g.fitting (codes_of ring line hl.coefficients));
      formula = record {
        not_long = subst (λ x. length x ≤ max_monomials) g.is g.few;
        coefficients = coefficients_merged ring order f (multiplied ring s line) cf cg;
        falling_terms = falling_merged ring order f (multiplied ring s line) hf.falling_terms (falling_multiplied ring order s line g.fitting hl.falling_terms);
      };
      packed = λ p. packed_merged ring order f (multiplied ring s line) p (packed_multiplied ring order s line g.fitting);
    })
