-- The quotient modulo n: a code whose product with the divisor is the number divided, none exactly where there is no such code.
use Rattle.std.proofs.Common.{◌≡◌, ℕ, ◌*◌, ◌%◌, ◌<◌, ◌≤◌, cond, eqb, Some, None, Option, sym, refl, ap, ◌∙◌, subst, arith}
use Rattle.std.proofs.lemmas.Bool.{cond_both, cond-true, eqb-true, eq-eqb}
use Rattle.std.proofs.lemmas.Nat.{mul-mod_first}
use Rattle.std.proofs.lemmas.Option.{none-some}
use Rattle.ring.specs.CoefficientRing.{Multiple}
use Rattle.ring.proofs.Withins.{both_within_inside, both_within_outside_left, both_within_outside_right, both_within_either}
use Rattle.modular.specs.Modular.{multiplier, modular_product, modular_quotient}
use Rattle.modular.proofs.Congruences.{Alike}
use Rattle.modular.proofs.Multipliers.{multiplier_solves, multiplier_missing}
use Rattle.modular.proofs.Sums.{rest_below, same_code, product_below, product_alike, multiple_alike}

module _ (n : ℕ) (two : 2 ≤ n) where
  -- what a quotient of a by b says
  abbrev Says : (a b : ℕ) → Option ℕ → Type 0
  Says a b None = (x : ℕ) → Alike n (x * b) a → ⊥
  Says a b (Some q) = (q < n) × Alike n (q * b) a

  multiplier_says : (a b : ℕ) (o : Option ℕ) → multiplier n b a ≡ o → Says a b o
  multiplier_says a b None e = λ x h. multiplier_missing b n a e (x % n) (rest_below n two x) (mul-mod_first x b n ∙ h)
  multiplier_says a b (Some q) e = let s = multiplier_solves b n a q e in (s.0, s.1)

  -- the quotient of codes
  abbrev inner : (a b : ℕ) → Option ℕ
  inner a b = cond (eqb a b) (Some 1) (multiplier n b a)

  inner_says : (a b : ℕ) → Says a b (inner a b)
  inner_says a b =
      cond_both (eqb a b) (Some 1) (multiplier n b a) (Says a b)
      (λ t. let e = eqb-true a b t in (two, ap (λ z. z % n) (omega arith)))
      (λ _. multiplier_says a b (multiplier n b a) refl)

  quotient_says : (a b : ℕ) → a < n → b < n → (o : Option ℕ) → modular_quotient n a b ≡ o → Says a b o
  quotient_says a b ha hb o e = subst (Says a b) (sym (both_within_inside n a b (inner a b) None ha hb) ∙ e) (inner_says a b)

  pub quotient_below : (a b q : ℕ) → modular_quotient n a b ≡ Some q → q < n
  quotient_below a b =
      both_within_either (λ o. (q : ℕ) → o ≡ Some q → q < n) n a b (inner a b) None
      (λ _ _ q e. (subst (Says a b) e (inner_says a b)).0)
      (λ q e. absurd (none-some q e))

  pub quotient_outside_left : (a b : ℕ) → n ≤ a → modular_quotient n a b ≡ None
  quotient_outside_left a b h = both_within_outside_left n a b (inner a b) None h

  pub quotient_outside_right : (a b : ℕ) → n ≤ b → modular_quotient n a b ≡ None
  quotient_outside_right a b h = both_within_outside_right n a b (inner a b) None h

  pub quotient_times_divisor : (a b q : ℕ) → a < n → b < n → modular_quotient n a b ≡ Some q → modular_product n q b ≡ a
  quotient_times_divisor a b q ha hb e =
      let s = quotient_says a b ha hb (Some q) e in
      same_code n two _ _ (product_below n two q b) ha (product_alike n two q b q b s.0 hb refl refl ∙ s.1)

  pub quotient_none_without_multiple : (a b : ℕ) → a < n → b < n → modular_quotient n a b ≡ None → Multiple n (modular_product n) a b → ⊥
  quotient_none_without_multiple a b ha hb e m =
      let k = multiple_alike n two a b hb m in
      quotient_says a b ha hb None e k.0 k.2

  pub quotient_by_itself : (a : ℕ) → a < n → modular_quotient n a a ≡ Some 1
  quotient_by_itself a h = both_within_inside n a a (inner a a) None h h ∙ cond-true (eqb a a) (Some 1) (multiplier n a a) (eq-eqb a a refl)
