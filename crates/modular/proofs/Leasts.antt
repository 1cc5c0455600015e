-- What the least number that passes a test is, and the greatest.
use Rattle.std.proofs.Common.{◌≡◌, ℕ, zero, suc, ◌<◌, ◌≤◌, Bool, true, false, cond, ◌⊎◌, Some, None, Option, sym, refl, ap, ◌∙◌, subst, inl, inr, arith}
use Rattle.std.proofs.lemmas.Bool.{cases_lt, true≢false}
use Rattle.modular.specs.Least.{or_else, least, greatest}

-- no number below n passes
abbrev pub Nowhere : (ℕ → Bool) → ℕ → Type 0
Nowhere test n = (y : ℕ) → y < n → test y ≡ true → ⊥

-- x is below n and the least number that passes
abbrev pub LeastBelow : (ℕ → Bool) → ℕ → ℕ → Type 0
LeastBelow test n x = (x < n) × (test x ≡ true) × Nowhere test x

-- what an answer of a search below n says
abbrev pub Sought : (ℕ → Bool) → ℕ → Option ℕ → Type 0
Sought test n None = Nowhere test n
Sought test n (Some x) = LeastBelow test n x

one_more : (test : ℕ → Bool) (n : ℕ) (o : Option ℕ) (t : Bool) → test n ≡ t → Sought test n o → Sought test (suc n) (or_else o (cond t (Some n) None))
one_more test n (Some x) t e h = (omega arith, h.1, h.2)
one_more test n None true e h = (omega arith, e, h)
one_more test n None false e h = λ y l p. at_end y (cases_lt y n) l p
  where
    at_end : (y : ℕ) → (y < n) ⊎ (n ≤ y) → y < suc n → test y ≡ true → ⊥
    at_end y (inl k) l p = h y k p
    at_end y (inr k) l p = let same : y ≡ n = omega arith in true≢false (sym p ∙ ap test same ∙ e)

pub least_sought : (test : ℕ → Bool) (n : ℕ) → Sought test n (least test n)
unfolding least
least_sought test zero = λ y l p. omega arith
least_sought test (suc n) = one_more test n (least test n) (test n) refl (least_sought test n)

-- two answers that are both right are the same
sought_once : (test : ℕ → Bool) (n : ℕ) (o p : Option ℕ) → Sought test n o → Sought test n p → o ≡ p
sought_once test n None None h k = refl
sought_once test n None (Some y) h k = absurd (h y k.0 k.1)
sought_once test n (Some x) None h k = absurd (k x h.0 h.1)
sought_once test n (Some x) (Some y) h k = ap Some (level (cases_lt x y) (cases_lt y x))
  where
    level : (x < y) ⊎ (y ≤ x) → (y < x) ⊎ (x ≤ y) → x ≡ y
    level (inl l) m = absurd (k.2 x l h.1)
    level (inr l) (inl m) = absurd (h.2 y m k.1)
    level (inr l) (inr m) = omega arith

pub least_is : (test : ℕ → Bool) (n : ℕ) (o : Option ℕ) → Sought test n o → least test n ≡ o
least_is test n o h = sought_once test n (least test n) o (least_sought test n) h

-- what a search that answered says
pub least_some : (test : ℕ → Bool) (n x : ℕ) → least test n ≡ Some x → LeastBelow test n x
least_some test n x e = subst (Sought test n) e (least_sought test n)

pub least_none : (test : ℕ → Bool) (n : ℕ) → least test n ≡ None → Nowhere test n
least_none test n e = subst (Sought test n) e (least_sought test n)

-- g passes, unless it is 0, and nothing from 1 to n that passes is greater
pub record Greatest (test : ℕ → Bool) (n g : ℕ) : Type 0 where
  pub at_most : g ≤ n
  pub passes : 0 < g → test g ≡ true
  pub above : (y : ℕ) → 0 < y → y ≤ n → test y ≡ true → y ≤ g

greatest_more : (test : ℕ → Bool) (n g : ℕ) (t : Bool) → test (suc n) ≡ t → Greatest test n g → Greatest test (suc n) (cond t (suc n) g)
greatest_more test n g true e h = record { at_most = omega arith; passes = λ _. e; above = λ y _ l _. l }
greatest_more test n g false e h = record { at_most = let k = h.at_most in omega arith; passes = h.passes; above = λ y p l q. earlier y p (cases_lt n y) l q }
  where
    earlier : (y : ℕ) → 0 < y → (n < y) ⊎ (y ≤ n) → y ≤ suc n → test y ≡ true → y ≤ g
    earlier y p (inl k) l q = let same : y ≡ suc n = omega arith in absurd (true≢false (sym q ∙ ap test same ∙ e))
    earlier y p (inr k) l q = h.above y p k q

pub greatest_is : (test : ℕ → Bool) (n : ℕ) → Greatest test n (greatest test n)
unfolding greatest
greatest_is test zero = record { at_most = omega arith; passes = λ h. absurd (omega arith); above = λ y h l q. omega arith }
greatest_is test (suc n) = greatest_more test n (greatest test n) (test (suc n)) refl (greatest_is test n)
