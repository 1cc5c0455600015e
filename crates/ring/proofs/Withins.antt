-- What `within` and `both_within` answer, inside and outside.
use Rattle.std.proofs.Common.{◌≡◌, ℕ, ◌<◌, ◌≤◌, ltb, ◌∙◌, ⊎_elim}
use Rattle.std.proofs.lemmas.Bool.{cases_lt, cond-true, cond-false, lt-ltb, le-ltb}
use Rattle.ring.specs.Within.{within, both_within}

pub within_inside : {X : Type 0} (n a : ℕ) (x d : X) → a < n → within n a x d ≡ x
within_inside n a x d h = cond-true (ltb a n) x d (lt-ltb a n h)

pub within_outside : {X : Type 0} (n a : ℕ) (x d : X) → n ≤ a → within n a x d ≡ d
within_outside n a x d h = cond-false (ltb a n) x d (le-ltb a n h)

-- where both answers are the same, so is the choice
pub within_same : {X : Type 0} (n a : ℕ) (x d : X) → x ≡ d → within n a x d ≡ d
within_same n a x d e =
    ⊎_elim (λ h. within_inside n a x d h ∙ e) (within_outside n a x d) (cases_lt a n)

pub both_within_inside : {X : Type 0} (n a b : ℕ) (x d : X) → a < n → b < n → both_within n a b x d ≡ x
both_within_inside n a b x d ha hb = within_inside n a (within n b x d) d ha ∙ within_inside n b x d hb

pub both_within_outside_left : {X : Type 0} (n a b : ℕ) (x d : X) → n ≤ a → both_within n a b x d ≡ d
both_within_outside_left n a b x d h = within_outside n a (within n b x d) d h

pub both_within_outside_right : {X : Type 0} (n a b : ℕ) (x d : X) → n ≤ b → both_within n a b x d ≡ d
both_within_outside_right n a b x d h = within_same n a (within n b x d) d (within_outside n b x d h)

-- what holds of the answer inside and of the other one holds of the choice
pub within_either : {X : Type 0} (P : X → Type 0) (n a : ℕ) (x d : X) → (a < n → P x) → P d → P (within n a x d)
within_either P n a x d inside outside =
    ⊎_elim (λ h. rw (within_inside n a x d h) (inside h)) (λ h. rw (within_outside n a x d h) outside) (cases_lt a n)

pub both_within_either : {X : Type 0} (P : X → Type 0) (n a b : ℕ) (x d : X) → (a < n → b < n → P x) → P d → P (both_within n a b x d)
both_within_either P n a b x d inside outside =
    within_either P n a (within n b x d) d (λ ha. within_either P n b x d (inside ha) outside) outside
