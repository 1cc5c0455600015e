-- What a number gets that is no code of a ring of n codes.
use Rattle.std.specs.Prelude.{ℕ, cond, nat_lt}

-- the answer if a is below n, else another
abbrev pub within : {X : Type 0} → (n a : ℕ) → (answer otherwise : X) → X
within n a answer otherwise = cond (nat_lt a n) answer otherwise

-- the answer if a and b are below n, else another
abbrev pub both_within : {X : Type 0} → (n a b : ℕ) → (answer otherwise : X) → X
both_within n a b answer otherwise = within n a (within n b answer otherwise) otherwise
