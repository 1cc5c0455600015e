-- Fronts of lists.
use Rattle.std.proofs.Common.{◌≡◌, ℕ, zero, suc, List, [], ◌∷◌, ◌++◌, take, refl, ap, arith}
use Rattle.std.proofs.lemmas.List.{take_all}

-- what is cut off a list does not come back
pub take_of_take : {X : Type 0} (n : ℕ) (xs ys : List X) → take n (take n xs ++ ys) ≡ take n (xs ++ ys)
take_of_take n [] ys = ap (λ l. take n (l ++ ys)) (take_all n [] (omega arith))
take_of_take zero (x ∷ xs) ys = refl
take_of_take (suc n) (x ∷ xs) ys = ap (λ l. x ∷ l) (take_of_take n xs ys)
