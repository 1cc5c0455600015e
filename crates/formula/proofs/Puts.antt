-- A list that is put together in memory: `before` is held, `left` is still to come, and they make up `all`.
use Rattle.std.proofs.Common.{◌≡◌, ◌<◌, List, ◌++◌, length, Ok, Err, Result, sym, ap, ◌∙◌, subst, arith}
use Rattle.std.proofs.lemmas.List.{append_assoc, length-append}
use Rattle.refusal.specs.declared.Refusal.{Refusal}
use Rattle.term.specs.declared.monomial.Monomial.{Monomial}
use Rattle.formula.specs.Formula.{max_monomials}
use Rattle.formula.specs.Held.{Appended}

-- xs went in: the rest is still to come
pub put_more : (before after xs rest left all : List Monomial) → left ≡ xs ++ rest → after ≡ before ++ xs → before ++ left ≡ all → after ++ rest ≡ all
put_more before after xs rest left all split put inv = ap (λ l. l ++ rest) put ∙ append_assoc before xs rest ∙ ap (λ l. before ++ l) (sym split) ∙ inv

-- there is no room for xs: so there is none for all
pub no_room : (before xs rest left all : List Monomial) → left ≡ xs ++ rest → max_monomials < length (before ++ xs) → before ++ left ≡ all → max_monomials < length all
no_room before xs rest left all split over inv =
    omega (arith, over, ap length (ap (λ l. before ++ l) (sym split) ∙ inv), length-append before (xs ++ rest), length-append before xs, length-append xs rest)

-- the same list, otherwise cut
pub appended_same : (r : Result (Unit {0}) Refusal) (b x b' x' after : List Monomial) → b ++ x ≡ b' ++ x' → Appended b x r after → Appended b' x' r after
appended_same (Ok u) b x b' x' after e h = h ∙ e
appended_same (Err d) b x b' x' after e h = (h.0, subst (λ l. max_monomials < length l) e h.1)
