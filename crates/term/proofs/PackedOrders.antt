-- How the three orders compare packed terms: lex by one number, reverse and weight by a number first.
use Rattle.std.proofs.Common.{◌≡◌, ℕ, ◌/◌, ◌^◌, ◌<◌, Ordering, Less, Equal, Greater, false, true, nat_cmp, sym, refl, ap, ◌∙◌, inl, inr, arith}
use Rattle.std.proofs.lemmas.Bool.{false≢true}
use Rattle.std.proofs.lemmas.Cmp.{ranked}
use Rattle.std.specs.Ordering.{MatchOrdering, is_ne, ordering_then}
use Rattle.order.specs.Term.{Term, mirrored, degree, weighted}
use Rattle.order.specs.TermOrder.{TermOrder, compared}
use Rattle.order.specs.Keys.{ByKeys, lex_keys, reverse_keys}
use Rattle.order.proofs.Compared.{onward, compared_is, compared_ranked, compared_by_numbers}
use Rattle.order.proofs.Differences.{lex_in_words, reverse_in_words, mirrored_lex}
use Rattle.term.specs.Packed.{term_of, packed, Fits}
use Rattle.term.specs.Orders.{lex, reverse, weight}
use Rattle.term.specs.Laws.{FirstRegisterDecides, DegreeThenLastRegisterDecides, WeightDecides}
use Rattle.term.proofs.Packing.{packing_laws, packed_term, packed_lex}

-- the orders in plain words
pub first_register_decides : FirstRegisterDecides lex
unfolding lex
first_register_decides = lex_in_words

pub degree_then_last_register_decides : DegreeThenLastRegisterDecides reverse
unfolding reverse
degree_then_last_register_decides = reverse_in_words

pub weight_decides : (w : Term) (below : TermOrder) → WeightDecides w below (weight w below)
unfolding weight
weight_decides w below s t = (λ h. h, λ h. h)

-- lex: the packed numbers without their codes
pub lex_compared : (m n : ℕ) (r : Ordering) → m < 2 ^ 64 → n < 2 ^ 64 → r ≡ nat_cmp (m / 65536) (n / 65536) → r ≡ compared lex (term_of m) (term_of n)
unfolding lex
lex_compared m n r h l c =
    compared_by_numbers lex (term_of m) (term_of n) (m / 65536) (n / 65536) r (less m n h l) (λ e. omega (arith, ap (λ t. packed t 0) e, packed_term m h, packed_term n l)) (less n m l h) (ranked _ _ r c)
  where
    less : (m n : ℕ) → m < 2 ^ 64 → n < 2 ^ 64 → ByKeys lex_keys (term_of m) (term_of n) → m / 65536 < n / 65536
    less m n h l b = omega (arith, packed_lex (term_of m) (term_of n) (packing_laws.term_fits m) (packing_laws.term_fits n) b, packed_term m h, packed_term n l)

-- two numbers that fall the way the terms do where they differ, and on a tie what decides then
pub first_then : (order : TermOrder) (key : Term → ℕ) (s t : Term) → (key s < key t → order.before s t) → (key t < key s → order.before t s) → {x y : ℕ} → x ≡ key s → y ≡ key t → {q : Ordering} → q ≡ nat_cmp x y → (r : Ordering) {Tie : Type 0} → (key s ≡ key t → Tie → r ≡ compared order s t) → MatchOrdering q (r ≡ Less) Tie (r ≡ Greater) → r ≡ compared order s t
first_then order key s t less greater {x} {y} p q {q = o} c r {Tie} tie = by o (ranked x y o c)
  where
    by : (o : Ordering) → MatchOrdering o (x < y) (x ≡ y) (y < x) → MatchOrdering o (r ≡ Less) Tie (r ≡ Greater) → r ≡ compared order s t
    by Less h e = e ∙ compared_is order s t Less (less (omega arith))
    by Equal h e = tie (sym p ∙ h ∙ q) e
    by Greater h e = e ∙ compared_is order s t Greater (greater (omega arith))

-- an answer is what comes first, and on a tie of that what comes then
pub then_on_tie : (first tie r : Ordering) → r ≡ ordering_then first tie → MatchOrdering first (r ≡ Less) (r ≡ tie) (r ≡ Greater)
then_on_tie Less tie r h = h
then_on_tie Equal tie r h = h
then_on_tie Greater tie r h = h

-- an answer that is no tie stands for itself, and on a tie what comes then does
pub decided : (q : Ordering) → is_ne q ≡ true → MatchOrdering q (q ≡ Less) ⊥ (q ≡ Greater)
decided Less h = refl
decided Equal h = absurd (false≢true h)
decided Greater h = refl

pub undecided : (q : Ordering) {r tie : Ordering} → is_ne q ≡ false → r ≡ tie → MatchOrdering q (r ≡ Less) (r ≡ tie) (r ≡ Greater)
undecided Less h e = absurd (false≢true (sym h))
undecided Equal h e = e
undecided Greater h e = absurd (false≢true (sym h))

-- reverse: on a tie of the degrees the mirrored terms as numbers, the other way round
mirrored_less : (s t : Term) → Fits s → Fits t → degree s ≡ degree t → ByKeys reverse_keys s t → packed (mirrored t) 0 < packed (mirrored s) 0
mirrored_less s t h l e (inl b) = absurd (omega arith)
mirrored_less s t h l e (inr (p, b)) = packed_lex (mirrored t) (mirrored s) (omega arith) (omega arith) (mirrored_lex s t e b)

pub reverse_tie : (s t : Term) (r : Ordering) → Fits s → Fits t → degree s ≡ degree t → r ≡ nat_cmp (packed (mirrored t) 0) (packed (mirrored s) 0) → r ≡ compared reverse s t
unfolding reverse
reverse_tie s t r h l e c =
    compared_by_numbers reverse s t (packed (mirrored t) 0) (packed (mirrored s) 0) r
    (mirrored_less s t h l e)
    (λ p. ap (λ t. packed (mirrored t) 0) (sym p))
    (mirrored_less t s l h (sym e))
    (ranked _ _ r c)

-- weight: on a tie of the sums the order below
pub weight_tie : (w : Term) (below : TermOrder) (s t : Term) → weighted w s ≡ weighted w t → compared below s t ≡ compared (weight w below) s t
unfolding weight
weight_tie w below s t e = compared_is (weight w below) s t (compared below s t) (onward (λ b. inr (e, b)) (λ p. p) (λ b. inr (sym e, b)) (compared below s t) (compared_ranked below s t))
