-- The three lines over six codes, by computing coefficients at the few terms that occur.
use Rattle.std.proofs.Common.{◌≡◌, ℕ, zero, suc, ◌<◌, ◌≤◌, Bool, true, ◌&&◌, eqb, ◌⊎◌, List, [], ◌∷◌, sym, refl, ap, ◌∙◌, subst, inl, inr, arith, lit<}
use Rattle.std.proofs.lemmas.Bool.{and_parts, eqb-true}
use Rattle.std.specs.List.{AllByRecursion}
use Rattle.order.specs.Term.{Term, unit, Divides}
use Rattle.order.proofs.Terms.{division_laws}
use Rattle.term.specs.Orders.{lex}
use Rattle.modular.specs.Least.{least, greatest}
use Rattle.modular.specs.Divisor.{common_divisor}
use Rattle.basis.specs.Polynomial.{Monomial, Polynomial, coefficient, Same}
use Rattle.basis.specs.Combination.{Step, numbered, sum_of_steps, Combination, EachCombination}
use Rattle.basis.specs.Basis.{Line, Headed, line_of, polynomials, DividedByLine, HeadDivided, StrongBasis}
use Rattle.basis.specs.Criterion.{Criterion, LowRepresentation, a_polynomial, s_polynomial, gcd_at_lcm, head_lcm}
use Rattle.basis.proofs.Heads.{at_terms, head_unique}
use Rattle.basis.proofs.Combinations.{combination_of_steps, lines_stand_for_relations}
use Rattle.basis.proofs.Criteria.{criterion_makes_basis}
use Rattle.basis_tests.specs.SixCodes.{six, power, first, second, third, ThreeLines, WeakRepresentation, ALineIsLost}

-- whether f and g have the same coefficient at each of some terms
abbrev pub agree_at : (f g ms : Polynomial) → Bool
agree_at f g [] = true
agree_at f g (m ∷ ms) = eqb (coefficient six f m.term) (coefficient six g m.term) && agree_at f g ms

agreed : (f g ms : Polynomial) → agree_at f g ms ≡ true → AllByRecursion (λ m. coefficient six f m.term ≡ coefficient six g m.term) ms
agreed f g [] h = tt
agreed f g (m ∷ ms) h =
    let e = and_parts (eqb (coefficient six f m.term) (coefficient six g m.term)) (agree_at f g ms) h in
    (eqb-true (coefficient six f m.term) (coefficient six g m.term) e.0, agreed f g ms e.1)

-- two polynomials that agree at the terms of both are the same
pub same_if_agreed : (f g : Polynomial) → agree_at f g f ≡ true → agree_at f g g ≡ true → Same six f g
same_if_agreed f g hf hg t = which (at_terms six (λ t. coefficient six f t ≡ coefficient six g t) f (agreed f g f hf) t) (at_terms six (λ t. coefficient six f t ≡ coefficient six g t) g (agreed f g g hg) t)
  where
    which : (coefficient six f t ≡ coefficient six g t) ⊎ (coefficient six f t ≡ 0) → (coefficient six f t ≡ coefficient six g t) ⊎ (coefficient six g t ≡ 0) → coefficient six f t ≡ coefficient six g t
    which (inl e) _ = e
    which (inr z) (inl e) = e
    which (inr z) (inr w) = z ∙ sym w

-- a smaller power is before a greater
before_power : (m n : ℕ) → m < n → lex.before (power m) (power n)
unfolding lex
before_power m n h = inl h

-- a polynomial with no term after its first has its head there
headed : (line : Line) → coefficient six line.polynomial line.head.term ≡ line.head.coefficient → (line.head.coefficient ≡ 0 → ⊥)
    → AllByRecursion (λ m. (m.term ≡ line.head.term) ⊎ lex.before m.term line.head.term) line.polynomial → Headed six lex line
headed line e n low = record { there = e; not_zero = n; none_after = λ t l. which t l (at_terms six (λ t. (t ≡ line.head.term) ⊎ lex.before t line.head.term) line.polynomial low t) }
  where
    which : (t : Term) → lex.before line.head.term t → ((t ≡ line.head.term) ⊎ lex.before t line.head.term) ⊎ (coefficient six line.polynomial t ≡ 0) → coefficient six line.polynomial t ≡ 0
    which t l (inl (inl e)) = absurd (lex.irreflexive t (subst (λ s. lex.before s t) (sym e) l))
    which t l (inl (inr b)) = absurd (lex.irreflexive t (lex.transitive t line.head.term t b l))
    which t l (inr z) = z

not_zero : (n : ℕ) → 0 < n → n ≡ 0 → ⊥
not_zero n h e = omega arith

first_headed : Headed six lex first
first_headed = headed first refl (not_zero 2 (lit< tt)) (inl refl, (inr (before_power 1 2 (lit< tt)), (inr (before_power 0 2 (lit< tt)), tt)))

second_headed : Headed six lex second
second_headed = headed second refl (not_zero 3 (lit< tt)) (inl refl, (inr (before_power 0 1 (lit< tt)), tt))

third_headed : Headed six lex third
third_headed = headed third refl (not_zero 1 (lit< tt)) (inl refl, (inr (before_power 1 2 (lit< tt)), (inr (before_power 0 2 (lit< tt)), tt)))

abbrev three : List Line
three = first ∷ second ∷ third ∷ []

-- one time the second line
abbrev the_second : List Step
the_second = record { code = 1; term = unit; line = 1 } ∷ []

low_second : (f : Polynomial) → Same six f (sum_of_steps six (polynomials (first ∷ second ∷ third ∷ [])) the_second) → LowRepresentation six lex (first ∷ second ∷ third ∷ []) (power 2) f
low_second f same = record { steps = the_second; low = (record { inside = lit< tt; before = before_power 1 2 (lit< tt) }, tt); same = same }

low_nothing : (t : Term) (f : Polynomial) → Same six f [] → LowRepresentation six lex (first ∷ second ∷ third ∷ []) t f
low_nothing t f same = record { steps = []; low = tt; same = same }

a_first : LowRepresentation six lex (first ∷ second ∷ third ∷ []) (power 2) (a_polynomial six first)
unfolding common_divisor greatest
a_first = low_second (a_polynomial six first) (same_if_agreed (a_polynomial six first) (sum_of_steps six (polynomials three) the_second) refl refl)

a_second : LowRepresentation six lex (first ∷ second ∷ third ∷ []) (power 1) (a_polynomial six second)
unfolding common_divisor greatest
a_second = low_nothing (power 1) (a_polynomial six second) (same_if_agreed (a_polynomial six second) [] refl refl)

a_third : LowRepresentation six lex (first ∷ second ∷ third ∷ []) (power 2) (a_polynomial six third)
unfolding common_divisor greatest
a_third = low_nothing (power 2) (a_polynomial six third) (same_if_agreed (a_polynomial six third) [] refl refl)

s_first_second : LowRepresentation six lex (first ∷ second ∷ third ∷ []) (power 2) (s_polynomial six first second)
unfolding common_divisor greatest least
s_first_second = low_second (s_polynomial six first second) (same_if_agreed (s_polynomial six first second) (sum_of_steps six (polynomials three) the_second) refl refl)

s_first_third : LowRepresentation six lex (first ∷ second ∷ third ∷ []) (power 2) (s_polynomial six first third)
unfolding common_divisor greatest least
s_first_third = low_second (s_polynomial six first third) (same_if_agreed (s_polynomial six first third) (sum_of_steps six (polynomials three) the_second) refl refl)

s_second_third : LowRepresentation six lex (first ∷ second ∷ third ∷ []) (power 2) (s_polynomial six second third)
unfolding common_divisor greatest least
s_second_third = low_nothing (power 2) (s_polynomial six second third) (same_if_agreed (s_polynomial six second third) [] refl refl)

-- where the heads of two lines meet, the third line's head divides
by_third : (m : Monomial) → m.coefficient ≡ 1 → m.term ≡ power 2 → DividedByLine six (first ∷ second ∷ third ∷ []) m
by_third m p q = record {
  line = 2;
  inside = lit< tt;
  divides = record { term = subst (Divides (power 2)) (sym q) ((division_laws.decided (power 2) (power 2)).0 refl); coefficient = (1, lit< tt, sym p) };
}

covers_first_second : DividedByLine six (first ∷ second ∷ third ∷ []) (gcd_at_lcm six first second)
unfolding common_divisor greatest
covers_first_second = by_third (gcd_at_lcm six first second) refl refl

covers_first_third : DividedByLine six (first ∷ second ∷ third ∷ []) (gcd_at_lcm six first third)
unfolding common_divisor greatest
covers_first_third = by_third (gcd_at_lcm six first third) refl refl

covers_second_third : DividedByLine six (first ∷ second ∷ third ∷ []) (gcd_at_lcm six second third)
unfolding common_divisor greatest
covers_second_third = by_third (gcd_at_lcm six second third) refl refl

-- a property of the numbers below 3, and of two of them in turn
of_three : (P : ℕ → Type 0) → P 0 → P 1 → P 2 → (k : ℕ) → k < 3 → P k
of_three P p q r zero h = p
of_three P p q r (suc zero) h = q
of_three P p q r (suc (suc zero)) h = r
of_three P p q r (suc (suc (suc k))) h = absurd (omega arith)

of_two_in_turn : (P : ℕ → ℕ → Type 0) → P 0 1 → P 0 2 → P 1 2 → (i k : ℕ) → i < k → k < 3 → P i k
of_two_in_turn P p q r i k h l = of_three (λ k. i < k → P i k) (λ h. absurd (omega arith)) at_one at_two k l h
  where
    at_one : i < 1 → P i 1
    at_one h = subst (λ j. P j 1) (omega arith) p

    at_two : i < 2 → P i 2
    at_two h = of_three (λ j. j < 2 → P j 2) (λ _. q) (λ _. r) (λ h. absurd (omega arith)) i (omega arith) h

met : Criterion six lex (first ∷ second ∷ third ∷ [])
met = record {
  heads = of_three (λ k. Headed six lex (line_of three k)) first_headed second_headed third_headed;
  annihilated = of_three (λ k. LowRepresentation six lex three (line_of three k).head.term (a_polynomial six (line_of three k))) a_first a_second a_third;
  subtracted = of_two_in_turn (λ i k. LowRepresentation six lex three (head_lcm (line_of three i) (line_of three k)) (s_polynomial six (line_of three i) (line_of three k))) s_first_second s_first_third s_second_third;
  covered = of_two_in_turn (λ i k. DividedByLine six three (gcd_at_lcm six (line_of three i) (line_of three k))) covers_first_second covers_first_third covers_second_third;
}

-- steps of the line with number 0
abbrev of_line_0 : ℕ → Term → Step
of_line_0 c s = record { code = c; term = s; line = 0 }

-- the lines are combinations of the first: the second is three times it, the third 2 + 3a times it
from_first : EachCombination six (first.polynomial ∷ []) (polynomials (first ∷ second ∷ third ∷ []))
from_first = of_three (λ k. Combination six (first.polynomial ∷ []) (numbered (polynomials three) k))
    (from first.polynomial (of_line_0 1 unit ∷ []) refl refl) (from second.polynomial (of_line_0 3 unit ∷ []) refl refl) (from third.polynomial (of_line_0 2 unit ∷ of_line_0 3 (power 1) ∷ []) refl refl)
  where
    from : (f : Polynomial) (σ : List Step) → agree_at f (sum_of_steps six (first.polynomial ∷ []) σ) f ≡ true → agree_at f (sum_of_steps six (first.polynomial ∷ []) σ) (sum_of_steps six (first.polynomial ∷ []) σ) ≡ true → Combination six (first.polynomial ∷ []) f
    from f σ p q = combination_of_steps six (first.polynomial ∷ []) f σ (same_if_agreed f (sum_of_steps six (first.polynomial ∷ []) σ) p q)

to_first : EachCombination six (polynomials (first ∷ second ∷ third ∷ [])) (first.polynomial ∷ [])
to_first zero h = combination_of_steps six (polynomials three) first.polynomial (of_line_0 1 unit ∷ []) (same_if_agreed first.polynomial (sum_of_steps six (polynomials three) (of_line_0 1 unit ∷ [])) refl refl)
to_first (suc k) h = absurd (omega arith)

pub three_lines : ThreeLines
three_lines = record {
  criterion = met;
  strong_basis = criterion_makes_basis six lex three met;
  of_the_first = lines_stand_for_relations six (polynomials three) (first.polynomial ∷ []) from_first to_first;
}

-- no line of the first alone divides a monomial with term a
too_large : (m : Monomial) → m.term ≡ power 1 → DividedByLine six (first ∷ []) m → ⊥
too_large m e d = at d.line d.inside d.divides.term
  where
    at : (k : ℕ) → k < 1 → Divides (line_of (first ∷ []) k).head.term m.term → ⊥
    at zero h l = let q : 2 ≤ m.term.a = l.a in let p : m.term.a ≡ 1 = ap (λ t. t.a) e in omega arith
    at (suc k) h l = absurd (omega arith)

lost : StrongBasis six lex (first ∷ []) → ⊥
lost basis =
    let w : HeadDivided six lex (first ∷ []) second.polynomial = basis second.polynomial (from_first 1 (lit< tt)) (power 1) (not_zero 3 (lit< tt)) in
    too_large w.head (ap (λ m. m.term) (head_unique six lex second.polynomial w.head second.head w.is_head second_headed)) w.divided

-- three times the line, with its product at the head term itself
weakly_annihilated : WeakRepresentation (first ∷ []) (power 2) (a_polynomial six first)
unfolding common_divisor greatest
weakly_annihilated = record {
  steps = of_line_0 3 unit ∷ [];
  weak = (record { inside = lit< tt; not_after = inr refl }, tt);
  same = same_if_agreed (a_polynomial six first) (sum_of_steps six (polynomials (first ∷ [])) (of_line_0 3 unit ∷ [])) refl refl;
}

pub a_line_is_lost : ALineIsLost
a_line_is_lost = record {
  criterion_without_a = record { heads = λ k h. only (λ k. Headed six lex (line_of (first ∷ []) k)) first_headed k h; subtracted = λ i k h l. absurd (omega arith); covered = λ i k h l. absurd (omega arith) };
  weakly_annihilated = weakly_annihilated;
  no_strong_basis = lost;
}
  where
    only : (P : ℕ → Type 0) → P 0 → (k : ℕ) → k < 1 → P k
    only P p zero h = p
    only P p (suc k) h = absurd (omega arith)
