-- The polynomial of a list of monomials, which is known by its coefficients.
use Rattle.std.specs.Prelude.{◌≡◌, ℕ, ◌^◌, ◌<◌, Bool, cond, ◌&&◌, List, [], ◌∷◌, ◌==◌}
use Rattle.std.specs.List.{AllByRecursion}
use Rattle.ring.specs.CoefficientRing.{CoefficientRing}
use Rattle.order.specs.Term.{Term, divides, quotient}
use Rattle.order.specs.TermOrder.{TermOrder}
use Rattle.term.specs.declared.monomial.Monomial.{Monomial}
use Rattle.formula.specs.Formula.{code, term}

-- whether two terms are the same
unfoldable pub same : Term → Term → Bool
same s t = s.a == t.a && (s.b == t.b && (s.c == t.c && (s.d == t.d && (s.e == t.e && s.f == t.f))))

-- the code of a monomial at its own term, and 0 at every other
abbrev pub code_at : Monomial → Term → ℕ
code_at m t = cond (same (term m) t) (code m) 0

-- the coefficient of a list at a term: the sum of the codes of its monomials with that term
abbrev pub coefficient : CoefficientRing → List Monomial → Term → ℕ
coefficient ring [] t = 0
coefficient ring (m ∷ f) t = ring.sum (code_at m t) (coefficient ring f t)

-- the coefficient at a term of a monomial times a list: where its term divides, its code times the coefficient at the quotient
abbrev pub multiple_coefficient : CoefficientRing → Monomial → List Monomial → Term → ℕ
multiple_coefficient ring s f t = cond (divides (term s) t) (ring.product (code s) (coefficient ring f (quotient t (term s)))) 0

-- two lists are the same polynomial: they have the same coefficient at every term
abbrev pub SamePolynomial : CoefficientRing → List Monomial → List Monomial → Type 0
SamePolynomial ring f g = (t : Term) → coefficient ring f t ≡ coefficient ring g t

-- m is the head of a polynomial: its code is the coefficient at its term, and at every term after that the coefficient is 0
pub record Head (ring : CoefficientRing) (order : TermOrder) (m : Monomial) (f : List Monomial) : Type 0 where
  pub at_its_term : coefficient ring f (term m) ≡ code m
  pub zero_after : (t : Term) → order.before (term m) t → coefficient ring f t ≡ 0

-- each monomial is a number of 64 bits
abbrev pub Packed : List Monomial → Type 0
Packed f = AllByRecursion (λ m. m.bits < 2 ^ 64) f
