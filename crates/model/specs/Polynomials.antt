-- What lists of packed monomials and packed steps stand for among polynomials of any size.
use Rattle.std.specs.Prelude.{List, [], ◌∷◌, map}
use Rattle.order.specs.Term.{unit}
use Rattle.term.specs.declared.monomial.Monomial.{Monomial}
use Rattle.term.specs.declared.monomial.Step.{Step}
use Rattle.formula.specs.Formula.{code, term}
use Rattle.basis.specs.Polynomial.{Monomial as PlainMonomial, Polynomial}
use Rattle.basis.specs.Combination.{Step as PlainStep}
use Rattle.basis.specs.Basis.{Line as PlainLine}

-- a packed monomial: its coefficient and its term
abbrev pub monomial_of : Monomial → PlainMonomial
monomial_of m = record { coefficient = code m; term = term m }

-- a list of packed monomials: their sum
abbrev pub polynomial_of : List Monomial → Polynomial
polynomial_of f = map monomial_of f

-- the first monomial; zero at the empty product where there is none
abbrev pub head_of : List Monomial → PlainMonomial
head_of [] = record { coefficient = 0; term = unit }
head_of (m ∷ f) = monomial_of m

-- a formula with its head
abbrev pub line_of : List Monomial → PlainLine
line_of f = record { polynomial = polynomial_of f; head = head_of f }

-- a packed step: a code times a term times the line of a number
abbrev pub step_of : Step → PlainStep
step_of s = record { code = code s.factor; term = term s.factor; line = s.line }
