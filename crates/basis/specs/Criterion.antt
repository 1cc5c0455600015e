-- A-, G- and S-polynomials, low representations, and the criterion.
use Rattle.std.specs.Prelude.{ℕ, ◌<◌, List, ◌++◌, length}
use Rattle.std.specs.List.{AllByRecursion}
use Rattle.std.specs.Option.{unwrap_or}
use Rattle.ring.specs.CoefficientRing.{CoefficientRing}
use Rattle.ring.specs.declared.Bezout.{Bezout}
use Rattle.order.specs.Term.{Term, unit, product, quotient, lcm}
use Rattle.order.specs.TermOrder.{TermOrder}
use Rattle.basis.specs.Polynomial.{Monomial, Polynomial, Same, scaled}
use Rattle.basis.specs.Combination.{Step, sum_of_steps}
use Rattle.basis.specs.Basis.{Line, line_of, polynomials, DividedByLine, Headed}

-- the lcm of two lines' head terms
abbrev pub head_lcm : Line → Line → Term
head_lcm i k = lcm i.head.term k.head.term

-- the quotient of t by a line's head term: what raises the line to t
abbrev pub term_over_head : Term → Line → Term
term_over_head t line = quotient t line.head.term

module _ (ring : CoefficientRing) where
  -- the gcd of two lines' head coefficients, with its cofactors
  abbrev pub head_gcd : Line → Line → Bezout
  head_gcd i k = ring.gcd i.head.coefficient k.head.coefficient

  -- the quotient of a line's head coefficient by g, zero where there is none
  abbrev pub head_over : ℕ → Line → ℕ
  head_over g line = unwrap_or (ring.quotient line.head.coefficient g) 0

  -- g·T: the gcd of the head coefficients at the lcm of the head terms
  abbrev pub gcd_at_lcm : Line → Line → Monomial
  gcd_at_lcm i k = record { coefficient = (head_gcd i k).g; term = head_lcm i k }

  -- A: the line times the annihilator of its head coefficient
  abbrev pub a_polynomial : Line → Polynomial
  a_polynomial k = scaled ring (ring.annihilator k.head.coefficient) unit k.polynomial

  -- G: both lines raised to the lcm of their head terms, and added so that the gcd comes out
  abbrev pub g_polynomial : Line → Line → Polynomial
  g_polynomial i k =
      scaled ring (head_gcd i k).u (term_over_head (head_lcm i k) i) i.polynomial
      ++ scaled ring (head_gcd i k).v (term_over_head (head_lcm i k) k) k.polynomial

  -- S: both lines raised to the lcm of their head terms, and subtracted so that the heads cancel
  abbrev pub s_polynomial : Line → Line → Polynomial
  s_polynomial i k =
      scaled ring (head_over (head_gcd i k).g k) (term_over_head (head_lcm i k) i) i.polynomial
      ++ scaled ring (ring.negative (head_over (head_gcd i k).g i)) (term_over_head (head_lcm i k) k) k.polynomial

  module _ (order : TermOrder) (lines : List Line) where
    -- a step of a line whose product, the step's term times the line's head term, is before t
    pub record StepBefore (t : Term) (step : Step) : Type 0 where
      pub inside : step.line < length lines
      pub before : order.before (product step.term (line_of lines step.line).head.term) t

    -- a low representation of f: a sum of steps whose products are all before t
    pub record LowRepresentation (t : Term) (f : Polynomial) : Type 0 where
      pub steps : List Step
      pub low : AllByRecursion (StepBefore t) steps
      pub same : Same ring f (sum_of_steps ring (polynomials lines) steps)

    -- the criterion: each line's A-polynomial has a low representation before its head term, each two lines' S-polynomial
    -- one before the lcm of their head terms, and some line's head divides g·T
    pub record Criterion : Type 0 where
      pub heads : (k : ℕ) → k < length lines → Headed ring order (line_of lines k)
      pub annihilated : (k : ℕ) → k < length lines → LowRepresentation (line_of lines k).head.term (a_polynomial (line_of lines k))
      pub subtracted : (i k : ℕ) → i < k → k < length lines → LowRepresentation (head_lcm (line_of lines i) (line_of lines k)) (s_polynomial (line_of lines i) (line_of lines k))
      pub covered : (i k : ℕ) → i < k → k < length lines → DividedByLine ring lines (gcd_at_lcm (line_of lines i) (line_of lines k))
