-- Polynomials of any size: lists of monomials, known by their coefficients.
use Rattle.std.specs.Prelude.{◌≡◌, ℕ, Bool, cond, ◌&&◌, List, [], ◌∷◌, ◌++◌, ◌==◌}
use Rattle.ring.specs.CoefficientRing.{CoefficientRing}
use Rattle.ring.specs.Within.{within}
use Rattle.order.specs.Term.{Term, unit, product}

-- a coefficient code and a term with exponents of any size
pub record Monomial : Type 0 where
  pub coefficient : ℕ
  pub term : Term

-- a polynomial is a sum of monomials, in any order, with terms that may repeat
abbrev pub Polynomial : Type 0
Polynomial = List Monomial

-- whether two terms are the same: they have the same exponents
abbrev pub same_term : Term → Term → Bool
same_term s t = s.a == t.a && (s.b == t.b && (s.c == t.c && (s.d == t.d && (s.e == t.e && s.f == t.f))))

module _ (ring : CoefficientRing) where
  -- what a monomial adds at t: its coefficient if t is its term, else zero; a number that is no code counts as zero
  abbrev pub share : Monomial → Term → ℕ
  share m t = cond (same_term m.term t) (within ring.size m.coefficient m.coefficient 0) 0

  -- the coefficient at t: the ring's sum of what the monomials add there
  abbrev pub coefficient : Polynomial → Term → ℕ
  coefficient [] t = 0
  coefficient (m ∷ f) t = ring.sum (share m t) (coefficient f t)

  -- two polynomials are the same when their coefficients are, at every term
  abbrev pub Same : Polynomial → Polynomial → Type 0
  Same f g = (t : Term) → coefficient f t ≡ coefficient g t

  -- a code times a term times f
  abbrev pub scaled : ℕ → Term → Polynomial → Polynomial
  scaled c s [] = []
  scaled c s (m ∷ f) = record { coefficient = ring.product c m.coefficient; term = product s m.term } ∷ scaled c s f

  -- f times g
  abbrev pub multiplied : Polynomial → Polynomial → Polynomial
  multiplied [] g = []
  multiplied (m ∷ f) g = scaled m.coefficient m.term g ++ multiplied f g

  -- f − g
  abbrev pub difference : Polynomial → Polynomial → Polynomial
  difference f g = f ++ scaled (ring.negative ring.one) unit g
