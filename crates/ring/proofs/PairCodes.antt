-- The codes of a pair of rings: a code is its two sides.
use Rattle.std.proofs.Common.{◌≡◌, ℕ, ◌<◌, ◌≤◌, sym, ◌∙◌, ap₂, arith}
use native.Mathlib.Nat.{zero-div, zero-mod}
use lib.Arith.{digits_lt}
use Rattle.std.proofs.lemmas.Nat.{div-add-mod', div-mul-add, mod-mul-add, div_below, mod_below, mul-le}
use Rattle.ring.specs.CoefficientRing.{CoefficientRing}
use Rattle.ring.specs.Pair.{pair_size, left, right, joined}

module _ (L R : CoefficientRing) where
  size_above_zero : 0 < R.size
  size_above_zero = omega (arith, R.size_at_least)

  pub left_of_joined : (x y : ℕ) → y < R.size → left L R (joined L R x y) ≡ x
  left_of_joined x y h = div-mul-add x R.size y h

  pub right_of_joined : (x y : ℕ) → y < R.size → right L R (joined L R x y) ≡ y
  right_of_joined x y h = mod-mul-add x R.size y h

  pub left_of_zero : left L R 0 ≡ 0
  left_of_zero = zero-div R.size

  pub right_of_zero : right L R 0 ≡ 0
  right_of_zero = zero-mod R.size

  pub joined_below : (x y : ℕ) → x < L.size → y < R.size → joined L R x y < pair_size L R
  joined_below x y hx hy = digits_lt hx hy

  pub left_below : (a : ℕ) → a < pair_size L R → left L R a < L.size
  left_below a h = div_below a R.size L.size size_above_zero h

  pub right_below : (a : ℕ) → right L R a < R.size
  right_below a = mod_below a R.size size_above_zero

  pub joined_of_sides : (a : ℕ) → joined L R (left L R a) (right L R a) ≡ a
  joined_of_sides a = div-add-mod' a R.size

  pub same_sides : (a b : ℕ) → left L R a ≡ left L R b → right L R a ≡ right L R b → a ≡ b
  same_sides a b p q = sym (joined_of_sides a) ∙ ap₂ (joined L R) p q ∙ joined_of_sides b

  -- sides that are not above those of a join to a code that is not above a
  pub joined_not_above : (x y a : ℕ) → x ≤ left L R a → y ≤ right L R a → joined L R x y ≤ a
  joined_not_above x y a hx hy =
      omega (arith, joined_of_sides a, mul-le x R.size (left L R a) R.size hx (omega arith))

  pub pair_size_at_least : 2 ≤ pair_size L R
  pair_size_at_least = omega (arith, mul-le 2 1 L.size R.size L.size_at_least (omega (arith, R.size_at_least)))

  pub zero_below : 0 < pair_size L R
  zero_below = omega (arith, pair_size_at_least)
