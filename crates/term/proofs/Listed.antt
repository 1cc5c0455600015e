-- Terms as lists of exponents: what is summed and tested register by register.
use Rattle.std.proofs.Common.{◌≡◌, ℕ, ◌+◌, ◌*◌, ◌^◌, ◌<◌, ◌≤◌, Bool, leb, sum_by, ◌∙◌, Iter, arith}
use Rattle.std.proofs.Math.Bool.{and-true}
use Rattle.std.proofs.Math.Nat.{mul-le-mul}
use Rattle.std.proofs.iter.Yields.{fronts}
use Rattle.std.proofs.lemmas.Iterator.{YieldsList, YieldsList-from_slice, YieldsList-from_zip, zips}
use Rattle.std.specs.declared.iter.Zip.{Zip}
use Rattle.std.specs.Iterator.Adapters.{zip_first, zip_second}
use Rattle.std.specs.List.{list_all, zip}
use Rattle.std.specs.Slice.Iter.{iter_rest}
use Rattle.order.specs.Term.{Term, exponents, product, divides, weighted}
use Rattle.term.specs.Packed.{Fits, fits}

-- the exponents of two terms, side by side
pub pairs : (s t : Term) {z : Zip (Iter ℕ) (Iter ℕ)} → iter_rest (zip_first z) ≡ exponents s → iter_rest (zip_second z) ≡ exponents t → YieldsList (zips fronts fronts) (λ p. (p.0.now, p.1.now)) z (zip (exponents s) (exponents t))
pairs s t e f = YieldsList-from_zip (YieldsList-from_slice (exponents s) e) (YieldsList-from_slice (exponents t) f)

-- a term divides another exactly when no exponent is larger
pub divides_listed : (s t : Term) {r : Bool} → r ≡ list_all (λ p. leb p.0 p.1) (zip (exponents s) (exponents t)) → r ≡ divides s t
divides_listed s t h = h ∙ simp and-true

-- a product fits exactly when no two exponents add up to more than 255
pub fits_listed : (s t : Term) {r : Bool} → r ≡ list_all (λ p. leb (p.0 + p.1) 255) (zip (exponents s) (exponents t)) → r ≡ fits (product s t)
fits_listed s t h = h ∙ simp and-true

-- a weight times an exponent
abbrev pub worth : ℕ × ℕ → ℕ
worth p = p.0 * p.1

-- the weighted sum goes over the pairs of a weight and an exponent
pub weighted_listed : (w t : Term) {n : ℕ} → n ≡ sum_by worth (zip (exponents w) (exponents t)) → n ≡ weighted w t
weighted_listed w t h = omega arith

-- with exponents and weights up to 255 it stays far below the largest number of 64 bits
small : (x y : ℕ) → x ≤ 255 → y ≤ 255 → x * y ≤ 65025
small x y h l = omega (arith, mul-le-mul h l)

pub weighted_small : (w t : Term) → Fits w → Fits t → sum_by worth (zip (exponents w) (exponents t)) < 2 ^ 64
weighted_small w t h l = omega (arith, small w.a t.a h.a l.a, small w.b t.b h.b l.b, small w.c t.c h.c l.c, small w.d t.d h.d l.d, small w.e t.e h.e l.e, small w.f t.f h.f l.f)
