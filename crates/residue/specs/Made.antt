-- When a residue ring is made: for n from 2 to 65,536.
use Rattle.std.specs.Prelude.{ℕ, cond, ◌&&◌, Ok, Err, Result, nat_le}
use Rattle.refusal.specs.declared.Refusal.{Refusal}
use Rattle.refusal.specs.declared.Refusal.TheVariants.{RingSize}
use Rattle.ring.specs.CoefficientRing.{smallest_size, largest_size}
use Rattle.residue.specs.declared.modulus.ResidueRing.{ResidueRing}

-- the modulus that is granted, or the refusal
abbrev pub granted : ℕ → Result ℕ Refusal
granted n = cond (nat_le smallest_size n && nat_le n largest_size) (Ok n) (Err RingSize)

-- the modulus of the ring that was made
abbrev pub modulus_of : Result ResidueRing Refusal → Result ℕ Refusal
modulus_of (Ok ring) = Ok ring.n
modulus_of (Err refusal) = Err refusal
