-- The hours of a clock: the integers modulo 12.
use Rattle.std.specs.Prelude.{refl}
use Rattle.std.proofs.lemmas.Bool.{leb-true}
use Rattle.ring.specs.CoefficientRing.{CoefficientRing}
use Rattle.residue.specs.Residues.{residues}

abbrev pub clock : CoefficientRing
clock = residues 12 (leb-true 2 12 refl) (leb-true 12 65536 refl)
