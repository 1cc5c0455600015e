-- What the ring's operations answer.
use Rattle.ring.specs.CoefficientRing.{CoefficientRing}
use Rattle.script.specs.declared.operation.Operation.{Operation}
use Rattle.script.specs.declared.operation.Operation.TheVariants.{One, Sum, Negative, Product, Annihilator, Residue, Quotient, Gcd}
use Rattle.answer.specs.declared.Answer.{Answer}
use Rattle.answer.specs.declared.Answer.TheVariants as answer

-- what an operation answers in a ring
abbrev pub operated : CoefficientRing → Operation → Answer
operated ring One = answer.Code ring.one
operated ring (Sum a b) = answer.Code (ring.sum a b)
operated ring (Negative a) = answer.Code (ring.negative a)
operated ring (Product a b) = answer.Code (ring.product a b)
operated ring (Annihilator a) = answer.Code (ring.annihilator a)
operated ring (Residue a b) = answer.Code (ring.residue a b)
operated ring (Quotient a b) = answer.Quotient (ring.quotient a b)
operated ring (Gcd a b) = answer.Gcd (ring.gcd a b)
