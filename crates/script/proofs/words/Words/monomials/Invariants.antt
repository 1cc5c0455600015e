-- What is listed, with the monomials that are left, is the list; each word makes what is left shorter.
use Rattle.std.proofs.Common.{◌≡◌, ◌≤◌, length}
use Rattle.script.specs.Formulas.{after_part, first_listed, monomials_in}
use Rattle.script.specs.Listed.{listed}
use Rattle.script.proofs.Listings.{listed_with}
use Rattle.script.proofs.words.Words.monomials.Given as goal

abbrev pub invariant-loop-word : goal.invariant-loop-word
invariant-loop-word l =
    (length (listed l.list) ≤ 65) × (listed_with (listed l.list) (monomials_in l.self.rest.now) ≡ first_listed (monomials_in l.initial.self.rest.now))
    × (after_part l.self.rest.now ≡ after_part l.initial.self.rest.now)

abbrev pub decreases-loop-word : goal.decreases-loop-word
decreases-loop-word l = length l.self.rest.now
