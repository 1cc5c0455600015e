-- The number so far, read on, is the number of the word.
use Rattle.std.proofs.Common.{◌≡◌, ◌^◌, ◌<◌, drop}
use Rattle.script.specs.Hexadecimal.{packed_after}
use Rattle.script.proofs.hexadecimal.packed.Given as goal

abbrev pub invariant-loop-byte : goal.invariant-loop-byte
invariant-loop-byte l =
    (l.bits < 16 ^ l.byte-index) × (packed_after l.bits (drop l.byte-index l.word) ≡ packed_after 0 l.word)
