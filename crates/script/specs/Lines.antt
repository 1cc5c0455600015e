-- The lines of the input: a newline ends each, and the last may end with the input.
use Rattle.std.specs.Prelude.{◌≡◌, ℕ, ◌+◌, Bool, true, false, List, [], ◌∷◌, ◌++◌, length, take, drop, Option, nat_lt}
use Rattle.std.specs.Io.KnownBytes.{Consumes, IsAtEnd}
use Rattle.std.specs.declared.ops.ControlFlow.{ControlFlow}
use Rattle.std.specs.declared.ops.ControlFlow.TheVariants.{Break, Continue}
use Rattle.script.specs.Words.{length_before}

-- the most bytes of a line, without its newline
abbrev pub max_line : ℕ
max_line = 1000000

abbrev pub newline : ℕ
newline = 10

-- the bytes of the first line of the input, and what follows it and its newline
abbrev pub line_of : List ℕ → List ℕ
line_of xs = take (length_before newline xs) xs

abbrev pub after_line : List ℕ → List ℕ
after_line xs = drop (length_before newline xs + 1) xs

-- what is held of a line: all of it, or one byte more than a line may have
abbrev pub held_part : List ℕ → List ℕ
held_part line = take (max_line + 1) line

abbrev pub is_too_long : List ℕ → Bool
is_too_long held = nat_lt max_line (length held)

-- bytes that have no newline
abbrev pub Lacks : List ℕ → Type 0
Lacks bs = length_before newline bs ≡ length bs

-- a part of a line was read: bytes that are added to what is held, and what ends them
abbrev pub PartRead : ControlFlow Bool (Unit {0}) → (old new : Option (List ℕ)) → (held then : List ℕ) → Type 0
PartRead (Continue u) old new held then = (bs : List ℕ) × Lacks bs × Consumes old new bs × (then ≡ held_part (held ++ bs))
PartRead (Break true) old new held then = (bs : List ℕ) × Lacks bs × Consumes old new (bs ++ newline ∷ []) × (then ≡ held_part (held ++ bs))
PartRead (Break false) old new held then = IsAtEnd old × Consumes old new [] × (then ≡ held)
