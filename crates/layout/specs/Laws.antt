-- What reading and writing sheets promise of one another.
use Rattle.std.specs.Prelude.{◌≡◌, ℕ, ◌≤◌, List, length, Some}
use Rattle.std.specs.List.{AllByRecursion}
use Rattle.layout.specs.Line.{Line, Byte, FitsSheet}
use Rattle.layout.specs.Writing.{line_bytes, line_size, sheet_bytes}
use Rattle.layout.specs.Reading.{Sheet, max_lines, decoded}

-- a sheet is read back as it was written
abbrev pub ReadsBack : Type 0
ReadsBack = (kinds : ℕ) (lines : List Line) → length lines ≤ max_lines → AllByRecursion FitsSheet lines → decoded (sheet_bytes kinds lines) ≡ Some (record { kinds = kinds; lines = lines })

-- bytes are the sheet of lines that a sheet can hold
pub record SheetOf (bytes : List ℕ) (s : Sheet) : Type 0 where
  pub written : bytes ≡ sheet_bytes s.kinds s.lines
  pub few : length s.lines ≤ max_lines
  pub fit : AllByRecursion FitsSheet s.lines

-- bytes that are read are the sheet of what was read, so no two byte sequences are read as the same lines
abbrev pub Canonical : Type 0
Canonical = (bytes : List ℕ) (s : Sheet) → AllByRecursion Byte bytes → decoded bytes ≡ Some s → SheetOf bytes s

-- a line has as many bytes as its counts say
abbrev pub LineSizes : Type 0
LineSizes = (l : Line) → length (line_bytes l) ≡ line_size l
