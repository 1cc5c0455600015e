-- Sheets worked out by hand: over 6 codes the relation 2a² + 3a + 1 and the lines 3a + 3 and a² + 3a + 2, and sheets at the limits.
use Rattle.std.specs.Prelude.{◌≡◌, ℕ, ◌+◌, ◌*◌, List, [], ◌∷◌, ◌++◌, length, take, replicate, Some, None, Option}
use Rattle.std.specs.List.{flat_map}
use Rattle.term.specs.declared.monomial.Monomial.{Monomial}
use Rattle.term.specs.declared.monomial.Step.{Step}
use Rattle.layout.specs.Line.{Line}
use Rattle.layout.specs.Writing.{kinds_byte, number_bytes, sheet_bytes}
use Rattle.layout.specs.Reading.{and_then, decoded, read_line}

abbrev pub packed : ℕ → Monomial
packed m = record { bits = m }

abbrev pub times_line : ℕ → ℕ → Step
times_line m k = record { factor = packed m; line = k }

-- 2a² + 3a + 1, a relation; 3a + 3, which is 3 times line 0; a² + 3a + 2, which is 2 times line 0 plus a times line 1
abbrev pub three_lines : List Line
three_lines =
    record { formula = packed 0x0200_0000_0000_0002 ∷ (packed 0x0100_0000_0000_0003 ∷ (packed 0x0000_0000_0000_0001 ∷ [])); steps = [] }
    ∷ (record { formula = packed 0x0100_0000_0000_0003 ∷ (packed 0x0000_0000_0000_0003 ∷ []); steps = times_line 0x0000_0000_0000_0003 0 ∷ [] }
    ∷ (record {
      formula = packed 0x0200_0000_0000_0001 ∷ (packed 0x0100_0000_0000_0003 ∷ (packed 0x0000_0000_0000_0002 ∷ []));
      steps = times_line 0x0000_0000_0000_0002 0 ∷ (times_line 0x0100_0000_0000_0001 1 ∷ []);
    }
    ∷ []))

-- the residue ring and lex
abbrev pub kinds : ℕ
kinds = kinds_byte 1 1

-- the byte of the kinds and the number of lines, then the three lines
abbrev pub three_lines_sheet : List ℕ
three_lines_sheet =
    (0x11 ∷ 0x03 ∷ [])
    ++ (0x03 ∷ [])
    ++ (0x02 ∷ 0x00 ∷ 0x00 ∷ 0x00 ∷ 0x00 ∷ 0x00 ∷ 0x00 ∷ 0x02 ∷ [])
    ++ (0x01 ∷ 0x00 ∷ 0x00 ∷ 0x00 ∷ 0x00 ∷ 0x00 ∷ 0x00 ∷ 0x03 ∷ [])
    ++ (0x00 ∷ 0x00 ∷ 0x00 ∷ 0x00 ∷ 0x00 ∷ 0x00 ∷ 0x00 ∷ 0x01 ∷ [])
    ++ (0x82 ∷ 0x01 ∷ [])
    ++ (0x01 ∷ 0x00 ∷ 0x00 ∷ 0x00 ∷ 0x00 ∷ 0x00 ∷ 0x00 ∷ 0x03 ∷ [])
    ++ (0x00 ∷ 0x00 ∷ 0x00 ∷ 0x00 ∷ 0x00 ∷ 0x00 ∷ 0x00 ∷ 0x03 ∷ [])
    ++ (0x00 ∷ 0x00 ∷ 0x00 ∷ 0x00 ∷ 0x00 ∷ 0x00 ∷ 0x00 ∷ 0x03 ∷ 0x00 ∷ [])
    ++ (0x83 ∷ 0x02 ∷ [])
    ++ (0x02 ∷ 0x00 ∷ 0x00 ∷ 0x00 ∷ 0x00 ∷ 0x00 ∷ 0x00 ∷ 0x01 ∷ [])
    ++ (0x01 ∷ 0x00 ∷ 0x00 ∷ 0x00 ∷ 0x00 ∷ 0x00 ∷ 0x00 ∷ 0x03 ∷ [])
    ++ (0x00 ∷ 0x00 ∷ 0x00 ∷ 0x00 ∷ 0x00 ∷ 0x00 ∷ 0x00 ∷ 0x02 ∷ [])
    ++ (0x00 ∷ 0x00 ∷ 0x00 ∷ 0x00 ∷ 0x00 ∷ 0x00 ∷ 0x00 ∷ 0x02 ∷ 0x00 ∷ [])
    ++ (0x01 ∷ 0x00 ∷ 0x00 ∷ 0x00 ∷ 0x00 ∷ 0x00 ∷ 0x00 ∷ 0x01 ∷ 0x01 ∷ [])

-- its sheet, byte for byte, and that it is read back; the kinds of a pair ring and a weight order; a number with eight different bytes
pub record WorkedSheet : Type 0 where
  pub bytes : length (sheet_bytes kinds three_lines) ≡ 98
  pub begins : take 3 (sheet_bytes kinds three_lines) ≡ 0x11 ∷ (0x03 ∷ (0x03 ∷ []))
  pub written : sheet_bytes kinds three_lines ≡ three_lines_sheet
  pub read_back : decoded (sheet_bytes kinds three_lines) ≡ Some (record { kinds = kinds; lines = three_lines })
  pub pair_and_weight : kinds_byte 2 3 ≡ 0x23
  pub most_significant_first : number_bytes 0x0102_0304_0506_0708 ≡ 1 ∷ (2 ∷ (3 ∷ (4 ∷ (5 ∷ (6 ∷ (7 ∷ (8 ∷ [])))))))

-- bytes 0
abbrev pub zeros : ℕ → List ℕ
zeros n = replicate n 0

-- so many lines of one monomial, as bytes
abbrev pub short_lines : ℕ → List ℕ
short_lines n = flat_map (λ first. first ∷ zeros 8) (replicate n 1)

-- the bytes that a line leaves
abbrev pub after_line : List ℕ → Option (List ℕ)
after_line bytes = and_then (read_line bytes) (λ r. Some r.rest)

-- the number of lines that a sheet is read as
abbrev pub line_count : List ℕ → Option ℕ
line_count bytes = and_then (decoded bytes) (λ s. Some (length s.lines))

-- which counts are read, and which bytes are no line or no sheet
pub record SheetLimits : Type 0 where
  pub no_monomial : read_line (0 ∷ zeros 8) ≡ None
  pub most_monomials : after_line (64 ∷ zeros (8 * 64 + 1)) ≡ Some (zeros 1)
  pub too_many_monomials : read_line (65 ∷ zeros (8 * 65)) ≡ None
  pub no_step : read_line (129 ∷ (0 ∷ zeros 8)) ≡ None
  pub most_steps : after_line (129 ∷ (64 ∷ zeros (8 + 9 * 64 + 1))) ≡ Some (zeros 1)
  pub too_many_steps : read_line (129 ∷ (65 ∷ zeros (8 + 9 * 65))) ≡ None
  pub cut_short : read_line (1 ∷ zeros 7) ≡ None
  pub one_byte : decoded (0x11 ∷ []) ≡ None
  pub no_line : line_count (0x11 ∷ (0 ∷ [])) ≡ Some 0
  pub most_lines : line_count (0x11 ∷ (64 ∷ short_lines 64)) ≡ Some 64
  pub too_many_lines : decoded (0x11 ∷ (65 ∷ short_lines 65)) ≡ None
  pub left_over : decoded (0x11 ∷ (1 ∷ short_lines 2)) ≡ None
