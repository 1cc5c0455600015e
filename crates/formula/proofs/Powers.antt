-- The powers of a term, letter by letter up to f: as many letters are left as exponents.
use Rattle.std.proofs.Common.{◌≡◌, ℕ, ◌+◌, ◌-◌, ◌<◌, Bool, true, false, ◌||◌, ltb, List, [], ◌∷◌, ◌++◌, length, refl, ap, sym, ap₂, Some, ◌⊎◌, ⊎_elim, ◌∙◌, arith}
use Rattle.std.specs.Char.{scalar_index}
use Rattle.std.specs.Range.{range_inclusive_end, range_inclusive_exhausted, range_inclusive_left, range_inclusive_len, range_inclusive_start, range_inclusive_steps}
use Rattle.std.specs.declared.ops.RangeInclusive.{RangeInclusive}
use Rattle.formula.specs.Text.{power_text, powers_text}

-- how far a letter is before another, and whether it is the next one
abbrev pub gap : ℕ → ℕ → ℕ
gap x y = scalar_index y - scalar_index x

abbrev pub Next : ℕ → ℕ → Type 0
Next x y = scalar_index y ≡ scalar_index x + 1

abbrev pub Matched : RangeInclusive ℕ → List ℕ → Type 0
Matched s ns = (range_inclusive_end s ≡ 102) × (range_inclusive_left gap s ≡ length ns)

unspent : (a b : ℕ) (spent : Bool) → 0 < range_inclusive_len gap a b spent → spent ≡ false
unspent a b true h = absurd (omega arith)
unspent a b false h = refl

not_last : (a b : ℕ) (spent : Bool) → b ≡ 102 → 1 < range_inclusive_len gap a b spent → a < 102
not_last a b true e h = absurd (omega arith)
not_last a b false e h = omega (arith, h)

next_letter : (a b : ℕ) → a < 102 → Next a b → b ≡ a + 1
next_letter a b h e = omega (arith, e)

module _ (s t : RangeInclusive ℕ) (x n : ℕ) (ns rest : List ℕ) (matched : Matched s ns) (split : ns ≡ n ∷ rest) (step : range_inclusive_steps gap Next s (Some x) t) where
  pub matched_more : Matched t rest
  matched_more = (step.0 ∙ matched.0, omega (arith, step.1.1, matched.1, ap length split))

  pub powers_more : (after : Bool) → powers_text after (range_inclusive_start s) ns ≡ power_text after x n ++ powers_text (after || ltb 0 n) (range_inclusive_start t) rest
  powers_more after = rw (split, step.1.0) (left rest matched_more)
    where
      left : (ms : List ℕ) → Matched t ms → power_text after (range_inclusive_start s) n ++ powers_text (after || ltb 0 n) (range_inclusive_start s + 1) ms ≡ power_text after (range_inclusive_start s) n ++ powers_text (after || ltb 0 n) (range_inclusive_start t) ms
      left [] m = refl
      left (k ∷ ms) m =
          let there = step.1.2 (unspent (range_inclusive_start t) (range_inclusive_end t) (range_inclusive_exhausted t) (omega (arith, m.1))) in
          let more : 1 < range_inclusive_left gap s = omega (arith, m.1, step.1.1) in
          let e = next_letter (range_inclusive_start s) (range_inclusive_start t) (not_last (range_inclusive_start s) (range_inclusive_end s) (range_inclusive_exhausted s) matched.0 more) there in
          rw e

pub matched_first : (s : RangeInclusive ℕ) (ns : List ℕ) → range_inclusive_start s ≡ 97 → range_inclusive_end s ≡ 102 → range_inclusive_exhausted s ≡ false → length ns ≡ 6 → Matched s ns
matched_first s ns first last unspent six = (last, ap₂ (λ a b. range_inclusive_len gap a b (range_inclusive_exhausted s)) first last ∙ ap (range_inclusive_len gap 97 102) unspent ∙ sym six)

pub powers_all : (after : Bool) (s : RangeInclusive ℕ) (ns : List ℕ) → Matched s ns → (range_inclusive_left gap s ≡ 0) ⊎ (length ns ≡ 0) → powers_text after (range_inclusive_start s) ns ≡ []
powers_all after s [] m h = refl
powers_all after s (n ∷ ns) m h = absurd (⊎_elim (λ a. omega (arith, m.1, a)) (λ b. omega (arith, b)) h)
