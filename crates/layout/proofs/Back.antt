-- What was written is read.
use Rattle.std.proofs.Common.{◌≡◌, ℕ, zero, suc, ◌+◌, ◌-◌, ◌*◌, ◌^◌, ◌<◌, ◌≤◌, true, ◌&&◌, ltb, leb, List, [], ◌∷◌, ◌++◌, length, drop, Some, sym, refl, ap, ◌∙◌, arith}
use Rattle.std.specs.List.{flat_map, AllByRecursion}
use Rattle.std.proofs.lemmas.List.{append_assoc, append-nil, length-append, drop_at}
use Rattle.std.proofs.lemmas.Bool.{cond-true, cond-false, lt-ltb, le-ltb, le-leb, and_from}
use Rattle.layout.specs.Line.{Line, FitsSheet, PackedStep, max_count}
use Rattle.layout.specs.Writing.{monomial_width, step_width, steps_bit, monomial_bytes, step_bytes, head_bytes, body_bytes, line_bytes}
use Rattle.layout.specs.Reading.{Counts, max_lines, and_then, counted, monomial_in, step_in, steps_in, read_head, read_body, read_line, read_lines, one_more, line_in, size_of, whole}
use Rattle.layout.specs.Laws.{ReadsBack}
use Rattle.layout.proofs.Numbers.{monomial_back, step_back}
use Rattle.layout.proofs.Items.{items_back, length_joined}
use Rattle.layout.proofs.Lengths.{body_length}

pub is_counted : (n : ℕ) → 1 ≤ n → n ≤ max_count → counted n ≡ true
is_counted n a b = and_from (leb 1 n) (leb n max_count) (le-leb 1 n a) (le-leb n max_count b)

head_back : (n m : ℕ) (rest : List ℕ) → n ≤ max_count → m ≤ max_count → read_head (head_bytes n m ++ rest) ≡ Some (record { item = record { monomials = n; steps = m }; rest = rest })
head_back n zero rest h l = cond-true (ltb n steps_bit) _ _ (lt-ltb n steps_bit (omega arith))
head_back n (suc m) rest h l =
    let e : (steps_bit + n) - steps_bit ≡ n = omega arith in
    cond-false (ltb (steps_bit + n) steps_bit) _ _ (le-ltb (steps_bit + n) steps_bit (omega arith))
    ∙ cond-true (counted (suc m)) _ _ (is_counted (suc m) (omega arith) l)
    ∙ ap (λ k. Some (record { item = record { monomials = k; steps = suc m }; rest = rest })) e

abbrev pub counts_of : Line → Counts
counts_of l = record { monomials = length l.formula; steps = length l.steps }

body_back : (l : Line) (rest : List ℕ) → FitsSheet l → line_in (counts_of l) (body_bytes l ++ rest) ≡ l
body_back l rest h =
    let ms = flat_map monomial_bytes l.formula in
    let ss = flat_map step_bytes l.steps in
    let e : body_bytes l ++ rest ≡ ms ++ (ss ++ rest) = append_assoc ms ss rest in
    let d : drop (monomial_width * length l.formula) (ms ++ (ss ++ rest)) ≡ ss ++ rest = drop_at ms (ss ++ rest) _ (length_joined monomial_width monomial_bytes (λ _. refl) l.formula) in
    let a = items_back monomial_width monomial_in monomial_bytes (λ m. m.bits < 2 ^ 64) (λ _. refl) monomial_back l.formula (ss ++ rest) h.packed in
    let b = items_back step_width step_in step_bytes PackedStep (λ _. refl) step_back l.steps rest h.named in
    ap (line_in (counts_of l)) e
    ∙ ap (λ xs. record { formula = xs; steps = steps_in (length l.steps) (drop (monomial_width * length l.formula) (ms ++ (ss ++ rest))) }) a
    ∙ ap (λ bs. record { formula = l.formula; steps = steps_in (length l.steps) bs }) d
    ∙ ap (λ xs. record { formula = l.formula; steps = xs }) b

pub line_back : (l : Line) (rest : List ℕ) → FitsSheet l → read_line (line_bytes l ++ rest) ≡ Some (record { item = l; rest = rest })
line_back l rest h =
    let n = length l.formula in
    let m = length l.steps in
    let bs = body_bytes l ++ rest in
    let k = size_of (counts_of l) in
    let ok : (counted n && leb k (length bs)) ≡ true =
    and_from (counted n) (leb k (length bs)) (is_counted n h.some h.few) (le-leb k (length bs) (omega (arith, body_length l, length-append (body_bytes l) rest))) in
    ap read_line (append_assoc (head_bytes n m) (body_bytes l) rest)
    ∙ ap (λ o. and_then o read_body) (head_back n m bs h.few h.short)
    ∙ cond-true (counted n && leb k (length bs)) _ _ ok
    ∙ ap (λ x. Some (record { item = x; rest = drop k bs })) (body_back l rest h)
    ∙ ap (λ x. Some (record { item = l; rest = x })) (drop_at (body_bytes l) rest k (body_length l))

pub lines_back : (ls : List Line) (rest : List ℕ) → AllByRecursion FitsSheet ls → read_lines (length ls) (flat_map line_bytes ls ++ rest) ≡ Some (record { item = ls; rest = rest })
lines_back [] rest h = refl
lines_back (l ∷ ls) rest h =
    ap (read_lines (suc (length ls))) (append_assoc (line_bytes l) (flat_map line_bytes ls) rest)
    ∙ ap (λ o. and_then o (λ r. and_then (read_lines (length ls) r.rest) (one_more r.item))) (line_back l (flat_map line_bytes ls ++ rest) h.0)
    ∙ ap (λ o. and_then o (one_more l)) (lines_back ls rest h.1)

pub reads_back : ReadsBack
reads_back kinds lines few fit =
    cond-true (leb (length lines) max_lines) _ _ (le-leb (length lines) max_lines few)
    ∙ ap (λ bs. and_then (read_lines (length lines) bs) (whole kinds)) (sym (append-nil (flat_map line_bytes lines)))
    ∙ ap (λ o. and_then o (whole kinds)) (lines_back lines [] fit)
