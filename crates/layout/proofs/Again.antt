-- What was read writes the bytes.
use Rattle.std.proofs.Common.{◌≡◌, ℕ, zero, suc, ◌+◌, ◌-◌, ◌*◌, ◌^◌, ◌<◌, ◌≤◌, Bool, true, false, cond, ◌&&◌, ltb, leb, List, [], ◌∷◌, ◌++◌, length, take, drop, Some, None, Option, sym, refl, ap, ◌∙◌, subst, arith, take-add}
use Rattle.std.specs.List.{flat_map, AllByRecursion}
use Rattle.std.proofs.lemmas.List.{append_assoc, append-nil, length-drop, take-append-drop}
use Rattle.std.proofs.ByRecursion.{All-drop}
use Rattle.std.proofs.lemmas.Bool.{ltb-false, leb-true, and_parts}
use Rattle.layout.specs.Line.{Line, Byte, FitsSheet, PackedStep, max_count}
use Rattle.layout.specs.Writing.{monomial_width, step_width, steps_bit, monomial_bytes, step_bytes, head_bytes, body_bytes, body_size, line_bytes}
use Rattle.layout.specs.Reading.{Read, Counts, max_lines, and_then, counted, monomial_in, step_in, monomials_in, steps_in, read_head, read_steps, read_body, read_line, read_lines, one_more, line_in, size_of, whole, decoded}
use Rattle.layout.specs.Laws.{SheetOf, Canonical}
use Rattle.layout.proofs.Numbers.{monomial_again, step_again, monomial_fits, step_fits}
use Rattle.layout.proofs.Items.{items_again, items_hold, length_items}

-- P of what there is
abbrev pub Then : {A : Type 0} → Option A → (A → Type 0) → Type 0
Then None P = Unit {0}
Then (Some x) P = P x

pub then_and : {A B : Type 0} (o : Option A) (f : A → Option B) (P : A → Type 0) (Q : B → Type 0) → Then o P → ((x : A) → P x → Then (f x) Q) → Then (and_then o f) Q
then_and None f P Q h k = tt
then_and (Some x) f P Q h k = k x h

pub then_if : {A : Type 0} (b : Bool) (x : A) (P : A → Type 0) → (b ≡ true → P x) → Then (cond b (Some x) None) P
then_if true x P h = h refl
then_if false x P h = tt

pub then_at : {A : Type 0} (o : Option A) (x : A) (P : A → Type 0) → o ≡ Some x → Then o P → P x
then_at {A = A} o x P e h = let F : Option A → Type 0 = λ p. Then p P in subst F e h

pub counted_range : (n : ℕ) → counted n ≡ true → (1 ≤ n) × (n ≤ max_count)
counted_range n e = let p = and_parts (leb 1 n) (leb n max_count) e in (leb-true 1 n p.0, leb-true n max_count p.1)

-- bytes are a line's head and the bytes after it
pub record HeadRead (bs : List ℕ) (h : Read Counts) : Type 0 where
  pub spelt : bs ≡ head_bytes h.item.monomials h.item.steps ++ h.rest
  pub short : h.item.steps ≤ max_count
  pub left : AllByRecursion Byte h.rest

steps_again : (b : ℕ) (bs : List ℕ) → steps_bit ≤ b → AllByRecursion Byte bs → Then (read_steps (b - steps_bit) bs) (HeadRead (b ∷ bs))
steps_again b [] l h = tt
steps_again b (zero ∷ bs) l h = tt
steps_again b (suc m ∷ bs) l h =
    then_if (counted (suc m)) _ _ (λ e.
    record {
      spelt = let e : b ≡ steps_bit + (b - steps_bit) = omega arith in ap (λ x. x ∷ (suc m ∷ bs)) e;
      short = (counted_range (suc m) e).1;
      left = h.1;
    })

head_again : (bs : List ℕ) → AllByRecursion Byte bs → Then (read_head bs) (HeadRead bs)
head_again [] h = tt
head_again (b ∷ bs) h =
    head_by (ltb b steps_bit) refl
  where
    head_by : (t : Bool) → ltb b steps_bit ≡ t → Then (cond t (Some (record { item = record { monomials = b; steps = 0 }; rest = bs })) (read_steps (b - steps_bit) bs)) (HeadRead (b ∷ bs))
    head_by true e = record { spelt = refl; short = omega arith; left = h.1 }
    head_by false e = steps_again b bs (ltb-false b steps_bit e) h.1

-- bytes are a line and the bytes after it
pub record LineRead (bs : List ℕ) (r : Read Line) : Type 0 where
  pub spelt : bs ≡ line_bytes r.item ++ r.rest
  pub fits : FitsSheet r.item
  pub left : AllByRecursion Byte r.rest

-- there are enough bytes for the steps after the monomials
enough_left : (n m : ℕ) (bs : List ℕ) → body_size n m ≤ length bs → step_width * m ≤ length (drop (monomial_width * n) bs)
enough_left n m bs l = simp length-drop (omega arith)

body_again : (c : Counts) (bs : List ℕ) → AllByRecursion Byte bs → size_of c ≤ length bs → bs ≡ body_bytes (line_in c bs) ++ drop (size_of c) bs
body_again c bs h l =
    let i = monomial_width * c.monomials in
    let j = step_width * c.steps in
    let ss = flat_map step_bytes (steps_in c.steps (drop i bs)) in
    let a = items_again monomial_width monomial_in monomial_bytes monomial_again c.monomials bs h (omega arith) in
    let b = items_again step_width step_in step_bytes step_again c.steps (drop i bs) (All-drop Byte i bs h) (enough_left c.monomials c.steps bs l) in
    sym (ap (λ xs. (xs ++ ss) ++ drop (i + j) bs) a
    ∙ ap (λ xs. (take i bs ++ xs) ++ drop (i + j) bs) b
    ∙ ap (λ xs. xs ++ drop (i + j) bs) (sym (take-add i j bs))
    ∙ take-append-drop (i + j) bs)

-- the line read fits
line_in_fits : (c : Counts) (bs : List ℕ) → AllByRecursion Byte bs → size_of c ≤ length bs → counted c.monomials ≡ true → c.steps ≤ max_count → FitsSheet (line_in c bs)
line_in_fits c bs h l e short =
    let range = counted_range c.monomials e in
    let after = drop (monomial_width * c.monomials) bs in
    let n = length_items monomial_width monomial_in c.monomials bs in
    let m = length_items step_width step_in c.steps after in
    record {
      some = omega (arith, n, range.0);
      few = omega (arith, n, range.1);
      short = omega (arith, m, short);
      packed = items_hold monomial_width monomial_in (λ m. m.bits < 2 ^ 64) (λ bs h _. monomial_fits bs h) c.monomials bs h (omega arith);
      named = items_hold step_width step_in PackedStep step_fits c.steps after (All-drop Byte (monomial_width * c.monomials) bs h) (enough_left c.monomials c.steps bs l);
    }

line_at : (bs : List ℕ) (h : Read Counts) → HeadRead bs h → Then (read_body h) (LineRead bs)
line_at bs h p =
    let c = h.item in
    let rest = h.rest in
    let k = size_of c in
    let body = body_bytes (line_in c rest) in
    let n = length_items monomial_width monomial_in c.monomials rest in
    let m = length_items step_width step_in c.steps (drop (monomial_width * c.monomials) rest) in
    then_if (counted c.monomials && leb k (length rest)) _ _ (λ e.
    let q = and_parts (counted c.monomials) (leb k (length rest)) e in
    let l : k ≤ length rest = leb-true k (length rest) q.1 in
    record {
      spelt =
          p.spelt
          ∙ ap (λ xs. head_bytes c.monomials c.steps ++ xs) (body_again c rest p.left l)
          ∙ sym (append_assoc (head_bytes c.monomials c.steps) body (drop k rest))
          ∙ ap (λ i. (head_bytes i c.steps ++ body) ++ drop k rest) (sym n)
          ∙ ap (λ i. (head_bytes (length (monomials_in c.monomials rest)) i ++ body) ++ drop k rest) (sym m);
      fits = line_in_fits c rest p.left l q.0 p.short;
      left = All-drop Byte k rest p.left;
    })

pub line_again : (bs : List ℕ) → AllByRecursion Byte bs → Then (read_line bs) (LineRead bs)
line_again bs h = then_and (read_head bs) read_body (HeadRead bs) (LineRead bs) (head_again bs h) (line_at bs)

-- bytes are n lines and the bytes after them
pub record LinesRead (n : ℕ) (bs : List ℕ) (r : Read (List Line)) : Type 0 where
  pub spelt : bs ≡ flat_map line_bytes r.item ++ r.rest
  pub number : length r.item ≡ n
  pub fit : AllByRecursion FitsSheet r.item
  pub left : AllByRecursion Byte r.rest

pub lines_again : (n : ℕ) (bs : List ℕ) → AllByRecursion Byte bs → Then (read_lines n bs) (LinesRead n bs)
lines_again zero bs h = record { spelt = refl; number = refl; fit = tt; left = h }
lines_again (suc n) bs h =
    then_and (read_line bs) _ (LineRead bs) (LinesRead (suc n) bs) (line_again bs h) (λ r p.
    then_and (read_lines n r.rest) (one_more r.item) (LinesRead n r.rest) (LinesRead (suc n) bs) (lines_again n r.rest p.left) (λ rs q.
    record {
      spelt = p.spelt ∙ ap (λ xs. line_bytes r.item ++ xs) q.spelt ∙ sym (append_assoc (line_bytes r.item) (flat_map line_bytes rs.item) rs.rest);
      number = ap (λ k. suc k) q.number;
      fit = (p.fits, q.fit);
      left = q.left;
    }))

whole_again : (kinds n : ℕ) (bs : List ℕ) (ls : List Line) (rest : List ℕ) → n ≤ max_lines → LinesRead n bs (record { item = ls; rest = rest })
    → Then (whole kinds (record { item = ls; rest = rest })) (SheetOf (kinds ∷ (n ∷ bs)))
whole_again kinds n bs ls [] few p = record {
  written = ap (λ xs. kinds ∷ (n ∷ xs)) (p.spelt ∙ append-nil (flat_map line_bytes ls)) ∙ ap (λ k. kinds ∷ (k ∷ flat_map line_bytes ls)) (sym p.number);
  few = omega (arith, p.number, few);
  fit = p.fit;
}
whole_again kinds n bs ls (b ∷ rest) few p = tt

sheet_again : (bs : List ℕ) → AllByRecursion Byte bs → Then (decoded bs) (SheetOf bs)
sheet_again [] h = tt
sheet_again (kinds ∷ []) h = tt
sheet_again (kinds ∷ (n ∷ bs)) h =
    by_lines (leb n max_lines) refl
  where
    by_lines : (t : Bool) → leb n max_lines ≡ t → Then (cond t (and_then (read_lines n bs) (whole kinds)) None) (SheetOf (kinds ∷ (n ∷ bs)))
    by_lines true e = then_and (read_lines n bs) (whole kinds) (LinesRead n bs) (SheetOf (kinds ∷ (n ∷ bs))) (lines_again n bs h.1.1) (λ r p. whole_again kinds n bs r.item r.rest (leb-true n max_lines e) p)
    by_lines false e = tt

pub canonical : Canonical
canonical bs s h e = then_at (decoded bs) s (SheetOf bs) e (sheet_again bs h)
