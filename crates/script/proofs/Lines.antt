-- Reading a line part by part.
use Rattle.std.proofs.Common.{◌≡◌, ℕ, suc, ◌+◌, ◌-◌, ◌<◌, ◌≤◌, Bool, true, false, not, ◌==◌, cond, List, [], ◌∷◌, ◌++◌, length, get_or, take, drop, min, nat_lt, Some, None, Option, IfSome, refl, sym, ap, subst, ◌∙◌, drop_of_length-le, arith}
use Rattle.std.specs.Io.KnownBytes.{Consumes, IsAtEnd, Keeps}
use Rattle.std.specs.declared.ops.ControlFlow.{ControlFlow}
use Rattle.std.specs.declared.ops.ControlFlow.TheVariants.{Break, Continue}
use Rattle.std.proofs.KnownBytes.{Consumes-kept, Consumes-nil, Consumes-trans}
use Rattle.std.proofs.Math.Seq.{drop-append-add, take-append-add, take-suc}
use Rattle.std.proofs.lemmas.Bool.{cond-true, eq-eqb, eqb-true}
use Rattle.std.proofs.lemmas.Bool.Decides.{nat_tests}
use Rattle.std.proofs.lemmas.List.{append_assoc, append-nil, length-append, length-take, take_all, take_min}
use Rattle.std.proofs.lemmas.List.Folds.{prefix_len-append}
use Rattle.std.proofs.lemmas.List.Sums.{prefix_len_stops}
use Rattle.script.specs.Lines.{Lacks, PartRead, after_line, held_part, line_of, newline}
use Rattle.script.specs.Words.{length_before}
use Rattle.script.proofs.Takes.{take_of_take}

-- as many bytes go behind what is held as there is room for
pub held_more : (held bs : List ℕ) (n : ℕ) → length held ≤ 1000001 → n ≡ min (length bs) (1000001 - length held) → held ++ take n bs ≡ held_part (held ++ bs)
held_more held bs n few e =
    let room : length held + (1000001 - length held) ≡ 1000001 = omega arith in
    let kept : take n bs ≡ take (1000001 - length held) bs = ap (λ k. take k bs) (e ∙ min_swap (length bs) (1000001 - length held)) ∙ take_min (1000001 - length held) bs in
    ap (λ l. held ++ l) kept ∙ sym (take-append-add held bs (1000001 - length held)) ∙ ap (λ k. take k (held ++ bs)) room
  where
    min_swap : (a b : ℕ) → min a b ≡ min b a
    min_swap a b = omega arith

-- nothing is added
pub held_same : (held : List ℕ) → length held ≤ 1000001 → held ≡ held_part (held ++ [])
held_same held few = sym (ap held_part (append-nil held) ∙ take_all 1000001 held few)

-- known bytes that are kept are taken by none
pub keeps_all : (a b : Option (List ℕ)) → Keeps a b → Consumes a b []
keeps_all a b k = Consumes-kept a a b [] (Consumes-nil a) k

-- an input that shows nothing has ended
pub shows_none : (a : Option (List ℕ)) (shown : List ℕ) → IfSome a (λ xs. length shown ≡ 0 → xs ≡ []) → length shown ≡ 0 → IsAtEnd a
shows_none None shown h e = tt
shows_none (Some xs) shown h e = h e

-- the byte that is looked for is no newline
abbrev other : ℕ → Bool
other b = not (b == newline)

-- bytes with no newline, and what follows them
before_append : (bs ys : List ℕ) → Lacks bs → length_before newline (bs ++ ys) ≡ length bs + length_before newline ys
before_append bs ys h = prefix_len-append other bs ys ∙ cond-true _ _ _ (eq-eqb _ _ h)

lacks_append : (bs cs : List ℕ) → Lacks bs → Lacks cs → Lacks (bs ++ cs)
lacks_append bs cs p q = before_append bs cs p ∙ ap (λ n. length bs + n) q ∙ sym (length-append bs cs)

-- the bytes before the first newline have none
pub lacks_taken : (xs : List ℕ) → Lacks (take (length_before newline xs) xs)
lacks_taken [] = refl
lacks_taken (x ∷ xs) = at (x == newline) refl (lacks_taken xs)
  where
    at : (b : Bool) → (x == newline) ≡ b → Lacks (take (length_before newline xs) xs) → Lacks (take (cond (not b) (1 + length_before newline xs) 0) (x ∷ xs))
    at true e h = refl
    at false e h =
        let n = length_before newline xs in
        let one : 1 + n ≡ suc n = omega arith in
        let long : 1 + length_before newline (take n xs) ≡ length (x ∷ take n xs) = omega (arith, h) in
        subst (λ k. Lacks (take k (x ∷ xs))) (sym one) (ap (λ b. cond (not b) (1 + length_before newline (take n xs)) 0) e ∙ long)

-- all bytes up to the first newline, and it
pub through_newline : (xs : List ℕ) → length_before newline xs < length xs → take (length_before newline xs + 1) xs ≡ take (length_before newline xs) xs ++ newline ∷ []
through_newline xs h =
    let n = length_before newline xs in
    let one : n + 1 ≡ suc n = omega arith in
    ap (λ k. take k xs) one ∙ take-suc xs n 0 h ∙ ap (λ x. take n xs ++ x ∷ []) (eqb-true _ _ (is (get_or xs n 0 == newline) (prefix_len_stops other xs 0 h)))
  where
    is : (b : Bool) → not b ≡ false → b ≡ true
    is true e = refl
    is false e = sym e

-- what was read of a line so far
abbrev pub SoFar : (old now : Option (List ℕ)) → (held : List ℕ) → Type 0
SoFar old now held = (bs : List ℕ) × Lacks bs × Consumes old now bs × (held ≡ held_part bs)

-- a part more
part_more : (a b c : Option (List ℕ)) (held then : List ℕ) → SoFar a b held → PartRead (Continue tt) b c held then → SoFar a c then
part_more a b c held then s p = (
  s.0 ++ p.0,
  lacks_append s.0 p.0 s.1 p.1,
  Consumes-trans a b c s.0 p.0 s.2 p.2,
  p.3 ∙ ap (λ l. held_part (l ++ p.0)) s.3 ∙ take_of_take 1000001 s.0 p.0,
)

-- a line is read: what is held of it, what follows it, and whether there was one
pub record LineRead (known new : Option (List ℕ)) (then : List ℕ) (is_found : Bool) : Type 0 where
  pub line : IfSome known (λ xs. then ≡ held_part (line_of xs))
  pub rest : IfSome known (λ xs. new ≡ Some (after_line xs))
  pub found : IfSome known (λ xs. is_found ≡ nat_lt 0 (length xs))

-- the first line of bytes that have no newline, and of such bytes before one
line_at : (bs ys : List ℕ) → Lacks bs → line_of (bs ++ newline ∷ ys) ≡ bs
line_at bs ys h =
    ap (λ n. take n (bs ++ newline ∷ ys)) (before_append bs (newline ∷ ys) h) ∙ take-append-add bs (newline ∷ ys) 0 ∙ append-nil bs

after_at : (bs ys : List ℕ) → Lacks bs → after_line (bs ++ newline ∷ ys) ≡ ys
after_at bs ys h =
    let n : length_before newline (bs ++ newline ∷ ys) + 1 ≡ length bs + 1 = ap (λ n. n + 1) (before_append bs (newline ∷ ys) h) ∙ omega arith in
    ap (λ n. drop n (bs ++ newline ∷ ys)) n ∙ drop-append-add bs (newline ∷ ys) 1

line_end : (bs : List ℕ) → Lacks bs → line_of bs ≡ bs
line_end bs h = ap (λ n. take n bs) h ∙ take_all (length bs) bs (omega arith)

after_end : (bs : List ℕ) → Lacks bs → after_line bs ≡ []
after_end bs h = ap (λ n. drop (n + 1) bs) h ∙ drop_of_length-le bs (omega arith)

-- a newline ends the line
part_ended : (a b c : Option (List ℕ)) (held then : List ℕ) → SoFar a b held → PartRead (Break true) b c held then → LineRead a c then true
part_ended a b c held then s p =
    let bs = s.0 ++ p.0 in
    at a c (lacks_append s.0 p.0 s.1 p.1) (subst (Consumes a c) (sym (append_assoc s.0 p.0 (newline ∷ []))) (Consumes-trans a b c s.0 (p.0 ++ newline ∷ []) s.2 p.2))
    (p.3 ∙ ap (λ l. held_part (l ++ p.0)) s.3 ∙ take_of_take 1000001 s.0 p.0)
  where
    at : (a c : Option (List ℕ)) → Lacks (s.0 ++ p.0) → Consumes a c ((s.0 ++ p.0) ++ newline ∷ []) → then ≡ held_part (s.0 ++ p.0) → LineRead a c then true
    at None c lack q e = record { line = tt; rest = tt; found = tt }
    at (Some xs) None lack q e = absurd q
    at (Some xs) (Some ys) lack q e =
        let whole : xs ≡ (s.0 ++ p.0) ++ newline ∷ ys = q ∙ append_assoc (s.0 ++ p.0) (newline ∷ []) ys in
        let some : length xs ≡ length (s.0 ++ p.0) + (1 + length ys) = ap length whole ∙ length-append (s.0 ++ p.0) (newline ∷ ys) ∙ omega arith in
        record {
          line = e ∙ ap held_part (sym (ap line_of whole ∙ line_at (s.0 ++ p.0) ys lack));
          rest = ap Some (sym (ap after_line whole ∙ after_at (s.0 ++ p.0) ys lack));
          found = grind (arith, nat_tests);
        }

-- the input's end does, and there was a line where anything is held
part_last : (a b c : Option (List ℕ)) (held then : List ℕ) (is_found : Bool) → is_found ≡ nat_lt 0 (length then) → SoFar a b held → PartRead (Break false) b c held then → LineRead a c then is_found
part_last None b c held then is_found f s p = record { line = tt; rest = tt; found = tt }
part_last (Some xs) None c held then is_found f s p = absurd s.2
part_last (Some xs) (Some ys) None held then is_found f s p = absurd p.1
part_last (Some xs) (Some ys) (Some zs) held then is_found f s p =
    let whole : xs ≡ s.0 = s.2 ∙ ap (λ l. s.0 ++ l) p.0 ∙ append-nil s.0 in
    let none : zs ≡ [] = sym p.1 ∙ p.0 in
    let same : then ≡ held_part s.0 = p.2 ∙ s.3 in
    let long = ap length same ∙ length-take 1000001 s.0 in
    let all = ap length whole in
    record {
      line = same ∙ ap held_part (sym (ap line_of whole ∙ line_end s.0 s.1));
      rest = ap Some (none ∙ sym (ap after_line whole ∙ after_end s.0 s.1));
      found = f ∙ grind (arith, nat_tests);
    }

-- the same, by how the part came to an end
pub read_more : (a b c : Option (List ℕ)) (held then : List ℕ) (flow : ControlFlow Bool (Unit {0})) → flow ≡ Continue tt → SoFar a b held → PartRead flow b c held then → SoFar a c then
read_more a b c held then flow e s p = part_more a b c held then s (subst (λ flow. PartRead flow b c held then) e p)

pub read_ended : (a b c : Option (List ℕ)) (held then : List ℕ) (flow : ControlFlow Bool (Unit {0})) (is_ended : Bool) → flow ≡ Break is_ended → is_ended ≡ true → SoFar a b held → PartRead flow b c held then → LineRead a c then is_ended
read_ended a b c held then flow is_ended e t s p =
    subst (LineRead a c then) (sym t) (part_ended a b c held then s (subst (λ flow. PartRead flow b c held then) (e ∙ ap Break t) p))

pub read_last : (a b c : Option (List ℕ)) (held then : List ℕ) (flow : ControlFlow Bool (Unit {0})) (is_ended is_found : Bool) → flow ≡ Break is_ended → is_ended ≡ false → is_found ≡ nat_lt 0 (length then) → SoFar a b held → PartRead flow b c held then → LineRead a c then is_found
read_last a b c held then flow is_ended is_found e t f s p =
    part_last a b c held then is_found f s (subst (λ flow. PartRead flow b c held then) (e ∙ ap Break t) p)

-- there was a line where what is held is not empty
pub not_empty : (n : ℕ) (is_empty : Bool) → is_empty ≡ (n == 0) → not is_empty ≡ nat_lt 0 n
not_empty n is_empty e = ap not e ∙ grind (arith, nat_tests)
