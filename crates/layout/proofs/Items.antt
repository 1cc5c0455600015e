-- Items of one width, there and back.
use Rattle.std.proofs.Common.{◌≡◌, ℕ, zero, suc, ◌+◌, ◌*◌, ◌≤◌, List, [], ◌∷◌, ◌++◌, length, take, drop, sym, refl, ap, ◌∙◌, mul-zero, mul-suc, arith, take-add}
use Rattle.std.specs.List.{flat_map, AllByRecursion}
use Rattle.std.proofs.lemmas.List.{append_assoc, length-append, length-drop, drop_at}
use Rattle.std.proofs.ByRecursion.{All-drop}
use Rattle.layout.specs.Line.{Byte}
use Rattle.layout.specs.Reading.{items_in}

pub length_items : {A : Type 0} (w : ℕ) (one : List ℕ → A) (n : ℕ) (bs : List ℕ) → length (items_in w one n bs) ≡ n
length_items w one zero bs = refl
length_items w one (suc n) bs = ap (λ k. suc k) (length_items w one n (drop w bs))

pub length_joined : {A : Type 0} (w : ℕ) (bytes : A → List ℕ) → ((x : A) → length (bytes x) ≡ w) → (xs : List A) → length (flat_map bytes xs) ≡ w * length xs
length_joined w bytes wide [] = sym (mul-zero w)
length_joined w bytes wide (x ∷ xs) = omega (arith, length-append (bytes x) (flat_map bytes xs), wide x, length_joined w bytes wide xs, mul-suc w (length xs))

-- what was written is read
pub items_back : {A : Type 0} (w : ℕ) (one : List ℕ → A) (bytes : A → List ℕ) (P : A → Type 0) → ((x : A) → length (bytes x) ≡ w)
    → ((x : A) (rest : List ℕ) → P x → one (bytes x ++ rest) ≡ x) → (xs : List A) (rest : List ℕ) → AllByRecursion P xs → items_in w one (length xs) (flat_map bytes xs ++ rest) ≡ xs
items_back w one bytes P wide back [] rest h = refl
items_back w one bytes P wide back (x ∷ xs) rest h =
    let s : (bytes x ++ flat_map bytes xs) ++ rest ≡ bytes x ++ (flat_map bytes xs ++ rest) = append_assoc (bytes x) (flat_map bytes xs) rest in
    let d : drop w (bytes x ++ (flat_map bytes xs ++ rest)) ≡ flat_map bytes xs ++ rest = drop_at (bytes x) (flat_map bytes xs ++ rest) w (wide x) in
    ap (λ bs. one bs ∷ items_in w one (length xs) (drop w bs)) s
    ∙ ap (λ bs. one (bytes x ++ (flat_map bytes xs ++ rest)) ∷ items_in w one (length xs) bs) d
    ∙ ap (λ y. y ∷ items_in w one (length xs) (flat_map bytes xs ++ rest)) (back x (flat_map bytes xs ++ rest) h.0)
    ∙ ap (λ ys. x ∷ ys) (items_back w one bytes P wide back xs rest h.1)

-- what was read writes the bytes
pub items_again : {A : Type 0} (w : ℕ) (one : List ℕ → A) (bytes : A → List ℕ) → ((bs : List ℕ) → AllByRecursion Byte bs → w ≤ length bs → bytes (one bs) ≡ take w bs)
    → (n : ℕ) (bs : List ℕ) → AllByRecursion Byte bs → w * n ≤ length bs → flat_map bytes (items_in w one n bs) ≡ take (w * n) bs
items_again w one bytes again zero bs h l = rw (mul-zero w)
items_again w one bytes again (suc n) bs h l =
    let e : w * suc n ≡ w + w * n = omega (arith, mul-suc w n) in
    let r : w * n ≤ length (drop w bs) = simp length-drop (omega (arith, mul-suc w n)) in
    ap (λ ys. ys ++ flat_map bytes (items_in w one n (drop w bs))) (again bs h (omega (arith, mul-suc w n)))
    ∙ ap (λ ys. take w bs ++ ys) (items_again w one bytes again n (drop w bs) (All-drop Byte w bs h) r)
    ∙ sym (take-add w (w * n) bs)
    ∙ ap (λ k. take k bs) (sym e)

-- what holds of each item read holds of all
pub items_hold : {A : Type 0} (w : ℕ) (one : List ℕ → A) (P : A → Type 0) → ((bs : List ℕ) → AllByRecursion Byte bs → w ≤ length bs → P (one bs))
    → (n : ℕ) (bs : List ℕ) → AllByRecursion Byte bs → w * n ≤ length bs → AllByRecursion P (items_in w one n bs)
items_hold w one P each zero bs h l = tt
items_hold w one P each (suc n) bs h l =
    let r : w * n ≤ length (drop w bs) = simp length-drop (omega (arith, mul-suc w n)) in
    (each bs h (omega (arith, mul-suc w n)), items_hold w one P each n (drop w bs) (All-drop Byte w bs h) r)
