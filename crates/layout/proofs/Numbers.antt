-- Monomials and steps as bytes, there and back.
use Rattle.std.proofs.Common.{◌≡◌, ℕ, ◌+◌, ◌*◌, ◌/◌, ◌%◌, ◌^◌, ◌<◌, ◌≤◌, List, [], ◌∷◌, ◌++◌, length, get_or, take, sym, ap, ◌∙◌, ⊎_elim, arith}
use Rattle.std.specs.List.{AllByRecursion}
use Rattle.std.proofs.lemmas.List.{take_more, get_or_past}
use Rattle.std.proofs.ByRecursion.{All-get_or}
use Rattle.std.proofs.lemmas.Bool.{cases_lt}
use Rattle.term.specs.declared.monomial.Monomial.{Monomial}
use Rattle.term.specs.declared.monomial.Step.{Step}
use Rattle.layout.specs.Line.{Byte, PackedStep}
use Rattle.layout.specs.Writing.{monomial_width, step_width, number_bytes, monomial_bytes, step_bytes}
use Rattle.layout.specs.Reading.{number_in, monomial_in, step_in}

number_back : (m : ℕ) (rest : List ℕ) → m < 2 ^ 64 → number_in (number_bytes m ++ rest) ≡ m
number_back m rest h = omega arith

pub monomial_back : (m : Monomial) (rest : List ℕ) → m.bits < 2 ^ 64 → monomial_in (monomial_bytes m ++ rest) ≡ m
monomial_back m rest h = ap (λ n. record { bits = n }) (number_back m.bits rest h)

pub step_back : (s : Step) (rest : List ℕ) → PackedStep s → step_in (step_bytes s ++ rest) ≡ s
step_back s rest h = ap (λ m. record { factor = m; line = s.line }) (monomial_back s.factor (s.line ∷ rest) h.0)

-- eight digits of base 256
number_of_digits : (a b c d e f g h : ℕ) → Byte a → Byte b → Byte c → Byte d → Byte e → Byte f → Byte g → Byte h
    → number_bytes (a * 0x0100_0000_0000_0000 + b * 0x0001_0000_0000_0000 + c * 0x0000_0100_0000_0000 + d * 0x0000_0001_0000_0000 + e * 0x0000_0000_0100_0000 + f * 0x0000_0000_0001_0000 + g * 0x0000_0000_0000_0100 + h)
    ≡ a ∷ (b ∷ (c ∷ (d ∷ (e ∷ (f ∷ (g ∷ (h ∷ [])))))))
number_of_digits a b c d e f g h p0 p1 p2 p3 p4 p5 p6 p7 =
    let n = a * 0x0100_0000_0000_0000 + b * 0x0001_0000_0000_0000 + c * 0x0000_0100_0000_0000 + d * 0x0000_0001_0000_0000 + e * 0x0000_0000_0100_0000 + f * 0x0000_0000_0001_0000 + g * 0x0000_0000_0000_0100 + h in
    let e0 : n / 0x0100_0000_0000_0000 % 256 ≡ a = omega arith in
    let e1 : n / 0x0001_0000_0000_0000 % 256 ≡ b = omega arith in
    let e2 : n / 0x0000_0100_0000_0000 % 256 ≡ c = omega arith in
    let e3 : n / 0x0000_0001_0000_0000 % 256 ≡ d = omega arith in
    let e4 : n / 0x0000_0000_0100_0000 % 256 ≡ e = omega arith in
    let e5 : n / 0x0000_0000_0001_0000 % 256 ≡ f = omega arith in
    let e6 : n / 0x0000_0000_0000_0100 % 256 ≡ g = omega arith in
    let e7 : n % 256 ≡ h = omega arith in
    cc

pub monomial_again : (bs : List ℕ) → AllByRecursion Byte bs → monomial_width ≤ length bs → monomial_bytes (monomial_in bs) ≡ take monomial_width bs
monomial_again [] h l = absurd (omega arith)
monomial_again (a ∷ []) h l = absurd (omega arith)
monomial_again (a ∷ (b ∷ [])) h l = absurd (omega arith)
monomial_again (a ∷ (b ∷ (c ∷ []))) h l = absurd (omega arith)
monomial_again (a ∷ (b ∷ (c ∷ (d ∷ [])))) h l = absurd (omega arith)
monomial_again (a ∷ (b ∷ (c ∷ (d ∷ (e ∷ []))))) h l = absurd (omega arith)
monomial_again (a ∷ (b ∷ (c ∷ (d ∷ (e ∷ (f ∷ [])))))) h l = absurd (omega arith)
monomial_again (a ∷ (b ∷ (c ∷ (d ∷ (e ∷ (f ∷ (g ∷ []))))))) h l = absurd (omega arith)
monomial_again (a ∷ (b ∷ (c ∷ (d ∷ (e ∷ (f ∷ (g ∷ (i ∷ bs)))))))) h l =
    number_of_digits a b c d e f g i h.0 h.1.0 h.1.1.0 h.1.1.1.0 h.1.1.1.1.0 h.1.1.1.1.1.0 h.1.1.1.1.1.1.0 h.1.1.1.1.1.1.1.0

pub step_again : (bs : List ℕ) → AllByRecursion Byte bs → step_width ≤ length bs → step_bytes (step_in bs) ≡ take step_width bs
step_again bs h l = ap (λ ys. ys ++ (get_or bs monomial_width 0 ∷ [])) (monomial_again bs h (omega arith)) ∙ sym (take_more bs monomial_width 0 (omega arith))

-- eight bytes write a number of 64 bits
pub monomial_fits : (bs : List ℕ) → AllByRecursion Byte bs → (monomial_in bs).bits < 2 ^ 64
monomial_fits bs h =
    let b : (k : ℕ) → Byte (get_or bs k 0) = λ k. ⊎_elim (λ l. All-get_or Byte bs k 0 l h) (λ l. rw (get_or_past bs k 0 l) (omega arith)) (cases_lt k (length bs)) in
    omega (arith, b 0, b 1, b 2, b 3, b 4, b 5, b 6, b 7)

pub step_fits : (bs : List ℕ) → AllByRecursion Byte bs → step_width ≤ length bs → PackedStep (step_in bs)
step_fits bs h l = (monomial_fits bs h, All-get_or Byte bs monomial_width 0 (omega arith) h)
