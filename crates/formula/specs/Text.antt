-- The text of a formula, as the bytes of its characters.
use Rattle.std.specs.Prelude.{◌≡◌, ℕ, ◌+◌, Bool, true, false, cond, ◌&&◌, ◌||◌, List, [], ◌∷◌, ◌++◌, codes, decimal, ◌==◌, nat_lt}
use Rattle.std.proofs.Math.Utf8.{encode}
use Rattle.order.specs.Term.{degree, exponents}
use Rattle.term.specs.declared.monomial.Monomial.{Monomial}
use Rattle.formula.specs.Formula.{code, term}

-- a power of a register: its letter, and where the exponent is not 1 a ^ and the exponent; nothing for exponent 0, and a * in front where a factor stands before it
abbrev pub power_text : (after : Bool) → (letter exponent : ℕ) → List ℕ
power_text after letter n = cond (n == 0) [] (cond after (42 ∷ []) [] ++ (encode letter ++ cond (n == 1) [] (94 ∷ decimal n)))

-- the powers of the registers from a letter on
abbrev pub powers_text : (after : Bool) → (letter : ℕ) → (exponents : List ℕ) → List ℕ
powers_text after letter [] = []
powers_text after letter (n ∷ ns) = power_text after letter n ++ powers_text (after || nat_lt 0 n) (letter + 1) ns

-- a monomial: its code and its powers joined by *, a code that is the ring's one left out where a register follows
abbrev pub monomial_text : (one : ℕ) → Monomial → List ℕ
monomial_text one m =
    cond (code m == one && nat_lt 0 (degree (term m)))
    (powers_text false 97 (exponents (term m)))
    (decimal (code m) ++ powers_text true 97 (exponents (term m)))

-- monomials, each with a + in front
abbrev pub rest_text : (one : ℕ) → List Monomial → List ℕ
rest_text one [] = []
rest_text one (m ∷ f) = 43 ∷ (monomial_text one m ++ rest_text one f)

-- a formula: its monomials joined by +, and 0 where there are none
abbrev pub formula_text : (one : ℕ) → List Monomial → List ℕ
formula_text one [] = 48 ∷ []
formula_text one (m ∷ f) = monomial_text one m ++ rest_text one f

-- readings, where the ring's one is 1
pub record TextReadings : Type 0 where
  pub no_monomial : formula_text 1 [] ≡ codes "0"
  pub three_a²_b : formula_text 1 (record { bits = 0x0201_0000_0000_0003 } ∷ []) ≡ codes "3*a^2*b"
  pub one_left_out : formula_text 1 (record { bits = 0x0000_0000_000c_0001 } ∷ []) ≡ codes "f^12"
  pub one_alone : formula_text 1 (record { bits = 0x0100_0000_0000_0001 } ∷ record { bits = 1 } ∷ []) ≡ codes "a+1"
