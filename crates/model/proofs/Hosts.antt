-- What a C host gets, by cases.
use Rattle.std.proofs.Common.{◌≡◌, ℕ, ◌≤◌, Bool, true, false, eqb, leb, List, sym, refl, ◌∙◌, ap₂}
use native.Mathlib.Bridge.{le_prop}
use Rattle.std.proofs.lemmas.Bool.{and_from, and_left, and_parts, and_right, cond-false, le-leb, leb-true, lt-leb, ne_eqb}
use Rattle.refusal.specs.Number.{number}
use Rattle.refusal.specs.declared.Refusal.TheVariants.{OtherKinds}
use Rattle.residue.specs.Residues.{residues}
use Rattle.model.specs.Host.{HostLaw, answer_by_modulus, answer_by_order, is_modulus}
use Rattle.model.proofs.Outcomes.{false_true}

-- the answer whatever the test of the modulus says
refused : (n order : ℕ) (bytes : List ℕ) (b : Bool) (e : is_modulus n ≡ b) → b ≡ false → answer_by_modulus n order bytes b e ≡ 1
refused n order bytes true e f = false_true (sym f)
refused n order bytes false e f = refl

granted : (n order : ℕ) (bytes : List ℕ) (low : 2 ≤ n) (high : n ≤ 65536) (b : Bool) (e : is_modulus n ≡ b) → b ≡ true → answer_by_modulus n order bytes b e ≡ answer_by_order (residues n low high) order bytes
granted n order bytes low high false e f = false_true f
granted n order bytes low high true e f =
    let parts = and_parts (leb 2 n) (leb n 65536) e in
    ap₂ (λ p q. answer_by_order (residues n p q) order bytes) (le_prop (leb-true 2 n parts.0) low) (le_prop (leb-true n 65536 parts.1) high)

in_range : (n : ℕ) → 2 ≤ n → n ≤ 65536 → is_modulus n ≡ true
in_range n low high = and_from (leb 2 n) (leb n 65536) (le-leb 2 n low) (le-leb n 65536 high)

pub host_law : HostLaw
host_law = record {
  modulus_too_small = λ n order bytes h. refused n order bytes (is_modulus n) refl (and_left (leb 2 n) (leb n 65536) (lt-leb 2 n h));
  modulus_too_large = λ n order bytes h. refused n order bytes (is_modulus n) refl (and_right (leb 2 n) (leb n 65536) (lt-leb n 65536 h));
  other_order = λ n order bytes low high one two.
      granted n order bytes low high (is_modulus n) refl (in_range n low high) ∙ cond-false (eqb order 1) _ _ (ne_eqb order 1 one) ∙ cond-false (eqb order 2) _ (number OtherKinds) (ne_eqb order 2 two);
  by_lex = λ n bytes low high. granted n 1 bytes low high (is_modulus n) refl (in_range n low high);
  by_reverse = λ n bytes low high. granted n 2 bytes low high (is_modulus n) refl (in_range n low high);
}
