-- What a C host gets that passes a modulus, the number of an order and the bytes of a sheet.
use Rattle.std.specs.Prelude.{◌≡◌, ℕ, ◌<◌, ◌≤◌, Bool, true, false, cond, ◌&&◌, List, Ok, Err, Result, ◌==◌, ◌≢◌, nat_le, refl}
use Rattle.std.proofs.lemmas.Bool.{and_parts, leb-true}
use Rattle.refusal.specs.Number.{number}
use Rattle.refusal.specs.declared.Refusal.{Refusal}
use Rattle.refusal.specs.declared.Refusal.TheVariants.{OtherKinds, RingSize}
use Rattle.ring.specs.CoefficientRing.{CoefficientRing}
use Rattle.residue.specs.Residues.{residues}
use Rattle.term.specs.Orders.{lex, reverse}
use Rattle.model.specs.Audit.{audited}

-- 0 for a sheet that passes, else the number of the refusal
abbrev pub audit_number : Result (Unit {0}) Refusal → ℕ
audit_number (Ok u) = 0
audit_number (Err refusal) = number refusal

-- the audit for lex (1) or reverse (2); another order is refused
abbrev pub answer_by_order : CoefficientRing → (order : ℕ) → List ℕ → ℕ
answer_by_order ring order bytes =
    cond (order == 1) (audit_number (audited ring lex bytes))
    (cond (order == 2) (audit_number (audited ring reverse bytes)) (number OtherKinds))

-- first the modulus is tested
abbrev pub is_modulus : ℕ → Bool
is_modulus n = nat_le 2 n && nat_le n 65536

abbrev pub answer_by_modulus : (n order : ℕ) → List ℕ → (test : Bool) → is_modulus n ≡ test → ℕ
answer_by_modulus n order bytes true e =
    let parts = and_parts (nat_le 2 n) (nat_le n 65536) e in
    answer_by_order (residues n (leb-true 2 n parts.0) (leb-true n 65536 parts.1)) order bytes
answer_by_modulus n order bytes false e = number RingSize

-- the answer of the host's call
abbrev pub host_answer : (n order : ℕ) → List ℕ → ℕ
host_answer n order bytes = answer_by_modulus n order bytes (is_modulus n) refl

-- the host gets 1 for a modulus out of range, then 13 for an order other than 1 and 2, else what the audit says
pub record HostLaw : Type 0 where
  pub modulus_too_small : (n order : ℕ) (bytes : List ℕ) → n < 2 → host_answer n order bytes ≡ 1
  pub modulus_too_large : (n order : ℕ) (bytes : List ℕ) → 65536 < n → host_answer n order bytes ≡ 1
  pub other_order : (n order : ℕ) (bytes : List ℕ) → 2 ≤ n → n ≤ 65536 → (order ≢ 1) → (order ≢ 2) → host_answer n order bytes ≡ 13
  pub by_lex : (n : ℕ) (bytes : List ℕ) (low : 2 ≤ n) (high : n ≤ 65536) → host_answer n 1 bytes ≡ audit_number (audited (residues n low high) lex bytes)
  pub by_reverse : (n : ℕ) (bytes : List ℕ) (low : 2 ≤ n) (high : n ≤ 65536) → host_answer n 2 bytes ≡ audit_number (audited (residues n low high) reverse bytes)
