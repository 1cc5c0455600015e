-- How many bytes a line has.
use Rattle.std.proofs.Common.{◌≡◌, ℕ, zero, suc, length, refl, arith}
use Rattle.std.specs.List.{flat_map}
use Rattle.std.proofs.lemmas.List.{length-append}
use Rattle.layout.specs.Line.{Line}
use Rattle.layout.specs.Writing.{monomial_width, step_width, monomial_bytes, step_bytes, head_bytes, head_size, body_bytes, body_size, line_bytes, line_size}
use Rattle.layout.proofs.Items.{length_joined}

pub head_length : (n m : ℕ) → length (head_bytes n m) ≡ head_size m
head_length n zero = refl
head_length n (suc m) = refl

pub body_length : (l : Line) → length (body_bytes l) ≡ body_size (length l.formula) (length l.steps)
body_length l =
    omega (arith, length-append (flat_map monomial_bytes l.formula) (flat_map step_bytes l.steps), length_joined monomial_width monomial_bytes (λ _. refl) l.formula, length_joined step_width step_bytes (λ _. refl) l.steps)

pub line_length : (l : Line) → length (line_bytes l) ≡ line_size l
line_length l =
    omega (arith, length-append (head_bytes (length l.formula) (length l.steps)) (body_bytes l), head_length (length l.formula) (length l.steps), body_length l)
