-- The counts at the limits, by computing.
use Rattle.std.proofs.Common.{refl}
use Rattle.layout.proofs.sheet_limits.Goals as goal

pub returns : goal.returns
returns c = record { no_monomial = refl; most_monomials = refl; too_many_monomials = refl; no_step = refl; most_steps = refl; too_many_steps = refl; cut_short = refl; one_byte = refl; no_line = refl; most_lines = refl; too_many_lines = refl; left_over = refl }
