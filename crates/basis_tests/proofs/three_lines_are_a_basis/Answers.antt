-- The three lines meet the criterion.
use Rattle.basis_tests.proofs.SixCodes.{three_lines}
use Rattle.basis_tests.proofs.three_lines_are_a_basis.Goals as goal

pub returns : goal.returns
returns c = three_lines
