-- Three times the line is lost.
use Rattle.basis_tests.proofs.SixCodes.{a_line_is_lost}
use Rattle.basis_tests.proofs.a_line_is_lost_without_its_annihilator.Goals as goal

pub returns : goal.returns
returns c = a_line_is_lost
