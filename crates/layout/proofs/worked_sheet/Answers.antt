-- The three lines over six codes, by computing.
use Rattle.std.proofs.Common.{refl}
use Rattle.layout.proofs.worked_sheet.Goals as goal

pub returns : goal.returns
returns c = record { bytes = refl; begins = refl; written = refl; read_back = refl; pair_and_weight = refl; most_significant_first = refl }
