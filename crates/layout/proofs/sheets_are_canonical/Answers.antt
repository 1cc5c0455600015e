-- Bytes that are read are a sheet.
use Rattle.layout.proofs.Again.{canonical}
use Rattle.layout.proofs.sheets_are_canonical.Goals as goal

pub returns : goal.returns
returns c = canonical
