-- Sheets are read back.
use Rattle.layout.proofs.Back.{reads_back}
use Rattle.layout.proofs.sheets_read_back.Goals as goal

pub returns : goal.returns
returns c = reads_back
