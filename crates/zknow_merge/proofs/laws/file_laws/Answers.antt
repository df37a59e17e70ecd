use Rattle.zknow_merge.proofs.FileTheory as files
use Rattle.zknow_merge.proofs.laws.file_laws.Goals as goal

pub returns : goal.returns
returns c = files.file_laws
