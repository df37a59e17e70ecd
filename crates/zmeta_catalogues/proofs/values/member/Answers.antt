use Rattle.toml.proofs.Views.{table_get}
use Rattle.zmeta_catalogues.proofs.values.member.Goals as goal

pub returns : goal.returns
returns c = table_get c.get.result c.args.word.now c.args.table.now.entries c.get.ensures.value
