use Rattle.std.proofs.lemmas.Bool.Decides.{Decides-eqb}
use Rattle.std.proofs.lemmas.Map.Lookups.{btree_map_eq-Decides}
use Rattle.zknow_forms.proofs.Keys.{keys_decide}
use Rattle.zknow_forms.proofs.form.are_same.Goals as goal

pub returns : goal.returns
returns c = btree_map_eq-Decides keys_decide Decides-eqb c.args.a.now c.args.b.now c.eq.result c.eq.ensures
