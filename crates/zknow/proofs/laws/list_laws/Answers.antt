use Rattle.std.specs.Prelude.{refl}
use Rattle.std.specs.List.{filter_map}
use Rattle.zknow.specs.List.Listing.{block_key_of, row_key_of}
use Rattle.zknow.specs.Tables.Keys.{set_cmp, set_total, set_exact, row_cmp, row_total, row_exact}
use Rattle.zknow.proofs.ListTheory.Conflicts.{are_keys, conflict_listed}
use Rattle.zknow.proofs.laws.list_laws.Goals as goal

pub returns : goal.returns
returns c = record {
  whole = λ names mode facts. refl;
  blocks = λ facts. are_keys set_cmp set_total set_exact (filter_map block_key_of facts);
  rows = λ facts. are_keys row_cmp row_total row_exact (filter_map row_key_of facts);
  conflict = conflict_listed;
}
