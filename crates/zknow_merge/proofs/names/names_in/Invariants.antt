use Rattle.std.proofs.Common.{◌≡◌, drop}
use Rattle.zasn_tables.specs.Within.{all_meanings, whole_of}
use Rattle.zasn.proofs.Lists.{behind}
use Rattle.zknow.specs.Saved.SavedFacts.{saved_name}
use Rattle.zknow_merge.proofs.names.names_in.Given as goal

abbrev pub invariant-loop-node : goal.invariant-loop-node
invariant-loop-node l = behind l.names.items (all_meanings (whole_of saved_name) (drop l.node-index l.nodes)) ≡ all_meanings (whole_of saved_name) l.nodes
