use Rattle.std.proofs.Common.{◌≡◌, drop}
use Rattle.zasn_tables.specs.Within.{all_spellings}
use Rattle.zasn_tables.specs.Meanings.{octets_spelling}
use Rattle.zasn.proofs.Lists.{behind}
use Rattle.zasn.proofs.texts.all_of_them.Given as goal

abbrev pub invariant-loop-text : goal.invariant-loop-text
invariant-loop-text l = behind l.out (all_spellings (octets_spelling l.tag) (drop l.text-index l.texts)) ≡ all_spellings (octets_spelling l.tag) l.texts
