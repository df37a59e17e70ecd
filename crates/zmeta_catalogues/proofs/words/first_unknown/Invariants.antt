use Rattle.std.proofs.Common.{◌≡◌}
use Rattle.toml.specs.View.{members_view}
use Rattle.zmeta_catalogues.specs.Words.{first_unknown}
use Rattle.zmeta_catalogues.proofs.words.first_unknown.Given as goal

abbrev pub invariant-members : goal.invariant-members
invariant-members l =
    first_unknown l.kind (members_view l.table.entries) ≡ first_unknown l.kind (members_view l.word-iterator)
