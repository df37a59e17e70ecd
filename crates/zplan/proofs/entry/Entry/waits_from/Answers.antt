use Rattle.std.proofs.Common.{◌==◌, ap, sym, ◌∙◌}
use Rattle.std.specs.Prelude.{◌&&◌, nat_eq}
use Rattle.zplan.specs.Positions.{first_of}
use Rattle.zplan.specs.Ranges.{places}
use Rattle.zplan.proofs.Entries.{begin_is}
use Rattle.zplan.proofs.entry.Entry.waits_from.Goals as goal

pub returns-then-self : goal.returns-then-self
returns-then-self c =
    ap (λ s. nat_eq s c.args.first) (begin_is c.args.self.now.list.items c.index.result.now c.requires c.index.ensures)
    ∙ sym (ap (λ t. t && first_of (places c.args.self.now.list.items) == c.args.first) c.if-self.true)
