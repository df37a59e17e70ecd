use Rattle.std.proofs.Common.{◌<◌, length, refl, arith}
use Rattle.std.proofs.lemmas.Option.{slice_get_read}
use Rattle.zoom_asking.proofs.Feeding.{taken_out}
use Rattle.zoom_asking.proofs.asking.Asking.outgoing.Goals as goal

pub returns-clause-after : goal.returns-clause-after
returns-clause-after c =
    let old = c.args.self.now in
    let before = c.index_mut-unsent.result.now in
    let lt : c.args.c < length old.unsent.items = let h = old.held in let r = c.requires in omega arith in
    taken_out c.args.c old _ before c.clear.new.self
    (slice_get_read old.unsent.items (length old.unsent.items) c.args.c before refl lt c.index_mut-unsent.ensures.value)
    refl c.clear.ensures.items refl refl
