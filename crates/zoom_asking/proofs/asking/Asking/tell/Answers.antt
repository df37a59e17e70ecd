use Rattle.std.proofs.Common.{refl}
use Rattle.zoom_asking.proofs.Telling.{told, same_change}
use Rattle.zoom_asking.proofs.asking.Asking.tell.Goals as goal

pub returns-clause-told : goal.returns-clause-told
returns-clause-told c =
    told c.args.c c.args.at c.args.what c.args.self.now _ c.bring.new.self c.change_of-change.result
    c.in_ok-note.ensures.after
    refl refl c.in_ok-bring.ensures.talked
    (same_change c.args.c c.args.at c.args.what c.args.self.now c.note.new.self c.course.result.now
    c.course-2.result.now
    c.kind_of-before.result c.change_of-change.result c.in_ok-note.ensures.after c.course.ensures c.course-2.ensures
    c.kind_of-before.ensures c.change_of-change.ensures)
