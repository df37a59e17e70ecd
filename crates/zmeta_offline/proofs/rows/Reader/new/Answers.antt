use Rattle.std.proofs.Common.{[], ◌∷◌, refl, subst, sym}
use Rattle.std.specs.List.{AllByRecursion}
use Rattle.zmeta_args.specs.Texts.{texts_of}
use Rattle.zmeta_offline.specs.Rows.{path_at, IsWindow}
use Rattle.zmeta_offline.proofs.Keeping.{all_push, none_stands}
use Rattle.zmeta_offline.proofs.rows.Reader.new.Goals as goal

pub loop-preserved : goal.loop-preserved
loop-preserved c octets paths =
    subst (AllByRecursion (IsWindow octets paths)) (sym c.in_ok-push.ensures.items)
    (all_push (IsWindow octets paths) c.loop.windows.items (record { file = 0; begin = 0; octets = c.new.result })
    (c.loop.invariant octets paths)
    (none_stands (octets (path_at paths 0)) 0 c.new.result.items c.new.ensures.items))

pub returns : goal.returns
returns c octets = record { of = refl; windows = c.loop.invariant octets (texts_of c.args.paths.now) }
