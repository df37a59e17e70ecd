use Rattle.zmeta_offline.proofs.Noting.{on_ok}
use Rattle.zmeta_offline.proofs.NotingOthers.{added_fact, front_is_fact}
use Rattle.zmeta_offline.proofs.scanned.add_other.Goals as goal

pub add-added-requires : goal.add-added-requires
add-added-requires c = front_is_fact c.in-Ok.fact c.in-Some.element.now _ c.in-Ok.ensures.ok

pub returns : goal.returns
returns c =
    on_ok c.add-added.result _ _ (λ union noted f behind.
    added_fact f c.in-Ok.fact c.args.scan.now c.in-Some.element.now _ c.args.others.now c.add-added.new.self behind
    c.in-Some.ensures c.in-Ok.ensures.ok c.lawful.ensures union) c.add-added.ensures.ok
