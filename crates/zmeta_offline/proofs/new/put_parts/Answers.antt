use Rattle.zmeta_offline.proofs.Changing.{parts_put}
use Rattle.zmeta_offline.proofs.new.put_parts.Goals as goal

pub returns : goal.returns
returns c =
    parts_put c.args.view c.args.earlier.now c.args.later.now c.args.found.now c.args.text.now.items
    c.put_part.new.text.items c.put_part-2.new.text.items c.put_part-3.new.text.items c.put_part-3.result
    c.in_ok-put_part.ensures c.in_ok-put_part-2.ensures c.put_part-3.ensures
