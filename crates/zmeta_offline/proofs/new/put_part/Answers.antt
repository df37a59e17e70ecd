use Rattle.zmeta_offline.proofs.Changing.{part_put}
use Rattle.zmeta_offline.proofs.new.put_part.Goals as goal

pub returns : goal.returns
returns c =
    part_put c.args.view c.args.kind c.args.names.now c.args.found.now c.in_ok-known.known c.args.text.now.items
    c.put_count.new.text.items c.print_view.new.out.items c.print_view.result c.in_ok-known.ensures
    c.in_ok-put_count.ensures c.print_view.ensures.ok
