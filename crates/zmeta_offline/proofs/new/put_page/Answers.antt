use Rattle.zmeta_offline.proofs.Changing.{page_put}
use Rattle.zmeta_offline.proofs.new.put_page.Goals as goal

pub returns : goal.returns
returns c =
    page_put c.args.heading.now c.args.earlier.now c.args.later.now c.args.found.now c.in_ok-fresh.fresh
    c.in_ok-changed.changed c.in_ok-gone.gone c.args.text.now.items c.print_change_page.new.out.items
    c.print_change_page.result c.in_ok-fresh.ensures c.in_ok-changed.ensures c.in_ok-gone.ensures
    c.print_change_page.ensures.ok
