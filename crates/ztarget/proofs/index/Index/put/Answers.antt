use Rattle.ztarget.proofs.Built.{OnOk_map, put_lent, put_fresh}
use Rattle.ztarget.proofs.index.Index.put.Goals as goal

pub returns-in-Some : goal.returns-in-Some
returns-in-Some c = rw (← c.self.view_is) (OnOk_map c.push.result _ _
    (λ pushed. put_lent c.self.inside.words (c.get_mut.follows.lender c.push.new.self) c.args.word.now c.args.place c.push.new.self c.in-Some.places.now c.in-Some.ensures.value (c.get_mut.follows.holds c.push.new.self) pushed)
    c.push.ensures)

pub returns : goal.returns
returns c = rw (← c.self.view_is) (put_fresh c.self.inside.words c.insert.new.self c.args.word.now c.args.place c.push-2.new.self c.in_default.ensures.value
    (rw (c.in_ok-copy.ensures, c.get_mut.follows.holds-at-none) at c.in_ok-insert.ensures.updates) (rw c.new-places.ensures at c.in_ok-push.ensures))
