use Rattle.std.proofs.Common.{subst, Bool}
use Rattle.zmeta_trace.specs.Entries.{PutEntryResult}
use Rattle.zmeta_trace.proofs.Talking.{told_more, told_outside}
use Rattle.zmeta_trace.proofs.dialogue.print_dialogue.Goals as goal

pub returns-then-not-branch : goal.returns-then-not-branch
returns-then-not-branch c =
    let names = c.args.shown.now.names.now in
    let chosen = c.args.shown.now.chosen.now in
    let e = c.index-entries-index.result in
    let before = c.loop-index.talks.items in
    let after = c.put_entry.new.talks.items in
    let now = c.loop-index.out.items in
    let then = c.put_entry.new.out.items in
    told_outside names chosen c.args.entries.now c.loop-index.index e before after c.args.out.now.items now then
    c.loop-index-test.true c.index-entries-index.is c.loop-index.invariant
    (subst (λ (b : Bool). PutEntryResult names chosen e before after now then b) c.if-not-branch.true
    c.in_ok-put_entry.ensures)

pub loop-index-preserved : goal.loop-index-preserved
loop-index-preserved c =
    let names = c.args.shown.now.names.now in
    let chosen = c.args.shown.now.chosen.now in
    let e = c.index-entries-index.result in
    let before = c.loop-index.talks.items in
    let after = c.put_entry.new.talks.items in
    let now = c.loop-index.out.items in
    let then = c.put_entry.new.out.items in
    told_more names chosen c.args.entries.now c.loop-index.index e before after c.args.out.now.items now then
    c.loop-index-test.true c.index-entries-index.is c.loop-index.invariant
    (subst (λ (b : Bool). PutEntryResult names chosen e before after now then b) c.if-not-branch.false
    c.in_ok-put_entry.ensures)
