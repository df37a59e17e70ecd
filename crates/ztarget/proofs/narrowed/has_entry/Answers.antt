use Rattle.std.proofs.Common.{◌∙◌, ap, sym, subst, ltb, rules, w64}
use Rattle.std.proofs.lemmas.Int.{to_z-of_z}
use Rattle.std.proofs.lemmas.List.{take_rest}
use Rattle.std.proofs.lemmas.List.Sorted.{IsPartitionPoint-from_clause, IsPartitionedBy-ltb}
use Rattle.ztarget.specs.Narrowing.{AreInEntryOrder, has_entry}
use Rattle.ztarget.proofs.Narrowings.{first_of_entry, not_falling}
use Rattle.ztarget.proofs.narrowed.has_entry.Goals as goal

pub returns : goal.returns
returns c = λ up.
    let places = c.args.places.now in
    let first = c.partition_point-first.result in
    let parted = IsPartitionedBy-ltb (λ p. p.entry) places c.args.entry (not_falling 0 places up) in
    let point = IsPartitionPoint-from_clause (λ p. ltb p.entry c.args.entry) places first c.partition_point-first.ensures.partitioned parted (λ a r q k. search rules) in
    let at = first_of_entry c.args.used c.args.entries.now c.args.entry first places up point in
    rw (to_z-of_z w64 c.args.used c.ranges.used) at c.has_entry_at_front.ensures (subst (AreInEntryOrder c.args.entry) (sym (take_rest places first)) at.0)
    ∙ ap (λ l. has_entry c.args.used c.args.entries.now l c.args.entry) (take_rest places first)
    ∙ at.1
