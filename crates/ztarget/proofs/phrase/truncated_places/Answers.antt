use Rattle.std.proofs.lemmas.List.Filters.{dedup_is}
use Rattle.ztarget.proofs.Members.{place_eq, place_ties}
use Rattle.ztarget.proofs.Truncations.{tidied}
use Rattle.ztarget.proofs.phrase.truncated_places.Goals as goal

pub returns : goal.returns
returns c =
    let once = dedup_is place_eq c.sort_unstable.new.self.items c.dedup.new.self.items c.dedup.ensures.filtered in
    tidied c.args.entries.now c.args.index.now c.args.word.now c.in_ok-found.ensures.in_order c.requires place_eq place_ties
    c.in_ok-found.found.items c.sort_unstable.new.self.items c.dedup.new.self.items
    c.in_ok-found.ensures.places c.sort_unstable.ensures.permutation c.sort_unstable.ensures.sorted once
