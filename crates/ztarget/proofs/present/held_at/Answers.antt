use Rattle.std.proofs.Common.{◌≡◌, pos, get_or, ◌++◌, ap, ◌∙◌, sym, subst, rules}
use Rattle.std.proofs.lemmas.List.{get_or_default, take_rest}
use Rattle.ztarget.specs.Keeping.{AreHits, records_at_hits}
use Rattle.ztarget.specs.Positions.{at_positions}
use Rattle.zplan.specs.Ranges.{positions_of, positions}
use Rattle.ztarget.specs.Showing.{fitting_after}
use Rattle.ztarget.proofs.AskedPositions.{held_first, first_in_set, stand_at}
use Rattle.ztarget.proofs.present.held_at.Goals as goal

pub put_first-requires : goal.put_first-requires
put_first-requires c =
    let x = get_or c.args.ranges.now 0 (record { start = pos 0; n = pos 0 }) in
    subst (AreHits c.args.databases.now) (sym c.hits_at-hits.ensures) (stand_at c.args.databases.now c.args.found.now (positions_of x) c.requires.stand)

pub returns-clause-held : goal.returns-clause-held
returns-clause-held c =
    let ranges = c.args.ranges.now in
    let x = get_or ranges 0 (record { start = pos 0; n = pos 0 }) in
    let is : x ≡ get_or ranges 0 x = get_or_default ranges 0 _ x c.in-len1-up.len_at_least in
    held_first c.args.size c.args.syntax.now c.args.databases.now c.args.found.now ranges x c.put_first.new.records.items c.put_held.new.records.items c.in_ok-used.used c.hits_at-hits.result.now
    c.in-len1-up.len_at_least is (first_in_set _ ranges 0 x c.in-len1-up.len_at_least is c.requires.within).0 c.hits_at-hits.ensures
    (c.in_ok-used.ensures.held ∙ (search rules)) c.in_ok-used.ensures.used
    (c.in_ok-put_held.ensures.held ∙ ap (λ rs. c.put_first.new.records.items ++ fitting_after c.args.size c.in_ok-used.used (records_at_hits c.args.size c.args.syntax.now c.args.databases.now (at_positions c.args.found.now (positions rs)))) (take_rest ranges 1))
