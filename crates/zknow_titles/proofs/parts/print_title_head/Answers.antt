use Rattle.std.proofs.Common.{◌≡◌, if◌then◌else◌, List, ◌++◌, is_ok, map, string_bytes, ap, ◌∙◌}
use Rattle.std.specs.Prelude.{ℕ, Result, Ok, Err, OnOk}
use Rattle.zknow_titles.specs.Blocks.{filled_by}
use Rattle.zknow_titles.specs.Heads.{head_lines_with}
use Rattle.zknow_titles.specs.Lines.{ended}
use Rattle.zknow_titles.specs.Parts.{title_top}
use Rattle.zknow_titles.specs.Titles.{sets_of}
use Rattle.zknow_titles.proofs.PartTheory.{top_made}
use Rattle.zknow_titles.proofs.parts.print_title_head.Goals as goal

appended : {E : Type 0} (r : Result (Unit {0}) E) (new old octets made : List ℕ) → octets ≡ made
    → new ≡ (if is_ok r then old ++ octets else old) → OnOk r (new ≡ old ++ made)
appended (Ok u) new old octets made same h = h ∙ ap (λ t. old ++ t) same
appended (Err e) new old octets made same h = tt

pub returns-clause-ok : goal.returns-clause-ok
returns-clause-ok c =
    let shown = map string_bytes c.args.shown.now in
    let stops = c.args.stops.now in
    let facts = c.args.knowledge.now in
    let filled = filled_by c.args.filled facts in
    let head = head_lines_with filled shown facts 0 stops (sets_of facts) in
    let text : c.in_ok-text.text.items ≡ ended head =
    c.in_ok-text.ensures
    ∙ ap (λ sets. ended (head_lines_with filled shown facts 0 stops sets))
    (c.deref.ensures.value ∙ c.in_ok-sets.ensures) in
    let whole : c.deref-4.result.now ≡ title_top c.args.w filled shown stops facts =
    c.deref-4.ensures.value
    ∙ top_made c.args.w head c.in_ok-text.text.items c.deref-2.result.now c.deref-3.result.now
    c.new-between.result.items c.extend_from_slice.new.self.items text (c.deref-2.ensures.value ∙ text)
    c.new-between.ensures.items (c.deref-3.ensures.value ∙ c.in_ok-put_gap.ensures)
    c.in_ok-extend_from_slice.ensures.items in
    appended c.extend_from_slice-2.result c.extend_from_slice-2.new.self.items c.args.out.now.items
    c.deref-4.result.now (title_top c.args.w filled shown stops facts) whole c.extend_from_slice-2.ensures.items
