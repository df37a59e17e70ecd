use Rattle.std.proofs.Common.{◌≡◌, ◌++◌, map, string_bytes, ap, ◌∙◌}
use Rattle.std.specs.Prelude.{Result, Ok, Err, OnOk}
use Rattle.std.specs.List.{flat_map}
use Rattle.zknow_titles.specs.Heads.{head_lines}
use Rattle.zknow_titles.specs.Lines.{ended}
use Rattle.zknow_titles.specs.Rows.{row_lines, widths}
use Rattle.zknow_titles.specs.Titles.{title_lines}
use Rattle.zknow_titles.proofs.HeadTheory.{all_appended}
use Rattle.zknow_titles.proofs.titles.put_lines.Goals as goal

on_ok : {E : Type 0} (r : Result (Unit {0}) E) (P Q : Type 0) → (P → Q) → OnOk r P → OnOk r Q
on_ok (Ok u) P Q f h = f h
on_ok (Err e) P Q f h = tt

pub returns : goal.returns
returns c =
    let shown = map string_bytes c.args.shown.now in
    let charsets = c.args.charsets.now in
    let facts = c.args.knowledge.now in
    let rows = c.args.rows.now in
    let head = head_lines shown facts 0 c.args.stops.now c.args.sets.now in
    let found = flat_map (row_lines c.args.extent c.in_ok-w.w shown charsets facts) rows in
    let lines = flat_map (row_lines c.args.extent (widths shown rows) shown charsets facts) rows in
    on_ok c.put_rows.result (c.put_rows.new.out.items ≡ c.put_between.new.out.items ++ ended found)
    (c.put_rows.new.out.items
    ≡ c.args.out.now.items
    ++ ended (title_lines c.args.extent shown charsets c.args.stops.now facts c.args.sets.now rows))
    (λ last. all_appended c.args.out.now.items c.extend_from_slice.new.self.items c.put_between.new.out.items
    c.put_rows.new.out.items c.deref.result.now c.deref-2.result.now head found lines rows
    (c.deref.ensures.value ∙ c.in_ok-head.ensures) (c.deref-2.ensures.value ∙ c.in_ok-head.ensures)
    (ap (λ w. flat_map (row_lines c.args.extent w shown charsets facts) rows) c.in_ok-w.ensures)
    c.in_ok-extend_from_slice.ensures.items
    c.in_ok-put_between.ensures last)
    c.put_rows.ensures
