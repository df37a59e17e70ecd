use Rattle.std.proofs.Common.{◌≡◌, subst, ◌∙◌}
use Rattle.std.specs.Prelude.{Result, Ok, Err, OnOk}
use Rattle.std.specs.Str.{IsUtf8}
use Rattle.zknow_json.specs.Lines.{json_lines}
use Rattle.zknow_json.proofs.lines.print_json.Goals as goal

always : {E : Type 0} (r : Result (Unit {0}) E) (P : Type 0) → P → OnOk r P
always (Ok u) P h = h
always (Err e) P h = tt

pub returns-clause-utf8 : goal.returns-clause-utf8
returns-clause-utf8 c =
    let lines = json_lines c.args.names.now c.args.charsets.now c.args.stops.now c.args.knowledge.now in
    let same : c.as_str.result.now ≡ lines = c.as_str.ensures.value ∙ c.in_ok-text.ensures in
    always c.extend_from_slice.result (IsUtf8 lines) (subst IsUtf8 same c.as_str.utf8)
