use Rattle.std.proofs.Common.{◌++◌, sym, ap, ◌∙◌}
use Rattle.std.specs.String.{string_bytes}
use Rattle.std.proofs.lemmas.List.{append-nil}
use Rattle.zmarc.proofs.ShownTheory.{shown_text_mark}
use Rattle.zmarc.proofs.shown.put_char.Goals as goal

pub returns-then-is_sort_mark-clause-ok : goal.returns-then-is_sort_mark-clause-ok
returns-then-is_sort_mark-clause-ok c =
    let line = string_bytes c.args.line.now in
    let none = shown_text_mark c.args.c (sym c.is_sort_mark.ensures ∙ c.if-is_sort_mark.true) in
    sym (ap (λ l. line ++ l) none ∙ append-nil line)
