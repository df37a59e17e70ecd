use mir.Val.{SFits}
use Rattle.std.specs.Int.{w64}
use Rattle.std.proofs.Common.{refl, rules, sym, ◌∙◌}
use Rattle.std.proofs.lemmas.Int.{to_z-of_z}
use Rattle.zmeta_offline.proofs.Noting.{marks_same, marks_quiet, marks_failed, marks_record, on_ok}
use Rattle.zmeta_offline.proofs.scanned.Marks.note.Goals as goal

pub returns-then-not-is_taken : goal.returns-then-not-is_taken
returns-then-not-is_taken c = λ own theirs facts f count is behind marks.
    marks_same c.args.first.now theirs own facts f c.args.number c.args.place count is c.args.self.now
    (sym c.if-not-is_taken.true ∙ c.is_taken.ensures) marks

pub returns-in-Count : goal.returns-in-Count
returns-in-Count c =
    on_ok c.add_other.result _ _ (λ added own theirs facts f count is behind marks.
    marks_quiet c.args.first.now theirs own facts f c.args.number c.args.place count is
    (sym c.if-not-is_taken.false ∙ c.is_taken.ensures) c.args.self.now _ c.in-Count.is refl refl
    (λ noted. added noted f behind) marks)
    c.add_other.ensures

pub returns-in-Failed : goal.returns-in-Failed
returns-in-Failed c =
    on_ok c.add_other-in-Failed.result _ _ (λ added own theirs facts f count is behind marks.
    marks_failed c.args.first.now theirs own facts f c.args.number c.args.place count is
    (sym c.if-not-is_taken.false ∙ c.is_taken.ensures) c.args.self.now _ c.in-Failed.is refl refl
    (λ noted. added noted f behind) marks)
    c.add_other-in-Failed.ensures

pub returns-in-Record : goal.returns-in-Record
returns-in-Record c =
    let fits : SFits w64 c.args.place.number = search rules in
    on_ok c.put.result _ _ (λ put own theirs facts f count is behind marks.
    marks_record c.args.first.now theirs own facts f c.args.number c.args.place count is
    (sym c.if-not-is_taken.false ∙ c.is_taken.ensures) c.args.self.now _ c.in-Record.is put refl refl marks)
    (rw (to_z-of_z w64 c.args.place.number fits) at c.put.ensures.ok)
