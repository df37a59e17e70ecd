use Rattle.std.proofs.Common.{sym, subst, refl, List, [], ◌∷◌}
use Rattle.zoom_asking.specs.Inquiries.{Entry}
use Rattle.zoom_asking.specs.Askings.{AskingAfter}
use Rattle.zoom_trace.specs.declared.entry.Given.TheVariants as givens
use Rattle.zoom_trace.specs.Recording.{began, total_given}
use Rattle.zoom_trace.proofs.TracedLines.{more_if}
use Rattle.zoom_trace.proofs.Recorded.{opening_untold}
use Rattle.zoom_trace.proofs.recording.Recorder.begin.Goals as goal

pub returns-clause-recorded : goal.returns-clause-recorded
returns-clause-recorded g c =
    let W = g.W.Write.contents in
    let at = c.args.now in
    let host = c.args.host in
    let manner = began at (givens.Manner c.args.manner) in
    let connect = began at (givens.Connect host.connect) in
    let patience = began at (givens.Patience host.patience) in
    let total = total_given at c.args.total in
    let first = c.args.self.now.trace in
    let last = c.note_total.new.trace in
    let three = more_if W (patience ∷ []) total c.note_given-2.new.trace c.note_given-3.new.trace last
    c.in_ok-note_given-3.ensures c.in_ok-note_total.ensures in
    let two = more_if W (connect ∷ []) (patience ∷ total) c.note_given.new.trace c.note_given-2.new.trace last
    c.in_ok-note_given-2.ensures three in
    let one = more_if W (manner ∷ []) (connect ∷ patience ∷ total) first c.note_given.new.trace last
    c.in_ok-note_given.ensures two in
    let now = c.number_fits.ensures in
    record {
      fed = λ i history after.
          subst (λ (h : List Entry). AskingAfter i h c.args.self.now.asking)
          (sym (opening_untold at c.args.manner host c.args.total history)) after;
      size = refl;
      writable = (
        (now, tt),
        ((now, c.number_fits-2.ensures), ((now, c.number_fits-3.ensures), c.total_fits.ensures)),
      );
      traced = one;
    }
