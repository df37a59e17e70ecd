use Rattle.std.proofs.Common.{subst, ℕ, List}
use Rattle.zmeta_args.specs.Texts.{texts_of}
use Rattle.zoom.specs.Traces.{IsTrace}
use Rattle.zmeta_commands.proofs.Showing.{file_text}
use Rattle.zmeta_commands.proofs.dialogue.text_at.Goals as goal

pub returns-clause-text : goal.returns-clause-text
returns-clause-text g c =
    file_text (λ text. text.items) (texts_of c.args.only.now) (g.F.Folder.octets c.args.files.now c.args.path.now)
    c.in_ok-octets.octets c.in_ok-trace.trace c.text_of.result c.in_ok-octets.ensures.octets
    (subst (λ (l : List ℕ). IsTrace l c.in_ok-trace.trace) c.as_slice.ensures c.in_ok-trace.ensures)
    c.text_of.ensures
