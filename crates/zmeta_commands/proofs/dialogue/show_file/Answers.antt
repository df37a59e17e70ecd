use Rattle.std.proofs.Common.{subst, ℕ, List, MatchResult}
use Rattle.zmeta_args.specs.Texts.{texts_of}
use Rattle.zmeta_devices.specs.Devices.{output_device, HasGained, PutFailure}
use Rattle.zmeta_commands.proofs.Showing.{put_shown}
use Rattle.zmeta_commands.proofs.dialogue.show_file.Goals as goal

pub returns-in-Ok-clause-shown : goal.returns-in-Ok-clause-shown
returns-in-Ok-clause-shown g c =
    let old = output_device g.W.Write.contents c.args.output.now in
    let new = output_device g.W.Write.contents c.put.new.self in
    put_shown (texts_of c.args.only.now) (g.F.Folder.octets c.args.files.now c.args.path.now) c.in-Ok.text.items old new
    c.put.result c.in-Ok.ensures.text
    (subst (λ (text : List ℕ). MatchResult c.put.result (λ _. HasGained old new text) (PutFailure old new text))
    c.as_slice.ensures.value c.put.ensures)
