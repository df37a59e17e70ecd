use Rattle.std.proofs.Common.{subst, ◌∙◌}
use Rattle.std.specs.Option.{IfSome}
use Rattle.zmeta_world.specs.Search.{search_texts}
use Rattle.zmeta_commands.specs.Worlds.{SearchedResult}
use Rattle.zmeta_commands.proofs.Asking.{told_known}
use Rattle.zmeta_commands.proofs.worlds.world_at.Goals as goal

pub returns-clause-world : goal.returns-clause-world
returns-clause-world g c =
    let read =
    subst (λ z. IfSome z (λ octets. SearchedResult (search_texts c.texts.result) octets c.searched_world-answer.result))
    c.file_at-file.ensures.octets c.searched_world-answer.ensures.world in
    let asked = subst (λ s. IfSome (g.F.Folder.octets c.args.files.now c.args.path.now)
    (λ octets. SearchedResult s octets c.searched_world-answer.result))
    (c.texts.ensures ∙ c.in_ok-copy.ensures) read in
    told_known (g.F.Folder.octets c.args.files.now c.args.path.now) c.args.search.now
    c.searched_world-answer.result c.of_options.result c.of_options.ensures asked
