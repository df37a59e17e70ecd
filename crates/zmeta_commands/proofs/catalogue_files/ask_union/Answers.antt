use Rattle.std.proofs.Common.{subst₂, List, Option}
use Rattle.zmarc.specs.declared.charset.Charset.{Charset}
use Rattle.zoom.specs.HostWaits.{HostWaits}
use Rattle.zmeta_commands.specs.Ask.{IsAskedAt}
use Rattle.zmeta_commands.specs.Choice.{choice_texts}
use Rattle.zmeta_commands.proofs.Unions.{asked}
use Rattle.zmeta_commands.proofs.catalogue_files.ask_union.Goals as goal

pub returns-clause-asked : goal.returns-clause-asked
returns-clause-asked g c =
    let run = c.in_ok-run.run' in
    let chosen = c.in-Ok.chosen.items in
    let options = c.args.options in
    let choice = choice_texts options.choice in
    let r = c.in_ok-answered.answered.finished in
    asked choice options.given.now options.search.now options.view
    (g.S.Folder.octets c.args.system.now options.paths.world.now) run chosen r c.in_ok-run.ensures.planned
    c.in-Ok.ensures
    (subst₂ (λ (waits : List HostWaits) (charsets : List (Option Charset)).
    IsAskedAt choice waits chosen options.view charsets run.network r)
    c.as_slice.ensures.value c.as_slice-2.ensures.value c.in_ok-answered.ensures.asked)
