use Rattle.std.proofs.Common.{◌∙◌, subst, List}
use Rattle.zmeta_args.specs.Texts.{texts_of}
use Rattle.zmeta_trace.specs.Given.{given_entries}
use Rattle.zmeta_world.specs.Search.{search_texts}
use Rattle.zoom.specs.TraceEntry.{TraceEntry}
use Rattle.zoom.specs.Tracing.{IsTracedOn}
use Rattle.zmeta_commands.proofs.Tracing.{begun}
use Rattle.zmeta_commands.proofs.traced.begin_trace.Goals as goal

pub returns-clause-begun : goal.returns-clause-begun
returns-clause-begun g c =
    let fresh = c.in_ok-tracer.tracer in
    let left = c.put_all.new.tracer in
    begun g.F.Log.Write.contents (g.F.Folder.steps c.begin_log.new.files)
    (given_entries c.args.world (search_texts c.args.search.now) (texts_of c.args.only.now)) fresh left
    c.in_ok-tracer.ensures.new
    (subst (λ (l : List TraceEntry). IsTracedOn g.F.Log.Write.contents l fresh left)
    (c.as_slice.ensures.value ∙ c.in_ok-entries.ensures) c.in_ok-put_all.ensures)
