use Rattle.zmeta_devices.specs.Files.{folder}
use Rattle.zmeta_commands.proofs.Tracing.{closed_lines}
use Rattle.zmeta_commands.proofs.traced.close_tracer.Goals as goal

pub returns : goal.returns
returns g c entries has =
    closed_lines g.F.Log.Write.contents
    (folder g.F.Folder.octets g.F.Folder.are_one g.F.Folder.steps c.args.files.now)
    (folder g.F.Folder.octets g.F.Folder.are_one g.F.Folder.steps c.close_log-is_closed.new.files) c.args.path.now
    c.args.tracer c.into_sink.result c.close_log-is_closed.result c.has_failed-has_failed.result c.is_whole.result
    entries c.has_failed-has_failed.ensures c.into_sink.ensures c.close_log-is_closed.ensures c.is_whole.ensures has
