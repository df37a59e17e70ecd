use Rattle.zoom_devices.specs.declared.device.Failed.{Failed}
use Rattle.zoom_devices.proofs.Devices.{more_written}
use Rattle.zoom_io.proofs.outgoing.write_all.Goals as goal

pub loop-rest-preserved : goal.loop-rest-preserved
loop-rest-preserved g c =
    more_written Failed _ _ _ _ _ c.in_ok-count.count c.loop-rest.invariant c.in_ok-count.ensures.writes
