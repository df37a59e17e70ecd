use Rattle.zmeta_devices.specs.Devices.{output_device}
use Rattle.zmeta_offline.proofs.Keeping.{put_none, put_some}
use Rattle.zmeta_offline.proofs.rows.put_piece.Goals as goal

pub returns-then-octets-lt-PIECE : goal.returns-then-octets-lt-PIECE
returns-then-octets-lt-PIECE g c =
    put_none (output_device g.W.Write.contents c.args.output.now) c.args.rows.now

pub returns : goal.returns
returns g c =
    put_some (output_device g.W.Write.contents c.args.output.now)
    (output_device g.W.Write.contents c.put-written.new.self) c.args.rows.now c.hand_out.new.self
    c.octets-2.result.now c.put-written.result c.octets-2.ensures c.put-written.ensures c.hand_out.ensures
