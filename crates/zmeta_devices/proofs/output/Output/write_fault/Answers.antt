use Rattle.zmeta_devices.specs.Devices.{output_device}
use Rattle.zmeta_devices.proofs.Telling.{told_behind}
use Rattle.zmeta_devices.proofs.output.Output.write_fault.Goals as goal

pub returns-then-show_fault : goal.returns-then-show_fault
returns-then-show_fault g c =
    told_behind (output_device g.W.Write.contents c.args.self.now) (output_device g.W.Write.contents c.show_fault.new.self)
    (output_device g.W.Write.contents c.write_words.new.self) c.args.fault.now c.show_fault.result
    c.if-show_fault.true c.show_fault.ensures c.write_words.ensures
