use Rattle.zmeta_devices.specs.Devices.{input_device, output_device}
use Rattle.zmeta_offline.proofs.Showing.{input_shown, ends_by}
use Rattle.zmeta_offline.proofs.show.show_text.Goals as goal

pub returns-clause-shown : goal.returns-clause-shown
returns-clause-shown g c =
    input_shown (g.R.Readable.remaining c.args.input.now.reader) c.in_ok-text.text.items c.as_slice.result.now c.in_ok-octets.octets.items c.as_slice-2.result.now c.new-lines.result.items c.show_octets-answer.new.text.items c.as_slice-3.result.now
    (output_device g.W.Write.contents c.args.output.now) (output_device g.W.Write.contents c.print_lines.new.output) c.show_octets-answer.result c.print_lines.result
    c.in_ok-text.ensures.whole c.as_slice.ensures.value c.in_ok-octets.ensures c.as_slice-2.ensures.value c.new-lines.ensures.items c.show_octets-answer.ensures c.as_slice-3.ensures.value c.print_lines.ensures

pub returns-clause-failed : goal.returns-clause-failed
returns-clause-failed g c =
    ends_by (input_device g.R.Readable.remaining c.read_all.new.self) c.as_slice-2.result.now c.new-lines.result.items c.show_octets-answer.new.text.items c.as_slice-3.result.now
    (output_device g.W.Write.contents c.args.output.now) (output_device g.W.Write.contents c.print_lines.new.output) c.show_octets-answer.result c.print_lines.result
    c.show_octets-answer.ensures c.print_lines.ensures
