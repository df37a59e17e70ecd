use Rattle.std.proofs.Common.{◌≡◌, subst, sym}
use Rattle.std.specs.Option.{IfSome}
use Rattle.zmeta_devices.specs.Devices.{output_device}
use Rattle.zmeta_commands.proofs.Running.{help_put}
use Rattle.zmeta_commands.proofs.usage.print_help.Goals as goal

pub returns : goal.returns
returns g c =
    let known = g.D.Display.output c.args.text.now in
    let says = subst (λ z. IfSome known (λ due. z ≡ due)) (sym c.as_bytes.ensures.value) c.in_ok-whole.ensures.ok in
    help_put known (output_device g.W.Write.contents c.args.output.now)
    (output_device g.W.Write.contents c.put.new.self) _ c.put.result says c.put.ensures
