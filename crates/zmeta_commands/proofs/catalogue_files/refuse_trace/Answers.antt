use Rattle.std.proofs.Common.{subst, refl, inl, ◌∙◌, ℕ, List}
use Rattle.zmeta_devices.specs.Devices.{output_device, AfterTellLines}
use Rattle.zmeta_commands.proofs.catalogue_files.refuse_trace.Goals as goal

pub returns-in-Ok : goal.returns-in-Ok
returns-in-Ok g c =
    inl (
      subst (λ (lines : List ℕ). AfterTellLines (output_device g.E.Write.contents c.args.errors.now)
          (output_device g.E.Write.contents c.put_lines.new.self) lines) (c.as_slice.ensures.value ∙ c.in-Ok.ensures)
          c.put_lines.ensures,
      refl,
    )
