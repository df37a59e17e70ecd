use Rattle.std.proofs.Common.{rules, refl, subst, map}
use Rattle.zmeta_devices.specs.Devices.{input_device}
use Rattle.zmeta_offline.specs.Merged.{IsMergeFault}
use Rattle.zmeta_offline.proofs.Merging.{begun, all_stepped}
use Rattle.zmeta_offline.proofs.merged.merge_streams.Goals as goal

pub loop-init : goal.loop-init
loop-init g c = (
  begun (input_device g.R.Readable.remaining) c.args.streams.now (g.W.Write.contents c.args.draft.now)
      (record { merge = c.in_ok-new.field-0; piece = c.in_ok-piece_of.field-0; merged = c.new-2.result; saved = c.args.saved })
      _ refl c.in_ok-new.ensures c.in_ok-piece_of.ensures (search rules),
  refl,
)

pub returns-in-Ok-true : goal.returns-in-Ok-true
returns-in-Ok-true g c =
    let starts = map (input_device g.R.Readable.remaining) c.args.streams.now in
    let begun = g.W.Write.contents c.args.draft.now in
    all_stepped starts (map (input_device g.R.Readable.remaining) c.step.new.streams) begun (g.W.Write.contents c.step.new.draft)
    c.step.new.self c.in-Ok-true.field-0 (search rules) (c.in-Ok-true.ensures.ok starts begun c.loop.invariant.0)

pub returns-in-Err : goal.returns-in-Err
returns-in-Err g c =
    subst (λ z. IsMergeFault (map (input_device g.R.Readable.remaining) c.args.streams.now) z c.in-Err.fault) c.loop.invariant.1
    (c.in-Err.ensures.err (map (input_device g.R.Readable.remaining) c.args.streams.now) (g.W.Write.contents c.args.draft.now)
    c.loop.invariant.0)
