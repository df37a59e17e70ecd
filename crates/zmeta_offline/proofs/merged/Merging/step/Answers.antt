use Rattle.std.proofs.Common.{rules, inl, inr, ◌≡◌, ◌∙◌, sym, subst, ap, refl, ℕ, ◌<◌, arith, List, [], length, map}
use Rattle.zmeta_devices.specs.Devices.{InputDevice, input_device}
use Rattle.zmeta_offline.proofs.Merging.{all_written, needed, unended, refused_among, due_refused, due_others, refused_fault, read_fault, map_length, element, path_is}
use Rattle.zmeta_offline.proofs.merged.Merging.step.Goals as goal
use Rattle.zmeta_offline.proofs.merged.Merging.step.Goals.{then-len-ge-PIECE+in_ok-write-in-Again, else-len-ge-PIECE}

pub feed-requires-clause-among : goal.feed-requires-clause-among
feed-requires-clause-among g c =
    let f = input_device g.R.Readable.remaining in
    let r = c.requires in
    let lt = needed r.0 (map f c.args.streams.now) r.1 (g.W.Write.contents c.args.draft.now) c.advance.new.self _
    (c.in_ok-advance.ensures.ok r.0 (map f c.args.streams.now) r.1 (g.W.Write.contents c.args.draft.now) r.2) c.in-Need.k c.in-Need.is in
    omega (arith, lt, map_length f c.args.streams.now)

pub feed-requires-clause-room : goal.feed-requires-clause-room
feed-requires-clause-room g c =
    let f = input_device g.R.Readable.remaining in
    let r = c.requires in
    (c.in_ok-advance.ensures.ok r.0 (map f c.args.streams.now) r.1 (g.W.Write.contents c.args.draft.now) r.2).merging.room

pub returns-in-Err-clause-err : goal.returns-in-Err-clause-err
returns-in-Err-clause-err g c = λ starts begun m.
    let f = input_device g.R.Readable.remaining in
    let due = c.in_ok-advance.ensures.ok starts (map f c.args.streams.now) begun (g.W.Write.contents c.args.draft.now) m in
    let lt = needed starts (map f c.args.streams.now) begun (g.W.Write.contents c.args.draft.now) c.advance.new.self _ due c.in-Need.k c.in-Need.is in
    let below : c.in-Need.k < length c.args.streams.now = omega (arith, lt, map_length f c.args.streams.now) in
    read_fault f starts c.args.streams.now due.merging.inputs c.args.self.now.saved.now c.in-Need.k _ due.merging.read
    (omega (arith, lt, due.merging.same)) below
    (elim c.in-Err.ensures.err [ inl memory ↦ inl memory | inr at ↦ inr (λ d. (_, refl, (at d).0, (at d).1)) ])

pub path_at-requires : goal.path_at-requires
path_at-requires g c =
    let f = input_device g.R.Readable.remaining in
    let r = c.requires in
    let lt = refused_among r.0 (map f c.args.streams.now) r.1 (g.W.Write.contents c.args.draft.now) c.advance.new.self _
    (c.in_ok-advance.ensures.ok r.0 (map f c.args.streams.now) r.1 (g.W.Write.contents c.args.draft.now) r.2)
    c.in-Refused.input c.in-Refused.fault c.in-Refused.is in
    omega (arith, lt, map_length f c.args.streams.now)

pub returns-after-len-ge-PIECE-clause-ok : goal.returns-after-len-ge-PIECE-clause-ok
returns-after-len-ge-PIECE-clause-ok g c = λ starts begun m.
    let f = input_device g.R.Readable.remaining in
    let due = c.in_ok-advance.ensures.ok starts (map f c.args.streams.now) begun (g.W.Write.contents c.args.draft.now) m in
    elim c.if-len-ge-PIECE.branch [
      | then-len-ge-PIECE+in_ok-write-in-Again w ↦ rw (w.self-is, w.draft-is) (w.in_ok-write-in-Again.ensures.ok starts (map f c.args.streams.now) begun _ due).merging
      | else-len-ge-PIECE w ↦ rw (w.self-is, w.draft-is) due.merging
    ]

pub returns-in-Ok-clause-ok : goal.returns-in-Ok-clause-ok
returns-in-Ok-clause-ok g c = λ starts begun m.
    let f = input_device g.R.Readable.remaining in
    let due = c.in_ok-advance.ensures.ok starts (map f c.args.streams.now) begun (g.W.Write.contents c.args.draft.now) m in
    c.in-Ok.ensures.ok starts begun (g.W.Write.contents c.args.draft.now) due.merging
    (unended starts (map f c.args.streams.now) begun (g.W.Write.contents c.args.draft.now) c.advance.new.self _ due c.in-Need.k c.in-Need.is)

pub returns-in-Refused-clause-err : goal.returns-in-Refused-clause-err
returns-in-Refused-clause-err g c = λ starts begun m.
    let f = input_device g.R.Readable.remaining in
    let due = c.in_ok-advance.ensures.ok starts (map f c.args.streams.now) begun (g.W.Write.contents c.args.draft.now) m in
    let lt = refused_among starts (map f c.args.streams.now) begun (g.W.Write.contents c.args.draft.now) c.advance.new.self _ due
    c.in-Refused.input c.in-Refused.fault c.in-Refused.is in
    let below : c.in-Refused.input < length c.args.streams.now = omega (arith, lt, map_length f c.args.streams.now) in
    let x = element c.args.streams.now c.in-Refused.input below in
    rw c.of_load.ensures (refused_fault starts c.args.self.now.saved.now c.path_at.result c.in-Refused.fault
    (due_refused starts (map f c.args.streams.now) begun (g.W.Write.contents c.args.draft.now) c.advance.new.self _ due
    c.in-Refused.input c.in-Refused.fault c.in-Refused.is c.path_at.result (f x)
    (path_is f c.args.streams.now c.in-Refused.input x c.path_at.result.now below (search rules))))

pub returns-in-NamesDiffer-clause-err : goal.returns-in-NamesDiffer-clause-err
returns-in-NamesDiffer-clause-err g c = λ starts begun m.
    let f = input_device g.R.Readable.remaining in
    let due = c.in_ok-advance.ensures.ok starts (map f c.args.streams.now) begun (g.W.Write.contents c.args.draft.now) m in
    due_others starts (map f c.args.streams.now) begun (g.W.Write.contents c.args.draft.now) c.advance.new.self _ due c.in-NamesDiffer.input c.in-NamesDiffer.is

pub returns-in_ok-write-in-Done-clause-ok : goal.returns-in_ok-write-in-Done-clause-ok
returns-in_ok-write-in-Done-clause-ok g c = λ starts begun m.
    let f = input_device g.R.Readable.remaining in
    let due = c.in_ok-advance.ensures.ok starts (map f c.args.streams.now) begun (g.W.Write.contents c.args.draft.now) m in
    all_written starts (map f c.args.streams.now) begun (g.W.Write.contents c.write-in-Done.new.draft) c.write-in-Done.new.self _
    (c.in_ok-write-in-Done.ensures.ok starts (map f c.args.streams.now) begun _ due) c.in-Done.is c.in_ok-write-in-Done.ensures.all
