use Rattle.std.proofs.Common.{rules, ◌≡◌, ◌∙◌, sym, subst, ap, ℕ, ◌<◌, arith, List, [], ◌++◌, length, take, drop, get_or, false}
use lib.Seq.{take-append_seam}
use Rattle.std.specs.Io.KnownBytes.{Consumes}
use Rattle.std.proofs.lemmas.List.{length-set}
use Rattle.zknow_merge.specs.Inputs.{at_end, fed, changed_at}
use Rattle.zmeta_devices.specs.Devices.{InputDevice, input_device}
use Rattle.zmeta_offline.specs.Merged.{IsMerging}
use Rattle.zmeta_offline.proofs.Merging.{stream_more, stream_count, ended, taken, map_length}
use Rattle.zmeta_offline.proofs.merged.Merging.feed.Goals as goal

pub returns-then-count-eq0-clause-ok : goal.returns-then-count-eq0-clause-ok
returns-then-count-eq0-clause-ok g c = λ starts begun held m unended.
    let f = input_device g.R.Readable.remaining in
    let old = get_or c.args.streams.now c.args.k c.index-streams-k.result in
    let lt : c.args.k < length m.inputs = omega (arith, c.requires.among, m.size, m.same, map_length f c.args.streams.now) in
    let part : Consumes (g.R.Readable.remaining old.reader) (g.R.Readable.remaining c.read_some.new.self.reader)
    (take c.in_ok-count.count c.read_some.new.piece) = c.in_ok-count.ensures.taken in
    let none : Consumes (g.R.Readable.remaining old.reader) (g.R.Readable.remaining c.read_some.new.self.reader) [] =
    subst (λ n. Consumes (g.R.Readable.remaining old.reader) (g.R.Readable.remaining c.read_some.new.self.reader)
    (take n c.read_some.new.piece)) c.if-count-eq0.true part in
    record {
      inputs = changed_at c.args.k at_end m.inputs;
      handed = m.handed;
      done = m.done;
      size = length-set m.inputs c.args.k _ ∙ m.size;
      same = stream_count f starts c.args.streams.now c.args.k c.read_some.new.self m.same;
      room = m.room;
      merge = c.end.ensures m.inputs m.handed m.merge lt;
      read = stream_more f starts c.args.streams.now m.inputs m.read c.args.k lt m.size m.same c.index-streams-k.result
          c.read_some.new.self at_end
          (λ s r. ended s (f old) (f c.read_some.new.self) _ (search rules) none (search rules) r);
      cut = m.cut;
      draft = m.draft;
    }

pub returns-clause-ok : goal.returns-clause-ok
returns-clause-ok g c = λ starts begun held m unended.
    let f = input_device g.R.Readable.remaining in
    let old = get_or c.args.streams.now c.args.k c.index-streams-k.result in
    let lt : c.args.k < length m.inputs = omega (arith, c.requires.among, m.size, m.same, map_length f c.args.streams.now) in
    let piece = take c.in_ok-count.count c.deref.result.now in
    let part : Consumes (g.R.Readable.remaining old.reader) (g.R.Readable.remaining c.read_some.new.self.reader)
    (take c.in_ok-count.count c.read_some.new.piece) = c.in_ok-count.ensures.taken in
    let sized : length c.read_some.new.piece ≡ c.args.self.now.piece.len =
    c.in_ok-count.ensures.room ∙ c.as_mut_slice.ensures.len in
    let whole : c.deref.result.now ≡ c.read_some.new.piece =
    let rest = drop (length c.read_some.new.piece) c.args.self.now.piece.items in
    c.deref.ensures.value ∙ ap (λ n. take n (c.read_some.new.piece ++ rest)) (sym sized)
    ∙ take-append_seam c.read_some.new.piece rest in
    let more : Consumes (g.R.Readable.remaining old.reader) (g.R.Readable.remaining c.read_some.new.self.reader) piece =
    subst (λ l. Consumes (g.R.Readable.remaining old.reader) (g.R.Readable.remaining c.read_some.new.self.reader)
    (take c.in_ok-count.count l)) (sym whole) part in
    record {
      inputs = changed_at c.args.k (fed piece) m.inputs;
      handed = m.handed;
      done = m.done;
      size = length-set m.inputs c.args.k _ ∙ m.size;
      same = stream_count f starts c.args.streams.now c.args.k c.read_some.new.self m.same;
      room = m.room;
      merge = c.in_ok-feed.ensures.ok m.inputs m.handed m.merge lt;
      read = stream_more f starts c.args.streams.now m.inputs m.read c.args.k lt m.size m.same c.index-streams-k.result
          c.read_some.new.self (fed piece)
          (λ s r. taken s (f old) (f c.read_some.new.self) _ piece unended (search rules) more r);
      cut = m.cut;
      draft = m.draft;
    }
