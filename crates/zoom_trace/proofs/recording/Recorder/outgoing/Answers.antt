use Rattle.std.proofs.Common.{◌≡◌, ◌∙◌, ap, subst, List, ℕ, length, length-append, drop, ◌++◌, arith}
use Rattle.std.proofs.Math.Seq.{drop-append_seam}
use Rattle.hex.specs.Hex.{IsBytes}
use Rattle.zoom_pool.specs.Metas.{MetaLinks}
use Rattle.zoom_asking.specs.Askings.{unsent_at}
use Rattle.zoom_trace.specs.Recording.{sent}
use Rattle.zoom_trace.specs.Tracing.{IsTracedIf}
use Rattle.zoom_trace.proofs.recording.Recorder.outgoing.Goals as goal

pub behind-fresh-requires : goal.behind-fresh-requires
behind-fresh-requires g c =
    omega (
      arith,
      c.len-waited.ensures,
      ap length c.in_ok-outgoing.ensures.gives,
      length-append c.args.out.now.items (unsent_at c.args.self.now.asking c.args.c),
    )

pub returns-clause-recorded : goal.returns-clause-recorded
returns-clause-recorded g c =
    let old = c.args.self.now in
    let waited = c.args.out.now.items in
    let octets = unsent_at old.asking c.args.c in
    let cut : c.behind-fresh.result.now ≡ octets =
    c.behind-fresh.ensures ∙ ap (λ (xs : List ℕ). drop c.len-waited.result xs) c.in_ok-outgoing.ensures.gives
    ∙ ap (λ (n : ℕ). drop n (waited ++ octets)) (c.len-waited.ensures ∙ c.args.out.now.ok.0)
    ∙ drop-append_seam waited octets in
    record {
      fed = c.in_ok-outgoing.ensures.after;
      size = ap (λ (m : MetaLinks). length m.pool.connections) c.in_ok-outgoing.ensures.meta;
      writable = (
        (omega (arith, c.ranges.now), (omega (arith, c.ranges.c), subst IsBytes cut c.octets_fit.ensures)),
        tt,
      );
      traced = subst (λ (xs : List ℕ). IsTracedIf g.W.Write.contents (sent c.args.now c.args.c xs) old.trace
          c.note_sent.new.trace) cut c.in_ok-note_sent.ensures;
    }
