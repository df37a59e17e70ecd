-- A connection that its caller stopped.
use Rattle.std.proofs.Common.{◌≡◌, Bool, true, false, ◌||◌, List, ◌∷◌, Some, refl}
use Rattle.zorigin.specs.declared.settings.Settings.{Settings}
use Rattle.zoom_pool.specs.declared.state.Reason.{Reason}
use Rattle.zoom_pool.specs.declared.state.State.TheVariants as states
use Rattle.zoom_pool.specs.Transcripts.{Transcript, Event, Stopped, after_stop, is_write, is_lost}
use Rattle.zoom_pool.specs.Links.{Link}
use Rattle.zoom_pool.specs.Connections.{ConnectionAfter}
use Rattle.zoom_pool.proofs.Taking.{frames_stopped}

neither : (a b : Bool) → (a || b) ≡ false → b ≡ false
neither true b e = absurd (cc)
neither false b e = e

pub stopped : (settings : Settings) (events : List Event) (p : Transcript) (c : Link) (reason : Reason)
    → ConnectionAfter settings events p c
    → ConnectionAfter settings (Stopped reason ∷ events) (after_stop p reason) (record c { stop = Some (states.Failed reason) })
stopped settings events p c reason l = record {
  transcript = (p, l.transcript, refl);
  matches = record {
    origin = l.matches.origin;
    frames = frames_stopped p reason c.held c.framer l.matches.frames;
    ended = l.matches.ended;
    stop = refl;
  };
  waiting = λ lost. l.waiting (neither (is_write reason) (is_lost events) lost);
  reads = l.reads;
}
