-- The stream, and the part of it that was taken.
use Rattle.std.proofs.Common.{◌≡◌, ℕ, Bool, true, false, not, List, ◌∷◌, ◌++◌, Option, None, Some, refl, sym, ap, subst, ◌∙◌, append_assoc}
use Rattle.zber.specs.Elements.{Element}
use Rattle.zber.specs.Spelling.{HasFirstMessage}
use Rattle.zber.specs.Stream.{Stream}
use Rattle.zber.specs.Laws.{StreamLaws}
use Rattle.zorigin.specs.declared.settings.Settings.{Settings}
use Rattle.zoom_pool.specs.Links.{Link}
use Rattle.zoom_pool.specs.declared.state.State.{State}
use Rattle.zoom_pool.specs.States.{or_else, is_stopped, is_going}
use Rattle.zber.specs.declared.framer.TheConstants.{MESSAGE_LIMIT}
use Rattle.zoom_pool.specs.Transcripts.{Transcript, Event, Fed, state_at, after_feed}
use Rattle.zoom_pool.specs.Connections.{IsKept, FramerAfter, AreConsistent, ConnectionAfter}

pub going : (other : State) (stop : Option State) → is_stopped (or_else other stop) ≡ false → is_going stop ≡ true
going other None h = refl
going other (Some s) h = ap not h

pub begins_longer : (xs rest piece : List ℕ) (e : Element) → HasFirstMessage MESSAGE_LIMIT xs e rest
    → HasFirstMessage MESSAGE_LIMIT (xs ++ piece) e (rest ++ piece)
begins_longer xs rest piece e b = record {
  message = b.message;
  is = b.is;
  cut = ap (λ z. z ++ piece) b.cut
      ∙ append_assoc b.message rest piece;
}

kept_longer : (rest octets piece : List ℕ) (held : Option Element) → IsKept rest held octets
    → IsKept (rest ++ piece) held (octets ++ piece)
kept_longer rest octets piece None k = ap (λ z. z ++ piece) k
kept_longer rest octets piece (Some e) k = begins_longer rest octets piece e k

pub frames_longer : (laws : StreamLaws) (p : Transcript) (held : Option Element) (s t : Stream) (piece : List ℕ) (b : Bool)
    → FramerAfter p held s → t ≡ record s { octets = s.octets ++ piece; asked = b }
    → FramerAfter (record p { stream = p.stream ++ piece }) held t
frames_longer laws p held s t piece b f e = record {
  rest = f.rest ++ piece;
  behind = record {
    messages = f.behind.messages;
    gave = laws.feed MESSAGE_LIMIT p.stream f.rest piece f.behind.messages
        f.behind.gave;
    count = f.behind.count;
  };
  kept = subst (λ z. IsKept (f.rest ++ piece) held z) (sym (ap (λ z. z.octets) e))
      (kept_longer f.rest s.octets piece held f.kept);
  limited = ap (λ z. z.limit) e ∙ f.limited;
  sound = λ g. ap (λ z. z.fault) e ∙ f.sound g;
}

pub transcript_of_piece : (p : Transcript) (piece : List ℕ) → is_stopped (state_at p) ≡ false → p.ended ≡ false
    → after_feed p piece ≡ record p { stream = p.stream ++ piece }
transcript_of_piece p piece s e = rw (s, e) refl

-- a piece was fed to a connection that is not stopped
pub fed : (laws : StreamLaws) (settings : Settings) (events : List Event) (p : Transcript) (c : Link) (t : Stream)
    (piece : List ℕ) (b : Bool) → ConnectionAfter settings events p c
    → is_stopped (state_at p) ≡ false → c.ended ≡ false → (c.framer.fault ≡ None
    → t ≡ record c.framer { octets = c.framer.octets ++ piece; asked = b })
    → ConnectionAfter settings (Fed piece ∷ events) (after_feed p piece) (record c { framer = t })
fed laws settings events p c t piece b l s e w =
    let m = l.matches in
    let is = transcript_of_piece p piece s (sym m.ended ∙ e) in
    let sound : c.framer.fault ≡ None = m.frames.sound (going _ p.stop s) in
    let matches : AreConsistent (record p { stream = p.stream ++ piece }) (record c { framer = t }) =
    record {
      origin = m.origin;
      frames = frames_longer laws p c.held c.framer t piece b m.frames (w sound);
      ended =
          m.ended;
      stop = m.stop;
    } in
    subst (λ q. ConnectionAfter settings (Fed piece ∷ events) q (record c { framer = t })) (sym is)
    (record { transcript = (p, l.transcript, sym is); matches = matches; waiting = l.waiting; reads = l.reads })
