-- The transcript of a serving end after one more event.
use Rattle.std.proofs.Common.{◌≡◌, inr, ℕ, Bool, true, false, List, [], ◌∷◌, ◌++◌, None, Some, Result, Ok, Err, refl, sym, ap, subst, ◌∙◌, append_assoc, append-nil, true≢false}
use Rattle.std.proofs.Math.Bool.{or-false}
use Rattle.std.specs.Prelude.{remove, not, ◌&&◌, ◌||◌}
use Rattle.std.specs.List.{flat_map, list_any}
use Rattle.std.proofs.lemmas.Grind.{flat_map-append}
use Rattle.std.proofs.lemmas.List.Folds.{list_any-append}
use Rattle.zber.specs.Stream.{Stream}
use Rattle.zapdu.specs.declared.apdu.Apdu.{Apdu}
use Rattle.zorigin.specs.Sending.{encoding_of, sent_of, IsReadBack}
use Rattle.ztarget.specs.declared.database.Database.{Database}
use Rattle.ztarget.specs.declared.settings.TargetSettings.{TargetSettings}
use Rattle.ztarget.specs.Receiving.{TargetState, new_target, is_close, without_reply, TargetReleaseStep, After as TargetAfter}
use Rattle.ztarget.proofs.Histories.{at_first}
use Rattle.zber.specs.declared.framer.TheConstants.{MESSAGE_LIMIT}
use Rattle.zoom_pool.specs.Hosts.{HostState, Holdings, holdings_of, HostEvent, HostFed, HostFedPart, Released, Lost, HostTranscript, empty_host_transcript, nothing, IsHostRest, IsReleasable, IsShort, IsFramerAt, IsHostWaiting, HostAfter, HostRecorded, ReleaseResult, handed_out}
use Rattle.zoom_pool.specs.Transcripts.{joined}
use Rattle.zoom_pool.specs.HostSteps.{Receipt, ReceiptStep, IsFollowingPiece, IsReceiptEnd, AnyRest, SameOutput, PutReplyResult, is_not_put}
use Rattle.zoom_pool.proofs.Hosts.{messages_longer}

-- a target that has received nothing
pub at_start : (target : TargetState) (framer : Stream) (waiting : List ℕ) → target ≡ new_target target.databases target.settings
    → framer.octets ≡ [] → framer.limit ≡ MESSAGE_LIMIT → framer.fault ≡ None → waiting ≡ []
    → HostAfter (holdings_of target) [] (record {
      target = target;
      framer = framer;
      waiting = waiting;
      stopped = false;
      closed = false;
    })
at_start target framer waiting fresh none limited sound empty = record {
  served = empty_host_transcript;
  happened = refl;
  target = subst (TargetAfter target.databases target.settings [] []) (sym fresh) (at_first target.databases target.settings);
  pending = ap (λ t. t.pending) fresh;
  waiting = empty;
  stopped = refl;
  closed = refl;
  framer = λ g. ([], nothing, record { rest_is = sym none; limited = limited; sound = sound });
}

behind_of : (framer : Stream) (b : Bool) (holdings : Holdings) (received : List Apdu) (rest : List ℕ) → IsReceiptEnd framer b holdings received rest → IsHostRest holdings received rest b
behind_of framer false holdings received rest r = r.1
behind_of framer true holdings received rest r = r

at_of : (framer : Stream) (b : Bool) (holdings : Holdings) (received : List Apdu) (rest : List ℕ) → IsReceiptEnd framer b holdings received rest → b ≡ false → IsFramerAt framer rest
at_of framer false holdings received rest r g = r.0
at_of framer true holdings received rest r g = absurd (true≢false g)

module _ (holdings : Holdings) (events : List HostEvent) (old new : HostState) (a : HostAfter holdings events old) where
  -- what holds before a piece is received
  pub before_piece : (piece : List ℕ) → old.stopped ≡ false
      → Receipt holdings (a.served.stream ++ piece) a.served.released a.served.received a.served.pending old.target (IsFollowingPiece old.framer piece)
  before_piece piece going =
      let w = a.framer (sym a.stopped ∙ going) in
      record {
        now = a.served.received;
        rest = w.0 ++ piece;
        target_is = a.target;
        messages = messages_longer piece w.1;
        replies = record { more = []; owed = sym (append-nil _); last = a.pending ∙ sym (append-nil a.served.pending) };
        then = (w.0, refl, w.2);
      }

  waits_still : new.waiting ≡ old.waiting → handed_out events ++ new.waiting ≡ flat_map encoding_of a.served.sent
  waits_still same = ap (λ z. handed_out events ++ z) same ∙ a.waiting

  -- one more reply was put
  closed_more : (reply : Apdu) → new.closed ≡ (old.closed || is_close reply)
      → new.closed ≡ list_any is_close (a.served.sent ++ reply ∷ [])
  closed_more reply is = is ∙ ap (λ z. z || is_close reply) a.closed
      ∙ ap (λ z. list_any is_close a.served.sent || z) (sym (or-false (is_close reply)))
      ∙ sym (list_any-append is_close a.served.sent (reply ∷ []))

  -- a piece was received
  pub piece_received : (piece : List ℕ) (b : Bool) → old.stopped ≡ false → new.stopped ≡ b → SameOutput old new
      → Receipt holdings (a.served.stream ++ piece) a.served.released a.served.received a.served.pending new.target (IsReceiptEnd new.framer b)
      → HostAfter holdings (HostFed piece ∷ events) new
  piece_received piece b going stopped same r =
      let q : HostTranscript = record a.served { stream = a.served.stream ++ piece; received = r.now; pending = new.target.pending; stopped = b } in
      record {
        served = q;
        happened = (
          a.served,
          a.happened,
          inr (record {
            going = sym a.stopped ∙ going;
            received = record { rest = r.rest; messages = r.messages; behind = behind_of new.framer b holdings r.now r.rest r.then };
            replies = r.replies;
            is = refl;
          }),
        );
        target = r.target_is;
        pending = refl;
        waiting = waits_still same.0;
        stopped = stopped;
        closed = same.1 ∙ a.closed;
        framer = λ g. (r.rest, r.messages, at_of new.framer b holdings r.now r.rest r.then g);
      }

  -- no memory was found
  pub piece_part : (piece : List ℕ) → old.stopped ≡ false → new.stopped ≡ true → SameOutput old new
      → Receipt holdings (a.served.stream ++ piece) a.served.released a.served.received a.served.pending new.target AnyRest
      → HostAfter holdings (HostFedPart piece ∷ events) new
  piece_part piece going stopped same r =
      let q : HostTranscript = record a.served { stream = a.served.stream ++ piece; received = r.now; pending = new.target.pending; stopped = true } in
      record {
        served = q;
        happened = (a.served, a.happened, record { going = sym a.stopped ∙ going; rest = r.rest; messages = r.messages; replies = r.replies; is = refl });
        target = r.target_is;
        pending = refl;
        waiting = waits_still same.0;
        stopped = stopped;
        closed = same.1 ∙ a.closed;
        framer = λ g. absurd (true≢false g);
      }

  due_served : (k : ℕ) (reply : Apdu) → IsReleasable old.target.pending k reply → IsReleasable a.served.pending k reply
  due_served k reply d = subst (λ z. IsReleasable z k reply) a.pending d

  left_served : (k : ℕ) → new.target ≡ without_reply old.target k → new.target.pending ≡ remove a.served.pending k
  left_served k is = ap (λ t. t.pending) is ∙ ap (λ z. remove z k) a.pending

  -- a reply was put
  pub reply_put : (k : ℕ) (reply : Apdu) → old.stopped ≡ false → IsReleasable old.target.pending k reply → IsShort reply → IsReadBack (sent_of reply) → new.target ≡ without_reply old.target k
      → ((databases : List Database) (settings : TargetSettings) (received released : List Apdu) → TargetAfter databases settings received released old.target → TargetAfter databases settings received (released ++ reply ∷ []) new.target)
      → new.waiting ≡ old.waiting ++ encoding_of reply → new.framer ≡ old.framer → new.stopped ≡ false
      → new.closed ≡ (old.closed || is_close reply)
      → HostAfter holdings (Released k ∷ events) new
  reply_put k reply going due short reads is t waiting framer goes closed =
      let p = a.served in
      let q : HostTranscript = record p { pending = remove p.pending k; released = p.released ++ reply ∷ []; sent = p.sent ++ reply ∷ [] } in
      record {
        served = q;
        happened = (p, a.happened, record { going = sym a.stopped ∙ going; reply = reply; due = due_served k reply due; short = short; reads = reads; is = refl });
        target = t holdings.databases holdings.settings p.received p.released a.target;
        pending = left_served k is;
        waiting =
            ap (λ z. handed_out events ++ z) waiting
            ∙ sym (append_assoc (handed_out events) old.waiting (encoding_of reply))
            ∙ ap (λ z. z ++ encoding_of reply) a.waiting
            ∙ sym (flat_map-append encoding_of p.sent (reply ∷ []) ∙ ap (λ z. flat_map encoding_of p.sent ++ z) (append-nil (encoding_of reply)));
        stopped = goes ∙ sym going ∙ a.stopped;
        closed = closed_more reply closed;
        framer = λ g. subst (IsHostWaiting holdings q) (sym framer) (a.framer g);
      }

  -- a reply was lost
  pub reply_lost : (k : ℕ) (reply : Apdu) → old.stopped ≡ false → IsReleasable old.target.pending k reply → new.target ≡ without_reply old.target k
      → ((databases : List Database) (settings : TargetSettings) (received released : List Apdu) → TargetAfter databases settings received released old.target → TargetAfter databases settings received (released ++ reply ∷ []) new.target)
      → new.waiting ≡ old.waiting → new.stopped ≡ true → new.closed ≡ old.closed
      → HostAfter holdings (Lost k ∷ events) new
  reply_lost k reply going due is t waiting stopped closed =
      let p = a.served in
      let q : HostTranscript = record p { pending = remove p.pending k; released = p.released ++ reply ∷ []; stopped = true } in
      record {
        served = q;
        happened = (p, a.happened, record { going = sym a.stopped ∙ going; reply = reply; due = due_served k reply due; is = refl });
        target = t holdings.databases holdings.settings p.received p.released a.target;
        pending = left_served k is;
        waiting = waits_still waiting;
        stopped = stopped;
        closed = closed ∙ a.closed;
        framer = λ g. absurd (true≢false g);
      }

-- a reply was released
pub released_as : {E : Type 0} (k : ℕ) (reply : Apdu) (answer : Result Bool E) (old new : HostState) (ws now : List (List ℕ)) → old.stopped ≡ false → old.waiting ≡ joined ws → new.waiting ≡ joined now
    → new.framer ≡ old.framer → new.stopped ≡ is_not_put answer
    → new.closed ≡ (old.closed || (not (is_not_put answer) && is_close reply))
    → TargetReleaseStep old.target k (Some reply) new.target
    → ((databases : List Database) (settings : TargetSettings) (received released : List Apdu) → TargetAfter databases settings received released old.target → TargetAfter databases settings received (released ++ reply ∷ []) new.target)
    → PutReplyResult reply answer ws now → ReleaseResult k answer old new
released_as k reply (Ok true) old new ws now going waited waits framer stopped closed r t p = (
  going,
  λ holdings events a. reply_put holdings events old new a k reply going
      (record { may = r.0; there = r.1 }) p.1 p.2 r.2 t (waits ∙ p.0 ∙ ap (λ z. z ++ encoding_of reply) (sym waited)) framer
      stopped closed,
)
released_as k reply (Ok false) old new ws now going waited waits framer stopped closed r t p =
    inr (
      record { reply = reply; due = record { may = r.0; there = r.1 }; long = p.1; stopped = stopped },
      λ holdings events a. reply_lost holdings events old new a k reply going (record { may = r.0; there = r.1 }) r.2 t
          (waits ∙ ap joined p.0 ∙ sym waited) stopped (closed ∙ or-false old.closed),
    )
released_as k reply (Err e) old new ws now going waited waits framer stopped closed r t p = (
  stopped,
  λ holdings events a. reply_lost holdings events old new a k reply going
      (record { may = r.0; there = r.1 }) r.2 t (waits ∙ ap joined p ∙ sym waited) stopped
      (closed ∙ or-false old.closed),
)

-- all whole messages of a piece were received
pub fed_by : (piece : List ℕ) (b : Bool) (old new : HostState) → old.stopped ≡ false → new.stopped ≡ b
    → SameOutput old new
    → ReceiptStep (IsFollowingPiece old.framer piece) (IsReceiptEnd new.framer b) old.target new.target → HostRecorded (HostFed piece) old new
fed_by piece b old new going stopped same l holdings events a =
    piece_received holdings events old new a piece b going stopped same
    (l holdings (a.served.stream ++ piece) a.served.released a.served.received a.served.pending (before_piece holdings events old new a piece going))

-- no memory was found
pub part_by : (piece : List ℕ) (old new : HostState) → old.stopped ≡ false → new.stopped ≡ true → SameOutput old new
    → ReceiptStep (IsFollowingPiece old.framer piece) AnyRest old.target new.target → HostRecorded (HostFedPart piece) old new
part_by piece old new going stopped same l holdings events a =
    piece_part holdings events old new a piece going stopped same
    (l holdings (a.served.stream ++ piece) a.served.released a.served.received a.served.pending (before_piece holdings events old new a piece going))
