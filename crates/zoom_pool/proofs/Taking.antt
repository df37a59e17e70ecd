-- A connection after one more Take.
use Rattle.std.proofs.Common.{◌≡◌, ◌≢◌, ℕ, suc, ◌+◌, ◌<◌, true, false, cond, List, [], ◌∷◌, ◌++◌, length, Option, None, Some, Result, Ok, Err, refl, sym, ap, subst, ◌∙◌, length-append, true≢false, arith}
use Rattle.std.specs.Prelude.{Contains}
use Rattle.zber.specs.declared.fault.FaultKind.{FaultKind}
use Rattle.zber.specs.declared.fault.FaultKind.TheVariants as kinds
use Rattle.zber.specs.declared.fault.FrameError.TheVariants as frames
use Rattle.zber.specs.Elements.{Element}
use Rattle.zber.specs.Shown.{HasFault}
use Rattle.zber.specs.Stream.{Stream, finished}
use Rattle.zber.specs.Unfinished.{IsUnfinished}
use Rattle.zber.specs.Laws.{AreMessages, StreamLaws}
use Rattle.zapdu.specs.declared.apdu.Apdu.{Apdu}
use Rattle.zapdu.specs.declared.apdu.ApduError.{ApduError}
use Rattle.zapdu.specs.declared.apdu.ApduError.TheVariants as decode
use Rattle.zapdu.specs.Writes.{IsDecodeResult}
use Rattle.zknow.specs.declared.fact.Fact.{Fact}
use Rattle.zknow.specs.Tables.DistinctLaws.{none_in_nil}
use Rattle.zknow.specs.Tables.Join.{IsUnion, IsPartOfUnion}
use Rattle.zorigin.specs.declared.answer.Taken.{Taken}
use Rattle.zorigin.specs.declared.refusal.Refused.{Refused}
use Rattle.zorigin.specs.Standings.{Standing}
use Rattle.zorigin.specs.Replies.{verdict}
use Rattle.zorigin.specs.Log.{Got, standing, IsTakenReply, IsGivenVerdict, After as OriginAfter}
use Rattle.zoom_pool.specs.Links.{Link}
use Rattle.zoom_pool.specs.declared.state.State.TheVariants as states
use Rattle.zoom_pool.specs.declared.state.Reason.{Reason}
use Rattle.zoom_pool.specs.declared.state.Reason.TheVariants as reasons
use Rattle.zoom_pool.specs.declared.step.Outcome.{Outcome}
use Rattle.zoom_pool.specs.declared.step.Outcome.TheVariants as outcome
use Rattle.zoom_pool.specs.declared.step.TakeError.{TakeError}
use Rattle.zoom_pool.specs.declared.step.TakeError.TheVariants as errors
use Rattle.zoom_pool.specs.States.{is_stopped}
use Rattle.zoom_pool.specs.Inputs.{Input, AlreadyStopped, Message, Foreign, Fault, Rest, Nothing, IsForeign, IsReadAs, IsBehind}
use Rattle.zber.specs.declared.framer.TheConstants.{MESSAGE_LIMIT}
use Rattle.zoom_pool.specs.Transcripts.{Transcript, past_of, state_at, after_stop, end_by, truncated, NextInput, after_reply, after_take, outcome_of_reply, news_at, facts_of_verdict, IsNews, HasFoundMemory}
use Rattle.zoom_pool.specs.Connections.{IsKept, FramerAfter, AreConsistent}
use Rattle.zoom_pool.specs.Steps.{InputStep, MessageStep, IsNewsIn, TakeResult, EmptyTake, stop_after, held_after}
use Rattle.zoom_pool.proofs.Unions.{union_none, part_wider}
use Rattle.zoom_pool.proofs.Streams.{going}

-- ---- a message that the origin took

pub processed_input : (target : ℕ) (p : Transcript) (v : Apdu) (peeked : Result Taken Refused) (answer : Result Outcome TakeError)
    (o : Standing) (old new : List Fact)
    → IsGivenVerdict (verdict (standing (past_of p)) v) peeked → IsTakenReply peeked
    → answer ≡ outcome_of_reply (verdict (standing (past_of p)) v) → OriginAfter p.settings (Got v ∷ p.log) o
    → IsUnion (Contains old) (Contains (facts_of_verdict target peeked)) (Contains new)
    → InputStep target p (Message v) answer o old new
processed_input target p v peeked answer o old new value taken t after u = record {
  returned = t;
  stands = after;
  union = subst (λ r. IsUnion (Contains old) (Contains (facts_of_verdict target r)) (Contains new)) (value taken) u;
}

pub news_part : (target : ℕ) (p : Transcript) (v : Apdu) (peeked : Result Taken Refused) (old new : List Fact)
    → IsGivenVerdict (verdict (standing (past_of p)) v) peeked
    → IsPartOfUnion (Contains old) (Contains (facts_of_verdict target peeked)) (Contains new)
    → IsPartOfUnion (Contains old) (Contains (news_at target p (Message v))) (Contains new)
news_part target p v (Ok x) old new value part = subst (λ r. IsPartOfUnion (Contains old)
    (Contains (facts_of_verdict target r)) (Contains new)) (value tt) part
news_part target p v (Err e) old new value part = part_wider old new (Contains [])
    (Contains (news_at target p (Message v))) (λ x h. absurd (none_in_nil x h)) part

pub outcome_part : (target : ℕ) (p : Transcript) (e : Element) (input : Input) (old new : List Fact) → IsReadAs e input
    → IsPartOfUnion (Contains old) (Contains (news_at target p input)) (Contains new)
    → IsPartOfUnion (Contains old) (IsNewsIn target p e) (Contains new)
outcome_part target p e input old new r part = part_wider old new (Contains (news_at target p input)) (IsNewsIn target p e)
    (λ x h. (input, r, h)) part

pub foreign : (e : Element) (error : ApduError) → error ≢ decode.Memory → IsDecodeResult e (Err error) → IsForeign e error
foreign e decode.NotApdu other d = d
foreign e (decode.Malformed kind at) other d = d
foreign e decode.Memory other d = absurd (other refl)

-- a message that is no APDU, or is malformed
pub process_foreign : (target : ℕ) (p : Transcript) (e : Element) (error : ApduError) (o : Standing) (ks : List Fact)
    → error ≢ decode.Memory → IsDecodeResult e (Err error) → OriginAfter p.settings p.log o
    → MessageStep target p e (Err (errors.Decode error)) o ks ks
process_foreign target p e error o ks other d after = record {
  input = Foreign error;
  read = foreign e error other d;
  input_step = record { returned = refl; stands = after; union = union_none ks };
}

-- ---- the connection

pub frames_stopped : (p : Transcript) (reason : Reason) (held : Option Element) (t : Stream) → FramerAfter p held t
    → FramerAfter (after_stop p reason) held t
frames_stopped p reason held t f = record {
  rest = f.rest;
  behind = f.behind;
  kept = f.kept;
  limited = f.limited;
  sound = λ g. absurd (true≢false (sym g));
}

-- a message that was taken is not kept
pub held_done : (answer : Result Outcome TakeError) (e : Element) (old : Option Element) → HasFoundMemory answer
    → held_after answer e old ≡ old
held_done (Ok x) e old d = refl
held_done (Err (errors.Frame kind at)) e old d = refl
held_done (Err (errors.Decode error)) e old d = refl
held_done (Err (errors.Refused reason)) e old d = refl
held_done (Err errors.Memory) e old d = absurd (d refl)

pub kept_back : (p : Transcript) (e : Element) (answer : Result Outcome TakeError) (old : Option Element) (c : Link)
    → answer ≡ Err errors.Memory
    → OriginAfter p.settings p.log c.origin → FramerAfter p (Some e) c.framer → c.ended ≡ p.ended
    → c.held ≡ held_after answer e old → c.stop ≡ stop_after p.stop answer → AreConsistent p c
kept_back p e answer old c memory o f ended held stop = record {
  origin = o;
  frames = subst (λ z. FramerAfter p z c.framer) (sym (held ∙ ap (λ a. held_after a e old) memory)) f;
  ended = ended;
  stop = stop ∙ ap (stop_after p.stop) memory;
}

process_matches : (q : Transcript) (r : Result Taken Refused) (c : Link) → OriginAfter q.settings q.log c.origin
    → FramerAfter q c.held c.framer → c.ended ≡ q.ended → c.stop ≡ stop_after q.stop (outcome_of_reply r) → AreConsistent (after_reply q r) c
process_matches q (Ok x) c o f e s = record { origin = o; frames = f; ended = e; stop = s }
process_matches q (Err reason) c o f e s = record {
  origin = o;
  frames =
      frames_stopped q (reasons.Refused reason) c.held c.framer f;
  ended = e;
  stop = s;
}

-- one more message of the stream was taken
taken_more : (laws : StreamLaws) (p q : Transcript) (e : Element) (t : Stream) → is_stopped (state_at p) ≡ false
    → q.stream ≡ p.stream → q.taken ≡ suc p.taken → FramerAfter p (Some e) t → FramerAfter q None t
taken_more laws p q e t s same more f = record {
  rest = t.octets;
  behind = record {
    messages = f.behind.messages ++ e ∷ [];
    gave = subst (λ z. AreMessages MESSAGE_LIMIT z (f.behind.messages ++ e ∷ []) t.octets) (sym same)
        (laws.give MESSAGE_LIMIT p.stream f.rest t.octets f.behind.messages e f.behind.gave f.kept);
    count = length-append f.behind.messages (e ∷ []) ∙ (let n : length f.behind.messages + 1 ≡ suc p.taken =
        omega (arith, f.behind.count) in n) ∙ sym more;
  };
  kept = refl;
  limited = f.limited;
  sound = λ g. f.sound (going _ p.stop s);
}

input_message : (p : Transcript) (e : Element) (t : Stream) (input : Input) → is_stopped (state_at p) ≡ false
    → FramerAfter p (Some e) t → IsReadAs e input → NextInput p input
input_message p e t (Message v) s f r = (
  s,
  f.rest,
  f.behind,
  record {
    element = e;
    rest = t.octets;
    begins = f.kept;
    read = r;
  },
)
input_message p e t (Foreign error) s f r = (
  s,
  f.rest,
  f.behind,
  record { element = e; rest = t.octets; begins = f.kept; read = r },
)
input_message p e t AlreadyStopped s f r = absurd r
input_message p e t (Fault kind at) s f r = absurd r
input_message p e t (Rest n) s f r = absurd r
input_message p e t Nothing s f r = absurd r

matched : (laws : StreamLaws) (target : ℕ) (p : Transcript) (e : Element) (input : Input) (answer : Result Outcome TakeError)
    (c : Link) (old new : List Fact) → is_stopped (state_at p) ≡ false → FramerAfter p (Some e) c.framer
    → c.held ≡ None → IsReadAs e input → InputStep target p input answer c.origin old new → c.ended ≡ p.ended
    → c.stop ≡ stop_after p.stop answer → AreConsistent (after_take p input) c
matched laws target p e (Message v) answer c old new s f none r h ended stop =
    let q : Transcript = record p { taken = suc p.taken; log = Got v ∷ p.log } in
    process_matches q (verdict (standing (past_of p)) v) c h.stands
    (subst (λ z. FramerAfter q z c.framer) (sym none) (taken_more laws p q e c.framer s refl refl f)) ended (stop
    ∙ ap (stop_after p.stop) h.returned)
matched laws target p e (Foreign error) answer c old new s f none r h ended stop =
    let q : Transcript = record p { taken = suc p.taken } in
    record {
      origin = h.stands;
      frames = frames_stopped q (reasons.Decode error) c.held c.framer
          (subst (λ z. FramerAfter q z c.framer) (sym none) (taken_more laws p q e c.framer s refl refl f));
      ended = ended;
      stop = stop ∙ ap (stop_after p.stop) h.returned;
    }
matched laws target p e AlreadyStopped answer c old new s f none r h ended stop = absurd r
matched laws target p e (Fault kind at) answer c old new s f none r h ended stop = absurd r
matched laws target p e (Rest n) answer c old new s f none r h ended stop = absurd r
matched laws target p e Nothing answer c old new s f none r h ended stop = absurd r

pub took : (laws : StreamLaws) (target : ℕ) (p : Transcript) (e : Element) (answer : Result Outcome TakeError) (c : Link)
    (old new : List Fact) → is_stopped (state_at p) ≡ false → FramerAfter p (Some e) c.framer → c.held ≡ None
    → MessageStep target p e answer c.origin old new → c.ended ≡ p.ended → c.stop ≡ stop_after p.stop answer
    → TakeResult target p answer c old new
took laws target p e answer c old new s f none h ended stop = record {
  input = h.input;
  is_next = input_message p e c.framer h.input s f h.read;
  returned = h.input_step.returned;
  matches = matched laws target p e h.input answer c old new s f none h.read h.input_step ended stop;
  union = h.input_step.union;
}

-- a part of the message's facts is a part of the Take's facts
pub news_of_outcome : (target : ℕ) (p : Transcript) (e : Element) (t : Stream) (old new : List Fact)
    → is_stopped (state_at p) ≡ false → FramerAfter p (Some e) t → IsPartOfUnion (Contains old) (IsNewsIn target p e)
    (Contains new) → IsPartOfUnion (Contains old) (IsNews target p) (Contains new)
news_of_outcome target p e t old new s f part = part_wider old new (IsNewsIn target p e) (IsNews target p)
    (λ x h. (h.0, input_message p e t h.0 s f h.1, h.2)) part

-- ---- no message

pub faulty : (target : ℕ) (p : Transcript) (kind : FaultKind) (at : ℕ) (c : Link) (ks : List Fact)
    → is_stopped (state_at p) ≡ false → OriginAfter p.settings p.log c.origin → c.ended ≡ p.ended
    → FramerAfter (after_stop p (reasons.Frame kind at)) c.held c.framer → c.held ≡ None → HasFault MESSAGE_LIMIT c.framer.octets kind at
    → c.stop ≡ Some (states.Failed (reasons.Frame kind at))
    → TakeResult target p (Err (errors.Frame kind at)) c ks ks
faulty target p kind at c ks s o ended f none shows stop =
    let same : f.rest ≡ c.framer.octets = subst (λ z. IsKept f.rest z c.framer.octets) none f.kept in
    record {
      input = Fault kind at;
      is_next = (s, f.rest, f.behind, subst (λ z. HasFault MESSAGE_LIMIT z kind at) (sym same) shows);
      returned = refl;
      matches = record { origin = o; frames = f; ended = ended; stop = stop };
      union = union_none ks;
    }

pub lacked : (target : ℕ) (p : Transcript) (answer : Result Outcome TakeError) (c : Link) (ks : List Fact)
    → EmptyTake p answer c → TakeResult target p answer c ks ks
lacked target p answer c ks l = record {
  input = l.input;
  is_next = l.is_next;
  returned = l.returned;
  matches = l.matches;
  union = subst (λ z. IsUnion (Contains ks) (Contains z) (Contains ks)) (sym (l.silent target)) (union_none ks);
}

idle_at : (p : Transcript) (c : Link) (rest : List ℕ) → AreConsistent p c → is_stopped (state_at p) ≡ false
    → IsBehind p.stream p.taken rest → IsUnfinished MESSAGE_LIMIT rest → p.ended ≡ false → EmptyTake p (Ok outcome.Nothing) c
idle_at p c [] m s b u e = record {
  input = Nothing;
  is_next = (s, [], b, refl);
  returned = rw e refl;
  matches =
      subst (λ z. AreConsistent (cond z (end_by p) p) c) (sym e) m;
  silent = λ t. refl;
}
idle_at p c (x ∷ xs) m s b u e = record {
  input = Rest (length (x ∷ xs));
  is_next =
      (s, x ∷ xs, b, ((let n : 0 < length (x ∷ xs) = omega arith in n), refl, u));
  returned = rw e refl;
  matches =
      subst (λ z. AreConsistent (cond z (after_stop p (truncated (length (x ∷ xs)))) p) c) (sym e) m;
  silent = λ t. refl;
}

kept_none : (rest octets : List ℕ) (held : Option Element) → held ≡ None → IsKept rest held octets → rest ≡ octets
kept_none rest octets held none k = subst (λ z. IsKept rest z octets) none k

-- no octets, or no whole message, follow, and more may come
pub idle : (p : Transcript) (c : Link) → AreConsistent p c → is_stopped (state_at p) ≡ false → c.held ≡ None
    → IsUnfinished MESSAGE_LIMIT c.framer.octets → c.ended ≡ false → EmptyTake p (Ok outcome.Nothing) c
idle p c m s none u e = idle_at p c m.frames.rest m s m.frames.behind
    (subst (IsUnfinished MESSAGE_LIMIT) (sym (kept_none m.frames.rest c.framer.octets c.held none m.frames.kept)) u)
    (sym m.ended ∙ e)

abbrev asked_stream : ℕ → List ℕ → Stream
asked_stream size octets = record { limit = size; octets = octets; fault = None; asked = true }

left_over : (size : ℕ) (octets : List ℕ) (kind : FaultKind) (at : ℕ)
    → Err (frames.Fault kind at) ≡ finished (asked_stream size octets)
    → (0 < length octets) × (kind ≡ kinds.Truncated) × (at ≡ length octets)
left_over size [] kind at q = absurd (cc)
left_over size (x ∷ xs) kind at q = ((let n : 0 < length (x ∷ xs) = omega arith in n), (cc), (cc))

truncated_so : (p : Transcript) (c : Link) (n : ℕ) → AreConsistent p c → is_stopped (state_at p) ≡ false
    → IsBehind p.stream p.taken c.framer.octets → 0 < length c.framer.octets → n ≡ length c.framer.octets
    → IsUnfinished MESSAGE_LIMIT c.framer.octets
    → p.ended ≡ true → EmptyTake p (Err (errors.Frame kinds.Truncated n))
    (record c { stop = Some (states.Failed (truncated n)) })
truncated_so p c n m s b some is u e =
    let matches : AreConsistent (after_stop p (truncated n)) (record c { stop = Some (states.Failed (truncated n)) }) =
    record {
      origin = m.origin;
      frames = frames_stopped p (truncated n) c.held c.framer m.frames;
      ended = m.ended;
      stop = refl;
    } in
    record {
      input = Rest n;
      is_next = (s, c.framer.octets, b, (some, is, u));
      returned = rw e refl;
      matches = subst (λ z. AreConsistent (cond z (after_stop p (truncated n)) p)
          (record c { stop = Some (states.Failed (truncated n)) })) (sym e) matches;
      silent = λ t. refl;
    }

-- the input ended inside a message
pub truncated_at : (p : Transcript) (c : Link) (kind : FaultKind) (at : ℕ) → AreConsistent p c → is_stopped (state_at p) ≡ false
    → c.held ≡ None → c.framer.asked ≡ true → c.framer.fault ≡ None → IsUnfinished MESSAGE_LIMIT c.framer.octets
    → c.ended ≡ true
    → Err (frames.Fault kind at) ≡ finished c.framer → EmptyTake p (Err (errors.Frame kind at))
    (record c { stop = Some (states.Failed (reasons.Frame kind at)) })
truncated_at p c kind at m s none asked sound u e q =
    let size = c.framer.limit in
    let octets = c.framer.octets in
    let stream : c.framer ≡ asked_stream size octets = λ i. record {
      limit = size;
      octets = octets;
      fault = sound i;
      asked = asked i;
    } in
    let left = left_over size octets kind at (q ∙ ap finished stream) in
    let same = kept_none m.frames.rest octets c.held none m.frames.kept in
    let behind : IsBehind p.stream p.taken octets = subst (IsBehind p.stream p.taken) same m.frames.behind in
    subst (λ z. EmptyTake p (Err (errors.Frame z at)) (record c { stop = Some (states.Failed (reasons.Frame z at)) }))
    (sym left.1)
    (truncated_so p c at m s behind left.0 left.2 u (sym m.ended ∙ e))
