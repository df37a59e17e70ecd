-- How a talk ends.
use Rattle.std.proofs.Common.{◌≡◌, ◌∙◌, ◌⊎◌, inl, inr, sym, subst, ℕ, suc, ◌+◌, ◌<◌, ◌≤◌, Bool, true, false, List, ◌∷◌, ◌++◌, length, Some, Result, Ok, Err, refl, true≢false, arith}
use Rattle.std.specs.Io.KnownBytes.{Keeps, IsAtEnd, Consumes}
use Rattle.std.proofs.KnownBytes.{Consumes-trans, Consumes-kept}
use Rattle.zoom_questions.specs.declared.question.Question.{Question}
use Rattle.zoom_questions.specs.declared.question.MetaSettings.{MetaSettings}
use Rattle.zoom_pool.specs.declared.state.Reason.{Reason}
use Rattle.zoom_pool.specs.declared.state.Reason.TheVariants as reasons
use Rattle.zoom_pool.specs.declared.state.State.{State}
use Rattle.zoom_pool.specs.declared.state.State.TheVariants as states
use Rattle.zoom_pool.specs.States.{is_stopped}
use Rattle.zoom_pool.specs.Transcripts.{Fed, Took, InputEnded, Stopped, state_at}
use Rattle.zoom_pool.specs.Links.{stop_at}
use Rattle.zoom_pool.specs.PoolSteps.{IsStateAt}
use Rattle.zoom_pool.specs.Laws.{OneTranscript, OneInput}
use Rattle.zoom_pool.specs.History.{History}
use Rattle.zoom_pool.specs.Metas.{MetaLinks, MetaAfterPartial, MetaRecorded, MetaTakeStep}
use Rattle.zoom_pool.proofs.Metas.{state_tells}
use Rattle.zoom_pool.proofs.MetaTakes.{took_within}
use Rattle.zoom_io.specs.declared.conversation.TalkError.TheVariants as errors
use Rattle.zoom_devices.specs.Devices.{DeviceState, HasFailed, IsUntouched}
use Rattle.zoom_io.specs.TalkTraces.{ended_well, Stage, Due, Waiting, Over, Ended, IsGoingAt, Talk, TalkStep, HaltedTalk, OutOfMemory, StoppedTalk, BrokenTalk, EndedTalk, CutTalk, AfterTalk, piece_read, input_end, still_partial, take_count, same}
use Rattle.zoom_io.specs.TalkSteps.{TalkStepAlone}
use Rattle.zoom_io.specs.declared.conversation.TalkError.{TalkError}
use Rattle.zoom_io.specs.declared.outgoing.PushError.{PushError}
use Rattle.zoom_io.specs.declared.outgoing.PushError.TheVariants as pushes
use Rattle.zoom_io.specs.Pushing.{IsBroken}
use Rattle.zoom_io.specs.Talking.{IsWellEnded, AfterSettle, AfterListen, AfterFinish, AfterConverse, talk_error}
use Rattle.zoom_io.proofs.Taking.{ends_stopped}
use Rattle.zoom_io.proofs.Completing.{first_partial, later_partial, at_reads}
use Rattle.zoom_io.proofs.Sending.{Begun, begun_on, BegunPartial, BegunWhole}

-- The same talk, with a reader that gave nothing more.
kept : (c n : ℕ) (stage : Stage) (b : MetaLinks) (l l2 l3 k k2 : DeviceState) → Keeps l2.octets l3.octets
    → (q : List Question) (s : MetaSettings) (partial : List ℕ) (h : History)
    → Talk q s partial c h n stage b l l2 k k2 → Talk q s partial c h n stage b l l3 k k2
kept c n stage b l l2 l3 k k2 still q s partial h t = record {
  more = t.more;
  read = t.read;
  written = t.written;
  trace = t.trace;
  known = t.known;
  consumed = Consumes-kept l.octets l2.octets l3.octets t.read t.consumed still;
  appended = t.appended;
}

-- Octets were read and fed.
pub fed_on : (c : ℕ) (old new : MetaLinks) (piece : List ℕ) (l l2 : DeviceState) → MetaRecorded c (Fed piece) old new
    → Consumes l.octets l2.octets piece → l2.failures ≡ l.failures → 0 < length piece → length piece ≤ 4096
    → (held : DeviceState) → TalkStep c Waiting Due suc old new l l2 held held
fed_on c old new piece l l2 recorded consumed sound some few held = record {
  on = λ q s partial h n source sink t. record {
    more = (c, Fed piece) ∷ t.more;
    read = t.read ++ piece;
    written = t.written;
    trace = piece_read piece t.trace some few;
    known = (recorded q s partial (t.more ++ h) t.known.0, tt);
    consumed = Consumes-trans source.octets l.octets l2.octets t.read piece t.consumed consumed;
    appended = t.appended;
  };
  reader = sound;
  writer = refl;
}

-- ---- how it ends

-- The connection is Closed or Failed after taking a message.
pub ends_over : (c n turns : ℕ) (a b d : MetaLinks) (l l2 k k2 k3 : DeviceState) → n ≤ turns
    → Begun c n Due a b l l2 k k2 → BegunPartial c n a b l l2 k k2 → (r : Bool) → AfterSettle c (Ok r) b d k2 k3 → r ≡ true
    → AfterConverse c turns (Ok tt) a d l l2 k k3
ends_over c n turns a b d l l2 k k2 k3 few one first true s e = record {
  on = λ q s' partial h x. over q s' partial h ((s l2).step.on q s' partial h n l k (one.on q s' partial h x));
  whole = λ q s' partial h x going. over q s' partial h (by q s' partial h going (first.on q s' partial h x));
  blamed = (one.reader, (s l2).step.writer ∙ one.writer);
  stopped = tt;
}
  where
    over : (q : List Question) (s : MetaSettings) (partial : List ℕ) (h : History)
        → Talk q s partial c h n Over d l l2 k k3 → EndedTalk q s partial c h turns d l l2 k k3
    over q s' partial h t = record { reads = n; stage = Over; talk = t; at = few; over = t.known.1 }

    by : (q : List Question) (s : MetaSettings) (partial : List ℕ) (h : History) → IsGoingAt s c h
        → ((n ≡ 0) × (t : Talk q s (c ∷ partial) c h n Due b l l2 k k2) × (take_count t.more ≡ 0))
        ⊎ ((0 < n) × Talk q s partial c h n Due b l l2 k k2)
        → Talk q s partial c h n Over d l l2 k k3
    by q s' partial h going (inl z) = (s l2).completes q s' partial h n l k z.1 z.2 going
    by q s' partial h going (inr z) = (s l2).step.on q s' partial h n l k z.1
ends_over c n turns a b d l l2 k k2 k3 few one first false s e = absurd (true≢false (sym e))

-- No message is waiting.
pub waits_on : (c n : ℕ) (a b d : MetaLinks) (l l2 k k2 k3 : DeviceState) → Begun c n Due a b l l2 k k2
    → (r : Bool) → AfterSettle c (Ok r) b d k2 k3 → r ≡ false → Begun c n Waiting a d l l2 k k3
waits_on c n a b d l l2 k k2 k3 one true s e = absurd (true≢false e)
waits_on c n a b d l l2 k k2 k3 one false s e =
    begun_on c n Due Waiting same a b d l l2 l2 k k2 k3 one (s l2).step

pub waits_whole : (c n : ℕ) (a b d : MetaLinks) (l l2 k k2 k3 : DeviceState) → BegunPartial c n a b l l2 k k2
    → (r : Bool) → AfterSettle c (Ok r) b d k2 k3 → r ≡ false → BegunWhole c n Waiting a d l l2 k k3
waits_whole c n a b d l l2 k k2 k3 first true s e = absurd (true≢false e)
waits_whole c n a b d l l2 k k2 k3 first false s e = record {
  on = λ q s' partial h x. by q s' partial h (first.on q s' partial h x);
}
  where
    by : (q : List Question) (s : MetaSettings) (partial : List ℕ) (h : History)
        → ((n ≡ 0) × (t : Talk q s (c ∷ partial) c h n Due b l l2 k k2) × (take_count t.more ≡ 0))
        ⊎ ((0 < n) × Talk q s partial c h n Due b l l2 k k2)
        → Talk q s partial c h n Waiting d l l2 k k3
    by q s' partial h (inl z) = (s l2).completes q s' partial h n l k z.1 z.2 tt
    by q s' partial h (inr z) = (s l2).step.on q s' partial h n l k z.1

-- A fact of every talk at this stage holds after n reads, whether or not an earlier take is completed.
at_begun : (c n : ℕ) (a b : MetaLinks) (l l2 k k2 : DeviceState) (Fact : List ℕ → Type 0)
    (q : List Question) (s : MetaSettings) (partial : List ℕ) (h : History)
    → ((some : List ℕ) → Talk q s some c h n Due b l l2 k k2 → Fact some)
    → ((n ≡ 0) × (t : Talk q s (c ∷ partial) c h n Due b l l2 k k2) × (take_count t.more ≡ 0))
    ⊎ ((0 < n) × Talk q s partial c h n Due b l l2 k k2)
    → Fact (still_partial n c partial)
at_begun c n a b l l2 k k2 Fact q s partial h holds (inl z) =
    subst Fact (sym (first_partial n c partial z.0)) (holds (c ∷ partial) z.1)
at_begun c n a b l l2 k k2 Fact q s partial h holds (inr z) =
    subst Fact (sym (later_partial n c partial z.0)) (holds partial z.1)

-- A write failed, or no memory was found.
pub ends_unsettled : (c n turns : ℕ) (a b d : MetaLinks) (l l2 k k2 k3 : DeviceState) → n ≤ turns
    → Begun c n Due a b l l2 k k2 → BegunPartial c n a b l l2 k k2 → (e : PushError) → AfterSettle c (Err e) b d k2 k3
    → IsBroken {A = Bool} c (Err e) d → AfterConverse c turns (Err (talk_error e)) a d l l2 k k3
ends_unsettled c n turns a b d l l2 k k2 k3 few one first pushes.Write off broken = record {
  on = λ q s partial h x. (n, few, off.on q s partial h n l l2 k (one.on q s partial h x));
  whole = λ q s partial h x. (
    n,
    few,
    at_begun c n a b l l2 k k2 (λ some. BrokenTalk q s some c h n d l l2 k k3) q s partial h
        (λ some t. off.on q s some h n l l2 k t) (first.on q s partial h x),
  );
  blamed = (subst (λ z. HasFailed z k3.failures) one.writer off.failed, one.reader);
  stopped = broken;
}
ends_unsettled c n turns a b d l l2 k k2 k3 few one first pushes.Memory off broken = record {
  on = λ q s partial h x. (n, few, off l2 q s partial h n l k (one.on q s partial h x));
  whole = λ q s partial h x. (
    n,
    few,
    at_begun c n a b l l2 k k2 (λ some. HaltedTalk q s some c h n d l l2 k k3) q s partial h
        (λ some t. off l2 q s some h n l k t) (first.on q s partial h x),
  );
  blamed = tt;
  stopped = tt;
}

stopped_talk : (c n : ℕ) (stage : Stage) (reason : Reason) (b d : MetaLinks) (l l2 k k2 : DeviceState)
    (q : List Question) (s : MetaSettings) (partial : List ℕ) (h : History)
    → Talk q s partial c h n stage b l l2 k k2 → MetaRecorded c (Stopped reason) b d
    → StoppedTalk q s partial c h n stage reason d l l2 k k2
stopped_talk c n stage reason b d l l2 k k2 q s partial h t recorded = record {
  more = t.more;
  read = t.read;
  written = t.written;
  trace = t.trace;
  known = ((b, t.known), recorded q s partial (t.more ++ h) t.known.0);
  consumed = t.consumed;
  appended = t.appended;
}

-- As many reads gave octets as the limit allows.
pub ends_at_limit : (c n : ℕ) (a b d : MetaLinks) (l l2 k k2 : DeviceState) → Begun c n Waiting a b l l2 k k2
    → BegunWhole c n Waiting a b l l2 k k2 → MetaRecorded c (Stopped reasons.Turns) b d
    → stop_at d.pool c ≡ Some (states.Failed reasons.Turns) → AfterConverse c n (Err errors.Turns) a d l l2 k k2
ends_at_limit c n a b d l l2 k k2 one completed recorded is = record {
  on = λ q s partial h x.
      stopped_talk c n Waiting reasons.Turns b d l l2 k k2 q s partial h (one.on q s partial h x) recorded;
  whole = λ q s partial h x.
      stopped_talk c n Waiting reasons.Turns b d l l2 k k2 q s partial h (completed.on q s partial h x) recorded;
  blamed = (one.reader, one.writer);
  stopped = is;
}

-- A read failed, or no memory was found.
pub ends_unread : (c n turns : ℕ) (a b d : MetaLinks) (l l2 l3 k k2 : DeviceState) → n < turns
    → Begun c n Waiting a b l l2 k k2 → BegunWhole c n Waiting a b l l2 k k2 → (e : TalkError)
    → AfterListen c (Err e) b d l2 l3 → AfterConverse c turns (Err e) a d l l3 k k2
ends_unread c n turns a b d l l2 l3 k k2 few one completed errors.Read r = record {
  on = λ q s partial h x. (n, few, failed q s partial h (one.on q s partial h x));
  whole = λ q s partial h x. (n, few, failed q s partial h (completed.on q s partial h x));
  blamed = (subst (λ z. HasFailed z l3.failures) one.reader r.2, one.writer);
  stopped = r.3;
}
  where
    failed : (q : List Question) (s : MetaSettings) (partial : List ℕ) (h : History)
        → Talk q s partial c h n Waiting b l l2 k k2 → StoppedTalk q s partial c h n Waiting reasons.Read d l l3 k k2
    failed q s partial h t =
        stopped_talk c n Waiting reasons.Read b d l l3 k k2 q s partial h
        (kept c n Waiting b l l2 l3 k k2 r.1 q s partial h t) r.0
ends_unread c n turns a b d l l2 l3 k k2 few one completed errors.Write r = absurd r
ends_unread c n turns a b d l l2 l3 k k2 few one completed errors.Ended r = absurd r
ends_unread c n turns a b d l l2 l3 k k2 few one completed errors.Turns r = absurd r
ends_unread c n turns a b d l l2 l3 k k2 few one completed errors.Memory r =
    let most : suc n ≤ turns = omega (arith, few) in
    record {
      on = λ q s partial h x. (suc n, most, r k2 q s partial h n l k (one.on q s partial h x));
      whole = λ q s partial h x. (suc n, most, r k2 q s partial h n l k (completed.on q s partial h x));
      blamed = tt;
      stopped = tt;
    }

-- Octets were read.
pub listened_on : (c n : ℕ) (a b d : MetaLinks) (l l2 l3 k k2 : DeviceState) → Begun c n Waiting a b l l2 k k2
    → (r : Bool) → AfterListen c (Ok r) b d l2 l3 → r ≡ true → Begun c (n + 1) Due a d l l3 k k2
listened_on c n a b d l l2 l3 k k2 one true h e =
    let one_more : suc n ≡ n + 1 = omega arith in
    subst (λ z. Begun c z Due a d l l3 k k2) one_more (begun_on c n Waiting Due suc a b d l l2 l3 k k2 k2 one (h k2))
listened_on c n a b d l l2 l3 k k2 one false h e = absurd (true≢false (sym e))

pub listened_partial : (c n : ℕ) (a b d : MetaLinks) (l l2 l3 k k2 : DeviceState) → BegunWhole c n Waiting a b l l2 k k2
    → (r : Bool) → AfterListen c (Ok r) b d l2 l3 → r ≡ true → BegunPartial c (n + 1) a d l l3 k k2
listened_partial c n a b d l l2 l3 k k2 completed true r e =
    let one_more : suc n ≡ n + 1 = omega arith in
    let some : 0 < suc n = omega arith in
    subst (λ z. BegunPartial c z a d l l3 k k2) one_more (record {
      on = λ q s partial h x. inr (some, (r k2).on q s partial h n l k (completed.on q s partial h x));
    })
listened_partial c n a b d l l2 l3 k k2 completed false r e = absurd (true≢false (sym e))

-- A stopped connection that did not end well has failed for `Ended`.
pub cut_off : (state : State) → is_stopped state ≡ true → ended_well state ≡ false → state ≡ states.Failed reasons.Ended
cut_off states.Fresh over e = absurd (true≢false (sym over))
cut_off states.Initialising over e = absurd (true≢false (sym over))
cut_off (states.Ready v3 concurrent named) over e = absurd (true≢false (sym over))
cut_off states.Closing over e = absurd (true≢false (sym over))
cut_off states.Closed over e = absurd (true≢false e)
cut_off (states.Failed reasons.Ended) over e = refl
cut_off (states.Failed (reasons.Frame kind at)) over e = absurd (true≢false e)
cut_off (states.Failed (reasons.Decode error)) over e = absurd (true≢false e)
cut_off (states.Failed (reasons.Refused reason)) over e = absurd (true≢false e)
cut_off (states.Failed reasons.Connect) over e = absurd (true≢false e)
cut_off (states.Failed reasons.Read) over e = absurd (true≢false e)
cut_off (states.Failed reasons.Write) over e = absurd (true≢false e)
cut_off (states.Failed reasons.Turns) over e = absurd (true≢false e)
cut_off (states.Failed reasons.Memory) over e = absurd (true≢false e)

-- The input ended.
module _ (c n turns : ℕ) (a b : MetaLinks) (l l2 l3 k k2 : DeviceState) (few : n < turns)
    (one : Begun c n Waiting a b l l2 k k2) (completed : BegunWhole c n Waiting a b l l2 k k2) (still : IsUntouched l2 l3)
    (end : IsAtEnd l3.octets)
  where
    at_end : (d : MetaLinks) → TalkStepAlone c Waiting Ended b d
        → (q : List Question) (s : MetaSettings) (partial : List ℕ) (h : History)
        → Talk q s partial c h n Waiting b l l2 k k2 → Talk q s partial c h n Ended d l l3 k k2
    at_end d goes q s partial h t =
        (goes l3 k2).on q s partial h n l k (kept c n Waiting b l l2 l3 k k2 still.octets q s partial h t)

    well : (d : MetaLinks) → AfterFinish c (Ok tt) b d → (q : List Question) (s : MetaSettings) (partial : List ℕ)
        (h : History) → Talk q s partial c h n Waiting b l l2 k k2 → EndedTalk q s partial c h turns d l l3 k k2
    well d f q s partial h z =
        let t = at_end d f.0 q s partial h z in
        record {
          reads = n;
          stage = Ended;
          talk = t;
          at = (few, end, λ p transcript. sym (f.1 q s partial (t.more ++ h) p t.known.0 transcript));
          over = t.known.1;
        }

    cut : (d : MetaLinks) → AfterFinish c (Err errors.Ended) b d → (q : List Question) (s : MetaSettings)
        (partial : List ℕ) (h : History) → Talk q s partial c h n Waiting b l l2 k k2
        → CutTalk q s partial c h turns d l l3 k k2
    cut d f q s partial h z =
        let t = at_end f.0.0 f.0.1 q s partial h z in
        record {
          reads = n;
          few = few;
          stopped = record {
            more = t.more;
            read = t.read;
            written = t.written;
            trace = t.trace;
            known = ((f.0.0, t.known), f.0.3 q s partial (t.more ++ h) t.known.0);
            consumed = t.consumed;
            appended = t.appended;
          };
          cut = λ p transcript.
              cut_off (state_at p) (t.known.1 p transcript) (sym (f.0.2 q s partial (t.more ++ h) p t.known.0 transcript));
        }

    starved : (d : MetaLinks) → AfterFinish c (Err errors.Memory) b d → (q : List Question) (s : MetaSettings)
        (partial : List ℕ) (h : History) → Talk q s partial c h n Waiting b l l2 k k2
        → HaltedTalk q s partial c h n d l l3 k k2
    starved d f q s partial h z =
        f l3 k2 end q s partial h n l k (kept c n Waiting b l l2 l3 k k2 still.octets q s partial h z)

    finished : (d : MetaLinks) (r : Result (Unit {0}) TalkError) → AfterFinish c r b d → AfterConverse c turns r a d l l3 k k2
    finished d (Ok u) f = record {
      on = λ q s partial h x. well d f q s partial h (one.on q s partial h x);
      whole = λ q s partial h x going. well d f q s partial h (completed.on q s partial h x);
      blamed = (still.failures ∙ one.reader, one.writer);
      stopped = tt;
    }
    finished d (Err errors.Ended) f = record {
      on = λ q s partial h x. cut d f q s partial h (one.on q s partial h x);
      whole = λ q s partial h x. cut d f q s partial h (completed.on q s partial h x);
      blamed = (end, still.failures ∙ one.reader, one.writer);
      stopped = f.1;
    }
    finished d (Err errors.Read) f = absurd f
    finished d (Err errors.Write) f = absurd f
    finished d (Err errors.Turns) f = absurd f
    finished d (Err errors.Memory) f =
        let most : n ≤ turns = omega (arith, few) in
        record {
          on = λ q s partial h x. (n, most, starved d f q s partial h (one.on q s partial h x));
          whole = λ q s partial h x. (
            n,
            most,
            at_reads (λ some. HaltedTalk q s some c h n d l l3 k k2) n c partial
                (starved d f q s (c ∷ partial) h (one.on q s (c ∷ partial) h x))
                (starved d f q s partial h (completed.on q s partial h x)),
          );
          blamed = tt;
          stopped = tt;
        }

pub ends_finished : (c n turns : ℕ) (a b d g : MetaLinks) (l l2 l3 k k2 : DeviceState) → n < turns
    → Begun c n Waiting a b l l2 k k2 → BegunWhole c n Waiting a b l l2 k k2 → (r : Bool)
    → AfterListen c (Ok r) b d l2 l3 → r ≡ false → (f : Result (Unit {0}) TalkError) → AfterFinish c f d g
    → AfterConverse c turns f a g l l3 k k2
ends_finished c n turns a b d g l l2 l3 k k2 few one completed true h e f fin = absurd (true≢false e)
ends_finished c n turns a b d g l l2 l3 k k2 few one completed false h e f fin =
    finished c n turns a b l l2 l3 k k2 few one completed h.1 h.2 g f (subst (λ z. AfterFinish c f z g) h.0 fin)

-- No memory was found, and the connection was stopped for `Memory`.
starved_talk : (c n : ℕ) (b d : MetaLinks) (l l2 k k2 : DeviceState) → MetaRecorded c (Stopped reasons.Memory) b d
    → (q : List Question) (s : MetaSettings) (partial : List ℕ) (h : History)
    → HaltedTalk q s partial c h n b l l2 k k2 → OutOfMemory q s partial c h n d l l2 k k2
starved_talk c n b d l l2 k k2 recorded q s partial h halted = record {
  more = halted.more;
  others = halted.others;
  after = recorded q s (c ∷ partial) (halted.more ++ h) halted.after;
  talk = record {
    read = halted.talk.read;
    written = halted.talk.written;
    then_partial = halted.talk.then_partial;
    starves = halted.talk.starves;
    known = recorded q s halted.talk.then_partial (halted.more ++ h) halted.talk.known;
    consumed = halted.talk.consumed;
    appended = halted.talk.appended;
  };
}

pub ends_starved : (c turns : ℕ) (a b d : MetaLinks) (l l2 k k2 : DeviceState)
    → AfterConverse c turns (Err errors.Memory) a b l l2 k k2 → MetaRecorded c (Stopped reasons.Memory) b d
    → stop_at d.pool c ≡ Some (states.Failed reasons.Memory) → AfterTalk c turns (Err errors.Memory) a d l l2 k k2
ends_starved c turns a b d l l2 k k2 t recorded is = record {
  on = λ q s partial h x.
      let z = t.on q s partial h x in
      (z.0, z.1, starved_talk c z.0 b d l l2 k k2 recorded q s partial h z.2);
  whole = λ q s partial h x.
      let z = t.whole q s partial h x in
      (z.0, z.1, starved_talk c z.0 b d l l2 k k2 recorded q s (still_partial z.0 c partial) h z.2);
  blamed = tt;
  stopped = is;
}

-- The conversation ended by itself, or for another reason.
pub ends_well : (c turns : ℕ) (a b : MetaLinks) (l l2 k k2 : DeviceState)
    → AfterConverse c turns (Ok tt) a b l l2 k k2 → AfterTalk c turns (Ok tt) a b l l2 k k2
ends_well c turns a b l l2 k k2 t = record { on = t.on; whole = t.whole; blamed = t.blamed; stopped = tt }

pub ends_refused : (c turns : ℕ) (e : TalkError) (a b : MetaLinks) (l l2 k k2 : DeviceState) → (e ≡ errors.Memory → ⊥)
    → AfterConverse c turns (Err e) a b l l2 k k2 → AfterTalk c turns (Err e) a b l l2 k k2
ends_refused c turns errors.Read a b l l2 k k2 other t =
    record { on = t.on; whole = t.whole; blamed = t.blamed; stopped = t.stopped }
ends_refused c turns errors.Write a b l l2 k k2 other t =
    record { on = t.on; whole = t.whole; blamed = t.blamed; stopped = t.stopped }
ends_refused c turns errors.Ended a b l l2 k k2 other t =
    record { on = t.on; whole = t.whole; blamed = t.blamed; stopped = t.stopped }
ends_refused c turns errors.Turns a b l l2 k k2 other t =
    record { on = t.on; whole = t.whole; blamed = t.blamed; stopped = t.stopped }
ends_refused c turns errors.Memory a b l l2 k k2 other t = absurd (other refl)

-- ---- the end of the input

-- What was left of the input was taken.
pub goes_ended : OneInput → (c : ℕ) (old mid new : MetaLinks) → MetaRecorded c InputEnded old mid
    → MetaTakeStep c mid new → TalkStepAlone c Waiting Ended old new
goes_ended meeting c old mid new recorded took left held = record {
  on = λ q s partial h n source sink t.
      let a : MetaAfterPartial q s partial ((c, InputEnded) ∷ (t.more ++ h)) mid = recorded q s partial (t.more ++ h) t.known.0 in
      record {
        more = (c, Took) ∷ (c, InputEnded) ∷ t.more;
        read = t.read;
        written = t.written;
        trace = input_end t.trace;
        known = (
          took_within c mid new took q s partial ((c, InputEnded) ∷ (t.more ++ h)) a,
          ends_stopped meeting t.trace refl,
        );
        consumed = t.consumed;
        appended = t.appended;
      };
  reader = refl;
  writer = refl;
}

-- What the state of the connection says of how it ended.
pub well_tells : OneTranscript → (c : ℕ) (meta : MetaLinks) (state : State) (well : Bool)
    → c < length meta.pool.connections → IsStateAt c meta.pool state → ended_well state ≡ well → IsWellEnded c meta well
well_tells hearing c meta state well lt is e q s partial h p a transcript =
    sym e ∙ state_tells hearing ended_well c meta state lt is q s partial h p a transcript
