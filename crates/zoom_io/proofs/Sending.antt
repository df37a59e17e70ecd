-- What making the due calls, and writing what waits, do to a talk; and talks that go on.
use Rattle.std.proofs.Common.{◌≡◌, ◌∙◌, ◌⊎◌, inl, inr, sym, ap, subst, ℕ, suc, ◌+◌, ◌-◌, ◌^◌, ◌<◌, ◌≤◌, false, List, [], ◌∷◌, ◌++◌, length, Result, Ok, Err, refl, append_assoc, arith}
use Rattle.std.specs.Io.KnownBytes.{Appends}
use Rattle.std.proofs.KnownBytes.{Appends-trans, Appends-nil, Consumes-nil}
use Rattle.zorigin.specs.Standings.{Call}
use Rattle.zoom_questions.specs.declared.question.Question.{Question}
use Rattle.zoom_questions.specs.declared.question.MetaSettings.{MetaSettings}
use Rattle.zoom_pool.specs.declared.state.Reason.TheVariants as reasons
use Rattle.zoom_pool.specs.Transcripts.{IsTranscript, HandedOut, Stopped, past_of, given, is_lost, sent}
use Rattle.zoom_pool.specs.History.{History, events_on}
use Rattle.zoom_pool.specs.Laws.{OneTranscript}
use Rattle.zoom_pool.specs.Metas.{MetaLinks, MetaAfterPartial, MetaRecorded, DriveResult, CompleteDrive, call_events, settings_of}
use Rattle.zoom_devices.specs.Devices.{DeviceState, HasAppendedFront, HasFailed}
use Rattle.zoom_io.specs.declared.outgoing.PushError.{PushError}
use Rattle.zoom_io.specs.declared.outgoing.PushError.TheVariants as pushes
use Rattle.zoom_io.specs.declared.talk_steps.Receipt.{Receipt}
use Rattle.zoom_io.specs.Pushing.{MetaWriteFailed, AfterPush}
use Rattle.zoom_io.specs.TalkTraces.{Stage, Due, Listening, Talk, TalkStep, HaltStep, IsAllHandedOut, IsGoingBefore, beginning, due_sent, take_count, same}
use Rattle.zoom_pool.specs.Links.{waiting_at, waiting_in}
use Rattle.zoom_pool.proofs.Metas.{slice_some}
use Rattle.zoom_pool.proofs.Pools.{only_same}
use Rattle.zoom_io.specs.Talking.{SettleStep, AfterSettle}
use Rattle.zoom_io.specs.TalkSteps.{WriteFailureStep, SendingStep, TakingStep, receipt_stage, AfterSendDue, AfterTakeMessage, AfterSendAndTake}
use Rattle.zoom_io.proofs.Going.{takes_called}
use Rattle.zoom_io.proofs.Starving.{halts_unhanded, halts_after, halted_many}

-- ---- sending

-- Handing out what waits leaves everything sent handed out.
pub all_handed_out : OneTranscript → (q : List Question) (s : MetaSettings) (partial : List ℕ) (c : ℕ) (h : History) (meta : MetaLinks)
    → c < length meta.pool.connections → MetaAfterPartial q s partial h meta → IsAllHandedOut s c ((c, HandedOut (waiting_at meta.pool c)) ∷ h)
all_handed_out hearing q s partial c h meta lt a p transcript kept =
    let waiting : List ℕ = waiting_at meta.pool c in
    let mine = only_same c (HandedOut waiting) h in
    let then = subst (λ z. IsTranscript (settings_of s) z p) mine transcript in
    let link = slice_some meta.pool.connections c lt in
    let left = a.pool.stands.each c link.0 link.1 in
    let lost : is_lost (events_on c h) ≡ false = ap is_lost (sym mine) ∙ kept in
    let same : a.pool.transcript c ≡ then.0 = hearing (settings_of s) (events_on c h) (a.pool.transcript c) then.0 left.transcript then.1 in
    ap given mine ∙ ap (λ z. given (events_on c h) ++ z) (ap waiting_in link.1) ∙ left.waiting lost
    ∙ ap (λ z. sent (past_of z)) (same ∙ sym then.2)

module _ (hearing : OneTranscript) (E : Type 0) (c n : ℕ) (old mid new : MetaLinks) (lt : c < length mid.pool.connections)
    (drove : DriveResult {E = E} c (Ok n) old mid)
  where
    -- The history with the calls and the octets handed out.
    spoken : (q : List Question) (s : MetaSettings) (partial : List ℕ) (h more : History) (calls : List Call) (octets : List ℕ)
        → MetaAfterPartial q s partial ((c, HandedOut octets) ∷ (call_events c calls ++ (more ++ h))) new
        → MetaAfterPartial q s partial ((c, HandedOut octets) ∷ (call_events c calls ++ more) ++ h) new
    spoken q s partial h more calls octets a =
        subst (λ z. MetaAfterPartial q s partial ((c, HandedOut octets) ∷ z) new) (sym (append_assoc (call_events c calls) more h)) a

    abbrev octets : List ℕ
    octets = waiting_at mid.pool c

    pub sent_on : (sink held : DeviceState) → MetaRecorded c (HandedOut octets) mid new
        → Appends sink.octets held.octets octets → held.failures ≡ sink.failures
        → (left : DeviceState) → SendingStep c old new left sink held
    sent_on sink held recorded appended sound left = record {
      step = record {
        on = λ q s partial h reads source first t.
            let d : CompleteDrive q s partial c (t.more ++ h) n mid = drove q s partial (t.more ++ h) t.known.0 in
            let calls = d.progress.calls in
            let all = all_handed_out hearing q s partial c (call_events c calls ++ (t.more ++ h)) mid lt d.progress.after in
            record {
              more = (c, HandedOut octets) ∷ (call_events c calls ++ t.more);
              read = t.read;
              written = t.written ++ octets;
              trace = due_sent calls octets t.trace
                  (λ question p asks transcript. (d.rests question p asks transcript, d.tried p transcript)) all;
              known = (
                spoken q s partial h t.more calls octets
                    (recorded q s partial (call_events c calls ++ (t.more ++ h)) d.progress.after),
                tt,
              );
              consumed = t.consumed;
              appended = Appends-trans first.octets sink.octets held.octets t.written octets t.appended appended;
            };
        reader = refl;
        writer = sound;
      };
      taken = λ q s partial h reads source first t.
          takes_called c (drove q s partial (t.more ++ h) t.known.0).progress.calls t.more;
    }

    pub sent_broken : (sink held : DeviceState) → MetaWriteFailed c octets mid new
        → HasAppendedFront sink.octets held.octets octets → HasFailed sink.failures held.failures
        → WriteFailureStep c Due old new sink held
    sent_broken sink held write_failed_after front failed = record {
      on = λ q s partial h reads source left first t.
          let d : CompleteDrive q s partial c (t.more ++ h) n mid = drove q s partial (t.more ++ h) t.known.0 in
          let calls = d.progress.calls in
          let all = all_handed_out hearing q s partial c (call_events c calls ++ (t.more ++ h)) mid lt d.progress.after in
          record {
            more = call_events c calls ++ t.more;
            read = t.read;
            written = t.written;
            octets = octets;
            trace = due_sent calls octets t.trace
                (λ question p asks transcript. (d.rests question p asks transcript, d.tried p transcript)) all;
            known = subst (λ z. MetaAfterPartial q s partial ((c, Stopped reasons.Write) ∷ (c, HandedOut octets) ∷ z) new)
                (sym (append_assoc (call_events c calls) t.more h))
                (write_failed_after q s partial (call_events c calls ++ (t.more ++ h)) d.progress.after);
            consumed = t.consumed;
            before = sink;
            appended = t.appended;
            front = front;
          };
      failed = failed;
    }

-- ---- one after the other

pub goes_same : (c : ℕ) (stage : Stage) (m : MetaLinks) (left held : DeviceState)
    → TalkStep c stage stage same m m left left held held
goes_same c stage m left held = record { on = λ q s partial h reads source sink t. t; reader = refl; writer = refl }

pub goes_trans : (c : ℕ) (from mid to : Stage) (f g : ℕ → ℕ) (a b d : MetaLinks) (l l2 l3 k k2 k3 : DeviceState)
    → TalkStep c from mid f a b l l2 k k2 → TalkStep c mid to g b d l2 l3 k2 k3
    → TalkStep c from to (λ n. g (f n)) a d l l3 k k3
goes_trans c from mid to f g a b d l l2 l3 k k2 k3 one two = record {
  on = λ q s partial h reads source sink t. two.on q s partial h (f reads) source sink (one.on q s partial h reads source sink t);
  reader = two.reader ∙ one.reader;
  writer = two.writer ∙ one.writer;
}

pub breaks_after : (c : ℕ) (from : Stage) (a b d : MetaLinks) (k k2 k3 : DeviceState)
    → ((left : DeviceState) → TalkStep c from Due same a b left left k k2)
    → WriteFailureStep c Due b d k2 k3 → WriteFailureStep c from a d k k3
breaks_after c from a b d k k2 k3 one off = record {
  on = λ q s partial h reads source left first t.
      off.on q s partial h reads source left first ((one left).on q s partial h reads source first t);
  failed = subst (λ z. HasFailed z k3.failures) (one k).writer off.failed;
}

-- ---- from the start

-- After every history that can have left the connections, there is a talk with n reads.
pub record Begun
    (c reads : ℕ) (stage : Stage) (old new : MetaLinks) (source left sink held : DeviceState)
    : Type 0 where
  pub on : (q : List Question) (s : MetaSettings) (partial : List ℕ) (h : History) → MetaAfterPartial q s partial h old
      → Talk q s partial c h reads stage new source left sink held
  pub reader : left.failures ≡ source.failures
  pub writer : held.failures ≡ sink.failures

pub begun : (c : ℕ) (m : MetaLinks) (source sink : DeviceState) → Begun c 0 Due m m source source sink sink
begun c m source sink = record {
  on = λ q s partial h a. record {
    more = [];
    read = [];
    written = [];
    trace = beginning;
    known = (a, tt);
    consumed = Consumes-nil source.octets;
    appended = Appends-nil sink.octets;
  };
  reader = refl;
  writer = refl;
}

pub begun_on : (c n : ℕ) (from to : Stage) (f : ℕ → ℕ) (a b d : MetaLinks) (l l2 l3 k k2 k3 : DeviceState)
    → Begun c n from a b l l2 k k2 → TalkStep c from to f b d l2 l3 k2 k3 → Begun c (f n) to a d l l3 k k3
begun_on c n from to f a b d l l2 l3 k k2 k3 one two = record {
  on = λ q s partial h x. two.on q s partial h n l k (one.on q s partial h x);
  reader = two.reader ∙ one.reader;
  writer = two.writer ∙ one.writer;
}

-- A take of the connection found no memory before the talk. Before the first read no take was made since, or one was,
-- and has completed it.
pub record BegunPartial (c reads : ℕ) (old new : MetaLinks) (source left sink held : DeviceState) : Type 0 where
  pub on : (q : List Question) (s : MetaSettings) (partial : List ℕ) (h : History) → MetaAfterPartial q s (c ∷ partial) h old
      → ((reads ≡ 0) × (t : Talk q s (c ∷ partial) c h reads Due new source left sink held) × (take_count t.more ≡ 0))
      ⊎ ((0 < reads) × Talk q s partial c h reads Due new source left sink held)

pub begun_partial : (c : ℕ) (m : MetaLinks) (source sink : DeviceState) → BegunPartial c 0 m m source source sink sink
begun_partial c m source sink = record {
  on = λ q s partial h a. inl (
    refl,
    record {
      more = [];
      read = [];
      written = [];
      trace = beginning;
      known = (a, tt);
      consumed = Consumes-nil source.octets;
      appended = Appends-nil sink.octets;
    },
    refl,
  );
}

-- The same, once a take has completed it.
pub record BegunWhole
    (c reads : ℕ) (stage : Stage) (old new : MetaLinks) (source left sink held : DeviceState)
    : Type 0 where
  pub on : (q : List Question) (s : MetaSettings) (partial : List ℕ) (h : History) → MetaAfterPartial q s (c ∷ partial) h old
      → Talk q s partial c h reads stage new source left sink held

-- ---- messages are taken

-- n messages were taken. The first of them completes a take that found no memory before the talk.
pub record Settling (c n : ℕ) (old new : MetaLinks) (left held then_held : DeviceState) : Type 0 where
  pub step : TalkStep c Due Due same old new left left held then_held
  pub taken : (q : List Question) (s : MetaSettings) (partial : List ℕ) (h : History) (reads : ℕ)
      (source sink : DeviceState) (t : Talk q s partial c h reads Due old source left sink held)
      → take_count (step.on q s partial h reads source sink t).more ≡ n + take_count t.more
  pub completes : (q : List Question) (s : MetaSettings) (partial : List ℕ) (h : History) (reads : ℕ)
      (source sink : DeviceState) (t : Talk q s (c ∷ partial) c h reads Due old source left sink held)
      → take_count t.more ≡ 0
      → ((u : Talk q s (c ∷ partial) c h reads Due new source left sink then_held) × (take_count u.more ≡ 0))
      ⊎ Talk q s partial c h reads Due new source left sink then_held

pub settles_none : (c : ℕ) (m : MetaLinks) (left held : DeviceState) → Settling c 0 m m left held held
settles_none c m left held = record {
  step = record { on = λ q s partial h reads source sink t. t; reader = refl; writer = refl };
  taken = λ q s partial h reads source sink t. let e : take_count t.more ≡ 0 + take_count t.more = omega arith in e;
  completes = λ q s partial h reads source sink t none. inl (t, none);
}

module _ (c n : ℕ) (old mid new : MetaLinks) (left k k2 k3 : DeviceState) (one : Settling c n old mid left k k2) where
  -- One message more is taken.
  pub settles_more : TakingStep c Due Due mid new left k2 k3 → Settling c (n + 1) old new left k k3
  settles_more two = record {
    step = record {
      on = λ q s partial h reads source sink t.
          two.step.on q s partial h reads source sink (one.step.on q s partial h reads source sink t);
      reader = two.step.reader ∙ one.step.reader;
      writer = two.step.writer ∙ one.step.writer;
    };
    taken = λ q s partial h reads source sink t.
        counts (take_count t.more) _ _ (one.taken q s partial h reads source sink t)
        (two.taken q s partial h reads source sink (one.step.on q s partial h reads source sink t));
    completes = λ q s partial h reads source sink t none.
        by q s partial h reads source sink (one.completes q s partial h reads source sink t none);
  }
    where
      counts : (a b d : ℕ) → b ≡ n + a → d ≡ suc b → d ≡ (n + 1) + a
      counts a b d e f = omega (arith, e, f)

      by : (q : List Question) (s : MetaSettings) (partial : List ℕ) (h : History) (reads : ℕ) (source sink : DeviceState)
          → ((u : Talk q s (c ∷ partial) c h reads Due mid source left sink k2) × (take_count u.more ≡ 0))
          ⊎ Talk q s partial c h reads Due mid source left sink k2
          → ((u : Talk q s (c ∷ partial) c h reads Due new source left sink k3) × (take_count u.more ≡ 0))
          ⊎ Talk q s partial c h reads Due new source left sink k3
      by q s partial h reads source sink (inl u) = inr (two.completes q s partial h reads source sink u.0 u.1 tt)
      by q s partial h reads source sink (inr v) = inr (two.step.on q s partial h reads source sink v)

  -- The last take.
  pub settles : (to : Stage) → TakingStep c Due to mid new left k2 k3 → SettleStep c to old new left k k3
  settles to two = record {
    step = goes_trans c Due Due to same same old mid new left left left k k2 k3 one.step two.step;
    completes = λ q s partial h reads source sink t none going.
        by q s partial h reads source sink going (one.completes q s partial h reads source sink t none);
  }
    where
      by : (q : List Question) (s : MetaSettings) (partial : List ℕ) (h : History) (reads : ℕ) (source sink : DeviceState)
          → IsGoingBefore to s c h
          → ((u : Talk q s (c ∷ partial) c h reads Due mid source left sink k2) × (take_count u.more ≡ 0))
          ⊎ Talk q s partial c h reads Due mid source left sink k2
          → Talk q s partial c h reads to new source left sink k3
      by q s partial h reads source sink going (inl u) = two.completes q s partial h reads source sink u.0 u.1 going
      by q s partial h reads source sink going (inr v) = two.step.on q s partial h reads source sink v

-- ---- the functions

-- What waited was handed out, and a write failed.
pub write_failed_after : (c : ℕ) (octets : List ℕ) (old mid new : MetaLinks) → MetaRecorded c (HandedOut octets) old mid
    → MetaRecorded c (Stopped reasons.Write) mid new → MetaWriteFailed c octets old new
write_failed_after c octets old mid new one two q s partial h a = two q s partial ((c, HandedOut octets) ∷ h) (one q s partial h a)

-- Calls were made, and what waited was written or not.
pub sent_by : OneTranscript → (E : Type 0) (c n : ℕ) (old mid new : MetaLinks) (sink held : DeviceState)
    (r : Result (Unit {0}) PushError) → c < length mid.pool.connections
    → DriveResult {E = E} c (Ok n) old mid → AfterPush c r mid new sink held → AfterSendDue c r old new sink held
sent_by hearing E c n old mid new sink held (Ok u) lt d p =
    sent_on hearing E c n old mid new lt d sink held p.0 p.1 p.2
sent_by hearing E c n old mid new sink held (Err pushes.Write) lt d p =
    sent_broken hearing E c n old mid new lt d sink held p.0 p.1 p.2
sent_by hearing E c n old mid new sink held (Err pushes.Memory) lt d p = λ left.
    subst (λ z. HaltStep c Due same old new left left sink z) (sym p.1) (halts_unhanded E c n old mid new d p.0 left sink)

-- And then a message was taken.
pub sent_and_taken : (c : ℕ) (receipt : Receipt) (old mid new : MetaLinks) (sink held : DeviceState)
    → ((left : DeviceState) → SendingStep c old mid left sink held) → AfterTakeMessage c receipt mid new
    → AfterSendAndTake c (Ok receipt) old new sink held
sent_and_taken c receipt old mid new sink held sent took left =
    let one : SendingStep c old mid left sink held = sent left in
    let two : TakingStep c Listening (receipt_stage receipt) mid new left held held = took left held in
    record {
      step = record {
        on = λ q s partial h reads source first t.
            two.step.on q s partial h reads source first (one.step.on q s partial h reads source first t);
        reader = two.step.reader ∙ one.step.reader;
        writer = two.step.writer ∙ one.step.writer;
      };
      taken = λ q s partial h reads source first t.
          two.taken q s partial h reads source first (one.step.on q s partial h reads source first t)
          ∙ ap (λ n. suc n) (one.taken q s partial h reads source first t);
      completes = λ q s partial h reads source first t none going.
          two.completes q s partial h reads source first (one.step.on q s (c ∷ partial) h reads source first t)
          (one.taken q s (c ∷ partial) h reads source first t ∙ none) going;
    }

-- Sending fails after n messages were taken.
pub unsettled : (c n : ℕ) (e : PushError) (old mid new : MetaLinks) (sink held then_held : DeviceState)
    → ((left : DeviceState) → Settling c n old mid left sink held)
    → AfterSendAndTake c (Err e) mid new held then_held → AfterSettle c (Err e) old new sink then_held
unsettled c n pushes.Write old mid new sink held then_held one two =
    breaks_after c Due old mid new sink held then_held (λ left. (one left).step) two
unsettled c n pushes.Memory old mid new sink held then_held one two =
    halts_after c Due Due same old mid new sink held then_held (λ left. (one left).step) two

-- More messages came than memory can hold.
pub settles_many : (c n : ℕ) (old new : MetaLinks) (sink held : DeviceState) → n ≡ 2 ^ 64 - 1
    → ((left : DeviceState) → Settling c n old new left sink held)
    → (left : DeviceState) → HaltStep c Due same old new left left sink held
settles_many c n old new sink held most one left q s partial h reads source first t =
    let x : Settling c n old new left sink held = one left in
    let u : Talk q s partial c h reads Due new source left first held = x.step.on q s partial h reads source first t in
    let count : take_count u.more ≡ n + take_count t.more = x.taken q s partial h reads source first t in
    halted_many c new left held q s partial h reads source first u
    (let many : 2 ^ 64 - 1 ≤ take_count u.more = omega (arith, most, count) in many)
