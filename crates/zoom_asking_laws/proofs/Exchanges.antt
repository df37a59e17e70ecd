-- A connection that is talked with, and a target, that exchange octets with each other alone.
use Rattle.std.proofs.Common.{◌≡◌, ◌∙◌, sym, ap, subst, ℕ, Bool, false, cond, List, [], ◌∷◌, ◌++◌, map, Ok, refl, append_assoc, true≢false}
use Rattle.std.specs.Prelude.{◌||◌}
use Rattle.std.proofs.lemmas.List.{append_cancel_left}
use Rattle.zber.specs.Laws.{nothing}
use Rattle.zorigin.specs.Standings.{Call}
use Rattle.zoom_questions.specs.declared.question.Question.{Question}
use Rattle.zoom_questions.specs.declared.question.MetaSettings.{MetaSettings}
use Rattle.zoom_pool.specs.declared.step.Step.TheVariants as steps
use Rattle.zoom_pool.specs.States.{is_stopped}
use Rattle.zoom_pool.specs.Inputs.{Input, Nothing, IsBehind}
use Rattle.zoom_pool.specs.Transcripts.{Transcript, IsTranscript, Event, Called, Fed, Took, HandedOut, NextInput, empty_transcript, state_at, past_of, after_feed, after_take, take_result, given, fed, is_lost, sent}
use Rattle.zoom_pool.specs.Laws.{OneTranscript, TakeLaws, IsWaiting}
use Rattle.zoom_pool.specs.Steering.{errand_of}
use Rattle.zoom_pool.specs.Metas.{IsIdleUnlessStopped, settings_of}
use Rattle.zoom_pool.specs.Hosts.{HostState, HostEvent, Holdings, handed_out}
use Rattle.zoom_laws.specs.Exchange.{ExchangeLaws, IsSoundExchange, HasTakenAll}
use Rattle.zoom_asking.specs.Talks.{IsDriven, IsLastResult, AreTaken, none, last, one}
use Rattle.zoom_asking_laws.proofs.TakeSteps.{take_stream, none_same, last_spent, called, called_transcript, only_called, unheard_on}
use Rattle.zoom_asking_laws.proofs.Readings.{IsRead, AreReadIn, call_read, read_taken}

-- The exchange is sound; what was fed is the stream, and no write failed.
pub record IsUnderway (s : MetaSettings) (holdings : Holdings) (xs : List HostEvent) (end : HostState)
    (events : List Event) (p : Transcript) : Type 0 where
  pub sound : IsSoundExchange holdings (settings_of s) events p xs end
  pub stream : p.stream ≡ fed events
  pub safe : is_lost events ≡ false

-- all was handed out, no call is due, and all messages were taken, unless the connection is over
pub record IsExchanged (s : MetaSettings) (question : Question) (holdings : Holdings) (xs : List HostEvent)
    (end : HostState) (events : List Event) (p : Transcript) : Type 0 where
  pub under : IsUnderway s holdings xs end events p
  pub gave : given events ≡ sent (past_of p)
  pub idle : IsIdleUnlessStopped (errand_of s question) p
  pub taken : is_stopped (state_at p) ≡ false → HasTakenAll p

pub record Laws : Type 0 where
  pub exchange : ExchangeLaws
  pub transcripts : OneTranscript
  pub takes : TakeLaws

waits_all : (p : Transcript) → IsWaiting p → HasTakenAll p
waits_all p w = (w.rest, w.behind, w.unfinished)

calls_fed : (calls : List Call) (events : List Event) → fed (map Called calls ++ events) ≡ fed events
calls_fed [] events = refl
calls_fed (call ∷ calls) events = calls_fed calls events

calls_safe : (calls : List Call) (events : List Event) → is_lost (map Called calls ++ events) ≡ is_lost events
calls_safe [] events = refl
calls_safe (call ∷ calls) events = calls_safe calls events

fed_as : (p : Transcript) (piece : List ℕ) (a b : Bool) → a ≡ false → b ≡ false
    → cond (a || b) p (record p { stream = p.stream ++ piece }) ≡ record p { stream = p.stream ++ piece }
fed_as p piece a b e f = rw (e, f) refl

module _ (laws : Laws) (s : MetaSettings) (question : Question) (holdings : Holdings) (xs : List HostEvent)
    (end : HostState)
  where
    abbrev Underway : List Event → Transcript → Type 0
    Underway events p = IsUnderway s holdings xs end events p

    abbrev Exchanged : List Event → Transcript → Type 0
    Exchanged events p = IsExchanged s question holdings xs end events p

    abbrev Idle : Transcript → Type 0
    Idle p = IsIdleUnlessStopped (errand_of s question) p

    abbrev Read : List Event → Type 0
    Read events = AreReadIn (settings_of s) events

    -- ---- calls

    read_as : (events : List Event) (p : Transcript) → IsTranscript (settings_of s) events p → Read events → IsRead p
    read_as events p t r = subst IsRead (laws.transcripts (settings_of s) events r.transcript p r.is t) r.reads

    called_sound : (calls : List Call) (events : List Event) (p : Transcript)
        → IsSoundExchange holdings (settings_of s) events p xs end → IsRead (called calls p)
        → IsSoundExchange holdings (settings_of s) (map Called calls ++ events) (called calls p) xs end
    called_sound [] events p sound r = sound
    called_sound (call ∷ calls) events p sound r =
        laws.exchange.calls holdings (settings_of s) (map Called calls ++ events) (called calls p) xs end call
        (called_sound calls events p sound (call_read (called calls p) call r)) r

    -- The due calls were made, and handed out.
    record HasDriven (calls : List Call) (old new : List Event) (p : Transcript) : Type 0 where
      under : Underway new (called calls p)
      gave : given new ≡ sent (past_of (called calls p))
      idle : Idle (called calls p)

    driven_by : (calls : List Call) (octets : List ℕ) (old new : List Event) (p : Transcript)
        → new ≡ HandedOut octets ∷ (map Called calls ++ old)
        → ((p : Transcript) → IsTranscript (settings_of s) (map Called calls ++ old) p → Idle p)
        → ((p : Transcript) → IsTranscript (settings_of s) new p → is_lost new ≡ false → given new ≡ sent (past_of p))
        → Read new → Underway old p → HasDriven calls old new p
    driven_by calls octets old new p is idle all r u =
        let t : IsTranscript (settings_of s) (map Called calls ++ old) (called calls p) =
        called_transcript (settings_of s) calls old p u.sound.transcript in
        let next : IsTranscript (settings_of s) (HandedOut octets ∷ (map Called calls ++ old)) (called calls p) =
        (called calls p, t, refl) in
        let there : IsTranscript (settings_of s) new (called calls p) =
        subst (λ z. IsTranscript (settings_of s) z (called calls p)) (sym is) next in
        let now : Underway (HandedOut octets ∷ (map Called calls ++ old)) (called calls p) = record {
          sound = laws.exchange.gives holdings (settings_of s) (map Called calls ++ old) (called calls p) xs end octets
              (called_sound calls old p u.sound (read_as new (called calls p) there r));
          stream = (only_called calls p).stream ∙ u.stream ∙ sym (calls_fed calls old);
          safe = calls_safe calls old ∙ u.safe;
        } in
        let under : Underway new (called calls p) = subst (λ z. Underway z (called calls p)) (sym is) now in
        record { under = under; gave = all (called calls p) there under.safe; idle = idle (called calls p) t }

    driven : (old new : List Event) (p : Transcript) (d : IsDriven s question old new) → Read new → Underway old p
        → HasDriven d.calls old new p
    driven old new p d r u =
        driven_by d.calls d.octets old new p d.is (λ q t. (d.idle q t).0) d.all r u

    -- ---- takes

    -- the take changed nothing
    kept : (old : List Event) (p : Transcript) (m : Input) → NextInput p m → after_take p m ≡ p → Underway old p
        → given old ≡ sent (past_of p) → Idle p → (is_stopped (state_at p) ≡ false → HasTakenAll p)
        → Exchanged (Took ∷ old) p
    kept old p m next same u gave idle taken = record {
      under = record {
        sound = subst (λ z. IsSoundExchange holdings (settings_of s) (Took ∷ old) z xs end) same
            (laws.exchange.takes holdings (settings_of s) old p xs end m u.sound next);
        stream = u.stream;
        safe = u.safe;
      };
      gave = gave;
      idle = idle;
      taken = taken;
    }

    pub taken : (old new : List Event) (p : Transcript) → AreTaken s question old new → Read new → Underway old p
        → given old ≡ sent (past_of p) → Idle p → (q : Transcript) × Exchanged new q
    taken old new p (none events next) r u gave idle =
        let n = next p u.sound.transcript in (
          p,
          kept events p n.0 n.1 (none_same p n.0 u.sound.goes_on (sym n.2)) u gave idle
              (λ on. waits_all p ((laws.takes.nothing p n.0 n.1).0 (sym n.2))),
        )
    taken old new p (last events result next is) r u gave idle =
        let n = next p u.sound.transcript in
        let later = laws.exchange.takes holdings (settings_of s) events p xs end n.0 u.sound n.1 in
        let spent = last_spent p n.0 n.1 u.sound.goes_on later.goes (subst IsLastResult n.2 is) in
        (p, kept events p n.0 n.1 spent.same u gave idle (λ on. absurd (true≢false (sym spent.over ∙ on))))
    taken old new p (one events mid later step next is drives more) r u gave idle =
        let n = next p u.sound.transcript in
        let q : Transcript = after_take p n.0 in
        let there : Underway (Took ∷ events) q = record {
          sound = laws.exchange.takes holdings (settings_of s) events p xs end n.0 u.sound n.1;
          stream = take_stream p n.0 ∙ u.stream;
          safe = u.safe;
        } in
        let d = driven (Took ∷ events) mid q drives (read_taken s question mid later more r) there in
        taken mid later (called drives.calls q) more r d.under d.gave d.idle

    -- ---- octets came

    fed_from : (events : List Event) (p : Transcript) (u : Underway events p) (piece rest : List ℕ)
        → handed_out xs ≡ fed events ++ piece ++ rest → u.sound.from ≡ piece ++ rest
    fed_from events p u piece rest came =
        append_cancel_left (fed events) u.sound.from (piece ++ rest)
        (ap (λ z. z ++ u.sound.from) (sym u.stream) ∙ u.sound.comes ∙ came
        ∙ append_assoc (fed events) piece rest)

    pub heard : (old new : List Event) (p : Transcript) (piece rest : List ℕ)
        → AreTaken s question (Fed piece ∷ old) new → Read new → handed_out xs ≡ fed old ++ piece ++ rest
        → Exchanged old p → is_stopped (state_at p) ≡ false → (q : Transcript) × Exchanged new q
    heard old new p piece rest takes r came e on =
        let later : Transcript = record p { stream = p.stream ++ piece } in
        let is : after_feed p piece ≡ later =
        fed_as p piece (is_stopped (state_at p)) p.ended on e.under.sound.goes_on in
        let there : Underway (Fed piece ∷ old) later = record {
          sound = subst (λ z. IsSoundExchange holdings (settings_of s) (Fed piece ∷ old) z xs end) is
              (laws.exchange.fed holdings (settings_of s) old p xs end piece rest e.under.sound
              (fed_from old p e.under piece rest came));
          stream = ap (λ z. z ++ piece) e.under.stream;
          safe = e.under.safe;
        } in
        taken (Fed piece ∷ old) new later takes r there e.gave e.idle

    -- ---- it has just connected

    start_behind : (p : Transcript) → p.stream ≡ [] → p.taken ≡ 0 → IsBehind p.stream p.taken []
    start_behind p a b =
        let start : IsBehind [] 0 [] = record { messages = []; gave = nothing; count = refl } in
        subst (λ z. IsBehind z p.taken []) (sym a) (subst (λ k. IsBehind [] k []) (sym b) start)

    start_waits : (p : Transcript) → p.stream ≡ [] → p.taken ≡ 0 → p.ended ≡ false → is_stopped (state_at p) ≡ false
        → HasTakenAll p
    start_waits p a b more on =
        let next : NextInput p Nothing = (on, [], start_behind p a b, refl) in
        let is : take_result p Nothing ≡ Ok steps.Nothing = rw more refl in
        waits_all p ((laws.takes.nothing p Nothing next).0 is)

    pub opened : (new : List Event) → IsDriven s question [] new → Read new
        → Underway [] (empty_transcript (settings_of s))
        → (q : Transcript) × Exchanged new q × (is_stopped (state_at q) ≡ false)
    opened new d r u =
        let p : Transcript = empty_transcript (settings_of s) in
        let q : Transcript = called d.calls p in
        let drove = driven [] new p d r u in
        let only = only_called d.calls p in
        let sound = drove.under.sound in
        let on : is_stopped (state_at q) ≡ false = unheard_on q sound.sound only.closed only.accepted sound.goes in (
          q,
          record {
            under = drove.under;
            gave = drove.gave;
            idle = drove.idle;
            taken = λ z. start_waits q only.stream only.taken sound.goes_on z;
          },
          on,
        )
