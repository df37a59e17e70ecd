-- Takes and calls of a connection that is sound with its target.
use Rattle.std.proofs.Common.{◌≡◌, ◌∙◌, sym, ap, subst, ℕ, suc, ◌<◌, Bool, true, false, cond, List, [], ◌∷◌, ◌++◌, map, length, slice_get, is_some, Option, None, Some, Result, Ok, Err, refl, append_assoc, true≢false}
use Rattle.std.proofs.lemmas.Option.{slice_get_within}
use Rattle.zapdu.specs.declared.apdu.Apdu.{Apdu}
use Rattle.zorigin.specs.declared.answer.Taken.{Taken}
use Rattle.zorigin.specs.declared.answer.Taken.TheVariants as taken
use Rattle.zorigin.specs.declared.refusal.CallRefused.{CallRefused}
use Rattle.zorigin.specs.declared.refusal.Refused.{Refused}
use Rattle.zorigin.specs.declared.settings.Settings.{Settings}
use Rattle.zorigin.specs.Standings.{Call}
use Rattle.zorigin.specs.Calls.{refusal}
use Rattle.zorigin.specs.Replies.{verdict}
use Rattle.zorigin.specs.Sending.{request_of}
use Rattle.zorigin.specs.Log.{Past, Made, standing, request_list, admit_unless}
use Rattle.ztarget.specs.Receiving.{TargetState}
use Rattle.zoom_questions.specs.declared.question.Question.{Question}
use Rattle.zoom_questions.specs.declared.question.MetaSettings.{MetaSettings}
use Rattle.zoom_pool.specs.declared.step.Step.{Step}
use Rattle.zoom_pool.specs.declared.step.TakeError.{TakeError}
use Rattle.zoom_pool.specs.States.{is_stopped}
use Rattle.zoom_pool.specs.PoolSteps.{IsTakeResult}
use Rattle.zoom_pool.specs.Inputs.{Input, AlreadyStopped, Message, Foreign, Fault, Rest, Nothing}
use Rattle.zoom_pool.specs.Transcripts.{Event, Called, Took, InputEnded, Transcript, IsTranscript, NextInput, HasFoundMemory, given, fed, state_at, past_of, after_take, take_result, take_result_of_verdict, step_of_taken, is_message, after_reply, after_call}
use Rattle.zoom_pool.specs.History.{History, events_on}
use Rattle.zoom_pool.specs.Hosts.{Holdings, HostEvent, HostState, holdings_of}
use Rattle.zoom_pool.specs.Laws.{OneTranscript, TakeLaws, IsWaiting}
use Rattle.zoom_pool.specs.Connections.{AreReadBack}
use Rattle.zoom_pool.specs.Metas.{MetaLinks, MetaAfter, MetaRecorded, MetaTakeStep, CompleteDrive, call_events, settings_of}
use Rattle.zoom_pool.proofs.Metas.{transcript_at, slice_some}
use Rattle.zoom_laws.specs.Exchange.{IsSoundExchange, HasTakenAll, ExchangeLaws, CallLaw}
use Rattle.zoom_sim.specs.declared.peers.Peer.{Peer}
use Rattle.zoom_sim.specs.RunSound.{at_connection, DriveOneStep, TakeOneStep, is_taken, HasNoCallDue, IsSoundPeer, SoundStep, AreQuiet, MoreQuietEvents, EndInputStep}
use Rattle.zoom_sim.specs.RunTakeAll.{MoreEventsStep, QuietStep}
use Rattle.zoom_sim.proofs.RunSound.{only_more, of_append}
use Rattle.zoom_sim.proofs.RunLosses.{quiet_append, quiet_calls}

-- ---- the result of a take

-- there is an input, and this is its result
pub takes_at : OneTranscript → (c : ℕ) (old new : MetaLinks) (answer : Result Step TakeError) (taken : Bool)
    → c < length old.pool.connections → IsTakeResult c old.pool answer → HasFoundMemory answer → MetaTakeStep c old new
    → is_taken answer ≡ taken → TakeOneStep c taken old new
takes_at uniqueness c old new answer taken there value_is done took is questions s h p a transcript =
    let now = transcript_at (settings_of s) h a.pool.transcript old.pool.connections c a.pool.stands there in
    let same : a.pool.transcript c ≡ p = uniqueness (settings_of s) (events_on c h) (a.pool.transcript c) p now transcript in
    let t = value_is (settings_of s) [] h a.pool done in
    let answers : answer ≡ take_result p t.0 = subst (λ z. answer ≡ take_result z t.0) same t.2 in
    (took questions s [] h a, (t.0, subst (λ z. NextInput z t.0) same t.1, sym (ap is_taken answers) ∙ is))

-- ---- the input of a take

message_step : (t : Taken) → is_message (step_of_taken t) ≡ true
message_step (taken.Opened answer) = refl
message_step (taken.Rejected answer) = refl
message_step (taken.Answered answer) = refl
message_step taken.Closed = refl

-- if all messages were taken, the next input is no message
pub none_taken : TakeLaws → (p : Transcript) (input : Input) → p.ended ≡ false → is_stopped (state_at p) ≡ false → HasTakenAll p
    → NextInput p input → is_taken (take_result p input) ≡ false
none_taken laws p input more goes t m =
    let waits : IsWaiting p = record { is_going = goes; more = more; rest = t.0; behind = t.1; unfinished = t.2 } in
    ap is_taken ((laws.nothing p input m).1 waits)

-- nor is it if the connection is stopped
pub stopped_none : (p : Transcript) (input : Input) → is_stopped (state_at p) ≡ true → NextInput p input
    → is_taken (take_result p input) ≡ false
stopped_none p AlreadyStopped s m = refl
stopped_none p (Message v) s m = absurd (true≢false (sym s ∙ m.0))
stopped_none p (Foreign error) s m = refl
stopped_none p (Fault kind at) s m = refl
stopped_none p (Rest n) s m = absurd (true≢false (sym s ∙ m.0))
stopped_none p Nothing s m = absurd (true≢false (sym s ∙ m.0))

-- a take of no message that did not stop the connection left it unchanged, and all messages were taken
pub record IsIdleTake (p q : Transcript) : Type 0 where
  pub same : q ≡ p
  pub took : is_stopped (state_at p) ≡ false → HasTakenAll p

no_some : {X : Type 0} {x : X} → Some x ≡ None → ⊥
no_some e = cc

by_verdict : (p later : Transcript) (v : Result Taken Refused) → is_taken (take_result_of_verdict v) ≡ false → (after_reply later v).stop ≡ None
    → IsIdleTake p (after_reply later v)
by_verdict p later (Ok t) e goes = absurd (true≢false (sym (message_step t) ∙ e))
by_verdict p later (Err reason) e goes = absurd (no_some goes)

waits_all : (p : Transcript) → IsWaiting p → HasTakenAll p
waits_all p w = (w.rest, w.behind, w.unfinished)

pub idle_take : TakeLaws → (p : Transcript) (input : Input) → p.ended ≡ false → NextInput p input → is_taken (take_result p input) ≡ false
    → (after_take p input).stop ≡ None → IsIdleTake p (after_take p input)
idle_take laws p AlreadyStopped more m e goes =
    record { same = refl; took = λ on. absurd (true≢false (sym m ∙ on)) }
idle_take laws p (Message v) more m e goes = by_verdict p _ (verdict (standing (past_of p)) v) e goes
idle_take laws p (Foreign error) more m e goes = absurd (no_some goes)
idle_take laws p (Fault kind at) more m e goes = absurd (no_some goes)
idle_take laws p (Rest n) more m e goes = record {
  same = rw more refl;
  took = λ on. waits_all p ((laws.nothing p (Rest n) m).0 (rw more refl));
}
idle_take laws p Nothing more m e goes = record {
  same = rw more refl;
  took = λ on. waits_all p ((laws.nothing p Nothing m).0 (rw more refl));
}

-- a take of a message that was accepted took one more
grown_verdict : (later : Transcript) (v : Result Taken Refused) → (after_reply later v).taken ≡ later.taken
grown_verdict later (Ok t) = refl
grown_verdict later (Err reason) = refl

pub taken_grows : (p : Transcript) (input : Input) → is_taken (take_result p input) ≡ true → (after_take p input).taken ≡ suc p.taken
taken_grows p AlreadyStopped e = absurd (true≢false (sym e))
taken_grows p (Message v) e = grown_verdict _ (verdict (standing (past_of p)) v)
taken_grows p (Foreign error) e = absurd (true≢false (sym e))
taken_grows p (Fault kind at) e = absurd (true≢false (sym e))
taken_grows p (Rest n) e = absurd (by p.ended refl)
  where
    by : (b : Bool) → p.ended ≡ b → ⊥
    by true f = let g : is_taken (take_result p (Rest n)) ≡ false = rw f refl in true≢false (sym e ∙ g)
    by false f = let g : is_taken (take_result p (Rest n)) ≡ false = rw f refl in true≢false (sym e ∙ g)
taken_grows p Nothing e = absurd (by p.ended refl)
  where
    by : (b : Bool) → p.ended ≡ b → ⊥
    by true f = let g : is_taken (take_result p Nothing) ≡ false = rw f refl in true≢false (sym e ∙ g)
    by false f = let g : is_taken (take_result p Nothing) ≡ false = rw f refl in true≢false (sym e ∙ g)

-- ---- calls

-- the transcript after some calls, the newest first
abbrev pub called : List Call → Transcript → Transcript
called [] p = p
called (call ∷ calls) p = after_call (called calls p) call

pub called_transcript : (settings : Settings) (calls : List Call) (events : List Event) (p : Transcript) → IsTranscript settings events p
    → IsTranscript settings (map Called calls ++ events) (called calls p)
called_transcript settings [] events p transcript = transcript
called_transcript settings (call ∷ calls) events p transcript =
    (called calls p, called_transcript settings calls events p transcript, refl)

-- a call takes nothing and feeds nothing
pub record IsSameStream (p q : Transcript) : Type 0 where
  pub stream : q.stream ≡ p.stream
  pub taken : q.taken ≡ p.taken

stream_call : (p : Transcript) (call : Call) → IsSameStream p (after_call p call)
stream_call p call = elim (is_some p.stop) as (λ b. IsSameStream p (cond b p (record p { log = Made call ∷ p.log }))) [
  | true ↦ record { stream = refl; taken = refl }
  | false ↦ record { stream = refl; taken = refl }
]

pub stream_called : (calls : List Call) (p : Transcript) → IsSameStream p (called calls p)
stream_called [] p = record { stream = refl; taken = refl }
stream_called (call ∷ calls) p =
    let one : IsSameStream (called calls p) (after_call (called calls p) call) = stream_call (called calls p) call in
    let others : IsSameStream p (called calls p) = stream_called calls p in
    record { stream = one.stream ∙ others.stream; taken = one.taken ∙ others.taken }

-- the front of what is read back is read back
front_read : (vs ws : List Apdu) → AreReadBack (vs ++ ws) → AreReadBack vs
front_read [] ws r = tt
front_read (v ∷ vs) ws r = (r.0, front_read vs ws r.1)

admitted_read : (p : Past) (call : Call) (o : Option CallRefused) → AreReadBack (admit_unless p call o).sent
    → AreReadBack p.sent
admitted_read p call None r = front_read p.sent (request_list (request_of (standing p) call)) r
admitted_read p call (Some reason) r = r

read_before : (p : Transcript) (call : Call) → AreReadBack (past_of (after_call p call)).sent → AreReadBack (past_of p).sent
read_before p call = elim (is_some p.stop) as
    (λ b. AreReadBack (past_of (cond b p (record p { log = Made call ∷ p.log }))).sent → AreReadBack (past_of p).sent) [
      | true ↦ λ r. r
      | false ↦ λ r. admitted_read (past_of p) call (refusal (standing (past_of p)) call) r
    ]

module _ (holdings : Holdings) (settings : Settings) (host_events : List HostEvent) (host : HostState) (law : CallLaw) where
  pub calls_sound : (calls : List Call) (events : List Event) (p : Transcript) → IsSoundExchange holdings settings events p host_events host
      → AreReadBack (past_of (called calls p)).sent
      → IsSoundExchange holdings settings (map Called calls ++ events) (called calls p) host_events host
  calls_sound [] events p s reads = s
  calls_sound (call ∷ calls) events p s reads =
      law holdings settings (map Called calls ++ events) (called calls p) host_events host call
      (calls_sound calls events p s (read_before (called calls p) call reads)) reads

pub calls_silent : (calls : List Call) (events : List Event)
    → (given (map Called calls ++ events) ≡ given events) × (fed (map Called calls ++ events) ≡ fed events)
calls_silent [] events = (refl, refl)
calls_silent (call ∷ calls) events = calls_silent calls events

pub made_of : (c : ℕ) (calls : List Call) → call_events c calls ≡ at_connection c (map Called calls)
made_of c [] = refl
made_of c (call ∷ calls) = ap (λ z. (c, Called call) ∷ z) (made_of c calls)

-- what was sent on a connection is read back
pub sent_read : OneTranscript → (questions : List Question) (s : MetaSettings) (h : History) (meta : MetaLinks) (c : ℕ)
    (p : Transcript) → MetaAfter questions s h meta → c < length questions → IsTranscript (settings_of s) (events_on c h) p
    → AreReadBack (past_of p).sent
sent_read uniqueness questions s h meta c p after lt transcript =
    let k = slice_some meta.pool.connections c (subst (λ n. c < n) (sym after.size) lt) in
    let left = after.pool.stands.each c k.0 k.1 in
    let same : after.pool.transcript c ≡ p = uniqueness (settings_of s) (events_on c h) (after.pool.transcript c) p left.transcript transcript in
    subst (λ z. AreReadBack (past_of z).sent) same left.reads

-- the calls that driving made
pub drove_after : (questions : List Question) (s : MetaSettings) (c : ℕ) (h : History) (n : ℕ) (new : MetaLinks)
    (w : CompleteDrive questions s [] c h n new) → MetaAfter questions s (at_connection c (map Called w.progress.calls) ++ h) new
drove_after questions s c h n new w =
    subst (λ z. MetaAfter questions s (z ++ h) new) (made_of c w.progress.calls) w.progress.after

-- a sound connection after these calls
pub record IsDriven (s : MetaSettings) (q : Question) (holdings : Holdings) (calls : List Call) (events : List Event)
    (p : Transcript) (host_events : List HostEvent) (host : HostState) : Type 0 where
  pub sound : IsSoundExchange holdings (settings_of s) (map Called calls ++ events) (called calls p) host_events host
  pub idle : HasNoCallDue s q (called calls p)

pub drives_sound : CallLaw → OneTranscript → (questions : List Question) (s : MetaSettings) (c : ℕ) (h : History) (n : ℕ)
    (new : MetaLinks) (w : CompleteDrive questions s [] c h n new) (q : Question) (holdings : Holdings) (p : Transcript)
    (host_events : List HostEvent) (host : HostState) → slice_get questions c ≡ Some q
    → IsSoundExchange holdings (settings_of s) (events_on c h) p host_events host
    → IsDriven s q holdings w.progress.calls (events_on c h) p host_events host
drives_sound law uniqueness questions s c h n new w q holdings p host_events host at sound =
    let calls = w.progress.calls in
    let transcript : IsTranscript (settings_of s) (map Called calls ++ events_on c h) (called calls p) =
    called_transcript (settings_of s) calls (events_on c h) p sound.transcript in
    let there : IsTranscript (settings_of s) (events_on c (at_connection c (map Called calls) ++ h)) (called calls p) =
    subst (λ z. IsTranscript (settings_of s) z (called calls p)) (sym (only_more c (map Called calls) h)) transcript in
    let reads : AreReadBack (past_of (called calls p)).sent =
    sent_read uniqueness questions s (at_connection c (map Called calls) ++ h) new c (called calls p)
    (drove_after questions s c h n new w) (slice_get_within questions c q at) there in
    record {
      sound = calls_sound holdings (settings_of s) host_events host law calls (events_on c h) p sound reads;
      idle = w.rests q (called calls p) at
          (subst (λ z. IsTranscript (settings_of s) (events_on c (z ++ h)) (called calls p)) (sym (made_of c calls)) there);
    }

-- ---- whatever was sound

pub drive_adds : (c : ℕ) (old new : MetaLinks) → DriveOneStep c old new → QuietStep c old new
drive_adds c old new d questions s h a =
    let drove = d questions s h a in
    let w : CompleteDrive questions s [] c h drove.0 new = drove.1 in
    record {
      events = map Called w.progress.calls;
      after = drove_after questions s c h drove.0 new w;
      quiet = quiet_calls w.progress.calls;
    }

-- a take, whatever its input
pub take_adds : (c : ℕ) (taken : Bool) (old new : MetaLinks) → c < length old.pool.connections → TakeOneStep c taken old new
    → QuietStep c old new
take_adds c taken old new there t questions s h a =
    let transcript = transcript_at (settings_of s) h a.pool.transcript old.pool.connections c a.pool.stands there in
    record { events = Took ∷ []; after = (t questions s h (a.pool.transcript c) a transcript).0; quiet = tt }

pub adds_same : (c : ℕ) (meta : MetaLinks) → QuietStep c meta meta
adds_same c meta questions s h a = record { events = []; after = a; quiet = tt }

pub adds_trans : (c : ℕ) (old mid new : MetaLinks) → QuietStep c old mid → QuietStep c mid new → QuietStep c old new
adds_trans c old mid new f g questions s h a =
    let one : MoreQuietEvents questions s c h mid = f questions s h a in
    let two : MoreQuietEvents questions s c (at_connection c one.events ++ h) new = g questions s (at_connection c one.events ++ h) one.after in
    record {
      events = two.events ++ one.events;
      after = subst (λ z. MetaAfter questions s z new) (of_append c one.events two.events h) two.after;
      quiet = quiet_append two.events one.events two.quiet one.quiet;
    }

-- quiet events are events
pub quiet_adds : (c : ℕ) (old new : MetaLinks) → QuietStep c old new → MoreEventsStep c old new
quiet_adds c old new f questions s h a =
    let m : MoreQuietEvents questions s c h new = f questions s h a in record { events = m.events; after = m.after }

-- the end of the input, and a take
pub ended_take : (c : ℕ) (taken : Bool) (old mid new : MetaLinks) → MetaRecorded c InputEnded old mid
    → TakeOneStep c taken mid new → EndInputStep c old new
ended_take c taken old mid new recorded t questions s h p a transcript =
    let ended : Transcript = record p { ended = true } in
    let later : History = at_connection c (InputEnded ∷ []) ++ h in
    let here : events_on c later ≡ InputEnded ∷ events_on c h = only_more c (InputEnded ∷ []) h in
    let there : IsTranscript (settings_of s) (events_on c later) ended =
    subst (λ z. IsTranscript (settings_of s) z ended) (sym here) (p, transcript, refl) in
    let took = t questions s later ended (recorded questions s [] h a) there in
    (took.0, (took.1.0, took.1.1))

-- ---- what was sound

-- quiet events, after which what was sound is sound
pub record QuietSoundStep (questions : List Question) (s : MetaSettings) (c : ℕ) (h : History) (q : Question)
    (target : TargetState) (taken same : Bool) (p : Transcript) (host_events : List HostEvent) (new : MetaLinks)
    (peer : Peer) : Type 0 where
  pub stepped : SoundStep questions s c h q target taken same p host_events new peer
  pub quiet : AreQuiet stepped.events

-- one message was taken
pub record Busy (questions : List Question) (s : MetaSettings) (c : ℕ) (h : History) (q : Question)
    (target : TargetState) (p : Transcript) (host_events : List HostEvent) (new : MetaLinks) (peer : Peer) : Type 0 where
  pub stepped : SoundStep questions s c h q target false false p host_events new peer
  pub more : stepped.later.taken ≡ suc p.taken
  pub quiet : AreQuiet stepped.events

module _ (laws : ExchangeLaws) (takes : TakeLaws) (c : ℕ) (peer : Peer) (questions : List Question) (s : MetaSettings)
    (h : History) (q : Question) (target : TargetState) (p : Transcript) (host_events : List HostEvent) where
  -- a take of no message
  pub idle_fine : (taken : Bool) (old new : MetaLinks) → TakeOneStep c false old new → MetaAfter questions s h old
      → IsSoundPeer s q target taken (events_on c h) p host_events peer
      → QuietSoundStep questions s c h q target true true p host_events new peer
  idle_fine taken old new t a f =
      let took = t questions s h p a f.sound.transcript in
      let input = took.1.0 in
      let sound = laws.takes (holdings_of target) (settings_of s) (events_on c h) p host_events peer.host input f.sound took.1.1 in
      let idle : IsIdleTake p (after_take p input) = idle_take takes p input f.sound.goes_on took.1.1 took.1.2 sound.goes in
      record {
        stepped = record {
          events = Took ∷ [];
          host_more = [];
          after = took.0;
          later = after_take p input;
          fine = record {
            sound = sound;
            to = f.to;
            from = f.from;
            idle = subst (HasNoCallDue s q) (sym idle.same) f.idle;
            took = λ e. subst (λ z. is_stopped (state_at z) ≡ false → HasTakenAll z) (sym idle.same) idle.took;
          };
          still = λ e. idle.same;
        };
        quiet = tt;
      }

  -- a take of a message, and the calls that were due then
  pub busy_fine : OneTranscript → (old mid new : MetaLinks) → TakeOneStep c true old mid → DriveOneStep c mid new
      → MetaAfter questions s h old → slice_get questions c ≡ Some q → IsSoundPeer s q target false (events_on c h) p host_events peer
      → Busy questions s c h q target p host_events new peer
  busy_fine uniqueness old mid new t d a at f =
      let took = t questions s h p a f.sound.transcript in
      let input = took.1.0 in
      let one = laws.takes (holdings_of target) (settings_of s) (events_on c h) p host_events peer.host input f.sound took.1.1 in
      let h_took : History = at_connection c (Took ∷ []) ++ h in
      let here : events_on c h_took ≡ Took ∷ events_on c h = only_more c (Took ∷ []) h in
      let drove = d questions s h_took took.0 in
      let w : CompleteDrive questions s [] c h_took drove.0 new = drove.1 in
      let calls = w.progress.calls in
      let later = called calls (after_take p input) in
      let driven : IsDriven s q (holdings_of target) calls (events_on c h_took) (after_take p input) host_events peer.host =
      drives_sound laws.calls uniqueness questions s c h_took drove.0 new w q (holdings_of target) (after_take p input) host_events
      peer.host at
      (subst (λ z. IsSoundExchange (holdings_of target) (settings_of s) z (after_take p input) host_events peer.host) (sym here) one) in
      let same : map Called calls ++ (Took ∷ events_on c h) ≡ (map Called calls ++ Took ∷ []) ++ events_on c h =
      sym (append_assoc (map Called calls) (Took ∷ []) (events_on c h)) in
      let silent = calls_silent calls (Took ∷ events_on c h) in
      record {
        stepped = record {
          events = map Called calls ++ Took ∷ [];
          host_more = [];
          after = subst (λ z. MetaAfter questions s z new) (of_append c (Took ∷ []) (map Called calls) h)
              (drove_after questions s c h_took drove.0 new w);
          later = later;
          fine = record {
            sound = subst (λ z. IsSoundExchange (holdings_of target) (settings_of s) z later host_events peer.host)
                (ap (λ z. map Called calls ++ z) here ∙ same) driven.sound;
            to = ap given (sym same) ∙ silent.0 ∙ f.to;
            from = f.from ∙ ap (λ z. z ++ peer.from) (sym (ap fed (sym same) ∙ silent.1));
            idle = driven.idle;
            took = λ e. absurd (true≢false (sym e));
          };
          still = λ e. absurd (true≢false (sym e));
        };
        more = (stream_called calls (after_take p input)).taken ∙ taken_grows p input took.1.2;
        quiet = quiet_append (map Called calls) (Took ∷ []) (quiet_calls calls) tt;
      }
