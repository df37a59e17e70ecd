-- Calls that are due were made, and what waits was handed out.
use Rattle.std.proofs.Common.{◌≡◌, ◌∙◌, sym, ap, subst, ℕ, ◌<◌, ◌==◌, false, List, [], ◌∷◌, ◌++◌, map, length, Ok, refl}
use Rattle.zorigin.specs.Standings.{Call}
use Rattle.zoom_questions.specs.declared.question.Question.{Question}
use Rattle.zoom_questions.specs.declared.question.MetaSettings.{MetaSettings}
use Rattle.zoom_pool.specs.Transcripts.{Transcript, IsTranscript, Event, Called, HandedOut, past_of, given, is_lost, sent}
use Rattle.zoom_pool.specs.Links.{waiting_at}
use Rattle.zoom_pool.specs.PoolSteps.{HasHandedOutAll}
use Rattle.zoom_pool.specs.History.{History, events_on}
use Rattle.zoom_pool.specs.Laws.{OneTranscript}
use Rattle.zoom_pool.specs.Metas.{MetaLinks, MetaAfter, MetaRecorded, DriveResult, CompleteDrive, call_events, settings_of}
use Rattle.zoom_pool.proofs.Pools.{only_same, only_other}
use Rattle.zoom_pool.proofs.Advancing.{only_made}
use Rattle.zoom_pool.proofs.Metas.{transcript_at}
use Rattle.zoom_asking.specs.Steps.{IsExtended}
use Rattle.zoom_asking.specs.Talks.{IsDriven}

-- ---- calls of one connection

-- They are no events of another.
others_made : (c d : ℕ) (calls : List Call) (h : History) → (c == d) ≡ false
    → events_on d (call_events c calls ++ h) ≡ events_on d h
others_made c d [] h far = refl
others_made c d (call ∷ calls) h far =
    only_other c d (Called call) (call_events c calls ++ h) far ∙ others_made c d calls h far

-- They hand nothing out.
given_made : (calls : List Call) (events : List Event)
    → given (map (λ call. Called call) calls ++ events) ≡ given events
given_made [] events = refl
given_made (call ∷ calls) events = given_made calls events

-- ---- all that waits was handed out

all_given : OneTranscript → (questions : List Question) (s : MetaSettings) (c : ℕ) (h : History) (meta : MetaLinks)
    → c < length meta.pool.connections → MetaAfter questions s h meta → HasHandedOutAll c meta.pool
    → (p : Transcript) → IsTranscript (settings_of s) (events_on c h) p → is_lost (events_on c h) ≡ false
    → given (events_on c h) ≡ sent (past_of p)
all_given hearing questions s c h meta lt a all p transcript kept =
    let now = transcript_at (settings_of s) h a.pool.transcript meta.pool.connections c a.pool.stands lt in
    let is : a.pool.transcript c ≡ p = hearing (settings_of s) (events_on c h) (a.pool.transcript c) p now transcript in
    all (settings_of s) [] h a.pool kept ∙ ap (λ z. sent (past_of z)) is

-- Calls were made, and then what waits was handed out.
pub driven_on : OneTranscript → (E : Type 0) (c n : ℕ) (old mid new : MetaLinks) (waited waits : List ℕ)
    → c < length new.pool.connections → DriveResult {E = E} c (Ok n) old mid
    → MetaRecorded c (HandedOut (waiting_at mid.pool c)) mid new → HasHandedOutAll c new.pool
    → waits ≡ waited ++ waiting_at mid.pool c → IsExtended c IsDriven old new waited waits
driven_on hearing E c n old mid new waited waits lt drove recorded all kept questions s pool question a asks =
    let d : CompleteDrive questions s [] c pool n mid = drove questions s [] pool a in
    let calls : List Call = d.progress.calls in
    let octets : List ℕ = waiting_at mid.pool c in
    let driven : History = call_events c calls ++ pool in
    let more : History = (c, HandedOut octets) ∷ driven in
    let called : List Event = map (λ call. Called call) calls ++ events_on c pool in
    let after : MetaAfter questions s more new = recorded questions s [] driven d.progress.after in
    let mine : events_on c driven ≡ called = only_made c calls pool in
    let whole : events_on c more ≡ HandedOut octets ∷ called =
    only_same c (HandedOut octets) driven ∙ ap (λ z. HandedOut octets ∷ z) mine in
    record {
      more = more;
      meta = after;
      others = λ i far. only_other c i (HandedOut octets) driven far ∙ others_made c i calls pool far;
      mine = record {
        calls = calls;
        octets = octets;
        is = whole;
        idle = λ p transcript.
            let was = subst (λ z. IsTranscript (settings_of s) z p) (sym mine) transcript in
            (d.rests question p asks was, d.tried p was);
        all = all_given hearing questions s c more new lt after all;
      };
      out = octets;
      gave = ap given whole ∙ ap (λ z. z ++ octets) (given_made calls (events_on c pool));
      kept = kept;
    }
