-- In any manner, a connection has a history of its own, in which its turn comes.
use Rattle.std.proofs.Common.{◌≡◌, ◌⊎◌, inl, inr, ℕ, zero, suc, Bool, true, false, cond, List, [], ◌∷◌, ◌++◌, map, slice_get, get_or, Option, None, Some, refl, sym, ap, subst, ◌∙◌, append-nil}
use Rattle.std.specs.Prelude.{option_map, option_to_list}
use Rattle.std.proofs.lemmas.Option.{same_Some, slice_get-map}
use Rattle.zoom_questions.specs.declared.question.Question.{Question}
use Rattle.zoom_questions.specs.declared.question.MetaSettings.{MetaSettings}
use Rattle.zoom_clock.specs.declared.course.Course.{Course}
use Rattle.zoom_clock.specs.declared.signal.Signal.TheVariants as signals
use Rattle.zoom_clock.specs.declared.stage.Stage.{Stage}
use Rattle.zoom_clock.specs.declared.stage.Stage.TheVariants.{NotChosen, Resolving, Connecting, Talking, Over}
use Rattle.zoom_clock.specs.declared.talk.Talk.{Talk}
use Rattle.zoom_clock.specs.Stages.{listening, ruling}
use Rattle.zoom_clock.specs.Courses.{event, is_settled, step, tasks_of, time_of}
use Rattle.zoom_asking.specs.declared.change.Change.TheVariants as changes
use Rattle.zoom_asking.specs.declared.inquiry.AskedHost.{AskedHost}
use Rattle.zoom_asking.specs.declared.inquiry.Manner.{Manner}
use Rattle.zoom_asking.specs.declared.inquiry.Manner.TheVariants as manners
use Rattle.zoom_asking.specs.Changes.{change_between}
use Rattle.zoom_asking.specs.Inquiries.{Inquiry, Entry, Event, Noted, own, own_event, passed_in}
use Rattle.zoom_asking.specs.Hosts.{AskedConnection, AskedAfter, AfterChange, IsNoted, first_host, is_lost_at, sends}
use Rattle.zoom_asking.specs.Askings.{AllAskedAfter, IsToldIf, after_turns, time_in, with_next_turn, with_turn}
use Rattle.zoom_asking.specs.Laws.{AreReported, AskedOn, TurnsLaw, but_turns, is_no_turn}
use Rattle.zoom_asking.proofs.Owning.{beside}
use Rattle.zoom_asking.proofs.Rulings.{stage_next}
use Rattle.zoom_asking.proofs.Telling.{no_sends}
use Rattle.zoom_asking.proofs.TurnsTaken.{turned_host}

-- ---- a turn changes no events

no_change : (stage : Stage) → change_between stage stage ≡ changes.Same
no_change NotChosen = refl
no_change Resolving = refl
no_change (Connecting a) = refl
no_change (Talking t) = refl
no_change (Over ending) = refl

still_talks : (t : Talk) (now : ℕ) (wanted : Bool)
    → change_between (Talking t) (listening now wanted t).stage ≡ changes.Same
still_talks t now true = refl
still_talks t now false = refl

rule_changes : (p : Course) (at : ℕ) (stage : Stage) → p.stage ≡ stage
    → change_between stage
    (ruling p.limits p.start (time_of (event at signals.Turn) p) p.wanted signals.Turn stage).stage
    ≡ changes.Same
rule_changes p at NotChosen e = refl
rule_changes p at Resolving e = refl
rule_changes p at (Connecting a) e = refl
rule_changes p at (Talking t) e = still_talks t (time_of (event at signals.Turn) p) p.wanted
rule_changes p at (Over ending) e = refl

turn_changes : (p : Course) (at : ℕ) → change_between p.stage (step (event at signals.Turn) p).stage ≡ changes.Same
turn_changes p at = elim (stage_next (event at signals.Turn) p) [
  | inl e ↦ ap (change_between p.stage) e ∙ no_change p.stage
  | inr e ↦ ap (change_between p.stage) e ∙ rule_changes p at p.stage refl
]

turn_noted : (s : MetaSettings) (q : Question) (at : ℕ) (h : AskedConnection)
    → IsNoted s q at signals.Turn h.events h (turned_host at h)
turn_noted s q at h = record {
  course = refl;
  changed = subst (λ x. AfterChange x s q h.events h.events) (sym (turn_changes h.course at)) refl;
  tasks = sym (ap (λ l. h.tasks ++ l ++ tasks_of (event at signals.Turn) h.course ++ sends false h.events h.events)
      (no_sends (is_lost_at h.course.stage) h.events)
      ∙ ap (λ l. h.tasks ++ [] ++ tasks_of (event at signals.Turn) h.course ++ l) (no_sends false h.events)
      ∙ append-nil (h.tasks ++ [] ++ tasks_of (event at signals.Turn) h.course)
      ∙ ap (λ l. l ++ tasks_of (event at signals.Turn) h.course) (append-nil h.tasks));
}

-- ---- who gets a turn

-- this connection was there, or it is one whose turn has come
abbrev pub Found : ℕ → List AskedConnection → ℕ → AskedConnection → Type 0
Found at hosts c h = (k : AskedConnection) × (slice_get hosts c ≡ Some k) × ((h ≡ k) ⊎ (h ≡ turned_host at k))

given_turn : (at : ℕ) (x : AskedConnection) → (with_turn at x ≡ x) ⊎ (with_turn at x ≡ turned_host at x)
given_turn at x = by x.course.wanted
  where
    by : (b : Bool) → (cond b x (turned_host at x) ≡ x) ⊎ (cond b x (turned_host at x) ≡ turned_host at x)
    by true = inl refl
    by false = inr refl

first_turn : (at : ℕ) (x h : AskedConnection) (xs : List AskedConnection) → with_turn at x ≡ h → Found at (x ∷ xs) 0 h
first_turn at x h xs e = (x, refl, elim (given_turn at x) [ inl s ↦ inl (sym e ∙ s) | inr s ↦ inr (sym e ∙ s) ])

next_found : (at : ℕ) (hosts : List AskedConnection) (c : ℕ) (h : AskedConnection)
    → slice_get (with_next_turn at hosts) c ≡ Some h
    → Found at hosts c h
next_found at [] c h get = absurd (cc)
next_found at (x ∷ xs) c h get = by (is_settled x.course.stage) (next_found at xs) c get
  where
    by : (b : Bool) → ((d : ℕ) (y : AskedConnection) → slice_get (with_next_turn at xs) d ≡ Some y → Found at xs d y)
        → (d : ℕ) → slice_get (cond b (x ∷ with_next_turn at xs) (with_turn at x ∷ xs)) d ≡ Some h
        → Found at (x ∷ xs) d h
    by true later zero is = (x, refl, inl (sym (same_Some x h is)))
    by true later (suc d) is = later d h is
    by false later zero is = first_turn at x h xs (same_Some (with_turn at x) h is)
    by false later (suc d) is = (h, is, inl refl)

pub found : (m : Manner) (at : ℕ) (hosts : List AskedConnection) (c : ℕ) (h : AskedConnection)
    → slice_get (after_turns m at hosts) c ≡ Some h → Found at hosts c h
found manners.AtOnce at hosts c h get = (h, get, inl refl)
found manners.InOrder at hosts c h get = next_found at hosts c h get

-- ---- a history of its own

-- a history of its own for these events of it
record Owned (i : Inquiry) (host : Option AskedHost) (question : Question) (ds : List Event)
    (h : AskedConnection) : Type 0 where
  es : List Event
  after : AskedAfter i host question es h
  same : but_turns es ≡ but_turns ds
  reported : AreReported ds → AreReported es

turn_then : (i : Inquiry) (host : Option AskedHost) (question : Question) (ds : List Event) (at : ℕ)
    (k h : AskedConnection)
    → Owned i host question ds k → (h ≡ k) ⊎ (h ≡ turned_host at k) → Owned i host question ds h
turn_then i host question ds at k h o (inl e) = subst (Owned i host question ds) (sym e) o
turn_then i host question ds at k h o (inr e) = subst (Owned i host question ds) (sym e) (record {
  es = record { at = at; told = Noted signals.Turn } ∷ o.es;
  after = (k, o.after, turn_noted i.settings question at k);
  same = o.same;
  reported = λ r. (tt, o.reported r);
})

told_owned : (i : Inquiry) (host : Option AskedHost) (question : Question) (o : Option Event) (ds : List Event)
    (old new : AskedConnection) → Owned i host question ds old → IsToldIf i question o old new
    → Owned i host question (option_to_list o ++ ds) new
told_owned i host question None ds old new w told = subst (Owned i host question ds) (sym told) w
told_owned i host question (Some e) ds old new w told = record {
  es = e ∷ w.es;
  after = (old, w.after, told);
  same = by (is_no_turn e.told);
  reported = λ r. (r.0, w.reported r.1);
}
  where
    by : (b : Bool) → cond b (e ∷ but_turns w.es) (but_turns w.es) ≡ cond b (e ∷ but_turns ds) (but_turns ds)
    by b = ap (λ l. cond b (e ∷ l) l) w.same

owned : (i : Inquiry) (history : List Entry) (hosts : List AskedConnection) (c : ℕ) (h : AskedConnection)
    (asks : AskedOn i c) → AllAskedAfter i history hosts → slice_get hosts c ≡ Some h
    → Owned i asks.host asks.question (own c i.start history) h
owned i [] hosts c h asks after at =
    let f = found i.manner i.start (map (first_host i) i.hosts) c h (ap (λ l. slice_get l c) (sym after) ∙ at) in
    let first : f.0 ≡ first_host i asks.host =
    same_Some f.0 (first_host i asks.host) (sym f.1 ∙ slice_get-map (first_host i) i.hosts c
    ∙ ap (λ o. option_map (first_host i) o) asks.has_host) in
    turn_then i asks.host asks.question [] i.start f.0 h
    (record { es = []; after = first; same = refl; reported = λ r. r }) f.2
owned i (x ∷ xs) hosts c h asks after at =
    let passed = passed_in i.start xs in
    let f = found i.manner (time_in passed x) after.1 c h (ap (λ l. slice_get l c) (sym after.4) ∙ at) in
    let was = get_or after.0 c f.0 in
    let there : slice_get after.0 c ≡ Some was = beside after.0 after.1 c f.0 after.3.size f.1 in
    turn_then i asks.host asks.question (own c i.start (x ∷ xs)) (time_in passed x) f.0 h
    (told_owned i asks.host asks.question (own_event c passed x) (own c i.start xs) was f.0
    (owned i xs after.0 c was asks after.2 there)
    (after.3.each c asks.question was f.0 asks.has_question there f.1)) f.2

pub turns_of : TurnsLaw
turns_of i history hosts c h asks after at =
    let o = owned i history hosts c h asks after at in (o.es, o.after, o.same)

-- a history of its own, of which each event was reported or is a turn
pub own_history : (i : Inquiry) (history : List Entry) (hosts : List AskedConnection) (c : ℕ) (h : AskedConnection)
    (asks : AskedOn i c) → AllAskedAfter i history hosts → AreReported (own c i.start history)
    → slice_get hosts c ≡ Some h → (es : List Event) × AreReported es × AskedAfter i asks.host asks.question es h
own_history i history hosts c h asks after reported at =
    let o = owned i history hosts c h asks after at in (o.es, o.reported reported, o.after)
