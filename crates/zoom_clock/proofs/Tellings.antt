-- What a stage says of the history that led to it, and that it stays so while a connection connects.
use Rattle.std.proofs.Common.{◌≡◌, ◌⊎◌, inl, inr, ℕ, ◌+◌, ◌==◌, ◌<◌, ◌≤◌, Bool, true, false, cond, List, ◌∷◌, length, slice_set, count_by, Option, None, Some, refl, sym, ap, ◌∙◌, subst, nat_le, arith}
use Rattle.std.proofs.lemmas.List.Sums.{sum_by-cons}
use Rattle.std.proofs.Math.ListN.{length-set}
use Rattle.std.specs.List.{list_all}
use Rattle.zoom_clock.specs.declared.attempt.Attempt.{Attempt}
use Rattle.zoom_clock.specs.declared.attempt.Attempt.TheVariants.{Open, Waiting, Failed}
use Rattle.zoom_clock.specs.declared.attempts.Attempts.{Attempts}
use Rattle.zoom_clock.specs.declared.limits.Limits.{Limits}
use Rattle.zoom_clock.specs.declared.signal.Ending.{Ending}
use Rattle.zoom_clock.specs.declared.signal.Ending.TheVariants as endings
use Rattle.zoom_clock.specs.declared.signal.Signal.{Signal}
use Rattle.zoom_clock.specs.declared.signal.Signal.TheVariants as signals
use Rattle.zoom_clock.specs.declared.signal.Condition.TheVariants as conditions
use Rattle.zoom_clock.specs.declared.stage.Stage.{Stage}
use Rattle.zoom_clock.specs.declared.stage.Stage.TheVariants.{NotChosen, Resolving, Connecting, Talking, Over}
use Rattle.zoom_clock.specs.declared.talk.Talk.{Talk}
use Rattle.zoom_clock.specs.Times.{never}
use Rattle.zoom_clock.specs.Attempts.{is_open, has_failed, next_of, with_failed, with_waiting}
use Rattle.zoom_clock.specs.Stages.{Ruling, staying, connect_end, first_talk, beginning, beginning_next, giving_up, failing, winning, connecting_ruling}
use Rattle.zoom_clock.specs.Courses.{Event, event, is_tick}
use Rattle.zoom_clock.specs.Accounts.{WasTold, AllFailed, addresses_in, latest_in, WasResolvedAt, WasLate, is_sign, IsSilentSince, WasSilent, is_octets}
use Rattle.zoom_clock.specs.Laws.{HasUsedUp}
use Rattle.zoom_clock.proofs.Choices.{at_either, comes}
use Rattle.zoom_clock.proofs.Histories.{IsNow, IsIdle}
use Rattle.zoom_clock.proofs.Addresses.{known_still, known_now, idle_quiet, late_connect}
use Rattle.zoom_clock.proofs.States.{state, state_set, all_failed}

-- ---- what a stage says of a history

-- there is an attempt for each address, connecting began when that was told, and each attempt that has failed was told
-- to have failed
pub record AreTold (start began : ℕ) (es : List Event) (xs : List Attempt) : Type 0 where
  pub known : addresses_in es ≡ Some (length xs)
  pub resolved : WasResolvedAt start began es
  pub told : (k : ℕ) → k < length xs → state xs k ≡ Failed → WasTold (signals.Unreachable k) es

-- how many pieces of octets came
abbrev pub pieces_in : List Event → ℕ
pieces_in es = count_by (λ (e : Event). is_octets e.what) es

-- so many pieces of octets may come, and this many more
abbrev pub IsLeft : Option ℕ → Option ℕ → List Event → Type 0
IsLeft o None es = Unit {0}
IsLeft None (Some left) es = ⊥
IsLeft (Some most) (Some left) es = most ≤ left + pieces_in es

pub record IsTalkTold (limits : Limits) (start : ℕ) (es : List Event) (t : Talk) : Type 0 where
  pub silent : IsSilentSince start t.heard es
  pub left : IsLeft limits.pieces t.left es
  pub leaving : t.leaving ≡ true → WasTold (signals.Octets conditions.Leaving) es
  pub lost : t.lost ≡ true → WasTold signals.Unwritable es

abbrev pub IsGivenUp : Limits → ℕ → List Event → Ending → Type 0
IsGivenUp limits start es endings.Connect = AllFailed es ⊎ WasLate limits start es
IsGivenUp limits start es endings.Read =
    latest_in start es < never → WasTold signals.Unreadable es ⊎ WasSilent limits start es
IsGivenUp limits start es endings.Write = WasTold signals.Unwritable es
IsGivenUp limits start es endings.Turns = WasTold signals.GiveUp es ⊎ HasUsedUp limits.pieces es
IsGivenUp limits start es endings.InputEnded =
    WasTold signals.End es ⊎ WasTold (signals.Octets conditions.Leaving) es
IsGivenUp limits start es endings.Finished = WasTold (signals.Octets conditions.Finished) es

abbrev pub IsTold : Limits → ℕ → List Event → Stage → Type 0
IsTold limits start es NotChosen = Unit {0}
IsTold limits start es Resolving = addresses_in es ≡ None
IsTold limits start es (Connecting a) = AreTold start a.began es a.states
IsTold limits start es (Talking t) = IsTalkTold limits start es t
IsTold limits start es (Over ending) = IsGivenUp limits start es ending

-- ---- it stays so

pub pieces_next : (e : Event) (es : List Event) → pieces_in (e ∷ es) ≡ cond (is_octets e.what) 1 0 + pieces_in es
pieces_next e es = sum_by-cons (λ (e : Event). cond (is_octets e.what) 1 0) e es

more_pieces : (e : Event) (es : List Event) → pieces_in es ≤ pieces_in (e ∷ es)
more_pieces e es = let c = pieces_next e es in omega arith

used_up_still : (o : Option ℕ) (e : Event) (es : List Event) → HasUsedUp o es → HasUsedUp o (e ∷ es)
used_up_still None e es h = h
used_up_still (Some most) e es h = let m = more_pieces e es in omega arith

given_up_still : (limits : Limits) (start : ℕ) (e : Event) (es : List Event) (ending : Ending)
    → IsGivenUp limits start es ending → IsGivenUp limits start (e ∷ es) ending
given_up_still limits start e es endings.Connect (inl h) = inl (h.0, known_still h.0 e es h.1, λ k lt. inr (h.2 k lt))
given_up_still limits start e es endings.Connect (inr h) = inr (inr h)
given_up_still limits start e es endings.Read h =
    λ top. elim (h (omega arith)) [ inl told ↦ inl (inr told) | inr silent ↦ inr (inr silent) ]
given_up_still limits start e es endings.Write h = inr h
given_up_still limits start e es endings.Turns (inl h) = inl (inr h)
given_up_still limits start e es endings.Turns (inr h) = inr (used_up_still limits.pieces e es h)
given_up_still limits start e es endings.InputEnded (inl h) = inl (inr h)
given_up_still limits start e es endings.InputEnded (inr h) = inr (inr h)
given_up_still limits start e es endings.Finished h = inr h

pub told_still : (start began : ℕ) (e : Event) (es : List Event) (xs : List Attempt) → AreTold start began es xs
    → AreTold start began (e ∷ es) xs
told_still start began e es xs h = record {
  known = known_still (length xs) e es h.known;
  resolved = inr h.resolved;
  told = λ k lt f. inr (h.told k lt f);
}

pub left_still : (o left : Option ℕ) (e : Event) (es : List Event) → IsLeft o left es → IsLeft o left (e ∷ es)
left_still o None e es h = tt
left_still None (Some left) e es h = h
left_still (Some most) (Some left) e es h = let m = more_pieces e es in omega arith

pub talk_still : (limits : Limits) (start : ℕ) (e : Event) (es : List Event) (t : Talk) → is_sign e.what ≡ false
    → IsTalkTold limits start es t → IsTalkTold limits start (e ∷ es) t
talk_still limits start e es t none h = record {
  silent = inr (none, h.silent);
  left = left_still limits.pieces t.left e es h.left;
  leaving = λ l. inr (h.leaving l);
  lost = λ l. inr (h.lost l);
}

tick_is_no_sign : (what : Signal) → is_tick what ≡ true → is_sign what ≡ false
tick_is_no_sign signals.Tick h = refl
tick_is_no_sign what h = cc

pub idle_told : (limits : Limits) (start : ℕ) (e : Event) (es : List Event) (s : Stage)
    → IsTold limits start es s → IsIdle e s → IsTold limits start (e ∷ es) s
idle_told limits start e es NotChosen h idle = tt
idle_told limits start e es Resolving h idle = known_now e es h ∙ idle_quiet e Resolving idle
idle_told limits start e es (Connecting a) h idle = told_still start a.began e es a.states h
idle_told limits start e es (Talking t) h idle = talk_still limits start e es t (tick_is_no_sign e.what idle) h
idle_told limits start e es (Over ending) h idle = given_up_still limits start e es ending h

-- ---- connecting

told_set : (start began k : ℕ) (es : List Event) (xs : List Attempt) (v : Attempt)
    → (v ≡ Failed → WasTold (signals.Unreachable k) es)
    → AreTold start began es xs → AreTold start began es (slice_set xs k v)
told_set start began k es xs v failed h = record {
  known = h.known ∙ ap Some (sym (length-set xs k v));
  resolved = h.resolved;
  told = λ i lt f. elim (state_set xs k i v) [
    | inl e ↦ subst (λ j. WasTold (signals.Unreachable j) es) (sym e.0) (failed (sym e.1 ∙ f))
    | inr same ↦ h.told i (subst (λ m. i < m) (length-set xs k v) lt) (sym same ∙ f)
  ];
}

begun_told : (limits : Limits) (start now : ℕ) (es : List Event) (o : Option ℕ) (a : Attempts)
    → AreTold start a.began es a.states → IsTold limits start es (beginning now o a).stage
begun_told limits start now es None a h = h
begun_told limits start now es (Some k) a h = told_set start a.began k es a.states Open (λ e. cc) h

failed_told : (limits : Limits) (start at now k : ℕ) (es : List Event) (a : Attempts)
    → AreTold start a.began es a.states
    → IsTold limits start (event at (signals.Unreachable k) ∷ es) (failing now k (with_failed k a)).stage
failed_told limits start at now k es a h =
    let es' : List Event = event at (signals.Unreachable k) ∷ es in
    let b = with_failed k a in
    let before = told_still start a.began (event at (signals.Unreachable k)) es a.states h in
    let g = told_set start a.began k es' a.states Failed (λ _. inl refl) before in
    at_either (λ (r : Ruling). IsTold limits start es' r.stage)
    (list_all has_failed b.states) (staying (Over endings.Connect))
    (cond (k == b.last) (beginning_next now b) (staying (Connecting b)))
    (λ all. inl (length b.states, g.known, λ i lt. g.told i lt (all_failed b.states i all)))
    (λ _.
    at_either (λ (r : Ruling). IsTold limits start es' r.stage)
    (k == b.last) (beginning_next now b) (staying (Connecting b))
    (λ _. begun_told limits start now es' (next_of b.states) b g) (λ _. g))

waiting_told : (limits : Limits) (start at now k : ℕ) (es : List Event) (a : Attempts)
    → AreTold start a.began es a.states
    → IsTold limits start (event at (signals.NoSocket k) ∷ es)
    (Connecting (cond (is_open k a.states) (with_waiting now k a) a))
waiting_told limits start at now k es a h =
    let g = told_still start a.began (event at (signals.NoSocket k)) es a.states h in
    at_either (λ (b : Attempts). AreTold start b.began (event at (signals.NoSocket k) ∷ es) b.states)
    (is_open k a.states) (with_waiting now k a) a
    (λ _. told_set start a.began k (event at (signals.NoSocket k) ∷ es) a.states Waiting (λ e. cc) g) (λ _. g)

all_left : (o : Option ℕ) (es : List Event) → IsLeft o o es
all_left None es = tt
all_left (Some most) es = omega arith

won_told : (limits : Limits) (start at now k : ℕ) (es : List Event)
    → IsNow start now (event at (signals.Connected k)) es
    → IsTalkTold limits start (event at (signals.Connected k) ∷ es) (first_talk limits now k)
won_told limits start at now k es i = record {
  silent = inl (refl, i.after, i.before);
  left = all_left limits.pieces (event at (signals.Connected k) ∷ es);
  leaving = λ e. cc;
  lost = λ e. cc;
}

pub connecting_told : (limits : Limits) (start at now : ℕ) (what : Signal) (es : List Event) (w : Bool) (a : Attempts)
    → IsNow start now (event at what) es → AreTold start a.began es a.states
    → IsTold limits start (event at what ∷ es) (connecting_ruling limits start now w what a).stage
connecting_told limits start at now (signals.Connected k) es w a i h =
    at_either (λ (r : Ruling). IsTold limits start (event at (signals.Connected k) ∷ es) r.stage)
    (is_open k a.states) (winning limits now w k a) (staying (Connecting a))
    (λ _. won_told limits start at now k es i)
    (λ _. told_still start a.began (event at (signals.Connected k)) es a.states h)
connecting_told limits start at now (signals.Unreachable k) es w a i h =
    at_either (λ (r : Ruling). IsTold limits start (event at (signals.Unreachable k) ∷ es) r.stage)
    (is_open k a.states) (failing now k (with_failed k a)) (staying (Connecting a))
    (λ _. failed_told limits start at now k es a h)
    (λ _. told_still start a.began (event at (signals.Unreachable k)) es a.states h)
connecting_told limits start at now (signals.NoSocket k) es w a i h = waiting_told limits start at now k es a h
connecting_told limits start at now signals.GiveUp es w a i h = inl (inl refl)
connecting_told limits start at now signals.Tick es w a i h =
    at_either (λ (r : Ruling). IsTold limits start (event at signals.Tick ∷ es) r.stage)
    (nat_le (connect_end limits start a.began) now) (giving_up endings.Connect a) (beginning_next now a)
    (λ late.
    inr (late_connect limits start at a.began es h.resolved
    (let c = comes (connect_end limits start a.began) now late in let b = i.before in omega arith)))
    (λ _.
    begun_told limits start now (event at signals.Tick ∷ es) (next_of a.states) a
    (told_still start a.began (event at signals.Tick) es a.states h))
connecting_told limits start at now (signals.Resolved n) es w a i h =
    told_still start a.began (event at (signals.Resolved n)) es a.states h
connecting_told limits start at now (signals.Octets condition) es w a i h =
    told_still start a.began (event at (signals.Octets condition)) es a.states h
connecting_told limits start at now signals.Taken es w a i h =
    told_still start a.began (event at signals.Taken) es a.states h
connecting_told limits start at now signals.End es w a i h =
    told_still start a.began (event at signals.End) es a.states h
connecting_told limits start at now signals.Unreadable es w a i h =
    told_still start a.began (event at signals.Unreadable) es a.states h
connecting_told limits start at now signals.Unwritable es w a i h =
    told_still start a.began (event at signals.Unwritable) es a.states h
connecting_told limits start at now signals.Turn es w a i h =
    told_still start a.began (event at signals.Turn) es a.states h
