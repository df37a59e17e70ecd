-- How a connection ended, and since when a talk is silent: each was told, or the time had come.
use Rattle.std.proofs.Common.{◌≡◌, inl, inr, ℕ, zero, suc, ◌+◌, ◌<◌, ◌≤◌, min, max, Bool, true, false, cond, List, [], ◌∷◌, slice_set, replicate, Option, None, Some, refl, sym, ap, subst, ◌∙◌, arith}
use Rattle.std.proofs.lemmas.List.{get_or-replicate}
use Rattle.zoom_clock.specs.declared.action.Task.TheVariants.{Read}
use Rattle.zoom_clock.specs.declared.attempt.Attempt.TheVariants.{Ahead, Open, Failed}
use Rattle.zoom_clock.specs.declared.limits.Limits.{Limits}
use Rattle.zoom_clock.specs.declared.signal.Ending.{Ending}
use Rattle.zoom_clock.specs.declared.signal.Ending.TheVariants as endings
use Rattle.zoom_clock.specs.declared.signal.Signal.{Signal}
use Rattle.zoom_clock.specs.declared.signal.Signal.TheVariants as signals
use Rattle.zoom_clock.specs.declared.signal.Condition.{Condition}
use Rattle.zoom_clock.specs.declared.signal.Condition.TheVariants as conditions
use Rattle.zoom_clock.specs.declared.stage.Stage.{Stage}
use Rattle.zoom_clock.specs.declared.stage.Stage.TheVariants.{Connecting, Talking}
use Rattle.zoom_clock.specs.declared.talk.Talk.{Talk}
use Rattle.zoom_clock.specs.declared.talk.TheConstants.{CLOSE_PATIENCE}
use Rattle.zoom_clock.specs.Times.{never, total_end}
use Rattle.zoom_clock.specs.Attempts.{first_attempts}
use Rattle.zoom_clock.specs.Stages.{Ruling, staying, talk_end, resolving_ruling, ending_talk, verdict, with_piece, is_used_up, is_leaving, less_one, going_on, losing, talking_ruling}
use Rattle.zoom_clock.specs.Courses.{Event, event, is_tick}
use Rattle.zoom_clock.specs.Accounts.{WasTold, addresses_in, latest_in, is_start}
use Rattle.zoom_clock.specs.Laws.{HasUsedUp, stage_after}
use Rattle.zoom_clock.proofs.Choices.{at_either, same_number}
use Rattle.zoom_clock.proofs.Histories.{IsNow, IsKept, always_at}
use Rattle.zoom_clock.proofs.Tellings.{IsLeft, IsTalkTold, IsGivenUp, IsTold, pieces_next, left_still, talk_still, idle_told, connecting_told}
use Rattle.zoom_clock.proofs.States.{state, first_length}
use Rattle.zoom_clock.proofs.Addresses.{known_now}

-- ---- talking

verdict_told : (limits : Limits) (start : ℕ) (es : List Event) (t : Talk) (ending : Ending)
    → (t.leaving ≡ true → WasTold (signals.Octets conditions.Leaving) es)
    → (t.lost ≡ true → WasTold signals.Unwritable es)
    → (t.leaving ≡ false → IsGivenUp limits start es ending) → IsGivenUp limits start es (verdict t ending)
verdict_told limits start es t ending leaving lost other =
    at_either (IsGivenUp limits start es) t.leaving endings.InputEnded (cond t.lost endings.Write ending)
    (λ l. inr (leaving l))
    (λ stays. at_either (IsGivenUp limits start es) t.lost endings.Write ending lost (λ _. other stays))

-- the same, of what was told before the newest
verdict_next : (limits : Limits) (start : ℕ) (e : Event) (es : List Event) (t : Talk) (ending : Ending)
    → IsTalkTold limits start es t → (t.leaving ≡ false → IsGivenUp limits start (e ∷ es) ending)
    → IsGivenUp limits start (e ∷ es) (verdict t ending)
verdict_next limits start e es t ending h other =
    verdict_told limits start (e ∷ es) t ending (λ l. inr (h.leaving l)) (λ l. inr (h.lost l)) other

silent_for : (w leaving : Bool) (heard patience farewell total at latest : ℕ) → leaving ≡ false
    → min (cond w (heard + cond leaving farewell patience) never) total ≤ at → at ≤ latest → latest < never
    → min (heard + patience) total ≤ latest
silent_for w true heard patience farewell total at latest stays late before top = cc
silent_for true false heard patience farewell total at latest stays late before top = omega arith
silent_for false false heard patience farewell total at latest stays late before top = omega arith

ticked_told : (limits : Limits) (start at now : ℕ) (es : List Event) (w : Bool) (t : Talk)
    → IsNow start now (event at signals.Tick) es → talk_end limits start w t ≤ at → IsTalkTold limits start es t
    → IsGivenUp limits start (event at signals.Tick ∷ es) (verdict t endings.Read)
ticked_told limits start at now es w t i late h =
    verdict_next limits start (event at signals.Tick) es t endings.Read h
    (λ stays top. let a = i.after in let b = i.before in inr (inl (
      refl,
      t.heard,
      h.silent,
      silent_for w t.leaving t.heard limits.patience (min limits.patience CLOSE_PATIENCE) (total_end limits.total start) at
          (max (latest_in start es) at) stays late (omega arith) top,
    )))

left_less : (o left : Option ℕ) (at : ℕ) (condition : Condition) (es : List Event) → IsLeft o left es
    → IsLeft o (less_one left) (event at (signals.Octets condition) ∷ es)
left_less o None at condition es h = tt
left_less None (Some left) at condition es h = h
left_less (Some most) (Some left) at condition es h =
    let c = pieces_next (event at (signals.Octets condition)) es in omega arith

used_up : (o left : Option ℕ) (es : List Event) → IsLeft o left es → is_used_up left ≡ true → HasUsedUp o es
used_up o None es h u = cc
used_up None (Some left) es h u = absurd h
used_up (Some most) (Some left) es h u = let e = same_number left 0 u in omega arith

leaving_is : (condition : Condition) → is_leaving condition ≡ true → condition ≡ conditions.Leaving
leaving_is conditions.Going h = cc
leaving_is conditions.Leaving h = refl
leaving_is conditions.Finished h = cc

piece_told : (limits : Limits) (start at now : ℕ) (condition : Condition) (es : List Event) (t : Talk)
    → IsNow start now (event at (signals.Octets condition)) es → IsTalkTold limits start es t
    → IsTold limits start (event at (signals.Octets condition) ∷ es) (going_on (with_piece now condition t)).stage
piece_told limits start at now condition es t i h =
    let es' : List Event = event at (signals.Octets condition) ∷ es in
    let u = with_piece now condition t in
    let g : IsTalkTold limits start es' u = record {
      silent = inl (refl, i.after, i.before);
      left = left_less limits.pieces t.left at condition es h.left;
      leaving = λ l. inl (ap signals.Octets (leaving_is condition l));
      lost = λ l. inr (h.lost l);
    } in
    at_either (λ (r : Ruling). IsTold limits start es' r.stage)
    (is_used_up u.left) (ending_talk u (verdict u endings.Turns)) (staying (Talking u))
    (λ used.
    verdict_told limits start es' u endings.Turns g.leaving g.lost
    (λ _. inr (used_up limits.pieces u.left es' g.left used)))
    (λ _. g)

lost_told : (limits : Limits) (start at : ℕ) (es : List Event) (t : Talk)
    → IsTalkTold limits start es t → IsTold limits start (event at signals.Unwritable ∷ es) (losing t).stage
lost_told limits start at es t h =
    let e = event at signals.Unwritable in
    let u : Talk = record t { lost = true } in
    at_either (λ (r : Ruling). IsTold limits start (e ∷ es) r.stage)
    t.leaving (ending_talk t endings.InputEnded) (staying (Talking u))
    (λ l. inr (inr (h.leaving l)))
    (λ _.
    let g : IsTalkTold limits start (e ∷ es) u = record {
      silent = inr (refl, h.silent);
      left = left_still limits.pieces t.left e es h.left;
      leaving = λ l. inr (h.leaving l);
      lost = λ _. inl refl;
    } in
    g)

-- a sign of life came, or signs are waited for from now on
heard_told : (limits : Limits) (start at now : ℕ) (what : Signal) (es : List Event) (t : Talk) → is_start what ≡ true
    → IsNow start now (event at what) es → IsTalkTold limits start es t
    → IsTalkTold limits start (event at what ∷ es) (record t { heard = now })
heard_told limits start at now what es t is i h = record {
  silent = inl (is, i.after, i.before);
  left = left_still limits.pieces t.left (event at what) es h.left;
  leaving = λ l. inr (h.leaving l);
  lost = λ l. inr (h.lost l);
}

pub talking_told : (limits : Limits) (start at now : ℕ) (what : Signal) (es : List Event) (w : Bool) (t : Talk)
    → IsNow start now (event at what) es → (is_tick what ≡ true → talk_end limits start w t ≤ at)
    → IsTalkTold limits start es t
    → IsTold limits start (event at what ∷ es) (talking_ruling now w what t).stage
talking_told limits start at now (signals.Octets conditions.Going) es w t i late h =
    piece_told limits start at now conditions.Going es t i h
talking_told limits start at now (signals.Octets conditions.Leaving) es w t i late h =
    piece_told limits start at now conditions.Leaving es t i h
talking_told limits start at now (signals.Octets conditions.Finished) es w t i late h = inl refl
talking_told limits start at now signals.Taken es w t i late h =
    heard_told limits start at now signals.Taken es t refl i h
talking_told limits start at now signals.End es w t i late h =
    verdict_next limits start (event at signals.End) es t endings.InputEnded h (λ _. inl (inl refl))
talking_told limits start at now signals.Unreadable es w t i late h =
    verdict_next limits start (event at signals.Unreadable) es t endings.Read h (λ _ top. inl (inl refl))
talking_told limits start at now signals.Unwritable es w t i late h = lost_told limits start at es t h
talking_told limits start at now signals.GiveUp es w t i late h =
    verdict_next limits start (event at signals.GiveUp) es t endings.Turns h (λ _. inl (inl refl))
talking_told limits start at now signals.Tick es w t i late h =
    ticked_told limits start at now es w t i (late refl) h
talking_told limits start at now signals.Turn es w t i late h =
    at_either (λ (r : Ruling). IsTold limits start (event at signals.Turn ∷ es) r.stage)
    w (staying (Talking t)) (record { stage = Talking (record t { heard = now }); tasks = Read ∷ [] })
    (λ _. talk_still limits start (event at signals.Turn) es t refl h)
    (λ _. heard_told limits start at now signals.Turn es t refl i h)
talking_told limits start at now (signals.Resolved n) es w t i late h =
    talk_still limits start (event at (signals.Resolved n)) es t refl h
talking_told limits start at now (signals.Connected k) es w t i late h =
    talk_still limits start (event at (signals.Connected k)) es t refl h
talking_told limits start at now (signals.Unreachable k) es w t i late h =
    talk_still limits start (event at (signals.Unreachable k)) es t refl h
talking_told limits start at now (signals.NoSocket k) es w t i late h =
    talk_still limits start (event at (signals.NoSocket k)) es t refl h

-- ---- every history

none_failed : (n k : ℕ) → k < n → state (slice_set (replicate n Ahead) 0 Open) k ≡ Failed → ⊥
none_failed zero k lt f = omega arith
none_failed (suc n) zero lt f = cc
none_failed (suc n) (suc k) lt f = let a = get_or-replicate n k Ahead Failed (omega arith) in cc

-- the name was resolved to this many addresses
connects_told : (limits : Limits) (start at now n : ℕ) (es : List Event)
    → IsNow start now (event at (signals.Resolved (suc n))) es → addresses_in es ≡ None
    → IsTold limits start (event at (signals.Resolved (suc n)) ∷ es) (Connecting (first_attempts (suc n) now))
connects_told limits start at now n es i h = record {
  known = known_now (event at (signals.Resolved (suc n))) es h ∙ ap Some (sym (first_length (suc n)));
  resolved = inl (h, refl, i.after, i.before);
  told = λ k lt f. absurd (none_failed (suc n) k (subst (λ m. k < m) (first_length (suc n)) lt) f);
}

resolving_told : (limits : Limits) (start at now : ℕ) (what : Signal) (es : List Event)
    → IsNow start now (event at what) es → (is_tick what ≡ true → total_end limits.total start ≤ at)
    → addresses_in es ≡ None → IsTold limits start (event at what ∷ es) (resolving_ruling now what).stage
resolving_told limits start at now (signals.Resolved zero) es i late h =
    inl (0, known_now (event at (signals.Resolved 0)) es h, λ k lt. absurd (omega arith))
resolving_told limits start at now (signals.Resolved (suc n)) es i late h = connects_told limits start at now n es i h
resolving_told limits start at now signals.GiveUp es i late h = inl (inl refl)
resolving_told limits start at now signals.Tick es i late h =
    inr (inl (refl, inl (let t = late refl in let a = i.after in let b = i.before in omega arith)))
resolving_told limits start at now (signals.Connected k) es i late h =
    known_now (event at (signals.Connected k)) es h
resolving_told limits start at now (signals.Unreachable k) es i late h =
    known_now (event at (signals.Unreachable k)) es h
resolving_told limits start at now (signals.NoSocket k) es i late h = known_now (event at (signals.NoSocket k)) es h
resolving_told limits start at now (signals.Octets condition) es i late h =
    known_now (event at (signals.Octets condition)) es h
resolving_told limits start at now signals.Taken es i late h = known_now (event at signals.Taken) es h
resolving_told limits start at now signals.End es i late h = known_now (event at signals.End) es h
resolving_told limits start at now signals.Unreadable es i late h = known_now (event at signals.Unreadable) es h
resolving_told limits start at now signals.Unwritable es i late h = known_now (event at signals.Unwritable) es h
resolving_told limits start at now signals.Turn es i late h = known_now (event at signals.Turn) es h

all_told : (limits : Limits) (start : ℕ) (wanted : Bool)
    → IsKept limits true start wanted (λ es ts w s. IsTold limits start es s)
all_told limits start wanted = record {
  first = refl;
  idle = λ e es ts w s h idle. idle_told limits start e es s h idle;
  resolving = λ at now what es ts w i late h. resolving_told limits start at now what es i late h;
  connecting = λ at now what es ts w a i h. connecting_told limits start at now what es w a i h;
  talking = λ at now what es ts w t i late h. talking_told limits start at now what es w t i late h;
}

-- a stage after a history says what was told, and when
pub told_at : (limits : Limits) (start : ℕ) (wanted : Bool) (es : List Event) (s : Stage)
    → stage_after limits start wanted es ≡ s → IsTold limits start es s
told_at limits start wanted es s h =
    always_at limits true start wanted (λ es ts w s. IsTold limits start es s)
    (all_told limits start wanted) es s h
