-- A Close is the last reply that a serving end owes, and what stays true of its pending replies.
use Rattle.std.proofs.Common.{◌≡◌, ◌∙◌, ◌⊎◌, inl, inr, sym, ap, subst, ℕ, Bool, true, false, List, [], ◌∷◌, ◌++◌, length, Result, Ok, Err, refl, append-nil, true≢false, arith}
use Rattle.std.specs.Prelude.{◌==◌, ◌||◌, not}
use Rattle.std.proofs.lemmas.Bool.Decides.{nat_tests}
use Rattle.zplan.specs.Positions.{IsIn}
use Rattle.zplan.proofs.Cuts.{in_either}
use Rattle.zapdu.specs.declared.apdu.Apdu.{Apdu}
use Rattle.zapdu.specs.declared.apdu.Apdu.TheVariants as apdus
use Rattle.ztarget.specs.declared.database.Database.{Database}
use Rattle.ztarget.specs.declared.settings.TargetSettings.{TargetSettings}
use Rattle.ztarget.specs.declared.error.TargetError.{TargetError}
use Rattle.ztarget.specs.Standing.{State, Fresh, Open, Ended, NamedSet}
use Rattle.ztarget.specs.Replies.{OwedReply, owed_in_state, next_association, association_after, owed, reply_of, replies}
use Rattle.ztarget.specs.Receiving.{is_close, may_release}
use Rattle.zoom_pool.specs.Hosts.{HostState, HostAfter, Holdings, HostEvent, HostFed, HostFedPart, Released, Lost, HostHandedOut, HostTranscript, IsHostTranscript, FeedStep, IsIgnored}
use Rattle.zoom_laws.specs.Exchange.{ArePlain}
use Rattle.zoom_laws.proofs.AccordTheory.Owing.{answer_replies}
use Rattle.zoom_laws.proofs.ExchangeTheory.Parts.{IsPart, before_last}
use Rattle.zoom_laws.proofs.ExchangeTheory.Pendings.{in_order}
use Rattle.zoom_laws.proofs.ExchangeTheory.Events.{one_served}
use Rattle.zoom_io.specs.Answering.{HasReleasedAll}

module _ (databases : List Database) (settings : TargetSettings) where
  abbrev state_after : List Apdu → State
  state_after received = (association_after databases settings received).state

  abbrev sets_after : List Apdu → List NamedSet
  sets_after received = (association_after databases settings received).sets

  abbrev state_in : Result OwedReply TargetError → State
  state_in (Ok a) = a.association.state
  state_in (Err e) = Ended

  -- nothing is owed after the end
  none_after : (sets : List NamedSet) (v : Apdu) (a : OwedReply) → owed_in_state databases settings Ended sets v ≡ Ok a → ⊥
  none_after sets (apdus.InitRequest r) a h = cc
  none_after sets (apdus.SearchRequest r) a h = cc
  none_after sets (apdus.PresentRequest r) a h = cc
  none_after sets (apdus.Close c) a h = cc
  none_after sets (apdus.InitResponse r) a h = cc
  none_after sets (apdus.SearchResponse r) a h = cc
  none_after sets (apdus.PresentResponse r) a h = cc

  none_so : (state : State) (sets : List NamedSet) (v : Apdu) (a : OwedReply) → state ≡ Ended
      → owed_in_state databases settings state sets v ≡ Ok a → ⊥
  none_so state sets v a e h =
      none_after sets v a (subst (λ z. owed_in_state databases settings z sets v ≡ Ok a) e h)

  not_close : (x y : Apdu) → x ≡ y → is_close y ≡ false → is_close x ≡ true → ⊥
  not_close x y e f c = true≢false (sym c ∙ ap is_close e ∙ f)

  -- a Close is owed to a Close, which ends the association
  close_ends : (state : State) (sets : List NamedSet) (v : Apdu) (a : OwedReply)
      → owed_in_state databases settings state sets v ≡ Ok a → is_close a.reply ≡ true → a.association.state ≡ Ended
  close_ends state sets (apdus.InitRequest r) a h c =
      absurd (not_close a.reply _ (answer_replies settings databases state sets (apdus.InitRequest r) a h) refl c)
  close_ends state sets (apdus.SearchRequest r) a h c =
      let m = answer_replies settings databases state sets (apdus.SearchRequest r) a h in
      absurd (not_close a.reply _ m.1 refl c)
  close_ends state sets (apdus.PresentRequest r) a h c =
      let m = answer_replies settings databases state sets (apdus.PresentRequest r) a h in
      absurd (not_close a.reply _ m.1 refl c)
  close_ends Fresh sets (apdus.Close u) a h c = ap state_in (sym h)
  close_ends (Open terms) sets (apdus.Close u) a h c = ap state_in (sym h)
  close_ends Ended sets (apdus.Close u) a h c = absurd (none_after sets (apdus.Close u) a h)
  close_ends state sets (apdus.InitResponse r) a h c =
      absurd (answer_replies settings databases state sets (apdus.InitResponse r) a h)
  close_ends state sets (apdus.SearchResponse r) a h c =
      absurd (answer_replies settings databases state sets (apdus.SearchResponse r) a h)
  close_ends state sets (apdus.PresentResponse r) a h c =
      absurd (answer_replies settings databases state sets (apdus.PresentResponse r) a h)

  abbrev next_state : List Apdu → Result OwedReply TargetError → State
  next_state received r = (next_association (association_after databases settings received) r).state

  -- once a Close is owed, the association has ended
  owed_close : (received : List Apdu) (x : Apdu) → IsIn x (replies databases settings received) → is_close x ≡ true
      → state_after received ≡ Ended
  owed_close [] x i c = absurd i
  owed_close (v ∷ received) x i c =
      by (λ j. owed_close received x j c) (owed databases settings received v) refl
      (in_either x (replies databases settings received) (reply_of (owed databases settings received v)) i)
    where
      by : (IsIn x (replies databases settings received) → state_after received ≡ Ended) → (r : Result OwedReply TargetError) → owed databases settings received v ≡ r
          → IsIn x (replies databases settings received) ⊎ IsIn x (reply_of (owed databases settings received v))
          → next_state received (owed databases settings received v) ≡ Ended
      by before (Ok a) e (inl j) = absurd (none_so (state_after received) (sets_after received) v a (before j) e)
      by before (Err reason) e (inl j) = ap (next_state received) e ∙ before j
      by before (Ok a) e (inr j) =
          ap (next_state received) e
          ∙ close_ends (state_after received) (sets_after received) v a e (the_close a (subst (λ r. IsIn x (reply_of r)) e j))
        where
          the_close : (a : OwedReply) → IsIn x (a.reply ∷ []) → is_close a.reply ≡ true
          the_close a (inl is) = sym (ap is_close is) ∙ c
          the_close a (inr none) = absurd none
      by before (Err reason) e (inr j) = absurd (subst (λ r. IsIn x (reply_of r)) e j)

  -- no reply is owed behind a Close
  none_behind : (received : List Apdu) (x y : Apdu) (more : List Apdu)
      → IsPart (x ∷ y ∷ more) (replies databases settings received) → is_close x ≡ true → ⊥
  none_behind [] x y more h c = h
  none_behind (v ∷ received) x y more h c =
      by (λ part. none_behind received x y more part c) (owed databases settings received v) refl
    where
      part : (r : Result OwedReply TargetError) → owed databases settings received v ≡ r
          → IsPart (x ∷ y ∷ more) (replies databases settings received ++ reply_of r)
      part r e = subst (λ z. IsPart (x ∷ y ∷ more) (replies databases settings received ++ reply_of z)) e h

      by : (IsPart (x ∷ y ∷ more) (replies databases settings received) → ⊥) → (r : Result OwedReply TargetError)
          → owed databases settings received v ≡ r → ⊥
      by before (Ok a) e =
          let i = before_last x y a.reply more (replies databases settings received) (part (Ok a) e) in
          none_so (state_after received) (sets_after received) v a (owed_close received x i c) e
      by before (Err reason) e =
          before (subst (IsPart (x ∷ y ∷ more)) (append-nil (replies databases settings received)) (part (Err reason) e))

-- if the first pending reply may not be released, none is pending
pub none_pending : (holdings : Holdings) (events : List HostEvent) (host : HostState) → HostAfter holdings events host
    → may_release host.target.pending 0 ≡ false → host.target.pending ≡ []
none_pending holdings events host a e = by host.target.pending refl e
  where
    ordered : IsPart host.target.pending (replies holdings.databases holdings.settings a.served.received)
    ordered = subst (λ z. IsPart z (replies holdings.databases holdings.settings a.served.received)) (sym a.pending)
        (in_order holdings events a.served a.happened)

    closes : (b one : Bool) → one ≡ false → (not b || one) ≡ false → b ≡ true
    closes true one e h = refl
    closes false one e h = absurd (true≢false h)

    by : (vs : List Apdu) → host.target.pending ≡ vs → may_release vs 0 ≡ false → host.target.pending ≡ []
    by [] is h = is
    by (v ∷ []) is h = absurd (true≢false (sym (one_may (is_close v)) ∙ h))
      where
        one_may : (b : Bool) → (not b || true) ≡ true
        one_may true = refl
        one_may false = refl
    by (v ∷ w ∷ vs) is h = absurd (none_behind holdings.databases holdings.settings a.served.received v w vs
        (subst (λ z. IsPart z (replies holdings.databases holdings.settings a.served.received)) is ordered)
        (closes (is_close v) (length (v ∷ w ∷ vs) == 1) (grind (arith, nat_tests)) h))

-- ---- two transcripts of the same events

module _ (holdings : Holdings) where
  -- a piece was fed in part
  abbrev HasPart : List HostEvent → Type 0
  HasPart [] = ⊥
  HasPart (HostFedPart piece ∷ events) = Unit {0}
  HasPart (_ ∷ events) = HasPart events

  plain_or_part : (events : List HostEvent) → ArePlain events ⊎ HasPart events
  plain_or_part [] = inl tt
  plain_or_part (HostFed piece ∷ events) = plain_or_part events
  plain_or_part (HostFedPart piece ∷ events) = inr tt
  plain_or_part (Released k ∷ events) = plain_or_part events
  plain_or_part (Lost k ∷ events) = plain_or_part events
  plain_or_part (HostHandedOut octets ∷ events) = plain_or_part events

  part_fed : (piece : List ℕ) (p q : HostTranscript) → p.stopped ≡ true → IsIgnored p q ⊎ FeedStep holdings piece p q
      → q.stopped ≡ true
  part_fed piece p q s (inl x) = ap (λ z. z.stopped) x.1 ∙ s
  part_fed piece p q s (inr x) = absurd (true≢false (sym s ∙ x.going))

  -- the serving end has stopped since
  part_stops : (events : List HostEvent) (q : HostTranscript) → HasPart events → IsHostTranscript holdings events q
      → q.stopped ≡ true
  part_stops [] q part h = absurd part
  part_stops (HostFed piece ∷ events) q part h = part_fed piece h.0 q (part_stops events h.0 part h.1) h.2
  part_stops (HostFedPart piece ∷ events) q part h = ap (λ z. z.stopped) h.2.is
  part_stops (Released k ∷ events) q part h =
      absurd (true≢false (sym (part_stops events h.0 part h.1) ∙ h.2.going))
  part_stops (Lost k ∷ events) q part h = absurd (true≢false (sym (part_stops events h.0 part h.1) ∙ h.2.going))
  part_stops (HostHandedOut octets ∷ events) q part h = ap (λ z. z.stopped) h.2 ∙ part_stops events h.0 part h.1

  -- handing octets out leaves no reply to release, if there was none
  pub released_still : (events : List HostEvent) (octets : List ℕ) (old new : HostState) → HostAfter holdings events old
      → HostAfter holdings (HostHandedOut octets ∷ events) new → HasReleasedAll old → HasReleasedAll new
  released_still events octets old new a b r = by (plain_or_part events) r
    where
      mid : HostTranscript
      mid = b.happened.0

      same : b.served ≡ mid
      same = b.happened.2

      by : ArePlain events ⊎ HasPart events → HasReleasedAll old → HasReleasedAll new
      by (inl plain) (inl s) =
          let is : a.served ≡ mid = one_served holdings events a.served mid plain a.happened b.happened.1 in
          inl (b.stopped ∙ ap (λ z. z.stopped) (same ∙ sym is) ∙ sym a.stopped ∙ s)
      by (inl plain) (inr none) =
          let is : a.served ≡ mid = one_served holdings events a.served mid plain a.happened b.happened.1 in
          inr (b.pending ∙ ap (λ z. z.pending) (same ∙ sym is) ∙ sym a.pending ∙ none)
      by (inr part) _ = inl (b.stopped ∙ ap (λ z. z.stopped) same ∙ part_stops events mid part b.happened.1)
