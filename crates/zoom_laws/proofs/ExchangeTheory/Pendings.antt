-- The order of the replies that a serving end owes, and what it can owe after a Close was sent.
use Rattle.std.proofs.Common.{◌≡◌, ◌⊎◌, inl, inr, ℕ, zero, suc, true, false, List, [], ◌∷◌, ◌++◌, length, None, Some, refl, sym, ap, subst, ◌∙◌, append_assoc, append-nil, true≢false, arith}
use Rattle.std.proofs.lemmas.Bool.Decides.{nat_tests}
use Rattle.std.specs.Prelude.{◌==◌, remove, slice_get}
use Rattle.zplan.specs.Positions.{IsIn}
use Rattle.zplan.proofs.Cuts.{in_left, in_either}
use Rattle.zapdu.specs.declared.apdu.Apdu.{Apdu}
use Rattle.zapdu.specs.declared.apdu.Apdu.TheVariants as apdus
use Rattle.zapdu.specs.declared.productions.close.Close.{Close}
use Rattle.ztarget.specs.Receiving.{is_releasable}
use Rattle.zoom_pool.specs.Hosts.{Holdings, HostEvent, HostFed, HostFedPart, Released, Lost, HostHandedOut, HostTranscript, IsHostTranscript, empty_host_transcript, replies_to, ArePutLast, FeedStep, IsIgnored, ReleaseStep}
use Rattle.zoom_laws.proofs.ExchangeTheory.Parts.{IsPart, part_append, part_remove, part_in, last_cut, there_in}

no_some : {A : Type 0} {x : A} → None ≡ Some x → ⊥
no_some e = cc

none_put : {x : Apdu} {xs : List Apdu} → [] ≡ x ∷ xs → ⊥
none_put e = cc

-- if a Close may be released, nothing else is pending
one_left : (pending : List Apdu) (k : ℕ) (c : Close) → is_releasable (slice_get pending k) (length pending) ≡ true
    → slice_get pending k ≡ Some (apdus.Close c)
    → remove pending k ≡ []
one_left [] k c may e = absurd (no_some e)
one_left (v ∷ []) zero c may e = refl
one_left (v ∷ []) (suc k) c may e = absurd (no_some e)
one_left (v ∷ w ∷ vs) k c may e =
    let more : (length (v ∷ w ∷ vs) == 1) ≡ false = grind (arith, nat_tests) in
    absurd (true≢false (sym may ∙ ap (λ o. is_releasable o (length (v ∷ w ∷ vs))) e ∙ more))

-- A Close was sent: the replies sent since, and those pending, are owed behind it.
pub record Follows (owed : List Apdu) (c : Close) (since pending : List Apdu) : Type 0 where
  pub before : List Apdu
  pub behind : List Apdu
  pub is : owed ≡ before ++ behind
  pub among : IsIn (apdus.Close c) before
  pub late : (v : Apdu) → IsIn v since → IsIn v behind
  pub left : IsPart pending behind

module _ (holdings : Holdings) where
  -- ---- the order

  -- the pending replies are a part of those owed, in the same order
  abbrev InOrder : HostTranscript → Type 0
  InOrder q = IsPart q.pending (replies_to holdings q.received)

  order_more : (p q : HostTranscript) → ArePutLast holdings p.received p.pending q.received q.pending → InOrder p → InOrder q
  order_more p q put h =
      subst (λ z. IsPart z (replies_to holdings q.received)) (sym put.last)
      (subst (λ z. IsPart (p.pending ++ put.more) z) (sym put.owed)
      (part_append p.pending (replies_to holdings p.received) put.more h))

  order_fed : (piece : List ℕ) (p q : HostTranscript) → InOrder p → IsIgnored p q ⊎ FeedStep holdings piece p q → InOrder q
  order_fed piece p q h (inl x) = subst InOrder (sym x.1) h
  order_fed piece p q h (inr x) = order_more p q x.replies h

  pub in_order : (host_events : List HostEvent) (q : HostTranscript) → IsHostTranscript holdings host_events q → InOrder q
  in_order [] q h = subst InOrder (sym h) tt
  in_order (HostFed piece ∷ host_events) q h = order_fed piece h.0 q (in_order host_events h.0 h.1) h.2
  in_order (HostFedPart piece ∷ host_events) q h = order_more h.0 q h.2.replies (in_order host_events h.0 h.1)
  in_order (Released k ∷ host_events) q h =
      subst InOrder (sym h.2.is)
      (part_remove h.0.pending (replies_to holdings h.0.received) k (in_order host_events h.0 h.1))
  in_order (Lost k ∷ host_events) q h =
      subst InOrder (sym h.2.is)
      (part_remove h.0.pending (replies_to holdings h.0.received) k (in_order host_events h.0 h.1))
  in_order (HostHandedOut octets ∷ host_events) q h = subst InOrder (sym h.2) (in_order host_events h.0 h.1)

  -- ---- after a Close was sent

  abbrev IsFollowed : HostTranscript → Type 0
  IsFollowed q =
      (a b : List Apdu) (c : Close) → q.sent ≡ a ++ b → IsIn (apdus.Close c) a
      → Follows (replies_to holdings q.received) c b q.pending

  followed_more : (p q : HostTranscript) → q.sent ≡ p.sent → ArePutLast holdings p.received p.pending q.received q.pending
      → IsFollowed p → IsFollowed q
  followed_more p q same put h a b c e i =
      let f = h a b c (sym same ∙ e) i in
      record {
        before = f.before;
        behind = f.behind ++ put.more;
        is = put.owed ∙ ap (λ z. z ++ put.more) f.is ∙ append_assoc f.before f.behind put.more;
        among = f.among;
        late = λ v j. in_left v f.behind put.more (f.late v j);
        left = subst (λ z. IsPart z (f.behind ++ put.more)) (sym put.last)
            (part_append p.pending f.behind put.more f.left);
      }

  followed_fed : (piece : List ℕ) (p q : HostTranscript) → IsFollowed p → IsIgnored p q ⊎ FeedStep holdings piece p q
      → IsFollowed q
  followed_fed piece p q h (inl x) = subst IsFollowed (sym x.1) h
  followed_fed piece p q h (inr x) = followed_more p q (ap (λ z. z.sent) x.is) x.replies h

  -- one reply less is pending
  fewer : (owed : List Apdu) (c : Close) (since pending : List Apdu) (k : ℕ) → Follows owed c since pending
      → Follows owed c since (remove pending k)
  fewer owed c since pending k f = record {
    before = f.before;
    behind = f.behind;
    is = f.is;
    among = f.among;
    late = f.late;
    left = part_remove pending f.behind k f.left;
  }

  -- a reply was sent
  module _ (k : ℕ) (p q : HostTranscript) (order : InOrder p) (older : IsFollowed p) (x : ReleaseStep k p q) where
    there : IsIn x.reply p.pending
    there = there_in p.pending k x.reply x.due.there

    none_late : (b : List Apdu) → b ≡ [] → (v : Apdu) → IsIn v b → (behind : List Apdu) → IsIn v behind
    none_late b e v i behind = absurd (subst (IsIn v) e i)

    -- it is the newest of those sent since
    followed_last : (a b : List Apdu) (c : Close) → b ≡ [] → p.sent ++ x.reply ∷ [] ≡ a ++ b → IsIn (apdus.Close c) a
        → Follows (replies_to holdings p.received) c b (remove p.pending k)
    followed_last a b c none e i =
        let whole : a ≡ p.sent ++ x.reply ∷ [] = sym (append-nil a) ∙ ap (λ z. a ++ z) (sym none) ∙ sym e in
        by (in_either (apdus.Close c) p.sent (x.reply ∷ []) (subst (IsIn (apdus.Close c)) whole i))
      where
        by : IsIn (apdus.Close c) p.sent ⊎ IsIn (apdus.Close c) (x.reply ∷ [])
            → Follows (replies_to holdings p.received) c b (remove p.pending k)
        by (inl j) =
            let f = older p.sent [] c (sym (append-nil p.sent)) j in
            record {
              before = f.before;
              behind = f.behind;
              is = f.is;
              among = f.among;
              late = λ v l. none_late b none v l f.behind;
              left = part_remove p.pending f.behind k f.left;
            }
        by (inr (inl same)) =
            let due : slice_get p.pending k ≡ Some (apdus.Close c) = x.due.there ∙ ap (λ z. Some z) (sym same) in
            let all = replies_to holdings p.received in
            record {
              before = all;
              behind = [];
              is = sym (append-nil all);
              among = part_in (apdus.Close c) p.pending all order
                  (subst (λ z. IsIn z p.pending) (sym same) there);
              late = λ v l. none_late b none v l [];
              left = subst (λ z. IsPart z []) (sym (one_left p.pending k c x.due.may due)) tt;
            }
        by (inr (inr none)) = absurd none

    followed_by : (a b : List Apdu) (c : Close)
        → (b ≡ []) ⊎ ((d : List Apdu) × (b ≡ d ++ x.reply ∷ []) × (p.sent ≡ a ++ d))
        → p.sent ++ x.reply ∷ [] ≡ a ++ b → IsIn (apdus.Close c) a
        → Follows (replies_to holdings p.received) c b (remove p.pending k)
    followed_by a b c (inl none) e i = followed_last a b c none e i
    followed_by a b c (inr cut) e i =
        let f = older a cut.0 c cut.2 i in
        record {
          before = f.before;
          behind = f.behind;
          is = f.is;
          among = f.among;
          late = λ v j. by f v (in_either v cut.0 (x.reply ∷ []) (subst (IsIn v) cut.1 j));
          left = part_remove p.pending f.behind k f.left;
        }
      where
        by : (f : Follows (replies_to holdings p.received) c cut.0 p.pending) (v : Apdu)
            → IsIn v cut.0 ⊎ IsIn v (x.reply ∷ []) → IsIn v f.behind
        by f v (inl j) = f.late v j
        by f v (inr (inl same)) =
            part_in v p.pending f.behind f.left (subst (λ z. IsIn z p.pending) (sym same) there)
        by f v (inr (inr none)) = absurd none

    followed_sent : IsFollowed q
    followed_sent =
        subst IsFollowed (sym x.is) (λ a b c e i. followed_by a b c (last_cut x.reply p.sent a b e) e i)

  nothing_put : IsFollowed empty_host_transcript
  nothing_put [] b c e i = absurd i
  nothing_put (v ∷ a) b c e i = absurd (none_put e)

  pub followed : (host_events : List HostEvent) (q : HostTranscript) → IsHostTranscript holdings host_events q → IsFollowed q
  followed [] q h = subst IsFollowed (sym h) nothing_put
  followed (HostFed piece ∷ host_events) q h = followed_fed piece h.0 q (followed host_events h.0 h.1) h.2
  followed (HostFedPart piece ∷ host_events) q h =
      followed_more h.0 q (ap (λ z. z.sent) h.2.is) h.2.replies (followed host_events h.0 h.1)
  followed (Released k ∷ host_events) q h =
      followed_sent k h.0 q (in_order host_events h.0 h.1) (followed host_events h.0 h.1) h.2
  followed (Lost k ∷ host_events) q h =
      let older = followed host_events h.0 h.1 in
      subst IsFollowed (sym h.2.is)
      (λ a b c e i. fewer (replies_to holdings h.0.received) c b h.0.pending k (older a b c e i))
  followed (HostHandedOut octets ∷ host_events) q h = subst IsFollowed (sym h.2) (followed host_events h.0 h.1)
