-- Order-freedom, by induction on what is asked.
use Rattle.std.proofs.Common.{◌≡◌, ◌⊎◌, inl, inr, ℕ, Bool, true, false, cond, List, [], ◌∷◌, None, Some, refl, sym, ap, subst, ◌∙◌, true≢false, arith}
use Rattle.std.proofs.lemmas.Bool.Decides.{nat_tests}
use Rattle.zplan.specs.Positions.{IsIn}
use Rattle.zplan.specs.Plan.{Operation, Init, Search, Present, Reply, InitReply, SearchReply, PresentReply, eq_list, same, Replies, IsPlanned, first, search, cut, rest, IsMadeDue, new_search, new_cut, new_rest, PlanEvent, RequestSent, ReplyAccepted, CloseSent, replies_in, asked_in, HasClosed, WasRefused, IsPlanAnswered, IsDriven, IsComplete, AreCompatible}

list_is : (l m : List ℕ) → eq_list l m ≡ true → l ≡ m
list_is [] [] h = refl
list_is [] (q ∷ qs) h = absurd (true≢false (sym h))
list_is (p ∷ ps) [] h = absurd (true≢false (sym h))
list_is (p ∷ ps) (q ∷ qs) h =
    let e : p ≡ q = grind (arith, nat_tests) in
    let t : eq_list ps qs ≡ true = grind (arith, nat_tests) in
    let f = list_is ps qs t in
    λ i. e i ∷ f i

pub same_is : (a b : Operation) → same a b ≡ true → a ≡ b
same_is Init Init h = refl
same_is Search Search h = refl
same_is (Present l) (Present m) h = ap Present (list_is l m h)
same_is Init Search h = absurd (true≢false (sym h))
same_is Init (Present m) h = absurd (true≢false (sym h))
same_is Search Init h = absurd (true≢false (sym h))
same_is Search (Present m) h = absurd (true≢false (sym h))
same_is (Present l) Init h = absurd (true≢false (sym h))
same_is (Present l) Search h = absurd (true≢false (sym h))

eq_self : (l : List ℕ) → eq_list l l ≡ true
eq_self [] = refl
eq_self (p ∷ ps) = let r = eq_self ps in grind (arith, nat_tests, r)

pub same_self : (a : Operation) → same a a ≡ true
same_self Init = refl
same_self Search = refl
same_self (Present l) = eq_self l

-- more replies, and the old ones as they were
abbrev pub Extends : Replies → Replies → Type 0
Extends old new = (a : Operation) (r : Reply) → old a ≡ Some r → new a ≡ Some r

module _ (wanted : List ℕ) (step : ℕ) where
  pub asked_more : (old new : Replies) → Extends old new → (a : Operation) → IsPlanned wanted step old a → IsPlanned wanted step new a
  asked_more old new e Init first = first
  asked_more old new e Search (search t i h) = search t (asked_more old new e Init i) (e Init _ h)
  asked_more old new e (Present l) (cut t count i m a o h lt x) = cut t count i l (asked_more old new e Search a) (e Init _ o) (e Search _ h) lt x
  asked_more old new e (Present l) (rest m k a h lo hi) = rest m k (asked_more old new e (Present m) a) (e (Present m) _ h) lo hi

  pub received_extends : (a : Operation) (r : Reply) (events : List PlanEvent) → replies_in events a ≡ None → Extends (replies_in events) (replies_in (ReplyAccepted a r ∷ events))
  received_extends a r events none b s h =
      elim (same a b) as (λ t. same a b ≡ t → cond t (Some r) (replies_in events b) ≡ Some s) [
        | true ↦ λ t. let e : a ≡ b = same_is a b t in absurd (let x : None ≡ Some s = sym none ∙ ap (replies_in events) e ∙ h in cc)
        | false ↦ λ t. h
      ] refl

  pub received_there : (a : Operation) (r : Reply) (events : List PlanEvent) → replies_in (ReplyAccepted a r ∷ events) a ≡ Some r
  received_there a r events = ap (λ b. cond b (Some r) (replies_in events a)) (same_self a)

  -- what was asked is in Asked of the replies by then, and so of those now
  pub sent_asked : (events : List PlanEvent) → IsDriven wanted step events → (a : Operation) → IsIn a (asked_in events) → IsPlanned wanted step (replies_in events) a
  sent_asked [] d a s = absurd s
  sent_asked (RequestSent b ∷ events) d a (inl e) = subst (λ x. IsPlanned wanted step (replies_in events) x) (sym e) d.0.0
  sent_asked (RequestSent b ∷ events) d a (inr s) = sent_asked events d.1 a s
  sent_asked (ReplyAccepted b r ∷ events) d a s = asked_more (replies_in events) (replies_in (ReplyAccepted b r ∷ events)) (received_extends b r events d.1) a (sent_asked events d.2 a s)
  sent_asked (CloseSent ∷ events) d a s = sent_asked events d.1 a s

  pub answered_sent : (events : List PlanEvent) → IsDriven wanted step events → (a : Operation) (r : Reply) → replies_in events a ≡ Some r → IsIn a (asked_in events)
  answered_sent [] d a r h = absurd (cc)
  answered_sent (RequestSent b ∷ events) d a r h = inr (answered_sent events d.1 a r h)
  answered_sent (ReplyAccepted b s ∷ events) d a r h =
      let more = answered_sent events d.2 a r in
      elim (same b a) as (λ t. same b a ≡ t → cond t (Some s) (replies_in events a) ≡ Some r → IsIn a (asked_in events)) [
        | true ↦ λ t _. subst (λ x. IsIn x (asked_in events)) (same_is b a t) d.0
        | false ↦ λ t g. more g
      ] refl h
  answered_sent (CloseSent ∷ events) d a r h = answered_sent events d.1 a r h

  pub complete_asked : (events : List PlanEvent) → IsComplete wanted step events → (a : Operation) (r : Reply) → replies_in events a ≡ Some r → IsPlanned wanted step (replies_in events) a
  complete_asked events c a r h = sent_asked events c.driven a (answered_sent events c.driven a r h)

  -- once Close was sent, nothing is due and nothing is outstanding
  closed_whole : (events : List PlanEvent) → IsDriven wanted step events → HasClosed events → IsPlanAnswered wanted step events
  closed_whole [] d c a i = absurd c
  closed_whole (RequestSent b ∷ events) d c a i =
      let s = closed_whole events d.1 c b d.0.0 in absurd (d.0.1 (answered_sent events d.1 b s.0 s.1))
  closed_whole (ReplyAccepted b r ∷ events) d c a i =
      let s = closed_whole events d.2 c b (sent_asked events d.2 b d.0) in absurd (let z : None ≡ Some s.0 = sym d.1 ∙ s.1 in cc)
  closed_whole (CloseSent ∷ events) d c a i = d.0 a i

  -- where the search can't be sent, Init alone is asked
  none_asked : (replies : Replies) → WasRefused replies → (l : List ℕ) → IsPlanned wanted step replies (Present l) → ⊥
  none_asked replies c l (cut t count i m a o h lt x) = absurd (let z : Some (InitReply false c.0) ≡ Some (InitReply true t) = sym c.1 ∙ o in cc)
  none_asked replies c l (rest m k a h lo hi) = none_asked replies c m a

  refused_whole : (replies : Replies) → WasRefused replies → (a : Operation) → IsPlanned wanted step replies a → (r : Reply) × (replies a ≡ Some r)
  refused_whole replies c Init i = (InitReply false c.0, c.1)
  refused_whole replies c Search (search t i h) = absurd (let z : Some (InitReply false c.0) ≡ Some (InitReply true t) = sym c.1 ∙ h in cc)
  refused_whole replies c (Present l) i = absurd (none_asked replies c l i)

  pub complete_whole : (events : List PlanEvent) → IsComplete wanted step events → IsPlanAnswered wanted step events
  complete_whole events c = elim c.ended [
    | inl h ↦ closed_whole events c.driven h
    | inr h ↦ refused_whole (replies_in events) h
  ]

  -- the reply of the other history
  there : (one other : List PlanEvent) → IsComplete wanted step other → AreCompatible (replies_in one) (replies_in other) → (a : Operation) (r : Reply) → IsPlanned wanted step (replies_in other) a → replies_in one a ≡ Some r → replies_in other a ≡ Some r
  there one other c agree a r i h = let s = complete_whole other c a i in s.1 ∙ ap (λ x. Some x) (sym (agree a r s.0 h s.1))

  pub asked_there : (one other : List PlanEvent) → IsComplete wanted step other → AreCompatible (replies_in one) (replies_in other) → (a : Operation) → IsPlanned wanted step (replies_in one) a → IsPlanned wanted step (replies_in other) a
  asked_there one other c g Init first = first
  asked_there one other c g Search (search t i h) = search t first (there one other c g Init _ first h)
  asked_there one other c g (Present l) (cut t count i m a o h lt x) =
      let b = asked_there one other c g Search a in cut t count i l b (there one other c g Init _ first o) (there one other c g Search _ b h) lt x
  asked_there one other c g (Present l) (rest m k a h lo hi) = let b = asked_there one other c g (Present m) a in rest m k b (there one other c g (Present m) _ b h) lo hi

  pub order_free : (one other : List PlanEvent) → IsComplete wanted step one → IsComplete wanted step other → AreCompatible (replies_in one) (replies_in other)
      → (a : Operation) (r : Reply) → replies_in one a ≡ Some r → replies_in other a ≡ Some r
  order_free one other c d g a r h = there one other d g a r (asked_there one other d g a (complete_asked one c a r h)) h

-- A reply adds to Asked what it makes due, and nothing else.
module _ (wanted : List ℕ) (step : ℕ) where
  pub known_asked : (events : List PlanEvent) → IsDriven wanted step events → (a : Operation) (r : Reply) → replies_in events a ≡ Some r → IsPlanned wanted step (replies_in events) a
  known_asked events d a r h = sent_asked wanted step events d a (answered_sent wanted step events d a r h)

  received_or : (events : List PlanEvent) (a b : Operation) (r s : Reply) → replies_in (ReplyAccepted a r ∷ events) b ≡ Some s → ((a ≡ b) × (r ≡ s)) ⊎ (replies_in events b ≡ Some s)
  received_or events a b r s h = elim (same a b) as (λ t. same a b ≡ t → cond t (Some r) (replies_in events b) ≡ Some s → ((a ≡ b) × (r ≡ s)) ⊎ (replies_in events b ≡ Some s)) [
    | true ↦ λ t g. inl (same_is a b t, cc)
    | false ↦ λ t g. inr g
  ] refl h

  new_at : (replies : Replies) (a x : Operation) (r y : Reply) (b : Operation) → (a ≡ x) × (r ≡ y) → IsMadeDue wanted step replies x y b → IsMadeDue wanted step replies a r b
  new_at replies a x r y b e n = subst (λ z. IsMadeDue wanted step replies a z b) (sym e.1) (subst (λ z. IsMadeDue wanted step replies z y b) (sym e.0) n)

  -- Search was asked, so Init was answered
  searched : (replies : Replies) → IsPlanned wanted step replies Search → (t : Bool) × (replies Init ≡ Some (InitReply true t))
  searched replies (search t i h) = (t, h)

  pub asked_after : (events : List PlanEvent) → IsDriven wanted step events → (a : Operation) (r : Reply) (b : Operation) → IsIn a (asked_in events) → replies_in events a ≡ None
      → IsPlanned wanted step (replies_in (ReplyAccepted a r ∷ events)) b → IsPlanned wanted step (replies_in events) b ⊎ IsMadeDue wanted step (replies_in events) a r b
  asked_after events d a r Init s none first = inl first
  asked_after events d a r Search s none (search t i h) = elim (received_or events a Init r (InitReply true t) h) [
    | inl e ↦ inr (new_at _ a Init r (InitReply true t) Search e (new_search t))
    | inr o ↦ inl (search t first o)
  ]
  asked_after events d a r (Present l) s none (cut t count j m i o h lt x) = elim (received_or events a Search r (SearchReply (Some count)) h) [
    | inl e ↦
        -- the search was asked before, so its Init was answered before
        let p = searched (replies_in events) (subst (λ z. IsPlanned wanted step (replies_in events) z) e.0 (sent_asked wanted step events d a s)) in
        let q = received_extends wanted step a r events none Init (InitReply true p.0) p.1 in
        let f : p.0 ≡ t = let y : Some (InitReply true p.0) ≡ Some (InitReply true t) = sym q ∙ o in cc in
        inr (new_at _ a Search r (SearchReply (Some count)) (Present l) e (new_cut t count j l (subst (λ z. replies_in events Init ≡ Some (InitReply true z)) f p.1) lt x))
    | inr g ↦
        let b = known_asked events d Search (SearchReply (Some count)) g in
        let p = searched (replies_in events) b in
        let q = received_extends wanted step a r events none Init (InitReply true p.0) p.1 in
        let f : p.0 ≡ t = let y : Some (InitReply true p.0) ≡ Some (InitReply true t) = sym q ∙ o in cc in
        inl (cut t count j l b (subst (λ z. replies_in events Init ≡ Some (InitReply true z)) f p.1) g lt x)
  ]
  asked_after events d a r (Present l) s none (rest m k i h lo hi) = elim (received_or events a (Present m) r (PresentReply k) h) [
    | inl e ↦ inr (new_at _ a (Present m) r (PresentReply k) (Present l) e (new_rest m k lo hi))
    | inr o ↦ inl (rest m k (known_asked events d (Present m) (PresentReply k) o) o lo hi)
  ]

  -- and all of it
  pub new_asked : (events : List PlanEvent) → IsDriven wanted step events → (a : Operation) (r : Reply) (b : Operation) → IsIn a (asked_in events) → replies_in events a ≡ None
      → IsMadeDue wanted step (replies_in events) a r b → IsPlanned wanted step (replies_in (ReplyAccepted a r ∷ events)) b
  new_asked events d a r b s none n = made a r b n (sent_asked wanted step events d a s) none
    where
      made : (a : Operation) (r : Reply) (b : Operation) → IsMadeDue wanted step (replies_in events) a r b → IsPlanned wanted step (replies_in events) a → replies_in events a ≡ None → IsPlanned wanted step (replies_in (ReplyAccepted a r ∷ events)) b
      made a r b (new_search t) i g = search t first (received_there wanted step Init (InitReply true t) events)
      made a r b (new_cut t count j m o lt y) i g =
          cut t count j m (asked_more wanted step (replies_in events) (replies_in (ReplyAccepted Search (SearchReply (Some count)) ∷ events)) (received_extends wanted step Search (SearchReply (Some count)) events g) Search i) (received_extends wanted step Search (SearchReply (Some count)) events g Init (InitReply true t) o) (received_there wanted step Search (SearchReply (Some count)) events) lt y
      made a r b (new_rest l k lo hi) i g =
          rest l k (asked_more wanted step (replies_in events) (replies_in (ReplyAccepted (Present l) (PresentReply k) ∷ events)) (received_extends wanted step (Present l) (PresentReply k) events g) (Present l) i) (received_there wanted step (Present l) (PresentReply k) events) lo hi
