-- A pool after one more Take.
use Rattle.std.proofs.Common.{◌≡◌, ◌⊎◌, inl, inr, ⊎_elim, ℕ, suc, ◌<◌, ◌==◌, Bool, true, false, cond, not}
use Rattle.std.proofs.Common.{List, [], ◌∷◌, ◌++◌, filter, length, slice_set, Option, None, Some}
use Rattle.std.proofs.Common.{Result, Ok, Err, refl, sym, ap, subst, ◌∙◌, append-nil, arith, true≢false}
use Rattle.std.specs.Prelude.{Contains, ◌||◌}
use Rattle.zknow.specs.Tables.DistinctLaws.{none_in_nil, in_cons, in_head, in_tail}
use Rattle.std.specs.List.{flat_map}
use Rattle.std.proofs.lemmas.Bool.Decides.{nat_tests}
use Rattle.std.proofs.lemmas.Grind.{flat_map-append}
use Rattle.std.proofs.lemmas.List.Elements.{Contains-append_cases, Contains-append_left, Contains-append_right}
use Rattle.zknow.specs.declared.fact.Fact.{Fact}
use Rattle.zknow.specs.Facts.{AreFacts}
use Rattle.zknow.specs.Tables.Join.{IsPartOfUnion}
use Rattle.zorigin.specs.declared.settings.Settings.{Settings}
use Rattle.zorigin.specs.declared.answer.Answer.{Answer}
use Rattle.zorigin.specs.declared.answer.Taken.{Taken}
use Rattle.zorigin.specs.declared.answer.Taken.TheVariants as taken
use Rattle.zorigin.specs.declared.refusal.Refused.{Refused}
use Rattle.zorigin.specs.Standings.{is_open}
use Rattle.zorigin.specs.Replies.{verdict}
use Rattle.zorigin_facts.specs.Facts.{facts_of}
use Rattle.zorigin.specs.Sending.{encoding_of}
use Rattle.zorigin.specs.Log.{Got, Past, standing, state_of, after_verdict}
use Rattle.zoom_pool.specs.Links.{Link, Links}
use Rattle.zoom_pool.specs.declared.step.Outcome.{Outcome}
use Rattle.zoom_pool.specs.declared.step.TakeError.{TakeError}
use Rattle.zoom_pool.specs.Inputs.{Input, AlreadyStopped, Message, Foreign, Fault, Rest, Nothing}
use Rattle.zoom_pool.specs.declared.state.State.{State}
use Rattle.zoom_pool.specs.Transcripts.{Event, Took, Transcript, IsTranscript, NextInput, state_at, after_reply, end_by, after_stop, truncated}
use Rattle.zoom_pool.specs.Transcripts.{after_take, news_at, facts_of_verdict, IsNews, past_of, given}
use Rattle.zoom_pool.specs.States.{is_stopped}
use Rattle.zoom_pool.specs.Connections.{AreConsistent, AreReadBack, ConnectionAfter}
use Rattle.zoom_pool.specs.Steps.{TakeResult}
use Rattle.zoom_pool.specs.History.{History, events_on, facts_at, IsKnown, IsPendingAt, IsPending, AreTranscripts, AfterPartial, partial_after}
use Rattle.zoom_pool.specs.Laws.{OneInput}
use Rattle.zoom_pool.proofs.Stops.{goes}
use Rattle.zoom_pool.proofs.Pools.{changed, changed_same, stands_more, stands_same}

one_more : (c : ℕ) (xs : List Answer) (a : Answer) → flat_map (facts_of c) (xs ++ a ∷ []) ≡ flat_map (facts_of c) xs
    ++ facts_of c a
one_more c xs a = flat_map-append (facts_of c) xs (a ∷ []) ∙ ap (λ l. flat_map (facts_of c) xs ++ l)
    (append-nil (facts_of c a))

verdict_facts : (c : ℕ) (p : Past) (v : Result Taken Refused)
    → flat_map (facts_of c) (after_verdict p v).accepted ≡ flat_map (facts_of c) p.accepted ++ facts_of_verdict c v
verdict_facts c p (Ok (taken.Opened a)) = one_more c p.accepted a
verdict_facts c p (Ok (taken.Rejected a)) = one_more c p.accepted a
verdict_facts c p (Ok (taken.Answered a)) = one_more c p.accepted a
verdict_facts c p (Ok taken.Closed) = sym (append-nil (flat_map (facts_of c) p.accepted))
verdict_facts c p (Err r) = elim (is_open (state_of p)) as (λ b. flat_map (facts_of c)
    (cond b (record p { fault = Some r }) p).accepted ≡ flat_map (facts_of c) p.accepted ++ []) [
      | true ↦ sym (append-nil (flat_map (facts_of c) p.accepted))
      | false ↦
          sym (append-nil (flat_map (facts_of c) p.accepted))
    ]

process_past : (p : Transcript) (v : Result Taken Refused) → past_of (after_reply p v) ≡ past_of p
process_past p (Ok x) = refl
process_past p (Err r) = refl

-- a Take adds its facts to those of its connection
take_facts : (c : ℕ) (p : Transcript) (m : Input) → facts_at c (after_take p m) ≡ facts_at c p ++ news_at c p m
take_facts c p AlreadyStopped = sym (append-nil (facts_at c p))
take_facts c p (Message v) =
    ap (λ (z : Past). flat_map (facts_of c) z.accepted) (process_past
    (record p { taken = suc p.taken; log = Got v ∷ p.log }) (verdict (standing (past_of p)) v))
    ∙ verdict_facts c (past_of p) (verdict (standing (past_of p)) v)
take_facts c p (Foreign e) = sym (append-nil (facts_at c p))
take_facts c p (Fault k at) = sym (append-nil (facts_at c p))
take_facts c p (Rest n) = elim p.ended as (λ b. facts_at c (cond b (after_stop p (truncated n)) p) ≡ facts_at c p ++ [])
    [ true ↦ sym (append-nil (facts_at c p)) | false ↦ sym (append-nil (facts_at c p)) ]
take_facts c p Nothing = elim p.ended as (λ b. facts_at c (cond b (end_by p) p) ≡ facts_at c p ++ [])
    [ true ↦ sym (append-nil (facts_at c p)) | false ↦ sym (append-nil (facts_at c p)) ]

same_verdict : (p : Past) (v : Result Taken Refused) → (after_verdict p v).sent ≡ p.sent
same_verdict p (Ok (taken.Opened a)) = refl
same_verdict p (Ok (taken.Rejected a)) = refl
same_verdict p (Ok (taken.Answered a)) = refl
same_verdict p (Ok taken.Closed) = refl
same_verdict p (Err r) = elim (is_open (state_of p)) as (λ b. (cond b (record p { fault = Some r }) p).sent ≡ p.sent)
    [ true ↦ refl | false ↦ refl ]

-- a Take sends nothing
take_sent : (p : Transcript) (m : Input) → (past_of (after_take p m)).sent ≡ (past_of p).sent
take_sent p AlreadyStopped = refl
take_sent p (Message v) = ap (λ (z : Past). z.sent) (process_past (record p { taken = suc p.taken; log = Got v ∷ p.log })
    (verdict (standing (past_of p)) v)) ∙ same_verdict (past_of p) (verdict (standing (past_of p)) v)
take_sent p (Foreign e) = refl
take_sent p (Fault k at) = refl
take_sent p (Rest n) = elim p.ended as (λ b. (past_of (cond b (after_stop p (truncated n)) p)).sent ≡ (past_of p).sent)
    [ true ↦ refl | false ↦ refl ]
take_sent p Nothing = elim p.ended as (λ b. (past_of (cond b (end_by p) p)).sent ≡ (past_of p).sent)
    [ true ↦ refl | false ↦ refl ]

known_more : (transcript : ℕ → Transcript) (c : ℕ) (m : Input) (q : Fact) → IsKnown (changed c (after_take (transcript c) m) transcript) q
    → IsKnown transcript q ⊎ Contains (news_at c (transcript c) m) q
known_more transcript c m q (d, k) = elim (c == d) as (λ b. (c == d) ≡ b
    → Contains (facts_at d (cond b (after_take (transcript c) m) (transcript d))) q
    → IsKnown transcript q ⊎ Contains (news_at c (transcript c) m) q) [
      | true ↦ λ t x. (
          let at : d ≡ c = grind (arith, nat_tests) in
          let here : Contains (facts_at c (after_take (transcript c) m)) q =
          subst (λ n. Contains (facts_at n (after_take (transcript c) m)) q) at x in
          ⊎_elim (λ o. inl (c, o)) inr (Contains-append_cases (facts_at c (transcript c)) (news_at c (transcript c) m) q
          (subst (λ z. Contains z q) (take_facts c (transcript c) m) here)))
      | false ↦ λ f x. inl (d, x)
    ] refl k

known_kept : (transcript : ℕ → Transcript) (c : ℕ) (m : Input) (q : Fact) → IsKnown transcript q
    → IsKnown (changed c (after_take (transcript c) m) transcript) q
known_kept transcript c m q (d, k) = (
  d,
  elim (c == d) as (λ b. (c == d) ≡ b → Contains (facts_at d (cond b (after_take (transcript c) m) (transcript d))) q) [
    | true ↦ λ t. (
        let at : c ≡ d = grind (arith, nat_tests) in
        let here : Contains (facts_at c (after_take (transcript c) m)) q =
        subst (λ z. Contains z q) (sym (take_facts c (transcript c) m))
        (Contains-append_left (facts_at c (transcript c)) (news_at c (transcript c) m) q
        (subst (λ n. Contains (facts_at n (transcript n)) q) (sym at) k)) in
        subst (λ n. Contains (facts_at n (after_take (transcript c) m)) q) at here)
    | false ↦ λ f. k
  ] refl,
)

known_news : (transcript : ℕ → Transcript) (c : ℕ) (m : Input) (q : Fact) → Contains (news_at c (transcript c) m) q
    → IsKnown (changed c (after_take (transcript c) m) transcript) q
known_news transcript c m q k = (
  c,
  subst (λ z. Contains (facts_at c z) q)
      (sym (changed_same c (after_take (transcript c) m) transcript)) (subst (λ z. Contains z q) (sym (take_facts c (transcript c) m))
      (Contains-append_right (facts_at c (transcript c)) (news_at c (transcript c) m) q k)),
)

left_by : (settings : Settings) (events : List Event) (p : Transcript) (old new : Link) (m : Input)
    → ConnectionAfter settings events p old → NextInput p m → AreConsistent (after_take p m) new → new.waiting ≡ old.waiting
    → ConnectionAfter settings (Took ∷ events) (after_take p m) new
left_by settings events p old new m l is_next matches w = record {
  transcript = (p, l.transcript, (m, is_next, refl));
  matches = matches;
  waiting = λ lost. ap (λ z. given events ++ z) w ∙ l.waiting lost ∙ sym (ap (flat_map encoding_of) (take_sent p m));
  reads = subst AreReadBack (sym (take_sent p m)) l.reads;
}

-- ---- the connections whose last Take found no memory

in_filter : (t : ℕ → Bool) (xs : List ℕ) (x : ℕ) → Contains xs x → t x ≡ true → Contains (filter t xs) x
in_filter t [] x h e = absurd (none_in_nil x h)
in_filter t (y ∷ ys) x h e = elim (t y) as (λ b. t y ≡ b → Contains (cond b (y ∷ filter t ys) (filter t ys)) x) [
  | true ↦ λ k. ⊎_elim (λ same. subst (Contains (y ∷ filter t ys)) same (in_head y (filter t ys)))
      (λ later. in_tail y (filter t ys) x (in_filter t ys x later e)) (in_cons y ys x h)
  | false ↦ λ k. ⊎_elim (λ same. absurd (true≢false (sym e ∙ ap t (sym same) ∙ k))) (λ later. in_filter t ys x later e)
      (in_cons y ys x h)
] refl

-- a fact of the next message of a connection that nothing stopped is one of the next Take
pending_news : (c : ℕ) (p : Transcript) (q : Fact) → p.stop ≡ None → IsPendingAt c p q → IsNews c p q
pending_news c p q none = subst (λ (o : Option State). IsNews c (record p { stop = o }) q) (sym none)

news_pending : (c : ℕ) (p : Transcript) (q : Fact) → p.stop ≡ None → IsNews c p q → IsPendingAt c p q
news_pending c p q none = subst (λ (o : Option State). IsNews c (record p { stop = o }) q) none

-- a Take adds something only if nothing stopped the connection
news_goes : (settings : Settings) (events : List Event) (c : ℕ) (p : Transcript) (q : Fact)
    → IsTranscript settings events p → IsNews c p q → p.stop ≡ None
news_goes settings events c p q transcript (AlreadyStopped, next, has) = absurd (none_in_nil q has)
news_goes settings events c p q transcript (Message v, next, has) = goes settings events p transcript next.0
news_goes settings events c p q transcript (Foreign error, next, has) = absurd (none_in_nil q has)
news_goes settings events c p q transcript (Fault kind at, next, has) = absurd (none_in_nil q has)
news_goes settings events c p q transcript (Rest n, next, has) = absurd (none_in_nil q has)
news_goes settings events c p q transcript (Nothing, next, has) = absurd (none_in_nil q has)

-- what the next message of a connection says, after a Take of `c`: the connection may still have it, or it is known
pending_took : (meeting : OneInput) (settings : Settings) (events : List Event) (partial : List ℕ) (transcript : ℕ → Transcript)
    (c : ℕ) (m : Input) (q : Fact) → IsTranscript settings events (transcript c) → NextInput (transcript c) m
    → IsPending partial transcript q
    → Contains (news_at c (transcript c) m) q
    ⊎ IsPending (partial_after c (transcript c) partial) (changed c (after_take (transcript c) m) transcript) q
pending_took meeting settings events partial transcript c m q heard is_next (d, is, n) = by (c == d) refl (is_stopped (state_at (transcript c))) refl
  where
    by : (b : Bool) → (c == d) ≡ b → (s : Bool) → is_stopped (state_at (transcript c)) ≡ s
        → Contains (news_at c (transcript c) m) q
        ⊎ IsPending (partial_after c (transcript c) partial) (changed c (after_take (transcript c) m) transcript) q
    by false f s g = inr (
      d,
      in_filter (λ i. is_stopped (state_at (transcript c)) || not (c == i)) partial d is (
          ap (λ z. is_stopped (state_at (transcript c)) || not z) f ∙ or_true (is_stopped (state_at (transcript c)))),
      subst (λ z. IsPendingAt d (cond z (after_take (transcript c) m) (transcript d)) q) (sym f) n,
    )
      where
        or_true : (z : Bool) → (z || true) ≡ true
        or_true true = refl
        or_true false = refl
    by true t true g =
        let at : d ≡ c = grind (arith, nat_tests) in
        let same : AlreadyStopped ≡ m = meeting (transcript c) AlreadyStopped m g is_next in
        inr (
          d,
          in_filter (λ i. is_stopped (state_at (transcript c)) || not (c == i)) partial d is (ap (λ z. z || not (c == d)) g),
          subst (λ z. IsPendingAt d (cond z (after_take (transcript c) m) (transcript d)) q) (sym t)
              (subst (λ z. IsPendingAt d (after_take (transcript c) z) q) same
              (subst (λ i. IsPendingAt d (transcript i) q) at n)),
        )
    by true t false g =
        let at : d ≡ c = grind (arith, nat_tests) in
        let here : IsPendingAt c (transcript c) q = subst (λ i. IsPendingAt i (transcript i) q) at n in
        let news = pending_news c (transcript c) q (goes settings events (transcript c) heard g) here in
        inl (subst (λ z. Contains (news_at c (transcript c) z) q) (meeting (transcript c) news.0 m news.1 is_next) news.2)

-- ---- the pool

pub taken_after : (meeting : OneInput) (settings : Settings) (partial : List ℕ) (h : History) (old new : Links) (c : ℕ)
    (was x : Link) (answer : Result Outcome TakeError) → c < length old.connections → (a : AfterPartial settings partial h old)
    → ConnectionAfter settings (events_on c h) (a.transcript c) was → TakeResult c (a.transcript c) answer x old.knowledge new.knowledge
    → x.waiting ≡ was.waiting → AreFacts new.knowledge → new.connections ≡ slice_set old.connections c x
    → AfterPartial settings (partial_after c (a.transcript c) partial) ((c, Took) ∷ h) new
taken_after meeting settings partial h old new c was x answer lt a l t w lawful cs =
    let p = a.transcript c in
    let now = changed c (after_take p t.input) a.transcript in
    let leaves = left_by settings (events_on c h) p was x t.input l t.is_next t.matches w in
    record {
      transcript = now;
      stands = subst (AreTranscripts settings ((c, Took) ∷ h) now) (sym cs)
          (stands_more settings h a.transcript old.connections c Took (after_take p t.input) x lt a.stands leaves);
      has = λ q is. ⊎_elim (λ o. (t.union q).1 (inl (a.has q o))) (λ n. (t.union q).1 (inr n))
          (known_more a.transcript c t.input q is);
      within = λ q has. ⊎_elim
          (λ o. ⊎_elim (λ k. inl (known_kept a.transcript c t.input q k))
          (λ n. ⊎_elim (λ k. inl (known_news a.transcript c t.input q k)) inr
          (pending_took meeting settings (events_on c h) partial a.transcript c t.input q l.transcript t.is_next n)) (a.within q o))
          (λ n. inl (known_news a.transcript c t.input q n)) ((t.union q).0 has);
      lawful = lawful;
    }

pending_wider : (c : ℕ) (partial : List ℕ) (transcript : ℕ → Transcript) (q : Fact) → IsPending partial transcript q
    → IsPending (c ∷ partial) transcript q
pending_wider c partial transcript q (d, is, n) = (d, in_tail c partial d is, n)

pub kept_up_to : (settings : Settings) (partial : List ℕ) (h : History) (old new : Links) (c : ℕ) (was x : Link)
    → c < length old.connections → (a : AfterPartial settings partial h old)
    → ConnectionAfter settings (events_on c h) (a.transcript c) was
    → AreConsistent (a.transcript c) x → x.waiting ≡ was.waiting
    → IsPartOfUnion (Contains old.knowledge) (IsNews c (a.transcript c)) (Contains new.knowledge) → AreFacts new.knowledge
    → new.connections ≡ slice_set old.connections c x → AfterPartial settings (c ∷ partial) h new
kept_up_to settings partial h old new c was x lt a l m w part lawful cs = record {
  transcript = a.transcript;
  stands = subst (AreTranscripts settings h a.transcript) (sym cs) (stands_same settings h a.transcript old.connections c x lt a.stands
      (record {
        transcript = l.transcript;
        matches = m;
        waiting = λ lost. ap (λ z. given (events_on c h) ++ z) w ∙ l.waiting lost;
        reads = l.reads;
      }));
  has = λ q k. part.keeps q (a.has q k);
  within = λ q k. ⊎_elim
      (λ o. ⊎_elim inl (λ n. inr (pending_wider c partial a.transcript q n)) (a.within q o))
      (λ n. inr (
        c,
        in_head c partial,
        news_pending c (a.transcript c) q
            (news_goes settings (events_on c h) c (a.transcript c) q l.transcript n) n,
      ))
      (part.within q k);
  lawful = lawful;
}
