-- A pool after one more event.
use Rattle.std.proofs.Common.{◌≡◌, ◌⊎◌, ◌↔◌, inl, inr, ⊎_elim, ℕ, zero, suc, ◌+◌, ◌<◌, ◌≤◌, ◌==◌, true, false, cond}
use Rattle.std.proofs.Common.{List, [], ◌∷◌, ◌++◌, length, slice_get, slice_set, get_or, Option, None, Some}
use Rattle.std.proofs.Common.{refl, sym, ap, subst, ◌∙◌, append-nil, arith, true≢false}
use Rattle.std.specs.Prelude.{Contains, IfSome, is_some, ◌||◌}
use Rattle.zknow.specs.Tables.DistinctLaws.{none_in_nil}
use Rattle.std.specs.List.{flat_map}
use Rattle.std.proofs.lemmas.Bool.Decides.{nat_tests}
use Rattle.std.proofs.lemmas.List.{map-append}
use Rattle.std.proofs.lemmas.List.Elements.{filter-append}
use Rattle.std.proofs.Math.ListN.{length-set}
use Rattle.zknow.specs.declared.fact.Fact.{Fact}
use Rattle.zknow.specs.Facts.{AreFacts}
use Rattle.zorigin.specs.declared.settings.Settings.{Settings}
use Rattle.zorigin.specs.declared.refusal.CallRefused.{CallRefused}
use Rattle.zorigin.specs.Standings.{Call}
use Rattle.zorigin.specs.Calls.{refusal}
use Rattle.zorigin_facts.specs.Facts.{facts_of}
use Rattle.zorigin.specs.Log.{Made, Past, standing, admit_unless}
use Rattle.zoom_pool.specs.declared.state.State.{State}
use Rattle.zoom_pool.specs.Links.{Link, Links, waiting_in, waiting_at, stop_in, stop_at, IsStopAt, SameOthers, SameElse}
use Rattle.zoom_pool.specs.Transcripts.{Event, Transcript, state_at, after_call, after_feed, past_of, empty_transcript, given}
use Rattle.zoom_pool.specs.States.{is_stopped}
use Rattle.zoom_pool.specs.Connections.{AreConsistent, ConnectionAfter}
use Rattle.zoom_pool.specs.Steps.{LinkRecorded}
use Rattle.zoom_pool.specs.History.{History, events_on, accepted, facts_at, IsKnown, IsPendingAt, IsPending, AreTranscripts, After, AfterPartial}
use Rattle.zoom_pool.specs.PoolSteps.{Recorded, HasHandedOutAll, IsPoolFinished}

pub same_number : (c : ℕ) → (c == c) ≡ true
same_number c = grind (arith, nat_tests)

pub only_same : (c : ℕ) (event : Event) (h : History) → events_on c ((c, event) ∷ h) ≡ event ∷ events_on c h
only_same c event h = rw (same_number c) refl

pub only_other : (c d : ℕ) (event : Event) (h : History) → (c == d) ≡ false → events_on d ((c, event) ∷ h) ≡ events_on d h
only_other c d event h e = rw e refl

pub only_append : (c : ℕ) (more h : History) → events_on c (more ++ h) ≡ events_on c more ++ events_on c h
only_append c more h = simp (filter-append, map-append)

-- one connection has a new transcript
abbrev pub changed : ℕ → Transcript → (ℕ → Transcript) → ℕ → Transcript
changed c p transcript d = cond (c == d) p (transcript d)

pub changed_same : (c : ℕ) (p : Transcript) (transcript : ℕ → Transcript) → changed c p transcript c ≡ p
changed_same c p transcript = ap (λ b. cond b p (transcript c)) (same_number c)

changed_other : (c d : ℕ) (p : Transcript) (transcript : ℕ → Transcript) → (c == d) ≡ false → changed c p transcript d ≡ transcript d
changed_other c d p transcript e = ap (λ b. cond b p (transcript d)) e

get_set : (cs : List Link) (c d : ℕ) (new was : Link) → c < length cs → slice_get (slice_set cs c new) d ≡ Some was
    → ((c ≡ d) × (new ≡ was)) ⊎ (((c == d) ≡ false) × (slice_get cs d ≡ Some was))
get_set [] c d new was lt h = absurd (omega arith)
get_set (x ∷ xs) zero zero new was lt h = inl (refl, cc)
get_set (x ∷ xs) zero (suc d) new was lt h = inr (let e : (0 == suc d) ≡ false = grind (arith, nat_tests) in e, h)
get_set (x ∷ xs) (suc c) zero new was lt h = inr (let e : (suc c == 0) ≡ false = grind (arith, nat_tests) in e, h)
get_set (x ∷ xs) (suc c) (suc d) new was lt h =
    elim (get_set xs c d new was (omega arith) h) [
      | inl e ↦ inl (ap suc e.0, e.1)
      | inr e ↦ inr (let apart = e.0 in let f : (suc c == suc d) ≡ false = grind (arith, nat_tests) in f, e.1)
    ]

length_set : (cs : List Link) (c : ℕ) (new : Link) → length (slice_set cs c new) ≡ length cs
length_set cs c new = length-set cs c new

apart : (cs : List Link) (c d : ℕ) (new : Link) → c < length cs → length (slice_set cs c new) ≤ d → (c == d) ≡ false
apart cs c d new lt le = let le' : length cs ≤ d = subst (λ n. n ≤ d) (length_set cs c new) le in
    grind (arith, nat_tests)

-- one connection has one more event
pub stands_more : (settings : Settings) (h : History) (transcript : ℕ → Transcript) (cs : List Link) (c : ℕ) (event : Event)
    (p : Transcript) (new : Link) → c < length cs → AreTranscripts settings h transcript cs → ConnectionAfter settings (event ∷ events_on c h) p new
    → AreTranscripts settings ((c, event) ∷ h) (changed c p transcript) (slice_set cs c new)
stands_more settings h transcript cs c event p new lt s l = record {
  each = λ d was e. by d was (get_set cs c d new was lt e);
  others = λ d le.
      let far = apart cs c d new lt le in
      let was = s.others d (subst (λ n. n ≤ d) (length_set cs c new) le) in
      (only_other c d event h far ∙ was.0, changed_other c d p transcript far ∙ was.1);
}
  where
    here : ConnectionAfter settings (events_on c ((c, event) ∷ h)) (changed c p transcript c) new
    here = subst (λ x. ConnectionAfter settings x (changed c p transcript c) new) (sym (only_same c event h))
        (subst (λ x. ConnectionAfter settings (event ∷ events_on c h) x new) (sym (changed_same c p transcript)) l)

    by : (d : ℕ) (was : Link) → ((c ≡ d) × (new ≡ was)) ⊎ (((c == d) ≡ false) × (slice_get cs d ≡ Some was))
        → ConnectionAfter settings (events_on d ((c, event) ∷ h)) (changed c p transcript d) was
    by d was (inl e) = subst (λ n. ConnectionAfter settings (events_on n ((c, event) ∷ h)) (changed c p transcript n) was) e.0
        (subst (λ x. ConnectionAfter settings (events_on c ((c, event) ∷ h)) (changed c p transcript c) x) e.1 here)
    by d was (inr e) = subst (λ x. ConnectionAfter settings x (changed c p transcript d) was) (sym (only_other c d event h e.0))
        (subst (λ x. ConnectionAfter settings (events_on d h) x was) (sym (changed_other c d p transcript e.0)) (s.each d was e.1))

pub stands_same : (settings : Settings) (h : History) (transcript : ℕ → Transcript) (cs : List Link) (c : ℕ) (new : Link)
    → c < length cs → AreTranscripts settings h transcript cs → ConnectionAfter settings (events_on c h) (transcript c) new
    → AreTranscripts settings h transcript (slice_set cs c new)
stands_same settings h transcript cs c new lt s l = record {
  each = λ d was e. by d was (get_set cs c d new was lt e);
  others = λ d le. s.others d (subst (λ n. n ≤ d) (length_set cs c new) le);
}
  where
    by : (d : ℕ) (was : Link) → ((c ≡ d) × (new ≡ was)) ⊎ (((c == d) ≡ false) × (slice_get cs d ≡ Some was))
        → ConnectionAfter settings (events_on d h) (transcript d) was
    by d was (inl e) = subst (λ n. ConnectionAfter settings (events_on n h) (transcript n) was) e.0
        (subst (λ x. ConnectionAfter settings (events_on c h) (transcript c) x) e.1 l)
    by d was (inr e) = s.each d was e.1

-- the connection at an index
pub got : {X : Type 0} (xs : List X) (c : ℕ) (d was : X) → c < length xs → was ≡ get_or xs c d → slice_get xs c ≡ Some was
got [] c d was lt e = absurd (omega arith)
got (x ∷ xs) zero d was lt e = ap (λ y. Some y) (sym e)
got (x ∷ xs) (suc c) d was lt e = got xs c d was (omega arith) e

pub at_index : (settings : Settings) (h : History) (transcript : ℕ → Transcript) (cs : List Link) (c : ℕ) (d was : Link)
    → c < length cs → AreTranscripts settings h transcript cs → was ≡ get_or cs c d → ConnectionAfter settings (events_on c h) (transcript c) was
at_index settings h transcript cs c d was lt s e = s.each c was (got cs c d was lt e)

pub waits_at : (pool : Links) (c : ℕ) (d was : Link)
    → c < length pool.connections → was ≡ get_or pool.connections c d → was.waiting ≡ waiting_at pool c
waits_at pool c d was lt e = sym (ap waiting_in (got pool.connections c d was lt e))

-- ---- what is known

accepts_admit : (p : Past) (call : Call) (r : Option CallRefused) → (admit_unless p call r).accepted ≡ p.accepted
accepts_admit p call None = refl
accepts_admit p call (Some reason) = refl

pub accepts_call : (p : Transcript) (call : Call) → accepted (after_call p call) ≡ accepted p
accepts_call p call = elim p.stop as (λ o. accepted (cond (is_some o) p (record p { log = Made call ∷ p.log }))
    ≡ accepted p) [
      | None ↦ accepts_admit (past_of p) call (refusal (standing (past_of p)) call)
      | Some s ↦ refl
    ]

pub known_same : (transcript : ℕ → Transcript) (c : ℕ) (p : Transcript) → accepted p ≡ accepted (transcript c) → (q : Fact)
    → IsKnown transcript q ↔ IsKnown (changed c p transcript) q
known_same transcript c p e q = (
  λ k. (k.0, subst (λ xs. Contains xs q) (sym (same k.0)) k.1),
  λ k. (k.0, subst (λ xs. Contains xs q) (same k.0) k.1),
)
  where
    same : (d : ℕ) → facts_at d (changed c p transcript d) ≡ facts_at d (transcript d)
    same d = elim (c == d) as (λ b. (c == d) ≡ b → facts_at d (cond b p (transcript d)) ≡ facts_at d (transcript d)) [
      | true ↦ λ t. (let at : c ≡ d = grind (arith, nat_tests) in
          subst (λ n. flat_map (facts_of d) (accepted p) ≡ flat_map (facts_of d) (accepted (transcript n))) at
          (ap (flat_map (facts_of d)) e))
      | false ↦ λ f. refl
    ] refl

-- connection `c` has a new transcript, and its next message says the same
pending_changed : (partial : List ℕ) (transcript : ℕ → Transcript) (c : ℕ) (p : Transcript) (q : Fact)
    → (IsPendingAt c (transcript c) q → IsPendingAt c p q) → IsPending partial transcript q
    → IsPending partial (changed c p transcript) q
pending_changed partial transcript c p q keeps (d, is, n) = (
  d,
  is,
  elim (c == d) as (λ b. (c == d) ≡ b → IsPendingAt d (cond b p (transcript d)) q) [
    | true ↦ λ t. (let at : c ≡ d = grind (arith, nat_tests) in
        subst (λ i. IsPendingAt i p q) at (keeps (subst (λ i. IsPendingAt i (transcript i) q) (sym at) n)))
    | false ↦ λ f. n
  ] refl,
)

-- an event that accepts no reply, and does not change what the next message says
pub after_more : (settings : Settings) (partial : List ℕ) (h : History) (old new : Links) (c : ℕ) (event : Event)
    (p : Transcript) (x : Link)
    → c < length old.connections → (a : AfterPartial settings partial h old)
    → ConnectionAfter settings (event ∷ events_on c h) p x
    → accepted p ≡ accepted (a.transcript c) → ((q : Fact) → IsPendingAt c (a.transcript c) q → IsPendingAt c p q)
    → new.connections ≡ slice_set old.connections c x
    → new.knowledge ≡ old.knowledge → AfterPartial settings partial ((c, event) ∷ h) new
after_more settings partial h old new c event p x lt a l same keeps cs k = record {
  transcript = changed c p a.transcript;
  stands = subst (AreTranscripts settings ((c, event) ∷ h) (changed c p a.transcript)) (sym cs)
      (stands_more settings h a.transcript old.connections c event p x lt a.stands l);
  has = λ q is. subst (λ z. Contains z q) (sym k) (a.has q ((known_same a.transcript c p same q).1 is));
  within = λ q has. ⊎_elim (λ o. inl ((known_same a.transcript c p same q).0 o))
      (λ n. inr (pending_changed partial a.transcript c p q (keeps q) n)) (a.within q (subst (λ z. Contains z q) k has));
  lawful = subst AreFacts (sym k) a.lawful;
}

pub gained : (c : ℕ) (event : Event) (change : Transcript → Transcript) (old new : Links) (d was x : Link)
    → c < length old.connections
    → was ≡ get_or old.connections c d → LinkRecorded event change was x → ((p : Transcript) → accepted (change p) ≡ accepted p)
    → ((p : Transcript) (q : Fact) → IsPendingAt c p q → IsPendingAt c (change p) q)
    → new.connections ≡ slice_set old.connections c x → new.knowledge ≡ old.knowledge → Recorded c event old new
gained c event change old new d was x lt is gains same keeps cs k =
    λ settings partial h a.
    after_more settings partial h old new c event (change (a.transcript c)) x lt a
    (gains settings (events_on c h) (a.transcript c) (at_index settings h a.transcript old.connections c d was lt a.stands is))
    (same (a.transcript c)) (keeps (a.transcript c)) cs k

-- a list has the item that was put into it, at its index
pub get_same : {X : Type 0} (xs : List X) (c : ℕ) (x : X) → c < length xs → slice_get (slice_set xs c x) c ≡ Some x
get_same [] c x lt = absurd (omega arith)
get_same (y ∷ xs) zero x lt = refl
get_same (y ∷ xs) (suc c) x lt = get_same xs c x (omega arith)

-- the others are as they were
pub get_other : {X : Type 0} (xs : List X) (c i : ℕ) (x : X) → (c == i) ≡ false
    → slice_get (slice_set xs c x) i ≡ slice_get xs i
get_other [] c i x f = refl
get_other (y ∷ xs) zero zero x f = absurd (true≢false f)
get_other (y ∷ xs) zero (suc i) x f = refl
get_other (y ∷ xs) (suc c) zero x f = refl
get_other (y ∷ xs) (suc c) (suc i) x f = get_other xs c i x (let g : (c == i) ≡ false = grind (arith, nat_tests) in g)

-- one connection was put
pub else_same : (old new : Links) (c : ℕ) (x : Link) → new.connections ≡ slice_set old.connections c x
    → new.knowledge ≡ old.knowledge → SameElse c old new
else_same old new c x cs k = record {
  known = k;
  size = ap length cs ∙ length_set old.connections c x;
  others = λ i far. ap (λ z. slice_get z i) cs ∙ get_other old.connections c i x far;
}

pub else_none : (c : ℕ) (pool : Links) → SameElse c pool pool
else_none c pool = record { known = refl; size = refl; others = λ i far. refl }

pub else_more : (c : ℕ) (old mid new : Links) → SameElse c old mid → SameElse c mid new → SameElse c old new
else_more c old mid new a b = record {
  known = b.known ∙ a.known;
  size = b.size ∙ a.size;
  others = λ i far. b.others i far ∙ a.others i far;
}

pub others_same : (old new : Links) (c : ℕ) (x : Link) → new.connections ≡ slice_set old.connections c x
    → SameOthers c old new
others_same old new c x cs = record {
  size = ap length cs ∙ length_set old.connections c x;
  others = λ i far. ap (λ z. slice_get z i) cs ∙ get_other old.connections c i x far;
}

-- what stopped the connection at an index
pub stop_is : (pool : Links) (c : ℕ) (d was : Link) (state : State) → c < length pool.connections
    → was ≡ get_or pool.connections c d → IfSome was.stop (λ stopped. state ≡ stopped) → IsStopAt c pool state
stop_is pool c d was state lt e says stopped at =
    let here : was.stop ≡ Some stopped = sym (ap stop_in (got pool.connections c d was lt e)) ∙ at in
    subst (λ o. IfSome o (λ s. state ≡ s)) here says

-- the octets that wait on the connection that was put, and what stopped it
pub waits_put : (old new : Links) (c : ℕ) (x : Link) → c < length old.connections
    → new.connections ≡ slice_set old.connections c x → waiting_at new c ≡ x.waiting
waits_put old new c x lt cs = ap waiting_in (ap (λ z. slice_get z c) cs ∙ get_same old.connections c x lt)

pub stops_put : (old new : Links) (c : ℕ) (x : Link) → c < length old.connections
    → new.connections ≡ slice_set old.connections c x → stop_at new c ≡ x.stop
stops_put old new c x lt cs = ap stop_in (ap (λ z. slice_get z c) cs ∙ get_same old.connections c x lt)

-- if no octets wait, all were handed out
pub given_all : (c : ℕ) (old new : Links) (x : Link) → c < length old.connections
    → new.connections ≡ slice_set old.connections c x → x.waiting ≡ [] → HasHandedOutAll c new
given_all c old new x lt cs none =
    λ settings partial h a lost.
    let at : slice_get new.connections c ≡ Some x = ap (λ z. slice_get z c) cs ∙ get_same old.connections c x lt in
    sym (append-nil (given (events_on c h))) ∙ ap (λ z. given (events_on c h) ++ z) (sym none)
    ∙ (a.stands.each c x at).waiting lost

-- Takes of more connections may have found no memory
pub up_to_more : (settings : Settings) (some more : List ℕ) (h : History) (pool : Links)
    → ((c : ℕ) → Contains some c → Contains more c) → AfterPartial settings some h pool → AfterPartial settings more h pool
up_to_more settings some more h pool wider a = record {
  transcript = a.transcript;
  stands = a.stands;
  has = a.has;
  within = λ q k. ⊎_elim inl (λ n. inr (n.0, wider n.0 n.1, n.2)) (a.within q k);
  lawful = a.lawful;
}

-- no Take is left that found no memory
pub known_exactly : (settings : Settings) (h : History) (pool : Links) (a : After settings h pool) (q : Fact)
    → Contains pool.knowledge q ↔ IsKnown a.transcript q
known_exactly settings h pool a q = (λ k. ⊎_elim (λ o. o) (λ n. absurd (none_in_nil n.0 n.1)) (a.within q k), a.has q)

pub accepts_feed : (p : Transcript) (piece : List ℕ) → accepted (after_feed p piece) ≡ accepted p
accepts_feed p piece = elim (is_stopped (state_at p) || p.ended) as
    (λ b. accepted (cond b p (record p { stream = p.stream ++ piece })) ≡ accepted p) [ true ↦ refl | false ↦ refl ]

-- ---- before any event

abbrev pub AreFresh : Settings → List Link → Type 0
AreFresh settings cs = (i : ℕ) (x : Link) → slice_get cs i ≡ Some x → ConnectionAfter settings [] (empty_transcript settings) x

push_each : (P : Link → Type 0) (cs : List Link) (new : Link) → ((i : ℕ) (x : Link) → slice_get cs i ≡ Some x → P x)
    → P new
    → (i : ℕ) (x : Link) → slice_get (cs ++ new ∷ []) i ≡ Some x → P x
push_each P [] new old p zero x e = let same : new ≡ x = cc in subst P same p
push_each P [] new old p (suc i) x e = absurd (cc)
push_each P (y ∷ cs) new old p zero x e = old zero x e
push_each P (y ∷ cs) new old p (suc i) x e = push_each P cs new (λ j. old (suc j)) p i x e

pub fresh_push : (settings : Settings) (cs : List Link) (new : Link) → AreFresh settings cs
    → ConnectionAfter settings [] (empty_transcript settings) new → AreFresh settings (cs ++ new ∷ [])
fresh_push settings cs new = push_each (ConnectionAfter settings [] (empty_transcript settings)) cs new

pub fresh_none : (settings : Settings) → AreFresh settings []
fresh_none settings i x e = absurd (cc)

pub after_none : (settings : Settings) (pool : Links) → AreFresh settings pool.connections → pool.knowledge ≡ []
    → AreFacts pool.knowledge → After settings [] pool
after_none settings pool f k lawful = record {
  transcript = λ c. empty_transcript settings;
  stands = record { each = f; others = λ d le. (refl, refl) };
  has = λ q is. absurd (none_in_nil q is.1);
  within = λ q has. absurd (none_in_nil q (subst (λ z. Contains z q) k has));
  lawful = lawful;
}

-- ---- whether all connections are stopped

-- the first connections are stopped
abbrev pub AllStopped : ℕ → List Link → Type 0
AllStopped n cs =
    (i : ℕ) (k : Link) (p : Transcript) → i < n → slice_get cs i ≡ Some k → AreConsistent p k → is_stopped (state_at p) ≡ true

slice_there : (cs : List Link) (c : ℕ) → c < length cs → (k : Link) × (slice_get cs c ≡ Some k)
slice_there [] c lt = absurd (omega arith)
slice_there (x ∷ xs) zero lt = (x, refl)
slice_there (x ∷ xs) (suc c) lt = slice_there xs c (omega arith)

pub stopped_none : (cs : List Link) → AllStopped 0 cs
stopped_none cs i k p lt e m = absurd (omega arith)

pub stopped_one : (n : ℕ) (cs : List Link) (was : Link) → AllStopped n cs → slice_get cs n ≡ Some was
    → ((p : Transcript) → AreConsistent p was → is_stopped (state_at p) ≡ true) → AllStopped (n + 1) cs
stopped_one n cs was all at one i k p lt e m = elim (i == n) as (λ b. (i == n) ≡ b → is_stopped (state_at p) ≡ true) [
  | true ↦ λ t. (
      let is : i ≡ n = grind (arith, nat_tests) in
      let got : Some was ≡ Some k = sym at ∙ sym (ap (slice_get cs) is) ∙ e in
      let same : was ≡ k = cc in
      one p (subst (AreConsistent p) (sym same) m))
  | false ↦ λ f. all i k p (let less : i < n = grind (arith, nat_tests) in less) e m
] refl

pub finished_all : (pool : Links) → AllStopped (length pool.connections) pool.connections → IsPoolFinished pool true
finished_all pool all settings partial h a = (
  λ t c lt. (let k = slice_there pool.connections c lt in
      all c k.0 (a.transcript c) lt k.1 (a.stands.each c k.0 k.1).matches),
  λ each. refl,
)

pub finished_not : (pool : Links) (n : ℕ) (was : Link) → n < length pool.connections
    → slice_get pool.connections n ≡ Some was
    → ((p : Transcript) → AreConsistent p was → is_stopped (state_at p) ≡ false) → IsPoolFinished pool false
finished_not pool n was lt at one settings partial h a = (
  λ e. absurd (true≢false (sym e)),
  λ each. absurd (true≢false (sym (each n lt) ∙ one (a.transcript n) (a.stands.each n was at).matches)),
)
