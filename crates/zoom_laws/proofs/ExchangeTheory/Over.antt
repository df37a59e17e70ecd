-- A Close is the last owed reply: what is pending then, and what came when a connection is over.
use Rattle.std.proofs.Common.{◌≡◌, ◌⊎◌, inl, inr, ◌+◌, ◌≤◌, true, false, not, List, [], ◌∷◌, ◌++◌, length, Some, refl, sym, ap, subst, ◌∙◌, append_assoc, append-nil, length-append, true≢false, arith}
use Rattle.std.specs.Prelude.{◌||◌, ◌==◌, Contains, IsPermutation}
use Rattle.std.specs.List.{flat_map, list_any}
use Rattle.std.proofs.lemmas.Bool.{or_right}
use Rattle.std.proofs.lemmas.List.{nil_from_length}
use Rattle.std.proofs.lemmas.List.Elements.{Contains-push}
use Rattle.std.proofs.lemmas.List.Sorted.{IsPermutation-refl, length_permutation}
use Rattle.zapdu.specs.declared.apdu.Apdu.{Apdu}
use Rattle.zapdu.specs.declared.apdu.Apdu.TheVariants as apdus
use Rattle.zapdu.specs.declared.productions.close.Close.{Close}
use Rattle.zplan.specs.Positions.{IsIn}
use Rattle.zorigin.specs.declared.settings.Settings.{Settings}
use Rattle.zorigin.specs.declared.answer.Answer.{Answer}
use Rattle.zorigin.specs.Sending.{encoding_of}
use Rattle.zorigin.specs.Log.{opening, is_init_call, is_close_call}
use Rattle.zorigin.proofs.Members.{contained, among}
use Rattle.zorigin.proofs.Accepting.{accepted_so}
use Rattle.ztarget.specs.Receiving.{is_close, may_release}
use Rattle.zoom_pool.specs.States.{is_stopped}
use Rattle.zoom_pool.specs.Transcripts.{Event, Transcript, past_of, state_at}
use Rattle.zoom_pool.specs.Hosts.{HostState, Holdings, HostEvent, handed_out, replies_to}
use Rattle.zoom_laws.specs.Accord.{requests, AccordLaws}
use Rattle.zoom_laws.proofs.AccordTheory.Conversing as conversing
use Rattle.zoom_laws.proofs.AccordTheory.Owing as owing
use Rattle.zoom_laws.specs.Exchange.{IsSoundExchange, got_in, EmptyLaw, OverLaw}
use Rattle.zoom_laws.proofs.ExchangeTheory.Counts.{few_replies}
use Rattle.zoom_laws.proofs.ExchangeTheory.Endings.{stands, close_is}
use Rattle.zoom_laws.proofs.ExchangeTheory.Transcripts.{rest_behind}
use Rattle.zoom_laws.proofs.ExchangeTheory.Logs.{accepted_got, closed_got}
use Rattle.zoom_laws.proofs.ExchangeTheory.Parts.{IsPart, part_front, part_none, before_last, left_none, right_none, none_in_none, last_in}
use Rattle.zoom_laws.proofs.ExchangeTheory.Pendings.{Follows, in_order, followed}
use Rattle.zoom_laws.proofs.ExchangeTheory.Sounds.{left_of, more_owed, permuted, due, got_owed, pending_owed, conversation, coming_is}
use Rattle.zoom_laws.proofs.ExchangeTheory.States.{Rejects, stopped_so, rejecting, found_in}

-- ---- a Close is the last

kind_of : (v : Apdu) → (is_close v ≡ false) ⊎ ((c : Close) × (v ≡ apdus.Close c))
kind_of (apdus.InitRequest v) = inl refl
kind_of (apdus.InitResponse v) = inl refl
kind_of (apdus.SearchRequest v) = inl refl
kind_of (apdus.SearchResponse v) = inl refl
kind_of (apdus.PresentRequest v) = inl refl
kind_of (apdus.PresentResponse v) = inl refl
kind_of (apdus.Close c) = inr (c, refl)

module _ (laws : AccordLaws) (holdings : Holdings) (settings : Settings) (events : List Event) (p : Transcript)
    (host_events : List HostEvent) (host : HostState)
    (s : IsSoundExchange holdings settings events p host_events host) where
  abbrev all : List Apdu
  all = replies_to holdings (requests p.settings p.log)

  -- if a Close is owed, all other replies are owed before a Close
  closes : (c : Close) → Contains all (apdus.Close c)
      → (d : Close) × (others : List Apdu) × (all ≡ others ++ apdus.Close d ∷ [])
  closes c i =
      laws.owes_close holdings.databases holdings.settings p.settings p.log
      (conversation holdings settings events p host_events host s)
      (close_is holdings settings events p host_events host s c i).0

  -- no Close is owed before another
  one_close : (c d : Close) (before behind : List Apdu) → all ≡ before ++ behind → IsIn (apdus.Close c) before
      → IsIn (apdus.Close d) behind
      → Contains all (apdus.Close c) → Contains all (apdus.Close d) → ⊥
  one_close c d before behind e i j there too =
      laws.apart holdings.databases holdings.settings p.settings p.log before behind (apdus.Close c) (apdus.Close d)
      (subst (λ z. IsPermutation all z) e (IsPermutation-refl all))
      (contained (apdus.Close c) before i) (contained (apdus.Close d) behind j)
      ((close_is holdings settings events p host_events host s c there).1
      ∙ sym (close_is holdings settings events p host_events host s d too).1)

  last_there : (others : List Apdu) (d : Close) → all ≡ others ++ apdus.Close d ∷ [] → Contains all (apdus.Close d)
  last_there others d e = subst (λ z. Contains z (apdus.Close d)) (sym e) (Contains-push others (apdus.Close d))

  -- ---- pending replies

  ordered : IsPart host.target.pending all
  ordered =
      let more = more_owed holdings settings events p host_events host s in
      subst (λ z. IsPart host.target.pending z) (sym more.1)
      (subst (λ z. IsPart z (replies_to holdings s.served.served.received ++ more.0)) (sym s.served.pending)
      (part_front s.served.served.pending (replies_to holdings s.served.served.received) more.0
      (in_order holdings host_events s.served.served s.served.happened)))

  not_before : (c : Close) (w : Apdu) (vs : List Apdu) → host.target.pending ≡ apdus.Close c ∷ w ∷ vs → ⊥
  not_before c w vs is =
      let there : Contains all (apdus.Close c) =
      pending_owed holdings settings events p host_events host s (apdus.Close c)
      (subst (λ z. Contains z (apdus.Close c)) (sym is)
      (contained (apdus.Close c) (apdus.Close c ∷ w ∷ vs) (inl refl))) in
      let o = closes c there in
      let i : IsIn (apdus.Close c) o.1 =
      before_last (apdus.Close c) w (apdus.Close o.0) vs o.1
      (subst (λ z. IsPart (apdus.Close c ∷ w ∷ vs) z) o.2 (subst (λ z. IsPart z all) is ordered)) in
      one_close c o.0 o.1 (apdus.Close o.0 ∷ []) o.2 i (inl refl) there (last_there o.1 o.0 o.2)

  none_pending : (vs : List Apdu) → host.target.pending ≡ vs → may_release vs 0 ≡ false → host.target.pending ≡ []
  none_pending [] is e = is
  none_pending (v ∷ []) is e = absurd (true≢false (sym (or_right (not (is_close v)) true refl) ∙ e))
  none_pending (v ∷ w ∷ vs) is e = by (kind_of v)
    where
      by : (is_close v ≡ false) ⊎ ((c : Close) × (v ≡ apdus.Close c)) → host.target.pending ≡ []
      by (inl f) = absurd (true≢false (ap (λ b. not b || (length (v ∷ w ∷ vs) == 1)) (sym f) ∙ e))
      by (inr c) = absurd (not_before c.0 w vs (is ∙ ap (λ z. z ∷ w ∷ vs) c.1))

  -- ---- when the connection is over

  -- each owed reply was sent and taken
  record HasAll : Type 0 where
    put : IsPermutation all s.served.served.sent
    none : s.coming ≡ []

  -- the target's Close was taken
  closed_all : (past_of p).closed ≡ true → HasAll
  closed_all e =
      let g = closed_got p.settings p.log e in
      let c = g.0 in
      let there = got_owed holdings settings events p host_events host s (apdus.Close c) g.1 in
      let f = followed holdings host_events s.served.served s.served.happened (got_in p.log) s.coming c s.got
      (among (apdus.Close c) (got_in p.log) g.1) in
      let more = more_owed holdings settings events p host_events host s in
      let cut : all ≡ f.before ++ (f.behind ++ more.0) =
      more.1 ∙ ap (λ z. z ++ more.0) f.is ∙ append_assoc f.before f.behind more.0 in
      let o = closes c there in
      by c f more cut there o (last_in (apdus.Close o.0) f.before (f.behind ++ more.0) o.1 (sym cut ∙ o.2))
    where
      by : (c : Close)
          (f : Follows (replies_to holdings s.served.served.received) c s.coming s.served.served.pending)
          (more : (zs : List Apdu) × (all ≡ replies_to holdings s.served.served.received ++ zs))
          → all ≡ f.before ++ (f.behind ++ more.0) → Contains all (apdus.Close c)
          → (o : (d : Close) × (others : List Apdu) × (all ≡ others ++ apdus.Close d ∷ []))
          → (f.behind ++ more.0 ≡ []) ⊎ IsIn (apdus.Close o.0) (f.behind ++ more.0) → HasAll
      by c f more cut there o (inr i) =
          absurd (one_close c o.0 f.before (f.behind ++ more.0) cut f.among i there (last_there o.1 o.0 o.2))
      by c f more cut there o (inl none) =
          let behind : f.behind ≡ [] = left_none f.behind more.0 none in
          let later : more.0 ≡ [] = right_none f.behind more.0 none in
          let received = replies_to holdings s.served.served.received in
          let same : all ≡ received = more.1 ∙ ap (λ z. received ++ z) later ∙ append-nil received in
          let pending : host.target.pending ≡ [] =
          s.served.pending ∙ part_none s.served.served.pending
          (subst (λ z. IsPart s.served.served.pending z) behind f.left) in
          let put : IsPermutation received s.served.served.sent =
          subst (λ z. IsPermutation received z)
          (ap (λ z. s.served.served.sent ++ z) pending ∙ append-nil s.served.served.sent)
          (permuted holdings settings events p host_events host s) in
          record {
            put = subst (λ z. IsPermutation z s.served.served.sent) (sym same) put;
            none = none_in_none s.coming (λ v i. subst (IsIn v) behind (f.late v i));
          }

  -- only Init was sent
  rejected_all : (a : Answer) → opening (past_of p) ≡ Some a → Rejects a.reply → HasAll
  rejected_all a o r =
      let found = found_in (past_of p).accepted a o in
      let there = contained a (past_of p).accepted found.0 in
      let i = accepted_so p.settings p.log a there in
      let v = rejecting a.asked.what a.reply found.1 i.fits r in
      let k = conversation holdings settings events p host_events host s in
      let d = conversing.due holdings.databases holdings.settings p.settings p.log a.reply (k.owed a there) in
      let m = conversing.init_sent holdings.settings d.request v.0
      (subst (owing.Replies holdings.settings d.request) v.1 d.replies) in
      let taken = laws.taken holdings.databases holdings.settings p.settings p.log k in
      let asks = requests p.settings p.log in
      let alone : asks ≡ apdus.InitRequest m.0 ∷ [] =
      owing.refused_alone holdings.settings holdings.databases asks taken m.0
      (subst (λ z. IsIn z asks) m.1 d.received) (sym m.2 ∙ v.2) in
      let put = due holdings settings events p host_events host s in
      let got : IsIn a.reply (got_in p.log) = among a.reply (got_in p.log) (accepted_got p.settings p.log a i) in
      let some = some_in a.reply (got_in p.log) got in
      let one : length asks ≡ 1 = ap length alone in
      let few = few_replies holdings.databases holdings.settings asks in
      let moved = length_permutation all (s.served.served.sent ++ put.0) put.1 in
      let parts = length-append s.served.served.sent put.0 in
      let came : length s.served.served.sent ≡ length (got_in p.log) + length s.coming =
      ap length s.got ∙ length-append (got_in p.log) s.coming in
      let left : put.0 ≡ [] = nil_from_length put.0 (omega (arith, one, few, moved, parts, came, some)) in
      record {
        put = subst (λ z. IsPermutation all z)
            (ap (λ z. s.served.served.sent ++ z) left ∙ append-nil s.served.served.sent) put.1;
        none = nil_from_length s.coming (omega (arith, one, few, moved, parts, came, some));
      }
    where
      some_in : (x : Apdu) (xs : List Apdu) → IsIn x xs → 1 ≤ length xs
      some_in x [] i = absurd i
      some_in x (y ∷ xs) i = omega arith

  has_all : is_stopped (state_at p) ≡ true → HasAll
  has_all e =
      let r = past_of p in
      by (stopped_so r.fault r.closed (list_any is_close_call r.admitted) (list_any is_init_call r.admitted)
      (opening r) s.sound (ap is_stopped (sym (stands holdings settings events p host_events host s)) ∙ e))
    where
      by : ((past_of p).closed ≡ true) ⊎ ((a : Answer) × (opening (past_of p) ≡ Some a) × Rejects a.reply) → HasAll
      by (inl c) = closed_all c
      by (inr x) = rejected_all x.0 x.1 x.2

  -- nothing is behind it
  all_came : HasAll → p.stream ≡ flat_map encoding_of s.served.served.sent
  all_came h =
      let r = rest_behind settings events p s.transcript s.goes in
      let more = s.from ++ host.waiting in
      let c = coming_is holdings settings events p host_events host s r.0 r.1 in
      let none : more ≡ [] = right_none r.0 more (c.are ∙ ap (λ z. flat_map encoding_of z) h.none) in
      sym (append-nil p.stream) ∙ ap (λ z. p.stream ++ z) (sym none)
      ∙ left_of (handed_out host_events) p.stream s.from host.waiting (flat_map encoding_of s.served.served.sent) s.comes
      s.served.waiting

pub empty : AccordLaws → EmptyLaw
empty laws holdings settings events p host_events host s e =
    none_pending laws holdings settings events p host_events host s host.target.pending refl e

pub over : AccordLaws → OverLaw
over laws holdings settings events p host_events host s e =
    let h = has_all laws holdings settings events p host_events host s e in
    (h.put, all_came laws holdings settings events p host_events host s h)
