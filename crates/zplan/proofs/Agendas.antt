-- An agenda has exactly what is due and what waits, whatever happens to the connection.
use Rattle.std.proofs.Common.{◌≡◌, ◌⊎◌, inl, inr, ℕ, suc, ◌+◌, ◌<◌, ◌≤◌, Bool, true, false, cond, not, ◌==◌, List, [], ◌∷◌, ◌++◌, length, drop, Option, None, Some, refl, sym, ap, subst, ◌∙◌, arith, true≢false}
use Rattle.std.proofs.lemmas.Bool.Decides.{nat_tests}
use Rattle.std.proofs.lemmas.Bool.{cases_order}
use Rattle.std.specs.Prelude.{◌&&◌, map, nat_lt}
use Rattle.std.specs.List.{concat}
use Rattle.zplan.specs.Positions.{up_to, first_of, IsIn, IsFrom, AreAscending, IsWanted}
use Rattle.zplan.specs.Plan.{Operation, Init, Search, Present, Reply, InitReply, SearchReply, PresentReply, Replies, IsPlanned, cut, rest, IsMadeDue, new_cut, new_rest, same, PlanEvent, RequestSent, ReplyAccepted, CloseSent, replies_in, asked_in, IsDue, IsDriven, outstanding_in, start_of, IsNextEvent}
use Rattle.zplan.specs.Cutting.{deal}
use Rattle.zplan.specs.Agenda.{Agenda, put_list, without_start, with_rest, IsAgenda, SameAgenda, AfterNoteSent, AfterNoteAnswered}
use Rattle.zplan.proofs.Cuts.{concat_deal, cut_dealt, dealt_cut, some_deal, wanted_ascend, AllSome, from_less}
use Rattle.zplan.proofs.Ends.{from_in, ascends_right}
use Rattle.zplan.proofs.Order.{asked_more, received_extends, sent_asked, answered_sent, asked_after, new_asked, same_is, same_self}
use Rattle.zplan.proofs.Asking.{number_one, rest_unasked, present_found, new_unasked}

abbrev list_in : Operation → List ℕ
list_in Init = []
list_in Search = []
list_in (Present l) = l

from_right : (low : ℕ) (xs ys : List ℕ) → IsFrom low (xs ++ ys) → IsFrom low ys
from_right low [] ys h = h
from_right low (x ∷ xs) ys h = from_right low xs ys h.1

firsts_from : (low : ℕ) (ls : List (List ℕ)) → AllSome ls → IsFrom low (concat ls) → IsFrom low (map first_of ls)
firsts_from low [] s h = tt
firsts_from low ([] ∷ ls) s h = absurd (let z : 0 < 0 = s.0 in omega arith)
firsts_from low ((p ∷ ps) ∷ ls) s h = (h.0, firsts_from low ls s.1 (from_right low ps (concat ls) h.1))

firsts_ascend : (ls : List (List ℕ)) → AllSome ls → AreAscending (concat ls) → AreAscending (map first_of ls)
firsts_ascend [] s h = tt
firsts_ascend ([] ∷ ls) s h = absurd (let z : 0 < 0 = s.0 in omega arith)
firsts_ascend ((p ∷ ps) ∷ ls) s h = (
  firsts_from (p + 1) ls s.1 (from_right (p + 1) ps (concat ls) h.0),
  firsts_ascend ls s.1 (ascends_right ps (concat ls) h.1),
)

-- ---- a list among those in order

from_put : (low : ℕ) (r : List ℕ) (ms : List (List ℕ)) → low ≤ first_of r → IsFrom low (map first_of ms) → IsFrom low (map first_of (put_list r ms))
from_put low r [] b h = (b, tt)
from_put low r (m ∷ ms) b h =
    let later = from_put low r ms b h.1 in
    elim (nat_lt (first_of r) (first_of m)) as (λ t. IsFrom low (map first_of (cond t (r ∷ m ∷ ms) (m ∷ put_list r ms)))) [ true ↦ (b, h) | false ↦ (h.0, later) ]

ascends_put : (r : List ℕ) (ms : List (List ℕ)) → AreAscending (map first_of ms) → ((m : List ℕ) → IsIn m ms → first_of m ≡ first_of r → ⊥) → AreAscending (map first_of (put_list r ms))
ascends_put r [] a n = (tt, tt)
ascends_put r (m ∷ ms) a n =
    let later = ascends_put r ms a.1 (λ x i. n x (inr i)) in
    let apart = n m (inl refl) in
    elim (nat_lt (first_of r) (first_of m)) as (λ t. nat_lt (first_of r) (first_of m) ≡ t → AreAscending (map first_of (cond t (r ∷ m ∷ ms) (m ∷ put_list r ms)))) [
      | true ↦ λ e. let lt : first_of r < first_of m = grind (arith, nat_tests) in
          ((omega arith, from_less (first_of r + 1) (first_of m + 1) (map first_of ms) (omega arith) a.0), a)
      | false ↦ λ e. let ge : first_of m ≤ first_of r = grind (arith, nat_tests) in
          let lt : first_of m < first_of r = elim (cases_order (first_of m) (first_of r)) [ inl q ↦ absurd (apart q) | inr (inl q) ↦ q | inr (inr q) ↦ absurd (omega arith) ] in
          (from_put (first_of m + 1) r ms (omega arith) a.0, later)
    ] refl

-- a list among those that it was put to is the one that was put, or one of those before
pub in_put : (x r : List ℕ) (ms : List (List ℕ)) → IsIn x (put_list r ms) → (x ≡ r) ⊎ IsIn x ms
in_put x r [] (inl e) = inl e
in_put x r [] (inr i) = absurd i
in_put x r (m ∷ ms) i =
    let later = in_put x r ms in
    elim (nat_lt (first_of r) (first_of m)) as (λ t. IsIn x (cond t (r ∷ m ∷ ms) (m ∷ put_list r ms)) → (x ≡ r) ⊎ IsIn x (m ∷ ms)) [
      | true ↦ λ j. j
      | false ↦ λ j. elim j [ inl e ↦ inr (inl e) | inr k ↦ elim (later k) [ inl e ↦ inl e | inr g ↦ inr (inr g) ] ]
    ] i

put_in : (x r : List ℕ) (ms : List (List ℕ)) → (x ≡ r) ⊎ IsIn x ms → IsIn x (put_list r ms)
put_in x r [] (inl e) = inl e
put_in x r [] (inr i) = absurd i
put_in x r (m ∷ ms) i =
    let later = put_in x r ms in
    elim (nat_lt (first_of r) (first_of m)) as (λ t. IsIn x (cond t (r ∷ m ∷ ms) (m ∷ put_list r ms))) [
      | true ↦ i
      | false ↦ elim i [ inl e ↦ inr (later (inl e)) | inr (inl e) ↦ inl e | inr (inr k) ↦ inr (later (inr k)) ]
    ]

without_in : (p : ℕ) (m : List ℕ) (ls : List (List ℕ)) → IsIn m (without_start p ls) → IsIn m ls × ((first_of m == p) ≡ false)
without_in p m [] i = absurd i
without_in p m (l ∷ ls) i =
    let later = without_in p m ls in
    elim (first_of l == p) as (λ t. (first_of l == p) ≡ t → IsIn m (cond (not t) (l ∷ without_start p ls) (without_start p ls)) → IsIn m (l ∷ ls) × ((first_of m == p) ≡ false)) [
      | true ↦ λ t j. let r = later j in (inr r.0, r.1)
      | false ↦ λ t j. elim j [
        | inl e ↦ (inl e, ap (λ z. first_of z == p) e ∙ t)
        | inr k ↦ let r = later k in (inr r.0, r.1)
      ]
    ] refl i

in_without : (p : ℕ) (m : List ℕ) (ls : List (List ℕ)) → IsIn m ls → (first_of m == p) ≡ false → IsIn m (without_start p ls)
in_without p m [] i n = absurd i
in_without p m (l ∷ ls) i n =
    let later = in_without p m ls in
    elim (first_of l == p) as (λ t. (first_of l == p) ≡ t → IsIn m (cond (not t) (l ∷ without_start p ls) (without_start p ls))) [
      | true ↦ λ t. elim i [ inl e ↦ absurd (true≢false (sym t ∙ ap (λ z. first_of z == p) (sym e) ∙ n)) | inr k ↦ later k n ]
      | false ↦ λ t. elim i [ inl e ↦ inl e | inr k ↦ inr (later k n) ]
    ] refl

first_among : (m : List ℕ) (ls : List (List ℕ)) → IsIn m ls → IsIn (first_of m) (map first_of ls)
first_among m [] i = absurd i
first_among m (x ∷ ls) (inl e) = inl (ap first_of e)
first_among m (x ∷ ls) (inr i) = inr (first_among m ls i)

from_others : (low p : ℕ) (ls : List (List ℕ)) → IsFrom low (map first_of ls) → IsFrom low (map first_of (without_start p ls))
from_others low p [] h = tt
from_others low p (l ∷ ls) h =
    let later = from_others low p ls h.1 in
    elim (first_of l == p) as (λ t. IsFrom low (map first_of (cond (not t) (l ∷ without_start p ls) (without_start p ls)))) [ true ↦ later | false ↦ (h.0, later) ]

ascends_others : (p : ℕ) (ls : List (List ℕ)) → AreAscending (map first_of ls) → AreAscending (map first_of (without_start p ls))
ascends_others p [] h = tt
ascends_others p (l ∷ ls) h =
    let later = ascends_others p ls h.1 in
    elim (first_of l == p) as (λ t. AreAscending (map first_of (cond (not t) (l ∷ without_start p ls) (without_start p ls)))) [
      | true ↦ later
      | false ↦ (from_others (first_of l + 1) p ls h.0, later)
    ]

module _ (wanted : List ℕ) (last : ℕ) (w : IsWanted wanted) where
  -- What is due after a reply: what was due, and what the reply makes due.
  due_after : (events : List PlanEvent) → IsDriven wanted (suc last) events → (a : Operation) (r : Reply) → IsIn a (asked_in events) → replies_in events a ≡ None
      → (b : Operation) → IsDue wanted (suc last) (ReplyAccepted a r ∷ events) b → IsDue wanted (suc last) events b ⊎ IsMadeDue wanted (suc last) (replies_in events) a r b
  due_after events d a r s none b h = elim (asked_after wanted (suc last) events d a r b s none h.0) [ inl i ↦ inl (i, h.1) | inr n ↦ inr n ]

  due_still : (events : List PlanEvent) (a : Operation) (r : Reply) → replies_in events a ≡ None → (b : Operation) → IsDue wanted (suc last) events b → IsDue wanted (suc last) (ReplyAccepted a r ∷ events) b
  due_still events a r none b h = (asked_more wanted (suc last) (replies_in events) (replies_in (ReplyAccepted a r ∷ events)) (received_extends wanted (suc last) a r events none) b h.0, h.1)

  due_new : (events : List PlanEvent) → IsDriven wanted (suc last) events → (a : Operation) (r : Reply) → IsIn a (asked_in events) → replies_in events a ≡ None
      → (b : Operation) → IsMadeDue wanted (suc last) (replies_in events) a r b → IsDue wanted (suc last) (ReplyAccepted a r ∷ events) b
  due_new events d a r s none b n = (
    new_asked wanted (suc last) events d a r b s none n,
    λ i. new_unasked wanted last (replies_in events) w a r b (sent_asked wanted (suc last) events d a s) none n (sent_asked wanted (suc last) events d b i),
  )

  -- before the count is known nothing is due, and nothing waits
  pub idle : (three : Bool) (events : List PlanEvent) → IsDriven wanted (suc last) events → ((count : ℕ) → replies_in events Search ≡ Some (SearchReply (Some count)) → ⊥)
      → IsAgenda wanted (suc last) events (record { due = []; waiting = []; ready = false; three = three })
  idle three events d none =
      let nothing = λ (l : List ℕ) (h : IsPlanned wanted (suc last) (replies_in events) (Present l)).
      let f = present_found wanted (suc last) (replies_in events) l h in let r : ⊥ = none f.0 f.1 in r in
      record {
        only = λ l i. absurd i;
        all = λ l h. absurd (nothing l h.0);
        ascends = tt;
        asked = λ l i. absurd i;
        unanswered = λ l i. absurd i;
        waits = λ l i e. absurd (nothing l (sent_asked wanted (suc last) events d (Present l) i));
        in_order = tt;
      }

  new_count : (three : Bool) (replies : Replies) (l : List ℕ) (count : ℕ) → replies Init ≡ Some (InitReply true three)
      → IsMadeDue wanted (suc last) replies Search (SearchReply (Some count)) (Present l) → IsIn l (deal three last last (up_to count wanted))
  new_count three replies l count o (new_cut t c j m g lt y) =
      let e : t ≡ three = let z : Some (InitReply true t) ≡ Some (InitReply true three) = sym g ∙ o in cc in
      subst (λ b. IsIn l (deal b last last (up_to count wanted))) e (cut_dealt t last j (up_to count wanted) l lt y)

  -- the count: all that is to be asked for the first time
  pub starts : (three : Bool) (events : List PlanEvent) (count : ℕ) → IsDriven wanted (suc last) events → IsIn Search (asked_in events) → replies_in events Search ≡ None
      → replies_in events Init ≡ Some (InitReply true three)
      → IsAgenda wanted (suc last) (ReplyAccepted Search (SearchReply (Some count)) ∷ events) (record { due = deal three last last (up_to count wanted); waiting = []; ready = false; three = three })
  starts three events count d s none o =
      let nothing = λ (l : List ℕ) (h : IsPlanned wanted (suc last) (replies_in events) (Present l)).
      let f = present_found wanted (suc last) (replies_in events) l h in let r : ⊥ = absurd (let z : None ≡ Some (SearchReply (Some f.0)) = sym none ∙ f.1 in cc) in r in
      let all : List (List ℕ) = deal three last last (up_to count wanted) in
      record {
        only = λ l i. let c = dealt_cut three last (length (up_to count wanted)) (up_to count wanted) l (omega arith) i in
            due_new events d Search (SearchReply (Some count)) s none (Present l) (new_cut three count c.0 l o c.1 c.2);
        all = λ l h. elim (due_after events d Search (SearchReply (Some count)) s none (Present l) h) [
          | inl i ↦ absurd (nothing l i.0)
          | inr n ↦ new_count three (replies_in events) l count o n
        ];
        ascends = firsts_ascend all (some_deal three last last (up_to count wanted)) (subst AreAscending (sym (concat_deal three last last (up_to count wanted))) (wanted_ascend count wanted w).1);
        asked = λ l i. absurd i;
        unanswered = λ l i. absurd i;
        waits = λ l i e. absurd (nothing l (sent_asked wanted (suc last) events d (Present l) i));
        in_order = tt;
      }

  -- what was not asked has no reply
  unanswered_unasked : (events : List PlanEvent) → IsDriven wanted (suc last) events → (a : Operation) → (IsIn a (asked_in events) → ⊥) → replies_in events a ≡ None
  unanswered_unasked events d a n = go (replies_in events a) refl
    where
      go : (o : Option Reply) → replies_in events a ≡ o → o ≡ None
      go None e = refl
      go (Some r) e = absurd (n (answered_sent wanted (suc last) events d a r e))

  -- the Present of what stands first is sent
  pub sends : (events : List PlanEvent) (a b : Agenda) → IsDriven wanted (suc last) events → IsAgenda wanted (suc last) events a → (s : AfterNoteSent a b)
      → IsAgenda wanted (suc last) (RequestSent (Present s.list) ∷ events) b
  sends events a b d h s =
      let l : List ℕ = s.list in
      let up : AreAscending (map first_of (l ∷ b.due)) = subst (λ z. AreAscending (map first_of z)) s.due h.ascends in
      let first = h.only l (subst (IsIn l) (sym s.due) (inl refl)) in
      record {
        only = λ m i. let g = h.only m (subst (IsIn m) (sym s.due) (inr i)) in (
          g.0,
          λ j. elim j [
            | inl e ↦ let f : first_of m ≡ first_of l = ap (λ z. first_of (list_in z)) e in
                let k = from_in (first_of l + 1) (map first_of b.due) (first_of m) up.0 (first_among m b.due i) in absurd (omega (arith, k, f))
            | inr k ↦ g.1 k
          ],
        );
        all = λ m g. elim (subst (IsIn m) s.due (h.all m (g.0, λ j. g.1 (inr j)))) [ inl e ↦ absurd (g.1 (inl (ap Present e))) | inr i ↦ i ];
        ascends = up.1;
        asked = λ m i. elim (in_put m l a.waiting (subst (IsIn m) s.waiting i)) [ inl e ↦ inl (ap Present e) | inr j ↦ inr (h.asked m j) ];
        unanswered = λ m i. elim (in_put m l a.waiting (subst (IsIn m) s.waiting i)) [
          | inl e ↦ subst (λ z. replies_in events (Present z) ≡ None) (sym e) (unanswered_unasked events d (Present l) first.1)
          | inr j ↦ h.unanswered m j
        ];
        waits = λ m i e. subst (IsIn m) (sym s.waiting) (put_in m l a.waiting (elim i [ inl f ↦ inl (ap list_in f) | inr j ↦ inr (h.waits m j e) ]));
        in_order = subst (λ z. AreAscending (map first_of z)) (sym s.waiting) (ascends_put l a.waiting h.in_order (λ m i f.
            let j = h.asked m i in
            let e : Present m ≡ Present l = number_one wanted last (replies_in events) w (Present m) (Present l) (sent_asked wanted (suc last) events d (Present m) j) first.0 (ap (λ z. z + 1) f) in
            first.1 (subst (λ z. IsIn z (asked_in events)) e j)));
      }

  new_left : (replies : Replies) (l m : List ℕ) (k : ℕ) → IsMadeDue wanted (suc last) replies (Present l) (PresentReply k) (Present m) → (0 < k) × (k < length l) × (m ≡ drop k l)
  new_left replies l m k (new_rest x y lo hi) = (lo, hi, refl)

  in_rest : (x l : List ℕ) (k : ℕ) (due : List (List ℕ)) → IsIn x (with_rest l k due) → ((0 < k) × (k < length l) × (x ≡ drop k l)) ⊎ IsIn x due
  in_rest x l k due i =
      elim (nat_lt 0 k && nat_lt k (length l)) as (λ t. (nat_lt 0 k && nat_lt k (length l)) ≡ t → IsIn x (cond t (put_list (drop k l) due) due)
      → ((0 < k) × (k < length l) × (x ≡ drop k l)) ⊎ IsIn x due) [
        | true ↦ λ t j. let lo : 0 < k = grind (arith, nat_tests) in let hi : k < length l = grind (arith, nat_tests) in
            elim (in_put x (drop k l) due j) [ inl e ↦ inl (lo, hi, e) | inr g ↦ inr g ]
        | false ↦ λ t j. inr j
      ] refl i

  rest_in : (x l : List ℕ) (k : ℕ) (due : List (List ℕ)) → ((0 < k) × (k < length l) × (x ≡ drop k l)) ⊎ IsIn x due → IsIn x (with_rest l k due)
  rest_in x l k due i =
      elim (nat_lt 0 k && nat_lt k (length l)) as (λ t. (nat_lt 0 k && nat_lt k (length l)) ≡ t → IsIn x (cond t (put_list (drop k l) due) due)) [
        | true ↦ λ t. put_in x (drop k l) due (elim i [ inl e ↦ inl e.2 | inr g ↦ inr g ])
        | false ↦ λ t. elim i [
          | inl e ↦ absurd (let lo = e.0 in let hi = e.1 in let f : (nat_lt 0 k && nat_lt k (length l)) ≡ true = grind (arith, nat_tests, lo, hi) in true≢false (sym f ∙ t))
          | inr g ↦ g
        ]
      ] refl

  ascends_rest : (l : List ℕ) (k : ℕ) (due : List (List ℕ)) → AreAscending (map first_of due)
      → (0 < k → k < length l → (m : List ℕ) → IsIn m due → first_of m ≡ first_of (drop k l) → ⊥) → AreAscending (map first_of (with_rest l k due))
  ascends_rest l k due a n =
      elim (nat_lt 0 k && nat_lt k (length l)) as (λ t. (nat_lt 0 k && nat_lt k (length l)) ≡ t → AreAscending (map first_of (cond t (put_list (drop k l) due) due))) [
        | true ↦ λ t. let lo : 0 < k = grind (arith, nat_tests) in let hi : k < length l = grind (arith, nat_tests) in ascends_put (drop k l) due a (n lo hi)
        | false ↦ λ t. a
      ] refl

  other_reply : (events : List PlanEvent) (l m : List ℕ) (k : ℕ) → (first_of m == first_of l) ≡ false → replies_in events (Present m) ≡ None
      → replies_in (ReplyAccepted (Present l) (PresentReply k) ∷ events) (Present m) ≡ None
  other_reply events l m k n e =
      elim (same (Present l) (Present m)) as (λ t. same (Present l) (Present m) ≡ t → cond t (Some (PresentReply k)) (replies_in events (Present m)) ≡ None) [
        | true ↦ λ t. let f : first_of l ≡ first_of m = ap (λ z. first_of (list_in z)) (same_is (Present l) (Present m) t) in
            absurd (let g : (first_of m == first_of l) ≡ true = grind (arith, nat_tests) in true≢false (sym g ∙ n))
        | false ↦ λ t. e
      ] refl

  reply_before : (events : List PlanEvent) (l m : List ℕ) (k : ℕ) → replies_in (ReplyAccepted (Present l) (PresentReply k) ∷ events) (Present m) ≡ None
      → (replies_in events (Present m) ≡ None) × ((m ≡ l) → ⊥)
  reply_before events l m k e =
      elim (same (Present l) (Present m)) as (λ t. same (Present l) (Present m) ≡ t → cond t (Some (PresentReply k)) (replies_in events (Present m)) ≡ None
      → (replies_in events (Present m) ≡ None) × ((m ≡ l) → ⊥)) [
        | true ↦ λ t f. absurd (cc)
        | false ↦ λ t f. (f, λ q. true≢false (sym (same_self (Present l)) ∙ ap (λ z. same (Present l) (Present z)) (sym q) ∙ t))
      ] refl e

  -- a list that waits is answered
  pub receives : (events : List PlanEvent) (p k : ℕ) (a b : Agenda) → IsDriven wanted (suc last) events → IsAgenda wanted (suc last) events a → (s : AfterNoteAnswered p k a b)
      → IsAgenda wanted (suc last) (ReplyAccepted (Present s.list) (PresentReply k) ∷ events) b
  receives events p k a b d h s =
      let l : List ℕ = s.list in
      let i = h.asked l s.waited in
      let none = h.unanswered l s.waited in
      let was = sent_asked wanted (suc last) events d (Present l) i in
      let fresh = λ (lo : 0 < k) (hi : k < length l). due_new events d (Present l) (PresentReply k) i none (Present (drop k l)) (new_rest l k lo hi) in
      let apart = λ (lo : 0 < k) (hi : k < length l) (m : List ℕ) (j : IsIn m a.due) (e : first_of m ≡ first_of (drop k l)).
      let g = h.only m j in
      let one : Present m ≡ Present (drop k l) = number_one wanted last (replies_in (ReplyAccepted (Present l) (PresentReply k) ∷ events)) w (Present m) (Present (drop k l))
      (due_still events (Present l) (PresentReply k) none (Present m) g).0 (fresh lo hi).0 (ap (λ z. z + 1) e) in
      rest_unasked wanted last (replies_in events) w l k was none lo hi (subst (IsPlanned wanted (suc last) (replies_in events)) one g.0) in
      record {
        only = λ m j. elim (in_rest m l k a.due (subst (IsIn m) s.due j)) [
          | inl e ↦ subst (λ z. IsDue wanted (suc last) (ReplyAccepted (Present l) (PresentReply k) ∷ events) (Present z)) (sym e.2) (fresh e.0 e.1)
          | inr g ↦ due_still events (Present l) (PresentReply k) none (Present m) (h.only m g)
        ];
        all = λ m g. subst (IsIn m) (sym s.due) (rest_in m l k a.due (elim (due_after events d (Present l) (PresentReply k) i none (Present m) g) [
          | inl j ↦ inr (h.all m j)
          | inr n ↦ inl (new_left (replies_in events) l m k n)
        ]));
        ascends = subst (λ z. AreAscending (map first_of z)) (sym s.due) (ascends_rest l k a.due h.ascends apart);
        asked = λ m j. h.asked m (without_in p m a.waiting (subst (IsIn m) s.waiting j)).0;
        unanswered = λ m j. let r = without_in p m a.waiting (subst (IsIn m) s.waiting j) in
            other_reply events l m k (ap (λ z. first_of m == z) s.begins ∙ r.1) (h.unanswered m r.0);
        waits = λ m j e. let r = reply_before events l m k e in
            let n : (first_of m ≡ first_of l) → ⊥ = λ f.
            r.1 (ap list_in (number_one wanted last (replies_in events) w (Present m) (Present l) (sent_asked wanted (suc last) events d (Present m) j) was (ap (λ z. z + 1) f))) in
            subst (IsIn m) (sym s.waiting) (in_without p m a.waiting (h.waits m j r.0) (ap (λ z. first_of m == z) (sym s.begins) ∙ differs (first_of m) (first_of l) n));
        in_order = subst (λ z. AreAscending (map first_of z)) (sym s.waiting) (ascends_others p a.waiting h.in_order);
      }
    where
      differs : (x y : ℕ) → (x ≡ y → ⊥) → (x == y) ≡ false
      differs x y n = elim (x == y) as (λ t. (x == y) ≡ t → t ≡ false) [ true ↦ λ t. absurd (n (let e : x ≡ y = grind (arith, nat_tests) in e)) | false ↦ λ t. refl ] refl

  -- the same lists are due and wait
  pub stays : (events : List PlanEvent) (a b : Agenda) → IsAgenda wanted (suc last) events a → SameAgenda a b → IsAgenda wanted (suc last) events b
  stays events a b h s = record {
    only = λ l i. h.only l (subst (IsIn l) s.due i);
    all = λ l i. subst (IsIn l) (sym s.due) (h.all l i);
    ascends = subst (λ z. AreAscending (map first_of z)) (sym s.due) h.ascends;
    asked = λ l i. h.asked l (subst (IsIn l) s.waiting i);
    unanswered = λ l i. h.unanswered l (subst (IsIn l) s.waiting i);
    waits = λ l i e. subst (IsIn l) (sym s.waiting) (h.waits l i e);
    in_order = subst (λ z. AreAscending (map first_of z)) (sym s.waiting) h.in_order;
  }

  -- what stands first is due, and nothing that is due begins before it
  least : (events : List PlanEvent) (a : Agenda) (l : List ℕ) (ls : List (List ℕ)) → IsAgenda wanted (suc last) events a → a.due ≡ l ∷ ls
      → IsDue wanted (suc last) events (Present l) × ((m : List ℕ) → IsDue wanted (suc last) events (Present m) → first_of l ≤ first_of m)
  least events a l ls h e =
      let up : AreAscending (map first_of (l ∷ ls)) = subst (λ z. AreAscending (map first_of z)) e h.ascends in (
        h.only l (subst (IsIn l) (sym e) (inl refl)),
        λ m g. elim (subst (IsIn m) e (h.all m g)) [
          | inl i ↦ let n : first_of m ≡ first_of l = ap first_of i in omega (arith, n)
          | inr i ↦ let b = from_in (first_of l + 1) (map first_of ls) (first_of m) up.0 (first_among m ls i) in omega (arith, b)
        ],
      )

  present_opened : (step : ℕ) (replies : Replies) (l : List ℕ) → IsPlanned wanted step replies (Present l) → (t : Bool) × (replies Init ≡ Some (InitReply true t))
  present_opened step replies l (cut t count i m a o h lt x) = (t, o)
  present_opened step replies l (rest m k a h lo hi) = present_opened step replies m a

  -- what stands first is what the driver asks next
  pub head_next : (window : ℕ) (events : List PlanEvent) (a : Agenda) (l : List ℕ) (ls : List (List ℕ)) → IsDriven wanted (suc last) events → IsAgenda wanted (suc last) events a
      → a.due ≡ l ∷ ls → outstanding_in events < window → IsNextEvent wanted (suc last) window events (RequestSent (Present l))
  head_next window events a l ls d h e room =
      let r = least events a l ls h e in
      let o = present_opened (suc last) (replies_in events) l r.0.0 in
      let f = present_found wanted (suc last) (replies_in events) l r.0.0 in
      let opened : IsIn Init (asked_in events) = answered_sent wanted (suc last) events d Init (InitReply true o.0) o.1 in
      let found : IsIn Search (asked_in events) = answered_sent wanted (suc last) events d Search (SearchReply (Some f.0)) f.1 in
      (r.0, room, least_of opened found r.1)
    where
      least_of : IsIn Init (asked_in events) → IsIn Search (asked_in events) → ((m : List ℕ) → IsDue wanted (suc last) events (Present m) → first_of l ≤ first_of m)
          → (b : Operation) → IsDue wanted (suc last) events b → start_of (Present l) ≤ start_of b
      least_of i j g Init x = absurd (x.1 i)
      least_of i j g Search x = absurd (x.1 j)
      least_of i j g (Present m) x = g m x

  -- with the search asked, nothing due and nothing outstanding, it closes
  pub none_next : (window : ℕ) (events : List PlanEvent) (a : Agenda) → IsAgenda wanted (suc last) events a → a.due ≡ []
      → IsIn Init (asked_in events) → IsIn Search (asked_in events) → outstanding_in events ≡ 0 → IsNextEvent wanted (suc last) window events CloseSent
  none_next window events a h e i j none = (nothing, none)
    where
      nothing : (b : Operation) → IsDue wanted (suc last) events b → ⊥
      nothing Init x = x.1 i
      nothing Search x = x.1 j
      nothing (Present m) x = subst (IsIn m) e (h.all m x)
