-- The calls of an errand: what its searches ask for, and which positions its Presents do.
use Rattle.std.proofs.Common.{◌≡◌, ◌⊎◌, inl, inr, ℕ, ◌*◌, Bool, true, false, cond, List, [], ◌∷◌, ◌++◌, map, drop, reverse, Option, None, Some, refl, sym, ap, subst, ◌∙◌}
use Rattle.std.specs.Prelude.{nat_eq, nat_le}
use Rattle.std.specs.List.{flat_map, AllByRecursion}
use Rattle.zplan.specs.Plan.{Present, Replies, IsPlanned, cut, rest}
use Rattle.zplan.specs.Positions.{IsIn, up_to, cut_of, join_or_start, is_followed, runs, presents}
use Rattle.zapdu.specs.declared.apdu.Apdu.{Apdu}
use Rattle.zapdu.specs.declared.apdu.Apdu.TheVariants as apdus
use Rattle.zorigin.specs.declared.settings.Ask.{Ask}
use Rattle.zorigin.specs.declared.settings.Settings.{Settings}
use Rattle.zorigin.specs.declared.state.Searched.{Searched}
use Rattle.zorigin.specs.declared.answer.Answer.{Answer}
use Rattle.zorigin.specs.declared.refusal.CallRefused.{CallRefused}
use Rattle.zorigin.specs.Changes.{unanswered}
use Rattle.zorigin.specs.Standings as calls
use Rattle.zorigin.specs.Standings.{Call, Standing, search_of}
use Rattle.zorigin.specs.Sending.{init_value, search_value}
use Rattle.zorigin.specs.Calls.{refusal}
use Rattle.zorigin.specs.Replies.{verdict}
use Rattle.zorigin.specs.Log.{Log, Made, Got, Past, past, standing, search_in, by_set, with_outcome, admit_unless}
use Rattle.zorigin.proofs.Members.{of_filter}
use Rattle.zorigin.proofs.Orderly.{sent_request}
use Rattle.zoom_pool.specs.Steering.{Errand, IsCallOf, IsSteered, IsSteeredCall}
use Rattle.zoom_laws.specs.Accord.{requests}
use Rattle.zoom_laws.proofs.AccordTheory.Requests.{same_verdict}
use Rattle.zoom_laws.proofs.ScheduleTheory.Complete.{same_admitted}
use Rattle.zoom_laws.proofs.LengthTheory.Records.{of_take, of_drop}
use Rattle.zoom_laws.proofs.CatalogueTheory.Sent.{one_more, IsRequest, is_request}

-- ---- the positions of a Present that is planned are wanted

of_join : (b : Bool) (p : ℕ) (ls : List (List ℕ)) (l : List ℕ) (x : ℕ) → IsIn l (join_or_start b p ls) → IsIn x l
    → (x ≡ p) ⊎ ((m : List ℕ) × IsIn m ls × IsIn x m)
of_join b p [] l x (inl e) i = first (subst (IsIn x) e i)
  where
    first : IsIn x (p ∷ []) → (x ≡ p) ⊎ ((m : List ℕ) × IsIn m [] × IsIn x m)
    first (inl is) = inl is
    first (inr j) = absurd j
of_join b p [] l x (inr j) i = absurd j
of_join false p (m ∷ ls) l x (inl e) i = first (subst (IsIn x) e i)
  where
    first : IsIn x (p ∷ []) → (x ≡ p) ⊎ ((n : List ℕ) × IsIn n (m ∷ ls) × IsIn x n)
    first (inl is) = inl is
    first (inr j) = absurd j
of_join false p (m ∷ ls) l x (inr j) i = inr (l, j, i)
of_join true p (m ∷ ls) l x (inl e) i = first (subst (IsIn x) e i)
  where
    first : IsIn x (p ∷ m) → (x ≡ p) ⊎ ((n : List ℕ) × IsIn n (m ∷ ls) × IsIn x n)
    first (inl is) = inl is
    first (inr j) = inr (m, inl refl, j)
of_join true p (m ∷ ls) l x (inr j) i = inr (l, inr j, i)

of_runs : (ps l : List ℕ) (x : ℕ) → IsIn l (runs ps) → IsIn x l → IsIn x ps
of_runs [] l x i j = absurd i
of_runs (p ∷ ps) l x i j =
    let more = λ (m : List ℕ) (k : IsIn m (runs ps)) (n : IsIn x m). of_runs ps m x k n in
    elim (of_join (is_followed p ps) p (runs ps) l x i j) [ inl e ↦ inl e | inr m ↦ inr (more m.0 m.1 m.2) ]

of_presents : (three : Bool) (ps l : List ℕ) (x : ℕ) → IsIn l (presents three ps) → IsIn x l → IsIn x ps
of_presents true ps l x (inl e) j = subst (IsIn x) e j
of_presents true ps l x (inr i) j = absurd i
of_presents false ps l x i j = of_runs ps l x i j

pub planned_wanted : (wanted : List ℕ) (step : ℕ) (replies : Replies) (l : List ℕ) (x : ℕ)
    → IsPlanned wanted step replies (Present l) → IsIn x l → IsIn x wanted
planned_wanted wanted step replies l x (cut three count i m a opened found lt among) j =
    of_filter (λ n. nat_le n count) wanted x
    (of_drop (i * step) (up_to count wanted) x
    (of_take step (drop (i * step) (up_to count wanted)) x
    (of_presents three (cut_of step (up_to count wanted) i) l x among j)))
planned_wanted wanted step replies l x (rest m k a answered lo hi) j =
    planned_wanted wanted step replies m x a (of_drop k m x j)

-- ---- the requests

-- if the request is Init, it is that of some origin; if it is a search, it asks for this
abbrev pub IsRequestFor : Ask → Apdu → Type 0
IsRequestFor ask (apdus.InitRequest r) = (settings : Settings) × (r ≡ init_value settings)
IsRequestFor ask (apdus.SearchRequest r) = (named : Bool) × (op : ℕ) × (set : ℕ) × (r ≡ search_value named op set ask)
IsRequestFor ask _ = Unit {0}

pub for_ask : (e : Errand) (s : Standing) (call : Call) (v : Apdu) → IsRequest s call v → IsCallOf e call
    → IsRequestFor e.ask v
for_ask e s calls.Init v is of = subst (IsRequestFor e.ask) (sym is) (s.settings, refl)
for_ask e s (calls.Search op set ask) v is of =
    subst (IsRequestFor e.ask) (sym is) (s.force.named, op, set, ap (search_value s.force.named op set) of.1)
for_ask e s (calls.Present op set ranges) v is of = subst (IsRequestFor e.ask) (sym is.5) tt
for_ask e s calls.Close v is of = subst (IsRequestFor e.ask) (sym is) tt

pub all_for : (e : Errand) (settings : Settings) (log : Log) → IsSteered e settings log
    → AllByRecursion (IsRequestFor e.ask) (requests settings log)
all_for e settings [] s = tt
all_for e settings (Made call ∷ log) s =
    by (refusal (standing (past settings log)) call) refl s.0 (all_for e settings log s.1)
  where
    p : Past
    p = past settings log

    by : (r : Option CallRefused) → refusal (standing p) call ≡ r → IsSteeredCall e settings log r call
        → AllByRecursion (IsRequestFor e.ask) (requests settings log)
        → AllByRecursion (IsRequestFor e.ask) (reverse (admit_unless p call r).sent)
    by (Some reason) is c old = old
    by None is c old =
        let sends = sent_request (standing p) call is in
        let v = sends.request in
        subst (AllByRecursion (IsRequestFor e.ask)) (sym (one_more p call v sends.made))
        (for_ask e (standing p) call v (is_request (standing p) call v sends.made) c.0.of, old)
all_for e settings (Got reply ∷ log) s =
    let p = past settings log in
    subst (λ l. AllByRecursion (IsRequestFor e.ask) (reverse l)) (sym ((same_verdict p (verdict (standing p) reply)).1))
    (all_for e settings log s)

-- ---- the searches

all_last : (P : Call → Type 0) (xs : List Call) (x : Call) → AllByRecursion P xs → P x → AllByRecursion P (xs ++ x ∷ [])
all_last P [] x h p = (p, tt)
all_last P (y ∷ xs) x h p = (h.0, all_last P xs x h.1 p)

all_calls : (e : Errand) (settings : Settings) (log : Log) → IsSteered e settings log
    → AllByRecursion (IsCallOf e) (past settings log).admitted
all_calls e settings [] s = tt
all_calls e settings (Made call ∷ log) s =
    made (refusal (standing (past settings log)) call) s.0 (all_calls e settings log s.1)
  where
    made : (r : Option CallRefused) → IsSteeredCall e settings log r call
        → AllByRecursion (IsCallOf e) (past settings log).admitted
        → AllByRecursion (IsCallOf e) (admit_unless (past settings log) call r).admitted
    made (Some reason) c old = old
    made None c old = all_last (IsCallOf e) (past settings log).admitted call old c.0.of
all_calls e settings (Got reply ∷ log) s =
    subst (AllByRecursion (IsCallOf e))
    (sym (same_admitted (past settings log) (verdict (standing (past settings log)) reply)))
    (all_calls e settings log s)

-- the search of a set is the errand's
looked : (e : Errand) (acc : List Answer) (admitted : List Call) (set : ℕ) (s : Searched)
    → AllByRecursion (IsCallOf e) admitted
    → search_of (map by_set (map (with_outcome acc) (flat_map search_in admitted))) set ≡ Some s
    → s.syntax ≡ e.ask.syntax
looked e acc [] set s a h = absurd cc
looked e acc (calls.Init ∷ admitted) set s a h = looked e acc admitted set s a.1 h
looked e acc (calls.Search op number ask ∷ admitted) set s a h =
    let more = looked e acc admitted set s a.1 in
    let this = with_outcome acc (unanswered op number ask) in
    elim (nat_eq set number) as (λ b. cond b (Some this)
    (search_of (map by_set (map (with_outcome acc) (flat_map search_in admitted))) set) ≡ Some s
    → s.syntax ≡ e.ask.syntax) [
      | true ↦ λ g. let same : this ≡ s = cc in
          sym (ap (λ (z : Searched). z.syntax) same) ∙ ap (λ (z : Ask). z.syntax) a.0.1
      | false ↦ λ g. more g
    ] h
looked e acc (calls.Present op number ranges ∷ admitted) set s a h = looked e acc admitted set s a.1 h
looked e acc (calls.Close ∷ admitted) set s a h = looked e acc admitted set s a.1 h

pub searched_syntax : (e : Errand) (settings : Settings) (log : Log) (set : ℕ) (s : Searched) → IsSteered e settings log
    → search_of (standing (past settings log)).searches set ≡ Some s → s.syntax ≡ e.ask.syntax
searched_syntax e settings log set s steered h =
    looked e (past settings log).accepted (past settings log).admitted set s (all_calls e settings log steered) h
