-- What a target owes to the requests of an origin.
use Rattle.std.proofs.Common.{◌≡◌, List, Option, None, Some, Result, Ok, Err, refl, sym, subst, ◌∙◌}
use Rattle.zapdu.specs.declared.apdu.Apdu.{Apdu}
use Rattle.zapdu.specs.declared.apdu.Apdu.TheVariants as apdus
use Rattle.zapdu.specs.declared.productions.search_request.SearchRequest.{SearchRequest}
use Rattle.zapdu.specs.declared.productions.present_request.PresentRequest.{PresentRequest}
use Rattle.ztarget.specs.declared.database.Database.{Database}
use Rattle.ztarget.specs.declared.settings.TargetSettings.{TargetSettings}
use Rattle.ztarget.specs.declared.error.TargetError.{TargetError}
use Rattle.ztarget.specs.Faults.{Bib1Fault}
use Rattle.ztarget.specs.Searching.{Found}
use Rattle.ztarget.specs.Standing.{Terms, State, Fresh, Open, Ended, NamedSet, Association}
use Rattle.ztarget.specs.Responding.{search_fault}
use Rattle.ztarget.specs.Replies.{OwedReply, owed_to_init, owed_to_search, owed_to_search_unless, owed_to_present, owed_to_close, found_by_query, owed_in_state, owed_in_association, next_association}

-- what a target owes to a request that it took
abbrev pub IsAnswer : List Database → TargetSettings → State → List NamedSet → Apdu → OwedReply → Type 0
IsAnswer databases settings state sets (apdus.InitRequest r) a = (state ≡ Fresh) × (a ≡ owed_to_init settings sets r)
IsAnswer databases settings state sets (apdus.SearchRequest r) a =
    (terms : Terms) × (state ≡ Open terms) × (a ≡ owed_to_search databases terms sets r)
IsAnswer databases settings state sets (apdus.PresentRequest r) a =
    (terms : Terms) × (state ≡ Open terms) × (a ≡ owed_to_present terms sets r)
IsAnswer databases settings state sets (apdus.Close c) a = a ≡ owed_to_close sets c
IsAnswer databases settings state sets _ a = ⊥

abbrev ok : OwedReply → Result OwedReply TargetError
ok a = Ok a

abbrev err : TargetError → Result OwedReply TargetError
err e = Err e

ok_is : (a b : OwedReply) → ok a ≡ ok b → b ≡ a
ok_is a b h = cc

no_ok : (a : OwedReply) (e : TargetError) → err e ≡ ok a → ⊥
no_ok a e h = cc

pub answered : (databases : List Database) (settings : TargetSettings) (state : State) (sets : List NamedSet)
    (v : Apdu) (a : OwedReply)
    → owed_in_state databases settings state sets v ≡ Ok a → IsAnswer databases settings state sets v a
answered databases settings Fresh sets (apdus.InitRequest r) a h = (refl, ok_is (owed_to_init settings sets r) a h)
answered databases settings (Open terms) sets (apdus.InitRequest r) a h = absurd (no_ok a _ h)
answered databases settings Ended sets (apdus.InitRequest r) a h = absurd (no_ok a _ h)
answered databases settings Fresh sets (apdus.SearchRequest r) a h = absurd (no_ok a _ h)
answered databases settings (Open terms) sets (apdus.SearchRequest r) a h =
    (terms, refl, ok_is (owed_to_search databases terms sets r) a h)
answered databases settings Ended sets (apdus.SearchRequest r) a h = absurd (no_ok a _ h)
answered databases settings Fresh sets (apdus.PresentRequest r) a h = absurd (no_ok a _ h)
answered databases settings (Open terms) sets (apdus.PresentRequest r) a h =
    (terms, refl, ok_is (owed_to_present terms sets r) a h)
answered databases settings Ended sets (apdus.PresentRequest r) a h = absurd (no_ok a _ h)
answered databases settings Fresh sets (apdus.Close c) a h = ok_is (owed_to_close sets c) a h
answered databases settings (Open terms) sets (apdus.Close c) a h = ok_is (owed_to_close sets c) a h
answered databases settings Ended sets (apdus.Close c) a h = absurd (no_ok a _ h)
answered databases settings Fresh sets (apdus.InitResponse r) a h = absurd (no_ok a _ h)
answered databases settings (Open terms) sets (apdus.InitResponse r) a h = absurd (no_ok a _ h)
answered databases settings Ended sets (apdus.InitResponse r) a h = absurd (no_ok a _ h)
answered databases settings Fresh sets (apdus.SearchResponse r) a h = absurd (no_ok a _ h)
answered databases settings (Open terms) sets (apdus.SearchResponse r) a h = absurd (no_ok a _ h)
answered databases settings Ended sets (apdus.SearchResponse r) a h = absurd (no_ok a _ h)
answered databases settings Fresh sets (apdus.PresentResponse r) a h = absurd (no_ok a _ h)
answered databases settings (Open terms) sets (apdus.PresentResponse r) a h = absurd (no_ok a _ h)
answered databases settings Ended sets (apdus.PresentResponse r) a h = absurd (no_ok a _ h)

-- ---- the kind of a reply

-- the request that it replies to
abbrev pub Replies : Apdu → Apdu → Type 0
Replies (apdus.InitRequest r) (apdus.InitResponse s) = Unit {0}
Replies (apdus.SearchRequest r) (apdus.SearchResponse s) = Unit {0}
Replies (apdus.PresentRequest r) (apdus.PresentResponse s) = Unit {0}
Replies (apdus.Close r) (apdus.Close s) = Unit {0}
Replies _ _ = ⊥

search_kind : (terms : Terms) (sets : List NamedSet) (r : SearchRequest) (found : List Found) (f : Option Bib1Fault)
    → Replies (apdus.SearchRequest r) (owed_to_search_unless terms sets r found f).reply
search_kind terms sets r found None = tt
search_kind terms sets r found (Some reason) = tt

pub kind : (databases : List Database) (settings : TargetSettings) (state : State) (sets : List NamedSet) (v : Apdu)
    (a : OwedReply)
    → IsAnswer databases settings state sets v a → Replies v a.reply
kind databases settings state sets (apdus.InitRequest r) a h =
    subst (λ (b : OwedReply). Replies (apdus.InitRequest r) b.reply) (sym h.1) tt
kind databases settings state sets (apdus.SearchRequest r) a h =
    subst (λ (b : OwedReply). Replies (apdus.SearchRequest r) b.reply) (sym h.2)
    (search_kind h.0 sets r (found_by_query databases r r.query) (search_fault databases sets h.0 r r.query))
kind databases settings state sets (apdus.PresentRequest r) a h =
    subst (λ (b : OwedReply). Replies (apdus.PresentRequest r) b.reply) (sym h.2) tt
kind databases settings state sets (apdus.Close c) a h =
    subst (λ (b : OwedReply). Replies (apdus.Close c) b.reply) (sym h) tt
kind databases settings state sets (apdus.InitResponse r) a h = absurd h
kind databases settings state sets (apdus.SearchResponse r) a h = absurd h
kind databases settings state sets (apdus.PresentResponse r) a h = absurd h

-- ---- the state after a request

-- a search and a request for records leave the state unchanged
after_search : (terms : Terms) (sets : List NamedSet) (r : SearchRequest) (found : List Found) (f : Option Bib1Fault)
    → (owed_to_search_unless terms sets r found f).association.state ≡ Open terms
after_search terms sets r found None = refl
after_search terms sets r found (Some reason) = refl

module _ (databases : List Database) (settings : TargetSettings) where
  pub search_leaves : (s : Association) (r : SearchRequest)
      → (next_association s (owed_in_association databases settings s (apdus.SearchRequest r))).state ≡ s.state
  search_leaves s r = by s.state refl
    where
      by : (state : State) → s.state ≡ state
          → (next_association s (owed_in_state databases settings state s.sets (apdus.SearchRequest r))).state ≡ s.state
      by Fresh e = refl
      by (Open terms) e =
          after_search terms s.sets r (found_by_query databases r r.query)
          (search_fault databases s.sets terms r r.query) ∙ sym e
      by Ended e = refl

  pub present_leaves : (s : Association) (r : PresentRequest)
      → next_association s (owed_in_association databases settings s (apdus.PresentRequest r)) ≡ s
  present_leaves s r = by s.state refl
    where
      by : (state : State) → s.state ≡ state
          → next_association s (owed_in_state databases settings state s.sets (apdus.PresentRequest r)) ≡ s
      by Fresh e = refl
      by (Open terms) e = (λ i. record { state = sym e i; sets = s.sets })
      by Ended e = refl
