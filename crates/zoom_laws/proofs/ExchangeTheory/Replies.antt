-- The replies that a target owes.
use Rattle.std.proofs.Common.{◌≡◌, inl, inr, List, [], ◌∷◌, ◌++◌, Option, None, Some, Result, Ok, Err, refl, sym, ap, subst, ◌∙◌, append_assoc, append-nil}
use Rattle.std.specs.Prelude.{Contains, IsPermutation}
use Rattle.std.proofs.lemmas.List.Elements.{Contains-append_left, Contains-append_cases}
use Rattle.std.proofs.lemmas.List.Sorted.{Contains-permutation, IsPermutation-sym, IsPermutation-append_left}
use Rattle.zapdu.specs.declared.apdu.Apdu.{Apdu}
use Rattle.zapdu.specs.declared.apdu.Apdu.TheVariants as apdus
use Rattle.zapdu.specs.declared.productions.close.Close.{Close}
use Rattle.zapdu.specs.declared.productions.search_request.SearchRequest.{SearchRequest}
use Rattle.zorigin.proofs.Members.{contained, among}
use Rattle.ztarget.specs.declared.database.Database.{Database}
use Rattle.ztarget.specs.declared.settings.TargetSettings.{TargetSettings}
use Rattle.ztarget.specs.declared.error.TargetError.{TargetError}
use Rattle.ztarget.specs.Faults.{Bib1Fault}
use Rattle.ztarget.specs.Searching.{Found}
use Rattle.ztarget.specs.Standing.{Terms, State, Fresh, Open, Ended, NamedSet}
use Rattle.ztarget.specs.Replies.{OwedReply, owed_in_state, owed_to_search_unless, owed, reply_of, replies, association_after}
use Rattle.zoom_laws.proofs.ExchangeTheory.Logs.{none_in}

-- ---- a Close

-- the Close that this Close replies to
abbrev pub Answers : Apdu → Close → Type 0
Answers v c = (d : Close) × (v ≡ apdus.Close d) × (c.reference_id ≡ d.reference_id)

abbrev okay : OwedReply → Result OwedReply TargetError
okay a = Ok a

same_answer : (a b : OwedReply) → okay a ≡ okay b → a ≡ b
same_answer a b e = cc

search_none : (terms : Terms) (sets : List NamedSet) (r : SearchRequest) (found : List Found) (o : Option Bib1Fault)
    (c : Close)
    → (owed_to_search_unless terms sets r found o).reply ≡ apdus.Close c → ⊥
search_none terms sets r found None c e = absurd (cc)
search_none terms sets r found (Some reason) c e = absurd (cc)

-- a reply that is no Close
module _ (x a : OwedReply) (c : Close) (e : okay x ≡ okay a) (q : a.reply ≡ apdus.Close c) where
  other : x.reply ≡ apdus.Close c
  other = ap (λ (z : OwedReply). z.reply) (same_answer x a e) ∙ q

answer_close : (databases : List Database) (settings : TargetSettings) (state : State) (sets : List NamedSet)
    (v : Apdu) (a : OwedReply) (c : Close)
    → owed_in_state databases settings state sets v ≡ Ok a → a.reply ≡ apdus.Close c → Answers v c
answer_close databases settings state sets (apdus.InitResponse r) a c e q = absurd (cc)
answer_close databases settings state sets (apdus.SearchResponse r) a c e q = absurd (cc)
answer_close databases settings state sets (apdus.PresentResponse r) a c e q = absurd (cc)
answer_close databases settings Fresh sets (apdus.InitRequest r) a c e q = let o = other _ a c e q in absurd (cc)
answer_close databases settings Fresh sets (apdus.Close d) a c e q = (d, refl, closes (other _ a c e q))
  where
    closes : {x : Close} → apdus.Close x ≡ apdus.Close c → c.reference_id ≡ x.reference_id
    closes {x} f = let g : c ≡ x = cc in ap (λ (z : Close). z.reference_id) g
answer_close databases settings Fresh sets (apdus.SearchRequest r) a c e q = absurd (cc)
answer_close databases settings Fresh sets (apdus.PresentRequest r) a c e q = absurd (cc)
answer_close databases settings (Open terms) sets (apdus.SearchRequest r) a c e q = absurd
    (search_none terms sets r _ _ c (other _ a c e q))
answer_close databases settings (Open terms) sets (apdus.PresentRequest r) a c e q = let o = other _ a c e q in absurd
    (cc)
answer_close databases settings (Open terms) sets (apdus.Close d) a c e q = (d, refl, closes (other _ a c e q))
  where
    closes : {x : Close} → apdus.Close x ≡ apdus.Close c → c.reference_id ≡ x.reference_id
    closes {x} f = let g : c ≡ x = cc in ap (λ (z : Close). z.reference_id) g
answer_close databases settings (Open terms) sets (apdus.InitRequest r) a c e q = absurd (cc)
answer_close databases settings Ended sets (apdus.InitRequest r) a c e q = absurd (cc)
answer_close databases settings Ended sets (apdus.SearchRequest r) a c e q = absurd (cc)
answer_close databases settings Ended sets (apdus.PresentRequest r) a c e q = absurd (cc)
answer_close databases settings Ended sets (apdus.Close d) a c e q = absurd (cc)

close_of : (databases : List Database) (settings : TargetSettings) (received : List Apdu) (v : Apdu) (c : Close)
    (r : Result OwedReply TargetError)
    → owed databases settings received v ≡ r → Contains (reply_of r) (apdus.Close c) → Answers v c
close_of databases settings received v c (Err e) q i = absurd (none_in (apdus.Close c) i)
close_of databases settings received v c (Ok a) q i =
    let s = association_after databases settings received in
    elim (among (apdus.Close c) (a.reply ∷ []) i) [
      | inl e ↦ answer_close databases settings s.state s.sets v a c q (sym e)
      | inr f ↦ absurd f
    ]

-- a Close that is owed replies to one that was received
pub close_owed : (databases : List Database) (settings : TargetSettings) (received : List Apdu) (c : Close)
    → Contains (replies databases settings received) (apdus.Close c)
    → (d : Close) × Contains received (apdus.Close d) × (c.reference_id ≡ d.reference_id)
close_owed databases settings [] c i = absurd (none_in (apdus.Close c) i)
close_owed databases settings (v ∷ received) c i =
    elim (Contains-append_cases (replies databases settings received) (reply_of (owed databases settings received v))
    (apdus.Close c) i) [
      | inl j ↦ (let older = close_owed databases settings received c j in
          (older.0, in_rest (apdus.Close older.0) older.1, older.2))
      | inr j ↦ (let is = close_of databases settings received v c (owed databases settings received v) refl j in
          (is.0, contained (apdus.Close is.0) (v ∷ received) (inl (sym is.1)), is.2))
    ]
  where
    in_rest : (x : Apdu) → Contains received x → Contains (v ∷ received) x
    in_rest x h = contained x (v ∷ received) (inr (among x received h))

-- ---- more requests

-- the replies to earlier requests are owed first
pub replies_more : (databases : List Database) (settings : TargetSettings) (later received : List Apdu)
    → (more : List Apdu) × (replies databases settings
    (later ++ received) ≡ replies databases settings received ++ more)
replies_more databases settings [] received = ([], sym (append-nil (replies databases settings received)))
replies_more databases settings (v ∷ later) received =
    let older = replies_more databases settings later received in
    let mine = reply_of (owed databases settings (later ++ received) v) in
    (older.0 ++ mine, ap (λ z. z ++ mine) older.1 ∙ append_assoc (replies databases settings received) older.0 mine)

-- after more requests, the replies sent and those left are all that are owed
pub owed_more : (databases : List Database) (settings : TargetSettings) (later received all sent pending : List Apdu)
    → all ≡ later ++ received
    → IsPermutation (replies databases settings received) (sent ++ pending)
    → (left : List Apdu) × IsPermutation (replies databases settings all) (sent ++ left)
owed_more databases settings later received all sent pending e h =
    let more = replies_more databases settings later received in
    let grown = IsPermutation-append_left more.0 (replies databases settings received) (sent ++ pending) h in
    let put = subst (λ (z : List Apdu). IsPermutation (replies databases settings received ++ more.0) z)
    (append_assoc sent pending more.0) grown in (
      pending ++ more.0,
      subst (λ (z : List Apdu). IsPermutation z (sent ++ (pending ++ more.0)))
          (sym (ap (λ z. replies databases settings z) e ∙ more.1)) put,
    )

pub owed_of : (owing sent left : List Apdu) (v : Apdu) → IsPermutation owing (sent ++ left) → Contains sent v
    → Contains owing v
owed_of owing sent left v h i =
    Contains-permutation (sent ++ left) owing v (IsPermutation-sym owing (sent ++ left) h)
    (Contains-append_left sent left v i)
