-- The operations that are outstanding ask for positions that there can be.
use Rattle.std.proofs.Common.{◌≡◌, ℕ, nat_eq, Bool, true, false, cond, List, [], ◌∷◌, Option, None, Some, Result, Ok, Err, refl, sym, subst}
use Rattle.std.specs.Prelude.{OnOk, OnErr}
use Rattle.std.specs.Map.{lookup}
use Rattle.indexmap.specs.IndexMap.{insert_entry, shift_remove_entry}
use Rattle.zapdu.specs.declared.apdu.Apdu.{Apdu}
use Rattle.zapdu.specs.declared.apdu.Apdu.TheVariants as apdus
use Rattle.zorigin.specs.declared.answer.Asked.{Asked}
use Rattle.zorigin.specs.declared.answer.Answer.{Answer}
use Rattle.zorigin.specs.declared.answer.Taken.TheVariants as taken
use Rattle.zorigin.specs.declared.refusal.CallRefused.{CallRefused}
use Rattle.zorigin.specs.References.{operation_number}
use Rattle.zorigin.specs.Standings.{Standing}
use Rattle.zorigin.specs.Fitting.{fault_of}
use Rattle.zorigin.specs.Answers.{has_valid_ranges, IsFitAnswerWith, HasFitAnswer, HaveValidRanges}
use Rattle.zorigin.specs.Replies.{only_of, numbered_as, named, taken_by, taken_as, HasAnswer}
use Rattle.zorigin.proofs.Fittings.{fitting}

pub asks_inserted : (es : List (ℕ × Asked)) (op : ℕ) (q : Asked) → HaveValidRanges es → has_valid_ranges q.what ≡ true → HaveValidRanges (insert_entry nat_eq es op q)
asks_inserted [] op q h a = (a, tt)
asks_inserted (e ∷ es) op q h a = elim (nat_eq op e.0) as (λ b. HaveValidRanges (cond b ((e.0, q) ∷ es) (e ∷ insert_entry nat_eq es op q))) [ true ↦ (a, h.1) | false ↦ (h.0, asks_inserted es op q h.1 a) ]

pub asks_removed : (op : ℕ) (es : List (ℕ × Asked)) → HaveValidRanges es → HaveValidRanges (shift_remove_entry (nat_eq op) es)
asks_removed op [] h = tt
asks_removed op (e ∷ es) h = elim (nat_eq op e.0) as (λ b. HaveValidRanges (cond b es (e ∷ shift_remove_entry (nat_eq op) es))) [ true ↦ h.1 | false ↦ (h.0, asks_removed op es h.1) ]

-- an operation that was admitted, or not for want of memory
pub asks_admitted : (A : Type 0) (r : Result (Unit {0}) CallRefused) (old new : List (ℕ × Asked)) (op : ℕ) (q : Asked) → HaveValidRanges old → has_valid_ranges q.what ≡ true
    → OnOk r (new ≡ insert_entry nat_eq old op q) → OnErr r (A × (new ≡ old)) → HaveValidRanges new
asks_admitted A (Ok x) old new op q h a ok err = subst HaveValidRanges (sym ok) (asks_inserted old op q h a)
asks_admitted A (Err e) old new op q h a ok err = subst HaveValidRanges (sym err.1) h

asks_looked : (op : ℕ) (es : List (ℕ × Asked)) (q : Asked) → HaveValidRanges es → lookup (nat_eq op) es ≡ Some q → has_valid_ranges q.what ≡ true
asks_looked op [] q h e = absurd (cc)
asks_looked op (x ∷ xs) q h e =
    let more = asks_looked op xs q h.1 in
    elim (nat_eq op x.0) as (λ b. cond b (Some x.1) (lookup (nat_eq op) xs) ≡ Some q → has_valid_ranges q.what ≡ true) [ true ↦ λ e. (let same : x.1 ≡ q = cc in subst (λ (z : Asked). has_valid_ranges z.what ≡ true) same h.0) | false ↦ more ] e

asks_only : (es : List (ℕ × Asked)) (q : Asked) → HaveValidRanges es → only_of es ≡ Some q → has_valid_ranges q.what ≡ true
asks_only [] q h e = absurd (cc)
asks_only (x ∷ []) q h e = let same : x.1 ≡ q = cc in subst (λ (z : Asked). has_valid_ranges z.what ≡ true) same h.0
asks_only (x ∷ y ∷ xs) q h e = absurd (cc)

asks_named : (s : Standing) (id : Option (List ℕ)) (q : Asked) → HaveValidRanges s.outstanding → named s id ≡ Some q → has_valid_ranges q.what ≡ true
asks_named s None q h e = by s.force.concurrent e
  where
    by : (b : Bool) → cond b None (only_of s.outstanding) ≡ Some q → has_valid_ranges q.what ≡ true
    by true e = absurd (cc)
    by false e = asks_only s.outstanding q h e
asks_named s (Some id) q h e = by (operation_number id) e
  where
    by : (o : Option ℕ) → numbered_as s.outstanding o ≡ Some q → has_valid_ranges q.what ≡ true
    by None e = absurd (cc)
    by (Some op) e = asks_looked op s.outstanding q h e

-- an answer to the operation that is named, which the reply fits, can be told as facts
pub fit_answer : (s : Standing) (id : Option (List ℕ)) (q : Asked) (reply : Apdu) → HaveValidRanges s.outstanding → named s id ≡ Some q
    → fault_of q.what reply ≡ None → HasFitAnswer reply (taken_as (record { asked = q; reply = reply }))
fit_answer s id q reply h e f = by reply
  where
    fit : IsFitAnswerWith reply (record { asked = q; reply = reply })
    fit = (refl, record { fits = fitting q.what reply f; positions = asks_named s id q h e })

    either : (b : Bool) → HasFitAnswer reply (cond b (taken.Opened (record { asked = q; reply = reply })) (taken.Rejected (record { asked = q; reply = reply })))
    either true = fit
    either false = fit

    by : (v : Apdu) → HasFitAnswer reply (taken_by (record { asked = q; reply = reply }) v)
    by (apdus.InitResponse v) = either v.result
    by _ = fit

-- an accepted reply has an answer
pub answer_taken : (a : Answer) → HasAnswer (Ok (taken_as a))
answer_taken a = by a.reply
  where
    either : (b : Bool) → HasAnswer (Ok (cond b (taken.Opened a) (taken.Rejected a)))
    either true = tt
    either false = tt

    by : (v : Apdu) → HasAnswer (Ok (taken_by a v))
    by (apdus.InitResponse v) = either v.result
    by _ = tt
