-- What changed from one saved file to another is printed.
use Rattle.std.proofs.Common.{◌≡◌, ◌∙◌, ℕ, List, [], ◌++◌, Option, Result, Ok, Err, ap, subst, sym, inl, inr, ⊎_elim}
use Rattle.std.specs.Prelude.{OnOk}
use Rattle.zknow.specs.declared.fact.Fact.{Fact}
use Rattle.zknow_changes.specs.declared.between.Change.{Change}
use Rattle.zknow_changes.specs.declared.between.ChangeKind.{ChangeKind}
use Rattle.zknow_changes.specs.declared.between.ChangeKind.TheVariants as kinds
use Rattle.zknow_changes.specs.Changes.{AreChanges}
use Rattle.zknow_changes.specs.Parts.{IsPart}
use Rattle.zknow_html.specs.Page.{change_page}
use Rattle.zmeta_args.specs.declared.arguments.View.{View}
use Rattle.zmeta_args.specs.declared.arguments.View.TheVariants.{Text, Hex, Titles, Fields, Json, Html}
use Rattle.zmeta_devices.specs.Devices.{Device}
use Rattle.zmeta_devices.specs.declared.fault.Fault.{Fault}
use Rattle.zmeta_devices.specs.declared.fault.Fault.TheVariants.{Read, Write, NotKnowledge, NotCanonical, NoCatalogue, NotOid, Memory}
use Rattle.zmeta_devices.specs.declared.fault.Status.{Status}
use Rattle.zmeta_offline.specs.Join.{IsSavedAt, IsFaultAt, PutListResult}
use Rattle.zmeta_offline.specs.New.{count_text, HasPart, HasParts, HasPage, AreTwoFiles, IsOneRefused, IsChangesText, IsStatusOfBoth, NewResult, LoadTwoResult}
use Rattle.zmeta_offline.specs.Views.{printed}
use Rattle.zmeta_offline.proofs.Joining.{kept, IsOfReading, at_reading}

module _ (octets : List ℕ → Option (List ℕ)) (earlier later : List ℕ) where
  one_reading : (f : Fault) → IsOneRefused octets earlier later f → IsOfReading f
  one_reading f h = ⊎_elim (λ first. at_reading octets earlier f first) (λ second. at_reading octets later f second.3) h

  told : (view : View) (old : Device) (f : Fault) → IsOneRefused octets earlier later f
      → NewResult octets earlier later view old old (Err f)
  told view old (Write path) h = absurd (one_reading (Write path) h)
  told view old Memory h = kept old
  told view old (Read path) h = (h, kept old)
  told view old (NotKnowledge refused at) h = (h, kept old)
  told view old (NotCanonical refused at) h = (h, kept old)
  told view old f h = (h, kept old)

  pub new_refused : (view : View) (old : Device) (g f : Fault) (r : Result Status Fault) → r ≡ Err f → f ≡ g
      → IsOneRefused octets earlier later g → NewResult octets earlier later view old old r
  new_refused view old g f r is of h = rw (is, of) (told view old g h)

  pub new_done : (view : View) (earlier_names : List (List ℕ)) (before : List Fact) (later_names : List (List ℕ))
      (after : List Fact) (found : List Change) (text written : List ℕ) (status : Status) (old new : Device)
      (r : Result Status Fault) → AreTwoFiles octets earlier later earlier_names before later_names after
      → AreChanges earlier_names before later_names after found
      → IsChangesText view earlier_names later_names found text → IsStatusOfBoth before after status
      → written ≡ text → PutListResult written status old new r → NewResult octets earlier later view old new r
  new_done view en before ln after found text written status old new (Ok s) files are is st w p = (
    written,
    record {
      earlier_names = en;
      before = before;
      later_names = ln;
      after = after;
      files = files;
      changes = found;
      are = are;
      is = subst (IsChangesText view en ln found) (sym w) is;
      status_is = subst (IsStatusOfBoth before after) (sym p.0) st;
    },
    p.1,
  )
  new_done view en before ln after found text written status old new (Err (Write told)) files are is st w p = (
    written,
    status,
    record {
      earlier_names = en;
      before = before;
      later_names = ln;
      after = after;
      files = files;
      changes = found;
      are = are;
      is = subst (IsChangesText view en ln found) (sym w) is;
      status_is = st;
    },
    p,
  )
  new_done view en before ln after found text written status old new (Err f) files are is st w p = absurd p

  -- ---- both files

  pub first_refused : (g f : Fault) (r : Result ((List Fact × List (List ℕ)) × (List Fact × List (List ℕ))) Fault)
      → r ≡ Err f → f ≡ g → IsFaultAt octets earlier g → LoadTwoResult octets earlier later r
  first_refused g f r is of h = rw (is, of) (inl h)

  pub second_refused : (names : List (List ℕ)) (facts : List Fact) (g f : Fault)
      (r : Result ((List Fact × List (List ℕ)) × (List Fact × List (List ℕ))) Fault)
      → r ≡ Err f → f ≡ g → IsSavedAt octets earlier names facts → IsFaultAt octets later g
      → LoadTwoResult octets earlier later r
  second_refused names facts g f r is of saved h = rw (is, of) (inr (names, facts, saved, h))

-- ---- the parts

pub part_put : {E : Type 0} (view : View) (kind : ChangeKind) (names : List (List ℕ)) (changes : List Change)
    (facts : List Fact) (old counted new : List ℕ) (r : Result (Unit {0}) E) → IsPart kind changes facts
    → counted ≡ old ++ count_text kind changes → OnOk r (new ≡ counted ++ printed names view [] [] facts)
    → OnOk r (HasPart view kind names changes old new)
part_put view kind names changes facts old counted new (Err e) is count put = tt
part_put view kind names changes facts old counted new (Ok u) is count put = record {
  facts = facts;
  are = is;
  appended = put ∙ ap (λ z. z ++ printed names view [] [] facts) count;
}

pub parts_put : {E : Type 0} (view : View) (earlier later : List (List ℕ)) (changes : List Change)
    (old one two new : List ℕ) (r : Result (Unit {0}) E) → HasPart view kinds.New later changes old one
    → HasPart view kinds.Changed later changes one two → OnOk r (HasPart view kinds.Gone earlier changes two new)
    → OnOk r (HasParts view earlier later changes old new)
parts_put view earlier later changes old one two new (Err e) is_new is_changed is_gone = tt
parts_put view earlier later changes old one two new (Ok u) is_new is_changed is_gone =
    record { one = one; two = two; is_new = is_new; is_changed = is_changed; is_gone = is_gone }

pub page_put : {E : Type 0} (heading : List ℕ) (earlier later : List (List ℕ)) (changes : List Change)
    (fresh changed gone : List Fact) (old new : List ℕ) (r : Result (Unit {0}) E) → IsPart kinds.New changes fresh
    → IsPart kinds.Changed changes changed → IsPart kinds.Gone changes gone
    → OnOk r (new ≡ old ++ change_page heading earlier later fresh changed gone)
    → OnOk r (HasPage heading earlier later changes old new)
page_put heading earlier later changes fresh changed gone old new (Err e) is_new is_changed is_gone put = tt
page_put heading earlier later changes fresh changed gone old new (Ok u) is_new is_changed is_gone put = record {
  fresh = fresh;
  changed = changed;
  gone = gone;
  is_new = is_new;
  is_changed = is_changed;
  is_gone = is_gone;
  appended = put;
}
