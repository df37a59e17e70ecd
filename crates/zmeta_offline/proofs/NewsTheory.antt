-- The records that are new or changed since an earlier file are written.
use Rattle.std.proofs.Common.{◌≡◌, ◌∙◌, ap, subst, refl, sym, ℕ, List, Option, Some, None, Result, Ok, Err, inl, inr, ⊎_elim, IfOk}
use Rattle.zknow.specs.declared.fact.Fact.{Fact}
use Rattle.zknow_changes.specs.declared.between.Change.{Change}
use Rattle.zknow_changes.specs.Changes.{AreChanges}
use Rattle.zknow_changes.specs.Parts.{AreNews}
use Rattle.zknow_records.specs.declared.left_out.LeftOut.{LeftOut}
use Rattle.zknow_records.specs.Records.{records_octets, left_out}
use Rattle.zmeta_devices.specs.Devices.{Outputs, HasGained, AreUnwritten, AfterTellLines}
use Rattle.zmeta_devices.specs.declared.fault.Fault.{Fault}
use Rattle.zmeta_devices.specs.declared.fault.Fault.TheVariants.{Read, Write, NotKnowledge, NotCanonical, NamesDiffer, NoCatalogue, NotOid, Memory}
use Rattle.zmeta_devices.specs.declared.fault.Status.{Status}
use Rattle.zmeta_offline.specs.Catalogues.{CataloguesResult}
use Rattle.zmeta_offline.specs.Join.{AreJoined, IsSavedAt, IsFaultAt, IsRefusedAmong}
use Rattle.zmeta_offline.specs.New.{IsStatusOfBoth}
use Rattle.zmeta_offline.specs.News.{AreNewsBetween, ChooseTwoResult, IsAnyRefused, LoadSinceResult, NewsResult, IsSince, SinceResult}
use Rattle.zmeta_offline.specs.Records.{IsChosenSyntax, left_text, WantedRecords, PutRecordsResult}
use Rattle.zmeta_offline.proofs.Joining.{kept, no_write, IsOfReading, at_reading}

-- ---- what is new

-- the records of the changes that were found
pub news_taken : {E : Type 0} (en : List (List ℕ)) (before : List Fact) (ln : List (List ℕ)) (after : List Fact)
    (found given : List Change) (r : Result (List Fact) E) → AreChanges en before ln after found → given ≡ found
    → IfOk r (AreNews given) → IfOk r (AreNewsBetween en before ln after)
news_taken en before ln after found given (Ok news) are same taken =
    record { changes = found; are = are; taken = subst (λ z. AreNews z news) same taken }
news_taken en before ln after found given (Err e) are same taken = tt

-- ---- the chosen catalogues

-- no later catalogue has a given name
unknown : (only en : List (List ℕ)) (before : List Fact) (names : List (List ℕ)) (after : List Fact) (f : Fault)
    → CataloguesResult only names after (Err f) → ChooseTwoResult only en before names after (Err f)
unknown only en before names after (NoCatalogue name) h = h
unknown only en before names after Memory h = tt
unknown only en before names after f h = absurd h

pub choice_refused : (only en : List (List ℕ)) (before : List Fact) (names : List (List ℕ)) (after : List Fact)
    (g f : Fault) (r : Result (List Fact × List Fact) Fault) → r ≡ Err f → f ≡ g
    → CataloguesResult only names after (Err g) → ChooseTwoResult only en before names after r
choice_refused only en before names after g f r is of h = rw (is, of) (unknown only en before names after g h)

-- ---- the files

module _ (octets : List ℕ → Option (List ℕ)) (earlier : List ℕ) (paths : List (List ℕ)) where
  any_reading : (f : Fault) → IsAnyRefused octets earlier paths f → IsOfReading f
  any_reading f h = ⊎_elim (λ first. at_reading octets earlier f first) (λ second. no_write octets paths f second.3) h

  pub earlier_refused : (g f : Fault) (r : Result ((List Fact × List (List ℕ)) × (List Fact × List (List ℕ))) Fault)
      → r ≡ Err f → f ≡ g → IsFaultAt octets earlier g → LoadSinceResult octets earlier paths r
  earlier_refused g f r is of h = rw (is, of) (inl h)

  pub later_refused : (names : List (List ℕ)) (facts : List Fact) (g f : Fault)
      (r : Result ((List Fact × List (List ℕ)) × (List Fact × List (List ℕ))) Fault) → r ≡ Err f → f ≡ g
      → IsSavedAt octets earlier names facts → IsRefusedAmong octets paths g → LoadSinceResult octets earlier paths r
  later_refused names facts g f r is of saved h = rw (is, of) (inr (names, facts, saved, h))

  -- a file is refused
  not_loaded : (only : List (List ℕ)) (f : Fault) → IsAnyRefused octets earlier paths f
      → NewsResult octets earlier paths only (Err f)
  not_loaded only (NoCatalogue name) h = absurd (any_reading (NoCatalogue name) h)
  not_loaded only Memory h = tt
  not_loaded only (Read path) h = h
  not_loaded only (NotKnowledge refused at) h = h
  not_loaded only (NotCanonical refused at) h = h
  not_loaded only NamesDiffer h = h
  not_loaded only f h = h

  pub news_refused : (only : List (List ℕ)) (g f : Fault) (r : Result (List Fact × Status) Fault) → r ≡ Err f → f ≡ g
      → IsAnyRefused octets earlier paths g → NewsResult octets earlier paths only r
  news_refused only g f r is of h = rw (is, of) (not_loaded only g h)

  -- no later catalogue has a given name
  not_chosen : (only en : List (List ℕ)) (before : List Fact) (names : List (List ℕ)) (after : List Fact) (f : Fault)
      → AreJoined octets names paths after → ChooseTwoResult only en before names after (Err f)
      → NewsResult octets earlier paths only (Err f)
  not_chosen only en before names after (NoCatalogue name) joined h = (names, after, joined, h)
  not_chosen only en before names after Memory joined h = tt
  not_chosen only en before names after f joined h = absurd h

  pub news_unnamed : (only en : List (List ℕ)) (before : List Fact) (names : List (List ℕ)) (after : List Fact)
      (g f : Fault) (r : Result (List Fact × Status) Fault) → r ≡ Err f → f ≡ g
      → AreJoined octets names paths after → ChooseTwoResult only en before names after (Err g)
      → NewsResult octets earlier paths only r
  news_unnamed only en before names after g f r is of joined h =
      rw (is, of) (not_chosen only en before names after g joined h)

  module _ (e : WantedRecords) (before : Outputs) where
    none_written : AreUnwritten before before
    none_written = (kept before.output, refl)

    -- there are no such records
    no_news : (f : Fault) → NewsResult octets earlier paths e.only (Err f)
        → SinceResult octets earlier paths e before before (Err f)
    no_news (Write told) h = absurd (any_reading (Write told) h)
    no_news (NotOid told) h = absurd (any_reading (NotOid told) h)
    no_news (NoCatalogue told) h = (h, none_written)
    no_news Memory h = none_written
    no_news (Read path) h = (h, none_written)
    no_news (NotKnowledge refused at) h = (h, none_written)
    no_news (NotCanonical refused at) h = (h, none_written)
    no_news NamesDiffer h = (h, none_written)
    no_news f h = (h, none_written)

    pub since_refused : (g f : Fault) (r : Result Status Fault) → r ≡ Err f → f ≡ g
        → NewsResult octets earlier paths e.only (Err g) → SinceResult octets earlier paths e before before r
    since_refused g f r is of h = rw (is, of) (no_news g h)

    pub since_written : (news : List Fact) (oid : Option (List ℕ)) (status : Status) (text lines : List ℕ)
        (left : LeftOut) (after : Outputs) → IsSince octets earlier paths e.only news status
        → IsChosenSyntax e.syntax oid → text ≡ records_octets oid e.conflicts news
        → left ≡ left_out oid e.conflicts news → lines ≡ left_text left
        → PutRecordsResult text lines before after (Ok tt)
        → SinceResult octets earlier paths e before after (Ok status)
    since_written news oid status text lines left after since syntax put which told h = (
      news,
      oid,
      record { since = since; syntax = syntax },
      subst (λ z. HasGained before.output after.output z) put h.0,
      subst (λ z. AfterTellLines before.errors after.errors z) (told ∙ ap left_text which) h.1,
    )
