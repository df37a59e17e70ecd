-- The records of saved files are written.
use Rattle.std.proofs.Common.{◌≡◌, ◌∙◌, ap, subst, refl, ℕ, List, [], ◌++◌, Option, Result, Ok, Err}
use Rattle.zknow.specs.declared.fact.Fact.{Fact}
use Rattle.zknow_records.specs.declared.left_out.LeftOut.{LeftOut}
use Rattle.zknow_records.specs.Records.{records_octets, left_out}
use Rattle.zmeta_offline.specs.Catalogues.{CataloguesResult}
use Rattle.zmeta_devices.specs.Devices.{Outputs, HasGained, AreUnwritten, AfterTellLines}
use Rattle.zmeta_offline.specs.Join.{AreJoined, IsRefusedAmong, IsKnownStatus}
use Rattle.zmeta_offline.specs.Records.{WantedRecords, IsChosenSyntax, left_text, PutRecordsResult, RecordsResult}
use Rattle.zmeta_devices.specs.declared.fault.Fault.{Fault}
use Rattle.zmeta_devices.specs.declared.fault.Fault.TheVariants.{Read, Write, NotKnowledge, NotCanonical, NamesDiffer, NoCatalogue, NotOid, Memory}
use Rattle.zmeta_devices.specs.declared.fault.Status.{Status}
use Rattle.zmeta_offline.proofs.Joining.{kept, no_write}

module _ (e : WantedRecords) (octets : List ℕ → Option (List ℕ)) (paths : List (List ℕ)) (before : Outputs) where
  none_written : AreUnwritten before before
  none_written = (kept before.output, refl)

  -- a file is refused
  no_file : (f : Fault) → IsRefusedAmong octets paths f → RecordsResult e octets paths before before (Err f)
  no_file (Write told) h = absurd (no_write octets paths (Write told) h)
  no_file (NotOid told) h = absurd (no_write octets paths (NotOid told) h)
  no_file (NoCatalogue told) h = absurd (no_write octets paths (NoCatalogue told) h)
  no_file Memory h = none_written
  no_file (Read path) h = (h, none_written)
  no_file (NotKnowledge refused at) h = (h, none_written)
  no_file (NotCanonical refused at) h = (h, none_written)
  no_file NamesDiffer h = (h, none_written)
  no_file f h = (h, none_written)

  pub files_refused : (g f : Fault) (r : Result Status Fault) → r ≡ Err f → f ≡ g → IsRefusedAmong octets paths g
      → RecordsResult e octets paths before before r
  files_refused g f r is of h = rw (is, of) (no_file g h)

  -- no catalogue has a given name
  no_name : (f : Fault) (names : List (List ℕ)) (all : List Fact) → AreJoined octets names paths all → CataloguesResult e.only names all (Err f)
      → RecordsResult e octets paths before before (Err f)
  no_name (NoCatalogue name) names all joined h = ((names, all, joined, h), none_written)
  no_name Memory names all joined h = none_written
  no_name f names all joined h = absurd h

  pub name_refused : (g f : Fault) (r : Result Status Fault) (names : List (List ℕ)) (all : List Fact) → r ≡ Err f → f ≡ g
      → AreJoined octets names paths all → CataloguesResult e.only names all (Err g) → RecordsResult e octets paths before before r
  name_refused g f r names all is of joined h = rw (is, of) (no_name g names all joined h)

  module _ (all facts : List Fact) (names : List (List ℕ)) (oid : Option (List ℕ)) (text lines start : List ℕ)
      (left : LeftOut) (joined : AreJoined octets names paths all) (chosen : CataloguesResult e.only names all (Ok facts)) (syntax : IsChosenSyntax e.syntax oid)
      (none : start ≡ []) (put : text ≡ start ++ records_octets oid e.conflicts facts)
      (which : left ≡ left_out oid e.conflicts facts) (told : lines ≡ left_text left) (after : Outputs) where
    whole : text ≡ records_octets oid e.conflicts facts
    whole = put ∙ ap (λ z. z ++ records_octets oid e.conflicts facts) none

    all_told : lines ≡ left_text (left_out oid e.conflicts facts)
    all_told = told ∙ ap left_text which

    pub extracted : (status : Status) → IsKnownStatus facts status
        → PutRecordsResult text lines before after (Ok tt)
        → RecordsResult e octets paths before after (Ok status)
    extracted status is h = (
      facts,
      oid,
      record { names = names; all = all; joined = joined; known = chosen.0; chosen = chosen.1; syntax = syntax },
      is,
      subst (λ z. HasGained before.output after.output z) whole h.0,
      subst (λ z. AfterTellLines before.errors after.errors z) all_told h.1,
    )
