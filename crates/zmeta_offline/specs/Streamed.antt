-- The result of `records` over files that are read twice.
use Rattle.std.specs.Prelude.{◌≡◌, ◌⊎◌, ℕ, Bool, true, false, List, ◌++◌, Option, Result, Ok, Err}
use Rattle.zknow.specs.declared.fact.Fact.{Fact}
use Rattle.zknow_records.specs.Records.{records_octets}
use Rattle.zmeta_devices.specs.Devices.{Device, Outputs, HasGained}
use Rattle.zmeta_devices.specs.declared.fault.Fault.{Fault}
use Rattle.zmeta_devices.specs.declared.fault.Fault.TheVariants.{Read, Memory}
use Rattle.zmeta_devices.specs.declared.fault.Status.{Status}
use Rattle.zmeta_devices.specs.declared.fault.Status.TheVariants as statuses
use Rattle.zmeta_offline.specs.Join.{IsRefusedAmong}
use Rattle.zmeta_offline.specs.Records.{WantedRecords, IsExtract, RecordsResult}

-- the status, if it is known whether a search or an association failed
abbrev pub IsStatusOf : Bool → Status → Type 0
IsStatusOf true status = status ≡ statuses.Failed
IsStatusOf false status = status ≡ statuses.Done

-- a front of the text was written, and no call failed
pub record HasGainedFront (old new : Device) (text : List ℕ) : Type 0 where
  pub front : List ℕ
  pub rest : List ℕ
  pub cut : text ≡ front ++ rest
  pub gained : HasGained old new front

-- files by their paths, each with its octets if they are known
module _ (e : WantedRecords) (octets : List ℕ → Option (List ℕ)) (paths : List (List ℕ)) where
  -- the records were written in part, and nothing was reported
  pub record IsBrokenOff (before after : Outputs) : Type 0 where
    pub facts : List Fact
    pub oid : Option (List ℕ)
    pub extract : IsExtract octets paths e facts oid
    pub output : HasGainedFront before.output after.output (records_octets oid e.conflicts facts)
    pub errors : after.errors ≡ before.errors

  -- a file could not be read any more, or no memory was found, behind a part of the records
  abbrev pub IsLateFault : Outputs → Outputs → Result Status Fault → Type 0
  IsLateFault before after (Ok status) = ⊥
  IsLateFault before after (Err (Read path)) = IsRefusedAmong octets paths (Read path) × IsBrokenOff before after
  IsLateFault before after (Err Memory) = IsBrokenOff before after
  IsLateFault before after (Err _) = ⊥

  -- the result of `records`, or the records were written in part
  abbrev pub StreamedResult : Outputs → Outputs → Result Status Fault → Type 0
  StreamedResult before after result =
      RecordsResult e octets paths before after result ⊎ IsLateFault before after result
