-- What was told of a file of catalogues.
use Rattle.std.proofs.Common.{◌≡◌, refl, sym, subst, ◌∙◌, inl, inr, ℕ, List, [], ◌++◌}
use Rattle.zmeta_devices.specs.Devices.{Device, AfterTell, AfterTellLines}
use Rattle.zmeta_devices.specs.declared.fault.Fault.TheVariants.{Memory}
use Rattle.zmeta_devices.specs.declared.fault.Status.{Status}
use Rattle.zmeta_devices.specs.declared.fault.Status.TheVariants as statuses
use Rattle.zmeta_catalogue_files.specs.Refusals.{file_line, HasErrorLine, AfterLine}

-- the line of an error
pub error_told : (path start line written : List ℕ) (old new : Device) (status : Status) → start ≡ []
    → HasErrorLine path start line → written ≡ line → AfterTellLines old new written → status ≡ statuses.Refused
    → AfterLine path (λ text. Unit {0}) old new status
error_told path start line written old new status none is of told refused =
    let whole : HasErrorLine path [] line = subst (λ s. HasErrorLine path s line) none is in inl (record {
      text = whole.0;
      says = tt;
      told = subst (AfterTellLines old new) (of ∙ whole.1) told;
      refused = refused;
    })

-- the line with a text
pub text_told : (path start line written text : List ℕ) (old new : Device) (status : Status) → start ≡ []
    → line ≡ start ++ file_line path text → written ≡ line → AfterTellLines old new written → status ≡ statuses.Refused
    → AfterLine path (λ told. told ≡ text) old new status
text_told path start line written text old new status none is of told refused =
    let whole : line ≡ [] ++ file_line path text = subst (λ s. line ≡ s ++ file_line path text) none is in inl (record {
      text = text;
      says = refl;
      told = subst (AfterTellLines old new) (of ∙ whole) told;
      refused = refused;
    })

-- no memory was found for the line
pub memory_told : (path : List ℕ) (Says : List ℕ → Type 0) (old new : Device) (status : Status)
    → AfterTell old new Memory → status ≡ statuses.Memory → AfterLine path Says old new status
memory_told path Says old new status told memory = inr (record { told = told; memory = memory })
