-- Texts that are made of files whose octets may be known.
use Rattle.std.proofs.Common.{◌≡◌, subst, ◌∙◌, ℕ, List, Option, Some, None, Result, Ok, Err}
use Rattle.std.specs.Prelude.{IfSome}
use Rattle.zmeta_args.specs.declared.arguments.SearchOptions.{SearchOptions}
use Rattle.zmeta_devices.specs.Devices.{Device}
use Rattle.zmeta_devices.specs.declared.fault.Fault.TheVariants.{Memory}
use Rattle.zmeta_devices.specs.declared.fault.Status.{Status}
use Rattle.zmeta_catalogue_files.specs.declared.conversions.ConversionFault.{ConversionFault}
use Rattle.zmeta_catalogue_files.specs.declared.conversions.ConversionFault.TheVariants as conversions
use Rattle.zmeta_catalogue_files.specs.declared.refusal.UnionFault.{UnionFault}
use Rattle.zmeta_catalogue_files.specs.declared.refusal.UnionFault.TheVariants as faults
use Rattle.zmeta_catalogue_files.specs.declared.unions.Union.{Union}
use Rattle.zmeta_catalogue_files.specs.Conversions.{TextOfWorldResult, WorldTextResult}
use Rattle.zmeta_catalogue_files.specs.Refusals.{AfterLine}
use Rattle.zmeta_catalogue_files.specs.Unions.{UnionResult}

no_union : (octets : List ℕ) (options : SearchOptions) (f : UnionFault) → UnionResult octets options (Err f)
    → WorldTextResult octets options (Err (conversions.Union f))
no_union octets options (faults.Fault Memory) is = tt
no_union octets options f is = is

-- no world file of what is no union
pub world_refused : (known : Option (List ℕ)) (options : SearchOptions) (f : UnionFault)
    → IfSome known (λ octets. UnionResult octets options (Err f))
    → IfSome known (λ octets. WorldTextResult octets options (Err (conversions.Union f)))
world_refused None options f is = tt
world_refused (Some octets) options f is = no_union octets options f is

of_union : (octets : List ℕ) (options : SearchOptions) (u : Union) (r : Result (List ℕ) ConversionFault)
    → UnionResult octets options (Ok u) → TextOfWorldResult u.world r → WorldTextResult octets options r
of_union octets options u (Ok text) of is = record { union = u; of = of; said = is.0; is = is.1 }
of_union octets options u (Err (conversions.Unsaid name reason)) of is =
    record { union = u; of = of; unsaid_is = is }
of_union octets options u (Err (conversions.Union (faults.Fault Memory))) of is = tt
of_union octets options u (Err f) of is = absurd is

-- the world file of a union, or why there is none
pub world_of_union : (known : Option (List ℕ)) (options : SearchOptions) (u : Union)
    (r : Result (List ℕ) ConversionFault) → IfSome known (λ octets. UnionResult octets options (Ok u))
    → TextOfWorldResult u.world r → IfSome known (λ octets. WorldTextResult octets options r)
world_of_union None options u r of is = tt
world_of_union (Some octets) options u r of is = of_union octets options u r of is

-- the text that was told is the one that was made
pub made_told : (path told text said : List ℕ) (old new : Device) (status : Status) → text ≡ said → told ≡ text
    → AfterLine path (λ t. t ≡ told) old new status → AfterLine path (λ t. t ≡ said) old new status
made_told path told text said old new status made same is =
    subst (λ z. AfterLine path (λ t. t ≡ z) old new status) (same ∙ made) is
