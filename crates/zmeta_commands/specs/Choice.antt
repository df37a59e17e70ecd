-- The choice of questions, and how their hosts are asked.
use Rattle.std.specs.Prelude.{◌≡◌, ℕ, ◌<◌, ◌*◌, Bool, true, false, List, length, slice_get, Option, Some, None, Result, Ok, Err}
use Rattle.std.specs.declared.time.Duration.{Duration}
use Rattle.std.specs.Duration.{as_nanos}
use Rattle.std.specs.Option.{unwrap_or}
use Rattle.zmeta_args.specs.Texts.{texts_of}
use Rattle.zmeta_args.specs.declared.arguments.LimitOptions.{LimitOptions}
use Rattle.zoom.specs.Manner.{Manner}
use Rattle.zoom.specs.Manner.TheVariants as manners
use Rattle.zoom.specs.Limits.{Limits}
use Rattle.zoom.specs.Family.{Family}
use Rattle.zoom.specs.Family.TheVariants as families
use Rattle.zmeta_commands.specs.declared.choice.Choice.{Choice}
use Rattle.zmeta_offline.specs.Names.{is_picked, AreAllKnown, IsFirstUnknown}
use Rattle.zmeta_devices.specs.declared.fault.Fault.{Fault}
use Rattle.zmeta_devices.specs.declared.fault.Fault.TheVariants.{NoQuestion, Memory}

-- how the hosts are talked with, the names of the questions to ask, or none for all, and how long hosts are waited for
pub record ChoiceTexts : Type 0 where
  pub manner : Manner
  pub only : List (List ℕ)
  pub limits : Limits

-- the same, of a choice
abbrev pub choice_texts : Choice → ChoiceTexts
choice_texts choice = record { manner = choice.manner; only = texts_of choice.only.now; limits = choice.limits }

-- at once or in order
abbrev pub manner_of : Bool → Manner
manner_of true = manners.AtOnce
manner_of false = manners.InOrder

-- which addresses are used
abbrev pub family_of : Bool → Bool → Family
family_of true only_v6 = families.V4
family_of false true = families.V6
family_of false false = families.Any

-- so many seconds, in nanoseconds
abbrev pub IsSeconds : ℕ → Duration → Type 0
IsSeconds count span = as_nanos span ≡ count * 1000000000

-- the same, if there is a limit
abbrev pub IsLimit : ℕ → Option Duration → Type 0
IsLimit count None = ⊥
IsLimit count (Some span) = IsSeconds count span

-- The limits that the options say: without a patience, 30 seconds; without a time for connecting, the patience; without
-- a time for everything, an hour.
pub record AreLimits (o : LimitOptions) (l : Limits) : Type 0 where
  pub connect : IsSeconds (unwrap_or o.connect (unwrap_or o.patience 30)) l.connect
  pub patience : IsSeconds (unwrap_or o.patience 30) l.patience
  pub total : IsLimit (unwrap_or o.within 3600) l.total
  pub family : l.family ≡ family_of o.only_v4 o.only_v6

-- the address of a chosen question
abbrev pub address_if : Bool → List ℕ → Option (List ℕ)
address_if true address = Some address
address_if false address = None

-- the addresses of the chosen questions among the first n
abbrev pub AreChosen : List (List ℕ) → List (List ℕ) → List (List ℕ) → ℕ → List (Option (List ℕ)) → Type 0
AreChosen only names addresses n chosen =
    (c : ℕ) (name address : List ℕ) → c < n → slice_get names c ≡ Some name → slice_get addresses c ≡ Some address
    → slice_get chosen c ≡ Some (address_if (is_picked only name) address)

-- the address of each chosen question, and none for each other
pub record IsChosen (only names addresses : List (List ℕ)) (chosen : List (Option (List ℕ))) : Type 0 where
  pub size : length chosen ≡ length addresses
  pub each : AreChosen only names addresses (length chosen) chosen

-- the addresses of the chosen questions, or the first name that no question has
abbrev pub AddressesResult
    : List (List ℕ) → List (List ℕ) → List (List ℕ) → Result (List (Option (List ℕ))) Fault → Type 0
AddressesResult only names addresses (Ok chosen) = AreAllKnown only names × IsChosen only names addresses chosen
AddressesResult only names addresses (Err (NoQuestion name)) = IsFirstUnknown only names name.now
AddressesResult only names addresses (Err Memory) = Unit {0}
AddressesResult only names addresses (Err _) = ⊥

-- each of the names is a question's, or this is the first that is not
abbrev pub CheckNamesResult : List (List ℕ) → List (List ℕ) → Result (Unit {0}) Fault → Type 0
CheckNamesResult only names (Ok u) = AreAllKnown only names
CheckNamesResult only names (Err (NoQuestion name)) = IsFirstUnknown only names name.now
CheckNamesResult only names (Err _) = ⊥
