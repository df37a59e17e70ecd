-- The paths of files: which are those of files of catalogues, and what is known of the octets there.
use Rattle.std.specs.Prelude.{◌≡◌, ℕ, nat_eq, Bool, List, Option, IfSome, codes}
use Rattle.std.specs.List.{ends_with}
use Rattle.zmeta_devices.specs.declared.fault.Fault.{Fault}
use Rattle.zmeta_devices.specs.declared.fault.Fault.TheVariants.{Read, Memory}

-- the path is that of a file of catalogues: it ends with `.toml`
abbrev pub is_catalogue_path : List ℕ → Bool
is_catalogue_path path = ends_with nat_eq path (codes ".toml")

-- the octets are those of the file, if these are known
abbrev pub AreOctetsOf : Option (List ℕ) → List ℕ → Type 0
AreOctetsOf known octets = IfSome known (λ due. octets ≡ due)

-- the file at the path cannot be read, or no memory was found
abbrev pub IsReadFault : List ℕ → Fault → Type 0
IsReadFault path (Read failed) = failed.now ≡ path
IsReadFault path Memory = Unit {0}
IsReadFault path _ = ⊥
