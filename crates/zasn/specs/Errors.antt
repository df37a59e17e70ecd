-- The names of the reasons why elements were not read, or not built.
use Rattle.std.specs.Prelude.{ℕ, List, codes}
use Rattle.zasn.specs.declared.error.PartError.{PartError}
use Rattle.zasn.specs.declared.error.PartError.TheVariants as parts
use Rattle.zasn.specs.declared.error.BuildError.{BuildError}
use Rattle.zasn.specs.declared.error.BuildError.TheVariants as builds

-- the name of a reason why a part was not read, as character codes
abbrev pub part_error_name : PartError → List ℕ
part_error_name parts.Misfit = codes "Misfit"
part_error_name parts.Memory = codes "Memory"

-- the name of a reason why an element was not built, as character codes
abbrev pub build_error_name : BuildError → List ℕ
build_error_name builds.NotSpellable = codes "NotSpellable"
build_error_name builds.Memory = codes "Memory"
