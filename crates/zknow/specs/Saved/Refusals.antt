-- The names of refusals of saved files, in ASCII codes.
use Rattle.std.specs.Prelude.{ℕ, List, codes}
use Rattle.zknow.specs.declared.saved.loading.LoadError.{LoadError}
use Rattle.zknow.specs.declared.saved.loading.LoadError.TheVariants as loads
use Rattle.zknow.specs.declared.saved.saving.SaveError.{SaveError}
use Rattle.zknow.specs.declared.saved.saving.SaveError.TheVariants as saves

-- the name of an error of `load`
abbrev pub load_error_name : LoadError → List ℕ
load_error_name (loads.NotKnowledge _) = codes "NotKnowledge"
load_error_name (loads.NotCanonical _) = codes "NotCanonical"
load_error_name loads.Memory = codes "Memory"

-- the name of an error of `save`
abbrev pub save_error_name : SaveError → List ℕ
save_error_name saves.TooDeep = codes "TooDeep"
save_error_name saves.TooLong = codes "TooLong"
save_error_name saves.Memory = codes "Memory"
