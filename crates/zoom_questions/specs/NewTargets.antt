-- Targets that have received nothing.
use Rattle.std.specs.Prelude.{◌≡◌, List, [], ◌∷◌}
use Rattle.ztarget.specs.Receiving.{TargetState, new_target}

-- the target has received nothing
abbrev pub IsNew : TargetState → Type 0
IsNew t = t ≡ new_target t.databases t.settings

-- each target has received nothing
abbrev pub AreNew : List TargetState → Type 0
AreNew [] = Unit {0}
AreNew (t ∷ ts) = IsNew t × AreNew ts
