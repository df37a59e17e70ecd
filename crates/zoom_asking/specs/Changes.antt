-- What a signal changed.
use Rattle.std.specs.Prelude.{Bool, Option, Some, None}
use Rattle.zoom_clock.specs.declared.stage.Stage.{Stage}
use Rattle.zoom_clock.specs.declared.stage.Stage.TheVariants.{NotChosen, Resolving, Connecting, Talking, Over}
use Rattle.zoom_asking.specs.declared.change.Change.{Change}
use Rattle.zoom_asking.specs.declared.change.Change.TheVariants as changes
use Rattle.zoom_asking.specs.declared.change.Kind.{Kind}
use Rattle.zoom_asking.specs.declared.change.Kind.TheVariants as kinds

-- the kind of a stage
abbrev pub kind_of : Stage → Kind
kind_of NotChosen = kinds.Settled
kind_of Resolving = kinds.Connecting
kind_of (Connecting a) = kinds.Connecting
kind_of (Talking t) = kinds.Talking
kind_of (Over ending) = kinds.Settled

-- what changed, by the kind of the stage before, and the stage after
abbrev pub change_of : Kind → Stage → Change
change_of kinds.Connecting (Talking t) = changes.Opened
change_of kinds.Connecting (Over ending) = changes.Ended ending
change_of kinds.Talking (Over ending) = changes.Ended ending
change_of _ _ = changes.Same

-- what changed, by the stages before and after
abbrev pub change_between : Stage → Stage → Change
change_between old new = change_of (kind_of old) new

-- whether a write failed on a connection that is talked with
abbrev pub lost_of : Stage → Option Bool
lost_of (Talking t) = Some t.lost
lost_of _ = None
