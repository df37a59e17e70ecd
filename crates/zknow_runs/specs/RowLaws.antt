-- What was written is a front of the head and the text of facts that may be given.
use Rattle.std.specs.Prelude.{◌≡◌, ℕ, true, List, Contains}
use Rattle.zknow_runs.specs.Rows.{AreRowsFront, Sources, HoldsOf, AreTaken}
use Rattle.zknow_runs.specs.declared.rows.Rows.{Rows}
use Rattle.zknow_runs.specs.declared.rows.Taking.{Taking}

-- the octets are a front of the head and the text of facts that may be given
abbrev pub AreRowsFrontOf : Sources → Taking → List ℕ → Type 0
AreRowsFrontOf s t text = AreRowsFront s.files (Contains s.known) (s.unknown ≡ true) t text

-- so it is for any files, if each known record is one of those that are taken
abbrev pub AllRowLaws : Type 0
AllRowLaws =
    (s : Sources) (t : Taking) (text : List ℕ) (rows : Rows) → HoldsOf s t text rows
    → AreTaken s t → AreRowsFrontOf s t text
