-- Asking, from its start to its end.
use Rattle.std.specs.Prelude.{◌≡◌, true, List, [], ◌∷◌}
use Rattle.zoom_pool.specs.Metas.{MetaLinks}
use Rattle.zoom_asking.specs.declared.asking.Asking.{Asking}
use Rattle.zoom_asking.specs.declared.inquiry.Report.{Report}
use Rattle.zoom_asking.specs.Inquiries.{Inquiry, Entry, Reported, Passed, GivenUp, Came, Noted, signal_of}
use Rattle.zoom_asking.specs.Askings.{AskingAfter, AreOver}

-- a caller can report this
abbrev pub IsReport : Entry → Type 0
IsReport (Reported at c (Came piece)) = Unit {0}
IsReport (Reported at c (Noted what)) = (report : Report) × (what ≡ signal_of report)
IsReport (Passed at) = Unit {0}
IsReport (GivenUp at) = Unit {0}

abbrev pub AreReports : List Entry → Type 0
AreReports [] = Unit {0}
AreReports (x ∷ xs) = IsReport x × AreReports xs

-- After these reports each connection is over, or was not chosen, and this is known.
pub record IsAskedBy (i : Inquiry) (history : List Entry) (meta : MetaLinks) : Type 0 where
  pub asking : Asking
  pub after : AskingAfter i history asking
  pub reports : AreReports history
  pub over : AreOver true after.hosts
  pub known : meta ≡ asking.meta
