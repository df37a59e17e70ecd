use Rattle.std.proofs.Common.{◌≡◌, Some}
use Rattle.zapdu.specs.Productions.Diagnostics.{diag_rec}
use Rattle.zapdu.proofs.laws.one_diagnostic.Goals as goal

pub returns : goal.returns
returns c = λ v w n h k.
    let mine : diag_rec.meaning n ≡ Some v = diag_rec.finds v n h in
    let other : diag_rec.meaning n ≡ Some w = diag_rec.finds w n k in
    cc
