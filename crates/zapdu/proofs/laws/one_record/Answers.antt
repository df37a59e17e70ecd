use Rattle.std.proofs.Common.{◌≡◌, Some}
use Rattle.zapdu.specs.Productions.Records.{whole_record}
use Rattle.zapdu.proofs.laws.one_record.Goals as goal

pub returns : goal.returns
returns c = λ v w n h k.
    let mine : whole_record.meaning n ≡ Some v = whole_record.finds v n h in
    let other : whole_record.meaning n ≡ Some w = whole_record.finds w n k in
    cc
