use Rattle.std.proofs.Common.{sym, ◌∙◌}
use Rattle.std.proofs.lemmas.Slice.Eq.{slice_eq-Decides, bytes_eq-Decides}
use Rattle.zmeta_offline.proofs.join.are_same.Goals as goal

pub returns : goal.returns
returns c =
    let decides = slice_eq-Decides bytes_eq-Decides c.as_slice.result.now c.as_slice-2.result.now c.eq.result c.eq.ensures in
    (λ test. sym c.as_slice.ensures ∙ decides.0 test ∙ c.as_slice-2.ensures, λ same. decides.1 (c.as_slice.ensures ∙ same ∙ sym c.as_slice-2.ensures))
