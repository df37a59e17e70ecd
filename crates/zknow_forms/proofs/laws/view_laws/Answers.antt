use Rattle.zknow_forms.proofs.ViewForm.{view_laws_hold}
use Rattle.zknow_forms.proofs.laws.view_laws.Goals as goal

pub returns : goal.returns
returns c = view_laws_hold
