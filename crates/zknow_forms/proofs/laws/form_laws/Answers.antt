use Rattle.zknow_forms.proofs.FormTheory.{form_laws_hold}
use Rattle.zknow_forms.proofs.laws.form_laws.Goals as goal

pub returns : goal.returns
returns c = form_laws_hold
