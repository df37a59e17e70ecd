-- The laws of each form.
use Rattle.std.proofs.Common.{List, refl}
use Rattle.zknow.specs.declared.fact.Fact.{Fact}
use Rattle.zknow_json.specs.Lines.{json_lines}
use Rattle.zknow_forms.specs.Forms.{FormLaws, EmptyLaws, AllFormLaws}
use Rattle.zknow_forms.specs.declared.form.Form.{Form}
use Rattle.zknow_forms.specs.declared.form.Form.TheVariants as forms
use Rattle.zknow_forms.proofs.JsonForm.{json_laws}
use Rattle.zknow_forms.proofs.ListForm.{list_laws, list_empty}
use Rattle.zknow_forms.proofs.OctetsForm.{octets_laws, octets_empty}
use Rattle.zknow_forms.proofs.TitlesForm.{titles_laws, measures_laws}

laws_of : (form : Form) (low high all : List Fact) → FormLaws form low high all
laws_of (forms.Octets syntax conflicts) low high all = octets_laws syntax conflicts low high all
laws_of (forms.List names mode) low high all = list_laws names mode low high all
laws_of (forms.Json names) low high all = json_laws names low high all
laws_of (forms.Titles shown extent w filled) low high all = titles_laws shown extent w filled low high all
laws_of (forms.Measures shown) low high all = measures_laws shown low high all

empty_of : (form : Form) → EmptyLaws form
unfolding json_lines
empty_of (forms.Octets syntax conflicts) = octets_empty syntax conflicts
empty_of (forms.List names mode) = list_empty names mode
empty_of (forms.Json names) = record { text = refl }
empty_of (forms.Titles shown extent w filled) = record { text = refl }
empty_of (forms.Measures shown) = record { text = refl }

pub form_laws_hold : AllFormLaws
form_laws_hold = record { parts = laws_of; empty = empty_of }
