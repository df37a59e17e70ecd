use Rattle.zhtml.proofs.MarkupTheory.{nothing_is_markup, append_is_markup, text_is_markup, element_is_markup, void_is_markup, style_is_markup}
use Rattle.zhtml.proofs.laws.markup_laws.Goals as goal

pub returns : goal.returns
returns c = record {
  nothing = nothing_is_markup;
  joined = append_is_markup;
  texts = text_is_markup;
  elements = element_is_markup;
  void_elements = void_is_markup;
  style_sheets = style_is_markup;
}
