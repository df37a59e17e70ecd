-- The text of facts in the form of a view is what is printed, if its columns and numbers of positions are theirs.
use Rattle.std.proofs.Common.{◌≡◌, ◌∙◌, ◌⊎◌, inl, inr, refl, sym, ap, subst, ℕ, Bool, true, false, List, [], ◌++◌, map, ⊎_elim}
use Rattle.std.specs.Prelude.{Contains, IfSome, string_bytes, ⊤}
use Rattle.zknow.specs.declared.fact.Fact.{Fact}
use Rattle.zknow.specs.declared.tables.keys.SetKey.{SetKey}
use Rattle.zknow.specs.FactLaws.{same_facts}
use Rattle.zknow_forms.specs.Forms.{whole_text, none_left, IsTold, IsAsTold, AreOthers, AreInParts, AllFormLaws}
use Rattle.zknow_forms.specs.declared.form.Form.{Form}
use Rattle.zknow_forms.specs.declared.form.Form.TheVariants as forms
use Rattle.zknow_forms.specs.declared.tally.Tally.{Tally}
use Rattle.zknow_runs.specs.Rows.{Sources}
use Rattle.zknow_runs.specs.declared.rows.Chosen.{Chosen}
use Rattle.zknow_titles.specs.Blocks.{filled_in, filled_at}
use Rattle.zknow_titles.specs.Names.{shown_names}
use Rattle.zknow_titles.specs.Parts.{title_top, title_rows, AllTitlePartLaws}
use Rattle.zknow_titles.specs.Rows.{widths}
use Rattle.zknow_titles.specs.Titles.{rows_of, titles, whole_records}
use Rattle.zknow_titles.specs.Titles.{view as readers_view}
use Rattle.zknow_titles.specs.declared.rows.Widths.{Widths}
use Rattle.zknow_titles.specs.declared.wholes.Extent.{Extent}
use Rattle.zknow_titles.specs.declared.wholes.Extent.TheVariants as extents
use Rattle.zmeta_args.specs.declared.arguments.View.{View}
use Rattle.zmeta_args.specs.declared.arguments.View.TheVariants.{Text, Hex, Titles, Fields, Json, Html}
use Rattle.zmeta_offline.specs.Joined.{parted, IsFormOf, IsMeasuredForm}
use Rattle.zmeta_offline.specs.Rows.{AreGivenOf}
use Rattle.zmeta_offline.specs.Views.{printed}
use Rattle.zmeta_offline.specs.declared.joined.PartedView.{PartedView}
use Rattle.zmeta_offline.specs.declared.joined.PartedView.TheVariants as parts

-- the columns and the numbers of positions that the form has are those of the facts
abbrev pub DoesFit : Form → List Fact → Type 0
DoesFit (forms.Titles shown extent w filled) facts = (w ≡ widths (map string_bytes shown.items) (rows_of facts))
    × ((b : SetKey) → filled_at filled.entries b ≡ filled_in facts b)
DoesFit _ facts = ⊤

-- ---- the text

titles_are : (names : List (List ℕ)) (facts : List Fact)
    → titles names [] [] facts ≡ readers_view extents.Title names [] [] facts
unfolding titles
titles_are names facts = refl

wholes_are : (names : List (List ℕ)) (facts : List Fact)
    → whole_records names [] [] facts ≡ readers_view extents.Whole names [] [] facts
unfolding whole_records
wholes_are names facts = refl

module _ (names : List (List ℕ)) (facts : List Fact) where
  -- the view in columns of these widths
  abbrev in_columns : Extent → Widths → (SetKey → ℕ) → List (List ℕ) → List ℕ
  in_columns extent w filled shown = title_top w filled shown [] facts ++ title_rows extent w shown [] facts

  -- the form is the view for readers in some columns
  pub record IsInColumns (shape : PartedView) (form : Form) : Type 0 where
    pub extent : Extent
    pub is : shape ≡ parts.Readers extent
    pub w : Widths
    pub filled : SetKey → ℕ
    pub text : whole_text form facts ≡ in_columns extent w filled (shown_names names)

  readers_columns : (shape : PartedView) (extent : Extent) → shape ≡ parts.Readers extent → (form : Form)
      → IsFormOf names (parts.Readers extent) form → IsInColumns shape form
  readers_columns shape extent same (forms.Octets syntax conflicts) is = absurd is
  readers_columns shape extent same (forms.List of mode) is = absurd is
  readers_columns shape extent same (forms.Json of) is = absurd is
  readers_columns shape extent same (forms.Measures shown) is = absurd is
  readers_columns shape extent same (forms.Titles shown of w filled) is = record {
    extent = extent;
    is = same;
    w = w;
    filled = filled_at filled.entries;
    text = ap (λ z. in_columns of w (filled_at filled.entries) z) is.1
        ∙ ap (λ z. in_columns z w (filled_at filled.entries) (shown_names names)) is.0;
  }

  module _ (law : AllTitlePartLaws) where
    readers_printed : (extent : Extent) (form : Form) → IsFormOf names (parts.Readers extent) form → DoesFit form facts
        → whole_text form facts ≡ readers_view extent names [] [] facts
    readers_printed extent (forms.Octets syntax conflicts) is fit = absurd is
    readers_printed extent (forms.List of mode) is fit = absurd is
    readers_printed extent (forms.Json of) is fit = absurd is
    readers_printed extent (forms.Measures shown) is fit = absurd is
    readers_printed extent (forms.Titles shown of w filled) is fit =
        ap (λ z. in_columns of w (filled_at filled.entries) z) is.1
        ∙ ap (λ z. in_columns z w (filled_at filled.entries) (shown_names names)) is.0
        ∙ sym ((law extent names [] [] facts w (filled_at filled.entries)).both
        (sym (fit.0 ∙ ap (λ z. widths z (rows_of facts)) is.1)) (λ b. sym (fit.1 b)))

    pub shape_printed : (view : View) → IfSome (parted view) (λ shape. (form : Form) → IsFormOf names shape form
        → DoesFit form facts → whole_text form facts ≡ printed names view [] [] facts)
    shape_printed Text = λ form is fit. ap (λ (z : Form). whole_text z facts) is
    shape_printed Hex = λ form is fit. ap (λ (z : Form). whole_text z facts) is
    shape_printed Json = λ form is fit. ap (λ (z : Form). whole_text z facts) is
    shape_printed Titles = λ form is fit. readers_printed extents.Title form is fit ∙ sym (titles_are names facts)
    shape_printed Fields = λ form is fit. readers_printed extents.Whole form is fit ∙ sym (wholes_are names facts)
    shape_printed (Html heading) = tt

-- ---- what is told of facts fits them

pub told_fit : (form : Form) (facts : List Fact) (told : Tally) → IsTold form facts told → IsAsTold form told
    → DoesFit form facts
told_fit (forms.Octets syntax conflicts) facts told is same = tt
told_fit (forms.List names mode) facts told is same = tt
told_fit (forms.Json names) facts told is same = tt
told_fit (forms.Measures shown) facts told is same = tt
told_fit (forms.Titles shown extent w filled) facts told is same =
    (same.0 ∙ is.columns, λ b. ap (λ (z : List (SetKey × ℕ)). filled_at z b) same.1 ∙ is.positions b)

-- what fits the records fits all
pub all_fit : AllFormLaws → (form : Form) (others given all : List Fact) → AreInParts others given all
    → AreOthers others → DoesFit form given → DoesFit form all
all_fit law (forms.Octets syntax conflicts) others given all parts none fit = tt
all_fit law (forms.List names mode) others given all parts none fit = tt
all_fit law (forms.Json names) others given all parts none fit = tt
all_fit law (forms.Measures shown) others given all parts none fit = tt
all_fit law (forms.Titles shown extent w filled) others given all parts none fit =
    let form : Form = forms.Titles shown extent w filled in
    let tally : Tally = record { left = none_left; widths = w; filled = filled } in
    let is : IsTold form given tally = record { left = refl; columns = fit.0; positions = fit.1 } in
    let told : IsTold form all tally = (law.parts form others given all).told parts none tally is in
    (told.columns, told.positions)

-- ---- the pass before tells what fits, if all octets are known

module _ (s : Sources) (c : Chosen) where
  -- then the same facts are given
  same_given : (xs ys : List Fact) → s.unknown ≡ false → AreGivenOf s c xs → AreGivenOf s c ys → xs ≡ ys
  same_given xs ys known of_xs of_ys =
      let through : (vs ws : List Fact) → AreGivenOf s c vs → AreGivenOf s c ws → (f : Fact) → Contains vs f
      → Contains ws f = λ vs ws of_vs of_ws f h. ⊎_elim (of_ws.complete f)
      (λ e. let no : false ≡ true = sym known ∙ e in absurd cc) (of_vs.sound f h).1 in
      same_facts xs ys of_xs.lawful of_ys.lawful (λ f. (through xs ys of_xs of_ys f, through ys xs of_ys of_xs f))

  module _ (names : List (List ℕ)) (given : List Fact) (are : AreGivenOf s c given) where
    -- it fits what is given, or it is the view for readers, and the octets of a file are not known
    abbrev pub FitsOrNot : PartedView → Form → Type 0
    FitsOrNot shape form = DoesFit form given
        ⊎ ((s.unknown ≡ true) × ((facts : List Fact) → IsInColumns names facts shape form))

    readers_fit : (extent : Extent) (form : Form) → IsFormOf names (parts.Readers extent) form
        → IsMeasuredForm c form s → (b : Bool) → s.unknown ≡ b → FitsOrNot (parts.Readers extent) form
    readers_fit extent form is measured true e =
        inr (e, λ facts. readers_columns names facts (parts.Readers extent) extent refl form is)
    readers_fit extent (forms.Octets syntax conflicts) is measured false e = absurd is
    readers_fit extent (forms.List of mode) is measured false e = absurd is
    readers_fit extent (forms.Json of) is measured false e = absurd is
    readers_fit extent (forms.Measures shown) is measured false e = absurd is
    readers_fit extent (forms.Titles shown of w filled) is measured false e =
        inl (subst (λ (z : List Fact). DoesFit (forms.Titles shown of w filled) z)
        (same_given measured.given given e measured.are are) (measured.columns, measured.positions))

    pub shape_fits : (shape : PartedView) (form : Form) → IsFormOf names shape form → IsMeasuredForm c form s
        → FitsOrNot shape form
    shape_fits (parts.List mode) form is measured =
        inl (subst (λ (z : Form). DoesFit z given) (sym is) tt)
    shape_fits parts.Json form is measured = inl (subst (λ (z : Form). DoesFit z given) (sym is) tt)
    shape_fits (parts.Readers extent) form is measured = readers_fit extent form is measured s.unknown refl
