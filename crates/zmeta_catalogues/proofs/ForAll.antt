-- The settings for all.
use Rattle.std.proofs.Common.{◌≡◌, ℕ, List, Option, Some, None, Ok, Err, refl, sym, ap, ◌∙◌}
use Rattle.std.specs.Option.{option_or}
use Rattle.toml.specs.Data.{Data, Members, get_member}
use Rattle.zmeta_catalogues.specs.declared.catalogue.Settings.{Settings}
use Rattle.zmeta_catalogues.specs.declared.charset.Charset.{Charset}
use Rattle.zmeta_catalogues.specs.declared.fault.Key.TheVariants as keys
use Rattle.zmeta_catalogues.specs.Keys.{name_of}
use Rattle.zmeta_catalogues.specs.Values.{Reading, bind, value_of, text_of, number_of, charset_of, syntax_text_of, records_of}
use Rattle.zmeta_catalogues.specs.Catalogues.{with_numbers, settings_of, AreForAll}

abbrev pub read : Settings → Reading Settings
read s = Ok s

pub read_same : (s t : Settings) → read s ≡ read t → s ≡ t
read_same s t h = cc

-- the settings of these readings, with these texts
abbrev pub numbered : Reading (Option ℕ) → Reading (Option ℕ) → Reading (Option Charset) → Reading (Option ℕ)
    → Reading (Option ℕ) → Option (List ℕ) → Option (List ℕ) → Option (List ℕ) → Reading Settings
numbered step window charset patience connect syntax elements records =
    bind step (λ step.
    bind window (λ window.
    bind charset (λ charset.
    bind patience (λ patience.
    bind connect (λ connect.
    Ok (record {
      syntax = syntax;
      elements = elements;
      records = records;
      step = step;
      window = window;
      charset = charset;
      patience = patience;
      connect = connect;
    }))))))

-- the numbers leave the texts as they are
texts_kept : (step window : Reading (Option ℕ)) (charset : Reading (Option Charset))
    (patience connect : Reading (Option ℕ)) (syntax elements records : Option (List ℕ)) (s : Settings)
    → numbered step window charset patience connect syntax elements records ≡ Ok s
    → (syntax ≡ s.syntax) × (elements ≡ s.elements) × (records ≡ s.records)
texts_kept (Ok step) (Ok window) (Ok charset) (Ok patience) (Ok connect) syntax elements records s h =
    let same = read_same _ s h in (
      ap (λ (x : Settings). x.syntax) same,
      ap (λ (x : Settings). x.elements) same,
      ap (λ (x : Settings). x.records) same,
    )
texts_kept (Err e) window charset patience connect syntax elements records s h = absurd (cc)
texts_kept (Ok step) (Err e) charset patience connect syntax elements records s h = absurd (cc)
texts_kept (Ok step) (Ok window) (Err e) patience connect syntax elements records s h = absurd (cc)
texts_kept (Ok step) (Ok window) (Ok charset) (Err e) connect syntax elements records s h = absurd (cc)
texts_kept (Ok step) (Ok window) (Ok charset) (Ok patience) (Err e) syntax elements records s h = absurd (cc)

-- all three texts were read
pub texts_read : (syntax elements records : Reading (Option (List ℕ)))
    (next : Option (List ℕ) → Option (List ℕ) → Option (List ℕ) → Reading Settings) (s : Settings)
    → bind syntax (λ x. bind elements (λ y. bind records (λ z. next x y z))) ≡ Ok s
    → (x : Option (List ℕ)) × (y : Option (List ℕ)) × (z : Option (List ℕ)) × (syntax ≡ Ok x) × (elements ≡ Ok y)
    × (records ≡ Ok z) × (next x y z ≡ Ok s)
texts_read (Ok x) (Ok y) (Ok z) next s h = (x, y, z, refl, refl, refl, h)
texts_read (Err e) elements records next s h = absurd (cc)
texts_read (Ok x) (Err e) records next s h = absurd (cc)
texts_read (Ok x) (Ok y) (Err e) next s h = absurd (cc)

-- the value of the top is its own, or else that for all
one_value : {A : Type 0} (o : Option Data) (read : Option Data → Reading A) {r : Reading A} → read (option_or o o) ≡ r
    → read o ≡ r
one_value None read h = h
one_value (Some value) read h = h

-- the settings that were read of the top alone
pub are_for_all : (top : Members) (s : Settings) → settings_of top top ≡ Ok s → AreForAll top s
are_for_all top s h =
    let read =
    texts_read (syntax_text_of (value_of keys.Syntax top top)) (text_of keys.Elements (value_of keys.Elements top top))
    (records_of (value_of keys.Records top top)) (with_numbers top top) s h in
    let kept =
    texts_kept (number_of keys.Step 1000 (value_of keys.Step top top))
    (number_of keys.Window 64 (value_of keys.Window top top)) (charset_of (value_of keys.Charset top top))
    (number_of keys.Patience 3600 (value_of keys.Patience top top))
    (number_of keys.Connect 3600 (value_of keys.Connect top top)) read.0 read.1 read.2 s read.6 in record {
      syntax = one_value (get_member (name_of keys.Syntax) top) syntax_text_of read.3 ∙ ap Ok kept.0;
      elements = one_value (get_member (name_of keys.Elements) top) (text_of keys.Elements) read.4 ∙ ap Ok kept.1;
      records = one_value (get_member (name_of keys.Records) top) records_of read.5 ∙ ap Ok kept.2;
    }

module _ (own top : Members) (s : Settings) (h : AreForAll top s) where
  pub syntax_for_all : None ≡ get_member (name_of keys.Syntax) own
      → syntax_text_of (value_of keys.Syntax own top) ≡ Ok s.syntax
  syntax_for_all none =
      ap (λ (o : Option Data). syntax_text_of (option_or o (get_member (name_of keys.Syntax) top))) (sym none)
      ∙ h.syntax

  pub elements_for_all : None ≡ get_member (name_of keys.Elements) own
      → text_of keys.Elements (value_of keys.Elements own top) ≡ Ok s.elements
  elements_for_all none =
      ap (λ (o : Option Data). text_of keys.Elements (option_or o (get_member (name_of keys.Elements) top))) (sym none)
      ∙ h.elements

  pub records_for_all : None ≡ get_member (name_of keys.Records) own
      → records_of (value_of keys.Records own top) ≡ Ok s.records
  records_for_all none =
      ap (λ (o : Option Data). records_of (option_or o (get_member (name_of keys.Records) top))) (sym none)
      ∙ h.records
