-- A file that can be read has no mistake.
use Rattle.std.proofs.Common.{◌≡◌, ◌∙◌, sym, ap, refl, subst, ℕ, ◌==◌, List, [], ◌∷◌, ◌++◌, length, map, Bool, true, false, cond, Option, None, Some, Result, Ok, Err}
use Rattle.std.specs.Option.{option_map, option_and_then, option_or}
use Rattle.toml.specs.Data.{Data, Members, no_members, member, get_member, as_table}
use Rattle.toml.specs.Parse.{parse_document}
use Rattle.zmeta_catalogues.specs.declared.catalogue.Catalogue.{Catalogue}
use Rattle.zmeta_catalogues.specs.declared.catalogue.Settings.{Settings}
use Rattle.zmeta_catalogues.specs.declared.catalogue.Terms.{Terms}
use Rattle.zmeta_catalogues.specs.declared.charset.Charset.{Charset}
use Rattle.zmeta_catalogues.specs.declared.error.CatalogueError.{CatalogueError}
use Rattle.zmeta_catalogues.specs.declared.fault.Key.{Key}
use Rattle.zmeta_catalogues.specs.declared.fault.Key.TheVariants as keys
use Rattle.zmeta_catalogues.specs.declared.fault.SettingFault.{SettingFault}
use Rattle.zmeta_catalogues.specs.declared.words.TableKind.{TableKind}
use Rattle.zmeta_catalogues.specs.declared.words.TableKind.TheVariants as kinds
use Rattle.zmeta_catalogues.specs.Keys.{name_of, term_keys, is_known}
use Rattle.zmeta_catalogues.specs.Words.{first_unknown, unknown_term, unknown_key, key_in}
use Rattle.zmeta_catalogues.specs.Lines.{line_of}
use Rattle.zmeta_catalogues.specs.Values.{Reading, bind, value_of, text_of, number_of, charset_of, syntax_text_of, records_of, query_of}
use Rattle.zmeta_catalogues.specs.Addresses.{address_of}
use Rattle.zmeta_catalogues.specs.Catalogues.{databases_of, with_numbers, settings_of, text_at, terms_at, terms_in, terms_of, asked_settings, catalogue_of}
use Rattle.zmeta_catalogues.specs.Operands.{HasPrefix, HasQuery, IsGivenPrefixFault, IsGivenQueryFault, AreQueries}
use Rattle.zmeta_catalogues.specs.Files.{IsCatalogueOf, IsCatalogueIn, IsCatalogueAt, AreNext, AreCatalogues, AreCataloguesOf}
use Rattle.zmeta_catalogues.specs.Mistakes.{fault_of, own_value, faults_for_all, AreFaultsOf, AreTermFaults, AreTermsFaults, AreFaultsIn, AreOwnTermFaults, AreQueryFaults, AreTextFaults, AreOwnFaults, Mistake, for_all, unknown, members_in, terms_table, unknown_keys, AreCatalogueMistakes, AreNamedMistakes, AreValueMistakes, AreMemberMistakes, AreMistakesIn, AreDocumentMistakes, AreErrors, AreMistakesOf}
use Rattle.zmeta_catalogues.proofs.ForAll.{read_same, numbered, texts_read}

-- ---- readings that were made

-- a setting of the table is not at fault, if what stands for it could be read
no_fault : {A : Type 0} (read : Option Data → Reading A) (n x : A) (own top : Option Data) → read None ≡ Ok n
    → read (option_or own top) ≡ Ok x → fault_of (read own) ≡ []
no_fault read n x None top none h = ap fault_of none
no_fault read n x (Some value) top none h = ap fault_of h

none_of : {A : Type 0} (a b : List A) → a ≡ [] → b ≡ [] → a ++ b ≡ []
none_of a b p q = ap (λ z. z ++ b) p ∙ q

abbrev charset_in : Settings → Reading (Option Charset)
charset_in s = Ok s.charset

numbers_read : (step window : Reading (Option ℕ)) (charset : Reading (Option Charset))
    (patience connect : Reading (Option ℕ)) (syntax elements records : Option (List ℕ)) (s : Settings)
    → numbered step window charset patience connect syntax elements records ≡ Ok s
    → (a b d e : Option ℕ) × (step ≡ Ok a) × (window ≡ Ok b) × (charset ≡ Ok s.charset) × (patience ≡ Ok d)
    × (connect ≡ Ok e)
numbers_read (Ok step) (Ok window) (Ok charset) (Ok patience) (Ok connect) syntax elements records s h =
    (step, window, patience, connect, refl, refl, ap charset_in (read_same _ s h), refl, refl)
numbers_read (Err e) window charset patience connect syntax elements records s h = absurd (cc)
numbers_read (Ok step) (Err e) charset patience connect syntax elements records s h = absurd (cc)
numbers_read (Ok step) (Ok window) (Err e) patience connect syntax elements records s h = absurd (cc)
numbers_read (Ok step) (Ok window) (Ok charset) (Err e) connect syntax elements records s h = absurd (cc)
numbers_read (Ok step) (Ok window) (Ok charset) (Ok patience) (Err e) syntax elements records s h = absurd (cc)

-- the settings could be read: none in the table is at fault, and this is the character set
pub settings_read : (own top : Members) (s : Settings) → settings_of own top ≡ Ok s
    → (faults_for_all own ≡ []) × (charset_of (value_of keys.Charset own top) ≡ Ok s.charset)
settings_read own top s h =
    let t = texts_read (syntax_text_of (value_of keys.Syntax own top))
    (text_of keys.Elements (value_of keys.Elements own top)) (records_of (value_of keys.Records own top))
    (with_numbers own top) s h in
    let n = numbers_read (number_of keys.Step 1000 (value_of keys.Step own top))
    (number_of keys.Window 64 (value_of keys.Window own top)) (charset_of (value_of keys.Charset own top))
    (number_of keys.Patience 3600 (value_of keys.Patience own top))
    (number_of keys.Connect 3600 (value_of keys.Connect own top)) t.0 t.1 t.2 s t.6 in (
      none_of _ _
          (none_of _ _
          (none_of _ _
          (none_of _ _
          (none_of _ _
          (none_of _ _
          (none_of _ _ (no_fault syntax_text_of None t.0 (own_value keys.Syntax own) (own_value keys.Syntax top) refl
          t.3)
          (no_fault (text_of keys.Elements) None t.1 (own_value keys.Elements own) (own_value keys.Elements top) refl
          t.4))
          (no_fault records_of None t.2 (own_value keys.Records own) (own_value keys.Records top) refl t.5))
          (no_fault (number_of keys.Step 1000) None n.0 (own_value keys.Step own) (own_value keys.Step top) refl n.4))
          (no_fault (number_of keys.Window 64) None n.1 (own_value keys.Window own) (own_value keys.Window top) refl
          n.5))
          (no_fault charset_of None s.charset (own_value keys.Charset own) (own_value keys.Charset top) refl n.6))
          (no_fault (number_of keys.Patience 3600) None n.2 (own_value keys.Patience own) (own_value keys.Patience top)
          refl n.7))
          (no_fault (number_of keys.Connect 3600) None n.3 (own_value keys.Connect own) (own_value keys.Connect top)
          refl n.8),
      n.6,
    )

-- ---- texts

-- a text that is sound
sound_text : (IsSound : Option (List ℕ) → Type 0) (IsFault : Option (List ℕ) → SettingFault → Type 0)
    (due : Reading (Option (List ℕ))) (text : Option (List ℕ)) → due ≡ Ok text → IsSound text
    → AreFaultsOf IsSound IsFault due []
sound_text IsSound IsFault due text is sound = subst (λ d. AreFaultsOf IsSound IsFault d []) (sym is) sound

-- the terms of these readings
abbrev pub seven : Reading (Option (List ℕ)) → Reading (Option (List ℕ)) → Reading (Option (List ℕ))
    → Reading (Option (List ℕ)) → Reading (Option (List ℕ)) → Reading (Option (List ℕ)) → Reading (Option (List ℕ))
    → Reading Terms
seven title author subject any isbn issn year =
    bind title (λ title.
    bind author (λ author.
    bind subject (λ subject.
    bind any (λ any.
    bind isbn (λ isbn.
    bind issn (λ issn.
    bind year (λ year.
    Ok (record {
      title = title;
      author = author;
      subject = subject;
      any = any;
      isbn = isbn;
      issn = issn;
      year = year;
    }))))))))

-- these are the texts of the terms
record AreTexts (title author subject any isbn issn year : Reading (Option (List ℕ))) (terms : Terms) : Type 0 where
  title_is : title ≡ Ok terms.title
  author_is : author ≡ Ok terms.author
  subject_is : subject ≡ Ok terms.subject
  any_is : any ≡ Ok terms.any
  isbn_is : isbn ≡ Ok terms.isbn
  issn_is : issn ≡ Ok terms.issn
  year_is : year ≡ Ok terms.year

abbrev terms_reading : Terms → Reading Terms
terms_reading terms = Ok terms

terms_same : (s t : Terms) → terms_reading s ≡ terms_reading t → s ≡ t
terms_same s t h = cc

texts_of_terms : (a b c d e f g : Reading (Option (List ℕ))) (t : Terms) → seven a b c d e f g ≡ Ok t
    → AreTexts a b c d e f g t
texts_of_terms (Ok a) (Ok b) (Ok c) (Ok d) (Ok e) (Ok f) (Ok g) t h =
    subst (λ (t : Terms). AreTexts (Ok a) (Ok b) (Ok c) (Ok d) (Ok e) (Ok f) (Ok g) t) (terms_same _ t h) (record {
      title_is = refl;
      author_is = refl;
      subject_is = refl;
      any_is = refl;
      isbn_is = refl;
      issn_is = refl;
      year_is = refl;
    })
texts_of_terms (Err x) b c d e f g t h = absurd (cc)
texts_of_terms (Ok a) (Err x) c d e f g t h = absurd (cc)
texts_of_terms (Ok a) (Ok b) (Err x) d e f g t h = absurd (cc)
texts_of_terms (Ok a) (Ok b) (Ok c) (Err x) e f g t h = absurd (cc)
texts_of_terms (Ok a) (Ok b) (Ok c) (Ok d) (Err x) f g t h = absurd (cc)
texts_of_terms (Ok a) (Ok b) (Ok c) (Ok d) (Ok e) (Err x) g t h = absurd (cc)
texts_of_terms (Ok a) (Ok b) (Ok c) (Ok d) (Ok e) (Ok f) (Err x) t h = absurd (cc)

abbrev pub from_year : List Key
from_year = keys.Year ∷ []

abbrev pub from_issn : List Key
from_issn = keys.Issn ∷ from_year

abbrev pub from_isbn : List Key
from_isbn = keys.Isbn ∷ from_issn

abbrev pub from_any : List Key
from_any = keys.Any ∷ from_isbn

abbrev pub from_subject : List Key
from_subject = keys.Subject ∷ from_any

abbrev pub from_author : List Key
from_author = keys.Author ∷ from_subject

sound_term : (terms : Members) (key : Key) (text : Option (List ℕ)) (others : List Key)
    → text_at key terms ≡ Ok text → HasPrefix text → AreTermsFaults terms others []
    → AreTermsFaults terms (key ∷ others) []
sound_term terms key text others is sound next =
    ([], [], refl, sound_text HasPrefix (IsGivenPrefixFault key) (text_at key terms) text is sound, next)

sound_table : (ms : Members) (t : Terms) (query : Option (List ℕ)) → terms_at ms ≡ Ok t → AreQueries t query
    → AreTermsFaults ms term_keys []
sound_table ms t query h are =
    let is = texts_of_terms (text_at keys.Title ms) (text_at keys.Author ms) (text_at keys.Subject ms)
    (text_at keys.Any ms) (text_at keys.Isbn ms) (text_at keys.Issn ms) (text_at keys.Year ms) t h in
    sound_term ms keys.Title t.title from_author is.title_is are.title
    (sound_term ms keys.Author t.author from_subject is.author_is are.author
    (sound_term ms keys.Subject t.subject from_any is.subject_is are.subject
    (sound_term ms keys.Any t.any from_isbn is.any_is are.any
    (sound_term ms keys.Isbn t.isbn from_issn is.isbn_is are.isbn
    (sound_term ms keys.Issn t.issn from_year is.issn_is are.issn
    (sound_term ms keys.Year t.year [] is.year_is are.year refl))))))

sound_terms_in : (ms : Option Members) (t : Terms) (query : Option (List ℕ)) → terms_in ms ≡ Ok t
    → AreQueries t query → AreFaultsIn ms []
sound_terms_in None t query h are = absurd (cc)
sound_terms_in (Some ms) t query h are = sound_table ms t query h are

sound_terms : (value : Option Data) (t : Terms) (query : Option (List ℕ)) → terms_of value ≡ Ok t
    → AreQueries t query → AreOwnTermFaults value []
sound_terms None t query h are = refl
sound_terms (Some value) t query h are = sound_terms_in (as_table value) t query h are

sound_query : (due : Reading (Option Charset)) (charset : Option Charset) (value : Option Data)
    (query : Option (List ℕ)) → due ≡ Ok charset → query_of charset value ≡ Ok query → HasQuery query
    → AreQueryFaults due value []
sound_query due charset value query known is sound =
    subst (λ (d : Reading (Option Charset)). AreQueryFaults d value []) (sym known)
    (sound_text HasQuery IsGivenQueryFault (query_of charset value) query is sound)

-- ---- the settings of a catalogue

abbrev query_reading : Option (List ℕ) → Reading (Option (List ℕ))
query_reading query = Ok query

abbrev settings_reading : Settings → Reading Settings
settings_reading s = Ok s

abbrev pub asked_reading : Settings × Option (List ℕ) → Reading (Settings × Option (List ℕ))
asked_reading x = Ok x

asked_same : (x y : Settings × Option (List ℕ)) → asked_reading x ≡ asked_reading y → x ≡ y
asked_same x y h = cc

asked_pair : (settings : Settings) (due : Reading (Option (List ℕ))) (asked : Settings × Option (List ℕ))
    → bind due (λ query. asked_reading (settings, query)) ≡ Ok asked
    → (settings ≡ asked.0) × (due ≡ Ok asked.1)
asked_pair settings (Err f) asked h = absurd (cc)
asked_pair settings (Ok query) asked h =
    let same = asked_same (settings, query) asked h in (
      ap (λ (x : Settings × Option (List ℕ)). x.0) same,
      ap (λ (x : Settings × Option (List ℕ)). query_reading x.1) same,
    )

asked_read : (due : Reading Settings) (value : Option Data) (asked : Settings × Option (List ℕ))
    → bind due (λ settings. bind (query_of settings.charset value) (λ query. asked_reading (settings, query)))
    ≡ Ok asked
    → (due ≡ Ok asked.0) × (query_of asked.0.charset value ≡ Ok asked.1)
asked_read (Err f) value asked h = absurd (cc)
asked_read (Ok settings) value asked h =
    let p = asked_pair settings (query_of settings.charset value) asked h in (
      ap settings_reading p.0,
      subst (λ (x : Settings). query_of x.charset value ≡ Ok asked.1) p.0 p.1,
    )

-- the four readings of a catalogue
abbrev pub catalogue_in : List ℕ → ℕ → Reading (List ℕ) → Reading (List (List ℕ))
    → Reading (Settings × Option (List ℕ)) → Reading Terms → Reading Catalogue
catalogue_in name line address databases asked terms =
    bind address (λ address.
    bind databases (λ databases.
    bind asked (λ asked.
    bind terms (λ terms.
    Ok (record {
      name = name;
      line = line;
      address = address;
      databases = databases;
      settings = asked.0;
      terms = terms;
      query = asked.1;
    })))))

abbrev catalogue_reading : Catalogue → Reading Catalogue
catalogue_reading c = Ok c

pub catalogue_same : (c d : Catalogue) → catalogue_reading c ≡ catalogue_reading d → c ≡ d
catalogue_same c d h = cc

catalogue_read : (name : List ℕ) (line : ℕ) (address : Reading (List ℕ)) (databases : Reading (List (List ℕ)))
    (asked : Reading (Settings × Option (List ℕ))) (terms : Reading Terms) (c : Catalogue)
    → catalogue_in name line address databases asked terms ≡ Ok c
    → (fault_of address ≡ []) × (fault_of databases ≡ []) × (asked ≡ Ok (c.settings, c.query)) × (terms ≡ Ok c.terms)
catalogue_read name line (Ok address) (Ok databases) (Ok asked) (Ok terms) c h =
    let same = catalogue_same _ c h in (
      refl,
      refl,
      ap (λ (x : Catalogue). asked_reading (x.settings, x.query)) same,
      ap (λ (x : Catalogue). terms_reading x.terms) same,
    )
catalogue_read name line (Err f) databases asked terms c h = absurd (cc)
catalogue_read name line (Ok address) (Err f) asked terms c h = absurd (cc)
catalogue_read name line (Ok address) (Ok databases) (Err f) terms c h = absurd (cc)
catalogue_read name line (Ok address) (Ok databases) (Ok asked) (Err f) c h = absurd (cc)

-- the settings of a catalogue that could be read are not at fault
no_own_faults : (top : Members) (name : List ℕ) (line : ℕ) (own : Members) (c : Catalogue)
    → catalogue_of name line own top ≡ Ok c → AreQueries c.terms c.query → AreOwnFaults own top []
no_own_faults top name line own c h are =
    let r = catalogue_read name line (address_of (own_value keys.Address own))
    (databases_of (own_value keys.Database own)) (asked_settings own top) (terms_of (own_value keys.Terms own)) c h in
    let a = asked_read (settings_of own top) (own_value keys.Query own) (c.settings, c.query) r.2 in
    let s = settings_read own top c.settings a.0 in (
      [],
      [],
      refl,
      sym (none_of _ _ (none_of _ _ r.0 r.1) s.0),
      (
        [],
        [],
        refl,
        sound_terms (own_value keys.Terms own) c.terms c.query r.3 are,
        sound_query (charset_of (value_of keys.Charset own top)) c.settings.charset (own_value keys.Query own) c.query
            s.1 a.1 are.query,
      ),
    )

-- ---- keys

keys_next : (b : Bool) (word : List ℕ) (first : Option (List ℕ)) (mistake : Mistake) (others : List Mistake)
    → cond b first (Some word) ≡ None → (first ≡ None → others ≡ []) → cond b [] (mistake ∷ []) ++ others ≡ []
keys_next true word first mistake others h next = next h
keys_next false word first mistake others h next = absurd (cc)

-- a table without a first key that is not known has none
no_keys_of : (name : List ℕ) (kind : TableKind) (ms : Members) → first_unknown kind ms ≡ None
    → unknown_keys name kind ms ≡ []
no_keys_of name kind no_members h = refl
no_keys_of name kind (member word value ms) h =
    keys_next (is_known kind word) word (first_unknown kind ms) (unknown name kind word) (unknown_keys name kind ms) h
    (λ k. no_keys_of name kind ms k)

neither : {A B : Type 0} (f g : A → B) (a b : Option A) → option_or (option_map f a) (option_map g b) ≡ None
    → (a ≡ None) × (b ≡ None)
neither f g None None h = (refl, refl)
neither f g None (Some y) h = absurd (cc)
neither f g (Some x) b h = absurd (cc)

no_term_keys : (name : List ℕ) (terms : Option Members)
    → option_and_then (first_unknown kinds.Terms) terms ≡ None → unknown_keys name kinds.Terms (members_in terms) ≡ []
no_term_keys name None h = refl
no_term_keys name (Some ms) h = no_keys_of name kinds.Terms ms h

no_keys : (name : List ℕ) (own : Members) → unknown_key own ≡ None
    → unknown_keys name kinds.Catalogue own ++ unknown_keys name kinds.Terms (terms_table own) ≡ []
no_keys name own h =
    let n = neither (key_in kinds.Catalogue) (key_in kinds.Terms) (first_unknown kinds.Catalogue own)
    (unknown_term own) h in
    none_of (unknown_keys name kinds.Catalogue own) (unknown_keys name kinds.Terms (terms_table own))
    (no_keys_of name kinds.Catalogue own n.0)
    (no_term_keys name (option_and_then as_table (own_value keys.Terms own)) n.1)

-- ---- the file

no_catalogue_mistakes : (text : List ℕ) (top : Members) (name : List ℕ) (own : Members) (c : Catalogue)
    → IsCatalogueOf text top name own c → AreNamedMistakes (length name == 0) top name own []
no_catalogue_mistakes text top name own c is =
    subst (λ (b : Bool). AreNamedMistakes b top name own []) (sym is.named) (
      [],
      [],
      refl,
      sym (no_keys name own is.known),
      ([], no_own_faults top name (line_of text name) own c is.asked.is is.asked.queries, refl),
    )

no_value_mistakes : (text : List ℕ) (top : Members) (name : List ℕ) (own : Option Members) (c : Catalogue)
    → IsCatalogueIn text top name own c → AreValueMistakes top name own []
no_value_mistakes text top name None c is = absurd is
no_value_mistakes text top name (Some own) c is = no_catalogue_mistakes text top name own c is

next_read : (b : Bool) (text : List ℕ) (top : Members) (name : List ℕ) (value : Data)
    (Rest : List Catalogue → Type 0) (cs : List Catalogue)
    → AreNext b (λ c. IsCatalogueAt text top name value c) Rest cs
    → (rest : List Catalogue) × Rest rest × AreMemberMistakes b top name value []
next_read true text top name value Rest cs h = (cs, h, refl)
next_read false text top name value Rest [] h = absurd h
next_read false text top name value Rest (c ∷ cs) h =
    (cs, h.1, no_value_mistakes text top name (as_table value) c h.0)

no_member_mistakes : (text : List ℕ) (top ms : Members) (cs : List Catalogue) → AreCatalogues text top ms cs
    → AreMistakesIn top ms []
no_member_mistakes text top no_members cs h = refl
no_member_mistakes text top (member name value ms) cs h =
    let n = next_read (is_known kinds.Top name) text top name value
    (λ (r : List Catalogue). AreCatalogues text top ms r) cs h in
    ([], [], refl, n.2, no_member_mistakes text top ms n.0 n.1)

abbrev some_top : Members → Option Members
some_top top = Some top

top_same : (s t : Members) → some_top s ≡ some_top t → s ≡ t
top_same s t h = cc

-- no mistake is listed of a document that can be read
pub none_listed : (text : List ℕ) (top : Members) (cs : List Catalogue) (list : List CatalogueError)
    → parse_document text ≡ Some top → AreCataloguesOf text cs → list ≡ [] → AreMistakesOf text top list
none_listed text top cs list parsed are none =
    let same : are.top ≡ top = top_same are.top top (sym are.parsed ∙ parsed) in
    let s = settings_read are.top are.top are.for_all are.sound in
    let mistakes : AreDocumentMistakes are.top [] = (
      [],
      [],
      refl,
      sym (ap (map (λ fault. for_all fault)) s.0),
      no_member_mistakes text are.top are.top are.read are.are,
    ) in
    subst (AreMistakesOf text top) (sym none) (record {
      told = [];
      errors = ([], subst (λ (ms : Members). AreDocumentMistakes ms []) same mistakes, tt);
      listed = tt;
    })
