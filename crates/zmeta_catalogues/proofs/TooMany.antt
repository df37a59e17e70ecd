-- A document without a mistake is refused only for too many catalogues.
use Rattle.std.proofs.Common.{◌≡◌, ◌≢◌, ◌∙◌, sym, ap, refl, subst, ℕ, ◌==◌, List, [], ◌∷◌, ◌++◌, length, map, Bool, true, false, cond, Option, None, Some, Ok, Err, inl, inr, string_bytes, true≢false}
use Rattle.std.specs.Option.{option_map, option_and_then, option_or}
use Rattle.toml.specs.Data.{Data, Members, no_members, member, as_table}
use Rattle.zquery.specs.Notation.Laws.{OneQueryOrFault}
use Rattle.zquery.specs.Notation.Texts.{IsTextFault}
use Rattle.zquery.specs.Trees.{RpnQuery}
use Rattle.zmeta_world.specs.Worlds.{IsQueryOf}
use Rattle.zmeta_catalogues.specs.declared.catalogue.Catalogue.{Catalogue}
use Rattle.zmeta_catalogues.specs.declared.catalogue.Settings.{Settings}
use Rattle.zmeta_catalogues.specs.declared.catalogue.Terms.{Terms}
use Rattle.zmeta_catalogues.specs.declared.charset.Charset.{Charset}
use Rattle.zmeta_catalogues.specs.declared.error.CatalogueError.{CatalogueError}
use Rattle.zmeta_catalogues.specs.declared.error.CatalogueError.TheVariants as errors
use Rattle.zmeta_catalogues.specs.declared.fault.Key.{Key}
use Rattle.zmeta_catalogues.specs.declared.fault.Key.TheVariants as keys
use Rattle.zmeta_catalogues.specs.declared.fault.FaultKind.{FaultKind}
use Rattle.zmeta_catalogues.specs.declared.fault.FaultKind.TheVariants as faults
use Rattle.zmeta_catalogues.specs.declared.fault.SettingFault.{SettingFault}
use Rattle.zmeta_catalogues.specs.declared.words.TableKind.{TableKind}
use Rattle.zmeta_catalogues.specs.declared.words.TableKind.TheVariants as kinds
use Rattle.zmeta_catalogues.specs.Keys.{term_keys, is_known}
use Rattle.zmeta_catalogues.specs.Words.{first_unknown, unknown_term, unknown_key, key_in}
use Rattle.zmeta_catalogues.specs.Lines.{line_of}
use Rattle.zmeta_catalogues.specs.Values.{Reading, bind, value_of, text_of, number_of, charset_of, syntax_text_of, records_of, query_of}
use Rattle.zmeta_catalogues.specs.Addresses.{address_of}
use Rattle.zmeta_catalogues.specs.Catalogues.{databases_of, settings_of, text_at, terms_at, terms_in, terms_of, no_terms, asked_settings, catalogue_of}
use Rattle.zmeta_catalogues.specs.Operands.{HasPrefix, HasQuery, LacksPrefix, LacksQuery, IsQueryKind, IsGivenPrefixFault, IsGivenQueryFault, IsTextFaultOf, of_term, of_query, term_of, AreQueries}
use Rattle.zmeta_catalogues.specs.FileErrors.{HasUnknown, IsSettingFault, of_setting, of_text, IsTableError, IsMemberErrorIn, HasMember, HasMemberError, HasMany, IsDocumentError}
use Rattle.zmeta_catalogues.specs.Mistakes.{AreJoined, fault_of, own_value, faults_for_all, AreFaultsOf, AreTermFaults, AreTermsFaults, AreFaultsIn, AreOwnTermFaults, AreQueryFaults, AreTextFaults, AreOwnFaults, Mistake, for_all, stray, unnamed, unknown, setting, members_in, terms_table, key_mistakes, unknown_keys, AreSettingMistakes, AreCatalogueMistakes, AreNamedMistakes, AreValueMistakes, AreMemberMistakes, AreMistakesIn, AreDocumentMistakes}
use Rattle.zmeta_catalogues.proofs.ForAll.{numbered}
use Rattle.zmeta_catalogues.proofs.SettingFaults.{terms_type}
use Rattle.zmeta_catalogues.proofs.NoMistakes.{seven, from_author, from_subject, from_any, from_isbn, from_issn, from_year, catalogue_in, catalogue_same, asked_reading, settings_read}

-- ---- none

not_nil : {A : Type 0} (x : A) (xs : List A) → [] ≡ x ∷ xs → ⊥
not_nil x xs h = absurd (cc)

not_some : {A : Type 0} (x : A) → None ≡ Some x → ⊥
not_some x h = absurd (cc)

made_or_not : {A : Type 0} (r : Reading A) (x : A) (f : SettingFault) → r ≡ Ok x → r ≡ Err f → ⊥
made_or_not r x f p q = absurd (cc)

nil_of : {A : Type 0} (a b : List A) → a ++ b ≡ [] → (a ≡ []) × (b ≡ [])
nil_of [] b h = (refl, h)
nil_of (x ∷ a) b h = absurd (not_nil x (a ++ b) (sym h))

nil_map : {A B : Type 0} (f : A → B) (xs : List A) → [] ≡ map f xs → xs ≡ []
nil_map f [] h = refl
nil_map f (x ∷ xs) h = absurd (not_nil (f x) (map f xs) h)

-- the parts of none are none
parts_none : {A : Type 0} (First Others : List A → Type 0) → AreJoined First Others [] → First [] × Others []
parts_none First Others h =
    let n = nil_of h.0 h.1 (sym h.2) in (subst First n.0 h.3, subst Others n.1 h.4)

-- ---- settings

made : {A : Type 0} (r : Reading A) → fault_of r ≡ [] → (x : A) × (r ≡ Ok x)
made (Ok x) h = (x, refl)
made (Err f) h = absurd (not_nil f [] (sym h))

for_top : {A : Type 0} (read : Option Data → Reading A) (own top : Option Data) → fault_of (read own) ≡ []
    → fault_of (read top) ≡ [] → fault_of (read (option_or own top)) ≡ []
for_top read None top a b = b
for_top read (Some value) top a b = a

-- none of these settings is at fault
record AreSound (own : Members) : Type 0 where
  syntax : fault_of (syntax_text_of (own_value keys.Syntax own)) ≡ []
  elements : fault_of (text_of keys.Elements (own_value keys.Elements own)) ≡ []
  records : fault_of (records_of (own_value keys.Records own)) ≡ []
  step : fault_of (number_of keys.Step 1000 (own_value keys.Step own)) ≡ []
  window : fault_of (number_of keys.Window 64 (own_value keys.Window own)) ≡ []
  charset : fault_of (charset_of (own_value keys.Charset own)) ≡ []
  patience : fault_of (number_of keys.Patience 3600 (own_value keys.Patience own)) ≡ []
  connect : fault_of (number_of keys.Connect 3600 (own_value keys.Connect own)) ≡ []

are_sound : (own : Members) → faults_for_all own ≡ [] → AreSound own
are_sound own h =
    let a = fault_of (syntax_text_of (own_value keys.Syntax own)) in
    let b = fault_of (text_of keys.Elements (own_value keys.Elements own)) in
    let c = fault_of (records_of (own_value keys.Records own)) in
    let d = fault_of (number_of keys.Step 1000 (own_value keys.Step own)) in
    let e = fault_of (number_of keys.Window 64 (own_value keys.Window own)) in
    let f = fault_of (charset_of (own_value keys.Charset own)) in
    let g = fault_of (number_of keys.Patience 3600 (own_value keys.Patience own)) in
    let i = fault_of (number_of keys.Connect 3600 (own_value keys.Connect own)) in
    let p = nil_of (a ++ b ++ c ++ d ++ e ++ f ++ g) i h in
    let q = nil_of (a ++ b ++ c ++ d ++ e ++ f) g p.0 in
    let r = nil_of (a ++ b ++ c ++ d ++ e) f q.0 in
    let s = nil_of (a ++ b ++ c ++ d) e r.0 in
    let t = nil_of (a ++ b ++ c) d s.0 in
    let u = nil_of (a ++ b) c t.0 in
    let v = nil_of a b u.0 in record {
      syntax = v.0;
      elements = v.1;
      records = u.1;
      step = t.1;
      window = s.1;
      charset = r.1;
      patience = q.1;
      connect = p.1;
    }

abbrev all_settings : Reading (Option (List ℕ)) → Reading (Option (List ℕ)) → Reading (Option (List ℕ))
    → Reading (Option ℕ) → Reading (Option ℕ) → Reading (Option Charset) → Reading (Option ℕ) → Reading (Option ℕ)
    → Reading Settings
all_settings syntax elements records step window charset patience connect =
    bind syntax (λ x. bind elements (λ y. bind records (λ z. numbered step window charset patience connect x y z)))

all_made : (a b c : Reading (Option (List ℕ))) (d e : Reading (Option ℕ)) (f : Reading (Option Charset))
    (g i : Reading (Option ℕ)) → fault_of a ≡ [] → fault_of b ≡ [] → fault_of c ≡ [] → fault_of d ≡ []
    → fault_of e ≡ [] → fault_of f ≡ [] → fault_of g ≡ [] → fault_of i ≡ []
    → (s : Settings) × (all_settings a b c d e f g i ≡ Ok s)
all_made (Ok a) (Ok b) (Ok c) (Ok d) (Ok e) (Ok f) (Ok g) (Ok i) p q r s t u v w = (
  record {
    syntax = a;
    elements = b;
    records = c;
    step = d;
    window = e;
    charset = f;
    patience = g;
    connect = i;
  },
  refl,
)
all_made (Err x) b c d e f g i p q r s t u v w = absurd (not_nil x [] (sym p))
all_made (Ok a) (Err x) c d e f g i p q r s t u v w = absurd (not_nil x [] (sym q))
all_made (Ok a) (Ok b) (Err x) d e f g i p q r s t u v w = absurd (not_nil x [] (sym r))
all_made (Ok a) (Ok b) (Ok c) (Err x) e f g i p q r s t u v w = absurd (not_nil x [] (sym s))
all_made (Ok a) (Ok b) (Ok c) (Ok d) (Err x) f g i p q r s t u v w = absurd (not_nil x [] (sym t))
all_made (Ok a) (Ok b) (Ok c) (Ok d) (Ok e) (Err x) g i p q r s t u v w = absurd (not_nil x [] (sym u))
all_made (Ok a) (Ok b) (Ok c) (Ok d) (Ok e) (Ok f) (Err x) i p q r s t u v w = absurd (not_nil x [] (sym v))
all_made (Ok a) (Ok b) (Ok c) (Ok d) (Ok e) (Ok f) (Ok g) (Err x) p q r s t u v w = absurd (not_nil x [] (sym w))

-- the settings of a catalogue can be read, if none is at fault
settings_made : (own top : Members) → AreSound own → AreSound top → (s : Settings) × (settings_of own top ≡ Ok s)
settings_made own top a b =
    all_made (syntax_text_of (value_of keys.Syntax own top)) (text_of keys.Elements (value_of keys.Elements own top))
    (records_of (value_of keys.Records own top)) (number_of keys.Step 1000 (value_of keys.Step own top))
    (number_of keys.Window 64 (value_of keys.Window own top)) (charset_of (value_of keys.Charset own top))
    (number_of keys.Patience 3600 (value_of keys.Patience own top))
    (number_of keys.Connect 3600 (value_of keys.Connect own top))
    (for_top syntax_text_of (own_value keys.Syntax own) (own_value keys.Syntax top) a.syntax b.syntax)
    (for_top (text_of keys.Elements) (own_value keys.Elements own) (own_value keys.Elements top) a.elements b.elements)
    (for_top records_of (own_value keys.Records own) (own_value keys.Records top) a.records b.records)
    (for_top (number_of keys.Step 1000) (own_value keys.Step own) (own_value keys.Step top) a.step b.step)
    (for_top (number_of keys.Window 64) (own_value keys.Window own) (own_value keys.Window top) a.window b.window)
    (for_top charset_of (own_value keys.Charset own) (own_value keys.Charset top) a.charset b.charset)
    (for_top (number_of keys.Patience 3600) (own_value keys.Patience own) (own_value keys.Patience top) a.patience
    b.patience)
    (for_top (number_of keys.Connect 3600) (own_value keys.Connect own) (own_value keys.Connect top) a.connect
    b.connect)

-- ---- texts

found_none : (IsSound : Option (List ℕ) → Type 0) (IsFault : Option (List ℕ) → SettingFault → Type 0)
    (due : Reading (Option (List ℕ))) → AreFaultsOf IsSound IsFault due []
    → (text : Option (List ℕ)) × (due ≡ Ok text) × IsSound text
found_none IsSound IsFault (Ok text) h = (text, refl, h)
found_none IsSound IsFault (Err f) h = absurd (not_nil f [] h)

next_term : (ms : Members) (key : Key) (others : List Key) → AreTermsFaults ms (key ∷ others) []
    → ((text : Option (List ℕ)) × (text_at key ms ≡ Ok text) × HasPrefix text) × AreTermsFaults ms others []
next_term ms key others h =
    let p = parts_none (AreTermFaults ms key) (AreTermsFaults ms others) h in
    (found_none HasPrefix (IsGivenPrefixFault key) (text_at key ms) p.0, p.1)

seven_made : (a b c d e f g : Reading (Option (List ℕ))) (h i j k l m n : Option (List ℕ)) → a ≡ Ok h → b ≡ Ok i
    → c ≡ Ok j → d ≡ Ok k → e ≡ Ok l → f ≡ Ok m → g ≡ Ok n → seven a b c d e f g
    ≡ Ok (record { title = h; author = i; subject = j; any = k; isbn = l; issn = m; year = n })
seven_made a b c d e f g h i j k l m n p q r s t u v =
    ap (λ x. seven x b c d e f g) p
    ∙ ap (λ x. seven (Ok h) x c d e f g) q
    ∙ ap (λ x. seven (Ok h) (Ok i) x d e f g) r
    ∙ ap (λ x. seven (Ok h) (Ok i) (Ok j) x e f g) s
    ∙ ap (λ x. seven (Ok h) (Ok i) (Ok j) (Ok k) x f g) t
    ∙ ap (λ x. seven (Ok h) (Ok i) (Ok j) (Ok k) (Ok l) x g) u
    ∙ ap (λ x. seven (Ok h) (Ok i) (Ok j) (Ok k) (Ok l) (Ok m) x) v

-- each of the terms is a prefix
record ArePrefixes (terms : Terms) : Type 0 where
  title : HasPrefix terms.title
  author : HasPrefix terms.author
  subject : HasPrefix terms.subject
  any : HasPrefix terms.any
  isbn : HasPrefix terms.isbn
  issn : HasPrefix terms.issn
  year : HasPrefix terms.year

table_made : (ms : Members) → AreTermsFaults ms term_keys []
    → (t : Terms) × (terms_at ms ≡ Ok t) × ArePrefixes t
table_made ms h =
    let a = next_term ms keys.Title from_author h in
    let b = next_term ms keys.Author from_subject a.1 in
    let c = next_term ms keys.Subject from_any b.1 in
    let d = next_term ms keys.Any from_isbn c.1 in
    let e = next_term ms keys.Isbn from_issn d.1 in
    let f = next_term ms keys.Issn from_year e.1 in
    let g = next_term ms keys.Year [] f.1 in (
      record {
        title = a.0.0;
        author = b.0.0;
        subject = c.0.0;
        any = d.0.0;
        isbn = e.0.0;
        issn = f.0.0;
        year = g.0.0;
      },
      seven_made (text_at keys.Title ms) (text_at keys.Author ms) (text_at keys.Subject ms) (text_at keys.Any ms)
          (text_at keys.Isbn ms) (text_at keys.Issn ms) (text_at keys.Year ms) a.0.0 b.0.0 c.0.0 d.0.0 e.0.0 f.0.0
          g.0.0 a.0.1 b.0.1 c.0.1 d.0.1 e.0.1 f.0.1 g.0.1,
      record {
        title = a.0.2;
        author = b.0.2;
        subject = c.0.2;
        any = d.0.2;
        isbn = e.0.2;
        issn = f.0.2;
        year = g.0.2;
      },
    )

terms_in_made : (ms : Option Members) → AreFaultsIn ms [] → (t : Terms) × (terms_in ms ≡ Ok t) × ArePrefixes t
terms_in_made None h = absurd (not_nil terms_type [] h)
terms_in_made (Some ms) h = table_made ms h

terms_made : (value : Option Data) → AreOwnTermFaults value []
    → (t : Terms) × (terms_of value ≡ Ok t) × ArePrefixes t
terms_made None h = (
  no_terms,
  refl,
  record { title = tt; author = tt; subject = tt; any = tt; isbn = tt; issn = tt; year = tt },
)
terms_made (Some value) h = terms_in_made (as_table value) h

query_made : (due : Reading (Option Charset)) (charset : Option Charset) (value : Option Data) → due ≡ Ok charset
    → AreQueryFaults due value []
    → (query : Option (List ℕ)) × (query_of charset value ≡ Ok query) × HasQuery query
query_made due charset value is h =
    found_none HasQuery IsGivenQueryFault (query_of charset value)
    (subst (λ (d : Reading (Option Charset)). AreQueryFaults d value []) is h)

-- ---- a catalogue

asked_made : (due : Reading Settings) (s : Settings) (value : Option Data) (query : Option (List ℕ)) → due ≡ Ok s
    → query_of s.charset value ≡ Ok query
    → bind due (λ settings. bind (query_of settings.charset value) (λ query. asked_reading (settings, query)))
    ≡ asked_reading (s, query)
asked_made due s value query is h =
    ap (λ (d : Reading Settings).
    bind d (λ settings. bind (query_of settings.charset value) (λ query. asked_reading (settings, query)))) is
    ∙ ap (λ (d : Reading (Option (List ℕ))). bind d (λ query. asked_reading (s, query))) h

catalogue_made : (name : List ℕ) (line : ℕ) (address : Reading (List ℕ)) (databases : Reading (List (List ℕ)))
    (asked : Reading (Settings × Option (List ℕ))) (terms : Reading Terms) (a : List ℕ) (d : List (List ℕ))
    (k : Settings × Option (List ℕ)) (t : Terms) → address ≡ Ok a → databases ≡ Ok d → asked ≡ Ok k → terms ≡ Ok t
    → catalogue_in name line address databases asked terms
    ≡ catalogue_in name line (Ok a) (Ok d) (Ok k) (Ok t)
catalogue_made name line address databases asked terms a d k t p q r s =
    ap (λ x. catalogue_in name line x databases asked terms) p
    ∙ ap (λ x. catalogue_in name line (Ok a) x asked terms) q
    ∙ ap (λ x. catalogue_in name line (Ok a) (Ok d) x terms) r
    ∙ ap (λ x. catalogue_in name line (Ok a) (Ok d) (Ok k) x) s

-- a catalogue without a fault can be read
own_made : (top : Members) (name : List ℕ) (line : ℕ) (own : Members) → AreSound top → AreOwnFaults own top []
    → (c : Catalogue) × (catalogue_of name line own top ≡ Ok c) × AreQueries c.terms c.query
own_made top name line own sound h =
    let a = fault_of (address_of (own_value keys.Address own)) in
    let d = fault_of (databases_of (own_value keys.Database own)) in
    let f = faults_for_all own in
    let p = parts_none (λ (front : List SettingFault). front ≡ a ++ d ++ f) (AreTextFaults own top) h in
    let q = nil_of (a ++ d) f (sym p.0) in
    let r = nil_of a d q.0 in
    let address = made (address_of (own_value keys.Address own)) r.0 in
    let databases = made (databases_of (own_value keys.Database own)) r.1 in
    let settings = settings_made own top (are_sound own q.1) sound in
    let texts = parts_none (AreOwnTermFaults (own_value keys.Terms own))
    (AreQueryFaults (charset_of (value_of keys.Charset own top)) (own_value keys.Query own)) p.1 in
    let terms = terms_made (own_value keys.Terms own) texts.0 in
    let charset = settings_read own top settings.0 settings.1 in
    let query = query_made (charset_of (value_of keys.Charset own top)) settings.0.charset (own_value keys.Query own)
    charset.1 texts.1 in
    let asked = asked_made (settings_of own top) settings.0 (own_value keys.Query own) query.0 settings.1 query.1 in (
      record {
        name = name;
        line = line;
        address = address.0;
        databases = databases.0;
        settings = settings.0;
        terms = terms.0;
        query = query.0;
      },
      catalogue_made name line (address_of (own_value keys.Address own)) (databases_of (own_value keys.Database own))
          (asked_settings own top) (terms_of (own_value keys.Terms own)) address.0 databases.0 (settings.0, query.0)
          terms.0 address.1 databases.1 asked terms.1,
      record {
        title = terms.2.title;
        author = terms.2.author;
        subject = terms.2.subject;
        any = terms.2.any;
        isbn = terms.2.isbn;
        issn = terms.2.issn;
        year = terms.2.year;
        query = query.2;
      },
    )

prefix_or_not : (text : Option (List ℕ)) → HasPrefix text → LacksPrefix text → ⊥
prefix_or_not None has lacks = lacks
prefix_or_not (Some text) has lacks = lacks has.0 has.1

has_prefix : (terms : Terms) (query : Option (List ℕ)) (key : Key) → AreQueries terms query
    → HasPrefix (term_of key terms)
has_prefix terms query keys.Title are = are.title
has_prefix terms query keys.Author are = are.author
has_prefix terms query keys.Subject are = are.subject
has_prefix terms query keys.Any are = are.any
has_prefix terms query keys.Isbn are = are.isbn
has_prefix terms query keys.Issn are = are.issn
has_prefix terms query keys.Year are = are.year
has_prefix terms query _ are = tt

query_or_kind : OneQueryOrFault → (text : List ℕ) (query : RpnQuery) (kind : FaultKind) → IsQueryOf text query
    → IsQueryKind text kind → ⊥
query_or_kind law text query (faults.Query kind at) is fault =
    law.either text query (record { kind = kind; at = at }) is.0 is.1 fault
query_or_kind law text query _ is fault = absurd fault

query_or_not : OneQueryOrFault → (text : Option (List ℕ)) (kind : FaultKind) → HasQuery text → LacksQuery text kind
    → ⊥
query_or_not law None kind has lacks = lacks
query_or_not law (Some text) kind has lacks = query_or_kind law text has.0 kind has.1 lacks

no_text_fault : OneQueryOrFault → (terms : Terms) (query : Option (List ℕ)) (f : SettingFault) → AreQueries terms query
    → IsTextFaultOf terms query f → ⊥
no_text_fault law terms query f are (of_term key h) =
    prefix_or_not (term_of key terms) (has_prefix terms query key are) h.1
no_text_fault law terms query f are (of_query h) = query_or_not law query f.kind are.query h.1

no_setting_fault : OneQueryOrFault → (top : Members) (name : List ℕ) (line : ℕ) (own : Members) (f : SettingFault)
    → AreSound top → AreOwnFaults own top [] → IsSettingFault top name line own f → ⊥
no_setting_fault law top name line own f sound h (of_setting is) =
    let m = own_made top name line own sound h in
    made_or_not (catalogue_of name line own top) m.0 f m.1 is
no_setting_fault law top name line own f sound h (of_text c is fault) =
    let m = own_made top name line own sound h in
    let same : m.0 ≡ c = catalogue_same m.0 c (sym m.1 ∙ is) in
    no_text_fault law c.terms c.query f (subst (λ (x : Catalogue). AreQueries x.terms x.query) same m.2) fault

-- ---- keys

known_next : (b : Bool) (word : List ℕ) (first : Option (List ℕ)) (mistake : Mistake) (others : List Mistake)
    → cond b [] (mistake ∷ []) ++ others ≡ [] → (others ≡ [] → first ≡ None) → cond b first (Some word) ≡ None
known_next true word first mistake others h next = next h
known_next false word first mistake others h next = absurd (not_nil mistake others (sym h))

first_none : (name : List ℕ) (kind : TableKind) (ms : Members) → unknown_keys name kind ms ≡ []
    → first_unknown kind ms ≡ None
first_none name kind no_members h = refl
first_none name kind (member word value ms) h =
    known_next (is_known kind word) word (first_unknown kind ms) (unknown name kind word) (unknown_keys name kind ms) h
    (λ k. first_none name kind ms k)

first_term_none : (name : List ℕ) (terms : Option Members) → unknown_keys name kinds.Terms (members_in terms) ≡ []
    → option_and_then (first_unknown kinds.Terms) terms ≡ None
first_term_none name None h = refl
first_term_none name (Some ms) h = first_none name kinds.Terms ms h

none_or : {A B : Type 0} (f g : A → B) (a b : Option A) → a ≡ None → b ≡ None
    → option_or (option_map f a) (option_map g b) ≡ None
none_or f g None None p q = refl
none_or f g None (Some y) p q = absurd (cc)
none_or f g (Some x) b p q = absurd (cc)

no_unknown : (name : List ℕ) (own : Members)
    → [] ≡ unknown_keys name kinds.Catalogue own ++ unknown_keys name kinds.Terms (terms_table own)
    → unknown_key own ≡ None
no_unknown name own h =
    let n = nil_of (unknown_keys name kinds.Catalogue own) (unknown_keys name kinds.Terms (terms_table own)) (sym h) in
    none_or (key_in kinds.Catalogue) (key_in kinds.Terms) (first_unknown kinds.Catalogue own) (unknown_term own)
    (first_none name kinds.Catalogue own n.0)
    (first_term_none name (option_and_then as_table (own_value keys.Terms own)) n.1)

-- ---- the document

named_none : (b : Bool) (top : Members) (name : List ℕ) (own : Members) → AreNamedMistakes b top name own []
    → (b ≡ false) × AreCatalogueMistakes top name own []
named_none true top name own h = absurd (not_nil unnamed [] h)
named_none false top name own h = (refl, h)

no_own_error : OneQueryOrFault → (text : List ℕ) (top : Members) (name : List ℕ) (own : Members) (e : CatalogueError)
    → AreSound top → (length name == 0) ≡ false → AreCatalogueMistakes top name own [] → e ≢ errors.Memory
    → IsTableError text top name own e → ⊥
no_own_error law text top name own errors.EmptyName sound named none other h = true≢false (sym h ∙ named)
no_own_error law text top name own (errors.UnknownKey line catalogue key near) sound named none other h =
    let p = parts_none
    (λ (front : List Mistake).
    front ≡ unknown_keys name kinds.Catalogue own ++ unknown_keys name kinds.Terms (terms_table own))
    (AreSettingMistakes top name own) none in
    not_some (string_bytes key, h.1.0) (sym (no_unknown name own p.0) ∙ h.1.1)
no_own_error law text top name own (errors.Setting line catalogue fault) sound named none other h =
    let p = parts_none
    (λ (front : List Mistake).
    front ≡ unknown_keys name kinds.Catalogue own ++ unknown_keys name kinds.Terms (terms_table own))
    (AreSettingMistakes top name own) none in
    let found = nil_map (λ fault. setting name fault) p.1.0 p.1.2 in
    no_setting_fault law top name (line_of text name) own fault sound
    (subst (λ (fs : List SettingFault). AreOwnFaults own top fs) found p.1.1) h.1
no_own_error law text top name own errors.Memory sound named none other h = other refl
no_own_error law text top name own _ sound named none other h = absurd h

no_value_error : OneQueryOrFault → (text : List ℕ) (top : Members) (name : List ℕ) (value : Option Members)
    (e : CatalogueError) → AreSound top → AreValueMistakes top name value [] → e ≢ errors.Memory
    → IsMemberErrorIn text top name value e → ⊥
no_value_error law text top name None e sound none other h = not_nil (stray name) [] none
no_value_error law text top name (Some own) e sound none other h =
    let n = named_none (length name == 0) top name own none in
    no_own_error law text top name own e sound n.0 n.1 other h

-- none of the members of the top has a mistake
none_among : (top ms : Members) (name : List ℕ) (value : Data) → AreMistakesIn top ms [] → HasMember name value ms
    → AreMemberMistakes (is_known kinds.Top name) top name value []
none_among top no_members name value none h = absurd h
none_among top (member word other ms) name value none h =
    let p = parts_none (AreMemberMistakes (is_known kinds.Top word) top word other) (AreMistakesIn top ms) none in
    elim h [
      | inl same ↦
          subst (λ (d : Data). AreMemberMistakes (is_known kinds.Top name) top name d []) same.1
          (subst (λ (w : List ℕ). AreMemberMistakes (is_known kinds.Top w) top w other []) same.0 p.0)
      | inr later ↦ none_among top ms name value p.1 later
    ]

no_member_error : OneQueryOrFault → (text : List ℕ) (top : Members) (e : CatalogueError) → AreSound top
    → AreMistakesIn top top [] → e ≢ errors.Memory → HasMemberError text top e → ⊥
no_member_error law text top e sound none other h =
    no_value_error law text top h.name (as_table h.value) e sound
    (subst (λ (b : Bool). AreMemberMistakes b top h.name h.value []) h.alone
    (none_among top top h.name h.value none h.among)) other h.error

-- a document without a mistake that is refused has too many catalogues
pub only_too_many : OneQueryOrFault → (text : List ℕ) (top : Members) (e : CatalogueError)
    → AreDocumentMistakes top [] → e ≢ errors.Memory → IsDocumentError text top e
    → (e ≡ errors.TooMany) × HasMany text top
only_too_many law text top (errors.ForAll line fault) none other h =
    let p = parts_none (λ (front : List Mistake). front ≡ map (λ fault. for_all fault) (faults_for_all top))
    (AreMistakesIn top top) none in
    let sound = are_sound top (nil_map (λ fault. for_all fault) (faults_for_all top) p.0) in
    let s = settings_made top top sound sound in
    absurd (made_or_not (settings_of top top) s.0 fault s.1 h.1)
only_too_many law text top errors.TooMany none other h = (refl, h)
only_too_many law text top errors.Memory none other h = absurd (other refl)
only_too_many law text top e none other h =
    let p = parts_none (λ (front : List Mistake). front ≡ map (λ fault. for_all fault) (faults_for_all top))
    (AreMistakesIn top top) none in
    let sound = are_sound top (nil_map (λ fault. for_all fault) (faults_for_all top) p.0) in
    absurd (no_member_error law text top e sound p.1 other h)
