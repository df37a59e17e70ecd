-- The errors that tell the mistakes of a file, one after the other.
use Rattle.std.proofs.Common.{◌≡◌, ◌≢◌, ◌∙◌, sym, ap, refl, subst, ℕ, ◌+◌, ◌<◌, ◌≤◌, List, [], ◌∷◌, ◌++◌, length, map, get_or, drop, Bool, true, false, cond, ◌==◌, Option, None, Some, Result, Ok, Err, IfOk, OnOk, Vec, Global, arith, string_bytes, append_assoc, append-nil}
use Rattle.std.specs.Option.{option_and_then}
use Rattle.std.proofs.lemmas.List.{drop_more, at_drop_all}
use Rattle.toml.proofs.Views.{Entry}
use Rattle.toml.specs.Data.{Data, Members, no_members, as_table}
use Rattle.toml.specs.Parse.{parse_document}
use Rattle.toml.specs.View.{view, members_view}
use Rattle.zquery.specs.Notation.Laws.{OneQueryOrFault}
use Rattle.zmeta_catalogues.specs.declared.error.CatalogueError.{CatalogueError}
use Rattle.zmeta_catalogues.specs.declared.error.CatalogueError.TheVariants as errors
use Rattle.zmeta_catalogues.specs.declared.fault.Key.TheVariants as keys
use Rattle.zmeta_catalogues.specs.declared.fault.SettingFault.{SettingFault}
use Rattle.zmeta_catalogues.specs.declared.words.TableKind.{TableKind}
use Rattle.zmeta_catalogues.specs.declared.words.TableKind.TheVariants as kinds
use Rattle.zmeta_catalogues.specs.Keys.{is_known}
use Rattle.zmeta_catalogues.specs.Files.{is_marked}
use Rattle.zmeta_catalogues.specs.FileErrors.{IsUnknownError, IsTopError, IsDocumentError, IsTomlError, IsFileError, IsRefused}
use Rattle.zmeta_catalogues.specs.Mistakes.{AreJoined, HasAdded, own_value, faults_for_all, AreOwnFaults, Mistake, for_all, stray, unnamed, unknown, setting, members_in, terms_table, key_mistakes, unknown_keys, AreCatalogueMistakes, AreNamedMistakes, AreValueMistakes, AreMemberMistakes, AreMistakesIn, AreDocumentMistakes, IsErrorFor, IsErrorOf, AreErrorsOf, AreErrors, AreInLineOrder, AreSorted, AreMistakesOf, AreMistakesOfFile, of_octets, of_document}
use Rattle.zmeta_catalogues.proofs.Growing.{Growing, grown, finished, join_two, all_added}
use Rattle.zmeta_catalogues.proofs.TooMany.{only_too_many}

-- ---- errors of mistakes that are known

-- the error of one mistake more
pub one_error : (text : List ℕ) (m : Mistake) (left rest : List Mistake) (e : CatalogueError)
    (All : List CatalogueError → Type 0) (old mid new : List CatalogueError) → left ≡ m ∷ rest → IsErrorFor text m e
    → (e ≢ errors.Memory) → new ≡ mid ++ e ∷ [] → Growing (AreErrorsOf text left) All old mid
    → Growing (AreErrorsOf text rest) All old new
one_error text m left rest e All old mid new next tells own added g =
    grown (λ (es : List CatalogueError). es ≡ e ∷ []) (AreErrorsOf text rest) (AreErrorsOf text left) All old mid new
    (λ front more is told. subst (λ (ms : List Mistake). AreErrorsOf text ms (front ++ more)) (sym next)
    (subst (λ (es : List CatalogueError). AreErrorsOf text (m ∷ rest) (es ++ more)) (sym is) ((tells, own), told)))
    (e ∷ [], added, refl) g

-- no error
pub same_errors : (text : List ℕ) (left rest : List Mistake) (All : List CatalogueError → Type 0)
    (old new : List CatalogueError) → left ≡ rest → Growing (AreErrorsOf text left) All old new
    → Growing (AreErrorsOf text rest) All old new
same_errors text left rest All old new same g =
    subst (λ (ms : List Mistake). Growing (AreErrorsOf text ms) All old new) same g

-- all errors
pub all_errors : (text : List ℕ) (left : List Mistake) (All : List CatalogueError → Type 0)
    (old new : List CatalogueError) → left ≡ [] → Growing (AreErrorsOf text left) All old new → HasAdded All old new
all_errors text left All old new none g =
    finished (AreErrorsOf text []) All old new tt (same_errors text left [] All old new none g)

-- the errors of these mistakes and of those behind them
pub more_errors : (text : List ℕ) (ms ns : List Mistake) (es fs : List CatalogueError) → AreErrorsOf text ms es
    → AreErrorsOf text ns fs → AreErrorsOf text (ms ++ ns) (es ++ fs)
more_errors text [] ns [] fs a b = b
more_errors text [] ns (e ∷ es) fs a b = absurd a
more_errors text (m ∷ ms) ns [] fs a b = absurd a
more_errors text (m ∷ ms) ns (e ∷ es) fs a b = (a.0, more_errors text ms ns es fs a.1 b)

-- what is left is more of what was told
pub more_told : (text : List ℕ) (here left rest : List Mistake) (All : List CatalogueError → Type 0)
    (old mid new : List CatalogueError) → left ≡ here ++ rest → HasAdded (AreErrorsOf text here) mid new
    → Growing (AreErrorsOf text left) All old mid → Growing (AreErrorsOf text rest) All old new
more_told text here left rest All old mid new is h g =
    grown (AreErrorsOf text here) (AreErrorsOf text rest) (AreErrorsOf text left) All old mid new
    (λ front more told next. subst (λ (ms : List Mistake). AreErrorsOf text ms (front ++ more)) (sym is)
    (more_errors text here rest front more told next)) h g

-- ---- keys that are not known

-- a key that is known
pub known_key : (text name : List ℕ) (kind : TableKind) (word : List ℕ) (old new : List CatalogueError)
    → is_known kind word ≡ true → new ≡ old → HasAdded (AreErrorsOf text (key_mistakes name kind word)) old new
known_key text name kind word old new known same = (
  [],
  same ∙ sym (append-nil old),
  subst (λ (b : Bool). AreErrorsOf text (cond b [] (unknown name kind word ∷ [])) []) (sym known) tt,
)

-- a key that is not known
pub unknown_key_put : {B E : Type 0} (name : List ℕ) (kind : TableKind) (word : List ℕ) (e : CatalogueError)
    (last : Result B E) (old new : List CatalogueError) → is_known kind word ≡ false → IsUnknownError name word kind e
    → OnOk last (new ≡ old ++ e ∷ []) → OnOk last (e ≢ errors.Memory)
    → OnOk last ((text : List ℕ) → HasAdded (AreErrorsOf text (key_mistakes name kind word)) old new)
unknown_key_put name kind word e (Err x) old new known tells added own = tt
unknown_key_put name kind word e (Ok x) old new known tells added own =
    λ text. (
      e ∷ [],
      added,
      subst (λ (b : Bool). AreErrorsOf text (cond b [] (unknown name kind word ∷ [])) (e ∷ [])) (sym known)
          ((tells, own), tt),
    )

-- the next key of a table
pub one_key : (text name : List ℕ) (kind : TableKind) (left rest : List Entry) (e : Entry) (word : List ℕ)
    (All : List CatalogueError → Type 0) (old mid new : List CatalogueError) → left ≡ e ∷ rest
    → word ≡ string_bytes e.0 → HasAdded (AreErrorsOf text (key_mistakes name kind word)) mid new
    → Growing (AreErrorsOf text (unknown_keys name kind (members_view left))) All old mid
    → Growing (AreErrorsOf text (unknown_keys name kind (members_view rest))) All old new
one_key text name kind left rest e word All old mid new is named h g =
    more_told text (key_mistakes name kind word) (unknown_keys name kind (members_view left))
    (unknown_keys name kind (members_view rest)) All old mid new
    (ap (λ (es : List Entry). unknown_keys name kind (members_view es)) is
    ∙ ap (λ (w : List ℕ). key_mistakes name kind w ++ unknown_keys name kind (members_view rest)) (sym named)) h g

-- all keys of a table
pub all_keys : (text name : List ℕ) (kind : TableKind) (left : List Entry) (All : List CatalogueError → Type 0)
    (old new : List CatalogueError) → left ≡ []
    → Growing (AreErrorsOf text (unknown_keys name kind (members_view left))) All old new → HasAdded All old new
all_keys text name kind left All old new none g =
    all_errors text (unknown_keys name kind (members_view left)) All old new
    (ap (λ (es : List Entry). unknown_keys name kind (members_view es)) none) g

-- ---- settings at fault

-- a fault of these settings
pub one_fault : (text : List ℕ) (of : SettingFault → Mistake) (all : List SettingFault) (i : ℕ) (d : SettingFault)
    (e : CatalogueError) (All : List CatalogueError → Type 0) (old mid new : List CatalogueError) → i < length all
    → IsErrorFor text (of (get_or all i d)) e → (e ≢ errors.Memory) → new ≡ mid ++ e ∷ []
    → Growing (AreErrorsOf text (map of (drop i all))) All old mid
    → Growing (AreErrorsOf text (map of (drop (i + 1) all))) All old new
one_fault text of all i d e All old mid new less tells own added g =
    one_error text (of (get_or all i d)) (map of (drop i all)) (map of (drop (i + 1) all)) e All old mid new
    (ap (map of) (drop_more all i d less)) tells own added g

-- all faults of these settings
pub all_faults : (text : List ℕ) (of : SettingFault → Mistake) (all : List SettingFault) (i : ℕ)
    (All : List CatalogueError → Type 0) (old new : List CatalogueError) → length all ≤ i
    → Growing (AreErrorsOf text (map of (drop i all))) All old new → HasAdded All old new
all_faults text of all i All old new past g =
    all_errors text (map of (drop i all)) All old new (at_drop_all (λ (fs : List SettingFault). map of fs) all i past) g

-- ---- a catalogue

-- the errors of a catalogue: of its keys, and of its settings
pub catalogue_errors : (text : List ℕ) (top : Members) (name : List ℕ) (own : Members) (found : List SettingFault)
    (o p q r : List CatalogueError) → HasAdded (AreErrorsOf text (unknown_keys name kinds.Catalogue own)) o p
    → HasAdded (AreErrorsOf text (unknown_keys name kinds.Terms (terms_table own))) p q → AreOwnFaults own top found
    → HasAdded (AreErrorsOf text (map (λ fault. setting name fault) found)) q r
    → HasAdded (AreErrors text (AreCatalogueMistakes top name own)) o r
catalogue_errors text top name own found o p q r a b are c =
    let first = unknown_keys name kinds.Catalogue own in
    let terms = unknown_keys name kinds.Terms (terms_table own) in
    let settings = map (λ fault. setting name fault) found in (
      a.0 ++ (b.0 ++ c.0),
      join_two o p r a.0 (b.0 ++ c.0) a.1 (join_two p q r b.0 c.0 b.1 c.1),
      (
        (first ++ terms) ++ settings,
        (first ++ terms, settings, refl, refl, (found, are, refl)),
        subst (λ (es : List CatalogueError). AreErrorsOf text ((first ++ terms) ++ settings) es)
            (append_assoc a.0 b.0 c.0)
            (more_errors text (first ++ terms) settings (a.0 ++ b.0) c.0 (more_errors text first terms a.0 b.0 a.2 b.2)
            c.2),
      ),
    )

-- the faults that were found, as they are told
pub own_faults_of : (own top : Members) (found faults : List SettingFault) → faults ≡ found
    → AreOwnFaults own top found → AreOwnFaults own top faults
own_faults_of own top found faults is are =
    subst (λ (fs : List SettingFault). AreOwnFaults own top fs) (sym is) are

-- the errors of a catalogue, of which those of its settings are told last
pub catalogue_put : {B E : Type 0} (top : Members) (name : List ℕ) (own : Members) (found : List SettingFault)
    (last : Result B E) (o p q r : List CatalogueError)
    → ((text : List ℕ) → HasAdded (AreErrorsOf text (unknown_keys name kinds.Catalogue own)) o p)
    → ((text : List ℕ) → HasAdded (AreErrorsOf text (unknown_keys name kinds.Terms (terms_table own))) p q)
    → AreOwnFaults own top found
    → OnOk last ((text : List ℕ) → HasAdded (AreErrorsOf text (map (λ fault. setting name fault) found)) q r)
    → OnOk last ((text : List ℕ) → HasAdded (AreErrors text (AreCatalogueMistakes top name own)) o r)
catalogue_put top name own found (Err x) o p q r a b are c = tt
catalogue_put top name own found (Ok x) o p q r a b are c =
    λ text. catalogue_errors text top name own found o p q r (a text) (b text) are (c text)

-- there are no terms, or they are no table
pub no_term_keys : (name : List ℕ) (own : Members) (o p : List CatalogueError)
    → None ≡ option_and_then as_table (own_value keys.Terms own) → p ≡ o
    → (text : List ℕ) → HasAdded (AreErrorsOf text (unknown_keys name kinds.Terms (terms_table own))) o p
no_term_keys name own o p none same text = (
  [],
  same ∙ sym (append-nil o),
  subst (λ (t : Option Members). AreErrorsOf text (unknown_keys name kinds.Terms (members_in t)) []) none tt,
)

-- the terms are a table
pub term_keys_put : {B E : Type 0} (name : List ℕ) (own ms : Members) (last : Result B E)
    (o p : List CatalogueError) → Some ms ≡ option_and_then as_table (own_value keys.Terms own)
    → OnOk last ((text : List ℕ) → HasAdded (AreErrorsOf text (unknown_keys name kinds.Terms ms)) o p)
    → OnOk last ((text : List ℕ) → HasAdded (AreErrorsOf text (unknown_keys name kinds.Terms (terms_table own))) o p)
term_keys_put name own ms (Err x) o p table h = tt
term_keys_put name own ms (Ok x) o p table h =
    λ text. subst
    (λ (t : Option Members). HasAdded (AreErrorsOf text (unknown_keys name kinds.Terms (members_in t))) o p) table
    (h text)

-- ---- members of the top

-- the error of one mistake
pub lone_error : (text : List ℕ) (m : Mistake) (Are : List Mistake → Type 0) (e : CatalogueError)
    (old new : List CatalogueError) → Are (m ∷ []) → IsErrorFor text m e → (e ≢ errors.Memory) → new ≡ old ++ e ∷ []
    → HasAdded (AreErrors text Are) old new
lone_error text m Are e old new are tells own added = (e ∷ [], added, (m ∷ [], are, ((tells, own), tt)))

-- a value that is no table
pub stray_put : {B E : Type 0} (text : List ℕ) (top : Members) (name : List ℕ) (value : Option Members)
    (e : CatalogueError) (last : Result B E) (old new : List CatalogueError) → None ≡ value → IsTopError text name e
    → OnOk last (new ≡ old ++ e ∷ []) → OnOk last (e ≢ errors.Memory)
    → OnOk last (HasAdded (AreErrors text (AreValueMistakes top name value)) old new)
stray_put text top name value e (Err x) old new none tells added own = tt
stray_put text top name value e (Ok x) old new none tells added own =
    subst (λ (v : Option Members). HasAdded (AreErrors text (AreValueMistakes top name v)) old new) none
    (lone_error text (stray name) (AreValueMistakes top name None) e old new refl tells own added)

-- a catalogue with an empty name
pub unnamed_put : {B E : Type 0} (text : List ℕ) (top : Members) (name : List ℕ) (own : Members) (last : Result B E)
    (old new : List CatalogueError) → (length name == 0) ≡ true → OnOk last (new ≡ old ++ errors.EmptyName ∷ [])
    → OnOk last (errors.EmptyName ≢ errors.Memory)
    → OnOk last (HasAdded (AreErrors text (AreNamedMistakes (length name == 0) top name own)) old new)
unnamed_put text top name own (Err x) old new empty added other = tt
unnamed_put text top name own (Ok x) old new empty added other =
    subst (λ (b : Bool). HasAdded (AreErrors text (AreNamedMistakes b top name own)) old new) (sym empty)
    (lone_error text unnamed (AreNamedMistakes true top name own) errors.EmptyName old new refl refl other added)

-- a catalogue with a name
pub named_put : {B E : Type 0} (text : List ℕ) (top : Members) (name site : List ℕ) (own : Members) (last : Result B E)
    (old new : List CatalogueError) → (length name == 0) ≡ false → site ≡ name
    → OnOk last ((text : List ℕ) → HasAdded (AreErrors text (AreCatalogueMistakes top site own)) old new)
    → OnOk last (HasAdded (AreErrors text (AreNamedMistakes (length name == 0) top name own)) old new)
named_put text top name site own (Err x) old new filled same h = tt
named_put text top name site own (Ok x) old new filled same h =
    subst (λ (b : Bool). HasAdded (AreErrors text (AreNamedMistakes b top name own)) old new) (sym filled)
    (subst (λ (n : List ℕ). HasAdded (AreErrors text (AreCatalogueMistakes top n own)) old new) same (h text))

-- the table of a catalogue
pub catalogue_told : {B E : Type 0} (text : List ℕ) (top : Members) (name : List ℕ) (value : Option Members)
    (own : Members) (last : Result B E) (old new : List CatalogueError) → Some own ≡ value
    → OnOk last (HasAdded (AreErrors text (AreNamedMistakes (length name == 0) top name own)) old new)
    → OnOk last (HasAdded (AreErrors text (AreValueMistakes top name value)) old new)
catalogue_told text top name value own (Err x) old new is h = tt
catalogue_told text top name value own (Ok x) old new is h =
    subst (λ (v : Option Members). HasAdded (AreErrors text (AreValueMistakes top name v)) old new) is h

-- a setting for all
pub setting_passed : (text : List ℕ) (top : Members) (name : List ℕ) (value : Data) (old new : List CatalogueError)
    → is_known kinds.Top name ≡ true → new ≡ old
    → HasAdded (AreErrors text (AreMemberMistakes (is_known kinds.Top name) top name value)) old new
setting_passed text top name value old new known same =
    subst (λ (b : Bool). HasAdded (AreErrors text (AreMemberMistakes b top name value)) old new) (sym known)
    ([], same ∙ sym (append-nil old), ([], refl, tt))

-- a member that is no setting for all
pub member_put : {B E : Type 0} (text : List ℕ) (top : Members) (name : List ℕ) (value : Data) (last : Result B E)
    (old new : List CatalogueError) → is_known kinds.Top name ≡ false
    → OnOk last (HasAdded (AreErrors text (AreValueMistakes top name (as_table value))) old new)
    → OnOk last (HasAdded (AreErrors text (AreMemberMistakes (is_known kinds.Top name) top name value)) old new)
member_put text top name value (Err x) old new known h = tt
member_put text top name value (Ok x) old new known h =
    subst (λ (b : Bool). HasAdded (AreErrors text (AreMemberMistakes b top name value)) old new) (sym known) h

-- the next member of the top
pub one_member : (text : List ℕ) (top : Members) (left rest : List Entry) (e : Entry) (word : List ℕ)
    (All : List CatalogueError → Type 0) (old mid new : List CatalogueError) → left ≡ e ∷ rest
    → word ≡ string_bytes e.0
    → HasAdded (AreErrors text (AreMemberMistakes (is_known kinds.Top word) top word (view e.1))) mid new
    → Growing (AreErrors text (AreMistakesIn top (members_view left))) All old mid
    → Growing (AreErrors text (AreMistakesIn top (members_view rest))) All old new
one_member text top left rest e word All old mid new is named added g =
    grown (AreErrors text (AreMemberMistakes (is_known kinds.Top word) top word (view e.1)))
    (AreErrors text (AreMistakesIn top (members_view rest))) (AreErrors text (AreMistakesIn top (members_view left)))
    All old mid new
    (λ front more here next. subst
    (λ (x : List Entry). AreErrors text (AreMistakesIn top (members_view x)) (front ++ more)) (sym is) (
      here.0 ++ next.0,
      (
        here.0,
        next.0,
        refl,
        subst (λ (w : List ℕ). AreMemberMistakes (is_known kinds.Top w) top w (view e.1) here.0) named here.1,
        next.1,
      ),
      more_errors text here.0 next.0 front more here.2 next.2,
    )) added g

-- all members of the top
pub all_members : (text : List ℕ) (top : Members) (left : List Entry) (All : List CatalogueError → Type 0)
    (old new : List CatalogueError) → left ≡ []
    → Growing (AreErrors text (AreMistakesIn top (members_view left))) All old new → HasAdded All old new
all_members text top left All old new none g =
    finished (AreErrors text (AreMistakesIn top no_members)) All old new ([], refl, tt)
    (subst (λ (es : List Entry). Growing (AreErrors text (AreMistakesIn top (members_view es))) All old new) none g)

-- ---- the document

-- the errors of a document: of its settings for all, and of its members
pub document_errors : (text : List ℕ) (top : Members) (found : List SettingFault) (o p q : List CatalogueError) → o ≡ []
    → found ≡ faults_for_all top → HasAdded (AreErrorsOf text (map (λ fault. for_all fault) found)) o p
    → HasAdded (AreErrors text (AreMistakesIn top top)) p q → AreErrors text (AreDocumentMistakes top) q
document_errors text top found o p q none is a b =
    let front = map (λ fault. for_all fault) found in
    all_added (AreErrors text (AreDocumentMistakes top)) o q none (
      a.0 ++ b.0,
      join_two o p q a.0 b.0 a.1 b.1,
      (
        front ++ b.2.0,
        (front, b.2.0, refl, ap (map (λ fault. for_all fault)) is, b.2.1),
        more_errors text front b.2.0 a.0 b.0 a.2 b.2.2,
      ),
    )

-- there is none: the first error alone
pub sorted_none : (first : CatalogueError) (found list : List CatalogueError) → length found ≡ 0
    → list ≡ found ++ first ∷ [] → AreSorted first found list
sorted_none first [] list none is = is
sorted_none first (e ∷ es) list none is = absurd (omega arith)

-- there are some: in the order of their lines
pub sorted_some : (first : CatalogueError) (found list : List CatalogueError) → 0 < length found
    → AreInLineOrder found list → AreSorted first found list
sorted_some first [] list some is = absurd (omega arith)
sorted_some first (e ∷ es) list some is = is

no_mistakes_told : (text : List ℕ) (ms : List Mistake) → AreErrorsOf text ms [] → ms ≡ []
no_mistakes_told text [] h = refl
no_mistakes_told text (m ∷ ms) h = absurd h

-- no error tells no mistake
none_told : (text : List ℕ) (top : Members) → AreErrors text (AreDocumentMistakes top) [] → AreDocumentMistakes top []
none_told text top h =
    subst (λ (ms : List Mistake). AreDocumentMistakes top ms) (no_mistakes_told text h.0 h.2) h.1

-- what is listed of a document that is refused
pub listed : OneQueryOrFault → (text : List ℕ) (top : Members) (e : CatalogueError) (told list : List CatalogueError)
    → e ≢ errors.Memory → IsDocumentError text top e → AreErrors text (AreDocumentMistakes top) told
    → AreSorted e told list → AreMistakesOf text top list
listed law text top e [] list other is each sorted =
    subst (AreMistakesOf text top) (sym sorted) (record {
      told = [];
      errors = each;
      listed = only_too_many law text top e (none_told text top each) other is;
    })
listed law text top e (f ∷ fs) list other is each sorted = record { told = f ∷ fs; errors = each; listed = sorted }

-- the same, of the list that is returned
pub listed_put : {E : Type 0} → OneQueryOrFault → (text : List ℕ) (top : Members) (error first : CatalogueError)
    (told : List CatalogueError) (r : Result (Vec CatalogueError Global) E) → first ≡ error → error ≢ errors.Memory
    → IsDocumentError text top error → AreErrors text (AreDocumentMistakes top) told
    → IfOk r (λ all. AreSorted first told all.items) → IfOk r (λ all. AreMistakesOf text top all.items)
listed_put law text top error first told (Err x) same other is each h = tt
listed_put law text top error first told (Ok all) same other is each h =
    listed law text top first told all.items (subst (λ (e : CatalogueError). e ≢ errors.Memory) (sym same) other)
    (subst (λ (e : CatalogueError). IsDocumentError text top e) (sym same) is) each h

-- the list of a document is that of the file
pub document_put : {E : Type 0} (text : List ℕ) (top : Members) (r : Result (Vec CatalogueError Global) E)
    → is_marked text ≡ false → parse_document text ≡ Some top → IfOk r (λ all. AreMistakesOf text top all.items)
    → IfOk r (λ all. AreMistakesOfFile text all.items)
document_put text top (Err x) unmarked parsed h = tt
document_put text top (Ok all) unmarked parsed h = of_document top unmarked parsed h

-- octets that are no document have one mistake
pub octets_put : {E : Type 0} (text : List ℕ) (e : CatalogueError) (r : Result (Vec CatalogueError Global) E)
    → IsTomlError text e → OnOk r (e ≢ errors.Memory) → IfOk r (λ all. all.items ≡ e ∷ [])
    → IfOk r (λ all. AreMistakesOfFile text all.items)
octets_put text e (Err x) is own h = tt
octets_put text e (Ok all) is own h = of_octets e is own h

-- a file is refused, if there is an error that is none of memory
pub refused_put : {E : Type 0} (text : List ℕ) (e : CatalogueError) (r : Result (Vec CatalogueError Global) E)
    → IsFileError text e → OnOk r (e ≢ errors.Memory) → IfOk r (λ all. 0 < length all.items → IsRefused text)
refused_put text e (Err x) is own = tt
refused_put text e (Ok all) is own = λ some. record { error = e; own = own; is = is }

-- some are listed
pub not_none : {E : Type 0} (P : Type 0) (r : Result (Vec CatalogueError Global) E)
    → IfOk r (λ all. 0 < length all.items) → IfOk r (λ all. length all.items ≡ 0 → P)
not_none P (Err x) some = tt
not_none P (Ok all) some = λ none. absurd (omega arith)

-- one is listed
pub not_none_of_one : {E : Type 0} (P : Type 0) (e : CatalogueError) (r : Result (Vec CatalogueError Global) E)
    → IfOk r (λ all. all.items ≡ e ∷ []) → IfOk r (λ all. length all.items ≡ 0 → P)
not_none_of_one P e (Err x) one = tt
not_none_of_one P e (Ok all) one = λ none. let n = ap length one in absurd (omega arith)
