-- The settings at fault that are found in a table.
use Rattle.std.proofs.Common.{◌≡◌, ◌∙◌, sym, ap, refl, subst, ℕ, ◌+◌, ◌<◌, ◌≤◌, List, [], ◌∷◌, ◌++◌, length, get_or, drop, append-nil, Option, None, Some, Result, Ok, Err, IfOk, IfErr, OnOk}
use Rattle.std.proofs.lemmas.List.{drop_more, at_drop_all}
use Rattle.toml.specs.Data.{Data, Members, as_table}
use Rattle.zmeta_catalogues.specs.declared.charset.Charset.{Charset}
use Rattle.zmeta_catalogues.specs.declared.fault.Key.{Key}
use Rattle.zmeta_catalogues.specs.declared.fault.Key.TheVariants as keys
use Rattle.zmeta_catalogues.specs.declared.fault.FaultKind.TheVariants as faults
use Rattle.zmeta_catalogues.specs.declared.fault.SettingFault.{SettingFault}
use Rattle.zmeta_catalogues.specs.declared.fault.Stop.{Stop}
use Rattle.zmeta_catalogues.specs.declared.fault.Stop.TheVariants as stops
use Rattle.zmeta_catalogues.specs.Keys.{term_keys}
use Rattle.zmeta_catalogues.specs.Values.{Reading, Reads, value_of, charset_of, query_of}
use Rattle.zmeta_catalogues.specs.Addresses.{address_of}
use Rattle.zmeta_catalogues.specs.Catalogues.{databases_of, text_at}
use Rattle.zmeta_catalogues.specs.Operands.{HasPrefix, HasQuery, IsGivenPrefixFault, IsGivenPrefixStop, IsGivenQueryFault, IsGivenQueryStop}
use Rattle.zmeta_catalogues.specs.Mistakes.{AreJoined, HasAdded, HasStop, HasFault, fault_of, own_value, faults_for_all, AreFaultsOf, AreTermFaults, AreTermsFaults, AreFaultsIn, AreOwnTermFaults, AreQueryFaults, AreTextFaults, AreOwnFaults}
use Rattle.zmeta_catalogues.proofs.Growing.{Growing, grown, finished, exactly, both, join_two, all_added}

-- ---- one reading

-- what a reading found at fault was appended
pub read_fault : {A : Type 0} (due : Reading A) (r : Result A Stop) (old new : List SettingFault) → Reads due r
    → HasFault r old new → new ≡ old ++ fault_of due
read_fault due (Ok x) old new is h = h ∙ sym (append-nil old) ∙ ap (λ d. old ++ fault_of d) (sym is)
read_fault due (Err (stops.Fault f)) old new is h = h ∙ ap (λ d. old ++ fault_of d) (sym is)
read_fault due (Err stops.Memory) old new is h = absurd h

-- what eight readings found was appended
pub eight : {A : Type 0} (o p q r s t u v w a b c d e f g h : List A) → p ≡ o ++ a → q ≡ p ++ b → r ≡ q ++ c
    → s ≡ r ++ d → t ≡ s ++ e → u ≡ t ++ f → v ≡ u ++ g → w ≡ v ++ h → w ≡ o ++ (a ++ b ++ c ++ d ++ e ++ f ++ g ++ h)
eight o p q r s t u v w a b c d e f g h i j k l m n x y =
    join_two o v w (a ++ b ++ c ++ d ++ e ++ f ++ g) h
    (join_two o u v (a ++ b ++ c ++ d ++ e ++ f) g
    (join_two o t u (a ++ b ++ c ++ d ++ e) f
    (join_two o s t (a ++ b ++ c ++ d) e
    (join_two o r s (a ++ b ++ c) d (join_two o q r (a ++ b) c (join_two o p q a b i j) k) l) m) n) x) y

-- the same, of the last reading, whose result is returned
pub last_fault : {A B E : Type 0} (due : Reading A) (r : Result A Stop) (last : Result B E)
    (old new : List SettingFault) → Reads due r → OnOk last (HasFault r old new)
    → OnOk last (new ≡ old ++ fault_of due)
last_fault due r (Ok x) old new is h = read_fault due r old new is h
last_fault due r (Err x) old new is h = tt

-- the same, of eight readings, the last of which is returned
pub eight_put : {A B E : Type 0} (last : Result B E) (o p q r s t u v w a b c d e f g h : List A) → p ≡ o ++ a
    → q ≡ p ++ b → r ≡ q ++ c → s ≡ r ++ d → t ≡ s ++ e → u ≡ t ++ f → v ≡ u ++ g → OnOk last (w ≡ v ++ h)
    → OnOk last (w ≡ o ++ (a ++ b ++ c ++ d ++ e ++ f ++ g ++ h))
eight_put (Ok z) o p q r s t u v w a b c d e f g h i j k l m n x y =
    eight o p q r s t u v w a b c d e f g h i j k l m n x y
eight_put (Err z) o p q r s t u v w a b c d e f g h i j k l m n x y = tt

-- ---- texts

-- the text cannot be read
pub unread_put : {B E : Type 0} (IsSound : Option (List ℕ) → Type 0)
    (IsFault : Option (List ℕ) → SettingFault → Type 0) (due : Reading (Option (List ℕ))) (stop : Stop)
    (last : Result B E) (old new : List SettingFault) → Reads due (Err stop) → OnOk last (HasStop stop old new)
    → OnOk last (HasAdded (AreFaultsOf IsSound IsFault due) old new)
unread_put IsSound IsFault due stop (Err x) old new is h = tt
unread_put IsSound IsFault due (stops.Fault f) (Ok x) old new is h =
    (f ∷ [], h, subst (λ d. AreFaultsOf IsSound IsFault d (f ∷ [])) (sym is) refl)
unread_put IsSound IsFault due stops.Memory (Ok x) old new is h = absurd h

-- the text of a term is a prefix, or it is none
pub term_put : {C B E : Type 0} (terms : Members) (key : Key) (text : Option (List ℕ)) (r : Result C Stop)
    (last : Result B E) (old new : List SettingFault) → Reads (text_at key terms) (Ok text)
    → IfOk r (λ _. HasPrefix text) → IfErr r (IsGivenPrefixStop key text) → OnOk last (HasFault r old new)
    → OnOk last (HasAdded (AreTermFaults terms key) old new)
term_put terms key text r (Err x) old new is ok err h = tt
term_put terms key text (Ok y) (Ok x) old new is ok err h = (
  [],
  h ∙ sym (append-nil old),
  subst (λ d. AreFaultsOf HasPrefix (IsGivenPrefixFault key) d []) (sym is) ok,
)
term_put terms key text (Err (stops.Fault f)) (Ok x) old new is ok err h =
    (f ∷ [], h, subst (λ d. AreFaultsOf HasPrefix (IsGivenPrefixFault key) d (f ∷ [])) (sym is) err)
term_put terms key text (Err stops.Memory) (Ok x) old new is ok err h = absurd h

-- the text of a query is one, or it is none
pub query_put : {C B E : Type 0} (charset : Option Charset) (value : Option Data) (text : Option (List ℕ))
    (r : Result C Stop) (last : Result B E) (old new : List SettingFault) → Reads (query_of charset value) (Ok text)
    → IfOk r (λ _. HasQuery text) → IfErr r (IsGivenQueryStop text) → OnOk last (HasFault r old new)
    → OnOk last (HasAdded (AreQueryFaults (Ok charset) value) old new)
query_put charset value text r (Err x) old new is ok err h = tt
query_put charset value text (Ok y) (Ok x) old new is ok err h = (
  [],
  h ∙ sym (append-nil old),
  subst (λ d. AreFaultsOf HasQuery IsGivenQueryFault d []) (sym is) ok,
)
query_put charset value text (Err (stops.Fault f)) (Ok x) old new is ok err h =
    (f ∷ [], h, subst (λ d. AreFaultsOf HasQuery IsGivenQueryFault d (f ∷ [])) (sym is) err)
query_put charset value text (Err stops.Memory) (Ok x) old new is ok err h = absurd h

-- the query of a catalogue in its character set
pub own_query_put : {B E : Type 0} (due : Reading (Option Charset)) (charset : Option Charset) (value : Option Data)
    (last : Result B E) (old new : List SettingFault) → Reads due (Ok charset)
    → OnOk last (HasAdded (AreQueryFaults (Ok charset) value) old new)
    → OnOk last (HasAdded (AreQueryFaults due value) old new)
own_query_put due charset value (Err x) old new is h = tt
own_query_put due charset value (Ok x) old new is h =
    subst (λ (d : Reading (Option Charset)). HasAdded (AreQueryFaults d value) old new) (sym is) h

-- its character set is at fault
pub no_query_put : (due : Reading (Option Charset)) (fault : SettingFault) (value : Option Data)
    (old new : List SettingFault) → due ≡ Err fault → new ≡ old → HasAdded (AreQueryFaults due value) old new
no_query_put due fault value old new is same = (
  [],
  same ∙ sym (append-nil old),
  subst (λ (d : Reading (Option Charset)). AreQueryFaults d value []) (sym is) refl,
)

-- ---- terms

-- the faults of one term more
pub one_term : (terms : Members) (all : List Key) (i : ℕ) (d : Key) (All : List SettingFault → Type 0)
    (old mid new : List SettingFault) → i < length all → HasAdded (AreTermFaults terms (get_or all i d)) mid new
    → Growing (AreTermsFaults terms (drop i all)) All old mid
    → Growing (AreTermsFaults terms (drop (i + 1) all)) All old new
one_term terms all i d All old mid new less h g =
    grown (AreTermFaults terms (get_or all i d)) (AreTermsFaults terms (drop (i + 1) all))
    (AreTermsFaults terms (drop i all)) All old mid new
    (λ front rest here next. subst (λ (ks : List Key). AreTermsFaults terms ks (front ++ rest))
    (sym (drop_more all i d less)) (front, rest, refl, here, next)) h g

-- the faults of all terms
pub all_terms : (terms : Members) (all : List Key) (i : ℕ) (old new : List SettingFault) → length all ≤ i
    → all ≡ term_keys → Growing (AreTermsFaults terms (drop i all)) (AreTermsFaults terms all) old new
    → HasAdded (AreTermsFaults terms term_keys) old new
all_terms terms all i old new past is g =
    subst (λ (ks : List Key). HasAdded (AreTermsFaults terms ks) old new) is
    (finished (AreTermsFaults terms []) (AreTermsFaults terms all) old new refl
    (subst (λ (ks : List Key). Growing (AreTermsFaults terms ks) (AreTermsFaults terms all) old new)
    (at_drop_all (λ (ks : List Key). ks) all i past) g))

-- there are no terms
pub no_terms_put : (value : Option Data) (old new : List SettingFault) → None ≡ value → new ≡ old
    → HasAdded (AreOwnTermFaults value) old new
no_terms_put value old new is same = (
  [],
  same ∙ sym (append-nil old),
  subst (λ (v : Option Data). AreOwnTermFaults v []) is refl,
)

-- there are terms
pub some_terms_put : {B E : Type 0} (value : Option Data) (terms : Data) (last : Result B E)
    (old new : List SettingFault) → Some terms ≡ value → OnOk last (HasAdded (AreFaultsIn (as_table terms)) old new)
    → OnOk last (HasAdded (AreOwnTermFaults value) old new)
some_terms_put value terms (Err x) old new is h = tt
some_terms_put value terms (Ok x) old new is h =
    subst (λ (v : Option Data). HasAdded (AreOwnTermFaults v) old new) is h

-- that the terms are no table
abbrev pub terms_type : SettingFault
terms_type = record { key = keys.Terms; kind = faults.Type }

-- the terms are no table
pub no_table_put : {B E : Type 0} (table : Option Members) (stop : Stop) (last : Result B E)
    (old new : List SettingFault) → None ≡ table → stop ≡ stops.Fault terms_type
    → OnOk last (HasStop stop old new) → OnOk last (HasAdded (AreFaultsIn table) old new)
no_table_put table stop (Err x) old new none is h = tt
no_table_put table stop (Ok x) old new none is h = (
  terms_type ∷ [],
  subst (λ (s : Stop). HasStop s old new) is h,
  subst (λ (t : Option Members). AreFaultsIn t (terms_type ∷ [])) none refl,
)

-- the terms are a table
pub table_put : {B E : Type 0} (table : Option Members) (ms : Members) (last : Result B E)
    (old new : List SettingFault) → Some ms ≡ table → OnOk last (HasAdded (AreTermsFaults ms term_keys) old new)
    → OnOk last (HasAdded (AreFaultsIn table) old new)
table_put table ms (Err x) old new is h = tt
table_put table ms (Ok x) old new is h =
    subst (λ (t : Option Members). HasAdded (AreFaultsIn t) old new) is h

-- ---- the table of a catalogue

-- all faults of the table of a catalogue
pub own_put : (own top : Members) (o p q r s t : List SettingFault) → o ≡ []
    → p ≡ o ++ fault_of (address_of (own_value keys.Address own))
    → q ≡ p ++ fault_of (databases_of (own_value keys.Database own)) → r ≡ q ++ faults_for_all own
    → HasAdded (AreOwnTermFaults (own_value keys.Terms own)) r s
    → HasAdded (AreQueryFaults (charset_of (value_of keys.Charset own top)) (own_value keys.Query own)) s t
    → AreOwnFaults own top t
own_put own top o p q r s t none address databases settings terms query =
    let a = fault_of (address_of (own_value keys.Address own)) in
    let d = fault_of (databases_of (own_value keys.Database own)) in
    let f = faults_for_all own in
    all_added (AreOwnFaults own top) o t none
    (both (λ (front : List SettingFault). front ≡ a ++ d ++ f) (AreTextFaults own top) o r t
    (exactly (a ++ d ++ f) o r (join_two o q r (a ++ d) f (join_two o p q a d address databases) settings))
    (both (AreOwnTermFaults (own_value keys.Terms own))
    (AreQueryFaults (charset_of (value_of keys.Charset own top)) (own_value keys.Query own)) r s t terms query))
