-- The names of databases.
use Rattle.std.proofs.Common.{◌≡◌, ◌∙◌, sym, ap, refl, ℕ, ◌+◌, ◌<◌, ◌≤◌, List, [], ◌∷◌, ◌++◌, length, get_or, drop, Result, Ok, Err, append_assoc}
use Rattle.std.proofs.lemmas.List.{at_drop_all, append-nil}
use Rattle.toml.specs.View.{view, items_view}
use Rattle.toml.specs.declared.value.Value.{Value}
use Rattle.toml.proofs.Views.{items_view-drop}
use Rattle.zmeta_catalogues.specs.declared.fault.SettingFault.{SettingFault}
use Rattle.zmeta_catalogues.specs.declared.fault.Stop.{Stop}
use Rattle.zmeta_catalogues.specs.declared.fault.Stop.TheVariants as stops
use Rattle.zmeta_catalogues.specs.Values.{Reading, bind, Reads}
use Rattle.zmeta_catalogues.specs.Catalogues.{database_at, texts_of}

-- the texts behind these
abbrev behind : List (List ℕ) → Reading (List (List ℕ)) → Reading (List (List ℕ))
behind read rest = bind rest (λ ts. Ok (read ++ ts))

-- no names yet
pub no_texts : (all : Reading (List (List ℕ))) (read : List (List ℕ)) → read ≡ [] → all ≡ behind read all
no_texts (Ok ts) read e = ap (λ (r : List (List ℕ)). Ok (r ++ ts)) (sym e)
no_texts (Err f) read e = refl

abbrev with_first : Reading (List ℕ) → Reading (List (List ℕ)) → Reading (List (List ℕ))
with_first first rest = bind first (λ text. bind rest (λ texts. Ok (text ∷ texts)))

texts-drop : (vs : List Value) (i : ℕ) (d : Value) → i < length vs
    → texts_of (items_view (drop i vs))
    ≡ with_first (database_at (view (get_or vs i d))) (texts_of (items_view (drop (i + 1) vs)))
texts-drop vs i d h = ap texts_of (items_view-drop vs i d h)

shift : (read : List (List ℕ)) (t : List ℕ) (rest : Reading (List (List ℕ)))
    → behind read (with_first (Ok t) rest) ≡ behind (read ++ t ∷ []) rest
shift read t (Ok ts) = ap Ok (sym (append_assoc read (t ∷ []) ts))
shift read t (Err f) = refl

-- a name more
pub one_text : (vs : List Value) (i : ℕ) (d : Value) (read : List (List ℕ)) (t : List ℕ) (all : Reading (List (List ℕ)))
    → i < length vs → database_at (view (get_or vs i d)) ≡ Ok t → all ≡ behind read (texts_of (items_view (drop i vs)))
    → all ≡ behind (read ++ t ∷ []) (texts_of (items_view (drop (i + 1) vs)))
one_text vs i d read t all h is e =
    e ∙ ap (behind read) (texts-drop vs i d h)
    ∙ ap (λ r. behind read (with_first r (texts_of (items_view (drop (i + 1) vs))))) is
    ∙ shift read t _

-- a value that is no name
pub no_text : (vs : List Value) (i : ℕ) (d : Value) (read : List (List ℕ)) (f : SettingFault)
    (all : Reading (List (List ℕ))) → i < length vs → database_at (view (get_or vs i d)) ≡ Err f
    → all ≡ behind read (texts_of (items_view (drop i vs))) → all ≡ Err f
no_text vs i d read f all h is e =
    e ∙ ap (behind read) (texts-drop vs i d h)
    ∙ ap (λ r. behind read (with_first r (texts_of (items_view (drop (i + 1) vs))))) is

-- all names
pub all_texts : (vs : List Value) (i : ℕ) (read : List (List ℕ)) (all : Reading (List (List ℕ))) → length vs ≤ i
    → all ≡ behind read (texts_of (items_view (drop i vs))) → all ≡ Ok read
all_texts vs i read all h e =
    e ∙ ap (behind read) (at_drop_all (λ xs. texts_of (items_view xs)) vs i h) ∙ ap Ok (append-nil read)

-- a value that stops the reading
pub text_stops : (vs : List Value) (i : ℕ) (d : Value) (read : List (List ℕ)) (stop : Stop)
    (all : Reading (List (List ℕ))) → i < length vs → Reads (database_at (view (get_or vs i d))) (Err stop)
    → all ≡ behind read (texts_of (items_view (drop i vs))) → Reads {A = List (List ℕ)} all (Err stop)
text_stops vs i d read (stops.Fault f) all h is e = no_text vs i d read f all h is e
text_stops vs i d read stops.Memory all h is e = tt

-- the stop is passed on
pub stopped : {A : Type 0} (due : Reading A) (e f : Stop) (r : Result A Stop) → r ≡ Err f → f ≡ e → Reads due (Err e)
    → Reads due r
stopped due e f r is of h = rw (is, of) h
