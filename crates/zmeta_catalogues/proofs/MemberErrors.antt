-- Errors of the members of a file's table.
use Rattle.std.proofs.Common.{◌≡◌, ◌∙◌, sym, ap, refl, subst, ℕ, List, [], ◌∷◌, ◌++◌, Option, Some, None, Result, Err, IfErr, Bool, true, false, cond, inl, inr, string_bytes, append_assoc, append-nil}
use Rattle.toml.proofs.Views.{Entry}
use Rattle.toml.specs.Data.{Data, Members, no_members, member, as_table}
use Rattle.toml.specs.View.{view, members_view}
use Rattle.zmeta_catalogues.specs.declared.catalogue.Catalogue.{Catalogue}
use Rattle.zmeta_catalogues.specs.declared.error.CatalogueError.{CatalogueError}
use Rattle.zmeta_catalogues.specs.declared.words.TableKind.TheVariants as kinds
use Rattle.zmeta_catalogues.specs.Keys.{is_known}
use Rattle.zmeta_catalogues.specs.Files.{IsCatalogueAt, AreNext, AreCatalogues}
use Rattle.zmeta_catalogues.specs.FileErrors.{HasMember}

-- ---- one member more

next_more : (b : Bool) (Is : Catalogue → Type 0) (Rest More : List Catalogue → Type 0) (c : Catalogue)
    (cs : List Catalogue) → ((r : List Catalogue) → Rest r → More (r ++ c ∷ [])) → AreNext b Is Rest cs
    → AreNext b Is More (cs ++ c ∷ [])
next_more true Is Rest More c cs f h = f cs h
next_more false Is Rest More c [] f h = absurd h
next_more false Is Rest More c (x ∷ xs) f h = (h.0, f xs h.1)

last_next : (b : Bool) (Is : Catalogue → Type 0) (Rest : List Catalogue → Type 0) (c : Catalogue) → b ≡ false → Is c
    → Rest [] → AreNext b Is Rest (c ∷ [])
last_next true Is Rest c e is rest = absurd (cc)
last_next false Is Rest c e is rest = (is, rest)

-- a catalogue behind those that were read
pub more_catalogues : (text : List ℕ) (top : Members) (done : List Entry) (e : Entry) (cs : List Catalogue)
    (c : Catalogue) → is_known kinds.Top (string_bytes e.0) ≡ false
    → IsCatalogueAt text top (string_bytes e.0) (view e.1) c → AreCatalogues text top (members_view done) cs
    → AreCatalogues text top (members_view (done ++ e ∷ [])) (cs ++ c ∷ [])
more_catalogues text top [] e [] c alone is h =
    last_next (is_known kinds.Top (string_bytes e.0))
    (λ (x : Catalogue). IsCatalogueAt text top (string_bytes e.0) (view e.1) x)
    (λ (r : List Catalogue). AreCatalogues text top no_members r) c alone is tt
more_catalogues text top [] e (x ∷ xs) c alone is h = absurd h
more_catalogues text top (d ∷ done) e cs c alone is h =
    next_more (is_known kinds.Top (string_bytes d.0))
    (λ (x : Catalogue). IsCatalogueAt text top (string_bytes d.0) (view d.1) x)
    (λ (r : List Catalogue). AreCatalogues text top (members_view done) r)
    (λ (r : List Catalogue). AreCatalogues text top (members_view (done ++ e ∷ [])) r) c cs
    (λ r k. more_catalogues text top done e r c alone is k) h

next_same : (b : Bool) (Is : Catalogue → Type 0) (Rest More : List Catalogue → Type 0) (cs : List Catalogue)
    → ((r : List Catalogue) → Rest r → More r) → AreNext b Is Rest cs → AreNext b Is More cs
next_same true Is Rest More cs f h = f cs h
next_same false Is Rest More [] f h = absurd h
next_same false Is Rest More (x ∷ xs) f h = (h.0, f xs h.1)

passed : (b : Bool) (Is : Catalogue → Type 0) (Rest : List Catalogue → Type 0) → b ≡ true → Rest []
    → AreNext b Is Rest []
passed true Is Rest e rest = rest
passed false Is Rest e rest = absurd (cc)

-- a setting for all behind those that were read
pub same_catalogues : (text : List ℕ) (top : Members) (done : List Entry) (e : Entry) (cs : List Catalogue)
    → is_known kinds.Top (string_bytes e.0) ≡ true → AreCatalogues text top (members_view done) cs
    → AreCatalogues text top (members_view (done ++ e ∷ [])) cs
same_catalogues text top [] e [] known h =
    passed (is_known kinds.Top (string_bytes e.0))
    (λ (x : Catalogue). IsCatalogueAt text top (string_bytes e.0) (view e.1) x)
    (λ (r : List Catalogue). AreCatalogues text top no_members r) known tt
same_catalogues text top [] e (x ∷ xs) known h = absurd h
same_catalogues text top (d ∷ done) e cs known h =
    next_same (is_known kinds.Top (string_bytes d.0))
    (λ (x : Catalogue). IsCatalogueAt text top (string_bytes d.0) (view d.1) x)
    (λ (r : List Catalogue). AreCatalogues text top (members_view done) r)
    (λ (r : List Catalogue). AreCatalogues text top (members_view (done ++ e ∷ [])) r) cs
    (λ r k. same_catalogues text top done e r known k) h

-- ---- a member

-- an entry is a member
pub is_member : (done : List Entry) (e : Entry) (left : List Entry)
    → HasMember (string_bytes e.0) (view e.1) (members_view (done ++ e ∷ left))
is_member [] e left = inl (refl, refl)
is_member (d ∷ done) e left = inr (is_member done e left)

-- ---- the members so far

-- these members were read
abbrev pub ReadSoFar : List ℕ → List Entry → List Entry → List Catalogue → Type 0
ReadSoFar text all left cs =
    (done : List Entry) × (all ≡ done ++ left) × AreCatalogues text (members_view all) (members_view done) cs

-- no member was read yet
pub none_read : (text : List ℕ) (all left : List Entry) (cs : List Catalogue) → all ≡ left → cs ≡ []
    → ReadSoFar text all left cs
none_read text all left cs is none =
    ([], is, subst (λ (x : List Catalogue). AreCatalogues text (members_view all) no_members x) (sym none) tt)

-- the next member is a catalogue
pub one_read : (text : List ℕ) (all left rest : List Entry) (e : Entry) (word : List ℕ) (cs more : List Catalogue)
    (c : Catalogue) → left ≡ e ∷ rest → word ≡ string_bytes e.0 → is_known kinds.Top word ≡ false
    → IsCatalogueAt text (members_view all) word (view e.1) c → more ≡ cs ++ c ∷ [] → ReadSoFar text all left cs
    → ReadSoFar text all rest more
one_read text all left rest e word cs more c next named alone is added h = (
  h.0 ++ e ∷ [],
  h.1 ∙ ap (λ (es : List Entry). h.0 ++ es) next ∙ sym (append_assoc h.0 (e ∷ []) rest),
  subst (λ (x : List Catalogue). AreCatalogues text (members_view all) (members_view (h.0 ++ e ∷ [])) x) (sym added)
      (more_catalogues text (members_view all) h.0 e cs c (sym (ap (is_known kinds.Top) named) ∙ alone)
      (subst (λ (x : List ℕ). IsCatalogueAt text (members_view all) x (view e.1) c) named is) h.2),
)

-- the next member is a setting for all
pub one_passed : (text : List ℕ) (all left rest : List Entry) (e : Entry) (word : List ℕ) (cs more : List Catalogue)
    → left ≡ e ∷ rest → word ≡ string_bytes e.0 → is_known kinds.Top word ≡ true → more ≡ cs
    → ReadSoFar text all left cs → ReadSoFar text all rest more
one_passed text all left rest e word cs more next named known same h = (
  h.0 ++ e ∷ [],
  h.1 ∙ ap (λ (es : List Entry). h.0 ++ es) next ∙ sym (append_assoc h.0 (e ∷ []) rest),
  subst (λ (x : List Catalogue). AreCatalogues text (members_view all) (members_view (h.0 ++ e ∷ [])) x) (sym same)
      (same_catalogues text (members_view all) h.0 e cs (sym (ap (is_known kinds.Top) named) ∙ known) h.2),
)

-- all members were read
pub all_read : (text : List ℕ) (all left : List Entry) (cs : List Catalogue) → left ≡ [] → ReadSoFar text all left cs
    → AreCatalogues text (members_view all) (members_view all) cs
all_read text all left cs none h =
    subst (λ (es : List Entry). AreCatalogues text (members_view all) (members_view es) cs)
    (sym (h.1 ∙ ap (λ (es : List Entry). h.0 ++ es) none ∙ append-nil h.0)) h.2

-- the next member is one of all
pub is_next : (text : List ℕ) (all left rest : List Entry) (e : Entry) (word : List ℕ) (cs : List Catalogue)
    → left ≡ e ∷ rest → word ≡ string_bytes e.0 → ReadSoFar text all left cs
    → HasMember word (view e.1) (members_view all)
is_next text all left rest e word cs next named h =
    subst (λ (x : List ℕ). HasMember x (view e.1) (members_view all)) (sym named)
    (subst (λ (es : List Entry). HasMember (string_bytes e.0) (view e.1) (members_view es))
    (sym (h.1 ∙ ap (λ (es : List Entry). h.0 ++ es) next)) (is_member h.0 e rest))

-- an error is passed on
pub refused : {A : Type 0} (P : CatalogueError → Type 0) (e f : CatalogueError) (r : Result A CatalogueError)
    → r ≡ Err f → f ≡ e → P e → IfErr r P
refused P e f r is of h = rw (is, of) h
