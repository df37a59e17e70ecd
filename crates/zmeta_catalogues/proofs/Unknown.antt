-- The first key that is not known.
use Rattle.std.proofs.Common.{◌≡◌, ◌∙◌, sym, ap, refl, List, ℕ, [], ◌∷◌, Bool, true, false, cond, Option, Some, None, string_bytes}
use Rattle.toml.proofs.Views.{Entry}
use Rattle.toml.specs.View.{members_view}
use Rattle.zmeta_catalogues.specs.declared.words.TableKind.{TableKind}
use Rattle.zmeta_catalogues.specs.Keys.{is_known}
use Rattle.zmeta_catalogues.specs.Words.{first_unknown}

at_first : (kind : TableKind) (left rest : List Entry) (e : Entry) (b : Bool) → left ≡ e ∷ rest
    → is_known kind (string_bytes e.0) ≡ b
    → first_unknown kind (members_view left)
    ≡ cond b (first_unknown kind (members_view rest)) (Some (string_bytes e.0))
at_first kind left rest e b is known =
    ap (λ (es : List Entry). first_unknown kind (members_view es)) is
    ∙ ap (λ (x : Bool). cond x (first_unknown kind (members_view rest)) (Some (string_bytes e.0))) known

-- a known key
pub one_known : (kind : TableKind) (all : Option (List ℕ)) (left rest : List Entry) (e : Entry) → left ≡ e ∷ rest
    → is_known kind (string_bytes e.0) ≡ true → all ≡ first_unknown kind (members_view left)
    → all ≡ first_unknown kind (members_view rest)
one_known kind all left rest e is known h = h ∙ at_first kind left rest e true is known

-- a key that is not known
pub one_unknown : (kind : TableKind) (all : Option (List ℕ)) (left rest : List Entry) (e : Entry) → left ≡ e ∷ rest
    → is_known kind (string_bytes e.0) ≡ false → all ≡ first_unknown kind (members_view left)
    → Some (string_bytes e.0) ≡ all
one_unknown kind all left rest e is known h = sym (h ∙ at_first kind left rest e false is known)

-- all keys are known
pub none_unknown : (kind : TableKind) (all : Option (List ℕ)) (left : List Entry) → left ≡ []
    → all ≡ first_unknown kind (members_view left) → None ≡ all
none_unknown kind all left is h = sym (h ∙ ap (λ (es : List Entry). first_unknown kind (members_view es)) is)
