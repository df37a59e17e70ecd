-- Attributes with different sets and types, by an ordered set of these.
use Rattle.std.proofs.Common.{◌≡◌, ◌∙◌, sym, ap, refl, Bool, true, false, ◌&&◌, ◌||◌, not, cond, List, [], ◌∷◌, ◌++◌, ℕ, ℤ, Option, Some, None}
use Rattle.std.proofs.lemmas.Map.Text.{is_eq-slice_cmp}
use Rattle.std.proofs.lemmas.Bool.Decides.{same_from_decides, Decides-int_eq}
use Rattle.std.proofs.lemmas.Slice.Eq.{bytes_eq-Decides}
use Rattle.std.specs.Borrow.{Bor}
use Rattle.std.specs.BTreeMap.{is_at}
use Rattle.std.specs.BTreeSet.{BTreeSet, contains}
use Rattle.std.specs.Cmp.Lexicographic.{slice_cmp}
use Rattle.std.specs.declared.cmp.Ordering.{Ordering}
use Rattle.std.specs.declared.cmp.Ordering.TheVariants.{Less, Equal, Greater}
use Rattle.std.specs.List.{list_any}
use Rattle.std.specs.Option.{option_map, option_cmp}
use Rattle.std.specs.Ordering.{is_eq, ordering_then, nat_cmp, int_cmp, int_eq}
use Rattle.std.specs.Str.{bytes_eq}
use Rattle.zquery_rpn.specs.declared.query.Attr.{Attr}
use Rattle.zquery.specs.InForce.{same_set, alike}
use Rattle.zquery.specs.Notation.Apart.{Key, attr_key_cmp, is_key_of, AreAttrKeys}
use Rattle.zquery.specs.Notation.Printing.{plain_attr, plain_attrs}

both_eq : (a b : Ordering) → is_eq (ordering_then a b) ≡ is_eq a && is_eq b
both_eq Less b = refl
both_eq Equal b = refl
both_eq Greater b = refl

sets_eq : (x y : Option (Bor (List ℕ)))
    → is_eq (option_cmp (λ a b. slice_cmp nat_cmp a.now b.now) x y)
    ≡ same_set (option_map (λ s. s.now) x) (option_map (λ s. s.now) y)
sets_eq None None = refl
sets_eq None (Some y) = refl
sets_eq (Some x) None = refl
sets_eq (Some x) (Some y) = is_eq-slice_cmp x.now y.now

bytes_sym : (a b : List ℕ) → bytes_eq a b ≡ bytes_eq b a
bytes_sym a b =
    let back = bytes_eq-Decides b a in
    same_from_decides (bytes_eq a b) (bytes_eq b a) (bytes_eq-Decides a b) (λ e. sym (back.0 e), λ e. back.1 (sym e))

set_sym : (x y : Option (List ℕ)) → same_set x y ≡ same_set y x
set_sym None None = refl
set_sym None (Some b) = refl
set_sym (Some a) None = refl
set_sym (Some a) (Some b) = bytes_sym a b

int_sym : (x y : ℤ) → int_eq x y ≡ int_eq y x
int_sym x y =
    let back = Decides-int_eq y x in
    same_from_decides (int_eq x y) (int_eq y x) (Decides-int_eq x y) (λ e. sym (back.0 e), λ e. back.1 (sym e))

or_cond : (b a : Bool) → cond b true a ≡ (b || a)
or_cond true a = refl
or_cond false a = refl

module _ (k : Key) (a : Attr) (set : option_map (λ s. s.now) k.0 ≡ a.attr_set) (kind : k.1 ≡ a.kind) where
  key_is : (q : Key) → is_at (attr_key_cmp k) q ≡ is_key_of q a
  key_is q =
      let other : Option (List ℕ) = option_map (λ s. s.now) q.0 in
      let sets : is_eq (option_cmp (λ a b. slice_cmp nat_cmp a.now b.now) k.0 q.0) ≡ same_set other a.attr_set =
      sets_eq k.0 q.0 ∙ ap (λ z. same_set z other) set ∙ set_sym a.attr_set other in
      let kinds : is_eq (int_cmp k.1 q.1) ≡ int_eq q.1 a.kind = ap (λ z. int_eq z q.1) kind ∙ int_sym a.kind q.1 in
      both_eq (option_cmp (λ a b. slice_cmp nat_cmp a.now b.now) k.0 q.0) (int_cmp k.1 q.1) ∙ (λ i. sets i && kinds i)

  key_alike : (others : List Attr) → list_any (is_key_of k) others ≡ list_any (alike a) others
  unfolding alike
  key_alike others =
      ap (λ z. list_any (λ b. same_set z b.attr_set && int_eq k.1 b.kind) others) set
      ∙ ap (λ z. list_any (λ b. same_set a.attr_set b.attr_set && int_eq z b.kind) others) kind

  -- whether the key is new
  pub apart_keys : (seen : BTreeSet Key) (others : List Attr) (added : Bool) → added ≡ not (contains attr_key_cmp seen k)
      → AreAttrKeys seen others → added ≡ not (list_any (alike a) others)
  apart_keys seen others added is keys = is ∙ ap not (keys k ∙ key_alike others)

  -- and one more
  pub more_keys : (old new : BTreeSet Key) (others : List Attr)
      → ((q : Key) → contains attr_key_cmp new q ≡ cond (is_at (attr_key_cmp k) q) true (contains attr_key_cmp old q))
      → AreAttrKeys old others → AreAttrKeys new (a ∷ others)
  more_keys old new others updates keys q =
      updates q ∙ ap (λ b. cond b true (contains attr_key_cmp old q)) (key_is q) ∙ or_cond (is_key_of q a) (contains attr_key_cmp old q)
      ∙ ap (λ b. is_key_of q a || b) (keys q)

-- ---- from the last attribute on

neither : (a b : Bool) → (a && (b && false)) ≡ false
neither true true = refl
neither true false = refl
neither false b = refl

-- no list is plain whose end is not
pub not_plain : (own : List ℕ) (xs ys : List Attr) → plain_attrs own ys ≡ false → plain_attrs own (xs ++ ys) ≡ false
not_plain own [] ys h = h
not_plain own (x ∷ xs) ys h =
    ap (λ b. plain_attr own x && (not (list_any (alike x) (xs ++ ys)) && b)) (not_plain own xs ys h)
    ∙ neither (plain_attr own x) (not (list_any (alike x) (xs ++ ys)))
