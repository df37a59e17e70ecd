-- How an index is built: one place more, one field more, one entry more.
use Rattle.std.proofs.Common.{◌≡◌, refl, sym, ◌∙◌, ap, subst, ℕ, ◌+◌, List, [], ◌∷◌, ◌++◌, Bool, true, false, cond, Some, None, if◌then◌else◌, unwrap_or, append_assoc}
use Rattle.std.proofs.lemmas.List.{append-nil}
use Rattle.std.proofs.lemmas.Cmp.{nat_list_eq_equiv}
use Rattle.std.proofs.lemmas.Map.Text.{is_eq-slice_cmp}
use Rattle.std.proofs.lemmas.Map.Lookups.{exact_bytes}
use Rattle.std.specs.Cmp.{Equal-is}
use Rattle.std.specs.BTreeMap.{BTreeMap, is_at, get, Updates, WritesThrough}
use Rattle.std.specs.Cmp.Lexicographic.{slice_cmp}
use Rattle.std.specs.Map.{lookup}
use Rattle.std.specs.Option.{IsSome}
use Rattle.std.specs.Prelude.{Result, Ok, Err, OnOk}
use Rattle.std.specs.Ordering.{nat_cmp}
use Rattle.std.specs.Str.{bytes_eq}
use Rattle.ztarget.specs.declared.database.Entry.{Entry}
use Rattle.ztarget.specs.declared.database.Field.{Field}
use Rattle.ztarget.specs.declared.index.Place.{Place}
use Rattle.ztarget.specs.Words.{words}
use Rattle.ztarget.specs.Indexing.{word_places, field_places, entry_places, at_word, indexed_places}
use Rattle.ztarget.proofs.Indexes.{picked_append}

-- a clause on `Ok`, case by case
pub OnOk_map : {T E : Type 0} (r : Result T E) (P Q : Type 0) → (P → Q) → OnOk r P → OnOk r Q
OnOk_map (Ok x) P Q f h = f h
OnOk_map (Err e) P Q f h = h

-- what is added at one word
module _ (m n : List (List ℕ × List Place)) (word : List ℕ) (p : Place) (new : List Place) (at : (q : List ℕ) → lookup (is_at (slice_cmp nat_cmp q)) n ≡ cond (is_at (slice_cmp nat_cmp word) q) (Some new) (lookup (is_at (slice_cmp nat_cmp q)) m)) (is : new ≡ indexed_places m word ++ p ∷ []) where
  added_by : (w : List ℕ) (b : Bool) → is_at (slice_cmp nat_cmp word) w ≡ b → indexed_places n w ≡ indexed_places m w ++ (if bytes_eq w word then p ∷ [] else [])
  added_by w true here =
      let same : word ≡ w = exact_bytes word w ((Equal-is (slice_cmp nat_cmp word w)).0 here) in
      let equal : bytes_eq w word ≡ true = subst (λ v. bytes_eq w v ≡ true) (sym same) (nat_list_eq_equiv.refl w) in
      ap (λ o. unwrap_or o []) (at w ∙ ap (λ b. cond b (Some new) (lookup (is_at (slice_cmp nat_cmp w)) m)) here)
      ∙ is ∙ ap (λ v. indexed_places m v ++ p ∷ []) same ∙ ap (λ b. indexed_places m w ++ (if b then p ∷ [] else [])) (sym equal)
  added_by w false here =
      let other : bytes_eq w word ≡ false = nat_list_eq_equiv.symm w word ∙ sym (is_eq-slice_cmp word w) ∙ here in
      ap (λ o. unwrap_or o []) (at w ∙ ap (λ b. cond b (Some new) (lookup (is_at (slice_cmp nat_cmp w)) m)) here)
      ∙ sym (append-nil (indexed_places m w)) ∙ ap (λ b. indexed_places m w ++ (if b then p ∷ [] else [])) (sym other)

  added : (w : List ℕ) → indexed_places n w ≡ indexed_places m w ++ at_word w ((word, p) ∷ [])
  added w = added_by w _ refl

module _ (m n : BTreeMap (List ℕ) (List Place)) (word : List ℕ) (p : Place) (new : List Place) where
  pub put_lent : (v : List Place) → Some v ≡ get (slice_cmp nat_cmp) m word → WritesThrough (slice_cmp nat_cmp) (slice_cmp nat_cmp word) m new n → new ≡ v ++ p ∷ [] → (w : List ℕ) → indexed_places n.entries w ≡ indexed_places m.entries w ++ at_word w ((word, p) ∷ [])
  put_lent v is through pushed = added m.entries n.entries word p new (through.3 (subst IsSome is refl)).0 (pushed ∙ ap (λ o. unwrap_or o [] ++ p ∷ []) is)

  pub put_fresh : None ≡ get (slice_cmp nat_cmp) m word → Updates (slice_cmp nat_cmp) m n word (Some new) → new ≡ p ∷ [] → (w : List ℕ) → indexed_places n.entries w ≡ indexed_places m.entries w ++ at_word w ((word, p) ∷ [])
  put_fresh is puts pushed = added m.entries n.entries word p new puts.0 (pushed ∙ ap (λ o. unwrap_or o [] ++ p ∷ []) is)

pub field_more : (w : List ℕ) (e f : ℕ) (x : Field) (rest xs : List Field) (so_far next all : List Place) → rest ≡ x ∷ xs → next ≡ so_far ++ at_word w (word_places e f 0 (words x.text))
    → so_far ++ at_word w (field_places e f rest) ≡ all → next ++ at_word w (field_places e (f + 1) xs) ≡ all
field_more w e f x rest xs so_far next all front now before =
    ap (λ l. l ++ at_word w (field_places e (f + 1) xs)) now ∙ append_assoc so_far (at_word w (word_places e f 0 (words x.text))) (at_word w (field_places e (f + 1) xs))
    ∙ ap (λ l. so_far ++ l) (sym (picked_append (bytes_eq w) (word_places e f 0 (words x.text)) (field_places e (f + 1) xs)))
    ∙ ap (λ t. so_far ++ at_word w (field_places e f t)) (sym front) ∙ before

pub entry_more : (w : List ℕ) (n : ℕ) (x : Entry) (rest xs : List Entry) (so_far next all : List Place) → rest ≡ x ∷ xs → next ≡ so_far ++ at_word w (field_places n 0 x.fields)
    → so_far ++ at_word w (entry_places n rest) ≡ all → next ++ at_word w (entry_places (n + 1) xs) ≡ all
entry_more w n x rest xs so_far next all front now before =
    ap (λ l. l ++ at_word w (entry_places (n + 1) xs)) now ∙ append_assoc so_far (at_word w (field_places n 0 x.fields)) (at_word w (entry_places (n + 1) xs))
    ∙ ap (λ l. so_far ++ l) (sym (picked_append (bytes_eq w) (field_places n 0 x.fields) (entry_places (n + 1) xs)))
    ∙ ap (λ t. so_far ++ at_word w (entry_places n t)) (sym front) ∙ before
