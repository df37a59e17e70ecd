-- Elements within an element are read as they are written, and built as they are written.
use Rattle.std.proofs.Common.{◌≡◌, List, [], ◌∷◌, Option, Some, None, Result, Ok, Err, Bool, true, false, cond, refl, sym, ap, subst}
use Rattle.zber.specs.AsnTags.{AsnTag}
use Rattle.zber.specs.Elements.{Element, Primitive, Constructed, end, forest, elements, tag_of}
use Rattle.zber.proofs.Runs.{elements-forest}
use Rattle.zasn_tables.specs.Standing.{required, ended, sequence}
use Rattle.zber.specs.Tags.{same_tag, among}
use Rattle.zasn_tables.specs.Laws.{IsLawfulPlace, IsSpelled}
use Rattle.zasn_tables.specs.Place.{Place}
use Rattle.zasn_tables.specs.Table.{Elements}
use Rattle.zasn_tables.specs.Within.{value_read, sequence_of, around, itself, any_at, is_kept, each, with_head, all_meanings, list_meaning, whole_of, all_spellings}
use Rattle.zasn_tables.proofs.Readings.{same_tag-refl, or_left, one_tag}

abbrev some : {A : Type 0} → A → Option A
some x = Some x

some_is : {A : Type 0} (x y : A) → some x ≡ some y → x ≡ y
some_is x y e = cc

found_some : {A : Type 0} (r : Result A (List Element)) (x : A) → value_read r ≡ Some x → r ≡ Ok x
found_some (Ok y) x e = let same : y ≡ x = some_is y x e in ap (λ (z : _). Ok z) same
found_some (Err s) x e = absurd cc

module _ {V : Type 0} (tag : AsnTag) (parts : V → List Element → Type 0) (walk : List Element → Result V (List Element)) (made : V → Option (List Element))
    (reads : (ns : List Element) (v : V) → walk ns ≡ Ok v → parts v ns) (finds : (ns : List Element) (v : V) → parts v ns → walk ns ≡ Ok v)
    (makes : (v : V) (ns : List Element) → made v ≡ Some ns → parts v ns) (nothing : (v : V) → made v ≡ None → (ns : List Element) → parts v ns → ⊥) where
  nested_begins : (x : V) (n : Element) → sequence tag (parts x) n → among (tag_of n) (tag ∷ []) ≡ true
  nested_begins x (Primitive t b) h = absurd h
  nested_begins x (Constructed t f) h = rw h.0 (or_left (same_tag tag tag) false (same_tag-refl tag))

  nested_reads : (x : V) (n : Element) → among (tag_of n) (tag ∷ []) ≡ true → sequence_of walk n ≡ Some x → sequence tag (parts x) n
  nested_reads x (Primitive t b) h e = absurd cc
  nested_reads x (Constructed t f) h e = (one_tag tag (Constructed t f) h, reads (elements f) x (found_some (walk (elements f)) x e))

  nested_finds : (x : V) (n : Element) → sequence tag (parts x) n → sequence_of walk n ≡ Some x
  nested_finds x (Primitive t b) h = absurd h
  nested_finds x (Constructed t f) h = rw (finds (elements f) x h.1) refl

  nested_some : (x : V) (ns : List Element) → parts x ns → (x : V) × (n : Element) × sequence tag (parts x) n
  nested_some x ns h = (x, Constructed tag (forest ns), (refl, subst (λ (ms : List Element). parts x ms) (sym (elements-forest ns)) h))

  pub nested_place : (x : V) (ns : List Element) → parts x ns → IsLawfulPlace (λ v. sequence tag (parts v)) (tag ∷ []) (sequence_of walk)
  nested_place x ns h = record { some = nested_some x ns h; begins = nested_begins; reads = nested_reads; finds = nested_finds }

  nested_makes : (v : V) (n : Element) (o : Option (List Element)) → made v ≡ o → around tag o ≡ Some n → sequence tag (parts v) n
  nested_makes v n None e f = absurd cc
  nested_makes v n (Some ns) e f =
      let there : parts v (elements (forest ns)) = subst (λ (ms : List Element). parts v ms) (sym (elements-forest ns)) (makes v ns e) in
      subst (λ (m : Element). sequence tag (parts v) m) (some_is (Constructed tag (forest ns)) n f) (refl, there)

  nested_none : (v : V) (o : Option (List Element)) → made v ≡ o → around tag o ≡ None → (n : Element) → sequence tag (parts v) n → ⊥
  nested_none v (Some ns) e f n h = absurd cc
  nested_none v None e f (Primitive t b) h = h
  nested_none v None e f (Constructed t g) h = nothing v e (elements g) h.1

  pub nested_spelled : IsSpelled (λ v. sequence tag (parts v)) (λ v. around tag (made v))
  nested_spelled = record { makes = λ v n e. nested_makes v n (made v) refl e; none = λ v e n h. nested_none v (made v) refl e n h }

-- of elements that a table describes
pub elements_reads : {V : Type 0} (e : Elements V) (ns : List Element) (v : V) → e.at ns ≡ Ok v → e.writes v ns
elements_reads e ns v f = let h = e.read.reads ns v f in subst (λ (w : _). e.writes w ns) h.1 h.2

pub elements_makes : {V : Type 0} (e : Elements V) (v : V) (ns : List Element) → e.spelling v [] ≡ Some ns → e.writes v ns
elements_makes e v ns f = let h = e.build.makes [] v ns f in subst (λ (ms : List Element). e.writes v ms) (sym h.1) h.2

pub within_place : {V : Type 0} (tag : AsnTag) (e : Elements V) → IsLawfulPlace (λ v. sequence tag (e.writes v)) (tag ∷ []) (sequence_of e.at)
within_place tag e =
    let s = e.read.some in
    nested_place tag e.writes e.at (λ v. e.spelling v []) (elements_reads e) (λ ns v h. e.read.finds v ns h) (elements_makes e) (λ v f ns h. e.build.none [] v f ns h) s.0 s.1 s.2

pub within_spelled : {V : Type 0} (tag : AsnTag) (e : Elements V) → IsSpelled (λ v. sequence tag (e.writes v)) (λ v. around tag (e.spelling v []))
within_spelled tag e = nested_spelled tag e.writes e.at (λ v. e.spelling v []) (elements_reads e) (λ ns v h. e.read.finds v ns h) (elements_makes e) (λ v f ns h. e.build.none [] v f ns h)

-- one element, whichever it is
any_reads : (ns : List Element) (m : Element) → any_at ns ≡ Ok m → required itself m ended ns
any_reads [] m e = absurd cc
any_reads (n ∷ []) m e = let same : n ≡ m = cc in (same, tt)
any_reads (n ∷ k ∷ ns) m e = absurd cc

any_finds : (ns : List Element) (m : Element) → required itself m ended ns → any_at ns ≡ Ok m
any_finds [] m h = absurd h
any_finds (n ∷ []) m h = ap (λ (k : Element). Ok k) h.0
any_finds (n ∷ k ∷ ns) m h = absurd h.1

any_makes : (m : Element) (ns : List Element) → some (m ∷ []) ≡ Some ns → required itself m ended ns
any_makes m ns e = subst (λ (ms : List Element). required itself m ended ms) (some_is (m ∷ []) ns e) (refl, tt)

any_none : (m : Element) → some (m ∷ []) ≡ None → (ns : List Element) → required itself m ended ns → ⊥
any_none m e ns h = absurd cc

pub any_place : (tag : AsnTag) → IsLawfulPlace (λ m. sequence tag (required itself m ended)) (tag ∷ []) (sequence_of any_at)
any_place tag = nested_place tag (λ m. required itself m ended) any_at (λ m. Some (m ∷ [])) any_reads any_finds any_makes any_none (Constructed tag end) (Constructed tag end ∷ []) (refl, tt)

pub any_spelled : (tag : AsnTag) → IsSpelled (λ m. sequence tag (required itself m ended)) (λ m. around tag (Some (m ∷ [])))
any_spelled tag = nested_spelled tag (λ m. required itself m ended) any_at (λ m. Some (m ∷ [])) any_reads any_finds any_makes any_none

-- an element that is kept
pub kept_place : (tag : AsnTag) (tags : List AsnTag) → IsLawfulPlace (is_kept (tag ∷ tags)) (tag ∷ tags) (λ n. Some n)
kept_place tag tags = record {
  some = (Primitive tag [], Primitive tag [], (refl, or_left (same_tag tag tag) (among tag tags) (same_tag-refl tag)));
  begins = λ m n h. h.1;
  reads = λ m n b e. (some_is n m e, b);
  finds = λ m n h. ap (λ (k : Element). Some k) h.0;
}

kept_makes : (tags : List AsnTag) (m n : Element) (b : Bool) → among (tag_of m) tags ≡ b → cond b (Some m) None ≡ Some n → is_kept tags m n
kept_makes tags m n true e f = let is : m ≡ n = some_is m n f in (sym is, subst (λ (k : Element). among (tag_of k) tags ≡ true) is e)
kept_makes tags m n false e f = absurd cc

kept_none : (tags : List AsnTag) (m n : Element) (b : Bool) → among (tag_of m) tags ≡ b → cond b (Some m) None ≡ None → is_kept tags m n → ⊥
kept_none tags m n true e f h = absurd cc
kept_none tags m n false e f h = let g : among (tag_of m) tags ≡ true = subst (λ (k : Element). among (tag_of k) tags ≡ true) h.0 h.1 in cc

pub kept_spelled : (tags : List AsnTag) → IsSpelled (is_kept tags) (λ m. cond (among (tag_of m) tags) (Some m) None)
kept_spelled tags = record {
  makes = λ m n e. kept_makes tags m n (among (tag_of m) tags) refl e;
  none = λ m e n h. kept_none tags m n (among (tag_of m) tags) refl e h;
}

-- one element after the other
module _ {A : Type 0} (p : Place A) where
  whole_turn : (x : A) (n : Element) (b : Bool) → among (tag_of n) p.tags ≡ b → cond b (p.meaning n) None ≡ Some x → p.writes x n
  whole_turn x n true e f = p.reads x n e f
  whole_turn x n false e f = absurd cc

  whole_finds : (x : A) (n : Element) → p.writes x n → whole_of p n ≡ Some x
  whole_finds x n h = rw (p.begins x n h, p.finds x n h) refl

  all_turn : (n : Element) (ns : List Element) (xs : List A) (o : Option A) (r : Option (List A)) → whole_of p n ≡ o → all_meanings (whole_of p) ns ≡ r → ((ys : List A) → all_meanings (whole_of p) ns ≡ Some ys → each p.writes ys ns) → with_head o r ≡ Some xs → each p.writes xs (n ∷ ns)
  all_turn n ns xs None r f g rest h = absurd cc
  all_turn n ns xs (Some x) None f g rest h = absurd cc
  all_turn n ns xs (Some x) (Some ys) f g rest h =
      subst (λ (zs : List A). each p.writes zs (n ∷ ns)) (some_is (x ∷ ys) xs h) (whole_turn x n (among (tag_of n) p.tags) refl f, rest ys g)

  all_reads : (ns : List Element) (xs : List A) → all_meanings (whole_of p) ns ≡ Some xs → each p.writes xs ns
  all_reads [] [] e = tt
  all_reads [] (x ∷ xs) e = absurd cc
  all_reads (n ∷ ns) xs e = all_turn n ns xs (whole_of p n) (all_meanings (whole_of p) ns) refl refl (λ ys g. all_reads ns ys g) e

  all_finds : (ns : List Element) (xs : List A) → each p.writes xs ns → all_meanings (whole_of p) ns ≡ Some xs
  all_finds [] [] h = refl
  all_finds [] (x ∷ xs) h = absurd h
  all_finds (n ∷ ns) [] h = absurd h
  all_finds (n ∷ ns) (x ∷ xs) h = rw (whole_finds x n h.0, all_finds ns xs h.1) refl

  list_begins : (outer : AsnTag) (xs : List A) (n : Element) → sequence outer (each p.writes xs) n → among (tag_of n) (outer ∷ []) ≡ true
  list_begins outer xs (Primitive t b) h = absurd h
  list_begins outer xs (Constructed t f) h = rw h.0 (or_left (same_tag outer outer) false (same_tag-refl outer))

  list_reads : (outer : AsnTag) (xs : List A) (n : Element) → among (tag_of n) (outer ∷ []) ≡ true → list_meaning (whole_of p) n ≡ Some xs → sequence outer (each p.writes xs) n
  list_reads outer xs (Primitive t b) h e = absurd cc
  list_reads outer xs (Constructed t f) h e = (one_tag outer (Constructed t f) h, all_reads (elements f) xs e)

  list_finds : (outer : AsnTag) (xs : List A) (n : Element) → sequence outer (each p.writes xs) n → list_meaning (whole_of p) n ≡ Some xs
  list_finds outer xs (Primitive t b) h = absurd h
  list_finds outer xs (Constructed t f) h = all_finds (elements f) xs h.1

  pub list_place : (outer : AsnTag) → IsLawfulPlace (λ xs. sequence outer (each p.writes xs)) (outer ∷ []) (list_meaning (whole_of p))
  list_place outer = record { some = ([], Constructed outer end, (refl, tt)); begins = list_begins outer; reads = list_reads outer; finds = list_finds outer }

  spelt_turn : (x : A) (xs : List A) (ns : List Element) (o : Option Element) (r : Option (List Element)) → p.spelling x ≡ o → all_spellings p.spelling xs ≡ r → ((ms : List Element) → all_spellings p.spelling xs ≡ Some ms → each p.writes xs ms) → with_head o r ≡ Some ns → each p.writes (x ∷ xs) ns
  spelt_turn x xs ns None r f g rest h = absurd cc
  spelt_turn x xs ns (Some n) None f g rest h = absurd cc
  spelt_turn x xs ns (Some n) (Some ms) f g rest h = subst (λ (ks : List Element). each p.writes (x ∷ xs) ks) (some_is (n ∷ ms) ns h) (p.makes x n f, rest ms g)

  all_makes : (xs : List A) (ns : List Element) → all_spellings p.spelling xs ≡ Some ns → each p.writes xs ns
  all_makes [] [] e = tt
  all_makes [] (n ∷ ns) e = absurd cc
  all_makes (x ∷ xs) ns e = spelt_turn x xs ns (p.spelling x) (all_spellings p.spelling xs) refl refl (λ ms g. all_makes xs ms g) e

  none_turn : (x : A) (xs : List A) (n : Element) (ns : List Element) (o : Option Element) (r : Option (List Element)) → p.spelling x ≡ o → all_spellings p.spelling xs ≡ r → (all_spellings p.spelling xs ≡ None → each p.writes xs ns → ⊥) → with_head o r ≡ None → p.writes x n → each p.writes xs ns → ⊥
  none_turn x xs n ns None r f g rest h k j = p.none x f n k
  none_turn x xs n ns (Some m) None f g rest h k j = rest g j
  none_turn x xs n ns (Some m) (Some ms) f g rest h k j = absurd cc

  all_none : (xs : List A) → all_spellings p.spelling xs ≡ None → (ns : List Element) → each p.writes xs ns → ⊥
  all_none [] e ns h = absurd cc
  all_none (x ∷ xs) e [] h = h
  all_none (x ∷ xs) e (n ∷ ns) h = none_turn x xs n ns (p.spelling x) (all_spellings p.spelling xs) refl refl (λ g. all_none xs g ns) e h.0 h.1

  list_makes : (outer : AsnTag) (xs : List A) (n : Element) (o : Option (List Element)) → all_spellings p.spelling xs ≡ o → around outer o ≡ Some n → sequence outer (each p.writes xs) n
  list_makes outer xs n None e f = absurd cc
  list_makes outer xs n (Some ns) e f =
      let there : each p.writes xs (elements (forest ns)) = subst (λ (ms : List Element). each p.writes xs ms) (sym (elements-forest ns)) (all_makes xs ns e) in
      subst (λ (m : Element). sequence outer (each p.writes xs) m) (some_is (Constructed outer (forest ns)) n f) (refl, there)

  list_none : (outer : AsnTag) (xs : List A) (o : Option (List Element)) → all_spellings p.spelling xs ≡ o → around outer o ≡ None → (n : Element) → sequence outer (each p.writes xs) n → ⊥
  list_none outer xs (Some ns) e f n h = absurd cc
  list_none outer xs None e f (Primitive t b) h = h
  list_none outer xs None e f (Constructed t g) h = all_none xs e (elements g) h.1

  pub list_spelled : (outer : AsnTag) → IsSpelled (λ xs. sequence outer (each p.writes xs)) (λ xs. around outer (all_spellings p.spelling xs))
  list_spelled outer = record {
    makes = λ xs n e. list_makes outer xs n (all_spellings p.spelling xs) refl e;
    none = λ xs e n h. list_none outer xs (all_spellings p.spelling xs) refl e n h;
  }
