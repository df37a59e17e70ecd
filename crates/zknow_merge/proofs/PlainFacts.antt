-- The fact of a plain record, and its head.
use Rattle.std.proofs.Common.{◌≡◌, ◌<◌, ◌≤◌, ◌+◌, ◌^◌, ℕ, ℤ, pos, cond, Bool, true, List, [], ◌∷◌, ◌++◌, length, take, drop, Option, Some, None, refl, sym, ap, subst, ◌∙◌, arith, length-append}
use Rattle.std.proofs.lemmas.Int.{ints}
use Rattle.std.proofs.lemmas.Bool.{lt-ltb}
use Rattle.std.proofs.Math.Seq.{take-append_seam}
use Rattle.zber.specs.AsnTags.{AsnTag, context, universal}
use Rattle.zber.specs.Elements.{Element, Forest, end, leaf, branch, Primitive, Constructed, height}
use Rattle.zber.specs.Canonical.{canonical_run, canonical, AreLawful, IsLawful}
use Rattle.zber.specs.Integers.{integer_octets}
use Rattle.zber.specs.Oids.{is_oid, oid_octets}
use Rattle.zber.specs.Spelling.{IsMessage}
use Rattle.zber.proofs.CanonicalLemmas.{canonical_is_spelling}
use Rattle.zasn_tables.specs.Building.{◌>>=◌, required_put}
use Rattle.zasn_tables.specs.Place.{Place}
use Rattle.zasn_tables.specs.Within.{around}
use Rattle.zasn_tables.specs.Meanings.{int_spelling}
use Rattle.zapdu.specs.Productions.Records.{whole_record}
use Rattle.zknow.specs.declared.fact.Fact.{Fact}
use Rattle.zknow.specs.declared.fact.Fact.TheVariants.{Seen}
use Rattle.zknow.specs.Encodings.{encoding, canonical_or_empty}
use Rattle.zknow.specs.Saved.Naturals.{natural_spelling}
use Rattle.zknow.specs.Saved.SavedFacts.{seen_parts, any_fact, fact_in_range, saved_fact}
use Rattle.zknow.specs.Saved.Saved.{longest, IsWithinLimits}
use Rattle.zknow.proofs.SavedTheory.FactSpelled.{at_least}
use Rattle.zknow_merge.specs.declared.head.Head.{Head}
use Rattle.zknow_merge.specs.Canonical.{framed}
use Rattle.zknow_merge.specs.Heads.{IsLawfulAt, IsSavable}
use Rattle.zknow_merge.specs.Plain.{AreNumbers, IsPlain}
use Rattle.zknow_merge.specs.Sources.{IsNextHead}
use Rattle.zknow_merge.proofs.PlainRecords.{leaf_run, last_branch, branch_lawful, framed_longer, context_tag, universal_tag, then_some, put_some, record_of, record_node, named_forest, record_spelled, IsRecordOf, plain_record}

-- ---- any element

encoded_by : {A : Type 0} (p : Place A) (x : A) (n : Element) (element : List ℕ) → p.spelling x ≡ Some n
    → canonical n ≡ element → encoding p x ≡ element
encoded_by p x n element is run = ap canonical_or_empty is ∙ run

fits_by : {A : Type 0} (p : Place A) (x : A) (n : Element) (element : List ℕ) → p.spelling x ≡ Some n
    → canonical n ≡ element → IsLawful n → height n ≤ 64 → length element ≤ longest → IsWithinLimits p x
fits_by p x n element is run lawful low few = record {
  node = n;
  message = subst (IsMessage longest n) (sym (ap canonical_or_empty is)) (record {
    spelled = canonical_is_spelling 64 n lawful low;
    within = subst (λ (l : List ℕ). length l ≤ longest) (sym run) few;
  });
  says = p.makes x n is;
}

lawful_by : {A : Type 0} (p : Place A) (x : A) (n : Element) → p.spelling x ≡ Some n → IsLawful n → IsLawfulAt p x
lawful_by p x n is lawful m also =
    let same : Some n ≡ Some m = sym is ∙ also in
    let one : n ≡ m = cc in
    subst IsLawful one lawful

-- ---- the element of a fact

natural_is : (tag : AsnTag) (n : ℕ) → n < 2 ^ 32 → natural_spelling tag (record { number = n })
    ≡ Some (Primitive tag (integer_octets (pos n)))
natural_is tag n fits = ap (λ (b : Bool). cond b (Some (Primitive tag (integer_octets (pos n)))) None)
    (lt-ltb n (2 ^ 32) fits)

integer_is : (tag : AsnTag) (n : ℕ) → n < 2 ^ 32 → int_spelling tag (pos n)
    ≡ Some (Primitive tag (integer_octets (pos n)))
integer_is tag n fits = ap (λ (b : Bool). cond b (Some (Primitive tag (integer_octets (pos n)))) None)
    (lt-ltb n (2 ^ 63) (omega (arith, fits)))

-- the run of the elements of a fact
abbrev pub fact_forest : ℕ → ℕ → ℕ → Option (List ℕ) → List ℕ → List ℕ → Forest
fact_forest t s p name oid content =
    leaf (context 0) (integer_octets (pos t)) (leaf (context 1) (integer_octets (pos s))
    (leaf (context 2) (integer_octets (pos p)) (branch (universal 16) (named_forest name oid content) end)))

abbrev pub fact_node : ℕ → ℕ → ℕ → Option (List ℕ) → List ℕ → List ℕ → Element
fact_node t s p name oid content = Constructed (context 2) (fact_forest t s p name oid content)

abbrev pub fact_of_record : ℕ → ℕ → ℕ → Option (List ℕ) → List ℕ → List ℕ → Fact
fact_of_record t s p name arcs content = Seen t s (pos p) (record_of name arcs content)

node_levels : (t s p : ℕ) (name : Option (List ℕ)) (oid content : List ℕ)
    → height (fact_node t s p name oid content) ≡ 5
node_levels t s p None oid content = refl
node_levels t s p (Some name) oid content = refl

node_height : (t s p : ℕ) (name : Option (List ℕ)) (oid content : List ℕ)
    → height (fact_node t s p name oid content) ≤ 64
node_height t s p name oid content =
    let low : 5 ≤ 64 = omega arith in
    subst (λ (h : ℕ). h ≤ 64) (sym (node_levels t s p name oid content)) low

module _ (t s p : ℕ) (name : Option (List ℕ)) (arcs content : List ℕ) (is : is_oid arcs ≡ true) (ft : t < 2 ^ 32)
    (fs : s < 2 ^ 32) (fp : p < 2 ^ 32) (some : 0 < p) where
  abbrev with_record : List Element → Option (List Element)
  with_record out = required_put whole_record.spelling (record_of name arcs content) out >>= λ
      (all : List Element). Some all

  abbrev with_position : List Element → Option (List Element)
  with_position out = required_put (int_spelling (context 2)) (pos p) out >>= with_record

  abbrev with_set : List Element → Option (List Element)
  with_set out = required_put (natural_spelling (context 1)) (record { number = s }) out >>= with_position

  parts_spelled : (required_put (natural_spelling (context 0)) (record { number = t }) [] >>= with_set)
      ≡ Some (Primitive (context 0) (integer_octets (pos t)) ∷ Primitive (context 1) (integer_octets (pos s))
      ∷ Primitive (context 2) (integer_octets (pos p)) ∷ record_node name (oid_octets arcs) content ∷ [])
  parts_spelled =
      let a = Primitive (context 0) (integer_octets (pos t)) in
      let b = Primitive (context 1) (integer_octets (pos s)) in
      let c = Primitive (context 2) (integer_octets (pos p)) in
      let d = record_node name (oid_octets arcs) content in
      let all = a ∷ b ∷ c ∷ d ∷ [] in
      then_some (required_put (natural_spelling (context 0)) (record { number = t }) []) with_set (a ∷ []) (Some all)
      (put_some (natural_spelling (context 0)) (record { number = t }) [] a (natural_is (context 0) t ft))
      (then_some (required_put (natural_spelling (context 1)) (record { number = s }) (a ∷ [])) with_position
      (a ∷ b ∷ []) (Some all)
      (put_some (natural_spelling (context 1)) (record { number = s }) (a ∷ []) b (natural_is (context 1) s fs))
      (then_some (required_put (int_spelling (context 2)) (pos p) (a ∷ b ∷ [])) with_record (a ∷ b ∷ c ∷ []) (Some all)
      (put_some (int_spelling (context 2)) (pos p) (a ∷ b ∷ []) c (integer_is (context 2) p fp))
      (then_some (required_put whole_record.spelling (record_of name arcs content) (a ∷ b ∷ c ∷ []))
      (λ (out : List Element). Some out) all (Some all)
      (put_some whole_record.spelling (record_of name arcs content) (a ∷ b ∷ c ∷ []) d
      (record_spelled name arcs content is)) refl)))

  seen_spelled : any_fact.spelling (fact_of_record t s p name arcs content)
      ≡ Some (fact_node t s p name (oid_octets arcs) content)
  unfolding seen_parts
  seen_spelled = ap (around (context 2)) parts_spelled

  in_range : fact_in_range (fact_of_record t s p name arcs content) ≡ true
  in_range = at_least (pos 1) (pos p) (omega (arith, ints, some))

  pub fact_spelled : saved_fact.spelling (fact_of_record t s p name arcs content)
      ≡ Some (fact_node t s p name (oid_octets arcs) content)
  fact_spelled = ap (λ (b : Bool). cond b (any_fact.spelling (fact_of_record t s p name arcs content)) None) in_range
      ∙ seen_spelled

-- ---- lengths

inner_length : (x : ℕ) (xs ys : List ℕ) → ys ≡ framed x xs → length ys < 2 ^ 64 → length xs < 2 ^ 64
inner_length x xs ys is few = omega (arith, few, ap length is, framed_longer x xs)

whole_length : (xs ys : List ℕ) → ys ≡ framed 162 xs → length ys ≤ 4194304 → length xs < 2 ^ 64
whole_length xs ys is few = omega (arith, few, ap length is, framed_longer 162 xs)

part_lengths : (a b c d all : List ℕ) → all ≡ framed 128 a ++ (framed 129 b ++ (framed 130 c ++ d))
    → length all < 2 ^ 64
    → (length a < 2 ^ 64) × (length b < 2 ^ 64) × (length c < 2 ^ 64) × (length d < 2 ^ 64)
part_lengths a b c d all is few =
    let sum : length all ≡ length (framed 128 a) + (length (framed 129 b) + (length (framed 130 c) + length d)) =
    omega (
      arith,
      ap length is,
      length-append (framed 128 a) (framed 129 b ++ (framed 130 c ++ d)),
      length-append (framed 129 b) (framed 130 c ++ d),
      length-append (framed 130 c) d,
    ) in (
      omega (arith, few, sum, framed_longer 128 a),
      omega (arith, few, sum, framed_longer 129 b),
      omega (arith, few, sum, framed_longer 130 c),
      omega (arith, few, sum),
    )

-- ---- a plain record

module _ (octets element : List ℕ) (t s p : ℕ) (rec : List ℕ) (plain : IsPlain octets element t s p rec)
    (r : IsRecordOf rec) where
  record_run : canonical (record_node r.name (oid_octets r.arcs) r.content) ≡ rec
  record_run = last_branch (universal 16) 48 (named_forest r.name (oid_octets r.arcs) r.content) r.contents refl r.run
      ∙ sym r.is

  forest_run : canonical_run (fact_forest t s p r.name (oid_octets r.arcs) r.content) ≡ plain.contents
  forest_run =
      let last = branch (universal 16) (named_forest r.name (oid_octets r.arcs) r.content) end in
      let third = leaf (context 2) (integer_octets (pos p)) last in
      let second = leaf (context 1) (integer_octets (pos s)) third in
      leaf_run (context 0) 128 (integer_octets (pos t)) second refl
      ∙ ap (λ (l : List ℕ). framed 128 (integer_octets (pos t)) ++ l)
      (leaf_run (context 1) 129 (integer_octets (pos s)) third refl
      ∙ ap (λ (l : List ℕ). framed 129 (integer_octets (pos s)) ++ l)
      (leaf_run (context 2) 130 (integer_octets (pos p)) last refl
      ∙ ap (λ (l : List ℕ). framed 130 (integer_octets (pos p)) ++ l) record_run))
      ∙ sym plain.numbers.is

  node_run : canonical (fact_node t s p r.name (oid_octets r.arcs) r.content) ≡ element
  node_run = last_branch (context 2) 162 (fact_forest t s p r.name (oid_octets r.arcs) r.content)
      plain.contents refl forest_run ∙ sym plain.is

  few : length plain.contents < 2 ^ 64
  few = whole_length plain.contents element plain.is plain.small

  parts_few : (length (integer_octets (pos t)) < 2 ^ 64) × (length (integer_octets (pos s)) < 2 ^ 64)
      × (length (integer_octets (pos p)) < 2 ^ 64) × (length rec < 2 ^ 64)
  parts_few = part_lengths (integer_octets (pos t)) (integer_octets (pos s)) (integer_octets (pos p))
      rec plain.contents plain.numbers.is few

  record_lawful : IsLawful (record_node r.name (oid_octets r.arcs) r.content)
  record_lawful =
      let short : length r.contents < 2 ^ 64 = inner_length 48 r.contents rec r.is parts_few.3 in
      branch_lawful (universal 16) (named_forest r.name (oid_octets r.arcs) r.content) r.contents
      (universal_tag 16 (omega arith) (omega arith)) r.run short (r.lawful short)

  node_lawful : IsLawful (fact_node t s p r.name (oid_octets r.arcs) r.content)
  node_lawful =
      branch_lawful (context 2) (fact_forest t s p r.name (oid_octets r.arcs) r.content) plain.contents
      (context_tag 2 (omega arith))
      forest_run few (
        context_tag 0 (omega arith),
        parts_few.0,
        (
          context_tag 1 (omega arith),
          parts_few.1,
          (context_tag 2 (omega arith), parts_few.2, record_lawful),
        ),
      )

  spelled : saved_fact.spelling (fact_of_record t s p r.name r.arcs r.content)
      ≡ Some (fact_node t s p r.name (oid_octets r.arcs) r.content)
  spelled = fact_spelled t s p r.name r.arcs r.content r.proper plain.numbers.target_fits plain.numbers.set_fits plain.numbers.position_fits plain.some

  of_record : whole_record.spelling (record_of r.name r.arcs r.content)
      ≡ Some (record_node r.name (oid_octets r.arcs) r.content)
  of_record = record_spelled r.name r.arcs r.content r.proper

  element_is : encoding saved_fact (fact_of_record t s p r.name r.arcs r.content) ≡ element
  element_is = encoded_by saved_fact (fact_of_record t s p r.name r.arcs r.content)
      (fact_node t s p r.name (oid_octets r.arcs) r.content) element spelled node_run

  record_is : encoding whole_record (record_of r.name r.arcs r.content) ≡ rec
  record_is = encoded_by whole_record (record_of r.name r.arcs r.content)
      (record_node r.name (oid_octets r.arcs) r.content) rec of_record record_run

  fits : IsWithinLimits saved_fact (fact_of_record t s p r.name r.arcs r.content)
  fits = fits_by saved_fact (fact_of_record t s p r.name r.arcs r.content)
      (fact_node t s p r.name (oid_octets r.arcs) r.content) element spelled node_run
      node_lawful (node_height t s p r.name (oid_octets r.arcs) r.content) plain.small

  savable : IsSavable (fact_of_record t s p r.name r.arcs r.content)
  savable = record {
    fits = fits;
    spellable = (
      record_node r.name (oid_octets r.arcs) r.content,
      whole_record.makes (record_of r.name r.arcs r.content) (record_node r.name (oid_octets r.arcs) r.content)
          of_record,
    );
    lawful = lawful_by whole_record (record_of r.name r.arcs r.content)
        (record_node r.name (oid_octets r.arcs) r.content) of_record record_lawful;
  }

  pub plain_next : (h : Head) → h.kind ≡ 2 → h.target ≡ t → h.set ≡ s → h.number ≡ pos p → h.octets.items ≡ rec
      → h.element.items ≡ element
      → IsNextHead octets h (fact_of_record t s p r.name r.arcs r.content)
  plain_next h kind target set number octets_are element_here =
      let size : length h.element.items ≡ length element = ap length element_here in
      record {
        head = record {
          key = record {
            kind = kind;
            target = target;
            set = set;
            number = number;
            octets = octets_are
                ∙ sym record_is;
          };
          element = element_here ∙ sym element_is;
          savable = savable;
        };
        front = record {
          within = omega (arith, size, ap length plain.begins, length-append element plain.after);
          canonical = ap (λ (n : ℕ). take n octets) size ∙ ap (take (length element)) plain.begins
              ∙ take-append_seam element plain.after ∙ sym element_is;
          element = fits;
        };
      }

-- the head of a plain record's fact
pub next_plain : (slice octets element : List ℕ) (t s p : ℕ) (rec : List ℕ) → slice ≡ octets
    → IsPlain slice element t s p rec → (h : Head) → h.kind ≡ 2 → h.target ≡ t → h.set ≡ s → h.number ≡ pos p
    → h.octets.items ≡ rec → h.element.items ≡ element → (f : Fact) × IsNextHead octets h f
next_plain slice octets element t s p rec same plain h kind target set number octets_are element_here =
    let r = plain_record rec plain.record_is in (
      fact_of_record t s p r.name r.arcs r.content,
      subst (λ (l : List ℕ). IsNextHead l h (fact_of_record t s p r.name r.arcs r.content)) same
          (plain_next slice element t s p rec plain r h kind target set number octets_are element_here),
    )
