-- Facts whose elements are within the limits of saved files: the fact order tells them apart.
use Rattle.std.proofs.Common.{◌≡◌, ℕ, ℤ, pos, int_le, Bool, true, false, cond, List, [], ◌∷◌, ◌++◌, length, Option, Some, None, refl, sym, ap, ◌∙◌, arith}
use Rattle.std.specs.declared.cmp.Ordering.{Ordering}
use Rattle.std.specs.declared.cmp.Ordering.TheVariants.{Less, Equal, Greater}
use Rattle.std.specs.Ordering.{nat_cmp, int_cmp, ordering_then}
use Rattle.std.proofs.lemmas.Map.Lookups.{exact_bytes, exact_unsigned, exact_signed}
use Rattle.zber.specs.AsnTags.{AsnTag, context}
use Rattle.zber.specs.Canonical.{canonical, canonical_run, identifier, size}
use Rattle.zber.specs.Elements.{Element, Primitive, Constructed, Forest, forest}
use Rattle.zasn.specs.Building.{◌>>=◌, required_put}
use Rattle.zasn.specs.Meanings.{int_spelling}
use Rattle.zasn.specs.Place.{Place, IsSpellable}
use Rattle.zasn.specs.Reading.{option_map}
use Rattle.zasn.specs.Within.{around}
use Rattle.zapdu.specs.declared.productions.diagnostic.DiagRec.{DiagRec}
use Rattle.zapdu.specs.declared.productions.record.Record.{Record}
use Rattle.zapdu.specs.Productions.Diagnostics.{diag_rec}
use Rattle.zapdu.specs.Productions.Records.{whole_record}
use Rattle.zknow.specs.declared.fact.Fact.{Fact}
use Rattle.zknow.specs.declared.fact.Fact.TheVariants.{Count, Failed, Seen, Diag}
use Rattle.zknow.specs.Encodings.{encoding, canonical_or_empty}
use Rattle.zknow.specs.Facts.{fact_cmp, fact_kind, fact_target, fact_set, fact_number, IsFact}
use Rattle.zknow.specs.Saved.Naturals.{natural_spelling}
use Rattle.zknow.specs.Saved.Saved.{IsWithinLimits}
use Rattle.zknow.specs.Saved.SavedFacts.{saved_fact, seen_parts, diag_parts}
use Rattle.zknow.proofs.SavedTheory.LoadSteps.{said_is_fact}
use Rattle.zknow.proofs.SavedTheory.OneElement.{one_element}
use Rattle.zknow_merge.proofs.HeadTheory.{SameKeys, said_is_spellable}

-- what an element within the limits says is a fact
pub is_fact_of : (f : Fact) → IsWithinLimits saved_fact f → IsFact f
is_fact_of f fits = said_is_fact f fits.node fits.says

-- ---- facts that tie

both_equal : (a b : Ordering) → ordering_then a b ≡ Equal → (a ≡ Equal) × (b ≡ Equal)
both_equal Less b e = absurd cc
both_equal Equal b e = (refl, e)
both_equal Greater b e = absurd cc

pub tied_keys : (f g : Fact) → fact_cmp f g ≡ Equal → SameKeys f g
unfolding fact_cmp
tied_keys f g tied =
    let a = both_equal (nat_cmp (fact_kind f) (fact_kind g)) _ tied in
    let b = both_equal (nat_cmp (fact_target f) (fact_target g)) _ a.1 in
    let c = both_equal (nat_cmp (fact_set f) (fact_set g)) _ b.1 in
    let d = both_equal (int_cmp (fact_number f) (fact_number g)) _ c.1 in
    record {
      kind = exact_unsigned _ _ a.0;
      target = exact_unsigned _ _ b.0;
      set = exact_unsigned _ _ c.0;
      number = exact_signed _ _ d.0;
      octets = exact_bytes _ _ d.1;
    }

-- ---- an element whose last part has one canonical encoding

last_in_run : (front : List Element) (m n : Element) → canonical m ≡ canonical n
    → canonical_run (forest (front ++ m ∷ [])) ≡ canonical_run (forest (front ++ n ∷ []))
last_in_run [] m n same = same
last_in_run (Primitive tag xs ∷ front) m n same =
    ap (λ (l : List ℕ). (identifier tag false ++ (size (length xs) ++ xs)) ++ l) (last_in_run front m n same)
last_in_run (Constructed tag f ∷ front) m n same =
    ap (λ (l : List ℕ). (identifier tag true ++ (size (length (canonical_run f)) ++ canonical_run f)) ++ l)
    (last_in_run front m n same)

around_run : (tag : AsnTag) (f g : Forest) → canonical_run f ≡ canonical_run g
    → canonical (Constructed tag f) ≡ canonical (Constructed tag g)
around_run tag f g same = ap (λ (l : List ℕ). (identifier tag true ++ (size (length l) ++ l)) ++ []) same

-- four parts within an element, of which the last is this one
abbrev of_four : AsnTag → Option (List Element) → (List Element → Option (List Element))
    → (List Element → Option (List Element)) → Option Element → Option Element
of_four tag one two three four = around tag (one >>= λ a. two a >>= λ b. three b >>= λ c.
    option_map (λ n. c ++ n ∷ []) four >>= λ d. Some d)

module _ (tag : AsnTag) (two three : List Element → Option (List Element)) (m n : Element)
    (same : canonical m ≡ canonical n) where
  behind_three : (made : Option (List Element))
      → canonical_or_empty (around tag (made >>= λ c. option_map (λ k. c ++ k ∷ []) (Some m) >>= λ d. Some d))
      ≡ canonical_or_empty (around tag (made >>= λ c. option_map (λ k. c ++ k ∷ []) (Some n) >>= λ d. Some d))
  behind_three None = refl
  behind_three (Some c) = around_run tag (forest (c ++ m ∷ [])) (forest (c ++ n ∷ [])) (last_in_run c m n same)

  behind_two : (made : Option (List Element))
      → canonical_or_empty (around tag (made >>= λ b. three b >>= λ c.
      option_map (λ k. c ++ k ∷ []) (Some m) >>= λ d. Some d))
      ≡ canonical_or_empty (around tag (made >>= λ b. three b >>= λ c.
      option_map (λ k. c ++ k ∷ []) (Some n) >>= λ d. Some d))
  behind_two None = refl
  behind_two (Some b) = behind_three (three b)

  behind_one : (made : Option (List Element))
      → canonical_or_empty (of_four tag made two three (Some m))
      ≡ canonical_or_empty (of_four tag made two three (Some n))
  behind_one None = refl
  behind_one (Some a) = behind_two (two a)

  if_any : (b : Bool) (made : Option (List Element))
      → canonical_or_empty (cond b (of_four tag made two three (Some m)) None)
      ≡ canonical_or_empty (cond b (of_four tag made two three (Some n)) None)
  if_any true made = behind_one made
  if_any false made = refl

module _ {A : Type 0} (p : Place A) (a b : A) (of_a : IsSpellable p a) (of_b : IsSpellable p b)
    (wrap : Option Element → Option Element)
    (each : (m n : Element) → canonical m ≡ canonical n
    → canonical_or_empty (wrap (Some m)) ≡ canonical_or_empty (wrap (Some n))) where
  by_spellings : (s t : Option Element) → p.spelling a ≡ s → p.spelling b ≡ t
      → canonical_or_empty s ≡ canonical_or_empty t → canonical_or_empty (wrap s) ≡ canonical_or_empty (wrap t)
  by_spellings None t is_s is_t same = absurd (p.none a is_s of_a.0 of_a.1)
  by_spellings (Some m) None is_s is_t same = absurd (p.none b is_t of_b.0 of_b.1)
  by_spellings (Some m) (Some n) is_s is_t same = each m n same

  wrapped_same : encoding p a ≡ encoding p b
      → canonical_or_empty (wrap (p.spelling a)) ≡ canonical_or_empty (wrap (p.spelling b))
  wrapped_same same = by_spellings (p.spelling a) (p.spelling b) refl refl same

-- ---- the element of a fact, by that of its record or diagnostic

-- adds the element of a number
abbrev natural_put : AsnTag → ℕ → List Element → Option (List Element)
natural_put tag n out = required_put (natural_spelling tag) (record { number = n }) out

-- the element with two numbers, an integer that is not below this one, and one part more
abbrev numbered : AsnTag → ℤ → ℕ → ℕ → ℤ → Option Element → Option Element
numbered tag low t s z part =
    cond (int_le low z)
    (of_four tag (natural_put (context 0) t []) (natural_put (context 1) s)
    (required_put (int_spelling (context 2)) z) part)
    None

numbered_same : (tag : AsnTag) (low : ℤ) (t s : ℕ) (z : ℤ) (m n : Element) → canonical m ≡ canonical n
    → canonical_or_empty (numbered tag low t s z (Some m)) ≡ canonical_or_empty (numbered tag low t s z (Some n))
numbered_same tag low t s z m n same =
    if_any tag (natural_put (context 1) s) (required_put (int_spelling (context 2)) z) m n same (int_le low z)
    (natural_put (context 0) t [])

module _ (t s : ℕ) (z : ℤ) where
  seen_is : (r : Record)
      → encoding saved_fact (Seen t s z r)
      ≡ canonical_or_empty (numbered (context 2) (pos 1) t s z (whole_record.spelling r))
  unfolding seen_parts
  seen_is r = refl

  diag_is : (d : DiagRec)
      → encoding saved_fact (Diag t s z d)
      ≡ canonical_or_empty (numbered (context 3) (pos 0) t s z (diag_rec.spelling d))
  unfolding diag_parts
  diag_is d = refl

  seen_same : (r q : Record) → IsSpellable whole_record r → IsSpellable whole_record q
      → encoding whole_record r ≡ encoding whole_record q
      → encoding saved_fact (Seen t s z r) ≡ encoding saved_fact (Seen t s z q)
  seen_same r q of_r of_q same =
      seen_is r
      ∙ wrapped_same whole_record r q of_r of_q (numbered (context 2) (pos 1) t s z)
      (numbered_same (context 2) (pos 1) t s z) same
      ∙ sym (seen_is q)

  diag_same : (d e : DiagRec) → IsSpellable diag_rec d → IsSpellable diag_rec e
      → encoding diag_rec d ≡ encoding diag_rec e
      → encoding saved_fact (Diag t s z d) ≡ encoding saved_fact (Diag t s z e)
  diag_same d e of_d of_e same =
      diag_is d
      ∙ wrapped_same diag_rec d e of_d of_e (numbered (context 3) (pos 0) t s z)
      (numbered_same (context 3) (pos 0) t s z) same
      ∙ sym (diag_is e)

-- facts with one encoding are equal
same_facts : (f g : Fact) → IsWithinLimits saved_fact f → IsWithinLimits saved_fact g
    → encoding saved_fact f ≡ encoding saved_fact g → f ≡ g
same_facts f g of_f of_g same =
    (one_element saved_fact f g (encoding saved_fact f) (encoding saved_fact g) [] [] of_f of_g
    (ap (λ (l : List ℕ). l ++ []) same)).0

other_kinds : {A : Type 0} (f g : Fact) → (fact_kind f ≡ fact_kind g → ⊥) → fact_cmp f g ≡ Equal → A
other_kinds f g differ tied = absurd (differ (tied_keys f g tied).kind)

-- ---- facts that tie are equal

pub tied_fits : (f g : Fact) → IsWithinLimits saved_fact f → IsWithinLimits saved_fact g → fact_cmp f g ≡ Equal
    → f ≡ g
tied_fits (Count t s n) (Count u q m) of_f of_g tied =
    let k = tied_keys (Count t s n) (Count u q m) tied in
    let a = k.target in
    let b = k.set in
    let c = k.number in
    (cc)
tied_fits (Failed t s) (Failed u q) of_f of_g tied =
    let k = tied_keys (Failed t s) (Failed u q) tied in
    let a = k.target in
    let b = k.set in
    (cc)
tied_fits (Seen t s p r) (Seen u q o v) of_f of_g tied =
    let k = tied_keys (Seen t s p r) (Seen u q o v) tied in
    let spelled_r : IsSpellable whole_record r = (is_fact_of (Seen t s p r) of_f).1 in
    let spelled_v : IsSpellable whole_record v = (is_fact_of (Seen u q o v) of_g).1 in
    same_facts (Seen t s p r) (Seen u q o v) of_f of_g
    (seen_same t s p r v spelled_r spelled_v k.octets
    ∙ ap (λ (n : ℕ). encoding saved_fact (Seen n s p v)) k.target
    ∙ ap (λ (n : ℕ). encoding saved_fact (Seen u n p v)) k.set
    ∙ ap (λ (n : ℤ). encoding saved_fact (Seen u q n v)) k.number)
tied_fits (Diag t s p d) (Diag u q o e) of_f of_g tied =
    let k = tied_keys (Diag t s p d) (Diag u q o e) tied in
    let spelled_d : IsSpellable diag_rec d = said_is_spellable (Diag t s p d) of_f.node of_f.says in
    let spelled_e : IsSpellable diag_rec e = said_is_spellable (Diag u q o e) of_g.node of_g.says in
    same_facts (Diag t s p d) (Diag u q o e) of_f of_g
    (diag_same t s p d e spelled_d spelled_e k.octets
    ∙ ap (λ (n : ℕ). encoding saved_fact (Diag n s p e)) k.target
    ∙ ap (λ (n : ℕ). encoding saved_fact (Diag u n p e)) k.set
    ∙ ap (λ (n : ℤ). encoding saved_fact (Diag u q n e)) k.number)
tied_fits (Count t s n) (Failed u q) of_f of_g tied =
    other_kinds (Count t s n) (Failed u q) (λ same. omega (arith, same)) tied
tied_fits (Count t s n) (Seen u q o v) of_f of_g tied =
    other_kinds (Count t s n) (Seen u q o v) (λ same. omega (arith, same)) tied
tied_fits (Count t s n) (Diag u q o e) of_f of_g tied =
    other_kinds (Count t s n) (Diag u q o e) (λ same. omega (arith, same)) tied
tied_fits (Failed t s) (Count u q m) of_f of_g tied =
    other_kinds (Failed t s) (Count u q m) (λ same. omega (arith, same)) tied
tied_fits (Failed t s) (Seen u q o v) of_f of_g tied =
    other_kinds (Failed t s) (Seen u q o v) (λ same. omega (arith, same)) tied
tied_fits (Failed t s) (Diag u q o e) of_f of_g tied =
    other_kinds (Failed t s) (Diag u q o e) (λ same. omega (arith, same)) tied
tied_fits (Seen t s p r) (Count u q m) of_f of_g tied =
    other_kinds (Seen t s p r) (Count u q m) (λ same. omega (arith, same)) tied
tied_fits (Seen t s p r) (Failed u q) of_f of_g tied =
    other_kinds (Seen t s p r) (Failed u q) (λ same. omega (arith, same)) tied
tied_fits (Seen t s p r) (Diag u q o e) of_f of_g tied =
    other_kinds (Seen t s p r) (Diag u q o e) (λ same. omega (arith, same)) tied
tied_fits (Diag t s p d) (Count u q m) of_f of_g tied =
    other_kinds (Diag t s p d) (Count u q m) (λ same. omega (arith, same)) tied
tied_fits (Diag t s p d) (Failed u q) of_f of_g tied =
    other_kinds (Diag t s p d) (Failed u q) (λ same. omega (arith, same)) tied
tied_fits (Diag t s p d) (Seen u q o v) of_f of_g tied =
    other_kinds (Diag t s p d) (Seen u q o v) (λ same. omega (arith, same)) tied
