-- An element stands for each fact.
use Rattle.std.proofs.Common.{◌≡◌, ◌≤ℤ◌, ℕ, ℤ, pos, int_le, cond, Bool, List, [], ◌∷◌, true, Option, Some, None, refl, ap, arith}
use Rattle.zber.specs.AsnTags.{AsnTag, context}
use Rattle.zber.specs.Elements.{Element, Primitive}
use Rattle.zber.specs.Integers.{integer_octets}
use Rattle.zasn.specs.Meanings.{is_i64, int_spelling, octets_spelling}
use Rattle.zasn.specs.Within.{all_spellings, with_head}
use Rattle.zapdu.specs.declared.productions.record.Record.{Record}
use Rattle.zapdu.specs.declared.productions.diagnostic.DiagRec.{DiagRec}
use Rattle.zapdu.specs.Productions.Records.{whole_record}
use Rattle.zapdu.specs.Productions.Diagnostics.{diag_rec}
use Rattle.zasn.specs.Place.{Place, IsSpellable}
use Rattle.zknow.specs.declared.fact.Fact.{Fact}
use Rattle.zknow.specs.declared.fact.Fact.TheVariants.{Count, Failed, Seen, Diag}
use Rattle.zknow.specs.declared.saved.natural.Natural.{Natural}
use Rattle.zknow.specs.declared.saved.saved_fact.SavedCount.{SavedCount}
use Rattle.zknow.specs.declared.saved.saved_fact.SavedFailed.{SavedFailed}
use Rattle.zknow.specs.declared.saved.saved_fact.SavedSeen.{SavedSeen}
use Rattle.zknow.specs.declared.saved.saved_fact.SavedDiag.{SavedDiag}
use Rattle.zknow.specs.Facts.{IsFact}
use Rattle.zknow.specs.Saved.Naturals.{is_natural, natural_spelling, natural_octets}
use Rattle.zknow.specs.Saved.SavedFacts.{saved_names, count_parts, failed_parts, seen_parts, diag_parts, any_fact, fact_in_range, saved_fact}
use Rattle.zknow.proofs.SavedTheory.Spelled.{Is, and_then, one_put, around_is}

pub at_least : (low n : ℤ) → low ≤ℤ n → int_le low n ≡ true
at_least low n h = grind arith

pub from_at_least : (low n : ℤ) → int_le low n ≡ true → low ≤ℤ n
from_at_least low n h = grind arith

abbrev at : ℕ → Natural
at n = record { number = n }

natural_is : (tag : AsnTag) (n : ℕ) → is_natural n ≡ true → Is (natural_spelling tag (at n))
natural_is tag n is = (Primitive tag (natural_octets (at n)), ap (λ (b : Bool). cond b (Some (Primitive tag (natural_octets (at n)))) None) is)

integer_is : (tag : AsnTag) (z : ℤ) → is_i64 z ≡ true → Is (int_spelling tag z)
integer_is tag z is = (Primitive tag (integer_octets z), ap (λ (b : Bool). cond b (Some (Primitive tag (integer_octets z))) None) is)

-- the element of what stands at a place
spelled_at : {A : Type 0} (p : Place A) (x : A) (o : Option Element) → p.spelling x ≡ o → IsSpellable p x → Is (p.spelling x)
spelled_at p x None is h = absurd (p.none x is h.0 h.1)
spelled_at p x (Some n) is h = (n, is)

from_spelt : (f : Fact) → Is (any_fact.spelling f) → fact_in_range f ≡ true → IsSpellable saved_fact f
from_spelt f whole within = (whole.0, (any_fact.makes f whole.0 whole.1, within))

module _ (t s : ℕ) (of_t : is_natural t ≡ true) (of_s : is_natural s ≡ true) where
  pub count_spelled : (n : ℤ) → is_i64 n ≡ true → IsFact (Count t s n) → IsSpellable saved_fact (Count t s n)
  unfolding count_parts
  count_spelled n of_n is =
      let v : SavedCount = record { target = at t; set = at s; count = n } in
      let made : Is (count_parts.spelling v []) =
      and_then _ _ (one_put (natural_spelling (context 0)) (at t) [] (natural_is (context 0) t of_t)) (λ a.
      and_then _ _ (one_put (natural_spelling (context 1)) (at s) a (natural_is (context 1) s of_s)) (λ b.
      and_then _ _ (one_put (int_spelling (context 2)) n b (integer_is (context 2) n of_n)) (λ c. (c, refl)))) in
      from_spelt (Count t s n) (around_is (context 0) (count_parts.spelling v []) made) (at_least (pos 0) n is)

  pub failed_spelled : IsSpellable saved_fact (Failed t s)
  unfolding failed_parts
  failed_spelled =
      let v : SavedFailed = record { target = at t; set = at s } in
      let made : Is (failed_parts.spelling v []) =
      and_then _ _ (one_put (natural_spelling (context 0)) (at t) [] (natural_is (context 0) t of_t)) (λ a.
      and_then _ _ (one_put (natural_spelling (context 1)) (at s) a (natural_is (context 1) s of_s)) (λ b. (b, refl))) in
      from_spelt (Failed t s) (around_is (context 1) (failed_parts.spelling v []) made) refl

  pub seen_spelled : (p : ℤ) (r : Record) → is_i64 p ≡ true → IsFact (Seen t s p r) → IsSpellable saved_fact (Seen t s p r)
  unfolding seen_parts
  seen_spelled p r of_p is =
      let v : SavedSeen = record { target = at t; set = at s; position = p; rec = r } in
      let made : Is (seen_parts.spelling v []) =
      and_then _ _ (one_put (natural_spelling (context 0)) (at t) [] (natural_is (context 0) t of_t)) (λ a.
      and_then _ _ (one_put (natural_spelling (context 1)) (at s) a (natural_is (context 1) s of_s)) (λ b.
      and_then _ _ (one_put (int_spelling (context 2)) p b (integer_is (context 2) p of_p)) (λ c.
      and_then _ _ (one_put whole_record.spelling r c (spelled_at whole_record r (whole_record.spelling r) refl is.1)) (λ d. (d, refl))))) in
      from_spelt (Seen t s p r) (around_is (context 2) (seen_parts.spelling v []) made) (at_least (pos 1) p is.0)

  pub diag_spelled : (p : ℤ) (d : DiagRec) → is_i64 p ≡ true → IsSpellable diag_rec d → IsFact (Diag t s p d) → IsSpellable saved_fact (Diag t s p d)
  unfolding diag_parts
  diag_spelled p d of_p of_d is =
      let v : SavedDiag = record { target = at t; set = at s; place = p; diag = d } in
      let made : Is (diag_parts.spelling v []) =
      and_then _ _ (one_put (natural_spelling (context 0)) (at t) [] (natural_is (context 0) t of_t)) (λ a.
      and_then _ _ (one_put (natural_spelling (context 1)) (at s) a (natural_is (context 1) s of_s)) (λ b.
      and_then _ _ (one_put (int_spelling (context 2)) p b (integer_is (context 2) p of_p)) (λ c.
      and_then _ _ (one_put diag_rec.spelling d c (spelled_at diag_rec d (diag_rec.spelling d) refl of_d)) (λ e. (e, refl))))) in
      from_spelt (Diag t s p d) (around_is (context 3) (diag_parts.spelling v []) made) (at_least (pos 0) p is)

-- an element stands for any names
texts_are : (names : List (List ℕ)) → Is (all_spellings (octets_spelling (context 0)) names)
texts_are [] = ([], refl)
texts_are (x ∷ xs) =
    let more = texts_are xs in
    (Primitive (context 0) x ∷ more.0, ap (λ (o : Option (List Element)). with_head (Some (Primitive (context 0) x)) o) more.1)

pub names_spelled : (names : List (List ℕ)) → IsSpellable saved_names names
names_spelled names =
    let whole = around_is (context 4) (all_spellings (octets_spelling (context 0)) names) (texts_are names) in
    (whole.0, saved_names.makes names whole.0 whole.1)
