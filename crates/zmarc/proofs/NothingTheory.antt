-- Entries that tell of no field, and octets that are no record.
use Rattle.std.proofs.Common.{◌≡◌, ℕ, zero, suc, ◌+◌, false, cond, Option, Some, None, List, [], ◌∷◌, length, drop, refl, ap, ◌∙◌, arith}
use Rattle.std.specs.List.{filter_map}
use Rattle.std.specs.Option.{is_none}
use Rattle.std.proofs.lemmas.List.Sums.{sum_by-cons}
use Rattle.zmarc.specs.declared.format.Reading.{Reading}
use Rattle.zmarc.specs.Records.{is_record, length_digits, start_digits, contents, directory, entry_len, entry_count, entries, octets_of, field_of, fields, lost_count}
use Rattle.zmarc.specs.Briefs.{brief}
use Rattle.zmarc.proofs.FieldTheory.{lost_in}

-- ---- entries

length-entries : (len n : ℕ) (d : List ℕ) → length (entries len n d) ≡ n
length-entries len zero d = refl
length-entries len (suc n) d = ap suc (length-entries len n (drop len d))

module _ (octets : List ℕ) where
  abbrev told : List ℕ → Option (List ℕ)
  told e = octets_of (contents octets) (length_digits octets) (start_digits octets) e

  counted_by : (o : Option (List ℕ)) (e : List ℕ) (es : List (List ℕ)) → told e ≡ o
      → length (filter_map (field_of octets) es) + lost_in octets es ≡ length es
      → length (filter_map (field_of octets) (e ∷ es)) + (cond (is_none (told e)) 1 0 + lost_in octets es) ≡ suc (length es)
  counted_by None e es is rest = rw is (omega (arith, rest))
  counted_by (Some x) e es is rest = rw is (omega (arith, rest))

  counted_in : (es : List (List ℕ)) → length (filter_map (field_of octets) es) + lost_in octets es ≡ length es
  counted_in [] = refl
  counted_in (e ∷ es) =
      ap (λ n. length (filter_map (field_of octets) (e ∷ es)) + n) (sum_by-cons (λ x. cond (is_none (told x)) 1 0) e es)
      ∙ counted_by (told e) e es refl (counted_in es)

pub counted : (octets : List ℕ) → length (fields octets) + lost_count octets ≡ entry_count octets
counted octets =
    let es = entries (entry_len octets) (entry_count octets) (directory octets) in
    counted_in octets es ∙ length-entries (entry_len octets) (entry_count octets) (directory octets)

-- ---- no record

pub nothing_shown : (reading : Reading) (octets : List ℕ) → is_record octets ≡ false → brief reading octets ≡ []
unfolding brief
nothing_shown format octets h = rw h refl
