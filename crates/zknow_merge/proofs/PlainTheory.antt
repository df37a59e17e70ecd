-- What is read of a plain record, step by step.
use Rattle.std.proofs.Common.{◌≡◌, ◌≢◌, ◌<◌, ◌≤◌, ◌-◌, ◌^◌, ℕ, pos, List, ◌++◌, length, take, refl, sym, ap, ◌∙◌, inl, inr, arith, length-append}
use Rattle.std.proofs.Math.Seq.{take-append_seam}
use Rattle.zber.specs.Integers.{integer_octets}
use Rattle.zknow_merge.specs.Canonical.{framed, IsOidOctets}
use Rattle.zknow_merge.specs.Plain.{IsPlainExternal, IsPlainBody, IsPlainRecord, AreNumbers, IsPlain}

pub external_is : (octets oid rest content : List ℕ) → octets ≡ framed 6 oid ++ rest → rest ≡ framed 129 content
    → IsOidOctets oid → IsPlainExternal octets
external_is octets oid rest content is end syntax =
    record { oid = oid; content = content; is = is ∙ ap (λ (l : List ℕ). framed 6 oid ++ l) end; syntax = syntax }

pub body_is : (octets a b c : List ℕ) → octets ≡ framed 161 a → a ≡ framed 161 b → b ≡ framed 40 c → IsPlainExternal c
    → IsPlainBody octets
body_is octets a b c is_a is_b is_c external = record {
  contents = c;
  is = is_a ∙ ap (framed 161) (is_b ∙ ap (framed 161) is_c);
  external = external;
}

pub whole_record_is : (octets contents : List ℕ) → octets ≡ framed 48 contents → IsPlainBody contents
    → IsPlainRecord octets
whole_record_is octets contents is body = record { contents = contents; is = is; body = inl body }

pub named_record_is : (octets contents name rest : List ℕ) → octets ≡ framed 48 contents
    → contents ≡ framed 128 name ++ rest → IsPlainBody rest → IsPlainRecord octets
named_record_is octets contents name rest is cut body =
    record { contents = contents; is = is; body = inr (record { name = name; rest = rest; is = cut; body = body }) }

pub numbers_are : (octets a b rest : List ℕ) (t s p : ℕ) → octets ≡ framed 128 (integer_octets (pos t)) ++ a
    → a ≡ framed 129 (integer_octets (pos s)) ++ b
    → b ≡ framed 130 (integer_octets (pos p)) ++ rest → t < 2 ^ 32 → s < 2 ^ 32 → p < 2 ^ 32
    → AreNumbers octets t s p rest
numbers_are octets a b rest t s p is_t is_s is_p ft fs fp = record {
  is = is_t ∙ ap (λ (l : List ℕ). framed 128 (integer_octets (pos t)) ++ l)
      (is_s ∙ ap (λ (l : List ℕ). framed 129 (integer_octets (pos s)) ++ l) is_p);
  target_fits = ft;
  set_fits = fs;
  position_fits = fp;
}

-- the octets before the rest are the element
pub front_is : (octets element rest : List ℕ) (n : ℕ) (front : List ℕ) → octets ≡ front ++ rest
    → n ≡ length octets - length rest → element ≡ take n octets → element ≡ front
front_is octets element rest n front is size taken =
    let same : n ≡ length front = omega (arith, size, ap length is, length-append front rest) in
    taken ∙ ap (λ (m : ℕ). take m octets) same ∙ ap (take (length front)) is ∙ take-append_seam front rest

pub front_begins : (octets element rest : List ℕ) (n : ℕ) (front : List ℕ) → octets ≡ front ++ rest
    → n ≡ length octets - length rest → element ≡ take n octets → octets ≡ element ++ rest
front_begins octets element rest n front is size taken =
    is ∙ ap (λ (l : List ℕ). l ++ rest) (sym (front_is octets element rest n front is size taken))

pub plain_is : (octets element contents : List ℕ) (t s p : ℕ) (rec : List ℕ) → element ≡ framed 162 contents
    → ((after : List ℕ) × (octets ≡ element ++ after)) → length element ≤ 4194304
    → AreNumbers contents t s p rec → p ≢ 0 → IsPlainRecord rec → IsPlain octets element t s p rec
plain_is octets element contents t s p rec is begins small numbers some of_record = record {
  contents = contents;
  is = is;
  after = begins.0;
  begins = begins.1;
  small = small;
  numbers = numbers;
  some = positive p some;
  record_is = of_record;
} where
  positive : (n : ℕ) → n ≢ 0 → 0 < n
  positive n h = grind (arith, h)
