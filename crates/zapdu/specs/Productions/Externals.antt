-- EXTERNAL (X.208, 34; X.690, 8.18): the forms that Z39.50 uses, with the choice of the encoding.
use Rattle.std.specs.Prelude.{◌≡◌, refl}
use Rattle.std.proofs.Common.{inl, inr}
use Rattle.zber.specs.AsnTags.{context, universal}
use Rattle.zasn.specs.Place.{Place}
use Rattle.zasn.specs.Choice.{Choice, either, finally, Pick, picked}
use Rattle.zasn.specs.Table.{ComponentTable, required, optional, ended, ◌⨾◌, Elements}
use Rattle.zasn.specs.Places.{of_table, of_choice, octets, integer, oid, bits, any}
use Rattle.zapdu.specs.declared.productions.external.Content.{Content}
use Rattle.zapdu.specs.declared.productions.external.Content.TheVariants.{Single, Aligned, Arbitrary}
use Rattle.zapdu.specs.declared.productions.external.External.{External}

-- single-ASN1-type [0] ANY, octet-aligned [1] IMPLICIT OCTET STRING, arbitrary [2] IMPLICIT BIT STRING
abbrev pub contents : Choice Content
contents =
    either (any (context 0)) Single
    (either (octets (context 1)) Aligned
    (finally (bits (context 2)) Arbitrary))

-- which form of encoding it is, in the order of the tags [0], [1] and [2], and its value
abbrev pub content_pick : Content → Pick contents
content_pick (Single m) = inl m
content_pick (Aligned xs) = inr (inl xs)
content_pick (Arbitrary bs) = inr (inr bs)

pub content-same : (c : Content) → picked contents (content_pick c) ≡ c
content-same (Single m) = refl
content-same (Aligned xs) = refl
content-same (Arbitrary bs) = refl

pub content-back : (x : Pick contents) → content_pick (picked contents x) ≡ x
content-back (inl m) = refl
content-back (inr (inl xs)) = refl
content-back (inr (inr bs)) = refl

-- encoding of an EXTERNAL: the tag [0], [1] or [2] gives its form
abbrev pub content : Place Content
content = of_choice contents content_pick content-same content-back refl

-- direct-reference OBJECT IDENTIFIER, indirect-reference INTEGER, data-value-descriptor ObjectDescriptor, encoding
abbrev pub external_table : ComponentTable External
external_table =
    optional (oid (universal 6)) (λ v. v.direct)
    ⨾ optional (integer (universal 2)) (λ v. v.indirect)
    ⨾ optional (octets (universal 7)) (λ v. v.descriptor)
    ⨾ required content (λ v. v.content)
    ⨾ ended

-- EXTERNAL (X.208, 34): how its elements are read and built
unfoldable pub external_parts : Elements External
external_parts =
    of_table external_table (λ a b c d. record { direct = a; indirect = b; descriptor = c; content = d }) (λ v. refl)
    (λ x. refl) refl
