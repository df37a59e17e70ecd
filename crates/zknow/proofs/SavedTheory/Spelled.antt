-- An element stands for each diagnostic.
use Rattle.std.proofs.Common.{◌≡◌, ℕ, ℤ, cond, List, [], ◌∷◌, ◌++◌, true, Option, Some, None, refl, ap, ◌∙◌}
use Rattle.std.specs.Prelude.{IfSome}
use Rattle.zber.specs.AsnTags.{AsnTag, universal}
use Rattle.zber.specs.Elements.{Element, Primitive, cons}
use Rattle.zber.specs.Oids.{is_oid, oid_octets}
use Rattle.zber.specs.Integers.{integer_octets}
use Rattle.zasn.specs.Within.{around}
use Rattle.zasn.specs.Building.{◌>>=◌, required_put, optional_put}
use Rattle.zasn.specs.Meanings.{is_i64, oid_spelling, int_spelling, octets_spelling}
use Rattle.zasn.specs.Reading.{option_map}
use Rattle.zapdu.specs.declared.productions.external.Content.{Content}
use Rattle.zapdu.specs.declared.productions.external.Content.TheVariants.{Single, Aligned, Arbitrary}
use Rattle.zapdu.specs.declared.productions.external.External.{External}
use Rattle.zapdu.specs.declared.productions.diagnostic.Info.{Info}
use Rattle.zapdu.specs.declared.productions.diagnostic.Info.TheVariants.{V2, V3}
use Rattle.zapdu.specs.declared.productions.diagnostic.DefaultDiag.{DefaultDiag}
use Rattle.zapdu.specs.declared.productions.diagnostic.DiagRec.TheVariants.{Default, Ext}
use Rattle.zapdu.specs.Productions.Externals.{external_parts, content}
use Rattle.zapdu.specs.Productions.Diagnostics.{default_parts, diag_rec, info}
use Rattle.zasn.specs.Place.{IsSpellable}

-- some element, or some list of them, is written
abbrev pub Is : {A : Type 0} → Option A → Type 0
Is {A} o = (x : A) × (o ≡ Some x)

pub and_then : {A B : Type 0} (o : Option A) (f : A → Option B) → Is o → ((a : A) → Is (f a)) → Is (o >>= f)
and_then o f some each = let next = each some.0 in (next.0, ap (λ r. r >>= f) some.1 ∙ next.1)

pub one_put : {A : Type 0} (spelt : A → Option Element) (x : A) (out : List Element) → Is (spelt x) → Is (required_put spelt x out)
one_put spelt x out some = (out ++ some.0 ∷ [], ap (option_map (λ n. out ++ n ∷ [])) some.1)

perhaps_put : {A : Type 0} (spelt : A → Option Element) (o : Option A) (out : List Element) → ((x : A) → o ≡ Some x → Is (spelt x)) → Is (optional_put spelt o out)
perhaps_put spelt None out each = (out, refl)
perhaps_put spelt (Some x) out each = one_put spelt x out (each x refl)

pub around_is : (tag : AsnTag) (made : Option (List Element)) → Is made → Is (around tag made)
around_is tag made some = (cons tag some.0, ap (around tag) some.1)

oid_is : (arcs : List ℕ) → is_oid arcs ≡ true → Is (oid_spelling (universal 6) arcs)
oid_is arcs is = (Primitive (universal 6) (oid_octets arcs), ap (λ b. cond b (Some (Primitive (universal 6) (oid_octets arcs))) None) is)

int_is : (z : ℤ) → is_i64 z ≡ true → Is (int_spelling (universal 2) z)
int_is z is = (Primitive (universal 2) (integer_octets z), ap (λ b. cond b (Some (Primitive (universal 2) (integer_octets z))) None) is)

info_is : (i : Info) → Is (info.spelling i)
info_is (V2 xs) = (_, refl)
info_is (V3 xs) = (_, refl)

content_is : (c : Content) → Is (content.spelling c)
content_is (Single m) = (_, refl)
content_is (Aligned xs) = (_, refl)
content_is (Arbitrary bs) = (_, refl)

from_some : {A : Type 0} (P : A → Type 0) (o : Option A) (x : A) → IfSome o P → o ≡ Some x → P x
from_some P o x h is = rw is at h

pub default_spelled : (d : DefaultDiag) → is_oid d.diag_set ≡ true → is_i64 d.condition ≡ true → IsSpellable diag_rec (Default d)
unfolding default_parts
default_spelled d of_oid of_int =
    let made : Is (default_parts.spelling d []) =
    and_then _ _ (one_put (oid_spelling (universal 6)) d.diag_set [] (oid_is d.diag_set of_oid)) (λ a. and_then _ _ (one_put (int_spelling (universal 2)) d.condition a (int_is d.condition of_int)) (λ b. and_then _ _ (one_put info.spelling d.info b (info_is d.info)) (λ c. (c, refl)))) in
    let whole = around_is (universal 16) (default_parts.spelling d []) made in
    (whole.0, diag_rec.makes (Default d) whole.0 whole.1)

pub external_spelled : (v : External) → IfSome v.direct (λ arcs. is_oid arcs ≡ true) → IfSome v.indirect (λ z. is_i64 z ≡ true) → IsSpellable diag_rec (Ext v)
unfolding external_parts
external_spelled v of_oid of_int =
    let made : Is (external_parts.spelling v []) =
    and_then _ _ (perhaps_put (oid_spelling (universal 6)) v.direct [] (λ x is. oid_is x (from_some (λ arcs. is_oid arcs ≡ true) v.direct x of_oid is))) (λ a.
    and_then _ _ (perhaps_put (int_spelling (universal 2)) v.indirect a (λ x is. int_is x (from_some (λ n. is_i64 n ≡ true) v.indirect x of_int is))) (λ b.
    and_then _ _ (perhaps_put (octets_spelling (universal 7)) v.descriptor b (λ x is. (Primitive (universal 7) x, refl))) (λ c. and_then _ _ (one_put content.spelling v.content c (content_is v.content)) (λ e. (e, refl))))) in
    let whole = around_is (universal 8) (external_parts.spelling v []) made in
    (whole.0, diag_rec.makes (Ext v) whole.0 whole.1)
