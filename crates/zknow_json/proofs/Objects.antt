-- The tokens of objects: which numbers and keys they have.
use Rattle.std.proofs.Common.{◌≡◌, ℕ, Bool, true, false, cond, List, [], ◌∷◌, ◌++◌, refl, sym, ap, subst, ◌∙◌, append_assoc, append-nil, inl, ℤ}
use Rattle.std.specs.Prelude.{All}
use Rattle.std.specs.Str.{IsUtf8, is_utf8}
use Rattle.std.specs.Str.Lossy.{utf8_lossy}
use Rattle.std.proofs.lemmas.List.Elements.{All-nil, All-cons, All-append}
use Rattle.std.proofs.lemmas.Str.{IsUtf8-from_ascii}
use Rattle.base64.specs.Engines.{standard}
use Rattle.base64.specs.GeneralPurpose.{encode_of}
use Rattle.base64.proofs.EngineFacts.{IsAscii-encode_of}
use Rattle.json.specs.Token.{Token, begin_object, end_object, begin_array, end_array, key, string, number, boolean}
use Rattle.json.specs.Json as json
use Rattle.json.specs.Json.{Members, member, no_members, Items, item, no_items}
use Rattle.json.specs.Strict.{AreDistinct, keys, MembersHaveUniqueKeys, ItemsHaveUniqueKeys, HasUniqueKeys}
use Rattle.json.specs.Tree.{json_tokens, members_tokens, items_tokens, MembersHaveNumbers, ItemsHaveNumbers}
use Rattle.json.proofs.Printed.Utf8.{are_ascii, IsUtf8-are_ascii}
use Rattle.zknow_json.specs.Members.{text_member, natural_member, integer_member, boolean_member, octets_member, octets_unless_utf8, received_member, object, array_member}
use Rattle.zknow_json.proofs.Keys.{ArePart, are_part, both_parts, wider_part, is_distinct, distinct_part}
use Rattle.zknow_json.proofs.Numerals.{numeral_number, numeral_plain, numeral_ascii, signed_number, signed_plain, signed_ascii}
use Rattle.zknow_json.proofs.PlainTokens.{IsPlainNumber, IsPlainToken}
use Rattle.zknow_json.proofs.Utf8Texts.{lossy_utf8}

-- ---- members

-- Members of an object, before others: the tokens of a tree. Their keys are among these names, in the same order.
pub record AreMembers (names : List (List ℕ)) (ts : List Token) : Type 0 where
  pub plain : All IsPlainToken ts
  pub tree : Members → Members
  pub same : (rest : Members) → members_tokens (tree rest) ≡ ts ++ members_tokens rest
  pub numbers : (rest : Members) → MembersHaveNumbers rest → MembersHaveNumbers (tree rest)
  pub within : (rest : Members) → MembersHaveUniqueKeys rest → MembersHaveUniqueKeys (tree rest)
  pub own : List (List ℕ)
  pub keyed : (rest : Members) → keys (tree rest) ≡ own ++ keys rest
  pub part : ArePart own names

-- items of an array, before others: the tokens of a tree
pub record AreItems (ts : List Token) : Type 0 where
  pub plain : All IsPlainToken ts
  pub tree : Items → Items
  pub same : (rest : Items) → items_tokens (tree rest) ≡ ts ++ items_tokens rest
  pub numbers : (rest : Items) → ItemsHaveNumbers rest → ItemsHaveNumbers (tree rest)
  pub within : (rest : Items) → ItemsHaveUniqueKeys rest → ItemsHaveUniqueKeys (tree rest)

-- the tokens of an object
pub record IsObject (ts : List Token) : Type 0 where
  pub plain : All IsPlainToken ts
  pub members : Members
  pub same : json_tokens (json.object members) ≡ ts
  pub numbers : MembersHaveNumbers members
  pub unique : HasUniqueKeys (json.object members)

none : All IsPlainToken []
none = All-nil IsPlainToken

first : (t : Token) (ts : List Token) → IsPlainToken t → All IsPlainToken ts → All IsPlainToken (t ∷ ts)
first t ts h k = All-cons IsPlainToken t ts h k

pub nothing : AreMembers [] []
nothing = record {
  plain = none;
  tree = λ rest. rest;
  same = λ rest. refl;
  numbers = λ rest h. h;
  within = λ rest h. h;
  own = [];
  keyed = λ rest. refl;
  part = tt;
}

pub both : {fs gs : List (List ℕ)} {xs ys : List Token} → AreMembers fs xs → AreMembers gs ys
    → AreMembers (fs ++ gs) (xs ++ ys)
both {fs} {gs} {xs} {ys} h k = record {
  plain = All-append IsPlainToken xs ys h.plain k.plain;
  tree = λ rest. h.tree (k.tree rest);
  same = λ rest. h.same (k.tree rest) ∙ ap (λ ts. xs ++ ts) (k.same rest)
      ∙ sym (append_assoc xs ys (members_tokens rest));
  numbers = λ rest n. h.numbers (k.tree rest) (k.numbers rest n);
  within = λ rest n. h.within (k.tree rest) (k.within rest n);
  own = h.own ++ k.own;
  keyed = λ rest. h.keyed (k.tree rest) ∙ ap (λ ns. h.own ++ ns) (k.keyed rest)
      ∙ sym (append_assoc h.own k.own (keys rest));
  part = both_parts h.own k.own fs gs h.part k.part;
}

-- the same members, whose keys are among more names
pub among : (gs : List (List ℕ)) {fs : List (List ℕ)} {ts : List Token} → are_part fs gs ≡ true → AreMembers fs ts
    → AreMembers gs ts
among gs {fs} t h = record {
  plain = h.plain;
  tree = h.tree;
  same = h.same;
  numbers = h.numbers;
  within = h.within;
  own = h.own;
  keyed = h.keyed;
  part = wider_part h.own fs gs t h.part;
}

-- members, or none if the condition holds
pub unless : (b : Bool) {fs : List (List ℕ)} {ts : List Token} → AreMembers fs ts → AreMembers fs (cond b [] ts)
unless true {fs} h = among fs refl nothing
unless false {fs} h = h

-- a member with a text
pub text_plain : (name text : List ℕ) → are_ascii name ≡ true → IsUtf8 text
    → AreMembers (name ∷ []) (text_member name text)
unfolding text_member
text_plain name text a u = record {
  plain = first (key name) (string text ∷ []) (IsUtf8-are_ascii name a) (first (string text) [] u none);
  tree = λ rest. member name (json.string text) rest;
  same = λ rest. refl;
  numbers = λ rest h. (tt, h);
  within = λ rest h. (tt, h);
  own = name ∷ [];
  keyed = λ rest. refl;
  part = inl (refl, tt);
}

number_plain : (name text : List ℕ) → are_ascii name ≡ true → IsPlainNumber text
    → AreMembers (name ∷ []) (key name ∷ number text ∷ [])
number_plain name text a h = record {
  plain = first (key name) (number text ∷ []) (IsUtf8-are_ascii name a) (first (number text) [] h none);
  tree = λ rest. member name (json.number text) rest;
  same = λ rest. refl;
  numbers = λ rest n. (h.number, n);
  within = λ rest n. (tt, n);
  own = name ∷ [];
  keyed = λ rest. refl;
  part = inl (refl, tt);
}

pub natural_plain : (name : List ℕ) (n : ℕ) → are_ascii name ≡ true → AreMembers (name ∷ []) (natural_member name n)
unfolding natural_member
natural_plain name n a =
    number_plain name _ a (record { number = numeral_number n; plain = numeral_plain n; ascii = numeral_ascii n })

pub integer_plain : (name : List ℕ) (n : ℤ) → are_ascii name ≡ true → AreMembers (name ∷ []) (integer_member name n)
unfolding integer_member
integer_plain name n a =
    number_plain name _ a (record { number = signed_number n; plain = signed_plain n; ascii = signed_ascii n })

pub boolean_plain : (name : List ℕ) (b : Bool) → are_ascii name ≡ true → AreMembers (name ∷ []) (boolean_member name b)
unfolding boolean_member
boolean_plain name b a = record {
  plain = first (key name) (boolean b ∷ []) (IsUtf8-are_ascii name a) (first (boolean b) [] tt none);
  tree = λ rest. member name (json.boolean b) rest;
  same = λ rest. refl;
  numbers = λ rest h. (tt, h);
  within = λ rest h. (tt, h);
  own = name ∷ [];
  keyed = λ rest. refl;
  part = inl (refl, tt);
}

pub octets_plain : (name octets : List ℕ) → are_ascii name ≡ true → AreMembers (name ∷ []) (octets_member name octets)
unfolding octets_member
octets_plain name octets a =
    text_plain name (encode_of standard octets) a
    (IsUtf8-from_ascii (encode_of standard octets) (IsAscii-encode_of standard octets))

pub received_plain : (name octets_name octets : List ℕ) → are_ascii name ≡ true → are_ascii octets_name ≡ true
    → AreMembers (name ∷ octets_name ∷ []) (received_member name octets_name octets)
unfolding received_member octets_unless_utf8
received_plain name octets_name octets a b =
    both (text_plain name (utf8_lossy octets) a (lossy_utf8 octets))
    (unless (is_utf8 octets) (octets_plain octets_name octets b))

-- an object whose keys are some of distinct names
pub object_plain : {names : List (List ℕ)} {ms : List Token} → is_distinct names ≡ true → AreMembers names ms
    → IsObject (object ms)
object_plain {names} {ms} d h = record {
  plain = first begin_object (ms ++ end_object ∷ []) tt
      (All-append IsPlainToken ms (end_object ∷ []) h.plain (first end_object [] tt none));
  members = h.tree no_members;
  same = ap (λ ts. begin_object ∷ ts) (h.same no_members);
  numbers = h.numbers no_members tt;
  unique = (
    subst AreDistinct (sym (h.keyed no_members ∙ append-nil h.own)) (distinct_part h.own names d h.part),
    h.within no_members tt,
  );
}

-- ---- arrays

pub no_items_plain : AreItems []
no_items_plain = record {
  plain = none;
  tree = λ rest. rest;
  same = λ rest. refl;
  numbers = λ rest h. h;
  within = λ rest h. h;
}

pub more_items : {xs ys : List Token} → IsObject xs → AreItems ys → AreItems (xs ++ ys)
more_items {xs} {ys} h k = record {
  plain = All-append IsPlainToken xs ys h.plain k.plain;
  tree = λ rest. item (json.object h.members) (k.tree rest);
  same = λ rest. ap (λ ts. ts ++ items_tokens (k.tree rest)) h.same ∙ ap (λ ts. xs ++ ts) (k.same rest)
      ∙ sym (append_assoc xs ys (items_tokens rest));
  numbers = λ rest n. (h.numbers, k.numbers rest n);
  within = λ rest n. (h.unique, k.within rest n);
}

pub array_plain : (name : List ℕ) {items : List Token} → are_ascii name ≡ true → AreItems items
    → AreMembers (name ∷ []) (array_member name items)
array_plain name {items} a h = record {
  plain = first (key name) (begin_array ∷ items ++ end_array ∷ []) (IsUtf8-are_ascii name a)
      (first begin_array (items ++ end_array ∷ []) tt
      (All-append IsPlainToken items (end_array ∷ []) h.plain (first end_array [] tt none)));
  tree = λ rest. member name (json.array (h.tree no_items)) rest;
  same = λ rest. ap (λ ts. key name ∷ begin_array ∷ ts ++ members_tokens rest) (h.same no_items);
  numbers = λ rest n. (h.numbers no_items tt, n);
  within = λ rest n. (h.within no_items tt, n);
  own = name ∷ [];
  keyed = λ rest. refl;
  part = inl (refl, tt);
}
