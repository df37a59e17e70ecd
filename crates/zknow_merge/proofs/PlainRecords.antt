-- The record of octets that are a plain record, and its element.
use Rattle.std.proofs.Common.{◌≡◌, ◌<◌, ◌≤◌, ◌+◌, ◌^◌, ℕ, cond, Bool, true, false, List, [], ◌∷◌, ◌++◌, length, Option, Some, None, refl, sym, ap, subst, ◌∙◌, ⊎_elim, arith, length-append}
use Rattle.std.proofs.lemmas.List.{append-nil}
use Rattle.zber.specs.declared.tag.Class.TheVariants.{Universal}
use Rattle.zber.specs.AsnTags.{AsnTag, IsTag, universal, context}
use Rattle.zber.specs.Elements.{Element, Forest, end, leaf, branch, Primitive, Constructed, forest}
use Rattle.zber.specs.Canonical.{identifier, size, canonical_run, canonical, AreLawful}
use Rattle.zber.specs.Oids.{is_oid, oid_octets}
use Rattle.zasn_tables.specs.Place.{Place}
use Rattle.zasn_tables.specs.Building.{◌>>=◌, required_put}
use Rattle.zasn_tables.specs.Reading.{option_map}
use Rattle.zasn_tables.specs.Within.{around}
use Rattle.zasn_tables.specs.Meanings.{oid_spelling}
use Rattle.zasn.specs.Places.{within, explicit}
use Rattle.zapdu.specs.declared.productions.external.Content.TheVariants.{Aligned}
use Rattle.zapdu.specs.declared.productions.external.External.{External}
use Rattle.zapdu.specs.declared.productions.record.RecordBody.TheVariants.{Retrieval}
use Rattle.zapdu.specs.declared.productions.record.Record.{Record}
use Rattle.zapdu.specs.Productions.Externals.{external_parts}
use Rattle.zapdu.specs.Productions.Records.{body, record_parts, whole_record}
use Rattle.zknow_merge.specs.Canonical.{framed, IsOidOctets}
use Rattle.zknow_merge.specs.Plain.{IsPlainExternal, IsPlainBody, IsNamedBody, IsPlainRecord}

-- ---- canonical encodings of runs

pub leaf_run : (n : AsnTag) (x : ℕ) (xs : List ℕ) (rest : Forest) → identifier n false ≡ x ∷ []
    → canonical_run (leaf n xs rest) ≡ framed x xs ++ canonical_run rest
unfolding framed
leaf_run n x xs rest is = ap (λ (i : List ℕ). (i ++ (size (length xs) ++ xs)) ++ canonical_run rest) is

pub last_leaf : (n : AsnTag) (x : ℕ) (xs : List ℕ) → identifier n false ≡ x ∷ []
    → canonical_run (leaf n xs end) ≡ framed x xs
last_leaf n x xs is = leaf_run n x xs end is ∙ append-nil (framed x xs)

pub branch_run : (n : AsnTag) (x : ℕ) (f rest : Forest) (c : List ℕ) → identifier n true ≡ x ∷ [] → canonical_run f ≡ c
    → canonical_run (branch n f rest) ≡ framed x c ++ canonical_run rest
unfolding framed
branch_run n x f rest c is inner =
    ap (λ (i : List ℕ). (i ++ (size (length (canonical_run f)) ++ canonical_run f)) ++ canonical_run rest) is
    ∙ ap (λ (l : List ℕ). framed x l ++ canonical_run rest) inner

pub last_branch : (n : AsnTag) (x : ℕ) (f : Forest) (c : List ℕ) → identifier n true ≡ x ∷ [] → canonical_run f ≡ c
    → canonical_run (branch n f end) ≡ framed x c
last_branch n x f c is inner = branch_run n x f end c is inner ∙ append-nil (framed x c)

-- contents are no longer than their element
pub framed_longer : (x : ℕ) (xs : List ℕ) → length xs < length (framed x xs)
unfolding framed
framed_longer x xs = omega (arith, length-append (size (length xs)) xs)

-- ---- tags

pub context_tag : (n : ℕ) → n < 2 ^ 32 → IsTag (context n)
context_tag n fits = record { named = λ e. absurd cc; fits = fits }

pub universal_tag : (n : ℕ) → 0 < n → n < 2 ^ 32 → IsTag (universal n)
universal_tag n some fits = record { named = λ _. some; fits = fits }

-- ---- the element of a record

abbrev pub external_forest : List ℕ → List ℕ → Forest
external_forest oid content = leaf (universal 6) oid (leaf (context 1) content end)

abbrev pub body_forest : List ℕ → List ℕ → Forest
body_forest oid content =
    branch (context 1) (branch (context 1) (branch (universal 8) (external_forest oid content) end) end) end

abbrev pub named_forest : Option (List ℕ) → List ℕ → List ℕ → Forest
named_forest None oid content = body_forest oid content
named_forest (Some name) oid content = leaf (context 0) name (body_forest oid content)

abbrev pub record_node : Option (List ℕ) → List ℕ → List ℕ → Element
record_node name oid content = Constructed (universal 16) (named_forest name oid content)

external_run : (oid content : List ℕ) → canonical_run (external_forest oid content) ≡ framed 6 oid ++ framed 129 content
external_run oid content =
    leaf_run (universal 6) 6 oid (leaf (context 1) content end) refl
    ∙ ap (λ (l : List ℕ). framed 6 oid ++ l) (last_leaf (context 1) 129 content refl)

body_run : (oid content : List ℕ) → canonical_run (body_forest oid content)
    ≡ framed 161 (framed 161 (framed 40 (framed 6 oid ++ framed 129 content)))
body_run oid content =
    last_branch (context 1) 161 (branch (context 1) (branch (universal 8) (external_forest oid content) end) end)
    (framed 161 (framed 40 (framed 6 oid ++ framed 129 content))) refl
    (last_branch (context 1) 161 (branch (universal 8) (external_forest oid content) end)
    (framed 40 (framed 6 oid ++ framed 129 content)) refl
    (last_branch (universal 8) 40 (external_forest oid content) (framed 6 oid ++ framed 129 content) refl
    (external_run oid content)))

-- ---- it is lawful

external_lawful : (oid content : List ℕ) → length oid < 2 ^ 64 → length content < 2 ^ 64
    → AreLawful (external_forest oid content)
external_lawful oid content lo lc =
    (universal_tag 6 (omega arith) (omega arith), lo, (context_tag 1 (omega arith), lc, tt))

-- a run of one constructed element with few octets is lawful
pub branch_lawful : (n : AsnTag) (f : Forest) (c : List ℕ) → IsTag n → canonical_run f ≡ c → length c < 2 ^ 64
    → AreLawful f → AreLawful (branch n f end)
branch_lawful n f c is inner few lawful = (is, omega (arith, few, ap length inner), lawful, tt)

body_lawful : (oid content : List ℕ) → length (framed 161 (framed 161
    (framed 40 (framed 6 oid ++ framed 129 content)))) < 2 ^ 64 → AreLawful (body_forest oid content)
body_lawful oid content few =
    let a = framed 6 oid ++ framed 129 content in
    let b = framed 40 a in
    let c = framed 161 b in
    let lc : length c < 2 ^ 64 = omega (arith, few, framed_longer 161 c) in
    let lb : length b < 2 ^ 64 = omega (arith, lc, framed_longer 161 b) in
    let la : length a < 2 ^ 64 = omega (arith, lb, framed_longer 40 a) in
    let lo : length oid < 2 ^ 64 = omega (
      arith,
      la,
      length-append (framed 6 oid) (framed 129 content),
      framed_longer 6 oid,
    ) in
    let lx : length content < 2 ^ 64 = omega (
      arith,
      la,
      length-append (framed 6 oid) (framed 129 content),
      framed_longer 129 content,
    ) in
    let x = external_forest oid content in
    let run_x = external_run oid content in
    let run_b = last_branch (universal 8) 40 x a refl run_x in
    let run_c = last_branch (context 1) 161 (branch (universal 8) x end) b refl run_b in
    branch_lawful (context 1) (branch (context 1) (branch (universal 8) x end) end) c (context_tag 1 (omega arith))
    run_c lc
    (branch_lawful (context 1) (branch (universal 8) x end) b (context_tag 1 (omega arith)) run_b lb
    (branch_lawful (universal 8) x a (universal_tag 8 (omega arith) (omega arith)) run_x la
    (external_lawful oid content lo lx)))

-- ---- how it is spelled

pub then_some : {A B : Type 0} (o : Option A) (f : A → Option B) (a : A) (r : Option B) → o ≡ Some a → f a ≡ r
    → (o >>= f) ≡ r
then_some o f a r is next = ap (λ q. q >>= f) is ∙ next

pub put_some : {A : Type 0} (spelt : A → Option Element) (x : A) (out : List Element) (n : Element) → spelt x ≡ Some n
    → required_put spelt x out ≡ Some (out ++ n ∷ [])
put_some spelt x out n is = ap (option_map (λ m. out ++ m ∷ [])) is

abbrev pub external_of : List ℕ → List ℕ → External
external_of arcs content = record { direct = Some arcs; indirect = None; descriptor = None; content = Aligned content }

abbrev pub record_of : Option (List ℕ) → List ℕ → List ℕ → Record
record_of name arcs content = record { name = name; body = Retrieval (external_of arcs content) }

oid_spelled : (arcs : List ℕ) → is_oid arcs ≡ true → oid_spelling (universal 6) arcs
    ≡ Some (Primitive (universal 6) (oid_octets arcs))
oid_spelled arcs is = ap (λ (b : Bool). cond b (Some (Primitive (universal 6) (oid_octets arcs))) None) is

external_spelled : (arcs content : List ℕ) → is_oid arcs ≡ true
    → (within (universal 8) external_parts).spelling (external_of arcs content)
    ≡ Some (Constructed (universal 8) (external_forest (oid_octets arcs) content))
unfolding external_parts
external_spelled arcs content is =
    let first = Primitive (universal 6) (oid_octets arcs) in
    ap (around (universal 8)) (then_some (required_put (oid_spelling (universal 6)) arcs [])
    (λ (out : List Element). Some (out ++ Primitive (context 1) content ∷ [])) (first ∷ [])
    (Some (first ∷ Primitive (context 1) content ∷ []))
    (put_some (oid_spelling (universal 6)) arcs [] first (oid_spelled arcs is)) refl)

pub explicit_spelled : {A : Type 0} (tag : AsnTag) (p : Place A) (x : A) (n : Element) → p.spelling x ≡ Some n
    → (explicit tag p).spelling x ≡ Some (Constructed tag (forest (n ∷ [])))
explicit_spelled tag p x n is =
    ap (around tag) (then_some (required_put p.spelling x []) (λ (out : List Element). Some out) (n ∷ [])
    (Some (n ∷ [])) (put_some p.spelling x [] n is) refl)

body_spelled : (arcs content : List ℕ) → is_oid arcs ≡ true
    → (explicit (context 1) body).spelling (Retrieval (external_of arcs content))
    ≡ Some (Constructed (context 1) (branch (context 1) (branch (universal 8)
    (external_forest (oid_octets arcs) content) end) end))
body_spelled arcs content is =
    explicit_spelled (context 1) body (Retrieval (external_of arcs content))
    (Constructed (context 1) (branch (universal 8) (external_forest (oid_octets arcs) content) end))
    (explicit_spelled (context 1) (within (universal 8) external_parts) (external_of arcs content)
    (Constructed (universal 8) (external_forest (oid_octets arcs) content)) (external_spelled arcs content is))

pub record_spelled : (name : Option (List ℕ)) (arcs content : List ℕ) → is_oid arcs ≡ true
    → whole_record.spelling (record_of name arcs content) ≡ Some (record_node name (oid_octets arcs) content)
unfolding record_parts
record_spelled None arcs content is =
    let inner = Constructed (context 1) (branch (context 1) (branch (universal 8)
    (external_forest (oid_octets arcs) content) end) end) in
    let value = Retrieval (external_of arcs content) in
    ap (around (universal 16)) (then_some (required_put (explicit (context 1) body).spelling value [])
    (λ (out : List Element). Some out) (inner ∷ []) (Some (inner ∷ []))
    (put_some (explicit (context 1) body).spelling value [] inner (body_spelled arcs content is)) refl)
record_spelled (Some name) arcs content is =
    let inner = Constructed (context 1) (branch (context 1) (branch (universal 8)
    (external_forest (oid_octets arcs) content) end) end) in
    let first = Primitive (context 0) name in
    let value = Retrieval (external_of arcs content) in
    ap (around (universal 16)) (then_some (required_put (explicit (context 1) body).spelling value (first ∷ []))
    (λ (out : List Element). Some out) (first ∷ inner ∷ []) (Some (first ∷ inner ∷ []))
    (put_some (explicit (context 1) body).spelling value (first ∷ []) inner (body_spelled arcs content is)) refl)

-- ---- a plain record

-- the record that octets are the canonical element of
pub record IsRecordOf (octets : List ℕ) : Type 0 where
  pub name : Option (List ℕ)
  pub arcs : List ℕ
  pub content : List ℕ
  pub proper : is_oid arcs ≡ true
  pub contents : List ℕ
  pub run : canonical_run (named_forest name (oid_octets arcs) content) ≡ contents
  pub is : octets ≡ framed 48 contents
  pub lawful : length contents < 2 ^ 64 → AreLawful (named_forest name (oid_octets arcs) content)

body_octets : (octets : List ℕ) (b : IsPlainBody octets) → octets
    ≡ framed 161 (framed 161 (framed 40 (framed 6 (oid_octets b.external.syntax.0) ++ framed 129 b.external.content)))
body_octets octets b =
    b.is ∙ ap (λ (l : List ℕ). framed 161 (framed 161 (framed 40 l)))
    (b.external.is ∙ ap (λ (l : List ℕ). framed 6 l ++ framed 129 b.external.content) b.external.syntax.2)

whole_body : (octets contents : List ℕ) → octets ≡ framed 48 contents → IsPlainBody contents → IsRecordOf octets
whole_body octets contents is b =
    let oid = oid_octets b.external.syntax.0 in
    let same = body_octets contents b in
    record {
      name = None;
      arcs = b.external.syntax.0;
      content = b.external.content;
      proper = b.external.syntax.1;
      contents = contents;
      run = body_run oid b.external.content ∙ sym same;
      is = is;
      lawful = λ few. body_lawful oid b.external.content (omega (arith, few, ap length same));
    }

named_body : (octets contents : List ℕ) → octets ≡ framed 48 contents → IsNamedBody contents → IsRecordOf octets
named_body octets contents is n =
    let b = n.body in
    let oid = oid_octets b.external.syntax.0 in
    let same = body_octets n.rest b in
    let lengths = ap length n.is ∙ length-append (framed 128 n.name) n.rest in
    record {
      name = Some n.name;
      arcs = b.external.syntax.0;
      content = b.external.content;
      proper = b.external.syntax.1;
      contents = contents;
      run = leaf_run (context 0) 128 n.name (body_forest oid b.external.content) refl
          ∙ ap (λ (l : List ℕ). framed 128 n.name ++ l) (body_run oid b.external.content ∙ sym same) ∙ sym n.is;
      is = is;
      lawful = λ few. (
        context_tag 0 (omega arith),
        omega (arith, few, lengths, framed_longer 128 n.name),
        body_lawful oid b.external.content (omega (arith, few, lengths, ap length same)),
      );
    }

pub plain_record : (octets : List ℕ) → IsPlainRecord octets → IsRecordOf octets
plain_record octets r = ⊎_elim (whole_body octets r.contents r.is) (named_body octets r.contents r.is) r.body
