-- What a search was given is read again of the entries that tell it.
use Rattle.std.proofs.Common.{◌≡◌, refl, sym, ◌∙◌, ap, subst, ℕ, Bool, true, false, List, [], ◌∷◌, ◌++◌, Option, Some, None, is_some, if◌then◌else◌, append_assoc}
use Rattle.std.proofs.lemmas.Option.{same_Some}
use Rattle.std.specs.Option.{option_and_then}
use Rattle.zoom_trace.specs.declared.entry.Given.{Given}
use Rattle.zoom_trace.specs.declared.entry.TraceEntry.{TraceEntry}
use Rattle.zoom_asking.specs.declared.inquiry.Manner.{Manner}
use Rattle.zoom_trace.specs.Recording.{opening}
use Rattle.zmeta_world.specs.Search.{SearchTexts}
use Rattle.zmeta_trace.specs.declared.head.Begun.{Begun}
use Rattle.zmeta_trace.specs.declared.parts.Part.{Part}
use Rattle.zmeta_trace.specs.declared.parts.Part.TheVariants as parts
use Rattle.zmeta_trace.specs.declared.parts.Measure.TheVariants as measures
use Rattle.zmeta_trace.specs.Heads.{text_of, number_of, first_given, first_text, first_number, behind, behind_text, search_in, behind_search, with_name, names_in, behind_names, begun_in, ended, with_begun, with_world, head_in, HeadTexts}
use Rattle.zmeta_trace.specs.Given.{text_entries, search_entries, name_entries, begun_entries, head_entries, text_entry, HeadLaw, OneHeadLaw}

-- ---- what stands behind gives no such part

no_text : (part : Part) (es : List TraceEntry) → first_given es ≡ None → first_text part es ≡ None
no_text part es none = ap (λ (g : Option Given). option_and_then (text_of part) g) none

-- ---- the parts of a search

query_read : (text : Option (List ℕ)) (es : List TraceEntry) → first_text parts.Query es ≡ None
    → (first_text parts.Query (text_entries parts.Query text ++ es) ≡ text)
    × (behind_text parts.Query (text_entries parts.Query text ++ es) ≡ es)
query_read None es none = (none, ap (λ (t : Option (List ℕ)). behind (is_some t) es) none)
query_read (Some text) es none = (refl, refl)

records_read : (text : Option (List ℕ)) (es : List TraceEntry) → first_text parts.Records es ≡ None
    → (first_text parts.Records (text_entries parts.Records text ++ es) ≡ text)
    × (behind_text parts.Records (text_entries parts.Records text ++ es) ≡ es)
records_read None es none = (none, ap (λ (t : Option (List ℕ)). behind (is_some t) es) none)
records_read (Some text) es none = (refl, refl)

elements_read : (text : Option (List ℕ)) (es : List TraceEntry) → first_text parts.Elements es ≡ None
    → (first_text parts.Elements (text_entries parts.Elements text ++ es) ≡ text)
    × (behind_text parts.Elements (text_entries parts.Elements text ++ es) ≡ es)
elements_read None es none = (none, ap (λ (t : Option (List ℕ)). behind (is_some t) es) none)
elements_read (Some text) es none = (refl, refl)

syntax_read : (text : Option (List ℕ)) (es : List TraceEntry) → first_text parts.Syntax es ≡ None
    → (first_text parts.Syntax (text_entries parts.Syntax text ++ es) ≡ text)
    × (behind_text parts.Syntax (text_entries parts.Syntax text ++ es) ≡ es)
syntax_read None es none = (none, ap (λ (t : Option (List ℕ)). behind (is_some t) es) none)
syntax_read (Some text) es none = (refl, refl)

-- a later part is no earlier one
query_not_syntax : (text : Option (List ℕ)) (es : List TraceEntry) → first_text parts.Query es ≡ None
    → first_text parts.Query (text_entries parts.Syntax text ++ es) ≡ None
query_not_syntax None es none = none
query_not_syntax (Some text) es none = refl

query_not_elements : (text : Option (List ℕ)) (es : List TraceEntry) → first_text parts.Query es ≡ None
    → first_text parts.Query (text_entries parts.Elements text ++ es) ≡ None
query_not_elements None es none = none
query_not_elements (Some text) es none = refl

query_not_records : (text : Option (List ℕ)) (es : List TraceEntry) → first_text parts.Query es ≡ None
    → first_text parts.Query (text_entries parts.Records text ++ es) ≡ None
query_not_records None es none = none
query_not_records (Some text) es none = refl

records_not_syntax : (text : Option (List ℕ)) (es : List TraceEntry) → first_text parts.Records es ≡ None
    → first_text parts.Records (text_entries parts.Syntax text ++ es) ≡ None
records_not_syntax None es none = none
records_not_syntax (Some text) es none = refl

records_not_elements : (text : Option (List ℕ)) (es : List TraceEntry) → first_text parts.Records es ≡ None
    → first_text parts.Records (text_entries parts.Elements text ++ es) ≡ None
records_not_elements None es none = none
records_not_elements (Some text) es none = refl

elements_not_syntax : (text : Option (List ℕ)) (es : List TraceEntry) → first_text parts.Elements es ≡ None
    → first_text parts.Elements (text_entries parts.Syntax text ++ es) ≡ None
elements_not_syntax None es none = none
elements_not_syntax (Some text) es none = refl

-- nothing of a search begins these
pub record IsNoSearch (es : List TraceEntry) : Type 0 where
  pub query : first_text parts.Query es ≡ None
  pub records : first_text parts.Records es ≡ None
  pub elements : first_text parts.Elements es ≡ None
  pub syntax : first_text parts.Syntax es ≡ None

-- the entries, each part before those behind it
abbrev pub joined : SearchTexts → List TraceEntry → List TraceEntry
joined s es = text_entries parts.Query s.query ++ (text_entries parts.Records s.records
    ++ (text_entries parts.Elements s.elements ++ (text_entries parts.Syntax s.syntax ++ es)))

abbrev pub texts : Option (List ℕ) → Option (List ℕ) → Option (List ℕ) → Option (List ℕ) → SearchTexts
texts q r e y = record { query = q; records = r; elements = e; syntax = y }

same_texts : (q r e y p s f z : Option (List ℕ)) → q ≡ p → r ≡ s → e ≡ f → y ≡ z → texts q r e y ≡ texts p s f z
same_texts q r e y p s f z a b c d =
    ap (λ (t : Option (List ℕ)). texts t r e y) a ∙ ap (λ (t : Option (List ℕ)). texts p t e y) b
    ∙ ap (λ (t : Option (List ℕ)). texts p s t y) c ∙ ap (λ (t : Option (List ℕ)). texts p s f t) d

joined_read : (s : SearchTexts) (es : List TraceEntry) → IsNoSearch es
    → (search_in (joined s es) ≡ s) × (behind_search (joined s es) ≡ es)
joined_read s es none =
    let fourth : List TraceEntry = text_entries parts.Syntax s.syntax ++ es in
    let third : List TraceEntry = text_entries parts.Elements s.elements ++ fourth in
    let second : List TraceEntry = text_entries parts.Records s.records ++ third in
    let first : List TraceEntry = joined s es in
    let q = query_read s.query second (query_not_records s.records third (query_not_elements s.elements fourth
    (query_not_syntax s.syntax es none.query))) in
    let r = records_read s.records third (records_not_elements s.elements fourth
    (records_not_syntax s.syntax es none.records)) in
    let e = elements_read s.elements fourth (elements_not_syntax s.syntax es none.elements) in
    let y = syntax_read s.syntax es none.syntax in
    let after_records : behind_text parts.Records (behind_text parts.Query first) ≡ third =
    ap (behind_text parts.Records) q.1 ∙ r.1 in
    let after_elements : behind_text parts.Elements (behind_text parts.Records (behind_text parts.Query first))
    ≡ fourth = ap (behind_text parts.Elements) after_records ∙ e.1 in (
      same_texts (first_text parts.Query first) (first_text parts.Records (behind_text parts.Query first))
          (first_text parts.Elements (behind_text parts.Records (behind_text parts.Query first)))
          (first_text parts.Syntax (behind_text parts.Elements (behind_text parts.Records
          (behind_text parts.Query first)))) s.query s.records s.elements s.syntax q.0
          (ap (first_text parts.Records) q.1 ∙ r.0) (ap (first_text parts.Elements) after_records ∙ e.0)
          (ap (first_text parts.Syntax) after_elements ∙ y.0),
      ap (behind_text parts.Syntax) after_elements ∙ y.1,
    )

search_joined : (s : SearchTexts) (es : List TraceEntry) → search_entries s ++ es ≡ joined s es
search_joined s es =
    let q : List TraceEntry = text_entries parts.Query s.query in
    let r : List TraceEntry = text_entries parts.Records s.records in
    let e : List TraceEntry = text_entries parts.Elements s.elements in
    let y : List TraceEntry = text_entries parts.Syntax s.syntax in
    append_assoc q (r ++ (e ++ y)) es ∙ ap (λ (l : List TraceEntry). q ++ l) (append_assoc r (e ++ y) es)
    ∙ ap (λ (l : List TraceEntry). q ++ (r ++ l)) (append_assoc e y es)

search_read : (s : SearchTexts) (es : List TraceEntry) → IsNoSearch es
    → (search_in (search_entries s ++ es) ≡ s) × (behind_search (search_entries s ++ es) ≡ es)
search_read s es none = subst (λ (l : List TraceEntry). (search_in l ≡ s) × (behind_search l ≡ es))
    (sym (search_joined s es)) (joined_read s es none)

-- ---- the names

pub names_none : (es : List TraceEntry) → first_text parts.Only es ≡ None
    → (names_in es ≡ []) × (behind_names es ≡ es)
names_none [] none = (refl, refl)
names_none (e ∷ es) none = (
  ap (λ (t : Option (List ℕ)). with_name t (names_in es)) none,
  ap (λ (t : Option (List ℕ)). if is_some t then behind_names es else e ∷ es) none,
)

-- one name more
pub name_next : (es : List TraceEntry) (name : List ℕ) → first_text parts.Only es ≡ Some name
    → (names_in es ≡ name ∷ names_in (behind true es)) × (behind_names es ≡ behind_names (behind true es))
name_next [] name h = absurd cc
name_next (e ∷ es) name h = (
  ap (λ (t : Option (List ℕ)). with_name t (names_in es)) h,
  ap (λ (t : Option (List ℕ)). if is_some t then behind_names es else e ∷ es) h,
)

names_read : (only : List (List ℕ)) (es : List TraceEntry) → first_text parts.Only es ≡ None
    → (names_in (name_entries only ++ es) ≡ only) × (behind_names (name_entries only ++ es) ≡ es)
names_read [] es none = names_none es none
names_read (name ∷ only) es none =
    let h = names_read only es none in (ap (λ (l : List (List ℕ)). name ∷ l) h.0, h.1)

names_no_search : (only : List (List ℕ)) (es : List TraceEntry) → IsNoSearch es → IsNoSearch (name_entries only ++ es)
names_no_search [] es none = none
names_no_search (name ∷ only) es none = record { query = refl; records = refl; elements = refl; syntax = refl }

-- ---- how hosts are talked with

no_total : (es : List TraceEntry) → first_given es ≡ None → first_number measures.Total es ≡ None
no_total es none = ap (λ (g : Option Given). option_and_then (number_of measures.Total) g) none

begun_as : (start : ℕ) (manner : Manner) (connect patience : ℕ) (total : Option ℕ) (es : List TraceEntry)
    → first_given es ≡ None
    → begun_in (opening start manner (record { connect = connect; patience = patience }) total ++ es)
    ≡ (Some (record { start = start; manner = manner; connect = connect; patience = patience; total = total }), es)
unfolding begun_in
begun_as start manner connect patience None es none =
    ap (λ (t : Option ℕ). (
      Some (record {
        start = start;
        manner = manner;
        connect = connect;
        patience = patience;
        total = t;
      }),
      behind (is_some t) es,
    )) (no_total es none)
begun_as start manner connect patience (Some n) es none = refl

begun_read : (b : Begun) (es : List TraceEntry) → first_given es ≡ None
    → begun_in (begun_entries b ++ es) ≡ (Some b, es)
begun_read b es none = begun_as b.start b.manner b.connect b.patience b.total es none

-- ---- the whole head

with_tail : (h : HeadTexts) (e : TraceEntry) (tail rest : List TraceEntry) → search_in tail ≡ h.search
    → names_in (behind_search tail) ≡ h.only
    → begun_in (behind_names (behind_search tail)) ≡ (Some h.begun, rest) → first_given rest ≡ None
    → with_world (Some h.world) (e ∷ tail) ≡ (Some h, rest)
with_tail h e tail rest s n b none =
    let begun : Option Begun × List TraceEntry = begun_in (behind_names (behind_search tail)) in
    ap (λ (z : SearchTexts). with_begun h.world z (names_in (behind_search tail)) begun.0 begun.1) s
    ∙ ap (λ (z : List (List ℕ)). with_begun h.world h.search z begun.0 begun.1) n
    ∙ ap (λ (z : Option Begun × List TraceEntry). with_begun h.world h.search h.only z.0 z.1) b
    ∙ ap (λ (g : Option Given). ended (is_some g) h rest) none

parts_read : (h : HeadTexts) (e : TraceEntry) (rest : List TraceEntry) → first_given rest ≡ None
    → with_world (Some h.world)
    (e ∷ (search_entries h.search ++ (name_entries h.only ++ (begun_entries h.begun ++ rest)))) ≡ (Some h, rest)
parts_read h e rest none =
    let begun : List TraceEntry = begun_entries h.begun ++ rest in
    let names : List TraceEntry = name_entries h.only ++ begun in
    let s = search_read h.search names (names_no_search h.only begun
    (record { query = refl; records = refl; elements = refl; syntax = refl })) in
    let n = names_read h.only begun refl in
    let b = begun_read h.begun rest none in
    with_tail h e (search_entries h.search ++ names) rest s.0 (ap names_in s.1 ∙ n.0)
    (ap begun_in (ap behind_names s.1 ∙ n.1) ∙ b) none

pub head_read : HeadLaw
unfolding head_in
head_read h rest none =
    let tail =
    append_assoc (search_entries h.search ++ name_entries h.only) (begun_entries h.begun) rest
    ∙ append_assoc (search_entries h.search) (name_entries h.only) (begun_entries h.begun ++ rest) in
    ap (λ (l : List TraceEntry). with_world (Some h.world) (text_entry parts.World h.world ∷ l)) tail
    ∙ parts_read h (text_entry parts.World h.world) rest none

-- ---- a head that limits all

begun_total : (b : Begun) (n : ℕ) (es : List TraceEntry) → b.total ≡ Some n
    → begun_in (begun_entries b ++ es) ≡ (Some b, es)
unfolding begun_in
begun_total b n es limited =
    subst (λ (t : Option ℕ). begun_in (opening b.start b.manner
    (record { connect = b.connect; patience = b.patience }) t ++ es) ≡ (Some (record b { total = t }), es))
    (sym limited) refl

-- the head, unless something more was given behind it
total_tail : (h : HeadTexts) (e : TraceEntry) (tail rest : List TraceEntry) → search_in tail ≡ h.search
    → names_in (behind_search tail) ≡ h.only
    → begun_in (behind_names (behind_search tail)) ≡ (Some h.begun, rest)
    → with_world (Some h.world) (e ∷ tail) ≡ ended (is_some (first_given rest)) h rest
total_tail h e tail rest s n b =
    let begun : Option Begun × List TraceEntry = begun_in (behind_names (behind_search tail)) in
    ap (λ (z : SearchTexts). with_begun h.world z (names_in (behind_search tail)) begun.0 begun.1) s
    ∙ ap (λ (z : List (List ℕ)). with_begun h.world h.search z begun.0 begun.1) n
    ∙ ap (λ (z : Option Begun × List TraceEntry). with_begun h.world h.search h.only z.0 z.1) b

total_read : (h : HeadTexts) (n : ℕ) (rest : List TraceEntry) → h.begun.total ≡ Some n
    → head_in (head_entries h ++ rest) ≡ ended (is_some (first_given rest)) h rest
unfolding head_in
total_read h n rest limited =
    let world : TraceEntry = text_entry parts.World h.world in
    let begun : List TraceEntry = begun_entries h.begun ++ rest in
    let names : List TraceEntry = name_entries h.only ++ begun in
    let s = search_read h.search names (names_no_search h.only begun
    (record { query = refl; records = refl; elements = refl; syntax = refl })) in
    let m = names_read h.only begun refl in
    let b = begun_total h.begun n rest limited in
    let tail =
    append_assoc (search_entries h.search ++ name_entries h.only) (begun_entries h.begun) rest
    ∙ append_assoc (search_entries h.search) (name_entries h.only) (begun_entries h.begun ++ rest) in
    ap (λ (l : List TraceEntry). with_world (Some h.world) (world ∷ l)) tail
    ∙ total_tail h world (search_entries h.search ++ names) rest s.0 (ap names_in s.1 ∙ m.0)
    (ap begun_in (ap behind_names s.1 ∙ m.1) ∙ b)

no_head : (k : HeadTexts) → None ≡ Some k → ⊥
no_head k e = cc

one_ended : (more : Bool) (h k : HeadTexts) (rest others : List TraceEntry) → ended more h rest ≡ (Some k, others)
    → k ≡ h
one_ended false h k rest others e = same_Some k h (sym (ap (λ (p : Option HeadTexts × List TraceEntry). p.0) e))
one_ended true h k rest others e =
    let none : None ≡ Some k = ap (λ (p : Option HeadTexts × List TraceEntry). p.0) e in
    absurd (no_head k none)

pub one_head : OneHeadLaw
one_head h k n rest others limited is =
    one_ended (is_some (first_given rest)) h k rest others (sym (total_read h n rest limited) ∙ is)
