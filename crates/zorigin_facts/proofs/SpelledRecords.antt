-- The records of an APDU that an element stands for: elements stand for them too.
use Rattle.std.proofs.Common.{ℕ, zero, suc, List, [], ◌∷◌, Option, Some, None}
use Rattle.std.specs.List.{AllByRecursion}
use Rattle.zber.specs.Elements.{Element, Primitive, Constructed, elements}
use Rattle.zasn.specs.Standing as standing
use Rattle.zasn.specs.Table.{ComponentTable, required, optional, ended, also, fields, TableWrites}
use Rattle.zasn.specs.Within.{each}
use Rattle.zapdu.specs.declared.apdu.Apdu.{Apdu}
use Rattle.zapdu.specs.declared.apdu.Apdu.TheVariants as apdus
use Rattle.zapdu.specs.declared.productions.record.Record.{Record}
use Rattle.zapdu.specs.declared.productions.record.Records.{Records}
use Rattle.zapdu.specs.declared.productions.record.Records.TheVariants as kinds
use Rattle.zapdu.specs.declared.productions.search_response.SearchResponse.{SearchResponse}
use Rattle.zapdu.specs.declared.productions.present_response.PresentResponse.{PresentResponse}
use Rattle.zapdu.specs.Productions.Records.{records, whole_record}
use Rattle.zapdu.specs.Productions.SearchResponses.{search_response_table, search_response_parts}
use Rattle.zapdu.specs.Productions.PresentResponses.{present_response_table, present_response_parts}
use Rattle.zapdu.specs.Writes.{Writes}
use Rattle.zasn.specs.Place.{IsSpellable}
use Rattle.zorigin.specs.Fitting.{records_in}
use Rattle.zorigin_facts.specs.Facts.{records_of}

abbrev AreSpelled : List Record → Type 0
AreSpelled rs = AllByRecursion (λ r. IsSpellable whole_record r) rs

-- ---- the places of a table

-- the table without its first places
abbrev after : {V : Type 0} → ℕ → ComponentTable V → ComponentTable V
after zero t = t
after (suc k) ended = ended
after (suc k) (required p get more) = after k more
after (suc k) (optional p get more) = after k more
after (suc k) (also e get) = also e get

-- some elements stand for what is left
later : {V : Type 0} (k : ℕ) (t : ComponentTable V) (v : V) (ns : List Element) → TableWrites t (fields t v) ns → (ms : List Element) × TableWrites (after k t) (fields (after k t) v) ms
later zero t v ns h = (ns, h)
later (suc k) ended v ns h = (ns, h)
later (suc k) (required p get more) v [] h = absurd h
later (suc k) (required p get more) v (n ∷ ns) h = later k more v ns h.1
later (suc k) (also e get) v ns h = (ns, h)
later {V} (suc k) (optional {A = A} p get more) v ns h = by (get v) ns h (λ ms g. later k more v ms g)
  where
    by : (o : Option A) (ns : List Element) → standing.optional p.writes o (TableWrites more (fields more v)) ns
        → ((ms : List Element) → TableWrites more (fields more v) ms → (ls : List Element) × TableWrites (after k more) (fields (after k more) v) ls)
        → (ls : List Element) × TableWrites (after k more) (fields (after k more) v) ls
    by None ns h next = next ns h
    by (Some x) [] h next = absurd h
    by (Some x) (n ∷ ns) h next = next ns h.1

-- ---- records

each_spelled : (rs : List Record) (ns : List Element) → each whole_record.writes rs ns → AreSpelled rs
each_spelled [] ns h = tt
each_spelled (r ∷ rs) [] h = absurd h
each_spelled (r ∷ rs) (n ∷ ns) h = ((n, h.0), each_spelled rs ns h.1)

inside : (r : Records) (n : Element) → records.writes r n → AreSpelled (records_in (Some r))
inside (kinds.List rs) (Primitive t b) h = absurd h
inside (kinds.List rs) (Constructed t f) h = each_spelled rs (elements f) h.1
inside (kinds.OneDiag d) n h = tt
inside (kinds.ManyDiags ds) n h = tt

shown : (o : Option Records) (rest : List Element → Type 0) (ns : List Element) → standing.optional records.writes o rest ns → AreSpelled (records_in o)
shown None rest ns h = tt
shown (Some r) rest [] h = absurd h
shown (Some r) rest (n ∷ ns) h = inside r n h.0

in_search : (v : SearchResponse) (ns : List Element) → search_response_parts.writes v ns → AreSpelled (records_in v.records)
unfolding search_response_parts
in_search v ns h =
    let left = later 7 search_response_table v ns h in
    shown v.records (TableWrites (after 8 search_response_table) (fields (after 8 search_response_table) v)) left.0 left.1

in_present : (v : PresentResponse) (ns : List Element) → present_response_parts.writes v ns → AreSpelled (records_in v.records)
unfolding present_response_parts
in_present v ns h =
    let left = later 4 present_response_table v ns h in
    shown v.records (TableWrites (after 5 present_response_table) (fields (after 5 present_response_table) v)) left.0 left.1

pub spelled_records : (v : Apdu) (n : Element) → Writes v n → AllByRecursion (λ r. IsSpellable whole_record r) (records_of v)
spelled_records v (Primitive t b) h = absurd (no_primitive v h)
  where
    no_primitive : (v : Apdu) → Writes v (Primitive t b) → ⊥
    no_primitive (apdus.InitRequest v) h = h
    no_primitive (apdus.InitResponse v) h = h
    no_primitive (apdus.SearchRequest v) h = h
    no_primitive (apdus.SearchResponse v) h = h
    no_primitive (apdus.PresentRequest v) h = h
    no_primitive (apdus.PresentResponse v) h = h
    no_primitive (apdus.Close v) h = h
spelled_records (apdus.SearchResponse v) (Constructed t f) h = in_search v (elements f) h.1
spelled_records (apdus.PresentResponse v) (Constructed t f) h = in_present v (elements f) h.1
spelled_records (apdus.InitRequest v) (Constructed t f) h = tt
spelled_records (apdus.InitResponse v) (Constructed t f) h = tt
spelled_records (apdus.SearchRequest v) (Constructed t f) h = tt
spelled_records (apdus.PresentRequest v) (Constructed t f) h = tt
spelled_records (apdus.Close v) (Constructed t f) h = tt
