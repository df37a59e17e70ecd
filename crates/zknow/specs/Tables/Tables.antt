-- The facts in the tables of a knowledge: a fact is in the table of its kind.
use Rattle.std.specs.Prelude.{◌≡◌, ◌↔◌, ℕ, ℤ, List, Contains, ⊤}
use Rattle.std.proofs.Common.{ap, ◌∙◌}
use Rattle.std.specs.Ordering.{int_cmp}
use Rattle.std.proofs.lemmas.Cmp.{int_cmp_total}
use Rattle.std.proofs.lemmas.Map.Lookups.{exact_signed}
use Rattle.zapdu.specs.declared.productions.record.Record.{Record}
use Rattle.zapdu.specs.declared.productions.diagnostic.DiagRec.{DiagRec}
use Rattle.zapdu.specs.Productions.Records.{whole_record}
use Rattle.zapdu.specs.Productions.Diagnostics.{diag_rec}
use Rattle.zknow.specs.declared.tables.keys.SetKey.{SetKey}
use Rattle.zknow.specs.declared.tables.Tables.{Tables}
use Rattle.zknow.specs.declared.fact.Fact.{Fact}
use Rattle.zknow.specs.declared.fact.Fact.TheVariants.{Count, Failed, Seen, Diag}
use Rattle.zknow.specs.Encodings.{encoding_cmp, encoding_total}
use Rattle.zasn.specs.Place.{IsSpellable}
use Rattle.zknow.specs.Facts.{IsFact}
use Rattle.zknow.specs.Tables.Table.{HasItem, IsLawfulTable}
use Rattle.zknow.specs.Tables.TableLaws.{same_table}
use Rattle.zknow.specs.Tables.Distinct.{AreDistinct}
use Rattle.zknow.specs.Tables.DistinctLaws.{same_distinct}
use Rattle.zknow.specs.Tables.Keys.{set_cmp, set_exact, set_total, IsMarked, IsAnyMark, same_marks}

-- the key of a target's set
abbrev pub key : ℕ → ℕ → SetKey
key target set = record { target = target; set = set }

-- for each set, values by number
abbrev pub ByNumber : Type 0 → Type 0
ByNumber T = List (SetKey × List (ℤ × List T))

-- the table has the value, at this set and number
abbrev pub HasNumberedValue : {T : Type 0} → ByNumber T → SetKey × (ℤ × T) → Type 0
HasNumberedValue t x = HasItem set_cmp (HasItem int_cmp Contains) t x

-- the table of its kind has the fact
abbrev pub HasFact : Tables → Fact → Type 0
HasFact k (Count t s n) = HasItem set_cmp Contains k.counts (key t s, n)
HasFact k (Failed t s) = HasItem set_cmp IsMarked k.failed (key t s, tt)
HasFact k (Seen t s p r) = HasNumberedValue k.seen (key t s, (p, r))
HasFact k (Diag t s p d) = HasNumberedValue k.diags (key t s, (p, d))

-- each value is valid
abbrev pub IsAnyValue : {T : Type 0} → T → Type 0
IsAnyValue x = ⊤

-- counts in order, each once
abbrev pub AreCounts : List ℤ → Type 0
AreCounts xs = AreDistinct int_cmp IsAnyValue xs

-- records in the order of their encodings, each once
abbrev pub AreRecords : List Record → Type 0
AreRecords xs = AreDistinct (encoding_cmp whole_record) (IsSpellable whole_record) xs

-- diagnostics in the order of their encodings, each once
abbrev pub AreDiags : List DiagRec → Type 0
AreDiags xs = AreDistinct (encoding_cmp diag_rec) IsAnyValue xs

-- each table is lawful
pub record AreLawfulTables (k : Tables) : Type 0 where
  pub counts : IsLawfulTable set_cmp Contains AreCounts k.counts
  pub failed : IsLawfulTable set_cmp IsMarked IsAnyMark k.failed
  pub seen : IsLawfulTable set_cmp (HasItem int_cmp Contains) (IsLawfulTable int_cmp Contains AreRecords) k.seen
  pub diags : IsLawfulTable set_cmp (HasItem int_cmp Contains) (IsLawfulTable int_cmp Contains AreDiags) k.diags

-- lawful tables with the same facts are equal
pub same_tables : (a b : Tables) → AreLawfulTables a → AreLawfulTables b
    → ((f : Fact) → HasFact a f ↔ HasFact b f) → a ≡ b
same_tables a b la lb same =
    let counts =
    same_table set_cmp set_total set_exact Contains AreCounts
    (same_distinct int_cmp int_cmp_total IsAnyValue) a.counts b.counts la.counts lb.counts
    (λ x. same (Count x.0.target x.0.set x.1)) in
    let failed =
    same_table set_cmp set_total set_exact IsMarked IsAnyMark same_marks a.failed b.failed la.failed lb.failed
    (λ x. same (Failed x.0.target x.0.set)) in
    let seen =
    same_table set_cmp set_total set_exact (HasItem int_cmp Contains) (IsLawfulTable int_cmp Contains AreRecords)
    (same_table int_cmp int_cmp_total exact_signed Contains AreRecords
    (same_distinct (encoding_cmp whole_record) (encoding_total whole_record) (IsSpellable whole_record)))
    a.seen b.seen la.seen lb.seen (λ x. same (Seen x.0.target x.0.set x.1.0 x.1.1)) in
    let diags =
    same_table set_cmp set_total set_exact (HasItem int_cmp Contains) (IsLawfulTable int_cmp Contains AreDiags)
    (same_table int_cmp int_cmp_total exact_signed Contains AreDiags
    (same_distinct (encoding_cmp diag_rec) (encoding_total diag_rec) IsAnyValue))
    a.diags b.diags la.diags lb.diags (λ x. same (Diag x.0.target x.0.set x.1.0 x.1.1)) in
    ap (λ c. record a { counts = c }) counts
    ∙ ap (λ f. record a { counts = b.counts; failed = f }) failed
    ∙ ap (λ s. record a { counts = b.counts; failed = b.failed; seen = s }) seen
    ∙ ap (λ d. record b { diags = d }) diags

-- each table is lawful, and each fact in them is one that can be added
pub record IsLawfulKnowledge (k : Tables) : Type 0 where
  pub lawful : AreLawfulTables k
  pub each : (f : Fact) → HasFact k f → IsFact f
