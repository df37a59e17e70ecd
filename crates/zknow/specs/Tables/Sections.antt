-- The facts of the tables, in fact order, as every contract of a knowledge sees them.
use Rattle.std.specs.Prelude.{ℤ, List, [], ◌∷◌, ◌++◌, map, if◌then◌else◌}
use Rattle.std.specs.List.{flat_map}
use Rattle.zknow.specs.declared.tables.keys.Mark.{Mark}
use Rattle.zknow.specs.declared.tables.Tables.{Tables}
use Rattle.zknow.specs.declared.fact.Fact.{Fact}
use Rattle.zknow.specs.declared.fact.Fact.TheVariants.{Count, Failed, Seen, Diag}

-- the items of one table: those of each key in turn
abbrev pub section : {K J I F : Type 0} → (J → List I) → (K → I → F) → List (K × J) → List F
section items make t = flat_map (λ e. map (make e.0) (items e.1)) t

-- a mark's items
abbrev pub marked : Mark → List (Unit {0})
marked m = if m.is_set then tt ∷ [] else []

-- values with their numbers
abbrev pub number_pairs : {T : Type 0} → List (ℤ × List T) → List (ℤ × T)
number_pairs t = section (λ xs. xs) (λ p x. (p, x)) t

-- the facts of each kind, in order
abbrev pub counts_of : Tables → List Fact
counts_of k = section (λ xs. xs) (λ e n. Count e.target e.set n) k.counts

-- a fact for each set that is marked as failed, in the order of the table
abbrev pub failed_of : Tables → List Fact
failed_of k = section marked (λ e u. Failed e.target e.set) k.failed

-- a fact for each record at each position of each set, in the order of the table
abbrev pub seen_of : Tables → List Fact
seen_of k = section number_pairs (λ e x. Seen e.target e.set x.0 x.1) k.seen

-- a fact for each diagnostic at each place of each set, in the order of the table
abbrev pub diags_of : Tables → List Fact
diags_of k = section number_pairs (λ e x. Diag e.target e.set x.0 x.1) k.diags

-- all facts, in fact order
abbrev pub table_facts : Tables → List Fact
table_facts k = counts_of k ++ (failed_of k ++ (seen_of k ++ diags_of k))
