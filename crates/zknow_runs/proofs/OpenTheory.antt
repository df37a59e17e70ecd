-- Where a run stands among those that are read.
use Rattle.std.proofs.Common.{◌≡◌, ◌<◌, ◌<ℤ◌, ℕ, suc, ℤ, length, List, [], ◌∷◌, map, refl, sym, ap, subst, arith}
use Rattle.std.specs.declared.cmp.Ordering.{Ordering}
use Rattle.std.specs.declared.cmp.Ordering.TheVariants.{Less, Equal, Greater}
use Rattle.std.specs.Ordering.{int_cmp, nat_cmp, ordering_then, match_ordering}
use Rattle.std.specs.BTreeMap.{insert_entry}
use Rattle.std.specs.List.{All, AllByRecursion}
use Rattle.std.specs.Map.{keys_of, values_of}
use Rattle.std.specs.Cmp.{int_cmp_is}
use Rattle.std.proofs.lemmas.Map.Lookups.{exact_pairs, exact_unsigned, exact_signed}
use Rattle.zknow_runs.specs.declared.open_runs.OpenRun.{OpenRun}
use Rattle.zknow_runs.specs.declared.open_runs.RunKey.{RunKey}
use Rattle.zknow_runs.specs.declared.run.Run.{Run}
use Rattle.zknow_runs.specs.OpenRuns.{IsKeyOf, IsPutAmong, IsLeast}

-- by position, then by the order in which runs were put
abbrev pub key_cmp : RunKey → RunKey → Ordering
key_cmp a b = ordering_then (int_cmp a.position b.position) (nat_cmp a.count b.count)

same_count : (a b : RunKey) → key_cmp a b ≡ Equal → a.count ≡ b.count
same_count a b is =
    ap (λ (p : ℤ × ℕ). p.1)
    (exact_pairs int_cmp nat_cmp exact_signed exact_unsigned (a.position, a.count) (b.position, b.count) is)

-- ---- a run is put

abbrev Entries : Type 0
Entries = List (RunKey × OpenRun)

abbrev pub runs_of : Entries → List Run
runs_of es = map (λ (o : OpenRun). o.run) (values_of es)

-- a key that was not given out yet
not_same : (k : RunKey) (e : RunKey × OpenRun) → IsKeyOf k.count e → key_cmp k e.0 ≡ Equal → ⊥
not_same k e keyed is = absurd (omega (arith, keyed.below, same_count k e.0 is))

module _ (k : RunKey) (o : OpenRun) where
  put_by : (e : RunKey × OpenRun) (es : Entries) (by : Ordering) → key_cmp k e.0 ≡ by → IsKeyOf k.count e
      → IsPutAmong (runs_of es) (runs_of (insert_entry key_cmp es k o)) o.run
      → IsPutAmong (runs_of (e ∷ es))
      (runs_of (match_ordering by ((k, o) ∷ e ∷ es) ((e.0, o) ∷ es) (e ∷ insert_entry key_cmp es k o))) o.run
  put_by e es Less is keyed rest = record { before = []; after = runs_of (e ∷ es); was = refl; is = refl }
  put_by e es Equal is keyed rest = absurd (not_same k e keyed is)
  put_by e es Greater is keyed rest = record {
    before = e.1.run ∷ rest.before;
    after = rest.after;
    was = ap (λ (l : List Run). e.1.run ∷ l) rest.was;
    is = ap (λ (l : List Run). e.1.run ∷ l) rest.is;
  }

  pub put_among : (es : Entries) → AllByRecursion (IsKeyOf k.count) es
      → IsPutAmong (runs_of es) (runs_of (insert_entry key_cmp es k o)) o.run
  put_among [] keyed = record { before = []; after = []; was = refl; is = refl }
  put_among (e ∷ es) keyed = put_by e es (key_cmp k e.0) refl keyed.0 (put_among es keyed.1)

-- a key that stands below one count stands below a greater one
raised : (count more : ℕ) → count < more → (es : Entries) → AllByRecursion (IsKeyOf count) es
    → AllByRecursion (IsKeyOf more) es
raised count more lt [] keyed = tt
raised count more lt (e ∷ es) keyed = (
  record { position = keyed.0.position; below = omega (arith, lt, keyed.0.below) },
  raised count more lt es keyed.1,
)

module _ (k : RunKey) (o : OpenRun) (P : RunKey × OpenRun → Type 0) where
  all_by : (e : RunKey × OpenRun) (es : Entries) (by : Ordering) → key_cmp k e.0 ≡ by → P (k, o) → IsKeyOf k.count e
      → AllByRecursion P (e ∷ es) → AllByRecursion P (insert_entry key_cmp es k o)
      → AllByRecursion P (match_ordering by ((k, o) ∷ e ∷ es) ((e.0, o) ∷ es) (e ∷ insert_entry key_cmp es k o))
  all_by e es Less is own keyed all rest = (own, all)
  all_by e es Equal is own keyed all rest = absurd (not_same k e keyed is)
  all_by e es Greater is own keyed all rest = (all.0, rest)

  all_put : (es : Entries) → P (k, o) → AllByRecursion (IsKeyOf k.count) es → AllByRecursion P es
      → AllByRecursion P (insert_entry key_cmp es k o)
  all_put [] own keyed all = (own, tt)
  all_put (e ∷ es) own keyed all =
      all_by e es (key_cmp k e.0) refl own keyed.0 all (all_put es own keyed.1 all.1)

pub put_keyed : (k : RunKey) (o : OpenRun) (more : ℕ) (es : Entries) → k.count < more → k.position ≡ o.run.position
    → AllByRecursion (IsKeyOf k.count) es → AllByRecursion (IsKeyOf more) (insert_entry key_cmp es k o)
put_keyed k o more es lt own keyed =
    all_put k o (IsKeyOf more) es (record { position = own; below = lt }) keyed (raised k.count more lt es keyed)

-- ---- the first run is taken

not_lower : (a b : ℤ) (then : Ordering) → ordering_then (int_cmp a b) then ≡ Less → b <ℤ a → ⊥
not_lower a b then less lower =
    let greater : Greater ≡ int_cmp a b = int_cmp_is a b Greater lower in
    let never : Greater ≡ Less = subst (λ (o : Ordering). ordering_then o then ≡ Less) (sym greater) less in
    absurd cc

least_of : (count : ℕ) (k : RunKey) (o : OpenRun) (es : Entries) → IsKeyOf count (k, o)
    → AllByRecursion (IsKeyOf count) es → AllByRecursion (λ q. key_cmp k q ≡ Less) (keys_of es)
    → IsLeast o.run (runs_of es)
least_of count k o [] own keyed above = tt
least_of count k o (e ∷ es) own keyed above = (
  λ lower. not_lower k.position e.0.position (nat_cmp k.count e.0.count) above.0
      (subst (λ (z : ℤ). z <ℤ k.position) (sym keyed.0.position)
      (subst (λ (z : ℤ). e.1.run.position <ℤ z) (sym own.position) lower)),
  least_of count k o es own keyed.1 above.1,
)

-- each of a list, one by one
each_of : {X : Type 0} (P : X → Type 0) (xs : List X) → All P xs → AllByRecursion P xs
each_of P [] each = tt
each_of P (x ∷ xs) each = (each 0 x (omega arith), each_of P xs (λ k d lt. each (suc k) d (omega (arith, lt))))

pub least_taken : (count : ℕ) (k : RunKey) (o : OpenRun) (es : Entries) → IsKeyOf count (k, o)
    → AllByRecursion (IsKeyOf count) es → All (λ q. key_cmp k q ≡ Less) (keys_of es) → IsLeast o.run (runs_of es)
least_taken count k o es own keyed above =
    least_of count k o es own keyed (each_of (λ q. key_cmp k q ≡ Less) (keys_of es) above)

pub none_of : (es : Entries) → (0 < length es → ⊥) → runs_of es ≡ []
none_of [] none = refl
none_of (e ∷ es) none = absurd (none (omega arith))
