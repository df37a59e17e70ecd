-- How a source changes when its input grows, and when facts are merged.
use Rattle.std.proofs.Common.{◌≡◌, ◌⊎◌, ◌<◌, ℕ, true, false, Bool, cond, List, [], ◌∷◌, ◌++◌, length, None, refl, sym, ap, subst, ◌∙◌, inl, inr, ⊎_elim, arith, append_assoc, length-append}
use Rattle.std.specs.Prelude.{Contains, Result, Ok, Err, OnOk, OnErr}
use Rattle.zknow.specs.declared.fact.Fact.{Fact}
use Rattle.zknow_merge.specs.declared.source.Source.{Source}
use Rattle.zknow_merge.specs.Inputs.{Input, fed, at_end}
use Rattle.zknow_merge.specs.Sources.{IsAtMost, IsDone, IsWanting, HasReadNames, HasReadFacts, HasRead, IsReadFrom, IsLastFact}

pub fed_open : (piece : List ℕ) (i : Input) → i.ended ≡ false → fed piece i ≡ record i { octets = i.octets ++ piece }
fed_open piece i open_now = ap (λ (b : Bool). cond b i (record i { octets = i.octets ++ piece })) open_now

pub fed_ended : (piece : List ℕ) (i : Input) → i.ended ≡ true → fed piece i ≡ i
fed_ended piece i ended = ap (λ (b : Bool). cond b i (record i { octets = i.octets ++ piece })) ended

pub no_names : (names : List (List ℕ)) (s : Source) → s.names ≡ None → HasReadNames names s → ⊥
no_names names s is h = rw is at h

pub not_done_open : (s : Source) → s.ended ≡ false → IsDone s → ⊥
not_done_open s open_now done = let a = done.ended in absurd cc

pub not_done_waiting : (s : Source) → s.waiting ≡ true → IsDone s → ⊥
not_done_waiting s waits done = let a = done.merged in absurd cc

-- ---- a piece came

module _ (merged : List Fact) (i : Input) (s t : Source) (piece : List ℕ) (open_now : s.ended ≡ false) (is : t ≡ record s { octets = t.octets }) (items : t.octets.items ≡ s.octets.items ++ piece) where
  open_read : (front : List ℕ) → HasRead merged front s → HasRead merged front (record s { octets = t.octets })
  open_read front (inl r) = inl (record {
    names = r.names;
    start = r.start;
    none = r.none;
    last = r.last;
    count = r.count;
    waits = r.waits;
  })
  open_read front (inr r) = inr (record {
    names = r.names;
    facts = r.facts;
    named = r.named;
    saved = r.saved;
    last = r.last;
    count = r.count;
    waits = r.waits;
    passed = r.passed;
    behind = λ _ f here. r.behind (not_done_open s open_now) f here;
  })

  pub fed_read : IsReadFrom merged i s → IsReadFrom merged (fed piece i) t
  fed_read r =
      let grown : IsReadFrom merged (record i { octets = i.octets ++ piece }) (record s { octets = t.octets }) = record {
        front = r.front;
        cut = ap (λ (l : List ℕ). l ++ piece) r.cut ∙ append_assoc r.front s.octets.items piece ∙ ap (λ (l : List ℕ). r.front ++ l) (sym items);
        ended = r.ended;
        read = open_read r.front r.read;
      } in
      subst (λ (q : Source). IsReadFrom merged (fed piece i) q) (sym is)
      (subst (λ (j : Input). IsReadFrom merged j (record s { octets = t.octets })) (sym (fed_open piece i (r.ended ∙ open_now))) grown)

pub fed_late : (merged : List Fact) (i : Input) (s : Source) (piece : List ℕ) → s.ended ≡ true → IsReadFrom merged i s → IsReadFrom merged (fed piece i) s
fed_late merged i s piece ended r =
    subst (λ (j : Input). IsReadFrom merged j s) (sym (fed_ended piece i (r.ended ∙ ended))) r

-- ---- no piece came

module _ (merged : List Fact) (i : Input) (s t : Source) (is : t ≡ record s { octets = t.octets }) (items : t.octets.items ≡ s.octets.items) where
  held_done : IsDone s → IsDone (record s { octets = t.octets })
  held_done done = record { merged = done.merged; ended = done.ended; read = items ∙ done.read; named = done.named }

  held_facts : (front : List ℕ) → HasRead merged front s → HasRead merged front (record s { octets = t.octets })
  held_facts front (inl r) = inl (record {
    names = r.names;
    start = r.start;
    none = r.none;
    last = r.last;
    count = r.count;
    waits = r.waits;
  })
  held_facts front (inr r) = inr (record {
    names = r.names;
    facts = r.facts;
    named = r.named;
    saved = r.saved;
    last = r.last;
    count = r.count;
    waits = r.waits;
    passed = r.passed;
    behind = λ never f here. r.behind (λ done. never (held_done done)) f here;
  })

  pub held_read : IsReadFrom merged i s → IsReadFrom merged i t
  held_read r =
      let same : IsReadFrom merged i (record s { octets = t.octets }) = record {
        front = r.front;
        cut = r.cut ∙ ap (λ (l : List ℕ). r.front ++ l) (sym items);
        ended = r.ended;
        read = held_facts r.front r.read;
      } in
      subst (λ (q : Source). IsReadFrom merged i q) (sym is) same

-- ---- the end came

ended_done : (s : Source) → IsDone s → IsDone (record s { ended = true })
ended_done s done = record { merged = done.merged; ended = refl; read = done.read; named = done.named }

ended_facts : (merged : List Fact) (front : List ℕ) (s : Source) → HasRead merged front s → HasRead merged front (record s { ended = true })
ended_facts merged front s (inl r) = inl (record {
  names = r.names;
  start = r.start;
  none = r.none;
  last = r.last;
  count = r.count;
  waits = r.waits;
})
ended_facts merged front s (inr r) = inr (record {
  names = r.names;
  facts = r.facts;
  named = r.named;
  saved = r.saved;
  last = r.last;
  count = r.count;
  waits = r.waits;
  passed = r.passed;
  behind = λ never f here. r.behind (λ done. never (ended_done s done)) f here;
})

pub ended_read : (merged : List Fact) (i : Input) (s : Source) → IsReadFrom merged i s → IsReadFrom merged (at_end i) (record s { ended = true })
ended_read merged i s r = record {
  front = r.front;
  cut = r.cut;
  ended = refl;
  read = ended_facts merged r.front s r.read;
}

-- ---- nothing but when the source looks again

module _ (merged : List Fact) (i : Input) (s t : Source) (is : t ≡ record s { due = t.due }) where
  later_done : IsDone s → IsDone (record s { due = t.due })
  later_done done = record { merged = done.merged; ended = done.ended; read = done.read; named = done.named }

  later_facts : (front : List ℕ) → HasRead merged front s → HasRead merged front (record s { due = t.due })
  later_facts front (inl r) = inl (record {
    names = r.names;
    start = r.start;
    none = r.none;
    last = r.last;
    count = r.count;
    waits = r.waits;
  })
  later_facts front (inr r) = inr (record {
    names = r.names;
    facts = r.facts;
    named = r.named;
    saved = r.saved;
    last = r.last;
    count = r.count;
    waits = r.waits;
    passed = r.passed;
    behind = λ never f here. r.behind (λ done. never (later_done done)) f here;
  })

  pub later_read : IsReadFrom merged i s → IsReadFrom merged i t
  later_read r =
      let same : IsReadFrom merged i (record s { due = t.due }) =
      record { front = r.front; cut = r.cut; ended = r.ended; read = later_facts r.front r.read } in
      subst (λ (q : Source). IsReadFrom merged i q) (sym is) same

-- ---- facts were merged

-- the facts are those before, and this one
pub record IsOneMore (merged : List Fact) (f : Fact) (more : List Fact) : Type 0 where
  pub keeps : (g : Fact) → Contains merged g → Contains more g
  pub only : (g : Fact) → Contains more g → Contains merged g ⊎ (g ≡ f)
  pub has : Contains more f

module _ (merged more : List Fact) (f : Fact) (one : IsOneMore merged f more) (front : List ℕ) (s : Source) where
  -- a source whose facts all are merged, or whose last fact is not below the new one
  pub other_facts : ((IsDone s → ⊥) → (r : HasReadFacts merged front s) → (g : Fact) × Contains r.facts g × IsAtMost f g) → HasReadFacts merged front s → HasReadFacts more front s
  other_facts above r = record {
    names = r.names;
    facts = r.facts;
    named = r.named;
    saved = r.saved;
    last = r.last;
    count = r.count;
    waits = r.waits;
    passed = λ g here. ⊎_elim (λ there. inl (one.keeps g there)) (λ waits. inr waits) (r.passed g here);
    behind = λ never g here. ⊎_elim
        (λ old. r.behind never g old)
        (λ same. let high = above never r in (high.0, high.1, subst (λ (z : Fact). IsAtMost z high.0) (sym same) high.2))
        (one.only g here);
  }

  -- the source whose fact was merged
  pub own_facts : s.waiting ≡ true → (r : HasReadFacts merged front s) → IsLastFact r.facts f → Contains r.facts f → HasReadFacts more front (record s { waiting = false })
  own_facts waits r last here = record {
    names = r.names;
    facts = r.facts;
    named = r.named;
    saved = r.saved;
    last = r.last;
    count = r.count;
    waits = λ e. absurd cc;
    passed = λ g in_facts. inl (⊎_elim (λ there. one.keeps g there) (λ w. subst (Contains more) (same_last r.facts f g last w.1) one.has) (r.passed g in_facts));
    behind = λ never g in_more. ⊎_elim
        (λ old. r.behind (not_done_waiting s waits) g old)
        (λ same. (f, here, inr same))
        (one.only g in_more);
  }
    where
      push_same : (xs ys : List Fact) (x y : Fact) → xs ++ x ∷ [] ≡ ys ++ y ∷ [] → x ≡ y
      push_same [] [] x y e = cc
      push_same [] (z ∷ zs) x y e = absurd (omega (arith, ap length e, length-append zs (y ∷ [])))
      push_same (z ∷ zs) [] x y e = absurd (omega (arith, ap length e, length-append zs (x ∷ [])))
      push_same (z ∷ zs) (w ∷ ws) x y e = push_same zs ws x y (cc)

      same_last : (facts : List Fact) (g h : Fact) → IsLastFact facts g → IsLastFact facts h → g ≡ h
      same_last facts g h a b = push_same a.0 b.0 g h (sym a.1 ∙ b.1)

-- ---- a source that has to read a fact has octets

by_items : (s : Source) → IsWanting s → (s.names ≡ None → ⊥) → s.ended ≡ true → (o : List ℕ) → s.octets.items ≡ o → 0 < length s.octets.items
by_items s wants named ended [] none =
    absurd (wants.more (record { merged = wants.merged; ended = ended; read = none; named = named }))
by_items s wants named ended (x ∷ xs) some = omega (arith, ap length some)

by_end : (s : Source) → IsWanting s → (s.names ≡ None → ⊥) → (s.ended ≡ false → 0 < length s.octets.items) → (b : Bool) → s.ended ≡ b → 0 < length s.octets.items
by_end s wants named more true is = by_items s wants named is s.octets.items refl
by_end s wants named more false is = more is

pub some_octets : (s : Source) → IsWanting s → (s.names ≡ None → ⊥) → (s.ended ≡ false → 0 < length s.octets.items) → 0 < length s.octets.items
some_octets s wants named more = by_end s wants named more s.ended refl

-- ---- results

pub on_ok : {T E : Type 0} {P Q : Type 0} (r : Result T E) → (Q → P) → OnOk r Q → OnOk r P
on_ok (Ok x) f h = f h
on_ok (Err e) f h = tt

pub on_err : {T E : Type 0} {P Q : Type 0} (r : Result T E) → (Q → P) → OnErr r Q → OnErr r P
on_err (Ok x) f h = tt
on_err (Err e) f h = f h

pub err_any : {T E : Type 0} {P : Type 0} (r : Result T E) → P → OnErr r P
err_any (Ok x) h = tt
err_any (Err e) h = h
