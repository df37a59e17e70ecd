-- A scan reads one element after the other.
use Rattle.std.proofs.Common.{◌≡◌, ◌≢◌, ◌⊎◌, ◌<◌, ◌≤◌, ◌+◌, ◌-◌, ◌^◌, ℕ, true, false, Bool, List, [], ◌∷◌, ◌++◌, length, Option, Some, None, refl, sym, ap, subst, ◌∙◌, inl, inr, ⊎_elim, arith, append_assoc, length-append}
use Rattle.std.specs.Prelude.{Result, Ok, Err, IfOk, IfSome, OnOk, OnErr, Vec, min}
use Rattle.std.specs.List.{last_or}
use Rattle.std.specs.Option.{option_map}
use Rattle.std.proofs.lemmas.List.{append-nil}
use Rattle.zknow.specs.declared.fact.Fact.{Fact}
use Rattle.zknow.specs.declared.fact.Fact.TheVariants as facts_of
use Rattle.zknow.specs.Encodings.{encoding}
use Rattle.zknow.specs.Facts.{fact_kind}
use Rattle.zknow.specs.Saved.SavedFacts.{saved_names, saved_fact}
use Rattle.zknow.specs.Saved.Saved.{saved, IsSaved}
use Rattle.zknow.proofs.SavedTheory.FactRuns.{Part, names_same, files_part}
use Rattle.zknow.proofs.SavedTheory.SavedParts.{saved_push}
use Rattle.zknow_merge.specs.declared.head.Head.{Head}
use Rattle.zknow_merge.specs.declared.scan.FactPlace.{FactPlace}
use Rattle.zknow_merge.specs.declared.scan.Scan.{Scan}
use Rattle.zknow_merge.specs.declared.scan.ScanStep.{ScanStep}
use Rattle.zknow_merge.specs.declared.scan.ScanStep.TheVariants as steps
use Rattle.zknow_merge.specs.declared.source.Read.{Read}
use Rattle.zknow_merge.specs.declared.source.Read.TheVariants.{Need, Fault, Element}
use Rattle.zknow_merge.specs.declared.source.Source.{Source}
use Rattle.zknow_merge.specs.Heads.{IsHeadOf}
use Rattle.zknow_merge.specs.Inputs.{Input, IsFileOf, fed, at_end, no_input}
use Rattle.zknow_merge.specs.Sources.{IsLastHead, IsElementOption, IsWanting, IsNewSource, HasReadNames, HasReadFacts, IsReadFrom, IsReadStep, KeepsNames}
use Rattle.zknow_merge.specs.Scans.{Found, names_octets, last_element_of, IsOfFact, HasReadTo, IsNewScan, IsScan, IsScanned, AfterScan, IsReadOn, AfterScanRead, ScanLaws, octets_or_none, last_octets, last_element, IsPlaced}
use Rattle.zknow_merge.proofs.EndTheory.{done_by}
use Rattle.zknow_merge.proofs.SourceTheory.{no_names, fed_open, fed_ended, on_ok, on_err}

-- ---- a scan's source, as a merge sees it

as_read : (i : Input) (names : List (List ℕ)) (facts : List Fact) (front : List ℕ) (s : Source) → HasReadTo i names facts front s → IsReadFrom facts i s
as_read i names facts front s r = record {
  front = front;
  cut = r.cut;
  ended = r.ended;
  read = inr (record {
    names = names;
    facts = facts;
    named = r.named;
    saved = r.saved;
    last = r.last;
    count = r.count;
    waits = λ e. let a = r.waits in absurd cc;
    passed = λ f here. inl here;
    behind = λ _ f here. (f, here, inr refl);
  });
}

as_unread : (i : Input) (s : Scan) → IsNewScan i s → IsReadFrom [] i s.source
as_unread i s r = record {
  front = [];
  cut = r.cut;
  ended = r.ended;
  read = inl (record {
    names = r.names;
    start = refl;
    none = refl;
    last = r.last;
    count = r.count;
    waits = r.waits;
  });
}

pub new_scan : (s : Scan) → IsNewSource s.source → s.at ≡ 0 → IsScan no_input None s
new_scan s new at = record {
  cut = sym new.octets;
  ended = sym new.ended;
  waits = new.waits;
  names = new.names;
  last = new.last;
  count = new.count;
  at = at;
}

-- what a source has read, whether its last fact waits or not
record Core (i : Input) (names : List (List ℕ)) (facts : List Fact) (front : List ℕ) (s : Source) : Type 0 where
  cut : i.octets ≡ front ++ s.octets.items
  ended : i.ended ≡ s.ended
  named : HasReadNames names s
  saved : IsSaved names facts front
  last : IsLastHead facts s.last
  count : s.count ≡ length facts + 1

settled : (i : Input) (names : List (List ℕ)) (facts : List Fact) (front : List ℕ) (s : Source) → Core i names facts front s → HasReadTo i names facts front (record s { waiting = false })
settled i names facts front s c = record {
  cut = c.cut;
  ended = c.ended;
  waits = refl;
  named = c.named;
  saved = c.saved;
  last = c.last;
  count = c.count;
}

unmoved : (i : Input) (names : List (List ℕ)) (facts : List Fact) (front : List ℕ) (s : Source) → s.waiting ≡ false → Core i names facts front s → HasReadTo i names facts front s
unmoved i names facts front s waits c = record {
  cut = c.cut;
  ended = c.ended;
  waits = waits;
  named = c.named;
  saved = c.saved;
  last = c.last;
  count = c.count;
}

core_of : (j : Input) (merged : List Fact) (t : Source) (r : IsReadFrom merged j t) (q : HasReadFacts merged r.front t) (names : List (List ℕ)) (facts : List Fact) → q.names ≡ names → q.facts ≡ facts → Core j names facts r.front t
core_of j merged t r q names facts same_names same_facts = record {
  cut = r.cut;
  ended = r.ended;
  named = subst (λ (n : List (List ℕ)). HasReadNames n t) same_names q.named;
  saved = subst (λ (n : List (List ℕ)). IsSaved n facts r.front) same_names (subst (λ (l : List Fact). IsSaved q.names l r.front) same_facts q.saved);
  last = subst (λ (l : List Fact). IsLastHead l t.last) same_facts q.last;
  count = subst (λ (l : List Fact). t.count ≡ length l + 1) same_facts q.count;
}

nil_of : (xs : List Fact) → length xs ≡ 0 → xs ≡ []
nil_of [] is = refl
nil_of (x ∷ xs) is = absurd (omega (arith, is))

-- ---- after a call of the source

module _ (i j : Input) (names : List (List ℕ)) (facts : List Fact) (front : List ℕ) (s t : Source) (was : HasReadTo i names facts front s) (more : List ℕ) (grown : j.octets ≡ i.octets ++ more) (kept : t.names ≡ s.names) (r : IsReadFrom facts j t) where
  lined : front ++ (s.octets.items ++ more) ≡ r.front ++ t.octets.items
  lined = sym (append_assoc front s.octets.items more) ∙ ap (λ (l : List ℕ). l ++ more) (sym was.cut) ∙ sym grown ∙ r.cut

  begun : HasReadFacts facts r.front t
  begun = ⊎_elim (λ n. absurd (no_names names s (sym kept ∙ n.names) was.named)) (λ q. q) r.read

  same_names : begun.names ≡ names
  same_names = sym (names_same names begun.names facts begun.facts front r.front (s.octets.items ++ more) t.octets.items was.saved begun.saved lined)

  parts : Part facts begun.facts (s.octets.items ++ more) t.octets.items
  parts = files_part names begun.names facts begun.facts front r.front (s.octets.items ++ more) t.octets.items was.saved begun.saved lined

  size_of : (xs ys zs : List Fact) (f : Fact) → xs ≡ ys ++ f ∷ zs → length xs ≡ length ys + 1 + length zs
  size_of xs ys zs f is = omega (arith, ap length is, length-append ys (f ∷ zs))

  still_read : t.count ≡ s.count → Core j names facts r.front t
  still_read same = core_of j facts t r begun names facts same_names (⊎_elim
      (λ both. sym both.0)
      (λ part. ⊎_elim
      (λ longer. absurd (omega (arith, same, was.count, begun.count, size_of facts begun.facts longer.more longer.fact longer.whole)))
      (λ shorter. absurd (omega (arith, same, was.count, begun.count, size_of begun.facts facts shorter.more shorter.fact shorter.whole)))
      part)
      parts)

  more_read : t.count ≡ s.count + 1 → (f : Fact) × (begun.facts ≡ facts ++ f ∷ [])
  more_read next = ⊎_elim
      (λ both. absurd (omega (arith, next, was.count, begun.count, ap length both.0)))
      (λ part. ⊎_elim
      (λ longer. absurd (omega (arith, next, was.count, begun.count, size_of facts begun.facts longer.more longer.fact longer.whole)))
      (λ shorter. (
        shorter.fact,
        shorter.whole ∙ ap (λ (l : List Fact). facts ++ shorter.fact ∷ l)
            (nil_of shorter.more (omega (arith, next, was.count, begun.count, size_of begun.facts facts shorter.more shorter.fact shorter.whole))),
      ))
      part)
      parts

  one_read : t.count ≡ s.count + 1 → (f : Fact) × Core j names (facts ++ f ∷ []) r.front t
  one_read next =
      let found = more_read next in
      (found.0, core_of j facts t r begun names (facts ++ found.0 ∷ []) same_names found.1)

module _ (j : Input) (t : Source) (r : IsReadFrom [] j t) where
  record Unread : Type 0 where
    cut : j.octets ≡ t.octets.items
    names : t.names ≡ None
    last : t.last ≡ None
    count : t.count ≡ 0

  still_new : t.count ≡ 0 → Unread
  still_new none = ⊎_elim
      (λ n. record {
        cut = r.cut ∙ ap (λ (l : List ℕ). l ++ t.octets.items) n.start;
        names = n.names;
        last = n.last;
        count = none;
      })
      (λ q. absurd (omega (arith, none, q.count)))
      r.read

  names_read : t.count ≡ 1 → (names : List (List ℕ)) × Core j names [] r.front t
  names_read one = ⊎_elim
      (λ n. absurd (omega (arith, one, n.count)))
      (λ q. (q.names, core_of j [] t r q q.names [] refl (nil_of q.facts (omega (arith, one, q.count)))))
      r.read

-- ---- a read of the scan

abbrev read_on : Scan → Source → Scan
read_on s t = record s { source = record t { waiting = false } }

unread_scan : (j : Input) (s : Scan) (t : Source) → s.at ≡ 0 → (r : IsReadFrom [] j t) → t.count ≡ 0 → IsNewScan j (read_on s t)
unread_scan j s t at r none =
    let u = still_new j t r none in
    record {
      cut = u.cut;
      ended = r.ended;
      waits = refl;
      names = u.names;
      last = u.last;
      count = u.count;
      at = at;
    }

nothing_more : (i : Input) → i.octets ≡ i.octets ++ []
nothing_more i = sym (append-nil i.octets)

module _ (s : Scan) (t : Source) (keeps : KeepsNames s.source t) where
  names_kept : (names : List (List ℕ)) → HasReadNames names s.source → t.names ≡ s.source.names
  names_kept names named = keeps (λ none. no_names names s.source none named)

  -- nothing was read
  stays : t.count ≡ s.source.count → (i : Input) (found : Found) → ((merged : List Fact) → IsReadFrom merged i s.source → IsReadFrom merged i t) → IsScan i found s → IsScan i found (read_on s t)
  stays same i None read was = unread_scan i s t was.at (read [] (as_unread i s was)) (same ∙ was.count)
  stays same i (Some found) read was =
      let r = read found.1 (as_read i found.0 found.1 was.front s.source was.read) in
      let core = still_read i i found.0 found.1 was.front s.source t was.read [] (nothing_more i) (names_kept found.0 was.read.named) r same in
      record {
        front = r.front;
        read = settled i found.0 found.1 r.front t core;
        at = was.at ∙ ap length (was.read.saved.octets ∙ sym core.saved.octets);
      }

  -- one element was read
  goes_on : (s.source.names ≡ None → t.count ≡ 1) → (s.source.names ≢ None → t.count ≡ s.source.count + 1) → (i : Input) (found : Found) → ((merged : List Fact) → IsReadFrom merged i s.source → IsReadFrom merged i t) → IsScan i found s → IsReadOn i found (read_on s t)
  goes_on first next i None read was =
      let r = read [] (as_unread i s was) in
      let n = names_read i t r (first was.names) in
      (n.0, r.front, settled i n.0 [] r.front t n.1, was.at)
  goes_on first next i (Some found) read was =
      let r = read found.1 (as_read i found.0 found.1 was.front s.source was.read) in
      let one = one_read i i found.0 found.1 was.front s.source t was.read [] (nothing_more i) (names_kept found.0 was.read.named) r
      (next (λ none. no_names found.0 s.source none was.read.named)) in
      (one.0, r.front, settled i found.0 (found.1 ++ one.0 ∷ []) r.front t one.1, was.at ∙ ap length was.read.saved.octets)

-- a fault is one of any input that it was read from
faulty : (s : Scan) (i : Input) (found : Found) (P : Type 0) → ((merged : List Fact) → IsReadFrom merged i s.source → P) → IsScan i found s → P
faulty s i None P fault was = fault [] (as_unread i s was)
faulty s i (Some found) P fault was = fault found.1 (as_read i found.0 found.1 was.front s.source was.read)

need_not : {E : Type 0} → ◌≡◌ {A = Result Read E} (Ok Need) (Ok Element) → ⊥
need_not is = cc

pub read_ok : {E : Type 0} (s : Scan) (t : Source) (result : Result Read E) → IsReadStep s.source result t → KeepsNames s.source t
    → (result ≡ Ok Element → s.source.names ≡ None → t.count ≡ 1) → (result ≡ Ok Element → s.source.names ≢ None → t.count ≡ s.source.count + 1) → (result ≢ Ok Element → t.count ≡ s.source.count)
    → IfOk result (λ r. (i : Input) (found : Found) → IsScan i found s → AfterScanRead i found r (read_on s t))
read_ok s t (Ok Need) step keeps first next still = λ i found was. (
  stays s t keeps (still need_not) i found (λ merged r. (step merged i r).0) was,
  faulty s i found (i.ended ≡ false) (λ merged r. (step merged i r).1) was,
)
read_ok s t (Ok (Fault e)) step keeps first next still = λ i found was. faulty s i found _ (λ merged r. step merged i r) was
read_ok s t (Ok Element) step keeps first next still = λ i found was. goes_on s t keeps (first refl) (next refl) i found (λ merged r. step merged i r) was
read_ok s t (Err e) step keeps first next still = tt

pub read_err : {E : Type 0} (s : Scan) (t : Source) (result : Result Read E) → IsReadStep s.source result t → KeepsNames s.source t → (result ≢ Ok Element → t.count ≡ s.source.count)
    → OnErr result ((i : Input) (found : Found) → IsScan i found s → IsScan i found (read_on s t))
read_err s t (Ok r) step keeps still = tt
read_err s t (Err e) step keeps still = λ i found was. stays s t keeps (still (λ is. absurd cc)) i found (λ merged r. step merged i r) was

-- ---- a piece, or the end, came

module _ (s : Scan) (t : Source) (kept : t.names ≡ s.source.names) (waits : t.waiting ≡ s.source.waiting) (same : t.count ≡ s.source.count) where
  taken_in : (i j : Input) (found : Found) (more : List ℕ) → j.octets ≡ i.octets ++ more → ((merged : List Fact) → IsReadFrom merged i s.source → IsReadFrom merged j t) → IsScan i found s → IsScan j found (record s { source = t })
  taken_in i j None more grown read was =
      let r = read [] (as_unread i s was) in
      let u = still_new j t r (same ∙ was.count) in
      record {
        cut = u.cut;
        ended = r.ended;
        waits = waits ∙ was.waits;
        names = u.names;
        last = u.last;
        count = u.count;
        at = was.at;
      }
  taken_in i j (Some found) more grown read was =
      let r = read found.1 (as_read i found.0 found.1 was.front s.source was.read) in
      let core = still_read i j found.0 found.1 was.front s.source t was.read more grown kept r same in
      record {
        front = r.front;
        read = unmoved j found.0 found.1 r.front t (waits ∙ was.read.waits) core;
        at = was.at ∙ ap length (was.read.saved.octets ∙ sym core.saved.octets);
      }

grown_by : (piece : List ℕ) (i : Input) (b : Bool) → i.ended ≡ b → (more : List ℕ) × ((fed piece i).octets ≡ i.octets ++ more)
grown_by piece i true is = ([], ap (λ (j : Input). j.octets) (fed_ended piece i is) ∙ nothing_more i)
grown_by piece i false is = (piece, ap (λ (j : Input). j.octets) (fed_open piece i is))

pub fed_scan : {E : Type 0} (s : Scan) (t : Source) (piece : List ℕ) (result : Result (Unit {0}) E) → t.names ≡ s.source.names → t.waiting ≡ s.source.waiting → t.count ≡ s.source.count
    → OnOk result ((merged : List Fact) (input : Input) → IsReadFrom merged input s.source → IsReadFrom merged (fed piece input) t)
    → OnOk result ((i : Input) (found : Found) → IsScan i found s → IsScan (fed piece i) found (record s { source = t }))
fed_scan s t piece result kept waits same ok = on_ok result
    (λ read i found was. let g = grown_by piece i i.ended refl in taken_in s t kept waits same i (fed piece i) found g.0 g.1 (λ merged r. read merged i r) was) ok

pub unfed_scan : {E : Type 0} (s : Scan) (t : Source) (result : Result (Unit {0}) E) → t.names ≡ s.source.names → t.waiting ≡ s.source.waiting → t.count ≡ s.source.count
    → OnErr result ((merged : List Fact) (input : Input) → IsReadFrom merged input s.source → IsReadFrom merged input t)
    → OnErr result ((i : Input) (found : Found) → IsScan i found s → IsScan i found (record s { source = t }))
unfed_scan s t result kept waits same err = on_err result
    (λ read i found was. taken_in s t kept waits same i i found [] (nothing_more i) (λ merged r. read merged i r) was) err

pub ended_scan : (s : Scan) (t : Source) → t.names ≡ s.source.names → t.waiting ≡ s.source.waiting → t.count ≡ s.source.count
    → ((merged : List Fact) (input : Input) → IsReadFrom merged input s.source → IsReadFrom merged (at_end input) t)
    → (i : Input) (found : Found) → IsScan i found s → IsScan (at_end i) found (record s { source = t })
ended_scan s t kept waits same read i found was =
    taken_in s t kept waits same i (at_end i) found [] (nothing_more i) (λ merged r. read merged i r) was

-- ---- the end

pub scan_done : (s : Scan) → (IsWanting s.source → ⊥) → (i : Input) (found : Found) → IsScan i found s → IsScanned i found
scan_done s settled i None was = absurd (settled (record { merged = was.waits; more = λ done. done.named was.names }))
scan_done s settled i (Some found) was =
    let read = was.read in
    let done = done_by s.source read.waits (λ none. no_names found.0 s.source none read.named) settled s.source.ended refl s.source.octets.items refl in
    let all : i.octets ≡ was.front = read.cut ∙ ap (λ (l : List ℕ). was.front ++ l) done.read ∙ append-nil was.front in
    (read.ended ∙ done.ended, subst (λ (l : List ℕ). IsSaved found.0 found.1 l) (sym all) read.saved)

-- ---- the names

option_octets : {A : Type 0} (o : Option (Vec ℕ A)) (octets : List ℕ) → IsElementOption o octets → octets_or_none o ≡ octets
option_octets None octets h = absurd h
option_octets (Some v) octets h = h

-- ---- behind the element

no_head : (o : Option Head) → IsLastHead [] o → o ≡ None
no_head None last = refl
no_head (Some h) last = absurd (omega (arith, ap length last.2, length-append last.0 (last.1 ∷ [])))

push_same : (xs ys : List Fact) (x y : Fact) → xs ++ x ∷ [] ≡ ys ++ y ∷ [] → x ≡ y
push_same [] [] x y e = cc
push_same [] (z ∷ zs) x y e = absurd (omega (arith, ap length e, length-append zs (y ∷ [])))
push_same (z ∷ zs) [] x y e = absurd (omega (arith, ap length e, length-append zs (x ∷ [])))
push_same (z ∷ zs) (w ∷ ws) x y e = push_same zs ws x y cc

below_four : (f : Fact) → fact_kind f < 4
below_four (facts_of.Count t s n) = omega arith
below_four (facts_of.Failed t s) = omega arith
below_four (facts_of.Seen t s p r) = omega arith
below_four (facts_of.Diag t s p d) = omega arith

is_of_fact : (h : Head) (f : Fact) (begin end : ℕ) (p : FactPlace) → IsHeadOf h f → IsPlaced h begin end p → IsOfFact f p
is_of_fact h f begin end p head placed =
    let few = below_four f in
    record {
      kind = placed.kind (omega (arith, few, head.key.kind)) ∙ head.key.kind;
      target = placed.target ∙ head.key.target;
      set = placed.set ∙ head.key.set;
      number = placed.number ∙ head.key.number;
    }

step_is : (i : Input) (found : Found) (s : Scan) (a b : ScanStep) → a ≡ b → AfterScan i found b s → AfterScan i found a s
step_is i found s a b is h = subst (λ (x : ScanStep). AfterScan i found x s) (sym is) h

exact : (a b n : ℕ) → n ≡ min (a + b) (2 ^ 64 - 1) → a + 4194304 < 2 ^ 64 → b ≤ 4194304 → n ≡ a + b
exact a b n is room small = omega (arith, is, room, small)

module _ (s : Scan) (n : ℕ) (room : s.at + 4194304 < 2 ^ 64) (moved : n ≡ min (s.at + length (last_element s.source)) (2 ^ 64 - 1)) (step : ScanStep)
    (none : s.source.last ≡ None → step ≡ steps.Names) (some : IfSome s.source.last (λ h. (p : FactPlace) × (step ≡ steps.Fact p) × IsPlaced h s.at n p)) where
  behind_names : (i : Input) (names : List (List ℕ)) (front : List ℕ) → HasReadTo i names [] front s.source → s.at ≡ 0 → AfterScan i None step (record s { at = n })
  behind_names i names front read at =
      let last = no_head s.source.last read.last in
      let element : last_element s.source ≡ encoding saved_names names = ap (λ (o : Option Head). last_octets o (octets_or_none s.source.names)) last ∙ option_octets s.source.names (encoding saved_names names) read.named in
      let small = read.saved.names_fit.message.within in
      let moved_to = exact s.at (length (last_element s.source)) n moved room (omega (arith, small, ap length element)) in
      let whole : front ≡ encoding saved_names names = read.saved.octets ∙ append-nil (encoding saved_names names) in
      step_is i None (record s { at = n }) step steps.Names (none last)
      (names, record { front = front; read = read; at = omega (arith, moved_to, at, ap length element, ap length whole) })

  behind_fact : (i : Input) (names : List (List ℕ)) (facts : List Fact) (f : Fact) (front : List ℕ) → HasReadTo i names (facts ++ f ∷ []) front s.source → s.at ≡ length (saved names facts)
      → (o : Option Head) → s.source.last ≡ o → AfterScan i (Some (names, facts)) step (record s { at = n })
  behind_fact i names facts f front read at None is =
      let last = subst (IsLastHead (facts ++ f ∷ [])) is read.last in
      absurd (omega (arith, ap length last, length-append facts (f ∷ [])))
  behind_fact i names facts f front read at (Some h) is =
      let last = subst (IsLastHead (facts ++ f ∷ [])) is read.last in
      let same : f ≡ last.1 = push_same facts last.0 f last.1 last.2 in
      let head : IsHeadOf h f = subst (IsHeadOf h) (sym same) last.3 in
      let found = subst (λ (o : Option Head). IfSome o (λ h. (p : FactPlace) × (step ≡ steps.Fact p) × IsPlaced h s.at n p)) is some in
      let p : FactPlace = found.0 in
      let element : last_element s.source ≡ encoding saved_fact f = ap (λ (o : Option Head). last_octets o (octets_or_none s.source.names)) is ∙ head.element in
      let small = head.savable.fits.message.within in
      let moved_to = exact s.at (length (last_element s.source)) n moved room (omega (arith, small, ap length element)) in
      let longer : length (saved names (facts ++ f ∷ [])) ≡ length (saved names facts) + length (encoding saved_fact f) =
      ap length (saved_push names facts f) ∙ length-append (saved names facts) (encoding saved_fact f) in
      let end : n ≡ length (saved names (facts ++ f ∷ [])) = omega (arith, moved_to, at, ap length element, longer) in
      step_is i (Some (names, facts)) (record s { at = n }) step (steps.Fact p) found.1 (
        f,
        record { fact = is_of_fact h f s.at n p head found.2; begin = found.2.begins ∙ at; end = found.2.ends ∙ end },
        record { front = front; read = read; at = end ∙ ap length (sym read.saved.octets) },
      )

  pub behind_element : (i : Input) (found : Found) → IsReadOn i found s → AfterScan i found step (record s { at = n })
  behind_element i None on = behind_names i on.0 on.1 on.2 on.3
  behind_element i (Some found) on = behind_fact i found.0 found.1 on.0 on.1 on.2 on.3 s.source.last refl

-- ---- as the code does it

pub read_is : (s t : Scan) (r q : Read) → r ≡ q → ((i : Input) (found : Found) → IsScan i found s → AfterScanRead i found r t) → (i : Input) (found : Found) → IsScan i found s → AfterScanRead i found q t
read_is s t r q is h i found was = subst (λ (x : Read). AfterScanRead i found x t) is (h i found was)

pub names_are : (s : Scan) (i : Input) (found : Found) → IsScan i found s → (o : Option (List ℕ)) → (s.source.names ≡ None → o ≡ None) → ((octets : List ℕ) → IsElementOption s.source.names octets → o ≡ Some octets) → o ≡ names_octets found
names_are s i None was o none some = none was.names
names_are s i (Some found) was o none some = some (encoding saved_names found.0) was.read.named

-- ---- the element of the last fact

last_or_end : (facts : List Fact) (f : Fact) (o : Option Fact) → last_or o (facts ++ f ∷ []) ≡ Some f
last_or_end [] f o = refl
last_or_end (x ∷ facts) f o = last_or_end facts f (Some x)

abbrev head_octets : Option Head → Option (List ℕ)
head_octets last = option_map (λ (h : Head). h.element.items) last

of_last : (facts : List Fact) (last : Option Head) → IsLastHead facts last
    → head_octets last ≡ option_map (encoding saved_fact) (last_or None facts)
of_last facts None none = ap (λ (l : List Fact). option_map (encoding saved_fact) (last_or None l)) (sym none)
of_last facts (Some h) last =
    ap Some last.3.element
    ∙ ap (option_map (encoding saved_fact)) (sym (ap (last_or None) last.2 ∙ last_or_end last.0 last.1 None))

pub element_is : (s : Scan) (i : Input) (found : Found) → IsScan i found s → (octets : Option (List ℕ))
    → octets ≡ option_map (λ (h : Head). h.element.items) s.source.last → octets ≡ last_element_of found
element_is s i None was octets is = is ∙ ap (option_map (λ (h : Head). h.element.items)) was.last
element_is s i (Some found) was octets is = is ∙ of_last found.1 s.source.last was.read.last

-- ---- what a scan says of a file

fed_of : (i : Input) (file piece more : List ℕ) → i.ended ≡ false → file ≡ i.octets ++ piece ++ more → IsFileOf (fed piece i) file
fed_of i file piece more open_now cut =
    let grown : IsFileOf (record i { octets = i.octets ++ piece }) file = record {
      more = more;
      cut = cut;
      whole = λ ended. absurd cc;
    } in
    subst (λ (j : Input). IsFileOf j file) (sym (fed_open piece i open_now)) grown

whole_of : (i : Input) (file : List ℕ) (names : List (List ℕ)) (facts : List Fact) → IsFileOf i file → IsScanned i (Some (names, facts)) → IsSaved names facts file
whole_of i file names facts of_file scanned =
    let all : file ≡ i.octets = of_file.cut ∙ ap (λ (l : List ℕ). i.octets ++ l) (of_file.whole scanned.0) ∙ append-nil i.octets in
    subst (λ (l : List ℕ). IsSaved names facts l) (sym all) scanned.1

pub scan_says : ScanLaws
scan_says = record {
  start = λ file. record { more = file; cut = refl; whole = λ ended. absurd cc };
  piece = λ i file piece more of_file open_now cut. fed_of i file piece more open_now cut;
  end = λ i file of_file all. record { more = []; cut = all ∙ nothing_more i; whole = λ _. refl };
  refused = λ i file fault of_file is. is.file file of_file;
  whole = whole_of;
}
