-- Streams of saved files that are merged.
use Rattle.std.proofs.Common.{◌≡◌, ◌≢◌, ◌∙◌, ◌⊎◌, inl, inr, refl, sym, ap, subst, arith, ℕ, zero, suc, ◌<◌, ◌==◌, Bool, true, false, List, [], ◌∷◌, ◌++◌, length, map, set, get_or, get_or-set_same, get_or-set_other, append_assoc, append-nil, Option, Some, None, IfSome, IfOk, Result, Ok, Err}
use Rattle.std.specs.Prelude.{slice_index_or, vec_len}
use Rattle.std.specs.Borrow.{Bor}
use Rattle.std.specs.Io.KnownBytes.{Appends, Consumes, IsAtEnd}
use Rattle.std.proofs.KnownBytes.{Appends-nil, Appends-trans, Consumes-nil, Consumes-trans}
use Rattle.std.proofs.lemmas.List.{length-set}
use Rattle.std.proofs.lemmas.List.Elements.{Contains-get_or}
use Rattle.std.proofs.lemmas.Bool.Decides.{nat_tests}
use Rattle.zknow.specs.declared.saved.loading.LoadError.{LoadError}
use Rattle.zknow.specs.declared.saved.loading.LoadError.TheVariants as loads
use Rattle.zknow.specs.Saved.Loaded.{IsLoadFault}
use Rattle.zknow_merge.specs.Inputs.{Input, IsFileOf, input_at, octets_of, changed_at, fed, at_end, fresh, no_input, AreWhole}
use Rattle.zknow_merge.specs.Joins.{HasNames, IsJoin}
use Rattle.zknow_merge.specs.Merges.{IsMerge, IsStep, AfterNext, AreSound, IsFirstFaultyInput, IsFirstInputOfOtherNames}
use Rattle.zknow_merge.specs.declared.step.Step.{Step}
use Rattle.zknow_merge.specs.declared.step.Step.TheVariants.{Need, Refused, NamesDiffer, Done}
use Rattle.zknow_merge.proofs.InputTheory.{fresh_length, fresh_at}
use Rattle.zknow_merge.proofs.SourceTheory.{fed_open}
use Rattle.zmeta_devices.proofs.DeviceSteps.{unknown_before}
use Rattle.zmeta_devices.specs.Devices.{InputDevice}
use Rattle.zmeta_devices.specs.Faults.{of_load}
use Rattle.zmeta_devices.specs.declared.fault.Fault.{Fault}
use Rattle.zmeta_devices.specs.declared.fault.Fault.TheVariants.{Read, Memory}
use Rattle.zmeta_offline.specs.declared.merged.Merging.{Merging}
use Rattle.zmeta_offline.specs.Merged.{IsFileAt, IsJoinOf, IsSavedFile, AreSavedFiles, IsStreamFault, IsFirstRefused, HasOthers, IsMergeFault, IsReadTo, AreReadTo, IsMerging, IsDue, IsStepped, IsWritten}

-- ---- lists

pub map_set : {X Y : Type 0} (f : X → Y) (xs : List X) (k : ℕ) (y : X) → map f (set xs k y) ≡ set (map f xs) k (f y)
map_set f [] k y = refl
map_set f (x ∷ xs) zero y = refl
map_set f (x ∷ xs) (suc k) y = ap (λ l. f x ∷ l) (map_set f xs k y)

pub map_length : {X Y : Type 0} (f : X → Y) (xs : List X) → length (map f xs) ≡ length xs
map_length f [] = refl
map_length f (x ∷ xs) = ap suc (map_length f xs)

pub map_at : {X Y : Type 0} (f : X → Y) (xs : List X) (k : ℕ) (d : Y) (e : X) → k < length xs
    → get_or (map f xs) k d ≡ f (get_or xs k e)
map_at f [] k d e lt = absurd (omega (arith, lt))
map_at f (x ∷ xs) zero d e lt = refl
map_at f (x ∷ xs) (suc k) d e lt = map_at f xs k d e (omega (arith, lt))

pub at_any : {X : Type 0} (xs : List X) (k : ℕ) (d e : X) → k < length xs → get_or xs k d ≡ get_or xs k e
at_any [] k d e lt = absurd (omega (arith, lt))
at_any (x ∷ xs) zero d e lt = refl
at_any (x ∷ xs) (suc k) d e lt = at_any xs k d e (omega (arith, lt))

pub element : {X : Type 0} (xs : List X) (k : ℕ) → k < length xs → X
element [] k lt = absurd (omega (arith, lt))
element (x ∷ xs) k lt = x

-- ---- one stream

-- all of a stream was read
pub whole : (start now : Option (List ℕ)) (octets : List ℕ) → Consumes start now octets → IsAtEnd now
    → IfSome start (λ known. octets ≡ known)
whole None now octets c e = tt
whole (Some x) None octets c e = absurd c
whole (Some x) (Some y) octets c e = sym (c ∙ ap (λ l. octets ++ l) e ∙ append-nil octets)

-- what a stream has is a file that begins with what was read
pub begins : (start now : InputDevice) (i : Input) → IsReadTo start now i → (P : List ℕ → Type 0)
    → ((file : List ℕ) → IsFileOf i file → P file) → IfSome start.known P
begins start now i r P says = by start.known now.known r.taken r.ended
  where
    by : (a b : Option (List ℕ)) → Consumes a b i.octets → (i.ended ≡ true → IsAtEnd b) → IfSome a P
    by None b c e = tt
    by (Some x) None c e = absurd c
    by (Some x) (Some y) c e = says x (record { more = y; cut = c; whole = e })

-- ---- all streams

module _ (starts now : List InputDevice) (inputs : List Input) (read : AreReadTo starts now inputs) where
  pub file_whole : (k : ℕ) → k < length starts → (input_at inputs k).ended ≡ true
      → IsFileAt starts k (input_at inputs k).octets
  file_whole k lt ended d =
      let r = read k d d lt in
      whole (slice_index_or starts k d).known (slice_index_or now k d).known (input_at inputs k).octets r.taken (r.ended ended)

  pub saved_before : (names : List (List ℕ)) (n : ℕ) → n < length starts → AreSound inputs names n
      → AreSavedFiles starts names n
  saved_before names n lt sound k below =
      let among : k < length starts = omega (arith, lt, below) in
      ((input_at inputs k).octets, file_whole k among (sound k below).0, (sound k below).1)

  pub first_refused : (n : ℕ) (e : LoadError) (path : Bor (List ℕ)) (same : length inputs ≡ length starts)
      → ((d : InputDevice) → path.now ≡ (slice_index_or starts n d).path) → IsFirstFaultyInput inputs n e
      → IsFirstRefused starts (of_load path e)
  first_refused n e path same at h =
      let lt : n < length starts = subst (λ z. n < z) same h.among in
      record {
        number = n;
        among = lt;
        names = h.names;
        before = saved_before h.names n lt h.before;
        is = λ d. by (slice_index_or starts n d) e h.is.some (at d)
            (begins (slice_index_or starts n d) (slice_index_or now n d) (input_at inputs n) (read n d d lt)
            (λ file. IsLoadFault file e) h.is.file);
      }
    where
      by : (s : InputDevice) (e : LoadError) → e ≢ loads.Memory → path.now ≡ s.path
          → IfSome s.known (λ file. IsLoadFault file e) → IsStreamFault s (of_load path e)
      by s (loads.NotKnowledge at) some is h = (is, h)
      by s (loads.NotCanonical at) some is h = (is, h)
      by s loads.Memory some is h = absurd (some refl)

  pub has_others : (n : ℕ) (same : length inputs ≡ length starts) → IsFirstInputOfOtherNames inputs n → HasOthers starts
  has_others n same h =
      let lt : n < length starts = subst (λ z. n < z) same h.among in
      record {
        number = n;
        among = lt;
        some = h.some;
        names = h.names;
        before = saved_before h.names n lt h.before;
        others = h.others;
        file = ((input_at inputs n).octets, file_whole n lt h.ended, h.file);
        differ = h.differ;
      }

  pub join_of : (join : List ℕ) (same : length inputs ≡ length starts) → AreWhole inputs → IsJoin (map octets_of inputs) join
      → IsJoinOf starts join
  join_of join same ended is = record {
    files = map octets_of inputs;
    size = map_length octets_of inputs ∙ same;
    each = λ k d lt.
        let below : k < length inputs = subst (λ z. k < z) (sym same) lt in
        subst (λ z. IsFileAt starts k z) (sym (map_at octets_of inputs k d no_input below))
        (file_whole k lt (ended k below));
    is = is;
  }

-- ---- one stream more was read

module _ (starts now : List InputDevice) (inputs : List Input) (read : AreReadTo starts now inputs) (k : ℕ)
    (lt : k < length inputs) (same : length inputs ≡ length starts) (sized : length now ≡ length starts)
    (new : InputDevice) (change : Input → Input)
    (one : (d e : InputDevice) → IsReadTo (slice_index_or starts k d) (slice_index_or now k e) (input_at inputs k)
    → IsReadTo (slice_index_or starts k d) new (change (input_at inputs k))) where
  pub read_more : AreReadTo starts (set now k new) (changed_at k change inputs)
  read_more j d e below = by (k == j) refl
    where
      by : (b : Bool) → (k == j) ≡ b
          → IsReadTo (slice_index_or starts j d) (slice_index_or (set now k new) j e) (input_at (changed_at k change inputs) j)
      by true q =
          let is : k ≡ j = grind (arith, nat_tests) in
          subst (λ z. IsReadTo (slice_index_or starts z d) (slice_index_or (set now k new) z e)
          (input_at (changed_at k change inputs) z)) is
          (subst (λ z. IsReadTo (slice_index_or starts k d) z (input_at (changed_at k change inputs) k))
          (sym (get_or-set_same now k new e (subst (λ z. k < z) (same ∙ sym sized) lt)))
          (subst (λ z. IsReadTo (slice_index_or starts k d) new z)
          (sym (get_or-set_same inputs k (change (input_at inputs k)) no_input lt))
          (one d e (read k d e (subst (λ z. k < z) same lt)))))
      by false q =
          let other : j ≡ k → ⊥ = λ is. absurd (grind (arith, nat_tests)) in
          subst (λ z. IsReadTo (slice_index_or starts j d) z (input_at (changed_at k change inputs) j))
          (sym (get_or-set_other now k j new e other))
          (subst (λ z. IsReadTo (slice_index_or starts j d) (slice_index_or now j e) z)
          (sym (get_or-set_other inputs k j (change (input_at inputs k)) no_input other))
          (read j d e below))

-- the same for streams of any readers
pub stream_more : {X : Type 0} (f : X → InputDevice) (starts : List InputDevice) (streams : List X) (inputs : List Input)
    → AreReadTo starts (map f streams) inputs → (k : ℕ) → k < length inputs → length inputs ≡ length starts
    → length (map f streams) ≡ length starts → (x y : X) (change : Input → Input)
    → ((s : InputDevice) → IsReadTo s (f (get_or streams k x)) (input_at inputs k) → IsReadTo s (f y) (change (input_at inputs k)))
    → AreReadTo starts (map f (set streams k y)) (changed_at k change inputs)
stream_more f starts streams inputs read k lt same sized x y change one =
    let below : k < length streams = omega (arith, lt, same, sized, map_length f streams) in
    subst (λ z. AreReadTo starts z (changed_at k change inputs)) (sym (map_set f streams k y))
    (read_more starts (map f streams) inputs read k lt same sized (f y) change
    (λ d e r. one (slice_index_or starts k d)
    (subst (λ z. IsReadTo (slice_index_or starts k d) z (input_at inputs k)) (map_at f streams k e x below) r)))

pub stream_count : {X : Type 0} (f : X → InputDevice) (starts : List InputDevice) (streams : List X) (k : ℕ) (y : X)
    → length (map f streams) ≡ length starts → length (map f (set streams k y)) ≡ length starts
stream_count f starts streams k y same =
    map_length f (set streams k y) ∙ length-set streams k y ∙ sym (map_length f streams) ∙ same

-- the end of a stream came
pub ended : (s n m : InputDevice) (i : Input) → m.path ≡ n.path → Consumes n.known m.known [] → IsAtEnd m.known
    → IsReadTo s n i → IsReadTo s m (at_end i)
ended s n m i path taken end r = record {
  path = path ∙ r.path;
  taken = subst (Consumes s.known m.known) (append-nil i.octets) (Consumes-trans s.known n.known m.known i.octets [] r.taken taken);
  ended = λ e. end;
}

-- a piece of a stream came
pub taken : (s n m : InputDevice) (i : Input) (piece : List ℕ) → i.ended ≡ false → m.path ≡ n.path
    → Consumes n.known m.known piece → IsReadTo s n i → IsReadTo s m (fed piece i)
taken s n m i piece unended path more r =
    subst (IsReadTo s m) (sym (fed_open piece i unended)) (record {
      path = path ∙ r.path;
      taken = Consumes-trans s.known n.known m.known i.octets piece r.taken more;
      ended = λ e. absurd (Prim.cc (sym unended ∙ e));
    })

-- ---- steps

pub next_due : (starts now : List InputDevice) (begun held : Option (List ℕ)) (old new : Merging) (step : Step)
    (m : IsMerging starts now begun held old) → vec_len new.piece ≡ vec_len old.piece
    → AfterNext m.inputs m.handed old.merged.items step new.merged.items new.merge → IsDue starts now begun held new step
next_due starts now begun held old new step m same after = record {
  merging = record {
    inputs = m.inputs;
    handed = m.handed ++ after.handed.more;
    done = m.done;
    size = m.size;
    same = m.same;
    room = subst (λ n. 0 < n) (sym same) m.room;
    merge = after.handed.merge;
    read = m.read;
    cut = ap (λ l. l ++ after.handed.more) m.cut ∙ append_assoc m.done old.merged.items after.handed.more
        ∙ ap (λ l. m.done ++ l) (sym after.handed.out);
    draft = m.draft;
  };
  means = after.means;
}

-- what was merged was written
pub written : (starts now : List InputDevice) (begun held later : Option (List ℕ)) (old new : Merging) (step : Step)
    (m : IsDue starts now begun held old step) → vec_len new.piece ≡ vec_len old.piece → new.merge ≡ old.merge
    → Appends held later old.merged.items → new.merged.items ≡ [] → IsDue starts now begun later new step
written starts now begun held later old new step m room same put empty = record {
  merging = record {
    inputs = m.merging.inputs;
    handed = m.merging.handed;
    done = m.merging.handed;
    size = m.merging.size;
    same = m.merging.same;
    room = subst (λ n. 0 < n) (sym room) m.merging.room;
    merge = subst (IsMerge m.merging.inputs m.merging.handed) (sym same) m.merging.merge;
    read = m.merging.read;
    cut = sym (append-nil m.merging.handed) ∙ ap (λ l. m.merging.handed ++ l) (sym empty);
    draft = subst (Appends begun later) (sym m.merging.cut)
        (Appends-trans begun held later m.merging.done old.merged.items m.merging.draft put);
  };
  means = m.means;
}

ok_map : {A E : Type 0} (r : Result A E) (P Q : A → Type 0) → ((a : A) → P a → Q a) → IfOk r P → IfOk r Q
ok_map (Ok a) P Q f h = f a h
ok_map (Err e) P Q f h = tt

-- what the merge says after its next step
pub advanced : {E : Type 0} (r : Result Step E) (old new : Merging) → vec_len new.piece ≡ vec_len old.piece
    → IfOk r (λ step. (inputs : List Input) (handed : List ℕ) → IsMerge inputs handed old.merge
    → AfterNext inputs handed old.merged.items step new.merged.items new.merge)
    → IfOk r (λ step. (starts now : List InputDevice) (begun held : Option (List ℕ))
    → IsMerging starts now begun held old → IsDue starts now begun held new step)
advanced r old new same says = ok_map r _ _
    (λ step after starts now begun held m. next_due starts now begun held old new step m same (after m.inputs m.handed m.merge))
    says

module _ (starts now : List InputDevice) (begun held : Option (List ℕ)) (m : Merging) (step : Step)
    (due : IsDue starts now begun held m step) where
  -- all was merged and written
  pub all_written : step ≡ Done → m.merged.items ≡ [] → IsWritten starts begun held
  all_written is empty =
      let mm = due.merging in
      let means : IsStep mm.inputs mm.handed Done = subst (IsStep mm.inputs mm.handed) is due.means in
      let same : mm.handed ≡ mm.done = mm.cut ∙ ap (λ l. mm.done ++ l) empty ∙ append-nil mm.done in (
        mm.handed,
        join_of starts now mm.inputs mm.read mm.handed mm.size means.0 means.1,
        subst (Appends begun held) (sym same) mm.draft,
      )

  pub needed : (k : ℕ) → step ≡ Need k → k < length now
  needed k is =
      let means : IsStep due.merging.inputs due.merging.handed (Need k) =
      subst (IsStep due.merging.inputs due.merging.handed) is due.means in
      omega (arith, means.0, due.merging.size, due.merging.same)

  pub unended : (k : ℕ) → step ≡ Need k → (input_at due.merging.inputs k).ended ≡ false
  unended k is =
      let means : IsStep due.merging.inputs due.merging.handed (Need k) =
      subst (IsStep due.merging.inputs due.merging.handed) is due.means in
      means.1

  pub refused_among : (k : ℕ) (e : LoadError) → step ≡ Refused k e → k < length now
  refused_among k e is =
      let means : IsFirstFaultyInput due.merging.inputs k e = subst (IsStep due.merging.inputs due.merging.handed) is due.means in
      omega (arith, means.among, due.merging.size, due.merging.same)

  -- the first stream that is refused, by the path that its reader has
  pub due_refused : (k : ℕ) (e : LoadError) → step ≡ Refused k e → (path : Bor (List ℕ)) (d : InputDevice)
      → path.now ≡ (slice_index_or now k d).path → IsFirstRefused starts (of_load path e)
  due_refused k e is path d at =
      let mm = due.merging in
      let means : IsFirstFaultyInput mm.inputs k e = subst (IsStep mm.inputs mm.handed) is due.means in
      let lt : k < length starts = omega (arith, means.among, mm.size) in
      first_refused starts now mm.inputs mm.read k e path mm.size (λ d2. at ∙ (mm.read k d2 d lt).path) means

  pub due_others : (k : ℕ) → step ≡ NamesDiffer k → HasOthers starts
  due_others k is =
      let means : IsFirstInputOfOtherNames due.merging.inputs k = subst (IsStep due.merging.inputs due.merging.handed) is due.means in
      has_others starts now due.merging.inputs due.merging.read k due.merging.size means

-- the fault of the first stream that is refused
pub refused_fault : (starts : List InputDevice) (saved : List ℕ) (path : Bor (List ℕ)) (e : LoadError)
    → IsFirstRefused starts (of_load path e) → IsMergeFault starts saved (of_load path e)
refused_fault starts saved path (loads.NotKnowledge at) h = h
refused_fault starts saved path (loads.NotCanonical at) h = h
refused_fault starts saved path loads.Memory h = tt

-- a fault of a stream that could not be read, or of memory
pub read_fault : {X : Type 0} (f : X → InputDevice) (starts : List InputDevice) (streams : List X) (inputs : List Input)
    (saved : List ℕ) (k : ℕ) (fault : Fault) → AreReadTo starts (map f streams) inputs → k < length starts
    → k < length streams
    → (fault ≡ Memory) ⊎ ((d : X) → (path : Bor (List ℕ)) × (path.now ≡ (f (get_or streams k d)).path)
    × (fault ≡ Read path) × ((f (get_or streams k d)).known ≡ None))
    → IsMergeFault starts saved fault
read_fault f starts streams inputs saved k fault read lt below h = elim h [
  | inl memory ↦ rw memory tt
  | inr at ↦ (
      let x = element streams k below in
      let d = f x in
      let r = at x in
      rw r.2 (
        get_or starts k d,
        Contains-get_or starts k d lt,
        r.1 ∙ ap (λ (i : InputDevice). i.path) (sym (map_at f streams k d x below)) ∙ (read k d d lt).path,
        unknown_before (get_or starts k d).known (get_or (map f streams) k d).known _ (read k d d lt).taken
            (ap (λ (i : InputDevice). i.known) (map_at f streams k d x below) ∙ r.3),
      ))
]

-- the path of a stream, as its reader has it
pub path_is : {X : Type 0} (f : X → InputDevice) (streams : List X) (k : ℕ) (x : X) (path : List ℕ) → k < length streams
    → path ≡ (f (get_or streams k x)).path → path ≡ (slice_index_or (map f streams) k (f x)).path
path_is f streams k x path lt is = is ∙ ap (λ (i : InputDevice). i.path) (sym (map_at f streams k (f x) x lt))

-- the last step wrote the join
pub all_stepped : (starts now : List InputDevice) (begun held : Option (List ℕ)) (m : Merging) (b : Bool) → b ≡ true
    → IsStepped starts now begun held m b → IsWritten starts begun held
all_stepped starts now begun held m true is h = h
all_stepped starts now begun held m false is h = absurd (Prim.cc is)

-- ---- the start

-- nothing was read yet
pub begun : {X : Type 0} (f : X → InputDevice) (streams : List X) (held : Option (List ℕ)) (m : Merging) (n : ℕ)
    → n ≡ length streams → IsMerge (fresh n) [] m.merge → 0 < vec_len m.piece → m.merged.items ≡ []
    → IsMerging (map f streams) (map f streams) held held m
begun f streams held m n count merge room empty = record {
  inputs = fresh n;
  handed = [];
  done = [];
  size = fresh_length n ∙ count ∙ sym (map_length f streams);
  same = refl;
  room = room;
  merge = merge;
  read = λ k d e lt.
      subst (λ z. IsReadTo (slice_index_or (map f streams) k d) (slice_index_or (map f streams) k e) z)
      (sym (fresh_at n k))
      (subst (λ z. IsReadTo (slice_index_or (map f streams) k d) z no_input) (at_any (map f streams) k d e lt)
      (record { path = refl; taken = Consumes-nil (slice_index_or (map f streams) k d).known; ended = λ x. absurd cc }));
  cut = sym empty;
  draft = Appends-nil held;
}
