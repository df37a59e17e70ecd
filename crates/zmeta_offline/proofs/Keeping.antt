-- The octets of files that are kept, and what the machine makes of them.
use Rattle.std.proofs.Common.{◌≡◌, ◌∙◌, ◌⊎◌, inl, inr, refl, sym, ap, subst, arith, ℕ, zero, suc, ◌+◌, ◌-◌, ◌<◌, ◌≤◌, List, [], ◌∷◌, ◌++◌, length, take, drop, get_or, append-nil, Option, Some, None, IfSome, Result, Ok, Err}
use Rattle.std.specs.Borrow.{Bor}
use Rattle.std.specs.Prelude.{Contains, OnOk, IfErr}
use Rattle.std.specs.List.{AllByRecursion}
use Rattle.std.proofs.KnownBytes.{Appends-nil}
use Rattle.std.proofs.lemmas.List.{drop-take, drop_all, take_all, length-drop, length-map}
use Rattle.zknow.specs.Tables.DistinctLaws.{in_head, in_tail}
use Rattle.zknow_runs.specs.Rows.{StandAt, StandNext, IsWantedOf, IsWanted, Sources, HoldsOf, AfterReadOf}
use Rattle.zknow_runs.specs.declared.rows.Next.{Next}
use Rattle.zknow_runs.specs.declared.rows.ReadStep.{ReadStep}
use Rattle.zknow_runs.specs.declared.rows.ReadStep.TheVariants as steps
use Rattle.zknow_runs.specs.declared.rows.Rows.{Rows}
use Rattle.zknow_runs.specs.declared.rows.Taking.{Taking}
use Rattle.zknow_runs.specs.declared.rows.Wanted.{Wanted}
use Rattle.zmeta_args.specs.Texts.{texts_of}
use Rattle.zmeta_devices.specs.Devices.{Device, HasGained, PutResult}
use Rattle.zmeta_devices.specs.declared.fault.Fault.{Fault}
use Rattle.zmeta_offline.specs.Rows.{path_at, AreFilesAt, IsReader, IsKept, HasRead, HasPut, PutPieceResult}
use Rattle.zmeta_offline.specs.declared.rows.Reader.{Reader}

-- ---- lists

element_in : {T : Type 0} (xs : List T) (k : ℕ) (d : T) → k < length xs → Contains xs (get_or xs k d)
element_in [] k d lt = absurd (omega (arith, lt))
element_in (x ∷ xs) zero d lt = in_head x xs
element_in (x ∷ xs) (suc k) d lt = in_tail x xs (get_or xs k d) (element_in xs k d (omega (arith, lt)))

drop_more : {T : Type 0} (n m : ℕ) (xs : List T) → drop n (drop m xs) ≡ drop (m + n) xs
drop_more n zero xs = let same : n ≡ zero + n = omega arith in ap (λ k. drop k xs) same
drop_more n (suc m) [] = drop_all n [] (omega arith) ∙ sym (drop_all (suc m + n) [] (omega arith))
drop_more n (suc m) (x ∷ xs) =
    let same : suc (m + n) ≡ suc m + n = omega arith in drop_more n m xs ∙ ap (λ k. drop k (x ∷ xs)) same

-- what stands behind some of the octets
more_of : (items xs : List ℕ) (begin n : ℕ) → n ≤ length items → items ≡ take (length items) (drop begin xs)
    → drop n items ≡ take (length (drop n items)) (drop (begin + n) xs)
more_of items xs begin n le is =
    let size : length items ≡ n + (length items - n) = omega (arith, le) in
    ap (drop n) (is ∙ ap (λ k. take k (drop begin xs)) size)
    ∙ drop-take n (length items - n) (drop begin xs)
    ∙ ap (λ k. take k (drop n (drop begin xs))) (sym (length-drop n items))
    ∙ ap (take (length (drop n items))) (drop_more n begin xs)

pub stand_more : (known : Option (List ℕ)) (begin n offset : ℕ) (items : List ℕ) → n ≤ length items
    → offset ≡ begin + n → StandAt known begin items → StandAt known offset (drop n items)
stand_more None begin n offset items le at h = tt
stand_more (Some xs) begin n offset items le at h =
    more_of items xs begin n le h ∙ ap (λ k. take (length (drop n items)) (drop k xs)) (sym at)

pub stand_window : (known : Option (List ℕ)) (begin offset : ℕ) (items xs : List ℕ) → begin ≤ offset
    → offset - begin ≤ length xs → xs ≡ items → StandAt known begin items
    → StandAt known offset (take (length xs - (offset - begin)) (drop (offset - begin) xs))
stand_window known begin offset items xs above le same h =
    let is : offset ≡ begin + (offset - begin) = omega (arith, above) in
    let sized : length (drop (offset - begin) xs) ≡ length xs - (offset - begin) = length-drop (offset - begin) xs in
    let whole : take (length xs - (offset - begin)) (drop (offset - begin) xs) ≡ drop (offset - begin) xs =
    ap (λ k. take k (drop (offset - begin) xs)) (sym sized)
    ∙ take_all (length (drop (offset - begin) xs)) (drop (offset - begin) xs) (omega arith) in
    subst (StandAt known offset) (sym whole)
    (stand_more known begin (offset - begin) offset xs le is (subst (StandAt known begin) (sym same) h))

-- ---- windows

pub all_push : {T : Type 0} (P : T → Type 0) (xs : List T) (x : T) → AllByRecursion P xs → P x
    → AllByRecursion P (xs ++ x ∷ [])
all_push P [] x all one = (one, tt)
all_push P (y ∷ ys) x all one = (all.0, all_push P ys x all.1 one)

-- nothing stands anywhere
pub none_stands : (known : Option (List ℕ)) (offset : ℕ) (items : List ℕ) → items ≡ [] → StandAt known offset items
none_stands None offset items none = tt
none_stands (Some xs) offset items none =
    none ∙ ap (λ k. take k (drop offset xs)) (sym (ap length none))

-- ---- paths

pub path_in : (paths : List (Bor (List ℕ))) (file : ℕ) (path : List ℕ) → file < length paths
    → path ≡ path_at (texts_of paths) file → Contains (texts_of paths) path
path_in paths file path lt is =
    let below : file < length (texts_of paths) =
    subst (λ n. file < n) (sym (length-map paths (λ (text : Bor (List ℕ)). text.now))) lt in
    subst (Contains (texts_of paths)) (sym is) (element_in (texts_of paths) file [] below)

-- ---- the machine

-- octets that stand where some are wanted stand where the next record is read
pub stand_next : (octets : List ℕ → Option (List ℕ)) (paths : List (List ℕ)) (s : Sources) → AreFilesAt octets paths s
    → (rows : Rows) (w : Wanted) → IsWanted rows w → (kept : List ℕ)
    → StandAt (octets (path_at paths w.file)) w.begin kept → StandNext s.files rows kept
stand_next octets paths s files rows w wanted kept stands =
    subst (λ (o : Option Next). IfSome o (λ n. StandAt (s.files n.run.file) n.run.begin kept)) (sym wanted.1)
    (at wanted.0 wanted.2)
  where
    at : (n : Next) → IsWantedOf n w → StandAt (s.files n.run.file) n.run.begin kept
    at n is =
        subst (λ z. StandAt (s.files n.run.file) z kept) is.begin
        (subst (λ z. StandAt z w.begin kept) (sym (files n.run.file))
        (subst (λ z. StandAt (octets (path_at paths z)) w.begin kept) is.file stands))

-- ---- results

pub ok_on : {A E : Type 0} (r : Result A E) (P Q : Type 0) → (P → Q) → OnOk r P → OnOk r Q
ok_on (Ok a) P Q f h = f h
ok_on (Err e) P Q f h = tt

pub err_as : {A E : Type 0} (r : Result A E) (P Q : E → Type 0) → ((e : E) → P e → Q e) → IfErr r P → IfErr r Q
err_as (Ok a) P Q f h = tt
err_as (Err e) P Q f h = f e h

-- ---- what was read

module _ (octets : List ℕ → Option (List ℕ)) (paths : List (List ℕ)) (w : Wanted) where
  -- the machine was given octets that were kept
  pub has_read : (old : Reader) (before after : Rows) (least : ℕ) (kept : List ℕ) (step : ReadStep) → IsKept old w kept
      → (step ≡ steps.Taken) ⊎ (step ≡ steps.Unfinished)
      → ((s : Sources) (t : Taking) (text : List ℕ) → StandNext s.files before kept → HoldsOf s t text before
      → AfterReadOf s t text after step)
      → HasRead octets paths w old before (record old { least = least }) after
  has_read old before after least kept step stands is says = record {
    reader = λ r. record { of = r.of; windows = r.windows };
    holds = λ r next s files t text h.
        let next_stands = stand_next octets paths s files before w next kept (stands octets paths r) in
        by s t text step is (says s t text next_stands h);
  }
    where
      by : (s : Sources) (t : Taking) (text : List ℕ) (step : ReadStep)
          → (step ≡ steps.Taken) ⊎ (step ≡ steps.Unfinished) → AfterReadOf s t text after step → HoldsOf s t text after
      by s t text step (inl e) h = subst (λ z. AfterReadOf s t text after z) e h
      by s t text step (inr e) h = subst (λ z. AfterReadOf s t text after z) e h

  -- so it is if the windows were filled before
  pub filled : (old mid : Reader) (before : Rows) (new : Reader) (after : Rows)
      → (IsReader octets paths old → IsReader octets paths mid) → HasRead octets paths w mid before new after
      → HasRead octets paths w old before new after
  filled old mid before new after fills has = record {
    reader = λ r. has.reader (fills r);
    holds = λ r. has.holds (fills r);
  }

-- ---- what was written

pub none_gained : (d : Device) → HasGained d d []
none_gained d = record { written = Appends-nil d.known; path = refl; sound = refl; explains = refl }

pub put_none : (d : Device) (rows : Rows) → HasPut d d rows rows
put_none d rows = record {
  more = [];
  gained = none_gained d;
  holds = λ s t text h. subst (λ z. HoldsOf s t z rows) (sym (append-nil text)) h;
}

pub put_some : (old new : Device) (before after : Rows) (text : List ℕ) (r : Result (Unit {0}) Fault)
    → text ≡ before.octets.items → PutResult old new text r
    → ((s : Sources) (t : Taking) (front : List ℕ) → HoldsOf s t front before
    → HoldsOf s t (front ++ before.octets.items) after)
    → PutPieceResult old new before after r
put_some old new before after text (Ok u) is put holds = record {
  more = text;
  gained = put;
  holds = λ s t front h. subst (λ z. HoldsOf s t (front ++ z) after) (sym is) (holds s t front h);
}
put_some old new before after text (Err f) is put holds = record {
  more = text;
  failed = put;
  holds = λ s t front h. subst (λ z. HoldsOf s t (front ++ z) after) (sym is) (holds s t front h);
}
