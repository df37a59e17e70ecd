-- Drafts that were begun, and what became of them.
use Rattle.std.proofs.Common.{◌≡◌, ◌∙◌, inl, inr, refl, subst, ℕ, List, Option, Result, Ok, Err}
use Rattle.std.specs.Io.KnownBytes.{Appends}
use Rattle.zknow.specs.declared.fact.Fact.{Fact}
use Rattle.zmeta_devices.specs.Files.{Files, WasTaken, IsDraft, with_draft, IsKept}
use Rattle.zmeta_devices.specs.Files.FileStep.{drafted}
use Rattle.zmeta_devices.proofs.Filing.{draft_kept, draft_taken}
use Rattle.zmeta_devices.specs.declared.fault.Fault.{Fault}
use Rattle.zmeta_devices.specs.declared.fault.Fault.TheVariants.{Write, Memory}
use Rattle.zmeta_args.specs.declared.arguments.View.{View}
use Rattle.zmeta_devices.specs.Devices.{Device, AfterEnd}
use Rattle.zmeta_devices.specs.declared.fault.Status.{Status}
use Rattle.zmeta_offline.specs.Join.{AreJoined, IsRefusedAmong, LoadAllResult, ListAndSaveResult, AfterJoinSaved}
use Rattle.zmeta_offline.specs.Merged.{streams_at, IsMergeFault, MergeResult, DraftResult, MergeFilesResult}
use Rattle.zmeta_offline.specs.Saved.{IsDraftFault, BeginResult, SavedOctetsResult, KeepDraftResult, KeepOctetsResult, SaveFactsResult}

-- ---- the beginning

-- a draft was begun
pub begun_taken : {D : Type 0} (old new : Files) (path : List ℕ) (draft : D)
    → BeginResult old new path (Ok draft) → WasTaken new.steps (drafted path)
begun_taken old new path draft is = draft_taken old new path is

-- ---- facts

-- the draft has the octets, and was kept, or not
pub kept_octets : (old new : Files) (path octets : List ℕ) (start contents : Option (List ℕ))
    (result : Result (Unit {0}) Fault) → IsDraft old.steps start → Appends start contents octets
    → KeepDraftResult old new path contents result → KeepOctetsResult old new path octets result
kept_octets old new path octets start contents (Ok u) draft gained h =
    draft_kept old new path octets start contents draft gained h.0 h.1
kept_octets old new path octets start contents (Err (Write failed)) draft gained h = h
kept_octets old new path octets start contents (Err f) draft gained h = absurd h

-- the octets are those of the saved file
pub saved_facts : (names : List (List ℕ)) (facts : List Fact) (old new : Files) (path octets : List ℕ)
    (result : Result (Unit {0}) Fault) → SavedOctetsResult names facts path (Ok octets)
    → KeepOctetsResult old new path octets result → SaveFactsResult names facts path old new result
saved_facts names facts old new path octets (Ok u) is h = (octets, is, h)
saved_facts names facts old new path octets (Err (Write failed)) is h = (h.0, inr (octets, is), h.1)
saved_facts names facts old new path octets (Err f) is h = absurd h

-- there are none
pub unsaved_facts : (names : List (List ℕ)) (facts : List Fact) (old : Files) (path : List ℕ) (f : Fault)
    → SavedOctetsResult names facts path (Err f) → SaveFactsResult names facts path old old (Err f)
unsaved_facts names facts old path (Write failed) h = (h.0, inl h.1, refl)
unsaved_facts names facts old path Memory h = refl
unsaved_facts names facts old path f h = absurd h

-- ---- merged files

module _ {D : Type 0} (contents : D → Option (List ℕ)) (paths : List (List ℕ)) (saved : List ℕ) (old : Files) where
  -- no draft was begun
  pub undrafted : (new : Files) (f : Fault) → BeginResult {D = D} old new saved (Err f)
      → DraftResult contents (streams_at old.octets paths) saved old new (Err f)
  undrafted new (Write failed) h = (h.0, inl h.1)
  undrafted new Memory h = (tt, inl h.1)
  undrafted new f h = absurd h.0

  -- the files were merged to the draft
  pub merged_draft : (new : Files) (start : Option (List ℕ)) (draft : D) → new ≡ with_draft old saved
      → IsDraft new.steps start → MergeResult (streams_at new.octets paths) saved start (contents draft) (Ok tt)
      → DraftResult contents (streams_at old.octets paths) saved old new (Ok draft)
  merged_draft new start draft is empty h = (
    is,
    (
      start,
      empty,
      subst (λ (z : Files). MergeResult (streams_at z.octets paths) saved start (contents draft) (Ok tt)) is h,
    ),
  )

  -- they were not
  pub unmerged_draft : (new : Files) (start now : Option (List ℕ)) (f : Fault) → new ≡ with_draft old saved
      → MergeResult (streams_at new.octets paths) saved start now (Err f)
      → DraftResult contents (streams_at old.octets paths) saved old new (Err f)
  unmerged_draft new start now f is h =
      (subst (λ (z : Files). IsMergeFault (streams_at z.octets paths) saved f) is h, inr is)

  -- the draft was kept, or not
  pub merged_file : (mid new : Files) (draft : D) (result : Result (Unit {0}) Fault)
      → DraftResult contents (streams_at old.octets paths) saved old mid (Ok draft)
      → KeepDraftResult mid new saved (contents draft) result
      → MergeFilesResult (streams_at old.octets paths) saved old new result
  merged_file mid new draft (Ok u) d h =
      let join = d.1.2 in (
        join.0,
        join.1,
        subst (λ (z : Files). IsKept z new saved join.0) d.0
            (draft_kept mid new saved join.0 d.1.0 (contents draft) d.1.1 join.2 h.0 h.1),
      )
  merged_file mid new draft (Err (Write failed)) d h = (h.0, inr (h.1 ∙ d.0))
  merged_file mid new draft (Err f) d h = absurd h

-- ---- a list and a file

module _ (view : View) (paths : List (List ℕ)) (saved : List ℕ) (old mid : Files) (output before errors : Device)
    (status : Status) where
  -- no draft was begun
  pub unbegun_join : (f : Fault) → IsDraftFault saved f → mid ≡ old → AfterEnd (Err f) before errors status
      → AfterJoinSaved view paths saved old mid (record { output = output; errors = before })
      (record { output = output; errors = errors }) status
  unbegun_join f h is end = (Err f, before, inl (f, refl, h, is, refl), end)

  -- a file is refused
  pub refused_join : (f : Fault) → mid ≡ with_draft old saved → LoadAllResult mid.octets paths (Err f)
      → AfterEnd (Err f) before errors status
      → AfterJoinSaved view paths saved old mid (record { output = output; errors = before })
      (record { output = output; errors = errors }) status
  refused_join f is h end = (
    Err f,
    before,
    inr (inl (f, refl, subst (λ (z : Files). IsRefusedAmong z.octets paths f) is h, is, refl)),
    end,
  )

  -- the facts are listed and saved
  pub saved_join : (new : Files) (listed between : Device) (known : List Fact × List (List ℕ))
      (result : Result Status Fault) → mid ≡ with_draft old saved → LoadAllResult mid.octets paths (Ok known)
      → ListAndSaveResult known.1 known.0 view saved mid new (record { output = output; errors = before })
      (record { output = listed; errors = between }) result
      → AfterEnd result between errors status
      → AfterJoinSaved view paths saved old new (record { output = output; errors = before })
      (record { output = listed; errors = errors }) status
  saved_join new listed between known result is h done end = (
    result,
    between,
    inr (inr (
      known.1,
      known.0,
      subst (λ (z : Files). AreJoined z.octets known.1 paths known.0) is h,
      subst (λ (z : Files). ListAndSaveResult known.1 known.0 view saved z new
          (record { output = output; errors = before }) (record { output = listed; errors = between }) result) is done,
    )),
    end,
  )

-- what becomes of a draft
pub ruleset of_facts = (saved_facts, unsaved_facts)

pub ruleset of_drafts = (undrafted, merged_draft, unmerged_draft)
