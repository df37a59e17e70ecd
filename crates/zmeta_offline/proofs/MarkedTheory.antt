-- What was written of the runs that the first pass finds is what the files have together.
use Rattle.std.proofs.Common.{◌≡◌, ◌↔◌, ℕ, true, false, List, [], ◌∷◌, ◌++◌, Option, refl, sym, ap, subst, ◌∙◌}
use Rattle.std.specs.Prelude.{Contains}
use Rattle.zknow.specs.declared.fact.Fact.{Fact}
use Rattle.zknow.specs.Known.{HasFailure}
use Rattle.zknow_forms.specs.Forms.{form_text, form_left}
use Rattle.zknow_forms.specs.declared.form.Form.{Form}
use Rattle.zknow_forms.specs.declared.form.Form.TheVariants as forms
use Rattle.zknow_forms.specs.declared.tally.Tally.{Tally}
use Rattle.zknow_records.specs.Records.{records_octets, left_out}
use Rattle.zknow_runs.specs.RowLaws.{AreRowsFrontOf}
use Rattle.zknow_runs.specs.Rows.{IsTaken, Sources, AreRunsIn, AreRowsOf}
use Rattle.zknow_runs.specs.declared.rows.Chosen.{Chosen}
use Rattle.zknow_runs.specs.declared.rows.Taking.{Taking}
use Rattle.zknow_runs.specs.declared.run.Run.{Run}
use Rattle.zmeta_offline.specs.Marked.{AreMarked}
use Rattle.zmeta_offline.specs.Records.{WantedRecords, IsChosenSyntax, IsExtract}
use Rattle.zmeta_offline.specs.Rows.{AreFilesAt, AreGivenOf, IsOfRuns}
use Rattle.zmeta_offline.specs.declared.scanned.Marked.{Marked}
use Rattle.zmeta_offline.specs.declared.scanned.Noting.{Noting}
use Rattle.zmeta_offline.proofs.GivenJoined.{IsGivenOf, given_of}
use Rattle.zmeta_offline.proofs.MarkedSources.{sources, sources_runs, sources_taken, sources_given}

module _ (octets : List ℕ → Option (List ℕ)) (path : List ℕ) (others only : List (List ℕ)) (noting : Noting)
    (m : Marked) (marked : AreMarked octets (path ∷ others) only noting m) where
  -- the files, and the known records of the chosen catalogues
  abbrev pub marked_sources : Sources
  marked_sources = sources octets m.names (path ∷ others) marked.theirs marked.saved m.chosen

  marked_runs : AreRunsIn marked_sources m.runs.items
  marked_runs = sources_runs octets m.names (path ∷ others) marked.theirs marked.saved m.chosen m.runs.items marked.runs

  marked_taken : (f : Fact) → Contains marked_sources.known f → IsTaken m.chosen f
  marked_taken f known = sources_taken octets m.names (path ∷ others) marked.theirs marked.saved m.chosen f known

  -- what is so of all sources is so of these, where the paths, the runs and what is chosen are told by other words
  pub of_marked_runs : (paths : List (List ℕ)) (runs : List Run) (c : Chosen) → paths ≡ path ∷ others
      → runs ≡ m.runs.items → c ≡ m.chosen → (P : Sources → Type 0) → IsOfRuns octets paths runs c P
      → P marked_sources
  of_marked_runs paths runs c same_paths same_runs same_chosen P h =
      h marked_sources
      (subst (λ (z : List (List ℕ)). AreFilesAt octets z marked_sources) (sym same_paths) (λ number. refl))
      (subst (λ (z : List Run). AreRunsIn marked_sources z) (sym same_runs) marked_runs)
      (subst (λ (z : Chosen). (f : Fact) → Contains marked_sources.known f → IsTaken z f) (sym same_chosen)
      marked_taken)

  abbrev pub IsMarkedGiven : List Fact → Type 0
  IsMarkedGiven given = IsGivenOf octets m.names (path ∷ others) only marked.theirs m.chosen given

  pub given_by : (given : List Fact)
      → AreGivenOf marked_sources m.chosen given → IsMarkedGiven given
  given_by given are =
      given_of octets m.names path others marked.theirs marked.saved only m.chosen marked.chosen given
      (sources_given octets m.names (path ∷ others) marked.theirs marked.saved m.chosen given are)

  -- whether a search or an association of a chosen catalogue failed
  pub has_failed : (given : List Fact) (g : IsMarkedGiven given) → HasFailure g.facts ↔ (m.failed ≡ true)
  has_failed given g = (λ h. marked.failed.1 (g.failed.0 h), λ h. g.failed.1 (marked.failed.0 h))

-- ---- octets of records

module _ (octets : List ℕ → Option (List ℕ)) (path : List ℕ) (others : List (List ℕ)) (e : WantedRecords)
    (noting : Noting) (m : Marked) (marked : AreMarked octets (path ∷ others) e.only noting m)
    (oid : Option (List ℕ)) (syntax : IsChosenSyntax e.syntax oid) where
  abbrev its : Sources
  its = marked_sources octets path others e.only noting m marked

  -- their records are taken, in this form, and nothing stands before them
  pub record IsTaking (t : Taking) : Type 0 where
    pub chosen : t.chosen.now ≡ m.chosen
    pub form : t.form.now ≡ forms.Octets oid e.conflicts
    pub head : t.head.items ≡ []

  -- the facts are extracted, and say whether a search or an association of a chosen catalogue failed
  pub record IsMarkedExtract (facts : List Fact) : Type 0 where
    pub extract : IsExtract octets (path ∷ others) e facts oid
    pub failed : HasFailure facts ↔ (m.failed ≡ true)

  extract_by : (given : List Fact) (g : IsMarkedGiven octets path others e.only noting m marked given)
      → IsMarkedExtract g.facts
  extract_by given g = record {
    extract = record {
      names = m.names;
      all = g.all;
      joined = g.joined;
      known = marked.known;
      chosen = g.chosen;
      syntax = syntax;
    };
    failed = has_failed octets path others e.only noting m marked given g;
  }

  module _ (t : Taking) (taken : IsTaking t) where
    given_as : (given : List Fact) → AreGivenOf its t.chosen.now given
        → IsMarkedGiven octets path others e.only noting m marked given
    given_as given are =
        given_by octets path others e.only noting m marked given
        (subst (λ (c : Chosen). AreGivenOf its c given) taken.chosen are)

    text_as : (given : List Fact)
        → t.head.items ++ form_text t.form.now given ≡ records_octets oid e.conflicts given
    text_as given =
        ap (λ z. z ++ form_text t.form.now given) taken.head ∙ ap (λ (f : Form). form_text f given) taken.form

    -- all octets, and what was left out
    pub rows_extract : (text : List ℕ) (told : Tally) → AreRowsOf its t text told
        → (facts : List Fact) × IsMarkedExtract facts × (text ≡ records_octets oid e.conflicts facts)
        × (told.left ≡ left_out oid e.conflicts facts)
    rows_extract text told rows =
        let g = given_as rows.given rows.are in (
          g.facts,
          extract_by rows.given g,
          rows.octets ∙ text_as rows.given ∙ sym (g.records oid e.conflicts),
          rows.tally.left ∙ ap (λ (f : Form). form_left f rows.given) taken.form ∙ sym (g.left oid e.conflicts),
        )

    -- a front of the octets
    pub front_extract : (text : List ℕ) → AreRowsFrontOf its t text
        → (facts : List Fact) × (rest : List ℕ) × IsMarkedExtract facts
        × (records_octets oid e.conflicts facts ≡ text ++ rest)
    front_extract text front =
        let g = given_as front.given front.are in (
          g.facts,
          front.rest,
          extract_by front.given g,
          g.records oid e.conflicts ∙ sym (text_as front.given) ∙ sym front.octets,
        )
