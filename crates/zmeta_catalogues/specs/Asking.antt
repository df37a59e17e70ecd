-- The questions of a search, one after the other.
use Rattle.std.specs.Prelude.{◌≡◌, ℕ, ◌<◌, List, length, slice_index_or}
use Rattle.zoom_questions.specs.Askable.{AreAskable}
use Rattle.zmeta_world.specs.declared.world.NamedHost.{NamedHost}
use Rattle.zmeta_world.specs.declared.world.AskedQuestion.{AskedQuestion}
use Rattle.zmeta_world.specs.Finding.{questions_of}
use Rattle.zmeta_catalogues.specs.declared.catalogue.Catalogue.{Catalogue}
use Rattle.zmeta_catalogues.specs.declared.world.AskedHosts.{AskedHosts}
use Rattle.zmeta_catalogues.specs.Asked.{AskedSearch, IsAsked, host_of}

-- the first catalogues, as many as these, are hosts with questions that can be asked
pub record AreAskedTo (s : AskedSearch) (cs : List Catalogue) (n : ℕ) (hosts : List NamedHost) (qs : List AskedQuestion)
    : Type 0 where
  pub as_many_hosts : length hosts ≡ n
  pub as_many : length qs ≡ n
  pub each_host : (at : ℕ) (c : Catalogue) (h : NamedHost) → at < n
      → slice_index_or hosts at h ≡ host_of (slice_index_or cs at c)
  pub each_question : (at : ℕ) (c : Catalogue) (q : AskedQuestion) → at < n
      → IsAsked s at (slice_index_or cs at c) (slice_index_or qs at q)
  pub askable : AreAskable (questions_of qs)

-- these hosts and questions are those of the first catalogues, as many as these
abbrev pub IsAskedSoFar : AskedSearch → List Catalogue → ℕ → AskedHosts → Type 0
IsAskedSoFar s cs n a = AreAskedTo s cs n a.hosts.items a.questions.items
