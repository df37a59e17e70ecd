-- The log of a driven connection bounds how many requests it sends.
use Rattle.std.proofs.Common.{◌≡◌, ℕ, zero, suc, List, [], ◌∷◌, length, slice_get, Some, refl}
use Rattle.zplan.specs.Ranges.{positions}
use Rattle.zoom_questions.specs.declared.question.Question.{Question}
use Rattle.zoom_pool.specs.Driving.{DrivenLaws}
use Rattle.zoom_pool.specs.Steering.{ask_of}
use Rattle.zoom_pool.specs.Drivers.{DriverState}
use Rattle.zoom_pool.specs.Laws.{OrderLaw}
use Rattle.zoom_pool.specs.Metas.{settings_of}
use Rattle.zoom_pool.specs.MetaLaws.{FewRequests, SameList}

-- each question has the driver of its connection
pub driver_of : (qs : List Question) (ds : List DriverState) (c : ℕ) (q : Question) → length ds ≡ length qs
    → slice_get qs c ≡ Some q → (d : DriverState) × (slice_get ds c ≡ Some d)
driver_of [] ds c q e at = absurd (cc)
driver_of (x ∷ qs) [] c q e at = absurd (cc)
driver_of (x ∷ qs) (d ∷ ds) zero q e at = (d, refl)
driver_of (x ∷ qs) (d ∷ ds) (suc c) q e at = driver_of qs ds c q (cc) at

pub few_requests : DrivenLaws → FewRequests
few_requests laws questions s h meta c q p a at transcript =
    let d = driver_of questions meta.drivers c q a.driven.size at in
    let k = a.driven.each c q d.0 p at d.1 transcript in
    laws.bound (ask_of q) (positions q.wanted) s.step p.settings p.log k.wanted k.steps k.driven

pub same_list : OrderLaw → SameList
same_list law questions others s t g h one other a b same =
    law (settings_of s) (settings_of t) g h one.pool other.pool a.pool b.pool same
