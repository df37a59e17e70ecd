-- If accepted replies are equal, the facts known are equal.
use Rattle.std.proofs.Common.{◌≡◌, ⊎_elim, ℕ, List, [], ◌∷◌, refl, sym, ap, subst, ◌∙◌}
use Rattle.std.specs.Prelude.{Contains}
use Rattle.std.specs.List.{flat_map}
use Rattle.std.proofs.lemmas.List.Elements.{Contains-append_cases, Contains-append_left, Contains-append_right}
use Rattle.zknow.specs.Tables.DistinctLaws.{none_in_nil, in_cons, in_head, in_tail}
use Rattle.zknow.specs.FactLaws.{same_facts}
use Rattle.zknow.specs.List.Listing.{listing}
use Rattle.zknow.specs.declared.fact.Fact.{Fact}
use Rattle.zapdu.specs.declared.apdu.Apdu.{Apdu}
use Rattle.zapdu.specs.declared.apdu.Apdu.TheVariants as apdus
use Rattle.zorigin.specs.declared.settings.Settings.{Settings}
use Rattle.zorigin.specs.declared.answer.What.{What}
use Rattle.zorigin.specs.declared.answer.What.TheVariants as what
use Rattle.zorigin.specs.declared.answer.Answer.{Answer}
use Rattle.zorigin_facts.specs.Facts.{facts_by, facts_of}
use Rattle.zoom_pool.specs.Links.{Links}
use Rattle.zoom_pool.specs.History.{History, accepted, After}
use Rattle.zoom_pool.specs.Laws.{plain, plain_answer, AreAmong, AreSameAccepted, OrderLaw}
use Rattle.zoom_pool.proofs.Pools.{known_exactly}

-- facts do not depend on the reference id
facts_plain : (target set : ℕ) (w : What) (reply : Apdu) → facts_by target set w reply
    ≡ facts_by target set w (plain reply)
facts_plain target set what.Init (apdus.InitRequest v) = refl
facts_plain target set what.Init (apdus.InitResponse v) = refl
facts_plain target set what.Init (apdus.SearchRequest v) = refl
facts_plain target set what.Init (apdus.SearchResponse v) = refl
facts_plain target set what.Init (apdus.PresentRequest v) = refl
facts_plain target set what.Init (apdus.PresentResponse v) = refl
facts_plain target set what.Init (apdus.Close v) = refl
facts_plain target set what.Search (apdus.InitRequest v) = refl
facts_plain target set what.Search (apdus.InitResponse v) = refl
facts_plain target set what.Search (apdus.SearchRequest v) = refl
facts_plain target set what.Search (apdus.SearchResponse v) = refl
facts_plain target set what.Search (apdus.PresentRequest v) = refl
facts_plain target set what.Search (apdus.PresentResponse v) = refl
facts_plain target set what.Search (apdus.Close v) = refl
facts_plain target set (what.Present ranges) (apdus.InitRequest v) = refl
facts_plain target set (what.Present ranges) (apdus.InitResponse v) = refl
facts_plain target set (what.Present ranges) (apdus.SearchRequest v) = refl
facts_plain target set (what.Present ranges) (apdus.SearchResponse v) = refl
facts_plain target set (what.Present ranges) (apdus.PresentRequest v) = refl
facts_plain target set (what.Present ranges) (apdus.PresentResponse v) = refl
facts_plain target set (what.Present ranges) (apdus.Close v) = refl

facts_as : (target : ℕ) (a b : Answer) → plain_answer a ≡ plain_answer b → facts_of target a ≡ facts_of target b
facts_as target a b e = facts_plain target a.asked.set a.asked.what a.reply ∙ ap (facts_of target) e
    ∙ sym (facts_plain target b.asked.set b.asked.what b.reply)

pub from_answer : (target : ℕ) (xs : List Answer) (q : Fact) → Contains (flat_map (facts_of target) xs) q
    → (a : Answer) × Contains xs a × Contains (facts_of target a) q
from_answer target [] q k = absurd (none_in_nil q k)
from_answer target (x ∷ xs) q k = ⊎_elim (λ h. (x, in_head x xs, h)) (λ h. let r = from_answer target xs q h in
    (r.0, in_tail x xs r.0 r.1, r.2)) (Contains-append_cases (facts_of target x) (flat_map (facts_of target) xs) q k)

pub of_answer : (target : ℕ) (xs : List Answer) (a : Answer) (q : Fact) → Contains xs a
    → Contains (facts_of target a) q → Contains (flat_map (facts_of target) xs) q
of_answer target [] a q h k = absurd (none_in_nil a h)
of_answer target (x ∷ xs) a q h k = ⊎_elim
    (λ same. Contains-append_left (facts_of target x) (flat_map (facts_of target) xs) q
    (subst (λ z. Contains (facts_of target z) q) (sym same) k))
    (λ later. Contains-append_right (facts_of target x) (flat_map (facts_of target) xs) q
    (of_answer target xs a q later k))
    (in_cons x xs a h)

among : (target : ℕ) (xs ys : List Answer) (q : Fact) → AreAmong xs ys → Contains (flat_map (facts_of target) xs) q
    → Contains (flat_map (facts_of target) ys) q
among target xs ys q m k =
    let a = from_answer target xs q k in
    let b = m a.0 a.1 in
    of_answer target ys b.0 q b.1 (subst (λ z. Contains z q) (facts_as target a.0 b.0 b.2) a.2)

same_knowledge : (settings others : Settings) (h1 h2 : History) (p1 p2 : Links) (a : After settings h1 p1)
    (b : After others h2 p2) → AreSameAccepted a.transcript b.transcript → p1.knowledge ≡ p2.knowledge
same_knowledge settings others h1 h2 p1 p2 a b same = same_facts p1.knowledge p2.knowledge a.lawful b.lawful (λ q. (
  λ k. (let known = (known_exactly settings h1 p1 a q).0 k in (known_exactly others h2 p2 b q).1 (
    known.0,
    among known.0 (accepted (a.transcript known.0)) (accepted (b.transcript known.0)) q (same known.0).0 known.1,
  )),
  λ k. (let known = (known_exactly others h2 p2 b q).0 k in (known_exactly settings h1 p1 a q).1 (
    known.0,
    among known.0 (accepted (b.transcript known.0)) (accepted (a.transcript known.0)) q (same known.0).1 known.1,
  )),
))

pub order_free : OrderLaw
order_free settings others g h one other a b same =
    let known = same_knowledge settings others g h one other a b same in
    record { known = known; printed = λ names mode. ap (listing names mode) known }
