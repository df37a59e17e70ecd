-- The kinds of APDUs, each with its table.
use Rattle.std.proofs.Common.{◌≡◌, List, [], ◌∷◌, ◌++◌, Some, Result, Ok, Err, Bool, true, false, cond, refl, sym, ap, subst, ◌∙◌}
use Rattle.zber.specs.AsnTags.{AsnTag}
use Rattle.zber.specs.Elements.{Element}
use Rattle.zber.specs.Tags.{same_tag}
use Rattle.zasn.specs.Reading.{◌>>=◌}
use Rattle.zasn.specs.Laws.{IsMisfit, IsExact}
use Rattle.zasn_tables.proofs.Readings.{same_tag-true}
use Rattle.zasn_tables.proofs.Tables.{elements_exact}
use Rattle.zapdu.specs.declared.apdu.Apdu.{Apdu}
use Rattle.zapdu.specs.declared.apdu.Apdu.TheVariants as apdus
use Rattle.zapdu.specs.declared.apdu.Kind.{Kind}
use Rattle.zapdu.specs.declared.apdu.Kind.TheVariants as kinds
use Rattle.zapdu.specs.Writes.{kind_of, tag_of_kind, AreApduParts, kind_at, kind_among, kinds_in_order, apdu_at}
use Rattle.zapdu.specs.Productions.InitRequests.{init_request_parts}
use Rattle.zapdu.specs.Productions.InitResponses.{init_response_parts}
use Rattle.zapdu.specs.Productions.SearchRequests.{search_request_parts}
use Rattle.zapdu.specs.Productions.SearchResponses.{search_response_parts}
use Rattle.zapdu.specs.Productions.PresentRequests.{present_request_parts}
use Rattle.zapdu.specs.Productions.PresentResponses.{present_response_parts}
use Rattle.zapdu.specs.Productions.Closes.{close_parts}

abbrev pub AreKindParts : Kind → Apdu → List Element → Type 0
AreKindParts kind v ns = (kind_of v ≡ kind) × AreApduParts v ns

abbrev ok : {V : Type 0} → V → Result V (List Element)
ok v = Ok v

ok_is : {V : Type 0} (x y : V) → ok x ≡ ok y → x ≡ y
ok_is x y e = cc

abbrev err : {V : Type 0} → List Element → Result V (List Element)
err r = Err r

err_is : {V : Type 0} (x y : List Element) → err {V = V} x ≡ err y → x ≡ y
err_is x y e = cc

module _ {V : Type 0} (kind : Kind) (wrap : V → Apdu) (is_kind : (v : V) → kind_of (wrap v) ≡ kind) (back : (a : Apdu) → kind_of a ≡ kind → (v : V) × (wrap v ≡ a))
    (walk : List Element → Result V (List Element)) (read : IsExact (λ v. AreApduParts (wrap v)) walk) where
  reads_wrapped : (ns : List Element) (a : Apdu) (r : Result V (List Element)) → walk ns ≡ r → (r >>= λ v. ok (wrap v)) ≡ Ok a → AreKindParts kind a ns
  reads_wrapped ns a (Ok v) e f = subst (λ (b : Apdu). AreKindParts kind b ns) (ok_is (wrap v) a f) (is_kind v, read.reads ns v e)
  reads_wrapped ns a (Err r) e f = absurd cc

  unwrapped : (a : Apdu) (ns : List Element) → AreKindParts kind a ns → (v : V) × (wrap v ≡ a) × AreApduParts (wrap v) ns
  unwrapped a ns h = let b = back a h.0 in (b.0, b.1, subst (λ (c : Apdu). AreApduParts c ns) (sym b.1) h.1)

  finds_wrapped : (ns : List Element) (a : Apdu) → AreKindParts kind a ns → (walk ns >>= λ v. ok (wrap v)) ≡ Ok a
  finds_wrapped ns a h = let b = unwrapped a ns h in rw (read.finds ns b.0 b.2) (ap (λ (c : Apdu). ok c) b.1)

  fails_wrapped : (ns s : List Element) (r : Result V (List Element)) → walk ns ≡ r → (r >>= λ v. ok (wrap v)) ≡ Err s → IsMisfit (AreKindParts kind) ns s
  fails_wrapped ns s (Ok v) e f = absurd cc
  fails_wrapped ns s (Err r) e f =
      let m = read.fails ns s (e ∙ ap (λ (t : List Element). err t) (err_is {V = Apdu} r s f)) in
      record {
        front = m.front;
        parts = m.parts;
        goes = (wrap m.goes.0, m.goes.1, (is_kind m.goes.0, m.goes.2));
        stops = λ n after g a more h. let b = unwrapped a (m.front ++ n ∷ more) h in m.stops n after g b.0 more b.2;
      }

  pub wrapped_exact : IsExact (AreKindParts kind) (λ ns. walk ns >>= λ v. ok (wrap v))
  wrapped_exact = record {
    reads = λ ns a e. reads_wrapped ns a (walk ns) refl e;
    finds = finds_wrapped;
    fails = λ ns s e. fails_wrapped ns s (walk ns) refl e;
  }

abbrev kind_cases : Kind → Apdu → Type 0
kind_cases kinds.InitRequest a = (v : _) × (apdus.InitRequest v ≡ a)
kind_cases kinds.InitResponse a = (v : _) × (apdus.InitResponse v ≡ a)
kind_cases kinds.SearchRequest a = (v : _) × (apdus.SearchRequest v ≡ a)
kind_cases kinds.SearchResponse a = (v : _) × (apdus.SearchResponse v ≡ a)
kind_cases kinds.PresentRequest a = (v : _) × (apdus.PresentRequest v ≡ a)
kind_cases kinds.PresentResponse a = (v : _) × (apdus.PresentResponse v ≡ a)
kind_cases kinds.Close a = (v : _) × (apdus.Close v ≡ a)

back : (kind : Kind) (a : Apdu) → kind_of a ≡ kind → kind_cases kind a
back kinds.InitRequest (apdus.InitRequest v) e = (v, refl)
back kinds.InitResponse (apdus.InitResponse v) e = (v, refl)
back kinds.SearchRequest (apdus.SearchRequest v) e = (v, refl)
back kinds.SearchResponse (apdus.SearchResponse v) e = (v, refl)
back kinds.PresentRequest (apdus.PresentRequest v) e = (v, refl)
back kinds.PresentResponse (apdus.PresentResponse v) e = (v, refl)
back kinds.Close (apdus.Close v) e = (v, refl)
back kind a e = absurd cc

-- reading the elements of a kind is exact, with the misfit
pub apdu_exact : (kind : Kind) → IsExact (AreKindParts kind) (apdu_at kind)
apdu_exact kinds.InitRequest = wrapped_exact kinds.InitRequest apdus.InitRequest (λ v. refl) (back kinds.InitRequest) _ (elements_exact init_request_parts)
apdu_exact kinds.InitResponse = wrapped_exact kinds.InitResponse apdus.InitResponse (λ v. refl) (back kinds.InitResponse) _ (elements_exact init_response_parts)
apdu_exact kinds.SearchRequest = wrapped_exact kinds.SearchRequest apdus.SearchRequest (λ v. refl) (back kinds.SearchRequest) _ (elements_exact search_request_parts)
apdu_exact kinds.SearchResponse = wrapped_exact kinds.SearchResponse apdus.SearchResponse (λ v. refl) (back kinds.SearchResponse) _ (elements_exact search_response_parts)
apdu_exact kinds.PresentRequest = wrapped_exact kinds.PresentRequest apdus.PresentRequest (λ v. refl) (back kinds.PresentRequest) _ (elements_exact present_request_parts)
apdu_exact kinds.PresentResponse = wrapped_exact kinds.PresentResponse apdus.PresentResponse (λ v. refl) (back kinds.PresentResponse) _ (elements_exact present_response_parts)
apdu_exact kinds.Close = wrapped_exact kinds.Close apdus.Close (λ v. refl) (back kinds.Close) _ (elements_exact close_parts)

pub kind_at-tag_of_kind : (kind : Kind) → kind_at (tag_of_kind kind) ≡ Some kind
kind_at-tag_of_kind kinds.InitRequest = refl
kind_at-tag_of_kind kinds.InitResponse = refl
kind_at-tag_of_kind kinds.SearchRequest = refl
kind_at-tag_of_kind kinds.SearchResponse = refl
kind_at-tag_of_kind kinds.PresentRequest = refl
kind_at-tag_of_kind kinds.PresentResponse = refl
kind_at-tag_of_kind kinds.Close = refl

tag_turn : (t : AsnTag) (kind k : Kind) (ks : List Kind) (b : Bool) → (kind_among t ks ≡ Some kind → t ≡ tag_of_kind kind) → same_tag t (tag_of_kind k) ≡ b → cond b (Some k) (kind_among t ks) ≡ Some kind → t ≡ tag_of_kind kind
tag_turn t kind k ks true later p f = let same : k ≡ kind = cc in same_tag-true t (tag_of_kind k) p ∙ ap tag_of_kind same
tag_turn t kind k ks false later p f = later f

tag_among : (t : AsnTag) (kind : Kind) (ks : List Kind) → kind_among t ks ≡ Some kind → t ≡ tag_of_kind kind
tag_among t kind [] e = absurd cc
tag_among t kind (k ∷ ks) e = tag_turn t kind k ks (same_tag t (tag_of_kind k)) (tag_among t kind ks) refl e

pub tag_from_kind : (t : AsnTag) (kind : Kind) → kind_at t ≡ Some kind → t ≡ tag_of_kind kind
tag_from_kind t kind e = tag_among t kind kinds_in_order e
