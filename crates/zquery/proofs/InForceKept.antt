-- Where no two attributes are alike, all are in force as they are.
use Rattle.std.proofs.Common.{◌≡◌, refl, sym, ◌∙◌, ap, List, [], ◌∷◌, ◌++◌, false, ◌||◌, append_assoc, append-nil, subst}
use Rattle.std.specs.List.{list_any}
use Rattle.std.proofs.lemmas.Bool.{or_parts, or_from, cond-false}
use Rattle.zquery_rpn.specs.declared.query.Attr.{Attr}
use Rattle.zquery.specs.InForce.{alike, in_force}
use Rattle.zquery.specs.Notation.Reading.{put_in}
use Rattle.zquery.proofs.InForceLemmas.{Apart, put-law}

none-alike : (done more : List Attr) (a : Attr) → Apart (done ++ a ∷ more) → list_any (λ b. alike b a) done ≡ false
none-alike [] more a h = refl
none-alike (d ∷ done) more a h = or_from _ _ (first done (or-behind done h.0)) (none-alike done more a h.1) where
  or-behind : (xs : List Attr) → list_any (alike d) (xs ++ a ∷ more) ≡ false → (alike d a || list_any (alike d) more) ≡ false
  or-behind [] e = e
  or-behind (x ∷ xs) e = or-behind xs (or_parts (alike d x) (list_any (alike d) (xs ++ a ∷ more)) e).1

  first : (xs : List Attr) → (alike d a || list_any (alike d) more) ≡ false → alike d a ≡ false
  first xs e = (or_parts (alike d a) (list_any (alike d) more) e).0

put-last : (done : List Attr) (a : Attr) → list_any (λ b. alike b a) done ≡ false → put_in done a ≡ done ++ a ∷ []
put-last [] a h = refl
put-last (d ∷ done) a h =
    let parts = or_parts (alike d a) (list_any (λ b. alike b a) done) h in
    cond-false _ _ _ parts.0 ∙ ap (λ (zs : List Attr). d ∷ zs) (put-last done a parts.1)

kept-on : (done more : List Attr) → in_force done ≡ done → Apart (done ++ more) → in_force (done ++ more) ≡ done ++ more
kept-on done [] e h = ap in_force (append-nil done) ∙ e ∙ sym (append-nil done)
kept-on done (a ∷ more) e h =
    let one : in_force (done ++ a ∷ []) ≡ done ++ a ∷ [] = put-law done a ∙ ap (λ (zs : List Attr). put_in zs a) e ∙ put-last done a (none-alike done more a h) in
    let whole : (done ++ a ∷ []) ++ more ≡ done ++ a ∷ more = append_assoc done (a ∷ []) more in
    ap in_force (sym whole) ∙ kept-on (done ++ a ∷ []) more one (subst Apart (sym whole) h) ∙ whole

none-kept : in_force [] ≡ []
unfolding in_force
none-kept = refl

pub in_force-kept : (xs : List Attr) → Apart xs → in_force xs ≡ xs
in_force-kept xs h = kept-on [] xs none-kept h
