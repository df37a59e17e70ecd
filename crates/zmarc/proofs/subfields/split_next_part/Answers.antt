use Rattle.std.proofs.Common.{◌≡◌, ◌+◌, ◌-◌, List, ℕ, length, take, drop, sym, ap, ◌∙◌, rules, tests, arith}
use Rattle.std.specs.List.{position}
use Rattle.std.proofs.lemmas.Iterator.{YieldsList-from_slice}
use Rattle.std.proofs.lemmas.Iterator.Search.{position_from_yields_List}
use Rattle.std.proofs.lemmas.List.{length-drop}
use Rattle.zmarc.specs.Subfields.{is_delimiter}
use Rattle.zmarc.proofs.Cuts.{to_end, place_found}
use Rattle.zmarc.proofs.SubfieldTheory.{parts_none, parts_next, parts_last}
use Rattle.zmarc.proofs.subfields.split_next_part.Goals as goal

pub returns-in_err-at : goal.returns-in_err-at
returns-in_err-at c =
    let xs = c.args.field.now in
    let found : c.position.result ≡ position is_delimiter xs =
    position_from_yields_List is_delimiter _ _ _ c.position.ensures.ran (YieldsList-from_slice xs cc)
    (λ x b q k. search (rules, tests)) in
    let none = parts_none xs (sym found ∙ c.in_err-at.was) in
    rw c.from_residual.ensures none

pub returns-in-Some : goal.returns-in-Some
returns-in-Some c =
    let xs = c.args.field.now in
    let at = c.in_ok-at.at in
    let behind : List ℕ = take (length xs - (at + 1)) (drop (at + 1) xs) in
    let found : c.position.result ≡ position is_delimiter xs =
    position_from_yields_List is_delimiter _ _ _ c.position.ensures.ran (YieldsList-from_slice xs cc)
    (λ x b q k. search (rules, tests)) in
    let then : c.position-2.result ≡ position is_delimiter behind =
    position_from_yields_List is_delimiter _ _ _ c.position-2.ensures.ran (YieldsList-from_slice behind cc)
    (λ x b q k. search (rules, tests)) in
    let here = sym found ∙ c.in_ok-at.was in
    let next = parts_next xs behind at c.in-Some.end here (to_end xs (at + 1)) (sym then ∙ c.in-Some.is) in
    let place = place_found is_delimiter xs at here in
    let shorter = ap length (to_end xs (at + 1)) in
    (next ∙ cc, omega (arith, shorter, length-drop (at + 1) xs, place.0, place.1, c.split_at.ensures.back_len))

pub returns-in-None : goal.returns-in-None
returns-in-None c =
    let xs = c.args.field.now in
    let at = c.in_ok-at.at in
    let behind : List ℕ = take (length xs - (at + 1)) (drop (at + 1) xs) in
    let found : c.position.result ≡ position is_delimiter xs =
    position_from_yields_List is_delimiter _ _ _ c.position.ensures.ran (YieldsList-from_slice xs cc)
    (λ x b q k. search (rules, tests)) in
    let then : c.position-2.result ≡ position is_delimiter behind =
    position_from_yields_List is_delimiter _ _ _ c.position-2.ensures.ran (YieldsList-from_slice behind cc)
    (λ x b q k. search (rules, tests)) in
    let here = sym found ∙ c.in_ok-at.was in
    let place = place_found is_delimiter xs at here in
    (parts_last xs behind at here (to_end xs (at + 1)) (sym then ∙ c.in-None.is), omega (arith, place.0, place.1))
