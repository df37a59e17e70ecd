use Rattle.std.proofs.Common.{refl, subst, ℕ, List}
use Rattle.std.proofs.lemmas.Result.{err_from_is_err_and}
use Rattle.zmeta_args.specs.Texts.{texts_of}
use Rattle.zmeta_offline.specs.Names.{AreAllKnown, IsFirstUnknown}
use Rattle.zmeta_offline.proofs.ScanningAll.{no_catalogue, all_marked}
use Rattle.zmeta_offline.proofs.scanned.marked_of.Goals as goal

pub returns-in-Some : goal.returns-in-Some
returns-in-Some c = λ octets path paths s.
    let only = texts_of c.args.only.now in
    no_catalogue octets only path paths c.args.first c.args.marks s c.in-Some.name.now
    (subst (λ (names : List (List ℕ)). IsFirstUnknown only names c.in-Some.name.now) c.as_slice.ensures
    c.in-Some.ensures)

pub returns-in_err-finish-in-None : goal.returns-in_err-finish-in-None
returns-in_err-finish-in-None c = λ octets path paths s.
    let p = err_from_is_err_and c.from_residual.result c.from_residual.ensures.1 in
    rw (p.1, p.2) tt

pub returns : goal.returns
returns c = λ octets path paths s.
    let only = texts_of c.args.only.now in
    all_marked octets only path paths c.args.first c.args.marks s _
    (subst (λ (names : List (List ℕ)). AreAllKnown only names) c.as_slice.ensures c.in-None.ensures) refl refl refl refl
    c.in_ok-finish-in-None.ensures
