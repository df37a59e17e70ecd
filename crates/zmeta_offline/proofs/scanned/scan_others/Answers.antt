use Rattle.std.proofs.Common.{refl, ap, subst, ℕ, List, ◌∷◌, ◌+◌, take}
use Rattle.std.specs.Borrow.{Bor}
use Rattle.std.proofs.lemmas.List.{take_all}
use Rattle.std.proofs.lemmas.Result.{err_from_is_err_and}
use Rattle.zmeta_args.specs.Texts.{texts_of}
use Rattle.zmeta_offline.specs.Join.IsRefusedAmong.{first}
use Rattle.zmeta_offline.specs.Scanned.{IsScannedTo}
use Rattle.zmeta_offline.proofs.Joining.{in_place}
use Rattle.zmeta_offline.proofs.Scanning.{if_err}
use Rattle.zmeta_offline.proofs.ScanningAll.{number_is, scanned_more, other_refused}
use Rattle.zmeta_offline.proofs.scanned.scan_others.Goals as goal

pub loop-path-init : goal.loop-path-init
loop-path-init g c = (refl, λ only path s. s)

pub returns-then-number-clause-err : goal.returns-then-number-clause-err
returns-then-number-clause-err g c = λ only path s. first path (texts_of c.args.others.now) tt

pub returns-in_err-scan_other-clause-err : goal.returns-in_err-scan_other-clause-err
returns-in_err-scan_other-clause-err g c =
    let p = err_from_is_err_and c.from_residual.result c.from_residual.ensures.1 in
    let octets = g.F.Folder.octets c.args.files.now in
    let others = c.args.others.now in
    let i = c.loop-path.path-index in
    let is = in_place others i _ c.loop-path-test.true in
    if_err c.from_residual.result _ p.0 c.in_err-scan_other.field-0.0 p.1 p.2 (λ only path s.
    let h = c.loop-path.invariant.1 only path s in
    other_refused octets only path others c.args.first.now i _ c.loop-path-test.true is c.loop-path.marks
    c.in_err-scan_other.field-0.0 h
    (c.in_err-scan_other.ensures.err only (path ∷ texts_of (take i others))
    (number_is octets only path others c.args.first.now i _ c.loop-path-test.true is c.loop-path.number
    c.loop-path.invariant.0) h))

pub loop-path-preserved : goal.loop-path-preserved
loop-path-preserved g c =
    let octets = g.F.Folder.octets c.args.files.now in
    let others = c.args.others.now in
    let i = c.loop-path.path-index in
    let is = in_place others i _ c.loop-path-test.true in (
      ap (λ (n : ℕ). n + 1) c.loop-path.invariant.0,
      λ only path s.
          let h = c.loop-path.invariant.1 only path s in
          scanned_more octets only path others c.args.first.now i _ c.loop-path-test.true is c.scan_other.new.marks
          (c.in_ok-scan_other.ensures.ok only (path ∷ texts_of (take i others))
          (number_is octets only path others c.args.first.now i _ c.loop-path-test.true is c.loop-path.number
          c.loop-path.invariant.0) h),
    )

pub returns-clause-ok : goal.returns-clause-ok
returns-clause-ok g c = λ only path s.
    subst (λ (l : List (Bor (List ℕ))). IsScannedTo (g.F.Folder.octets c.args.files.now) only (path ∷ texts_of l)
    c.args.first.now c.loop-path.marks)
    (take_all c.loop-path.path-index c.args.others.now c.loop-path-test.false) (c.loop-path.invariant.1 only path s)
