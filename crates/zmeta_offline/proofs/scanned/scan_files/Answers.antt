use Rattle.std.proofs.Common.{refl, sym, subst, ℕ, List, Err}
use Rattle.std.proofs.lemmas.Result.{err_from_is_err_and}
use Rattle.zmeta_args.specs.Texts.{texts_of}
use Rattle.zmeta_offline.specs.Marked.{ScanFilesResult}
use Rattle.zmeta_offline.specs.declared.scanned.Noting.{Noting}
use Rattle.zmeta_offline.proofs.Joining.{in_place}
use Rattle.zmeta_offline.proofs.ScanningAll.{first_and_others, behind_first, first_fault, scan_fault}
use Rattle.zmeta_offline.proofs.scanned.scan_files.Goals as goal

pub returns-in_err-piece : goal.returns-in_err-piece
returns-in_err-piece g c =
    let p = err_from_is_err_and c.from_residual.result c.from_residual.ensures.1 in
    rw (p.1, p.2) tt

pub returns-in_err-first : goal.returns-in_err-first
returns-in_err-first g c =
    let p = err_from_is_err_and c.from_residual-in_err-first.result c.from_residual-in_err-first.ensures.1 in
    let octets = g.F.Folder.octets c.args.files.now in
    let only = texts_of c.args.only.now in
    let paths = first_and_others c.args.paths.now _ _ _ c.requires (in_place c.args.paths.now 0 _ c.requires) refl in
    let f = c.in_err-first.field-0.0 in
    rw (p.1, p.2) (subst (λ (l : List (List ℕ)). ScanFilesResult octets l only c.args.noting (Err f)) (sym paths)
    (first_fault octets only _ c.args.noting _ f c.in_err-first.ensures.err))

pub returns-in_err-scan_others : goal.returns-in_err-scan_others
returns-in_err-scan_others g c =
    let given = c.from_residual-in_err-scan_others in
    let p = err_from_is_err_and given.result given.ensures.1 in
    let octets = g.F.Folder.octets c.args.files.now in
    let only = texts_of c.args.only.now in
    let paths = first_and_others c.args.paths.now _ _ _ c.requires (in_place c.args.paths.now 0 _ c.requires)
    (behind_first c.args.paths.now) in
    let f = c.in_err-scan_others.field-0.0 in
    rw (p.1, p.2) (subst (λ (l : List (List ℕ)). ScanFilesResult octets l only c.args.noting (Err f)) (sym paths)
    (scan_fault octets only _ c.args.noting f (c.in_err-scan_others.ensures.err only _ c.in_ok-first.ensures.ok)))

pub returns : goal.returns
returns g c =
    let octets = g.F.Folder.octets c.args.files.now in
    let only = texts_of c.args.only.now in
    let paths = first_and_others c.args.paths.now _ _ _ c.requires (in_place c.args.paths.now 0 _ c.requires)
    (behind_first c.args.paths.now) in
    let first = c.in_ok-first.field-0.first in
    subst (λ (n : Noting). ScanFilesResult octets (texts_of c.args.paths.now) only n c.marked_of.result)
    c.in_ok-first.ensures.noting
    (subst (λ (l : List (List ℕ)). ScanFilesResult octets l only first.noting c.marked_of.result) (sym paths)
    (c.marked_of.ensures octets _ _ (c.in_ok-scan_others.ensures.ok only _ c.in_ok-first.ensures.ok)))
