use Rattle.std.proofs.Common.{[], Some}
use Rattle.zmeta_args.specs.Texts.{texts_of}
use Rattle.zmeta_offline.proofs.Scanning.{first_is}
use Rattle.zmeta_offline.proofs.scanned.first_of.Goals as goal

pub returns-clause-first : goal.returns-clause-first
returns-clause-first c = λ names behind.
    first_is (texts_of c.args.only.now) names c.args.scan.now c.in-Some.element.now _ c.as_slice.result.now behind
    (c.in-Some.ensures behind.0 (Some (names, [])) behind.1)
    (λ saved. let e = c.in-Ok.ensures.exact names [] saved in (_, e.0, e.1)) c.in_ok-from_slice.ensures.items
    c.as_slice.ensures c.in_ok-chosen.ensures
