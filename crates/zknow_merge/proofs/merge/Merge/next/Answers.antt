use Rattle.std.proofs.Common.{Option, ℕ, length, sym, subst}
use Rattle.std.specs.Prelude.{IfNone}
use Rattle.zknow_merge.specs.Sources.{AreSettled, IsLeastOf}
use Rattle.zknow_merge.specs.Merges.{IsMerge}
use Rattle.zknow_merge.proofs.SourceTheory.{err_any}
use Rattle.zknow_merge.proofs.NextTheory.{still, still_read, handed_again, least_of}
use Rattle.zknow_merge.proofs.merge.Merge.next.Goals as goal

pub returns-in-Some-clause-ok : goal.returns-in-Some-clause-ok
returns-in-Some-clause-ok c = still_read c.read.result c.args.self.now c.read.new.self c.args.out.now.items c.read.ensures.ok

pub returns-in_err-merge-in-Some-least-clause-err : goal.returns-in_err-merge-in-Some-least-clause-err
returns-in_err-merge-in-Some-least-clause-err c = err_any c.from_residual-in_err-merge-in-Some-least.result
    (λ inputs written was. subst (IsMerge inputs written) (sym c.in_err-merge-in-Some-least.ensures.err) was)

pub returns-in_ok-merge-in-Some-least-clause-ok : goal.returns-in_ok-merge-in-Some-least-clause-ok
returns-in_ok-merge-in-Some-least-clause-ok c = λ inputs written was.
    let m = c.args.self.now in
    let none = subst (λ (o : Option ℕ). IfNone o (AreSettled c.deref.result.now)) c.in_default.is c.first_wanting.ensures.none in
    let settled = subst AreSettled c.deref.ensures.value none in
    let least = subst (IsLeastOf m.sources.items (length m.sources.items)) c.in-Some-least.is
    (least_of inputs written m was c.deref-2.result.now c.deref-2.ensures.value c.least.result c.least.ensures.least) in
    handed_again inputs written _ _ _ (c.in_ok-merge-in-Some-least.ensures.ok inputs written was settled c.if-not-self.false least)

pub returns-in-None-clause-ok : goal.returns-in-None-clause-ok
returns-in-None-clause-ok c = λ inputs written was.
    let m = c.args.self.now in
    let none = subst (λ (o : Option ℕ). IfNone o (AreSettled c.deref.result.now)) c.in_default.is c.first_wanting.ensures.none in
    let settled = subst AreSettled c.deref.ensures.value none in
    let quiet = subst (IsLeastOf m.sources.items (length m.sources.items)) c.in-None.is
    (least_of inputs written m was c.deref-2.result.now c.deref-2.ensures.value c.least.result c.least.ensures.least) in
    still inputs written _ _ _ was (c.outcome.ensures.ended inputs written was settled c.if-not-self.false quiet)
