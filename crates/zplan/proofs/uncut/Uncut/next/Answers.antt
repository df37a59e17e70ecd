use Rattle.std.proofs.Common.{◌<◌, [], ◌∷◌, ◌++◌, length, refl, ap, ◌∙◌, subst, arith}
use Rattle.std.proofs.lemmas.Bool.Decides.{nat_tests}
use Rattle.zplan.specs.Cutting.{IsNextList, IsNextRun}
use Rattle.zplan.proofs.Uncuts.{list_cut, run_cut}
use Rattle.zplan.proofs.uncut.Uncut.next.Goals as goal

pub returns-then-self : goal.returns-then-self
returns-then-self c =
    let ok = c.in_ok-list.list.ok in let a = c.is_empty.ensures in let b = c.if-is_empty.false in
    let some : 0 < length c.in_ok-list.list.items = grind (arith, nat_tests, ok) in
    list_cut c.args.self.now _ c.requires c.if-self.true some refl
    (subst (λ r. IsNextList r c.args.self.now.place c.args.self.now.step c.in_ok-list.list.items c.in_ok-list.place) c.deref.ensures.value c.in_ok-list.ensures)

pub returns-in_ok-push-in-Some : goal.returns-in_ok-push-in-Some
returns-in_ok-push-in-Some c =
    run_cut c.args.self.now _ c.in-Some.run' c.requires c.if-self.false
    (subst (λ r. IsNextRun r c.args.self.now.place c.args.self.now.room c.args.self.now.step c.in-Some.run') c.deref-2.ensures.value c.in-Some.ensures.some)
    (c.in_ok-push-in-Some.ensures.items ∙ ap (λ l. l ++ c.in-Some.run'.range ∷ []) c.new-list.ensures.items) refl refl
