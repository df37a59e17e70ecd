use Rattle.std.proofs.Common.{◌++◌, refl, ap, ◌∙◌}
use Rattle.zknow.specs.List.Listing.{listing}
use Rattle.zoom_sim.proofs.RunCatalogue.{printed}
use Rattle.zoom_sim.proofs.run.run_world.Goals as goal

pub returns-clause-whole : goal.returns-clause-whole
returns-clause-whole c = c.in_ok-meta.ensures.whole refl

pub returns-clause-brings : goal.returns-clause-brings
returns-clause-brings c = c.in_ok-meta.ensures.brings refl

pub returns-clause-brings_list : goal.returns-clause-brings_list
returns-clause-brings_list c = λ a.
    let list = c.in_ok-print_list.ensures.ok
    ∙ ap (λ z. c.args.out.now.items ++ listing c.args.names.now c.args.mode z) c.knowledge.ensures in
    printed c.args.questions.items c.args.targets.items c.in_ok-meta.meta c.args.names.now c.args.mode
    c.args.out.now.items c.print_list.new.out.items ((c.in_ok-meta.ensures.brings refl).all a) list
