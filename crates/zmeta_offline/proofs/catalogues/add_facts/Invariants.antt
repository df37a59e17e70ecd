use Rattle.zmeta_offline.specs.Catalogues.{is_of_chosen}
use Rattle.zmeta_args.specs.Texts.{texts_of}
use Rattle.zmeta_offline.proofs.Picking.{ArePicked}
use Rattle.zmeta_offline.proofs.catalogues.add_facts.Given as goal

abbrev pub invariant-loop-fact : goal.invariant-loop-fact
invariant-loop-fact l = ArePicked (is_of_chosen (texts_of l.only) l.names) l.facts l.fact-index l.chosen
