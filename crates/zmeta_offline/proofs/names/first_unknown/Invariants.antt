use Rattle.zmeta_args.specs.Texts.{texts_of}
use Rattle.zmeta_offline.specs.Names.{AreKnown}
use Rattle.zmeta_offline.proofs.names.first_unknown.Given as goal

abbrev pub invariant-loop-text : goal.invariant-loop-text
invariant-loop-text l = AreKnown (texts_of l.only) l.names l.text-index
