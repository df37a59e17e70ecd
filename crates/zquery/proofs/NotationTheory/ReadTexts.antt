-- The query of a text can be printed and spelled.
use Rattle.std.proofs.lemmas.Bool.{and_from, le-leb}
use Rattle.zquery_rpn.specs.Trees.{height}
use Rattle.zquery.specs.Notation.Laws.{PrintableTexts, SpellableTexts}
use Rattle.zquery.proofs.NotationTheory.ReadPlain.{whole-plain}
use Rattle.zquery.proofs.NotationTheory.PlainSpelled.{query-spelled}
use Rattle.zquery_rpn.proofs.ElementTheory.Type1Making.{makes_query}

pub text-printable : PrintableTexts
text-printable text q (ts, are, is) low = and_from _ _ (le-leb (height q.root) 32 low) (whole-plain is.whole q.attr_set q.root is.reads).1.0

pub text-spellable : SpellableTexts
text-spellable text q (ts, are, is) =
    let plain = whole-plain is.whole q.attr_set q.root is.reads in
    let made = query-spelled q plain.0 plain.1.0 plain.1.1 in
    (made.0, makes_query q made.0 made.1)
