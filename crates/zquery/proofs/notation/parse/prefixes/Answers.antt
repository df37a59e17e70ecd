use Rattle.std.proofs.Common.{rules, ◌≡◌, sym, drop}
use Rattle.zquery.specs.declared.notation.word.TokenKind.TheVariants.{Attribute, TypeOfTerm}
use Rattle.zquery.specs.Notation.Words.{token_kind}
use Rattle.zquery.proofs.NotationTheory.Leading.{then-attribute, then-kind}
use Rattle.zquery.proofs.notation.parse.prefixes.Goals as goal

pub loop-token-preserved-in-Continue-branch-2 : goal.loop-token-preserved-in-Continue-branch-2
loop-token-preserved-in-Continue-branch-2 c = record {
  leads = λ xs e.
      let w : token_kind c.in-Some.token.now ≡ Attribute = sym c.in-Attribute.ensures in
      then-attribute _ _ _ _ _ _ _ c.in-Some.token.now (drop 1 c.loop-token.cursor) _ c.in_ok-attr-in-Attribute.attr _ _ c.args.end
      (c.loop-token.invariant.leads xs e) c.in-Some.ensures.some c.skip.ensures w c.in_ok-attr-in-Attribute.ensures.read c.in_ok-put-in-Attribute.ensures;
  expected = search rules;
}

pub loop-token-preserved : goal.loop-token-preserved
loop-token-preserved c = record {
  leads = λ xs e.
      let w : token_kind c.in-Some.token.now ≡ TypeOfTerm = sym c.in-TypeOfTerm.ensures in
      then-kind _ _ _ _ _ _ _ c.in-Some.token.now (drop 1 c.loop-token.cursor) _ c.in_ok-kind-in-TypeOfTerm.kind _ c.args.end
      (c.loop-token.invariant.leads xs e) c.in-Some.ensures.some c.skip-in-TypeOfTerm.ensures w c.in_ok-kind-in-TypeOfTerm.ensures.read;
  expected = search rules;
}
