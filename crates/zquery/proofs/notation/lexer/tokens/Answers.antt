use Rattle.std.proofs.Common.{refl, ◌∙◌, sym, ap, ◌∷◌, ℕ, inr}
use Rattle.zquery.specs.Notation.Tokens.{IsUnclosed}
use Rattle.zquery.specs.Notation.Lexing.{QuotedFront}
use Rattle.zquery.proofs.NotationTheory.TokenLists.{lexed-white, lexed-quoted, lexed-word, lexed-open, lexed-all}
use Rattle.zquery.proofs.NotationTheory.Quoting.{not-quote}
use Rattle.zquery.proofs.notation.lexer.tokens.Goals as goal

pub loop-octet-preserved-then-is_space : goal.loop-octet-preserved-then-is_space
loop-octet-preserved-then-is_space c =
    lexed-white _ _ _ c.in-Some.octet _ c.loop-octet.invariant c.in-Some.ensures.some (sym c.is_space.ensures ∙ c.if-is_space.true)

pub returns-in_default-2-clause-err : goal.returns-in_default-2-clause-err
returns-in_default-2-clause-err c =
    let stays : IsUnclosed c.in-Some.after.now = rw c.in_default-2.is at c.in_ok-content.ensures in
    inr (refl, lexed-open _ _ _ c.in-Some.after.now _ c.loop-octet.invariant (c.in-Some.ensures.some ∙ ap (λ (b : ℕ). b ∷ c.in-Some.after.now) c.if-octet-eq34.true) refl stays)

pub loop-octet-preserved-then-octet-eq34 : goal.loop-octet-preserved-then-octet-eq34
loop-octet-preserved-then-octet-eq34 c =
    let closes : QuotedFront c.in-Some.after.now c.in-Some-2.content.items c.in-Some-2.rest.now = rw c.in-Some-2.is at c.in_ok-content.ensures in
    lexed-quoted _ _ _ _ c.in-Some.after.now c.in-Some-2.content.items c.in-Some-2.rest.now c.in_ok-token.field-0 c.loop-octet.invariant
    (c.in-Some.ensures.some ∙ ap (λ (b : ℕ). b ∷ c.in-Some.after.now) c.if-octet-eq34.true) closes c.in_ok-token.ensures.ok c.in_ok-push.ensures.items

pub loop-octet-preserved : goal.loop-octet-preserved
loop-octet-preserved c =
    lexed-word _ _ _ _ c.in-Some.octet c.in-Some.after.now c.in_ok-word.word.items c.in_ok-word.rest.now c.in_ok-token-2.field-0 c.loop-octet.invariant c.in-Some.ensures.some
    (sym c.is_space.ensures ∙ c.if-is_space.false) (not-quote c.in-Some.octet c.if-octet-eq34.false) c.in_ok-word.ensures c.in_ok-token-2.ensures.ok c.in_ok-push-2.ensures.items

pub returns-clause-ok : goal.returns-clause-ok
returns-clause-ok c = lexed-all _ _ _ c.loop-octet.invariant c.in_default.ensures.none
