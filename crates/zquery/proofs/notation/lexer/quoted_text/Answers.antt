use Rattle.std.proofs.Common.{◌∙◌, ap, ◌∷◌, ℕ, List}
use Rattle.zquery.proofs.NotationTheory.Quoting.{quotes-escaped, quotes-plain, neither}
use Rattle.zquery.proofs.notation.lexer.quoted_text.Goals as goal

pub loop-octet-preserved-then-octet-eq92 : goal.loop-octet-preserved-then-octet-eq92
loop-octet-preserved-then-octet-eq92 c =
    quotes-escaped _ _ _ _ c.in-Some-split_first.escaped _ c.loop-octet.invariant
    (c.in-Some.ensures.some ∙ ap (λ (b : ℕ). b ∷ c.in-Some.after.now) c.if-octet-eq92.true ∙ ap (λ (z : List ℕ). 92 ∷ z) c.in-Some-split_first.ensures.some) c.in_ok-push.ensures.items

pub loop-octet-preserved : goal.loop-octet-preserved
loop-octet-preserved c =
    quotes-plain _ _ _ _ c.in-Some.octet _ c.loop-octet.invariant c.in-Some.ensures.some (neither c.in-Some.octet c.if-octet-eq34.false c.if-octet-eq92.false) c.in_ok-push-2.ensures.items
