use Rattle.std.proofs.Common.{◌∙◌, sym, ap, subst, ◌∷◌, ◌++◌, [], ℕ, List, false, append_assoc}
use Rattle.zquery.specs.Notation.Tokens.{AllAre, is_white}
use Rattle.zquery.proofs.NotationTheory.TokenLists.{all-append}
use Rattle.zquery.proofs.notation.lexer.word_text.Goals as goal

pub loop-octet-preserved : goal.loop-octet-preserved
loop-octet-preserved c =
    let text : List ℕ = c.loop-octet.text.items in
    let more = c.in_ok-push.ensures.items in
    record {
      whole = c.loop-octet.invariant.whole ∙ ap (λ (z : List ℕ). text ++ z) c.in-Some.ensures.some ∙ sym (append_assoc text (c.in-Some.octet ∷ []) c.in-Some.after.now)
          ∙ ap (λ (z : List ℕ). z ++ c.in-Some.after.now) (sym more);
      word = subst (λ (z : List ℕ). AllAre is_white false z) (sym more) (all-append false text c.in-Some.octet c.loop-octet.invariant.word (sym c.is_space.ensures ∙ c.if-is_space.false));
    }
