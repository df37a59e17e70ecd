use Rattle.std.proofs.Common.{◌≡◌, ◌∙◌, sym, ap, refl, Bool, true, false, ◌&&◌, not, List, [], ◌∷◌, ◌++◌, ◌+◌, ◌-◌, length, take, arith, append_assoc}
use Rattle.std.proofs.Math.Seq.{take-length}
use Rattle.std.proofs.lemmas.List.{take_more}
use Rattle.std.specs.List.{list_any}
use Rattle.zquery_rpn.specs.declared.query.Attr.{Attr}
use Rattle.zquery.specs.InForce.{alike}
use Rattle.zquery.specs.Notation.Printing.{plain_attr, plain_attrs}
use Rattle.zquery.proofs.NotationTheory.ApartLemmas.{not_plain}
use Rattle.zquery.proofs.notation.printable.are_plain.Goals as goal
use Rattle.zquery.proofs.notation.printable.are_plain.Goals.{then-not-is_plain-via-then-not-is_plain, then-not-is_plain-via-else-not-is_plain+in_ok-put_apart+then-not-branch}

no_and : (b : Bool) → (b && false) ≡ false
no_and true = refl
no_and false = refl

-- src/notation/printable.rt:93:13
pub returns-then-not-is_plain-clause-value : goal.returns-then-not-is_plain-clause-value
returns-then-not-is_plain-clause-value c =
    let own = c.args.own.now in
    let a = c.attr-item.result in
    let rest = c.loop-left.invariant.behind in
    let others = list_any (alike a) rest.0 in
    let left : List Attr = c.loop-left.left.now in
    let front : List Attr = take (length left - 1) left in
    let whole : length left - 1 + 1 ≡ length left = omega (arith, c.in-len1-up.len_at_least) in
    let ends : left ≡ front ++ a ∷ [] =
    sym (take-length left) ∙ ap (λ n. take n left) (sym whole)
    ∙ take_more left (length left - 1) a (omega (arith, c.in-len1-up.len_at_least))
    ∙ ap (λ x. front ++ x ∷ []) (sym c.attr-item.is) in
    let cut : c.args.attrs.now ≡ front ++ (a ∷ rest.0) = rest.1 ∙ ap (λ l. l ++ rest.0) ends ∙ append_assoc front (a ∷ []) rest.0 in
    let last : plain_attrs own (a ∷ rest.0) ≡ false = elim c.then-not-is_plain.branch [
      | then-not-is_plain-via-then-not-is_plain w ↦
          ap (λ b. b && (not others && plain_attrs own rest.0)) (sym c.is_plain.ensures.value ∙ w.if-not-is_plain.true)
      | then-not-is_plain-via-else-not-is_plain+in_ok-put_apart+then-not-branch w ↦
          ap (λ b. plain_attr own a && (b && plain_attrs own rest.0))
          (sym (w.in_ok-put_apart.ensures.apart rest.0 rest.2) ∙ w.if-not-branch.true)
          ∙ no_and (plain_attr own a)
    ] in
    sym (ap (plain_attrs own) cut ∙ not_plain own front (a ∷ rest.0) last)
