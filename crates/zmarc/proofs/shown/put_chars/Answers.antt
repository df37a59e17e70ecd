use Rattle.std.proofs.Common.{rules, ◌∙◌}
use Rattle.zmarc.proofs.ShownTheory.{may_cut, cut_back}
use Rattle.zmarc.proofs.shown.put_chars.Goals as goal

pub truncate-requires : goal.truncate-requires
truncate-requires c =
    let e = c.in-Err.ensures.err in
    let at = may_cut _ _ _ c.len-len.result e.1 (c.len-len.ensures ∙ search rules) in λ _. (at.0, λ _. at.1)

pub returns-in-Err-clause-err : goal.returns-in-Err-clause-err
returns-in-Err-clause-err c =
    let e = c.in-Err.ensures.err in
    c.truncate.ensures.bytes ∙ cut_back _ _ _ c.len-len.result e.1 (c.len-len.ensures ∙ search rules)
