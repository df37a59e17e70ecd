use Rattle.std.proofs.Common.{◌≡◌, ℕ, length, drop, refl, ap, ◌∙◌, arith}
use Rattle.zknow_merge.proofs.ReadTheory.{head_read, head_refused, further_head}
use Rattle.zknow_merge.proofs.source.Source.take_head.Goals as goal

pub returns-then-not-is_above-clause-step : goal.returns-then-not-is_above-clause-step
returns-then-not-is_above-clause-step c = λ merged i r.
    head_refused merged i c.args.self.now c.requires.merged c.requires.some c.args.head c.requires.head.0 c.requires.head.1 c.requires.named r
    (λ facts last sorted more. let a = (c.is_above.ensures facts c.requires.head.0 last c.requires.head.1.head.key sorted).1 more in let b = c.if-not-is_above.true in absurd cc)

pub returns-clause-step : goal.returns-clause-step
returns-clause-step c = λ merged i r.
    let ok = c.args.head.element.ok in
    let size : c.len.result ≡ length c.args.head.element.items = omega (arith, ok, c.len.ensures) in
    head_read merged i c.args.self.now c.requires.merged c.requires.some c.args.head c.requires.head.0 c.requires.head.1 c.requires.named r
    _ (record {
      octets = c.advance.ensures.items ∙ ap (λ (n : ℕ). drop n c.args.self.now.octets.items) size;
      ended = refl;
      names = λ names h. h;
      last = refl;
      waiting = refl;
      count = refl;
    })
    (λ facts last sorted. (c.is_above.ensures facts c.requires.head.0 last c.requires.head.1.head.key sorted).0 c.if-not-is_above.false)

pub returns-clause-further : goal.returns-clause-further
returns-clause-further c = λ _.
    let ok = c.args.head.element.ok in
    let size : c.len.result ≡ length c.args.head.element.items = omega (arith, ok, c.len.ensures) in
    further_head c.args.self.now c.args.head c.requires.head.0 c.advance.new.self.items c.requires.merged c.requires.head.1
    (c.advance.ensures.items ∙ ap (λ (n : ℕ). drop n c.args.self.now.octets.items) size)
