use Rattle.std.proofs.Common.{◌≡◌, ◌+◌, take, ap, ◌∙◌, arith, length, vec_len, rules}
use Rattle.zapdu.proofs.PlainFronts.{front_whole}
use Rattle.zapdu.proofs.text.put_front.Goals as goal

pub returns-clause-whole : goal.returns-clause-whole
returns-clause-whole c =
    let same : vec_len c.args.out.now ≡ length c.args.out.now.items = search rules in
    front_whole c.args.out.now.items c.args.block.now c.extend_from_slice.new.self.items c.truncate.new.self.items c.put_octet.new.out.items
    c.plain_in-front.result (omega arith) c.in_ok-extend_from_slice.ensures.items
    (c.truncate.ensures.items ∙ ap (λ n. take (n + c.plain_in-front.result) c.extend_from_slice.new.self.items) (c.len-before.ensures ∙ same))
    c.in_ok-put_octet.ensures c.plain_in-front.ensures.plain
