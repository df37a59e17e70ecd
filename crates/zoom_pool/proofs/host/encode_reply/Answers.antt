use Rattle.std.proofs.Common.{◌≡◌, ◌++◌, Some, Err, sym, ap, subst, ◌∙◌, rules}
use Rattle.zber.specs.Canonical.{canonical}
use Rattle.zber.specs.Spelling.{HasFirstMessage}
use Rattle.zapdu.specs.Writes.{apdu_spelling}
use Rattle.zoom_pool.proofs.Hosts.{encoding_is, short_is, long_is}
use Rattle.zoom_pool.proofs.host.encode_reply.Goals as goal

pub returns-in-Ok-encode : goal.returns-in-Ok-encode
returns-in-Ok-encode c =
    let built : apdu_spelling c.args.reply.now ≡ Some c.in-Ok.node = c.in-Ok.ensures.exact in
    let octets : c.in_ok-from_vec-in-Ok-encode.field-0 ≡ canonical c.in-Ok.node = search rules in (
      octets ∙ sym (encoding_is c.args.reply.now c.in-Ok.node built),
      short_is c.args.reply.now c.in-Ok.node c.requires built (λ fine. let other = c.in-Ok-encode.ensures.too_long.1 fine in cc),
      record {
        element = c.in-Ok.node;
        made = built;
        stands = c.in-Ok.ensures.written;
        framed = λ more. subst (λ z. HasFirstMessage 2097152 (z ++ more) c.in-Ok.node more)
            (sym (encoding_is c.args.reply.now c.in-Ok.node built)) (c.in-Ok-encode.ensures.framed more);
      },
    )

pub returns-in-TooLong : goal.returns-in-TooLong
returns-in-TooLong c =
    let built : apdu_spelling c.args.reply.now ≡ Some c.in-Ok.node = c.in-Ok.ensures.exact in
    let both = c.encode.ensures.too_long.0 (c.in-Err-encode.is ∙ ap (λ e. Err e) c.in-TooLong.is) in
    long_is c.args.reply.now c.in-Ok.node built both.1
