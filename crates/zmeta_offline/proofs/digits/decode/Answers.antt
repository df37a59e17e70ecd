use Rattle.std.proofs.Common.{◌≡◌, [], sym, subst, arith}
use Rattle.zmeta_offline.specs.Digits.{digits, HasOctetFirst}
use Rattle.zmeta_offline.proofs.Reading.{IsRead, read_more, read_all}
use Rattle.zmeta_offline.proofs.digits.decode.Goals as goal

pub loop-octets-preserved : goal.loop-octets-preserved
loop-octets-preserved c =
    let before = c.loop-octets in
    let front : HasOctetFirst before.rest.now c.in-Some.next.0 c.in-Some.next.1.now = rw c.in-Some.is at c.in_ok-next.ensures.octet in record {
      read = subst (λ z. IsRead c.args.text.now z c.in-Some.next.1.now) (sym c.push_reserved.ensures.items)
          (read_more c.args.text.now before.octets.items before.rest.now c.in-Some.next.1.now c.in-Some.next.0 before.invariant.read front);
      room = let shorter = front.shorter in omega (arith, shorter, c.push_reserved.ensures.len, c.push_reserved.ensures.capacity, before.invariant.room);
    }

pub returns : goal.returns
returns c =
    let left : digits c.loop-octets.rest.now ≡ [] = rw c.in_default.is at c.in_ok-next.ensures.end in
    read_all c.args.text.now c.loop-octets.octets.items c.loop-octets.rest.now c.loop-octets.invariant.read left
