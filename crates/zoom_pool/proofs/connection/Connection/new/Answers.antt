use Rattle.std.proofs.Common.{refl, sym, ap, []}
use Rattle.zber.specs.Laws.{nothing}
use Rattle.zoom_pool.proofs.connection.Connection.new.Goals as goal

pub returns : goal.returns
returns c = record {
  transcript = refl;
  matches = record {
    origin = c.new.ensures;
    frames = record {
      rest = [];
      behind = record { messages = []; gave = nothing; count = refl };
      kept = sym (ap (λ z. z.stream.octets) c.new-2.ensures);
      limited = ap (λ z. z.stream.limit) c.new-2.ensures;
      sound = λ g. ap (λ z. z.stream.fault) c.new-2.ensures;
    };
    ended = refl;
    stop = refl;
  };
  waiting = λ lost. rw c.new-3.ensures.items refl;
  reads = tt;
}
