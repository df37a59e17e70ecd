use Rattle.std.proofs.Common.{ap}
use Rattle.zoom_pool.specs.Transcripts.{joined}
use Rattle.zoom_pool.proofs.Served.{at_start}
use Rattle.zoom_pool.proofs.host.Host.new.Goals as goal

pub returns : goal.returns
returns c = record {
  after = at_start c.args.target c.new.result.stream (joined c.new-2.result.items) c.requires
      (ap (λ z. z.stream.octets) c.new.ensures) (ap (λ z. z.stream.limit) c.new.ensures) (ap (λ z. z.stream.fault) c.new.ensures) (ap joined c.new-2.ensures.items);
}
