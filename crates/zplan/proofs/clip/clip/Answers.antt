use Rattle.zplan.proofs.Clips.{bounded_at}
use Rattle.zplan.proofs.clip.clip.Goals as goal

pub span_of-span-requires : goal.span_of-span-requires
span_of-span-requires c = bounded_at c.args.wanted.now c.loop-i.i _ c.requires c.loop-i-test.true
