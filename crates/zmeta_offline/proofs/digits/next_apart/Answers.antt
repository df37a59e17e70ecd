use Rattle.std.proofs.Common.{refl}
use Rattle.zmeta_offline.proofs.Reading.{refused_alone, refused_apart}
use Rattle.zmeta_offline.proofs.digits.next_apart.Goals as goal

pub returns-in_default-skip_space-clause-refused : goal.returns-in_default-skip_space-clause-refused
returns-in_default-skip_space-clause-refused c = (
  refl,
  refused_alone c.args.text.now c.skip_space.result.now c.skip_space-2.result.now c.skip_space.ensures.same c.skip_space.ensures.front c.in-len1-up.len_at_least
      c.skip_space-2.ensures.same c.in_default-skip_space.len_below,
)

pub returns-in-None-clause-refused : goal.returns-in-None-clause-refused
returns-in-None-clause-refused c = (
  refl,
  refused_apart c.args.text.now c.skip_space.result.now c.skip_space-2.result.now c.skip_space.ensures.same c.skip_space.ensures.front c.in-len1-up.len_at_least
      c.skip_space-2.ensures.same c.skip_space-2.ensures.front c.in-len1-up-skip_space.len_at_least c.in-None.ensures.none,
)
