use Rattle.std.proofs.Common.{◌-◌}
use Rattle.zquery.proofs.notation.parse.+query.Given as goal

abbrev pub decreases-query : goal.decreases-query
decreases-query l = 34 - l.level
