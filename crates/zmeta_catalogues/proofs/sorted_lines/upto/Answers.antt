use Rattle.std.proofs.Common.{is_gt, not, rules}
use Rattle.std.proofs.lemmas.List.Sorted.{IsPartitionPoint-from_clause}
use Rattle.zmeta_catalogues.specs.SortedLines.{order_to}
use Rattle.zmeta_catalogues.specs.declared.sorted_lines.Line.{Line}
use Rattle.zmeta_catalogues.proofs.SortedLines.{parted_upto}
use Rattle.zmeta_catalogues.proofs.sorted_lines.upto.Goals as goal

pub returns-clause-point : goal.returns-clause-point
returns-clause-point c =
    IsPartitionPoint-from_clause (λ (l : Line). not (is_gt (order_to c.args.name.now l))) c.args.lines.now _
    c.partition_point.ensures.partitioned (parted_upto c.args.name.now c.args.lines.now c.requires)
    (λ a r q k. search rules)
