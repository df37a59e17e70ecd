use Rattle.std.proofs.Common.{is_lt, rules}
use Rattle.std.proofs.lemmas.List.Sorted.{IsPartitionPoint-from_clause}
use Rattle.zmeta_catalogues.specs.SortedLines.{order_to}
use Rattle.zmeta_catalogues.specs.declared.sorted_lines.Line.{Line}
use Rattle.zmeta_catalogues.proofs.SortedLines.{parted_before}
use Rattle.zmeta_catalogues.proofs.sorted_lines.before.Goals as goal

pub returns : goal.returns
returns c = record {
  point =
      IsPartitionPoint-from_clause (λ (l : Line). is_lt (order_to c.args.name.now l)) c.args.lines.now _
      c.partition_point.ensures.partitioned (parted_before c.args.name.now c.args.lines.now c.requires)
      (λ a r q k. search rules);
}
