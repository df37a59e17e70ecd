use Rattle.std.proofs.Common.{◌≡◌, map, take}
use Rattle.zknow_html.specs.Descriptions.{description_of}
use Rattle.zknow_html.proofs.descriptions.describe_each.Given as goal

abbrev pub invariant-loop-record : goal.invariant-loop-record
invariant-loop-record l = l.found.items ≡ map (description_of l.charset) (take l.record-index l.records)
