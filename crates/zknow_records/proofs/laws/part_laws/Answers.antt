use Rattle.zknow_records.proofs.PartTheory.{octets_in_parts, left_in_parts}
use Rattle.zknow_records.proofs.laws.part_laws.Goals as goal

pub returns : goal.returns
returns c = λ asked conflicts low high all. record {
  octets = octets_in_parts asked conflicts low high all;
  left = left_in_parts asked conflicts low high all;
}
