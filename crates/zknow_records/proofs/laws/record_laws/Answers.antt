use Rattle.zknow_records.specs.Records.{record_octets, all_taken}
use Rattle.zknow.proofs.ListTheory.Conflicts.{one_text}
use Rattle.zknow_records.proofs.Taking.{members_are, all_counted}
use Rattle.zknow_records.proofs.laws.record_laws.Goals as goal

pub returns : goal.returns
returns c = λ asked conflicts facts. record {
  members = members_are asked conflicts facts;
  octets = one_text record_octets (all_taken asked conflicts facts);
  counted = all_counted (all_taken asked conflicts facts);
}
