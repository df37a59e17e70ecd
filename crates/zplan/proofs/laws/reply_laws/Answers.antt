use Rattle.zplan.proofs.Order.{asked_after, new_asked}
use Rattle.zplan.proofs.laws.reply_laws.Goals as goal

pub returns : goal.returns
returns c = record {
  only = λ wanted step events d a r s none b h. asked_after wanted step events d a r b s none h;
  all = λ wanted step events d a r s none b h. new_asked wanted step events d a r b s none h;
}
