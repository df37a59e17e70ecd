use Rattle.zmeta_offline.proofs.Showing.{fault_next, refused_next}
use Rattle.zmeta_offline.proofs.show.show_next.Goals as goal

pub returns-in_err-message : goal.returns-in_err-message
returns-in_err-message c = fault_next c.args.framer.now.stream c.next.new.self.stream c.args.text.now.items c.in_err-message.field-0.0 c.from_residual.result c.requires.limited c.requires.no_fault c.in_err-message.ensures.after c.from_residual.ensures.1

pub returns-in_err-apdu : goal.returns-in_err-apdu
returns-in_err-apdu c = refused_next c.args.framer.now.stream c.next.new.self.stream c.args.text.now.items c.in-Some.message c.in_err-apdu.field-0.0 c.in_ok-message.field-0 c.from_residual-in_err-apdu.result c.requires.limited c.in_ok-message.ensures.after c.in-Some.is c.in_err-apdu.ensures c.from_residual-in_err-apdu.ensures.1
