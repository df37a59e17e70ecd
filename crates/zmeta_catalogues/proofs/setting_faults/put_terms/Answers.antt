use Rattle.std.proofs.Common.{refl}
use Rattle.toml.specs.View.{table_view}
use Rattle.zmeta_catalogues.specs.Mistakes.{AreTermsFaults}
use Rattle.zmeta_catalogues.proofs.Growing.{begun}
use Rattle.zmeta_catalogues.proofs.SettingFaults.{one_term, all_terms}
use Rattle.zmeta_catalogues.proofs.setting_faults.put_terms.Goals as goal

pub keys-init : goal.keys-init
keys-init c =
    begun (AreTermsFaults (table_view c.args.terms.now) c.keys_of-keys.result.now) c.args.faults.now.items
    c.args.faults.now.items refl

pub keys-preserved : goal.keys-preserved
keys-preserved c =
    let all = c.keys_of-keys.result.now in
    one_term (table_view c.args.terms.now) all c.keys.key-index _
    (AreTermsFaults (table_view c.args.terms.now) all) c.args.faults.now.items c.keys.faults.items
    c.put_term.new.faults.items c.keys-test.true c.in_ok-put_term.ensures c.keys.invariant

pub returns : goal.returns
returns c =
    all_terms (table_view c.args.terms.now) c.keys_of-keys.result.now c.keys.key-index c.args.faults.now.items
    c.keys.faults.items c.keys-test.false c.keys_of-keys.ensures c.keys.invariant
