use Rattle.std.proofs.Common.{refl, subst}
use Rattle.zknow.specs.Saved.Loaded.{IsLoadFault}
use Rattle.zmeta_offline.proofs.Joining.{load_refused}
use Rattle.zmeta_offline.proofs.join.load_file.Goals as goal

pub returns-clause-loaded : goal.returns-clause-loaded
returns-clause-loaded g c =
    let fault = subst (λ l. IsLoadFault l c.in-Err.error) c.as_slice.ensures.value c.in-Err.ensures.fault in
    load_refused (g.R.Readable.remaining c.args.file.now.reader) c.in_ok-octets.octets.items _ c.in-Err.error c.of_load.result _
    refl c.of_load.ensures c.in_ok-octets.ensures.whole fault
