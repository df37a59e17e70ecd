use Rattle.std.proofs.Common.{refl}
use Rattle.zknow_merge.proofs.SourceTheory.{err_any, held_read}
use Rattle.zknow_merge.proofs.source.Source.feed.Goals as goal

pub returns-in_err-extend_from_slice-clause-err : goal.returns-in_err-extend_from_slice-clause-err
returns-in_err-extend_from_slice-clause-err c =
    err_any c.from_residual.result (λ merged input r. held_read merged input c.args.self.now _ refl c.in_err-extend_from_slice.ensures.err r)
