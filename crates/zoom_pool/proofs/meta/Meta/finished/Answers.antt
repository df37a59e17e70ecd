use Rattle.zoom_pool.specs.Metas.{MetaLinks}
use Rattle.zoom_pool.proofs.Advancing.{finished_meta}
use Rattle.zoom_pool.proofs.meta.Meta.finished.Goals as goal

pub returns : goal.returns
returns c =
    let old : MetaLinks = record { pool = c.self.inside.pool; drivers = c.self.inside.drivers.items } in
    rw (← c.self.view_is) (finished_meta c.one_transcript.ensures old c.is_finished.result c.is_finished.ensures)
