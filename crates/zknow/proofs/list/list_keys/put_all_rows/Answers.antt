use Rattle.std.specs.Map.{keys_of}
use Rattle.zknow.proofs.TableTheory.InSections.{front_written}
use Rattle.zknow.proofs.list.list_keys.put_all_rows.Goals as goal

pub loop-key-preserved : goal.loop-key-preserved
loop-key-preserved c = front_written keys_of _ (c.in-Some.key.now, c.in-Some.rows.now) _ _ c.loop-key.out.items c.put_rows.new.out.items _ c.in-Some.ensures.steps c.loop-key.invariant c.in_ok-put_rows.ensures
