use Rattle.zoom_pool.proofs.Starts.{started}
use Rattle.zoom_pool.proofs.driver.Driver.new.Goals as goal

pub returns : goal.returns
returns c = λ settings name.
    started c.args.question c.args.step c.args.window settings c.requires.wanted c.requires.syntax
    c.requires.step c.requires.most c.requires.window name
