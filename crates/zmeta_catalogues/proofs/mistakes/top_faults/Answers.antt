use Rattle.std.proofs.Common.{◌∙◌, ap, ◌++◌}
use Rattle.toml.specs.View.{table_view}
use Rattle.zmeta_catalogues.specs.Mistakes.{faults_for_all}
use Rattle.zmeta_catalogues.proofs.mistakes.top_faults.Goals as goal

pub returns : goal.returns
returns c =
    c.in_ok-put_settings.ensures ∙ ap (λ z. z ++ faults_for_all (table_view c.args.top.now)) c.new-faults.ensures.items
