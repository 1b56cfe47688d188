use Rattle.std.proofs.Common.{◌∙◌}
use Rattle.ld_cli.proofs.MadeRun.{unplayed}
use Rattle.ld_cli.proofs.exercise.new_play.Goals as goal

pub returns : goal.returns
returns c =
    unplayed c.in_ok-cluster.cluster c.new-2.result (c.in_ok-cluster.ensures.config ∙ c.in_ok-config.ensures.config) c.in_ok-cluster.ensures.past
    c.in_ok-cluster.ensures.reached c.new-2.ensures
