use Rattle.std.proofs.Common.{◌⊎◌, ℕ, List, [], Option, Some, None, refl, inr}
use Rattle.ld_machine.specs.Disk.{Node}
use Rattle.ld_mend.specs.Course.{ToldAs, IsHushed, Fetched}
use Rattle.ld_mend.proofs.Handing.{untold}
use Rattle.ld_mend.proofs.fetching.reach.Goals as goal

pub returns-in-Ok-clause-told : goal.returns-in-Ok-clause-told
returns-in-Ok-clause-told g c k far to from told = told_of far told
  where
    told_of : (far : Option (List (ℕ × Node))) → ToldAs (g.N.Nodes.tells c.args.nodes.now k) far → IsHushed (g.N.Nodes.silent c.exchange.new.nodes) far ⊎ Fetched k (g.N.Nodes.tells c.exchange.new.nodes k) far c.args.ask.now c.exchange.result
    told_of None t = inr (untold k (g.N.Nodes.tells c.exchange.new.nodes k) c.args.ask.now c.exchange.result)
    told_of (Some ns) t = c.exchange.ensures.told k ns to from (record { far = record { nodes = t.0.nodes; present = Some c.args.node; answers = [] }; told = (c.in-Ok.ensures.dialed k t.0 t.1).1; nodes = t.2; present = refl; none = refl })
