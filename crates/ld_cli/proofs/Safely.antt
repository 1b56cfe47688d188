-- Every run is safe.
use Rattle.std.proofs.Common.{List}
use Rattle.ld_config.specs.declared.config.Config.{Config}
use Rattle.ld_config.specs.Bounds.{IsInBounds}
use Rattle.ld_schedule.specs.declared.event.Event.{Event}
use Rattle.ld_lsn.specs.Number.{home_epoch}
use Rattle.ld_machine.specs.Run.{moves}
use Rattle.ld_safety.proofs.Agreed.{losses_were_gone}
use Rattle.ld_safety.proofs.LostJoined.{every_run_is_safe, copies_were_lost, losses_were_told}
use Rattle.ld_safety.proofs.LossAsked.{losses_were_asked}
use Rattle.ld_safety.proofs.OneCopy.{one_node_sends}
use Rattle.ld_safety.proofs.Traces.{lines_are_the_steps}
use Rattle.ld_calm.proofs.InRun.{calm_ends, calm_is_bounded}
use Rattle.ld_served.proofs.Serves.{calm_serves}
use Rattle.ld_cli.specs.Ends.{IsSafe}

pub run_is_safe : (c : Config) → IsInBounds c → (events : List Event) → IsSafe c events
run_is_safe c b events =
    record {
      told = lines_are_the_steps c events;
      lines = every_run_is_safe c events b;
      losses = λ name log number round before asks between gives after whole ends. copies_were_lost c name log number round before asks between gives b ends;
      planned = λ name low high number before gives after d whole there given unconfirmed from to.
          let h = losses_were_told c name low high number before gives d b there given unconfirmed from to in
          record { ballot = h.ballot; plan = h.plan; there = h.there; says = h.says; gone = losses_were_gone c before d.log (home_epoch number) h.ballot h.plan h.there h.says; moment = h.moment };
      confirmed = λ name number before gives after d whole there given confirms at. losses_were_asked c name number before gives d there given confirms at;
      sent = one_node_sends c (moves c events);
      calms = λ before after whole. let k = calm_ends c before b in record { whole = k.0; few = k.1; told = calm_is_bounded c before b; served = calm_serves c before b };
    }
