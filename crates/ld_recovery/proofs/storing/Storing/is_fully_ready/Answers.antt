use Rattle.std.proofs.Common.{◌∙◌, ◌==◌, not, Bool, ap, sym}
use Rattle.std.specs.Prelude.{◌&&◌}
use Rattle.ld_msg.specs.Sequencer.{is_ready, is_fully_ready}
use Rattle.ld_recovery.proofs.Settling.{all_enough}
use Rattle.ld_recovery.specs.Planning.{Plans}
use Rattle.ld_recovery.proofs.storing.Storing.is_fully_ready.Goals as goal

pub returns-then-not-self : goal.returns-then-not-self
unfolding is_ready
returns-then-not-self c =
    ap (λ n. n == 0) c.self.invariant.lack ∙ (all_enough c.self.inside.spec.r c.self.inside.items.items
    ∙ (ap (λ (b : Bool). not b && is_ready c.self.inside.spec (record { trim = c.self.inside.trim; lng = c.self.inside.lng; end = c.self.inside.end; loss = c.self.inside.loss; items = c.self.inside.items.items; wave = c.self.inside.wave })) (sym c.if-not-self.true)
    ∙ ap (λ (p : Plans). is_fully_ready p.spec p.storing) c.self.view_is))
