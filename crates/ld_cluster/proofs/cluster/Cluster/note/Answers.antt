use Rattle.std.proofs.Common.{ap, map, refl}
use Rattle.ld_register.proofs.Committing.{on_err}
use Rattle.ld_cluster.specs.Standing.{as_move}
use Rattle.ld_cluster.specs.Outcomes.{ended}
use Rattle.ld_cluster.proofs.Finishing.{adds_all, same_on}
use Rattle.ld_cluster.proofs.Flowing.{noted, noted_in_part, one_noted}
use Rattle.ld_cluster.proofs.Parting.{grown_parts}
use Rattle.ld_cluster.proofs.cluster.Cluster.note.Goals as goal

pub returns-clause-whole : goal.returns-clause-whole
returns-clause-whole c = λ k r v d. noted k c.args.self.now c.finish.new.self (record c.finish.new.self { past = c.push.new.self }) (as_move c.args.step) c.args.outcome c.args.lines.now c.finish.new.lines r v d (λ s p. c.in_ok-finish.ensures.done s p) refl
    (one_noted c.finish.new.self.past.items c.push.new.self.items c.args.step c.in_ok-push.ensures.items) (λ s p. grown_parts c.finish.new.self (record c.finish.new.self { past = c.push.new.self }) s p refl refl refl refl refl refl p.register)

pub returns-in_err-finish-clause-part : goal.returns-in_err-finish-clause-part
returns-in_err-finish-clause-part c = λ k d. on_err c.from_residual.result _ (noted_in_part k c.args.self.now c.finish.new.self (as_move c.args.step) c.args.outcome c.args.lines.now c.finish.new.lines d c.finish.ensures.same c.in_err-finish.ensures.part)

pub returns-in_err-push-clause-part : goal.returns-in_err-push-clause-part
returns-in_err-push-clause-part c =
    let pushed = record c.finish.new.self { past = c.push.new.self } in
    λ k d. on_err c.from_residual-in_err-push.result _ (noted_in_part k c.args.self.now pushed (as_move c.args.step) c.args.outcome c.args.lines.now c.finish.new.lines d
    (same_on c.args.self.now c.finish.new.self pushed c.finish.ensures.same (record { config = refl; past = ap (map as_move) c.in_err-push.ensures.items }))
    (λ s p. adds_all c.args.lines.now c.finish.new.lines (ended s c.args.outcome).lines (c.in_ok-finish.ensures.done s p).lines))
