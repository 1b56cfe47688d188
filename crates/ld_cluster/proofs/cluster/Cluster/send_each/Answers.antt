use Rattle.std.proofs.Common.{◌≡◌, subst}
use Rattle.std.proofs.Common.{rules, arith, []}
use Rattle.std.proofs.lemmas.List.{nil_from_length}
use Rattle.ld_cluster.specs.Outcomes.{IsSending}
use Rattle.ld_register.proofs.Committing.{on_err}
use Rattle.ld_cluster.proofs.Finishing.{sending_start, sending_more, sending_cut, sent_all}
use Rattle.ld_cluster.proofs.cluster.Cluster.send_each.Goals as goal

pub loop-msg-init : goal.loop-msg-init
loop-msg-init c = let e : c.args.sends ≡ c.into_iter-msg-iterator.result.rest.items = search rules in
    subst (λ ms. IsSending c.args.self.now c.args.lines.now c.args.sends c.args.self.now c.args.lines.now [] ms) e (sending_start c.args.self.now c.args.lines.now c.args.sends)

pub loop-msg-preserved : goal.loop-msg-preserved
loop-msg-preserved c = sending_more c.args.self.now c.loop-msg.self c.send.new.self c.args.lines.now c.loop-msg.lines c.send.new.lines c.args.sends c.loop-msg.yielded c.loop-msg.msg-iterator.rest.items c.next.new.self.rest.items c.in-Some.msg c.loop-msg.invariant c.in-Some.ensures.steps.0 c.send.ensures.same c.in_ok-send.ensures.done

pub returns-clause-done : goal.returns-clause-done
returns-clause-done c = λ s p. sent_all c.args.self.now c.loop-msg.self c.args.lines.now c.loop-msg.lines c.args.sends c.loop-msg.yielded c.loop-msg.msg-iterator.rest.items s p c.loop-msg.invariant (nil_from_length c.loop-msg.msg-iterator.rest.items (omega (arith, c.loop-msg.msg-iterator.rest.ok, c.in-None.ensures.steps.0)))

pub returns-in_err-send-clause-part : goal.returns-in_err-send-clause-part
returns-in_err-send-clause-part c = λ s p. on_err c.from_residual.result _ (sending_cut c.args.self.now c.loop-msg.self c.args.lines.now c.loop-msg.lines c.send.new.lines c.args.sends c.loop-msg.yielded c.loop-msg.msg-iterator.rest.items c.next.new.self.rest.items c.in-Some.msg c.loop-msg.invariant c.in-Some.ensures.steps.0 c.in_err-send.ensures.part s p)
