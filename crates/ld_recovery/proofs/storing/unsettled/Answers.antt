use Rattle.std.proofs.Common.{◌++◌, ◌∷◌, [], ℕ, ◌∙◌, ap, sym, append_assoc}
use Rattle.ld_msg.specs.Digest.{Item}
use Rattle.ld_msg.specs.Sequencer.{Planned}
use Rattle.ld_recovery.proofs.Settling.{planned_more}
use Rattle.ld_recovery.proofs.storing.unsettled.Goals as goal

pub loop-item-preserved : goal.loop-item-preserved
loop-item-preserved c = record {
  all = append_assoc c.loop-item.yielded (c.in-Some.item ∷ []) c.next.new.self.rest.items ∙ (ap (λ r. c.loop-item.yielded ++ r) (sym c.in-Some.ensures.steps.0) ∙ c.loop-item.invariant.all);
  made = planned_more c.loop-item.yielded c.in-Some.item c.loop-item.list.items c.push.new.self.items c.loop-item.invariant.made (c.in_ok-push.ensures.items ∙ ap (λ (e : ℕ × Planned). c.loop-item.list.items ++ e ∷ []) (c.new.ensures ∙ ap (λ (i : Item). (i.number, record { what = i.what; settled = [] })) c.item.view_is));
}
