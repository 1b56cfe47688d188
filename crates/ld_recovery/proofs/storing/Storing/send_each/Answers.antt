use Rattle.std.proofs.Common.{◌≡◌, ◌++◌, ◌+◌, List, ℕ, length, get_or, drop, ◌∙◌, ap, arith}
use Rattle.ld_msg.specs.declared.msg.Msg.{Msg}
use Rattle.ld_msg.specs.Sequencer.{Planned, item_stores}
use Rattle.ld_recovery.specs.Sending.{sent}
use Rattle.ld_recovery.specs.Planning.{Plans}
use Rattle.ld_recovery.proofs.Begins.{begins_on}
use Rattle.ld_recovery.proofs.Posting.{stored_one}
use Rattle.ld_recovery.proofs.storing.Storing.send_each.Goals as goal

pub loop-item-preserved : goal.loop-item-preserved
loop-item-preserved c =
    let s = c.args.sender.now in
    let p = c.args.self.now in
    let same : c.deref-item-items.result.now ≡ p.storing.items = c.deref-item-items.ensures.value ∙ ap (λ (x : Plans). x.storing.items) c.self.view_is in
    record {
      left = ap (λ (r : List Msg). r ++ sent s (item_stores p.spec c.args.lost.now p.storing.loss p.storing.lng p.storing.wave (drop (c.loop-item.item-index + 1) p.storing.items))) c.in_ok-send_one.ensures.sent
          ∙ (stored_one s p.spec c.args.lost.now p.storing.loss p.storing.lng p.storing.wave p.storing.items c.loop-item.item-index c.item-item.result c.loop-item.out (omega (arith, c.loop-item-test.true, ap length same)) (c.item-item.is ∙ ap (λ (l : List (ℕ × Planned)). get_or l c.loop-item.item-index c.item-item.result) same) ∙ c.loop-item.invariant.left);
      begun = begins_on c.args.out.now c.loop-item.out _ _ c.in_ok-send_one.ensures.sent c.loop-item.invariant.begun;
    }
