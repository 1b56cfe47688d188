use Rattle.std.proofs.Common.{◌≡◌, ◌∙◌, ◌+◌, ◌-◌, List, ℕ, ap, nat_le, min, length, arith}
use Rattle.ld_msg.specs.Sequencer.{Planned, settle, settled_by}
use Rattle.ld_recovery.specs.Planning.{Plans, with_storing}
use Rattle.ld_recovery.proofs.Settling.{through, stay_from}
use Rattle.ld_recovery.proofs.Marking.{marked_more}
use Rattle.ld_recovery.proofs.Counting.{counted_more, count_fits}
use Rattle.ld_recovery.proofs.storing.Storing.trim.Goals as goal

settled : (c : goal.After-self-1) → c.settle_first-gain.new.items.items ≡ settle (λ s. nat_le s c.args.trim) c.args.node c.self.inside.items.items
settled c =
    let a = c.self.inside in
    let len : c.len.result ≡ length a.items.items = omega (arith, c.len.ensures, a.items.ok) in
    let count = c.count_through-count.ensures ∙ ap (λ k. min (c.args.trim + 1 - a.first) k) len in
    through c.args.trim c.args.node a.first c.count_through-count.result a.items.items c.settle_first-gain.new.items.items c.self.invariant.numbers count c.settle_first-gain.ensures.items

pub invariant_of-self : goal.invariant_of-self
invariant_of-self c =
    let a = c.self.inside in
    let new = c.settle_first-gain.new.items.items in
    record {
      numbers = stay_from (λ s. nat_le s c.args.trim) c.args.node a.first a.items.items new c.self.invariant.numbers (settled c);
      lack = omega (arith, c.self.invariant.lack, c.settle_first-gain.ensures.left);
      good = c.self.invariant.good;
      some = c.self.invariant.some;
      marked = marked_more (λ s. nat_le s c.args.trim) c.args.node c.count_through-count.result a.trimmed c.raise.new.self a.items.items new c.self.invariant.marked (settled c) c.settle_first-gain.ensures.items c.raise.ensures.each;
      counted = counted_more (λ s. nat_le s c.args.trim) c.args.node c.settle_first-gain.result.fresh a.settled c.add.new.self a.items.items new c.self.invariant.counted (settled c) c.settle_first-gain.ensures.fresh c.add.ensures;
    }

pub add-requires : goal.add-requires
add-requires c =
    let v = c.settle_first-gain.new.items in
    omega (arith, count_fits c.args.node c.settle_first-gain.result.fresh c.self.inside.settled c.self.inside.items.items v.items c.number.ensures.bounds.0 c.self.invariant.counted c.settle_first-gain.ensures.fresh, v.ok, v.small)

pub returns : goal.returns
returns c =
    let a = c.self.inside in
    let shown : List (ℕ × Planned) → Plans = λ items. record { spec = a.spec; storing = record { trim = a.trim; lng = a.lng; end = a.end; loss = a.loss; items = items; wave = a.wave } } in
    ap shown (settled c) ∙ ap (λ (p : Plans). with_storing p (settled_by (λ s. nat_le s c.args.trim) c.args.node p.storing)) c.self.view_is
