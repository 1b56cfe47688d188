use Rattle.std.proofs.Common.{◌≡◌, ◌∙◌, ◌+◌, ap, sym, arith, refl, true, false}
use Rattle.std.specs.Prelude.{Bool}
use Rattle.ld_register.specs.Kept.{swaps_up_to}
use Rattle.ld_register.proofs.Swapping.{none_counted, counted_more, one_if, one_most}
use Rattle.ld_register.proofs.fixed.count_swaps.Goals as goal
use mir.Val.{bool_byte}

byte_is : (b : Bool) → bool_byte b ≡ one_if b
byte_is true = refl
byte_is false = refl

pub epochs-init : goal.epochs-init
epochs-init c = record { count = sym (none_counted c.args.member c.args.spare c.args.table.now.entries); small = omega arith }

pub overflow_add-count : goal.overflow_add-count
overflow_add-count c = let s = c.epochs.invariant.small in let o = one_most c.swaps_at.result in let f = c.from-count.ensures ∙ byte_is c.swaps_at.result in omega arith

pub epochs-preserved : goal.epochs-preserved
epochs-preserved c = record {
  count = ap (λ n. c.epochs.count + n) (c.from-count.ensures ∙ byte_is c.swaps_at.result) ∙ counted_more c.epochs.e c.epochs.count c.args.member c.args.spare c.swaps_at.result c.args.table.now.entries (c.epochs.auto.e) c.len.ensures.ordered c.epochs.invariant.count c.swaps_at.ensures;
  small = let s = c.epochs.invariant.small in let o = one_most c.swaps_at.result in let f = c.from-count.ensures ∙ byte_is c.swaps_at.result in omega arith;
}

pub returns : goal.returns
returns c = let t = c.epochs-test.false in let one = c.epochs.auto.e in let end = c.epochs.auto.e-end in
    c.epochs.invariant.count ∙ ap (λ i. swaps_up_to i c.args.member c.args.spare c.args.table.now.entries) (omega arith)
