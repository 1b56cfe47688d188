use Rattle.std.proofs.Common.{◌-◌, refl, sym, arith}
use Rattle.ld_recovery.proofs.Settling.{settle_below, none_there, one_there}
use Rattle.ld_recovery.proofs.storing.settle_number.Goals as goal

pub returns-then-value-clause-items : goal.returns-then-value-clause-items
returns-then-value-clause-items c = sym (settle_below c.args.number c.args.node c.args.first c.args.items.now.items c.requires (omega (arith, c.if-value.true, c.value.ensures, c.value-2.ensures)))

pub returns-then-place-len-clause-items : goal.returns-then-place-len-clause-items
returns-then-place-len-clause-items c = one_there c.args.number c.args.node c.args.first _ c.args.items.now.items _ c.requires (omega (arith, c.if-value.false, c.value.ensures, c.value-2.ensures)) (omega (arith, c.if-value.false, c.value-3.ensures, c.value-4.ensures)) c.settle_at.ensures.items

pub returns-clause-items : goal.returns-clause-items
returns-clause-items c = none_there c.args.number c.args.node c.args.first (c.args.number - c.args.first) c.args.items.now.items c.requires (omega (arith, c.if-value.false, c.value.ensures, c.value-2.ensures)) refl (omega (arith, c.if-value.false, c.value-3.ensures, c.value-4.ensures, c.len.ensures, c.if-place-len.false))
