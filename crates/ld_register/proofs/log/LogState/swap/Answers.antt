use Rattle.std.proofs.Common.{◌+◌, ap, sym, subst, arith}
use Rattle.ld_register.specs.Kept.{IsLogOf, fixed_in, swapped_in}
use Rattle.ld_register.proofs.Logs.{sound_epoch, swap_shown, of_swap, log_with}
use Rattle.ld_register.proofs.log.LogState.swap.Goals as goal

pub overflow_add-self : goal.overflow_add-self
overflow_add-self c = let e = ap (λ v. v.swaps) c.self.view_is in let h = c.requires.left in omega arith

pub invariant_of-self : goal.invariant_of-self
invariant_of-self c = sound_epoch (log_with c.self.inside.epoch c.self.inside.lce c.self.inside.swaps c.self.inside.fixed.entries c.self.inside.summaries.entries) c.self.inside.epoch (c.self.inside.swaps + 1) (fixed_in c.swap_all.new.table.entries) (swapped_in c.swap_all.new.table.entries) c.self.invariant c.self.invariant.epoch

pub returns-clause-shown : goal.returns-clause-shown
returns-clause-shown c = swap_shown c.self.inside.epoch c.self.inside.lce c.self.inside.swaps c.last_swapped-last.result c.args.upto c.args.member c.args.spare c.self.inside.fixed.entries c.swap_all.new.table.entries c.self.inside.summaries.entries c.args.self.now c.self.view_is c.swap_all.ensures c.last_swapped-last.ensures.value

pub returns-clause-of : goal.returns-clause-of
returns-clause-of c l h = of_swap l c.self.inside.epoch c.self.inside.lce c.self.inside.swaps c.last_swapped-last.result c.args.member c.args.spare c.self.inside.fixed.entries c.swap_all.new.table.entries c.self.inside.summaries.entries c.requires.nodes.1 c.swap_all.ensures (subst (IsLogOf l) (sym c.self.view_is) h)
