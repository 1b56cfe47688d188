use Rattle.std.proofs.Common.{◌≡◌, sym, subst}
use Rattle.ld_table.specs.Table.{take_out}
use Rattle.ld_table.proofs.Order.{take_out_is}
use Rattle.ld_register.specs.Kept.{IsLogOf, fixed_in, swapped_in}
use Rattle.ld_register.proofs.Logs.{sound_epoch, unfixed_shown, of_take_out, log_with}
use Rattle.ld_register.proofs.log.LogState.activate_unfixed.Goals as goal

written : (c : goal.After-self-1) → c.remove.new.self.entries ≡ take_out c.args.e c.self.inside.fixed.entries
written c = take_out_is c.args.e c.self.inside.fixed.entries c.remove.new.self.entries c.len.ensures.ordered c.remove.ensures.ordered c.remove.ensures.entries

pub invariant_of-self : goal.invariant_of-self
invariant_of-self c = sound_epoch (log_with c.self.inside.epoch c.self.inside.lce c.self.inside.swaps c.self.inside.fixed.entries c.self.inside.summaries.entries) c.args.e c.self.inside.swaps (fixed_in c.remove.new.self.entries) (swapped_in c.remove.new.self.entries) c.self.invariant c.requires.bound

pub returns-clause-shown : goal.returns-clause-shown
returns-clause-shown c = unfixed_shown c.self.inside.epoch c.self.inside.lce c.self.inside.swaps c.args.e c.self.inside.fixed.entries c.remove.new.self.entries c.self.inside.summaries.entries c.args.self.now c.self.view_is c.len.ensures.ordered (written c) c.requires.next

pub returns-clause-of : goal.returns-clause-of
returns-clause-of c l h = of_take_out l c.self.inside.epoch c.self.inside.lce c.self.inside.swaps c.args.e c.args.e c.self.inside.fixed.entries c.remove.new.self.entries c.self.inside.summaries.entries c.requires.bound c.len.ensures.ordered (written c) (subst (IsLogOf l) (sym c.self.view_is) h)
