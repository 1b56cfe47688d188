use Rattle.std.proofs.Common.{◌≡◌, ◌∙◌, ap, sym, subst, is_some}
use Rattle.ld_table.specs.Table.{find, put}
use Rattle.ld_register.specs.Kept.{IsLogOf, fixed_in, swapped_in}
use Rattle.ld_register.proofs.Logs.{put_there, sound_epoch, activate_shown, of_put, log_with, fresh, fixed_there}
use Rattle.ld_register.proofs.log.LogState.activate.Goals as goal

written : (c : goal.After-self-1) → c.insert.new.self.entries ≡ put c.args.e (fresh c.args.spec.now) c.self.inside.fixed.entries
unfolding find
written c = put_there c.insert.result c.args.e c.new.result c.self.inside.fixed.entries c.insert.new.self.entries c.insert.ensures.entries c.insert.ensures.absent (sym (fixed_there c.args.e c.self.inside.fixed.entries) ∙ (ap (λ v. is_some (find c.args.e v.specs)) c.self.view_is ∙ c.requires.room))
    ∙ ap (λ x. put c.args.e x c.self.inside.fixed.entries) c.new.ensures

pub invariant_of-self : goal.invariant_of-self
invariant_of-self c = sound_epoch (log_with c.self.inside.epoch c.self.inside.lce c.self.inside.swaps c.self.inside.fixed.entries c.self.inside.summaries.entries) c.args.e c.self.inside.swaps (fixed_in c.insert.new.self.entries) (swapped_in c.insert.new.self.entries) c.self.invariant c.requires.bound

pub returns-clause-shown : goal.returns-clause-shown
returns-clause-shown c = activate_shown c.self.inside.epoch c.self.inside.lce c.self.inside.swaps c.args.e c.args.spec.now c.self.inside.fixed.entries c.insert.new.self.entries c.self.inside.summaries.entries c.args.self.now c.self.view_is c.insert.ensures.was_ordered (written c) c.requires.next

pub returns-clause-of : goal.returns-clause-of
returns-clause-of c l i h = of_put l c.self.inside.epoch c.self.inside.lce c.self.inside.swaps c.args.e c.args.e c.self.inside.lce c.args.spec.now c.self.inside.fixed.entries c.insert.new.self.entries c.self.inside.summaries.entries c.self.inside.summaries.entries i c.requires.bound (written c) (subst (IsLogOf l) (sym c.self.view_is) h)
