use Rattle.std.proofs.Common.{◌≡◌, ◌∙◌, ap, sym, subst}
use Rattle.ld_table.specs.Table.{put}
use Rattle.ld_register.specs.Kept.{IsLogOf, fixed_in, swapped_in}
use Rattle.ld_register.proofs.Logs.{sound_epoch, spec_room_shown, put_is_there, of_put, log_with, fresh, fixed_there}
use Rattle.ld_register.proofs.log.LogState.room_for_spec.Goals as goal

written : (c : goal.In_ok-insert) → c.insert.new.self.entries ≡ put c.args.e (fresh c.args.spec.now) c.self.inside.fixed.entries
unfolding put
written c = c.in_ok-insert.ensures.entries ∙ ap (λ x. put c.args.e x c.self.inside.fixed.entries) c.new.ensures

pub invariant_of-self-2 : goal.invariant_of-self-2
invariant_of-self-2 c = sound_epoch (log_with c.self.inside.epoch c.self.inside.lce c.self.inside.swaps c.self.inside.fixed.entries c.self.inside.summaries.entries) c.self.inside.epoch c.self.inside.swaps (fixed_in c.insert.new.self.entries) (swapped_in c.insert.new.self.entries) c.self.invariant c.self.invariant.epoch

pub returns-clause-same : goal.returns-clause-same
returns-clause-same c = spec_room_shown c.self.inside.epoch c.self.inside.lce c.self.inside.swaps c.args.e c.args.spec.now c.self.inside.fixed.entries c.insert.new.self.entries c.self.inside.summaries.entries c.args.self.now c.self.view_is c.insert.ensures.was_ordered (written c) c.requires.above

pub returns-clause-room : goal.returns-clause-room
returns-clause-room c = fixed_there c.args.e c.insert.new.self.entries ∙ put_is_there c.args.e (fresh c.args.spec.now) c.self.inside.fixed.entries c.insert.new.self.entries (written c)

pub returns-clause-of : goal.returns-clause-of
returns-clause-of c l i h = of_put l c.self.inside.epoch c.self.inside.lce c.self.inside.swaps c.args.e c.self.inside.epoch c.self.inside.lce c.args.spec.now c.self.inside.fixed.entries c.insert.new.self.entries c.self.inside.summaries.entries c.self.inside.summaries.entries i c.self.invariant.epoch (written c) (subst (IsLogOf l) (sym c.self.view_is) h)
