use Rattle.std.proofs.Common.{◌≡◌, ◌+◌, ◌∙◌, refl, ap, sym, subst, inr, is_some}
use Rattle.ld_table.specs.Table.{find, put}
use Rattle.ld_register.specs.Kept.{IsLogOf}
use Rattle.ld_register.proofs.Logs.{put_there, sound_put, close_shown, of_same, log_with}
use Rattle.ld_register.proofs.log.LogState.close.Goals as goal

written : (c : goal.After-self-1) → c.insert.new.self.entries ≡ put c.args.e c.args.summary.now c.self.inside.summaries.entries
unfolding find
written c = put_there c.insert.result c.args.e c.args.summary.now c.self.inside.summaries.entries c.insert.new.self.entries c.insert.ensures.entries c.insert.ensures.absent (ap (λ v. is_some (find c.args.e v.summaries)) c.self.view_is ∙ c.requires.room)

pub invariant_of-self : goal.invariant_of-self
invariant_of-self c = sound_put (log_with c.self.inside.epoch c.self.inside.lce c.self.inside.swaps c.self.inside.fixed.entries c.self.inside.summaries.entries) c.args.e c.args.e c.args.summary.now c.insert.new.self.entries c.self.invariant c.requires.summary (written c)
    (inr (refl, c.requires.next ∙ ap (λ v. v.lce + 1) (sym c.self.view_is)))

pub returns-clause-shown : goal.returns-clause-shown
returns-clause-shown c = close_shown c.self.inside.epoch c.self.inside.lce c.self.inside.swaps c.args.e c.args.summary.now c.self.inside.fixed.entries c.self.inside.summaries.entries c.insert.new.self.entries c.args.self.now c.self.view_is c.insert.ensures.was_ordered (written c) c.requires.next

pub returns-clause-of : goal.returns-clause-of
returns-clause-of c l h = of_same l (log_with c.self.inside.epoch c.self.inside.lce c.self.inside.swaps c.self.inside.fixed.entries c.self.inside.summaries.entries) c.args.e c.insert.new.self.entries (subst (IsLogOf l) (sym c.self.view_is) h)
