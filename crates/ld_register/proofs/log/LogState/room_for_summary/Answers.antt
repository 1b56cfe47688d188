use Rattle.std.proofs.Common.{◌≡◌, refl, sym, subst, inl}
use Rattle.ld_table.specs.Table.{put}
use Rattle.ld_register.specs.Kept.{IsLogOf}
use Rattle.ld_register.proofs.Logs.{sound_put, room_shown, put_is_there, of_same, log_with}
use Rattle.ld_register.proofs.log.LogState.room_for_summary.Goals as goal

written : (c : goal.In_ok-insert) → c.insert.new.self.entries ≡ put c.args.e c.args.summary.now c.self.inside.summaries.entries
unfolding put
written c = c.in_ok-insert.ensures.entries

pub invariant_of-self-2 : goal.invariant_of-self-2
invariant_of-self-2 c = sound_put (log_with c.self.inside.epoch c.self.inside.lce c.self.inside.swaps c.self.inside.fixed.entries c.self.inside.summaries.entries) c.args.e c.self.inside.lce c.args.summary.now c.insert.new.self.entries c.self.invariant c.requires.summary (written c) (inl refl)

pub returns-clause-same : goal.returns-clause-same
returns-clause-same c = room_shown c.self.inside.epoch c.self.inside.lce c.self.inside.swaps c.args.e c.args.summary.now c.self.inside.fixed.entries c.self.inside.summaries.entries c.insert.new.self.entries c.args.self.now c.self.view_is c.insert.ensures.was_ordered (written c) c.requires.above

pub returns-clause-room : goal.returns-clause-room
returns-clause-room c = put_is_there c.args.e c.args.summary.now c.self.inside.summaries.entries c.insert.new.self.entries (written c)

pub returns-clause-of : goal.returns-clause-of
returns-clause-of c l h = of_same l (log_with c.self.inside.epoch c.self.inside.lce c.self.inside.swaps c.self.inside.fixed.entries c.self.inside.summaries.entries) c.self.inside.lce c.insert.new.self.entries (subst (IsLogOf l) (sym c.self.view_is) h)
