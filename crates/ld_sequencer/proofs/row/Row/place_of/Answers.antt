use Rattle.std.proofs.Common.{◌≡◌, None, arith, subst}
use Rattle.ld_table.specs.Table.{find}
use Rattle.ld_sequencer.proofs.Rows.{below_shown, above_shown}
use Rattle.ld_sequencer.proofs.row.Row.place_of.Goals as goal
use Rattle.ld_sequencer.proofs.row.Row.place_of.Goals.{then-value-first-via-then-value-first, then-value-first-via-else-value-first+then-len-value}

pub returns-then-value-first-clause-none : goal.returns-then-value-first-clause-none
returns-then-value-first-clause-none c = subst (λ r. find c.args.number r.appends ≡ None) c.self.view_is (elim c.then-value-first.branch [
  | then-value-first-via-then-value-first w ↦ below_shown c.self.inside.spec c.self.inside.epoch c.args.number c.self.inside.window c.self.inside.waiting.items (omega arith)
  | then-value-first-via-else-value-first+then-len-value w ↦ above_shown c.self.inside.spec c.self.inside.epoch c.args.number c.self.inside.window c.self.inside.waiting.items (omega arith)
])
