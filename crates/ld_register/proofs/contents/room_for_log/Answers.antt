use Rattle.std.proofs.Common.{◌≡◌, ◌∙◌, ap, sym, subst, rules, List, ℕ, is_some, true}
use Rattle.ld_msg.specs.Register.{Epochs}
use Rattle.ld_table.specs.Table.{find, put}
use Rattle.ld_register.specs.Kept.{shown_logs, log_at, AreLogs}
use Rattle.ld_register.proofs.Tables.{room_logs}
use Rattle.ld_register.proofs.contents.room_for_log.Goals as goal

pub returns-then-contains_key-clause-there : goal.returns-then-contains_key-clause-there
unfolding find
returns-then-contains_key-clause-there c = ap (λ i. is_some (find i c.args.logs.now.entries)) (sym c.number.ensures.value) ∙ (sym c.contains_key.ensures ∙ c.if-contains_key.true)

made : (c : goal.Joined-branch-2) → (shown_logs c.insert.new.self.entries ≡ shown_logs c.args.logs.now.entries) × (log_at c.insert.new.self.entries c.args.log ≡ log_at c.args.logs.now.entries c.args.log)
    × (is_some (find c.args.log c.insert.new.self.entries) ≡ true) × (AreLogs c.args.logs.now.entries → AreLogs c.insert.new.self.entries)
unfolding find put
made c = room_logs c.number.result c.number-2.result c.args.log c.new.result c.args.logs.now.entries c.insert.new.self.entries c.number.ensures.value c.number-2.ensures.value c.new.ensures c.in_ok-insert.ensures.entries c.len.ensures.ordered
    (sym c.contains_key.ensures ∙ c.if-contains_key.false) c.number.ensures.bounds

pub returns-clause-same : goal.returns-clause-same
returns-clause-same c = (made c).0

pub returns-clause-at : goal.returns-clause-at
returns-clause-at c = (made c).1

pub returns-clause-there : goal.returns-clause-there
returns-clause-there c = (made c).2

pub returns-clause-logs : goal.returns-clause-logs
returns-clause-logs c = (made c).3

pub returns-in_err-insert-clause-logs : goal.returns-in_err-insert-clause-logs
returns-in_err-insert-clause-logs c = let e : c.insert.new.self.entries ≡ c.args.logs.now.entries = search rules in subst (λ (m : List (ℕ × Epochs)). AreLogs m) (sym e)
