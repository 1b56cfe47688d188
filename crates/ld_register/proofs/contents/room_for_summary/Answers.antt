use Rattle.std.proofs.Common.{◌≡◌, ◌<◌, ◌∙◌, ap, subst, is_some, rules, Some, sym, List, ℕ}
use Rattle.ld_table.specs.Table.{find}
use Rattle.ld_op.proofs.There.{on_ok_with}
use Rattle.ld_msg.specs.Register.{Epochs}
use Rattle.ld_register.specs.Kept.{AreLogs}
use Rattle.ld_register.proofs.Tables.{written, Written, written_same, shown_there}
use Rattle.ld_register.proofs.contents.room_for_summary.Goals as goal

pub room_for_summary-requires-clause-above : goal.room_for_summary-requires-clause-above
unfolding find
room_for_summary-requires-clause-above c = let f : find c.number.result c.args.logs.now.entries ≡ Some c.in-Some.state.now = search rules in
    subst (λ v. v.lce < c.args.e) (shown_there c.number.result c.args.log c.in-Some.state.now c.args.logs.now.entries c.number.ensures.value c.get_mut.ensures.ordered f) c.requires.above

wr : (c : goal.After-logs-2-1) → Written c.args.log c.in-Some.state.now c.room_for_summary.new.self c.args.logs.now.entries (c.get_mut.follows.lender c.room_for_summary.new.self).entries
unfolding find
wr c = let f : find c.number.result c.args.logs.now.entries ≡ Some c.in-Some.state.now = search rules in
    written c.number.result c.args.log c.in-Some.state.now c.room_for_summary.new.self c.args.logs.now.entries _ c.number.ensures.value c.get_mut.ensures.ordered f ((c.get_mut.follows.holds c.room_for_summary.new.self).0) c.number.ensures.bounds

pub returns-clause-same : goal.returns-clause-same
returns-clause-same c = written_same c.args.log c.in-Some.state.now c.room_for_summary.new.self c.args.logs.now.entries _ c.get_mut.ensures.ordered (wr c) c.room_for_summary.ensures.same

pub returns-clause-there : goal.returns-clause-there
returns-clause-there c = (wr c).there

pub returns-clause-room : goal.returns-clause-room
returns-clause-room c = on_ok_with c.room_for_summary.result _ _ (λ h. ap (λ v. is_some (find c.args.e v.summaries)) (wr c).at_is ∙ h) c.room_for_summary.ensures.room

pub returns-clause-logs : goal.returns-clause-logs
returns-clause-logs c = (wr c).logs (c.room_for_summary.ensures.of c.args.log)

pub returns-in_default-clause-logs : goal.returns-in_default-clause-logs
returns-in_default-clause-logs c = let e : c.get_mut.follows.lender-at-none.entries ≡ c.args.logs.now.entries = search rules in subst (λ (m : List (ℕ × Epochs)). AreLogs m) (sym e)
