use Rattle.std.proofs.Common.{◌≡◌, ◌<◌, ◌-◌, ◌^◌, ◌∙◌, ap, sym, arith, true, rules, Some, None, subst, List, ℕ}
use Rattle.std.proofs.lemmas.Bool.Decides.{nat_tests}
use Rattle.ld_table.specs.Table.{find, put}
use Rattle.ld_msg.specs.Register.{Epochs, swapped_epochs}
use Rattle.ld_register.specs.Kept.{AreLogs, shown_log, shown_logs, is_held, log_at}
use Rattle.ld_register.proofs.Tables.{written, Written, written_shown, shown_there, at_shown, never_there, shown_found}
use Rattle.ld_register.proofs.Few.{shown_as_many}
use Rattle.ld_register.proofs.contents.swap_in.Goals as goal

pub returns-in_default-clause-shown : goal.returns-in_default-clause-shown
unfolding find
returns-in_default-clause-shown c = let f : find c.number.result c.args.logs.now.entries ≡ None = search rules in absurd (never_there c.number.result c.args.log c.args.logs.now.entries c.number.ensures.value f c.requires.there)

pub swap-requires-clause-left : goal.swap-requires-clause-left
unfolding find
swap-requires-clause-left c = let f : find c.number.result c.args.logs.now.entries ≡ Some c.in-Some.state.now = search rules in
    subst (λ v. v.swaps < 2 ^ 32 - 1) (shown_there c.number.result c.args.log c.in-Some.state.now c.args.logs.now.entries c.number.ensures.value c.get_mut.ensures.ordered f) c.requires.left

wr : (c : goal.After-logs-2-1) → Written c.args.log c.in-Some.state.now c.swap.new.self c.args.logs.now.entries (c.get_mut.follows.lender c.swap.new.self).entries
unfolding find
wr c = let f : find c.number.result c.args.logs.now.entries ≡ Some c.in-Some.state.now = search rules in
    written c.number.result c.args.log c.in-Some.state.now c.swap.new.self c.args.logs.now.entries _ c.number.ensures.value c.get_mut.ensures.ordered f ((c.get_mut.follows.holds c.swap.new.self).0) c.number.ensures.bounds

held : (c : goal.After-logs-2-1) → is_held c.swap.new.self ≡ true
held c = let l = ap (λ v. v.swaps) c.swap.ensures.shown in grind (arith, nat_tests)

shown : (c : goal.After-logs-2-1) → shown_logs (c.get_mut.follows.lender c.swap.new.self).entries ≡ put c.args.log (swapped_epochs (log_at (shown_logs c.args.logs.now.entries) c.args.log) c.args.upto c.args.member c.args.spare) (shown_logs c.args.logs.now.entries)
shown c = written_shown c.args.log c.in-Some.state.now c.swap.new.self c.args.logs.now.entries _ c.get_mut.ensures.ordered (wr c) (held c)
    ∙ ap (λ v. put c.args.log v (shown_logs c.args.logs.now.entries)) (c.swap.ensures.shown ∙ ap (λ v. swapped_epochs v c.args.upto c.args.member c.args.spare) (sym (at_shown c.args.log c.args.logs.now.entries c.get_mut.ensures.ordered ∙ ap shown_log (wr c).at_was)))

pub returns-clause-shown : goal.returns-clause-shown
returns-clause-shown c = shown c

pub returns-clause-few : goal.returns-clause-few
returns-clause-few c = shown_as_many c.args.log _ _ c.args.logs.now.entries (c.get_mut.follows.lender c.swap.new.self).entries c.get_mut.ensures.ordered (shown_found c.args.log c.args.upto c.args.member c.args.spare (shown_logs c.args.logs.now.entries) c.requires.some) (shown c)

pub returns-clause-logs : goal.returns-clause-logs
returns-clause-logs c = (wr c).logs (c.swap.ensures.of c.args.log)

pub returns-in_default-clause-logs : goal.returns-in_default-clause-logs
returns-in_default-clause-logs c = let e : c.get_mut.follows.lender-at-none.entries ≡ c.args.logs.now.entries = search rules in subst (λ (m : List (ℕ × Epochs)). AreLogs m) (sym e)
