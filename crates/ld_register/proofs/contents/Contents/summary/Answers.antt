use Rattle.std.proofs.Common.{◌≡◌, ◌≤◌, ◌∙◌, ap, sym, subst, rules, arith, Some, None, IsSome, ℕ}
use Rattle.ld_table.specs.Table.{find}
use Rattle.ld_msg.specs.Register.{no_epochs, epochs_of}
use Rattle.ld_register.specs.Kept.{shown_log, register_of}
use Rattle.ld_register.proofs.Tables.{found_at, summary_at, no_summary}
use Rattle.ld_register.proofs.contents.Contents.summary.Goals as goal

at : (c : goal.After-summary) (n : ℕ) → epochs_of (register_of c.args.self.now n) c.args.log ≡ shown_log c.in-Some.state.now
unfolding find
at c n = let f : find c.number.result c.self.inside.logs.entries ≡ Some c.in-Some.state.now = search rules in
    found_at c.number.result c.args.log c.self.inside.logs.entries c.args.self.now _ (Some c.in-Some.state.now) c.self.view_is c.number.ensures.value c.len.ensures.ordered f n

none : (c : goal.In-None) (n : ℕ) → epochs_of (register_of c.args.self.now n) c.args.log ≡ shown_log no_epochs
unfolding find
none c n = let f : find c.number.result c.self.inside.logs.entries ≡ None = search rules in
    found_at c.number.result c.args.log c.self.inside.logs.entries c.args.self.now _ None c.self.view_is c.number.ensures.value c.len.ensures.ordered f n

pub returns-in-Some-clause-value : goal.returns-in-Some-clause-value
returns-in-Some-clause-value c n = c.summary.ensures.value ∙ summary_at c.args.self.now n c.args.log c.args.e c.in-Some.state.now (at c n)

pub returns-in-Some-clause-shown : goal.returns-in-Some-clause-shown
returns-in-Some-clause-shown c n = subst (λ v. (IsSome c.summary.result → (1 ≤ c.args.e) × (c.args.e ≤ v.lce)) × ((1 ≤ c.args.e) × (c.args.e ≤ v.lce) → IsSome c.summary.result)) (sym (at c n)) c.summary.ensures.shown

pub returns-in-None-clause-value : goal.returns-in-None-clause-value
returns-in-None-clause-value c n = no_summary c.args.self.now n c.args.log c.args.e (none c n)

pub returns-in-None-clause-shown : goal.returns-in-None-clause-shown
returns-in-None-clause-shown c n = let z = ap (λ v. v.lce) (none c n) in ((λ some. absurd (cc some)), (λ range. let a = range.0 in let b = range.1 in absurd (omega arith)))
