use Rattle.std.proofs.Common.{◌≡◌, ◌∙◌, rules, Some, None, ℕ}
use Rattle.ld_table.specs.Table.{find}
use Rattle.ld_msg.specs.Register.{no_epochs, epochs_of}
use Rattle.ld_register.specs.Kept.{shown_log, register_of}
use Rattle.ld_register.proofs.Tables.{found_at, spec_at, no_spec, log_there}
use Rattle.ld_register.proofs.contents.Contents.spec.Goals as goal

found : (c : goal.After-spec) → find c.number.result c.self.inside.logs.entries ≡ Some c.in-Some.state.now
unfolding find
found c = let f : find c.number.result c.self.inside.logs.entries ≡ Some c.in-Some.state.now = search rules in f

at : (c : goal.After-spec) (n : ℕ) → epochs_of (register_of c.args.self.now n) c.args.log ≡ shown_log c.in-Some.state.now
at c n = found_at c.number.result c.args.log c.self.inside.logs.entries c.args.self.now _ (Some c.in-Some.state.now) c.self.view_is c.number.ensures.value c.len.ensures.ordered (found c) n

none : (c : goal.In-None) (n : ℕ) → epochs_of (register_of c.args.self.now n) c.args.log ≡ shown_log no_epochs
unfolding find
none c n = let f : find c.number.result c.self.inside.logs.entries ≡ None = search rules in
    found_at c.number.result c.args.log c.self.inside.logs.entries c.args.self.now _ None c.self.view_is c.number.ensures.value c.len.ensures.ordered f n

pub returns-in-Some-clause-value : goal.returns-in-Some-clause-value
returns-in-Some-clause-value c n = c.spec.ensures.value ∙ spec_at c.args.self.now n c.args.log c.args.e c.in-Some.state.now (at c n)

pub returns-in-Some-clause-sound : goal.returns-in-Some-clause-sound
returns-in-Some-clause-sound c = c.spec.ensures.sound c.args.log (log_there c.number.result c.args.log c.in-Some.state.now c.self.inside.logs.entries c.number.ensures.value (found c) c.self.invariant.logs)

pub returns-in-None-clause-value : goal.returns-in-None-clause-value
returns-in-None-clause-value c n = no_spec c.args.self.now n c.args.log c.args.e (none c n)
