use Rattle.std.proofs.Common.{◌≡◌, ◌∙◌, ap, sym, subst, rules, None}
use Rattle.std.specs.Option.{unwrap_or}
use Rattle.ld_table.specs.Table.{find, Ordered}
use Rattle.ld_op.specs.Plain.{empty_log}
use Rattle.ld_op.proofs.There.{held_is, find-there_of, there_at}
use Rattle.ld_op.proofs.logs.LogMap.get.Goals as goal

pub returns-in-Some : goal.returns-in-Some
unfolding find
returns-in-Some c = sym (held_is c.args.log c.in-Some.state.now c.args.self.now (subst Ordered c.self.view_is c.len.ensures.ordered) (search rules) c.is_there.ensures.empty)

pub returns-in-None : goal.returns-in-None
unfolding find
returns-in-None c = let f : find c.args.log c.args.self.now ≡ None = search rules in sym (ap (λ x. unwrap_or x empty_log) (find-there_of c.args.log c.args.self.now (subst Ordered c.self.view_is c.len.ensures.ordered) ∙ ap there_at f))
