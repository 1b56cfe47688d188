use Rattle.std.proofs.Common.{◌≡◌, ◌∙◌, rules, Some, None}
use Rattle.ld_table.specs.Table.{find}
use Rattle.ld_register.proofs.Tables.{found_at, swappable_at, none_swappable}
use Rattle.ld_register.proofs.contents.Contents.swappable.Goals as goal

pub returns-in-Some : goal.returns-in-Some
unfolding find
returns-in-Some c n = let f : find c.number.result c.self.inside.logs.entries ≡ Some c.in-Some.state.now = search rules in
    c.swappable.ensures ∙ swappable_at c.args.self.now n c.args.log c.args.upto c.args.member c.args.spare c.in-Some.state.now (found_at c.number.result c.args.log c.self.inside.logs.entries c.args.self.now _ (Some c.in-Some.state.now) c.self.view_is c.number.ensures.value c.len.ensures.ordered f n)

pub returns-in-None : goal.returns-in-None
unfolding find
returns-in-None c n = let f : find c.number.result c.self.inside.logs.entries ≡ None = search rules in
    none_swappable c.args.self.now n c.args.log c.args.upto c.args.member c.args.spare (found_at c.number.result c.args.log c.self.inside.logs.entries c.args.self.now _ None c.self.view_is c.number.ensures.value c.len.ensures.ordered f n)
