use Rattle.std.proofs.Common.{◌≡◌, ◌∙◌, ap, sym, rules, Some, None}
use Rattle.ld_table.specs.Table.{find}
use Rattle.ld_register.proofs.Tables.{found_at}
use Rattle.ld_register.proofs.contents.Contents.swaps.Goals as goal

pub returns-in-Some : goal.returns-in-Some
unfolding find
returns-in-Some c n = let f : find c.number.result c.self.inside.logs.entries ≡ Some c.in-Some.state.now = search rules in
    c.swaps.ensures ∙ ap (λ v. v.swaps) (sym (found_at c.number.result c.args.log c.self.inside.logs.entries c.args.self.now _ (Some c.in-Some.state.now) c.self.view_is c.number.ensures.value c.len.ensures.ordered f n))

pub returns-in-None : goal.returns-in-None
unfolding find
returns-in-None c n = let f : find c.number.result c.self.inside.logs.entries ≡ None = search rules in
    ap (λ v. v.swaps) (sym (found_at c.number.result c.args.log c.self.inside.logs.entries c.args.self.now _ None c.self.view_is c.number.ensures.value c.len.ensures.ordered f n))
