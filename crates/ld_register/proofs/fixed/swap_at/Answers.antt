use Rattle.std.proofs.Common.{◌≡◌, ◌∙◌, ap, sym, rules, Some, None}
use Rattle.ld_table.specs.Table.{find, put}
use Rattle.ld_register.specs.Kept.{swapped_where}
use Rattle.ld_register.proofs.Tables.{set_value_put}
use Rattle.ld_register.proofs.fixed.swap_at.Goals as goal

pub returns-in_default : goal.returns-in_default
unfolding find
returns-in_default c = let f : find c.args.e c.args.table.now.entries ≡ None = search rules in let e : c.get_mut.follows.lender-at-none.entries ≡ c.args.table.now.entries = search rules in
    e ∙ sym (ap (swapped_where c.args.e c.args.member c.args.spare c.args.table.now.entries) f)

pub returns : goal.returns
unfolding find
returns c = let f : find c.args.e c.args.table.now.entries ≡ Some c.in-Some.fixed.now = search rules in
    (c.get_mut.follows.holds _).0 ∙ (set_value_put c.args.e _ c.in-Some.fixed.now c.args.table.now.entries c.get_mut.ensures.ordered f
    ∙ (ap (λ s. put c.args.e (record { fixed = c.in-Some.fixed.now.fixed; swapped = s }) c.args.table.now.entries) c.swapped-fixed.ensures ∙ sym (ap (swapped_where c.args.e c.args.member c.args.spare c.args.table.now.entries) f)))
