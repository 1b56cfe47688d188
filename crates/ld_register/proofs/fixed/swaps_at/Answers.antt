use Rattle.std.proofs.Common.{◌≡◌, ◌∙◌, ap, sym, rules, Some, None}
use Rattle.ld_table.specs.Table.{find}
use Rattle.ld_register.specs.Kept.{swaps_where}
use Rattle.ld_register.proofs.fixed.swaps_at.Goals as goal

pub returns-in-Some : goal.returns-in-Some
unfolding find
returns-in-Some c = let f : find c.args.e c.args.table.now.entries ≡ Some c.in-Some.fixed.now = search rules in c.swaps_in.ensures ∙ sym (ap (swaps_where c.args.member c.args.spare) f)

pub returns-in-None : goal.returns-in-None
unfolding find
returns-in-None c = let f : find c.args.e c.args.table.now.entries ≡ None = search rules in sym (ap (swaps_where c.args.member c.args.spare) f)
