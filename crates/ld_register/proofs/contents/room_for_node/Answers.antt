use Rattle.std.proofs.Common.{◌∙◌, ap, sym, is_some}
use Rattle.ld_table.specs.Table.{find, put}
use Rattle.ld_register.proofs.Tables.{room_generation}
use Rattle.ld_register.proofs.contents.room_for_node.Goals as goal

pub returns-then-contains_key-clause-there : goal.returns-then-contains_key-clause-there
unfolding find
returns-then-contains_key-clause-there c = ap (λ i. is_some (find i c.args.generations.now.entries)) (sym c.number.ensures.value) ∙ (sym c.contains_key.ensures ∙ c.if-contains_key.true)

pub returns-clause-same : goal.returns-clause-same
unfolding find put
returns-clause-same c = (room_generation c.number.result c.number-2.result c.args.node c.args.generations.now.entries c.insert.new.self.entries c.number.ensures.value c.number-2.ensures.value c.in_ok-insert.ensures.entries c.len.ensures.ordered (sym c.contains_key.ensures ∙ c.if-contains_key.false)).0

pub returns-clause-there : goal.returns-clause-there
unfolding find put
returns-clause-there c = (room_generation c.number.result c.number-2.result c.args.node c.args.generations.now.entries c.insert.new.self.entries c.number.ensures.value c.number-2.ensures.value c.in_ok-insert.ensures.entries c.len.ensures.ordered (sym c.contains_key.ensures ∙ c.if-contains_key.false)).1
