use Rattle.std.proofs.Common.{◌∙◌, ap, refl}
use Rattle.std.specs.Option.{unwrap_or}
use Rattle.ld_table.specs.Table.{find}
use Rattle.ld_register.proofs.Tables.{generation_at}
use Rattle.ld_register.proofs.contents.Contents.generation.Goals as goal

pub returns : goal.returns
unfolding find
returns c n = c.unwrap_or.ensures ∙ (ap (λ o. unwrap_or o 0) (c.copied.ensures ∙ c.get.ensures.value)
    ∙ generation_at c.number.result c.args.node _ c.self.inside.generations.entries c.args.self.now (find c.number.result c.self.inside.generations.entries) c.self.view_is c.number.ensures.value c.len.ensures.ordered refl n)
