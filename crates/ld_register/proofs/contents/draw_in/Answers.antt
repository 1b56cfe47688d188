use Rattle.std.proofs.Common.{◌∙◌, ap, is_some}
use Rattle.ld_table.specs.Table.{find}
use Rattle.ld_register.proofs.Logs.{put_there}
use Rattle.ld_register.proofs.Tables.{drawn_generation}
use Rattle.ld_register.proofs.contents.draw_in.Goals as goal

pub returns : goal.returns
unfolding find
returns c = drawn_generation c.number.result c.args.node c.args.generation c.args.generations.now.entries c.insert.new.self.entries c.number.ensures.value
    (put_there c.insert.result c.number.result c.args.generation c.args.generations.now.entries c.insert.new.self.entries c.insert.ensures.entries c.insert.ensures.absent (ap (λ i. is_some (find i c.args.generations.now.entries)) c.number.ensures.value ∙ c.requires.room))
    c.insert.ensures.was_ordered c.requires.some
