use Rattle.std.proofs.Common.{sym, ap, ◌∙◌, ◌++◌, take, drop}
use Rattle.ld_io.proofs.ReadFront.{read_gives, gave_more}
use Rattle.ld_io.proofs.memory.MemSourceSource.read.Goals as goal

pub returns-clause-bytes : goal.returns-clause-bytes
returns-clause-bytes c =
    let given = read_gives _ c.deref-2.result.now _ c.copy_from_slice.new.self _ _ c.deref-2.ensures.value c.copy_from_slice.ensures.after c.min-count.ensures in
    (sym (ap (λ s. s.left) c.self.view_is) ∙ given.0, given.1)

pub returns-clause-gives : goal.returns-clause-gives
returns-clause-gives c =
    gave_more _ c.deref-2.result.now _ c.copy_from_slice.new.self _ _ c.deref-2.ensures.value c.copy_from_slice.ensures.after c.min-count.ensures
    ∙ ap (λ g. g ++ take c.min-count.result (c.copy_from_slice.new.self ++ drop c.min-count.result c.args.buf.now)) (ap (λ s. s.gave) c.self.view_is)
