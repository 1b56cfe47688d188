use Rattle.std.proofs.Common.{◌∷◌, ◌++◌, [], Ok, ap, ◌∙◌, length, map}
use Rattle.ld_journal.specs.Format.{records}
use Rattle.ld_shared.specs.Copies.{copy_of}
use Rattle.ld_shared.proofs.Copied.{copied_more, copied_parted}
use Rattle.ld_shared.proofs.copying.copy_record.Goals as goal

pub returns-in-Ok-Some-clause-more : goal.returns-in-Ok-Some-clause-more
returns-in-Ok-Some-clause-more g c n bytes is seen len has =
    let p = c.push_found.ensures.pushed n is in
    let b = c.in-Ok-Some.ensures.body c.in-Ok-Some.next (ap (λ o. Ok o) c.in-Ok-Some.field-0-is) (records has.bodies) has.rest (copied_parted g.D.Disk.seen c.args.disk.now bytes _ _ _ has seen) (len ∙ ap length has.bytes_are) in
    copied_more bytes c.args.at c.args.number n _ _ c.read_record.new.body.items has b.0 (p.0 ∙ b.1) (p.1 ∙ ap (λ v. map (λ w. w.items) c.args.values.now.items ++ copy_of c.args.number v ∷ []) c.deref.ensures.value)
