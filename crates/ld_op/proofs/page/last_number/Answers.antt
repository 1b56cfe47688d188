use Rattle.std.proofs.Common.{◌<◌, ◌∙◌, sym, ap, arith, length}
use Rattle.std.proofs.lemmas.Bool.Decides.{nat_tests}
use Rattle.ld_msg.specs.declared.msg.Entry.{Entry}
use Rattle.ld_op.proofs.Pages.{last_number_is}
use Rattle.ld_op.proofs.page.last_number.Goals as goal

pub returns : goal.returns
returns c = let h : 0 < length c.args.entries.now = grind (arith, nat_tests) in
    c.number.ensures ∙ (ap (λ (e : Entry). e.number) c.index-entries-entries.is ∙ sym (last_number_is c.args.entries.now c.index-entries-entries.result h))
