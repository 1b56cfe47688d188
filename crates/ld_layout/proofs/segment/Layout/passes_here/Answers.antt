use Rattle.std.proofs.Common.{◌+◌, ◌∙◌, ap, sym, arith}
use Rattle.ld_msg.specs.Register.{record_length, journal_limit}
use Rattle.ld_layout.specs.LaidOut.{passes_first}
use Rattle.ld_layout.proofs.Segments.{same_less}
use Rattle.ld_layout.proofs.segment.Layout.passes_here.Goals as goal

pub returns-in-Some : goal.returns-in-Some
returns-in-Some c = sym (ap (passes_first c.args.self.now.end c.args.body) c.in-Some.is)

pub returns-in-None : goal.returns-in-None
returns-in-None c =
    let a = c.saturating_add.ensures in
    let b = c.saturating_add-in-None.ensures in
    same_less journal_limit c.saturating_add-in-None.result (c.args.self.now.end + 1 + record_length c.args.body) (λ l. omega arith) (λ l. omega arith) ∙ sym (ap (passes_first c.args.self.now.end c.args.body) c.in-None.is)
