use Rattle.std.proofs.Common.{◌≡◌, ◌==◌, ◌∙◌, length, ap, arith}
use Rattle.ld_sequencer.specs.Appends.{all_acked}
use Rattle.ld_sequencer.proofs.Settled.{none_or}
use Rattle.ld_sequencer.proofs.row.Row.is_acked.Goals as goal

pub returns : goal.returns
returns c =
    let i = c.self.inside in
    let n : c.len.result ≡ length i.waiting.items = let a = c.len.ensures in omega arith in
    ap (λ k. k == 0) n ∙ (none_or i.spec i.epoch i.window i.waiting.items c.self.invariant ∙ ap (λ r. all_acked r.spec r.appends) c.self.view_is)
