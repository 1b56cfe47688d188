use Rattle.std.proofs.Common.{⊎_elim}
use Rattle.ld_operate.proofs.Epochs.{register_part}
use Rattle.ld_operate.proofs.registers.register_lines.Goals as goal

pub returns-clause-part : goal.returns-clause-part
returns-clause-part g c = λ x h. register_part c.show_epochs.result c.args.json x c.args.log c.args.from c.in_ok-last.last _ _ _ (c.in_ok-last.ensures.last x h) (c.in_ok-last.ensures.text x h)
    (c.show_epochs.ensures.part x (⊎_elim (λ e. absurd cc) (λ k. k) (c.in_ok-last.ensures.kept x h)))
