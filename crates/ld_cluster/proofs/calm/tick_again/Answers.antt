use Rattle.std.proofs.Common.{List, ◌∷◌, ◌∙◌, ap, sym, if◌then◌else◌}
use Rattle.ld_machine.specs.Calm.{Left, Ticks}
use Rattle.ld_cluster.specs.declared.part.Part.TheVariants as parts
use Rattle.ld_cluster.specs.Calming.{left_in}
use Rattle.ld_cluster.proofs.Calming.{left_last}
use Rattle.ld_cluster.proofs.calm.tick_again.Goals as goal

pub returns-in_ok-push : goal.returns-in_ok-push
returns-in_ok-push c =
    let ps : List Left = left_in c.args.left.now.items in
    left_last c.args.left.now.items c.push.new.self.items (parts.Ticks c.args.log c.args.node) c.in_ok-push.ensures.items ∙ sym (ap (λ b. if b then Ticks c.args.log c.args.node ∷ ps else ps) c.if-cleaned.true)
