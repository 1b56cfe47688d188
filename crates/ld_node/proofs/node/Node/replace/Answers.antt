use Rattle.std.proofs.Common.{◌⊎◌, subst}
use Rattle.ld_msg.specs.Register.{Register as Contents}
use Rattle.ld_register.specs.Calls.{IsFree}
use Rattle.ld_register.specs.declared.fault.RegisterFault.TheVariants as faults
use Rattle.ld_node.specs.Swaps.{not_swapped}
use Rattle.ld_node.proofs.Draws.{given_by}
use Rattle.ld_node.proofs.Swaps.{swaps_end}
use Rattle.ld_node.proofs.node.Node.replace.Goals as goal

pub returns-in_err-count-clause-register_whole : goal.returns-in_err-count-clause-register_whole
returns-in_err-count-clause-register_whole g c fault is told =
    let given = c.in_err-count.field-0.0 in
    subst (λ f. IsFree (not_swapped f) ⊎ ((contents : Contents) × g.G.Register.holds c.args.reg.now contents)) (given_by c.from_residual.result given fault c.from_residual.ensures is) (c.in_err-count.ensures.whole told)

pub returns-in_err-count-clause-swaps : goal.returns-in_err-count-clause-swaps
returns-in_err-count-clause-swaps g c is told =
    let swap = c.in_err-count.ensures in
    let fault = c.in_err-count.field-0.0 in
    swaps_end (g.G.Register.holds c.args.reg.now) (g.G.Register.holds c.swap.new.self) c.args.log c.lost_to-upto.result c.args.other c.args.self.now.id fault
    (given_by c.from_residual.result fault faults.SwapLimit c.from_residual.ensures is) (swap.whole told) swap.answers
