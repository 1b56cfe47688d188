use Rattle.std.proofs.Common.{◌∙◌, subst, ⊎_elim}
use Rattle.ld_node.specs.Node.{id_of, known_of, plain_of}
use Rattle.ld_node.specs.Swaps as nodes
use Rattle.ld_node.specs.declared.fault.NodeFault.TheVariants as faults
use Rattle.ld_node.proofs.Swaps.{counted_is, refused_is}
use Rattle.ld_host.proofs.Answering.{ok_no_error, error_in}
use Rattle.ld_host.proofs.Swapping.{no_refusal, replaced_is, after_is}
use Rattle.ld_host.proofs.replace.replace.Goals as goal

pub returns-in-Ok : goal.returns-in-Ok
returns-in-Ok g c settings n x r runs tells =
    let node = c.args.node.now in
    let told = nodes.replaced (id_of node) (known_of node) (plain_of node) c.args.log c.args.other r in
    let done = ⊎_elim (λ no. absurd (ok_no_error c.in-Ok.count faults.NoMemory no.0)) (λ is. is) (c.in-Ok.ensures.exact r runs.holds.works tells) in
    (counted_is told c.in-Ok.count done.0 ∙ replaced_is settings n node x c.args.log c.args.other runs r, subst (g.G.Register.tells c.replace.new.reg) (after_is settings n node x c.args.log c.args.other runs r) done.1)

pub returns-in_ok-refusal-in-Err : goal.returns-in_ok-refusal-in-Err
returns-in_ok-refusal-in-Err g c settings n x r runs tells =
    let node = c.args.node.now in
    let told = nodes.replaced (id_of node) (known_of node) (plain_of node) c.args.log c.args.other r in
    let fault = c.in-Err.fault in
    let refusal = c.in_ok-refusal-in-Err.refusal in
    let named = c.in_ok-refusal-in-Err.ensures.other in
    let done = ⊎_elim (λ no. absurd (no_refusal fault refusal (error_in fault _ no.0) named)) (λ is. is) (c.in-Err.ensures.exact r runs.holds.works tells) in
    (refused_is told fault refusal done.0 named ∙ replaced_is settings n node x c.args.log c.args.other runs r, subst (g.G.Register.tells c.replace.new.reg) (after_is settings n node x c.args.log c.args.other runs r) done.1)
