use Rattle.std.proofs.Common.{◌∙◌, ap}
use Rattle.ld_op.specs.Plain.{log_of}
use Rattle.ld_store.specs.Open.{disk_of, index_of}
use Rattle.ld_node.proofs.Told.{lost_to_told}
use Rattle.ld_node.proofs.replace.lost_to.Goals as goal

pub returns : goal.returns
returns g c =
    let store = c.args.store.now in
    c.lost_to.ensures ∙ (ap (λ p. (log_of p c.args.log).lost_to) c.index.ensures.state ∙ lost_to_told (g.D.Disk.seen (disk_of store)) (index_of store) c.args.log)
