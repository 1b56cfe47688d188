use Rattle.std.proofs.Common.{◌∙◌, ap}
use Rattle.ld_store.specs.Open.{disk_of, index_of}
use Rattle.ld_node.specs.Swaps.{can_replace}
use Rattle.ld_node.proofs.Told.{can_replace_told}
use Rattle.ld_node.proofs.replace.can_replace.Goals as goal

pub returns : goal.returns
returns g c =
    let store = c.args.store.now in
    c.may_replace.ensures ∙ (ap (λ p. can_replace c.args.id c.args.known.now p c.args.log c.args.other) c.index.ensures.state
    ∙ can_replace_told (g.D.Disk.seen (disk_of store)) c.args.id c.args.known.now (index_of store) c.args.log c.args.other)
