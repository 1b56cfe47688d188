use Rattle.std.proofs.Common.{inl}
use Rattle.ld_disk.proofs.Runs.{started}
use Rattle.ld_node.proofs.Filled.{on_some}
use Rattle.ld_node.proofs.Loading.{load_refused, refused_exact}
use Rattle.ld_node.proofs.node.Node.load.Goals as goal

pub returns-in-Err-load-clause-marks : goal.returns-in-Err-load-clause-marks
returns-in-Err-load-clause-marks g c p was told reads = rw c.from.ensures (load_refused was.layout was.slots p (g.D.Disk.plain c.in-Err-load.disk) c.in-Err-load.fault (c.in-Err-load.ensures.marks p was told reads))

pub returns-in-Err-load-clause-exact : goal.returns-in-Err-load-clause-exact
returns-in-Err-load-clause-exact g c p state told reads stands none = rw c.from.ensures (refused_exact c.in-Err-load.fault _ _ _ (c.in-Err-load.ensures.exact p state told reads stands none))

pub returns-in-Err-clause-any_moment : goal.returns-in-Err-clause-any_moment
returns-in-Err-clause-any_moment g c =
    let D = g.D.Disk in
    on_some (D.seen c.args.disk) _ (λ bytes. started D.moment D.left_since c.args.disk _ (λ left is. inl (g.met.D.Disk.only_now c.args.disk left is)))
