-- A node's stop by its status.
use Rattle.std.proofs.Common.{◌≡◌, ℕ, sym, subst}
use Rattle.ld_serve.specs.declared.stop.Stop.{Stop}
use Rattle.ld_serve.specs.declared.stop.Stop.TheVariants as stops
use Rattle.ld_cli.specs.declared.status.Status.{Status}
use Rattle.ld_serve.specs.Stops.{LinkCounts}
use Rattle.ld_cli.specs.Serving.{status_of, EndsServing, LinkFaults}

ends_by : (served : Type 0) (stopped : Stop → Type 0) (stop : Stop) → stopped stop → EndsServing served stopped (status_of stop)
ends_by served stopped stops.NoMemory p = p
ends_by served stopped stops.Disk p = p
ends_by served stopped stops.Register p = p
ends_by served stopped stops.Link p = p
ends_by served stopped (stops.BadFrame fault) p = p
ends_by served stopped (stops.Damaged which place) p = p
ends_by served stopped stops.Blank p = p
ends_by served stopped (stops.Full which) p = p
ends_by served stopped stops.GenLimit p = p

pub ends_so : (served : Type 0) (stopped : Stop → Type 0) (stop : Stop) (status : Status) → status ≡ status_of stop → stopped stop → EndsServing served stopped status
ends_so served stopped stop status is p = subst (EndsServing served stopped) (sym is) (ends_by served stopped stop p)

-- the count of a crowd's faults
link_by : (before now : ℕ) (stop : Stop) → LinkCounts before now stop → LinkFaults before now (status_of stop)
link_by before now stops.NoMemory p = p
link_by before now stops.Disk p = p
link_by before now stops.Register p = p
link_by before now stops.Link p = p
link_by before now (stops.BadFrame fault) p = p
link_by before now (stops.Damaged which place) p = p
link_by before now stops.Blank p = p
link_by before now (stops.Full which) p = p
link_by before now stops.GenLimit p = p

pub link_so : (before now : ℕ) (stop : Stop) (status : Status) → status ≡ status_of stop → LinkCounts before now stop → LinkFaults before now status
link_so before now stop status is p = subst (LinkFaults before now) (sym is) (link_by before now stop p)
