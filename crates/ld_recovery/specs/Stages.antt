-- What the stages of a recovery show, and what becomes of them.
use Rattle.std.specs.Prelude.{ℕ, ◌≡◌, List, [], Bool, true, false, ◌||◌, not, if◌then◌else◌}
use Rattle.ld_ids.specs.declared.set.Spec.{Spec}
use Rattle.ld_msg.specs.declared.msg.Entry.{Entry}
use Rattle.ld_msg.specs.declared.msg.Body.{Body}
use Rattle.ld_msg.specs.Digest.{enough, is_spent, plan, with_page, with_asks, with_lost}
use Rattle.ld_msg.specs.Sequencer as sequencer
use Rattle.ld_msg.specs.Sequencer.{settled_by, is_fully_ready, is_ready_short, summary_of, storing_of, planned, item_stores, takes_any, next_ask, next_try, next_wave, digest_asks}
use Rattle.ld_digest.specs.Gathering.{Gathering, with_told}
use Rattle.ld_recovery.specs.declared.stage.Stage.{Stage}
use Rattle.ld_recovery.specs.declared.stage.Stage.TheVariants.{Seals, Stores, Closes, Stopped}
use Rattle.ld_recovery.specs.Planning.{Plans, with_storing, IsClose}

abbrev pub shown : Stage → sequencer.Stage
shown (Seals d) = sequencer.Seals d.told
shown (Stores p) = sequencer.Stores p.storing
shown (Closes y short) = sequencer.Closes y short
shown Stopped = sequencer.Seals []

-- it has what is fixed for an epoch, is of that epoch, and closes by a sequencer
abbrev pub IsOf : Spec → ℕ → ℕ → Stage → Type 0
IsOf spec epoch ballot (Seals d) = (d.spec ≡ spec) × (d.epoch ≡ epoch)
IsOf spec epoch ballot (Stores p) = p.spec ≡ spec
IsOf spec epoch ballot (Closes y short) = IsClose ballot y
IsOf spec epoch ballot Stopped = Unit {0}

-- a plan is closed, where it is ready; the close is short, where too few nodes settled the plan
abbrev pub closed_if_ready : ℕ → List ℕ → Plans → sequencer.Stage
closed_if_ready ballot lost p = if is_fully_ready p.spec p.storing || is_ready_short p.spec lost p.storing then sequencer.Closes (summary_of ballot p.storing) (not (is_fully_ready p.spec p.storing)) else sequencer.Stores p.storing

-- the node settles the items that pass
abbrev pub settled : ℕ → List ℕ → (ℕ → Bool) → ℕ → Stage → sequencer.Stage
settled ballot lost p y (Seals d) = sequencer.Seals d.told
settled ballot lost p y (Stores g) = closed_if_ready ballot lost (with_storing g (settled_by p y g.storing))
settled ballot lost p y (Closes s short) = sequencer.Closes s short
settled ballot lost p y Stopped = sequencer.Seals []

-- what has been told is planned, where it is enough
abbrev pub gathered : Gathering → sequencer.Stage
gathered d = if enough d.spec d.told then sequencer.Stores (storing_of (plan d.epoch false d.told)) else sequencer.Seals d.told

-- the stores of that plan, or else what is still asked, unless the digest is spent
abbrev pub gathered_sends : List ℕ → Gathering → List (ℕ × Body) → List (ℕ × Body)
gathered_sends lost d asks =
    if enough d.spec d.told then item_stores d.spec lost false (plan d.epoch false d.told).lng 0 (planned (plan d.epoch false d.told).items)
    else if is_spent d.spec d.told then []
    else asks

-- a page of a node comes to a digest
abbrev pub paged : Gathering → ℕ → ℕ → ℕ → ℕ → ℕ → List Entry → Gathering
paged d y from upto trim lng es = with_told d (with_page d.epoch y from upto trim lng es d.told)

abbrev pub page_stage : Stage → ℕ → ℕ → ℕ → ℕ → ℕ → List Entry → sequencer.Stage
page_stage (Seals d) y from upto trim lng es = if takes_any y from d.told then gathered (paged d y from upto trim lng es) else sequencer.Seals d.told
page_stage (Stores p) y from upto trim lng es = sequencer.Stores p.storing
page_stage (Closes s short) y from upto trim lng es = sequencer.Closes s short
page_stage Stopped y from upto trim lng es = sequencer.Seals []

abbrev pub page_sends : List ℕ → Stage → ℕ → ℕ → ℕ → ℕ → ℕ → List Entry → List (ℕ × Body)
page_sends lost (Seals d) y from upto trim lng es = if takes_any y from d.told then gathered_sends lost (paged d y from upto trim lng es) (next_ask y (paged d y from upto trim lng es).told) else []
page_sends lost (Stores p) y from upto trim lng es = []
page_sends lost (Closes s short) y from upto trim lng es = []
page_sends lost Stopped y from upto trim lng es = []

-- a node of a digest is lost
abbrev pub with_loss : Gathering → ℕ → Gathering
with_loss d y = with_told d (with_lost y d.told)

-- what a stage has gathered: nothing of any node, where it isn't sealing
abbrev pub gathering_of : Spec → ℕ → Stage → Gathering
gathering_of spec epoch (Seals d) = d
gathering_of spec epoch (Stores p) = record { spec = spec; epoch = epoch; told = [] }
gathering_of spec epoch (Closes s short) = record { spec = spec; epoch = epoch; told = [] }
gathering_of spec epoch Stopped = record { spec = spec; epoch = epoch; told = [] }

-- a node said that it is lost, and is among the lost ones
abbrev pub loss_stage : Spec → ℕ → ℕ → List ℕ → ℕ → Stage → sequencer.Stage
loss_stage spec epoch ballot lost y (Seals d) = gathered (with_loss d y)
loss_stage spec epoch ballot lost y (Stores p) = closed_if_ready ballot lost p
loss_stage spec epoch ballot lost y (Closes s short) = sequencer.Closes s short
loss_stage spec epoch ballot lost y Stopped = gathered (with_loss (gathering_of spec epoch Stopped) y)

abbrev pub loss_sends : Spec → ℕ → List ℕ → ℕ → Stage → List (ℕ × Body)
loss_sends spec epoch lost y (Seals d) = gathered_sends lost (with_loss d y) []
loss_sends spec epoch lost y (Stores p) = []
loss_sends spec epoch lost y (Closes s short) = []
loss_sends spec epoch lost y Stopped = gathered_sends lost (with_loss (gathering_of spec epoch Stopped) y) []

-- a digest that is spent is planned
abbrev pub lossy_stage : Gathering → sequencer.Stage
lossy_stage d = sequencer.Stores (storing_of (plan d.epoch true d.told))

abbrev pub lossy_sends : List ℕ → Gathering → List (ℕ × Body)
lossy_sends lost d = item_stores d.spec lost true (plan d.epoch true d.told).lng 0 (planned (plan d.epoch true d.told).items)

-- a stage is tried again: a digest that is spent isn't asked
abbrev pub retried_stage : ℕ → List ℕ → Stage → sequencer.Stage
retried_stage ballot lost (Seals d) = if is_spent d.spec d.told then sequencer.Seals d.told else sequencer.Seals (with_asks d.epoch d.told)
retried_stage ballot lost (Stores p) = closed_if_ready ballot lost (with_storing p (next_try p.storing))
retried_stage ballot lost (Closes y short) = sequencer.Closes y short
retried_stage ballot lost Stopped = sequencer.Seals []

abbrev pub retry_sends : List ℕ → Stage → List (ℕ × Body)
retry_sends lost (Seals d) = if is_spent d.spec d.told then [] else digest_asks (with_asks d.epoch d.told)
retry_sends lost (Stores p) = item_stores p.spec lost p.storing.loss p.storing.lng (next_wave p.storing.wave) p.storing.items
retry_sends lost (Closes y short) = []
retry_sends lost Stopped = []
