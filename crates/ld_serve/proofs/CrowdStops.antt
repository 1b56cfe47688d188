-- Reasons to stop while a node serves a crowd, and what they say of the counts of faults.
use Rattle.std.proofs.Common.{◌≡◌, ◌≤◌, ◌<◌, ◌⊎◌, inl, inr, ℕ, List, ◌∷◌, length, refl, ap, arith}
use Rattle.std.specs.Prelude.{MatchResult, IfOk, IfErr}
use Rattle.std.specs.declared.result.Result.{Result}
use Rattle.std.specs.declared.result.Result.TheVariants.{Ok, Err}
use Rattle.ld_wire.specs.declared.fault.WireFault.{WireFault}
use Rattle.ld_wire.specs.declared.fault.WireFault.TheVariants as faults
use Rattle.ld_wire.specs.Judging.{Reading, Refused}
use Rattle.ld_wire.specs.Faults.{IsRefused}
use Rattle.ld_past.specs.Events.{Event}
use Rattle.ld_crowd.specs.Calls.{dismissed}
use Rattle.ld_serve.specs.declared.stop.Stop.{Stop}
use Rattle.ld_serve.specs.declared.stop.Stop.TheVariants.{NoMemory, Disk, Register, Link, BadFrame, Damaged, Blank, Full, GenLimit}
use Rattle.ld_serve.specs.declared.stop.Which.TheVariants as journals
use Rattle.ld_serve.specs.Stops.{IsNodeStop, LinkCounts, DiskCounts}
use Rattle.ld_serve.specs.Talking.{IsBetweenStop}
use Rattle.ld_serve.specs.Crowd.{IsCrowdStop}

-- a fault other than want of memory is what the bytes begin with
pub refused_by : (r : Reading) (fault : WireFault) → (fault ≡ faults.NoMemory → ⊥) → IsRefused r fault → (f : WireFault) × (r ≡ Refused f)
refused_by r faults.NoMemory other is = absurd (other refl)
refused_by r (faults.TooLong n) other is = (faults.TooLong n, is)
refused_by r (faults.BadKind k) other is = (faults.BadKind k, is)
refused_by r (faults.BadField k place) other is = (faults.BadField k place, is)

pub between_crowd : (Is : Type 0) (stop : Stop) → IsBetweenStop stop → IsCrowdStop Is stop
between_crowd Is NoMemory u = tt
between_crowd Is Disk u = absurd u
between_crowd Is Register u = absurd u
between_crowd Is Link u = tt
between_crowd Is (BadFrame fault) u = absurd u
between_crowd Is (Damaged which place) u = absurd u
between_crowd Is Blank u = absurd u
between_crowd Is (Full which) u = absurd u
between_crowd Is GenLimit u = absurd u

pub node_crowd : (Is : Type 0) (stop : Stop) → IsNodeStop Is stop → IsCrowdStop Is stop
node_crowd Is NoMemory u = tt
node_crowd Is Disk u = tt
node_crowd Is Register u = absurd u
node_crowd Is Link u = absurd u
node_crowd Is (BadFrame fault) u = absurd u
node_crowd Is (Damaged journals.Store place) u = u
node_crowd Is (Damaged journals.Register place) u = absurd u
node_crowd Is Blank u = absurd u
node_crowd Is (Full journals.Store) u = tt
node_crowd Is (Full journals.Register) u = absurd u
node_crowd Is GenLimit u = absurd u

pub memory_crowd : (Is : Type 0) (stop : Stop) → stop ≡ NoMemory → IsCrowdStop Is stop
memory_crowd Is stop is = rw is tt

pub between_disk : (stop : Stop) (n : ℕ) → IsBetweenStop stop → DiskCounts n n stop
between_disk NoMemory n u = refl
between_disk Disk n u = absurd u
between_disk Register n u = absurd u
between_disk Link n u = refl
between_disk (BadFrame fault) n u = absurd u
between_disk (Damaged which place) n u = absurd u
between_disk Blank n u = absurd u
between_disk (Full which) n u = absurd u
between_disk GenLimit n u = absurd u

-- a node refuses nothing for the crowd's sake
node_link : (Is : Type 0) (stop : Stop) (before now : ℕ) → now ≡ before → IsNodeStop Is stop → LinkCounts before now stop
node_link Is NoMemory before now e u = e
node_link Is Disk before now e u = e
node_link Is Register before now e u = absurd u
node_link Is Link before now e u = absurd u
node_link Is (BadFrame fault) before now e u = absurd u
node_link Is (Damaged which place) before now e u = e
node_link Is Blank before now e u = absurd u
node_link Is (Full which) before now e u = e
node_link Is GenLimit before now e u = absurd u

-- where it holds less, it may stop so too
pub crowd_where : (Held Told : Type 0) → (Told → Held) → (stop : Stop) → IsCrowdStop Held stop → IsCrowdStop Told stop
crowd_where Held Told f NoMemory u = tt
crowd_where Held Told f Disk u = tt
crowd_where Held Told f Register u = absurd u
crowd_where Held Told f Link u = tt
crowd_where Held Told f (BadFrame fault) u = absurd u
crowd_where Held Told f (Damaged journals.Store place) u = λ told. u (f told)
crowd_where Held Told f (Damaged journals.Register place) u = absurd u
crowd_where Held Told f Blank u = absurd u
crowd_where Held Told f (Full journals.Store) u = tt
crowd_where Held Told f (Full journals.Register) u = absurd u
crowd_where Held Told f GenLimit u = absurd u

-- where less is known to be held
pub less_held : (Held Told : Type 0) → (Told → Held) → (stop : Stop) → IsNodeStop Held stop → IsNodeStop Told stop
less_held Held Told f NoMemory u = tt
less_held Held Told f Disk u = tt
less_held Held Told f Register u = absurd u
less_held Held Told f Link u = absurd u
less_held Held Told f (BadFrame fault) u = absurd u
less_held Held Told f (Damaged journals.Store place) u = λ told. u (f told)
less_held Held Told f (Damaged journals.Register place) u = absurd u
less_held Held Told f Blank u = absurd u
less_held Held Told f (Full journals.Store) u = tt
less_held Held Told f (Full journals.Register) u = absurd u
less_held Held Told f GenLimit u = absurd u

pub disk_or_not : (stop : Stop) → (stop ≡ Disk) ⊎ (stop ≡ Disk → ⊥)
disk_or_not NoMemory = inr (λ e. cc e)
disk_or_not Disk = inl refl
disk_or_not Register = inr (λ e. cc e)
disk_or_not Link = inr (λ e. cc e)
disk_or_not (BadFrame fault) = inr (λ e. cc e)
disk_or_not (Damaged which place) = inr (λ e. cc e)
disk_or_not Blank = inr (λ e. cc e)
disk_or_not (Full which) = inr (λ e. cc e)
disk_or_not GenLimit = inr (λ e. cc e)

pub other_counts : (stop : Stop) (before now : ℕ) → (stop ≡ Disk → ⊥) → now ≡ before → DiskCounts before now stop
other_counts NoMemory before now other e = e
other_counts Disk before now other e = absurd (other refl)
other_counts Register before now other e = e
other_counts Link before now other e = e
other_counts (BadFrame fault) before now other e = e
other_counts (Damaged which place) before now other e = e
other_counts Blank before now other e = e
other_counts (Full which) before now other e = e
other_counts GenLimit before now other e = e

-- ---- of a call ----

pub either_way : (P : Type 0) (r : Result ℕ Stop) → P → MatchResult r (λ _. P) (λ _. Unit {0})
either_way P (Ok b) x = x
either_way P (Err stop) x = tt

pub heard_crowd : (Is : Type 0) (r : Result ℕ Stop) → IfErr r IsBetweenStop → IfErr r (IsCrowdStop Is)
heard_crowd Is (Ok b) u = tt
heard_crowd Is (Err stop) u = between_crowd Is stop u

pub taken_crowd : (Is : Type 0) (r : Result ℕ Stop) → IfErr r (IsNodeStop Is) → IfErr r (IsCrowdStop Is)
taken_crowd Is (Ok b) u = tt
taken_crowd Is (Err stop) u = node_crowd Is stop u

pub aside_crowd : (Is : Type 0) (r : Result ℕ Stop) → IfErr r (λ stop. stop ≡ NoMemory) → IfErr r (IsCrowdStop Is)
aside_crowd Is (Ok b) u = tt
aside_crowd Is (Err stop) u = memory_crowd Is stop u

pub heard_disk : (r : Result ℕ Stop) (n : ℕ) → IfErr r IsBetweenStop → MatchResult r (λ _. n ≡ n) (DiskCounts n n)
heard_disk (Ok b) n u = refl
heard_disk (Err stop) n u = between_disk stop n u

pub aside_disk : (r : Result ℕ Stop) (n : ℕ) → IfErr r (λ stop. stop ≡ NoMemory) → MatchResult r (λ _. n ≡ n) (DiskCounts n n)
aside_disk (Ok b) n u = refl
aside_disk (Err stop) n u = rw u refl

pub aside_link : (r : Result ℕ Stop) (before now : ℕ) → now ≡ before → IfErr r (λ stop. stop ≡ NoMemory) → MatchResult r (λ _. now ≡ before) (LinkCounts before now)
aside_link (Ok b) before now e u = e
aside_link (Err stop) before now e u = rw u e

pub taken_link : (Is : Type 0) (r : Result ℕ Stop) (before now : ℕ) → now ≡ before → IfErr r (IsNodeStop Is) → MatchResult r (λ _. now ≡ before) (LinkCounts before now)
taken_link Is (Ok b) before now e u = e
taken_link Is (Err stop) before now e u = node_link Is stop before now e u

-- how many turns a call took
pub few_of_one : (r : Result ℕ Stop) (most : ℕ) → 0 < most → IfOk r (λ n. n ≤ 1) → IfOk r (λ n. n ≤ most)
few_of_one (Ok n) most some few = omega (arith, some, few)
few_of_one (Err stop) most some few = tt

pub few_as : (r : Result ℕ Stop) (P : ℕ → Type 0) (k most : ℕ) → k ≤ most → IfOk r (λ n. (n ≡ k) × P n) → IfOk r (λ n. n ≤ most)
few_as (Ok n) P k most few is = omega (arith, few, is.0)
few_as (Err stop) P k most few is = tt

-- what says less of a call without memory
pub memory_alone : (P : Type 0) (r : Result ℕ Stop) → IfErr r (λ stop. (stop ≡ NoMemory) × P) → IfErr r (λ stop. stop ≡ NoMemory)
memory_alone P (Ok b) u = tt
memory_alone P (Err stop) u = u.0

-- a peer was dismissed, or there was no memory
pub refused_asked : (P : Type 0) (did new : List Event) (p : ℕ) (r : Result ℕ Stop) → IfOk r (λ b. (b ≡ 1) × (new ≡ dismissed p ∷ did) × P) → IfErr r (λ stop. (stop ≡ NoMemory) × (new ≡ did)) → length did ≤ length new
refused_asked P did new p (Ok b) off none = (let e = ap length off.1 in omega (arith, e))
refused_asked P did new p (Err stop) off none = (let e = ap length none.1 in omega (arith, e))
