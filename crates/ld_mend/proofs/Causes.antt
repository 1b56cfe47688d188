-- Why it stops.
use Rattle.std.proofs.Common.{◌≡◌, ◌∙◌, ◌⊎◌, ◌≤◌, ℕ, Option, Ok, Err, refl, sym, subst, inl, inr, arith}
use Rattle.std.specs.Prelude.{MatchResult}
use Rattle.std.specs.declared.result.Result.{Result}
use Rattle.ld_io.specs.Causes.{Rose}
use Rattle.ld_wire.specs.declared.fault.WireFault.{WireFault}
use Rattle.ld_register.specs.declared.fault.RegisterFault.{RegisterFault}
use Rattle.ld_register.specs.declared.fault.RegisterFault.TheVariants as registers
use Rattle.ld_node.specs.declared.fault.NodeFault.{NodeFault}
use Rattle.ld_node.specs.declared.fault.NodeFault.TheVariants as nodes
use Rattle.ld_node.specs.Looks.{IsOfLook}
use Rattle.ld_mend.specs.Stops.{stop_of, look_stop, Counts, AreLater, IsStop, IsWriteStop, IsFetchStop, IsCarryStop, DiskCounts}
use Rattle.ld_mend.specs.declared.stop.Stop.{Stop}
use Rattle.ld_mend.specs.declared.stop.Stop.TheVariants as stops

module _ (damaged : ℕ → Type 0) (before now : Counts) (off : Option WireFault) where
  pub of_look : (fault : RegisterFault) → IsOfLook fault → (fault ≡ registers.Failed → Rose before.register now.register) → ((place : ℕ) → fault ≡ registers.Damaged place → damaged place) → IsStop damaged before now off (look_stop fault)
  of_look registers.Failed is failed whole = failed refl
  of_look (registers.Damaged place) is failed whole = whole place refl
  of_look registers.NoMemory is failed whole = tt
  of_look registers.LogLimit (inl e) failed whole = absurd cc
  of_look registers.LogLimit (inr w) failed whole = absurd (let e = w.1 in cc)
  of_look (registers.Behind lce next) (inl e) failed whole = absurd cc
  of_look (registers.Behind lce next) (inr w) failed whole = absurd (let e = w.1 in cc)
  of_look (registers.Overtaken kept) (inl e) failed whole = absurd cc
  of_look (registers.Overtaken kept) (inr w) failed whole = absurd (let e = w.1 in cc)
  of_look registers.EpochLimit (inl e) failed whole = absurd cc
  of_look registers.EpochLimit (inr w) failed whole = absurd (let e = w.1 in cc)
  of_look registers.GenLimit (inl e) failed whole = absurd cc
  of_look registers.GenLimit (inr w) failed whole = absurd (let e = w.1 in cc)
  of_look registers.SwapLimit (inl e) failed whole = absurd cc
  of_look registers.SwapLimit (inr w) failed whole = absurd (let e = w.1 in cc)
  of_look registers.Full (inl e) failed whole = absurd cc
  of_look registers.Full (inr w) failed whole = absurd (let e = w.1 in cc)

  pub of_node : (fault : NodeFault) → (fault ≡ nodes.Disk → Rose before.disk now.disk) → (fault ≡ nodes.NeedsLoad → ⊥) → ((f : RegisterFault) → fault ≡ nodes.Register f → IsOfLook f)
      → (fault ≡ nodes.Register registers.Failed → Rose before.register now.register) → ((place : ℕ) → fault ≡ nodes.Register (registers.Damaged place) → damaged place) → IsStop damaged before now off (stop_of fault)
  of_node nodes.Disk disk loads look failed whole = disk refl
  of_node nodes.NeedsLoad disk loads look failed whole = absurd (loads refl)
  of_node (nodes.Damaged place) disk loads look failed whole = tt
  of_node nodes.Full disk loads look failed whole = tt
  of_node nodes.NoMemory disk loads look failed whole = tt
  of_node (nodes.Register f) disk loads look failed whole = of_look f (look f refl) (λ e. failed (λ i. nodes.Register (e i))) (λ place e. whole place (λ i. nodes.Register (e i)))

  pub of_write : (b n : ℕ) (stop : Stop) → b ≡ before.output → n ≡ now.output → IsWriteStop b n stop → IsStop damaged before now off stop
  of_write b n stops.Write e h is = omega arith
  of_write b n stops.NoMemory e h is = tt
  of_write b n stops.Disk e h is = absurd is
  of_write b n (stops.Damaged place) e h is = absurd is
  of_write b n stops.Full e h is = absurd is
  of_write b n stops.Register e h is = absurd is
  of_write b n (stops.RegisterDamaged place) e h is = absurd is
  of_write b n (stops.BadFrame fault) e h is = absurd is

-- no write is damaged
pub whole_write : (b n : ℕ) (stop : Stop) → IsWriteStop b n stop → (place : ℕ) → stop ≡ stops.Damaged place → ⊥
whole_write b n stops.Write is place e = cc
whole_write b n stops.NoMemory is place e = cc
whole_write b n stops.Disk is place e = is
whole_write b n (stops.Damaged p) is place e = is
whole_write b n stops.Full is place e = is
whole_write b n stops.Register is place e = is
whole_write b n (stops.RegisterDamaged p) is place e = is
whole_write b n (stops.BadFrame fault) is place e = is

-- what was so since a later moment is so since an earlier one
pub stop_since : (one other : ℕ → Type 0) (first before now : Counts) (off : Option WireFault) (stop : Stop) → ((place : ℕ) → one place → other place) → AreLater first before → IsStop one before now off stop → IsStop other first now off stop
stop_since one other first before now off stops.Disk f later is = omega (arith, later.disk)
stop_since one other first before now off (stops.Damaged place) f later is = tt
stop_since one other first before now off stops.Full f later is = tt
stop_since one other first before now off stops.Register f later is = omega (arith, later.register)
stop_since one other first before now off (stops.RegisterDamaged place) f later is = f place is
stop_since one other first before now off (stops.BadFrame fault) f later is = is
stop_since one other first before now off stops.Write f later is = omega (arith, later.output)
stop_since one other first before now off stops.NoMemory f later is = tt

-- an answer that wasn't taken
pub fetch_stop : (before now : ℕ) (off : Option WireFault) (stop : Stop) → IsFetchStop off stop → IsCarryStop before now off stop
fetch_stop before now off (stops.BadFrame fault) is = is
fetch_stop before now off stops.NoMemory is = tt
fetch_stop before now off stops.Disk is = absurd is
fetch_stop before now off (stops.Damaged place) is = absurd is
fetch_stop before now off stops.Full is = absurd is
fetch_stop before now off stops.Register is = absurd is
fetch_stop before now off (stops.RegisterDamaged place) is = absurd is
fetch_stop before now off stops.Write is = absurd is

pub whole_fetch : (off : Option WireFault) (stop : Stop) → IsFetchStop off stop → (place : ℕ) → stop ≡ stops.Damaged place → ⊥
whole_fetch off (stops.BadFrame fault) is place e = cc
whole_fetch off stops.NoMemory is place e = cc
whole_fetch off stops.Disk is place e = is
whole_fetch off (stops.Damaged p) is place e = is
whole_fetch off stops.Full is place e = is
whole_fetch off stops.Register is place e = is
whole_fetch off (stops.RegisterDamaged p) is place e = is
whole_fetch off stops.Write is place e = is

-- a message that the node refused
pub of_message : (before now : ℕ) (off : Option WireFault) (fault : NodeFault) → (fault ≡ nodes.Disk → Rose before now) → (fault ≡ nodes.NeedsLoad → ⊥) → ((f : RegisterFault) → fault ≡ nodes.Register f → ⊥) → IsCarryStop before now off (stop_of fault)
of_message before now off nodes.Disk disk loads look = disk refl
of_message before now off nodes.NeedsLoad disk loads look = absurd (loads refl)
of_message before now off (nodes.Damaged place) disk loads look = tt
of_message before now off nodes.Full disk loads look = tt
of_message before now off nodes.NoMemory disk loads look = tt
of_message before now off (nodes.Register f) disk loads look = absurd (look f refl)

pub carried_since : (first before now : ℕ) (off : Option WireFault) (stop : Stop) → first ≤ before → IsCarryStop before now off stop → IsCarryStop first now off stop
carried_since first before now off stops.Disk later is = omega arith
carried_since first before now off (stops.Damaged place) later is = tt
carried_since first before now off stops.Full later is = tt
carried_since first before now off (stops.BadFrame fault) later is = is
carried_since first before now off stops.NoMemory later is = tt
carried_since first before now off stops.Register later is = absurd is
carried_since first before now off (stops.RegisterDamaged place) later is = absurd is
carried_since first before now off stops.Write later is = absurd is

pub of_carry : (damaged : ℕ → Type 0) (before now : Counts) (off : Option WireFault) (stop : Stop) → IsCarryStop before.disk now.disk off stop → IsStop damaged before now off stop
of_carry damaged before now off stops.Disk is = is
of_carry damaged before now off (stops.Damaged place) is = tt
of_carry damaged before now off stops.Full is = tt
of_carry damaged before now off (stops.BadFrame fault) is = is
of_carry damaged before now off stops.NoMemory is = tt
of_carry damaged before now off stops.Register is = absurd is
of_carry damaged before now off (stops.RegisterDamaged place) is = absurd is
of_carry damaged before now off stops.Write is = absurd is

-- ---- the count of the disk's faults ----

pub look_counts : (n : ℕ) (fault : RegisterFault) → DiskCounts n n (look_stop fault)
look_counts n registers.Failed = refl
look_counts n (registers.Damaged place) = refl
look_counts n registers.LogLimit = refl
look_counts n (registers.Behind lce next) = refl
look_counts n (registers.Overtaken kept) = refl
look_counts n registers.EpochLimit = refl
look_counts n registers.GenLimit = refl
look_counts n registers.SwapLimit = refl
look_counts n registers.Full = refl
look_counts n registers.NoMemory = refl

other_counts : (before now : ℕ) (fault : RegisterFault) → now ≡ before → DiskCounts before now (look_stop fault)
other_counts before now fault same = subst (λ (n : ℕ). DiskCounts before n (look_stop fault)) (sym same) (look_counts before fault)

pub node_counts : (before now : ℕ) (fault : NodeFault) → (fault ≡ nodes.Disk → Rose before now) → (fault ≡ nodes.NeedsLoad → ⊥) → (fault ≡ nodes.Disk) ⊎ (now ≡ before) → DiskCounts before now (stop_of fault)
node_counts before now nodes.Disk disk loads either = disk refl
node_counts before now nodes.NeedsLoad disk loads either = absurd (loads refl)
node_counts before now (nodes.Damaged place) disk loads (inl e) = absurd cc
node_counts before now (nodes.Damaged place) disk loads (inr same) = same
node_counts before now nodes.Full disk loads (inl e) = absurd cc
node_counts before now nodes.Full disk loads (inr same) = same
node_counts before now nodes.NoMemory disk loads (inl e) = absurd cc
node_counts before now nodes.NoMemory disk loads (inr same) = same
node_counts before now (nodes.Register f) disk loads (inl e) = absurd cc
node_counts before now (nodes.Register f) disk loads (inr same) = other_counts before now f same

pub write_counts : (b m before now : ℕ) (stop : Stop) → now ≡ before → IsWriteStop b m stop → DiskCounts before now stop
write_counts b m before now stops.Write same is = same
write_counts b m before now stops.NoMemory same is = same
write_counts b m before now stops.Disk same is = absurd is
write_counts b m before now (stops.Damaged place) same is = absurd is
write_counts b m before now stops.Full same is = absurd is
write_counts b m before now stops.Register same is = absurd is
write_counts b m before now (stops.RegisterDamaged place) same is = absurd is
write_counts b m before now (stops.BadFrame fault) same is = absurd is

pub fetch_counts : (n : ℕ) (off : Option WireFault) (stop : Stop) → IsFetchStop off stop → DiskCounts n n stop
fetch_counts n off (stops.BadFrame fault) is = refl
fetch_counts n off stops.NoMemory is = refl
fetch_counts n off stops.Disk is = absurd is
fetch_counts n off (stops.Damaged place) is = absurd is
fetch_counts n off stops.Full is = absurd is
fetch_counts n off stops.Register is = absurd is
fetch_counts n off (stops.RegisterDamaged place) is = absurd is
fetch_counts n off stops.Write is = absurd is

-- what was so since a later moment is so since an earlier one with the same count
pub counts_since : (first before now : ℕ) (stop : Stop) → before ≡ first → DiskCounts before now stop → DiskCounts first now stop
counts_since first before now stop same is = subst (λ (n : ℕ). DiskCounts n now stop) same is

pub ended_since : {T : Type 0} (first before now : ℕ) (ended : Result T Stop) → before ≡ first → MatchResult ended (λ _. now ≡ before) (DiskCounts before now) → MatchResult ended (λ _. now ≡ first) (DiskCounts first now)
ended_since first before now (Ok done) same is = is ∙ same
ended_since first before now (Err stop) same is = counts_since first before now stop same is
