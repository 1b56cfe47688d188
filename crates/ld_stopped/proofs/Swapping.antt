-- A swap, and what is written of it.
use Rattle.std.proofs.Common.{◌≡◌, ◌⊎◌, ◌≤◌, ◌-◌, ◌^◌, ℕ, List, ◌++◌, true, false, Option, Some, Ok, Err, refl, ap, subst, inl, inr, ⊎_elim}
use Rattle.std.specs.Prelude.{MatchResult, IfErr, OnOk, IsErrOf}
use Rattle.std.specs.declared.result.Result.{Result}
use Rattle.ld_io.specs.Causes.{Rose}
use Rattle.ld_msg.specs.Register.{Register as Contents, epochs_of}
use Rattle.ld_op.specs.Plain.{Plain}
use Rattle.ld_store.specs.Ops.{StandsFor}
use Rattle.ld_register.specs.declared.fault.RegisterFault.{RegisterFault}
use Rattle.ld_register.specs.declared.fault.RegisterFault.TheVariants as registers
use Rattle.ld_register.specs.Calls.{ChangedOrNot, is_full, swap_length}
use Rattle.ld_node.specs.declared.fault.NodeFault.{NodeFault}
use Rattle.ld_node.specs.declared.fault.NodeFault.TheVariants as nodes
use Rattle.ld_node.specs.Known.{Known}
use Rattle.ld_node.specs.Swaps.{can_replace, replaced, after_replace, passed_on, counted, not_swapped}
use Rattle.ld_serve.specs.declared.stop.Which.TheVariants.{Store, Register}
use Rattle.ld_stopped.specs.declared.stop.Stop.{Stop}
use Rattle.ld_stopped.specs.declared.stop.Stop.TheVariants as stops
use Rattle.ld_stopped.specs.Opening.{IsLoadStop, IsNotLoaded}
use Rattle.ld_stopped.specs.Output.{Tells}
use Rattle.ld_stopped.specs.Replacing.{HasSwapped, IsRefused, EndsReplacing, Replaces, IsSwapStop}
use Rattle.ld_stopped.specs.Stops.{stop_of_swap, stop_of_replace, DiskCounts, OutputCounts, RegisterCounts}

abbrev swapped_in : ℕ → Result ℕ NodeFault
swapped_in count = Ok count

abbrev refused_by : NodeFault → Result ℕ NodeFault
refused_by fault = Err fault

-- ---- an answer that was passed on ----

passed_count : (count : ℕ) (answer : Result ℕ RegisterFault) → swapped_in count ≡ passed_on answer → counted count ≡ answer
passed_count count (Ok n) e = let same : count ≡ n = cc in ap counted same
passed_count count (Err fault) e = absurd cc

passed_fault : (fault : RegisterFault) (answer : Result ℕ RegisterFault) → refused_by (nodes.Register fault) ≡ passed_on answer → not_swapped fault ≡ answer
passed_fault fault (Ok n) e = absurd cc
passed_fault fault (Err registers.NoMemory) e = absurd cc
passed_fault fault (Err registers.Failed) e = let same : fault ≡ registers.Failed = cc in ap not_swapped same
passed_fault fault (Err (registers.Damaged place)) e = let same : fault ≡ registers.Damaged place = cc in ap not_swapped same
passed_fault fault (Err registers.LogLimit) e = let same : fault ≡ registers.LogLimit = cc in ap not_swapped same
passed_fault fault (Err (registers.Behind lce next)) e = let same : fault ≡ registers.Behind lce next = cc in ap not_swapped same
passed_fault fault (Err (registers.Overtaken kept)) e = let same : fault ≡ registers.Overtaken kept = cc in ap not_swapped same
passed_fault fault (Err registers.EpochLimit) e = let same : fault ≡ registers.EpochLimit = cc in ap not_swapped same
passed_fault fault (Err registers.GenLimit) e = let same : fault ≡ registers.GenLimit = cc in ap not_swapped same
passed_fault fault (Err registers.SwapLimit) e = let same : fault ≡ registers.SwapLimit = cc in ap not_swapped same
passed_fault fault (Err registers.Full) e = let same : fault ≡ registers.Full = cc in ap not_swapped same

-- ---- how it ends where the register tells what each call will do ----

module _ (tells : Contents → Type 0) (answer : Result ℕ RegisterFault) (c after : Contents) (text : ℕ → List ℕ) (old new : List ℕ) where
  ends_told : (count : ℕ) (r : Result Unit Stop) → counted count ≡ answer → tells after → Tells old new (text count) r → EndsReplacing tells answer c after text old new r
  ends_told count (Ok done) swapped holds told = record { count = count; swapped = swapped; holds = holds; written = told }
  ends_told count (Err stops.Write) swapped holds told = record { count = count; swapped = swapped; holds = holds; written = told }
  ends_told count (Err stops.NoMemory) swapped holds told = inr holds
  ends_told count (Err stops.Disk) swapped holds told = absurd told
  ends_told count (Err stops.Register) swapped holds told = absurd told
  ends_told count (Err (stops.BadFrame fault)) swapped holds told = absurd told
  ends_told count (Err (stops.Damaged which place)) swapped holds told = absurd told
  ends_told count (Err stops.Blank) swapped holds told = absurd told
  ends_told count (Err (stops.Full which)) swapped holds told = absurd told
  ends_told count (Err stops.SwapLimit) swapped holds told = absurd told

  abbrev Passed : NodeFault → Type 0
  Passed fault = (IsErrOf (refused_by fault) nodes.NoMemory × tells c) ⊎ ((refused_by fault ≡ passed_on answer) × tells after)

  either_way : (fault : NodeFault) → Passed fault → tells c ⊎ tells after
  either_way fault passed = ⊎_elim (λ was. inl was.1) (λ was. inr was.1) passed

  refused_so : (fault : RegisterFault) → Passed (nodes.Register fault) → IsRefused tells answer after fault
  refused_so fault (inl was) = absurd cc
  refused_so fault (inr was) = record { refused = passed_fault fault answer was.0; holds = was.1 }

  ends_refused : (fault : NodeFault) → Passed fault → EndsReplacing tells answer c after text old new (Err (stop_of_replace fault))
  ends_refused nodes.Disk passed = either_way nodes.Disk passed
  ends_refused (nodes.Damaged place) passed = either_way (nodes.Damaged place) passed
  ends_refused nodes.Full passed = either_way nodes.Full passed
  ends_refused nodes.NeedsLoad passed = either_way nodes.NeedsLoad passed
  ends_refused nodes.NoMemory passed = either_way nodes.NoMemory passed
  ends_refused (nodes.Register registers.Failed) passed = refused_so registers.Failed passed
  ends_refused (nodes.Register (registers.Damaged place)) passed = refused_so (registers.Damaged place) passed
  ends_refused (nodes.Register registers.SwapLimit) passed = refused_so registers.SwapLimit passed
  ends_refused (nodes.Register registers.Full) passed = refused_so registers.Full passed
  ends_refused (nodes.Register registers.LogLimit) passed = either_way (nodes.Register registers.LogLimit) passed
  ends_refused (nodes.Register (registers.Behind lce next)) passed = either_way (nodes.Register (registers.Behind lce next)) passed
  ends_refused (nodes.Register (registers.Overtaken kept)) passed = either_way (nodes.Register (registers.Overtaken kept)) passed
  ends_refused (nodes.Register registers.EpochLimit) passed = either_way (nodes.Register registers.EpochLimit) passed
  ends_refused (nodes.Register registers.GenLimit) passed = either_way (nodes.Register registers.GenLimit) passed
  ends_refused (nodes.Register registers.NoMemory) passed = either_way (nodes.Register registers.NoMemory) passed

  -- the store wasn't opened, though its bytes represent a plain state
  ends_unasked : (before now : ℕ) (bytes : List ℕ) (p : Plain) (stop : Stop) → StandsFor p bytes → IsLoadStop before now (Some bytes) stop → tells c → EndsReplacing tells answer c after text old new (Err stop)
  ends_unasked before now bytes p stops.NoMemory stands is holds = inl holds
  ends_unasked before now bytes p stops.Disk stands is holds = holds
  ends_unasked before now bytes p (stops.Damaged Store place) stands is holds = is.none p stands
  ends_unasked before now bytes p (stops.Damaged Register place) stands is holds = absurd is
  ends_unasked before now bytes p stops.Blank stands is holds = holds
  ends_unasked before now bytes p (stops.Full Store) stands is holds = holds
  ends_unasked before now bytes p (stops.Full Register) stands is holds = absurd is
  ends_unasked before now bytes p stops.Register stands is holds = absurd is
  ends_unasked before now bytes p stops.Write stands is holds = absurd is
  ends_unasked before now bytes p (stops.BadFrame fault) stands is holds = absurd is
  ends_unasked before now bytes p stops.SwapLimit stands is holds = absurd is

-- ---- the whole ----

abbrev stop_in : Result ℕ NodeFault → Result Unit Stop
stop_in (Ok count) = Ok tt
stop_in (Err fault) = Err (stop_of_replace fault)

module _ (id : ℕ) (known : Known) (p : Plain) (l other : ℕ) (Told Same : Type 0) (tells tells_now holds holds_now may may_now : Contents → Type 0) (text : ℕ → List ℕ) (old new : List ℕ) where
  abbrev answer_of : Contents → Result ℕ RegisterFault
  answer_of c = replaced id known p l other c

  abbrev after_of : Contents → Contents
  after_of c = after_replace id known p l other c

  done_so : (count : ℕ) (r : Result Unit Stop) (c : Contents) → counted count ≡ answer_of c → holds_now (after_of c) → Tells old new (text count) r → OnOk r (HasSwapped holds_now (answer_of c) (after_of c) (λ n. new ≡ old ++ text n))
  done_so count (Ok done) c swapped held told = record { count = count; swapped = swapped; holds = held; written = told }
  done_so count (Err stop) c swapped held told = tt

  told_exact : (count : ℕ) (r : Result Unit Stop) (c : Contents) → Tells old new (text count) r
      → (IsErrOf (swapped_in count) nodes.NoMemory × tells_now c) ⊎ ((swapped_in count ≡ passed_on (answer_of c)) × tells_now (after_of c))
      → EndsReplacing tells_now (answer_of c) c (after_of c) text old new r
  told_exact count r c told (inl was) = absurd cc
  told_exact count r c told (inr was) = ends_told tells_now (answer_of c) c (after_of c) text old new count r (passed_count count (answer_of c) was.0) was.1 told

  -- the register swapped in so many epochs
  pub replaces_told : (count : ℕ) (r : Result Unit Stop) → Tells old new (text count) r
      → ((c : Contents) → holds c → (counted count ≡ answer_of c) × holds_now (after_of c))
      → ((c : Contents) → tells c → (IsErrOf (swapped_in count) nodes.NoMemory × tells_now c) ⊎ ((swapped_in count ≡ passed_on (answer_of c)) × tells_now (after_of c)))
      → (can_replace id known p l other ≡ false → Same) → (Told → ChangedOrNot may may_now after_of)
      → Replaces id known p l other Told Same tells tells_now holds holds_now may may_now text old new r
  replaces_told count r told swapped exact idle either = record {
    done = λ c held. let was = swapped c held in done_so count r c was.0 was.1 told;
    exact = λ c foretold. told_exact count r c told (exact c foretold);
    idle = idle;
    done_or_not = either;
    held = λ c held. inr (inr (swapped c held).1);
  }

  -- it refused
  pub replaces_refused : (fault : NodeFault)
      → ((c : Contents) → tells c → (IsErrOf (refused_by fault) nodes.NoMemory × tells_now c) ⊎ ((refused_by fault ≡ passed_on (answer_of c)) × tells_now (after_of c)))
      → (can_replace id known p l other ≡ false → Same) → (Told → ChangedOrNot may may_now after_of)
      → ((c : Contents) → holds c → IsErrOf (refused_by fault) (nodes.Register registers.Failed) ⊎ holds_now c ⊎ holds_now (after_of c))
      → Replaces id known p l other Told Same tells tells_now holds holds_now may may_now text old new (Err (stop_of_replace fault))
  replaces_refused fault exact idle either held = record {
    done = λ c held. tt;
    exact = λ c foretold. ends_refused tells_now (answer_of c) c (after_of c) text old new fault (exact c foretold);
    idle = idle;
    done_or_not = either;
    held = λ c was. ⊎_elim (λ e. inl (ap stop_in e)) inr (held c was);
  }

-- it wasn't asked
pub replaces_unasked : (id : ℕ) (known : Known) (p : Plain) (l other : ℕ) (Told Same : Type 0) (tells holds may : Contents → Type 0) (text : ℕ → List ℕ) (old new : List ℕ) (before now : ℕ) (bytes : List ℕ) (seen seen_now : Option (List ℕ)) (could may_now : List ℕ → Type 0) (stop : Stop)
    → StandsFor p bytes → seen ≡ Some bytes → IsNotLoaded before now seen seen_now could may_now stop → Same → Replaces id known p l other Told Same tells tells holds holds may may text old new (Err stop)
replaces_unasked id known p l other Told Same tells holds may text old new before now bytes seen seen_now could may_now stop stands e unopened same = record {
  done = λ c held. tt;
  exact = λ c foretold. ends_unasked tells (replaced id known p l other c) c (after_replace id known p l other c) text old new before now bytes p stop stands (subst (λ (o : Option (List ℕ)). IsLoadStop before now o stop) e unopened.cause) foretold;
  idle = λ e. same;
  done_or_not = λ told c held. (c, held, inl refl);
  held = λ c was. inr (inl was);
}

-- ---- causes and counts ----

module _ (register register_now : ℕ) (Told : Type 0) (holds : Contents → Type 0) (damaged : ℕ → Type 0) (l output output_now : ℕ) where
  abbrev Stops : Stop → Type 0
  Stops stop = IsSwapStop register register_now Told holds damaged l output output_now stop

  pub swap_caused : (fault : NodeFault) → (fault ≡ nodes.Register registers.Failed → Rose register register_now) → ((place : ℕ) → fault ≡ nodes.Register (registers.Damaged place) → Told → damaged place)
      → (fault ≡ nodes.Register registers.SwapLimit → Told → (c : Contents) × holds c × (2 ^ 32 - 1 ≤ (epochs_of c l).swaps)) → (fault ≡ nodes.Register registers.Full → Told → (c : Contents) × holds c × (is_full c swap_length ≡ true))
      → Stops (stop_of_replace fault)
  swap_caused nodes.Disk failed place swaps full = tt
  swap_caused (nodes.Damaged at) failed place swaps full = tt
  swap_caused nodes.Full failed place swaps full = tt
  swap_caused nodes.NeedsLoad failed place swaps full = tt
  swap_caused nodes.NoMemory failed place swaps full = tt
  swap_caused (nodes.Register registers.Failed) failed place swaps full = failed refl
  swap_caused (nodes.Register (registers.Damaged at)) failed place swaps full = place at refl
  swap_caused (nodes.Register registers.SwapLimit) failed place swaps full = swaps refl
  swap_caused (nodes.Register registers.Full) failed place swaps full = full refl
  swap_caused (nodes.Register registers.LogLimit) failed place swaps full = tt
  swap_caused (nodes.Register (registers.Behind lce next)) failed place swaps full = tt
  swap_caused (nodes.Register (registers.Overtaken kept)) failed place swaps full = tt
  swap_caused (nodes.Register registers.EpochLimit) failed place swaps full = tt
  swap_caused (nodes.Register registers.GenLimit) failed place swaps full = tt
  swap_caused (nodes.Register registers.NoMemory) failed place swaps full = tt

  pub told_caused : (old new text : List ℕ) (r : Result Unit Stop) → Tells old new text r → MatchResult r (λ _. output_now ≡ output) (OutputCounts output output_now) → IfErr r Stops
  told_caused old new text (Ok done) told counts = tt
  told_caused old new text (Err stops.Write) told counts = counts
  told_caused old new text (Err stops.NoMemory) told counts = tt
  told_caused old new text (Err stops.Disk) told counts = absurd told
  told_caused old new text (Err stops.Register) told counts = absurd told
  told_caused old new text (Err (stops.BadFrame fault)) told counts = absurd told
  told_caused old new text (Err (stops.Damaged which place)) told counts = absurd told
  told_caused old new text (Err stops.Blank) told counts = absurd told
  told_caused old new text (Err (stops.Full which)) told counts = absurd told
  told_caused old new text (Err stops.SwapLimit) told counts = absurd told

  -- the disk isn't called meanwhile
  pub swap_disk : (before now : ℕ) (stop : Stop) → now ≡ before → Stops stop → DiskCounts before now stop
  swap_disk before now stops.Disk same is = absurd is
  swap_disk before now stops.NoMemory same is = same
  swap_disk before now stops.Register same is = same
  swap_disk before now stops.Write same is = same
  swap_disk before now (stops.BadFrame fault) same is = same
  swap_disk before now (stops.Damaged which place) same is = same
  swap_disk before now stops.Blank same is = same
  swap_disk before now (stops.Full which) same is = same
  swap_disk before now stops.SwapLimit same is = same

-- the register's count, where it refused
pub refused_counts : (before now : ℕ) (fault : NodeFault) → (fault ≡ nodes.Register registers.Failed → Rose before now) → IsErrOf (refused_by fault) (nodes.Register registers.Failed) ⊎ (now ≡ before) → RegisterCounts before now (stop_of_replace fault)
refused_counts before now (nodes.Register registers.Failed) failed either = failed refl
refused_counts before now nodes.Disk failed (inl e) = absurd cc
refused_counts before now nodes.Disk failed (inr same) = same
refused_counts before now (nodes.Damaged at) failed (inl e) = absurd cc
refused_counts before now (nodes.Damaged at) failed (inr same) = same
refused_counts before now nodes.Full failed (inl e) = absurd cc
refused_counts before now nodes.Full failed (inr same) = same
refused_counts before now nodes.NeedsLoad failed (inl e) = absurd cc
refused_counts before now nodes.NeedsLoad failed (inr same) = same
refused_counts before now nodes.NoMemory failed (inl e) = absurd cc
refused_counts before now nodes.NoMemory failed (inr same) = same
refused_counts before now (nodes.Register (registers.Damaged at)) failed (inl e) = absurd cc
refused_counts before now (nodes.Register (registers.Damaged at)) failed (inr same) = same
refused_counts before now (nodes.Register registers.SwapLimit) failed (inl e) = absurd cc
refused_counts before now (nodes.Register registers.SwapLimit) failed (inr same) = same
refused_counts before now (nodes.Register registers.Full) failed (inl e) = absurd cc
refused_counts before now (nodes.Register registers.Full) failed (inr same) = same
refused_counts before now (nodes.Register registers.LogLimit) failed (inl e) = absurd cc
refused_counts before now (nodes.Register registers.LogLimit) failed (inr same) = same
refused_counts before now (nodes.Register (registers.Behind lce next)) failed (inl e) = absurd cc
refused_counts before now (nodes.Register (registers.Behind lce next)) failed (inr same) = same
refused_counts before now (nodes.Register (registers.Overtaken kept)) failed (inl e) = absurd cc
refused_counts before now (nodes.Register (registers.Overtaken kept)) failed (inr same) = same
refused_counts before now (nodes.Register registers.EpochLimit) failed (inl e) = absurd cc
refused_counts before now (nodes.Register registers.EpochLimit) failed (inr same) = same
refused_counts before now (nodes.Register registers.GenLimit) failed (inl e) = absurd cc
refused_counts before now (nodes.Register registers.GenLimit) failed (inr same) = same
refused_counts before now (nodes.Register registers.NoMemory) failed (inl e) = absurd cc
refused_counts before now (nodes.Register registers.NoMemory) failed (inr same) = same

-- ---- counts where nothing of theirs is called ----

pub load_register : (before now : ℕ) (seen : Option (List ℕ)) (register : ℕ) (stop : Stop) → IsLoadStop before now seen stop → RegisterCounts register register stop
load_register before now seen register stops.NoMemory is = refl
load_register before now seen register stops.Disk is = refl
load_register before now seen register stops.Register is = absurd is
load_register before now seen register stops.Write is = refl
load_register before now seen register (stops.BadFrame fault) is = refl
load_register before now seen register (stops.Damaged which place) is = refl
load_register before now seen register stops.Blank is = refl
load_register before now seen register (stops.Full which) is = refl
load_register before now seen register stops.SwapLimit is = refl

pub told_register : (old new text : List ℕ) (before now : ℕ) (r : Result Unit Stop) → now ≡ before → Tells old new text r → MatchResult r (λ _. now ≡ before) (RegisterCounts before now)
told_register old new text before now (Ok done) same told = same
told_register old new text before now (Err stops.Write) same told = same
told_register old new text before now (Err stops.NoMemory) same told = same
told_register old new text before now (Err stops.Disk) same told = same
told_register old new text before now (Err stops.Register) same told = absurd told
told_register old new text before now (Err (stops.BadFrame fault)) same told = same
told_register old new text before now (Err (stops.Damaged which place)) same told = same
told_register old new text before now (Err stops.Blank) same told = same
told_register old new text before now (Err (stops.Full which)) same told = same
told_register old new text before now (Err stops.SwapLimit) same told = same

swap_output : (n : ℕ) (fault : RegisterFault) → OutputCounts n n (stop_of_swap fault)
swap_output n registers.Failed = refl
swap_output n (registers.Damaged place) = refl
swap_output n registers.LogLimit = refl
swap_output n (registers.Behind lce next) = refl
swap_output n (registers.Overtaken kept) = refl
swap_output n registers.EpochLimit = refl
swap_output n registers.GenLimit = refl
swap_output n registers.SwapLimit = refl
swap_output n registers.Full = refl
swap_output n registers.NoMemory = refl

pub refused_output : (n : ℕ) (fault : NodeFault) → OutputCounts n n (stop_of_replace fault)
refused_output n nodes.Disk = refl
refused_output n (nodes.Damaged place) = refl
refused_output n nodes.Full = refl
refused_output n nodes.NeedsLoad = refl
refused_output n nodes.NoMemory = refl
refused_output n (nodes.Register fault) = swap_output n fault

-- the disk's count, by how it ended
pub swapped_disk : (register register_now : ℕ) (Told : Type 0) (holds : Contents → Type 0) (damaged : ℕ → Type 0) (l output output_now before now : ℕ) (r : Result Unit Stop) → now ≡ before
    → IfErr r (IsSwapStop register register_now Told holds damaged l output output_now) → MatchResult r (λ _. now ≡ before) (DiskCounts before now)
swapped_disk register register_now Told holds damaged l output output_now before now (Ok done) same is = same
swapped_disk register register_now Told holds damaged l output output_now before now (Err stop) same is = swap_disk register register_now Told holds damaged l output output_now before now stop same is

-- why it stopped, once it was open
pub swapped_cause : (P Q : Stop → Type 0) (r : Result Unit Stop) → IfErr r Q → IfErr r (λ stop. P stop ⊎ Q stop)
swapped_cause P Q (Ok done) is = tt
swapped_cause P Q (Err stop) is = inr is

pub on_ok : {T : Type 0} (X : Type 0) (r : Result T Stop) → X → OnOk r X
on_ok X (Ok v) x = x
on_ok X (Err stop) x = tt
