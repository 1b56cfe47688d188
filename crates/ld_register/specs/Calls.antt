-- What a register answers by its contents, and what a call makes of them.
use Rattle.std.specs.Prelude.{◌≡◌, ◌≤◌, ◌⊎◌, ◌↔◌, ◌+◌, ◌-◌, ◌^◌, ℕ, Bool, true, false, List, [], ◌∷◌, Option, None, nat_lt, if◌then◌else◌, Ok, Err, IfSome, IsSome}
use Rattle.std.specs.declared.result.Result.{Result}
use Rattle.ld_table.specs.Table.{find}
use Rattle.ld_ids.specs.declared.set.Spec.{Spec}
use Rattle.ld_msg.specs.declared.msg.Summary.{Summary}
use Rattle.ld_msg.specs.Bounds.{IsEpoch, IsSummary}
use Rattle.ld_msg.specs.Register.{Register, Answer, Granted, AtLimit, Behind, Overtaken, Fails, epochs_of, generation_of, lce_of, record_length, journal_limit, activate, close, draw, swap, swappable, epochs_in, is_crowded, summary_shown, epoch_shown}
use Rattle.ld_register.specs.Bounds.{IsSpecFor}
use Rattle.ld_register.specs.declared.fault.RegisterFault.{RegisterFault}
use Rattle.ld_register.specs.declared.fault.RegisterFault.TheVariants as faults
use Rattle.ld_register.specs.declared.register.Grant.{Grant}
use Rattle.ld_register.specs.declared.register.Drawn.{Drawn}
use Rattle.ld_register.specs.declared.register.View.{View}

-- a body of so many bytes would make the journal too long
abbrev pub is_full : Register → ℕ → Bool
is_full r body = nat_lt journal_limit (r.length + record_length body)

-- how an activation, a draw and a swap end
abbrev pub ended : {T : Type 0} → Answer → Bool → RegisterFault → T → Result T RegisterFault
ended Granted full limit given = Ok given
ended AtLimit full limit given = Err limit
ended (Behind lce) full limit given = Err (faults.Behind lce None)
ended (Overtaken epoch) full limit given = Err (faults.Overtaken epoch)
ended Fails true limit given = Err faults.Full
ended Fails false limit given = Err faults.Failed

-- how a close ends: it tells what is fixed for the next epoch to be closed, before the close or after it
abbrev pub close_ended : Answer → Bool → Option Spec → Option Spec → Result (Option Spec) RegisterFault
close_ended (Behind lce) full before after = Err (faults.Behind lce before)
close_ended answer full before after = ended answer full faults.EpochLimit after

-- the lengths of the bodies of an activation, a close, a draw and a swap
abbrev pub activation_length : ℕ
activation_length = 13

abbrev pub close_length : ℕ
close_length = 30

abbrev pub draw_length : ℕ
draw_length = 6

abbrev pub swap_length : ℕ
swap_length = 11

-- ---- what is told of what is fixed for an epoch ----

-- what is fixed for an epoch, as swaps left it: for epoch 0 and for one that isn't handed out the greatest one's is told, and nothing where none was fixed
abbrev pub spec_told : Register → ℕ → ℕ → Option Spec
spec_told r l e = find (epoch_shown (epochs_of r l) e) (epochs_of r l).swapped

-- of the epoch behind the last closed one
abbrev pub next_told : Register → ℕ → Option Spec
next_told r l = spec_told r l (lce_of r l + 1)

-- ---- an activation: the log's next epoch, unless there is no room for one more log ----

abbrev pub after_activate : Register → Spec → Register
after_activate r s = if is_crowded r s.log then r else (activate r s.log s).register

abbrev pub granted : Register → Spec → Grant
granted r s = record { epoch = (epochs_of (after_activate r s) s.log).epoch; lce = lce_of r s.log; next = next_told (after_activate r s) s.log }

abbrev pub activated : Register → Spec → Result Grant RegisterFault
activated r s = if is_crowded r s.log then Err faults.LogLimit else ended (activate r s.log s).answer (is_full r activation_length) faults.EpochLimit (granted r s)

-- a grant's numbers are in their bounds, and what it tells is fixed for an epoch of the log
pub record IsGrant (l : ℕ) (grant : Grant) : Type 0 where
  pub epoch : IsEpoch grant.epoch
  pub lce : grant.lce ≤ 2 ^ 32 - 2
  pub next : IfSome grant.next (IsSpecFor l)

-- ---- a close: it is taken where the epoch before is the last closed one, and where it is short only as long as its sequencer's epoch is the greatest one ----

abbrev pub after_close : Register → ℕ → ℕ → Summary → Bool → Register
after_close r l e y short = if is_crowded r l then r else (close r l e y short).register

abbrev pub closed : Register → ℕ → ℕ → Summary → Bool → Result (Option Spec) RegisterFault
closed r l e y short = if is_crowded r l then Err faults.LogLimit else close_ended (close r l e y short).answer (is_full r close_length) (next_told r l) (next_told (after_close r l e y short) l)

-- ---- a draw: the node's next generation, and the epoch of each log that has one ----

abbrev pub after_draw : Register → ℕ → Register
after_draw r n = (draw r n).register

abbrev pub handed : Register → ℕ → Drawn
handed r n = record { gen_ = generation_of (after_draw r n) n; epochs = epochs_in (after_draw r n).logs }

abbrev pub drawn : Register → ℕ → Result Drawn RegisterFault
drawn r n = ended (draw r n).answer (is_full r draw_length) faults.GenLimit (handed r n)

-- ---- a swap: the new node takes the place of the old one in each closed epoch up to one that has the old one and lacks the new one, and the answer is how many these are ----

abbrev pub after_swap : Register → ℕ → ℕ → ℕ → ℕ → Register
after_swap r l upto old new = (swap r l upto old new).register

abbrev pub swapped : Register → ℕ → ℕ → ℕ → ℕ → Result ℕ RegisterFault
swapped r l upto old new = ended (swap r l upto old new).answer (is_full r swap_length) faults.SwapLimit (swappable r l upto old new)

-- ---- a look ----

abbrev pub looked : Register → ℕ → ℕ → View
looked r l e = record { epoch = (epochs_of r l).epoch; lce = lce_of r l; swaps = (epochs_of r l).swaps; summary = summary_shown r l e; spec = spec_told r l e }

-- a view shows a summary exactly of a closed epoch, and one of that epoch, and what is fixed for an epoch of the log
pub record IsView (l e : ℕ) (view : View) : Type 0 where
  pub epoch : view.epoch ≤ 2 ^ 32 - 2
  pub lce : view.lce ≤ 2 ^ 32 - 2
  pub shown : IsSome view.summary ↔ ((1 ≤ e) × (e ≤ view.lce))
  pub summary : IfSome view.summary (IsSummary e)
  pub spec : IfSome view.spec (IsSpecFor l)

-- ---- what an answer tells ----

-- an answer that may come whatever the contents are
abbrev pub IsFree : {T : Type 0} → Result T RegisterFault → Type 0
IsFree (Ok given) = ⊥
IsFree (Err faults.Failed) = Unit {0}
IsFree (Err (faults.Damaged place)) = Unit {0}
IsFree (Err faults.LogLimit) = ⊥
IsFree (Err (faults.Behind lce next)) = ⊥
IsFree (Err (faults.Overtaken epoch)) = ⊥
IsFree (Err faults.EpochLimit) = ⊥
IsFree (Err faults.GenLimit) = ⊥
IsFree (Err faults.SwapLimit) = ⊥
IsFree (Err faults.Full) = ⊥
IsFree (Err faults.NoMemory) = Unit {0}

-- with no fault armed
abbrev pub unarmed : Register → Register
unarmed r = record r { armed = None }

-- what may be held after a call is what might be held before it, with the call's change made or not
abbrev pub ChangedOrNot : (Register → Type 0) → (Register → Type 0) → (Register → Register) → Type 0
ChangedOrNot before now change = (c : Register) → now c → (b : Register) × before b × ((c ≡ b) ⊎ (c ≡ change b))

-- nothing has changed
pub record Keeps (holds_before holds_now may_before may_now : Register → Type 0) : Type 0 where
  pub held : (c : Register) → holds_before c → holds_now c
  pub may : (c : Register) → may_now c → may_before c

-- one of these
abbrev pub OneOf : (Register → Type 0) → List Register → Type 0
OneOf P [] = ⊥
OneOf P (c ∷ cs) = P c ⊎ OneOf P cs

-- each of these, without the call's change and with it
abbrev pub with_and_without : (Register → Register) → List Register → List Register
with_and_without change [] = []
with_and_without change (c ∷ cs) = c ∷ change c ∷ with_and_without change cs
