-- The end of a drive by its status.
use Rattle.std.proofs.Common.{◌≡◌, ◌⊎◌, ◌∙◌, [], ap, inl, inr, ◌≤◌, ◌<◌, ℕ, Bool, List, true, false, refl, sym, subst, arith}
use Rattle.std.specs.Prelude.{nat_lt, Option}
use Rattle.std.proofs.lemmas.Bool.Decides.{nat_tests}
use Rattle.ld_io.specs.Causes.{Rose}
use Rattle.ld_config.specs.declared.config.Config.{Config}
use Rattle.ld_ids.specs.declared.set.Spec.{Spec}
use Rattle.ld_serve.specs.declared.stop.Which.TheVariants as journals
use Rattle.ld_machine.specs.Config.{spec_in, first_spec, has_log}
use Rattle.ld_machine.specs.State.{State}
use Rattle.ld_machine.specs.Step.{spec_set}
use Rattle.ld_rounds.specs.declared.ended.Refusal.TheVariants as refusals
use Rattle.ld_rounds.specs.declared.ended.Ended.{Ended}
use Rattle.ld_rounds.specs.declared.ended.Ended.TheVariants as ends
use Rattle.ld_rounds.specs.Input.{Input}
use Rattle.ld_rounds.specs.Drives.{Stopped, CallCounts, HasBroken}
use Rattle.ld_rounds.proofs.Joining.{feeds_here, feeds_until}
use Rattle.ld_rounds.proofs.Steps.{stays}
use Rattle.ld_rounds.proofs.Writing.{none_written}
use Rattle.ld_clients.proofs.Logs.{spec_log}
use Rattle.ld_append.specs.Acting.{IsSpecOf, IsUnset}
use Rattle.ld_append.specs.Appends.{EndAt, IsEndOfAppend, sequencing}
use Rattle.ld_tail.specs.Tails.{Wanted, EndAt as TailsUntil, IsTailEnd, tailing}
use Rattle.ld_cli.specs.declared.status.Status.{Status}
use Rattle.ld_cli.specs.declared.status.Status.TheVariants as statuses
use Rattle.ld_cli.specs.Clients.{status_of, EndsDrive}
use Rattle.ld_cli.specs.Serving.{DiskFaults}

ends_by : (before now : ℕ) (P : Ended → Type 0) (ended : Ended) (risen : Bool) → (risen ≡ true → before < now) → (risen ≡ false → now ≤ before) → P ended
    → EndsDrive before now P (status_of ended risen)
ends_by before now P ends.Done risen more fewer p = p
ends_by before now P ends.Rounds true more fewer p = (p, more refl)
ends_by before now P ends.Rounds false more fewer p = (p, fewer refl)
ends_by before now P (ends.Preempted by) risen more fewer p = p
ends_by before now P ends.LogLimit risen more fewer p = p
ends_by before now P ends.EpochLimit risen more fewer p = p
ends_by before now P ends.EpochFull risen more fewer p = p
ends_by before now P (ends.Register refusals.Failed) risen more fewer p = p
ends_by before now P (ends.Register refusals.Full) risen more fewer p = p
ends_by before now P (ends.Register (refusals.Damaged place)) risen more fewer p = p
ends_by before now P (ends.BadFrame fault) risen more fewer p = p
ends_by before now P (ends.BadLine line place) risen more fewer p = p
ends_by before now P ends.Read risen more fewer p = p
ends_by before now P ends.Write risen more fewer p = p
ends_by before now P ends.NoMemory risen more fewer p = p

pub is_less : (before now : ℕ) → nat_lt before now ≡ true → before < now
is_less before now e = grind (arith, nat_tests)

pub is_least : (before now : ℕ) → nat_lt before now ≡ false → now ≤ before
is_least before now e = grind (arith, nat_tests)

pub ends_so : (before now first last : ℕ) (P : Ended → Type 0) (ended : Ended) (status : Status) → first ≡ before → last ≡ now → status ≡ status_of ended (nat_lt first last)
    → P ended → EndsDrive before now P status
ends_so before now first last P ended status begins ends is p =
    subst (λ n. EndsDrive before n P status) ends (subst (λ n. EndsDrive n last P status) begins
    (subst (EndsDrive first last P) (sym is) (ends_by first last P ended (nat_lt first last) (is_less first last) (is_least first last) p)))

-- what each end says more
pub ends_map : (before now : ℕ) (P Q : Ended → Type 0) → ((ended : Ended) → P ended → Q ended) → (status : Status) → EndsDrive before now P status → EndsDrive before now Q status
ends_map before now P Q f statuses.Ok p = f ends.Done p
ends_map before now P Q f statuses.Link p = (f ends.Rounds p.0, p.1)
ends_map before now P Q f statuses.NotDone p = (f ends.Rounds p.0, p.1)
ends_map before now P Q f (statuses.Preempted by) p = f (ends.Preempted by) p
ends_map before now P Q f statuses.LogLimit p = f ends.LogLimit p
ends_map before now P Q f statuses.EpochLimit p = f ends.EpochLimit p
ends_map before now P Q f statuses.EpochFull p = f ends.EpochFull p
ends_map before now P Q f statuses.Register p = f (ends.Register refusals.Failed) p
ends_map before now P Q f (statuses.JournalFull journals.Register) p = f (ends.Register refusals.Full) p
ends_map before now P Q f (statuses.Damaged journals.Register place) p = f (ends.Register (refusals.Damaged place)) p
ends_map before now P Q f (statuses.BadFrame fault) p = f (ends.BadFrame fault) p
ends_map before now P Q f (statuses.BadSchedule line place) p = f (ends.BadLine line place) p
ends_map before now P Q f statuses.Read p = f ends.Read p
ends_map before now P Q f statuses.Write p = f ends.Write p
ends_map before now P Q f statuses.NoMemory p = f ends.NoMemory p
ends_map before now P Q f _ p = absurd p

-- what holds of a drive by its rounds
pub driven_so : (silent : Type 0) (T : ℕ → Ended → Type 0) (rounds wanted : ℕ) → rounds ≡ wanted
    → (before now first last : ℕ) (ended : Ended) (status : Status) → first ≡ before → last ≡ now → status ≡ status_of ended (nat_lt first last)
    → silent ⊎ T rounds ended → silent ⊎ EndsDrive before now (T wanted) status
driven_so silent T rounds wanted equal before now first last ended status begins finishes is (inl s) = inl s
driven_so silent T rounds wanted equal before now first last ended status begins finishes is (inr t) =
    inr (ends_so before now first last (T wanted) ended status begins finishes is (subst (λ r. T r ended) equal t))

-- ---- what a drive's status says of the counts ----

-- no drive ends with the status of the words or of the disk
pub never_usage : (before now : ℕ) (P : Ended → Type 0) (status : Status) → EndsDrive before now P status → status ≡ statuses.Usage → ⊥
never_usage before now P status e is = subst (EndsDrive before now P) is e

pub disk_stays : (before now : ℕ) (P : Ended → Type 0) (first last : ℕ) (status : Status) → EndsDrive before now P status → last ≡ first → DiskFaults first last status
disk_stays before now P first last statuses.Ok e same = same
disk_stays before now P first last statuses.Usage e same = same
disk_stays before now P first last (statuses.BadSchedule line place) e same = same
disk_stays before now P first last statuses.NoMemory e same = same
disk_stays before now P first last statuses.Read e same = same
disk_stays before now P first last statuses.Write e same = same
disk_stays before now P first last statuses.Disk e same = absurd e
disk_stays before now P first last statuses.Register e same = same
disk_stays before now P first last statuses.Link e same = same
disk_stays before now P first last (statuses.BadFrame fault) e same = same
disk_stays before now P first last (statuses.Damaged which place) e same = same
disk_stays before now P first last statuses.Blank e same = same
disk_stays before now P first last (statuses.JournalFull which) e same = same
disk_stays before now P first last statuses.GenLimit e same = same
disk_stays before now P first last statuses.NotDone e same = same
disk_stays before now P first last (statuses.Preempted by) e same = same
disk_stays before now P first last statuses.LogLimit e same = same
disk_stays before now P first last statuses.EpochLimit e same = same
disk_stays before now P first last statuses.EpochFull e same = same
disk_stays before now P first last statuses.SwapLimit e same = same
disk_stays before now P first last (statuses.Moves from to) e same = same

append_read : (crowded : Type 0) (damaged : ℕ → Type 0) (i : Option Input) (reads reads_now writes writes_now : ℕ) (old new : Option (List ℕ)) → IsEndOfAppend crowded damaged i reads reads_now writes writes_now old new ends.Read → Rose reads reads_now
append_read crowded damaged i reads reads_now writes writes_now old new (inl start) = absurd start.said
append_read crowded damaged i reads reads_now writes writes_now old new (inr rose) = rose

append_write : (crowded : Type 0) (damaged : ℕ → Type 0) (i : Option Input) (reads reads_now writes writes_now : ℕ) (old new : Option (List ℕ)) → IsEndOfAppend crowded damaged i reads reads_now writes writes_now old new ends.Write → Rose writes writes_now
append_write crowded damaged i reads reads_now writes writes_now old new (inl rose) = rose
append_write crowded damaged i reads reads_now writes writes_now old new (inr rose) = rose

pub append_read_rose : (crowded : Type 0) (damaged : ℕ → Type 0) (i : Option Input) (before now reads reads_now writes writes_now : ℕ) (old new : Option (List ℕ)) (status : Status)
    → EndsDrive before now (IsEndOfAppend crowded damaged i reads reads_now writes writes_now old new) status → status ≡ statuses.Read → Rose reads reads_now
append_read_rose crowded damaged i before now reads reads_now writes writes_now old new status e is =
    append_read crowded damaged i reads reads_now writes writes_now old new (subst (EndsDrive before now (IsEndOfAppend crowded damaged i reads reads_now writes writes_now old new)) is e)

pub append_write_rose : (crowded : Type 0) (damaged : ℕ → Type 0) (i : Option Input) (before now reads reads_now writes writes_now : ℕ) (old new : Option (List ℕ)) (status : Status)
    → EndsDrive before now (IsEndOfAppend crowded damaged i reads reads_now writes writes_now old new) status → status ≡ statuses.Write → Rose writes writes_now
append_write_rose crowded damaged i before now reads reads_now writes writes_now old new status e is =
    append_write crowded damaged i reads reads_now writes writes_now old new (subst (EndsDrive before now (IsEndOfAppend crowded damaged i reads reads_now writes writes_now old new)) is e)

pub tail_never_reads : (damaged : ℕ → Type 0) (before now looks looks_now writes writes_now : ℕ) (status : Status)
    → EndsDrive before now (IsTailEnd damaged looks looks_now writes writes_now) status → status ≡ statuses.Read → ⊥
tail_never_reads damaged before now looks looks_now writes writes_now status e is = subst (EndsDrive before now (IsTailEnd damaged looks looks_now writes writes_now)) is e

pub tail_write_rose : (damaged : ℕ → Type 0) (before now looks looks_now writes writes_now : ℕ) (status : Status)
    → EndsDrive before now (IsTailEnd damaged looks looks_now writes writes_now) status → status ≡ statuses.Write → Rose writes writes_now
tail_write_rose damaged before now looks looks_now writes writes_now status e is = subst (EndsDrive before now (IsTailEnd damaged looks looks_now writes writes_now)) is e

-- what holds of a count holds of the same count by another name
pub of_same : (P : ℕ → Type 0) (a b : ℕ) → P a → a ≡ b → P b
of_same P a b p same = subst P same p

-- ---- what was read ----

-- running out of memory before anything was done
pub nothing_read : (w : Wanted) (counts : CallCounts) (most : ℕ) (c : Config) (s : State) (written : Option (List ℕ)) → Stopped (tailing w) (HasBroken counts) (TailsUntil w c s.network.count most counts) c s written written
nothing_read w counts most c s written = record {
  state = s;
  lines = [];
  goes = stays (tailing w) (HasBroken counts) c (TailsUntil w c s.network.count most counts) s (inl (inl refl));
  written = none_written written [];
}

-- ---- what was appended ----

-- running out of memory before anything was done
pub nothing_done : (name : List ℕ) (l : ℕ) (counts : CallCounts) (coming : Option Input) (most : ℕ) (c : Config) (s : State) (written : Option (List ℕ)) → Stopped (sequencing name) (HasBroken counts) (EndAt name l c s.network.count counts coming most ends.NoMemory) c s written written
nothing_done name l counts coming most c s written = record {
  state = s;
  lines = [];
  goes = stays (sequencing name) (HasBroken counts) c (EndAt name l c s.network.count counts coming most ends.NoMemory) s (inl (inl refl, feeds_until c coming coming ends.NoMemory s [] tt (feeds_here c coming s)));
  written = none_written written [];
}

-- what was found under the log's number is the configuration's of its own log
pub spec_so : (c : Config) (l : ℕ) (spec : Spec) → (spec ≡ spec_in l c.logs) × (has_log c l ≡ true) → IsSpecOf c spec
spec_so c l spec found =
    let log_is : spec.log ≡ l = ap (λ (x : Spec). x.log) found.0 ∙ spec_log l c.logs in
    record { is = found.0 ∙ ap (λ n. spec_in n c.logs) (sym log_is); there = ap (has_log c) log_is ∙ found.1 }

-- where nothing else is set for the log, an activation fixes it
pub unset_so : (c : Config) (s : State) (l : ℕ) (spec : Spec) → spec ≡ spec_in l c.logs → spec_set c s l ≡ first_spec c l → IsUnset c s spec
unset_so c s l spec found unset = ap (spec_set c s) (ap (λ (x : Spec). x.log) found ∙ spec_log l c.logs) ∙ (unset ∙ sym found)
