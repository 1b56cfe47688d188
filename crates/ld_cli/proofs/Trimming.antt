-- How a trim ends, by its status.
use Rattle.std.proofs.Common.{◌≡◌, ◌⊎◌, ◌≤◌, ◌<◌, ℕ, Bool, List, true, false, refl, sym, subst, inl, inr, codes, Ok, Err, arith}
use Rattle.std.specs.Prelude.{nat_lt, Option, None, Some, Result, MatchResult, IfOk, IfErr}
use Rattle.ld_io.specs.Causes.{Rose}
use Rattle.ld_config.specs.declared.config.Config.{Config}
use Rattle.ld_msg.specs.Register.{Register as Contents}
use Rattle.ld_wire.specs.declared.fault.WireFault.{WireFault}
use Rattle.ld_dial.specs.Far.{Far}
use Rattle.ld_words.specs.declared.command.TrimWords.{TrimWords}
use Rattle.ld_rounds.specs.Drives.{counted}
use Rattle.ld_rounds.specs.Endings.{EndedOff}
use Rattle.ld_rounds.specs.Input.{Input}
use Rattle.ld_rounds.specs.declared.ended.Ended.{Ended}
use Rattle.ld_rounds.specs.declared.ended.Ended.TheVariants as ends
use Rattle.ld_append.specs.Acting.{MayCrowd}
use Rattle.ld_append.specs.Appends.{IsEndOfAppend}
use Rattle.ld_append.proofs.Onward.{run_on, run_loud}
use Rattle.ld_rounds.specs.Onward.{reached}
use Rattle.ld_operate.specs.declared.stop.LookStop.TheVariants as looks
use Rattle.ld_operate.specs.declared.stop.StatusStop.{StatusStop}
use Rattle.ld_operate.specs.declared.stop.StatusStop.TheVariants as stops
use Rattle.ld_cli.specs.declared.status.Status.{Status}
use Rattle.ld_cli.specs.declared.status.Status.TheVariants as statuses
use Rattle.ld_cli.specs.Clients.{status_of, EndsDrive}
use Rattle.ld_cli.specs.Serving.{DiskFaults}
use Rattle.ld_cli.specs.Trims.{trim_coming, Undone, status_told, EndsTold, IsOffTrim, Goes, RunsOn, HasDriven, Behind, IsTold, IsUntold, IsTrimmed}
use Rattle.ld_cli.proofs.Drives.{is_less, is_least, ends_so, never_usage, disk_stays, nothing_done}

-- nothing begins no frame yet
none_ended : (off : Option WireFault) → off ≡ None → EndedOff off ends.NoMemory
none_ended off none = subst (λ (o : Option WireFault). EndedOff o ends.NoMemory) (sym none) tt

undone_by : (P : Ended → Type 0) (ended : Ended) → (ended ≡ ends.Done → ⊥) → P ended → Undone P ended
undone_by P ends.Done undone p = absurd (undone refl)
undone_by P _ undone p = p

-- a drive that isn't done
pub undone_so : (before now first last : ℕ) (P : Ended → Type 0) (ended : Ended) (status : Status) → first ≡ before → last ≡ now → status ≡ status_of ended (nat_lt first last)
    → (ended ≡ ends.Done → ⊥) → P ended → EndsDrive before now (Undone P) status
undone_so before now first last P ended status begins finishes is undone p = ends_so before now first last (Undone P) ended status begins finishes is (undone_by P ended undone p)

told_by : (before now : ℕ) (T : Bool → Type 0) (S : StatusStop → Type 0) (told : Result Bool StatusStop) (risen : Bool) → (risen ≡ true → before < now) → (risen ≡ false → now ≤ before)
    → (S (stops.Look looks.Register) → ⊥) → ((place : ℕ) → S (stops.Look (looks.Damaged place)) → ⊥) → MatchResult told T S → EndsTold before now T S (status_told told risen)
told_by before now T S (Ok true) risen more fewer looked damaged p = p
told_by before now T S (Ok false) true more fewer looked damaged p = (p, more refl)
told_by before now T S (Ok false) false more fewer looked damaged p = (p, fewer refl)
told_by before now T S (Err (stops.Look looks.NoMemory)) risen more fewer looked damaged p = p
told_by before now T S (Err (stops.Look looks.Register)) risen more fewer looked damaged p = absurd (looked p)
told_by before now T S (Err (stops.Look looks.Write)) risen more fewer looked damaged p = p
told_by before now T S (Err (stops.Look (looks.Damaged place))) risen more fewer looked damaged p = absurd (damaged place p)
told_by before now T S (Err (stops.BadFrame fault)) risen more fewer looked damaged p = p

-- what was told behind one that is
pub told_so : (before now first last : ℕ) (T : Bool → Type 0) (S : StatusStop → Type 0) (told : Result Bool StatusStop) (status : Status) → first ≡ before → last ≡ now → status ≡ status_told told (nat_lt first last)
    → (S (stops.Look looks.Register) → ⊥) → ((place : ℕ) → S (stops.Look (looks.Damaged place)) → ⊥) → MatchResult told T S → EndsTold before now T S status
told_so before now first last T S told status begins finishes is looked damaged p =
    subst (λ n. EndsTold before n T S status) finishes (subst (λ n. EndsTold n last T S status) begins
    (subst (EndsTold first last T S) (sym is) (told_by first last T S told (nat_lt first last) (is_less first last) (is_least first last) looked damaged p)))

-- ---- what its status says of the counts ----

told_usage : (before now : ℕ) (T : Bool → Type 0) (S : StatusStop → Type 0) (status : Status) → EndsTold before now T S status → status ≡ statuses.Usage → ⊥
told_usage before now T S status e is = subst (EndsTold before now T S) is e

pub trim_never_usage : (before now : ℕ) (P : Ended → Type 0) (T : Bool → Type 0) (S : StatusStop → Type 0) (status : Status) → EndsDrive before now P status ⊎ EndsTold before now T S status → status ≡ statuses.Usage → ⊥
trim_never_usage before now P T S status (inl e) is = never_usage before now P status e is
trim_never_usage before now P T S status (inr e) is = told_usage before now T S status e is

never_fails : Rose 0 0 → ⊥
never_fails rose = absurd (omega (arith, rose))

-- no input that never fails ends a drive
pub input_never_fails : (crowded : Type 0) (damaged : ℕ → Type 0) (i : Option Input) (writes writes_now : ℕ) (old new : Option (List ℕ)) → IsEndOfAppend crowded damaged i 0 0 writes writes_now old new ends.Read → ⊥
input_never_fails crowded damaged i writes writes_now old new (inl start) = absurd start.said
input_never_fails crowded damaged i writes writes_now old new (inr rose) = never_fails rose

pub trim_never_reads : (before now : ℕ) (P : Ended → Type 0) (T : Bool → Type 0) (S : StatusStop → Type 0) (status : Status) → (P ends.Read → ⊥) → EndsDrive before now (Undone P) status ⊎ EndsTold before now T S status → status ≡ statuses.Read → ⊥
trim_never_reads before now P T S status unread (inl e) is = unread (subst (EndsDrive before now (Undone P)) is e)
trim_never_reads before now P T S status unread (inr e) is = subst (EndsTold before now T S) is e

output_failed : (crowded : Type 0) (damaged : ℕ → Type 0) (i : Option Input) (writes writes_now : ℕ) (old new : Option (List ℕ)) → IsEndOfAppend crowded damaged i 0 0 writes writes_now old new ends.Write → Rose writes writes_now
output_failed crowded damaged i writes writes_now old new (inl rose) = rose
output_failed crowded damaged i writes writes_now old new (inr rose) = rose

since_rose : (old middle new : ℕ) → old ≤ middle → Rose middle new → Rose old new
since_rose old middle new later rose = omega (arith, later, rose)

trim_write : (before now : ℕ) (P : Ended → Type 0) (T : Bool → Type 0) (S : StatusStop → Type 0) (old new : ℕ) → (P ends.Write → Rose old new) → (S (stops.Look looks.Write) → Rose old new)
    → (status : Status) → EndsDrive before now (Undone P) status ⊎ EndsTold before now T S status → status ≡ statuses.Write → Rose old new
trim_write before now P T S old new drove told status (inl e) is = drove (subst (EndsDrive before now (Undone P)) is e)
trim_write before now P T S old new drove told status (inr e) is = told (subst (EndsTold before now T S) is e)

told_disk : (before now : ℕ) (T : Bool → Type 0) (S : StatusStop → Type 0) (n : ℕ) (status : Status) → EndsTold before now T S status → DiskFaults n n status
told_disk before now T S n statuses.Disk e = absurd e
told_disk before now T S n _ e = refl

pub trim_disk : (before now : ℕ) (P : Ended → Type 0) (T : Bool → Type 0) (S : StatusStop → Type 0) (n : ℕ) (status : Status) → EndsDrive before now P status ⊎ EndsTold before now T S status → DiskFaults n n status
trim_disk before now P T S n status (inl e) = disk_stays before now P n n status e refl
trim_disk before now P T S n status (inr e) = told_disk before now T S n status e

-- ---- what it says of what begins no frame ----

trim_off : (before now : ℕ) (P : Ended → Type 0) (T : Bool → Type 0) (S : StatusStop → Type 0) (off : Option WireFault) → ((fault : WireFault) → P (ends.BadFrame fault) → off ≡ Some fault) → ((fault : WireFault) → S (stops.BadFrame fault) → off ≡ Some fault)
    → (status : Status) → EndsDrive before now (Undone P) status ⊎ EndsTold before now T S status → IsOffTrim off status
trim_off before now P T S off drove told (statuses.BadFrame fault) (inl e) = drove fault e
trim_off before now P T S off drove told (statuses.BadFrame fault) (inr e) = told fault e
trim_off before now P T S off drove told _ e = tt

-- ---- the whole ----

module _ {N G O : Type 0} (faults endings : N → ℕ) (tells : N → Config → Far → Type 0) (silent : N → Bool) (off : N → Option WireFault)
    (fails : G → ℕ) (told : G → Type 0) (damaged : G → ℕ → Type 0) (holds may_hold shows : G → Contents → Type 0) (misses : O → ℕ) (written : O → List ℕ) where
  behind : (nodes middle now : N) (reg reg_now : G) (out output out_now : O) (w : TrimWords) (heard : Result Bool StatusStop)
      → HasDriven faults endings tells silent off fails told damaged holds may_hold shows misses written nodes middle reg reg_now out output w ends.Done
      → IfOk heard (λ whole. IsTold faults endings tells silent off fails told damaged holds may_hold shows misses written now out_now w whole middle output)
      → IfErr heard (λ stop. IsUntold faults endings tells silent off fails told damaged holds may_hold shows misses written now out_now stop middle output)
      → MatchResult heard (λ whole. Behind faults endings tells silent off fails told damaged holds may_hold shows misses written (IsTold faults endings tells silent off fails told damaged holds may_hold shows misses written now out_now w whole) nodes reg reg_now out w)
      (λ stop. Behind faults endings tells silent off fails told damaged holds may_hold shows misses written (IsUntold faults endings tells silent off fails told damaged holds may_hold shows misses written now out_now stop) nodes reg reg_now out w)
  behind nodes middle now reg reg_now out output out_now w (Ok whole) done tell stop = record { middle = middle; output = output; done = done; follows = tell }
  behind nodes middle now reg reg_now out output out_now w (Err fault) done tell stop = record { middle = middle; output = output; done = done; follows = stop }

  -- what its status says of the counts
  all_of : (nodes now : N) (reg reg_now : G) (out out_now : O) (w : TrimWords) (status : Status)
      → IsTrimmed faults endings tells silent off fails told damaged holds may_hold shows misses written nodes now reg reg_now out out_now w status
      → IsTrimmed faults endings tells silent off fails told damaged holds may_hold shows misses written nodes now reg reg_now out out_now w status
      × (status ≡ statuses.Usage → ⊥) × (status ≡ statuses.Read → ⊥) × ((n : ℕ) → DiskFaults n n status) × IsOffTrim (off now) status × (status ≡ statuses.Write → Rose (misses out) (misses out_now))
  all_of nodes now reg reg_now out out_now w status is =
      let drove : Ended → Type 0 = HasDriven faults endings tells silent off fails told damaged holds may_hold shows misses written nodes now reg reg_now out out_now w in
      let tell : Bool → Type 0 = λ whole. Behind faults endings tells silent off fails told damaged holds may_hold shows misses written (IsTold faults endings tells silent off fails told damaged holds may_hold shows misses written now out_now w whole) nodes reg reg_now out w in
      let stop : StatusStop → Type 0 = λ stop. Behind faults endings tells silent off fails told damaged holds may_hold shows misses written (IsUntold faults endings tells silent off fails told damaged holds may_hold shows misses written now out_now stop) nodes reg reg_now out w in (
        is,
        trim_never_usage (faults nodes) (faults now) (Undone drove) tell stop status is,
        trim_never_reads (faults nodes) (faults now) drove tell stop status (λ d. input_never_fails (told reg → MayCrowd (may_hold reg) w.of.log) (λ place. told reg → damaged reg place) (Some (trim_coming (Some w.upto))) (misses out) (misses out_now) (Some (written out)) (Some (written out_now)) d.cause) is,
        λ n. trim_disk (faults nodes) (faults now) (Undone drove) tell stop n status is,
        trim_off (faults nodes) (faults now) drove tell stop (off now) (λ fault d. d.off_as) (λ fault b. b.follows) status is,
        trim_write (faults nodes) (faults now) drove tell stop (misses out) (misses out_now)
            (λ d. output_failed (told reg → MayCrowd (may_hold reg) w.of.log) (λ place. told reg → damaged reg place) (Some (trim_coming (Some w.upto))) (misses out) (misses out_now) (Some (written out)) (Some (written out_now)) d.cause)
            (λ b. since_rose (misses out) (misses b.output) (misses out_now) b.done.later b.follows) status is,
      )

  pub told_trims : (nodes middle now : N) (reg reg_now : G) (out output out_now : O) (w : TrimWords) (first last : ℕ) (heard : Result Bool StatusStop) (status : Status) → first ≡ faults nodes → last ≡ faults now → status ≡ status_told heard (nat_lt first last)
      → HasDriven faults endings tells silent off fails told damaged holds may_hold shows misses written nodes middle reg reg_now out output w ends.Done
      → IfOk heard (λ whole. IsTold faults endings tells silent off fails told damaged holds may_hold shows misses written now out_now w whole middle output)
      → IfErr heard (λ stop. IsUntold faults endings tells silent off fails told damaged holds may_hold shows misses written now out_now stop middle output)
      → IsTrimmed faults endings tells silent off fails told damaged holds may_hold shows misses written nodes now reg reg_now out out_now w status
      × (status ≡ statuses.Usage → ⊥) × (status ≡ statuses.Read → ⊥) × ((n : ℕ) → DiskFaults n n status) × IsOffTrim (off now) status × (status ≡ statuses.Write → Rose (misses out) (misses out_now))
  told_trims nodes middle now reg reg_now out output out_now w first last heard status begins finishes is done tell stop = all_of nodes now reg reg_now out out_now w status
      (inr (told_so (faults nodes) (faults now) first last
      (λ whole. Behind faults endings tells silent off fails told damaged holds may_hold shows misses written (IsTold faults endings tells silent off fails told damaged holds may_hold shows misses written now out_now w whole) nodes reg reg_now out w)
      (λ stop. Behind faults endings tells silent off fails told damaged holds may_hold shows misses written (IsUntold faults endings tells silent off fails told damaged holds may_hold shows misses written now out_now stop) nodes reg reg_now out w)
      heard status begins finishes is (λ b. b.follows) (λ place b. b.follows) (behind nodes middle now reg reg_now out output out_now w heard done tell stop)))

  pub driven_undone : (nodes now : N) (reg reg_now : G) (out out_now : O) (w : TrimWords) (first last : ℕ) (ended : Ended) (status : Status) → first ≡ faults nodes → last ≡ faults now → status ≡ status_of ended (nat_lt first last) → (ended ≡ ends.Done → ⊥)
      → HasDriven faults endings tells silent off fails told damaged holds may_hold shows misses written nodes now reg reg_now out out_now w ended
      → IsTrimmed faults endings tells silent off fails told damaged holds may_hold shows misses written nodes now reg reg_now out out_now w status
      × (status ≡ statuses.Usage → ⊥) × (status ≡ statuses.Read → ⊥) × ((n : ℕ) → DiskFaults n n status) × IsOffTrim (off now) status × (status ≡ statuses.Write → Rose (misses out) (misses out_now))
  driven_undone nodes now reg reg_now out out_now w first last ended status begins finishes is undone drove = all_of nodes now reg reg_now out out_now w status
      (inl (undone_so (faults nodes) (faults now) first last (HasDriven faults endings tells silent off fails told damaged holds may_hold shows misses written nodes now reg reg_now out out_now w) ended status begins finishes is undone drove))

  -- memory ended before anything was called
  pub nothing_driven : (nodes : N) (reg : G) (out : O) (w : TrimWords) → HasDriven faults endings tells silent off fails told damaged holds may_hold shows misses written nodes nodes reg reg out out w ends.NoMemory
  nothing_driven nodes reg out w = record {
    goes = λ s far tell begins unset. inr (nothing_done (codes "s") w.of.log (counted (faults nodes) (faults nodes) (endings nodes) (endings nodes)) (Some (trim_coming (Some w.upto))) w.of.rounds w.of.config s (Some (written out)));
    runs = λ before far bounds tell begins unset. inr (run_on (codes "s") w.of.log (counted (faults nodes) (faults nodes) (endings nodes) (endings nodes)) (Some (trim_coming (Some w.upto))) w.of.rounds (tells nodes) (shows reg) w.of.config bounds before (Some (written out)) (Some (written out)) ends.NoMemory
        (nothing_done (codes "s") w.of.log (counted (faults nodes) (faults nodes) (endings nodes) (endings nodes)) (Some (trim_coming (Some w.upto))) w.of.rounds w.of.config (reached w.of.config before) (Some (written out))));
    cause = inl tt;
    refused = tt;
    off_as = tt;
    ended_off = λ none. none_ended (off nodes) none;
    later = omega arith;
  }

  -- a drive that went so goes on with each run that leads to its first state
  pub runs_so : (nodes now : N) (reg reg_now : G) (out out_now : O) (w : TrimWords) (ended : Ended) → Goes faults endings tells silent off fails told damaged holds may_hold shows misses written nodes now reg reg_now out out_now w ended
      → RunsOn faults endings tells silent off fails told damaged holds may_hold shows misses written nodes now reg reg_now out out_now w ended
  runs_so nodes now reg reg_now out out_now w ended goes = λ before far bounds tell begins unset.
      run_loud (codes "s") w.of.log (counted (faults nodes) (faults now) (endings nodes) (endings now)) (Some (trim_coming (Some w.upto))) w.of.rounds (tells now) (shows reg_now) w.of.config bounds before (Some (written out)) (Some (written out_now)) (silent now ≡ true) ended
      (goes (reached w.of.config before) far tell begins unset)
