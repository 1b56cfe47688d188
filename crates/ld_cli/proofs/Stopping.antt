-- Commands over a stopped node's store, by their status.
use Rattle.std.proofs.Common.{◌≡◌, ◌∙◌, ◌⊎◌, ◌≤◌, ◌<◌, ◌++◌, ℕ, Bool, List, true, false, refl, ap, sym, subst, inl, inr, ⊎_elim, [], Ok, Err, None, Some}
use Rattle.std.proofs.lemmas.List.{append-nil}
use Rattle.std.specs.Prelude.{nat_lt, Option, Result, MatchResult, OnOk, IfErr, IsErrOf}
use Rattle.ld_io.specs.Causes.{Rose}
use Rattle.ld_config.specs.declared.config.Config.{Config}
use Rattle.ld_msg.specs.Register.{Register as Contents}
use Rattle.ld_op.specs.Plain.{Plain}
use Rattle.ld_wire.specs.declared.fault.WireFault.{WireFault}
use Rattle.ld_machine.specs.Disk.{Node}
use Rattle.ld_dial.specs.Far.{Far}
use Rattle.ld_store.specs.Ops.{StandsFor}
use Rattle.ld_node.specs.Known.{known_in}
use Rattle.ld_mend.specs.declared.stop.Stop.{Stop as Mend}
use Rattle.ld_mend.specs.declared.stop.Stop.TheVariants as mends
use Rattle.ld_mend.specs.Course.{ToldAs, IsHushed}
use Rattle.ld_mend.specs.Output.{WritesPart}
use Rattle.ld_mend.specs.Standing.{logs_of}
use Rattle.ld_mend.specs.Stops.{Counts, IsStop, WasDamaged, counts}
use Rattle.ld_serve.specs.Opening.{ShowsSame}
use Rattle.ld_stopped.specs.declared.stop.Stop.{Stop}
use Rattle.ld_stopped.specs.declared.stop.Stop.TheVariants as stops
use Rattle.ld_stopped.specs.Stops.{stop_of_mend, DiskCounts}
use Rattle.ld_stopped.specs.Opening.{IsNotLoaded, LeavesMarked, ShowsMarked}
use Rattle.ld_stopped.specs.Mending.{HasMended, HasHalted, IsMendStop}
use Rattle.ld_stopped.specs.Replacing.{IsSwapStop, IsNotAsked}
use Rattle.ld_stopped.specs.Showing.{IsShowStop}
use Rattle.ld_stopped.specs.Shown.{shown_text}
use Rattle.ld_words.specs.declared.command.MendWords.{MendWords}
use Rattle.ld_words.specs.declared.command.ReplaceWords.{ReplaceWords}
use Rattle.ld_words.specs.declared.command.ShowWords.{ShowWords}
use Rattle.ld_cli.specs.declared.status.Status.{Status}
use Rattle.ld_cli.specs.declared.status.Status.TheVariants as statuses
use Rattle.ld_cli.specs.Serving.{DiskFaults, RegisterFaults, LinkFaults}
use Rattle.ld_cli.specs.Stopped.{status_of, status_mended, status_done, EndsStopped, EndsDone, EndsMend, IsFormatted, IsUnshown, IsShown, IsUnreplaced, Swaps, IsReplaced, IsUnopened, IsUnmended, IsMended}
use Rattle.ld_cli.proofs.Drives.{is_less, is_least}

-- ---- what holds of a result holds by its status ----

done_by : (T : Type 0) (S : Stop → Type 0) (ended : Result Unit Stop) → MatchResult ended (λ _. T) S → EndsDone T S (status_done ended)
done_by T S (Ok done) p = p
done_by T S (Err stops.NoMemory) p = p
done_by T S (Err stops.Disk) p = p
done_by T S (Err stops.Register) p = p
done_by T S (Err stops.Write) p = p
done_by T S (Err (stops.BadFrame fault)) p = p
done_by T S (Err (stops.Damaged which place)) p = p
done_by T S (Err stops.Blank) p = p
done_by T S (Err (stops.Full which)) p = p
done_by T S (Err stops.SwapLimit) p = p

done_so : (T : Type 0) (S : Stop → Type 0) (ended : Result Unit Stop) (status : Status) → status ≡ status_done ended → MatchResult ended (λ _. T) S → EndsDone T S status
done_so T S ended status is p = subst (EndsDone T S) (sym is) (done_by T S ended p)

mend_by : (before now : ℕ) (T : Bool → Type 0) (S : Stop → Type 0) (ended : Result Bool Stop) (risen : Bool) → (risen ≡ true → before < now) → (risen ≡ false → now ≤ before) → MatchResult ended T S → EndsMend before now T S (status_mended ended risen)
mend_by before now T S (Ok true) risen more fewer p = p
mend_by before now T S (Ok false) true more fewer p = (p, more refl)
mend_by before now T S (Ok false) false more fewer p = (p, fewer refl)
mend_by before now T S (Err stops.NoMemory) risen more fewer p = p
mend_by before now T S (Err stops.Disk) risen more fewer p = p
mend_by before now T S (Err stops.Register) risen more fewer p = p
mend_by before now T S (Err stops.Write) risen more fewer p = p
mend_by before now T S (Err (stops.BadFrame fault)) risen more fewer p = p
mend_by before now T S (Err (stops.Damaged which place)) risen more fewer p = p
mend_by before now T S (Err stops.Blank) risen more fewer p = p
mend_by before now T S (Err (stops.Full which)) risen more fewer p = p
mend_by before now T S (Err stops.SwapLimit) risen more fewer p = p

mend_so : (before now first last : ℕ) (T : Bool → Type 0) (S : Stop → Type 0) (ended : Result Bool Stop) (status : Status) → first ≡ before → last ≡ now → status ≡ status_mended ended (nat_lt first last) → MatchResult ended T S → EndsMend before now T S status
mend_so before now first last T S ended status begins finishes is p =
    subst (λ n. EndsMend before n T S status) finishes (subst (λ n. EndsMend n last T S status) begins
    (subst (EndsMend first last T S) (sym is) (mend_by first last T S ended (nat_lt first last) (is_less first last) (is_least first last) p)))

-- what holds of both ends, and of the one of these that is
both_ends : {A : Type 0} (T : Type 0) (S : Stop → Type 0) (ended : Result A Stop) → OnOk ended T → IfErr ended S → MatchResult ended (λ _. T) S
both_ends T S (Ok value) t s = t
both_ends T S (Err stop) t s = s

both_stops : {A : Type 0} (S R : Stop → Type 0) (ended : Result A Stop) → IfErr ended S → IfErr ended R → IfErr ended (λ stop. S stop × R stop)
both_stops S R (Ok value) s r = s
both_stops S R (Err stop) s r = (s, r)

by_ends : (P : Result Unit Stop → Type 0) (ended : Result Unit Stop) → P ended → MatchResult ended (λ _. P (Ok tt)) (λ stop. P (Err stop))
by_ends P (Ok done) p = p
by_ends P (Err stop) p = p

-- ---- what its status says of the counts ----

done_never_usage : (T : Type 0) (S : Stop → Type 0) (status : Status) → EndsDone T S status → status ≡ statuses.Usage → ⊥
done_never_usage T S status e is = subst (EndsDone T S) is e

done_never_reads : (T : Type 0) (S : Stop → Type 0) (status : Status) → EndsDone T S status → status ≡ statuses.Read → ⊥
done_never_reads T S status e is = subst (EndsDone T S) is e

done_writes : (T : Type 0) (S : Stop → Type 0) (status : Status) → EndsDone T S status → status ≡ statuses.Write → S stops.Write
done_writes T S status e is = subst (EndsDone T S) is e

mend_never_usage : (before now : ℕ) (T : Bool → Type 0) (S : Stop → Type 0) (status : Status) → EndsMend before now T S status → status ≡ statuses.Usage → ⊥
mend_never_usage before now T S status e is = subst (EndsMend before now T S) is e

mend_never_reads : (before now : ℕ) (T : Bool → Type 0) (S : Stop → Type 0) (status : Status) → EndsMend before now T S status → status ≡ statuses.Read → ⊥
mend_never_reads before now T S status e is = subst (EndsMend before now T S) is e

mend_writes : (before now : ℕ) (T : Bool → Type 0) (S : Stop → Type 0) (status : Status) → EndsMend before now T S status → status ≡ statuses.Write → S stops.Write
mend_writes before now T S status e is = subst (EndsMend before now T S) is e

halted_writing : (damaged : ℕ → Type 0) (before now : Counts) (off : Option WireFault) (halt : Mend) → stops.Write ≡ stop_of_mend halt → IsStop damaged before now off halt → Rose before.output now.output
halted_writing damaged before now off mends.Disk is p = cc
halted_writing damaged before now off (mends.Damaged place) is p = cc
halted_writing damaged before now off mends.Full is p = cc
halted_writing damaged before now off mends.Register is p = cc
halted_writing damaged before now off (mends.RegisterDamaged place) is p = cc
halted_writing damaged before now off (mends.BadFrame fault) is p = cc
halted_writing damaged before now off mends.Write is p = p
halted_writing damaged before now off mends.NoMemory is p = cc

stopped_writing : (damaged : ℕ → Type 0) (before now : Counts) (off : Option WireFault) → IsMendStop damaged before now off stops.Write → Rose before.output now.output
stopped_writing damaged before now off m = halted_writing damaged before now off m.halt m.stop_is m.cause

disk_by : (before now : ℕ) (status : Status) → EndsDone (now ≡ before) (DiskCounts before now) status → DiskFaults before now status
disk_by before now statuses.Ok e = e
disk_by before now statuses.Usage e = absurd e
disk_by before now (statuses.BadSchedule line place) e = absurd e
disk_by before now statuses.NoMemory e = e
disk_by before now statuses.Read e = absurd e
disk_by before now statuses.Write e = e
disk_by before now statuses.Disk e = e
disk_by before now statuses.Register e = e
disk_by before now statuses.Link e = absurd e
disk_by before now (statuses.BadFrame fault) e = e
disk_by before now (statuses.Damaged which place) e = e
disk_by before now statuses.Blank e = e
disk_by before now (statuses.JournalFull which) e = e
disk_by before now statuses.GenLimit e = absurd e
disk_by before now statuses.NotDone e = absurd e
disk_by before now (statuses.Preempted by) e = absurd e
disk_by before now statuses.LogLimit e = absurd e
disk_by before now statuses.EpochLimit e = absurd e
disk_by before now statuses.EpochFull e = absurd e
disk_by before now statuses.SwapLimit e = e
disk_by before now (statuses.Moves from to) e = absurd e

pub disk_so : (before now : ℕ) (ended : Result Unit Stop) (status : Status) → status ≡ status_done ended → MatchResult ended (λ _. now ≡ before) (DiskCounts before now) → DiskFaults before now status
disk_so before now ended status is p = disk_by before now status (done_so (now ≡ before) (DiskCounts before now) ended status is p)

mended_by : (failures failures_now before now : ℕ) (status : Status) → EndsMend failures failures_now (λ (whole : Bool). now ≡ before) (DiskCounts before now) status → DiskFaults before now status
mended_by failures failures_now before now statuses.Ok e = e
mended_by failures failures_now before now statuses.Usage e = absurd e
mended_by failures failures_now before now (statuses.BadSchedule line place) e = absurd e
mended_by failures failures_now before now statuses.NoMemory e = e
mended_by failures failures_now before now statuses.Read e = absurd e
mended_by failures failures_now before now statuses.Write e = e
mended_by failures failures_now before now statuses.Disk e = e
mended_by failures failures_now before now statuses.Register e = e
mended_by failures failures_now before now statuses.Link e = e.0
mended_by failures failures_now before now (statuses.BadFrame fault) e = e
mended_by failures failures_now before now (statuses.Damaged which place) e = e
mended_by failures failures_now before now statuses.Blank e = e
mended_by failures failures_now before now (statuses.JournalFull which) e = e
mended_by failures failures_now before now statuses.GenLimit e = absurd e
mended_by failures failures_now before now statuses.NotDone e = e.0
mended_by failures failures_now before now (statuses.Preempted by) e = absurd e
mended_by failures failures_now before now statuses.LogLimit e = absurd e
mended_by failures failures_now before now statuses.EpochLimit e = absurd e
mended_by failures failures_now before now statuses.EpochFull e = absurd e
mended_by failures failures_now before now statuses.SwapLimit e = e
mended_by failures failures_now before now (statuses.Moves from to) e = absurd e

-- the same of a node that is mended, by the nodes' counts of failures
pub mended_disk : (failures failures_now first last before now : ℕ) (ended : Result Bool Stop) (status : Status) → first ≡ failures → last ≡ failures_now → status ≡ status_mended ended (nat_lt first last)
    → MatchResult ended (λ _. now ≡ before) (DiskCounts before now) → DiskFaults before now status
mended_disk failures failures_now first last before now ended status begins finishes is p =
    mended_by failures failures_now before now status (mend_so failures failures_now first last (λ (whole : Bool). now ≡ before) (DiskCounts before now) ended status begins finishes is p)

-- no link is called
done_link : (T : Type 0) (S : Stop → Type 0) (n : ℕ) (status : Status) → EndsDone T S status → LinkFaults n n status
done_link T S n statuses.Link e = absurd e
done_link T S n _ e = refl

-- no register is called
done_register : (T : Type 0) (S : Stop → Type 0) (n : ℕ) (status : Status) → (S stops.Register → ⊥) → EndsDone T S status → RegisterFaults n n status
done_register T S n statuses.Register none e = absurd (none e)
done_register T S n _ none e = refl

-- ---- a store that is shown ----

module _ {D : Type 0} (failed : D → ℕ) (seen : D → Option (List ℕ)) (may_leave : D → List ℕ → Type 0) {O : Type 0} (misses : O → ℕ) (written : O → List ℕ) where
  pub shown_so : (disk now : D) (out out_now : O) (w : ShowWords) (ended : Result Unit Stop) (status : Status) → status ≡ status_done ended
      → ((bytes : List ℕ) (p : Plain) → seen disk ≡ Some bytes → StandsFor p bytes
      → MatchResult ended (λ _. written out_now ≡ written out ++ shown_text w.json w.id p w.config.logs) (λ _. WritesPart (written out) (written out_now) (shown_text w.json w.id p w.config.logs)))
      → OnOk ended (IsFormatted (seen disk))
      → IfErr ended (IsShowStop (failed disk) (failed now) (seen disk) (misses out) (misses out_now))
      → IfErr ended (λ stop. (stop ≡ stops.Write) ⊎ (written out_now ≡ written out))
      → IsErrOf ended stops.Disk ⊎ ShowsMarked (seen disk) (seen now)
      → LeavesMarked (seen disk) (may_leave disk) (may_leave now)
      → IsShown failed seen may_leave misses written disk now out out_now w status × (status ≡ statuses.Usage → ⊥) × (status ≡ statuses.Read → ⊥) × (status ≡ statuses.Write → Rose (misses out) (misses out_now)) × ((n : ℕ) → RegisterFaults n n status) × ((n : ℕ) → LinkFaults n n status)
  shown_so disk now out out_now w ended status is shows formatted cause unwritten same left =
      let done : Type 0 = IsFormatted (seen disk) in
      let stopped : Stop → Type 0 = IsUnshown failed seen may_leave misses written disk now out out_now in
      let m : IsShown failed seen may_leave misses written disk now out out_now w status = record {
        shown = λ bytes p there stands. done_so (written out_now ≡ written out ++ shown_text w.json w.id p w.config.logs) (λ stop. WritesPart (written out) (written out_now) (shown_text w.json w.id p w.config.logs)) ended status is (shows bytes p there stands);
        ends = done_so (IsFormatted (seen disk)) (IsUnshown failed seen may_leave misses written disk now out out_now) ended status is
            (both_ends (IsFormatted (seen disk)) (IsUnshown failed seen may_leave misses written disk now out out_now) ended formatted
            (both_stops (IsShowStop (failed disk) (failed now) (seen disk) (misses out) (misses out_now)) (λ stop. (stop ≡ stops.Write) ⊎ (written out_now ≡ written out)) ended cause unwritten));
        same = ⊎_elim (λ e. inl (is ∙ ap status_done e)) (λ s. inr s) same;
        leaves = left;
      } in (
        m,
        done_never_usage done stopped status m.ends,
        done_never_reads done stopped status m.ends,
        λ e. (done_writes done stopped status m.ends e).0,
        λ n. done_register done stopped n status (λ r. r.0) m.ends,
        λ n. done_link done stopped n status m.ends,
      )

  -- ---- a place that is taken ----

  module _ {G : Type 0} (fails : G → ℕ) (told : G → Type 0) (damaged : G → ℕ → Type 0) (holds may_hold tells : G → Contents → Type 0) where
    pub replaced_so : (disk now : D) (reg reg_now : G) (out out_now : O) (w : ReplaceWords) (ended : Result Unit Stop) (status : Status) → status ≡ status_done ended
        → ((bytes : List ℕ) (p : Plain) → seen disk ≡ Some bytes → StandsFor p bytes → Swaps failed seen may_leave misses written fails told damaged holds may_hold tells reg reg_now out out_now w p ended)
        → OnOk ended (IsFormatted (seen disk))
        → IfErr ended (λ stop. IsNotAsked (IsNotLoaded (failed disk) (failed now) (seen disk) (seen now) (may_leave disk) (may_leave now)) reg reg_now stop ⊎ IsSwapStop (fails reg) (fails reg_now) (told reg) (holds reg) (damaged reg) w.log (misses out) (misses out_now) stop)
        → IfErr ended (λ stop. (stop ≡ stops.Write) ⊎ (written out_now ≡ written out))
        → IsErrOf ended stops.Disk ⊎ ShowsMarked (seen disk) (seen now)
        → LeavesMarked (seen disk) (may_leave disk) (may_leave now)
        → (told reg → told reg_now)
        → IsReplaced failed seen may_leave misses written fails told damaged holds may_hold tells disk now reg reg_now out out_now w status × (status ≡ statuses.Usage → ⊥) × (status ≡ statuses.Read → ⊥) × (status ≡ statuses.Write → Rose (misses out) (misses out_now)) × ((n : ℕ) → LinkFaults n n status)
    replaced_so disk now reg reg_now out out_now w ended status is swap formatted cause unwritten same left still_told =
        let done : Type 0 = IsFormatted (seen disk) in
        let stopped : Stop → Type 0 = IsUnreplaced failed seen may_leave misses written fails told damaged holds may_hold tells disk now reg reg_now out out_now w in
        let m : IsReplaced failed seen may_leave misses written fails told damaged holds may_hold tells disk now reg reg_now out out_now w status = record {
          swaps = λ bytes p there stands. done_so (Swaps failed seen may_leave misses written fails told damaged holds may_hold tells reg reg_now out out_now w p (Ok tt)) (λ stop. Swaps failed seen may_leave misses written fails told damaged holds may_hold tells reg reg_now out out_now w p (Err stop)) ended status is
              (by_ends (Swaps failed seen may_leave misses written fails told damaged holds may_hold tells reg reg_now out out_now w p) ended (swap bytes p there stands));
          ends = done_so done stopped ended status is (both_ends done stopped ended formatted
              (both_stops (λ stop. IsNotAsked (IsNotLoaded (failed disk) (failed now) (seen disk) (seen now) (may_leave disk) (may_leave now)) reg reg_now stop ⊎ IsSwapStop (fails reg) (fails reg_now) (told reg) (holds reg) (damaged reg) w.log (misses out) (misses out_now) stop)
              (λ stop. (stop ≡ stops.Write) ⊎ (written out_now ≡ written out)) ended cause unwritten));
          same = ⊎_elim (λ e. inl (is ∙ ap status_done e)) (λ s. inr s) same;
          leaves = left;
          still = still_told;
        } in (
          m,
          done_never_usage done stopped status m.ends,
          done_never_reads done stopped status m.ends,
          λ e. ⊎_elim (λ u. absurd u.loaded.cause) (λ rose. rose) (done_writes done stopped status m.ends e).0,
          λ n. done_link done stopped n status m.ends,
        )

    -- ---- a node that is mended ----

    module _ (identity : G → ℕ) {N : Type 0} (faults : N → ℕ) (told_far : N → Config → Far → Type 0) (silent : N → Bool) (off : N → Option WireFault) where
      pub mended_so : (disk now : D) (reg reg_now : G) (nodes nodes_now : N) (out out_now : O) (w : MendWords) (first last : ℕ) (ended : Result Bool Stop) (status : Status) → first ≡ faults nodes → last ≡ faults nodes_now → status ≡ status_mended ended (nat_lt first last)
          → ((bytes : List ℕ) (p : Plain) (r : Contents) (far : Option (List (ℕ × Node))) → seen disk ≡ Some bytes → StandsFor p bytes → holds reg r → ToldAs (told_far nodes w.config) far
          → IsHushed (silent nodes_now) far ⊎ MatchResult ended
          (HasMended w.id (known_in w.config) w.config r bytes p far (may_leave now) (written out) (written out_now) (holds reg_now r) (told_far nodes_now w.config) (logs_of w.config.logs))
          (λ stop. IsUnopened failed seen may_leave misses written fails told damaged holds may_hold tells identity faults told_far silent off disk now reg reg_now nodes nodes_now out out_now stop ⊎ HasHalted w.id (known_in w.config) w.config r bytes p far (may_leave now) (written out) (written out_now) stop))
          → OnOk ended (IsFormatted (seen disk))
          → IfErr ended (IsUnmended failed seen may_leave misses written fails told damaged holds may_hold tells identity faults told_far silent off disk now reg reg_now nodes nodes_now out out_now)
          → (told reg → told reg_now)
          → IsMended failed seen may_leave misses written fails told damaged holds may_hold tells identity faults told_far silent off disk now reg reg_now nodes nodes_now out out_now w status × (status ≡ statuses.Usage → ⊥) × (status ≡ statuses.Read → ⊥) × (status ≡ statuses.Write → Rose (misses out) (misses out_now))
      mended_so disk now reg reg_now nodes nodes_now out out_now w first last ended status begins finishes is went formatted cause still_told =
          let before = counts (failed disk) (fails reg) (misses out) in
          let after = counts (failed now) (fails reg_now) (misses out_now) in
          let whole : Bool → Type 0 = λ w. IsFormatted (seen disk) in
          let stopped : Stop → Type 0 = IsUnmended failed seen may_leave misses written fails told damaged holds may_hold tells identity faults told_far silent off disk now reg reg_now nodes nodes_now out out_now in
          let m : IsMended failed seen may_leave misses written fails told damaged holds may_hold tells identity faults told_far silent off disk now reg reg_now nodes nodes_now out out_now w status = record {
            mended = λ bytes p r far there stands held tell. ⊎_elim (λ hushed. inl hushed) (λ m. inr (mend_so (faults nodes) (faults nodes_now) first last
                (HasMended w.id (known_in w.config) w.config r bytes p far (may_leave now) (written out) (written out_now) (holds reg_now r) (told_far nodes_now w.config) (logs_of w.config.logs))
                (λ stop. IsUnopened failed seen may_leave misses written fails told damaged holds may_hold tells identity faults told_far silent off disk now reg reg_now nodes nodes_now out out_now stop ⊎ HasHalted w.id (known_in w.config) w.config r bytes p far (may_leave now) (written out) (written out_now) stop)
                ended status begins finishes is m)) (went bytes p r far there stands held tell);
            ends = mend_so (faults nodes) (faults nodes_now) first last (λ whole. IsFormatted (seen disk))
                (IsUnmended failed seen may_leave misses written fails told damaged holds may_hold tells identity faults told_far silent off disk now reg reg_now nodes nodes_now out out_now)
                ended status begins finishes is
                (both_ends (IsFormatted (seen disk)) (IsUnmended failed seen may_leave misses written fails told damaged holds may_hold tells identity faults told_far silent off disk now reg reg_now nodes nodes_now out out_now) ended formatted cause);
            still = still_told;
          } in (
            m,
            mend_never_usage (faults nodes) (faults nodes_now) whole stopped status m.ends,
            mend_never_reads (faults nodes) (faults nodes_now) whole stopped status m.ends,
            λ e. ⊎_elim (λ u. absurd u.loaded.cause) (λ h. stopped_writing (WasDamaged told damaged identity reg) before after (off nodes_now) h) (mend_writes (faults nodes) (faults nodes_now) whole stopped status m.ends e),
          )

-- ---- where memory ends before anything is called ----

-- what is shown, and what may be left, is the same
shows_same : (seen : Option (List ℕ)) → ShowsSame seen seen
shows_same None = tt
shows_same (Some bytes) = refl

leaves_same : (seen : Option (List ℕ)) (may : List ℕ → Type 0) → LeavesMarked seen may may
leaves_same None may = tt
leaves_same (Some bytes) may = λ c left. inl left

module _ {D : Type 0} (failed : D → ℕ) (seen : D → Option (List ℕ)) (may_leave : D → List ℕ → Type 0) {O : Type 0} (misses : O → ℕ) (written : O → List ℕ) where
  pub nothing_shown : (disk : D) (out : O) (w : ShowWords) → IsShown failed seen may_leave misses written disk disk out out w statuses.NoMemory
  nothing_shown disk out w = record {
    shown = λ bytes p there stands. record { part = []; missing = shown_text w.json w.id p w.config.logs; written = sym (append-nil (written out)); whole = refl };
    ends = (tt, inr refl);
    same = inr (inl refl);
    leaves = leaves_same (seen disk) (may_leave disk);
  }

  module _ {G : Type 0} (fails : G → ℕ) (told : G → Type 0) (damaged : G → ℕ → Type 0) (holds may_hold tells : G → Contents → Type 0) where
    pub nothing_replaced : (disk : D) (reg : G) (out : O) (w : ReplaceWords) → IsReplaced failed seen may_leave misses written fails told damaged holds may_hold tells disk disk reg reg out out w statuses.NoMemory
    nothing_replaced disk reg out w = record {
      swaps = λ bytes p there stands. record {
        done = λ c held. tt;
        exact = λ c tell. inl tell;
        idle = λ may. refl;
        done_or_not = λ tell c now. (c, now, inl refl);
        held = λ c held. inr (inl held);
      };
      ends = (inr tt, inr refl);
      same = inr (inl refl);
      leaves = leaves_same (seen disk) (may_leave disk);
      still = λ tell. tell;
    }

    module _ (identity : G → ℕ) {N : Type 0} (faults : N → ℕ) (told_far : N → Config → Far → Type 0) (silent : N → Bool) (off : N → Option WireFault) where
      pub nothing_mended : (disk : D) (reg : G) (nodes : N) (out : O) (w : MendWords) → IsMended failed seen may_leave misses written fails told damaged holds may_hold tells identity faults told_far silent off disk disk reg reg nodes nodes out out w statuses.NoMemory
      nothing_mended disk reg nodes out w =
          let unopened : IsUnopened failed seen may_leave misses written fails told damaged holds may_hold tells identity faults told_far silent off disk disk reg reg nodes nodes out out stops.NoMemory = record {
            loaded = record { cause = tt; bytes = inr (shows_same (seen disk)); leaves = leaves_same (seen disk) (may_leave disk) };
            register = refl;
            others = refl;
            output = refl;
          } in
          record { mended = λ bytes p r far there stands held tell. inr (inl unopened); ends = inl unopened; still = λ tell. tell }
