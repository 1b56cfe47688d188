-- How the commands over a stopped node's store end, by their status.
use Rattle.std.specs.Prelude.{ℕ, ◌≡◌, ◌≤◌, ◌<◌, ◌⊎◌, ◌++◌, if◌then◌else◌, List, Bool, true, false, Option, Some, Result, Ok, Err, IfSome}
use Rattle.ld_config.specs.declared.config.Config.{Config}
use Rattle.ld_msg.specs.Register.{Register as Contents}
use Rattle.ld_op.specs.Plain.{Plain}
use Rattle.ld_wire.specs.declared.fault.WireFault.{WireFault}
use Rattle.ld_machine.specs.Disk.{Node}
use Rattle.ld_dial.specs.Far.{Far}
use Rattle.ld_store.specs.Ops.{StandsFor}
use Rattle.ld_node.specs.Known.{known_in}
use Rattle.ld_mend.specs.Course.{ToldAs, IsHushed}
use Rattle.ld_mend.specs.Output.{WritesPart}
use Rattle.ld_mend.specs.Standing.{logs_of}
use Rattle.ld_mend.specs.Stops.{WasDamaged, counts}
use Rattle.ld_serve.specs.Opening.{IsBlank}
use Rattle.ld_stopped.specs.declared.stop.Stop.{Stop}
use Rattle.ld_stopped.specs.declared.stop.Stop.TheVariants as stops
use Rattle.ld_stopped.specs.Opening.{IsNotLoaded, LeavesMarked, ShowsMarked}
use Rattle.ld_stopped.specs.Mending.{HasMended, HasHalted, IsNotOpened, IsMendStop}
use Rattle.ld_stopped.specs.Replacing.{replaced_text, Replaces, IsSwapStop, IsNotAsked}
use Rattle.ld_stopped.specs.Showing.{IsShowStop}
use Rattle.ld_stopped.specs.Shown.{shown_text}
use Rattle.ld_words.specs.declared.command.MendWords.{MendWords}
use Rattle.ld_words.specs.declared.command.ReplaceWords.{ReplaceWords}
use Rattle.ld_words.specs.declared.command.ShowWords.{ShowWords}
use Rattle.ld_cli.specs.declared.status.Status.{Status}
use Rattle.ld_cli.specs.declared.status.Status.TheVariants as statuses

-- ---- statuses ----

-- the status of a stop: each stop has one of its own
abbrev pub status_of : Stop → Status
status_of stops.NoMemory = statuses.NoMemory
status_of stops.Disk = statuses.Disk
status_of stops.Register = statuses.Register
status_of stops.Write = statuses.Write
status_of (stops.BadFrame fault) = statuses.BadFrame fault
status_of (stops.Damaged which place) = statuses.Damaged which place
status_of stops.Blank = statuses.Blank
status_of (stops.Full which) = statuses.JournalFull which
status_of stops.SwapLimit = statuses.SwapLimit

-- whether the node is mended; where it isn't, the status tells whether the nodes' count of failures rose
abbrev pub status_mended : Result Bool Stop → Bool → Status
status_mended (Ok true) risen = statuses.Ok
status_mended (Ok false) risen = if risen then statuses.Link else statuses.NotDone
status_mended (Err stop) risen = status_of stop

abbrev pub status_done : Result Unit Stop → Status
status_done (Ok done) = statuses.Ok
status_done (Err stop) = status_of stop

-- it has stopped so, with the status of the stop, and ends with no other status
abbrev pub EndsStopped : (Stop → Type 0) → Status → Type 0
EndsStopped stopped statuses.NoMemory = stopped stops.NoMemory
EndsStopped stopped statuses.Disk = stopped stops.Disk
EndsStopped stopped statuses.Register = stopped stops.Register
EndsStopped stopped statuses.Write = stopped stops.Write
EndsStopped stopped (statuses.BadFrame fault) = stopped (stops.BadFrame fault)
EndsStopped stopped (statuses.Damaged which place) = stopped (stops.Damaged which place)
EndsStopped stopped statuses.Blank = stopped stops.Blank
EndsStopped stopped (statuses.JournalFull which) = stopped (stops.Full which)
EndsStopped stopped statuses.SwapLimit = stopped stops.SwapLimit
EndsStopped stopped _ = ⊥

-- at the status Ok it is done, at another one it has stopped so
abbrev pub EndsDone : Type 0 → (Stop → Type 0) → Status → Type 0
EndsDone done stopped statuses.Ok = done
EndsDone done stopped status = EndsStopped stopped status

-- at the status Ok the node is mended, at Link and NotDone it isn't, at another one it has stopped so; the nodes' count of failures before and now
abbrev pub EndsMend : ℕ → ℕ → (Bool → Type 0) → (Stop → Type 0) → Status → Type 0
EndsMend before now mended stopped statuses.Ok = mended true
EndsMend before now mended stopped statuses.Link = mended false × (before < now)
EndsMend before now mended stopped statuses.NotDone = mended false × (now ≤ before)
EndsMend before now mended stopped status = EndsStopped stopped status

-- ---- what is done ----

-- a disk showed bytes, and a record stands there: a blank store isn't opened
abbrev pub IsFormatted : Option (List ℕ) → Type 0
IsFormatted seen = IfSome seen (λ bytes. ¬ IsBlank bytes)

-- of a disk: its count of faults, the bytes that it shows, and what may be left of it
module _ {D : Type 0} (failed : D → ℕ) (seen : D → Option (List ℕ)) (may_leave : D → List ℕ → Type 0)
    -- of an output: its count of faults, and what was written
    {O : Type 0} (misses : O → ℕ) (written : O → List ℕ) where
  -- why it stopped, and that nothing was written unless the output failed
  abbrev pub IsUnshown : D → D → O → O → Stop → Type 0
  IsUnshown disk now out out_now stop = IsShowStop (failed disk) (failed now) (seen disk) (misses out) (misses out_now) stop × ((stop ≡ stops.Write) ⊎ (written out_now ≡ written out))

  -- where the disk tells bytes that represent a plain state, its text was written, or a part of it from the front. The disk shows what it showed, but for a mark
  pub record IsShown (disk now : D) (out out_now : O) (w : ShowWords) (status : Status) : Type 0 where
    pub shown : (bytes : List ℕ) (p : Plain) → seen disk ≡ Some bytes → StandsFor p bytes
        → EndsDone (written out_now ≡ written out ++ shown_text w.json w.id p w.config.logs) (λ stop. WritesPart (written out) (written out_now) (shown_text w.json w.id p w.config.logs)) status
    pub ends : EndsDone (IsFormatted (seen disk)) (IsUnshown disk now out out_now) status
    pub same : (status ≡ statuses.Disk) ⊎ ShowsMarked (seen disk) (seen now)
    pub leaves : LeavesMarked (seen disk) (may_leave disk) (may_leave now)

  -- of a register: its count of faults, whether it tells, where it is damaged, what it holds, what it may hold and what it tells
  module _ {G : Type 0} (fails : G → ℕ) (told : G → Type 0) (damaged : G → ℕ → Type 0) (holds may_hold tells : G → Contents → Type 0) where
    -- the store wasn't opened, and the register wasn't called; or why it stopped then; and that nothing was written unless the output failed
    abbrev pub IsUnreplaced : D → D → G → G → O → O → ReplaceWords → Stop → Type 0
    IsUnreplaced disk now reg reg_now out out_now w stop =
        (IsNotAsked (IsNotLoaded (failed disk) (failed now) (seen disk) (seen now) (may_leave disk) (may_leave now)) reg reg_now stop ⊎ IsSwapStop (fails reg) (fails reg_now) (told reg) (holds reg) (damaged reg) w.log (misses out) (misses out_now) stop)
        × ((stop ≡ stops.Write) ⊎ (written out_now ≡ written out))

    -- by the node's plain state and what the register held, so the swap is, and so it ends
    abbrev pub Swaps : G → G → O → O → ReplaceWords → Plain → Result Unit Stop → Type 0
    Swaps reg reg_now out out_now w p ended = Replaces w.id (known_in w.config) p w.log w.of (told reg) (reg_now ≡ reg) (tells reg) (tells reg_now) (holds reg) (holds reg_now) (may_hold reg) (may_hold reg_now) (replaced_text w.id w.log w.of) (written out) (written out_now) ended

    -- where the disk tells bytes that represent a plain state, the swap is by that. The disk shows what it showed, but for a mark
    pub record IsReplaced (disk now : D) (reg reg_now : G) (out out_now : O) (w : ReplaceWords) (status : Status) : Type 0 where
      pub swaps : (bytes : List ℕ) (p : Plain) → seen disk ≡ Some bytes → StandsFor p bytes → EndsDone (Swaps reg reg_now out out_now w p (Ok tt)) (λ stop. Swaps reg reg_now out out_now w p (Err stop)) status
      pub ends : EndsDone (IsFormatted (seen disk)) (IsUnreplaced disk now reg reg_now out out_now w) status
      pub same : (status ≡ statuses.Disk) ⊎ ShowsMarked (seen disk) (seen now)
      pub leaves : LeavesMarked (seen disk) (may_leave disk) (may_leave now)
      pub still : told reg → told reg_now

    -- which one a register is; of nodes: their count of failures, what they tell, whether they are silent, and which bytes begin no frame
    module _ (identity : G → ℕ) {N : Type 0} (faults : N → ℕ) (told_far : N → Config → Far → Type 0) (silent : N → Bool) (off : N → Option WireFault) where
      -- the store wasn't opened, and nothing else was called
      abbrev pub IsUnopened : D → D → G → G → N → N → O → O → Stop → Type 0
      IsUnopened disk now reg reg_now nodes nodes_now out out_now stop = IsNotOpened (IsNotLoaded (failed disk) (failed now) (seen disk) (seen now) (may_leave disk) (may_leave now)) reg reg_now nodes nodes_now out out_now stop

      -- that, or why it stopped once it was open
      abbrev pub IsUnmended : D → D → G → G → N → N → O → O → Stop → Type 0
      IsUnmended disk now reg reg_now nodes nodes_now out out_now stop = IsUnopened disk now reg reg_now nodes nodes_now out out_now stop
          ⊎ IsMendStop (WasDamaged told damaged identity reg) (counts (failed disk) (fails reg) (misses out)) (counts (failed now) (fails reg_now) (misses out_now)) (off nodes_now) stop

      -- where the disk tells bytes that represent a plain state, and the register what it holds: all that was done are ticks of the node and answers to its own asks, and the lines of that were written, and of how it stands for each log; or
      -- it stopped behind such deeds; or the store wasn't opened. Where the other nodes are told of, they answered so
      pub record IsMended (disk now : D) (reg reg_now : G) (nodes nodes_now : N) (out out_now : O) (w : MendWords) (status : Status) : Type 0 where
        pub mended : (bytes : List ℕ) (p : Plain) (r : Contents) (far : Option (List (ℕ × Node))) → seen disk ≡ Some bytes → StandsFor p bytes → holds reg r → ToldAs (told_far nodes w.config) far
            → IsHushed (silent nodes_now) far ⊎ EndsMend (faults nodes) (faults nodes_now)
            (HasMended w.id (known_in w.config) w.config r bytes p far (may_leave now) (written out) (written out_now) (holds reg_now r) (told_far nodes_now w.config) (logs_of w.config.logs))
            (λ stop. IsUnopened disk now reg reg_now nodes nodes_now out out_now stop ⊎ HasHalted w.id (known_in w.config) w.config r bytes p far (may_leave now) (written out) (written out_now) stop) status
        pub ends : EndsMend (faults nodes) (faults nodes_now) (λ whole. IsFormatted (seen disk)) (IsUnmended disk now reg reg_now nodes nodes_now out out_now) status
        pub still : told reg → told reg_now
