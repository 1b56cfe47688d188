-- How a call of a node ends on its host.
use Rattle.std.proofs.Common.{◌≡◌, ⊎_elim, ℕ, List, true, false, Option, None, Some, is_some, refl, sym, ◌∙◌, ap, subst}
use Rattle.ld_schedule.specs.declared.event.Picture.{Picture as Named}
use Rattle.ld_disk.specs.Plain.{Plain as DiskPlain, Call, after_calls, all_succeed, restarted}
use Rattle.ld_op.specs.declared.op.Op.{Op}
use Rattle.ld_segment.specs.Lies.{op_row}
use Rattle.ld_register.specs.declared.fault.RegisterFault.{RegisterFault}
use Rattle.ld_node.specs.declared.fault.NodeFault.{NodeFault}
use Rattle.ld_node.specs.declared.fault.NodeFault.TheVariants as faults
use Rattle.ld_config.specs.declared.config.Config.{Config}
use Rattle.ld_machine.specs.Disk.{Node, Down, Failed, Kept, is_full_for, keep_op, keep_end, fate, fate_by}
use Rattle.ld_machine.specs.Step.{is_written}
use Rattle.ld_host.specs.declared.kept.Kept.{Kept as HostKept}
use Rattle.ld_host.specs.declared.kept.Kept.TheVariants as ends
use Rattle.ld_host.specs.declared.state.State.{State}
use Rattle.ld_host.specs.declared.state.State.TheVariants as states
use Rattle.ld_host.specs.States.{IsFailedAt, IsDownAt, Refuses}
use Rattle.ld_host.specs.Faults.{crash_of}
use Rattle.ld_host.specs.Lies.{Lies}
use Rattle.ld_host.specs.Stands.{StandsAs}
use Rattle.ld_host.specs.Done.{shown_kept}
use Rattle.ld_host.proofs.Fates.{AllMade, Stops, fates}
use Rattle.ld_host.proofs.Keeping.{Follows, may_keep, cut_node, cut_lies, row_long}
use Rattle.ld_host.proofs.Fulls.{not_full, keep_full, keep_by}

module _ (c : Config) (n : ℕ) where
  pub failed_stands : (s : State) (q : DiskPlain) (y : Node) → IsFailedAt q s → y.status ≡ Failed → Lies q y → StandsAs c n s y
  failed_stands (states.Blank m) q y at is lies = absurd at
  failed_stands (states.Up node) q y at is lies = absurd at
  failed_stands (states.Down m) q y at is lies = absurd at
  failed_stands (states.Failed m) q y at is lies = record { is = is; lies = subst (λ p. Lies p y) (sym at) lies }
  failed_stands states.Gone q y at is lies = absurd at

  pub down_stands : (s : State) (q : DiskPlain) (y : Node) → IsDownAt q s → y.status ≡ Down → Lies q y → StandsAs c n s y
  down_stands (states.Blank m) q y at is lies = absurd at
  down_stands (states.Up node) q y at is lies = absurd at
  down_stands (states.Down m) q y at is lies = record { is = is; lies = subst (λ p. Lies p y) (sym at) lies }
  down_stands (states.Failed m) q y at is lies = absurd at
  down_stands states.Gone q y at is lies = absurd at

  -- the host stands as this node, and the call ended so, with nothing written
  abbrev pub EndsAs : Node → Kept → State × HostKept → Type 0
  EndsAs y end done = StandsAs c n done.0 y × (shown_kept done.1 ≡ end) × (is_written end ≡ false)

  -- ---- an op that wasn't kept ----

  module _ (p : DiskPlain) (x : Node) (o : Op) (lies : Lies p x) (whole : x.cut ≡ None) (next : Follows x.layout x.plain o) where
    abbrev pub op_calls : List Call
    op_calls = op_row x.layout lies.slots o

    -- what is known of the node's answer
    pub record NotKept (fault : NodeFault) (q : DiskPlain) : Type 0 where
      pub full : fault ≡ faults.Full → (is_full_for x o ≡ true) × (q ≡ p)
      pub failed : fault ≡ faults.Disk → (is_full_for x o ≡ true → ⊥) × (all_succeed op_calls p ≡ false) × (q ≡ after_calls op_calls p)
      pub loaded : fault ≡ faults.NeedsLoad → ⊥
      pub whole_still : (place : ℕ) → fault ≡ faults.Damaged place → ⊥
      pub register : (f : RegisterFault) → fault ≡ faults.Register f → ⊥

    full_ends : (q : DiskPlain) (done : State × HostKept) → is_full_for x o ≡ true → q ≡ p → (done.1 ≡ ends.Full) × IsFailedAt q done.0 → EndsAs (keep_op x o) (keep_end x o) done
    full_ends q done above same left =
        let kept = keep_full x o above in
        let still : Lies p (record x { status = Failed }) = record { slots = lies.slots; formatted = lies.formatted; rests = lies.rests; armed = lies.armed } in (
          subst (λ y. StandsAs c n done.0 y) (sym kept.0) (failed_stands done.0 q (record x { status = Failed }) left.1 refl (subst (λ r. Lies r (record x { status = Failed })) (sym same) still)),
          ap shown_kept left.0 ∙ sym kept.1,
          ap is_written kept.1,
        )

    stops_end : (q : DiskPlain) (done : State × HostKept) (stops : Stops op_calls x.fault p) (crash : Option Named) → stops.crash ≡ crash → (is_full_for x o ≡ true → ⊥) → q ≡ after_calls op_calls p
        → Refuses faults.Disk q done → EndsAs (keep_op x o) (keep_end x o) done
    stops_end q done stops None crash_is within q_is refuses =
        let kept = keep_by x o (fate_by stops.left None) (not_full x o within) (ap (λ k. fate k x.fault) (sym (row_long x.layout lies.slots o)) ∙ stops.fate_is ∙ ap (fate_by stops.left) crash_is) in
        let stands : q.crashed ≡ false = ap (λ r. r.crashed) q_is ∙ stops.crashed ∙ ap (λ r. is_some (crash_of r)) crash_is in
        let left = refuses.failed refl stands in
        let lies_cut = cut_lies p x o lies whole (may_keep x.layout x.plain o next (not_full x o within)) next.formatted stops q Failed (ap (λ r. r.state) q_is) (ap (λ r. r.armed) q_is ∙ stops.armed) stands in (
          subst (λ y. StandsAs c n done.0 y) (sym kept.0) (failed_stands done.0 q (cut_node x o Failed stops.left None) left.1 refl (subst (λ r. Lies q (cut_node x o Failed stops.left r)) crash_is lies_cut)),
          ap shown_kept left.0 ∙ sym kept.1,
          ap is_written kept.1,
        )
    stops_end q done stops (Some picture) crash_is within q_is refuses =
        let kept = keep_by x o (fate_by stops.left (Some picture)) (not_full x o within) (ap (λ k. fate k x.fault) (sym (row_long x.layout lies.slots o)) ∙ stops.fate_is ∙ ap (fate_by stops.left) crash_is) in
        let crashed : q.crashed ≡ true = ap (λ r. r.crashed) q_is ∙ stops.crashed ∙ ap (λ r. is_some (crash_of r)) crash_is in
        let left = refuses.crashed refl crashed in
        let lies_cut = cut_lies p x o lies whole (may_keep x.layout x.plain o next (not_full x o within)) next.formatted stops (restarted q) Down (ap (λ r. r.state) q_is) (ap (λ r. r.armed) q_is ∙ stops.armed) refl in (
          subst (λ y. StandsAs c n done.0 y) (sym kept.0) (down_stands done.0 (restarted q) (cut_node x o Down stops.left (Some picture)) left.1 refl (subst (λ r. Lies (restarted q) (cut_node x o Down stops.left r)) crash_is lies_cut)),
          ap shown_kept left.0 ∙ sym kept.1,
          ap is_written kept.1,
        )

    made_not : {A : Type 0} → AllMade op_calls x.fault p → all_succeed op_calls p ≡ false → A
    made_not made fails = let e : true ≡ false = sym made.succeed ∙ fails in absurd (cc e)

    failed_ends : (q : DiskPlain) (done : State × HostKept) → (is_full_for x o ≡ true → ⊥) → all_succeed op_calls p ≡ false → q ≡ after_calls op_calls p → Refuses faults.Disk q done → EndsAs (keep_op x o) (keep_end x o) done
    failed_ends q done within fails q_is refuses = ⊎_elim
        (λ made. made_not made fails)
        (λ stops. stops_end q done stops stops.crash refl within q_is refuses)
        (fates op_calls x.fault p lies.armed)

    pub not_kept_ends : (fault : NodeFault) (q : DiskPlain) (done : State × HostKept) → NotKept fault q → Refuses fault q done → EndsAs (keep_op x o) (keep_end x o) done
    not_kept_ends faults.Disk q done not_kept refuses = let f = not_kept.failed refl in failed_ends q done f.0 f.1 f.2 refuses
    not_kept_ends (faults.Damaged place) q done not_kept refuses = absurd (not_kept.whole_still place refl)
    not_kept_ends faults.Full q done not_kept refuses = let f = not_kept.full refl in full_ends q done f.0 f.1 (refuses.full refl)
    not_kept_ends faults.NeedsLoad q done not_kept refuses = absurd (not_kept.loaded refl)
    not_kept_ends (faults.Register f) q done not_kept refuses = absurd (not_kept.register f refl)
    not_kept_ends faults.NoMemory q done not_kept refuses = absurd (refuses.memory refl)
