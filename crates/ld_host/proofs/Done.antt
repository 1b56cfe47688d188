-- What a call of a node leaves of its host: an op that was kept, or wasn't.
use Rattle.std.proofs.Common.{◌≡◌, ◌==◌, ℕ, List, [], true, false, Option, None, Some, if◌then◌else◌, refl, sym, ◌∙◌, ap, subst, ⊎_elim, true≢false}
use Rattle.ld_msg.specs.declared.msg.Msg.{Msg}
use Rattle.ld_disk.specs.Memory.{disk_plain}
use Rattle.ld_disk.specs.Plain.{Plain as DiskPlain, after_calls, all_succeed}
use Rattle.ld_disk.specs.declared.disk.Disk.{Ghosts}
use Rattle.ld_disk.specs.declared.memory.MemDisk.{MemDisk}
use Rattle.ld_op.specs.declared.op.Op.{Op}
use Rattle.ld_op.specs.declared.op.Op.TheVariants as ops
use Rattle.ld_op.specs.Plain.{Plain, apply}
use Rattle.ld_op.specs.Records.{is_format}
use Rattle.ld_layout.specs.Layout.{Layout}
use Rattle.ld_segment.specs.Lies.{op_row}
use Rattle.ld_register.specs.declared.fault.RegisterFault.{RegisterFault}
use Rattle.ld_node.specs.Changes.{IsPast, laid_with, slots_kept, calls_of, AreChanges}
use Rattle.ld_node.specs.Node.{id_of, known_of, released_of, disk_of, layout_of, slots_of, Holds}
use Rattle.ld_node.specs.Known.{known_in}
use Rattle.ld_node.specs.declared.node.Node.{Node as Running}
use Rattle.ld_node.specs.declared.fault.NodeFault.{NodeFault}
use Rattle.ld_node.specs.declared.fault.NodeFault.TheVariants as faults
use Rattle.ld_config.specs.declared.config.Config.{Config}
use Rattle.ld_machine.specs.Disk.{Node, Up, Written, Made, fate, with_op}
use Rattle.ld_machine.specs.Step.{is_written}
use Rattle.ld_host.specs.declared.kept.Kept.{Kept as HostKept}
use Rattle.ld_host.specs.declared.state.State.{State}
use Rattle.ld_host.specs.Faults.{IsArmed}
use Rattle.ld_host.specs.Lies.{Rests, Lies}
use Rattle.ld_host.specs.Stands.{Runs, StandsAs, seen_in, leaves_of}
use Rattle.ld_host.specs.Done.{op_done, shown_kept}
use Rattle.ld_host.proofs.Fates.{AllMade, Stops, fates}
use Rattle.ld_host.proofs.Keeping.{Follows, may_keep, row_long, written_lies}
use Rattle.ld_host.proofs.Fulls.{not_full, keep_by}
use Rattle.ld_host.specs.States.{Refuses}
use Rattle.ld_host.proofs.Ending.{NotKept, not_kept_ends}

-- ---- changes ----

generation_stays : (p : Plain) (o : Op) → is_format o ≡ false → (apply p o).generation ≡ p.generation
unfolding apply
generation_stays p (ops.Format generation epochs) is = absurd (true≢false is)
generation_stays p (ops.Accept l lng e) is = refl
generation_stays p (ops.Seal l b) is = refl
generation_stays p (ops.Clean l epoch y) is = refl
generation_stays p (ops.Trim l t) is = refl
generation_stays p (ops.Refill l es) is = refl
generation_stays p (ops.Refilled l) is = refl

pub change_formatted : (p : Plain) (o : Op) → is_format o ≡ false → (p.generation == 0) ≡ false → ((apply p o).generation == 0) ≡ false
change_formatted p o is formatted = ap (λ n. n == 0) (generation_stays p o is) ∙ formatted

-- an op, where there is one, that may be kept where the journal lies so
abbrev pub FollowsAny : Layout → Plain → Option Op → Type 0
FollowsAny y p None = Unit {0}
FollowsAny y p (Some o) = Follows y p o

pub change_follows : (y : Layout) (p : Plain) (op : Option Op) → AreChanges op → (y.ops == 0) ≡ false → (p.generation == 0) ≡ (y.ops == 0) → FollowsAny y p op
change_follows y p None is some formatted = tt
change_follows y p (Some o) is some formatted = record { op = is.op; format = is.kind ∙ sym some; formatted = change_formatted p o is.kind (formatted ∙ some) }

module _ (c : Config) (n : ℕ) (p : DiskPlain) (y : Node) (lies : Lies p y) (whole : y.cut ≡ None) (ms : List Msg) where
  -- ---- written ----

  -- what is known of the node after a call that was made
  pub record Keeps {g : Ghosts MemDisk} (op : Option Op) (new : Running MemDisk g) : Type 0 where
    pub id : id_of new ≡ n
    pub known : known_of new ≡ known_in c
    pub released : released_of new ≡ y.released
    pub laid : layout_of new ≡ laid_with y.layout op
    pub slots : slots_of new ≡ slots_kept y.layout lies.slots op
    pub holds : Holds seen_in leaves_of new
    pub within : IsPast y.layout op → ⊥
    pub succeed : all_succeed (calls_of y.layout lies.slots op) p ≡ true
    pub disk : disk_plain (disk_of new) ≡ after_calls (calls_of y.layout lies.slots op) p

  abbrev pub Wrote : {g : Ghosts MemDisk} → Option Op → Running MemDisk g → Type 0
  Wrote op new = Runs c n new (op_done y op ms).node × (Written ≡ (op_done y op ms).end) × (ms ≡ (op_done y op ms).sends)

  module _ {g : Ghosts MemDisk} (new : Running MemDisk g) where
    made_one : (o : Op) → Follows y.layout y.plain o → Keeps (Some o) new → AllMade (op_row y.layout lies.slots o) y.fault p → Wrote (Some o) new
    unfolding written_lies
    made_one o next keeps made =
        let fits = not_full y o keeps.within in
        let kept = keep_by y o Made fits (ap (λ k. fate k y.fault) (sym (row_long y.layout lies.slots o)) ∙ made.fate_is) in
        let lies_then = written_lies p y o lies whole (may_keep y.layout y.plain o next fits) next.formatted made in
        let runs : Runs c n new (with_op y o) = record {
          status = refl;
          id = keeps.id;
          known = keeps.known;
          released = keeps.released;
          cut = whole;
          laid = keeps.laid;
          lies = record {
            slots = lies_then.slots;
            formatted = lies_then.formatted;
            rests = subst (λ q. Rests (with_op y o).layout lies_then.slots (with_op y o).plain y.cut q.state) (sym keeps.disk) lies_then.rests;
            armed = subst (λ q. IsArmed (with_op y o).fault q) (sym keeps.disk) lies_then.armed;
          };
          slots = keeps.slots;
          holds = keeps.holds;
        } in
        (subst (λ z. Runs c n new z) (sym kept.0) runs, sym kept.1, ap (λ b. if is_written b then ms else []) (sym kept.1))

    not_stopped : {A : Type 0} (o : Op) → Keeps (Some o) new → Stops (op_row y.layout lies.slots o) y.fault p → A
    not_stopped o keeps stops = absurd (true≢false (sym keeps.succeed ∙ stops.succeed))

    pub wrote_one : (o : Op) → Follows y.layout y.plain o → Keeps (Some o) new → Wrote (Some o) new
    wrote_one o next keeps = ⊎_elim (λ made. made_one o next keeps made) (λ stops. not_stopped o keeps stops) (fates (op_row y.layout lies.slots o) y.fault p lies.armed)

    pub wrote : y.status ≡ Up → (op : Option Op) → FollowsAny y.layout y.plain op → Keeps op new → Wrote op new
    wrote up None next keeps = (
      record {
        status = up;
        id = keeps.id;
        known = keeps.known;
        released = keeps.released;
        cut = whole;
        laid = keeps.laid;
        lies = record {
          slots = lies.slots;
          formatted = lies.formatted;
          rests = subst (λ q. Rests y.layout lies.slots y.plain y.cut q.state) (sym keeps.disk) lies.rests;
          armed = subst (λ q. IsArmed y.fault q) (sym keeps.disk) lies.armed;
        };
        slots = keeps.slots;
        holds = keeps.holds;
      },
      refl,
      refl,
    )
    wrote up (Some o) next keeps = wrote_one o next keeps

  -- ---- not written ----

  -- what is known of a call that was refused, and of the disk then
  pub record StandsStill (op : Option Op) (fault : NodeFault) (q : DiskPlain) : Type 0 where
    pub full : fault ≡ faults.Full → IsPast y.layout op × (q ≡ p)
    pub failed : fault ≡ faults.Disk → (IsPast y.layout op → ⊥) × (all_succeed (calls_of y.layout lies.slots op) p ≡ false) × (q ≡ after_calls (calls_of y.layout lies.slots op) p)
    pub loaded : fault ≡ faults.NeedsLoad → ⊥
    pub whole_still : (at : ℕ) → fault ≡ faults.Damaged at → ⊥
    pub register : (f : RegisterFault) → fault ≡ faults.Register f → ⊥

  abbrev pub Stayed : Option Op → State × HostKept → Type 0
  Stayed op done = StandsAs c n done.0 (op_done y op ms).node × (shown_kept done.1 ≡ (op_done y op ms).end) × ([] ≡ (op_done y op ms).sends) × (is_written (op_done y op ms).end ≡ false)

  none_refused : (fault : NodeFault) (q : DiskPlain) (done : State × HostKept) → StandsStill None fault q → Refuses fault q done → Stayed None done
  none_refused faults.Disk q done still refuses = absurd (true≢false (still.failed refl).1)
  none_refused (faults.Damaged at) q done still refuses = absurd (still.whole_still at refl)
  none_refused faults.Full q done still refuses = absurd (still.full refl).0
  none_refused faults.NeedsLoad q done still refuses = absurd (still.loaded refl)
  none_refused (faults.Register f) q done still refuses = absurd (still.register f refl)
  none_refused faults.NoMemory q done still refuses = absurd (refuses.memory refl)

  pub stayed : (op : Option Op) (fault : NodeFault) (q : DiskPlain) (done : State × HostKept) → FollowsAny y.layout y.plain op → StandsStill op fault q → Refuses fault q done → Stayed op done
  stayed None fault q done next still refuses = none_refused fault q done still refuses
  stayed (Some o) fault q done next still refuses =
      let not_kept : NotKept c n p y o lies whole next fault q = record { full = still.full; failed = still.failed; loaded = still.loaded; whole_still = still.whole_still; register = still.register } in
      let ends = not_kept_ends c n p y o lies whole next fault q done not_kept refuses in
      (ends.0, ends.1, ap (λ b. if b then ms else []) (sym ends.2), ends.2)
