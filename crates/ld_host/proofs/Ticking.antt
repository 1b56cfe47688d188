-- What a look at the register does to a node that runs on a host.
use Rattle.std.proofs.Common.{◌≡◌, ℕ, [], true, false, if◌then◌else◌, refl, sym, ◌∙◌, ap, subst, inl, inr, ◌⊎◌}
use Rattle.ld_table.specs.Words.{is_in}
use Rattle.ld_disk.specs.Memory.{disk_plain}
use Rattle.ld_disk.specs.Plain.{Plain as DiskPlain, after_calls, all_succeed}
use Rattle.ld_disk.specs.declared.disk.Disk.{Ghosts}
use Rattle.ld_disk.specs.declared.memory.MemDisk.{MemDisk}
use Rattle.ld_msg.specs.Register.{Register, epochs_of}
use Rattle.ld_op.specs.Plain.{log_of}
use Rattle.ld_op.specs.Ticks.{Ticked, Nothing, on_tick}
use Rattle.ld_register.specs.Calls.{unarmed}
use Rattle.ld_node.specs.Changes.{AreChanges, IsPast, laid_with, slots_kept, calls_of}
use Rattle.ld_node.specs.Looks.{AreClosed, ticked, op_of, answer_of}
use Rattle.ld_node.specs.Node.{id_of, known_of, released_of, disk_of, layout_of, slots_of, plain_of, is_blank, Holds}
use Rattle.ld_node.specs.Known.{known_in}
use Rattle.ld_node.specs.declared.node.Node.{Node as Running}
use Rattle.ld_node.specs.declared.tick.Ticked as answers
use Rattle.ld_node.specs.declared.tick.Ticked.TheVariants as ticks
use Rattle.ld_node.specs.declared.fault.NodeFault.{NodeFault}
use Rattle.ld_node.specs.declared.fault.NodeFault.TheVariants as faults
use Rattle.ld_node.proofs.Looks.{ticked_is}
use Rattle.ld_config.specs.declared.config.Config.{Config}
use Rattle.ld_machine.specs.Config.{all_nodes, has_log}
use Rattle.ld_machine.specs.Disk.{Node, Written}
use Rattle.ld_machine.specs.Step.{is_written}
use Rattle.ld_host.specs.declared.kept.Kept.{Kept as HostKept}
use Rattle.ld_host.specs.declared.state.State.{State}
use Rattle.ld_host.specs.States.{Refuses}
use Rattle.ld_host.specs.Stands.{Runs, StandsAs, seen_in, leaves_of}
use Rattle.ld_host.specs.Done.{shown_kept, tick_of, tick_done, tick_answer}
use Rattle.ld_host.proofs.Done.{FollowsAny, change_follows, Keeps, wrote, stayed}
use Rattle.ld_host.proofs.Logs.{log_is_known}
use Rattle.ld_host.proofs.Answering.{Refused, still}
use Rattle.ld_host.proofs.Running.{plain_here, some_here}

module _ {g : Ghosts MemDisk} (c : Config) (n : ℕ) (node : Running MemDisk g) (x : Node) (l : ℕ) (r : Register) (runs : Runs c n node x) (formatted : is_blank node ≡ false)
    (has : has_log c l ≡ true) (closed : AreClosed r l) where
  plain_is : plain_of node ≡ x.plain
  plain_is = plain_here c n node x runs

  ticks_here : (if is_in l (known_in c).logs then on_tick (log_of x.plain l) (epochs_of (unarmed r) l).summaries else Nothing) ≡ tick_of x l r
  ticks_here = ap (λ b. if b then on_tick (log_of x.plain l) (epochs_of r l).summaries else Nothing) (log_is_known c l has)

  tick_is : ticked (known_of node) (plain_of node) l (unarmed r) ≡ tick_of x l r
  tick_is = (λ i. ticked (runs.known i) (plain_is i) l (unarmed r)) ∙ (ticked_is (known_in c) x.plain l (unarmed r) closed ∙ ticks_here)

  nodes_are : (known_of node).nodes ≡ all_nodes c
  nodes_are = ap (λ k. k.nodes) runs.known

  follows : AreChanges (op_of l (tick_of x l r)) → FollowsAny x.layout x.plain (op_of l (tick_of x l r))
  follows changes = change_follows x.layout x.plain (op_of l (tick_of x l r)) changes (some_here c n node x runs formatted) runs.lies.formatted

  pub ticked_well : (t : Ticked) (new : Running MemDisk g) (answer : answers.Ticked) → t ≡ ticked (known_of node) (plain_of node) l (unarmed r)
      → id_of new ≡ id_of node → known_of new ≡ known_of node → released_of new ≡ released_of node
      → (layout_of new ≡ laid_with (layout_of node) (op_of l t)) × (slots_of new ≡ slots_kept (layout_of node) (slots_of node) (op_of l t)) → Holds seen_in leaves_of new → AreChanges (op_of l t) → (IsPast (layout_of node) (op_of l t) → ⊥)
      → disk_plain (disk_of new) ≡ after_calls (calls_of (layout_of node) (slots_of node) (op_of l t)) (disk_plain (disk_of node)) → all_succeed (calls_of (layout_of node) (slots_of node) (op_of l t)) (disk_plain (disk_of node)) ≡ true
      → answer ≡ answer_of (id_of node) l ((known_of node).nodes) t
      → Runs c n new (tick_done c n x l r).node × (Written ≡ (tick_done c n x l r).end) × (answer ≡ tick_answer c n x l r)
  ticked_well t new answer t_is id known released laid holds changes within disk succeed answer_is =
      let p = disk_plain (disk_of node) in
      let same : t ≡ tick_of x l r = t_is ∙ tick_is in
      let o = op_of l (tick_of x l r) in
      let calls : calls_of (layout_of node) (slots_of node) (op_of l t) ≡ calls_of x.layout runs.lies.slots o = λ i. calls_of (runs.laid i) (runs.slots i) (op_of l (same i)) in
      let keeps_it : Keeps c n p x runs.lies runs.cut [] o new = record {
        id = id ∙ runs.id;
        known = known ∙ runs.known;
        released = released ∙ runs.released;
        laid = laid.0 ∙ (λ i. laid_with (runs.laid i) (op_of l (same i)));
        slots = laid.1 ∙ (λ i. slots_kept (runs.laid i) (runs.slots i) (op_of l (same i)));
        holds = holds;
        within = λ past. within (subst (λ k. IsPast (layout_of node) k) (ap (λ k. op_of l k) (sym same)) (subst (λ m. IsPast m o) (sym runs.laid) past));
        succeed = ap (λ m. all_succeed m p) (sym calls) ∙ succeed;
        disk = disk ∙ ap (λ m. after_calls m p) calls;
      } in
      let done = wrote c n p x runs.lies runs.cut [] new runs.status o (follows (subst (λ k. AreChanges (op_of l k)) same changes)) keeps_it in (
        done.0,
        done.1,
        answer_is ∙ ((λ i. answer_of (runs.id i) l (nodes_are i) (same i)) ∙ ap (λ e. if is_written e then answer_of n l (all_nodes c) (tick_of x l r) else ticks.Nothing) done.1),
      )

  abbrev Stops : State × HostKept → Type 0
  Stops done = StandsAs c n done.0 (tick_done c n x l r).node × (shown_kept done.1 ≡ (tick_done c n x l r).end) × (ticks.Nothing ≡ tick_answer c n x l r)

  stops_if : (fault : NodeFault) (q : DiskPlain) (done : State × HostKept) → AreChanges (op_of l (tick_of x l r)) → Refused x.layout runs.lies.slots (op_of l (tick_of x l r)) fault (disk_plain (disk_of node)) q → Refuses fault q done → Stops done
  stops_if fault q done changes not refuses =
      let p = disk_plain (disk_of node) in
      let o = op_of l (tick_of x l r) in
      let left = stayed c n p x runs.lies runs.cut [] o fault q done (follows changes) (still c n p x runs.lies runs.cut [] o fault q not) refuses in
      (left.0, left.1, ap (λ b. if b then answer_of n l (all_nodes c) (tick_of x l r) else ticks.Nothing) (sym left.3))

  stops_by : (fault : NodeFault) (q : DiskPlain) (done : State × HostKept) → ((fault ≡ faults.Disk) ⊎ (fault ≡ faults.Full) → AreChanges (op_of l (tick_of x l r)))
      → Refused x.layout runs.lies.slots (op_of l (tick_of x l r)) fault (disk_plain (disk_of node)) q → Refuses fault q done → Stops done
  stops_by faults.Disk q done changes not refuses = stops_if faults.Disk q done (changes (inl refl)) not refuses
  stops_by (faults.Damaged at) q done changes not refuses = absurd (not.damaged at refl)
  stops_by faults.Full q done changes not refuses = stops_if faults.Full q done (changes (inr refl)) not refuses
  stops_by faults.NeedsLoad q done changes not refuses = absurd (not.loaded refl)
  stops_by (faults.Register f) q done changes not refuses = absurd (not.register f refl)
  stops_by faults.NoMemory q done changes not refuses = absurd (refuses.memory refl)

  pub tick_stops : (t : Ticked) (fault : NodeFault) (q : DiskPlain) (done : State × HostKept) → t ≡ ticked (known_of node) (plain_of node) l (unarmed r)
      → ((fault ≡ faults.Disk) ⊎ (fault ≡ faults.Full) → AreChanges (op_of l t)) → Refused (layout_of node) (slots_of node) (op_of l t) fault (disk_plain (disk_of node)) q → Refuses fault q done → Stops done
  tick_stops t fault q done t_is changes not refuses =
      let p = disk_plain (disk_of node) in
      let same : t ≡ tick_of x l r = t_is ∙ tick_is in
      stops_by fault q done (λ is. subst (λ k. AreChanges (op_of l k)) same (changes is))
      (subst (λ z. Refused x.layout z (op_of l (tick_of x l r)) fault p q) runs.slots (subst (λ m. Refused m (slots_of node) (op_of l (tick_of x l r)) fault p q) runs.laid (subst (λ k. Refused (layout_of node) (slots_of node) (op_of l k) fault p q) same not))) refuses
