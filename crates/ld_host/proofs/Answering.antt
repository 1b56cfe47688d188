-- What a message does to a node that runs on a host.
use Rattle.std.proofs.Common.{◌≡◌, ℕ, List, [], true, false, Option, Some, None, if◌then◌else◌, Result, Ok, Err, refl, sym, ◌∙◌, ap, subst, arith, inl, inr, ⊎_elim, ◌⊎◌}
use Rattle.std.proofs.lemmas.Bool.{and_from}
use Rattle.ld_table.specs.Table.{find}
use Rattle.ld_table.specs.Words.{is_in}
use Rattle.ld_msg.specs.declared.msg.Msg.{Msg}
use Rattle.ld_msg.specs.declared.msg.Body.{Body}
use Rattle.ld_msg.specs.declared.msg.Body.TheVariants as bodies
use Rattle.ld_msg.specs.declared.msg.Who.TheVariants as whos
use Rattle.ld_op.specs.declared.op.Op.{Op}
use Rattle.ld_op.specs.Plain.{Plain, log_of}
use Rattle.ld_op.specs.Cells.{byte_at}
use Rattle.ld_op.proofs.Cells.{log_same}
use Rattle.ld_op.specs.Answers.{Handled, silent}
use Rattle.ld_op.specs.Handles.{answer_message}
use Rattle.ld_config.specs.declared.config.Config.{Config}
use Rattle.ld_machine.specs.Config.{has_log}
use Rattle.ld_machine.specs.Disk.{Node}
use Rattle.ld_machine.specs.Step.{node_handles, releases, released_at}
use Rattle.ld_node.specs.Msgs.{is_for, is_node, handled, number_in, released_by, raised, released_after}
use Rattle.ld_node.specs.Known.{known_in}
use Rattle.ld_disk.specs.Memory.{disk_plain}
use Rattle.ld_disk.specs.Plain.{Plain as DiskPlain, after_calls, all_succeed}
use Rattle.ld_disk.specs.declared.disk.Disk.{Ghosts}
use Rattle.ld_disk.specs.declared.memory.MemDisk.{MemDisk}
use Rattle.ld_msg.specs.declared.msg.Summary.{Summary}
use Rattle.ld_msg.specs.Bounds.{Fits, IsMessage, IsSummary}
use Rattle.ld_store.specs.Open.{told_plain}
use Rattle.ld_layout.specs.Layout.{Layout}
use Rattle.ld_segment.specs.Lies.{Slots}
use Rattle.ld_node_bounds.specs.States.{last_carried}
use Rattle.ld_node_bounds.proofs.Ops.{summaries_are}
use Rattle.ld_store.specs.Well.{IsWell}
use Rattle.ld_register.specs.declared.fault.RegisterFault.{RegisterFault}
use Rattle.ld_node.specs.Changes.{IsChange, AreChanges, IsPast, laid_with, slots_kept, calls_of}
use Rattle.ld_node.specs.Node.{id_of, known_of, released_of, disk_of, layout_of, slots_of, index_of, plain_of, is_blank, Holds}
use Rattle.ld_node.specs.declared.node.Node.{Node as Running}
use Rattle.ld_node.specs.declared.fault.NodeFault.{NodeFault}
use Rattle.ld_node.specs.declared.fault.NodeFault.TheVariants as faults
use Rattle.ld_node.proofs.Changes.{handled_change}
use Rattle.ld_machine.specs.Disk.{Written}
use Rattle.ld_host.specs.declared.kept.Kept.{Kept as HostKept}
use Rattle.ld_host.specs.declared.state.State.{State}
use Rattle.ld_host.specs.Lies.{Lies}
use Rattle.ld_host.specs.Stands.{Runs, StandsAs, seen_in, leaves_of}
use Rattle.ld_host.specs.Done.{op_done, message_done, shown_kept}
use Rattle.ld_host.specs.States.{Refuses}
use Rattle.ld_host.proofs.Done.{FollowsAny, change_follows, Keeps, wrote, StandsStill, stayed}
use Rattle.ld_host.proofs.Logs.{log_is_known}
use Rattle.ld_host.proofs.Running.{plain_here, some_here}

node_is_itself : (n : ℕ) → is_node n (whos.Node n) ≡ true
node_is_itself n = grind arith

module _ (c : Config) (n : ℕ) (m : Msg) (to : m.to ≡ whos.Node n) (has : has_log c m.log ≡ true) where
  for_it : is_for n (known_in c) m ≡ true
  for_it = and_from (is_node n m.to) (is_in m.log (known_in c).logs) (ap (is_node n) to ∙ node_is_itself n) (log_is_known c m.log has)

  pub handled_is : (x : Node) → handled n (known_in c) x.released x.plain m ≡ node_handles n x m
  unfolding handled
  handled_is x = ap (λ b. if b then node_handles n x m else silent) for_it

  raises : (x : Node) (l : ℕ) (b : Body) → releases x l b ≡ record x { released = raised x.released l (number_in b) }
  raises x l (bodies.Store s lng w) = refl
  raises x l (bodies.Stored s) = refl
  raises x l (bodies.SealedHere s k) = refl
  raises x l (bodies.LostHere s ro g e) = refl
  raises x l (bodies.CleanHere s y) = refl
  raises x l (bodies.TrimmedHere s t) = refl
  raises x l (bodies.DigestAsk s) = refl
  raises x l (bodies.DigestPage from upto trim lng es) = refl
  raises x l (bodies.Clean e y) = refl
  raises x l (bodies.Release y) = refl
  raises x l (bodies.Trim t) = refl
  raises x l (bodies.ReadAsk ro s) = refl
  raises x l (bodies.ReadPage ro s u k es) = refl
  raises x l (bodies.ReadEnded ro s e loss) = refl
  raises x l (bodies.ReadTrim ro s t) = refl
  raises x l (bodies.ReadWait ro s r) = refl
  raises x l (bodies.ReadOne ro s set excluded) = refl

  pub releases_is : (x : Node) → releases x m.log m.body ≡ record x { released = released_after n (known_in c) x.released m }
  unfolding released_by
  releases_is x = raises x m.log m.body ∙ ap (λ b. record x { released = raised x.released m.log (if b then number_in m.body else None) }) (sym for_it)

-- ---- what the node's answer tells ----

abbrev err_of : {T : Type 0} → NodeFault → Result T NodeFault
err_of e = Err e

abbrev ok_of : {T : Type 0} → T → Result T NodeFault
ok_of v = Ok v

pub error_in : {T : Type 0} (a b : NodeFault) → err_of {T = T} a ≡ err_of {T = T} b → a ≡ b
error_in a b is = cc is

pub either_error : {T : Type 0} (a : NodeFault) {b d : NodeFault} → (err_of {T = T} a ≡ err_of {T = T} b) ⊎ (err_of {T = T} a ≡ err_of {T = T} d) → (a ≡ b) ⊎ (a ≡ d)
either_error {T} a {b} {d} is = ⊎_elim (λ e. inl (error_in {T = T} a b e)) (λ e. inr (error_in {T = T} a d e)) is

pub ok_no_error : {T : Type 0} (v : T) (e : NodeFault) → ok_of v ≡ err_of e → ⊥
ok_no_error v e is = absurd (cc is)

pub ok_is_none : {T : Type 0} (v : T) {a b : NodeFault} → (ok_of v ≡ err_of a) ⊎ (ok_of v ≡ err_of b) → ⊥
ok_is_none v {a} {b} is = ⊎_elim (λ e. ok_no_error v a e) (λ e. ok_no_error v b e) is

-- a refusal, as its clauses tell of it
pub record Refused (y : Layout) (z : Slots) (op : Option Op) (fault : NodeFault) (p q : DiskPlain) : Type 0 where
  pub full : fault ≡ faults.Full → IsPast y op
  pub too_long : IsPast y op → (fault ≡ faults.Full) ⊎ (fault ≡ faults.NoMemory)
  pub keeps : (fault ≡ faults.Disk) ⊎ (q ≡ p)
  pub exact : fault ≡ faults.Disk → (q ≡ after_calls (calls_of y z op) p) × (all_succeed (calls_of y z op) p ≡ false)
  pub loaded : fault ≡ faults.NeedsLoad → ⊥
  pub damaged : (at : ℕ) → fault ≡ faults.Damaged at → ⊥
  pub register : (f : RegisterFault) → fault ≡ faults.Register f → ⊥

full_differs : faults.Full ≡ faults.Disk → ⊥
full_differs is = absurd (cc is)

disk_full : faults.Disk ≡ faults.Full → ⊥
disk_full is = absurd (cc is)

disk_memory : faults.Disk ≡ faults.NoMemory → ⊥
disk_memory is = absurd (cc is)

module _ (c : Config) (n : ℕ) (p : DiskPlain) (y : Node) (lies : Lies p y) (whole : y.cut ≡ None) (ms : List Msg) where
  pub still : (op : Option Op) (fault : NodeFault) (q : DiskPlain) → Refused y.layout lies.slots op fault p q → StandsStill c n p y lies whole ms op fault q
  still op fault q not = record {
    full = λ is. (not.full is, ⊎_elim (λ disk. absurd (full_differs (sym is ∙ disk))) (λ same. same) not.keeps);
    failed = λ is. ((λ past. ⊎_elim (λ full. disk_full (sym is ∙ full)) (λ memory. disk_memory (sym is ∙ memory)) (not.too_long past)), (not.exact is).1, (not.exact is).0);
    loaded = not.loaded;
    whole_still = not.damaged;
    register = not.register;
  }

changes_of : (op : Option Op) → ((o : Op) → op ≡ Some o → IsChange o) → AreChanges op
changes_of None each = tt
changes_of (Some o) each = each o refl

-- an index and the plain state that it represents have the same summaries
summaries_told : (told : Option (List ℕ)) (index : Plain) (l : ℕ) → (log_of (told_plain told index) l).summaries ≡ (log_of index l).summaries
summaries_told None index l = refl
summaries_told (Some bytes) index l = ap (λ h. h.summaries) (log_same (byte_at bytes) index l)

module _ {g : Ghosts MemDisk} (c : Config) (n : ℕ) (node : Running MemDisk g) (x : Node) (m : Msg) (runs : Runs c n node x) (is : IsMessage m) (well : IsWell (index_of node)) (formatted : is_blank node ≡ false)
    (to : m.to ≡ whos.Node n) (has : has_log c m.log ≡ true) where
  plain_is : plain_of node ≡ x.plain
  plain_is = plain_here c n node x runs

  handled_here : handled (id_of node) (known_of node) (released_of node) (plain_of node) m ≡ node_handles n x m
  handled_here = (λ i. handled (runs.id i) (runs.known i) (runs.released i) (plain_is i) m) ∙ handled_is c n m to has x

  -- the node once the number is released
  abbrev raised_node : Node
  raised_node = record x { released = released_after n (known_in c) x.released m }

  raised_here : released_after (id_of node) (known_of node) (released_of node) m ≡ raised_node.released
  raised_here = λ i. released_after (runs.id i) (runs.known i) (runs.released i) m

  abbrev raised_lies : Lies (disk_plain (disk_of node)) raised_node
  raised_lies = record { slots = runs.lies.slots; formatted = runs.lies.formatted; rests = runs.lies.rests; armed = runs.lies.armed }

  summaries_here : (log_of (index_of node) m.log).summaries ≡ (log_of x.plain m.log).summaries
  summaries_here = sym (summaries_told (g.seen (disk_of node)) (index_of node) m.log) ∙ ap (λ q. (log_of q m.log).summaries) plain_is

  each_summary : (e : ℕ) (y : Summary) → find e (log_of x.plain m.log).summaries ≡ Some y → IsSummary e y
  each_summary e y there = summaries_are last_carried (index_of node) m.log e y well (ap (find e) summaries_here ∙ there)

  changes : AreChanges (node_handles n x m).op
  changes = changes_of (node_handles n x m).op
      (λ o taken. handled_change (log_of x.plain m.log) each_summary n x.plain.generation m.log (released_at x m.log) m.from m.body o is.log (subst (λ w. Fits m.from w m.body) to is.fits) taken)

  follows : FollowsAny x.layout x.plain (node_handles n x m).op
  follows = change_follows x.layout x.plain (node_handles n x m).op changes (some_here c n node x runs formatted) runs.lies.formatted

  abbrev sent : List Msg
  sent = answer_message n m (node_handles n x m).answer

  pub answered : (h : Handled) (new : Running MemDisk g) → h ≡ handled (id_of node) (known_of node) (released_of node) (plain_of node) m
      → id_of new ≡ id_of node → known_of new ≡ known_of node → released_of new ≡ released_after (id_of node) (known_of node) (released_of node) m
      → (layout_of new ≡ laid_with (layout_of node) h.op) × (slots_of new ≡ slots_kept (layout_of node) (slots_of node) h.op) → Holds seen_in leaves_of new → (IsPast (layout_of node) h.op → ⊥)
      → disk_plain (disk_of new) ≡ after_calls (calls_of (layout_of node) (slots_of node) h.op) (disk_plain (disk_of node)) → all_succeed (calls_of (layout_of node) (slots_of node) h.op) (disk_plain (disk_of node)) ≡ true
      → Runs c n new (message_done n x m).node × (Written ≡ (message_done n x m).end) × (answer_message (id_of node) m h.answer ≡ (message_done n x m).sends)
  answered h new h_is id known released laid holds within disk succeed =
      let p = disk_plain (disk_of node) in
      let same : h ≡ node_handles n x m = h_is ∙ handled_here in
      let o = (node_handles n x m).op in
      let calls : calls_of (layout_of node) (slots_of node) h.op ≡ calls_of x.layout runs.lies.slots o = λ i. calls_of (runs.laid i) (runs.slots i) (same i).op in
      let keeps_it : Keeps c n p raised_node raised_lies runs.cut sent o new = record {
        id = id ∙ runs.id;
        known = known ∙ runs.known;
        released = released ∙ raised_here;
        laid = laid.0 ∙ (λ i. laid_with (runs.laid i) (same i).op);
        slots = laid.1 ∙ (λ i. slots_kept (runs.laid i) (runs.slots i) (same i).op);
        holds = holds;
        within = λ past. within (subst (λ k. IsPast (layout_of node) k) (ap (λ k. k.op) (sym same)) (subst (λ l. IsPast l o) (sym runs.laid) past));
        succeed = ap (λ l. all_succeed l p) (sym calls) ∙ succeed;
        disk = disk ∙ ap (λ l. after_calls l p) calls;
      } in
      let done = wrote c n p raised_node raised_lies runs.cut sent new runs.status o follows keeps_it in
      let back = sym (releases_is c n m to has x) in (
        subst (λ z. Runs c n new (op_done z o sent).node) back done.0,
        done.1 ∙ ap (λ z. (op_done z o sent).end) back,
        (λ i. answer_message (runs.id i) m (same i).answer) ∙ (done.2 ∙ ap (λ z. (op_done z o sent).sends) back),
      )

  pub refuses_it : (h : Handled) (fault : NodeFault) (q : DiskPlain) (done : State × HostKept) → h ≡ handled (id_of node) (known_of node) (released_of node) (plain_of node) m
      → Refused (layout_of node) (slots_of node) h.op fault (disk_plain (disk_of node)) q → Refuses fault q done
      → StandsAs c n done.0 (message_done n x m).node × (shown_kept done.1 ≡ (message_done n x m).end) × ([] ≡ (message_done n x m).sends)
  refuses_it h fault q done h_is not refuses =
      let p = disk_plain (disk_of node) in
      let same : h ≡ node_handles n x m = h_is ∙ handled_here in
      let o = (node_handles n x m).op in
      let not_here : Refused x.layout runs.lies.slots o fault p q = subst (λ z. Refused x.layout z o fault p q) runs.slots (subst (λ l. Refused l (slots_of node) o fault p q) runs.laid (subst (λ k. Refused (layout_of node) (slots_of node) k fault p q) (ap (λ k. k.op) same) not)) in
      let left = stayed c n p raised_node raised_lies runs.cut sent o fault q done follows (still c n p raised_node raised_lies runs.cut sent o fault q not_here) refuses in
      let back = sym (releases_is c n m to has x) in (
        subst (λ z. StandsAs c n done.0 (op_done z o sent).node) back left.0,
        left.1 ∙ ap (λ z. (op_done z o sent).end) back,
        left.2 ∙ ap (λ z. (op_done z o sent).sends) back,
      )
