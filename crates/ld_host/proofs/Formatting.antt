-- How a format of a host ends.
use Rattle.std.proofs.Common.{◌≡◌, ◌≢◌, ◌⊎◌, ⊎_elim, inl, inr, ◌+◌, ◌==◌, ◌||◌, ℕ, List, [], Bool, true, false, not, nat_le, nat_lt, Option, None, Some, Result, Ok, Err, IfOk, if◌then◌else◌, refl, sym, ◌∙◌, ap, subst, arith, true≢false}
use Rattle.std.specs.Option.{unwrap_or}
use Rattle.ld_table.specs.Table.{put}
use Rattle.ld_table.proofs.Laws.{find-put_same}
use Rattle.ld_ids.specs.declared.memory.NoMemory.{NoMemory}
use Rattle.ld_disk.specs.Memory.{disk_plain}
use Rattle.ld_disk.specs.Plain.{Plain as DiskPlain, Call, after_calls, all_succeed}
use Rattle.ld_disk.specs.declared.disk.Disk.{Ghosts}
use Rattle.ld_disk.specs.declared.memory.MemDisk.{MemDisk}
use Rattle.ld_msg.specs.Register.{Register, Armed, Answer, Granted, AtLimit, Behind, Overtaken, Fails, draw, change, generation_of, generation_limit, journal_limit, record_length, is_made, falls, made, unmade}
use Rattle.ld_op.specs.Plain.{Plain, apply, op_length}
use Rattle.ld_op.specs.Bounds.{IsOp}
use Rattle.ld_layout.specs.Layout.{Layout, kept_in, passes_limit}
use Rattle.ld_segment.specs.Lies.{Slots, slots_with}
use Rattle.ld_register.specs.Calls.{after_draw, handed, ended, draw_length, is_full}
use Rattle.ld_register.specs.Calls as calls
use Rattle.ld_register.specs.declared.fault.RegisterFault.{RegisterFault}
use Rattle.ld_register.specs.declared.fault.RegisterFault.TheVariants as refusals
use Rattle.ld_register.specs.declared.register.Drawn.{Drawn}
use Rattle.ld_node.specs.Changes.{IsPast, calls_of}
use Rattle.ld_node.specs.Draws.{answered}
use Rattle.ld_node.specs.Faults.{of_register}
use Rattle.ld_node.specs.Formats as formats
use Rattle.ld_node.specs.Formats.{format_of, IsWithin, KeepsFormat, FormatsBy}
use Rattle.ld_node.specs.Node.{id_of, known_of, released_of, disk_of, layout_of, slots_of, Holds}
use Rattle.ld_node.specs.declared.node.Node.{Node as Running}
use Rattle.ld_node.specs.declared.fault.NodeFault.{NodeFault}
use Rattle.ld_node.specs.declared.fault.NodeFault.TheVariants as faults
use Rattle.ld_config.specs.declared.config.Config.{Config}
use Rattle.ld_machine.specs.Disk.{Node, Written, keep_op, load, load_end}
use Rattle.ld_host.specs.declared.kept.Kept.{Kept as HostKept}
use Rattle.ld_host.specs.declared.kept.Formatted.{Formatted}
use Rattle.ld_host.specs.declared.kept.Formatted.TheVariants as endings
use Rattle.ld_host.specs.declared.state.State.{State}
use Rattle.ld_host.specs.declared.state.State.TheVariants as states
use Rattle.ld_host.specs.States.{IsBlankAt, Refuses}
use Rattle.ld_host.specs.Lies.{Lies}
use Rattle.ld_host.specs.Stands.{Runs, IsBlank, IsFresh, StandsAs, seen_in, leaves_of}
use Rattle.ld_host.specs.Done.{HasFormatted}
use Rattle.ld_host.proofs.Ending.{NotKept, not_kept_ends}
use Rattle.ld_host.proofs.Done.{Keeps, wrote_one}
use Rattle.ld_host.proofs.Keeping.{Follows}
use Rattle.ld_host.proofs.Rising.{some_is}

-- ---- a generation that is drawn ----

granted_if : (a : Answer) (full : Bool) (limit : RegisterFault) (given d : Drawn) → ended a full limit given ≡ Ok d → (a ≡ Granted) × (given ≡ d)
granted_if Granted full limit given d is = (refl, cc)
granted_if AtLimit full limit given d is = absurd (cc is)
granted_if (Behind lce) full limit given d is = absurd (cc is)
granted_if (Overtaken k) full limit given d is = absurd (cc is)
granted_if Fails true limit given d is = absurd (cc is)
granted_if Fails false limit given d is = absurd (cc is)

abbrev answer_if : Bool → Bool → Bool → Answer
answer_if limit full fails = if limit then AtLimit else if full || fails then Fails else Granted

one_above : (k : ℕ) → ((k + 1) == 0) ≡ false
one_above k = grind arith

module _ (r : Register) (n : ℕ) where
  abbrev next : Register
  next = record r { generations = put n (generation_of r n + 1) r.generations }

  next_drawn : ((generation_of next n) == 0) ≡ false
  next_drawn = ap (λ o. (unwrap_or o 0) == 0) (find-put_same n n (generation_of r n + 1) r.generations refl) ∙ one_above (generation_of r n)

  by_armed : (armed : Option Armed) → falls armed ≡ false → is_made armed ≡ true
  by_armed None stays = refl
  by_armed (Some a) stays = ap (λ b. not b || a.done) stays

  full_answer : (full falls_now : Bool) → (if full || falls_now then Fails else Granted) ≡ Granted → (full ≡ false) × (falls_now ≡ false)
  full_answer true falls_now is = absurd (cc is)
  full_answer false true is = absurd (cc is)
  full_answer false false is = (refl, refl)

  abbrev body : ℕ
  body = 6

  changed_drawn : (change r next body).answer ≡ Granted → (generation_of (change r next body).register n == 0) ≡ false
  unfolding change
  changed_drawn is =
      let parts = full_answer (nat_lt journal_limit (r.length + record_length body)) (falls r.armed) is in
      ap (λ b. generation_of (if b then r else if is_made r.armed then made r next body else unmade r) n == 0) parts.0
      ∙ (ap (λ b. generation_of (if b then made r next body else unmade r) n == 0) (by_armed r.armed parts.1) ∙ next_drawn)

  drawn_if : (b : Bool) → (if b then record { register = r; answer = AtLimit } else change r next body).answer ≡ Granted
      → (generation_of (if b then record { register = r; answer = AtLimit } else change r next body).register n == 0) ≡ false
  drawn_if true is = absurd (cc is)
  drawn_if false is = changed_drawn is

  draw_drawn : (draw r n).answer ≡ Granted → (generation_of (draw r n).register n == 0) ≡ false
  unfolding draw
  draw_drawn is = drawn_if (nat_le generation_limit (generation_of r n)) is

  pub generation_drawn : (d : Drawn) → calls.drawn r n ≡ Ok d → (d.gen_ == 0) ≡ false
  generation_drawn d is =
      let granted = granted_if (draw r n).answer (is_full r draw_length) refusals.GenLimit (handed r n) d is in
      ap (λ e. e.gen_ == 0) (sym granted.1) ∙ draw_drawn granted.0

-- ---- what the node's answer tells ----

abbrev answer_err : NodeFault → Result Drawn NodeFault
answer_err e = Err e

abbrev answer_ok : Drawn → Result Drawn NodeFault
answer_ok d = Ok d

ok_not_err : {A : Type 0} (d : Drawn) (e : NodeFault) → answer_ok d ≡ answer_err e → A
ok_not_err d e is = absurd (cc is)

err_is : (a b : NodeFault) → answer_err a ≡ answer_err b → a ≡ b
err_is a b is = cc is

ok_is : (a b : Drawn) → answer_ok a ≡ answer_ok b → a ≡ b
ok_is a b is = cc is

never_both : (b : Bool) → b ≡ false → b ≡ true → ⊥
never_both b within past = true≢false (sym past ∙ within)

full_or_not : (b : Bool) → (b ≡ true) ⊎ (b ≡ false)
full_or_not true = inl refl
full_or_not false = inr refl

module _ (y : Layout) (z : Slots) (p : DiskPlain) (now : Option DiskPlain) where
  abbrev record_calls : Drawn → List Call
  record_calls d = calls_of y z (Some (format_of d))

  past_or_within : (d : Drawn) → IsPast y (Some (format_of d)) ⊎ IsWithin y (format_of d)
  past_or_within d = full_or_not (passes_limit y (format_of d))

  -- it was kept
  pub record WasKept (draw : Result Drawn RegisterFault) (d : Drawn) : Type 0 where
    pub granted : draw ≡ Ok d
    pub within : IsPast y (Some (format_of d)) → ⊥
    pub succeed : all_succeed (record_calls d) p ≡ true
    pub disk : now ≡ Some (after_calls (record_calls d) p)

  kept_if : (b : Bool) (d e : Drawn) → all_succeed (record_calls e) p ≡ b → answer_ok d ≡ formats.ended b e → (d ≡ e) × (b ≡ true)
  kept_if true d e is same = (ok_is d e same, refl)
  kept_if false d e is same = ok_not_err d faults.Disk same

  kept_within : (d e : Drawn) → KeepsFormat y z p e now (answer_ok d) → IsWithin y (format_of e) → WasKept (Ok e) d
  kept_within d e keeps within =
      let is = kept_if (all_succeed (record_calls e) p) d e refl (keeps.answer within) in
      subst (λ f. WasKept (Ok e) f) (sym is.0) (record {
        granted = refl;
        within = λ past. never_both (passes_limit y (format_of e)) within past;
        succeed = is.1;
        disk = keeps.written within;
      })

  pub was_kept : (draw : Result Drawn RegisterFault) (d : Drawn) → FormatsBy y z p draw now (answer_ok d) → WasKept draw d
  was_kept (Err f) d by = ok_not_err d (of_register f) (by.refused f refl)
  was_kept (Ok e) d by =
      let keeps = by.keeps e refl in
      ⊎_elim (λ past. ok_not_err d faults.Full (keeps.too_long past)) (λ within. kept_within d e keeps within) (past_or_within e)

  -- the register refused
  same_refusal : (f e : RegisterFault) → faults.Register f ≡ of_register e → e ≡ f
  same_refusal f refusals.NoMemory is = absurd (cc is)
  same_refusal f refusals.Failed is = cc
  same_refusal f (refusals.Damaged at) is = cc
  same_refusal f refusals.LogLimit is = cc
  same_refusal f (refusals.Behind lce next) is = cc
  same_refusal f (refusals.Overtaken epoch) is = cc
  same_refusal f refusals.EpochLimit is = cc
  same_refusal f refusals.GenLimit is = cc
  same_refusal f refusals.SwapLimit is = cc
  same_refusal f refusals.Full is = cc

  not_register : {A : Type 0} (f : RegisterFault) (b : Bool) (e : Drawn) → answer_err (faults.Register f) ≡ formats.ended b e → A
  not_register f true e is = absurd (cc is)
  not_register f false e is = let same = err_is (faults.Register f) faults.Disk is in absurd (cc same)

  register_full : {A : Type 0} (f : RegisterFault) → answer_err (faults.Register f) ≡ answer_err faults.Full → A
  register_full f is = let same = err_is (faults.Register f) faults.Full is in absurd (cc same)

  pub was_refused : (draw : Result Drawn RegisterFault) (f : RegisterFault) → FormatsBy y z p draw now (answer_err (faults.Register f)) → (draw ≡ Err f) × (now ≡ Some p)
  was_refused (Err e) f by = (ap (λ g. Err g) (same_refusal f e (err_is (faults.Register f) (of_register e) (by.refused e refl))), by.refused_disk e refl)
  was_refused (Ok e) f by =
      let keeps = by.keeps e refl in
      ⊎_elim (λ past. register_full f (keeps.too_long past)) (λ within. not_register f (all_succeed (record_calls e) p) e (keeps.answer within)) (past_or_within e)

  -- it wasn't kept
  pub record WasNotKept (draw : Result Drawn RegisterFault) (fault : NodeFault) : Type 0 where
    pub drawn : Drawn
    pub granted : draw ≡ Ok drawn
    pub full : fault ≡ faults.Full → IsPast y (Some (format_of drawn)) × (now ≡ Some p)
    pub failed : fault ≡ faults.Disk → (IsPast y (Some (format_of drawn)) → ⊥) × (all_succeed (record_calls drawn) p ≡ false) × (now ≡ Some (after_calls (record_calls drawn) p))
    pub either : (fault ≡ faults.Disk) ⊎ (fault ≡ faults.Full)

  full_not_disk : {A : Type 0} → faults.Full ≡ faults.Disk → A
  full_not_disk is = absurd (cc is)

  failed_if : (b : Bool) (fault : NodeFault) (e : Drawn) → answer_err fault ≡ formats.ended b e → (fault ≡ faults.Disk) × (b ≡ false)
  failed_if true fault e is = absurd (cc is)
  failed_if false fault e is = (err_is fault faults.Disk is, refl)

  refused_none : {A : Type 0} (fault : NodeFault) (e : RegisterFault) → ((f : RegisterFault) → fault ≢ faults.Register f) → (fault ≡ faults.NoMemory → ⊥) → fault ≡ of_register e → A
  refused_none fault refusals.NoMemory none memory is = absurd (memory is)
  refused_none fault refusals.Failed none memory is = absurd (none refusals.Failed is)
  refused_none fault (refusals.Damaged at) none memory is = absurd (none (refusals.Damaged at) is)
  refused_none fault refusals.LogLimit none memory is = absurd (none refusals.LogLimit is)
  refused_none fault (refusals.Behind lce next) none memory is = absurd (none (refusals.Behind lce next) is)
  refused_none fault (refusals.Overtaken epoch) none memory is = absurd (none (refusals.Overtaken epoch) is)
  refused_none fault refusals.EpochLimit none memory is = absurd (none refusals.EpochLimit is)
  refused_none fault refusals.GenLimit none memory is = absurd (none refusals.GenLimit is)
  refused_none fault refusals.SwapLimit none memory is = absurd (none refusals.SwapLimit is)
  refused_none fault refusals.Full none memory is = absurd (none refusals.Full is)

  not_kept_full : (fault : NodeFault) (e : Drawn) → KeepsFormat y z p e now (answer_err fault) → IsPast y (Some (format_of e)) → WasNotKept (Ok e) fault
  not_kept_full fault e keeps past =
      let is = err_is fault faults.Full (keeps.too_long past) in
      record { drawn = e; granted = refl; full = λ same. (past, keeps.too_long_disk past); failed = λ same. full_not_disk (sym is ∙ same); either = inr is }

  not_kept_failed : (fault : NodeFault) (e : Drawn) → KeepsFormat y z p e now (answer_err fault) → IsWithin y (format_of e) → WasNotKept (Ok e) fault
  not_kept_failed fault e keeps within =
      let is = failed_if (all_succeed (record_calls e) p) fault e (keeps.answer within) in
      record {
        drawn = e;
        granted = refl;
        full = λ same. full_not_disk (sym same ∙ is.0);
        failed = λ same. ((λ past. never_both (passes_limit y (format_of e)) within past), is.1, keeps.written within);
        either = inl is.0;
      }

  pub was_not_kept : (draw : Result Drawn RegisterFault) (fault : NodeFault) → ((f : RegisterFault) → fault ≢ faults.Register f) → (fault ≡ faults.NoMemory → ⊥) → FormatsBy y z p draw now (answer_err fault) → WasNotKept draw fault
  was_not_kept (Err e) fault none memory by = refused_none fault e none memory (err_is fault (of_register e) (by.refused e refl))
  was_not_kept (Ok e) fault none memory by =
      let keeps = by.keeps e refl in
      ⊎_elim (λ past. not_kept_full fault e keeps past) (λ within. not_kept_failed fault e keeps within) (past_or_within e)

-- ---- what it leaves of the host ----

format_generation : (q : Plain) (d : Drawn) → (apply q (format_of d)).generation ≡ d.gen_
unfolding apply
format_generation q d = refl

other_than : (fault other : NodeFault) → (fault ≡ faults.Disk) ⊎ (fault ≡ faults.Full) → fault ≡ other → (faults.Disk ≡ other → ⊥) → (faults.Full ≡ other → ⊥) → ⊥
other_than fault other (inl is) same disk full = disk (sym is ∙ same)
other_than fault other (inr is) same disk full = full (sym is ∙ same)

disk_loads : faults.Disk ≡ faults.NeedsLoad → ⊥
disk_loads is = absurd (cc is)

full_loads : faults.Full ≡ faults.NeedsLoad → ⊥
full_loads is = absurd (cc is)

disk_damaged : (at : ℕ) → faults.Disk ≡ faults.Damaged at → ⊥
disk_damaged at is = absurd (cc is)

full_damaged : (at : ℕ) → faults.Full ≡ faults.Damaged at → ⊥
full_damaged at is = absurd (cc is)

disk_register : (f : RegisterFault) → faults.Disk ≡ faults.Register f → ⊥
disk_register f is = absurd (cc is)

full_register : (f : RegisterFault) → faults.Full ≡ faults.Register f → ⊥
full_register f is = absurd (cc is)

damaged_register : (at : ℕ) (f : RegisterFault) → faults.Damaged at ≡ faults.Register f → ⊥
damaged_register at f is = absurd (cc is)

loads_register : (f : RegisterFault) → faults.NeedsLoad ≡ faults.Register f → ⊥
loads_register f is = absurd (cc is)

memory_register : (f : RegisterFault) → faults.NoMemory ≡ faults.Register f → ⊥
memory_register f is = absurd (cc is)

drawn_same : (a b : Drawn) → answered a ≡ answered b → a ≡ b
drawn_same a b is = cc is

module _ {g : Ghosts MemDisk} (c : Config) (n : ℕ) (node : Running MemDisk g) (x : Node) (r : Register) (tells : Register → Type 0) (fresh : IsFresh c n node (load x)) (loaded : load_end x ≡ Written) (told : tells (after_draw r n)) where
  abbrev y : Layout
  y = (load x).layout

  abbrev z : Slots
  z = fresh.lies.slots

  none_there : (y.ops == 0) ≡ true
  none_there = ap (λ l. l.ops == 0) (sym fresh.laid) ∙ sym fresh.holds.blank ∙ fresh.blank

  follows : (d : Drawn) → IsOp (format_of d) → calls.drawn r n ≡ Ok d → Follows y (load x).plain (format_of d)
  follows d is granted = record { op = is; format = sym none_there; formatted = ap (λ k. k == 0) (format_generation (load x).plain d) ∙ generation_drawn r n d granted }

  pub formats_done : (d : Drawn) (new : Running MemDisk g) → WasKept y z (disk_plain (disk_of node)) (Some (disk_plain (disk_of new))) (calls.drawn r n) d → id_of new ≡ id_of node → known_of new ≡ known_of node → released_of new ≡ released_of node
      → (layout_of new ≡ kept_in (layout_of node) (format_of d)) × (slots_of new ≡ slots_with (layout_of node) (slots_of node) (op_length (format_of d))) → Holds seen_in leaves_of new → IsOp (format_of d)
      → HasFormatted (λ w. Runs c n new w) tells x n r (endings.Done d)
  formats_done d new was id known released laid holds is =
      let p = disk_plain (disk_of node) in
      let keeps : Keeps c n p (load x) fresh.lies fresh.cut [] (Some (format_of d)) new = record {
        id = id ∙ fresh.id;
        known = known ∙ fresh.known;
        released = released ∙ fresh.released;
        laid = laid.0 ∙ ap (λ l. kept_in l (format_of d)) fresh.laid;
        slots = laid.1 ∙ (λ i. slots_with (fresh.laid i) (fresh.slots i) (op_length (format_of d)));
        holds = holds;
        within = was.within;
        succeed = was.succeed;
        disk = some_is (disk_plain (disk_of new)) _ was.disk;
      } in
      let done = wrote_one c n p (load x) fresh.lies fresh.cut [] new (format_of d) (follows d is was.granted) keeps in
      record { node = keep_op (load x) (format_of d); register = after_draw r n; stands = done.0; told = told; does = record { loaded = loaded; granted = was.granted; node = refl; register = refl; end = sym done.1 } }

  pub formats_refused : (f : RegisterFault) (m : MemDisk) → calls.drawn r n ≡ Err f → disk_plain m ≡ disk_plain (disk_of node) → HasFormatted (λ w. IsBlank m w) tells x n r (endings.Refused f)
  formats_refused f m refused disk = record {
    node = load x;
    register = after_draw r n;
    stands = record { status = fresh.status; plain = fresh.plain; cut = fresh.cut; lies = subst (λ q. Lies q (load x)) (sym disk) fresh.lies };
    told = told;
    does = (loaded, refused, refl, refl);
  }

  pub formats_not_kept : (fault : NodeFault) (m : MemDisk) (done : State × HostKept) → WasNotKept y z (disk_plain (disk_of node)) (Some (disk_plain m)) (calls.drawn r n) fault
      → ((d : Drawn) → calls.drawn r n ≡ Ok d → (fault ≡ faults.Disk) ⊎ (fault ≡ faults.Full) → IsOp (format_of d)) → Refuses fault (disk_plain m) done → HasFormatted (λ w. StandsAs c n done.0 w) tells x n r (endings.NotKept done.1)
  formats_not_kept fault m done was is_op refuses =
      let p = disk_plain (disk_of node) in
      let q = disk_plain m in
      let d = was.drawn in
      let next = follows d (is_op d was.granted was.either) was.granted in
      let not_kept : NotKept c n p (load x) (format_of d) fresh.lies fresh.cut next fault q = record {
        full = λ same. let f = was.full same in (f.0, some_is q p f.1);
        failed = λ same. let f = was.failed same in (f.0, f.1, some_is q _ f.2);
        loaded = λ same. other_than fault faults.NeedsLoad was.either same disk_loads full_loads;
        whole_still = λ at same. other_than fault (faults.Damaged at) was.either same (disk_damaged at) (full_damaged at);
        register = λ f same. other_than fault (faults.Register f) was.either same (disk_register f) (full_register f);
      } in
      let ends = not_kept_ends c n p (load x) (format_of d) fresh.lies fresh.cut next fault q done not_kept refuses in
      record { node = keep_op (load x) (format_of d); register = after_draw r n; stands = ends.0; told = told; does = record { drawn = d; loaded = loaded; granted = was.granted; node = refl; register = refl; end = ends.1; unwritten = ends.2 } }

blank_stands : (c : Config) (n : ℕ) (s : State) (m : MemDisk) (y : Node) → IsBlankAt m s → IsBlank m y → StandsAs c n s y
blank_stands c n (states.Blank k) m y at blank = subst (λ d. IsBlank d y) (sym at) blank
blank_stands c n (states.Up node) m y at blank = absurd at
blank_stands c n (states.Down k) m y at blank = absurd at
blank_stands c n (states.Failed k) m y at blank = absurd at
blank_stands c n states.Gone m y at blank = absurd at

pub is_op_of : (a b : Drawn) (draw : Result Drawn RegisterFault) → answered a ≡ draw → draw ≡ Ok b → IsOp (format_of a) → IsOp (format_of b)
is_op_of a b draw is same op = subst (λ d. IsOp (format_of d)) (drawn_same a b (is ∙ same)) op

module _ {g : Ghosts MemDisk} (c : Config) (n : ℕ) (node : Running MemDisk g) (x : Node) (r : Register) (tells : Register → Type 0) (fresh : IsFresh c n node (load x)) (loaded : load_end x ≡ Written) where
  -- how the node's answer is told, by its own layout, slots and number
  pub by_here : (now : Option DiskPlain) (result : Result Drawn NodeFault) → FormatsBy (layout_of node) (slots_of node) (disk_plain (disk_of node)) (calls.drawn r (id_of node)) now result
      → FormatsBy (load x).layout fresh.lies.slots (disk_plain (disk_of node)) (calls.drawn r n) now result
  by_here now result by =
      subst (λ k. FormatsBy (load x).layout k (disk_plain (disk_of node)) (calls.drawn r n) now result) fresh.slots
      (subst (λ k. FormatsBy k (slots_of node) (disk_plain (disk_of node)) (calls.drawn r n) now result) fresh.laid
      (subst (λ k. FormatsBy (layout_of node) (slots_of node) (disk_plain (disk_of node)) (calls.drawn r k) now result) fresh.id by))

  register_undone : (f : RegisterFault) (m : MemDisk) (done : State × Formatted) → tells (after_draw r n) → (done.1 ≡ endings.Refused f) × IsBlankAt m done.0
      → FormatsBy (load x).layout fresh.lies.slots (disk_plain (disk_of node)) (calls.drawn r n) (Some (disk_plain m)) (Err (faults.Register f)) → HasFormatted (λ w. StandsAs c n done.0 w) tells x n r done.1
  register_undone f m done told left by =
      let was = was_refused (load x).layout fresh.lies.slots (disk_plain (disk_of node)) (Some (disk_plain m)) (calls.drawn r n) f by in
      let has = formats_refused c n node x r tells fresh loaded told f m was.0 (some_is (disk_plain m) (disk_plain (disk_of node)) was.1) in
      subst (λ e. HasFormatted (λ w. StandsAs c n done.0 w) tells x n r e) (sym left.0)
      (record { node = has.node; register = has.register; stands = blank_stands c n done.0 m has.node left.1 has.stands; told = has.told; does = has.does })

  abbrev Left : NodeFault → MemDisk → State × Formatted → Type 0
  Left fault m done = (k : HostKept) × (done.1 ≡ endings.NotKept k) × Refuses fault (disk_plain m) (done.0, k)

  other_undone : (fault : NodeFault) (m : MemDisk) (done : State × Formatted) → tells (after_draw r n) → ((f : RegisterFault) → fault ≢ faults.Register f) → Left fault m done
      → FormatsBy (load x).layout fresh.lies.slots (disk_plain (disk_of node)) (calls.drawn r n) (Some (disk_plain m)) (Err fault)
      → ((d : Drawn) → calls.drawn r n ≡ Ok d → (fault ≡ faults.Disk) ⊎ (fault ≡ faults.Full) → IsOp (format_of d)) → HasFormatted (λ w. StandsAs c n done.0 w) tells x n r done.1
  other_undone fault m done told none left by is_op =
      let was = was_not_kept (load x).layout fresh.lies.slots (disk_plain (disk_of node)) (Some (disk_plain m)) (calls.drawn r n) fault none left.2.memory by in
      subst (λ e. HasFormatted (λ w. StandsAs c n done.0 w) tells x n r e) (sym left.1) (formats_not_kept c n node x r tells fresh loaded told fault m (done.0, left.0) was is_op left.2)

  undone_by : (fault : NodeFault) (m : MemDisk) (done : State × Formatted) → tells (after_draw r n)
      → ((f : RegisterFault) → fault ≡ faults.Register f → (done.1 ≡ endings.Refused f) × IsBlankAt m done.0) → (((f : RegisterFault) → fault ≢ faults.Register f) → Left fault m done)
      → FormatsBy (load x).layout fresh.lies.slots (disk_plain (disk_of node)) (calls.drawn r n) (Some (disk_plain m)) (Err fault)
      → ((d : Drawn) → calls.drawn r n ≡ Ok d → (fault ≡ faults.Disk) ⊎ (fault ≡ faults.Full) → IsOp (format_of d)) → HasFormatted (λ w. StandsAs c n done.0 w) tells x n r done.1
  undone_by faults.Disk m done told refused not_kept by is_op = other_undone faults.Disk m done told disk_register (not_kept disk_register) by is_op
  undone_by (faults.Damaged at) m done told refused not_kept by is_op = other_undone (faults.Damaged at) m done told (damaged_register at) (not_kept (damaged_register at)) by is_op
  undone_by faults.Full m done told refused not_kept by is_op = other_undone faults.Full m done told full_register (not_kept full_register) by is_op
  undone_by faults.NeedsLoad m done told refused not_kept by is_op = other_undone faults.NeedsLoad m done told loads_register (not_kept loads_register) by is_op
  undone_by (faults.Register f) m done told refused not_kept by is_op = register_undone f m done told (refused f refl) by
  undone_by faults.NoMemory m done told refused not_kept by is_op = other_undone faults.NoMemory m done told memory_register (not_kept memory_register) by is_op

  memory_undone : {A : Type 0} (fault : NodeFault) (m : MemDisk) (done : State × Formatted) → fault ≡ faults.NoMemory → (((f : RegisterFault) → fault ≢ faults.Register f) → Left fault m done) → A
  memory_undone fault m done is not_kept = absurd ((not_kept (λ f same. memory_register f (sym is ∙ same))).2.memory is)

  pub formats_undone : (fault : NodeFault) (m : MemDisk) (result : Result (State × Formatted) NoMemory) → (fault ≡ faults.NoMemory) ⊎ tells (after_draw r n)
      → ((f : RegisterFault) → fault ≡ faults.Register f → IfOk result (λ done. (done.1 ≡ endings.Refused f) × IsBlankAt m done.0))
      → (((f : RegisterFault) → fault ≢ faults.Register f) → IfOk result (λ done. Left fault m done))
      → (fault ≡ faults.NoMemory) ⊎ FormatsBy (layout_of node) (slots_of node) (disk_plain (disk_of node)) (calls.drawn r (id_of node)) (Some (disk_plain m)) (Err fault)
      → ((d : Drawn) → calls.drawn r n ≡ Ok d → (fault ≡ faults.Disk) ⊎ (fault ≡ faults.Full) → IsOp (format_of d)) → IfOk result (λ done. HasFormatted (λ w. StandsAs c n done.0 w) tells x n r done.1)
  formats_undone fault m (Err e) told refused not_kept by is_op = tt
  formats_undone fault m (Ok done) told refused not_kept by is_op = ⊎_elim
      (λ is. memory_undone fault m done is not_kept)
      (λ t. ⊎_elim
      (λ is. memory_undone fault m done is not_kept)
      (λ b. undone_by fault m done t refused not_kept (by_here (Some (disk_plain m)) (Err fault) b) is_op)
      by)
      told

pub nothing_of : {A : Type 0} → ⊥ → A
nothing_of never = absurd never
