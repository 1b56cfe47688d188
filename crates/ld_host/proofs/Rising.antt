-- How a load of a host ends.
use Rattle.std.proofs.Common.{◌≡◌, ◌≢◌, ◌⊎◌, ◌↔◌, ⊎_elim, ◌==◌, ℕ, [], Bool, true, false, Option, None, Some, is_some, Result, Ok, Err, IfOk, if◌then◌else◌, refl, sym, ◌∙◌, ap, subst, true≢false}
use Rattle.ld_ids.specs.declared.memory.NoMemory.{NoMemory}
use Rattle.ld_schedule.specs.declared.event.Picture.{Picture as Named}
use Rattle.ld_disk.specs.Memory.{disk_plain}
use Rattle.ld_disk.specs.Plain.{Plain as DiskPlain, after_call, after_calls, succeeds, restarted}
use Rattle.ld_disk.specs.declared.disk.Disk.{Ghosts}
use Rattle.ld_disk.specs.declared.memory.MemDisk.{MemDisk}
use Rattle.ld_op.specs.Plain.{unformatted}
use Rattle.ld_segment.specs.Lies.{LiesAs, StandsFor, written}
use Rattle.ld_segment.proofs.Before.{before}
use Rattle.ld_segment.proofs.OneLayout.{one_way}
use Rattle.ld_segment.proofs.OneState.{one_state}
use Rattle.ld_store.specs.Ops.{IfStands, IsOfFirst, HasNoRoom, IsDamaged}
use Rattle.ld_register.specs.declared.fault.RegisterFault.{RegisterFault}
use Rattle.ld_node.specs.Node.{id_of, known_of, released_of, disk_of, layout_of, slots_of, is_blank, Holds, IsOpened}
use Rattle.ld_node.specs.Known.{known_in}
use Rattle.ld_node.specs.declared.node.Node.{Node as Running}
use Rattle.ld_node.specs.declared.fault.NodeFault.{NodeFault}
use Rattle.ld_node.specs.declared.fault.NodeFault.TheVariants as faults
use Rattle.ld_config.specs.declared.config.Config.{Config}
use Rattle.ld_machine.specs.Disk.{Node, Blank, Up, Down, Failed, Written, Made, load, load_end, loaded_by, found, found_layout, fate_by, kept_end}
use Rattle.ld_machine.specs.Step.{is_written}
use Rattle.ld_host.specs.declared.kept.Kept.{Kept as HostKept}
use Rattle.ld_host.specs.declared.kept.Kept.TheVariants as ends
use Rattle.ld_host.specs.declared.state.State.{State}
use Rattle.ld_host.specs.declared.state.State.TheVariants as states
use Rattle.ld_host.specs.States.{IsFailedAt, IsDownAt, IsBlankAt, Refuses}
use Rattle.ld_host.specs.Faults.{crash_of}
use Rattle.ld_host.specs.Lies.{Lies}
use Rattle.ld_host.specs.Stands.{Runs, IsBlank, IsFresh, StandsAs, seen_in, leaves_of}
use Rattle.ld_host.specs.Done.{shown_kept}
use Rattle.ld_host.proofs.Fates.{AllMade, Stops, fates, after_one, succeeds_one}
use Rattle.ld_host.proofs.Versions.{not_of_first}
use Rattle.ld_host.proofs.Loading.{finds, stands_for, one_sync, synced_is, loaded_lies, stopped_lies, cut_then}
use Rattle.ld_host.proofs.Ending.{failed_stands, down_stands}
use Rattle.ld_layout.specs.declared.segment.Growth.TheVariants.{Still}

-- what is known of a call that was refused, by its clauses
pub if_refused : (r : Result (State × HostKept) NoMemory) (fault : NodeFault) (q : DiskPlain) (P : State × HostKept → Type 0)
    → (fault ≡ faults.Full → IfOk r (λ done. (done.1 ≡ ends.Full) × IsFailedAt q done.0))
    → (fault ≡ faults.Disk → q.crashed ≡ false → IfOk r (λ done. (done.1 ≡ ends.Failed) × IsFailedAt q done.0))
    → (fault ≡ faults.Disk → q.crashed ≡ true → IfOk r (λ done. (done.1 ≡ ends.Crashed) × IsDownAt (restarted q) done.0))
    → IfOk r (λ done. fault ≢ faults.NoMemory)
    → ((done : State × HostKept) → Refuses fault q done → P done) → IfOk r P
if_refused (Err e) fault q P full failed crashed memory each = tt
if_refused (Ok done) fault q P full failed crashed memory each = each done (record { full = full; failed = failed; crashed = crashed; memory = memory })

pub some_is : {A : Type 0} (a b : A) → Some a ≡ Some b → a ≡ b
some_is a b is = cc

module _ (c : Config) (n : ℕ) (p : DiskPlain) (x : Node) (lies : Lies p x) where
  load_by : AllMade one_sync x.fault p → (load x ≡ loaded_by x Made) × (load_end x ≡ Written)
  unfolding load
  load_by made = (ap (loaded_by x) made.fate_is, ap kept_end made.fate_is)

  made_all : succeeds p ≡ true → AllMade one_sync x.fault p
  made_all works = ⊎_elim (λ made. made) (λ stops. absurd (true≢false (sym works ∙ (sym (succeeds_one None p) ∙ stops.succeed)))) (fates one_sync x.fault p lies.armed)

  -- the bytes represent what is found
  pub stands_found : StandsFor (found x x.cut) p.state.bytes
  stands_found = stands_for p.state.bytes (found x x.cut) (found_layout x x.cut) (finds p x lies)

  -- its journal isn't of the first version
  pub no_first : IsOfFirst p.state.bytes → ⊥
  no_first first = let f = finds p x lies in not_of_first (found_layout x x.cut) f.slots p.state.bytes f.lies f.sound first

  -- ---- it comes up ----

  module _ {g : Ghosts MemDisk} (node : Running MemDisk g) (opened : IsOpened seen_in leaves_of node p.state.bytes) (still : (layout_of node).grows ≡ Still) (disk : disk_plain (disk_of node) ≡ after_call None p) (works : succeeds p ≡ true) where
    -- what the load found is what lies there
    holds_now : Holds seen_in leaves_of node
    holds_now = opened.holds (found x x.cut) stands_found

    bytes_now : holds_now.bytes ≡ p.state.bytes
    bytes_now =
        some_is holds_now.bytes (disk_plain (disk_of node)).state.bytes (sym holds_now.rests.bytes_are)
        ∙ ap (λ s. s.bytes) (synced_is p x lies (made_all works) (disk_plain (disk_of node)) disk)

    lies_here : LiesAs (written (layout_of node)) (layout_of node) (slots_of node) p.state.bytes
    lies_here = subst (λ l. LiesAs (written (layout_of node)) (layout_of node) (slots_of node) l) bytes_now holds_now.lies

    laid_now : layout_of node ≡ found_layout x x.cut
    laid_now =
        let f = finds p x lies in
        (one_way (written (layout_of node)) (written (found_layout x x.cut)) (layout_of node) (found_layout x x.cut) (slots_of node) f.slots p.state.bytes lies_here holds_now.sound f.lies f.sound).1
        ∙ (λ i. record (found_layout x x.cut) { grows = (still ∙ sym f.still) i })

    formatted_is : ((found x x.cut).generation == 0) ≡ is_blank node
    formatted_is = (finds p x lies).formatted ∙ ap (λ y. y.ops == 0) (sym laid_now) ∙ sym holds_now.blank

    abbrev lies_now : Lies (disk_plain (disk_of node)) (loaded_by x Made)
    lies_now = loaded_lies p x lies (made_all works) (disk_plain (disk_of node)) disk (slots_of node) (subst (λ y. LiesAs (written y) y (slots_of node) p.state.bytes) laid_now lies_here)

    blank_now : is_blank node ≡ true → (m : MemDisk) → m ≡ disk_of node → IsBlank m (loaded_by x Made)
    blank_now blank m same = record {
      status = ap (λ b. if b then Blank else Up) (formatted_is ∙ blank);
      plain = one_state (found x x.cut) unformatted p.state.bytes stands_found (before [] p.state.bytes (opened.blank blank));
      cut = refl;
      lies = subst (λ m. Lies (disk_plain m) (loaded_by x Made)) (sym same) lies_now;
    }

    -- a store that wasn't formatted isn't so now
    pub blank_stays : x.cut ≡ None → x.plain ≡ unformatted → is_blank node ≡ true
    blank_stays cut plain = sym formatted_is ∙ (ap (λ k. (found x k).generation == 0) cut ∙ ap (λ q. q.generation == 0) plain)

    fresh_now : id_of node ≡ n → known_of node ≡ known_in c → released_of node ≡ [] → is_blank node ≡ true → IsFresh c n node (loaded_by x Made)
    unfolding loaded_lies
    fresh_now id known released blank =
        let b = blank_now blank (disk_of node) refl in
        record { id = id; known = known; released = released; blank = blank; status = b.status; plain = b.plain; cut = refl; laid = laid_now; lies = lies_now; slots = refl; holds = holds_now }

    pub fresh : id_of node ≡ n → known_of node ≡ known_in c → released_of node ≡ [] → is_blank node ≡ true → IsFresh c n node (load x) × (load_end x ≡ Written)
    fresh id known released blank =
        let by = load_by (made_all works) in
        (subst (λ y. IsFresh c n node y) (sym by.0) (fresh_now id known released blank), by.1)

    blank_at : is_blank node ≡ true → (s : State) → IsBlankAt (disk_of node) s → StandsAs c n s (loaded_by x Made)
    blank_at blank (states.Blank m) at = blank_now blank m at
    blank_at blank (states.Up other) at = absurd at
    blank_at blank (states.Down m) at = absurd at
    blank_at blank (states.Failed m) at = absurd at
    blank_at blank states.Gone at = absurd at

    runs_now : id_of node ≡ n → known_of node ≡ known_in c → released_of node ≡ [] → is_blank node ≡ false → Runs c n node (loaded_by x Made)
    unfolding loaded_lies
    runs_now id known released formatted = record {
      status = ap (λ b. if b then Blank else Up) (formatted_is ∙ formatted);
      id = id;
      known = known;
      released = released;
      cut = refl;
      laid = laid_now;
      lies = lies_now;
      slots = refl;
      holds = holds_now;
    }

    -- the state of a node that runs is this
    by_blank : (b : Bool) → is_blank node ≡ b → id_of node ≡ n → known_of node ≡ known_in c → released_of node ≡ [] → (s up : State) → ((y : Node) → Runs c n node y → StandsAs c n up y)
        → (is_blank node ≡ false → s ≡ up) → (is_blank node ≡ true → IsBlankAt (disk_of node) s) → StandsAs c n s (loaded_by x Made)
    by_blank true is id known released s up stands at_up at_blank = blank_at is s (at_blank is)
    by_blank false is id known released s up stands at_up at_blank = subst (λ t. StandsAs c n t (loaded_by x Made)) (sym (at_up is)) (stands (loaded_by x Made) (runs_now id known released is))

    pub rises : id_of node ≡ n → known_of node ≡ known_in c → released_of node ≡ [] → (s up : State) → ((y : Node) → Runs c n node y → StandsAs c n up y)
        → (is_blank node ≡ false → s ≡ up) → (is_blank node ≡ true → IsBlankAt (disk_of node) s) → StandsAs c n s (load x) × (Written ≡ load_end x)
    rises id known released s up stands at_up at_blank =
        let by = load_by (made_all works) in
        (subst (λ y. StandsAs c n s y) (sym by.0) (by_blank (is_blank node) refl id known released s up stands at_up at_blank), sym by.1)

  -- ---- it doesn't ----

  load_stops : (left : ℕ) (crash : Option Named) (stops : Stops one_sync x.fault p) → stops.left ≡ left → stops.crash ≡ crash → (load x ≡ loaded_by x (fate_by left crash)) × (load_end x ≡ kept_end (fate_by left crash))
  unfolding load
  load_stops left crash stops left_is crash_is =
      let is = stops.fate_is ∙ (λ i. fate_by (left_is i) (crash_is i)) in
      (ap (loaded_by x) is, ap kept_end is)

  abbrev Falls : State × HostKept → Type 0
  Falls done = StandsAs c n done.0 (load x) × (shown_kept done.1 ≡ load_end x) × (is_written (load_end x) ≡ false)

  falls_by : (crash : Option Named) (stops : Stops one_sync x.fault p) → stops.crash ≡ crash → (q : DiskPlain) (done : State × HostKept) → q ≡ after_call None p → Refuses faults.Disk q done → Falls done
  falls_by None stops crash_is q done q_is refuses =
      let by = load_stops stops.left None stops refl crash_is in
      let after : q ≡ after_calls one_sync p = q_is ∙ sym (after_one None p) in
      let stands : q.crashed ≡ false = ap (λ r. r.crashed) after ∙ stops.crashed ∙ ap (λ r. is_some (crash_of r)) crash_is in
      let left = refuses.failed refl stands in
      let there = stopped_lies p x lies stops q Failed (ap (λ r. r.state) q_is) (ap (λ r. r.armed) after ∙ stops.armed) stands in (
        subst (λ y. StandsAs c n done.0 y) (sym by.0)
            (failed_stands c n done.0 q (record x { status = Failed; fault = None }) left.1 refl (subst (λ r. Lies q (record x { status = Failed; fault = None; cut = cut_then r x.cut })) crash_is there)),
        ap shown_kept left.0 ∙ sym by.1,
        ap is_written by.1,
      )
  falls_by (Some picture) stops crash_is q done q_is refuses =
      let by = load_stops stops.left (Some picture) stops refl crash_is in
      let after : q ≡ after_calls one_sync p = q_is ∙ sym (after_one None p) in
      let crashed : q.crashed ≡ true = ap (λ r. r.crashed) after ∙ stops.crashed ∙ ap (λ r. is_some (crash_of r)) crash_is in
      let left = refuses.crashed refl crashed in
      let there = stopped_lies p x lies stops (restarted q) Down (ap (λ r. r.state) q_is) (ap (λ r. r.armed) after ∙ stops.armed) refl in (
        subst (λ y. StandsAs c n done.0 y) (sym by.0)
            (down_stands c n done.0 (restarted q) (record x { status = Down; fault = None; cut = cut_then (Some picture) x.cut }) left.1 refl
            (subst (λ r. Lies (restarted q) (record x { status = Down; fault = None; cut = cut_then r x.cut })) crash_is there)),
        ap shown_kept left.0 ∙ sym by.1,
        ap is_written by.1,
      )

  falls_made : (q : DiskPlain) (done : State × HostKept) → q ≡ after_call None p → succeeds p ≡ false → Refuses faults.Disk q done → Falls done
  falls_made q done q_is fails refuses = ⊎_elim
      (λ made. absurd (true≢false (sym made.succeed ∙ (succeeds_one None p ∙ fails))))
      (λ stops. falls_by stops.crash stops refl q done q_is refuses)
      (fates one_sync x.fault p lies.armed)

  -- what is known of a load that was refused
  pub record NotLoaded (fault : NodeFault) (q : DiskPlain) : Type 0 where
    pub exact : ((fault ≡ faults.NoMemory) × ((Some q ≡ Some p) ⊎ (Some q ≡ Some (after_call None p)))) ⊎ ((Some q ≡ Some (after_call None p)) × ((fault ≡ faults.Disk) ↔ (succeeds p ≡ false)))
    pub damaged : (place : ℕ) → fault ≡ faults.Damaged place → IsDamaged place p.state.bytes
    pub full : fault ≡ faults.Full → IfStands HasNoRoom p.state.bytes
    pub loaded : fault ≢ faults.NeedsLoad
    pub register : (f : RegisterFault) → fault ≢ faults.Register f

  no_memory : faults.Disk ≡ faults.NoMemory → ⊥
  no_memory is = absurd (cc is)

  pub falls : (fault : NodeFault) (q : DiskPlain) (done : State × HostKept) → NotLoaded fault q → Refuses fault q done → Falls done
  falls faults.Disk q done not refuses = ⊎_elim
      (λ is. absurd (no_memory is.0))
      (λ exact. falls_made q done (some_is q (after_call None p) exact.0) (exact.1.0 refl) refuses)
      not.exact
  falls (faults.Damaged place) q done not refuses = absurd ((not.damaged place refl).none (found x x.cut) stands_found)
  falls faults.Full q done not refuses = absurd (no_first (not.full refl (found x x.cut) stands_found).was)
  falls faults.NeedsLoad q done not refuses = absurd (not.loaded refl)
  falls (faults.Register f) q done not refuses = absurd (not.register f refl)
  falls faults.NoMemory q done not refuses = absurd (refuses.memory refl)
