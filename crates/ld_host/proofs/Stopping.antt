-- A disk that is new, stopped or armed.
use Rattle.std.proofs.Common.{◌≡◌, ◌≢◌, ◌≤◌, ◌<◌, ◌^◌, ℕ, List, [], ◌∷◌, length, false, None, Some, refl, sym, ◌∙◌, ap, subst, arith}
use Rattle.std.specs.Option.{option_map}
use Rattle.std.proofs.lemmas.List.Elements.{All-nil}
use Rattle.ld_table.proofs.Laws.{find-empty}
use Rattle.ld_disk.specs.Memory.{disk_plain}
use Rattle.ld_disk.specs.Plain.{Plain as DiskPlain, new_disk, armed_with, fault_of}
use Rattle.ld_disk.specs.declared.disk.Disk.{Ghosts}
use Rattle.ld_disk.specs.declared.disk.Fault.{Fault as DiskFault}
use Rattle.ld_disk.specs.declared.memory.MemDisk.{MemDisk}
use Rattle.ld_op.specs.Plain.{unformatted}
use Rattle.ld_layout.specs.Layout.{new_layout, AreHeld}
use Rattle.ld_segment.specs.Lies.{Slots, LiesAs, IsSound}
use Rattle.ld_segment.proofs.Before.{first_laid}
use Rattle.ld_layout.specs.declared.segment.Growth.TheVariants.{Still}
use Rattle.ld_segment.proofs.Listed.{new_index}
use Rattle.ld_node.specs.Node.{id_of, known_of, released_of, disk_of, layout_of, slots_of, Holds}
use Rattle.ld_node.specs.declared.node.Node.{Node as Running}
use Rattle.ld_op.specs.declared.version.Version.TheVariants.{Blank}
use Rattle.ld_config.specs.declared.config.Config.{Config}
use Rattle.ld_machine.specs.Disk.{Node, Fault, Down, new_node}
use Rattle.ld_machine.specs.Step.{with_fault, stopped}
use Rattle.ld_host.specs.declared.state.State.{State}
use Rattle.ld_host.specs.declared.state.State.TheVariants as states
use Rattle.ld_host.specs.States.{disk_in}
use Rattle.ld_host.specs.Faults.{crash_of, IsArmed}
use Rattle.ld_host.specs.Lies.{Rests, Lies}
use Rattle.ld_host.specs.Stands.{Runs, IsBlank, IsStopped, StandsAs, seen_in, leaves_of}
use Rattle.ld_host.proofs.Rising.{some_is}

-- ---- a new disk ----

not_one : (gate : ℕ) → gate ≡ 0 → gate ≢ 1
not_one gate shut is = absurd (omega (arith, shut, is))

no_slots : Slots
no_slots = record { this = 0; other = 0; is_open = false }

empty_lies : LiesAs Blank new_layout no_slots (0 ∷ [])
empty_lies = record {
  records = [];
  journal = record { gate = 0; after = []; bytes_are = refl; shut = not_one 0 refl; fits = All-nil (λ (body : List ℕ). length body < 2 ^ 32) };
  first = Blank;
  placed = record { are = tt; version_is = refl };
  ops_is = refl;
  end_is = refl;
  index_is = (refl, refl);
}

none_held : AreHeld new_layout
none_held l n g e q at_l at_n what = absurd (let none : None ≡ Some g = sym (find-empty l) ∙ at_l in cc none)

new_sound : IsSound new_layout
new_sound = record { laid = first_laid 0 0 unformatted Still; held = none_held; index = new_index; bounded = tt }

new_lies : Lies new_disk new_node
new_lies = record {
  slots = no_slots;
  formatted = refl;
  rests = record { lies = empty_lies; sound = new_sound; still = refl; plain = refl; safe = refl };
  armed = record { stands = refl; told = refl; counts = tt };
}

pub new_blank : (m : MemDisk) → disk_plain m ≡ new_disk → IsBlank m new_node
new_blank m is = record { status = refl; plain = refl; cut = refl; lies = subst (λ p. Lies p new_node) (sym is) new_lies }

-- ---- a node that stops ----

stopped_lies : (p : DiskPlain) (x : Node) → Lies p x → Lies p (stopped x)
stopped_lies p x lies = record { slots = lies.slots; formatted = lies.formatted; rests = lies.rests; armed = lies.armed }

module _ (c : Config) (n : ℕ) where
  pub lies_in : (s : State) (x : Node) (m : MemDisk) → StandsAs c n s x → disk_in s ≡ Some m → Lies (disk_plain m) x
  lies_in (states.Blank d) x m stands is = subst (λ d. Lies (disk_plain d) x) (some_is d m is) stands.lies
  lies_in (states.Up node) x m stands is = subst (λ d. Lies (disk_plain d) x) (some_is (disk_of node) m is) stands.lies
  lies_in (states.Down d) x m stands is = subst (λ d. Lies (disk_plain d) x) (some_is d m is) stands.lies
  lies_in (states.Failed d) x m stands is = subst (λ d. Lies (disk_plain d) x) (some_is d m is) stands.lies
  lies_in states.Gone x m stands is = absurd stands

  pub not_gone : (s : State) (x : Node) → StandsAs c n s x → disk_in s ≡ None → ⊥
  not_gone (states.Blank d) x stands is = absurd (cc is)
  not_gone (states.Up node) x stands is = absurd (cc is)
  not_gone (states.Down d) x stands is = absurd (cc is)
  not_gone (states.Failed d) x stands is = absurd (cc is)
  not_gone states.Gone x stands is = absurd stands

  pub stops : (s : State) (x : Node) (m : MemDisk) → StandsAs c n s x → disk_in s ≡ Some m → IsStopped Down m (stopped x)
  stops s x m stands is = record { is = refl; lies = stopped_lies (disk_plain m) x (lies_in s x m stands is) }

-- ---- a disk that is armed ----

unfoldable pub armed_lies : (p : DiskPlain) (x : Node) (f : Fault) (fault : DiskFault) → fault ≡ fault_of f.left (crash_of f.crash) → 1 ≤ f.left → Lies p x → Lies (armed_with fault p) (with_fault x f)
armed_lies p x f fault is counts lies = record {
  slots = lies.slots;
  formatted = lies.formatted;
  rests = lies.rests;
  armed = record { stands = lies.armed.stands; told = ap (λ o. Some o) is; counts = counts };
}

pub armed_too : (m new : MemDisk) (fault : DiskFault) → Some (disk_plain new) ≡ option_map (armed_with fault) (Some (disk_plain m)) → disk_plain new ≡ armed_with fault (disk_plain m)
armed_too m new fault is = some_is (disk_plain new) (armed_with fault (disk_plain m)) is

module _ {g : Ghosts MemDisk} (c : Config) (n : ℕ) (node new : Running MemDisk g) (x : Node) (f : Fault) (fault : DiskFault) where
  pub armed_runs : fault ≡ fault_of f.left (crash_of f.crash) → 1 ≤ f.left → Runs c n node x → disk_plain (disk_of new) ≡ armed_with fault (disk_plain (disk_of node))
      → id_of new ≡ id_of node → known_of new ≡ known_of node → released_of new ≡ released_of node → (layout_of new ≡ layout_of node) × (slots_of new ≡ slots_of node) → (Holds seen_in leaves_of node → Holds seen_in leaves_of new) → Runs c n new (with_fault x f)
  unfolding armed_lies
  armed_runs is counts runs disk id known released lies holds =
      let now = armed_lies (disk_plain (disk_of node)) x f fault is counts runs.lies in
      record {
        status = runs.status;
        id = id ∙ runs.id;
        known = known ∙ runs.known;
        released = released ∙ runs.released;
        cut = runs.cut;
        laid = lies.0 ∙ runs.laid;
        lies = record {
          slots = runs.lies.slots;
          formatted = runs.lies.formatted;
          rests = subst (λ q. Rests x.layout runs.lies.slots x.plain x.cut q.state) (sym disk) runs.lies.rests;
          armed = subst (λ q. IsArmed (Some f) q) (sym disk) now.armed;
        };
        slots = lies.1 ∙ runs.slots;
        holds = holds runs.holds;
      }
