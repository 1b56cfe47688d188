-- What a load that marks does to a disk that tells what each call will do.
use Rattle.std.proofs.Common.{◌≡◌, ◌⊎◌, inr, ⊎_elim, ℕ, List, Bool, Option, None, Some, true, false, sym, ap, refl, subst, cond, ◌∙◌}
use Rattle.ld_disk.specs.Plain.{Call, after_call, after_calls, all_succeed, succeeds}
use Rattle.ld_disk.specs.Plain as disks
use Rattle.ld_layout.specs.Layout.{Layout}
use Rattle.ld_segment.specs.Lies.{Slots, mark_row, mark_passes}
use Rattle.ld_store.specs.declared.fault.StoreFault.{StoreFault}
use Rattle.ld_store.specs.declared.fault.StoreFault.TheVariants as stores
use Rattle.ld_store.specs.Loads.{Marks, Loads, load_calls}

-- these calls end so, and all of them succeed or not
abbrev pub Ends : List Call → disks.Plain → Option disks.Plain → Bool → Type 0
Ends row p now ok = (now ≡ Some (after_calls row p)) × (ok ≡ all_succeed row p)

ends_there : (row same : List Call) (p : disks.Plain) (now : Option disks.Plain) (ok : Bool) → row ≡ same → Ends row p now ok → (now ≡ Some (after_calls same p)) × (all_succeed same p ≡ ok)
ends_there row same p now ok is ends = subst (λ cs. (now ≡ Some (after_calls cs p)) × (all_succeed cs p ≡ ok)) is (ends.0, sym ends.1)

module _ (y : Layout) (z : Slots) (p : disks.Plain) (now : Option disks.Plain) where
  pub marks_done : (row : List Call) → row ≡ mark_row y z → Ends row p now true → Marks y z p now None
  marks_done row is ends = ends_there row (mark_row y z) p now true is ends

  -- a mark wasn't written
  pub marks_refused : (row : List Call) (e : StoreFault) → row ≡ mark_row y z → (e ≡ stores.Disk → Ends row p now false) → (e ≡ stores.Disk) ⊎ (now ≡ Some p)
      → (e ≡ stores.Full → mark_passes y ≡ true) → ((place : ℕ) → e ≡ stores.Damaged place → ⊥) → (e ≡ stores.NeedsLoad → ⊥) → Marks y z p now (Some e)
  marks_refused row stores.Disk is failed kept full damaged needs = ends_there row (mark_row y z) p now false is (failed refl)
  marks_refused row (stores.Damaged other) is failed kept full damaged needs = absurd (damaged other refl)
  marks_refused row stores.Full is failed kept full damaged needs = (⊎_elim (λ is. absurd (cc is)) (λ same. same) kept, full refl)
  marks_refused row stores.NeedsLoad is failed kept full damaged needs = absurd (needs refl)
  marks_refused row stores.NoMemory is failed kept full damaged needs = ⊎_elim (λ is. absurd (cc is)) (λ same. same) kept

  -- a journal wasn't read
  pub marks_unread : (e : StoreFault) → now ≡ Some p → (e ≡ stores.Disk → ⊥) → (e ≡ stores.Full → ⊥) → ((place : ℕ) → e ≡ stores.Damaged place → ⊥) → (e ≡ stores.NeedsLoad → ⊥) → Marks y z p now (Some e)
  marks_unread stores.Disk same disk full damaged needs = absurd (disk refl)
  marks_unread (stores.Damaged place) same disk full damaged needs = absurd (damaged place refl)
  marks_unread stores.Full same disk full damaged needs = absurd (full refl)
  marks_unread stores.NeedsLoad same disk full damaged needs = absurd (needs refl)
  marks_unread stores.NoMemory same disk full damaged needs = same

-- ---- behind the sync of a load ----

module _ (y : Layout) (z : Slots) (p : disks.Plain) (now : Option disks.Plain) (synced : succeeds p ≡ true) where
  both_of : (ok : Bool) → (now ≡ Some (after_calls (mark_row y z) (after_call None p))) × (all_succeed (mark_row y z) (after_call None p) ≡ ok)
      → (now ≡ Some (after_calls (load_calls y z) p)) × (all_succeed (load_calls y z) p ≡ ok)
  both_of ok ends =
      (ends.0 ∙ ap (λ b. Some (cond b (after_calls (mark_row y z) (after_call None p)) (after_call None p))) (sym synced), ap (λ b. cond b (all_succeed (mark_row y z) (after_call None p)) false) synced ∙ ends.1)

  pub loads_on : (f : Option StoreFault) → Marks y z (after_call None p) now f → Loads y z p now f
  loads_on None marks = both_of true marks
  loads_on (Some stores.Disk) marks = both_of false marks
  loads_on (Some (stores.Damaged place)) marks = marks
  loads_on (Some stores.Full) marks = marks
  loads_on (Some stores.NeedsLoad) marks = marks
  loads_on (Some stores.NoMemory) marks = inr marks
