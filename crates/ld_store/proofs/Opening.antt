-- A store on a disk that was opened.
use Rattle.std.specs.Prelude.{◌↔◌}
use Rattle.std.specs.Result.{IsErrOf}
use Rattle.std.proofs.Common.{◌≡◌, ◌⊎◌, ⊎_elim, ◌<◌, Bool, cond, Ok, Err, ℕ, List, [], ◌∷◌, ◌++◌, length, Option, None, Some, IfSome, IsSome, false, true, refl, sym, ◌∙◌, ap, subst, inl, inr, arith, length-append}
use Rattle.ld_disk.specs.Images.{Only}
use Rattle.ld_disk.specs.Plain as disks
use Rattle.ld_disk.specs.declared.disk.Disk.{Ghosts}
use Rattle.ld_op.specs.Plain.{Plain}
use Rattle.ld_op.specs.Cells.{each_plain}
use Rattle.ld_segment.specs.Lies.{Slots, StandsFor, LiesAs, head_of, written, mark_row}
use Rattle.ld_layout.specs.Layout.{Layout}
use Rattle.ld_op.specs.declared.version.Version.TheVariants.{First}
use Rattle.ld_journal.specs.declared.fault.JournalFault.{JournalFault}
use Rattle.ld_journal.specs.declared.fault.JournalFault.TheVariants as journals
use Rattle.ld_segment.specs.Ops.{bodies_of}
use Rattle.ld_journal.specs.Format.{records}
use Rattle.ld_store.specs.Ops.{IfOpenAs, IsOfFirst, IsDamaged}
use Rattle.ld_store.specs.Faults.{passed_on}
use Rattle.ld_store.specs.Loads.{Loads}
use Rattle.ld_store.specs.Open.{disk_of, must_load, staged_of, is_blank, index_of, layout_of, slots_of, told_plain, within, Holds, IsOpened}
use Rattle.ld_store.specs.Read.{IsOut}
use Rattle.ld_store.specs.Opened.{IsSettled, IsOpen, IsBlank}
use Rattle.ld_store.specs.declared.store.Store.{Store}
use Rattle.ld_store.proofs.Inside.{inside as within_end}
use Rattle.ld_store.proofs.Refused.{not_out}
use Rattle.ld_store.proofs.Marking.{was_stands}

pub if_some : (told : Option (List ℕ)) (P Q : List ℕ → Type 0) → ((bytes : List ℕ) → told ≡ Some bytes → P bytes → Q bytes) → IfSome told P → IfSome told Q
if_some (Some bytes) P Q each has = each bytes refl has
if_some None P Q each has = tt

-- ---- damage ----

pub out_damaged : (place : ℕ) (bytes : List ℕ) → IsOut place bytes → IsDamaged place bytes
out_damaged place bytes out = record { none = λ p stands. not_out p bytes place stands out; cause = inr out }

no_bytes : (bytes : List ℕ) → bytes ≡ [] → (p : Plain) → StandsFor p bytes → ⊥
no_bytes bytes none p stands =
    let j = stands.lies.journal in
    let all = records (bodies_of stands.lies.records ++ head_of stands.layout stands.layout.later) in
    omega (arith, ap (λ (l : List ℕ). length l) (sym none ∙ j.bytes_are), length-append all (j.gate ∷ j.after))

pub empty_damaged : (place : ℕ) (bytes : List ℕ) → place ≡ 0 → bytes ≡ [] → IsDamaged place bytes
empty_damaged place bytes first none = record { none = no_bytes bytes none; cause = inl (first, none) }

-- a disk that tells its bytes and reads as one of its images, all of which represent a state, isn't damaged
pub none_damaged : (told : Option (List ℕ)) (image : List ℕ → Type 0) (place : ℕ) → IsSome told → ((bytes : List ℕ) → told ≡ Some bytes → image bytes)
    → ((c : List ℕ) → image c → (s : Plain) × StandsFor s c) → IfSome told (IsDamaged place) → ⊥
none_damaged (Some bytes) image place tells reads each damaged = let stands = each bytes (reads bytes refl) in damaged.none stands.0 stands.1
none_damaged None image place tells reads each damaged = absurd (cc tells)

-- ---- what a store holds ----

module _ {D : Type 0} {g : Ghosts D} (may_leave : D → List ℕ → Type 0) where
  pub held : (store : Store D g) (bytes : List ℕ) → must_load store ≡ false → staged_of store ≡ None → IsOpen g.seen may_leave (disk_of store) store.laid (index_of store) (is_blank store) bytes → (p : Plain) → StandsFor p bytes → Holds g.seen may_leave store
  held store bytes works none is p stands =
      let h = is.holds p stands in
      record {
        bytes = h.now;
        rests = h.rests;
        lies = h.lies;
        sound = h.sound;
        plain = ap (λ o. told_plain o (index_of store)) h.rests.bytes_are;
        inside = subst (λ o. IfSome o (λ told. each_plain (within (length told)) (index_of store) ≡ index_of store)) (sym h.rests.bytes_are) (within_end (written (layout_of store)) (layout_of store) (slots_of store) h.now h.lies h.sound);
        blank = h.blank_is;
        works = works;
        none = none;
      }

  pub opened_on : (store : Store D g) (bytes : List ℕ) → must_load store ≡ false → staged_of store ≡ None → IsOpen g.seen may_leave (disk_of store) store.laid (index_of store) (is_blank store) bytes → IsBlank (is_blank store) bytes → IsOpened g.seen may_leave store bytes
  opened_on store bytes works none is blank = record {
    holds = held store bytes works none is;
    plain = λ p stands. (let h = is.holds p stands in ap (λ o. told_plain o (index_of store)) h.rests.bytes_are ∙ sym h.plain);
    blank = blank.none;
    some = blank.some;
  }

-- ---- a disk that was settled ----

module _ {D : Type 0} (seen : D → Option (List ℕ)) (may_leave : D → List ℕ → Type 0) where
  abbrev pub Settled : D → ℕ → List ℕ → Type 0
  Settled disk len bytes = (seen disk ≡ Some bytes) × (len ≡ length bytes) × (0 < len) × Only bytes (may_leave disk)

  pub settled_is : (disk : D) (len : ℕ) (bytes : List ℕ) → Settled disk len bytes → IsSettled seen may_leave disk len bytes
  settled_is disk len bytes is = record { rests = record { bytes_are = is.0; stable = is.3 }; long = is.1; some = is.2 }

  -- on a disk that tells what each call will do
  pub settled_plain : (old new : D) (len : ℕ) (p q : disks.Plain) → seen old ≡ Some p.state.bytes → seen new ≡ Some q.state.bytes → seen new ≡ seen old → IfSome (seen old) (Settled new len)
      → (q.state.bytes ≡ p.state.bytes) × IsSettled seen may_leave new len q.state.bytes
  settled_plain old new len p q was is same settled =
      let there = subst (λ o. IfSome o (Settled new len)) (sym same ∙ is) settled in
      (same_told q.state.bytes p.state.bytes (sym is ∙ same ∙ was), settled_is new len q.state.bytes there)
    where
      same_told : (a b : List ℕ) → Some a ≡ Some b → a ≡ b
      same_told a b e = cc

-- ---- a disk that tells what each call will do ----

pub some_of : (told : Option (List ℕ)) (Q : List ℕ → Type 0) → ((bytes : List ℕ) → told ≡ Some bytes → Q bytes) → IfSome told Q
some_of (Some bytes) Q each = each bytes refl
some_of None Q each = tt

succeeded : (b : Bool) → (b ≡ false → ⊥) → b ≡ true
succeeded true none = refl
succeeded false none = absurd (none refl)

-- a settle that is done was one call that succeeds
pub synced_ok : {T : Type 0} (v : T) (p : disks.Plain) (now : Option disks.Plain)
    → (IsErrOf {T = T} (Ok v) journals.NoMemory × (now ≡ Some p)) ⊎ ((now ≡ Some (disks.after_call None p)) × (IsErrOf {T = T} (Ok v) journals.Disk ↔ (disks.succeeds p ≡ false)))
    → (now ≡ Some (disks.after_call None p)) × (disks.succeeds p ≡ true)
synced_ok v p now exact = ⊎_elim
    (λ none. absurd (cc none.0))
    (λ made. (made.0, succeeded (disks.succeeds p) (λ fails. (let failed = made.1.1 fails in absurd (cc failed)))))
    exact

pub same_if_ok : {T : Type 0} (v : T) (P : Type 0) → IsErrOf {T = T} (Ok v) journals.Disk ⊎ P → P
same_if_ok v P either = ⊎_elim (λ failed. absurd (cc failed)) (λ same. same) either

-- one that is refused
pub unsettled : {T : Type 0} (y : Layout) (z : Slots) (p : disks.Plain) (now : Option disks.Plain) (e : JournalFault)
    → (IsErrOf {T = T} (Err e) journals.NoMemory × (now ≡ Some p)) ⊎ ((now ≡ Some (disks.after_call None p)) × (IsErrOf {T = T} (Err e) journals.Disk ↔ (disks.succeeds p ≡ false)))
    → ((place : ℕ) → e ≡ journals.Damaged place → ⊥) → (e ≡ journals.Full → ⊥) → (e ≡ journals.NeedsLoad → ⊥) → Loads y z p now (Some (passed_on e))
unsettled y z p now journals.Disk exact damaged full needs = ⊎_elim
    (λ none. absurd (cc none.0))
    (λ made. (let fails = made.1.0 refl in
    (made.0 ∙ ap (λ b. Some (cond b (disks.after_calls (mark_row y z) (disks.after_call None p)) (disks.after_call None p))) (sym fails), ap (λ b. cond b (disks.all_succeed (mark_row y z) (disks.after_call None p)) false) fails)))
    exact
unsettled y z p now (journals.Damaged place) exact damaged full needs = absurd (damaged place refl)
unsettled y z p now journals.Full exact damaged full needs = absurd (full refl)
unsettled y z p now journals.NeedsLoad exact damaged full needs = absurd (needs refl)
unsettled y z p now journals.NoMemory exact damaged full needs = ⊎_elim (λ none. inl none.1) (λ made. inr made.0) exact

-- bytes that are the same are a journal of the first version too
abbrev pub still_first : (a b : List ℕ) → b ≡ a → IsOfFirst a → IsOfFirst b
still_first a b same was = record {
  layout = was.layout;
  slots = was.slots;
  lies = subst (λ l. LiesAs First was.layout was.slots l) (sym same) was.lies;
  sound = was.sound;
  slots_are = subst (λ l. IfOpenAs was.layout.later was.slots l) (sym same) was.slots_are;
  still = was.still;
}

-- one that has bytes isn't refused
pub not_empty : (told : Option (List ℕ)) (bytes : List ℕ) → told ≡ Some bytes → IsOfFirst bytes → IfSome told (λ b. b ≡ []) → ⊥
not_empty told bytes is was none = no_bytes bytes (subst (λ o. IfSome o (λ b. b ≡ [])) is none) _ (was_stands bytes was)
