-- A switch before a record: until its last gate is open the layout is as it was, and then it is the new one, with the same plain state.
use Rattle.std.proofs.Common.{◌≡◌, ◌≢◌, ◌⊎◌, inl, inr, ⊎_elim, ℕ, ◌+◌, ◌-◌, ◌≤◌, ◌<◌, max, nat_le, List, [], ◌∷◌, ◌++◌, length, get_or, Option, None, Some, Bool, true, false, cond, sym, ◌∙◌, ap, subst, arith, append-nil, ◌==◌}
use Rattle.std.proofs.lemmas.Bool.{cases_eq}
use Rattle.std.proofs.lemmas.Bool.Decides.{nat_tests}
use Rattle.ld_table.specs.Table.{find}
use Rattle.ld_table.proofs.Laws.{put_cases}
use Rattle.ld_disk.specs.Images.{overwrite, Torn}
use Rattle.ld_journal.specs.Format.{IsJournal, behind}
use Rattle.ld_msg.specs.Register.{journal_limit}
use Rattle.ld_op.specs.declared.record.Record.{Record}
use Rattle.ld_op.specs.declared.version.Version.{Version}
use Rattle.ld_op.specs.Plain.{Plain}
use Rattle.ld_op.specs.Cells.{read_plain}
use Rattle.ld_layout.specs.Areas.{IsApart, AreLive, least_place}
use Rattle.ld_layout.specs.Layout.{Layout, Segment, head_end, used, base_length, closed_areas, live_areas, least_for, room_for, growth_told, new_segment, switched_to, switch_number, IsSegment, IfSegment}
use Rattle.ld_layout.proofs.Free.{is_free}
use Rattle.ld_layout.proofs.Live.{free_of_each, rise_of}
use Rattle.ld_layout.proofs.Switches.{closed_ordered}
use Rattle.ld_segment.specs.Stays.{IsSameAt}
use Rattle.ld_segment.specs.Left.{Switching, TornTwice, IsSwitchTorn, IsFirstSwitchTorn, based, named, switched, staged, laid_out}
use Rattle.ld_segment.specs.Slots.{head_bytes, Tells, IsNextSwitch, IsElsewhere}
use Rattle.ld_segment.specs.Bases.{IsBase, HasNoLoss}
use Rattle.ld_segment.specs.Ops.{bodies_of}
use Rattle.ld_segment.specs.Lies.{Slots, IsLater, IsIndexed, LiesAs, IsSound, after_base, head_of, first_switch, next_switch, slots_after, switched_bytes}
use Rattle.ld_segment.proofs.Ranges.{torn_one}
use Rattle.ld_segment.proofs.Standing.{Standing, IsSameByte, index_same, one_is}
use Rattle.ld_segment.proofs.Sound.{Passes, behind_head, base_is, used_found}
use Rattle.ld_segment.proofs.NewSegments.{new_is}
use Rattle.ld_segment.proofs.More.{row_inside}
use Rattle.ld_segment.proofs.Kept.{LeftAs}
use Rattle.ld_segment.proofs.Choices as choices
use Rattle.ld_segment.proofs.Heading as heading
use Rattle.ld_segment.proofs.Switching as switching

-- the space that a segment is given
abbrev size_of : Layout → ℕ → ℕ
size_of y cause = let base : ℕ = base_length y.index (used y.index (closed_areas y y.later)) in base + 6 + room_for (least_for y.grows base) cause

-- the first later segment lies right behind the slots
place_by : (size end : ℕ) (b : Bool) → b ≡ false → cond b 0 (max 0 (0 + head_end end)) ≡ end + 49
place_by size end true is = absurd (cc is)
place_by size end false is = omega arith

pub first_place : (y : Layout) (cause room : ℕ) → y.later ≡ None → (new_segment y cause room).place ≡ y.end + 49
first_place y cause room e =
    let size : ℕ = size_of y cause in
    let past : nat_le (0 + size) 0 ≡ false = grind (arith, nat_tests) in
    ap (λ a. least_place size 0 (live_areas y a)) e ∙ place_by size y.end (nat_le (0 + size) 0) past

module _ (version : Version) (kind : ℕ) (y : Layout) (z : Slots) (b : List ℕ) (lies : LiesAs version y z b) (sound : IsSound y) (cause : ℕ) (passes : Passes y (new_segment y cause 0)) (kind_is : after_base kind lies.first ≡ Some version) (older : kind ≡ 9 → HasNoLoss y.index) (room_is : growth_told kind ≡ y.grows) where
  -- the segment as it is on the disk without the record
  abbrev n : Segment
  n = new_segment y cause 0

  abbrev p : Plain
  p = read_plain b y.index

  abbrev rs : List Record
  rs = lies.records

  far : y.end + 49 ≤ n.place
  far = omega (arith, behind_head y cause 0 sound.laid (omega arith))

  most : y.end + 1 ≤ journal_limit
  most = omega (arith, far, passes.limit)

  is_base : IsBase y.index n.areas
  is_base = base_is y cause 0 sound (omega arith) most passes

  abbrev size : ℕ
  size = size_of y cause

  free : (k v : ℕ) → find k (live_areas y y.later) ≡ Some v → IsApart size n.place (k, v)
  free k v found = free_of_each size n.place k v (live_areas y y.later) (is_free size 0 0 (live_areas y y.later) (rise_of (live_areas y y.later) sound.laid.live.ordered)) found

  areas_closed : (k v : ℕ) → find k n.areas ≡ Some v → find k (closed_areas y y.later) ≡ Some v
  areas_closed k v found = used_found y.index (closed_areas y y.later) k v (closed_ordered y y.later sound.laid.segment) found

  -- the layout as it was, with these slots
  as_it_was : (a : Option Segment) → y.later ≡ a → (x : Slots) (c : List ℕ) → IsJournal (bodies_of rs ++ head_of y a) c → IsIndexed lies.first version y x a rs c → ((k : ℕ) → Standing y a k → IsSameByte k b c) → LeftAs version p y x c
  as_it_was a e x c journal index same = record {
    lies = record {
      records = rs;
      journal = subst (λ t. IsJournal (bodies_of rs ++ head_of y t) c) (sym e) journal;
      first = lies.first;
      placed = lies.placed;
      ops_is = lies.ops_is;
      end_is = lies.end_is;
      index_is = subst (λ t. IsIndexed lies.first version y x t rs c) (sym e) index;
    };
    plain = index_same y b c sound (λ k at. same k (subst (λ t. Standing y t k) e at));
  }

  -- the new one
  new_one : (a : Option Segment) → y.later ≡ a → (x : Slots) (c : List ℕ) → IsJournal (bodies_of rs ++ head_of y (Some n)) c → IsLater lies.first version (y.end + 15) x n y.index c → ((k : ℕ) → Standing y a k → IsSameByte k b c)
      → LeftAs version p (switched_to y cause 0) x c
  unfolding switched_to
  new_one a e x c journal index same = record {
    lies = record {
      records = rs;
      journal = journal;
      first = lies.first;
      placed = lies.placed;
      ops_is = lies.ops_is;
      end_is = lies.end_is;
      index_is = index;
    };
    plain = index_same y b c sound (λ k at. same k (subst (λ t. Standing y t k) e at));
  }

  -- ---- the first switch ----

  module _ (e : y.later ≡ None) where
    index : IsIndexed lies.first version y z None rs b
    index = subst (λ t. IsIndexed lies.first version y z t rs b) e lies.index_is

    journal : IsJournal (bodies_of rs) b
    journal = subst (λ l. IsJournal l b) (append-nil (bodies_of rs)) (subst (λ t. IsJournal (bodies_of rs ++ head_of y t) b) e lies.journal)

    first_old : (c : List ℕ) → IsJournal (bodies_of rs) c → ((k : ℕ) → k < y.end → IsSameByte k b c) → LeftAs version p y z c
    first_old c row same = as_it_was None e z c (subst (λ l. IsJournal l c) (sym (append-nil (bodies_of rs))) row) index same

    pub first_slots_torn : (c : List ℕ) → Torn (y.end + 15) (length (first_switch kind y n).slots) b c → LeftAs version p y z c
    first_slots_torn c torn = let parts = heading.slots_torn kind y n rs b lies.end_is journal c torn in first_old c parts.0 parts.1

    pub first_head_torn : (c : List ℕ) → Torn (y.end + 1) (length (behind (head_bytes (y.end + 15)))) (laid_out (first_switch kind y n) b) c → LeftAs version p y z c
    first_head_torn c torn = let parts = heading.head_torn kind y n rs b lies.end_is journal c torn in first_old c parts.0 parts.1

    pub first_head_shut : (c : List ℕ) → Torn y.end 1 (staged y.end (head_bytes (y.end + 15)) (laid_out (first_switch kind y n) b)) c → get_or c y.end 0 ≢ 1 → LeftAs version p y z c
    first_head_shut c torn shut = let parts = heading.head_shut kind y n rs b lies.end_is journal c torn shut in first_old c parts.0 parts.1

    first_areas : (k v : ℕ) → find k n.areas ≡ Some v → k + v ≤ y.end + 1
    first_areas k v found = let one = one_is 0 (y.end + 1) k v (sym (ap (λ t. find k (closed_areas y t)) e) ∙ areas_closed k v found) in omega (arith, one.0, one.1)

    number : n.number ≡ 1
    number = ap (λ t. switch_number t + 1) e

    pub first_done : LeftAs version p (switched_to y cause 0) (slots_after y z None) (switched_bytes kind y z n None b)
    first_done = new_one None e (slots_after y z None) (heading.done kind y n rs b lies.end_is journal)
        (heading.done_journal kind y n rs b lies.end_is journal)
        (heading.done_later kind y n rs b lies.end_is journal lies.first version z (first_place y cause 0 e) number kind_is older room_is is_base (new_is y cause) first_areas)
        (heading.done_byte kind y n rs b lies.end_is journal)

    -- a crash in it
    pub first_torn : (c : List ℕ) → IsFirstSwitchTorn (first_switch kind y n) b c → LeftAs version p y z c ⊎ (c ≡ switched_bytes kind y z n None b)
    first_torn c torn = ⊎_elim (λ slots. inl (first_slots_torn c slots)) (λ head. ⊎_elim (λ behind. inl (first_head_torn c behind)) (λ gate. elim (cases_eq (get_or c y.end 0) 1) [
      | inl is_open ↦ inr (torn_one y.end (staged y.end (head_bytes (y.end + 15)) (laid_out (first_switch kind y n) b)) c (heading.staged_long kind y n rs b lies.end_is journal) gate
          ∙ ap (λ t. overwrite y.end (t ∷ []) (staged y.end (head_bytes (y.end + 15)) (laid_out (first_switch kind y n) b))) is_open)
      | inr shut ↦ inl (first_head_shut c gate shut)
    ]) head) torn

  -- ---- a later switch ----

  module _ (g : Segment) (e : y.later ≡ Some g) where
    later : IsLater lies.first version (y.end + 15) z g y.index b
    later = subst (λ t. IsIndexed lies.first version y z t rs b) e lies.index_is

    front : IsJournal (bodies_of rs ++ head_of y (Some g)) b
    front = subst (λ t. IsJournal (bodies_of rs ++ head_of y t) b) e lies.journal

    live : AreLive (live_areas y (Some g))
    live = subst (λ t. AreLive (live_areas y t)) e sound.laid.live

    segment : IsSegment g
    segment = subst IfSegment e sound.laid.segment

    free_of : (k v : ℕ) → find k (live_areas y (Some g)) ≡ Some v → IsApart size n.place (k, v)
    free_of k v found = free k v (ap (λ t. find k (live_areas y t)) e ∙ found)

    greater : g.number < n.number
    greater = let number : n.number ≡ g.number + 1 = ap (λ t. switch_number t + 1) e in omega (arith, number)

    fits : base_length y.index n.areas + 6 ≤ size
    fits = omega arith

    abbrev w : Switching
    w = next_switch kind y z n

    next : IsNextSwitch z.this z.other g.number n.number n.place w b
    next = switching.next_is lies.first version y z g rs b lies.end_is front later live segment kind n size free_of far fits greater

    old : (c : List ℕ) → ((k m : ℕ) → IsElsewhere w k m b → IsSameAt k m b c) → length b ≤ length c → Tells z.this z.other g.number g.place c → (x : Slots) × LeftAs version p y x c
    old c same longer tells =
        let was = switching.old_later lies.first version y z g rs b lies.end_is front later live segment kind n size free_of far fits greater c same longer tells in (
          was.0,
          as_it_was (Some g) e was.0 c
              (switching.front_same lies.first version y z g rs b lies.end_is front later live segment kind n size free_of far fits greater c same longer)
              was.1
              (switching.bytes_same lies.first version y z g rs b lies.end_is front later live segment kind n size free_of far fits greater c same longer),
        )

    old_torn : (c : List ℕ) → IsSwitchTorn w b c → Tells z.this z.other g.number g.place c → (x : Slots) × LeftAs version p y x c
    old_torn c torn tells = old c
        (λ k m away. choices.same_elsewhere z.this z.other g.number n.number n.place g.place w b later.tells next k m away c torn)
        (choices.torn_longer z.this z.other g.number n.number n.place g.place w b later.tells next c torn)
        tells

    pub later_base_torn : (c : List ℕ) → TornTwice w.base_at (length w.base) w.slot_at (length w.shut) b c → (x : Slots) × LeftAs version p y x c
    later_base_torn c torn = old_torn c (inl torn) (choices.both_torn z.this z.other g.number n.number n.place g.place w b later.tells next c torn)

    pub later_says_torn : (c : List ℕ) → Torn (w.slot_at + 1) (length w.says) (based w b) c → (x : Slots) × LeftAs version p y x c
    later_says_torn c torn = old_torn c (inr (inl torn)) (choices.says_torn z.this z.other g.number n.number n.place g.place w b later.tells next c torn)

    pub later_shut : (c : List ℕ) → Torn w.slot_at 1 (named w b) c → get_or c w.slot_at 0 ≢ 1 → (x : Slots) × LeftAs version p y x c
    later_shut c torn shut = old_torn c (inr (inr torn)) (choices.not_opened z.this z.other g.number n.number n.place g.place w b later.tells next c torn shut)

    later_areas : (k v : ℕ) → find k n.areas ≡ Some v → k + v ≤ length b
    later_areas k v found =
        let gate = row_inside lies.first version y z rs b lies.end_is (Some g) later front in
        ⊎_elim
        (λ here. (let long : g.end + 1 - g.place ≡ v = (let same : Some (g.end + 1 - g.place) ≡ Some v = sym here.1 ∙ closed in cc same) in omega (arith, here.0, long, segment.begun, gate)))
        (λ there. later.within k v (sym there.1 ∙ closed))
        (put_cases k g.place (g.end + 1 - g.place) g.areas)
      where
        closed : find k (closed_areas y (Some g)) ≡ Some v
        closed = sym (ap (λ t. find k (closed_areas y t)) e) ∙ areas_closed k v found

    pub later_done : LeftAs version p (switched_to y cause 0) (slots_after y z (Some g)) (switched w b)
    later_done =
        let same = λ (k m : ℕ) (away : IsElsewhere w k m b). choices.same_switched z.this z.other g.number n.number n.place g.place w b later.tells next k m away in
        let longer = choices.switched_longer z.this z.other g.number n.number n.place g.place w b later.tells next in
        let counts = choices.new_counts z.this z.other g.number n.number n.place g.place w b later.tells next in
        new_one (Some g) e (slots_after y z (Some g)) (switched w b)
        (switching.front_same lies.first version y z g rs b lies.end_is front later live segment kind n size free_of far fits greater (switched w b) same longer)
        (switching.new_later lies.first version y z g rs b lies.end_is front later live segment kind n size free_of far fits greater (switched w b) same longer version counts.0 counts.1 kind_is older room_is is_base (new_is y cause) later_areas)
        (switching.bytes_same lies.first version y z g rs b lies.end_is front later live segment kind n size free_of far fits greater (switched w b) same longer)

    named_long : w.slot_at < length (named w b)
    named_long = omega (arith, next.inside.1, choices.named_long z.this z.other g.number n.number n.place g.place w b later.tells next)

    -- a crash in it
    pub later_torn : (c : List ℕ) → IsSwitchTorn w b c → ((x : Slots) × LeftAs version p y x c) ⊎ (c ≡ switched w b)
    later_torn c torn = ⊎_elim (λ base. inl (later_base_torn c base)) (λ rest. ⊎_elim (λ says. inl (later_says_torn c says)) (λ gate. elim (cases_eq (get_or c w.slot_at 0) 1) [
      | inl is_open ↦ inr (torn_one w.slot_at (named w b) c named_long gate ∙ ap (λ t. overwrite w.slot_at (t ∷ []) (named w b)) is_open)
      | inr shut ↦ inl (later_shut c gate shut)
    ]) rest) torn
