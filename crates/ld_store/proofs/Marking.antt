-- A journal that was read, and one that was then marked.
use Rattle.std.proofs.Common.{◌≡◌, ◌⊎◌, inl, inr, ⊎_elim, ◌<◌, ◌+◌, ◌&&◌, ℕ, List, length, Option, None, Some, Bool, true, false, cond, refl, sym, ◌∙◌, ap, subst, arith}
use Rattle.std.proofs.lemmas.Bool.Decides.{nat_tests}
use Rattle.ld_disk.specs.Moments.{LeavesOnly, Unchanged}
use Rattle.ld_disk.proofs.Runs.{stays_on, begins_on}
use Rattle.ld_msg.specs.Register.{journal_limit}
use Rattle.ld_op.specs.declared.record.Record.TheVariants.{Mark}
use Rattle.ld_op.specs.declared.version.Version.{Version}
use Rattle.ld_op.specs.declared.version.Version.TheVariants.{Blank, First, Second}
use Rattle.ld_op.specs.Plain.{Plain}
use Rattle.ld_op.specs.Records.{is_blank, is_first}
use Rattle.ld_op.specs.Bytes.{record_bytes}
use Rattle.ld_op.specs.Cells.{read_plain}
use Rattle.ld_layout.specs.LaidOut.{later_of, is_past}
use Rattle.ld_layout.specs.Layout.{Layout, Segment, switches, switched_to}
use Rattle.ld_segment.specs.Stays.{Rests}
use Rattle.ld_segment.specs.Lies.{Slots, LiesAs, IsSound, StandsFor, IsRowTorn, row_made, slots_with, marked_in, mark_passes, mark_passes_in, mark_row, segment_for, gate_in}
use Rattle.ld_segment.specs.Plans.{planned_by, planned_end}
use Rattle.ld_segment.proofs.Steps.{said_as}
use Rattle.ld_segment.proofs.MarkRow.{mark_torn, mark_made, sound_marked}
use Rattle.ld_store.specs.Ops.{IsOpenAs, IfOpenAs, IsOfFirst, IsMarkedOrNot, HasNoRoom}
use Rattle.ld_store.specs.Laid.{layout_in, slots_in, IsPast}
use Rattle.ld_store.specs.Loads.{LeftOrMarked}
use Rattle.ld_store.specs.Read.{IsFirstRead, IsLaterRead, IsRead}
use Rattle.ld_store.specs.Opened.{IsSettled, IsOpen}
use Rattle.ld_store.specs.declared.laid.Laid.{Laid}
use Rattle.ld_store.proofs.OneLayout.{IsSame, one_layout}
use Rattle.ld_store.proofs.Turned.{lies_turned, sound_turned}
use Rattle.ld_store.proofs.MarkRoom.{past_passes}
use Rattle.ld_store.proofs.Blank.{blank_lies, written_is}
use Rattle.ld_layout.specs.declared.segment.Growth.TheVariants.{Still}

pub first_is : (w : Version) → is_first w ≡ true → w ≡ First
first_is Blank is = absurd (cc is)
first_is First is = refl
first_is Second is = absurd (cc is)

abbrev mark : List ℕ
mark = record_bytes Mark

module _ (bytes : List ℕ) (l : Laid) (index : Plain) (version : Version) (read : IsRead bytes l index version) where
  -- ---- what they stand for ----

  abbrev y : Layout
  y = layout_in l index

  abbrev z : Slots
  z = slots_in l

  -- the bytes represent this plain state, as they were read
  pub record StandsAs (p : Plain) : Type 0 where
    pub lies : LiesAs version y z bytes
    pub sound : IsSound y
    pub plain : p ≡ read_plain bytes index

  pub stands_as : (p : Plain) → StandsFor p bytes → StandsAs p
  stands_as p stands =
      let s = one_layout stands.version stands.layout stands.slots bytes l index version stands.lies stands.sound read in
      record {
        lies = subst (λ w. LiesAs w y z bytes) s.version_is (subst (λ x. LiesAs stands.version x z bytes) s.layout (lies_turned stands.layout Still stands.version z bytes s.lies));
        sound = subst (λ x. IsSound x) s.layout (sound_turned stands.layout Still stands.sound);
        plain = stands.plain ∙ ap (λ x. read_plain bytes x.index) s.layout;
      }

  -- the room of the next segment doesn't grow
  pub still_read : y.grows ≡ Still
  still_read = ⊎_elim (λ r. ap (λ p. p.grows) r.layout_is) (λ r. ap (λ p. p.grows) r.layout_is) read

  -- where there are slots, their gates are as they were read
  open_first : IsFirstRead bytes l index version → IfOpenAs y.later z bytes
  open_first r = subst (λ a. IfOpenAs (later_of a) z bytes) (sym (ap (λ p. p.later) r.layout_is)) tt

  open_later : IsLaterRead bytes l index version → IfOpenAs y.later z bytes
  open_later r =
      let found = r.there.found in
      subst (λ a. IfOpenAs (later_of a) z bytes) (sym (ap (λ p. p.later) r.layout_is))
      (subst (λ s. IsOpenAs s bytes) (sym r.slots_are) (record { gate = found.gate; there = found.gate_there; open_is = found.open_is }))

  open_as : IfOpenAs y.later z bytes
  open_as = ⊎_elim open_first open_later read

  pub of_first : is_first version ≡ true → (p : Plain) → StandsFor p bytes → IsOfFirst bytes
  of_first first p stands =
      let s = stands_as p stands in
      record { layout = y; slots = z; lies = subst (λ w. LiesAs w y z bytes) (first_is version first) s.lies; sound = s.sound; slots_are = open_as; still = still_read }

  -- a mark has no room behind it
  pub no_room : is_first version ≡ true → (p : Plain) → StandsFor p bytes → IsPast 9 y z mark → HasNoRoom bytes
  no_room first p stands past =
      let s = stands_as p stands in
      let lies = subst (λ w. LiesAs w y z bytes) (first_is version first) s.lies in
      record { was = record { layout = y; slots = z; lies = lies; sound = s.sound; slots_are = open_as; still = still_read }; long = past_passes y z bytes lies s.sound past }

  -- a journal of the first version was read so
  was_same : (was : IsOfFirst bytes) → IsSame First was.layout was.slots l index version bytes
  was_same was = one_layout First was.layout was.slots bytes l index version was.lies was.sound read

  pub was_first : IsOfFirst bytes → is_first version ≡ true
  was_first was = sym (ap is_first (was_same was).version_is)

  pub was_layout : (was : IsOfFirst bytes) → was.layout ≡ y
  was_layout was = (λ i. record was.layout { grows = was.still i }) ∙ (was_same was).layout

  pub was_row : (was : IsOfFirst bytes) → mark_row was.layout was.slots ≡ mark_row y z
  was_row was = (was_same was).row was.slots_are ∙ ap (λ x. mark_row x z) (was_layout was)

pub was_passes : (bytes : List ℕ) (l : Laid) (index : Plain) (version : Version) (read : IsRead bytes l index version) (was : IsOfFirst bytes) → IsPast 9 (layout_in l index) (slots_in l) mark → mark_passes was.layout ≡ true
was_passes bytes l index version read was past =
    let s = was_same bytes l index version read was in
    let same = was_layout bytes l index version read was in
    let lies = subst (λ x. LiesAs First x (slots_in l) bytes) same s.lies in
    ap mark_passes same ∙ past_passes (layout_in l index) (slots_in l) bytes lies (subst (λ x. IsSound x) same was.sound) past

pub some_bytes : (n : ℕ) (bytes : List ℕ) → n ≡ length bytes → 0 < n → 0 < length bytes
some_bytes n bytes long some = subst (λ k. 0 < k) long some

pub was_stands : (bytes : List ℕ) (was : IsOfFirst bytes) → StandsFor (read_plain bytes was.layout.index) bytes
was_stands bytes was = record { version = First; layout = was.layout; slots = was.slots; lies = was.lies; sound = was.sound; plain = refl }

-- ---- a mark's room ----

pub passes_past : (y : Layout) (z : Slots) → mark_passes y ≡ true → IsPast 9 y z mark
unfolding switched_to
passes_past y z passes = by (switches y 2) refl passes
  where
    here : (a : Option Segment) → switches y 2 ≡ false → mark_passes_in y a ≡ true → journal_limit < gate_in y a + 8
    here None goes long = grind (arith, nat_tests)
    here (Some g) goes long = absurd (cc (sym (ap (λ b. b && is_past y.index g) goes) ∙ long))

    by : (b : Bool) → switches y 2 ≡ b → mark_passes_in y (cond b (switched_to y 7 7) y).later ≡ true → IsPast 9 y z mark
    by true full long = inr (inr (inl (full, sym (ap (λ b. b && is_past y.index (segment_for y 2)) full) ∙ long)))
    by false goes long = inr (inr (inr (subst (λ b. journal_limit < planned_end (planned_by 9 y z mark 2 b)) (sym goes) (omega (arith, here y.later goes long)))))

passes_if : (b : Bool) → (b ≡ true → ⊥) → b ≡ false
passes_if true none = absurd (none refl)
passes_if false none = refl

pub has_room : (y : Layout) (z : Slots) → (IsPast 9 y z mark → ⊥) → mark_passes y ≡ false
has_room y z none = passes_if (mark_passes y) (λ passes. none (passes_past y z passes))

-- ---- what is left ----

module _ {D : Type 0} (seen : D → Option (List ℕ)) (may_leave : D → List ℕ → Type 0) (moment : D → ℕ) (left_since : D → ℕ → List ℕ → Type 0) where
  pub rests_on : (old new : D) (b : List ℕ) → Unchanged seen may_leave moment left_since old new → Rests seen may_leave old b → Rests seen may_leave new b
  rests_on old new b same rests = record { bytes_are = same.bytes ∙ rests.bytes_are; stable = λ c left. rests.stable c (same.crash c left) }

  pub unchanged_too : (old mid new : D) → Unchanged seen may_leave moment left_since old mid → Unchanged seen may_leave moment left_since mid new → Unchanged seen may_leave moment left_since old new
  unchanged_too old mid new a b = record {
    bytes = b.bytes ∙ a.bytes;
    crash = λ c left. a.crash c (b.crash c left);
    crash_back = λ c left. b.crash_back c (a.crash_back c left);
    time = b.time ∙ a.time;
    past = λ t c left. a.past t c (b.past t c left);
    past_back = λ t c left. b.past_back t c (a.past_back t c left);
  }

  module _ (bytes : List ℕ) (l : Laid) (index : Plain) (version : Version) (read : IsRead bytes l index version) where
    pub open_unmarked : (old new : D) (len : ℕ) → IsSettled seen may_leave old len bytes → Unchanged seen may_leave moment left_since old new → is_first version ≡ false → IsOpen seen may_leave new l index (is_blank version) bytes
    open_unmarked old new len settled same other = record {
      holds = λ p stands. (let s = stands_as bytes l index version read p stands in
          record {
            now = bytes;
            rests = rests_on old new bytes same settled.rests;
            lies = subst (λ w. LiesAs w (layout_in l index) (slots_in l) bytes) (written_is version (layout_in l index) (slots_in l) bytes s.lies other) s.lies;
            sound = s.sound;
            plain = s.plain;
            blank_is = blank_lies version (layout_in l index) (slots_in l) bytes s.lies;
          });
    }

    pub open_marked : (new : D) (now : Laid) → is_first version ≡ true → layout_in now index ≡ marked_in (layout_in l index) → slots_in now ≡ slots_with (layout_in l index) (slots_in l) 2
        → Rests seen may_leave new (row_made 9 (layout_in l index) (slots_in l) mark bytes) → (IsPast 9 (layout_in l index) (slots_in l) mark → ⊥) → IsOpen seen may_leave new now index (is_blank version) bytes
    open_marked new now first layout slots rests room = record {
      holds = λ p stands. (let s = stands_as bytes l index version read p stands in
          let lies = subst (λ w. LiesAs w (layout_in l index) (slots_in l) bytes) (first_is version first) s.lies in
          let fits = has_room (layout_in l index) (slots_in l) room in
          let made = mark_made (layout_in l index) (slots_in l) bytes lies s.sound fits (still_read bytes l index version read) in
          let b = row_made 9 (layout_in l index) (slots_in l) mark bytes in
          let there : LiesAs Second (layout_in now index) (slots_in now) b = subst (λ q. LiesAs Second (layout_in now index) q b) (sym slots) (subst (λ x. LiesAs Second x (slots_with (layout_in l index) (slots_in l) 2) b) (sym layout) made.lies) in
          record {
            now = b;
            rests = rests;
            lies = subst (λ w. LiesAs w (layout_in now index) (slots_in now) b) (written_is Second (layout_in now index) (slots_in now) b there refl) there;
            sound = subst (λ x. IsSound x) (sym layout) (sound_marked (layout_in l index) s.sound fits);
            plain = s.plain ∙ sym made.plain ∙ ap (λ x. read_plain b x.index) (sym layout);
            blank_is = ap is_blank (first_is version first) ∙ blank_lies Second (layout_in now index) (slots_in now) b there;
          });
    }

    marked_or_not : (c : List ℕ) → is_first version ≡ true → (IsPast 9 (layout_in l index) (slots_in l) mark → ⊥) → IsRowTorn 9 (layout_in l index) (slots_in l) mark bytes c → IsMarkedOrNot bytes c
    marked_or_not c first room torn p stands =
        let s = stands_as bytes l index version read p stands in
        let lies = subst (λ w. LiesAs w (layout_in l index) (slots_in l) bytes) (first_is version first) s.lies in
        let left = mark_torn (layout_in l index) (slots_in l) bytes lies s.sound (has_room (layout_in l index) (slots_in l) room) (still_read bytes l index version read) c torn in
        (of_first bytes l index version read first p stands, subst (λ q. StandsFor q c) (sym s.plain) left)

    pub leaves_marked : (old mid new : D) → Unchanged seen may_leave moment left_since old mid → is_first version ≡ true → (IsPast 9 (layout_in l index) (slots_in l) mark → ⊥)
        → LeavesOnly moment left_since mid new (IsRowTorn 9 (layout_in l index) (slots_in l) mark bytes) ⊎ Unchanged seen may_leave moment left_since mid new
        → LeavesOnly moment left_since old new (IsMarkedOrNot bytes) ⊎ Unchanged seen may_leave moment left_since old new
    leaves_marked old mid new same first room leaves = ⊎_elim
        (λ torn. inl (begins_on moment left_since seen may_leave old mid new _ same
        (said_as seen may_leave moment left_since mid new (IsRowTorn 9 (layout_in l index) (slots_in l) mark bytes) (IsMarkedOrNot bytes) torn (λ c left. marked_or_not c first room left))))
        (λ still. inr (unchanged_too old mid new same still))
        leaves

  -- calls that leave what was left before, and then what a mark does
  pub leaves_both : (old mid new : D) (bytes : List ℕ) → LeavesOnly moment left_since old mid (may_leave old) → LeavesOnly moment left_since mid new (IsMarkedOrNot bytes) ⊎ Unchanged seen may_leave moment left_since mid new
      → LeavesOnly moment left_since old new (LeftOrMarked (may_leave old) bytes)
  leaves_both old mid new bytes first rest =
      let before = said_as seen may_leave moment left_since old mid (may_leave old) (LeftOrMarked (may_leave old) bytes) first (λ c left. inl left) in
      ⊎_elim
      (λ second. record {
        later = omega (arith, first.later, second.later);
        each = λ c left. ⊎_elim (λ was. before.each c was) (λ marked. inr marked) (second.before (moment old) c first.later left);
        before = λ t c le left. ⊎_elim (λ was. before.before t c le was) (λ marked. inr (inr marked)) (second.before t c (omega (arith, le, first.later)) left);
      })
      (λ same. stays_on moment left_since seen may_leave old mid new _ before same)
      rest
