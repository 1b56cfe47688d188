-- An op that is kept: within which limits, and what a store holds then.
use Rattle.std.proofs.Common.{◌≡◌, inl, inr, ⊎_elim, refl, ℕ, ◌+◌, ◌≤◌, ◌<◌, ◌^◌, ◌==◌, ◌&&◌, List, [], ◌++◌, length, Option, None, Some, Bool, true, false, cond, if◌then◌else◌, sym, ◌∙◌, ap, subst, arith}
use Rattle.std.specs.Prelude.{IfSome}
use Rattle.std.proofs.lemmas.Bool.Decides.{nat_tests}
use Rattle.ld_disk.specs.declared.disk.Disk.{Ghosts}
use Rattle.ld_disk.specs.Moments.{LeavesOnly, Unchanged}
use Rattle.ld_disk.proofs.Runs.{started, stays_on}
use Rattle.ld_msg.specs.Register.{record_length, journal_limit}
use Rattle.ld_op.specs.declared.op.Op.{Op}
use Rattle.ld_op.specs.declared.record.Record.TheVariants.{Now}
use Rattle.ld_op.specs.Plain.{Plain, apply, op_length}
use Rattle.ld_op.specs.Records.{is_format}
use Rattle.ld_op.specs.Bounds.{IsOp}
use Rattle.ld_op.specs.Bytes.{op_bytes}
use Rattle.ld_op.specs.Cells.{each_plain, read_plain, placed}
use Rattle.ld_layout.specs.Areas.{AreLive}
use Rattle.ld_layout.specs.declared.segment.Layout.{Layout as Plan}
use Rattle.ld_layout.specs.LaidOut.{laid_out, gate_behind, recorded, is_past}
use Rattle.ld_layout.specs.Layout.{Layout, Segment, live_areas, switches, switched_to, is_first, later_with, with_record, laid_for, kept_in, passes_in, passes_limit, IfSegment, kind_of}
use Rattle.ld_layout.proofs.Segments.{recorded_is}
use Rattle.ld_segment.specs.Stays.{Rests}
use Rattle.ld_segment.specs.Lies.{Slots, IsIndexed, LiesAs, IsSound, IfBounded, MayKeep, StandsForEither, IsRowTorn, written, segment_for, gate_in, row_made, slots_with}
use Rattle.ld_segment.specs.Plans.{before_by, end_before, planned_end, planned_by, planned}
use Rattle.ld_segment.proofs.Bodies.{record_long, record_fits}
use Rattle.ld_segment.proofs.Standing.{head_before}
use Rattle.ld_segment.proofs.Kept.{some_ops}
use Rattle.ld_segment.proofs.Sound.{sound_kept}
use Rattle.ld_segment.proofs.Planning.{op_fits}
use Rattle.ld_segment.proofs.OpRow.{kept_made, kept_or_not}
use Rattle.ld_store.specs.Laid.{layout_in, placed_in, IsPast}
use Rattle.ld_store.specs.Open.{disk_of, must_load, is_blank, staged_of, index_of, layout_of, slots_of, plain_of, told_plain, within, Holds}
use Rattle.ld_store.specs.declared.laid.Laid.{Laid}
use Rattle.ld_store.specs.declared.store.Store.{Store}
use Rattle.ld_store.proofs.Inside.{inside}
use Rattle.ld_store.proofs.Holding.{images_stand}

-- ---- within the limit ----

module _ (y : Layout) (z : Slots) (o : Op) where
  abbrev n : ℕ
  n = op_length o

  abbrev said : List ℕ
  said = op_bytes o

  abbrev IsLong : ℕ → Type 0
  IsLong size = (switches y size ≡ true) × (is_past y.index (segment_for y size) ≡ true)

  -- where a switch comes first, its segment decides
  decided : switches y n ≡ true → passes_limit y o ≡ is_past y.index (segment_for y n)
  unfolding passes_limit switched_to
  decided full = ap (λ t. passes_in y o (cond t (switched_to y (record_length n) (record_length n)) y).later) full ∙ ap (λ t. t && is_past y.index (segment_for y n)) full

  long : n ≡ length said
  long = sym (record_long (Now o))

  goes_past : passes_limit y o ≡ true → IsPast (kind_of y) y z said
  unfolding passes_limit
  goes_past past = by (switches y n) refl
    where
      here : (a : Option Segment) → y.later ≡ a → switches y n ≡ false → passes_in y o a ≡ true → journal_limit < planned_end (planned (kind_of y) y z said)
      here None first goes passes =
          let far : journal_limit < y.end + 1 + record_length n = grind (arith, nat_tests) in
          let same : planned (kind_of y) y z said ≡ planned_by (kind_of y) y z said (length said) false = ap (planned_by (kind_of y) y z said (length said)) (ap (switches y) (sym long) ∙ goes) in
          omega (arith, far, long, ap planned_end same, ap (gate_in y) first)
      here (Some g) first goes passes = absurd (let none : true ≡ false = sym passes ∙ ap (λ t. t && is_past y.index g) goes in cc none)

      by : (t : Bool) → switches y n ≡ t → IsPast (kind_of y) y z said
      by true full = inr (inr (inl (subst IsLong long (full, sym (decided full) ∙ past))))
      by false goes = inr (inr (inr (here y.later refl goes (sym (ap (λ t. passes_in y o (cond t (switched_to y (record_length n) (record_length n)) y).later) goes) ∙ past))))

  -- what isn't past the limit passes none
  pub not_past : (IsPast (kind_of y) y z said → ⊥) → passes_limit y o ≡ false
  not_past none = by (passes_limit y o) refl
    where
      by : (t : Bool) → passes_limit y o ≡ t → passes_limit y o ≡ false
      by true past = absurd (none (goes_past past))
      by false within = within

  module _ (b : List ℕ) (lies : LiesAs (written y) y z b) (sound : IsSound y) (op : IsOp o) (format : is_format o ≡ (y.ops == 0)) where
    pub may_keep : passes_limit y o ≡ false → MayKeep y o
    may_keep within = record { op = op; format = format; fits = within }

    near : planned_end (planned (kind_of y) y z said) ≤ journal_limit → (y.end ≤ journal_limit) × (gate_in y y.later ≤ journal_limit)
    near end = by y.later refl sound.laid.segment sound.bounded
      where
        first : (t : Bool) → y.later ≡ None → planned_end (planned_by (kind_of y) y z said (length said) t) ≤ journal_limit → y.end ≤ journal_limit
        first true e end = omega (arith, end, ap (λ a. end_before (before_by (kind_of y) y z (segment_for y (length said)) a)) e)
        first false e end = omega (arith, end, ap (gate_in y) e)

        by : (a : Option Segment) → y.later ≡ a → IfSegment a → IfBounded y.end a → (y.end ≤ journal_limit) × (gate_in y y.later ≤ journal_limit)
        by None e segment bounded = let low = first (switches y (length said)) e end in (low, omega (arith, low, ap (gate_in y) e))
        by (Some g) e segment bounded =
            let far = head_before y g (subst (λ a. AreLive (live_areas y a)) e sound.laid.live) segment in
            (omega (arith, far, segment.begun, segment.within, bounded.limit), omega (arith, ap (gate_in y) e, segment.within, bounded.limit))

    pub is_full : IsPast (kind_of y) y z said → passes_limit y o ≡ true
    is_full past = by (passes_limit y o) refl
      where
        none : passes_limit y o ≡ false → ⊥
        none within =
            let end = op_fits y z b o lies sound (may_keep within) in
            let low = near end in
            ⊎_elim (λ far. omega (arith, far, low.0))
            (λ other. ⊎_elim (λ far. omega (arith, far, low.1))
            (λ third. ⊎_elim
            (λ both. (let here = subst IsLong (sym long) both in absurd (let same : false ≡ true = sym within ∙ decided here.0 ∙ here.1 in cc same)))
            (λ far. omega (arith, far, end)) third) other) past

        by : (t : Bool) → passes_limit y o ≡ t → passes_limit y o ≡ true
        by true e = e
        by false e = absurd (none e)

-- ---- the layout then ----

pub kept_ops : (y : Layout) (o : Op) (z : Slots) (b : List ℕ) → LiesAs (written (kept_in y o)) (kept_in y o) z b → ((kept_in y o).ops == 0) ≡ false
unfolding with_record
kept_ops y o z b lies = by (laid_for y o (record_length (op_length o))).later refl
  where
    w : Layout
    w = laid_for y o (record_length (op_length o))

    by : (a : Option Segment) → w.later ≡ a → ((kept_in y o).ops == 0) ≡ false
    by None e = let more : (kept_in y o).ops ≡ w.ops + 1 = ap (λ a. if is_first a then w.ops + 1 else w.ops) e in grind (arith, nat_tests)
    by (Some g) e = some_ops lies.first (kept_in y o) z _ (kept_in y o).index b (subst (λ a. IsIndexed lies.first (written (kept_in y o)) (kept_in y o) z a lies.records b) (ap (λ a. later_with a (op_length o)) e) lies.index_is)

pub laid_kept : (old mid : Laid) (now : Plan) (i j index : Plain) (o : Op) (gate size : ℕ) → i ≡ index → size ≡ op_length o → layout_in mid i ≡ placed_in (layout_in old i) size → now ≡ recorded mid.layout size true
    → gate ≡ gate_behind mid.layout.end mid.layout.later → j ≡ apply i (placed (gate + 5) o) → laid_out now j ≡ kept_in (layout_in old index) o
laid_kept old mid now i j index o gate size same long lies made gate_is applied =
    ap (λ k. laid_out now k) (applied ∙ ap (λ k. apply i (placed (k + 5) o)) gate_is)
    ∙ recorded_is mid.layout now i o size true made refl (sym long)
    ∙ ap (λ w. with_record w o) (lies ∙ (λ k. placed_in (layout_in old (same k)) (long k)))

-- ---- an op's body, as it was written ----

pub body_is : (o : Op) (empty body : List ℕ) → empty ≡ [] → body ≡ empty ++ op_bytes o → body ≡ op_bytes o
body_is o empty body none written = written ∙ ap (λ l. l ++ op_bytes o) none

pub body_fits : (o : Op) (body : List ℕ) → IsOp o → body ≡ op_bytes o → length body < 2 ^ 32
body_fits o body op is = subst (λ (l : List ℕ). length l < 2 ^ 32) (sym is) (record_fits (Now o) op)

pub body_long : (o : Op) (body : List ℕ) → body ≡ op_bytes o → length body ≡ op_length o
body_long o body is = ap (λ (l : List ℕ). length l) is ∙ record_long (Now o)

module _ (laid : Laid) (z : Slots) (o : Op) (i index : Plain) (body : List ℕ) (same : i ≡ index) (is : body ≡ op_bytes o) where
  pub past_is : IsPast (kind_of (layout_in laid index)) (layout_in laid index) z (op_bytes o) → IsPast (kind_of (layout_in laid i)) (layout_in laid i) z body
  past_is past = subst (λ l. IsPast (kind_of (layout_in laid i)) (layout_in laid i) z l) (sym is) (subst (λ k. IsPast (kind_of (layout_in laid k)) (layout_in laid k) z (op_bytes o)) (sym same) past)

  pub is_within : (IsPast (kind_of (layout_in laid i)) (layout_in laid i) z body → ⊥) → passes_limit (layout_in laid index) o ≡ false
  is_within none = not_past (layout_in laid index) z o (λ past. none (past_is past))

  pub never_past : (IsPast (kind_of (layout_in laid i)) (layout_in laid i) z body → ⊥) → passes_limit (layout_in laid index) o ≡ true → ⊥
  never_past none past = absurd (let e : false ≡ true = sym (is_within none) ∙ past in cc e)

-- ---- the store then ----

module _ {D : Type 0} {g : Ghosts D} (may_leave : D → List ℕ → Type 0) (old : Store D g) (o : Op) (i : Plain) (body : List ℕ) (same : i ≡ index_of old) (is : body ≡ op_bytes o) (holds : Holds g.seen may_leave old) (op : IsOp o) (format : is_format o ≡ is_blank old) where
  abbrev y : Layout
  y = layout_of old

  abbrev z : Slots
  z = slots_of old

  kind_is : is_format o ≡ (y.ops == 0)
  kind_is = format ∙ holds.blank

  may : (IsPast (kind_of (layout_in old.laid i)) (layout_in old.laid i) z body → ⊥) → MayKeep y o
  may none = may_keep y z o holds.bytes holds.lies holds.sound op kind_is (is_within old.laid z o i (index_of old) body same is none)

  pub full_is : IsPast (kind_of (layout_in old.laid i)) (layout_in old.laid i) z body → passes_limit y o ≡ true
  full_is past = is_full y z o holds.bytes holds.lies holds.sound op kind_is (subst (λ l. IsPast (kind_of y) y z l) is (subst (λ k. IsPast (kind_of (layout_in old.laid k)) (layout_in old.laid k) z body) same past))

  module _ (none : IsPast (kind_of (layout_in old.laid i)) (layout_in old.laid i) z body → ⊥) where
    pub stand_either : (c : List ℕ) → IsRowTorn (kind_of (layout_in old.laid i)) (layout_in old.laid i) z body holds.bytes c → StandsForEither (plain_of old) (apply (plain_of old) o) c
    stand_either c torn =
        let row = subst (λ l. IsRowTorn (kind_of y) y z l holds.bytes c) is (subst (λ k. IsRowTorn (kind_of (layout_in old.laid k)) (layout_in old.laid k) z body holds.bytes c) same torn) in
        subst (λ p. StandsForEither p (apply p o) c) (sym holds.plain) (kept_or_not y z holds.bytes o holds.lies holds.sound (may none) c row)

    module _ (new : Store D g) (laid : layout_of new ≡ kept_in y o) (slots : slots_of new ≡ slots_with y z (op_length o)) (rests : Rests g.seen may_leave (disk_of new) (row_made (kind_of (layout_in old.laid i)) (layout_in old.laid i) z body holds.bytes))
        (some : is_blank new ≡ false) (works : must_load new ≡ false) (nothing : staged_of new ≡ None) where
      abbrev b : List ℕ
      b = row_made (kind_of y) y z (op_bytes o) holds.bytes

      rests_now : Rests g.seen may_leave (disk_of new) b
      rests_now = subst (Rests g.seen may_leave (disk_of new)) (λ k. row_made (kind_of (layout_in old.laid (same k))) (layout_in old.laid (same k)) z (is k) holds.bytes) rests

      made : LiesAs (written (kept_in y o)) (kept_in y o) (slots_with y z (op_length o)) b × (read_plain b (kept_in y o).index ≡ apply (read_plain holds.bytes y.index) o)
      made = let kept = kept_made y z holds.bytes o holds.lies holds.sound (may none) in (kept.lies, kept.plain)

      lies_now : LiesAs (written (layout_of new)) (layout_of new) (slots_of new) b
      lies_now = subst (λ w. LiesAs (written w) w (slots_of new) b) (sym laid) (subst (λ x. LiesAs (written (kept_in y o)) (kept_in y o) x b) (sym slots) made.0)

      pub sound_now : IsSound (layout_of new)
      sound_now = subst IsSound (sym laid) (sound_kept y o holds.sound (may none))

      plain_now : plain_of new ≡ read_plain b (index_of new)
      plain_now = ap (λ t. told_plain t (index_of new)) rests_now.bytes_are

      pub held_now : Holds g.seen may_leave new
      held_now = record {
        bytes = b;
        rests = rests_now;
        lies = lies_now;
        sound = sound_now;
        plain = plain_now;
        inside = subst (λ t. IfSome t (λ bytes. each_plain (within (length bytes)) (index_of new) ≡ index_of new)) (sym rests_now.bytes_are) (inside (written (layout_of new)) (layout_of new) (slots_of new) b lies_now sound_now);
        blank = some ∙ sym (kept_ops y o (slots_with y z (op_length o)) b made.0) ∙ ap (λ w. w.ops == 0) (sym laid);
        works = works;
        none = nothing;
      }

    -- it represents the plain state with the op
    pub applied_now : (new : Store D g) → Holds g.seen may_leave new → layout_of new ≡ kept_in y o → Rests g.seen may_leave (disk_of new) (row_made (kind_of (layout_in old.laid i)) (layout_in old.laid i) z body holds.bytes) → plain_of new ≡ apply (plain_of old) o
    applied_now new held laid rests =
        let kept = kept_made y z holds.bytes o holds.lies holds.sound (may none) in
        let b = row_made (kind_of y) y z (op_bytes o) holds.bytes in
        let told : g.seen (disk_of new) ≡ Some b = rests.bytes_are ∙ (λ k. Some (row_made (kind_of (layout_in old.laid (same k))) (layout_in old.laid (same k)) z (is k) holds.bytes)) in
        ap (λ t. told_plain t (index_of new)) told ∙ ap (λ w. read_plain b w.index) laid ∙ kept.plain ∙ ap (λ p. apply p o) (sym holds.plain)

-- ---- a store that stays ----

module _ {D : Type 0} {g : Ghosts D} (seen : D → Option (List ℕ)) (may_leave : D → List ℕ → Type 0) (moment : D → ℕ) (left_since : D → ℕ → List ℕ → Type 0) (now : (d : D) (c : List ℕ) → left_since d (moment d) c → may_leave d c) where
  -- of a store that holds a crash leaves what represents its plain state, where its disk is as it was
  pub same_leaves : (old : Store D g) (new : D) (q : Plain) → Holds seen may_leave old → Unchanged seen may_leave moment left_since (disk_of old) new → LeavesOnly moment left_since (disk_of old) new (StandsForEither (plain_of old) q)
  same_leaves old new q holds same =
      stays_on moment left_since seen may_leave (disk_of old) (disk_of old) new (StandsForEither (plain_of old) q)
      (started moment left_since (disk_of old) (StandsForEither (plain_of old) q) (λ c left. inl (images_stand seen may_leave old holds c (now (disk_of old) c left)))) same
