-- A store on which ops may be staged: what it holds, and what its calls leave.
use Rattle.std.proofs.Common.{◌≡◌, ◌⊎◌, inl, inr, refl, ℕ, ◌==◌, List, length, Option, None, Some, Bool, true, false, is_some, sym, ◌∙◌, ap, subst}
use Rattle.std.specs.Prelude.{IfSome}
use Rattle.ld_disk.specs.declared.disk.Disk.{Ghosts}
use Rattle.ld_disk.specs.Moments.{LeavesOnly, Unchanged}
use Rattle.ld_disk.proofs.Runs.{started, stays_on}
use Rattle.ld_op.specs.declared.op.Op.{Op}
use Rattle.ld_op.specs.Plain.{Plain, apply, op_length}
use Rattle.ld_op.specs.Records.{is_format}
use Rattle.ld_op.specs.Bounds.{IsOp}
use Rattle.ld_op.specs.Bytes.{op_bytes}
use Rattle.ld_op.specs.Cells.{each_plain, read_plain}
use Rattle.ld_layout.specs.Layout.{Layout, kept_in, passes_limit, kind_of}
use Rattle.ld_segment.specs.Stays.{Rests}
use Rattle.ld_segment.specs.Lies.{Slots, LiesAs, IsSound, StandsFor, StandsForEither, MayKeep, written, slots_with}
use Rattle.ld_segment.specs.Groups.{IsStaged, IsGroupTorn, opened_at}
use Rattle.ld_segment.proofs.Groups as groups
use Rattle.ld_store.specs.Laid.{layout_in, IsPast}
use Rattle.ld_store.specs.Group.{IsGroupOn, IsGroupWith}
use Rattle.ld_store.specs.Open.{disk_of, must_load, is_blank, staged_of, index_of, layout_of, slots_of, plain_of, told_plain, within, Holds}
use Rattle.ld_store.specs.Ahead.{IsAhead, HoldsOr}
use Rattle.ld_store.specs.declared.store.Store.{Store}
use Rattle.ld_store.proofs.Inside.{inside}
use Rattle.ld_store.proofs.Applying.{is_full, is_within, kept_ops}
use Rattle.ld_store.proofs.Staging.{group_stands, group_too, opened_plain, open_torn}

pub none_if : (o : Option ℕ) (b : Bool) → b ≡ is_some o → b ≡ false → o ≡ None
none_if None b is off = refl
none_if (Some gate) b is off = absurd (let e : false ≡ true = sym off ∙ is in cc e)

-- a test decides
pub or_holds : {A H : Type 0} (b : Bool) → (b ≡ true → A) → (b ≡ false → H) → A ⊎ H
or_holds true first other = inl (first refl)
or_holds false first other = inr (other refl)

-- the layout lies in some bytes: those that are safe, or those that are read with the group's gate open
record Lies (y : Layout) (z : Slots) : Type 0 where
  pub bytes : List ℕ
  pub lies : LiesAs (written y) y z bytes
  pub sound : IsSound y

module _ {D : Type 0} (seen : D → Option (List ℕ)) (may_leave : D → List ℕ → Type 0) (disk : D) (p : Plain) (y : Layout) (z : Slots) where
  some_lie : (first : Option ℕ) → IsGroupOn seen may_leave disk first p y z → Lies y z
  some_lie None safe = record { bytes = safe.bytes; lies = safe.lies; sound = safe.sound }
  some_lie (Some gate) s = record { bytes = opened_at gate s.shown; lies = s.group.lies; sound = s.group.sound }

  -- payloads stand before the end of what is read
  pub staged_inside : (gate : ℕ) → IsStaged seen may_leave disk gate p y z → IfSome (seen disk) (λ bytes. each_plain (within (length bytes)) y.index ≡ y.index)
  staged_inside gate s =
      let whole = opened_at gate s.shown in
      let long : length whole ≡ length s.shown = groups.long p y z gate s.safe s.shown s.group in
      subst (λ t. IfSome t (λ bytes. each_plain (within (length bytes)) y.index ≡ y.index)) (sym s.tears.bytes_are)
      (subst (λ n. each_plain (within n) y.index ≡ y.index) long (inside (written y) y z whole s.group.lies s.group.sound))

module _ {D : Type 0} {g : Ghosts D} (seen : D → Option (List ℕ)) (may_leave : D → List ℕ → Type 0) where
  -- ---- what it holds ----

  pub to_group : (store : Store D g) (p : Plain) → HoldsOr seen may_leave store p → IsGroupOn seen may_leave (disk_of store) (staged_of store) p (layout_of store) (slots_of store)
  to_group store p (inl h) = subst (λ s. IsGroupOn seen may_leave (disk_of store) s p (layout_of store) (slots_of store)) (sym h.0.none)
      (record { bytes = h.0.bytes; rests = h.0.rests; lies = h.0.lies; sound = h.0.sound; plain = h.1 ∙ h.0.plain })
  to_group store p (inr a) = subst (λ s. IsGroupOn seen may_leave (disk_of store) s p (layout_of store) (slots_of store)) (sym a.staged_is) a.staged

  pub ahead_works : (store : Store D g) (p : Plain) → HoldsOr seen may_leave store p → must_load store ≡ false
  ahead_works store p (inl h) = h.0.works
  ahead_works store p (inr a) = a.works

  pub ahead_blank : (store : Store D g) (p : Plain) → HoldsOr seen may_leave store p → is_blank store ≡ ((layout_of store).ops == 0)
  ahead_blank store p (inl h) = h.0.blank
  ahead_blank store p (inr a) = a.blank

  pub told_inside : (store : Store D g) (p : Plain) → HoldsOr seen may_leave store p → IfSome (seen (disk_of store)) (λ bytes. each_plain (within (length bytes)) (index_of store) ≡ index_of store)
  told_inside store p (inl h) = h.0.inside
  told_inside store p (inr a) = a.inside

  pub told_bytes : (store : Store D g) (p : Plain) → HoldsOr seen may_leave store p → (bytes : List ℕ) × (seen (disk_of store) ≡ Some bytes)
  told_bytes store p (inl h) = (h.0.bytes, h.0.rests.bytes_are)
  told_bytes store p (inr a) = (a.staged.shown, a.staged.tears.bytes_are)

  -- a crash leaves what represents the plain state
  pub leaves_stand : (store : Store D g) (p : Plain) → HoldsOr seen may_leave store p → (c : List ℕ) → may_leave (disk_of store) c → StandsFor p c
  leaves_stand store p h = group_stands seen may_leave (disk_of store) (staged_of store) p (layout_of store) (slots_of store) (to_group store p h)

  -- where nothing is staged
  pub holds_of : (store : Store D g) (p : Plain) → staged_of store ≡ None → HoldsOr seen may_leave store p → Holds seen may_leave store × (p ≡ plain_of store)
  holds_of store p none (inl h) = h
  holds_of store p none (inr a) = absurd (let e : None ≡ Some a.gate = sym none ∙ a.staged_is in cc e)

  -- ---- a call that changes nothing ----

  module _ (old new : Store D g) (p : Plain) (bytes : seen (disk_of new) ≡ seen (disk_of old)) (from : (c : List ℕ) → may_leave (disk_of new) c → may_leave (disk_of old) c)
      (laid : layout_of new ≡ layout_of old) (slots : slots_of new ≡ slots_of old) (same : staged_of new ≡ staged_of old) (blank : is_blank new ≡ is_blank old) (works : must_load new ≡ false) (plain : plain_of new ≡ plain_of old) where
    inside_too : IfSome (seen (disk_of old)) (λ b. each_plain (within (length b)) (index_of old) ≡ index_of old) → IfSome (seen (disk_of new)) (λ b. each_plain (within (length b)) (index_of new) ≡ index_of new)
    inside_too was = subst (λ t. IfSome t (λ b. each_plain (within (length b)) (index_of new) ≡ index_of new)) (sym bytes)
        (subst (λ (l : Layout). IfSome (seen (disk_of old)) (λ b. each_plain (within (length b)) l.index ≡ l.index)) (sym laid) was)

    blank_too : is_blank old ≡ ((layout_of old).ops == 0) → is_blank new ≡ ((layout_of new).ops == 0)
    blank_too was = blank ∙ was ∙ ap (λ (l : Layout). l.ops == 0) (sym laid)

    pub ahead_too : HoldsOr seen may_leave old p → HoldsOr seen may_leave new p
    ahead_too (inl h) = inl (
      record {
        bytes = h.0.bytes;
        rests = record { bytes_are = bytes ∙ h.0.rests.bytes_are; stable = λ c left. h.0.rests.stable c (from c left) };
        lies = subst (λ l. LiesAs (written l) l (slots_of new) h.0.bytes) (sym laid) (subst (λ x. LiesAs (written (layout_of old)) (layout_of old) x h.0.bytes) (sym slots) h.0.lies);
        sound = subst IsSound (sym laid) h.0.sound;
        plain = plain ∙ h.0.plain ∙ ap (λ (l : Layout). read_plain h.0.bytes l.index) (sym laid);
        inside = inside_too h.0.inside;
        blank = blank_too h.0.blank;
        works = works;
        none = same ∙ h.0.none;
      },
      h.1 ∙ sym plain,
    )
    ahead_too (inr a) = inr (record {
      gate = a.gate;
      staged_is = same ∙ a.staged_is;
      staged = subst (λ l. IsStaged seen may_leave (disk_of new) a.gate p l (slots_of new)) (sym laid) (subst (λ x. IsStaged seen may_leave (disk_of new) a.gate p (layout_of old) x) (sym slots)
          (group_too seen may_leave (disk_of old) (disk_of new) (Some a.gate) p (layout_of old) (slots_of old) bytes from a.staged));
      inside = inside_too a.inside;
      blank = blank_too a.blank;
      works = works;
    })

  module _ (moment : D → ℕ) (left_since : D → ℕ → List ℕ → Type 0) (now : (d : D) (c : List ℕ) → left_since d (moment d) c → may_leave d c) where
    -- a crash leaves what represents its plain state, before any call and where its disk is as it was
    pub still_stands : (old : Store D g) (p q : Plain) → HoldsOr seen may_leave old p → LeavesOnly moment left_since (disk_of old) (disk_of old) (StandsForEither p q)
    still_stands old p q h = started moment left_since (disk_of old) (StandsForEither p q) (λ c left. inl (leaves_stand old p h c (now (disk_of old) c left)))

    pub same_stands : (old : Store D g) (new : D) (p q : Plain) → HoldsOr seen may_leave old p → Unchanged seen may_leave moment left_since (disk_of old) new → LeavesOnly moment left_since (disk_of old) new (StandsForEither p q)
    same_stands old new p q h same =
        stays_on moment left_since seen may_leave (disk_of old) (disk_of old) new (StandsForEither p q) (still_stands old p q h) same

-- ---- an op that is staged ----

module _ {D : Type 0} {g : Ghosts D} (may_leave : D → List ℕ → Type 0) (old : Store D g) (o : Op) (i : Plain) (body : List ℕ) (same : i ≡ index_of old) (is : body ≡ op_bytes o) (p : Plain) (h : HoldsOr g.seen may_leave old p) (op : IsOp o) (format : is_format o ≡ is_blank old) where
  abbrev y : Layout
  y = layout_of old

  abbrev z : Slots
  z = slots_of old

  kind_is : is_format o ≡ (y.ops == 0)
  kind_is = format ∙ ahead_blank g.seen may_leave old p h

  has : Lies y z
  has = some_lie g.seen may_leave (disk_of old) p y z (staged_of old) (to_group g.seen may_leave old p h)

  pub full_then : IsPast (kind_of (layout_in old.laid i)) (layout_in old.laid i) z body → passes_limit y o ≡ true
  full_then past = is_full y z o has.bytes has.lies has.sound op kind_is (subst (λ l. IsPast (kind_of y) y z l) is (subst (λ k. IsPast (kind_of (layout_in old.laid k)) (layout_in old.laid k) z body) same past))

  pub group_in : IsGroupOn g.seen may_leave (disk_of old) (staged_of old) p (layout_in old.laid i) z
  group_in = subst (λ k. IsGroupOn g.seen may_leave (disk_of old) (staged_of old) p (layout_in old.laid k) z) (sym same) (to_group g.seen may_leave old p h)

  pub may_in : (IsPast (kind_of (layout_in old.laid i)) (layout_in old.laid i) z body → ⊥) → MayKeep (layout_in old.laid i) o
  may_in none = subst (λ k. MayKeep (layout_in old.laid k) o) (sym same) (record { op = op; format = kind_is; fits = is_within old.laid z o i (index_of old) body same is none })

  pub leaves_in : (moment : D → ℕ) (left_since : D → ℕ → List ℕ → Type 0) (new : D) → LeavesOnly moment left_since (disk_of old) new (StandsForEither p (told_plain (g.seen (disk_of old)) i)) → LeavesOnly moment left_since (disk_of old) new (StandsForEither p (plain_of old))
  leaves_in moment left_since new leaves = subst (λ k. LeavesOnly moment left_since (disk_of old) new (StandsForEither p (told_plain (g.seen (disk_of old)) k))) same leaves

  module _ (new : Store D g) (first : ℕ) (with_it : IsGroupWith g.seen may_leave (disk_of old) (disk_of new) first p (layout_in old.laid i) z o) (staged : staged_of new ≡ Some first)
      (laid : layout_of new ≡ kept_in y o) (slots : slots_of new ≡ slots_with y z (op_length o)) (some : is_blank new ≡ false) (works : must_load new ≡ false) where
    with_now : IsGroupWith g.seen may_leave (disk_of old) (disk_of new) first p y z o
    with_now = subst (λ k. IsGroupWith g.seen may_leave (disk_of old) (disk_of new) first p (layout_in old.laid k) z o) same with_it

    abbrev s : IsStaged g.seen may_leave (disk_of new) first with_now.q (kept_in y o) (slots_with y z (op_length o))
    s = with_now.staged

    staged_now : IsStaged g.seen may_leave (disk_of new) first with_now.q (layout_of new) (slots_of new)
    staged_now = subst (λ l. IsStaged g.seen may_leave (disk_of new) first with_now.q l (slots_of new)) (sym laid) (subst (λ x. IsStaged g.seen may_leave (disk_of new) first with_now.q (kept_in y o) x) (sym slots) s)

    ahead_now : IsAhead g.seen may_leave new with_now.q
    ahead_now = record {
      gate = first;
      staged_is = staged;
      staged = staged_now;
      inside = staged_inside g.seen may_leave (disk_of new) with_now.q (layout_of new) (slots_of new) first staged_now;
      blank = some ∙ sym (kept_ops y o (slots_with y z (op_length o)) (opened_at first s.shown) s.group.lies) ∙ ap (λ (l : Layout). l.ops == 0) (sym laid);
      works = works;
    }

    pub staged_on : (q : Plain) × ((q ≡ p) ⊎ (q ≡ plain_of old)) × HoldsOr g.seen may_leave new q
    staged_on = (with_now.q, with_now.either, inr ahead_now)

  pub applied_on : (new : D) (first : ℕ) (now : Layout) → IsGroupWith g.seen may_leave (disk_of old) new first p (layout_in old.laid i) z o → now ≡ kept_in y o → told_plain (g.seen new) now.index ≡ apply (plain_of old) o
  applied_on new first now with_it laid =
      let here : IsGroupWith g.seen may_leave (disk_of old) new first p y z o = subst (λ k. IsGroupWith g.seen may_leave (disk_of old) new first p (layout_in old.laid k) z o) same with_it in
      ap (λ (l : Layout). told_plain (g.seen new) l.index) laid ∙ here.plain

-- ---- all that is staged made durable ----

module _ {D : Type 0} {g : Ghosts D} (may_leave : D → List ℕ → Type 0) (old : Store D g) (p : Plain) (h : HoldsOr g.seen may_leave old p) (gate : ℕ) (staged : staged_of old ≡ Some gate) where
  -- what is staged, on a disk that is as it was
  pub staged_there : (mid : D) → g.seen mid ≡ g.seen (disk_of old) → ((c : List ℕ) → may_leave mid c → may_leave (disk_of old) c) → IsStaged g.seen may_leave mid gate p (layout_of old) (slots_of old)
  staged_there mid same from =
      group_too g.seen may_leave (disk_of old) mid (Some gate) p (layout_of old) (slots_of old) same from
      (subst (λ t. IsGroupOn g.seen may_leave (disk_of old) t p (layout_of old) (slots_of old)) staged (to_group g.seen may_leave old p h))

  module _ (mid : D) (same : g.seen mid ≡ g.seen (disk_of old)) (s : IsStaged g.seen may_leave mid gate p (layout_of old) (slots_of old)) where
    now_is : told_plain (g.seen mid) (index_of old) ≡ plain_of old
    now_is = ap (λ t. told_plain t (index_of old)) same

    pub either_stands : may_leave mid s.shown → (c : List ℕ) → IsGroupTorn gate s.size s.safe s.shown c → StandsForEither p (plain_of old) c
    either_stands reads c torn = subst (λ q. StandsForEither p q c) now_is (open_torn g.seen may_leave p (layout_of old) (slots_of old) mid gate s reads c torn)

    pub plain_now : (new : D) → Rests g.seen may_leave new (opened_at gate s.shown) → told_plain (g.seen new) (index_of old) ≡ plain_of old
    plain_now new rests = opened_plain g.seen may_leave p (layout_of old) (slots_of old) mid gate s new rests ∙ now_is

    module _ (new : Store D g) (rests : Rests g.seen may_leave (disk_of new) (opened_at gate s.shown)) (laid : layout_of new ≡ layout_of old) (slots : slots_of new ≡ slots_of old) (blank : is_blank new ≡ is_blank old) (works : must_load new ≡ false) (none : staged_of new ≡ None) where
      pub holds_now : Holds g.seen may_leave new
      holds_now = record {
        bytes = opened_at gate s.shown;
        rests = rests;
        lies = subst (λ l. LiesAs (written l) l (slots_of new) (opened_at gate s.shown)) (sym laid) (subst (λ x. LiesAs (written (layout_of old)) (layout_of old) x (opened_at gate s.shown)) (sym slots) s.group.lies);
        sound = subst IsSound (sym laid) s.group.sound;
        plain = ap (λ t. told_plain t (index_of new)) rests.bytes_are;
        inside = subst (λ t. IfSome t (λ b. each_plain (within (length b)) (index_of new) ≡ index_of new)) (sym rests.bytes_are)
            (subst (λ (l : Layout). each_plain (within (length (opened_at gate s.shown))) l.index ≡ l.index) (sym laid) (inside (written (layout_of old)) (layout_of old) (slots_of old) (opened_at gate s.shown) s.group.lies s.group.sound));
        blank = blank ∙ ahead_blank g.seen may_leave old p h ∙ ap (λ (l : Layout). l.ops == 0) (sym laid);
        works = works;
        none = none;
      }
