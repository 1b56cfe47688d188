-- All calls of an op: what a crash leaves, and what all of them make.
use Rattle.std.proofs.Common.{◌≡◌, ◌≢◌, ◌⊎◌, inl, inr, ⊎_elim, refl, ℕ, ◌+◌, ◌≤◌, ◌<◌, ◌==◌, ◌||◌, ◌&&◌, nat_le, List, [], ◌∷◌, length, get_or, Option, None, Some, Bool, true, false, cond, if◌then◌else◌, sym, ◌∙◌, ap, subst, arith}
use Rattle.std.proofs.lemmas.Bool.{or_parts, leb-true}
use Rattle.std.proofs.lemmas.Bool.Decides.{nat_tests}
use Rattle.ld_msg.specs.Register.{record_length}
use Rattle.ld_op.specs.declared.op.Op.{Op}
use Rattle.ld_op.specs.declared.record.Record.{Record}
use Rattle.ld_op.specs.declared.record.Record.TheVariants.{Now}
use Rattle.ld_op.specs.declared.version.Version.TheVariants.{Blank, First, Second}
use Rattle.ld_op.specs.Plain.{Plain, apply, op_length}
use Rattle.ld_op.specs.Records as stages
use Rattle.ld_op.specs.Records.{version_after, is_blank}
use Rattle.ld_op.specs.Bytes.{op_bytes}
use Rattle.ld_op.specs.Cells.{read_plain, placed}
use Rattle.ld_layout.specs.Base.{is_second_kind}
use Rattle.ld_layout.specs.Layout.{Layout, Segment, growth_told, kind_by, kind_of, gate_of, is_first, is_full_first, is_full_later, full_ops, new_segment, switched_to, switches, later_with, with_record, kept_in}
use Rattle.ld_disk.specs.Images.{Torn}
use Rattle.ld_journal.specs.Format.{behind}
use Rattle.ld_segment.specs.Left.{staged, IsRecordTorn}
use Rattle.ld_segment.specs.Bases.{HasNoLoss}
use Rattle.ld_segment.specs.Ops.{op_count, are_none}
use Rattle.ld_segment.specs.Lies.{Slots, after_base, IsIndexed, LiesAs, IsSound, StandsFor, StandsForEither, MayKeep, written, gate_in, segment_for, slots_after, slots_with, switched_bytes, with_body, IsAnySwitchTorn, IsTornBy, IsRowTorn, made_by, row_made}
use Rattle.ld_segment.proofs.Bodies.{record_long, blank_is, op_follows}
use Rattle.ld_segment.proofs.Standing.{Standing, off_record}
use Rattle.ld_segment.proofs.Sound.{Passes, passes_switch, less_room, sound_laid, sound_kept}
use Rattle.ld_segment.proofs.More.{more}
use Rattle.ld_segment.proofs.Kept.{LeftAs, Left, some_ops, written_more}
use Rattle.ld_segment.proofs.Limits.{limit_of, limit_stays, fits_area, limit_new}
use Rattle.ld_segment.proofs.Kept as kept
use Rattle.ld_segment.proofs.Switched as switched
use Rattle.ld_layout.specs.declared.segment.Growth.{Growth}
use Rattle.ld_layout.specs.declared.segment.Growth.TheVariants.{Still, Based, Wide}

some_full : (ops : ℕ) → (nat_le full_ops ops || false) ≡ true → (ops == 0) ≡ false
some_full ops is = by (nat_le full_ops ops) refl is
  where
    by : (b : Bool) → nat_le full_ops ops ≡ b → (b || false) ≡ true → (ops == 0) ≡ false
    by true le e = let many : full_ops ≤ ops = leb-true full_ops ops le in grind (arith, nat_tests)
    by false le e = absurd (cc e)

-- where there is an op there is a record
some_there : (rs : List Record) → (op_count rs == 0) ≡ false → are_none rs ≡ false
some_there [] is = absurd (cc is)
some_there (v ∷ rs) is = refl

-- ---- a layout with a record ----

abbrev shape : Layout → Option Segment → Op → Layout
shape y a o = record {
  ops = if is_first a then y.ops + 1 else y.ops;
  end = if is_first a then y.end + record_length (op_length o) else y.end;
  later = later_with a (op_length o);
  index = apply y.index (placed (gate_of y a + 5) o);
  grows = y.grows;
}

with_is : (y : Layout) (o : Op) → with_record y o ≡ more y y.later (limit_of y.later) (Now o)
unfolding with_record
with_is y o = by y.later
  where
    by : (a : Option Segment) → shape y a o ≡ more y a (limit_of a) (Now o)
    by None = refl
    by (Some g) = refl

switched_with : (y : Layout) (o : Op) (cause : ℕ) → with_record (switched_to y cause cause) o ≡ more (switched_to y cause 0) (switched_to y cause 0).later (new_segment y cause cause).limit (Now o)
unfolding with_record switched_to
switched_with y o cause = refl

-- ---- the first byte of a Base ----

kind_second : (grows : Growth) → is_second_kind (kind_by grows) ≡ true
kind_second Still = refl
kind_second Based = refl
kind_second Wide = refl

never_nine : (grows : Growth) → kind_by grows ≡ 9 → ⊥
never_nine Still nine = omega (arith, nine)
never_nine Based nine = omega (arith, nine)
never_nine Wide nine = omega (arith, nine)

kind_grows : (grows : Growth) → growth_told (kind_by grows) ≡ grows
kind_grows Still = refl
kind_grows Based = refl
kind_grows Wide = refl

module _ (y : Layout) (z : Slots) (b : List ℕ) (o : Op) (lies : LiesAs (written y) y z b) (sound : IsSound y) (may : MayKeep y o) where
  abbrev n : ℕ
  n = op_length o

  abbrev body : List ℕ
  body = op_bytes o

  abbrev p : Plain
  p = read_plain b y.index

  abbrev q : Plain
  q = apply p o

  as_it_is : Left p y z b
  as_it_is = record { lies = lies; plain = refl }

  as_written : (s : Plain) (l : Layout) (w : Slots) (c : List ℕ) → written l ≡ Second → LeftAs Second s l w c → Left s l w c
  as_written s l w c same left = subst (λ v. LeftAs v s l w c) (sym same) left

  follows : version_after (written y) (Now o) ≡ Some Second
  follows = op_follows o (y.ops == 0) may.format

  -- ---- in the current segment ----

  module _ (goes : switches y n ≡ false) where
    not_full : is_full_later n y.later ≡ false
    unfolding switches
    not_full = (or_parts (is_full_first y y.later) (is_full_later n y.later) goes).1

    pub apart : (k : ℕ) → Standing y y.later k → (k < gate_in y y.later) ⊎ (gate_in y y.later + 6 + length body ≤ k)
    apart k at = off_record y y.later (gate_in y y.later + 6 + length body) k sound.laid.live sound.laid.segment (fits_area y y.later (Now o) not_full) at

    here_version : written (more y y.later (limit_of y.later) (Now o)) ≡ Second
    here_version = written_more lies.first y z y.later lies.records b (limit_of y.later) o lies.index_is

    pub kept_here : more y y.later (limit_of y.later) (Now o) ≡ kept_in y o
    kept_here = sym (ap (λ t. with_record (cond t (switched_to y (record_length n) (record_length n)) y) o) goes ∙ with_is y o)

    pub here_staged : (c : List ℕ) → Torn (gate_in y y.later + 1) (length (behind body)) b c → Left p y z c
    here_staged c torn = kept.not_staged (written y) Second p y z b as_it_is sound (Now o) may.op follows (limit_of y.later) (limit_stays y.later (Now o) not_full) apart c torn

    -- what is staged is read where it will be
    pub here_early : read_plain (staged (gate_in y y.later) body b) (kept_in y o).index ≡ q
    here_early = subst (λ x. read_plain (staged (gate_in y y.later) body b) x.index ≡ q) kept_here
        (kept.early_read (written y) Second p y z b as_it_is sound (Now o) may.op follows (limit_of y.later) (limit_stays y.later (Now o) not_full) apart)

    pub here_shut : (c : List ℕ) → Torn (gate_in y y.later) 1 (staged (gate_in y y.later) body b) c → get_or c (gate_in y y.later) 0 ≢ 1 → Left p y z c
    here_shut c torn shut = kept.not_open (written y) Second p y z b as_it_is sound (Now o) may.op follows (limit_of y.later) (limit_stays y.later (Now o) not_full) apart c torn shut

    pub here_there : Left q (kept_in y o) z (with_body (gate_in y y.later) body b)
    here_there = subst (λ x. Left q x z (with_body (gate_in y y.later) body b)) kept_here (as_written q (more y y.later (limit_of y.later) (Now o)) z (with_body (gate_in y y.later) body b) here_version (kept.there (written y) Second p y z b as_it_is sound (Now o) may.op follows (limit_of y.later) (limit_stays y.later (Now o) not_full) apart))

    pub here_torn : (c : List ℕ) → IsRecordTorn (gate_in y y.later) body b c → Left p y z c ⊎ Left q (kept_in y o) z c
    here_torn c torn = ⊎_elim (λ without. inl without) (λ there. inr (subst (λ x. Left q x z c) kept_here (as_written q (more y y.later (limit_of y.later) (Now o)) z c here_version there)))
        (kept.torn_record (written y) Second p y z b as_it_is sound (Now o) may.op follows (limit_of y.later) (limit_stays y.later (Now o) not_full) apart c torn)

  -- ---- behind a switch ----

  module _ (is : switches y n ≡ true) where
    abbrev pub cause : ℕ
    cause = record_length n

    abbrev pub new : Layout
    new = switched_to y cause 0

    abbrev pub x : Slots
    x = slots_after y z y.later

    abbrev pub b1 : List ℕ
    b1 = switched_bytes (kind_of y) y z (segment_for y n) y.later b

    pub passes : Passes y (new_segment y cause 0)
    passes = less_room y cause 0 (omega arith) (passes_switch y o is may.fits)

    second_by : (a : Option Segment) → y.later ≡ a → (y.ops == 0) ≡ false
    unfolding switches
    second_by None e = some_full y.ops (sym (ap (λ t. is_full_first y t || is_full_later n t) e) ∙ is)
    second_by (Some g) e = some_ops lies.first y z g y.index b (subst (λ t. IsIndexed lies.first (written y) y z t lies.records b) e lies.index_is)

    pub kind_is : after_base (kind_of y) lies.first ≡ Some (written y)
    kind_is =
        let some = second_by y.later refl in
        let opened : is_blank lies.first ≡ false = blank_is lies.records lies.first lies.placed.version_is ∙ some_there lies.records (sym (ap (λ n. n == 0) lies.ops_is) ∙ some) in
        ap (λ t. cond t None (cond (is_second_kind (kind_of y)) (Some Second) (cond ((kind_of y == 9) && stages.is_first lies.first) (Some First) None))) opened
        ∙ ap (λ t. cond t (Some Second) (cond ((kind_of y == 9) && stages.is_first lies.first) (Some First) None)) (kind_second y.grows) ∙ ap (λ t. Some (cond t Blank Second)) (sym some)

    pub not_nine : kind_of y ≡ 9 → HasNoLoss y.index
    not_nine nine = absurd (never_nine y.grows nine)

    pub room_is : growth_told (kind_of y) ≡ y.grows
    room_is = kind_grows y.grows

    pub first_done : y.later ≡ None → Left p new (slots_after y z None) (switched_bytes (kind_of y) y z (segment_for y n) None b)
    unfolding switched_to
    first_done e = switched.first_done (written y) (kind_of y) y z b lies sound cause passes kind_is not_nine room_is e

    pub later_done : (g : Segment) → y.later ≡ Some g → Left p new (slots_after y z (Some g)) (switched_bytes (kind_of y) y z (segment_for y n) (Some g) b)
    unfolding switched_to
    later_done g e = switched.later_done (written y) (kind_of y) y z b lies sound cause passes kind_is not_nine room_is g e

    pub switch_done : Left p new x b1
    switch_done = by y.later refl
      where
        by : (a : Option Segment) → y.later ≡ a → Left p new (slots_after y z a) (switched_bytes (kind_of y) y z (segment_for y n) a b)
        by None e = first_done e
        by (Some g) e = later_done g e

    pub switch_torn : (c : List ℕ) → IsAnySwitchTorn (kind_of y) y z (segment_for y n) y.later b c → ((w : Slots) × Left p y w c) ⊎ (c ≡ b1)
    switch_torn c torn = by y.later refl torn
      where
        by : (a : Option Segment) → y.later ≡ a → IsAnySwitchTorn (kind_of y) y z (segment_for y n) a b c → ((w : Slots) × Left p y w c) ⊎ (c ≡ switched_bytes (kind_of y) y z (segment_for y n) a b)
        by None e t = ⊎_elim (λ old. inl (z, old)) (λ done. inr done) (switched.first_torn (written y) (kind_of y) y z b lies sound cause passes kind_is not_nine room_is e c t)
        by (Some g) e t = switched.later_torn (written y) (kind_of y) y z b lies sound cause passes kind_is not_nine room_is g e c t

    pub new_sound : IsSound new
    new_sound = sound_laid y o 0 sound (omega arith) may.fits is

    new_follows : version_after (written new) (Now o) ≡ Some Second
    unfolding switched_to
    new_follows = follows

    wide : IsSound (switched_to y cause cause)
    wide = sound_laid y o cause sound (omega arith) may.fits is

    new_apart : (k : ℕ) → Standing new new.later k → (k < gate_in new new.later) ⊎ (gate_in new new.later + 6 + length body ≤ k)
    unfolding switched_to
    new_apart k at =
        off_record (switched_to y cause cause) (Some (new_segment y cause cause)) ((new_segment y cause cause).end + 6 + length body) k wide.laid.live wide.laid.segment (omega (arith, record_long (Now o)))
        (⊎_elim (λ first. inl first) (λ later. ⊎_elim (λ this. inr (inl this))
        (λ other. inr (inr (record { place = other.place; length = other.length; found = other.found; not_first = other.not_first; not_this = other.not_this; from = other.from; below = other.below })))
        later) at)

    new_version : written (more new new.later (new_segment y cause cause).limit (Now o)) ≡ Second
    new_version = written_more switch_done.lies.first new x new.later switch_done.lies.records b1 (new_segment y cause cause).limit o switch_done.lies.index_is

    pub kept_there : more new new.later (new_segment y cause cause).limit (Now o) ≡ kept_in y o
    kept_there = sym (ap (λ t. with_record (cond t (switched_to y (record_length n) (record_length n)) y) o) is ∙ switched_with y o cause)

    pub gate_is : gate_in new new.later ≡ (segment_for y n).end
    unfolding switched_to
    gate_is = refl

    pub new_staged : (c : List ℕ) → Torn ((segment_for y n).end + 1) (length (behind body)) b1 c → Left p new x c
    new_staged c torn = kept.not_staged (written new) Second p new x b1 switch_done new_sound (Now o) may.op new_follows (new_segment y cause cause).limit (limit_new y (Now o)) new_apart c (subst (λ k. Torn (k + 1) (length (behind body)) b1 c) (sym gate_is) torn)

    pub new_early : read_plain (staged (segment_for y n).end body b1) (kept_in y o).index ≡ q
    new_early = subst (λ k. read_plain (staged k body b1) (kept_in y o).index ≡ q) gate_is
        (subst (λ l. read_plain (staged (gate_in new new.later) body b1) l.index ≡ q) kept_there
        (kept.early_read (written new) Second p new x b1 switch_done new_sound (Now o) may.op new_follows (new_segment y cause cause).limit (limit_new y (Now o)) new_apart))

    pub new_shut : (c : List ℕ) → Torn (segment_for y n).end 1 (staged (segment_for y n).end body b1) c → get_or c (segment_for y n).end 0 ≢ 1 → Left p new x c
    new_shut c torn shut = kept.not_open (written new) Second p new x b1 switch_done new_sound (Now o) may.op new_follows (new_segment y cause cause).limit (limit_new y (Now o)) new_apart c
        (subst (λ k. Torn k 1 (staged k body b1) c) (sym gate_is) torn) (subst (λ k. get_or c k 0 ≢ 1) (sym gate_is) shut)

    pub new_there : Left q (kept_in y o) x (with_body (segment_for y n).end body b1)
    new_there = subst (λ k. Left q (kept_in y o) x (with_body k body b1)) gate_is
        (subst (λ l. Left q l x (with_body (gate_in new new.later) body b1)) kept_there (as_written q (more new new.later (new_segment y cause cause).limit (Now o)) x (with_body (gate_in new new.later) body b1) new_version (kept.there (written new) Second p new x b1 switch_done new_sound (Now o) may.op new_follows (new_segment y cause cause).limit (limit_new y (Now o)) new_apart)))

    pub new_torn : (c : List ℕ) → IsRecordTorn (segment_for y n).end body b1 c → Left p new x c ⊎ Left q (kept_in y o) x c
    new_torn c torn = ⊎_elim (λ without. inl without) (λ there. inr (subst (λ l. Left q l x c) kept_there (as_written q (more new new.later (new_segment y cause cause).limit (Now o)) x c new_version there)))
        (kept.torn_record (written new) Second p new x b1 switch_done new_sound (Now o) may.op new_follows (new_segment y cause cause).limit (limit_new y (Now o)) new_apart c (subst (λ k. IsRecordTorn k body b1 c) (sym gate_is) torn))

  -- ---- all calls ----

  pub stands : (s : Plain) (l : Layout) (w : Slots) (c : List ℕ) → IsSound l → Left s l w c → StandsFor s c
  stands s l w c is_sound left = record { version = written l; layout = l; slots = w; lies = left.lies; sound = is_sound; plain = sym left.plain }

  or_not_by : (t : Bool) → switches y n ≡ t → (c : List ℕ) → IsTornBy (kind_of y) y z body b c n t → StandsForEither p q c
  or_not_by true is c torn = ⊎_elim
      (λ switch. ⊎_elim (λ old. inl (stands p y old.0 c sound old.1)) (λ done. inl (stands p (new is) (x is) c (new_sound is) (subst (λ l. Left p (new is) (x is) l) (sym done) (switch_done is)))) (switch_torn is c switch))
      (λ record_torn. ⊎_elim (λ without. inl (stands p (new is) (x is) c (new_sound is) without)) (λ there. inr (stands q (kept_in y o) (x is) c (sound_kept y o sound may) there)) (new_torn is c record_torn))
      torn
  or_not_by false goes c torn = ⊎_elim (λ without. inl (stands p y z c sound without)) (λ there. inr (stands q (kept_in y o) z c (sound_kept y o sound may) there)) (here_torn goes c torn)

  -- a crash leaves the state as it was, or with the op
  pub kept_or_not : (c : List ℕ) → IsRowTorn (kind_of y) y z body b c → StandsForEither p q c
  kept_or_not c torn = or_not_by (switches y n) refl c (subst (λ m. IsTornBy (kind_of y) y z body b c m (switches y m)) (record_long (Now o)) torn)

  made_here : (t : Bool) → switches y n ≡ t → Left q (kept_in y o) (if t then slots_after y z y.later else z) (made_by (kind_of y) y z body b n t)
  made_here true is = new_there is
  made_here false goes = here_there goes

  -- all calls made leave it with the op
  pub kept_made : Left q (kept_in y o) (slots_with y z n) (row_made (kind_of y) y z body b)
  kept_made = subst (λ m. Left q (kept_in y o) (slots_with y z n) (made_by (kind_of y) y z body b m (switches y m))) (sym (record_long (Now o))) (made_here (switches y n) refl)
