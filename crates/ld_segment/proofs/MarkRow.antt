-- The calls of a mark: whatever they leave represents the plain state as it was, and all of them make the journal one of the second version.
use Rattle.std.proofs.Common.{◌≡◌, ◌⊎◌, inl, inr, ⊎_elim, refl, ℕ, ◌+◌, ◌≤◌, ◌<◌, ◌^◌, ◌||◌, nat_le, nat_lt, List, [], ◌∷◌, length, Option, None, Some, is_none, Bool, true, false, cond, if◌then◌else◌, sym, ◌∙◌, ap, subst, arith}
use Rattle.std.proofs.lemmas.Bool.{or_parts, leb-false, ltb-false}
use Rattle.ld_msg.specs.Register.{journal_limit}
use Rattle.ld_op.specs.declared.record.Record.TheVariants.{Mark}
use Rattle.ld_op.specs.declared.version.Version.TheVariants.{First, Second}
use Rattle.ld_op.specs.Plain.{Plain}
use Rattle.ld_op.specs.Bytes.{record_bytes}
use Rattle.ld_op.specs.Cells.{read_plain}
use Rattle.ld_layout.specs.Areas.{AreLive, IsHeld}
use Rattle.ld_layout.specs.Layout.{Layout, Segment, base_length, used, closed_areas, live_areas, is_full_first, is_full_later, new_segment, switched_to, switches, IfSegment}
use Rattle.ld_layout.proofs.Grows.{old_inside}
use Rattle.ld_segment.specs.Left.{IsRecordTorn}
use Rattle.ld_segment.specs.Bases.{HasNoLoss}
use Rattle.ld_segment.specs.Lies.{Slots, after_base, LiesAs, IsSound, IfBounded, StandsFor, gate_in, segment_for, slots_after, slots_with, switched_bytes, with_body, IsAnySwitchTorn, IsTornBy, IsRowTorn, made_by, row_made, marked_later, with_mark, marked_in, mark_passes_in, mark_passes}
use Rattle.ld_segment.proofs.Standing.{Standing, off_record}
use Rattle.ld_segment.proofs.Sound.{Passes, less_room, behind_head, sound_switched, not_left, goes_on}
use Rattle.ld_segment.proofs.More.{more}
use Rattle.ld_segment.proofs.Kept.{LeftAs}
use Rattle.ld_segment.proofs.NoLoss.{first_opening, first_none}
use Rattle.ld_segment.proofs.Before.{first_laid}
use Rattle.ld_segment.proofs.Limits.{limit_of, some_room, not_past, limit_stays, fits_area, limit_new}
use Rattle.ld_segment.specs.Plans.{planned, planned_end}
use Rattle.ld_segment.proofs.Planning.{plan_fits}
use Rattle.ld_segment.proofs.Kept as kept
use Rattle.ld_segment.proofs.Switched as switched
use Rattle.ld_layout.specs.declared.segment.Growth.TheVariants.{Still}

-- ---- a layout with a mark ----

abbrev shape : Layout → Option Segment → Layout
shape y a = record { ops = y.ops; end = if is_none a then y.end + 7 else y.end; later = marked_later a; index = y.index; grows = y.grows }

with_is : (y : Layout) → more y y.later (limit_of y.later) Mark ≡ with_mark y
with_is y = by y.later
  where
    by : (a : Option Segment) → more y a (limit_of a) Mark ≡ shape y a
    by None = let ops : y.ops + 0 ≡ y.ops = omega arith in λ i. record { ops = ops i; end = y.end + 7; later = None; index = y.index; grows = y.grows }
    by (Some g) = let ops : g.ops + 0 ≡ g.ops = omega arith in λ i. record { ops = y.ops; end = y.end; later = Some (record g { ops = ops i; end = g.end + 7 }); index = y.index; grows = y.grows }

switched_with : (y : Layout) → more (switched_to y 7 0) (switched_to y 7 0).later (new_segment y 7 7).limit Mark ≡ with_mark (switched_to y 7 7)
unfolding switched_to
switched_with y = refl

-- ---- it stays sound ----

held_more : (y : Layout) (a : Option Segment) (q : List ℕ) → IfSegment a → IsHeld q (closed_areas y a) → IsHeld q (closed_areas (shape y a) (marked_later a))
held_more y None [] segment held = tt
held_more y None (k ∷ ks) segment held = old_inside y 2 None (k ∷ ks) segment held
held_more y (Some g) [] segment held = tt
held_more y (Some g) (k ∷ ks) segment held = old_inside y 2 (Some g) (k ∷ ks) segment held

laid_more : (y : Layout) (a : Option Segment) → AreLive (live_areas y a) → IfSegment a → is_full_later 2 a ≡ false → AreLive (live_areas (shape y a) (marked_later a)) × IfSegment (marked_later a)
laid_more y None live segment goes = ((first_laid y.ops (y.end + 7) y.index y.grows).live, tt)
laid_more y (Some g) live segment goes = (live, record { behind = segment.behind; begun = omega (arith, segment.begun); within = omega (arith, not_past g Mark goes); ordered = segment.ordered })

bounded_more : (y : Layout) (a : Option Segment) → IfBounded y.end a → IfBounded (shape y a).end (marked_later a)
bounded_more y None bounded = tt
bounded_more y (Some g) bounded = record { number = bounded.number; limit = bounded.limit; ends = bounded.ends; first = bounded.first }

not_full : (y : Layout) → switches y 2 ≡ false → is_full_later 2 y.later ≡ false
unfolding switches
not_full y goes = (or_parts (is_full_first y y.later) (is_full_later 2 y.later) goes).1

sound_mark : (y : Layout) → IsSound y → switches y 2 ≡ false → IsSound (with_mark y)
sound_mark y sound goes =
    let laid = laid_more y y.later sound.laid.live sound.laid.segment (not_full y goes) in
    record {
      laid = record { live = laid.0; segment = laid.1 };
      held = λ l n g e q at_l at_n is. held_more y y.later q sound.laid.segment (sound.held l n g e q at_l at_n is);
      index = sound.index;
      bounded = bounded_more y y.later sound.bounded;
    }

passes_switch : (y : Layout) → switches y 2 ≡ true → mark_passes y ≡ false → Passes y (new_segment y 7 7)
unfolding switched_to
passes_switch y is fits =
    let g : Segment = new_segment y 7 7 in
    let there : mark_passes_in y (Some g) ≡ false = sym (ap (λ b. mark_passes_in y (cond b (switched_to y 7 7) y).later) is) ∙ fits in
    let long = not_left (switches y 2) (nat_lt journal_limit g.limit || (nat_le (2 ^ 32) (base_length y.index g.areas) || nat_le (2 ^ 64) g.number)) is there in
    let parts = or_parts (nat_lt journal_limit g.limit) (nat_le (2 ^ 32) (base_length y.index g.areas) || nat_le (2 ^ 64) g.number) long in
    let more = or_parts (nat_le (2 ^ 32) (base_length y.index g.areas)) (nat_le (2 ^ 64) g.number) parts.1 in
    record { limit = ltb-false journal_limit g.limit parts.0; fits = leb-false (2 ^ 32) (base_length y.index g.areas) more.0; number = leb-false (2 ^ 64) g.number more.1 }

sound_new : (y : Layout) (room : ℕ) → IsSound y → room ≤ 7 → switches y 2 ≡ true → mark_passes y ≡ false → IsSound (switched_to y 7 room)
sound_new y room sound less is fits =
    let passes = passes_switch y is fits in
    sound_switched y 7 room sound less (omega (arith, behind_head y 7 7 sound.laid (omega arith), passes.limit)) (less_room y 7 room less passes)

sound_by : (y : Layout) (b : Bool) → switches y 2 ≡ b → IsSound y → mark_passes y ≡ false → IsSound (cond b (with_mark (switched_to y 7 7)) (with_mark y))
sound_by y true is sound fits = sound_mark (switched_to y 7 7) (sound_new y 7 sound (omega arith) is fits) (goes_on y 2)
sound_by y false goes sound fits = sound_mark y sound goes

pub sound_marked : (y : Layout) → IsSound y → mark_passes y ≡ false → IsSound (marked_in y)
sound_marked y sound fits = sound_by y (switches y 2) refl sound fits

module _ (y : Layout) (z : Slots) (b : List ℕ) (lies : LiesAs First y z b) (sound : IsSound y) (fits : mark_passes y ≡ false) (still : y.grows ≡ Still) where
  abbrev body : List ℕ
  body = record_bytes Mark

  abbrev p : Plain
  p = read_plain b y.index

  as_it_is : LeftAs First p y z b
  as_it_is = record { lies = lies; plain = refl }

  -- ---- in the current segment ----

  module _ (goes : switches y 2 ≡ false) where
    apart : (k : ℕ) → Standing y y.later k → (k < gate_in y y.later) ⊎ (gate_in y y.later + 6 + length body ≤ k)
    apart k at = off_record y y.later (gate_in y y.later + 6 + length body) k sound.laid.live sound.laid.segment (fits_area y y.later Mark (not_full y goes)) at

    marked_here : more y y.later (limit_of y.later) Mark ≡ marked_in y
    marked_here = with_is y ∙ sym (ap (λ t. cond t (with_mark (switched_to y 7 7)) (with_mark y)) goes)

    here_there : LeftAs Second p (marked_in y) z (with_body (gate_in y y.later) body b)
    here_there = subst (λ l. LeftAs Second p l z (with_body (gate_in y y.later) body b)) marked_here (kept.there First Second p y z b as_it_is sound Mark tt refl (limit_of y.later) (limit_stays y.later Mark (not_full y goes)) apart)

    here_torn : (c : List ℕ) → IsRecordTorn (gate_in y y.later) body b c → LeftAs First p y z c ⊎ LeftAs Second p (marked_in y) z c
    here_torn c torn = ⊎_elim (λ without. inl without) (λ there. inr (subst (λ l. LeftAs Second p l z c) marked_here there))
        (kept.torn_record First Second p y z b as_it_is sound Mark tt refl (limit_of y.later) (limit_stays y.later Mark (not_full y goes)) apart c torn)

  -- ---- behind a switch ----

  module _ (is : switches y 2 ≡ true) where
    abbrev new : Layout
    new = switched_to y 7 0

    abbrev x : Slots
    x = slots_after y z y.later

    abbrev b1 : List ℕ
    b1 = switched_bytes 9 y z (segment_for y 2) y.later b

    passes : Passes y (new_segment y 7 0)
    passes = less_room y 7 0 (omega arith) (passes_switch y is fits)

    kind_is : after_base 9 lies.first ≡ Some First
    kind_is = ap (λ w. after_base 9 w) (first_opening y z b y.later lies.first lies.records lies.index_is)

    older : ◌≡◌ {A = ℕ} 9 9 → HasNoLoss y.index
    older nine = first_none y z b y.later lies.first lies.records lies.placed lies.index_is

    switch_done : LeftAs First p new x b1
    switch_done = by y.later refl
      where
        by : (a : Option Segment) → y.later ≡ a → LeftAs First p new (slots_after y z a) (switched_bytes 9 y z (segment_for y 2) a b)
        by None e = switched.first_done First 9 y z b lies sound 7 passes kind_is older (sym still) e
        by (Some g) e = switched.later_done First 9 y z b lies sound 7 passes kind_is older (sym still) g e

    switch_torn : (c : List ℕ) → IsAnySwitchTorn 9 y z (segment_for y 2) y.later b c → ((w : Slots) × LeftAs First p y w c) ⊎ (c ≡ b1)
    switch_torn c torn = by y.later refl torn
      where
        by : (a : Option Segment) → y.later ≡ a → IsAnySwitchTorn 9 y z (segment_for y 2) a b c → ((w : Slots) × LeftAs First p y w c) ⊎ (c ≡ switched_bytes 9 y z (segment_for y 2) a b)
        by None e t = ⊎_elim (λ old. inl (z, old)) (λ done. inr done) (switched.first_torn First 9 y z b lies sound 7 passes kind_is older (sym still) e c t)
        by (Some g) e t = switched.later_torn First 9 y z b lies sound 7 passes kind_is older (sym still) g e c t

    new_sound : IsSound new
    new_sound = sound_new y 0 sound (omega arith) is fits

    new_apart : (k : ℕ) → Standing new new.later k → (k < gate_in new new.later) ⊎ (gate_in new new.later + 6 + length body ≤ k)
    unfolding switched_to
    new_apart k at = off_record new (Some (new_segment y 7 0)) ((new_segment y 7 0).end + 6 + length body) k new_sound.laid.live new_sound.laid.segment (omega (arith, some_room y.grows (base_length y.index (used y.index (closed_areas y y.later))))) at

    marked_there : more new new.later (new_segment y 7 7).limit Mark ≡ marked_in y
    marked_there = switched_with y ∙ sym (ap (λ t. cond t (with_mark (switched_to y 7 7)) (with_mark y)) is)

    gate_is : gate_in new new.later ≡ (segment_for y 2).end
    unfolding switched_to
    gate_is = refl

    new_there : LeftAs Second p (marked_in y) x (with_body (segment_for y 2).end body b1)
    new_there = subst (λ k. LeftAs Second p (marked_in y) x (with_body k body b1)) gate_is
        (subst (λ l. LeftAs Second p l x (with_body (gate_in new new.later) body b1)) marked_there (kept.there First Second p new x b1 switch_done new_sound Mark tt refl (new_segment y 7 7).limit (limit_new y Mark) new_apart))

    new_torn : (c : List ℕ) → IsRecordTorn (segment_for y 2).end body b1 c → LeftAs First p new x c ⊎ LeftAs Second p (marked_in y) x c
    new_torn c torn = ⊎_elim (λ without. inl without) (λ there. inr (subst (λ l. LeftAs Second p l x c) marked_there there))
        (kept.torn_record First Second p new x b1 switch_done new_sound Mark tt refl (new_segment y 7 7).limit (limit_new y Mark) new_apart c (subst (λ k. IsRecordTorn k body b1 c) (sym gate_is) torn))

  -- ---- all calls ----

  first_stands : (l : Layout) (w : Slots) (c : List ℕ) → IsSound l → LeftAs First p l w c → StandsFor p c
  first_stands l w c is_sound left = record { version = First; layout = l; slots = w; lies = left.lies; sound = is_sound; plain = sym left.plain }

  second_stands : (w : Slots) (c : List ℕ) → LeftAs Second p (marked_in y) w c → StandsFor p c
  second_stands w c left = record { version = Second; layout = marked_in y; slots = w; lies = left.lies; sound = sound_marked y sound fits; plain = sym left.plain }

  or_not_by : (t : Bool) → switches y 2 ≡ t → (c : List ℕ) → IsTornBy 9 y z body b c 2 t → StandsFor p c
  or_not_by true is c torn = ⊎_elim
      (λ switch. ⊎_elim (λ old. first_stands y old.0 c sound old.1) (λ done. first_stands (new is) (x is) c (new_sound is) (subst (λ l. LeftAs First p (new is) (x is) l) (sym done) (switch_done is))) (switch_torn is c switch))
      (λ record_torn. ⊎_elim (λ without. first_stands (new is) (x is) c (new_sound is) without) (λ there. second_stands (x is) c there) (new_torn is c record_torn))
      torn
  or_not_by false goes c torn = ⊎_elim (λ without. first_stands y z c sound without) (λ there. second_stands z c there) (here_torn goes c torn)

  -- a crash leaves the same plain state
  pub mark_torn : (c : List ℕ) → IsRowTorn 9 y z body b c → StandsFor p c
  mark_torn c torn = or_not_by (switches y 2) refl c torn

  made_here : (t : Bool) → switches y 2 ≡ t → LeftAs Second p (marked_in y) (if t then slots_after y z y.later else z) (made_by 9 y z body b 2 t)
  made_here true is = new_there is
  made_here false goes = here_there goes

  -- all calls made leave the journal marked
  pub mark_made : LeftAs Second p (marked_in y) (slots_with y z 2) (row_made 9 y z body b)
  mark_made = made_here (switches y 2) refl

  -- and they lie within the limit of journals
  pub mark_fits : planned_end (planned 9 y z body) ≤ journal_limit
  mark_fits = plan_fits 9 First y z b Mark lies sound
      (λ goes e. (
      let here : mark_passes_in y y.later ≡ false = sym (ap (λ t. mark_passes_in y (cond t (switched_to y 7 7) y).later) goes) ∙ fits in
      omega (arith, ltb-false journal_limit (y.end + 8) (sym (ap (mark_passes_in y) e) ∙ here))))
      (λ is. passes_switch y is fits)
