-- Ops that are staged behind one shut gate: a crash leaves what stood for the state before them, and once the gate is open the bytes stand for all of them.
use Rattle.std.proofs.Common.{◌≡◌, ◌≢◌, ◌⊎◌, inl, inr, ⊎_elim, refl, ℕ, suc, ◌+◌, ◌-◌, ◌^◌, ◌≤◌, ◌<◌, List, [], ◌∷◌, ◌++◌, length, take, drop, get_or, Option, None, Some, Bool, true, false, if◌then◌else◌, sym, ◌∙◌, ap, subst, arith, append_assoc, length-append, take-append-drop}
use Rattle.std.proofs.lemmas.Bool.{cases_eq}
use Rattle.std.proofs.lemmas.List.{length-take-le}
use Rattle.std.proofs.Math.Seq.{drop-cons}
use Rattle.ld_table.specs.Table.{find}
use Rattle.ld_disk.specs.Images.{overwrite, Torn}
use Rattle.ld_disk.proofs.Overwrites.{torn_whole}
use Rattle.ld_disk.proofs.Writes.{overwrite_at, torn_byte}
use Rattle.ld_journal.specs.Format.{records, IsJournal, behind}
use Rattle.ld_msg.specs.Register.{record_length}
use Rattle.ld_op.specs.declared.op.Op.{Op}
use Rattle.ld_op.specs.declared.record.Record.{Record}
use Rattle.ld_op.specs.declared.record.Record.TheVariants.{Now}
use Rattle.ld_op.specs.Plain.{Plain, apply, op_length}
use Rattle.ld_op.specs.Records.{body_length}
use Rattle.ld_op.specs.Bytes.{op_bytes, record_bytes}
use Rattle.ld_op.specs.Cells.{read_plain}
use Rattle.ld_layout.specs.Areas.{AreLive}
use Rattle.ld_layout.specs.Layout.{Layout, Segment, kind_of, new_segment, live_areas, switches, kept_in, IfSegment}
use Rattle.ld_segment.specs.Stays.{StaysOutside}
use Rattle.ld_segment.specs.Left.{staged}
use Rattle.ld_segment.specs.Lies.{Slots, LiesAs, IsSound, StandsFor, StandsForEither, MayKeep, written, gate_in, segment_for, slots_after, slots_with, switched_bytes, with_body, IsAnySwitchTorn}
use Rattle.ld_segment.specs.Plans.{Planned, before_by, made_before, planned_by, planned, IsBeforeTorn}
use Rattle.ld_segment.specs.Groups.{IsStageTorn, IsGroupTorn, opened_at, IsSameSegment, IsGroup}
use Rattle.ld_segment.proofs.Ranges.{widened, torn_round, written_round, stays_then, torn_one, same_behind}
use Rattle.ld_segment.proofs.Rows.{row_stays, length-behind, body_behind, front_long, old_is, behind_front}
use Rattle.ld_segment.proofs.Bodies.{record_long}
use Rattle.ld_segment.proofs.Standing.{Standing, byte_outside, index_same, head_before, other_apart}
use Rattle.ld_segment.proofs.OneRead.{one_read}
use Rattle.ld_segment.proofs.More.{row_at, row_bodies, more, row_journal, gate_is, row_inside, without}
use Rattle.ld_segment.proofs.Kept.{Left, more_index}
use Rattle.ld_segment.proofs.Sound.{sound_kept}
use Rattle.ld_segment.proofs.Limits.{limit_of}
use Rattle.ld_segment.proofs.OpRow as op_row

-- ---- a segment with a record more ----

same_segment : (l : Layout) (limit : ℕ) (v : Record) → IsSameSegment l l.later (more l l.later limit v) (more l l.later limit v).later
same_segment l limit v = by l.later
  where
    by : (a : Option Segment) → IsSameSegment l a (more l a limit v) (more l a limit v).later
    by None = tt
    by (Some g) = (refl, (refl, refl))

same_then : (l y x : Layout) (a b c : Option Segment) → IsSameSegment l a y b → IsSameSegment y b x c → IsSameSegment l a x c
same_then l y x None None None first second = tt
same_then l y x None None (Some k) first second = second
same_then l y x None (Some h) c first second = absurd first
same_then l y x (Some g) None c first second = absurd first
same_then l y x (Some g) (Some h) None first second = second
same_then l y x (Some g) (Some h) (Some k) first second = (second.0 ∙ first.0, (second.1.0 ∙ first.1.0, second.1.1 ∙ first.1.1))

gate_moves : (l : Layout) (limit : ℕ) (v : Record) → gate_in (more l l.later limit v) (more l l.later limit v).later ≡ gate_in l l.later + record_length (body_length v)
gate_moves l limit v = by l.later
  where
    by : (a : Option Segment) → gate_in (more l a limit v) (more l a limit v).later ≡ gate_in l a + record_length (body_length v)
    by None = refl
    by (Some g) = refl

-- ---- two writes that lie apart ----

commute_at : (front mid rest piece : List ℕ) (byte at k : ℕ) → at ≡ length front → k ≡ length (front ++ byte ∷ mid)
    → overwrite at (1 ∷ []) (overwrite k piece (front ++ byte ∷ (mid ++ rest))) ≡ overwrite k piece (overwrite at (1 ∷ []) (front ++ byte ∷ (mid ++ rest)))
commute_at front mid rest piece byte at k at_is k_is =
    let tail = piece ++ drop (length piece) rest in
    let long : k ≡ length (front ++ 1 ∷ mid) = omega (arith, k_is, length-append front (byte ∷ mid), length-append front (1 ∷ mid)) in
    let second = λ (t : ℕ) (is : k ≡ length (front ++ t ∷ mid)). ap (λ (l : List ℕ). overwrite k piece l) (sym (append_assoc front (t ∷ mid) rest)) ∙ overwrite_at (front ++ t ∷ mid) rest k is piece ∙ append_assoc front (t ∷ mid) tail in
    ap (λ (l : List ℕ). overwrite at (1 ∷ []) l) (second byte k_is)
    ∙ overwrite_at front (byte ∷ (mid ++ tail)) at at_is (1 ∷ [])
    ∙ sym (ap (λ (l : List ℕ). overwrite k piece l) (overwrite_at front (byte ∷ (mid ++ rest)) at at_is (1 ∷ [])) ∙ second 1 long)

commute : (at k : ℕ) (piece bytes : List ℕ) → at < k → k ≤ length bytes → overwrite at (1 ∷ []) (overwrite k piece bytes) ≡ overwrite k piece (overwrite at (1 ∷ []) bytes)
commute at k piece bytes before within =
    let front = take at bytes in
    let back = drop (at + 1) bytes in
    let mid = take (k - at - 1) back in
    let rest = drop (k - at - 1) back in
    let step : at + 1 ≡ suc at = omega arith in
    let whole : bytes ≡ front ++ get_or bytes at 0 ∷ back = sym (take-append-drop at bytes) ∙ ap (λ (l : List ℕ). front ++ l) (drop-cons bytes at 0 (omega (arith, before, within)) ∙ ap (λ (j : ℕ). get_or bytes at 0 ∷ drop j bytes) (sym step)) in
    let split : bytes ≡ front ++ get_or bytes at 0 ∷ (mid ++ rest) = whole ∙ ap (λ (l : List ℕ). front ++ get_or bytes at 0 ∷ l) (sym (take-append-drop (k - at - 1) back)) in
    let front_is : length front ≡ at = length-take-le at bytes (omega (arith, before, within)) in
    let long : length bytes ≡ at + (1 + length back) = omega (arith, ap length whole, length-append front (get_or bytes at 0 ∷ back), front_is) in
    let mid_is : length mid ≡ k - at - 1 = length-take-le (k - at - 1) back (omega (arith, long, before, within)) in
    subst (λ (l : List ℕ). overwrite at (1 ∷ []) (overwrite k piece l) ≡ overwrite k piece (overwrite at (1 ∷ []) l)) (sym split)
    (commute_at front mid rest piece (get_or bytes at 0) at k (sym front_is) (omega (arith, length-append front (get_or bytes at 0 ∷ mid), front_is, mid_is, before)))

-- ---- the first op of a group ----

-- what is staged then
abbrev Begun : Plain → Layout → Slots → ℕ → List ℕ → List ℕ → Type 0
Begun p y x gate safe body = IsGroup p y x gate safe (staged gate body safe)

-- what is staged, what is read of it, how far it goes, and what a crash leaves of the calls
pub record Begins (p q : Plain) (y : Layout) (x : Slots) (w : Planned) (b : List ℕ) : Type 0 where
  pub group : IsGroup p y x w.gate (made_before w.before b) (staged w.gate w.body (made_before w.before b))
  pub plain : read_plain (staged w.gate w.body (made_before w.before b)) y.index ≡ q
  pub size : w.gate + length (behind w.body) ≡ gate_in y y.later
  pub torn : (c : List ℕ) → IsStageTorn w b c → StandsFor p c

begun_in : (p q : Plain) (l y : Layout) (x : Slots) (safe : List ℕ) (v : Record) (limit gate : ℕ) → Left p l x safe → IsSound l → IsSound y → more l l.later limit v ≡ y → gate_in l l.later ≡ gate
    → Left q y x (with_body gate (record_bytes v) safe) → read_plain (staged gate (record_bytes v) safe) y.index ≡ q → Begun p y x gate safe (record_bytes v)
begun_in p q l y x safe v limit gate left was_sound sound is at there early = record {
  begun = l;
  slots = x;
  was = left.lies;
  was_sound = was_sound;
  plain = sym left.plain;
  gate_is = sym at;
  segment = subst (λ k. IsSameSegment l l.later k k.later) is (same_segment l limit v);
  past = omega (arith, at, gate_moves l limit v, ap (λ k. gate_in k k.later) is);
  lies = there.lies;
  sound = sound;
  read = early ∙ sym there.plain;
}

module _ (y : Layout) (z : Slots) (b : List ℕ) (o : Op) (lies : LiesAs (written y) y z b) (sound : IsSound y) (may : MayKeep y o) where
  abbrev n : ℕ
  n = op_length o

  abbrev body : List ℕ
  body = op_bytes o

  abbrev p : Plain
  p = read_plain b y.index

  abbrev q : Plain
  q = apply p o

  abbrev kept : Layout
  kept = kept_in y o

  body_long : length (behind body) ≡ record_length n
  body_long = omega (arith, length-behind body, record_long (Now o))

  here : switches y n ≡ false → Begins p q kept z (planned_by (kind_of y) y z body n false) b
  here goes =
      let gate = gate_in y y.later in
      let is = op_row.kept_here y z b o lies sound may goes in
      record {
        group = begun_in p q y kept z b (Now o) (limit_of y.later) gate (record { lies = lies; plain = refl }) sound (sound_kept y o sound may) is refl (op_row.here_there y z b o lies sound may goes) (op_row.here_early y z b o lies sound may goes);
        plain = op_row.here_early y z b o lies sound may goes;
        size = omega (arith, body_long, gate_moves y (limit_of y.later) (Now o), ap (λ k. gate_in k k.later) is);
        torn = λ c torn. ⊎_elim
            (λ same. op_row.stands y z b o lies sound may p y z c sound (subst (λ l. Left p y z l) (sym same) (record { lies = lies; plain = refl })))
            (λ staged. op_row.stands y z b o lies sound may p y z c sound (op_row.here_staged y z b o lies sound may goes c staged))
            torn;
      }

  -- behind a switch
  switched_is : (g : Segment) (a : Option Segment) → switched_bytes (kind_of y) y z g a b ≡ made_before (before_by (kind_of y) y z g a) b
  switched_is g None = refl
  switched_is g (Some s) = refl

  before_torn : (g : Segment) (a : Option Segment) (c : List ℕ) → IsBeforeTorn (before_by (kind_of y) y z g a) b c → IsAnySwitchTorn (kind_of y) y z g a b c
  before_torn g None c torn = torn
  before_torn g (Some s) c torn = torn

  there : switches y n ≡ true → Begins p q kept (slots_after y z y.later) (planned_by (kind_of y) y z body n true) b
  there is =
      let g = segment_for y n in
      let new = op_row.new y z b o lies sound may is in
      let x = op_row.x y z b o lies sound may is in
      let limit = (new_segment y (record_length n) (record_length n)).limit in
      let same = switched_is g y.later in
      let more_is = op_row.kept_there y z b o lies sound may is in
      let gate = op_row.gate_is y z b o lies sound may is in
      let new_sound = op_row.new_sound y z b o lies sound may is in
      let early = op_row.new_early y z b o lies sound may is in
      record {
        group = subst (λ l. Begun p kept x g.end l body) same
            (begun_in p q new kept x (switched_bytes (kind_of y) y z g y.later b) (Now o) limit g.end (op_row.switch_done y z b o lies sound may is) new_sound (sound_kept y o sound may) more_is gate (op_row.new_there y z b o lies sound may is) early);
        plain = subst (λ l. read_plain (staged g.end body l) kept.index ≡ q) same early;
        size = omega (arith, body_long, gate_moves new limit (Now o), ap (λ k. gate_in k k.later) more_is, gate);
        torn = λ c torn. ⊎_elim
            (λ switch. ⊎_elim
            (λ old. op_row.stands y z b o lies sound may p y old.0 c sound old.1)
            (λ done. op_row.stands y z b o lies sound may p new x c new_sound (subst (λ l. Left p new x l) (sym done) (op_row.switch_done y z b o lies sound may is)))
            (op_row.switch_torn y z b o lies sound may is c (before_torn g y.later c switch)))
            (λ behind_gate. op_row.stands y z b o lies sound may p new x c new_sound
            (op_row.new_staged y z b o lies sound may is c (subst (λ l. Torn (g.end + 1) (length (behind body)) l c) (sym same) behind_gate)))
            torn;
      }

  begins_by : (t : Bool) → switches y n ≡ t → Begins p q kept (if t then slots_after y z y.later else z) (planned_by (kind_of y) y z body n t) b
  begins_by true is = there is
  begins_by false goes = here goes

  begins : Begins p q kept (slots_with y z n) (planned (kind_of y) y z body) b
  begins = subst (λ m. Begins p q kept (slots_with y z n) (planned_by (kind_of y) y z body m (switches y m)) b) (sym (record_long (Now o))) (begins_by (switches y n) refl)

  pub begins_as : (w : Planned) → w ≡ planned (kind_of y) y z body → Begins p q kept (slots_with y z n) w b
  begins_as w is = subst (λ v. Begins p q kept (slots_with y z n) v b) (sym is) begins

-- ---- what a crash leaves of a group ----

off_group : (l y : Layout) (a b : Option Segment) (gate n : ℕ) → IsSameSegment l a y b → gate ≡ gate_in l a → gate + n ≡ gate_in y b → AreLive (live_areas l a) → IfSegment a → AreLive (live_areas y b) → IfSegment b
    → (k : ℕ) → Standing l a k → (k < gate) ⊎ (gate + 1 + n ≤ k)
off_group l y None b gate n same at size live is live_then is_then k stands = inl (omega (arith, stands, at))
off_group l y (Some g) None gate n same at size live is live_then is_then k stands = absurd same
off_group l y (Some g) (Some h) gate n same at size live is live_then is_then k stands = ⊎_elim
    (λ first. inl (omega (arith, first, head_before l g live is, is.begun, at)))
    (λ later. ⊎_elim
    (λ this. inl (omega (arith, this.1, at)))
    (λ other.
    let found : find other.place h.areas ≡ Some other.length = ap (λ m. find other.place m) same.1.1 ∙ other.found in
    ⊎_elim
    (λ before. inl (omega (arith, before, same.1.0, other.below, is.begun, at)))
    (λ past. inr (omega (arith, past, is_then.within, size, other.from)))
    (other_apart y h other.place other.length live_then is_then found other.not_first (λ e. other.not_this (e ∙ same.1.0))))
    later)
    stands

module _ (p : Plain) (y : Layout) (z : Slots) (gate : ℕ) (safe shown : List ℕ) (group : IsGroup p y z gate safe shown) where
  pub opened_long : (length shown ≤ length (opened_at gate shown)) × (gate_in y y.later + 1 ≤ length shown)
  opened_long =
      let torn = torn_whole gate (1 ∷ []) shown in
      let inside = row_inside group.lies.first (written y) y z group.lies.records (opened_at gate shown) group.lies.end_is y.later group.lies.index_is group.lies.journal in
      (torn.no_shorter, omega (arith, torn.no_longer, inside, group.past))

  -- it is no longer for its gate
  pub long : length (opened_at gate shown) ≡ length shown
  long = let torn = torn_whole gate (1 ∷ []) shown in omega (arith, opened_long.0, opened_long.1, torn.no_longer, group.past)

  module _ (n : ℕ) (size : gate + n ≡ gate_in y y.later) where
    abbrev l : Layout
    l = group.begun

    abbrev at : ℕ
    at = row_at l.later

    abbrev bodies : List (List ℕ)
    bodies = row_bodies group.was.first (written l) l group.slots l.later group.was.records safe group.was.index_is

    row : IsJournal bodies (drop at safe)
    row = row_journal group.was.first (written l) l group.slots group.was.records safe group.was.end_is l.later group.was.index_is group.was.journal

    at_gate : gate ≡ at + length (records bodies)
    at_gate = group.gate_is ∙ gate_is group.was.first (written l) l group.slots group.was.records safe group.was.end_is l.later group.was.index_is

    inside : gate + 1 ≤ length safe
    inside = omega (arith, group.gate_is, row_inside group.was.first (written l) l group.slots group.was.records safe group.was.end_is l.later group.was.index_is group.was.journal)

    abbrev Round : List ℕ → Type 0
    Round c = StaysOutside gate (gate + 1 + n) safe c

    round : (c : List ℕ) → Torn (gate + 1) n safe c → Round c
    round c torn = widened (gate + 1) (gate + 1 + n) gate (gate + 1 + n) safe c (omega arith) (omega arith) (torn_round (gate + 1) n safe c inside torn)

    early : (c : List ℕ) → Torn (gate + 1) n safe c → IsJournal bodies (drop at c)
    early c torn = row_stays (gate + 1) (gate + 1 + n) at bodies safe c (torn_round (gate + 1) n safe c inside torn) (inl (omega (arith, at_gate))) row

    not_there : (c : List ℕ) → Round c → IsJournal bodies (drop at c) → StandsFor p c
    not_there c stays journal =
        let apart = off_group l y l.later y.later gate n group.segment group.gate_is size group.was_sound.laid.live group.was_sound.laid.segment group.sound.laid.live group.sound.laid.segment in
        let parts = without group.was.first (written l) l group.slots group.was.records safe group.was.end_is c (gate + 1 + n) l.later group.was.index_is group.was_sound.laid.live group.was_sound.laid.segment
        (subst (λ k. StaysOutside k (gate + 1 + n) safe c) group.gate_is stays) group.was.journal journal in
        record {
          version = written l;
          layout = l;
          slots = group.slots;
          lies = record { records = group.was.records; journal = parts.0; first = group.was.first; placed = group.was.placed; ops_is = group.was.ops_is; end_is = group.was.end_is; index_is = parts.1 };
          sound = group.was_sound;
          plain = group.plain ∙ sym (index_same l safe c group.was_sound (λ k stands. byte_outside gate (gate + 1 + n) k safe c stays (apart k stands)));
        }

    -- while the gate is shut
    pub left : (c : List ℕ) → Torn (gate + 1) n safe c → StandsFor p c
    left c torn = not_there c (round c torn) (early c torn)

    -- once all is behind it, and it is written
    module _ (behind_it : Torn (gate + 1) n safe shown) where
      still_shut : (c : List ℕ) → Torn gate 1 shown c → get_or c gate 0 ≢ 1 → StandsFor p c
      still_shut c torn shut =
          let journal = early shown behind_it in
          let at_inside : at ≤ length shown = omega (arith, inside, at_gate, behind_it.no_shorter) in
          let gate_there : gate ≤ length shown = omega (arith, inside, behind_it.no_shorter) in
          let none : 0 < 2 ^ 32 = omega arith in
          let front = take at shown ++ records bodies in
          let front_is : gate ≡ length front = at_gate ∙ front_long at bodies [] shown at_inside none journal in
          let one : c ≡ front ++ get_or c gate 0 ∷ journal.after =
          torn_byte front journal.after journal.gate gate front_is c (subst (λ k. Torn gate 1 k c) (old_is at bodies [] shown at_inside none journal) torn) in
          not_there c
          (stays_then gate (gate + 1 + n) safe shown c (round shown behind_it) (widened gate (gate + 1) gate (gate + 1 + n) shown c (omega arith) (omega arith) (torn_round gate 1 shown c gate_there torn)))
          (record { gate = get_or c gate 0; after = journal.after; bytes_are = behind_front at bodies [] shown at_inside none journal c (get_or c gate 0) journal.after one; shut = shut; fits = journal.fits })

      open_now : (c : List ℕ) → Torn gate 1 shown c → get_or c gate 0 ≡ 1 → StandsFor (read_plain shown y.index) c
      open_now c torn is_open =
          let same : c ≡ opened_at gate shown = torn_one gate shown c (omega (arith, inside, behind_it.no_shorter)) torn ∙ ap (λ t. overwrite gate (t ∷ []) shown) is_open in
          subst (λ k. StandsFor (read_plain shown y.index) k) (sym same) (record { version = written y; layout = y; slots = z; lies = group.lies; sound = group.sound; plain = group.read })

      -- all of the group is there, or none of it
      pub either : (c : List ℕ) → IsGroupTorn gate n safe shown c → StandsForEither p (read_plain shown y.index) c
      either c torn = ⊎_elim
          (λ behind_gate. inl (left c behind_gate))
          (λ gate_torn. elim (cases_eq (get_or c gate 0) 1) [
            | inl is_open ↦ inr (open_now c gate_torn is_open)
            | inr shut ↦ inl (still_shut c gate_torn shut)
          ])
          torn

  -- ---- an op more ----

  module _ (o : Op) (may : MayKeep y o) (goes : switches y (op_length o) ≡ false) where
    abbrev end : ℕ
    end = gate_in y y.later

    abbrev more_body : List ℕ
    more_body = op_bytes o

    abbrev done : List ℕ
    done = with_body end more_body shown

    more_is : more y y.later (limit_of y.later) (Now o) ≡ kept_in y o
    more_is = op_row.kept_here y z (opened_at gate shown) o group.lies group.sound may goes

    opened_with : opened_at gate done ≡ with_body end more_body (opened_at gate shown)
    opened_with =
        let now = staged end more_body shown in
        let torn = torn_whole (end + 1) (behind more_body) shown in
        commute gate end (1 ∷ []) now group.past (omega (arith, torn.no_shorter, opened_long.1))
        ∙ ap (λ (m : List ℕ). overwrite end (1 ∷ []) m) (commute gate (end + 1) (behind more_body) shown (omega (arith, group.past)) opened_long.1)

    there_now : Left (apply (read_plain (opened_at gate shown) y.index) o) (kept_in y o) z (with_body end more_body (opened_at gate shown))
    there_now = op_row.here_there y z (opened_at gate shown) o group.lies group.sound may goes

    round_done : StaysOutside end (end + 6 + length more_body) shown done
    round_done =
        let now = staged end more_body shown in
        let first = written_round (end + 1) (behind more_body) shown opened_long.1 in
        stays_then end (end + 6 + length more_body) shown now done
        (widened (end + 1) (end + 1 + length (behind more_body)) end (end + 6 + length more_body) shown now (omega arith) (omega (arith, length-behind more_body)) first)
        (widened end (end + 1) end (end + 6 + length more_body) now done (omega arith) (omega arith) (written_round end (1 ∷ []) now (omega (arith, first.no_shorter, opened_long.1))))

    -- its payload is read where it will be
    pub read_then : read_plain done (kept_in y o).index ≡ apply (read_plain shown y.index) o
    read_then =
        let apart = op_row.apart y z (opened_at gate shown) o group.lies group.sound may goes in
        let stands = body_behind end more_body shown in
        let step : end + 1 ≤ end + 5 = omega arith in
        let there : drop (end + 5) done ≡ more_body ++ stands.0 = same_behind (end + 1) (end + 5) (staged end more_body shown) done (torn_whole end (1 ∷ []) (staged end more_body shown)).after step ∙ stands.1 in
        ap (λ k. read_plain done k.index) (sym more_is)
        ∙ ap (read_plain done) (more_index y y.later (limit_of y.later) (Now o))
        ∙ one_read (end + 5) y.index (read_plain shown y.index) (Now o) done stands.0 may.op there
        (index_same y shown done group.sound (λ k at. byte_outside end (end + 6 + length more_body) k shown done round_done (apart k at)))

    pub size_then : end + 5 + length more_body ≡ gate_in (kept_in y o) (kept_in y o).later
    size_then = omega (arith, record_long (Now o), gate_moves y (limit_of y.later) (Now o), ap (λ k. gate_in k k.later) more_is)

    pub goes_on : IsGroup p (kept_in y o) z gate safe done
    goes_on = record {
      begun = group.begun;
      slots = group.slots;
      was = group.was;
      was_sound = group.was_sound;
      plain = group.plain;
      gate_is = group.gate_is;
      segment = same_then group.begun y (kept_in y o) group.begun.later y.later (kept_in y o).later group.segment (subst (λ k. IsSameSegment y y.later k k.later) more_is (same_segment y (limit_of y.later) (Now o)));
      past = omega (arith, group.past, size_then);
      lies = subst (λ m. LiesAs (written (kept_in y o)) (kept_in y o) z m) (sym opened_with) there_now.lies;
      sound = sound_kept y o group.sound may;
      read = read_then ∙ ap (λ s. apply s o) group.read ∙ sym there_now.plain ∙ ap (λ m. read_plain m (kept_in y o).index) (sym opened_with);
    }
