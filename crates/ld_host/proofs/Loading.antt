-- What a load finds on a disk, and what lies there after it.
use Rattle.std.proofs.Common.{◌≡◌, ◌≤◌, ◌+◌, ◌==◌, ℕ, List, [], ◌∷◌, Bool, true, false, not, ◌&&◌, ◌||◌, nat_le, Option, None, Some, if◌then◌else◌, refl, sym, ◌∙◌, ap, subst}
use Rattle.ld_schedule.specs.declared.event.Picture.{Picture as Named}
use Rattle.ld_schedule.specs.declared.event.Picture.TheVariants as names
use Rattle.ld_disk.specs.Record.{State, state_of, synced}
use Rattle.ld_disk.specs.Plain.{Plain as DiskPlain, Call, after_call, all_made}
use Rattle.ld_disk.specs.declared.disk.Picture.{Picture}
use Rattle.ld_journal.specs.Pictures as journals
use Rattle.ld_journal.specs.Pictures.{seen_by}
use Rattle.ld_op.specs.Plain.{Plain, apply, op_length}
use Rattle.ld_op.specs.Cells.{read_plain}
use Rattle.ld_layout.specs.Layout.{Layout, laid_for, kept_in}
use Rattle.ld_segment.specs.Lies.{Slots, LiesAs, IsSound, StandsFor, written, op_row, slots_with, switching, gate_shows, layout_left, plain_left}
use Rattle.ld_layout.proofs.Segments.{laid_growing, kept_growing}
use Rattle.ld_segment.proofs.OpPictures.{decided}
use Rattle.ld_segment.proofs.Sound.{sound_kept}
use Rattle.ld_store.proofs.Applying.{kept_ops}
use Rattle.ld_machine.specs.Disk.{Node, Status, Cut, shows_gate, gate_reads, wrote_gate, is_found, is_switched, found, found_layout, seen_too, loaded_by, Made}
use Rattle.ld_host.specs.Faults.{picture_of, pictures_of, crash_of, IsArmed}
use Rattle.ld_host.specs.Lies.{IsWhole, IsCut, Rests, Lies}
use Rattle.ld_host.proofs.Fates.{AllMade, Stops, after_one, stopped_sync, sync_stops}
use Rattle.ld_host.proofs.Keeping.{made_whole}
use Rattle.ld_host.proofs.Versions.{laid_ops, laid_sound}
use Rattle.ld_layout.specs.declared.segment.Growth.TheVariants.{Still}

-- the bytes lie as what a load finds, and represent it
pub record Finds (bytes : List ℕ) (p : Plain) (y : Layout) : Type 0 where
  pub slots : Slots
  pub lies : LiesAs (written y) y slots bytes
  pub sound : IsSound y
  pub still : y.grows ≡ Still
  pub plain : p ≡ read_plain bytes y.index
  pub formatted : (p.generation == 0) ≡ (y.ops == 0)

pub stands_for : (bytes : List ℕ) (p : Plain) (y : Layout) → Finds bytes p y → StandsFor p bytes
stands_for bytes p y f = record { version = written y; layout = y; slots = f.slots; lies = f.lies; sound = f.sound; plain = f.plain }

-- ---- what decides ----

shows : (p : Named) → shows_gate p ≡ journals.shows_gate (picture_of p)
shows names.Old = refl
shows names.New = refl
shows (names.Byte b) = refl

reads : (ps : List Named) → gate_reads ps ≡ journals.gate_reads (pictures_of ps)
reads [] = refl
reads (p ∷ ps) = shows p

module _ (y : Layout) (z : Slots) (p : Plain) (k : Cut) (s : State) (cut : IsCut y z p k s) where
  shows_too : (calls : ℕ) → (wrote_gate calls k.call k.crashed && gate_reads k.seen) ≡ gate_shows calls k.call cut.how cut.later
  shows_too calls = λ i. ((k.call == calls) || (cut.crashed i && (k.call + 1 == calls))) && (reads k.seen ∙ ap journals.gate_reads cut.seen) i

  found_there : is_found k ≡ gate_shows (switching y cut.op + 4) k.call cut.how cut.later
  unfolding is_found
  found_there = shows_too (k.switching + 4) ∙ ap (λ n. gate_shows (n + 4) k.call cut.how cut.later) cut.switching_is

  switched_there : is_switched k ≡ (not (nat_le k.call (switching y cut.op)) || gate_shows (switching y cut.op) k.call cut.how cut.later)
  unfolding is_switched
  switched_there =
      ap (λ b. not (nat_le k.call k.switching) || b) (shows_too k.switching)
      ∙ ap (λ n. not (nat_le k.call n) || gate_shows n k.call cut.how cut.later) cut.switching_is

  abbrev layout_then : Layout
  layout_then = layout_left y cut.op k.call cut.how cut.later

  abbrev plain_then : Plain
  plain_then = plain_left p y cut.op k.call cut.how cut.later

  -- ---- with the op, behind a switch, or as it was ----

  chosen : (P : Plain → Layout → Type 0) (a b : Bool) → P (apply p cut.op) (kept_in y cut.op) → P p (laid_for y cut.op 0) → P p y
      → P (if a then apply p cut.op else p) (if a then kept_in y cut.op else (if b then laid_for y cut.op 0 else y))
  chosen P true b kept laid old = kept
  chosen P false true kept laid old = laid
  chosen P false false kept laid old = old

  choose : (P : Plain → Layout → Type 0) → P (apply p cut.op) (kept_in y cut.op) → P p (laid_for y cut.op 0) → P p y → P plain_then layout_then
  choose P kept laid old = chosen P (gate_shows (switching y cut.op + 4) k.call cut.how cut.later) (not (nat_le k.call (switching y cut.op)) || gate_shows (switching y cut.op) k.call cut.how cut.later) kept laid old

  finds_left : (p.generation == 0) ≡ (y.ops == 0) → Finds s.bytes plain_then layout_then
  finds_left formatted =
      let w = cut.whole in
      let left = decided y z cut.before.state.bytes cut.op w.lies w.sound cut.next k.call cut.how cut.later cut.before w.safe cut.told (subst (λ n. k.call ≤ n + 4) cut.switching_is cut.call) in
      subst (λ t. Finds t.bytes plain_then layout_then) (sym cut.state) (record {
        slots = left.0;
        lies = left.1.lies;
        sound = choose (λ q l. IsSound l) (sound_kept y cut.op w.sound cut.next) (laid_sound y cut.op w.sound cut.next) w.sound;
        still = choose (λ q l. l.grows ≡ Still) (kept_growing y cut.op ∙ w.still) (laid_growing y cut.op 0 ∙ w.still) w.still;
        plain = ap (λ q. plain_left q y cut.op k.call cut.how cut.later) w.plain ∙ sym left.1.plain;
        formatted = choose (λ q l. (q.generation == 0) ≡ (l.ops == 0)) (ap (λ q. q.generation == 0) (sym cut.plain) ∙ cut.formatted ∙ sym (kept_ops y cut.op (slots_with y z (op_length cut.op)) (all_made (op_row y z cut.op) cut.before.state).bytes (made_whole y z p cut.op cut.before.state cut.next w).lies))
            (formatted ∙ sym (laid_ops y cut.op)) formatted;
      })

module _ (x : Node) (z : Slots) (formatted : (x.plain.generation == 0) ≡ (x.layout.ops == 0)) where
  finds_rest : (cut : Option Cut) (s : State) → Rests x.layout z x.plain cut s → Finds s.bytes (found x cut) (found_layout x cut)
  finds_rest None s whole = record { slots = z; lies = whole.lies; sound = whole.sound; still = whole.still; plain = whole.plain; formatted = formatted }
  finds_rest (Some k) s cut =
      let there = found_there x.layout z x.plain k s cut in
      let switched = switched_there x.layout z x.plain k s cut in
      let plain : found x (Some k) ≡ plain_left x.plain x.layout cut.op k.call cut.how cut.later = λ i. if there i then cut.plain i else x.plain in
      let layout : found_layout x (Some k) ≡ layout_left x.layout cut.op k.call cut.how cut.later = λ i. if there i then cut.layout i else (if switched i then cut.switched i else x.layout) in
      subst (λ q. Finds s.bytes q (found_layout x (Some k))) (sym plain) (subst (λ l. Finds s.bytes (plain_left x.plain x.layout cut.op k.call cut.how cut.later) l) (sym layout) (finds_left x.layout z x.plain k s cut formatted))

pub finds : (p : DiskPlain) (x : Node) → Lies p x → Finds p.state.bytes (found x x.cut) (found_layout x x.cut)
finds p x lies = finds_rest x lies.slots lies.formatted x.cut p.state lies.rests

-- ---- after the load ----

abbrev pub one_sync : List Call
one_sync = None ∷ []

module _ (p : DiskPlain) (x : Node) (lies : Lies p x) (made : AllMade one_sync x.fault p) (q : DiskPlain) (is : q ≡ after_call None p) where
  pub synced_is : q.state ≡ state_of p.state.bytes [] p.state.bytes
  synced_is = ap (λ r. r.state) (is ∙ sym (after_one None p)) ∙ made.state

  -- with any slots that these bytes have
  unfoldable pub loaded_lies : (z : Slots) → LiesAs (written (found_layout x x.cut)) (found_layout x x.cut) z p.state.bytes → Lies q (loaded_by x Made)
  loaded_lies z there =
      let f = finds p x lies in
      record {
        slots = z;
        formatted = f.formatted;
        rests = subst (λ t. IsWhole (found_layout x x.cut) z (found x x.cut) t) (sym synced_is) (record { lies = there; sound = f.sound; still = f.still; plain = f.plain; safe = refl });
        armed = subst (λ r. IsArmed (loaded_by x Made).fault r) (after_one None p ∙ sym is) made.armed;
      }

-- ---- a load that stops ----

seen_later : (how : Option Picture) (picture : Picture) (later seen : List Picture) → seen ≡ seen_by how later → picture ∷ seen ≡ seen_by how (picture ∷ later)
seen_later None picture later seen is = ap (λ l. picture ∷ l) is
seen_later (Some first) picture later seen is = ap (λ l. picture ∷ l) is

crashed_rests : (y : Layout) (z : Slots) (plain : Plain) (cut : Option Cut) (s : State) (p : Named) → Rests y z plain cut s → Rests y z plain (seen_too p cut) (synced (Some (picture_of p)) s)
crashed_rests y z plain None s p w =
    let same : synced (Some (picture_of p)) s ≡ s = ap (λ t. synced (Some (picture_of p)) t) w.safe ∙ sym w.safe in
    subst (λ t. IsWhole y z plain t) (sym same) w
crashed_rests y z plain (Some k) s p cut = record {
  op = cut.op;
  next = cut.next;
  before = cut.before;
  whole = cut.whole;
  how = cut.how;
  later = picture_of p ∷ cut.later;
  told = cut.told;
  call = cut.call;
  state = ap (λ t. synced (Some (picture_of p)) t) cut.state;
  plain = cut.plain;
  formatted = cut.formatted;
  switched = cut.switched;
  layout = cut.layout;
  switching_is = cut.switching_is;
  crashed = cut.crashed;
  seen = seen_later cut.how (picture_of p) cut.later (pictures_of k.seen) cut.seen;
}

-- with the picture of a crash, where there was one
abbrev pub cut_then : Option Named → Option Cut → Option Cut
cut_then None cut = cut
cut_then (Some p) cut = seen_too p cut

stopped_rests : (y : Layout) (z : Slots) (plain : Plain) (cut : Option Cut) (s : State) (crash : Option Named) → Rests y z plain cut s → Rests y z plain (cut_then crash cut) (stopped_sync (crash_of crash) s)
stopped_rests y z plain cut s None rests = rests
stopped_rests y z plain cut s (Some p) rests = crashed_rests y z plain cut s p rests

pub stopped_lies : (p : DiskPlain) (x : Node) → Lies p x → (stops : Stops one_sync x.fault p) (q : DiskPlain) (status : Status) → q.state ≡ (after_call None p).state → q.armed ≡ None → q.crashed ≡ false
    → Lies q (record x { status = status; fault = None; cut = cut_then stops.crash x.cut })
stopped_lies p x lies stops q status state armed stands = record {
  slots = lies.slots;
  formatted = lies.formatted;
  rests = subst (λ s. Rests x.layout lies.slots x.plain (cut_then stops.crash x.cut) s) (sym (state ∙ sync_stops stops.left (crash_of stops.crash) p stops.told stops.most))
      (stopped_rests x.layout lies.slots x.plain x.cut p.state stops.crash lies.rests);
  armed = record { stands = stands; told = armed; counts = tt };
}
