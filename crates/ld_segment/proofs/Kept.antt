-- A record, as its calls leave it: not there, or there with all that it changes.
use Rattle.std.proofs.Common.{◌≡◌, ◌≢◌, ◌⊎◌, inl, inr, ⊎_elim, refl, ℕ, ◌+◌, ◌≤◌, ◌<◌, ◌^◌, ◌==◌, List, [], ◌∷◌, ◌++◌, length, drop, get_or, Option, None, Some, Bool, true, false, cond, if◌then◌else◌, ◌&&◌, sym, ◌∙◌, ap, subst, arith, ◌||◌}
use Rattle.std.proofs.lemmas.Bool.{cases_eq}
use Rattle.std.proofs.lemmas.Bool.Decides.{nat_tests}
use Rattle.ld_disk.specs.Images.{overwrite, Torn}
use Rattle.ld_journal.specs.Format.{records, IsJournal, behind}
use Rattle.ld_op.specs.declared.op.Op.{Op}
use Rattle.ld_op.specs.declared.record.Record.{Record}
use Rattle.ld_op.specs.declared.record.Record.TheVariants.{Now}
use Rattle.ld_op.specs.declared.version.Version.{Version}
use Rattle.ld_op.specs.declared.version.Version.TheVariants.{Blank, First, Second}
use Rattle.ld_op.specs.Plain.{Plain}
use Rattle.ld_op.specs.Records.{applied, is_blank, is_first, version_after}
use Rattle.ld_op.specs.Bounds.{IsRecord}
use Rattle.ld_op.specs.Bytes.{record_bytes}
use Rattle.ld_op.specs.Cells.{read_plain}
use Rattle.ld_layout.specs.Base.{is_second_kind}
use Rattle.ld_layout.specs.Layout.{Layout, Segment, growth_told}
use Rattle.ld_segment.specs.Stays.{StaysOutside}
use Rattle.ld_segment.specs.Left.{staged, IsRecordTorn}
use Rattle.ld_segment.specs.Ops.{placed_record}
use Rattle.ld_segment.specs.Lies.{Slots, after_base, IsLater, IsIndexed, LiesAs, IsSound, written, gate_in, with_body}
use Rattle.ld_disk.proofs.Overwrites.{torn_whole}
use Rattle.ld_segment.proofs.Ranges.{widened, torn_round, written_round, torn_one}
use Rattle.ld_segment.proofs.Rows.{early, shut_late, is_there, round_it, round_done, length-behind, body_behind}
use Rattle.ld_segment.proofs.Bodies.{record_fits, never_again}
use Rattle.ld_segment.proofs.Standing.{Standing, byte_outside, index_same}
use Rattle.ld_segment.proofs.OneRead.{one_read}
use Rattle.ld_segment.proofs.More.{row_at, row_bodies, more, HasLimit, row_journal, gate_is, row_inside, body_there, without, with_more}

-- what a write left: the bytes lie as this layout says, with the journal of this version, and represent this plain state
pub record LeftAs (version : Version) (p : Plain) (y : Layout) (z : Slots) (c : List ℕ) : Type 0 where
  pub lies : LiesAs version y z c
  pub plain : read_plain c y.index ≡ p

-- of the version of a journal that is written to
abbrev pub Left : Plain → Layout → Slots → List ℕ → Type 0
Left p y z c = LeftAs (written y) p y z c

-- ---- versions ----

pub some_base : (kind : ℕ) (opening from : Version) → after_base kind opening ≡ Some from → is_blank from ≡ false
some_base kind opening from is = by (is_second_kind kind) (kind == 9) opening is
  where
    by : (a b : Bool) (w : Version) → cond (is_blank w) None (cond a (Some Second) (cond (b && is_first w) (Some First) None)) ≡ Some from → is_blank from ≡ false
    by a b Blank e = absurd (cc e)
    by true b First e = subst (λ v. is_blank v ≡ false) (let one : Second ≡ from = cc e in one) refl
    by true b Second e = subst (λ v. is_blank v ≡ false) (let one : Second ≡ from = cc e in one) refl
    by false true First e = subst (λ v. is_blank v ≡ false) (let one : First ≡ from = cc e in one) refl
    by false true Second e = absurd (cc e)
    by false false First e = absurd (cc e)
    by false false Second e = absurd (cc e)

not_none : (n : ℕ) → is_blank (if n == 0 then Blank else Second) ≡ false → (n == 0) ≡ false
not_none n is = by (n == 0) is
  where
    by : (b : Bool) → is_blank (cond b Blank Second) ≡ false → b ≡ false
    by true e = absurd (cc e)
    by false e = refl

-- in a journal with a later segment that is written to there are ops
pub some_ops : (opening : Version) (y : Layout) (z : Slots) (g : Segment) (index : Plain) (b : List ℕ) → IsLater opening (written y) (y.end + 15) z g index b → (y.ops == 0) ≡ false
some_ops opening y z g index b is =
    let cur = is.current in
    not_none y.ops (never_again cur.from (written y) cur.records (some_base cur.kind opening cur.from cur.kind_is) cur.placed)

pub written_more : (opening : Version) (y : Layout) (z : Slots) (a : Option Segment) (rs : List Record) (b : List ℕ) (limit : ℕ) (o : Op) → IsIndexed opening (written y) y z a rs b → written (more y a limit (Now o)) ≡ Second
written_more opening y z None rs b limit o is = let more : (y.ops + 1 == 0) ≡ false = grind (arith, nat_tests) in ap (λ t. cond t Blank Second) more
written_more opening y z (Some g) rs b limit o is = ap (λ t. cond t Blank Second) (some_ops opening y z g y.index b is)

pub more_index : (y : Layout) (a : Option Segment) (limit : ℕ) (v : Record) → (more y a limit v).index ≡ applied y.index (placed_record (gate_in y a + 5) v)
more_index y None limit v = refl
more_index y (Some g) limit v = refl

-- ---- the record ----

module _ (version next : Version) (p : Plain) (y : Layout) (z : Slots) (b : List ℕ) (left : LeftAs version p y z b) (sound : IsSound y) (v : Record) (is_record : IsRecord v) (follows : version_after version v ≡ Some next) (limit : ℕ) (long : HasLimit y.later limit v)
    (apart : (k : ℕ) → Standing y y.later k → (k < gate_in y y.later) ⊎ (gate_in y y.later + 6 + length (record_bytes v) ≤ k)) where
  abbrev body : List ℕ
  body = record_bytes v

  abbrev gate : ℕ
  gate = gate_in y y.later

  abbrev at : ℕ
  at = row_at y.later

  abbrev bodies : List (List ℕ)
  bodies = row_bodies left.lies.first version y z y.later left.lies.records b left.lies.index_is

  row : IsJournal bodies (drop at b)
  row = row_journal left.lies.first version y z left.lies.records b left.lies.end_is y.later left.lies.index_is left.lies.journal

  at_gate : gate ≡ at + length (records bodies)
  at_gate = gate_is left.lies.first version y z left.lies.records b left.lies.end_is y.later left.lies.index_is

  inside : gate + 1 ≤ length b
  inside = row_inside left.lies.first version y z left.lies.records b left.lies.end_is y.later left.lies.index_is left.lies.journal

  at_inside : at ≤ length b
  at_inside = omega (arith, inside, at_gate)

  short : length body < 2 ^ 32
  short = record_fits v is_record

  abbrev Round : List ℕ → Type 0
  Round c = StaysOutside gate (gate + 6 + length body) b c

  index_stays : (c : List ℕ) → Round c → read_plain c y.index ≡ read_plain b y.index
  index_stays c round = index_same y b c sound (λ k at. byte_outside gate (gate + 6 + length body) k b c round (apart k at))

  -- it isn't there
  not_there : (c : List ℕ) → Round c → IsJournal bodies (drop at c) → LeftAs version p y z c
  not_there c round journal =
      let parts = without left.lies.first version y z left.lies.records b left.lies.end_is c (gate + 6 + length body) y.later left.lies.index_is sound.laid.live sound.laid.segment round left.lies.journal journal in
      record {
        lies = record { records = left.lies.records; journal = parts.0; first = left.lies.first; placed = left.lies.placed; ops_is = left.lies.ops_is; end_is = left.lies.end_is; index_is = parts.1 };
        plain = index_stays c round ∙ left.plain;
      }

  round_first : (c : List ℕ) → Torn (gate + 1) (length (behind body)) b c → Round c
  round_first c torn = widened (gate + 1) (gate + 1 + length (behind body)) gate (gate + 6 + length body) b c (omega arith) (omega (arith, length-behind body)) (torn_round (gate + 1) (length (behind body)) b c inside torn)

  round_second : (c : List ℕ) → Torn gate 1 (staged gate body b) c → Round c
  round_second c torn =
      subst (λ k. StaysOutside k (k + 6 + length body) b c) (sym at_gate) (round_it at bodies body b at_inside short row c (inr (subst (λ k. Torn k 1 (staged k body b) c) at_gate torn)))

  -- what is behind the gate is torn
  pub not_staged : (c : List ℕ) → Torn (gate + 1) (length (behind body)) b c → LeftAs version p y z c
  not_staged c torn = not_there c (round_first c torn) (early at bodies body b at_inside short row c (subst (λ k. Torn (k + 1) (length (behind body)) b c) at_gate torn))

  -- its gate was written, and isn't open
  pub not_open : (c : List ℕ) → Torn gate 1 (staged gate body b) c → get_or c gate 0 ≢ 1 → LeftAs version p y z c
  not_open c torn shut = not_there c (round_second c torn)
      (shut_late at bodies body b at_inside short row c (subst (λ k. Torn k 1 (staged k body b) c) at_gate torn) (subst (λ k. get_or c k 0 ≢ 1) at_gate shut))

  -- all its calls were made
  pub there : LeftAs next (applied p v) (more y y.later limit v) z (with_body gate body b)
  there =
      let done = with_body gate body b in
      let round : Round done = subst (λ k. StaysOutside k (k + 6 + length body) b (with_body k body b)) (sym at_gate) (round_done at bodies body b at_inside short row) in
      let journal : IsJournal (bodies ++ body ∷ []) (drop at done) = subst (λ k. IsJournal (bodies ++ body ∷ []) (drop at (with_body k body b))) (sym at_gate) (is_there at bodies body b at_inside short row) in
      let stands = body_there at gate bodies body done at_gate journal in
      record {
        lies = with_more left.lies.first version y z left.lies.records b left.lies.end_is done (gate + 6 + length body) v is_record next follows limit y.later left.lies.index_is sound.laid.live sound.laid.segment round left.lies.journal long left.lies.placed left.lies.ops_is journal;
        plain = ap (read_plain done) (more_index y y.later limit v) ∙ one_read (gate + 5) y.index p v done stands.0 is_record stands.1 (index_stays done round ∙ left.plain);
      }

  -- before its gate is open, its payload is read where it will be
  pub early_read : read_plain (staged gate body b) (more y y.later limit v).index ≡ applied p v
  early_read =
      let now = staged gate body b in
      let stands = body_behind gate body b in
      let round = round_first now (torn_whole (gate + 1) (behind body) b) in
      ap (read_plain now) (more_index y y.later limit v) ∙ one_read (gate + 5) y.index p v now stands.0 is_record stands.1 (index_stays now round ∙ left.plain)

  staged_long : gate < length (staged gate body b)
  staged_long = let stays = written_round (gate + 1) (behind body) b inside in omega (arith, stays.no_shorter, inside)

  -- a crash leaves it out or has it
  pub torn_record : (c : List ℕ) → IsRecordTorn gate body b c → LeftAs version p y z c ⊎ LeftAs next (applied p v) (more y y.later limit v) z c
  torn_record c torn = ⊎_elim
      (λ first. inl (not_staged c first))
      (λ second. elim (cases_eq (get_or c gate 0) 1) [
        | inl is_open ↦ let same : c ≡ with_body gate body b = torn_one gate (staged gate body b) c staged_long second ∙ ap (λ g. overwrite gate (g ∷ []) (staged gate body b)) is_open in
            inr (subst (λ l. LeftAs next (applied p v) (more y y.later limit v) z l) (sym same) there)
        | inr shut ↦ inl (not_open c second shut)
      ])
      torn
