-- What stands behind the records of a segment that were replayed.
use Rattle.std.proofs.Common.{◌≡◌, inl, inr, ◌<◌, ◌+◌, take, drop, ℕ, List, [], ◌∷◌, ◌++◌, length, Option, Bool, Result, Ok, Err, IfOk, true, false, None, Some, sym, ◌∙◌, ap, refl, subst, arith, take-append-drop}
use Rattle.std.specs.Result.{IsErrOf}
use Rattle.std.proofs.lemmas.List.{length-take, length-drop}
use Rattle.ld_journal.specs.Format.{framed, IsCutShort}
use Rattle.ld_journal.specs.Rest.{IsParted, IsShut, BeginsWith}
use Rattle.ld_journal.proofs.Records.{length-framed}
use Rattle.ld_msg.specs.Register.{journal_limit}
use Rattle.ld_op.specs.declared.version.Version.{Version}
use Rattle.ld_op.specs.declared.version.Version.TheVariants.{Blank}
use Rattle.ld_op.specs.Plain.{Plain, unformatted}
use Rattle.ld_op.specs.Cells.{each_plain}
use Rattle.ld_layout.specs.Layout.{room_for}
use Rattle.ld_segment.specs.Slots.{head_bytes}
use Rattle.ld_segment.specs.Ops.{place_behind}
use Rattle.ld_segment.specs.declared.later.Later.{Later}
use Rattle.ld_segment.proofs.Readings.{no_head}
use Rattle.ld_store.specs.Ops.{AreThere, IsBodyOf, IsBodyOrHead, IsDamagedRow, PassesLimit, HasPayloadPast, IsOffBehind, within, least_behind}
use Rattle.ld_store.specs.Replayed.{HasReplayed, Replayed}
use Rattle.ld_store.specs.Read.{IsOut}
use Rattle.ld_store.specs.declared.fault.StoreFault.{StoreFault}
use Rattle.ld_store.specs.declared.replay.Walk.{Walk}
use Rattle.ld_store.proofs.Replaying.{behind, rest_at}
use Rattle.ld_store.proofs.OneLayout.{row_is}

-- a refusal has one fault
pub error_of : {T : Type 0} (a b : StoreFault) → IsErrOf {T = T} (Err a) b → a ≡ b
error_of a b is = cc is

-- what follows from what is read, where it is
pub ok_too : {T E : Type 0} (r : Result T E) (P Q : T → Type 0) → ((v : T) → P v → Q v) → IfOk r P → IfOk r Q
ok_too (Ok v) P Q each has = each v has
ok_too (Err e) P Q each has = tt

-- ---- the beginning ----

pub start : (from : ℕ) (opening : Version) (base : Plain) (bytes : List ℕ) (w : Walk) → from < length bytes → w ≡ record { version = opening; at = from; ops = 0; first = 0 } → HasReplayed from opening base bytes w base
start from opening base bytes w there is = subst (λ x. HasReplayed from opening base bytes x base) (sym is) (record {
  found = [];
  rest = drop from bytes;
  there = record { bytes_are = refl; placed = record { are = tt; version_is = refl } };
  at_is = omega arith;
  some = omega (arith, length-drop from bytes, there);
  ops_is = refl;
  first_is = refl;
  index_is = refl;
})

-- ---- a later segment ----

pub row_in : (from : ℕ) (opening : Version) (place : ℕ) (bytes : List ℕ) → IsDamagedRow IsBodyOrHead from opening place bytes → IsDamagedRow IsBodyOf from opening place bytes
row_in from opening place bytes d = record {
  found = d.found;
  version = d.version;
  rest = d.rest;
  there = d.there;
  place_is = d.place_is;
  cause = elim d.cause [
    | inl cut ↦ inl cut
    | inr other ↦ inr (record { body = other.body; after = other.after; rest_is = other.rest_is; some = other.some; fits = other.fits; none = λ may. other.none (inl may) })
  ];
}

-- a head may not stand there
pub headed_in : (from : ℕ) (opening : Version) (base : Plain) (bytes : List ℕ) (w : Walk) (index : Plain) (head place : ℕ) → place ≡ w.at → Replayed from opening base bytes w index (Some head) → IsDamagedRow IsBodyOf from opening place bytes
headed_in from opening base bytes w index head place is r =
    let has = r.has in
    let begins = r.stops.begins in
    record {
      found = has.found;
      version = w.version;
      rest = has.rest;
      there = has.there;
      place_is = is ∙ has.at_is;
      cause = inr (record { body = head_bytes head; after = begins.after; rest_is = begins.rest_is; some = begins.some; fits = begins.fits; none = λ may. no_head may.found head (sym may.body_is) });
    }

pub past_in : (c : Later) (bytes : List ℕ) (last : Walk) (index : Plain) → Replayed c.gate c.version c.based.index.state bytes last index None → journal_limit < c.gate + 1 + room_for (least_behind c) last.first → PassesLimit c bytes
past_in c bytes last index r past =
    let has = r.has in
    record {
      found = has.found;
      version = last.version;
      journal = row_is (drop c.gate bytes) has.rest has.found c.version last.version has.there.placed has.there.bytes_are r.stops;
      placed = has.there.placed;
      long = subst (λ n. journal_limit < c.gate + 1 + room_for (least_behind c) n) has.first_is past;
    }

pub payload_in : (c : Later) (bytes : List ℕ) (last : Walk) (index : Plain) → Replayed c.gate c.version c.based.index.state bytes last index None → (each_plain (within (length bytes)) index ≡ index → ⊥) → HasPayloadPast c bytes
payload_in c bytes last index r past =
    let has = r.has in
    record {
      found = has.found;
      version = last.version;
      journal = row_is (drop c.gate bytes) has.rest has.found c.version last.version has.there.placed has.there.bytes_are r.stops;
      placed = has.there.placed;
      past = subst (λ p. each_plain (within (length bytes)) p ≡ p → ⊥) has.index_is past;
    }

-- ---- an open gate ----

abbrev first_byte : List ℕ → ℕ
first_byte [] = 0
first_byte (b ∷ bs) = b

pub cut_open : (rest : List ℕ) → IsCutShort rest → IsShut rest → ⊥
cut_open rest cut shut = shut.shut (ap first_byte (sym shut.rest_is ∙ cut.rest_is))

pub begins_open : (body rest : List ℕ) → BeginsWith body rest → IsShut rest → ⊥
begins_open body rest begins shut = shut.shut (ap first_byte (sym shut.rest_is ∙ begins.rest_is))

-- ---- behind the head ----

module _ (bytes : List ℕ) (w : Walk) (closed : Plain) (head : ℕ) (r : Replayed 0 Blank unformatted bytes w closed (Some head)) where
  abbrev after : List ℕ
  after = r.stops.begins.after

  after_at : drop (w.at + 14) bytes ≡ after
  after_at =
      let body = head_bytes head in
      let nine : length body ≡ 9 = omega arith in
      behind w.at 14 (framed body) after bytes (omega (arith, length-framed body, nine)) (rest_at 0 Blank unformatted bytes w closed r.has ∙ r.stops.begins.rest_is)

  parts : take (w.at + 14) bytes ++ after ≡ bytes
  parts = ap (λ l. take (w.at + 14) bytes ++ l) (sym after_at) ∙ take-append-drop (w.at + 14) bytes

  pub head_long : length bytes ≡ length (take (w.at + 14) bytes ++ after)
  head_long = ap (λ (l : List ℕ). length l) (sym parts)

  pub head_parted : {D : Type 0} (seen : D → Option (List ℕ)) (disk : D) → seen disk ≡ Some bytes → IsParted seen disk (w.at + 14) (take (w.at + 14) bytes) after
  head_parted seen disk told = record {
    bytes = told ∙ ap (λ l. Some l) (sym parts);
    place_is = omega (arith, length-take (w.at + 14) bytes, length-drop (w.at + 14) bytes, ap (λ (l : List ℕ). length l) after_at, r.stops.begins.some);
    some = r.stops.begins.some;
  }

  pub later_out : (place : ℕ) → IsOffBehind w.version w.at head after place bytes → IsOut place bytes
  later_out place off =
      let has = r.has in
      let at : w.at ≡ place_behind has.found = omega (arith, has.at_is) in
      inr (record {
        found = has.found;
        version = w.version;
        head = head;
        after = after;
        there = subst (λ rest. AreThere 0 Blank has.found w.version rest bytes) r.stops.begins.rest_is has.there;
        fits = r.stops.fits;
        some = r.stops.begins.some;
        cause = subst (λ k. IsOffBehind w.version k head after place bytes) at off;
      })

pub no_false : {b : Bool} → b ≡ true → b ≡ false → ⊥
no_false is other = absurd (let e = sym is ∙ other in cc)
