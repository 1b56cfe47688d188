-- A record lies within its segment's area, and where it is the first one behind a Base it decides the area's end.
use Rattle.std.proofs.Common.{◌≡◌, ℕ, ◌+◌, ◌<◌, ◌≤◌, max, nat_le, List, [], ◌∷◌, ◌++◌, length, Option, None, Some, Bool, true, false, refl, ap, ◌∙◌, arith}
use Rattle.std.proofs.lemmas.Bool.{or_parts, leb-false}
use Rattle.ld_msg.specs.Register.{record_length}
use Rattle.ld_op.specs.declared.record.Record.{Record}
use Rattle.ld_op.specs.Records.{body_length}
use Rattle.ld_op.specs.Bytes.{record_bytes}
use Rattle.ld_layout.specs.Layout.{Layout, Segment, base_length, least_room, least_for, room_for, full_for, is_full_later, new_segment, switched_to}
use Rattle.ld_segment.specs.Ops.{place_behind}
use Rattle.ld_segment.specs.Lies.{first_length, gate_in}
use Rattle.ld_segment.proofs.Bodies.{record_long}
use Rattle.ld_segment.proofs.Standing.{FitsIn}
use Rattle.ld_segment.proofs.More.{HasLimit}
use Rattle.ld_layout.specs.declared.segment.Growth.{Growth}
use Rattle.ld_layout.specs.declared.segment.Growth.TheVariants.{Still, Based, Wide}

abbrev pub limit_of : Option Segment → ℕ
limit_of None = 0
limit_of (Some g) = g.limit

-- an area has some room in any case
pub some_room : (grows : Growth) (base : ℕ) → least_room ≤ least_for grows base
some_room Still base = omega arith
some_room Based base = omega arith
some_room Wide base = omega arith

-- a record that fits leaves the limit as it is
pub not_past : (g : Segment) (v : Record) → is_full_later (body_length v) (Some g) ≡ false → g.end + record_length (body_length v) < g.limit
not_past g v goes = leb-false g.limit (g.end + record_length (body_length v)) (or_parts (nat_le (max (full_for g.grows) g.based) g.ops) (nat_le g.limit (g.end + record_length (body_length v))) goes).1

stays_by : (end limit x least : ℕ) (rs : List Record) (v : Record) → end + record_length (body_length v) < limit → end + 1 ≡ x + place_behind rs → limit ≡ x + room_for least (first_length rs) → limit ≡ x + room_for least (first_length (rs ++ v ∷ []))
stays_by end limit x least [] v room end_is limit_is = omega (arith, room, end_is, limit_is)
stays_by end limit x least (u ∷ us) v room end_is limit_is = limit_is

pub limit_stays : (a : Option Segment) (v : Record) → is_full_later (body_length v) a ≡ false → HasLimit a (limit_of a) v
limit_stays None v goes = tt
limit_stays (Some g) v goes = λ base rs end_is limit_is. stays_by g.end g.limit (g.place + record_length base + 1) (least_for g.grows base) rs v (not_past g v goes) end_is limit_is

pub fits_area : (y : Layout) (a : Option Segment) (v : Record) → is_full_later (body_length v) a ≡ false → FitsIn (gate_in y a + 6 + length (record_bytes v)) a
fits_area y None v goes = tt
fits_area y (Some g) v goes = omega (arith, not_past g v goes, record_long v)

-- behind a new Base it decides the limit
new_by : (grows : Growth) (place size base end limit : ℕ) (rs : List Record) (v : Record) → end ≡ place + 5 + size → limit ≡ end + 1 + room_for (least_for grows size) 0 → end + 1 ≡ place + record_length base + 1 + place_behind rs
    → limit ≡ place + record_length base + 1 + room_for (least_for grows base) (first_length rs)
    → end + 1 + room_for (least_for grows size) (record_length (body_length v)) ≡ place + record_length base + 1 + room_for (least_for grows base) (first_length (rs ++ v ∷ []))
new_by grows place size base end limit [] v at room end_is limit_is =
    let same : size ≡ base = omega (arith, at, end_is) in
    (λ i. end + 1 + room_for (least_for grows (same i)) (record_length (body_length v))) ∙ ap (λ n. n + room_for (least_for grows base) (record_length (body_length v))) (let all : end + 1 ≡ place + record_length base + 1 = omega (arith, end_is) in all)
new_by Still place size base end limit (u ∷ us) v at room end_is limit_is = absurd (omega (arith, at, room, end_is, limit_is))
new_by Based place size base end limit (u ∷ us) v at room end_is limit_is = absurd (omega (arith, at, room, end_is, limit_is))
new_by Wide place size base end limit (u ∷ us) v at room end_is limit_is = absurd (omega (arith, at, room, end_is, limit_is))

pub limit_new : (y : Layout) (v : Record) → HasLimit (switched_to y (record_length (body_length v)) 0).later (new_segment y (record_length (body_length v)) (record_length (body_length v))).limit v
unfolding switched_to
limit_new y v = λ base rs end_is limit_is.
    let n : ℕ = record_length (body_length v) in
    let old : Segment = new_segment y n 0 in
    let size : ℕ = base_length y.index old.areas in
    let at : old.end ≡ old.place + 5 + size = refl in
    let room : old.limit ≡ old.end + 1 + room_for (least_for y.grows size) 0 = omega arith in
    let new : (new_segment y n n).limit ≡ old.end + 1 + room_for (least_for y.grows size) n = omega arith in
    new ∙ new_by y.grows old.place size base old.end old.limit rs v at room end_is limit_is
