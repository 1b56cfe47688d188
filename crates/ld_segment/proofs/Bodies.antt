-- Records as bodies of a journal.
use Rattle.std.proofs.Common.{◌≡◌, ◌≢◌, ◌<◌, ◌≤◌, ◌+◌, ◌*◌, ◌^◌, ℕ, List, [], ◌∷◌, ◌++◌, length, sym, ◌∙◌, ap, refl, subst, arith, true, false, Bool, not, cond, Option, Some, None, length-append}
use Rattle.std.proofs.lemmas.List.Elements.{All-nil, All-cons}
use Rattle.byteorder.specs.Endian.{big_bytes}
use Rattle.ld_journal.specs.Format.{records, Fits, framed}
use Rattle.ld_msg.specs.Register.{record_length}
use Rattle.ld_msg.specs.declared.msg.What.{What}
use Rattle.ld_msg.specs.declared.msg.What.TheVariants.{Rec, Hole, Bridge, Plug, Withheld}
use Rattle.ld_msg.specs.declared.msg.Entry.{Entry}
use Rattle.ld_msg.specs.Bounds.{AreEntries, IsShort}
use Rattle.ld_op.specs.declared.op.Op.{Op}
use Rattle.ld_op.specs.declared.op.Op.TheVariants as ops
use Rattle.ld_op.specs.declared.record.Record.{Record}
use Rattle.ld_op.specs.declared.record.Record.TheVariants.{Now, Before, Mark}
use Rattle.ld_op.specs.declared.version.Version.{Version}
use Rattle.ld_op.specs.declared.version.Version.TheVariants.{Blank, First, Second}
use Rattle.ld_op.specs.Plain.{Plain, unformatted, op_length, what_length, entry_length, entries_length, epochs_length}
use Rattle.ld_op.specs.Records.{applied, is_format, is_clean, is_blank, version_after, older_length, body_length}
use Rattle.ld_op.specs.Bounds.{IsOp, IsRecord}
use Rattle.ld_fields.specs.Fields.{Read, Got, Off}
use Rattle.ld_fields.specs.Items.{what_bytes, entry_bytes, entries_bytes}
use Rattle.ld_op.specs.Bytes.{op_bytes, older_bytes, record_bytes, epochs_bytes, judge}
use Rattle.ld_op.proofs.Spelling.{judge-record_bytes}
use Rattle.ld_segment.specs.Ops.{bodies_of, applied_all, state_after, place_behind, op_count, placed_record, indexed, are_none, next_version, version_on, AreRecords, ArePlaced}

-- ---- one record from its bytes ----

abbrev record_in : Record → Read Record → Record
record_in other (Got v next) = v
record_in other (Off place) = other

pub same_record : (u v : Record) → IsRecord u → IsRecord v → record_bytes u ≡ record_bytes v → u ≡ v
same_record u v is_u is_v same = ap (record_in u) (sym (judge-record_bytes u is_u) ∙ ap judge same ∙ judge-record_bytes v is_v)

none_or_some : (o : Option Version) (w : Version) → o ≡ None → o ≡ Some w → ⊥
none_or_some o w none some = absurd (let e = sym none ∙ some in cc)

-- a record that may not stand somewhere: its bytes are none's that may
pub other_place : (u : Record) (x : Version) (body : List ℕ) → IsRecord u → body ≡ record_bytes u → version_after x u ≡ None → (v : Record) (w : Version) → IsRecord v → version_after x v ≡ Some w → body ≢ record_bytes v
other_place u x body is_u here none v w is_v some there = none_or_some (version_after x u) w none (ap (version_after x) (same_record u v is_u is_v (sym here ∙ there)) ∙ some)

-- ---- lengths ----

what_long : (w : What) → length (what_bytes w) ≡ 1 + what_length w
what_long (Rec p) = omega (arith, length-append (big_bytes 2 (length p)) p)
what_long Hole = refl
what_long Bridge = refl
what_long Plug = refl
what_long Withheld = refl

entry_long : (e : Entry) → length (entry_bytes e) ≡ entry_length e
entry_long e = omega (arith, what_long e.what)

entries_long : (es : List Entry) → length (entries_bytes es) ≡ entries_length es
entries_long [] = refl
entries_long (e ∷ es) = omega (arith, length-append (entry_bytes e) (entries_bytes es), entry_long e, entries_long es)

epochs_long : (ds : List (ℕ × ℕ)) → length (epochs_bytes ds) ≡ epochs_length ds
epochs_long [] = refl
epochs_long (d ∷ ds) = omega (arith, epochs_long ds)

op_long : (o : Op) → length (op_bytes o) ≡ op_length o
unfolding op_bytes op_length
op_long (ops.Format generation epochs) = omega (arith, epochs_long epochs)
op_long (ops.Accept l lng e) = omega (arith, entry_long e)
op_long (ops.Seal l b) = refl
op_long (ops.Clean l epoch y) = refl
op_long (ops.Trim l t) = refl
op_long (ops.Refill l es) = omega (arith, entries_long es)
op_long (ops.Refilled l) = refl

what_short : (w : What) → IsShort w → what_length w ≤ 65537
what_short (Rec p) short = omega (arith, short)
what_short Hole short = omega arith
what_short Bridge short = omega arith
what_short Plug short = omega arith
what_short Withheld short = omega arith

entries_short : (es : List Entry) → AreEntries es → entries_length es ≤ length es * 65550
entries_short [] are = omega arith
entries_short (e ∷ es) are = omega (arith, what_short e.what are.0.short, entries_short es are.1)

epochs_short : (ds : List (ℕ × ℕ)) → epochs_length ds ≡ length ds * 8
epochs_short [] = refl
epochs_short (d ∷ ds) = omega (arith, epochs_short ds)

op_short : (o : Op) → IsOp o → op_length o < 2 ^ 32
unfolding op_length
op_short (ops.Format generation epochs) is = omega (arith, epochs_short epochs, is.1)
op_short (ops.Accept l lng e) is = omega (arith, what_short e.what is.2.short)
op_short (ops.Seal l b) is = omega arith
op_short (ops.Clean l epoch y) is = omega arith
op_short (ops.Trim l t) is = omega arith
op_short (ops.Refill l es) is = omega (arith, entries_short es is.3, is.2)
op_short (ops.Refilled l) is = omega arith

older_long : (o : Op) → length (older_bytes o) ≡ older_length o
unfolding older_bytes older_length
older_long (ops.Format generation epochs) = omega (arith, epochs_long epochs)
older_long (ops.Accept l lng e) = refl
older_long (ops.Seal l b) = refl
older_long (ops.Clean l epoch y) = refl
older_long (ops.Trim l t) = refl
older_long (ops.Refill l es) = refl
older_long (ops.Refilled l) = refl

older_short : (o : Op) → IsOp o → older_length o < 2 ^ 32
unfolding older_length
older_short (ops.Format generation epochs) is = omega (arith, epochs_short epochs, is.1)
older_short (ops.Accept l lng e) is = omega arith
older_short (ops.Seal l b) is = omega arith
older_short (ops.Clean l epoch y) is = omega arith
older_short (ops.Trim l t) is = omega arith
older_short (ops.Refill l es) is = omega arith
older_short (ops.Refilled l) is = omega arith

pub record_long : (v : Record) → length (record_bytes v) ≡ body_length v
record_long (Now o) = op_long o
record_long (Before o) = older_long o
record_long Mark = refl

record_short : (v : Record) → IsRecord v → body_length v < 2 ^ 32
record_short (Now o) is = op_short o is
record_short (Before o) is = older_short o is.0
record_short Mark is = omega arith

pub record_fits : (v : Record) → IsRecord v → length (record_bytes v) < 2 ^ 32
record_fits v is = omega (arith, record_long v, record_short v is)

-- ---- lists of records ----

pub bodies-push : (vs : List Record) (v : Record) → bodies_of (vs ++ v ∷ []) ≡ bodies_of vs ++ record_bytes v ∷ []
bodies-push [] v = refl
bodies-push (u ∷ vs) v = ap (λ l. record_bytes u ∷ l) (bodies-push vs v)

all-push : (p : Plain) (vs : List Record) (v : Record) → applied_all p (vs ++ v ∷ []) ≡ applied (applied_all p vs) v
all-push p [] v = refl
all-push p (u ∷ vs) v = all-push (applied p u) vs v

pub state-push : (vs : List Record) (v : Record) → state_after (vs ++ v ∷ []) ≡ applied (state_after vs) v
state-push vs v = all-push unformatted vs v

pub are-push : (vs : List Record) (v : Record) → AreRecords vs → IsRecord v → AreRecords (vs ++ v ∷ [])
are-push [] v are is = (is, tt)
are-push (u ∷ vs) v are is = (are.0, are-push vs v are.1 is)

on-push : (o : Option Version) (vs : List Record) (v : Record) → version_on o (vs ++ v ∷ []) ≡ next_version (version_on o vs) v
on-push o [] v = refl
on-push o (u ∷ vs) v = on-push (next_version o u) vs v

-- a record more, that may follow
pub placed-push : (from to next : Version) (vs : List Record) (v : Record) → ArePlaced from vs to → IsRecord v → version_after to v ≡ Some next → ArePlaced from (vs ++ v ∷ []) next
placed-push from to next vs v placed is follows = record {
  are = are-push vs v placed.are is;
  version_is = on-push (Some from) vs v ∙ ap (λ o. next_version o v) placed.version_is ∙ follows;
}

pub place-push : (vs : List Record) (v : Record) → place_behind (vs ++ v ∷ []) ≡ place_behind vs + record_length (body_length v)
place-push [] v = omega arith
place-push (u ∷ vs) v = omega (arith, place-push vs v)

-- an op counts, and a mark doesn't
abbrev pub counts_as : Record → ℕ
counts_as (Now o) = 1
counts_as (Before o) = 1
counts_as Mark = 0

pub count-push : (vs : List Record) (v : Record) → op_count (vs ++ v ∷ []) ≡ op_count vs + counts_as v
count-push [] (Now o) = omega arith
count-push [] (Before o) = omega arith
count-push [] Mark = omega arith
count-push (Now o ∷ vs) v = omega (arith, count-push vs v)
count-push (Before o ∷ vs) v = omega (arith, count-push vs v)
count-push (Mark ∷ vs) v = count-push vs v

-- the index with a record more, whose gate is the one behind the others
pub indexed-push : (gate : ℕ) (p : Plain) (vs : List Record) (v : Record) → indexed gate p (vs ++ v ∷ []) ≡ applied (indexed gate p vs) (placed_record (gate + place_behind vs + 5) v)
indexed-push gate p [] v = let none : gate + 5 ≡ gate + 0 + 5 = omega arith in ap (λ k. applied p (placed_record k v)) none
indexed-push gate p (u ∷ vs) v =
    let step : gate + record_length (body_length u) + place_behind vs + 5 ≡ gate + (record_length (body_length u) + place_behind vs) + 5 = omega arith in
    indexed-push (gate + record_length (body_length u)) (applied p (placed_record (gate + 5) u)) vs v
    ∙ ap (λ k. applied (indexed (gate + record_length (body_length u)) (applied p (placed_record (gate + 5) u)) vs) (placed_record k v)) step

pub some-push : (vs : List Record) (v : Record) → are_none (vs ++ v ∷ []) ≡ false
some-push [] v = refl
some-push (u ∷ vs) v = refl

pub places : (vs : List Record) → length (records (bodies_of vs)) ≡ place_behind vs
places [] = refl
places (v ∷ vs) = omega (arith, length-append (framed (record_bytes v)) (records (bodies_of vs)), record_long v, places vs)

pub records_fit : (vs : List Record) → AreRecords vs → Fits (bodies_of vs)
records_fit [] are = All-nil (λ body. length body < 2 ^ 32)
records_fit (v ∷ vs) are = All-cons (λ body. length body < 2 ^ 32) (record_bytes v) (bodies_of vs) (record_fits v are.0) (records_fit vs are.1)

-- ---- versions ----

pub same_version : (x w : Version) → Some x ≡ Some w → x ≡ w
same_version x w e = cc

some_if : (b : Bool) (x w : Version) → cond b (Some x) None ≡ Some w → x ≡ w
some_if true x w e = cc
some_if false x w e = absurd cc

not_blank : (b : Bool) (x w : Version) → is_blank x ≡ false → cond b (Some x) None ≡ Some w → is_blank w ≡ false
not_blank b x w n e = subst (λ y. is_blank y ≡ false) (some_if b x w e) n

-- behind a record no journal is blank
never_blank : (x : Version) (v : Record) (w : Version) → version_after x v ≡ Some w → is_blank w ≡ false
never_blank Blank (Now o) w e = not_blank (is_format o) Second w refl e
never_blank Blank (Before o) w e = not_blank (is_format o) First w refl e
never_blank Blank Mark w e = absurd cc
never_blank First (Now o) w e = not_blank _ First w refl e
never_blank First (Before o) w e = not_blank (is_clean o) First w refl e
never_blank First Mark w e = subst (λ y. is_blank y ≡ false) (same_version Second w e) refl
never_blank Second (Now o) w e = not_blank _ Second w refl e
never_blank Second (Before o) w e = absurd cc
never_blank Second Mark w e = absurd cc

pub none_on : (vs : List Record) (w : Version) → version_on None vs ≡ Some w → ⊥
none_on [] w e = absurd cc
none_on (v ∷ vs) w e = none_on vs w e

on_next : (o : Option Version) (x : Version) (v : Record) (vs : List Record) (w : Version) → version_after x v ≡ o → ((y : Version) → is_blank y ≡ false → version_on (Some y) vs ≡ Some w → is_blank w ≡ false) → version_on o vs ≡ Some w → is_blank w ≡ false
on_next None x v vs w h g e = absurd (none_on vs w e)
on_next (Some y) x v vs w h g e = g y (never_blank x v y h) e

stays_some : (x : Version) (vs : List Record) (w : Version) → is_blank x ≡ false → version_on (Some x) vs ≡ Some w → is_blank w ≡ false
stays_some x [] w n e = subst (λ y. is_blank y ≡ false) (same_version x w e) n
stays_some x (v ∷ vs) w n e = on_next (version_after x v) x v vs w refl (λ y m f. stays_some y vs w m f) e

-- a journal is blank exactly where no record stands in it
pub blank_is : (vs : List Record) (w : Version) → version_on (Some Blank) vs ≡ Some w → is_blank w ≡ are_none vs
blank_is [] w e = ap is_blank (sym (same_version Blank w e))
blank_is (v ∷ vs) w e = on_next (version_after Blank v) Blank v vs w refl (λ y m f. stays_some y vs w m f) e

-- behind one that isn't blank none is
pub never_again : (x w : Version) (vs : List Record) → is_blank x ≡ false → ArePlaced x vs w → is_blank w ≡ false
never_again x w vs other placed = stays_some x vs w other placed.version_is

-- an op may follow a journal that is blank or of the second version, where it is a format or isn't
pub op_follows : (o : Op) (blank : Bool) → is_format o ≡ blank → version_after (cond blank Blank Second) (Now o) ≡ Some Second
op_follows o true e = ap (λ b. cond b (Some Second) None) e
op_follows o false e = ap (λ b. cond (not b) (Some Second) None) e
