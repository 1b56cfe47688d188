-- Whether records stand in a journal, by its version.
use Rattle.std.proofs.Common.{◌≡◌, ⊎_elim, ◌==◌, ℕ, List, [], ◌∷◌, ◌++◌, Option, Some, None, Bool, true, false, cond, refl, sym, ◌∙◌, ap, subst, arith}
use Rattle.std.proofs.lemmas.Bool.Decides.{nat_tests}
use Rattle.ld_journal.specs.Format.{framed, records, IsJournal}
use Rattle.ld_journal.proofs.Reading.{one_reading}
use Rattle.ld_op.specs.declared.record.Record.{Record}
use Rattle.ld_op.specs.declared.record.Record.TheVariants.{Now, Before, Mark}
use Rattle.ld_op.specs.declared.version.Version.{Version}
use Rattle.ld_op.specs.declared.version.Version.TheVariants.{Blank, First, Second}
use Rattle.ld_op.specs.Plain.{Plain}
use Rattle.ld_op.specs.Records.{is_blank, is_first}
use Rattle.ld_layout.specs.Layout.{Layout, Segment}
use Rattle.ld_segment.specs.Slots.{head_bytes}
use Rattle.ld_segment.specs.Ops.{bodies_of, op_count, are_none, version_on}
use Rattle.ld_segment.specs.Lies.{Slots, LiesAs, IsIndexed, after_base, written}
use Rattle.ld_segment.proofs.Bodies.{blank_is, never_again, none_on}
use Rattle.ld_segment.proofs.Kept.{some_base}
use Rattle.ld_store.specs.Read.{IsFirstRead, IsLaterRead, IsRead}
use Rattle.ld_store.specs.Opened.{IsBlank}
use Rattle.ld_store.specs.declared.laid.Laid.{Laid}
use Rattle.ld_store.proofs.OneLayout.{row_is}

-- the first record is an op
count_some : (vs : List Record) (w : Version) → version_on (Some Blank) vs ≡ Some w → (op_count vs == 0) ≡ are_none vs
count_some [] w e = refl
count_some (Now o ∷ vs) w e = grind (arith, nat_tests)
count_some (Before o ∷ vs) w e = grind (arith, nat_tests)
count_some (Mark ∷ vs) w e = absurd (none_on vs w e)

opening_some : (kind : ℕ) (opening from : Version) → after_base kind opening ≡ Some from → is_blank opening ≡ false
opening_some kind Blank from e = absurd (cc e)
opening_some kind First from e = refl
opening_some kind Second from e = refl

pub blank_lies : (v : Version) (y : Layout) (z : Slots) (bytes : List ℕ) → LiesAs v y z bytes → is_blank v ≡ (y.ops == 0)
blank_lies v y z bytes lies = by y.later lies.index_is
  where
    first_is : is_blank lies.first ≡ (y.ops == 0)
    first_is = blank_is lies.records lies.first lies.placed.version_is ∙ sym (count_some lies.records lies.first lies.placed.version_is) ∙ ap (λ n. n == 0) (sym lies.ops_is)

    by : (a : Option Segment) → IsIndexed lies.first v y z a lies.records bytes → is_blank v ≡ (y.ops == 0)
    by None is = ap is_blank is.0 ∙ first_is
    by (Some g) is =
        let cur = is.current in
        never_again cur.from v cur.records (some_base cur.kind lies.first cur.from cur.kind_is) cur.placed ∙ sym (sym first_is ∙ opening_some cur.kind lies.first cur.from cur.kind_is)

-- a journal that isn't of the first version is one that is written to
pub written_is : (v : Version) (y : Layout) (z : Slots) (bytes : List ℕ) → LiesAs v y z bytes → is_first v ≡ false → v ≡ written y
written_is v y z bytes lies other = by v (y.ops == 0) (blank_lies v y z bytes lies) other
  where
    by : (w : Version) (b : Bool) → is_blank w ≡ b → is_first w ≡ false → w ≡ cond b Blank Second
    by Blank true is none = refl
    by Blank false is none = absurd (cc is)
    by First b is none = absurd (cc none)
    by Second true is none = absurd (cc is)
    by Second false is none = refl

-- ---- what was read ----

none_found : (vs : List Record) → are_none vs ≡ true → vs ≡ []
none_found [] is = refl
none_found (v ∷ vs) is = absurd (cc is)

none_bodies : (vs : List Record) → [] ≡ bodies_of vs → are_none vs ≡ true
none_bodies [] is = refl
none_bodies (v ∷ vs) is = absurd (cc is)

not_both : (b : Bool) → b ≡ true → b ≡ false → ⊥
not_both true is other = absurd (cc other)
not_both false is other = absurd (cc is)

abbrev first_byte : List ℕ → ℕ
first_byte [] = 0
first_byte (b ∷ bs) = b

begins_open : (vs : List Record) (head after : List ℕ) → first_byte (records (bodies_of vs) ++ (framed head ++ after)) ≡ 1
begins_open [] head after = refl
begins_open (v ∷ vs) head after = refl

first_blank : (bytes : List ℕ) (l : Laid) (index : Plain) (version : Version) → IsFirstRead bytes l index version → IsBlank (is_blank version) bytes
first_blank bytes l index version r =
    let has = r.all.has in
    let here : IsJournal (bodies_of has.found) bytes = row_is bytes has.rest has.found Blank r.walk.version has.there.placed has.there.bytes_are r.all.stops in
    let blank : is_blank version ≡ are_none has.found = ap is_blank r.version_is ∙ blank_is has.found r.walk.version has.there.placed.version_is in
    record {
      none = λ is. record { journal = subst (λ vs. IsJournal (bodies_of vs) bytes) (none_found has.found (sym blank ∙ is)) here; version = Blank; placed = record { are = tt; version_is = refl } };
      some = λ is j. not_both (is_blank version) (blank ∙ none_bodies has.found (one_reading bytes [] (bodies_of has.found) j.journal here)) is;
    }

later_blank : (bytes : List ℕ) (l : Laid) (index : Plain) (version : Version) → IsLaterRead bytes l index version → IsBlank (is_blank version) bytes
later_blank bytes l index version r =
    let has = r.first.has in
    let begins = r.first.stops.begins in
    let base = r.there.base in
    let some : is_blank version ≡ false = ap is_blank r.version_is ∙ never_again r.later.version r.last.version r.rest.has.found (some_base r.later.based.kind r.walk.version r.later.version base.version_is) r.rest.has.there.placed in
    record {
      none = λ is. absurd (not_both (is_blank version) is some);
      some = λ is j. j.journal.shut (ap first_byte (sym j.journal.bytes_are ∙ has.there.bytes_are ∙ ap (λ l. records (bodies_of has.found) ++ l) begins.rest_is) ∙ begins_open has.found (head_bytes r.head) begins.after);
    }

pub blank_read : (bytes : List ℕ) (l : Laid) (index : Plain) (version : Version) → IsRead bytes l index version → IsBlank (is_blank version) bytes
blank_read bytes l index version read = ⊎_elim (λ r. first_blank bytes l index version r) (λ r. later_blank bytes l index version r) read
