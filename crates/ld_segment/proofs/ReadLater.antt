-- What stands behind a head is read as the segment that it is.
use Rattle.std.proofs.Common.{◌≡◌, ⊎_elim, refl, ℕ, ◌+◌, ◌≤◌, ◌<◌, ◌^◌, ◌==◌, ◌||◌, ◌&&◌, List, [], ◌∷◌, ◌++◌, length, take, drop, Option, Some, None, Bool, cond, true, false, sym, ◌∙◌, ap, subst, arith, take-append-drop, append_assoc, length-append}
use Rattle.std.proofs.lemmas.Bool.Decides.{nat_tests}
use Rattle.std.proofs.lemmas.List.{take_at, length-drop}
use Rattle.ld_table.specs.Table.{find}
use Rattle.ld_table.proofs.Order.{found}
use Rattle.ld_fields.specs.Fields.{Read, Got, Off}
use Rattle.ld_journal.specs.Format.{framed, records, IsJournal}
use Rattle.ld_journal.proofs.Reading.{unframe}
use Rattle.ld_journal.proofs.Records.{length-framed}
use Rattle.ld_op.specs.declared.version.Version.{Version}
use Rattle.ld_op.specs.declared.version.Version.TheVariants.{Blank, First, Second}
use Rattle.ld_op.specs.Plain.{Plain}
use Rattle.ld_op.specs.Records.{is_blank, is_first}
use Rattle.ld_op.specs.Indexed.{IsBasedTable}
use Rattle.ld_layout.specs.Base.{Base, base_bytes, is_base_kind, judge_base, IsBasedArea}
use Rattle.ld_layout.specs.LaidOut.{base_of}
use Rattle.ld_layout.specs.Layout.{Segment, growth_told}
use Rattle.ld_layout.proofs.Lengths.{base_long}
use Rattle.ld_layout.proofs.Bases.{base_judged}
use Rattle.ld_segment.specs.Stays.{StandsAt}
use Rattle.ld_segment.specs.Slots.{Tells}
use Rattle.ld_segment.specs.Bases.{IsBase}
use Rattle.ld_segment.specs.Ops.{bodies_of}
use Rattle.ld_segment.specs.Lies.{Slots, IsOther, after_base, IsCurrent, IsLater}
use Rattle.ld_segment.specs.Found.{slots_of, IsFound}
use Rattle.ld_segment.specs.Later.{IsRecordAt, IsBaseAt, IsThere, HasNoBase, IsDamagedBehind, IsReadAs}
use Rattle.ld_segment.specs.declared.found.Found.{Found}
use Rattle.ld_segment.specs.declared.later.Later.{Later}
use Rattle.ld_segment.proofs.Based.{both_all, is_based}
use Rattle.ld_segment.proofs.NoLoss.{is_nine}
use Rattle.ld_segment.proofs.OneSlot.{told_once}

-- ---- a record at a place ----

split_at : (at : ℕ) (piece bytes : List ℕ) → StandsAt at piece bytes → drop at bytes ≡ piece ++ drop (length piece) (drop at bytes)
split_at at piece bytes stands = sym (take-append-drop (length piece) (drop at bytes)) ∙ ap (λ l. l ++ drop (length piece) (drop at bytes)) stands

one_record : (at : ℕ) (p q bytes : List ℕ) → IsRecordAt at p bytes → IsRecordAt at q bytes → p ≡ q
one_record at p q bytes here there =
    (unframe p q _ _ here.fits there.fits (sym (split_at at (framed p) bytes here.there) ∙ split_at at (framed q) bytes there.there)).0

-- the first of some records
first_there : (at : ℕ) (body : List ℕ) (bodies : List (List ℕ)) (bytes : List ℕ) → IsJournal (body ∷ bodies) (drop at bytes) → IsRecordAt at body bytes
first_there at body bodies bytes journal =
    let split : drop at bytes ≡ framed body ++ (records bodies ++ journal.gate ∷ journal.after) = journal.bytes_are ∙ append_assoc (framed body) (records bodies) (journal.gate ∷ journal.after) in
    record {
      there = ap (λ l. take (length (framed body)) l) split ∙ take_at (framed body) (records bodies ++ journal.gate ∷ journal.after) (length (framed body)) refl;
      behind = omega (arith, sym (length-drop at bytes) ∙ ap length split, length-append (framed body) (records bodies ++ journal.gate ∷ journal.after), length-framed body, length-append (records bodies) (journal.gate ∷ journal.after));
      fits = journal.fits 0 [] (omega arith);
    }

-- ---- a Base ----

kind_fits : (kind : ℕ) (opening from : Version) → after_base kind opening ≡ Some from → (kind < 256) × (is_base_kind kind ≡ true)
kind_fits kind opening from is = by (kind == 13) (kind == 14) (kind == 15) (kind == 9) refl refl refl refl opening is
  where
    by : (a c d b : Bool) → (kind == 13) ≡ a → (kind == 14) ≡ c → (kind == 15) ≡ d → (kind == 9) ≡ b → (w : Version) → cond (is_blank w) None (cond (a || (c || d)) (Some Second) (cond (b && is_first w) (Some First) None)) ≡ Some from → (kind < 256) × ((b || (a || (c || d))) ≡ true)
    by true c d true thirteen fourteen fifteen nine w e = (grind (arith, nat_tests), refl)
    by true c d false thirteen fourteen fifteen nine w e = (grind (arith, nat_tests), refl)
    by false true d true thirteen fourteen fifteen nine w e = (grind (arith, nat_tests), refl)
    by false true d false thirteen fourteen fifteen nine w e = (grind (arith, nat_tests), refl)
    by false false true true thirteen fourteen fifteen nine w e = (grind (arith, nat_tests), refl)
    by false false true false thirteen fourteen fifteen nine w e = (grind (arith, nat_tests), refl)
    by false false false true thirteen fourteen fifteen nine w e = (grind (arith, nat_tests), refl)
    by false false false false thirteen fourteen fifteen nine Blank e = absurd (cc e)
    by false false false false thirteen fourteen fifteen nine First e = absurd (cc e)
    by false false false false thirteen fourteen fifteen nine Second e = absurd (cc e)

areas_are : (p : Plain) (areas : List (ℕ × ℕ)) → IsBase p areas → IsBasedTable IsBasedArea areas
areas_are p areas is = record {
  rise = is.sorted;
  few = omega (arith, is.fits);
  each = both_all (λ a. find a.0 areas ≡ Some a.1) (λ a. find a.0 areas ≡ Some a.1) IsBasedArea areas (λ a at same. (let ends = is.ends a.0 a.1 at in record { place = omega (arith, ends); length = omega (arith, ends) })) (found areas is.sorted) (found areas is.sorted);
}

abbrev pub base_in : ℕ → Plain → List (ℕ × ℕ) → Base
base_in kind p areas = record { kind = kind; index = p; areas = areas }

module _ (opening version : Version) (g : Segment) (index : Plain) (bytes : List ℕ) (is : IsCurrent opening version g index bytes) where
  abbrev body : List ℕ
  body = base_bytes is.kind is.base g.areas

  pub base_there : IsBaseAt opening g.place (base_in is.kind is.base g.areas) is.from bytes
  base_there =
      let kind = kind_fits is.kind opening is.from is.kind_is in
      record {
        body = body;
        there = first_there g.place body (bodies_of is.records) bytes is.journal;
        based = base_judged is.kind is.base g.areas kind.0 kind.1 (is_based (is.kind == 9) is.base g.areas is.is_base (λ nine. is.older (is_nine is.kind nine))) (areas_are is.base g.areas is.is_base);
        version_is = is.kind_is;
      }

abbrev value_or : Base → Read Base → Base
value_or other (Got b next) = b
value_or other (Off place) = other

abbrev version_or : Version → Option Version → Version
version_or other None = other
version_or other (Some w) = w

module _ (opening : Version) (at : ℕ) (a b : Base) (v w : Version) (bytes : List ℕ) (here : IsBaseAt opening at a v bytes) (there : IsBaseAt opening at b w bytes) where
  same_body : here.body ≡ there.body
  same_body = one_record at here.body there.body bytes here.there there.there

  pub same_base : a ≡ b
  same_base = sym (ap (value_or a) here.based) ∙ ap (λ l. value_or a (judge_base l)) same_body ∙ ap (value_or a) there.based

  pub same_version : v ≡ w
  same_version = sym (ap (version_or v) here.version_is) ∙ ap (λ c. version_or v (after_base c.kind opening)) same_base ∙ ap (version_or v) there.version_is

-- ---- what was read ----

module _ (opening version : Version) (head : ℕ) (z : Slots) (g : Segment) (index : Plain) (bytes : List ℕ) (is : IsLater opening version head z g index bytes) (number_fits : g.number < 2 ^ 64) (place_fits : g.place < 2 ^ 64) where
  abbrev cur : IsCurrent opening version g index bytes
  cur = is.current

  same_slot : (c : Found) → IsFound head c bytes → ((c.this ≡ z.this) × (c.other ≡ z.other)) × ((c.number ≡ g.number) × (c.place ≡ g.place))
  same_slot c found = told_once head c.number c.place g.number g.place (slots_of c) z bytes found.at is.at found.tells is.tells found.number_fits found.place_fits number_fits place_fits

  module _ (c : Later) (there : IsThere opening head c bytes) where
    slot : ((c.found.this ≡ z.this) × (c.found.other ≡ z.other)) × ((c.found.number ≡ g.number) × (c.found.place ≡ g.place))
    slot = same_slot c.found there.found

    base : IsBaseAt opening c.found.place (base_in cur.kind cur.base g.areas) cur.from bytes
    base = subst (λ k. IsBaseAt opening k (base_in cur.kind cur.base g.areas) cur.from bytes) (sym slot.1.1) (base_there opening version g index bytes cur)

    is_same : base_of c.based ≡ base_in cur.kind cur.base g.areas
    is_same = same_base opening c.found.place (base_of c.based) (base_in cur.kind cur.base g.areas) c.version cur.from bytes there.base base

    pub read_as : IsReadAs c z g cur.kind cur.base cur.from
    read_as = record {
      slots = slot.0;
      number = slot.1.0;
      place = slot.1.1;
      kind_is = ap (λ b. b.kind) is_same;
      index = ap (λ b. b.index) is_same;
      areas = ap (λ b. b.areas) is_same;
      version_is = same_version opening c.found.place (base_of c.based) (base_in cur.kind cur.base g.areas) c.version cur.from bytes there.base base;
      gate_is =
          let body = one_record c.found.place there.base.body (base_bytes cur.kind cur.base g.areas) bytes there.base.there (subst (λ k. IsRecordAt k (base_bytes cur.kind cur.base g.areas) bytes) (sym slot.1.1) (first_there g.place (base_bytes cur.kind cur.base g.areas) (bodies_of cur.records) bytes cur.journal)) in
          omega (arith, there.gate_is, ap length body, base_long cur.kind cur.base g.areas, slot.1.1);
    }

    -- the segment with the slots as they were read
    pub read_kept : IsLater opening version head (slots_of c.found) g index bytes
    read_kept = record {
      at = there.found.at;
      tells = subst (λ k. Tells c.found.this c.found.other g.number k bytes) slot.1.1 (subst (λ n. Tells c.found.this c.found.other n c.found.place bytes) slot.1.0 there.found.tells);
      other = subst (λ n. IsOther c.found.is_open c.found.other n bytes) slot.1.0 there.found.rest;
      current = is.current;
      within = is.within;
    }

  -- it isn't refused
  pub not_refused : (place : ℕ) → head + 34 ≤ g.place → IsDamagedBehind opening head place bytes → ⊥
  not_refused place behind damaged = ⊎_elim
      (λ none. ⊎_elim
      (λ short. absurd (omega (arith, short.1, behind, inside)))
      (λ rest. ⊎_elim (λ short. absurd (omega (arith, short.1, behind, inside))) (λ told. told.1 z g.number g.place is.at number_fits is.tells) rest)
      none)
      (λ base.
      let slot = same_slot base.0 base.1 in
      base.3 (base_in cur.kind cur.base g.areas) cur.from (subst (λ k. IsBaseAt opening k (base_in cur.kind cur.base g.areas) cur.from bytes) (sym slot.1.1 ∙ sym base.2) (base_there opening version g index bytes cur)))
      damaged
    where
      inside : g.place < length bytes
      inside = let there = first_there g.place (base_bytes cur.kind cur.base g.areas) (bodies_of cur.records) bytes cur.journal in omega (arith, there.behind)

-- ---- what a read body says ----

-- the body that stands there is the one that was read
pub no_base : (opening : Version) (at place : ℕ) (body bytes : List ℕ) → place ≡ at → IsRecordAt at body bytes
    → ((b : Base) (version : Version) → judge_base body ≡ Got b (length body) → after_base b.kind opening ≡ Some version → ⊥) → HasNoBase opening place bytes
no_base opening at place body bytes here there none b version is =
    let same = one_record place is.body body bytes is.there (subst (λ k. IsRecordAt k body bytes) (sym here) there) in
    none b version (subst (λ l. judge_base l ≡ Got b (length l)) same is.based) is.version_is
