-- Bytes that represent a plain state are read without damage.
use Rattle.std.proofs.Common.{◌≡◌, inl, ⊎_elim, ◌<◌, ◌≤◌, ◌+◌, ◌^◌, drop, ℕ, List, [], ◌∷◌, ◌++◌, length, Option, Some, None, is_some, true, sym, ◌∙◌, ap, refl, subst, arith, append_assoc}
use Rattle.std.proofs.lemmas.List.Elements.{All-nil}
use Rattle.ld_journal.specs.Format.{framed, IsJournal, Fits}
use Rattle.ld_journal.specs.Rest.{IsShut}
use Rattle.ld_journal.proofs.Reading.{behind_them, not_both}
use Rattle.ld_journal.proofs.Records.{records-push, fits-push}
use Rattle.ld_op.specs.declared.record.Record.{Record}
use Rattle.ld_op.specs.declared.version.Version.{Version}
use Rattle.ld_op.specs.declared.version.Version.TheVariants.{Blank}
use Rattle.ld_op.specs.Bytes.{record_bytes}
use Rattle.ld_layout.specs.Areas.{AreLive}
use Rattle.ld_layout.specs.Layout.{Layout, Segment, IfSegment, head_end, live_areas}
use Rattle.ld_segment.specs.Slots.{head_bytes}
use Rattle.ld_segment.specs.Ops.{bodies_of, next_version, version_on, AreRecords, ArePlaced}
use Rattle.ld_segment.specs.Lies.{Slots, LiesAs, IsSound, IfBounded, head_of}
use Rattle.ld_segment.proofs.Bodies.{same_record, same_version, records_fit}
use Rattle.ld_segment.proofs.Readings.{no_head}
use Rattle.ld_segment.proofs.Standing.{head_before}
use Rattle.ld_store.specs.Ops.{AreThere, IsBodyOf, IsDamagedRow}
use Rattle.ld_store.proofs.Heads.{names_one}

abbrev front_of : List (List ℕ) → List ℕ
front_of [] = []
front_of (b ∷ bs) = b

abbrev tail_of : List (List ℕ) → List (List ℕ)
tail_of [] = []
tail_of (b ∷ bs) = bs

-- ---- the body behind some records may stand there ----

-- records that have a version begin at one
started : (o : Option Version) (us : List Record) (w : Version) → version_on o us ≡ Some w → (x : Version) × (o ≡ Some x)
started None [] w is = absurd (cc is)
started None (u ∷ us) w is = started None us w is
started (Some x) us w is = (x, refl)

module _ (May : Version → List ℕ → Type 0) (each : (v : Version) (body : List ℕ) → IsBodyOf v body → May v body) (tails : List (List ℕ)) (first : Version)
    (fine : (q : List ℕ) (more : List (List ℕ)) → tails ≡ q ∷ more → May first q) (none : (u : Record) (more : List (List ℕ)) → tails ≡ record_bytes u ∷ more → ⊥) where
  next_may : (o : Option Version) (v : Version) (us vs : List Record) (q : List ℕ) (more : List (List ℕ)) → AreRecords us → AreRecords vs → version_on o us ≡ Some first → version_on o vs ≡ Some v
      → bodies_of us ++ tails ≡ bodies_of vs ++ q ∷ more → May v q
  next_may o v [] [] q more a b on_us on_vs same = subst (λ w. May w q) (same_version first v (sym on_us ∙ on_vs)) (fine q more same)
  next_may o v [] (w ∷ vs) q more a b on_us on_vs same = absurd (none w (bodies_of vs ++ q ∷ more) same)
  next_may o v (u ∷ us) [] q more a b on_us on_vs same =
      let s = started (next_version o u) us first on_us in
      each v q (record { found = u; next = s.0; is = a.0; next_is = ap (λ w. next_version w u) (sym on_vs) ∙ s.1; body_is = sym (ap front_of same) })
  next_may o v (u ∷ us) (w ∷ vs) q more a b on_us on_vs same =
      let one : u ≡ w = same_record u w a.0 b.0 (ap front_of same) in
      next_may (next_version o u) v us vs q more a.1 b.1 on_us (ap (λ x. version_on (next_version o x) vs) one ∙ on_vs) (ap tail_of same)

-- a journal whose first record is this one has its body first
first_body : (more : List (List ℕ)) (body after : List ℕ) → length body < 2 ^ 32 → IsJournal more (framed body ++ after) → (rest : List (List ℕ)) × (more ≡ body ∷ rest)
first_body more body after fits journal =
    let behind = behind_them (body ∷ []) more (framed body ++ after) after (fits-push [] body (All-nil (λ b. length b < 2 ^ 32)) fits) (sym (append_assoc (framed body) [] after)) journal in
    (behind.more, behind.all_are)

pub row_fine : (May : Version → List ℕ → Type 0) → ((v : Version) (body : List ℕ) → IsBodyOf v body → May v body) → (from : ℕ) (opening first : Version) (us : List Record) (tails : List (List ℕ)) (bytes : List ℕ) (place : ℕ)
    → IsJournal (bodies_of us ++ tails) (drop from bytes) → ArePlaced opening us first
    → ((q : List ℕ) (more : List (List ℕ)) → tails ≡ q ∷ more → May first q) → ((u : Record) (more : List (List ℕ)) → tails ≡ record_bytes u ∷ more → ⊥)
    → IsDamagedRow May from opening place bytes → ⊥
row_fine May each from opening first us tails bytes place journal placed fine none damaged =
    let vs = damaged.found in
    let behind = behind_them (bodies_of vs) (bodies_of us ++ tails) (drop from bytes) damaged.rest (records_fit vs damaged.there.placed.are) damaged.there.bytes_are journal in
    ⊎_elim
    (λ cut. not_both 0 damaged.rest behind.more behind.journal (record { bodies = []; rest = damaged.rest; bytes_are = refl; place_is = refl; fits = records_fit [] tt; cut = inl cut }))
    (λ foreign.
    (let first_is = first_body behind.more foreign.body foreign.after foreign.fits (subst (λ l. IsJournal behind.more l) foreign.rest_is behind.journal) in
    foreign.none (next_may May each tails first fine none (Some opening) damaged.version us vs foreign.body first_is.0 placed.are damaged.there.placed.are placed.version_is damaged.there.placed.version_is
    (behind.all_are ∙ ap (λ l. bodies_of vs ++ l) first_is.1))))
    damaged.cause

-- ---- a first segment that ends with the head ----

headed_rows : (y : Layout) (a : Option Segment) (n : ℕ) (us vs : List Record) (more : List (List ℕ)) → AreRecords us → AreRecords vs → bodies_of us ++ head_of y a ≡ bodies_of vs ++ head_bytes n ∷ more
    → (us ≡ vs) × ((is_some a ≡ true) × ((head_bytes n ≡ head_bytes (y.end + 15)) × (more ≡ [])))
headed_rows y None n [] [] more here there same = absurd (cc same)
headed_rows y (Some g) n [] [] more here there same = (refl, (refl, (sym (ap front_of same), sym (ap tail_of same))))
headed_rows y None n [] (v ∷ vs) more here there same = absurd (cc same)
headed_rows y (Some g) n [] (v ∷ vs) more here there same = absurd (no_head v (y.end + 15) (sym (ap front_of same)))
headed_rows y a n (u ∷ us) [] more here there same = absurd (no_head u n (ap front_of same))
headed_rows y a n (u ∷ us) (v ∷ vs) more here there same =
    let first = same_record u v here.0 there.0 (ap front_of same) in
    let rest = headed_rows y a n us vs more here.1 there.1 (ap tail_of same) in (λ i. first i ∷ rest.0 i, rest.1)

some_is : (a : Option Segment) → is_some a ≡ true → (g : Segment) × (a ≡ Some g)
some_is None is = absurd (cc is)
some_is (Some g) is = (g, refl)

-- number and offset of a sound segment fit their fields
pub fits_is : (y : Layout) (g : Segment) → IsSound y → y.later ≡ Some g → (g.number < 2 ^ 64) × ((g.place < 2 ^ 64) × (head_end y.end ≤ g.place))
fits_is y g sound is =
    let bounded = subst (λ a. IfBounded y.end a) is sound.bounded in
    let segment = subst (λ a. IfSegment a) is sound.laid.segment in
    let live = subst (λ a. AreLive (live_areas y a)) is sound.laid.live in
    (bounded.number, (omega (arith, bounded.limit, segment.begun, segment.within), head_before y g live segment))

-- it is the one that lies there, which names the offset behind it, and a gate that isn't open ends it
pub record IsHeaded (lies_records : List Record) (first : Version) (y : Layout) (found : List Record) (version : Version) (head : ℕ) (after : List ℕ) : Type 0 where
  pub rows : lies_records ≡ found
  pub version_is : first ≡ version
  pub later : Segment
  pub later_is : y.later ≡ Some later
  pub head_is : head ≡ y.end + 15
  pub shut : IsShut after

pub headed : (v : Version) (y : Layout) (z : Slots) (bytes : List ℕ) (lies : LiesAs v y z bytes) → IsSound y → (found : List Record) (version : Version) (n : ℕ) (after : List ℕ) → n < 2 ^ 64 → AreThere 0 Blank found version (framed (head_bytes n) ++ after) bytes
    → IsHeaded lies.records lies.first y found version n after
headed v y z bytes lies sound found version n after named there =
    let head = head_bytes n in
    let bodies = bodies_of found in
    let fits : Fits (bodies ++ head ∷ []) = fits-push bodies head (records_fit found there.placed.are) (omega arith) in
    let behind = behind_them (bodies ++ head ∷ []) (bodies_of lies.records ++ head_of y y.later) bytes after fits (there.bytes_are ∙ sym (records-push bodies head after)) lies.journal in
    let rows = headed_rows y y.later n lies.records found behind.more lies.placed.are there.placed.are (behind.all_are ∙ append_assoc bodies (head ∷ []) behind.more) in
    let some = some_is y.later rows.1.0 in
    let fits = fits_is y some.0 sound some.1 in
    let rest = subst (λ l. IsJournal l after) rows.1.1.1 behind.journal in
    record {
      rows = rows.0;
      version_is = same_version lies.first version (sym lies.placed.version_is ∙ ap (λ vs. version_on (Some Blank) vs) rows.0 ∙ there.placed.version_is);
      later = some.0;
      later_is = some.1;
      head_is = names_one n (y.end + 15) named (omega (arith, fits.1.0, fits.1.1)) rows.1.1.0;
      shut = record { gate = rest.gate; after = rest.after; rest_is = rest.bytes_are; shut = rest.shut };
    }
