-- The bytes of an index are read as that index.
use Rattle.std.proofs.Common.{◌≡◌, ◌<◌, ◌≤◌, ◌+◌, ◌-◌, ◌^◌, ◌&&◌, not, max, ℕ, Bool, true, false, List, [], ◌∷◌, ◌++◌, refl, ap, sym, ◌∙◌, subst, append_assoc, drop, length, nat_le, nat_cmp, Less, arith, length-append, length-drop}
use Rattle.std.proofs.lemmas.Bool.Decides.{nat_tests}
use Rattle.std.specs.List.{AllByRecursion}
use Rattle.std.specs.List.Sorted.{IsStrictlySortedBy}
use Rattle.std.specs.Map as map
use Rattle.byteorder.specs.Endian.{big_bytes}
use Rattle.ld_lsn.specs.Number.{epoch_of, esn_of}
use Rattle.ld_ids.specs.Id.{IsLog}
use Rattle.ld_table.specs.Table.{Ordered}
use Rattle.ld_table.specs.Words.{numbers_from}
use Rattle.ld_msg.specs.declared.msg.What.{What}
use Rattle.ld_msg.specs.declared.msg.What.TheVariants.{Rec, Hole, Bridge, Plug, Withheld}
use Rattle.ld_msg.specs.declared.msg.Entry.{Entry}
use Rattle.ld_msg.specs.declared.msg.Summary.{Summary}
use Rattle.ld_msg.specs.Bounds.{IsEpoch, IsShort, IsKept}
use Rattle.ld_fields.specs.Fields.{Read, Got, field, within}
use Rattle.ld_fields.specs.Items.{summary_bytes, flag, greatest_epoch, is_number, read_summary, read_flag}
use Rattle.ld_fields.proofs.Spelling.{Stands, stands_as, past, Reads, field_reads, follow_reads, check_reads, got_reads, reads_as, tag_of, tag_fits, tag_passes, number_fits, lng_passes, flag_reads, summary_reads}
use Rattle.ld_op.specs.Plain.{Plain, Log}
use Rattle.ld_op.specs.Indexed.{first_place, what_based, entry_based, entries_bytes_based, summaries_based, lngs_based, state_based, tables_based, logs_bytes_based, index_bytes, read_place, read_held, read_rising, read_table, read_based_entry, read_based_summary, read_based_lng, read_tables, read_based_log, read_index, IsPlaced, IsBasedEntry, IsBasedSummary, IsBasedLng, IsBasedTable, IsBasedLog, IsBased}

-- ---- entries ----

place_reads : (bs : List ℕ) (at : ℕ) (p ys : List ℕ) → length p ≤ 65535 → IsPlaced (Rec p) → Stands bs at (big_bytes 8 (first_place p) ++ (big_bytes 2 (length p) ++ ys)) → Reads bs (read_place bs at) (Rec p) ys
place_reads bs at p ys h i s =
    let most = i.1 in
    follow_reads bs (field 8 bs at) _ (first_place p) (Rec p) _ ys (field_reads 7 (first_place p) bs at _ (omega arith) s) (λ at_length t.
    follow_reads bs (field 2 bs at_length) _ (length p) (Rec p) _ ys (field_reads 1 (length p) bs at_length _ (omega arith) t) (λ next u.
    check_reads bs (nat_le (first_place p + length p) (2 ^ 64 - 1)) at (Got (Rec (numbers_from (first_place p) (length p))) next) (Rec p) ys (grind (arith, nat_tests))
    (reads_as bs (Got (Rec (numbers_from (first_place p) (length p))) next) (Rec (numbers_from (first_place p) (length p))) (Rec p) ys (ap Rec (sym i.0)) (got_reads bs (Rec (numbers_from (first_place p) (length p))) next ys u))))

-- what follows a tag
abbrev held_after : What → List ℕ
held_after (Rec p) = big_bytes 8 (first_place p) ++ big_bytes 2 (length p)
held_after Hole = []
held_after Bridge = []
held_after Plug = []
held_after Withheld = []

held_is : (w : What) (ys : List ℕ) → what_based w ++ ys ≡ big_bytes 1 (tag_of w) ++ (held_after w ++ ys)
held_is (Rec p) ys = refl
held_is Hole ys = refl
held_is Bridge ys = refl
held_is Plug ys = refl
held_is Withheld ys = refl

held_reads : (bs : List ℕ) (at : ℕ) (w : What) (ys : List ℕ) → IsShort w → IsKept w → IsPlaced w → Stands bs at (held_after w ++ ys) → Reads bs (read_held bs at (tag_of w)) w ys
held_reads bs at (Rec p) ys h k i s = place_reads bs at p ys h i s
held_reads bs at Hole ys h k i s = got_reads bs Hole at ys s
held_reads bs at Bridge ys h k i s = got_reads bs Bridge at ys s
held_reads bs at Plug ys h k i s = got_reads bs Plug at ys s
held_reads bs at Withheld ys h k i s = elim k [ ]

kept_tag : (w : What) → IsKept w → nat_le (tag_of w) 3 ≡ true
kept_tag (Rec p) k = refl
kept_tag Hole k = refl
kept_tag Bridge k = refl
kept_tag Plug k = refl
kept_tag Withheld k = elim k [ ]

both : (a b : Bool) → a ≡ true → b ≡ true → (a && b) ≡ true
both true b h k = k
both false b h k = absurd cc

number_is : (n : ℕ) → IsEpoch (epoch_of n) → 1 ≤ esn_of n → is_number n ≡ true
number_is n h e = let a = h.0 in let b = h.1 in grind (arith, nat_tests)

least_is : (least n : ℕ) → least ≤ n → nat_le least n ≡ true
least_is least n h = grind (arith, nat_tests)

ballot_is : (n b : ℕ) → n ≤ b → b ≤ greatest_epoch → within n greatest_epoch b ≡ true
ballot_is n b h l = grind (arith, nat_tests)

entry_is : (e : Entry) (ys : List ℕ) → entry_based e ++ ys ≡ big_bytes 8 e.number ++ (big_bytes 4 e.ballot ++ (big_bytes 1 (tag_of e.what) ++ (held_after e.what ++ ys)))
entry_is e ys = ap (λ r. big_bytes 8 e.number ++ (big_bytes 4 e.ballot ++ r)) (held_is e.what ys)

entry_reads : (bs : List ℕ) (e : ℕ × Entry) (least at : ℕ) (ys : List ℕ) → IsBasedEntry e → least ≤ e.0 → Stands bs at (entry_based e.1 ++ ys) → Reads bs (read_based_entry bs least at) e ys
unfolding read_based_entry
entry_reads bs e least at ys i l s = reads_as bs (read_based_entry bs least at) (e.1.number, e.1) e ys (ap (λ n. (n, e.1)) i.number)
    (follow_reads bs (field 8 bs at) _ e.1.number (e.1.number, e.1) _ ys (field_reads 7 e.1.number bs at _ (number_fits e.1.number i.entry.epoch) (stands_as bs at _ _ (entry_is e.1 ys) s)) (λ at_ballot t.
    check_reads bs _ at _ (e.1.number, e.1) ys (both _ _ (number_is e.1.number i.entry.epoch i.entry.from_one) (least_is least e.1.number (subst (λ n. least ≤ n) (sym i.number) l)))
    (follow_reads bs (field 4 bs at_ballot) _ e.1.ballot (e.1.number, e.1) _ ys (field_reads 3 e.1.ballot bs at_ballot _ (let b = i.entry.ballot_most in omega arith) t) (λ at_tag u.
    check_reads bs _ at_ballot _ (e.1.number, e.1) ys (ballot_is (epoch_of e.1.number) e.1.ballot i.entry.ballot i.entry.ballot_most)
    (follow_reads bs (field 1 bs at_tag) _ (tag_of e.1.what) (e.1.number, e.1) _ ys (field_reads 0 (tag_of e.1.what) bs at_tag _ (tag_fits e.1.what) u) (λ at_held v.
    check_reads bs _ at_tag _ (e.1.number, e.1) ys (both _ _ (tag_passes e.1.number e.1.what i.entry.place) (kept_tag e.1.what i.kept))
    (follow_reads bs (read_held bs at_held (tag_of e.1.what)) _ e.1.what (e.1.number, e.1) _ ys (held_reads bs at_held e.1.what ys i.entry.short i.kept i.placed v) (λ next z. got_reads bs (e.1.number, e.1) next ys z))))))))

-- ---- summaries and last known good places ----

epoch_is : (least e : ℕ) → IsEpoch e → least ≤ e → within (max 1 least) greatest_epoch e ≡ true
epoch_is least e i l = let a = i.0 in let b = i.1 in let m : max 1 least ≤ e = omega arith in grind (arith, nat_tests)

no_loss : (older loss : Bool) → (older ≡ true → loss ≡ false) → not (older && loss) ≡ true
no_loss true loss h = ap not (h refl)
no_loss false loss h = refl

closed_reads : (bs : List ℕ) (older : Bool) (s : ℕ × Summary) (least at : ℕ) (ys : List ℕ) → IsBasedSummary older s → least ≤ s.0 → Stands bs at ((big_bytes 4 s.0 ++ summary_bytes s.1) ++ ys) → Reads bs (read_based_summary bs older least at) s ys
unfolding read_based_summary
closed_reads bs older s least at ys i l t =
    follow_reads bs (field 4 bs at) _ s.0 s _ ys (field_reads 3 s.0 bs at _ (let b = i.epoch.1 in omega arith) (stands_as bs at _ _ (append_assoc (big_bytes 4 s.0) (summary_bytes s.1) ys) t)) (λ at_summary u.
    check_reads bs _ at _ s ys (epoch_is least s.0 i.epoch l)
    (follow_reads bs (read_summary bs s.0 at_summary) _ s.1 s _ ys (summary_reads bs s.0 at_summary s.1 ys i.summary u) (λ next v.
    check_reads bs _ (next - 1) _ s ys (no_loss older s.1.loss i.loss) (got_reads bs s next ys v))))

told_reads : (bs : List ℕ) (m : ℕ × ℕ) (least at : ℕ) (ys : List ℕ) → IsBasedLng m → least ≤ m.0 → Stands bs at ((big_bytes 4 m.0 ++ big_bytes 4 m.1) ++ ys) → Reads bs (read_based_lng bs least at) m ys
unfolding read_based_lng
told_reads bs m least at ys i l t =
    follow_reads bs (field 4 bs at) _ m.0 m _ ys (field_reads 3 m.0 bs at _ (let b = i.epoch.1 in omega arith) (stands_as bs at _ _ (append_assoc (big_bytes 4 m.0) (big_bytes 4 m.1) ys) t)) (λ at_lng u.
    check_reads bs _ at _ m ys (epoch_is least m.0 i.epoch l)
    (follow_reads bs (field 4 bs at_lng) _ m.1 m _ ys (field_reads 3 m.1 bs at_lng _ (let b = i.lng in omega arith) u) (λ next v.
    check_reads bs _ at_lng _ m ys (lng_passes m.1 i.lng) (got_reads bs m next ys v))))

-- ---- items whose keys rise ----

module _ {X : Type 0} where
  -- from a least key on
  abbrev Rise : ℕ → List (ℕ × X) → Type 0
  Rise least [] = Unit {0}
  Rise least (e ∷ m) = (least ≤ e.0) × Rise (e.0 + 1) m

  abbrev AllFrom : ℕ → List (ℕ × X) → Type 0
  AllFrom least [] = Unit {0}
  AllFrom least (e ∷ m) = (least ≤ e.0) × AllFrom least m

  from_behind : (k : ℕ) (m : List (ℕ × X)) → AllByRecursion (λ y. nat_cmp k y ≡ Less) (map.keys_of m) → AllFrom (k + 1) m
  from_behind k [] a = tt
  from_behind k (e ∷ m) a = ((let l = a.0 in let b : k < e.0 = grind (arith, nat_tests) in omega arith), from_behind k m a.1)

  from_zero : (m : List (ℕ × X)) → AllFrom 0 m
  from_zero [] = tt
  from_zero (e ∷ m) = (omega arith, from_zero m)

  pub rises : (least : ℕ) (m : List (ℕ × X)) → AllFrom least m → Ordered m → Rise least m
  unfolding IsStrictlySortedBy
  rises least [] a o = tt
  rises least (e ∷ m) a o = (a.0, rises (e.0 + 1) m (from_behind e.0 m o.0) o.1)

  rising_reads : (bs : List ℕ) (item : ℕ → ℕ → Read (ℕ × X)) (one : ℕ × X → List ℕ) (f : List (ℕ × X) → List ℕ) (P : ℕ × X → Type 0)
      → f [] ≡ [] → ((e : ℕ × X) (m : List (ℕ × X)) → f (e ∷ m) ≡ one e ++ f m)
      → ((e : ℕ × X) (least at : ℕ) (ys : List ℕ) → P e → least ≤ e.0 → Stands bs at (one e ++ ys) → Reads bs (item least at) e ys)
      → (m : List (ℕ × X)) (least at : ℕ) (ys : List ℕ) → AllByRecursion P m → Rise least m → Stands bs at (f m ++ ys) → Reads bs (read_rising item (length m) least at) m ys
  unfolding read_rising
  rising_reads bs item one f P none more each [] least at ys a r s = got_reads bs [] at ys (stands_as bs at _ _ (ap (λ x. x ++ ys) none) s)
  rising_reads bs item one f P none more each (e ∷ m) least at ys a r s =
      follow_reads bs (item least at) _ e (e ∷ m) (f m ++ ys) ys (each e least at (f m ++ ys) a.0 r.0 (stands_as bs at _ _ (ap (λ x. x ++ ys) (more e m) ∙ append_assoc (one e) (f m) ys) s)) (λ next t.
      follow_reads bs (read_rising item (length m) (e.0 + 1) next) _ m (e ∷ m) ys ys (rising_reads bs item one f P none more each m (e.0 + 1) next ys a.1 r.1 t) (λ last u. got_reads bs (e ∷ m) last ys u))

  pub table_reads : (bs : List ℕ) (item : ℕ → ℕ → Read (ℕ × X)) (one : ℕ × X → List ℕ) (f : List (ℕ × X) → List ℕ) (P : ℕ × X → Type 0)
      → f [] ≡ [] → ((e : ℕ × X) (m : List (ℕ × X)) → f (e ∷ m) ≡ one e ++ f m)
      → ((e : ℕ × X) (least at : ℕ) (ys : List ℕ) → P e → least ≤ e.0 → Stands bs at (one e ++ ys) → Reads bs (item least at) e ys)
      → (m : List (ℕ × X)) (at : ℕ) (ys : List ℕ) → IsBasedTable P m → Stands bs at ((big_bytes 4 (length m) ++ f m) ++ ys) → Reads bs (read_table bs item at) m ys
  table_reads bs item one f P none more each m at ys i s =
      follow_reads bs (field 4 bs at) (λ count next. read_rising item count 0 next) (length m) m (f m ++ ys) ys
      (field_reads 3 (length m) bs at (f m ++ ys) (let w = i.few in omega arith) (stands_as bs at _ _ (append_assoc (big_bytes 4 (length m)) (f m) ys) s))
      (λ next t. rising_reads bs item one f P none more each m 0 next ys i.each (rises 0 m (from_zero m) i.rise) t)

-- ---- logs ----

tables_read : (bs : List ℕ) (older : Bool) (l : ℕ × Log) (at : ℕ) (ys : List ℕ) → IsBasedLog older l → Stands bs at (tables_based l.1 ++ ys)
    → Reads bs (read_tables bs older (record { sealed = l.1.sealed; trim = l.1.trim; entries = []; summaries = []; lngs = []; lost = l.1.lost; lost_to = l.1.lost_to }) at) l.1 ys
unfolding read_tables
tables_read bs older l at ys i s =
    let g : Log = l.1 in
    let a : List ℕ = big_bytes 4 (length g.summaries) ++ summaries_based g.summaries in
    let b : List ℕ = big_bytes 4 (length g.lngs) ++ lngs_based g.lngs in
    let c : List ℕ = big_bytes 4 (length g.entries) ++ entries_bytes_based g.entries in
    follow_reads bs (read_table bs (read_based_summary bs older) at) _ g.summaries g (b ++ (c ++ ys)) ys
    (table_reads bs (read_based_summary bs older) (λ x. big_bytes 4 x.0 ++ summary_bytes x.1) summaries_based (IsBasedSummary older) refl (λ x m. sym (append_assoc (big_bytes 4 x.0) (summary_bytes x.1) (summaries_based m))) (closed_reads bs older)
    g.summaries at (b ++ (c ++ ys)) i.summaries (stands_as bs at _ _ (append_assoc a (b ++ c) ys ∙ ap (λ r. a ++ r) (append_assoc b c ys)) s)) (λ at_lngs t.
    follow_reads bs (read_table bs (read_based_lng bs) at_lngs) _ g.lngs g (c ++ ys) ys
    (table_reads bs (read_based_lng bs) (λ x. big_bytes 4 x.0 ++ big_bytes 4 x.1) lngs_based IsBasedLng refl (λ x m. sym (append_assoc (big_bytes 4 x.0) (big_bytes 4 x.1) (lngs_based m))) (told_reads bs) g.lngs at_lngs (c ++ ys) i.lngs t) (λ at_entries u.
    follow_reads bs (read_table bs (read_based_entry bs) at_entries) _ g.entries g ys ys
    (table_reads bs (read_based_entry bs) (λ x. entry_based x.1) entries_bytes_based IsBasedEntry refl (λ x m. refl) (entry_reads bs) g.entries at_entries ys i.entries u) (λ next v. got_reads bs g next ys v)))

log_is : (least l : ℕ) → IsLog l → least ≤ l → within (max 1 least) 65535 l ≡ true
log_is least l i h = let a = i.0 in let b = i.1 in let m : max 1 least ≤ l = omega arith in grind (arith, nat_tests)

log_reads : (bs : List ℕ) (older : Bool) (l : ℕ × Log) (least at : ℕ) (ys : List ℕ) → IsBasedLog older l → least ≤ l.0 → Stands bs at ((state_based l.0 l.1 ++ tables_based l.1) ++ ys) → Reads bs (read_based_log bs older least at) l ys
unfolding read_based_log
log_reads bs older l least at ys i h s =
    follow_reads bs (field 4 bs at) _ l.0 l _ ys (field_reads 3 l.0 bs at (big_bytes 4 l.1.sealed ++ (big_bytes 8 l.1.trim ++ (big_bytes 1 (flag l.1.lost) ++ (big_bytes 4 l.1.lost_to ++ (tables_based l.1 ++ ys))))) (let b = i.log.1 in omega arith) s) (λ at_sealed t.
    check_reads bs _ at _ l ys (log_is least l.0 i.log h)
    (follow_reads bs (field 4 bs at_sealed) _ l.1.sealed l _ ys (field_reads 3 l.1.sealed bs at_sealed _ (let b = i.sealed in omega arith) t) (λ at_trim u.
    follow_reads bs (field 8 bs at_trim) _ l.1.trim l _ ys (field_reads 7 l.1.trim bs at_trim _ (let b = i.trim in omega arith) u) (λ at_lost v.
    follow_reads bs (read_flag bs at_lost) _ l.1.lost l _ ys (flag_reads bs at_lost l.1.lost _ v) (λ at_lost_to w.
    follow_reads bs (field 4 bs at_lost_to) _ l.1.lost_to l _ ys (field_reads 3 l.1.lost_to bs at_lost_to _ (let b = i.lost_to in omega arith) w) (λ at_tables x.
    follow_reads bs (read_tables bs older (record { sealed = l.1.sealed; trim = l.1.trim; entries = []; summaries = []; lngs = []; lost = l.1.lost; lost_to = l.1.lost_to }) at_tables) _ l.1 l ys ys (tables_read bs older l at_tables ys i x) (λ next z. got_reads bs l next ys z)))))))

-- ---- the index ----

pub index_reads : (bs : List ℕ) (older : Bool) (p : Plain) (at : ℕ) (ys : List ℕ) → IsBased older p → Stands bs at (index_bytes p ++ ys) → Reads bs (read_index bs older at) p ys
unfolding read_index index_bytes
index_reads bs older p at ys i s =
    follow_reads bs (field 4 bs at) _ p.generation p _ ys (field_reads 3 p.generation bs at (big_bytes 2 (length p.logs) ++ (logs_bytes_based p.logs ++ ys)) (let b = i.generation in omega arith) s) (λ at_logs t.
    follow_reads bs (field 2 bs at_logs) _ (length p.logs) p (logs_bytes_based p.logs ++ ys) ys (field_reads 1 (length p.logs) bs at_logs (logs_bytes_based p.logs ++ ys) (let b = i.few in omega arith) t) (λ at_log u.
    follow_reads bs (read_rising (read_based_log bs older) (length p.logs) 0 at_log) _ p.logs p ys ys
    (rising_reads bs (read_based_log bs older) (λ l. state_based l.0 l.1 ++ tables_based l.1) logs_bytes_based (IsBasedLog older) refl (λ l m. sym (append_assoc (state_based l.0 l.1) (tables_based l.1) (logs_bytes_based m))) (log_reads bs older) p.logs 0 at_log ys i.logs (rises 0 p.logs (from_zero p.logs) i.rise) u)
    (λ next v. got_reads bs p next ys v)))

-- where what stands behind the bytes begins
pub behind_is : (front xs rest : List ℕ) (next : ℕ) → Stands (front ++ (xs ++ rest)) next rest → next ≡ length front + length xs
behind_is front xs rest next s =
    let w = s.within in let l : length (drop next (front ++ (xs ++ rest))) ≡ length rest = ap length s.there in
    let d = length-drop next (front ++ (xs ++ rest)) in let a = length-append front (xs ++ rest) in let b = length-append xs rest in omega arith

pub index_read_back : (front rest : List ℕ) (p : Plain) (older : Bool) → IsBased older p → read_index (front ++ (index_bytes p ++ rest)) older (length front) ≡ Got p (length front + length (index_bytes p))
index_read_back front rest p older i =
    let bs : List ℕ = front ++ (index_bytes p ++ rest) in
    let a = length-append front (index_bytes p ++ rest) in
    let r : Reads bs (read_index bs older (length front)) p rest = index_reads bs older p (length front) rest i (record { within = omega arith; there = past front (index_bytes p ++ rest) }) in
    r.is ∙ ap (λ n. Got p n) (behind_is front (index_bytes p) rest r.next r.behind)
