-- The bytes of an entry, a summary or a log are read as that.
use Rattle.std.proofs.Common.{◌≡◌, ◌<◌, ◌≤◌, ◌+◌, ◌^◌, ◌&&◌, ℕ, suc, Bool, true, false, cond, List, [], ◌∷◌, ◌++◌, refl, ap, sym, ◌∙◌, subst, append_assoc, take, drop, length, nat_le, arith, length-append, length-drop}
use Rattle.std.proofs.lemmas.Bool.Decides.{nat_tests}
use Rattle.std.proofs.lemmas.Grind.{common_steps}
use Rattle.std.proofs.lemmas.List.{append-nil}
use Rattle.byteorder.specs.Endian.{big_bytes, big_number}
use Rattle.byteorder.specs.Numbers.{big_number-reads_back, length-bytes_high_first}
use Rattle.ld_lsn.specs.Number.{epoch_of, esn_of}
use Rattle.ld_ids.specs.Id.{IsLog}
use Rattle.ld_msg.specs.declared.msg.What.{What}
use Rattle.ld_msg.specs.declared.msg.What.TheVariants.{Rec, Hole, Bridge, Plug, Withheld}
use Rattle.ld_msg.specs.declared.msg.Entry.{Entry}
use Rattle.ld_msg.specs.declared.msg.Summary.{Summary}
use Rattle.ld_msg.specs.Bounds.{IsLng, IsEpoch, IsEntry, IsSummary, IsShort, IsKept, AreKept, AreEntries, RiseWithin, last_place}
use Rattle.ld_fields.specs.declared.beside.Beside.{Beside}
use Rattle.ld_fields.specs.declared.beside.Beside.TheVariants as besides
use Rattle.ld_fields.specs.Fields.{Read, Got, Off, follow, check, field, within}
use Rattle.ld_fields.specs.Items.{what_bytes, entry_bytes, entries_bytes, older_summary_bytes, summary_bytes, flag, greatest_epoch, greatest_lng, is_number, is_tag, may_stand, payload, tagged, read_entry, read_entries, read_older_summary, read_flag, with_loss, read_summary, read_log}
use Rattle.ld_fields.proofs.There.{field_got}

-- from an offset on the bytes are these
pub record Stands (bs : List ℕ) (at : ℕ) (xs : List ℕ) : Type 0 where
  pub within : at ≤ length bs
  pub there : drop at bs ≡ xs

pub stands_as : (bs : List ℕ) (at : ℕ) (xs ys : List ℕ) → xs ≡ ys → Stands bs at xs → Stands bs at ys
stands_as bs at xs ys e h = record { within = h.within; there = h.there ∙ e }

dropped : (bs : List ℕ) (at k : ℕ) → drop (at + k) bs ≡ drop k (drop at bs)
dropped bs at k = grind (arith, common_steps)

pub past : (xs ys : List ℕ) → drop (length xs) (xs ++ ys) ≡ ys
past [] ys = refl
past (x ∷ xs) ys = past xs ys

pub room_for : (bs : List ℕ) (at n : ℕ) (xs ys : List ℕ) → length xs ≡ n → Stands bs at (xs ++ ys) → at + n ≤ length bs
room_for bs at n xs ys l h = let e = ap length h.there in let w = h.within in let d = length-drop at bs in let a = length-append xs ys in omega arith

pub stands_next : (bs : List ℕ) (at n : ℕ) (xs ys : List ℕ) → length xs ≡ n → Stands bs at (xs ++ ys) → Stands bs (at + n) ys
stands_next bs at n xs ys l h = record {
  within = room_for bs at n xs ys l h;
  there = dropped bs at n ∙ (ap (drop n) h.there ∙ (ap (λ k. drop k (xs ++ ys)) (sym l) ∙ past xs ys));
}

pub nothing : (bs : List ℕ) (at : ℕ) (xs : List ℕ) → Stands bs at xs → Stands bs at (xs ++ [])
nothing bs at xs s = stands_as bs at xs (xs ++ []) (sym (append-nil xs)) s

pub at_end : (bs : List ℕ) (at : ℕ) → Stands bs at [] → at ≡ length bs
at_end bs at s = let e = ap length s.there in let w = s.within in let d = length-drop at bs in omega arith

-- ---- what is read, and what stands behind it ----

pub record Reads {X : Type 0} (bs : List ℕ) (r : Read X) (v : X) (ys : List ℕ) : Type 0 where
  pub next : ℕ
  pub is : r ≡ Got v next
  pub behind : Stands bs next ys

pub field_reads : (k x : ℕ) (bs : List ℕ) (at : ℕ) (ys : List ℕ) → x < 256 ^ suc k → Stands bs at (big_bytes (suc k) x ++ ys) → Reads bs (field (suc k) bs at) x ys
field_reads k x bs at ys h s = record {
  next = at + suc k;
  is = field_got (suc k) bs at (room_for bs at (suc k) (big_bytes (suc k) x) ys (length-bytes_high_first (suc k) x) s)
      ∙ ap (λ v. Got v (at + suc k)) (ap (big_number (suc k)) s.there ∙ big_number-reads_back (suc k) x ys h);
  behind = stands_next bs at (suc k) (big_bytes (suc k) x) ys (length-bytes_high_first (suc k) x) s;
}

module _ {X Y : Type 0} where
  pub follow_reads : (bs : List ℕ) (r : Read X) (f : X → ℕ → Read Y) (v : X) (w : Y) (ys zs : List ℕ) → Reads bs r v ys → ((next : ℕ) → Stands bs next ys → Reads bs (f v next) w zs) → Reads bs (follow r f) w zs
  follow_reads bs r f v w ys zs h g = let t = g h.next h.behind in record { next = t.next; is = ap (λ x. follow x f) h.is ∙ t.is; behind = t.behind }

module _ {X : Type 0} where
  pub check_reads : (bs : List ℕ) (ok : Bool) (at : ℕ) (r : Read X) (v : X) (ys : List ℕ) → ok ≡ true → Reads bs r v ys → Reads bs (check ok at r) v ys
  check_reads bs ok at r v ys e h = record { next = h.next; is = ap (λ b. cond b r (Off at)) e ∙ h.is; behind = h.behind }

  pub got_reads : (bs : List ℕ) (v : X) (next : ℕ) (ys : List ℕ) → Stands bs next ys → Reads bs (Got v next) v ys
  got_reads bs v next ys s = record { next = next; is = refl; behind = s }

  pub reads_as : (bs : List ℕ) (r : Read X) (v w : X) (ys : List ℕ) → v ≡ w → Reads bs r v ys → Reads bs r w ys
  reads_as bs r v w ys e h = subst (λ x. Reads bs r x ys) e h

-- ---- entries ----

abbrev pub tag_of : What → ℕ
tag_of (Rec p) = 0
tag_of Hole = 1
tag_of Bridge = 2
tag_of Plug = 3
tag_of Withheld = 4

abbrev pub after_tag : What → List ℕ
after_tag (Rec p) = big_bytes 2 (length p) ++ p
after_tag Hole = []
after_tag Bridge = []
after_tag Plug = []
after_tag Withheld = []

pub what_is : (w : What) (ys : List ℕ) → what_bytes w ++ ys ≡ big_bytes 1 (tag_of w) ++ (after_tag w ++ ys)
what_is (Rec p) ys = append_assoc (big_bytes 1 0) (big_bytes 2 (length p) ++ p) ys
what_is Hole ys = refl
what_is Bridge ys = refl
what_is Plug ys = refl
what_is Withheld ys = refl

pub taken : (xs ys : List ℕ) → take (length xs) (xs ++ ys) ≡ xs
taken [] ys = refl
taken (x ∷ xs) ys = ap (λ r. x ∷ r) (taken xs ys)

payload_reads : (bs : List ℕ) (at next : ℕ) (p ys : List ℕ) → Stands bs next (p ++ ys) → Reads bs (payload bs at (length p) next) (Rec p) ys
payload_reads bs at next p ys s = check_reads bs (nat_le (next + length p) (length bs)) at _ (Rec p) ys (let h = room_for bs next (length p) p ys refl s in grind (arith, nat_tests))
    (record { next = next + length p; is = ap (λ x. Got (Rec x) (next + length p)) (ap (take (length p)) s.there ∙ taken p ys); behind = stands_next bs next (length p) p ys refl s })

pub tagged_reads : (bs : List ℕ) (at : ℕ) (w : What) (ys : List ℕ) → IsShort w → Stands bs at (after_tag w ++ ys) → Reads bs (tagged bs at (tag_of w)) w ys
tagged_reads bs at (Rec p) ys h s = follow_reads bs (field 2 bs at) (payload bs at) (length p) (Rec p) (p ++ ys) ys
    (field_reads 1 (length p) bs at (p ++ ys) (omega arith) (stands_as bs at _ _ (append_assoc (big_bytes 2 (length p)) p ys) s)) (λ next t. payload_reads bs at next p ys t)
tagged_reads bs at Hole ys h s = got_reads bs Hole at ys s
tagged_reads bs at Bridge ys h s = got_reads bs Bridge at ys s
tagged_reads bs at Plug ys h s = got_reads bs Plug at ys s
tagged_reads bs at Withheld ys h s = got_reads bs Withheld at ys s

pub number_fits : (n : ℕ) → IsEpoch (epoch_of n) → n < 256 ^ 8
number_fits n h = let a = h.1 in omega arith

pub number_passes : (n least most : ℕ) → IsEpoch (epoch_of n) → 1 ≤ esn_of n → least ≤ n → n ≤ most → (is_number n && within least most n) ≡ true
number_passes n least most h e l m = let a = h.0 in let b = h.1 in grind (arith, nat_tests)

pub lng_passes : (n : ℕ) → IsLng n → nat_le n greatest_lng ≡ true
lng_passes n l = grind (arith, nat_tests)

ballot_passes : (n b : ℕ) → n ≤ b → b ≤ greatest_epoch → within n greatest_epoch b ≡ true
ballot_passes n b h l = grind (arith, nat_tests)

pub tag_passes : (n : ℕ) (w : What) → esn_of n ≤ last_place w → is_tag n (tag_of w) ≡ true
tag_passes n (Rec p) h = grind (arith, nat_tests)
tag_passes n Hole h = grind (arith, nat_tests)
tag_passes n Bridge h = grind (arith, nat_tests)
tag_passes n Plug h = grind (arith, nat_tests)
tag_passes n Withheld h = grind (arith, nat_tests)

stands_passes : (n : ℕ) (beside : Beside) (w : What) → esn_of n ≤ last_place w → may_stand beside (tag_of w) ≡ true → (is_tag n (tag_of w) && may_stand beside (tag_of w)) ≡ true
stands_passes n beside w h l = let e = tag_passes n w h in grind (arith, nat_tests)

pub tag_fits : (w : What) → tag_of w < 256 ^ 1
tag_fits (Rec p) = omega arith
tag_fits Hole = omega arith
tag_fits Bridge = omega arith
tag_fits Plug = omega arith
tag_fits Withheld = omega arith

entry_is : (e : Entry) (ys : List ℕ) → entry_bytes e ++ ys ≡ big_bytes 8 e.number ++ (big_bytes 4 e.ballot ++ (big_bytes 1 (tag_of e.what) ++ (after_tag e.what ++ ys)))
entry_is e ys = append_assoc (big_bytes 8 e.number) (big_bytes 4 e.ballot ++ what_bytes e.what) ys
    ∙ ap (λ r. big_bytes 8 e.number ++ r) (append_assoc (big_bytes 4 e.ballot) (what_bytes e.what) ys ∙ ap (λ r. big_bytes 4 e.ballot ++ r) (what_is e.what ys))

pub entry_reads : (bs : List ℕ) (beside : Beside) (most least at : ℕ) (e : Entry) (ys : List ℕ) → IsEntry e → may_stand beside (tag_of e.what) ≡ true → least ≤ e.number → e.number ≤ most → Stands bs at (entry_bytes e ++ ys) → Reads bs (read_entry bs beside most least at) e ys
unfolding read_entry
entry_reads bs beside most least at e ys i o l m s = follow_reads bs (field 8 bs at) _ e.number e _ ys (field_reads 7 e.number bs at _ (number_fits e.number i.epoch) (stands_as bs at _ _ (entry_is e ys) s)) (λ at_ballot t.
    check_reads bs _ at _ e ys (number_passes e.number least most i.epoch i.from_one l m)
    (follow_reads bs (field 4 bs at_ballot) _ e.ballot e _ ys (field_reads 3 e.ballot bs at_ballot _ (let b = i.ballot_most in omega arith) t) (λ at_tag u.
    check_reads bs _ at_ballot _ e ys (ballot_passes (epoch_of e.number) e.ballot i.ballot i.ballot_most)
    (follow_reads bs (field 1 bs at_tag) _ (tag_of e.what) e _ ys (field_reads 0 (tag_of e.what) bs at_tag _ (tag_fits e.what) u) (λ at_what v.
    check_reads bs _ at_tag _ e ys (stands_passes e.number beside e.what i.place o)
    (follow_reads bs (tagged bs at_what (tag_of e.what)) _ e.what e _ ys (tagged_reads bs at_what e.what ys i.short v) (λ next z. got_reads bs e next ys z)))))))

-- bridges and withheld records stand only where they may
abbrev pub MayStand : Beside → List Entry → Type 0
MayStand beside [] = Unit {0}
MayStand beside (e ∷ es) = (may_stand beside (tag_of e.what) ≡ true) × MayStand beside es

-- what is kept is all but withheld records
pub kept_stands : (w : What) → IsKept w → may_stand besides.Bridges (tag_of w) ≡ true
kept_stands (Rec p) k = refl
kept_stands Hole k = refl
kept_stands Bridge k = refl
kept_stands Plug k = refl
kept_stands Withheld k = elim k [ ]

pub all_stand : (es : List Entry) → AreKept es → MayStand besides.Bridges es
all_stand [] k = tt
all_stand (e ∷ es) k = (kept_stands e.what k.0, all_stand es k.1)

pub entries_reads : (bs : List ℕ) (beside : Beside) (most : ℕ) (es : List Entry) (least at : ℕ) (ys : List ℕ) → AreEntries es → MayStand beside es → RiseWithin least most es → Stands bs at (entries_bytes es ++ ys) → Reads bs (read_entries bs beside most (length es) least at) es ys
unfolding read_entries
entries_reads bs beside most [] least at ys a o r s = got_reads bs [] at ys s
entries_reads bs beside most (e ∷ es) least at ys a o r s = follow_reads bs (read_entry bs beside most least at) _ e (e ∷ es) _ ys (entry_reads bs beside most least at e (entries_bytes es ++ ys) a.0 o.0 r.0 r.1 (stands_as bs at _ _ (append_assoc (entry_bytes e) (entries_bytes es) ys) s)) (λ next t.
    follow_reads bs (read_entries bs beside most (length es) (e.number + 1) next) _ es (e ∷ es) _ ys (entries_reads bs beside most es (e.number + 1) next ys a.1 o.1 r.2 t) (λ last u. got_reads bs (e ∷ es) last ys u))

-- ---- summaries and logs ----

older_is : (y : Summary) (ys : List ℕ) → older_summary_bytes y ++ ys ≡ big_bytes 4 y.ballot ++ (big_bytes 4 y.lng ++ (big_bytes 8 y.trim ++ (big_bytes 4 y.end ++ ys)))
older_is y ys = append_assoc (big_bytes 4 y.ballot) (big_bytes 4 y.lng ++ (big_bytes 8 y.trim ++ big_bytes 4 y.end)) ys
    ∙ ap (λ r. big_bytes 4 y.ballot ++ r) (append_assoc (big_bytes 4 y.lng) (big_bytes 8 y.trim ++ big_bytes 4 y.end) ys ∙ ap (λ r. big_bytes 4 y.lng ++ r) (append_assoc (big_bytes 8 y.trim) (big_bytes 4 y.end) ys))

-- what stands of a summary in its older form
abbrev pub unlost : Summary → Summary
unlost y = with_loss y false

pub older_reads : (bs : List ℕ) (epoch at : ℕ) (y : Summary) (ys : List ℕ) → IsSummary epoch y → Stands bs at (older_summary_bytes y ++ ys) → Reads bs (read_older_summary bs epoch at) (unlost y) ys
unfolding read_older_summary
older_reads bs epoch at y ys i s = follow_reads bs (field 4 bs at) _ y.ballot (unlost y) _ ys (field_reads 3 y.ballot bs at _ (let b = i.ballot_most in omega arith) (stands_as bs at _ _ (older_is y ys) s)) (λ at_lng t.
    check_reads bs _ at _ (unlost y) ys (ballot_passes (epoch + 1) y.ballot (let b = i.ballot in omega arith) i.ballot_most)
    (follow_reads bs (field 4 bs at_lng) _ y.lng (unlost y) _ ys (field_reads 3 y.lng bs at_lng _ (let b = i.lng in omega arith) t) (λ at_trim u.
    check_reads bs _ at_lng _ (unlost y) ys (lng_passes y.lng i.lng)
    (follow_reads bs (field 8 bs at_trim) _ y.trim (unlost y) _ ys (field_reads 7 y.trim bs at_trim _ (let b = i.trim in omega arith) u) (λ at_end v.
    follow_reads bs (field 4 bs at_end) _ y.end (unlost y) _ ys (field_reads 3 y.end bs at_end _ (let b = i.end_most in omega arith) v) (λ next z.
    check_reads bs _ at_end _ (unlost y) ys (let b = i.end in grind (arith, nat_tests)) (got_reads bs (unlost y) next ys z)))))))

pub flag_reads : (bs : List ℕ) (at : ℕ) (b : Bool) (ys : List ℕ) → Stands bs at (big_bytes 1 (flag b) ++ ys) → Reads bs (read_flag bs at) b ys
flag_reads bs at true ys s = follow_reads bs (field 1 bs at) _ 1 true ys ys (field_reads 0 1 bs at ys (omega arith) s) (λ next t. check_reads bs true at _ true ys refl (got_reads bs true next ys t))
flag_reads bs at false ys s = follow_reads bs (field 1 bs at) _ 0 false ys ys (field_reads 0 0 bs at ys (omega arith) s) (λ next t. check_reads bs true at _ false ys refl (got_reads bs false next ys t))

pub summary_reads : (bs : List ℕ) (epoch at : ℕ) (y : Summary) (ys : List ℕ) → IsSummary epoch y → Stands bs at (summary_bytes y ++ ys) → Reads bs (read_summary bs epoch at) y ys
unfolding read_summary
summary_reads bs epoch at y ys i s = follow_reads bs (read_older_summary bs epoch at) _ (unlost y) y _ ys
    (older_reads bs epoch at y (big_bytes 1 (flag y.loss) ++ ys) i (stands_as bs at _ _ (append_assoc (older_summary_bytes y) (big_bytes 1 (flag y.loss)) ys) s))
    (λ at_loss t. follow_reads bs (read_flag bs at_loss) _ y.loss y ys ys (flag_reads bs at_loss y.loss ys t) (λ next u. got_reads bs y next ys u))

pub log_reads : (bs : List ℕ) (at l : ℕ) (ys : List ℕ) → IsLog l → Stands bs at (big_bytes 4 l ++ ys) → Reads bs (read_log bs at) l ys
log_reads bs at l ys i s = follow_reads bs (field 4 bs at) _ l l ys ys (field_reads 3 l bs at ys (let b = i.1 in omega arith) s) (λ next t. check_reads bs _ at _ l ys (let a = i.0 in let b = i.1 in grind (arith, nat_tests)) (got_reads bs l next ys t))
