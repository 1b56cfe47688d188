-- What is read as an entry, a summary or a log is spelled by its bytes.
use Rattle.std.proofs.Common.{◌≡◌, ◌<◌, ◌≤◌, ◌+◌, ◌*◌, ◌^◌, ◌/◌, ◌&&◌, ◌==◌, inl, inr, ℕ, suc, zero, Bool, true, false, cond, List, [], ◌∷◌, ◌++◌, refl, ap, sym, ◌∙◌, subst, append_assoc, take, drop, length, nat_le, arith, length-drop}
use Rattle.std.proofs.Math.Nat.{mul-le-mul_right, mod-eq_of_lt, mod-lt}
use Rattle.std.proofs.lemmas.Bool.{cases_order}
use Rattle.std.proofs.lemmas.Bool.Decides.{nat_tests}
use Rattle.std.proofs.lemmas.Grind.{common_steps}
use Rattle.std.proofs.lemmas.List.{append-nil}
use Rattle.std.specs.Int.{byte_at, bytes_high_first}
use Rattle.byteorder.specs.Endian.{big_bytes, big_number, big_from}
use Rattle.byteorder.specs.Numbers.{big_from-bytes, big_from-lt, big_from-cons, length-bytes_high_first}
use Rattle.ld_lsn.specs.Number.{epoch_of, esn_of}
use Rattle.ld_ids.specs.Id.{IsLog}
use Rattle.ld_ids.specs.Bytes.{AreBytes}
use Rattle.ld_msg.specs.declared.msg.What.{What}
use Rattle.ld_msg.specs.declared.msg.What.TheVariants.{Rec, Hole, Bridge, Plug, Withheld}
use Rattle.ld_msg.specs.declared.msg.Entry.{Entry}
use Rattle.ld_msg.specs.declared.msg.Summary.{Summary}
use Rattle.ld_msg.specs.Bounds.{IsLng, IsEpoch, IsEntry, IsSummary, IsShort, IsKept, AreKept, AreEntries, RiseWithin, last_place}
use Rattle.ld_fields.specs.declared.beside.Beside.{Beside}
use Rattle.ld_fields.specs.declared.beside.Beside.TheVariants as besides
use Rattle.ld_fields.specs.Fields.{Read, Got, Off, follow, check, field, within, end_at}
use Rattle.ld_fields.specs.Items.{what_bytes, entry_bytes, entries_bytes, older_summary_bytes, summary_bytes, flag, greatest_epoch, greatest_lng, is_number, is_tag, may_stand, payload, tagged, read_entry, read_entries, read_older_summary, read_flag, with_loss, read_summary, read_log}
use Rattle.ld_fields.proofs.Spelling.{tag_of, after_tag, MayStand}

-- ---- numbers and their bytes ----

same_quotient : (a b p y z : ℕ) → a * p + y ≡ b * p + z → y < p → z < p → (a ≡ b) × (y ≡ z)
same_quotient a b p y z e h k = elim (cases_order a b) [
  | inl s ↦ (s, let t = ap (λ n. n * p) s in omega arith)
  | inr (inl l) ↦ let m : suc a * p ≤ b * p = mul-le-mul_right p l in absurd (grind arith)
  | inr (inr l) ↦ let m : suc b * p ≤ a * p = mul-le-mul_right p l in absurd (grind arith)
]

tail_bytes : (a : ℕ) (xs : List ℕ) → AreBytes (a ∷ xs) → AreBytes xs
tail_bytes a xs h i = h (suc i)

same_bytes : (n : ℕ) (xs ys : List ℕ) → AreBytes xs → AreBytes ys → n ≤ length xs → n ≤ length ys → big_from 0 n xs ≡ big_from 0 n ys → take n xs ≡ take n ys
same_bytes zero xs ys h k l m e = refl
same_bytes (suc n) [] ys h k l m e = absurd (omega arith)
same_bytes (suc n) (x ∷ xs) [] h k l m e = absurd (omega arith)
same_bytes (suc n) (x ∷ xs) (y ∷ ys) h k l m e =
    let q = same_quotient x y (256 ^ n) (big_from 0 n xs) (big_from 0 n ys) (ap (λ r. x * 256 ^ n + r) (sym (big_from-cons 0 n x xs)) ∙ (e ∙ ap (λ r. y * 256 ^ n + r) (big_from-cons 0 n y ys)))
    (big_from-lt 0 n xs (tail_bytes x xs h)) (big_from-lt 0 n ys (tail_bytes y ys k)) in
    ap (λ v. v ∷ take n xs) q.0 ∙ ap (λ r. y ∷ r) (same_bytes n xs ys (tail_bytes x xs h) (tail_bytes y ys k) (omega arith) (omega arith) q.1)

one_byte : (k x : ℕ) → byte_at k x < 256
one_byte zero x = mod-lt x (omega arith)
one_byte (suc k) x = mod-lt (x / 256 ^ suc k) (omega arith)

number_bytes : (n x : ℕ) → AreBytes (bytes_high_first n x)
number_bytes zero x i = omega arith
number_bytes (suc n) x zero = one_byte n x
number_bytes (suc n) x (suc i) = number_bytes n x i

all_taken : (xs : List ℕ) (n : ℕ) → length xs ≡ n → take n xs ≡ xs
all_taken xs n h = grind (arith, common_steps)

-- the bytes of the number in bytes are these
pub bytes_back : (n : ℕ) (xs : List ℕ) → AreBytes xs → n ≤ length xs → bytes_high_first n (big_from 0 n xs) ≡ take n xs
bytes_back n xs h l = let x : ℕ = big_from 0 n xs in let c = length-bytes_high_first n x in
    sym (all_taken (bytes_high_first n x) n c)
    ∙ same_bytes n (bytes_high_first n x) xs (number_bytes n x) h (omega arith) l
    (ap (big_from 0 n) (sym (append-nil (bytes_high_first n x))) ∙ (big_from-bytes n x [] ∙ mod-eq_of_lt (big_from-lt 0 n xs h)))

-- ---- what was read is spelled ----

pub record Spelled (bs : List ℕ) (at next : ℕ) (xs : List ℕ) : Type 0 where
  pub within : next ≤ length bs
  pub there : drop at bs ≡ xs ++ drop next bs

pub spelled_on : (bs : List ℕ) (at mid next : ℕ) (xs ys : List ℕ) → Spelled bs at mid xs → Spelled bs mid next ys → Spelled bs at next (xs ++ ys)
spelled_on bs at mid next xs ys h k = record { within = k.within; there = h.there ∙ (ap (λ r. xs ++ r) k.there ∙ sym (append_assoc xs ys (drop next bs))) }

pub spelled_none : (bs : List ℕ) (at : ℕ) → at ≤ length bs → Spelled bs at at []
spelled_none bs at h = record { within = h; there = refl }

pub record Spells (bs : List ℕ) (n at x next : ℕ) : Type 0 where
  pub fits : x < 256 ^ n
  pub spelled : Spelled bs at next (big_bytes n x)

pub drop_bytes : (bs : List ℕ) (at : ℕ) → AreBytes bs → AreBytes (drop at bs)
drop_bytes bs zero h i = h i
drop_bytes [] (suc at) h i = h i
drop_bytes (b ∷ bs) (suc at) h i = drop_bytes bs at (tail_bytes b bs h) i

pub split_at : (n : ℕ) (xs : List ℕ) → xs ≡ take n xs ++ drop n xs
split_at zero xs = refl
split_at (suc n) [] = refl
split_at (suc n) (x ∷ xs) = ap (λ r. x ∷ r) (split_at n xs)

dropped : (bs : List ℕ) (at k : ℕ) → drop (at + k) bs ≡ drop k (drop at bs)
dropped bs at k = grind (arith, common_steps)

field_there : (n : ℕ) (bs : List ℕ) (at x next : ℕ) (b : Bool) → nat_le (at + n) (length bs) ≡ b → cond b (Got (big_number n (drop at bs)) (at + n)) (Off at) ≡ Got x next → (at + n ≤ length bs) × (big_number n (drop at bs) ≡ x) × (at + n ≡ next)
field_there n bs at x next true h e = (grind (arith, nat_tests), cc, cc)
field_there n bs at x next false h e = absurd cc

pub field_spells : (n : ℕ) (bs : List ℕ) (at x next : ℕ) → AreBytes bs → field n bs at ≡ Got x next → Spells bs n at x next
unfolding field
field_spells n bs at x next h e = let t = field_there n bs at x next (nat_le (at + n) (length bs)) refl e in let d = length-drop at bs in record {
  fits = subst (λ v. v < 256 ^ n) t.1 (big_from-lt 0 n (drop at bs) (drop_bytes bs at h));
  spelled = record {
    within = subst (λ v. v ≤ length bs) t.2 t.0;
    there = split_at n (drop at bs) ∙ (ap (λ r. r ++ drop n (drop at bs)) (sym (bytes_back n (drop at bs) (drop_bytes bs at h) (let l = t.0 in omega arith)) ∙ ap (big_bytes n) t.1)
        ∙ ap (λ r. big_bytes n x ++ r) (sym (dropped bs at n) ∙ ap (λ k. drop k bs) t.2));
  };
}

-- ---- readings taken apart ----

module _ {X Y : Type 0} where
  pub record Followed (r : Read X) (f : X → ℕ → Read Y) (w : Y) (last : ℕ) : Type 0 where
    pub value : X
    pub next : ℕ
    pub first : r ≡ Got value next
    pub second : f value next ≡ Got w last

  pub followed : (r : Read X) (f : X → ℕ → Read Y) (w : Y) (last : ℕ) → follow r f ≡ Got w last → Followed r f w last
  followed (Got v n) f w last e = record { value = v; next = n; first = refl; second = e }
  followed (Off p) f w last e = absurd cc

module _ {X : Type 0} where
  pub checked : (ok : Bool) (at : ℕ) (r : Read X) (w : X) (last : ℕ) → check ok at r ≡ Got w last → (ok ≡ true) × (r ≡ Got w last)
  checked true at r w last e = (refl, e)
  checked false at r w last e = absurd cc

module _ {X Y P : Type 0} where
  pub by_follow : (r : Read X) (f : X → ℕ → Read Y) (w : Y) (last : ℕ) → follow r f ≡ Got w last → ((v : X) (k : ℕ) → r ≡ Got v k → f v k ≡ Got w last → P) → P
  by_follow r f w last e g = let t = followed r f w last e in g t.value t.next t.first t.second

module _ {X P : Type 0} where
  pub by_check : (ok : Bool) (at : ℕ) (r : Read X) (w : X) (last : ℕ) → check ok at r ≡ Got w last → (ok ≡ true → r ≡ Got w last → P) → P
  by_check ok at r w last e g = let t = checked ok at r w last e in g t.0 t.1

  -- what is read at the end
  pub by_got : (v w : X) (n last : ℕ) → Got v n ≡ Got w last → ((v ≡ w) → (n ≡ last) → P) → P
  by_got v w n last e g = let a : v ≡ w = cc in let b : n ≡ last = cc in g a b

module _ {X : Type 0} where
  ended_by : (bs : List ℕ) (at : ℕ) (v w : X) (next : ℕ) (b : Bool) → nat_le (length bs) at ≡ b → cond b (Got v at) (Off at) ≡ Got w next → (length bs ≤ at) × (v ≡ w) × (at ≡ next)
  ended_by bs at v w next true h e = (grind (arith, nat_tests), cc, cc)
  ended_by bs at v w next false h e = absurd cc

  -- nothing is left behind it
  pub ended : (bs : List ℕ) (at : ℕ) (v w : X) (next : ℕ) → end_at bs at v ≡ Got w next → (length bs ≤ at) × (v ≡ w) × (at ≡ next)
  ended bs at v w next r = ended_by bs at v w next (nat_le (length bs) at) refl r

pub gone : (bs : List ℕ) (at : ℕ) → length bs ≤ at → drop at bs ≡ []
gone bs at h = grind (arith, common_steps)

-- ---- entries ----

pub record WhatRead (bs : List ℕ) (at next tag : ℕ) (w : What) : Type 0 where
  pub spelled : Spelled bs at next (after_tag w)
  pub tag_is : tag ≡ tag_of w
  pub short : IsShort w

payload_spelled : (bs : List ℕ) (at n mid : ℕ) (w : What) (next : ℕ) → n < 256 ^ 2 → Spelled bs at mid (big_bytes 2 n) → payload bs at n mid ≡ Got w next → WhatRead bs at next 0 w
payload_spelled bs at n mid w next f s r =
    let c = checked (nat_le (mid + n) (length bs)) at (Got (Rec (take n (drop mid bs))) (mid + n)) w next r in
    let l : mid + n ≤ length bs = (let b = c.0 in grind (arith, nat_tests)) in
    let e : Rec (take n (drop mid bs)) ≡ w = (let g = c.1 in cc) in
    let k : mid + n ≡ next = (let g = c.1 in cc) in
    let m : length (take n (drop mid bs)) ≡ n = (let d = length-drop mid bs in grind (arith, common_steps)) in
    subst (WhatRead bs at next 0) e (record {
      spelled = spelled_on bs at mid next (big_bytes 2 (length (take n (drop mid bs)))) (take n (drop mid bs)) (subst (λ x. Spelled bs at mid (big_bytes 2 x)) (sym m) s)
          (record { within = subst (λ x. x ≤ length bs) k l; there = split_at n (drop mid bs) ∙ ap (λ r. take n (drop mid bs) ++ r) (sym (dropped bs mid n) ∙ ap (λ x. drop x bs) k) });
      tag_is = refl;
      short = omega arith;
    })

pub tagged_spelled : (bs : List ℕ) (at tag : ℕ) (w : What) (next : ℕ) → AreBytes bs → at ≤ length bs → tag ≤ 4 → tagged bs at tag ≡ Got w next → WhatRead bs at next tag w
tagged_spelled bs at zero w next h a t r = let f = followed (field 2 bs at) (payload bs at) w next r in let s = field_spells 2 bs at f.value f.next h f.first in payload_spelled bs at f.value f.next w next s.fits s.spelled f.second
tagged_spelled bs at (suc zero) w next h a t r = let e : Hole ≡ w = cc in let k : at ≡ next = cc in subst (WhatRead bs at next 1) e (record { spelled = subst (λ n. Spelled bs at n []) k (spelled_none bs at a); tag_is = refl; short = tt })
tagged_spelled bs at (suc (suc zero)) w next h a t r = let e : Bridge ≡ w = cc in let k : at ≡ next = cc in subst (WhatRead bs at next 2) e (record { spelled = subst (λ n. Spelled bs at n []) k (spelled_none bs at a); tag_is = refl; short = tt })
tagged_spelled bs at (suc (suc (suc zero))) w next h a t r = let e : Plug ≡ w = cc in let k : at ≡ next = cc in subst (WhatRead bs at next 3) e (record { spelled = subst (λ n. Spelled bs at n []) k (spelled_none bs at a); tag_is = refl; short = tt })
tagged_spelled bs at (suc (suc (suc (suc zero)))) w next h a t r = let e : Withheld ≡ w = cc in let k : at ≡ next = cc in subst (WhatRead bs at next 4) e (record { spelled = subst (λ n. Spelled bs at n []) k (spelled_none bs at a); tag_is = refl; short = tt })
tagged_spelled bs at (suc (suc (suc (suc (suc tag))))) w next h a t r = absurd (omega arith)

pub record EntryRead (bs : List ℕ) (beside : Beside) (most least at next : ℕ) (e : Entry) : Type 0 where
  pub spelled : Spelled bs at next (entry_bytes e)
  pub is : IsEntry e
  pub least_is : least ≤ e.number
  pub most_is : e.number ≤ most
  pub stands : may_stand beside (tag_of e.what) ≡ true

number_is : (n least most : ℕ) → (is_number n && within least most n) ≡ true → IsEpoch (epoch_of n) × (1 ≤ esn_of n) × (least ≤ n) × (n ≤ most)
number_is n least most h = ((grind (arith, nat_tests), grind (arith, nat_tests)), grind (arith, nat_tests), grind (arith, nat_tests), grind (arith, nat_tests))

pub within_is : (least most n : ℕ) → within least most n ≡ true → (least ≤ n) × (n ≤ most)
within_is least most n h = (grind (arith, nat_tests), grind (arith, nat_tests))

pub both_true : (a b : Bool) → (a && b) ≡ true → (a ≡ true) × (b ≡ true)
both_true true b h = (refl, h)
both_true false b h = absurd cc

pub tag_most : (n tag : ℕ) → is_tag n tag ≡ true → tag ≤ 4
tag_most n tag h = grind (arith, nat_tests)

pub place_of : (n tag : ℕ) (w : What) → is_tag n tag ≡ true → tag ≡ tag_of w → esn_of n ≤ last_place w
place_of n tag (Rec p) h e = grind (arith, nat_tests)
place_of n tag Hole h e = grind (arith, nat_tests)
place_of n tag Bridge h e = omega arith
place_of n tag Plug h e = grind (arith, nat_tests)
place_of n tag Withheld h e = grind (arith, nat_tests)

pub what_made : (tag : ℕ) (w : What) → tag ≡ tag_of w → big_bytes 1 tag ++ after_tag w ≡ what_bytes w
what_made tag (Rec p) e = ap (λ t. big_bytes 1 t ++ (big_bytes 2 (length p) ++ p)) e
what_made tag Hole e = ap (λ t. big_bytes 1 t ++ []) e
what_made tag Bridge e = ap (λ t. big_bytes 1 t ++ []) e
what_made tag Plug e = ap (λ t. big_bytes 1 t ++ []) e
what_made tag Withheld e = ap (λ t. big_bytes 1 t ++ []) e

pub le_is : (a b : ℕ) → nat_le a b ≡ true → a ≤ b
le_is a b h = grind (arith, nat_tests)

entry_made : (bs : List ℕ) (beside : Beside) (most least at a b c next number ballot tag : ℕ) (w : What) → Spells bs 8 at number a → (is_number number && within least most number) ≡ true → Spells bs 4 a ballot b → within (epoch_of number) greatest_epoch ballot ≡ true
    → Spells bs 1 b tag c → is_tag number tag ≡ true → may_stand beside tag ≡ true → WhatRead bs c next tag w → EntryRead bs beside most least at next (record { number = number; ballot = ballot; what = w })
entry_made bs beside most least at a b c next number ballot tag w s m t n u o p v = let i = number_is number least most m in let j = within_is (epoch_of number) greatest_epoch ballot n in record {
  spelled = spelled_on bs at a next (big_bytes 8 number) (big_bytes 4 ballot ++ what_bytes w) s.spelled (spelled_on bs a b next (big_bytes 4 ballot) (what_bytes w) t.spelled
      (subst (Spelled bs b next) (what_made tag w v.tag_is) (spelled_on bs b c next (big_bytes 1 tag) (after_tag w) u.spelled v.spelled)));
  is = record { epoch = i.0; from_one = i.1; place = place_of number tag w o v.tag_is; ballot = j.0; ballot_most = j.1; short = v.short };
  least_is = i.2;
  most_is = i.3;
  stands = subst (λ t. may_stand beside t ≡ true) v.tag_is p;
}

pub entry_spelled : (bs : List ℕ) (beside : Beside) (most least at : ℕ) (e : Entry) (next : ℕ) → AreBytes bs → read_entry bs beside most least at ≡ Got e next → EntryRead bs beside most least at next e
unfolding read_entry
entry_spelled bs beside most least at e next h r =
    by_follow (field 8 bs at) _ e next r (λ number a f r. by_check _ at _ e next r (λ ok r.
    by_follow (field 4 bs a) _ e next r (λ ballot b g r. by_check _ a _ e next r (λ ok2 r.
    by_follow (field 1 bs b) _ e next r (λ tag c k r. by_check _ b _ e next r (λ ok3 r.
    by_follow (tagged bs c tag) _ e next r (λ w last q r. by_got _ e last next r (λ is n.
    let u = field_spells 1 bs b tag c h k in let o = both_true (is_tag number tag) (may_stand beside tag) ok3 in
    subst (EntryRead bs beside most least at next) is (subst (λ x. EntryRead bs beside most least at x (record { number = number; ballot = ballot; what = w })) n
    (entry_made bs beside most least at a b c last number ballot tag w (field_spells 8 bs at number a h f) ok (field_spells 4 bs a ballot b h g) ok2 u o.0 o.1
    (tagged_spelled bs c tag w last h u.spelled.within (tag_most number tag o.0) q)))))))))))

pub record EntriesRead (bs : List ℕ) (beside : Beside) (most count least at next : ℕ) (es : List Entry) : Type 0 where
  pub spelled : Spelled bs at next (entries_bytes es)
  pub count_is : length es ≡ count
  pub are : AreEntries es
  pub rise : RiseWithin least most es
  pub stand : MayStand beside es

entries_more : (bs : List ℕ) (beside : Beside) (most count least at mid next : ℕ) (e : Entry) (es : List Entry) → EntryRead bs beside most least at mid e → EntriesRead bs beside most count (e.number + 1) mid next es → EntriesRead bs beside most (suc count) least at next (e ∷ es)
entries_more bs beside most count least at mid next e es h k = record {
  spelled = spelled_on bs at mid next (entry_bytes e) (entries_bytes es) h.spelled k.spelled;
  count_is = ap suc k.count_is;
  are = (h.is, k.are);
  rise = (h.least_is, h.most_is, k.rise);
  stand = (h.stands, k.stand);
}

pub entries_spelled : (bs : List ℕ) (beside : Beside) (most count least at : ℕ) (es : List Entry) (next : ℕ) → AreBytes bs → at ≤ length bs → read_entries bs beside most count least at ≡ Got es next → EntriesRead bs beside most count least at next es
unfolding read_entries
entries_spelled bs beside most zero least at es next h a r = by_got [] es at next r (λ is n. subst (EntriesRead bs beside most zero least at next) is (subst (λ x. EntriesRead bs beside most zero least at x []) n
    (record { spelled = spelled_none bs at a; count_is = refl; are = tt; rise = tt; stand = tt })))
entries_spelled bs beside most (suc count) least at es next h a r =
    by_follow (read_entry bs beside most least at) _ es next r (λ e mid f r. by_follow (read_entries bs beside most count (e.number + 1) mid) _ es next r (λ fs last g r. by_got (e ∷ fs) es last next r (λ is n.
    let u = entry_spelled bs beside most least at e mid h f in
    subst (EntriesRead bs beside most (suc count) least at next) is (subst (λ x. EntriesRead bs beside most (suc count) least at x (e ∷ fs)) n
    (entries_more bs beside most count least at mid last e fs u (entries_spelled bs beside most count (e.number + 1) mid fs last h u.spelled.within g))))))

-- what stands where bridges may is kept
pub stands_kept : (w : What) → may_stand besides.Bridges (tag_of w) ≡ true → IsKept w
stands_kept (Rec p) s = tt
stands_kept Hole s = tt
stands_kept Bridge s = tt
stands_kept Plug s = tt
stands_kept Withheld s = absurd cc

pub all_kept : (es : List Entry) → MayStand besides.Bridges es → AreKept es
all_kept [] s = tt
all_kept (e ∷ es) s = (stands_kept e.what s.0, all_kept es s.1)

pub same_is : (a b : ℕ) → (a == b) ≡ true → a ≡ b
same_is a b h = grind (arith, nat_tests)

-- ---- summaries and logs ----

pub lng_is : (n : ℕ) → nat_le n greatest_lng ≡ true → IsLng n
lng_is n h = grind (arith, nat_tests)

pub record OlderRead (bs : List ℕ) (epoch at next : ℕ) (y : Summary) : Type 0 where
  pub spelled : Spelled bs at next (older_summary_bytes y)
  pub is : IsSummary epoch y
  pub unlost : y.loss ≡ false

pub older_spelled : (bs : List ℕ) (epoch at : ℕ) (y : Summary) (next : ℕ) → AreBytes bs → read_older_summary bs epoch at ≡ Got y next → OlderRead bs epoch at next y
unfolding read_older_summary
older_spelled bs epoch at y next h r =
    by_follow (field 4 bs at) _ y next r (λ ballot a f r. by_check _ at _ y next r (λ ok r.
    by_follow (field 4 bs a) _ y next r (λ lng b g r. by_check (nat_le lng greatest_lng) a _ y next r (λ ok1 r.
    by_follow (field 8 bs b) _ y next r (λ trim c k r.
    by_follow (field 4 bs c) _ y next r (λ end d l r. by_check _ c _ y next r (λ ok2 r. by_got _ y d next r (λ is n.
    let s = field_spells 4 bs at ballot a h f in let t = field_spells 4 bs a lng b h g in let u = field_spells 8 bs b trim c h k in let v = field_spells 4 bs c end d h l in
    let i = within_is (epoch + 1) greatest_epoch ballot ok in let i0 = i.0 in let i1 = i.1 in let x = t.fits in let z = u.fits in let q = v.fits in
    subst (OlderRead bs epoch at next) is (subst (λ m. OlderRead bs epoch at m (record { ballot = ballot; lng = lng; trim = trim; end = end; loss = false })) n (record {
      spelled = spelled_on bs at a d (big_bytes 4 ballot) _ s.spelled (spelled_on bs a b d (big_bytes 4 lng) _ t.spelled (spelled_on bs b c d (big_bytes 8 trim) (big_bytes 4 end) u.spelled v.spelled));
      is = record { ballot = omega arith; ballot_most = omega arith; lng = lng_is lng ok1; trim = omega arith; end = le_is 1 end ok2; end_most = omega arith };
      unlost = refl;
    }))))))))))

flag_made : (byte : ℕ) → byte ≤ 1 → flag (byte == 1) ≡ byte
flag_made zero h = refl
flag_made (suc zero) h = refl
flag_made (suc (suc n)) h = absurd (omega arith)

pub flag_spelled : (bs : List ℕ) (at : ℕ) (b : Bool) (next : ℕ) → AreBytes bs → read_flag bs at ≡ Got b next → Spelled bs at next (big_bytes 1 (flag b))
flag_spelled bs at b next h r = by_follow (field 1 bs at) _ b next r (λ byte last f r. by_check (nat_le byte 1) at _ b next r (λ ok r. by_got (byte == 1) b last next r (λ is n.
    subst (λ c. Spelled bs at next (big_bytes 1 (flag c))) is (subst (λ m. Spelled bs at m (big_bytes 1 (flag (byte == 1)))) n
    (subst (λ k. Spelled bs at last (big_bytes 1 k)) (sym (flag_made byte (le_is byte 1 ok))) (field_spells 1 bs at byte last h f).spelled)))))

pub record SummaryRead (bs : List ℕ) (epoch at next : ℕ) (y : Summary) : Type 0 where
  pub spelled : Spelled bs at next (summary_bytes y)
  pub is : IsSummary epoch y

-- whether something is lost doesn't bound a summary
with_loss_is : (epoch : ℕ) (y : Summary) (loss : Bool) → IsSummary epoch y → IsSummary epoch (with_loss y loss)
with_loss_is epoch y loss i = record { ballot = i.ballot; ballot_most = i.ballot_most; lng = i.lng; trim = i.trim; end = i.end; end_most = i.end_most }

pub summary_spelled : (bs : List ℕ) (epoch at : ℕ) (y : Summary) (next : ℕ) → AreBytes bs → read_summary bs epoch at ≡ Got y next → SummaryRead bs epoch at next y
unfolding read_summary
summary_spelled bs epoch at y next h r =
    by_follow (read_older_summary bs epoch at) _ y next r (λ z a f r. by_follow (read_flag bs a) _ y next r (λ loss b g r. by_got (with_loss z loss) y b next r (λ is n.
    let t = older_spelled bs epoch at z a h f in
    subst (SummaryRead bs epoch at next) is (subst (λ m. SummaryRead bs epoch at m (with_loss z loss)) n (record {
      spelled = spelled_on bs at a b (older_summary_bytes z) (big_bytes 1 (flag loss)) t.spelled (flag_spelled bs a loss b h g);
      is = with_loss_is epoch z loss t.is;
    })))))

pub record LogRead (bs : List ℕ) (at next l : ℕ) : Type 0 where
  pub spelled : Spelled bs at next (big_bytes 4 l)
  pub is : IsLog l

pub log_spelled : (bs : List ℕ) (at l next : ℕ) → AreBytes bs → read_log bs at ≡ Got l next → LogRead bs at next l
log_spelled bs at l next h r = by_follow (field 4 bs at) _ l next r (λ v a f r. by_check _ at _ l next r (λ ok r. by_got v l a next r (λ is n.
    let s = field_spells 4 bs at v a h f in subst (LogRead bs at next) is (subst (λ x. LogRead bs at x v) n (record { spelled = s.spelled; is = within_is 1 65535 v ok })))))
