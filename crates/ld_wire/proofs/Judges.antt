-- What follows from how bytes are judged.
use Rattle.std.proofs.Common.{◌≡◌, ◌<◌, ◌≤◌, ◌%◌, ◌==◌, ℕ, suc, zero, Bool, true, false, cond, List, [], ◌∷◌, ◌++◌, refl, ap, sym, ◌∙◌, subst, append_assoc, take, drop, length, get_or, nat_lt, arith, length-append, length-drop, Result, Ok, Err, IfOk, Option, None, Some, IfSome}
use Rattle.std.proofs.lemmas.Bool.Decides.{nat_tests}
use Rattle.std.proofs.lemmas.Grind.{common_steps}
use Rattle.std.proofs.lemmas.List.{append-nil, take-append-le}
use Rattle.byteorder.specs.Endian.{big_bytes, big_number}
use Rattle.byteorder.specs.Numbers.{big_number-reads_back, big_from-append, length-bytes_high_first}
use Rattle.ld_ids.specs.Bytes.{AreBytes}
use Rattle.ld_msg.specs.declared.msg.Body.{Body}
use Rattle.ld_msg.specs.declared.msg.Body.TheVariants as bodies
use Rattle.ld_msg.specs.declared.msg.Msg.{Msg}
use Rattle.ld_msg.specs.Bounds.{IsMessage}
use Rattle.ld_wire.specs.declared.fault.WireFault.{WireFault}
use Rattle.ld_wire.specs.declared.fault.WireFault.TheVariants as faults
use Rattle.ld_fields.specs.Fields.{Read, Got, Off}
use Rattle.ld_fields.proofs.Spelling.{past, taken}
use Rattle.ld_fields.proofs.Unspelling.{drop_bytes, split_at, bytes_back}
use Rattle.ld_wire.specs.Frames.{kind_of, msg_bytes, frame_of}
use Rattle.ld_wire.specs.Judging.{read_msg, Reading, Complete, Waits, Refused, longest, framed, is_kind, of_kind, behind, sized, judge}
use Rattle.ld_wire.proofs.Sizes.{msg_many}
use Rattle.ld_wire.proofs.Spelling.{msg_reads}
use Rattle.ld_wire.proofs.Unspelling.{msg_spelled, behind_kind}

-- ---- a frame is judged to be its message ----

kind_passes : (b : Body) → is_kind (kind_of b) ≡ true
unfolding kind_of
kind_passes (bodies.Store n lng x) = refl
kind_passes (bodies.Stored n) = refl
kind_passes (bodies.SealedHere n k) = refl
kind_passes (bodies.LostHere n round g end) = refl
kind_passes (bodies.CleanHere n y) = refl
kind_passes (bodies.TrimmedHere n t) = refl
kind_passes (bodies.DigestAsk n) = refl
kind_passes (bodies.DigestPage n upto t lng es) = refl
kind_passes (bodies.Clean e y) = refl
kind_passes (bodies.Release n) = refl
kind_passes (bodies.Trim t) = refl
kind_passes (bodies.ReadAsk round n) = refl
kind_passes (bodies.ReadPage round n upto c es) = refl
kind_passes (bodies.ReadEnded round n end loss) = refl
kind_passes (bodies.ReadTrim round n t) = refl
kind_passes (bodies.ReadWait round n r) = refl
kind_passes (bodies.ReadOne round n set excluded) = refl

kind_small : (k : ℕ) → is_kind k ≡ true → k ≤ 20
kind_small k h = grind (arith, nat_tests)

first_byte : (k : ℕ) (xs : List ℕ) → k ≤ 20 → get_or (big_bytes 1 k ++ xs) 0 0 ≡ k
first_byte k xs h = grind (arith, common_steps)

first_of : (m : Msg) (ys : List ℕ) → get_or (msg_bytes m ++ ys) 0 0 ≡ kind_of m.body
unfolding msg_bytes
first_of m ys = first_byte (kind_of m.body) (behind_kind m ++ ys) (kind_small (kind_of m.body) (kind_passes m.body))

room : (xs ys : List ℕ) → nat_lt (length (xs ++ ys)) (length xs) ≡ false
room xs ys = let e = length-append xs ys in grind (arith, nat_tests)

pub of_kind-frame : (m : Msg) (ys : List ℕ) → IsMessage m → of_kind (length (msg_bytes m)) (kind_of m.body) (msg_bytes m ++ ys) ≡ Complete m ys
unfolding of_kind
of_kind-frame m ys h = let xs : List ℕ = msg_bytes m in let k : ℕ = kind_of m.body in
    let e : is_kind k ≡ true = kind_passes m.body in
    let f : nat_lt (length (xs ++ ys)) (length xs) ≡ false = room xs ys in
    ap (λ x. cond x (cond (nat_lt (length (xs ++ ys)) (length xs)) Waits (framed k (drop (length xs) (xs ++ ys)) (read_msg k (take (length xs) (xs ++ ys))))) (Refused (faults.BadKind k))) e
    ∙ (ap (λ x. cond x Waits (framed k (drop (length xs) (xs ++ ys)) (read_msg k (take (length xs) (xs ++ ys))))) f
    ∙ (ap (λ x. framed k x (read_msg k (take (length xs) (xs ++ ys)))) (past xs ys)
    ∙ (ap (λ x. framed k ys (read_msg k x)) (taken xs ys) ∙ ap (framed k ys) (msg_reads m h))))

not_empty : (xs ys : List ℕ) → 1 ≤ length xs → (length (xs ++ ys) == 0) ≡ false
not_empty xs ys h = let e = length-append xs ys in grind (arith, nat_tests)

behind-frame : (m : Msg) (ys : List ℕ) → IsMessage m → behind (length (msg_bytes m)) (msg_bytes m ++ ys) ≡ Complete m ys
unfolding behind
behind-frame m ys h = let s = msg_many m h in
    ap (λ x. cond x Waits (of_kind (length (msg_bytes m)) (get_or (msg_bytes m ++ ys) 0 0) (msg_bytes m ++ ys))) (not_empty (msg_bytes m) ys s.0)
    ∙ (ap (λ k. of_kind (length (msg_bytes m)) k (msg_bytes m ++ ys)) (first_of m ys) ∙ of_kind-frame m ys h)

sized_on : (n : ℕ) (bs : List ℕ) → 1 ≤ n → n ≤ longest → sized n bs ≡ behind n bs
unfolding sized
sized_on n bs h l = let e : nat_lt longest n ≡ false = grind (arith, nat_tests) in let f : (n == 0) ≡ false = grind (arith, nat_tests) in
    ap (λ x. cond x (Refused (faults.TooLong n)) (cond (n == 0) (Refused (faults.BadField 0 0)) (behind n bs))) e ∙ ap (λ x. cond x (Refused (faults.BadField 0 0)) (behind n bs)) f

judge_on : (bs : List ℕ) → 4 ≤ length bs → judge bs ≡ sized (big_number 4 bs) (drop 4 bs)
unfolding judge
judge_on bs h = let e : nat_lt (length bs) 4 ≡ false = grind (arith, nat_tests) in ap (λ x. cond x Waits (sized (big_number 4 bs) (drop 4 bs))) e

long_enough : (n : ℕ) (xs ys : List ℕ) → 4 ≤ length ((big_bytes 4 n ++ xs) ++ ys)
long_enough n xs ys = let a = length-append (big_bytes 4 n ++ xs) ys in let b = length-append (big_bytes 4 n) xs in let c = length-bytes_high_first 4 n in omega arith

-- a frame, and whatever comes behind it
pub judge_frame : (m : Msg) (ys : List ℕ) → IsMessage m → judge (frame_of m ++ ys) ≡ Complete m ys
unfolding frame_of
judge_frame m ys h = let s = msg_many m h in let n : ℕ = length (msg_bytes m) in let bs : List ℕ = frame_of m ++ ys in
    let e : bs ≡ big_bytes 4 n ++ (msg_bytes m ++ ys) = append_assoc (big_bytes 4 n) (msg_bytes m) ys in
    let l : 4 ≤ length bs = long_enough n (msg_bytes m) ys in
    judge_on bs l
    ∙ (ap (λ x. sized (big_number 4 x) (drop 4 x)) e
    ∙ (ap (λ x. sized x (msg_bytes m ++ ys)) (big_number-reads_back 4 n (msg_bytes m ++ ys) (let t = s.1 in omega arith))
    ∙ (sized_on n (msg_bytes m ++ ys) s.0 s.1 ∙ behind-frame m ys h)))

-- ---- what is judged to be a message is its frame ----

module _ {X P : Type 0} where
  by_cond : (t : Bool) (r s w : X) → cond t r s ≡ w → (t ≡ true → r ≡ w → P) → (t ≡ false → s ≡ w → P) → P
  by_cond true r s w e f g = f refl e
  by_cond false r s w e f g = g refl e

pub record IsFramed (bs : List ℕ) (m : Msg) (rest : List ℕ) : Type 0 where
  pub bytes_are : bs ≡ frame_of m ++ rest
  pub is : IsMessage m

-- behind a length of n
pub record IsBehind (n : ℕ) (bs : List ℕ) (m : Msg) (rest : List ℕ) : Type 0 where
  pub length_is : length (msg_bytes m) ≡ n
  pub bytes_are : bs ≡ msg_bytes m ++ rest
  pub is : IsMessage m

pub record WasFramed (k : ℕ) (rest : List ℕ) (r : Read Msg) (m : Msg) (left : List ℕ) : Type 0 where
  pub next : ℕ
  pub read : r ≡ Got m next
  pub rest_is : rest ≡ left

was_framed : (k : ℕ) (rest : List ℕ) (r : Read Msg) (m : Msg) (left : List ℕ) → framed k rest r ≡ Complete m left → WasFramed k rest r m left
was_framed k rest (Got o next) m left e = let a : o ≡ m = cc in let b : rest ≡ left = cc in record { next = next; read = ap (λ x. Got x next) a; rest_is = b }
was_framed k rest (Off place) m left e = absurd cc

take_bytes : (n : ℕ) (bs : List ℕ) → AreBytes bs → AreBytes (take n bs)
take_bytes zero bs h i = omega arith
take_bytes (suc n) [] h i = h i
take_bytes (suc n) (b ∷ bs) h zero = h zero
take_bytes (suc n) (b ∷ bs) h (suc i) = take_bytes n bs (λ j. h (suc j)) i

kind_first : (n : ℕ) (bs : List ℕ) → 1 ≤ n → n ≤ length bs → take n bs ≡ get_or bs 0 0 ∷ drop 1 (take n bs)
kind_first zero bs h l = absurd (omega arith)
kind_first (suc n) [] h l = absurd (omega arith)
kind_first (suc n) (b ∷ bs) h l = refl

one_byte_is : (k : ℕ) → k ≤ 20 → big_bytes 1 k ≡ k ∷ []
one_byte_is k h = let e : k % 256 ≡ k = omega arith in ap (λ x. x ∷ []) e

whole : (n : ℕ) (bs : List ℕ) (m : Msg) → 1 ≤ n → n ≤ length bs → kind_of m.body ≡ get_or bs 0 0 → drop 1 (take n bs) ≡ behind_kind m → take n bs ≡ msg_bytes m
unfolding msg_bytes
whole n bs m h l k e = kind_first n bs h l ∙ (ap (λ r. get_or bs 0 0 ∷ r) e ∙ (ap (λ x. x ∷ behind_kind m) (sym k) ∙ ap (λ r. r ++ behind_kind m) (sym (one_byte_is (kind_of m.body) (kind_small (kind_of m.body) (kind_passes m.body))))))

take_long : (n : ℕ) (bs : List ℕ) → n ≤ length bs → length (take n bs) ≡ n
take_long n bs h = grind (arith, common_steps)

of_kind_is : (n k : ℕ) (bs : List ℕ) (m : Msg) (rest : List ℕ) → AreBytes bs → 1 ≤ n → k ≡ get_or bs 0 0 → of_kind n k bs ≡ Complete m rest → IsBehind n bs m rest
unfolding of_kind
of_kind_is n k bs m rest h l f r =
    by_cond (is_kind k) _ _ _ r (λ e r. by_cond (nat_lt (length bs) n) _ _ _ r (λ c r. absurd cc) (λ c r.
    let w = was_framed k (drop n bs) (read_msg k (take n bs)) m rest r in
    let long : n ≤ length bs = grind (arith, nat_tests) in
    let s = msg_spelled (take n bs) k m w.next (take_bytes n bs h) e w.read in
    let t = whole n bs m l long (s.kind_is ∙ f) s.there in record {
      length_is = ap length (sym t) ∙ take_long n bs long;
      bytes_are = split_at n bs ∙ (ap (λ x. x ++ drop n bs) t ∙ ap (λ x. msg_bytes m ++ x) w.rest_is);
      is = s.is;
    })) (λ e r. absurd cc)

behind_is : (n : ℕ) (bs : List ℕ) (m : Msg) (rest : List ℕ) → AreBytes bs → 1 ≤ n → behind n bs ≡ Complete m rest → IsBehind n bs m rest
unfolding behind
behind_is n bs m rest h l r = by_cond (length bs == 0) _ _ _ r (λ c r. absurd cc) (λ c r. of_kind_is n (get_or bs 0 0) bs m rest h l refl r)

pub record WasSized (n : ℕ) (bs : List ℕ) (m : Msg) (rest : List ℕ) : Type 0 where
  pub one : 1 ≤ n
  pub read : behind n bs ≡ Complete m rest

was_sized : (n : ℕ) (bs : List ℕ) (m : Msg) (rest : List ℕ) → sized n bs ≡ Complete m rest → WasSized n bs m rest
unfolding sized
was_sized n bs m rest r = by_cond (nat_lt longest n) _ _ _ r (λ c r. absurd cc) (λ c r. by_cond (n == 0) _ _ _ r (λ d r. absurd cc) (λ d r. record { one = grind (arith, nat_tests); read = r }))

pub judge_is : (bs : List ℕ) (m : Msg) (rest : List ℕ) → AreBytes bs → judge bs ≡ Complete m rest → IsFramed bs m rest
unfolding judge frame_of
judge_is bs m rest h r = by_cond (nat_lt (length bs) 4) _ _ _ r (λ c r. absurd cc) (λ c r.
    let w = was_sized (big_number 4 bs) (drop 4 bs) m rest r in
    let s = behind_is (big_number 4 bs) (drop 4 bs) m rest (drop_bytes bs 4 h) w.one w.read in
    let long : 4 ≤ length bs = grind (arith, nat_tests) in record {
      bytes_are = split_at 4 bs ∙ (ap (λ x. x ++ drop 4 bs) (sym (bytes_back 4 bs h long) ∙ ap (big_bytes 4) (sym s.length_is)) ∙ (ap (λ x. big_bytes 4 (length (msg_bytes m)) ++ x) s.bytes_are ∙ sym (append_assoc (big_bytes 4 (length (msg_bytes m))) (msg_bytes m) rest)));
      is = s.is;
    })

-- ---- more bytes change no judgment that has ended ----

abbrev pub Extends : List ℕ → Reading → Reading → Type 0
Extends ys (Complete m rest) s = s ≡ Complete m (rest ++ ys)
Extends ys Waits s = Unit {0}
Extends ys (Refused f) s = s ≡ Refused f

module _ (ys : List ℕ) where
  both : (t : Bool) (r s r' s' : Reading) → (t ≡ true → Extends ys r r') → (t ≡ false → Extends ys s s') → Extends ys (cond t r s) (cond t r' s')
  both true r s r' s' f g = f refl
  both false r s r' s' f g = g refl

  unless : (t u : Bool) (s s' : Reading) → (t ≡ false → u ≡ false) → (t ≡ false → Extends ys s s') → Extends ys (cond t Waits s) (cond u Waits s')
  unless true u s s' f g = tt
  unless false u s s' f g = subst (λ x. Extends ys s (cond x Waits s')) (sym (f refl)) (g refl)

  framed_extends : (k : ℕ) (rest : List ℕ) (r : Read Msg) → Extends ys (framed k rest r) (framed k (rest ++ ys) r)
  framed_extends k rest (Got m next) = refl
  framed_extends k rest (Off place) = refl

  drop_on : (n : ℕ) (xs : List ℕ) → n ≤ length xs → drop n (xs ++ ys) ≡ drop n xs ++ ys
  drop_on zero xs h = refl
  drop_on (suc n) [] h = absurd (omega arith)
  drop_on (suc n) (x ∷ xs) h = drop_on n xs (omega arith)

  take_on : (n : ℕ) (xs : List ℕ) → n ≤ length xs → take n (xs ++ ys) ≡ take n xs
  take_on n xs h = take-append-le n xs ys h

  enough_on : (n : ℕ) (xs : List ℕ) → nat_lt (length xs) n ≡ false → nat_lt (length (xs ++ ys)) n ≡ false
  enough_on n xs h = let e = length-append xs ys in grind (arith, nat_tests)

  some_on : (xs : List ℕ) → (length xs == 0) ≡ false → (length (xs ++ ys) == 0) ≡ false
  some_on xs h = let e = length-append xs ys in grind (arith, nat_tests)

  first_on : (xs : List ℕ) → (length xs == 0) ≡ false → get_or (xs ++ ys) 0 0 ≡ get_or xs 0 0
  first_on [] h = absurd cc
  first_on (x ∷ xs) h = refl

  of_kind_extends : (n k : ℕ) (xs : List ℕ) → Extends ys (of_kind n k xs) (of_kind n k (xs ++ ys))
  unfolding of_kind
  of_kind_extends n k xs = both (is_kind k) _ _ _ _ (λ e. unless (nat_lt (length xs) n) (nat_lt (length (xs ++ ys)) n) _ _ (enough_on n xs) (λ c.
      let l : n ≤ length xs = grind (arith, nat_tests) in
      subst (λ x. Extends ys (framed k (drop n xs) (read_msg k (take n xs))) (framed k x (read_msg k (take n (xs ++ ys))))) (sym (drop_on n xs l))
      (subst (λ x. Extends ys (framed k (drop n xs) (read_msg k (take n xs))) (framed k (drop n xs ++ ys) (read_msg k x))) (sym (take_on n xs l)) (framed_extends k (drop n xs) (read_msg k (take n xs)))))) (λ e. refl)

  behind_extends : (n : ℕ) (xs : List ℕ) → Extends ys (behind n xs) (behind n (xs ++ ys))
  unfolding behind
  behind_extends n xs = unless (length xs == 0) (length (xs ++ ys) == 0) _ _ (some_on xs) (λ c.
      subst (λ x. Extends ys (of_kind n (get_or xs 0 0) xs) (of_kind n x (xs ++ ys))) (sym (first_on xs c)) (of_kind_extends n (get_or xs 0 0) xs))

  sized_extends : (n : ℕ) (xs : List ℕ) → Extends ys (sized n xs) (sized n (xs ++ ys))
  unfolding sized
  sized_extends n xs = both (nat_lt longest n) _ _ _ _ (λ e. refl) (λ e. both (n == 0) _ _ _ _ (λ f. refl) (λ f. behind_extends n xs))

  pub judge_extends : (xs : List ℕ) → Extends ys (judge xs) (judge (xs ++ ys))
  unfolding judge
  judge_extends xs = unless (nat_lt (length xs) 4) (nat_lt (length (xs ++ ys)) 4) _ _ (enough_on 4 xs) (λ c.
      let l : 4 ≤ length xs = grind (arith, nat_tests) in
      subst (λ x. Extends ys (sized (big_number 4 xs) (drop 4 xs)) (sized (big_number 4 (xs ++ ys)) x)) (sym (drop_on 4 xs l))
      (subst (λ x. Extends ys (sized (big_number 4 xs) (drop 4 xs)) (sized x (drop 4 xs ++ ys))) (sym (big_from-append 4 xs ys l)) (sized_extends (big_number 4 xs) (drop 4 xs))))

pub complete_extends : (xs ys : List ℕ) (m : Msg) (rest : List ℕ) → judge xs ≡ Complete m rest → judge (xs ++ ys) ≡ Complete m (rest ++ ys)
complete_extends xs ys m rest e = subst (λ r. Extends ys r (judge (xs ++ ys))) e (judge_extends ys xs)

pub refused_extends : (xs ys : List ℕ) (f : WireFault) → judge xs ≡ Refused f → judge (xs ++ ys) ≡ Refused f
refused_extends xs ys f e = subst (λ r. Extends ys r (judge (xs ++ ys))) e (judge_extends ys xs)

-- ---- spellings ----

no_end : (y : ℕ) (xs ys : List ℕ) → xs ++ y ∷ ys ≡ [] → ⊥
no_end y [] ys e = cc
no_end y (x ∷ xs) ys e = cc

-- no spelling is a proper prefix of another, and no two messages have one
pub one_spelling : (m n : Msg) (ys : List ℕ) → IsMessage m → IsMessage n → frame_of m ++ ys ≡ frame_of n → (m ≡ n) × (ys ≡ [])
one_spelling m n ys h k e = let r : Complete m ys ≡ Complete n [] = sym (judge_frame m ys h) ∙ (ap judge (e ∙ sym (append-nil (frame_of n))) ∙ judge_frame n [] k) in (cc, cc)

waits_by : (m : Msg) (xs : List ℕ) (y : ℕ) (ys : List ℕ) (r s : Reading) → Extends (y ∷ ys) r s → s ≡ Complete m [] → r ≡ Waits
waits_by m xs y ys (Complete n rest) s e f = let g : Complete n (rest ++ y ∷ ys) ≡ Complete m [] = sym e ∙ f in absurd (no_end y rest ys cc)
waits_by m xs y ys Waits s e f = refl
waits_by m xs y ys (Refused g) s e f = let h : Refused g ≡ Complete m [] = sym e ∙ f in absurd cc

-- a proper prefix of a frame waits for more
pub prefix_waits : (m : Msg) (xs : List ℕ) (y : ℕ) (ys : List ℕ) → IsMessage m → xs ++ y ∷ ys ≡ frame_of m → judge xs ≡ Waits
prefix_waits m xs y ys h e = waits_by m xs y ys (judge xs) (judge (xs ++ y ∷ ys)) (judge_extends (y ∷ ys) xs) (ap judge (e ∙ sym (append-nil (frame_of m))) ∙ judge_frame m [] h)

pub read_back : (bs : List ℕ) (m : Msg) (rest : List ℕ) → AreBytes bs → judge bs ≡ Complete m rest → (bs ≡ frame_of m ++ rest) × IsMessage m
read_back bs m rest h e = let s = judge_is bs m rest h e in (s.bytes_are, s.is)

-- ---- what is left is less ----

drop_less : (n : ℕ) (bs : List ℕ) → length (drop n bs) ≤ length bs
drop_less n bs = let d = length-drop n bs in omega arith

of_kind_less : (n k : ℕ) (bs : List ℕ) (m : Msg) (rest : List ℕ) → of_kind n k bs ≡ Complete m rest → length rest ≤ length bs
unfolding of_kind
of_kind_less n k bs m rest r =
    by_cond (is_kind k) _ _ _ r (λ e r. by_cond (nat_lt (length bs) n) _ _ _ r (λ c r. absurd cc) (λ c r.
    let w = was_framed k (drop n bs) (read_msg k (take n bs)) m rest r in let d = drop_less n bs in subst (λ x. length x ≤ length bs) w.rest_is d)) (λ e r. absurd cc)

behind_less : (n : ℕ) (bs : List ℕ) (m : Msg) (rest : List ℕ) → behind n bs ≡ Complete m rest → length rest ≤ length bs
unfolding behind
behind_less n bs m rest r = by_cond (length bs == 0) _ _ _ r (λ c r. absurd cc) (λ c r. of_kind_less n (get_or bs 0 0) bs m rest r)

pub judge_less : (bs : List ℕ) (m : Msg) (rest : List ℕ) → judge bs ≡ Complete m rest → length rest < length bs
unfolding judge
judge_less bs m rest r = by_cond (nat_lt (length bs) 4) _ _ _ r (λ c r. absurd cc) (λ c r.
    let w = was_sized (big_number 4 bs) (drop 4 bs) m rest r in let b = behind_less (big_number 4 bs) (drop 4 bs) m rest w.read in let d = length-drop 4 bs in
    let long : 4 ≤ length bs = grind (arith, nat_tests) in omega arith)

pub message_of : (r : Result (Option (Msg × ℕ)) WireFault) (bs : List ℕ) → AreBytes bs → IfOk r (λ o. IfSome o (λ p. judge bs ≡ Complete p.0 (drop p.1 bs))) → IfOk r (λ o. IfSome o (λ p. IsMessage p.0))
message_of (Ok None) bs h e = tt
message_of (Ok (Some p)) bs h e = (read_back bs p.0 (drop p.1 bs) h e).1
message_of (Err f) bs h e = tt
