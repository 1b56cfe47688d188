-- The bytes of a change, taken apart.
use Rattle.std.proofs.Common.{◌≡◌, ◌≤◌, ◌<◌, ◌+◌, ◌-◌, ◌^◌, ◌==◌, ℕ, Bool, true, false, List, [], ◌∷◌, ◌++◌, length, get_or, take, drop, refl, ap, sym, ◌∙◌, subst, arith, take-append-drop, length-drop}
use Rattle.std.proofs.lemmas.Nat.{from_be_bytes-to_be_bytes_2, from_be_bytes-to_be_bytes_4, from_be_bytes-to_be_bytes_8}
use Rattle.std.proofs.lemmas.Grind.{common_steps}
use Rattle.std.proofs.lemmas.Bool.Decides.{nat_tests}
use Rattle.std.proofs.lemmas.List.{drop_more, drop_all}
use Rattle.std.specs.Int.{w16, w32, w64, to_be_bytes, from_be_bytes}
use Rattle.ld_ids.specs.Id.{IsLog, IsNode}
use Rattle.ld_ids.specs.Set.{IsSet, set_bits, bits_set, bits_flags}
use Rattle.ld_ids.specs.declared.set.Spec.{Spec}
use Rattle.ld_ids.proofs.Bits.{bits_small, set_again}
use Rattle.ld_msg.specs.declared.msg.Summary.{Summary}
use Rattle.ld_msg.specs.Bounds.{IsLng, IsEpoch, IsSummary}
use Rattle.ld_register.specs.Bounds.{IsSpec}
use Rattle.ld_register.specs.declared.change.Change.TheVariants as changes
use Rattle.ld_register.specs.Changes.{change_bytes, closing_bytes, flag, IsNoBody}

-- two numbers of so many bytes with the same bytes
pub same_half : (m n : ℕ) → m < 2 ^ 16 → n < 2 ^ 16 → to_be_bytes w16 m ≡ to_be_bytes w16 n → m ≡ n
same_half m n h k e = sym (from_be_bytes-to_be_bytes_2 m h) ∙ (ap (from_be_bytes w16) e ∙ from_be_bytes-to_be_bytes_2 n k)

pub same_word : (m n : ℕ) → m < 2 ^ 32 → n < 2 ^ 32 → to_be_bytes w32 m ≡ to_be_bytes w32 n → m ≡ n
same_word m n h k e = sym (from_be_bytes-to_be_bytes_4 m h) ∙ (ap (from_be_bytes w32) e ∙ from_be_bytes-to_be_bytes_4 n k)

pub same_long : (m n : ℕ) → m < 2 ^ 64 → n < 2 ^ 64 → to_be_bytes w64 m ≡ to_be_bytes w64 n → m ≡ n
same_long m n h k e = sym (from_be_bytes-to_be_bytes_8 m h) ∙ (ap (from_be_bytes w64) e ∙ from_be_bytes-to_be_bytes_8 n k)

pub bits_are_set : (n : ℕ) → IsSet (bits_set n)
unfolding bits_flags
bits_are_set n = refl

-- two sets with the same number
pub same_set : (a b : List Bool) → IsSet a → IsSet b → set_bits a ≡ set_bits b → a ≡ b
same_set a b i j e = sym (set_again a i) ∙ (ap bits_set e ∙ set_again b j)

pub same_flags : (a b : List Bool) → IsSet a → IsSet b → to_be_bytes w16 (set_bits a) ≡ to_be_bytes w16 (set_bits b) → a ≡ b
same_flags a b i j e = same_set a b i j (same_half (set_bits a) (set_bits b) (bits_small a i) (bits_small b j) e)

-- a list of so many, taken apart
first_of : (bs : List ℕ) → 1 ≤ length bs → bs ≡ get_or bs 0 0 ∷ drop 1 bs
first_of [] h = absurd (omega arith)
first_of (b ∷ bs) h = refl

parted : (n at : ℕ) (bs : List ℕ) → drop at bs ≡ take n (drop at bs) ++ drop (at + n) bs
parted n at bs = sym (take-append-drop n (drop at bs)) ∙ ap (λ l. take n (drop at bs) ++ l) (grind (arith, common_steps))

step : (bs : List ℕ) (at n : ℕ) (xs : List ℕ) → xs ≡ take n (drop at bs) → {ys : List ℕ} → drop (at + n) bs ≡ ys → drop at bs ≡ xs ++ ys
step bs at n xs e {ys} r = parted n at bs ∙ (ap (λ t. t ++ drop (at + n) bs) (sym e) ∙ ap (λ t. xs ++ t) r)

last : (n at : ℕ) (bs : List ℕ) → length bs ≡ at + n → drop at bs ≡ take n (drop at bs)
last n at bs h = let d = length-drop at bs in grind (arith, common_steps)

-- ---- an activation ----

two_left : (bs : List ℕ) → length bs ≡ 13 → drop 11 bs ≡ get_or bs 11 0 ∷ get_or bs 12 0 ∷ []
two_left bs h = drop_more bs 11 0 (omega arith) ∙ ap (λ t. get_or bs 11 0 ∷ t) (drop_more bs 12 0 (omega arith) ∙ ap (λ t. get_or bs 12 0 ∷ t) (drop_all 13 bs (omega arith)))

pub activation_is : (bs : List ℕ) (e : ℕ) (s : Spec) → length bs ≡ 13 → get_or bs 0 0 ≡ 19 → to_be_bytes w32 s.log ≡ take 4 (drop 1 bs) → to_be_bytes w32 e ≡ take 4 (drop 5 bs) → to_be_bytes w16 (set_bits s.set) ≡ take 2 (drop 9 bs)
    → s.r ≡ get_or bs 11 0 → s.extras ≡ get_or bs 12 0 → bs ≡ change_bytes (changes.Activate e s)
unfolding change_bytes
activation_is bs e s len kind le ee se re xe =
    first_of bs (omega arith) ∙ (ap (λ k. k ∷ drop 1 bs) kind ∙ ap (λ t. 19 ∷ t)
    (step bs 1 4 (to_be_bytes w32 s.log) le (step bs 5 4 (to_be_bytes w32 e) ee (step bs 9 2 (to_be_bytes w16 (set_bits s.set)) se
    (two_left bs len ∙ (ap (λ r. r ∷ get_or bs 12 0 ∷ []) (sym re) ∙ ap (λ x. s.r ∷ x ∷ []) (sym xe)))))))

same_spec : (s t : Spec) → s.log ≡ t.log → s.set ≡ t.set → s.r ≡ t.r → s.extras ≡ t.extras → s ≡ t
same_spec s t a b c d = ap (λ n. record { log = n; set = s.set; r = s.r; extras = s.extras }) a ∙ (ap (λ n. record { log = t.log; set = n; r = s.r; extras = s.extras }) b
    ∙ (ap (λ n. record { log = t.log; set = t.set; r = n; extras = s.extras }) c ∙ ap (λ n. record { log = t.log; set = t.set; r = t.r; extras = n }) d))

-- two activations with the same bytes
pub same_activation : (e f : ℕ) (s t : Spec) → s.log < 2 ^ 32 → t.log < 2 ^ 32 → e < 2 ^ 32 → f < 2 ^ 32 → IsSet s.set → IsSet t.set → change_bytes (changes.Activate e s) ≡ change_bytes (changes.Activate f t) → (e ≡ f) × (s ≡ t)
unfolding change_bytes
same_activation e f s t sl tl eb fb ss ts h = (
  same_word e f eb fb (ap (λ b. take 4 (drop 5 b)) h),
  same_spec s t (same_word s.log t.log sl tl (ap (λ b. take 4 (drop 1 b)) h)) (same_flags s.set t.set ss ts (ap (λ b. take 2 (drop 9 b)) h)) (ap (λ b. get_or b 11 0) h) (ap (λ b. get_or b 12 0) h),
)

pub no_activation : (bs : List ℕ) (e : ℕ) (s : Spec) → length bs ≡ 13 → bs ≡ change_bytes (changes.Activate e s) → s.log < 2 ^ 32 → e < 2 ^ 32 → IsSet s.set → (IsEpoch e → IsSpec s → ⊥) → IsNoBody bs
unfolding change_bytes
no_activation bs e s len are fl fe set none (changes.Activate f t) i is =
    let p = i.0.1 in let q = i.1.log.1 in let same = same_activation e f s t fl (omega arith) fe (omega arith) set i.1.set (sym are ∙ is) in
    none (subst IsEpoch (sym same.0) i.0) (subst IsSpec (sym same.1) i.1)
no_activation bs e s len are fl fe set none (changes.Unfixed m f) i is = omega (arith, len, ap length is)
no_activation bs e s len are fl fe set none (changes.Close m f y) i is = omega (arith, len, ap length is)
no_activation bs e s len are fl fe set none (changes.Lossless m f y) i is = omega (arith, len, ap length is)
no_activation bs e s len are fl fe set none (changes.Draw n g) i is = omega (arith, len, ap length is)
no_activation bs e s len are fl fe set none (changes.Swap m t o n) i is = omega (arith, len, ap length is)

-- ---- an activation that fixes nothing ----

pub unfixed_is : (bs : List ℕ) (l e : ℕ) → length bs ≡ 9 → get_or bs 0 0 ≡ 16 → to_be_bytes w32 l ≡ take 4 (drop 1 bs) → to_be_bytes w32 e ≡ take 4 (drop 5 bs) → bs ≡ change_bytes (changes.Unfixed l e)
unfolding change_bytes
unfixed_is bs l e len kind le ee =
    first_of bs (omega arith) ∙ (ap (λ k. k ∷ drop 1 bs) kind ∙ ap (λ t. 16 ∷ t) (parted 4 1 bs ∙ (ap (λ t. t ++ drop 5 bs) (sym le) ∙ ap (λ t. to_be_bytes w32 l ++ t) (last 4 5 bs len ∙ sym ee))))

pub no_unfixed : (bs : List ℕ) (l e : ℕ) → length bs ≡ 9 → l < 2 ^ 32 → e < 2 ^ 32 → to_be_bytes w32 l ≡ take 4 (drop 1 bs) → to_be_bytes w32 e ≡ take 4 (drop 5 bs) → (IsLog l → IsEpoch e → ⊥) → IsNoBody bs
unfolding change_bytes
no_unfixed bs l e len fl fe le ee none (changes.Unfixed m f) i is =
    let a : l ≡ m = (let j = i.0.1 in same_word l m fl (omega arith) (le ∙ ap (λ b. take 4 (drop 1 b)) is)) in
    let b : e ≡ f = (let j = i.1.1 in same_word e f fe (omega arith) (ee ∙ ap (λ b. take 4 (drop 5 b)) is)) in
    none (subst IsLog (sym a) i.0) (subst IsEpoch (sym b) i.1)
no_unfixed bs l e len fl fe le ee none (changes.Activate f s) i is = omega (arith, len, ap length is)
no_unfixed bs l e len fl fe le ee none (changes.Close m f y) i is = omega (arith, len, ap length is)
no_unfixed bs l e len fl fe le ee none (changes.Lossless m f y) i is = omega (arith, len, ap length is)
no_unfixed bs l e len fl fe le ee none (changes.Draw n g) i is = omega (arith, len, ap length is)
no_unfixed bs l e len fl fe le ee none (changes.Swap m t o n) i is = omega (arith, len, ap length is)

-- ---- a close ----

-- behind the first byte of a close
pub closing_is : (bs : List ℕ) (l e : ℕ) (y : Summary) → 29 ≤ length bs → to_be_bytes w32 l ≡ take 4 (drop 1 bs) → to_be_bytes w32 e ≡ take 4 (drop 5 bs)
    → to_be_bytes w32 y.ballot ≡ take 4 (drop 9 bs) → to_be_bytes w32 y.lng ≡ take 4 (drop 13 bs) → to_be_bytes w64 y.trim ≡ take 8 (drop 17 bs) → to_be_bytes w32 y.end ≡ take 4 (drop 25 bs)
    → bs ≡ get_or bs 0 0 ∷ (closing_bytes l e y ++ drop 29 bs)
closing_is bs l e y len le ee be ge te de =
    first_of bs (omega arith) ∙ ap (λ t. get_or bs 0 0 ∷ t)
    (step bs 1 4 (to_be_bytes w32 l) le (step bs 5 4 (to_be_bytes w32 e) ee (step bs 9 4 (to_be_bytes w32 y.ballot) be (step bs 13 4 (to_be_bytes w32 y.lng) ge (step bs 17 8 (to_be_bytes w64 y.trim) te (step bs 25 4 (to_be_bytes w32 y.end) de refl))))))

pub no_closing : (bs : List ℕ) (l e : ℕ) (y : Summary) → l < 2 ^ 32 → e < 2 ^ 32 → y.ballot < 2 ^ 32 → y.lng < 2 ^ 32 → y.end < 2 ^ 32 → to_be_bytes w32 l ≡ take 4 (drop 1 bs) → to_be_bytes w32 e ≡ take 4 (drop 5 bs)
    → to_be_bytes w32 y.ballot ≡ take 4 (drop 9 bs) → to_be_bytes w32 y.lng ≡ take 4 (drop 13 bs) → to_be_bytes w32 y.end ≡ take 4 (drop 25 bs) → (IsLog l → IsEpoch e → e < y.ballot → y.ballot ≤ 2 ^ 32 - 2 → IsLng y.lng → 1 ≤ y.end → ⊥)
    → (m f : ℕ) (z : Summary) → IsLog m → IsEpoch f → IsSummary f z → bs ≡ get_or bs 0 0 ∷ (closing_bytes m f z ++ drop 29 bs) → ⊥
no_closing bs l e y fl fe fb fg fd le ee be ge de none m f z i j k is =
    let a : l ≡ m = (let q = i.1 in same_word l m fl (omega arith) (le ∙ ap (λ b. take 4 (drop 1 b)) is)) in
    let b : e ≡ f = (let q = j.1 in same_word e f fe (omega arith) (ee ∙ ap (λ b. take 4 (drop 5 b)) is)) in
    let c : y.ballot ≡ z.ballot = (let q = k.ballot_most in same_word y.ballot z.ballot fb (omega arith) (be ∙ ap (λ b. take 4 (drop 9 b)) is)) in
    let g : y.lng ≡ z.lng = (let q = k.lng in same_word y.lng z.lng fg (omega arith) (ge ∙ ap (λ b. take 4 (drop 13 b)) is)) in
    let d : y.end ≡ z.end = (let q = k.end_most in same_word y.end z.end fd (omega arith) (de ∙ ap (λ b. take 4 (drop 25 b)) is)) in
    none (subst IsLog (sym a) i) (subst IsEpoch (sym b) j) (let q = k.ballot in omega arith) (let q = k.ballot_most in omega arith) (let q = k.lng in omega arith) (let q = k.end in omega arith)

-- no log, epoch and summary stand behind the first byte
abbrev IsNoClosing : List ℕ → Type 0
IsNoClosing bs = (l e : ℕ) (y : Summary) → IsLog l → IsEpoch e → IsSummary e y → bs ≡ get_or bs 0 0 ∷ (closing_bytes l e y ++ drop 29 bs) → ⊥

last_left : (bs : List ℕ) → length bs ≡ 30 → drop 29 bs ≡ get_or bs 29 0 ∷ []
last_left bs h = drop_more bs 29 0 (omega arith) ∙ ap (λ t. get_or bs 29 0 ∷ t) (drop_all 30 bs (omega arith))

pub close_is : (bs : List ℕ) (l e : ℕ) (y : Summary) → length bs ≡ 30 → get_or bs 0 0 ≡ 20 → flag y.loss ≡ get_or bs 29 0 → bs ≡ get_or bs 0 0 ∷ (closing_bytes l e y ++ drop 29 bs) → bs ≡ change_bytes (changes.Close l e y)
unfolding change_bytes
close_is bs l e y len kind fe is = is ∙ (ap (λ k. k ∷ (closing_bytes l e y ++ drop 29 bs)) kind ∙ ap (λ t. 20 ∷ (closing_bytes l e y ++ t)) (last_left bs len ∙ ap (λ k. k ∷ []) (sym fe)))

-- the byte of a flag
pub flag_of : (n : ℕ) (b : Bool) → b ≡ (n == 1) → n ≤ 1 → flag b ≡ n
flag_of n b h small = ap flag h ∙ grind (arith, nat_tests)

flag_small : (b : Bool) → flag b ≤ 1
flag_small true = omega arith
flag_small false = omega arith

pub same_flag : (a b : Bool) → flag a ≡ flag b → a ≡ b
same_flag true true h = refl
same_flag false false h = refl
same_flag true false h = absurd (omega (arith, h))
same_flag false true h = absurd (omega (arith, h))

pub no_close : (bs : List ℕ) → length bs ≡ 30 → IsNoClosing bs → IsNoBody bs
unfolding change_bytes
no_close bs len none (changes.Activate f s) i is = omega (arith, len, ap length is)
no_close bs len none (changes.Unfixed m f) i is = omega (arith, len, ap length is)
no_close bs len none (changes.Close m f z) i is = none m f z i.0 i.1 i.2 (is ∙ ap (λ b. get_or b 0 0 ∷ (closing_bytes m f z ++ drop 29 b)) (sym is))
no_close bs len none (changes.Lossless m f z) i is = omega (arith, len, ap length is)
no_close bs len none (changes.Draw n g) i is = omega (arith, len, ap length is)
no_close bs len none (changes.Swap m t o n) i is = omega (arith, len, ap length is)

-- the last byte is no flag
pub no_flag : (bs : List ℕ) → length bs ≡ 30 → 1 < get_or bs 29 0 → IsNoBody bs
unfolding change_bytes
no_flag bs len big (changes.Activate f s) i is = omega (arith, len, ap length is)
no_flag bs len big (changes.Unfixed m f) i is = omega (arith, len, ap length is)
no_flag bs len big (changes.Close m f z) i is = (let h : get_or bs 29 0 ≡ flag z.loss = ap (λ b. get_or b 29 0) is in let k = flag_small z.loss in omega arith)
no_flag bs len big (changes.Lossless m f z) i is = omega (arith, len, ap length is)
no_flag bs len big (changes.Draw n g) i is = omega (arith, len, ap length is)
no_flag bs len big (changes.Swap m t o n) i is = omega (arith, len, ap length is)

-- ---- a close that says nothing of a loss ----

pub lossless_is : (bs : List ℕ) (l e : ℕ) (y : Summary) → length bs ≡ 29 → get_or bs 0 0 ≡ 17 → bs ≡ get_or bs 0 0 ∷ (closing_bytes l e y ++ drop 29 bs) → bs ≡ change_bytes (changes.Lossless l e y)
unfolding change_bytes
lossless_is bs l e y len kind is = is ∙ (ap (λ k. k ∷ (closing_bytes l e y ++ drop 29 bs)) kind ∙ ap (λ t. 17 ∷ (closing_bytes l e y ++ t)) (drop_all 29 bs (omega arith)))

pub no_lossless : (bs : List ℕ) → length bs ≡ 29 → IsNoClosing bs → IsNoBody bs
unfolding change_bytes
no_lossless bs len none (changes.Activate f s) i is = omega (arith, len, ap length is)
no_lossless bs len none (changes.Unfixed m f) i is = omega (arith, len, ap length is)
no_lossless bs len none (changes.Close m f z) i is = omega (arith, len, ap length is)
no_lossless bs len none (changes.Lossless m f z) i is = none m f z i.0 i.1 i.2 (is ∙ ap (λ b. get_or b 0 0 ∷ (closing_bytes m f z ++ drop 29 b)) (sym is))
no_lossless bs len none (changes.Draw n g) i is = omega (arith, len, ap length is)
no_lossless bs len none (changes.Swap m t o n) i is = omega (arith, len, ap length is)

-- ---- a draw ----

second_of : (bs : List ℕ) → 2 ≤ length bs → drop 1 bs ≡ get_or bs 1 0 ∷ drop 2 bs
second_of [] h = absurd (omega arith)
second_of (b ∷ []) h = absurd (omega arith)
second_of (b ∷ c ∷ bs) h = refl

pub draw_is : (bs : List ℕ) (n g : ℕ) → length bs ≡ 6 → get_or bs 0 0 ≡ 18 → n ≡ get_or bs 1 0 → to_be_bytes w32 g ≡ take 4 (drop 2 bs) → bs ≡ change_bytes (changes.Draw n g)
unfolding change_bytes
draw_is bs n g len kind ne ge =
    first_of bs (omega arith) ∙ (ap (λ k. k ∷ drop 1 bs) kind ∙ ap (λ t. 18 ∷ t) (second_of bs (omega arith) ∙ (ap (λ k. k ∷ drop 2 bs) (sym ne) ∙ ap (λ t. n ∷ t) (last 4 2 bs len ∙ sym ge))))

pub no_draw : (bs : List ℕ) → length bs ≡ 6 → (IsNode (get_or bs 1 0) → ⊥) → IsNoBody bs
unfolding change_bytes
no_draw bs len none (changes.Activate f s) i is = omega (arith, len, ap length is)
no_draw bs len none (changes.Unfixed m f) i is = omega (arith, len, ap length is)
no_draw bs len none (changes.Close m f y) i is = omega (arith, len, ap length is)
no_draw bs len none (changes.Lossless m f y) i is = omega (arith, len, ap length is)
no_draw bs len none (changes.Draw n g) i is = none (subst IsNode (sym (ap (λ b. get_or b 1 0) is)) i.0)
no_draw bs len none (changes.Swap m t o n) i is = omega (arith, len, ap length is)

-- ---- a swap ----

two_last : (bs : List ℕ) → length bs ≡ 11 → drop 9 bs ≡ get_or bs 9 0 ∷ get_or bs 10 0 ∷ []
two_last bs h = drop_more bs 9 0 (omega arith) ∙ ap (λ t. get_or bs 9 0 ∷ t) (drop_more bs 10 0 (omega arith) ∙ ap (λ t. get_or bs 10 0 ∷ t) (drop_all 11 bs (omega arith)))

pub swap_is : (bs : List ℕ) (l t o n : ℕ) → length bs ≡ 11 → get_or bs 0 0 ≡ 21 → to_be_bytes w32 l ≡ take 4 (drop 1 bs) → to_be_bytes w32 t ≡ take 4 (drop 5 bs) → o ≡ get_or bs 9 0 → n ≡ get_or bs 10 0 → bs ≡ change_bytes (changes.Swap l t o n)
unfolding change_bytes
swap_is bs l t o n len kind le te oe ne =
    first_of bs (omega arith) ∙ (ap (λ k. k ∷ drop 1 bs) kind ∙ ap (λ r. 21 ∷ r)
    (step bs 1 4 (to_be_bytes w32 l) le (step bs 5 4 (to_be_bytes w32 t) te (two_last bs len ∙ (ap (λ r. r ∷ get_or bs 10 0 ∷ []) (sym oe) ∙ ap (λ r. o ∷ r ∷ []) (sym ne))))))

pub no_swap : (bs : List ℕ) (l : ℕ) → length bs ≡ 11 → l < 2 ^ 32 → to_be_bytes w32 l ≡ take 4 (drop 1 bs) → (IsLog l → IsNode (get_or bs 9 0) → IsNode (get_or bs 10 0) → ⊥) → IsNoBody bs
unfolding change_bytes
no_swap bs l len fl le none (changes.Activate f s) i is = omega (arith, len, ap length is)
no_swap bs l len fl le none (changes.Unfixed m f) i is = omega (arith, len, ap length is)
no_swap bs l len fl le none (changes.Close m f y) i is = omega (arith, len, ap length is)
no_swap bs l len fl le none (changes.Lossless m f y) i is = omega (arith, len, ap length is)
no_swap bs l len fl le none (changes.Draw n g) i is = omega (arith, len, ap length is)
no_swap bs l len fl le none (changes.Swap m t o n) i is =
    let a : l ≡ m = (let j = i.0.1 in same_word l m fl (omega arith) (le ∙ ap (λ b. take 4 (drop 1 b)) is)) in
    none (subst IsLog (sym a) i.0) (subst IsNode (sym (ap (λ b. get_or b 9 0) is)) i.2) (subst IsNode (sym (ap (λ b. get_or b 10 0) is)) i.3)

-- a body of another length or another first byte
pub no_change : (bs : List ℕ) → (length bs ≡ 13 → get_or bs 0 0 ≡ 19 → ⊥) → (length bs ≡ 9 → get_or bs 0 0 ≡ 16 → ⊥) → (length bs ≡ 30 → get_or bs 0 0 ≡ 20 → ⊥) → (length bs ≡ 29 → get_or bs 0 0 ≡ 17 → ⊥) → (length bs ≡ 6 → get_or bs 0 0 ≡ 18 → ⊥) → (length bs ≡ 11 → get_or bs 0 0 ≡ 21 → ⊥) → IsNoBody bs
unfolding change_bytes
no_change bs a u b o c w (changes.Activate f s) i is = a (ap length is) (ap (λ b. get_or b 0 0) is)
no_change bs a u b o c w (changes.Unfixed m f) i is = u (ap length is) (ap (λ b. get_or b 0 0) is)
no_change bs a u b o c w (changes.Close m f y) i is = b (ap length is) (ap (λ b. get_or b 0 0) is)
no_change bs a u b o c w (changes.Lossless m f y) i is = o (ap length is) (ap (λ b. get_or b 0 0) is)
no_change bs a u b o c w (changes.Draw n g) i is = c (ap length is) (ap (λ b. get_or b 0 0) is)
no_change bs a u b o c w (changes.Swap m t p n) i is = w (ap length is) (ap (λ b. get_or b 0 0) is)
