-- What reads of a record's parts say of the disk's bytes.
use Rattle.std.proofs.Common.{◌≡◌, ◌≢◌, IfOk, Result, Ok, Err, ℕ, ◌+◌, ◌-◌, ◌≤◌, ◌<◌, ◌^◌, min, List, ◌∷◌, ◌++◌, length, get_or, take, drop, sym, ◌∙◌, ap, arith}
use Rattle.std.specs.Int.{w32, to_be_bytes, from_be_bytes}
use Rattle.std.proofs.lemmas.Nat.{from_be_bytes-to_be_bytes_4}
use Rattle.std.proofs.lemmas.List.{take-take, take_all, drop-drop, get_or-take}
use Rattle.std.proofs.Math.Seq.{take-add, drop-cons}
use Rattle.ld_journal.specs.Format.{framed}
use Rattle.ld_journal.proofs.Records.{length-framed}
use Rattle.ld_segment.specs.Stays.{StandsAt}
use Rattle.ld_segment.specs.Later.{IsRecordAt}

-- so many bytes that were read all stand there
pub all_read_there : (bytes buf : List ℕ) (at count n : ℕ) → length buf ≡ n → n ≤ count → (count ≡ min (length bytes - at) n) × (take count buf ≡ take count (drop at bytes)) → StandsAt at buf bytes
all_read_there bytes buf at count n long enough (count_is, read) =
    let all : count ≡ length buf = omega (arith, count_is, long, enough) in
    ap (λ (k : ℕ). take k (drop at bytes)) (sym all) ∙ sym read ∙ take_all count buf (omega (arith, all))

pub size_there : (bytes buf : List ℕ) (at n : ℕ) → length buf ≡ 5 → StandsAt at buf bytes → get_or buf 0 0 ≡ 1 → drop 1 buf ≡ to_be_bytes w32 n → StandsAt at (1 ∷ to_be_bytes w32 n) bytes
size_there bytes buf at n long stands gate size =
    let buf_is : buf ≡ 1 ∷ to_be_bytes w32 n = drop-cons buf 0 0 (omega (arith, long)) ∙ (λ i. gate i ∷ size i) in
    ap (λ (k : ℕ). take k (drop at bytes)) (sym long) ∙ stands ∙ buf_is

-- no record stands where the gate isn't open, or the disk ends before its length does
pub none_short : (bytes : List ℕ) (at count : ℕ) → count ≡ min (length bytes - at) 5 → count < 5 → (body : List ℕ) → IsRecordAt at body bytes → ⊥
none_short bytes at count count_is short body is = omega (arith, count_is, short, is.behind)

pub none_shut : (bytes buf : List ℕ) (at : ℕ) → length buf ≡ 5 → StandsAt at buf bytes → get_or buf 0 0 ≢ 1 → (body : List ℕ) → IsRecordAt at body bytes → ⊥
none_shut bytes buf at long stands shut body is =
    let first : get_or buf 0 0 ≡ get_or (drop at bytes) 0 0 = ap (λ l. get_or l 0 0) (sym stands) ∙ get_or-take (length buf) (drop at bytes) 0 0 (omega (arith, long)) in
    let there : get_or (drop at bytes) 0 0 ≡ 1 = sym (get_or-take (length (framed body)) (drop at bytes) 0 0 (omega (arith, length-framed body))) ∙ ap (λ l. get_or l 0 0) is.there in
    shut (first ∙ there)

-- the length behind the gate is the body's
pub size_is : (bytes : List ℕ) (at n : ℕ) (body : List ℕ) → n < 2 ^ 32 → StandsAt at (1 ∷ to_be_bytes w32 n) bytes → IsRecordAt at body bytes → length body ≡ n
size_is bytes at n body fits stands is =
    let long : length (framed body) ≡ 5 + length body = length-framed body in
    let front : 1 ∷ to_be_bytes w32 (length body) ≡ 1 ∷ to_be_bytes w32 n = sym (ap (λ (l : List ℕ). take 5 l) is.there) ∙ take-take 5 (length (framed body)) (drop at bytes) (omega (arith, long)) ∙ stands in
    sym (from_be_bytes-to_be_bytes_4 (length body) is.fits) ∙ ap (λ (l : List ℕ). from_be_bytes w32 (drop 1 l)) front ∙ from_be_bytes-to_be_bytes_4 n fits

pub record_there : (bytes : List ℕ) (at n : ℕ) (body : List ℕ) → n < 2 ^ 32 → StandsAt at (1 ∷ to_be_bytes w32 n) bytes → StandsAt (at + 5) body bytes → length body ≡ n → at + 5 + n < length bytes → IsRecordAt at body bytes
record_there bytes at n body fits head stands long behind = record {
  there =
      let whole : length (framed body) ≡ 5 + length body = length-framed body in
      ap (λ (k : ℕ). take k (drop at bytes)) whole
      ∙ take-add 5 (length body) (drop at bytes)
      ∙ ap (λ (l : List ℕ). l ++ take (length body) (drop 5 (drop at bytes))) (head ∙ ap (λ (k : ℕ). 1 ∷ to_be_bytes w32 k) (sym long))
      ∙ ap (λ (l : List ℕ). (1 ∷ to_be_bytes w32 (length body)) ++ take (length body) l) (drop-drop 5 at bytes)
      ∙ ap (λ (l : List ℕ). (1 ∷ to_be_bytes w32 (length body)) ++ l) stands;
  behind = omega (arith, behind, long);
  fits = omega (arith, fits, long);
}

-- nor does one where less than so many bytes stand behind it
pub none_within : (bytes : List ℕ) (at n : ℕ) → n < 2 ^ 32 → StandsAt at (1 ∷ to_be_bytes w32 n) bytes → length bytes ≤ at + 5 + n → (body : List ℕ) → IsRecordAt at body bytes → ⊥
none_within bytes at n fits head short body is = omega (arith, short, is.behind, size_is bytes at n body fits head is)

-- what holds of a value by three clauses
pub all_ok : {T E : Type 0} (r : Result T E) (P Q R S : T → Type 0) → IfOk r P → IfOk r Q → IfOk r R → ((v : T) → P v → Q v → R v → S v) → IfOk r S
all_ok (Ok v) P Q R S p q r each = each v p q r
all_ok (Err e) P Q R S p q r each = tt
