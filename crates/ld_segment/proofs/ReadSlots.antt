-- What a read of a slot's bytes says of the disk's.
use Rattle.std.proofs.Common.{◌≡◌, ℕ, ◌+◌, ◌-◌, ◌≤◌, ◌==◌, min, List, [], ◌∷◌, ◌++◌, length, get_or, take, drop, Option, None, Some, sym, ◌∙◌, ap, arith, length-append}
use Rattle.std.specs.Prelude.{IfSome}
use Rattle.std.proofs.lemmas.List.{take-take, take_all, drop-drop}
use Rattle.std.proofs.Math.Seq.{take-add}
use Rattle.byteorder.specs.Endian.{big_bytes}
use Rattle.byteorder.specs.Numbers.{length-bytes_high_first}
use Rattle.ld_segment.specs.declared.slots.Slot.{Slot}
use Rattle.ld_segment.specs.Stays.{StandsAt}
use Rattle.ld_segment.specs.Slots.{says_bytes, IsSlotAt}
use Rattle.ld_segment.proofs.Ranges.{same_before, byte_at}

pub if_some : (o : Option (List ℕ)) (P Q : List ℕ → Type 0) → IfSome o P → ((bytes : List ℕ) → P bytes → Q bytes) → IfSome o Q
if_some None P Q is f = tt
if_some (Some bytes) P Q is f = f bytes is

pub slot_there : (bytes buf : List ℕ) (at count : ℕ) (s : Slot) → length buf ≡ 17 → 17 ≤ count → (count ≡ min (length bytes - at) 17) × (take count buf ≡ take count (drop at bytes))
    → s.open ≡ (get_or buf 0 0 == 1) → take 8 (drop 1 buf) ≡ big_bytes 8 s.number → take 8 (drop 9 buf) ≡ big_bytes 8 s.place → IsSlotAt at s bytes
slot_there bytes buf at count s long enough (count_is, read) is_open number place =
    let l = drop at bytes in
    let all : count ≡ 17 = omega (arith, count_is, long, enough) in
    let buf_is : buf ≡ take 17 l = sym (take_all count buf (omega (arith, all, long))) ∙ read ∙ ap (λ (k : ℕ). take k l) all in
    let same : take 17 buf ≡ take 17 l = ap (λ (b : List ℕ). take 17 b) buf_is ∙ take-take 17 17 l (omega arith) in
    let gate : StandsAt at (get_or buf 0 0 ∷ []) bytes = sym (same_before 17 0 1 l buf same (omega arith)) ∙ byte_at 0 buf (omega (arith, long)) in
    let first : take 8 (drop 1 l) ≡ big_bytes 8 s.number = sym (same_before 17 1 8 l buf same (omega arith)) ∙ number in
    let second : take 8 (drop 9 l) ≡ big_bytes 8 s.place = sym (same_before 17 9 8 l buf same (omega arith)) ∙ place in
    let size : length (says_bytes s.number s.place) ≡ 16 = omega (arith, length-append (big_bytes 8 s.number) (big_bytes 8 s.place), length-bytes_high_first 8 s.number, length-bytes_high_first 8 s.place) in
    let both : take 16 (drop 1 l) ≡ says_bytes s.number s.place =
    take-add 8 8 (drop 1 l) ∙ ap (λ (b : List ℕ). b ++ take 8 (drop 8 (drop 1 l))) first ∙ ap (λ (b : List ℕ). big_bytes 8 s.number ++ take 8 b) (drop-drop 8 1 l) ∙ ap (λ (b : List ℕ). big_bytes 8 s.number ++ b) second in
    let says : StandsAt (at + 1) (says_bytes s.number s.place) bytes =
    ap (λ (k : ℕ). take k (drop (at + 1) bytes)) size ∙ ap (λ (b : List ℕ). take 16 b) (sym (drop-drop 1 at bytes)) ∙ both in
    record { gate = get_or buf 0 0; is = record { gate_there = gate; says_there = says }; open_is = is_open }
