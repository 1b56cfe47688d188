-- Bytes that are written, one piece after the other.
use Rattle.std.proofs.Common.{◌≡◌, ℕ, ◌+◌, ◌-◌, List, ◌++◌, take, drop, length, sym, ap, ◌∙◌, take-add, append_assoc}
use Rattle.std.proofs.lemmas.List.{take_rest, take-append-drop}
use Rattle.ld_mend.specs.Output.{WritesPart}

pub one_more : (a b c bytes : List ℕ) (done n : ℕ) → b ≡ a ++ take done bytes → c ≡ b ++ take n (take (length bytes - done) (drop done bytes)) → c ≡ a ++ take (done + n) bytes
one_more a b c bytes done n p q =
    let piece : c ≡ b ++ take n (drop done bytes) = rw take_rest at q in
    rw take-add (piece ∙ ap (λ l. l ++ take n (drop done bytes)) p ∙ append_assoc a (take done bytes) (take n (drop done bytes)))

pub some_of : (a b c bytes : List ℕ) (done : ℕ) → b ≡ a ++ take done bytes → c ≡ b → WritesPart a c bytes
some_of a b c bytes done p k = record { part = take done bytes; missing = drop done bytes; written = k ∙ p; whole = sym (take-append-drop done bytes) }
