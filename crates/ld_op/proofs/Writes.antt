-- The bytes of one part more.
use Rattle.std.proofs.Common.{◌≡◌, ◌<◌, ◌+◌, ℕ, List, [], ◌∷◌, ◌++◌, refl, ap, sym, ◌∙◌, append_assoc, take, get_or, length}
use Rattle.std.proofs.lemmas.List.{take_more}
use Rattle.byteorder.specs.Endian.{big_bytes}
use Rattle.ld_op.specs.Bytes.{epochs_bytes}

epochs_bytes-append : (ds : List (ℕ × ℕ)) (d : ℕ × ℕ) → epochs_bytes (ds ++ d ∷ []) ≡ epochs_bytes ds ++ (big_bytes 4 d.0 ++ big_bytes 4 d.1)
epochs_bytes-append [] d = refl
epochs_bytes-append (f ∷ ds) d = ap (λ r. big_bytes 4 f.0 ++ (big_bytes 4 f.1 ++ r)) (epochs_bytes-append ds d)

pub epochs_bytes-more : (ds : List (ℕ × ℕ)) (i : ℕ) (d : ℕ × ℕ) (old : List ℕ) → i < length ds → d ≡ get_or ds i d → ((old ++ epochs_bytes (take i ds)) ++ big_bytes 4 d.0) ++ big_bytes 4 d.1 ≡ old ++ epochs_bytes (take (i + 1) ds)
epochs_bytes-more ds i d old h g = append_assoc (old ++ epochs_bytes (take i ds)) (big_bytes 4 d.0) (big_bytes 4 d.1) ∙ (append_assoc old (epochs_bytes (take i ds)) (big_bytes 4 d.0 ++ big_bytes 4 d.1)
    ∙ ap (λ r. old ++ r) (sym (epochs_bytes-append (take i ds) d) ∙ ap epochs_bytes (ap (λ x. take i ds ++ x ∷ []) g ∙ sym (take_more ds i d h))))

pub three : (old a b c p r : List ℕ) → p ≡ (old ++ a) ++ b → r ≡ p ++ c → r ≡ old ++ (a ++ (b ++ c))
three old a b c p r h k = k ∙ (ap (λ x. x ++ c) h ∙ (append_assoc (old ++ a) b c ∙ append_assoc old a (b ++ c)))

pub four : (old a b c d p q r : List ℕ) → p ≡ (old ++ a) ++ b → q ≡ p ++ c → r ≡ q ++ d → r ≡ old ++ (a ++ (b ++ (c ++ d)))
four old a b c d p q r h k l = l ∙ (ap (λ x. x ++ d) k ∙ (append_assoc p c d ∙ three old a b (c ++ d) p (p ++ (c ++ d)) h refl))
