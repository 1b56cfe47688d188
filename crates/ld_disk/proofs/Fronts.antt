-- The bytes in front of all writes stay.
use Rattle.std.proofs.Common.{◌≡◌, refl, ℕ, ◌-◌, ◌≤◌, min, List, [], ◌∷◌, ◌++◌, length, take, drop, take-append-drop, sym, ◌∙◌, ap, arith, Option, None, Some}
use Rattle.std.proofs.lemmas.List.{take-take, take_all, length-drop}
use Rattle.ld_disk.specs.Images.{overwrite, Torn}
use Rattle.ld_disk.specs.Record.{made, painted, read_after, piece_of, pieces, nearest}
use Rattle.ld_disk.specs.declared.disk.Picture.{Picture}
use Rattle.ld_disk.specs.declared.entry.Piece.{Piece}
use Rattle.ld_disk.proofs.Overwrites.{torn_whole}
use Rattle.ld_disk.proofs.History.{made_is_torn}

pub torn_front_stays : (at n k : ℕ) (old new : List ℕ) → Torn at n old new → k ≤ at → k ≤ length old → take k new ≡ take k old
torn_front_stays at n k old new torn behind within =
    let least : k ≤ min at (length old) = omega arith in
    sym (take-take k (min at (length old)) new least) ∙ ap (λ (l : List ℕ). take k l) torn.before ∙ take-take k (min at (length old)) old least

pub overwrite_front : (at k : ℕ) (bytes old : List ℕ) → k ≤ at → k ≤ length old → take k (overwrite at bytes old) ≡ take k old
overwrite_front at k bytes old behind within = torn_front_stays at (length bytes) k old (overwrite at bytes old) (torn_whole at bytes old) behind within

pub painted_front : (picture : Picture) (arena : List ℕ) (k : ℕ) (bytes : List ℕ) (ps : List Piece) → k ≤ length bytes → k ≤ nearest k ps
    → (take k (painted picture bytes (pieces arena ps)) ≡ take k bytes) × (k ≤ length (painted picture bytes (pieces arena ps)))
painted_front picture arena k bytes [] within behind = (refl, within)
painted_front picture arena k bytes (p ∷ ps) within behind =
    let w = piece_of arena p in
    let torn = made_is_torn picture w bytes in
    let later = painted_front picture arena k (made picture w bytes) ps (omega (arith, torn.no_shorter, within)) (omega (arith, behind)) in
    (later.0 ∙ torn_front_stays p.at (length w.1) k bytes (made picture w bytes) torn (omega (arith, behind)) within, later.1)

-- after a write at this offset, in which the disk crashed or didn't
pub written_front : (crash : Option Picture) (arena stable bytes once more after : List ℕ) (at k n : ℕ) (ps : List Piece) → take n bytes ≡ take n stable → n ≤ length bytes → n ≤ length stable
    → k ≡ min n at → k ≤ nearest k ps → once ≡ overwrite at more bytes → after ≡ read_after crash stable (pieces arena ps) once
    → (take k after ≡ take k stable) × (k ≤ length after)
written_front None arena stable bytes once more after at k n ps same here safe k_is behind once_is after_is =
    let torn = torn_whole at more bytes in
    let is = after_is ∙ once_is in
    let front : take k bytes ≡ take k stable = sym (take-take k n bytes (omega (arith, k_is))) ∙ ap (λ (l : List ℕ). take k l) same ∙ take-take k n stable (omega (arith, k_is)) in
    (ap (λ (l : List ℕ). take k l) is ∙ overwrite_front at k more bytes (omega (arith, k_is)) (omega (arith, k_is, here)) ∙ front, omega (arith, k_is, here, torn.no_shorter, ap length is))
written_front (Some picture) arena stable bytes once more after at k n ps same here safe k_is behind once_is after_is =
    let painted_is = painted_front picture arena k stable ps (omega (arith, k_is, safe)) behind in
    (ap (λ (l : List ℕ). take k l) after_is ∙ painted_is.0, omega (arith, painted_is.1, ap length after_is))

pub behind_push : (k n : ℕ) (ps : List Piece) (p : Piece) → k ≤ n → k ≤ p.at → n ≤ nearest n ps → k ≤ nearest k (ps ++ p ∷ [])
behind_push k n [] p le here behind = omega (arith, here)
behind_push k n (q ∷ ps) p le here behind = omega (arith, le, behind, behind_push k n ps p le here (omega (arith, behind)))

-- what is safe after a sync: the untouched front, and the rest of what is read
pub synced_is : (stable bytes shown kept after : List ℕ) (n : ℕ) → take n bytes ≡ take n stable → kept ≡ take n stable → shown ≡ bytes → after ≡ kept ++ take (length shown - n) (drop n shown) → after ≡ bytes
synced_is stable bytes shown kept after n same kept_is shown_is after_is =
    let all : take (length bytes - n) (drop n bytes) ≡ drop n bytes = take_all (length bytes - n) (drop n bytes) (omega (arith, length-drop n bytes)) in
    after_is ∙ (λ i. (kept_is ∙ sym same) i ++ take (length (shown_is i) - n) (drop n (shown_is i))) ∙ ap (λ (l : List ℕ). take n bytes ++ l) all ∙ take-append-drop n bytes
