-- The value of a record in a list of values.
use Rattle.std.proofs.Common.{◌≡◌, ◌<◌, ◌+◌, ℕ, List, [], ◌∷◌, ◌++◌, length, get_or, take, map, ap, sym, ◌∙◌}
use Rattle.std.proofs.lemmas.List.{take_more, length-map, get_or-map}
use Rattle.ld_records.specs.Growth.{IsAt}

pub mapped_at : {X : Type 0} (f : X → List ℕ) (xs : List X) (n : ℕ) (x : X) (v : List ℕ) → n < length xs → x ≡ get_or xs n x → v ≡ f x → IsAt n v (map f xs)
mapped_at f xs n x v less is value =
    take_more (map f xs) n (f x) (rw (length-map xs f) less) ∙ ap (λ w. take n (map f xs) ++ w ∷ []) (get_or-map f xs n x (f x) less ∙ ap f (sym is) ∙ sym value)
