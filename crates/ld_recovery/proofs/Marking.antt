-- Items that the trims of a node have settled.
use Rattle.std.proofs.Common.{◌≡◌, ◌∙◌, subst, refl, ap, sym, ◌≤◌, ◌<◌, ℕ, zero, suc, max, List, [], ◌∷◌, ◌++◌, Bool, true, false, nat_le, ◌==◌, if◌then◌else◌, arith}
use Rattle.std.proofs.lemmas.Bool.Decides.{nat_tests}
use Rattle.ld_table.specs.Words.{is_in, with_one}
use Rattle.ld_msg.specs.Sequencer.{Planned, settle}
use Rattle.ld_recovery.specs.Marks.{mark}
use Rattle.ld_recovery.specs.Planning.{settled_one, settle_first, HasSettled, AreMarked}

in_longer : (z y : ℕ) (xs : List ℕ) → is_in z xs ≡ true → is_in z (xs ++ y ∷ []) ≡ true
in_longer z y [] h = absurd cc
in_longer z y (x ∷ xs) h = grind (arith, in_longer z y xs)

in_last : (y : ℕ) (xs : List ℕ) → is_in y (xs ++ y ∷ []) ≡ true
in_last y [] = grind (arith, nat_tests)
in_last y (x ∷ xs) = grind (arith, in_last y xs)

stays_if : (z y : ℕ) (xs : List ℕ) (b : Bool) → is_in z xs ≡ true → is_in z (if b then xs else xs ++ y ∷ []) ≡ true
stays_if z y xs true h = h
stays_if z y xs false h = in_longer z y xs h

stays : (z y : ℕ) (xs : List ℕ) → is_in z xs ≡ true → is_in z (with_one y xs) ≡ true
stays z y xs h = stays_if z y xs (is_in y xs) h

comes_if : (y : ℕ) (xs : List ℕ) (b : Bool) → is_in y xs ≡ b → is_in y (if b then xs else xs ++ y ∷ []) ≡ true
comes_if y xs true h = h
comes_if y xs false h = in_last y xs

pub comes : (y : ℕ) (xs : List ℕ) → is_in y (with_one y xs) ≡ true
comes y xs = comes_if y xs (is_in y xs) refl

-- an item that the node has settled stays as it is
again : (y : ℕ) (e : ℕ × Planned) → is_in y e.1.settled ≡ true → settled_one y e ≡ e
again y e h = ap (λ (b : Bool). (e.0, record { what = e.1.what; settled = if b then e.1.settled else e.1.settled ++ y ∷ [] })) h

-- so do the first ones, as many as it has settled or fewer
pub first_again : (k j y : ℕ) (m : List (ℕ × Planned)) → k ≤ j → HasSettled j y m → m ≡ settle_first k y m
unfolding settle_first HasSettled
first_again k j y [] l h = refl
first_again zero j y (e ∷ m) l h = refl
first_again (suc k) zero y (e ∷ m) l h = absurd (omega arith)
first_again (suc k) (suc j) y (e ∷ m) l h = ap (λ x. x ∷ m) (sym (again y e h.0)) ∙ ap (λ r. settled_one y e ∷ r) (first_again k j y m (omega arith) h.1)

-- what a node has settled stays settled, whichever node settles more
settled_if : (b : Bool) (z y : ℕ) (e : Planned) → is_in z e.settled ≡ true → is_in z (if b then record { what = e.what; settled = with_one y e.settled } else e).settled ≡ true
settled_if true z y e h = stays z y e.settled h
settled_if false z y e h = h

has_still : (p : ℕ → Bool) (y k z : ℕ) (m : List (ℕ × Planned)) → HasSettled k z m → HasSettled k z (settle p y m)
unfolding HasSettled
has_still p y k z [] h = tt
has_still p y zero z (e ∷ m) h = tt
has_still p y (suc k) z (e ∷ m) h = (settled_if (p e.0) z y e.1 h.0, has_still p y k z m h.1)

pub marked_still : (p : ℕ → Bool) (y : ℕ) (marks : List ℕ) (m n : List (ℕ × Planned)) → AreMarked marks m → n ≡ settle p y m → AreMarked marks n
marked_still p y marks m n a e = λ z h. subst (λ (l : List (ℕ × Planned)). HasSettled (mark z marks) z l) (sym e) (has_still p y (mark z marks) z m (a z h))

has_none : (k y : ℕ) (m : List (ℕ × Planned)) → k ≡ 0 → HasSettled k y m
unfolding HasSettled
has_none k y [] e = tt
has_none zero y (d ∷ m) e = tt
has_none (suc k) y (d ∷ m) e = absurd (omega arith)

pub none_marked : (marks : List ℕ) (m : List (ℕ × Planned)) → ((y : ℕ) → mark y marks ≡ 0) → AreMarked marks m
none_marked marks m e = λ y h. has_none (mark y marks) y m (e y)

has_come : (k y : ℕ) (m : List (ℕ × Planned)) → HasSettled k y (settle_first k y m)
unfolding settle_first HasSettled
has_come k y [] = tt
has_come zero y (e ∷ m) = tt
has_come (suc k) y (e ∷ m) = (comes y e.1.settled, has_come k y m)

greater : (P : ℕ → Type 0) (j k n : ℕ) (b : Bool) → nat_le k j ≡ b → n ≡ max j k → P j → P k → P n
greater P j k n true h e old new = subst P (let s : j ≡ n = let l : k ≤ j = grind (arith, nat_tests) in omega (arith, e, l) in s) old
greater P j k n false h e old new = subst P (let s : k ≡ n = let l : j < k = grind (arith, nat_tests) in omega (arith, e, l) in s) new

same : (x n : ℕ) → (x == n) ≡ true → x ≡ n
same x n h = grind (arith, nat_tests)

marked_case : (p : ℕ → Bool) (y k : ℕ) (old new : List ℕ) (m n : List (ℕ × Planned)) (z : ℕ) (b : Bool) → AreMarked old m → n ≡ settle p y m → n ≡ settle_first k y m → 1 ≤ z → (z == y) ≡ b
    → mark z new ≡ (if b then max (mark y old) k else mark z old) → HasSettled (mark z new) z n
marked_case p y k old new m n z true a e g h s w =
    let is : z ≡ y = same z y s in
    let before : HasSettled (mark y old) y n = marked_still p y old m n a e y (omega (arith, h, is)) in
    let now : HasSettled k y n = subst (λ (l : List (ℕ × Planned)). HasSettled k y l) (sym g) (has_come k y m) in
    subst (λ x. HasSettled (mark z new) x n) (sym is) (greater (λ j. HasSettled j y n) (mark y old) k (mark z new) (nat_le k (mark y old)) refl w before now)
marked_case p y k old new m n z false a e g h s w = subst (λ j. HasSettled j z n) (sym w) (marked_still p y old m n a e z h)

-- a node's count is raised to as many items as it has settled now
pub marked_more : (p : ℕ → Bool) (y k : ℕ) (old new : List ℕ) (m n : List (ℕ × Planned)) → AreMarked old m → n ≡ settle p y m → n ≡ settle_first k y m
    → ((z : ℕ) → 1 ≤ z → mark z new ≡ (if z == y then max (mark y old) k else mark z old)) → AreMarked new n
marked_more p y k old new m n a e g w = λ z h. marked_case p y k old new m n z (z == y) a e g h refl (w z h)
