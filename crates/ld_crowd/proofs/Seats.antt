-- One peer in memory changes.
use Rattle.std.proofs.Common.{◌≡◌, ◌≢◌, ◌<◌, ◌≤◌, ℕ, zero, suc, List, [], ◌∷◌, length, drop, get_or, refl, sym, ap, ◌∙◌, arith}
use Rattle.std.proofs.Math.ListN.{set}
use Rattle.std.proofs.lemmas.List.{set-get_or}
use Rattle.std.specs.Prelude.{Bool, true, false, ◌==◌, if◌then◌else◌, min}
use Rattle.ld_crowd.specs.Left.{left_of, drop_of}
use Rattle.ld_crowd.specs.Memory.{Seat, lefts, at_seat, heard_in, heard_at}
use Rattle.ld_crowd.specs.declared.Heard.TheVariants as reads

-- the peer at this place is replaced
pub set_seat : (seats : List Seat) (i : ℕ) (f : Seat → Seat) (d new : Seat) → i < length seats → new ≡ f (get_or seats i d) → set seats i new ≡ at_seat i f seats
set_seat [] i f d new within made = absurd (omega arith)
set_seat (x ∷ more) zero f d new within made = ap (λ (t : Seat). t ∷ more) made
set_seat (x ∷ more) (suc i) f d new within made = ap (λ (l : List Seat). x ∷ l) (set_seat more i f d new (omega arith) made)

pub set_itself : (seats : List Seat) (i : ℕ) (d new : Seat) → new ≡ get_or seats i d → set seats i new ≡ seats
set_itself seats i d new same = ap (λ (t : Seat). set seats i t) same ∙ set-get_or seats i d

pub at_none : (seats : List Seat) (i : ℕ) (f : Seat → Seat) → length seats ≤ i → at_seat i f seats ≡ seats
at_none [] i f past = refl
at_none (x ∷ more) zero f past = absurd (omega arith)
at_none (x ∷ more) (suc i) f past = ap (λ (l : List Seat). x ∷ l) (at_none more i f (omega arith))

-- ---- what is left of each ----

pub lefts_set : (seats : List Seat) (i n : ℕ) (d new : Seat) → i < length seats → new.left ≡ drop n (get_or seats i d).left → lefts (set seats i new) ≡ drop_of i n (lefts seats)
lefts_set [] i n d new within made = absurd (omega arith)
lefts_set (x ∷ more) zero n d new within made = ap (λ (l : List ℕ). l ∷ lefts more) made
lefts_set (x ∷ more) (suc i) n d new within made = ap (λ (l : List (List ℕ)). x.left ∷ l) (lefts_set more i n d new (omega arith) made)

drop_none : (ls : List (List ℕ)) (i : ℕ) → drop_of i 0 ls ≡ ls
drop_none [] i = refl
drop_none (l ∷ more) zero = refl
drop_none (l ∷ more) (suc i) = ap (λ (k : List (List ℕ)). l ∷ k) (drop_none more i)

pub lefts_same : (seats : List Seat) (i : ℕ) (d new : Seat) → i < length seats → new.left ≡ (get_or seats i d).left → lefts (set seats i new) ≡ lefts seats
lefts_same seats i d new within made = lefts_set seats i 0 d new within made ∙ drop_none (lefts seats) i

pub left_at : (seats : List Seat) (i : ℕ) (d : Seat) → i < length seats → left_of i (lefts seats) ≡ (get_or seats i d).left
left_at [] i d within = absurd (omega arith)
left_at (x ∷ more) zero d within = refl
left_at (x ∷ more) (suc i) d within = left_at more i d (omega arith)

none_left : (l : List ℕ) → (length l == 0) ≡ true → l ≡ []
none_left [] e = refl
none_left (x ∷ l) e = grind arith

pub left_none : (seats : List Seat) (i : ℕ) (d : Seat) → i < length seats → (length (get_or seats i d).left == 0) ≡ true → left_of i (lefts seats) ≡ []
left_none seats i d within e = left_at seats i d within ∙ none_left (get_or seats i d).left e

-- ---- a read, by what is left and there ----

pub heard_there : (seats : List Seat) (i room : ℕ) (d : Seat) → i < length seats → heard_at i seats room ≡ heard_in (get_or seats i d) room
heard_there [] i room d within = absurd (omega arith)
heard_there (x ∷ more) zero room d within = refl
heard_there (x ∷ more) (suc i) room d within = heard_there more i room d (omega arith)

pub ends_in : (s : Seat) (room : ℕ) → (length s.left == 0) ≡ true → reads.End ≡ heard_in s room
ends_in s room e = sym (ap (λ (b : Bool). if b then reads.End else (if min s.ready room == 0 then reads.Later else reads.Some (min s.ready room))) e)

past_end : (s : Seat) (room : ℕ) → (length s.left == 0) ≡ false → heard_in s room ≡ (if min s.ready room == 0 then reads.Later else reads.Some (min s.ready room))
past_end s room e = ap (λ (b : Bool). if b then reads.End else (if min s.ready room == 0 then reads.Later else reads.Some (min s.ready room))) e

pub later_in : (s : Seat) (room n : ℕ) → (length s.left == 0) ≡ false → n ≡ min s.ready room → n ≡ 0 → reads.Later ≡ heard_in s room
later_in s room n e is none = (let t : (min s.ready room == 0) ≡ true = grind arith in sym (past_end s room e ∙ ap (λ (b : Bool). if b then reads.Later else reads.Some (min s.ready room)) t))

pub some_in : (s : Seat) (room n : ℕ) → (length s.left == 0) ≡ false → n ≡ min s.ready room → n ≢ 0 → reads.Some n ≡ heard_in s room
some_in s room n e is some =
    let t : (min s.ready room == 0) ≡ false = grind arith in
    ap reads.Some is ∙ sym (past_end s room e ∙ ap (λ (b : Bool). if b then reads.Later else reads.Some (min s.ready room)) t)
