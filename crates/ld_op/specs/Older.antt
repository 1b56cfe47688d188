-- Entries of a smaller ballot than another, over a stretch of numbers.
use Rattle.std.specs.Prelude.{ℕ, List, [], ◌∷◌, Option, Some, None, Bool, false, ◌||◌, nat_le, nat_lt, if◌then◌else◌}
use Rattle.ld_msg.specs.declared.msg.Entry.{Entry}

-- whether an entry under a key stands where those of a smaller ballot go that are above one number and at most another
abbrev pub stands_between : ℕ → ℕ → ℕ → ℕ → Entry → Bool
stands_between ballot above last k e = nat_le k above || (nat_lt last k || nat_le ballot e.ballot)

abbrev pub is_older : ℕ → Option Entry → Bool
is_older ballot None = false
is_older ballot (Some e) = nat_lt e.ballot ballot

-- the first key whose entry has a smaller ballot
abbrev pub first_older : ℕ → List (ℕ × Option Entry) → Option ℕ
first_older ballot [] = None
first_older ballot (s ∷ m) = if is_older ballot s.1 then Some s.0 else first_older ballot m
