-- The loop that reads a line.
use Rattle.std.proofs.Common.{◌≡◌, ◌≤◌, ◌+◌, ◌++◌, ℕ, List, [], length, sym, ap, ◌∙◌}
use Rattle.std.proofs.lemmas.List.{append_assoc}
use Rattle.ld_lsn.specs.Text.{Lacks}

-- so many bytes were read, and none of them ends a line
pub record Reading (line : List ℕ) (count before after faults_before faults_after : ℕ) : Type 0 where
  pub lacks : Lacks 10 line
  pub long : length line ≡ count
  pub budget : after + count ≤ before
  pub later : faults_before ≤ faults_after

-- the left sides of a call's clauses on one input: what was left before, in between and behind it
pub taken_on : {x y : List ℕ} (z bs cs : List ℕ) → x ≡ bs ++ y → y ≡ cs ++ z → x ≡ (bs ++ cs) ++ z
taken_on z bs cs p q = p ∙ ap (λ l. bs ++ l) q ∙ sym (append_assoc bs cs z)

-- nothing follows what was taken
pub taken_kept : {x z y : List ℕ} (line : List ℕ) → x ≡ line ++ y → z ≡ y → x ≡ line ++ z
taken_kept line p k = p ∙ ap (λ l. line ++ l) (sym k)

-- nothing was left
pub at_end : {x z : List ℕ} (y line : List ℕ) → line ≡ [] → x ≡ line ++ y → z ≡ y → z ≡ [] → x ≡ []
at_end y line none p k e = p ∙ ap (λ l. l ++ y) none ∙ sym k ∙ e

-- nothing was taken
pub none_kept : {x z : List ℕ} (y line : List ℕ) → line ≡ [] → x ≡ line ++ y → z ≡ y → x ≡ z
none_kept y line none p k = p ∙ ap (λ l. l ++ y) none ∙ sym k
