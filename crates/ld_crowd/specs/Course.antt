-- Serving many peers at once, whatever a step is: which frames were taken, of whom, in which order, and what was answered to each.
use Rattle.std.specs.Prelude.{◌≡◌, ◌+◌, ℕ, List, [], ◌∷◌, ◌++◌, ◌==◌, if◌then◌else◌}

-- a message that was taken of a peer, which is named by its number in the order of coming
abbrev pub Taken : Type 0 → Type 0
Taken M = ℕ × M

module _ {M : Type 0} where
  -- what was taken of one peer
  abbrev pub of : ℕ → List (Taken M) → List M
  of g [] = []
  of g (t ∷ ts) = if t.0 == g then t.1 ∷ of g ts else of g ts

  -- of all, in order
  abbrev pub messages_of : List (Taken M) → List M
  messages_of [] = []
  messages_of (t ∷ ts) = t.1 ∷ messages_of ts

  abbrev pub all_of : ℕ → List M → List (Taken M)
  all_of g [] = []
  all_of g (m ∷ ms) = (g, m) ∷ all_of g ms

  -- the messages of the peers from this number on, one peer's after the other's
  abbrev pub in_turn : ℕ → List (List M) → List (Taken M)
  in_turn g [] = []
  in_turn g (ms ∷ more) = all_of g ms ++ in_turn (1 + g) more

module _ {M : Type 0} (frame : M → List ℕ) where
  abbrev pub frames : List M → List ℕ
  frames [] = []
  frames (m ∷ ms) = frame m ++ frames ms

module _ {S M : Type 0} (after : S → M → S) where
  -- each frame that is taken, in the order over all peers, is one step
  abbrev pub after_taken : S → List (Taken M) → S
  after_taken s [] = s
  after_taken s (t ∷ ts) = after_taken (after s t.1) ts

  -- one peer after the other
  abbrev pub after_all : S → List M → S
  after_all s [] = s
  after_all s (m ∷ ms) = after_all (after s m) ms

  abbrev pub after_peers : S → List (List M) → S
  after_peers s [] = s
  after_peers s (ms ∷ more) = after_peers (after_all s ms) more

module _ {S M : Type 0} (after : S → M → S) (answers : S → M → List ℕ) where
  -- the answers to a peer's frames, in order, each from the state in which its frame was taken
  abbrev pub answered : ℕ → S → List (Taken M) → List ℕ
  answered g s [] = []
  answered g s (t ∷ ts) = if t.0 == g then answers s t.1 ++ answered g (after s t.1) ts else answered g (after s t.1) ts

  abbrev pub answers_all : S → List M → List ℕ
  answers_all s [] = []
  answers_all s (m ∷ ms) = answers s m ++ answers_all (after s m) ms

module _ {S M : Type 0} (after : S → M → S) (answers : S → M → List ℕ) (frame : M → List ℕ) where
  -- what was read of a peer, and what was said to it: its frames that were taken and then what is held of it, and the answers to these
  pub record IsTalk (g : ℕ) (s : S) (ts : List (Taken M)) (got sent held : List ℕ) : Type 0 where
    pub got_is : got ≡ frames frame (of g ts) ++ held
    pub sent_is : sent ≡ answered after answers g s ts
