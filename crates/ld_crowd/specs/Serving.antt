-- What passed while a crowd was served: the frames that were taken with the answers that were given, and how each peer stands.
use Rattle.std.specs.Prelude.{◌≡◌, ◌+◌, ◌≤◌, ◌^◌, ◌-◌, ◌⊎◌, ◌==◌, ℕ, List, [], ◌∷◌, ◌++◌, length, true, false, if◌then◌else◌, Option, None, IfSome}
use Rattle.ld_past.specs.Events.{Event}
use Rattle.ld_crowd.specs.Calls.{read_of, said_to, is_ended, is_finished, is_dismissed, is_over, arrivals, count_of}
use Rattle.ld_crowd.specs.Course.{Taken, of, frames}

-- how many turns were taken: frames that were taken, and peers that were silent for too long, that were let go, or that were dismissed
abbrev pub turns_of : {E : Type 0} → List Event → List (Taken E) → ℕ
turns_of did ts = length ts + (count_of 1 did + (count_of 7 did + count_of 8 did))

-- which turns were taken of those that were to be: all, or as many as there were until nobody was left; or the crowd was asked 2^64-1 times
pub record AreTurns {E : Type 0} (did : List Event) (ts : List (Taken E)) (turns : ℕ) : Type 0 where
  pub most : turns_of did ts ≤ turns
  pub all : (turns_of did ts ≡ turns) ⊎ ((is_over did ≡ true) ⊎ (2 ^ 64 - 1 ≤ length did))

-- messages M and answers A, and their bytes
module _ {M A : Type 0} (frame : M → List ℕ) (bytes : A → List ℕ) where
  -- of a peer: what was read is its frames that were taken and then what is held of it, and what was said to it are the answers to these, in order
  pub record Passes (ts : List (Taken (M × A))) (g : ℕ) (got sent held : List ℕ) : Type 0 where
    pub got_is : got ≡ frames (λ (e : M × A). frame e.0) (of g ts) ++ held
    pub sent_is : sent ≡ frames (λ (e : M × A). bytes e.1) (of g ts)

-- the bytes that are less than a frame, and those that begin none
module _ {M A : Type 0} (frame : M → List ℕ) (bytes : A → List ℕ) (waits refused : List ℕ → Type 0) where
  -- and it was let go only at its end, when less than a frame was held of it, and dismissed only for bytes that begin no frame
  pub record IsWith (did : List Event) (ts : List (Taken (M × A))) (g : ℕ) (held : List ℕ) : Type 0 where
    pub passes : Passes frame bytes ts g (read_of g did) (said_to g did) held
    pub less : is_finished g did ≡ true → (is_ended g did ≡ true) × waits held
    pub off : is_dismissed g did ≡ true → refused held

  -- of each peer
  abbrev pub AreWith : List Event → List (Taken (M × A)) → Type 0
  AreWith did ts = (g : ℕ) → (held : List ℕ) × IsWith did ts g held

  -- ---- while it goes on: what is held of those that are served ----

  pub record GoesOn (did : List Event) (ts : List (Taken (M × A))) (g : ℕ) (now : Option (List ℕ)) : Type 0 where
    pub held : List ℕ
    pub stands : IsWith did ts g held
    pub here : IfSome now (λ h. (h ≡ held) × (is_finished g did ≡ false) × (is_dismissed g did ≡ false))
    pub fresh : arrivals did ≤ g → (read_of g did ≡ []) × (now ≡ None) × (is_finished g did ≡ false) × (is_dismissed g did ≡ false)

  abbrev pub GoOn : List Event → List (Taken (M × A)) → (ℕ → Option (List ℕ)) → Type 0
  GoOn did ts now = (g : ℕ) → GoesOn did ts g (now g)

-- of this peer this much is held, and of the others what was
abbrev pub put : ℕ → Option (List ℕ) → (ℕ → Option (List ℕ)) → ℕ → Option (List ℕ)
put peer held now g = if peer == g then held else now g

-- ---- steps ----

module _ {M A : Type 0} where
  -- the messages alone
  abbrev pub plain : List (Taken (M × A)) → List (Taken M)
  plain [] = []
  plain (t ∷ ts) = (t.0, t.1.0) ∷ plain ts

-- each message that was taken is one step, and its answers are those of the step
module _ {S M A : Type 0} (after : S → M → S) (answers : S → M → A) where
  abbrev pub AreSteps : S → List (Taken (M × A)) → S → Type 0
  AreSteps s [] now = now ≡ s
  AreSteps s (t ∷ ts) now = (t.1.1 ≡ answers s t.1.0) × AreSteps (after s t.1.0) ts now
