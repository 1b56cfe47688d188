-- The pages of a node whose state doesn't change, each asked for from the number behind the page before it.
use Rattle.std.specs.Prelude.{◌≡◌, ◌≤◌, ◌<◌, ◌+◌, ◌*◌, ℕ, List, [], ◌∷◌, ◌++◌, length}
use Rattle.ld_msg.specs.declared.msg.Entry.{Entry}
use Rattle.ld_msg.specs.declared.msg.Body.{Body}
use Rattle.ld_msg.specs.declared.msg.Body.TheVariants as bodies

-- how far a page reaches, and its entries
abbrev pub reached : Body → ℕ
reached (bodies.DigestPage from upto trim lng entries) = upto
reached (bodies.ReadPage round from upto clean entries) = upto
reached _ = 0

abbrev pub entries_in : Body → List Entry
entries_in (bodies.DigestPage from upto trim lng entries) = entries
entries_in (bodies.ReadPage round from upto clean entries) = entries
entries_in _ = []

abbrev pub entries_of : List Body → List Entry
entries_of [] = []
entries_of (b ∷ bs) = entries_in b ++ entries_of bs

-- what is answered from a number on, each time from the number behind the page, until a page reaches the last number
abbrev pub AskedOn : (ℕ → Body) → ℕ → ℕ → List Body → Type 0
AskedOn answer last from [] = last < from
AskedOn answer last from (b ∷ bs) = (from ≤ last) × (b ≡ answer from) × AskedOn answer last (reached b + 1) bs

-- each page begins behind the one before it, and the last one ends at the last number
abbrev pub Join : ℕ → ℕ → List Body → Type 0
Join last from [] = from ≡ last + 1
Join last from (b ∷ bs) = (from ≤ reached b) × Join last (reached b + 1) bs

-- the pages join, they have just these entries, each once, and they end after so many
pub record Cover (answer : ℕ → Body) (last from : ℕ) (entries : List Entry) : Type 0 where
  pub join : (pages : List Body) → AskedOn answer last from pages → Join last from pages
  pub once : (pages : List Body) → AskedOn answer last from pages → entries_of pages ≡ entries
  pub end : (pages : List Body) × AskedOn answer last from pages × (64 * length pages ≤ length entries + 64)
