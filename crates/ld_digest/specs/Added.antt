-- What becomes of a page.
use Rattle.std.specs.Prelude.{◌≡◌, ℕ, List, [], ◌∷◌, true, false, if◌then◌else◌}
use Rattle.ld_msg.specs.declared.msg.Body.TheVariants as bodies
use Rattle.ld_msg.specs.declared.msg.Entry.{Entry}
use Rattle.ld_msg.specs.Digest.{Told, takes_page, told_page}
use Rattle.ld_msg.specs.Sequencer.{takes_any, next_ask}
use Rattle.ld_digest.specs.declared.added.Added.{Added}
use Rattle.ld_digest.specs.declared.added.Added.TheVariants.{Ask, Whole, Ignored}

-- a node with a page more, where the page is its next one; good is the digest's last known good offset, the page counted
abbrev pub page_added : ℕ → ℕ → ℕ → ℕ → ℕ → ℕ → List Entry → Told → Told
page_added epoch good from upto trim lng es t = if takes_page t.node from t then told_page epoch good upto trim lng es t else t

-- what becomes of a page from a number on: the node is to be asked on, or is whole, or it isn't the node's next page
abbrev pub IsAnswer : Added → ℕ → Told → Told → Type 0
IsAnswer (Ask next) from old new = (takes_page old.node from old ≡ true) × (new.whole ≡ false) × (new.asked ≡ next)
IsAnswer Whole from old new = (takes_page old.node from old ≡ true) × (new.whole ≡ true)
IsAnswer Ignored from old new = takes_page old.node from old ≡ false

-- a page of a node from a number on was taken, and the node is to be asked on or is whole; or it was ignored
abbrev pub IsAdded : Added → ℕ → ℕ → List Told → List Told → Type 0
IsAdded (Ask next) y from old new = (takes_any y from old ≡ true) × (next_ask y new ≡ (y, bodies.DigestAsk next) ∷ [])
IsAdded Whole y from old new = (takes_any y from old ≡ true) × (next_ask y new ≡ [])
IsAdded Ignored y from old new = takes_any y from old ≡ false
