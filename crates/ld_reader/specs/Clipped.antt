-- Items that end at the last number that a reader wants, where they would go past it.
use Rattle.std.specs.Prelude.{ℕ, nat_lt, if◌then◌else◌, List, [], ◌∷◌}
use Rattle.ld_msg.specs.Reading.{Item, TrimTo, RecordHere, HoleHere, BridgeTo, LossHere, LossTo, Verdict, Gives, Confirms, AsksAll, NotYet}

abbrev pub clip : ℕ → ℕ → ℕ
clip until last = if nat_lt until last then until else last

abbrev pub clipped : ℕ → Item → Item
clipped until (TrimTo last) = TrimTo (clip until last)
clipped until (RecordHere payload) = RecordHere payload
clipped until HoleHere = HoleHere
clipped until (BridgeTo last) = BridgeTo (clip until last)
clipped until LossHere = LossHere
clipped until (LossTo last) = LossTo (clip until last)

abbrev pub all_clipped : ℕ → List (ℕ × Item) → List (ℕ × Item)
all_clipped until [] = []
all_clipped until (i ∷ is) = (i.0, clipped until i.1) ∷ all_clipped until is

abbrev pub clipped_verdict : ℕ → Verdict → Verdict
clipped_verdict until (Gives item) = Gives (clipped until item)
clipped_verdict until (Confirms lost) = Confirms lost
clipped_verdict until AsksAll = AsksAll
clipped_verdict until NotYet = NotYet
