-- What a verdict of the code represents.
use Rattle.ld_lsn.specs.Number.{epoch_end}
use Rattle.ld_msg.specs.Reading as reading
use Rattle.ld_gap.specs.declared.verdict.Item.{Item}
use Rattle.ld_gap.specs.declared.verdict.Item.TheVariants as items
use Rattle.ld_gap.specs.declared.verdict.Verdict.{Verdict}
use Rattle.ld_gap.specs.declared.verdict.Verdict.TheVariants as verdicts

abbrev pub shown_item : Item → reading.Item
shown_item (items.Trim last) = reading.TrimTo last
shown_item (items.Record payload) = reading.RecordHere payload.now
shown_item items.Hole = reading.HoleHere
shown_item (items.Bridge epoch) = reading.BridgeTo (epoch_end epoch)
shown_item items.Loss = reading.LossHere
shown_item (items.LossTo epoch) = reading.LossTo (epoch_end epoch)

abbrev pub shown : Verdict → reading.Verdict
shown (verdicts.Gives item) = reading.Gives (shown_item item)
shown (verdicts.Confirms lost) = reading.Confirms lost
shown verdicts.AsksAll = reading.AsksAll
shown verdicts.NotYet = reading.NotYet
