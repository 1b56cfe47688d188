-- What a reader's values represent.
use Rattle.std.specs.Prelude.{ℕ, List, Option, Some, None}
use Rattle.std.specs.Option.{unwrap_or}
use Rattle.ld_ids.specs.declared.set.Spec.{Spec}
use Rattle.ld_msg.specs.Reading as reading
use Rattle.ld_msg.specs.Register as registers
use Rattle.ld_msg.specs.Reader.{Confirmation}
use Rattle.ld_register.specs.declared.register.View.{View}
use Rattle.ld_reader.specs.declared.item.Item.{Item}
use Rattle.ld_reader.specs.declared.item.Item.TheVariants as items
use Rattle.ld_reader.specs.declared.item.Step.{Step}
use Rattle.ld_reader.specs.declared.item.Step.TheVariants as steps
use Rattle.ld_reader.specs.declared.asked.Asked.{Asked}
use Rattle.ld_reader.specs.Rounds.{ended}

abbrev pub shown_item : Item → reading.Item
shown_item (items.Trim last) = reading.TrimTo last
shown_item (items.Record payload) = reading.RecordHere payload
shown_item items.Hole = reading.HoleHere
shown_item (items.Bridge last) = reading.BridgeTo last
shown_item items.Loss = reading.LossHere
shown_item (items.LossTo last) = reading.LossTo last

abbrev pub shown_confirming : Option Asked → List ℕ → Option Confirmation
shown_confirming None told = None
shown_confirming (Some a) told = Some (record { round = a.round; asked = a.lost; told = told })

abbrev pub shown_step : Step → reading.Verdict
shown_step (steps.Gives item) = reading.Gives (shown_item item)
shown_step (steps.Ends ending) = ended ending

-- what a register shows of an epoch: where nothing was fixed, the log's first nodes, factor and extras count
abbrev pub shown_view : Spec → ℕ → View → registers.View
shown_view first e v = record { at = e; epoch = v.epoch; lce = v.lce; swaps = v.swaps; summary = v.summary; spec = unwrap_or v.spec first }
