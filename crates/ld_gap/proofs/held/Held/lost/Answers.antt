use Rattle.std.proofs.Common.{arith, ◌+◌, ◌∙◌, ◌≡◌, ap, length-set, None, get_or}
use Rattle.std.proofs.lemmas.Grind.{common_steps}
use Rattle.ld_table.specs.Words.{is_in}
use Rattle.ld_ids.specs.Set.{members}
use Rattle.ld_msg.specs.Reading.{within, lost_held}
use Rattle.ld_gap.specs.Slots.{generation_within}
use Rattle.ld_gap.proofs.SlotTables.{lost-filled_from}
use Rattle.ld_gap.proofs.Places.{set_more}
use Rattle.ld_gap.proofs.held.Held.lost.Goals as goal

pub loop-place-preserved : goal.loop-place-preserved
loop-place-preserved c =
    let same : c.told_by.result ≡ generation_within (is_in (c.loop-place.place + 1) (members c.args.set.now)) c.args.number (get_or c.self.inside.answers c.loop-place.place None) = grind (arith, common_steps) in
    (omega (arith, length-set c.loop-place.generations c.loop-place.place c.told_by.result), set_more (λ j. generation_within (is_in (j + 1) (members c.args.set.now)) c.args.number (get_or c.self.inside.answers j None)) c.loop-place.generations c.loop-place.place c.told_by.result None (omega arith) c.loop-place.invariant.1 same)

pub returns : goal.returns
returns c = c.of.ensures ∙ lost-filled_from (members c.args.set.now) c.args.number 1 c.loop-place.generations c.self.inside.answers (omega arith) (λ j lt. c.loop-place.invariant.1 j (omega arith) ∙ ap (λ k. generation_within (is_in k (members c.args.set.now)) c.args.number (get_or c.self.inside.answers j None)) (omega arith)) ∙ ap (λ m. lost_held c.args.number (within (members c.args.set.now) m)) c.self.view_is
