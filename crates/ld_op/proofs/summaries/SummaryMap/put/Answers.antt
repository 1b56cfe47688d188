use Rattle.std.proofs.Common.{◌≡◌, Some, subst, arith}
use Rattle.ld_table.specs.Table.{find, put}
use Rattle.ld_op.specs.Places.{filled}
use Rattle.ld_op.specs.Closed.{AreEpochs, AreSummaries}
use Rattle.ld_op.proofs.Places.{put_at_place, filled-put_by, has_place-put_there}
use Rattle.ld_op.proofs.Closed.{epochs_stay, with_summary}
use Rattle.ld_op.proofs.summaries.SummaryMap.put.Goals as goal

pub lowest_from-self-inside-requires : goal.lowest_from-self-inside-requires
unfolding find
lowest_from-self-inside-requires c = epochs_stay c.insert.new.self.entries c.args.self.now
    (has_place-put_there c.args.epoch (Some c.args.summary) c.insert.new.self.entries c.args.self.now c.requires
    (put_at_place c.insert.result c.args.epoch (Some c.args.summary) c.self.inside.map.entries c.insert.new.self.entries c.args.self.now c.insert.ensures.entries c.insert.ensures.absent c.self.view_is c.requires))
    (subst AreEpochs c.self.view_is c.self.invariant.epochs)

written : (c : goal.After-self-1) → c.insert.new.self.entries ≡ put c.args.epoch (Some c.args.summary) c.args.self.now
unfolding find
written c = put_at_place c.insert.result c.args.epoch (Some c.args.summary) c.self.inside.map.entries c.insert.new.self.entries c.args.self.now c.insert.ensures.entries c.insert.ensures.absent c.self.view_is c.requires

shown : (c : goal.After-self-1) → filled c.insert.new.self.entries ≡ put c.args.epoch c.args.summary (filled c.args.self.now)
shown c = filled-put_by c.args.epoch c.args.summary c.self.inside.map.entries c.insert.new.self.entries c.args.self.now c.insert.ensures.was_ordered c.self.view_is (written c)

pub invariant_of-self : goal.invariant_of-self
invariant_of-self c = with_summary c.args.epoch c.args.summary c.insert.new.self.entries c.args.self.now c.self.inside.lowest c.lowest_from-self-inside.result (omega (arith, c.end_of.ensures, c.end_of.type_inv))
    (shown c) (has_place-put_there c.args.epoch (Some c.args.summary) c.insert.new.self.entries c.args.self.now c.requires (written c))
    c.lowest_from-self-inside.ensures.from c.lowest_from-self-inside.ensures.below c.lowest_from-self-inside.ensures.absent (subst (λ m. AreSummaries m c.self.inside.lowest) c.self.view_is c.self.invariant)

pub returns : goal.returns
returns c = shown c
