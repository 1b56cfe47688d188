use Rattle.std.proofs.Common.{ap, ◌∙◌}
use Rattle.ld_table.specs.Named.{same, find_named, put_named}
use Rattle.ld_clients.proofs.Standing.{served_new}
use Rattle.ld_clients.proofs.sequencers.Sequencers.add.Goals as goal

pub invariant_of-self-2 : goal.invariant_of-self-2
unfolding put_named same
invariant_of-self-2 c = served_new c.args.name c.args.client c.self.inside.map.entries c.insert.new.self.entries c.self.inside.places c.note.new.self c.log.result c.epoch.result c.len-place.result
    (ap (find_named c.args.name) c.self.view_is ∙ c.requires.new) c.requires.whole (c.in_ok-insert.ensures.entries ∙ ap (put_named c.args.name c.args.client) c.reserve.ensures.entries)
    c.log.ensures c.epoch.ensures c.len-place.ensures.len c.in_ok-note.ensures.ok c.self.invariant
