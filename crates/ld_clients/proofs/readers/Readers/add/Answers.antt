use Rattle.std.proofs.Common.{◌∙◌, sym, ap, length}
use Rattle.ld_table.specs.Named.{same, find_named, put_named}
use Rattle.ld_clients.proofs.Followings.{numbered_new}
use Rattle.ld_clients.proofs.readers.Readers.add.Goals as goal

pub invariant_of-self-2 : goal.invariant_of-self-2
unfolding put_named same
invariant_of-self-2 c = rw c.in_ok-insert.ensures.entries (numbered_new c.args.name c.args.reader c.self.inside.map.entries (c.requires.number ∙ ap length (sym c.self.view_is)) (ap (find_named c.args.name) c.self.view_is ∙ c.requires.new) c.self.invariant)
