use Rattle.std.proofs.Common.{◌∙◌, ◌≤◌, length, ap, sym, arith, subst}
use Rattle.ld_machine.specs.Calm.{readers_of as readers_for}
use Rattle.ld_clients.specs.Followers.{readers_of}
use Rattle.ld_clients.proofs.Opened.{names_all, names_on}
use Rattle.ld_clients.proofs.readers.Readers.names.Goals as goal

pub readers-preserved : goal.readers-preserved
readers-preserved c = names_on c.args.log c.self.inside.map.entries c.readers.place (c.in-Some.name.now, c.in-Some.reader.now) c.readers.names.items c.add_name.new.names.items _ (sym c.in-Some.ensures.entry) c.in_ok-add_name.ensures c.readers.invariant
