use Rattle.ld_stopped.proofs.replacing.replace_in.Goals as goal

pub returns-clause-replaces : goal.returns-clause-replaces
returns-clause-replaces g c bytes p e stands = rw c.let_go.ensures.ended (c.replace_on-disk.ensures.replaces bytes p e stands)
