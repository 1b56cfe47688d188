use Rattle.ld_stopped.proofs.showing.show_store.Goals as goal

pub returns-clause-shown : goal.returns-clause-shown
returns-clause-shown g c bytes p e stands = rw c.let_go.ensures.ended (c.show_on-disk.ensures.shown bytes p e stands)
