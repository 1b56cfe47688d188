use Rattle.ld_table.specs.Words.{any_of}
use Rattle.ld_layout.specs.Areas.{is_inside}
use Rattle.ld_layout.proofs.Copies.{Picking}
use Rattle.ld_layout.proofs.listed.holding.Given as goal

abbrev pub invariant-areas : goal.invariant-areas
invariant-areas l = Picking (λ a. any_of (λ k. is_inside a k) l.starts) l.found l.place-iterator l.areas
