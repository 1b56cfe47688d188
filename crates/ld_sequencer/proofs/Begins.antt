-- Lists that begin with a list.
use Rattle.std.proofs.Common.{Result, Ok, Err, OnErr, List, ◌++◌, length, refl}
use Rattle.std.proofs.lemmas.List.{take_at}
use Rattle.ld_recovery.specs.Sending.{BeginsWith}
use Rattle.ld_recovery.proofs.Begins.{taken_back}

pub on_err : {T E P : Type 0} (r : Result T E) → P → OnErr r P
on_err (Ok u) p = tt
on_err (Err e) p = p

pub begins_more : {X : Type 0} (old more : List X) → BeginsWith old (old ++ more)
begins_more old more = take_at old more (length old) refl

pub ruleset back_rules = (taken_back, begins_more)
