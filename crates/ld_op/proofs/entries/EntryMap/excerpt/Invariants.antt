use Rattle.std.proofs.Common.{◌≡◌, ◌≤◌, ◌++◌, map, length}
use Rattle.std.specs.Map.Iter.{deref_pair}
use Rattle.ld_op.proofs.Pages.{gather}
use Rattle.ld_op.proofs.Carried.{shown}
use Rattle.ld_op.proofs.entries.EntryMap.excerpt.Given as goal

abbrev pub invariant-places : goal.invariant-places
invariant-places g l = record {
  all : map deref_pair l.yielded ++ l.place-iterator ≡ l.initial.place-iterator;
  gathered : l.entries ≡ map (shown (g.C.Carries.carries l.carries)) (gather l.bridges (map deref_pair l.yielded));
  few : length l.entries ≤ 64;
}
