use Rattle.std.proofs.Common.{◌≡◌, ◌++◌}
use Rattle.ld_cluster.proofs.finish.add_all.Given as goal

abbrev pub invariant-loop-line : goal.invariant-loop-line
invariant-loop-line l = record {
  all : l.yielded ++ l.line-iterator.rest.items ≡ l.fn.more.items;
  lines : l.lines ≡ l.fn.lines ++ l.yielded;
}
