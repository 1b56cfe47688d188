use Rattle.std.proofs.Common.{◌≡◌}
use Rattle.ld_serve.proofs.news.note_all.Given as goal

abbrev pub invariant-loop-told : goal.invariant-loop-told
invariant-loop-told g l = record {
  did : g.C.Crowd.did l.crowd ≡ g.C.Crowd.did l.fn.crowd;
  faults : g.C.Crowd.faults l.crowd ≡ g.C.Crowd.faults l.fn.crowd;
}
