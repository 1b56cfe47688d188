use Rattle.std.proofs.Common.{◌≡◌, take}
use Rattle.ld_serve.specs.Group.{waiting_in, told}
use Rattle.ld_serve.proofs.group.say_all.Given as goal

abbrev pub invariant-loop-answer : goal.invariant-loop-answer
invariant-loop-answer g l = record {
  said : g.C.Crowd.did l.crowd ≡ told (take l.answer-index (waiting_in l.answers)) (g.C.Crowd.did l.fn.crowd);
  faults : g.C.Crowd.faults l.crowd ≡ g.C.Crowd.faults l.fn.crowd;
}
