use Rattle.std.proofs.Common.{◌≡◌, subst, true, arith}
use Rattle.ld_register.specs.Changes.{is_next}
use Rattle.ld_register.specs.Kept.{register_of}
use Rattle.ld_register.proofs.Few.{few_others}
use Rattle.ld_register.proofs.contents.Contents.apply.Goals as goal

pub invariant_of-self : goal.invariant_of-self
invariant_of-self c = record {
  logs = c.activate_in.ensures.logs c.self.invariant.logs;
  few = c.activate_in.ensures.few (few_others c.args.self.now c.self.inside.logs.entries c.self.inside.generations.entries c.in-Activate.spec.log _ c.self.view_is (subst (λ x. is_next (register_of c.args.self.now 0) x ≡ true) c.in-Activate.is c.requires.next));
}

pub invariant_of-self-in-Unfixed : goal.invariant_of-self-in-Unfixed
invariant_of-self-in-Unfixed c = record {
  logs = c.activate_unfixed_in.ensures.logs c.self.invariant.logs;
  few = c.activate_unfixed_in.ensures.few (few_others c.args.self.now c.self.inside.logs.entries c.self.inside.generations.entries c.in-Unfixed.log _ c.self.view_is (subst (λ x. is_next (register_of c.args.self.now 0) x ≡ true) c.in-Unfixed.is c.requires.next));
}

pub invariant_of-self-in-Close : goal.invariant_of-self-in-Close
invariant_of-self-in-Close c = record {
  logs = c.close_in.ensures.logs c.self.invariant.logs;
  few = c.close_in.ensures.few (few_others c.args.self.now c.self.inside.logs.entries c.self.inside.generations.entries c.in-Close.log _ c.self.view_is (subst (λ x. is_next (register_of c.args.self.now 0) x ≡ true) c.in-Close.is c.requires.next));
}

pub invariant_of-self-in-Lossless : goal.invariant_of-self-in-Lossless
invariant_of-self-in-Lossless c = record {
  logs = c.close_in-in-Lossless.ensures.logs c.self.invariant.logs;
  few = c.close_in-in-Lossless.ensures.few (few_others c.args.self.now c.self.inside.logs.entries c.self.inside.generations.entries c.in-Lossless.log _ c.self.view_is (subst (λ x. is_next (register_of c.args.self.now 0) x ≡ true) c.in-Lossless.is c.requires.next));
}

pub invariant_of-self-in-Swap : goal.invariant_of-self-in-Swap
invariant_of-self-in-Swap c = record { logs = c.swap_in.ensures.logs c.self.invariant.logs; few = let e = c.swap_in.ensures.few in let f = c.self.invariant.few in omega arith }
