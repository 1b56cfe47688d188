use Rattle.std.proofs.Common.{sym, refl, inl, inr, ⊎_elim}
use Rattle.ld_node.specs.Node.{disk_of, plain_of}
use Rattle.ld_serve.proofs.Serving.{state_is, stand, left_now}
use Rattle.ld_serve.proofs.group.settle.Goals as goal

pub returns-in-Disk-clause-off : goal.returns-in-Disk-clause-off
returns-in-Disk-clause-off g c = inl (record {
  cause = inl refl;
  did_is = refl;
  leaves = λ p holds. left_now g.D.Disk.may_leave g.D.Disk.moment g.D.Disk.left_since g.met.D.Disk.counts_now (disk_of c.args.node.now) (disk_of c.commit.new.self) _ (c.in-Err.ensures.any_moment p holds);
})

pub returns-in_default-clause-off : goal.returns-in_default-clause-off
returns-in_default-clause-off g c = inl (record {
  cause = inr refl;
  did_is = refl;
  leaves = λ p holds. left_now g.D.Disk.may_leave g.D.Disk.moment g.D.Disk.left_since g.met.D.Disk.counts_now (disk_of c.args.node.now) (disk_of c.commit.new.self) _ (c.in-Err.ensures.any_moment p holds);
})

pub returns-in_default-clause-disk_counts : goal.returns-in_default-clause-disk_counts
returns-in_default-clause-disk_counts g c = ⊎_elim (λ e. absurd (c.in_default.not-Disk cc)) (λ same. same) c.in-Err.ensures.steady

pub returns-in-Ok-say_all-clause-durable : goal.returns-in-Ok-say_all-clause-durable
returns-in-Ok-say_all-clause-durable g c p holds = (c.in-Ok.ensures.durable p holds, state_is _ _ _ _ (c.in-Ok.ensures.plain p holds) c.commit.ensures.same.3)

pub returns-in-Err-say_all-clause-off : goal.returns-in-Err-say_all-clause-off
returns-in-Err-say_all-clause-off g c = inr (record {
  cause = refl;
  count = c.in-Err-say_all.ensures.part.0;
  did_is = c.in-Err-say_all.ensures.part.1;
  same = λ p holds. state_is _ _ _ _ (c.in-Ok.ensures.plain p holds) c.commit.ensures.same.3;
  leaves = λ p holds. stand g.D.Disk.seen g.D.Disk.may_leave c.commit.new.self (plain_of c.args.node.now) (sym (c.in-Ok.ensures.plain p holds)) (c.in-Ok.ensures.durable p holds);
})
