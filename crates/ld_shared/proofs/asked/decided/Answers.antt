use Rattle.std.proofs.Common.{inl, Err}
use Rattle.ld_msg.specs.Register.{empty_register}
use Rattle.ld_register.proofs.Leading.{leads_armed}
use Rattle.ld_shared.specs.Bodies.{bodies_of}
use Rattle.ld_shared.proofs.Exact.{one_memory, refused_exact, unread_exact}
use Rattle.ld_shared.proofs.Meeting.{decided_by, refused_by, unfit_by}
use Rattle.ld_shared.proofs.asked.decided.Goals as goal

pub returns-in-Ok-appended-clause-decided : goal.returns-in-Ok-appended-clause-decided
returns-in-Ok-appended-clause-decided g c values fresh =
    decided_by values c.args.fresh.copy c.ask.new.copy _ _ (λ v. v.items) c.in-Ok.answer c.in-Ok-appended.body c.args.fresh.end c.into_disk-disk.result fresh.copy c.in-Ok.ensures.meets fresh.end c.into_disk-disk.ensures c.in-Ok-appended.ensures.found c.in-Ok-appended.ensures.ended

pub returns-in-Err-appended-clause-refused : goal.returns-in-Err-appended-clause-refused
returns-in-Err-appended-clause-refused g c own before values fresh since = inl c.in-Err-appended.ensures.free

pub returns-in-Err-appended-clause-unfit : goal.returns-in-Err-appended-clause-unfit
returns-in-Err-appended-clause-unfit g c = g.met.Q.Question.free_fits c.args.question.now (Err c.in-Err-appended.fault) c.in-Err-appended.ensures.free

pub returns-in-Err-clause-refused : goal.returns-in-Err-clause-refused
returns-in-Err-clause-refused g c own before values fresh since = refused_by values c.args.fresh.copy c.ask.new.copy _ _ own before c.in-Err.fault c.numbered.result c.numbered.ensures.told since fresh.copy c.in-Err.ensures.meets

pub returns-in-Err-clause-unfit : goal.returns-in-Err-clause-unfit
returns-in-Err-clause-unfit g c = unfit_by (g.Q.Question.fits c.args.question.now) (g.met.Q.Question.free_fits c.args.question.now) c.in-Err.fault c.numbered.result c.numbered.ensures.told c.in-Err.ensures.fits

pub returns-in-Err-appended-clause-exact : goal.returns-in-Err-appended-clause-exact
returns-in-Err-appended-clause-exact g c values b fresh leads =
    inl (unread_exact values c.args.fresh.copy c.ask.new.copy _ _ b c.in-Ok.answer c.in-Err-appended.fault c.args.fresh.end c.into_disk-disk.result fresh.copy c.in-Ok.ensures.meets fresh.end c.into_disk-disk.ensures leads
    (λ p front rest is fine parted whole. one_memory _ (c.in-Err-appended.ensures.memory p front rest is fine parted whole)))

pub returns-in-Err-clause-exact : goal.returns-in-Err-clause-exact
returns-in-Err-clause-exact g c values b fresh leads =
    refused_exact values c.args.fresh.copy c.ask.new.copy _ _ b c.in-Err.fault c.numbered.result fresh.copy c.in-Err.ensures.meets leads
    (g.met.Q.Question.is_told c.args.question.now b (leads_armed empty_register (bodies_of values) b leads)) c.numbered.ensures.same
