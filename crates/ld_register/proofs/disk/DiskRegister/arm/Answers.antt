use Rattle.std.proofs.Common.{refl}
use Rattle.ld_register.proofs.Meeting.{holds_armed, tells_armed, leaves_armed}
use Rattle.ld_register.proofs.disk.DiskRegister.arm.Goals as goal

pub returns-clause-told : goal.returns-clause-told
returns-clause-told g c = let r = c.arm.ensures.rest in tells_armed c.args.self.now _ c.arm.ensures.same r.0 r.2 r.3 refl refl

pub returns-clause-holds : goal.returns-clause-holds
returns-clause-holds g c = let r = c.arm.ensures.rest in holds_armed c.args.self.now _ c.arm.ensures.same r.0 r.2 r.3 refl refl

pub returns-clause-leaves : goal.returns-clause-leaves
returns-clause-leaves g c = leaves_armed g.met.D.Disk.reads_an_image c.args.self.now _ c.arm.ensures.same
