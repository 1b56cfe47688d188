use Rattle.std.proofs.Common.{arith}
use Rattle.ld_segment.proofs.FoundSlots.{both_read}
use Rattle.ld_segment.proofs.ReadBodies.{all_ok, record_there}
use Rattle.ld_segment.proofs.body.read_body.Goals as goal

pub returns-clause-body : goal.returns-clause-body
returns-clause-body g c =
    let at = c.args.at in
    let n = c.in_ok-size.size in
    all_ok c.read_rest.result _ _ _ _ c.read_rest.ensures.body c.read_rest.ensures.long c.read_rest.ensures.within
    (λ body rest long within. both_read (g.D.Disk.seen c.args.disk.now) (g.D.Disk.seen c.read_size.new.disk) _ _ _ c.in_ok-size.ensures.same.bytes
    (λ bytes head behind len. record_there bytes at n body.items (omega arith) head (behind len) long (omega (arith, within, len))) c.in_ok-size.ensures.size rest)
