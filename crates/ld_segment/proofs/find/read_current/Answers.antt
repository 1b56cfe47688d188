use Rattle.std.proofs.Common.{◌≡◌, inr, sym}
use Rattle.ld_segment.proofs.FoundSlots.{both_read}
use Rattle.ld_segment.proofs.find.read_current.Goals as goal

pub returns-in-None-clause-damaged : goal.returns-in-None-clause-damaged
returns-in-None-clause-damaged g c place is =
    let same : c.args.head ≡ place = cc is in
    both_read (g.D.Disk.seen c.args.disk.now) (g.D.Disk.seen c.read_slot.new.disk) _ _ _ c.read_slot.ensures.same.bytes
    (λ bytes one two. inr (inr (sym same, c.of.ensures.none bytes one two c.in-None.is))) c.in_ok-one.ensures.slot c.in_ok-two.ensures.slot
