use Rattle.std.proofs.Common.{◌≡◌, ◌-◌, min, length, take, drop}
use Rattle.ld_segment.specs.Slots.{IsSlotAt}
use Rattle.ld_segment.proofs.ReadSlots.{if_some, slot_there}
use Rattle.ld_segment.proofs.read.read_slot.Goals as goal

pub returns-clause-slot : goal.returns-clause-slot
returns-clause-slot g c =
    let count = c.in_ok-count.count in
    let buf = c.read.new.buf in
    if_some (g.D.Disk.seen c.args.disk.now) (λ bytes. (count ≡ min (length bytes - c.args.at) 17) × (take count buf ≡ take count (drop c.args.at bytes))) (IsSlotAt c.args.at c.slot_in.result) c.in_ok-count.ensures.bytes
    (λ bytes read. slot_there bytes buf c.args.at count c.slot_in.result c.in_ok-count.ensures.len c.if-count-lt17.false read c.slot_in.ensures.open c.slot_in.ensures.number c.slot_in.ensures.place)
