use Rattle.std.proofs.Common.{sym, subst}
use Rattle.ld_ids.specs.Bytes.{AreBytes}
use Rattle.ld_batch.proofs.Unpacking.{packed_before}
use Rattle.ld_clients.proofs.lines.add_unpacked.Goals as goal

pub add_messages-requires : goal.add_messages-requires
add_messages-requires c = (packed_before c.bytes.result.now c.in-Ok.messages (subst AreBytes (sym c.bytes.ensures.value) c.bytes.ensures.bytes) c.in-Ok.ensures.ok).most
