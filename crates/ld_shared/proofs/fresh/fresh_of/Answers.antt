use Rattle.std.proofs.Common.{◌∙◌, refl, arith}
use Rattle.ld_disk.specs.Memory.{disk_plain}
use Rattle.ld_shared.proofs.Reading.{is_copy, read_length, sound_quiet}
use Rattle.ld_shared.proofs.fresh.fresh_of.Goals as goal

pub returns-in-Ok-clause-fresh : goal.returns-in-Ok-clause-fresh
returns-in-Ok-clause-fresh g c = record {
  copy = is_copy (g.C.Records.list c.read_all.new.records) c.read_all.new.journal.items c.deref.result.now c.in_ok-number.number c.in-Ok.disk c.new.result (disk_plain c.in-Ok.disk)
      c.in_ok-number.ensures.all.0 c.in_ok-number.ensures.all.1 (c.deref.ensures.value ∙ c.in_ok-extend_from_slice.ensures.items) c.new.ensures.disk refl refl c.in-Ok.ensures.bytes
      (sound_quiet (disk_plain c.in-Ok.disk) c.in-Ok.ensures.sound) c.new.ensures.told c.new.ensures.tells;
  end = read_length c.in_ok-number.number c.len-end.result (g.C.Records.list c.read_all.new.records) c.read_all.new.journal.items c.in_ok-number.ensures.all.0 c.in_ok-number.ensures.all.1 (omega (arith, c.len-end.ensures, c.read_all.new.journal.ok.0));
  number = c.in_ok-number.ensures.all.1;
}
