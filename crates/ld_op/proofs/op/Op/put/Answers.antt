use Rattle.std.proofs.Common.{◌∙◌, ◌++◌, ap, sym}
use Rattle.byteorder.specs.Endian.{big_bytes}
use Rattle.ld_fields.specs.Items.{entry_bytes, summary_bytes}
use Rattle.ld_op.specs.Bytes.{op_bytes}
use Rattle.ld_op.proofs.There.{on_ok_with}
use Rattle.ld_op.proofs.Writes.{four}
use Rattle.ld_op.proofs.op.Op.put.Goals as goal

pub returns-in_ok-put_u32-in-Accept : goal.returns-in_ok-put_u32-in-Accept
unfolding op_bytes
returns-in_ok-put_u32-in-Accept c = on_ok_with c.put_entry.result _ _
    (λ h. four c.args.out.now.items (big_bytes 1 2) (big_bytes 4 c.in-Accept.log) (big_bytes 4 c.in-Accept.lng) (entry_bytes c.in-Accept.entry) c.put_head.new.out.items c.put_u32.new.out.items c.put_entry.new.out.items c.in_ok-put_head-in-Accept.ensures c.in_ok-put_u32-in-Accept.ensures h
    ∙ ap (λ o. c.args.out.now.items ++ op_bytes o) (sym c.in-Accept.is)) c.put_entry.ensures

pub returns-in_ok-put_u32-in-Clean : goal.returns-in_ok-put_u32-in-Clean
unfolding op_bytes
returns-in_ok-put_u32-in-Clean c = on_ok_with c.put_summary.result _ _
    (λ h. four c.args.out.now.items (big_bytes 1 12) (big_bytes 4 c.in-Clean.log) (big_bytes 4 c.in-Clean.epoch) (summary_bytes c.in-Clean.summary) c.put_head-in-Clean.new.out.items c.put_u32-in-Clean.new.out.items c.put_summary.new.out.items c.in_ok-put_head-in-Clean.ensures c.in_ok-put_u32-in-Clean.ensures h
    ∙ ap (λ o. c.args.out.now.items ++ op_bytes o) (sym c.in-Clean.is)) c.put_summary.ensures
