use Rattle.std.proofs.Common.{◌∙◌, ◌++◌, ap, sym, subst, arith}
use Rattle.ld_msg.specs.declared.msg.Entry.{Entry}
use Rattle.ld_msg.specs.Bounds.{IsShort}
use Rattle.ld_fields.specs.Items.{entry_bytes}
use Rattle.ld_fields.proofs.Writes.{entries_bytes-more, short_at}
use Rattle.ld_fields.proofs.write.put_entries.Goals as goal

pub put_entry-requires : goal.put_entry-requires
put_entry-requires c = subst (λ (e : Entry). IsShort e.what) (sym c.entry-item.is) (short_at c.args.entries.now c.loop-entry.entry-index c.entry-item.result c.requires (omega arith))

pub loop-entry-preserved : goal.loop-entry-preserved
loop-entry-preserved c = c.in_ok-put_entry.ensures ∙ (ap (λ r. r ++ entry_bytes c.entry-item.result) c.loop-entry.invariant
    ∙ entries_bytes-more c.args.entries.now c.loop-entry.entry-index c.entry-item.result c.args.out.now.items (omega arith) c.entry-item.is)
