-- How an entry of an index is seen: its payload as the offsets of its bytes.
use Rattle.ld_table.specs.Words.{numbers_from}
use Rattle.ld_msg.specs.declared.msg.What.{What}
use Rattle.ld_msg.specs.declared.msg.What.TheVariants as whats
use Rattle.ld_msg.specs.declared.msg.Entry.{Entry}
use Rattle.ld_op.specs.declared.pointed.Held.{Held}
use Rattle.ld_op.specs.declared.pointed.Held.TheVariants.{Rec, Hole, Bridge, Plug, Withheld}
use Rattle.ld_op.specs.declared.pointed.Pointed.TheInside.{Inside}

abbrev pub seen_what : Held → What
seen_what (Rec place) = whats.Rec (numbers_from place.at place.len)
seen_what Hole = whats.Hole
seen_what Bridge = whats.Bridge
seen_what Plug = whats.Plug
seen_what Withheld = whats.Withheld

abbrev pub seen_entry : Inside → Entry
seen_entry a = record { number = a.number; ballot = a.ballot; what = seen_what a.what }
