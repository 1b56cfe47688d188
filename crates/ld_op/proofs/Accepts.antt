-- What an accepted entry does to a log's entries.
use Rattle.std.proofs.Common.{◌≡◌, ℕ, cond, List, refl}
use Rattle.ld_table.specs.Table.{put, keep}
use Rattle.ld_msg.specs.declared.msg.What.{What}
use Rattle.ld_msg.specs.declared.msg.What.TheVariants.{Rec, Hole, Bridge, Plug, Withheld}
use Rattle.ld_msg.specs.declared.msg.Entry.{Entry}
use Rattle.ld_msg.specs.Digest.{is_bridge}
use Rattle.ld_op.specs.Plain.{accept_entry, survives_bridge}

pub accept_is : (e : Entry) (w : What) (m : List (ℕ × Entry)) → accept_entry e w m ≡ put e.number e (cond (is_bridge w) (keep (λ s f. survives_bridge e f) m) m)
accept_is e (Rec p) m = refl
accept_is e Hole m = refl
accept_is e Bridge m = refl
accept_is e Plug m = refl
accept_is e Withheld m = refl
