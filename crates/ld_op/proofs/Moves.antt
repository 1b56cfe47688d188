-- What each op leaves of a log's entries, and what a taken store says of the node.
use Rattle.std.proofs.Common.{◌≡◌, ◌≤◌, ◌<◌, ◌⊎◌, ℕ, false, List, Some, None, arith}
use Rattle.ld_table.specs.Table.{find}
use Rattle.ld_table.proofs.Laws.{table_rules}
use Rattle.ld_lsn.specs.Number.{epoch_of}
use Rattle.ld_msg.specs.declared.msg.What.{What}
use Rattle.ld_msg.specs.declared.msg.What.TheVariants.{Rec, Hole, Bridge, Plug, Withheld}
use Rattle.ld_msg.specs.declared.msg.Entry.{Entry}
use Rattle.ld_msg.specs.declared.msg.Summary.{Summary}
use Rattle.ld_op.specs.Plain.{Log, accepted, accept_entry, survives_bridge, trimmed_to, cleaned, is_lost, summary_at}
use Rattle.ld_op.specs.Answers.{Take, store_decision}

-- the entry is there
entry_there : (e : Entry) (w : What) (m : List (ℕ × Entry)) → find e.number (accept_entry e w m) ≡ Some e
entry_there e (Rec p) m = grind (arith, table_rules)
entry_there e Hole m = grind (arith, table_rules)
entry_there e Bridge m = grind (arith, table_rules)
entry_there e Plug m = grind (arith, table_rules)
entry_there e Withheld m = grind (arith, table_rules)

pub taken_there : (g : Log) (lng : ℕ) (e : Entry) → find e.number (accepted g lng e).entries ≡ Some e
taken_there g lng e = entry_there e e.what g.entries

-- an entry that is there was there or is the new one
entry_from : (e : Entry) (w : What) (m : List (ℕ × Entry)) (q : ℕ) (f : Entry) → find q (accept_entry e w m) ≡ Some f → ((q ≡ e.number) × (f ≡ e)) ⊎ (find q m ≡ Some f)
entry_from e (Rec p) m q f h = grind (arith, table_rules)
entry_from e Hole m q f h = grind (arith, table_rules)
entry_from e Bridge m q f h = grind (arith, table_rules)
entry_from e Plug m q f h = grind (arith, table_rules)
entry_from e Withheld m q f h = grind (arith, table_rules)

pub taken_from : (g : Log) (lng : ℕ) (e : Entry) (q : ℕ) (f : Entry) → find q (accepted g lng e).entries ≡ Some f → ((q ≡ e.number) × (f ≡ e)) ⊎ (find q g.entries ≡ Some f)
taken_from g lng e q f h = entry_from e e.what g.entries q f h

-- an entry stays, is replaced, or is taken away by a bridge below it
entry_stays : (e : Entry) (w : What) (m : List (ℕ × Entry)) (q : ℕ) (f : Entry) → find q m ≡ Some f →
    (find q (accept_entry e w m) ≡ Some f) ⊎ ((q ≡ e.number) ⊎ ((w ≡ Bridge) × (survives_bridge e f ≡ false)))
entry_stays e (Rec p) m q f h = grind (arith, table_rules)
entry_stays e Hole m q f h = grind (arith, table_rules)
entry_stays e Bridge m q f h = grind (arith, table_rules)
entry_stays e Plug m q f h = grind (arith, table_rules)
entry_stays e Withheld m q f h = grind (arith, table_rules)

-- above a trim all stays
pub trim_keeps : (g : Log) (t q : ℕ) (f : Entry) → t < q → g.trim < q → find q g.entries ≡ Some f → find q (trimmed_to g t).entries ≡ Some f
trim_keeps g t q f l a h = grind (arith, table_rules)

-- a close keeps what the closing sequencer stored above its trim
pub clean_keeps : (g : Log) (e q : ℕ) (y : Summary) (f : Entry) → f.number ≡ q → y.trim < q → g.trim < q → y.ballot ≤ f.ballot → find q g.entries ≡ Some f → find q (cleaned g e y).entries ≡ Some f
clean_keeps g e q y f s l a b h = grind (arith, table_rules)

-- what a taken store says of the log
pub record Taking (g : Log) (e : Entry) : Type 0 where
  pub served : is_lost g (epoch_of e.number) ≡ false
  pub unclean : summary_at g (epoch_of e.number) ≡ None
  pub above : g.trim < e.number
  pub sealed : g.sealed ≤ e.ballot

pub taking : (g : Log) (e : Entry) → store_decision g e ≡ Take → Taking g e
unfolding store_decision
taking g e h = grind arith
