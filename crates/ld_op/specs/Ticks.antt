-- How a lost node gets back what it lacks, and what a look at the register makes a node do.
use Rattle.std.specs.Prelude.{ℕ, ◌+◌, ◌-◌, List, [], ◌∷◌, length, filter, map, flat_map, Option, Some, None, is_none, Bool, false, ◌&&◌, ◌==◌, nat_lt, nat_le, if◌then◌else◌}
use Rattle.ld_table.specs.Table.{find}
use Rattle.ld_table.specs.Words.{numbers_from, without}
use Rattle.ld_lsn.specs.Number.{epoch_of, esn_of, numbered}
use Rattle.ld_msg.specs.declared.msg.Entry.{Entry}
use Rattle.ld_msg.specs.declared.msg.Summary.{Summary}
use Rattle.ld_msg.specs.declared.msg.Body.{Body}
use Rattle.ld_msg.specs.declared.msg.Body.TheVariants as bodies
use Rattle.ld_msg.specs.Sequencer.{to_each}
use Rattle.ld_op.specs.declared.op.Op.{Op}
use Rattle.ld_op.specs.declared.op.Op.TheVariants as ops
use Rattle.ld_op.specs.Plain.{Log}
use Rattle.ld_op.specs.Answers.{Handled}

-- ---- what is missing ----

-- the first offset of an epoch above the trim
abbrev pub first_above : ℕ → ℕ → ℕ
first_above epoch trim = if nat_lt trim (numbered epoch 1) then 1 else trim + 1 - numbered epoch 0

-- the numbers of a clean epoch above the trim and below the end
abbrev pub numbers_of : Log → ℕ → Summary → List ℕ
numbers_of g epoch y = numbers_from (numbered epoch (first_above epoch g.trim)) (y.end - first_above epoch g.trim)

abbrev pub missing_of : Log → ℕ × Summary → List ℕ
missing_of g s = if nat_le s.0 g.lost_to then filter (λ n. is_none (find n g.entries)) (numbers_of g s.0 s.1) else []

-- the numbers without an entry, of the clean epochs that were lost
unfoldable pub missing : Log → List ℕ
missing g = flat_map (missing_of g) g.summaries

abbrev pub is_below_end : ℕ → Option Summary → Bool
is_below_end s None = false
is_below_end s (Some y) = nat_lt (esn_of s) y.end

-- the number is one of these
unfoldable pub is_missing : Log → ℕ → Bool
is_missing g s = ((nat_lt g.trim s && nat_le (epoch_of s) g.lost_to) && is_below_end s (find (epoch_of s) g.summaries)) && is_none (find s g.entries)

-- ---- a page comes to a lost node ----

abbrev pub ballot_of : ℕ → Option Summary → ℕ
ballot_of b None = b
ballot_of b (Some y) = y.ballot

-- with the ballot of the sequencer that closed its epoch
abbrev pub as_closed : Log → Entry → Entry
as_closed g e = record { number = e.number; ballot = ballot_of e.ballot (find (epoch_of e.number) g.summaries); what = e.what }

abbrev pub lacking : Log → List Entry → List Entry
lacking g es = map (as_closed g) (filter (λ e. is_missing g e.number) es)

abbrev pub refill_op : ℕ → List Entry → Option Op
refill_op l [] = None
refill_op l (e ∷ es) = Some (ops.Refill l (e ∷ es))

abbrev pub page_op : Log → ℕ → Body → Option Op
page_op g l (bodies.ReadPage round from upto clean es) = if clean then refill_op l (lacking g es) else None
page_op g l (bodies.ReadTrim round from trim) = if nat_lt g.trim trim then Some (ops.Trim l trim) else None
page_op g l _ = None

unfoldable pub on_page : Log → ℕ → Body → Handled
on_page g l b = record { op = if g.lost then page_op g l b else None; answer = None }

-- ---- asks for what is missing ----

-- asks of a node go to the other nodes of the set, and have round 0
abbrev pub node_asks : ℕ → List ℕ → ℕ → List (ℕ × Body)
node_asks n set from = to_each (bodies.ReadAsk 0 from) (without (n ∷ []) set)

abbrev pub asks_first : ℕ → List ℕ → List ℕ → List (ℕ × Body)
asks_first n set [] = []
asks_first n set (s ∷ ss) = node_asks n set s

-- a lost node asks from the lowest missing number on
unfoldable pub refill_asks : ℕ → List ℕ → Log → List (ℕ × Body)
refill_asks n set g = if g.lost then asks_first n set (missing g) else []

-- ---- a tick ----

-- the lowest epoch that is not clean here, from one on
abbrev pub gap_from : ℕ → List (ℕ × Summary) → ℕ
gap_from e [] = e
gap_from e (s ∷ ss) = if s.0 == e then gap_from (e + 1) ss else e

abbrev pub lowest_unclean : Log → ℕ
lowest_unclean g = gap_from 1 g.summaries

-- what a look makes a node do
pub data Ticked : Type 0 where
  Cleans : (epoch : ℕ) (summary : Summary) → Ticked
  Rebuilt : Ticked
  Asks : (from : ℕ) → Ticked
  Nothing : Ticked

abbrev pub refill_tick : Bool → List ℕ → Ticked
refill_tick all_clean [] = if all_clean then Rebuilt else Nothing
refill_tick all_clean (s ∷ ss) = Asks s

abbrev pub lost_tick : Log → Ticked
lost_tick g = if g.lost then refill_tick (nat_lt g.lost_to (lowest_unclean g)) (missing g) else Nothing

abbrev pub tick_with : Log → Option Summary → Ticked
tick_with g None = lost_tick g
tick_with g (Some y) = Cleans (lowest_unclean g) y

-- the register's summaries of the closed epochs are told
unfoldable pub on_tick : Log → List (ℕ × Summary) → Ticked
on_tick g closed = tick_with g (find (lowest_unclean g) closed)

-- epochs up to the lost one are clean and nothing is missing
abbrev pub is_full : Log → Bool
is_full g = nat_lt g.lost_to (lowest_unclean g) && nat_le (length (missing g)) 0
