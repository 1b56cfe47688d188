-- Rounds that a reader begins.
use Rattle.std.specs.Prelude.{ℕ, ◌+◌, ◌≡◌, List, [], ◌++◌, length, Option, Some, None, Bool, true, false, ◌&&◌, nat_lt, if◌then◌else◌}
use Rattle.ld_ids.specs.Set.{members, IsSet, IsSubset}
use Rattle.ld_ids.specs.Choice.{nodes_of}
use Rattle.ld_msg.specs.declared.msg.Body.{Body}
use Rattle.ld_msg.specs.Bounds.{share_out}
use Rattle.ld_msg.specs.Register.{View}
use Rattle.ld_msg.specs.Reading.{Verdict, Confirms, AsksAll, NotYet}
use Rattle.ld_msg.specs.Reader.{Reader, Read, Senders, asks_with, asks_of, keys, flags_of, last_round, sees_swap, senders_of, round_ask, asks_on}
use Rattle.ld_reader.specs.declared.round.Ending.{Ending}
use Rattle.ld_reader.specs.declared.round.Ending.TheVariants as endings
use Rattle.ld_reader.specs.declared.round.Round.{Round}
use Rattle.ld_reader.specs.declared.round.Round.TheVariants as rounds

-- ---- rounds in which one node sends each payload ----

-- those that are not to send are nodes of the set, and some are left
pub record IsShared (all out : List Bool) : Type 0 where
  pub set : IsSet all
  pub excluded : IsSet out
  pub subset : IsSubset out all
  pub left : share_out out all ≡ true

-- without these nodes of the set, unless none would be left
abbrev pub shared_out : List Bool → List ℕ → Option Senders
shared_out set out = if nat_lt (length out) (length (members set)) then Some (record { set = set; excluded = flags_of out }) else None

-- ---- what ends the items ----

-- the verdict that ends them
abbrev pub ended : Ending → Verdict
ended (endings.Confirms lost) = Confirms lost
ended endings.AsksAll = AsksAll
ended endings.NotYet = NotYet

-- whether a round begins: lost nodes are asked once more, or there is need of a round and one is left
abbrev pub begins : Ending → Read → Bool
begins (endings.Confirms lost) a = true
begins endings.AsksAll a = nat_lt a.reader.round last_round
begins endings.NotYet a = asks_on a && nat_lt a.reader.round last_round

-- after the last round a confirmation ends where all nodes were to be asked
abbrev pub stayed : Ending → Reader → Reader
stayed (endings.Confirms lost) d = d
stayed endings.AsksAll d = record d { confirming = None }
stayed endings.NotYet d = d

-- where its look shows that sets have changed, the lost nodes are asked with all others; and where an item was given before,
-- that is done twice
abbrev pub round_after : Ending → View → Bool → Reader → Round
round_after (endings.Confirms lost) w gave d = if sees_swap d.seen w then rounds.Over false (gave && nat_lt (d.round + 1) last_round) else rounds.Again lost
round_after endings.AsksAll w gave d = rounds.Over true false
round_after endings.NotYet w gave d = rounds.Over false false

-- ---- a round that begins ----

-- the last one of a round, or of two
abbrev pub round_on : Bool → ℕ → ℕ
round_on twice round = if twice then round + 1 + 1 else round + 1

abbrev pub round_of : Round → ℕ → ℕ
round_of (rounds.Over full twice) round = round_on twice round
round_of (rounds.Again lost) round = round + 1

-- over all nodes
abbrev pub begun_over : View → Bool → Bool → Reader → Reader
begun_over w full twice d = record d {
  round = round_on twice d.round;
  held = if sees_swap d.seen w then [] else d.held;
  confirming = None;
  seen = Some w;
  least = if sees_swap d.seen w then d.round + 1 else d.least;
  senders = senders_of full w d;
}

-- over lost nodes
abbrev pub begun_again : View → List (ℕ × ℕ) → Reader → Reader
begun_again w lost d = record d {
  round = d.round + 1;
  confirming = Some (record { round = d.round + 1; asked = lost; told = [] });
  seen = Some w;
  senders = None;
}

abbrev pub begun : View → Round → Reader → Reader
begun w (rounds.Over full twice) d = begun_over w full twice d
begun w (rounds.Again lost) d = begun_again w lost d

-- the asks of a round, and of the next one where there are two
abbrev pub asks_once : Option Senders → ℕ → ℕ → List ℕ → List (ℕ × Body)
asks_once o round from ys = asks_with (round_ask o round from) ys

abbrev pub asks_twice : Bool → Option Senders → ℕ → ℕ → List ℕ → List (ℕ × Body)
asks_twice twice o round from ys = asks_once o round from ys ++ (if twice then asks_once o (round + 1) from ys else [])

abbrev pub begun_asks : View → Round → Reader → List (ℕ × Body)
begun_asks w (rounds.Over full twice) d = asks_twice twice (senders_of full w d) (d.round + 1) d.next (nodes_of w.spec)
begun_asks w (rounds.Again lost) d = asks_of (d.round + 1) d.next (keys lost)

-- over all nodes, unless no round is left
abbrev pub begun_anew : View → Reader → Reader
begun_anew w d = if nat_lt d.round last_round then begun_over w false false d else record d { confirming = None }

abbrev pub anew_asks : View → Reader → List (ℕ × Body)
anew_asks w d = if nat_lt d.round last_round then begun_asks w (rounds.Over false false) d else []
