-- A reader with the first nodes, factor and extras of its log, and what it does.
use Rattle.std.specs.Prelude.{◌≡◌, ℕ, Bool, false, not, ◌&&◌, nat_lt, List, [], ◌∷◌, ◌++◌, if◌then◌else◌}
use Rattle.ld_ids.specs.declared.set.Spec.{Spec}
use Rattle.ld_msg.specs.declared.msg.Who.{Who}
use Rattle.ld_msg.specs.declared.msg.Who.TheVariants as whos
use Rattle.ld_msg.specs.declared.msg.Body.{Body}
use Rattle.ld_msg.specs.declared.msg.Msg.{Msg}
use Rattle.ld_msg.specs.Register.{View}
use Rattle.ld_msg.specs.Reader.{Reader, Read, is_finished, polled, poll_asks, nothing_read, on_answer, round_of, heard, is_confirmed, confirming_with, tells_missing, missing_with, confirms, asks_all, next_round}
use Rattle.ld_msg.specs.Reading.{Item}
use Rattle.ld_reader.specs.declared.round.Ending.{Ending}
use Rattle.ld_reader.specs.declared.round.Ending.TheVariants as endings
use Rattle.ld_reader.specs.Clipped.{all_clipped}

-- first counts where the register shows none
pub record Following : Type 0 where
  pub first : Spec
  pub reader : Reader

-- messages of the log's reader of this place, each to a node
abbrev pub messages_from : ℕ → ℕ → List (ℕ × Body) → List Msg
messages_from number log [] = []
messages_from number log (b ∷ bs) = record { from = whos.Reader number; to = whos.Node b.0; log = log; body = b.1 } ∷ messages_from number log bs

-- a reader that is finished asks no more
abbrev pub asked : (ℕ → View) → Reader → Read
asked looks d = record {
  reader = if is_finished d then d else polled looks d;
  items = [];
  asks = if is_finished d then [] else poll_asks looks d;
  anew = false;
}

-- after the items: the lost nodes are asked once more, or all nodes anew, or under a new round where there is need
abbrev pub going_on : (ℕ → View) → Ending → Read → Read
going_on looks (endings.Confirms lost) a = next_round looks (confirms looks a lost)
going_on looks endings.AsksAll a = asks_all looks a
going_on looks endings.NotYet a = next_round looks a

abbrev pub read_so_far : Reader → List (ℕ × Item) → Read
read_so_far d items = record { reader = d; items = items; asks = []; anew = false }

-- a message does nothing to a reader that is finished, or where it comes from no node
abbrev pub answered : (ℕ → View) → Reader → Who → Body → Read
answered looks d (whos.Node y) body = if is_finished d then nothing_read d else on_answer looks d y body
answered looks d _ body = nothing_read d

-- what a message does to a reader of a log
abbrev pub replied : (ℕ → View) → Following → Msg → Read
replied looks f m = answered looks f.reader m.from m.body

-- whether a message confirms that the next number is lost: before that loss a look is made
abbrev pub confirms_by : Reader → Who → Body → Bool
confirms_by d (whos.Node y) body = (not (is_finished d) && not (nat_lt (round_of body) d.least)) && is_confirmed (heard d y body).confirming
confirms_by d _ body = false

abbrev pub confirms_next : Following → Msg → Bool
confirms_next f m = confirms_by f.reader m.from m.body

-- what an answer does to a confirmation
abbrev pub noted : Reader → ℕ → Body → Reader
noted d y body = record d { confirming = confirming_with d.confirming y body }

-- and to what was noted of its node
abbrev pub missed : Reader → ℕ → Body → Reader
missed d y body = record d { missing = if tells_missing d y body then missing_with d.missing y body else d.missing }

abbrev pub with_reader : Following → Reader → Following
with_reader f d = record f { reader = d }

-- a call has done this, given its items and sent its asks
pub record HasDone (before after : Following) (items : List (ℕ × Item)) (old new : List Msg) (a : Read) : Type 0 where
  pub reader : after ≡ with_reader before a.reader
  pub gave : items ≡ all_clipped before.reader.until a.items
  pub sent : new ≡ old ++ messages_from before.reader.number before.reader.log a.asks
