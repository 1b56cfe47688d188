-- A link in memory, as contracts see it.
use Rattle.std.specs.Prelude.{ℕ, ◌-◌, min, List, length, Bool, true, not, ◌==◌, ◌&&◌, if◌then◌else◌, ◌++◌, Option, None, Some}
use Rattle.ld_io.specs.Memory.{is_listed}
use Rattle.ld_past.specs.Events.{Event}
use Rattle.ld_link.specs.Peers.{Talk, Peers, as_list}

-- its calls that answered, its peers, how many bytes each of them takes, how many calls there were, which calls are to fail, and how many have failed
pub record LinkState : Type 0 where
  pub did : List Event
  pub peers : Peers
  pub room : ℕ
  pub calls : ℕ
  pub fails : List ℕ
  pub faults : ℕ

-- the next call isn't one of those that are to fail
abbrev pub call_succeeds : LinkState → Bool
call_succeeds s = not (is_listed s.calls s.fails)

-- how many bytes of a piece the present peer takes: none where there is no peer
abbrev pub taken : ℕ → Option Talk → List ℕ → ℕ
taken room None piece = 0
taken room (Some t) piece = min (room - length t.sent) (length piece)

-- the next write succeeds: it isn't listed, and takes a byte where there is one
abbrev pub write_succeeds : LinkState → List ℕ → Bool
write_succeeds s piece = call_succeeds s && (if taken s.room s.peers.present piece == 0 then length piece == 0 else true)

-- the talks with all peers that have come, in their order
abbrev pub talks : Peers → List Talk
talks p = p.past ++ as_list p.present

-- what was written to a peer, and how much may be
pub record Page : Type 0 where
  pub bytes : List ℕ
  pub room : ℕ

-- a peer that is still to come: its bytes, and how much may be written to it
pub record Caller : Type 0 where
  pub bytes : List ℕ
  pub room : ℕ

-- the talk with a peer, and how much may be written to it
pub record Line : Type 0 where
  pub talk : Talk
  pub room : ℕ
