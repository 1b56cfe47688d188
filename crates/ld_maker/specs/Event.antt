-- The made event of two draws.
use Rattle.std.specs.Prelude.{ℕ, ◌+◌, ◌-◌, ◌%◌, List, ◌++◌, codes, decimal, Bool, ◌&&◌, nat_le, nat_lt, if◌then◌else◌}
use Rattle.std.specs.Int.{w32, to_be_bytes}
use Rattle.ld_lsn.specs.Number.{numbered}
use Rattle.ld_schedule.specs.declared.event.Event.{Event}
use Rattle.ld_schedule.specs.declared.event.Event.TheVariants.{Activate, Append, Trim, Retry, Deliver, Flow, Poll, Tick, Down, Up, Wipe, Format}

-- the sequencer of this number, counted from 0 in the order of their activations
abbrev pub sequencer_name : ℕ → List ℕ
sequencer_name j = codes "s" ++ decimal j

-- the one reader
abbrev pub reader_name : List ℕ
reader_name = codes "r0"

-- one of the nodes 1 to 5
abbrev pub node_of : ℕ → ℕ
node_of w = 1 + w % 5

-- what happens to a node, from 89 on
abbrev pub node_event : ℕ → ℕ → Event
node_event k node =
    if nat_lt k 91 then Down node else
    if nat_lt k 95 then Up node else
    if nat_lt k 96 then Wipe node else
    if nat_lt k 98 then Format node else
    Tick node 1

-- what a sequencer does, or the next one's activation, 82 to 88; a is how many activations there were before, so the latest sequencer is that of the number a - 1
abbrev pub sequencer_event : ℕ → ℕ → ℕ → Event
sequencer_event k w a =
    if nat_lt k 85 then Retry (sequencer_name (a - 1)) else
    if nat_lt k 87 then Trim (sequencer_name (a - 1)) (numbered a (w % 8)) else
    Activate (sequencer_name a) 1

-- the event of the first draw's value modulo 100, the second draw's value, and how many activations there were before
unfoldable pub event_of : ℕ → ℕ → ℕ → Event
event_of k w a =
    if nat_lt k 30 then Append (sequencer_name (a - 1)) (to_be_bytes w32 w) else
    if nat_lt k 70 then Flow (1 + w % 12) else
    if nat_lt k 78 then Deliver (w % 1000) else
    if nat_lt k 82 then Poll reader_name else
    if nat_lt k 89 then sequencer_event k w a else
    node_event k (node_of w)

-- whether it is an activation
abbrev pub is_activation : ℕ → Bool
is_activation k = nat_le 87 k && nat_lt k 89
