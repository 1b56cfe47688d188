-- The made schedule.
use Rattle.std.specs.Prelude.{ℕ, zero, suc, ◌+◌, ◌-◌, ◌%◌, ◌^◌, min, List, [], ◌∷◌, ◌++◌, Bool, if◌then◌else◌}
use Rattle.ld_lsn.specs.Number.{numbered, last_esn}
use Rattle.ld_ids.specs.Set.{no_nodes, with_node}
use Rattle.ld_schedule.specs.declared.event.Event.{Event}
use Rattle.ld_schedule.specs.declared.event.Event.TheVariants.{Activate, Open, Format}
use Rattle.ld_config.specs.declared.config.Config.{Config}
use Rattle.ld_maker.specs.Draw.{drawn, value_of}
use Rattle.ld_maker.specs.Event.{sequencer_name, reader_name, event_of, is_activation}
use Rattle.ld_maker.specs.declared.maker.Maker.{Maker}

-- the nodes 1 to 5
abbrev pub five_nodes : List Bool
five_nodes = with_node 5 (with_node 4 (with_node 3 (with_node 2 (with_node 1 no_nodes))))

-- one log on five nodes, with three copies and one node more that is asked
abbrev pub made_config : Config
made_config = record { nodes = five_nodes; logs = record { log = 1; set = five_nodes; r = 3; extras = 1 } ∷ [] }

-- the first sequencer begins
abbrev pub first_activation : Event
first_activation = Activate (sequencer_name 0) 1

-- the one reader begins, with all numbers from the first to the last
abbrev pub opening : Event
opening = Open reader_name 1 (numbered 0 1) (numbered last_esn last_esn)

-- all nodes are formatted, and the first sequencer and the one reader begin
abbrev pub first_events : List Event
first_events = Format 1 ∷ Format 2 ∷ Format 3 ∷ Format 4 ∷ Format 5 ∷ first_activation ∷ opening ∷ []

-- the maker behind the first events
abbrev pub begin : ℕ → Maker
begin seed = record { state = seed; activations = 1 }

-- the value of its first draw, modulo 100, which chooses the event
abbrev pub kind_of : Maker → ℕ
kind_of maker = value_of (drawn maker.state) % 100

-- the event that it makes
abbrev pub next_event : Maker → Event
next_event maker = event_of (kind_of maker) (value_of (drawn (drawn maker.state))) maker.activations

-- the activations with one more; the count stands still at the end of its 32 bits
abbrev pub one_more : ℕ → ℕ
one_more a = min (a + 1) (2 ^ 32 - 1)

-- the maker behind it: two draws further
abbrev pub next_maker : Maker → Maker
next_maker maker =
    record {
      state = drawn (drawn maker.state);
      activations = if is_activation (kind_of maker) then one_more maker.activations else maker.activations;
    }

-- so many events
unfoldable pub made_from : Maker → ℕ → List Event
made_from maker zero = []
made_from maker (suc n) = next_event maker ∷ made_from (next_maker maker) n

-- the events of the made schedule of this seed
abbrev pub made : ℕ → ℕ → List Event
made seed m = first_events ++ made_from (begin seed) m
