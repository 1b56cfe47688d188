-- An append that waits for its nodes: its number, on how many nodes it is to be stored, and what stands of it so far.
use Rattle.std.specs.Prelude.{ℕ, List, length, Bool, nat_le}
use Rattle.ld_msg.specs.Sequencer.{Append, stored_at, fresh_append, next_wave}

pub record Waiting : Type 0 where
  pub number : ℕ
  pub factor : ℕ
  pub append : Append

abbrev pub starts : ℕ → List ℕ → ℕ → Waiting
starts number payload factor = record { number = number; factor = factor; append = fresh_append payload }

-- a node stored it
abbrev pub with_stored : Waiting → ℕ → Waiting
with_stored w node = record w { append = stored_at w.append node }

-- it is sent in the next wave
abbrev pub with_next_wave : Waiting → Waiting
with_next_wave w = record w { append = record w.append { wave = next_wave w.append.wave } }

-- it is stored on enough nodes
abbrev pub is_enough : Waiting → Bool
is_enough w = nat_le w.factor (length w.append.stored)
