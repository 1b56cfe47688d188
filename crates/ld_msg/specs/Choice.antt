-- The choice of the nodes that a number is sent to in a wave.
use Rattle.std.specs.Prelude.{ℕ, ◌+◌, List, Option, Bool}
use Rattle.ld_ids.specs.Choice.{choice_at, first_left}
use Rattle.ld_ids.specs.declared.set.Spec.{Spec}
use Rattle.ld_lsn.specs.Number.{epoch_of, esn_of}

-- each number begins one node further round the ring, and so does each wave
abbrev pub choice : Spec → List ℕ → ℕ → ℕ → List ℕ
choice s excluded number wave = choice_at s excluded (epoch_of number + esn_of number + wave)

-- the node of a set that alone sends the payload of a number: the first one round the ring that isn't excluded
abbrev pub sender : List Bool → List Bool → ℕ → Option ℕ
sender set excluded number = first_left set excluded (epoch_of number + esn_of number)
