-- What is held of the peers of a crowd.
use Rattle.std.specs.Prelude.{ℕ, List, Option}
use Rattle.std.specs.Option.{option_map}
use Rattle.std.specs.Ordering.{nat_cmp}
use Rattle.std.specs.BTreeMap as tree
use Rattle.std.specs.BTreeMap.{BTreeMap}
use Rattle.ld_serve.specs.declared.chats.Chat.{Chat}

-- by number; none of one that isn't there
abbrev pub held_in : BTreeMap ℕ Chat → ℕ → Option (List ℕ)
held_in chats peer = option_map (λ (c : Chat). c.decoder.bytes) (tree.get nat_cmp chats peer)
