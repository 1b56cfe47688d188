use Rattle.std.proofs.Common.{◌≡◌, length, take}
use Rattle.serde_json.specs.View.{view}
use Rattle.ld_ids.specs.Set.{members}
use Rattle.ld_words.specs.Meaning.{AreAddressesIn}
use Rattle.ld_words.proofs.reach.addresses_in.Given as goal

abbrev pub invariant-loop-place : goal.invariant-loop-place
invariant-loop-place l = (l.place-end ≡ length (members l.nodes)) × AreAddressesIn (view l.object) (take l.place (members l.nodes)) l.addresses
