use Rattle.std.proofs.Common.{◌≡◌, ◌∷◌, ◌++◌, [], ◌∙◌, ap, sym, subst, arith, map}
use Rattle.std.proofs.lemmas.Grind.{common_steps}
use Rattle.ld_ids.specs.Set.{members}
use Rattle.ld_msg.specs.Digest.{told_nothing}
use Rattle.ld_digest.specs.Gathering.{nodes_told, IsInPlace}
use Rattle.ld_table.proofs.Places.{there_is}
use Rattle.ld_digest.proofs.Changed.{one_more, nodes_nothing, nothing_in_place}
use Rattle.ld_digest.proofs.digest.Digest.new.Goals as goal
use Rattle.ld_digest.proofs.digest.Digest.new.Goals.{in-Some+in_ok-push, in_default}

pub loop-place-preserved : goal.loop-place-preserved
loop-place-preserved c = elim c.match-nth.branch [
  | in-Some+in_ok-push w ↦
      let more = one_more c.args.epoch (members c.args.spec.now.set) c.loop-place.place w.in-Some.node c.loop-place.told.items (sym w.in-Some.ensures.node) in
      let one : c.match-nth.told.items ≡ c.loop-place.told.items ++ told_nothing c.args.epoch w.in-Some.node ∷ [] = rw w.told-is (rw w.nothing.ensures at w.in_ok-push.ensures.items) in
      rw one (more ∙ c.loop-place.invariant)
  | in_default w ↦ absurd (there_is (members c.args.spec.now.set) c.loop-place.place (omega arith) (sym w.in_default.ensures.node))
]

pub invariant_of-result : goal.invariant_of-result
invariant_of-result c =
    let all : c.loop-place.told.items ≡ map (told_nothing c.args.epoch) (members c.args.spec.now.set) = grind (arith, common_steps) in
    (ap nodes_told all ∙ nodes_nothing c.args.epoch (members c.args.spec.now.set), subst IsInPlace (sym all) (nothing_in_place c.args.epoch (members c.args.spec.now.set)))
