use Rattle.std.proofs.Common.{◌≡◌, ◌++◌, ◌∷◌, [], ◌∙◌, sym, arith, length-append}
use Rattle.ld_ids.specs.Set.{members}
use Rattle.ld_rebuild.specs.Lacks.{asks_of}
use Rattle.ld_table.proofs.Places.{there_is}
use Rattle.ld_rebuild.proofs.Askings.{asked_one, keeps_front}
use Rattle.ld_rebuild.proofs.asking.add_asks.Goals as goal
use Rattle.ld_rebuild.proofs.asking.add_asks.Goals.{in-Some+in_ok-add_ask, in_default}

pub loop-place-preserved : goal.loop-place-preserved
loop-place-preserved c = elim c.match-nth.branch [
  | in-Some+in_ok-add_ask w ↦
      let s = c.args.ask.now in
      let sent : c.match-nth.list.items ≡ c.loop-place.list.items ++ asks_of s.id s.log s.from (w.in-Some.node ∷ []) = rw w.list-is w.in_ok-add_ask.ensures.ok in
      let more = asked_one s.id s.log s.from (members c.args.nodes.now) c.loop-place.place w.in-Some.node c.loop-place.list.items (sym w.in-Some.ensures.node) in
      let front = keeps_front c.args.list.now.items c.loop-place.list.items (asks_of s.id s.log s.from (w.in-Some.node ∷ [])) c.loop-place.invariant.longer c.loop-place.invariant.front in
      record { all = rw sent (more ∙ c.loop-place.invariant.all); longer = rw sent (omega (arith, length-append c.loop-place.list.items (asks_of s.id s.log s.from (w.in-Some.node ∷ [])))); front = rw sent front; messages = λ h. rw w.list-is (w.in_ok-add_ask.ensures.messages (c.loop-place.invariant.messages h)) }
  | in_default w ↦ absurd (there_is (members c.args.nodes.now) c.loop-place.place (omega arith) (sym w.in_default.ensures.node))
]
