use Rattle.std.proofs.Common.{◌≡◌, ◌++◌, ◌∷◌, [], ◌∙◌, ap, sym, arith, length-append}
use Rattle.std.proofs.lemmas.List.Elements.{All-push}
use Rattle.ld_ids.specs.Set.{members}
use Rattle.ld_msg.specs.Bounds.{IsMessage}
use Rattle.ld_table.proofs.Places.{there_is}
use Rattle.ld_reader.proofs.Asking.{asking, asked_one, keeps_front}
use Rattle.ld_reader.proofs.asks.Ask.add_each.Goals as goal
use Rattle.ld_reader.proofs.asks.Ask.add_each.Goals.{in-Some+in_ok-push, in_default}

pub loop-place-preserved : goal.loop-place-preserved
loop-place-preserved c = elim c.match-nth.branch [
  | in-Some+in_ok-push w ↦
      let s = c.args.self.now in
      let m = asking s.reader s.log s.senders c.args.round s.from w.in-Some.node in
      let sent : c.match-nth.list.items ≡ c.loop-place.list.items ++ m ∷ [] = rw w.list-is (w.in_ok-push.ensures.items ∙ ap (λ k. c.loop-place.list.items ++ k ∷ []) w.message_to.ensures.exact) in
      let more = asked_one s.reader s.log s.senders c.args.round s.from (members c.args.nodes.now) c.loop-place.place w.in-Some.node c.loop-place.list.items (sym w.in-Some.ensures.node) in
      record {
        all = rw sent (more ∙ c.loop-place.invariant.all);
        longer = rw sent (omega (arith, length-append c.loop-place.list.items (m ∷ [])));
        front = λ n h. rw sent (keeps_front n c.loop-place.list.items m (omega (arith, h, c.loop-place.invariant.longer)) ∙ c.loop-place.invariant.front n h);
        messages = λ h. rw w.list-is (rw w.in_ok-push.ensures.items (All-push IsMessage c.loop-place.list.items w.message_to.result (c.loop-place.invariant.messages h) w.message_to.ensures.message));
      }
  | in_default w ↦ absurd (there_is (members c.args.nodes.now) c.loop-place.place (omega arith) (sym w.in_default.ensures.node))
]
