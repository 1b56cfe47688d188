use Rattle.std.proofs.Common.{◌≡◌, ◌++◌, ◌+◌, ◌∷◌, [], List, drop, ◌∙◌, ap, sym, arith}
use Rattle.ld_ids.specs.Set.{members}
use Rattle.ld_msg.specs.declared.msg.Msg.{Msg}
use Rattle.ld_msg.specs.declared.msg.What.{What}
use Rattle.ld_msg.specs.declared.msg.Body.TheVariants.{Store}
use Rattle.ld_msg.specs.Sequencer.{to_each}
use Rattle.ld_recovery.specs.Sending.{sent}
use Rattle.ld_recovery.proofs.Begins.{begins_on}
use Rattle.ld_table.proofs.Places.{there_is}
use Rattle.ld_recovery.proofs.Posting.{left_of, left_one, left_none}
use Rattle.ld_recovery.proofs.send.Sender.send_left.Goals as goal
use Rattle.ld_recovery.proofs.send.Sender.send_left.Goals.{in-Some+then-has+in_ok-what+in_ok-send, in-Some+else-has, in_default}

pub nodes-preserved : goal.nodes-preserved
nodes-preserved c = elim c.match-nth.branch [
  | in-Some+then-has+in_ok-what+in_ok-send w ↦
      let s = c.args.self.now in
      let l = c.args.left.now in
      let b = Store c.args.number c.args.lng c.args.what.now in
      let one : c.match-nth.out ≡ c.nodes.out ++ sent s (to_each b (w.in-Some.node ∷ [])) = rw w.out-is (w.in_ok-send.ensures.sent ∙ ap (λ (x : What). c.nodes.out ++ sent s ((w.in-Some.node, Store c.args.number c.args.lng x) ∷ [])) w.in_ok-what.ensures) in
      record {
        left = ap (λ (r : List Msg). r ++ sent s (to_each b (left_of l.lost.now l.settled.now (drop (c.nodes.place + 1) (members l.set.now))))) one
            ∙ (left_one s b l.lost.now l.settled.now (members l.set.now) c.nodes.place w.in-Some.node c.nodes.out (sym w.in-Some.ensures.node) (sym w.has.ensures ∙ w.if-has.true) ∙ c.nodes.invariant.left);
        begun = begins_on c.args.out.now c.nodes.out _ c.match-nth.out one c.nodes.invariant.begun;
      }
  | in-Some+else-has w ↦
      let s = c.args.self.now in
      let l = c.args.left.now in
      let b = Store c.args.number c.args.lng c.args.what.now in
      record {
        left = ap (λ (r : List Msg). r ++ sent s (to_each b (left_of l.lost.now l.settled.now (drop (c.nodes.place + 1) (members l.set.now))))) w.out-is
            ∙ (left_none s b l.lost.now l.settled.now (members l.set.now) c.nodes.place w.in-Some.node c.nodes.out (sym w.in-Some.ensures.node) (sym w.has.ensures ∙ w.if-has.false) ∙ c.nodes.invariant.left);
        begun = rw w.out-is c.nodes.invariant.begun;
      }
  | in_default w ↦ absurd (there_is (members c.args.left.now.set.now) c.nodes.place (omega (arith, c.nodes-test.true, c.len-place-end.ensures.count)) (sym w.in_default.ensures.node))
]
