use Rattle.std.proofs.Common.{◌≡◌, ◌++◌, ◌+◌, ◌∷◌, [], List, drop, ◌∙◌, ap, sym, arith}
use Rattle.ld_msg.specs.declared.msg.Msg.{Msg}
use Rattle.ld_msg.specs.declared.msg.What.{What}
use Rattle.ld_msg.specs.declared.msg.Body.TheVariants.{Store}
use Rattle.ld_msg.specs.Sequencer.{to_each}
use Rattle.ld_recovery.specs.Sending.{sent, what_of}
use Rattle.ld_recovery.proofs.Begins.{begins_on}
use Rattle.ld_table.proofs.Places.{there_is}
use Rattle.ld_recovery.proofs.Posting.{told_one}
use Rattle.ld_recovery.proofs.send.Sender.send_each.Goals as goal
use Rattle.ld_recovery.proofs.send.Sender.send_each.Goals.{in-Some+in_ok-what+in_ok-send, in_default}

pub nodes-preserved : goal.nodes-preserved
nodes-preserved c = elim c.match-nth.branch [
  | in-Some+in_ok-what+in_ok-send w ↦
      let s = c.args.self.now in
      let b = Store c.args.number c.args.lng (what_of c.args.stored.now) in
      let one : c.match-nth.out ≡ c.nodes.out ++ sent s (to_each b (w.in-Some.node ∷ [])) = rw w.out-is (w.in_ok-send.ensures.sent ∙ ap (λ (x : What). c.nodes.out ++ sent s ((w.in-Some.node, Store c.args.number c.args.lng x) ∷ [])) w.in_ok-what.ensures) in
      record {
        left = ap (λ (r : List Msg). r ++ sent s (to_each b (drop (c.nodes.place + 1) c.args.nodes.now))) one ∙ (told_one s b c.args.nodes.now c.nodes.place w.in-Some.node c.nodes.out (sym w.in-Some.ensures.node) ∙ c.nodes.invariant.left);
        begun = begins_on c.args.out.now c.nodes.out _ c.match-nth.out one c.nodes.invariant.begun;
      }
  | in_default w ↦ absurd (there_is c.args.nodes.now c.nodes.place (omega (arith, c.nodes-test.true, c.len-place-end.ensures.count)) (sym w.in_default.ensures.node))
]
