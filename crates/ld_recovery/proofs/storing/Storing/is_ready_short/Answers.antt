use Rattle.std.proofs.Common.{◌≡◌, ◌∙◌, ap, sym, arith, length, Bool, ℕ}
use Rattle.std.specs.Prelude.{◌&&◌}
use Rattle.ld_table.specs.Words.{all_of}
use Rattle.ld_ids.specs.Set.{members}
use Rattle.ld_table.proofs.Places.{there_is}
use Rattle.ld_node_bounds.proofs.Members.{members_nodes}
use Rattle.ld_msg.specs.Sequencer.{Storing, is_ready_short}
use Rattle.ld_recovery.specs.Planning.{Plans}
use Rattle.ld_recovery.proofs.Counting.{is_done, one_done, all_done, ready_by_counts}
use Rattle.ld_recovery.proofs.storing.Storing.is_ready_short.Goals as goal
use Rattle.ld_recovery.proofs.storing.Storing.is_ready_short.Goals.{in-Some+then-each, in-Some+else-each, in_default}

pub nodes-preserved : goal.nodes-preserved
nodes-preserved c =
    let a = c.self.inside in
    let ns = members a.spec.set in
    let many = length a.items.items in
    elim c.match-nth.branch [
      | in-Some+then-each w ↦
          let y = w.in-Some.node in
          let len : w.len.result ≡ many = omega (arith, w.len.ensures, a.items.ok) in
          one_done c.args.lost.now a.settled ns many c.nodes.place y c.nodes.each c.match-nth.each (all_of (is_done c.args.lost.now a.settled many) ns) (sym w.in-Some.ensures.node)
          (w.each-is ∙ (w.is_done-each.ensures ∙ (ap (λ (n : ℕ). is_done c.args.lost.now a.settled n y) len ∙ ap (λ (b : Bool). b && is_done c.args.lost.now a.settled many y) (sym w.if-each.true)))) c.nodes.invariant
      | in-Some+else-each w ↦
          let y = w.in-Some.node in
          one_done c.args.lost.now a.settled ns many c.nodes.place y c.nodes.each c.match-nth.each (all_of (is_done c.args.lost.now a.settled many) ns) (sym w.in-Some.ensures.node)
          (w.each-is ∙ (w.if-each.false ∙ ap (λ (b : Bool). b && is_done c.args.lost.now a.settled many y) (sym w.if-each.false))) c.nodes.invariant
      | in_default w ↦ absurd (there_is ns c.nodes.place (omega (arith, c.nodes-test.true, c.len-place-end.ensures.count)) (sym w.in_default.ensures.node))
    ]

pub returns : goal.returns
returns c =
    let a = c.self.inside in
    let ns = members a.spec.set in
    let g : Storing = record { trim = a.trim; lng = a.lng; end = a.end; loss = a.loss; items = a.items.items; wave = a.wave } in
    all_done c.args.lost.now a.settled ns (length a.items.items) c.nodes.place c.nodes.each (omega (arith, c.nodes-test.false, c.len-place-end.ensures.count)) c.nodes.invariant
    ∙ (ready_by_counts a.spec c.args.lost.now a.settled g (members_nodes a.spec.set c.len-place-end.ensures.set) c.self.invariant.counted
    ∙ ap (λ (p : Plans). is_ready_short p.spec c.args.lost.now p.storing) c.self.view_is)
