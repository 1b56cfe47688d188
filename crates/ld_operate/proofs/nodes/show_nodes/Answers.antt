use Rattle.std.proofs.Common.{◌≡◌, ◌∙◌, ◌+◌, ◌-◌, List, ℕ, Some, sym, subst, arith}
use Rattle.std.specs.List.{slice_get}
use Rattle.ld_ids.specs.Set.{members}
use Rattle.ld_operate.specs.Heard.{HeardAll}
use Rattle.ld_operate.proofs.Numbers.{took}
use Rattle.ld_operate.proofs.Groups.{none_heard, one_more_heard, broken_more}
use Rattle.ld_operate.proofs.nodes.show_nodes.Goals as goal

pub loop-place-init : goal.loop-place-init
loop-place-init g c = (c.len-place-end.ensures.count, record { heard = none_heard; broken = λ h. absurd cc; later = (omega arith, omega arith); output = omega arith; quiet = λ h. h })

pub loop-place-preserved : goal.loop-place-preserved
loop-place-preserved g c =
    let before = c.loop-place.invariant.1 in
    let at : slice_get (members c.args.set.now) c.loop-place.place ≡ Some c.in-Some.node = sym c.nth.ensures.node ∙ c.in-Some.is in (
      c.loop-place.invariant.0,
      record {
        heard = subst (λ (l : List ℕ). HeardAll c.args.json (g.N.Nodes.tells c.args.nodes.now) (g.N.Nodes.tells c.show_node.new.nodes) (g.N.Nodes.silent c.show_node.new.nodes) c.args.log c.args.first (c.args.last + 1 - c.args.first) l (g.O.Sink.written c.args.out.now) (g.O.Sink.written c.show_node.new.out) c.both-whole.result)
            (sym (took c.loop-place.place c.in-Some.node (members c.args.set.now) at))
            (one_more_heard c.both-whole.result c.in_ok-answered.ensures.quiet c.both-whole.ensures before.heard c.in_ok-answered.ensures.heard);
        broken = broken_more _ _ _ _ _ _ c.loop-place.whole c.in_ok-answered.answered c.both-whole.result c.both-whole.ensures before.broken c.in_ok-answered.ensures.broken before.later c.in_ok-answered.ensures.later;
        later = (omega (arith, c.in_ok-answered.ensures.later.0, before.later.0), omega (arith, c.in_ok-answered.ensures.later.1, before.later.1));
        output = omega (arith, c.in_ok-answered.ensures.output, before.output);
        quiet = λ h. c.in_ok-answered.ensures.quiet (before.quiet h);
      },
    )
