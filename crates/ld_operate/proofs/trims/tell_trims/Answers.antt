use Rattle.std.proofs.Common.{◌≡◌, ◌∙◌, List, ℕ, Some, sym, subst, arith}
use Rattle.std.specs.List.{slice_get}
use Rattle.ld_ids.specs.Set.{members}
use Rattle.ld_operate.specs.Heard.{IsBroken}
use Rattle.ld_operate.specs.Trims.{HeardTrims}
use Rattle.ld_operate.proofs.Numbers.{took}
use Rattle.ld_operate.proofs.Groups.{broken_on, broken_since}
use Rattle.ld_operate.proofs.Trimmed.{no_trims, one_more_trim}
use Rattle.ld_operate.proofs.trims.tell_trims.Goals as goal

pub loop-place-init : goal.loop-place-init
loop-place-init g c = (c.len-place-end.ensures.count, record { heard = no_trims; later = (omega arith, omega arith); output = omega arith; quiet = λ h. h })

pub loop-place-preserved : goal.loop-place-preserved
loop-place-preserved g c =
    let before = c.loop-place.invariant.1 in
    let this = c.in_ok-trimmed.ensures in
    let at : slice_get (members c.args.config.now.nodes) c.loop-place.place ≡ Some c.in-Some.node = sym c.nth.ensures.node ∙ c.in-Some.is in (
      c.loop-place.invariant.0,
      record {
        heard = subst (λ (l : List ℕ). HeardTrims (g.N.Nodes.tells c.args.nodes.now) (g.N.Nodes.tells c.tell_trim.new.nodes) (g.N.Nodes.silent c.tell_trim.new.nodes)
            (IsBroken (g.N.Nodes.faults c.args.nodes.now) (g.N.Nodes.faults c.tell_trim.new.nodes) (g.N.Nodes.endings c.args.nodes.now) (g.N.Nodes.endings c.tell_trim.new.nodes))
            c.args.log c.args.upto l (g.O.Sink.written c.args.out.now) (g.O.Sink.written c.tell_trim.new.out) c.both-done.result)
            (sym (took c.loop-place.place c.in-Some.node (members c.args.config.now.nodes) at))
            (one_more_trim c.both-done.result this.quiet (broken_on _ _ _ _ _ _ this.later.0 this.later.1) (broken_since _ _ _ _ _ _ before.later.0 before.later.1) c.both-done.ensures before.heard this.heard);
        later = (omega (arith, this.later.0, before.later.0), omega (arith, this.later.1, before.later.1));
        output = omega (arith, this.output, before.output);
        quiet = λ h. this.quiet (before.quiet h);
      },
    )
