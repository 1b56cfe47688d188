use Rattle.std.proofs.Common.{◌≡◌, ◌∙◌, arith}
use Rattle.ld_operate.specs.Asked.{past_epoch}
use Rattle.ld_operate.proofs.Groups.{states_none, states_more, states_cut, states_past, lt_test, ge_test}
use Rattle.ld_operate.proofs.nodes.show_states.Goals as goal
use Rattle.ld_operate.proofs.nodes.show_states.Goals.{then-value+in_ok-answered+else-not-answered, else-value}

pub loop-epoch-init : goal.loop-epoch-init
loop-epoch-init g c = record { heard = states_none; later = (omega arith, omega arith); output = omega arith; quiet = λ h. h; most = omega arith }

pub returns-then-not-answered-clause-heard : goal.returns-then-not-answered-clause-heard
returns-then-not-answered-clause-heard g c =
    states_cut c.in_ok-answered.ensures.quiet c.args.last c.loop-epoch.auto.epoch (omega arith) c.loop-epoch.invariant.heard (rw c.if-not-answered.true at c.in_ok-answered.ensures.heard)

pub loop-epoch-preserved : goal.loop-epoch-preserved
loop-epoch-preserved g c =
    let trim : c.value.result ≡ c.args.trim = c.value.ensures in
    elim c.if-value.branch [
      | then-value+in_ok-answered+else-not-answered w ↦
          let past : c.value-in-loop-epoch.result ≡ past_epoch c.loop-epoch.epoch = c.value-in-loop-epoch.ensures ∙ c.new.ensures in
          rw (w.nodes-is, w.out-is) (record {
            heard = states_more w.in_ok-answered.ensures.quiet c.loop-epoch.auto.epoch (lt_test c.args.trim (past_epoch c.loop-epoch.epoch) c.value.result c.value-in-loop-epoch.result trim past w.if-value.true)
                c.loop-epoch.invariant.heard (rw w.if-not-answered.false at w.in_ok-answered.ensures.heard);
            later = (omega (arith, w.in_ok-answered.ensures.later.0, c.loop-epoch.invariant.later.0), omega (arith, w.in_ok-answered.ensures.later.1, c.loop-epoch.invariant.later.1));
            output = omega (arith, w.in_ok-answered.ensures.output, c.loop-epoch.invariant.output);
            quiet = λ h. w.in_ok-answered.ensures.quiet (c.loop-epoch.invariant.quiet h);
            most = omega arith;
          })
      | else-value w ↦
          let past : c.value-in-loop-epoch.result ≡ past_epoch c.loop-epoch.epoch = c.value-in-loop-epoch.ensures ∙ c.new.ensures in
          rw (w.nodes-is, w.out-is) (record {
            heard = states_past c.loop-epoch.auto.epoch (ge_test c.args.trim (past_epoch c.loop-epoch.epoch) c.value.result c.value-in-loop-epoch.result trim past w.if-value.false) c.loop-epoch.invariant.heard;
            later = c.loop-epoch.invariant.later;
            output = c.loop-epoch.invariant.output;
            quiet = c.loop-epoch.invariant.quiet;
            most = omega arith;
          })
    ]
