use Rattle.std.proofs.Common.{◌≡◌, ◌+◌, ◌*◌, ◌%◌, ◌^◌, ◌<◌, ◌-◌, ◌∷◌, [], ap, sym, subst, List, arith}
use Rattle.ld_lsn.specs.Number.{esn_of, last_esn}
use Rattle.ld_msg.specs.declared.msg.Entry.{Entry}
use Rattle.ld_digest.specs.Gathering.{AreInPlace}
use Rattle.ld_digest.proofs.Changed.{both_in_place}
use Rattle.ld_tests_protocol.proofs.plan.records.Goals as goal
use Rattle.ld_tests_protocol.proofs.plan.records.Goals.{then-esn-lt-LAST+in_ok-from_slice+in_ok-push, else-esn-lt-LAST}

pub loop-esn-preserved : goal.loop-esn-preserved
loop-esn-preserved c = elim c.if-esn-lt-LAST.branch [
  | then-esn-lt-LAST+in_ok-from_slice+in_ok-push w ↦
      let below : esn_of w.new.result < last_esn = omega (arith, w.new.ensures, w.if-esn-lt-LAST.true) in
      subst AreInPlace (sym w.entries-is) (subst AreInPlace (sym w.in_ok-push.ensures.ok) (both_in_place c.loop-esn.entries (_ ∷ []) c.loop-esn.invariant ((λ n. below), tt)))
  | else-esn-lt-LAST w ↦ subst AreInPlace (sym w.entries-is) c.loop-esn.invariant
]
