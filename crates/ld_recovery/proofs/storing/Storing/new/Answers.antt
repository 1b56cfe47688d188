use Rattle.std.proofs.Common.{◌≡◌, List, length, ap, sym, subst, arith}
use Rattle.ld_msg.specs.Bounds.{IsLng}
use Rattle.ld_msg.specs.Digest.{Item, Plan}
use Rattle.ld_msg.specs.Sequencer.{planned}
use Rattle.ld_recovery.specs.Planning.{AreFrom}
use Rattle.ld_recovery.proofs.Settling.{at_first}
use Rattle.ld_recovery.proofs.Marking.{none_marked}
use Rattle.ld_recovery.proofs.Counting.{none_counted}
use Rattle.ld_recovery.proofs.storing.Storing.new.Goals as goal

pub invariant_of-result : goal.invariant_of-result
invariant_of-result c =
    let i = at_first c.args.spec.now.r c.len-lacking.result c.first_number-first.result c.into_vec-items.result.items c.in_ok-items.items.items c.requires.factor c.in_ok-items.ensures
    (let n : c.len-lacking.result ≡ length c.in_ok-items.items.items = omega (arith, c.len-lacking.ensures, c.in_ok-items.items.ok) in n)
    (subst (λ (l : List Item). AreFrom c.first_number-first.result (planned l)) c.deref.ensures.value c.first_number-first.ensures) in
    record { numbers = i.1; lack = i.0; good = subst IsLng (sym (ap (λ (p : Plan). p.lng) c.plan.view_is)) c.requires.lng; some = omega (arith, c.requires.end, ap (λ (p : Plan). p.end) c.plan.view_is); marked = none_marked c.none.result c.in_ok-items.items.items c.none.ensures.each; counted = none_counted c.none-2.result c.into_vec-items.result.items c.in_ok-items.items.items c.in_ok-items.ensures c.none-2.ensures.each }
