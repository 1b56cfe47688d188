use Rattle.std.proofs.Common.{◌≡◌, ◌-◌, ◌++◌, List, arith, ap, sym, ◌∙◌, drop, get_or, length}
use Rattle.ld_ids.specs.declared.set.Spec.{Spec}
use Rattle.ld_machine.specs.Calm.{Left, left_for}
use Rattle.ld_cluster.specs.Calming.{left_in}
use Rattle.ld_cluster.specs.Standing.{config_of}
use Rattle.ld_cluster.proofs.Listing.{for_specs, no_log, one_log}
use Rattle.ld_cluster.proofs.cluster.Cluster.all_parts.Goals as goal

pub logs-init : goal.logs-init
logs-init c = (omega (arith, ap length c.as_slice-specs.ensures), λ s p. ap left_in c.new-left.ensures.items ∙ no_log (config_of c.args.self.now) s c.args.self.now.config.logs (length c.as_slice-specs.result.now) (ap length c.as_slice-specs.ensures))

pub logs-preserved : goal.logs-preserved
logs-preserved c = (
  omega (arith, c.logs.invariant.0),
  λ s p.
      let old : List Left = left_in c.logs.left.items in
      let added : left_in c.add_log.new.left.items ≡ left_for (config_of c.args.self.now) s (get_or c.as_slice-specs.result.now (c.logs.place - 1) c.index-specs-place.result).log ++ old = c.in_ok-add_log.ensures s p in
      one_log (config_of c.args.self.now) s c.args.self.now.config.logs c.as_slice-specs.result.now c.logs.place (c.logs.place - 1) c.index-specs-place.result old (left_in c.add_log.new.left.items)
      c.as_slice-specs.ensures (omega (arith, ap length c.as_slice-specs.ensures, c.logs.invariant.0, c.logs-test.true)) c.index-specs-place.is (omega (arith, c.logs-test.true)) (c.logs.invariant.1 s p)
      (added ∙ ap (λ (x : Spec). left_for (config_of c.args.self.now) s x.log ++ old) (sym c.index-specs-place.is)),
)

pub returns : goal.returns
returns c = λ s p. c.logs.invariant.1 s p ∙ ap (λ n. for_specs (config_of c.args.self.now) s (drop n c.args.self.now.config.logs)) (let e : c.logs.place ≡ 0 = omega (arith, c.logs-test.false) in e)
