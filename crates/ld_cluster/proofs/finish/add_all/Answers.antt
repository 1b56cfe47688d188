use Rattle.std.proofs.Common.{◌++◌, ◌∷◌, [], ◌∙◌, ap, sym, append_assoc}
use Rattle.ld_cluster.proofs.finish.add_all.Goals as goal

pub loop-line-preserved : goal.loop-line-preserved
loop-line-preserved c = record {
  all = append_assoc c.loop-line.yielded (c.in-Some.line ∷ []) c.next.new.self.rest.items ∙ (ap (λ r. c.loop-line.yielded ++ r) (sym c.in-Some.ensures.steps.0) ∙ c.loop-line.invariant.all);
  lines = c.in_ok-push.ensures.ok ∙ (ap (λ l. l ++ c.in-Some.line ∷ []) c.loop-line.invariant.lines ∙ append_assoc c.args.lines.now c.loop-line.yielded (c.in-Some.line ∷ []));
}
