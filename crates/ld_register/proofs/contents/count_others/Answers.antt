use Rattle.std.proofs.Common.{◌≡◌, ◌∙◌, ◌+◌, ◌∷◌, ◌++◌, [], map, length, ap, sym, refl, arith, suc, true, false}
use Rattle.std.specs.Map.Iter.{deref_pair}
use Rattle.ld_op.proofs.Pages.{walk_on, walk_end, map_on}
use Rattle.ld_register.proofs.Tables.{others, others-push, others_are, room_to_count}
use Rattle.ld_register.proofs.contents.count_others.Goals as goal

pub logs-init : goal.logs-init
logs-init c = record { all = refl; count = refl }

pub overflow_add-count : goal.overflow_add-count
overflow_add-count c = let e = ap (λ n. n + 1) c.logs.invariant.count in let h = room_to_count c.args.log c.len-size.result (map deref_pair c.logs.yielded) c.next.new.self c.into_iter-number-iterator.result (deref_pair (c.in-Some.number, c.in-Some.state))
    (ap (λ t. map deref_pair c.logs.yielded ++ t) (sym c.in-Some.ensures.steps) ∙ c.logs.invariant.all) (ap length c.into_iter-number-iterator.ensures.into_iter_gives.0 ∙ sym c.len-size.ensures.len) c.len-size.ensures.small in omega arith

pub logs-preserved-then-is_other : goal.logs-preserved-then-is_other
logs-preserved-then-is_other c = record {
  all = walk_on deref_pair c.logs.yielded (c.in-Some.number, c.in-Some.state) c.logs.number-iterator c.next.new.self _ c.logs.invariant.all c.in-Some.ensures.steps;
  count = let p : others c.args.log (map deref_pair (c.logs.yielded ++ (c.in-Some.number, c.in-Some.state) ∷ [])) ≡ suc (others c.args.log (map deref_pair c.logs.yielded)) = ap (others c.args.log) (map_on deref_pair c.logs.yielded (c.in-Some.number, c.in-Some.state)) ∙ others-push c.args.log (map deref_pair c.logs.yielded) (deref_pair (c.in-Some.number, c.in-Some.state)) true (sym c.if-is_other.true ∙ c.is_other.ensures) in omega (arith, c.logs.invariant.count, p);
}

pub logs-preserved : goal.logs-preserved
logs-preserved c = record {
  all = walk_on deref_pair c.logs.yielded (c.in-Some.number, c.in-Some.state) c.logs.number-iterator c.next.new.self _ c.logs.invariant.all c.in-Some.ensures.steps;
  count = c.logs.invariant.count ∙ sym (ap (others c.args.log) (map_on deref_pair c.logs.yielded (c.in-Some.number, c.in-Some.state)) ∙ others-push c.args.log (map deref_pair c.logs.yielded) (deref_pair (c.in-Some.number, c.in-Some.state)) false (sym c.if-is_other.false ∙ c.is_other.ensures));
}

pub returns : goal.returns
returns c = c.logs.invariant.count ∙ (ap (others c.args.log) (walk_end deref_pair c.logs.yielded c.logs.number-iterator c.into_iter-number-iterator.result c.logs.invariant.all c.in-None.ensures.steps.0 ∙ c.into_iter-number-iterator.ensures.into_iter_gives.0) ∙ others_are c.args.log c.args.logs.now.entries)
