use Rattle.std.proofs.Common.{◌≡◌, ◌∙◌, ◌++◌, ◌∷◌, [], map, length, arith, ap, sym, subst, refl, List, ℕ}
use Rattle.std.specs.Map.Iter.{deref_pair}
use Rattle.std.specs.Cmp.{nat_cmp_total}
use Rattle.std.proofs.lemmas.Map.Iter.{btree_map_turn}
use Rattle.ld_table.specs.Table.{find}
use Rattle.ld_msg.specs.Register.{epochs_in}
use Rattle.ld_op.specs.Bounds.{AreEpochs}
use Rattle.ld_op.proofs.Pages.{walk_on, walk_end, map_on}
use Rattle.ld_register.proofs.Tables.{active-push, active_is, active_bounds}
use Rattle.ld_register.specs.Kept.{shown_logs}
use Rattle.ld_register.proofs.Few.{active_few}
use Rattle.ld_register.proofs.contents.active_logs.Goals as goal

pub logs-init : goal.logs-init
logs-init c = record { all = refl; active = c.new-active.ensures.items }

pub add_active-requires : goal.add_active-requires
unfolding find
add_active-requires c =
    let t = btree_map_turn deref_pair c.logs.yielded _ _ _ _ (c.in-Some.number, c.in-Some.state) c.logs.yielded_by c.in-Some.is c.next.ensures.steps nat_cmp_total c.args.logs.now c.into_iter-number-iterator.ensures.into_iter_gives.0 c.len.ensures.ordered in
    (c.requires c.in-Some.number.now c.in-Some.state.now t.1).0

pub logs-preserved : goal.logs-preserved
logs-preserved c = record {
  all = walk_on deref_pair c.logs.yielded (c.in-Some.number, c.in-Some.state) c.logs.number-iterator c.next.new.self _ c.logs.invariant.all c.in-Some.ensures.steps;
  active = c.in_ok-add_active.ensures
      ∙ (ap (λ l. l ++ epochs_in ((c.in-Some.number.now, c.in-Some.state.now) ∷ [])) c.logs.invariant.active
      ∙ sym (ap epochs_in (map_on deref_pair c.logs.yielded (c.in-Some.number, c.in-Some.state)) ∙ active-push (map deref_pair c.logs.yielded) (c.in-Some.number.now, c.in-Some.state.now)));
}

all_yielded : (c : goal.In-None) → c.logs.active.items ≡ epochs_in c.args.logs.now.entries
all_yielded c = c.logs.invariant.active ∙ ap epochs_in (walk_end deref_pair c.logs.yielded c.logs.number-iterator c.into_iter-number-iterator.result c.logs.invariant.all c.in-None.ensures.steps.0 ∙ c.into_iter-number-iterator.ensures.into_iter_gives.0)

pub returns-clause-active : goal.returns-clause-active
returns-clause-active c = all_yielded c ∙ active_is c.args.logs.now.entries

pub returns-clause-few : goal.returns-clause-few
returns-clause-few c = let a = ap length (all_yielded c ∙ active_is c.args.logs.now.entries) in let b = active_few (shown_logs c.args.logs.now.entries) in omega arith

pub returns-clause-bounds : goal.returns-clause-bounds
returns-clause-bounds c = subst (λ (l : List (ℕ × ℕ)). AreEpochs 1 l) (sym (all_yielded c)) (active_bounds c.args.logs.now.entries c.len.ensures.ordered c.requires)
