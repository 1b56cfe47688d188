use Rattle.std.proofs.Common.{◌≡◌, ◌++◌, ◌∷◌, [], List, ℕ, ◌∙◌, ap, subst, sym}
use Rattle.std.specs.List.Sorted.{IsStrictlySortedBy}
use Rattle.ld_table.specs.Table.{Ordered}
use Rattle.ld_tests_protocol.proofs.rebuild.wiped.Goals as goal

one_rises : (m : List (ℕ × ℕ)) (e : ℕ × ℕ) → m ≡ e ∷ [] → Ordered m
unfolding IsStrictlySortedBy
one_rises m e h = subst (λ (m : List (ℕ × ℕ)). Ordered m) (sym h) (tt, tt)

pub keep-requires-clause-rises : goal.keep-requires-clause-rises
keep-requires-clause-rises c = one_rises c.new.result (c.args.log, 2) (c.new.ensures ∙ (c.in_ok-push.ensures.items ∙ ap (λ (l : List (ℕ × ℕ)). l ++ (c.args.log, 2) ∷ []) c.new-epochs.ensures.items))
