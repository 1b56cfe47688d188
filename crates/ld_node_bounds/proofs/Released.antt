-- The released numbers of a node stay in their bounds.
use Rattle.std.proofs.Common.{◌≡◌, ℕ, max, refl, List, Option, Some, None, arith}
use Rattle.std.specs.Option.{unwrap_or}
use Rattle.std.specs.List.{AllByRecursion}
use Rattle.ld_table.specs.Table.{find, put}
use Rattle.ld_ids.specs.Id.{IsLog}
use Rattle.ld_msg.specs.Bounds.{Is64}
use Rattle.ld_op.specs.Answers.{on_release}
use Rattle.ld_node_bounds.specs.States.{IsReleased}
use Rattle.ld_node_bounds.proofs.Alls.{all-put, all-find}

or_zero : (o : Option ℕ) → ((r : ℕ) → o ≡ Some r → Is64 r) → Is64 (unwrap_or o 0)
or_zero None f = omega arith
or_zero (Some r) f = f r refl

pub raised_is : (rs : List (ℕ × ℕ)) (l r before : ℕ) → AllByRecursion IsReleased rs → IsLog l → Is64 r → Is64 before → AllByRecursion IsReleased (put l (on_release before r) rs)
unfolding on_release
raised_is rs l r before R h b i = all-put IsReleased l (max before r) rs (record { log = h; released = omega (arith, i, b) }) R

module _ (rs : List (ℕ × ℕ)) (R : AllByRecursion IsReleased rs) where
  pub released_there : (l : ℕ) → Is64 (unwrap_or (find l rs) 0)
  released_there l = or_zero (find l rs) (λ r h. (all-find IsReleased l rs r R h).released)

  pub released_with : (l r : ℕ) → IsLog l → Is64 r → AllByRecursion IsReleased (put l (on_release (unwrap_or (find l rs) 0) r) rs)
  released_with l r h b = raised_is rs l r (unwrap_or (find l rs) 0) R h b (released_there l)
