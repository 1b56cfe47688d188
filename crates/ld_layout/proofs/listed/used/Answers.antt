use Rattle.std.proofs.Common.{◌∙◌, ap, sym, subst}
use Rattle.std.specs.List.Sorted.{IsNonDecreasing}
use Rattle.std.proofs.lemmas.List.Sorted.{IsNonDecreasingBy-from_sort}
use Rattle.ld_table.specs.Words.{any_of}
use Rattle.ld_layout.proofs.Inside.{used_by, any_shuffled, ok_as}
use Rattle.ld_layout.proofs.listed.used.Goals as goal

pub holding-requires : goal.holding-requires
holding-requires c = subst (λ m. IsNonDecreasing m) (sym c.as_slice.ensures.value) (IsNonDecreasingBy-from_sort (λ x. x) c.sort_unstable.new.self.items c.sort_unstable.ensures.sorted)

pub returns : goal.returns
returns c = ok_as c.holding.result _ _ (used_by c.args.index.now.state c.as_slice.result.now c.args.areas.now (λ P. ap (any_of P) c.as_slice.ensures.value ∙ (any_shuffled P c.in_ok-starts.starts.items c.sort_unstable.new.self.items c.sort_unstable.ensures.permutation ∙ ap (any_of P) c.in_ok-starts.ensures))) c.holding.ensures
