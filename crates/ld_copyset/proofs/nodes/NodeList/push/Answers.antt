use Rattle.std.proofs.Common.{◌≡◌, ◌∙◌, ◌++◌, ◌∷◌, [], ◌≤◌, sym, ap, subst, arith, lit<, length, length-append, false, ℕ, List}
use Rattle.std.specs.List.{All}
use Rattle.std.proofs.lemmas.List.Elements.{All-push}
use Rattle.ld_table.specs.Words.{is_in}
use Rattle.ld_ids.specs.Id.{IsNode}
use Rattle.ld_copyset.specs.Copyset.{AreDistinct}
use Rattle.ld_copyset.proofs.Rings.{at_most_16, distinct-push}
use Rattle.ld_copyset.proofs.nodes.NodeList.push.Goals as goal

longer : (nodes : List ℕ) (node : ℕ) → All IsNode nodes → AreDistinct nodes → IsNode node → is_in node nodes ≡ false → All IsNode (nodes ++ node ∷ []) × AreDistinct (nodes ++ node ∷ [])
longer nodes node all distinct one fresh = (All-push IsNode nodes node all one, distinct-push nodes node distinct fresh)

pub push-requires : goal.push-requires
push-requires c =
    let nodes = c.self.inside.numbers.items in
    let both = longer nodes c.args.node c.self.invariant.nodes c.self.invariant.distinct c.number.ensures.bounds (ap (is_in c.args.node) c.self.view_is ∙ c.requires) in
    let bound : length (nodes ++ c.args.node ∷ []) ≤ 16 = at_most_16 (nodes ++ c.args.node ∷ []) both.1 both.0 in
    (lit< tt, omega (arith, length-append nodes (c.args.node ∷ [])))

pub invariant_of-self : goal.invariant_of-self
invariant_of-self c =
    let nodes = c.self.inside.numbers.items in
    let both = longer nodes c.args.node c.self.invariant.nodes c.self.invariant.distinct c.number.ensures.bounds (ap (is_in c.args.node) c.self.view_is ∙ c.requires) in
    let after : c.push.new.self.items ≡ nodes ++ c.args.node ∷ [] = c.push.ensures.items ∙ ap (λ n. nodes ++ n ∷ []) c.number.ensures.value in
    record { nodes = subst (All IsNode) (sym after) both.0; distinct = subst AreDistinct (sym after) both.1 }
