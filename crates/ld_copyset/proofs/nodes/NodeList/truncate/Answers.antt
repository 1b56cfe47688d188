use Rattle.std.proofs.Common.{sym, subst}
use Rattle.std.specs.List.{All}
use Rattle.std.proofs.lemmas.List.Elements.{All-take}
use Rattle.ld_ids.specs.Id.{IsNode}
use Rattle.ld_copyset.specs.Copyset.{AreDistinct}
use Rattle.ld_copyset.proofs.Rings.{distinct-take}
use Rattle.ld_copyset.proofs.nodes.NodeList.truncate.Goals as goal

pub invariant_of-self : goal.invariant_of-self
invariant_of-self c =
    let nodes = c.self.inside.numbers.items in
    record {
      nodes = subst (All IsNode) (sym c.truncate.ensures.items) (All-take IsNode c.args.count nodes c.self.invariant.nodes);
      distinct = subst AreDistinct (sym c.truncate.ensures.items) (distinct-take c.args.count nodes c.self.invariant.distinct);
    }
