use Rattle.std.proofs.Common.{◌≡◌, ◌∙◌, ap, sym, subst, List, set}
use Rattle.ld_msg.specs.Digest.{with_lost, Told}
use Rattle.ld_digest.specs.Gathering.{Gathering, nodes_told, with_told, IsNodeAt}
use Rattle.ld_digest.proofs.Placed.{within, Apart, apart_members}
use Rattle.ld_digest.proofs.Changed.{lost_none, lost_at_place, nodes_lost, lost_in_place}
use Rattle.ld_digest.proofs.digest.Digest.lost.Goals as goal

pub invariant_of-self : goal.invariant_of-self
invariant_of-self c =
    let at : IsNodeAt c.self.inside.told.items c.in-Some.place c.args.node = subst (λ (g : Gathering). IsNodeAt g.told c.in-Some.place c.args.node) (sym c.self.view_is) c.in-Some.ensures.some in (
      nodes_lost c.args.node c.self.inside.told.items c.in-Some.place c.index_mut.result.now c.lose.new.self at c.index_mut.ensures.value c.lose.ensures ∙ c.self.invariant.0,
      lost_in_place c.self.inside.told.items c.in-Some.place c.index_mut.result.now c.lose.new.self c.self.invariant.1 (within c.args.node c.self.inside.told.items c.in-Some.place at) c.index_mut.ensures.value c.lose.ensures,
    )

pub returns-in-Some : goal.returns-in-Some
returns-in-Some c =
    let d = c.self.inside.told.items in
    let at : IsNodeAt d c.in-Some.place c.args.node = subst (λ (g : Gathering). IsNodeAt g.told c.in-Some.place c.args.node) (sym c.self.view_is) c.in-Some.ensures.some in
    let apart : Apart (nodes_told d) = subst Apart (sym c.self.invariant.0) (apart_members c.self.inside.spec.set) in
    let e = lost_at_place c.args.node d c.in-Some.place c.index_mut.result.now c.lose.new.self apart at c.index_mut.ensures.value c.lose.ensures in
    subst (λ (g : Gathering). record { spec = c.self.inside.spec; epoch = c.self.inside.epoch; told = set d c.in-Some.place c.lose.new.self } ≡ with_told g (with_lost c.args.node g.told)) c.self.view_is
    (ap (λ (r : List Told). record { spec = c.self.inside.spec; epoch = c.self.inside.epoch; told = r }) e)

pub returns-in_default : goal.returns-in_default
returns-in_default c = ap (with_told c.args.self.now) (sym (lost_none c.args.node c.args.self.now.told c.in_default.ensures.none))
