use Rattle.std.proofs.Common.{◌≡◌, ◌∙◌, ap, sym, subst, List, set, ℕ, max}
use Rattle.ld_msg.specs.Digest.{with_page, digest_lng, Told}
use Rattle.ld_digest.specs.Gathering.{Gathering, nodes_told, with_told, IsNodeAt}
use Rattle.ld_digest.specs.Added.{page_added, IsAdded}
use Rattle.ld_digest.proofs.Placed.{within, Apart, apart_members, takes_none}
use Rattle.ld_digest.proofs.Changed.{good_with, page_none, page_at_place, nodes_after, answer_at_place, added_in_place}
use Rattle.ld_digest.proofs.digest.Digest.add.Goals as goal

pub returns-in_default-clause-told : goal.returns-in_default-clause-told
returns-in_default-clause-told c = ap (with_told c.args.self.now) (sym (page_none c.args.self.now.epoch c.args.node c.args.page.now.from c.args.page.now.upto c.args.page.now.trim c.args.page.now.lng c.args.page.now.entries.now c.args.self.now.told c.in_default.ensures.none))

pub returns-in_default-clause-added : goal.returns-in_default-clause-added
returns-in_default-clause-added c = takes_none c.args.node c.args.page.now.from c.args.self.now.told c.in_default.ensures.none

good : (c : goal.In_ok-added) → c.max-good.result ≡ good_with c.self.inside.told.items c.args.page.now.lng
good c = c.max-good.ensures ∙ ap (λ (n : ℕ). max n c.args.page.now.lng) (c.lng.ensures.value ∙ ap (λ (g : Gathering). digest_lng g.told) (sym c.self.view_is))

pub invariant_of-self-2 : goal.invariant_of-self-2
invariant_of-self-2 c =
    let p = c.args.page.now in
    let at : IsNodeAt c.self.inside.told.items c.in-Some.place c.args.node = subst (λ (g : Gathering). IsNodeAt g.told c.in-Some.place c.args.node) (sym c.self.view_is) c.in-Some.ensures.some in (
      nodes_after c.self.inside.epoch c.max-good.result c.args.node p.from p.upto p.trim p.lng p.entries.now c.self.inside.told.items c.in-Some.place c.index_mut.result.now c.add.new.self at c.index_mut.ensures.value c.in_ok-added.ensures.told ∙ c.self.invariant.0,
      added_in_place c.self.inside.epoch c.max-good.result p.from p.upto p.trim p.lng p.entries.now c.self.inside.told.items c.in-Some.place c.index_mut.result.now c.add.new.self c.self.invariant.1 c.requires.entries c.requires.lng (within c.args.node c.self.inside.told.items c.in-Some.place at) c.index_mut.ensures.value c.in_ok-added.ensures.told,
    )

pub returns-clause-told : goal.returns-clause-told
returns-clause-told c =
    let p = c.args.page.now in
    let d = c.self.inside.told.items in
    let at : IsNodeAt d c.in-Some.place c.args.node = subst (λ (g : Gathering). IsNodeAt g.told c.in-Some.place c.args.node) (sym c.self.view_is) c.in-Some.ensures.some in
    let apart : Apart (nodes_told d) = subst Apart (sym c.self.invariant.0) (apart_members c.self.inside.spec.set) in
    let e = page_at_place c.self.inside.epoch c.args.node p.from p.upto p.trim p.lng p.entries.now d c.in-Some.place c.index_mut.result.now c.add.new.self apart at c.index_mut.ensures.value (c.in_ok-added.ensures.told ∙ ap (λ (n : ℕ). page_added c.self.inside.epoch n p.from p.upto p.trim p.lng p.entries.now c.index_mut.result.now) (good c)) in
    subst (λ (g : Gathering). record { spec = c.self.inside.spec; epoch = c.self.inside.epoch; told = set d c.in-Some.place c.add.new.self } ≡ with_told g (with_page g.epoch c.args.node p.from p.upto p.trim p.lng p.entries.now g.told)) c.self.view_is
    (ap (λ (r : List Told). record { spec = c.self.inside.spec; epoch = c.self.inside.epoch; told = r }) e)

pub returns-clause-added : goal.returns-clause-added
returns-clause-added c =
    let p = c.args.page.now in
    let d = c.self.inside.told.items in
    let at : IsNodeAt d c.in-Some.place c.args.node = subst (λ (g : Gathering). IsNodeAt g.told c.in-Some.place c.args.node) (sym c.self.view_is) c.in-Some.ensures.some in
    let apart : Apart (nodes_told d) = subst Apart (sym c.self.invariant.0) (apart_members c.self.inside.spec.set) in
    let a = answer_at_place c.self.inside.epoch c.max-good.result c.args.node p.from p.upto p.trim p.lng p.entries.now d c.in-Some.place c.index_mut.result.now c.add.new.self c.in_ok-added.added apart at c.index_mut.ensures.value c.in_ok-added.ensures.told c.in_ok-added.ensures.added in
    subst (λ (g : Gathering). IsAdded c.in_ok-added.added c.args.node p.from g.told (set d c.in-Some.place c.add.new.self)) c.self.view_is a
