use Rattle.std.proofs.Common.{ap, sym, inl, inr, ◌∙◌, arith}
use Rattle.std.proofs.lemmas.List.{take_all}
use Rattle.std.proofs.lemmas.Option.{slice_get_cases}
use Rattle.ld_table.specs.Words.{is_in}
use Rattle.ld_ids.specs.Set.{members}
use Rattle.ld_copyset.proofs.Sets.{no_members, members_more}
use Rattle.ld_copyset.proofs.nodes.NodeList.to_set.Goals as goal
use Rattle.ld_copyset.proofs.nodes.NodeList.to_set.Goals.{in-Some, in_default}

pub nodes-init : goal.nodes-init
nodes-init c node = ap (λ s. is_in node (members s)) c.empty-set.ensures ∙ no_members node

pub nodes-preserved : goal.nodes-preserved
nodes-preserved c node = elim c.match-nth.branch [
  | in-Some w ↦ ap (λ s. is_in node (members s)) (w.set-is ∙ w.with-set.ensures.flags)
      ∙ members_more node c.nodes.place w.in-Some.node c.nodes.set c.args.self.now (c.nodes.invariant node) (sym c.nth.ensures.node ∙ w.in-Some.is) (ap (λ s. is_in node (members s)) (sym w.with-set.ensures.flags) ∙ w.with-set.ensures.members node)
  | in_default w ↦ elim (slice_get_cases c.args.self.now c.nodes.place).1 [
    | inl f ↦ absurd (w.in_default.not-Some f.0 (c.nth.ensures.node ∙ f.2))
    | inr f ↦ absurd (omega (arith, f.0))
  ]
]

pub returns : goal.returns
returns c node = c.nodes.invariant node ∙ ap (is_in node) (take_all c.nodes.place c.args.self.now (let a = c.len-place-end.ensures.count in omega arith))
