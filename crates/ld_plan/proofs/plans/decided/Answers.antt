use Rattle.std.proofs.Common.{◌≡◌, ◌++◌, ◌∷◌, [], ap, sym, ◌∙◌, subst, List, append-nil, append_assoc, rules, arith}
use Rattle.std.specs.List.Sorted.{IsNonDecreasingBy, IsStableByKey}
use Rattle.std.proofs.lemmas.List.Sorted.{IsNonDecreasingBy-from_sort_by_key, answers_always}
use Rattle.std.specs.Ordering.{nat_cmp}
use Rattle.ld_msg.specs.declared.msg.Entry.{Entry}
use Rattle.ld_plan.specs.Claims.{Decided, claimed, decided_by}
use Rattle.ld_plan.specs.Decision.{IsDecision}
use Rattle.ld_plan.proofs.Ordering.{decision, decided_none, decided_more, empty_of}
use Rattle.ld_plan.proofs.plans.decided.Goals as goal

pub loop-claim-init : goal.loop-claim-init
loop-claim-init c = ([], append-nil _, c.nothing-decided.ensures ∙ decided_none)

pub loop-claim-preserved : goal.loop-claim-preserved
loop-claim-preserved c =
    let w = c.loop-claim.invariant in (
      c.in-Some.claim ∷ w.0,
      sym (append_assoc c.pop.new.self.items (c.in-Some.claim ∷ []) w.0) ∙ (ap (λ l. l ++ w.0) (sym c.in-Some.ensures.items) ∙ w.1),
      c.in_ok-claim.ensures.ok ∙ (ap (claimed c.in-Some.claim) w.2 ∙ decided_more c.in-Some.claim w.0),
    )

pub returns : goal.returns
returns c =
    let w = c.loop-claim.invariant in
    let none : c.loop-claim.claims.items ≡ [] = empty_of c.loop-claim.claims.items (omega (arith, c.in_default.ensures.cases.0)) in
    let all : w.0 ≡ c.sort_by_key.new.self.items = sym (ap (λ l. l ++ w.0) none) ∙ w.1 in
    let rise : IsNonDecreasingBy (λ (e : Entry). e.ballot) c.sort_by_key.new.self.items = IsNonDecreasingBy-from_sort_by_key (λ (e : Entry). e.ballot) _ c.in_ok-sort_by_key.ensures.sorted (λ a r q k. search rules) in
    let stable : IsStableByKey (λ (e : Entry). e.ballot) nat_cmp c.in_ok-claims.claims.items c.sort_by_key.new.self.items = c.in_ok-sort_by_key.ensures.stable (λ (e : Entry). e.ballot) (answers_always _ _ _ (λ f a r g k. search rules)) in
    let here = decision c.args.told.now c.sort_by_key.new.self.items rise (subst (λ (l : List Entry). IsStableByKey (λ (e : Entry). e.ballot) nat_cmp l c.sort_by_key.new.self.items) c.in_ok-claims.ensures stable) in
    subst (λ (x : Decided). IsDecision c.args.told.now x) (sym (w.2 ∙ ap decided_by all)) here
