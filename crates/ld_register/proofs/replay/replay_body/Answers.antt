use Rattle.std.proofs.Common.{◌∙◌, ap, sym, inr, refl}
use Rattle.ld_register.specs.Changes.{is_next, changed}
use Rattle.ld_register.proofs.Leading.{one_body, next_in, made_kept}
use Rattle.ld_register.proofs.replay.replay_body.Goals as goal

pub returns-then-not-is_next-clause-refused : goal.returns-then-not-is_next-clause-refused
returns-then-not-is_next-clause-refused c = inr (refl, (λ h kept x n. absurd (let t = c.if-not-is_next.ensures 0 ∙ (sym (next_in c.args.contents.now h 0 c.in-Some.change kept) ∙ (ap (is_next h) (one_body c.args.body.now c.in-Some.change x c.in-Some.ensures.some n.body_is) ∙ n.next)) in cc)))

pub apply-requires-clause-next : goal.apply-requires-clause-next
apply-requires-clause-next c = ap (λ r. is_next r c.in-Some.change) (c.in_ok-room.ensures.same 0) ∙ (sym (c.is_next.ensures 0) ∙ c.if-not-is_next.false)

pub returns-clause-made : goal.returns-clause-made
returns-clause-made c h kept = (
  c.in-Some.change,
  record { body_is = c.in-Some.ensures.some; next = next_in c.args.contents.now h 0 c.in-Some.change kept ∙ (sym (c.is_next.ensures 0) ∙ c.if-not-is_next.false) },
  made_kept c.args.contents.now c.apply.new.self h c.in-Some.change kept (λ n m e. c.apply.ensures n m e ∙ ap (λ r. changed r c.in-Some.change) (c.in_ok-room.ensures.same n)),
)
