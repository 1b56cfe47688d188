use Rattle.std.proofs.Common.{◌≡◌, ◌∙◌, ◌++◌, ◌∷◌, [], ap, arith, sym, decimal, take, append_assoc, Some}
use Rattle.std.specs.List.{slice_get}
use Rattle.ld_ids.specs.Set.{members, numbers_text}
use Rattle.ld_operate.proofs.Numbers.{first_number, later_number}
use Rattle.ld_operate.proofs.parts.nodes.Goals as goal
use Rattle.ld_operate.proofs.parts.nodes.Goals.{then-place-gt0+in_ok-word, else-place-gt0}

pub loop-place-preserved : goal.loop-place-preserved
loop-place-preserved c =
    let out = c.args.out.now.items in
    let so_far = c.loop-place.invariant in
    let before = numbers_text (take c.loop-place.place (members c.args.set.now)) in
    let at : slice_get (members c.args.set.now) c.loop-place.place ≡ Some c.in-Some.node = sym c.nth.ensures.node ∙ c.in-Some.is in
    let same : c.from.result ≡ c.in-Some.node = c.from.ensures ∙ c.number.ensures.value in
    let wrote : c.number-in-loop-place.new.out.items ≡ c.if-place-gt0.out.items ++ decimal c.in-Some.node = c.in_ok-number.ensures ∙ ap (λ n. c.if-place-gt0.out.items ++ decimal n) same in (
      so_far.0,
      elim c.if-place-gt0.branch [
        | then-place-gt0+in_ok-word w ↦
            wrote ∙ ap (λ v. v.items ++ decimal c.in-Some.node) w.out-is ∙ ap (λ l. l ++ decimal c.in-Some.node) (w.in_ok-word.ensures ∙ ap (λ l. l ++ 44 ∷ []) so_far.1)
            ∙ append_assoc (out ++ before) (44 ∷ []) (decimal c.in-Some.node) ∙ append_assoc out before (44 ∷ decimal c.in-Some.node)
            ∙ ap (λ l. out ++ l) (sym (later_number c.loop-place.place c.in-Some.node (members c.args.set.now) (omega (arith, w.if-place-gt0.true)) at))
        | else-place-gt0 w ↦
            wrote ∙ ap (λ v. v.items ++ decimal c.in-Some.node) w.out-is ∙ ap (λ l. l ++ decimal c.in-Some.node) so_far.1
            ∙ append_assoc out before (decimal c.in-Some.node)
            ∙ ap (λ l. out ++ l) (sym (first_number c.loop-place.place c.in-Some.node (members c.args.set.now) (omega (arith, w.if-place-gt0.false)) at))
      ],
    )
