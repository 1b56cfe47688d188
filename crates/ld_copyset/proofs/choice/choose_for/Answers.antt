use Rattle.std.proofs.Common.{◌≡◌, ◌∙◌, ◌+◌, ◌≤◌, ◌<◌, sym, ap, arith, take, length}
use Rattle.ld_ids.specs.Set.{no_nodes, members}
use Rattle.ld_copyset.specs.Copyset.{place_of, left_at}
use Rattle.ld_copyset.proofs.Choices.{choice-enough, choice-few}
use Rattle.ld_copyset.proofs.Sets.{choice_same}
use Rattle.ld_copyset.proofs.choice.choose_for.Goals as goal
use Rattle.ld_copyset.proofs.choice.choose_for.Goals.{then-len-from, else-len-from}

pub returns-clause-set : goal.returns-clause-set
returns-clause-set c =
    let spec = c.args.spec.now in
    let excluded = c.args.excluded.now in
    let place = place_of c.args.lsn c.args.wave in
    let count = spec.r + spec.extras in
    let same : c.from-2.result + c.from-3.result ≡ count = omega arith in
    let taken : c.truncate.new.self ≡ take count c.if-len-from.left = c.truncate.ensures ∙ ap (λ k. take k c.if-len-from.left) same in
    elim c.if-len-from.branch [
      | then-len-from w ↦
          let few : length (left_at spec.set excluded place) < spec.r = omega (arith, ap length c.around-left.ensures) in
          let left : c.if-len-from.left ≡ left_at spec.set no_nodes place = w.left-is ∙ w.around-left-then-len-from.ensures ∙ ap (λ none. left_at spec.set none place) w.empty.ensures in
          taken ∙ ap (take count) left ∙ sym (choice-few spec excluded place few)
      | else-len-from w ↦
          let enough : spec.r ≤ length (left_at spec.set excluded place) = omega (arith, ap length c.around-left.ensures) in
          taken ∙ ap (take count) (w.left-is ∙ c.around-left.ensures) ∙ sym (choice-enough spec excluded place enough)
    ]

pub returns-clause-same : goal.returns-clause-same
returns-clause-same c nodes h = returns-clause-set c ∙ choice_same c.args.spec.now (members c.args.excluded.now) nodes (place_of c.args.lsn c.args.wave) h
