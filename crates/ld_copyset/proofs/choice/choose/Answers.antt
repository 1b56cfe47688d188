use Rattle.std.proofs.Common.{◌≡◌, ◌∙◌, ◌+◌, ◌≤◌, sym, ap, subst, arith, true, take, length, ℕ}
use Rattle.ld_table.specs.Words.{is_in}
use Rattle.ld_copyset.specs.Copyset.{place_of, left_at, AreDistinct}
use Rattle.ld_copyset.proofs.Rings.{chosen-distinct, chosen-members}
use Rattle.ld_copyset.proofs.Choices.{choice-enough}
use Rattle.ld_copyset.proofs.choice.choose.Goals as goal

pub returns : goal.returns
returns c =
    let set = c.args.set.now in
    let excluded = c.args.excluded.now in
    let place = place_of c.args.lsn c.args.wave in
    let count = c.args.r + c.args.extras in
    let same : c.from-2.result + c.from-3.result ≡ count = omega arith in
    let chosen : c.truncate.new.self ≡ take count (left_at set excluded place) = c.truncate.ensures ∙ ap (λ k. take k c.around-left.result) same ∙ ap (take count) c.around-left.ensures in
    let enough : c.args.r ≤ length (left_at set excluded place) = omega (arith, ap length c.around-left.ensures) in
    let there = λ (node : ℕ) (h : is_in node c.truncate.new.self ≡ true). chosen-members count set excluded place node (sym (ap (is_in node) chosen) ∙ h) in
    record {
      ok = chosen;
      meets_definition = λ log. chosen ∙ sym (choice-enough (record { log = log; set = set; r = c.args.r; extras = c.args.extras }) excluded place enough);
      enough = enough;
      too_few = tt;
      cause = tt;
      members = λ node h. (there node h).0;
      outside = λ node h. (there node h).1;
      distinct = subst AreDistinct (sym chosen) (chosen-distinct count set excluded place);
    }
