use Rattle.std.proofs.Common.{◌≡◌, ◌≤◌, ◌∙◌, length, ap, arith}
use Rattle.ld_sequencer.specs.Announcing.{told_first}
use Rattle.ld_sequencer.proofs.Announced.{told_within}
use Rattle.ld_sequencer.proofs.whole.Sequencer.announce.Goals as goal

pub split_off-requires : goal.split_off-requires
split_off-requires c =
    let w : told_first c.args.sends ≤ length c.args.sends = told_within c.args.sends in
    let a : c.count_told-count.result ≡ told_first c.args.sends = c.count_told-count.ensures ∙ ap told_first c.as_slice.ensures in
    let b : length c.into_vec-first.result.items ≡ length c.args.sends = ap length c.into_vec-first.ensures in
    omega arith
