use Rattle.std.proofs.Common.{◌≡◌, ◌-◌, drop, length, filter, arith, ap, sym, ◌∙◌}
use Rattle.ld_table.specs.Words.{is_in}
use Rattle.ld_table.proofs.Places.{there_is}
use Rattle.ld_ids.specs.Set.{members, members_from, with_node}
use Rattle.ld_msg.specs.Reader.{missed_by, flags_of}
use Rattle.ld_reader.proofs.Sharing.{shares, one_out, none_out, drop_all, one_more}
use Rattle.ld_reader.proofs.missing.Missing.senders.Goals as goal

pub places-init : goal.places-init
unfolding members_from
places-init c =
    let p = missed_by c.args.self.now c.args.epoch in
    let none = ap (filter p) (ap (λ n. drop n (members c.args.set.now)) c.len-place.ensures.count ∙ drop_all (members c.args.set.now)) in
    record {
      few = omega arith;
      count = ap length (sym none);
      flags = c.empty-excluded.ensures ∙ ap flags_of (sym none);
      nodes = λ n. ap (λ s. is_in n (members s)) c.empty-excluded.ensures ∙ ap (is_in n) (sym none);
    }

pub overflow_add-count : goal.overflow_add-count
overflow_add-count c = omega (arith, c.places.invariant.few, c.len-place.ensures.count, c.len-place.ensures.bound, c.places-test.true)

pub places-preserved-then-has_missed : goal.places-preserved-then-has_missed
places-preserved-then-has_missed c =
    let p = missed_by c.args.self.now c.args.epoch in
    let set = members c.args.set.now in
    let y = c.in-Some.node in
    let i = c.places.place - 1 in
    let one = one_out p set i c.places.place y (omega arith) (sym c.in-Some.ensures.node) (sym c.has_missed.ensures ∙ c.if-has_missed.true) in
    record {
      few = omega arith;
      count = omega (arith, ap length one, c.places.invariant.count);
      flags = c.with-excluded.ensures.flags ∙ ap (with_node y) c.places.invariant.flags ∙ ap flags_of (sym one);
      nodes = λ n. c.with-excluded.ensures.members n ∙ one_more y n _ _ (c.places.invariant.nodes n) ∙ ap (is_in n) (sym one);
    }

pub places-preserved : goal.places-preserved
places-preserved c = absurd (there_is (members c.args.set.now) (c.places.place - 1) (omega (arith, c.places.invariant.few, c.places-test.true)) (sym c.nth.ensures.node ∙ c.in_default.is))

pub places-preserved-else-has_missed : goal.places-preserved-else-has_missed
places-preserved-else-has_missed c =
    let p = missed_by c.args.self.now c.args.epoch in
    let set = members c.args.set.now in
    let y = c.in-Some.node in
    let i = c.places.place - 1 in
    let one = none_out p set i c.places.place y (omega arith) (sym c.in-Some.ensures.node) (sym c.has_missed.ensures ∙ c.if-has_missed.false) in
    record {
      few = omega arith;
      count = c.places.invariant.count ∙ ap length (sym one);
      flags = c.places.invariant.flags ∙ ap flags_of (sym one);
      nodes = λ n. c.places.invariant.nodes n ∙ ap (is_in n) (sym one);
    }

pub new-requires-clause-subset : goal.new-requires-clause-subset
new-requires-clause-subset c =
    let p = missed_by c.args.self.now c.args.epoch in
    let set = members c.args.set.now in
    let zero : c.places.place ≡ 0 = omega arith in
    let all = ap (λ k. filter p (drop k set)) zero in
    (shares p c.args.set.now c.places.excluded (λ n. c.places.invariant.nodes n ∙ ap (is_in n) all) (omega (arith, ap length all, c.places.invariant.count))).0

pub new-requires-clause-left : goal.new-requires-clause-left
new-requires-clause-left c =
    let p = missed_by c.args.self.now c.args.epoch in
    let set = members c.args.set.now in
    let zero : c.places.place ≡ 0 = omega arith in
    let all = ap (λ k. filter p (drop k set)) zero in
    (shares p c.args.set.now c.places.excluded (λ n. c.places.invariant.nodes n ∙ ap (is_in n) all) (omega (arith, ap length all, c.places.invariant.count))).1
