use Rattle.std.proofs.Common.{◌≡◌, ◌<◌, ◌^◌, ◌+◌, ◌∙◌, ◌++◌, ◌∷◌, [], inl, sym, ap, subst, length, arith, rules}
use Rattle.ld_batch.proofs.Unpacking.{IsSoFar, no_count, none_so_far, so_far_room, one_more_so_far, cut_so_far, surplus, no_surplus}
use Rattle.ld_batch.proofs.read.unpack.Goals as goal

pub returns-in-None-clause-bad : goal.returns-in-None-clause-bad
returns-in-None-clause-bad c = no_count c.args.bytes.now (inl c.in-None.ensures)

pub returns-then-count-lt1-clause-bad : goal.returns-then-count-lt1-clause-bad
returns-then-count-lt1-clause-bad c = no_count c.args.bytes.now (grind (arith, c.in-Some.ensures, c.then-count-lt1.either))

pub messages-init : goal.messages-init
messages-init c =
    none_so_far c.args.bytes.now c.in-Some.count c.empty-messages.result c.in-Some.ensures.0 c.in-Some.ensures.1 c.if-count-lt1.false c.if-count-gt1024.false c.empty-messages.ensures

pub message_at-requires : goal.message_at-requires
message_at-requires c = c.messages.invariant.inside

pub returns-in_default-clause-bad : goal.returns-in_default-clause-bad
returns-in_default-clause-bad c = cut_so_far c.args.bytes.now c.in-Some.count c.messages.counter c.messages.at c.messages.messages c.messages.invariant c.messages-test.true c.in_default.ensures

pub push-requires : goal.push-requires
push-requires c =
    let same : c.new.result ≡ c.in-Some-message_at.message.now = c.new.ensures.value ∙ c.in_ok-from_slice.ensures.items in
    let bound : length c.args.bytes.now < 2 ^ 63 = search rules in
    rw same
    (omega (arith, bound, so_far_room c.args.bytes.now c.in-Some.count c.messages.counter c.messages.at c.messages.messages c.in-Some-message_at.message.now c.messages.invariant c.in-Some-message_at.ensures))

pub messages-preserved : goal.messages-preserved
messages-preserved c =
    let same : c.new.result ≡ c.in-Some-message_at.message.now = c.new.ensures.value ∙ c.in_ok-from_slice.ensures.items in
    let now : c.push.new.self ≡ c.messages.messages ++ c.in-Some-message_at.message.now ∷ [] = c.in_ok-push.ensures.ok ∙ ap (λ m. c.messages.messages ++ m ∷ []) same in
    subst (IsSoFar c.args.bytes.now c.in-Some.count (c.messages.counter + 1) (c.messages.at + (2 + length c.in-Some-message_at.message.now))) (sym now)
    (one_more_so_far c.args.bytes.now c.in-Some.count c.messages.counter c.messages.at c.messages.messages c.in-Some-message_at.message.now c.messages.invariant c.messages-test.true c.in-Some-message_at.ensures)

pub returns-then-at-bytes-clause-bad : goal.returns-then-at-bytes-clause-bad
returns-then-at-bytes-clause-bad c = surplus c.args.bytes.now c.in-Some.count c.messages.counter c.messages.at c.messages.messages c.messages.invariant c.messages-test.false c.if-at-bytes.true

pub returns-clause-ok : goal.returns-clause-ok
returns-clause-ok c = no_surplus c.args.bytes.now c.in-Some.count c.messages.counter c.messages.at c.messages.messages c.messages.invariant c.messages-test.false c.if-at-bytes.false
