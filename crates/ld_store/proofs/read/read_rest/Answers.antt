use Rattle.std.proofs.Common.{◌≡◌, ◌≤◌, ◌<◌, ◌+◌, ◌-◌, Err, inl, inr, refl, ap, sym, ◌∙◌, subst, arith}
use Rattle.ld_op.specs.Cells.{each_plain}
use Rattle.ld_msg.specs.Register.{journal_limit}
use Rattle.ld_layout.specs.Layout.{least_for, room_for}
use Rattle.ld_store.specs.Ops.{within}
use Rattle.ld_store.specs.declared.fault.StoreFault.TheVariants as stores
use Rattle.ld_store.specs.Replayed.{Replayed}
use Rattle.ld_store.proofs.Faults.{err_is, same_place}
use Rattle.ld_store.proofs.Behind.{error_of, start, row_in, headed_in, past_in, payload_in}
use Rattle.ld_store.proofs.read.read_rest.Goals as goal

pub returns-in_err-last-clause-damaged : goal.returns-in_err-last-clause-damaged
returns-in_err-last-clause-damaged g c place is bytes told len there =
    let later = c.args.later in
    let i = later.based.index.state in
    let begin = start later.gate later.version i bytes c.from.result (omega (arith, c.requires.within, len)) c.from.ensures in
    let error = err_is c.from_residual.result (stores.Damaged place) (λ e. e ≡ c.in_err-last.field-0.0) c.from_residual.ensures.1 is in
    record { later = later; there = there; cause = inl (row_in later.gate later.version place bytes (c.in_err-last.ensures.damaged place (ap Err (sym error)) later.gate later.version i bytes told len begin)) }

pub returns-in-Some-clause-damaged : goal.returns-in-Some-clause-damaged
returns-in-Some-clause-damaged g c place is bytes told len there =
    let later = c.args.later in
    let i = later.based.index.state in
    let begin = start later.gate later.version i bytes c.from.result (omega (arith, c.requires.within, len)) c.from.ensures in
    let last = c.in_ok-last.last in
    let all = subst (λ h. Replayed later.gate later.version i bytes last c.replay.new.index.state h) c.in-Some.is (c.in_ok-last.ensures.replayed later.gate later.version i bytes told len begin) in
    record { later = later; there = there; cause = inl (headed_in later.gate later.version i bytes last c.replay.new.index.state _ place (sym (same_place last.at place (error_of (stores.Damaged last.at) (stores.Damaged place) is))) all) }

pub returns-then-not-stands_within-clause-damaged : goal.returns-then-not-stands_within-clause-damaged
returns-then-not-stands_within-clause-damaged g c place is bytes told len there =
    let later = c.args.later in
    let i = later.based.index.state in
    let begin = start later.gate later.version i bytes c.from.result (omega (arith, c.requires.within, len)) c.from.ensures in
    let last = c.in_ok-last.last in
    let index = c.replay.new.index.state in
    let all = subst (λ h. Replayed later.gate later.version i bytes last index h) c.in_default.is (c.in_ok-last.ensures.replayed later.gate later.version i bytes told len begin) in
    let past = subst (λ n. each_plain (within n) index ≡ index → ⊥) len (c.stands_within.ensures.past c.if-not-stands_within.true) in
    record {
      later = later;
      there = there;
      cause = inr (sym (same_place later.found.place place (error_of (stores.Damaged later.found.place) (stores.Damaged place) is)), inr (inr (payload_in later bytes last index all past)));
    }

pub returns-in-Some-segment_behind-clause-read : goal.returns-in-Some-segment_behind-clause-read
returns-in-Some-segment_behind-clause-read g c closed bytes told len first shut there =
    let later = c.args.later in
    let i = later.based.index.state in
    let begin = start later.gate later.version i bytes c.from.result (omega (arith, c.requires.within, len)) c.from.ensures in
    let last = c.in_ok-last.last in
    let index = c.replay.new.index.state in
    let all = subst (λ h. Replayed later.gate later.version i bytes last index h) c.in_default.is (c.in_ok-last.ensures.replayed later.gate later.version i bytes told len begin) in
    record {
      walk = c.args.walk;
      closed = closed;
      head = c.args.head;
      first = first;
      shut = shut;
      later = later;
      there = there;
      last = last;
      rest = all;
      areas = (λ place size is. subst (λ n. place + size ≤ n) len (c.lie_within.ensures.within c.if-not-lie_within.false place size is));
      inside = subst (λ n. each_plain (within n) index ≡ index) len (c.stands_within.ensures.within c.if-not-stands_within.false);
      segment = c.in-Some-segment_behind.segment;
      segment_is = c.in-Some-segment_behind.ensures.some ∙ (λ k. record { place = later.found.place; based = c.entry_count-based.ensures k; ops = last.ops; end = last.at; limit = later.gate + 1 + room_for (least_for (c.growth_told.ensures k) (later.gate - (later.found.place + 5))) last.first; areas = later.based.areas; number = later.found.number; grows = c.growth_told.ensures k });
      layout_is = c.laid_behind.ensures.layout;
      slots_are = c.laid_behind.ensures.slots;
      version_is = refl;
    }

pub returns-in-None-clause-damaged : goal.returns-in-None-clause-damaged
returns-in-None-clause-damaged g c place is bytes told len there =
    let later = c.args.later in
    let i = later.based.index.state in
    let begin = start later.gate later.version i bytes c.from.result (omega (arith, c.requires.within, len)) c.from.ensures in
    let last = c.in_ok-last.last in
    let all = subst (λ h. Replayed later.gate later.version i bytes last c.replay.new.index.state h) c.in_default.is (c.in_ok-last.ensures.replayed later.gate later.version i bytes told len begin) in
    record {
      later = later;
      there = there;
      cause = inr (sym (same_place later.found.place place (error_of (stores.Damaged later.found.place) (stores.Damaged place) is)), inl (past_in later bytes last c.replay.new.index.state all (subst (λ grows. journal_limit < later.gate + 1 + room_for (least_for grows (later.gate - (later.found.place + 5))) last.first) c.growth_told.ensures c.in-None.ensures.none)));
    }
