use Rattle.std.proofs.Common.{refl, ap, sym, ◌∙◌, take, drop, Some, get_or, arith}
use Rattle.ld_crowd.proofs.Seats.{ends_in, later_in, some_in, heard_there, left_at, left_none, lefts_set, lefts_same}
use Rattle.ld_crowd.proofs.memory.hear.Goals as goal

pub returns-then-is_at_end-clause-heard : goal.returns-then-is_at_end-clause-heard
returns-then-is_at_end-clause-heard c =
    ends_in (get_or c.args.seats.now c.args.peer c.index-seats-peer.result) _ (sym c.is_at_end.ensures ∙ c.if-is_at_end.true) ∙ sym (heard_there c.args.seats.now c.args.peer _ c.index-seats-peer.result c.requires)

pub returns-then-is_at_end-clause-bytes : goal.returns-then-is_at_end-clause-bytes
returns-then-is_at_end-clause-bytes c = record {
  left = ap Some (lefts_same c.args.seats.now c.args.peer c.index-seats-peer.result _ c.requires refl);
  all = left_none c.args.seats.now c.args.peer c.index-seats-peer.result c.requires (sym c.is_at_end.ensures ∙ c.if-is_at_end.true);
}

pub returns-in-0-clause-heard : goal.returns-in-0-clause-heard
returns-in-0-clause-heard c =
    later_in (get_or c.args.seats.now c.args.peer c.index-seats-peer.result) _ c.read.result (sym c.is_at_end.ensures ∙ c.if-is_at_end.false) c.read.ensures.count c.in-0.is
    ∙ sym (heard_there c.args.seats.now c.args.peer _ c.index-seats-peer.result c.requires)

pub returns-in-0-clause-bytes : goal.returns-in-0-clause-bytes
returns-in-0-clause-bytes c =
    ap Some (lefts_same c.args.seats.now c.args.peer c.index-seats-peer.result c.read.new.self c.requires (ap (λ s. s.left) c.read.ensures.seat ∙ ap (λ n. drop n (get_or c.args.seats.now c.args.peer c.index-seats-peer.result).left) c.in-0.is))

pub returns-in_default-clause-heard : goal.returns-in_default-clause-heard
returns-in_default-clause-heard c =
    some_in (get_or c.args.seats.now c.args.peer c.index-seats-peer.result) _ c.read.result (sym c.is_at_end.ensures ∙ c.if-is_at_end.false) c.read.ensures.count (omega arith)
    ∙ sym (heard_there c.args.seats.now c.args.peer _ c.index-seats-peer.result c.requires)

pub returns-in_default-clause-bytes : goal.returns-in_default-clause-bytes
returns-in_default-clause-bytes c = record {
  left = ap Some (lefts_set c.args.seats.now c.args.peer c.read.result c.index-seats-peer.result c.read.new.self c.requires (ap (λ s. s.left) c.read.ensures.seat));
  bytes = c.read.ensures.bytes ∙ ap (take c.read.result) (sym (left_at c.args.seats.now c.args.peer c.index-seats-peer.result c.requires));
  most = rw (left_at c.args.seats.now c.args.peer c.index-seats-peer.result c.requires) c.read.ensures.most;
}
