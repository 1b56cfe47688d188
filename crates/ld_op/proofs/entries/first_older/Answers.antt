use Rattle.std.proofs.Common.{◌∙◌, ap, sym, map}
use Rattle.std.specs.Map.Iter.{deref_pair}
use Rattle.ld_op.specs.Older.{first_older}
use Rattle.ld_op.proofs.Pages.{walk_on, walk_at, map_on}
use Rattle.ld_op.proofs.Older.{older_found, none_older}
use Rattle.ld_op.proofs.entries.first_older.Goals as goal

pub places-preserved : goal.places-preserved
places-preserved c = record {
  all = walk_on deref_pair c.places.yielded (c.in-Some.number, c.in-Some.place) c.places.number-iterator c.next.new.self _ c.places.invariant.all c.in-Some.ensures.steps;
  none = ap (first_older c.args.ballot) (map_on deref_pair c.places.yielded (c.in-Some.number, c.in-Some.place)) ∙ none_older c.args.ballot (map deref_pair c.places.yielded) (deref_pair (c.in-Some.number, c.in-Some.place)) c.places.invariant.none (sym c.is_older.ensures ∙ c.if-is_older.false);
}

pub returns-then-is_older-clause-first : goal.returns-then-is_older-clause-first
returns-then-is_older-clause-first c = sym (ap (first_older c.args.ballot) (sym (c.into_iter-number-iterator.ensures.into_iter_gives ∙ c.range-number-items.ensures.between tt))
    ∙ older_found c.args.ballot c.into_iter-number-iterator.result (map deref_pair c.places.yielded) c.next.new.self (deref_pair (c.in-Some.number, c.in-Some.place))
    (walk_at deref_pair c.places.yielded (c.in-Some.number, c.in-Some.place) c.places.number-iterator c.next.new.self c.into_iter-number-iterator.result c.places.invariant.all c.in-Some.ensures.steps) c.places.invariant.none (sym c.is_older.ensures ∙ c.if-is_older.true))
