use Rattle.std.proofs.Common.{◌∙◌, sym, arith}
use Rattle.ld_table.specs.Table.{find}
use Rattle.ld_op.proofs.Older.{older_inside, older_there, one_goes, none_goes}
use Rattle.ld_op.proofs.entries.drop_older.Goals as goal

pub taken-smaller : goal.taken-smaller
unfolding find
taken-smaller c = let t = older_there c.args.ballot c.taken.above c.args.last c.in-Some.number c.taken.map.entries c.first_older.ensures.ordered (sym c.first_older.ensures.first ∙ c.in-Some.is) in let v = c.remove.ensures.value in let l = c.remove.ensures.len in grind arith

pub taken-preserved : goal.taken-preserved
taken-preserved c = record {
  ahead = (older_inside c.args.ballot c.taken.above c.args.last c.in-Some.number c.taken.map.entries (sym c.first_older.ensures.first ∙ c.in-Some.is)).1;
  same = one_goes c.args.ballot c.taken.above c.args.last c.in-Some.number c.taken.map.entries c.remove.new.self.entries c.first_older.ensures.ordered c.remove.ensures.ordered c.remove.ensures.entries (sym c.first_older.ensures.first ∙ c.in-Some.is) ∙ c.taken.invariant.same;
}

pub returns : goal.returns
returns c = sym (none_goes c.args.ballot c.taken.above c.args.last c.taken.map.entries c.first_older.ensures.ordered (sym c.first_older.ensures.first ∙ c.in_default.is)) ∙ c.taken.invariant.same
