use Rattle.std.specs.Map.Iter.{deref_pair}
use Rattle.ld_op.proofs.Tables.{lngs_of, lngs_more, lngs_none, put_on, put_all}
use Rattle.ld_op.proofs.based.put_each_lng.Goals as goal

pub lngs-preserved : goal.lngs-preserved
lngs-preserved c = put_on lngs_of (deref_pair (c.in-Some.epoch, c.in-Some.place)) c.lngs.epoch-iterator c.next.new.self _ c.lngs.out.items _ lngs_more c.in-Some.ensures.steps c.in_ok-put_lng_there.ensures c.lngs.invariant

pub returns : goal.returns
returns c = put_all lngs_of c.lngs.epoch-iterator _ c.lngs.out.items lngs_none c.in-None.ensures.steps.0 c.lngs.invariant
