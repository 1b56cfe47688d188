use Rattle.std.proofs.Common.{refl}
use Rattle.std.specs.Map.Iter.{deref_pair}
use Rattle.ld_op.proofs.Tables.{put_on, put_all}
use Rattle.ld_layout.specs.Base.{areas_based}
use Rattle.ld_layout.proofs.Copies.{areas_more}
use Rattle.ld_layout.proofs.base.put_each_area.Goals as goal

pub areas-preserved : goal.areas-preserved
areas-preserved c = put_on areas_based (deref_pair (c.in-Some.place, c.in-Some.length)) c.areas.place-iterator c.next.new.self _ c.areas.out.items _ areas_more c.in-Some.ensures.steps c.in_ok-put_area.ensures c.areas.invariant

pub returns : goal.returns
returns c = put_all areas_based c.areas.place-iterator _ c.areas.out.items refl c.in-None.ensures.steps.0 c.areas.invariant
