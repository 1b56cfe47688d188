use Rattle.std.proofs.Common.{◌∙◌, ap, sym}
use Rattle.ld_table.specs.Table.{put}
use Rattle.ld_layout.specs.Layout.{closed_areas}
use Rattle.ld_layout.specs.LaidOut.{laid_out, later_of}
use Rattle.ld_layout.proofs.Inside.{ok_as}
use Rattle.ld_layout.proofs.segment.Layout.closed_areas.Goals as goal

pub returns-in-Some : goal.returns-in-Some
returns-in-Some c index = ok_as c.with_area.result _ _ (ap (λ n. put c.in-Some.segment.place n c.in-Some.segment.areas) c.saturating_sub-length.ensures ∙ sym (ap (λ o. closed_areas (laid_out c.args.self.now index) (later_of o)) c.in-Some.is)) c.with_area.ensures

pub returns-in-None : goal.returns-in-None
returns-in-None c index = ok_as c.one_area.result _ _ (sym (ap (λ o. closed_areas (laid_out c.args.self.now index) (later_of o)) c.in-None.is)) c.one_area.ensures
