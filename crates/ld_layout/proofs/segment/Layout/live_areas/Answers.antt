use Rattle.std.proofs.Common.{◌≡◌, ◌∙◌, ap, sym, ◌+◌, ◌-◌, ◌∷◌, [], arith}
use Rattle.ld_table.specs.Table.{put}
use Rattle.ld_layout.specs.Layout.{live_areas, head_end}
use Rattle.ld_layout.specs.LaidOut.{laid_out, later_of}
use Rattle.ld_layout.proofs.Inside.{ok_as}
use Rattle.ld_layout.proofs.segment.Layout.live_areas.Goals as goal

pub returns-in-Some : goal.returns-in-Some
returns-in-Some c index =
    let e : c.args.self.now.end + 49 ≡ head_end c.args.self.now.end = omega arith in
    ok_as c.with_two.result _ _ (ap (λ n. put c.in-Some.segment.place n (put 0 (c.args.self.now.end + 49) c.in-Some.segment.areas)) c.saturating_sub-length.ensures
    ∙ (ap (λ n. put c.in-Some.segment.place (c.in-Some.segment.limit - c.in-Some.segment.place) (put 0 n c.in-Some.segment.areas)) e
    ∙ sym (ap (λ o. live_areas (laid_out c.args.self.now index) (later_of o)) c.in-Some.is))) c.with_two.ensures

pub returns-in-None : goal.returns-in-None
returns-in-None c index =
    let e : c.args.self.now.end + 49 ≡ head_end c.args.self.now.end = omega arith in
    ok_as c.one_area.result _ _ (ap (λ n. (0, n) ∷ []) e ∙ sym (ap (λ o. live_areas (laid_out c.args.self.now index) (later_of o)) c.in-None.is)) c.one_area.ensures
