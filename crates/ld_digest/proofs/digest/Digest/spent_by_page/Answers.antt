use Rattle.std.proofs.Common.{◌≡◌, ◌∙◌, ap, sym, List, Bool, true, nat_le}
use Rattle.std.specs.Prelude.{◌&&◌}
use Rattle.ld_lsn.specs.Number.{numbered, last_esn}
use Rattle.ld_msg.specs.Sequencer.{takes_any}
use Rattle.ld_msg.specs.Digest.{is_spent, with_page, Told}
use Rattle.ld_digest.specs.Gathering.{Gathering}
use Rattle.ld_digest.proofs.Spending.{counted, all_tried, spent_with, whole_by, spent_page}
use Rattle.ld_digest.proofs.digest.Digest.spent_by_page.Goals as goal

pub returns-then-taken-2 : goal.returns-then-taken-2
returns-then-taken-2 c = λ trim lng es.
    let i = c.loop-told.invariant in
    let y = c.args.node in
    let from = c.args.from in
    let d : List Told = c.args.self.now.told in
    let ends : Bool = c.reaches_end-ends.result in
    let taken : true ≡ takes_any y from d = sym c.if-taken-2.true ∙ all_tried y from d c.deref-told-items.result.now c.loop-told.told-index c.loop-told.taken c.loop-told-test.false i.0 in
    let spent : c.spent.result ≡ is_spent c.args.self.now.spec (with_page c.args.self.now.epoch y from c.args.upto trim lng es d) =
    c.spent.ensures ∙ (counted c.self.inside.spec (whole_by y from ends) (λ t. t.lost) d c.deref-told-items.result.now c.loop-told.told-index c.loop-told.count.found c.loop-told.count.each c.loop-told-test.false i.1 i.2
    ∙ (ap (λ (b : Bool). spent_with c.self.inside.spec (whole_by y from b) (λ t. t.lost) d) c.reaches_end-ends.ensures
    ∙ (ap (λ (g : Gathering). spent_with g.spec (whole_by y from (nat_le (numbered g.epoch last_esn) c.args.upto)) (λ t. t.lost) d) c.self.view_is
    ∙ sym (spent_page c.args.self.now.spec c.args.self.now.epoch y from c.args.upto trim lng es d)))) in
    spent ∙ ap (λ (b : Bool). b && is_spent c.args.self.now.spec (with_page c.args.self.now.epoch y from c.args.upto trim lng es d)) taken
