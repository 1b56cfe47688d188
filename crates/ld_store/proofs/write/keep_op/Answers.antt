use Rattle.std.proofs.Common.{◌≡◌, ◌⊎◌, Some, sym, subst}
use Rattle.std.specs.Prelude.{OnOk, is_ok}
use Rattle.ld_disk.specs.Moments.{LeavesOnly, Unchanged}
use Rattle.ld_disk.specs.Plain.{after_calls, all_succeed}
use Rattle.ld_segment.specs.Stays.{Rests}
use Rattle.ld_segment.specs.Lies.{IsRowTorn, row_made, row_of}
use Rattle.ld_store.specs.Laid.{layout_in, slots_in, IsPast}
use Rattle.ld_store.proofs.write.keep_op.Goals as goal

pub returns-clause-rests : goal.returns-clause-rests
returns-clause-rests g c b rests =
    subst (λ k. OnOk c.write_record.result (Rests g.D.Disk.seen g.D.Disk.may_leave c.write_record.new.disk (row_made k (layout_in c.args.laid.now c.args.index.now.state) (slots_in c.args.laid.now) c.args.body.items b))) c.base_kind.ensures (c.write_record.ensures.rests b rests)

pub returns-clause-any_moment : goal.returns-clause-any_moment
returns-clause-any_moment g c b rests =
    let D = g.D.Disk in
    subst (λ k. LeavesOnly D.moment D.left_since c.args.disk.now c.write_record.new.disk (IsRowTorn k (layout_in c.args.laid.now c.args.index.now.state) (slots_in c.args.laid.now) c.args.body.items b) ⊎ Unchanged D.seen D.may_leave D.moment D.left_since c.args.disk.now c.write_record.new.disk)
    c.base_kind.ensures (c.write_record.ensures.any_moment b rests)

pub returns-clause-exact : goal.returns-clause-exact
returns-clause-exact g c p told made =
    let D = g.D.Disk in
    subst (λ k. (D.plain c.write_record.new.disk ≡ Some (after_calls (row_of k (layout_in c.args.laid.now c.args.index.now.state) (slots_in c.args.laid.now) c.args.body.items) p))
    × (is_ok c.write_record.result ≡ all_succeed (row_of k (layout_in c.args.laid.now c.args.index.now.state) (slots_in c.args.laid.now) c.args.body.items) p)) c.base_kind.ensures (c.write_record.ensures.exact p told made)

pub returns-clause-full : goal.returns-clause-full
returns-clause-full g c is = subst (λ k. IsPast k (layout_in c.args.laid.now c.args.index.now.state) (slots_in c.args.laid.now) c.args.body.items) c.base_kind.ensures (c.write_record.ensures.full is)

pub returns-clause-within : goal.returns-clause-within
returns-clause-within g c made past = c.write_record.ensures.within made (subst (λ k. IsPast k (layout_in c.args.laid.now c.args.index.now.state) (slots_in c.args.laid.now) c.args.body.items) (sym c.base_kind.ensures) past)
