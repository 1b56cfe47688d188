use Rattle.std.proofs.Common.{◌≡◌, inr, ⊎_elim, ℕ, OnOk, Bool, Option, None, Some, true, false, sym, ◌∙◌, ap, subst}
use Rattle.ld_segment.specs.Lies.{StandsForEither}
use Rattle.ld_segment.specs.Plans.{seen_plan}
use Rattle.ld_segment.specs.Groups.{IsStaged, IsGroupTorn}
use Rattle.ld_segment.proofs.Steps.{said_as, then_on}
use Rattle.ld_store.specs.Group.{told_plain, first_in, IsSafeAs, IsGroupOn, IsGroupWith}
use Rattle.ld_store.proofs.Staging.{on_ok, begun_on, begun_leaves, gone_on, gone_on_leaves, opened, opened_plain, open_torn, behind_all}
use Rattle.ld_store.proofs.group.write_staged.Goals as goal

-- whose gate is the group's
none_first : (staged : Option ℕ) (is_full : Bool) (gate : ℕ) → staged ≡ None → gate ≡ first_in staged is_full gate
none_first staged is_full gate is = sym (ap (λ t. first_in t is_full gate) is)

full_first : (staged : Option ℕ) (is_full : Bool) (gate first : ℕ) → staged ≡ Some first → is_full ≡ true → gate ≡ first_in staged is_full gate
full_first staged is_full gate first is full = sym (ap (λ t. first_in t is_full gate) is ∙ ap (λ b. first_in (Some first) b gate) full)

next_first : (staged : Option ℕ) (is_full : Bool) (gate first : ℕ) → staged ≡ Some first → is_full ≡ false → first ≡ first_in staged is_full gate
next_first staged is_full gate first is goes = sym (ap (λ t. first_in t is_full gate) is ∙ ap (λ b. first_in (Some first) b gate) goes)

pub returns-in-None-clause-staged : goal.returns-in-None-clause-staged
returns-in-None-clause-staged g c p y z o group may is full =
    let D = g.D.Disk in
    let old = c.args.disk.now in
    let new = c.stage_op.new.disk in
    let a = seen_plan c.args.plan.now in
    let safe : IsSafeAs D.seen D.may_leave old p y z = subst (λ t. IsGroupOn D.seen D.may_leave old t p y z) c.in-None.is group in
    subst (λ k. OnOk c.stage_op.result (IsGroupWith D.seen D.may_leave old new k p y z o)) (none_first c.args.staged c.args.is_full a.gate c.in-None.is)
    (begun_on D.seen D.may_leave p y z o may D.moment D.left_since old safe c.stage_op.result new a is c.stage_op.ensures.staged)

pub returns-in-None-clause-any_moment : goal.returns-in-None-clause-any_moment
returns-in-None-clause-any_moment g c p y z o group may is full =
    let D = g.D.Disk in
    let old = c.args.disk.now in
    let safe : IsSafeAs D.seen D.may_leave old p y z = subst (λ t. IsGroupOn D.seen D.may_leave old t p y z) c.in-None.is group in
    begun_leaves D.seen D.may_leave p y z o may D.moment D.left_since old safe c.stage_op.new.disk (told_plain (D.seen old) y.index) (seen_plan c.args.plan.now) is c.stage_op.ensures.any_moment

pub returns-in_err-open_group-in-Some-clause-any_moment : goal.returns-in_err-open_group-in-Some-clause-any_moment
returns-in_err-open_group-in-Some-clause-any_moment g c p y z o group may is full =
    let D = g.D.Disk in
    let old = c.args.disk.now in
    let s : IsStaged D.seen D.may_leave old c.in-Some.gate p y z = subst (λ t. IsGroupOn D.seen D.may_leave old t p y z) c.in-Some.is group in
    said_as D.seen D.may_leave D.moment D.left_since old c.open_group.new.disk (IsGroupTorn c.in-Some.gate s.size s.safe s.shown) (StandsForEither p (told_plain (D.seen old) y.index)) (c.open_group.ensures.any_moment s.size s.safe s.shown s.tears)
    (open_torn D.seen D.may_leave p y z old c.in-Some.gate s (g.met.D.Disk.reads_an_image old s.shown s.tears.bytes_are))

pub returns-in_ok-open_group-in-Some-clause-staged : goal.returns-in_ok-open_group-in-Some-clause-staged
returns-in_ok-open_group-in-Some-clause-staged g c p y z o group may is full =
    let D = g.D.Disk in
    let old = c.args.disk.now in
    let mid = c.open_group.new.disk in
    let new = c.stage_op-then-is_full.new.disk in
    let a = seen_plan c.args.plan.now in
    let first = c.in-Some.gate in
    let s : IsStaged D.seen D.may_leave old first p y z = subst (λ t. IsGroupOn D.seen D.may_leave old t p y z) c.in-Some.is group in
    let rests = c.in_ok-open_group-in-Some.ensures.rests s.size s.safe s.shown s.tears in
    let safe = opened D.seen D.may_leave p y z old first s mid rests in
    subst (λ k. OnOk c.stage_op-then-is_full.result (IsGroupWith D.seen D.may_leave old new k p y z o)) (full_first c.args.staged c.args.is_full a.gate first c.in-Some.is c.if-is_full.true)
    (on_ok c.stage_op-then-is_full.result
    (begun_on D.seen D.may_leave (told_plain (D.seen old) y.index) y z o may D.moment D.left_since mid safe c.stage_op-then-is_full.result new a is c.stage_op-then-is_full.ensures.staged)
    (behind_all D.seen D.may_leave p y z old first s mid new a.gate o (opened_plain D.seen D.may_leave p y z old first s mid rests)))

pub returns-in_ok-open_group-in-Some-clause-any_moment : goal.returns-in_ok-open_group-in-Some-clause-any_moment
returns-in_ok-open_group-in-Some-clause-any_moment g c p y z o group may is full =
    let D = g.D.Disk in
    let old = c.args.disk.now in
    let mid = c.open_group.new.disk in
    let new = c.stage_op-then-is_full.new.disk in
    let first = c.in-Some.gate in
    let q = told_plain (D.seen old) y.index in
    let s : IsStaged D.seen D.may_leave old first p y z = subst (λ t. IsGroupOn D.seen D.may_leave old t p y z) c.in-Some.is group in
    let rests = c.in_ok-open_group-in-Some.ensures.rests s.size s.safe s.shown s.tears in
    let safe = opened D.seen D.may_leave p y z old first s mid rests in
    then_on D.seen D.may_leave D.moment D.left_since old mid new (IsGroupTorn first s.size s.safe s.shown) (StandsForEither q q) (StandsForEither p q) (c.open_group.ensures.any_moment s.size s.safe s.shown s.tears)
    (begun_leaves D.seen D.may_leave q y z o may D.moment D.left_since mid safe new q (seen_plan c.args.plan.now) is c.stage_op-then-is_full.ensures.any_moment)
    (open_torn D.seen D.may_leave p y z old first s (g.met.D.Disk.reads_an_image old s.shown s.tears.bytes_are))
    (λ b torn. inr (⊎_elim (λ one. one) (λ one. one) torn))

pub returns-else-is_full-clause-staged : goal.returns-else-is_full-clause-staged
returns-else-is_full-clause-staged g c p y z o group may is full =
    let D = g.D.Disk in
    let old = c.args.disk.now in
    let new = c.stage_next.new.disk in
    let a = seen_plan c.args.plan.now in
    let first = c.in-Some.gate in
    let s : IsStaged D.seen D.may_leave old first p y z = subst (λ t. IsGroupOn D.seen D.may_leave old t p y z) c.in-Some.is group in
    subst (λ k. OnOk c.stage_next.result (IsGroupWith D.seen D.may_leave old new k p y z o)) (next_first c.args.staged c.args.is_full a.gate first c.in-Some.is c.if-is_full.false)
    (gone_on D.seen D.may_leave p y z o may (sym full ∙ c.if-is_full.false) old first s c.stage_next.result new a is c.stage_next.ensures.staged)

pub returns-else-is_full-clause-any_moment : goal.returns-else-is_full-clause-any_moment
returns-else-is_full-clause-any_moment g c p y z o group may is full =
    let D = g.D.Disk in
    let old = c.args.disk.now in
    let first = c.in-Some.gate in
    let s : IsStaged D.seen D.may_leave old first p y z = subst (λ t. IsGroupOn D.seen D.may_leave old t p y z) c.in-Some.is group in
    gone_on_leaves D.seen D.may_leave p y z o may (sym full ∙ c.if-is_full.false) old first s D.moment D.left_since c.stage_next.new.disk (told_plain (D.seen old) y.index) (seen_plan c.args.plan.now) is c.stage_next.ensures.any_moment
