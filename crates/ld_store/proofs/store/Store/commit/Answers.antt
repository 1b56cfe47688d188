use Rattle.std.proofs.Common.{refl}
use Rattle.ld_disk.proofs.Runs.{begins_on}
use Rattle.ld_segment.specs.Lies.{StandsForEither}
use Rattle.ld_segment.specs.Groups.{IsGroupTorn}
use Rattle.ld_segment.proofs.Steps.{said_as}
use Rattle.ld_store.specs.Open.{disk_of, plain_of}
use Rattle.ld_store.proofs.Ahead.{same_stands, staged_there, either_stands, plain_now, holds_now}
use Rattle.ld_store.proofs.store.Store.commit.Goals as goal

pub returns-in_err-reserve-in-Some-clause-any_moment : goal.returns-in_err-reserve-in-Some-clause-any_moment
returns-in_err-reserve-in-Some-clause-any_moment g c p h =
    let D = g.D.Disk in
    same_stands D.seen D.may_leave D.moment D.left_since g.met.D.Disk.only_now c.args.self.now c.reserve.new.self p (plain_of c.args.self.now) h c.in_err-reserve-in-Some.ensures.same

pub returns-in-Ok-clause-durable : goal.returns-in-Ok-clause-durable
returns-in-Ok-clause-durable g c p h =
    let D = g.D.Disk in
    let old = c.args.self.now in
    let mid = c.reserve.new.self in
    let same = c.in_ok-reserve-in-Some.ensures.same in
    let s = staged_there D.may_leave old p h c.in-Some.gate c.in-Some.is mid same.bytes same.crash in
    holds_now D.may_leave old p h c.in-Some.gate c.in-Some.is mid same.bytes s _ (c.in-Ok.ensures.rests s.size s.safe s.shown s.tears) refl refl refl c.if-self.false refl

pub returns-in-Ok-clause-plain : goal.returns-in-Ok-clause-plain
returns-in-Ok-clause-plain g c p h =
    let D = g.D.Disk in
    let old = c.args.self.now in
    let mid = c.reserve.new.self in
    let same = c.in_ok-reserve-in-Some.ensures.same in
    let s = staged_there D.may_leave old p h c.in-Some.gate c.in-Some.is mid same.bytes same.crash in
    plain_now D.may_leave old p h c.in-Some.gate c.in-Some.is mid same.bytes s c.open_group.new.disk (c.in-Ok.ensures.rests s.size s.safe s.shown s.tears)

pub returns-in-Ok-clause-any_moment : goal.returns-in-Ok-clause-any_moment
returns-in-Ok-clause-any_moment g c p h =
    let D = g.D.Disk in
    let old = c.args.self.now in
    let mid = c.reserve.new.self in
    let new = c.open_group.new.disk in
    let same = c.in_ok-reserve-in-Some.ensures.same in
    let s = staged_there D.may_leave old p h c.in-Some.gate c.in-Some.is mid same.bytes same.crash in
    begins_on D.moment D.left_since D.seen D.may_leave (disk_of old) mid new (StandsForEither p (plain_of old)) same
    (said_as D.seen D.may_leave D.moment D.left_since mid new (IsGroupTorn c.in-Some.gate s.size s.safe s.shown) (StandsForEither p (plain_of old)) (c.open_group.ensures.any_moment s.size s.safe s.shown s.tears)
    (either_stands D.may_leave old p h c.in-Some.gate c.in-Some.is mid same.bytes s (g.met.D.Disk.reads_an_image mid s.shown s.tears.bytes_are)))

pub returns-in-Err-clause-any_moment : goal.returns-in-Err-clause-any_moment
returns-in-Err-clause-any_moment g c p h =
    let D = g.D.Disk in
    let old = c.args.self.now in
    let mid = c.reserve.new.self in
    let new = c.open_group.new.disk in
    let same = c.in_ok-reserve-in-Some.ensures.same in
    let s = staged_there D.may_leave old p h c.in-Some.gate c.in-Some.is mid same.bytes same.crash in
    begins_on D.moment D.left_since D.seen D.may_leave (disk_of old) mid new (StandsForEither p (plain_of old)) same
    (said_as D.seen D.may_leave D.moment D.left_since mid new (IsGroupTorn c.in-Some.gate s.size s.safe s.shown) (StandsForEither p (plain_of old)) (c.open_group.ensures.any_moment s.size s.safe s.shown s.tears)
    (either_stands D.may_leave old p h c.in-Some.gate c.in-Some.is mid same.bytes s (g.met.D.Disk.reads_an_image mid s.shown s.tears.bytes_are)))
