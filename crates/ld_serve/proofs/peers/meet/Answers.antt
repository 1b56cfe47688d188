use Rattle.std.proofs.Common.{[], Some, sym, subst}
use Rattle.ld_serve.specs.Told.{Serves}
use Rattle.ld_serve.proofs.Courses.{none_came, one_came}
use Rattle.ld_serve.proofs.peers.meet.Goals as goal

pub returns-in-Ok-true-clause-met : goal.returns-in-Ok-true-clause-met
returns-in-Ok-true-clause-met g c id known start s state turns goes =
    let between = rw c.if-is_there.false at goes in
    let fresh = rw c.in-Ok-true.field-0-test at c.in-Ok-true.ensures.peer in
    rw c.new.ensures (one_came _ _ start s _ _ state turns between fresh)

pub returns-in-Ok-false-clause-met : goal.returns-in-Ok-false-clause-met
returns-in-Ok-false-clause-met g c id known start s state turns goes =
    let between = rw c.if-is_there.false at goes in
    let none = rw c.in-Ok-false.field-0-test at c.in-Ok-false.ensures.peer in
    none_came _ _ start s _ _ state turns between none

pub returns-in-Ok-true-clause-met_heard : goal.returns-in-Ok-true-clause-met_heard
returns-in-Ok-true-clause-met_heard g c start all more turns goes =
    let between = rw c.if-is_there.false at goes in
    let fresh = rw c.in-Ok-true.field-0-test at c.in-Ok-true.ensures.peer in
    rw c.new.ensures (one_came _ _ start all _ _ more turns between fresh)

pub returns-in-Ok-false-clause-met_heard : goal.returns-in-Ok-false-clause-met_heard
returns-in-Ok-false-clause-met_heard g c start all more turns goes =
    let between = rw c.if-is_there.false at goes in
    let none = rw c.in-Ok-false.field-0-test at c.in-Ok-false.ensures.peer in
    none_came _ _ start all _ _ more turns between none

pub returns-in-Ok-true-clause-told : goal.returns-in-Ok-true-clause-told
returns-in-Ok-true-clause-told g c old taken turns so =
    let before = rw c.if-is_there.false at so in
    let did = rw c.in-Ok-true.field-0-test at c.in-Ok-true.ensures.did in
    rw c.new.ensures (subst (λ d. Serves old taken d (Some []) turns) (sym did) (Serves.comes taken _ turns before))
