use Rattle.std.proofs.Common.{◌≡◌, ◌⊎◌, Bool, true, false, Ok, refl, ap, sym, ◌∙◌, subst, inl, inr, [], Some}
use Rattle.ld_rounds.specs.Drives.{IsBroken, counted, HasBroken}
use Rattle.ld_rounds.specs.Reaching.{Begins}
use Rattle.ld_rounds.specs.Onward.{reached, EndsRun}
use Rattle.ld_rounds.specs.declared.ended.Ended.{Ended}
use Rattle.ld_rounds.specs.declared.ended.Ended.TheVariants as ends
use Rattle.ld_append.specs.Acting.{Leaves, leaves_here}
use Rattle.ld_append.specs.Appends.{HasNone, EndAt, sequencing}
use Rattle.ld_rounds.proofs.Joining.{feeds_here, feeds_until}
use Rattle.ld_rounds.proofs.Endings.{later_here}
use Rattle.ld_rounds.proofs.Going.{stopped_here}
use Rattle.ld_append.proofs.Onward.{run_loud, ended_by, drove_on}
use Rattle.ld_append.proofs.drives.append.Goals as goal
use Rattle.ld_append.proofs.drives.append.Goals.{in-Ok-true, in-Ok-false, in-Err}

pub returns-in_default-clause-appended : goal.returns-in_default-clause-appended
returns-in_default-clause-appended g c s far b is unset told h =
    let i = g.P.Payloads.coming c.args.input.now in
    inr (stopped_here (sequencing c.args.name) (IsBroken (g.N.Nodes.faults c.args.nodes.now) (g.N.Nodes.faults c.args.nodes.now) (g.N.Nodes.endings c.args.nodes.now) (g.N.Nodes.endings c.args.nodes.now)) c.args.config.now s.network.count b (EndAt c.args.name c.args.spec.now.log c.args.config.now s.network.count (counted (g.N.Nodes.faults c.args.nodes.now) (g.N.Nodes.faults c.args.nodes.now) (g.N.Nodes.endings c.args.nodes.now) (g.N.Nodes.endings c.args.nodes.now)) (g.P.Payloads.coming c.args.input.now) c.args.rounds ends.NoMemory) s (Some (g.O.Sink.written c.args.out.now)) (inl (inl refl, feeds_until c.args.config.now i i ends.NoMemory s [] tt (feeds_here c.args.config.now i s))))

pub returns-in_default-clause-safe : goal.returns-in_default-clause-safe
returns-in_default-clause-safe g c before far b is unset told h =
    run_loud c.args.name c.args.spec.now.log (counted (g.N.Nodes.faults c.args.nodes.now) (g.N.Nodes.faults c.args.nodes.now) (g.N.Nodes.endings c.args.nodes.now) (g.N.Nodes.endings c.args.nodes.now)) (g.P.Payloads.coming c.args.input.now) c.args.rounds (g.N.Nodes.tells c.args.nodes.now) (g.G.Register.tells c.args.register) c.args.config.now b before (Some (g.O.Sink.written c.args.out.now)) (Some (g.O.Sink.written c.args.out.now)) (g.N.Nodes.silent c.args.nodes.now ≡ true) ends.NoMemory
    (returns-in_default-clause-appended g c (reached c.args.config.now before) far b is unset told h)

pub returns-clause-safe : goal.returns-clause-safe
returns-clause-safe g c before far b is unset told h =
    let k = c.args.config.now in
    let name = c.args.name in
    let a = c.new-acting.result in
    let y = c.drive.new.acting in
    let counts = counted (g.N.Nodes.faults c.args.nodes.now) (g.N.Nodes.faults c.drive.new.nodes) (g.N.Nodes.endings c.args.nodes.now) (g.N.Nodes.endings c.drive.new.nodes) in
    let old = Some (g.O.Sink.written c.args.out.now) in
    let new = Some (g.O.Sink.written c.drive.new.out) in
    let silent = g.N.Nodes.silent c.drive.new.nodes ≡ true in
    let begins = subst (λ q. Begins (HasNone name (g.G.Register.tells q)) k (reached k before) far) (sym c.new-acting.ensures.register) h in
    let drove = c.drive.ensures.drove c.new-acting.ensures.none (reached k before) far b is unset told begins in
    let on = λ (shut : Bool). drove_on name c.args.spec.now.log counts (g.P.Payloads.coming c.args.input.now) c.args.rounds (g.N.Nodes.tells c.drive.new.nodes) (g.G.Register.tells y.register) k b before old new silent shut c.drive.result drove in
    let ends_so = λ (e : Ended). silent ⊎ EndsRun (sequencing name) (HasBroken counts) k before old new e in
    elim c.match-drive.branch [
      | in-Ok-true w ↦ subst ends_so (ap (ended_by false) (w.in-Ok-true.is ∙ ap (λ (d : Bool). Ok d) w.in-Ok-true.field-0-test) ∙ sym w.ended-is) (on false)
      | in-Ok-false w ↦ subst ends_so (ap (ended_by w.is_shut.result) (w.in-Ok-false.is ∙ ap (λ (d : Bool). Ok d) w.in-Ok-false.field-0-test) ∙ sym (w.ended-is ∙ w.rounds_taken-ended.ensures)) (on w.is_shut.result)
      | in-Err w ↦ subst ends_so (ap (ended_by false) w.in-Err.is ∙ sym w.ended-is) (on false)
    ]

pub returns-clause-leaves : goal.returns-clause-leaves
returns-clause-leaves g c =
    let r = c.args.register in
    let y = c.drive.new.acting.register in
    let log = c.args.spec.now.log in
    subst (λ q. Leaves log (g.G.Register.told r) (g.G.Register.told q) (g.G.Register.may_hold r) (g.G.Register.may_hold q)) (sym c.into_register.ensures)
    (subst (λ q. Leaves log (g.G.Register.told q) (g.G.Register.told y) (g.G.Register.may_hold q) (g.G.Register.may_hold y)) c.new-acting.ensures.register (c.drive.ensures.leaves c.new-acting.ensures.none))

pub returns-clause-register : goal.returns-clause-register
returns-clause-register g c = ap g.G.Register.identity c.into_register.ensures ∙ (c.drive.ensures.register ∙ ap g.G.Register.identity c.new-acting.ensures.register)

pub returns-in_default-clause-leaves : goal.returns-in_default-clause-leaves
returns-in_default-clause-leaves g c = leaves_here c.args.spec.now.log (g.G.Register.told c.args.register) (g.G.Register.may_hold c.args.register)

pub returns-in_default-clause-output : goal.returns-in_default-clause-output
returns-in_default-clause-output g c = later_here _ _
