use Rattle.std.proofs.Common.{◌≡◌, ◌⊎◌, ◌∙◌, ℕ, refl, ap, sym, subst, inl, inr, Ok, Err, None, true, List, [], Some}
use Rattle.std.specs.Prelude.{Result, Bool, Option, IfErr}
use Rattle.std.proofs.lemmas.Result.{err_from_is_err_and}
use Rattle.ld_ids.specs.Set.{members}
use Rattle.ld_msg.specs.declared.msg.Msg.{Msg}
use Rattle.ld_rounds.specs.declared.ended.Ended.{Ended}
use Rattle.ld_rounds.specs.declared.ended.Ended.TheVariants as ends
use Rattle.ld_rounds.specs.Acts.{Own}
use Rattle.ld_rounds.specs.Drives.{AllTaken, IsBroken, Holds, counted, HasBroken}
use Rattle.ld_rounds.specs.Taking.{TookAppends}
use Rattle.ld_rounds.proofs.Visiting.{all_there}
use Rattle.ld_rounds.proofs.Joining.{feeds_here, feeds_until}
use Rattle.ld_rounds.specs.Reaching.{Begins}
use Rattle.ld_append.specs.Appends.{HasNone, EndAt, DroveAppend, IsDriveEnding, IsRefused, sequencing}
use Rattle.ld_rounds.proofs.Going.{whatever, stopped_here}
use Rattle.ld_append.proofs.Crowding.{shut_so, leaves_so}
use Rattle.ld_append.specs.Acting.{Serves, takes, MayCrowd, HoldsSome, LacksRoom, leaves_here}
use Rattle.ld_append.proofs.Appending.{begun, start_as, stopped_append, drove_loud}
use Rattle.ld_append.proofs.Ending.{rounds_cause}
use Rattle.ld_append.proofs.Keeping.{refused_since}
use Rattle.ld_rounds.specs.Endings.{IsOffAs, EndsOff}
use Rattle.ld_rounds.proofs.Endings.{none_off, later_here, later_on}
use Rattle.ld_append.proofs.Rounding.{round_cause, round_off, round_ends, round_refused, round_loud}
use Rattle.ld_append.specs.Refusing.{round_end}
use Rattle.ld_append.proofs.drives.drive.Goals as goal

ended_round : (kept end : Option Ended) (driven result : Result Bool Ended) → kept ≡ end → result ≡ round_end kept driven → result ≡ round_end end driven
ended_round kept end driven result e h = h ∙ ap (λ o. round_end o driven) e

pub returns-in_err-start-clause-cause : goal.returns-in_err-start-clause-cause
returns-in_err-start-clause-cause g c =
    let p = err_from_is_err_and c.from_residual.result c.from_residual.ensures.1 in
    rw (p.1, p.2) (inl c.in_err-start.ensures.cause)

pub returns-clause-cause : goal.returns-clause-cause
returns-clause-cause g c =
    let a = c.args.acting.now in
    let y = c.append-driven.new.sequencer in
    let ending = IsDriveEnding (g.G.Register.told a.register → MayCrowd (g.G.Register.may_hold a.register) c.args.spec.now.log) (λ place. g.G.Register.told a.register → g.G.Register.damaged a.register place) (g.P.Payloads.coming c.args.input.now) (g.P.Payloads.faults c.args.input.now) (g.P.Payloads.faults c.append-driven.new.input)
    (g.O.Sink.faults c.args.out.now) (g.O.Sink.faults c.append-driven.new.out) (Some (g.O.Sink.written c.args.out.now)) (Some (g.O.Sink.written c.append-driven.new.out)) in
    subst (λ (x : Result Bool Ended). IfErr x ending) (sym (ended_round c.end.result y.end c.append-driven.result c.round_end.result c.end.ensures c.round_end.ensures))
    (round_cause (g.G.Register.told a.register → MayCrowd (g.G.Register.may_hold a.register) c.args.spec.now.log) (λ place. g.G.Register.told a.register → g.G.Register.damaged a.register place) (g.P.Payloads.coming c.args.input.now) (g.P.Payloads.faults c.args.input.now) (g.P.Payloads.faults c.append-driven.new.input)
    (g.O.Sink.faults c.args.out.now) (g.O.Sink.faults c.append-driven.new.out) (Some (g.O.Sink.written c.args.out.now)) (Some (g.O.Sink.written c.append-driven.new.out)) _ _ y.end c.append-driven.result c.in_ok-start.ensures.later c.append-driven.ensures.cause)

pub returns-in_default-clause-drove : goal.returns-in_default-clause-drove
returns-in_default-clause-drove g c none s far b is unset told h =
    let i = g.P.Payloads.coming c.args.input.now in
    inr (stopped_here (sequencing c.args.name.now) (IsBroken (g.N.Nodes.faults c.args.nodes.now) (g.N.Nodes.faults c.args.nodes.now) (g.N.Nodes.endings c.args.nodes.now) (g.N.Nodes.endings c.args.nodes.now)) c.args.config.now s.network.count b (EndAt c.args.name.now c.args.spec.now.log c.args.config.now s.network.count (counted (g.N.Nodes.faults c.args.nodes.now) (g.N.Nodes.faults c.args.nodes.now) (g.N.Nodes.endings c.args.nodes.now) (g.N.Nodes.endings c.args.nodes.now)) i c.args.rounds ends.NoMemory) s (Some (g.O.Sink.written c.args.out.now)) (inl (inl refl, feeds_until c.args.config.now i i ends.NoMemory s [] tt (feeds_here c.args.config.now i s))))

pub returns-in_err-start-clause-drove : goal.returns-in_err-start-clause-drove
returns-in_err-start-clause-drove g c none s far b is unset told h =
    let p = err_from_is_err_and c.from_residual.result c.from_residual.ensures.1 in
    let k = c.args.config.now in
    let first = s.network.count in
    let name = c.args.name.now in
    let counts = counted (g.N.Nodes.faults c.args.nodes.now) (g.N.Nodes.faults c.args.nodes.now) (g.N.Nodes.endings c.args.nodes.now) (g.N.Nodes.endings c.args.nodes.now) in
    let broken = HasBroken counts in
    let old = Some (g.O.Sink.written c.args.out.now) in
    let new = Some (g.O.Sink.written c.start.new.out) in
    let a = c.args.acting.now in
    let z = c.start.new.acting in
    let e = c.in_err-start.field-0.0 in
    let T = g.G.Register.tells a.register in
    let begins = subst (λ (qs : List (List Msg)). Holds (Serves a.name None T) k first s far qs) (sym c.in-Ok.ensures) (begun a.name T k s far (subst (λ (n : List ℕ). Begins (HasNone n T) k s far) (sym c.requires.named) h)) in
    let stops = start_as a.name name c.args.spec.now.log broken k b first (Serves z.name z.sequencer (g.G.Register.tells z.register)) far (AllTaken (g.N.Nodes.tells c.args.nodes.now k)) s c.start.new.queues old new c.requires.named (told, h.answers) (Err e) (c.in_err-start.ensures.started none first s far b is unset begins) in
    let i = g.P.Payloads.coming c.args.input.now in
    rw (p.1, p.2) (inr (stopped_append name c.args.spec.now.log counts i c.args.rounds (g.N.Nodes.tells c.args.nodes.now) k b s z.name (c.in_err-start.ensures.name ∙ c.requires.named) z.sequencer (g.G.Register.tells z.register) c.start.new.queues old new
    (g.G.Register.told a.register → MayCrowd (g.G.Register.may_hold a.register) c.args.spec.now.log) (λ place. g.G.Register.told a.register → g.G.Register.damaged a.register place) i e 0 0 (g.O.Sink.faults c.args.out.now) (g.O.Sink.faults c.start.new.out) c.in_err-start.ensures.cause stops))

pub returns-clause-drove : goal.returns-clause-drove
returns-clause-drove g c none s far b is unset told h =
    let k = c.args.config.now in
    let first = s.network.count in
    let name = c.args.name.now in
    let counts = counted (g.N.Nodes.faults c.args.nodes.now) (g.N.Nodes.faults c.append-driven.new.nodes) (g.N.Nodes.endings c.args.nodes.now) (g.N.Nodes.endings c.append-driven.new.nodes) in
    let broken = HasBroken counts in
    let old = Some (g.O.Sink.written c.args.out.now) in
    let mid = Some (g.O.Sink.written c.start.new.out) in
    let new = Some (g.O.Sink.written c.append-driven.new.out) in
    let a = c.args.acting.now in
    let z = c.start.new.acting in
    let y = c.append-driven.new.sequencer in
    let A = Serves z.name z.sequencer (g.G.Register.tells z.register) in
    let T = g.G.Register.tells a.register in
    let begins = subst (λ (qs : List (List Msg)). Holds (Serves a.name None T) k first s far qs) (sym c.in-Ok.ensures) (begun a.name T k s far (subst (λ (n : List ℕ). Begins (HasNone n T) k s far) (sym c.requires.named) h)) in
    let w = start_as a.name name c.args.spec.now.log broken k b first A far (AllTaken (g.N.Nodes.tells c.args.nodes.now k)) s c.start.new.queues old mid c.requires.named (told, h.answers) (Ok tt) (c.in_ok-start.ensures.started none first s far b is unset begins) in
    let i = g.P.Payloads.coming c.args.input.now in
    let same : y.name ≡ name = ap (λ (x : Own). x.name) c.append-driven.ensures.actor ∙ (c.in_ok-start.ensures.name ∙ c.requires.named) in
    let driven = drove_loud name c.args.spec.now.log counts i c.args.rounds (g.N.Nodes.tells c.append-driven.new.nodes) k b s y.name same y.sequencer (g.G.Register.tells y.register) c.append-driven.new.queues old new A (AllTaken (g.N.Nodes.tells c.args.nodes.now k)) c.start.new.queues mid
    (g.G.Register.told a.register → MayCrowd (g.G.Register.may_hold a.register) c.args.spec.now.log) (λ place. g.G.Register.told a.register → g.G.Register.damaged a.register place) i (g.P.Payloads.faults c.args.input.now) (g.P.Payloads.faults c.append-driven.new.input) (g.O.Sink.faults c.args.out.now) (g.O.Sink.faults c.append-driven.new.out) w
    (g.N.Nodes.silent c.append-driven.new.nodes ≡ true) c.append-driven.result c.append-driven.ensures.settled (rounds_cause _ _ _ _ _ _ _ _ _ _ _ c.append-driven.result c.in_ok-start.ensures.later c.append-driven.ensures.cause) (subst (λ (n : List ℕ). (g.N.Nodes.silent c.append-driven.new.nodes ≡ true) ⊎ TookAppends (record { name = name; takes = takes n; ticks = None }) counts (members k.nodes) i c.args.rounds (Serves y.name y.sequencer (g.G.Register.tells y.register)) (AllTaken (g.N.Nodes.tells c.append-driven.new.nodes k)) k first w.moved.state c.append-driven.new.queues mid new c.append-driven.result)
    (c.in_ok-start.ensures.name ∙ c.requires.named) (c.append-driven.ensures.held k first w.moved.state w.far b (all_there k) w.told w.moved.holds)) in
    subst (λ (x : Result Bool Ended). (g.N.Nodes.silent c.append-driven.new.nodes ≡ true) ⊎ DroveAppend name c.args.spec.now.log counts i c.args.rounds (g.N.Nodes.tells c.append-driven.new.nodes) (g.G.Register.tells y.register) k s old new x) (sym (ended_round c.end.result y.end c.append-driven.result c.round_end.result c.end.ensures c.round_end.ensures))
    (round_loud name c.args.spec.now.log counts i c.args.rounds (g.N.Nodes.tells c.append-driven.new.nodes) (g.G.Register.tells y.register) k b s old new (g.N.Nodes.silent c.append-driven.new.nodes ≡ true) y.end c.append-driven.result driven)

pub returns-clause-shut : goal.returns-clause-shut
returns-clause-shut g c none unshut =
    let z = c.start.new.acting in
    let y = c.append-driven.new.sequencer in
    let a = c.args.acting.now in
    whatever c.round_end.result
    (shut_so c.args.spec.now.log z.sequencer y.sequencer (g.G.Register.told a.register) (g.G.Register.told z.register) (g.G.Register.told y.register) (g.G.Register.may_hold a.register) (g.G.Register.may_hold z.register) (g.G.Register.may_hold y.register) z.is_shut y.is_shut
    (c.in_ok-start.ensures.active none) (c.in_ok-start.ensures.shut ∙ unshut) c.in_ok-start.ensures.leaves c.append-driven.ensures.since.0)

pub returns-clause-leaves : goal.returns-clause-leaves
returns-clause-leaves g c none =
    let z = c.start.new.acting in
    let y = c.append-driven.new.sequencer in
    let a = c.args.acting.now in
    leaves_so c.args.spec.now.log z.sequencer y.sequencer (g.G.Register.told a.register) (g.G.Register.told z.register) (g.G.Register.told y.register) (g.G.Register.may_hold a.register) (g.G.Register.may_hold z.register) (g.G.Register.may_hold y.register) z.is_shut y.is_shut
    (c.in_ok-start.ensures.active none) c.in_ok-start.ensures.leaves c.append-driven.ensures.since.0

pub returns-clause-register : goal.returns-clause-register
returns-clause-register g c = c.append-driven.ensures.since.1 ∙ c.in_ok-start.ensures.itself

pub returns-in_default-clause-leaves : goal.returns-in_default-clause-leaves
returns-in_default-clause-leaves g c = λ none. leaves_here c.args.spec.now.log (g.G.Register.told c.args.acting.now.register) (g.G.Register.may_hold c.args.acting.now.register)

pub returns-in_err-start-clause-refused : goal.returns-in_err-start-clause-refused
returns-in_err-start-clause-refused g c =
    let p = err_from_is_err_and c.from_residual.result c.from_residual.ensures.1 in
    λ none. rw (p.1, p.2) c.in_err-start.ensures.refused

pub returns-clause-refused : goal.returns-clause-refused
returns-clause-refused g c none =
    let a = c.args.acting.now in
    let z = c.start.new.acting in
    let y = c.append-driven.new.sequencer in
    let told = g.G.Register.told a.register in
    let damaged = λ (place : ℕ). told → g.G.Register.damaged a.register place in
    let whole = told → HoldsSome (g.G.Register.holds a.register) × LacksRoom (g.G.Register.holds y.register) in
    subst (λ (x : Result Bool Ended). IfErr x (IsRefused damaged whole (g.G.Register.faults a.register) (g.G.Register.faults y.register))) (sym (ended_round c.end.result y.end c.append-driven.result c.round_end.result c.end.ensures c.round_end.ensures))
    (round_refused damaged whole (g.G.Register.faults a.register) (g.G.Register.faults y.register) y.end c.append-driven.result
    (λ r h. refused_since (g.G.Register.damaged a.register) told (g.G.Register.holds a.register) (g.G.Register.holds z.register) (g.G.Register.holds y.register) (g.G.Register.faults a.register) (g.G.Register.faults z.register) (g.G.Register.faults y.register) z.end y.end (c.in_ok-start.ensures.on none) c.append-driven.ensures.since.2 r h))

pub returns-in_err-start-clause-off : goal.returns-in_err-start-clause-off
returns-in_err-start-clause-off g c =
    let p = err_from_is_err_and c.from_residual.result c.from_residual.ensures.1 in
    rw (p.1, p.2) (c.in_err-start.ensures.off (g.N.Nodes.off c.args.nodes.now))

pub returns-clause-off : goal.returns-clause-off
returns-clause-off g c =
    let off = g.N.Nodes.off c.append-driven.new.nodes in
    subst (λ (x : Result Bool Ended). IfErr x (IsOffAs off)) (sym c.round_end.ensures) (round_off off c.end.result c.append-driven.result c.append-driven.ensures.off)

pub returns-in_default-clause-ended : goal.returns-in_default-clause-ended
returns-in_default-clause-ended g c = λ none. none_off _ _ none

pub returns-in_err-start-clause-ended : goal.returns-in_err-start-clause-ended
returns-in_err-start-clause-ended g c = λ none. none_off _ _ none

pub returns-clause-ended : goal.returns-clause-ended
returns-clause-ended g c =
    let off = g.N.Nodes.off c.append-driven.new.nodes in
    λ none. subst (λ (x : Result Bool Ended). EndsOff off x) (sym c.round_end.ensures) (round_ends off c.end.result c.append-driven.result (c.append-driven.ensures.ended none))

pub returns-in_default-clause-output : goal.returns-in_default-clause-output
returns-in_default-clause-output g c = later_here _ _

pub returns-clause-output : goal.returns-clause-output
returns-clause-output g c = later_on _ _ _ _ _ _ c.in_ok-start.ensures.later c.append-driven.ensures.later
