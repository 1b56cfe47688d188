use Rattle.std.proofs.Common.{◌≡◌, ◌⊎◌, ℕ, refl, sym, ap, ◌∙◌, subst, inl, inr, None, true, Some}
use Rattle.ld_rounds.specs.declared.ended.Ended.{Ended}
use Rattle.ld_rounds.specs.declared.ended.Ended.TheVariants as ends
use Rattle.ld_rounds.specs.Drives.{IsBroken, counted}
use Rattle.ld_rounds.specs.Endings.{IsOffAs, EndedOff}
use Rattle.ld_rounds.specs.Reaching.{Begins}
use Rattle.ld_rounds.specs.Onward.{reached}
use Rattle.ld_rounds.proofs.Going.{stopped_here}
use Rattle.ld_rounds.proofs.Endings.{none_ended}
use Rattle.ld_rounds.specs.Refusals.{HeldNone}
use Rattle.ld_tail.specs.Looking.{IsLookEnd, HasLooked, why_of}
use Rattle.ld_tail.specs.Tails.{HasNone, EndAt, IsTailed, IsTailEnd, DroveTail, tailing}
use Rattle.ld_tail.proofs.Looked.{why_is}
use Rattle.ld_tail.proofs.Tailing.{tail_end, end_off, end_ended, tailed_loud}
use Rattle.ld_tail.proofs.Onward.{run_loud}
use Rattle.ld_tail.proofs.tails.tail.Goals as goal

pub returns-in_default-clause-tailed : goal.returns-in_default-clause-tailed
returns-in_default-clause-tailed g c s far told h =
    inr (stopped_here (tailing (record { name = c.args.name; log = c.args.log; from = c.args.from; until = c.args.until; style = c.args.style })) (IsBroken (g.N.Nodes.faults c.args.nodes.now) (g.N.Nodes.faults c.args.nodes.now) (g.N.Nodes.endings c.args.nodes.now) (g.N.Nodes.endings c.args.nodes.now)) c.args.config.now s.network.count c.requires (EndAt (record { name = c.args.name; log = c.args.log; from = c.args.from; until = c.args.until; style = c.args.style }) c.args.config.now s.network.count c.args.rounds (counted (g.N.Nodes.faults c.args.nodes.now) (g.N.Nodes.faults c.args.nodes.now) (g.N.Nodes.endings c.args.nodes.now) (g.N.Nodes.endings c.args.nodes.now))) s (Some (g.O.Sink.written c.args.out.now)) (inl (inl refl)))

pub returns-clause-tailed : goal.returns-clause-tailed
returns-clause-tailed g c s far told h =
    let r = c.args.register in
    let a = c.new-reading.result in
    let y = c.drive-driven.new.reading in
    let x = c.into_register.result in
    let looked : HasLooked None y.end (g.G.Register.told r) (g.G.Register.told x) (g.G.Register.holds r) (g.G.Register.holds x) (g.G.Register.may_hold r) (g.G.Register.may_hold x) (g.G.Register.faults r) (g.G.Register.faults x) (g.G.Register.identity r) (g.G.Register.identity x) = subst (λ q. HasLooked None y.end (g.G.Register.told r) (g.G.Register.told q) (g.G.Register.holds r) (g.G.Register.holds q) (g.G.Register.may_hold r) (g.G.Register.may_hold q) (g.G.Register.faults r) (g.G.Register.faults q) (g.G.Register.identity r) (g.G.Register.identity q)) (sym c.into_register.ensures) (subst (λ q. HasLooked None y.end (g.G.Register.told q) (g.G.Register.told y.register) (g.G.Register.holds q) (g.G.Register.holds y.register) (g.G.Register.may_hold q) (g.G.Register.may_hold y.register) (g.G.Register.faults q) (g.G.Register.faults y.register) (g.G.Register.identity q) (g.G.Register.identity y.register)) c.new-reading.ensures.register c.drive-driven.ensures.looked) in
    let why = subst (IsLookEnd (λ place. g.G.Register.told r → g.G.Register.damaged r place) (g.G.Register.faults r) (g.G.Register.faults x)) (sym (c.why_of.ensures ∙ ap why_of c.end.ensures))
    (why_is (HeldNone (g.G.Register.holds r)) (λ place. g.G.Register.told r → g.G.Register.damaged r place) (g.G.Register.faults r) (g.G.Register.faults x) y.end looked.ended
    (λ place is. subst (λ q. (g.G.Register.told q → g.G.Register.damaged q place)) c.new-reading.ensures.register (c.drive-driven.ensures.damaged place is))) in
    let k = c.args.config.now in
    let old = Some (g.O.Sink.written c.args.out.now) in
    let new = Some (g.O.Sink.written c.drive-driven.new.out) in
    let begins = subst (λ q. Begins (HasNone (g.G.Register.tells q)) k s far) (sym c.new-reading.ensures.register) h in
    let drove = subst (λ (l : ℕ). (g.N.Nodes.silent c.drive-driven.new.nodes ≡ true) ⊎ DroveTail (record { name = c.args.name; log = l; from = c.args.from; until = c.args.until; style = c.args.style }) (counted (g.N.Nodes.faults c.args.nodes.now) (g.N.Nodes.faults c.drive-driven.new.nodes) (g.N.Nodes.endings c.args.nodes.now) (g.N.Nodes.endings c.drive-driven.new.nodes)) c.args.rounds (g.N.Nodes.tells c.drive-driven.new.nodes) (g.G.Register.tells y.register) k s old new c.drive-driven.result) c.new-reading.ensures.log (c.drive-driven.ensures.drove s far told begins) in
    let drove_here = subst (λ q. (g.N.Nodes.silent c.drive-driven.new.nodes ≡ true) ⊎ DroveTail (record { name = c.args.name; log = c.args.log; from = c.args.from; until = c.args.until; style = c.args.style }) (counted (g.N.Nodes.faults c.args.nodes.now) (g.N.Nodes.faults c.drive-driven.new.nodes) (g.N.Nodes.endings c.args.nodes.now) (g.N.Nodes.endings c.drive-driven.new.nodes)) c.args.rounds (g.N.Nodes.tells c.drive-driven.new.nodes) (g.G.Register.tells q) k s old new c.drive-driven.result) (sym c.into_register.ensures) drove in
    subst (λ (e : Ended). (g.N.Nodes.silent c.drive-driven.new.nodes ≡ true) ⊎ IsTailed (record { name = c.args.name; log = c.args.log; from = c.args.from; until = c.args.until; style = c.args.style }) (counted (g.N.Nodes.faults c.args.nodes.now) (g.N.Nodes.faults c.drive-driven.new.nodes) (g.N.Nodes.endings c.args.nodes.now) (g.N.Nodes.endings c.drive-driven.new.nodes)) c.args.rounds (g.N.Nodes.tells c.drive-driven.new.nodes) (g.G.Register.tells x) k s old new e) (sym c.end_of-ended.ensures)
    (tailed_loud (λ place. g.G.Register.told r → g.G.Register.damaged r place) (g.G.Register.faults r) (g.G.Register.faults x) (g.O.Sink.faults c.args.out.now) (g.O.Sink.faults c.drive-driven.new.out) (record { name = c.args.name; log = c.args.log; from = c.args.from; until = c.args.until; style = c.args.style }) (counted (g.N.Nodes.faults c.args.nodes.now) (g.N.Nodes.faults c.drive-driven.new.nodes) (g.N.Nodes.endings c.args.nodes.now) (g.N.Nodes.endings c.drive-driven.new.nodes)) c.args.rounds (g.N.Nodes.tells c.drive-driven.new.nodes) (g.G.Register.tells x) k s old new (g.N.Nodes.silent c.drive-driven.new.nodes ≡ true) c.drive-driven.result c.why_of.result why drove_here)

pub returns-in_default-clause-safe : goal.returns-in_default-clause-safe
returns-in_default-clause-safe g c before far told h =
    run_loud (record { name = c.args.name; log = c.args.log; from = c.args.from; until = c.args.until; style = c.args.style }) (counted (g.N.Nodes.faults c.args.nodes.now) (g.N.Nodes.faults c.args.nodes.now) (g.N.Nodes.endings c.args.nodes.now) (g.N.Nodes.endings c.args.nodes.now)) c.args.rounds (g.N.Nodes.tells c.args.nodes.now) (g.G.Register.tells c.args.register) c.args.config.now c.requires before (Some (g.O.Sink.written c.args.out.now)) (Some (g.O.Sink.written c.args.out.now)) (g.N.Nodes.silent c.args.nodes.now ≡ true) ends.NoMemory
    (returns-in_default-clause-tailed g c (reached c.args.config.now before) far told h)

pub returns-clause-safe : goal.returns-clause-safe
returns-clause-safe g c before far told h =
    run_loud (record { name = c.args.name; log = c.args.log; from = c.args.from; until = c.args.until; style = c.args.style }) (counted (g.N.Nodes.faults c.args.nodes.now) (g.N.Nodes.faults c.drive-driven.new.nodes) (g.N.Nodes.endings c.args.nodes.now) (g.N.Nodes.endings c.drive-driven.new.nodes)) c.args.rounds (g.N.Nodes.tells c.drive-driven.new.nodes) (g.G.Register.tells c.into_register.result) c.args.config.now c.requires before (Some (g.O.Sink.written c.args.out.now)) (Some (g.O.Sink.written c.drive-driven.new.out)) (g.N.Nodes.silent c.drive-driven.new.nodes ≡ true) c.end_of-ended.result
    (returns-clause-tailed g c (reached c.args.config.now before) far told h)

pub returns-clause-cause : goal.returns-clause-cause
returns-clause-cause g c =
    let r = c.args.register in
    let a = c.new-reading.result in
    let y = c.drive-driven.new.reading in
    let x = c.into_register.result in
    let looked : HasLooked None y.end (g.G.Register.told r) (g.G.Register.told x) (g.G.Register.holds r) (g.G.Register.holds x) (g.G.Register.may_hold r) (g.G.Register.may_hold x) (g.G.Register.faults r) (g.G.Register.faults x) (g.G.Register.identity r) (g.G.Register.identity x) = subst (λ q. HasLooked None y.end (g.G.Register.told r) (g.G.Register.told q) (g.G.Register.holds r) (g.G.Register.holds q) (g.G.Register.may_hold r) (g.G.Register.may_hold q) (g.G.Register.faults r) (g.G.Register.faults q) (g.G.Register.identity r) (g.G.Register.identity q)) (sym c.into_register.ensures) (subst (λ q. HasLooked None y.end (g.G.Register.told q) (g.G.Register.told y.register) (g.G.Register.holds q) (g.G.Register.holds y.register) (g.G.Register.may_hold q) (g.G.Register.may_hold y.register) (g.G.Register.faults q) (g.G.Register.faults y.register) (g.G.Register.identity q) (g.G.Register.identity y.register)) c.new-reading.ensures.register c.drive-driven.ensures.looked) in
    let why = subst (IsLookEnd (λ place. g.G.Register.told r → g.G.Register.damaged r place) (g.G.Register.faults r) (g.G.Register.faults x)) (sym (c.why_of.ensures ∙ ap why_of c.end.ensures))
    (why_is (HeldNone (g.G.Register.holds r)) (λ place. g.G.Register.told r → g.G.Register.damaged r place) (g.G.Register.faults r) (g.G.Register.faults x) y.end looked.ended
    (λ place is. subst (λ q. (g.G.Register.told q → g.G.Register.damaged q place)) c.new-reading.ensures.register (c.drive-driven.ensures.damaged place is))) in
    subst (λ (e : Ended). IsTailEnd (λ place. g.G.Register.told r → g.G.Register.damaged r place) (g.G.Register.faults r) (g.G.Register.faults x) (g.O.Sink.faults c.args.out.now) (g.O.Sink.faults c.drive-driven.new.out) e) (sym c.end_of-ended.ensures)
    (tail_end (λ place. g.G.Register.told r → g.G.Register.damaged r place) (g.G.Register.faults r) (g.G.Register.faults x) (g.O.Sink.faults c.args.out.now) (g.O.Sink.faults c.drive-driven.new.out) (Some (g.O.Sink.written c.args.out.now)) (Some (g.O.Sink.written c.drive-driven.new.out)) c.drive-driven.result c.why_of.result why c.drive-driven.ensures.cause)

pub returns-clause-told : goal.returns-clause-told
returns-clause-told g c =
    let r = c.args.register in
    let a = c.new-reading.result in
    let y = c.drive-driven.new.reading in
    let x = c.into_register.result in
    let looked : HasLooked None y.end (g.G.Register.told r) (g.G.Register.told x) (g.G.Register.holds r) (g.G.Register.holds x) (g.G.Register.may_hold r) (g.G.Register.may_hold x) (g.G.Register.faults r) (g.G.Register.faults x) (g.G.Register.identity r) (g.G.Register.identity x) = subst (λ q. HasLooked None y.end (g.G.Register.told r) (g.G.Register.told q) (g.G.Register.holds r) (g.G.Register.holds q) (g.G.Register.may_hold r) (g.G.Register.may_hold q) (g.G.Register.faults r) (g.G.Register.faults q) (g.G.Register.identity r) (g.G.Register.identity q)) (sym c.into_register.ensures) (subst (λ q. HasLooked None y.end (g.G.Register.told q) (g.G.Register.told y.register) (g.G.Register.holds q) (g.G.Register.holds y.register) (g.G.Register.may_hold q) (g.G.Register.may_hold y.register) (g.G.Register.faults q) (g.G.Register.faults y.register) (g.G.Register.identity q) (g.G.Register.identity y.register)) c.new-reading.ensures.register c.drive-driven.ensures.looked) in
    looked.told

pub returns-clause-same : goal.returns-clause-same
returns-clause-same g c =
    let r = c.args.register in
    let a = c.new-reading.result in
    let y = c.drive-driven.new.reading in
    let x = c.into_register.result in
    let looked : HasLooked None y.end (g.G.Register.told r) (g.G.Register.told x) (g.G.Register.holds r) (g.G.Register.holds x) (g.G.Register.may_hold r) (g.G.Register.may_hold x) (g.G.Register.faults r) (g.G.Register.faults x) (g.G.Register.identity r) (g.G.Register.identity x) = subst (λ q. HasLooked None y.end (g.G.Register.told r) (g.G.Register.told q) (g.G.Register.holds r) (g.G.Register.holds q) (g.G.Register.may_hold r) (g.G.Register.may_hold q) (g.G.Register.faults r) (g.G.Register.faults q) (g.G.Register.identity r) (g.G.Register.identity q)) (sym c.into_register.ensures) (subst (λ q. HasLooked None y.end (g.G.Register.told q) (g.G.Register.told y.register) (g.G.Register.holds q) (g.G.Register.holds y.register) (g.G.Register.may_hold q) (g.G.Register.may_hold y.register) (g.G.Register.faults q) (g.G.Register.faults y.register) (g.G.Register.identity q) (g.G.Register.identity y.register)) c.new-reading.ensures.register c.drive-driven.ensures.looked) in
    looked.same

pub returns-clause-itself : goal.returns-clause-itself
returns-clause-itself g c =
    let r = c.args.register in
    let a = c.new-reading.result in
    let y = c.drive-driven.new.reading in
    let x = c.into_register.result in
    let looked : HasLooked None y.end (g.G.Register.told r) (g.G.Register.told x) (g.G.Register.holds r) (g.G.Register.holds x) (g.G.Register.may_hold r) (g.G.Register.may_hold x) (g.G.Register.faults r) (g.G.Register.faults x) (g.G.Register.identity r) (g.G.Register.identity x) = subst (λ q. HasLooked None y.end (g.G.Register.told r) (g.G.Register.told q) (g.G.Register.holds r) (g.G.Register.holds q) (g.G.Register.may_hold r) (g.G.Register.may_hold q) (g.G.Register.faults r) (g.G.Register.faults q) (g.G.Register.identity r) (g.G.Register.identity q)) (sym c.into_register.ensures) (subst (λ q. HasLooked None y.end (g.G.Register.told q) (g.G.Register.told y.register) (g.G.Register.holds q) (g.G.Register.holds y.register) (g.G.Register.may_hold q) (g.G.Register.may_hold y.register) (g.G.Register.faults q) (g.G.Register.faults y.register) (g.G.Register.identity q) (g.G.Register.identity y.register)) c.new-reading.ensures.register c.drive-driven.ensures.looked) in
    looked.itself

pub returns-clause-counts : goal.returns-clause-counts
returns-clause-counts g c =
    let r = c.args.register in
    let a = c.new-reading.result in
    let y = c.drive-driven.new.reading in
    let x = c.into_register.result in
    let looked : HasLooked None y.end (g.G.Register.told r) (g.G.Register.told x) (g.G.Register.holds r) (g.G.Register.holds x) (g.G.Register.may_hold r) (g.G.Register.may_hold x) (g.G.Register.faults r) (g.G.Register.faults x) (g.G.Register.identity r) (g.G.Register.identity x) = subst (λ q. HasLooked None y.end (g.G.Register.told r) (g.G.Register.told q) (g.G.Register.holds r) (g.G.Register.holds q) (g.G.Register.may_hold r) (g.G.Register.may_hold q) (g.G.Register.faults r) (g.G.Register.faults q) (g.G.Register.identity r) (g.G.Register.identity q)) (sym c.into_register.ensures) (subst (λ q. HasLooked None y.end (g.G.Register.told q) (g.G.Register.told y.register) (g.G.Register.holds q) (g.G.Register.holds y.register) (g.G.Register.may_hold q) (g.G.Register.may_hold y.register) (g.G.Register.faults q) (g.G.Register.faults y.register) (g.G.Register.identity q) (g.G.Register.identity y.register)) c.new-reading.ensures.register c.drive-driven.ensures.looked) in
    looked.counts

pub returns-clause-off : goal.returns-clause-off
returns-clause-off g c =
    let r = c.args.register in
    let a = c.new-reading.result in
    let y = c.drive-driven.new.reading in
    let x = c.into_register.result in
    let looked : HasLooked None y.end (g.G.Register.told r) (g.G.Register.told x) (g.G.Register.holds r) (g.G.Register.holds x) (g.G.Register.may_hold r) (g.G.Register.may_hold x) (g.G.Register.faults r) (g.G.Register.faults x) (g.G.Register.identity r) (g.G.Register.identity x) = subst (λ q. HasLooked None y.end (g.G.Register.told r) (g.G.Register.told q) (g.G.Register.holds r) (g.G.Register.holds q) (g.G.Register.may_hold r) (g.G.Register.may_hold q) (g.G.Register.faults r) (g.G.Register.faults q) (g.G.Register.identity r) (g.G.Register.identity q)) (sym c.into_register.ensures) (subst (λ q. HasLooked None y.end (g.G.Register.told q) (g.G.Register.told y.register) (g.G.Register.holds q) (g.G.Register.holds y.register) (g.G.Register.may_hold q) (g.G.Register.may_hold y.register) (g.G.Register.faults q) (g.G.Register.faults y.register) (g.G.Register.identity q) (g.G.Register.identity y.register)) c.new-reading.ensures.register c.drive-driven.ensures.looked) in
    let why = subst (IsLookEnd (λ place. g.G.Register.told r → g.G.Register.damaged r place) (g.G.Register.faults r) (g.G.Register.faults x)) (sym (c.why_of.ensures ∙ ap why_of c.end.ensures))
    (why_is (HeldNone (g.G.Register.holds r)) (λ place. g.G.Register.told r → g.G.Register.damaged r place) (g.G.Register.faults r) (g.G.Register.faults x) y.end looked.ended
    (λ place is. subst (λ q. (g.G.Register.told q → g.G.Register.damaged q place)) c.new-reading.ensures.register (c.drive-driven.ensures.damaged place is))) in
    let off = g.N.Nodes.off c.drive-driven.new.nodes in
    subst (IsOffAs off) (sym c.end_of-ended.ensures)
    (end_off (λ place. g.G.Register.told r → g.G.Register.damaged r place) (g.G.Register.faults r) (g.G.Register.faults x) (g.O.Sink.faults c.args.out.now) (g.O.Sink.faults c.drive-driven.new.out) off c.drive-driven.result c.why_of.result why c.drive-driven.ensures.off)

pub returns-in_default-clause-ended : goal.returns-in_default-clause-ended
returns-in_default-clause-ended g c = λ none. none_ended _ _ none

pub returns-clause-ended : goal.returns-clause-ended
returns-clause-ended g c =
    let off = g.N.Nodes.off c.drive-driven.new.nodes in
    λ none. subst (EndedOff off) (sym c.end_of-ended.ensures) (end_ended off c.drive-driven.result c.why_of.result (c.drive-driven.ensures.ended none))
