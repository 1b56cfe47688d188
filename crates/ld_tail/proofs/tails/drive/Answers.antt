use Rattle.std.proofs.Common.{◌≡◌, ◌⊎◌, ℕ, Bool, Option, IfSome, refl, ap, sym, ◌∙◌, subst, inl, inr, Ok, Err, None, Some, true, List, [], rules}
use Rattle.std.proofs.lemmas.Result.{err_from_is_err_and}
use Rattle.ld_ids.specs.Set.{members}
use Rattle.ld_msg.specs.declared.msg.Msg.{Msg}
use Rattle.ld_msg.specs.Bounds.{Is64}
use Rattle.ld_msg.specs.Reader.{is_single}
use Rattle.ld_msg.specs.Register.{Register as Contents}
use Rattle.ld_rounds.specs.declared.ended.Ended.{Ended}
use Rattle.ld_rounds.specs.Ends.{IsSaid}
use Rattle.ld_rounds.specs.Drives.{Driver, AllTaken, IsBroken, Holds, counted}
use Rattle.ld_rounds.specs.Taking.{TookReads}
use Rattle.ld_rounds.proofs.Visiting.{all_there}
use Rattle.ld_rounds.proofs.Endings.{cause_since, none_off}
use Rattle.ld_rounds.proofs.Going.{stopped_here}
use Rattle.ld_rounds.specs.Refusals.{HeldNone}
use Rattle.ld_tail.specs.Looking.{IsLookEnd, HasLooked, looked_on}
use Rattle.ld_tail.specs.Readers.{Follows}
use Rattle.ld_tail.specs.Tails.{EndAt, tailing}
use Rattle.ld_tail.proofs.Looked.{undamaged}
use Rattle.ld_tail.proofs.Tailing.{unframed_end, begins_with, begun, renamed, opened_on, stopped_tail, drove_loud}
use Rattle.ld_tail.proofs.tails.drive.Goals as goal

pub returns-in_default-clause-drove : goal.returns-in_default-clause-drove
returns-in_default-clause-drove g c s far told h =
    let a = c.args.reading.now in
    inr (stopped_here (tailing (record { name = c.args.name.now; log = a.log; from = c.args.from; until = c.args.until; style = c.args.style })) (IsBroken (g.N.Nodes.faults c.args.nodes.now) (g.N.Nodes.faults c.args.nodes.now) (g.N.Nodes.endings c.args.nodes.now) (g.N.Nodes.endings c.args.nodes.now)) c.args.config.now s.network.count c.requires.bounds (EndAt (record { name = c.args.name.now; log = a.log; from = c.args.from; until = c.args.until; style = c.args.style }) c.args.config.now s.network.count c.args.rounds (counted (g.N.Nodes.faults c.args.nodes.now) (g.N.Nodes.faults c.args.nodes.now) (g.N.Nodes.endings c.args.nodes.now) (g.N.Nodes.endings c.args.nodes.now))) s (Some (g.O.Sink.written c.args.out.now)) (inl (inl refl)))

pub returns-in_default-new-clause-drove : goal.returns-in_default-new-clause-drove
returns-in_default-new-clause-drove g c s far told h =
    let a = c.args.reading.now in
    inr (stopped_here (tailing (record { name = c.args.name.now; log = a.log; from = c.args.from; until = c.args.until; style = c.args.style })) (IsBroken (g.N.Nodes.faults c.args.nodes.now) (g.N.Nodes.faults c.args.nodes.now) (g.N.Nodes.endings c.args.nodes.now) (g.N.Nodes.endings c.args.nodes.now)) c.args.config.now s.network.count c.requires.bounds (EndAt (record { name = c.args.name.now; log = a.log; from = c.args.from; until = c.args.until; style = c.args.style }) c.args.config.now s.network.count c.args.rounds (counted (g.N.Nodes.faults c.args.nodes.now) (g.N.Nodes.faults c.args.nodes.now) (g.N.Nodes.endings c.args.nodes.now) (g.N.Nodes.endings c.args.nodes.now))) s (Some (g.O.Sink.written c.args.out.now)) (inl (inl refl)))

pub returns-in_default-open-clause-drove : goal.returns-in_default-open-clause-drove
returns-in_default-open-clause-drove g c s far told h =
    let a = c.args.reading.now in
    inr (stopped_here (tailing (record { name = c.args.name.now; log = a.log; from = c.args.from; until = c.args.until; style = c.args.style })) (IsBroken (g.N.Nodes.faults c.args.nodes.now) (g.N.Nodes.faults c.args.nodes.now) (g.N.Nodes.endings c.args.nodes.now) (g.N.Nodes.endings c.args.nodes.now)) c.args.config.now s.network.count c.requires.bounds (EndAt (record { name = c.args.name.now; log = a.log; from = c.args.from; until = c.args.until; style = c.args.style }) c.args.config.now s.network.count c.args.rounds (counted (g.N.Nodes.faults c.args.nodes.now) (g.N.Nodes.faults c.args.nodes.now) (g.N.Nodes.endings c.args.nodes.now) (g.N.Nodes.endings c.args.nodes.now))) s (Some (g.O.Sink.written c.args.out.now)) (inl (inl refl)))

pub returns-in_err-tell-clause-drove : goal.returns-in_err-tell-clause-drove
returns-in_err-tell-clause-drove g c s far told h =
    let p = err_from_is_err_and c.from_residual.result c.from_residual.ensures.1 in
    let a = c.args.reading.now in
    let x = c.look.new.self in
    let z = c.open.new.self in
    let k = c.args.config.now in
    let first = s.network.count in
    let until : Is64 c.args.until = search rules in
    let heard = c.in-Ok-open.heard in
    let T = g.G.Register.tells x.register in
    let U = g.G.Register.tells z.register in
    let looked = begins_with (g.G.Register.tells a.register) T k s far (c.in-Ok.ensures.exact s.register) h in
    let first_holds = begun (tailing (record { name = c.args.name.now; log = a.log; from = c.args.from; until = c.args.until; style = c.args.style })) (IsBroken (g.N.Nodes.faults c.args.nodes.now) (g.N.Nodes.faults c.args.nodes.now) (g.N.Nodes.endings c.args.nodes.now) (g.N.Nodes.endings c.args.nodes.now)) k c.requires.bounds T s far looked in
    let begins = subst (λ (qs : List (List Msg)). Holds (Follows [] T) k first s far qs) (sym c.in-Ok-new.ensures) first_holds in
    let acted = renamed (Follows z.readers U k) k s heard.lines.items heard.sends c.args.style x.name c.args.name.now x.log a.log c.args.from c.args.until (c.in-Ok.ensures.name ∙ c.requires.name) c.in-Ok.ensures.log (c.in-Ok-open.ensures.opened (c.in-Ok.ensures.readers ∙ c.requires.none) s first_holds.actor) in
    let old = Some (g.O.Sink.written c.args.out.now) in
    let new = Some (g.O.Sink.written c.tell.new.out) in
    let e = c.in_err-tell.field-0.0 in
    let stops = opened_on (tailing (record { name = c.args.name.now; log = a.log; from = c.args.from; until = c.args.until; style = c.args.style })) (IsBroken (g.N.Nodes.faults c.args.nodes.now) (g.N.Nodes.faults c.args.nodes.now) (g.N.Nodes.endings c.args.nodes.now) (g.N.Nodes.endings c.args.nodes.now)) k c.requires.bounds T first [] z.readers U s far c.in-Ok-new.queues c.tell.new.queues old new heard begins (Err e) c.in_err-tell.ensures.told (unframed_end heard.end c.in-Ok-open.ensures.goes_on) (AllTaken (g.N.Nodes.tells c.args.nodes.now k)) (told, h.answers) c.args.style a.log c.args.from c.args.until until acted in
    rw (p.1, p.2) (inr (stopped_tail (record { name = c.args.name.now; log = a.log; from = c.args.from; until = c.args.until; style = c.args.style }) (counted (g.N.Nodes.faults c.args.nodes.now) (g.N.Nodes.faults c.args.nodes.now) (g.N.Nodes.endings c.args.nodes.now) (g.N.Nodes.endings c.args.nodes.now)) c.args.rounds (g.N.Nodes.tells c.args.nodes.now) k c.requires.bounds s z.readers U c.tell.new.queues old new e stops))

pub returns-clause-drove : goal.returns-clause-drove
returns-clause-drove g c s far told h =
    let a = c.args.reading.now in
    let x = c.look.new.self in
    let z = c.open.new.self in
    let k = c.args.config.now in
    let first = s.network.count in
    let until : Is64 c.args.until = search rules in
    let heard = c.in-Ok-open.heard in
    let T = g.G.Register.tells x.register in
    let U = g.G.Register.tells z.register in
    let looked = begins_with (g.G.Register.tells a.register) T k s far (c.in-Ok.ensures.exact s.register) h in
    let first_holds = begun (tailing (record { name = c.args.name.now; log = a.log; from = c.args.from; until = c.args.until; style = c.args.style })) (IsBroken (g.N.Nodes.faults c.args.nodes.now) (g.N.Nodes.faults c.read.new.nodes) (g.N.Nodes.endings c.args.nodes.now) (g.N.Nodes.endings c.read.new.nodes)) k c.requires.bounds T s far looked in
    let begins = subst (λ (qs : List (List Msg)). Holds (Follows [] T) k first s far qs) (sym c.in-Ok-new.ensures) first_holds in
    let acted = renamed (Follows z.readers U k) k s heard.lines.items heard.sends c.args.style x.name c.args.name.now x.log a.log c.args.from c.args.until (c.in-Ok.ensures.name ∙ c.requires.name) c.in-Ok.ensures.log (c.in-Ok-open.ensures.opened (c.in-Ok.ensures.readers ∙ c.requires.none) s first_holds.actor) in
    let old = Some (g.O.Sink.written c.args.out.now) in
    let mid = Some (g.O.Sink.written c.tell.new.out) in
    let new = Some (g.O.Sink.written c.read.new.out) in
    let N = AllTaken (g.N.Nodes.tells c.args.nodes.now k) in
    let v = opened_on (tailing (record { name = c.args.name.now; log = a.log; from = c.args.from; until = c.args.until; style = c.args.style })) (IsBroken (g.N.Nodes.faults c.args.nodes.now) (g.N.Nodes.faults c.read.new.nodes) (g.N.Nodes.endings c.args.nodes.now) (g.N.Nodes.endings c.read.new.nodes)) k c.requires.bounds T first [] z.readers U s far c.in-Ok-new.queues c.tell.new.queues old mid heard begins (Ok tt) c.in_ok-tell.ensures.told (unframed_end heard.end c.in-Ok-open.ensures.goes_on) N (told, h.answers) c.args.style a.log c.args.from c.args.until until acted in
    drove_loud (record { name = c.args.name.now; log = a.log; from = c.args.from; until = c.args.until; style = c.args.style }) (counted (g.N.Nodes.faults c.args.nodes.now) (g.N.Nodes.faults c.read.new.nodes) (g.N.Nodes.endings c.args.nodes.now) (g.N.Nodes.endings c.read.new.nodes)) c.args.rounds (g.N.Nodes.tells c.read.new.nodes) k c.requires.bounds s c.read.new.reader.readers (g.G.Register.tells c.read.new.reader.register) c.read.new.queues old new (Follows z.readers U) N c.tell.new.queues mid v
    (g.N.Nodes.silent c.read.new.nodes ≡ true) c.read.result c.read.ensures.finished c.read.ensures.unfinished (subst (λ (d : Driver). (g.N.Nodes.silent c.read.new.nodes ≡ true) ⊎ TookReads (is_single c.args.style) d (counted (g.N.Nodes.faults c.args.nodes.now) (g.N.Nodes.faults c.read.new.nodes) (g.N.Nodes.endings c.args.nodes.now) (g.N.Nodes.endings c.read.new.nodes)) (members k.nodes) c.args.rounds (Follows c.read.new.reader.readers (g.G.Register.tells c.read.new.reader.register)) (AllTaken (g.N.Nodes.tells c.read.new.nodes k)) k first v.moved.state c.read.new.queues mid new c.read.result)
    (ap (λ (l : ℕ). tailing (record { name = c.args.name.now; log = l; from = c.args.from; until = c.args.until; style = c.args.style })) (c.in-Ok-open.ensures.log ∙ c.in-Ok.ensures.log)) (subst (λ (single : Bool). (g.N.Nodes.silent c.read.new.nodes ≡ true) ⊎ TookReads single (tailing (record { name = c.args.name.now; log = z.log; from = c.args.from; until = c.args.until; style = c.args.style })) (counted (g.N.Nodes.faults c.args.nodes.now) (g.N.Nodes.faults c.read.new.nodes) (g.N.Nodes.endings c.args.nodes.now) (g.N.Nodes.endings c.read.new.nodes)) (members k.nodes) c.args.rounds (Follows c.read.new.reader.readers (g.G.Register.tells c.read.new.reader.register)) (AllTaken (g.N.Nodes.tells c.read.new.nodes k)) k first v.moved.state c.read.new.queues mid new c.read.result)
    c.is_single.ensures (c.read.ensures.held k first v.moved.state v.far c.requires.bounds (all_there k) v.told v.moved.holds)))

pub returns-clause-cause : goal.returns-clause-cause
returns-clause-cause g c = cause_since _ _ _ _ _ _ c.read.result c.in_ok-tell.ensures.later c.read.ensures.cause

pub returns-in_default-clause-looked : goal.returns-in_default-clause-looked
returns-in_default-clause-looked g c = c.in_default.ensures.looked c.requires.on

pub returns-in_default-clause-damaged : goal.returns-in_default-clause-damaged
returns-in_default-clause-damaged g c = c.in_default.ensures.damaged c.requires.on

pub returns-in_default-new-clause-looked : goal.returns-in_default-new-clause-looked
returns-in_default-new-clause-looked g c = c.in-Ok.ensures.looked c.requires.on

pub returns-in_default-open-clause-looked : goal.returns-in_default-open-clause-looked
returns-in_default-open-clause-looked g c =
    let a = c.args.reading.now in
    let x = c.look.new.self in
    let z = c.open.new.self in
    let looked = c.in-Ok.ensures.looked c.requires.on in
    let opened : HasLooked None z.end (g.G.Register.told a.register) (g.G.Register.told z.register) (g.G.Register.holds a.register) (g.G.Register.holds z.register) (g.G.Register.may_hold a.register) (g.G.Register.may_hold z.register) (g.G.Register.faults a.register) (g.G.Register.faults z.register) (g.G.Register.identity a.register) (g.G.Register.identity z.register) = subst (λ y. HasLooked None z.end (g.G.Register.told a.register) (g.G.Register.told y) (g.G.Register.holds a.register) (g.G.Register.holds y) (g.G.Register.may_hold a.register) (g.G.Register.may_hold y) (g.G.Register.faults a.register) (g.G.Register.faults y) (g.G.Register.identity a.register) (g.G.Register.identity y)) (sym c.in_default-open.ensures.register) (subst (λ e. HasLooked None e (g.G.Register.told a.register) (g.G.Register.told x.register) (g.G.Register.holds a.register) (g.G.Register.holds x.register) (g.G.Register.may_hold a.register) (g.G.Register.may_hold x.register) (g.G.Register.faults a.register) (g.G.Register.faults x.register) (g.G.Register.identity a.register) (g.G.Register.identity x.register)) (sym c.in_default-open.ensures.end) looked) in
    opened

pub returns-in_err-tell-clause-looked : goal.returns-in_err-tell-clause-looked
returns-in_err-tell-clause-looked g c =
    let a = c.args.reading.now in
    let x = c.look.new.self in
    let z = c.open.new.self in
    let looked = c.in-Ok.ensures.looked c.requires.on in
    let opened : HasLooked None z.end (g.G.Register.told a.register) (g.G.Register.told z.register) (g.G.Register.holds a.register) (g.G.Register.holds z.register) (g.G.Register.may_hold a.register) (g.G.Register.may_hold z.register) (g.G.Register.faults a.register) (g.G.Register.faults z.register) (g.G.Register.identity a.register) (g.G.Register.identity z.register) = subst (λ y. HasLooked None z.end (g.G.Register.told a.register) (g.G.Register.told y) (g.G.Register.holds a.register) (g.G.Register.holds y) (g.G.Register.may_hold a.register) (g.G.Register.may_hold y) (g.G.Register.faults a.register) (g.G.Register.faults y) (g.G.Register.identity a.register) (g.G.Register.identity y)) (sym c.in-Ok-open.ensures.register) (subst (λ e. HasLooked None e (g.G.Register.told a.register) (g.G.Register.told x.register) (g.G.Register.holds a.register) (g.G.Register.holds x.register) (g.G.Register.may_hold a.register) (g.G.Register.may_hold x.register) (g.G.Register.faults a.register) (g.G.Register.faults x.register) (g.G.Register.identity a.register) (g.G.Register.identity x.register)) (sym c.in-Ok-open.ensures.end) looked) in
    opened

pub returns-clause-looked : goal.returns-clause-looked
returns-clause-looked g c =
    let a = c.args.reading.now in
    let x = c.look.new.self in
    let z = c.open.new.self in
    let looked = c.in-Ok.ensures.looked c.requires.on in
    let opened : HasLooked None z.end (g.G.Register.told a.register) (g.G.Register.told z.register) (g.G.Register.holds a.register) (g.G.Register.holds z.register) (g.G.Register.may_hold a.register) (g.G.Register.may_hold z.register) (g.G.Register.faults a.register) (g.G.Register.faults z.register) (g.G.Register.identity a.register) (g.G.Register.identity z.register) = subst (λ y. HasLooked None z.end (g.G.Register.told a.register) (g.G.Register.told y) (g.G.Register.holds a.register) (g.G.Register.holds y) (g.G.Register.may_hold a.register) (g.G.Register.may_hold y) (g.G.Register.faults a.register) (g.G.Register.faults y) (g.G.Register.identity a.register) (g.G.Register.identity y)) (sym c.in-Ok-open.ensures.register) (subst (λ e. HasLooked None e (g.G.Register.told a.register) (g.G.Register.told x.register) (g.G.Register.holds a.register) (g.G.Register.holds x.register) (g.G.Register.may_hold a.register) (g.G.Register.may_hold x.register) (g.G.Register.faults a.register) (g.G.Register.faults x.register) (g.G.Register.identity a.register) (g.G.Register.identity x.register)) (sym c.in-Ok-open.ensures.end) looked) in
    let r = c.read.new.reader in
    looked_on None z.end r.end (g.G.Register.told a.register) (g.G.Register.told z.register) (g.G.Register.told r.register) (g.G.Register.holds a.register) (g.G.Register.holds z.register) (g.G.Register.holds r.register) (g.G.Register.may_hold a.register) (g.G.Register.may_hold z.register) (g.G.Register.may_hold r.register) (g.G.Register.faults a.register) (g.G.Register.faults z.register) (g.G.Register.faults r.register) (g.G.Register.identity a.register) (g.G.Register.identity z.register) (g.G.Register.identity r.register) opened c.read.ensures.since

pub returns-clause-damaged : goal.returns-clause-damaged
returns-clause-damaged g c = λ place is told.
    let a = c.args.reading.now in
    let x = c.look.new.self in
    let z = c.open.new.self in
    let r = c.read.new.reader in
    let off : z.end ≡ None = c.in-Ok-open.ensures.end ∙ (c.in-Ok.ensures.on ∙ c.requires.on) in
    let whole = subst (λ y. (g.G.Register.told a.register → (c : Contents) × g.G.Register.holds y c)) (sym c.in-Ok-open.ensures.register) c.in-Ok.ensures.whole in
    absurd (undamaged r.end (g.G.Register.told a.register) (g.G.Register.holds z.register) (g.G.Register.faults z.register) (g.G.Register.faults r.register) place whole
    (λ e h. subst (λ o. (o ≡ Some e) ⊎ IsLookEnd (HeldNone (g.G.Register.holds z.register)) (g.G.Register.faults z.register) (g.G.Register.faults r.register) e) off (c.read.ensures.since.ended e h)) is told)

pub returns-in_err-tell-clause-off : goal.returns-in_err-tell-clause-off
returns-in_err-tell-clause-off g c =
    let p = err_from_is_err_and c.from_residual.result c.from_residual.ensures.1 in
    rw (p.1, p.2) (c.in_err-tell.ensures.off (subst (λ (o : Option Ended). IfSome o (IsSaid c.in-Ok-open.heard.lines.items)) (sym c.in-Ok-open.ensures.goes_on) tt) (g.N.Nodes.off c.args.nodes.now))

pub returns-in_default-clause-ended : goal.returns-in_default-clause-ended
returns-in_default-clause-ended g c = λ none. none_off _ _ none

pub returns-in_default-new-clause-ended : goal.returns-in_default-new-clause-ended
returns-in_default-new-clause-ended g c = λ none. none_off _ _ none

pub returns-in_default-open-clause-ended : goal.returns-in_default-open-clause-ended
returns-in_default-open-clause-ended g c = λ none. none_off _ _ none

pub returns-in_err-tell-clause-ended : goal.returns-in_err-tell-clause-ended
returns-in_err-tell-clause-ended g c = λ none. none_off _ _ none

pub returns-clause-ended : goal.returns-clause-ended
returns-clause-ended g c = c.read.ensures.ended
