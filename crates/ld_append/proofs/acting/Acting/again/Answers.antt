use Rattle.std.proofs.Common.{◌∙◌, refl, sym, ap, subst, Some, None}
use Rattle.ld_sequencer.specs.Looks.{shows}
use Rattle.ld_clients.specs.declared.client.Client.TheVariants.{Live}
use Rattle.ld_clients.proofs.Acting.{retried_goes}
use Rattle.ld_sequencer.specs.Whole.{retry_acts}
use Rattle.ld_rounds.specs.declared.ended.Ended.TheVariants as ends
use Rattle.ld_rounds.specs.Ends.{tells_by, is_final}
use Rattle.ld_append.proofs.Saying.{final_going}
use Rattle.ld_append.specs.Acting.{Serves, IsSince, HasKept, is_here, kept_here}
use Rattle.ld_append.specs.Refusing.{going}
use Rattle.ld_append.proofs.Crowding.{tries_leave, called_since, gone_since, since_as}
use Rattle.ld_append.proofs.Keeping.{none_of, kept_by, kept_cut}
use Rattle.ld_append.proofs.Serving.{none_retried, retried, serves_as}
use Rattle.ld_append.proofs.acting.Acting.again.Goals as goal

pub returns-in-Ok-clause-retried : goal.returns-in-Ok-clause-retried
returns-in-Ok-clause-retried g c = λ k s b sound h.
    serves_as g.G.Register.tells k s c.go_on.new.self.name c.args.self.now.name c.go_on.new.self.sequencer (Some c.retry-answer.new.self) c.go_on.new.self.register c.retry-answer.new.reg c.go_on.result.lines.items c.go_on.result.sends _ c.go_on.ensures.name c.go_on.ensures.sequencer c.go_on.ensures.register (
    retried k s c.args.self.now.name (g.G.Register.tells c.args.self.now.register) c.in-Some.sequencer (subst (λ o. Serves c.args.self.now.name o (g.G.Register.tells c.args.self.now.register) k s) c.in-Some.is h)
    c.retry-answer.new.self c.retry-answer.result c.empty-sends.result c.retry-answer.new.out (record { lines = c.go_on.result.lines; sends = c.go_on.result.sends }) (g.G.Register.tells c.retry-answer.new.reg) b sound c.in-Ok.ensures.memory
    (c.retry-answer.ensures.crowded s.register h.register) c.empty-sends.ensures (c.go_on.ensures.lines ∙ c.in-Ok.ensures.lines) (c.go_on.ensures.sends ∙ c.in-Ok.ensures.sends)
    (c.retry-answer.ensures.exact s.register h.register) c.retry-answer.ensures.acted c.retry-answer.ensures.refused)

pub returns-in_default-clause-retried : goal.returns-in_default-clause-retried
returns-in_default-clause-retried g c = λ k s b sound h.
    let name = c.args.self.now.name in
    let tells = g.G.Register.tells c.args.self.now.register in
    serves_as g.G.Register.tells k s name name c.args.self.now.sequencer None c.args.self.now.register c.args.self.now.register c.nothing.result.lines.items c.nothing.result.sends _ refl c.in_default.is refl (
    none_retried k s name tells (record { lines = c.nothing.result.lines; sends = c.nothing.result.sends }) (subst (λ o. Serves name o tells k s) c.in_default.is h) c.nothing.ensures.lines c.nothing.ensures.sends)

pub returns-in-Ok-clause-since : goal.returns-in-Ok-clause-since
returns-in-Ok-clause-since g c =
    let w = c.in-Some.sequencer in
    let v = c.retry-answer.new.self in
    let told = g.G.Register.told c.args.self.now.register in
    let may = g.G.Register.may_hold c.args.self.now.register in
    let goes = retried_goes (Live w) w refl v c.retry-answer.result c.empty-sends.result c.retry-answer.new.out c.retry-answer.ensures.acted c.retry-answer.ensures.refused c.in-Ok.ensures.memory in
    let leaves = tries_leave w.sequencer.log (retry_acts (shows w.sequencer.spec) w).tries told (g.G.Register.told c.retry-answer.new.reg) may (g.G.Register.may_hold c.retry-answer.new.reg) c.retry-answer.ensures.told (c.retry-answer.ensures.done_or_not (shows w.sequencer.spec)) in
    let since = called_since told (g.G.Register.told c.retry-answer.new.reg) (g.G.Register.holds c.args.self.now.register) may (g.G.Register.may_hold c.retry-answer.new.reg) (g.G.Register.damaged c.args.self.now.register) (g.met.G.Register.held_may_be c.args.self.now.register) w v goes.log leaves
    c.retry-answer.result c.in-Ok.heard.end c.args.self.now.is_shut c.go_on.new.self.is_shut c.retry-answer.ensures.caused c.in-Ok.ensures.end c.go_on.ensures.shut in
    subst (λ o. IsSince o c.go_on.new.self.sequencer told (g.G.Register.told c.go_on.new.self.register) may (g.G.Register.may_hold c.go_on.new.self.register) c.args.self.now.is_shut c.go_on.new.self.is_shut) (sym c.in-Some.is)
    (since_as (Some w) (Some v) c.go_on.new.self.sequencer told (g.G.Register.told c.retry-answer.new.reg) (g.G.Register.told c.go_on.new.self.register) may (g.G.Register.may_hold c.retry-answer.new.reg) (g.G.Register.may_hold c.go_on.new.self.register) c.args.self.now.is_shut c.go_on.new.self.is_shut
    (sym c.go_on.ensures.sequencer) (ap g.G.Register.told (sym c.go_on.ensures.register)) (ap g.G.Register.may_hold (sym c.go_on.ensures.register)) since)

pub returns-in_default-clause-since : goal.returns-in_default-clause-since
returns-in_default-clause-since g c = is_here c.args.self.now.sequencer (g.G.Register.told c.args.self.now.register) (g.G.Register.may_hold c.args.self.now.register) c.args.self.now.is_shut

pub returns-in-Err-clause-since : goal.returns-in-Err-clause-since
returns-in-Err-clause-since g c =
    let w = c.in-Some.sequencer in
    let told = g.G.Register.told c.args.self.now.register in
    let may = g.G.Register.may_hold c.args.self.now.register in
    let leaves = tries_leave w.sequencer.log (retry_acts (shows w.sequencer.spec) w).tries told (g.G.Register.told c.retry-answer.new.reg) may (g.G.Register.may_hold c.retry-answer.new.reg) c.retry-answer.ensures.told (c.retry-answer.ensures.done_or_not (shows w.sequencer.spec)) in
    (subst (λ o. IsSince o None told (g.G.Register.told c.retry-answer.new.reg) may (g.G.Register.may_hold c.retry-answer.new.reg) c.args.self.now.is_shut c.args.self.now.is_shut) (sym c.in-Some.is)
    (gone_since w told (g.G.Register.told c.retry-answer.new.reg) may (g.G.Register.may_hold c.retry-answer.new.reg) c.args.self.now.is_shut leaves))

pub returns-in-Ok-clause-itself : goal.returns-in-Ok-clause-itself
returns-in-Ok-clause-itself g c = ap g.G.Register.identity c.go_on.ensures.register ∙ c.retry-answer.ensures.itself

pub returns-in-Ok-clause-kept : goal.returns-in-Ok-clause-kept
returns-in-Ok-clause-kept g c =
    subst (λ q. HasKept c.args.self.now.end c.go_on.new.self.end (g.G.Register.holds c.args.self.now.register) (g.G.Register.holds q) (g.G.Register.faults c.args.self.now.register) (g.G.Register.faults q)) (sym c.go_on.ensures.register)
    (kept_by (g.G.Register.told c.args.self.now.register) (g.G.Register.holds c.args.self.now.register) (g.G.Register.holds c.retry-answer.new.reg) (g.G.Register.may_hold c.args.self.now.register) (g.G.Register.may_hold c.retry-answer.new.reg) (g.G.Register.damaged c.args.self.now.register) (g.G.Register.faults c.args.self.now.register) (g.G.Register.faults c.retry-answer.new.reg) c.in-Some.sequencer.sequencer.log
    (g.met.G.Register.held_is_told c.args.self.now.register) (g.met.G.Register.held_is_whole c.args.self.now.register) _ _ c.retry-answer.result c.args.self.now.end c.go_on.new.self.end (none_of c.args.self.now.end (sym c.is_some.ensures ∙ c.if-is_some.false)) (c.go_on.ensures.end ∙ ap going c.in-Ok.ensures.end) c.in-Ok.ensures.memory c.retry-answer.ensures.counts
    c.retry-answer.ensures.failed c.retry-answer.ensures.steady c.retry-answer.ensures.full c.retry-answer.ensures.unfailed c.retry-answer.ensures.unseen c.retry-answer.ensures.caused c.retry-answer.ensures.keeps c.retry-answer.ensures.held)

pub returns-in-Err-clause-kept : goal.returns-in-Err-clause-kept
returns-in-Err-clause-kept g c = kept_cut c.args.self.now.end (Some ends.NoMemory) (g.G.Register.holds c.args.self.now.register) (g.G.Register.holds c.retry-answer.new.reg) (g.G.Register.faults c.args.self.now.register) (g.G.Register.faults c.retry-answer.new.reg) (none_of c.args.self.now.end (sym c.is_some.ensures ∙ c.if-is_some.false)) refl c.retry-answer.ensures.counts

pub returns-in_default-clause-kept : goal.returns-in_default-clause-kept
returns-in_default-clause-kept g c = kept_here c.args.self.now.end (g.G.Register.holds c.args.self.now.register) (g.G.Register.faults c.args.self.now.register)

pub returns-then-is_some-clause-kept : goal.returns-then-is_some-clause-kept
returns-then-is_some-clause-kept g c = kept_here c.args.self.now.end (g.G.Register.holds c.args.self.now.register) (g.G.Register.faults c.args.self.now.register)

pub returns-then-is_some-clause-since : goal.returns-then-is_some-clause-since
returns-then-is_some-clause-since g c = is_here c.args.self.now.sequencer (g.G.Register.told c.args.self.now.register) (g.G.Register.may_hold c.args.self.now.register) c.args.self.now.is_shut

pub returns-in-Ok-clause-ends : goal.returns-in-Ok-clause-ends
returns-in-Ok-clause-ends g c = final_going c.args.self.now.name c.retry-answer.result c.go_on.result.end c.go_on.result.lines.items (c.go_on.ensures.ends ∙ ap going c.in-Ok.ensures.end) (c.go_on.ensures.lines ∙ c.in-Ok.ensures.lines)

pub returns-in_default-clause-ends : goal.returns-in_default-clause-ends
returns-in_default-clause-ends g c = λ none. ap (tells_by is_final) c.nothing.ensures.lines
