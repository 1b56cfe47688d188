use Rattle.std.proofs.Common.{◌∙◌, refl, sym, ap, subst, None, Some}
use Rattle.ld_sequencer.specs.Looks.{shows}
use Rattle.ld_clients.specs.declared.client.Client.TheVariants.{Live}
use Rattle.ld_clients.proofs.Acting.{replied_goes}
use Rattle.ld_sequencer.specs.Whole.{reply_acts}
use Rattle.ld_rounds.specs.declared.ended.Ended.TheVariants as ends
use Rattle.ld_append.proofs.Saying.{final_going}
use Rattle.ld_append.specs.Acting.{Serves, IsTo, IsSince, HasKept, is_here, kept_here}
use Rattle.ld_append.specs.Refusing.{going}
use Rattle.ld_append.proofs.Crowding.{tries_leave, called_since, gone_since, since_as}
use Rattle.ld_append.proofs.Keeping.{none_of, kept_by, kept_cut}
use Rattle.ld_append.proofs.Serving.{answered, serves_as}
use Rattle.ld_append.proofs.acting.ActingActor.hear.Goals as goal

pub returns-in-Ok-clause-acted : goal.returns-in-Ok-clause-acted
returns-in-Ok-clause-acted g c = λ k s b sound h.
    let to = subst (λ o. IsTo o c.args.message.now) c.in-Some.is c.requires.hears in
    serves_as g.G.Register.tells k s c.go_on.new.self.name c.args.self.now.name c.go_on.new.self.sequencer (Some c.on_reply-answer.new.self) c.go_on.new.self.register c.on_reply-answer.new.reg c.go_on.result.lines.items c.go_on.result.sends _ c.go_on.ensures.name c.go_on.ensures.sequencer c.go_on.ensures.register (
    answered k s c.args.self.now.name (g.G.Register.tells c.args.self.now.register) c.in-Some.sequencer (subst (λ o. Serves c.args.self.now.name o (g.G.Register.tells c.args.self.now.register) k s) c.in-Some.is h)
    c.on_reply-answer.new.self c.on_reply-answer.result c.empty-sends.result c.on_reply-answer.new.out (record { lines = c.go_on.result.lines; sends = c.go_on.result.sends }) (g.G.Register.tells c.on_reply-answer.new.reg) b sound c.in-Ok.ensures.memory
    (c.on_reply-answer.ensures.crowded s.register h.register) c.empty-sends.ensures (c.go_on.ensures.lines ∙ c.in-Ok.ensures.lines) (c.go_on.ensures.sends ∙ c.in-Ok.ensures.sends)
    c.args.message.now to.0 to.1
    (c.on_reply-answer.ensures.exact s.register h.register) c.on_reply-answer.ensures.acted c.on_reply-answer.ensures.refused)

pub returns-in-Ok-clause-since : goal.returns-in-Ok-clause-since
returns-in-Ok-clause-since g c =
    let w = c.in-Some.sequencer in
    let v = c.on_reply-answer.new.self in
    let told = g.G.Register.told c.args.self.now.register in
    let may = g.G.Register.may_hold c.args.self.now.register in
    let goes = replied_goes (Live w) w refl v c.on_reply-answer.result c.empty-sends.result c.on_reply-answer.new.out c.args.message.now.from c.args.message.now.body c.on_reply-answer.ensures.acted c.on_reply-answer.ensures.refused c.in-Ok.ensures.memory in
    let leaves = tries_leave w.sequencer.log (reply_acts (shows w.sequencer.spec) w c.args.message.now.from c.args.message.now.body).tries told (g.G.Register.told c.on_reply-answer.new.reg) may (g.G.Register.may_hold c.on_reply-answer.new.reg) c.on_reply-answer.ensures.told (c.on_reply-answer.ensures.done_or_not (shows w.sequencer.spec)) in
    let since = called_since told (g.G.Register.told c.on_reply-answer.new.reg) (g.G.Register.holds c.args.self.now.register) may (g.G.Register.may_hold c.on_reply-answer.new.reg) (g.G.Register.damaged c.args.self.now.register) (g.met.G.Register.held_may_be c.args.self.now.register) w v goes.log leaves
    c.on_reply-answer.result c.in-Ok.heard.end c.args.self.now.is_shut c.go_on.new.self.is_shut c.on_reply-answer.ensures.caused c.in-Ok.ensures.end c.go_on.ensures.shut in (
      subst (λ o. IsSince o c.go_on.new.self.sequencer told (g.G.Register.told c.go_on.new.self.register) may (g.G.Register.may_hold c.go_on.new.self.register) c.args.self.now.is_shut c.go_on.new.self.is_shut) (sym c.in-Some.is)
          (since_as (Some w) (Some v) c.go_on.new.self.sequencer told (g.G.Register.told c.on_reply-answer.new.reg) (g.G.Register.told c.go_on.new.self.register) may (g.G.Register.may_hold c.on_reply-answer.new.reg) (g.G.Register.may_hold c.go_on.new.self.register) c.args.self.now.is_shut c.go_on.new.self.is_shut
          (sym c.go_on.ensures.sequencer) (ap g.G.Register.told (sym c.go_on.ensures.register)) (ap g.G.Register.may_hold (sym c.go_on.ensures.register)) since),
      ap g.G.Register.identity c.go_on.ensures.register ∙ c.on_reply-answer.ensures.itself,
      subst (λ q. HasKept c.args.self.now.end c.go_on.new.self.end (g.G.Register.holds c.args.self.now.register) (g.G.Register.holds q) (g.G.Register.faults c.args.self.now.register) (g.G.Register.faults q)) (sym c.go_on.ensures.register)
          (kept_by (g.G.Register.told c.args.self.now.register) (g.G.Register.holds c.args.self.now.register) (g.G.Register.holds c.on_reply-answer.new.reg) (g.G.Register.may_hold c.args.self.now.register) (g.G.Register.may_hold c.on_reply-answer.new.reg) (g.G.Register.damaged c.args.self.now.register) (g.G.Register.faults c.args.self.now.register) (g.G.Register.faults c.on_reply-answer.new.reg) c.in-Some.sequencer.sequencer.log
          (g.met.G.Register.held_is_told c.args.self.now.register) (g.met.G.Register.held_is_whole c.args.self.now.register) _ _ c.on_reply-answer.result c.args.self.now.end c.go_on.new.self.end (none_of c.args.self.now.end (sym c.is_some.ensures ∙ c.if-is_some.false)) (c.go_on.ensures.end ∙ ap going c.in-Ok.ensures.end) c.in-Ok.ensures.memory c.on_reply-answer.ensures.counts
          c.on_reply-answer.ensures.failed c.on_reply-answer.ensures.steady c.on_reply-answer.ensures.full c.on_reply-answer.ensures.unfailed c.on_reply-answer.ensures.unseen c.on_reply-answer.ensures.caused c.on_reply-answer.ensures.keeps c.on_reply-answer.ensures.held),
    )

pub returns-in-Err-clause-since : goal.returns-in-Err-clause-since
returns-in-Err-clause-since g c =
    let w = c.in-Some.sequencer in
    let told = g.G.Register.told c.args.self.now.register in
    let may = g.G.Register.may_hold c.args.self.now.register in
    let leaves = tries_leave w.sequencer.log (reply_acts (shows w.sequencer.spec) w c.args.message.now.from c.args.message.now.body).tries told (g.G.Register.told c.on_reply-answer.new.reg) may (g.G.Register.may_hold c.on_reply-answer.new.reg) c.on_reply-answer.ensures.told (c.on_reply-answer.ensures.done_or_not (shows w.sequencer.spec)) in (
      (subst (λ o. IsSince o None told (g.G.Register.told c.on_reply-answer.new.reg) may (g.G.Register.may_hold c.on_reply-answer.new.reg) c.args.self.now.is_shut c.args.self.now.is_shut) (sym c.in-Some.is)
          (gone_since w told (g.G.Register.told c.on_reply-answer.new.reg) may (g.G.Register.may_hold c.on_reply-answer.new.reg) c.args.self.now.is_shut leaves)),
      c.on_reply-answer.ensures.itself,
      kept_cut c.args.self.now.end (Some ends.NoMemory) (g.G.Register.holds c.args.self.now.register) (g.G.Register.holds c.on_reply-answer.new.reg) (g.G.Register.faults c.args.self.now.register) (g.G.Register.faults c.on_reply-answer.new.reg) (none_of c.args.self.now.end (sym c.is_some.ensures ∙ c.if-is_some.false)) refl c.on_reply-answer.ensures.counts,
    )

pub returns-then-is_some-clause-since : goal.returns-then-is_some-clause-since
returns-then-is_some-clause-since g c = (
  is_here c.args.self.now.sequencer (g.G.Register.told c.args.self.now.register) (g.G.Register.may_hold c.args.self.now.register) c.args.self.now.is_shut,
  refl,
  kept_here c.args.self.now.end (g.G.Register.holds c.args.self.now.register) (g.G.Register.faults c.args.self.now.register),
)

pub returns-in-Ok-clause-ends : goal.returns-in-Ok-clause-ends
returns-in-Ok-clause-ends g c = final_going c.args.self.now.name c.on_reply-answer.result c.go_on.result.end c.go_on.result.lines.items (c.go_on.ensures.ends ∙ ap going c.in-Ok.ensures.end) (c.go_on.ensures.lines ∙ c.in-Ok.ensures.lines)
