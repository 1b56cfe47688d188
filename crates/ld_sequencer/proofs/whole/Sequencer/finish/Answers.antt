use Rattle.std.proofs.Common.{◌∙◌, sym}
use Rattle.ld_recovery.specs.Sending.{BeginsWith}
use Rattle.ld_recovery.proofs.Begins.{taken_back}
use Rattle.ld_sequencer.proofs.Begins.{on_err}
use Rattle.ld_sequencer.proofs.Unsent.{behind}
use Rattle.ld_sequencer.specs.Looks.{shows}
use Rattle.ld_sequencer.proofs.Doing.{made_acted, is_held, is_closing}
use Rattle.ld_sequencer.proofs.whole.Sequencer.finish.Goals.{in-Some+in_ok-closed-in-Some+in-Seals-1, in-Some+in_ok-closed-in-Some+in-Stores-1, in-Some+in_ok-closed-in-Some+in-Closes-1, in-None}
use Rattle.ld_sequencer.proofs.whole.Sequencer.finish.Goals as goal

pub returns-clause-acted : goal.returns-clause-acted
returns-clause-acted c =
    let w = c.args.self.now in let o = c.self.inside.own in let m = c.self.inside.recovery in let t = c.args.due.now in
    elim c.match-take.branch [
      | in-Some+in_ok-closed-in-Some+in-Seals-1 d ↦
          let r = d.in-Some.recovery in let k = sym c.take.ensures.value ∙ d.in-Some.is in
          made_acted (shows c.args.next.now) w c.go_on_behind.new.self o m r t c.released-before.result c.new.result c.risen.result c.args.out.now c.match-take.out c.go_on_behind.new.out c.self.view_is c.self.invariant k c.requires.due c.released-before.ensures c.new.ensures
          (d.out-is ∙ d.in_ok-closed-in-Some.ensures.sent t.summary t.short (is_closing o m r w t c.self.view_is c.self.invariant k c.requires.due)) c.in_ok-go_on_behind.ensures.now c.in_ok-go_on_behind.ensures.out c.risen.ensures
      | in-Some+in_ok-closed-in-Some+in-Stores-1 d ↦
          let r = d.in-Some.recovery in let k = sym c.take.ensures.value ∙ d.in-Some.is in
          made_acted (shows c.args.next.now) w c.go_on_behind.new.self o m r t c.released-before.result c.new.result c.risen.result c.args.out.now c.match-take.out c.go_on_behind.new.out c.self.view_is c.self.invariant k c.requires.due c.released-before.ensures c.new.ensures
          (d.out-is ∙ d.in_ok-closed-in-Some.ensures.sent t.summary t.short (is_closing o m r w t c.self.view_is c.self.invariant k c.requires.due)) c.in_ok-go_on_behind.ensures.now c.in_ok-go_on_behind.ensures.out c.risen.ensures
      | in-Some+in_ok-closed-in-Some+in-Closes-1 d ↦
          let r = d.in-Some.recovery in let k = sym c.take.ensures.value ∙ d.in-Some.is in
          made_acted (shows c.args.next.now) w c.go_on_behind.new.self o m r t c.released-before.result c.new.result c.risen.result c.args.out.now c.match-take.out c.go_on_behind.new.out c.self.view_is c.self.invariant k c.requires.due c.released-before.ensures c.new.ensures
          (d.out-is ∙ d.in_ok-closed-in-Some.ensures.sent t.summary t.short (is_closing o m r w t c.self.view_is c.self.invariant k c.requires.due)) c.in_ok-go_on_behind.ensures.now c.in_ok-go_on_behind.ensures.out c.risen.ensures
      | in-None d ↦ absurd (is_held o m w t c.self.view_is (sym c.take.ensures.value ∙ d.in-None.is) c.requires.due)
    ]

pub returns-in_err-go_on_behind-clause-unsent : goal.returns-in_err-go_on_behind-clause-unsent
returns-in_err-go_on_behind-clause-unsent c =
    let w = c.args.self.now in let o = c.self.inside.own in let m = c.self.inside.recovery in let t = c.args.due.now in
    let begun : BeginsWith c.args.out.now c.match-take.out = elim c.match-take.branch [
      | in-Some+in_ok-closed-in-Some+in-Seals-1 d ↦ behind c.args.out.now _ c.match-take.out (d.out-is ∙ d.in_ok-closed-in-Some.ensures.sent t.summary t.short (is_closing o m d.in-Some.recovery w t c.self.view_is c.self.invariant (sym c.take.ensures.value ∙ d.in-Some.is) c.requires.due))
      | in-Some+in_ok-closed-in-Some+in-Stores-1 d ↦ behind c.args.out.now _ c.match-take.out (d.out-is ∙ d.in_ok-closed-in-Some.ensures.sent t.summary t.short (is_closing o m d.in-Some.recovery w t c.self.view_is c.self.invariant (sym c.take.ensures.value ∙ d.in-Some.is) c.requires.due))
      | in-Some+in_ok-closed-in-Some+in-Closes-1 d ↦ behind c.args.out.now _ c.match-take.out (d.out-is ∙ d.in_ok-closed-in-Some.ensures.sent t.summary t.short (is_closing o m d.in-Some.recovery w t c.self.view_is c.self.invariant (sym c.take.ensures.value ∙ d.in-Some.is) c.requires.due))
      | in-None d ↦ absurd (is_held o m w t c.self.view_is (sym c.take.ensures.value ∙ d.in-None.is) c.requires.due)
    ] in
    on_err _ (taken_back c.args.out.now c.match-take.out c.go_on_behind.new.out c.len-count.result c.len-count.ensures c.in_err-go_on_behind.ensures.left begun)
