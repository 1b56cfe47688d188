use Rattle.std.proofs.Common.{rules, Err, ap, ◌∙◌, arith}
use Rattle.std.proofs.lemmas.Bool.Decides.{nat_tests}
use Rattle.ld_register.specs.Bounds.{IsSpecFor}
use Rattle.ld_register.specs.declared.fault.RegisterFault.TheVariants as registers
use Rattle.ld_sequencer.specs.declared.close.Tried.TheVariants as tried
use Rattle.ld_sequencer.proofs.Causes.{close_cause}
use Rattle.ld_sequencer.proofs.Telling.{fixed_is, taken_as, behind_as, overtaken_as, ok_isnt, ok_free, behind_isnt, behind_free, overtaken_isnt, overtaken_free, passed_exact, passed_held}
use Rattle.ld_sequencer.proofs.close.close.Goals as goal

pub returns-in-Ok-clause-exact : goal.returns-in-Ok-clause-exact
returns-in-Ok-clause-exact g c = λ x h.
    let r = c.close.result in let l = c.args.log in let t = c.args.due.now in let f = c.args.first.now in
    passed_exact f x l t (g.G.Register.tells c.close.new.self) r (tried.Taken c.unwrap_or.result) (ok_isnt r c.in-Ok.next registers.LogLimit c.in-Ok.is) (taken_as f x l t r c.in-Ok.next c.unwrap_or.result c.in-Ok.is c.unwrap_or.ensures)
    (c.close.ensures.exact x h) (ok_isnt r c.in-Ok.next registers.NoMemory c.in-Ok.is)

pub returns-in-Ok-clause-held : goal.returns-in-Ok-clause-held
returns-in-Ok-clause-held g c = λ x h.
    let r = c.close.result in let l = c.args.log in let t = c.args.due.now in let f = c.args.first.now in
    passed_held f x l t (g.G.Register.holds c.close.new.self) r (tried.Taken c.unwrap_or.result) (ok_isnt r c.in-Ok.next registers.LogLimit c.in-Ok.is) (taken_as f x l t r c.in-Ok.next c.unwrap_or.result c.in-Ok.is c.unwrap_or.ensures)
    (c.close.ensures.answers x h) (λ k. absurd (ok_free r c.in-Ok.next c.in-Ok.is k))

pub returns-in-Err-Behind-clause-exact : goal.returns-in-Err-Behind-clause-exact
returns-in-Err-Behind-clause-exact g c = λ x h.
    let r = c.close.result in let l = c.args.log in let t = c.args.due.now in let f = c.args.first.now in
    let lce = c.in-Err-Behind.lce in let next = c.in-Err-Behind.next in let is = c.in-Err-Behind.is ∙ ap Err c.in-Err-Behind.field-0-is in
    passed_exact f x l t (g.G.Register.tells c.close.new.self) r (tried.Behind lce c.unwrap_or-in-Err-Behind.result) (behind_isnt r lce next registers.LogLimit (λ p. cc) is) (behind_as f x l t r lce next c.unwrap_or-in-Err-Behind.result is c.unwrap_or-in-Err-Behind.ensures)
    (c.close.ensures.exact x h) (behind_isnt r lce next registers.NoMemory (λ p. cc) is)

pub returns-in-Err-Behind-clause-held : goal.returns-in-Err-Behind-clause-held
returns-in-Err-Behind-clause-held g c = λ x h.
    let r = c.close.result in let l = c.args.log in let t = c.args.due.now in let f = c.args.first.now in
    let lce = c.in-Err-Behind.lce in let next = c.in-Err-Behind.next in let is = c.in-Err-Behind.is ∙ ap Err c.in-Err-Behind.field-0-is in
    passed_held f x l t (g.G.Register.holds c.close.new.self) r (tried.Behind lce c.unwrap_or-in-Err-Behind.result) (behind_isnt r lce next registers.LogLimit (λ p. cc) is) (behind_as f x l t r lce next c.unwrap_or-in-Err-Behind.result is c.unwrap_or-in-Err-Behind.ensures)
    (c.close.ensures.answers x h) (λ k. absurd (behind_free r lce next is k))

pub returns-in-Err-Behind-clause-bound : goal.returns-in-Err-Behind-clause-bound
returns-in-Err-Behind-clause-bound g c =
    let is = c.in-Err-Behind.is ∙ ap Err c.in-Err-Behind.field-0-is in
    let most = (c.close.ensures.bounds c.in-Err-Behind.lce c.in-Err-Behind.next is).0 in
    grind (arith, nat_tests)

pub returns-in-Err-Behind-clause-next : goal.returns-in-Err-Behind-clause-next
returns-in-Err-Behind-clause-next g c =
    let is = c.in-Err-Behind.is ∙ ap Err c.in-Err-Behind.field-0-is in
    fixed_is (IsSpecFor c.args.log) c.args.first.now c.requires.first c.in-Err-Behind.next c.unwrap_or-in-Err-Behind.result c.unwrap_or-in-Err-Behind.ensures (c.close.ensures.bounds c.in-Err-Behind.lce c.in-Err-Behind.next is).1

pub returns-in-Err-Overtaken-clause-exact : goal.returns-in-Err-Overtaken-clause-exact
returns-in-Err-Overtaken-clause-exact g c = λ x h.
    let r = c.close.result in let l = c.args.log in let t = c.args.due.now in let f = c.args.first.now in
    let kept = c.in-Err-Overtaken.kept in let is = c.in-Err-Overtaken.is ∙ ap Err c.in-Err-Overtaken.field-0-is in
    passed_exact f x l t (g.G.Register.tells c.close.new.self) r (tried.Overtaken kept) (overtaken_isnt r kept registers.LogLimit (λ p. cc) is) (overtaken_as f x l t r kept is) (c.close.ensures.exact x h) (overtaken_isnt r kept registers.NoMemory (λ p. cc) is)

pub returns-in-Err-Overtaken-clause-held : goal.returns-in-Err-Overtaken-clause-held
returns-in-Err-Overtaken-clause-held g c = λ x h.
    let r = c.close.result in let l = c.args.log in let t = c.args.due.now in let f = c.args.first.now in
    let kept = c.in-Err-Overtaken.kept in let is = c.in-Err-Overtaken.is ∙ ap Err c.in-Err-Overtaken.field-0-is in
    passed_held f x l t (g.G.Register.holds c.close.new.self) r (tried.Overtaken kept) (overtaken_isnt r kept registers.LogLimit (λ p. cc) is) (overtaken_as f x l t r kept is) (c.close.ensures.answers x h) (λ k. absurd (overtaken_free r kept is k))

pub returns-in-Err-clause-refused : goal.returns-in-Err-clause-refused
returns-in-Err-clause-refused g c = search rules

pub returns-in-Err-clause-caused : goal.returns-in-Err-clause-caused
returns-in-Err-clause-caused g c = λ t.
    close_cause c.in-Err.fault c.from.result c.close.result c.args.log c.args.due.now (g.G.Register.holds c.args.reg.now) _ (g.G.Register.damaged c.args.reg.now) c.in-Err.is c.from.ensures (returns-in-Err-clause-refused g c)
    (c.close.ensures.whole t) c.close.ensures.answers (λ place h. c.close.ensures.damaged place h t)
