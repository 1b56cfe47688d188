use Rattle.std.proofs.Common.{◌∙◌, ◌++◌, sym, subst, ap, refl, length, None, Some, Err}
use Rattle.ld_msg.specs.Sequencer.{appending, appended, first_stores}
use Rattle.ld_sequencer.specs.Own.{append_fault}
use Rattle.ld_sequencer.specs.Whole.{as_now, sent_as}
use Rattle.ld_sequencer.specs.Whole.{Whole}
use Rattle.ld_rounds.specs.Ends.{tells_by, is_final}
use Rattle.ld_append.specs.Acting.{Serves, IsSince, is_here}
use Rattle.ld_append.proofs.Crowding.{same_since}
use Rattle.ld_append.proofs.Saying.{append_said, full_lines, final_is}
use Rattle.ld_append.proofs.Serving.{serves_as, none_appended, is_appended, not_appended, append_lines}
use Rattle.ld_append.proofs.acting.Acting.add.Goals as goal

pub returns-in_ok-heard-in-Err-clause-said : goal.returns-in_ok-heard-in-Err-clause-said
returns-in_ok-heard-in-Err-clause-said g c =
    append_said c.in_ok-heard-in-Err.heard.lines.items (length c.in_ok-copy.copy) (appending c.in-Some.sequencer.sequencer c.in_ok-copy.copy) c.in-Err.fault c.in_ok-heard-in-Err.heard.end
    c.in-Err.ensures.refused c.in_ok-heard-in-Err.ensures.end c.in_ok-heard-in-Err.ensures.told

pub returns-in_ok-heard-in-Ok-clause-appended : goal.returns-in_ok-heard-in-Ok-clause-appended
returns-in_ok-heard-in-Ok-clause-appended g c = λ k s h.
    is_appended k s c.args.self.now.name (g.G.Register.tells c.args.self.now.register) c.in-Some.sequencer (subst (λ o. Serves c.args.self.now.name o (g.G.Register.tells c.args.self.now.register) k s) c.in-Some.is h) c.append.new.self c.args.payload.now c.in_ok-copy-in-Ok.field-0 c.in-Ok.number (record { lines = c.in_ok-heard-in-Ok.heard.lines; sends = c.in_ok-heard-in-Ok.heard.sends })
    (c.in-Ok.ensures.now ∙ ap (λ p. as_now c.in-Some.sequencer (appended c.in-Some.sequencer.sequencer p)) c.in_ok-copy.ensures)
    (sym (ap (appending c.in-Some.sequencer.sequencer) c.in_ok-copy.ensures) ∙ c.in-Ok.ensures.taken)
    c.in_ok-copy-in-Ok.ensures c.in-Ok.ensures.number c.in_ok-heard-in-Ok.ensures.lines
    (c.in_ok-heard-in-Ok.ensures.sends ∙ (c.in-Ok.ensures.out ∙ (λ i. c.empty-sends.ensures i ++ sent_as c.in-Some.sequencer (first_stores c.in-Some.sequencer.sequencer (c.in_ok-copy.ensures i)))))

pub returns-in_default-clause-appended : goal.returns-in_default-clause-appended
returns-in_default-clause-appended g c = λ k s h.
    let name = c.args.self.now.name in
    let tells = g.G.Register.tells c.args.self.now.register in
    serves_as g.G.Register.tells k s name name c.args.self.now.sequencer None c.args.self.now.register c.args.self.now.register c.nothing.result.lines.items c.nothing.result.sends _ refl c.in_default.is refl (
    none_appended k s name tells c.args.payload.now (record { lines = c.nothing.result.lines; sends = c.nothing.result.sends }) (subst (λ o. Serves name o tells k s) c.in_default.is h) c.nothing.ensures.lines c.nothing.ensures.sends)

pub returns-in_ok-heard-in-Err-clause-appended : goal.returns-in_ok-heard-in-Err-clause-appended
returns-in_ok-heard-in-Err-clause-appended g c = λ k s h.
    let name = c.args.self.now.name in
    let tells = g.G.Register.tells c.args.self.now.register in
    let w = c.in-Some.sequencer in
    let p = c.args.payload.now in
    let f = c.in-Err.ensures.refused ∙ (λ i. append_fault (length (c.in_ok-copy.ensures i)) (appending w.sequencer (c.in_ok-copy.ensures i))) in
    not_appended k s name tells w (subst (λ o. Serves name o tells k s) c.in-Some.is h) c.append.new.self p c.in-Err.fault (record { lines = c.in_ok-heard-in-Err.heard.lines; sends = c.in_ok-heard-in-Err.heard.sends })
    c.in-Err.ensures.same f (λ e. c.in_ok-heard-in-Err.ensures.memory (ap Err e))
    (c.in_ok-heard-in-Err.ensures.lines ∙ append_lines name (length p) (appending w.sequencer p) c.in-Err.fault f)
    (c.in_ok-heard-in-Err.ensures.sends ∙ (c.in-Err.ensures.unsent ∙ c.empty-sends.ensures))

pub returns-in_ok-heard-in-Err-clause-full : goal.returns-in_ok-heard-in-Err-clause-full
returns-in_ok-heard-in-Err-clause-full g c =
    full_lines c.args.self.now.name (length c.in_ok-copy.copy) (appending c.in-Some.sequencer.sequencer c.in_ok-copy.copy) c.in-Err.fault c.is_window-is_full.result c.in_ok-heard-in-Err.heard.lines.items c.in-Err.ensures.refused c.is_window-is_full.ensures c.in_ok-heard-in-Err.ensures.lines

pub returns-in_default-clause-since : goal.returns-in_default-clause-since
returns-in_default-clause-since g c = is_here c.args.self.now.sequencer (g.G.Register.told c.args.self.now.register) (g.G.Register.may_hold c.args.self.now.register) c.args.self.now.is_shut

pub returns-in_ok-heard-in-Ok-clause-since : goal.returns-in_ok-heard-in-Ok-clause-since
returns-in_ok-heard-in-Ok-clause-since g c =
    subst (λ o. IsSince o (Some c.append.new.self) (g.G.Register.told c.args.self.now.register) (g.G.Register.told c.args.self.now.register) (g.G.Register.may_hold c.args.self.now.register) (g.G.Register.may_hold c.args.self.now.register) c.args.self.now.is_shut c.args.self.now.is_shut) (sym c.in-Some.is)
    (same_since c.in-Some.sequencer c.append.new.self (g.G.Register.told c.args.self.now.register) (g.G.Register.may_hold c.args.self.now.register) c.args.self.now.is_shut (ap (λ (w : Whole). w.sequencer.log) c.in-Ok.ensures.now))

pub returns-in_ok-heard-in-Err-clause-since : goal.returns-in_ok-heard-in-Err-clause-since
returns-in_ok-heard-in-Err-clause-since g c =
    subst (λ o. IsSince o (Some c.append.new.self) (g.G.Register.told c.args.self.now.register) (g.G.Register.told c.args.self.now.register) (g.G.Register.may_hold c.args.self.now.register) (g.G.Register.may_hold c.args.self.now.register) c.args.self.now.is_shut c.args.self.now.is_shut) (sym c.in-Some.is)
    (same_since c.in-Some.sequencer c.append.new.self (g.G.Register.told c.args.self.now.register) (g.G.Register.may_hold c.args.self.now.register) c.args.self.now.is_shut (ap (λ (w : Whole). w.sequencer.log) c.in-Err.ensures.same))

pub returns-in_ok-heard-in-Err-clause-ends : goal.returns-in_ok-heard-in-Err-clause-ends
returns-in_ok-heard-in-Err-clause-ends g c = final_is c.args.self.now.name (Err c.in-Err.fault) c.in_ok-heard-in-Err.heard.end c.in_ok-heard-in-Err.heard.lines.items c.in_ok-heard-in-Err.ensures.end c.in_ok-heard-in-Err.ensures.lines

pub returns-in_ok-heard-in-Ok-clause-ends : goal.returns-in_ok-heard-in-Ok-clause-ends
returns-in_ok-heard-in-Ok-clause-ends g c = λ none. ap (tells_by is_final) c.in_ok-heard-in-Ok.ensures.lines

pub returns-in_default-clause-ends : goal.returns-in_default-clause-ends
returns-in_default-clause-ends g c = λ none. ap (tells_by is_final) c.nothing.ensures.lines
