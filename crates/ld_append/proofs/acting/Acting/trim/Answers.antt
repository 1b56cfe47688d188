use Rattle.std.proofs.Common.{◌∙◌, ◌++◌, subst, ap, refl, None, Some, Err}
use Rattle.ld_ids.specs.Set.{members}
use Rattle.ld_msg.specs.declared.msg.Body.TheVariants.{Trim}
use Rattle.ld_msg.specs.Sequencer.{released_of, to_each}
use Rattle.ld_sequencer.specs.Whole.{sent_as}
use Rattle.ld_rounds.specs.Ends.{tells_by, is_final}
use Rattle.ld_append.specs.Acting.{Serves}
use Rattle.ld_append.proofs.Saying.{trim_said, trim_full, final_is}
use Rattle.ld_append.proofs.Serving.{serves_as, none_trimmed, is_trimmed, not_trimmed, trim_lines}
use Rattle.ld_append.proofs.acting.Acting.trim.Goals as goal

pub returns-in_default-clause-trimmed : goal.returns-in_default-clause-trimmed
returns-in_default-clause-trimmed g c = λ k s h.
    let name = c.args.self.now.name in
    let tells = g.G.Register.tells c.args.self.now.register in
    serves_as g.G.Register.tells k s name name c.args.self.now.sequencer None c.args.self.now.register c.args.self.now.register c.nothing.result.lines.items c.nothing.result.sends _ refl c.in_default.is refl (
    none_trimmed k s name tells c.args.point (record { lines = c.nothing.result.lines; sends = c.nothing.result.sends }) (subst (λ o. Serves name o tells k s) c.in_default.is h) c.nothing.ensures.lines c.nothing.ensures.sends)

pub returns-in_ok-heard-in-Ok-clause-trimmed : goal.returns-in_ok-heard-in-Ok-clause-trimmed
returns-in_ok-heard-in-Ok-clause-trimmed g c = λ k s h.
    let name = c.args.self.now.name in
    let tells = g.G.Register.tells c.args.self.now.register in
    let w = c.in-Some.sequencer in
    serves_as g.G.Register.tells k s name name c.args.self.now.sequencer (Some w) c.args.self.now.register c.args.self.now.register c.in_ok-heard-in-Ok.heard.lines.items c.in_ok-heard-in-Ok.heard.sends _ refl c.in-Some.is refl (
    is_trimmed k s name tells w (subst (λ o. Serves name o tells k s) c.in-Some.is h) c.args.point c.in_ok-copy-in-Ok.field-0 (record { lines = c.in_ok-heard-in-Ok.heard.lines; sends = c.in_ok-heard-in-Ok.heard.sends })
    c.in-Ok.ensures.within c.in_ok-copy-in-Ok.ensures c.in_ok-heard-in-Ok.ensures.lines
    (c.in_ok-heard-in-Ok.ensures.sends ∙ (c.in-Ok.ensures.out ∙ ap (λ x. x ++ sent_as w (to_each (Trim c.args.point) (members w.origin.nodes))) c.empty-sends.ensures)))

pub returns-in_ok-heard-in-Err-clause-trimmed : goal.returns-in_ok-heard-in-Err-clause-trimmed
returns-in_ok-heard-in-Err-clause-trimmed g c = λ k s h.
    let name = c.args.self.now.name in
    let tells = g.G.Register.tells c.args.self.now.register in
    let w = c.in-Some.sequencer in
    serves_as g.G.Register.tells k s name name c.args.self.now.sequencer (Some w) c.args.self.now.register c.args.self.now.register c.in_ok-heard-in-Err.heard.lines.items c.in_ok-heard-in-Err.heard.sends _ refl c.in-Some.is refl (
    not_trimmed k s name tells w (subst (λ o. Serves name o tells k s) c.in-Some.is h) c.args.point c.in-Err.fault (record { lines = c.in_ok-heard-in-Err.heard.lines; sends = c.in_ok-heard-in-Err.heard.sends })
    c.in-Err.ensures.refused (λ e. c.in_ok-heard-in-Err.ensures.memory (ap Err e))
    (c.in_ok-heard-in-Err.ensures.lines ∙ trim_lines name (released_of w.sequencer) c.args.point c.in-Err.fault c.in-Err.ensures.refused)
    (c.in_ok-heard-in-Err.ensures.sends ∙ (c.in-Err.ensures.unsent ∙ c.empty-sends.ensures)))

pub returns-in_ok-heard-in-Err-clause-said : goal.returns-in_ok-heard-in-Err-clause-said
returns-in_ok-heard-in-Err-clause-said g c =
    trim_said c.in_ok-heard-in-Err.heard.lines.items (released_of c.in-Some.sequencer.sequencer) c.args.point c.in-Err.fault c.in_ok-heard-in-Err.heard.end c.in-Err.ensures.refused c.in_ok-heard-in-Err.ensures.end

pub returns-in_ok-heard-in-Err-clause-full : goal.returns-in_ok-heard-in-Err-clause-full
returns-in_ok-heard-in-Err-clause-full g c =
    trim_full c.args.self.now.name (released_of c.in-Some.sequencer.sequencer) c.args.point c.in-Err.fault c.in_ok-heard-in-Err.heard.lines.items c.in-Err.ensures.refused c.in_ok-heard-in-Err.ensures.lines

pub returns-in_ok-heard-in-Err-clause-ends : goal.returns-in_ok-heard-in-Err-clause-ends
returns-in_ok-heard-in-Err-clause-ends g c = final_is c.args.self.now.name (Err c.in-Err.fault) c.in_ok-heard-in-Err.heard.end c.in_ok-heard-in-Err.heard.lines.items c.in_ok-heard-in-Err.ensures.end c.in_ok-heard-in-Err.ensures.lines

pub returns-in_ok-heard-in-Ok-clause-ends : goal.returns-in_ok-heard-in-Ok-clause-ends
returns-in_ok-heard-in-Ok-clause-ends g c = λ none. ap (tells_by is_final) c.in_ok-heard-in-Ok.ensures.lines

pub returns-in_default-clause-ends : goal.returns-in_default-clause-ends
returns-in_default-clause-ends g c = λ none. ap (tells_by is_final) c.nothing.ensures.lines
