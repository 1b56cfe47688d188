use Rattle.std.proofs.Common.{◌≡◌, ◌∙◌, ℕ, List, false, [], ◌∷◌, refl, ap, sym, subst, Ok, Err, IfOk, OnOk, IsErrOf, None, Some, Option, IfSome}
use Rattle.std.specs.declared.result.Result.{Result}
use Rattle.ld_transcript.specs.declared.line.Line.TheVariants.{Active}
use Rattle.ld_register.specs.declared.fault.RegisterFault.TheVariants.{Damaged, LogLimit}
use Rattle.ld_sequencer.specs.declared.fault.SequencerFault.{SequencerFault}
use Rattle.ld_sequencer.specs.declared.fault.SequencerFault.TheVariants.{Register}
use Rattle.ld_sequencer.specs.Looks.{shows}
use Rattle.ld_sequencer.specs.Whole.{Whole, origin_of}
use Rattle.ld_rounds.specs.declared.actor.Heard.{Heard}
use Rattle.ld_rounds.specs.declared.ended.Refusal.TheVariants as refusals
use Rattle.ld_rounds.specs.declared.ended.Ended.{Ended}
use Rattle.ld_rounds.specs.declared.ended.Ended.TheVariants as ends
use Rattle.ld_append.specs.Acting.{MayCrowd, IsOfLog}
use Rattle.ld_append.proofs.Crowding.{limit_by, refused_activation, activation_leaves}
use Rattle.ld_rounds.specs.Ends.{tells_by, is_final}
use Rattle.ld_append.specs.Refusing.{fault_end, start_lines}
use Rattle.ld_append.proofs.Keeping.{refused_start, begun_not, begun_well}
use Rattle.ld_append.proofs.Saying.{damaged_by, final_started}
use Rattle.ld_append.proofs.Serving.{is_activated, not_activated, active_log, serves_as}
use Rattle.ld_append.proofs.acting.Acting.activate.Goals as goal

pub returns-in_ok-heard-in-Ok-clause-activated : goal.returns-in_ok-heard-in-Ok-clause-activated
returns-in_ok-heard-in-Ok-clause-activated g c = λ none s b is unset sound h.
    is_activated c.args.config.now s c.args.self.now.name (g.G.Register.tells c.args.self.now.register) h b sound c.args.spec.now is unset (g.G.Register.tells c.activate.new.reg) c.empty-sends.result c.activate.new.out
    (record { lines = c.in_ok-heard-in-Ok.heard.lines; sends = c.in_ok-heard-in-Ok.heard.sends }) _ c.empty-sends.ensures c.in_ok-heard-in-Ok.ensures.sends
    c.in-Ok.sequencer c.in_ok-copy-in-Ok.field-0 c.in-Ok.ensures.active.0 (shows c.in-Ok.ensures.active.2) c.in-Ok.ensures.active.4 (c.in-Ok.ensures.exact s.register h.register) c.in_ok-copy-in-Ok.ensures (c.in_ok-heard-in-Ok.ensures.lines ∙ (λ i. Active c.in_ok-copy-in-Ok.field-0 (c.epoch.ensures i) ∷ []))

gathered : {T E : Type 0} (r : Result T E) (P Q S : T → Type 0) (N : Type 0) → ((x : T) → P x → Q x → N → S x) → IfOk r P → IfOk r Q → OnOk r N → IfOk r S
gathered (Ok x) P Q S N f p q n = f x p q n
gathered (Err e) P Q S N f p q n = tt

pub returns-in-Err-clause-activated : goal.returns-in-Err-clause-activated
returns-in-Err-clause-activated g c = λ none. gathered c.refused.result _ _ _ _
    (λ x lines sends memory s b is unset sound h.
    let k = c.args.config.now in
    let name = c.args.self.now.name in
    serves_as g.G.Register.tells k s name name c.args.self.now.sequencer None c.activate.new.reg c.activate.new.reg x.lines.items x.sends _ refl none refl (
    not_activated k s name (g.G.Register.tells c.args.self.now.register) h b sound c.args.spec.now is unset (g.G.Register.tells c.activate.new.reg) c.empty-sends.result c.activate.new.out (record { lines = x.lines; sends = x.sends }) _ c.empty-sends.ensures sends
    c.in-Err.fault memory (c.in-Err.ensures.exact s.register h.register) lines))
    c.refused.ensures.lines c.refused.ensures.sends c.refused.ensures.memory

gathered_end : {E : Type 0} (told : Type 0) (damaged : ℕ → Type 0) (r : Result Heard E) (fault : SequencerFault) → IfOk r (λ heard. heard.end ≡ fault_end fault) → ((place : ℕ) → IsErrOf {T = Whole} (Err fault) (Register (Damaged place)) → told → damaged place)
    → IfOk r (λ heard. (place : ℕ) → heard.end ≡ Some (ends.Register (refusals.Damaged place)) → told → damaged place)
gathered_end told damaged (Ok h) fault e d = λ place is t. d place (ap (λ (x : SequencerFault). Err x) (damaged_by fault place (sym e ∙ is))) t
gathered_end told damaged (Err x) fault e d = tt

pub returns-in-Err-clause-damaged : goal.returns-in-Err-clause-damaged
returns-in-Err-clause-damaged g c = gathered_end (g.G.Register.told c.args.self.now.register) (g.G.Register.damaged c.args.self.now.register) c.refused.result c.in-Err.fault c.refused.ensures.end c.in-Err.ensures.damaged

gathered_limit : {E : Type 0} (told crowded : Type 0) (r : Result Heard E) (fault : SequencerFault) → IfOk r (λ heard. heard.end ≡ fault_end fault) → (fault ≡ Register LogLimit → told → crowded) → IfOk r (λ heard. heard.end ≡ Some ends.LogLimit → told → crowded)
gathered_limit told crowded (Ok h) fault e d = λ is t. d (limit_by fault (sym e ∙ is)) t
gathered_limit told crowded (Err x) fault e d = tt

pub returns-in-Err-clause-crowded : goal.returns-in-Err-clause-crowded
returns-in-Err-clause-crowded g c =
    let told = g.G.Register.told c.args.self.now.register in
    let may = g.G.Register.may_hold c.args.self.now.register in
    gathered_limit told (MayCrowd may c.args.spec.now.log) c.refused.result c.in-Err.fault c.refused.ensures.end
    (refused_activation told (g.G.Register.holds c.args.self.now.register) may (g.G.Register.holds c.activate.new.reg) (origin_of c.args.config.now.nodes c.args.spec.now) c.args.spec.now c.args.spec.now c.empty-sends.result c.activate.new.out c.in-Err.fault (g.met.G.Register.held_may_be c.args.self.now.register) c.in-Err.ensures.whole c.in-Err.ensures.held)

pub activate-requires-clause-first : goal.activate-requires-clause-first
activate-requires-clause-first g c = record { is = c.requires; log = refl }

pub returns-in-Err-clause-leaves : goal.returns-in-Err-clause-leaves
returns-in-Err-clause-leaves g c = activation_leaves c.args.spec.now _ _ _ _ c.activate.ensures.told c.activate.ensures.done_or_not

pub returns-in_ok-heard-in-Ok-clause-leaves : goal.returns-in_ok-heard-in-Ok-clause-leaves
returns-in_ok-heard-in-Ok-clause-leaves g c = activation_leaves c.args.spec.now _ _ _ _ c.activate.ensures.told c.activate.ensures.done_or_not

pub returns-in-Err-clause-active : goal.returns-in-Err-clause-active
returns-in-Err-clause-active g c = λ none. subst (IsOfLog c.args.spec.now.log) (sym none) tt

pub returns-in_ok-heard-in-Ok-clause-active : goal.returns-in_ok-heard-in-Ok-clause-active
returns-in_ok-heard-in-Ok-clause-active g c = λ none.
    let active = c.in-Ok.ensures.active in
    active_log (origin_of c.args.config.now.nodes c.args.spec.now) c.args.spec.now (shows active.2) active.0 c.in-Ok.sequencer c.empty-sends.result c.activate.new.out active.4

pub returns-in_err-copy-in-Ok-clause-leaves : goal.returns-in_err-copy-in-Ok-clause-leaves
returns-in_err-copy-in-Ok-clause-leaves g c = activation_leaves c.args.spec.now _ _ _ _ c.activate.ensures.told c.activate.ensures.done_or_not

pub returns-in_err-heard-in-Ok-clause-leaves : goal.returns-in_err-heard-in-Ok-clause-leaves
returns-in_err-heard-in-Ok-clause-leaves g c = activation_leaves c.args.spec.now _ _ _ _ c.activate.ensures.told c.activate.ensures.done_or_not

gathered_told : {E : Type 0} (Told : Ended → Type 0) (r : Result Heard E) (fault : SequencerFault) → IfOk r (λ heard. heard.end ≡ fault_end fault) → ((end : Option Ended) → end ≡ fault_end fault → IfSome end Told) → IfOk r (λ heard. IfSome heard.end Told)
gathered_told Told (Ok h) fault e f = f h.end e
gathered_told Told (Err x) fault e f = tt

pub returns-in-Err-clause-refused : goal.returns-in-Err-clause-refused
returns-in-Err-clause-refused g c = gathered_told _ c.refused.result c.in-Err.fault c.refused.ensures.end
    (λ end e. refused_start (g.G.Register.damaged c.args.self.now.register) (g.G.Register.told c.args.self.now.register) (g.G.Register.holds c.args.self.now.register) (g.G.Register.holds c.activate.new.reg) (g.G.Register.faults c.args.self.now.register) (g.G.Register.faults c.activate.new.reg) (origin_of c.args.config.now.nodes c.args.spec.now) c.args.spec.now c.args.spec.now c.empty-sends.result c.activate.new.out
    c.in-Err.fault end e c.in-Err.ensures.failed c.in-Err.ensures.steady c.in-Err.ensures.damaged c.in-Err.ensures.whole c.in-Err.ensures.held)

pub returns-in-Err-clause-on : goal.returns-in-Err-clause-on
returns-in-Err-clause-on g c = λ none. begun_not (Some ends.NoMemory) (g.G.Register.told c.args.self.now.register) (g.G.Register.holds c.args.self.now.register) (g.G.Register.holds c.activate.new.reg) (g.G.Register.faults c.args.self.now.register) (g.G.Register.faults c.activate.new.reg) refl

pub returns-in_ok-heard-in-Ok-clause-on : goal.returns-in_ok-heard-in-Ok-clause-on
returns-in_ok-heard-in-Ok-clause-on g c = λ none. begun_well _ _ c.in-Ok.sequencer c.args.self.now.end (g.G.Register.told c.args.self.now.register) (g.G.Register.holds c.args.self.now.register) (g.G.Register.holds c.activate.new.reg) (g.G.Register.faults c.args.self.now.register) (g.G.Register.faults c.activate.new.reg) none c.in-Ok.ensures.steady c.in-Ok.ensures.whole c.in-Ok.ensures.held

pub returns-in_err-copy-in-Ok-clause-on : goal.returns-in_err-copy-in-Ok-clause-on
returns-in_err-copy-in-Ok-clause-on g c = λ none. begun_well _ _ c.in-Ok.sequencer c.args.self.now.end (g.G.Register.told c.args.self.now.register) (g.G.Register.holds c.args.self.now.register) (g.G.Register.holds c.activate.new.reg) (g.G.Register.faults c.args.self.now.register) (g.G.Register.faults c.activate.new.reg) none c.in-Ok.ensures.steady c.in-Ok.ensures.whole c.in-Ok.ensures.held

pub returns-in_err-heard-in-Ok-clause-on : goal.returns-in_err-heard-in-Ok-clause-on
returns-in_err-heard-in-Ok-clause-on g c = λ none. begun_well _ _ c.in-Ok.sequencer c.args.self.now.end (g.G.Register.told c.args.self.now.register) (g.G.Register.holds c.args.self.now.register) (g.G.Register.holds c.activate.new.reg) (g.G.Register.faults c.args.self.now.register) (g.G.Register.faults c.activate.new.reg) none c.in-Ok.ensures.steady c.in-Ok.ensures.whole c.in-Ok.ensures.held

started_final : {E : Type 0} (name : List ℕ) (r : Result Heard E) (fault : SequencerFault) → IfOk r (λ heard. heard.end ≡ fault_end fault) → IfOk r (λ heard. heard.lines.items ≡ start_lines name fault) → IfOk r (λ heard. heard.end ≡ None → tells_by is_final heard.lines.items ≡ false)
started_final name (Ok h) fault e l = final_started name fault h.end h.lines.items e l
started_final name (Err x) fault e l = tt

pub returns-in-Err-clause-ends : goal.returns-in-Err-clause-ends
returns-in-Err-clause-ends g c = started_final c.args.self.now.name c.refused.result c.in-Err.fault c.refused.ensures.end c.refused.ensures.lines

pub returns-in_ok-heard-in-Ok-clause-ends : goal.returns-in_ok-heard-in-Ok-clause-ends
returns-in_ok-heard-in-Ok-clause-ends g c = λ none. ap (tells_by is_final) c.in_ok-heard-in-Ok.ensures.lines
