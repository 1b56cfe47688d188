-- The register's logs are in order.
use Rattle.std.proofs.Common.{ℕ, inl, inr, sym, subst}
use Rattle.ld_config.specs.declared.config.Config.{Config}
use Rattle.ld_msg.specs.Register.{swap, swapped_epochs, Register, Epochs, epochs_of, with_epochs, next_epoch, closed_epochs, activate, close}
use Rattle.ld_machine.specs.State.{State}
use Rattle.ld_machine.specs.Step as Step
use Rattle.ld_safety.proofs.Rising.{Rising, Rising-put}
use Rattle.ld_safety.proofs.Events.{NamesOnce}
use Rattle.ld_safety.proofs.RegisterSteps.{Same, activate_leaves, close_leaves, draw_leaves, swap_leaves}
use Rattle.ld_safety.proofs.Registers.{register_kept}
use Rattle.ld_machine.specs.Calm as Calm
use Rattle.ld_machine.specs.Calm.{Move}

put_rises : (r n : Register) (l : ℕ) (x : Epochs) → Same (with_epochs r l x) n → Rising r.logs → Rising n.logs
put_rises r n l x s h = subst Rising (sym s.0) (Rising-put l x r.logs h)

pub logs_rise : (c : Config) (s : State) (e : Move) → NamesOnce s → Rising s.register.logs → Rising (Calm.moves c s e).state.register.logs
logs_rise c s e N h = register_kept c s e (λ n. Rising n.logs) h
    (λ l g. elim (activate_leaves s.register l (Step.spec_set c s l)) [
      | inl a ↦ subst Rising (sym a.0) h
      | inr a ↦ put_rises s.register (activate s.register l (Step.spec_set c s l)).register l (next_epoch (epochs_of s.register l) (Step.spec_set c s l)) a.1 h
    ])
    (λ l k y b. elim (close_leaves s.register l k y b) [
      | inl a ↦ subst Rising (sym a.0) h
      | inr a ↦ put_rises s.register (close s.register l k y b).register l (closed_epochs (epochs_of s.register l) k y) a.1 h
    ])
    (λ n. elim (draw_leaves s.register n) [ inl a ↦ subst Rising (sym a.0) h | inr a ↦ subst Rising (sym a.0) h ])
    (λ l upto old new. elim (swap_leaves s.register l upto old new) [
      | inl a ↦ subst Rising (sym a.0) h
      | inr a ↦ put_rises s.register (swap s.register l upto old new).register l (swapped_epochs (epochs_of s.register l) upto old new) a h
    ])
    (λ n q. subst Rising (sym q) h) N
