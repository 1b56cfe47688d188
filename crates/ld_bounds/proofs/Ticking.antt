-- What a format is told is in its bounds.
use Rattle.std.proofs.Common.{ℕ, ◌==◌, List, [], ◌∷◌}
use Rattle.std.specs.List.{AllByRecursion}
use Rattle.std.proofs.lemmas.Bool.{cond_both}
use Rattle.ld_msg.specs.Register.{Epochs, epochs_in}
use Rattle.ld_config.specs.declared.config.Config.{Config}
use Rattle.ld_config.specs.Bounds.{IsInBounds}
use Rattle.ld_node_bounds.specs.States.{last_handed_out}
use Rattle.ld_node_bounds.specs.Messages.{IsLostTo}
use Rattle.ld_bounds.specs.Registers.{IsKnownLog}
use Rattle.ld_bounds.proofs.Configs.{log_is}

-- the epochs that a format is told
pub epochs_told : (c : Config) → IsInBounds c → (m : List (ℕ × Epochs)) → AllByRecursion (IsKnownLog c) m → AllByRecursion (IsLostTo last_handed_out) (epochs_in m)
epochs_told c B [] a = tt
epochs_told c B (e ∷ m) a = let i = a.0.epochs.epoch in cond_both (e.1.epoch == 0) (epochs_in m) ((e.0, e.1.epoch) ∷ epochs_in m) (AllByRecursion (IsLostTo last_handed_out))
    (λ t. epochs_told c B m a.1) (λ t. (record { log = log_is c B e.0 a.0.log; epoch = i.1 }, epochs_told c B m a.1))
