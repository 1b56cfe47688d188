-- Chosen steps.
use Rattle.std.proofs.Common.{◌≡◌, ℕ, Bool, true, false, ◌&&◌, refl}
use Rattle.ld_machine.specs.State.{State, Done, unchanged}
use Rattle.ld_machine.specs.Config.{has_node}
use Rattle.ld_machine.specs.Step.{where_node}
use Rattle.ld_config.specs.declared.config.Config.{Config}
pub use Rattle.ld_host.proofs.Messaging.{if_yes, if_not, at_put, put-put}

pub and_yes : (a b : Bool) → a ≡ true → b ≡ true → (a && b) ≡ true
and_yes true b h k = k
and_yes false b h k = absurd cc

pub no_and : (a b : Bool) → a ≡ false → (a && b) ≡ false
no_and true b h = absurd cc
no_and false b h = refl

pub first_of : (a b : Bool) → (a && b) ≡ true → a ≡ true
first_of true b h = refl
first_of false b h = absurd cc

pub second_of : (a b : Bool) → (a && b) ≡ true → b ≡ true
second_of true b h = h
second_of false b h = absurd cc

pub where_yes : (c : Config) (s : State) (n : ℕ) (b : Bool) (d : Done) → (has_node c n && b) ≡ true → where_node c s n b d ≡ d
where_yes c s n b d h = if_yes _ d (unchanged s) h

pub where_not : (c : Config) (s : State) (n : ℕ) (b : Bool) (d : Done) → (has_node c n && b) ≡ false → where_node c s n b d ≡ unchanged s
where_not c s n b d h = if_not _ d (unchanged s) h

pub where_here : (c : Config) (s : State) (n : ℕ) (d : Done) → has_node c n ≡ true → where_node c s n true d ≡ d
where_here c s n d h = where_yes c s n true d (and_yes _ true h refl)

pub where_nowhere : (c : Config) (s : State) (n : ℕ) (d : Done) → has_node c n ≡ false → where_node c s n true d ≡ unchanged s
where_nowhere c s n d h = where_not c s n true d (no_and _ true h)
