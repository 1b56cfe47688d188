-- A calm ends, and serves each log: what is so after any steps is so of the state of a cluster.
use Rattle.std.proofs.Common.{◌≡◌, ◌≤◌, ℕ, refl, sym, subst, true, List, [], ◌∷◌, length}
use Rattle.ld_transcript.specs.declared.line.Line.{Line}
use Rattle.ld_config.specs.declared.config.Config.{Config}
use Rattle.ld_machine.specs.Config.{has_log}
use Rattle.ld_machine.specs.State.{State}
use Rattle.ld_machine.specs.World.{World, begin}
use Rattle.ld_machine.specs.Run.{after_step, world_after}
use Rattle.ld_machine.specs.Calm.{Move, calms, calm_bound, calm_moves}
use Rattle.ld_calm.specs.Ends.{IsCalm}
use Rattle.ld_calm.proofs.InRun.{calm_ends_after}
use Rattle.ld_served.specs.Served.{AllWell, IsServed, NoLimit}
use Rattle.ld_served.proofs.Serves.{calm_serves_after}
use Rattle.ld_cluster.specs.declared.cluster.Cluster.{Cluster}
use Rattle.ld_cluster.specs.Standing.{config_of, past_of, state_by, state_of, IsReached}
use Rattle.ld_cluster.specs.Calming.{HasCalmed}
use Rattle.ld_cluster.specs.Served.{HasServed}

-- some steps lead to the same state
same_state : (c : Config) (w : World) (ms : List Move) → (world_after c w ms).state ≡ state_by c w.state ms
unfolding world_after
same_state c w [] = refl
same_state c w (m ∷ ms) = same_state c (after_step c w m) ms

-- a calm that begins in this state
abbrev Ends : Config → State → Type 0
Ends c s = IsCalm c s (calm_moves c s) × (length (calm_moves c s) ≤ calm_bound c s)

abbrev Serves : Config → State → Type 0
Serves c s = AllWell c s → NoLimit (calms c s) → (l : ℕ) → has_log c l ≡ true → IsServed c (calms c s).state l

module _ (k : Cluster) (r : IsReached k) where
  here : (P : State → Type 0) → P (world_after (config_of k) (begin (config_of k)) (past_of k)).state → P (state_of k)
  here P h = subst P (same_state (config_of k) (begin (config_of k)) (past_of k)) h

  ends : Ends (config_of k) (state_of k)
  ends = here (Ends (config_of k)) (calm_ends_after (config_of k) (past_of k) r.bounds)

  serves : Serves (config_of k) (state_of k)
  serves = here (Serves (config_of k)) (calm_serves_after (config_of k) (past_of k) r.bounds)

  pub calm_served : (new : Cluster) (lines_old lines_new : List Line) → HasCalmed k lines_old new lines_new → HasServed k new
  calm_served new lines_old lines_new h = record {
    ends = ends.0;
    few = ends.1;
    served = λ A U l log. subst (λ t. IsServed (config_of k) t l) (sym h.state) (serves A U l log);
  }
