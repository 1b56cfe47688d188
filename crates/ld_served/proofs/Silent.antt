-- A tick sends nothing where all nodes are well.
use Rattle.std.proofs.Common.{◌≡◌, ◌∙◌, ℕ, refl, Bool, true, false, if◌then◌else◌, List, [], Option, Some, None, nat_lt}
use Rattle.ld_config.specs.declared.config.Config.{Config}
use Rattle.ld_schedule.specs.declared.event.Event.TheVariants as events
use Rattle.ld_msg.specs.declared.msg.Summary.{Summary}
use Rattle.ld_msg.specs.Network.{Network, send_all}
use Rattle.ld_msg.specs.Register.{epochs_of}
use Rattle.ld_table.specs.Table.{find}
use Rattle.ld_op.specs.declared.op.Op.TheVariants as ops
use Rattle.ld_op.specs.Plain.{Log, log_of}
use Rattle.ld_op.specs.Ticks.{Ticked, Cleans, Rebuilt, Asks, Nothing, on_tick, tick_with, refill_tick, missing, lowest_unclean}
use Rattle.ld_machine.specs.Disk.{keep_end}
use Rattle.ld_machine.specs.State.{State, finish, node_at}
use Rattle.ld_machine.specs.Step as Step
use Rattle.ld_machine.specs.Calm.{Takes, moved}
use Rattle.ld_safety.proofs.Votes.{in_of}
use Rattle.ld_served.proofs.Stepping.{ticking}
use Rattle.ld_served.proofs.Kept.{Good}

-- a node that isn't lost for the log asks for nothing
no_asks : (g : Log) (o : Option Summary) → g.lost ≡ false → (from : ℕ) → tick_with g o ≡ Asks from → ⊥
no_asks g (Some y) h from k = let z : Cleans (lowest_unclean g) y ≡ Asks from = k in cc
no_asks g None h from k = by_lost g.lost h k where
  by_lost : (b : Bool) → b ≡ false → (if b then refill_tick (nat_lt g.lost_to (lowest_unclean g)) (missing g) else Nothing) ≡ Asks from → ⊥
  by_lost true e f = let z : true ≡ false = e in cc
  by_lost false e f = let z : Nothing ≡ Asks from = f in cc

tick_no_asks : (g : Log) (closed : List (ℕ × Summary)) → g.lost ≡ false → (from : ℕ) → on_tick g closed ≡ Asks from → ⊥
unfolding on_tick
tick_no_asks g closed h from k = no_asks g (find (lowest_unclean g) closed) h from k

module _ (c : Config) (s : State) (A : Good c s) where
  -- the network is as it was
  pub tick_silent : (n l : ℕ) → (moved c s (Takes (events.Tick n l))).state.network ≡ s.network
  unfolding finish
  tick_silent n l = ticking c s n l (λ d. send_all d.state.network d.sends ≡ s.network) (record {
    still = λ k. refl;
    ticks = λ t g v k. by_tick t (λ from e. tick_no_asks (log_of (node_at s n).plain l) (epochs_of s.register l).summaries ((A.healthy.nodes n (in_of n _ g)).whole l v.log) from (k ∙ e));
  }) where
    none_sent : (w : Network) (b : Bool) → send_all w (if b then [] else []) ≡ w
    none_sent w true = refl
    none_sent w false = refl

    by_tick : (t : Ticked) → ((from : ℕ) → t ≡ Asks from → ⊥) → send_all (Step.ticks_as c s n l t).state.network (Step.ticks_as c s n l t).sends ≡ s.network
    by_tick (Cleans epoch y) h = none_sent s.network (Step.is_written (keep_end (node_at s n) (ops.Clean l epoch y)))
    by_tick Rebuilt h = none_sent s.network (Step.is_written (keep_end (node_at s n) (ops.Refilled l)))
    by_tick (Asks from) h = absurd (h from refl)
    by_tick Nothing h = refl
