-- After a calm no append of a log's last sequencer waits, and each epoch before its own is closed, and clean on every node of the configuration.
use Rattle.std.proofs.Common.{◌≡◌, ℕ, ◌+◌, subst, true, List, [], ◌++◌, map, Some, None, arith}
use Rattle.ld_config.specs.declared.config.Config.{Config}
use Rattle.ld_config.specs.Bounds.{IsInBounds}
use Rattle.ld_msg.specs.Network.{oldest_new}
use Rattle.ld_msg.specs.Register.{lce_of}
use Rattle.ld_msg.specs.Sequencer.{Sequencer}
use Rattle.ld_op.specs.Plain.{log_of}
use Rattle.ld_machine.specs.Config.{has_log}
use Rattle.ld_machine.specs.State.{State, node_at}
use Rattle.ld_machine.specs.World.{begin}
use Rattle.ld_machine.specs.Run.{world_after}
use Rattle.ld_machine.specs.Calm.{Left, Move, Reads, last_of, calms, calm_fuel, all_left, readers_of}
use Rattle.ld_calm.proofs.InRun.{calm_ends_after}
use Rattle.ld_served.specs.Served.{AllWell, CalmSettles, IsSettled, NoLimit}
use Rattle.ld_served.proofs.Phases.{Parts, at_last}
use Rattle.ld_served.proofs.Last.{last_is}
use Rattle.ld_served.proofs.Kept.{Good, good_first, good_parts, after_steps, after_events, unlimited}
use Rattle.ld_served.proofs.Cleaned.{positive_at}
use Rattle.ld_served.proofs.Settling.{Behind, Settled, to_come, behind_parts, part_there, settled_behind, settled_parts}

-- what stands behind a log's part, of its last sequencer
pub behind_settled : (c : Config) (l : ℕ) (s : State) → Behind c l s → (q : List ℕ × Sequencer) → last_of s l ≡ Some q → IsSettled c s l q.1
behind_settled c l s B q e =
    let L = last_is s l q B.good.of_run.known.lined.0.0.0.0.0.0 e in
    let r = B.rest q.0 q.1 L in
    let closed : lce_of s.register l + 1 ≡ q.1.epoch = subst (λ x. lce_of s.register x + 1 ≡ q.1.epoch) L.log r.1 in
    record {
      acked = r.0;
      closed = closed;
      clean = λ n e i pos low. positive_at (log_of (node_at s n).plain l) e pos (B.clean n i q.0 q.1 L e pos (omega arith));
    }

-- what each step keeps, and what each part keeps and begins behind the log's part, before the turns of its readers
module _ (c : Config) (ms : List Move) (b : IsInBounds c) (A : AllWell c (world_after c (begin c) ms).state) (U : NoLimit (calms c (world_after c (begin c) ms).state)) (l : ℕ) (log : has_log c l ≡ true) where
  abbrev s : State
  s = (world_after c (begin c) ms).state

  abbrev turns : List Left
  turns = map (λ r. Reads r) (readers_of l s.readers)

  pub calm_reaches : (I : State → Type 0) → Parts c (λ t ps. I t) → I s → (B : State → List Left → Type 0) → Parts c B → ((zs : List Left) (t : State) → I t → Behind c l t → oldest_new t.network ≡ None → B t (turns ++ zs)) → B (calms c s).state []
  calm_reaches I H first B K enters =
      let z = part_there c s l log in
      let qs : List Left = turns ++ z.0 in
      let P = at_last c (λ t ps. Settled c l qs I B t ps) (settled_parts c l qs I B b log H K (enters z.0)) (calm_fuel c s) s (all_left c s)
      (record { good = good_first c s (after_steps c b ms) A; always = first; stage = to_come z.1 }) (calm_ends_after c ms b).0 (unlimited (calms c s) U) in
      settled_behind c l qs I B (calms c s).state [] P (λ i. i) (λ i. i) (λ n i. i)

  pub calm_behind : Behind c l (calms c s).state
  calm_behind = calm_reaches (Good c) (good_parts c b) (good_first c s (after_steps c b ms) A) (λ x rs. Behind c l x) (behind_parts c b l) (λ zs t G h e. h)

-- what a calm that begins in this state does
abbrev SettlesAll : Config → State → Type 0
SettlesAll c s = AllWell c s → NoLimit (calms c s) → (l : ℕ) (q : List ℕ × Sequencer) → has_log c l ≡ true → last_of (calms c s).state l ≡ Some q → IsSettled c (calms c s).state l q.1

pub settled_after : (c : Config) → IsInBounds c → (ms : List Move) → SettlesAll c (world_after c (begin c) ms).state
settled_after c b ms A U l q log e = behind_settled c l (calms c (world_after c (begin c) ms).state).state (calm_behind c ms b A U l log) q e

pub calm_settles : CalmSettles
calm_settles c es b = after_events c (SettlesAll c) (settled_after c b) es
