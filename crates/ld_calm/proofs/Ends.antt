-- In every run: what is needed as a calm begins.
use Rattle.std.proofs.Common.{◌≡◌, ◌∙◌, ◌≤◌, ℕ, ap, sym, subst, List, length, Some}
use Rattle.ld_config.specs.declared.config.Config.{Config}
use Rattle.ld_config.specs.Bounds.{IsInBounds}
use Rattle.ld_msg.specs.Digest.{Told}
use Rattle.ld_msg.specs.Sequencer.{Sequencer, Recovery, Seals}
use Rattle.ld_machine.specs.Config.{all_nodes}
use Rattle.ld_machine.specs.Facts.{Happened}
use Rattle.ld_machine.specs.World.{World, In}
use Rattle.ld_table.specs.Named.{find_named}
use Rattle.ld_ids.specs.Choice.{nodes_of}
use Rattle.ld_safety.proofs.Base.{Base}
use Rattle.ld_safety.proofs.Along.{Along}
use Rattle.ld_safety.proofs.Digests.{DigestSoFar}
use Rattle.ld_safety.proofs.Digesting.{InRecovery, RecoveryFine, StageFine}
use Rattle.ld_calm.proofs.Lefts.{mapped}
use Rattle.ld_safety.proofs.Names as names
use Rattle.ld_calm.proofs.Logs.{LogsFine, log_there}
use Rattle.ld_calm.proofs.Starting.{Starts}

-- what is needed as it begins, in a state of a run in which digests tell of no more nodes than there are
pub starts_of : (c : Config) (hs : List Happened) (w : World) → IsInBounds c → Base c hs w → LogsFine c w.state
    → ((q : List ℕ × Sequencer) → In q w.state.sequencers → (v : Recovery) → q.1.recovery ≡ Some v → (d : List Told) → v.stage ≡ Seals d → length d ≤ length (all_nodes c)) → Starts c w.state
starts_of c hs w b B L digests = record {
  names = B.0.0;
  some_node = b.some_node;
  sequencer_logs = λ q i. log_there q.1.log c.logs (L.0 q.0 q.1 (names.found w.state.sequencers q B.0.0.0 i));
  reader_logs = λ d i. log_there d.1.log c.logs (L.1 d.0 d.1 (names.found w.state.readers d B.0.0.1 i));
  epochs = λ q i. B.0.1.epochs.drawn q.0 q.1 (names.found w.state.sequencers q B.0.0.0 i);
  digests = digests;
}

-- a digest tells of the nodes of its recovery's set, once each
pub digest_length : (c : Config) (hs : List Happened) (w : World) → Along c hs w → (name : List ℕ) (q : Sequencer) → find_named name w.state.sequencers ≡ Some q → (v : Recovery) → q.recovery ≡ Some v → (d : List Told) → v.stage ≡ Seals d → length d ≡ length (nodes_of v.spec)
digest_length c hs w A name q f v e d t =
    let r : InRecovery c hs w.state.network.sent w.made w.state.register q.log q.epoch v = subst (RecoveryFine c hs w.state.network.sent w.made w.state.register q.log q.epoch) e (A.recoveries name q f) in
    let g : DigestSoFar hs w.made w.state.network.sent v.spec q.log v.epoch q.epoch d = subst (StageFine c hs w.state.network.sent w.made w.state.register v.spec q.log q.epoch v.epoch) t r.stage in
    sym (mapped (λ (x : Told). x.node) d) ∙ ap length g.nodes
