-- Where all nodes are well, each node that told a reader that it is lost for an epoch was lost up to it, and is clean there.
use Rattle.std.proofs.Common.{◌≡◌, ◌≤◌, ◌<◌, ℕ, inl, inr, refl, ap, sym, subst, true, Some, is_some, List, arith}
use Rattle.ld_table.specs.Table.{find}
use Rattle.ld_table.specs.Named.{find_named}
use Rattle.ld_lsn.specs.Number.{home_epoch}
use Rattle.ld_config.specs.declared.config.Config.{Config}
use Rattle.ld_msg.specs.declared.msg.Who.TheVariants as whos
use Rattle.ld_msg.specs.declared.msg.Msg.{Msg}
use Rattle.ld_msg.specs.declared.msg.Body.TheVariants as bodies
use Rattle.ld_msg.specs.Reading.{Held}
use Rattle.ld_msg.specs.Reader.{Reader}
use Rattle.ld_op.specs.Plain.{Log, log_of}
use Rattle.ld_machine.specs.Config.{all_nodes, has_log}
use Rattle.ld_machine.specs.State.{State, node_at}
use Rattle.ld_machine.specs.World.{In}
use Rattle.ld_machine.specs.Step as Step
use Rattle.ld_safety.proofs.Members.{find_in}
use Rattle.ld_safety.proofs.LostRounds.{Rounds, answer_to}
use Rattle.ld_served.proofs.Relost.{LostThere}
use Rattle.ld_served.proofs.Free.{Known, clean_found, no_loss}
use Rattle.ld_served.proofs.Kept.{Good}
use Rattle.ld_served.proofs.Round.{WasLost}

-- lost up to the epoch of the number at some time, and clean there now
abbrev pub LostOnce : State → ℕ → ℕ → ℕ → Type 0
LostOnce s l y n = WasLost s l y n × (is_some (find (home_epoch n) (log_of (node_at s y).plain l).summaries) ≡ true)

module _ (c : Config) (s : State) (A : Good c s) where
  K : Known c A.of_run.steps (record { state = s; made = A.of_run.made; joined = A.of_run.joined })
  K = A.of_run.known

  rounds : Rounds s.register (λ m. In m s.network.sent) s.readers
  unfolding K
  rounds = K.relost.0.1.1.1

  there : (l y n : ℕ) → In y (all_nodes c) → has_log c l ≡ true → 0 < home_epoch n → LostThere s l y (home_epoch n) → LostOnce s l y n
  unfolding K
  there l y n i log p T =
      let well = A.healthy.nodes y i in
      let g : Log = log_of (node_at s y).plain l in
      let up = K.lined.0.1.ups y well.up in
      let to : home_epoch n ≤ g.lost_to = elim (T.fallen (node_at s y).plain (inl refl)) [ inl z ↦ absurd (let v = up.1 in omega arith) | inr h ↦ h ] in
      let clean : is_some (find (home_epoch n) g.summaries) ≡ true = elim (T.unserved (node_at s y).plain (inl refl)) [
        | inl z ↦ absurd (let v = up.1 in omega arith)
        | inr (inl h) ↦ absurd (no_loss c A.of_run.steps (record { state = s; made = A.of_run.made; joined = A.of_run.joined }) K A.healthy.nodes g (home_epoch n) (well.whole l log) h)
        | inr (inr h) ↦ (let f = clean_found c A.of_run.steps (record { state = s; made = A.of_run.made; joined = A.of_run.joined }) K A.healthy.nodes g (home_epoch n) p h in ap is_some f.1)
      ] in
      ((p, to), clean)

  -- by a message
  pub sent_lost : (m : Msg) (k n u g end : ℕ) → In m s.network.sent → m.to ≡ whos.Reader k → m.body ≡ bodies.LostHere n u g end → In (Step.sender_node m.from) (all_nodes c) → has_log c m.log ≡ true → LostOnce s m.log (Step.sender_node m.from) n
  unfolding K rounds
  sent_lost m k n u g end i t b node log =
      let p : 0 < home_epoch n = rounds.positive m k n u g end i t b in
      there m.log (Step.sender_node m.from) n node log p (K.relost.1 m i k n u g end t b p)

  module _ (name : List ℕ) (d : Reader) (f : find_named name s.readers ≡ Some d) where
    log : has_log c d.log ≡ true
    log = A.of_run.known.setting.0.1.1 name d f

    -- by one to the reader
    pub answer_lost : (m : Msg) (y n u g end : ℕ) → In m s.network.sent → m.to ≡ whos.Reader d.number → m.from ≡ whos.Node y → m.body ≡ bodies.LostHere n u g end → In y (all_nodes c) → LostOnce s d.log y n
    unfolding log
    answer_lost m y n u g end i t o b node =
        let same : Step.sender_node m.from ≡ y = ap Step.sender_node o in
        let lg : m.log ≡ d.log = sym (A.of_run.known.lined.0.0.0.1.1.logs m d.number name d i (inl t) f refl) in
        subst (λ l. LostOnce s l y n) lg (subst (λ x. LostOnce s m.log x n) same
        (sent_lost m d.number n u g end i t b (subst (λ x. In x (all_nodes c)) (sym same) node) (subst (λ l. has_log c l ≡ true) (sym lg) log)))

    -- by an answer that the reader holds
    pub told_lost : (y n u g end : ℕ) (h : Held) → find y d.held ≡ Some h → h.body ≡ bodies.LostHere n u g end → In y (all_nodes c) → LostOnce s d.log y n
    unfolding rounds
    told_lost y n u g end h e b node = answer_lost (answer_to y d h.body) y n u g end (rounds.held name d (y, h) f (find_in y d.held h e)) refl refl b node
