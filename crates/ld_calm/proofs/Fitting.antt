-- What a delivery to a reader needs, in a state of a half of a calm.
use Rattle.std.proofs.Common.{◌≡◌, ◌≤◌, ℕ, false, List, length, Some, None}
use Rattle.ld_table.specs.Named.{find_named}
use Rattle.ld_ids.specs.Choice.{nodes_of}
use Rattle.ld_config.specs.declared.config.Config.{Config}
use Rattle.ld_msg.specs.declared.msg.Msg.{Msg}
use Rattle.ld_msg.specs.declared.msg.Who.TheVariants as whos
use Rattle.ld_msg.specs.Reader.{Reader, Confirmation, is_finished, heard}
use Rattle.ld_machine.specs.Config.{looks_at}
use Rattle.ld_machine.specs.State.{State}
use Rattle.ld_machine.specs.World.{In}
use Rattle.ld_machine.specs.Step as Step
use Rattle.ld_machine.specs.Facts.{Happened}
use Rattle.ld_machine.specs.World.{World}
use Rattle.ld_safety.proofs.GivenSteps.{BaseGiven}
use Rattle.ld_safety.proofs.Along.{Along}
use Rattle.ld_safety.proofs.LostAlong.{Asked}
use Rattle.ld_calm.proofs.Ended.{ends_everywhere}
use Rattle.ld_calm.proofs.Confirming.{AllApart}
use Rattle.ld_calm.proofs.Measure.{Ground, ground_of}
use Rattle.ld_calm.proofs.Heard.{FitsAnswer}
use Rattle.ld_calm.proofs.Half.{Comes}
use Rattle.ld_calm.proofs.Holders.{Holders}
use Rattle.ld_calm.proofs.Waved.{Waved}
use Rattle.ld_calm.proofs.Answering.{Items, comes_to, still_apart, fits_answer}
use Rattle.ld_calm.proofs.HalfKept.{Known, InHalf}

-- what is known of readers and of what came to them in every run
pub record ReadersKnown (all : List ℕ) (s : State) : Type 0 where
  pub known : Known s
  pub alone : AllApart s.readers
  pub waved : Waved s.network.sent s.readers
  pub holders : Holders all s.network.sent s.readers

-- in a world of a run
pub readers_known : (c : Config) (hs : List Happened) (w : World) → BaseGiven c hs w × Along c hs w → Asked c hs w → AllApart w.state.readers → Waved w.state.network.sent w.state.readers
    → (all : List ℕ) → Holders all w.state.network.sent w.state.readers → ReadersKnown all w.state
readers_known c hs w B R A W all H = record { known = record { names = R.0.0.0; apart = R.0.1.1; rounds = R.1.1; ends = ends_everywhere c hs w B }; alone = A; waved = W; holders = H }

-- with that, in a half, an answer fits where items end at marks
pub fits_in_half : (c : Config) (g : Ground) (s : State) → ReadersKnown g.all s → InHalf g s → (all : length g.all ≡ g.nodes) → (name : List ℕ) (d : Reader) → find_named name s.readers ≡ Some d → is_finished d ≡ false
    → (m : Msg) → In m s.network.sent → m.to ≡ whos.Reader d.number → (looked : (e : ℕ) → length (nodes_of (looks_at c s.register d.log e).spec) ≤ g.nodes) (swaps : (e : ℕ) → (looks_at c s.register d.log e).swaps ≡ g.swaps d.log)
    → ((since : g.since name ≤ d.round) (apart : (v : Confirmation) → (heard d (Step.sender_node m.from) m.body).confirming ≡ Some v → d.senders ≡ None)
    → Items (ground_of g name d.log) all (looks_at c s.register d.log) looked swaps d (Step.sender_node m.from) m.body since apart)
    → FitsAnswer c s g name d (Step.sender_node m.from) m.body
fits_in_half c g s K H all name d f t m i q looked swaps items =
    let C : Comes g.all (g.since name) (g.right d.log) d (Step.sender_node m.from) m.body = comes_to g s K.known.rounds K.alone K.holders K.waved H.talk name d f m i q in
    let since : g.since name ≤ d.round = H.talk.since name d f in
    fits_answer c s g name d t (Step.sender_node m.from) m.body all looked swaps since C (items since (still_apart c s g name d t (Step.sender_node m.from) m.body all looked swaps since C))
