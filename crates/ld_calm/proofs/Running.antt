-- In every run: what is needed of each sequencer, of each reader, of replies, and as a calm begins.
use Rattle.std.proofs.Common.{◌≡◌, ◌∙◌, ◌≤◌, ℕ, ◌+◌, ◌*◌, refl, sym, subst, true, List, length, Some, arith}
use Rattle.ld_table.specs.Named.{find_named}
use Rattle.ld_ids.specs.Choice.{nodes_of}
use Rattle.ld_config.specs.declared.config.Config.{Config}
use Rattle.ld_config.specs.Bounds.{IsInBounds}
use Rattle.ld_msg.specs.Register.{look}
use Rattle.ld_msg.specs.Sequencer.{Sequencer, Recovery}
use Rattle.ld_msg.specs.Reader.{Reader}
use Rattle.ld_machine.specs.Config.{all_nodes, looks_at, has_log}
use Rattle.ld_machine.specs.Facts.{Happened}
use Rattle.ld_machine.specs.World.{World}
use Rattle.ld_safety.proofs.Traces.{Keeps, both_kept}
use Rattle.ld_safety.proofs.Base.{Base}
use Rattle.ld_safety.proofs.Names as names
use Rattle.ld_calm.proofs.Measure.{Ground}
use Rattle.ld_calm.proofs.Weights.{InPlace}
use Rattle.ld_calm.proofs.Logs.{LogsFine}
use Rattle.ld_calm.proofs.Places.{most_given, most_there}
use Rattle.ld_calm.proofs.Marking.{Marking, marking_kept}
use Rattle.ld_calm.proofs.Networks.{places_kept}
use Rattle.ld_calm.proofs.Stored.{AllStored, stored_kept}
use Rattle.ld_calm.proofs.Sets.{Sets, RecoveryIn, sets_kept, look_in, spec_most}
use Rattle.ld_calm.proofs.Steady.{Steady}
use Rattle.ld_calm.proofs.FitsIn.{given_less, fits_by, retry_fits}
use Rattle.ld_calm.proofs.Falling.{OfSequencer, OfReader}
use Rattle.ld_calm.proofs.Starting.{Starts}
use Rattle.ld_calm.proofs.Ends.{starts_of, digest_length}

abbrev pub Storing : Config → List Happened → World → Type 0
Storing c hs w = Base c hs w × AllStored w.made w.state.sequencers

abbrev pub Setting : Config → List Happened → World → Type 0
Setting c hs w = (Base c hs w × LogsFine c w.state) × Sets c w.state

abbrev pub Placing : Config → List Happened → World → Type 0
Placing c hs w = Base c hs w × InPlace w.state.network

abbrev pub Running : Config → List Happened → World → Type 0
Running c hs w = (Marking c hs w × Storing c hs w) × (Setting c hs w × Placing c hs w)

pub running_kept : (c : Config) → IsInBounds c → Keeps c (Running c)
running_kept c b = both_kept c (λ hs w. Marking c hs w × Storing c hs w) (λ hs w. Setting c hs w × Placing c hs w) (both_kept c (Marking c) (Storing c) (marking_kept c) (stored_kept c)) (both_kept c (Setting c) (Placing c) (sets_kept c b) (places_kept c))

module _ (c : Config) (hs : List Happened) (w : World) (b : IsInBounds c) (R : Running c hs w) where
  -- what a look at an epoch of a log shows
  look_few : (l e : ℕ) → has_log c l ≡ true → length (nodes_of (looks_at c w.state.register l e).spec) ≤ length (all_nodes c)
  look_few l e h = spec_most c (looks_at c w.state.register l e).spec (look_in c b w.state.register l e R.1.0.1.1 h)

  recovered_few : (name : List ℕ) (q : Sequencer) → find_named name w.state.sequencers ≡ Some q → (v : Recovery) → q.recovery ≡ Some v → length (nodes_of v.spec) ≤ length (all_nodes c)
  recovered_few name q f v e = spec_most c v.spec (subst (RecoveryIn c) e (R.1.0.1.2 name q f).1)

  -- as a calm begins
  pub starts_so : Starts c w.state
  starts_so = starts_of c hs w b R.1.1.0 R.1.0.0.1 (λ q i v e d t. let f = names.found w.state.sequencers q R.1.1.0.0.0.0 i in
      let n = digest_length c hs w R.0.0.0.0.0.1 q.0 q.1 f v e d t in let m = recovered_few q.0 q.1 f v e in omega arith)

  module _ (g : Ground) (S : Steady c g w.state) where
    pub sequencer_so : (name : List ℕ) (q : Sequencer) → find_named name w.state.sequencers ≡ Some q → OfSequencer c w.state g q
    sequencer_so name q f = record {
      fits = fits_by c hs w b R.0.0 name q f g S (let m = spec_most c q.spec (R.1.0.1.2 name q f).0 in let n = S.size_nodes q.log in omega arith)
          (λ e. let m = look_few q.log e (R.1.0.0.1.0 name q f) in let n = S.size_nodes q.log in omega arith)
          (λ v e. let m = recovered_few name q f v e in let n = S.size_nodes q.log in omega arith);
      retry = retry_fits c hs w b R.0.0 name q f g S R.0.1.1 (λ v e. let m = recovered_few name q f v e in let n = S.size_nodes q.log in omega arith);
      nodes = S.size_nodes q.log ∙ sym S.nodes;
      items = let i : (g.sizes q.log).items ≡ g.nodes * (g.given q.log + 1) = S.size_items q.log ∙ (λ j. sym S.nodes j * (sym (S.given q.log) j + 1)) in omega arith;
      given = let t = most_there q.log q.epoch name q w.state.sequencers f refl refl in let m = most_given q.log q.epoch w.state.sequencers in let n = given_less q.log q.epoch w.state.sequencers in let v = S.given q.log in omega arith;
    }

    pub reader_so : (name : List ℕ) (d : Reader) → find_named name w.state.readers ≡ Some d → OfReader c w.state g d
    unfolding look
    reader_so name d f = record {
      looked = λ e. let m = look_few d.log e (R.1.0.0.1.1 name d f) in let n = S.nodes in omega arith;
      swaps = λ e. sym (S.swaps d.log);
    }
