-- Sequencers of the machine, and what is read of them once they are gone.
use Rattle.std.proofs.Common.{◌≡◌, ℕ, Bool, true, false, ◌&&◌, ◌==◌, List, [], ◌∷◌, Option, Some, None, option_map, refl, ap, sym, ◌∙◌, if◌then◌else◌}
use Rattle.ld_msg.specs.declared.msg.Msg.{Msg}
use Rattle.ld_msg.specs.Sequencer.{Sequencer}
use Rattle.ld_config.specs.declared.config.Config.{Config}
use Rattle.ld_machine.specs.State.{State, Done, unchanged, sequencer_of, name_of}
use Rattle.ld_machine.specs.Step.{on_live, to_live, to_sequencer}
use Rattle.ld_clients.specs.Names.{each_as}
use Rattle.ld_clients.specs.Serving.{gone_of, faded}
use Rattle.ld_clients.proofs.Names.{entry_as, first_step, name_as}
use Rattle.ld_clients.proofs.Rows.{if_yes}

-- ---- one sequencer ----

pub log_at : (b : Bool) (q : Sequencer) → (if b then gone_of q.log q.epoch else q).log ≡ q.log
log_at true q = refl
log_at false q = refl

pub epoch_at : (b : Bool) (q : Sequencer) → (if b then gone_of q.log q.epoch else q).epoch ≡ q.epoch
epoch_at true q = refl
epoch_at false q = refl

pub gone_at : (b : Bool) (q : Sequencer) → q.gone ≡ b → (if b then gone_of q.log q.epoch else q).gone ≡ q.gone
gone_at true q h = sym h
gone_at false q h = refl

-- one that isn't gone is read as it is
pub unfaded : (q : Sequencer) → q.gone ≡ false → faded q ≡ q
unfaded q h = ap (λ b. if b then gone_of q.log q.epoch else q) h

live_is : (y q : Sequencer) → q.gone ≡ false → faded y ≡ q → y ≡ q
live_is y q h e = sym (unfaded y (sym (gone_at y.gone y refl) ∙ (ap (λ (x : Sequencer). x.gone) e ∙ h))) ∙ e

pub found_live : (o : Option Sequencer) (q : Sequencer) → q.gone ≡ false → option_map faded o ≡ Some q → o ≡ Some q
found_live None q h e = absurd cc
found_live (Some y) q h e = let f : faded y ≡ q = cc in ap (λ (x : Sequencer). Some x) (live_is y q h f)

pub found_some : (o : Option Sequencer) (q : Sequencer) → option_map faded o ≡ Some q → (y : Sequencer) × (o ≡ Some y) × (faded y ≡ q)
found_some None q e = absurd cc
found_some (Some y) q e = let f : faded y ≡ q = cc in (y, refl, f)

-- ---- what it does ----

row_at : (b : Bool) (s : State) (q : Sequencer) (f : Sequencer → Done) → q.gone ≡ b → on_live s (Some q) f ≡ on_live s (Some (if b then gone_of q.log q.epoch else q)) f
row_at true s q f h = if_yes q.gone (unchanged s) (f q) h
row_at false s q f h = refl

-- what it does is seen of what is read of it
pub faded_row : (s : State) (o : Option Sequencer) (q : Sequencer) (f : Sequencer → Done) → option_map faded o ≡ Some q → on_live s o f ≡ on_live s (Some q) f
faded_row s o q f e = let p = found_some o q e in
    ap (λ x. on_live s x f) p.1 ∙ (row_at p.0.gone s p.0 f refl ∙ ap (λ (x : Sequencer). on_live s (Some x) f) p.2)

reply_at : (b : Bool) (c : Config) (s : State) (name : List ℕ) (q : Sequencer) (m : Msg) → q.gone ≡ b → to_live c s name q m ≡ to_live c s name (if b then gone_of q.log q.epoch else q) m
reply_at true c s name q m h = if_yes q.gone (unchanged s) _ h
reply_at false c s name q m h = refl

abbrev pub as_faded : List ℕ × Sequencer → List ℕ × Sequencer
as_faded x = entry_as faded x

pub faded_reply : (c : Config) (s : State) (m : Msg) (o : Option (List ℕ × Sequencer)) → to_sequencer c s m o ≡ to_sequencer c s m (option_map as_faded o)
faded_reply c s m None = refl
faded_reply c s m (Some x) = reply_at x.1.gone c s x.0 x.1 m refl

-- ---- by log and epoch ----

abbrev Sequencers : Type 0
Sequencers = List (List ℕ × Sequencer)

same_test : (l e : ℕ) (q : Sequencer) → (((faded q).log == l) && ((faded q).epoch == e)) ≡ ((q.log == l) && (q.epoch == e))
same_test l e q = λ i. (log_at q.gone q i == l) && (epoch_at q.gone q i == e)

pub sequencer_of_faded : (l e : ℕ) (qs : Sequencers) → sequencer_of l e (each_as faded qs) ≡ option_map as_faded (sequencer_of l e qs)
sequencer_of_faded l e [] = refl
sequencer_of_faded l e (x ∷ qs) = first_step faded ((x.1.log == l) && (x.1.epoch == e)) _ x _ _ (same_test l e x.1) (sequencer_of_faded l e qs)

-- the names stay
pub names_faded : (l e : ℕ) (qs : Sequencers) → name_of (sequencer_of l e (each_as faded qs)) ≡ name_of (sequencer_of l e qs)
names_faded l e qs = ap name_of (sequencer_of_faded l e qs) ∙ name_as faded (sequencer_of l e qs)
