-- Sequencers by name.
use Rattle.std.proofs.Common.{◌≡◌, ℕ, true, ◌&&◌, ◌==◌, List, [], ◌∷◌, Option, Some, None, option_map, refl, ap, sym, ◌∙◌, subst}
use Rattle.ld_table.specs.Named.{find_named, put_named}
use Rattle.ld_ids.specs.declared.set.Spec.{Spec}
use Rattle.ld_config.specs.declared.config.Config.{Config}
use Rattle.ld_msg.specs.Sequencer.{Sequencer}
use Rattle.ld_sequencer.specs.declared.origin.Origin.{Origin}
use Rattle.ld_machine.specs.State.{sequencer_of, name_of}
use Rattle.ld_machine.specs.Config.{first_spec, has_log}
use Rattle.ld_clients.specs.declared.client.Client.{Client}
use Rattle.ld_clients.specs.declared.client.Client.TheVariants.{Live, Gone}
use Rattle.ld_clients.specs.Serving.{shown, log_in, epoch_in, sequencers_of, serving_in, IsWholeIn, AreWhole, Remains, RemainsIn, GoesOn, KnowsIn, KnowTheirLogs}
use Rattle.ld_clients.specs.Places.{serves}
use Rattle.ld_clients.proofs.Names.{all_put, entry_as, first_step, name_as}

abbrev Serving : Type 0
Serving = List (List ℕ × Client)

-- ---- by log and epoch ----

abbrev pub as_shown : List ℕ × Client → List ℕ × Sequencer
as_shown k = entry_as shown k

pub log_shown : (k : Client) → (shown k).log ≡ log_in k
log_shown (Live w) = refl
log_shown (Gone l e) = refl

pub epoch_shown : (k : Client) → (shown k).epoch ≡ epoch_in k
epoch_shown (Live w) = refl
epoch_shown (Gone l e) = refl

same_test : (l e : ℕ) (k : Client) → (((shown k).log == l) && ((shown k).epoch == e)) ≡ serves l e k
same_test l e k = λ i. (log_shown k i == l) && (epoch_shown k i == e)

pub sequencer_of_is : (l e : ℕ) (ks : Serving) → sequencer_of l e (sequencers_of ks) ≡ option_map as_shown (serving_in l e ks)
sequencer_of_is l e [] = refl
sequencer_of_is l e (k ∷ ks) = first_step shown (serves l e k.1) _ k _ _ (same_test l e k.1) (sequencer_of_is l e ks)

-- the name of a sequencer of the machine
pub sequencer_named : (l e : ℕ) (ks : Serving) → name_of (sequencer_of l e (sequencers_of ks)) ≡ name_of (serving_in l e ks)
sequencer_named l e ks = ap name_of (sequencer_of_is l e ks) ∙ name_as shown (serving_in l e ks)

names_map : (o : Option (List ℕ × Client)) → option_map (λ e. e.0) o ≡ option_map (λ e. e.0) (option_map as_shown o)
names_map None = refl
names_map (Some k) = refl

pub names_are : (l e : ℕ) (ks : Serving) → option_map (λ e. e.0) (serving_in l e ks) ≡ option_map (λ e. e.0) (sequencer_of l e (sequencers_of ks))
names_are l e ks = names_map (serving_in l e ks) ∙ ap (option_map (λ (x : List ℕ × Sequencer). x.0)) (sym (sequencer_of_is l e ks))

-- ---- what holds of each ----

-- its log is one of the configuration's
pub has_known : (c : Config) (k : Client) → KnowsIn c k → has_log c (log_in k) ≡ true
has_known c (Live w) n = n.there
has_known c (Gone l e) n = n

pub whole_after : (k g : Client) → GoesOn k g → IsWholeIn k → IsWholeIn g
whole_after (Live w) (Live v) s i = let r : Remains w v = s.remains in record { log = s.log ∙ (i.log ∙ ap (λ (x : Spec). x.log) (sym r.spec)); live = r.gone ∙ i.live }
whole_after (Gone l e) (Live v) s i = absurd s.remains
whole_after k (Gone l e) s i = tt

pub knows_after : (c : Config) (k g : Client) → GoesOn k g → KnowsIn c k → KnowsIn c g
knows_after c (Live w) (Live v) s n = let r : Remains w v = s.remains in
    record { nodes = ap (λ (x : Origin). x.nodes) r.origin ∙ n.nodes; first = ap (λ (x : Origin). x.first) r.origin ∙ (n.first ∙ ap (first_spec c) (sym s.log)); there = ap (has_log c) s.log ∙ n.there }
knows_after c (Gone l e) (Live v) s n = absurd s.remains
knows_after c k (Gone l e) s n = ap (has_log c) s.log ∙ has_known c k n

pub are_whole_after : (name : List ℕ) (k g : Client) (ks gs : Serving) → find_named name ks ≡ Some k → GoesOn k g → gs ≡ put_named name g ks → AreWhole ks → AreWhole gs
are_whole_after name k g ks gs f s e w = subst AreWhole (sym e) (all_put IsWholeIn name g ks (whole_after k g s (w name k f)) w)

pub know_after : (c : Config) (name : List ℕ) (k g : Client) (ks gs : Serving) → find_named name ks ≡ Some k → GoesOn k g → gs ≡ put_named name g ks → KnowTheirLogs c ks → KnowTheirLogs c gs
know_after c name k g ks gs f s e n = subst (KnowTheirLogs c) (sym e) (all_put (KnowsIn c) name g ks (knows_after c k g s (n name k f)) n)

-- one that is dropped
gone_remains : (k : Client) (l e : ℕ) → RemainsIn k (Gone l e)
gone_remains (Live w) l e = tt
gone_remains (Gone m n) l e = tt

pub retired_goes : (k g : Client) → g ≡ Gone (log_in k) (epoch_in k) → GoesOn k g
retired_goes k g h = subst (GoesOn k) (sym h) record { log = refl; epoch = refl; remains = gone_remains k (log_in k) (epoch_in k) }
