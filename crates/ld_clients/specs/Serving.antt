-- Sequencers by name: those that weren't dropped with what doesn't change of their logs, and of the others what is left.
use Rattle.std.specs.Prelude.{ℕ, ◌≡◌, ◌==◌, ◌&&◌, true, false, List, [], ◌∷◌, Option, Some, None, if◌then◌else◌}
use Rattle.ld_config.specs.declared.config.Config.{Config}
use Rattle.ld_msg.specs.Register.{Register, is_crowded}
use Rattle.ld_msg.specs.Sequencer.{Sequencer, bare}
use Rattle.ld_sequencer.specs.Whole.{Whole}
use Rattle.ld_machine.specs.Config.{no_spec, first_spec, has_log}
use Rattle.ld_clients.specs.Names.{each_as, AllNamed}
use Rattle.ld_clients.specs.declared.client.Client.{Client}
use Rattle.ld_clients.specs.declared.client.Client.TheVariants.{Live, Gone}

-- one that is gone, of which only the log and the epoch are known
abbrev pub gone_of : ℕ → ℕ → Sequencer
gone_of l epoch = record (bare (no_spec l) l epoch 0) { gone = true }

-- what the machine reads of a sequencer: where it is gone neither what it held nor what was fixed for it
abbrev pub faded : Sequencer → Sequencer
faded q = if q.gone then gone_of q.log q.epoch else q

-- the machine's sequencer, faded
abbrev pub shown : Client → Sequencer
shown (Live w) = w.sequencer
shown (Gone l epoch) = gone_of l epoch

abbrev pub log_in : Client → ℕ
log_in (Live w) = w.sequencer.log
log_in (Gone l epoch) = l

abbrev pub epoch_in : Client → ℕ
epoch_in (Live w) = w.sequencer.epoch
epoch_in (Gone l epoch) = epoch

-- the sequencers alone
abbrev pub sequencers_of : List (List ℕ × Client) → List (List ℕ × Sequencer)
sequencers_of ks = each_as shown ks

-- the sequencer of an epoch of a log, with its name
abbrev pub serving_in : ℕ → ℕ → List (List ℕ × Client) → Option (List ℕ × Client)
serving_in l epoch [] = None
serving_in l epoch (k ∷ ks) = if (log_in k.1 == l) && (epoch_in k.1 == epoch) then Some k else serving_in l epoch ks

-- what is fixed for its epoch is its log's
pub record IsWhole (w : Whole) : Type 0 where
  pub log : w.sequencer.log ≡ w.sequencer.spec.log
  pub live : w.sequencer.gone ≡ false

abbrev pub IsWholeIn : Client → Type 0
IsWholeIn (Live w) = IsWhole w
IsWholeIn (Gone l epoch) = Unit {0}

abbrev pub AreWhole : List (List ℕ × Client) → Type 0
AreWhole ks = AllNamed IsWholeIn ks

-- what is fixed for it stays
pub record Remains (before after : Whole) : Type 0 where
  pub origin : after.origin ≡ before.origin
  pub spec : after.sequencer.spec ≡ before.sequencer.spec
  pub gone : after.sequencer.gone ≡ before.sequencer.gone

-- none comes back
abbrev pub RemainsIn : Client → Client → Type 0
RemainsIn (Live w) (Live v) = Remains w v
RemainsIn (Live w) (Gone l epoch) = Unit {0}
RemainsIn (Gone l epoch) (Live v) = ⊥
RemainsIn (Gone l epoch) (Gone m other) = Unit {0}

-- it is the same one after a call
pub record GoesOn (before after : Client) : Type 0 where
  pub log : log_in after ≡ log_in before
  pub epoch : epoch_in after ≡ epoch_in before
  pub remains : RemainsIn before after

-- it tells all nodes of the configuration, and where nothing was fixed the log's first nodes, factor and extras count
pub record Knows (c : Config) (w : Whole) : Type 0 where
  pub nodes : w.origin.nodes ≡ c.nodes
  pub first : w.origin.first ≡ first_spec c w.sequencer.log
  pub there : has_log c w.sequencer.log ≡ true

abbrev pub KnowsIn : Config → Client → Type 0
KnowsIn c (Live w) = Knows c w
KnowsIn c (Gone l epoch) = has_log c l ≡ true

abbrev pub KnowTheirLogs : Config → List (List ℕ × Client) → Type 0
KnowTheirLogs c ks = AllNamed (KnowsIn c) ks

-- a register with room for each log of the configuration
abbrev pub HasRoom : Config → Register → Type 0
HasRoom c r = (l : ℕ) → has_log c l ≡ true → is_crowded r l ≡ false
