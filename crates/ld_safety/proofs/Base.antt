-- What the later invariants stand on: names, what sequencers numbered, which epochs are closed, whose messages are whose.
use Rattle.std.proofs.Common.{◌≡◌, ℕ, subst, List, [], ◌∷◌, ◌++◌, Option, Some}
use Rattle.ld_table.specs.Named.{find_named}
use Rattle.ld_config.specs.declared.config.Config.{Config}
use Rattle.ld_msg.specs.Sequencer.{Sequencer}
use Rattle.ld_machine.specs.Facts.{Happened}
use Rattle.ld_machine.specs.State.{finish}
use Rattle.ld_machine.specs.Run.{after_step}
use Rattle.ld_machine.specs.World.{World}
use Rattle.ld_safety.proofs.Traces.{Keeps, step_happened}
use Rattle.ld_safety.proofs.Registers.{OnlyClosed, follows, start_closed}
use Rattle.ld_safety.proofs.Events.{NamesOnce}
use Rattle.ld_safety.proofs.Numbers.{AllCounts, CountedBy, Counts, counts_kept}
use Rattle.ld_safety.proofs.ReaderLogs.{ReadersApart, apart_kept}
use Rattle.ld_machine.specs.Calm.{Move}

abbrev pub Base : Config → List Happened → World → Type 0
Base c hs w = (NamesOnce w.state × AllCounts hs w) × (OnlyClosed w.state.register × ReadersApart hs w)

base_step : (c : Config) (hs : List Happened) (w : World) (e : Move) → Base c hs w → Base c (hs ++ step_happened c w.state e ∷ []) (after_step c w e)
unfolding finish
base_step c hs w e B = ((counts_kept c).goes_on hs w e B.0, ((follows c w.state e B.0.0 B.1.0).1, ((apart_kept c).goes_on hs w e (B.0.0, B.1.1)).1))

pub base_kept : (c : Config) → Keeps c (Base c)
base_kept c = record { begins = ((counts_kept c).begins, (start_closed, (apart_kept c).begins.1)); goes_on = base_step c }

pub counts_of : (c : Config) (hs : List Happened) (w : World) → Base c hs w → (s : List ℕ) (q : Sequencer) → find_named s w.state.sequencers ≡ Some q → Counts hs s q
counts_of c hs w b s q f = subst (λ (o : Option Sequencer). CountedBy hs s o) f (b.0.1.counted s)
