-- Nodes in memory that are dialed.
use Rattle.std.specs.Prelude.{◌≡◌, ◌∷◌, [], ℕ, List, Option, None, Some, true, false, OnOk, OnErr}
use Rattle.std.specs.declared.result.Result.{Result}
use Rattle.std.specs.declared.result.Result.TheVariants.{Ok, Err}
use Rattle.ld_io.specs.Memory.{one_more}
use Rattle.ld_config.specs.Bounds.{IsInBounds}
use Rattle.ld_config.specs.declared.config.Config.{Config}
use Rattle.ld_host.specs.Standing.{AreHosts}
use Rattle.ld_msg.specs.declared.msg.Msg.{Msg}
use Rattle.ld_machine.specs.Disk.{Node}
use Rattle.ld_dial.specs.Far.{Far, is_up_in}
use Rattle.ld_dial.specs.declared.fault.Fault.{Fault}
use Rattle.ld_dial.specs.declared.fault.Fault.TheVariants as faults
use Rattle.ld_driver.specs.declared.links.NodeLinks.{NodeLinks}

-- under its configuration, which is one that is read, each host is the machine's node, and the present node and the answers are those
pub record StandAs (links : NodeLinks) (c : Config) (far : Far) : Type 0 where
  pub config : links.config ≡ c
  pub bounds : IsInBounds c
  pub nodes : AreHosts c links.hosts far.nodes
  pub present : far.present ≡ links.present
  pub answers : far.answers ≡ links.answers

-- the call is refused, which is counted, and nothing else changes
abbrev pub IsRefused : NodeLinks → NodeLinks → Result (Unit {0}) Fault → Type 0
IsRefused old new result = (result ≡ Err faults.Link) × (new ≡ record old { faults = one_more old.faults })

-- a message is refused where no node is present, and where the present one isn't up; else that one takes it, or they are silent from then on
pub record SendsTo (old new : NodeLinks) (y : ℕ) (result : Result (Unit {0}) Fault) : Type 0 where
  pub down : (c : Config) (nodes : List (ℕ × Node)) → AreHosts c old.hosts nodes → is_up_in nodes y ≡ false → IsRefused old new result
  pub taken : OnOk result ((new.silent ≡ old.silent) × (new.faults ≡ old.faults))
  pub present : new.present ≡ Some y
  pub config : new.config ≡ old.config
  pub refused : (c : Config) (nodes : List (ℕ × Node)) → AreHosts c old.hosts nodes → is_up_in nodes y ≡ true → OnErr result ((new.silent ≡ true) × (new.faults ≡ one_more old.faults))

abbrev pub SendsIn : NodeLinks → NodeLinks → Option ℕ → Result (Unit {0}) Fault → Type 0
SendsIn old new None result = IsRefused old new result
SendsIn old new (Some y) result = SendsTo old new y result

-- the first answer is taken, or there is none, which is counted
abbrev pub Takes : NodeLinks → NodeLinks → Result (Option Msg) Fault → Type 0
Takes old new (Ok None) = (old.answers ≡ []) × (new ≡ record old { endings = one_more old.endings })
Takes old new (Ok (Some m)) = (old.answers ≡ m ∷ new.answers) × (new ≡ record old { answers = new.answers })
Takes old new (Err fault) = ⊥
