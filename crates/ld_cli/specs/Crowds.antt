-- How a node that serves several peers at once ends, by its status.
use Rattle.std.specs.Prelude.{◌≡◌, ◌⊎◌, ⊤, ℕ, List, false, Option, Some}
use Rattle.ld_msg.specs.Register.{Register as Contents}
use Rattle.ld_past.specs.Events.{Event}
use Rattle.ld_register.specs.Calls.{after_draw, ChangedOrNot}
use Rattle.ld_node.specs.Known.{known_in}
use Rattle.ld_serve.specs.declared.stop.Stop.{Stop}
use Rattle.ld_serve.specs.Opening.{IsBlank, Stands}
use Rattle.ld_serve.specs.Crowd.{IsCrowdStop}
use Rattle.ld_serve.specs.Whole.{IsNotOpened}
use Rattle.ld_serve.specs.Many.{HasServedCrowd, HasStoppedCrowd}
use Rattle.ld_words.specs.declared.command.CrowdWords.{CrowdWords}
use Rattle.ld_cli.specs.declared.status.Status.{Status}
use Rattle.ld_cli.specs.Serving.{EndsServing, LinkFaults}

-- of a disk: its counts of faults, the bytes that it showed and shows, and what might be left of it and may be now
module _ (disk_before disk_now : ℕ) (seen seen_now : Option (List ℕ)) (before left : List ℕ → Type 0)
    -- of a register: its counts, whether it tells, what it may have held and may hold, what a crash may leave, and where it is damaged
    (register_before register_now : ℕ) (Told : Type 0) (holds holds_now may may_now : Contents → Type 0) (damaged : ℕ → Type 0)
    -- of a crowd: its counts, and what passed with it
    (crowd_before crowd_now : ℕ) (did : List Event) where
  -- why it stopped
  abbrev pub IsCrowdEnd : {C : Type 0} → C → C → CrowdWords → Stop → Type 0
  IsCrowdEnd crowd new w stop = IsNotOpened disk_before disk_now seen seen_now before left register_before register_now Told holds holds_now damaged w.node.id w.node.format crowd new stop
      ⊎ HasStoppedCrowd seen left holds holds_now w.node.id (known_in w.node.config) w.node.format did w.node.turns stop

  abbrev pub IsCrowdOpening : {C : Type 0} → C → C → CrowdWords → Stop → Type 0
  IsCrowdOpening crowd new w stop = IsNotOpened disk_before disk_now seen seen_now before left register_before register_now Told holds holds_now damaged w.node.id w.node.format crowd new stop
      ⊎ IsCrowdStop (Stands seen) stop

  -- it was opened and has served its turns; or it was opened, and stopped while it served; or it wasn't opened: each stop has its cause, and what no serving node stops with comes
  -- before the crowd is called. The register is asked for one draw at most, and only where a format is asked for and the disk is blank. The crowd's count of faults rose at the status
  -- Link, and at no other
  pub record IsCrowded {C G : Type 0} (crowd crowd_new : C) (reg reg_new : G) (w : CrowdWords) (status : Status) : Type 0 where
    pub served : EndsServing (HasServedCrowd seen left holds holds_now w.node.id (known_in w.node.config) w.node.format did w.node.turns) (IsCrowdEnd crowd crowd_new w) status
    pub opening : EndsServing ⊤ (IsCrowdOpening crowd crowd_new w) status
    pub unasked : w.node.format ≡ false → reg_new ≡ reg
    pub formatted : (bytes : List ℕ) → seen ≡ Some bytes → (IsBlank bytes → ⊥) → reg_new ≡ reg
    pub drawn : Told → ChangedOrNot may may_now (λ c. after_draw c w.node.id)
    pub faults : LinkFaults crowd_before crowd_now status
