-- A stopped node's store is opened, and the node is mended.
use Rattle.std.specs.Prelude.{◌≡◌, ◌⊎◌, ℕ, List, [], Bool, Option}
use Rattle.std.specs.declared.result.Result.{Result}
use Rattle.std.specs.declared.result.Result.TheVariants.{Ok, Err}
use Rattle.ld_config.specs.declared.config.Config.{Config}
use Rattle.ld_wire.specs.declared.fault.WireFault.{WireFault}
use Rattle.ld_msg.specs.Register.{Register as Contents}
use Rattle.ld_op.specs.Plain.{Plain}
use Rattle.ld_op.specs.Cells.{read_plain}
use Rattle.ld_layout.specs.Layout.{Layout}
use Rattle.ld_segment.specs.Lies.{Slots, LiesAs, IsSound, written}
use Rattle.ld_store.specs.Ops.{StandsFor, IsOfFirst}
use Rattle.ld_machine.specs.Disk.{Node}
use Rattle.ld_node.specs.Known.{Known}
use Rattle.ld_dial.specs.Far.{Far}
use Rattle.ld_mend.specs.Course.{At, Moved, Halted, ToldAs, told_logs, are_mended}
use Rattle.ld_mend.specs.Stops.{Counts, IsStop}
use Rattle.ld_mend.specs.declared.stop.Stop.{Stop as Mend}
use Rattle.ld_stopped.specs.declared.stop.Stop.{Stop}
use Rattle.ld_stopped.specs.Stops.{stop_of_mend}

-- once it was loaded a disk that showed these bytes had the same, or those with a mark, and they lie so and represent this plain state
pub record LiesThen (shown : List ℕ) (p : Plain) (y : Layout) : Type 0 where
  pub bytes : List ℕ
  pub slots : Slots
  pub either : (bytes ≡ shown) ⊎ IsOfFirst shown
  pub lies : LiesAs (written y) y slots bytes
  pub sound : IsSound y
  pub plain : p ≡ read_plain bytes y.index

-- a node that was opened: nothing is released, and nothing asked
abbrev pub opened_at : Plain → Layout → Option (List (ℕ × Node)) → At
opened_at p y far = record { plain = p; released = []; layout = y; asked = []; far = far }

-- of the node of this number, over a register that holds these contents: it was in this plain state, and its disk showed these bytes; the other nodes stood so, where they are told of
module _ (id : ℕ) (known : Known) (c : Config) (r : Contents) (shown : List ℕ) (p : Plain) (far : Option (List (ℕ × Node))) (left : List ℕ → Type 0) (old new : List ℕ) where
  -- such deeds led to where it is now, as its disk represents it, and the other nodes stand as they do then; of these logs it was told, and none lacks anything where it is mended
  pub record HasMended (Held : Type 0) (T : Far → Type 0) (logs : List ℕ) (mended : Bool) : Type 0 where
    pub layout : Layout
    pub laid : LiesThen shown p layout
    pub at : At
    pub told : List (ℕ × Option ℕ)
    pub moved : Moved id known c r (opened_at p layout far) at told old new
    pub logs_are : told_logs told ≡ logs
    pub mended_is : mended ≡ are_mended told
    pub stands : (b : List ℕ) → left b → StandsFor at.plain b
    pub held : Held
    pub told_far : ToldAs T at.far

  -- it stopped behind such deeds
  pub record HasHalted (stop : Stop) : Type 0 where
    pub layout : Layout
    pub laid : LiesThen shown p layout
    pub halt : Mend
    pub stop_is : stop ≡ stop_of_mend halt
    pub halted : Halted id known c r left (opened_at p layout far) old new halt

-- how mending ended
abbrev pub ended : Result Bool Mend → Result Bool Stop
ended (Ok mended) = Ok mended
ended (Err halt) = Err (stop_of_mend halt)

-- the store wasn't opened, and nothing else was called
pub record IsNotOpened (NotLoaded : Stop → Type 0) {R N O : Type 0} (reg reg_now : R) (nodes nodes_now : N) (out out_now : O) (stop : Stop) : Type 0 where
  pub loaded : NotLoaded stop
  pub register : reg_now ≡ reg
  pub others : nodes_now ≡ nodes
  pub output : out_now ≡ out

-- why it stopped once it was open
pub record IsMendStop (damaged : ℕ → Type 0) (before now : Counts) (off : Option WireFault) (stop : Stop) : Type 0 where
  pub halt : Mend
  pub stop_is : stop ≡ stop_of_mend halt
  pub cause : IsStop damaged before now off halt
