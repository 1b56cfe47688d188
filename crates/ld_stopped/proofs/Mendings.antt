-- A node that was opened is mended.
use Rattle.std.proofs.Common.{◌≡◌, ◌⊎◌, ℕ, List, Bool, Option, Some, Ok, Err, refl, sym, ◌∙◌, subst, inl, inr}
use Rattle.std.specs.Prelude.{MatchResult, IfErr, IfSome, OnOk}
use Rattle.std.specs.declared.result.Result.{Result}
use Rattle.ld_config.specs.declared.config.Config.{Config}
use Rattle.ld_wire.specs.declared.fault.WireFault.{WireFault}
use Rattle.ld_disk.specs.declared.disk.Disk.{Ghosts}
use Rattle.ld_msg.specs.declared.msg.Msg.{Msg}
use Rattle.ld_msg.specs.Register.{Register as Contents}
use Rattle.ld_op.specs.Plain.{Plain}
use Rattle.ld_layout.specs.Layout.{Layout}
use Rattle.ld_store.specs.Ops.{StandsFor, IfStands, IsOfFirst}
use Rattle.ld_machine.specs.Disk as machine
use Rattle.ld_node.specs.Known.{Known}
use Rattle.ld_node.specs.declared.node.Node.{Node}
use Rattle.ld_node.specs.Node.{plain_of, layout_of, slots_of, disk_of, Holds, IsOpened}
use Rattle.ld_dial.specs.Far.{Far}
use Rattle.ld_mend.specs.Course.{At, Moved, Halted, ToldAs}
use Rattle.ld_mend.specs.Standing.{IsMended}
use Rattle.ld_mend.specs.Stops.{Counts, IsStop, DiskCounts as Counted}
use Rattle.ld_mend.specs.declared.stop.Stop.{Stop as Mend}
use Rattle.ld_mend.specs.declared.stop.Stop.TheVariants as mends
use Rattle.ld_stopped.specs.declared.stop.Stop.{Stop}
use Rattle.ld_stopped.specs.Opening.{ShowsMarked}
use Rattle.ld_stopped.specs.Mending.{LiesThen, opened_at, HasMended, HasHalted, IsMendStop, ended}
use Rattle.ld_stopped.specs.Stops.{stop_of_mend, DiskCounts}

-- ---- a node that was opened ----

either_shown : (o now : Option (List ℕ)) (shown bytes : List ℕ) (p : Plain) → o ≡ Some shown → now ≡ Some bytes → StandsFor p shown → ShowsMarked o now → (bytes ≡ shown) ⊎ IsOfFirst shown
either_shown o now shown bytes p e h stands (inl same) = let both : Some bytes ≡ Some shown = sym h ∙ same ∙ e in let is : bytes ≡ shown = cc in inl is
either_shown o now shown bytes p e h stands (inr was) = let first : IfStands IsOfFirst shown = subst (λ (x : Option (List ℕ)). IfSome x (IfStands IsOfFirst)) e was in inr (first p stands)

module _ {D : Type 0} {g : Ghosts D} (seen : D → Option (List ℕ)) (may_leave : D → List ℕ → Type 0) where
  pub opened_on : (o : Option (List ℕ)) (shown : List ℕ) (node : Node D g) → o ≡ Some shown → IfSome o (IsOpened seen may_leave node) → IsOpened seen may_leave node shown
  opened_on o shown node e opened = subst (λ (x : Option (List ℕ)). IfSome x (IsOpened seen may_leave node)) e opened

  pub lies_then : (o : Option (List ℕ)) (shown : List ℕ) (p : Plain) (node : Node D g) → o ≡ Some shown → StandsFor p shown → Holds seen may_leave node → plain_of node ≡ p → ShowsMarked o (seen (disk_of node)) → LiesThen shown p (layout_of node)
  lies_then o shown p node e stands held is marked = record {
    bytes = held.bytes;
    slots = slots_of node;
    either = either_shown o (seen (disk_of node)) shown held.bytes p e held.rests.bytes_are stands marked;
    lies = held.lies;
    sound = held.sound;
    plain = sym is ∙ held.plain;
  }

-- ---- how it went on ----

module _ (id : ℕ) (known : Known) (c : Config) (r : Contents) (shown : List ℕ) (p : Plain) (far : Option (List (ℕ × machine.Node))) (left : List ℕ → Type 0) (old new : List ℕ) where
  pub has_mended : (Held There : Type 0) (T : Far → Type 0) (logs : List ℕ) (y : Layout) (s : At) (ends : List Msg → Option (List (ℕ × machine.Node)) → At) (mended : Bool) → LiesThen shown p y → s ≡ opened_at p y far
      → ((a : List Msg) (f : Option (List (ℕ × machine.Node))) → (ends a f).far ≡ f)
      → (There → Held) → (There → (a : List Msg) (f : Option (List (ℕ × machine.Node))) (b : List ℕ) → left b → StandsFor (ends a f).plain b)
      → IsMended There T id known c r s ends logs mended old new → HasMended id known c r shown p far left old new Held T logs mended
  has_mended Held There T logs y s ends mended laid e same held stand m = record {
    layout = y;
    laid = laid;
    at = ends m.asked m.far;
    told = m.told;
    moved = subst (λ (x : At). Moved id known c r x (ends m.asked m.far) m.told old new) e m.moved;
    logs_are = m.logs_are;
    mended_is = m.mended_is;
    stands = stand m.there m.asked m.far;
    held = held m.there;
    told_far = subst (λ (f : Option (List (ℕ × machine.Node))). ToldAs T f) (sym (same m.asked m.far)) m.told_far;
  }

  pub has_halted : (y : Layout) (s : At) (halt : Mend) → LiesThen shown p y → s ≡ opened_at p y far → Halted id known c r left s old new halt → HasHalted id known c r shown p far left old new (stop_of_mend halt)
  has_halted y s halt laid e h = record {
    layout = y;
    laid = laid;
    halt = halt;
    stop_is = refl;
    halted = subst (λ (x : At). Halted id known c r left x old new halt) e h;
  }

pub ended_so : (A : Bool → Type 0) (B : Mend → Type 0) (P : Bool → Type 0) (N Q : Stop → Type 0) (result : Result Bool Mend) → ((b : Bool) → A b → P b) → ((halt : Mend) → B halt → Q (stop_of_mend halt)) → MatchResult result A B
    → MatchResult (ended result) P (λ stop. N stop ⊎ Q stop)
ended_so A B P N Q (Ok b) f h is = f b is
ended_so A B P N Q (Err halt) f h is = inr (h halt is)

pub stopped_so : (damaged : ℕ → Type 0) (first before now : Counts) (off : Option WireFault) (N : Stop → Type 0) (result : Result Bool Mend) → before ≡ first → IfErr result (IsStop damaged before now off)
    → IfErr (ended result) (λ stop. N stop ⊎ IsMendStop damaged first now off stop)
stopped_so damaged first before now off N (Ok b) e is = tt
stopped_so damaged first before now off N (Err halt) e is = inr (record { halt = halt; stop_is = refl; cause = subst (λ (x : Counts). IsStop damaged x now off halt) e is })

pub ended_ok : (X : Type 0) (result : Result Bool Mend) → X → OnOk (ended result) X
ended_ok X (Ok b) x = x
ended_ok X (Err halt) x = tt

-- ---- the count of the disk's faults ----

halt_counts : (before now : ℕ) (halt : Mend) → Counted before now halt → DiskCounts before now (stop_of_mend halt)
halt_counts before now mends.Disk is = is
halt_counts before now (mends.Damaged place) is = is
halt_counts before now mends.Full is = is
halt_counts before now mends.Register is = is
halt_counts before now (mends.RegisterDamaged place) is = is
halt_counts before now (mends.BadFrame fault) is = is
halt_counts before now mends.Write is = is
halt_counts before now mends.NoMemory is = is

pub ended_counts : (first before now : ℕ) (result : Result Bool Mend) → before ≡ first → MatchResult result (λ _. now ≡ before) (Counted before now)
    → MatchResult (ended result) (λ _. now ≡ first) (DiskCounts first now)
ended_counts first before now (Ok b) e is = is ∙ e
ended_counts first before now (Err halt) e is = subst (λ (n : ℕ). DiskCounts n now (stop_of_mend halt)) e (halt_counts before now halt is)
