-- A node that is mended, and where it is in the course.
use Rattle.std.specs.Prelude.{ℕ, ◌≡◌, List, [], ◌∷◌, Option, Some, None, Bool, true, false, map}
use Rattle.std.specs.List.{AllByRecursion}
use Rattle.ld_ids.specs.declared.set.Spec.{Spec}
use Rattle.ld_lsn.specs.Number.{numbered}
use Rattle.ld_msg.specs.declared.msg.Who.TheVariants as whos
use Rattle.ld_disk.specs.declared.disk.Disk.{Ghosts}
use Rattle.ld_msg.specs.declared.msg.Msg.{Msg}
use Rattle.ld_machine.specs.Disk as machine
use Rattle.ld_node.specs.Known.{Known}
use Rattle.ld_node.specs.Node.{id_of, known_of, plain_of, released_of, layout_of, Holds}
use Rattle.ld_node.specs.declared.node.Node.{Node}
use Rattle.ld_node.specs.declared.tick.Ticked.TheVariants as answers
use Rattle.ld_config.specs.declared.config.Config.{Config}
use Rattle.ld_msg.specs.Register.{Register}
use Rattle.ld_dial.specs.Far.{Far}
use Rattle.ld_mend.specs.Course.{At, Moved, Stands, ToldAs, IsHushed, is_open, own_answer, open_epoch, tick_answer, told_logs, are_mended}

module _ {D : Type 0} {g : Ghosts D} where
  -- what it asked last, and the other nodes
  abbrev pub at_of : Node D g → List Msg → Option (List (ℕ × machine.Node)) → At
  at_of node asked far = record { plain = plain_of node; released = released_of node; layout = layout_of node; asked = asked; far = far }

module _ {D : Type 0} {g : Ghosts D} (seen : D → Option (List ℕ)) (may_leave : D → List ℕ → Type 0) where
  -- it has this number, knows this of the configuration, and its store holds what the disk has
  pub record IsThere (id : ℕ) (known : Known) (node : Node D g) : Type 0 where
    pub number : id_of node ≡ id
    pub known_is : known_of node ≡ known
    pub holds : Holds seen may_leave node

-- the node is there, such deeds led to where it is now, and the other nodes are told of as they are then
pub record Drove (There : Type 0) (T : Far → Type 0) (id : ℕ) (known : Known) (c : Config) (r : Register) (s : At) (ends : Option (List (ℕ × machine.Node)) → At) (told : List (ℕ × Option ℕ)) (old new : List ℕ) : Type 0 where
  pub there : There
  pub far : Option (List (ℕ × machine.Node))
  pub told_far : ToldAs T far
  pub hushes : (silent : Bool) → IsHushed silent far → IsHushed silent s.far
  pub moved : Moved id known c r s (ends far) told old new

-- the same, whatever it asked last
pub record Drives (There : Type 0) (T : Far → Type 0) (id : ℕ) (known : Known) (c : Config) (r : Register) (s : At) (ends : List Msg → Option (List (ℕ × machine.Node)) → At) (told : List (ℕ × Option ℕ)) (old new : List ℕ) : Type 0 where
  pub asked : List Msg
  pub drove : Drove There T id known c r s (ends asked) told old new

-- ---- the last tick of a log ----

abbrev pub asks_of : Option (List Msg) → List Msg
asks_of None = []
asks_of (Some asks) = asks

-- the next tick has nothing to do; or asks the same again
abbrev pub Settles : ℕ → Known → Config → Register → At → ℕ → Option (List Msg) → Type 0
Settles id known c r s l None = tick_answer id known c r s l ≡ answers.Nothing
Settles id known c r s l (Some asks) = tick_answer id known c r s l ≡ answers.Asked asks

-- ---- what an answer says ----

-- whether the first answer says that the number is open
abbrev pub first_open : List Msg → Bool
first_open [] = false
first_open (m ∷ ms) = is_open m.body

-- the node isn't lost for the epoch behind the last closed one; or it is, from its first number on
abbrev pub OpenAt : ℕ → Known → Config → Register → At → ℕ → Option ℕ → Type 0
OpenAt id known c r s l None = is_open (own_answer id known c r s l) ≡ true
OpenAt id known c r s l (Some n) = (is_open (own_answer id known c r s l) ≡ false) × (n ≡ numbered (open_epoch r l) 1)

-- each ask comes of the node
abbrev pub AreFrom : ℕ → List Msg → Type 0
AreFrom id ms = AllByRecursion (λ m. m.from ≡ whos.Node id) ms

-- such deeds led to where the node is now, whatever it asked last, and so it stands for the log then
pub record Knows (id : ℕ) (known : Known) (c : Config) (r : Register) (s : At) (ends : List Msg → At) (l : ℕ) (lacks : Option ℕ) (old new : List ℕ) : Type 0 where
  pub asked : List Msg
  pub moved : Moved id known c r s (ends asked) [] old new
  pub stands : Stands id known c r (ends asked) l lacks

-- the same behind what was told of some logs
pub record Told (id : ℕ) (known : Known) (c : Config) (r : Register) (s : At) (ends : List Msg → At) (logs : List ℕ) (mended : Bool) (old new : List ℕ) : Type 0 where
  pub asked : List Msg
  pub told : List (ℕ × Option ℕ)
  pub moved : Moved id known c r s (ends asked) told old new
  pub logs_are : told_logs told ≡ logs
  pub mended_is : mended ≡ are_mended told

-- ---- logs ----

abbrev pub logs_of : List Spec → List ℕ
logs_of specs = map (λ s. s.log) specs

-- ---- the end ----

-- such deeds led to where the node is now, and behind the rounds these logs were told of, none of which the node lacks anything of where it is mended
pub record IsMended (There : Type 0) (T : Far → Type 0) (id : ℕ) (known : Known) (c : Config) (r : Register) (s : At) (ends : List Msg → Option (List (ℕ × machine.Node)) → At) (logs : List ℕ) (mended : Bool) (old new : List ℕ) : Type 0 where
  pub there : There
  pub asked : List Msg
  pub far : Option (List (ℕ × machine.Node))
  pub told_far : ToldAs T far
  pub told : List (ℕ × Option ℕ)
  pub moved : Moved id known c r s (ends asked far) told old new
  pub logs_are : told_logs told ≡ logs
  pub mended_is : mended ≡ are_mended told
