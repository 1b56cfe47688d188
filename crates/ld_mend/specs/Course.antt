-- What is done to mend a node: ticks of it, its asks of the other nodes and their answers to it, and what is told of it.
use Rattle.std.specs.Prelude.{ℕ, ◌+◌, ◌≡◌, ◌⊎◌, ◌==◌, ◌&&◌, List, [], ◌∷◌, ◌++◌, Option, Some, None, Bool, true, false, slice_get, is_none, map}
use Rattle.std.specs.List.{list_all}
use Rattle.std.specs.declared.result.Result.{Result}
use Rattle.std.specs.declared.result.Result.TheVariants.{Ok, Err}
use Rattle.ld_table.specs.Words.{is_in}
use Rattle.ld_lsn.specs.Number.{numbered, last_esn}
use Rattle.ld_config.specs.declared.config.Config.{Config}
use Rattle.ld_msg.specs.declared.msg.Who.{Who}
use Rattle.ld_msg.specs.declared.msg.Who.TheVariants as whos
use Rattle.ld_msg.specs.declared.msg.Msg.{Msg}
use Rattle.ld_msg.specs.declared.msg.Body.{Body}
use Rattle.ld_msg.specs.declared.msg.Body.TheVariants as bodies
use Rattle.ld_msg.specs.Register.{Register, lce_of}
use Rattle.ld_op.specs.declared.op.Op.{Op}
use Rattle.ld_op.specs.Plain.{Plain, log_of}
use Rattle.ld_op.specs.Answers.{Handled, read_answer}
use Rattle.ld_layout.specs.Layout.{Layout}
use Rattle.ld_segment.specs.Lies.{StandsFor, StandsForEither}
use Rattle.ld_machine.specs.Disk.{Node}
use Rattle.ld_node.specs.Known.{Known}
use Rattle.ld_node.specs.Changes.{kept, laid_with, IsPast}
use Rattle.ld_node.specs.Looks.{ticked, op_of, answer_of}
use Rattle.ld_node.specs.Msgs.{handled, released_after, released_in}
use Rattle.ld_node.specs.declared.tick.Ticked.{Ticked}
use Rattle.ld_node.specs.declared.tick.Ticked.TheVariants as answers
use Rattle.ld_dial.specs.Far.{Far, handed, is_up_in}
use Rattle.ld_mend.specs.Lines.{ticked_text, standing_text}
use Rattle.ld_mend.specs.Output.{WritesPart}
use Rattle.ld_mend.specs.declared.stop.Stop.{Stop}
use Rattle.ld_mend.specs.declared.stop.Stop.TheVariants as stops

-- ---- answers ----

abbrev pub is_node : ℕ → Who → Bool
is_node y (whos.Node n) = n == y
is_node y _ = false

-- the message comes of the one node, is for the other one, and of the log
abbrev pub answers_to : ℕ → ℕ → ℕ → Msg → Bool
answers_to from to l m = is_node from m.from && (is_node to m.to && (m.log == l))

abbrev pub node_of : Who → ℕ
node_of (whos.Node n) = n
node_of _ = 0

-- the messages that a tick asks
abbrev pub asked_by : Ticked → List Msg
asked_by (answers.Asked sends) = sends
asked_by _ = []

abbrev pub asked_from : Body → ℕ
asked_from (bodies.ReadAsk round from) = from
asked_from _ = 0

-- from which number on is asked; 0 where nobody is
abbrev pub lowest_asked : List Msg → ℕ
lowest_asked [] = 0
lowest_asked (m ∷ ms) = asked_from m.body

-- the number isn't trimmed here and of no clean epoch, and the node isn't lost for its epoch
abbrev pub is_open : Body → Bool
is_open (bodies.ReadWait round from released) = true
is_open (bodies.ReadPage round from upto clean entries) = true
is_open _ = false

-- ---- deeds ----

-- the node: its plain state, the released numbers, how its journal lies, what it asked last; and the other nodes, where they are told of
pub record At : Type 0 where
  pub plain : Plain
  pub released : List (ℕ × ℕ)
  pub layout : Layout
  pub asked : List Msg
  pub far : Option (List (ℕ × Node))

pub data Deed : Type 0 where
  -- the node is ticked for the log
  Ticks : (log : ℕ) → Deed
  -- one of its asks isn't carried, or no answer of it is brought back
  Loses : (ask : Msg) → Deed
  -- one of its asks is handed to the node that it is for, which answers nothing
  Asks : (ask : Msg) → Deed
  -- and which answers this message, which the node takes
  Takes : (ask answer : Msg) → Deed
  -- it is told how the node stands for the log
  Tells : (log : ℕ) (lacks : Option ℕ) → Deed

-- the epoch behind the last closed one, and its last number
abbrev pub open_epoch : Register → ℕ → ℕ
open_epoch r l = lce_of r l + 1

abbrev pub past_open : Register → ℕ → ℕ
past_open r l = numbered (open_epoch r l) last_esn

abbrev pub handed_nodes : Config → List (ℕ × Node) → Msg → List (ℕ × Node)
handed_nodes c ns m = (handed c ns (node_of m.to) m).state.nodes

abbrev pub handed_far : Config → Option (List (ℕ × Node)) → Msg → Option (List (ℕ × Node))
handed_far c None m = None
handed_far c (Some ns) m = Some (handed_nodes c ns m)

-- where the other nodes are told of: the one that the message is for is up, and answers this
abbrev pub Hands : Config → Option (List (ℕ × Node)) → Msg → List Msg → Type 0
Hands c None m ms = Unit {0}
Hands c (Some ns) m ms = (is_up_in ns (node_of m.to) ≡ true) × ((handed c ns (node_of m.to) m).sends ≡ ms)

-- the node of this number, which knows this of the configuration, and the register that holds these contents
module _ (id : ℕ) (known : Known) (c : Config) (r : Register) where
  -- what a tick does, and what it answers
  abbrev pub tick_op : At → ℕ → Option Op
  tick_op s l = op_of l (ticked known s.plain l r)

  abbrev pub tick_answer : At → ℕ → Ticked
  tick_answer s l = answer_of id l known.nodes (ticked known s.plain l r)

  abbrev pub done : At → Msg → Handled
  done s m = handled id known s.released s.plain m

  -- what the node answers to an ask for the last number of the epoch behind the last closed one
  abbrev pub own_answer : At → ℕ → Body
  own_answer s l = read_answer s.plain.generation (log_of s.plain l) (released_in s.released l) 1 (past_open r l)

  -- it is lost for nothing of the log; or from this number on
  abbrev pub Stands : At → ℕ → Option ℕ → Type 0
  Stands s l None = (tick_answer s l ≡ answers.Nothing) × (is_open (own_answer s l) ≡ true)
  Stands s l (Some n) = ((asks : List Msg) × (tick_answer s l ≡ answers.Asked asks) × (n ≡ lowest_asked asks))
      ⊎ ((tick_answer s l ≡ answers.Nothing) × (is_open (own_answer s l) ≡ false) × (n ≡ numbered (open_epoch r l) 1))

  abbrev pub after : At → Deed → At
  after s (Ticks l) = record { plain = kept (tick_op s l) s.plain; released = s.released; layout = laid_with s.layout (tick_op s l); asked = asked_by (tick_answer s l); far = s.far }
  after s (Loses ask) = s
  after s (Asks ask) = record s { far = handed_far c s.far ask }
  after s (Takes ask m) = record {
    plain = kept (done s m).op s.plain;
    released = released_after id known s.released m;
    layout = laid_with s.layout (done s m).op;
    asked = s.asked;
    far = handed_far c s.far ask;
  }
  after s (Tells l lacks) = s

  abbrev pub text_of : At → Deed → List ℕ
  text_of s (Ticks l) = ticked_text id l (tick_answer s l)
  text_of s (Tells l lacks) = standing_text l lacks
  text_of s _ = []

  -- it is one of the last asks of the node
  abbrev pub IsAsked : At → Msg → Type 0
  IsAsked s ask = (k : ℕ) × (slice_get s.asked k ≡ Some ask)

  abbrev pub IsDeed : At → Deed → Type 0
  IsDeed s (Ticks l) = (is_in l known.logs ≡ true) × (IsPast s.layout (tick_op s l) → ⊥)
  IsDeed s (Loses ask) = IsAsked s ask
  IsDeed s (Asks ask) = IsAsked s ask × Hands c s.far ask []
  IsDeed s (Takes ask m) = IsAsked s ask × (answers_to (node_of ask.to) id ask.log m ≡ true) × Hands c s.far ask (m ∷ []) × (IsPast s.layout (done s m).op → ⊥)
  IsDeed s (Tells l lacks) = Stands s l lacks

  abbrev pub after_all : At → List Deed → At
  after_all s [] = s
  after_all s (d ∷ ds) = after_all (after s d) ds

  abbrev pub text_all : At → List Deed → List ℕ
  text_all s [] = []
  text_all s (d ∷ ds) = text_of s d ++ text_all (after s d) ds

  -- one after the other
  abbrev pub AreDeeds : At → List Deed → Type 0
  AreDeeds s [] = Unit {0}
  AreDeeds s (d ∷ ds) = IsDeed s d × AreDeeds (after s d) ds

  abbrev pub told_by : Deed → List (ℕ × Option ℕ)
  told_by (Tells l lacks) = (l, lacks) ∷ []
  told_by _ = []

  abbrev pub told_all : List Deed → List (ℕ × Option ℕ)
  told_all [] = []
  told_all (d ∷ ds) = told_by d ++ told_all ds

  -- such deeds led from the one to the other, that was told of the logs, and that text was written
  pub record Went (s t : At) (told : List (ℕ × Option ℕ)) (text : List ℕ) : Type 0 where
    pub deeds : List Deed
    pub are : AreDeeds s deeds
    pub ends : t ≡ after_all s deeds
    pub told_are : told ≡ told_all deeds
    pub text_is : text ≡ text_all s deeds

  -- and it was written behind what was written before
  pub record Moved (s t : At) (told : List (ℕ × Option ℕ)) (old new : List ℕ) : Type 0 where
    pub text : List ℕ
    pub went : Went s t told text
    pub written : new ≡ old ++ text

  -- what keeps an op, whether its record has room or not
  abbrev pub MayBe : At → Deed → Type 0
  MayBe s (Ticks l) = is_in l known.logs ≡ true
  MayBe s (Takes ask m) = IsAsked s ask × (answers_to (node_of ask.to) id ask.log m ≡ true) × Hands c s.far ask (m ∷ [])
  MayBe s _ = ⊥

  -- a deed may be done or not
  pub record MayDo (left : List ℕ → Type 0) (s : At) : Type 0 where
    pub deed : Deed
    pub is : MayBe s deed
    pub either : (bytes : List ℕ) → left bytes → StandsForEither s.plain (after s deed).plain bytes

  -- what may be left of the disk where it stopped: where the disk failed the next deed may be done
  abbrev pub Leaves : (List ℕ → Type 0) → At → Stop → Type 0
  Leaves left s stops.Disk = ((bytes : List ℕ) → left bytes → StandsFor s.plain bytes) ⊎ MayDo left s
  Leaves left s (stops.Damaged place) = ⊥
  Leaves left s _ = (bytes : List ℕ) → left bytes → StandsFor s.plain bytes

  -- it stopped behind such deeds, and their text was written, the last of it in part
  pub record Halted (left : List ℕ → Type 0) (s : At) (old new : List ℕ) (stop : Stop) : Type 0 where
    pub at : At
    pub told : List (ℕ × Option ℕ)
    pub text : List ℕ
    pub went : Went s at told text
    pub written : WritesPart old new text
    pub leaves : Leaves left at stop

-- ---- what is told ----

abbrev pub told_logs : List (ℕ × Option ℕ) → List ℕ
told_logs told = map (λ t. t.0) told

-- of none of them it is told that something is lacking
abbrev pub are_mended : List (ℕ × Option ℕ) → Bool
are_mended told = list_all (λ t. is_none t.1) told

-- ---- the other nodes ----

-- they are told of so
abbrev pub ToldAs : (Far → Type 0) → Option (List (ℕ × Node)) → Type 0
ToldAs T None = Unit {0}
ToldAs T (Some ns) = (far : Far) × T far × (far.nodes ≡ ns)

-- they are told of so, this one is present, and no answer of it is to be taken
pub record Faces (T : Far → Type 0) (ns : List (ℕ × Node)) (y : ℕ) : Type 0 where
  pub far : Far
  pub told : T far
  pub nodes : far.nodes ≡ ns
  pub present : far.present ≡ Some y
  pub none : far.answers ≡ []

-- the first answer was taken, or one that isn't the node's was dropped, or there is none
pub record IsTaken (far : Far) (T : Far → Type 0) (m : Msg) : Type 0 where
  pub rest : List Msg
  pub first : far.answers ≡ m ∷ rest
  pub told : T (record far { answers = rest })

pub record IsForeign (far : Far) (T : Far → Type 0) (y id l : ℕ) : Type 0 where
  pub message : Msg
  pub taken : IsTaken far T message
  pub foreign : answers_to y id l message ≡ false

abbrev pub TakesOwn : Far → (Far → Type 0) → ℕ → ℕ → ℕ → Result (Option Msg) Stop → Type 0
TakesOwn far T y id l (Ok (Some m)) = IsTaken far T m
TakesOwn far T y id l (Ok None) = ((far.answers ≡ []) × T far) ⊎ IsForeign far T y id l
TakesOwn far T y id l (Err stop) = Unit {0}

-- what came of handing an ask to the node that it is for; where memory ends, and where a node sends no frame, nothing is told
abbrev pub Fetched : Config → (Far → Type 0) → Option (List (ℕ × Node)) → Msg → Result (Option Msg) Stop → Type 0
Fetched c T far ask (Ok (Some m)) = Hands c far ask (m ∷ []) × ToldAs T (handed_far c far ask)
Fetched c T far ask (Ok None) = ToldAs T far ⊎ (Hands c far ask [] × ToldAs T (handed_far c far ask))
Fetched c T far ask (Err stop) = Unit {0}

-- they were told of, and have fallen silent
abbrev pub IsHushed : Bool → Option (List (ℕ × Node)) → Type 0
IsHushed silent None = ⊥
IsHushed silent (Some ns) = silent ≡ true
