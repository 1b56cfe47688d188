-- What an entry, a summary and a message may hold: what a frame can carry.
use Rattle.std.specs.Prelude.{ℕ, ◌≡◌, ◌≤◌, ◌<◌, ◌+◌, ◌-◌, ◌^◌, List, [], ◌∷◌, length, Bool, true, not}
use Rattle.ld_lsn.specs.Number.{epoch_of, esn_of, home_epoch, last_esn}
use Rattle.ld_ids.specs.Id.{IsNode, IsLog}
use Rattle.ld_ids.specs.Set.{IsSet, IsSubset, members}
use Rattle.ld_table.specs.Words.{is_in, any_of}
use Rattle.ld_msg.specs.declared.msg.Who.{Who}
use Rattle.ld_msg.specs.declared.msg.Who.TheVariants as whos
use Rattle.ld_msg.specs.declared.msg.What.{What}
use Rattle.ld_msg.specs.declared.msg.What.TheVariants.{Rec, Hole, Bridge, Plug, Withheld}
use Rattle.ld_msg.specs.declared.msg.Entry.{Entry}
use Rattle.ld_msg.specs.declared.msg.Summary.{Summary}
use Rattle.ld_msg.specs.declared.msg.Msg.{Msg}
use Rattle.ld_msg.specs.declared.msg.Body.{Body}
use Rattle.ld_msg.specs.declared.msg.Body.TheVariants as bodies

-- ---- numbers ----

-- a number of 32 bits, and one of 64
abbrev pub Is32 : ℕ → Type 0
Is32 n = n < 2 ^ 32

abbrev pub Is64 : ℕ → Type 0
Is64 n = n < 2 ^ 64

-- a last known good offset
abbrev pub IsLng : ℕ → Type 0
IsLng n = n ≤ last_esn - 1

-- an epoch that a register may hand out
abbrev pub IsEpoch : ℕ → Type 0
IsEpoch e = (1 ≤ e) × (e ≤ 2 ^ 32 - 2)

-- the greatest offset of a reader in the order of opening
abbrev pub last_reader : ℕ
last_reader = 999

-- ---- entries and summaries ----

-- the last offset of an epoch is a bridge's alone
abbrev pub last_place : What → ℕ
last_place (Rec p) = last_esn - 1
last_place Hole = last_esn - 1
last_place Bridge = last_esn
last_place Plug = last_esn - 1
last_place Withheld = last_esn - 1

-- a payload's bytes are bytes by their type
abbrev pub IsShort : What → Type 0
IsShort (Rec p) = length p ≤ 65535
IsShort Hole = Unit {0}
IsShort Bridge = Unit {0}
IsShort Plug = Unit {0}
IsShort Withheld = Unit {0}

pub record IsEntry (e : Entry) : Type 0 where
  pub epoch : IsEpoch (epoch_of e.number)
  pub from_one : 1 ≤ esn_of e.number
  pub place : esn_of e.number ≤ last_place e.what
  pub ballot : epoch_of e.number ≤ e.ballot
  pub ballot_most : e.ballot ≤ 2 ^ 32 - 2
  pub short : IsShort e.what

-- a summary of the epoch that it closes
pub record IsSummary (epoch : ℕ) (y : Summary) : Type 0 where
  pub ballot : epoch < y.ballot
  pub ballot_most : y.ballot ≤ 2 ^ 32 - 2
  pub lng : IsLng y.lng
  pub trim : Is64 y.trim
  pub end : 1 ≤ y.end
  pub end_most : y.end ≤ last_esn

-- ---- pages ----

-- entries from a number on, their numbers rising, none above another number
abbrev pub RiseWithin : ℕ → ℕ → List Entry → Type 0
RiseWithin from upto [] = Unit {0}
RiseWithin from upto (e ∷ es) = (from ≤ e.number) × (e.number ≤ upto) × RiseWithin (e.number + 1) upto es

abbrev pub AreEntries : List Entry → Type 0
AreEntries [] = Unit {0}
AreEntries (e ∷ es) = IsEntry e × AreEntries es

abbrev pub IsReader : Who → Type 0
IsReader (whos.Node n) = ⊥
IsReader (whos.Sequencer e) = ⊥
IsReader (whos.Reader r) = Unit {0}

-- a record may be withheld from a reader alone
abbrev pub IsReadable : Who → What → Type 0
IsReadable to (Rec p) = Unit {0}
IsReadable to Hole = Unit {0}
IsReadable to Bridge = ⊥
IsReadable to Plug = Unit {0}
IsReadable to Withheld = IsReader to

abbrev pub AreReadable : Who → List Entry → Type 0
AreReadable to [] = Unit {0}
AreReadable to (e ∷ es) = IsReadable to e.what × AreReadable to es

pub record IsPage (from upto : ℕ) (es : List Entry) : Type 0 where
  pub range : from ≤ upto
  pub bound : Is64 upto
  pub home : home_epoch from ≡ home_epoch upto
  pub few : length es ≤ 64
  pub entries : AreEntries es
  pub rise : RiseWithin from upto es

-- ---- who may send what to whom ----

abbrev pub IsNodeHere : Who → Type 0
IsNodeHere (whos.Node n) = IsNode n
IsNodeHere (whos.Sequencer e) = ⊥
IsNodeHere (whos.Reader r) = ⊥

abbrev pub IsSequencerHere : Who → Type 0
IsSequencerHere (whos.Node n) = ⊥
IsSequencerHere (whos.Sequencer e) = IsEpoch e
IsSequencerHere (whos.Reader r) = ⊥

-- a reader, or a node that refills
abbrev pub IsAsker : Who → Type 0
IsAsker (whos.Node n) = IsNode n
IsAsker (whos.Sequencer e) = ⊥
IsAsker (whos.Reader r) = r ≤ last_reader

abbrev pub IsActor : Who → Type 0
IsActor (whos.Node n) = IsNode n
IsActor (whos.Sequencer e) = IsEpoch e
IsActor (whos.Reader r) = r ≤ last_reader

-- the ballot of a message of a sequencer
abbrev pub ballot_of : Who → ℕ
ballot_of (whos.Node n) = 0
ballot_of (whos.Sequencer e) = e
ballot_of (whos.Reader r) = 0

-- a node asks in round 0
abbrev pub AsksIn : Who → ℕ → Type 0
AsksIn (whos.Node n) round = round ≡ 0
AsksIn (whos.Sequencer e) round = Unit {0}
AsksIn (whos.Reader r) round = Unit {0}

-- a sequencer is answered in round 0
abbrev pub AnswersIn : Who → ℕ → Type 0
AnswersIn (whos.Node n) round = Unit {0}
AnswersIn (whos.Sequencer e) round = round ≡ 0
AnswersIn (whos.Reader r) round = Unit {0}

-- what an epoch's own sequencer stores is a record
abbrev pub IsRecord : What → Type 0
IsRecord (Rec p) = Unit {0}
IsRecord Hole = ⊥
IsRecord Bridge = ⊥
IsRecord Plug = ⊥
IsRecord Withheld = ⊥

-- what nodes keep, and tell sequencers, is never withheld
abbrev pub IsKept : What → Type 0
IsKept (Rec p) = Unit {0}
IsKept Hole = Unit {0}
IsKept Bridge = Unit {0}
IsKept Plug = Unit {0}
IsKept Withheld = ⊥

abbrev pub AreKept : List Entry → Type 0
AreKept [] = Unit {0}
AreKept (e ∷ es) = IsKept e.what × AreKept es

abbrev pub ToSequencer : Who → Who → Type 0
ToSequencer from to = IsNodeHere from × IsSequencerHere to

abbrev pub ToNode : Who → Who → Type 0
ToNode from to = IsSequencerHere from × IsNodeHere to

abbrev pub ToAsker : Who → Who → ℕ → ℕ → Type 0
ToAsker from to round number = IsNodeHere from × IsAsker to × Is32 round × (1 ≤ number) × Is64 number

-- some node of the set is not excluded
abbrev pub share_out : List Bool → List Bool → Bool
share_out excluded set = any_of (λ n. not (is_in n (members excluded))) (members set)

-- what each body may hold between its actors
abbrev pub Fits : Who → Who → Body → Type 0
Fits from to (bodies.Store n lng x) = ToNode from to × IsLng lng × IsEntry (record { number = n; ballot = ballot_of from; what = x }) × IsKept x × (epoch_of n ≡ ballot_of from → IsRecord x)
Fits from to (bodies.Stored n) = ToSequencer from to × Is64 n
Fits from to (bodies.SealedHere n k) = ToSequencer from to × Is64 n × Is32 k
Fits from to (bodies.LostHere n round g end) = IsNodeHere from × IsActor to × (1 ≤ n) × Is64 n × Is32 round × AnswersIn to round × Is32 g × Is64 end
Fits from to (bodies.CleanHere n y) = ToSequencer from to × Is64 n × IsSummary (epoch_of n) y
Fits from to (bodies.TrimmedHere n t) = ToSequencer from to × Is64 n × Is64 t
Fits from to (bodies.DigestAsk n) = ToNode from to × (1 ≤ epoch_of n) × (epoch_of n < ballot_of from) × (1 ≤ esn_of n)
Fits from to (bodies.DigestPage n upto t lng es) = ToSequencer from to × IsPage n upto es × AreKept es × Is64 t × IsLng lng
Fits from to (bodies.Clean e y) = ToNode from to × IsEpoch e × IsSummary e y
Fits from to (bodies.Release n) = ToNode from to × Is64 n
Fits from to (bodies.Trim t) = ToNode from to × Is64 t
Fits from to (bodies.ReadAsk round n) = IsAsker from × IsNodeHere to × Is32 round × AsksIn from round × (1 ≤ n) × Is64 n
Fits from to (bodies.ReadOne round n set excluded) = IsAsker from × IsReader from × IsNodeHere to × Is32 round × (1 ≤ n) × Is64 n × IsSubset excluded set × (share_out excluded set ≡ true) × IsSet set × IsSet excluded
Fits from to (bodies.ReadPage round n upto c es) = ToAsker from to round n × IsPage n upto es × AreReadable to es
Fits from to (bodies.ReadEnded round n end loss) = ToAsker from to round n × Is64 end
Fits from to (bodies.ReadTrim round n t) = ToAsker from to round n × Is64 t
Fits from to (bodies.ReadWait round n r) = ToAsker from to round n × Is64 r

pub record IsMessage (m : Msg) : Type 0 where
  pub log : IsLog m.log
  pub fits : Fits m.from m.to m.body
