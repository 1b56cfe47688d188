-- What the arguments ask for.
use Rattle.std.specs.Prelude.{◌≡◌, ◌≢◌, ◌≤◌, ◌<◌, ◌^◌, ◌-◌, ◌==◌, ◌&&◌, ◌||◌, ◌⊎◌, nat_le, ℕ, List, [], ◌∷◌, ◌++◌, length, codes, decimal, Bool, true, false, Option, None, Some, Ok, MatchOption, MatchBool}
use Rattle.std.specs.Str.{IsUtf8, bytes_eq}
use Rattle.std.specs.Net.Grammar.{IsSocketText}
use Rattle.std.specs.Net.Socket.{socket_port}
use Rattle.std.specs.declared.net.socket_addr.SocketAddr.{SocketAddr}
use Rattle.clap.specs.Walk.{Row, Text, first_of}
use Rattle.serde_json.specs.Data.{Data, string, object, Members}
use Rattle.serde_json.specs.Find.{get}
use Rattle.serde_json.specs.Events.{members_len}
use Rattle.serde_json.specs.Read.{read}
use Rattle.ld_table.specs.Words.{any_of, all_of}
use Rattle.ld_lsn.specs.Number.{lsn_text}
use Rattle.ld_ids.specs.Id.{IsNode, IsLog}
use Rattle.ld_ids.specs.Set.{has_node, members}
use Rattle.ld_config.specs.declared.config.Config.{Config}
use Rattle.ld_config.specs.Config.{config_of_text}
use Rattle.ld_words.specs.declared.command.NodeWords.{NodeWords}
use Rattle.ld_msg.specs.declared.style.Style.{Style}
use Rattle.ld_msg.specs.declared.style.Style.TheVariants.{EachCopy, OneCopy, OfMessages}
use Rattle.ld_words.specs.declared.command.LogWords.{LogWords}
use Rattle.ld_words.specs.declared.command.AppendWords.{AppendWords}
use Rattle.ld_words.specs.declared.command.Shown.{Shown}
use Rattle.ld_words.specs.declared.command.Shown.TheVariants as shown
use Rattle.ld_words.specs.declared.command.TailWords.{TailWords}
use Rattle.ld_words.specs.declared.command.CrowdWords.{CrowdWords}
use Rattle.ld_words.specs.declared.command.RegisterWords.{RegisterWords}
use Rattle.ld_words.specs.declared.command.StatusWords.{StatusWords}
use Rattle.ld_words.specs.declared.command.MendWords.{MendWords}
use Rattle.ld_words.specs.declared.command.ReplaceWords.{ReplaceWords}
use Rattle.ld_words.specs.declared.command.ShowWords.{ShowWords}
use Rattle.ld_words.specs.declared.command.TrimWords.{TrimWords}
use Rattle.ld_words.specs.declared.command.CopyWords.{CopyWords}
use Rattle.ld_words.specs.declared.command.Places.{Places}
use Rattle.ld_words.specs.declared.address.NodeAddress.{NodeAddress}
use Rattle.ld_words.specs.declared.address.Listen.{Listen}
use Rattle.ld_words.specs.declared.address.Listen.TheVariants as listens
use Rattle.ld_words.specs.declared.address.Reach.{Reach}
use Rattle.ld_words.specs.declared.address.Reach.TheVariants as reaches
use Rattle.ld_words.specs.declared.command.Command.{Command}
use Rattle.ld_words.specs.declared.command.Command.TheVariants.{Replay, Exercise, Node, Crowd, Append, Tail, Register, Status, Mend, Replace, Show, Trim, Copy}
use Rattle.ld_words.specs.Grammar.{found}

-- ---- values

-- the text spells no number of 64 bits
abbrev pub IsNoNumber : Text → Type 0
IsNoNumber text = (n : ℕ) → n < 2 ^ 64 → text ≡ decimal n → ⊥

-- the text is the number, in digits without a sign or a leading zero, and within the bounds
pub record Spells (text : Text) (least most n : ℕ) : Type 0 where
  pub digits : text ≡ decimal n
  pub from : least ≤ n
  pub to : n ≤ most

-- the argument is this text
abbrev pub Is : Text → List Row → Text → Type 0
Is name rows text = first_of name rows ≡ Some text

-- the argument is the number, in digits without a sign or a leading zero, and within the bounds
pub record IsNumber (name : Text) (rows : List Row) (least most n : ℕ) : Type 0 where
  pub text : Is name rows (decimal n)
  pub from : least ≤ n
  pub to : n ≤ most

-- the argument is such a number, or isn't given, which represents the number `otherwise`
abbrev pub IsNumberOr : Text → List Row → (least most otherwise n : ℕ) → Type 0
IsNumberOr name rows least most otherwise n = MatchOption (first_of name rows) (n ≡ otherwise) (λ text. Spells text least most n)

-- the argument isn't given
abbrev pub IsAbsent : Text → List Row → Type 0
IsAbsent name rows = first_of name rows ≡ None

-- the argument is the log sequence number, spelt `eXnY`
pub record IsLsn (name : Text) (rows : List Row) (lsn : ℕ) : Type 0 where
  pub text : Is name rows (lsn_text lsn)
  pub bits : lsn < 2 ^ 64

-- a flag that is given
abbrev pub is_true : Option Text → Bool
is_true None = false
is_true (Some text) = bytes_eq text (codes "true")

-- the text is this configuration
abbrev pub Says : Text → Config → Type 0
Says text config = IsUtf8 text × (config_of_text (read text) ≡ Ok config)

-- the argument is this configuration
pub record IsConfig (name : Text) (rows : List Row) (config : Config) : Type 0 where
  pub text : Text
  pub is : Is name rows text
  pub says : Says text config

-- the number is that of a node, and the node is one of the configuration's
pub record IsMember (number : ℕ) (config : Config) : Type 0 where
  pub node : IsNode number
  pub member : has_node number config.nodes ≡ true

-- whether the configuration has this log
abbrev pub has_log : Config → ℕ → Bool
has_log c l = any_of (λ s. s.log == l) c.logs

-- the number is that of a log, and the log is one of the configuration's
pub record IsLogOf (number : ℕ) (config : Config) : Type 0 where
  pub log : IsLog number
  pub has : has_log config number ≡ true

-- ---- addresses

abbrev pub is_letter : ℕ → Bool
is_letter b = (nat_le 65 b && nat_le b 90) || (nat_le 97 b && nat_le b 122)

-- a letter, a digit, a hyphen, a dot or an underscore
abbrev pub is_of_name : ℕ → Bool
is_of_name b = is_letter b || (nat_le 48 b && nat_le b 57) || (b == 45) || (b == 46) || (b == 95)

-- the name of a host: at most 253 such bytes, and a letter among them
abbrev pub is_host_name : Text → Bool
is_host_name host = nat_le (length host) 253 && all_of is_of_name host && any_of is_letter host

-- an IPv4 address, or an IPv6 address in brackets, and the port: what is parsed as a `SocketAddr`
pub record IsIpAndPort (text : Text) (port : ℕ) : Type 0 where
  pub socket : SocketAddr
  pub spells : IsSocketText text socket
  pub port_is : socket_port socket ≡ port

-- the name of a host, a colon and the port in digits without a sign or a leading zero
pub record IsNameAndPort (text : Text) (port : ℕ) : Type 0 where
  pub host : Text
  pub whole : text ≡ host ++ 58 ∷ decimal port
  pub name : is_host_name host ≡ true
  pub bits : port < 2 ^ 16

-- the text is an address of this port: an IP address's, or else that of a host by its name
abbrev pub IsOfPort : Text → ℕ → Type 0
IsOfPort text port = IsIpAndPort text port ⊎ (((socket : SocketAddr) → IsSocketText text socket → ⊥) × IsNameAndPort text port)

-- the text is an address, HOST:PORT, of a port from this one on
pub record IsAddress (least : ℕ) (text : Text) : Type 0 where
  pub port : ℕ
  pub of : IsOfPort text port
  pub from : least ≤ port

-- the object has this address for the node, by the node's number, and its port isn't 0
pub record IsAddressIn (d : Data) (node : ℕ) (a : NodeAddress) : Type 0 where
  pub node_is : a.node ≡ node
  pub there : get (decimal node) d ≡ Some (string a.address)
  pub address_is : IsAddress 1 a.address

-- these are the nodes' addresses in the object, in the order of the nodes
abbrev pub AreAddressesIn : Data → List ℕ → List NodeAddress → Type 0
AreAddressesIn d [] [] = Unit {0}
AreAddressesIn d (n ∷ ns) (a ∷ others) = IsAddressIn d n a × AreAddressesIn d ns others
AreAddressesIn d _ _ = ⊥

-- the text is a JSON object with the addresses of these nodes, and with no other member: it has as many as there are nodes
pub record SaysAddresses (text : Text) (nodes : List Bool) (addresses : List NodeAddress) : Type 0 where
  pub members_of : Members
  pub reads : read text ≡ Some (object members_of)
  pub count : members_len members_of ≡ length (members nodes)
  pub each : AreAddressesIn (object members_of) (members nodes) addresses

-- the argument is such a text
pub record IsAt (rows : List Row) (nodes : List Bool) (addresses : List NodeAddress) : Type 0 where
  pub text : Text
  pub is : Is (codes "at") rows text
  pub says : SaysAddresses text nodes addresses

-- where a node listens, which one of two arguments says: at a port of 127.0.0.1, or at an address
abbrev pub IsListen : List Row → Listen → Type 0
IsListen rows (listens.Port port) = IsNumber (codes "port") rows 0 65535 port × IsAbsent (codes "listen") rows
IsListen rows (listens.At address) = IsAbsent (codes "port") rows × Is (codes "listen") rows address × IsAddress 0 address

-- where the nodes are, which one of two arguments says: at ports of 127.0.0.1 in a row, or each at its address
abbrev pub IsReach : List Row → List Bool → Reach → Type 0
IsReach rows nodes (reaches.Above port) = IsNumber (codes "port") rows 1 65519 port × IsAbsent (codes "at") rows
IsReach rows nodes (reaches.At addresses) = IsAbsent (codes "port") rows × IsAt rows nodes addresses

-- ---- commands

pub record IsExercise (rows : List Row) (start count : ℕ) : Type 0 where
  pub seed : IsNumber (codes "seed") rows 0 (2 ^ 64 - 1) start
  pub events : IsNumber (codes "events") rows 0 100000 count

-- the store's and the register's file, which don't have one name
pub record AreFiles (rows : List Row) (store register : Text) : Type 0 where
  pub first : Is (codes "store") rows store
  pub second : Is (codes "register") rows register
  pub apart : store ≢ register

-- after how many turns a node ends; one that serves several peers at once ends after 2^64-1 of them where the argument isn't given
abbrev pub IsTurns : List Row → ℕ → Type 0
IsTurns rows turns = MatchOption (first_of (codes "peers") rows) (IsNumber (codes "turns") rows 1 1000000000 turns) (λ _. IsNumberOr (codes "turns") rows 1 1000000000 (2 ^ 64 - 1) turns)

pub record IsNodeWords (rows : List Row) (n : NodeWords) : Type 0 where
  pub id : IsNumber (codes "id") rows 1 16 n.id
  pub config : IsConfig (codes "config") rows n.config
  pub member : IsMember n.id n.config
  pub files : AreFiles rows n.store n.register
  pub listen : IsListen rows n.listen
  pub turns : IsTurns rows n.turns
  pub format : n.format ≡ is_true (first_of (codes "format") rows)
  pub quiet : n.quiet ≡ is_true (first_of (codes "quiet") rows)

-- nothing is said of several peers at once
pub record IsInTurn (rows : List Row) : Type 0 where
  pub peers : IsAbsent (codes "peers") rows
  pub idle : IsAbsent (codes "idle") rows

-- how many peers are there at once at most, and how long one may be silent: a minute where the argument isn't given
pub record IsCrowdWords (rows : List Row) (c : CrowdWords) : Type 0 where
  pub node : IsNodeWords rows c.node
  pub peers : IsNumber (codes "peers") rows 2 1000 c.company.peers
  pub idle : IsNumberOr (codes "idle") rows 1 86400 60 c.company.idle

-- whether a reader follows a log, which has no last number then
abbrev pub follows : List Row → Bool
follows rows = is_true (first_of (codes "follow") rows)

-- after how many rounds the command gives up; one that follows may have 2^64-1 of them
abbrev pub IsRounds : List Row → ℕ → Type 0
IsRounds rows rounds = MatchBool (follows rows) (IsNumberOr (codes "rounds") rows 1 1000000 (2 ^ 64 - 1) rounds) (IsNumber (codes "rounds") rows 1 1000000 rounds)

pub record IsLogWords (rows : List Row) (w : LogWords) : Type 0 where
  pub config : IsConfig (codes "config") rows w.config
  pub log : IsNumber (codes "log") rows 1 65535 w.log
  pub known : IsLogOf w.log w.config
  pub register : Is (codes "register") rows w.register
  pub reach : IsReach rows w.config.nodes w.reach
  pub rounds : IsRounds rows w.rounds
  pub limit : IsNumberOr (codes "limit") rows 100 60000 10000 w.limit

-- the last number that is read, which one that follows isn't told
abbrev pub IsUntil : List Row → ℕ → Type 0
IsUntil rows last = MatchBool (follows rows) (IsAbsent (codes "until") rows × (last ≡ 2 ^ 64 - 1)) (IsLsn (codes "until") rows last)

-- how long a reader that follows rests at most between two rounds: a second where the argument isn't given
abbrev pub IsPause : List Row → ℕ → Type 0
IsPause rows pause = MatchBool (follows rows) (IsNumberOr (codes "pause") rows 1 60000 1000 pause) (IsAbsent (codes "pause") rows × (pause ≡ 0))

-- the first and the last number that are read: the first is above e0n0, and the last isn't below it
pub record IsRange (rows : List Row) (first last : ℕ) : Type 0 where
  pub from : IsLsn (codes "from") rows first
  pub until : IsUntil rows last
  pub some : 1 ≤ first
  pub order : first ≤ last

-- one message is in flight at a time where the argument isn't given
pub record IsAppendWords (rows : List Row) (w : AppendWords) : Type 0 where
  pub of : IsLogWords rows w.of
  pub in_flight : IsNumberOr (codes "in-flight") rows 1 128 1 w.in_flight
  pub batches : w.batches ≡ is_true (first_of (codes "batches") rows)
  pub moves : w.moves ≡ is_true (first_of (codes "move") rows)
  pub text : w.text ≡ is_true (first_of (codes "text") rows)

-- one copy is asked for, or messages, or none of both; not both
abbrev pub style_of : Bool → Bool → Option Style
style_of false false = Some EachCopy
style_of true false = Some OneCopy
style_of false true = Some OfMessages
style_of true true = None

-- texts are asked for, or objects, or none of both; not both
abbrev pub shown_of : Bool → Bool → Option Shown
shown_of false false = Some shown.Lines
shown_of true false = Some shown.Text
shown_of false true = Some shown.Json
shown_of true true = None

pub record IsTailWords (rows : List Row) (t : TailWords) : Type 0 where
  pub of : IsLogWords rows t.of
  pub range : IsRange rows t.from t.until
  pub style : style_of (is_true (first_of (codes "one-copy") rows)) (is_true (first_of (codes "messages") rows)) ≡ Some t.style
  pub pause : IsPause rows t.pause
  pub shown : shown_of (is_true (first_of (codes "text") rows)) (is_true (first_of (codes "json") rows)) ≡ Some t.shown

-- the first epoch that is told is 1 where the argument isn't given
pub record IsRegisterWords (rows : List Row) (r : RegisterWords) : Type 0 where
  pub config : IsConfig (codes "config") rows r.config
  pub log : IsNumber (codes "log") rows 1 65535 r.log
  pub known : IsLogOf r.log r.config
  pub register : Is (codes "register") rows r.register
  pub from : IsNumberOr (codes "from") rows 1 (2 ^ 32 - 1) 1 r.from
  pub json : r.json ≡ is_true (first_of (codes "json") rows)

-- the last 16 epochs are told where the argument isn't given
pub record IsStatusWords (rows : List Row) (s : StatusWords) : Type 0 where
  pub config : IsConfig (codes "config") rows s.config
  pub log : IsNumber (codes "log") rows 1 65535 s.log
  pub known : IsLogOf s.log s.config
  pub register : Is (codes "register") rows s.register
  pub reach : IsReach rows s.config.nodes s.reach
  pub limit : IsNumberOr (codes "limit") rows 100 60000 10000 s.limit
  pub epochs : IsNumberOr (codes "epochs") rows 1 1000000 16 s.epochs
  pub json : s.json ≡ is_true (first_of (codes "json") rows)

-- a node, which is one of the configuration's
pub record IsNodeOf (rows : List Row) (n : ℕ) (c : Config) : Type 0 where
  pub id : IsNumber (codes "id") rows 1 16 n
  pub config : IsConfig (codes "config") rows c
  pub member : IsMember n c

-- a log, which is one of the configuration's
pub record IsKnownLog (rows : List Row) (l : ℕ) (c : Config) : Type 0 where
  pub config : IsConfig (codes "config") rows c
  pub log : IsNumber (codes "log") rows 1 65535 l
  pub known : IsLogOf l c

pub record IsMendWords (rows : List Row) (m : MendWords) : Type 0 where
  pub node : IsNodeOf rows m.id m.config
  pub files : AreFiles rows m.store m.register
  pub reach : IsReach rows m.config.nodes m.reach
  pub rounds : IsNumber (codes "rounds") rows 1 1000000 m.rounds
  pub limit : IsNumberOr (codes "limit") rows 100 60000 10000 m.limit

-- the place that a node takes: that of another one of the configuration's nodes, in a log of the configuration
pub record IsPlaceFor (rows : List Row) (n : ℕ) (c : Config) (other l : ℕ) : Type 0 where
  pub of : IsNumber (codes "of") rows 1 16 other
  pub member : IsMember other c
  pub apart : n ≢ other
  pub log : IsNumber (codes "log") rows 1 65535 l
  pub known : IsLogOf l c

pub record IsReplaceWords (rows : List Row) (r : ReplaceWords) : Type 0 where
  pub node : IsNodeOf rows r.id r.config
  pub place : IsPlaceFor rows r.id r.config r.of r.log
  pub files : AreFiles rows r.store r.register

pub record IsShowWords (rows : List Row) (s : ShowWords) : Type 0 where
  pub node : IsNodeOf rows s.id s.config
  pub store : Is (codes "store") rows s.store
  pub json : s.json ≡ is_true (first_of (codes "json") rows)

-- the last number that is trimmed is above e0n0
pub record IsTrimWords (rows : List Row) (t : TrimWords) : Type 0 where
  pub of : IsLogWords rows t.of
  pub upto : IsLsn (codes "upto") rows t.upto
  pub some : 1 ≤ t.upto

-- nothing is said of a log beside the register that is copied
pub record IsAlone (rows : List Row) : Type 0 where
  pub config : IsAbsent (codes "config") rows
  pub log : IsAbsent (codes "log") rows
  pub from : IsAbsent (codes "from") rows
  pub json : is_true (first_of (codes "json") rows) ≡ false

-- the register that is copied and the place that it is copied to don't have one name
pub record IsCopyWords (rows : List Row) (c : CopyWords) : Type 0 where
  pub copy : Is (codes "copy") rows c.from
  pub register : Is (codes "register") rows c.register
  pub apart : c.from ≢ c.register
  pub alone : IsAlone rows

-- the command has this name, and these values of its arguments
abbrev pub IsNamed : Text → List Row → Command → Type 0
IsNamed name rows Replay = name ≡ codes "replay"
IsNamed name rows (Exercise seed events) = (name ≡ codes "exercise") × IsExercise rows seed events
IsNamed name rows (Node n) = (name ≡ codes "node") × IsNodeWords rows n × IsInTurn rows
IsNamed name rows (Crowd c) = (name ≡ codes "node") × IsCrowdWords rows c
IsNamed name rows (Append w) = (name ≡ codes "append") × IsAppendWords rows w
IsNamed name rows (Tail t) = (name ≡ codes "tail") × IsTailWords rows t
IsNamed name rows (Register r) = (name ≡ codes "register") × IsRegisterWords rows r × IsAbsent (codes "copy") rows
IsNamed name rows (Status s) = (name ≡ codes "status") × IsStatusWords rows s
IsNamed name rows (Mend m) = (name ≡ codes "mend") × IsMendWords rows m
IsNamed name rows (Replace r) = (name ≡ codes "replace") × IsReplaceWords rows r
IsNamed name rows (Show s) = (name ≡ codes "show") × IsShowWords rows s
IsNamed name rows (Trim t) = (name ≡ codes "trim") × IsTrimWords rows t
IsNamed name rows (Copy c) = (name ≡ codes "register") × IsCopyWords rows c

-- the command is what clap finds in the arguments
pub record IsFound (found : Option (Text × List Row)) (command : Command) : Type 0 where
  pub name : Text
  pub rows : List Row
  pub is : found ≡ Some (name, rows)
  pub meaning : IsNamed name rows command

-- the arguments ask for this command
abbrev pub Asks : List Text → Command → Type 0
Asks words command = IsFound (found words) command

-- the arguments are no command
abbrev pub IsNoCommand : List Text → Type 0
IsNoCommand words = (command : Command) → Asks words command → ⊥

-- ---- places

-- these are the files of the node, where it listens, and whether it is quiet
pub record ArePlacesOfNode (n : NodeWords) (places : Places) : Type 0 where
  pub store : places.store ≡ Some n.store
  pub register : places.register ≡ n.register
  pub listen : places.listen ≡ n.listen
  pub copied : places.copied ≡ None
  pub quiet : places.quiet ≡ n.quiet

-- and these are its peers, where it serves several at once
pub record ArePlacesOfCrowd (c : CrowdWords) (places : Places) : Type 0 where
  pub node : ArePlacesOfNode c.node places
  pub company : places.company ≡ Some c.company

-- these are the file of the log, which needs no store, and where its nodes are
pub record ArePlacesOfLog (w : LogWords) (places : Places) : Type 0 where
  pub store : places.store ≡ None
  pub register : places.register ≡ w.register
  pub copied : places.copied ≡ None
  pub reach : places.reach ≡ w.reach
  pub limit : places.limit ≡ w.limit
  pub quiet : places.quiet ≡ false

-- these are a store, where the command has one, a register, and a register that is copied, where there is one; and there is
-- nothing else
pub record AreFilesAlone (held : Option Text) (kept : Text) (source : Option Text) (places : Places) : Type 0 where
  pub store : places.store ≡ held
  pub register : places.register ≡ kept
  pub copied : places.copied ≡ source
  pub quiet : places.quiet ≡ false

-- this is the file of the register, and where the nodes are
pub record ArePlacesOfStatus (s : StatusWords) (places : Places) : Type 0 where
  pub store : places.store ≡ None
  pub register : places.register ≡ s.register
  pub copied : places.copied ≡ None
  pub reach : places.reach ≡ s.reach
  pub limit : places.limit ≡ s.limit
  pub quiet : places.quiet ≡ false

-- these are the files of the stopped node, and where the nodes are
pub record ArePlacesOfMend (m : MendWords) (places : Places) : Type 0 where
  pub store : places.store ≡ Some m.store
  pub register : places.register ≡ m.register
  pub copied : places.copied ≡ None
  pub reach : places.reach ≡ m.reach
  pub limit : places.limit ≡ m.limit
  pub quiet : places.quiet ≡ false

-- these are the files of the command, and where it listens or dials; a command that only shows a store has no register, whose name
-- is empty then
abbrev pub ArePlacesOf : Command → Places → Type 0
ArePlacesOf Replay places = ⊥
ArePlacesOf (Exercise seed events) places = ⊥
ArePlacesOf (Node n) places = ArePlacesOfNode n places × (places.company ≡ None)
ArePlacesOf (Crowd c) places = ArePlacesOfCrowd c places
ArePlacesOf (Append w) places = ArePlacesOfLog w.of places
ArePlacesOf (Tail t) places = ArePlacesOfLog t.of places
ArePlacesOf (Register r) places = AreFilesAlone None r.register None places
ArePlacesOf (Status s) places = ArePlacesOfStatus s places
ArePlacesOf (Mend m) places = ArePlacesOfMend m places
ArePlacesOf (Replace r) places = AreFilesAlone (Some r.store) r.register None places
ArePlacesOf (Show s) places = AreFilesAlone (Some s.store) [] None places
ArePlacesOf (Trim t) places = ArePlacesOfLog t.of places
ArePlacesOf (Copy c) places = AreFilesAlone None c.register (Some c.from) places

-- the command is one that has no files, and that neither listens nor dials
abbrev pub HasNoPlaces : Command → Type 0
HasNoPlaces Replay = Unit {0}
HasNoPlaces (Exercise seed events) = Unit {0}
HasNoPlaces (Node n) = ⊥
HasNoPlaces (Crowd c) = ⊥
HasNoPlaces (Append w) = ⊥
HasNoPlaces (Tail t) = ⊥
HasNoPlaces (Register r) = ⊥
HasNoPlaces (Status s) = ⊥
HasNoPlaces (Mend m) = ⊥
HasNoPlaces (Replace r) = ⊥
HasNoPlaces (Show s) = ⊥
HasNoPlaces (Trim t) = ⊥
HasNoPlaces (Copy c) = ⊥

-- the arguments ask for a command of these places
pub record AskForPlaces (words : List Text) (places : Places) : Type 0 where
  pub command : Command
  pub asks : Asks words command
  pub are : ArePlacesOf command places

-- the arguments ask for no command that has places
abbrev pub AskForNoPlaces : List Text → Type 0
AskForNoPlaces words = (command : Command) → Asks words command → HasNoPlaces command
