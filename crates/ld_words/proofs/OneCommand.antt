-- Words ask for at most one command.
use Rattle.std.proofs.Common.{◌≡◌, ◌≤◌, ◌^◌, ◌-◌, ◌+◌, ◌*◌, ◌∙◌, List, None, Some, Ok, ℕ, Bool, refl, ap, ap₂, sym, subst, arith, codes, decimal}
use Rattle.std.specs.Prelude.{Option, MatchOption, MatchBool, true, false, slice_index, length, is_some}
use Rattle.std.proofs.lemmas.Fmt.{decimal_injective}
use Rattle.clap.specs.Walk.{Row, Text, first_of}
use Rattle.serde_json.specs.Read.{read}
use Rattle.ld_lsn.specs.Number.{lsn_text}
use Rattle.ld_lsn.proofs.Texts.{one_lsn as one_number_text}
use Rattle.ld_config.specs.declared.config.Config.{Config}
use Rattle.ld_config.specs.Config.{config_of_text}
use Rattle.ld_words.specs.declared.command.NodeWords.{NodeWords}
use Rattle.ld_msg.specs.declared.style.Style.{Style}
use Rattle.ld_words.specs.declared.command.LogWords.{LogWords}
use Rattle.ld_words.specs.declared.command.AppendWords.{AppendWords}
use Rattle.ld_words.specs.declared.command.Shown.{Shown}
use Rattle.ld_words.specs.declared.command.TailWords.{TailWords}
use Rattle.ld_words.specs.declared.command.Company.{Company}
use Rattle.ld_words.specs.declared.command.CrowdWords.{CrowdWords}
use Rattle.ld_words.specs.declared.command.RegisterWords.{RegisterWords}
use Rattle.ld_words.specs.declared.command.StatusWords.{StatusWords}
use Rattle.ld_words.specs.declared.command.MendWords.{MendWords}
use Rattle.ld_words.specs.declared.command.ReplaceWords.{ReplaceWords}
use Rattle.ld_words.specs.declared.command.ShowWords.{ShowWords}
use Rattle.ld_words.specs.declared.command.TrimWords.{TrimWords}
use Rattle.ld_words.specs.declared.command.CopyWords.{CopyWords}
use Rattle.ld_words.specs.declared.command.Places.{Places}
use Rattle.ld_words.specs.declared.address.Listen.{Listen}
use Rattle.ld_words.specs.declared.address.Listen.TheVariants as listens
use Rattle.ld_words.specs.declared.address.Reach.{Reach}
use Rattle.ld_words.specs.declared.address.Reach.TheVariants as reaches
use Rattle.ld_words.specs.declared.command.Command.{Command}
use Rattle.ld_words.specs.declared.command.Command.TheVariants.{Replay, Exercise, Node, Crowd, Append, Tail, Register, Status, Mend, Replace, Show, Trim, Copy}
use Rattle.ld_words.specs.Meaning.{Is, IsNumber, IsLsn, IsConfig, Says, IsMember, IsLogOf, AreFiles, IsNodeWords, IsLogWords, IsAppendWords, IsRange, IsTailWords, IsInTurn, IsCrowdWords, IsRegisterWords, IsStatusWords, IsNodeOf, IsKnownLog, IsPlaceFor, IsMendWords, IsReplaceWords, IsShowWords, IsTrimWords, IsCopyWords, IsUntil, follows, IsAbsent, IsListen, IsReach, Spells, IsNumberOr, IsNamed, Asks, ArePlacesOf, HasNoPlaces, AskForPlaces, AskForNoPlaces}
use Rattle.ld_words.specs.declared.words.ReachWords.{ReachWords}
use Rattle.ld_words.specs.declared.stopped.AskWords.{AskWords}
use Rattle.ld_words.specs.Parts.{IsReachWords, IsAskWords}
use Rattle.ld_words.proofs.OneAddress.{one_at}

-- an argument has one value
one_text : (name : Text) (rows : List Row) (a b : Text) → Is name rows a → Is name rows b → a ≡ b
one_text name rows a b x y = let e : Some a ≡ Some b = sym x ∙ y in cc

one_number : (name : Text) (rows : List Row) (least most m n : ℕ) → most ≤ 2 ^ 64 - 1 → IsNumber name rows least most m → IsNumber name rows least most n → m ≡ n
one_number name rows least most m n small x y =
    decimal_injective m n (omega (arith, small, x.to)) (omega (arith, small, y.to)) (one_text name rows (decimal m) (decimal n) x.text y.text)

one_config : (name : Text) (rows : List Row) (a b : Config) → IsConfig name rows a → IsConfig name rows b → a ≡ b
one_config name rows a b x y =
    let texts = one_text name rows x.text y.text x.is y.is in
    let e : Ok a ≡ config_of_text (read y.text) = sym x.says.1 ∙ ap (λ t. config_of_text (read t)) texts in
    let f : config_of_text (read y.text) ≡ Ok b = y.says.1 in
    cc

-- the argument's text says the configuration that it is
says_of : (rows : List Row) (text : Text) (config : Config) → Is (codes "config") rows text → IsConfig (codes "config") rows config → Says text config
says_of rows text config is x = subst (λ t. Says t config) (one_text _ rows x.text text x.is is) x.says

-- a node listens in one way, and the nodes are reached in one way
one_listen : (rows : List Row) (l m : Listen) → IsListen rows l → IsListen rows m → l ≡ m
one_listen rows (listens.Port p) (listens.Port q) x y = ap listens.Port (one_number _ rows 0 65535 p q (omega arith) x.0 y.0)
one_listen rows (listens.Port p) (listens.At b) x y = let e : None ≡ Some (decimal p) = sym y.0 ∙ x.0.text in absurd cc
one_listen rows (listens.At a) (listens.Port q) x y = let e : None ≡ Some (decimal q) = sym x.0 ∙ y.0.text in absurd cc
one_listen rows (listens.At a) (listens.At b) x y = ap listens.At (one_text _ rows a b x.1 y.1)

one_reach : (rows : List Row) (nodes : List Bool) (r s : Reach) → IsReach rows nodes r → IsReach rows nodes s → r ≡ s
one_reach rows nodes (reaches.Above p) (reaches.Above q) x y = ap reaches.Above (one_number _ rows 1 65519 p q (omega arith) x.0 y.0)
one_reach rows nodes (reaches.Above p) (reaches.At b) x y = let e : None ≡ Some (decimal p) = sym y.0 ∙ x.0.text in absurd cc
one_reach rows nodes (reaches.At a) (reaches.Above q) x y = let e : None ≡ Some (decimal q) = sym x.0 ∙ y.0.text in absurd cc
one_reach rows nodes (reaches.At a) (reaches.At b) x y = ap reaches.At (one_at rows nodes a b x.1 y.1)

one_spelt : (text : Text) (least most m n : ℕ) → most ≤ 2 ^ 64 - 1 → Spells text least most m → Spells text least most n → m ≡ n
one_spelt text least most m n small x y = decimal_injective m n (omega (arith, small, x.to)) (omega (arith, small, y.to)) (sym x.digits ∙ y.digits)

one_of : (o : Option Text) (least most otherwise m n : ℕ) → most ≤ 2 ^ 64 - 1 → MatchOption o (m ≡ otherwise) (λ text. Spells text least most m)
    → MatchOption o (n ≡ otherwise) (λ text. Spells text least most n) → m ≡ n
one_of None least most otherwise m n small x y = x ∙ sym y
one_of (Some text) least most otherwise m n small x y = one_spelt text least most m n small x y

one_turns : (rows : List Row) (o : Option Text) (m n : ℕ)
    → MatchOption o (IsNumber (codes "turns") rows 1 1000000000 m) (λ _. IsNumberOr (codes "turns") rows 1 1000000000 (2 ^ 64 - 1) m)
    → MatchOption o (IsNumber (codes "turns") rows 1 1000000000 n) (λ _. IsNumberOr (codes "turns") rows 1 1000000000 (2 ^ 64 - 1) n) → m ≡ n
one_turns rows None m n x y = one_number _ rows 1 1000000000 m n (omega arith) x y
one_turns rows (Some text) m n x y = one_of _ 1 1000000000 (2 ^ 64 - 1) m n (omega arith) x y

node_of : ℕ → Config → Text → Text → Listen → ℕ → Bool → Bool → NodeWords
node_of id config store register listen turns format quiet =
    record { id = id; config = config; store = store; register = register; listen = listen; turns = turns; format = format; quiet = quiet }

congruent : {A B C D E F G X : Type 0} (f : A → B → C → D → E → F → G → G → X) (a b : A) (c d : B) (g h : C) (i j : D) (k l : E) (m n : F) (o p q r : G)
    → a ≡ b → c ≡ d → g ≡ h → i ≡ j → k ≡ l → m ≡ n → o ≡ p → q ≡ r → f a c g i k m o q ≡ f b d h j l n p r
congruent f a b c d g h i j k l m n o p q r e1 e2 e3 e4 e5 e6 e7 e8 = cc

one_node : (rows : List Row) (a b : NodeWords) → IsNodeWords rows a → IsNodeWords rows b → a ≡ b
unfolding node_of
one_node rows a b x y =
    congruent node_of a.id b.id a.config b.config a.store b.store a.register b.register a.listen b.listen a.turns b.turns a.format b.format a.quiet b.quiet
    (one_number _ rows 1 16 a.id b.id (omega arith) x.id y.id)
    (one_config _ rows a.config b.config x.config y.config)
    (one_text _ rows a.store b.store x.files.first y.files.first)
    (one_text _ rows a.register b.register x.files.second y.files.second)
    (one_listen rows a.listen b.listen x.listen y.listen)
    (one_turns rows (first_of (codes "peers") rows) a.turns b.turns x.turns y.turns)
    (x.format ∙ sym y.format)
    (x.quiet ∙ sym y.quiet)

one_lsn : (name : Text) (rows : List Row) (v w : ℕ) → IsLsn name rows v → IsLsn name rows w → v ≡ w
one_lsn name rows v w x y = one_number_text v w x.bits y.bits (one_text name rows (lsn_text v) (lsn_text w) x.text y.text)

-- one text that is both files is of no files
pub no_files : (rows : List Row) (a b store register : Text) → Is (codes "store") rows a → Is (codes "register") rows b → a ≡ b → AreFiles rows store register → ⊥
no_files rows a b store register first second same files =
    files.apart (one_text _ rows store a files.first first ∙ same ∙ one_text _ rows b register second files.second)

-- addresses that are refused are of no words over a log
pub no_reach_of : (rows : List Row) (config : Config) → IsConfig (codes "config") rows config → (w : ReachWords) → IsReachWords rows w → ((r : Reach) → IsReach rows config.nodes r → ⊥) → ⊥
no_reach_of rows config is w words none =
    none w.reach (subst (λ c. IsReach rows c.nodes w.reach) (one_config _ rows w.config config words.config is) words.reach)

-- whether the log is followed or not, there is one number of rounds, one last number and one pause
one_round : (rows : List Row) (b : Bool) (m n : ℕ)
    → MatchBool b (IsNumberOr (codes "rounds") rows 1 1000000 (2 ^ 64 - 1) m) (IsNumber (codes "rounds") rows 1 1000000 m)
    → MatchBool b (IsNumberOr (codes "rounds") rows 1 1000000 (2 ^ 64 - 1) n) (IsNumber (codes "rounds") rows 1 1000000 n) → m ≡ n
one_round rows true m n x y = one_of _ 1 1000000 (2 ^ 64 - 1) m n (omega arith) x y
one_round rows false m n x y = one_number _ rows 1 1000000 m n (omega arith) x y

one_until : (rows : List Row) (b : Bool) (m n : ℕ) → MatchBool b (IsAbsent (codes "until") rows × (m ≡ 2 ^ 64 - 1)) (IsLsn (codes "until") rows m)
    → MatchBool b (IsAbsent (codes "until") rows × (n ≡ 2 ^ 64 - 1)) (IsLsn (codes "until") rows n) → m ≡ n
one_until rows true m n x y = x.1 ∙ sym y.1
one_until rows false m n x y = one_lsn _ rows m n x y

one_pause : (rows : List Row) (b : Bool) (m n : ℕ) → MatchBool b (IsNumberOr (codes "pause") rows 1 60000 1000 m) (IsAbsent (codes "pause") rows × (m ≡ 0))
    → MatchBool b (IsNumberOr (codes "pause") rows 1 60000 1000 n) (IsAbsent (codes "pause") rows × (n ≡ 0)) → m ≡ n
one_pause rows true m n x y = one_of _ 1 60000 1000 m n (omega arith) x y
one_pause rows false m n x y = x.1 ∙ sym y.1

-- the arguments' first and last number are in the order of each range that they say
pub first_of_range : (rows : List Row) (v first last : ℕ) → IsLsn (codes "from") rows v → IsRange rows first last → 1 ≤ v
first_of_range rows v first last x range =
    let e = one_lsn _ rows first v range.from x in
    omega (arith, e, range.some)

pub last_of_range : (rows : List Row) (v w first last : ℕ) → IsLsn (codes "from") rows v → IsUntil rows w → IsRange rows first last → v ≤ w
last_of_range rows v w first last x y range =
    let e = one_lsn _ rows first v range.from x in
    let f = one_until rows (follows rows) last w range.until y in
    omega (arith, e, f, range.order)

log_of : Config → ℕ → Text → Reach → ℕ → ℕ → LogWords
log_of config log register reach rounds limit = record { config = config; log = log; register = register; reach = reach; rounds = rounds; limit = limit }

sixfold : {A B C D X : Type 0} (f : A → B → C → D → B → B → X) (a b : A) (c d : B) (g h : C) (i j : D) (k l m n : B)
    → a ≡ b → c ≡ d → g ≡ h → i ≡ j → k ≡ l → m ≡ n → f a c g i k m ≡ f b d h j l n
sixfold f a b c d g h i j k l m n e1 e2 e3 e4 e5 e6 = cc

one_log : (rows : List Row) (a b : LogWords) → IsLogWords rows a → IsLogWords rows b → a ≡ b
unfolding log_of
one_log rows a b x y =
    let configs = one_config _ rows a.config b.config x.config y.config in
    sixfold log_of a.config b.config a.log b.log a.register b.register a.reach b.reach a.rounds b.rounds a.limit b.limit
    configs
    (one_number _ rows 1 65535 a.log b.log (omega arith) x.log y.log)
    (one_text _ rows a.register b.register x.register y.register)
    (one_reach rows b.config.nodes a.reach b.reach (subst (λ c. IsReach rows c.nodes a.reach) configs x.reach) y.reach)
    (one_round rows (follows rows) a.rounds b.rounds x.rounds y.rounds)
    (one_of _ 100 60000 10000 a.limit b.limit (omega arith) x.limit y.limit)

three : {A B C X : Type 0} (f : A → B → C → X) (a b : A) (c d : B) (g h : C) → a ≡ b → c ≡ d → g ≡ h → f a c g ≡ f b d h
three f a b c d g h e1 e2 e3 = cc

append_of : LogWords → ℕ → Bool → Bool → Bool → AppendWords
append_of w in_flight batches moves text = record { of = w; in_flight = in_flight; batches = batches; moves = moves; text = text }

fivefold : {A B C X : Type 0} (f : A → B → C → C → C → X) (a b : A) (c d : B) (g h i j k l : C) → a ≡ b → c ≡ d → g ≡ h → i ≡ j → k ≡ l → f a c g i k ≡ f b d h j l
fivefold f a b c d g h i j k l e1 e2 e3 e4 e5 = cc

one_append : (rows : List Row) (a b : AppendWords) → IsAppendWords rows a → IsAppendWords rows b → a ≡ b
unfolding append_of
one_append rows a b x y =
    fivefold append_of a.of b.of a.in_flight b.in_flight a.batches b.batches a.moves b.moves a.text b.text
    (one_log rows a.of b.of x.of y.of)
    (one_of _ 1 128 1 a.in_flight b.in_flight (omega arith) x.in_flight y.in_flight)
    (x.batches ∙ sym y.batches)
    (x.moves ∙ sym y.moves)
    (x.text ∙ sym y.text)

tail_of : LogWords → ℕ → ℕ → Style → ℕ → Shown → TailWords
tail_of w first last style pause shown = record { of = w; from = first; until = last; style = style; pause = pause; shown = shown }

tailed : {A B C D X : Type 0} (f : A → B → B → C → B → D → X) (a b : A) (c d g h : B) (i j : C) (k l : B) (m n : D) → a ≡ b → c ≡ d → g ≡ h → i ≡ j → k ≡ l → m ≡ n → f a c g i k m ≡ f b d h j l n
tailed f a b c d g h i j k l m n e1 e2 e3 e4 e5 e6 = cc

one_some : {A : Type 0} (o : Option A) (a b : A) → o ≡ Some a → o ≡ Some b → a ≡ b
one_some o a b x y = let e : Some a ≡ Some b = sym x ∙ y in cc

one_tail : (rows : List Row) (a b : TailWords) → IsTailWords rows a → IsTailWords rows b → a ≡ b
unfolding tail_of
one_tail rows a b x y =
    tailed tail_of a.of b.of a.from b.from a.until b.until a.style b.style a.pause b.pause a.shown b.shown
    (one_log rows a.of b.of x.of y.of)
    (one_lsn _ rows a.from b.from x.range.from y.range.from)
    (one_until rows (follows rows) a.until b.until x.range.until y.range.until)
    (one_some _ a.style b.style x.style y.style)
    (one_pause rows (follows rows) a.pause b.pause x.pause y.pause)
    (one_some _ a.shown b.shown x.shown y.shown)

one_crowd : (rows : List Row) (a b : CrowdWords) → IsCrowdWords rows a → IsCrowdWords rows b → a ≡ b
one_crowd rows a b x y =
    let peers = one_number _ rows 2 1000 a.company.peers b.company.peers (omega arith) x.peers y.peers in
    let idle = one_of _ 1 86400 60 a.company.idle b.company.idle (omega arith) x.idle y.idle in
    let companies : a.company ≡ b.company = ap₂ (λ (p i : ℕ). record { peers = p; idle = i }) peers idle in
    ap₂ (λ (n : NodeWords) (c : Company). record { node = n; company = c }) (one_node rows a.node b.node x.node y.node) companies

register_of : Config → ℕ → Text → ℕ → Bool → RegisterWords
register_of config log register from json = record { config = config; log = log; register = register; from = from; json = json }

told : {A B C D X : Type 0} (f : A → B → C → B → D → X) (a b : A) (c d : B) (g h : C) (i j : B) (k l : D) → a ≡ b → c ≡ d → g ≡ h → i ≡ j → k ≡ l → f a c g i k ≡ f b d h j l
told f a b c d g h i j k l e1 e2 e3 e4 e5 = cc

-- there is no epoch 0
pub some_epoch : (o : Option Text) (n : ℕ) → MatchOption o (n ≡ 1) (λ text. Spells text 1 (2 ^ 32 - 1) n) → 1 ≤ n
some_epoch None n x = omega (arith, x)
some_epoch (Some text) n x = x.from

one_register : (rows : List Row) (a b : RegisterWords) → IsRegisterWords rows a → IsRegisterWords rows b → a ≡ b
unfolding register_of
one_register rows a b x y =
    told register_of a.config b.config a.log b.log a.register b.register a.from b.from a.json b.json
    (one_config _ rows a.config b.config x.config y.config)
    (one_number _ rows 1 65535 a.log b.log (omega arith) x.log y.log)
    (one_text _ rows a.register b.register x.register y.register)
    (one_of _ 1 (2 ^ 32 - 1) 1 a.from b.from (omega arith) x.from y.from)
    (x.json ∙ sym y.json)

pub some_epochs : (o : Option Text) (n : ℕ) → MatchOption o (n ≡ 16) (λ text. Spells text 1 1000000 n) → 1 ≤ n
some_epochs None n x = omega (arith, x)
some_epochs (Some text) n x = x.from

status_of : Config → ℕ → Text → Reach → ℕ → ℕ → Bool → StatusWords
status_of config log register reach limit epochs json = record { config = config; log = log; register = register; reach = reach; limit = limit; epochs = epochs; json = json }

sevenfold : {A B C D E X : Type 0} (f : A → B → C → D → B → B → E → X) (a b : A) (c d : B) (g h : C) (i j : D) (k l m n : B) (o p : E)
    → a ≡ b → c ≡ d → g ≡ h → i ≡ j → k ≡ l → m ≡ n → o ≡ p → f a c g i k m o ≡ f b d h j l n p
sevenfold f a b c d g h i j k l m n o p e1 e2 e3 e4 e5 e6 e7 = cc

one_status : (rows : List Row) (a b : StatusWords) → IsStatusWords rows a → IsStatusWords rows b → a ≡ b
unfolding status_of
one_status rows a b x y =
    let configs = one_config _ rows a.config b.config x.config y.config in
    sevenfold status_of a.config b.config a.log b.log a.register b.register a.reach b.reach a.limit b.limit a.epochs b.epochs a.json b.json
    configs
    (one_number _ rows 1 65535 a.log b.log (omega arith) x.log y.log)
    (one_text _ rows a.register b.register x.register y.register)
    (one_reach rows b.config.nodes a.reach b.reach (subst (λ c. IsReach rows c.nodes a.reach) configs x.reach) y.reach)
    (one_of _ 100 60000 10000 a.limit b.limit (omega arith) x.limit y.limit)
    (one_of _ 1 1000000 16 a.epochs b.epochs (omega arith) x.epochs y.epochs)
    (x.json ∙ sym y.json)

-- the arguments say one node, and one configuration
pub one_id : (rows : List Row) (n m : ℕ) (c d : Config) → IsNodeOf rows n c → IsNodeOf rows m d → n ≡ m
one_id rows n m c d x y = one_number _ rows 1 16 n m (omega arith) x.id y.id

pub one_config_of : (rows : List Row) (n m : ℕ) (c d : Config) → IsNodeOf rows n c → IsNodeOf rows m d → c ≡ d
one_config_of rows n m c d x y = one_config _ rows c d x.config y.config

-- a text that says no configuration, and a number that is no node of its configuration, are of no node
pub no_config_of : (rows : List Row) (text : Text) → Is (codes "config") rows text → (n : ℕ) (c : Config) → IsNodeOf rows n c → ((c : Config) → Says text c → ⊥) → ⊥
no_config_of rows text is n c node none = none c (says_of rows text c is node.config)

pub no_node_of : (rows : List Row) (id : ℕ) (text : Text) (config : Config) → IsNumber (codes "id") rows 1 16 id → Is (codes "config") rows text
    → Says text config → (n : ℕ) (c : Config) → IsNodeOf rows n c → (IsMember id config → ⊥) → ⊥
no_node_of rows id text config number is says n c node none =
    let x = one_number _ rows 1 16 n id (omega arith) node.id number in
    let y = one_config _ rows c config node.config (record { text = text; is = is; says = says }) in
    none (subst (λ i. IsMember i config) x (subst (λ c. IsMember n c) y node.member))

-- the same of a log
pub no_known_config : (rows : List Row) (text : Text) → Is (codes "config") rows text → (l : ℕ) (c : Config) → IsKnownLog rows l c → ((c : Config) → Says text c → ⊥) → ⊥
no_known_config rows text is l c known none = none c (says_of rows text c is known.config)

pub no_known_log : (rows : List Row) (log : ℕ) (text : Text) (config : Config) → IsNumber (codes "log") rows 1 65535 log → Is (codes "config") rows text
    → Says text config → (l : ℕ) (c : Config) → IsKnownLog rows l c → (IsLogOf log config → ⊥) → ⊥
no_known_log rows log text config number is says l c known none =
    let x = one_number _ rows 1 65535 l log (omega arith) known.log number in
    let y = one_config _ rows c config known.config (record { text = text; is = is; says = says }) in
    none (subst (λ i. IsLogOf i config) x (subst (λ d. IsLogOf l d) y known.known))

-- addresses that are refused are of no words by which a node is mended
pub no_ask_reach : (rows : List Row) (n : ℕ) (c : Config) → IsNodeOf rows n c → (m : AskWords) → IsAskWords rows m → ((r : Reach) → IsReach rows c.nodes r → ⊥) → ⊥
no_ask_reach rows n c node m words none =
    none m.reach (subst (λ d. IsReach rows d.nodes m.reach) (one_config_of rows m.id n m.config c words.node node) words.reach)

-- a place that is refused is of no words by which a node takes one
pub no_replace_place : (rows : List Row) (n : ℕ) (c : Config) → IsNodeOf rows n c → (r : ReplaceWords) → IsReplaceWords rows r → ((o l : ℕ) → IsPlaceFor rows n c o l → ⊥) → ⊥
no_replace_place rows n c node r words none =
    let ids = one_id rows r.id n r.config c words.node node in
    let configs = one_config_of rows r.id n r.config c words.node node in
    none r.of r.log (subst (λ i. IsPlaceFor rows i c r.of r.log) ids (subst (λ d. IsPlaceFor rows r.id d r.of r.log) configs words.place))

-- the node whose place is taken, and the log
pub one_of_place : (rows : List Row) (n : ℕ) (c : Config) (o l other : ℕ) → IsPlaceFor rows n c o l → IsNumber (codes "of") rows 1 16 other → o ≡ other
one_of_place rows n c o l other place number = one_number _ rows 1 16 o other (omega arith) place.of number

pub no_place_node : (rows : List Row) (n : ℕ) (c : Config) (other : ℕ) → IsNumber (codes "of") rows 1 16 other → (o l : ℕ) → IsPlaceFor rows n c o l
    → (IsMember other c → ⊥) → ⊥
no_place_node rows n c other number o l place none =
    none (subst (λ i. IsMember i c) (one_of_place rows n c o l other place number) place.member)

pub no_place_log : (rows : List Row) (n : ℕ) (c : Config) (log : ℕ) → IsNumber (codes "log") rows 1 65535 log → (o l : ℕ) → IsPlaceFor rows n c o l
    → (IsLogOf log c → ⊥) → ⊥
no_place_log rows n c log number o l place none =
    none (subst (λ i. IsLogOf i c) (one_number _ rows 1 65535 l log (omega arith) place.log number) place.known)

mend_of : ℕ → Config → Text → Text → Reach → ℕ → ℕ → MendWords
mend_of id config store register reach rounds limit =
    record { id = id; config = config; store = store; register = register; reach = reach; rounds = rounds; limit = limit }

mended : {A B C D X : Type 0} (f : A → B → C → C → D → A → A → X) (a b : A) (c d : B) (g h i j : C) (k l : D) (m n o p : A)
    → a ≡ b → c ≡ d → g ≡ h → i ≡ j → k ≡ l → m ≡ n → o ≡ p → f a c g i k m o ≡ f b d h j l n p
mended f a b c d g h i j k l m n o p e1 e2 e3 e4 e5 e6 e7 = cc

one_mend : (rows : List Row) (a b : MendWords) → IsMendWords rows a → IsMendWords rows b → a ≡ b
unfolding mend_of
one_mend rows a b x y =
    let configs = one_config_of rows a.id b.id a.config b.config x.node y.node in
    mended mend_of a.id b.id a.config b.config a.store b.store a.register b.register a.reach b.reach a.rounds b.rounds a.limit b.limit
    (one_id rows a.id b.id a.config b.config x.node y.node)
    configs
    (one_text _ rows a.store b.store x.files.first y.files.first)
    (one_text _ rows a.register b.register x.files.second y.files.second)
    (one_reach rows b.config.nodes a.reach b.reach (subst (λ c. IsReach rows c.nodes a.reach) configs x.reach) y.reach)
    (one_number _ rows 1 1000000 a.rounds b.rounds (omega arith) x.rounds y.rounds)
    (one_of _ 100 60000 10000 a.limit b.limit (omega arith) x.limit y.limit)

replace_of : ℕ → ℕ → Config → ℕ → Text → Text → ReplaceWords
replace_of id other config log store register = record { id = id; of = other; config = config; log = log; store = store; register = register }

replaced : {A B C X : Type 0} (f : A → A → B → A → C → C → X) (a b c d : A) (g h : B) (i j : A) (k l m n : C)
    → a ≡ b → c ≡ d → g ≡ h → i ≡ j → k ≡ l → m ≡ n → f a c g i k m ≡ f b d h j l n
replaced f a b c d g h i j k l m n e1 e2 e3 e4 e5 e6 = cc

one_replace : (rows : List Row) (a b : ReplaceWords) → IsReplaceWords rows a → IsReplaceWords rows b → a ≡ b
unfolding replace_of
one_replace rows a b x y =
    replaced replace_of a.id b.id a.of b.of a.config b.config a.log b.log a.store b.store a.register b.register
    (one_id rows a.id b.id a.config b.config x.node y.node)
    (one_number _ rows 1 16 a.of b.of (omega arith) x.place.of y.place.of)
    (one_config_of rows a.id b.id a.config b.config x.node y.node)
    (one_number _ rows 1 65535 a.log b.log (omega arith) x.place.log y.place.log)
    (one_text _ rows a.store b.store x.files.first y.files.first)
    (one_text _ rows a.register b.register x.files.second y.files.second)

show_of : ℕ → Config → Text → Bool → ShowWords
show_of id config store json = record { id = id; config = config; store = store; json = json }

shown_as : {A B C D X : Type 0} (f : A → B → C → D → X) (a b : A) (c d : B) (g h : C) (i j : D) → a ≡ b → c ≡ d → g ≡ h → i ≡ j → f a c g i ≡ f b d h j
shown_as f a b c d g h i j e1 e2 e3 e4 = cc

one_show : (rows : List Row) (a b : ShowWords) → IsShowWords rows a → IsShowWords rows b → a ≡ b
unfolding show_of
one_show rows a b x y =
    shown_as show_of a.id b.id a.config b.config a.store b.store a.json b.json
    (one_id rows a.id b.id a.config b.config x.node y.node)
    (one_config_of rows a.id b.id a.config b.config x.node y.node)
    (one_text _ rows a.store b.store x.store y.store)
    (x.json ∙ sym y.json)

one_trim : (rows : List Row) (a b : TrimWords) → IsTrimWords rows a → IsTrimWords rows b → a ≡ b
one_trim rows a b x y =
    ap₂ (λ (w : LogWords) (n : ℕ). record { of = w; upto = n }) (one_log rows a.of b.of x.of y.of) (one_lsn _ rows a.upto b.upto x.upto y.upto)

-- the number up to which a log is trimmed is in the bounds of each that the words say
pub upto_from : (rows : List Row) (v last : ℕ) → IsLsn (codes "upto") rows v → IsLsn (codes "upto") rows last → 1 ≤ last → 1 ≤ v
upto_from rows v last x y some =
    let e = one_lsn _ rows last v y x in
    omega (arith, e, some)

one_copy : (rows : List Row) (a b : CopyWords) → IsCopyWords rows a → IsCopyWords rows b → a ≡ b
one_copy rows a b x y =
    ap₂ (λ (from to : Text). record { from = from; register = to }) (one_text _ rows a.from b.from x.copy y.copy) (one_text _ rows a.register b.register x.register y.register)

-- one text that is both registers is of no copy
pub no_copy : (rows : List Row) (a b : Text) (w : CopyWords) → Is (codes "copy") rows a → Is (codes "register") rows b → a ≡ b → IsCopyWords rows w → ⊥
no_copy rows a b w first second same words =
    words.apart (one_text _ rows w.from a words.copy first ∙ same ∙ one_text _ rows b w.register second words.register)

-- a register that is copied is given, or it isn't
told_or_copied : (rows : List Row) (c : CopyWords) → IsAbsent (codes "copy") rows → IsCopyWords rows c → ⊥
told_or_copied rows c x y = let e : None ≡ Some c.from = sym x ∙ y.copy in absurd cc

-- the number of a node's peers is given, or it isn't
in_turn_or_crowd : (rows : List Row) (c : CrowdWords) → IsInTurn rows → IsCrowdWords rows c → ⊥
in_turn_or_crowd rows c x y = let e : None ≡ Some (decimal c.company.peers) = sym x.peers ∙ y.peers.text in absurd cc

-- the length of a text, and its second and third letter, which tell the names of the commands apart
abbrev letters : Text → ℕ
letters name = slice_index name 1 + 1000 * slice_index name 2 + 1000000 * length name

abbrev letters_of : Command → ℕ
letters_of Replay = 6112101
letters_of (Exercise seed events) = 8101120
letters_of (Node n) = 4100111
letters_of (Crowd c) = 4100111
letters_of (Append w) = 6112112
letters_of (Tail t) = 4105097
letters_of (Register r) = 8103101
letters_of (Status s) = 6097116
letters_of (Mend m) = 4110101
letters_of (Replace r) = 7112101
letters_of (Show s) = 4111104
letters_of (Trim t) = 4105114
letters_of (Copy c) = 8103101

called : (name : Text) (rows : List Row) (c : Command) → IsNamed name rows c → letters name ≡ letters_of c
called name rows Replay x = ap letters x
called name rows (Exercise seed events) x = ap letters x.0
called name rows (Node n) x = ap letters x.0
called name rows (Crowd c) x = ap letters x.0
called name rows (Append w) x = ap letters x.0
called name rows (Tail t) x = ap letters x.0
called name rows (Register r) x = ap letters x.0
called name rows (Status s) x = ap letters x.0
called name rows (Mend m) x = ap letters x.0
called name rows (Replace r) x = ap letters x.0
called name rows (Show s) x = ap letters x.0
called name rows (Trim t) x = ap letters x.0
called name rows (Copy c) x = ap letters x.0

-- a copy that is refused is of no command of its name, where it is asked for
pub no_copy_named : (rows : List Row) (c : Command) → is_some (first_of (codes "copy") rows) ≡ true → IsNamed (codes "register") rows c
    → ((w : CopyWords) → IsCopyWords rows w → ⊥) → ⊥
no_copy_named rows (Register r) given x none = let e : false ≡ true = sym (ap is_some x.2) ∙ given in absurd cc
no_copy_named rows (Copy w) given x none = none w x.1
no_copy_named rows c given x none = let e = called (codes "register") rows c x in absurd (omega (arith, e))

one_named : (name : Text) (rows : List Row) (a b : Command) → IsNamed name rows a → IsNamed name rows b → a ≡ b
one_named name rows Replay Replay x y = refl
one_named name rows (Exercise seed events) (Exercise other more) x y =
    ap₂ Exercise (one_number _ rows 0 (2 ^ 64 - 1) seed other (omega arith) x.1.seed y.1.seed) (one_number _ rows 0 100000 events more (omega arith) x.1.events y.1.events)
one_named name rows (Node n) (Node m) x y = ap Node (one_node rows n m x.1 y.1)
one_named name rows (Node n) (Crowd c) x y = absurd (in_turn_or_crowd rows c x.2 y.1)
one_named name rows (Crowd c) (Node n) x y = absurd (in_turn_or_crowd rows c y.2 x.1)
one_named name rows (Crowd c) (Crowd d) x y = ap Crowd (one_crowd rows c d x.1 y.1)
one_named name rows (Append w) (Append v) x y = ap Append (one_append rows w v x.1 y.1)
one_named name rows (Tail t) (Tail u) x y = ap Tail (one_tail rows t u x.1 y.1)
one_named name rows (Register r) (Register s) x y = ap Register (one_register rows r s x.1 y.1)
one_named name rows (Register r) (Copy c) x y = absurd (told_or_copied rows c x.2 y.1)
one_named name rows (Copy c) (Register r) x y = absurd (told_or_copied rows c y.2 x.1)
one_named name rows (Copy c) (Copy d) x y = ap Copy (one_copy rows c d x.1 y.1)
one_named name rows (Status s) (Status t) x y = ap Status (one_status rows s t x.1 y.1)
one_named name rows (Mend m) (Mend n) x y = ap Mend (one_mend rows m n x.1 y.1)
one_named name rows (Replace r) (Replace s) x y = ap Replace (one_replace rows r s x.1 y.1)
one_named name rows (Show s) (Show t) x y = ap Show (one_show rows s t x.1 y.1)
one_named name rows (Trim t) (Trim u) x y = ap Trim (one_trim rows t u x.1 y.1)
one_named name rows a b x y = let e : letters_of a ≡ letters_of b = sym (called name rows a x) ∙ called name rows b y in absurd (omega (arith, e))

pub one_command : (words : List Text) (a b : Command) → Asks words a → Asks words b → a ≡ b
one_command words a b x y =
    let same : Some (x.name, x.rows) ≡ Some (y.name, y.rows) = sym x.is ∙ y.is in
    let pairs : ◌≡◌ {A = Text × List Row} (x.name, x.rows) (y.name, y.rows) = cc in
    let meaning = subst (λ p. IsNamed p.0 p.1 a) pairs x.meaning in
    one_named y.name y.rows a b meaning y.meaning

-- the places of the command that the arguments ask for are those of the words
pub asked_places : (words : List Text) (command : Command) (places : Option Places) → Asks words command
    → MatchOption places (HasNoPlaces command) (ArePlacesOf command) → MatchOption places (AskForNoPlaces words) (AskForPlaces words)
asked_places words command None asks none = λ other also. subst HasNoPlaces (one_command words command other asks also) none
asked_places words command (Some p) asks are = record { command = command; asks = asks; are = are }
