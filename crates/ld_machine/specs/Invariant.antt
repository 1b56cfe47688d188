-- What holds of every state of a run, beside the steps so far and the book of plans.
use Rattle.std.specs.Prelude.{ℕ, ◌≡◌, ◌≤◌, ◌<◌, ◌⊎◌, ◌+◌, ◌==◌, not, Bool, List, [], ◌∷◌, filter, length, map, Some, true, false}
use Rattle.std.specs.List.{IsDistinct}
use Rattle.ld_table.specs.Table.{find}
use Rattle.ld_table.specs.Words.{is_in, how_many}
use Rattle.ld_lsn.specs.Number.{epoch_of, esn_of, numbered, home_epoch}
use Rattle.ld_transcript.specs.declared.line.Line.TheVariants as lines
use Rattle.ld_msg.specs.declared.msg.What.{What}
use Rattle.ld_msg.specs.declared.msg.What.TheVariants.{Rec, Bridge, Withheld}
use Rattle.ld_msg.specs.declared.msg.Who.{Who}
use Rattle.ld_msg.specs.declared.msg.Who.TheVariants as whos
use Rattle.ld_msg.specs.declared.msg.Msg.{Msg}
use Rattle.ld_msg.specs.declared.msg.Entry.{Entry}
use Rattle.ld_msg.specs.declared.msg.Summary.{Summary}
use Rattle.ld_msg.specs.declared.msg.Body.{Body}
use Rattle.ld_msg.specs.declared.msg.Body.TheVariants as bodies
use Rattle.ld_msg.specs.Bounds.{ballot_of}
use Rattle.ld_msg.specs.Digest.{Told, best, content, plan_end, digest_lng}
use Rattle.ld_machine.specs.Config.{spec_of, set_at, fixed_of, fixed_at}
use Rattle.ld_msg.specs.Reading.{Held}
use Rattle.ld_msg.specs.Reader.{Reader, Confirmation}
use Rattle.ld_op.specs.Plain.{Plain, log_of, is_lost}
use Rattle.ld_op.specs.Ticks.{missing}
use Rattle.ld_config.specs.declared.config.Config.{Config}
use Rattle.ld_msg.specs.Register.{epochs_of, generation_of, lce_of}
use Rattle.ld_msg.specs.Sequencer.{Sequencer, Recovery, Stage, Seals, Stores, Closes, Planned, Append}
use Rattle.ld_machine.specs.State.{node_at}
use Rattle.ld_machine.specs.Facts.{Happened, Writes, Appends, Acks, Issues}
use Rattle.ld_machine.specs.World.{World, Made, In, Sent, Stored, from_node, to_node_of, has_settled, has_append, vouched, upheld, chosen, settled, is_made, HasPlan, item, plan_trim, plan_from, MayHold, Unserved, Holds}

-- every plain state that some node may hold
abbrev pub AtNodes : World → (ℕ → Plain → Type 0) → Type 0
AtNodes w P = (y : ℕ) (p : Plain) → MayHold (node_at w.state y) p → P y p

-- the number was acknowledged, the trim point was issued
abbrev pub Acked : List Happened → ℕ → ℕ → Type 0
Acked hs l n = (k : ℕ) × Acks hs l n k

abbrev pub Issued : List Happened → ℕ → ℕ → Type 0
Issued hs l t = (k : ℕ) × Issues hs l t k

-- ---- what stands in a message ----

abbrev pub is_withheld : What → Bool
is_withheld Withheld = true
is_withheld _ = false

-- a store carries one entry, a page some; those without their payload say nothing
abbrev pub entries_of : Who → Body → List Entry
entries_of from (bodies.Store n lng x) = record { number = n; ballot = ballot_of from; what = x } ∷ []
entries_of from (bodies.DigestPage n upto t lng es) = es
entries_of from (bodies.ReadPage round n upto c es) = filter (λ e. not (is_withheld e.what)) es
entries_of from _ = []

abbrev pub seals_in : Body → List ℕ
seals_in (bodies.SealedHere n k) = k ∷ []
seals_in _ = []

abbrev pub generations_in : Body → List ℕ
generations_in (bodies.LostHere n round g end) = g ∷ []
generations_in _ = []

abbrev pub trims_in : Body → List ℕ
trims_in (bodies.CleanHere n y) = y.trim ∷ []
trims_in (bodies.TrimmedHere n t) = t ∷ []
trims_in (bodies.DigestPage n upto t lng es) = t ∷ []
trims_in (bodies.Clean e y) = y.trim ∷ []
trims_in (bodies.Trim t) = t ∷ []
trims_in (bodies.ReadTrim round n t) = t ∷ []
trims_in _ = []

abbrev pub released_in : Body → List ℕ
released_in (bodies.Release r) = r ∷ []
released_in (bodies.ReadWait round n r) = r ∷ []
released_in _ = []

-- ---- what stands in a recovery ----

-- the trims that nodes told, that of the plan that is stored, that of the summary to close with
abbrev pub trims_of : Stage → List ℕ
trims_of (Seals ts) = map (λ t. t.trim) ts
trims_of (Stores g) = g.trim ∷ []
trims_of (Closes y short) = y.trim ∷ []

-- what a plan that is stored says of its numbers
abbrev pub planned_in : Stage → List (ℕ × Planned)
planned_in (Stores g) = g.items
planned_in _ = []

-- ---- what was handed out ----

abbrev pub Epoch : World → ℕ → ℕ → Type 0
Epoch w l e = (0 < e) × (e ≤ (epochs_of w.state.register l).epoch)

-- sequencers have epochs that were handed out, none twice
pub record SequencersDrawn (w : World) : Type 0 where
  pub drawn : (q : List ℕ × Sequencer) → In q w.state.sequencers → Epoch w q.1.log q.1.epoch
  pub once : (q r : List ℕ × Sequencer) → In q w.state.sequencers → In r w.state.sequencers → q.1.log ≡ r.1.log → q.1.epoch ≡ r.1.epoch → q.0 ≡ r.0

-- each generation was handed out, none twice
pub record GenerationsDrawn (hs : List Happened) (w : World) : Type 0 where
  pub at_nodes : AtNodes w (λ y p. p.generation ≤ generation_of w.state.register y)
  pub in_messages : (m : Msg) (y g : ℕ) → Sent w m → m.from ≡ whos.Node y → In g (generations_in m.body) → g ≤ generation_of w.state.register y
  pub in_confirmations : (d : List ℕ × Reader) (v : Confirmation) (y g : ℕ) → In d w.state.readers → d.1.confirming ≡ Some v → In {X = ℕ × ℕ} (y, g) v.asked → g ≤ generation_of w.state.register y
  pub once : (n g j k : ℕ) → Writes hs j (lines.NodeFormatted n g) → Writes hs k (lines.NodeFormatted n g) → j ≡ k

-- an entry's epoch and ballot were handed out
pub record EntryDrawn (w : World) (l : ℕ) (e : Entry) : Type 0 where
  pub epoch : 1 ≤ epoch_of e.number
  pub below : epoch_of e.number ≤ e.ballot
  pub ballot : Epoch w l e.ballot

pub record BallotsDrawn (w : World) : Type 0 where
  pub at_nodes : AtNodes w (λ y p. (l n : ℕ) (e : Entry) → find n (log_of p l).entries ≡ Some e → EntryDrawn w l e)
  pub in_messages : (m : Msg) (e : Entry) → Sent w m → In e (entries_of m.from m.body) → EntryDrawn w m.log e
  pub seals : AtNodes w (λ y p. (l : ℕ) → (log_of p l).sealed ≤ (epochs_of w.state.register l).epoch)
  pub seals_told : (m : Msg) (k : ℕ) → Sent w m → In k (seals_in m.body) → Epoch w m.log k

-- ---- summaries ----

abbrev pub Closed : World → ℕ → ℕ → Summary → Type 0
Closed w l e y = find e (epochs_of w.state.register l).summaries ≡ Some y

abbrev pub IsOpen : World → ℕ → ℕ → Type 0
IsOpen w l e = lce_of w.state.register l < e

-- each summary at a node or in a message is the register's, and its ballot was handed out
pub record SummariesAgree (w : World) : Type 0 where
  pub at_nodes : AtNodes w (λ y p. (l e : ℕ) (s : Summary) → find e (log_of p l).summaries ≡ Some s → Closed w l e s)
  pub in_cleans : (l b y e : ℕ) (s : Summary) → Sent w (to_node_of l b y (bodies.Clean e s)) → Closed w l e s
  pub in_answers : (l y b n : ℕ) (s : Summary) → Sent w (from_node l y b (bodies.CleanHere n s)) → Closed w l (home_epoch n) s
  pub ballots : (l e : ℕ) (s : Summary) → Closed w l e s → (0 < e) × (e < s.ballot) × Epoch w l s.ballot

-- ---- trims ----

abbrev pub IsTrim : List Happened → ℕ → ℕ → Type 0
IsTrim hs l t = (t ≡ 0) ⊎ Issued hs l t

pub record TrimsIssued (hs : List Happened) (w : World) : Type 0 where
  pub at_nodes : AtNodes w (λ y p. (l : ℕ) → IsTrim hs l (log_of p l).trim)
  pub in_summaries : (l e : ℕ) (s : Summary) → Closed w l e s → IsTrim hs l s.trim
  pub in_messages : (m : Msg) (t : ℕ) → Sent w m → In t (trims_in m.body) → IsTrim hs m.log t
  pub in_recoveries : (q : List ℕ × Sequencer) (v : Recovery) (t : ℕ) → In q w.state.sequencers → q.1.recovery ≡ Some v → In t (trims_of v.stage) → IsTrim hs q.1.log t
  pub in_plans : (m : Made) (d : Told) → In m w.made → In d m.digest → IsTrim hs m.log d.trim

-- while an epoch is open, a point in it has only acknowledged numbers up to it
abbrev pub OpenTrims : List Happened → World → Type 0
OpenTrims hs w = (l e t n : ℕ) → IsOpen w l e → Issued hs l t → home_epoch t ≡ e → numbered e 1 ≤ n → n ≤ t → Acked hs l n

-- ---- releases ----

-- a released number has only acknowledged numbers of its epoch up to it, and closed epochs below
pub record ReleasedAcked (hs : List Happened) (w : World) (l r : ℕ) : Type 0 where
  pub acked : (n : ℕ) → numbered (epoch_of r) 1 ≤ n → n ≤ r → Acked hs l n
  pub closed : epoch_of r ≤ lce_of w.state.register l + 1

pub record ReleasesAcked (hs : List Happened) (w : World) : Type 0 where
  pub in_messages : (m : Msg) (r : ℕ) → Sent w m → In r (released_in m.body) → 0 < esn_of r → ReleasedAcked hs w m.log r
  pub at_nodes : (y l r : ℕ) → find l (node_at w.state y).released ≡ Some r → 0 < esn_of r → ReleasedAcked hs w l r

-- ---- what actors hold came in messages ----

pub record HeldWasSent (w : World) : Type 0 where
  pub readers : (d : List ℕ × Reader) (y : ℕ) (h : Held) → In d w.state.readers → find y d.1.held ≡ Some h →
      Sent w (record { from = whos.Node y; to = whos.Reader d.1.number; log = d.1.log; body = h.body })
  pub digests : (q : List ℕ × Sequencer) (v : Recovery) (ts : List Told) (t : Told) (e : Entry) → In q w.state.sequencers → q.1.recovery ≡ Some v → v.stage ≡ Seals ts → In t ts → In e t.entries →
      (from upto trim lng : ℕ) × (es : List Entry) × Sent w (from_node q.1.log t.node q.1.epoch (bodies.DigestPage from upto trim lng es)) × In e es

-- ---- one ballot, one plan ----

-- a sequencer plans an epoch at most once
abbrev pub OnePlan : World → Type 0
OnePlan w = (l e b : ℕ) → how_many (is_made l e b) w.made ≤ 1

-- a refilled entry that was known good: it has the ballot of its epoch's close, and is what was appended
abbrev pub IsKnownGood : World → ℕ → Entry → Type 0
IsKnownGood w l e = (y : Summary) × Closed w l (epoch_of e.number) y × (y.ballot ≡ e.ballot) × (esn_of e.number ≤ y.lng) × (item w l e.number (epoch_of e.number) ≡ Some e.what)

-- a refilled entry of a loss plan: it has the ballot of its epoch's close, and is what a loss plan of a greater ballot says
abbrev pub IsOfLoss : World → ℕ → Entry → Type 0
IsOfLoss w l e = (y : Summary) × (g : ℕ) × (m : Made) × Closed w l (epoch_of e.number) y × (y.ballot ≡ e.ballot) × (y.ballot < g) × HasPlan w l (epoch_of e.number) g m × (m.loss ≡ true) × (item w l e.number g ≡ Some e.what)

-- an entry says what its ballot says of its number, and a record is the payload that was appended there
pub record IsItem (hs : List Happened) (w : World) (l : ℕ) (e : Entry) : Type 0 where
  pub item : (item w l e.number e.ballot ≡ Some e.what) ⊎ (IsKnownGood w l e ⊎ IsOfLoss w l e)
  pub appended : (p : List ℕ) → e.what ≡ Rec p → (k : ℕ) × Appends hs l e.number p k

-- each entry at a node, in a store or in a page; each item of a plan that is stored, and each append that waits
pub record EntriesAreItems (hs : List Happened) (w : World) : Type 0 where
  pub at_nodes : AtNodes w (λ y p. (l n : ℕ) (e : Entry) → find n (log_of p l).entries ≡ Some e → (e.number ≡ n) × IsItem hs w l e)
  pub in_messages : (m : Msg) (e : Entry) → Sent w m → In e (entries_of m.from m.body) → IsItem hs w m.log e
  pub in_plans : (q : List ℕ × Sequencer) (v : Recovery) (i : ℕ × Planned) → In q w.state.sequencers → q.1.recovery ≡ Some v → In i (planned_in v.stage) →
      IsItem hs w q.1.log (record { number = i.0; ballot = q.1.epoch; what = i.1.what })
  pub in_appends : (q : List ℕ × Sequencer) (p : ℕ × Append) → In q w.state.sequencers → In p q.1.appends →
      IsItem hs w q.1.log (record { number = p.0; ballot = q.1.epoch; what = Rec p.1.payload })

-- ---- what was stored stays ----

-- a plan of a greater ballot that reached the node ends below the number
abbrev pub CutAbove : World → Plain → ℕ → ℕ → ℕ → Type 0
CutAbove w p l n b = (g : ℕ) × (m : Made) × HasPlan w l (epoch_of n) g m × (b < g) × (g ≤ (log_of p l).sealed) × (plan_end (epoch_of n) m.digest < esn_of n)

-- what a node stored stays, unless the epoch isn't served there, it was trimmed, or a plan cut it off
abbrev pub Retains : World → Type 0
Retains w = AtNodes w (λ y p. (l n b : ℕ) → Stored w l y n b →
    Unserved p l (epoch_of n) ⊎ ((n ≤ (log_of p l).trim) ⊎ (Holds p l n b ⊎ CutAbove w p l n b)))

-- ---- seals ----

abbrev pub SealsHold : World → Type 0
SealsHold w = AtNodes w (λ y p. (l b from upto t lng : ℕ) (es : List Entry) → Sent w (from_node l y b (bodies.DigestPage from upto t lng es)) →
    Unserved p l (epoch_of from) ⊎ (b ≤ (log_of p l).sealed))

-- ---- agreement ----

-- a ballot says what was found: it is the epoch's own, or its plan isn't a loss plan
abbrev pub IsFound : World → ℕ → ℕ → ℕ → Type 0
IsFound w l e b = (b ≡ e) ⊎ ((m : Made) × HasPlan w l e b m × (m.loss ≡ false))

-- a record or hole that is chosen is the item of each plan of a greater ballot, or trimmed or known good there; plans that say what is lost are left out
abbrev pub Agrees : Config → World → Type 0
Agrees c w = (l n b g : ℕ) (x : What) (m : Made) → chosen c w l n b ≡ true → item w l n b ≡ Some x → (x ≡ Bridge → ⊥) → IsFound w l (epoch_of n) b → b < g →
    HasPlan w l (epoch_of n) g m → m.loss ≡ false →
    (item w l n g ≡ Some x) ⊎ ((esn_of n ≤ plan_trim (epoch_of n) m.digest) ⊎ (esn_of n ≤ digest_lng m.digest))

-- each number that the plan says something of is settled
abbrev pub Ready : Config → World → ℕ → ℕ → ℕ → Type 0
Ready c w l e b = (n : ℕ) (x : What) → epoch_of n ≡ e → item w l n b ≡ Some x → settled c w l n b ≡ true

-- the plan is the closing one, or it is ready and the epoch is open
abbrev pub Stands : Config → World → ℕ → ℕ → ℕ → Type 0
Stands c w l e b = ((y : Summary) × Closed w l e y × (y.ballot ≡ b)) ⊎ (IsOpen w l e × Ready c w l e b)

pub record Follows (w : World) (l e b g : ℕ) (d f : List Told) : Type 0 where
  pub items : (n : ℕ) → n < plan_end e d → plan_from e d < n → plan_from e f < n → item w l (numbered e n) g ≡ item w l (numbered e n) b
  pub end : plan_end e d ≤ plan_end e f

-- what stands is held by each plan of a greater ballot
abbrev pub StandsOn : Config → World → Type 0
StandsOn c w = (l e b g : ℕ) (d f : Made) → HasPlan w l e b d → HasPlan w l e g f → d.loss ≡ false → f.loss ≡ false → e < b → b < g → Stands c w l e b →
    Follows w l e b g d.digest f.digest

-- a loss plan was made where as many nodes of the epoch as it has copies had nothing to tell
abbrev pub LossesWereGone : Config → World → Type 0
LossesWereGone c w = (l e b : ℕ) (m : Made) → HasPlan w l e b m → m.loss ≡ true → (fixed_of c w.state.register l e).r ≤ how_many (λ y. is_in y m.gone) (fixed_at c w.state.register l e)

-- a plan of a greater ballot than a loss plan is one too
abbrev pub LossesLast : World → Type 0
LossesLast w = (l e b g : ℕ) (d f : Made) → HasPlan w l e b d → HasPlan w l e g f → d.loss ≡ true → b < g → f.loss ≡ true

-- between what it doesn't vouch for and its end a loss plan says the record of the best statement, and where that is none, a plug
abbrev pub LossesSay : World → Type 0
LossesSay w = (l e b k : ℕ) (m : Made) → HasPlan w l e b m → m.loss ≡ true → e < b → plan_from e m.digest < k → k < plan_end e m.digest → item w l (numbered e k) b ≡ Some (content true (best (numbered e k) m.digest))

-- ---- copies ----

-- the number has this record or hole there, with at least this ballot
abbrev pub HoldsItem : Plain → ℕ → ℕ → ℕ → What → Type 0
HoldsItem p l n b x = (f : Entry) × (find n (log_of p l).entries ≡ Some f) × (b ≤ f.ballot) × (f.what ≡ x)

-- where a copy may be: the node is blank or lost for the epoch, or trimmed at the number, or it has what the ballot says
abbrev pub CopyAt : World → ℕ → ℕ → ℕ → ℕ → Type 0
CopyAt w l n b y = (p : Plain) → MayHold (node_at w.state y) p →
    (p.generation ≡ 0) ⊎ ((is_lost (log_of p l) (epoch_of n) ≡ true) ⊎ ((n ≤ (log_of p l).trim) ⊎ ((x : What) × (item w l n b ≡ Some x) × HoldsItem p l n b x)))

-- the nodes that stored the append of the number, or took a place in its epoch, are as many as the log has copies, and each has its copy
pub record AppendsOf (c : Config) (w : World) (l n : ℕ) : Type 0 where
  pub enough : vouched c w l n ≡ true
  pub kept : (y : ℕ) → has_append w l n y ≡ true → CopyAt w l n (epoch_of n) y

-- the nodes that settled the number for the ballot, or took a place in its epoch, are as many as the log has copies, and each has its copy
pub record CopiesOf (c : Config) (w : World) (l n b : ℕ) : Type 0 where
  pub enough : upheld c w l n b ≡ true
  pub kept : (y : ℕ) → has_settled w l n b y ≡ true → CopyAt w l n b y

-- where an epoch was closed short: as many of its nodes as there are copies, whether or not they settled the number
pub record ShortCopies (c : Config) (w : World) (l n b : ℕ) : Type 0 where
  pub nodes : List ℕ
  pub apart : IsDistinct ◌==◌ nodes
  pub of_epoch : (y : ℕ) → In y nodes → is_in y (set_at c w.state.register l (epoch_of n)) ≡ true
  pub enough : (spec_of c w.state.register l (epoch_of n)).r ≤ length nodes
  pub kept : (y : ℕ) → In y nodes → CopyAt w l n b y

-- some plan of the epoch says what is lost
abbrev pub HasLoss : World → ℕ → ℕ → Type 0
HasLoss w l e = (b : ℕ) × (m : Made) × HasPlan w l e b m × (m.loss ≡ true)

pub record Copies (c : Config) (hs : List Happened) (w : World) : Type 0 where
  -- an acknowledged number of an open epoch was stored by as many nodes as the log has copies
  pub acked : (l n : ℕ) → IsOpen w l (epoch_of n) → Acked hs l n → chosen c w l n (epoch_of n) ≡ true
  pub open_epochs : (l n y : ℕ) → IsOpen w l (epoch_of n) → Acked hs l n → Stored w l y n (epoch_of n) → CopyAt w l n (epoch_of n) y
  -- where each number of the closing plan was settled, as it was unless the epoch was closed short, each of a closed epoch is where it was settled
  pub closed_epochs : (l e k : ℕ) (s : Summary) → Closed w l e s → Ready c w l e s.ballot → s.trim < numbered e k → s.lng < k → k < s.end → CopiesOf c w l (numbered e k) s.ballot ⊎ HasLoss w l e
  -- else some nodes have it, or have it no more
  pub closed_short : (l e k : ℕ) (s : Summary) → Closed w l e s → s.trim < numbered e k → s.lng < k → k < s.end → ShortCopies c w l (numbered e k) s.ballot ⊎ HasLoss w l e
  -- what was known good as the epoch was closed is where its append was stored
  pub known_good : (l e k : ℕ) (s : Summary) → Closed w l e s → s.trim < numbered e k → 0 < k → k ≤ s.lng → AppendsOf c w l (numbered e k) ⊎ HasLoss w l e

-- ---- lost once ----

pub record LostOnce (hs : List Happened) (w : World) : Type 0 where
  -- a node that isn't lost has each number above its trim of the clean epochs that were lost
  pub full : AtNodes w (λ y p. (l : ℕ) → (log_of p l).lost ≡ false → missing (log_of p l) ≡ [])
  -- a node that was rebuilt isn't lost again before it is wiped
  pub stays : (n l j : ℕ) → Writes hs j (lines.NodeRebuilt n l) → ((k : ℕ) → Writes hs k (lines.NodeWiped n) → k < j) →
      (p : Plain) → MayHold (node_at w.state n) p → (log_of p l).lost ≡ false
  -- and isn't rebuilt twice
  pub once : (n l i j : ℕ) → Writes hs i (lines.NodeRebuilt n l) → Writes hs j (lines.NodeRebuilt n l) → i < j → (k : ℕ) × (i < k) × (k < j) × Writes hs k (lines.NodeWiped n)

pub record Invariant (c : Config) (hs : List Happened) (w : World) : Type 0 where
  pub sequencers : SequencersDrawn w
  pub generations : GenerationsDrawn hs w
  pub ballots : BallotsDrawn w
  pub summaries : SummariesAgree w
  pub trims : TrimsIssued hs w
  pub open_trims : OpenTrims hs w
  pub released : ReleasesAcked hs w
  pub held : HeldWasSent w
  pub one_plan : OnePlan w
  pub entries : EntriesAreItems hs w
  pub retains : Retains w
  pub seals : SealsHold w
  pub agrees : Agrees c w
  pub stands : StandsOn c w
  pub losses : LossesWereGone c w
  pub losses_last : LossesLast w
  pub losses_say : LossesSay w
  pub copies : Copies c hs w
  pub lost_once : LostOnce hs w
