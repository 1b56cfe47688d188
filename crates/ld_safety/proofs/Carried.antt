-- Entries, trims, summaries, last known good offsets and released numbers wherever a state carries them: at nodes, in messages, in digests and plans, at readers, in the register.
use Rattle.std.proofs.Common.{◌≡◌, ℕ, ◌<◌, ◌≤◌, Bool, true, false, List, Option, Some, None, subst}
use Rattle.ld_op.specs.Handles.{ballot_of}
use Rattle.ld_table.specs.Table.{find}
use Rattle.ld_lsn.specs.Number.{epoch_of, esn_of, home_epoch, home_esn, numbered, last_esn}
use Rattle.ld_msg.specs.declared.msg.What.{What}
use Rattle.ld_msg.specs.declared.msg.What.TheVariants.{Rec}
use Rattle.ld_msg.specs.declared.msg.Entry.{Entry}
use Rattle.ld_msg.specs.declared.msg.Summary.{Summary}
use Rattle.ld_msg.specs.declared.msg.Who.{Who}
use Rattle.ld_msg.specs.declared.msg.Who.TheVariants as whos
use Rattle.ld_msg.specs.declared.msg.Msg.{Msg}
use Rattle.ld_msg.specs.declared.msg.Body.{Body}
use Rattle.ld_msg.specs.declared.msg.Body.TheVariants as bodies
use Rattle.ld_msg.specs.Digest.{Told}
use Rattle.ld_msg.specs.Register.{Register, epochs_of}
use Rattle.ld_msg.specs.Sequencer.{Sequencer, Append, Recovery, Stage, Seals, Stores, Closes, Planned}
use Rattle.ld_msg.specs.Reading.{Held}
use Rattle.ld_msg.specs.Reader.{Reader}
use Rattle.ld_op.specs.Plain.{Plain, Log, log_of, epoch_zero}
use Rattle.ld_machine.specs.World.{In}
use Rattle.ld_machine.specs.Invariant.{is_withheld}
use Rattle.ld_safety.proofs.Withheld.{told_in, Whole}

-- pages for nodes hold all that they say
abbrev pub WholeTo : Who → Body → Type 0
WholeTo (whos.Node n) (bodies.ReadPage round from upto clean es) = Whole es
WholeTo _ _ = Unit {0}

pub message_whole : (m : Msg) (n round from upto : ℕ) (es : List Entry) → m.to ≡ whos.Node n → m.body ≡ bodies.ReadPage round from upto true es → WholeTo m.to m.body → Whole es
message_whole m n round from upto es t b h = subst (WholeTo (whos.Node n)) b (subst (λ w. WholeTo w m.body) t h)

-- what ballot b says of a number of a log; what is a trim of a log; how an epoch of a log is closed; which epochs were handed out; what a page, clean or not, may show; what may be released; what may be kept or read of a number, beside what a ballot says; what is a last known good offset of an epoch
module _ (E : ℕ → ℕ → ℕ → What → Type 0) (T : ℕ → ℕ → Type 0) (Y : ℕ → ℕ → Summary → Type 0) (O : ℕ → ℕ → Type 0) (V : ℕ → Bool → Entry → Type 0) (W : ℕ → ℕ → Type 0) (R : ℕ → ℕ → ℕ → What → Type 0) (G : ℕ → ℕ → ℕ → Type 0) where
  abbrev pub EntryOk : ℕ → Entry → Type 0
  EntryOk l e = E l e.ballot e.number e.what

  abbrev pub EntriesOk : ℕ → List Entry → Type 0
  EntriesOk l es = (e : Entry) → In e es → EntryOk l e

  -- an entry that is kept or read may have been refilled
  abbrev pub KeptOk : ℕ → Entry → Type 0
  KeptOk l e = R l e.ballot e.number e.what

  abbrev pub AllKeptOk : ℕ → List Entry → Type 0
  AllKeptOk l es = (e : Entry) → In e es → KeptOk l e

  -- entries that a page, clean or not, may show
  abbrev pub ShownOk : ℕ → Bool → List Entry → Type 0
  ShownOk l clean es = (e : Entry) → In e es → V l clean e

  abbrev pub TableOk : ℕ → List (ℕ × Entry) → Type 0
  TableOk l m = (p : ℕ × Entry) → In p m → (p.1.number ≡ p.0) × KeptOk l p.1

  pub record LogOk (l : ℕ) (g : Log) : Type 0 where
    pub entries : TableOk l g.entries
    pub trim : T l g.trim
    pub summaries : (p : ℕ × Summary) → In p g.summaries → Y l p.0 p.1
    pub goods : (p : ℕ × ℕ) → In p g.lngs → G l p.0 p.1
    -- where the epoch isn't clean, nothing was refilled
    pub unclean : (p : ℕ × Entry) → In p g.entries → find (epoch_of p.1.number) g.summaries ≡ None → EntryOk l p.1

  abbrev pub PlainOk : Plain → Type 0
  PlainOk p = (l : ℕ) → LogOk l (log_of p l)

  -- a page of a digest, from a number of an epoch up to another one of it
  pub record PageOk (l from upto t lng : ℕ) (es : List Entry) : Type 0 where
    pub entries : EntriesOk l es
    pub trim : T l t
    pub good : G l (epoch_of from) lng
    pub place : 0 < esn_of from
    pub reached : O l (epoch_of from)
    pub upto_place : 0 < esn_of upto
    pub same_epoch : epoch_of upto ≡ epoch_of from

  -- an end of an epoch that is told to a reader which asked past it
  pub record EndedOk (l from end : ℕ) (loss : Bool) : Type 0 where
    pub summary : Summary
    pub closed : Y l (home_epoch from) summary
    pub past : summary.end ≤ home_esn from
    pub is : end ≡ numbered (home_epoch from) summary.end
    pub lossy : loss ≡ summary.loss

  -- pages come from nodes
  abbrev pub NodeWho : Who → Type 0
  NodeWho (whos.Node y) = Unit {0}
  NodeWho _ = ⊥

  -- asks for one copy come from readers
  abbrev pub ReaderWho : Who → Type 0
  ReaderWho (whos.Reader r) = Unit {0}
  ReaderWho _ = ⊥

  abbrev pub BodyOk : ℕ → Who → Body → Type 0
  BodyOk l from (bodies.Store n lng w) = E l (ballot_of from) n w × G l (epoch_of n) lng
  BodyOk l from (bodies.Stored n) = O l (epoch_of n)
  BodyOk l from (bodies.CleanHere n y) = (0 < esn_of n) × Y l (epoch_of n) y
  BodyOk l from (bodies.TrimmedHere n t) = T l t × O l (epoch_of n)
  BodyOk l from (bodies.DigestAsk n) = (0 < esn_of n) × O l (epoch_of n)
  BodyOk l from (bodies.DigestPage n upto t lng es) = PageOk l n upto t lng es × NodeWho from
  BodyOk l from (bodies.Clean e y) = Y l e y
  BodyOk l from (bodies.Trim t) = T l t
  BodyOk l from (bodies.Release r) = W l r
  BodyOk l from (bodies.ReadPage round n upto clean es) = (AllKeptOk l (told_in es) × ShownOk l clean (told_in es)) × NodeWho from
  BodyOk l from (bodies.ReadEnded round n end loss) = EndedOk l n end loss
  BodyOk l from (bodies.ReadTrim round n t) = T l t
  BodyOk l from (bodies.ReadWait round n r) = W l r
  BodyOk l from (bodies.ReadOne round n set excluded) = ReaderWho from
  BodyOk l from _ = Unit {0}

  abbrev pub MsgOk : Msg → Type 0
  MsgOk m = BodyOk m.log m.from m.body × WholeTo m.to m.body

  -- what one node has told of an epoch
  pub record ToldOk (l e : ℕ) (t : Told) : Type 0 where
    pub entries : EntriesOk l t.entries
    pub trim : T l t.trim
    pub good : G l e t.lng
    pub asks : t.whole ≡ false → (0 < esn_of t.asked) × (epoch_of t.asked ≡ e)

  abbrev pub StageOk : ℕ → ℕ → ℕ → Stage → Type 0
  StageOk l b e (Seals d) = (t : Told) → In t d → ToldOk l e t
  StageOk l b e (Stores g) = (T l g.trim × G l e g.lng × ((i : ℕ × Planned) → In i g.items → epoch_of i.0 ≡ e)) × ((i : ℕ × Planned) → In i g.items → E l b i.0 i.1.what)
  StageOk l b e (Closes y short) = T l y.trim × G l e y.lng

  abbrev pub RecoveryOk : ℕ → ℕ → Option Recovery → Type 0
  RecoveryOk l b None = Unit {0}
  RecoveryOk l b (Some v) = ((0 < v.epoch) × (v.epoch < b) × O l v.epoch) × StageOk l b v.epoch v.stage

  abbrev pub AppendsOk : ℕ → ℕ → List (ℕ × Append) → Type 0
  AppendsOk l b m = (p : ℕ × Append) → In p m → E l b p.0 (Rec p.1.payload)

  pub record SequencerOk (s : List ℕ) (q : Sequencer) : Type 0 where
    pub appends : AppendsOk q.log q.epoch q.appends
    pub recovery : RecoveryOk q.log q.epoch q.recovery

  -- a reply to a sequencer
  abbrev pub ReplyOk : ℕ → Body → Type 0
  ReplyOk l (bodies.CleanHere n y) = (0 < esn_of n) × Y l (epoch_of n) y
  ReplyOk l (bodies.DigestPage n upto t lng es) = PageOk l n upto t lng es
  ReplyOk l _ = Unit {0}

  pub reply_of : (l : ℕ) (from : Who) (b : Body) → BodyOk l from b → ReplyOk l b
  reply_of l from (bodies.CleanHere n y) h = h
  reply_of l from (bodies.DigestPage n upto t lng es) h = h.0
  reply_of l from _ h = tt

  -- an answer that a reader holds
  abbrev pub HeldOk : ℕ → Body → Type 0
  HeldOk l (bodies.ReadPage round n upto clean es) = AllKeptOk l (told_in es) × ShownOk l clean (told_in es)
  HeldOk l (bodies.ReadEnded round n end loss) = EndedOk l n end loss
  HeldOk l (bodies.ReadTrim round n t) = T l t
  HeldOk l _ = Unit {0}

  pub held_of : (l : ℕ) (from : Who) (b : Body) → BodyOk l from b → HeldOk l b
  held_of l from (bodies.ReadPage round n upto clean es) h = h.0
  held_of l from (bodies.ReadEnded round n end loss) h = h
  held_of l from (bodies.ReadTrim round n t) h = h
  held_of l from _ h = tt

  abbrev pub ReaderOk : List ℕ → Reader → Type 0
  ReaderOk s d = (h : ℕ × Held) → In h d.held → HeldOk d.log h.1.body

  abbrev pub RegisterOk : Register → Type 0
  RegisterOk r = (l e : ℕ) (y : Summary) → find e (epochs_of r l).summaries ≡ Some y → Y l e y

  -- what is asked of these
  pub record Sound : Type 0 where
    pub zero_trim : (l : ℕ) → T l 0
    pub place : (l b n : ℕ) (w : What) → E l b n w → 0 < esn_of n
    pub reached : (l b n : ℕ) (w : What) → E l b n w → O l (epoch_of n)
    pub closing_trim : (l e : ℕ) (y : Summary) → Y l e y → T l y.trim
    pub zero_closed : (l : ℕ) → Y l 0 epoch_zero
    pub zero_released : (l : ℕ) → W l 0
    pub kept : (l b n : ℕ) (w : What) → E l b n w → R l b n w
    pub zero_good : (l e : ℕ) → G l e 0
    pub good_below : (l e g : ℕ) → G l e g → g < last_esn
    pub whole : (l b n : ℕ) (w : What) → R l b n w → is_withheld w ≡ false
