-- What is carried stays so where entries, trims, summaries and last known good offsets mean less.
use Rattle.std.proofs.Common.{Bool, ℕ, Option, Some, None}
use Rattle.ld_msg.specs.declared.msg.Entry.{Entry}
use Rattle.ld_msg.specs.declared.msg.What.{What}
use Rattle.ld_msg.specs.declared.msg.What.TheVariants.{Rec}
use Rattle.ld_msg.specs.declared.msg.Summary.{Summary}
use Rattle.ld_msg.specs.declared.msg.Who.{Who}
use Rattle.ld_msg.specs.declared.msg.Who.TheVariants as whos
use Rattle.ld_msg.specs.declared.msg.Body.{Body}
use Rattle.ld_msg.specs.declared.msg.Body.TheVariants as bodies
use Rattle.ld_msg.specs.Sequencer.{Recovery, Stage, Seals, Stores, Closes}
use Rattle.ld_op.specs.Plain.{Log}
use Rattle.ld_machine.specs.State.{State}
use Rattle.ld_config.specs.declared.config.Config.{Config}
use Rattle.ld_safety.proofs.Carried as carried
use Rattle.ld_safety.proofs.CarriedSteps.{Carries}
use Rattle.ld_safety.proofs.Has as has
use Rattle.ld_machine.specs.Calm.{Move}

module _ (E : ℕ → ℕ → ℕ → What → Type 0) (T : ℕ → ℕ → Type 0) (Y : ℕ → ℕ → Summary → Type 0) (O : ℕ → ℕ → Type 0) (V : ℕ → Bool → Entry → Type 0) (W : ℕ → ℕ → Type 0) (R : ℕ → ℕ → ℕ → What → Type 0) (G : ℕ → ℕ → ℕ → Type 0) (E₂ : ℕ → ℕ → ℕ → What → Type 0) (T₂ : ℕ → ℕ → Type 0) (Y₂ : ℕ → ℕ → Summary → Type 0) (O₂ : ℕ → ℕ → Type 0) (V₂ : ℕ → Bool → Entry → Type 0) (W₂ : ℕ → ℕ → Type 0) (R₂ : ℕ → ℕ → ℕ → What → Type 0) (G₂ : ℕ → ℕ → ℕ → Type 0)
    (e : (l b n : ℕ) (w : What) → E l b n w → E₂ l b n w) (t : (l k : ℕ) → T l k → T₂ l k) (y : (l k : ℕ) (z : Summary) → Y l k z → Y₂ l k z) (o : (l k : ℕ) → O l k → O₂ l k) (v : (l : ℕ) (b : Bool) (x : Entry) → V l b x → V₂ l b x) (w : (l k : ℕ) → W l k → W₂ l k) (x : (l b n : ℕ) (w : What) → R l b n w → R₂ l b n w) (g : (l e k : ℕ) → G l e k → G₂ l e k) where
  log_grows : (l : ℕ) (g : Log) → carried.LogOk E T Y O V W R G l g → carried.LogOk E₂ T₂ Y₂ O₂ V₂ W₂ R₂ G₂ l g
  log_grows l k h = record { entries = λ p i. let z = h.entries p i in (z.0, x l _ _ _ z.1); trim = t l _ h.trim; summaries = λ p i. y l _ _ (h.summaries p i); goods = λ p i. g l _ _ (h.goods p i); unclean = λ p i f. e l _ _ _ (h.unclean p i f) }

  reader_who : (who : Who) → carried.ReaderWho E T Y O V W R G who → carried.ReaderWho E₂ T₂ Y₂ O₂ V₂ W₂ R₂ G₂ who
  reader_who (whos.Node n) h = h
  reader_who (whos.Sequencer b) h = h
  reader_who (whos.Reader r) h = tt

  body_grows : (l : ℕ) (w : Who) (b : Body) → carried.BodyOk E T Y O V W R G l w b → carried.BodyOk E₂ T₂ Y₂ O₂ V₂ W₂ R₂ G₂ l w b
  body_grows l from (bodies.Store n lng z) h = (e l _ n z h.0, g l _ lng h.1)
  body_grows l from (bodies.Stored n) h = o l _ h
  body_grows l from (bodies.CleanHere n z) h = (h.0, y l _ z h.1)
  body_grows l from (bodies.TrimmedHere n k) h = (t l k h.0, o l _ h.1)
  body_grows l from (bodies.DigestAsk n) h = (h.0, o l _ h.1)
  body_grows l from (bodies.DigestPage n upto k lng es) h = (record { entries = λ z i. e l _ _ _ (h.0.entries z i); trim = t l k h.0.trim; good = g l _ lng h.0.good; place = h.0.place; reached = o l _ h.0.reached; upto_place = h.0.upto_place; same_epoch = h.0.same_epoch }, h.1)
  body_grows l from (bodies.Clean k z) h = y l k z h
  body_grows l from (bodies.Trim k) h = t l k h
  body_grows l from (bodies.Release k) h = w l k h
  body_grows l from (bodies.ReadPage round n upto clean es) h = (((λ z i. x l _ _ _ (h.0.0 z i)), (λ z i. v l clean z (h.0.1 z i))), h.1)
  body_grows l from (bodies.ReadEnded round n end loss) h = record { summary = h.summary; closed = y l _ _ h.closed; past = h.past; is = h.is; lossy = h.lossy }
  body_grows l from (bodies.ReadTrim round n k) h = t l k h
  body_grows l from (bodies.ReadWait round n k) h = w l k h
  body_grows l from (bodies.ReadOne round n set excluded) h = reader_who from h
  body_grows l from _ h = tt

  held_grows : (l : ℕ) (b : Body) → carried.HeldOk E T Y O V W R G l b → carried.HeldOk E₂ T₂ Y₂ O₂ V₂ W₂ R₂ G₂ l b
  held_grows l (bodies.ReadPage round n upto clean es) h = ((λ z i. x l _ _ _ (h.0 z i)), (λ z i. v l clean z (h.1 z i)))
  held_grows l (bodies.ReadEnded round n end loss) h = record { summary = h.summary; closed = y l _ _ h.closed; past = h.past; is = h.is; lossy = h.lossy }
  held_grows l (bodies.ReadTrim round n k) h = t l k h
  held_grows l _ h = tt

  stage_grows : (l b k : ℕ) (g : Stage) → carried.StageOk E T Y O V W R G l b k g → carried.StageOk E₂ T₂ Y₂ O₂ V₂ W₂ R₂ G₂ l b k g
  stage_grows l b k (Seals d) h = λ u i. let o = h u i in record { entries = λ z j. e l _ _ _ (o.entries z j); trim = t l _ o.trim; good = g l k _ o.good; asks = o.asks }
  stage_grows l b k (Stores z) h = ((t l _ h.0.0, g l k _ h.0.1, h.0.2), λ i j. e l b _ _ (h.1 i j))
  stage_grows l b k (Closes z short) h = (t l _ h.0, g l k _ h.1)

  recovery_grows : (l b : ℕ) (o : Option Recovery) → carried.RecoveryOk E T Y O V W R G l b o → carried.RecoveryOk E₂ T₂ Y₂ O₂ V₂ W₂ R₂ G₂ l b o
  recovery_grows l b None h = tt
  recovery_grows l b (Some v) h = ((h.0.0, h.0.1, o l v.epoch h.0.2), stage_grows l b v.epoch v.stage h.1)

  pub carries_grow : (c : Config) (s : State) (q : Move) (u : State) → Carries c s q E T Y O V W R G u → Carries c s q E₂ T₂ Y₂ O₂ V₂ W₂ R₂ G₂ u
  carries_grow c s q u h = has.weaker _ _ _ _ _ _ (λ y p. carried.PlainOk E₂ T₂ Y₂ O₂ V₂ W₂ R₂ G₂ p) (λ y l r. W₂ l r) (carried.MsgOk E₂ T₂ Y₂ O₂ V₂ W₂ R₂ G₂) (carried.SequencerOk E₂ T₂ Y₂ O₂ V₂ W₂ R₂ G₂) (carried.ReaderOk E₂ T₂ Y₂ O₂ V₂ W₂ R₂ G₂) (carried.RegisterOk E₂ T₂ Y₂ O₂ V₂ W₂ R₂ G₂)
      (λ y p z l. log_grows l _ (z l)) (λ y l k z. w l k z) (λ m z. (body_grows m.log m.from m.body z.0, z.1)) (λ s q z. record { appends = λ p i. e q.log q.epoch p.0 (Rec p.1.payload) (z.appends p i); recovery = recovery_grows q.log q.epoch q.recovery z.recovery })
      (λ s d z k i. held_grows d.log k.1.body (z k i)) (λ r o l k z f. y l k z (o l k z f)) u h
