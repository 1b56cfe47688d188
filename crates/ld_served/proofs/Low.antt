-- Each trim anywhere, and each released number that a node knows or a message tells, is none, or at most what some sequencer of the log released.
use Rattle.std.proofs.Common.{◌≡◌, ◌⊎◌, ℕ, inl, inr, refl, sym, subst, Bool, List, [], ◌∷◌, ◌++◌, Some, arith}
use Rattle.ld_table.specs.Table.{find}
use Rattle.ld_table.specs.Named.{find_named}
use Rattle.ld_schedule.specs.declared.event.Event.TheVariants as events
use Rattle.ld_config.specs.declared.config.Config.{Config}
use Rattle.ld_msg.specs.declared.msg.Summary.{Summary}
use Rattle.ld_msg.specs.declared.msg.Msg.{Msg}
use Rattle.ld_msg.specs.declared.msg.Body.{Body}
use Rattle.ld_msg.specs.declared.msg.Body.TheVariants as bodies
use Rattle.ld_msg.specs.Register.{epochs_of}
use Rattle.ld_msg.specs.Sequencer.{Sequencer, Recovery, Stage, Stores, Closes, released_of}
use Rattle.ld_op.specs.Plain.{log_of}
use Rattle.ld_machine.specs.State.{State, start, finish, node_at}
use Rattle.ld_machine.specs.Facts.{Happened}
use Rattle.ld_machine.specs.World.{World, In}
use Rattle.ld_machine.specs.Run.{after_step}
use Rattle.ld_machine.specs.Invariant.{trims_in, released_in}
use Rattle.ld_machine.specs.Step as Step
use Rattle.ld_machine.specs.Calm.{Move, Takes, moves}
use Rattle.ld_safety.proofs.Lists.{not_none, only}
use Rattle.ld_safety.proofs.Traces.{Keeps, step_happened, beside_kept}
use Rattle.ld_safety.proofs.Events.{Live}
use Rattle.ld_safety.proofs.Base.{counts_of}
use Rattle.ld_safety.proofs.Appends.{own_epoch}
use Rattle.ld_safety.proofs.Given.{AnyEpoch, AnyShown, SmallGood, GivenEntry, entry_grows, plan_given, plan_epoch}
use Rattle.ld_safety.proofs.GivenSteps.{BaseGiven, append_given}
use Rattle.ld_safety.proofs.Along.{Along}
use Rattle.ld_safety.proofs.AlongSteps.{along_kept, acks_now, follow, stays}
use Rattle.ld_safety.proofs.SequencerSteps.{Ending, OfStored, ended_by}
use Rattle.ld_safety.proofs.Closings.{summaries_after}
use Rattle.ld_safety.proofs.CarriedSteps.{Carries, Sources, HeardOf, carried_on}
use Rattle.ld_safety.proofs.CarriedGrows.{carries_grow}
use Rattle.ld_safety.proofs.Withheld.{told_in, told_entry}
use Rattle.ld_safety.proofs.Carried.{message_whole}
use Rattle.ld_safety.proofs.Carried as carried
use Rattle.ld_safety.proofs.CarriedNodes as nodes
use Rattle.ld_safety.proofs.CarriedSequencers as sequencers
use Rattle.ld_safety.proofs.Has as has
use Rattle.ld_served.proofs.Rises.{Low, low_stays}

abbrev pub LowSummary : List (List ℕ × Sequencer) → ℕ → ℕ → Summary → Type 0
LowSummary qs l e y = Low qs l y.trim

-- trims and released numbers are so low, wherever a state carries them
abbrev pub AllLow : Config → List Happened → List (List ℕ × Sequencer) → State → Type 0
AllLow c hs qs s = Carries c s (Takes (events.Flow 0)) (GivenEntry hs) (Low qs) (LowSummary qs) AnyEpoch AnyShown (Low qs) (GivenEntry hs) SmallGood s

low_sound : (hs : List Happened) (qs : List (List ℕ × Sequencer)) → carried.Sound (GivenEntry hs) (Low qs) (LowSummary qs) AnyEpoch AnyShown (Low qs) (GivenEntry hs) SmallGood
low_sound hs qs = record { zero_trim = λ l. inl refl; place = λ l b n w g. g.place.above; reached = λ l b n w g. tt; closing_trim = λ l e y h. h; zero_closed = λ l. inl refl; zero_released = λ l. inl refl; kept = λ l b n w g. g; zero_good = λ l e. omega arith; good_below = λ l e g h. h; whole = λ l b n w g. g.kept }

module _ (c : Config) (hs : List Happened) (w : World) (e : Move) (B : BaseGiven c hs w × Along c hs w) (G : AllLow c hs w.state.sequencers w.state) where
  abbrev next : List Happened
  next = hs ++ step_happened c w.state e ∷ []

  abbrev after : List (List ℕ × Sequencer)
  after = (moves c w.state e).state.sequencers

  low_on : (l t : ℕ) → Low w.state.sequencers l t → Low after l t
  low_on = low_stays c w.state e (λ t q f. (B.1.acks t q f).closed) B.1.next B.0.0.0.0

  now : Carries c w.state e (GivenEntry next) (Low after) (LowSummary after) AnyEpoch AnyShown (Low after) (GivenEntry next) SmallGood w.state
  now = carries_grow (GivenEntry hs) (Low w.state.sequencers) (LowSummary w.state.sequencers) AnyEpoch AnyShown (Low w.state.sequencers) (GivenEntry hs) SmallGood (GivenEntry next) (Low after) (LowSummary after) AnyEpoch AnyShown (Low after) (GivenEntry next) SmallGood (entry_grows hs w.state.register e (moves c w.state e)) low_on (λ l k y h. low_on l y.trim h) (λ l k h. tt) (λ l b x h. tt)
      low_on (entry_grows hs w.state.register e (moves c w.state e)) (λ l k g h. h) c w.state e w.state G

  -- the trim of a plan that is closed
  stage : (name : List ℕ) (q : Sequencer) → find_named name w.state.sequencers ≡ Some q → (v : Recovery) (g : Stage) → q.recovery ≡ Some v → v.stage ≡ g → carried.StageOk (GivenEntry next) (Low after) (LowSummary after) AnyEpoch AnyShown (Low after) (GivenEntry next) SmallGood q.log q.epoch v.epoch g
  stage name q n v g r f = subst (carried.StageOk (GivenEntry next) (Low after) (LowSummary after) AnyEpoch AnyShown (Low after) (GivenEntry next) SmallGood q.log q.epoch v.epoch) f (subst (carried.RecoveryOk (GivenEntry next) (Low after) (LowSummary after) AnyEpoch AnyShown (Low after) (GivenEntry next) SmallGood q.log q.epoch) r (now.sequencers name q n).recovery).1

  closes_low : (name : List ℕ) (q : Sequencer) (v : Recovery) (y : Summary) (short : Bool) → Live w.state name q → q.recovery ≡ Some v → Ending q (HeardOf w.state q) v y short → LowSummary after q.log v.epoch y
  closes_low name q v y short l r g = by_end (ended_by q (HeardOf w.state q) v y short g) where
    by_end : (v.stage ≡ Closes y short) ⊎ OfStored q v y → Low after q.log y.trim
    by_end (inl k) = (stage name q l.named v (Closes y short) r k).0
    by_end (inr k) = subst (Low after q.log) (sym k.trim) (stage name q l.named v (Stores k.storing) r k.stage).0.0

  released_now : (name : List ℕ) (q p : Sequencer) → Live w.state name q → find_named name after ≡ Some p → Low after q.log (released_of p)
  released_now name q p v f = inr (record { name = name; sequencer = p; named = f; log = (acks_now c hs w e B.0.0 B.0.1 B.1 refl (follow c hs w e B.0.0 B.0.1 B.1).0 (stays c hs w e B.0.0 B.0.1 B.1) name p f).1 q v.named; most = omega arith })

  low_sources : Sources c w.state e (GivenEntry next) (Low after) (LowSummary after) AnyEpoch AnyShown (Low after) (GivenEntry next) SmallGood
  low_sources = record {
    sound = low_sound next after;
    before = now;
    apart = B.0.0.1.1;
    epochs = λ name q f k u v. tt;
    new_epochs = λ l r i k u v. tt;
    register = summaries_after c w.state e (LowSummary after) now.register (λ name q v y short l r h k o. closes_low name q v y short l r h) B.0.0.0.0;
    append = append_given c hs w e B.0.0 B.0.1;
    trim = λ name q point v b x. low_on q.log point (inr (record { name = name; sequencer = q; named = v.named; log = refl; most = b }));
    planned = λ name q v d loss gone l r D m i j. let low = sequencers.digest_good (GivenEntry next) (Low after) (LowSummary after) AnyEpoch AnyShown (Low after) (GivenEntry next) SmallGood (low_sound next after) q.log v.epoch _ D in (plan_given next q.log q.epoch v.epoch d (λ z o x k. (D z o).entries x k) low loss i j, plan_epoch next q.log q.epoch v.epoch d (λ z o x k. (D z o).entries x k) low loss i j);
    closed = λ name q v y short l r d k g. closes_low name q v y short l r d;
    refill = λ n m round from upto es i t v b u x j k. let z : carried.BodyOk (GivenEntry next) (Low after) (LowSummary after) AnyEpoch AnyShown (Low after) (GivenEntry next) SmallGood m.log m.from m.body = (now.sent m i).0 in
        let y : carried.AllKeptOk (GivenEntry next) (Low after) (LowSummary after) AnyEpoch AnyShown (Low after) (GivenEntry next) SmallGood m.log (told_in es) = (subst (carried.BodyOk (GivenEntry next) (Low after) (LowSummary after) AnyEpoch AnyShown (Low after) (GivenEntry next) SmallGood m.log m.from) b z).0.0 in
        let o = y x (told_entry x es j (message_whole m n round from upto es t b (now.sent m i).1 x j)) in record { place = o.place; appended = o.appended; kept = o.kept };
    shows = λ n l v. record { clean = λ f z k x a h b t i u o n. tt; open_still = λ f k x t i u o. tt };
    good = λ name q f. (let u = (counts_of c hs w B.0.0 name q f).small in omega arith);
    own = λ name q f. let u = counts_of c hs w B.0.0 name q f in own_epoch q u.row u.small;
    small = λ name q f. (counts_of c hs w B.0.0 name q f).small;
    released = released_now;
  }

  low_step : AllLow c next (after_step c w e).state.sequencers (after_step c w e).state
  unfolding finish
  low_step = carried_on c w.state e (GivenEntry next) (Low after) (LowSummary after) AnyEpoch AnyShown (Low after) (GivenEntry next) SmallGood B.0.0.0.0 low_sources

start_low : (c : Config) → AllLow c [] [] (start c)
unfolding find
start_low c = has.start_has _ _ _ _ _ _ (λ y l. inl refl) c (λ y. nodes.blank_ok (GivenEntry []) (Low []) (LowSummary []) AnyEpoch AnyShown (Low []) (GivenEntry []) SmallGood (low_sound [] [])) (λ l e y h. absurd (not_none h))

abbrev pub Lowering : Config → List Happened → World → Type 0
Lowering c hs w = (BaseGiven c hs w × Along c hs w) × AllLow c hs w.state.sequencers w.state

-- in every run
pub low_kept : (c : Config) → Keeps c (Lowering c)
low_kept c = beside_kept c (λ hs w. BaseGiven c hs w × Along c hs w) (λ hs w. AllLow c hs w.state.sequencers w.state) (along_kept c) (start_low c) (λ hs w e B C G. low_step c hs w e B G)

-- ---- in short ----
module _ (c : Config) (hs : List Happened) (w : World) (K : AllLow c hs w.state.sequencers w.state) where
  -- at a node
  pub trim_low : (y l : ℕ) → Low w.state.sequencers l (log_of (node_at w.state y).plain l).trim
  trim_low y l = ((K.nodes y).plain l).trim

  pub released_low : (y l : ℕ) → Low w.state.sequencers l (Step.released_at (node_at w.state y) l)
  released_low y l = (K.nodes y).released l

  -- of a closed epoch
  pub closed_low : (l e : ℕ) (y : Summary) → find e (epochs_of w.state.register l).summaries ≡ Some y → Low w.state.sequencers l y.trim
  closed_low l e y f = K.register l e y f

  -- in a message
  pub told_trim_low : (m : Msg) → In m w.state.network.sent → (b : Body) → m.body ≡ b → (t : ℕ) → In t (trims_in b) → Low w.state.sequencers m.log t
  told_trim_low m i b q t j = by_body b (subst (carried.BodyOk (GivenEntry hs) (Low w.state.sequencers) (LowSummary w.state.sequencers) AnyEpoch AnyShown (Low w.state.sequencers) (GivenEntry hs) SmallGood m.log m.from) q (K.sent m i).0) j where
    by_body : (b : Body) → carried.BodyOk (GivenEntry hs) (Low w.state.sequencers) (LowSummary w.state.sequencers) AnyEpoch AnyShown (Low w.state.sequencers) (GivenEntry hs) SmallGood m.log m.from b → In t (trims_in b) → Low w.state.sequencers m.log t
    by_body (bodies.CleanHere n y) h i = subst (Low w.state.sequencers m.log) (sym (only t y.trim i)) h.1
    by_body (bodies.Clean e y) h i = subst (Low w.state.sequencers m.log) (sym (only t y.trim i)) h
    by_body (bodies.TrimmedHere n k) h i = subst (Low w.state.sequencers m.log) (sym (only t k i)) h.0
    by_body (bodies.DigestPage n upto k lng es) h i = subst (Low w.state.sequencers m.log) (sym (only t k i)) h.0.trim
    by_body (bodies.Trim k) h i = subst (Low w.state.sequencers m.log) (sym (only t k i)) h
    by_body (bodies.ReadTrim round n k) h i = subst (Low w.state.sequencers m.log) (sym (only t k i)) h
    by_body _ h i = absurd i

  pub told_released_low : (m : Msg) → In m w.state.network.sent → (b : Body) → m.body ≡ b → (r : ℕ) → In r (released_in b) → Low w.state.sequencers m.log r
  told_released_low m i b q r j = by_body b (subst (carried.BodyOk (GivenEntry hs) (Low w.state.sequencers) (LowSummary w.state.sequencers) AnyEpoch AnyShown (Low w.state.sequencers) (GivenEntry hs) SmallGood m.log m.from) q (K.sent m i).0) j where
    by_body : (b : Body) → carried.BodyOk (GivenEntry hs) (Low w.state.sequencers) (LowSummary w.state.sequencers) AnyEpoch AnyShown (Low w.state.sequencers) (GivenEntry hs) SmallGood m.log m.from b → In r (released_in b) → Low w.state.sequencers m.log r
    by_body (bodies.Release k) h i = subst (Low w.state.sequencers m.log) (sym (only r k i)) h
    by_body (bodies.ReadWait round n k) h i = subst (Low w.state.sequencers m.log) (sym (only r k i)) h
    by_body _ h i = absurd i
