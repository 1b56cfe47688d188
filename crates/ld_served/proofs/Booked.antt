-- Each plan is of a sequencer that is there, dropped or not, and so is each summary's ballot.
use Rattle.std.proofs.Common.{◌≡◌, ◌<◌, ℕ, inl, inr, refl, sym, subst, Bool, true, List, [], ◌∷◌, ◌++◌, Some, arith}
use Rattle.ld_table.specs.Table.{find}
use Rattle.ld_table.specs.Named.{find_named}
use Rattle.ld_lsn.specs.Number.{epoch_of}
use Rattle.ld_config.specs.declared.config.Config.{Config}
use Rattle.ld_msg.specs.declared.msg.Summary.{Summary}
use Rattle.ld_msg.specs.declared.msg.Msg.{Msg}
use Rattle.ld_msg.specs.declared.msg.Body.{Body}
use Rattle.ld_msg.specs.declared.msg.Body.TheVariants as bodies
use Rattle.ld_msg.specs.Digest.{Told}
use Rattle.ld_msg.specs.Register.{Register, View, epochs_of}
use Rattle.ld_msg.specs.Sequencer.{Sequencer, Recovery, Acts}
use Rattle.ld_machine.specs.Config.{looks_at}
use Rattle.ld_machine.specs.State.{State}
use Rattle.ld_machine.specs.Facts.{Happened}
use Rattle.ld_machine.specs.World.{World, Made, In, made_by, made_on}
use Rattle.ld_machine.specs.Step as Step
use Rattle.ld_machine.specs.Calm.{Move, event_of, moved}
use Rattle.ld_safety.proofs.Lists.{In-append, only}
use Rattle.ld_safety.proofs.Traces.{Keeps, beside_kept}
use Rattle.ld_safety.proofs.Events.{Cases, NamesOnce, dispatch}
use Rattle.ld_safety.proofs.Base.{Base, base_kept, counts_of}
use Rattle.ld_safety.proofs.GivenSteps.{BaseGiven}
use Rattle.ld_safety.proofs.Along.{Along, BodySaidIn}
use Rattle.ld_safety.proofs.Settled.{CloseFine}
use Rattle.ld_safety.proofs.SequencerSteps.{Acting, Retrying, Closing, gone_of, plan_made, replied, retried, same_sender}
use Rattle.ld_served.proofs.Actors.{Here, here_stays}

abbrev pub AllBooked : List (List ℕ × Sequencer) → List Made → Type 0
AllBooked qs made = (m : Made) → In m made → Here qs m.log m.ballot

-- ---- one call ----
module _ (c : Config) (r : Register) (qs : List (List ℕ × Sequencer)) (name : List ℕ) (q : Sequencer) (f : find_named name qs ≡ Some q) where
  no_book : AllBooked qs []
  no_book m i = absurd i

  one_book : (v : Recovery) (loss : Bool) (d : List Told) (g : List ℕ) → AllBooked qs (plan_made q v loss d g ∷ [])
  one_book v loss d g m i = subst (λ (x : Made). Here qs x.log x.ballot) (sym (only m _ i)) (record { name = name; sequencer = q; named = f; log = refl; epoch = refl })

  close_books : (looks : ℕ → View) (a : Acts) (e : ℕ) (y : Summary) (short : Bool) → Closing r looks a e y short (λ k. AllBooked qs [])
  close_books looks a e y short = record { granted = λ n h o g. no_book; passed = λ h. no_book; behind = λ b h. no_book; overtaken = λ h o. no_book; failed = λ n g. no_book }

  acting_books : (gone : Recovery → List ℕ) (y : ℕ) (b : Body) → Acting c r gone q y b (λ k m. AllBooked qs m)
  acting_books gone y b = record {
    quiet = no_book;
    sealed = λ n k f i l. no_book;
    cleaned_own = λ n s f i h. no_book;
    acks = λ n p f i g h m. no_book;
    lost_own = λ n round g end f i h. no_book;
    cleaned = λ v n s f e i h. no_book;
    asks_more = λ w d asks f H a n u. no_book;
    plans = λ w d loss f H p. one_book w loss d (gone w);
    looks_closed = λ w d s f H u o. no_book;
    looks_later = λ w d f H u o n. no_book;
    stores_on = λ w g f H t. no_book;
    closes_now = λ w g f H t. close_books (looks_at c r q.log) _ w.epoch _ _;
    lost_closing = λ v s short n round g end f e i h j. no_book;
  }

  retrying_books : (gone : Recovery → List ℕ) → Retrying c r gone q (λ k m. AllBooked qs m)
  retrying_books gone = record {
    quiet = no_book;
    appends = λ f. no_book;
    seals = λ v d f e h u. no_book;
    plans = λ v d f e h p. one_book v true d (gone v);
    looks_closed = λ v d s f e h u o. no_book;
    looks_later = λ v d f e h u o n. no_book;
    stores_on = λ v g f e h t. no_book;
    closes_now = λ v g f e h t. close_books (looks_at c r q.log) _ v.epoch _ _;
    closes = λ v y short f e h. close_books (looks_at c r q.log) _ v.epoch y short;
  }

-- ---- every step ----
module _ (c : Config) (s : State) (e : Move) where
  nothing : AllBooked s.sequencers []
  nothing m i = absurd i

  book_cases : Cases c s e (λ d m. AllBooked s.sequencers m)
  book_cases = record {
    still = λ f older i. nothing;
    says = λ x q. nothing;
    node_hears = λ f older n m i t v o. nothing;
    loads = λ n ls q b o. nothing;
    draw_fails = λ n b. nothing;
    formats = λ n r g b v i. nothing;
    ticks = λ n l t v i o. nothing;
    stops = λ n b. nothing;
    wipes = λ n. nothing;
    faults = λ n f o. nothing;
    sets = λ l r x set g. nothing;
    swaps = λ n m l x r q i. nothing;
    arms = λ k done o. nothing;
    hears = λ f older name q m i t l v o. subst (λ p. AllBooked s.sequencers (made_by c s (Some (name, q)) p m.body)) (sym (same_sender m.from))
        (replied c s name q v.there (Step.sender_node m.from) m.body (λ k n. AllBooked s.sequencers n) (acting_books c s.register s.sequencers name q v.named (gone_of s q) (Step.sender_node m.from) m.body));
    retries = λ again name q v o. retried c s q v.there (λ k n. AllBooked s.sequencers n) (retrying_books c s.register s.sequencers name q v.named (gone_of s q));
    appends = λ name q p v a i. nothing;
    trims = λ name q t v b. nothing;
    drops = λ name q v o. nothing;
    activates = λ name l r g n i x. nothing;
    activate_fails = λ name l x g q. nothing;
    answers = λ f older name d m i t v o. nothing;
    polls = λ name d v o. nothing;
    opens = λ style name l from until o x. nothing;
  }

  pub booked_step : (made : List Made) → NamesOnce s → ((l b : ℕ) → Here s.sequencers l b → Here (moved c s e).state.sequencers l b) → AllBooked s.sequencers made → AllBooked (moved c s e).state.sequencers (made_on c s (event_of e) ++ made)
  booked_step made N on A m i = on m.log m.ballot (elim (In-append m (made_on c s (event_of e)) made i) [ inl a ↦ dispatch c s e (λ d x. AllBooked s.sequencers x) N book_cases m a | inr a ↦ A m a ])

-- in every run
pub booked_kept : (c : Config) → Keeps c (λ hs w. Base c hs w × AllBooked w.state.sequencers w.made)
booked_kept c = beside_kept c (Base c) (λ hs w. AllBooked w.state.sequencers w.made) (base_kept c) (λ m i. absurd i)
    (λ hs w e B n A. booked_step c w.state e w.made B.0.0 (here_stays c w.state e (λ name q f. (counts_of c hs w B name q f).row) B.0.0) A)

-- ---- summaries ----
module _ (c : Config) (hs : List Happened) (w : World) (A : AllBooked w.state.sequencers w.made) where
  closed_here : (l e : ℕ) (y : Summary) → 0 < e → CloseFine c hs w.made w.state.network.sent w.state.register l e y → Here w.state.sequencers l y.ballot
  closed_here l e y p h = elim h.1 [ inl z ↦ absurd (let u = z.0 in omega arith) | inr z ↦ A _ z.plan.planned ]

  -- of a closed epoch
  pub summary_here : BaseGiven c hs w × Along c hs w → (l e : ℕ) (y : Summary) → 0 < e → find e (epochs_of w.state.register l).summaries ≡ Some y → Here w.state.sequencers l y.ballot
  summary_here B l e y p f = closed_here l e y p (B.1.said.register l e y f)

  -- of one that a node tells
  pub answer_here : BaseGiven c hs w × Along c hs w → (m : Msg) → In m w.state.network.sent → (n : ℕ) (y : Summary) → m.body ≡ bodies.CleanHere n y → 0 < epoch_of n → Here w.state.sequencers m.log y.ballot
  answer_here B m i n y q p = let z : BodySaidIn c hs w m.log m.from (bodies.CleanHere n y) = subst (BodySaidIn c hs w m.log m.from) q (B.1.said.sent m i).0 in closed_here m.log (epoch_of n) y p z.1
