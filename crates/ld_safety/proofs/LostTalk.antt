-- What each event sends and which readers it leaves: whoever speaks of messages and readers answers these few cases.
use Rattle.std.proofs.Common.{false, Bool, ◌≡◌, ◌∙◌, ◌⊎◌, ℕ, inl, inr, refl, ap, sym, subst, cond, List, [], ◌∷◌, length, Option, Some, None}
use Rattle.ld_table.specs.Named.{put_named}
use Rattle.ld_config.specs.declared.config.Config.{Config}
use Rattle.ld_msg.specs.declared.msg.Who.{Who}
use Rattle.ld_msg.specs.declared.msg.Who.TheVariants as whos
use Rattle.ld_msg.specs.declared.msg.Msg.{Msg}
use Rattle.ld_msg.specs.declared.msg.Body.{Body}
use Rattle.ld_op.specs.declared.op.Op.{Op}
use Rattle.ld_op.specs.declared.op.Op.TheVariants as ops
use Rattle.ld_op.specs.Handles.{answer_message}
use Rattle.ld_op.specs.Ticks.{Ticked, Cleans, Rebuilt, Asks, Nothing}
use Rattle.ld_machine.specs.Config.{looks_at}
use Rattle.ld_msg.specs.Register.{epochs_of, epochs_in, generation_of}
use Rattle.ld_machine.specs.Disk.{Node, Kept, Written, keep_end}
use Rattle.ld_msg.specs.Sequencer.{Called, Sequencer}
use Rattle.ld_msg.specs.Reader.{Reader, opened, polled, on_answer, poll_asks}
use Rattle.ld_machine.specs.State.{State, Done, finish, node_at, with_node, with_register, posted}
use Rattle.ld_machine.specs.World.{In}
use Rattle.ld_machine.specs.Step as Step
use Rattle.ld_safety.proofs.Steps.{sent_by, sent_before}
use Rattle.ld_safety.proofs.Events.{reply_call, retry_call, announced, NamesOnce, Cases, dispatch, Serves, Reading, Opens, refreshed, loaded}
use Rattle.ld_msg.specs.declared.style.Style.{Style}
use Rattle.ld_machine.specs.Calm as Calm
use Rattle.ld_machine.specs.Calm.{Move}

-- a message to a node that isn't from a reader
pub record Elsewhere (m : Msg) : Type 0 where
  pub node : ℕ
  pub to : m.to ≡ whos.Node node
  pub whose : (r : ℕ) → m.from ≡ whos.Reader r → ⊥

module _ (c : Config) (s : State) (e : Move) (Q : List Msg → List (List ℕ × Reader) → Type 0) where
  pub record TalkKeeps : Type 0 where
    pub quiet : Q [] s.readers
    pub elsewhere : (ms : List Msg) → ((m : Msg) → In m ms → Elsewhere m) → Q ms s.readers
    pub answers : (n : ℕ) (m : Msg) (x : Body) → In m s.network.sent → m.to ≡ whos.Node n → Serves c s n m.log → (Step.node_handles n (node_at s n) m).answer ≡ Some x → Q (record { from = whos.Node n; to = m.from; log = m.log; body = x } ∷ []) s.readers
    pub reads : (name : List ℕ) (d : Reader) (m : Msg) → In m s.network.sent → m.to ≡ whos.Reader d.number → Reading s name d →
        Q (posted (whos.Reader (on_answer (looks_at c s.register d.log) d (Step.sender_node m.from) m.body).reader.number) (on_answer (looks_at c s.register d.log) d (Step.sender_node m.from) m.body).reader.log (on_answer (looks_at c s.register d.log) d (Step.sender_node m.from) m.body).asks)
        (put_named name (on_answer (looks_at c s.register d.log) d (Step.sender_node m.from) m.body).reader s.readers)
    pub polls : (name : List ℕ) (d : Reader) → Reading s name d → Q (posted (whos.Reader d.number) d.log (poll_asks (looks_at c s.register d.log) d)) (put_named name (polled (looks_at c s.register d.log) d) s.readers)
    pub opens : (style : Style) (name : List ℕ) (l from until : ℕ) → Opens c s name l from until → Q [] (put_named name (opened style l (length s.readers) from until) s.readers)

  -- the messages of before are there still, and what is said of the new ones and of the readers
  pub record Talked (d : Done) : Type 0 where
    pub same : d.state.network.sent ≡ s.network.sent
    pub talk : Q d.sends d.state.readers

  module _ (K : TalkKeeps) where
    quietly : (d : Done) → d.state.network.sent ≡ s.network.sent → d.state.readers ≡ s.readers → d.sends ≡ [] → Talked d
    quietly d e f g = record { same = e; talk = subst (λ ms. Q ms d.state.readers) (sym g) (subst (Q []) (sym f) K.quiet) }

    posted_elsewhere : (who : Who) (l : ℕ) (bs : List (ℕ × Body)) → ((r : ℕ) → who ≡ whos.Reader r → ⊥) → (m : Msg) → In m (posted who l bs) → Elsewhere m
    posted_elsewhere who l [] h m i = absurd i
    posted_elsewhere who l (b ∷ bs) h m (inl e) = record { node = b.0; to = ap (λ (x : Msg). x.to) e; whose = λ r q. h r (sym (ap (λ (x : Msg). x.from) e) ∙ q) }
    posted_elsewhere who l (b ∷ bs) h m (inr i) = posted_elsewhere who l bs h m i

    abroad : (d : Done) → d.state.network.sent ≡ s.network.sent → d.state.readers ≡ s.readers → ((m : Msg) → In m d.sends → Elsewhere m) → Talked d
    abroad d e f g = record { same = e; talk = subst (Q d.sends) (sym f) (K.elsewhere d.sends g) }

    answer_talk : (n : ℕ) (m : Msg) (b : Option Body) → In m s.network.sent → m.to ≡ whos.Node n → Serves c s n m.log → (Step.node_handles n (node_at s n) m).answer ≡ b → Q (answer_message n m b) s.readers
    answer_talk n m None i t v h = K.quiet
    answer_talk n m (Some x) i t v h = K.answers n m x i t v h

    if_written : (k : Kept) (ms : List Msg) → Q ms s.readers → Q (cond (Step.is_written k) ms []) s.readers
    if_written Written ms h = h
    if_written _ ms h = K.quiet

    handled : (f : List ℕ) (x : Node) (n : ℕ) (m : Msg) (o : Option Op) (b : Option Body) → Q (answer_message n m b) s.readers → Talked (Step.handles (with_node (refreshed s f) n x) n m o b)
    handled f x n m None b h = record { same = refl; talk = h }
    handled f x n m (Some o) b h = record { same = refl; talk = if_written (keep_end (node_at (with_node (refreshed s f) n x) n) o) (answer_message n m b) h }

    no_messages : (k : Kept) → Q (cond (Step.is_written k) [] []) s.readers
    no_messages Written = K.quiet
    no_messages _ = K.quiet

    ticked : (n l : ℕ) (t : Ticked) → Talked (Step.ticks_as c s n l t)
    ticked n l (Cleans k y) = record { same = refl; talk = no_messages (keep_end (node_at s n) (ops.Clean l k y)) }
    ticked n l Rebuilt = record { same = refl; talk = no_messages (keep_end (node_at s n) (ops.Refilled l)) }
    ticked n l (Asks from) = abroad (Step.ticks_as c s n l (Asks from)) refl refl (posted_elsewhere (whos.Node n) l _ (λ r q. cc))
    ticked n l Nothing = record { same = refl; talk = K.quiet }

    acted : (again : Bool) (f : List ℕ) (name : List ℕ) (q : Sequencer) (call : Called) → Talked (Step.told (refreshed s f) name q (announced again call))
    acted again f name q call = abroad (Step.told (refreshed s f) name q (announced again call)) refl refl (posted_elsewhere (whos.Sequencer q.epoch) q.log _ (λ r z. cc))

    talk_cases : Cases c s e (λ d m. Talked d)
    talk_cases = record {
      still = λ f older i. quietly _ refl refl refl;
      says = λ x q. quietly _ refl refl refl;
      node_hears = λ f older n m i t v o. handled f (Step.releases (node_at s n) m.log m.body) n m (Step.node_handles n (node_at s n) m).op (Step.node_handles n (node_at s n) m).answer (answer_talk n m (Step.node_handles n (node_at s n) m).answer i t v refl);
      loads = λ n ls q b o. quietly _ refl refl refl;
      draw_fails = λ n b. quietly _ refl refl refl;
      formats = λ n r g b v i. record { same = refl; talk = no_messages (keep_end (node_at (with_register (loaded s n) r) n) (ops.Format (generation_of r n) (epochs_in r.logs))) };
      ticks = λ n l t v i o. ticked n l t;
      stops = λ n b. quietly _ refl refl refl;
      wipes = λ n. quietly _ refl refl refl;
      faults = λ n f o. quietly _ refl refl refl;
      sets = λ l r x set h. quietly _ refl refl refl;
      arms = λ k done o. quietly _ refl refl refl;
      hears = λ f older name q m i t l v o. acted false f name q (reply_call c s q (Step.sender_node m.from) m.body);
      retries = λ again name q v o. acted again s.network.fresh name q (retry_call c s q);
      appends = λ name q p v a i. abroad _ refl refl (posted_elsewhere (whos.Sequencer q.epoch) q.log _ (λ r z. cc));
      trims = λ name q t v b. abroad _ refl refl (posted_elsewhere (whos.Sequencer q.epoch) q.log _ (λ r z. cc));
      drops = λ name q v o. quietly _ refl refl refl;
      activates = λ name l r g n i x. abroad _ refl refl (posted_elsewhere (whos.Sequencer (epochs_of r l).epoch) l _ (λ r z. cc));
      swaps = λ n m l x r q i. quietly _ refl refl refl;
      activate_fails = λ name l x g q. quietly _ refl refl refl;
      answers = λ f older name d m i t v o. record { same = refl; talk = K.reads name d m i t v };
      polls = λ name d v o. record { same = refl; talk = K.polls name d v };
      opens = λ style name l from until o x. record { same = refl; talk = K.opens style name l from until o };
    }

    pub talked : NamesOnce s → Talked (Calm.moves c s e)
    talked N = dispatch c s e (λ d m. Talked d) N talk_cases

-- a message is of before, or is sent in the step
pub new_or_old : (c : Config) (s : State) (e : Move) (m : Msg) → (Calm.moves c s e).state.network.sent ≡ s.network.sent → In m (finish (Calm.moves c s e)).state.network.sent → In m s.network.sent ⊎ In m (Calm.moves c s e).sends
new_or_old c s e m q i = elim (sent_by (Calm.moves c s e) m i) [ inl a ↦ inl (subst (λ (x : List Msg). In m x) q a) | inr a ↦ inr a ]

pub still_sent : (c : Config) (s : State) (e : Move) (m : Msg) → (Calm.moves c s e).state.network.sent ≡ s.network.sent → In m s.network.sent → In m (finish (Calm.moves c s e)).state.network.sent
still_sent c s e m q i = sent_before (Calm.moves c s e) m (subst (λ (x : List Msg). In m x) (sym q) i)

pub same_readers : (d : Done) → (finish d).state.readers ≡ d.state.readers
unfolding finish
same_readers d = refl
