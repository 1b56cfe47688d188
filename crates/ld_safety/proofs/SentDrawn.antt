-- Each message to or from a sequencer is of an epoch that was handed out.
use Rattle.std.proofs.Common.{false, Bool, ◌≡◌, ◌∙◌, ◌⊎◌, ◌≤◌, ℕ, inl, inr, refl, ap, sym, subst, cond, List, [], ◌∷◌, Option, Some, None, arith}
use Rattle.ld_table.specs.Named.{find_named}
use Rattle.ld_config.specs.declared.config.Config.{Config}
use Rattle.ld_msg.specs.declared.msg.Who.{Who}
use Rattle.ld_msg.specs.declared.msg.Who.TheVariants as whos
use Rattle.ld_msg.specs.declared.msg.Msg.{Msg}
use Rattle.ld_msg.specs.declared.msg.Body.{Body}
use Rattle.ld_op.specs.declared.op.Op.{Op}
use Rattle.ld_op.specs.declared.op.Op.TheVariants as ops
use Rattle.ld_op.specs.Handles.{answer_message}
use Rattle.ld_op.specs.Ticks.{Ticked, Cleans, Rebuilt, Asks, Nothing}
use Rattle.ld_msg.specs.Register.{Register, draw, activate, epochs_of, epochs_in, generation_of}
use Rattle.ld_machine.specs.Disk.{Node, Kept, Written, keep_end}
use Rattle.ld_msg.specs.Sequencer.{Called, Sequencer}
use Rattle.ld_machine.specs.State.{State, Done, finish, node_at, with_node, with_register, posted}
use Rattle.ld_machine.specs.World.{World, In, from_node}
use Rattle.ld_machine.specs.Run.{after_step}
use Rattle.ld_machine.specs.Step as Step
use Rattle.ld_safety.proofs.Steps.{sent_by}
use Rattle.ld_safety.proofs.Events.{reply_call, retry_call, announced, swapped_by, NamesOnce, Cases, dispatch, Live, refreshed, loaded}
use Rattle.ld_safety.proofs.Registers.{Up}
use Rattle.ld_safety.proofs.Lists.{only}
use Rattle.ld_safety.proofs.Sent.{to_nodes}
use Rattle.ld_safety.proofs.LostTalk.{TalkKeeps, talked}
use Rattle.ld_machine.specs.Calm as Calm
use Rattle.ld_machine.specs.Calm.{Move}

abbrev pub Drawn : Register → List Msg → Type 0
Drawn r ms = (m : Msg) → In m ms → (b : ℕ) → (m.from ≡ whos.Sequencer b) ⊎ (m.to ≡ whos.Sequencer b) → b ≤ (epochs_of r m.log).epoch

no_messages : (r : Register) → Drawn r []
no_messages r m i = absurd i

posted_drawn : (r : Register) (who : Who) (l : ℕ) (bs : List (ℕ × Body)) → ((b : ℕ) → who ≡ whos.Sequencer b → b ≤ (epochs_of r l).epoch) → Drawn r (posted who l bs)
posted_drawn r who l [] h m i b f = absurd i
posted_drawn r who l (x ∷ bs) h m (inl e) b (inl f) = let z = h b (sym (ap (λ (y : Msg). y.from) e) ∙ f) in subst (λ k. b ≤ (epochs_of r k).epoch) (sym (ap (λ (y : Msg). y.log) e)) z
posted_drawn r who l (x ∷ bs) h m (inl e) b (inr f) = absurd (let z : whos.Node x.0 ≡ whos.Sequencer b = sym (ap (λ (y : Msg). y.to) e) ∙ f in cc)
posted_drawn r who l (x ∷ bs) h m (inr i) b f = posted_drawn r who l bs h m i b f

module _ (c : Config) (s : State) (e : Move) (M : Drawn s.register s.network.sent) (own : (name : List ℕ) (q : Sequencer) → find_named name s.sequencers ≡ Some q → q.epoch ≤ (epochs_of s.register q.log).epoch) where
  Goes : Done → Type 0
  Goes d = Up s.register d.state.register → Drawn d.state.register d.sends

  -- an answer goes back to whom the question came from
  answer_drawn : (n : ℕ) (m : Msg) (b : Option Body) → In m s.network.sent → (k : Register) → Up s.register k → Drawn k (answer_message n m b)
  answer_drawn n m None i k u z j b f = absurd j
  answer_drawn n m (Some x) i k u z (inl j) b (inl f) = absurd (let y : whos.Node n ≡ whos.Sequencer b = sym (ap (λ (y : Msg). y.from) j) ∙ f in cc)
  answer_drawn n m (Some x) i k u z (inl j) b (inr f) = subst (λ l. b ≤ (epochs_of k l).epoch) (sym (ap (λ (y : Msg). y.log) j)) (let a = M m i b (inl (sym (ap (λ (y : Msg). y.to) j) ∙ f)) in let v = (u m.log).0 in omega arith)
  answer_drawn n m (Some x) i k u z (inr j) b f = absurd j

  if_written : (k : Register) (t : Kept) (ms : List Msg) → Drawn k ms → Drawn k (cond (Step.is_written t) ms [])
  if_written k Written ms h = h
  if_written k _ ms h = no_messages k

  handled : (f : List ℕ) (x : Node) (n : ℕ) (m : Msg) (o : Option Op) (b : Option Body) → In m s.network.sent → Goes (Step.handles (with_node (refreshed s f) n x) n m o b)
  unfolding Goes
  handled f x n m None b i u = answer_drawn n m b i s.register u
  handled f x n m (Some o) b i u = if_written s.register (keep_end (node_at (with_node (refreshed s f) n x) n) o) (answer_message n m b) (answer_drawn n m b i s.register u)

  no_written : (k : Register) (t : Kept) → Drawn k (cond (Step.is_written t) [] [])
  no_written k Written = no_messages k
  no_written k _ = no_messages k

  ticked : (n l : ℕ) (t : Ticked) → Goes (Step.ticks_as c s n l t)
  unfolding Goes
  ticked n l (Cleans k y) u = no_written s.register (keep_end (node_at s n) (ops.Clean l k y))
  ticked n l Rebuilt u = no_written s.register (keep_end (node_at s n) (ops.Refilled l))
  ticked n l (Asks from) u = posted_drawn s.register (whos.Node n) l _ (λ b q. absurd cc)
  ticked n l Nothing u = no_messages s.register

  acted : (again : Bool) (f : List ℕ) (name : List ℕ) (q : Sequencer) (call : Called) → Live s name q → Goes (Step.told (refreshed s f) name q (announced again call))
  unfolding Goes
  acted again f name q call v u = posted_drawn call.register (whos.Sequencer q.epoch) q.log _ (λ b z. let o = own name q v.named in let w = (u q.log).0 in let y : q.epoch ≡ b = cc in omega arith)

  drawn_cases : Cases c s e (λ d m. Goes d)
  unfolding Goes
  drawn_cases = record {
    still = λ f older i u. no_messages s.register;
    says = λ x q u. no_messages s.register;
    node_hears = λ f older n m i t v o. handled f (Step.releases (node_at s n) m.log m.body) n m (Step.node_handles n (node_at s n) m).op (Step.node_handles n (node_at s n) m).answer i;
    loads = λ n ls q b o u. no_messages s.register;
    draw_fails = λ n b u. no_messages (draw s.register n).register;
    formats = λ n r g b v i u. no_written r (keep_end (node_at (with_register (loaded s n) r) n) (ops.Format (generation_of r n) (epochs_in r.logs)));
    ticks = λ n l t v i o. ticked n l t;
    stops = λ n b u. no_messages s.register;
    wipes = λ n u. no_messages s.register;
    faults = λ n f o u. no_messages s.register;
    sets = λ l r x set h u. no_messages s.register;
    arms = λ k done o u. no_messages (Step.armed s.register k done);
    hears = λ f older name q m i t l v o. acted false f name q (reply_call c s q (Step.sender_node m.from) m.body) v;
    retries = λ again name q v o. acted again s.network.fresh name q (retry_call c s q) v;
    appends = λ name q p v a i u. posted_drawn s.register (whos.Sequencer q.epoch) q.log _ (λ b z. let o = own name q v.named in let y : q.epoch ≡ b = cc in omega arith);
    trims = λ name q t v b u. posted_drawn s.register (whos.Sequencer q.epoch) q.log _ (λ b z. let o = own name q v.named in let y : q.epoch ≡ b = cc in omega arith);
    drops = λ name q v o u. no_messages s.register;
    activates = λ name l r g n i x u. posted_drawn r (whos.Sequencer (epochs_of r l).epoch) l _ (λ b z. let y : (epochs_of r l).epoch ≡ b = cc in omega arith);
    swaps = λ n m l x r q i u. no_messages (swapped_by s n m l).register;
    activate_fails = λ name l x g q u. no_messages (activate s.register l (Step.spec_set c s l)).register;
    answers = λ f older name d m i t v o u. posted_drawn s.register (whos.Reader _) _ _ (λ b q. absurd cc);
    polls = λ name d v o u. posted_drawn s.register (whos.Reader _) _ _ (λ b q. absurd cc);
    opens = λ style name l from until o x u. no_messages s.register;
  }

pub drawn_step : (c : Config) (w : World) (e : Move) → NamesOnce w.state → Up w.state.register (after_step c w e).state.register → (Calm.moves c w.state e).state.network.sent ≡ w.state.network.sent → ((name : List ℕ) (q : Sequencer) → find_named name w.state.sequencers ≡ Some q → q.epoch ≤ (epochs_of w.state.register q.log).epoch)
    → Drawn w.state.register w.state.network.sent → Drawn (after_step c w e).state.register (after_step c w e).state.network.sent
unfolding finish Goes
drawn_step c w e N u same own M m i b f = elim (sent_by (Calm.moves c w.state e) m i) [
  | inl a ↦ (let z = M m (subst (λ (x : List Msg). In m x) same a) b f in let v = (u m.log).0 in omega arith)
  | inr a ↦ dispatch c w.state e (λ d m. Goes c w.state e M own d) N (drawn_cases c w.state e M own) u m a b f
]

-- a node answers a ballot that was handed out before the step
pub answer_before : (c : Config) (s : State) (e : Move) → NamesOnce s → Drawn s.register s.network.sent → (l y b : ℕ) (x : Body) → In (from_node l y b x) (Calm.moves c s e).sends → b ≤ (epochs_of s.register l).epoch
answer_before c s e N M l y b x i = (talked c s e (λ ms ds. Answers ms) answer_talk N).talk (from_node l y b x) i b refl where
  Answers : List Msg → Type 0
  Answers ms = (m : Msg) → In m ms → (b : ℕ) → m.to ≡ whos.Sequencer b → b ≤ (epochs_of s.register m.log).epoch

  to_others : (who : Who) (l : ℕ) (bs : List (ℕ × Body)) → Answers (posted who l bs)
  to_others who l bs m i b t = absurd (to_nodes who l bs m b i t)

  answer_talk : TalkKeeps c s e (λ ms ds. Answers ms)
  answer_talk = record {
    quiet = λ m i. absurd i;
    elsewhere = λ ms h m i b t. absurd (let z : whos.Node (h m i).node ≡ whos.Sequencer b = sym (h m i).to ∙ t in cc);
    answers = λ n m x i t v a z j b u. (let o = only z _ j in let k = M m i b (inl (sym (ap (λ (q : Msg). q.to) o) ∙ u)) in subst (λ l. b ≤ (epochs_of s.register l).epoch) (sym (ap (λ (q : Msg). q.log) o)) k);
    reads = λ name d m i t v. to_others _ _ _;
    polls = λ name d v. to_others _ _ _;
    opens = λ style name l from until o m i. absurd i;
  }
