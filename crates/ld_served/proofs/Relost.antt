-- A node that told a reader that it is lost for an epoch was lost up to it at a format, and doesn't serve it: it is blank, lost for it or clean there.
use Rattle.std.proofs.Common.{◌≡◌, ◌∙◌, ◌≤◌, ◌<◌, ℕ, inl, inr, refl, ap, sym, subst, true, List, Some, arith}
use Rattle.std.proofs.lemmas.Bool.{eq-eqb}
use Rattle.ld_lsn.specs.Number.{home_epoch}
use Rattle.ld_config.specs.declared.config.Config.{Config}
use Rattle.ld_msg.specs.declared.msg.Who.TheVariants as whos
use Rattle.ld_msg.specs.declared.msg.Msg.{Msg}
use Rattle.ld_msg.specs.declared.msg.Body.{Body}
use Rattle.ld_msg.specs.declared.msg.Body.TheVariants as bodies
use Rattle.ld_msg.specs.Register.{epochs_of}
use Rattle.ld_msg.specs.Reader.{on_answer, poll_asks}
use Rattle.ld_op.specs.Plain.{Plain, log_of, is_lost}
use Rattle.ld_machine.specs.Config.{looks_at}
use Rattle.ld_machine.specs.State.{State, finish, node_at, posted}
use Rattle.ld_machine.specs.Facts.{Happened}
use Rattle.ld_machine.specs.World.{World, In, MayHold}
use Rattle.ld_machine.specs.Run.{after_step}
use Rattle.ld_machine.specs.Step as Step
use Rattle.ld_machine.specs.Calm.{Move}
use Rattle.ld_safety.proofs.Lists.{not_none, only}
use Rattle.ld_safety.proofs.Traces.{Keeps, both_kept, beside_kept}
use Rattle.ld_safety.proofs.Events.{NamesOnce, Serves}
use Rattle.ld_safety.proofs.Registers.{follows}
use Rattle.ld_safety.proofs.HoldSteps.{UpFine}
use Rattle.ld_safety.proofs.GivenSteps.{BaseGiven}
use Rattle.ld_safety.proofs.Along.{Along}
use Rattle.ld_safety.proofs.AlongSteps.{along_kept}
use Rattle.ld_safety.proofs.LostTalk.{TalkKeeps, talked, new_or_old}
use Rattle.ld_safety.proofs.LostRounds.{posted_to}
use Rattle.ld_safety.proofs.LostAlong.{Asked, asked_kept}
use Rattle.ld_safety.proofs.LostUnserved.{AllUnserved, unserved_step}
use Rattle.ld_safety.proofs.LostSaid.{LostWithin, says_lost, lost_answer}
use Rattle.ld_safety.proofs.Fallen.{AllFallen, lost_fallen, fallen_step}

-- the epoch was handed out; the node was lost up to it, and doesn't serve it
pub record LostThere (s : State) (l y e : ℕ) : Type 0 where
  pub reached : e ≤ (epochs_of s.register l).epoch
  pub unserved : AllUnserved (node_at s y) l e
  pub fallen : AllFallen (node_at s y) l e

-- a message that tells a reader so
abbrev pub TellsLost : State → Msg → Type 0
TellsLost s m = (k n u g end : ℕ) → m.to ≡ whos.Reader k → m.body ≡ bodies.LostHere n u g end → 0 < home_epoch n → LostThere s m.log (Step.sender_node m.from) (home_epoch n)

abbrev pub AllTellLost : State → Type 0
AllTellLost s = (m : Msg) → In m s.network.sent → TellsLost s m

module _ (c : Config) (w : World) (e : Move) (ups : (y : ℕ) → UpFine (node_at w.state y)) (within : (y : ℕ) → LostWithin w.state.register (node_at w.state y)) where
  -- a node that is up has one plain state
  one_state : (n l : ℕ) → Serves c w.state n l → (p : Plain) → MayHold (node_at w.state n) p → (node_at w.state n).plain ≡ p
  one_state n l v p (inl q) = sym q
  one_state n l v p (inr k) = absurd (not_none (sym (ups n v.up).0 ∙ k.1))

  there : (n l e : ℕ) → Serves c w.state n l → is_lost (log_of (node_at w.state n).plain l) e ≡ true → LostThere w.state l n e
  there n l e v h = record {
    reached = within n (node_at w.state n).plain (inl refl) l e h;
    unserved = λ p q. inr (inl (subst (λ (x : Plain). is_lost (log_of x l) e ≡ true) (one_state n l v p q) h));
    fallen = λ p q. inr (lost_fallen p l e (subst (λ (x : Plain). is_lost (log_of x l) e ≡ true) (one_state n l v p q) h));
  }

  not_reader : (n k : ℕ) → whos.Node n ≡ whos.Reader k → ⊥
  not_reader n k h = cc

  answer_tells : (n : ℕ) (m : Msg) (x : Body) → Serves c w.state n m.log → (Step.node_handles n (node_at w.state n) m).answer ≡ Some x → TellsLost w.state (record { from = whos.Node n; to = m.from; log = m.log; body = x })
  answer_tells n m x v a k j u g end t b p = there n m.log (home_epoch j) v (lost_answer _ _ _ _ _ _ j m.body x a (subst (λ (o : Body). says_lost j o ≡ true) (sym b) (eq-eqb j j refl)) p)

  posted_tells : (r l : ℕ) (bs : List (ℕ × Body)) (m : Msg) → In m (posted (whos.Reader r) l bs) → TellsLost w.state m
  posted_tells r l bs m i k n u g end t b = absurd (let p = posted_to (whos.Reader r) l bs m i in not_reader p.0.0 k (sym (ap (λ (y : Msg). y.to) p.2) ∙ t))

  lost_talk : TalkKeeps c w.state e (λ ms ds. (m : Msg) → In m ms → TellsLost w.state m)
  lost_talk = record {
    quiet = λ m i. absurd i;
    elsewhere = λ ms h m i k n u g end t b. absurd (not_reader (h m i).node k (sym (h m i).to ∙ t));
    answers = λ n m x i t v h z j. subst (TellsLost w.state) (sym (only z _ j)) (answer_tells n m x v h);
    reads = λ name d m i t v. let a = on_answer (looks_at c w.state.register d.log) d (Step.sender_node m.from) m.body in posted_tells a.reader.number a.reader.log a.asks;
    polls = λ name d v. posted_tells d.number d.log (poll_asks (looks_at c w.state.register d.log) d);
    opens = λ style name l from until o m i. absurd i;
  }

  tells_step : NamesOnce w.state → ((l : ℕ) → (epochs_of w.state.register l).epoch ≤ (epochs_of (after_step c w e).state.register l).epoch) → AllTellLost w.state → AllTellLost (after_step c w e).state
  tells_step N up T m i k n u g end t b p =
      let q = talked c w.state e (λ ms ds. (m : Msg) → In m ms → TellsLost w.state m) lost_talk N in
      let z : LostThere w.state m.log (Step.sender_node m.from) (home_epoch n) = elim (new_or_old c w.state e m q.same i) [ inl o ↦ T m o k n u g end t b p | inr o ↦ q.talk m o k n u g end t b p ] in record {
        reached = (let a = up m.log in let r = z.reached in omega arith);
        unserved = unserved_step c w e N (Step.sender_node m.from) m.log (home_epoch n) p z.reached z.unserved;
        fallen = fallen_step c w e N (Step.sender_node m.from) m.log (home_epoch n) p z.reached z.fallen;
      }

-- ---- in every run ----
abbrev pub Relosing : Config → List Happened → World → Type 0
Relosing c hs w = ((BaseGiven c hs w × Along c hs w) × Asked c hs w) × AllTellLost w.state

pub relost_kept : (c : Config) → Keeps c (Relosing c)
unfolding finish
relost_kept c = beside_kept c (λ hs w. (BaseGiven c hs w × Along c hs w) × Asked c hs w) (λ hs w. AllTellLost w.state) (both_kept c (λ hs w. BaseGiven c hs w × Along c hs w) (Asked c) (along_kept c) (asked_kept c)) (λ m i. absurd i)
    (λ hs w e B C T. tells_step c w e B.0.1.ups B.0.1.within B.0.0.0.0.0 (λ l. ((follows c w.state e B.0.0.0.0.0 B.0.0.0.1.0).0 l).0) T)
