-- A node where an epoch isn't served tells no sequencer any more that a number of it is stored or trimmed.
use Rattle.std.proofs.Common.{◌≡◌, ◌<◌, ℕ, inl, inr, refl, ap, sym, subst, Bool, true, false, ◌&&◌, ◌==◌, nat_le, if◌then◌else◌, List, [], ◌∷◌, Some, is_some, arith}
use Rattle.std.proofs.lemmas.Bool.{and_parts, and_from, eqb-true}
use Rattle.ld_lsn.specs.Number.{epoch_of, esn_of}
use Rattle.ld_config.specs.declared.config.Config.{Config}
use Rattle.ld_msg.specs.declared.msg.Msg.{Msg}
use Rattle.ld_msg.specs.declared.msg.Who.{Who}
use Rattle.ld_msg.specs.declared.msg.Who.TheVariants as whos
use Rattle.ld_msg.specs.declared.msg.Entry.{Entry}
use Rattle.ld_msg.specs.declared.msg.Summary.{Summary}
use Rattle.ld_msg.specs.declared.msg.Body.{Body}
use Rattle.ld_msg.specs.declared.msg.Body.TheVariants as bodies
use Rattle.ld_op.specs.Plain.{Plain, Log, log_of, is_lost, summary_at}
use Rattle.ld_op.specs.Answers.{store_decision, digest_decision, store_answer, digest_answer, on_store, on_digest_ask, on_clean, on_trim, read_answer}
use Rattle.ld_op.specs.Handles.{handled_by}
use Rattle.ld_op.specs.Ticks.{on_page}
use Rattle.ld_machine.specs.State.{node_at, posted}
use Rattle.ld_machine.specs.World.{World, In, Unserved, is_node, is_sequencer, says_stored, says_settled, told_by, has_told}
use Rattle.ld_machine.specs.Run.{after_step}
use Rattle.ld_machine.specs.Step as Step
use Rattle.ld_safety.proofs.Lists.{Some_inj, only, any_in, any_from, not_both}
use Rattle.ld_safety.proofs.NodeSteps.{Served, store_decided, ask_decided, read_answered}
use Rattle.ld_safety.proofs.Events.{NamesOnce, Serves}
use Rattle.ld_safety.proofs.LostTalk.{TalkKeeps, talked, new_or_old, still_sent}
use Rattle.ld_safety.proofs.LostRounds.{posted_to}
use Rattle.ld_safety.proofs.LostUnserved.{AllUnserved}
use Rattle.ld_safety.proofs.Withheld.{one_kind}
use Rattle.ld_machine.specs.Calm.{Move}

-- the node has told that it has the copy of the number that counts where its epoch is closed so: it settled the number for the closing plan, or it stored the append where that was known good
abbrev pub told_copied : World → ℕ → ℕ → Summary → ℕ → Bool
told_copied w l s y n = if nat_le (esn_of s) y.lng then has_told w (says_stored s) l (epoch_of s) n else has_told w (says_settled s) l y.ballot n

-- ---- what a settling answer says of its node ----
store_settled : (generation : ℕ) (g : Log) (e : Entry) (s : ℕ) (x : Body) → store_answer generation e.number (store_decision g e) ≡ Some x → says_settled s x ≡ true → Served g (epoch_of s)
store_settled generation g e s x = store_decided g e (λ d. store_answer generation e.number d ≡ Some x → says_settled s x ≡ true → Served g (epoch_of s)) (record {
  lost = λ t q h. absurd (let z = subst (λ (o : Body). says_settled s o ≡ true) (sym (Some_inj q)) h in cc);
  clean = λ y t k q h. absurd (let z = subst (λ (o : Body). says_settled s o ≡ true) (sym (Some_inj q)) h in cc);
  trimmed = λ v k q h. let z = and_parts (epoch_of e.number == epoch_of s) (nat_le s g.trim) (subst (λ (o : Body). says_settled s o ≡ true) (sym (Some_inj q)) h) in subst (Served g) (eqb-true _ _ z.0) v;
  sealed = λ v a k q h. absurd (let z = subst (λ (o : Body). says_settled s o ≡ true) (sym (Some_inj q)) h in cc);
  same = λ v a b k q h. let z = eqb-true e.number s (subst (λ (o : Body). says_settled s o ≡ true) (sym (Some_inj q)) h) in subst (λ n. Served g (epoch_of n)) z v;
  takes = λ v a b q h. let z = eqb-true e.number s (subst (λ (o : Body). says_settled s o ≡ true) (sym (Some_inj q)) h) in subst (λ n. Served g (epoch_of n)) z v;
})

ask_settled : (generation : ℕ) (g : Log) (ballot from s : ℕ) (x : Body) → digest_answer generation g from (digest_decision g ballot from) ≡ Some x → says_settled s x ≡ true → ⊥
ask_settled generation g ballot from s x = ask_decided g ballot from (λ d. digest_answer generation g from d ≡ Some x → says_settled s x ≡ true → ⊥) (record {
  lost = λ t q h. (let z = subst (λ (o : Body). says_settled s o ≡ true) (sym (Some_inj q)) h in cc);
  clean = λ y t k q h. (let z = subst (λ (o : Body). says_settled s o ≡ true) (sym (Some_inj q)) h in cc);
  sealed = λ v k q h. (let z = subst (λ (o : Body). says_settled s o ≡ true) (sym (Some_inj q)) h in cc);
  same = λ v k q h. (let z = subst (λ (o : Body). says_settled s o ≡ true) (sym (Some_inj q)) h in cc);
  takes = λ v k q h. (let z = subst (λ (o : Body). says_settled s o ≡ true) (sym (Some_inj q)) h in cc);
})

read_settled : (generation : ℕ) (g : Log) (released round from s : ℕ) → says_settled s (read_answer generation g released round from) ≡ false
read_settled generation g released round from s = read_answered generation g released round from (λ b. says_settled s b ≡ false) (record { trimmed = λ h. refl; ended = λ y a h k. refl; lost_clean = λ y a h k t. refl; lost = λ a h t. refl; clean = λ y a h k t. refl; open_page = λ a h t u. refl; waits = λ a. refl })

no_answer : (g : Log) (l : ℕ) (b x : Body) → (on_page g l b).answer ≡ Some x → ⊥
unfolding on_page
no_answer g l b x q = cc

settled_answer : (self generation : ℕ) (g : Log) (l ballot released s : ℕ) (b x : Body) → (handled_by self generation g l ballot released b).answer ≡ Some x → says_settled s x ≡ true → Served g (epoch_of s)
unfolding on_store on_digest_ask on_clean on_trim
settled_answer self generation g l ballot released s (bodies.Store n lng w) x q h = store_settled generation g (record { number = n; ballot = ballot; what = w }) s x q h
settled_answer self generation g l ballot released s (bodies.DigestAsk from) x q h = absurd (ask_settled generation g ballot from s x q h)
settled_answer self generation g l ballot released s (bodies.Clean e y) x q h = absurd cc
settled_answer self generation g l ballot released s (bodies.Trim t) x q h = absurd cc
settled_answer self generation g l ballot released s (bodies.ReadAsk round from) x q h = absurd (not_both (says_settled s x) h (subst (λ (o : Body). says_settled s o ≡ false) (Some_inj q) (read_settled generation g released round from s)))
settled_answer self generation g l ballot released s (bodies.ReadOne round from set excluded) x q h = absurd (not_both (says_settled s x) h (subst (λ (o : Body). says_settled s o ≡ false) (Some_inj q) (one_kind self set excluded (says_settled s) false (λ a b z k es fs. refl) generation g released round from (read_settled generation g released round from s))))
settled_answer self generation g l ballot released s b x q h = absurd (no_answer g l b x q)

served_not : (p : Plain) (l e : ℕ) → 0 < p.generation → Served (log_of p l) e → Unserved p l e → ⊥
served_not p l e g v (inl h) = omega arith
served_not p l e g v (inr (inl h)) = not_both (is_lost (log_of p l) e) h v.found_here
served_not p l e g v (inr (inr h)) = let z : is_some (summary_at (log_of p l) e) ≡ false = ap is_some v.unclean in not_both _ h z

-- ---- messages ----
pub record Told (s l y b : ℕ) (m : Msg) : Type 0 where
  pub log : m.log ≡ l
  pub says : says_settled s m.body ≡ true
  pub from : m.from ≡ whos.Node y
  pub to : is_sequencer b m.to ≡ true

who_node : (y : ℕ) (w : Who) → is_node y w ≡ true → w ≡ whos.Node y
who_node y (whos.Node x) h = ap whos.Node (eqb-true x y h)
who_node y (whos.Sequencer e) h = absurd cc
who_node y (whos.Reader r) h = absurd cc

-- what is stored is settled
stored_too : (s : ℕ) (x : Body) → says_stored s x ≡ true → says_settled s x ≡ true
stored_too s (bodies.Stored n) h = h
stored_too s _ h = absurd cc

told_parts : (s l y b : ℕ) (m : Msg) → told_by (says_settled s) l y b m ≡ true → Told s l y b m
told_parts s l y b m h = let p = and_parts ((m.log == l) && says_settled s m.body) (is_node y m.from && is_sequencer b m.to) h in let q = and_parts (m.log == l) (says_settled s m.body) p.0 in let r = and_parts (is_node y m.from) (is_sequencer b m.to) p.1 in
    record { log = eqb-true m.log l q.0; says = q.1; from = who_node y m.from r.0; to = r.1 }

module _ (c : Config) (w : World) (e : Move) (up : (n l : ℕ) → Serves c w.state n l → 0 < (node_at w.state n).plain.generation) where
  abbrev NoneTold : List Msg → Type 0
  NoneTold ms = (y l s b : ℕ) → AllUnserved (node_at w.state y) l (epoch_of s) → (m : Msg) → In m ms → told_by (says_settled s) l y b m ≡ true → ⊥

  to_node : (b n : ℕ) (m : Msg) → m.to ≡ whos.Node n → is_sequencer b m.to ≡ true → ⊥
  to_node b n m q h = let z : is_sequencer b (whos.Node n) ≡ true = subst (λ x. is_sequencer b x ≡ true) q h in cc

  posted_none : (who : Who) (l : ℕ) (bs : List (ℕ × Body)) → NoneTold (posted who l bs)
  posted_none who l bs y k s b u m i h = let p = posted_to who l bs m i in to_node b p.0.0 m (ap (λ (z : Msg). z.to) p.2) (told_parts s k y b m h).to

  answer_none : (n : ℕ) (m : Msg) (x : Body) → Serves c w.state n m.log → (Step.node_handles n (node_at w.state n) m).answer ≡ Some x → NoneTold (record { from = whos.Node n; to = m.from; log = m.log; body = x } ∷ [])
  answer_none n m x v a y l s b u z i h =
      let t = told_parts s l y b (record { from = whos.Node n; to = m.from; log = m.log; body = x }) (subst (λ (k : Msg). told_by (says_settled s) l y b k ≡ true) (only z _ i) h) in
      let q : whos.Node n ≡ whos.Node y = t.from in
      let same : y ≡ n = cc in
      let p : Plain = (node_at w.state n).plain in
      let k : Unserved p l (epoch_of s) = subst (λ j. AllUnserved (node_at w.state j) l (epoch_of s)) same u p (inl refl) in
      served_not p m.log (epoch_of s) (up n m.log v) (settled_answer n p.generation (log_of p m.log) m.log _ _ s m.body x a t.says) (subst (λ j. Unserved p j (epoch_of s)) (sym t.log) k)

  none_talk : TalkKeeps c w.state e (λ ms ds. NoneTold ms)
  none_talk = record {
    quiet = λ y l s b u m i h. i;
    elsewhere = λ ms f y l s b u m i h. to_node b (f m i).node m (f m i).to (told_parts s l y b m h).to;
    answers = λ n m x i t v a. answer_none n m x v a;
    reads = λ name d m i t v. posted_none _ _ _;
    polls = λ name d v. posted_none _ _ _;
    opens = λ style name l from until o y k s b u m i h. i;
  }

  -- who tells it after the step told it before
  told_before : NamesOnce w.state → (p : Body → Bool) (y l s b : ℕ) → ((x : Body) → p x ≡ true → says_settled s x ≡ true) → AllUnserved (node_at w.state y) l (epoch_of s) → has_told (after_step c w e) p l b y ≡ true → has_told w p l b y ≡ true
  told_before N p y l s b k u h = let t = talked c w.state e (λ ms ds. NoneTold ms) none_talk N in let x = any_in (told_by p l y b) (after_step c w e).state.network.sent h in elim (new_or_old c w.state e x.0 t.same x.1) [
    | inl o ↦ any_from (told_by p l y b) x.0 w.state.network.sent o x.2
    | inr n ↦ absurd (t.talk y l s b u x.0 n (let v = and_parts ((x.0.log == l) && p x.0.body) (is_node y x.0.from && is_sequencer b x.0.to) x.2 in let z = and_parts (x.0.log == l) (p x.0.body) v.0 in and_from _ _ (and_from _ _ z.0 (k x.0.body z.1)) v.1))
  ]

  -- who told it before tells it after
  told_after : NamesOnce w.state → (p : Body → Bool) (y l b : ℕ) → has_told w p l b y ≡ true → has_told (after_step c w e) p l b y ≡ true
  told_after N p y l b h = let t = talked c w.state e (λ ms ds. NoneTold ms) none_talk N in let x = any_in (told_by p l y b) w.state.network.sent h in any_from (told_by p l y b) x.0 (after_step c w e).state.network.sent (still_sent c w.state e x.0 t.same x.1) x.2

  pub copied_after : NamesOnce w.state → (y l s : ℕ) (z : Summary) → told_copied w l s z y ≡ true → told_copied (after_step c w e) l s z y ≡ true
  copied_after N y l s z = by_good (nat_le (esn_of s) z.lng) where
    by_good : (t : Bool) → (if t then has_told w (says_stored s) l (epoch_of s) y else has_told w (says_settled s) l z.ballot y) ≡ true → (if t then has_told (after_step c w e) (says_stored s) l (epoch_of s) y else has_told (after_step c w e) (says_settled s) l z.ballot y) ≡ true
    by_good true h = told_after N (says_stored s) y l (epoch_of s) h
    by_good false h = told_after N (says_settled s) y l z.ballot h

  pub copied_before : NamesOnce w.state → (y l s : ℕ) (z : Summary) → AllUnserved (node_at w.state y) l (epoch_of s) → told_copied (after_step c w e) l s z y ≡ true → told_copied w l s z y ≡ true
  copied_before N y l s z u = by_good (nat_le (esn_of s) z.lng) where
    by_good : (t : Bool) → (if t then has_told (after_step c w e) (says_stored s) l (epoch_of s) y else has_told (after_step c w e) (says_settled s) l z.ballot y) ≡ true → (if t then has_told w (says_stored s) l (epoch_of s) y else has_told w (says_settled s) l z.ballot y) ≡ true
    by_good true h = told_before N (says_stored s) y l s (epoch_of s) (stored_too s) u h
    by_good false h = told_before N (says_settled s) y l s z.ballot (λ x q. q) u h
