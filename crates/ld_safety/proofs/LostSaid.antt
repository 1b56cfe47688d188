-- A node that told a sequencer that it is lost for an epoch never serves it again; while the epoch is open it is blank or lost for it, whatever a load finds; and it gives no page of it.
use Rattle.std.proofs.Common.{◌≡◌, ◌∙◌, ◌≤◌, ◌<◌, ℕ, ◌-◌, inl, inr, refl, ap, sym, subst, Bool, true, false, ◌&&◌, ◌==◌, nat_lt, nat_le, List, [], ◌∷◌, Option, Some, None, is_some, arith}
use Rattle.std.specs.Option.{unwrap_or}
use Rattle.std.proofs.lemmas.Bool.{and_parts, and_from, or_cases, or_left, or_right, eqb-true, eq-eqb, leb-true, lt-ltb, le-leb}
use Rattle.ld_table.specs.Table.{find}
use Rattle.ld_lsn.specs.Number.{epoch_of, home_epoch, is_epoch_end}
use Rattle.ld_config.specs.declared.config.Config.{Config}
use Rattle.ld_msg.specs.declared.msg.Msg.{Msg}
use Rattle.ld_msg.specs.declared.msg.Who.{Who}
use Rattle.ld_msg.specs.declared.msg.Who.TheVariants as whos
use Rattle.ld_msg.specs.declared.msg.Entry.{Entry}
use Rattle.ld_msg.specs.declared.msg.Body.{Body}
use Rattle.ld_msg.specs.declared.msg.Body.TheVariants as bodies
use Rattle.ld_op.specs.declared.op.Op.{Op}
use Rattle.ld_op.specs.declared.op.Op.TheVariants as ops
use Rattle.ld_op.specs.Plain.{Plain, Log, log_of, unformatted, is_lost, summary_at, apply}
use Rattle.ld_op.specs.Answers.{store_decision, digest_decision, store_answer, digest_answer, on_store, on_digest_ask, on_clean, on_trim, read_answer, withheld_in}
use Rattle.ld_op.specs.Handles.{handled_by}
use Rattle.ld_op.specs.Ticks.{on_page}
use Rattle.ld_msg.specs.Register.{Register, no_epochs, epochs_of, epochs_in, draw, Granted, generation_of}
use Rattle.ld_machine.specs.Disk.{Node, Cut, new_node, keep_op, load}
use Rattle.ld_machine.specs.State.{State, node_at, posted}
use Rattle.ld_machine.specs.World.{World, In, MayHold, Unserved, from_node, is_gone, is_cut_gone}
use Rattle.ld_machine.specs.Run.{after_step}
use Rattle.ld_machine.specs.Step as Step
use Rattle.ld_safety.proofs.Lists.{Some_inj, not_none, not_both, cond_both, only}
use Rattle.ld_safety.proofs.Rising.{Rising}
use Rattle.ld_safety.proofs.NodeSteps.{Served, store_decided, ask_decided, read_answered}
use Rattle.ld_safety.proofs.Events.{NamesOnce, Serves}
use Rattle.ld_safety.proofs.RegisterSteps.{draw_granted}
use Rattle.ld_safety.proofs.HoldSteps.{UpFine, is_format, handled_plain}
use Rattle.ld_safety.proofs.NodeCases.{NodeKeeps}
use Rattle.ld_safety.proofs.LostNodes.{lost_before, kept_from, loaded_from, released_from}
use Rattle.ld_safety.proofs.LostStanding.{formatted_lost}
use Rattle.ld_safety.proofs.LostTalk.{TalkKeeps, talked, new_or_old}
use Rattle.ld_safety.proofs.LostUnserved.{AllUnserved, unserved_step}
use Rattle.ld_safety.proofs.Fallen.{AllFallen, lost_fallen, fallen_step}
use Rattle.ld_safety.proofs.Withheld.{of_one, one_kind}
use Rattle.ld_machine.specs.Calm.{Move}

-- ---- a node is lost for epochs alone that were handed out ----
abbrev pub LostWithin : Register → Node → Type 0
LostWithin r x = (p : Plain) → MayHold x p → (l e : ℕ) → is_lost (log_of p l) e ≡ true → e ≤ (epochs_of r l).epoch

kept_within : (r : Register) (x : Node) (o : Op) → is_format o ≡ false → LostWithin r x → LostWithin r (keep_op x o)
kept_within r x o n h p q l e t = elim (kept_from x o p q).from [
  | inl a ↦ h p a l e t
  | inr a ↦ h x.plain (inl refl) l e (lost_before x.plain o l e n (subst (λ z. is_lost (log_of z l) e ≡ true) a t))
]

formatted_within : (x : Node) (r k : Register) (n : ℕ) → draw r n ≡ record { register = k; answer = Granted } → Rising r.logs → LostWithin r x → LostWithin r (keep_op (load x) (ops.Format (generation_of k n) (epochs_in k.logs)))
unfolding apply
formatted_within x r k n d R h p q l e t = elim (kept_from (load x) (ops.Format (generation_of k n) (epochs_in k.logs)) p q).from [
  | inl a ↦ h p (loaded_from x p a) l e t
  | inr a ↦ let s = (draw_granted r n k d).0 in
      let z = formatted_lost k (generation_of k n) l e (subst Rising (sym s) R) (subst (λ v. is_lost (log_of v l) e ≡ true) a t) in
      let u = ap (λ m. (unwrap_or (find l m) no_epochs).epoch) s in let v = z.1 in omega arith
]

pub blank_within : (r : Register) → LostWithin r new_node
unfolding find
blank_within r p (inl q) l e t = absurd (let z : is_lost (log_of unformatted l) e ≡ true = subst (λ v. is_lost (log_of v l) e ≡ true) q t in cc)
blank_within r p (inr q) l e t = absurd (not_none q.1)

pub within_keeps : (c : Config) (s : State) (v : Move) → Rising s.register.logs → ((y : ℕ) → LostWithin s.register (node_at s y)) → NodeKeeps c s v (λ y x. LostWithin s.register x)
within_keeps c s v R h = record {
  all = h;
  hears = λ n m i t u p q. h n p (released_from (node_at s n) m.log m.body p q);
  keeps = λ n m o i t u q. kept_within s.register (Step.releases (node_at s n) m.log m.body) o (handled_plain _ _ _ _ _ _ m.body o q) (λ p z. h n p (released_from (node_at s n) m.log m.body p z));
  loads = λ n p q. h n p (loaded_from (node_at s n) p q);
  formats = λ n r k w i. formatted_within (node_at s n) s.register r n i R (h n);
  cleans = λ n j k y u q. kept_within s.register (node_at s n) (ops.Clean j k y) refl (h n);
  rebuilds = λ n j u q. kept_within s.register (node_at s n) (ops.Refilled j) refl (h n);
  stops = λ n. h n;
  wipes = λ n. blank_within s.register;
  faults = λ n f. h n;
}

-- ---- gone ----

-- while an epoch is clean in no state, a node that doesn't serve it has nothing to tell
pub unserved_gone : (x : Node) (l e : ℕ) → AllUnserved x l e → ((p : Plain) → MayHold x p → is_some (summary_at (log_of p l) e) ≡ true → ⊥) → (is_gone l e x.plain && is_cut_gone l e x.cut) ≡ true
unserved_gone x l e h n = and_from (is_gone l e x.plain) (is_cut_gone l e x.cut) (one x.plain (inl refl)) (by_cut x.cut refl) where
  one : (p : Plain) → MayHold x p → is_gone l e p ≡ true
  one p m = elim (h p m) [
    | inl a ↦ or_left (p.generation == 0) (is_lost (log_of p l) e) (eq-eqb p.generation 0 a)
    | inr (inl a) ↦ or_right (p.generation == 0) (is_lost (log_of p l) e) a
    | inr (inr a) ↦ absurd (n p m a)
  ]

  by_cut : (o : Option Cut) → x.cut ≡ o → is_cut_gone l e o ≡ true
  by_cut None q = refl
  by_cut (Some k) q = one k.plain (inr (k, q, refl))

gone_one : (p : Plain) (l e : ℕ) → is_gone l e p ≡ true → Unserved p l e
gone_one p l e h = elim (or_cases (p.generation == 0) (is_lost (log_of p l) e) h) [ inl a ↦ inl (eqb-true p.generation 0 a) | inr a ↦ inr (inl a) ]

pub gone_unserved : (x : Node) (l e : ℕ) → (is_gone l e x.plain && is_cut_gone l e x.cut) ≡ true → AllUnserved x l e
gone_unserved x l e h p (inl q) = let a = and_parts (is_gone l e x.plain) (is_cut_gone l e x.cut) h in gone_one p l e (subst (λ z. is_gone l e z ≡ true) (sym q) a.0)
gone_unserved x l e h p (inr k) = let a = and_parts (is_gone l e x.plain) (is_cut_gone l e x.cut) h in
    gone_one p l e (subst (λ z. is_gone l e z ≡ true) (sym k.2) (subst (λ o. is_cut_gone l e o ≡ true) k.1 a.1))

-- ---- what an answer says of its node ----
abbrev pub says_lost : ℕ → Body → Bool
says_lost n (bodies.LostHere m round generation end) = m == n
says_lost n _ = false

abbrev pub says_page : ℕ → Body → Bool
says_page e (bodies.DigestPage from upto trim lng es) = epoch_of from == e
says_page e _ = false

-- the home epoch is the epoch or the one before it
lost_home : (g : Log) (n : ℕ) → is_lost g (epoch_of n) ≡ true → 0 < home_epoch n → is_lost g (home_epoch n) ≡ true
lost_home g n h p = let a = and_parts g.lost (nat_lt 0 (epoch_of n) && nat_le (epoch_of n) g.lost_to) h in let b = and_parts (nat_lt 0 (epoch_of n)) (nat_le (epoch_of n) g.lost_to) a.1 in
    let z = leb-true (epoch_of n) g.lost_to b.1 in
    let y : home_epoch n ≤ epoch_of n = cond_both (is_epoch_end n) (epoch_of n - 1) (epoch_of n) (λ v. v ≤ epoch_of n) (λ t. omega arith) (λ t. omega arith) in
    and_from g.lost (nat_lt 0 (home_epoch n) && nat_le (home_epoch n) g.lost_to) a.0 (and_from (nat_lt 0 (home_epoch n)) (nat_le (home_epoch n) g.lost_to) (lt-ltb 0 (home_epoch n) p) (le-leb (home_epoch n) g.lost_to (omega arith)))

store_lost : (generation : ℕ) (g : Log) (e : Entry) (n : ℕ) (x : Body) → store_answer generation e.number (store_decision g e) ≡ Some x → says_lost n x ≡ true → 0 < home_epoch n → is_lost g (home_epoch n) ≡ true
store_lost generation g e n x = store_decided g e (λ d. store_answer generation e.number d ≡ Some x → says_lost n x ≡ true → 0 < home_epoch n → is_lost g (home_epoch n) ≡ true) (record {
  lost = λ t q h p. let z = eqb-true e.number n (subst (λ (o : Body). says_lost n o ≡ true) (sym (Some_inj q)) h) in lost_home g n (subst (λ m. is_lost g (epoch_of m) ≡ true) z t) p;
  clean = λ y t k q h p. absurd (let z = subst (λ (o : Body). says_lost n o ≡ true) (sym (Some_inj q)) h in cc);
  trimmed = λ v k q h p. absurd (let z = subst (λ (o : Body). says_lost n o ≡ true) (sym (Some_inj q)) h in cc);
  sealed = λ v a k q h p. absurd (let z = subst (λ (o : Body). says_lost n o ≡ true) (sym (Some_inj q)) h in cc);
  same = λ v a b k q h p. absurd (let z = subst (λ (o : Body). says_lost n o ≡ true) (sym (Some_inj q)) h in cc);
  takes = λ v a b q h p. absurd (let z = subst (λ (o : Body). says_lost n o ≡ true) (sym (Some_inj q)) h in cc);
})

ask_lost : (generation : ℕ) (g : Log) (ballot from n : ℕ) (x : Body) → digest_answer generation g from (digest_decision g ballot from) ≡ Some x → says_lost n x ≡ true → 0 < home_epoch n → is_lost g (home_epoch n) ≡ true
ask_lost generation g ballot from n x = ask_decided g ballot from (λ d. digest_answer generation g from d ≡ Some x → says_lost n x ≡ true → 0 < home_epoch n → is_lost g (home_epoch n) ≡ true) (record {
  lost = λ t q h p. let z = eqb-true from n (subst (λ (o : Body). says_lost n o ≡ true) (sym (Some_inj q)) h) in lost_home g n (subst (λ m. is_lost g (epoch_of m) ≡ true) z t) p;
  clean = λ y t k q h p. absurd (let z = subst (λ (o : Body). says_lost n o ≡ true) (sym (Some_inj q)) h in cc);
  sealed = λ v k q h p. absurd (let z = subst (λ (o : Body). says_lost n o ≡ true) (sym (Some_inj q)) h in cc);
  same = λ v k q h p. absurd (let z = subst (λ (o : Body). says_lost n o ≡ true) (sym (Some_inj q)) h in cc);
  takes = λ v k q h p. absurd (let z = subst (λ (o : Body). says_lost n o ≡ true) (sym (Some_inj q)) h in cc);
})

read_lost : (generation : ℕ) (g : Log) (released round from n : ℕ) → says_lost n (read_answer generation g released round from) ≡ true → is_lost g (home_epoch n) ≡ true
read_lost generation g released round from n = read_answered generation g released round from (λ b. says_lost n b ≡ true → is_lost g (home_epoch n) ≡ true) (record {
  trimmed = λ h z. absurd cc;
  ended = λ y a h k z. absurd cc;
  lost_clean = λ y a h k t z. subst (λ m. is_lost g (home_epoch m) ≡ true) (eqb-true from n z) t;
  lost = λ a h t z. subst (λ m. is_lost g (home_epoch m) ≡ true) (eqb-true from n z) t;
  clean = λ y a h k t z. absurd cc;
  open_page = λ a h t u z. absurd cc;
  waits = λ a z. absurd cc;
})

no_answer : (g : Log) (l : ℕ) (b x : Body) → (on_page g l b).answer ≡ Some x → ⊥
unfolding on_page
no_answer g l b x q = cc

one_lost : (self : ℕ) (set excluded : List Bool) (n : ℕ) (b : Body) → says_lost n (withheld_in self set excluded b) ≡ says_lost n b
one_lost self set excluded n (bodies.ReadPage round from upto clean es) = refl
one_lost self set excluded n _ = refl

pub lost_answer : (self generation : ℕ) (g : Log) (l ballot released n : ℕ) (b x : Body) → (handled_by self generation g l ballot released b).answer ≡ Some x → says_lost n x ≡ true → 0 < home_epoch n → is_lost g (home_epoch n) ≡ true
unfolding on_store on_digest_ask on_clean on_trim
lost_answer self generation g l ballot released n (bodies.Store m lng w) x q h p = store_lost generation g (record { number = m; ballot = ballot; what = w }) n x q h p
lost_answer self generation g l ballot released n (bodies.DigestAsk from) x q h p = ask_lost generation g ballot from n x q h p
lost_answer self generation g l ballot released n (bodies.Clean e y) x q h p = absurd cc
lost_answer self generation g l ballot released n (bodies.Trim t) x q h p = absurd cc
lost_answer self generation g l ballot released n (bodies.ReadAsk round from) x q h p = read_lost generation g released round from n (subst (λ (o : Body). says_lost n o ≡ true) (sym (Some_inj q)) h)
lost_answer self generation g l ballot released n (bodies.ReadOne round from set excluded) x q h p = of_one self set excluded (λ o. says_lost n o ≡ true → is_lost g (home_epoch n) ≡ true) generation g released round from (λ o k j. k (sym (one_lost self set excluded n o) ∙ j)) (read_lost generation g released round from n) (subst (λ (o : Body). says_lost n o ≡ true) (sym (Some_inj q)) h)
lost_answer self generation g l ballot released n b x q h p = absurd (no_answer g l b x q)

-- a page is of an epoch that is served
ask_page : (generation : ℕ) (g : Log) (ballot from e : ℕ) (x : Body) → digest_answer generation g from (digest_decision g ballot from) ≡ Some x → says_page e x ≡ true → Served g e
ask_page generation g ballot from e x = ask_decided g ballot from (λ d. digest_answer generation g from d ≡ Some x → says_page e x ≡ true → Served g e) (record {
  lost = λ t q h. absurd (let z = subst (λ (o : Body). says_page e o ≡ true) (sym (Some_inj q)) h in cc);
  clean = λ y t k q h. absurd (let z = subst (λ (o : Body). says_page e o ≡ true) (sym (Some_inj q)) h in cc);
  sealed = λ v k q h. absurd (let z = subst (λ (o : Body). says_page e o ≡ true) (sym (Some_inj q)) h in cc);
  same = λ v k q h. subst (Served g) (eqb-true (epoch_of from) e (subst (λ (o : Body). says_page e o ≡ true) (sym (Some_inj q)) h)) v;
  takes = λ v k q h. subst (Served g) (eqb-true (epoch_of from) e (subst (λ (o : Body). says_page e o ≡ true) (sym (Some_inj q)) h)) v;
})

store_page : (generation : ℕ) (g : Log) (e : Entry) (k : ℕ) (x : Body) → store_answer generation e.number (store_decision g e) ≡ Some x → says_page k x ≡ true → ⊥
store_page generation g e k x = store_decided g e (λ d. store_answer generation e.number d ≡ Some x → says_page k x ≡ true → ⊥) (record {
  lost = λ t q h. (let z = subst (λ (o : Body). says_page k o ≡ true) (sym (Some_inj q)) h in cc);
  clean = λ y t u q h. (let z = subst (λ (o : Body). says_page k o ≡ true) (sym (Some_inj q)) h in cc);
  trimmed = λ v u q h. (let z = subst (λ (o : Body). says_page k o ≡ true) (sym (Some_inj q)) h in cc);
  sealed = λ v a u q h. (let z = subst (λ (o : Body). says_page k o ≡ true) (sym (Some_inj q)) h in cc);
  same = λ v a b u q h. (let z = subst (λ (o : Body). says_page k o ≡ true) (sym (Some_inj q)) h in cc);
  takes = λ v a b q h. (let z = subst (λ (o : Body). says_page k o ≡ true) (sym (Some_inj q)) h in cc);
})

read_page_none : (generation : ℕ) (g : Log) (released round from k : ℕ) → says_page k (read_answer generation g released round from) ≡ false
read_page_none generation g released round from k = read_answered generation g released round from (λ b. says_page k b ≡ false) (record { trimmed = λ h. refl; ended = λ y a h z. refl; lost_clean = λ y a h z t. refl; lost = λ a h t. refl; clean = λ y a h z t. refl; open_page = λ a h t u. refl; waits = λ a. refl })

pub page_answer : (self generation : ℕ) (g : Log) (l ballot released e : ℕ) (b x : Body) → (handled_by self generation g l ballot released b).answer ≡ Some x → says_page e x ≡ true → Served g e
unfolding on_store on_digest_ask on_clean on_trim
page_answer self generation g l ballot released e (bodies.Store m lng w) x q h = absurd (store_page generation g (record { number = m; ballot = ballot; what = w }) e x q h)
page_answer self generation g l ballot released e (bodies.DigestAsk from) x q h = ask_page generation g ballot from e x q h
page_answer self generation g l ballot released e (bodies.Clean k y) x q h = absurd cc
page_answer self generation g l ballot released e (bodies.Trim t) x q h = absurd cc
page_answer self generation g l ballot released e (bodies.ReadAsk round from) x q h = absurd (not_both (says_page e x) h (subst (λ (o : Body). says_page e o ≡ false) (Some_inj q) (read_page_none generation g released round from e)))
page_answer self generation g l ballot released e (bodies.ReadOne round from set excluded) x q h = absurd (not_both (says_page e x) h (subst (λ (o : Body). says_page e o ≡ false) (Some_inj q) (one_kind self set excluded (says_page e) false (λ a b z k es fs. refl) generation g released round from (read_page_none generation g released round from e))))
page_answer self generation g l ballot released e b x q h = absurd (no_answer g l b x q)

pub served_not : (p : Plain) (l e : ℕ) → 0 < p.generation → Served (log_of p l) e → Unserved p l e → ⊥
served_not p l e g v (inl h) = omega arith
served_not p l e g v (inr (inl h)) = not_both (is_lost (log_of p l) e) h v.found_here
served_not p l e g v (inr (inr h)) = let z : is_some (summary_at (log_of p l) e) ≡ false = ap is_some v.unclean in not_both _ h z

-- ---- messages to sequencers ----

-- what is posted goes to nodes
posted_on : (who : Who) (l : ℕ) (bs : List (ℕ × Body)) (m : Msg) (b : ℕ) → In m (posted who l bs) → m.to ≡ whos.Sequencer b → ⊥
posted_on who l [] m b i t = i
posted_on who l (x ∷ bs) m b (inl e) t = let z : whos.Node x.0 ≡ whos.Sequencer b = sym (ap (λ (y : Msg). y.to) e) ∙ t in cc
posted_on who l (x ∷ bs) m b (inr i) t = posted_on who l bs m b i t

-- each node that told a sequencer that it is lost for an epoch doesn't serve it, and was lost for it, and the epoch was handed out
abbrev pub SaidLost : State → Type 0
SaidLost s = (l y b n round g end : ℕ) → In (from_node l y b (bodies.LostHere n round g end)) s.network.sent → 0 < home_epoch n → (home_epoch n ≤ (epochs_of s.register l).epoch) × AllUnserved (node_at s y) l (home_epoch n) × AllFallen (node_at s y) l (home_epoch n)

module _ (c : Config) (w : World) (e : Move) (ups : (y : ℕ) → UpFine (node_at w.state y)) (within : (y : ℕ) → LostWithin w.state.register (node_at w.state y)) where
  -- what holds of the messages of a step
  record NewSaid (ms : List Msg) : Type 0 where
    lost : (m : Msg) (l y b n : ℕ) → In m ms → m.from ≡ whos.Node y → m.to ≡ whos.Sequencer b → m.log ≡ l → says_lost n m.body ≡ true → 0 < home_epoch n → (home_epoch n ≤ (epochs_of w.state.register l).epoch) × AllUnserved (node_at w.state y) l (home_epoch n) × AllFallen (node_at w.state y) l (home_epoch n)
    page : (m : Msg) (l y b k : ℕ) → In m ms → m.from ≡ whos.Node y → m.to ≡ whos.Sequencer b → m.log ≡ l → says_page k m.body ≡ true → AllUnserved (node_at w.state y) l k → ⊥

  none_said : NewSaid []
  none_said = record { lost = λ m l y b n i. absurd i; page = λ m l y b k i. absurd i }

  elsewhere_said : (ms : List Msg) → ((m : Msg) → In m ms → (b : ℕ) → m.to ≡ whos.Sequencer b → ⊥) → NewSaid ms
  elsewhere_said ms h = record { lost = λ m l y b n i f t. absurd (h m i b t); page = λ m l y b k i f t. absurd (h m i b t) }

  same_node : {x y : ℕ} → whos.Node x ≡ whos.Node y → x ≡ y
  same_node z = cc

  -- a node that is up has one plain state
  one_state : (n l : ℕ) → Serves c w.state n l → (p : Plain) → MayHold (node_at w.state n) p → p ≡ (node_at w.state n).plain
  one_state n l v p (inl q) = q
  one_state n l v p (inr k) = absurd (let z : None ≡ Some k.0 = sym (ups n v.up).0 ∙ k.1 in not_none z)

  answer_said : (n : ℕ) (m : Msg) (x : Body) → Serves c w.state n m.log → (Step.node_handles n (node_at w.state n) m).answer ≡ Some x → NewSaid (record { from = whos.Node n; to = m.from; log = m.log; body = x } ∷ [])
  answer_said n m x v a = record {
    lost = λ z l y b k i f t g h p.
        let o = only z _ i in
        let node : n ≡ y = same_node (sym (ap (λ (u : Msg). u.from) o) ∙ f) in
        let lg : m.log ≡ l = sym (ap (λ (u : Msg). u.log) o) ∙ g in
        let ls : is_lost (log_of (node_at w.state n).plain m.log) (home_epoch k) ≡ true = lost_answer _ _ _ _ _ _ k m.body x a (subst (λ (u : Body). says_lost k u ≡ true) (ap (λ (u : Msg). u.body) o) h) p in
        let there : (q : Plain) → MayHold (node_at w.state n) q → is_lost (log_of q m.log) (home_epoch k) ≡ true = λ q r. subst (λ u. is_lost (log_of u m.log) (home_epoch k) ≡ true) (sym (one_state n m.log v q r)) ls in
        subst (λ j. (home_epoch k ≤ (epochs_of w.state.register l).epoch) × AllUnserved (node_at w.state j) l (home_epoch k) × AllFallen (node_at w.state j) l (home_epoch k)) node
        (subst (λ j. (home_epoch k ≤ (epochs_of w.state.register j).epoch) × AllUnserved (node_at w.state n) j (home_epoch k) × AllFallen (node_at w.state n) j (home_epoch k)) lg
        (within n (node_at w.state n).plain (inl refl) m.log (home_epoch k) ls, (λ q r. inr (inl (there q r))), λ q r. inr (lost_fallen q m.log (home_epoch k) (there q r))));
    page = λ z l y b k i f t g h u.
        let o = only z _ i in
        let node : y ≡ n = same_node (sym f ∙ ap (λ (u : Msg). u.from) o) in
        let lg : l ≡ m.log = sym g ∙ ap (λ (u : Msg). u.log) o in
        let sv = page_answer _ _ (log_of (node_at w.state n).plain m.log) _ _ _ k m.body x a (subst (λ (u : Body). says_page k u ≡ true) (ap (λ (u : Msg). u.body) o) h) in
        let un : Unserved (node_at w.state n).plain l k = subst (λ j. AllUnserved (node_at w.state j) l k) node u (node_at w.state n).plain (inl refl) in
        served_not (node_at w.state n).plain m.log k (ups n v.up).1 sv (subst (λ j. Unserved (node_at w.state n).plain j k) lg un);
  }

  said_talk : TalkKeeps c w.state e (λ ms ds. NewSaid ms)
  said_talk = record {
    quiet = none_said;
    elsewhere = λ ms f. elsewhere_said ms (λ m i b t. let z : whos.Node (f m i).node ≡ whos.Sequencer b = sym (f m i).to ∙ t in cc);
    answers = λ n m x i t v a. answer_said n m x v a;
    reads = λ name d m i t v. elsewhere_said _ (λ m i b t. posted_on _ _ _ m b i t);
    polls = λ name d v. elsewhere_said _ (λ m i b t. posted_on _ _ _ m b i t);
    opens = λ style name l from until o. none_said;
  }

  pub said_step : NamesOnce w.state → ((l : ℕ) → (epochs_of w.state.register l).epoch ≤ (epochs_of (after_step c w e).state.register l).epoch) → SaidLost w.state → SaidLost (after_step c w e).state
  said_step N up S l y b n round g end i p =
      let t = talked c w.state e (λ ms ds. NewSaid ms) said_talk N in
      let z : (home_epoch n ≤ (epochs_of w.state.register l).epoch) × AllUnserved (node_at w.state y) l (home_epoch n) × AllFallen (node_at w.state y) l (home_epoch n) = elim (new_or_old c w.state e (from_node l y b (bodies.LostHere n round g end)) t.same i) [
        | inl o ↦ S l y b n round g end o p
        | inr o ↦ t.talk.lost (from_node l y b (bodies.LostHere n round g end)) l y b n o refl refl refl (eq-eqb n n refl) p
      ] in let u = up l in let v = z.0 in (omega arith, unserved_step c w e N y l (home_epoch n) p z.0 z.1, fallen_step c w e N y l (home_epoch n) p z.0 z.2)

  -- a node that doesn't serve an epoch gives no page of it
  pub page_before : NamesOnce w.state → (l y b from upto trim lng : ℕ) (es : List Entry) → AllUnserved (node_at w.state y) l (epoch_of from) → In (from_node l y b (bodies.DigestPage from upto trim lng es)) (after_step c w e).state.network.sent → In (from_node l y b (bodies.DigestPage from upto trim lng es)) w.state.network.sent
  page_before N l y b from upto trim lng es u i = let t = talked c w.state e (λ ms ds. NewSaid ms) said_talk N in elim (new_or_old c w.state e (from_node l y b (bodies.DigestPage from upto trim lng es)) t.same i) [
    | inl o ↦ o
    | inr o ↦ absurd (t.talk.page (from_node l y b (bodies.DigestPage from upto trim lng es)) l y b (epoch_of from) o refl refl refl (eq-eqb (epoch_of from) (epoch_of from) refl) u)
  ]
