-- Who tells a sequencer that it trimmed a number, or gives it a page of an epoch, is a node that was fixed for the epoch: it was asked, and still serves it.
use Rattle.std.proofs.Common.{◌≡◌, ◌∙◌, ◌⊎◌, ◌<◌, ℕ, inl, inr, refl, ap, sym, subst, Bool, true, false, ◌==◌, List, [], ◌∷◌, Some}
use Rattle.std.proofs.lemmas.Bool.{eqb-true, eq-eqb}
use Rattle.ld_lsn.specs.Number.{epoch_of}
use Rattle.ld_config.specs.declared.config.Config.{Config}
use Rattle.ld_msg.specs.declared.msg.What.{What}
use Rattle.ld_msg.specs.declared.msg.Msg.{Msg}
use Rattle.ld_msg.specs.declared.msg.Who.{Who}
use Rattle.ld_msg.specs.declared.msg.Who.TheVariants as whos
use Rattle.ld_msg.specs.declared.msg.Entry.{Entry}
use Rattle.ld_msg.specs.declared.msg.Body.{Body}
use Rattle.ld_msg.specs.declared.msg.Body.TheVariants as bodies
use Rattle.ld_op.specs.Plain.{Log, log_of}
use Rattle.ld_op.specs.Answers.{store_decision, digest_decision, store_answer, digest_answer, on_store, on_digest_ask, on_clean, on_trim, read_answer}
use Rattle.ld_op.specs.Handles.{handled_by}
use Rattle.ld_op.specs.Ticks.{on_page}
use Rattle.ld_msg.specs.Register.{Register}
use Rattle.ld_machine.specs.Config.{fixed_at}
use Rattle.ld_machine.specs.State.{node_at, posted}
use Rattle.ld_machine.specs.World.{World, In, from_node}
use Rattle.ld_machine.specs.Run.{after_step}
use Rattle.ld_machine.specs.Step as Step
use Rattle.ld_safety.proofs.Lists.{Some_inj, not_both, only}
use Rattle.ld_safety.proofs.NodeSteps.{Served, store_decided, ask_decided, read_answered}
use Rattle.ld_safety.proofs.Events.{NamesOnce, Serves}
use Rattle.ld_safety.proofs.HoldSteps.{UpFine}
use Rattle.ld_safety.proofs.Registers.{Reached}
use Rattle.ld_safety.proofs.LostTalk.{TalkKeeps, talked, new_or_old}
use Rattle.ld_safety.proofs.LostSaid.{served_not}
use Rattle.ld_safety.proofs.InSet.{MayGo, Goes, AskGoes, InEpoch, InSent}
use Rattle.ld_safety.proofs.Joins.{JoinedFine}
use Rattle.ld_safety.proofs.Withheld.{one_kind}
use Rattle.ld_machine.specs.Calm.{Move}

-- ---- what was asked ----
abbrev says_trim : ℕ → Body → Bool
says_trim n (bodies.TrimmedHere m t) = m == n
says_trim n _ = false

abbrev begins_at : ℕ → Body → Bool
begins_at n (bodies.DigestPage from upto trim lng es) = from == n
begins_at n _ = false

-- a store of the number, of an epoch that is served
abbrev StoreOf : Log → ℕ → Body → Type 0
StoreOf g n b = ((lng : ℕ) × (x : What) × (b ≡ bodies.Store n lng x)) × Served g (epoch_of n)

abbrev AskOf : Log → ℕ → Body → Type 0
AskOf g n b = (b ≡ bodies.DigestAsk n) × Served g (epoch_of n)

store_trim : (generation : ℕ) (g : Log) (m ballot lng : ℕ) (w : What) (n : ℕ) (x : Body) → store_answer generation m (store_decision g (record { number = m; ballot = ballot; what = w })) ≡ Some x → says_trim n x ≡ true → StoreOf g n (bodies.Store m lng w)
store_trim generation g m ballot lng w n x = store_decided g (record { number = m; ballot = ballot; what = w }) (λ d. store_answer generation m d ≡ Some x → says_trim n x ≡ true → StoreOf g n (bodies.Store m lng w)) (record {
  lost = λ t q h. absurd (let z = subst (λ (o : Body). says_trim n o ≡ true) (sym (Some_inj q)) h in cc);
  clean = λ y t k q h. absurd (let z = subst (λ (o : Body). says_trim n o ≡ true) (sym (Some_inj q)) h in cc);
  trimmed = λ v k q h. (let z = eqb-true m n (subst (λ (o : Body). says_trim n o ≡ true) (sym (Some_inj q)) h) in ((lng, w, ap (λ j. bodies.Store j lng w) z), subst (λ j. Served g (epoch_of j)) z v));
  sealed = λ v a k q h. absurd (let z = subst (λ (o : Body). says_trim n o ≡ true) (sym (Some_inj q)) h in cc);
  same = λ v a b k q h. absurd (let z = subst (λ (o : Body). says_trim n o ≡ true) (sym (Some_inj q)) h in cc);
  takes = λ v a b q h. absurd (let z = subst (λ (o : Body). says_trim n o ≡ true) (sym (Some_inj q)) h in cc);
})

store_begins : (generation : ℕ) (g : Log) (e : Entry) (n : ℕ) (x : Body) → store_answer generation e.number (store_decision g e) ≡ Some x → begins_at n x ≡ true → ⊥
store_begins generation g e n x = store_decided g e (λ d. store_answer generation e.number d ≡ Some x → begins_at n x ≡ true → ⊥) (record {
  lost = λ t q h. (let z = subst (λ (o : Body). begins_at n o ≡ true) (sym (Some_inj q)) h in cc);
  clean = λ y t u q h. (let z = subst (λ (o : Body). begins_at n o ≡ true) (sym (Some_inj q)) h in cc);
  trimmed = λ v u q h. (let z = subst (λ (o : Body). begins_at n o ≡ true) (sym (Some_inj q)) h in cc);
  sealed = λ v a u q h. (let z = subst (λ (o : Body). begins_at n o ≡ true) (sym (Some_inj q)) h in cc);
  same = λ v a b u q h. (let z = subst (λ (o : Body). begins_at n o ≡ true) (sym (Some_inj q)) h in cc);
  takes = λ v a b q h. (let z = subst (λ (o : Body). begins_at n o ≡ true) (sym (Some_inj q)) h in cc);
})

ask_trim : (generation : ℕ) (g : Log) (ballot from n : ℕ) (x : Body) → digest_answer generation g from (digest_decision g ballot from) ≡ Some x → says_trim n x ≡ true → ⊥
ask_trim generation g ballot from n x = ask_decided g ballot from (λ d. digest_answer generation g from d ≡ Some x → says_trim n x ≡ true → ⊥) (record {
  lost = λ t q h. (let z = subst (λ (o : Body). says_trim n o ≡ true) (sym (Some_inj q)) h in cc);
  clean = λ y t k q h. (let z = subst (λ (o : Body). says_trim n o ≡ true) (sym (Some_inj q)) h in cc);
  sealed = λ v k q h. (let z = subst (λ (o : Body). says_trim n o ≡ true) (sym (Some_inj q)) h in cc);
  same = λ v k q h. (let z = subst (λ (o : Body). says_trim n o ≡ true) (sym (Some_inj q)) h in cc);
  takes = λ v k q h. (let z = subst (λ (o : Body). says_trim n o ≡ true) (sym (Some_inj q)) h in cc);
})

ask_begins : (generation : ℕ) (g : Log) (ballot from n : ℕ) (x : Body) → digest_answer generation g from (digest_decision g ballot from) ≡ Some x → begins_at n x ≡ true → AskOf g n (bodies.DigestAsk from)
ask_begins generation g ballot from n x = ask_decided g ballot from (λ d. digest_answer generation g from d ≡ Some x → begins_at n x ≡ true → AskOf g n (bodies.DigestAsk from)) (record {
  lost = λ t q h. absurd (let z = subst (λ (o : Body). begins_at n o ≡ true) (sym (Some_inj q)) h in cc);
  clean = λ y t k q h. absurd (let z = subst (λ (o : Body). begins_at n o ≡ true) (sym (Some_inj q)) h in cc);
  sealed = λ v k q h. absurd (let z = subst (λ (o : Body). begins_at n o ≡ true) (sym (Some_inj q)) h in cc);
  same = λ v k q h. (let z = eqb-true from n (subst (λ (o : Body). begins_at n o ≡ true) (sym (Some_inj q)) h) in (ap bodies.DigestAsk z, subst (λ j. Served g (epoch_of j)) z v));
  takes = λ v k q h. (let z = eqb-true from n (subst (λ (o : Body). begins_at n o ≡ true) (sym (Some_inj q)) h) in (ap bodies.DigestAsk z, subst (λ j. Served g (epoch_of j)) z v));
})

read_neither : (generation : ℕ) (g : Log) (released round from n : ℕ) → (says_trim n (read_answer generation g released round from) ≡ false) × (begins_at n (read_answer generation g released round from) ≡ false)
read_neither generation g released round from n = read_answered generation g released round from (λ b. (says_trim n b ≡ false) × (begins_at n b ≡ false)) (record { trimmed = λ h. (refl, refl); ended = λ y a h z. (refl, refl); lost_clean = λ y a h z t. (refl, refl); lost = λ a h t. (refl, refl); clean = λ y a h z t. (refl, refl); open_page = λ a h t u. (refl, refl); waits = λ a. (refl, refl) })

no_answer : (g : Log) (l : ℕ) (b x : Body) → (on_page g l b).answer ≡ Some x → ⊥
unfolding on_page
no_answer g l b x q = cc

trim_asked : (self generation : ℕ) (g : Log) (l ballot released n : ℕ) (b x : Body) → (handled_by self generation g l ballot released b).answer ≡ Some x → says_trim n x ≡ true → StoreOf g n b
unfolding on_store on_digest_ask on_clean on_trim
trim_asked self generation g l ballot released n (bodies.Store m lng w) x q h = store_trim generation g m ballot lng w n x q h
trim_asked self generation g l ballot released n (bodies.DigestAsk from) x q h = absurd (ask_trim generation g ballot from n x q h)
trim_asked self generation g l ballot released n (bodies.Clean e y) x q h = absurd cc
trim_asked self generation g l ballot released n (bodies.Trim t) x q h = absurd cc
trim_asked self generation g l ballot released n (bodies.ReadAsk round from) x q h = absurd (not_both (says_trim n x) h (subst (λ (o : Body). says_trim n o ≡ false) (Some_inj q) (read_neither generation g released round from n).0))
trim_asked self generation g l ballot released n (bodies.ReadOne round from set excluded) x q h = absurd (not_both (says_trim n x) h (subst (λ (o : Body). says_trim n o ≡ false) (Some_inj q) (one_kind self set excluded (says_trim n) false (λ a b z k es fs. refl) generation g released round from (read_neither generation g released round from n).0)))
trim_asked self generation g l ballot released n b x q h = absurd (no_answer g l b x q)

page_asked : (self generation : ℕ) (g : Log) (l ballot released n : ℕ) (b x : Body) → (handled_by self generation g l ballot released b).answer ≡ Some x → begins_at n x ≡ true → AskOf g n b
unfolding on_store on_digest_ask on_clean on_trim
page_asked self generation g l ballot released n (bodies.Store m lng w) x q h = absurd (store_begins generation g (record { number = m; ballot = ballot; what = w }) n x q h)
page_asked self generation g l ballot released n (bodies.DigestAsk from) x q h = ask_begins generation g ballot from n x q h
page_asked self generation g l ballot released n (bodies.Clean k y) x q h = absurd cc
page_asked self generation g l ballot released n (bodies.Trim t) x q h = absurd cc
page_asked self generation g l ballot released n (bodies.ReadAsk round from) x q h = absurd (not_both (begins_at n x) h (subst (λ (o : Body). begins_at n o ≡ false) (Some_inj q) (read_neither generation g released round from n).1))
page_asked self generation g l ballot released n (bodies.ReadOne round from set excluded) x q h = absurd (not_both (begins_at n x) h (subst (λ (o : Body). begins_at n o ≡ false) (Some_inj q) (one_kind self set excluded (begins_at n) false (λ a b z k es fs. refl) generation g released round from (read_neither generation g released round from n).1)))
page_asked self generation g l ballot released n b x q h = absurd (no_answer g l b x q)

-- ---- messages to sequencers ----

abbrev pub TrimmedOf : Config → Register → List Msg → Type 0
TrimmedOf c r ms = (l y b n t : ℕ) → In (from_node l y b (bodies.TrimmedHere n t)) ms → Reached r l (epoch_of n) × In y (fixed_at c r l (epoch_of n))

posted_on : (who : Who) (l : ℕ) (bs : List (ℕ × Body)) (m : Msg) (b : ℕ) → In m (posted who l bs) → m.to ≡ whos.Sequencer b → ⊥
posted_on who l [] m b i t = i
posted_on who l (x ∷ bs) m b (inl e) t = let z : whos.Node x.0 ≡ whos.Sequencer b = sym (ap (λ (y : Msg). y.to) e) ∙ t in cc
posted_on who l (x ∷ bs) m b (inr i) t = posted_on who l bs m b i t

module _ (c : Config) (w : World) (v : Move) (N : NamesOnce w.state) (ups : (y : ℕ) → UpFine (node_at w.state y)) (J : JoinedFine w.joined w.state) (S : InSent c w.state.register w.joined w.made w.state.network.sent) where
  abbrev Of : ℕ → ℕ → ℕ → Type 0
  Of l e y = Reached w.state.register l e × In y (fixed_at c w.state.register l e)

  record NewAnswers (ms : List Msg) : Type 0 where
    trim : (m : Msg) (l y b n : ℕ) → In m ms → m.from ≡ whos.Node y → m.to ≡ whos.Sequencer b → m.log ≡ l → says_trim n m.body ≡ true → Of l (epoch_of n) y
    page : (m : Msg) (l y b n : ℕ) → In m ms → m.from ≡ whos.Node y → m.to ≡ whos.Sequencer b → m.log ≡ l → begins_at n m.body ≡ true → Of l (epoch_of n) y

  none_new : NewAnswers []
  none_new = record { trim = λ m l y b n i. absurd i; page = λ m l y b n i. absurd i }

  elsewhere_new : (ms : List Msg) → ((m : Msg) → In m ms → (b : ℕ) → m.to ≡ whos.Sequencer b → ⊥) → NewAnswers ms
  elsewhere_new ms h = record { trim = λ m l y b n i f t. absurd (h m i b t); page = λ m l y b n i f t. absurd (h m i b t) }

  same_node : {x y : ℕ} → whos.Node x ≡ whos.Node y → x ≡ y
  same_node z = cc

  -- a node that serves the epoch didn't take a place in it
  serving : (l e y : ℕ) → 0 < (node_at w.state y).plain.generation → Served (log_of (node_at w.state y).plain l) e → InEpoch c w.state.register w.joined l e y → In y (fixed_at c w.state.register l e)
  serving l e y g s (inl i) = i
  serving l e y g s (inr j) = absurd (served_not (node_at w.state y).plain l e g s ((J l e y j).unserved (node_at w.state y).plain (inl refl)))

  store_of : (l y b n : ℕ) (k : Body) → 0 < (node_at w.state y).plain.generation → StoreOf (log_of (node_at w.state y).plain l) n k → MayGo (Goes c w.state.register w.joined w.made l b) (AskGoes c w.state.register w.joined l) y k → Of l (epoch_of n) y
  store_of l y b n k g h m = let z : Goes c w.state.register w.joined w.made l b y n h.0.0 = subst (MayGo (Goes c w.state.register w.joined w.made l b) (AskGoes c w.state.register w.joined l) y) h.0.2 m in (z.0, serving l (epoch_of n) y g h.1 z.1)

  ask_of : (l y b n : ℕ) (k : Body) → 0 < (node_at w.state y).plain.generation → AskOf (log_of (node_at w.state y).plain l) n k → MayGo (Goes c w.state.register w.joined w.made l b) (AskGoes c w.state.register w.joined l) y k → Of l (epoch_of n) y
  ask_of l y b n k g h m = let z : AskGoes c w.state.register w.joined l y n = subst (MayGo (Goes c w.state.register w.joined w.made l b) (AskGoes c w.state.register w.joined l) y) h.0 m in (z.0, serving l (epoch_of n) y g h.1 z.1)

  answer_new : (n : ℕ) (m : Msg) (x : Body) → In m w.state.network.sent → m.to ≡ whos.Node n → Serves c w.state n m.log → (Step.node_handles n (node_at w.state n) m).answer ≡ Some x → NewAnswers (record { from = whos.Node n; to = m.from; log = m.log; body = x } ∷ [])
  answer_new n m x i t v a = record {
    trim = λ z l y b k j f to g h. (let o = only z _ j in
        let node : n ≡ y = same_node (sym (ap (λ (u : Msg). u.from) o) ∙ f) in
        let lg : m.log ≡ l = sym (ap (λ (u : Msg). u.log) o) ∙ g in
        let from : m.from ≡ whos.Sequencer b = sym (ap (λ (u : Msg). u.to) o) ∙ to in
        subst (Of l (epoch_of k)) node (subst (λ p. Of p (epoch_of k) n) lg (store_of m.log n b k m.body (ups n v.up).1 (trim_asked _ _ (log_of (node_at w.state n).plain m.log) _ _ _ k m.body x a (subst (λ (u : Body). says_trim k u ≡ true) (ap (λ (u : Msg). u.body) o) h)) (S m i b n from t))));
    page = λ z l y b k j f to g h. (let o = only z _ j in
        let node : n ≡ y = same_node (sym (ap (λ (u : Msg). u.from) o) ∙ f) in
        let lg : m.log ≡ l = sym (ap (λ (u : Msg). u.log) o) ∙ g in
        let from : m.from ≡ whos.Sequencer b = sym (ap (λ (u : Msg). u.to) o) ∙ to in
        subst (Of l (epoch_of k)) node (subst (λ p. Of p (epoch_of k) n) lg (ask_of m.log n b k m.body (ups n v.up).1 (page_asked _ _ (log_of (node_at w.state n).plain m.log) _ _ _ k m.body x a (subst (λ (u : Body). begins_at k u ≡ true) (ap (λ (u : Msg). u.body) o) h)) (S m i b n from t))));
  }

  new_talk : TalkKeeps c w.state v (λ ms ds. NewAnswers ms)
  new_talk = record {
    quiet = none_new;
    elsewhere = λ ms f. elsewhere_new ms (λ m i b t. let z : whos.Node (f m i).node ≡ whos.Sequencer b = sym (f m i).to ∙ t in cc);
    answers = λ n m x i t u a. answer_new n m x i t u a;
    reads = λ name d m i t u. elsewhere_new _ (λ m i b t. posted_on _ _ _ m b i t);
    polls = λ name d u. elsewhere_new _ (λ m i b t. posted_on _ _ _ m b i t);
    opens = λ style name l from until o. none_new;
  }

  -- what is said in a step
  pub trims_answered : (l y b n t : ℕ) → In (from_node l y b (bodies.TrimmedHere n t)) (after_step c w v).state.network.sent → In (from_node l y b (bodies.TrimmedHere n t)) w.state.network.sent ⊎ (Reached w.state.register l (epoch_of n) × In y (fixed_at c w.state.register l (epoch_of n)))
  trims_answered l y b n t i = let k = talked c w.state v (λ ms ds. NewAnswers ms) new_talk N in elim (new_or_old c w.state v (from_node l y b (bodies.TrimmedHere n t)) k.same i) [
    | inl o ↦ inl o
    | inr o ↦ inr (k.talk.trim (from_node l y b (bodies.TrimmedHere n t)) l y b n o refl refl refl (eq-eqb n n refl))
  ]

  pub pages_answered : (l y b from upto t lng : ℕ) (es : List Entry) → In (from_node l y b (bodies.DigestPage from upto t lng es)) (after_step c w v).state.network.sent → In (from_node l y b (bodies.DigestPage from upto t lng es)) w.state.network.sent ⊎ (Reached w.state.register l (epoch_of from) × In y (fixed_at c w.state.register l (epoch_of from)))
  pages_answered l y b from upto t lng es i = let k = talked c w.state v (λ ms ds. NewAnswers ms) new_talk N in elim (new_or_old c w.state v (from_node l y b (bodies.DigestPage from upto t lng es)) k.same i) [
    | inl o ↦ inl o
    | inr o ↦ inr (k.talk.page (from_node l y b (bodies.DigestPage from upto t lng es)) l y b from o refl refl refl (eq-eqb from from refl))
  ]
