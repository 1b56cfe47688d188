-- What a reply or a retry makes a sequencer do, case by case, with the register's answer to its close.
use Rattle.std.proofs.Common.{inl, inr, ◌≡◌, ◌∙◌, ◌⊎◌, ◌≤◌, ◌<◌, ℕ, ◌+◌, refl, ap, sym, subst, Bool, true, false, not, ◌||◌, ◌&&◌, ◌==◌, nat_lt, nat_le, cond, if◌then◌else◌, List, [], ◌∷◌, ◌++◌, Option, Some, None, is_some, is_none}
use Rattle.std.proofs.lemmas.Bool.{cases_Bool, and_parts, not-true, eqb-true, ltb-true, leb-true, leb-false, eqb-false}
use Rattle.ld_table.specs.Table.{find}
use Rattle.ld_table.specs.Words.{is_in, with_one, all_of}
use Rattle.ld_lsn.specs.Number.{epoch_of, home_epoch, numbered}
use Rattle.ld_ids.specs.Choice.{nodes_of}
use Rattle.ld_ids.specs.declared.set.Spec.{Spec}
use Rattle.ld_config.specs.declared.config.Config.{Config}
use Rattle.ld_msg.specs.declared.msg.Summary.{Summary}
use Rattle.ld_msg.specs.declared.msg.Entry.{Entry}
use Rattle.ld_msg.specs.declared.msg.Who.{Who}
use Rattle.ld_msg.specs.declared.msg.Who.TheVariants as whos
use Rattle.ld_msg.specs.declared.msg.Body.{Body}
use Rattle.ld_msg.specs.declared.msg.Body.TheVariants as bodies
use Rattle.ld_msg.specs.Register.{Register, View, Changed, Granted, Fails, close, change, falls, journal_limit, record_length, lce_of, with_epochs, closed_epochs, epochs_of, is_overtaken}
use Rattle.ld_msg.specs.Digest.{Told, with_page, with_asks, with_lost, enough, is_spent, plan}
use Rattle.ld_msg.specs.Sequencer.{Sequencer, Recovery, Stage, Seals, Stores, Closes, Storing, Append, Acts, does_nothing, becomes, with_stage, preempt, acks_append, settled_by, is_ready, is_fully_ready, is_ready_short, summary_of, try_close, recovery_lost, lost_stage, goes_on, tells_clean, passes, takes_any, stores_plan, next_ask, seals_on, by_look, looks_now, with_digest, closes_ready, after_lost, after_close, retries_appends, in_recovery, of_member, settles, digests, adds_page, by_stored, by_trimmed, by_clean, by_reply, unless_preempted, on_reply, on_retry, asks_again, with_stores, item_stores, next_wave, next_try, retries_stage, retries_recovery, Called, called, answered}
use Rattle.ld_machine.specs.Config.{looks_at}
use Rattle.ld_machine.specs.Step.{sender_node}
use Rattle.ld_machine.specs.State.{State}
use Rattle.ld_machine.specs.World.{Made, gone_nodes, makes, makes_by, made_by, made_with, made_in, made_lost, made_anew, made_again, made_retried, lets_lose, page_from}
use Rattle.ld_safety.proofs.Lists.{cond_both}
use Rattle.ld_safety.proofs.RegisterSteps.{close_behind, close_overtaken, close_changes}

pub same_sender : (w : Who) → page_from w ≡ sender_node w
same_sender (whos.Node n) = refl
same_sender (whos.Sequencer e) = refl
same_sender (whos.Reader r) = refl

-- an answer that settles numbers of an epoch in recovery
pub data Settling (b : Body) (e : ℕ) (p : ℕ → Bool) : Type 0 where
  by_stored_one : (n : ℕ) → b ≡ bodies.Stored n → epoch_of n ≡ e → p ≡ (λ s. s == n) → Settling b e p
  by_trimmed_to : (n t : ℕ) → b ≡ bodies.TrimmedHere n t → epoch_of n ≡ e → p ≡ (λ s. nat_le s t) → Settling b e p

-- acts without a close
abbrev pub acts_with : Register → Acts → Called
acts_with r a = record { acts = a; register = r }

abbrev pub granted_acts : (ℕ → View) → Acts → ℕ → Summary → Acts
granted_acts looks a e y = record (goes_on looks (tells_clean a e y) e) { closed = numbered e y.end ∷ [] }

-- how a close ends
pub record Closing (r : Register) (looks : ℕ → View) (a : Acts) (e : ℕ) (y : Summary) (short : Bool) (Q : Called → Type 0) : Type 0 where
  pub granted : (n : Register) → lce_of r a.sequencer.log + 1 ≡ e → is_overtaken (epochs_of r a.sequencer.log) y short ≡ false → close r a.sequencer.log e y short ≡ record { register = n; answer = Granted } → Q (acts_with n (granted_acts looks a e y))
  pub passed : a.sequencer.epoch ≤ lce_of r a.sequencer.log → Q (acts_with r (preempt a (lce_of r a.sequencer.log + 1)))
  pub behind : (lce_of r a.sequencer.log + 1 ≡ e → ⊥) → lce_of r a.sequencer.log < a.sequencer.epoch → Q (acts_with r (goes_on looks a (lce_of r a.sequencer.log)))
  pub overtaken : lce_of r a.sequencer.log + 1 ≡ e → is_overtaken (epochs_of r a.sequencer.log) y short ≡ true → Q (acts_with r (preempt a (epochs_of r a.sequencer.log).epoch))
  pub failed : (n : Register) → close r a.sequencer.log e y short ≡ record { register = n; answer = Fails } → Q (acts_with n (record a { failed = true }))

pub close_full : Register → Bool
close_full r = nat_lt journal_limit (r.length + record_length 30) || falls r.armed

pub close_gives : (r : Register) (l e : ℕ) (y : Summary) (short : Bool) → lce_of r l + 1 ≡ e → is_overtaken (epochs_of r l) y short ≡ false → (b : Bool) → close_full r ≡ b → (n : Register) × (close r l e y short ≡ record { register = n; answer = if b then Fails else Granted })
unfolding change close_full
close_gives r l e y short h g b f = ((change r (with_epochs r l (closed_epochs (epochs_of r l) e y)) 30).register, close_changes r l e y short h g ∙ (λ i. record { register = (change r (with_epochs r l (closed_epochs (epochs_of r l) e y)) 30).register; answer = if f i then Fails else Granted }))

module _ (r : Register) (looks : ℕ → View) (a : Acts) (e : ℕ) (y : Summary) (short : Bool) (Q : Called → Type 0) (K : Closing r looks a e y short Q) where
  closed_by : (b : Bool) → close_full r ≡ b → lce_of r a.sequencer.log + 1 ≡ e → is_overtaken (epochs_of r a.sequencer.log) y short ≡ false → Q (answered looks a e y (close r a.sequencer.log e y short))
  unfolding after_close
  closed_by true f h o = let g = close_gives r a.sequencer.log e y short h o true f in subst (λ (d : Changed). Q (answered looks a e y d)) (sym g.1) (K.failed g.0 g.1)
  closed_by false f h o = let g = close_gives r a.sequencer.log e y short h o false f in subst (λ (d : Changed). Q (answered looks a e y d)) (sym g.1) (K.granted g.0 h o g.1)

  pub closing : Q (answered looks a e y (close r a.sequencer.log e y short))
  unfolding after_close
  closing = elim (cases_Bool (lce_of r a.sequencer.log + 1 == e)) [
    | inl t ↦ elim (cases_Bool (is_overtaken (epochs_of r a.sequencer.log) y short)) [
      | inl o ↦ subst (λ (d : Changed). Q (answered looks a e y d)) (sym (close_overtaken r a.sequencer.log e y short (eqb-true _ _ t) o)) (K.overtaken (eqb-true _ _ t) o)
      | inr o ↦ closed_by (close_full r) refl (eqb-true _ _ t) o
    ]
    | inr t ↦ subst (λ (d : Changed). Q (answered looks a e y d)) (sym (close_behind r a.sequencer.log e y short t))
        (cond_both (nat_le a.sequencer.epoch (lce_of r a.sequencer.log)) (preempt a (lce_of r a.sequencer.log + 1)) (goes_on looks a (lce_of r a.sequencer.log)) (λ x. Q (acts_with r x)) (λ u. K.passed (leb-true _ _ u)) (λ u. K.behind (eqb-false _ _ t) (leb-false _ _ u)))
  ]

-- ---- plans ----

-- the nodes that have nothing to tell of a recovered epoch
abbrev pub gone_of : State → Sequencer → Recovery → List ℕ
gone_of s q v = gone_nodes s q.log v.epoch (nodes_of v.spec)

abbrev pub plan_made : Sequencer → Recovery → Bool → List Told → List ℕ → Made
plan_made q v loss d g = record { log = q.log; epoch = v.epoch; ballot = q.epoch; loss = loss; digest = d; gone = g }

-- a digest is spent, and a look lets say what is lost
pub record SpentNow (w : View) (q : Sequencer) (v : Recovery) (d : List Told) : Type 0 where
  pub few : enough v.spec d ≡ false
  pub spent : is_spent v.spec d ≡ true
  pub open_still : w.summary ≡ None
  pub own : w.epoch ≡ q.epoch

-- why a plan is made: enough told, or the digest is spent
abbrev pub Planning : View → Sequencer → Recovery → List Told → Bool → Type 0
Planning w q v d loss = ((loss ≡ false) × (enough v.spec d ≡ true)) ⊎ ((loss ≡ true) × SpentNow w q v d)

-- a spent digest isn't enough
spent_few : (s : Spec) (d : List Told) → is_spent s d ≡ true → enough s d ≡ false
unfolding is_spent
spent_few s d h = let p = and_parts (all_of (λ (t : Told). t.whole || t.lost) d) (not (enough s d)) h in not-true (enough s d) p.1

-- a plan is ready to be closed
abbrev pub is_closing : Recovery → Storing → Bool
is_closing v g = is_fully_ready v.spec g || is_ready_short v.spec v.lost g

-- what a close of a plan is tried with
abbrev pub is_short : Recovery → Storing → Bool
is_short v g = not (is_fully_ready v.spec g)

abbrev pub closing_acts : Acts → Recovery → ℕ → Storing → Acts
closing_acts a v b g = try_close (becomes a (with_stage a.sequencer v (Closes (summary_of b g) (is_short v g)))) v.epoch (summary_of b g) (is_short v g)

-- ---- a reply ----

-- what a reply adds to a digest: a page, or that the node is lost
pub data Hearing (q : Sequencer) (y : ℕ) (b : Body) (w : Recovery) (d : List Told) : Type 0 where
  heard_page : (f : List Told) (from upto trim lng : ℕ) (es : List Entry) → q.recovery ≡ Some w → w.stage ≡ Seals f → b ≡ bodies.DigestPage from upto trim lng es → w.epoch ≡ epoch_of from → takes_any y from f ≡ true → d ≡ with_page w.epoch y from upto trim lng es f → Hearing q y b w d
  heard_lost : (v : Recovery) (f : List Told) (n round generation end : ℕ) → q.recovery ≡ Some v → v.stage ≡ Seals f → b ≡ bodies.LostHere n round generation end → home_epoch n ≡ v.epoch → w ≡ recovery_lost y v → d ≡ with_lost y f → Hearing q y b w d

-- what it adds to a plan that is stored: a node settles some items, or is lost
pub data Hearing_stored (q : Sequencer) (y : ℕ) (b : Body) (w : Recovery) (g : Storing) : Type 0 where
  heard_settled : (f : Storing) (p : ℕ → Bool) → q.recovery ≡ Some w → w.stage ≡ Stores f → Settling b w.epoch p → is_in y (nodes_of w.spec) ≡ true → g ≡ settled_by p y f → Hearing_stored q y b w g
  heard_gone : (v : Recovery) (n round generation end : ℕ) → q.recovery ≡ Some v → v.stage ≡ Stores g → b ≡ bodies.LostHere n round generation end → home_epoch n ≡ v.epoch → w ≡ recovery_lost y v → Hearing_stored q y b w g

-- what a reply adds leaves the epoch that is recovered
pub heard_epoch : (q : Sequencer) (y : ℕ) (b : Body) (w : Recovery) (d : List Told) (P : ℕ → Type 0) → ((v : Recovery) → q.recovery ≡ Some v → P v.epoch) → Hearing q y b w d → P w.epoch
heard_epoch q y b w d P h (heard_page f from upto trim lng es e k i g t j) = h w e
heard_epoch q y b w d P h (heard_lost v f n round generation end e k i g j z) = subst (λ (x : Recovery). P x.epoch) (sym j) (h v e)

pub stored_epoch : (q : Sequencer) (y : ℕ) (b : Body) (w : Recovery) (g : Storing) (P : ℕ → Type 0) → ((v : Recovery) → q.recovery ≡ Some v → P v.epoch) → Hearing_stored q y b w g → P w.epoch
stored_epoch q y b w g P h (heard_settled f p e k s m j) = h w e
stored_epoch q y b w g P h (heard_gone v n round generation end e k i j z) = subst (λ (x : Recovery). P x.epoch) (sym z) (h v e)

-- how a close comes about: it was tried before, or the plan is ready after a reply, or at a retry
pub data Ending (q : Sequencer) (heard : ℕ → Body → Type 0) (v : Recovery) (y : Summary) (short : Bool) : Type 0 where
  ends_again : v.stage ≡ Closes y short → Ending q heard v y short
  ends_settled : (f : Storing) (p : ℕ → Bool) (z : ℕ) (b : Body) → heard z b → v.stage ≡ Stores f → Settling b v.epoch p → is_in z (nodes_of v.spec) ≡ true → is_closing v (settled_by p z f) ≡ true → y ≡ summary_of q.epoch (settled_by p z f) → short ≡ is_short v (settled_by p z f) → Ending q heard v y short
  ends_lost : (f : Storing) (z n round generation end : ℕ) → heard z (bodies.LostHere n round generation end) → v.stage ≡ Stores f → home_epoch n ≡ v.epoch → is_closing (recovery_lost z v) f ≡ true → y ≡ summary_of q.epoch f → short ≡ is_short v f → Ending q heard v y short
  ends_ready : (f : Storing) → v.stage ≡ Stores f → is_closing v f ≡ true → y ≡ summary_of q.epoch f → short ≡ is_short v f → Ending q heard v y short

-- a summary of a plan that was stored
pub record OfStored (q : Sequencer) (v : Recovery) (y : Summary) : Type 0 where
  pub storing : Storing
  pub stage : v.stage ≡ Stores storing
  pub ballot : y.ballot ≡ q.epoch
  pub trim : y.trim ≡ storing.trim
  pub lng : y.lng ≡ storing.lng
  pub end : y.end ≡ storing.end
  pub loss : y.loss ≡ storing.loss

stored_summary : (q : Sequencer) (v : Recovery) (y : Summary) (f g : Storing) → v.stage ≡ Stores f → g.trim ≡ f.trim → g.lng ≡ f.lng → g.end ≡ f.end → g.loss ≡ f.loss → y ≡ summary_of q.epoch g → OfStored q v y
stored_summary q v y f g k t l e o i = record { storing = f; stage = k; ballot = ap (λ (x : Summary). x.ballot) i; trim = ap (λ (x : Summary). x.trim) i ∙ t; lng = ap (λ (x : Summary). x.lng) i ∙ l; end = ap (λ (x : Summary). x.end) i ∙ e; loss = ap (λ (x : Summary). x.loss) i ∙ o }

pub ended_by : (q : Sequencer) (heard : ℕ → Body → Type 0) (v : Recovery) (y : Summary) (short : Bool) → Ending q heard v y short → (v.stage ≡ Closes y short) ⊎ OfStored q v y
ended_by q heard v y short (ends_again k) = inl k
ended_by q heard v y short (ends_settled f p z b h k s m t i j) = inr (stored_summary q v y f (settled_by p z f) k refl refl refl refl i)
ended_by q heard v y short (ends_lost f z n round g end h k m t i j) = inr (stored_summary q v y f f k refl refl refl refl i)
ended_by q heard v y short (ends_ready f k t i j) = inr (stored_summary q v y f f k refl refl refl refl i)

-- of the recovery as it was before the reply
pub record Ended (q : Sequencer) (heard : ℕ → Body → Type 0) (w : Recovery) (g : Storing) : Type 0 where
  pub recovery : Recovery
  pub there : q.recovery ≡ Some recovery
  pub epoch : w.epoch ≡ recovery.epoch
  pub ending : Ending q heard recovery (summary_of q.epoch g) (is_short w g)

pub ending_of : (q : Sequencer) (heard : ℕ → Body → Type 0) (y : ℕ) (b : Body) (w : Recovery) (g : Storing) → heard y b → Hearing_stored q y b w g → is_closing w g ≡ true → Ended q heard w g
ending_of q heard y b w g H (heard_settled f p e k st m i) t = record { recovery = w; there = e; epoch = refl; ending = ends_settled f p y b H k st m (subst (λ x. is_closing w x ≡ true) i t) (ap (summary_of q.epoch) i) (ap (is_short w) i) }
ending_of q heard y b w g H (heard_gone v n round generation end e k i h j) t = record { recovery = v; there = e; epoch = ap (λ (x : Recovery). x.epoch) j; ending = ends_lost g y n round generation end (subst (heard y) i H) k h (subst (λ x. is_closing x g ≡ true) j t) refl (ap (λ x. is_short x g) j) }

-- the messages and answers of a sequencer that isn't preempted; what is made is the plans
pub record Acting (c : Config) (r : Register) (gone : Recovery → List ℕ) (q : Sequencer) (y : ℕ) (b : Body) (Q : Called → List Made → Type 0) : Type 0 where
  pub quiet : Q (acts_with r (does_nothing q)) []
  pub sealed : (n k : ℕ) → q.preempted ≡ None → b ≡ bodies.SealedHere n k → q.epoch < k → Q (acts_with r (preempt (does_nothing q) k)) []
  pub cleaned_own : (n : ℕ) (s : Summary) → q.preempted ≡ None → b ≡ bodies.CleanHere n s → home_epoch n ≡ q.epoch → Q (acts_with r (preempt (does_nothing q) s.ballot)) []
  pub acks : (n : ℕ) (p : Append) → q.preempted ≡ None → b ≡ bodies.Stored n → epoch_of n ≡ q.epoch → find n q.appends ≡ Some p → is_in y (nodes_of q.spec) ≡ true → Q (acts_with r (acks_append (does_nothing q) y n (Some p))) []
  pub lost_own : (n round generation end : ℕ) → q.preempted ≡ None → b ≡ bodies.LostHere n round generation end → home_epoch n ≡ q.epoch → Q (acts_with r (becomes (does_nothing q) (record q { lost = with_one y q.lost }))) []
  pub cleaned : (v : Recovery) (n : ℕ) (s : Summary) → q.preempted ≡ None → q.recovery ≡ Some v → b ≡ bodies.CleanHere n s → home_epoch n ≡ v.epoch →
      Q (acts_with r (goes_on (looks_at c r q.log) (tells_clean (does_nothing q) v.epoch s) v.epoch)) []
  -- a digest
  pub asks_more : (w : Recovery) (d : List Told) (asks : List (ℕ × Body)) → q.preempted ≡ None → Hearing q y b w d → (asks ≡ next_ask y d) ⊎ (asks ≡ []) → enough w.spec d ≡ false → is_spent w.spec d ≡ false → Q (acts_with r (seals_on (does_nothing q) w d asks)) []
  pub plans : (w : Recovery) (d : List Told) (loss : Bool) → q.preempted ≡ None → Hearing q y b w d → Planning (looks_at c r q.log w.epoch) q w d loss → Q (acts_with r (stores_plan (does_nothing q) w (plan w.epoch loss d))) (plan_made q w loss d (gone w) ∷ [])
  pub looks_closed : (w : Recovery) (d : List Told) (s : Summary) → q.preempted ≡ None → Hearing q y b w d → is_spent w.spec d ≡ true → (looks_at c r q.log w.epoch).summary ≡ Some s → Q (acts_with r (passes (looks_at c r q.log) (does_nothing q) w.epoch s)) []
  pub looks_later : (w : Recovery) (d : List Told) → q.preempted ≡ None → Hearing q y b w d → is_spent w.spec d ≡ true → (looks_at c r q.log w.epoch).summary ≡ None → ((looks_at c r q.log w.epoch).epoch ≡ q.epoch → ⊥) → Q (acts_with r (preempt (does_nothing q) (looks_at c r q.log w.epoch).epoch)) []
  -- a plan that is stored, or closed
  pub stores_on : (w : Recovery) (g : Storing) → q.preempted ≡ None → Hearing_stored q y b w g → is_closing w g ≡ false → Q (acts_with r (becomes (does_nothing q) (with_stage q w (Stores g)))) []
  pub closes_now : (w : Recovery) (g : Storing) → q.preempted ≡ None → Hearing_stored q y b w g → is_closing w g ≡ true → Closing r (looks_at c r q.log) (closing_acts (does_nothing q) w q.epoch g) w.epoch (summary_of q.epoch g) (is_short w g) (λ k. Q k [])
  pub lost_closing : (v : Recovery) (s : Summary) (short : Bool) (n round generation end : ℕ) → q.preempted ≡ None → q.recovery ≡ Some v → v.stage ≡ Closes s short → b ≡ bodies.LostHere n round generation end → home_epoch n ≡ v.epoch → Q (acts_with r (becomes (does_nothing q) (with_stage q (recovery_lost y v) (Closes s short)))) []

module _ (c : Config) (s : State) (name : List ℕ) (q : Sequencer) (there : q.gone ≡ false) (y : ℕ) where
  calls : Acts → Called
  calls a = called (looks_at c s.register q.log) s.register a a.tries

  module _ (b : Body) (Q : Called → List Made → Type 0) (K : Acting c s.register (gone_of s q) q y b Q) (free : q.preempted ≡ None) where
    -- ---- a plan that is stored ----
    closes_by : (w : Recovery) (g : Storing) → Hearing_stored q y b w g → Q (calls (closes_ready (does_nothing q) w g)) []
    unfolding calls
    closes_by w g h = by_test (is_closing w g) refl where
      by_test : (t : Bool) → is_closing w g ≡ t → Q (calls (if t then closing_acts (does_nothing q) w q.epoch g else becomes (does_nothing q) (with_stage q w (Stores g)))) []
      by_test true t = closing s.register (looks_at c s.register q.log) (closing_acts (does_nothing q) w q.epoch g) w.epoch (summary_of q.epoch g) (is_short w g) (λ k. Q k []) (K.closes_now w g free h t)
      by_test false t = K.stores_on w g free h t

    settled_all : (v : Recovery) (p : ℕ → Bool) (g : Stage) → q.recovery ≡ Some v → v.stage ≡ g → Settling b v.epoch p → is_in y (nodes_of v.spec) ≡ true → Q (calls (settles (does_nothing q) v p y g)) []
    unfolding calls
    settled_all v p (Seals d) e f k m = K.quiet
    settled_all v p (Closes z short) e f k m = K.quiet
    settled_all v p (Stores g) e f k m = closes_by v (settled_by p y g) (heard_settled g p e f k m refl)

    in_epoch : (n : ℕ) (o : Option Recovery) (f : Recovery → Acts) → q.recovery ≡ o → ((v : Recovery) → q.recovery ≡ Some v → v.epoch ≡ n → Q (calls (f v)) []) → Q (calls (in_recovery (does_nothing q) n o f)) []
    unfolding calls
    in_epoch n None f e h = K.quiet
    in_epoch n (Some v) f e h = cond_both (v.epoch == n) (f v) (does_nothing q) (λ x. Q (calls x) []) (λ t. h v e (eqb-true v.epoch n t)) (λ t. K.quiet)

    acked_by : (n : ℕ) (o : Option Append) → b ≡ bodies.Stored n → epoch_of n ≡ q.epoch → find n q.appends ≡ o → is_in y (nodes_of q.spec) ≡ true → Q (calls (acks_append (does_nothing q) y n o)) []
    unfolding calls
    acked_by n None i e h m = K.quiet
    acked_by n (Some p) i e h m = K.acks n p free i e h m

    -- what a node says counts where it is of the set
    member_by : (p : Spec) (f : Acts) → (is_in y (nodes_of p) ≡ true → Q (calls f) []) → Q (calls (of_member p y f (does_nothing q))) []
    unfolding calls
    member_by p f h = cond_both (is_in y (nodes_of p)) f (does_nothing q) (λ x. Q (calls x) []) h (λ t. K.quiet)

    stored_by : (n : ℕ) → b ≡ bodies.Stored n → Q (calls (by_stored (does_nothing q) y n)) []
    stored_by n i = cond_both (epoch_of n == q.epoch) (of_member q.spec y (acks_append (does_nothing q) y n (find n q.appends)) (does_nothing q))
        (in_recovery (does_nothing q) (epoch_of n) q.recovery (λ v. of_member v.spec y (settles (does_nothing q) v (λ s. s == n) y v.stage) (does_nothing q))) (λ x. Q (calls x) [])
        (λ t. member_by q.spec _ (λ m. acked_by n (find n q.appends) i (eqb-true _ _ t) refl m))
        (λ t. in_epoch (epoch_of n) q.recovery _ refl (λ v e h. member_by v.spec _ (λ m. settled_all v (λ s. s == n) v.stage e refl (by_stored_one n i (sym h) refl) m)))

    trimmed_by : (n t : ℕ) → b ≡ bodies.TrimmedHere n t → Q (calls (by_trimmed (does_nothing q) y n t)) []
    trimmed_by n t i = in_epoch (epoch_of n) q.recovery _ refl (λ v e h. member_by v.spec _ (λ m. settled_all v (λ s. nat_le s t) v.stage e refl (by_trimmed_to n t i (sym h) refl) m))

    cleaned_by : (n : ℕ) (z : Summary) → b ≡ bodies.CleanHere n z → Q (calls (by_clean (looks_at c s.register q.log) (does_nothing q) n z)) []
    unfolding calls
    cleaned_by n z i = cond_both (home_epoch n == q.epoch) (preempt (does_nothing q) z.ballot)
        (in_recovery (does_nothing q) (home_epoch n) q.recovery (λ v. goes_on (looks_at c s.register q.log) (tells_clean (does_nothing q) v.epoch z) v.epoch)) (λ x. Q (calls x) [])
        (λ t. K.cleaned_own n z free i (eqb-true _ _ t))
        (λ t. in_epoch (home_epoch n) q.recovery _ refl (λ v e h. K.cleaned v n z free e i (sym h)))

    sealed_by : (n k : ℕ) → b ≡ bodies.SealedHere n k → Q (calls (if nat_lt q.epoch k then preempt (does_nothing q) k else does_nothing q)) []
    unfolding calls
    sealed_by n k i = cond_both (nat_lt q.epoch k) (preempt (does_nothing q) k) (does_nothing q) (λ x. Q (calls x) []) (λ t. K.sealed n k free i (ltb-true _ _ t)) (λ t. K.quiet)

    -- ---- a digest ----
    module _ (w : Recovery) (d : List Told) (asks : List (ℕ × Body)) (H : Hearing q y b w d) (A : (asks ≡ next_ask y d) ⊎ (asks ≡ [])) where
      digest_now : Q (calls (with_digest (looks_at c s.register q.log) (does_nothing q) w d asks)) (makes_by c s q w d)
      unfolding calls
      digest_now = by_enough (enough w.spec d) refl where
        by_epoch : enough w.spec d ≡ false → is_spent w.spec d ≡ true → (looks_at c s.register q.log w.epoch).summary ≡ None → (t : Bool) → ((looks_at c s.register q.log w.epoch).epoch == q.epoch) ≡ t
            → Q (calls (if t then stores_plan (does_nothing q) w (plan w.epoch true d) else preempt (does_nothing q) (looks_at c s.register q.log w.epoch).epoch)) (if t then makes s q w true d else [])
        by_epoch n u o true t = K.plans w d true free H (inr (refl, record { few = n; spent = u; open_still = o; own = eqb-true _ _ t }))
        by_epoch n u o false t = K.looks_later w d free H u o (eqb-false _ _ t)

        by_summary : enough w.spec d ≡ false → is_spent w.spec d ≡ true → (o : Option Summary) → (looks_at c s.register q.log w.epoch).summary ≡ o
            → Q (calls (by_look (looks_at c s.register q.log) (does_nothing q) w d o (looks_at c s.register q.log w.epoch).epoch)) (if is_none o && ((looks_at c s.register q.log w.epoch).epoch == q.epoch) then makes s q w true d else [])
        by_summary n u (Some z) o = K.looks_closed w d z free H u o
        by_summary n u None o = by_epoch n u o ((looks_at c s.register q.log w.epoch).epoch == q.epoch) refl

        by_spent : enough w.spec d ≡ false → (t : Bool) → is_spent w.spec d ≡ t
            → Q (calls (if t then looks_now (looks_at c s.register q.log) (does_nothing q) w d else seals_on (does_nothing q) w d asks)) (if t && lets_lose q (looks_at c s.register q.log w.epoch) then makes s q w true d else [])
        by_spent n true t = by_summary n t (looks_at c s.register q.log w.epoch).summary refl
        by_spent n false t = K.asks_more w d asks free H A n t

        by_enough : (t : Bool) → enough w.spec d ≡ t
            → Q (calls (if t then stores_plan (does_nothing q) w (plan w.epoch false d) else if is_spent w.spec d then looks_now (looks_at c s.register q.log) (does_nothing q) w d else seals_on (does_nothing q) w d asks))
            (if t then makes s q w false d else if is_spent w.spec d && lets_lose q (looks_at c s.register q.log w.epoch) then makes s q w true d else [])
        by_enough true t = K.plans w d false free H (inl (refl, t))
        by_enough false t = by_spent t (is_spent w.spec d) refl

    -- a page
    page_by : (from upto trim lng : ℕ) (es : List Entry) → b ≡ bodies.DigestPage from upto trim lng es → (o : Option Recovery) → q.recovery ≡ o
        → Q (calls (in_recovery (does_nothing q) (epoch_of from) o (λ v. digests (looks_at c s.register q.log) (does_nothing q) v y from upto trim lng es v.stage))) (made_with c s q o y (bodies.DigestPage from upto trim lng es))
    unfolding calls
    page_by from upto trim lng es i None e = K.quiet
    page_by from upto trim lng es i (Some v) e = page_at (v.epoch == epoch_of from) refl where
      page_taken : (d : List Told) → v.stage ≡ Seals d → v.epoch ≡ epoch_of from → (t : Bool) → takes_any y from d ≡ t
          → Q (calls (if t then adds_page (looks_at c s.register q.log) (does_nothing q) v y (with_page v.epoch y from upto trim lng es d) else does_nothing q)) (if t then makes_by c s q v (with_page v.epoch y from upto trim lng es d) else [])
      page_taken d f h true t = digest_now v (with_page v.epoch y from upto trim lng es d) (next_ask y (with_page v.epoch y from upto trim lng es d)) (heard_page d from upto trim lng es e f i h t refl) (inl refl)
      page_taken d f h false t = K.quiet

      page_in : (g : Stage) → v.stage ≡ g → v.epoch ≡ epoch_of from → Q (calls (digests (looks_at c s.register q.log) (does_nothing q) v y from upto trim lng es g)) (made_in c s q v g y from upto trim lng es)
      page_in (Seals d) f h = page_taken d f h (takes_any y from d) refl
      page_in (Stores g) f h = K.quiet
      page_in (Closes z short) f h = K.quiet

      page_at : (t : Bool) → (v.epoch == epoch_of from) ≡ t → Q (calls (if t then digests (looks_at c s.register q.log) (does_nothing q) v y from upto trim lng es v.stage else does_nothing q)) (if t then made_in c s q v v.stage y from upto trim lng es else [])
      page_at true t = page_in v.stage refl (eqb-true _ _ t)
      page_at false t = K.quiet

    -- a lost node
    lost_by : (n round generation end : ℕ) → b ≡ bodies.LostHere n round generation end → (o : Option Recovery) → q.recovery ≡ o
        → Q (calls (if home_epoch n == q.epoch then becomes (does_nothing q) (record q { lost = with_one y q.lost }) else in_recovery (does_nothing q) (home_epoch n) o (λ v. after_lost (looks_at c s.register q.log) (does_nothing q) (recovery_lost y v) (recovery_lost y v).stage)))
        (made_with c s q o y (bodies.LostHere n round generation end))
    unfolding calls
    lost_by n round generation end i None e = cond_both (home_epoch n == q.epoch) (becomes (does_nothing q) (record q { lost = with_one y q.lost })) (does_nothing q) (λ x. Q (calls x) []) (λ t. K.lost_own n round generation end free i (eqb-true _ _ t)) (λ t. K.quiet)
    lost_by n round generation end i (Some v) e = by_tests (home_epoch n == q.epoch) (v.epoch == home_epoch n) refl refl where
      by_stage : (g : Stage) → v.stage ≡ g → home_epoch n ≡ v.epoch → Q (calls (after_lost (looks_at c s.register q.log) (does_nothing q) (recovery_lost y v) (lost_stage y g))) (made_lost c s q (recovery_lost y v) g y)
      by_stage (Seals d) f h = digest_now (recovery_lost y v) (with_lost y d) [] (heard_lost v d n round generation end e f i h refl refl) (inr refl)
      by_stage (Stores g) f h = closes_by (recovery_lost y v) g (heard_gone v n round generation end e f i h refl)
      by_stage (Closes z short) f h = K.lost_closing v z short n round generation end free e f i h

      by_tests : (t u : Bool) → (home_epoch n == q.epoch) ≡ t → (v.epoch == home_epoch n) ≡ u
          → Q (calls (if t then becomes (does_nothing q) (record q { lost = with_one y q.lost }) else if u then after_lost (looks_at c s.register q.log) (does_nothing q) (recovery_lost y v) (recovery_lost y v).stage else does_nothing q))
          (if u && not t then made_lost c s q (recovery_lost y v) v.stage y else [])
      by_tests true true t u = K.lost_own n round generation end free i (eqb-true _ _ t)
      by_tests true false t u = K.lost_own n round generation end free i (eqb-true _ _ t)
      by_tests false true t u = by_stage v.stage refl (sym (eqb-true _ _ u))
      by_tests false false t u = K.quiet

  -- only a page, and that a node is lost, make plans
  abbrev is_telling : Body → Bool
  is_telling (bodies.DigestPage from upto trim lng es) = true
  is_telling (bodies.LostHere n round generation end) = true
  is_telling _ = false

  none_made : (o : Option Recovery) (x : Body) → is_telling x ≡ false → made_with c s q o y x ≡ []
  none_made None x h = refl
  none_made (Some v) (bodies.DigestPage from upto trim lng es) h = absurd cc
  none_made (Some v) (bodies.LostHere n round generation end) h = absurd cc
  none_made (Some v) _ h = refl

  module _ (b : Body) (Q : Called → List Made → Type 0) (K : Acting c s.register (gone_of s q) q y b Q) where
    plain : (x : Body) (a : Acts) → is_telling x ≡ false → Q (calls a) [] → Q (calls a) (made_with c s q q.recovery y x)
    plain x a h k = subst (λ m. Q (calls a) m) (sym (none_made q.recovery x h)) k

    quietly : (x : Body) → is_telling x ≡ false → Q (calls (does_nothing q)) (made_with c s q q.recovery y x)
    unfolding calls
    quietly x h = plain x (does_nothing q) h K.quiet

    by_body : (x : Body) → b ≡ x → q.preempted ≡ None → Q (calls (by_reply (looks_at c s.register q.log) (does_nothing q) y x)) (made_with c s q q.recovery y x)
    by_body (bodies.Stored n) i free = plain _ _ refl (stored_by b Q K free n i)
    by_body (bodies.SealedHere n k) i free = plain _ _ refl (sealed_by b Q K free n k i)
    by_body (bodies.LostHere n round g end) i free = lost_by b Q K free n round g end i q.recovery refl
    by_body (bodies.CleanHere n z) i free = plain _ _ refl (cleaned_by b Q K free n z i)
    by_body (bodies.TrimmedHere n t) i free = plain _ _ refl (trimmed_by b Q K free n t i)
    by_body (bodies.DigestPage from upto trim lng es) i free = page_by b Q K free from upto trim lng es i q.recovery refl
    by_body _ i free = quietly _ refl

    by_free : (o : Option ℕ) → q.preempted ≡ o → Q (calls (unless_preempted o (by_reply (looks_at c s.register q.log) (does_nothing q) y b) (does_nothing q))) (cond (false || is_some o) [] (made_with c s q q.recovery y b))
    unfolding calls
    by_free None f = by_body b refl f
    by_free (Some k) f = K.quiet

    pub replied : Q (called (looks_at c s.register q.log) s.register (on_reply (looks_at c s.register q.log) q y b) (on_reply (looks_at c s.register q.log) q y b).tries) (made_by c s (Some (name, q)) y b)
    unfolding calls on_reply
    replied = subst (λ g. Q (called (looks_at c s.register q.log) s.register (on_reply (looks_at c s.register q.log) q y b) (on_reply (looks_at c s.register q.log) q y b).tries) (cond (g || is_some q.preempted) [] (made_with c s q q.recovery y b))) (sym there) (by_free q.preempted refl)

-- ---- a retry ----

-- the appends that are sent again, with no other stores yet
abbrev pub retry_acts : Sequencer → Acts
retry_acts q = record (retries_appends (does_nothing q)) { stores = [] }

-- and with the items of the plan that is stored
abbrev pub retry_stores : Sequencer → Recovery → Storing → Acts
retry_stores q v g = record (retries_appends (does_nothing q)) { stores = item_stores v.spec v.lost g.loss g.lng (next_wave g.wave) g.items ++ (retries_appends (does_nothing q)).stores }

pub record Retrying (c : Config) (r : Register) (gone : Recovery → List ℕ) (q : Sequencer) (Q : Called → List Made → Type 0) : Type 0 where
  pub quiet : Q (acts_with r (does_nothing q)) []
  pub appends : q.preempted ≡ None → Q (acts_with r (retries_appends (does_nothing q))) []
  pub seals : (v : Recovery) (d : List Told) → q.preempted ≡ None → q.recovery ≡ Some v → v.stage ≡ Seals d → is_spent v.spec d ≡ false → Q (acts_with r (asks_again (retries_appends (does_nothing q)) v (with_asks v.epoch d))) []
  pub plans : (v : Recovery) (d : List Told) → q.preempted ≡ None → q.recovery ≡ Some v → v.stage ≡ Seals d → SpentNow (looks_at c r q.log v.epoch) q v d → Q (acts_with r (with_stores (retries_appends (does_nothing q)).stores (stores_plan (retry_acts q) v (plan v.epoch true d)))) (plan_made q v true d (gone v) ∷ [])
  pub looks_closed : (v : Recovery) (d : List Told) (s : Summary) → q.preempted ≡ None → q.recovery ≡ Some v → v.stage ≡ Seals d → is_spent v.spec d ≡ true → (looks_at c r q.log v.epoch).summary ≡ Some s → Q (acts_with r (with_stores (retries_appends (does_nothing q)).stores (passes (looks_at c r q.log) (retry_acts q) v.epoch s))) []
  pub looks_later : (v : Recovery) (d : List Told) → q.preempted ≡ None → q.recovery ≡ Some v → v.stage ≡ Seals d → is_spent v.spec d ≡ true → (looks_at c r q.log v.epoch).summary ≡ None → ((looks_at c r q.log v.epoch).epoch ≡ q.epoch → ⊥) →
      Q (acts_with r (with_stores (retries_appends (does_nothing q)).stores (preempt (retry_acts q) (looks_at c r q.log v.epoch).epoch))) []
  pub stores_on : (v : Recovery) (g : Storing) → q.preempted ≡ None → q.recovery ≡ Some v → v.stage ≡ Stores g → is_closing v g ≡ false → Q (acts_with r (becomes (retry_stores q v g) (with_stage (retry_stores q v g).sequencer v (Stores (next_try g))))) []
  pub closes_now : (v : Recovery) (g : Storing) → q.preempted ≡ None → q.recovery ≡ Some v → v.stage ≡ Stores g → is_closing v g ≡ true →
      Closing r (looks_at c r q.log) (closing_acts (retry_stores q v g) v q.epoch g) v.epoch (summary_of q.epoch g) (is_short v g) (λ k. Q k [])
  pub closes : (v : Recovery) (y : Summary) (short : Bool) → q.preempted ≡ None → q.recovery ≡ Some v → v.stage ≡ Closes y short →
      Closing r (looks_at c r q.log) (try_close (retries_appends (does_nothing q)) v.epoch y short) v.epoch y short (λ k. Q k [])

module _ (c : Config) (s : State) (q : Sequencer) (there : q.gone ≡ false) (Q : Called → List Made → Type 0) (K : Retrying c s.register (gone_of s q) q Q) where
  retry_calls : Acts → Called
  retry_calls a = called (looks_at c s.register q.log) s.register a a.tries

  module _ (v : Recovery) (free : q.preempted ≡ None) (e : q.recovery ≡ Some v) where
    seals_again : (d : List Told) → v.stage ≡ Seals d → Q (retry_calls (retries_stage (looks_at c s.register q.log) (retries_appends (does_nothing q)) v (Seals d))) (made_anew c s q v (Seals d))
    unfolding retry_calls
    seals_again d g = by_spent (is_spent v.spec d) refl where
      by_epoch : is_spent v.spec d ≡ true → (looks_at c s.register q.log v.epoch).summary ≡ None → (t : Bool) → ((looks_at c s.register q.log v.epoch).epoch == q.epoch) ≡ t
          → Q (retry_calls (with_stores (retries_appends (does_nothing q)).stores (if t then stores_plan (retry_acts q) v (plan v.epoch true d) else preempt (retry_acts q) (looks_at c s.register q.log v.epoch).epoch))) (if t then makes s q v true d else [])
      by_epoch u o true t = K.plans v d free e g (record { few = spent_few v.spec d u; spent = u; open_still = o; own = eqb-true _ _ t })
      by_epoch u o false t = K.looks_later v d free e g u o (eqb-false _ _ t)

      by_summary : is_spent v.spec d ≡ true → (o : Option Summary) → (looks_at c s.register q.log v.epoch).summary ≡ o
          → Q (retry_calls (with_stores (retries_appends (does_nothing q)).stores (by_look (looks_at c s.register q.log) (retry_acts q) v d o (looks_at c s.register q.log v.epoch).epoch))) (if is_none o && ((looks_at c s.register q.log v.epoch).epoch == q.epoch) then makes s q v true d else [])
      by_summary u (Some z) o = K.looks_closed v d z free e g u o
      by_summary u None o = by_epoch u o ((looks_at c s.register q.log v.epoch).epoch == q.epoch) refl

      spent_made : is_spent v.spec d ≡ true → (if is_none (looks_at c s.register q.log v.epoch).summary && ((looks_at c s.register q.log v.epoch).epoch == q.epoch) then makes s q v true d else []) ≡ makes_by c s q v d
      spent_made u = (λ i. if sym u i && lets_lose q (looks_at c s.register q.log v.epoch) then makes s q v true d else []) ∙ (λ i. if sym (spent_few v.spec d u) i then makes s q v false d else if is_spent v.spec d && lets_lose q (looks_at c s.register q.log v.epoch) then makes s q v true d else [])

      by_spent : (t : Bool) → is_spent v.spec d ≡ t
          → Q (retry_calls (if t then with_stores (retries_appends (does_nothing q)).stores (looks_now (looks_at c s.register q.log) (retry_acts q) v d) else asks_again (retries_appends (does_nothing q)) v (with_asks v.epoch d))) (if t then makes_by c s q v d else [])
      by_spent true t = subst (λ m. Q (retry_calls (with_stores (retries_appends (does_nothing q)).stores (looks_now (looks_at c s.register q.log) (retry_acts q) v d))) m) (spent_made t) (by_summary t (looks_at c s.register q.log v.epoch).summary refl)
      by_spent false t = K.seals v d free e g t

    stores_again : (g : Storing) → v.stage ≡ Stores g → Q (retry_calls (retries_stage (looks_at c s.register q.log) (retries_appends (does_nothing q)) v (Stores g))) []
    unfolding retry_calls is_ready_short is_ready
    stores_again g h = by_test (is_closing v g) refl where
      by_test : (t : Bool) → is_closing v g ≡ t → Q (retry_calls (if t then closing_acts (retry_stores q v g) v q.epoch g else becomes (retry_stores q v g) (with_stage (retry_stores q v g).sequencer v (Stores (next_try g))))) []
      by_test true t = closing s.register (looks_at c s.register q.log) (closing_acts (retry_stores q v g) v q.epoch g) v.epoch (summary_of q.epoch g) (is_short v g) (λ k. Q k []) (K.closes_now v g free e h t)
      by_test false t = K.stores_on v g free e h t

    by_stage : (g : Stage) → v.stage ≡ g → Q (retry_calls (retries_stage (looks_at c s.register q.log) (retries_appends (does_nothing q)) v g)) (made_anew c s q v g)
    unfolding retry_calls
    by_stage (Seals d) g = seals_again d g
    by_stage (Stores z) g = stores_again z g
    by_stage (Closes y short) g = closing s.register (looks_at c s.register q.log) (try_close (retries_appends (does_nothing q)) v.epoch y short) v.epoch y short (λ k. Q k []) (K.closes v y short free e g)

  by_recovery : (o : Option Recovery) → q.preempted ≡ None → q.recovery ≡ o → Q (retry_calls (retries_recovery (looks_at c s.register q.log) (retries_appends (does_nothing q)) o)) (made_again c s q o)
  unfolding retry_calls
  by_recovery None f e = K.appends f
  by_recovery (Some v) f e = by_stage v f e v.stage refl

  by_preempted : (o : Option ℕ) → q.preempted ≡ o
      → Q (retry_calls (unless_preempted o (retries_recovery (looks_at c s.register q.log) (retries_appends (does_nothing q)) q.recovery) (does_nothing q))) (cond (false || is_some o) [] (made_again c s q q.recovery))
  unfolding retry_calls
  by_preempted None f = by_recovery q.recovery f refl
  by_preempted (Some k) f = K.quiet

  pub retried : Q (called (looks_at c s.register q.log) s.register (on_retry (looks_at c s.register q.log) q) (on_retry (looks_at c s.register q.log) q).tries) (made_retried c s (Some q))
  unfolding retry_calls on_retry
  retried = subst (λ g. Q (called (looks_at c s.register q.log) s.register (on_retry (looks_at c s.register q.log) q) (on_retry (looks_at c s.register q.log) q).tries) (cond (g || is_some q.preempted) [] (made_again c s q q.recovery))) (sym there) (by_preempted q.preempted refl)
