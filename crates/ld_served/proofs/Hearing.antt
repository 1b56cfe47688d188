-- A reply to a log's last sequencer leaves all under way that it waits for: what the reply settles it needs no longer, and what it goes on with is sent.
use Rattle.std.proofs.Common.{◌≡◌, ◌∙◌, ◌⊎◌, ◌<◌, ℕ, inl, inr, refl, ap, sym, subst, Bool, true, false, not, ◌&&◌, ◌==◌, nat_lt, nat_le, if◌then◌else◌, List, [], ◌∷◌, map, Option, Some, None, arith, eq-eqb, le-leb}
use Rattle.std.specs.List.{IsDistinct}
use Rattle.std.proofs.lemmas.Bool.{cases_Bool, and_from, and_parts, or_left, or_right, eqb-true, ltb-true}
use Rattle.ld_table.specs.Table.{find}
use Rattle.ld_table.specs.Words.{is_in, with_one}
use Rattle.ld_lsn.specs.Number.{epoch_of, home_epoch}
use Rattle.ld_ids.specs.Choice.{nodes_of}
use Rattle.ld_ids.specs.declared.set.Spec.{Spec}
use Rattle.ld_config.specs.declared.config.Config.{Config}
use Rattle.ld_msg.specs.declared.msg.Entry.{Entry}
use Rattle.ld_msg.specs.declared.msg.Summary.{Summary}
use Rattle.ld_msg.specs.declared.msg.Msg.{Msg}
use Rattle.ld_msg.specs.declared.msg.Body.{Body}
use Rattle.ld_msg.specs.declared.msg.Body.TheVariants as bodies
use Rattle.ld_msg.specs.Register.{Register, epochs_of, lce_of}
use Rattle.ld_msg.specs.Digest.{Told, takes_page, with_page, told_lost, with_lost, enough, is_spent, plan}
use Rattle.ld_msg.specs.Sequencer.{Sequencer, Append, Recovery, Stage, Seals, Stores, Closes, Storing, Planned, Acts, Called, called, does_nothing, becomes, with_stage, preempt, summary_of, storing_of, is_ready, is_ready_short, closes_ready, settled_by, settles, of_member, in_recovery, acks_append, next_ask, takes_any, seals_on, stores_plan, passes, by_look, looks_now, with_digest, adds_page, digests, lost_stage, recovery_lost, after_lost, by_stored, by_trimmed, by_lost, by_clean, by_reply, unless_preempted, on_reply}
use Rattle.ld_machine.specs.Config.{looks_at}
use Rattle.ld_machine.specs.World.{In, from_node}
use Rattle.ld_safety.proofs.Lists.{Some_inj, not_none, cond_both, In-map}
use Rattle.ld_safety.proofs.Members.{in_set, members_apart}
use Rattle.ld_safety.proofs.Appends.{RowOf}
use Rattle.ld_safety.proofs.Specs.{SpecFine}
use Rattle.ld_safety.proofs.SequencerSteps.{Closing, closing, is_closing, is_short, closing_acts, Settling, by_stored_one, by_trimmed_to, Hearing, heard_page, heard_lost, Hearing_stored, heard_settled, heard_gone}
use Rattle.ld_served.proofs.Waiting.{AllAsked, Asked, asked_on, page_comes, says_clean, OnceTold, page_asked, all_at, ItemsGo, to_enough, to_all}
use Rattle.ld_served.proofs.Losing.{KnowsLost, heard, in_map, one_keeps}
use Rattle.ld_served.proofs.Showing.{ShowsLost, heard_shows}
use Rattle.ld_served.proofs.Free.{Leads}
use Rattle.ld_served.proofs.Going.{Goes, ItemGoes}
use Rattle.ld_served.proofs.Onward.{AllGo, AppendsGo, begins_goes, seals_goes, plan_goes, stores_goes}
use Rattle.ld_served.proofs.Answered.{AnswersStore, tells_stored, tells_trimmed, tells_closed, AnswersAsk, tells_page, tells_clean, found_none, asked_stays, items_on, items_stay, appends_stay, acked_on}
use Rattle.ld_served.proofs.Beginning.{begins_unready}

-- ---- which messages answer what ----

abbrev answers_ask : Body → Bool
answers_ask (bodies.DigestPage from upto trim lng es) = true
answers_ask (bodies.CleanHere n z) = true
answers_ask _ = false

abbrev answers_store : Body → Bool
answers_store (bodies.Stored n) = true
answers_store (bodies.TrimmedHere n t) = true
answers_store (bodies.CleanHere n z) = true
answers_store _ = false

no_ask : (x : Body) → answers_ask x ≡ false → (e from : ℕ) → AnswersAsk e from x → ⊥
no_ask x h e from (tells_page upto trim lng es k) = (let z : true ≡ false = ap answers_ask (sym k) ∙ h in cc)
no_ask x h e from (tells_clean n s j k) = (let z : true ≡ false = ap answers_ask (sym k) ∙ h in cc)

no_store : (x : Body) → answers_store x ≡ false → (n : ℕ) → AnswersStore n x → ⊥
no_store x h n (tells_stored k) = (let z : true ≡ false = ap answers_store (sym k) ∙ h in cc)
no_store x h n (tells_trimmed t l k) = (let z : true ≡ false = ap answers_store (sym k) ∙ h in cc)
no_store x h n (tells_closed s k) = (let z : true ≡ false = ap answers_store (sym k) ∙ h in cc)

-- ---- digests ----

once_told : (d : List Told) → IsDistinct ◌==◌ (map (λ (t : Told). t.node) d) → OnceTold d
unfolding IsDistinct
once_told [] h = tt
once_told (t ∷ d) h = (λ u i. flipped t.node u.node (all_at (λ z. (t.node == z) ≡ false) (map (λ (x : Told). x.node) d) u.node h.0 (in_map u d i)), once_told d h.1) where
  flipped : (m n : ℕ) → (m == n) ≡ false → (n == m) ≡ false
  flipped m n k = elim (cases_Bool (n == m)) [ inl u ↦ absurd (let z : (m == n) ≡ true = eq-eqb m n (sym (eqb-true n m u)) in let w : true ≡ false = sym z ∙ k in cc) | inr u ↦ u ]

taken_one : (y from : ℕ) (d : List Told) (t : Told) → In t d → takes_page y from t ≡ true → takes_any y from d ≡ true
taken_one y from [] t i h = absurd i
taken_one y from (u ∷ d) t (inl e) h = or_left (takes_page y from u) (takes_any y from d) (subst (λ (x : Told). takes_page y from x ≡ true) e h)
taken_one y from (u ∷ d) t (inr i) h = or_right (takes_page y from u) (takes_any y from d) (taken_one y from d t i h)

-- one that is lost is still asked
lost_asked : (M : Msg → Type 0) (l b e y : ℕ) (d : List Told) → AllAsked M l b e d → AllAsked M l b e (with_lost y d)
unfolding with_lost
lost_asked M l b e y d h t i w = let z = In-map (told_lost y) t d i in
    subst (Asked M l b e) (sym z.2) (same (h z.0 z.1 (ap (λ (x : Told). x.whole) (sym z.2) ∙ w))) where
      same : {u : Told} → Asked M l b e u → Asked M l b e (told_lost y u)
      same (asked_on n) = asked_on n
      same (page_comes upto trim lng es n) = page_comes upto trim lng es n
      same (says_clean n s k j) = says_clean n s k j

-- more lost nodes need no store
more_lost : (s : Spec) (lost more : List ℕ) (loss : Bool) (is : List (ℕ × Planned)) (P : ℕ × Planned → ℕ → Type 0) → ((z : ℕ) → is_in z lost ≡ true → is_in z more ≡ true) → ItemsGo s lost loss is P → ItemsGo s more loss is P
more_lost s lost more loss is P m (to_enough l h) = to_enough l h
more_lost s lost more loss is P m (to_all h) = to_all (λ i j z n. elim (h i j z n) [ inl a ↦ inl (m z a) | inr a ↦ inr a ])

-- ---- what is known of the sequencer ----
pub record Sure (q : Sequencer) : Type 0 where
  pub below : (v : Recovery) → q.recovery ≡ Some v → v.epoch < q.epoch
  pub fine : (v : Recovery) → q.recovery ≡ Some v → SpecFine v.spec
  pub nodes : (v : Recovery) (d : List Told) → q.recovery ≡ Some v → v.stage ≡ Seals d → map (λ (t : Told). t.node) d ≡ nodes_of v.spec
  pub asks : (v : Recovery) (d : List Told) → q.recovery ≡ Some v → v.stage ≡ Seals d → (t : Told) → In t d → t.whole ≡ false → epoch_of t.asked ≡ v.epoch
  pub items : (v : Recovery) (g : Storing) → q.recovery ≡ Some v → v.stage ≡ Stores g → (i : ℕ × Planned) → In i g.items → (epoch_of i.0 ≡ v.epoch) × (home_epoch i.0 ≡ v.epoch)
  pub knows : KnowsLost q
  pub shows : ShowsLost q
  pub row : RowOf q
  pub own : (p : ℕ × Append) → In p q.appends → epoch_of p.0 ≡ q.epoch

-- ---- a reply ----
module _ (c : Config) (r : Register) (q : Sequencer) (N M : Msg → Type 0) (y : ℕ) (b : Body) (keeps : (m : Msg) → N m → (m ≡ from_node q.log y q.epoch b) ⊎ M m) (S : Sure q) (L : Leads c r q y b) (G : Goes N q) where
  -- where the close that is tried doesn't fail, and what is sent is under way, so is all that it waits for
  abbrev pub Out : Called → Type 0
  Out k = k.acts.failed ≡ false → AllGo M q.log q.epoch k.acts.asks → AllGo M q.log q.epoch k.acts.stores → Goes M k.acts.sequencer

  calls : Acts → Called
  calls a = called (looks_at c r q.log) r a a.tries

  -- ---- what the reply doesn't answer ----
  seals_stay : ((v : Recovery) (d : List Told) → q.recovery ≡ Some v → v.stage ≡ Seals d → (t : Told) → In t d → t.whole ≡ false → t.node ≡ y → AnswersAsk v.epoch t.asked b → ⊥)
      → (v : Recovery) (d : List Told) → q.recovery ≡ Some v → v.stage ≡ Seals d → AllAsked M q.log q.epoch v.epoch d
  seals_stay f v d e k t i w = elim (asked_stays N M q.log q.epoch y b keeps v.epoch t (G.seals v d e k t i w)) [ inl z ↦ absurd (f v d e k t i w z.0 z.1) | inr z ↦ z ]

  stores_stay : ((v : Recovery) (g : Storing) → q.recovery ≡ Some v → v.stage ≡ Stores g → In y (nodes_of v.spec) → (i : ℕ × Planned) → In i g.items → AnswersStore i.0 b → ⊥)
      → (v : Recovery) (g : Storing) → q.recovery ≡ Some v → v.stage ≡ Stores g → (is_closing v g ≡ false) × ItemsGo v.spec v.lost g.loss g.items (ItemGoes M q.log q.epoch)
  stores_stay f v g e k = let z = G.stores v g e k in (z.0, items_stay N M q y b keeps v.spec v.lost g.loss g.items (λ i j n a. f v g e k n i j a) z.1)

  no_acks : ((p : ℕ × Append) → In p q.appends → b ≡ bodies.Stored p.0 → ⊥) → AppendsGo M q
  no_acks h = appends_stay N M q y b keeps G (λ p i n e. h p i e)

  -- a reply that answers nothing
  still : answers_ask b ≡ false → answers_store b ≡ false → Goes M q
  still f g = record {
    seals = seals_stay (λ v d e k t i w n a. no_ask b f v.epoch t.asked a);
    stores = stores_stay (λ v x e k n i j a. no_store b g i.0 a);
    closes = G.closes;
    appends = no_acks (λ p i e. no_store b g p.0 (tells_stored e));
  }

  -- ---- a plan that is stored ----
  module _ (w : Recovery) (g : Storing) (H : Hearing_stored q y b w g) (a : AppendsGo M q) where
    close_out : is_closing w g ≡ true → Closing r (looks_at c r q.log) (closing_acts (does_nothing q) w q.epoch g) w.epoch (summary_of q.epoch g) (is_short w g) Out
    close_out t = record {
      granted = λ n h o j f k x. begins_goes M q c r w.epoch k a;
      passed = λ h f k x. absurd (let z = L.top in omega arith);
      behind = λ h j f k x. begins_goes M q c r (lce_of r q.log) k a;
      overtaken = λ h o f k x. absurd (let p = and_parts (is_short w g) (not ((epochs_of r q.log).epoch == q.epoch)) o in let z = L.short w g H t p.0 in omega arith);
      failed = λ n j f k x. absurd cc;
    }

    closes_out : ItemsGo w.spec w.lost g.loss g.items (ItemGoes M q.log q.epoch) → Out (calls (closes_ready (does_nothing q) w g))
    unfolding calls is_ready is_ready_short
    closes_out i = by_test (is_closing w g) refl where
      by_test : (t : Bool) → is_closing w g ≡ t → Out (calls (if t then closing_acts (does_nothing q) w q.epoch g else becomes (does_nothing q) (with_stage q w (Stores g))))
      by_test true t = closing r (looks_at c r q.log) (closing_acts (does_nothing q) w q.epoch g) w.epoch (summary_of q.epoch g) (is_short w g) Out (close_out t)
      by_test false t = λ f k x. stores_goes M q w g t i a

  -- what a node stored or trimmed away
  module _ (p : ℕ → Bool) (x : ℕ) (st : (v : Recovery) → x ≡ v.epoch → Settling b v.epoch p) (ask : answers_ask b ≡ false) (says : (n : ℕ) → AnswersStore n b → (epoch_of n ≡ x) × (p n ≡ true)) (a : AppendsGo M q) where
    quietly : ((v : Recovery) (g : Storing) → q.recovery ≡ Some v → v.stage ≡ Stores g → In y (nodes_of v.spec) → v.epoch ≡ x → ⊥) → Out (calls (does_nothing q))
    unfolding calls
    quietly h f k w = record {
      seals = seals_stay (λ v d e k t i w n z. no_ask b ask v.epoch t.asked z);
      stores = stores_stay (λ v g e k n i j z. h v g e k n (sym (S.items v g e k i j).0 ∙ (says i.0 z).0));
      closes = G.closes;
      appends = a;
    }

    settled_out : (v : Recovery) → q.recovery ≡ Some v → v.epoch ≡ x → is_in y (nodes_of v.spec) ≡ true → (g : Stage) → v.stage ≡ g → Out (calls (settles (does_nothing q) v p y g))
    settled_out v e h m (Seals d) k = quietly (λ w g f j n u. let z : Stores g ≡ Seals d = sym j ∙ (ap (λ (o : Recovery). o.stage) (Some_inj (sym f ∙ e)) ∙ k) in cc)
    settled_out v e h m (Stores g) k = closes_out v (settled_by p y g) (heard_settled g p e k (st v (sym h)) m refl) a (items_on N M q y b keeps v.spec v.lost g.loss g.items p (λ i j z. (says i.0 z).1) (G.stores v g e k).1)
    settled_out v e h m (Closes s short) k = quietly (λ w g f j n u. let z : Stores g ≡ Closes s short = sym j ∙ (ap (λ (o : Recovery). o.stage) (Some_inj (sym f ∙ e)) ∙ k) in cc)

    settling_out : Out (calls (in_recovery (does_nothing q) x q.recovery (λ v. of_member v.spec y (settles (does_nothing q) v p y v.stage) (does_nothing q))))
    settling_out = by_recovery q.recovery refl where
      by_recovery : (o : Option Recovery) → q.recovery ≡ o → Out (calls (in_recovery (does_nothing q) x o (λ v. of_member v.spec y (settles (does_nothing q) v p y v.stage) (does_nothing q))))
      by_recovery None e = quietly (λ w g f j n u. not_none (sym e ∙ f))
      by_recovery (Some v) e = cond_both (v.epoch == x) (of_member v.spec y (settles (does_nothing q) v p y v.stage) (does_nothing q)) (does_nothing q) (λ k. Out (calls k))
          (λ t. cond_both (is_in y (nodes_of v.spec)) (settles (does_nothing q) v p y v.stage) (does_nothing q) (λ k. Out (calls k)) (λ m. settled_out v e (eqb-true v.epoch x t) m v.stage refl)
          (λ m. quietly (λ w g f j n u. let z : is_in y (nodes_of v.spec) ≡ true = in_set y (nodes_of v.spec) (subst (λ (o : Recovery). In y (nodes_of o.spec)) (Some_inj (sym f ∙ e)) n) in let k : true ≡ false = sym z ∙ m in cc)))
          (λ t. quietly (λ w g f j n u. let z : (v.epoch == x) ≡ true = eq-eqb v.epoch x (ap (λ (o : Recovery). o.epoch) (Some_inj (sym e ∙ f)) ∙ u) in let k : true ≡ false = sym z ∙ t in cc))

  stored_out : (n : ℕ) → b ≡ bodies.Stored n → Out (calls (by_stored (does_nothing q) y n))
  unfolding calls
  stored_out n i = cond_both (epoch_of n == q.epoch) (of_member q.spec y (acks_append (does_nothing q) y n (find n q.appends)) (does_nothing q))
      (in_recovery (does_nothing q) (epoch_of n) q.recovery (λ v. of_member v.spec y (settles (does_nothing q) v (λ s. s == n) y v.stage) (does_nothing q))) (λ k. Out (calls k))
      (λ t. cond_both (is_in y (nodes_of q.spec)) (acks_append (does_nothing q) y n (find n q.appends)) (does_nothing q) (λ k. Out (calls k)) (λ m. by_append (eqb-true (epoch_of n) q.epoch t) (find n q.appends) refl)
      (λ m f k x. record {
        seals = own_seals;
        stores = own_stores (eqb-true (epoch_of n) q.epoch t);
        closes = G.closes;
        appends = appends_stay N M q y b keeps G (λ p j u e. let z : is_in y (nodes_of q.spec) ≡ true = in_set y (nodes_of q.spec) u in let o : true ≡ false = sym z ∙ m in cc);
      }))
      (λ t. settling_out (λ s. s == n) (epoch_of n) (λ v e. by_stored_one n i e refl) (ap answers_ask i) says
      (no_acks (λ p j e. let z : (epoch_of n == q.epoch) ≡ true = eq-eqb (epoch_of n) q.epoch (ap epoch_of (same p.0 e) ∙ S.own p j) in let o : true ≡ false = sym z ∙ t in cc))) where
        same : (k : ℕ) → b ≡ bodies.Stored k → n ≡ k
        same k e = let z : bodies.Stored n ≡ bodies.Stored k = sym i ∙ e in cc

        says : (k : ℕ) → AnswersStore k b → (epoch_of k ≡ epoch_of n) × ((k == n) ≡ true)
        says k (tells_stored e) = (ap epoch_of (sym (same k e)), eq-eqb k n (sym (same k e)))
        says k (tells_trimmed t h e) = absurd (let z : bodies.Stored n ≡ bodies.TrimmedHere k t = sym i ∙ e in cc)
        says k (tells_closed z e) = absurd (let u : bodies.Stored n ≡ bodies.CleanHere k z = sym i ∙ e in cc)

        own_seals : (v : Recovery) (d : List Told) → q.recovery ≡ Some v → v.stage ≡ Seals d → AllAsked M q.log q.epoch v.epoch d
        own_seals = seals_stay (λ v d e k u j w z a. no_ask b (ap answers_ask i) v.epoch u.asked a)

        own_stores : epoch_of n ≡ q.epoch → (v : Recovery) (g : Storing) → q.recovery ≡ Some v → v.stage ≡ Stores g → (is_closing v g ≡ false) × ItemsGo v.spec v.lost g.loss g.items (ItemGoes M q.log q.epoch)
        own_stores t = stores_stay (λ v g e k z w j a. let s = (says w.0 a).0 in let m = (S.items v g e k w j).0 in let h = S.below v e in omega arith)

        by_append : epoch_of n ≡ q.epoch → (o : Option Append) → find n q.appends ≡ o → Out (calls (acks_append (does_nothing q) y n o))
        by_append t None h = λ f k x. record {
          seals = own_seals;
          stores = own_stores t;
          closes = G.closes;
          appends = no_acks (λ p j e. found_none n q.appends p j h (sym (same p.0 e)));
        }
        by_append t (Some p) h = λ f k x. record {
          seals = own_seals;
          stores = own_stores t;
          closes = G.closes;
          appends = acked_on N M q y b keeps G S.row n p h i;
        }

  trimmed_out : (n t : ℕ) → b ≡ bodies.TrimmedHere n t → Out (calls (by_trimmed (does_nothing q) y n t))
  trimmed_out n t i = settling_out (λ s. nat_le s t) (epoch_of n) (λ v e. by_trimmed_to n t i e refl) (ap answers_ask i) says (no_acks (λ p j e. let z : bodies.TrimmedHere n t ≡ bodies.Stored p.0 = sym i ∙ e in cc)) where
    says : (k : ℕ) → AnswersStore k b → (epoch_of k ≡ epoch_of n) × (nat_le k t ≡ true)
    says k (tells_stored e) = absurd (let z : bodies.TrimmedHere n t ≡ bodies.Stored k = sym i ∙ e in cc)
    says k (tells_trimmed u h e) = let z : bodies.TrimmedHere n t ≡ bodies.TrimmedHere k u = sym i ∙ e in let m : n ≡ k = cc in let o : t ≡ u = cc in (ap epoch_of (sym m), le-leb k t (omega arith))
    says k (tells_closed z e) = absurd (let u : bodies.TrimmedHere n t ≡ bodies.CleanHere k z = sym i ∙ e in cc)

  -- ---- a digest ----
  module _ (w : Recovery) (d : List Told) (asks : List (ℕ × Body)) (H : Hearing q y b w d) (A : AllGo M q.log q.epoch asks → AllAsked M q.log q.epoch w.epoch d) (a : AppendsGo M q) where
    digest_out : Out (calls (with_digest (looks_at c r q.log) (does_nothing q) w d asks))
    unfolding calls
    digest_out = by_enough (enough w.spec d) refl where
      by_summary : is_spent w.spec d ≡ true → (o : Option Summary) → (looks_at c r q.log w.epoch).summary ≡ o → Out (calls (by_look (looks_at c r q.log) (does_nothing q) w d o (looks_at c r q.log w.epoch).epoch))
      by_summary u (Some z) o = λ f k x. begins_goes M q c r w.epoch k a
      by_summary u None o = λ f k x. absurd (L.spent w d H u o)

      by_spent : (t : Bool) → is_spent w.spec d ≡ t → Out (calls (if t then looks_now (looks_at c r q.log) (does_nothing q) w d else seals_on (does_nothing q) w d asks))
      by_spent true t = by_summary t (looks_at c r q.log w.epoch).summary refl
      by_spent false t = λ f k x. seals_goes M q w d (A k) a

      by_enough : (t : Bool) → enough w.spec d ≡ t
          → Out (calls (if t then stores_plan (does_nothing q) w (plan w.epoch false d) else if is_spent w.spec d then looks_now (looks_at c r q.log) (does_nothing q) w d else seals_on (does_nothing q) w d asks))
      by_enough true t = λ f k x. (let h = heard c r q S.fine S.nodes S.knows y b w d H in
          stores_goes M q w (storing_of (plan w.epoch false d)) (begins_unready w d h.set h.all (heard_shows q y b w d S.shows H) t) (plan_goes M q w (storing_of (plan w.epoch false d)) 0 h.set x) a)
      by_enough false t = by_spent (is_spent w.spec d) refl

  page_out : (from upto trim lng : ℕ) (es : List Entry) → b ≡ bodies.DigestPage from upto trim lng es → Out (calls (in_recovery (does_nothing q) (epoch_of from) q.recovery (λ v. digests (looks_at c r q.log) (does_nothing q) v y from upto trim lng es v.stage)))
  unfolding calls
  page_out from upto trim lng es i = by_recovery q.recovery refl where
    unacked : AppendsGo M q
    unacked = no_acks (λ p j e. let z : bodies.DigestPage from upto trim lng es ≡ bodies.Stored p.0 = sym i ∙ e in cc)

    from_is : (e k : ℕ) → AnswersAsk e k b → from ≡ k
    from_is e k (tells_page u t l xs j) = let z : bodies.DigestPage from upto trim lng es ≡ bodies.DigestPage k u t l xs = sym i ∙ j in cc
    from_is e k (tells_clean n s h j) = absurd (let z : bodies.DigestPage from upto trim lng es ≡ bodies.CleanHere n s = sym i ∙ j in cc)

    -- a page that isn't asked for
    quietly : ((v : Recovery) (d : List Told) → q.recovery ≡ Some v → v.stage ≡ Seals d → (t : Told) → In t d → t.whole ≡ false → t.node ≡ y → from ≡ t.asked → ⊥) → Out (calls (does_nothing q))
    quietly h f k x = record {
      seals = seals_stay (λ v d e g t j w n z. h v d e g t j w n (from_is v.epoch t.asked z));
      stores = stores_stay (λ v g e k n u j z. no_store b (ap answers_store i) u.0 z);
      closes = G.closes;
      appends = unacked;
    }

    taken : (v : Recovery) → q.recovery ≡ Some v → v.epoch ≡ epoch_of from → (d : List Told) → v.stage ≡ Seals d → (t : Bool) → takes_any y from d ≡ t
        → Out (calls (if t then adds_page (looks_at c r q.log) (does_nothing q) v y (with_page v.epoch y from upto trim lng es d) else does_nothing q))
    taken v e h d k true t = digest_out v (with_page v.epoch y from upto trim lng es d) (next_ask y (with_page v.epoch y from upto trim lng es d)) (heard_page d from upto trim lng es e k i h t refl)
        (λ x. page_asked N M q v.epoch y from upto trim lng es d (once_told d (subst (λ ns. IsDistinct ◌==◌ ns) (sym (S.nodes v d e k)) (members_apart v.spec.set))) (G.seals v d e k) (λ m n. subst (λ z. (m ≡ from_node q.log y q.epoch z) ⊎ M m) i (keeps m n)) x) unacked
    taken v e h d k false t = quietly (λ w f j l u o z n m.
        let is : w ≡ v = Some_inj (sym j ∙ e) in let s : Seals f ≡ Seals d = sym l ∙ (ap (λ (x : Recovery). x.stage) is ∙ k) in let same : f ≡ d = cc in
        let any = taken_one y from d u (subst (In u) same o) (and_from (u.node == y) ((u.asked == from) && not u.whole) (eq-eqb u.node y n) (and_from (u.asked == from) (not u.whole) (eq-eqb u.asked from (sym m)) (ap not z))) in
        let x : true ≡ false = sym any ∙ t in cc)

    by_stage : (v : Recovery) → q.recovery ≡ Some v → v.epoch ≡ epoch_of from → (g : Stage) → v.stage ≡ g → Out (calls (digests (looks_at c r q.log) (does_nothing q) v y from upto trim lng es g))
    by_stage v e h (Seals d) k = taken v e h d k (takes_any y from d) refl
    by_stage v e h (Stores g) k = quietly (λ w f j l u o z n m. let x : Seals f ≡ Stores g = sym l ∙ (ap (λ (x : Recovery). x.stage) (Some_inj (sym j ∙ e)) ∙ k) in cc)
    by_stage v e h (Closes s short) k = quietly (λ w f j l u o z n m. let x : Seals f ≡ Closes s short = sym l ∙ (ap (λ (x : Recovery). x.stage) (Some_inj (sym j ∙ e)) ∙ k) in cc)

    by_recovery : (o : Option Recovery) → q.recovery ≡ o → Out (calls (in_recovery (does_nothing q) (epoch_of from) o (λ v. digests (looks_at c r q.log) (does_nothing q) v y from upto trim lng es v.stage)))
    by_recovery None e = quietly (λ w f j l u o z n m. not_none (sym e ∙ j))
    by_recovery (Some v) e = cond_both (v.epoch == epoch_of from) (digests (looks_at c r q.log) (does_nothing q) v y from upto trim lng es v.stage) (does_nothing q) (λ k. Out (calls k)) (λ t. by_stage v e (eqb-true v.epoch (epoch_of from) t) v.stage refl)
        (λ t. quietly (λ w f j l u o z n m. let x : (v.epoch == epoch_of from) ≡ true = eq-eqb v.epoch (epoch_of from) (ap (λ (x : Recovery). x.epoch) (Some_inj (sym e ∙ j)) ∙ (sym (S.asks w f j l u o z) ∙ ap epoch_of (sym m))) in let a : true ≡ false = sym x ∙ t in cc))

  -- ---- a lost node ----
  lost_out : (n round generation end : ℕ) → b ≡ bodies.LostHere n round generation end → Out (calls (by_lost (looks_at c r q.log) (does_nothing q) y n))
  unfolding calls
  lost_out n round generation end i = cond_both (home_epoch n == q.epoch) (becomes (does_nothing q) (record q { lost = with_one y q.lost }))
      (in_recovery (does_nothing q) (home_epoch n) q.recovery (λ v. after_lost (looks_at c r q.log) (does_nothing q) (recovery_lost y v) (recovery_lost y v).stage)) (λ k. Out (calls k))
      (λ t f k x. record { seals = quiet.seals; stores = quiet.stores; closes = quiet.closes; appends = quiet.appends }) (λ t. by_recovery q.recovery refl) where
        quiet : Goes M q
        quiet = still (ap answers_ask i) (ap answers_store i)

        by_stage : (v : Recovery) → q.recovery ≡ Some v → home_epoch n ≡ v.epoch → (g : Stage) → v.stage ≡ g → Out (calls (after_lost (looks_at c r q.log) (does_nothing q) (recovery_lost y v) (lost_stage y g)))
        by_stage v e h (Seals d) k = digest_out (recovery_lost y v) (with_lost y d) [] (heard_lost v d n round generation end e k i h refl refl) (λ x. lost_asked M q.log q.epoch v.epoch y d (quiet.seals v d e k)) quiet.appends
        by_stage v e h (Stores g) k = closes_out (recovery_lost y v) g (heard_gone v n round generation end e k i h refl) quiet.appends
            (more_lost v.spec v.lost (with_one y v.lost) g.loss g.items (ItemGoes M q.log q.epoch) (λ z j. one_keeps y z v.lost j) (quiet.stores v g e k).1)
        by_stage v e h (Closes s short) k = absurd (G.closes v s short e k)

        by_recovery : (o : Option Recovery) → q.recovery ≡ o → Out (calls (in_recovery (does_nothing q) (home_epoch n) o (λ v. after_lost (looks_at c r q.log) (does_nothing q) (recovery_lost y v) (recovery_lost y v).stage)))
        by_recovery None e = λ f k x. quiet
        by_recovery (Some v) e = cond_both (v.epoch == home_epoch n) (after_lost (looks_at c r q.log) (does_nothing q) (recovery_lost y v) (recovery_lost y v).stage) (does_nothing q) (λ k. Out (calls k)) (λ t. by_stage v e (sym (eqb-true v.epoch (home_epoch n) t)) v.stage refl) (λ t f k x. quiet)

  -- ---- a closed epoch ----
  clean_out : (n : ℕ) (z : Summary) → b ≡ bodies.CleanHere n z → Out (calls (by_clean (looks_at c r q.log) (does_nothing q) n z))
  unfolding calls
  clean_out n z i = cond_both (home_epoch n == q.epoch) (preempt (does_nothing q) z.ballot) (in_recovery (does_nothing q) (home_epoch n) q.recovery (λ v. passes (looks_at c r q.log) (does_nothing q) v.epoch z)) (λ k. Out (calls k))
      (λ t. absurd (L.own n z i (eqb-true (home_epoch n) q.epoch t))) (λ t. by_recovery q.recovery refl) where
        unacked : AppendsGo M q
        unacked = no_acks (λ p j e. let u : bodies.CleanHere n z ≡ bodies.Stored p.0 = sym i ∙ e in cc)

        same : (k : ℕ) (s : Summary) → b ≡ bodies.CleanHere k s → n ≡ k
        same k s e = let u : bodies.CleanHere n z ≡ bodies.CleanHere k s = sym i ∙ e in cc

        of_ask : (e from : ℕ) → AnswersAsk e from b → e ≡ home_epoch n
        of_ask e from (tells_page upto trim lng es j) = absurd (let u : bodies.CleanHere n z ≡ bodies.DigestPage from upto trim lng es = sym i ∙ j in cc)
        of_ask e from (tells_clean k s h j) = sym h ∙ ap home_epoch (sym (same k s j))

        of_store : (k : ℕ) → AnswersStore k b → k ≡ n
        of_store k (tells_stored j) = absurd (let u : bodies.CleanHere n z ≡ bodies.Stored k = sym i ∙ j in cc)
        of_store k (tells_trimmed t h j) = absurd (let u : bodies.CleanHere n z ≡ bodies.TrimmedHere k t = sym i ∙ j in cc)
        of_store k (tells_closed s j) = sym (same k s j)

        quietly : ((v : Recovery) → q.recovery ≡ Some v → v.epoch ≡ home_epoch n → ⊥) → Out (calls (does_nothing q))
        quietly h f k x = record {
          seals = seals_stay (λ v d e g t j w o u. h v e (of_ask v.epoch t.asked u));
          stores = stores_stay (λ v g e k o w j u. h v e (sym (S.items v g e k w j).1 ∙ ap home_epoch (of_store w.0 u)));
          closes = G.closes;
          appends = unacked;
        }

        by_recovery : (o : Option Recovery) → q.recovery ≡ o → Out (calls (in_recovery (does_nothing q) (home_epoch n) o (λ v. passes (looks_at c r q.log) (does_nothing q) v.epoch z)))
        by_recovery None e = quietly (λ v f m. not_none (sym e ∙ f))
        by_recovery (Some v) e = cond_both (v.epoch == home_epoch n) (passes (looks_at c r q.log) (does_nothing q) v.epoch z) (does_nothing q) (λ k. Out (calls k)) (λ t f k x. begins_goes M q c r v.epoch k unacked)
            (λ t. quietly (λ w f m. let u : (v.epoch == home_epoch n) ≡ true = eq-eqb v.epoch (home_epoch n) (ap (λ (x : Recovery). x.epoch) (Some_inj (sym e ∙ f)) ∙ m) in let a : true ≡ false = sym u ∙ t in cc))

  sealed_out : (n k : ℕ) → b ≡ bodies.SealedHere n k → Out (calls (if nat_lt q.epoch k then preempt (does_nothing q) k else does_nothing q))
  unfolding calls
  sealed_out n k i = cond_both (nat_lt q.epoch k) (preempt (does_nothing q) k) (does_nothing q) (λ x. Out (calls x)) (λ t f j x. absurd (let z = ltb-true q.epoch k t in let u = L.seals n k i in omega arith)) (λ t f j x. still (ap answers_ask i) (ap answers_store i))

  -- ---- all of them ----
  by_body : (x : Body) → b ≡ x → Out (calls (by_reply (looks_at c r q.log) (does_nothing q) y x))
  unfolding calls
  by_body (bodies.Stored n) i = stored_out n i
  by_body (bodies.SealedHere n k) i = sealed_out n k i
  by_body (bodies.LostHere n round generation end) i = lost_out n round generation end i
  by_body (bodies.CleanHere n z) i = clean_out n z i
  by_body (bodies.TrimmedHere n t) i = trimmed_out n t i
  by_body (bodies.DigestPage from upto trim lng es) i = page_out from upto trim lng es i
  by_body _ i = λ f k x. still (ap answers_ask i) (ap answers_store i)

  pub reply_out : q.preempted ≡ None → Out (called (looks_at c r q.log) r (on_reply (looks_at c r q.log) q y b) (on_reply (looks_at c r q.log) q y b).tries)
  unfolding calls on_reply
  reply_out free = by_free q.preempted free where
    by_free : (o : Option ℕ) → o ≡ None → Out (calls (unless_preempted o (by_reply (looks_at c r q.log) (does_nothing q) y b) (does_nothing q)))
    by_free None f = by_body b refl
    by_free (Some k) f = absurd (not_none (sym f))
