-- What a reply or a retry makes a sequencer send is paid by what it may still send, at a retry but for so many messages.
use Rattle.std.proofs.Common.{◌≡◌, ◌∙◌, ◌⊎◌, ◌≤◌, ◌<◌, ℕ, zero, suc, ◌+◌, ◌-◌, ◌*◌, max, inl, inr, refl, ap, sym, subst, Bool, true, false, not, ◌&&◌, ◌||◌, ◌==◌, nat_lt, if◌then◌else◌, List, [], ◌∷◌, ◌++◌, length, map, Option, Some, None, arith, length-append}
use Rattle.std.proofs.lemmas.Bool.{cases_Bool, cases_order, and_parts, ltb-true, eqb-true, not-true}
use Rattle.std.proofs.Math.Nat.{mul-suc, suc-mul, mul-le-mul_left}
use Rattle.ld_table.specs.Table.{find}
use Rattle.ld_table.specs.Words.{with_one}
use Rattle.ld_lsn.specs.Number.{epoch_of, home_epoch, numbered, epoch_end}
use Rattle.ld_ids.specs.Choice.{nodes_of}
use Rattle.ld_config.specs.declared.config.Config.{Config}
use Rattle.ld_msg.specs.declared.msg.Summary.{Summary}
use Rattle.ld_msg.specs.declared.msg.Entry.{Entry}
use Rattle.ld_msg.specs.declared.msg.Body.{Body}
use Rattle.ld_msg.specs.declared.msg.Body.TheVariants as bodies
use Rattle.ld_msg.specs.Register.{Register, View, look, lce_of, epochs_of}
use Rattle.ld_msg.specs.Digest.{Told, no_digest, told_page, takes_page, with_page, with_lost, with_asks, asked_anew, digest_lng, enough, is_spent, plan}
use Rattle.ld_msg.specs.Sequencer.{Sequencer, Recovery, Stage, Seals, Stores, Closes, Storing, Append, Acts, Called, does_nothing, becomes, with_stage, preempt, goes_on, begun, recovery_of, recovery_asks, recovery_lost, lost_stage, to_each, digest_asks, next_ask, takes_any, planned, item_stores, storing_of, stored_at, acks_append, with_append, recovered_nodes, tells_clean, passes, release_messages, acted_messages, released_of, called, stores_plan, seals_on, summary_of, by_look, looks_now, after_lost, loses_node, in_recovery, by_lost, Planned, append_stores, raised, next_try, next_wave, retries_appends, asks_again, with_stores, try_close}
use Rattle.ld_machine.specs.Config.{looks_at}
use Rattle.ld_machine.specs.World.{In}
use Rattle.ld_safety.proofs.Lists.{cond_both}
use Rattle.ld_safety.proofs.Appends.{RowOf, acks_continue, raised_length}
use Rattle.ld_safety.proofs.SequencerSteps.{Acting, Retrying, Closing, Hearing, heard_page, heard_lost, Hearing_stored, heard_settled, heard_gone, acts_with, closing_acts, is_short, is_closing, closing, retry_acts, retry_stores}
use Rattle.ld_calm.proofs.Lefts.{left, left_most, left_falls_to, left_past}
use Rattle.ld_calm.proofs.Sends.{each, items_most, appends_most, planned_length, asks_most, none_told, next_most, release_most, release_none, acted_length}

-- how many nodes there are; how many asks for pages, and how many stores of one plan, an epoch may need; and the numbers of an epoch that pages end at
pub record Sizes : Type 0 where
  pub nodes : ℕ
  pub pages : ℕ
  pub items : ℕ
  pub marks : ℕ → List ℕ

-- asks for pages that one node may still be sent
abbrev pub told_cost : List ℕ → Told → ℕ
told_cost ms t = if t.whole then 0 else left t.asked ms

abbrev pub digest_cost : List ℕ → List Told → ℕ
digest_cost ms [] = 0
digest_cost ms (t ∷ d) = told_cost ms t + digest_cost ms d

-- an epoch that is closed: its nodes are told, and the released number, and the nodes of the next one are asked; before that its pages are asked for, and its plan is stored
abbrev pub epoch_cost : Sizes → ℕ
epoch_cost z = 3 * z.nodes + (z.pages + z.items)

abbrev pub stage_cost : Sizes → ℕ → Stage → ℕ
stage_cost z e (Seals d) = digest_cost (z.marks e) d + z.items
stage_cost z e (Stores g) = 0
stage_cost z e (Closes y short) = 0

-- the epochs that come after this one
abbrev pub later_cost : Sizes → ℕ → ℕ → ℕ
later_cost z own e = (own - (e + 1)) * epoch_cost z

abbrev pub recovery_cost : Sizes → ℕ → Option Recovery → ℕ
recovery_cost z own None = 0
recovery_cost z own (Some v) = later_cost z own v.epoch + (3 * z.nodes + stage_cost z v.epoch v.stage)

abbrev pub cost_unless : Sizes → Sequencer → Option ℕ → ℕ
cost_unless z q None = z.nodes * length q.appends + recovery_cost z q.epoch q.recovery
cost_unless z q (Some k) = 0

-- what it may still send before it retries
abbrev pub may_send : Sizes → Sequencer → ℕ
may_send z q = cost_unless z q q.preempted

-- ---- a digest ----

told_before : (ms : List ℕ) (t : Told) → t.whole ≡ false → told_cost ms t ≡ left t.asked ms
told_before ms t h = cond_both t.whole 0 (left t.asked ms) (λ n. n ≡ left t.asked ms) (λ u. absurd cc) (λ u. refl)

told_most : (ms : List ℕ) (t : Told) → told_cost ms t ≤ length ms
told_most ms t = cond_both t.whole 0 (left t.asked ms) (λ n. n ≤ length ms) (λ u. omega arith) (λ u. left_most t.asked ms)

pub digest_most : (ms : List ℕ) (d : List Told) → digest_cost ms d ≤ length d * length ms
digest_most ms [] = omega arith
digest_most ms (t ∷ d) = let ih : digest_cost ms d ≤ length d * length ms = digest_most ms d in let h = told_most ms t in let m : suc (length d) * length ms ≡ length d * length ms + length ms = suc-mul (length d) (length ms) in omega arith

lost_same : (ms : List ℕ) (y : ℕ) (d : List Told) → digest_cost ms (with_lost y d) ≡ digest_cost ms d
unfolding with_lost
lost_same ms y [] = refl
lost_same ms y (t ∷ d) = ap (λ n. told_cost ms t + n) (lost_same ms y d)

-- a page of a node that isn't whole, from where it was asked to a mark
module _ (ms : List ℕ) (epoch good y from upto trim lng : ℕ) (es : List Entry) (low : from ≤ upto) (mark : In upto ms) where
  abbrev paged : Told → Told
  paged t = if takes_page y from t then told_page epoch good upto trim lng es t else t

  after_page : (t : Told) → told_cost ms (told_page epoch good upto trim lng es t) ≤ left (upto + 1) ms
  after_page t = cond_both (told_page epoch good upto trim lng es t).whole 0 (left (told_page epoch good upto trim lng es t).asked ms) (λ n. n ≤ left (upto + 1) ms) (λ u. omega arith)
      (λ u. left_falls_to (upto + 1) (told_page epoch good upto trim lng es t).asked ms (omega arith))

  told_falls : (t : Told) → takes_page y from t ≡ true → told_cost ms (told_page epoch good upto trim lng es t) + 1 ≤ told_cost ms t
  told_falls t h =
      let p = and_parts (t.node == y) ((t.asked == from) && not t.whole) h in let r = and_parts (t.asked == from) (not t.whole) p.1 in
      let asked : t.asked ≡ from = eqb-true t.asked from r.0 in
      let was : told_cost ms t ≡ left t.asked ms = told_before ms t (not-true t.whole r.1) in
      let a = after_page t in let b : left (upto + 1) ms + 1 ≤ left t.asked ms = left_past t.asked upto ms mark (subst (λ n. n ≤ upto) (sym asked) low) in omega arith

  told_not_more : (t : Told) → told_cost ms (paged t) ≤ told_cost ms t
  told_not_more t = cond_both (takes_page y from t) (told_page epoch good upto trim lng es t) t (λ u. told_cost ms u ≤ told_cost ms t) (λ h. let z = told_falls t h in omega arith) (λ h. omega arith)

  told_less : (t : Told) → takes_page y from t ≡ true → told_cost ms (paged t) + 1 ≤ told_cost ms t
  told_less t h = cond_both (takes_page y from t) (told_page epoch good upto trim lng es t) t (λ u. told_cost ms u + 1 ≤ told_cost ms t) (λ g. told_falls t h) (λ g. absurd cc)

  pages_not_more : (d : List Told) → digest_cost ms (map paged d) ≤ digest_cost ms d
  pages_not_more [] = omega arith
  pages_not_more (t ∷ d) = let ih : digest_cost ms (map paged d) ≤ digest_cost ms d = pages_not_more d in let h = told_not_more t in omega arith

  pages_less : (d : List Told) → takes_any y from d ≡ true → digest_cost ms (map paged d) + 1 ≤ digest_cost ms d
  pages_less [] h = absurd cc
  pages_less (t ∷ d) h = elim (cases_Bool (takes_page y from t)) [
    | inl a ↦ (let f = told_less t a in let g : digest_cost ms (map paged d) ≤ digest_cost ms d = pages_not_more d in omega arith)
    | inr a ↦ (let ih : digest_cost ms (map paged d) + 1 ≤ digest_cost ms d = pages_less d (subst (λ b. (b || takes_any y from d) ≡ true) a h) in let f = told_not_more t in omega arith)
  ]

pub page_falls : (ms : List ℕ) (epoch y from upto trim lng : ℕ) (es : List Entry) (d : List Told) → from ≤ upto → In upto ms → takes_any y from d ≡ true → digest_cost ms (with_page epoch y from upto trim lng es d) + 1 ≤ digest_cost ms d
unfolding with_page
page_falls ms epoch y from upto trim lng es d low mark h = pages_less ms epoch (max (digest_lng d) lng) y from upto trim lng es low mark d h

-- an ask anew is from no lower number
anew_not_more : (ms : List ℕ) (epoch good : ℕ) (d : List Told) → digest_cost ms (map (asked_anew epoch good) d) ≤ digest_cost ms d
anew_not_more ms epoch good [] = omega arith
anew_not_more ms epoch good (t ∷ d) = let ih : digest_cost ms (map (asked_anew epoch good) d) ≤ digest_cost ms d = anew_not_more ms epoch good d in let h = both t.whole in omega arith where
  later : t.asked ≤ (if t.asked == numbered epoch 1 then t.asked else max t.asked (numbered epoch (good + 1)))
  later = cond_both (t.asked == numbered epoch 1) t.asked (max t.asked (numbered epoch (good + 1))) (λ n. t.asked ≤ n) (λ u. omega arith) (λ u. omega arith)

  both : (b : Bool) → (if b then 0 else left (if t.asked == numbered epoch 1 then t.asked else max t.asked (numbered epoch (good + 1))) ms) ≤ (if b then 0 else left t.asked ms)
  both true = omega arith
  both false = left_falls_to t.asked (if t.asked == numbered epoch 1 then t.asked else max t.asked (numbered epoch (good + 1))) ms later

asks_not_more : (ms : List ℕ) (epoch : ℕ) (d : List Told) → digest_cost ms (with_asks epoch d) ≤ digest_cost ms d
unfolding with_asks
asks_not_more ms epoch d = anew_not_more ms epoch (digest_lng d) d

anew_length : (epoch good : ℕ) (d : List Told) → length (map (asked_anew epoch good) d) ≡ length d
anew_length epoch good [] = refl
anew_length epoch good (t ∷ d) = ap suc (anew_length epoch good d)

asks_length : (epoch : ℕ) (d : List Told) → length (with_asks epoch d) ≡ length d
unfolding with_asks
asks_length epoch d = anew_length epoch (digest_lng d) d

-- ---- epochs that are left ----

-- one epoch less is one epoch's cost less
epochs_less : (own e k c : ℕ) → e < k → k < own → (own - (k + 1)) * c + c ≤ (own - (e + 1)) * c
epochs_less own e k c h g =
    let m : suc (own - (k + 1)) * c ≡ (own - (k + 1)) * c + c = suc-mul (own - (k + 1)) c in
    let s : suc (own - (k + 1)) ≤ own - (e + 1) = omega arith in
    let l : suc (own - (k + 1)) * c ≤ (own - (e + 1)) * c = times_mono (suc (own - (k + 1))) (own - (e + 1)) c s in omega arith where
      times_mono : (a b d : ℕ) → a ≤ b → a * d ≤ b * d
      times_mono zero b d h = omega arith
      times_mono (suc a) zero d h = absurd (omega arith)
      times_mono (suc a) (suc b) d h = let ih : a * d ≤ b * d = times_mono a b d (omega arith) in let x : suc a * d ≡ a * d + d = suc-mul a d in let y : suc b * d ≡ b * d + d = suc-mul b d in omega arith

module _ (c : Config) (r : Register) (q : Sequencer) (z : Sizes) (free : q.preempted ≡ None) (own_nodes : length (nodes_of q.spec) ≤ z.nodes) (looked : (e : ℕ) → length (nodes_of (looks_at c r q.log e).spec) ≤ z.nodes)
    (recovered : (v : Recovery) → q.recovery ≡ Some v → length (nodes_of v.spec) ≤ z.nodes) (paged_fits : (e : ℕ) → z.nodes * length (z.marks e) ≤ z.pages) (next : (v : Recovery) → q.recovery ≡ Some v → v.epoch ≤ lce_of r q.log + 1) where
  abbrev looks : ℕ → View
  looks = looks_at c r q.log

  -- what a call sends is paid, but for so many messages
  abbrev pub PaidBut : ℕ → Called → Type 0
  PaidBut x k = length (acted_messages q k.acts) + may_send z k.acts.sequencer ≤ may_send z q + x

  abbrev pub Paid : Called → Type 0
  Paid k = PaidBut 0 k

  cost_now : may_send z q ≡ z.nodes * length q.appends + recovery_cost z q.epoch q.recovery
  cost_now = ap (cost_unless z q) free

  -- nothing but stores is sent, and nothing more may be
  quietly : (x : ℕ) (n : Register) (a : Acts) → a.cleans ≡ [] → a.asks ≡ [] → length a.stores ≤ x → released_of a.sequencer ≡ released_of q → may_send z a.sequencer ≤ may_send z q → PaidBut x (acts_with n a)
  quietly x n a p s t u h =
      let l = acted_length q a in let v : length (release_messages q a.sequencer) ≡ 0 = release_none q a.sequencer u in
      let w : length a.cleans ≡ 0 = ap length p in let y : length a.asks ≡ 0 = ap length s in omega arith

  -- a new recovery has less before it than the one that ends
  begins_less : (own e lce : ℕ) → e ≤ lce → recovery_cost z own (if nat_lt (lce + 1) own then Some (begun (looks (lce + 1))) else None) ≤ later_cost z own e
  unfolding look
  begins_less own e lce h = cond_both (nat_lt (lce + 1) own) (Some (begun (looks (lce + 1)))) None (λ o. recovery_cost z own o ≤ later_cost z own e) (λ t.
      let d : List Told = no_digest (looks (lce + 1)).spec (lce + 1) in
      let a : digest_cost (z.marks (lce + 1)) d ≤ length d * length (z.marks (lce + 1)) = digest_most (z.marks (lce + 1)) d in
      let b : length d ≡ length (nodes_of (looks (lce + 1)).spec) = none_told (looks (lce + 1)).spec (lce + 1) in
      let f : length d * length (z.marks (lce + 1)) ≤ z.nodes * length (z.marks (lce + 1)) = times (length d) z.nodes (length (z.marks (lce + 1))) (let k = looked (lce + 1) in omega arith) in
      let g = paged_fits (lce + 1) in
      let m : (own - (lce + 1 + 1)) * epoch_cost z + epoch_cost z ≤ (own - (e + 1)) * epoch_cost z = epochs_less own e (lce + 1) (epoch_cost z) (omega arith) (ltb-true (lce + 1) own t) in omega arith)
      (λ t. omega arith) where
        times : (a b d : ℕ) → a ≤ b → a * d ≤ b * d
        times zero b d h = omega arith
        times (suc a) zero d h = absurd (omega arith)
        times (suc a) (suc b) d h = let ih : a * d ≤ b * d = times a b d (omega arith) in let x : suc a * d ≡ a * d + d = suc-mul a d in let y : suc b * d ≡ b * d + d = suc-mul b d in omega arith

  -- the recovery that there is, as it was before the reply
  pub record Was (w : Recovery) : Type 0 where
    pub recovery : Recovery
    pub there : q.recovery ≡ Some recovery
    pub epoch : w.epoch ≡ recovery.epoch
    pub spec : w.spec ≡ recovery.spec

  was_heard : (y : ℕ) (b : Body) (w : Recovery) (d : List Told) → Hearing q y b w d → Was w
  was_heard y b w d (heard_page f from upto trim lng es e k i g t j) = record { recovery = w; there = e; epoch = refl; spec = refl }
  was_heard y b w d (heard_lost v f n round generation end e k i g j h) = record { recovery = v; there = e; epoch = ap (λ (x : Recovery). x.epoch) j; spec = ap (λ (x : Recovery). x.spec) j }

  was_stored : (y : ℕ) (b : Body) (w : Recovery) (g : Storing) → Hearing_stored q y b w g → Was w
  was_stored y b w g (heard_settled f p e k s m j) = record { recovery = w; there = e; epoch = refl; spec = refl }
  was_stored y b w g (heard_gone v n round generation end e k i j h) = record { recovery = v; there = e; epoch = ap (λ (x : Recovery). x.epoch) h; spec = ap (λ (x : Recovery). x.spec) h }

  was_nodes : (w : Recovery) → Was w → length (nodes_of w.spec) ≤ z.nodes
  was_nodes w h = subst (λ p. length (nodes_of p) ≤ z.nodes) (sym h.spec) (recovered h.recovery h.there)

  was_cost : (w : Recovery) (h : Was w) → z.nodes * length q.appends + (later_cost z q.epoch w.epoch + (3 * z.nodes + stage_cost z h.recovery.epoch h.recovery.stage)) ≤ may_send z q
  was_cost w h = let a = cost_now in let b : recovery_cost z q.epoch q.recovery ≡ later_cost z q.epoch h.recovery.epoch + (3 * z.nodes + stage_cost z h.recovery.epoch h.recovery.stage) = ap (recovery_cost z q.epoch) h.there in
      let e : later_cost z q.epoch w.epoch ≡ later_cost z q.epoch h.recovery.epoch = ap (later_cost z q.epoch) h.epoch in omega arith

  -- what a call leaves of the sequencer itself
  pub record Same (a : Sequencer) : Type 0 where
    pub epoch : a.epoch ≡ q.epoch
    pub spec : a.spec ≡ q.spec
    pub appends : length a.appends ≡ length q.appends
    pub alive : a.preempted ≡ None

  -- epochs up to one are closed
  goes_paid : (x : ℕ) (n : Register) (a : Acts) (w : Recovery) (lce : ℕ) (closed : List ℕ) → Was w → Same a.sequencer → length a.cleans ≤ z.nodes → length a.stores ≤ x → w.epoch ≤ lce → PaidBut x (acts_with n (record (goes_on looks a lce) { closed = closed }))
  goes_paid x n a w lce closed h s m t l =
      let new : Sequencer = record a.sequencer { lce = lce; recovery = recovery_of looks a.sequencer lce } in
      let acts : Acts = record (goes_on looks a lce) { closed = closed } in
      let all = acted_length q acts in
      let rel : length (release_messages q new) ≤ z.nodes = (let y = release_most q new in let k : length (nodes_of a.sequencer.spec) ≤ z.nodes = subst (λ p. length (nodes_of p) ≤ z.nodes) (sym s.spec) own_nodes in omega arith) in
      let asks : length (recovery_asks looks a.sequencer lce) ≤ z.nodes = cond_both (nat_lt (lce + 1) a.sequencer.epoch) (digest_asks (no_digest (looks (lce + 1)).spec (lce + 1))) [] (λ ms. length ms ≤ z.nodes)
      (λ u. let d = asks_most (no_digest (looks (lce + 1)).spec (lce + 1)) in let e = none_told (looks (lce + 1)).spec (lce + 1) in let f = looked (lce + 1) in omega arith) (λ u. omega arith) in
      let cost : may_send z new ≡ z.nodes * length a.sequencer.appends + recovery_cost z a.sequencer.epoch (recovery_of looks a.sequencer lce) = ap (cost_unless z new) s.alive in
      let same : z.nodes * length a.sequencer.appends ≡ z.nodes * length q.appends = ap (λ k. z.nodes * k) s.appends in
      let fewer : recovery_cost z a.sequencer.epoch (recovery_of looks a.sequencer lce) ≤ later_cost z a.sequencer.epoch w.epoch = begins_less a.sequencer.epoch w.epoch lce l in
      let own : later_cost z a.sequencer.epoch w.epoch ≡ later_cost z q.epoch w.epoch = ap (λ k. later_cost z k w.epoch) s.epoch in
      let old = was_cost w h in omega arith

  preempted_paid : (x : ℕ) (n : Register) (a : Acts) (k : ℕ) → a.cleans ≡ [] → a.asks ≡ [] → length a.stores ≤ x → released_of a.sequencer ≡ released_of q → PaidBut x (acts_with n (preempt a k))
  preempted_paid x n a k p s t u = quietly x n (preempt a k) p s t u (omega arith)

  -- a close, of a plan or once more
  close_paid : (x : ℕ) (a : Acts) (w : Recovery) (y : Summary) (short : Bool) → Was w → Same a.sequencer → a.sequencer.log ≡ q.log → released_of a.sequencer ≡ released_of q → a.cleans ≡ [] → a.asks ≡ [] → length a.stores ≤ x → a.sequencer.recovery ≡ Some (record w { stage = Closes y short })
      → Closing r looks a w.epoch y short (PaidBut x)
  close_paid x a w y short h s lg u p k t rc = record {
    granted = λ n e o g. goes_paid x n (tells_clean a w.epoch y) w w.epoch (numbered w.epoch y.end ∷ []) h s (let m = each (bodies.Clean w.epoch y) (nodes_of w.spec) in let f = was_nodes w h in
        subst (λ o. length (to_each (bodies.Clean w.epoch y) (recovered_nodes o)) ≤ z.nodes) (sym rc) (omega arith)) t (omega arith);
    passed = λ l. preempted_paid x r a (lce_of r a.sequencer.log + 1) p k t u;
    behind = λ b l. goes_paid x r a w (lce_of r a.sequencer.log) a.closed h s (let m : length a.cleans ≡ 0 = ap length p in omega arith) t (behind_low b);
    overtaken = λ e o. preempted_paid x r a (epochs_of r a.sequencer.log).epoch p k t u;
    failed = λ n g. quietly x n (record a { failed = true }) p k t u stays;
  } where
    behind_low : (lce_of r a.sequencer.log + 1 ≡ w.epoch → ⊥) → w.epoch ≤ lce_of r a.sequencer.log
    behind_low b = let n : w.epoch ≤ lce_of r a.sequencer.log + 1 = subst (λ l. w.epoch ≤ lce_of r l + 1) (sym lg) (subst (λ e. e ≤ lce_of r q.log + 1) (sym h.epoch) (next h.recovery h.there)) in
        elim (cases_order (lce_of r a.sequencer.log + 1) w.epoch) [ inl e ↦ absurd (b e) | inr (inl l) ↦ omega arith | inr (inr l) ↦ omega arith ]

    stays : may_send z a.sequencer ≤ may_send z q
    stays = let cost : may_send z a.sequencer ≡ z.nodes * length a.sequencer.appends + recovery_cost z a.sequencer.epoch a.sequencer.recovery = ap (cost_unless z a.sequencer) s.alive in
        let same : z.nodes * length a.sequencer.appends ≡ z.nodes * length q.appends = ap (λ m. z.nodes * m) s.appends in
        let rec : recovery_cost z a.sequencer.epoch a.sequencer.recovery ≡ later_cost z a.sequencer.epoch w.epoch + (3 * z.nodes + 0) = ap (recovery_cost z a.sequencer.epoch) rc in
        let own : later_cost z a.sequencer.epoch w.epoch ≡ later_cost z q.epoch w.epoch = ap (λ k. later_cost z k w.epoch) s.epoch in
        let old = was_cost w h in omega arith

  self : Same q
  self = record { epoch = refl; spec = refl; appends = refl; alive = free }

  staged : (w : Recovery) (g : Stage) → Same (with_stage q w g)
  staged w g = record { epoch = refl; spec = refl; appends = refl; alive = free }

  cost_of_stage : (w : Recovery) (g : Stage) → may_send z (with_stage q w g) ≡ z.nodes * length q.appends + (later_cost z q.epoch w.epoch + (3 * z.nodes + stage_cost z w.epoch g))
  cost_of_stage w g = ap (cost_unless z (with_stage q w g)) free

  -- acknowledged appends pay for the release
  acks_paid : (row : RowOf q) (y n : ℕ) (p : Append) → find n q.appends ≡ Some p → Paid (acts_with r (acks_append (does_nothing q) y n (Some p)))
  acks_paid row y n p g =
      let a : Acts = acks_append (does_nothing q) y n (Some p) in
      let new : Sequencer = with_append q.spec q n (stored_at p y) in
      let count = (acks_continue q.spec q n p (stored_at p y) row g).count in
      let x = acted_length q a in
      let cost : may_send z new ≡ z.nodes * length new.appends + recovery_cost z q.epoch q.recovery = ap (cost_unless z new) free in
      let old = cost_now in
      elim (cases_order q.lng new.lng) [
        | inl e ↦ (let v : length (release_messages q new) ≡ 0 = release_none q new (let h : released_of new ≡ released_of q = ap (λ k. if nat_lt (q.lce + 1) q.epoch then epoch_end q.lce else numbered q.epoch k) (sym e) in h) in
            let same : length new.appends ≡ length q.appends = omega arith in let times : z.nodes * length new.appends ≡ z.nodes * length q.appends = ap (λ k. z.nodes * k) same in omega arith)
        | inr (inl l) ↦ (let v : length (release_messages q new) ≤ length (nodes_of q.spec) = release_most q new in
            let m : z.nodes * suc (length new.appends) ≤ z.nodes * length q.appends = mul-le-mul_left z.nodes (omega arith) in let k : z.nodes * suc (length new.appends) ≡ z.nodes * length new.appends + z.nodes = mul-suc z.nodes (length new.appends) in omega arith)
        | inr (inr l) ↦ absurd (omega arith)
      ]

  -- ---- a digest ----

  -- a recovery that seals, as it was before the reply
  pub record Sealing (w : Recovery) : Type 0 where
    pub recovery : Recovery
    pub there : q.recovery ≡ Some recovery
    pub epoch : w.epoch ≡ recovery.epoch
    pub spec : w.spec ≡ recovery.spec
    pub digest : List Told
    pub stage : recovery.stage ≡ Seals digest

  sealing : (y : ℕ) (b : Body) (w : Recovery) (d : List Told) → Hearing q y b w d → Sealing w
  sealing y b w d (heard_page f from upto trim lng es e k i g t j) = record { recovery = w; there = e; epoch = refl; spec = refl; digest = f; stage = k }
  sealing y b w d (heard_lost v f n round generation end e k i g j h) = record { recovery = v; there = e; epoch = ap (λ (x : Recovery). x.epoch) j; spec = ap (λ (x : Recovery). x.spec) j; digest = f; stage = k }

  was_sealing : (w : Recovery) → Sealing w → Was w
  was_sealing w h = record { recovery = h.recovery; there = h.there; epoch = h.epoch; spec = h.spec }

  sealing_cost : (w : Recovery) (h : Sealing w) → may_send z q ≡ z.nodes * length q.appends + (later_cost z q.epoch w.epoch + (3 * z.nodes + (digest_cost (z.marks w.epoch) h.digest + z.items)))
  sealing_cost w h = let a = cost_now in let b : recovery_cost z q.epoch q.recovery ≡ later_cost z q.epoch h.recovery.epoch + (3 * z.nodes + stage_cost z h.recovery.epoch h.recovery.stage) = ap (recovery_cost z q.epoch) h.there in
      let e : later_cost z q.epoch w.epoch ≡ later_cost z q.epoch h.recovery.epoch = ap (later_cost z q.epoch) h.epoch in
      let k : stage_cost z h.recovery.epoch h.recovery.stage ≡ digest_cost (z.marks h.recovery.epoch) h.digest + z.items = ap (stage_cost z h.recovery.epoch) h.stage in
      let m : digest_cost (z.marks w.epoch) h.digest ≡ digest_cost (z.marks h.recovery.epoch) h.digest = ap (λ n. digest_cost (z.marks n) h.digest) h.epoch in omega arith

  -- asks are paid by what fell of the digest
  seals_paid : (w : Recovery) (d : List Told) (asks : List (ℕ × Body)) (h : Sealing w) → length asks + digest_cost (z.marks w.epoch) d ≤ digest_cost (z.marks w.epoch) h.digest → Paid (acts_with r (seals_on (does_nothing q) w d asks))
  seals_paid w d asks h l =
      let a : Acts = seals_on (does_nothing q) w d asks in let x = acted_length q a in
      let v : length (release_messages q (with_stage q w (Seals d))) ≡ 0 = release_none q (with_stage q w (Seals d)) refl in
      let new = cost_of_stage w (Seals d) in let old = sealing_cost w h in omega arith

  -- a plan's stores are paid by what is set aside for them
  plan_paid : (w : Recovery) (d : List Told) (loss : Bool) (h : Sealing w) → z.nodes * length (plan w.epoch loss d).items ≤ z.items → Paid (acts_with r (stores_plan (does_nothing q) w (plan w.epoch loss d)))
  plan_paid w d loss h l =
      let p = plan w.epoch loss d in
      let a : Acts = stores_plan (does_nothing q) w (plan w.epoch loss d) in let x = acted_length q a in
      let v : length (release_messages q (with_stage q w (Stores (storing_of (plan w.epoch loss d))))) ≡ 0 = release_none q (with_stage q w (Stores (storing_of (plan w.epoch loss d)))) refl in
      let few : length (nodes_of w.spec) ≤ z.nodes = was_nodes w (was_sealing w h) in
      let m : length a.stores ≤ z.nodes * length (planned (plan w.epoch loss d).items) = items_most z.nodes w.spec few w.lost (plan w.epoch loss d).loss (plan w.epoch loss d).lng 0 (planned (plan w.epoch loss d).items) in
      let n : length (planned (plan w.epoch loss d).items) ≡ length (plan w.epoch loss d).items = planned_length (plan w.epoch loss d).items in
      let k : z.nodes * length (planned (plan w.epoch loss d).items) ≡ z.nodes * length (plan w.epoch loss d).items = ap (λ j. z.nodes * j) n in
      let new = cost_of_stage w (Stores (storing_of (plan w.epoch loss d))) in let old = sealing_cost w h in omega arith

  -- an epoch that was closed is passed
  passed_paid : (w : Recovery) (s : Summary) → Was w → Paid (acts_with r (passes looks (does_nothing q) w.epoch s))
  passed_paid w s h = goes_paid 0 r (tells_clean (does_nothing q) w.epoch s) w w.epoch [] h self
      (let m = each (bodies.Clean w.epoch s) (nodes_of h.recovery.spec) in let f : length (nodes_of h.recovery.spec) ≤ z.nodes = recovered h.recovery h.there in
      subst (λ o. length (to_each (bodies.Clean w.epoch s) (recovered_nodes o)) ≤ z.nodes) (sym h.there) (omega arith)) (omega arith) (omega arith)

  -- ---- a plan that is stored ----
  stays_stored : (w : Recovery) (g : Stage) → Was w → stage_cost z w.epoch g ≡ 0 → may_send z (with_stage q w g) ≤ may_send z q
  stays_stored w g h e = let new = cost_of_stage w g in let old = was_cost w h in omega arith

  -- ---- a reply that isn't of a lost node ----
  module _ (row : RowOf q) (y : ℕ) (b : Body) (told : (from upto trim lng : ℕ) (es : List Entry) → b ≡ bodies.DigestPage from upto trim lng es → (from ≤ upto) × In upto (z.marks (epoch_of from)))
      (plans_fit : (w : Recovery) (d : List Told) (loss : Bool) → Hearing q y b w d → z.nodes * length (plan w.epoch loss d).items ≤ z.items) where
    -- what is asked after a page, or after a node said that it is lost
    asks_paid : (w : Recovery) (d : List Told) (asks : List (ℕ × Body)) (H : Hearing q y b w d) → ((n round generation end : ℕ) → b ≡ bodies.LostHere n round generation end → asks ≡ []) → length asks ≤ 1 → Paid (acts_with r (seals_on (does_nothing q) w d asks))
    asks_paid w d asks (heard_page f from upto trim lng es e k i g t j) none one =
        let p = told from upto trim lng es i in
        let fall : digest_cost (z.marks w.epoch) (with_page w.epoch y from upto trim lng es f) + 1 ≤ digest_cost (z.marks w.epoch) f = page_falls (z.marks w.epoch) w.epoch y from upto trim lng es f p.0 (subst (λ n. In upto (z.marks n)) (sym g) p.1) t in
        let same : digest_cost (z.marks w.epoch) d ≡ digest_cost (z.marks w.epoch) (with_page w.epoch y from upto trim lng es f) = ap (digest_cost (z.marks w.epoch)) j in
        seals_paid w d asks (record { recovery = w; there = e; epoch = refl; spec = refl; digest = f; stage = k }) (omega arith)
    asks_paid w d asks (heard_lost v f n round generation end e k i g j h) none one =
        let same : digest_cost (z.marks w.epoch) d ≡ digest_cost (z.marks w.epoch) f = ap (digest_cost (z.marks w.epoch)) h ∙ lost_same (z.marks w.epoch) y f in
        let no : length asks ≡ 0 = ap length (none n round generation end i) in
        seals_paid w d asks (record { recovery = v; there = e; epoch = ap (λ (x : Recovery). x.epoch) j; spec = ap (λ (x : Recovery). x.spec) j; digest = f; stage = k }) (omega arith)

    one_ask : (d : List Told) (asks : List (ℕ × Body)) → (asks ≡ next_ask y d) ⊎ (asks ≡ []) → length asks ≤ 1
    one_ask d asks (inl e) = let m = next_most y d in let s : length asks ≡ length (next_ask y d) = ap length e in omega arith
    one_ask d asks (inr e) = let s : length asks ≡ 0 = ap length e in omega arith

    -- but for what is asked after a node said that it is lost, which is nothing
    pub acting_paid : (gone : Recovery → List ℕ) → ((n round generation end : ℕ) → b ≡ bodies.LostHere n round generation end → ⊥) → Acting c r gone q y b (λ k m. Paid k)
    acting_paid gone sound = record {
      quiet = quietly 0 r (does_nothing q) refl refl (omega arith) refl (omega arith);
      sealed = λ n k f i l. preempted_paid 0 r (does_nothing q) k refl refl (omega arith) refl;
      cleaned_own = λ n s f i h. preempted_paid 0 r (does_nothing q) s.ballot refl refl (omega arith) refl;
      acks = λ n p f i h g m. acks_paid row y n p g;
      lost_own = λ n round generation end f i h. absurd (sound n round generation end i);
      cleaned = λ v n s f e i h. passed_paid v s (record { recovery = v; there = e; epoch = refl; spec = refl });
      asks_more = λ w d asks f H a n u. asks_paid w d asks H (λ n round generation end i. absurd (sound n round generation end i)) (one_ask d asks a);
      plans = λ w d loss f H p. plan_paid w d loss (sealing y b w d H) (plans_fit w d loss H);
      looks_closed = λ w d s f H u o. passed_paid w s (was_heard y b w d H);
      looks_later = λ w d f H u o n. preempted_paid 0 r (does_nothing q) (looks w.epoch).epoch refl refl (omega arith) refl;
      stores_on = λ w g f H t. quietly 0 r (becomes (does_nothing q) (with_stage q w (Stores g))) refl refl (omega arith) refl (stays_stored w (Stores g) (was_stored y b w g H) refl);
      closes_now = λ w g f H t. close_paid 0 (closing_acts (does_nothing q) w q.epoch g) w (summary_of q.epoch g) (is_short w g) (was_stored y b w g H) (staged w (Closes (summary_of q.epoch g) (is_short w g))) refl refl refl refl (omega arith) refl;
      lost_closing = λ v s short n round generation end f e h i k. absurd (sound n round generation end i);
    }

  -- ---- a reply of a lost node ----
  abbrev after : Acts → Called
  after a = called looks r a a.tries

  module _ (y n round generation end : ℕ) (plans_fit : (w : Recovery) (d : List Told) (loss : Bool) → Hearing q y (bodies.LostHere n round generation end) w d → z.nodes * length (plan w.epoch loss d).items ≤ z.items) where
    spent_paid : (w : Recovery) (d : List Told) (H : Hearing q y (bodies.LostHere n round generation end) w d) (o : Option Summary) (epoch : ℕ) → Paid (after (by_look looks (does_nothing q) w d o epoch))
    spent_paid w d H (Some s) epoch = passed_paid w s (was_heard y (bodies.LostHere n round generation end) w d H)
    spent_paid w d H None epoch = cond_both (epoch == q.epoch) (stores_plan (does_nothing q) w (plan w.epoch true d)) (preempt (does_nothing q) epoch) (λ a. Paid (after a))
        (λ t. plan_paid w d true (sealing y (bodies.LostHere n round generation end) w d H) (plans_fit w d true H)) (λ t. preempted_paid 0 r (does_nothing q) epoch refl refl (omega arith) refl)

    stored_closes : (w : Recovery) (g : Storing) → Was w → (t : Bool) → Paid (after (if t then closing_acts (does_nothing q) w q.epoch g else becomes (does_nothing q) (with_stage q w (Stores g))))
    stored_closes w g h true = closing r looks (closing_acts (does_nothing q) w q.epoch g) w.epoch (summary_of q.epoch g) (is_short w g) Paid
        (close_paid 0 (closing_acts (does_nothing q) w q.epoch g) w (summary_of q.epoch g) (is_short w g) h (staged w (Closes (summary_of q.epoch g) (is_short w g))) refl refl refl refl (omega arith) refl)
    stored_closes w g h false = quietly 0 r (becomes (does_nothing q) (with_stage q w (Stores g))) refl refl (omega arith) refl (stays_stored w (Stores g) h refl)

    lost_stage_paid : (v : Recovery) → q.recovery ≡ Some v → home_epoch n ≡ v.epoch → (g : Stage) → v.stage ≡ g → Paid (after (after_lost looks (does_nothing q) (recovery_lost y v) (lost_stage y g)))
    lost_stage_paid v e h (Seals d) k =
        let w : Recovery = recovery_lost y v in let f : List Told = with_lost y d in
        let H : Hearing q y (bodies.LostHere n round generation end) w f = heard_lost v d n round generation end e k refl h refl refl in
        cond_both (enough w.spec f) (stores_plan (does_nothing q) w (plan w.epoch false f)) (if is_spent w.spec f then looks_now looks (does_nothing q) w f else seals_on (does_nothing q) w f []) (λ a. Paid (after a))
        (λ t. plan_paid w f false (sealing y (bodies.LostHere n round generation end) w f H) (plans_fit w f false H))
        (λ t. cond_both (is_spent w.spec f) (looks_now looks (does_nothing q) w f) (seals_on (does_nothing q) w f []) (λ a. Paid (after a)) (λ u. spent_paid w f H (looks w.epoch).summary (looks w.epoch).epoch)
        (λ u. seals_paid w f [] (record { recovery = v; there = e; epoch = refl; spec = refl; digest = d; stage = k }) (let x = lost_same (z.marks v.epoch) y d in omega arith)))
    lost_stage_paid v e h (Stores g) k = stored_closes (recovery_lost y v) g (record { recovery = v; there = e; epoch = refl; spec = refl }) (is_closing (recovery_lost y v) g)
    lost_stage_paid v e h (Closes s short) k = quietly 0 r (becomes (does_nothing q) (with_stage q (recovery_lost y v) (Closes s short))) refl refl (omega arith) refl
        (stays_stored (recovery_lost y v) (Closes s short) (record { recovery = v; there = e; epoch = refl; spec = refl }) refl)

    lost_in : (o : Option Recovery) → q.recovery ≡ o → Paid (after (in_recovery (does_nothing q) (home_epoch n) o (λ v. loses_node looks (does_nothing q) (recovery_lost y v))))
    lost_in None e = quietly 0 r (does_nothing q) refl refl (omega arith) refl (omega arith)
    lost_in (Some v) e = cond_both (v.epoch == home_epoch n) (loses_node looks (does_nothing q) (recovery_lost y v)) (does_nothing q) (λ a. Paid (after a)) (λ t. lost_stage_paid v e (sym (eqb-true v.epoch (home_epoch n) t)) v.stage refl)
        (λ t. quietly 0 r (does_nothing q) refl refl (omega arith) refl (omega arith))

    pub lost_paid : Paid (after (by_lost looks (does_nothing q) y n))
    lost_paid = cond_both (home_epoch n == q.epoch) (becomes (does_nothing q) (record q { lost = with_one y q.lost })) (in_recovery (does_nothing q) (home_epoch n) q.recovery (λ v. loses_node looks (does_nothing q) (recovery_lost y v))) (λ a. Paid (after a))
        (λ t. quietly 0 r (becomes (does_nothing q) (record q { lost = with_one y q.lost })) refl refl (omega arith) refl (omega arith)) (λ t. lost_in q.recovery refl)

  -- ---- a retry ----
  module _ (digest_few : (v : Recovery) (d : List Told) → q.recovery ≡ Some v → v.stage ≡ Seals d → length d ≤ z.nodes) (plan_fits : (v : Recovery) (d : List Told) → q.recovery ≡ Some v → v.stage ≡ Seals d → z.nodes * length (plan v.epoch true d).items ≤ z.items)
      (stored_fits : (v : Recovery) (g : Storing) → q.recovery ≡ Some v → v.stage ≡ Stores g → z.nodes * length g.items ≤ z.items) (nodes_fit : z.nodes ≤ z.items) where
    -- the pending appends go again, and so do asks or items
    abbrev pub again : ℕ
    again = z.nodes * length q.appends + z.items

    abbrev append_again : List (ℕ × Body)
    append_again = append_stores q.spec q.lost q.lng (raised q.spec q.appends)

    appends_few : length append_again ≤ z.nodes * length q.appends
    appends_few = let a = appends_most z.nodes q.spec own_nodes q.lost q.lng (raised q.spec q.appends) in let b : z.nodes * length (raised q.spec q.appends) ≡ z.nodes * length q.appends = ap (λ k. z.nodes * k) (raised_length q.spec q.appends) in omega arith

    abbrev raised_self : Sequencer
    raised_self = record q { appends = raised q.spec q.appends }

    same_raised : (o : Option Recovery) → Same (record raised_self { recovery = o })
    same_raised o = record { epoch = refl; spec = refl; appends = raised_length q.spec q.appends; alive = free }

    -- its cost with another recovery
    raised_cost : (o : Option Recovery) → may_send z (record raised_self { recovery = o }) ≡ z.nodes * length q.appends + recovery_cost z q.epoch o
    raised_cost o = let a : may_send z (record raised_self { recovery = o }) ≡ z.nodes * length (raised q.spec q.appends) + recovery_cost z q.epoch o = ap (cost_unless z (record raised_self { recovery = o })) free in
        let b : z.nodes * length (raised q.spec q.appends) ≡ z.nodes * length q.appends = ap (λ k. z.nodes * k) (raised_length q.spec q.appends) in omega arith

    stage_less : (v : Recovery) (g : Stage) → q.recovery ≡ Some v → stage_cost z v.epoch g ≤ stage_cost z v.epoch v.stage → may_send z (record raised_self { recovery = Some (record v { stage = g }) }) ≤ may_send z q
    stage_less v g e h = let a = raised_cost (Some (record v { stage = g })) in let b = was_cost v (record { recovery = v; there = e; epoch = refl; spec = refl }) in omega arith

    both_few : (v : Recovery) (loss : Bool) (lng wave : ℕ) (is : List (ℕ × Planned)) → q.recovery ≡ Some v → z.nodes * length is ≤ z.items → length (item_stores v.spec v.lost loss lng wave is ++ append_again) ≤ again
    both_few v loss lng wave is e h = let a = length-append (item_stores v.spec v.lost loss lng wave is) append_again in let b = items_most z.nodes v.spec (recovered v e) v.lost loss lng wave is in let f = appends_few in omega arith

    was_now : (v : Recovery) → q.recovery ≡ Some v → Was v
    was_now v e = record { recovery = v; there = e; epoch = refl; spec = refl }

    pub retrying_paid : (gone : Recovery → List ℕ) → Retrying c r gone q (λ k m. PaidBut again k)
    retrying_paid gone = record {
      quiet = quietly again r (does_nothing q) refl refl (omega arith) refl (omega arith);
      appends = λ f. quietly again r (retries_appends (does_nothing q)) refl refl (let a = appends_few in omega arith) refl (let a = raised_cost q.recovery in let b = cost_now in omega arith);
      seals = λ v d f e i u. sealed_again v d e i;
      plans = λ v d f e i p. quietly again r (with_stores append_again (stores_plan (retry_acts q) v (plan v.epoch true d))) refl refl
          (both_few v (plan v.epoch true d).loss (plan v.epoch true d).lng 0 (planned (plan v.epoch true d).items) e (let a : z.nodes * length (planned (plan v.epoch true d).items) ≡ z.nodes * length (plan v.epoch true d).items = ap (λ k. z.nodes * k) (planned_length (plan v.epoch true d).items) in let b = plan_fits v d e i in omega arith)) refl
          (stage_less v (Stores (storing_of (plan v.epoch true d))) e (omega arith));
      looks_closed = λ v d s f e i u o. goes_paid again r (with_stores append_again (tells_clean (retry_acts q) v.epoch s)) v v.epoch [] (was_now v e) (same_raised q.recovery)
          (let m = each (bodies.Clean v.epoch s) (nodes_of v.spec) in let k = recovered v e in subst (λ o. length (to_each (bodies.Clean v.epoch s) (recovered_nodes o)) ≤ z.nodes) (sym e) (omega arith)) (let a = appends_few in omega arith) (omega arith);
      looks_later = λ v d f e i u o n. preempted_paid again r (with_stores append_again (retry_acts q)) (looks v.epoch).epoch refl refl (let a = appends_few in omega arith) refl;
      stores_on = λ v g f e i t. quietly again r (becomes (retry_stores q v g) (with_stage (retry_stores q v g).sequencer v (Stores (next_try g)))) refl refl (both_few v g.loss g.lng (next_wave g.wave) g.items e (stored_fits v g e i)) refl (stage_less v (Stores (next_try g)) e (omega arith));
      closes_now = λ v g f e i t. close_paid again (closing_acts (retry_stores q v g) v q.epoch g) v (summary_of q.epoch g) (is_short v g) (was_now v e) (same_raised (Some (record v { stage = Closes (summary_of q.epoch g) (is_short v g) }))) refl refl refl refl
          (both_few v g.loss g.lng (next_wave g.wave) g.items e (stored_fits v g e i)) refl;
      closes = λ v y short f e i. close_paid again (try_close (retries_appends (does_nothing q)) v.epoch y short) v y short (was_now v e) (same_raised q.recovery) refl refl refl refl (let a = appends_few in omega arith) (e ∙ (λ j. Some (record v { stage = i j })));
    } where
      sealed_again : (v : Recovery) (d : List Told) → q.recovery ≡ Some v → v.stage ≡ Seals d → PaidBut again (acts_with r (asks_again (retries_appends (does_nothing q)) v (with_asks v.epoch d)))
      sealed_again v d e i =
          let a : Acts = asks_again (retries_appends (does_nothing q)) v (with_asks v.epoch d) in let l = acted_length q a in
          let n : length (release_messages q a.sequencer) ≡ 0 = release_none q a.sequencer refl in
          let k = asks_most (with_asks v.epoch d) in let m = asks_length v.epoch d in let f = digest_few v d e i in let g = appends_few in
          let less = asks_not_more (z.marks v.epoch) v.epoch d in
          let stage : stage_cost z v.epoch v.stage ≡ digest_cost (z.marks v.epoch) d + z.items = ap (stage_cost z v.epoch) i in
          let s = stage_less v (Seals (with_asks v.epoch d)) e (omega arith) in omega arith
