-- A poll, a retry that tells its released number again and a tick make the measure less, with what is left to do.
use Rattle.std.proofs.Common.{◌≡◌, ◌∙◌, ◌≤◌, ℕ, suc, ◌+◌, ◌*◌, inl, refl, ap, sym, subst, Bool, true, false, ◌==◌, if◌then◌else◌, List, [], ◌∷◌, ◌++◌, length, Option, Some, None, is_some, arith}
use Rattle.std.proofs.lemmas.Bool.{eq-eqb}
use Rattle.std.proofs.Math.Nat.{mul-suc, mul-le-mul_left}
use Rattle.ld_table.specs.Named.{find_named, put_named}
use Rattle.ld_ids.specs.Choice.{nodes_of}
use Rattle.ld_config.specs.declared.config.Config.{Config}
use Rattle.ld_msg.specs.declared.msg.Who.{Who}
use Rattle.ld_msg.specs.declared.msg.Who.TheVariants as whos
use Rattle.ld_msg.specs.declared.msg.Msg.{Msg}
use Rattle.ld_msg.specs.declared.msg.Summary.{Summary}
use Rattle.ld_msg.specs.declared.msg.Body.{Body}
use Rattle.ld_msg.specs.declared.msg.Body.TheVariants as bodies
use Rattle.ld_msg.specs.Network.{send_all}
use Rattle.ld_msg.specs.Digest.{Told, plan}
use Rattle.ld_msg.specs.Sequencer.{Sequencer, Recovery, Seals, Stores, Storing, Acts, Called, called, on_retry, does_nothing, unless_preempted, retries_recovery, retries_appends, release_messages, acted_messages, released_of, to_each}
use Rattle.ld_msg.specs.Reader.{Reader, is_finished, polled, poll_asks}
use Rattle.ld_machine.specs.Config.{looks_at}
use Rattle.ld_machine.specs.State.{State, finish, posted, unchanged, with_reader}
use Rattle.ld_safety.proofs.Lists.{cond_both}
use Rattle.ld_safety.proofs.Events.{retry_call}
use Rattle.ld_safety.proofs.SequencerSteps.{Retrying, Closing, gone_of, retried}
use Rattle.ld_machine.specs.Calm.{Left, Announces, Reads, Drains, Again, calms_with, announcements, calm_messages}
use Rattle.ld_calm.proofs.Lefts.{left}
use Rattle.ld_calm.proofs.Sends.{acted_length, release_none}
use Rattle.ld_calm.proofs.Sequencing as sequencing
use Rattle.ld_calm.proofs.Sequencing.{Sizes, may_send}
use Rattle.ld_calm.proofs.Asking as asking
use Rattle.ld_calm.proofs.Asking.{may_ask}
use Rattle.ld_calm.proofs.Weights.{weights, new_weight, InPlace, sent_weight}
use Rattle.ld_calm.proofs.Sums.{sum_of, sum_put, sum_by, sum_by_put}
use Rattle.ld_calm.proofs.Measure.{Ground, ground_of, reader_cost, items_left, turn_left, asked_again, poll_cost, part_cost, parts_cost, sequencer_cost, measure}
use Rattle.ld_calm.proofs.Deliveries.{Fits, posted_most}
use Rattle.ld_calm.proofs.Heard.{parts_less}

-- ---- a poll ----

-- as a reader's turn begins, and again
module _ (c : Config) (s : State) (g : Ground) (name : List ℕ) (d : Reader) (named : find_named name s.readers ≡ Some d) (open_still : is_finished d ≡ false) (P : InPlace s.network) (all : length g.all ≡ g.nodes)
    (looked : (e : ℕ) → length (nodes_of (looks_at c s.register d.log e).spec) ≤ g.nodes) (swaps : (e : ℕ) → (looks_at c s.register d.log e).swaps ≡ g.swaps d.log) where
  abbrev after : Reader
  after = polled (looks_at c s.register d.log) d

  abbrev there : State
  there = (finish (record { state = with_reader s name after; lines = []; sends = posted (whos.Reader d.number) d.log (poll_asks (looks_at c s.register d.log) d) })).state

  -- but for six times the nodes it costs nothing
  polled_most : (ps : List Left) → measure g there ps ≤ measure g s ps + 6 * g.nodes
  unfolding finish
  polled_most ps =
      let sends : List Msg = posted (whos.Reader d.number) d.log (poll_asks (looks_at c s.register d.log) d) in
      let sent : new_weight (send_all s.network sends) ≡ new_weight s.network + weights sends = sent_weight s.network sends P in
      let most = posted_most (whos.Reader d.number) d.log (poll_asks (looks_at c s.register d.log) d) in
      let sum : sum_by (reader_cost g) (put_named name after s.readers) + reader_cost g name d ≡ sum_by (reader_cost g) s.readers + reader_cost g name after = sum_by_put (reader_cost g) name d after s.readers named in
      let parts : parts_cost g s.nodes (put_named name after s.readers) ps ≤ parts_cost g s.nodes s.readers ps = parts_less g s.nodes name d after s.readers named refl (λ h. open_still) (inl (refl, omega arith)) ps in
      let paid = asking.poll_paid (ground_of g name d.log) all (looks_at c s.register d.log) looked swaps d open_still in omega arith

  again_now : asked_again d.next (Some d) ≡ 0
  again_now = cond_both (d.next == d.next) 0 1 (λ k. k ≡ 0) (λ t. refl) (λ t. absurd (let z : (d.next == d.next) ≡ true = eq-eqb d.next d.next refl in let w : true ≡ false = sym z ∙ t in cc))

  turn_now : turn_left g (Some d) ≡ items_left g (Some d) + 1
  turn_now = ap (λ b. if b then 0 else left d.next (g.items d.log) + 1) open_still ∙ ap (λ n. n + 1) (sym (ap (λ b. if b then 0 else left d.next (g.items d.log)) open_still))

  -- a reader's turn
  pub turn_falls : (ps : List Left) → measure g there (Drains ∷ Again name d.next ∷ ps) + 1 ≤ measure g s (Reads name ∷ ps)
  turn_falls ps =
      let m = polled_most (Drains ∷ Again name d.next ∷ ps) in
      let a : part_cost g s.nodes s.readers (Again name d.next) ≡ poll_cost g * (items_left g (Some d) + asked_again d.next (Some d)) = ap (λ o. poll_cost g * (items_left g o + asked_again d.next o)) named in
      let b : part_cost g s.nodes s.readers (Reads name) ≡ poll_cost g * (items_left g (Some d) + 1) = ap (λ o. poll_cost g * turn_left g o) named ∙ ap (λ k. poll_cost g * k) turn_now in
      let e : items_left g (Some d) + asked_again d.next (Some d) ≡ items_left g (Some d) = (let z = again_now in omega arith) in
      let f : poll_cost g * (items_left g (Some d) + asked_again d.next (Some d)) ≡ poll_cost g * items_left g (Some d) = ap (λ k. poll_cost g * k) e in
      let h : poll_cost g * (items_left g (Some d) + 1) ≡ poll_cost g * items_left g (Some d) + poll_cost g = (let z : items_left g (Some d) + 1 ≡ suc (items_left g (Some d)) = omega arith in ap (λ k. poll_cost g * k) z ∙ mul-suc (poll_cost g) (items_left g (Some d))) in omega arith

  -- and again, where its next number isn't this one any longer
  pub again_falls : (next : ℕ) (ps : List Left) → (d.next == next) ≡ false → measure g there (Drains ∷ Again name d.next ∷ ps) + 1 ≤ measure g s (Again name next ∷ ps)
  again_falls next ps n =
      let m = polled_most (Drains ∷ Again name d.next ∷ ps) in
      let a : part_cost g s.nodes s.readers (Again name d.next) ≡ poll_cost g * (items_left g (Some d) + asked_again d.next (Some d)) = ap (λ o. poll_cost g * (items_left g o + asked_again d.next o)) named in
      let b : part_cost g s.nodes s.readers (Again name next) ≡ poll_cost g * (items_left g (Some d) + asked_again next (Some d)) = ap (λ o. poll_cost g * (items_left g o + asked_again next o)) named in
      let one : asked_again next (Some d) ≡ 1 = ap (λ k. if k then 0 else 1) n in
      let e : items_left g (Some d) + asked_again d.next (Some d) ≡ items_left g (Some d) = (let z = again_now in omega arith) in
      let f : poll_cost g * (items_left g (Some d) + asked_again d.next (Some d)) ≡ poll_cost g * items_left g (Some d) = ap (λ k. poll_cost g * k) e in
      let h : poll_cost g * (items_left g (Some d) + asked_again next (Some d)) ≡ poll_cost g * items_left g (Some d) + poll_cost g = (let z : items_left g (Some d) + asked_again next (Some d) ≡ suc (items_left g (Some d)) = omega arith in ap (λ k. poll_cost g * k) z ∙ mul-suc (poll_cost g) (items_left g (Some d))) in omega arith

-- a reader that finished in its turn is polled once more, which does nothing
pub idle_again : (s : State) (g : Ground) (name : List ℕ) (d : Reader) (next : ℕ) (ps : List Left) → find_named name s.readers ≡ Some d → (d.next == next) ≡ false → measure g (finish (unchanged s)).state (Drains ∷ Again name d.next ∷ ps) + 1 ≤ measure g s (Again name next ∷ ps)
unfolding finish
idle_again s g name d next ps named n =
    let a : part_cost g s.nodes s.readers (Again name d.next) ≡ poll_cost g * (items_left g (Some d) + asked_again d.next (Some d)) = ap (λ o. poll_cost g * (items_left g o + asked_again d.next o)) named in
    let b : part_cost g s.nodes s.readers (Again name next) ≡ poll_cost g * (items_left g (Some d) + asked_again next (Some d)) = ap (λ o. poll_cost g * (items_left g o + asked_again next o)) named in
    let one : asked_again next (Some d) ≡ 1 = ap (λ k. if k then 0 else 1) n in
    let no : asked_again d.next (Some d) ≡ 0 = cond_both (d.next == d.next) 0 1 (λ k. k ≡ 0) (λ t. refl) (λ t. absurd (let z : (d.next == d.next) ≡ true = eq-eqb d.next d.next refl in let w : true ≡ false = sym z ∙ t in cc)) in
    let e : items_left g (Some d) + asked_again d.next (Some d) ≡ items_left g (Some d) = omega arith in
    let f : poll_cost g * (items_left g (Some d) + asked_again d.next (Some d)) ≡ poll_cost g * items_left g (Some d) = ap (λ k. poll_cost g * k) e in
    let h : poll_cost g * (items_left g (Some d) + asked_again next (Some d)) ≡ poll_cost g * items_left g (Some d) + poll_cost g = (let z : items_left g (Some d) + asked_again next (Some d) ≡ suc (items_left g (Some d)) = omega arith in ap (λ k. poll_cost g * k) z ∙ mul-suc (poll_cost g) (items_left g (Some d))) in omega arith

-- ---- a retry that tells its released number again ----

weights_append : (xs ys : List Msg) → weights (xs ++ ys) ≡ weights xs + weights ys
weights_append [] ys = omega arith
weights_append (x ∷ xs) ys = let ih : weights (xs ++ ys) ≡ weights xs + weights ys = weights_append xs ys in omega arith

posted_append : (who : Who) (l : ℕ) (xs ys : List (ℕ × Body)) → weights (posted who l (xs ++ ys)) ≡ weights (posted who l xs) + weights (posted who l ys)
posted_append who l [] ys = omega arith
posted_append who l (x ∷ xs) ys = let ih : weights (posted who l (xs ++ ys)) ≡ weights (posted who l xs) + weights (posted who l ys) = posted_append who l xs ys in omega arith

releases_weigh : (who : Who) (l r : ℕ) (ys : List ℕ) → weights (posted who l (to_each (bodies.Release r) ys)) ≡ length ys
releases_weigh who l r [] = refl
releases_weigh who l r (y ∷ ys) = let ih : weights (posted who l (to_each (bodies.Release r) ys)) ≡ length ys = releases_weigh who l r ys in omega arith

told_again : (who : Who) (l : ℕ) (q : Sequencer) → weights (posted who l (announcements q)) ≤ length (nodes_of q.spec)
told_again who l q = cond_both (is_some q.preempted) [] (to_each (bodies.Release (released_of q)) (nodes_of q.spec)) (λ ms. weights (posted who l ms) ≤ length (nodes_of q.spec)) (λ t. omega arith) (λ t. let z = releases_weigh who l (released_of q) (nodes_of q.spec) in omega arith)

calm_weighs : (who : Who) (l : ℕ) (old : Sequencer) (a : Acts) → weights (posted who l (calm_messages old a)) ≤ length (nodes_of a.sequencer.spec) + 2 * length (acted_messages old a)
calm_weighs who l old a =
    let rel : List (ℕ × Body) = release_messages old a.sequencer in let ann : List (ℕ × Body) = announcements a.sequencer in
    let x = posted_append who l a.cleans (rel ++ (ann ++ (a.asks ++ a.stores))) in let y = posted_append who l rel (ann ++ (a.asks ++ a.stores)) in let w = posted_append who l ann (a.asks ++ a.stores) in let v = posted_append who l a.asks a.stores in
    let p = posted_most who l a.cleans in let q = posted_most who l rel in let r = posted_most who l a.asks in let t = posted_most who l a.stores in let u = told_again who l a.sequencer in let k = acted_length old a in omega arith

-- what a retry needs beside
pub record FitsRetry (z : Sizes) (q : Sequencer) : Type 0 where
  pub digest_few : (v : Recovery) (d : List Told) → q.recovery ≡ Some v → v.stage ≡ Seals d → length d ≤ z.nodes
  pub plan_fits : (v : Recovery) (d : List Told) → q.recovery ≡ Some v → v.stage ≡ Seals d → z.nodes * length (plan v.epoch true d).items ≤ z.items
  pub stored_fits : (v : Recovery) (g : Storing) → q.recovery ≡ Some v → v.stage ≡ Stores g → z.nodes * length g.items ≤ z.items
  pub nodes_fit : z.nodes ≤ z.items

module _ (c : Config) (s : State) (q : Sequencer) (there : q.gone ≡ false) where
  -- a retry leaves what is fixed for it, and doesn't drop it
  abbrev Kept : Called → Type 0
  Kept k = (k.acts.sequencer.gone ≡ q.gone) × (k.acts.sequencer.log ≡ q.log) × (k.acts.sequencer.spec ≡ q.spec)

  close_keeps : (a : Acts) (e : ℕ) (y : Summary) (short : Bool) → (a.sequencer.gone ≡ q.gone) × (a.sequencer.log ≡ q.log) × (a.sequencer.spec ≡ q.spec) → Closing s.register (looks_at c s.register q.log) a e y short Kept
  close_keeps a e y short h = record { granted = λ n k o f. h; passed = λ l. h; behind = λ b l. h; overtaken = λ k o. h; failed = λ n f. h }

  retrying_keeps : (gone : Recovery → List ℕ) → Retrying c s.register gone q (λ k m. Kept k)
  retrying_keeps gone = record {
    quiet = (refl, refl, refl);
    appends = λ f. (refl, refl, refl);
    seals = λ v d f e i u. (refl, refl, refl);
    plans = λ v d f e i p. (refl, refl, refl);
    looks_closed = λ v d z f e i u o. (refl, refl, refl);
    looks_later = λ v d f e i u o n. (refl, refl, refl);
    stores_on = λ v g f e i t. (refl, refl, refl);
    closes_now = λ v g f e i t. close_keeps _ _ _ _ (refl, refl, refl);
    closes = λ v y short f e i. close_keeps _ _ _ _ (refl, refl, refl);
  }

  retry_kept : Kept (retry_call c s q)
  retry_kept = retried c s q there (λ k m. Kept k) (retrying_keeps (gone_of s q))

  -- paid but for what goes again
  free_paid : (z : Sizes) → Fits c s z q → FitsRetry z q → q.preempted ≡ None → length (acted_messages q (retry_call c s q).acts) + may_send z (retry_call c s q).acts.sequencer ≤ may_send z q + (z.nodes * length q.appends + z.items)
  free_paid z F R free = retried c s q there (λ k m. length (acted_messages q k.acts) + may_send z k.acts.sequencer ≤ may_send z q + (z.nodes * length q.appends + z.items))
      (sequencing.retrying_paid c s.register q z free F.own_nodes F.looked F.recovered F.paged F.next R.digest_few R.plan_fits R.stored_fits R.nodes_fit (gone_of s q))

  busy_paid : (z : Sizes) (k : ℕ) → q.preempted ≡ Some k → length (acted_messages q (retry_call c s q).acts) + may_send z (retry_call c s q).acts.sequencer ≤ may_send z q + (z.nodes * length q.appends + z.items)
  unfolding on_retry
  busy_paid z k p = let e : does_nothing q ≡ on_retry (looks_at c s.register q.log) q = sym (ap (λ o. unless_preempted o (retries_recovery (looks_at c s.register q.log) (retries_appends (does_nothing q)) q.recovery) (does_nothing q)) p) in
      subst (λ (a : Acts). length (acted_messages q (called (looks_at c s.register q.log) s.register a a.tries).acts) + may_send z (called (looks_at c s.register q.log) s.register a a.tries).acts.sequencer ≤ may_send z q + (z.nodes * length q.appends + z.items)) e
      (let l = acted_length q (does_nothing q) in let v = release_none q q refl in omega arith)

  retry_paid : (z : Sizes) → Fits c s z q → FitsRetry z q → length (acted_messages q (retry_call c s q).acts) + may_send z (retry_call c s q).acts.sequencer ≤ may_send z q + (z.nodes * length q.appends + z.items)
  retry_paid z F R = by_preempted q.preempted refl where
    by_preempted : (o : Option ℕ) → q.preempted ≡ o → length (acted_messages q (retry_call c s q).acts) + may_send z (retry_call c s q).acts.sequencer ≤ may_send z q + (z.nodes * length q.appends + z.items)
    by_preempted None p = free_paid z F R p
    by_preempted (Some k) p = busy_paid z k p

-- the first step of a log's part
pub announce_falls : (c : Config) (s : State) (g : Ground) (name : List ℕ) (q : Sequencer) (ps : List Left) → find_named name s.sequencers ≡ Some q → q.gone ≡ false → InPlace s.network → Fits c s (g.sizes q.log) q → FitsRetry (g.sizes q.log) q
    → (g.sizes q.log).nodes ≡ g.nodes → (g.sizes q.log).items ≤ g.nodes * (g.given q.log + 1) → length q.appends ≤ g.given q.log
    → measure g (finish (calms_with s name q (retry_call c s q))).state ps + 1 ≤ measure g s (Announces q.log ∷ ps)
unfolding finish
announce_falls c s g name q ps named there P F R nodes items given =
    let k : Called = retry_call c s q in
    let sends : List Msg = posted (whos.Sequencer q.epoch) q.log (calm_messages q k.acts) in
    let sent : new_weight (send_all s.network sends) ≡ new_weight s.network + weights sends = sent_weight s.network sends P in
    let kept = retry_kept c s q there in
    let weighs = calm_weighs (whos.Sequencer q.epoch) q.log q k.acts in
    let few : length (nodes_of k.acts.sequencer.spec) ≤ g.nodes = subst (λ p. length (nodes_of p) ≤ g.nodes) (sym kept.2) (subst (λ n. length (nodes_of q.spec) ≤ n) nodes F.own_nodes) in
    let sum : sum_of (sequencer_cost g) (put_named name k.acts.sequencer s.sequencers) + sequencer_cost g q ≡ sum_of (sequencer_cost g) s.sequencers + sequencer_cost g k.acts.sequencer = sum_put (sequencer_cost g) name q k.acts.sequencer s.sequencers named in
    let before : sequencer_cost g q ≡ may_send (g.sizes q.log) q = (λ j. if there j then 0 else may_send (g.sizes q.log) q) in
    let after : sequencer_cost g k.acts.sequencer ≡ may_send (g.sizes q.log) k.acts.sequencer = (λ j. if (kept.0 ∙ there) j then 0 else may_send (g.sizes (kept.1 j)) k.acts.sequencer) in
    let paid = retry_paid c s q there (g.sizes q.log) F R in
    let again : (g.sizes q.log).nodes * length q.appends ≤ g.nodes * g.given q.log = subst (λ n. n * length q.appends ≤ g.nodes * g.given q.log) (sym nodes) (mul-le-mul_left g.nodes given) in
    omega arith
