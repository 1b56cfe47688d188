-- What a reply, a retry or the register's answer makes a sequencer do leaves it in its bounds.
use Rattle.std.proofs.Common.{◌≡◌, ◌∙◌, ◌≤◌, ◌<◌, ℕ, ◌+◌, ◌-◌, ◌^◌, refl, sym, subst, Bool, true, false, not, ◌||◌, ◌==◌, cond, nat_lt, nat_le, List, [], ◌∷◌, ◌++◌, length, Option, Some, None, is_some, IfSome, arith}
use Rattle.std.specs.List.{AllByRecursion}
use Rattle.std.proofs.lemmas.Bool.{cond_both, eqb-true, ltb-true, leb-false}
use Rattle.ld_table.specs.Table.{find, put}
use Rattle.ld_table.specs.Words.{with_one, is_in}
use Rattle.ld_ids.specs.Id.{IsNode}
use Rattle.ld_ids.specs.declared.set.Spec.{Spec}
use Rattle.ld_ids.specs.Choice.{nodes_of}
use Rattle.ld_lsn.specs.Number.{epoch_of, home_epoch, numbered}
use Rattle.ld_config.specs.declared.config.Config.{Config}
use Rattle.ld_msg.specs.declared.msg.Who.{Who}
use Rattle.ld_msg.specs.declared.msg.Who.TheVariants as whos
use Rattle.ld_msg.specs.declared.msg.Entry.{Entry}
use Rattle.ld_msg.specs.declared.msg.Summary.{Summary}
use Rattle.ld_msg.specs.declared.msg.Body.{Body}
use Rattle.ld_msg.specs.declared.msg.Body.TheVariants as bodies
use Rattle.ld_msg.specs.Bounds.{Is32, IsLng, Is64, IsEpoch, IsSummary, IsPage, Fits}
use Rattle.ld_msg.specs.Register.{Register, View, Answer, Granted, AtLimit, Behind, Overtaken, Fails, epochs_of, close}
use Rattle.ld_msg.specs.Digest.{Told, Plan, no_digest, with_page, with_asks, enough, is_spent, plan}
use Rattle.ld_msg.specs.Sequencer.{Sequencer, Append, Storing, Stage, Seals, Stores, Closes, Recovery, Attempt, Acts, does_nothing, becomes, with_stage, preempt, begun, recovery_of, recovery_asks, goes_on, recovered_nodes, tells_clean, after_close, try_close, storing_of, planned, item_stores, is_fully_ready, is_ready_short, summary_of, stores_plan, closes_ready, settled_by, settles, next_ask, takes_any, seals_on, passes, by_look, looks_now, with_digest, adds_page, digests, lost_stage, recovery_lost, after_lost, loses_node, acked_first, unacked_from, stored_at, with_append, acks_append, in_recovery, by_stored, by_trimmed, by_lost, by_clean, by_reply, unless_preempted, on_reply, raised, next_wave, last_wave, retries_appends, next_try, with_stores, asks_again, retries_stage, retries_recovery, on_retry, of_member, digest_asks, Called, called, acted_messages, release_messages, released_of, to_each}
use Rattle.ld_sequencer_bounds.specs.Sequencers.{IsAppend, IsTold, IsStoring, Posts}
use Rattle.ld_bounds.specs.Registers.{IsRegister, IsLook}
use Rattle.ld_bounds.specs.Sequencers.{IsInWave, IsStage, IsRecovery, MayRecover, IsSequencer, AreNumbered}
use Rattle.ld_node_bounds.proofs.Alls.{all-append, all-put, all-find}
use Rattle.ld_node_bounds.proofs.Numbers.{home_at_most}
use Rattle.ld_bounds.proofs.Rows.{put_kept, acked_parts, unacked_numbered, all-unacked, raised_length, raised_numbered, raised_are, raised_waves}
use Rattle.ld_node_bounds.proofs.Posts.{IsPost, each_post}
use Rattle.ld_machine.specs.Calm.{announcements, calm_messages}
use Rattle.ld_sequencer_bounds.proofs.Plans.{no_digest_is, with_page_is, with_asks_is, with_lost_is, plan_is, settled_is}
use Rattle.ld_sequencer_bounds.proofs.Sends.{asks_are, next_ask_is, items_sent, cleans_sent, appends_sent, releases_sent, released_bound}
use Rattle.ld_bounds.proofs.Configs.{spec_nodes}
use Rattle.ld_bounds.proofs.RegisterChanges.{Follows, follows_self, IsAnswered, close_follows, close_answers}

-- the close of an earlier epoch
pub record IsTry (own : ℕ) (t : Attempt) : Type 0 where
  pub from_one : 1 ≤ t.epoch
  pub before : t.epoch < own
  pub summary : IsSummary t.epoch t.summary

pub record IsActs (c : Config) (r : Register) (old : Sequencer) (a : Acts) : Type 0 where
  pub sequencer : IsSequencer c r a.sequencer
  pub log : a.sequencer.log ≡ old.log
  pub epoch : a.sequencer.epoch ≡ old.epoch
  pub tries : AllByRecursion (IsTry a.sequencer.epoch) a.tries
  pub cleans : Posts a.sequencer.epoch a.cleans
  pub asks : Posts a.sequencer.epoch a.asks
  pub stores : Posts a.sequencer.epoch a.stores

module _ (c : Config) (r : Register) (q : Sequencer) (Q : IsSequencer c r q) where
  -- with other appends under the numbers that follow
  appends_with : (lng : ℕ) (ps : List (ℕ × Append)) → lng + length ps ≤ 2 ^ 32 - 2 → AllByRecursion (IsAppend q.epoch) ps → AllByRecursion IsInWave ps → AreNumbered (numbered q.epoch (lng + 1)) ps → IsSequencer c r (record q { lng = lng; appends = ps })
  appends_with lng ps n a v w = record { log = Q.log; epoch = Q.epoch; handed_out = Q.handed_out; spec = Q.spec; lce = Q.lce; numbers = n; appends = a; waves = v; rows = w; recovery = Q.recovery; preempted = Q.preempted }

  recovering : (o : Option Recovery) → MayRecover c q.log q.epoch o → IsSequencer c r (record q { recovery = o })
  recovering o h = record { log = Q.log; epoch = Q.epoch; handed_out = Q.handed_out; spec = Q.spec; lce = Q.lce; numbers = Q.numbers; appends = Q.appends; waves = Q.waves; rows = Q.rows; recovery = h; preempted = Q.preempted }

  closed_to : (lce : ℕ) (o : Option Recovery) → lce < q.epoch → MayRecover c q.log q.epoch o → IsSequencer c r (record q { lce = lce; recovery = o })
  closed_to lce o l h = record { log = Q.log; epoch = Q.epoch; handed_out = Q.handed_out; spec = Q.spec; lce = l; numbers = Q.numbers; appends = Q.appends; waves = Q.waves; rows = Q.rows; recovery = h; preempted = Q.preempted }

  losing : (ns : List ℕ) → IsSequencer c r (record q { lost = ns })
  losing ns = record { log = Q.log; epoch = Q.epoch; handed_out = Q.handed_out; spec = Q.spec; lce = Q.lce; numbers = Q.numbers; appends = Q.appends; waves = Q.waves; rows = Q.rows; recovery = Q.recovery; preempted = Q.preempted }

  preempted_is : (k : ℕ) → Is32 k → IsSequencer c r (record q { preempted = Some k })
  preempted_is k h = record { log = Q.log; epoch = Q.epoch; handed_out = Q.handed_out; spec = Q.spec; lce = Q.lce; numbers = Q.numbers; appends = Q.appends; waves = Q.waves; rows = Q.rows; recovery = Q.recovery; preempted = h }

  pub dropped_is : IsSequencer c r (record q { gone = true })
  dropped_is = record { log = Q.log; epoch = Q.epoch; handed_out = Q.handed_out; spec = Q.spec; lce = Q.lce; numbers = Q.numbers; appends = Q.appends; waves = Q.waves; rows = Q.rows; recovery = Q.recovery; preempted = Q.preempted }

  -- one more store of an append
  appended_to : (s : Spec) (n : ℕ) (p x : Append) → find n q.appends ≡ Some p → IsAppend q.epoch (n, x) → IsInWave (n, x) → IsSequencer c r (with_append s q n x)
  appended_to s n p x f a v =
      let k = put_kept (numbered q.epoch (q.lng + 1)) n x q.appends p Q.rows f in
      let m = k.many in let z = acked_parts s (put n x q.appends) in let u = Q.numbers in
      let e : numbered q.epoch (q.lng + 1) + acked_first s (put n x q.appends) ≡ numbered q.epoch (q.lng + acked_first s (put n x q.appends) + 1) = omega arith in
      appends_with (q.lng + acked_first s (put n x q.appends)) (unacked_from s (put n x q.appends)) (omega arith)
      (all-unacked s (IsAppend q.epoch) (put n x q.appends) (all-put (IsAppend q.epoch) n x q.appends a Q.appends))
      (all-unacked s IsInWave (put n x q.appends) (all-put IsInWave n x q.appends v Q.waves))
      (subst (λ j. AreNumbered j (unacked_from s (put n x q.appends))) e (unacked_numbered s (numbered q.epoch (q.lng + 1)) (put n x q.appends) k.numbers))

  pub lng_is : IsLng q.lng
  lng_is = let n = Q.numbers in omega arith

  raised_is : (s : Spec) → IsSequencer c r (record q { appends = raised s q.appends })
  raised_is s = let z = raised_length s q.appends in let u = Q.numbers in appends_with q.lng (raised s q.appends) (omega arith) (raised_are s q.epoch q.appends Q.appends) (raised_waves s q.appends Q.waves) (raised_numbered s (numbered q.epoch (q.lng + 1)) q.appends Q.rows)

-- the nodes that a recovery stores at
recovered_are : (c : Config) (l own : ℕ) (o : Option Recovery) → MayRecover c l own o → AllByRecursion IsNode (recovered_nodes o)
recovered_are c l own None h = tt
recovered_are c l own (Some v) h = spec_nodes c l v.spec h.spec

module _ (c : Config) (r : Register) (old : Sequencer) (looks : ℕ → View) (K : (e : ℕ) → IsLook c old.log e (looks e)) where
  -- ---- what goes on after a close ----

  digest_is : (e : ℕ) → AllByRecursion (IsTold e) (no_digest (looks e).spec e)
  digest_is e = no_digest_is (looks e).spec e (spec_nodes c old.log (looks e).spec (K e).spec)

  pub first_recovery : (q : Sequencer) (lce : ℕ) → MayRecover c old.log q.epoch (recovery_of looks q lce)
  first_recovery q lce = let k = K (lce + 1) in let e = k.of_epoch in cond_both (nat_lt (lce + 1) q.epoch) (Some (begun (looks (lce + 1)))) None (MayRecover c old.log q.epoch)
      (λ t. let z = ltb-true (lce + 1) q.epoch t in record {
        from_one = omega arith;
        before = omega arith;
        spec = k.spec;
        stage = no_digest_is (looks (lce + 1)).spec (looks (lce + 1)).at (spec_nodes c old.log (looks (lce + 1)).spec k.spec);
      }) (λ t. tt)

  pub first_asks : (q : Sequencer) (lce : ℕ) → IsEpoch q.epoch → Posts q.epoch (recovery_asks looks q lce)
  first_asks q lce E = cond_both (nat_lt (lce + 1) q.epoch) (digest_asks (no_digest (looks (lce + 1)).spec (lce + 1))) [] (AllByRecursion (IsPost (whos.Sequencer q.epoch)))
      (λ t. asks_are q.epoch E (lce + 1) (omega arith) (ltb-true (lce + 1) q.epoch t) (no_digest (looks (lce + 1)).spec (lce + 1)) (digest_is (lce + 1))) (λ t. tt)

  goes_on_is : (a : Acts) (lce : ℕ) → lce < a.sequencer.epoch → IsActs c r old a → IsActs c r old (goes_on looks a lce)
  goes_on_is a lce l A = record {
    sequencer = closed_to c r a.sequencer A.sequencer lce (recovery_of looks a.sequencer lce) l (subst (λ k. MayRecover c k a.sequencer.epoch (recovery_of looks a.sequencer lce)) (sym A.log) (first_recovery a.sequencer lce));
    log = A.log;
    epoch = A.epoch;
    tries = A.tries;
    cleans = A.cleans;
    asks = first_asks a.sequencer lce A.sequencer.epoch;
    stores = A.stores;
  }

  tells_is : (a : Acts) (e : ℕ) (y : Summary) → 1 ≤ e → e < a.sequencer.epoch → IsSummary e y → IsActs c r old a → IsActs c r old (tells_clean a e y)
  tells_is a e y one l s A = record { sequencer = A.sequencer; log = A.log; epoch = A.epoch; tries = A.tries; cleans = cleans_sent a.sequencer.epoch A.sequencer.epoch e one l y (recovered_nodes a.sequencer.recovery) s (recovered_are c a.sequencer.log a.sequencer.epoch a.sequencer.recovery A.sequencer.recovery); asks = A.asks; stores = A.stores }

  preempt_is : (a : Acts) (k : ℕ) → Is32 k → IsActs c r old a → IsActs c r old (preempt a k)
  preempt_is a k h A = record { sequencer = preempted_is c r a.sequencer A.sequencer k h; log = A.log; epoch = A.epoch; tries = A.tries; cleans = A.cleans; asks = A.asks; stores = A.stores }

  pub after_is : (a : Acts) (e : ℕ) (y : Summary) (d : Answer) → 1 ≤ e → e < a.sequencer.epoch → IsSummary e y → IsAnswered c d → IsActs c r old a → IsActs c r old (after_close looks a e y d)
  unfolding after_close
  after_is a e y Granted one l s i A = let G = goes_on_is (tells_clean a e y) e l (tells_is a e y one l s A) in
      record { sequencer = G.sequencer; log = G.log; epoch = G.epoch; tries = G.tries; cleans = G.cleans; asks = G.asks; stores = G.stores }
  after_is a e y AtLimit one l s i A = A
  after_is a e y (Behind lce) one l s i A = cond_both (nat_le a.sequencer.epoch lce) (preempt a (lce + 1)) (goes_on looks a lce) (IsActs c r old)
      (λ t. preempt_is a (lce + 1) (omega (arith, i)) A) (λ t. goes_on_is a lce (leb-false a.sequencer.epoch lce t) A)
  after_is a e y (Overtaken k) one l s i A = preempt_is a k (omega (arith, i)) A
  after_is a e y Fails one l s i A = record { sequencer = A.sequencer; log = A.log; epoch = A.epoch; tries = A.tries; cleans = A.cleans; asks = A.asks; stores = A.stores }

  -- ---- what becomes of a recovery ----

  module _ (a : Acts) (A : IsActs c r old a) (v : Recovery) (V : IsRecovery c a.sequencer.log a.sequencer.epoch v) where
    staged : (s : Stage) → IsStage v.epoch s → IsSequencer c r (with_stage a.sequencer v s)
    staged s h = recovering c r a.sequencer A.sequencer (Some (record v { stage = s })) (record { from_one = V.from_one; before = V.before; spec = V.spec; stage = h })

    at_stage : (s : Stage) → IsStage v.epoch s → IsActs c r old (becomes a (with_stage a.sequencer v s))
    at_stage s h = record { sequencer = staged s h; log = A.log; epoch = A.epoch; tries = A.tries; cleans = A.cleans; asks = A.asks; stores = A.stores }

    -- a plan is stored
    plans : (loss : Bool) (d : List Told) → AllByRecursion (IsTold v.epoch) d → IsActs c r old (stores_plan a v (plan v.epoch loss d))
    plans loss d h = let p : Plan = plan v.epoch loss d in let g = plan_is v.epoch loss d h in record {
      sequencer = staged (Stores (storing_of p)) (g, omega arith);
      log = A.log;
      epoch = A.epoch;
      tries = A.tries;
      cleans = A.cleans;
      asks = A.asks;
      stores = items_sent a.sequencer.epoch A.sequencer.epoch v.epoch V.from_one V.before v.spec v.lost p.loss p.lng 0 (planned p.items) g.lng (spec_nodes c a.sequencer.log v.spec V.spec) g.items;
    }

    -- the digest has one answer more
    seals : (d : List Told) (asks : List (ℕ × Body)) → AllByRecursion (IsTold v.epoch) d → Posts a.sequencer.epoch asks → IsActs c r old (seals_on a v d asks)
    seals d asks h p = record { sequencer = staged (Seals d) h; log = A.log; epoch = A.epoch; tries = A.tries; cleans = A.cleans; asks = p; stores = A.stores }

    -- the epoch is closed
    passed : (y : Summary) → IsSummary v.epoch y → IsActs c r old (passes looks a v.epoch y)
    passed y h = goes_on_is (tells_clean a v.epoch y) v.epoch V.before (tells_is a v.epoch y V.from_one V.before h A)

    -- a spent digest, and what a look shows
    looked : (d : List Told) (o : Option Summary) (k : ℕ) → AllByRecursion (IsTold v.epoch) d → IfSome o (IsSummary v.epoch) → k ≤ 2 ^ 32 - 2 → IsActs c r old (by_look looks a v d o k)
    looked d (Some y) k h s m = passed y s
    looked d None k h s m = cond_both (k == a.sequencer.epoch) (stores_plan a v (plan v.epoch true d)) (preempt a k) (IsActs c r old) (λ t. plans true d h) (λ t. preempt_is a k (omega (arith, m)) A)

    looks_are : (d : List Told) → AllByRecursion (IsTold v.epoch) d → IsActs c r old (looks_now looks a v d)
    looks_are d h = looked d (looks v.epoch).summary (looks v.epoch).epoch h (K v.epoch).summary (K v.epoch).most

    digest_with : (d : List Told) (asks : List (ℕ × Body)) → AllByRecursion (IsTold v.epoch) d → Posts a.sequencer.epoch asks → IsActs c r old (with_digest looks a v d asks)
    digest_with d asks h p = cond_both (enough v.spec d) (stores_plan a v (plan v.epoch false d)) (cond (is_spent v.spec d) (looks_now looks a v d) (seals_on a v d asks)) (IsActs c r old) (λ t. plans false d h)
        (λ t. cond_both (is_spent v.spec d) (looks_now looks a v d) (seals_on a v d asks) (IsActs c r old) (λ u. looks_are d h) (λ u. seals d asks h p))

    -- what was settled
    closing_summary : (g : Storing) → IsStoring v.epoch g → IsSummary v.epoch (summary_of a.sequencer.epoch g)
    closing_summary g G = record { ballot = V.before; ballot_most = A.sequencer.epoch.1; lng = G.lng; trim = G.trim; end = G.end; end_most = G.end_most }

    closes_is : (g : Storing) → IsStage v.epoch (Stores g) → IsActs c r old (closes_ready a v g)
    closes_is g G = let s = closing_summary g G.0 in let y : Summary = summary_of a.sequencer.epoch g in let short : Bool = not (is_fully_ready v.spec g) in
        cond_both (is_fully_ready v.spec g || is_ready_short v.spec v.lost g) (try_close (becomes a (with_stage a.sequencer v (Closes y short))) v.epoch y short) (becomes a (with_stage a.sequencer v (Stores g))) (IsActs c r old)
        (λ t. record { sequencer = staged (Closes y short) s; log = A.log; epoch = A.epoch; tries = (record { from_one = V.from_one; before = V.before; summary = s }, tt); cleans = A.cleans; asks = A.asks; stores = A.stores })
        (λ t. at_stage (Stores g) G)

    -- a node more is lost
    after_lost_is : (s : Stage) → IsStage v.epoch s → IsActs c r old (after_lost looks a v s)
    after_lost_is (Seals d) h = digest_with d [] h tt
    after_lost_is (Stores g) h = closes_is g h
    after_lost_is (Closes y short) h = at_stage (Closes y short) h

  lost_stage_is : (e y : ℕ) (s : Stage) → IsStage e s → IsStage e (lost_stage y s)
  lost_stage_is e y (Seals d) h = with_lost_is e y d h
  lost_stage_is e y (Stores g) h = h
  lost_stage_is e y (Closes s short) h = h

  lost_is : (a : Acts) (A : IsActs c r old a) (v : Recovery) (V : IsRecovery c a.sequencer.log a.sequencer.epoch v) (y : ℕ) → IsActs c r old (loses_node looks a (recovery_lost y v))
  lost_is a A v V y = let h = lost_stage_is v.epoch y v.stage V.stage in
      after_lost_is a A (recovery_lost y v) (record { from_one = V.from_one; before = V.before; spec = V.spec; stage = h }) (lost_stage y v.stage) h

  -- with these stores, and with them behind others
  storing_acts : (a : Acts) (ms : List (ℕ × Body)) → Posts a.sequencer.epoch ms → IsActs c r old a → IsActs c r old (record a { stores = ms })
  storing_acts a ms p A = record { sequencer = A.sequencer; log = A.log; epoch = A.epoch; tries = A.tries; cleans = A.cleans; asks = A.asks; stores = p }

  -- ---- one sequencer that does something ----

  module _ (q : Sequencer) (Q : IsSequencer c r q) (log_is : q.log ≡ old.log) (epoch_is : q.epoch ≡ old.epoch) where
    pub quiet : IsActs c r old (does_nothing q)
    quiet = record { sequencer = Q; log = log_is; epoch = epoch_is; tries = tt; cleans = tt; asks = tt; stores = tt }

    became : (p : Sequencer) → IsSequencer c r p → p.log ≡ q.log → p.epoch ≡ q.epoch → IsActs c r old (becomes (does_nothing q) p)
    became p P l e = record { sequencer = P; log = l ∙ log_is; epoch = e ∙ epoch_is; tries = tt; cleans = tt; asks = tt; stores = tt }

    module _ (v : Recovery) (V : IsRecovery c q.log q.epoch v) where
      digests_is : (y from upto trim lng : ℕ) (es : List Entry) (s : Stage) → IsPage from upto es → Is64 trim → IsLng lng → IsStage v.epoch s → IsActs c r old (digests looks (does_nothing q) v y from upto trim lng es s)
      digests_is y from upto trim lng es (Seals d) p b l h = let paged : List Told = with_page v.epoch y from upto trim lng es d in let i = with_page_is v.epoch y from upto trim lng es p b l d h in
          cond_both (takes_any y from d) (adds_page looks (does_nothing q) v y paged) (does_nothing q) (IsActs c r old)
          (λ t. digest_with (does_nothing q) quiet v V paged (next_ask y paged) i (next_ask_is q.epoch Q.epoch v.epoch V.from_one V.before y paged i)) (λ t. quiet)
      digests_is y from upto trim lng es (Stores g) p b l h = quiet
      digests_is y from upto trim lng es (Closes s short) p b l h = quiet

      settles_is : (p : ℕ → Bool) (y : ℕ) (s : Stage) → IsStage v.epoch s → IsActs c r old (settles (does_nothing q) v p y s)
      settles_is p y (Seals d) h = quiet
      settles_is p y (Stores g) h = closes_is (does_nothing q) quiet v V (settled_by p y g) (settled_is v.epoch p y g h.0, h.1)
      settles_is p y (Closes s short) h = quiet

    -- ---- replies ----
    in_is : (e : ℕ) (o : Option Recovery) (f : Recovery → Acts) → MayRecover c q.log q.epoch o → ((v : Recovery) → IsRecovery c q.log q.epoch v → v.epoch ≡ e → IsActs c r old (f v)) → IsActs c r old (in_recovery (does_nothing q) e o f)
    in_is e None f h g = quiet
    in_is e (Some v) f h g = cond_both (v.epoch == e) (f v) (does_nothing q) (IsActs c r old) (λ t. g v h (eqb-true v.epoch e t)) (λ t. quiet)

    acks_is : (y n : ℕ) (o : Option Append) → find n q.appends ≡ o → IsActs c r old (acks_append (does_nothing q) y n o)
    acks_is y n None f = quiet
    acks_is y n (Some p) f = let a = all-find (IsAppend q.epoch) n q.appends p Q.appends f in record {
      sequencer = appended_to c r q Q q.spec n p (stored_at p y) f (record { epoch_is = a.epoch_is; from_one = a.from_one; place = a.place; short = a.short }) (all-find IsInWave n q.appends p Q.waves f);
      log = log_is;
      epoch = epoch_is;
      tries = tt;
      cleans = tt;
      asks = tt;
      stores = tt;
    }

    member_is : (s : Spec) (y : ℕ) (a : Acts) → IsActs c r old a → IsActs c r old (of_member s y a (does_nothing q))
    member_is s y a A = cond_both (is_in y (nodes_of s)) a (does_nothing q) (IsActs c r old) (λ t. A) (λ t. quiet)

    settled_in : (e y : ℕ) (p : ℕ → Bool) → IsActs c r old (in_recovery (does_nothing q) e q.recovery (λ v. of_member v.spec y (settles (does_nothing q) v p y v.stage) (does_nothing q)))
    settled_in e y p = in_is e q.recovery (λ v. of_member v.spec y (settles (does_nothing q) v p y v.stage) (does_nothing q)) Q.recovery (λ v V h. member_is v.spec y (settles (does_nothing q) v p y v.stage) (settles_is v V p y v.stage V.stage))

    stored_is : (y n : ℕ) → IsActs c r old (by_stored (does_nothing q) y n)
    stored_is y n = cond_both (epoch_of n == q.epoch) (of_member q.spec y (acks_append (does_nothing q) y n (find n q.appends)) (does_nothing q))
        (in_recovery (does_nothing q) (epoch_of n) q.recovery (λ v. of_member v.spec y (settles (does_nothing q) v (λ s. s == n) y v.stage) (does_nothing q))) (IsActs c r old)
        (λ t. member_is q.spec y (acks_append (does_nothing q) y n (find n q.appends)) (acks_is y n (find n q.appends) refl)) (λ t. settled_in (epoch_of n) y (λ s. s == n))

    trimmed_is : (y n t : ℕ) → IsActs c r old (by_trimmed (does_nothing q) y n t)
    trimmed_is y n t = settled_in (epoch_of n) y (λ s. nat_le s t)

    by_lost_is : (y n : ℕ) → IsActs c r old (by_lost looks (does_nothing q) y n)
    by_lost_is y n = cond_both (home_epoch n == q.epoch) (becomes (does_nothing q) (record q { lost = with_one y q.lost })) (in_recovery (does_nothing q) (home_epoch n) q.recovery (λ v. loses_node looks (does_nothing q) (recovery_lost y v))) (IsActs c r old)
        (λ t. became (record q { lost = with_one y q.lost }) (losing c r q Q (with_one y q.lost)) refl refl)
        (λ t. in_is (home_epoch n) q.recovery (λ v. loses_node looks (does_nothing q) (recovery_lost y v)) Q.recovery (λ v V e. lost_is (does_nothing q) quiet v V y))

    summary_down : (e f : ℕ) (s : Summary) → e ≤ f → IsSummary f s → IsSummary e s
    summary_down e f s l h = record { ballot = (let z = h.ballot in omega arith); ballot_most = h.ballot_most; lng = h.lng; trim = h.trim; end = h.end; end_most = h.end_most }

    by_clean_is : (n : ℕ) (s : Summary) → IsSummary (epoch_of n) s → IsActs c r old (by_clean looks (does_nothing q) n s)
    by_clean_is n s h = cond_both (home_epoch n == q.epoch) (preempt (does_nothing q) s.ballot) (in_recovery (does_nothing q) (home_epoch n) q.recovery (λ v. passes looks (does_nothing q) v.epoch s)) (IsActs c r old)
        (λ t. preempt_is (does_nothing q) s.ballot (let z = h.ballot_most in omega arith) quiet)
        (λ t. in_is (home_epoch n) q.recovery (λ v. passes looks (does_nothing q) v.epoch s) Q.recovery (λ v V e. passed (does_nothing q) quiet v V s (summary_down v.epoch (epoch_of n) s (let z = home_at_most n in omega arith) h)))

    by_reply_is : (from : Who) (y : ℕ) (b : Body) → Fits from (whos.Sequencer q.epoch) b → IsActs c r old (by_reply looks (does_nothing q) y b)
    by_reply_is from y (bodies.Stored n) f = stored_is y n
    by_reply_is from y (bodies.SealedHere n k) f = cond_both (nat_lt q.epoch k) (preempt (does_nothing q) k) (does_nothing q) (IsActs c r old) (λ t. preempt_is (does_nothing q) k f.2 quiet) (λ t. quiet)
    by_reply_is from y (bodies.LostHere n round generation end) f = by_lost_is y n
    by_reply_is from y (bodies.CleanHere n s) f = by_clean_is n s f.2
    by_reply_is from y (bodies.TrimmedHere n t) f = trimmed_is y n t
    by_reply_is from y (bodies.DigestPage n upto trim lng es) f = in_is (epoch_of n) q.recovery (λ v. digests looks (does_nothing q) v y n upto trim lng es v.stage) Q.recovery (λ v V e. digests_is v V y n upto trim lng es v.stage f.1 f.3 f.4 V.stage)
    by_reply_is from y (bodies.Store n lng w) f = quiet
    by_reply_is from y (bodies.DigestAsk n) f = quiet
    by_reply_is from y (bodies.Clean e s) f = quiet
    by_reply_is from y (bodies.Release n) f = quiet
    by_reply_is from y (bodies.Trim t) f = quiet
    by_reply_is from y (bodies.ReadAsk round n) f = quiet
    by_reply_is from y (bodies.ReadOne round n set excluded) f = quiet
    by_reply_is from y (bodies.ReadPage round n upto k es) f = quiet
    by_reply_is from y (bodies.ReadEnded round n end loss) f = quiet
    by_reply_is from y (bodies.ReadTrim round n t) f = quiet
    by_reply_is from y (bodies.ReadWait round n k) f = quiet

    unless_is : (o : Option ℕ) (a : Acts) → IsActs c r old a → IsActs c r old (unless_preempted o a (does_nothing q))
    unless_is None a A = A
    unless_is (Some k) a A = quiet

    pub reply_is : (from : Who) (y : ℕ) (b : Body) → Fits from (whos.Sequencer q.epoch) b → IsActs c r old (on_reply looks q y b)
    unfolding on_reply
    reply_is from y b f = unless_is q.preempted (by_reply looks (does_nothing q) y b) (by_reply_is from y b f)

    -- ---- retries ----
    retried : IsActs c r old (retries_appends (does_nothing q))
    retried = record {
      sequencer = raised_is c r q Q q.spec;
      log = log_is;
      epoch = epoch_is;
      tries = tt;
      cleans = tt;
      asks = tt;
      stores = appends_sent q.epoch Q.epoch q.spec q.lost q.lng (raised q.spec q.appends) (lng_is c r q Q) (spec_nodes c q.log q.spec Q.spec) (raised_are q.spec q.epoch q.appends Q.appends);
    }

    -- what a look makes of a spent digest stands before the stores of the appends
    looked_again : (v : Recovery) → IsRecovery c q.log q.epoch v → (d : List Told) → AllByRecursion (IsTold v.epoch) d
        → IsActs c r old (with_stores (retries_appends (does_nothing q)).stores (looks_now looks (record (retries_appends (does_nothing q)) { stores = [] }) v d))
    looked_again v V d h =
        let R = retried in
        let b : Acts = record (retries_appends (does_nothing q)) { stores = [] } in
        let L = looks_are b (storing_acts (retries_appends (does_nothing q)) [] tt R) v V d h in
        let m : Acts = looks_now looks b v d in
        storing_acts m (m.stores ++ (retries_appends (does_nothing q)).stores)
        (all-append (IsPost (whos.Sequencer m.sequencer.epoch)) m.stores (retries_appends (does_nothing q)).stores L.stores (subst (λ e. Posts e (retries_appends (does_nothing q)).stores) (R.epoch ∙ sym L.epoch) R.stores)) L

    retry_stage : (v : Recovery) (s : Stage) → IsRecovery c q.log q.epoch v → IsStage v.epoch s → IsActs c r old (retries_stage looks (retries_appends (does_nothing q)) v s)
    retry_stage v (Seals d) V h = let a = with_asks_is v.epoch d h in
        cond_both (is_spent v.spec d) (with_stores (retries_appends (does_nothing q)).stores (looks_now looks (record (retries_appends (does_nothing q)) { stores = [] }) v d)) (asks_again (retries_appends (does_nothing q)) v (with_asks v.epoch d)) (IsActs c r old)
        (λ t. looked_again v V d h)
        (λ t. seals (retries_appends (does_nothing q)) retried v V (with_asks v.epoch d) (digest_asks (with_asks v.epoch d)) a (asks_are q.epoch Q.epoch v.epoch V.from_one V.before (with_asks v.epoch d) a))
    retry_stage v (Stores g) V h = let R = retried in let w : next_wave g.wave ≤ last_wave = omega arith in
        let ms : List (ℕ × Body) = item_stores v.spec v.lost g.loss g.lng (next_wave g.wave) g.items in
        let S = storing_acts (retries_appends (does_nothing q)) (ms ++ (retries_appends (does_nothing q)).stores)
        (all-append (IsPost (whos.Sequencer q.epoch)) ms (retries_appends (does_nothing q)).stores
        (items_sent q.epoch Q.epoch v.epoch V.from_one V.before v.spec v.lost g.loss g.lng (next_wave g.wave) g.items h.0.lng (spec_nodes c q.log v.spec V.spec) h.0.items) R.stores) R in
        closes_is (record (retries_appends (does_nothing q)) { stores = ms ++ (retries_appends (does_nothing q)).stores }) S v V (next_try g)
        (record { trim = h.0.trim; lng = h.0.lng; end = h.0.end; end_most = h.0.end_most; items = h.0.items }, w)
    retry_stage v (Closes s short) V h = let R = retried in record { sequencer = R.sequencer; log = log_is; epoch = epoch_is; tries = (record { from_one = V.from_one; before = V.before; summary = h }, tt); cleans = tt; asks = tt; stores = R.stores }

    retry_recovery : (o : Option Recovery) → MayRecover c q.log q.epoch o → IsActs c r old (retries_recovery looks (retries_appends (does_nothing q)) o)
    retry_recovery None h = retried
    retry_recovery (Some v) h = retry_stage v v.stage h h.stage

    pub retry_is : IsActs c r old (on_retry looks q)
    unfolding on_retry
    retry_is = unless_is q.preempted (retries_recovery looks (retries_appends (does_nothing q)) q.recovery) (retry_recovery q.recovery Q.recovery)

-- ---- the register's answer ----

pub grown : (c : Config) (r n : Register) (q : Sequencer) → ((l : ℕ) → (epochs_of r l).epoch ≤ (epochs_of n l).epoch) → IsSequencer c r q → IsSequencer c n q
grown c r n q u Q = record { log = Q.log; epoch = Q.epoch; handed_out = (let a = u q.log in let b = Q.handed_out in omega arith); spec = Q.spec; lce = Q.lce; numbers = Q.numbers; appends = Q.appends; waves = Q.waves; rows = Q.rows; recovery = Q.recovery; preempted = Q.preempted }

acts_grown : (c : Config) (r n : Register) (old : Sequencer) (a : Acts) → ((l : ℕ) → (epochs_of r l).epoch ≤ (epochs_of n l).epoch) → IsActs c r old a → IsActs c n old a
acts_grown c r n old a u A = record { sequencer = grown c r n a.sequencer u A.sequencer; log = A.log; epoch = A.epoch; tries = A.tries; cleans = A.cleans; asks = A.asks; stores = A.stores }

-- a call, with the register's answer to its close
pub record IsCalled (c : Config) (r : Register) (old : Sequencer) (k : Called) : Type 0 where
  pub register : Follows c r k.register
  pub acts : IsActs c k.register old k.acts

module _ (c : Config) (r : Register) (R : IsRegister c r) (old : Sequencer) (looks : ℕ → View) (K : (e : ℕ) → IsLook c old.log e (looks e)) where
  pub called_is : (a : Acts) (ts : List Attempt) → AllByRecursion (IsTry a.sequencer.epoch) ts → IsActs c r old a → IsCalled c r old (called looks r a ts)
  called_is a [] t A = record { register = follows_self c r R; acts = A }
  called_is a (t ∷ ts) T A =
      let i = T.0 in
      let E = A.sequencer.epoch in let z = i.from_one in let b = i.before in let u = A.sequencer.handed_out in let m = E.1 in
      let F = close_follows c r a.sequencer.log t.epoch t.summary t.short R A.sequencer.log (z, omega arith) i.summary (omega arith) in
      record {
        register = F;
        acts = acts_grown c r (close r a.sequencer.log t.epoch t.summary t.short).register old (after_close looks a t.epoch t.summary (close r a.sequencer.log t.epoch t.summary t.short).answer) F.up
            (after_is c r old looks K a t.epoch t.summary (close r a.sequencer.log t.epoch t.summary t.short).answer z b i.summary (close_answers c r a.sequencer.log t.epoch t.summary t.short R) A);
      }

-- the messages of a call
pub acted_sent : (c : Config) (n : Register) (old : Sequencer) (a : Acts) → IsEpoch old.epoch → IsActs c n old a → Posts old.epoch (acted_messages old a)
acted_sent c n old a E A =
    let m = A.sequencer.numbers in
    let rel = releases_sent old.epoch E old a.sequencer (released_bound a.sequencer A.sequencer.epoch (omega arith)) (spec_nodes c a.sequencer.log a.sequencer.spec A.sequencer.spec) in
    let cl = subst (λ e. Posts e a.cleans) A.epoch A.cleans in
    let asks = subst (λ e. Posts e a.asks) A.epoch A.asks in
    let st = subst (λ e. Posts e a.stores) A.epoch A.stores in
    all-append (IsPost (whos.Sequencer old.epoch)) a.cleans (release_messages old a.sequencer ++ (a.asks ++ a.stores)) cl
    (all-append (IsPost (whos.Sequencer old.epoch)) (release_messages old a.sequencer) (a.asks ++ a.stores) rel
    (all-append (IsPost (whos.Sequencer old.epoch)) a.asks a.stores asks st))

-- and where the released number is told again
pub calms_sent : (c : Config) (n : Register) (old : Sequencer) (a : Acts) → IsEpoch old.epoch → IsActs c n old a → Posts old.epoch (calm_messages old a)
calms_sent c n old a E A =
    let m = A.sequencer.numbers in
    let b = released_bound a.sequencer A.sequencer.epoch (omega arith) in
    let ns = spec_nodes c a.sequencer.log a.sequencer.spec A.sequencer.spec in
    let rel = releases_sent old.epoch E old a.sequencer b ns in
    let again = cond_both (is_some a.sequencer.preempted) [] (to_each (bodies.Release (released_of a.sequencer)) (nodes_of a.sequencer.spec)) (AllByRecursion (IsPost (whos.Sequencer old.epoch)))
    (λ t. tt) (λ t. each_post (whos.Sequencer old.epoch) (bodies.Release (released_of a.sequencer)) (nodes_of a.sequencer.spec) (λ y h. ((E, h), b)) ns) in
    let cl = subst (λ e. Posts e a.cleans) A.epoch A.cleans in
    let asks = subst (λ e. Posts e a.asks) A.epoch A.asks in
    let st = subst (λ e. Posts e a.stores) A.epoch A.stores in
    all-append (IsPost (whos.Sequencer old.epoch)) a.cleans (release_messages old a.sequencer ++ (announcements a.sequencer ++ (a.asks ++ a.stores))) cl
    (all-append (IsPost (whos.Sequencer old.epoch)) (release_messages old a.sequencer) (announcements a.sequencer ++ (a.asks ++ a.stores)) rel
    (all-append (IsPost (whos.Sequencer old.epoch)) (announcements a.sequencer) (a.asks ++ a.stores) again
    (all-append (IsPost (whos.Sequencer old.epoch)) a.asks a.stores asks st)))
