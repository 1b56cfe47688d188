-- A sequencer stays of its log and in its place, with what is fixed for its epoch, by each of its calls.
use Rattle.std.proofs.Common.{◌≡◌, ℕ, Bool, true, false, ◌||◌, ◌==◌, ◌+◌, List, [], ◌∷◌, ◌++◌, Option, Some, None, refl, ◌∙◌, nat_lt, nat_le, if◌then◌else◌}
use Rattle.ld_lsn.specs.Number.{epoch_of, home_epoch}
use Rattle.ld_table.specs.Table.{find}
use Rattle.ld_table.specs.Words.{is_in}
use Rattle.ld_ids.specs.declared.set.Spec.{Spec}
use Rattle.ld_ids.specs.Choice.{nodes_of}
use Rattle.ld_msg.specs.declared.msg.Entry.{Entry}
use Rattle.ld_msg.specs.declared.msg.Summary.{Summary}
use Rattle.ld_msg.specs.declared.msg.Body.{Body}
use Rattle.ld_msg.specs.declared.msg.Body.TheVariants as bodies
use Rattle.ld_msg.specs.Digest.{Told, with_page, with_asks, enough, is_spent, plan}
use Rattle.ld_msg.specs.Register.{Answer, View, Granted, AtLimit, Behind, Overtaken, Fails}
use Rattle.ld_msg.specs.Sequencer.{Sequencer, Append, Recovery, Stage, Seals, Stores, Closes, Storing, Attempt, Acts, does_nothing, preempt, goes_on, passes, after_close, stores_plan, is_fully_ready, is_ready_short, settled_by, closes_ready, settles, takes_any, next_ask, seals_on, by_look, looks_now, with_digest, adds_page, digests, recovery_lost, after_lost, loses_node, acks_append, in_recovery, by_stored, by_lost, by_clean, of_member, by_reply, unless_preempted, on_reply, next_try, next_wave, item_stores, with_stores, asks_again, retries_stage, retries_recovery, retries_appends, on_retry}
use Rattle.ld_sequencer.specs.Whole.{tried_with}

pub record Same (p q : Sequencer) : Type 0 where
  pub log : q.log ≡ p.log
  pub epoch : q.epoch ≡ p.epoch
  pub spec : q.spec ≡ p.spec
  pub gone : q.gone ≡ p.gone

pub same_after : (p q r : Sequencer) → Same p q → Same q r → Same p r
same_after p q r a b = record { log = b.log ∙ a.log; epoch = b.epoch ∙ a.epoch; spec = b.spec ∙ a.spec; gone = b.gone ∙ a.gone }

-- nothing of it has changed
pub itself : (p : Sequencer) → Same p p
itself p = record { log = refl; epoch = refl; spec = refl; gone = refl }

same_if : (b : Bool) (q : Sequencer) (x y : Acts) → Same q x.sequencer → Same q y.sequencer → Same q (if b then x else y).sequencer
same_if true q x y h k = h
same_if false q x y h k = k

same_in : (a : Acts) (epoch : ℕ) (o : Option Recovery) (f : Recovery → Acts) → ((v : Recovery) → Same a.sequencer (f v).sequencer) → Same a.sequencer (in_recovery a epoch o f).sequencer
same_in a epoch None f h = itself a.sequencer
same_in a epoch (Some v) f h = same_if (v.epoch == epoch) a.sequencer (f v) a (h v) (itself a.sequencer)

same_ready : (a : Acts) (v : Recovery) (g : Storing) → Same a.sequencer (closes_ready a v g).sequencer
same_ready a v g = same_if (is_fully_ready v.spec g || is_ready_short v.spec v.lost g) a.sequencer _ _ record { log = refl; epoch = refl; spec = refl; gone = refl } record { log = refl; epoch = refl; spec = refl; gone = refl }

same_settles : (a : Acts) (v : Recovery) (p : ℕ → Bool) (y : ℕ) (s : Stage) → Same a.sequencer (settles a v p y s).sequencer
same_settles a v p y (Seals d) = itself a.sequencer
same_settles a v p y (Stores g) = same_ready a v (settled_by p y g)
same_settles a v p y (Closes s short) = itself a.sequencer

same_look : (looks : ℕ → View) (a : Acts) (v : Recovery) (d : List Told) (o : Option Summary) (epoch : ℕ) → Same a.sequencer (by_look looks a v d o epoch).sequencer
same_look looks a v d (Some y) epoch = record { log = refl; epoch = refl; spec = refl; gone = refl }
same_look looks a v d None epoch = same_if (epoch == a.sequencer.epoch) a.sequencer (stores_plan a v (plan v.epoch true d)) (preempt a epoch) record { log = refl; epoch = refl; spec = refl; gone = refl } record { log = refl; epoch = refl; spec = refl; gone = refl }

same_looks : (looks : ℕ → View) (a : Acts) (v : Recovery) (d : List Told) → Same a.sequencer (looks_now looks a v d).sequencer
same_looks looks a v d = same_look looks a v d (looks v.epoch).summary (looks v.epoch).epoch

same_digest : (looks : ℕ → View) (a : Acts) (v : Recovery) (d : List Told) (asks : List (ℕ × Body)) → Same a.sequencer (with_digest looks a v d asks).sequencer
same_digest looks a v d asks = same_if (enough v.spec d) a.sequencer (stores_plan a v (plan v.epoch false d)) (if is_spent v.spec d then looks_now looks a v d else seals_on a v d asks) record { log = refl; epoch = refl; spec = refl; gone = refl }
    (same_if (is_spent v.spec d) a.sequencer (looks_now looks a v d) (seals_on a v d asks) (same_looks looks a v d) record { log = refl; epoch = refl; spec = refl; gone = refl })

same_digests : (looks : ℕ → View) (a : Acts) (v : Recovery) (y from upto trim lng : ℕ) (es : List Entry) (s : Stage) → Same a.sequencer (digests looks a v y from upto trim lng es s).sequencer
same_digests looks a v y from upto trim lng es (Seals d) = let e : List Told = with_page v.epoch y from upto trim lng es d in
    same_if (takes_any y from d) a.sequencer (adds_page looks a v y e) a (same_digest looks a v e (next_ask y e)) (itself a.sequencer)
same_digests looks a v y from upto trim lng es (Stores g) = itself a.sequencer
same_digests looks a v y from upto trim lng es (Closes s short) = itself a.sequencer

same_after_lost : (looks : ℕ → View) (a : Acts) (v : Recovery) (s : Stage) → Same a.sequencer (after_lost looks a v s).sequencer
same_after_lost looks a v (Seals d) = same_digest looks a v d []
same_after_lost looks a v (Stores g) = same_ready a v g
same_after_lost looks a v (Closes s short) = record { log = refl; epoch = refl; spec = refl; gone = refl }

same_of : (spec : Spec) (a : Acts) (y : ℕ) (x : Acts) → Same a.sequencer x.sequencer → Same a.sequencer (of_member spec y x a).sequencer
same_of spec a y x h = same_if (is_in y (nodes_of spec)) a.sequencer x a h (itself a.sequencer)

same_acks : (a : Acts) (y n : ℕ) (o : Option Append) → Same a.sequencer (acks_append a y n o).sequencer
same_acks a y n None = itself a.sequencer
same_acks a y n (Some p) = record { log = refl; epoch = refl; spec = refl; gone = refl }

-- what a node of the recovered epoch settles
same_settled : (a : Acts) (p : ℕ → Bool) (y : ℕ) (v : Recovery) → Same a.sequencer (of_member v.spec y (settles a v p y v.stage) a).sequencer
same_settled a p y v = same_of v.spec a y (settles a v p y v.stage) (same_settles a v p y v.stage)

same_stored : (a : Acts) (y n : ℕ) → Same a.sequencer (by_stored a y n).sequencer
same_stored a y n = same_if (epoch_of n == a.sequencer.epoch) a.sequencer (of_member a.sequencer.spec y (acks_append a y n (find n a.sequencer.appends)) a) (in_recovery a (epoch_of n) a.sequencer.recovery (λ v. of_member v.spec y (settles a v (λ s. s == n) y v.stage) a))
    (same_of a.sequencer.spec a y (acks_append a y n (find n a.sequencer.appends)) (same_acks a y n (find n a.sequencer.appends)))
    (same_in a (epoch_of n) a.sequencer.recovery (λ v. of_member v.spec y (settles a v (λ s. s == n) y v.stage) a) (same_settled a (λ s. s == n) y))

same_lost : (looks : ℕ → View) (a : Acts) (y n : ℕ) → Same a.sequencer (by_lost looks a y n).sequencer
same_lost looks a y n = same_if (home_epoch n == a.sequencer.epoch) a.sequencer _ (in_recovery a (home_epoch n) a.sequencer.recovery (λ v. loses_node looks a (recovery_lost y v))) record { log = refl; epoch = refl; spec = refl; gone = refl }
    (same_in a (home_epoch n) a.sequencer.recovery (λ v. loses_node looks a (recovery_lost y v)) (λ v. same_after_lost looks a (recovery_lost y v) (recovery_lost y v).stage))

same_clean : (looks : ℕ → View) (a : Acts) (n : ℕ) (s : Summary) → Same a.sequencer (by_clean looks a n s).sequencer
same_clean looks a n s = same_if (home_epoch n == a.sequencer.epoch) a.sequencer (preempt a s.ballot) (in_recovery a (home_epoch n) a.sequencer.recovery (λ v. passes looks a v.epoch s)) record { log = refl; epoch = refl; spec = refl; gone = refl }
    (same_in a (home_epoch n) a.sequencer.recovery (λ v. passes looks a v.epoch s) (λ v. record { log = refl; epoch = refl; spec = refl; gone = refl }))

same_reply : (looks : ℕ → View) (a : Acts) (y : ℕ) (b : Body) → Same a.sequencer (by_reply looks a y b).sequencer
same_reply looks a y (bodies.Store n lng w) = itself a.sequencer
same_reply looks a y (bodies.Stored n) = same_stored a y n
same_reply looks a y (bodies.SealedHere n k) = same_if (nat_lt a.sequencer.epoch k) a.sequencer (preempt a k) a record { log = refl; epoch = refl; spec = refl; gone = refl } (itself a.sequencer)
same_reply looks a y (bodies.LostHere n round generation end) = same_lost looks a y n
same_reply looks a y (bodies.CleanHere n s) = same_clean looks a n s
same_reply looks a y (bodies.TrimmedHere n t) = same_in a (epoch_of n) a.sequencer.recovery (λ v. of_member v.spec y (settles a v (λ s. nat_le s t) y v.stage) a) (same_settled a (λ s. nat_le s t) y)
same_reply looks a y (bodies.DigestAsk n) = itself a.sequencer
same_reply looks a y (bodies.DigestPage from upto trim lng es) = same_in a (epoch_of from) a.sequencer.recovery (λ v. digests looks a v y from upto trim lng es v.stage) (λ v. same_digests looks a v y from upto trim lng es v.stage)
same_reply looks a y (bodies.Clean e s) = itself a.sequencer
same_reply looks a y (bodies.Release n) = itself a.sequencer
same_reply looks a y (bodies.Trim t) = itself a.sequencer
same_reply looks a y (bodies.ReadAsk round n) = itself a.sequencer
same_reply looks a y (bodies.ReadOne round n set excluded) = itself a.sequencer
same_reply looks a y (bodies.ReadPage round n upto c es) = itself a.sequencer
same_reply looks a y (bodies.ReadEnded round n end loss) = itself a.sequencer
same_reply looks a y (bodies.ReadTrim round n t) = itself a.sequencer
same_reply looks a y (bodies.ReadWait round n r) = itself a.sequencer

same_unless : (o : Option ℕ) (q : Sequencer) (a b : Acts) → Same q a.sequencer → Same q b.sequencer → Same q (unless_preempted o a b).sequencer
same_unless None q a b h k = h
same_unless (Some n) q a b h k = k

pub same_on_reply : (looks : ℕ → View) (q : Sequencer) (y : ℕ) (b : Body) → Same q (on_reply looks q y b).sequencer
unfolding on_reply
same_on_reply looks q y b = same_unless q.preempted q (by_reply looks (does_nothing q) y b) (does_nothing q) (same_reply looks (does_nothing q) y b) (itself q)

same_stage : (looks : ℕ → View) (a : Acts) (v : Recovery) (s : Stage) → Same a.sequencer (retries_stage looks a v s).sequencer
same_stage looks a v (Seals d) = same_if (is_spent v.spec d) a.sequencer (with_stores a.stores (looks_now looks (record a { stores = [] }) v d)) (asks_again a v (with_asks v.epoch d)) (same_looks looks (record a { stores = [] }) v d) record { log = refl; epoch = refl; spec = refl; gone = refl }
same_stage looks a v (Stores g) = same_ready (record a { stores = item_stores v.spec v.lost g.loss g.lng (next_wave g.wave) g.items ++ a.stores }) v (next_try g)
same_stage looks a v (Closes y short) = itself a.sequencer

same_recovery : (looks : ℕ → View) (a : Acts) (o : Option Recovery) → Same a.sequencer (retries_recovery looks a o).sequencer
same_recovery looks a None = itself a.sequencer
same_recovery looks a (Some v) = same_stage looks a v v.stage

pub same_on_retry : (looks : ℕ → View) (q : Sequencer) → Same q (on_retry looks q).sequencer
unfolding on_retry
same_on_retry looks q = let a : Acts = retries_appends (does_nothing q) in
    same_unless q.preempted q (retries_recovery looks a q.recovery) (does_nothing q) (same_after q a.sequencer (retries_recovery looks a q.recovery).sequencer record { log = refl; epoch = refl; spec = refl; gone = refl } (same_recovery looks a q.recovery)) (itself q)

same_close : (looks : ℕ → View) (a : Acts) (epoch : ℕ) (y : Summary) (d : Answer) → Same a.sequencer (after_close looks a epoch y d).sequencer
unfolding after_close
same_close looks a epoch y Granted = record { log = refl; epoch = refl; spec = refl; gone = refl }
same_close looks a epoch y AtLimit = itself a.sequencer
same_close looks a epoch y (Behind lce) = same_if (nat_le a.sequencer.epoch lce) a.sequencer (preempt a (lce + 1)) (goes_on looks a lce) record { log = refl; epoch = refl; spec = refl; gone = refl } record { log = refl; epoch = refl; spec = refl; gone = refl }
same_close looks a epoch y (Overtaken k) = record { log = refl; epoch = refl; spec = refl; gone = refl }
same_close looks a epoch y Fails = record { log = refl; epoch = refl; spec = refl; gone = refl }

pub same_tried : (looks : ℕ → View) (a : Acts) (d : Answer) (ts : List Attempt) → Same a.sequencer (tried_with looks a d ts).sequencer
same_tried looks a d [] = itself a.sequencer
same_tried looks a d (t ∷ ts) = same_close looks a t.epoch t.summary d
