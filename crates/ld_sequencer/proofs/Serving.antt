-- A sequencer whose recovery is held beside its own epoch.
use Rattle.std.proofs.Common.{◌≡◌, ℕ, ◌+◌, ◌-◌, ◌^◌, ◌<◌, ◌≤◌, Bool, true, false, not, ◌&&◌, ◌||◌, ◌==◌, nat_lt, List, [], ◌++◌, append-nil, Option, Some, None, if◌then◌else◌, refl, ap, sym, subst, ◌∙◌, arith}
use Rattle.std.proofs.lemmas.Bool.Decides.{nat_tests}
use Rattle.ld_ids.specs.declared.set.Spec.{Spec}
use Rattle.ld_msg.specs.declared.msg.Msg.{Msg}
use Rattle.ld_msg.specs.declared.msg.Who.TheVariants as whos
use Rattle.ld_msg.specs.declared.msg.Body.{Body}
use Rattle.ld_msg.specs.Bounds.{IsEpoch}
use Rattle.ld_msg.specs.Digest.{no_digest, with_asks, is_spent}
use Rattle.ld_msg.specs.Network.{posted}
use Rattle.ld_msg.specs.Register.{View}
use Rattle.ld_msg.specs.Sequencer.{Sequencer, Recovery, Stage, Seals, Stores, Closes, Storing, Acts, does_nothing, digest_asks, next_try, summary_of, is_fully_ready, is_ready_short, retries_stage, on_retry}
use Rattle.ld_recovery.specs.Recovering as recovering
use Rattle.ld_recovery.specs.Recovering.{Recovering, Ending, Goes, going, is_going, is_spent_stage, is_spent_in, no_looks, when_going, as_sequencer, started, retried, retry_messages, messages}
use Rattle.ld_register.specs.Bounds.{IsSpecFor}
use Rattle.ld_sequencer.specs.declared.origin.Origin.{Origin}
use Rattle.ld_sequencer.specs.Own.{Own, spec_of, with_lce}
use Rattle.ld_sequencer.specs.Whole.{Whole, as_now, sent_as, with_recovery, joined, Serves, Serving, AreOne, is_spent_now, recovery_acts, recovery_behind, asks_behind}
use Rattle.ld_sequencer.proofs.Parts.{only}

-- ---- the messages of a recovery are those of its sequencer ----

pub sent_of : (o : Own) (m : Option Recovering) (r : Recovering) (bs : List (ℕ × Body)) → Serves o r → messages r bs ≡ sent_as (joined o m) bs
sent_of o m r bs s = ap (λ (e : ℕ). posted (whos.Sequencer e) r.recovery.spec.log bs) s.ballot ∙ ap (λ (l : ℕ). posted (whos.Sequencer o.row.epoch) l bs) s.log

pub as_is : (o : Own) (r : Recovering) → Serves o r → as_sequencer r ≡ only o.row.spec.log o.row.epoch o.lce r.recovery
as_is o r s =
    let l : r.recovery.epoch - 1 ≡ o.lce = let e = s.epoch in omega arith in
    ap (λ (n : ℕ). only n r.ballot (r.recovery.epoch - 1) r.recovery) s.log
    ∙ (ap (λ (e : ℕ). only o.row.spec.log e (r.recovery.epoch - 1) r.recovery) s.ballot ∙ ap (λ (n : ℕ). only o.row.spec.log o.row.epoch n r.recovery) l)

-- ---- what stays held ----

pub serves_on : (o : Own) (r : Recovering) (w : Recovery) → Serves o r → w.epoch ≡ r.recovery.epoch → w.spec ≡ r.recovery.spec → Serves o (going r w)
serves_on o r w s e f = record { log = ap (λ (x : Spec). x.log) f ∙ s.log; ballot = s.ballot; epoch = e ∙ s.epoch; earlier = s.earlier; going = refl }

pub one_with : (o : Own) (m n : Option Recovering) → AreOne o m → Serving o n → AreOne o n
one_with o m n h s = record { copies = h.copies; first = h.first; epoch = h.epoch; lce = h.lce; serving = s }

serving_in : (o : Own) (m : Option Recovering) (r : Recovering) → m ≡ Some r → Serving o m → Serves o r
serving_in o m r e s = subst (Serving o) e s

pub served : (o : Own) (m : Option Recovering) (r : Recovering) → m ≡ Some r → AreOne o m → Serves o r
served o m r e h = serving_in o m r e h.serving

pub first_of : (w : Whole) (o : Own) (m : Option Recovering) → joined o m ≡ w → AreOne o m → IsSpecFor w.sequencer.log w.origin.first
first_of w o m j h = subst (λ (x : Whole). IsSpecFor x.sequencer.log x.origin.first) j h.first

serving_on : (o p : Own) (m : Option Recovering) → spec_of p ≡ spec_of o → p.row.epoch ≡ o.row.epoch → p.lce ≡ o.lce → Serving o m → Serving p m
serving_on o p None e f g s = s
serving_on o p (Some r) e f g s =
    let a = s.earlier in let b = s.epoch in
    record { log = s.log ∙ sym (ap (λ (x : Spec). x.log) e); ballot = s.ballot ∙ sym f; epoch = omega arith; earlier = omega arith; going = s.going }

pub one_on : (o p : Own) (m : Option Recovering) → p.origin ≡ o.origin → spec_of p ≡ spec_of o → p.row.epoch ≡ o.row.epoch → p.lce ≡ o.lce → AreOne o m → AreOne p m
one_on o p m i e f g h = record {
  first = subst (λ (s : Spec). IsSpecFor s.log p.origin.first) (sym e) (subst (λ (x : Origin). IsSpecFor o.row.spec.log x.first) (sym i) h.first);
  copies = subst (λ (s : Spec). 1 ≤ s.r) (sym e) h.copies;
  epoch = subst (λ (n : ℕ). IsEpoch n) (sym f) h.epoch;
  lce = subst (λ (n : ℕ). n ≤ 2 ^ 32 - 2) (sym g) h.lce;
  serving = serving_on o p m e f g h.serving;
}

-- ---- it begins ----

abbrev begun_asks : Spec → ℕ → Bool → List (ℕ × Body)
begun_asks next lce b = if b then digest_asks (no_digest next (lce + 1)) else []

pub begins_sent : (next : Spec) (epoch lce : ℕ) (old new : List Msg) → lce + 1 < epoch → new ≡ old ++ messages (started next (lce + 1) epoch) (digest_asks (no_digest next (lce + 1))) → new ≡ old ++ asks_behind next epoch lce
begins_sent next epoch lce old new h e =
    let t : nat_lt (lce + 1) epoch ≡ true = grind (arith, nat_tests) in
    e ∙ ap (λ (b : Bool). old ++ posted (whos.Sequencer epoch) next.log (begun_asks next lce b)) (sym t)

pub begins_quiet : (next : Spec) (epoch lce : ℕ) (old : List Msg) → epoch ≤ lce + 1 → old ≡ old ++ asks_behind next epoch lce
begins_quiet next epoch lce old h =
    let t : nat_lt (lce + 1) epoch ≡ false = grind (arith, nat_tests) in
    sym (ap (λ (b : Bool). old ++ posted (whos.Sequencer epoch) next.log (begun_asks next lce b)) t ∙ append-nil old)

pub ruleset begin_rules = (begins_sent, begins_quiet)

-- what is held of a recovery that begins
behind_if : (o : Own) (next : Spec) (lce : ℕ) (b : Bool) → nat_lt (lce + 1) o.row.epoch ≡ b → next.log ≡ o.row.spec.log → Serving (with_lce o lce) (if b then Some (started next (lce + 1) o.row.epoch) else None)
behind_if o next lce true h e = record { log = e; ballot = refl; epoch = refl; earlier = grind (arith, nat_tests); going = refl }
behind_if o next lce false h e = tt

pub behind_one : (o p : Own) (m : Option Recovering) (next : Spec) (lce : ℕ) → p ≡ with_lce o lce → AreOne o m → lce ≤ 2 ^ 32 - 2 → next.log ≡ o.row.spec.log → AreOne p (recovery_behind next p.row.epoch lce)
behind_one o p m next lce k h l e = subst (λ (x : Own). AreOne x (recovery_behind next x.row.epoch lce)) (sym k) (record {
  copies = h.copies;
  first = h.first;
  epoch = h.epoch;
  lce = l;
  serving = behind_if o next lce (nat_lt (lce + 1) o.row.epoch) refl e;
})

-- ---- it asks again ----

-- what a retry does to the recovery alone, and to the whole sequencer
record AreAgain (o : Own) (r : Recovering) (a b : Acts) : Type 0 where
  now : Recovery
  value : recovering.goes_on r a ≡ going r now
  epoch : now.epoch ≡ r.recovery.epoch
  spec : now.spec ≡ r.recovery.spec
  lce : a.sequencer.lce ≡ o.lce
  whole : b.sequencer ≡ with_recovery (Some now) (joined o (Some r)).sequencer
  sent : a.asks ++ a.stores ≡ b.asks ++ b.stores

again_unspent : (o : Own) (r : Recovering) (c : Bool) (a b a' b' : Acts) → c ≡ false → AreAgain o r a' b' → AreAgain o r (if c then a else a') (if c then b else b')
again_unspent o r true a b a' b' h p = absurd cc
again_unspent o r false a b a' b' h p = p

again_either : (o : Own) (r : Recovering) (c : Bool) (a b a' b' : Acts) → AreAgain o r a b → AreAgain o r a' b' → AreAgain o r (if c then a else a') (if c then b else b')
again_either o r true a b a' b' p q = p
again_either o r false a b a' b' p q = q

-- by a sequencer with nothing but the recovery, and by the whole one
abbrev alone_again : (ℕ → View) → Own → Recovering → Stage → Acts
alone_again looks o r t = retries_stage looks (does_nothing (only o.row.spec.log o.row.epoch o.lce r.recovery)) r.recovery t

abbrev whole_again : (ℕ → View) → Own → Recovering → Stage → Acts
whole_again looks o r t = retries_stage looks (does_nothing (joined o (Some r)).sequencer) r.recovery t

abbrev at_stage : Recovery → Stage → Recovery
at_stage v t = record v { stage = t }

again_at : (looks : ℕ → View) (o : Own) (r : Recovering) (t : Stage) → is_spent_stage r.recovery.spec t ≡ false → AreAgain o r (alone_again looks o r t) (whole_again looks o r t)
again_at looks o r (Seals d) h = again_unspent o r (is_spent r.recovery.spec d) _ _ _ _ h
    (record { now = at_stage r.recovery (Seals (with_asks r.recovery.epoch d)); value = refl; epoch = refl; spec = refl; lce = refl; whole = refl; sent = refl })
again_at looks o r (Stores g) h =
    let v = r.recovery in let n : Storing = next_try g in
    again_either o r (is_fully_ready v.spec n || is_ready_short v.spec v.lost n) _ _ _ _
    (record { now = at_stage v (Closes (summary_of o.row.epoch n) (not (is_fully_ready v.spec n))); value = refl; epoch = refl; spec = refl; lce = refl; whole = refl; sent = refl })
    (record { now = at_stage v (Stores n); value = refl; epoch = refl; spec = refl; lce = refl; whole = refl; sent = refl })
again_at looks o r (Closes y short) h = record { now = r.recovery; value = refl; epoch = refl; spec = refl; lce = refl; whole = refl; sent = refl }

-- ---- a retry of the recovery as it is in the whole sequencer ----

retry_alone : (o : Own) (r : Recovering) → Serves o r → on_retry (no_looks r) (as_sequencer r) ≡ alone_again (no_looks r) o r r.recovery.stage
unfolding on_retry
retry_alone o r s = ap (λ (q : Sequencer). retries_stage (no_looks r) (does_nothing q) r.recovery r.recovery.stage) (as_is o r s)

-- a digest that isn't spent
unspent : (r : Recovering) → r.ending ≡ Goes → is_spent_stage r.recovery.spec r.recovery.stage ≡ false → is_spent_in r ≡ false
unspent r g h = ap (λ (e : Ending). is_going e && is_spent_stage r.recovery.spec r.recovery.stage) g ∙ h

retried_so : (o : Own) (r : Recovering) → Serves o r → is_spent_stage r.recovery.spec r.recovery.stage ≡ false → retried r ≡ recovering.goes_on r (alone_again (no_looks r) o r r.recovery.stage)
retried_so o r s h =
    ap (λ (c : Bool). if c then r else when_going r.ending (recovering.goes_on r (on_retry (no_looks r) (as_sequencer r))) r) (unspent r s.going h)
    ∙ (ap (λ (e : Ending). when_going e (recovering.goes_on r (on_retry (no_looks r) (as_sequencer r))) r) s.going ∙ ap (recovering.goes_on r) (retry_alone o r s))

again_open : (o : Own) (r : Recovering) → Serves o r → (o.lce == r.recovery.epoch - 1) ≡ true
again_open o r s = let e = s.epoch in grind (arith, nat_tests)

retry_sent : (o : Own) (r : Recovering) → Serves o r → is_spent_stage r.recovery.spec r.recovery.stage ≡ false → retry_messages r ≡ messages r (recovering.sent_by r (alone_again (no_looks r) o r r.recovery.stage))
retry_sent o r s h =
    ap (λ (c : Bool). if c then [] else when_going r.ending (messages r (recovering.sent_by r (on_retry (no_looks r) (as_sequencer r)))) []) (unspent r s.going h)
    ∙ (ap (λ (e : Ending). when_going e (messages r (recovering.sent_by r (on_retry (no_looks r) (as_sequencer r)))) []) s.going ∙ ap (λ (a : Acts). messages r (recovering.sent_by r a)) (retry_alone o r s))

-- the recovery's messages, as the sequencer sends them
sent_alone : (o : Own) (r : Recovering) (a b : Acts) → Serves o r → AreAgain o r a b → messages r (recovering.sent_by r a) ≡ sent_as (joined o (Some r)) (b.asks ++ b.stores)
sent_alone o r a b s p =
    ap (λ (n : ℕ). messages r (if n == r.recovery.epoch - 1 then a.asks ++ a.stores else a.cleans)) p.lce
    ∙ (ap (λ (c : Bool). messages r (if c then a.asks ++ a.stores else a.cleans)) (again_open o r s)
    ∙ (ap (messages r) p.sent ∙ sent_of o (Some r) r (b.asks ++ b.stores) s))

again_of : (o : Own) (r : Recovering) → is_spent_stage r.recovery.spec r.recovery.stage ≡ false → AreAgain o r (alone_again (no_looks r) o r r.recovery.stage) (whole_again (no_looks r) o r r.recovery.stage)
again_of o r h = again_at (no_looks r) o r r.recovery.stage h

-- ---- looks don't matter to it ----

else_other : (c : Bool) (x y z : Acts) → c ≡ false → (if c then x else z) ≡ (if c then y else z)
else_other true x y z h = absurd cc
else_other false x y z h = refl

stage_alike : (looks others : ℕ → View) (a : Acts) (v : Recovery) (t : Stage) → is_spent_stage v.spec t ≡ false → retries_stage looks a v t ≡ retries_stage others a v t
stage_alike looks others a v (Seals d) h = else_other (is_spent v.spec d) _ _ _ h
stage_alike looks others a v (Stores g) h = refl
stage_alike looks others a v (Closes y short) h = refl

-- ---- as it is called ----

spent_here : (w : Whole) (o : Own) (m : Option Recovering) (r : Recovering) → joined o m ≡ w → m ≡ Some r → is_spent_now w ≡ false → is_spent_stage r.recovery.spec r.recovery.stage ≡ false
spent_here w o m r j e h = ap (λ (x : Option Recovering). is_spent_now (joined o x)) (sym e) ∙ (ap is_spent_now j ∙ h)

pub again_one : (w : Whole) (o : Own) (m : Option Recovering) (r x : Recovering) → joined o m ≡ w → AreOne o m → m ≡ Some r → is_spent_now w ≡ false → x ≡ retried r → AreOne o (Some x)
again_one w o m r x j h e u k =
    let s = served o m r e h in let f = spent_here w o m r j e u in let p = again_of o r f in
    one_with o m (Some x) h (subst (λ (z : Recovering). Serves o z) (sym (k ∙ (retried_so o r s f ∙ p.value))) (serves_on o r p.now s p.epoch p.spec))

again_value : (looks : ℕ → View) (o : Own) (r : Recovering) → Serves o r → is_spent_stage r.recovery.spec r.recovery.stage ≡ false → joined o (Some (retried r)) ≡ as_now (joined o (Some r)) (recovery_acts looks (joined o (Some r))).sequencer
again_value looks o r s f =
    let p = again_of o r f in
    ap (λ (z : Recovering). joined o (Some z)) (retried_so o r s f ∙ p.value)
    ∙ (ap (as_now (joined o (Some r))) (sym p.whole) ∙ ap (λ (a : Acts). as_now (joined o (Some r)) a.sequencer) (stage_alike (no_looks r) looks (does_nothing (joined o (Some r)).sequencer) r.recovery r.recovery.stage f))

pub again_now : (looks : ℕ → View) (w : Whole) (o : Own) (m : Option Recovering) (r x : Recovering) → joined o m ≡ w → AreOne o m → m ≡ Some r → is_spent_now w ≡ false → x ≡ retried r → joined o (Some x) ≡ as_now w (recovery_acts looks w).sequencer
again_now looks w o m r x j h e u k =
    ap (λ (z : Recovering). joined o (Some z)) k
    ∙ (again_value looks o r (served o m r e h) (spent_here w o m r j e u) ∙ ap (λ (z : Whole). as_now z (recovery_acts looks z).sequencer) (ap (joined o) (sym e) ∙ j))

again_out : (looks : ℕ → View) (o : Own) (r : Recovering) → Serves o r → is_spent_stage r.recovery.spec r.recovery.stage ≡ false
    → retry_messages r ≡ sent_as (joined o (Some r)) ((recovery_acts looks (joined o (Some r))).asks ++ (recovery_acts looks (joined o (Some r))).stores)
again_out looks o r s f =
    retry_sent o r s f
    ∙ (sent_alone o r _ _ s (again_of o r f)
    ∙ ap (λ (a : Acts). sent_as (joined o (Some r)) (a.asks ++ a.stores)) (stage_alike (no_looks r) looks (does_nothing (joined o (Some r)).sequencer) r.recovery r.recovery.stage f))

pub again_sent : (looks : ℕ → View) (w : Whole) (o : Own) (m : Option Recovering) (r : Recovering) (old new : List Msg) → joined o m ≡ w → AreOne o m → m ≡ Some r → is_spent_now w ≡ false → new ≡ old ++ retry_messages r
    → new ≡ old ++ sent_as w ((recovery_acts looks w).asks ++ (recovery_acts looks w).stores)
again_sent looks w o m r old new j h e u k =
    k ∙ ap (λ (ms : List Msg). old ++ ms) (again_out looks o r (served o m r e h) (spent_here w o m r j e u) ∙ ap (λ (z : Whole). sent_as z ((recovery_acts looks z).asks ++ (recovery_acts looks z).stores)) (ap (joined o) (sym e) ∙ j))

-- without a recovery nothing is asked
pub quiet_now : (looks : ℕ → View) (w : Whole) (o : Own) (m : Option Recovering) → joined o m ≡ w → m ≡ None → w ≡ as_now w (recovery_acts looks w).sequencer
quiet_now looks w o m j e = subst (λ (z : Whole). z ≡ as_now z (recovery_acts looks z).sequencer) (ap (joined o) (sym e) ∙ j) refl

pub quiet_sent : (looks : ℕ → View) (w : Whole) (o : Own) (m : Option Recovering) (old : List Msg) → joined o m ≡ w → m ≡ None → old ≡ old ++ sent_as w ((recovery_acts looks w).asks ++ (recovery_acts looks w).stores)
quiet_sent looks w o m old j e = sym (append-nil old) ∙ ap (λ (z : Whole). old ++ sent_as z ((recovery_acts looks z).asks ++ (recovery_acts looks z).stores)) (ap (joined o) (sym e) ∙ j)
