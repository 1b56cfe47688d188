-- What a look at an epoch whose digest is spent does.
use Rattle.std.proofs.Common.{◌≡◌, ◌⊎◌, inl, inr, ℕ, ◌+◌, ◌<◌, Bool, true, false, ◌&&◌, ◌==◌, nat_lt, List, [], ◌∷◌, ◌++◌, append-nil, Option, Some, None, is_some, Result, Ok, Err, IfOk, IfErr, if◌then◌else◌, refl, ap, sym, subst, ◌∙◌, arith}
use Rattle.std.proofs.lemmas.Bool.Decides.{nat_tests}
use Rattle.ld_ids.specs.declared.set.Spec.{Spec}
use Rattle.ld_msg.specs.declared.msg.Summary.{Summary}
use Rattle.ld_msg.specs.declared.msg.Msg.{Msg}
use Rattle.ld_msg.specs.declared.msg.Who.{Who}
use Rattle.ld_msg.specs.declared.msg.Body.{Body}
use Rattle.ld_msg.specs.declared.msg.Body.TheVariants as bodies
use Rattle.ld_msg.specs.Bounds.{IsSummary}
use Rattle.ld_msg.specs.Digest.{Told, is_spent, plan}
use Rattle.ld_msg.specs.Register.{Register, View, Granted, look}
use Rattle.ld_msg.specs.Sequencer.{Sequencer, Recovery, Stage, Seals, Stores, Closes, Attempt, Acts, does_nothing, by_reply, on_reply, unless_preempted, looks_now, by_look, passes, preempt, stores_plan, acted_messages, released_of, recovered_nodes, to_each, with_stores, retries_stage, retries_recovery, tells_clean}
use Rattle.ld_recovery.specs.Recovering.{Recovering, Ending, going, is_going, sender_of, spends, counts, told_by, digest_in, is_spent_stage, is_spent_in, losing, loss_messages, loss_acts, replied, reply_messages}
use Rattle.ld_recovery.proofs.Spending.{looks_there}
use Rattle.ld_register.specs.Bounds.{IsSpecFor}
use Rattle.ld_sequencer.specs.declared.look.Seen.{Seen}
use Rattle.ld_sequencer.specs.declared.look.Seen.TheVariants as seen
use Rattle.ld_sequencer.specs.declared.report.Report.{Report}
use Rattle.ld_sequencer.specs.declared.fault.SequencerFault.{SequencerFault}
use Rattle.ld_sequencer.specs.declared.fault.SequencerFault.TheVariants as faults
use Rattle.ld_sequencer.specs.Looks.{sees, shows, looks_with, is_counted, IsSeen, MayBeSeen}
use Rattle.ld_register.specs.Calls.{ChangedOrNot}
use Rattle.ld_sequencer.specs.Register.{MayCome, after_tries}
use Rattle.ld_sequencer.specs.Own.{Own, listed}
use Rattle.ld_sequencer.specs.Whole.{Whole, as_now, sent_as, joined, recovery_in, with_recovery, Serves, AreOne, is_for_recovery, is_spent_recovery, is_spent_now, spends_in, spends_by, told_in, counted, looked_in, looked_acts, looks_of, reply_acts, recovery_acts, called_by, AreShown, Acted, ActedBy, IsRefused, Unlooked}
use Rattle.ld_sequencer.proofs.Alike.{on_alike}
use Rattle.ld_sequencer.proofs.Closing.{called_still, left_still, tried_still, from_now}
use Rattle.ld_sequencer.proofs.Doing.{onward, report_of, same_quiet, same_risen}
use Rattle.ld_sequencer.proofs.Hearing.{and_true, for_recovery, passed_there}
use Rattle.ld_sequencer.proofs.Serving.{served, sent_of, one_with, serves_on}

-- ---- what a message tells keeps the epoch and what is fixed for it ----

pub told_epoch : (v : Recovery) (y : ℕ) (b : Body) → (told_by v y b).epoch ≡ v.epoch
told_epoch v y (bodies.LostHere n round generation end) = refl
told_epoch v y (bodies.DigestPage from upto trim lng es) = refl
told_epoch v y _ = refl

told_spec : (v : Recovery) (y : ℕ) (b : Body) → (told_by v y b).spec ≡ v.spec
told_spec v y (bodies.LostHere n round generation end) = refl
told_spec v y (bodies.DigestPage from upto trim lng es) = refl
told_spec v y _ = refl

if_true : {X : Type 0} (c : Bool) (x y : X) → c ≡ true → (if c then x else y) ≡ x
if_true true x y h = refl
if_true false x y h = absurd cc

-- ---- a message that leaves the digest spent ----

pub and_false : (b : Bool) → (b && false) ≡ false
and_false true = refl
and_false false = refl

both_true : (f c : Bool) → (f && c) ≡ true → (f ≡ true) × (c ≡ true)
both_true true c h = (refl, h)
both_true false c h = absurd cc

spends_some : (y : ℕ) (b : Body) (m : Option Recovery) → spends_in y b m ≡ true → (v : Recovery) × (m ≡ Some v)
spends_some y b None h = absurd cc
spends_some y b (Some v) h = (v, refl)

-- the recovery that it leaves, with a spent digest, and what looks do then
pub record IsSpent (w : Whole) (by_looks : (ℕ → View) → Acts) : Type 0 where
  pub before : Recovery
  pub recovery : Recovery
  pub held : w.sequencer.recovery ≡ Some before
  pub epoch : recovery.epoch ≡ before.epoch
  pub spent : is_spent_stage recovery.spec recovery.stage ≡ true
  pub acts : (looks : ℕ → View) → by_looks looks ≡ looks_now looks (does_nothing w.sequencer) recovery (digest_in recovery.stage)

abbrev epoch_or : ℕ → Option Recovery → ℕ
epoch_or n None = n
epoch_or n (Some v) = v.epoch

-- the recovered epoch, as the sequencer knows it
recovered_at : (w : Whole) (o : Own) (m : Option Recovering) (v : Recovery) → joined o m ≡ w → AreOne o m → w.sequencer.recovery ≡ Some v → v.epoch ≡ w.sequencer.lce + 1
recovered_at w o None v j h e = let f : is_some (recovery_in None) ≡ true = ap (λ (x : Whole). is_some x.sequencer.recovery) j ∙ ap is_some e in absurd cc
recovered_at w o (Some r) v j h e =
    let f : Some r.recovery ≡ Some v = ap (λ (x : Whole). x.sequencer.recovery) j ∙ e in
    ap (epoch_or 0) (sym f) ∙ (h.serving.epoch ∙ ap (λ (x : Whole). x.sequencer.lce + 1) j)

earlier_in : (o : Own) (m : Option Recovering) → AreOne o m → is_some (recovery_in m) ≡ true → o.lce + 1 < o.row.epoch
earlier_in o None h e = absurd cc
earlier_in o (Some r) h e = h.serving.earlier

-- it is before its own
before_own : (w : Whole) (o : Own) (m : Option Recovering) (v : Recovery) → joined o m ≡ w → AreOne o m → w.sequencer.recovery ≡ Some v → v.epoch < w.sequencer.epoch
before_own w o m v j h e =
    let a : v.epoch ≡ w.sequencer.lce + 1 = recovered_at w o m v j h e in
    let b : o.lce + 1 < o.row.epoch = earlier_in o m h (ap (λ (x : Whole). is_some x.sequencer.recovery) j ∙ ap is_some e) in
    let c : o.lce ≡ w.sequencer.lce = ap (λ (x : Whole). x.sequencer.lce) j in
    let d : o.row.epoch ≡ w.sequencer.epoch = ap (λ (x : Whole). x.sequencer.epoch) j in
    omega arith

unless_none : (p : Option ℕ) (a d : Acts) → p ≡ None → unless_preempted p a d ≡ a
unless_none None a d h = refl
unless_none (Some k) a d h = absurd cc

pub spends_is : (w : Whole) (o : Own) (m : Option Recovering) (who : Who) (b : Body) → joined o m ≡ w → AreOne o m → spends_by w who b ≡ true → IsSpent w (λ looks. reply_acts looks w who b)
unfolding on_reply
spends_is w o m who b j n h =
    let y = sender_of who in
    let k = both_true (is_for_recovery w b) (spends_in y b w.sequencer.recovery) h in
    let f = for_recovery w b k.0 in
    let v = spends_some y b w.sequencer.recovery k.1 in
    let s : spends_in y b (Some v.0) ≡ true = ap (spends_in y b) (sym v.1) ∙ k.1 in
    record {
      before = v.0;
      recovery = told_by v.0 y b;
      held = v.1;
      epoch = told_epoch v.0 y b;
      spent = ap (λ (x : Spec). is_spent_stage x (told_by v.0 y b).stage) (told_spec v.0 y b) ∙ (both_true (counts v.0 y b) (is_spent_stage v.0.spec (told_by v.0 y b).stage) s).1;
      acts = λ looks. unless_none w.sequencer.preempted (by_reply looks (does_nothing w.sequencer) y b) (does_nothing w.sequencer) f.0 ∙ looks_there looks w.sequencer v.0 y b v.1 (before_own w o m v.0 j n v.1) s;
    }

spent_some : (m : Option Recovery) → is_spent_recovery m ≡ true → (v : Recovery) × (m ≡ Some v)
spent_some None h = absurd cc
spent_some (Some v) h = (v, refl)

if_false : (c : Bool) (x y : Acts) → c ≡ false → (if c then x else y) ≡ y
if_false true x y h = absurd cc
if_false false x y h = refl

no_stores : (a : Acts) → with_stores [] a ≡ a
no_stores a = ap (λ (bs : List (ℕ × Body)). record a { stores = bs }) (append-nil a.stores)

again_looks : (looks : ℕ → View) (q : Sequencer) (v : Recovery) (t : Stage) → is_spent_stage v.spec t ≡ true → retries_stage looks (does_nothing q) v t ≡ looks_now looks (does_nothing q) v (digest_in t)
again_looks looks q v (Seals d) h = if_true (is_spent v.spec d) _ _ h ∙ no_stores (looks_now looks (does_nothing q) v d)
again_looks looks q v (Stores g) h = absurd cc
again_looks looks q v (Closes z short) h = absurd cc

-- a retry of a spent digest
pub again_is : (w : Whole) → is_spent_now w ≡ true → IsSpent w (λ looks. recovery_acts looks w)
again_is w h =
    let v = spent_some w.sequencer.recovery h in
    let s : is_spent_stage v.0.spec v.0.stage ≡ true = ap is_spent_recovery (sym v.1) ∙ h in
    record {
      before = v.0;
      recovery = v.0;
      held = v.1;
      epoch = refl;
      spent = s;
      acts = λ looks. ap (retries_recovery looks (does_nothing w.sequencer)) v.1 ∙ again_looks looks w.sequencer v.0 v.0.stage s;
    }

either_tries : (c : Bool) (x y : Acts) → x.tries ≡ [] → y.tries ≡ [] → (if c then x else y).tries ≡ []
either_tries true x y h k = h
either_tries false x y h k = k

-- ---- what is held and sent ----

-- whether a message is for the recovery, and leaves its digest spent
pub spends_here : (w : Whole) (o : Own) (m : Option Recovering) (r : Recovering) (who : Who) (b : Body) → joined o m ≡ w → AreOne o m → m ≡ Some r → spends r (sender_of who) b ≡ spends_in (sender_of who) b w.sequencer.recovery
spends_here w o m r who b j h k =
    let y = sender_of who in let c = counts r.recovery y b in let p = is_spent_stage r.recovery.spec (told_by r.recovery y b).stage in
    ap (λ (e : Ending). c && (p && is_going e)) (served o m r k h).going ∙ (ap (λ (q : Bool). c && q) (and_true p)
    ∙ (ap (λ (x : Option Recovering). spends_in y b (recovery_in x)) (sym k) ∙ ap (λ (x : Whole). spends_in y b x.sequencer.recovery) j))

pub spends_none : (w : Whole) (o : Own) (m : Option Recovering) (who : Who) (b : Body) → joined o m ≡ w → m ≡ None → spends_by w who b ≡ false
spends_none w o m who b j k = ap (λ (x : Whole). spends_by x who b) (sym j) ∙ (ap (λ (x : Option Recovering). spends_by (joined o x) who b) k ∙ and_false (is_for_recovery (joined o None) b))

pub spent_here : (w : Whole) (o : Own) (m : Option Recovering) (r : Recovering) → joined o m ≡ w → AreOne o m → m ≡ Some r → is_spent_in r ≡ is_spent_now w
spent_here w o m r j h k =
    ap (λ (e : Ending). is_going e && is_spent_stage r.recovery.spec r.recovery.stage) (served o m r k h).going
    ∙ (ap (λ (x : Option Recovering). is_spent_recovery (recovery_in x)) (sym k) ∙ ap is_spent_now j)

pub spent_none : (w : Whole) (o : Own) (m : Option Recovering) → joined o m ≡ w → m ≡ None → false ≡ is_spent_now w
spent_none w o m j k = ap (λ (x : Option Recovering). is_spent_recovery (recovery_in x)) (sym k) ∙ ap is_spent_now j

-- what it tells goes into the recovery
module _ (w : Whole) (o : Own) (m : Option Recovering) (r : Recovering) (who : Who) (b : Body) (j : joined o m ≡ w) (h : AreOne o m) (k : m ≡ Some r) (s : spends_by w who b ≡ true) where
  told_there : spends r (sender_of who) b ≡ true
  told_there = spends_here w o m r who b j h k ∙ (both_true (is_for_recovery w b) (spends_in (sender_of who) b w.sequencer.recovery) s).1

  replied_so : replied r (sender_of who) b ≡ going r (told_by r.recovery (sender_of who) b)
  replied_so = if_true (spends r (sender_of who) b) _ _ told_there

  pub counted_sent : (old new : List Msg) → new ≡ old ++ reply_messages r (sender_of who) b → new ≡ old
  counted_sent old new e = e ∙ (ap (λ (ms : List Msg). old ++ ms) (if_true (spends r (sender_of who) b) _ _ told_there) ∙ append-nil old)

  pub counted_one : (x : Recovering) → x ≡ replied r (sender_of who) b → AreOne o (Some x)
  counted_one x e =
      let y = sender_of who in
      one_with o m (Some x) h (subst (λ (z : Recovering). Serves o z) (sym (e ∙ replied_so)) (serves_on o r (told_by r.recovery y b) (served o m r k h) (told_epoch r.recovery y b) (told_spec r.recovery y b)))

  pub counted_now : (x : Recovering) → x ≡ replied r (sender_of who) b → joined o (Some x) ≡ counted w who b
  counted_now x e = ap (λ (z : Recovering). joined o (Some z)) (e ∙ replied_so) ∙ ap (λ (z : Whole). counted z who b) (ap (joined o) (sym k) ∙ j)

counted_in : (w : Whole) (who : Who) (b : Body) (v : Recovery) → w.sequencer.recovery ≡ Some v → counted w who b ≡ as_now w (with_recovery (Some (told_by v (sender_of who) b)) w.sequencer)
counted_in w who b v e = ap (λ (m : Option Recovery). as_now w (with_recovery (told_in (sender_of who) b m) w.sequencer)) e

-- ---- by what was seen ----

-- what was seen is what looks show
look_alike : (looks : ℕ → View) (a : Acts) (v : Recovery) (d : List Told) (first : Spec) (s : Seen) → IsSeen looks v.epoch a.sequencer.epoch s → looks_now (looks_with first s) a v d ≡ looks_now looks a v d
look_alike looks a v d first (seen.Closed y next) h =
    on_alike (sees 0 (Some y) next) looks (tells_clean a v.epoch y) v.epoch (λ t. h.1 (v.epoch + 1) (ap (λ (c : Bool). if c then Some (v.epoch + 1) else None) t))
    ∙ ap (λ (s : Option Summary). by_look looks a v d s (looks v.epoch).epoch) (sym h.0)
look_alike looks a v d first (seen.Open kept) h =
    ap (by_look (sees kept None first) a v d None) (sym h.1)
    ∙ ap (λ (s : Option Summary). by_look looks a v d s (looks v.epoch).epoch) (sym h.0)

-- ---- what is done by it ----

-- the epoch is closed
pub passed_acted : (w n : Whole) (o : Own) (m : Option Recovering) (y : Summary) (next : Spec) (e before : ℕ) (released : Option ℕ) (old mid new : List Msg) → joined o m ≡ w → AreOne o m → is_some w.sequencer.recovery ≡ true → e ≡ w.sequencer.lce + 1 → before ≡ released_of w.sequencer
    → mid ≡ old ++ sent_as w (to_each (bodies.Clean e y) (recovered_nodes w.sequencer.recovery))
    → n ≡ as_now w (onward (shows next) w e).sequencer → new ≡ mid ++ sent_as w (acted_messages w.sequencer (onward (shows next) w e))
    → listed released ≡ (if nat_lt before (released_of n.sequencer) then released_of n.sequencer ∷ [] else [])
    → Acted w n (report_of None None None None released) old new (looked_acts (sees 0 (Some y) next) w)
passed_acted w n o None y next e before released old mid new j h t g bf d i s l = let f : false ≡ true = ap (λ (x : Whole). is_some x.sequencer.recovery) j ∙ t in absurd cc
passed_acted w n o (Some r) y next e before released old mid new j h t g bf d i s l =
    let sv = h.serving in
    let x : e ≡ r.recovery.epoch = g ∙ (ap (λ (z : Whole). z.sequencer.lce + 1) (sym j) ∙ sym sv.epoch) in
    let looks = sees 0 (Some y) next in
    subst (λ (z : Whole). Acted z n (report_of None None None None released) old new (looked_acts looks z)) j
    (passed_there looks o r n y before released old mid new (bf ∙ ap (λ (z : Whole). released_of z.sequencer) (sym j))
    (d ∙ (ap (λ (k : ℕ). old ++ sent_as w (to_each (bodies.Clean k y) (recovered_nodes w.sequencer.recovery))) x ∙ ap (λ (z : Whole). old ++ sent_as z (to_each (bodies.Clean r.recovery.epoch y) (recovered_nodes z.sequencer.recovery))) (sym j)))
    (i ∙ (ap (λ (k : ℕ). as_now w (onward looks w k).sequencer) x ∙ ap (λ (z : Whole). as_now z (onward looks z r.recovery.epoch).sequencer) (sym j)))
    (s ∙ (ap (λ (k : ℕ). mid ++ sent_as w (acted_messages w.sequencer (onward looks w k))) x ∙ ap (λ (z : Whole). mid ++ sent_as z (acted_messages z.sequencer (onward looks z r.recovery.epoch))) (sym j)))
    l)

same_test : (n : ℕ) → (n == n) ≡ true
same_test n = grind (arith, nat_tests)

-- the plan says what is lost
pub lost_acted : (w : Whole) (o : Own) (m : Option Recovering) (r x : Recovering) (t : Report) (first : Spec) (old new : List Msg) → joined o m ≡ w → AreOne o m → m ≡ Some r → x ≡ losing r → new ≡ old ++ loss_messages r
    → t.acked ≡ None → t.closed ≡ None → t.preempted ≡ None → t.register ≡ None → t.released ≡ None → Acted w (joined o (Some x)) t old new (looked_acts (sees w.sequencer.epoch None first) w)
lost_acted w o m r x t first old new j h k e s ta tc tp tf tl =
    let z = joined o (Some r) in let q = z.sequencer in let v = r.recovery in
    let a = stores_plan (does_nothing q) v (plan v.epoch true (digest_in v.stage)) in
    let sv = served o m r k h in
    let c : (if q.epoch == q.epoch then a else preempt (does_nothing q) q.epoch) ≡ a = if_true (q.epoch == q.epoch) a (preempt (does_nothing q) q.epoch) (same_test q.epoch) in
    subst (λ (y : Whole). Acted y (joined o (Some x)) t old new (looked_acts (sees y.sequencer.epoch None first) y)) (ap (joined o) (sym k) ∙ j)
    (subst (Acted z (joined o (Some x)) t old new) (sym c) (record {
      now = ap (λ (y : Recovering). joined o (Some y)) e;
      sent = s ∙ (ap (λ (ms : List Msg). old ++ ms) (sent_of o (Some r) r (loss_acts r).stores sv)
          ∙ ap (λ (ms : List (ℕ × Body)). old ++ sent_as z (ms ++ a.stores)) (sym (same_quiet q a.sequencer refl)));
      acked = ap listed ta;
      closed = ap listed tc;
      preempted = ap listed tp;
      failed = ap is_some tf;
      released = ap listed tl ∙ same_risen q a.sequencer refl;
    }))

-- a greater epoch was handed out
yields_in : (q : Sequencer) (m : Option Recovery) (kept : ℕ) (first : Spec) → is_some m ≡ true → (kept == q.epoch) ≡ false → preempt (does_nothing q) kept ≡ looked_in (sees kept None first) (does_nothing q) m
yields_in q None kept first h k = absurd cc
yields_in q (Some v) kept first h k = sym (if_false (kept == q.epoch) (stores_plan (does_nothing q) v (plan v.epoch true (digest_in v.stage))) (preempt (does_nothing q) kept) k)

pub yielded_acted : (w n : Whole) (r : Report) (kept : ℕ) (first : Spec) (old : List Msg) → is_some w.sequencer.recovery ≡ true → (kept == w.sequencer.epoch) ≡ false → Acted w n r old old (preempt (does_nothing w.sequencer) kept) → Acted w n r old old (looked_acts (sees kept None first) w)
yielded_acted w n r kept first old h k a = subst (Acted w n r old old) (yields_in w.sequencer w.sequencer.recovery kept first h k) a

-- ---- a message or a retry, by what was seen ----

-- such acts try no close
look_tries : (looks : ℕ → View) (a : Acts) (v : Recovery) (d : List Told) (s : Option Summary) (kept : ℕ) → a.tries ≡ [] → (by_look looks a v d s kept).tries ≡ []
look_tries looks a v d (Some y) kept h = h
look_tries looks a v d None kept h = either_tries (kept == a.sequencer.epoch) (stores_plan a v (plan v.epoch true d)) (preempt a kept) h h

module _ (w : Whole) (by_looks : (ℕ → View) → Acts) (u : IsSpent w by_looks) where
  -- what was told is in the recovery
  abbrev pub told_now : Whole
  told_now = as_now w (with_recovery (Some u.recovery) w.sequencer)

  abbrev looked : (ℕ → View) → Acts
  looked looks = looks_now looks (does_nothing w.sequencer) u.recovery (digest_in u.recovery.stage)

  pub spent_tries : (looks : ℕ → View) → (by_looks looks).tries ≡ []
  spent_tries looks = ap (λ (a : Acts). a.tries) (u.acts looks) ∙ look_tries looks (does_nothing w.sequencer) u.recovery (digest_in u.recovery.stage) (looks u.recovery.epoch).summary (looks u.recovery.epoch).epoch refl

  -- another sequencer closed the epoch: what was told doesn't matter
  closed_acts : (y : Summary) (next : Spec) → looked_acts (sees 0 (Some y) next) w ≡ by_looks (sees 0 (Some y) next)
  closed_acts y next =
      let looks = sees 0 (Some y) next in
      ap (looked_in looks (does_nothing w.sequencer)) u.held ∙ (ap (λ (e : ℕ). passes looks (does_nothing w.sequencer) e y) (sym u.epoch) ∙ sym (u.acts looks))

  -- nor does it where a greater epoch was handed out
  yielded_acts : (kept : ℕ) (first : Spec) → (kept == w.sequencer.epoch) ≡ false → looked_acts (sees kept None first) w ≡ by_looks (sees kept None first)
  yielded_acts kept first h =
      let looks = sees kept None first in
      ap (looked_in looks (does_nothing w.sequencer)) u.held ∙ (if_false (kept == w.sequencer.epoch) _ (preempt (does_nothing w.sequencer) kept) h
      ∙ (sym (if_false (kept == w.sequencer.epoch) (stores_plan (does_nothing w.sequencer) u.recovery (plan u.recovery.epoch true (digest_in u.recovery.stage))) (preempt (does_nothing w.sequencer) kept) h) ∙ sym (u.acts looks)))

  planned_acts : (kept : ℕ) (first : Spec) → (kept == w.sequencer.epoch) ≡ true → looked_acts (sees kept None first) told_now ≡ by_looks (sees kept None first)
  planned_acts kept first h =
      let looks = sees kept None first in let v = u.recovery in
      if_true (kept == w.sequencer.epoch) (stores_plan (does_nothing w.sequencer) v (plan v.epoch true (digest_in v.stage))) (preempt (does_nothing told_now.sequencer) kept) h
      ∙ (sym (if_true (kept == w.sequencer.epoch) (stores_plan (does_nothing w.sequencer) v (plan v.epoch true (digest_in v.stage))) (preempt (does_nothing w.sequencer) kept) h) ∙ sym (u.acts looks))

  module _ (mid n : Whole) (r : Report) (o on : List Msg) (first : Spec) where
    open_seen : (kept : ℕ) (c : Bool) → (kept == w.sequencer.epoch) ≡ c → (c ≡ true → mid ≡ told_now) → (c ≡ false → mid ≡ w) → Acted mid n r o on (looked_acts (sees kept None first) mid) → Acted w n r o on (by_looks (sees kept None first))
    open_seen kept true e t f k =
        let looks = sees kept None first in
        from_now w n (Some u.recovery) r o on (by_looks looks) (subst (Acted told_now n r o on) (planned_acts kept first e) (subst (λ (z : Whole). Acted z n r o on (looked_acts looks z)) (t refl) k))
    open_seen kept false e t f k =
        let looks = sees kept None first in
        subst (Acted w n r o on) (yielded_acts kept first e) (subst (λ (z : Whole). Acted z n r o on (looked_acts looks z)) (f refl) k)

    seen_acted : (own : ℕ) → own ≡ w.sequencer.epoch → (s : Seen) → (is_counted own (Ok s) ≡ true → mid ≡ told_now) → (is_counted own (Ok s) ≡ false → mid ≡ w) → Acted mid n r o on (looked_acts (looks_with first s) mid) → Acted w n r o on (by_looks (looks_with first s))
    seen_acted own g (seen.Closed y next) t f k = subst (Acted w n r o on) (closed_acts y next) (subst (λ (z : Whole). Acted z n r o on (looked_acts (sees 0 (Some y) next) z)) (f refl) k)
    seen_acted own g (seen.Open kept) t f k = open_seen kept (kept == own) (ap (λ (e : ℕ). kept == e) (sym g)) t f k

  -- with what the register's contents show
  contents_acts : (c : Register) (first : Spec) (own : ℕ) (s : Seen) → IsSeen (looks_of w c) u.recovery.epoch w.sequencer.epoch s → by_looks (looks_with first s) ≡ by_looks (looks_of w c)
  contents_acts c first own s h =
      u.acts (looks_with first s) ∙ (look_alike (looks_of w c) (does_nothing w.sequencer) u.recovery (digest_in u.recovery.stage) first s h ∙ sym (u.acts (looks_of w c)))

-- ---- as it is called: at the sequencer's log and first nodes ----

module _ (w : Whole) (o : Own) (m : Option Recovering) (j : joined o m ≡ w) (h : AreOne o m) (by_looks : (ℕ → View) → Acts) (u : IsSpent w by_looks) (first : Spec) (log epoch own : ℕ) (fi : first ≡ w.origin.first) (l : log ≡ w.sequencer.log) (a : epoch ≡ w.sequencer.lce + 1) (g : own ≡ w.sequencer.epoch) where
  epoch_is : u.recovery.epoch ≡ epoch
  epoch_is = u.epoch ∙ (recovered_at w o m u.before j h u.held ∙ sym a)

  seen_here : (c : Register) (s : Seen) → IsSeen (look first c log) epoch own s → IsSeen (looks_of w c) u.recovery.epoch w.sequencer.epoch s
  seen_here c s k =
      subst (λ (x : Spec). IsSeen (look x c w.sequencer.log) u.recovery.epoch w.sequencer.epoch s) fi
      (subst (λ (x : ℕ). IsSeen (look first c x) u.recovery.epoch w.sequencer.epoch s) l
      (subst (λ (x : ℕ). IsSeen (look first c log) u.recovery.epoch x s) g
      (subst (λ (x : ℕ). IsSeen (look first c log) x own s) (sym epoch_is) k)))

  closed_shown : (y : Summary) → IsSummary epoch y → (v : Recovery) → w.sequencer.recovery ≡ Some v → IsSummary v.epoch y
  closed_shown y k v e = subst (λ (x : ℕ). IsSummary x y) (a ∙ sym (recovered_at w o m v j h e)) k

  seen_shown : (s : Seen) → IsSpecFor w.sequencer.log first → MayBeSeen log epoch s → AreShown w (looks_with first s)
  seen_shown (seen.Closed y next) f k = record { specs = λ e. subst (λ (x : ℕ). IsSpecFor x next) l k.1; summary = closed_shown y k.0 }
  seen_shown (seen.Open kept) f k = record { specs = λ e. f; summary = λ v e. tt }

  module _ (mid n : Whole) (r : Report) (old om new : List Msg) (i : om ≡ old) (s : Seen) (t : is_counted own (Ok s) ≡ true → mid ≡ told_now w by_looks u) (q : is_counted own (Ok s) ≡ false → mid ≡ w) (k : Acted mid n r om new (looked_acts (looks_with first s) mid)) where
    acted_so : Acted w n r old new (by_looks (looks_with first s))
    acted_so = seen_acted w by_looks u mid n r old new first own g s t q (subst (λ (x : List Msg). Acted mid n r x new (looked_acts (looks_with first s) mid)) i k)

    pub look_exact : (c : Register) (K : Register → Type 0) → IsSeen (look first c log) epoch own s → K c → Acted w n r old new (called_by w c (by_looks (looks_of w c))).acts × K (called_by w c (by_looks (looks_of w c))).register
    look_exact c K z y =
        let x = by_looks (looks_of w c) in let e = spent_tries w by_looks u (looks_of w c) in (
          subst (Acted w n r old new) (contents_acts w by_looks u c first own s (seen_here c s z) ∙ sym (called_still (looks_of w c) c x x.tries e)) acted_so,
          subst K (sym (left_still (looks_of w c) c x x.tries e)) y,
        )

    pub look_acted : IsSpecFor w.sequencer.log first → MayBeSeen log epoch s → ActedBy w n r old new by_looks
    look_acted f z = (looks_with first s, seen_shown s f z, Granted, subst (Acted w n r old new) (sym (tried_still (looks_with first s) (by_looks (looks_with first s)) Granted _ (spent_tries w by_looks u (looks_with first s)))) acted_so)

-- it couldn't be looked at
pub look_failed : (w : Whole) (by_looks : (ℕ → View) → Acts) (u : IsSpent w by_looks) (mid : Whole) (f : SequencerFault) (old new : List Msg) → new ≡ old → mid ≡ told_now w by_looks u → (f ≡ faults.NoMemory) ⊎ MayCome f
    → Unlooked w mid f old new w.sequencer [] by_looks ⊎ ((looks : ℕ → View) → IsRefused w mid f old new (by_looks looks))
look_failed w by_looks u mid f old new i k (inl z) = inr (λ looks. inl z)
look_failed w by_looks u mid f old new i k (inr z) = inl (record {
  recovery = u.recovery;
  spent = u.spent;
  acts = λ looks. u.acts looks ∙ sym (no_stores (looks_now looks (does_nothing w.sequencer) u.recovery (digest_in u.recovery.stage)));
  free = z;
  now = k;
  sent = i ∙ sym (append-nil old);
})

-- over results
pub ok_at : {T E : Type 0} (r : Result T E) (x : T) (P : T → Type 0) → r ≡ Ok x → IfOk r P → P x
ok_at {T} {E} r x P h k = subst (λ (z : Result T E). IfOk z P) h k

pub err_at : {T E : Type 0} (r : Result T E) (f : E) (P : E → Type 0) → r ≡ Err f → IfErr r P → P f
err_at {T} {E} r f P h k = subst (λ (z : Result T E). IfErr z P) h k

-- a register that isn't changed
pub look_changed : (w : Whole) (by_looks : (ℕ → View) → Acts) (u : IsSpent w by_looks) (looks : ℕ → View) (P Q : Register → Type 0) → ((c : Register) → Q c → P c) → ChangedOrNot P Q (λ c. after_tries c w.sequencer.log (by_looks looks).tries)
look_changed w by_looks u looks P Q f = subst (λ (ts : List Attempt). ChangedOrNot P Q (λ c. after_tries c w.sequencer.log ts)) (sym (spent_tries w by_looks u looks)) (λ c k. (c, f c k, inl refl))

-- a message that was told, and a retry that tells nothing
pub counted_so : (w : Whole) (o : Own) (m : Option Recovering) (who : Who) (b : Body) (j : joined o m ≡ w) (h : AreOne o m) (s : spends_by w who b ≡ true) → counted w who b ≡ told_now w (λ looks. reply_acts looks w who b) (spends_is w o m who b j h s)
unfolding spends_is
counted_so w o m who b j h s = counted_in w who b (spends_is w o m who b j h s).before (spends_is w o m who b j h s).held

pub again_so : (w : Whole) (s : is_spent_now w ≡ true) → w ≡ told_now w (λ looks. recovery_acts looks w) (again_is w s)
unfolding again_is
again_so w s = ap (λ (v : Option Recovery). as_now w (with_recovery v w.sequencer)) (again_is w s).held
