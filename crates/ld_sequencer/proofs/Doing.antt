-- What the parts of a call have done is what the call does.
use Rattle.std.proofs.Common.{◌≡◌, ℕ, ◌+◌, ◌<◌, ◌≤◌, Bool, true, false, nat_lt, nat_le, List, [], ◌∷◌, ◌++◌, append-nil, Option, Some, None, is_some, if◌then◌else◌, refl, ap, sym, subst, ◌∙◌, arith}
use Rattle.std.proofs.lemmas.List.{append_assoc}
use Rattle.std.proofs.lemmas.Bool.Decides.{nat_tests}
use Rattle.ld_ids.specs.declared.set.Spec.{Spec}
use Rattle.ld_ids.specs.Choice.{nodes_of}
use Rattle.ld_lsn.specs.Number.{numbered}
use Rattle.ld_msg.specs.declared.msg.Summary.{Summary}
use Rattle.ld_msg.specs.declared.msg.Msg.{Msg}
use Rattle.ld_msg.specs.declared.msg.Who.TheVariants as whos
use Rattle.ld_msg.specs.declared.msg.Body.{Body}
use Rattle.ld_msg.specs.declared.msg.Body.TheVariants as bodies
use Rattle.ld_msg.specs.Network.{posted}
use Rattle.ld_msg.specs.Register.{View, Granted, Behind, Overtaken, Fails}
use Rattle.ld_msg.specs.Sequencer.{Sequencer, Stage, Seals, Stores, Closes, Acts, does_nothing, goes_on, after_close, preempt, acted_messages, release_messages, released_of, recovery_asks, to_each}
use Rattle.ld_recovery.specs.Recovering.{Recovering, messages, close_messages, Closing}
use Rattle.ld_recovery.proofs.Replies.{granted}
use Rattle.ld_sequencer.specs.Looks.{shows}
use Rattle.ld_sequencer.specs.Own.{Own, sequencer_of, sent_by, released_above, with_lce, preempted_as, listed}
use Rattle.ld_sequencer.specs.declared.close.Due.{Due}
use Rattle.ld_sequencer.specs.declared.fault.CloseFault.{CloseFault}
use Rattle.ld_sequencer.specs.declared.report.Report.{Report}
use Rattle.ld_sequencer.specs.Whole.{Whole, as_now, sent_as, joined, AreOne, closing_stage, closing_of, closed_acts, risen, Acted, asks_behind}
use Rattle.ld_recovery.proofs.Posting.{posted-append}
use Rattle.ld_sequencer.proofs.Serving.{sent_of, served}

-- ---- the released number stands still ----

pub irreflexive : (n : ℕ) → nat_lt n n ≡ false
irreflexive n = grind (arith, nat_tests)

pub same_quiet : (q r : Sequencer) → released_of q ≡ released_of r → release_messages q r ≡ []
same_quiet q r e = ap (λ (b : Bool). if b then to_each (bodies.Release (released_of r)) (nodes_of r.spec) else []) (ap (λ (n : ℕ). nat_lt n (released_of r)) e ∙ irreflexive (released_of r))

pub same_risen : (q r : Sequencer) → released_of q ≡ released_of r → [] ≡ risen q r
same_risen q r e = sym (ap (λ (b : Bool). if b then released_of r ∷ [] else []) (ap (λ (n : ℕ). nat_lt n (released_of r)) e ∙ irreflexive (released_of r)))

nothing_more : (w : Whole) (old : List Msg) (bs : List (ℕ × Body)) → bs ≡ [] → old ≡ old ++ sent_as w bs
nothing_more w old bs e = sym (ap (λ (cs : List (ℕ × Body)). old ++ sent_as w cs) e ∙ append-nil old)

-- ---- reports ----

abbrev pub report_of : Option ℕ → Option ℕ → Option ℕ → Option CloseFault → Option ℕ → Report
report_of acked closed preempted failed released = record { acked = acked; closed = closed; preempted = preempted; register = failed; released = released }

-- nothing was done
pub quiet_acted : (w : Whole) (r : Report) (old : List Msg) → r.acked ≡ None → r.closed ≡ None → r.preempted ≡ None → r.register ≡ None → r.released ≡ None → Acted w w r old old (does_nothing w.sequencer)
quiet_acted w r old a c p f e = record {
  now = refl;
  sent = nothing_more w old (acted_messages w.sequencer (does_nothing w.sequencer)) (ap (λ (m : List (ℕ × Body)). m ++ []) (same_quiet w.sequencer w.sequencer refl));
  acked = ap listed a;
  closed = ap listed c;
  preempted = ap listed p;
  failed = ap is_some f;
  released = ap listed e ∙ same_risen w.sequencer w.sequencer refl;
}

-- ---- it goes on to the next epoch ----

went_out : (o : Own) (m : Option Recovering) (next : Spec) (lce : ℕ) (old mid new : List Msg) → next.log ≡ o.row.spec.log → mid ≡ old ++ sent_by o (released_above (released_of (sequencer_of o)) (with_lce o lce))
    → new ≡ mid ++ asks_behind next o.row.epoch lce
    → new ≡ old ++ sent_as (joined o m) (acted_messages (joined o m).sequencer (goes_on (shows next) (does_nothing (joined o m).sequencer) lce))
went_out o m next lce old mid new l h k =
    let w = joined o m in
    let rs : List (ℕ × Body) = released_above (released_of (sequencer_of o)) (with_lce o lce) in
    let bs : List (ℕ × Body) = recovery_asks (shows next) w.sequencer lce in
    k ∙ (ap (λ (ms : List Msg). ms ++ asks_behind next o.row.epoch lce) h
    ∙ (ap (λ (n : ℕ). (old ++ sent_by o rs) ++ posted (whos.Sequencer o.row.epoch) n bs) l
    ∙ (append_assoc old (sent_by o rs) (sent_as w bs)
    ∙ ap (λ (ms : List Msg). old ++ ms) (sym (posted-append (whos.Sequencer o.row.epoch) o.row.spec.log rs bs) ∙ ap (λ (cs : List (ℕ × Body)). sent_as w (rs ++ cs)) (sym (append-nil bs))))))

pub go_sent : (w : Whole) (o p : Own) (m : Option Recovering) (next : Spec) (e lce : ℕ) (old mid new : List Msg) → joined o m ≡ w → p ≡ with_lce o lce → next.log ≡ w.sequencer.log → e ≡ (sequencer_of p).epoch
    → mid ≡ old ++ sent_by o (released_above (released_of (sequencer_of o)) (with_lce o lce)) → new ≡ mid ++ asks_behind next e lce
    → new ≡ old ++ sent_as w (acted_messages w.sequencer (goes_on (shows next) (does_nothing w.sequencer) lce))
go_sent w o p m next e lce old mid new j k l b h i =
    let b' : e ≡ o.row.epoch = b ∙ ap (λ (x : Own). x.row.epoch) k in
    let i' = i ∙ ap (λ (n : ℕ). mid ++ asks_behind next n lce) b' in
    let l' : next.log ≡ o.row.spec.log = l ∙ sym (ap (λ (x : Whole). x.sequencer.log) j) in
    went_out o m next lce old mid new l' h i' ∙ ap (λ (x : Whole). old ++ sent_as x (acted_messages x.sequencer (goes_on (shows next) (does_nothing x.sequencer) lce))) j

abbrev pub onward : (ℕ → View) → Whole → ℕ → Acts
onward looks w lce = goes_on looks (does_nothing w.sequencer) lce

-- the epoch was closed by another sequencer
pub gone_acted : (looks : ℕ → View) (w n : Whole) (o : Own) (m : Option Recovering) (e lce before : ℕ) (y : Summary) (released : Option ℕ) (old new : List Msg) → lce < w.sequencer.epoch → before ≡ released_of w.sequencer
    → n ≡ as_now w (onward looks w lce).sequencer → new ≡ old ++ sent_as w (acted_messages w.sequencer (onward looks w lce))
    → listed released ≡ (if nat_lt before (released_of n.sequencer) then released_of n.sequencer ∷ [] else [])
    → Acted w n (report_of None None None None released) old new (closed_acts looks w e y (Behind lce))
unfolding after_close
gone_acted looks w n o m e lce before y released old new l b h k r =
    let t : nat_le w.sequencer.epoch lce ≡ false = grind (arith, nat_tests) in
    let f : (if nat_le w.sequencer.epoch lce then preempt (does_nothing w.sequencer) (lce + 1) else onward looks w lce) ≡ onward looks w lce = ap (λ (c : Bool). if c then preempt (does_nothing w.sequencer) (lce + 1) else onward looks w lce) t in
    subst (Acted w n (report_of None None None None released) old new) (sym f) (record {
      now = h;
      sent = k;
      acked = refl;
      closed = refl;
      preempted = refl;
      failed = refl;
      released = r ∙ (ap (λ (x : Whole). if nat_lt before (released_of x.sequencer) then released_of x.sequencer ∷ [] else []) h
          ∙ ap (λ (x : ℕ). if nat_lt x (released_of (onward looks w lce).sequencer) then released_of (onward looks w lce).sequencer ∷ [] else []) b);
    })

-- it is preempted
pub gives_way : (w n : Whole) (o : Own) (m : Option Recovering) (k : ℕ) (old : List Msg) → joined o m ≡ w → n ≡ joined (preempted_as o k) m
    → Acted w n (report_of None None (Some k) None None) old old (preempt (does_nothing w.sequencer) k)
gives_way w n o m k old j h =
    let q = preempt (does_nothing w.sequencer) k in record {
      now = h ∙ ap (λ (x : Whole). as_now x (preempt (does_nothing x.sequencer) k).sequencer) j;
      sent = nothing_more w old (acted_messages w.sequencer q) (ap (λ (ms : List (ℕ × Body)). ms ++ []) (same_quiet w.sequencer q.sequencer refl));
      acked = refl;
      closed = refl;
      preempted = refl;
      failed = refl;
      released = same_risen w.sequencer q.sequencer refl;
    }

pub late_acted : (looks : ℕ → View) (w n : Whole) (e lce : ℕ) (y : Summary) (r : Report) (old : List Msg) → w.sequencer.epoch ≤ lce → Acted w n r old old (preempt (does_nothing w.sequencer) (lce + 1)) → Acted w n r old old (closed_acts looks w e y (Behind lce))
unfolding after_close
late_acted looks w n e lce y r old l h =
    let t : nat_le w.sequencer.epoch lce ≡ true = grind (arith, nat_tests) in
    let q = preempt (does_nothing w.sequencer) (lce + 1) in
    let f : (if nat_le w.sequencer.epoch lce then q else onward looks w lce) ≡ q = ap (λ (c : Bool). if c then q else onward looks w lce) t in
    subst (Acted w n r old old) (sym f) h

pub overtaken_acted : (looks : ℕ → View) (w n : Whole) (e k : ℕ) (y : Summary) (r : Report) (old : List Msg) → Acted w n r old old (preempt (does_nothing w.sequencer) k) → Acted w n r old old (closed_acts looks w e y (Overtaken k))
unfolding after_close
overtaken_acted looks w n e k y r old h = h

-- the register failed
pub failed_acted : (looks : ℕ → View) (w : Whole) (e : ℕ) (y : Summary) (f : CloseFault) (old : List Msg) → Acted w w (report_of None None None (Some f) None) old old (closed_acts looks w e y Fails)
unfolding after_close
failed_acted looks w e y f old = record {
  now = refl;
  sent = nothing_more w old (acted_messages w.sequencer (does_nothing w.sequencer)) (ap (λ (m : List (ℕ × Body)). m ++ []) (same_quiet w.sequencer w.sequencer refl));
  acked = refl;
  closed = refl;
  preempted = refl;
  failed = refl;
  released = same_risen w.sequencer w.sequencer refl;
}

-- ---- a close is made ----

abbrev is_due : ℕ → Summary → Bool → Due
is_due n z short = record { epoch = n; summary = z; short = short }

closing_if : (n : ℕ) (t : Stage) (u : Due) → closing_stage n t ≡ Some u → (n ≡ u.epoch) × (t ≡ Closes u.summary u.short)
closing_if n (Seals d) u h = absurd cc
closing_if n (Stores g) u h = absurd cc
closing_if n (Closes z short) u h = let k : is_due n z short ≡ u = cc in (ap (λ (p : Due). p.epoch) k, ap (λ (p : Due). Closes p.summary p.short) k)

closing_held : (o : Own) (m : Option Recovering) (r : Recovering) (w : Whole) (u : Due) → joined o m ≡ w → m ≡ Some r → closing_of w ≡ Some u → (r.recovery.epoch ≡ u.epoch) × (r.recovery.stage ≡ Closes u.summary u.short)
closing_held o m r w u j k c = closing_if r.recovery.epoch r.recovery.stage u (ap (λ (x : Option Recovering). closing_of (joined o x)) (sym k) ∙ (ap closing_of j ∙ c))

pub is_closing : (o : Own) (m : Option Recovering) (r : Recovering) (w : Whole) (u : Due) → joined o m ≡ w → AreOne o m → m ≡ Some r → closing_of w ≡ Some u → Closing r u.summary u.short
is_closing o m r w u j h k c = ((served o m r k h).going, (closing_held o m r w u j k c).1)

none_is_some : (p : Option Due) (x : Due) → p ≡ None → p ≡ Some x → ⊥
none_is_some None x h k = absurd cc
none_is_some (Some z) x h k = absurd cc

pub is_held : (o : Own) (m : Option Recovering) (w : Whole) (u : Due) → joined o m ≡ w → m ≡ None → closing_of w ≡ Some u → ⊥
is_held o m w u j k c = none_is_some (closing_of (joined o None)) u refl (ap (λ (x : Option Recovering). closing_of (joined o x)) (sym k) ∙ (ap closing_of j ∙ c))

made_out : (looks : ℕ → View) (o : Own) (r : Recovering) (e : ℕ) (y : Summary) (old mid new : List Msg) → mid ≡ old ++ sent_as (joined o (Some r)) (to_each (bodies.Clean e y) (nodes_of r.recovery.spec))
    → new ≡ mid ++ sent_as (joined o (Some r)) (acted_messages (joined o (Some r)).sequencer (onward looks (joined o (Some r)) e))
    → new ≡ old ++ sent_as (joined o (Some r)) (acted_messages (joined o (Some r)).sequencer (closed_acts looks (joined o (Some r)) e y Granted))
unfolding after_close
made_out looks o r e y old mid new h k =
    let w = joined o (Some r) in
    let cs : List (ℕ × Body) = to_each (bodies.Clean e y) (nodes_of r.recovery.spec) in
    let bs : List (ℕ × Body) = acted_messages w.sequencer (onward looks w e) in
    k ∙ (ap (λ (ms : List Msg). ms ++ sent_as w bs) h ∙ (append_assoc old (sent_as w cs) (sent_as w bs) ∙ ap (λ (ms : List Msg). old ++ ms) (sym (posted-append (whos.Sequencer o.row.epoch) o.row.spec.log cs bs))))

pub made_acted : (looks : ℕ → View) (w n : Whole) (o : Own) (m : Option Recovering) (r : Recovering) (u : Due) (before end : ℕ) (released : Option ℕ) (old mid new : List Msg) → joined o m ≡ w → AreOne o m → m ≡ Some r → closing_of w ≡ Some u
    → before ≡ released_of w.sequencer → end ≡ numbered u.epoch u.summary.end → mid ≡ old ++ close_messages r u.summary Granted
    → n ≡ as_now (joined o None) (onward looks (joined o None) u.epoch).sequencer → new ≡ mid ++ sent_as (joined o None) (acted_messages (joined o None).sequencer (onward looks (joined o None) u.epoch))
    → listed released ≡ (if nat_lt before (released_of n.sequencer) then released_of n.sequencer ∷ [] else [])
    → Acted w n (report_of None (Some end) None None released) old new (closed_acts looks w u.epoch u.summary Granted)
unfolding after_close
made_acted looks w n o m r u before end released old mid new j h k c b f g i s l =
    let x : r.recovery.epoch ≡ u.epoch = (closing_held o m r w u j k c).0 in
    let z : joined o (Some r) ≡ w = ap (joined o) (sym k) ∙ j in
    let sv = served o m r k h in
    let told : mid ≡ old ++ sent_as (joined o (Some r)) (to_each (bodies.Clean u.epoch u.summary) (nodes_of r.recovery.spec)) =
    g ∙ ap (λ (ms : List Msg). old ++ ms) (granted r u.summary ∙ (ap (λ (z : ℕ). messages r (to_each (bodies.Clean z u.summary) (nodes_of r.recovery.spec))) x
    ∙ sent_of o (Some r) r (to_each (bodies.Clean u.epoch u.summary) (nodes_of r.recovery.spec)) sv)) in
    let there : n ≡ as_now w (closed_acts looks w u.epoch u.summary Granted).sequencer = i ∙ ap (λ (q : Whole). as_now q (closed_acts looks q u.epoch u.summary Granted).sequencer) z in
    record {
      now = there;
      sent = made_out looks o r u.epoch u.summary old mid new told s ∙ ap (λ (q : Whole). old ++ sent_as q (acted_messages q.sequencer (closed_acts looks q u.epoch u.summary Granted))) z;
      acked = refl;
      closed = ap (λ (z : ℕ). z ∷ []) f;
      preempted = refl;
      failed = refl;
      released = l ∙ (ap (λ (q : Whole). if nat_lt before (released_of q.sequencer) then released_of q.sequencer ∷ [] else []) there
          ∙ ap (λ (q : ℕ). if nat_lt q (released_of (onward looks w u.epoch).sequencer) then released_of (onward looks w u.epoch).sequencer ∷ [] else []) b);
    }
