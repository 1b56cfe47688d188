-- A message that is not for the recovery: what it does is for the own epoch.
use Rattle.std.proofs.Common.{◌≡◌, ◌⊎◌, inl, inr, ℕ, Bool, true, false, not, ◌&&◌, nat_lt, List, [], ◌∷◌, ◌++◌, ◌+◌, Option, Some, None, is_some, if◌then◌else◌, refl, ap, sym, subst, ◌∙◌}
use Rattle.ld_msg.specs.declared.msg.Msg.{Msg}
use Rattle.ld_msg.specs.declared.msg.Who.{Who}
use Rattle.ld_msg.specs.declared.msg.Who.TheVariants as whos
use Rattle.ld_msg.specs.declared.msg.Body.{Body}
use Rattle.ld_msg.specs.declared.msg.Body.TheVariants as bodies
use Rattle.ld_msg.specs.Bounds.{Fits, IsNodeHere}
use Rattle.ld_msg.specs.Register.{View}
use Rattle.ld_msg.specs.Sequencer.{Sequencer, Recovery, Acts, does_nothing, by_reply, on_reply, unless_preempted, acted_messages, released_of, recovery_of}
use Rattle.ld_recovery.specs.Recovering.{Recovering, sender_of}
use Rattle.ld_sequencer.specs.declared.close.Due.{Due}
use Rattle.ld_sequencer.specs.declared.origin.Origin.{Origin}
use Rattle.ld_sequencer.specs.Looks.{shows}
use Rattle.ld_sequencer.specs.Own.{Own, IsKept, Does, sequencer_of, sent_by, answered, heard, listed}
use Rattle.ld_sequencer.specs.declared.own.Learnt.{Learnt}
use Rattle.ld_sequencer.specs.Whole.{Whole, as_now, joined, recovery_in, with_recovery, AreOne, attempts, closing_in, is_of_earlier, is_for_recovery, spends_by, reply_acts, Acted, IsFresh}
use Rattle.ld_sequencer.proofs.Parts.{in_whole, own_by, none_by, not_fresh}
use Rattle.ld_sequencer.proofs.Replies.{quiet_heard}
use Rattle.ld_sequencer.proofs.Serving.{one_on}
use Rattle.ld_sequencer.proofs.Doing.{report_of}
use Rattle.ld_sequencer.proofs.Hearing.{Onward, Ended, hears_in, is_there}

abbrev alone : Own → Acts
alone o = does_nothing (sequencer_of o)

abbrev beside : Own → Option Recovery → Acts
beside o v = does_nothing (with_recovery v (sequencer_of o))

pub own_one : (o p : Own) (m : Option Recovering) → AreOne o m → IsKept o p → AreOne p m
own_one o p m h k = one_on o p m k.origin k.spec k.epoch k.lce h

-- ---- messages that are no node's do nothing ----

stranger : (looks : ℕ → View) (a : Acts) (who to : Who) (b : Body) → Fits who to b → (IsNodeHere who → ⊥) → by_reply looks a 0 b ≡ a
stranger looks a who to (bodies.Stored n) h k = absurd (k h.0.0)
stranger looks a who to (bodies.SealedHere n e) h k = absurd (k h.0.0)
stranger looks a who to (bodies.LostHere n round generation end) h k = absurd (k h.0)
stranger looks a who to (bodies.CleanHere n y) h k = absurd (k h.0.0)
stranger looks a who to (bodies.TrimmedHere n t) h k = absurd (k h.0.0)
stranger looks a who to (bodies.DigestPage from upto trim lng es) h k = absurd (k h.0.0)
stranger looks a who to _ h k = refl

strange_if : (looks : ℕ → View) (q : Sequencer) (who to : Who) (b : Body) (p : Option ℕ) → Fits who to b → (IsNodeHere who → ⊥) → unless_preempted p (by_reply looks (does_nothing q) 0 b) (does_nothing q) ≡ does_nothing q
strange_if looks q who to b None h k = stranger looks (does_nothing q) who to b h k
strange_if looks q who to b (Some e) h k = refl

strange : (looks : ℕ → View) (q : Sequencer) (who to : Who) (b : Body) → Fits who to b → (IsNodeHere who → ⊥) → on_reply looks q 0 b ≡ does_nothing q
unfolding on_reply
strange looks q who to b h k = strange_if looks q who to b q.preempted h k

-- ---- a message for the own epoch ----

own_or : (looks others : ℕ → View) (o : Own) (v : Option Recovery) (y : ℕ) (b : Body) → (is_some v && is_of_earlier o.row.epoch b) ≡ false → by_reply looks (beside o v) y b ≡ in_whole v (by_reply others (alone o) y b)
own_or looks others o None y b h = none_by looks others o y b
own_or looks others o (Some v) y b h = own_by looks others o (Some v) y b h

own_unless : (looks others : ℕ → View) (o : Own) (v : Option Recovery) (y : ℕ) (b : Body) (p : Option ℕ) → (not (is_some p) && (is_some v && is_of_earlier o.row.epoch b)) ≡ false
    → unless_preempted p (by_reply looks (beside o v) y b) (beside o v) ≡ in_whole v (unless_preempted p (by_reply others (alone o) y b) (alone o))
own_unless looks others o v y b None h = own_or looks others o v y b h
own_unless looks others o v y b (Some k) h = refl

own_reply : (looks : ℕ → View) (o : Own) (m : Option Recovering) (y : ℕ) (b : Body) → is_for_recovery (joined o m) b ≡ false → on_reply looks (joined o m).sequencer y b ≡ in_whole (recovery_in m) (answered o y b)
unfolding on_reply
own_reply looks o m y b h = own_unless looks (shows o.row.spec) o (recovery_in m) y b o.preempted h

reply_own : (looks : ℕ → View) (o : Own) (m : Option Recovering) (who to : Who) (b : Body) → Fits who to b → is_for_recovery (joined o m) b ≡ false → reply_acts looks (joined o m) who b ≡ in_whole (recovery_in m) (heard o who b)
reply_own looks o m (whos.Node y) to b h k = own_reply looks o m y b k
reply_own looks o m (whos.Sequencer e) to b h k = strange looks (joined o m).sequencer (whos.Sequencer e) to b h (λ x. x)
reply_own looks o m (whos.Reader e) to b h k = strange looks (joined o m).sequencer (whos.Reader e) to b h (λ x. x)

own_there : (looks : ℕ → View) (o p : Own) (m : Option Recovering) (l : Learnt) (who to : Who) (b : Body) (before : ℕ) (released : Option ℕ) (old new : List Msg) → Fits who to b → is_for_recovery (joined o m) b ≡ false → Does o p l (heard o who b)
    → new ≡ old ++ sent_by o (acted_messages (sequencer_of o) (heard o who b)) → before ≡ released_of (joined o m).sequencer
    → listed released ≡ (if nat_lt before (released_of (joined p m).sequencer) then released_of (joined p m).sequencer ∷ [] else [])
    → Acted (joined o m) (joined p m) (report_of l.acked None l.preempted None released) old new (reply_acts looks (joined o m) who b)
own_there looks o p m l who to b before released old new h k d s bf r =
    let v = recovery_in m in
    let a = heard o who b in
    let now : joined p m ≡ as_now (joined o m) (with_recovery v a.sequencer) =
    ap (λ (x : Origin). record { origin = x; sequencer = with_recovery v (sequencer_of p) }) d.now.origin ∙ ap (λ (q : Sequencer). record { origin = o.origin; sequencer = with_recovery v q }) d.now.sequencer in
    subst (Acted (joined o m) (joined p m) (report_of l.acked None l.preempted None released) old new) (sym (reply_own looks o m who to b h k)) (record {
      now = now;
      sent = s;
      acked = d.acked;
      closed = sym (quiet_heard o who b).closed;
      preempted = d.preempted;
      failed = sym (quiet_heard o who b).failed;
      released = r ∙ (ap (λ (x : Whole). if nat_lt before (released_of x.sequencer) then released_of x.sequencer ∷ [] else []) now
          ∙ ap (λ (x : ℕ). if nat_lt x (released_of (with_recovery v a.sequencer)) then released_of (with_recovery v a.sequencer) ∷ [] else []) bf);
    })

pub own_acted : (looks : ℕ → View) (w : Whole) (o p : Own) (m : Option Recovering) (l : Learnt) (who to : Who) (b : Body) (f : Bool) (before : ℕ) (released : Option ℕ) (old new : List Msg) → joined o m ≡ w → Fits who to b → f ≡ is_for_recovery w b → f ≡ false → Does o p l (heard o who b)
    → new ≡ old ++ sent_by o (acted_messages (sequencer_of o) (heard o who b)) → before ≡ released_of w.sequencer
    → listed released ≡ (if nat_lt before (released_of (joined p m).sequencer) then released_of (joined p m).sequencer ∷ [] else [])
    → Acted w (joined p m) (report_of l.acked None l.preempted None released) old new (reply_acts looks w who b)
own_acted looks w o p m l who to b f before released old new j h e k d s bf r =
    subst (λ (x : Whole). Acted x (joined p m) (report_of l.acked None l.preempted None released) old new (reply_acts looks x who b)) j
    (own_there looks o p m l who to b before released old new h (ap (λ (x : Whole). is_for_recovery x b) j ∙ (sym e ∙ k)) d s (bf ∙ ap (λ (x : Whole). released_of x.sequencer) (sym j)) r)

-- ---- a close is tried where it is due only now ----

fresh_own : (looks : ℕ → View) (o : Own) (m : Option Recovering) (who to : Who) (b : Body) → Fits who to b → is_for_recovery (joined o m) b ≡ false → IsFresh (joined o m) (reply_acts looks (joined o m) who b)
fresh_own looks o m who to b h k = subst (IsFresh (joined o m)) (sym (reply_own looks o m who to b h k)) (record {
  due = (quiet_heard o who b).tries ∙ not_fresh (closing_in (recovery_in m));
  alone = inl (quiet_heard o who b).tries;
})

fresh_on : (looks : ℕ → View) (o : Own) (r : Recovering) (y : ℕ) (b : Body) → Onward o r y b → IsFresh (joined o (Some r)) (on_reply looks (joined o (Some r)).sequencer y b)
fresh_on looks o r y b p = let d = p.moves in let q = (joined o (Some r)).sequencer in subst (IsFresh (joined o (Some r))) (sym (p.same looks ∙ d.value)) (record {
  due = d.due;
  alone = elim d.quiet [
    | inl h ↦ inl h
    | inr h ↦ inr (
      Some d.now,
      ap (λ (bs : List (ℕ × Body)). record (does_nothing (with_recovery (Some d.now) q)) { tries = d.tries; asks = bs; stores = d.stores }) h.0
          ∙ ap (λ (bs : List (ℕ × Body)). record (does_nothing (with_recovery (Some d.now) q)) { tries = d.tries; stores = bs }) h.1,
    )
  ];
})

none_due : (c : Bool) (v : Recovery) → closing_in (Some v) ≡ None → closing_in (if c then Some v else None) ≡ None
none_due true v h = h
none_due false v h = refl

quiet_due : (p n : Option Due) → n ≡ None → [] ≡ (if is_some p then [] else attempts n)
quiet_due (Some x) n h = refl
quiet_due None n h = ap attempts (sym h)

fresh_end : (looks : ℕ → View) (o : Own) (r : Recovering) (y : ℕ) (b : Body) → Ended o r y b → IsFresh (joined o (Some r)) (on_reply looks (joined o (Some r)).sequencer y b)
fresh_end looks o r y b p = subst (IsFresh (joined o (Some r))) (sym (p.acts looks)) (record {
  due = quiet_due (closing_in (Some r.recovery)) (closing_in (recovery_of looks (joined o (Some r)).sequencer r.recovery.epoch)) (none_due (nat_lt (r.recovery.epoch + 1) o.row.epoch) _ refl);
  alone = inl refl;
})

fresh_both : (looks : ℕ → View) (o : Own) (r : Recovering) (y : ℕ) (b : Body) → Onward o r y b ⊎ Ended o r y b → IsFresh (joined o (Some r)) (on_reply looks (joined o (Some r)).sequencer y b)
fresh_both looks o r y b (inl p) = fresh_on looks o r y b p
fresh_both looks o r y b (inr p) = fresh_end looks o r y b p

fresh_in : (looks : ℕ → View) (o : Own) (m : Option Recovering) (who to : Who) (b : Body) (f : Bool) → AreOne o m → Fits who to b → is_for_recovery (joined o m) b ≡ f → spends_by (joined o m) who b ≡ false → IsFresh (joined o m) (reply_acts looks (joined o m) who b)
fresh_in looks o m who to b false h k e s = fresh_own looks o m who to b k e
fresh_in looks o (Some r) who to b true h k e s = fresh_both looks o r (sender_of who) b (hears_in (joined o (Some r)) o (Some r) r who b refl h refl e s)
fresh_in looks o None who to b true h k e s = absurd (is_there o None (joined o None) b refl refl e)

pub is_fresh : (looks : ℕ → View) (w : Whole) (o : Own) (m : Option Recovering) (who to : Who) (b : Body) → joined o m ≡ w → AreOne o m → Fits who to b → spends_by w who b ≡ false → IsFresh w (reply_acts looks w who b)
is_fresh looks w o m who to b j h k s = subst (λ (x : Whole). IsFresh x (reply_acts looks x who b)) j (fresh_in looks o m who to b (is_for_recovery (joined o m) b) h k refl (ap (λ (x : Whole). spends_by x who b) j ∙ s))
