-- What no answer changes of an own epoch.
use Rattle.std.proofs.Common.{◌≡◌, ℕ, Bool, true, false, ◌==◌, nat_lt, Option, Some, None, if◌then◌else◌, refl, ap, ◌∙◌}
use Rattle.ld_table.specs.Table.{find}
use Rattle.ld_table.specs.Words.{is_in}
use Rattle.ld_ids.specs.Choice.{nodes_of}
use Rattle.ld_lsn.specs.Number.{epoch_of, home_epoch}
use Rattle.ld_msg.specs.declared.msg.Body.{Body}
use Rattle.ld_msg.specs.declared.msg.Body.TheVariants as bodies
use Rattle.ld_msg.specs.Sequencer.{Sequencer, Append, Acts, does_nothing, by_reply, on_reply, unless_preempted, acks_append}
use Rattle.ld_sequencer.specs.Looks.{shows}
use Rattle.ld_sequencer.specs.Own.{Own, IsKept, Does, sequencer_of, spec_of, answered}
use Rattle.ld_sequencer.specs.declared.own.Learnt.{Learnt}
use Rattle.ld_sequencer.proofs.Replies.{quiet_reply, heard_does, heard_sent, stays}

abbrev alone : Own → Acts
alone o = does_nothing (sequencer_of o)

lce_if : (o : Own) (c : Bool) (a d : Acts) → a.sequencer.lce ≡ o.lce → d.sequencer.lce ≡ o.lce → (if c then a else d).sequencer.lce ≡ o.lce
lce_if o true a d h k = h
lce_if o false a d h k = k

lce_acks : (o : Own) (y n : ℕ) (w : Option Append) → (acks_append (alone o) y n w).sequencer.lce ≡ o.lce
lce_acks o y n None = refl
lce_acks o y n (Some p) = refl

lce_by : (o : Own) (y : ℕ) (b : Body) → (by_reply (shows (spec_of o)) (alone o) y b).sequencer.lce ≡ o.lce
lce_by o y (bodies.Stored n) = lce_if o (epoch_of n == o.row.epoch) _ (alone o) (lce_if o (is_in y (nodes_of (spec_of o))) _ _ (lce_acks o y n (find n o.row.appends)) refl) refl
lce_by o y (bodies.SealedHere n k) = lce_if o (nat_lt o.row.epoch k) _ _ refl refl
lce_by o y (bodies.LostHere n round generation end) = lce_if o (home_epoch n == o.row.epoch) _ _ refl refl
lce_by o y (bodies.CleanHere n z) = lce_if o (home_epoch n == o.row.epoch) _ _ refl refl
lce_by o y _ = refl

lce_unless : (o : Own) (y : ℕ) (b : Body) (p : Option ℕ) → (unless_preempted p (by_reply (shows (spec_of o)) (alone o) y b) (alone o)).sequencer.lce ≡ o.lce
lce_unless o y b None = lce_by o y b
lce_unless o y b (Some k) = refl

reply_lce : (o : Own) (y : ℕ) (b : Body) → (answered o y b).sequencer.lce ≡ o.lce
unfolding on_reply
reply_lce o y b = lce_unless o y b o.preempted

pub kept_by : (o p : Own) (l : Learnt) (y : ℕ) (b : Body) → Does o p l (answered o y b) → IsKept o p
kept_by o p l y b d = record {
  origin = d.now.origin;
  spec = d.now.spec;
  epoch = ap (λ (q : Sequencer). q.epoch) d.now.sequencer ∙ (quiet_reply o y b).epoch;
  lce = ap (λ (q : Sequencer). q.lce) d.now.sequencer ∙ reply_lce o y b;
}

pub kept_same : (o : Own) → IsKept o o
kept_same o = record { origin = refl; spec = refl; epoch = refl; lce = refl }

pub ruleset kept_rules = (heard_does, heard_sent, stays, kept_by, kept_same)
