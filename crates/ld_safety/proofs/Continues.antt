-- A reply and a retry leave a sequencer's log, epoch and numbers as they are.
use Rattle.std.proofs.Common.{◌≡◌, ℕ, ◌+◌, refl, Bool, false, List, arith}
use Rattle.ld_lsn.specs.Number.{numbered}
use Rattle.ld_ids.specs.declared.set.Spec.{Spec}
use Rattle.ld_config.specs.declared.config.Config.{Config}
use Rattle.ld_msg.specs.declared.msg.Summary.{Summary}
use Rattle.ld_msg.specs.declared.msg.Body.{Body}
use Rattle.ld_msg.specs.Register.{Register, View}
use Rattle.ld_msg.specs.Sequencer.{Sequencer, Acts, stored_at, raised, on_reply, on_retry, called}
use Rattle.ld_machine.specs.Config.{looks_at}
use Rattle.ld_machine.specs.State.{State}
use Rattle.ld_safety.proofs.SequencerSteps.{Closing, Acting, Retrying, gone_of, replied, retried}
use Rattle.ld_safety.proofs.Appends.{Continues, RowOf, acks_continue, raised_row, raised_length}

pub stays_same : (q : Sequencer) → RowOf q → Continues q q
stays_same q r = record { log = refl; epoch = refl; count = refl; row = r }

-- a close changes nothing of these
closing_continues : (r : Register) (looks : ℕ → View) (q : Sequencer) (a : Acts) (e : ℕ) (y : Summary) (short : Bool) → Continues q a.sequencer → Closing r looks a e y short (λ k. Continues q k.acts.sequencer)
closing_continues r looks q a e y short c = record {
  granted = λ n h o g. record { log = c.log; epoch = c.epoch; count = c.count; row = c.row };
  passed = λ l. record { log = c.log; epoch = c.epoch; count = c.count; row = c.row };
  behind = λ b l. record { log = c.log; epoch = c.epoch; count = c.count; row = c.row };
  overtaken = λ h o. record { log = c.log; epoch = c.epoch; count = c.count; row = c.row };
  failed = λ n g. c;
}

raised_continues : (s : Spec) (q : Sequencer) → RowOf q → Continues q (record q { appends = raised s q.appends })
raised_continues s q r = record { log = refl; epoch = refl; count = let l = raised_length s q.appends in omega arith; row = raised_row s (numbered q.epoch (q.lng + 1)) q.appends r }

module _ (c : Config) (s : State) (q : Sequencer) (R : RowOf q) where
  same : Continues q q
  same = stays_same q R

  acting : (y : ℕ) (b : Body) → Acting c s.register (gone_of s q) q y b (λ k m. Continues q k.acts.sequencer)
  acting y b = record {
    quiet = same;
    sealed = λ n k f i l. record { log = refl; epoch = refl; count = refl; row = R };
    cleaned_own = λ n s f i h. record { log = refl; epoch = refl; count = refl; row = R };
    acks = λ n p f i h g m. acks_continue q.spec q n p (stored_at p y) R g;
    lost_own = λ n round g end f i h. record { log = refl; epoch = refl; count = refl; row = R };
    cleaned = λ v n s f e i h. record { log = refl; epoch = refl; count = refl; row = R };
    asks_more = λ w d asks f h a n u. record { log = refl; epoch = refl; count = refl; row = R };
    plans = λ w d loss f h p. record { log = refl; epoch = refl; count = refl; row = R };
    looks_closed = λ w d z f h u o. record { log = refl; epoch = refl; count = refl; row = R };
    looks_later = λ w d f h u o n. record { log = refl; epoch = refl; count = refl; row = R };
    stores_on = λ w g f h t. record { log = refl; epoch = refl; count = refl; row = R };
    closes_now = λ w g f h t. closing_continues s.register _ q _ w.epoch _ _ (record { log = refl; epoch = refl; count = refl; row = R });
    lost_closing = λ v z b n round g end f e i h k. record { log = refl; epoch = refl; count = refl; row = R };
  }

  retrying : Retrying c s.register (gone_of s q) q (λ k m. Continues q k.acts.sequencer)
  retrying = let up = raised_continues q.spec q R in record {
    quiet = same;
    appends = λ f. up;
    seals = λ v d f e h u. record { log = up.log; epoch = up.epoch; count = up.count; row = up.row };
    plans = λ v d f e h p. record { log = up.log; epoch = up.epoch; count = up.count; row = up.row };
    looks_closed = λ v d z f e h u o. record { log = up.log; epoch = up.epoch; count = up.count; row = up.row };
    looks_later = λ v d f e h u o n. record { log = up.log; epoch = up.epoch; count = up.count; row = up.row };
    stores_on = λ v g f e h t. record { log = up.log; epoch = up.epoch; count = up.count; row = up.row };
    closes_now = λ v g f e h t. closing_continues s.register _ q _ v.epoch _ _ (record { log = up.log; epoch = up.epoch; count = up.count; row = up.row });
    closes = λ v y b f e h. closing_continues s.register _ q _ v.epoch y b (record { log = up.log; epoch = up.epoch; count = up.count; row = up.row });
  }

  pub reply_continues : (name : List ℕ) (y : ℕ) (b : Body) → q.gone ≡ false → Continues q (called (looks_at c s.register q.log) s.register (on_reply (looks_at c s.register q.log) q y b) (on_reply (looks_at c s.register q.log) q y b).tries).acts.sequencer
  reply_continues name y b g = replied c s name q g y b (λ k m. Continues q k.acts.sequencer) (acting y b)

  pub retry_continues : q.gone ≡ false → Continues q (called (looks_at c s.register q.log) s.register (on_retry (looks_at c s.register q.log) q) (on_retry (looks_at c s.register q.log) q).tries).acts.sequencer
  retry_continues g = retried c s q g (λ k m. Continues q k.acts.sequencer) retrying
