-- The retry of a log's last sequencer puts all under way that it waits for.
use Rattle.std.proofs.Common.{◌≡◌, ◌∙◌, ◌≤◌, ℕ, refl, ap, sym, Bool, true, false, not, ◌==◌, if◌then◌else◌, List, ◌++◌, Option, Some, None, arith}
use Rattle.std.proofs.lemmas.Bool.{and_parts}
use Rattle.ld_config.specs.declared.config.Config.{Config}
use Rattle.ld_msg.specs.declared.msg.Summary.{Summary}
use Rattle.ld_msg.specs.declared.msg.Msg.{Msg}
use Rattle.ld_msg.specs.declared.msg.Body.{Body}
use Rattle.ld_msg.specs.Register.{Register, epochs_of, lce_of}
use Rattle.ld_msg.specs.Digest.{Told, with_asks, is_spent}
use Rattle.ld_msg.specs.Sequencer.{Sequencer, Recovery, Stage, Seals, Stores, Closes, Storing, Acts, Called, called, does_nothing, becomes, with_stage, append_stores, raised, next_wave, next_try, item_stores, summary_of, retries_appends, retries_stage, retries_recovery, on_retry, unless_preempted, looks_now, by_look, with_stores, asks_again, try_close, is_ready, is_ready_short}
use Rattle.ld_machine.specs.Config.{looks_at}
use Rattle.ld_safety.proofs.Lists.{not_none, In_left, In_right}
use Rattle.ld_safety.proofs.Specs.{SpecFine}
use Rattle.ld_safety.proofs.SequencerSteps.{Closing, closing, is_closing, is_short, closing_acts, retry_acts, retry_stores}
use Rattle.ld_served.proofs.Free.{Retries}
use Rattle.ld_served.proofs.Going.{Goes}
use Rattle.ld_served.proofs.Onward.{AllGo, asked_all, begins_goes, seals_goes, plan_goes, stores_goes, appends_go}

module _ (c : Config) (r : Register) (q : Sequencer) (M : Msg → Type 0) where
  -- where the close that is tried doesn't fail, and what is sent is under way, so is all that it waits for
  abbrev pub Out : Called → Type 0
  Out k = k.acts.failed ≡ false → AllGo M q.log q.epoch k.acts.asks → AllGo M q.log q.epoch k.acts.stores → Goes M k.acts.sequencer

  go_left : (xs ys : List (ℕ × Body)) → AllGo M q.log q.epoch (xs ++ ys) → AllGo M q.log q.epoch xs
  go_left xs ys h x i = h x (In_left x xs ys i)

  go_right : (xs ys : List (ℕ × Body)) → AllGo M q.log q.epoch (xs ++ ys) → AllGo M q.log q.epoch ys
  go_right xs ys h x i = h x (In_right x xs ys i)

  -- with its appends sent again
  abbrev again : Sequencer
  again = record q { appends = raised q.spec q.appends }

  abbrev sent : List (ℕ × Body)
  sent = append_stores q.spec q.lost q.lng (raised q.spec q.appends)

  calls : Acts → Called
  calls a = called (looks_at c r q.log) r a a.tries

  module _ (F : SpecFine q.spec) (R : Retries c r q) where
    -- a close that is tried: the next epoch is recovered
    close_out : (v : Recovery) (s : Stage) (y : Summary) (short : Bool) (more : List (ℕ × Body)) → (short ≡ true → v.epoch ≤ lce_of r q.log)
        → Closing r (looks_at c r q.log) (try_close (record (retries_appends (does_nothing q)) { sequencer = record again { recovery = Some (record v { stage = s }) }; stores = more ++ sent }) v.epoch y short) v.epoch y short Out
    close_out v s y short more low = record {
      granted = λ n h o g f k w. begins_goes M again c r v.epoch k (appends_go M q F (go_right more sent w));
      passed = λ h f k w. absurd (let t = R.top in omega arith);
      behind = λ b h f k w. begins_goes M again c r (lce_of r q.log) k (appends_go M q F (go_right more sent w));
      overtaken = λ h o f k w. absurd (let p = and_parts short (not ((epochs_of r q.log).epoch == y.ballot)) o in let z = low p.0 in omega arith);
      failed = λ n g f k w. absurd cc;
    }

    module _ (fine : (v : Recovery) → q.recovery ≡ Some v → SpecFine v.spec) (v : Recovery) (e : q.recovery ≡ Some v) where
      seals_out : (d : List Told) → v.stage ≡ Seals d → Out (calls (retries_stage (looks_at c r q.log) (retries_appends (does_nothing q)) v (Seals d)))
      unfolding calls
      seals_out d g = by_spent (is_spent v.spec d) refl where
        by_summary : is_spent v.spec d ≡ true → (o : Option Summary) → (looks_at c r q.log v.epoch).summary ≡ o
            → Out (calls (with_stores (retries_appends (does_nothing q)).stores (by_look (looks_at c r q.log) (retry_acts q) v d o (looks_at c r q.log v.epoch).epoch)))
        by_summary u (Some z) o = λ f k w. begins_goes M again c r v.epoch k (appends_go M q F w)
        by_summary u None o = λ f k w. absurd (R.spent v d e g u o)

        by_spent : (t : Bool) → is_spent v.spec d ≡ t
            → Out (calls (if t then with_stores (retries_appends (does_nothing q)).stores (looks_now (looks_at c r q.log) (retry_acts q) v d) else asks_again (retries_appends (does_nothing q)) v (with_asks v.epoch d)))
        by_spent true t = by_summary t (looks_at c r q.log v.epoch).summary refl
        by_spent false t = λ f k w. seals_goes M again v (with_asks v.epoch d) (asked_all M again v.epoch (with_asks v.epoch d) k) (appends_go M q F w)

      stores_out : (g : Storing) → v.stage ≡ Stores g → Out (calls (retries_stage (looks_at c r q.log) (retries_appends (does_nothing q)) v (Stores g)))
      unfolding calls is_ready is_ready_short
      stores_out g h = by_test (is_closing v g) refl where
        by_test : (t : Bool) → is_closing v g ≡ t → Out (calls (if t then closing_acts (retry_stores q v g) v q.epoch g else becomes (retry_stores q v g) (with_stage (retry_stores q v g).sequencer v (Stores (next_try g)))))
        by_test true t = closing r (looks_at c r q.log) (closing_acts (retry_stores q v g) v q.epoch g) v.epoch (summary_of q.epoch g) (is_short v g) Out
            (close_out v (Closes (summary_of q.epoch g) (is_short v g)) (summary_of q.epoch g) (is_short v g) (item_stores v.spec v.lost g.loss g.lng (next_wave g.wave) g.items) (R.short v g e h t))
        by_test false t = λ f k w. stores_goes M again v (next_try g) t
            (plan_goes M again v (next_try g) (next_wave g.wave) (fine v e) (go_left (item_stores v.spec v.lost g.loss g.lng (next_wave g.wave) g.items) sent w)) (appends_go M q F (go_right (item_stores v.spec v.lost g.loss g.lng (next_wave g.wave) g.items) sent w))

      closes_out : (y : Summary) (short : Bool) → v.stage ≡ Closes y short → Out (calls (retries_stage (looks_at c r q.log) (retries_appends (does_nothing q)) v (Closes y short)))
      unfolding calls
      closes_out y short h = closing r (looks_at c r q.log) (try_close (retries_appends (does_nothing q)) v.epoch y short) v.epoch y short Out (record {
        granted = λ n i o g f k w. begins_goes M again c r v.epoch k (appends_go M q F w);
        passed = λ i f k w. absurd (let t = R.top in omega arith);
        behind = λ b i f k w. begins_goes M again c r (lce_of r q.log) k (appends_go M q F w);
        overtaken = λ i o f k w. absurd (let p = and_parts short (not ((epochs_of r q.log).epoch == y.ballot)) o in let z = R.closes v y e (h ∙ ap (λ b. Closes y b) p.0) in omega arith);
        failed = λ n g f k w. absurd cc;
      })

      by_stage : (g : Stage) → v.stage ≡ g → Out (calls (retries_stage (looks_at c r q.log) (retries_appends (does_nothing q)) v g))
      unfolding calls
      by_stage (Seals d) g = seals_out d g
      by_stage (Stores z) g = stores_out z g
      by_stage (Closes y short) g = closes_out y short g

    pub retry_out : q.preempted ≡ None → ((v : Recovery) → q.recovery ≡ Some v → SpecFine v.spec) → Out (called (looks_at c r q.log) r (on_retry (looks_at c r q.log) q) (on_retry (looks_at c r q.log) q).tries)
    unfolding calls on_retry
    retry_out free fine = by_free q.preempted free where
      by_recovery : (o : Option Recovery) → q.recovery ≡ o → Out (calls (retries_recovery (looks_at c r q.log) (retries_appends (does_nothing q)) o))
      by_recovery None e = λ f k w. record {
        seals = λ v d h g. absurd (not_none (sym e ∙ h));
        stores = λ v g h i. absurd (not_none (sym e ∙ h));
        closes = λ v y short h g. not_none (sym e ∙ h);
        appends = appends_go M q F w;
      }
      by_recovery (Some v) e = by_stage fine v e v.stage refl

      by_free : (o : Option ℕ) → o ≡ None → Out (calls (unless_preempted o (retries_recovery (looks_at c r q.log) (retries_appends (does_nothing q)) q.recovery) (does_nothing q)))
      by_free None f = by_recovery q.recovery refl
      by_free (Some k) f = absurd (not_none (sym f))
