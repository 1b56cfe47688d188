-- What a recovery holds stays in its bounds, and what it sends from there is messages.
use Rattle.std.proofs.Common.{◌≡◌, ◌≤◌, ◌<◌, ◌-◌, ◌^◌, ℕ, Bool, true, false, not, List, [], refl, sym, subst, cond, arith}
use Rattle.std.specs.Prelude.{◌||◌}
use Rattle.std.specs.List.{AllByRecursion}
use Rattle.std.proofs.lemmas.Bool.{cond_both}
use Rattle.ld_ids.specs.declared.set.Spec.{Spec}
use Rattle.ld_msg.specs.declared.msg.Entry.{Entry}
use Rattle.ld_msg.specs.declared.msg.Body.{Body}
use Rattle.ld_msg.specs.Bounds.{IsLng, Is64, IsEpoch, IsSummary, IsPage}
use Rattle.ld_msg.specs.Digest.{with_page, with_asks, with_lost, enough, is_spent, plan}
use Rattle.ld_msg.specs.Sequencer as sequencer
use Rattle.ld_msg.specs.Sequencer.{Storing, settled_by, is_fully_ready, is_ready_short, summary_of, storing_of, planned, item_stores, takes_any, next_ask, next_try, next_wave, digest_asks}
use Rattle.ld_digest.specs.Gathering.{Gathering}
use Rattle.ld_recovery.specs.declared.stage.Stage.{Stage}
use Rattle.ld_recovery.specs.declared.stage.Stage.TheVariants.{Seals, Stores, Closes, Stopped}
use Rattle.ld_recovery.specs.Planning.{Plans, with_storing}
use Rattle.ld_recovery.specs.Stages.{shown, IsOf, closed_if_ready, settled, gathered, gathered_sends, with_loss, loss_stage, loss_sends, gathering_of, lossy_stage, lossy_sends, paged, page_stage, page_sends, retried_stage, retry_sends}
use Rattle.ld_sequencer_bounds.specs.Sequencers.{IsTold, IsStoring, IsStage, IsNamed, Posts}
use Rattle.ld_sequencer_bounds.proofs.Plans.{with_page_is, with_asks_is, with_lost_is, plan_is, settled_is}
use Rattle.ld_sequencer_bounds.proofs.Sends.{asks_are, next_ask_is, items_sent}

asked_is : (e : ℕ) (d : Gathering) → d.epoch ≡ e → AllByRecursion (IsTold e) d.told → AllByRecursion (IsTold e) (with_asks d.epoch d.told)
asked_is e d q a = subst (λ (n : ℕ). AllByRecursion (IsTold e) (with_asks n d.told)) (sym q) (with_asks_is e d.told a)

no_told_is : (e y : ℕ) → AllByRecursion (IsTold e) (with_lost y [])
unfolding with_lost
no_told_is e y = tt

module _ (e own : ℕ) (one : 1 ≤ e) (before : e < own) (most : own ≤ 2 ^ 32 - 2) where
  closing_is : (g : Storing) → IsStoring e g → IsSummary e (summary_of own g)
  closing_is g G = record { ballot = before; ballot_most = most; lng = G.lng; trim = G.trim; end = G.end; end_most = G.end_most }

  closed_is : (lost : List ℕ) (p : Plans) → IsStoring e p.storing → IsStage e (closed_if_ready own lost p)
  closed_is lost p G = cond_both (is_fully_ready p.spec p.storing || is_ready_short p.spec lost p.storing) (sequencer.Closes (summary_of own p.storing) (not (is_fully_ready p.spec p.storing))) (sequencer.Stores p.storing) (IsStage e) (λ t. closing_is p.storing G) (λ t. G)

  tried_is : (g : Storing) → IsStoring e g → IsStoring e (next_try g)
  tried_is g G = record { trim = G.trim; lng = G.lng; end = G.end; end_most = G.end_most; items = G.items }

  pub settling_is : (lost : List ℕ) (p : ℕ → Bool) (y : ℕ) (s : Stage) → IsStage e (shown s) → IsStage e (settled own lost p y s)
  settling_is lost p y (Seals d) h = h
  settling_is lost p y (Stores g) h = closed_is lost (with_storing g (settled_by p y g.storing)) (settled_is e p y g.storing h)
  settling_is lost p y (Closes z short) h = h
  settling_is lost p y Stopped h = tt

  pub retried_is : (spec : Spec) (lost : List ℕ) (s : Stage) → IsOf spec e own s → IsStage e (shown s) → IsStage e (retried_stage own lost s)
  retried_is spec lost (Seals d) o h = cond_both (is_spent d.spec d.told) (sequencer.Seals d.told) (sequencer.Seals (with_asks d.epoch d.told)) (IsStage e) (λ t. h) (λ t. asked_is e d o.1 h)
  retried_is spec lost (Stores p) o h = closed_is lost (with_storing p (next_try p.storing)) (tried_is p.storing h)
  retried_is spec lost (Closes y short) o h = h
  retried_is spec lost Stopped o h = tt

  own_is : IsEpoch own
  own_is = (omega (arith, one, before), most)

  module _ (spec : Spec) (named : IsNamed spec) where
    -- ---- retries ----

    pub retries_sent : (lost : List ℕ) (s : Stage) → IsOf spec e own s → IsStage e (shown s) → Posts own (retry_sends lost s)
    retries_sent lost (Seals d) o h = cond_both (is_spent d.spec d.told) [] (digest_asks (with_asks d.epoch d.told)) (Posts own) (λ t. tt) (λ t. asks_are own own_is e one before (with_asks d.epoch d.told) (asked_is e d o.1 h))
    retries_sent lost (Stores p) o h = subst (λ (x : Spec). Posts own (item_stores x lost p.storing.loss p.storing.lng (next_wave p.storing.wave) p.storing.items)) (sym o)
        (items_sent own own_is e one before spec lost p.storing.loss p.storing.lng (next_wave p.storing.wave) p.storing.items h.lng named.nodes h.items)
    retries_sent lost (Closes y short) o h = tt
    retries_sent lost Stopped o h = tt

    -- ---- plans ----

    planned_is : (loss : Bool) (d : Gathering) → d.epoch ≡ e → AllByRecursion (IsTold e) d.told → IsStoring e (storing_of (plan d.epoch loss d.told))
    planned_is loss d q a = subst (λ (n : ℕ). IsStoring e (storing_of (plan n loss d.told))) (sym q) (plan_is e loss d.told a)

    planned_sent : (lost : List ℕ) (loss : Bool) (d : Gathering) → d.spec ≡ spec → d.epoch ≡ e → AllByRecursion (IsTold e) d.told → Posts own (item_stores d.spec lost loss (plan d.epoch loss d.told).lng 0 (planned (plan d.epoch loss d.told).items))
    planned_sent lost loss d p q a =
        subst (λ (x : Spec). Posts own (item_stores x lost loss (plan d.epoch loss d.told).lng 0 (planned (plan d.epoch loss d.told).items))) (sym p)
        (items_sent own own_is e one before spec lost loss (plan d.epoch loss d.told).lng 0 (planned (plan d.epoch loss d.told).items) (planned_is loss d q a).lng named.nodes (planned_is loss d q a).items)

    gathered_is : (d : Gathering) → d.epoch ≡ e → AllByRecursion (IsTold e) d.told → IsStage e (gathered d)
    gathered_is d q a = cond_both (enough d.spec d.told) (sequencer.Stores (storing_of (plan d.epoch false d.told))) (sequencer.Seals d.told) (IsStage e) (λ t. planned_is false d q a) (λ t. a)

    gathered_sent : (lost : List ℕ) (d : Gathering) (asks : List (ℕ × Body)) → d.spec ≡ spec → d.epoch ≡ e → AllByRecursion (IsTold e) d.told → Posts own asks → Posts own (gathered_sends lost d asks)
    gathered_sent lost d asks p q a k = cond_both (enough d.spec d.told) (item_stores d.spec lost false (plan d.epoch false d.told).lng 0 (planned (plan d.epoch false d.told).items)) (cond (is_spent d.spec d.told) [] asks) (Posts own)
        (λ t. planned_sent lost false d p q a)
        (λ t. cond_both (is_spent d.spec d.told) [] asks (Posts own) (λ u. tt) (λ u. k))

    -- ---- nodes that are lost ----

    pub loss_is : (lost : List ℕ) (y : ℕ) (s : Stage) → IsOf spec e own s → IsStage e (shown s) → IsStage e (loss_stage spec e own lost y s)
    loss_is lost y (Seals d) o h = gathered_is (with_loss d y) o.1 (with_lost_is e y d.told h)
    loss_is lost y (Stores p) o h = closed_is lost p h
    loss_is lost y (Closes z short) o h = h
    loss_is lost y Stopped o h = gathered_is (with_loss (gathering_of spec e Stopped) y) refl (no_told_is e y)

    pub loss_sent : (lost : List ℕ) (y : ℕ) (s : Stage) → IsOf spec e own s → IsStage e (shown s) → Posts own (loss_sends spec e lost y s)
    loss_sent lost y (Seals d) o h = gathered_sent lost (with_loss d y) [] o.0 o.1 (with_lost_is e y d.told h) tt
    loss_sent lost y (Stores p) o h = tt
    loss_sent lost y (Closes z short) o h = tt
    loss_sent lost y Stopped o h = gathered_sent lost (with_loss (gathering_of spec e Stopped) y) [] refl refl (no_told_is e y) tt

    pub lossy_is : (s : Stage) → IsOf spec e own s → IsStage e (shown s) → IsStage e (lossy_stage (gathering_of spec e s))
    lossy_is (Seals d) o h = planned_is true d o.1 h
    lossy_is (Stores p) o h = planned_is true (gathering_of spec e (Stores p)) refl tt
    lossy_is (Closes z short) o h = planned_is true (gathering_of spec e (Closes z short)) refl tt
    lossy_is Stopped o h = planned_is true (gathering_of spec e Stopped) refl tt

    pub lossy_sent : (lost : List ℕ) (s : Stage) → IsOf spec e own s → IsStage e (shown s) → Posts own (lossy_sends lost (gathering_of spec e s))
    lossy_sent lost (Seals d) o h = planned_sent lost true d o.0 o.1 h
    lossy_sent lost (Stores p) o h = planned_sent lost true (gathering_of spec e (Stores p)) refl refl tt
    lossy_sent lost (Closes z short) o h = planned_sent lost true (gathering_of spec e (Closes z short)) refl refl tt
    lossy_sent lost Stopped o h = planned_sent lost true (gathering_of spec e Stopped) refl refl tt

    -- ---- pages ----

    module _ (y from upto trim lng : ℕ) (es : List Entry) (page : IsPage from upto es) (trim_is : Is64 trim) (lng_is : IsLng lng) where
      paged_is : (d : Gathering) → d.epoch ≡ e → AllByRecursion (IsTold e) d.told → AllByRecursion (IsTold e) (paged d y from upto trim lng es).told
      paged_is d q a = subst (λ (n : ℕ). AllByRecursion (IsTold e) (with_page n y from upto trim lng es d.told)) (sym q) (with_page_is e y from upto trim lng es page trim_is lng_is d.told a)

      pub page_is : (s : Stage) → IsOf spec e own s → IsStage e (shown s) → IsStage e (page_stage s y from upto trim lng es)
      page_is (Seals d) o h = cond_both (takes_any y from d.told) (gathered (paged d y from upto trim lng es)) (sequencer.Seals d.told) (IsStage e) (λ t. gathered_is (paged d y from upto trim lng es) o.1 (paged_is d o.1 h)) (λ t. h)
      page_is (Stores p) o h = h
      page_is (Closes z short) o h = h
      page_is Stopped o h = tt

      pub page_sent : (lost : List ℕ) (s : Stage) → IsOf spec e own s → IsStage e (shown s) → Posts own (page_sends lost s y from upto trim lng es)
      page_sent lost (Seals d) o h = let a = paged_is d o.1 h in
          cond_both (takes_any y from d.told) (gathered_sends lost (paged d y from upto trim lng es) (next_ask y (paged d y from upto trim lng es).told)) [] (Posts own)
          (λ t. gathered_sent lost (paged d y from upto trim lng es) (next_ask y (paged d y from upto trim lng es).told) o.0 o.1 a (next_ask_is own own_is e one before y (paged d y from upto trim lng es).told a)) (λ t. tt)
      page_sent lost (Stores p) o h = tt
      page_sent lost (Closes z short) o h = tt
      page_sent lost Stopped o h = tt
