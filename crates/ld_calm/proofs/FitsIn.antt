-- What is needed of a reply and of a retry, in a state of a run, by what stays: pages, plans and what is recovered.
use Rattle.std.proofs.Common.{◌≡◌, ◌∙◌, ◌≤◌, ℕ, suc, ◌+◌, ◌*◌, refl, ap, sym, subst, Bool, true, false, ◌&&◌, ◌==◌, if◌then◌else◌, List, [], ◌∷◌, ◌++◌, length, map, filter_map, Option, Some, None, arith, length-append}
use Rattle.std.proofs.Math.Nat.{mul-le-mul_left}
use Rattle.std.specs.List.{cons_option}
use Rattle.ld_table.specs.Named.{find_named}
use Rattle.ld_table.specs.Words.{how_many, numbers_from}
use Rattle.ld_lsn.specs.Number.{epoch_of, numbered, last_esn}
use Rattle.ld_ids.specs.declared.set.Spec.{Spec}
use Rattle.ld_ids.specs.Choice.{nodes_of}
use Rattle.ld_config.specs.declared.config.Config.{Config}
use Rattle.ld_config.specs.Bounds.{IsInBounds}
use Rattle.ld_schedule.specs.declared.event.Event.TheVariants as events
use Rattle.ld_msg.specs.declared.msg.Who.TheVariants as whos
use Rattle.ld_msg.specs.declared.msg.Msg.{Msg}
use Rattle.ld_msg.specs.Digest.{Told, plan}
use Rattle.ld_msg.specs.Register.{lce_of}
use Rattle.ld_msg.specs.Sequencer.{Sequencer, Recovery, Storing, Seals, Stores}
use Rattle.ld_machine.specs.Config.{all_nodes, looks_at}
use Rattle.ld_machine.specs.Facts.{Happened}
use Rattle.ld_machine.specs.World.{World, In}
use Rattle.ld_machine.specs.Step as Step
use Rattle.ld_machine.specs.Calm.{Takes}
use Rattle.ld_safety.proofs.Lists.{how_many-yes, how_many-no}
use Rattle.ld_safety.proofs.Appends.{RowOf}
use Rattle.ld_safety.proofs.Base.{counts_of}
use Rattle.ld_safety.proofs.AlongSteps.{settlers}
use Rattle.ld_safety.proofs.Digests.{DigestSoFar}
use Rattle.ld_safety.proofs.Digesting.{InRecovery, RecoveryFine, StageFine}
use Rattle.ld_safety.proofs.DigestKept.{heard_digest}
use Rattle.ld_machine.specs.Calm.{numbers_given, is_trim_to, points_issued}
use Rattle.ld_calm.proofs.Lefts.{mapped}
use Rattle.ld_calm.proofs.Measure.{Ground, page_marks, given_in, point_in, point_of, points_of}
use Rattle.ld_calm.proofs.Tops.{digest_top, plan_most, numbers_length}
use Rattle.ld_calm.proofs.Places.{most_in, most_given, own, frozen}
use Rattle.ld_calm.proofs.Marking.{Marking, page_fits, some_node}
use Rattle.ld_calm.proofs.Deliveries.{Fits, FitsReply}
use Rattle.ld_calm.proofs.Others.{FitsRetry}
use Rattle.ld_calm.proofs.Stored.{AllStored, IsPlanned, StagePlanned}
use Rattle.ld_calm.proofs.Steady.{Steady}

-- ---- counts ----
pub given_less : (l e : ℕ) (qs : List (List ℕ × Sequencer)) → given_in l e qs ≤ numbers_given l qs
given_less l e [] = omega arith
given_less l e (q ∷ qs) = let ih : given_in l e qs ≤ numbers_given l qs = given_less l e qs in let h = here (q.1.log == l) (q.1.epoch == e) (q.1.lng + length q.1.appends) in omega arith where
  here : (t u : Bool) (k : ℕ) → (if t && u then k else 0) ≤ (if t then k else 0)
  here true true k = omega arith
  here true false k = omega arith
  here false u k = omega arith

points_few : (ns : List ℕ) (l : ℕ) (ms : List Msg) → length (points_of ns l ms) ≤ points_issued ns l ms
points_few [] l ms = omega arith
points_few (n ∷ ns) l ms = few ms where
  few : (ms : List Msg) → length (filter_map (point_in l n) ms) ≤ how_many (is_trim_to l n) ms
  few [] = omega arith
  few (m ∷ ms) = by_trim (is_trim_to l n m) refl (few ms) where
    one : (o : Option ℕ) (xs : List ℕ) → length (cons_option o xs) ≤ suc (length xs)
    one None xs = omega arith
    one (Some x) xs = omega arith

    by_trim : (t : Bool) → is_trim_to l n m ≡ t → length (filter_map (point_in l n) ms) ≤ how_many (is_trim_to l n) ms → length (cons_option (point_in l n m) (filter_map (point_in l n) ms)) ≤ how_many (is_trim_to l n) (m ∷ ms)
    by_trim true t h = let a = one (point_in l n m) (filter_map (point_in l n) ms) in omega (arith, how_many-yes (is_trim_to l n) m ms t)
    by_trim false t h = let q : point_in l n m ≡ None = ap (λ b. if b then point_of m.body else None) t in
        let e : length (cons_option (point_in l n m) (filter_map (point_in l n) ms)) ≡ length (filter_map (point_in l n) ms) = ap (λ o. length (cons_option o (filter_map (point_in l n) ms))) q in omega (arith, how_many-no (is_trim_to l n) m ms t)

module _ (c : Config) (hs : List Happened) (w : World) (b : IsInBounds c) (M : Marking c hs w) where
  -- a plan of a digest of such entries has at most one item more than numbers were given
  plan_few : (l e k : ℕ) (d : List Told) (loss : Bool) → (s : Spec) → DigestSoFar hs w.made w.state.network.sent s l e k d → length (plan e loss d).items ≤ numbers_given l w.state.sequencers + 1
  plan_few l e k d loss s D =
      let top = digest_top hs w.made l e (most_in l e w.state.sequencers) (own c hs w M.0.0.0 M.0.0.1.1 (some_node c b) l e) (frozen c hs w M.0.0.0 M.0.0.1.1 (some_node c b) l e) k d (λ t i. (D.told t i).frozen) in
      let p = plan_most e (most_in l e w.state.sequencers) loss d top in
      let m = most_given l e w.state.sequencers in let n = given_less l e w.state.sequencers in omega arith

  module _ (name : List ℕ) (q : Sequencer) (f : find_named name w.state.sequencers ≡ Some q) where
    recovery_fine : (v : Recovery) → q.recovery ≡ Some v → InRecovery c hs w.state.network.sent w.made w.state.register q.log q.epoch v
    recovery_fine v e = subst (RecoveryFine c hs w.state.network.sent w.made w.state.register q.log q.epoch) e (M.0.0.0.1.recoveries name q f)

    -- `Fits.next`, `Fits.row`
    pub recovery_next : (v : Recovery) → q.recovery ≡ Some v → v.epoch ≤ lce_of w.state.register q.log + 1
    recovery_next v e = (recovery_fine v e).next

    pub row_so : RowOf q
    row_so = (counts_of c hs w M.0.0.0.0.0 name q f).row

    module _ (g : Ground) (S : Steady c g w.state) where
      few_items : (k : ℕ) → k ≤ numbers_given q.log w.state.sequencers + 1 → (g.sizes q.log).nodes * k ≤ (g.sizes q.log).items
      few_items k h = let a : length (all_nodes c) * k ≤ length (all_nodes c) * (numbers_given q.log w.state.sequencers + 1) = mul-le-mul_left (length (all_nodes c)) h in
          let n : (g.sizes q.log).nodes * k ≡ length (all_nodes c) * k = ap (λ x. x * k) (S.size_nodes q.log) in let i = S.size_items q.log in omega arith

      -- `Fits.paged`
      pub paged_so : (e : ℕ) → (g.sizes q.log).nodes * length ((g.sizes q.log).marks e) ≤ (g.sizes q.log).pages
      paged_so e =
          let s = w.state in let l : ℕ = q.log in
          let a : length (page_marks c s l e) ≡ length (numbers_from (numbered e 1) (given_in l e s.sequencers + 1)) + length (map (λ t. t + 1) (points_of (all_nodes c) l s.network.sent) ++ numbered e last_esn ∷ [])
          = length-append (numbers_from (numbered e 1) (given_in l e s.sequencers + 1)) (map (λ t. t + 1) (points_of (all_nodes c) l s.network.sent) ++ numbered e last_esn ∷ []) in
          let d = length-append (map (λ t. t + 1) (points_of (all_nodes c) l s.network.sent)) (numbered e last_esn ∷ []) in
          let n = numbers_length (numbered e 1) (given_in l e s.sequencers + 1) in
          let m : length (map (λ (t : ℕ). t + 1) (points_of (all_nodes c) l s.network.sent)) ≡ length (points_of (all_nodes c) l s.network.sent) = mapped (λ t. t + 1) (points_of (all_nodes c) l s.network.sent) in
          let p = points_few (all_nodes c) l s.network.sent in let v = given_less l e s.sequencers in
          let k : length (all_nodes c) * length (page_marks c s l e) ≤ length (all_nodes c) * (numbers_given l s.sequencers + points_issued (all_nodes c) l s.network.sent + 2) = mul-le-mul_left (length (all_nodes c)) (omega arith) in
          let x : (g.sizes l).nodes * length ((g.sizes l).marks e) ≡ length (all_nodes c) * length (page_marks c s l e) = (λ i. S.size_nodes l i * length (S.pages l e i)) in
          let y = S.size_pages l in omega arith

      -- `FitsRetry.plan_fits`
      pub retry_plan : (v : Recovery) (d : List Told) → q.recovery ≡ Some v → v.stage ≡ Seals d → (g.sizes q.log).nodes * length (plan v.epoch true d).items ≤ (g.sizes q.log).items
      retry_plan v d e t = few_items (length (plan v.epoch true d).items) (plan_few q.log v.epoch q.epoch d true v.spec (subst (StageFine c hs w.state.network.sent w.made w.state.register v.spec q.log q.epoch v.epoch) t (recovery_fine v e).stage))

      -- all of `FitsReply`, of a message that was sent to it
      pub reply_fits : q.gone ≡ false → (m : Msg) → In m w.state.network.sent → m.to ≡ whos.Sequencer q.epoch → m.log ≡ q.log → FitsReply (g.sizes q.log) q (Step.sender_node m.from) m.body
      reply_fits there m i t lg = record {
        page = λ from upto trim lng es h. let p = page_fits c hs w b M m i q.epoch t from upto trim lng es h in
            (p.0, subst (λ ms. In upto ms) (sym (S.pages q.log (epoch_of from))) (subst (λ l. In upto (page_marks c w.state l (epoch_of from))) lg p.1));
        plans = λ v d loss H. few_items (length (plan v.epoch loss d).items) (plan_few q.log v.epoch q.epoch d loss v.spec
            (heard_digest c w.state (Takes (events.Flow 0)) hs w.made M.0.0.0.1.said M.0.0.0.0.0.0.1.epochs M.0.0.0.1.shows M.0.0.0.1.bounded M.0.0.0.1.below M.0.0.0.1.recoveries M.0.0.0.1.stored_from M.0.0.0.1.each (settlers c hs w (Takes (events.Flow 0)) M.0.0.0.0.0 M.0.0.0.0.1 M.0.0.0.1) name q (record { named = f; there = there }) m i t lg v d H).stage);
      }

      -- a set has at most as many nodes as items may be stored
      pub nodes_so : (g.sizes q.log).nodes ≤ (g.sizes q.log).items
      nodes_so = let a : (g.sizes q.log).nodes * 1 ≤ (g.sizes q.log).items = few_items 1 (omega arith) in omega arith

      -- `FitsRetry.stored_fits`
      pub stored_so : AllStored w.made w.state.sequencers → (v : Recovery) (x : Storing) → q.recovery ≡ Some v → v.stage ≡ Stores x → (g.sizes q.log).nodes * length x.items ≤ (g.sizes q.log).items
      stored_so A v x e t = let z = subst (StagePlanned w.made q.log q.epoch v.epoch) t (subst (IsPlanned w.made q.log q.epoch) e (A name q f)) in
          let p = M.0.0.0.1.plans q.log v.epoch q.epoch z.0 z.1 in
          let k = plan_few q.log v.epoch q.epoch z.0.digest z.0.loss p.spec p.digest in few_items (length x.items) (let y = z.2 in omega arith)

      -- all of `FitsRetry`, but for how many nodes a digest tells of
      pub retry_fits : AllStored w.made w.state.sequencers → ((v : Recovery) → q.recovery ≡ Some v → length (nodes_of v.spec) ≤ (g.sizes q.log).nodes) → FitsRetry (g.sizes q.log) q
      retry_fits A sets = record {
        digest_few = λ v d e t. let D = subst (StageFine c hs w.state.network.sent w.made w.state.register v.spec q.log q.epoch v.epoch) t (recovery_fine v e).stage in
            let n : length d ≡ length (nodes_of v.spec) = sym (mapped (λ (x : Told). x.node) d) ∙ ap length D.nodes in let m = sets v e in omega arith;
        plan_fits = retry_plan;
        stored_fits = stored_so A;
        nodes_fit = nodes_so;
      }

      -- all of `Fits`, but for how many nodes sets have
      pub fits_by : length (nodes_of q.spec) ≤ (g.sizes q.log).nodes → ((e : ℕ) → length (nodes_of (looks_at c w.state.register q.log e).spec) ≤ (g.sizes q.log).nodes) → ((v : Recovery) → q.recovery ≡ Some v → length (nodes_of v.spec) ≤ (g.sizes q.log).nodes)
          → Fits c w.state (g.sizes q.log) q
      fits_by own_few looked sets = record { own_nodes = own_few; looked = looked; recovered = sets; paged = paged_so; next = recovery_next; row = row_so }
