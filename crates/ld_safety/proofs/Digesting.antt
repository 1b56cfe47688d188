-- A sequencer in recovery has in its digest all that its pages showed, and plans an epoch only once.
use Rattle.std.proofs.Common.{◌≡◌, ◌∙◌, ◌⊎◌, ◌≤◌, ◌<◌, ℕ, ◌+◌, inl, inr, refl, ap, sym, subst, Bool, true, false, not, ◌&&◌, nat_lt, if◌then◌else◌, List, [], ◌∷◌, ◌++◌, length, Option, Some, None, arith, ◌-◌}
use Rattle.ld_safety.proofs.Plans.{lng_has, trim_place_most, end_most, top_most}
use Rattle.ld_msg.specs.declared.msg.What.TheVariants.{Bridge}
use Rattle.ld_msg.specs.declared.msg.What.{What}
use Rattle.ld_safety.proofs.Settled.{FullClose, Summarized, LngFine, LostTold, Stays}
use Rattle.ld_safety.proofs.Storings.{StoringFine, ReplyFine, settles_fine, begins_storing, full_close, full_stands, short_stands}
use Rattle.std.proofs.lemmas.Bool.{not-false, cases_order, ltb-true, or_cases}
use Rattle.ld_table.specs.Words.{is_in, how_many}
use Rattle.ld_lsn.specs.Number.{epoch_of, esn_of, home_epoch, last_esn}
use Rattle.ld_ids.specs.declared.set.Spec.{Spec}
use Rattle.ld_ids.specs.Choice.{nodes_of}
use Rattle.ld_config.specs.declared.config.Config.{Config}
use Rattle.ld_msg.specs.declared.msg.Entry.{Entry}
use Rattle.ld_msg.specs.declared.msg.Summary.{Summary}
use Rattle.ld_msg.specs.declared.msg.Msg.{Msg}
use Rattle.ld_msg.specs.declared.msg.Body.{Body}
use Rattle.ld_msg.specs.declared.msg.Body.TheVariants as bodies
use Rattle.ld_msg.specs.Register.{Register, Granted, Epochs, look, lce_of, close, epochs_of, with_epochs, closed_epochs}
use Rattle.ld_msg.specs.Digest.{Told, with_page, with_asks, enough, is_spent, plan, is_bridge, plan_end, digest_trim, digest_lng}
use Rattle.ld_msg.specs.Sequencer.{Sequencer, Recovery, Stage, Seals, Stores, Closes, Storing, is_fully_ready, is_ready_short, Acts, Called, begun, recovery_of, recovery_lost, lost_stage, storing_of, summary_of, next_try}
use Rattle.ld_machine.specs.Config.{spec_of, fixed_of, fixed_at, looks_at}
use Rattle.ld_machine.specs.Facts.{Happened}
use Rattle.ld_machine.specs.World.{Made, In}
use Rattle.ld_safety.proofs.Lists.{only}
use Rattle.ld_safety.proofs.RegisterSteps.{close_granted, epochs_put, epochs_same}
use Rattle.ld_safety.proofs.SequencerSteps.{Acting, Retrying, Closing, Hearing, heard_page, heard_lost, Hearing_stored, heard_settled, heard_gone, Planning, is_closing, is_short}
use Rattle.ld_safety.proofs.Protocol.{Basis, plan_of, StoredBy, Kept, PlansOnce}
use Rattle.ld_safety.proofs.Losses.{with_one_in}
use Rattle.ld_safety.proofs.Said.{Open, good_low}
use Rattle.ld_safety.proofs.Sent.{ShowsAll}
use Rattle.ld_safety.proofs.Registers.{Up, Reached, EachClosed, SpecLike, look_like, like_later, look_closed, look_open, look_epoch, reached_later}
use Rattle.ld_safety.proofs.Digests.{DigestSoFar, PageFacts, LngPaged, NoPlan, begins, loses, asks_anew, takes, accounts}

-- a plan that was made for a recovery's sequencer is of an epoch below, or of this one, where it is past its seals
abbrev pub NotSeals : Stage → Type 0
NotSeals (Seals d) = ⊥
NotSeals _ = Unit {0}

abbrev pub Before : Recovery → ℕ → Type 0
Before v e = (e < v.epoch) ⊎ ((e ≡ v.epoch) × NotSeals v.stage)

module _ (c : Config) (hs : List Happened) (sent : List Msg) where
  -- a last known good offset that a page told covers acknowledged appends alone
  abbrev pub PagesGood : Register → Type 0
  PagesGood r = (l e b y g : ℕ) → LngPaged sent l e b y g → LngFine c hs sent r l e g

  pub digest_good : (made : List Made) (r : Register) → PagesGood r → (s : Spec) (l e b : ℕ) (d : List Told) → DigestSoFar hs made sent s l e b d → LngFine c hs sent r l e (digest_lng d)
  digest_good made r G s l e b d D = lng_has (LngFine c hs sent r l e) d (λ n q p k. absurd (omega arith)) (λ t i. elim (D.told t i).known [
    | inl z ↦ (λ n q p k. absurd (omega arith))
    | inr k ↦ G l e b t.node t.lng k
  ])

  -- a plan of the ballot whose items were settled by as many nodes as there are copies
  abbrev pub FullAt : List Made → Register → ℕ → ℕ → ℕ → Type 0
  FullAt made r l e b = (s : Basis) × In (plan_of l e b s) made × FullClose c hs sent r l e b s

  abbrev pub StageFine : List Made → Register → Spec → ℕ → ℕ → ℕ → Stage → Type 0
  StageFine made r p l b e (Seals d) = DigestSoFar hs made sent p l e b d
  StageFine made r p l b e (Stores g) = StoringFine c hs sent made r l b e g
  StageFine made r p l b e (Closes y short) = Open r l e → Summarized c hs made sent r l e y × (short ≡ false → FullAt made r l e y.ballot)

  pub record InRecovery (made : List Made) (r : Register) (l b : ℕ) (v : Recovery) : Type 0 where
    pub next : v.epoch ≤ lce_of r l + 1
    pub later : v.epoch < b
    pub reached : Reached r l v.epoch
    pub spec : SpecLike c r l v.epoch v.spec
    pub stage : StageFine made r v.spec l b v.epoch v.stage
    pub before : (e : ℕ) (d : Basis) → In (plan_of l e b d) made → Before v e
    pub lost : (y : ℕ) → is_in y v.lost ≡ true → LostTold sent l v.epoch b y

  abbrev pub RecoveryFine : List Made → Register → ℕ → ℕ → Option Recovery → Type 0
  RecoveryFine made r l b None = Unit {0}
  RecoveryFine made r l b (Some v) = InRecovery made r l b v

  abbrev pub Fine : List Made → Register → Sequencer → Type 0
  Fine made r q = RecoveryFine made r q.log q.epoch q.recovery

  -- why a plan was made: enough was told, or the digest was spent, and no greater epoch was handed out
  pub record LossNow (r : Register) (l e b : ℕ) (d : List Told) : Type 0 where
    pub spent : is_spent (fixed_of c r l e) d ≡ true
    pub open_still : Open r l e
    pub newest : b ≡ (epochs_of r l).epoch

  abbrev pub WhyNow : Register → ℕ → ℕ → ℕ → Basis → Type 0
  WhyNow r l e b d = ((d.loss ≡ false) × (length (fixed_at c r l e) < (fixed_of c r l e).r + how_many (λ (t : Told). t.whole && not t.lost) d.digest)) ⊎ ((d.loss ≡ true) × LossNow r l e b d.digest)

  -- a plan that was just made; who had nothing to tell then is given
  pub record NewPlan (gone : ℕ → ℕ → List ℕ → List ℕ) (made : List Made) (r : Register) (l e b : ℕ) (d : Basis) : Type 0 where
    pub reached : Reached r l e
    pub spec : Spec
    pub like : SpecLike c r l e spec
    pub digest : DigestSoFar hs made sent spec l e b d.digest
    pub why : WhyNow r l e b d
    pub gone_now : d.gone ≡ gone l e (nodes_of spec)
    pub later : e < b
    pub seen : (t : Told) → In t d.digest → t.whole ≡ true → (n a : ℕ) → epoch_of n ≡ e → digest_lng d.digest < esn_of n → a < b → StoredBy sent l t.node n a → Kept made l b t.trim t.entries n a
    pub good_most : digest_lng d.digest ≤ last_esn - 1
    pub first : NoPlan hs made sent l e b

  -- ---- a recovery that begins, a stage that goes on ----
  module _ (made : List Made) (r : Register) where
    pub begins_fine : (k : Register) → Up k r → Stays c k r → EachClosed k → (l : ℕ) (q : Sequencer) (lce : ℕ) → q.epoch ≤ (epochs_of k l).epoch → lce ≤ lce_of r l → ((e : ℕ) (d : Basis) → In (plan_of l e q.epoch d) made → e < lce + 1) → RecoveryFine made r l q.epoch (recovery_of (looks_at c k l) q lce)
    unfolding look
    begins_fine k u y E l q lce own h n = by_later (nat_lt (lce + 1) q.epoch) refl where
      by_later : (t : Bool) → nat_lt (lce + 1) q.epoch ≡ t → RecoveryFine made r l q.epoch (if t then Some (begun (looks_at c k l (lce + 1))) else None)
      by_later false g = tt
      by_later true g = let lt = ltb-true _ _ g in let o : Reached k l (lce + 1) = (omega arith, omega arith) in record {
        next = omega arith;
        later = lt;
        reached = reached_later k r l (lce + 1) u o;
        spec = like_later c k r l (lce + 1) (spec_of c k l (lce + 1)) u (y.specs l (lce + 1) o) (look_like c k l (lce + 1) E o);
        stage = begins hs made sent (spec_of c k l (lce + 1)) l (lce + 1) q.epoch;
        before = λ e d i. inl (n e d i);
        lost = λ x i. absurd cc;
      }

    -- a stage past the seals
    settled_stage : (l b : ℕ) (v : Recovery) (s : Stage) → NotSeals s → StageFine made r v.spec l b v.epoch s → InRecovery made r l b v → InRecovery made r l b (record v { stage = s })
    settled_stage l b v s n k f = record { next = f.next; later = f.later; reached = f.reached; spec = f.spec; stage = k; before = λ e d i. elim (f.before e d i) [ inl a ↦ inl a | inr a ↦ inr (a.0, n) ]; lost = f.lost }

    lost_fine : (l b y : ℕ) (v : Recovery) → LostTold sent l v.epoch b y → InRecovery made r l b v → InRecovery made r l b (recovery_lost y v)
    lost_fine l b y v L f = record {
      next = f.next;
      later = f.later;
      reached = f.reached;
      spec = f.spec;
      stage = by_stage v.stage f.stage;
      before = λ e d i. elim (f.before e d i) [ inl a ↦ inl a | inr a ↦ inr (a.0, not_by v.stage a.1) ];
      lost = λ x i. elim (with_one_in y x v.lost i) [ inl h ↦ f.lost x h | inr h ↦ subst (LostTold sent l v.epoch b) (sym h) L ];
    } where
      by_stage : (k : Stage) → StageFine made r v.spec l b v.epoch k → StageFine made r v.spec l b v.epoch (lost_stage y k)
      by_stage (Seals d) h = loses hs made sent v.spec l v.epoch b y d L h
      by_stage (Stores s) h = h
      by_stage (Closes s short) h = h

      not_by : (k : Stage) → NotSeals k → NotSeals (lost_stage y k)
      not_by (Seals d) h = absurd h
      not_by (Stores s) h = tt
      not_by (Closes s short) h = tt

    -- a digest that goes on
    seals_on : (l b : ℕ) (v : Recovery) (d f : List Told) → v.stage ≡ Seals d → DigestSoFar hs made sent v.spec l v.epoch b f → InRecovery made r l b v → InRecovery made r l b (record v { stage = Seals f })
    seals_on l b v d f h k z = record { next = z.next; later = z.later; reached = z.reached; spec = z.spec; stage = k; before = λ x j i. elim (z.before x j i) [ inl a ↦ inl a | inr a ↦ absurd (subst NotSeals h a.1) ]; lost = z.lost }

    no_plan : (l b : ℕ) (v : Recovery) (d : List Told) → v.stage ≡ Seals d → InRecovery made r l b v → NoPlan hs made sent l v.epoch b
    no_plan l b v d h z f i = elim (z.before v.epoch f i) [ inl a ↦ (omega arith) | inr a ↦ subst NotSeals h a.1 ]

  -- ---- a call ----
  module _ (gone : ℕ → ℕ → List ℕ → List ℕ) (made : List Made) (r : Register) (q : Sequencer) (call : Called) (U : Up r call.register)
      (Y : Stays c r call.register) (E : EachClosed r) (own : q.epoch ≤ (epochs_of r q.log).epoch) (P : Fine made r q) (F : Fine made call.register q) where
    k : Register
    k = call.register

    abbrev pub Ok : List Made → Called → Type 0
    Ok m x = Fine (m ++ made) call.register x.acts.sequencer

    abbrev pub NewPlans : List Made → Type 0
    NewPlans m = (l e a : ℕ) (d : Basis) → In (plan_of l e a d) m → NewPlan gone made r l e a d × (l ≡ q.log) × (a ≡ q.epoch)

    abbrev pub Both : Called → List Made → Type 0
    Both x m = Ok m x × NewPlans m × PlansOnce m

    was : (v : Recovery) → q.recovery ≡ Some v → InRecovery made r q.log q.epoch v
    was v e = subst (RecoveryFine made r q.log q.epoch) e P

    now : (v : Recovery) → q.recovery ≡ Some v → InRecovery made call.register q.log q.epoch v
    now v e = subst (RecoveryFine made call.register q.log q.epoch) e F

    at_most : (v : Recovery) → InRecovery made r q.log q.epoch v → (e : ℕ) (d : Basis) → In (plan_of q.log e q.epoch d) made → e ≤ v.epoch
    at_most v f e d i = elim (f.before e d i) [ inl a ↦ omega arith | inr a ↦ (let z = a.0 in omega arith) ]

    none_new : NewPlans []
    none_new l e a d i = absurd i

    none_once : PlansOnce []
    none_once l e a d f i j = absurd i

    closed_lce : (n : Register) (e : ℕ) (y : Summary) (short : Bool) → lce_of r q.log + 1 ≡ e → close r q.log e y short ≡ record { register = n; answer = Granted } → lce_of n q.log ≡ e
    closed_lce n e y short h g = let s = (close_granted r q.log e y short n h g).0 in elim (epochs_put r q.log q.log (closed_epochs (epochs_of r q.log) e y)) [
      | inl a ↦ ap (λ (x : Epochs). x.lce) (epochs_same (with_epochs r q.log (closed_epochs (epochs_of r q.log) e y)) n q.log s ∙ a.1)
      | inr a ↦ absurd (a.0 refl)
    ]

    -- what follows a closed epoch
    starts : (lce : ℕ) → lce ≤ lce_of call.register q.log → ((e : ℕ) (d : Basis) → In (plan_of q.log e q.epoch d) made → e < lce + 1) → (a : Sequencer) → a.log ≡ q.log → a.epoch ≡ q.epoch → RecoveryFine made call.register a.log a.epoch (recovery_of (looks_at c r q.log) a lce)
    starts lce h n a lg ep = subst (λ l. RecoveryFine made call.register l a.epoch (recovery_of (looks_at c r q.log) a lce)) (sym lg)
        (begins_fine made call.register r U Y E q.log a lce (subst (λ b. b ≤ (epochs_of r q.log).epoch) (sym ep) own) h (λ e d i. n e d (subst (λ b. In (plan_of q.log e b d) made) ep i)))

    close_fine : (a : Acts) (v : Recovery) (y : Summary) (short : Bool) → InRecovery made r q.log q.epoch v → a.sequencer.log ≡ q.log → a.sequencer.epoch ≡ q.epoch → Fine made call.register a.sequencer → Closing r (looks_at c r q.log) a v.epoch y short (λ x. call ≡ x → Both x [])
    close_fine a v y short f lg ep fine = record {
      granted = λ n h o g w. (
        starts v.epoch (let z : call.register ≡ n = ap (λ (x : Called). x.register) w in let j = closed_lce n v.epoch y short (subst (λ l. lce_of r l + 1 ≡ v.epoch) lg h) (subst (λ l. close r l v.epoch y short ≡ record { register = n; answer = Granted }) lg g) in
            subst (λ x. v.epoch ≤ lce_of x q.log) (sym z) (omega arith)) (λ e d i. let z = at_most v f e d i in omega arith) a.sequencer lg ep,
        none_new,
        none_once,
      );
      passed = λ h w. (fine, none_new, none_once);
      behind = λ b h w. (
        (let z = f.next in let u = (U q.log).1 in starts (lce_of r a.sequencer.log) (subst (λ l. lce_of r l ≤ lce_of call.register q.log) (sym lg) u)
            (λ e d i. let m = at_most v f e d i in not_next e v.epoch (lce_of r a.sequencer.log) m b (subst (λ l. v.epoch ≤ lce_of r l + 1) (sym lg) z)) a.sequencer lg ep),
        none_new,
        none_once,
      );
      overtaken = λ h o w. (fine, none_new, none_once);
      failed = λ n g w. (fine, none_new, none_once);
    } where
      not_next : (e x n : ℕ) → e ≤ x → (n + 1 ≡ x → ⊥) → x ≤ n + 1 → e < n + 1
      not_next e x n h b g = elim (cases_order (n + 1) x) [ inl z ↦ absurd (b z) | inr (inl z) ↦ omega arith | inr (inr z) ↦ omega arith ]

    storing_now : (v : Recovery) (g : Storing) → v.stage ≡ Stores g → InRecovery made call.register q.log q.epoch v → StoringFine c hs sent made call.register q.log q.epoch v.epoch g
    storing_now v g h z = subst (StageFine made call.register v.spec q.log q.epoch v.epoch) h z.stage

    next_wave_fine : (e : ℕ) (g : Storing) → StoringFine c hs sent made call.register q.log q.epoch e g → StoringFine c hs sent made call.register q.log q.epoch e (next_try g)
    next_wave_fine e g F = record { basis = F.basis; planned_so = F.planned_so; loss = F.loss; end = F.end; trim = F.trim; lng = F.lng; good = F.good; items = F.items; covers = F.covers }

    -- a plan that is ready stands
    ready_fine : (w : Recovery) (g : Storing) → InRecovery made call.register q.log q.epoch w → StoringFine c hs sent made call.register q.log q.epoch w.epoch g → is_closing w g ≡ true → Open call.register q.log w.epoch → Summarized c hs made sent call.register q.log w.epoch (summary_of q.epoch g) × (is_short w g ≡ false → FullAt made call.register q.log w.epoch q.epoch)
    ready_fine w g z S t o = (ready_stands, λ h. (S.basis, S.planned_so, full_close c hs sent made call.register q.log q.epoch w.epoch g z.reached S (subst (λ p. is_fully_ready p g ≡ true) (z.spec.fixed o) (not-false _ h)) o)) where
      ready_stands : Summarized c hs made sent call.register q.log w.epoch (summary_of q.epoch g)
      ready_stands = elim (or_cases (is_fully_ready w.spec g) (is_ready_short w.spec w.lost g) t) [
        | inl h ↦ full_stands c hs sent made call.register q.log q.epoch w.epoch g z.reached S (subst (λ p. is_fully_ready p g ≡ true) (z.spec.fixed o) h) o
        | inr h ↦ short_stands c hs sent made call.register q.log q.epoch w.epoch g z.reached S w.lost z.lost (subst (λ p. is_ready_short p w.lost g ≡ true) (z.spec.fixed o) h)
      ]

    closes_fine : (a : Acts) (w : Recovery) (g : Storing) → a.sequencer.log ≡ q.log → a.sequencer.epoch ≡ q.epoch → a.sequencer.recovery ≡ Some (record w { stage = Closes (summary_of q.epoch g) (is_short w g) }) → InRecovery made r q.log q.epoch w → InRecovery made call.register q.log q.epoch w → StoringFine c hs sent made call.register q.log q.epoch w.epoch g → is_closing w g ≡ true
        → Closing r (looks_at c r q.log) a w.epoch (summary_of q.epoch g) (is_short w g) (λ x. call ≡ x → Both x [])
    closes_fine a w g lg ep rc before after S t = close_fine a w (summary_of q.epoch g) (is_short w g) before lg ep (subst (λ l. RecoveryFine made call.register l a.sequencer.epoch a.sequencer.recovery) (sym lg) (subst (λ b. RecoveryFine made call.register q.log b a.sequencer.recovery) (sym ep)
        (subst (RecoveryFine made call.register q.log q.epoch) (sym rc) (settled_stage made call.register q.log q.epoch w (Closes (summary_of q.epoch g) (is_short w g)) tt (ready_fine w g after S t) after))))

    -- ---- a plan that is made ----
    not_bridge : (x : What) → x ≡ Bridge → is_bridge x ≡ false → ⊥
    not_bridge x e n = let z : is_bridge x ≡ true = ap is_bridge e in cc

    -- a plan ends in its epoch
    end_below : PagesGood call.register → (s : Spec) (l e b : ℕ) (d : List Told) → DigestSoFar hs made sent s l e b d → plan_end e d ≤ last_esn
    end_below G s l e b d D = let t = trim_place_most e (digest_trim d) in let j = good_low c hs sent call.register l e (digest_lng d) (digest_good made call.register G s l e b d D) in
        let z = end_most e d (last_esn - 1) (top_most (last_esn - 1) d (λ u f j k n. let y = ((D.told u j).frozen f k).place.below (λ q. not_bridge f.what q n) in omega arith)) t (omega arith) in omega arith

    good_most : PagesGood call.register → (p : Spec) (e : ℕ) (d : List Told) → DigestSoFar hs made sent p q.log e q.epoch d → digest_lng d ≤ last_esn - 1
    good_most G p e d D = let j = good_low c hs sent call.register q.log e _ (digest_good made call.register G p q.log e q.epoch d D) in omega arith

    -- a digest of which a plan is made, before the call and after it
    module _ (A : ShowsAll made sent) (G : PagesGood call.register) (w : Recovery) (d : List Told) (loss : Bool)
        (before : InRecovery made r q.log q.epoch (record w { stage = Seals d })) (after : InRecovery made call.register q.log q.epoch (record w { stage = Seals d })) (why : Planning (looks_at c r q.log w.epoch) q w d loss) where
      abbrev pub basis : Basis
      basis = record { loss = loss; digest = d; gone = gone q.log w.epoch (nodes_of w.spec) }

      first : NoPlan hs made sent q.log w.epoch q.epoch
      first = no_plan made r q.log q.epoch (record w { stage = Seals d }) d refl before

      stores_fine : InRecovery (plan_of q.log w.epoch q.epoch basis ∷ made) call.register q.log q.epoch (record w { stage = Stores (storing_of (plan w.epoch loss d)) })
      stores_fine = record {
        next = after.next;
        later = after.later;
        reached = after.reached;
        spec = after.spec;
        stage = begins_storing c hs sent (plan_of q.log w.epoch q.epoch basis ∷ made) call.register q.log q.epoch w.epoch basis (inl refl) (end_below G w.spec q.log w.epoch q.epoch d after.stage) (digest_good made call.register G w.spec q.log w.epoch q.epoch d after.stage);
        before = λ x j i. elim i [ inl o ↦ inr (ap (λ (n : Made). n.epoch) o, tt) | inr o ↦ elim (after.before x j o) [ inl a ↦ inl a | inr a ↦ inr (a.0, tt) ] ];
        lost = after.lost;
      }

      why_now : WhyNow r q.log w.epoch q.epoch basis
      unfolding enough
      why_now = elim why [
        | inl h ↦ inl (h.0, let a = ltb-true _ _ h.1 in let b = before.spec.factor in let k = before.spec.size in omega arith)
        | inr h ↦ (let o = look_open c r q.log w.epoch E before.reached.0 h.1.open_still in inr (
          h.0,
          record {
            spent = subst (λ p. is_spent p d ≡ true) (before.spec.fixed o) h.1.spent;
            open_still = o;
            newest = sym h.1.own ∙ look_epoch c r q.log w.epoch;
          },
        ))
      ]

      made_now : NewPlan gone made r q.log w.epoch q.epoch basis
      made_now = record {
        reached = before.reached;
        spec = w.spec;
        like = before.spec;
        digest = before.stage;
        why = why_now;
        gone_now = refl;
        later = before.later;
        seen = λ t j x n a ep p lt st. accounts hs made sent w.spec q.log w.epoch q.epoch d before.stage A first t j x n a ep p lt st;
        good_most = let j = good_low c hs sent call.register q.log w.epoch _ (digest_good made call.register G w.spec q.log w.epoch q.epoch d before.stage) in omega arith;
        first = first;
      }

      basis_is : (l x a : ℕ) (f : Basis) → In (plan_of l x a f) (plan_of q.log w.epoch q.epoch basis ∷ []) → plan_of l x a f ≡ plan_of q.log w.epoch q.epoch basis
      basis_is l x a f o = only _ _ o

      abbrev of_made : Made → Basis
      of_made m = record { loss = m.loss; digest = m.digest; gone = m.gone }

      pub plan_fine : InRecovery (plan_of q.log w.epoch q.epoch basis ∷ made) call.register q.log q.epoch (record w { stage = Stores (storing_of (plan w.epoch loss d)) }) × NewPlans (plan_of q.log w.epoch q.epoch basis ∷ []) × PlansOnce (plan_of q.log w.epoch q.epoch basis ∷ [])
      plan_fine = (
        stores_fine,
        (λ l x a f o. let i = basis_is l x a f o in (subst (λ (n : Made). NewPlan gone made r n.log n.epoch n.ballot (of_made n)) (sym i) made_now, ap (λ (n : Made). n.log) i, ap (λ (n : Made). n.ballot) i)),
        (λ l x a f g m n. ap of_made (basis_is l x a f m) ∙ sym (ap of_made (basis_is l x a g n))),
      )

    pub retrying_fine : ShowsAll made sent → PagesGood call.register → Retrying c r (λ v. gone q.log v.epoch (nodes_of v.spec)) q (λ x m. call ≡ x → Both x m)
    retrying_fine A G = record {
      quiet = λ w. (F, none_new, none_once);
      appends = λ f w. (F, none_new, none_once);
      seals = λ v d f e h u w. (seals_on made call.register q.log q.epoch v d (with_asks v.epoch d) h (asks_anew hs made sent v.spec q.log v.epoch q.epoch d (good_most G v.spec v.epoch d (subst (StageFine made call.register v.spec q.log q.epoch v.epoch) h (now v e).stage)) (subst (StageFine made call.register v.spec q.log q.epoch v.epoch) h (now v e).stage)) (now v e), none_new, none_once);
      plans = λ v d f e h p w. plan_fine A G v d true (same_seals r v d h (was v e)) (same_seals call.register v d h (now v e)) (inr (refl, p));
      looks_closed = λ v d s f e h u o w. (starts v.epoch (let a = look_closed c r q.log v.epoch s o in let b = (U q.log).1 in omega arith) (λ x j i. let m = at_most v (was v e) x j i in omega arith) q refl refl, none_new, none_once);
      looks_later = λ v d f e h u o n w. (F, none_new, none_once);
      stores_on = λ v g f e h t w. (settled_stage made call.register q.log q.epoch v (Stores (next_try g)) tt (next_wave_fine v.epoch g (storing_now v g h (now v e))) (now v e), none_new, none_once);
      closes_now = λ v g f e h t. closes_fine _ v g refl refl refl (was v e) (now v e) (storing_now v g h (now v e)) t;
      closes = λ v y short f e h. close_fine _ v y short (was v e) refl refl F;
    } where
      same_seals : (x : Register) (v : Recovery) (d : List Told) → v.stage ≡ Seals d → InRecovery made x q.log q.epoch v → InRecovery made x q.log q.epoch (record v { stage = Seals d })
      same_seals x v d h z = seals_on made x q.log q.epoch v d d h (subst (StageFine made x v.spec q.log q.epoch v.epoch) h z.stage) z

    -- what a reply brings
    module _ (y : ℕ) (b : Body) (A : ShowsAll made sent) (G : PagesGood call.register)
        (cleaned_closed : (n : ℕ) (s : Summary) → b ≡ bodies.CleanHere n s → home_epoch n ≤ lce_of r q.log)
        (lost_said : (n round generation end : ℕ) → b ≡ bodies.LostHere n round generation end → LostTold sent q.log (home_epoch n) q.epoch y)
        (reply : ReplyFine c hs sent call.register q.log q.epoch y b)
        (page : (v : Recovery) (from upto trim lng : ℕ) (es : List Entry) → v.epoch < q.epoch → b ≡ bodies.DigestPage from upto trim lng es → v.epoch ≡ epoch_of from → NoPlan hs made sent q.log v.epoch q.epoch → PageFacts hs made sent q.log v.epoch q.epoch y from upto trim lng es) where
      lost_of : (v : Recovery) (n round generation end : ℕ) → b ≡ bodies.LostHere n round generation end → home_epoch n ≡ v.epoch → LostTold sent q.log v.epoch q.epoch y
      lost_of v n round generation end i h = subst (λ e. LostTold sent q.log e q.epoch y) h (lost_said n round generation end i)

      -- what is heard, before the call and after it
      pub heard_in : (x : Register) → ((v : Recovery) → q.recovery ≡ Some v → InRecovery made x q.log q.epoch v) → (w : Recovery) (d : List Told) → Hearing q y b w d → InRecovery made x q.log q.epoch (record w { stage = Seals d })
      heard_in x R w d (heard_page f from upto trim lng es e h i g t j) = subst (λ k. InRecovery made x q.log q.epoch (record w { stage = Seals k })) (sym j)
          (seals_on made x q.log q.epoch w f (with_page w.epoch y from upto trim lng es f) h (takes hs made sent w.spec q.log w.epoch q.epoch y from upto trim lng es f (good_most G w.spec w.epoch f (subst (StageFine made x w.spec q.log q.epoch w.epoch) h (R w e).stage)) (page w from upto trim lng es (R w e).later i g (no_plan made x q.log q.epoch w f h (R w e))) (subst (StageFine made x w.spec q.log q.epoch w.epoch) h (R w e).stage)) (R w e))
      heard_in x R w d (heard_lost v f n round generation end e h i g j k) =
          let z = lost_fine made x q.log q.epoch y v (lost_of v n round generation end i g) (R v e) in
          subst (λ (p : Recovery). InRecovery made x q.log q.epoch (record p { stage = Seals d })) (sym j) (subst (λ s. InRecovery made x q.log q.epoch (record (recovery_lost y v) { stage = s })) (ap (lost_stage y) h ∙ ap Seals (sym k)) z)

      stored_in : (x : Register) → ((v : Recovery) → q.recovery ≡ Some v → InRecovery made x q.log q.epoch v) → (w : Recovery) (g : Storing) → Hearing_stored q y b w g → InRecovery made x q.log q.epoch w
      stored_in x R w g (heard_settled f p e h s m j) = R w e
      stored_in x R w g (heard_gone v n round generation end e h i j k) = subst (InRecovery made x q.log q.epoch) (sym k) (lost_fine made x q.log q.epoch y v (lost_of v n round generation end i j) (R v e))

      storing_in : (w : Recovery) (g : Storing) → Hearing_stored q y b w g → StoringFine c hs sent made call.register q.log q.epoch w.epoch g
      storing_in w g (heard_settled f p e h s m j) = subst (StoringFine c hs sent made call.register q.log q.epoch w.epoch) (sym j)
          (settles_fine c hs sent call.register q.log q.epoch w.epoch y b reply made p f s (storing_now w f h (now w e)))
      storing_in w g (heard_gone v n round generation end e h i j k) = subst (λ (p : Recovery). StoringFine c hs sent made call.register q.log q.epoch p.epoch g) (sym k) (storing_now v g h (now v e))

      pub acting_fine : Acting c r (λ v. gone q.log v.epoch (nodes_of v.spec)) q y b (λ x m. call ≡ x → Both x m)
      acting_fine = record {
        quiet = λ w. (F, none_new, none_once);
        sealed = λ n j f i l w. (F, none_new, none_once);
        cleaned_own = λ n s f i h w. (F, none_new, none_once);
        acks = λ n p f i h g m w. (F, none_new, none_once);
        lost_own = λ n round g end f i h w. (F, none_new, none_once);
        cleaned = λ v n s f e i h w. ((let z = cleaned_closed n s i in let u = (U q.log).1 in starts v.epoch (omega arith) (λ x d j. let m = at_most v (was v e) x d j in omega arith) q refl refl), none_new, none_once);
        asks_more = λ v d asks f H a n u w. (heard_in call.register now v d H, none_new, none_once);
        plans = λ v d loss f H p w. plan_fine A G v d loss (heard_in r was v d H) (heard_in call.register now v d H) p;
        looks_closed = λ v d s f H u o w. (let z = heard_in r was v d H in (starts v.epoch (let a = look_closed c r q.log v.epoch s o in let b = (U q.log).1 in omega arith) (λ x j i. let m = at_most (record v { stage = Seals d }) z x j i in omega arith) q refl refl, none_new, none_once));
        looks_later = λ v d f H u o n w. (F, none_new, none_once);
        stores_on = λ v g f H t w. (settled_stage made call.register q.log q.epoch v (Stores g) tt (storing_in v g H) (stored_in call.register now v g H), none_new, none_once);
        closes_now = λ v g f H t. closes_fine _ v g refl refl refl (stored_in r was v g H) (stored_in call.register now v g H) (storing_in v g H) t;
        lost_closing = λ v s short n round g end f e h i j w. (settled_stage made call.register q.log q.epoch (recovery_lost y v) (Closes s short) tt (subst (StageFine made call.register v.spec q.log q.epoch v.epoch) h (now v e).stage) (lost_fine made call.register q.log q.epoch y v (lost_of v n round g end i j) (now v e)), none_new, none_once);
      }
