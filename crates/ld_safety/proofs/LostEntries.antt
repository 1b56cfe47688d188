-- A node that answered for a number of a closed epoch is blank, lost for the epoch, trimmed there, or has an entry of it that readers get; also where the epoch has plans that say what is lost.
use Rattle.std.proofs.Common.{◌≡◌, ◌∙◌, ◌⊎◌, ◌≤◌, ◌<◌, ℕ, inl, inr, refl, ap, sym, subst, true, false, List, Some, arith}
use Rattle.std.proofs.lemmas.Bool.{cases_Bool, cases_order, cases_lt}
use Rattle.ld_table.specs.Table.{find}
use Rattle.ld_table.specs.Words.{is_in}
use Rattle.ld_lsn.specs.Number.{epoch_of, esn_of, numbered, last_esn}
use Rattle.ld_config.specs.declared.config.Config.{Config}
use Rattle.ld_msg.specs.declared.msg.What.{What}
use Rattle.ld_msg.specs.declared.msg.What.TheVariants.{Rec, Hole, Bridge, Plug, Withheld}
use Rattle.ld_msg.specs.declared.msg.Entry.{Entry}
use Rattle.ld_msg.specs.declared.msg.Summary.{Summary}
use Rattle.ld_msg.specs.Digest.{best, content, is_bridge, plan_end, plan_floor}
use Rattle.ld_op.specs.Plain.{Plain, Log, log_of, is_lost}
use Rattle.ld_machine.specs.Config.{fixed_of, fixed_at}
use Rattle.ld_machine.specs.State.{node_at}
use Rattle.ld_machine.specs.Facts.{Happened}
use Rattle.ld_machine.specs.World.{World, In, MayHold}
use Rattle.ld_safety.proofs.Lists.{Some_inj, of_some}
use Rattle.ld_safety.proofs.Members.{find_in}
use Rattle.ld_safety.proofs.Plans.{plan_shape, plan_between, content_no_bridge}
use Rattle.ld_safety.proofs.Losses.{found_no_plug}
use Rattle.ld_safety.proofs.LossPlans.{not_below, floor_not_below}
use Rattle.ld_safety.proofs.GivenSteps.{BaseGiven}
use Rattle.ld_safety.proofs.Protocol.{Basis, plan_of, plan_at, Says, PlanSays, StoredBy, TrimmedBy, says_once}
use Rattle.ld_safety.proofs.Agreement.{agrees}
use Rattle.ld_safety.proofs.Settled.{Acknowledged, Fixed, FullClose, ClosedBy, LostTold}
use Rattle.ld_safety.proofs.Plannings.{plan_facts}
use Rattle.ld_safety.proofs.Said.{SaidHere}
use Rattle.ld_safety.proofs.Shown.{plan_ends, acked_item, above_floor}
use Rattle.ld_safety.proofs.Copies.{Another, Elsewhere}
use Rattle.ld_safety.proofs.Fallen.{Fallen, lost_no_more}
use Rattle.ld_safety.proofs.LostFull.{FullLog}
use Rattle.ld_safety.proofs.Along.{Along, LastPlan}
use Rattle.ld_safety.proofs.LossHeard.{not_ended, not_bridged}
use Rattle.ld_safety.proofs.CopiesStand.{once, said_at, copied_at, same_summary, summary_there}
use Rattle.ld_safety.proofs.LostTrims.{TrimsTold}

-- an entry of the number that readers get
abbrev pub HasEntry : Log → ℕ → Type 0
HasEntry g n = (f : Entry) × (find n g.entries ≡ Some f) × (is_bridge f.what ≡ false)

-- blank, lost, trimmed, or there
abbrev pub Accounts : Plain → ℕ → ℕ → ℕ → Type 0
Accounts p l e n = (p.generation ≡ 0) ⊎ ((is_lost (log_of p l) e ≡ true) ⊎ ((n ≤ (log_of p l).trim) ⊎ HasEntry (log_of p l) n))

bridge_is : (x : What) → is_bridge x ≡ true → x ≡ Bridge
bridge_is (Rec p) h = absurd cc
bridge_is Hole h = absurd cc
bridge_is Plug h = absurd cc
bridge_is Withheld h = absurd cc
bridge_is Bridge h = refl

no_record : (x : What) (p : List ℕ) → x ≡ Rec p → is_bridge x ≡ false
no_record x p h = ap is_bridge h

unless_bridge : (x : What) → (x ≡ Bridge → ⊥) → is_bridge x ≡ false
unless_bridge x h = elim (cases_Bool (is_bridge x)) [ inl t ↦ absurd (h (bridge_is x t)) | inr t ↦ t ]

module _ (c : Config) (hs : List Happened) (w : World) (B : BaseGiven c hs w × Along c hs w) (T : TrimsTold w) (l n : ℕ) (z : Summary) (k : ClosedBy c hs w.made w.state.network.sent w.state.register l (epoch_of n) z) (pos : 0 < esn_of n) (hi : esn_of n < z.end) where
  -- ---- nodes that fell for the epoch ----
  module _ (y : ℕ) (p : Plain) (m : MayHold (node_at w.state y) p) where
    full : FullLog (log_of p l)
    full = B.1.full y p m l

    -- they were rebuilt, or are lost still
    pub fallen_accounts : Fallen p l (epoch_of n) → Accounts p l (epoch_of n) n
    fallen_accounts (inl h) = inl h
    fallen_accounts (inr le) = elim (cases_Bool (is_lost (log_of p l) (epoch_of n))) [
      | inl u ↦ inr (inl u)
      | inr u ↦ elim (cases_lt (log_of p l).trim n) [
        | inr a ↦ inr (inr (inl a))
        | inl a ↦
            let g = lost_no_more (log_of p l) (epoch_of n) k.positive le u in
            let s = summary_there (log_of p l) (epoch_of n) k.positive (full.clean g (epoch_of n) k.positive le) in
            let q : s.0 ≡ z = same_summary c hs w B l (epoch_of n) y p s.0 z m k.positive s.1 k.found_so in
            let f = of_some (find n (log_of p l).entries) (full.full g n s.0 s.1 le a pos (subst (λ (v : Summary). esn_of n < v.end) (sym q) hi)) in
            inr (inr (inr (f.0, f.1, ((B.1.marks y p m).refilled l n f.0 f.1 k.positive le).2)))
      ]
    ]

    said_entry : (f : Entry) → find n (log_of p l).entries ≡ Some f → SaidHere hs w.made w.state.register l f.ballot n f.what
    said_entry f q = let o = (said_at c hs w B y p m l).entries (n, f) (find_in n (log_of p l).entries f q) in subst (λ v. SaidHere hs w.made w.state.register l f.ballot v f.what) o.0 o.1

    -- what isn't a plan's item is no bridge
    by_plan : (f : Entry) → find n (log_of p l).entries ≡ Some f → ((o : PlanSays w.made l f.ballot n f.what) → f.what ≡ Bridge → ⊥) → is_bridge f.what ≡ false
    by_plan f q h = elim (said_entry f q).says [
      | inl (inl o) ↦ no_record f.what o.payload o.is
      | inl (inr o) ↦ unless_bridge f.what (h o)
      | inr (inl o) ↦ no_record f.what o.good.says.payload o.good.says.is
      | inr (inr o) ↦ o.content
    ]

  -- ---- what is fixed for a ballot ----
  record Ground (b : ℕ) : Type 0 where
    what : What
    content : what ≡ Bridge → ⊥
    says : Says hs w.made l b n what
    found_there : (d : Basis) → In (plan_of l (epoch_of n) b d) w.made → d.loss ≡ false
    found : (g : ℕ) (d : Basis) → In (plan_of l (epoch_of n) g d) w.made → d.loss ≡ false → b < g → (plan_at (epoch_of n) d (esn_of n) ≡ Some what) ⊎ (esn_of n ≤ plan_floor (epoch_of n) d.digest)

  small : esn_of n < last_esn
  small = let t = plan_ends c hs w.made w.state.network.sent w.state.register (once c hs w B.0.0 B.1) B.1.once B.1.plans B.1.last l (epoch_of n) z.ballot k.plan.basis k.plan.planned in let e = k.plan.end in omega arith

  own_ground : Acknowledged c hs w.state.network.sent w.state.register l n → Ground (epoch_of n)
  own_ground a = record {
    what = Rec a.payload;
    content = λ q. cc;
    says = inl (record { own = refl; payload = a.payload; is = refl; appended = a.appended });
    found_there = λ d i. absurd (let v = (B.1.plans l (epoch_of n) (epoch_of n) d i).later in omega arith);
    found = λ g d i lo lt. acked_item c hs w.made w.state.network.sent w.state.register (once c hs w B.0.0 B.1) B.1.once B.1.plans B.1.last l n g d a i lo;
  }

  pub above : z.trim < n → z.lng < esn_of n → plan_floor (epoch_of n) k.plan.basis.digest < esn_of n
  above tr up = above_floor c hs w.made w.state.network.sent w.state.register (once c hs w B.0.0 B.1) B.1.once B.1.plans B.1.last l n z k.plan pos tr up

  pub below : esn_of n < plan_end (epoch_of n) k.plan.basis.digest
  below = let e = k.plan.end in omega arith

  abbrev pub Item : What
  Item = content k.plan.basis.loss (best (numbered (epoch_of n) (esn_of n)) k.plan.basis.digest)

  pub item_at : z.trim < n → z.lng < esn_of n → plan_at (epoch_of n) k.plan.basis (esn_of n) ≡ Some Item
  item_at tr up = plan_between (epoch_of n) k.plan.basis.loss k.plan.basis.digest (esn_of n) (above tr up) below

  full_ground : z.trim < n → z.lng < esn_of n → FullClose c hs w.state.network.sent w.state.register l (epoch_of n) z.ballot k.plan.basis → Ground z.ballot
  full_ground tr up h = record {
    what = Item;
    content = content_no_bridge k.plan.basis.loss _;
    says = says_so;
    found_there = λ d i. ap (λ (v : Basis). v.loss) (B.1.once l (epoch_of n) z.ballot d k.plan.basis i k.plan.planned) ∙ h.found;
    found = λ g d i lo lt. by_fixed g d i lo lt (h.fixed n refl (above tr up) below);
  } where
    says_so : Says hs w.made l z.ballot n Item
    says_so = inr (record { later = (B.1.plans l (epoch_of n) z.ballot k.plan.basis k.plan.planned).later; basis = k.plan.basis; planned = k.plan.planned; item = item_at tr up })

    by_fixed : (g : ℕ) (d : Basis) → In (plan_of l (epoch_of n) g d) w.made → d.loss ≡ false → z.ballot < g → Fixed c hs w.state.network.sent w.state.register l n z.ballot → (plan_at (epoch_of n) d (esn_of n) ≡ Some Item) ⊎ (esn_of n ≤ plan_floor (epoch_of n) d.digest)
    by_fixed g d i lo lt (inl a) = elim (acked_item c hs w.made w.state.network.sent w.state.register (once c hs w B.0.0 B.1) B.1.once B.1.plans B.1.last l n g d a i lo) [
      | inr v ↦ inr v
      | inl v ↦ elim (acked_item c hs w.made w.state.network.sent w.state.register (once c hs w B.0.0 B.1) B.1.once B.1.plans B.1.last l n z.ballot k.plan.basis a k.plan.planned h.found) [
        | inl u ↦ inl (v ∙ (sym u ∙ item_at tr up))
        | inr u ↦ absurd (let x = above tr up in omega arith)
      ]
    ]
    by_fixed g d i lo lt (inr ch) = agrees hs w.made w.state.network.sent (fixed_of c w.state.register l) (once c hs w B.0.0 B.1) B.1.once l (λ e. Unit {0}) (λ e a g d f i j lt lo. B.1.last l e a g d f i j lt lo)
        (λ e a f u j lo. plan_facts c hs w.state.network.sent w.made w.state.register l e a f (B.1.plans l e a f j) lo) n z.ballot g Item d tt small lt i lo ch says_so (content_no_bridge k.plan.basis.loss _)
        (λ q. found_no_plug _ (ap (λ v. content v (best (numbered (epoch_of n) (esn_of n)) k.plan.basis.digest)) (sym h.found) ∙ q))

  -- ---- who stored it ----
  module _ (b y : ℕ) (p : Plain) (m : MayHold (node_at w.state y) p) (stored : StoredBy w.state.network.sent l y n b) (here : Elsewhere (log_of p l) n b → ⊥) where
    -- where no later plan can cut it off
    by_kept : ((f : Entry) → find n (log_of p l).entries ≡ Some f → b ≤ f.ballot → is_bridge f.what ≡ false) → ((g : ℕ) (d : Basis) → In (plan_of l (epoch_of n) g d) w.made → b < g → plan_end (epoch_of n) d.digest < esn_of n → ⊥) → Accounts p l (epoch_of n) n
    by_kept entry ends = elim (copied_at c hs w B y p m l n b pos (inl stored)) [
      | inl h ↦ inl h
      | inr (inl h) ↦ inr (inl h)
      | inr (inr (inr h)) ↦ absurd (here h)
      | inr (inr (inl (inl h))) ↦ inr (inr (inl h))
      | inr (inr (inl (inr (inl h)))) ↦ inr (inr (inr (h.entry, h.found_at, entry h.entry h.found_at h.least)))
      | inr (inr (inl (inr (inr h)))) ↦ absurd (ends h.ballot h.basis h.planned h.above h.before)
    ]

    -- for a ballot that found it
    ground_accounts : Ground b → Accounts p l (epoch_of n) n
    ground_accounts G = elim (fallen_or p) [
      | inl h ↦ fallen_accounts y p m h
      | inr h ↦ by_kept (λ f q le. by_plan y p m f q (λ o br. no_bridge h f le o br)) (λ g d i lt en. no_end h g d i lt en)
    ] where
      -- it fell for the epoch, or never did
      fallen_or : (p : Plain) → Fallen p l (epoch_of n) ⊎ (Fallen p l (epoch_of n) → ⊥)
      fallen_or p = elim (cases_order p.generation 0) [
        | inl e ↦ inl (inl e)
        | inr (inl e) ↦ absurd (omega arith)
        | inr (inr e) ↦ elim (cases_lt (log_of p l).lost_to (epoch_of n)) [ inr a ↦ inl (inr a) | inl a ↦ inr (λ h. elim h [ inl u ↦ omega arith | inr u ↦ omega arith ]) ]
      ]

      member : In y (fixed_at c w.state.register l (epoch_of n))
      member = (B.1.stored_of l y n b stored).1

      -- it had something to tell
      not_gone : (Fallen p l (epoch_of n) → ⊥) → (g : ℕ) (d : Basis) → In (plan_of l (epoch_of n) g d) w.made → d.loss ≡ true → is_in y d.gone ≡ false
      not_gone h g d i lo = elim (cases_Bool (is_in y d.gone)) [ inl t ↦ absurd (h ((B.1.losses l (epoch_of n) g d i lo).fallen y t p m)) | inr t ↦ t ]

      no_end : (Fallen p l (epoch_of n) → ⊥) → (g : ℕ) (d : Basis) → In (plan_of l (epoch_of n) g d) w.made → b < g → plan_end (epoch_of n) d.digest < esn_of n → ⊥
      no_end h g d i lt en = elim (cases_Bool d.loss) [
        | inl t ↦ not_ended c hs w B.1 (once c hs w B.0.0 B.1) l n b y G.what G.content small G.says G.found_there G.found member stored g d lt i t (not_gone h g d i t) en
        | inr t ↦ elim (G.found g d i t lt) [ inl v ↦ not_below (epoch_of n) (esn_of n) d.loss d.digest G.what v en | inr v ↦ floor_not_below (epoch_of n) (esn_of n) d.digest v en ]
      ]

      no_bridge : (Fallen p l (epoch_of n) → ⊥) → (f : Entry) → b ≤ f.ballot → PlanSays w.made l f.ballot n f.what → f.what ≡ Bridge → ⊥
      no_bridge h f le o br = elim (cases_order b f.ballot) [
        | inl q ↦ G.content (sym (says_once hs w.made l b n f.what G.what (once c hs w B.0.0 B.1) B.1.once (subst (λ v. Says hs w.made l v n f.what) (sym q) (inr o)) G.says) ∙ br)
        | inr (inl q) ↦ elim (cases_Bool o.basis.loss) [
          | inl t ↦ not_bridged c hs w B.1 (once c hs w B.0.0 B.1) l n b y G.what G.content small G.says G.found_there G.found member stored f.ballot o.basis q o.planned t (not_gone h f.ballot o.basis o.planned t) (o.item ∙ ap Some br)
          | inr t ↦ (let up = (plan_shape (epoch_of n) o.basis.loss o.basis.digest (esn_of n) f.what o.item).above in elim (G.found f.ballot o.basis o.planned t q) [ inl v ↦ G.content (Some_inj (sym v ∙ o.item) ∙ br) | inr v ↦ omega arith ])
        ]
        | inr (inr q) ↦ omega arith
      ]

  -- for the epoch's last plan
  last_accounts : z.trim < n → z.lng < esn_of n → LastPlan w l (epoch_of n) z.ballot → (y : ℕ) (p : Plain) (m : MayHold (node_at w.state y) p) → StoredBy w.state.network.sent l y n z.ballot → (Elsewhere (log_of p l) n z.ballot → ⊥) → Accounts p l (epoch_of n) n
  last_accounts tr up L y p m st here = by_kept z.ballot y p m st here (λ f q le. by_plan y p m f q (λ o br. no_bridge f le o br)) (λ g d i lt en. let v = L.above g d i in omega arith) where
    no_bridge : (f : Entry) → z.ballot ≤ f.ballot → PlanSays w.made l f.ballot n f.what → f.what ≡ Bridge → ⊥
    no_bridge f le o br =
        let v = L.above f.ballot o.basis o.planned in
        let q : f.ballot ≡ z.ballot = omega arith in
        let s : o.basis ≡ k.plan.basis = B.1.once l (epoch_of n) z.ballot o.basis k.plan.basis (subst (λ u. In (plan_of l (epoch_of n) u o.basis) w.made) q o.planned) k.plan.planned in
        content_no_bridge k.plan.basis.loss _ (Some_inj (sym (item_at tr up) ∙ (ap (λ (u : Basis). plan_at (epoch_of n) u (esn_of n)) (sym s) ∙ o.item)) ∙ br)

  -- ---- who answered ----

  -- where another ballot's copy counts
  elsewhere : (b y : ℕ) (p : Plain) (m : MayHold (node_at w.state y) p) → (Another z n b → ⊥) → Elsewhere (log_of p l) n b → ⊥
  elsewhere b y p m not_so h = not_so (subst (λ (v : Summary). Another v n b) (same_summary c hs w B l (epoch_of n) y p h.0 z m k.positive h.1 k.found_so) h.2)

  good_counts : esn_of n ≤ z.lng → Another z n (epoch_of n) → ⊥
  good_counts low (inl v) = v.1 refl
  good_counts low (inr (inl v)) = let u = v.0 in omega arith
  good_counts low (inr (inr v)) = omega arith

  close_counts : z.lng < esn_of n → Another z n z.ballot → ⊥
  close_counts up (inl v) = let u = v.0 in omega arith
  close_counts up (inr (inl v)) = v.1 refl
  close_counts up (inr (inr v)) = omega arith

  -- for its own ballot, where it was known good
  pub good_accounts : (low : esn_of n ≤ z.lng) (y : ℕ) (p : Plain) (m : MayHold (node_at w.state y) p) → StoredBy w.state.network.sent l y n (epoch_of n) → Accounts p l (epoch_of n) n
  good_accounts low y p m st = ground_accounts (epoch_of n) y p m st (elsewhere (epoch_of n) y p m (good_counts low)) (own_ground (k.plan.good n refl pos low))

  -- for the closing plan
  pub close_accounts : z.trim < n → z.lng < esn_of n → (y : ℕ) (p : Plain) (m : MayHold (node_at w.state y) p) → StoredBy w.state.network.sent l y n z.ballot ⊎ TrimmedBy w.state.network.sent l y n z.ballot → Accounts p l (epoch_of n) n
  close_accounts tr up y p m (inr t) = elim (T l y z.ballot t.asked t.trim t.told_so p m) [
    | inl h ↦ fallen_accounts y p m (subst (Fallen p l) t.epoch h)
    | inr h ↦ inr (inr (inl (let v = t.covers in omega arith)))
  ]
  close_accounts tr up y p m (inl st) = elim (B.1.closed_how l (epoch_of n) z k.found_so) [
    | inl a ↦ (let q : a.0 ≡ k.plan.basis = B.1.once l (epoch_of n) z.ballot a.0 k.plan.basis a.1 k.plan.planned in
        ground_accounts z.ballot y p m st (elsewhere z.ballot y p m (close_counts up)) (full_ground tr up (subst (FullClose c hs w.state.network.sent w.state.register l (epoch_of n) z.ballot) q a.2)))
    | inr a ↦ last_accounts tr up a y p m st (elsewhere z.ballot y p m (close_counts up))
  ]

  -- who told the closing plan that it is lost
  pub lost_accounts : (y : ℕ) (p : Plain) (m : MayHold (node_at w.state y) p) → LostTold w.state.network.sent l (epoch_of n) z.ballot y → Accounts p l (epoch_of n) n
  lost_accounts y p m t = fallen_accounts y p m (subst (Fallen p l) t.home ((B.1.lost_said l y z.ballot t.number t.round t.generation t.end t.said (let h = t.home in let q = k.positive in omega arith)).2 p m))
