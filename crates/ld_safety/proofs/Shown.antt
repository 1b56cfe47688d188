-- In one state: what is acknowledged is in each plan above its floor, what a closed epoch's plan says is in each later one, so clean nodes show what the closed epoch says.
use Rattle.std.proofs.Common.{◌≡◌, ◌∙◌, ◌⊎◌, ◌≤◌, ◌<◌, ℕ, ◌-◌, inl, inr, refl, ap, sym, subst, true, false, List, Some, arith, nat_lt, ◌==◌, min, ◌&&◌}
use Rattle.std.proofs.lemmas.Bool.{cases_Bool, cases_order, cases_lt, eqb-true, ltb-true, ltb-false, eqb-false}
use Rattle.ld_table.specs.Table.{find}
use Rattle.ld_lsn.specs.Number.{epoch_of, esn_of, numbered, home_epoch, last_esn}
use Rattle.ld_config.specs.declared.config.Config.{Config}
use Rattle.ld_msg.specs.declared.msg.What.{What}
use Rattle.ld_msg.specs.declared.msg.What.TheVariants.{Rec, Bridge, Plug}
use Rattle.ld_msg.specs.declared.msg.Entry.{Entry}
use Rattle.ld_msg.specs.declared.msg.Summary.{Summary}
use Rattle.ld_msg.specs.declared.msg.Msg.{Msg}
use Rattle.ld_msg.specs.Digest.{best, content, is_bridge, plan_end, plan_floor, trim_place, digest_trim}
use Rattle.ld_msg.specs.Register.{Register, epochs_of}
use Rattle.ld_op.specs.Plain.{Log, summary_at, epoch_zero}
use Rattle.ld_machine.specs.Config.{fixed_of}
use Rattle.ld_machine.specs.Facts.{Happened}
use Rattle.ld_machine.specs.World.{Made, In}
use Rattle.ld_safety.proofs.Lists.{Some_inj, branch, cond_both}
use Rattle.ld_safety.proofs.Members.{find_in}
use Rattle.ld_safety.proofs.Plans.{plan_shape, plan_between, content_no_bridge, end_above_trim, end_most, top_most, trim_place_most, floor_below}
use Rattle.ld_safety.proofs.Protocol.{Basis, plan_of, plan_at, Says, OwnSays, PlanSays, PlansOnce, AppendsOnce, PlanFacts}
use Rattle.ld_safety.proofs.Settled.{FullClose, LossSays, LossBeside, OfLoss, HoleFine, Acknowledged, Fixed, Summarized, ClosedBy, ClosedSays, ClosedEntry, GoodSays, KnownGood, OfZero, CloseFine, Reached, TrimFine, ShowFine, ReleaseFine, LngFine}
use Rattle.ld_safety.proofs.Said.{Said, SaidHere}
use Rattle.ld_safety.proofs.Agreement.{agrees}
use Rattle.ld_safety.proofs.Losses.{found_no_plug}
use Rattle.ld_safety.proofs.Plannings.{PlanMade, plan_facts}
use Rattle.ld_safety.proofs.LossBook.{FoundBelow}
use Rattle.ld_safety.proofs.Cleans.{LogClean}
use Rattle.ld_safety.proofs.Carried as carried

-- an offset above a trim
pub above_trim : (e n t : ℕ) → epoch_of n ≡ e → 0 < esn_of n → t < n → trim_place e t < esn_of n
above_trim e n t q p l = cond_both (nat_lt (epoch_of t) e) 0 _ (λ x. x < esn_of n) (λ a. omega arith)
    (λ a. cond_both (nat_lt e (epoch_of t)) (last_esn - 1) (min (esn_of t) (last_esn - 1)) (λ x. x < esn_of n) (λ b. absurd (let z = ltb-true _ _ b in omega arith)) (λ b. let y = ltb-false _ _ a in let z = ltb-false _ _ b in omega arith))

-- where a plan has a greater ballot than the one that closed its epoch, each item of that one was settled by as many nodes as there are copies
abbrev pub ClosedLast : Config → List Happened → List Made → List Msg → Register → Type 0
ClosedLast c hs made sent r = (l e b : ℕ) (y : Summary) (d : Basis) → find e (epochs_of r l).summaries ≡ Some y → In (plan_of l e b d) made → y.ballot < b → (s : Basis) × In (plan_of l e y.ballot s) made × FullClose c hs sent r l e y.ballot s

module _ (c : Config) (hs : List Happened) (made : List Made) (sent : List Msg) (r : Register) (A : AppendsOnce hs) (P : PlansOnce made)
    (F : (l e b : ℕ) (d : Basis) → In (plan_of l e b d) made → PlanMade c hs sent made r l e b d) (last : FoundBelow made) where
  facts_of : (l e b : ℕ) (d : Basis) → In (plan_of l e b d) made → d.loss ≡ false → PlanFacts hs made sent (fixed_of c r l e) l e b d.digest
  facts_of l e b d i lo = plan_facts c hs sent made r l e b d (F l e b d i) lo

  -- a plan ends in its epoch
  pub plan_ends : (l e b : ℕ) (d : Basis) → In (plan_of l e b d) made → plan_end e d.digest ≤ last_esn
  plan_ends l e b d i = let t = trim_place_most e (digest_trim d.digest) in let p = F l e b d i in
      let z = end_most e d.digest (last_esn - 1) (top_most (last_esn - 1) d.digest (λ u f j k n. let y = ((p.digest.told u j).frozen f k).place.below (λ q. not_bridge f.what q n) in omega arith)) t p.good_most in omega arith where
        not_bridge : (x : What) → x ≡ Bridge → is_bridge x ≡ false → ⊥
        not_bridge x q n = let z : is_bridge x ≡ true = ap is_bridge q in cc

  -- what is acknowledged is in each plan of its epoch that found what it says, unless it is trimmed or known good there
  pub acked_item : (l n b : ℕ) (d : Basis) → (a : Acknowledged c hs sent r l n) → In (plan_of l (epoch_of n) b d) made → d.loss ≡ false → (plan_at (epoch_of n) d (esn_of n) ≡ Some (Rec a.payload)) ⊎ (esn_of n ≤ plan_floor (epoch_of n) d.digest)
  acked_item l n b d a i lo = agrees hs made sent (fixed_of c r l) A P l (λ e. Unit {0}) (λ e a g d f i j lt lo. last l e a g d f i j lt lo) (λ e b d o j lo. facts_of l e b d j lo) n (epoch_of n) b (Rec a.payload) d tt a.below (F l (epoch_of n) b d i).later i lo a.chosen
      (inl (record { own = refl; payload = a.payload; is = refl; appended = a.appended })) (λ z. cc) (λ z. cc)

  -- what a plan that found what it says has between its ends is no plug
  pub found_item : (l n : ℕ) (d : Basis) → d.loss ≡ false → content d.loss (best (numbered (epoch_of n) (esn_of n)) d.digest) ≡ Plug → ⊥
  found_item l n d lo h = found_no_plug (best (numbered (epoch_of n) (esn_of n)) d.digest) (ap (λ k. content k (best (numbered (epoch_of n) (esn_of n)) d.digest)) (sym lo) ∙ h)

  -- a later plan that found what it says says what the closing plan says
  follows_full : (l n b a : ℕ) (s d : Basis) (x : What) → In (plan_of l (epoch_of n) a s) made → FullClose c hs sent r l (epoch_of n) a s → a < b → In (plan_of l (epoch_of n) b d) made → d.loss ≡ false → plan_floor (epoch_of n) s.digest < esn_of n → esn_of n < plan_end (epoch_of n) s.digest
      → plan_at (epoch_of n) d (esn_of n) ≡ Some x → plan_at (epoch_of n) s (esn_of n) ≡ Some x
  follows_full l n b a s d x m full lt i found lo hi it = by_fixed (full.fixed n refl lo hi) where
    above : plan_floor (epoch_of n) d.digest < esn_of n
    above = (plan_shape (epoch_of n) d.loss d.digest (esn_of n) x it).above

    by_fixed : Fixed c hs sent r l n a → plan_at (epoch_of n) s (esn_of n) ≡ Some x
    by_fixed (inl k) = elim (acked_item l n a s k m full.found) [
      | inl p ↦ elim (acked_item l n b d k i found) [
        | inl q ↦ p ∙ (sym q ∙ it)
        | inr q ↦ absurd (let z = above in omega arith)
      ]
      | inr p ↦ absurd (omega arith)
    ]
    by_fixed (inr h) =
        let w = content s.loss (best (numbered (epoch_of n) (esn_of n)) s.digest) in
        let p : plan_at (epoch_of n) s (esn_of n) ≡ Some w = plan_between (epoch_of n) s.loss s.digest (esn_of n) lo hi in
        let k = plan_ends l (epoch_of n) a s m in
        let late = (F l (epoch_of n) a s m).later in
        elim (agrees hs made sent (fixed_of c r l) A P l (λ e. Unit {0}) (λ e a g d f i j lt lo. last l e a g d f i j lt lo) (λ e b d o j lo. facts_of l e b d j lo) n a b w d tt (omega arith) lt i found h (inr (record { later = late; basis = s; planned = m; item = p })) (content_no_bridge s.loss _) (found_item l n s full.found)) [
          | inl q ↦ p ∙ (sym q ∙ it)
          | inr q ↦ absurd (let z = above in omega arith)
        ]

  -- the plan of a summary that later plans may follow
  pub full_of : (l e b : ℕ) (y : Summary) (d : Basis) → ClosedLast c hs made sent r → (k : ClosedBy c hs made sent r l e y) → In (plan_of l e b d) made → y.ballot < b → FullClose c hs sent r l e y.ballot k.plan.basis
  full_of l e b y d L k i lt = let z = L l e b y d k.found_so i lt in subst (FullClose c hs sent r l e y.ballot) (P l e y.ballot z.0 k.plan.basis z.1 k.plan.planned) z.2

  pub follows_closed : (l n b : ℕ) (y : Summary) (d : Basis) (x : What) → ClosedLast c hs made sent r → (k : ClosedBy c hs made sent r l (epoch_of n) y) → y.ballot < b → In (plan_of l (epoch_of n) b d) made → d.loss ≡ false → plan_floor (epoch_of n) k.plan.basis.digest < esn_of n → esn_of n < plan_end (epoch_of n) k.plan.basis.digest
      → plan_at (epoch_of n) d (esn_of n) ≡ Some x → plan_at (epoch_of n) k.plan.basis (esn_of n) ≡ Some x
  follows_closed l n b y d x L k lt i found lo hi it = follows_full l n b y.ballot k.plan.basis d x k.plan.planned (full_of l (epoch_of n) b y d L k i lt) lt i found lo hi it

  -- an acknowledged number's item in a plan that found what it says is its record
  pub acked_says : (l n b : ℕ) (x : What) → (a : Acknowledged c hs sent r l n) → (s : PlanSays made l b n x) → s.basis.loss ≡ false → x ≡ Rec a.payload
  acked_says l n b x a s lo = elim (acked_item l n b s.basis a s.planned lo) [
    | inl q ↦ Some_inj (sym s.item ∙ q)
    | inr q ↦ absurd (let z = (plan_shape (epoch_of n) s.basis.loss s.basis.digest (esn_of n) x s.item).above in omega arith)
  ]

  -- what any ballot says of an acknowledged number is its append's record, or a loss plan's item
  pub acked_own : (l n b : ℕ) (x : What) → Acknowledged c hs sent r l n → Says hs made l b n x → OwnSays hs l (epoch_of n) n x ⊎ LossSays made l n x
  acked_own l n b x a (inl o) = inl (record { own = refl; payload = o.payload; is = o.is; appended = o.appended })
  acked_own l n b x a (inr o) = elim (cases_Bool o.basis.loss) [
    | inl t ↦ inr (record { ballot = b; basis = o.basis; planned = o.planned; later = o.later; loss = t; item = o.item })
    | inr t ↦ inl (record { own = refl; payload = a.payload; is = acked_says l n b x a o t; appended = a.appended })
  ]

  -- above the trim and what is known good a closing plan says something
  pub above_floor : (l n : ℕ) (y : Summary) → (s : Summarized c hs made sent r l (epoch_of n) y) → 0 < esn_of n → y.trim < n → y.lng < esn_of n → plan_floor (epoch_of n) s.basis.digest < esn_of n
  above_floor l n y s pos tr up = floor_below (epoch_of n) s.basis.digest (esn_of n) (subst (λ t. trim_place (epoch_of n) t < esn_of n) s.trim (above_trim (epoch_of n) n y.trim refl pos tr)) (let z = s.lng in omega arith)

  -- an entry of a clean epoch, with the closing ballot or a greater one, says what the closing plan says above what was known good, or what a loss plan says
  pub closed_says : (l : ℕ) (x : Entry) (y : Summary) → ClosedLast c hs made sent r → (k : ClosedBy c hs made sent r l (epoch_of x.number) y) → y.ballot ≤ x.ballot → y.trim < x.number → y.lng < esn_of x.number → esn_of x.number < y.end → Says hs made l x.ballot x.number x.what → PlanSays made l y.ballot x.number x.what ⊎ LossBeside made l x.number y x.what
  closed_says l x y L k le tr up hi (inl o) = absurd (let a = o.own in let b = (F l (epoch_of x.number) y.ballot k.plan.basis k.plan.planned).later in omega arith)
  closed_says l x y L k le tr up hi (inr o) = elim (cases_order y.ballot x.ballot) [
    | inl q ↦ inl (subst (λ b. PlanSays made l b x.number x.what) (sym q) o)
    | inr (inl q) ↦ elim (cases_Bool o.basis.loss) [
      | inl t ↦ inr (record { says = record { ballot = x.ballot; basis = o.basis; planned = o.planned; later = o.later; loss = t; item = o.item }; side = inl le })
      | inr t ↦ inl (record {
        later = (F l (epoch_of x.number) y.ballot k.plan.basis k.plan.planned).later;
        basis = k.plan.basis;
        planned = k.plan.planned;
        item = follows_closed l x.number x.ballot y o.basis x.what L k q o.planned t (above_floor l x.number y k.plan (omega arith) tr up) (let z = k.plan.end in omega arith) o.item;
      })
    ]
    | inr (inr q) ↦ absurd (omega arith)
  ]

  -- an entry of a clean epoch says what the closed epoch says
  pub kept_says : (l : ℕ) (x : Entry) (y : Summary) → ClosedLast c hs made sent r → ClosedBy c hs made sent r l (epoch_of x.number) y → (y.ballot ≤ x.ballot) ⊎ (esn_of x.number ≤ y.lng) → y.trim < x.number → 0 < esn_of x.number → esn_of x.number < y.end → Says hs made l x.ballot x.number x.what ⊎ (KnownGood hs r l x.ballot x.number x.what ⊎ OfLoss made r l x.ballot x.number x.what) → ClosedSays hs made l x.number y x.what
  kept_says l x y L k le tr pos hi (inr (inr o)) = let same : o.summary ≡ y = Some_inj (sym o.found_so ∙ k.found_so) in inr (inr (subst (λ (v : Summary). LossBeside made l x.number v x.what) same o.says))
  kept_says l x y L k le tr pos hi (inr (inl o)) = let same : o.summary ≡ y = Some_inj (sym o.found_so ∙ k.found_so) in inr (inl (subst (λ (v : Summary). GoodSays hs l x.number v x.what) same o.good))
  kept_says l x y L k le tr pos hi (inl o) = elim (cases_lt y.lng (esn_of x.number)) [
    | inl up ↦ elim (closed_says l x y L k (elim le [ inl b ↦ b | inr b ↦ absurd (omega arith) ]) tr up hi o) [ inl p ↦ inl p | inr p ↦ inr (inr p) ]
    | inr low ↦ elim (acked_own l x.number x.ballot x.what (k.plan.good x.number refl pos low) o) [ inl p ↦ inr (inl (record { above = pos; low = low; says = p })) | inr p ↦ inr (inr (record { says = p; side = inr low })) ]
  ]

  pub home_low : (from : ℕ) → numbered (home_epoch from) 0 ≤ from
  home_low from = cond_both ((esn_of from == 0) && nat_lt 0 (epoch_of from)) (epoch_of from - 1) (epoch_of from) (λ z. numbered z 0 ≤ from) (λ t. omega arith) (λ t. omega arith)

  -- a clean node shows what the closed epoch says
  pub clean_entry : (l : ℕ) (g : Log) → carried.LogOk (Said hs made r) (TrimFine c hs sent r) (CloseFine c hs made sent r) (Reached r) (ShowFine c hs made sent r) (ReleaseFine c hs sent r) (SaidHere hs made r) (LngFine c hs sent r) l g → LogClean g
      → ClosedLast c hs made sent r → ((k : ℕ) (x : Entry) (y : Summary) → In (k, x) g.entries → x.number ≡ k → ClosedBy c hs made sent r l (epoch_of x.number) y → 0 < esn_of x.number → y.trim < x.number → esn_of x.number < y.end → (y.ballot ≤ x.ballot) ⊎ (esn_of x.number ≤ y.lng) → SaidHere hs made r l x.ballot x.number x.what → HoleFine made l x.number x.what)
      → (from : ℕ) (y : Summary) (k : ℕ) (x : Entry) → summary_at g (home_epoch from) ≡ Some y → In (k, x) g.entries → from ≤ x.number → x.number ≤ numbered (home_epoch from) (y.end - 1) → is_bridge x.what ≡ false → ClosedEntry c hs made sent r l x
  unfolding summary_at
  clean_entry l g O C L H from y k x f i lo hi content = elim (branch (home_epoch from == 0) (Some epoch_zero) (find (home_epoch from) g.summaries) (Some y) f) [
    | inl a ↦ absurd (let z = eqb-true _ _ a.0 in let e : epoch_zero ≡ y = Some_inj a.1 in let w = ap (λ (v : Summary). v.end) e in let p = said.given.place.above in omega arith)
    | inr a ↦ by_closed (eqb-false _ _ a.0) a.1 (O.summaries (home_epoch from, y) (find_in (home_epoch from) g.summaries y a.1)).1
  ] where
    said : SaidHere hs made r l x.ballot x.number x.what
    said = (O.entries (k, x) i).1

    key : x.number ≡ k
    key = (O.entries (k, x) i).0

    by_closed : (home_epoch from ≡ 0 → ⊥) → find (home_epoch from) g.summaries ≡ Some y → OfZero (home_epoch from) y ⊎ ClosedBy c hs made sent r l (home_epoch from) y → ClosedEntry c hs made sent r l x
    by_closed n q (inl z) = absurd (n z.0)
    by_closed n q (inr b) =
        let en = plan_ends l (home_epoch from) y.ballot b.plan.basis b.plan.planned in
        let ez = b.plan.end in
        let hl = home_low from in
        let pos = said.given.place.above in
        let tp = end_above_trim (home_epoch from) b.plan.basis.digest in
        let ep : home_epoch from ≡ epoch_of x.number = omega arith in
        let bb : ClosedBy c hs made sent r l (epoch_of x.number) y = subst (λ e. ClosedBy c hs made sent r l e y) ep b in
        let ff : find (epoch_of x.number) g.summaries ≡ Some y = subst (λ e. find e g.summaries ≡ Some y) ep q in
        let t = C.trims (epoch_of x.number) y ff in let ab = C.above (k, x) i in let kk = key in
        record {
          summary = y;
          closed = bb;
          says = kept_says l x y L bb (subst (λ n. (y.ballot ≤ x.ballot) ⊎ (esn_of n ≤ y.lng)) (sym key) (C.least (k, x) y i (subst (λ n. find (epoch_of n) g.summaries ≡ Some y) key ff))) (omega arith) pos (omega arith) said.says;
          below = omega arith;
          content = content;
          hole = H k x y i key bb pos (omega arith) (omega arith) (subst (λ n. (y.ballot ≤ x.ballot) ⊎ (esn_of n ≤ y.lng)) (sym key) (C.least (k, x) y i (subst (λ n. find (epoch_of n) g.summaries ≡ Some y) key ff))) said;
        }
