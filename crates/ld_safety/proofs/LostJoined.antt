-- Along every run nodes keep what was settled; so losses happened, and stood at the confirming asks.
use Rattle.std.proofs.Common.{◌≡◌, ◌∙◌, ◌⊎◌, ◌≤◌, ◌<◌, ℕ, inl, inr, refl, sym, subst, Bool, true, false, nat_le, if◌then◌else◌, List, [], Some, arith}
use Rattle.std.proofs.lemmas.Bool.{cases_Bool, cases_lt, leb-true, leb-false, le-leb}
use Rattle.ld_table.specs.Table.{find}
use Rattle.ld_table.specs.Words.{how_many}
use Rattle.ld_lsn.specs.Number.{epoch_of, esn_of, numbered, home_epoch, last_esn}
use Rattle.ld_config.specs.declared.config.Config.{Config}
use Rattle.ld_config.specs.Bounds.{IsInBounds}
use Rattle.ld_schedule.specs.declared.event.Event.{Event}
use Rattle.ld_msg.specs.declared.msg.Summary.{Summary}
use Rattle.ld_msg.specs.Register.{epochs_of}
use Rattle.ld_msg.specs.Reader.{Reader}
use Rattle.ld_op.specs.Plain.{Plain, log_of}
use Rattle.ld_machine.specs.Config.{fixed_of, fixed_at}
use Rattle.ld_machine.specs.State.{node_at}
use Rattle.ld_machine.specs.Facts.{Happened}
use Rattle.ld_machine.specs.Losses.{Completes}
use Rattle.ld_machine.specs.Safe.{LossesHappened, Safe}
use Rattle.ld_machine.specs.World.{World, In, begin, MayHold, settled, has_told, says_stored, says_settled}
use Rattle.ld_machine.specs.Invariant.{Closed, Ready}
use Rattle.ld_machine.specs.Run.{history, trace, world_after}
use Rattle.ld_safety.specs.Lost.{CopiesWereLost, LossesWereTold}
use Rattle.ld_safety.proofs.Lists.{Some_inj}
use Rattle.ld_safety.proofs.Members.{find_in}
use Rattle.ld_safety.proofs.Traces.{Keeps, later, both_kept, beside_kept}
use Rattle.ld_safety.proofs.Lines.{line_of}
use Rattle.ld_safety.proofs.Events.{delivery}
use Rattle.ld_safety.proofs.LossPlans.{plan_says}
use Rattle.ld_safety.proofs.Base.{Base, base_kept}
use Rattle.ld_safety.proofs.GivenSteps.{BaseGiven}
use Rattle.ld_safety.proofs.Registers.{Reached}
use Rattle.ld_safety.proofs.Specs.{SpecFine, SetsFine, start_fine, fixed_fine, fine_step}
use Rattle.ld_safety.proofs.Protocol.{plan_of, told_stored, told_settled}
use Rattle.ld_safety.proofs.Settled.{ClosedBy}
use Rattle.ld_safety.proofs.Shown.{plan_ends}
use Rattle.ld_safety.proofs.Along.{Along}
use Rattle.ld_safety.proofs.CopiesStand.{has_plan, once, said_at, clean_at}
use Rattle.ld_safety.proofs.Closes.{how}
use Rattle.ld_safety.proofs.Retained.{at_nodes}
use Rattle.ld_safety.proofs.LostTrims.{TrimsTold, trims_kept}
use Rattle.ld_safety.proofs.LostEntries.{Accounts, above, below, item_at, good_accounts, close_accounts, lost_accounts, fallen_accounts}
use Rattle.ld_safety.proofs.Fallen.{Fallen}
use Rattle.ld_safety.proofs.LostTold.{told_copied}
use Rattle.ld_safety.proofs.Joins.{Joins}
use Rattle.ld_safety.proofs.LostPlans.{Telling, PlansLacked, lacked_kept, made_of_lost}
use Rattle.ld_safety.proofs.LostLines.{LossGiven, losses_given}
use Rattle.ld_safety.proofs.LostPlugs.{LossPlan, told_planned}
use Rattle.ld_safety.proofs.LostPages.{CleanKept, place_in}
use Rattle.ld_safety.proofs.LostLaw.{LossesTold}
use Rattle.ld_safety.proofs.LostSettled as settled_losses
use Rattle.ld_safety.proofs.Tiles as tiles
use Rattle.ld_safety.proofs.GivenItems as items
use Rattle.ld_safety.proofs.Unhidden as unhidden
use Rattle.ld_safety.proofs.Numbers as numbers
use Rattle.ld_machine.specs.Calm as Calm
use Rattle.ld_safety.proofs.Numbered as numbered
use Rattle.ld_safety.proofs.Styles as styles

-- ---- numbers ----

-- epoch 0 ends before its offset 1
no_place : (e s end t : ℕ) → e ≡ 0 → end ≡ 1 → t < s → s < numbered e end → ⊥
no_place e s end t a b c d = omega arith

number_is : (e s : ℕ) → e ≡ epoch_of s → numbered e (esn_of s) ≡ s
number_is e s q = omega arith

module _ (c : Config) (hs : List Happened) (w : World) (B : BaseGiven c hs w × Along c hs w) where
  -- ---- closed epochs ----
  abbrev ClosedHere : ℕ → ℕ → Summary → Type 0
  ClosedHere l e z = ClosedBy c hs w.made w.state.network.sent w.state.register l e z

  closed_by : (l e : ℕ) (z : Summary) → Closed w l e z → 0 < e → ClosedHere l e z
  closed_by l e z f p = elim (B.1.said.register l e z f).1 [ inl a ↦ absurd (let u = a.0 in omega arith) | inr a ↦ a ]

  ends_by : (l e : ℕ) (z : Summary) → ClosedHere l e z → z.end ≤ last_esn
  ends_by l e z k = let n = plan_ends c hs w.made w.state.network.sent w.state.register (once c hs w B.0.0 B.1) B.1.once B.1.plans B.1.last l e z.ballot k.plan.basis k.plan.planned in let m = k.plan.end in omega arith

  pub bounded_here : (l e : ℕ) (z : Summary) → Closed w l e z → 0 < e → (e ≤ (epochs_of w.state.register l).epoch) × (z.end ≤ last_esn)
  bounded_here l e z f p =
      let k = closed_by l e z f p in
      let b = B.1.below l e z.ballot k.plan.basis k.plan.planned in
      let t = (B.1.plans l e z.ballot k.plan.basis k.plan.planned).later in
      (omega arith, ends_by l e z k)

  pub summaries_here : (y l e : ℕ) (p : Plain) (z : Summary) → MayHold (node_at w.state y) p → 0 < e → find e (log_of p l).summaries ≡ Some z → Closed w l e z × (z.trim ≤ (log_of p l).trim)
  summaries_here y l e p z m pos f = elim ((said_at c hs w B y p m l).summaries (e, z) (find_in e (log_of p l).summaries z f)).1 [
    | inl a ↦ absurd (let u = a.0 in omega arith)
    | inr a ↦ (a.found_so, (clean_at c hs w B y p m l).trims e z f)
  ]

  -- ---- a number between the closing plan's trim and its end ----
  record Inside (l s : ℕ) (z : Summary) : Type 0 where
    closed : ClosedHere l (epoch_of s) z
    home : home_epoch s ≡ epoch_of s
    place : 0 < esn_of s
    below : esn_of s < z.end

  inside : (l s : ℕ) (z : Summary) → Closed w l (home_epoch s) z → z.trim < s → s < numbered (home_epoch s) z.end → Inside l s z
  inside l s z f lo hi = elim (B.1.said.register l (home_epoch s) z f).1 [
    | inl a ↦ absurd (no_place (home_epoch s) s z.end z.trim a.0 a.1 lo hi)
    | inr a ↦ let q = place_in s z.end a.positive hi (ends_by l (home_epoch s) z a) in record { closed = subst (λ e. ClosedHere l e z) q.0 a; home = q.0; place = q.1; below = q.2 }
  ]

  -- of the number's own epoch
  abbrev EnoughHere : ℕ → ℕ → Summary → ℕ → Type 0
  EnoughHere l s z e = (fixed_of c w.state.register l e).r ≤ how_many (told_copied w l s z) (fixed_at c w.state.register l e)

  abbrev Copies_in : ℕ → ℕ → Summary → Bool → Type 0
  Copies_in l s z b = (fixed_of c w.state.register l (epoch_of s)).r ≤ how_many (λ y. if b then has_told w (says_stored s) l (epoch_of s) y else has_told w (says_settled s) l z.ballot y) (fixed_at c w.state.register l (epoch_of s))

  at_good : (l s : ℕ) (z : Summary) (b : Bool) → nat_le (esn_of s) z.lng ≡ b → Copies_in l s z b → EnoughHere l s z (epoch_of s)
  at_good l s z b t h = subst (Copies_in l s z) (sym t) h

  good_enough : (l s : ℕ) (z : Summary) → Inside l s z → esn_of s ≤ z.lng → EnoughHere l s z (epoch_of s)
  good_enough l s z i low = at_good l s z true (le-leb (esn_of s) z.lng low) (i.closed.plan.good s refl i.place low).chosen

  above_good : (l s : ℕ) (z : Summary) → z.lng < esn_of s → nat_le (esn_of s) z.lng ≡ false
  above_good l s z up = elim (cases_Bool (nat_le (esn_of s) z.lng)) [ inl t ↦ absurd (let u = leb-true _ _ t in omega arith) | inr t ↦ t ]

  settled_enough : (l s : ℕ) (z : Summary) → z.lng < esn_of s → settled c w l s z.ballot ≡ true → EnoughHere l s z (epoch_of s)
  unfolding settled
  settled_enough l s z up h = at_good l s z false (above_good l s z up) (leb-true _ _ h)

  module _ (T : TrimsTold w) (l s : ℕ) (z : Summary) (f : Closed w l (home_epoch s) z) (lo : z.trim < s) (hi : s < numbered (home_epoch s) z.end) where
    i : Inside l s z
    i = inside l s z f lo hi

    home_enough : EnoughHere l s z (epoch_of s) → EnoughHere l s z (home_epoch s)
    home_enough h = subst (EnoughHere l s z) (sym i.home) h

    at_home : (p : Plain) → Accounts p l (epoch_of s) s → Accounts p l (home_epoch s) s
    at_home p h = subst (λ e. Accounts p l e s) (sym i.home) h

    -- who answered accounts for the number
    pub kept_here : (y : ℕ) (p : Plain) → told_copied w l s z y ≡ true → MayHold (node_at w.state y) p → Accounts p l (home_epoch s) s
    kept_here y p t m = at_home p (by_good (nat_le (esn_of s) z.lng) refl t) where
      by_good : (b : Bool) → nat_le (esn_of s) z.lng ≡ b → (if b then has_told w (says_stored s) l (epoch_of s) y else has_told w (says_settled s) l z.ballot y) ≡ true → Accounts p l (epoch_of s) s
      by_good true q h = good_accounts c hs w B T l s z i.closed i.place i.below (leb-true _ _ q) y p m (told_stored w.state.network.sent l s (epoch_of s) y h)
      by_good false q h = close_accounts c hs w B T l s z i.closed i.place i.below lo (leb-false _ _ q) y p m (told_settled w.state.network.sent l s z.ballot y h)

    -- so does who took a place in the epoch
    pub joined_here : (y : ℕ) (p : Plain) → Joins w.joined l (home_epoch s) y → MayHold (node_at w.state y) p → Accounts p l (home_epoch s) s
    joined_here y p j m = at_home p (fallen_accounts c hs w B T l s z i.closed i.place i.below y p m (subst (Fallen p l) i.home ((B.1.joined l (home_epoch s) y j).fallen p m)))

    -- as many answered as there are copies, or each node accounts for it
    pub settled_here : EnoughHere l s z (home_epoch s) ⊎ ((y : ℕ) (p : Plain) → In y (fixed_at c w.state.register l (home_epoch s)) → MayHold (node_at w.state y) p → Accounts p l (home_epoch s) s)
    settled_here = elim (cases_lt z.lng (esn_of s)) [
      | inr low ↦ inl (home_enough (good_enough l s z i low))
      | inl up ↦ elim i.closed.plan.how [
        | inl h ↦ inl (home_enough (at_good l s z false (above_good l s z up) (h.copies s refl (above c hs w B T l s z i.closed i.place i.below lo up) (let v = below c hs w B T l s z i.closed i.place i.below in omega arith))))
        | inr h ↦ inr (λ y p j m. at_home p (elim (h.settled s refl (above c hs w B T l s z i.closed i.place i.below lo up) (let v = below c hs w B T l s z i.closed i.place i.below in omega arith) y (subst (λ e. In y (fixed_at c w.state.register l e)) i.home j)) [
          | inl t ↦ close_accounts c hs w B T l s z i.closed i.place i.below lo up y p m (told_settled w.state.network.sent l s z.ballot y t)
          | inr t ↦ lost_accounts c hs w B T l s z i.closed i.place i.below y p m t
        ]))
      ]
    ]

    -- as many answered where it was known good, or the closing plan was settled
    pub enough_here : (esn_of s ≤ z.lng) ⊎ Ready c w l (home_epoch s) z.ballot → EnoughHere l s z (home_epoch s)
    enough_here h = elim (cases_lt z.lng (esn_of s)) [
      | inr low ↦ home_enough (good_enough l s z i low)
      | inl up ↦ elim h [
        | inl low ↦ absurd (omega arith)
        | inr r ↦ (let k = i.closed.plan in let late = (B.1.plans l (epoch_of s) z.ballot k.basis k.planned).later in
            home_enough (settled_enough l s z up (r s _ (sym i.home) (plan_says w l s z.ballot (plan_of l (epoch_of s) z.ballot k.basis) _ late (has_plan l (epoch_of s) z.ballot w.made k.basis B.1.once k.planned) (item_at c hs w B T l s z i.closed i.place i.below lo up)))))
      ]
    ]

-- nodes keep what was settled
pub clean_kept : (c : Config) (hs : List Happened) (w : World) → (BaseGiven c hs w × Along c hs w) × TrimsTold w → CleanKept c w
clean_kept c hs w (B, T) = record {
  follow = B.1.follow;
  each = B.1.each;
  bounded = bounded_here c hs w B;
  summaries = summaries_here c hs w B;
  tables = λ y l p m. let F = (at_nodes c hs w B.1 y p m).fine l in (F.rising, F.numbers);
  copies = λ y l s z p f lo hi t m. kept_here c hs w B T l s z f lo hi y p t m;
  joined = λ y l s z p f lo hi j m. joined_here c hs w B T l s z f lo hi y p j m;
  settled = λ l s z f lo hi. settled_here c hs w B T l s z f lo hi;
  enough = λ l s z f lo hi h. enough_here c hs w B T l s z f lo hi h;
  how = λ l e z f p. how c hs w B l e z (closed_by c hs w B l e z f p);
}

-- ---- along a run ----
abbrev Settling : Config → List Happened → World → Type 0
Settling c hs w = (Telling c hs w × PlansLacked c hs w) × (((BaseGiven c hs w × Along c hs w) × TrimsTold w) × (Base c hs w × SetsFine w.state))

settling_kept : (c : Config) → IsInBounds c → Keeps c (Settling c)
unfolding find
settling_kept c b = both_kept c (λ hs w. Telling c hs w × PlansLacked c hs w) (λ hs w. ((BaseGiven c hs w × Along c hs w) × TrimsTold w) × (Base c hs w × SetsFine w.state)) (lacked_kept c)
    (both_kept c (λ hs w. (BaseGiven c hs w × Along c hs w) × TrimsTold w) (λ hs w. Base c hs w × SetsFine w.state) (trims_kept c)
    (beside_kept c (Base c) (λ hs w. SetsFine w.state) (base_kept c) (start_fine c) (λ hs w e B C D. fine_step c b w.state e B.0.0 D)))

settling_clean : (c : Config) (hs : List Happened) (w : World) → Settling c hs w → CleanKept c w
settling_clean c hs w S = clean_kept c hs w S.1.0

-- an epoch that was handed out has as many nodes as it has copies
settling_fine : (c : Config) → IsInBounds c → (hs : List Happened) (w : World) → Settling c hs w → (l e : ℕ) → Reached w.state.register l e → SpecFine (fixed_of c w.state.register l e)
settling_fine c b hs w S l e o = fixed_fine c b w.state.register l e S.1.1.1.1 (S.0.0.1.0.1.0.1 l (let a = o.0 in let z = o.1 in omega arith)) o

told_lost : (c : Config) → LossesTold c (Settling c)
told_lost c hs w K name d f m s t low high n h a b =
    let B = K.1.0.0.0 in
    let p = told_planned c hs w B.0.0 B.1 name d f m s t low high n h a b in
    K.1.0.1 d.log (home_epoch n) p.0 p.1 p.2 p.3

-- ---- the laws ----
pub losses_happened : (c : Config) (es : List Event) → IsInBounds c → LossesHappened c (history c es)
losses_happened c es b = settled_losses.happened c (Settling c) (settling_clean c) (settling_fine c b) (settling_kept c b) (told_lost c) es

pub copies_were_lost : CopiesWereLost
copies_were_lost c name l s round before asks between gives b E = settled_losses.stood c (Settling c) (settling_clean c) (settling_fine c b) (settling_kept c b) name l s round before asks between gives E

-- what was lost without a confirmation
pub losses_were_told : LossesWereTold
losses_were_told c name low high n before gives d b f i not_so a h =
    let w = world_after c (begin c) before in
    let S = later c (Settling c) (settling_kept c b) [] (begin c) before (settling_kept c b).begins in
    let B = S.0.0.0 in
    let g = losses_given c w.state gives B.0.0.0.0 name low high (line_of (Calm.moves c w.state gives) _ (λ h. cc) i) in
    let same : g.reader ≡ d = Some_inj (sym g.named ∙ f) in
    let p = by_cause w (trace c (begin c) before) B.0.0 B.1 g (subst (λ (x : Reader). Completes w x gives → low ≡ x.next → high ≡ x.next → ⊥) (sym same) not_so) same in
    record {
      ballot = p.0;
      plan = plan_of d.log (home_epoch n) p.0 p.1;
      there = has_plan d.log (home_epoch n) p.0 w.made p.1 B.1.once p.2;
      says = p.3;
      moment = made_of_lost c before d.log (home_epoch n) p.0 p.1 p.2 p.3;
    } where
      by_cause : (w : World) (hs : List Happened) → Base c hs w → Along c hs w → (g : LossGiven w.state gives name low high) → (Completes w g.reader gives → low ≡ g.reader.next → high ≡ g.reader.next → ⊥) → g.reader ≡ d → LossPlan w.made d.log (home_epoch n)
      by_cause w hs B R g not_so same = elim g.how [
        | inl z ↦ absurd (let x = delivery w.state gives g.message g.delivers in not_so (record { index = x.0; delivers = x.1; answer = g.message; there = x.2; for_reader = g.to; complete = z.confirmed }) z.first z.last)
        | inr z ↦ (let p = told_planned c hs w B R name g.reader g.named g.message g.sent g.to low high n z a h in
            subst (λ (x : Reader). LossPlan w.made x.log (home_epoch n)) same p)
      ]

-- all of these laws at once
pub every_run_is_safe : (c : Config) (es : List Event) → IsInBounds c → Safe c (history c es)
every_run_is_safe c es b = record {
  tiles = tiles.items_tile c es;
  records = items.records c es;
  batches = items.batches c es;
  styles = styles.styles_are_kept c es;
  hidden = unhidden.nothing_hidden c es;
  trims = items.trims c es;
  losses = losses_happened c es b;
  rise = numbers.rise c es;
  differ = numbers.differ c es;
  one = numbered.one_number c es b;
  epochs = numbered.numbers_have_epochs c es b;
  acked = numbered.acks_appended c es b;
  released = numbered.releases_acked c es b;
}
