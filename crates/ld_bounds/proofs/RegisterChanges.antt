-- Each change of the register leaves it in its bounds, and no epoch falls.
use Rattle.std.proofs.Common.{inl, inr, ◌≡◌, ◌∙◌, ◌≤◌, ◌<◌, ℕ, ◌+◌, ◌-◌, ◌^◌, refl, ap, sym, subst, Bool, true, false, not, ◌||◌, ◌==◌, nat_lt, nat_le, cond, List, [], ◌∷◌, Option, Some, None, arith}
use Rattle.std.specs.Option.{unwrap_or}
use Rattle.std.specs.List.{AllByRecursion}
use Rattle.std.proofs.lemmas.Bool.{cond_both, leb-false, eqb-true, not-false}
use Rattle.ld_table.specs.Table.{find, put, Ordered}
use Rattle.ld_table.proofs.Laws.{put_cases}
use Rattle.ld_table.proofs.Order.{Ordered-put}
use Rattle.ld_ids.specs.Id.{IsNode}
use Rattle.ld_ids.specs.declared.set.Spec.{Spec}
use Rattle.ld_config.specs.declared.config.Config.{Config}
use Rattle.ld_msg.specs.declared.msg.Summary.{Summary}
use Rattle.ld_msg.specs.Bounds.{Is32, IsEpoch, IsSummary}
use Rattle.ld_msg.specs.Register.{Register, Epochs, Armed, Changed, Answer, Granted, AtLimit, Behind, Overtaken, Fails, is_overtaken, activate, close, draw, change, made, unmade, is_made, falls, journal_limit, record_length, no_epochs, epochs_of, generation_of, lce_of, with_epochs, next_epoch, closed_epochs, epoch_limit, generation_limit, swap, swap_limit, swap_count, swappable, swapped_spec, swapped_specs, swapped_epochs, closed_upto}
use Rattle.ld_config.specs.Bounds.{IsInBounds}
use Rattle.ld_machine.specs.Config.{has_log, has_node}
use Rattle.ld_node_bounds.specs.States.{IsClosed}
use Rattle.ld_bounds.specs.Specs.{IsSpecFor}
use Rattle.ld_bounds.specs.Registers.{IsClosedBy, IsFixed, IsEpochs, IsKnownLog, IsGeneration, IsRegister}
use Rattle.ld_node_bounds.proofs.Alls.{all-put, all-find}
use Rattle.ld_bounds.proofs.Alls.{all_weaker}
use Rattle.ld_bounds.proofs.SwappedSets.{swapped_is}

-- the same contents
abbrev pub Same : Register → Register → Type 0
Same r n = (n.logs ≡ r.logs) × (n.generations ≡ r.generations)

-- a register in its bounds, in which no epoch is below that of the one before
pub record Follows (c : Config) (r n : Register) : Type 0 where
  pub register : IsRegister c n
  pub up : (l : ℕ) → (epochs_of r l).epoch ≤ (epochs_of n l).epoch

-- ---- a change ----

-- how a change ends
record Changing (r next : Register) (Q : Register → Answer → Type 0) : Type 0 where
  granted : (n : Register) → Same next n → Q n Granted
  made_and_fails : (n : Register) → Same next n → Q n Fails
  fails : (n : Register) → Same r n → Q n Fails

module _ (r next : Register) (body : ℕ) (Q : Register → Answer → Type 0) (K : Changing r next Q) where
  by_fault : (t done : Bool) → Q (cond (not t || done) (made r next body) (unmade r)) (cond t Fails Granted)
  by_fault true true = K.made_and_fails (made r next body) (refl, refl)
  by_fault true false = K.fails (unmade r) (refl, refl)
  by_fault false done = K.granted (made r next body) (refl, refl)

  by_armed : (a : Option Armed) → Q (cond (is_made a) (made r next body) (unmade r)) (cond (falls a) Fails Granted)
  by_armed None = K.granted (made r next body) (refl, refl)
  by_armed (Some a) = by_fault (nat_le a.left 1) a.done

  by_limit : (full : Bool) → Q (cond full r (cond (is_made r.armed) (made r next body) (unmade r))) (cond (full || falls r.armed) Fails Granted)
  by_limit true = K.fails r (refl, refl)
  by_limit false = by_armed r.armed

  changed : Q (change r next body).register (change r next body).answer
  unfolding change
  changed = by_limit (nat_lt journal_limit (r.length + record_length body))

-- ---- what is kept ----

module _ (c : Config) where
  pub same_register : (r n : Register) → Same r n → IsRegister c r → IsRegister c n
  same_register r n s R = record {
    rise = subst Ordered (sym s.0) R.rise;
    logs = subst (AllByRecursion (IsKnownLog c)) (sym s.0) R.logs;
    generations = subst (AllByRecursion IsGeneration) (sym s.1) R.generations;
  }

  pub same_epochs : (r n : Register) (l : ℕ) → Same r n → epochs_of n l ≡ epochs_of r l
  same_epochs r n l s = ap (λ m. unwrap_or (find l m) no_epochs) s.0

  pub follows_same : (r next n : Register) → Same next n → Follows c r next → Follows c r n
  follows_same r next n s F = record { register = same_register next n s F.register; up = λ l. let u = F.up l in let e = ap (λ (x : Epochs). x.epoch) (same_epochs next n l s) in omega arith }

  pub follows_self : (r : Register) → IsRegister c r → Follows c r r
  follows_self r R = record { register = R; up = λ l. omega arith }

  changed_follows : (r next : Register) (body : ℕ) → IsRegister c r → Follows c r next → Follows c r (change r next body).register
  changed_follows r next body R F = changed r next body (λ n a. Follows c r n) (record {
    granted = λ n s. follows_same r next n s F;
    made_and_fails = λ n s. follows_same r next n s F;
    fails = λ n s. follows_same r r n s (follows_self r R);
  })

  or_none : (r : Register) (l : ℕ) (o : Option Epochs) → ((v : Epochs) → o ≡ Some v → IsEpochs c l v) → 1 ≤ (unwrap_or o no_epochs).epoch → IsEpochs c l (unwrap_or o no_epochs)
  or_none r l None f h = absurd (omega arith)
  or_none r l (Some v) f h = f v refl

  pub epochs_are : (r : Register) (l : ℕ) → IsRegister c r → 1 ≤ (epochs_of r l).epoch → IsEpochs c l (epochs_of r l)
  epochs_are r l R h = or_none r l (find l r.logs) (λ v e. (all-find (IsKnownLog c) l r.logs v R.logs e).epochs) h

  -- also of a log that has no epoch yet
  pub record Begun (l : ℕ) (v : Epochs) : Type 0 where
    pub epoch_most : v.epoch ≤ 2 ^ 32 - 2
    pub lce : v.lce ≤ v.epoch
    pub specs : AllByRecursion (IsFixed c l v.epoch) v.specs
    pub swapped : AllByRecursion (IsFixed c l v.epoch) v.swapped
    pub summaries : AllByRecursion (IsClosedBy v.lce) v.summaries

  or_not_begun : (l : ℕ) (o : Option Epochs) → ((v : Epochs) → o ≡ Some v → IsEpochs c l v) → Begun l (unwrap_or o no_epochs)
  or_not_begun l None f = record { epoch_most = omega arith; lce = omega arith; specs = tt; swapped = tt; summaries = tt }
  or_not_begun l (Some v) f = let e = f v refl in let z = e.lce in record { epoch_most = e.epoch.1; lce = omega arith; specs = e.specs; swapped = e.swapped; summaries = e.summaries }

  pub begun : (r : Register) (l : ℕ) → IsRegister c r → Begun l (epochs_of r l)
  begun r l R = or_not_begun l (find l r.logs) (λ v e. (all-find (IsKnownLog c) l r.logs v R.logs e).epochs)

  -- each summary of a log is one of the epoch under which it stands
  pub closed_summary : (r : Register) (l e : ℕ) (y : Summary) → IsRegister c r → find e (epochs_of r l).summaries ≡ Some y → IsClosed (e, y)
  closed_summary r l e y R h = let b = begun r l R in (all-find (IsClosedBy (epochs_of r l).lce) e (epochs_of r l).summaries y b.summaries h).summary

  with_follows : (r : Register) (l : ℕ) (v : Epochs) → IsRegister c r → has_log c l ≡ true → IsEpochs c l v → (epochs_of r l).epoch ≤ v.epoch → Follows c r (with_epochs r l v)
  with_follows r l v R h E u = record {
    register = record { rise = Ordered-put l v r.logs R.rise; logs = all-put (IsKnownLog c) l v r.logs (record { log = h; epochs = E }) R.logs; generations = R.generations };
    up = λ k. elim (put_cases k l v r.logs) [
      | inl a ↦ (let e = ap (λ o. (unwrap_or o no_epochs).epoch) a.1 in let z = ap (λ j. (epochs_of r j).epoch) a.0 in omega arith)
      | inr a ↦ (let e = ap (λ o. (unwrap_or o no_epochs).epoch) a.1 in omega arith)
    ];
  }

  -- ---- epochs ----
  still_fixed : (l epoch : ℕ) (m : List (ℕ × Spec)) → AllByRecursion (IsFixed c l epoch) m → AllByRecursion (IsFixed c l (epoch + 1)) m
  still_fixed l epoch m a = all_weaker (IsFixed c l epoch) (IsFixed c l (epoch + 1)) m (λ s b. record { from_one = b.from_one; handed_out = (let z = b.handed_out in omega arith); spec = b.spec }) a

  next_is : (r : Register) (l : ℕ) (s : Spec) → IsRegister c r → IsSpecFor c l s → (epochs_of r l).epoch < epoch_limit → IsEpochs c l (next_epoch (epochs_of r l) s)
  next_is r l s R S h = let b = begun r l R in let z = b.lce in let e : ℕ = (epochs_of r l).epoch in record {
    epoch = (omega arith, omega arith);
    lce = omega arith;
    specs = all-put (IsFixed c l (e + 1)) (e + 1) s (epochs_of r l).specs (record { from_one = omega arith; handed_out = omega arith; spec = S }) (still_fixed l e (epochs_of r l).specs b.specs);
    swapped = all-put (IsFixed c l (e + 1)) (e + 1) s (epochs_of r l).swapped (record { from_one = omega arith; handed_out = omega arith; spec = S }) (still_fixed l e (epochs_of r l).swapped b.swapped);
    summaries = b.summaries;
  }

  next_follows : (r : Register) (l : ℕ) (s : Spec) → IsRegister c r → has_log c l ≡ true → IsSpecFor c l s → (epochs_of r l).epoch < epoch_limit → Follows c r (with_epochs r l (next_epoch (epochs_of r l) s))
  next_follows r l s R h S b = with_follows r l (next_epoch (epochs_of r l) s) R h (next_is r l s R S b) (omega arith)

  pub activate_follows : (r : Register) (l : ℕ) (s : Spec) → IsRegister c r → has_log c l ≡ true → IsSpecFor c l s → Follows c r (activate r l s).register
  unfolding activate
  activate_follows r l s R h S = cond_both (nat_le epoch_limit (epochs_of r l).epoch) (record { register = r; answer = AtLimit }) (change r (with_epochs r l (next_epoch (epochs_of r l) s)) 13) (λ (d : Changed). Follows c r d.register)
      (λ t. follows_self r R) (λ t. changed_follows r (with_epochs r l (next_epoch (epochs_of r l) s)) 13 R (next_follows r l s R h S (leb-false epoch_limit (epochs_of r l).epoch t)))

  -- an epoch that was handed out
  pub record Handed (n : Register) (l : ℕ) : Type 0 where
    pub epoch : IsEpoch (epochs_of n l).epoch
    pub lce : lce_of n l < (epochs_of n l).epoch

  abbrev WhereGranted : ℕ → Register → Answer → Type 0
  WhereGranted l n a = a ≡ Granted → Handed n l

  handed_now : (r n : Register) (l : ℕ) (x : Spec) → IsRegister c r → (epochs_of r l).epoch < epoch_limit → Same (with_epochs r l (next_epoch (epochs_of r l) x)) n → Handed n l
  handed_now r n l x R h s =
      let b = begun r l R in let z = b.lce in
      let e : epochs_of n l ≡ next_epoch (epochs_of r l) x = same_epochs (with_epochs r l (next_epoch (epochs_of r l) x)) n l s ∙ there in
      let u = ap (λ (x : Epochs). x.epoch) e in let v = ap (λ (x : Epochs). x.lce) e in
      record { epoch = (omega arith, omega arith); lce = omega arith } where
        there : epochs_of (with_epochs r l (next_epoch (epochs_of r l) x)) l ≡ next_epoch (epochs_of r l) x
        there = elim (put_cases l l (next_epoch (epochs_of r l) x) r.logs) [ inl a ↦ ap (λ o. unwrap_or o no_epochs) a.1 | inr a ↦ absurd (a.0 refl) ]

  pub activate_hands : (r : Register) (l : ℕ) (x : Spec) → IsRegister c r → (activate r l x).answer ≡ Granted → Handed (activate r l x).register l
  unfolding activate
  activate_hands r l x R = cond_both (nat_le epoch_limit (epochs_of r l).epoch) (record { register = r; answer = AtLimit }) (change r (with_epochs r l (next_epoch (epochs_of r l) x)) 13) (λ (d : Changed). WhereGranted l d.register d.answer)
      (λ t h. absurd (let z : AtLimit ≡ Granted = h in cc))
      (λ t. changed r (with_epochs r l (next_epoch (epochs_of r l) x)) 13 (WhereGranted l) (record {
        granted = λ n s h. handed_now r n l x R (leb-false epoch_limit (epochs_of r l).epoch t) s;
        made_and_fails = λ n s h. absurd (let z : Fails ≡ Granted = h in cc);
        fails = λ n s h. absurd (let z : Fails ≡ Granted = h in cc);
      }))

  -- ---- closes ----
  earlier : (lce : ℕ) (m : List (ℕ × Summary)) → AllByRecursion (IsClosedBy lce) m → AllByRecursion (IsClosedBy (lce + 1)) m
  earlier lce m a = all_weaker (IsClosedBy lce) (IsClosedBy (lce + 1)) m (λ y b. record { closed = (let z = b.closed in omega arith); summary = b.summary }) a

  closed_is : (r : Register) (l e : ℕ) (y : Summary) → IsRegister c r → IsEpoch e → IsSummary e y → e < (epochs_of r l).epoch → lce_of r l + 1 ≡ e → IsEpochs c l (closed_epochs (epochs_of r l) e y)
  closed_is r l e y R i s u q = let E = epochs_are r l R (let z = i.0 in omega arith) in record {
    epoch = E.epoch;
    lce = u;
    specs = E.specs;
    swapped = E.swapped;
    summaries = all-put (IsClosedBy e) e y (epochs_of r l).summaries (record { closed = omega arith; summary = record { epoch = i; summary = s } }) (subst (λ k. AllByRecursion (IsClosedBy k) (epochs_of r l).summaries) q (earlier (lce_of r l) (epochs_of r l).summaries E.summaries));
  }

  pub close_follows : (r : Register) (l e : ℕ) (y : Summary) (short : Bool) → IsRegister c r → has_log c l ≡ true → IsEpoch e → IsSummary e y → e < (epochs_of r l).epoch → Follows c r (close r l e y short).register
  unfolding close
  close_follows r l e y short R h i s u = cond_both (not (lce_of r l + 1 == e)) (record { register = r; answer = Behind (lce_of r l) })
      (cond (is_overtaken (epochs_of r l) y short) (record { register = r; answer = Overtaken (epochs_of r l).epoch }) (change r (with_epochs r l (closed_epochs (epochs_of r l) e y)) 30)) (λ (d : Changed). Follows c r d.register)
      (λ t. follows_self r R)
      (λ t. cond_both (is_overtaken (epochs_of r l) y short) (record { register = r; answer = Overtaken (epochs_of r l).epoch }) (change r (with_epochs r l (closed_epochs (epochs_of r l) e y)) 30) (λ (d : Changed). Follows c r d.register)
      (λ o. follows_self r R)
      (λ o. changed_follows r (with_epochs r l (closed_epochs (epochs_of r l) e y)) 30 R (with_follows r l (closed_epochs (epochs_of r l) e y) R h (closed_is r l e y R i s u (eqb-true (lce_of r l + 1) e (not-false (lce_of r l + 1 == e) t))) (omega arith))))

  -- the answer to a close: a last closed epoch or a greatest one is in its bounds
  abbrev pub IsAnswered : Answer → Type 0
  IsAnswered (Behind lce) = lce ≤ 2 ^ 32 - 2
  IsAnswered (Overtaken k) = k ≤ 2 ^ 32 - 2
  IsAnswered _ = Unit {0}

  pub close_answers : (r : Register) (l e : ℕ) (y : Summary) (short : Bool) → IsRegister c r → IsAnswered (close r l e y short).answer
  unfolding close
  close_answers r l e y short R = let b = begun r l R in let p = b.epoch_most in let q = b.lce in
      cond_both (not (lce_of r l + 1 == e)) (record { register = r; answer = Behind (lce_of r l) })
      (cond (is_overtaken (epochs_of r l) y short) (record { register = r; answer = Overtaken (epochs_of r l).epoch }) (change r (with_epochs r l (closed_epochs (epochs_of r l) e y)) 30)) (λ (d : Changed). IsAnswered d.answer)
      (λ t. omega arith)
      (λ t. cond_both (is_overtaken (epochs_of r l) y short) (record { register = r; answer = Overtaken (epochs_of r l).epoch }) (change r (with_epochs r l (closed_epochs (epochs_of r l) e y)) 30) (λ (d : Changed). IsAnswered d.answer)
      (λ o. p)
      (λ o. changed r (with_epochs r l (closed_epochs (epochs_of r l) e y)) 30 (λ n a. IsAnswered a) (record { granted = λ n s. tt; made_and_fails = λ n s. tt; fails = λ n s. tt })))

  -- ---- swaps ----
  module _ (B : IsInBounds c) (upto old new : ℕ) (O : has_node c old ≡ true) (N : has_node c new ≡ true) where
    swapped_fixed : (l epoch : ℕ) (m : List (ℕ × Spec)) → AllByRecursion (IsFixed c l epoch) m → AllByRecursion (IsFixed c l epoch) (swapped_specs upto old new m)
    swapped_fixed l epoch [] a = tt
    swapped_fixed l epoch (s ∷ m) a = (record { from_one = a.0.from_one; handed_out = a.0.handed_out; spec = cond_both (nat_le s.0 upto) (swapped_spec old new s.1) s.1 (IsSpecFor c l) (λ t. swapped_is c B l s.1 old new O N a.0.spec) (λ t. a.0.spec) }, swapped_fixed l epoch m a.1)

    -- where some epoch changes, one was handed out
    some_handed : (l epoch : ℕ) (m : List (ℕ × Spec)) → AllByRecursion (IsFixed c l epoch) m → (swap_count upto old new m == 0) ≡ false → 1 ≤ epoch
    some_handed l epoch [] a h = absurd cc
    some_handed l epoch (s ∷ m) a h = let x = a.0.from_one in let y = a.0.handed_out in omega arith

  swap_epochs : IsInBounds c → (r : Register) (l upto old new : ℕ) → IsRegister c r → has_node c old ≡ true → has_node c new ≡ true → (swappable r l upto old new == 0) ≡ false → IsEpochs c l (swapped_epochs (epochs_of r l) upto old new)
  swap_epochs B r l upto old new R O N h = let b = begun r l R in let v : Epochs = epochs_of r l in let E = epochs_are r l R (some_handed B (closed_upto v upto) old new O N l v.epoch v.swapped b.swapped h) in record {
    epoch = E.epoch;
    lce = E.lce;
    specs = E.specs;
    swapped = swapped_fixed B (closed_upto v upto) old new O N l v.epoch v.swapped b.swapped;
    summaries = E.summaries;
  }

  pub swap_follows : IsInBounds c → (r : Register) (l upto old new : ℕ) → IsRegister c r → has_log c l ≡ true → has_node c old ≡ true → has_node c new ≡ true → Follows c r (swap r l upto old new).register
  unfolding swap
  swap_follows B r l upto old new R h O N = let next : Register = with_epochs r l (swapped_epochs (epochs_of r l) upto old new) in
      cond_both (swappable r l upto old new == 0) (record { register = r; answer = Granted }) (cond (nat_le swap_limit (epochs_of r l).swaps) (record { register = r; answer = AtLimit }) (change r next 11)) (λ (d : Changed). Follows c r d.register)
      (λ t. follows_self r R)
      (λ t. cond_both (nat_le swap_limit (epochs_of r l).swaps) (record { register = r; answer = AtLimit }) (change r next 11) (λ (d : Changed). Follows c r d.register) (λ u. follows_self r R)
      (λ u. changed_follows r next 11 R (with_follows r l (swapped_epochs (epochs_of r l) upto old new) R h (swap_epochs B r l upto old new R O N t) (omega arith))))

  -- ---- generations ----
  or_first : (o : Option ℕ) → ((g : ℕ) → o ≡ Some g → Is32 g) → Is32 (unwrap_or o 0)
  or_first None f = omega arith
  or_first (Some g) f = f g refl

  pub generation_is : (r : Register) (n : ℕ) → IsRegister c r → Is32 (generation_of r n)
  generation_is r n R = or_first (find n r.generations) (λ g h. (all-find IsGeneration n r.generations g R.generations h).generation)

  drawn_follows : (r : Register) (n : ℕ) → IsRegister c r → IsNode n → generation_of r n < generation_limit → Follows c r (record r { generations = put n (generation_of r n + 1) r.generations })
  drawn_follows r n R i h = record { register = record { rise = R.rise; logs = R.logs; generations = all-put IsGeneration n (generation_of r n + 1) r.generations (record { node = i; generation = omega arith }) R.generations }; up = λ l. omega arith }

  pub draw_follows : (r : Register) (n : ℕ) → IsRegister c r → IsNode n → Follows c r (draw r n).register
  unfolding draw
  draw_follows r n R i = cond_both (nat_le generation_limit (generation_of r n)) (record { register = r; answer = AtLimit }) (change r (record r { generations = put n (generation_of r n + 1) r.generations }) 6) (λ (d : Changed). Follows c r d.register)
      (λ t. follows_self r R) (λ t. changed_follows r (record r { generations = put n (generation_of r n + 1) r.generations }) 6 R (drawn_follows r n R i (leb-false generation_limit (generation_of r n) t)))
