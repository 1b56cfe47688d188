-- What a clean page shows, and what a lost node knows of an epoch's end, where nodes keep what was settled.
use Rattle.std.proofs.Common.{◌≡◌, ◌∙◌, ◌⊎◌, ◌≤◌, ◌<◌, ℕ, ◌+◌, ◌-◌, ◌*◌, ◌^◌, inl, inr, refl, ap, sym, subst, Bool, true, false, not, ◌&&◌, ◌==◌, nat_lt, nat_le, cond, if◌then◌else◌, List, [], ◌∷◌, take, Some, is_some, arith}
use Rattle.std.proofs.lemmas.Bool.{cases_Bool, and_parts, and_from, eqb-true, eqb-false, leb-true, le-leb, lt-ltb, eq-eqb, cases_order}
use Rattle.ld_table.specs.Table.{find}
use Rattle.ld_table.specs.Words.{values, how_many}
use Rattle.ld_lsn.specs.Number.{epoch_of, esn_of, numbered, home_epoch, home_esn, is_epoch_end, last_esn}
use Rattle.ld_config.specs.declared.config.Config.{Config}
use Rattle.ld_msg.specs.declared.msg.Entry.{Entry}
use Rattle.ld_msg.specs.declared.msg.Summary.{Summary}
use Rattle.ld_msg.specs.Digest.{is_bridge}
use Rattle.ld_msg.specs.Reading.{entry_at}
use Rattle.ld_msg.specs.Register.{epochs_of}
use Rattle.ld_op.specs.Plain.{Plain, log_of, is_lost, summary_at, epoch_zero}
use Rattle.ld_op.specs.Answers.{readable, entries_within, page_upto, page_limit}
use Rattle.ld_machine.specs.Config.{fixed_of, fixed_at}
use Rattle.ld_machine.specs.State.{node_at}
use Rattle.ld_machine.specs.World.{World, In, MayHold, Unserved}
use Rattle.ld_machine.specs.Invariant.{Closed, Ready}
use Rattle.ld_safety.specs.Closes.{ClosedFully, ClosedShort}
use Rattle.ld_safety.proofs.Lists.{Some_inj, not_both, cond_both}
use Rattle.ld_safety.proofs.Members.{In_filter, filter_in, find_in}
use Rattle.ld_safety.proofs.Rising.{Rising, rising_values, rising_filter, page_has}
use Rattle.ld_safety.proofs.CarriedNodes.{upto_cases}
use Rattle.ld_safety.proofs.LostUnserved.{AllUnserved}
use Rattle.ld_safety.proofs.LostTold.{told_copied}
use Rattle.ld_safety.proofs.Joins.{Joins, SetsFollow}
use Rattle.ld_safety.proofs.Registers.{EachClosed}
use Rattle.ld_safety.proofs.LostEntries.{Accounts}

-- as many nodes as there are copies answered for the number
abbrev pub Enough : Config → World → ℕ → ℕ → Summary → Type 0
Enough c w l s z = (fixed_of c w.state.register l (home_epoch s)).r ≤ how_many (told_copied w l s z) (fixed_at c w.state.register l (home_epoch s))

-- what is asked of the nodes of a state
pub record CleanKept (c : Config) (w : World) : Type 0 where
  -- what swaps left of sets follows what was fixed
  pub follow : SetsFollow w.joined w.state.register
  pub each : EachClosed w.state.register
  -- a closed epoch was handed out, and ends at an offset
  pub bounded : (l e : ℕ) (z : Summary) → Closed w l e z → 0 < e → (e ≤ (epochs_of w.state.register l).epoch) × (z.end ≤ last_esn)
  -- a node's summaries are the register's, and it is trimmed as they say
  pub summaries : (y l e : ℕ) (p : Plain) (z : Summary) → MayHold (node_at w.state y) p → 0 < e → find e (log_of p l).summaries ≡ Some z → Closed w l e z × (z.trim ≤ (log_of p l).trim)
  pub tables : (y l : ℕ) (p : Plain) → MayHold (node_at w.state y) p → Rising (log_of p l).entries × ((q : ℕ × Entry) → In q (log_of p l).entries → q.1.number ≡ q.0)
  -- each node that answered for a number between the closing plan's trim and its end is blank, lost for the epoch, trimmed there, or has the number
  pub copies : (y l s : ℕ) (z : Summary) (p : Plain) → Closed w l (home_epoch s) z → z.trim < s → s < numbered (home_epoch s) z.end → told_copied w l s z y ≡ true → MayHold (node_at w.state y) p → Accounts p l (home_epoch s) s
  -- so is each node that took a place in its epoch
  pub joined : (y l s : ℕ) (z : Summary) (p : Plain) → Closed w l (home_epoch s) z → z.trim < s → s < numbered (home_epoch s) z.end → Joins w.joined l (home_epoch s) y → MayHold (node_at w.state y) p → Accounts p l (home_epoch s) s
  -- as many nodes as there are copies answered for it, or each node of the epoch is so
  pub settled : (l s : ℕ) (z : Summary) → Closed w l (home_epoch s) z → z.trim < s → s < numbered (home_epoch s) z.end → Enough c w l s z ⊎ ((y : ℕ) (p : Plain) → In y (fixed_at c w.state.register l (home_epoch s)) → MayHold (node_at w.state y) p → Accounts p l (home_epoch s) s)
  -- as many did where it was known good, or each item of the closing plan was settled
  pub enough : (l s : ℕ) (z : Summary) → Closed w l (home_epoch s) z → z.trim < s → s < numbered (home_epoch s) z.end → (esn_of s ≤ z.lng) ⊎ Ready c w l (home_epoch s) z.ballot → Enough c w l s z
  -- the epoch was closed fully, or short
  pub how : (l e : ℕ) (z : Summary) → Closed w l e z → 0 < e → ClosedFully c w l e z ⊎ ClosedShort c w l e z

-- ---- numbers ----
pub home_is : (s e : ℕ) → e * 2 ^ 32 < s → s < e * 2 ^ 32 + 2 ^ 32 → (home_epoch s ≡ e) × (epoch_of s ≡ e)
home_is s e a b = (cond_both (is_epoch_end s) (epoch_of s - 1) (epoch_of s) (λ h. h ≡ e) (λ t. absurd (let p = and_parts (esn_of s == 0) (nat_lt 0 (epoch_of s)) t in let q = eqb-true (esn_of s) 0 p.0 in omega arith)) (λ t. omega arith), omega arith)

-- a number below an end of its epoch stands at an offset of it
pub place_in : (s k : ℕ) → 0 < home_epoch s → s < numbered (home_epoch s) k → k ≤ last_esn → (home_epoch s ≡ epoch_of s) × (0 < esn_of s) × (esn_of s < k)
place_in s k = by_end (is_epoch_end s) refl where
  by_end : (b : Bool) → is_epoch_end s ≡ b → 0 < (if b then epoch_of s - 1 else epoch_of s) → s < numbered (if b then epoch_of s - 1 else epoch_of s) k → k ≤ last_esn → ((if b then epoch_of s - 1 else epoch_of s) ≡ epoch_of s) × (0 < esn_of s) × (esn_of s < k)
  by_end true t p h b = absurd (let u = and_parts (esn_of s == 0) (nat_lt 0 (epoch_of s)) t in let v = eqb-true (esn_of s) 0 u.0 in omega arith)
  by_end false t p h b = (refl, above, omega arith) where
    above : 0 < esn_of s
    above = elim (cases_Bool (esn_of s == 0)) [
      | inl u ↦ absurd (not_both (is_epoch_end s) (and_from (esn_of s == 0) (nat_lt 0 (epoch_of s)) u (lt-ltb 0 (epoch_of s) p)) t)
      | inr u ↦ let v = eqb-false (esn_of s) 0 u in elim (cases_order (esn_of s) 0) [ inl q ↦ absurd (v q) | inr (inl q) ↦ absurd (omega arith) | inr (inr q) ↦ q ]
    ]

-- a number whose offset is below the last one
pub home_place : (f k : ℕ) → home_esn f < k → k ≤ last_esn → (0 < home_epoch f → home_epoch f * 2 ^ 32 < f) × (home_epoch f * 2 ^ 32 ≤ f) × (f < home_epoch f * 2 ^ 32 + k)
home_place f k = by_end (is_epoch_end f) refl where
  by_end : (b : Bool) → is_epoch_end f ≡ b → (if b then 2 ^ 32 else esn_of f) < k → k ≤ last_esn → (0 < (if b then epoch_of f - 1 else epoch_of f) → (if b then epoch_of f - 1 else epoch_of f) * 2 ^ 32 < f) × ((if b then epoch_of f - 1 else epoch_of f) * 2 ^ 32 ≤ f) × (f < (if b then epoch_of f - 1 else epoch_of f) * 2 ^ 32 + k)
  by_end true t a b = absurd (omega arith)
  by_end false t a b = (
    λ z. elim (cases_Bool (esn_of f == 0)) [
      | inl u ↦ absurd (let v : is_epoch_end f ≡ true = and_from (esn_of f == 0) (nat_lt 0 (epoch_of f)) u (lt-ltb 0 (epoch_of f) z) in not_both _ v t)
      | inr u ↦ let v = eqb-false (esn_of f) 0 u in elim (cases_order (esn_of f) 0) [ inl k ↦ absurd (v k) | inr (inl k) ↦ absurd (omega arith) | inr (inr k) ↦ omega arith ]
    ],
    omega arith,
    omega arith,
  )

-- ---- lists ----
in_values : (k : ℕ) (f : Entry) (m : List (ℕ × Entry)) → In (k, f) m → In f (values m)
in_values k f [] i = absurd i
in_values k f (e ∷ m) (inl q) = inl (ap (λ (x : ℕ × Entry). x.1) q)
in_values k f (e ∷ m) (inr i) = inr (in_values k f m i)

shown_at : (s : ℕ) (f : Entry) (es : List Entry) → In f es → f.number ≡ s → is_some (entry_at s es) ≡ true
shown_at s f [] i n = absurd i
shown_at s f (e ∷ es) i n = by_test (e.number == s) refl i (λ j. shown_at s f es j n) where
  by_test : (b : Bool) → (e.number == s) ≡ b → In f (e ∷ es) → (In f es → is_some (entry_at s es) ≡ true) → is_some (cond b (Some e.what) (entry_at s es)) ≡ true
  by_test true q j ih = refl
  by_test false q (inl z) ih = absurd (not_both (e.number == s) (eq-eqb e.number s (sym (ap (λ (x : Entry). x.number) z) ∙ n)) q)
  by_test false q (inr j) ih = ih j

-- ---- a clean page ----
pub record CleanPage (c : Config) (w : World) (y l from upto : ℕ) (es : List Entry) : Type 0 where
  pub summary : Summary
  pub closed : Closed w l (home_epoch from) summary
  pub above : summary.trim < from
  pub positive : 0 < home_epoch from
  pub starts : home_epoch from * 2 ^ 32 < from
  pub ends : upto < numbered (home_epoch from) summary.end
  pub place : summary.end ≤ last_esn
  pub has : (s : ℕ) → from ≤ s → s ≤ upto → told_copied w l s summary y ≡ true → is_some (entry_at s es) ≡ true
  pub short : (s : ℕ) → from ≤ s → s ≤ upto → Enough c w l s summary ⊎ (In y (fixed_at c w.state.register l (home_epoch from)) → is_some (entry_at s es) ≡ true)
  pub unserved : AllUnserved (node_at w.state y) l (home_epoch from)

-- an end that a lost node knows
pub record KnownEnd (w : World) (l n end : ℕ) : Type 0 where
  pub summary : Summary
  pub closed : Closed w l (home_epoch n) summary
  pub positive : 0 < home_epoch n
  pub above : summary.trim < n
  pub is : end ≡ numbered (home_epoch n) summary.end

module _ (c : Config) (w : World) (K : CleanKept c w) (y l : ℕ) (p : Plain) (held : MayHold (node_at w.state y) p) where
  no_zero : (from : ℕ) (z : Summary) → (log_of p l).trim < from → summary_at (log_of p l) (home_epoch from) ≡ Some z → home_esn from < z.end → (0 < home_epoch from) × (find (home_epoch from) (log_of p l).summaries ≡ Some z)
  unfolding summary_at
  no_zero from z a h b = elim (cases_Bool (home_epoch from == 0)) [
    | inl t ↦ absurd (let q : epoch_zero ≡ z = Some_inj (sym (ap (λ v. cond v (Some epoch_zero) (find (home_epoch from) (log_of p l).summaries)) t) ∙ h) in let e = ap (λ (v : Summary). v.end) q in let u = home_place from 1 (omega arith) (omega arith) in let k = eqb-true (home_epoch from) 0 t in let v = u.1 in let x = u.2 in omega arith)
    | inr t ↦ (not_zero (home_epoch from) (eqb-false (home_epoch from) 0 t), sym (ap (λ v. cond v (Some epoch_zero) (find (home_epoch from) (log_of p l).summaries)) t) ∙ h)
  ] where
    not_zero : (e : ℕ) → (e ≡ 0 → ⊥) → 0 < e
    not_zero e n = elim (cases_order e 0) [ inl q ↦ absurd (n q) | inr (inl q) ↦ absurd (omega arith) | inr (inr q) ↦ q ]

  pub known_end : (from : ℕ) (z : Summary) → (log_of p l).trim < from → summary_at (log_of p l) (home_epoch from) ≡ Some z → home_esn from < z.end → KnownEnd w l from (numbered (home_epoch from) z.end)
  known_end from z a h b = let n = no_zero from z a h b in let k = K.summaries y l (home_epoch from) p z held n.0 n.1 in record { summary = z; closed = k.0; positive = n.0; above = (let u = k.1 in omega arith); is = refl }

  -- what is in a page
  module _ (generation : 0 < p.generation) (whole : (q : Plain) → MayHold (node_at w.state y) q → q ≡ p) (from : ℕ) (z : Summary) (a : (log_of p l).trim < from) (h : summary_at (log_of p l) (home_epoch from) ≡ Some z) (b : home_esn from < z.end) (found : is_lost (log_of p l) (home_epoch from) ≡ false) where
    bound : ℕ
    bound = numbered (home_epoch from) (z.end - 1)

    closed : Closed w l (home_epoch from) z × (z.trim ≤ (log_of p l).trim)
    closed = let n = no_zero from z a h b in K.summaries y l (home_epoch from) p z held n.0 n.1

    place : home_epoch from * 2 ^ 32 < from
    place = let n = (no_zero from z a h b).0 in let u = K.bounded l (home_epoch from) z closed.0 n in let v = u.1 in (home_place from z.end b v).0 n

    up : page_upto (readable (log_of p l) from (numbered (home_epoch from) (z.end - 1))) (numbered (home_epoch from) (z.end - 1)) ≤ numbered (home_epoch from) (z.end - 1)
    up = elim (upto_cases (readable (log_of p l) from (numbered (home_epoch from) (z.end - 1))) (numbered (home_epoch from) (z.end - 1))) [
      | inl f ↦ (let i = In_filter _ f.0 _ f.1 in let j = In_filter _ f.0 (values (log_of p l).entries) i.0 in let k = and_parts (nat_le from f.0.number) (nat_le f.0.number (numbered (home_epoch from) (z.end - 1))) j.1 in let v = leb-true _ _ k.1 in let n = f.2 in omega arith)
      | inr e ↦ omega arith
    ]

    in_page : (s : ℕ) (f : Entry) → find s (log_of p l).entries ≡ Some f → is_bridge f.what ≡ false → from ≤ s → s ≤ page_upto (readable (log_of p l) from (numbered (home_epoch from) (z.end - 1))) (numbered (home_epoch from) (z.end - 1))
        → is_some (entry_at s (take page_limit (readable (log_of p l) from (numbered (home_epoch from) (z.end - 1))))) ≡ true
    in_page s f q n lo hi =
        let g = log_of p l in
        let last = numbered (home_epoch from) (z.end - 1) in
        let t = K.tables y l p held in
        let i = find_in s g.entries f q in
        let m : f.number ≡ s = t.1 (s, f) i in
        let u = up in
        let r = rising_filter (λ (e : Entry). not (is_bridge e.what)) (entries_within g from last) (rising_filter (λ (e : Entry). nat_le from e.number && nat_le e.number last) (values g.entries) (rising_values g.entries t.1 t.0)) in
        shown_at s f _ (page_has (readable g from last) last f r (filter_in (λ (e : Entry). not (is_bridge e.what)) f (entries_within g from last)
        (filter_in (λ (e : Entry). nat_le from e.number && nat_le e.number last) f (values g.entries) (in_values s f g.entries i) (and_from _ _ (le-leb from f.number (omega arith)) (le-leb f.number last (omega arith)))) (ap not n)) (omega arith)) m

    -- a node that accounts for a number shows it
    shows : (s : ℕ) → from ≤ s → s ≤ page_upto (readable (log_of p l) from (numbered (home_epoch from) (z.end - 1))) (numbered (home_epoch from) (z.end - 1)) → home_epoch s ≡ home_epoch from → Accounts p l (home_epoch s) s
        → is_some (entry_at s (take page_limit (readable (log_of p l) from (numbered (home_epoch from) (z.end - 1))))) ≡ true
    shows s lo hi q (inl v) = absurd (omega arith)
    shows s lo hi q (inr (inl v)) = absurd (not_both _ (subst (λ j. is_lost (log_of p l) j ≡ true) q v) found)
    shows s lo hi q (inr (inr (inl v))) = absurd (omega arith)
    shows s lo hi q (inr (inr (inr v))) = in_page s v.0 v.1 v.2 lo hi

    -- a node that took a place in the epoch shows each number that its page covers
    pub joined_shown : (s : ℕ) → from ≤ s → s ≤ page_upto (readable (log_of p l) from (numbered (home_epoch from) (z.end - 1))) (numbered (home_epoch from) (z.end - 1)) → Joins w.joined l (home_epoch from) y
        → is_some (entry_at s (take page_limit (readable (log_of p l) from (numbered (home_epoch from) (z.end - 1))))) ≡ true
    joined_shown s lo hi j = let m = (no_zero from z a h b).0 in let k = K.bounded l (home_epoch from) z closed.0 m in let e = k.1 in let o = place in let u = up in let t = closed.1 in
        let q = home_is s (home_epoch from) (omega arith) (omega arith) in
        shows s lo hi q.0 (K.joined y l s z p (subst (λ v. Closed w l v z) (sym q.0) closed.0) (omega arith) (subst (λ v. s < numbered v z.end) (sym q.0) (omega arith)) (subst (λ v. Joins w.joined l v y) (sym q.0) j) held)

    pub page_of : CleanPage c w y l from (page_upto (readable (log_of p l) from (numbered (home_epoch from) (z.end - 1))) (numbered (home_epoch from) (z.end - 1))) (take page_limit (readable (log_of p l) from (numbered (home_epoch from) (z.end - 1))))
    unfolding summary_at
    page_of = let m = (no_zero from z a h b).0 in let k = K.bounded l (home_epoch from) z closed.0 m in let e = k.1 in let o = place in let u = up in let t = closed.1 in record {
      summary = z;
      closed = closed.0;
      above = omega arith;
      positive = m;
      starts = place;
      ends = omega arith;
      place = e;
      has = λ s lo hi x.
          let q = home_is s (home_epoch from) (omega arith) (omega arith) in
          shows s lo hi q.0 (K.copies y l s z p (subst (λ j. Closed w l j z) (sym q.0) closed.0) (omega arith) (subst (λ j. s < numbered j z.end) (sym q.0) (omega arith)) x held);
      short = λ s lo hi.
          let q = home_is s (home_epoch from) (omega arith) (omega arith) in
          elim (K.settled l s z (subst (λ j. Closed w l j z) (sym q.0) closed.0) (omega arith) (subst (λ j. s < numbered j z.end) (sym q.0) (omega arith))) [
            | inl v ↦ inl v
            | inr v ↦ inr (λ i. shows s lo hi q.0 (v y p (subst (λ j. In y (fixed_at c w.state.register l j)) (sym q.0) i) held))
          ];
      unserved = λ j i. subst (λ v. Unserved v l (home_epoch from)) (sym (whole j i)) (inr (inr (ap is_some h)));
    }
