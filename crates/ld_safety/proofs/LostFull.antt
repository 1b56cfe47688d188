-- A log that isn't lost has each number above its trim and below the ends of the clean epochs that were lost: op by op.
use Rattle.std.proofs.Common.{◌≡◌, ◌∙◌, ◌≤◌, ◌<◌, ℕ, ◌+◌, ◌-◌, max, inl, inr, refl, ap, sym, subst, Bool, true, false, not, ◌==◌, ◌&&◌, ◌⊎◌, nat_lt, nat_le, cond, if◌then◌else◌, List, [], ◌∷◌, ◌++◌, filter, flat_map, Option, Some, None, is_some, is_none, arith}
use Rattle.std.proofs.lemmas.Bool.{and_from, or_left, or_right, eqb-true, eqb-false, ltb-false, lt-ltb, le-leb, ne_eqb}
use Rattle.ld_table.specs.Table.{find, put, keep, keep_keys}
use Rattle.ld_table.proofs.Laws.{put_cases, find-keep, find-keep_keys, kept}
use Rattle.ld_table.specs.Words.{numbers_from}
use Rattle.ld_lsn.specs.Number.{epoch_of, esn_of, numbered}
use Rattle.ld_msg.specs.declared.msg.What.{What}
use Rattle.ld_msg.specs.declared.msg.What.TheVariants.{Rec, Hole, Bridge, Plug, Withheld}
use Rattle.ld_msg.specs.declared.msg.Entry.{Entry}
use Rattle.ld_msg.specs.declared.msg.Summary.{Summary}
use Rattle.ld_op.proofs.Moves.{taken_from}
use Rattle.ld_op.specs.Plain.{Log, empty_log, is_lost, summary_at, epoch_zero, accepted, accept_entry, survives_bridge, sealed_by, trimmed_to, cleaned, survives_clean, refilled_with, refill_entries, refilled, lost_log}
use Rattle.ld_op.specs.Ticks.{missing, missing_of, numbers_of, lowest_unclean, gap_from}
use Rattle.ld_machine.specs.World.{In}
use Rattle.ld_safety.proofs.Lists.{Some_inj, not_none, not_both, cond_both}
use Rattle.ld_safety.proofs.Members.{In_put, find_in, numbers_in}
use Rattle.ld_safety.proofs.NodeSteps.{Served}
use Rattle.ld_safety.proofs.Rising.{Rising, Rising-put}
use Rattle.ld_safety.proofs.LostUnserved.{FullClean}

pub record FullLog (g : Log) : Type 0 where
  pub numbers : (s : ℕ) (f : Entry) → find s g.entries ≡ Some f → f.number ≡ s
  pub rising : Rising g.summaries
  pub positive : (q : ℕ × Summary) → In q g.summaries → 0 < q.0
  pub clean : g.lost ≡ false → FullClean g
  -- an entry of an epoch that was lost was refilled: it is clean there
  pub refilled_clean : (s : ℕ) (f : Entry) → find s g.entries ≡ Some f → 0 < epoch_of s → epoch_of s ≤ g.lost_to → is_some (summary_at g (epoch_of s)) ≡ true
  pub full : g.lost ≡ false → (s : ℕ) (z : Summary) → find (epoch_of s) g.summaries ≡ Some z → epoch_of s ≤ g.lost_to → g.trim < s → 0 < esn_of s → esn_of s < z.end → is_some (find s g.entries) ≡ true

pub full_empty : FullLog empty_log
unfolding find
full_empty = record { numbers = λ s f h. absurd (not_none h); rising = tt; positive = λ q i. absurd i; clean = λ l e a b. absurd (omega arith); refilled_clean = λ s f h. absurd (not_none h); full = λ l s z h. absurd (not_none h) }

pub full_lost : (n : ℕ) → FullLog (lost_log n)
unfolding find
full_lost n = record { numbers = λ s f h. absurd (not_none h); rising = tt; positive = λ q i. absurd i; clean = λ l e a b. absurd (let z = ltb-false 0 n l in omega arith); refilled_clean = λ s f h. absurd (not_none h); full = λ l s z h. absurd (not_none h) }

-- ---- entries ----
put_some : (s k : ℕ) (f : Entry) (m : List (ℕ × Entry)) → is_some (find s m) ≡ true → is_some (find s (put k f m)) ≡ true
put_some s k f m h = elim (put_cases s k f m) [ inl a ↦ subst (λ o. is_some o ≡ true) (sym a.1) refl | inr a ↦ subst (λ o. is_some o ≡ true) (sym a.1) h ]

put_numbers : (e : Entry) (m : List (ℕ × Entry)) → ((s : ℕ) (f : Entry) → find s m ≡ Some f → f.number ≡ s) → (s : ℕ) (f : Entry) → find s (put e.number e m) ≡ Some f → f.number ≡ s
put_numbers e m n s f h = elim (put_cases s e.number e m) [ inl a ↦ subst (λ (x : Entry). x.number ≡ s) (Some_inj (sym a.1 ∙ h)) (sym a.0) | inr a ↦ n s f (sym a.1 ∙ h) ]

kept_some : (p : ℕ → Entry → Bool) (s : ℕ) (o : Option Entry) → is_some o ≡ true → ((f : Entry) → o ≡ Some f → p s f ≡ true) → is_some (kept p s o) ≡ true
kept_some p s None h k = absurd cc
kept_some p s (Some f) h k = subst (λ b. is_some (cond b (Some f) None) ≡ true) (sym (k f refl)) refl

keep_some : (p : ℕ → Entry → Bool) (s : ℕ) (m : List (ℕ × Entry)) → is_some (find s m) ≡ true → ((f : Entry) → find s m ≡ Some f → p s f ≡ true) → is_some (find s (keep p m)) ≡ true
keep_some p s m h k = subst (λ o. is_some o ≡ true) (sym (find-keep s p m)) (kept_some p s (find s m) h k)

kept_was : (p : ℕ → Entry → Bool) (s : ℕ) (o : Option Entry) (f : Entry) → kept p s o ≡ Some f → o ≡ Some f
kept_was p s None f h = absurd (not_none h)
kept_was p s (Some x) f h = cond_both (p s x) (Some x) None (λ v. v ≡ Some f → Some x ≡ Some f) (λ t q. q) (λ t q. absurd (not_none q)) h

pub keep_was : (p : ℕ → Entry → Bool) (s : ℕ) (m : List (ℕ × Entry)) (f : Entry) → find s (keep p m) ≡ Some f → find s m ≡ Some f
keep_was p s m f h = kept_was p s (find s m) f (sym (find-keep s p m) ∙ h)

pub keys_was : (p : ℕ → Bool) (s : ℕ) (m : List (ℕ × Entry)) (f : Entry) → find s (keep_keys p m) ≡ Some f → find s m ≡ Some f
keys_was p s m f h = cond_both (p s) (find s m) None (λ v. v ≡ Some f → find s m ≡ Some f) (λ t q. q) (λ t q. absurd (not_none q)) (sym (find-keep_keys s p m) ∙ h)

-- ---- ops ----
not_same : (a b : ℕ) → (a ≡ b → ⊥) → not (a == b) ≡ true
not_same a b h = ap not (ne_eqb a b h)

accept_some : (e : Entry) (w : What) (m : List (ℕ × Entry)) (s : ℕ) → ((f : Entry) → find s m ≡ Some f → f.number ≡ s) → (epoch_of s ≡ epoch_of e.number → ⊥) → is_some (find s m) ≡ true → is_some (find s (accept_entry e w m)) ≡ true
accept_some e (Rec p) m s n d h = put_some s e.number e m h
accept_some e Hole m s n d h = put_some s e.number e m h
accept_some e Plug m s n d h = put_some s e.number e m h
accept_some e Withheld m s n d h = put_some s e.number e m h
accept_some e Bridge m s n d h = put_some s e.number e (keep (λ k f. survives_bridge e f) m) (keep_some (λ k f. survives_bridge e f) s m h (λ f q. or_right (nat_le f.number e.number) _ (or_left (not (epoch_of f.number == epoch_of e.number)) _ (not_same (epoch_of f.number) (epoch_of e.number) (λ z. d (ap epoch_of (sym (n f q)) ∙ z))))))

accept_numbers : (e : Entry) (w : What) (m : List (ℕ × Entry)) → ((s : ℕ) (f : Entry) → find s m ≡ Some f → f.number ≡ s) → (s : ℕ) (f : Entry) → find s (accept_entry e w m) ≡ Some f → f.number ≡ s
accept_numbers e (Rec p) m n = put_numbers e m n
accept_numbers e Hole m n = put_numbers e m n
accept_numbers e Plug m n = put_numbers e m n
accept_numbers e Withheld m n = put_numbers e m n
accept_numbers e Bridge m n = put_numbers e (keep (λ k f. survives_bridge e f) m) (λ s f h. n s f (keep_was (λ k f. survives_bridge e f) s m f h))

-- a clean epoch isn't one that is served
clean_apart : (g : Log) (k e : ℕ) → FullClean g → 0 < k → k ≤ g.lost_to → summary_at g e ≡ None → k ≡ e → ⊥
clean_apart g k e c a b n q = not_both _ (c k a b) (ap is_some (ap (summary_at g) q ∙ n))

found_positive : (g : Log) (k : ℕ) (z : Summary) → FullLog g → find k g.summaries ≡ Some z → 0 < k
found_positive g k z F h = F.positive (k, z) (find_in k g.summaries z h)

pub full_accept : (g : Log) (lng : ℕ) (e : Entry) → Served g (epoch_of e.number) → FullLog g → FullLog (accepted g lng e)
unfolding summary_at
full_accept g lng e v F = record {
  numbers = accept_numbers e e.what g.entries F.numbers;
  rising = F.rising;
  positive = F.positive;
  clean = F.clean;
  refilled_clean = λ s f h p b. elim (taken_from g lng e s f h) [ inl a ↦ by_lost s g.lost refl (subst (λ k. is_lost g (epoch_of k) ≡ false) (sym a.0) v.found_here) p b | inr a ↦ F.refilled_clean s f a p b ];
  full = λ l s z h b t p q. accept_some e e.what g.entries s (λ f k. F.numbers s f k) (λ x. clean_apart g (epoch_of s) (epoch_of e.number) (F.clean l) (found_positive g (epoch_of s) z F h) b v.unclean x) (F.full l s z h b t p q);
} where
  by_lost : (s : ℕ) (t : Bool) → g.lost ≡ t → is_lost g (epoch_of s) ≡ false → 0 < epoch_of s → epoch_of s ≤ g.lost_to → is_some (summary_at g (epoch_of s)) ≡ true
  by_lost s false q n p b = F.clean q (epoch_of s) p b
  by_lost s true q n p b = absurd (not_both (is_lost g (epoch_of s)) (and_from g.lost (nat_lt 0 (epoch_of s) && nat_le (epoch_of s) g.lost_to) q (and_from (nat_lt 0 (epoch_of s)) (nat_le (epoch_of s) g.lost_to) (lt-ltb 0 (epoch_of s) p) (le-leb (epoch_of s) g.lost_to b))) n)

pub full_seal : (g : Log) (b : ℕ) → FullLog g → FullLog (sealed_by g b)
unfolding summary_at
full_seal g b F = record { numbers = F.numbers; rising = F.rising; positive = F.positive; clean = F.clean; refilled_clean = F.refilled_clean; full = F.full }

pub full_trim : (g : Log) (t : ℕ) → FullLog g → FullLog (trimmed_to g t)
unfolding summary_at
full_trim g t F = record {
  numbers = λ s f h. F.numbers s f (keys_was (λ k. nat_lt (max g.trim t) k) s g.entries f h);
  rising = F.rising;
  positive = F.positive;
  clean = F.clean;
  refilled_clean = λ s f h. F.refilled_clean s f (keys_was (λ k. nat_lt (max g.trim t) k) s g.entries f h);
  full = λ l s z h b u p q. subst (λ o. is_some o ≡ true) (sym (find-keep_keys s (λ k. nat_lt (max g.trim t) k) g.entries)) (subst (λ x. is_some (cond x (find s g.entries) None) ≡ true) (sym (lt-ltb (max g.trim t) s u)) (F.full l s z h b (omega arith) p q));
}

pub full_clean : (g : Log) (k : ℕ) (y : Summary) → 0 < k → summary_at g k ≡ None → FullLog g → FullLog (cleaned g k y)
unfolding summary_at
full_clean g k y pos n F = record {
  numbers = λ s f h. F.numbers s f (keep_was (λ s e. survives_clean (max g.trim y.trim) k y e) s g.entries f h);
  rising = Rising-put k y g.summaries F.rising;
  positive = λ q i. elim (In_put k y g.summaries q i) [ inl a ↦ subst (λ (x : ℕ × Summary). 0 < x.0) (sym a) pos | inr a ↦ F.positive q a ];
  clean = λ l e a b. still e (F.clean l e a b);
  refilled_clean = λ s f h p b. still (epoch_of s) (F.refilled_clean s f (keep_was (λ s e. survives_clean (max g.trim y.trim) k y e) s g.entries f h) p b);
  full = λ l s z h b u p q. elim (put_cases (epoch_of s) k y g.summaries) [
    | inl a ↦ absurd (clean_apart g k k (F.clean l) pos (let x = a.0 in omega arith) n refl)
    | inr a ↦ keep_some (λ s e. survives_clean (max g.trim y.trim) k y e) s g.entries (F.full l s z (sym a.1 ∙ h) b (omega arith) p q) (λ f x. let m = F.numbers s f x in
        and_from _ _ (subst (λ v. nat_lt (max g.trim y.trim) v ≡ true) (sym m) (lt-ltb (max g.trim y.trim) s u)) (or_left (not (epoch_of f.number == k)) _ (not_same (epoch_of f.number) k (λ v. a.0 (ap epoch_of (sym m) ∙ v)))))
  ];
} where
  still : (e : ℕ) → is_some (if e == 0 then Some epoch_zero else find e g.summaries) ≡ true → is_some (if e == 0 then Some epoch_zero else find e (put k y g.summaries)) ≡ true
  still e = by_zero (e == 0) where
    by_zero : (b : Bool) → is_some (if b then Some epoch_zero else find e g.summaries) ≡ true → is_some (if b then Some epoch_zero else find e (put k y g.summaries)) ≡ true
    by_zero true h = refl
    by_zero false h = elim (put_cases e k y g.summaries) [ inl a ↦ subst (λ o. is_some o ≡ true) (sym a.1) refl | inr a ↦ subst (λ o. is_some o ≡ true) (sym a.1) h ]

refill_some : (es : List Entry) (m : List (ℕ × Entry)) (s : ℕ) → is_some (find s m) ≡ true → is_some (find s (refill_entries es m)) ≡ true
refill_some [] m s h = h
refill_some (e ∷ es) m s h = refill_some es (put e.number e m) s (put_some s e.number e m h)

refill_numbers : (es : List Entry) (m : List (ℕ × Entry)) → ((s : ℕ) (f : Entry) → find s m ≡ Some f → f.number ≡ s) → (s : ℕ) (f : Entry) → find s (refill_entries es m) ≡ Some f → f.number ≡ s
refill_numbers [] m n = n
refill_numbers (e ∷ es) m n = refill_numbers es (put e.number e m) (put_numbers e m n)

pub refill_found : (es : List Entry) (m : List (ℕ × Entry)) (s : ℕ) (f : Entry) → find s (refill_entries es m) ≡ Some f → (find s m ≡ Some f) ⊎ (In f es × (f.number ≡ s))
refill_found [] m s f h = inl h
refill_found (e ∷ es) m s f h = elim (refill_found es (put e.number e m) s f h) [
  | inr a ↦ inr (inr a.0, a.1)
  | inl a ↦ elim (put_cases s e.number e m) [
    | inl b ↦ let q : e ≡ f = Some_inj (sym b.1 ∙ a) in inr (inl (sym q), ap (λ (x : Entry). x.number) (sym q) ∙ sym b.0)
    | inr b ↦ inl (sym b.1 ∙ a)
  ]
]

-- the entries are of clean epochs
abbrev pub OfClean : Log → List Entry → Type 0
OfClean g es = (e : Entry) → In e es → is_some (summary_at g (epoch_of e.number)) ≡ true

pub full_refill : (g : Log) (es : List Entry) → OfClean g es → FullLog g → FullLog (refilled_with g es)
unfolding summary_at
full_refill g es c F = record { numbers = refill_numbers es g.entries F.numbers; rising = F.rising; positive = F.positive; clean = F.clean; refilled_clean = λ s f h p b. elim (refill_found es g.entries s f h) [ inl a ↦ F.refilled_clean s f a p b | inr a ↦ subst (λ k. is_some (summary_at g (epoch_of k)) ≡ true) a.1 (c f a.0) ]; full = λ l s z h b u p q. refill_some es g.entries s (F.full l s z h b u p q) }

-- ---- nothing is missing ----
filter_none : {X : Type 0} (p : X → Bool) (x : X) (xs : List X) → filter p xs ≡ [] → In x xs → p x ≡ false
filter_none p x [] h i = absurd i
filter_none p x (y ∷ xs) h i = by_test (p y) refl h i (λ k j. filter_none p x xs k j) where
  by_test : (b : Bool) → p y ≡ b → cond b (y ∷ filter p xs) (filter p xs) ≡ [] → In x (y ∷ xs) → (filter p xs ≡ [] → In x xs → p x ≡ false) → p x ≡ false
  by_test true q k j ih = absurd cc
  by_test false q k (inl e) ih = subst (λ z. p z ≡ false) (sym e) q
  by_test false q k (inr j) ih = ih k j

parts_none : {X Y : Type 0} (f : X → List Y) (x : X) (xs : List X) → flat_map f xs ≡ [] → In x xs → f x ≡ []
parts_none f x [] h i = absurd i
parts_none f x (y ∷ xs) h i = by_part (f y) refl h i (λ k j. parts_none f x xs k j) where
  by_part : (ys : List _) → f y ≡ ys → ys ++ flat_map f xs ≡ [] → In x (y ∷ xs) → (flat_map f xs ≡ [] → In x xs → f x ≡ []) → f x ≡ []
  by_part (z ∷ zs) q k j ih = absurd cc
  by_part [] q k (inl e) ih = ap f e ∙ q
  by_part [] q k (inr j) ih = ih k j

in_numbers : (g : Log) (s : ℕ) (z : Summary) → g.trim < s → 0 < esn_of s → esn_of s < z.end → In s (numbers_of g (epoch_of s) z)
in_numbers g s z t p q = cond_both (nat_lt g.trim (numbered (epoch_of s) 1)) 1 (g.trim + 1 - numbered (epoch_of s) 0) (λ a. In s (numbers_from (numbered (epoch_of s) a) (z.end - a)))
    (λ u. numbers_in s (numbered (epoch_of s) 1) (z.end - 1) (omega arith) (omega arith)) (λ u. let v = ltb-false _ _ u in numbers_in s (numbered (epoch_of s) (g.trim + 1 - numbered (epoch_of s) 0)) (z.end - (g.trim + 1 - numbered (epoch_of s) 0)) (omega arith) (omega arith))

some_or : (o : Option Entry) → is_none o ≡ false → is_some o ≡ true
some_or None h = absurd cc
some_or (Some e) h = refl

pub full_refilled : (g : Log) → FullClean g → missing g ≡ [] → FullLog g → FullLog (refilled g)
unfolding summary_at missing
full_refilled g c n F = record {
  numbers = F.numbers;
  rising = F.rising;
  positive = F.positive;
  clean = λ l. c;
  refilled_clean = F.refilled_clean;
  full = λ l s z h b t p q.
      let e : missing_of g (epoch_of s, z) ≡ [] = parts_none (missing_of g) (epoch_of s, z) g.summaries n (find_in (epoch_of s) g.summaries z h) in
      let k : filter (λ n. is_none (find n g.entries)) (numbers_of g (epoch_of s) z) ≡ [] = subst (λ v. cond v (filter (λ n. is_none (find n g.entries)) (numbers_of g (epoch_of s) z)) [] ≡ []) (le-leb (epoch_of s) g.lost_to b) e in
      some_or (find s g.entries) (filter_none (λ n. is_none (find n g.entries)) s (numbers_of g (epoch_of s) z) k (in_numbers g s z t p q));
}

-- ---- a look finds an epoch that isn't clean ----
find_none : (k : ℕ) (m : List (ℕ × Summary)) → ((q : ℕ × Summary) → In q m → q.0 ≡ k → ⊥) → find k m ≡ None
find_none k m h = by_find (find k m) refl where
  by_find : (o : Option Summary) → find k m ≡ o → o ≡ None
  by_find None q = refl
  by_find (Some z) q = absurd (h (k, z) (find_in k m z q) refl)

gap_low : (e : ℕ) (ss : List (ℕ × Summary)) → e ≤ gap_from e ss
gap_low e [] = omega arith
gap_low e (s ∷ ss) = let z = gap_low (e + 1) ss in cond_both (s.0 == e) (gap_from (e + 1) ss) e (λ v. e ≤ v) (λ t. omega arith) (λ t. omega arith)

gap_keys : (e : ℕ) (ss : List (ℕ × Summary)) → Rising ss → ((q : ℕ × Summary) → In q ss → e ≤ q.0) → (q : ℕ × Summary) → In q ss → q.0 ≡ gap_from e ss → ⊥
gap_keys e [] r a q i h = i
gap_keys e (s ∷ ss) r a q i h = by_key (s.0 == e) refl h (λ z j k. gap_keys (e + 1) ss r.1 z q j k) where
  by_key : (b : Bool) → (s.0 == e) ≡ b → q.0 ≡ (if b then gap_from (e + 1) ss else e) → (((x : ℕ × Summary) → In x ss → e + 1 ≤ x.0) → In q ss → q.0 ≡ gap_from (e + 1) ss → ⊥) → ⊥
  by_key true t k ih = let z = eqb-true s.0 e t in elim i [
    | inl j ↦ (let y : q.0 ≡ s.0 = ap (λ (x : ℕ × Summary). x.0) j in let v = gap_low (e + 1) ss in omega arith)
    | inr j ↦ ih (λ x o. let y = r.0 x o in omega arith) j k
  ]
  by_key false t k ih = let n = eqb-false s.0 e t in let low = a s (inl refl) in elim i [
    | inl j ↦ n (sym (ap (λ (x : ℕ × Summary). x.0) j) ∙ k)
    | inr j ↦ let y = r.0 q j in omega arith
  ]

pub unclean_none : (g : Log) → FullLog g → summary_at g (lowest_unclean g) ≡ None
unfolding summary_at
unclean_none g F = let low = gap_low 1 g.summaries in cond_both (lowest_unclean g == 0) (Some epoch_zero) (find (lowest_unclean g) g.summaries) (λ o. o ≡ None) (λ t. absurd (let z = eqb-true (lowest_unclean g) 0 t in omega arith))
    (λ t. find_none (lowest_unclean g) g.summaries (gap_keys 1 g.summaries F.rising (λ q i. F.positive q i)))
