-- What a node that stored something still has of it, and how it is sealed, while it serves the epoch: each op keeps it.
use Rattle.std.proofs.Common.{◌≡◌, ◌∙◌, ◌⊎◌, ◌≤◌, ◌<◌, ℕ, ◌+◌, max, inl, inr, refl, ap, sym, subst, Bool, true, false, not, ◌&&◌, ◌||◌, ◌==◌, nat_lt, nat_le, cond, List, [], ◌∷◌, Option, Some, None, arith}
use Rattle.std.specs.Option.{unwrap_or}
use Rattle.std.proofs.lemmas.Bool.{or_left, cases_Bool, and_parts, or_parts, leb-true, leb-false, ltb-true, ltb-false, lt-ltb, le-leb, eqb-true, ne_eqb, and_from}
use Rattle.std.specs.Ordering.{nat_cmp}
use Rattle.std.specs.BTreeMap.{is_at}
use Rattle.ld_table.specs.Table.{find, put}
use Rattle.ld_table.proofs.Laws.{put_cases, find-keep, find-keep_keys, find-put_other, kept, table_rules}
use Rattle.ld_lsn.specs.Number.{epoch_of, esn_of}
use Rattle.ld_msg.specs.declared.msg.What.{What}
use Rattle.ld_msg.specs.declared.msg.What.TheVariants.{Rec, Hole, Bridge, Plug, Withheld}
use Rattle.ld_msg.specs.declared.msg.Entry.{Entry}
use Rattle.ld_msg.specs.declared.msg.Summary.{Summary}
use Rattle.ld_msg.specs.declared.msg.Msg.{Msg}
use Rattle.ld_msg.specs.declared.msg.Body.TheVariants as bodies
use Rattle.ld_msg.specs.Digest.{plan_end}
use Rattle.ld_msg.specs.Register.{Register, Epochs, no_epochs, epochs_of, epochs_in}
use Rattle.ld_op.specs.declared.op.Op.{Op}
use Rattle.ld_op.specs.declared.op.Op.TheVariants as ops
use Rattle.ld_op.specs.Plain.{Plain, Log, log_of, empty_log, unformatted, with_log, lost_logs, lost_log, accepted, accept_entry, survives_bridge, sealed_by, trimmed_to, cleaned, survives_clean, refill_entries, refilled_with, refilled, apply, is_lost, summary_at}
use Rattle.ld_op.proofs.Moves.{taken_there}
use Rattle.ld_machine.specs.Facts.{Happened}
use Rattle.ld_machine.specs.World.{Made, In, from_node}
use Rattle.ld_safety.proofs.Lists.{Some_inj, not_none}
use Rattle.ld_safety.proofs.Members.{find_in, In_put, In_keep, In_keep_keys}
use Rattle.ld_safety.proofs.NodeSteps.{Served}
use Rattle.ld_safety.proofs.Serving.{Unserved, Gone, CleanAt, served_or, not_served, put_summary}
use Rattle.ld_safety.proofs.Plans.{plan_shape, content_no_bridge}
use Rattle.ld_safety.proofs.Rising.{Rising, Rising-put, Rising-keep, Rising-keep_keys}
use Rattle.ld_safety.proofs.Protocol.{plan_of, Says, StoredBy, Ends}
use Rattle.ld_safety.proofs.Settled.{Reached}

-- an entry of the number, of at least the ballot
pub record HeldAt (g : Log) (n b : ℕ) : Type 0 where
  pub entry : Entry
  pub found_at : find n g.entries ≡ Some entry
  pub least : b ≤ entry.ballot

abbrev pub KeptBy : List Made → Log → ℕ → ℕ → ℕ → Type 0
KeptBy made g l n b = (n ≤ g.trim) ⊎ (HeldAt g n b ⊎ Ends made l b (g.sealed + 1) n)

-- of one log of a node: tables in order, entries of ballots up to the seal
pub record LogFine (g : Log) : Type 0 where
  pub rising : Rising g.entries
  pub numbers : (q : ℕ × Entry) → In q g.entries → q.1.number ≡ q.0
  pub bounded : (q : ℕ × Entry) → In q g.entries → Served g (epoch_of q.0) → q.1.ballot ≤ g.sealed

-- an entry stays, is replaced, or is taken away by a bridge below it
pub entry_stays : (e : Entry) (w : What) (m : List (ℕ × Entry)) (q : ℕ) (f : Entry) → find q m ≡ Some f →
    (find q (accept_entry e w m) ≡ Some f) ⊎ ((q ≡ e.number) ⊎ ((w ≡ Bridge) × (survives_bridge e f ≡ false)))
entry_stays e (Rec p) m q f h = grind (arith, table_rules)
entry_stays e Hole m q f h = grind (arith, table_rules)
entry_stays e Plug m q f h = grind (arith, table_rules)
entry_stays e Withheld m q f h = grind (arith, table_rules)
entry_stays e Bridge m q f h = grind (arith, table_rules)

module _ (made : List Made) (sent : List Msg) where
  pub record Holding (y : ℕ) (p : Plain) : Type 0 where
    pub fine : (l : ℕ) → LogFine (log_of p l)
    pub retains : (l n b : ℕ) → StoredBy sent l y n b → Gone p l (epoch_of n) ⊎ KeptBy made (log_of p l) l n b
    pub seals : (l b from upto t lng : ℕ) (es : List Entry) → In (from_node l y b (bodies.DigestPage from upto t lng es)) sent → Gone p l (epoch_of from) ⊎ (b ≤ (log_of p l).sealed)

  -- how one log of a node may move
  pub record Moves (l : ℕ) (g h : Log) : Type 0 where
    pub fine : LogFine h
    pub gone_stays : (e : ℕ) → Unserved g e → Unserved h e
    pub sealed : g.sealed ≤ h.sealed
    pub keeps : (n b : ℕ) → Served g (epoch_of n) → KeptBy made g l n b → Unserved h (epoch_of n) ⊎ KeptBy made h l n b

  stays : (l : ℕ) (g : Log) → LogFine g → Moves l g g
  stays l g F = record { fine = F; gone_stays = λ e h. h; sealed = omega arith; keeps = λ n b s k. inr k }

  pub wider : (l lo hi ho n : ℕ) → hi ≤ ho → Ends made l lo hi n → Ends made l lo ho n
  wider l lo hi ho n h e = record { ballot = e.ballot; basis = e.basis; planned = e.planned; above = e.above; below = let z = e.below in omega arith; before = e.before }

  -- ---- a log that moves moves its node ----
  with_log_cases : (p : Plain) (l k : ℕ) (g : Log) → ((k ≡ l) × (log_of (with_log p l g) k ≡ g)) ⊎ ((k ≡ l → ⊥) × (log_of (with_log p l g) k ≡ log_of p k))
  with_log_cases p l k g = elim (put_cases k l g p.logs) [ inl a ↦ inl (a.0, ap (λ o. unwrap_or o empty_log) a.1) | inr a ↦ inr (a.0, ap (λ o. unwrap_or o empty_log) a.1) ]

  moved_log : (p : Plain) (l : ℕ) (g : Log) → ((k : ℕ) → LogFine (log_of p k)) → Moves l (log_of p l) g → (k : ℕ) → Moves k (log_of p k) (log_of (with_log p l g) k)
  moved_log p l g F M k = elim (with_log_cases p l k g) [
    | inl a ↦ subst (λ h. Moves k (log_of p k) h) (sym a.1) (subst (λ j. Moves j (log_of p j) g) (sym a.0) M)
    | inr a ↦ subst (λ h. Moves k (log_of p k) h) (sym a.1) (stays k (log_of p k) (F k))
  ]

  pub moves_hold : (y : ℕ) (p : Plain) (l : ℕ) (g : Log) → Holding y p → Moves l (log_of p l) g → Holding y (with_log p l g)
  moves_hold y p l g H M = let m = moved_log p l g H.fine M in record {
    fine = λ k. (m k).fine;
    retains = λ k n b i. elim (H.retains k n b i) [
      | inl (inl z) ↦ inl (inl z)
      | inl (inr z) ↦ inl (inr ((m k).gone_stays (epoch_of n) z))
      | inr z ↦ elim (served_or (log_of p k) (epoch_of n)) [
        | inl t ↦ inl (inr ((m k).gone_stays (epoch_of n) t))
        | inr t ↦ elim ((m k).keeps n b t z) [ inl u ↦ inl (inr u) | inr u ↦ inr u ]
      ]
    ];
    seals = λ k b from upto t lng es i. elim (H.seals k b from upto t lng es i) [
      | inl (inl z) ↦ inl (inl z)
      | inl (inr z) ↦ inl (inr ((m k).gone_stays (epoch_of from) z))
      | inr z ↦ inr (let u = (m k).sealed in omega arith)
    ];
  }

  -- ---- the ops of one log ----

  -- what a taken store needs
  pub record Taking (l : ℕ) (g : Log) (e : Entry) : Type 0 where
    pub served : Served g (epoch_of e.number)
    pub above : g.trim < e.number
    pub sealed : g.sealed ≤ e.ballot
    pub says : (hs : List Happened) × Says hs made l e.ballot e.number e.what

  pub accept_in : (e : Entry) (w : What) (m : List (ℕ × Entry)) (q : ℕ × Entry) → In q (accept_entry e w m) → (q ≡ (e.number, e)) ⊎ In q m
  accept_in e (Rec p) m q i = In_put e.number e m q i
  accept_in e Hole m q i = In_put e.number e m q i
  accept_in e Plug m q i = In_put e.number e m q i
  accept_in e Withheld m q i = In_put e.number e m q i
  accept_in e Bridge m q i = elim (In_put e.number e _ q i) [ inl a ↦ inl a | inr a ↦ inr (In_keep _ m q a) ]

  accept_rising : (e : Entry) (w : What) (m : List (ℕ × Entry)) → Rising m → Rising (accept_entry e w m)
  accept_rising e (Rec p) m h = Rising-put e.number e m h
  accept_rising e Hole m h = Rising-put e.number e m h
  accept_rising e Plug m h = Rising-put e.number e m h
  accept_rising e Withheld m h = Rising-put e.number e m h
  accept_rising e Bridge m h = Rising-put e.number e _ (Rising-keep _ m h)

  -- a bridge that takes an entry away is one of a later plan's ends
  pub cut_off : (l : ℕ) (g : Log) (e f : Entry) (n b : ℕ) → LogFine g → Taking l g e → find n g.entries ≡ Some f → b ≤ f.ballot → e.what ≡ Bridge → survives_bridge e f ≡ false → Ends made l b (e.ballot + 1) n
  cut_off l g e f n b F T h bf w s =
      let num : f.number ≡ n = F.numbers (n, f) (find_in n g.entries f h) in
      let p = or_parts (nat_le f.number e.number) (not (epoch_of f.number == epoch_of e.number) || nat_le e.ballot f.ballot) s in
      let q = or_parts (not (epoch_of f.number == epoch_of e.number)) (nat_le e.ballot f.ballot) p.1 in
      let below : e.number < f.number = leb-false _ _ p.0 in
      let same : epoch_of f.number ≡ epoch_of e.number = eqb-true _ _ (flipped _ q.0) in
      let less : f.ballot < e.ballot = leb-false _ _ q.1 in
      let ep : epoch_of e.number ≡ epoch_of n = sym same ∙ ap epoch_of num in
      by_says T.says.1 num below less ep where
        flipped : (t : Bool) → not t ≡ false → t ≡ true
        flipped true k = refl
        flipped false k = absurd cc

        by_says : {hs : List Happened} → Says hs made l e.ballot e.number e.what → f.number ≡ n → e.number < f.number → f.ballot < e.ballot → epoch_of e.number ≡ epoch_of n → Ends made l b (e.ballot + 1) n
        by_says (inl z) num below less ep = absurd (let y : Bridge ≡ Rec z.payload = sym w ∙ z.is in cc)
        by_says (inr z) num below less ep = let k = plan_shape (epoch_of e.number) z.basis.loss z.basis.digest (esn_of e.number) e.what z.item in elim k.kind [
          | inl u ↦ absurd (content_no_bridge z.basis.loss _ (sym u.1 ∙ w))
          | inr u ↦ let v = u.0 in record {
            ballot = e.ballot;
            basis = z.basis;
            planned = subst (λ x. In (plan_of l x e.ballot z.basis) made) ep z.planned;
            above = omega arith;
            below = omega arith;
            before = subst (λ x. plan_end x z.basis.digest < esn_of n) ep (omega arith);
          }
        ]

  accept_moves : (l : ℕ) (g : Log) (lng : ℕ) (e : Entry) → LogFine g → Taking l g e → Moves l g (accepted g lng e)
  unfolding summary_at
  accept_moves l g lng e F T = record {
    fine = record {
      rising = accept_rising e e.what g.entries F.rising;
      numbers = λ q i. elim (accept_in e e.what g.entries q i) [ inl a ↦ subst (λ (z : ℕ × Entry). z.1.number ≡ z.0) (sym a) refl | inr a ↦ F.numbers q a ];
      bounded = λ q i s. elim (accept_in e e.what g.entries q i) [
        | inl a ↦ (let z : q.1.ballot ≡ e.ballot = ap (λ (z : ℕ × Entry). z.1.ballot) a in omega arith)
        | inr a ↦ let z = F.bounded q a (accepted_served (epoch_of q.0) s) in let u = T.sealed in omega arith
      ];
    };
    gone_stays = λ k h. accepted_gone k h;
    sealed = T.sealed;
    keeps = λ n b s k. inr (kept n b s k);
  } where
    accepted_served : (k : ℕ) → Served (accepted g lng e) k → Served g k
    accepted_served k s = record { found_here = s.found_here; unclean = s.unclean }

    accepted_gone : (k : ℕ) → Unserved g k → Unserved (accepted g lng e) k
    accepted_gone k h = h

    kept : (n b : ℕ) → Served g (epoch_of n) → KeptBy made g l n b → KeptBy made (accepted g lng e) l n b
    kept n b s (inl h) = inl h
    kept n b s (inr (inr h)) = inr (inr (wider l b (g.sealed + 1) (e.ballot + 1) n (let u = T.sealed in omega arith) h))
    kept n b s (inr (inl h)) = elim (entry_stays e e.what g.entries n h.entry h.found_at) [
      | inl a ↦ inr (inl (record { entry = h.entry; found_at = a; least = h.least }))
      | inr (inl a) ↦ inr (inl (record { entry = e; found_at = subst (λ z. find z (accepted g lng e).entries ≡ Some e) (sym a) (taken_there g lng e); least = let z = F.bounded (n, h.entry) (find_in n g.entries h.entry h.found_at) s in let u = T.sealed in let v = h.least in omega arith }))
      | inr (inr a) ↦ inr (inr (cut_off l g e h.entry n b F T h.found_at h.least a.0 a.1))
    ]

  seal_moves : (l : ℕ) (g : Log) (b : ℕ) → LogFine g → g.sealed ≤ b → Moves l g (sealed_by g b)
  unfolding summary_at
  seal_moves l g b F u = record {
    fine = record { rising = F.rising; numbers = F.numbers; bounded = λ q i s. (let z = F.bounded q i (record { found_here = s.found_here; unclean = s.unclean }) in omega arith) };
    gone_stays = λ k h. h;
    sealed = u;
    keeps = λ n k s h. inr (elim h [ inl a ↦ inl a | inr (inl a) ↦ inr (inl (record { entry = a.entry; found_at = a.found_at; least = a.least })) | inr (inr a) ↦ inr (inr (wider l k (g.sealed + 1) (b + 1) n (omega arith) a)) ]);
  }

  trim_moves : (l : ℕ) (g : Log) (t : ℕ) → LogFine g → Moves l g (trimmed_to g t)
  unfolding summary_at
  trim_moves l g t F = record {
    fine = record { rising = Rising-keep_keys _ g.entries F.rising; numbers = λ q i. F.numbers q (In_keep_keys _ g.entries q i).0; bounded = λ q i s. F.bounded q (In_keep_keys _ g.entries q i).0 (record { found_here = s.found_here; unclean = s.unclean }) };
    gone_stays = λ k h. h;
    sealed = omega arith;
    keeps = λ n b s h. inr (elim h [
      | inl a ↦ inl (omega arith)
      | inr (inl a) ↦ elim (cases_Bool (nat_lt (max g.trim t) n)) [
        | inl u ↦ inr (inl (record { entry = a.entry; found_at = find-keep_keys n (λ s. nat_lt (max g.trim t) s) g.entries ∙ (ap (λ x. cond x (find n g.entries) None) u ∙ a.found_at); least = a.least }))
        | inr u ↦ inl (ltb-false _ _ u)
      ]
      | inr (inr a) ↦ inr (inr a)
    ]);
  }

  clean_moves : (l : ℕ) (g : Log) (k : ℕ) (y : Summary) → LogFine g → Moves l g (cleaned g k y)
  clean_moves l g k y F = record {
    fine = record { rising = Rising-keep _ g.entries F.rising; numbers = λ q i. F.numbers q (In_keep _ g.entries q i); bounded = λ q i s. F.bounded q (In_keep _ g.entries q i) (clean_served (epoch_of q.0) s) };
    gone_stays = λ e h. clean_gone e h;
    sealed = omega arith;
    keeps = λ n b s h. elim (put_summary g (cleaned g k y) k (epoch_of n) y refl) [
      | inl q ↦ inl (inr q.1)
      | inr q ↦ inr (elim h [
        | inl a ↦ inl (omega arith)
        | inr (inl a) ↦ elim (cases_Bool (nat_lt (max g.trim y.trim) n)) [
          | inl u ↦ inr (inl (record { entry = a.entry; found_at = find-keep n (λ s e. survives_clean (max g.trim y.trim) k y e) g.entries ∙ (ap (λ x. kept (λ s e. survives_clean (max g.trim y.trim) k y e) n x) a.found_at ∙ ap (λ x. cond x (Some a.entry) None) (survives n a q.0 u)); least = a.least }))
          | inr u ↦ inl (ltb-false _ _ u)
        ]
        | inr (inr a) ↦ inr (inr a)
      ])
    ];
  } where
    survives : (n : ℕ) {b : ℕ} (a : HeldAt g n b) → (epoch_of n ≡ k → ⊥) → nat_lt (max g.trim y.trim) n ≡ true → survives_clean (max g.trim y.trim) k y a.entry ≡ true
    survives n a o u = let q : a.entry.number ≡ n = F.numbers (n, a.entry) (find_in n g.entries a.entry a.found_at) in
        and_from _ _ (subst (λ z. nat_lt (max g.trim y.trim) z ≡ true) (sym q) u) (or_left _ _ (ap not (ne_eqb (epoch_of a.entry.number) k (λ z. o (ap epoch_of (sym q) ∙ z)))))

    clean_served : (e : ℕ) → Served (cleaned g k y) e → Served g e
    clean_served e s = elim (put_summary g (cleaned g k y) k e y refl) [
      | inl q ↦ absurd (not_served (cleaned g k y) e (inr q.1) s)
      | inr q ↦ record { found_here = s.found_here; unclean = sym q.1 ∙ s.unclean }
    ]

    clean_gone : (e : ℕ) → Unserved g e → Unserved (cleaned g k y) e
    clean_gone e (inl h) = inl h
    clean_gone e (inr h) = elim (put_summary g (cleaned g k y) k e y refl) [ inl q ↦ inr q.1 | inr q ↦ inr (h.0, q.1 ∙ h.1) ]

  pub refill_same : (n : ℕ) (es : List Entry) (m : List (ℕ × Entry)) → ((e : Entry) → In e es → n ≡ e.number → ⊥) → find n (refill_entries es m) ≡ find n m
  refill_same n [] m h = refl
  refill_same n (e ∷ es) m h = refill_same n es (put e.number e m) (λ x i. h x (inr i)) ∙ find-put_other n e.number e m (h e (inl refl))

  pub refill_in : (es : List Entry) (m : List (ℕ × Entry)) (q : ℕ × Entry) → In q (refill_entries es m) → (In q m) ⊎ ((e : Entry) × In e es × (q ≡ (e.number, e)))
  refill_in [] m q i = inl i
  refill_in (e ∷ es) m q i = elim (refill_in es (put e.number e m) q i) [
    | inl a ↦ elim (In_put e.number e m q a) [ inl b ↦ inr (e, inl refl, b) | inr b ↦ inl b ]
    | inr a ↦ inr (a.0, inr a.1, a.2)
  ]

  refill_rising : (es : List Entry) (m : List (ℕ × Entry)) → Rising m → Rising (refill_entries es m)
  refill_rising [] m h = h
  refill_rising (e ∷ es) m h = refill_rising es (put e.number e m) (Rising-put e.number e m h)

  refill_moves : (l : ℕ) (g : Log) (es : List Entry) → LogFine g → ((e : Entry) → In e es → CleanAt g (epoch_of e.number)) → Moves l g (refilled_with g es)
  unfolding summary_at
  refill_moves l g es F c = record {
    fine = record {
      rising = refill_rising es g.entries F.rising;
      numbers = λ q i. elim (refill_in es g.entries q i) [ inl a ↦ F.numbers q a | inr a ↦ subst (λ (z : ℕ × Entry). z.1.number ≡ z.0) (sym a.2) refl ];
      bounded = λ q i s. elim (refill_in es g.entries q i) [
        | inl a ↦ F.bounded q a (record { found_here = s.found_here; unclean = s.unclean })
        | inr a ↦ absurd (let z = c a.0 a.1 in let v : epoch_of q.0 ≡ epoch_of a.0.number = ap (λ (x : ℕ × Entry). epoch_of x.0) a.2 in not_served g (epoch_of q.0) (inr (z.0, subst (λ x. summary_at g x ≡ Some z.0) (sym v) z.1)) (record { found_here = s.found_here; unclean = s.unclean }))
      ];
    };
    gone_stays = λ e h. h;
    sealed = omega arith;
    keeps = λ n b s h. inr (elim h [
      | inl a ↦ inl a
      | inr (inl a) ↦ inr (inl (record { entry = a.entry; found_at = refill_same n es g.entries (λ e i q. let z = c e i in not_served g (epoch_of n) (inr (z.0, subst (λ x. summary_at g x ≡ Some z.0) (ap epoch_of (sym q)) z.1)) s) ∙ a.found_at; least = a.least }))
      | inr (inr a) ↦ inr (inr a)
    ]);
  }

  lost_clean : (g : Log) (e : ℕ) → ((k : ℕ) → 0 < k → k ≤ g.lost_to → CleanAt g k) → is_lost g e ≡ true → CleanAt g e
  lost_clean g e c h = let p = and_parts g.lost (nat_lt 0 e && nat_le e g.lost_to) h in let q = and_parts (nat_lt 0 e) (nat_le e g.lost_to) p.1 in c e (ltb-true _ _ q.0) (leb-true _ _ q.1)

  refilled_moves : (l : ℕ) (g : Log) → LogFine g → ((k : ℕ) → 0 < k → k ≤ g.lost_to → CleanAt g k) → Moves l g (refilled g)
  unfolding summary_at
  refilled_moves l g F c = record {
    fine = record { rising = F.rising; numbers = F.numbers; bounded = λ q i s. F.bounded q i (was_served (epoch_of q.0) s) };
    gone_stays = λ e h. elim h [ inl a ↦ inr (lost_clean g e c a) | inr a ↦ inr a ];
    sealed = omega arith;
    keeps = λ n b s h. inr (elim h [ inl a ↦ inl a | inr (inl a) ↦ inr (inl (record { entry = a.entry; found_at = a.found_at; least = a.least })) | inr (inr a) ↦ inr (inr a) ]);
  } where
    was_served : (e : ℕ) → Served (refilled g) e → Served g e
    was_served e s = elim (served_or g e) [
      | inl (inl a) ↦ absurd (not_none (sym s.unclean ∙ (lost_clean g e c a).1))
      | inl (inr a) ↦ absurd (not_none (sym s.unclean ∙ a.1))
      | inr a ↦ a
    ]

  -- ---- a format ----
  lost_found : (l : ℕ) (es : List (ℕ × Epochs)) (x : Epochs) → find l es ≡ Some x → 0 < x.epoch → find l (lost_logs (epochs_in es)) ≡ Some (lost_log x.epoch)
  unfolding find
  lost_found l [] x h p = absurd (not_none h)
  lost_found l (e ∷ es) x h p = by_key (is_at (nat_cmp l) e.0) refl (e.1.epoch == 0) refl h (lost_found l es x) where
    by_key : (b : Bool) → is_at (nat_cmp l) e.0 ≡ b → (z : Bool) → (e.1.epoch == 0) ≡ z → cond b (Some e.1) (find l es) ≡ Some x → (find l es ≡ Some x → 0 < x.epoch → find l (lost_logs (epochs_in es)) ≡ Some (lost_log x.epoch))
        → find l (lost_logs (cond z (epochs_in es) ((e.0, e.1.epoch) ∷ epochs_in es))) ≡ Some (lost_log x.epoch)
    by_key true q true u f ih = absurd (let v = eqb-true _ _ u in let y : e.1 ≡ x = Some_inj f in let w = ap (λ (k : Epochs). k.epoch) y in omega arith)
    by_key true q false u f ih = ap (λ b. cond b (Some (lost_log e.1.epoch)) (find l (lost_logs (epochs_in es)))) q ∙ ap (λ (k : Epochs). Some (lost_log k.epoch)) (Some_inj f)
    by_key false q true u f ih = ih f p
    by_key false q false u f ih = ap (λ b. cond b (Some (lost_log e.1.epoch)) (find l (lost_logs (epochs_in es)))) q ∙ ih f p

  pub lost_now : (k : Register) (l e : ℕ) → Reached k l e → is_lost (unwrap_or (find l (lost_logs (epochs_in k.logs))) empty_log) e ≡ true
  lost_now k l e q = by_find (find l k.logs) refl where
    by_find : (o : Option Epochs) → find l k.logs ≡ o → is_lost (unwrap_or (find l (lost_logs (epochs_in k.logs))) empty_log) e ≡ true
    by_find None f = absurd (let z : (epochs_of k l).epoch ≡ 0 = ap (λ o. (unwrap_or o no_epochs).epoch) f in let a = q.0 in let b = q.1 in omega arith)
    by_find (Some x) f = let z : (epochs_of k l).epoch ≡ x.epoch = ap (λ o. (unwrap_or o no_epochs).epoch) f in let a = q.0 in let b = q.1 in let pos : 0 < x.epoch = omega arith in
        ap (λ o. is_lost (unwrap_or o empty_log) e) (lost_found l k.logs x f pos) ∙ lost_is x.epoch pos (omega arith) where
          lost_is : (c : ℕ) → 0 < c → e ≤ c → is_lost (lost_log c) e ≡ true
          lost_is c p l = and_from _ _ (lt-ltb 0 c p) (and_from _ _ (lt-ltb 0 e (let a = q.0 in a)) (le-leb e c l))

  lost_logs_fine : (ds : List (ℕ × ℕ)) (l : ℕ) → LogFine (unwrap_or (find l (lost_logs ds)) empty_log)
  unfolding find
  lost_logs_fine [] l = record { rising = tt; numbers = λ q i. absurd i; bounded = λ q i. absurd i }
  lost_logs_fine (d ∷ ds) l = fine_or (is_at (nat_cmp l) d.0) (find l (lost_logs ds)) (lost_logs_fine ds l) where
    fine_or : (b : Bool) (o : Option Log) → LogFine (unwrap_or o empty_log) → LogFine (unwrap_or (cond b (Some (lost_log d.1)) o) empty_log)
    fine_or true o h = record { rising = tt; numbers = λ q i. absurd i; bounded = λ q i. absurd i }
    fine_or false o h = h

  -- messages speak of epochs that were handed out
  pub record Known (k : Register) : Type 0 where
    pub stored : (l y n b : ℕ) → StoredBy sent l y n b → Reached k l (epoch_of n)
    pub pages : (l y b from upto t lng : ℕ) (es : List Entry) → In (from_node l y b (bodies.DigestPage from upto t lng es)) sent → Reached k l (epoch_of from)

  pub format_holds : (y g : ℕ) (k : Register) → Known k → Holding y (record { generation = g; logs = lost_logs (epochs_in k.logs) })
  format_holds y g k K = record {
    fine = λ l. lost_logs_fine (epochs_in k.logs) l;
    retains = λ l n b i. inl (inr (inl (lost_now k l (epoch_of n) (K.stored l y n b i))));
    seals = λ l b from upto t lng es i. inl (inr (inl (lost_now k l (epoch_of from) (K.pages l y b from upto t lng es i))));
  }

  pub blank_holds : (y : ℕ) → Holding y unformatted
  unfolding find
  blank_holds y = record { fine = λ l. record { rising = tt; numbers = λ q i. absurd i; bounded = λ q i. absurd i }; retains = λ l n b i. inl (inl refl); seals = λ l b from upto t lng es i. inl (inl refl) }

  -- ---- every op ----
  abbrev pub OpFine : Plain → Op → Type 0
  OpFine p (ops.Format generation epochs) = (k : Register) × (epochs ≡ epochs_in k.logs) × Known k
  OpFine p (ops.Accept l lng e) = Taking l (log_of p l) e
  OpFine p (ops.Seal l b) = (log_of p l).sealed ≤ b
  OpFine p (ops.Clean l epoch y) = Unit {0}
  OpFine p (ops.Trim l t) = Unit {0}
  OpFine p (ops.Refill l es) = (e : Entry) → In e es → CleanAt (log_of p l) (epoch_of e.number)
  OpFine p (ops.Refilled l) = (k : ℕ) → 0 < k → k ≤ (log_of p l).lost_to → CleanAt (log_of p l) k

  pub op_holds : (y : ℕ) (p : Plain) (o : Op) → Holding y p → OpFine p o → Holding y (apply p o)
  unfolding apply
  op_holds y p (ops.Format generation epochs) H h = subst (λ es. Holding y (record { generation = generation; logs = lost_logs es })) (sym h.1) (format_holds y generation h.0 h.2)
  op_holds y p (ops.Accept l lng e) H h = moves_hold y p l (accepted (log_of p l) lng e) H (accept_moves l (log_of p l) lng e (H.fine l) h)
  op_holds y p (ops.Seal l b) H h = moves_hold y p l (sealed_by (log_of p l) b) H (seal_moves l (log_of p l) b (H.fine l) h)
  op_holds y p (ops.Clean l epoch s) H h = moves_hold y p l (cleaned (log_of p l) epoch s) H (clean_moves l (log_of p l) epoch s (H.fine l))
  op_holds y p (ops.Trim l t) H h = moves_hold y p l (trimmed_to (log_of p l) t) H (trim_moves l (log_of p l) t (H.fine l))
  op_holds y p (ops.Refill l es) H h = moves_hold y p l (refilled_with (log_of p l) es) H (refill_moves l (log_of p l) es (H.fine l) h)
  op_holds y p (ops.Refilled l) H h = moves_hold y p l (refilled (log_of p l)) H (refilled_moves l (log_of p l) (H.fine l) h)
