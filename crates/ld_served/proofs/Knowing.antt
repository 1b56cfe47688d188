-- Where all nodes are well and clean in each closed epoch, some node of a look knows a number of it that is released, and each node's answer about it tells, or is a page without it.
use Rattle.std.proofs.Common.{◌≡◌, ◌∙◌, ◌≤◌, ◌<◌, ℕ, ◌+◌, ◌-◌, ◌*◌, ◌^◌, inl, inr, refl, ap, sym, subst, Bool, true, false, ◌&&◌, ◌==◌, if◌then◌else◌, nat_lt, nat_le, List, Option, Some, None, is_some, arith, eq-eqb, le-leb}
use Rattle.std.proofs.lemmas.Bool.{cases_Bool, cases_lt, cases_order, and_parts, and_from, eqb-true, eqb-false, lt-ltb, ltb-true}
use Rattle.ld_table.specs.Table.{find}
use Rattle.ld_lsn.specs.Number.{epoch_of, esn_of, numbered, home_epoch, home_esn, is_epoch_end, epoch_end, last_esn}
use Rattle.ld_ids.specs.Choice.{nodes_of}
use Rattle.ld_ids.specs.declared.set.Spec.{Spec}
use Rattle.ld_config.specs.declared.config.Config.{Config}
use Rattle.ld_config.specs.Bounds.{IsInBounds}
use Rattle.ld_msg.specs.declared.msg.Summary.{Summary}
use Rattle.ld_msg.specs.Register.{Register, look, epochs_of, lce_of}
use Rattle.ld_msg.specs.Sequencer.{Sequencer, released_of}
use Rattle.ld_op.specs.Plain.{Log, log_of, summary_at, is_lost, epoch_zero}
use Rattle.ld_op.specs.Answers.{read_answer, lets_read}
use Rattle.ld_machine.specs.Config.{all_nodes, has_log, fixed_of, fixed_at, spec_of, set_at}
use Rattle.ld_machine.specs.State.{State, node_at}
use Rattle.ld_machine.specs.Step as Step
use Rattle.ld_machine.specs.World.{World, In}
use Rattle.ld_safety.proofs.Lists.{Some_inj, not_none, not_both, of_some, cond_both}
use Rattle.ld_safety.proofs.GivenSteps.{BaseGiven}
use Rattle.ld_safety.proofs.Along.{Along}
use Rattle.ld_safety.proofs.Base.{counts_of}
use Rattle.ld_safety.proofs.Registers.{Reached, now_found, open_spec}
use Rattle.ld_safety.proofs.Specs.{SpecFine}
use Rattle.ld_safety.proofs.Settled.{ClosedBy, Acknowledged}
use Rattle.ld_safety.proofs.Protocol.{Basis, plan_of}
use Rattle.ld_safety.proofs.CopiesStand.{said_at}
use Rattle.ld_safety.proofs.LostFull.{FullLog}
use Rattle.ld_safety.proofs.LostEntries.{Accounts, fallen_accounts}
use Rattle.ld_safety.proofs.LostPages.{CleanKept, home_is, place_in}
use Rattle.ld_safety.proofs.LostJoined.{clean_kept}
use Rattle.ld_calm.proofs.Ended.{ends_everywhere}
use Rattle.ld_calm.proofs.Sets.{look_in}
use Rattle.ld_served.specs.Served.{IsWell}
use Rattle.ld_served.proofs.Last.{LastOf, here_most}
use Rattle.ld_served.proofs.Waits.{LooksFine, looks_in}
use Rattle.ld_served.proofs.Free.{Known}
use Rattle.ld_served.proofs.Kept.{Good}
use Rattle.ld_served.proofs.Round.{WasLost}
use Rattle.ld_served.proofs.NodeAnswers.{Sound, Knows, is_trimmed, is_ended, is_there, Answers, answers, below_end}
use Rattle.ld_served.proofs.Keeping.{some_node, some_accounts, acked_accounts}

-- ---- numbers ----

-- a number lies above its epoch's offset 0, and at most at the next one's
home_bounds : (n : ℕ) → 0 < home_epoch n → (home_epoch n * 2 ^ 32 < n) × (n ≤ home_epoch n * 2 ^ 32 + 2 ^ 32)
home_bounds n = by_last (is_epoch_end n) refl where
  by_last : (t : Bool) → is_epoch_end n ≡ t → 0 < (if t then epoch_of n - 1 else epoch_of n) → ((if t then epoch_of n - 1 else epoch_of n) * 2 ^ 32 < n) × (n ≤ (if t then epoch_of n - 1 else epoch_of n) * 2 ^ 32 + 2 ^ 32)
  by_last true t p = let a = and_parts (esn_of n == 0) (nat_lt 0 (epoch_of n)) t in let q = eqb-true (esn_of n) 0 a.0 in (omega arith, omega arith)
  by_last false t p = (above, omega arith) where
    above : epoch_of n * 2 ^ 32 < n
    above = elim (cases_Bool (esn_of n == 0)) [
      | inl u ↦ absurd (not_both (is_epoch_end n) (and_from (esn_of n == 0) (nat_lt 0 (epoch_of n)) u (lt-ltb 0 (epoch_of n) p)) t)
      | inr u ↦ let v = eqb-false (esn_of n) 0 u in elim (cases_order (esn_of n) 0) [ inl q ↦ absurd (v q) | inr (inl q) ↦ absurd (omega arith) | inr (inr q) ↦ omega arith ]
    ]

-- one of epoch 0 stands at an offset
zero_place : (n : ℕ) → 0 < n → home_epoch n ≡ 0 → 1 ≤ home_esn n
zero_place n = by_last (is_epoch_end n) where
  by_last : (t : Bool) → 0 < n → (if t then epoch_of n - 1 else epoch_of n) ≡ 0 → 1 ≤ (if t then 2 ^ 32 else esn_of n)
  by_last true p h = omega arith
  by_last false p h = omega arith

-- ---- what a look shows ----

-- at epoch 0 what the greatest one's shows
zero_shown : (c : Config) (r : Register) (l e : ℕ) → LooksFine c r → 0 < (epochs_of r l).epoch → e ≡ 0 → SpecFine (spec_of c r l e)
unfolding look
zero_shown c r l e L p z = subst (λ k. SpecFine (spec_of c r l k)) (sym z) (subst SpecFine (now_found c r l (epochs_of r l).epoch (p, omega arith)) (L l (epochs_of r l).epoch (p, omega arith)))

module _ (c : Config) (b : IsInBounds c) (s : State) (A : Good c s) (l n : ℕ) (log : has_log c l ≡ true) where
  abbrev w : World
  w = record { state = s; made = A.of_run.made; joined = A.of_run.joined }

  K : Known c A.of_run.steps w
  K = A.of_run.known

  B : BaseGiven c A.of_run.steps w × Along c A.of_run.steps w
  B = K.lined.0

  C : CleanKept c w
  C = clean_kept c A.of_run.steps w (B, K.trims)

  L : LooksFine c s.register
  L = looks_in c A.of_run.steps w K.lined

  abbrev e : ℕ
  e = home_epoch n

  abbrev g : ℕ → Log
  g y = log_of (node_at s y).plain l

  abbrev pub Shown : ℕ → Type 0
  Shown y = In y (set_at c s.register l e)

  -- ---- one node ----
  pub of_config : (y : ℕ) → Shown y → In y (all_nodes c)
  of_config y i = look_in c b s.register l e K.setting.1.1 log y i

  well : (y : ℕ) → In y (all_nodes c) → IsWell c s y
  well y i = A.healthy.nodes y i

  alive : (y : ℕ) → In y (all_nodes c) → 0 < (node_at s y).plain.generation
  alive y i = (B.1.ups y (well y i).up).1

  found : (y k : ℕ) → In y (all_nodes c) → is_lost (g y) k ≡ false
  found y k i = ap (λ t. t && (nat_lt 0 k && nat_le k (g y).lost_to)) ((well y i).whole l log)

  sound : (y : ℕ) → Sound (log_of (node_at s y).plain l)
  sound y = let t = C.tables y l (node_at s y).plain (inl refl) in record {
    rising = t.0;
    numbers = t.1;
    whole = λ q i. ((said_at c A.of_run.steps w B y (node_at s y).plain (inl refl) l).entries q i).1.given.kept;
    ends = λ k z f. ends_everywhere c A.of_run.steps w B l y k z f;
  }

  -- one that accounts for the number knows it
  accounts_know : (y k : ℕ) → In y (all_nodes c) → Accounts (node_at s y).plain l k n → Knows (log_of (node_at s y).plain l) n
  accounts_know y k i (inl h) = absurd (let a = alive y i in omega arith)
  accounts_know y k i (inr (inl h)) = absurd (not_both (is_lost (g y) k) h (found y k i))
  accounts_know y k i (inr (inr (inl h))) = is_trimmed h
  accounts_know y k i (inr (inr (inr h))) = is_there h

  -- an answer of a node that is clean there, or lets readers have the number
  module _ (y : ℕ) (i : In y (all_nodes c)) (lets : summary_at (log_of (node_at s y).plain l) (home_epoch n) ≡ None → lets_read (Step.released_at (node_at s y) l) n ≡ true) where
    pub node_answers : (round : ℕ) → Answers (log_of (node_at s y).plain l) n (read_answer (node_at s y).plain.generation (log_of (node_at s y).plain l) (Step.released_at (node_at s y) l) round n)
    node_answers round = answers (g y) (sound y) n (node_at s y).plain.generation (Step.released_at (node_at s y) l) round (found y e i) lets

  -- ---- what is known ----
  pub record Told : Type 0 where
    pub node : ℕ
    pub shown : In node (set_at c s.register l (home_epoch n))
    pub knows : Knows (log_of (node_at s node).plain l) n

  -- where a node was lost for the epoch once, it is clean there
  full : (y : ℕ) → FullLog (log_of (node_at s y).plain l)
  full y = B.1.full y (node_at s y).plain (inl refl) l

  clean_here : (y : ℕ) → In y (all_nodes c) → 0 < e → e ≤ (g y).lost_to → (z : Summary) × (summary_at (g y) e ≡ Some z) × (find e (g y).summaries ≡ Some z)
  unfolding summary_at
  clean_here y i pos le = let z = of_some (summary_at (g y) e) ((full y).clean ((well y i).whole l log) e pos le) in
      (z.0, z.1, cond_both (e == 0) (Some epoch_zero) (find e (g y).summaries) (λ o. o ≡ Some z.0 → find e (g y).summaries ≡ Some z.0) (λ t k. absurd (let u = eqb-true e 0 t in omega arith)) (λ t k. k) z.1)

  -- so it knows each number of it
  pub lost_knows : (y : ℕ) → In y (all_nodes c) → WasLost s l y n → Knows (log_of (node_at s y).plain l) n
  lost_knows y i h = by_clean (clean_here y i h.0 h.1) where
    by_clean : (z : Summary) × (summary_at (g y) e ≡ Some z) × (find e (g y).summaries ≡ Some z) → Knows (g y) n
    by_clean z = elim (cases_lt (g y).trim n) [
      | inr u ↦ is_trimmed u
      | inl u ↦ elim (cases_lt (home_esn n) z.0.end) [
        | inr v ↦ is_ended z.0 z.1 v
        | inl v ↦ (
            let k = C.summaries y l e (node_at s y).plain z.0 (inl refl) h.0 z.2 in
            let small = (C.bounded l e z.0 k.0 h.0).1 in
            let under = below_end n z.0.end v in
            let q = place_in n z.0.end h.0 (omega arith) small in
            let m : ClosedBy c A.of_run.steps A.of_run.made s.network.sent s.register l e z.0 = elim (B.1.said.register l e z.0 k.0).1 [ inl a ↦ absurd (let x = a.0 in let o = h.0 in omega arith) | inr a ↦ a ] in
            accounts_know y (epoch_of n) i (fallen_accounts c A.of_run.steps w B K.trims l n z.0 (subst (λ x. ClosedBy c A.of_run.steps A.of_run.made s.network.sent s.register l x z.0) q.0 m) q.1 q.2 y (node_at s y).plain (inl refl)
            (inr (let o = h.1 in let same = q.0 in omega arith))))
      ]
    ]

  -- an epoch was handed out where there is a sequencer
  pub has_epoch : (name : List ℕ) (q : Sequencer) → LastOf s.sequencers l name q → 0 < (epochs_of s.register l).epoch
  has_epoch name q last = let r = subst (λ j. Reached s.register j q.epoch) last.log (B.1.acks name q last.named).reached in let a = r.0 in let z = r.1 in omega arith

  -- ---- epoch 0 ----
  module _ (zero : home_epoch n ≡ 0) (place : 0 < n) where
    zero_at : (y : ℕ) → summary_at (g y) e ≡ Some epoch_zero
    unfolding summary_at
    zero_at y = ap (λ t. if t then Some epoch_zero else find e (g y).summaries) (eq-eqb e 0 zero)

    pub zero_knows : 0 < (epochs_of s.register l).epoch → Told
    zero_knows p = let y = some_node c w l e (zero_shown c s.register l e L p zero) in record { node = y.0; shown = y.1; knows = is_ended epoch_zero (zero_at y.0) (zero_place n place zero) }

    pub zero_lets : (y : ℕ) → summary_at (log_of (node_at s y).plain l) (home_epoch n) ≡ None → lets_read (Step.released_at (node_at s y) l) n ≡ true
    zero_lets y h = absurd (not_none (sym h ∙ zero_at y))

  -- ---- closed epochs ----
  module _ (pos : 0 < home_epoch n) (low : home_epoch n ≤ lce_of s.register l) (clean : (y : ℕ) → In y (all_nodes c) → is_some (find (home_epoch n) (log_of (node_at s y).plain l).summaries) ≡ true) where
    summary : (z : Summary) × (find e (epochs_of s.register l).summaries ≡ Some z)
    summary = by_found (find e (epochs_of s.register l).summaries) refl where
      by_found : (o : Option Summary) → find e (epochs_of s.register l).summaries ≡ o → (z : Summary) × (find e (epochs_of s.register l).summaries ≡ Some z)
      by_found None f = absurd ((B.1.each l).has e pos low f)
      by_found (Some z) f = (z, f)

    -- at each node
    record Here (y : ℕ) : Type 0 where
      at : summary_at (log_of (node_at s y).plain l) (home_epoch n) ≡ Some summary.0
      trim : summary.0.trim ≤ (log_of (node_at s y).plain l).trim

    here : (y : ℕ) → In y (all_nodes c) → Here y
    unfolding summary_at
    here y i =
        let f = of_some (find e (g y).summaries) (clean y i) in
        let k = C.summaries y l e (node_at s y).plain f.0 (inl refl) pos f.1 in
        let same : f.0 ≡ summary.0 = Some_inj (sym k.0 ∙ summary.1) in
        record {
          at = cond_both (e == 0) (Some epoch_zero) (find e (g y).summaries) (λ o. o ≡ Some summary.0) (λ t. absurd (let u = eqb-true e 0 t in omega arith)) (λ t. f.1 ∙ ap Some same);
          trim = subst (λ (z : Summary). z.trim ≤ (g y).trim) same k.1;
        }

    pub closed_lets : (y : ℕ) → In y (all_nodes c) → summary_at (log_of (node_at s y).plain l) (home_epoch n) ≡ None → lets_read (Step.released_at (node_at s y) l) n ≡ true
    closed_lets y i h = absurd (not_none (sym h ∙ (here y i).at))

    pub closed_knows : Told
    closed_knows = elim (cases_lt summary.0.trim n) [
      | inr u ↦ let h = here y.0 (of_config y.0 y.1) in record { node = y.0; shown = y.1; knows = is_trimmed (let t = h.trim in omega arith) }
      | inl u ↦ elim (cases_lt (home_esn n) summary.0.end) [
        | inr v ↦ record { node = y.0; shown = y.1; knows = is_ended summary.0 (here y.0 (of_config y.0 y.1)).at v }
        | inl v ↦ (
            let under = below_end n summary.0.end v in
            let k = some_accounts c A.of_run.steps w B K.trims L l n summary.0 summary.1 pos u (omega arith) in
            record { node = k.0; shown = k.1; knows = accounts_know k.0 e (of_config k.0 k.1) (k.2 (node_at s k.0).plain (inl refl)) })
      ]
    ] where
      y : (y : ℕ) × In y (set_at c s.register l (home_epoch n))
      y = some_node c w l e (L l e (pos, (C.bounded l e summary.0 summary.1 pos).0))

  -- ---- the last sequencer's own ----
  module _ (name : List ℕ) (q : Sequencer) (last : LastOf s.sequencers l name q) (closed : lce_of s.register l + 1 ≡ q.epoch) (next : n ≤ released_of q) (above : lce_of s.register l < home_epoch n)
      (known : (y : ℕ) → In y (nodes_of q.spec) → released_of q ≤ Step.released_at (node_at s y) l) where
    acks : (q.lce ≤ lce_of s.register l) × Reached s.register l q.epoch × (q.spec ≡ fixed_of c s.register l q.epoch) × ((k : ℕ) → 0 < k → k ≤ q.lng → Acknowledged c A.of_run.steps s.network.sent s.register l (numbered q.epoch k))
    acks = let a = B.1.acks name q last.named in subst (λ j. (q.lce ≤ lce_of s.register j) × Reached s.register j q.epoch × (q.spec ≡ fixed_of c s.register j q.epoch) × ((k : ℕ) → 0 < k → k ≤ q.lng → Acknowledged c A.of_run.steps s.network.sent s.register j (numbered q.epoch k))) last.log (a.closed, a.reached, a.spec, a.acked)

    small : q.lng < last_esn
    small = let k = (counts_of c A.of_run.steps w B.0.0 name q last.named).small in omega arith

    -- the number is one of its own, known good
    record Own : Type 0 where
      epoch : epoch_of n ≡ q.epoch
      home : home_epoch n ≡ q.epoch
      place : 0 < esn_of n
      good : esn_of n ≤ q.lng
      number : numbered q.epoch (esn_of n) ≡ n

    own : Own
    own = cond_both (nat_lt (q.lce + 1) q.epoch) (epoch_end q.lce) (numbered q.epoch q.lng) (λ k. n ≤ k → Own)
        (λ t h. absurd (let a = (home_bounds n (omega arith)).0 in let z = ltb-true (q.lce + 1) q.epoch t in omega arith))
        (λ t h. (let a = (home_bounds n (omega arith)).0 in let u = small in let k = home_is n q.epoch (omega arith) (omega arith) in let x = k.0 in let z = k.1 in record { epoch = z; home = x; place = omega arith; good = omega arith; number = omega arith })) next

    -- the set of a look is what it was given
    of_spec : (y : ℕ) → Shown y → In y (nodes_of q.spec)
    of_spec y i =
        let o = open_spec c s.register l q.epoch B.1.each acks.1 (omega arith) in
        subst (λ (p : Spec). In y (nodes_of p)) (sym acks.2) (subst (λ (p : Spec). In y (nodes_of p)) o (subst (λ k. In y (set_at c s.register l k)) own.home i))

    pub open_lets : (y : ℕ) → Shown y → lets_read (Step.released_at (node_at s y) l) n ≡ true
    open_lets y i =
        let r = Step.released_at (node_at s y) l in
        let up = known y (of_spec y i) in
        let top = ((B.1.said.nodes y).released l).closed in
        let o = own.home in
        let a = (home_bounds n (omega arith)).0 in
        and_from (nat_lt 0 (esn_of r) && (epoch_of r == home_epoch n)) (nat_le n r) (and_from (nat_lt 0 (esn_of r)) (epoch_of r == home_epoch n) (lt-ltb 0 (esn_of r) (omega arith)) (eq-eqb (epoch_of r) (home_epoch n) (omega arith))) (le-leb n r (omega arith))

    -- no plan is made of it
    none_planned : (k : ℕ) (d : Basis) → In (plan_of l (epoch_of n) k d) A.of_run.made → ⊥
    none_planned k d i =
        let m = here_most s.sequencers l name q k last (K.booked (plan_of l (epoch_of n) k d) i) in
        let v = (B.1.plans l (epoch_of n) k d i).later in let o = own.epoch in omega arith

    fine : SpecFine (fixed_of c s.register l (epoch_of n))
    fine = subst (λ x. SpecFine (fixed_of c s.register l x)) (sym own.epoch) (subst SpecFine (open_spec c s.register l q.epoch B.1.each acks.1 (omega arith)) (L l q.epoch acks.1))

    pub open_knows : Told
    open_knows =
        let a = acks.3 (esn_of n) own.place own.good in
        let o = own.epoch in
        let k = acked_accounts c A.of_run.steps w B l n (omega arith) none_planned (subst (Acknowledged c A.of_run.steps s.network.sent s.register l) own.number a) fine in
        let i : In k.0 (set_at c s.register l (home_epoch n)) = subst (λ x. In k.0 (set_at c s.register l x)) (sym own.home) (subst (λ (p : Spec). In k.0 (nodes_of p)) (sym (open_spec c s.register l q.epoch B.1.each acks.1 (omega arith))) (subst (λ x. In k.0 (fixed_at c s.register l x)) own.epoch k.1)) in
        record { node = k.0; shown = i; knows = accounts_know k.0 (epoch_of n) (of_config k.0 i) (k.2 (node_at s k.0).plain (inl refl)) }
