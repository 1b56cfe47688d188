-- What an answer makes a reader ask is paid by what it may still ask.
use Rattle.std.proofs.Common.{◌≡◌, ◌∙◌, ◌⊎◌, ◌≤◌, ◌<◌, ℕ, zero, suc, ◌+◌, ◌*◌, min, inl, inr, refl, ap, sym, subst, Bool, true, false, not, ◌&&◌, ◌||◌, ◌==◌, nat_lt, if◌then◌else◌, List, [], ◌∷◌, ◌++◌, length, Option, Some, None, arith, length-append}
use Rattle.std.proofs.lemmas.Bool.{cases_Bool, and_parts, ltb-true, ltb-false, leb-true, lt-ltb, eqb-true, eq-eqb, not-true, or_left, or_right, or_cases}
use Rattle.std.proofs.Math.Nat.{mul-suc, mul-le-mul_left}
use Rattle.ld_table.specs.Table.{find, put}
use Rattle.ld_table.specs.Words.{with_one, how_many, any_of}
use Rattle.ld_table.proofs.Laws.{put_cases}
use Rattle.ld_lsn.specs.Number.{home_epoch}
use Rattle.ld_ids.specs.Choice.{nodes_of}
use Rattle.ld_msg.specs.declared.msg.Body.{Body}
use Rattle.ld_msg.specs.declared.msg.Body.TheVariants as bodies
use Rattle.ld_msg.specs.Register.{View}
use Rattle.ld_msg.specs.Reading.{Held, Item, TrimTo, RecordHere, HoleHere, BridgeTo, LossHere, LossTo, Verdict, Gives, Confirms, AsksAll, NotYet, trim_held, record_held, hole_held, plug_held, end_held, is_loss, bridge_to, decide, lost_held, within}
use Rattle.ld_msg.specs.Reader.{Reader, Confirmation, Senders, Read, is_finished, last_round, asks_with, asks_of, round_ask, keys, look_of, shown_swaps, sees_swap, is_single, left_out, flags_of, senders_of, starts, start_asks, is_full_poll, polled, poll_asks, item_end, after_item, gives, confirms, asks_all, may_confirm, seen_nodes, misses, gives_all, most_items, round_of, is_newer, held_with, confirming_with, confirms_loss, is_confirmed, heard, nothing_read, loses, is_confirming, has_seen, reaches, gave_item, asks_on, goes_through, heard_on, on_answer}
use Rattle.ld_machine.specs.World.{In}
use Rattle.ld_safety.proofs.Lists.{cond_both, count_mono, how_many-yes, how_many-no, not_none}
use Rattle.ld_safety.proofs.LostReads.{not_finished}
use Rattle.ld_safety.proofs.ReaderSteps.{decided, below_end, ReadKeeps, answered}
use Rattle.ld_calm.proofs.Lefts.{left, left_past}

-- how many nodes there are, and which; the count of swaps; the numbers that items end at; the round since which nodes are as they are now; and whether a node is lost for an epoch under a generation
pub record Ground : Type 0 where
  pub nodes : ℕ
  pub all : List ℕ
  pub swaps : ℕ
  pub marks : List ℕ
  pub since : ℕ
  pub right : ℕ → ℕ → ℕ → Bool

-- ---- what a reader may still ask ----

-- an answer of a round since then
abbrev pub is_fresh : ℕ → Option Held → Bool
is_fresh since None = false
is_fresh since (Some h) = nat_lt since h.round

abbrev pub is_wrong : (ℕ → ℕ → ℕ → Bool) → ℕ → ℕ → Option ℕ → Bool
is_wrong right e y None = false
is_wrong right e y (Some g) = not (right y g e)

-- a confirmation of such a round asks the node wrongly
abbrev pub asks_wrongly : Ground → ℕ → ℕ → Option Confirmation → Bool
asks_wrongly g e y None = false
asks_wrongly g e y (Some v) = nat_lt g.since v.round && is_wrong g.right e y (find y v.asked)

abbrev pub is_unsure : Ground → ℕ → List (ℕ × Held) → Option Confirmation → ℕ → Bool
is_unsure g e hs o y = not (is_fresh g.since (find y hs)) || asks_wrongly g e y o

abbrev pub unsure : Ground → ℕ → List (ℕ × Held) → Option Confirmation → ℕ
unsure g e hs o = how_many (is_unsure g e hs o) g.all

-- nothing while a confirmation of such a round lasts
abbrev pub loose : Ground → Option Confirmation → ℕ
loose g None = g.nodes
loose g (Some v) = if nat_lt g.since v.round then 0 else g.nodes

-- in a round in which one node sends each payload
abbrev pub single : Ground → Option Senders → ℕ
single g None = 0
single g (Some o) = g.nodes

-- before a look that shows that sets have changed
abbrev pub swap_cost : Ground → Option View → ℕ
swap_cost g o = if shown_swaps o == g.swaps then 0 else g.nodes * g.nodes + 3 * g.nodes

abbrev pub cost_of : Ground → ℕ → List (ℕ × Held) → Option Confirmation → Option View → Option Senders → ℕ
cost_of g next hs o seen by = 3 * (g.nodes * left next g.marks) + (g.nodes * unsure g (home_epoch next) hs o + (loose g o + (single g by + swap_cost g seen)))

abbrev pub asks_cost : Ground → Reader → ℕ
asks_cost g d = cost_of g d.next d.held d.confirming d.seen d.senders

-- the same, as if no confirmation lasted
abbrev pub loose_cost : Ground → Reader → ℕ
loose_cost g d = cost_of g d.next d.held None d.seen d.senders

-- a reader that is finished, or in its last round, asks nothing any more
abbrev pub may_ask : Ground → Reader → ℕ
may_ask g d = if is_finished d || not (nat_lt d.round last_round) then 0 else asks_cost g d

-- ---- counts ----

-- a test that is weaker everywhere, and false at one member where the other is true
count_less : {X : Type 0} (p q : X → Bool) (x : X) (xs : List X) → In x xs → ((y : X) → p y ≡ true → q y ≡ true) → p x ≡ false → q x ≡ true → how_many p xs + 1 ≤ how_many q xs
count_less p q x [] i h a b = absurd i
count_less p q x (y ∷ xs) (inl e) h a b =
    let m : how_many p xs ≤ how_many q xs = count_mono p q xs (λ z j t. h z t) in
    omega (arith, how_many-no p y xs (subst (λ z. p z ≡ false) e a), how_many-yes q y xs (subst (λ z. q z ≡ true) e b))
count_less p q x (y ∷ xs) (inr i) h a b =
    let ih : how_many p xs + 1 ≤ how_many q xs = count_less p q x xs i h a b in elim (cases_Bool (p y)) [
      | inl t ↦ omega (arith, how_many-yes p y xs t, how_many-yes q y xs (h y t))
      | inr t ↦ elim (cases_Bool (q y)) [
        | inl u ↦ omega (arith, how_many-no p y xs t, how_many-yes q y xs u)
        | inr u ↦ omega (arith, how_many-no p y xs t, how_many-no q y xs u)
      ]
    ]

count_most : {X : Type 0} (p : X → Bool) (xs : List X) → how_many p xs ≤ length xs
count_most p [] = omega arith
count_most p (x ∷ xs) = let ih : how_many p xs ≤ length xs = count_most p xs in cond_both (p x) (suc (how_many p xs)) (how_many p xs) (λ n. n ≤ suc (length xs)) (λ t. omega arith) (λ t. omega arith)

-- one less, so many times
times_step : (n a b : ℕ) → a + 1 ≤ b → n * a + n ≤ n * b
times_step n a b h = let m : n * suc a ≤ n * b = mul-le-mul_left n (omega arith) in let s : n * suc a ≡ n * a + n = mul-suc n a in omega arith

times_mono : (n a b : ℕ) → a ≤ b → n * a ≤ n * b
times_mono n a b h = mul-le-mul_left n h

asks_length : (b : Body) (ys : List ℕ) → length (asks_with b ys) ≡ length ys
asks_length b [] = refl
asks_length b (y ∷ ys) = ap suc (asks_length b ys)

module _ (g : Ground) (all_nodes : length g.all ≡ g.nodes) where
  n : ℕ
  n = g.nodes

  pub unsure_most : (e : ℕ) (hs : List (ℕ × Held)) (o : Option Confirmation) → g.nodes * unsure g e hs o ≤ g.nodes * g.nodes
  unsure_most e hs o = let m = count_most (is_unsure g e hs o) g.all in times_mono g.nodes (unsure g e hs o) g.nodes (omega arith)

  pub loose_most : (o : Option Confirmation) → loose g o ≤ g.nodes
  loose_most None = omega arith
  loose_most (Some v) = cond_both (nat_lt g.since v.round) 0 g.nodes (λ k. k ≤ g.nodes) (λ t. omega arith) (λ t. omega arith)

  single_most : (o : Option Senders) → single g o ≤ g.nodes
  single_most None = omega arith
  single_most (Some o) = omega arith

  -- without a confirmation no more nodes are unsure
  unsure_none : (e : ℕ) (hs : List (ℕ × Held)) (o : Option Confirmation) → g.nodes * unsure g e hs None ≤ g.nodes * unsure g e hs o
  unsure_none e hs o = times_mono g.nodes (unsure g e hs None) (unsure g e hs o) (count_mono (is_unsure g e hs None) (is_unsure g e hs o) g.all (λ y i t. elim (or_cases (not (is_fresh g.since (find y hs))) false t) [ inl a ↦ or_left _ _ a | inr a ↦ absurd cc ]))

  cost_loose : (d : Reader) → loose_cost g d ≤ asks_cost g d + g.nodes
  cost_loose d = let u = unsure_none (home_epoch d.next) d.held d.confirming in omega arith

  may_most : (d : Reader) → may_ask g d ≤ asks_cost g d
  may_most d = cond_both (is_finished d || not (nat_lt d.round last_round)) 0 (asks_cost g d) (λ k. k ≤ asks_cost g d) (λ t. omega arith) (λ t. omega arith)

  -- ---- a round that begins ----
  module _ (looks : ℕ → View) (looked : (e : ℕ) → length (nodes_of (looks e).spec) ≤ g.nodes) (swaps_now : (e : ℕ) → (looks e).swaps ≡ g.swaps) where
    -- beside the asks themselves a round costs a confirmation that ended, and that one node sends each payload
    abbrev for_single : Bool → ℕ
    for_single full = if full then 0 else g.nodes

    single_of : (full : Bool) (w : View) (d : Reader) → single g (senders_of full w d) ≤ for_single full
    single_of true w d = cond_both ((is_single d.style && not true) && nat_lt (length (left_out d w)) (length (nodes_of w.spec))) (Some (record { set = w.spec.set; excluded = flags_of (left_out d w) })) None (λ o. single g o ≤ 0)
        (λ t. absurd (let p = and_parts (is_single d.style && not true) (nat_lt (length (left_out d w)) (length (nodes_of w.spec))) t in let r = and_parts (is_single d.style) (not true) p.0 in let z : false ≡ true = r.1 in cc)) (λ t. omega arith)
    single_of false w d = single_most (senders_of false w d)

    seen_now : (e : ℕ) → swap_cost g (Some (looks e)) ≡ 0
    seen_now e = cond_both ((looks e).swaps == g.swaps) 0 (g.nodes * g.nodes + 3 * g.nodes) (λ k. k ≡ 0) (λ t. refl) (λ t. absurd (let z : ((looks e).swaps == g.swaps) ≡ true = eq-eqb _ _ (swaps_now e) in cc))

    swap_seen : (o : Option View) (e : ℕ) → sees_swap o (looks e) ≡ true → swap_cost g o ≡ g.nodes * g.nodes + 3 * g.nodes
    swap_seen o e h = cond_both (shown_swaps o == g.swaps) 0 (g.nodes * g.nodes + 3 * g.nodes) (λ k. k ≡ g.nodes * g.nodes + 3 * g.nodes)
        (λ t. absurd (let q : shown_swaps o ≡ (looks e).swaps = eqb-true _ _ t ∙ sym (swaps_now e) in let z : (shown_swaps o == (looks e).swaps) ≡ true = eq-eqb _ _ q in let y : not (shown_swaps o == (looks e).swaps) ≡ true = h in cc)) (λ t. refl)

    started : (full : Bool) (d : Reader) (by : Option Senders) (asks : List (ℕ × Body)) → length asks ≤ g.nodes → single g by ≤ for_single full → (t u : Bool) → sees_swap d.seen (look_of looks d) ≡ u →
        length (if t then asks else []) + cost_of g d.next (if t && u then [] else d.held) None (if t then Some (look_of looks d) else d.seen) (if t then by else d.senders)
        ≤ 3 * (g.nodes * left d.next g.marks) + (g.nodes * unsure g (home_epoch d.next) d.held None + (g.nodes + (g.nodes + (for_single full + swap_cost g d.seen))))
    started full d by asks l s false u h = let a = single_most d.senders in omega arith
    started full d by asks l s true false h = let a = seen_now (home_epoch d.next) in omega arith
    started full d by asks l s true true h = let a = seen_now (home_epoch d.next) in let b = swap_seen d.seen (home_epoch d.next) h in let m = unsure_most (home_epoch d.next) [] None in omega arith

    asks_few : (full : Bool) (d : Reader) → length (asks_with (round_ask (senders_of full (look_of looks d) d) (d.round + 1) d.next) (nodes_of (look_of looks d).spec)) ≤ g.nodes
    asks_few full d = let a = asks_length (round_ask (senders_of full (look_of looks d) d) (d.round + 1) d.next) (nodes_of (look_of looks d).spec) in let b = looked (home_epoch d.next) in omega arith

    pub starts_paid : (full : Bool) (d : Reader) → length (start_asks full looks d) + asks_cost g (starts full looks d)
        ≤ 3 * (g.nodes * left d.next g.marks) + (g.nodes * unsure g (home_epoch d.next) d.held None + (g.nodes + (g.nodes + (for_single full + swap_cost g d.seen))))
    starts_paid full d = started full d (senders_of full (look_of looks d) d) (asks_with (round_ask (senders_of full (look_of looks d) d) (d.round + 1) d.next) (nodes_of (look_of looks d).spec)) (asks_few full d) (single_of full (look_of looks d) d) (nat_lt d.round last_round) (sees_swap d.seen (look_of looks d)) refl

    -- one that begins as sets have changed is paid by that alone
    swapped_by : (d : Reader) (by : Option Senders) (asks : List (ℕ × Body)) → length asks ≤ g.nodes → sees_swap d.seen (look_of looks d) ≡ true → length asks + cost_of g d.next [] None (Some (look_of looks d)) by ≤ 3 * (g.nodes * left d.next g.marks) + swap_cost g d.seen
    swapped_by d by asks l h = let a = seen_now (home_epoch d.next) in let b = swap_seen d.seen (home_epoch d.next) h in let m = unsure_most (home_epoch d.next) [] None in let s = single_most by in omega arith

    pub swap_paid : (full : Bool) (d : Reader) → sees_swap d.seen (look_of looks d) ≡ true → nat_lt d.round last_round ≡ true → length (start_asks full looks d) + asks_cost g (starts full looks d) ≤ asks_cost g d
    swap_paid full d h t = let z = by_tests (nat_lt d.round last_round) (sees_swap d.seen (look_of looks d)) t h in omega arith where
      by_tests : (a b : Bool) → a ≡ true → b ≡ true → length (if a then asks_with (round_ask (senders_of full (look_of looks d) d) (d.round + 1) d.next) (nodes_of (look_of looks d).spec) else [])
          + cost_of g d.next (if a && b then [] else d.held) None (if a then Some (look_of looks d) else d.seen) (if a then senders_of full (look_of looks d) d else d.senders) ≤ 3 * (g.nodes * left d.next g.marks) + swap_cost g d.seen
      by_tests true true e f = swapped_by d (senders_of full (look_of looks d) d) (asks_with (round_ask (senders_of full (look_of looks d) d) (d.round + 1) d.next) (nodes_of (look_of looks d).spec)) (asks_few full d) h
      by_tests true false e f = absurd cc
      by_tests false b e f = absurd cc

    -- ---- a poll ----

    -- in the last round nothing is asked
    pub last_asks : (full : Bool) (d : Reader) → nat_lt d.round last_round ≡ false → start_asks full looks d ≡ []
    last_asks full d h = λ i. if h i then asks_with (round_ask (senders_of full (look_of looks d) d) (d.round + 1) d.next) (nodes_of (look_of looks d).spec) else []

    pub last_stays : (full : Bool) (d : Reader) → nat_lt d.round last_round ≡ false → (starts full looks d).round ≡ d.round
    last_stays full d h = λ i. if h i then d.round + 1 else d.round

    last_none : (d : Reader) → nat_lt d.round last_round ≡ false → may_ask g d ≡ 0
    last_none d h = cond_both (is_finished d || not (nat_lt d.round last_round)) 0 (asks_cost g d) (λ k. k ≡ 0) (λ t. refl) (λ t. absurd (let z : (is_finished d || not (nat_lt d.round last_round)) ≡ true = or_right (is_finished d) (not (nat_lt d.round last_round)) (ap not h) in let k : true ≡ false = sym z ∙ t in cc))

    may_now : (d : Reader) → is_finished d ≡ false → nat_lt d.round last_round ≡ true → may_ask g d ≡ asks_cost g d
    may_now d f h = (λ i. if f i || not (nat_lt d.round last_round) then 0 else asks_cost g d) ∙ (λ i. if not (h i) then 0 else asks_cost g d)

    -- a poll is paid but for its asks, a confirmation that ends, and a round of single copies that begins
    pub poll_paid : (d : Reader) → is_finished d ≡ false → length (poll_asks looks d) + may_ask g (polled looks d) ≤ may_ask g d + 3 * g.nodes
    poll_paid d f = elim (cases_Bool (nat_lt d.round last_round)) [
      | inl h ↦ (let p = starts_paid (is_full_poll d) d in let m = may_most (polled looks d) in let k = may_now d f h in let u = unsure_none (home_epoch d.next) d.held d.confirming in let s = single_full (is_full_poll d) in omega arith)
      | inr h ↦ (let a : length (poll_asks looks d) ≡ 0 = ap length (last_asks (is_full_poll d) d h) in let e : nat_lt (polled looks d).round last_round ≡ false = ap (λ k. nat_lt k last_round) (last_stays (is_full_poll d) d h) ∙ h in let b = last_none (polled looks d) e in omega arith)
    ] where
      single_full : (full : Bool) → for_single full ≤ g.nodes
      single_full true = omega arith
      single_full false = omega arith

    -- ---- an answer in the last round ----
    module _ (d : Reader) (y : ℕ) (b : Body) (last : nat_lt d.round last_round ≡ false) where
      abbrev Quiet : Read → Type 0
      Quiet a = (a.asks ≡ []) × (a.reader.round ≡ d.round)

      still_last : (a : Read) → Quiet a → nat_lt a.reader.round last_round ≡ false
      still_last a q = ap (λ k. nat_lt k last_round) q.1 ∙ last

      quiet_keeps : ReadKeeps looks d y b Quiet
      quiet_keeps = record {
        starts = (refl, refl);
        ignored = λ t. (refl, refl);
        loss = λ h s. (refl, refl);
        swapped = λ h s. (last_asks false (heard d y b) last, last_stays false (heard d y b) last);
        trim = λ a q n t. q;
        record_there = λ a p q n t. q;
        hole_there = λ a q n t. q;
        plug = λ a q n t. q;
        bridge = λ a q n t. q;
        lossy_end = λ a q n t. q;
        confirm = λ a q n m t. absurd (let p = and_parts (not (is_confirming a.reader.confirming) && nat_lt a.reader.round last_round) (has_seen (home_epoch a.reader.next) a.reader.seen) m in let u = and_parts (not (is_confirming a.reader.confirming)) (nat_lt a.reader.round last_round) p.0 in
            let z : true ≡ false = sym u.1 ∙ still_last a q in cc);
        asks_all = λ a q n. (last_asks true a.reader (still_last a q), last_stays true a.reader (still_last a q) ∙ q.1);
        polls_on = λ a q t. ((λ i. q.0 i ++ last_asks false a.reader (still_last a q) i), last_stays false a.reader (still_last a q) ∙ q.1);
      }

      pub last_paid : length (on_answer looks d y b).asks + may_ask g (on_answer looks d y b).reader ≡ 0
      last_paid = let q = answered looks d y b Quiet quiet_keeps in let a : length (on_answer looks d y b).asks ≡ 0 = ap length q.0 in let z = last_none (on_answer looks d y b).reader (still_last (on_answer looks d y b) q) in omega arith

    -- ---- an answer is gone through ----
    module _ (d : Reader) (y : ℕ) (b : Body) (since : g.since ≤ d.round) (apart : (v : Confirmation) → (heard d y b).confirming ≡ Some v → d.senders ≡ None) where
      -- a reader on the way: what it holds, its round and its senders are as they were
      pub record Through (e : Reader) : Type 0 where
        pub positive : 0 < e.next
        pub held : e.held ≡ (heard d y b).held
        pub round : e.round ≡ d.round
        pub senders : e.senders ≡ d.senders
        pub confirming : (v : Confirmation) → e.confirming ≡ Some v → d.senders ≡ None

      -- where items end, and whom a confirmation asks
      pub record Facts : Type 0 where
        pub positive : 0 < d.next
        pub trim : (e : Reader) → Through e → e.next ≤ trim_held e.held → In (trim_held e.held) g.marks
        pub there : (e : Reader) (p : List ℕ) → Through e → record_held e.next e.held ≡ Some p → In e.next g.marks
        pub hole : (e : Reader) → Through e → hole_held e.next e.held ≡ true → In e.next g.marks
        pub plug : (e : Reader) → Through e → plug_held e.next e.held ≡ true → In e.next g.marks
        pub end : (e : Reader) (loss : Bool) → Through e → end_held e.next e.held ≡ Some loss → In (bridge_to e.next) g.marks
        pub loss : is_confirmed (heard d y b).confirming ≡ true → In d.next g.marks
        pub few : (e : Reader) → Through e → is_loss e.next (seen_nodes e.seen) e.held ≡ true → length (lost_held e.next (within (seen_nodes e.seen) e.held)) ≤ g.nodes
        pub right : (e : Reader) (x : ℕ) → Through e → is_loss e.next (seen_nodes e.seen) e.held ≡ true → is_fresh g.since (find x e.held) ≡ true → is_wrong g.right (home_epoch e.next) x (find x (lost_held e.next (within (seen_nodes e.seen) e.held))) ≡ false

      module _ (F : Facts) where
        -- an item leaves a reader that is finished, or past a mark
        abbrev pub ItemPaid : Reader → Reader → Type 0
        ItemPaid e f = ((is_finished f ≡ true) × (1 ≤ left e.next g.marks)) ⊎ ((left f.next g.marks + 1 ≤ left e.next g.marks) × (asks_cost g f + 3 * g.nodes ≤ loose_cost g e))

        below_until : (k u : ℕ) → min k u + 1 ≤ u → min k u + 1 ≡ k + 1
        below_until k u h = omega arith

        past_mark : (e : Reader) (i : Item) → e.next ≤ item_end e.next i → In (item_end e.next i) g.marks → ItemPaid e (after_item e i)
        past_mark e i low m = elim (cases_Bool (is_finished (after_item e i))) [
          | inl t ↦ inl (t, let z = left_past e.next (item_end e.next i) g.marks m low in omega arith)
          | inr t ↦ inr (
            let at : min (item_end e.next i) e.until + 1 ≡ item_end e.next i + 1 = below_until (item_end e.next i) e.until (not_finished (after_item e i) t) in
                subst (λ k. left k g.marks + 1 ≤ left e.next g.marks) (sym at) (left_past e.next (item_end e.next i) g.marks m low),
            let at : min (item_end e.next i) e.until + 1 ≡ item_end e.next i + 1 = below_until (item_end e.next i) e.until (not_finished (after_item e i) t) in
                let fall : g.nodes * left (item_end e.next i + 1) g.marks + g.nodes ≤ g.nodes * left e.next g.marks = times_step g.nodes (left (item_end e.next i + 1) g.marks) (left e.next g.marks) (left_past e.next (item_end e.next i) g.marks m low) in
                let same : g.nodes * left (min (item_end e.next i) e.until + 1) g.marks ≡ g.nodes * left (item_end e.next i + 1) g.marks = ap (λ k. g.nodes * left k g.marks) at in
                let u : g.nodes * unsure g (home_epoch (min (item_end e.next i) e.until + 1)) e.held None ≡ g.nodes * unsure g (home_epoch e.next) e.held None = refl in
                omega arith,
          )
        ]

        -- what some rows of the table come to: no item, or one at least, which pays for one more round
        pub data Outcome (a r : Read) : Type 0 where
          no_item : gave_item r.items ≡ gave_item a.items → r.reader.next ≡ a.reader.next → length r.asks + asks_cost g r.reader ≤ asks_cost g a.reader → Outcome a r
          ends_it : is_finished r.reader ≡ true → r.asks ≡ [] → 1 ≤ left a.reader.next g.marks → Outcome a r
          gave_some : left r.reader.next g.marks + 1 ≤ left a.reader.next g.marks → length r.asks + (asks_cost g r.reader + 3 * g.nodes) ≤ loose_cost g a.reader → Outcome a r

        pub record OnTheWay (a : Read) : Type 0 where
          pub through : Through a.reader
          pub quiet : a.asks ≡ []

        given_way : (a : Read) (i : Item) → OnTheWay a → OnTheWay (gives a i)
        given_way a i h = record { through = record { positive = omega arith; held = h.through.held; round = h.through.round; senders = h.through.senders; confirming = λ v q. absurd (not_none q) }; quiet = h.quiet }

        -- nothing is gone through for a reader that is finished
        still : (k : ℕ) (a : Read) → is_finished a.reader ≡ true → gives_all k looks a ≡ a
        still zero a h = refl
        still (suc k) a h = ap (λ t. elim (if t then NotYet else decide a.reader.next (misses a.reader a.reader.senders) (may_confirm a.reader) (seen_nodes a.reader.seen) a.reader.held) as (λ _. Read) [ Gives i ↦ gives_all k looks (gives a i) | Confirms lost ↦ confirms looks a lost | AsksAll ↦ asks_all looks a | NotYet ↦ a ]) h

        after_given : (k : ℕ) (a : Read) (i : Item) → OnTheWay a → ItemPaid a.reader (after_item a.reader i) → Outcome (gives a i) (gives_all k looks (gives a i)) → Outcome a (gives_all k looks (gives a i))
        after_given k a i h (inl t) o = subst (Outcome a) (sym (still k (gives a i) t.0)) (ends_it t.0 h.quiet t.1)
        after_given k a i h (inr l) (no_item e n q) = gave_some (subst (λ j. left j g.marks + 1 ≤ left a.reader.next g.marks) (sym n) l.0) (let z = l.1 in omega arith)
        after_given k a i h (inr l) (ends_it t e n) = ends_it t e (let z = l.0 in omega arith)
        after_given k a i h (inr l) (gave_some n q) = gave_some (let z = l.0 in omega arith) (let z = l.1 in omega arith)

        -- a confirmation asks only nodes that are lost, under their generations, or that are unsure anyway
        confirm_unsure : (e : Reader) (v : Confirmation) → Through e → is_loss e.next (seen_nodes e.seen) e.held ≡ true → v.asked ≡ lost_held e.next (within (seen_nodes e.seen) e.held)
            → g.nodes * unsure g (home_epoch e.next) e.held (Some v) ≤ g.nodes * unsure g (home_epoch e.next) e.held None
        confirm_unsure e v T l q = times_mono g.nodes (unsure g (home_epoch e.next) e.held (Some v)) (unsure g (home_epoch e.next) e.held None) (count_mono (is_unsure g (home_epoch e.next) e.held (Some v)) (is_unsure g (home_epoch e.next) e.held None) g.all
            (λ x i t. elim (cases_Bool (is_fresh g.since (find x e.held))) [
              | inl f ↦ absurd (let w : is_wrong g.right (home_epoch e.next) x (find x v.asked) ≡ false = subst (λ m. is_wrong g.right (home_epoch e.next) x (find x m) ≡ false) (sym q) (F.right e x T l f) in
                  wrongly x f w t)
              | inr f ↦ or_left (not (is_fresh g.since (find x e.held))) false (let z : not (is_fresh g.since (find x e.held)) ≡ true = ap not f in z)
            ])) where
              wrongly : (x : ℕ) → is_fresh g.since (find x e.held) ≡ true → is_wrong g.right (home_epoch e.next) x (find x v.asked) ≡ false → is_unsure g (home_epoch e.next) e.held (Some v) x ≡ true → ⊥
              wrongly x f w t = elim (or_cases (not (is_fresh g.since (find x e.held))) (nat_lt g.since v.round && is_wrong g.right (home_epoch e.next) x (find x v.asked)) t) [
                | inl a ↦ (let z : not (is_fresh g.since (find x e.held)) ≡ false = ap not f in let y : true ≡ false = sym a ∙ z in cc)
                | inr a ↦ (let p = and_parts (nat_lt g.since v.round) (is_wrong g.right (home_epoch e.next) x (find x v.asked)) a in let y : true ≡ false = sym p.1 ∙ w in cc)
              ]

        keys_length : (ks : List (ℕ × ℕ)) → length (keys ks) ≡ length ks
        keys_length [] = refl
        keys_length (k ∷ ks) = ap suc (keys_length ks)

        no_confirmation : (o : Option Confirmation) → not (is_confirming o) ≡ true → o ≡ None
        no_confirmation None h = refl
        no_confirmation (Some v) h = absurd cc

        confirmed : (a : Read) → OnTheWay a → may_confirm a.reader ≡ true → is_loss a.reader.next (seen_nodes a.reader.seen) a.reader.held ≡ true → Outcome a (confirms looks a (lost_held a.reader.next (within (seen_nodes a.reader.seen) a.reader.held)))
        confirmed a h m l = by_swap (sees_swap a.reader.seen (look_of looks a.reader)) refl where
          lost : List (ℕ × ℕ)
          lost = lost_held a.reader.next (within (seen_nodes a.reader.seen) a.reader.held)

          free : a.reader.confirming ≡ None
          free = no_confirmation a.reader.confirming (and_parts (not (is_confirming a.reader.confirming)) (nat_lt a.reader.round last_round) (and_parts (not (is_confirming a.reader.confirming) && nat_lt a.reader.round last_round) (has_seen (home_epoch a.reader.next) a.reader.seen) m).0).0

          new : Confirmation
          new = record { round = a.reader.round + 1; asked = lost; told = [] }

          by_swap : (u : Bool) → sees_swap a.reader.seen (look_of looks a.reader) ≡ u → Outcome a (record {
            reader = record a.reader {
              round = a.reader.round + 1;
              held = if u then [] else a.reader.held;
              confirming = if u then None else Some new;
              seen = Some (look_of looks a.reader);
              least = if u then a.reader.round + 1 else a.reader.least;
              senders = if u then senders_of false (look_of looks a.reader) a.reader else None;
            };
            items = a.items;
            asks = if u then start_asks false looks a.reader else asks_of (a.reader.round + 1) a.reader.next (keys lost);
            anew = false;
          })
          by_swap true u = no_item refl refl (let z : length (start_asks false looks a.reader) ≤ g.nodes = cond_both (nat_lt a.reader.round last_round) (asks_with (round_ask (senders_of false (look_of looks a.reader) a.reader) (a.reader.round + 1) a.reader.next) (nodes_of (look_of looks a.reader).spec)) [] (λ ms. length ms ≤ g.nodes) (λ t. asks_few false a.reader) (λ t. omega arith) in
              let q = swapped_by a.reader (senders_of false (look_of looks a.reader) a.reader) (start_asks false looks a.reader) z u in omega arith)
          by_swap false u = no_item refl refl (
              let few : length (asks_of (a.reader.round + 1) a.reader.next (keys lost)) ≤ g.nodes = (let x = asks_length (bodies.ReadAsk (a.reader.round + 1) a.reader.next) (keys lost) in let z = keys_length lost in let w = F.few a.reader h.through l in omega arith) in
              let s = seen_now (home_epoch a.reader.next) in
              let un = confirm_unsure a.reader new h.through l refl in
              let un2 = unsure_none (home_epoch a.reader.next) a.reader.held a.reader.confirming in
              let firm : loose g (Some new) ≡ 0 = cond_both (nat_lt g.since (a.reader.round + 1)) 0 g.nodes (λ k. k ≡ 0) (λ t. refl) (λ t. absurd (let k = ltb-false g.since (a.reader.round + 1) t in let e = h.through.round in omega arith)) in
              let was : loose g a.reader.confirming ≡ g.nodes = ap (loose g) free in omega arith)

        -- one node that sends each payload is there only where no confirmation lasts
        misses_some : (e : Reader) (o : Option Senders) → misses e o ≡ true → single g o ≡ g.nodes
        misses_some e None h = absurd cc
        misses_some e (Some o) h = refl

        alone : (e : Reader) → Through e → misses e e.senders ≡ true → e.confirming ≡ None
        alone e T m = by_confirming e.confirming refl where
          by_confirming : (o : Option Confirmation) → e.confirming ≡ o → e.confirming ≡ None
          by_confirming None q = q
          by_confirming (Some v) q = absurd (let z : e.senders ≡ None = T.senders ∙ T.confirming v q in let x : misses e None ≡ true = subst (λ o. misses e o ≡ true) z m in let k : false ≡ true = x in cc)

        all_asked : (a : Read) → OnTheWay a → misses a.reader a.reader.senders ≡ true → Outcome a (asks_all looks a)
        all_asked a h m = no_item refl refl (let p = starts_paid true a.reader in let s = misses_some a.reader a.reader.senders m in let f : loose g a.reader.confirming ≡ g.nodes = ap (loose g) (alone a.reader h.through m) in
            let un = unsure_none (home_epoch a.reader.next) a.reader.held a.reader.confirming in omega arith)

        quiet_outcome : (a : Read) → OnTheWay a → Outcome a a
        quiet_outcome a h = no_item refl refl (let e : length a.asks ≡ 0 = ap length h.quiet in omega arith)

        abbrev going : ℕ → Read → Verdict → Read
        going j r v = elim v as (λ _. Read) [ Gives i ↦ gives_all j looks (gives r i) | Confirms lost ↦ confirms looks r lost | AsksAll ↦ asks_all looks r | NotYet ↦ r ]

        item_given : (k : ℕ) (a : Read) (i : Item) → OnTheWay a → a.reader.next ≤ item_end a.reader.next i → In (item_end a.reader.next i) g.marks → Outcome (gives a i) (gives_all k looks (gives a i)) → Outcome a (gives_all k looks (gives a i))
        item_given k a i h low m o = after_given k a i h (past_mark a.reader i low m) o

        pub gone_through : (k : ℕ) (a : Read) → OnTheWay a → Outcome a (gives_all k looks a)
        gone_through zero a h = quiet_outcome a h
        gone_through (suc k) a h = cond_both (is_finished a.reader) NotYet (decide a.reader.next (misses a.reader a.reader.senders) (may_confirm a.reader) (seen_nodes a.reader.seen) a.reader.held) (λ v. Outcome a (going k a v)) (λ t. quiet_outcome a h)
            (λ t. decided a.reader.next (misses a.reader a.reader.senders) (may_confirm a.reader) (seen_nodes a.reader.seen) a.reader.held (λ v. Outcome a (going k a v)) (record {
              trim = λ u. item_given k a (TrimTo (trim_held a.reader.held)) h u (F.trim a.reader h.through u) (gone_through k _ (given_way a _ h));
              record_there = λ p u. item_given k a (RecordHere p) h (omega arith) (F.there a.reader p h.through u) (gone_through k _ (given_way a _ h));
              hole_there = λ u. item_given k a HoleHere h (omega arith) (F.hole a.reader h.through u) (gone_through k _ (given_way a _ h));
              plug = λ u. item_given k a LossHere h (omega arith) (F.plug a.reader h.through u) (gone_through k _ (given_way a _ h));
              asks_all = λ u v. all_asked a h u;
              bridge = λ u. item_given k a (BridgeTo (bridge_to a.reader.next)) h (below_end a.reader.next) (F.end a.reader false h.through u) (gone_through k _ (given_way a _ h));
              lossy_end = λ u. item_given k a (LossTo (bridge_to a.reader.next)) h (below_end a.reader.next) (F.end a.reader true h.through u) (gone_through k _ (given_way a _ h));
              confirm = λ u v. confirmed a h u v;
              not_yet = quiet_outcome a h;
            }))

        -- ---- the answer ----

        -- an answer that ends a confirmation of a round since then comes of a node that was unsure, or gives an item
        pub record EndsFairly : Type 0 where
          pub member : In y g.all
          pub unsure_or_item : (v : Confirmation) → d.confirming ≡ Some v → nat_lt g.since v.round ≡ true → (round_of b == v.round) ≡ true → confirms_loss v.asked y b ≡ false →
              (is_unsure g (home_epoch d.next) d.held (Some v) y ≡ true) ⊎ (gave_item (gives_all (most_items (heard d y b)) looks (loses looks (heard d y b))).items ≡ true)
          pub newer : (v : Confirmation) → d.confirming ≡ Some v → (round_of b == v.round) ≡ true → is_newer (find y d.held) (round_of b) ≡ true

        -- ---- what is heard ----
        fresh_kept : (x : ℕ) → is_fresh g.since (find x d.held) ≡ true → is_fresh g.since (find x (held_with d.held y b)) ≡ true
        fresh_kept x f = cond_both (is_newer (find y d.held) (round_of b)) (put y (record { round = round_of b; body = b }) d.held) d.held (λ hs. is_fresh g.since (find x hs) ≡ true) (λ t. elim (put_cases x y (record { round = round_of b; body = b }) d.held) [
          | inl e ↦ subst (λ o. is_fresh g.since o ≡ true) (sym e.1) (newer_fresh (find y d.held) (round_of b) t (subst (λ z. is_fresh g.since (find z d.held) ≡ true) e.0 f))
          | inr e ↦ subst (λ o. is_fresh g.since o ≡ true) (sym e.1) f
        ]) (λ t. f) where
          newer_fresh : (o : Option Held) (r : ℕ) → is_newer o r ≡ true → is_fresh g.since o ≡ true → nat_lt g.since r ≡ true
          newer_fresh None r a e = absurd cc
          newer_fresh (Some h) r a e = let u = leb-true h.round r a in let v = ltb-true g.since h.round e in lt-ltb g.since r (omega arith)

        heard_unsure : (o q : Option Confirmation) → ((x : ℕ) → asks_wrongly g (home_epoch d.next) x q ≡ true → asks_wrongly g (home_epoch d.next) x o ≡ true) → (x : ℕ) → is_unsure g (home_epoch d.next) (held_with d.held y b) q x ≡ true → is_unsure g (home_epoch d.next) d.held o x ≡ true
        heard_unsure o q w x t = elim (or_cases (not (is_fresh g.since (find x (held_with d.held y b)))) (asks_wrongly g (home_epoch d.next) x q) t) [
          | inl a ↦ elim (cases_Bool (is_fresh g.since (find x d.held))) [
            | inl f ↦ absurd (let z : not (is_fresh g.since (find x (held_with d.held y b))) ≡ false = ap not (fresh_kept x f) in let k : true ≡ false = sym a ∙ z in cc)
            | inr f ↦ or_left (not (is_fresh g.since (find x d.held))) _ (let z : not (is_fresh g.since (find x d.held)) ≡ true = ap not f in z)
          ]
          | inr a ↦ or_right (not (is_fresh g.since (find x d.held))) _ (w x a)
        ]

        heard_mono : (o q : Option Confirmation) → ((x : ℕ) → asks_wrongly g (home_epoch d.next) x q ≡ true → asks_wrongly g (home_epoch d.next) x o ≡ true) → g.nodes * unsure g (home_epoch d.next) (held_with d.held y b) q ≤ g.nodes * unsure g (home_epoch d.next) d.held o
        heard_mono o q w = times_mono g.nodes (unsure g (home_epoch d.next) (held_with d.held y b) q) (unsure g (home_epoch d.next) d.held o) (count_mono (is_unsure g (home_epoch d.next) (held_with d.held y b) q) (is_unsure g (home_epoch d.next) d.held o) g.all (λ x i t. heard_unsure o q w x t))

        -- an answer that ends a confirmation makes an unsure node sure
        heard_less : (v : Confirmation) → EndsFairly → d.confirming ≡ Some v → (round_of b == v.round) ≡ true → nat_lt g.since v.round ≡ true → is_unsure g (home_epoch d.next) d.held (Some v) y ≡ true
            → g.nodes * unsure g (home_epoch d.next) (held_with d.held y b) None + g.nodes ≤ g.nodes * unsure g (home_epoch d.next) d.held (Some v)
        heard_less v E c e f u = times_step g.nodes (unsure g (home_epoch d.next) (held_with d.held y b) None) (unsure g (home_epoch d.next) d.held (Some v)) (count_less (is_unsure g (home_epoch d.next) (held_with d.held y b) None) (is_unsure g (home_epoch d.next) d.held (Some v)) y g.all E.member
            (heard_unsure (Some v) None (λ x t. absurd cc)) sure u) where
              sure : is_unsure g (home_epoch d.next) (held_with d.held y b) None y ≡ false
              sure = cond_both (is_newer (find y d.held) (round_of b)) (put y (record { round = round_of b; body = b }) d.held) d.held (λ hs. is_unsure g (home_epoch d.next) hs None y ≡ false) (λ t. elim (put_cases y y (record { round = round_of b; body = b }) d.held) [
                | inl k ↦ subst (λ o. (not (is_fresh g.since o) || false) ≡ false) (sym k.1) (let z : nat_lt g.since (round_of b) ≡ true = subst (λ r. nat_lt g.since r ≡ true) (sym (eqb-true _ _ e)) f in let w : not (nat_lt g.since (round_of b)) ≡ false = ap not z in ap (λ t. t || false) w)
                | inr k ↦ absurd (k.0 refl)
              ]) (λ t. absurd (let z : true ≡ false = sym (E.newer v c e) ∙ t in cc))

        -- what is heard costs no more, where no item follows or no confirmation ends
        heard_cost : EndsFairly → ((v : Confirmation) → d.confirming ≡ Some v → nat_lt g.since v.round ≡ true → (round_of b == v.round) ≡ true → confirms_loss v.asked y b ≡ false → is_unsure g (home_epoch d.next) d.held (Some v) y ≡ true)
            → asks_cost g (heard d y b) ≤ asks_cost g d
        heard_cost E ok = by_confirming d.confirming refl where
          by_confirming : (o : Option Confirmation) → d.confirming ≡ o → cost_of g d.next (held_with d.held y b) (confirming_with o y b) d.seen d.senders ≤ cost_of g d.next d.held d.confirming d.seen d.senders
          by_confirming None e = subst (λ q. cost_of g d.next (held_with d.held y b) None d.seen d.senders ≤ cost_of g d.next d.held q d.seen d.senders) (sym e) (let m = heard_mono None None (λ x t. t) in omega arith)
          by_confirming (Some v) e = subst (λ q. cost_of g d.next (held_with d.held y b) (confirming_with (Some v) y b) d.seen d.senders ≤ cost_of g d.next d.held q d.seen d.senders) (sym e) (by_round (round_of b == v.round) refl) where
            by_round : (t : Bool) → (round_of b == v.round) ≡ t → cost_of g d.next (held_with d.held y b) (if not t then Some v else if confirms_loss v.asked y b then Some (record { round = v.round; asked = v.asked; told = with_one y v.told }) else None) d.seen d.senders ≤ cost_of g d.next d.held (Some v) d.seen d.senders
            by_round false t = let m = heard_mono (Some v) (Some v) (λ x u. u) in omega arith
            by_round true t = by_loss (confirms_loss v.asked y b) refl where
              by_firm : confirms_loss v.asked y b ≡ false → (f : Bool) → nat_lt g.since v.round ≡ f → cost_of g d.next (held_with d.held y b) None d.seen d.senders ≤ 3 * (g.nodes * left d.next g.marks) + (g.nodes * unsure g (home_epoch d.next) d.held (Some v) + ((if f then 0 else g.nodes) + (single g d.senders + swap_cost g d.seen)))
              by_firm l false f = let m = heard_mono (Some v) None (λ x u. absurd cc) in omega arith
              by_firm l true f = let m = heard_less v E e t f (ok v e f t l) in omega arith

              by_loss : (l : Bool) → confirms_loss v.asked y b ≡ l → cost_of g d.next (held_with d.held y b) (if l then Some (record { round = v.round; asked = v.asked; told = with_one y v.told }) else None) d.seen d.senders ≤ cost_of g d.next d.held (Some v) d.seen d.senders
              by_loss true l = let m = heard_mono (Some v) (Some (record { round = v.round; asked = v.asked; told = with_one y v.told })) (λ x u. u) in omega arith
              by_loss false l = by_firm l (nat_lt g.since v.round) refl

        heard_loose : loose_cost g (heard d y b) ≤ loose_cost g d
        heard_loose = let m = heard_mono None None (λ x t. t) in omega arith

        -- ---- all of it ----
        begins_way : (o : Option View) → OnTheWay (nothing_read (record (heard d y b) { seen = o }))
        begins_way o = record { through = record { positive = F.positive; held = refl; round = refl; senders = refl; confirming = apart }; quiet = refl }

        -- what the rows of the table come to, from the answer on
        pub data Result (r : Read) : Type 0 where
          none_given : gave_item r.items ≡ false → r.reader.next ≡ d.next → length r.asks + asks_cost g r.reader ≤ asks_cost g d → Result r
          finished : is_finished r.reader ≡ true → r.asks ≡ [] → 1 ≤ left d.next g.marks → Result r
          some_given : left r.reader.next g.marks + 1 ≤ left d.next g.marks → length r.asks + (asks_cost g r.reader + 2 * g.nodes) ≤ asks_cost g d → Result r

        all_rows : Read
        all_rows = gives_all (most_items (heard d y b)) looks (loses looks (heard d y b))

        -- a loss that is confirmed is an item
        loss_first : sees_swap d.seen (look_of looks d) ≡ false → is_confirmed (heard d y b).confirming ≡ true → Result (gives_all (most_items (heard d y b)) looks (gives (nothing_read (record (heard d y b) { seen = Some (look_of looks d) })) LossHere))
        loss_first s h = by_paid (past_mark from LossHere (omega arith) (F.loss h)) where
          from : Reader
          from = record (heard d y b) { seen = Some (look_of looks d) }

          first : Read
          first = gives (nothing_read from) LossHere

          low : loose_cost g from ≤ asks_cost g d + g.nodes
          low = let a = seen_now (home_epoch d.next) in let m = heard_loose in let k = cost_loose d in omega arith

          of_outcome : (r : Read) → left first.reader.next g.marks + 1 ≤ left d.next g.marks → asks_cost g first.reader + 3 * g.nodes ≤ loose_cost g from → Outcome first r → Result r
          of_outcome r f p (no_item e n q) = some_given (subst (λ j. left j g.marks + 1 ≤ left d.next g.marks) (sym n) f) (let l = low in omega arith)
          of_outcome r f p (ends_it t e n) = finished t e (omega arith)
          of_outcome r f p (gave_some n q) = some_given (omega arith) (let l = low in omega arith)

          by_paid : ItemPaid from (after_item from LossHere) → Result (gives_all (most_items (heard d y b)) looks first)
          by_paid (inl t) = subst Result (sym (still (most_items (heard d y b)) first t.0)) (finished t.0 refl t.1)
          by_paid (inr p) = of_outcome _ p.0 p.1 (gone_through (most_items (heard d y b)) first (given_way (nothing_read from) LossHere (begins_way (Some (look_of looks d)))))

        -- no loss is confirmed
        no_loss : EndsFairly → is_confirmed (heard d y b).confirming ≡ false → Result (gives_all (most_items (heard d y b)) looks (nothing_read (heard d y b)))
        no_loss E n = of_outcome _ refl (gone_through (most_items (heard d y b)) (nothing_read (heard d y b)) (begins_way d.seen)) where
          same : loses looks (heard d y b) ≡ nothing_read (heard d y b)
          same = ap (λ t. if t then gives (nothing_read (record (heard d y b) { seen = Some (look_of looks (heard d y b)) })) LossHere else nothing_read (heard d y b)) n

          of_outcome : (r : Read) → gives_all (most_items (heard d y b)) looks (nothing_read (heard d y b)) ≡ r → Outcome (nothing_read (heard d y b)) r → Result r
          of_outcome r i (ends_it t e n) = finished t e n
          of_outcome r i (gave_some n q) = some_given n (let m = heard_loose in let k = cost_loose d in omega arith)
          of_outcome r i (no_item e n q) = none_given e n (let m = heard_cost E (λ v c f t l. elim (E.unsure_or_item v c f t l) [
            | inl u ↦ u
            | inr j ↦ absurd (let z : gave_item r.items ≡ true = subst (λ (x : Read). gave_item x.items ≡ true) (ap (λ (a : Read). gives_all (most_items (heard d y b)) looks a) same ∙ i) j in let w : true ≡ false = sym z ∙ e in cc)
          ]) in omega arith)

        -- one more round where an item was given
        rounds_on : (r : Read) → Result r → (o : Bool) → asks_on r ≡ o → length (if o then r.asks ++ start_asks false looks r.reader else r.asks) + may_ask g (if o then starts false looks r.reader else r.reader) ≤ asks_cost g d
        rounds_on r (none_given e n q) false o = let m = may_most r.reader in omega arith
        rounds_on r (finished t e n) false o = let l : length r.asks ≡ 0 = ap length e in let z : may_ask g r.reader ≡ 0 = ap (λ k. if k || not (nat_lt r.reader.round last_round) then 0 else asks_cost g r.reader) t in omega arith
        rounds_on r (some_given n q) false o = let m = may_most r.reader in omega arith
        rounds_on r (none_given e n q) true o = absurd (let p = and_parts ((gave_item r.items && not r.anew) && not (is_finished r.reader)) _ o in let u = and_parts (gave_item r.items && not r.anew) (not (is_finished r.reader)) p.0 in
            let v = and_parts (gave_item r.items) (not r.anew) u.0 in let z : true ≡ false = sym v.0 ∙ e in cc)
        rounds_on r (finished t e n) true o = absurd (let p = and_parts ((gave_item r.items && not r.anew) && not (is_finished r.reader)) _ o in let u = and_parts (gave_item r.items && not r.anew) (not (is_finished r.reader)) p.0 in
            let z : true ≡ false = sym t ∙ not-true (is_finished r.reader) u.1 in cc)
        rounds_on r (some_given n q) true o =
            let p = and_parts ((gave_item r.items && not r.anew) && not (is_finished r.reader)) (not (is_confirming r.reader.confirming) && not (any_of (λ h. reaches r.reader.next h.1.body) r.reader.held)) o in
            let u = and_parts (not (is_confirming r.reader.confirming)) (not (any_of (λ h. reaches r.reader.next h.1.body) r.reader.held)) p.1 in
            let free : r.reader.confirming ≡ None = no_confirmation r.reader.confirming u.0 in
            let l : length (r.asks ++ start_asks false looks r.reader) ≡ length r.asks + length (start_asks false looks r.reader) = length-append r.asks (start_asks false looks r.reader) in
            let s = starts_paid false r.reader in let m = may_most (starts false looks r.reader) in
            let f : loose g r.reader.confirming ≡ g.nodes = ap (loose g) free in
            let w = unsure_none (home_epoch r.reader.next) r.reader.held r.reader.confirming in omega arith

        -- how many items are left: none where it is finished
        abbrev pub items_of : Reader → ℕ
        items_of e = if is_finished e then 0 else left e.next g.marks

        -- it is where it was, or has an item less before it
        abbrev pub Moves : Reader → Type 0
        Moves e = (e.next ≡ d.next) ⊎ (items_of e + 1 ≤ left d.next g.marks)

        items_most : (e : Reader) → items_of e ≤ left e.next g.marks
        items_most e = cond_both (is_finished e) 0 (left e.next g.marks) (λ k. k ≤ left e.next g.marks) (λ t. omega arith) (λ t. omega arith)

        moves_by : (r : Read) → Result r → Moves r.reader
        moves_by r (none_given e n q) = inl n
        moves_by r (finished t e n) = inr (let z : items_of r.reader ≡ 0 = ap (λ k. if k then 0 else left r.reader.next g.marks) t in omega arith)
        moves_by r (some_given n q) = inr (let z = items_most r.reader in omega arith)

        moves_on : (r : Read) → Result r → (o : Bool) → Moves (if o then starts false looks r.reader else r.reader)
        moves_on r R true = moves_by r R
        moves_on r R false = moves_by r R

        may_full : nat_lt d.round last_round ≡ true → is_finished d ≡ false → may_ask g d ≡ asks_cost g d
        may_full below f = (λ i. if f i || not (nat_lt d.round last_round) then 0 else asks_cost g d) ∙ (λ i. if not (below i) then 0 else asks_cost g d)

        gone : EndsFairly → (t : Bool) → is_confirmed (heard d y b).confirming ≡ t → (t ≡ true → sees_swap d.seen (look_of looks d) ≡ false) → Result (gives_all (most_items (heard d y b)) looks (if t then gives (nothing_read (record (heard d y b) { seen = Some (look_of looks d) })) LossHere else nothing_read (heard d y b)))
        gone E true t s = loss_first (s refl) t
        gone E false t s = no_loss E t

        swapped_on : nat_lt d.round last_round ≡ true → EndsFairly → is_confirmed (heard d y b).confirming ≡ true → sees_swap d.seen (look_of looks d) ≡ true → length (start_asks false looks (heard d y b)) + may_ask g (starts false looks (heard d y b)) ≤ asks_cost g d
        swapped_on below E t s = let p = swap_paid false (heard d y b) s below in let m = may_most (starts false looks (heard d y b)) in
            let h = heard_cost E (λ v c f e l. absurd (let z : (heard d y b).confirming ≡ None = ended v c e l in let k : is_confirmed None ≡ true = subst (λ o. is_confirmed o ≡ true) z t in cc)) in omega arith where
              ended : (v : Confirmation) → d.confirming ≡ Some v → (round_of b == v.round) ≡ true → confirms_loss v.asked y b ≡ false → (heard d y b).confirming ≡ None
              ended v c e l = ap (λ o. confirming_with o y b) c ∙ ((λ i. if not (e i) then Some v else if confirms_loss v.asked y b then Some (record { round = v.round; asked = v.asked; told = with_one y v.told }) else None)
                  ∙ (λ i. if l i then Some (record { round = v.round; asked = v.asked; told = with_one y v.told }) else None))

        taken : nat_lt d.round last_round ≡ true → EndsFairly → (t s : Bool) → is_confirmed (heard d y b).confirming ≡ t → sees_swap d.seen (look_of looks d) ≡ s → (λ (r : Read). length r.asks + may_ask g r.reader ≤ asks_cost g d)
            (if t && s then record { reader = starts false looks (heard d y b); items = []; asks = start_asks false looks (heard d y b); anew = true } else goes_through looks (heard d y b))
        taken below E true true t s = swapped_on below E t s
        taken below E true false t s = rounds_on (gives_all (most_items (heard d y b)) looks (loses looks (heard d y b))) (gone E (is_confirmed (heard d y b).confirming) refl (λ q. s)) _ refl
        taken below E false s t u = rounds_on (gives_all (most_items (heard d y b)) looks (loses looks (heard d y b))) (gone E (is_confirmed (heard d y b).confirming) refl (λ q. absurd (let z : true ≡ false = sym q ∙ t in cc))) _ refl

        pub answer_paid : nat_lt d.round last_round ≡ true → EndsFairly → is_finished d ≡ false → length (on_answer looks d y b).asks + may_ask g (on_answer looks d y b).reader ≤ may_ask g d
        unfolding on_answer
        answer_paid below E f = let full = may_full below f in cond_both (nat_lt (round_of b) d.least) (nothing_read d) (heard_on looks (heard d y b)) (λ (r : Read). length r.asks + may_ask g r.reader ≤ may_ask g d) (λ t. omega arith)
            (λ t. let z = taken below E (is_confirmed (heard d y b).confirming) (sees_swap d.seen (look_of looks d)) refl refl in omega arith)

        -- its next number is the same, or there is an item less
        all_moved : EndsFairly → (t s : Bool) → is_confirmed (heard d y b).confirming ≡ t → sees_swap d.seen (look_of looks d) ≡ s → (λ (r : Read). Moves r.reader)
            (if t && s then record { reader = starts false looks (heard d y b); items = []; asks = start_asks false looks (heard d y b); anew = true } else goes_through looks (heard d y b))
        all_moved E true true t s = inl refl
        all_moved E true false t s = moves_on (gives_all (most_items (heard d y b)) looks (loses looks (heard d y b))) (gone E (is_confirmed (heard d y b).confirming) refl (λ q. s)) (asks_on (gives_all (most_items (heard d y b)) looks (loses looks (heard d y b))))
        all_moved E false s t u = moves_on (gives_all (most_items (heard d y b)) looks (loses looks (heard d y b))) (gone E (is_confirmed (heard d y b).confirming) refl (λ q. absurd (let z : true ≡ false = sym q ∙ t in cc))) (asks_on (gives_all (most_items (heard d y b)) looks (loses looks (heard d y b))))

        pub answer_moves : EndsFairly → Moves (on_answer looks d y b).reader
        unfolding on_answer
        answer_moves E = cond_both (nat_lt (round_of b) d.least) (nothing_read d) (heard_on looks (heard d y b)) (λ (r : Read). Moves r.reader) (λ t. inl refl)
            (λ t. all_moved E (is_confirmed (heard d y b).confirming) (sees_swap d.seen (look_of looks d)) refl refl)
