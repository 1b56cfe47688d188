-- As a calm begins, its measure is at most the bound.
use Rattle.std.proofs.Common.{◌≡◌, ◌∙◌, ◌⊎◌, ◌≤◌, ℕ, zero, suc, ◌+◌, ◌-◌, ◌*◌, inl, inr, refl, ap, sym, subst, Bool, true, false, not, ◌&&◌, ◌||◌, ◌==◌, if◌then◌else◌, nat_lt, List, [], ◌∷◌, ◌++◌, length, map, flat_map, filter_map, Option, Some, None, is_some, arith, length-append}
use Rattle.std.proofs.lemmas.Bool.{eqb-true, eq-eqb}
use Rattle.std.proofs.Math.Nat.{mul-suc, suc-mul, mul-le-mul_left, mul-le-mul_right}
use Rattle.ld_table.specs.Named.{find_named}
use Rattle.ld_table.specs.Words.{how_many, numbers_from}
use Rattle.ld_lsn.specs.Number.{numbered, last_esn, epoch_end, home_epoch}
use Rattle.ld_ids.specs.declared.set.Spec.{Spec}
use Rattle.ld_config.specs.declared.config.Config.{Config}
use Rattle.ld_msg.specs.declared.msg.Msg.{Msg}
use Rattle.ld_msg.specs.Network.{Network, message}
use Rattle.ld_msg.specs.Register.{epochs_of}
use Rattle.ld_msg.specs.Digest.{Told}
use Rattle.ld_msg.specs.Sequencer.{Sequencer, Recovery, Stage, Seals, Stores, Closes}
use Rattle.ld_msg.specs.Reader.{Reader, Senders, shown_swaps, is_finished, last_round}
use Rattle.ld_machine.specs.Config.{all_nodes}
use Rattle.ld_machine.specs.State.{State}
use Rattle.ld_machine.specs.World.{In}
use Rattle.ld_safety.proofs.Lists.{cond_both, how_many-yes, how_many-no}
use Rattle.ld_safety.proofs.Names as names
use Rattle.ld_safety.proofs.Events.{NamesOnce}
use Rattle.ld_machine.specs.Calm.{Left, Ticks, Reads, numbers_given, is_trim_to, points_issued, is_live, is_open_for, readers_of, left_for, all_left, log_bound, logs_bound, calm_bound}
use Rattle.ld_calm.proofs.Lefts.{left, left_most, mapped}
use Rattle.ld_calm.proofs.Sequencing.{Sizes, may_send, cost_unless, recovery_cost, stage_cost, digest_cost, digest_most, epoch_cost}
use Rattle.ld_calm.proofs.Asking as asking
use Rattle.ld_calm.proofs.Asking.{may_ask, asks_cost}
use Rattle.ld_calm.proofs.Weights.{weight_of, weights_at, weight_most}
use Rattle.ld_calm.proofs.Sums.{sum_of, sum_by}
use Rattle.ld_calm.proofs.Tops.{numbers_length}
use Rattle.ld_calm.proofs.Measure.{Ground, ground_of, ground_at, sizes_of, page_marks, item_marks, numbers_marks, points_of, point_in, point_of, given_in, sequencer_cost, reader_cost, turn_left, poll_cost, part_cost, parts_cost, measure}

-- ---- products ----

plus_times : (a b k : ℕ) → (a + b) * k ≡ a * k + b * k
plus_times zero b k = omega arith
plus_times (suc a) b k = let ih : (a + b) * k ≡ a * k + b * k = plus_times a b k in omega (arith, suc-mul (a + b) k, suc-mul a k)

times_plus : (n a b : ℕ) → n * (a + b) ≡ n * a + n * b
times_plus zero a b = omega arith
times_plus (suc n) a b = let ih : n * (a + b) ≡ n * a + n * b = times_plus n a b in omega (arith, suc-mul n (a + b), suc-mul n a, suc-mul n b)

spread : (n k b : ℕ) → n * (k * b) ≡ k * (n * b)
spread n zero b = omega arith
spread n (suc k) b = let ih : n * (k * b) ≡ k * (n * b) = spread n k b in ap (λ x. n * x) (suc-mul k b) ∙ (let t : n * (k * b + b) ≡ n * (k * b) + n * b = times_plus n (k * b) b in let s : suc k * (n * b) ≡ k * (n * b) + n * b = suc-mul k (n * b) in omega arith)

-- the parts of the bound of one log: its nodes, its numbers, its points, its epoch
module _ (n v p e : ℕ) where
  abbrev pub width : ℕ
  width = v + p + n + 4

  abbrev pub unit : ℕ
  unit = n * ((e + 1) * width)

  abbrev across : ℕ
  across = n * width

  under : (a : ℕ) → a ≤ width → n * a ≤ across
  under a h = mul-le-mul_left n h

  unit_is : unit ≡ e * across + across
  unit_is = spread n (e + 1) width ∙ (let t : suc e * across ≡ e * across + across = suc-mul e across in let k : e + 1 ≡ suc e = omega arith in ap (λ x. x * across) k ∙ t)

  epochs_under : 4 * (n * (e + 1)) ≤ unit
  epochs_under = let a : (e + 1) * 4 ≤ (e + 1) * width = mul-le-mul_left (e + 1) (omega arith) in let b : n * ((e + 1) * 4) ≤ unit = mul-le-mul_left n a in
      let f : n * ((e + 1) * 4) ≡ n * (e + 1) * 4 = (let k : (e + 1) * 4 ≡ 4 * (e + 1) = omega arith in ap (λ x. n * x) k ∙ (spread n 4 (e + 1) ∙ omega arith)) in omega arith

  -- a sequencer
  module _ (z : Sizes) (nodes : z.nodes ≡ n) (pages : z.pages ≡ n * (v + p + 2)) (items : z.items ≡ n * (v + 1)) (marks : (k : ℕ) → length (z.marks k) ≤ v + p + 2) where
    epoch_under : epoch_cost z ≤ 3 * across
    epoch_under = let a = under (v + p + 2) (omega arith) in let b = under (v + 1) (omega arith) in let c = under 3 (omega arith) in omega arith

    later_under : (k : ℕ) → k * epoch_cost z ≤ 3 * (k * across)
    later_under zero = omega arith
    later_under (suc k) = let ih : k * epoch_cost z ≤ 3 * (k * across) = later_under k in let u = epoch_under in omega (arith, suc-mul k (epoch_cost z), suc-mul k across)

    stage_under : (k : ℕ) (g : Stage) → ((d : List Told) → g ≡ Seals d → length d ≤ n) → stage_cost z k g ≤ 2 * across
    stage_under k (Seals d) h =
        let a : digest_cost (z.marks k) d ≤ length d * length (z.marks k) = digest_most (z.marks k) d in
        let b : length d * length (z.marks k) ≤ n * length (z.marks k) = mul-le-mul_right (length (z.marks k)) (h d refl) in
        let c = under (length (z.marks k)) (let m = marks k in omega arith) in let f = under (v + 1) (omega arith) in omega arith
    stage_under k (Stores g) h = omega arith
    stage_under k (Closes y short) h = omega arith

    recovery_under : (own : ℕ) → own ≤ e → (o : Option Recovery) → ((w : Recovery) → o ≡ Some w → (d : List Told) → w.stage ≡ Seals d → length d ≤ n) → recovery_cost z own o ≤ 3 * unit
    recovery_under own l None h = omega arith
    recovery_under own l (Some w) h =
        let a = later_under (own - (w.epoch + 1)) in let b : (own - (w.epoch + 1)) * across ≤ e * across = mul-le-mul_right across (omega arith) in
        let c = stage_under w.epoch w.stage (h w refl) in let f = under 3 (omega arith) in let u = unit_is in omega arith

    cost_under : (q : Sequencer) → length q.appends ≤ v → q.epoch ≤ e → ((w : Recovery) → q.recovery ≡ Some w → (d : List Told) → w.stage ≡ Seals d → length d ≤ n) → (o : Option ℕ) → cost_unless z q o ≤ (if is_some o then 0 else 4 * unit)
    cost_under q a l h None =
        let r = recovery_under q.epoch l q.recovery h in let m : z.nodes * length q.appends ≤ across = subst (λ k. k * length q.appends ≤ across) (sym nodes) (under (length q.appends) (omega arith)) in let u = unit_is in omega arith
    cost_under q a l h (Some k) = omega arith

  -- a reader
  module _ (g : asking.Ground) (all : length g.all ≡ g.nodes) (nodes : g.nodes ≡ n) (marks : length g.marks ≤ v + p + (e + 1)) where
    single_most : (o : Option Senders) → asking.single g o ≤ g.nodes
    single_most None = omega arith
    single_most (Some x) = omega arith

    asks_under : (d : Reader) → asks_cost g d ≤ 4 * unit
    asks_under d =
        let k : n * left d.next g.marks ≤ n * (v + p + (e + 1)) = mul-le-mul_left n (let m = left_most d.next g.marks in omega arith) in
        let u : g.nodes * asking.unsure g (home_epoch d.next) d.held d.confirming ≤ g.nodes * g.nodes = asking.unsure_most g all (home_epoch d.next) d.held d.confirming in
        let w : asking.loose g d.confirming ≤ g.nodes = asking.loose_most g all d.confirming in
        let o = single_most d.senders in
        let s : asking.swap_cost g d.seen ≤ g.nodes * g.nodes + 3 * g.nodes = cond_both (shown_swaps d.seen == g.swaps) 0 (g.nodes * g.nodes + 3 * g.nodes) (λ x. x ≤ g.nodes * g.nodes + 3 * g.nodes) (λ t. omega arith) (λ t. omega arith) in
        let q : g.nodes * g.nodes ≡ n * n = (λ i. nodes i * nodes i) in
        let b : g.nodes * left d.next g.marks ≡ n * left d.next g.marks = ap (λ x. x * left d.next g.marks) nodes in
        let a1 = times_plus n (v + p) (e + 1) in
        let a2 : n * (v + p + (n + 4)) ≤ across = under (v + p + (n + 4)) (omega arith) in
        let a3 = times_plus n (v + p) (n + 4) in let a4 = times_plus n n 4 in
        let y = epochs_under in let x = unit_is in omega arith

    ask_under : (d : Reader) → may_ask g d ≤ (if is_finished d then 0 else 4 * unit)
    ask_under d = by_finished (is_finished d) where
      by_finished : (b : Bool) → (if b || not (nat_lt d.round last_round) then 0 else asks_cost g d) ≤ (if b then 0 else 4 * unit)
      by_finished true = omega arith
      by_finished false = cond_both (not (nat_lt d.round last_round)) 0 (asks_cost g d) (λ x. x ≤ 4 * unit) (λ t. omega arith) (λ t. asks_under d)

  -- a reader's turn, with its share of what is set aside as the ticks begin
  turn_under : (k : ℕ) → 1 ≤ n → k ≤ v + p + (e + 1) → (6 * n + 1) * (k + 1) + 2 * (n * (n + 1)) ≤ 11 * unit
  turn_under k one m =
      let w : k + 1 ≤ n * (k + 1) = (let a : 1 * (k + 1) ≤ n * (k + 1) = mul-le-mul_right (k + 1) one in omega arith) in
      let s : (6 * n + 1) * (k + 1) ≡ 6 * (n * (k + 1)) + (k + 1) = plus_times (6 * n) 1 (k + 1) ∙ (let a : 6 * n * (k + 1) ≡ 6 * (n * (k + 1)) = sixes n (k + 1) in omega arith) in
      let a : n * (k + 1) ≤ n * (v + p + 1 + (e + 1)) = mul-le-mul_left n (omega arith) in
      let b = times_plus n (v + p + 1) (e + 1) in
      let c = under (v + p + 1) (omega arith) in let f = under (n + 1) (omega arith) in
      let y = epochs_under in let x = unit_is in omega arith where
        sixes : (n k : ℕ) → 6 * n * k ≡ 6 * (n * k)
        sixes n zero = omega arith
        sixes n (suc k) = let ih : 6 * n * k ≡ 6 * (n * k) = sixes n k in omega (arith, mul-suc (6 * n) k, mul-suc n k)

  -- a log's own parts
  log_under : 1 ≤ n → 1 + (n + 2 * (n * v + n * (v + 1))) + n * (1 + ((e + 1) + 2 * n)) ≤ 8 * unit
  log_under one =
      let a = under v (omega arith) in let b = under (v + 1) (omega arith) in
      let c = times_plus n 1 ((e + 1) + 2 * n) in let f = times_plus n (e + 1) (2 * n) in let k : n * (2 * n) ≡ 2 * (n * n) = spread n 2 n in
      let m = under n (omega arith) in let o = under 1 (omega arith) in
      let y = epochs_under in let x = unit_is in omega arith

-- ---- sums over the logs ----

abbrev logs_sum : (ℕ → ℕ) → List Spec → ℕ
logs_sum f [] = 0
logs_sum f (p ∷ ps) = f p.log + logs_sum f ps

logs_mono : (f h : ℕ → ℕ) (ps : List Spec) → ((l : ℕ) → f l ≤ h l) → logs_sum f ps ≤ logs_sum h ps
logs_mono f h [] m = omega arith
logs_mono f h (p ∷ ps) m = let ih : logs_sum f ps ≤ logs_sum h ps = logs_mono f h ps m in let a = m p.log in omega arith

logs_more : (f h : ℕ → ℕ) (ps : List Spec) (p : Spec) (k : ℕ) → In p ps → ((l : ℕ) → f l ≤ h l) → f p.log + k ≤ h p.log → logs_sum f ps + k ≤ logs_sum h ps
logs_more f h [] p k i m a = absurd i
logs_more f h (x ∷ ps) p k (inl t) m a = let b : f x.log + k ≤ h x.log = subst (λ (y : Spec). f y.log + k ≤ h y.log) t a in let r = logs_mono f h ps m in omega arith
logs_more f h (x ∷ ps) p k (inr i) m a = let ih : logs_sum f ps + k ≤ logs_sum h ps = logs_more f h ps p k i m a in let b = m x.log in omega arith

logs_plus : (f h : ℕ → ℕ) (ps : List Spec) → logs_sum f ps + logs_sum h ps ≡ logs_sum (λ l. f l + h l) ps
logs_plus f h [] = omega arith
logs_plus f h (p ∷ ps) = let ih : logs_sum f ps + logs_sum h ps ≡ logs_sum (λ l. f l + h l) ps = logs_plus f h ps in omega arith

-- actors, each of one of the logs, that cost something only where they count
module _ {X : Type 0} (cost : List ℕ → X → ℕ) (u : ℕ → ℕ) (test : ℕ → List ℕ × X → Bool) (ps : List Spec) where
  abbrev counted : List (List ℕ × X) → ℕ → ℕ
  counted ds l = how_many (test l) ds * u l

  count_more : (d : List ℕ × X) (ds : List (List ℕ × X)) (l : ℕ) → counted ds l + (if test l d then u l else 0) ≤ counted (d ∷ ds) l
  count_more d ds l = cond_both (test l d) (u l) 0 (λ k. k ≡ (if test l d then u l else 0) → counted ds l + (if test l d then u l else 0) ≤ counted (d ∷ ds) l)
      (λ t k. let n : counted (d ∷ ds) l ≡ counted ds l + u l = ap (λ x. x * u l) (how_many-yes (test l) d ds t) ∙ suc-mul (how_many (test l) ds) (u l) in omega arith)
      (λ t k. let n : counted (d ∷ ds) l ≡ counted ds l = ap (λ x. x * u l) (how_many-no (test l) d ds t) in omega arith)
      (cond_both (test l d) (u l) 0 (λ k. k ≡ (if test l d then u l else 0)) (λ t. sym (ap (λ b. if b then u l else 0) t)) (λ t. sym (ap (λ b. if b then u l else 0) t)))

  sums_under : (ds : List (List ℕ × X)) → ((d : List ℕ × X) → In d ds → (p : Spec) × In p ps × (cost d.0 d.1 ≤ (if test p.log d then u p.log else 0))) → sum_by cost ds ≤ logs_sum (counted ds) ps
  sums_under [] h = omega arith
  sums_under (d ∷ ds) h =
      let ih : sum_by cost ds ≤ logs_sum (counted ds) ps = sums_under ds (λ x i. h x (inr i)) in let a = h d (inl refl) in
      let m : logs_sum (counted ds) ps + cost d.0 d.1 ≤ logs_sum (counted (d ∷ ds)) ps
      = logs_more (counted ds) (counted (d ∷ ds)) ps a.0 (cost d.0 d.1) a.1 (λ l. let z = count_more d ds l in omega arith) (let z = count_more d ds a.0.log in let w = a.2 in omega arith) in omega arith

by_name : {X : Type 0} (f : X → ℕ) (ds : List (List ℕ × X)) → sum_of f ds ≡ sum_by (λ n. f) ds
by_name f [] = refl
by_name f (d ∷ ds) = ap (λ k. f d.1 + k) (by_name f ds)

-- ---- how many marks there are ----

abbrev joined : Option ℕ → List ℕ → List ℕ
joined None ts = ts
joined (Some t) ts = t ∷ ts

joined_most : (o : Option ℕ) (ts : List ℕ) → length (joined o ts) ≤ suc (length ts)
joined_most None ts = omega arith
joined_most (Some t) ts = omega arith

joined_is : (f : Msg → Option ℕ) (m : Msg) (ms : List Msg) → filter_map f (m ∷ ms) ≡ joined (f m) (filter_map f ms)
joined_is f m ms = refl

points_filtered : (l n : ℕ) (ms : List Msg) → length (filter_map (point_in l n) ms) ≤ how_many (is_trim_to l n) ms
points_filtered l n [] = omega arith
points_filtered l n (m ∷ ms) = by_test (points_filtered l n ms) (is_trim_to l n m) refl where
  by_test : length (filter_map (point_in l n) ms) ≤ how_many (is_trim_to l n) ms → (b : Bool) → is_trim_to l n m ≡ b → length (filter_map (point_in l n) (m ∷ ms)) ≤ how_many (is_trim_to l n) (m ∷ ms)
  by_test i true t = let j : length (filter_map (point_in l n) (m ∷ ms)) ≡ length (joined (point_in l n m) (filter_map (point_in l n) ms)) = ap length (joined_is (point_in l n) m ms) in
      let a = joined_most (point_in l n m) (filter_map (point_in l n) ms) in let h = how_many-yes (is_trim_to l n) m ms t in omega arith
  by_test i false t = let j : length (filter_map (point_in l n) (m ∷ ms)) ≡ length (filter_map (point_in l n) ms) = ap length (joined_is (point_in l n) m ms ∙ ap (λ (b : Bool). joined (if b then point_of m.body else None) (filter_map (point_in l n) ms)) t) in
      let h = how_many-no (is_trim_to l n) m ms t in omega arith

points_most : (ns : List ℕ) (l : ℕ) (ms : List Msg) → length (points_of ns l ms) ≤ points_issued ns l ms
points_most [] l ms = omega arith
points_most (n ∷ ns) l ms = points_filtered l n ms

given_under : (l e : ℕ) (qs : List (List ℕ × Sequencer)) → given_in l e qs ≤ numbers_given l qs
given_under l e [] = omega arith
given_under l e (q ∷ qs) = let ih : given_in l e qs ≤ numbers_given l qs = given_under l e qs in let a = one (q.1.log == l) (q.1.epoch == e) (q.1.lng + length q.1.appends) in omega arith where
  one : (a b : Bool) (k : ℕ) → (if a && b then k else 0) ≤ (if a then k else 0)
  one true true k = omega arith
  one true false k = omega arith
  one false b k = omega arith

numbers_most : (l : ℕ) (qs : List (List ℕ × Sequencer)) → length (numbers_marks l qs) ≡ numbers_given l qs
numbers_most l [] = refl
numbers_most l (q ∷ qs) = length-append (if q.1.log == l then numbers_from (numbered q.1.epoch 1) (q.1.lng + length q.1.appends) else []) (numbers_marks l qs) ∙ (λ i. one (q.1.log == l) i + numbers_most l qs i) where
  one : (b : Bool) → length (if b then numbers_from (numbered q.1.epoch 1) (q.1.lng + length q.1.appends) else []) ≡ (if b then q.1.lng + length q.1.appends else 0)
  one true = numbers_length (numbered q.1.epoch 1) (q.1.lng + length q.1.appends)
  one false = refl

appends_under : (q : List ℕ × Sequencer) (qs : List (List ℕ × Sequencer)) → In q qs → length q.1.appends ≤ numbers_given q.1.log qs
appends_under q [] i = absurd i
appends_under q (x ∷ qs) (inl e) = subst (λ (y : List ℕ × Sequencer). length y.1.appends ≤ numbers_given y.1.log (x ∷ qs)) (sym e) (let a : (if x.1.log == x.1.log then x.1.lng + length x.1.appends else 0) ≡ x.1.lng + length x.1.appends = ap (λ b. if b then x.1.lng + length x.1.appends else 0) (eq-eqb x.1.log x.1.log refl) in omega arith)
appends_under q (x ∷ qs) (inr i) = let ih : length q.1.appends ≤ numbers_given q.1.log qs = appends_under q qs i in omega arith

weights_under : (w : Network) (is : List ℕ) → weights_at w is ≤ 2 * length is
weights_under w [] = omega arith
weights_under w (i ∷ is) = let ih : weights_at w is ≤ 2 * length is = weights_under w is in let a = one (message w i) in omega arith where
  one : (o : Option Msg) → weight_of o ≤ 2
  one None = omega arith
  one (Some m) = weight_most m.body

-- ---- the whole ----

-- what is needed of a state in which a calm begins: its actors are of logs of the configuration, which has a node; an epoch is at most the register's; a digest tells of no more nodes than there are
pub record Starts (c : Config) (s : State) : Type 0 where
  pub names : NamesOnce s
  pub some_node : 1 ≤ length (all_nodes c)
  pub sequencer_logs : (q : List ℕ × Sequencer) → In q s.sequencers → (p : Spec) × In p c.logs × (p.log ≡ q.1.log)
  pub reader_logs : (d : List ℕ × Reader) → In d s.readers → (p : Spec) × In p c.logs × (p.log ≡ d.1.log)
  pub epochs : (q : List ℕ × Sequencer) → In q s.sequencers → q.1.epoch ≤ (epochs_of s.register q.1.log).epoch
  pub digests : (q : List ℕ × Sequencer) → In q s.sequencers → (v : Recovery) → q.1.recovery ≡ Some v → (d : List Told) → v.stage ≡ Seals d → length d ≤ length (all_nodes c)

module _ (c : Config) (s : State) (S : Starts c s) where
  abbrev n : ℕ
  n = length (all_nodes c)

  abbrev given : ℕ → ℕ
  given l = numbers_given l s.sequencers

  abbrev points : ℕ → ℕ
  points l = points_issued (all_nodes c) l s.network.sent

  abbrev top : ℕ → ℕ
  top l = (epochs_of s.register l).epoch

  abbrev u : ℕ → ℕ
  u l = unit n (given l) (points l) (top l)

  abbrev g : Ground
  g = ground_at c s

  pages_under : (l k : ℕ) → length (page_marks c s l k) ≤ given l + points l + 2
  pages_under l k =
      let a : length (page_marks c s l k) ≡ length (numbers_from (numbered k 1) (given_in l k s.sequencers + 1)) + length (map (λ t. t + 1) (points_of (all_nodes c) l s.network.sent) ++ numbered k last_esn ∷ [])
      = length-append (numbers_from (numbered k 1) (given_in l k s.sequencers + 1)) (map (λ t. t + 1) (points_of (all_nodes c) l s.network.sent) ++ numbered k last_esn ∷ []) in
      let b = length-append (map (λ t. t + 1) (points_of (all_nodes c) l s.network.sent)) (numbered k last_esn ∷ []) in
      let d = numbers_length (numbered k 1) (given_in l k s.sequencers + 1) in
      let m : length (map (λ (t : ℕ). t + 1) (points_of (all_nodes c) l s.network.sent)) ≡ length (points_of (all_nodes c) l s.network.sent) = mapped (λ t. t + 1) (points_of (all_nodes c) l s.network.sent) in
      let p = points_most (all_nodes c) l s.network.sent in let v = given_under l k s.sequencers in omega arith

  items_under : (l : ℕ) → length (item_marks c s l) ≤ given l + points l + (top l + 1)
  items_under l =
      let a : length (item_marks c s l) ≡ length (numbers_marks l s.sequencers) + length (map epoch_end (numbers_from 0 (top l + 1)) ++ points_of (all_nodes c) l s.network.sent)
      = length-append (numbers_marks l s.sequencers) (map epoch_end (numbers_from 0 (top l + 1)) ++ points_of (all_nodes c) l s.network.sent) in
      let b = length-append (map epoch_end (numbers_from 0 (top l + 1))) (points_of (all_nodes c) l s.network.sent) in
      let m : length (map epoch_end (numbers_from 0 (top l + 1))) ≡ length (numbers_from 0 (top l + 1)) = mapped epoch_end (numbers_from 0 (top l + 1)) in
      let d = numbers_length 0 (top l + 1) in let v = numbers_most l s.sequencers in let p = points_most (all_nodes c) l s.network.sent in omega arith

  -- the sequencers
  sequencer_under : (q : List ℕ × Sequencer) → In q s.sequencers → sequencer_cost g q.1 ≤ (if is_live q.1.log q then 4 * u q.1.log else 0)
  sequencer_under q i = by_gone q.1.gone refl where
    costs : may_send (sizes_of c s q.1.log) q.1 ≤ (if is_some q.1.preempted then 0 else 4 * u q.1.log)
    costs = cost_under n (given q.1.log) (points q.1.log) (top q.1.log) (sizes_of c s q.1.log) refl refl refl (pages_under q.1.log) q.1 (appends_under q s.sequencers i) (S.epochs q i) (S.digests q i) q.1.preempted

    same_log : (q.1.log == q.1.log) ≡ true
    same_log = eq-eqb q.1.log q.1.log refl

    flip : (b : Bool) (k : ℕ) → (if b then 0 else k) ≡ (if not b then k else 0)
    flip true k = refl
    flip false k = refl

    by_gone : (b : Bool) → q.1.gone ≡ b → sequencer_cost g q.1 ≤ (if is_live q.1.log q then 4 * u q.1.log else 0)
    by_gone true t = let z : sequencer_cost g q.1 ≡ 0 = ap (λ b. if b then 0 else may_send (sizes_of c s q.1.log) q.1) t in omega arith
    by_gone false t =
        let z : sequencer_cost g q.1 ≡ may_send (sizes_of c s q.1.log) q.1 = ap (λ b. if b then 0 else may_send (sizes_of c s q.1.log) q.1) t in
        let w : (if is_some q.1.preempted then 0 else 4 * u q.1.log) ≡ (if is_live q.1.log q then 4 * u q.1.log else 0)
        = flip (is_some q.1.preempted) (4 * u q.1.log) ∙ (λ i. if sym same_log i && (not (sym t i) && not (is_some q.1.preempted)) then 4 * u q.1.log else 0) in
        let a = costs in omega arith

  sequencers_under : sum_of (sequencer_cost g) s.sequencers ≤ logs_sum (λ l. how_many (is_live l) s.sequencers * (4 * u l)) c.logs
  sequencers_under = subst (λ k. k ≤ logs_sum (λ l. how_many (is_live l) s.sequencers * (4 * u l)) c.logs) (sym (by_name (sequencer_cost g) s.sequencers))
      (sums_under (λ name. sequencer_cost g) (λ l. 4 * u l) is_live c.logs s.sequencers (λ q i. let p = S.sequencer_logs q i in
      (p.0, p.1, subst (λ l. sequencer_cost g q.1 ≤ (if is_live l q then 4 * u l else 0)) (sym p.2) (sequencer_under q i))))

  -- the readers
  open_is : (d : List ℕ × Reader) (k : ℕ) → (if is_finished d.1 then 0 else k) ≡ (if is_open_for d.1.log d then k else 0)
  open_is d k = flip (is_finished d.1) k ∙ (λ i. if sym (eq-eqb d.1.log d.1.log refl) i && not (is_finished d.1) then k else 0) where
    flip : (b : Bool) (k : ℕ) → (if b then 0 else k) ≡ (if not b then k else 0)
    flip true k = refl
    flip false k = refl

  reader_under : (d : List ℕ × Reader) → reader_cost g d.0 d.1 ≤ (if is_open_for d.1.log d then 4 * u d.1.log else 0)
  reader_under d = subst (λ k. reader_cost g d.0 d.1 ≤ k) (open_is d (4 * u d.1.log)) (ask_under n (given d.1.log) (points d.1.log) (top d.1.log) (ground_of g d.0 d.1.log) refl refl (items_under d.1.log) d.1)

  readers_under : sum_by (reader_cost g) s.readers ≤ logs_sum (λ l. how_many (is_open_for l) s.readers * (4 * u l)) c.logs
  readers_under = sums_under (reader_cost g) (λ l. 4 * u l) is_open_for c.logs s.readers (λ d i. let p = S.reader_logs d i in
      (p.0, p.1, subst (λ l. reader_cost g d.0 d.1 ≤ (if is_open_for l d then 4 * u l else 0)) (sym p.2) (reader_under d)))

  -- what is left to do
  abbrev costs : List Left → ℕ
  costs ps = parts_cost g s.nodes s.readers ps

  costs_append : (ps qs : List Left) → costs (ps ++ qs) ≡ costs ps + costs qs
  costs_append [] qs = omega arith
  costs_append (p ∷ ps) qs = let ih : costs (ps ++ qs) ≡ costs ps + costs qs = costs_append ps qs in omega arith

  ticks_under : (l : ℕ) (ys : List ℕ) → costs (map (λ y. Ticks l y) ys) ≤ length ys * (1 + ((top l + 1) + 2 * n))
  ticks_under l [] = omega arith
  ticks_under l (y ∷ ys) = let ih : costs (map (λ y. Ticks l y) ys) ≤ length ys * (1 + ((top l + 1) + 2 * n)) = ticks_under l ys in let m = suc-mul (length ys) (1 + ((top l + 1) + 2 * n)) in omega arith

  abbrev share : ℕ
  share = 2 * (n * (n + 1))

  abbrev rest : ℕ → List (List ℕ × Reader) → ℕ
  rest l ds = costs (map (λ r. Reads r) (readers_of l ds)) + share * how_many (is_open_for l) ds

  turns_under : (l : ℕ) (ds : List (List ℕ × Reader)) → ((d : List ℕ × Reader) → In d ds → find_named d.0 s.readers ≡ Some d.1)
      → costs (map (λ r. Reads r) (readers_of l ds)) + share * how_many (is_open_for l) ds ≤ how_many (is_open_for l) ds * (11 * u l)
  turns_under l [] f = omega arith
  turns_under l (d ∷ ds) f = by_log (turns_under l ds (λ x i. f x (inr i))) (f d (inl refl)) (d.1.log == l) refl where
    not_open : (b : Bool) → (d.1.log == l) ≡ b → (b ≡ false) ⊎ (is_finished d.1 ≡ true) → is_open_for l d ≡ false
    not_open b t (inl a) = ap (λ x. x && not (is_finished d.1)) (t ∙ a)
    not_open true t (inr a) = (λ i. t i && not (a i))
    not_open false t (inr a) = ap (λ x. x && not (is_finished d.1)) t

    by_finished : rest l ds ≤ how_many (is_open_for l) ds * (11 * u l) → find_named d.0 s.readers ≡ Some d.1 → (d.1.log == l) ≡ true → (b : Bool) → is_finished d.1 ≡ b
        → costs (Reads d.0 ∷ map (λ r. Reads r) (readers_of l ds)) + share * how_many (is_open_for l) (d ∷ ds) ≤ how_many (is_open_for l) (d ∷ ds) * (11 * u l)
    by_finished ih f t true w =
        let z : part_cost g s.nodes s.readers (Reads d.0) ≡ poll_cost g * 0 = ap (λ o. poll_cost g * turn_left g o) f ∙ ap (λ b. poll_cost g * (if b then 0 else left d.1.next (g.items d.1.log) + 1)) w in
        let k = how_many-no (is_open_for l) d ds (not_open true t (inr w)) in
        let k1 : share * how_many (is_open_for l) (d ∷ ds) ≡ share * how_many (is_open_for l) ds = ap (λ x. share * x) k in
        let k2 : how_many (is_open_for l) (d ∷ ds) * (11 * u l) ≡ how_many (is_open_for l) ds * (11 * u l) = ap (λ x. x * (11 * u l)) k in
        let o : poll_cost g * 0 ≡ 0 = omega arith in omega arith
    by_finished ih f t false w =
        let z : part_cost g s.nodes s.readers (Reads d.0) ≡ poll_cost g * (left d.1.next (g.items d.1.log) + 1) = ap (λ o. poll_cost g * turn_left g o) f ∙ ap (λ b. poll_cost g * (if b then 0 else left d.1.next (g.items d.1.log) + 1)) w in
        let k = how_many-yes (is_open_for l) d ds (λ i. t i && not (w i)) in
        let k1 : share * how_many (is_open_for l) (d ∷ ds) ≡ share * how_many (is_open_for l) ds + share = ap (λ x. share * x) k ∙ mul-suc share (how_many (is_open_for l) ds) in
        let k2 : how_many (is_open_for l) (d ∷ ds) * (11 * u l) ≡ how_many (is_open_for l) ds * (11 * u l) + 11 * u l = ap (λ x. x * (11 * u l)) k ∙ suc-mul (how_many (is_open_for l) ds) (11 * u l) in
        let e : d.1.log ≡ l = eqb-true d.1.log l t in
        let m : poll_cost g * (left d.1.next (g.items d.1.log) + 1) + share ≤ 11 * u l = subst (λ x. poll_cost g * (left d.1.next (g.items d.1.log) + 1) + share ≤ 11 * u x) e
        (turn_under n (given d.1.log) (points d.1.log) (top d.1.log) (left d.1.next (g.items d.1.log)) S.some_node (let a = left_most d.1.next (g.items d.1.log) in let b = items_under d.1.log in omega arith)) in omega arith

    by_log : rest l ds ≤ how_many (is_open_for l) ds * (11 * u l) → find_named d.0 s.readers ≡ Some d.1 → (b : Bool) → (d.1.log == l) ≡ b
        → costs (map (λ r. Reads r) (if b then d.0 ∷ readers_of l ds else readers_of l ds)) + share * how_many (is_open_for l) (d ∷ ds) ≤ how_many (is_open_for l) (d ∷ ds) * (11 * u l)
    by_log ih f true t = by_finished ih f t (is_finished d.1) refl
    by_log ih f false t =
        let k = how_many-no (is_open_for l) d ds (not_open false t (inl refl)) in
        let k1 : share * how_many (is_open_for l) (d ∷ ds) ≡ share * how_many (is_open_for l) ds = ap (λ x. share * x) k in
        let k2 : how_many (is_open_for l) (d ∷ ds) * (11 * u l) ≡ how_many (is_open_for l) ds * (11 * u l) = ap (λ x. x * (11 * u l)) k in omega arith

  log_parts : (l : ℕ) → costs (left_for c s l) ≤ how_many (is_open_for l) s.readers * (11 * u l) + 8 * u l
  log_parts l =
      let a = costs_append (map (λ y. Ticks l y) (all_nodes c)) (map (λ r. Reads r) (readers_of l s.readers)) in
      let b = ticks_under l (all_nodes c) in let d = turns_under l s.readers (λ e i. names.found s.readers e S.names.1 i) in
      let f = log_under n (given l) (points l) (top l) S.some_node in omega arith

  all_parts : (ps : List Spec) → costs (flat_map (λ (p : Spec). left_for c s p.log) ps) ≤ logs_sum (λ l. how_many (is_open_for l) s.readers * (11 * u l) + 8 * u l) ps
  all_parts [] = omega arith
  all_parts (p ∷ ps) = let ih : costs (flat_map (λ (p : Spec). left_for c s p.log) ps) ≤ logs_sum (λ l. how_many (is_open_for l) s.readers * (11 * u l) + 8 * u l) ps = all_parts ps in
      let a = costs_append (left_for c s p.log) (flat_map (λ (p : Spec). left_for c s p.log) ps) in let b = log_parts p.log in omega arith

  -- all of one log
  one_log : (l : ℕ) → 2 * (how_many (is_live l) s.sequencers * (4 * u l)) + (2 * (how_many (is_open_for l) s.readers * (4 * u l)) + (how_many (is_open_for l) s.readers * (11 * u l) + 8 * u l)) ≤ log_bound c s l
  one_log l =
      let q = spread (how_many (is_live l) s.sequencers) 4 (u l) in let r = spread (how_many (is_open_for l) s.readers) 4 (u l) in let t = spread (how_many (is_open_for l) s.readers) 11 (u l) in
      let a = spread n (how_many (is_live l) s.sequencers + how_many (is_open_for l) s.readers + 1) ((top l + 1) * width n (given l) (points l) (top l)) in
      let b = plus_times (how_many (is_live l) s.sequencers + how_many (is_open_for l) s.readers) 1 (u l) in
      let d = plus_times (how_many (is_live l) s.sequencers) (how_many (is_open_for l) s.readers) (u l) in omega arith

  logs_under : (ps : List Spec) → 2 * logs_sum (λ l. how_many (is_live l) s.sequencers * (4 * u l)) ps + (2 * logs_sum (λ l. how_many (is_open_for l) s.readers * (4 * u l)) ps
      + logs_sum (λ l. how_many (is_open_for l) s.readers * (11 * u l) + 8 * u l) ps) ≤ logs_bound c s ps
  logs_under [] = omega arith
  logs_under (p ∷ ps) = let ih : 2 * logs_sum (λ l. how_many (is_live l) s.sequencers * (4 * u l)) ps + (2 * logs_sum (λ l. how_many (is_open_for l) s.readers * (4 * u l)) ps
      + logs_sum (λ l. how_many (is_open_for l) s.readers * (11 * u l) + 8 * u l) ps) ≤ logs_bound c s ps = logs_under ps in let a = one_log p.log in omega arith

  -- as a calm begins, its measure is at most the bound
  pub starts_under : measure (ground_at c s) s (all_left c s) ≤ calm_bound c s
  unfolding calm_bound
  starts_under =
      let a = weights_under s.network s.network.fresh in let b = sequencers_under in let d = readers_under in let e = all_parts c.logs in let f = logs_under c.logs in omega arith
