-- As a log's nodes begin to tick, its readers are counted anew, and what that may cost is set aside.
use Rattle.std.proofs.Common.{◌≡◌, ◌∙◌, ◌≤◌, ℕ, zero, suc, ◌+◌, ◌*◌, inl, inr, refl, ap, sym, Bool, true, false, not, ◌&&◌, ◌||◌, ◌==◌, if◌then◌else◌, nat_lt, List, [], ◌∷◌, length, Option, Some, None, arith}
use Rattle.std.proofs.Math.Nat.{mul-suc}
use Rattle.ld_table.specs.Named.{find_named}
use Rattle.ld_table.specs.Words.{how_many}
use Rattle.ld_lsn.specs.Number.{home_epoch}
use Rattle.ld_msg.specs.Reader.{Reader, Senders, is_finished, last_round}
use Rattle.ld_machine.specs.State.{State}
use Rattle.ld_machine.specs.World.{In}
use Rattle.ld_safety.proofs.Lists.{cond_both, how_many-yes, how_many-no}
use Rattle.ld_safety.proofs.Names as names
use Rattle.ld_safety.proofs.Events.{NamesOnce}
use Rattle.ld_machine.specs.Calm.{Left, Announces, Settles, Ticks, Reads, Drains, Again, is_open_for}
use Rattle.ld_calm.proofs.Asking as asking
use Rattle.ld_calm.proofs.Asking.{may_ask, asks_cost}
use Rattle.ld_calm.proofs.Sums.{sum_by}
use Rattle.ld_calm.proofs.Measure.{Ground, ground_of, reader_cost, part_cost, parts_cost, measure, right_now}

abbrev pub since_now : ℕ → (List ℕ → ℕ) → List ℕ → Option Reader → ℕ
since_now l since name None = since name
since_now l since name (Some d) = if d.log == l then d.round else since name

-- from here on the nodes of the log are as they are now
abbrev pub begin_half : Ground → State → ℕ → Ground
begin_half g s l = record {
  nodes = g.nodes;
  all = g.all;
  sizes = g.sizes;
  items = g.items;
  given = g.given;
  epochs = g.epochs;
  swaps = g.swaps;
  since = λ name. since_now l g.since name (find_named name s.readers);
  right = λ k. if k == l then right_now s l else g.right k;
}

-- however the nodes are, a reader has at most this much more before it
module _ (g : asking.Ground) (since : ℕ) (right : ℕ → ℕ → ℕ → Bool) (all : length g.all ≡ g.nodes) where
  other : asking.Ground
  other = record { nodes = g.nodes; all = g.all; swaps = g.swaps; marks = g.marks; since = since; right = right }

  single_same : (o : Option Senders) → asking.single other o ≡ asking.single g o
  unfolding other
  single_same None = refl
  single_same (Some v) = refl

  pub most_more : (d : Reader) → may_ask (record { nodes = g.nodes; all = g.all; swaps = g.swaps; marks = g.marks; since = since; right = right }) d ≤ may_ask g d + (g.nodes * g.nodes + g.nodes)
  unfolding other
  most_more d = cond_both (is_finished d || not (nat_lt d.round last_round)) 0 (asks_cost other d) (λ k. k ≤ may_ask g d + (g.nodes * g.nodes + g.nodes)) (λ t. omega arith) (λ t.
      let now : may_ask g d ≡ asks_cost g d = ap (λ (b : Bool). if b then 0 else asks_cost g d) t in
      let u : g.nodes * asking.unsure other (home_epoch d.next) d.held d.confirming ≤ g.nodes * g.nodes = asking.unsure_most other all (home_epoch d.next) d.held d.confirming in
      let w : asking.loose other d.confirming ≤ g.nodes = asking.loose_most other all d.confirming in
      let z : asking.single other d.senders ≡ asking.single g d.senders = single_same d.senders in
      omega arith)

module _ (g : Ground) (s : State) (l : ℕ) (all : length g.all ≡ g.nodes) where
  h : Ground
  h = begin_half g s l

  abbrev more : ℕ
  more = g.nodes * g.nodes + g.nodes

  abbrev opened : List (List ℕ × Reader) → ℕ
  opened ds = how_many (is_open_for l) ds

  -- one reader: of another log the same, finished ones nothing
  reader_most : (e : List ℕ × Reader) → find_named e.0 s.readers ≡ Some e.1 → reader_cost h e.0 e.1 ≤ reader_cost g e.0 e.1 + (if is_open_for l e then more else 0)
  unfolding h
  reader_most e f = by_log (e.1.log == l) refl where
    is_same : (e.1.log == l) ≡ false → reader_cost h e.0 e.1 ≡ reader_cost g e.0 e.1
    is_same t = ap (λ (x : ℕ × (ℕ → ℕ → ℕ → Bool)). may_ask (record { nodes = g.nodes; all = g.all; swaps = g.swaps e.1.log; marks = g.items e.1.log; since = x.0; right = x.1 }) e.1) (λ i. (ap (since_now l g.since e.0) f i, if t i then right_now s l else g.right e.1.log))
        ∙ ap (λ (n : ℕ). may_ask (record { nodes = g.nodes; all = g.all; swaps = g.swaps e.1.log; marks = g.items e.1.log; since = n; right = g.right e.1.log }) e.1) (ap (λ (b : Bool). if b then e.1.round else g.since e.0) t)

    by_finished : (e.1.log == l) ≡ true → (b : Bool) → is_finished e.1 ≡ b → reader_cost h e.0 e.1 ≤ reader_cost g e.0 e.1 + (if is_open_for l e then more else 0)
    by_finished t true u = let z : reader_cost h e.0 e.1 ≡ 0 = ap (λ (b : Bool). if b || not (nat_lt e.1.round last_round) then 0 else asks_cost (ground_of h e.0 e.1.log) e.1) u in omega arith
    by_finished t false u =
        let m : reader_cost h e.0 e.1 ≤ reader_cost g e.0 e.1 + more = most_more (ground_of g e.0 e.1.log) ((ground_of h e.0 e.1.log).since) ((ground_of h e.0 e.1.log).right) all e.1 in
        let k : more ≡ (if is_open_for l e then more else 0) = sym (λ i. if t i && not (u i) then more else 0) in omega arith

    by_log : (b : Bool) → (e.1.log == l) ≡ b → reader_cost h e.0 e.1 ≤ reader_cost g e.0 e.1 + (if is_open_for l e then more else 0)
    by_log false t = let k = is_same t in omega arith
    by_log true t = by_finished t (is_finished e.1) refl

  readers_most : (ds : List (List ℕ × Reader)) → ((e : List ℕ × Reader) → In e ds → find_named e.0 s.readers ≡ Some e.1) → sum_by (reader_cost h) ds ≤ sum_by (reader_cost g) ds + more * opened ds
  readers_most [] f = omega arith
  readers_most (e ∷ ds) f =
      let ih = readers_most ds (λ x i. f x (inr i)) in
      let one = reader_most e (f e (inl refl)) in
      cond_both (is_open_for l e) more 0 (λ k. k ≡ (if is_open_for l e then more else 0) → sum_by (reader_cost h) (e ∷ ds) ≤ sum_by (reader_cost g) (e ∷ ds) + more * opened (e ∷ ds))
      (λ t k. let c : opened (e ∷ ds) ≡ suc (opened ds) = how_many-yes (is_open_for l) e ds t in let p : more * opened (e ∷ ds) ≡ more * opened ds + more = ap (λ n. more * n) c ∙ mul-suc more (opened ds) in omega arith)
      (λ t k. let c : opened (e ∷ ds) ≡ opened ds = how_many-no (is_open_for l) e ds t in let p : more * opened (e ∷ ds) ≡ more * opened ds = ap (λ n. more * n) c in omega arith)
      refl

  parts_same : (ps : List Left) → parts_cost h s.nodes s.readers ps ≡ parts_cost g s.nodes s.readers ps
  unfolding h
  parts_same [] = refl
  parts_same (p ∷ ps) = (λ i. one p i + parts_same ps i) where
    one : (p : Left) → part_cost h s.nodes s.readers p ≡ part_cost g s.nodes s.readers p
    one (Announces k) = refl
    one (Settles k) = refl
    one (Ticks k n) = refl
    one (Reads name) = refl
    one Drains = refl
    one (Again name next) = refl

  -- what is set aside for it is enough
  pub begins_less : NamesOnce s → (ps : List Left) → measure (begin_half g s l) s ps ≤ measure g s (Settles l ∷ ps)
  unfolding h
  begins_less N ps =
      let r : sum_by (reader_cost h) s.readers ≤ sum_by (reader_cost g) s.readers + more * opened s.readers = readers_most s.readers (λ e i. names.found s.readers e N.1 i) in
      let p : parts_cost h s.nodes s.readers ps ≡ parts_cost g s.nodes s.readers ps = parts_same ps in
      let m : more * opened s.readers + more * opened s.readers ≡ 2 * (g.nodes * (g.nodes + 1)) * opened s.readers = sizes in
      omega arith where
        twice : (k n : ℕ) → k * n + k * n ≡ 2 * k * n
        twice k zero = omega arith
        twice k (suc n) = let ih = twice k n in omega (arith, mul-suc k n, mul-suc (2 * k) n)

        sizes : more * opened s.readers + more * opened s.readers ≡ 2 * (g.nodes * (g.nodes + 1)) * opened s.readers
        sizes = twice more (opened s.readers) ∙ ap (λ k. 2 * k * opened s.readers) (omega (arith, mul-suc g.nodes g.nodes))
