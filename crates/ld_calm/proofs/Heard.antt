-- A delivery to a reader makes the measure less.
use Rattle.std.proofs.Common.{◌≡◌, ◌∙◌, ◌⊎◌, ◌≤◌, ℕ, ◌+◌, ◌*◌, inl, inr, refl, ap, sym, subst, Bool, true, false, not, ◌&&◌, ◌==◌, if◌then◌else◌, nat_lt, List, [], ◌∷◌, length, Option, Some, None, arith}
use Rattle.std.proofs.lemmas.Bool.{cases_Bool, and_parts, and_from, not-true}
use Rattle.std.proofs.Math.Nat.{mul-le-mul_left}
use Rattle.ld_table.specs.Named.{find_named, put_named}
use Rattle.ld_ids.specs.Choice.{nodes_of}
use Rattle.ld_config.specs.declared.config.Config.{Config}
use Rattle.ld_msg.specs.declared.msg.Who.TheVariants as whos
use Rattle.ld_msg.specs.declared.msg.Msg.{Msg}
use Rattle.ld_msg.specs.declared.msg.Body.{Body}
use Rattle.ld_msg.specs.Network.{message, mark, send_all}
use Rattle.ld_msg.specs.Reader.{Reader, Read, Confirmation, is_finished, last_round, on_answer, heard}
use Rattle.ld_machine.specs.Config.{looks_at}
use Rattle.ld_machine.specs.Disk.{Node}
use Rattle.ld_machine.specs.State.{State, finish, posted, reader_of, unchanged}
use Rattle.ld_machine.specs.Step as Step
use Rattle.ld_machine.specs.World.{In}
use Rattle.ld_safety.proofs.Lists.{cond_both}
use Rattle.ld_safety.proofs.Names.{named_cases, ReaderOf, reader_found}
use Rattle.ld_safety.proofs.Names as names
use Rattle.ld_safety.proofs.Events.{NamesOnce}
use Rattle.ld_safety.proofs.LostReads.{ReadOn, read_on}
use Rattle.ld_machine.specs.Calm.{Left, Announces, Settles, Ticks, Reads, Drains, Again}
use Rattle.ld_calm.proofs.Lefts.{left}
use Rattle.ld_calm.proofs.Asking as asking
use Rattle.ld_calm.proofs.Asking.{may_ask}
use Rattle.ld_calm.proofs.Weights.{weight_of, weight_least, weights, new_weight, InPlace, mark_in_place, sent_weight, mark_weight}
use Rattle.ld_calm.proofs.Sums.{sum_by, sum_by_put, count_put}
use Rattle.ld_calm.proofs.Measure.{Ground, ground_of, reader_cost, items_left, turn_left, asked_again, poll_cost, part_cost, parts_cost, measure}
use Rattle.ld_calm.proofs.Deliveries.{posted_most, quiet_less}

-- ---- what is left to do, as a reader is put anew ----

-- its next number is the same, or there is an item less
abbrev pub Moved : Ground → Reader → Reader → Type 0
Moved g d e = ((e.next ≡ d.next) × (items_left g (Some e) ≤ items_left g (Some d))) ⊎ (items_left g (Some e) + 1 ≤ items_left g (Some d))

module _ (g : Ground) (ns : List (ℕ × Node)) (name : List ℕ) (d e : Reader) (ds : List (List ℕ × Reader)) (named : find_named name ds ≡ Some d) (log : e.log ≡ d.log) (opens : is_finished e ≡ false → is_finished d ≡ false) (moved : Moved g d e) where
  fewer : items_left g (Some e) ≤ items_left g (Some d)
  fewer = elim moved [ inl a ↦ a.1 | inr a ↦ omega arith ]

  turn_is : (x : Reader) → is_finished x ≡ false → turn_left g (Some x) ≡ items_left g (Some x) + 1
  turn_is x t = ap (λ b. if b then 0 else left x.next (g.items x.log) + 1) t ∙ ap (λ n. n + 1) (sym (ap (λ b. if b then 0 else left x.next (g.items x.log)) t))

  turn_less : turn_left g (Some e) ≤ turn_left g (Some d)
  turn_less = by_finished (is_finished e) refl where
    by_finished : (b : Bool) → is_finished e ≡ b → turn_left g (Some e) ≤ turn_left g (Some d)
    by_finished true t = let z : turn_left g (Some e) ≡ 0 = ap (λ b. if b then 0 else left e.next (g.items e.log) + 1) t in omega arith
    by_finished false t = let a = turn_is e t in let b = turn_is d (opens t) in let f = fewer in omega arith

  again_most : (next : ℕ) (o : Option Reader) → asked_again next o ≤ 1
  again_most next None = omega arith
  again_most next (Some x) = cond_both (x.next == next) 0 1 (λ k. k ≤ 1) (λ t. omega arith) (λ t. omega arith)

  again_less : (next : ℕ) → items_left g (Some e) + asked_again next (Some e) ≤ items_left g (Some d) + asked_again next (Some d)
  again_less next = elim moved [
    | inl a ↦ (let s : asked_again next (Some e) ≡ asked_again next (Some d) = ap (λ n. if n == next then 0 else 1) a.0 in let z = a.1 in omega arith)
    | inr a ↦ (let m = again_most next (Some e) in omega arith)
  ]

  -- of a name that is asked for
  at_name : (P : Option Reader → Option Reader → Type 0) → P (Some e) (Some d) → ((o : Option Reader) → P o o) → (t : List ℕ) → P (find_named t (put_named name e ds)) (find_named t ds)
  at_name P here same t = elim (named_cases t name e ds) [
    | inl a ↦ subst (λ o. P o (find_named t ds)) (sym a.1) (subst (λ o. P (Some e) o) (sym (ap (λ k. find_named k ds) a.0 ∙ named)) here)
    | inr a ↦ subst (λ o. P o (find_named t ds)) (sym a.1) (same (find_named t ds))
  ]

  open_was : (l : ℕ) → ((e.log == l) && not (is_finished e)) ≡ true → ((d.log == l) && not (is_finished d)) ≡ true
  open_was l h = let p = and_parts (e.log == l) (not (is_finished e)) h in and_from (d.log == l) (not (is_finished d)) (subst (λ k. (k == l) ≡ true) log p.0) (ap not (opens (not-true (is_finished e) p.1)))

  part_less : (p : Left) → part_cost g ns (put_named name e ds) p ≤ part_cost g ns ds p
  part_less (Announces l) = omega arith
  part_less (Settles l) = mul-le-mul_left (2 * (g.nodes * (g.nodes + 1))) (count_put (λ (x : Reader). (x.log == l) && not (is_finished x)) name d e ds named (open_was l))
  part_less (Ticks l n) = omega arith
  part_less (Reads t) = mul-le-mul_left (poll_cost g) (at_name (λ o u. turn_left g o ≤ turn_left g u) turn_less (λ o. omega arith) t)
  part_less Drains = omega arith
  part_less (Again t next) = mul-le-mul_left (poll_cost g) (at_name (λ o u. items_left g o + asked_again next o ≤ items_left g u + asked_again next u) (again_less next) (λ o. omega arith) t)

  pub parts_less : (ps : List Left) → parts_cost g ns (put_named name e ds) ps ≤ parts_cost g ns ds ps
  parts_less [] = omega arith
  parts_less (p ∷ ps) = let a = part_less p in let b : parts_cost g ns (put_named name e ds) ps ≤ parts_cost g ns ds ps = parts_less ps in omega arith

-- ---- a delivery ----

-- what a reader and an answer need: how many nodes are looked at, the count of swaps, the round since which nodes are as they are now, no round of single copies while a confirmation lasts,
-- where items end and whom a confirmation asks, and who may end one
pub record FitsAnswer (c : Config) (s : State) (g : Ground) (name : List ℕ) (d : Reader) (y : ℕ) (b : Body) : Type 0 where
  pub all : length g.all ≡ g.nodes
  pub looked : (e : ℕ) → length (nodes_of (looks_at c s.register d.log e).spec) ≤ g.nodes
  pub swaps : (e : ℕ) → (looks_at c s.register d.log e).swaps ≡ g.swaps d.log
  pub since : g.since name ≤ d.round
  pub apart : (v : Confirmation) → (heard d y b).confirming ≡ Some v → d.senders ≡ None
  pub facts : asking.Facts (ground_of g name d.log) all (looks_at c s.register d.log) looked swaps d y b since apart
  pub ends : asking.EndsFairly (ground_of g name d.log) all (looks_at c s.register d.log) looked swaps d y b since apart facts

module _ (c : Config) (s : State) (g : Ground) (name : List ℕ) (d : Reader) (open_still : is_finished d ≡ false) (y : ℕ) (b : Body) (F : FitsAnswer c s g name d y b) where
  abbrev now : Read
  now = on_answer (looks_at c s.register d.log) d y b

  on : ReadOn (looks_at c s.register d.log) d y b now
  on = read_on (looks_at c s.register d.log) d y b open_still

  answered_less : length now.asks + may_ask (ground_of g name d.log) now.reader ≤ may_ask (ground_of g name d.log) d
  answered_less = elim (cases_Bool (nat_lt d.round last_round)) [
    | inl t ↦ asking.answer_paid (ground_of g name d.log) F.all (looks_at c s.register d.log) F.looked F.swaps d y b F.since F.apart F.facts t F.ends open_still
    | inr t ↦ (let z = asking.last_paid (ground_of g name d.log) F.all (looks_at c s.register d.log) F.looked F.swaps d y b t in omega arith)
  ]

  answer_moved : Moved g d now.reader
  answer_moved = elim (asking.answer_moves (ground_of g name d.log) F.all (looks_at c s.register d.log) F.looked F.swaps d y b F.since F.apart F.facts F.ends) [
    | inl n ↦ inl (n, let was = was_left in let i : items_left g (Some now.reader) ≤ left now.reader.next (g.items now.reader.log) = now_most in let l : left now.reader.next (g.items now.reader.log) ≡ left d.next (g.items d.log) = (λ k. left (n k) (g.items (on.log k))) in omega arith)
    | inr n ↦ inr (let was = was_left in let l : items_left g (Some now.reader) ≡ (if is_finished now.reader then 0 else left now.reader.next (g.items d.log)) = ap (λ k. if is_finished now.reader then 0 else left now.reader.next (g.items k)) on.log in omega arith)
  ] where
    was_left : items_left g (Some d) ≡ left d.next (g.items d.log)
    was_left = ap (λ k. if k then 0 else left d.next (g.items d.log)) open_still

    now_most : items_left g (Some now.reader) ≤ left now.reader.next (g.items now.reader.log)
    now_most = cond_both (is_finished now.reader) 0 (left now.reader.next (g.items now.reader.log)) (λ k. k ≤ left now.reader.next (g.items now.reader.log)) (λ t. omega arith) (λ t. omega arith)

  pub read_less : (i : ℕ) (m : Msg) (ps : List Left) → InPlace s.network → In i s.network.fresh → message s.network i ≡ Some m → find_named name s.readers ≡ Some d → measure g (finish (Step.read (Step.marked s i) name now)).state ps + 1 ≤ measure g s ps
  unfolding finish
  read_less i m ps P new found named =
      let sends : List Msg = posted (whos.Reader now.reader.number) now.reader.log now.asks in
      let sent : new_weight (send_all (mark s.network i) sends) ≡ new_weight (mark s.network i) + weights sends = sent_weight (mark s.network i) sends (mark_in_place s.network i P) in
      let gone : new_weight (mark s.network i) + weight_of (message s.network i) ≤ new_weight s.network = mark_weight s.network i new in
      let w : weight_of (message s.network i) ≡ weight_of (Some m) = ap weight_of found in let one = weight_least m.body in
      let most = posted_most (whos.Reader now.reader.number) now.reader.log now.asks in
      let sum : sum_by (reader_cost g) (put_named name now.reader s.readers) + reader_cost g name d ≡ sum_by (reader_cost g) s.readers + reader_cost g name now.reader = sum_by_put (reader_cost g) name d now.reader s.readers named in
      let after : reader_cost g name now.reader ≡ may_ask (ground_of g name d.log) now.reader = ap (λ l. may_ask (ground_of g name l) now.reader) on.log in
      let parts : parts_cost g s.nodes (put_named name now.reader s.readers) ps ≤ parts_cost g s.nodes s.readers ps = parts_less g s.nodes name d now.reader s.readers named on.log (λ h. open_still) answer_moved ps in
      let paid = answered_less in omega arith

-- a delivery to a reader makes the measure less
pub reader_falls : (c : Config) (s : State) (g : Ground) (ps : List Left) (i k : ℕ) (m : Msg) → NamesOnce s → InPlace s.network → In i s.network.fresh → message s.network i ≡ Some m → m.to ≡ whos.Reader k
    → ((name : List ℕ) (d : Reader) → find_named name s.readers ≡ Some d → is_finished d ≡ false → d.number ≡ k → FitsAnswer c s g name d (Step.sender_node m.from) m.body)
    → measure g (finish (Step.delivers c s i)).state ps + 1 ≤ measure g s ps
unfolding Step.delivers
reader_falls c s g ps i k m N P new found to fits = subst (λ o. measure g (finish (Step.delivers_it c s i o)).state ps + 1 ≤ measure g s ps) (sym found)
    (subst (λ w. measure g (finish (Step.comes_to c (Step.marked s i) m w)).state ps + 1 ≤ measure g s ps) (sym to) (by_found (reader_of k s.readers) refl)) where
      by_found : (o : Option (List ℕ × Reader)) → reader_of k s.readers ≡ o → measure g (finish (Step.to_reader c (Step.marked s i) m o)).state ps + 1 ≤ measure g s ps
      by_found None e = quiet_less s g i m new found ps
      by_found (Some d) e = by_open (is_finished d.1) refl where
        at : ReaderOf s.readers k d
        at = reader_found k s.readers d e

        named : find_named d.0 s.readers ≡ Some d.1
        named = names.found s.readers d N.1 at.there

        by_open : (t : Bool) → is_finished d.1 ≡ t → measure g (finish (if t then unchanged (Step.marked s i) else Step.read (Step.marked s i) d.0 (on_answer (looks_at c s.register d.1.log) d.1 (Step.sender_node m.from) m.body))).state ps + 1 ≤ measure g s ps
        by_open true t = quiet_less s g i m new found ps
        by_open false t = read_less c s g d.0 d.1 t (Step.sender_node m.from) m.body (fits d.0 d.1 named t at.number) i m ps P new found named
