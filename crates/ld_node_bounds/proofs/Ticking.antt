-- What a look at the register makes a node do is in its bounds.
use Rattle.std.proofs.Common.{◌≡◌, ◌≤◌, ℕ, zero, suc, ◌+◌, ◌-◌, ◌^◌, refl, Bool, nat_lt, nat_le, List, [], ◌∷◌, filter, flat_map, Option, Some, None, is_none, arith}
use Rattle.std.specs.List.{AllByRecursion}
use Rattle.std.proofs.lemmas.Bool.{cond_both}
use Rattle.ld_table.specs.Table.{find}
use Rattle.ld_table.specs.Words.{numbers_from, without}
use Rattle.ld_ids.specs.Id.{IsNode}
use Rattle.ld_lsn.specs.Number.{numbered, last_esn}
use Rattle.ld_msg.specs.declared.msg.Who.TheVariants as whos
use Rattle.ld_msg.specs.declared.msg.Summary.{Summary}
use Rattle.ld_msg.specs.declared.msg.Body.TheVariants as bodies
use Rattle.ld_msg.specs.Bounds.{Is64}
use Rattle.ld_op.specs.Plain.{Log}
use Rattle.ld_op.specs.Ticks.{first_above, numbers_of, missing_of, missing, Rebuilt, Nothing, lowest_unclean, refill_tick, lost_tick, tick_with, on_tick, node_asks, asks_first, refill_asks}
use Rattle.ld_node_bounds.specs.States.{IsClosed, IsLogState}
use Rattle.ld_node_bounds.specs.Messages.{IsTicked}
use Rattle.ld_node_bounds.proofs.Alls.{all-append, all-filter}
use Rattle.ld_node_bounds.proofs.Posts.{IsPost, each_post, without_nodes}

abbrev IsAsked : ℕ → Type 0
IsAsked n = (1 ≤ n) × Is64 n

numbers_asked : (first k : ℕ) → 1 ≤ first → (1 ≤ k → first + k ≤ 2 ^ 64) → AllByRecursion IsAsked (numbers_from first k)
numbers_asked first zero h f = tt
numbers_asked first (suc k) h f = let z = f (omega arith) in ((h, omega arith), numbers_asked (first + 1) k (omega arith) (λ i. omega arith))

module _ {most : ℕ} (g : Log) (G : IsLogState most g) where
  missing_one : (s : ℕ × Summary) → IsClosed s → AllByRecursion IsAsked (missing_of g s)
  missing_one s i = let e = i.epoch in let lo = e.0 in let hi = e.1 in let m = i.summary.end_most in
      cond_both (nat_le s.0 g.lost_to) (filter (λ n. is_none (find n g.entries)) (numbers_of g s.0 s.1)) [] (AllByRecursion IsAsked)
      (λ t. all-filter IsAsked (λ n. is_none (find n g.entries)) (numbers_of g s.0 s.1) (numbers_asked (numbered s.0 (first_above s.0 g.trim)) (s.1.end - first_above s.0 g.trim) (omega arith) (λ k. below (first_above s.0 g.trim) s.0 s.1.end hi m k))) (λ t. tt) where
        below : (first e end : ℕ) → e ≤ 2 ^ 32 - 2 → end ≤ last_esn → 1 ≤ end - first → numbered e first + (end - first) ≤ 2 ^ 64
        below first e end a b k = omega arith

  missing_all : (ss : List (ℕ × Summary)) → AllByRecursion IsClosed ss → AllByRecursion IsAsked (flat_map (missing_of g) ss)
  missing_all [] a = tt
  missing_all (s ∷ ss) a = all-append IsAsked (missing_of g s) (flat_map (missing_of g) ss) (missing_one s a.0) (missing_all ss a.1)

  missing_are : AllByRecursion IsAsked (missing g)
  unfolding missing
  missing_are = missing_all g.summaries G.summaries

  refilling : (all_clean : Bool) (ns : List ℕ) → AllByRecursion IsAsked ns → IsTicked (refill_tick all_clean ns)
  refilling all_clean [] a = cond_both all_clean Rebuilt Nothing IsTicked (λ t. tt) (λ t. tt)
  refilling all_clean (n ∷ ns) a = a.0

  losing : IsTicked (lost_tick g)
  losing = cond_both g.lost (refill_tick (nat_lt g.lost_to (lowest_unclean g)) (missing g)) Nothing IsTicked (λ t. refilling (nat_lt g.lost_to (lowest_unclean g)) (missing g) missing_are) (λ t. tt)

  with_summary : (o : Option Summary) → ((y : Summary) → o ≡ Some y → IsClosed (lowest_unclean g, y)) → IsTicked (tick_with g o)
  with_summary None f = losing
  with_summary (Some y) f = let i = f y refl in (i.epoch, i.summary)

  pub ticked_is : (closed : List (ℕ × Summary)) → ((e : ℕ) (y : Summary) → find e closed ≡ Some y → IsClosed (e, y)) → IsTicked (on_tick g closed)
  unfolding on_tick
  ticked_is closed f = with_summary (find (lowest_unclean g) closed) (λ y h. f (lowest_unclean g) y h)

-- a node asks the others
pub asks_sent : (n from : ℕ) (set : List ℕ) → IsNode n → 1 ≤ from → Is64 from → AllByRecursion IsNode set → AllByRecursion (IsPost (whos.Node n)) (node_asks n set from)
asks_sent n from set h one b a = each_post (whos.Node n) (bodies.ReadAsk 0 from) (without (n ∷ []) set) (λ y i. (h, i, omega arith, refl, one, b)) (without_nodes (n ∷ []) set a)

-- a lost node asks for what is missing
first_sent : (n : ℕ) (set ns : List ℕ) → IsNode n → AllByRecursion IsAsked ns → AllByRecursion IsNode set → AllByRecursion (IsPost (whos.Node n)) (asks_first n set ns)
first_sent n set [] h a b = tt
first_sent n set (s ∷ ss) h a b = let one = a.0.0 in asks_sent n s set h one a.0.1 b

pub refill_sent : {most : ℕ} (g : Log) → IsLogState most g → (n : ℕ) (set : List ℕ) → IsNode n → AllByRecursion IsNode set → AllByRecursion (IsPost (whos.Node n)) (refill_asks n set g)
unfolding refill_asks
refill_sent {most} g G n set h b = cond_both g.lost (asks_first n set (missing g)) [] (AllByRecursion (IsPost (whos.Node n))) (λ t. first_sent n set (missing g) h (missing_are g G) b) (λ t. tt)
