-- An index that a Base can carry fits its fields, so it is read as it was written.
use Rattle.std.proofs.Common.{◌≡◌, refl, ℕ, ◌+◌, ◌*◌, ◌-◌, ◌≤◌, ◌<◌, ◌^◌, List, [], ◌∷◌, length, Option, Some, Bool, cond, true, false, ap, arith, nat_cmp, Less}
use Rattle.std.proofs.lemmas.Bool.Decides.{nat_tests}
use Rattle.std.specs.List.{AllByRecursion}
use Rattle.std.specs.List.Sorted.{IsStrictlySortedBy}
use Rattle.std.specs.Map.{keys_of}
use Rattle.std.specs.BTreeMap.{is_at}
use Rattle.ld_table.specs.Words.{numbers_from}
use Rattle.ld_table.specs.Table.{find, Ordered}
use Rattle.ld_table.proofs.Order.{found}
use Rattle.ld_msg.specs.declared.msg.What.{What}
use Rattle.ld_msg.specs.declared.msg.What.TheVariants.{Rec, Hole, Bridge, Plug, Withheld}
use Rattle.ld_msg.specs.declared.msg.Entry.{Entry}
use Rattle.ld_op.specs.Plain.{Plain, Log}
use Rattle.ld_op.specs.Indexed.{first_place, IsPlaced, IsBasedEntry, IsBasedSummary, IsBasedLng, IsBasedLog, IsBased}
use Rattle.ld_node_bounds.specs.States.{last_carried, IsStored, IsClosed, IsGood, IsLogAt}
use Rattle.ld_layout.specs.Layout.{based_length, entries_based, log_based, logs_based}
use Rattle.ld_segment.specs.Bases.{IsBase, HasNoLoss}

-- ---- all of a table ----

pub both_all : {X : Type 0} (P Q R : X → Type 0) (m : List X) → ((x : X) → P x → Q x → R x) → AllByRecursion P m → AllByRecursion Q m → AllByRecursion R m
both_all P Q R [] each a b = tt
both_all P Q R (x ∷ m) each a b = (each x a.0 b.0, both_all P Q R m each a.1 b.1)

-- what holds of each entry that is found, and by its value
of_table : {X : Type 0} (Q R : ℕ × X → Type 0) (m : List (ℕ × X)) → Ordered m → ((k : ℕ) (x : X) → find k m ≡ Some x → Q (k, x) → R (k, x)) → AllByRecursion Q m → AllByRecursion R m
of_table Q R m ordered each all = both_all (λ e. find e.0 m ≡ Some e.1) Q R m (λ e at q. each e.0 e.1 at q) (found m ordered) all

-- ---- counts ----

what_most : (w : What) → 13 ≤ based_length w
what_most (Rec q) = omega arith
what_most Hole = omega arith
what_most Bridge = omega arith
what_most Plug = omega arith
what_most Withheld = omega arith

entries_few : (m : List (ℕ × Entry)) → 13 * length m ≤ entries_based m
entries_few [] = omega arith
entries_few (e ∷ m) = omega (arith, entries_few m, what_most e.1.what)

few_by : (g : Log) (a : ℕ × Log) (m : List (ℕ × Log)) (o : Option Log) (b : Bool) → (o ≡ Some g → log_based g ≤ logs_based m) → cond b (Some a.1) o ≡ Some g → log_based g ≤ log_based a.1 + logs_based m
few_by g a m o true later is = let same : a.1 ≡ g = cc is in omega (arith, ap log_based same)
few_by g a m o false later is = omega (arith, later is)

log_few : (l : ℕ) (g : Log) (m : List (ℕ × Log)) → find l m ≡ Some g → log_based g ≤ logs_based m
unfolding find
log_few l g [] at = absurd (cc at)
log_few l g (a ∷ m) at = few_by g a m (find l m) (is_at (nat_cmp l) a.0) (λ later. log_few l g m later) at

less_is : (x y : ℕ) → nat_cmp x y ≡ Less → x < y
less_is x y is = grind (arith, nat_tests)

few_from : (x : ℕ) (m : List (ℕ × Log)) → x ≤ 65535 → AllByRecursion (λ y. nat_cmp x y ≡ Less) (keys_of m) → Ordered m → AllByRecursion (IsLogAt last_carried) m → x + length m ≤ 65535
unfolding IsStrictlySortedBy
few_from x [] most above ordered all = omega (arith, most)
few_from x (a ∷ m) most above ordered all =
    let next = few_from a.0 m all.0.log.1 ordered.0 ordered.1 all.1 in
    omega (arith, next, less_is x a.0 above.0)

logs_few : (m : List (ℕ × Log)) → Ordered m → AllByRecursion (IsLogAt last_carried) m → length m < 2 ^ 16
unfolding IsStrictlySortedBy
logs_few [] ordered all = omega arith
logs_few (a ∷ m) ordered all =
    let next = few_from a.0 m all.0.log.1 ordered.0 ordered.1 all.1 in
    omega (arith, next, all.0.log.0)

-- ---- one log ----

placed_by : (w : What) → ((q : List ℕ) → w ≡ Rec q → (q ≡ numbers_from (first_place q) (length q)) × (first_place q + length q ≤ 2 ^ 64 - 1)) → IsPlaced w
placed_by (Rec q) each = each q refl
placed_by Hole each = tt
placed_by Bridge each = tt
placed_by Plug each = tt
placed_by Withheld each = tt

module _ (older : Bool) (p : Plain) (areas : List (ℕ × ℕ)) (is : IsBase p areas) (no_loss : older ≡ true → HasNoLoss p) where
  log_is : (l : ℕ) (g : Log) → find l p.logs ≡ Some g → IsLogAt last_carried (l, g) → IsBasedLog older (l, g)
  log_is l g at log =
      let listed = is.index.listed l g at in
      let state = log.state in
      let most : log_based g < 2 ^ 32 = omega (arith, log_few l g p.logs at, is.fits) in
      record {
        log = log.log;
        sealed = omega (arith, state.sealed);
        trim = state.trim;
        lost_to = omega (arith, state.lost_to);
        summaries = record {
          rise = listed.summaries;
          few = omega (arith, most);
          each = of_table IsClosed (IsBasedSummary older) g.summaries listed.summaries (λ epoch y there closed. record { epoch = closed.epoch; summary = closed.summary; loss = λ is_older. no_loss is_older l epoch g y at there }) state.summaries;
        };
        lngs = record {
          rise = listed.lngs;
          few = omega (arith, most);
          each = of_table IsGood IsBasedLng g.lngs listed.lngs (λ epoch lng there good. record { epoch = listed.epochs epoch lng there; lng = good }) state.lngs;
        };
        entries = record {
          rise = state.rise;
          few = omega (arith, most, entries_few g.entries);
          each = of_table IsStored IsBasedEntry g.entries state.rise (λ n e there stored. record {
            number = stored.number;
            entry = stored.entry;
            kept = stored.kept;
            placed = placed_by e.what (λ q what. (listed.rows n e q there what, (let ends = is.places l n g e q at there what in omega (arith, ends))));
          }) state.entries;
        };
      }

  pub is_based : IsBased older p
  is_based = record {
    generation = is.index.well.generation;
    rise = is.index.ordered.logs;
    few = logs_few p.logs is.index.ordered.logs is.index.well.logs;
    logs = of_table (IsLogAt last_carried) (IsBasedLog older) p.logs is.index.ordered.logs log_is is.index.well.logs;
  }
