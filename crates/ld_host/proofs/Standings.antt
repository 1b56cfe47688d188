-- Hosts that stand as nodes, by number.
use Rattle.std.proofs.Common.{◌≡◌, cond, eqb, Result, Ok, Err, IfOk, ℕ, zero, suc, ◌+◌, ◌<◌, ◌≤◌, Bool, true, false, List, [], ◌∷◌, take, slice_get, Option, None, Some, refl, sym, ◌∙◌, ap, subst, arith, nat_cmp, Ordering, Less, Equal, Greater}
use Rattle.std.specs.Ordering.{is_eq, match_ordering}
use Rattle.std.specs.Option.{unwrap_or}
use Rattle.std.specs.BTreeMap.{insert_entry, is_at}
use Rattle.std.specs.Map as map
use Rattle.std.proofs.lemmas.Bool.{eqb-true}
use Rattle.std.proofs.lemmas.Bool.Decides.{nat_tests}
use Rattle.ld_table.specs.Table.{find, put, take_out, Ordered}
use Rattle.ld_table.proofs.Laws.{same_key, find-put, find-take_out}
use Rattle.ld_table.proofs.Order.{same_table, Ordered-put, Ordered-take_out}
use Rattle.ld_ids.specs.Set.{members, members_from}
use Rattle.ld_config.specs.declared.config.Config.{Config}
use Rattle.ld_machine.specs.Disk.{Node, Up, new_node}
use Rattle.ld_machine.specs.State.{new_nodes}
use Rattle.ld_host.specs.Stands.{Stands}
use Rattle.std.specs.List.Sorted.{IsStrictlySortedBy}
use Rattle.ld_msg.specs.declared.msg.Msg.{Msg}
use Rattle.ld_op.specs.declared.op.Op.{Op}
use Rattle.ld_host.specs.Done.{op_done, kept_nodes, node_in}
use Rattle.ld_host.specs.Standing.{AllStand}
use Rattle.ld_host.specs.declared.host.Host.{Host}
use Rattle.ld_host.proofs.Rising.{some_is}

module _ (c : Config) (n : ℕ) where
  -- ---- what is found ----

  -- the host of this number, where there is one, is the node of this number
  abbrev Found : Option Host → Option Node → Type 0
  Found (Some h) (Some x) = Stands c n h x
  Found (Some h) None = ⊥
  Found None (Some x) = ⊥
  Found None None = Unit {0}

  found_at : (o : Ordering) (k l : ℕ) (h : Host) (x : Node) (hs : List (ℕ × Host)) (xs : List (ℕ × Node)) → nat_cmp n k ≡ o → k ≡ l → Stands c k h x → Found (map.lookup (is_at (nat_cmp n)) hs) (map.lookup (is_at (nat_cmp n)) xs)
      → Found (map.lookup (is_at (nat_cmp n)) ((k, h) ∷ hs)) (map.lookup (is_at (nat_cmp n)) ((l, x) ∷ xs))
  found_at Less k l h x hs xs is same stands later = rw (← same, is) later
  found_at Equal k l h x hs xs is same stands later = rw (← same, is) (subst (λ m. Stands c m h x) (sym (same_key n k (ap is_eq is))) stands)
  found_at Greater k l h x hs xs is same stands later = rw (← same, is) later

  pub found_both : (hs : List (ℕ × Host)) (xs : List (ℕ × Node)) → AllStand c hs xs → Found (find n hs) (find n xs)
  unfolding find
  found_both [] [] are = tt
  found_both [] (x ∷ xs) are = absurd are
  found_both (h ∷ hs) [] are = absurd are
  found_both (h ∷ hs) (x ∷ xs) are = found_at (nat_cmp n h.0) h.0 x.0 h.1 x.1 hs xs refl are.0 are.1 (found_both hs xs are.2)

  found_some : (a : Option Host) (b : Option Node) (h : Host) → Found a b → a ≡ Some h → Stands c n h (unwrap_or b new_node)
  found_some None b h both is = absurd (cc is)
  found_some (Some k) None h both is = absurd both
  found_some (Some k) (Some x) h both is = subst (λ m. Stands c n m x) (some_is k h is) both

  found_none : (a : Option Host) (b : Option Node) → Found a b → a ≡ None → unwrap_or b new_node ≡ new_node
  found_none (Some k) b both is = absurd (cc is)
  found_none None (Some x) both is = absurd both
  found_none None None both is = refl

  pub stands_found : (hs : List (ℕ × Host)) (xs : List (ℕ × Node)) (h : Host) → AllStand c hs xs → find n hs ≡ Some h → Stands c n h (node_in xs n)
  stands_found hs xs h are is = found_some (find n hs) (find n xs) h (found_both hs xs are) is

  pub new_found : (hs : List (ℕ × Host)) (xs : List (ℕ × Node)) → AllStand c hs xs → find n hs ≡ None → node_in xs n ≡ new_node
  new_found hs xs are is = found_none (find n hs) (find n xs) (found_both hs xs are) is

  -- ---- one that is put in ----

  module _ (host : Host) (y : Node) (stands : Stands c n host y) where
    put_at : (o : Ordering) (k l : ℕ) (h : Host) (x : Node) (hs : List (ℕ × Host)) (xs : List (ℕ × Node)) → nat_cmp n k ≡ o → k ≡ l → Stands c k h x → AllStand c hs xs → AllStand c (insert_entry nat_cmp hs n host) (insert_entry nat_cmp xs n y)
        → AllStand c (match_ordering o ((n, host) ∷ (k, h) ∷ hs) ((k, host) ∷ hs) ((k, h) ∷ insert_entry nat_cmp hs n host)) (match_ordering o ((n, y) ∷ (l, x) ∷ xs) ((l, y) ∷ xs) ((l, x) ∷ insert_entry nat_cmp xs n y))
    put_at Less k l h x hs xs is same here rest more = (refl, stands, (same, here, rest))
    put_at Equal k l h x hs xs is same here rest more = (same, subst (λ m. Stands c m host y) (same_key n k (ap is_eq is)) stands, rest)
    put_at Greater k l h x hs xs is same here rest more = (same, here, more)

    pub put_stand : (hs : List (ℕ × Host)) (xs : List (ℕ × Node)) → AllStand c hs xs → AllStand c (put n host hs) (put n y xs)
    unfolding put
    put_stand [] [] are = (refl, stands, tt)
    put_stand [] (x ∷ xs) are = absurd are
    put_stand (h ∷ hs) [] are = absurd are
    put_stand (h ∷ hs) (x ∷ xs) are =
        subst (λ k. AllStand c (insert_entry nat_cmp (h ∷ hs) n host) (match_ordering (nat_cmp n k) ((n, y) ∷ x ∷ xs) ((x.0, y) ∷ xs) (x ∷ insert_entry nat_cmp xs n y))) are.0
        (put_at (nat_cmp n h.0) h.0 x.0 h.1 x.1 hs xs refl are.0 are.1 are.2 (put_stand hs xs are.2))

-- ---- one that was taken out ----

module _ {X : Type 0} where
  under : (b : Bool) (x o p : Option X) → (b ≡ false → o ≡ p) → cond b x o ≡ cond b x p
  under true x o p h = refl
  under false x o p h = h refl

  pub put-take_out : (k : ℕ) (w : X) (m : List (ℕ × X)) → Ordered m → put k w (take_out k m) ≡ put k w m
  put-take_out k w m o = same_table _ _ (Ordered-put k w _ (Ordered-take_out k m o)) (Ordered-put k w m o)
      (λ q. find-put q k w (take_out k m) ∙ (under (eqb q k) (Some w) (find q (take_out k m)) (find q m) (λ e. find-take_out q k m ∙ ap (λ b. cond b None (find q m)) e) ∙ sym (find-put q k w m)))

module _ (c : Config) (n k : ℕ) (number : k ≡ n) (old new : List (ℕ × Host)) (ordered : Ordered old) (without : new ≡ take_out k old) where
  pub put_back : (xs : List (ℕ × Node)) → AllStand c old xs → (host : Host) (y : Node) → Stands c n host y → AllStand c (put n host new) (put n y xs)
  put_back xs are host y stands =
      let same : put n host new ≡ put n host old = ap (λ m. put n host m) (without ∙ ap (λ l. take_out l old) number) ∙ put-take_out n host old ordered in
      subst (λ m. AllStand c m (put n y xs)) (sym same) (put_stand c n host y stands old xs are)

pub if_ok : {T E : Type 0} (r : Result T E) (P : T → Type 0) → ((v : T) → P v) → IfOk r P
if_ok (Ok v) P all = all v
if_ok (Err e) P all = tt

-- ---- the first hosts ----

cmp_greater : (a b : ℕ) → b < a → nat_cmp a b ≡ Greater
cmp_greater a b h = grind (arith, nat_tests)

rises : (f : ℕ) (flags : List Bool) (i x : ℕ) → slice_get (members_from f flags) i ≡ Some x → f ≤ x
unfolding members_from
rises f [] i x h = absurd (cc)
rises f (true ∷ flags) zero x h = let e : f ≡ x = cc in omega arith
rises f (true ∷ flags) (suc i) x h = let r = rises (f + 1) flags i x h in omega arith
rises f (false ∷ flags) i x h = let r = rises (f + 1) flags i x h in omega arith

-- the next node of a set comes last
first_put : (f : ℕ) (flags : List Bool) (i x : ℕ) → slice_get (members_from f flags) i ≡ Some x → put x new_node (new_nodes (take i (members_from f flags))) ≡ new_nodes (take (suc i) (members_from f flags))
unfolding members_from put
first_put f [] i x h = absurd (cc)
first_put f (true ∷ flags) zero x h = let e : f ≡ x = cc in ap (λ n. (n, new_node) ∷ []) (sym e)
first_put f (true ∷ flags) (suc i) x h = let r = rises (f + 1) flags i x h in rw (cmp_greater x f (omega arith)) (ap (λ m. (f, new_node) ∷ m) (first_put (f + 1) flags i x h))
first_put f (false ∷ flags) i x h = first_put (f + 1) flags i x h

first_put_at : (f : ℕ) (flags : List Bool) (i x : ℕ) → slice_get (members_from f flags) i ≡ Some x → put x new_node (new_nodes (take i (members_from f flags))) ≡ new_nodes (take (i + 1) (members_from f flags))
first_put_at f flags i x h = let e : suc i ≡ i + 1 = omega arith in first_put f flags i x h ∙ ap (λ k. new_nodes (take k (members_from f flags))) e

pub past_all : (xs : List ℕ) (i : ℕ) (o : Option ℕ) → o ≡ slice_get xs i → ((x : ℕ) → o ≡ Some x → ⊥) → take i xs ≡ xs
past_all [] zero o e n = refl
past_all [] (suc i) o e n = refl
past_all (x ∷ xs) zero o e n = absurd (n x e)
past_all (x ∷ xs) (suc i) o e n = ap (λ l. x ∷ l) (past_all xs i o e n)

pub next_stands : (c : Config) (flags : List Bool) (i n : ℕ) (hosts : List (ℕ × Host)) (host : Host) → slice_get (members flags) i ≡ Some n → Stands c n host new_node → AllStand c hosts (new_nodes (take i (members flags)))
    → AllStand c (put n host hosts) (new_nodes (take (i + 1) (members flags)))
next_stands c flags i n hosts host there stands are = subst (λ m. AllStand c (put n host hosts) m) (first_put_at 1 flags i n there) (put_stand c n host new_node stands hosts (new_nodes (take i (members flags))) are)

-- ---- a node that stays as it is ----

same_keys : (c : Config) (hs : List (ℕ × Host)) (xs : List (ℕ × Node)) → AllStand c hs xs → map.keys_of hs ≡ map.keys_of xs
same_keys c [] [] are = refl
same_keys c [] (x ∷ xs) are = absurd are
same_keys c (h ∷ hs) [] are = absurd are
same_keys c (h ∷ hs) (x ∷ xs) are = λ i. are.0 i ∷ same_keys c hs xs are.2 i

under_key : (b : Bool) (q n : ℕ) (x : Node) (xs : List (ℕ × Node)) → eqb q n ≡ b → find n xs ≡ Some x → cond b (Some x) (find q xs) ≡ find q xs
under_key true q n x xs same is = sym (ap (λ k. find k xs) (eqb-true q n same) ∙ is)
under_key false q n x xs same is = refl

put_same : (n : ℕ) (x : Node) (xs : List (ℕ × Node)) → Ordered xs → find n xs ≡ Some x → put n x xs ≡ xs
put_same n x xs ordered is = same_table _ _ (Ordered-put n x xs ordered) ordered (λ q. find-put q n x xs ∙ under_key (eqb q n) q n x xs refl is)

there_if : (o : Option Node) → (unwrap_or o new_node).status ≡ Up → o ≡ Some (unwrap_or o new_node)
there_if None up = absurd (cc up)
there_if (Some x) up = refl

-- a node that is up, put in as it is
pub kept_is : (c : Config) (n : ℕ) (hs : List (ℕ × Host)) (xs : List (ℕ × Node)) (op : Option Op) (ms : List Msg) → Ordered hs → AllStand c hs xs → (node_in xs n).status ≡ Up → put n (op_done (node_in xs n) op ms).node xs ≡ kept_nodes n op xs
kept_is c n hs xs None ms ordered are up = put_same n (node_in xs n) xs (subst (λ ks. IsStrictlySortedBy nat_cmp ks) (same_keys c hs xs are) ordered) (there_if (find n xs) up)
kept_is c n hs xs (Some o) ms ordered are up = refl
