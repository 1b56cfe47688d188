-- How many messages a sequencer's lists make.
use Rattle.std.proofs.Common.{◌≡◌, ◌∙◌, ◌≤◌, ℕ, suc, ◌+◌, ◌*◌, ◌%◌, ◌==◌, refl, ap, Bool, not, nat_lt, if◌then◌else◌, List, [], ◌∷◌, ◌++◌, length, take, drop, arith, length-append}
use Rattle.std.proofs.lemmas.Bool.{ltb-true}
use Rattle.std.proofs.Math.Nat.{mul-suc}
use Rattle.ld_table.specs.Words.{is_in, without}
use Rattle.ld_lsn.specs.Number.{epoch_of, esn_of}
use Rattle.ld_ids.specs.declared.set.Spec.{Spec}
use Rattle.ld_ids.specs.Choice.{nodes_of, ring, left_out, choice_at}
use Rattle.ld_msg.specs.declared.msg.Body.{Body}
use Rattle.ld_msg.specs.declared.msg.Body.TheVariants as bodies
use Rattle.ld_msg.specs.declared.msg.What.TheVariants.{Rec}
use Rattle.ld_msg.specs.Choice.{choice}
use Rattle.ld_msg.specs.Digest.{Told, no_digest, told_nothing, Item}
use Rattle.ld_msg.specs.Sequencer.{Sequencer, Acts, Append, Planned, to_each, digest_asks, next_ask, item_nodes, item_stores, append_stores, is_acked, is_wide, left_nodes, planned, release_messages, acted_messages, rose, released_of}
use Rattle.ld_safety.proofs.Lists.{cond_both}
use Rattle.ld_calm.proofs.Lefts.{filtered, taken, cut_in_two, mapped}

pub each : (b : Body) (ys : List ℕ) → length (to_each b ys) ≡ length ys
each b [] = refl
each b (y ∷ ys) = ap suc (each b ys)

around : (p : ℕ) (xs : List ℕ) → length (ring p xs) ≡ length xs
around p xs = length-append (drop p xs) (take p xs) ∙ cut_in_two p xs

pub chosen_most : (s : Spec) (ex : List ℕ) (n w : ℕ) → length (choice s ex n w) ≤ length (nodes_of s)
unfolding choice_at
chosen_most s ex n w = let xs : List ℕ = ring ((epoch_of n + esn_of n + w) % length (nodes_of s)) (nodes_of s) in
    let r : length xs ≡ length (nodes_of s) = around ((epoch_of n + esn_of n + w) % length (nodes_of s)) (nodes_of s) in
    let f : length (without ex xs) ≤ length xs = filtered (λ x. not (is_in x ex)) xs in
    let o : length (left_out s ex xs) ≤ length xs = cond_both (nat_lt (length (without ex xs)) s.r) xs (without ex xs) (λ ys. length ys ≤ length xs) (λ t. omega arith) (λ t. f) in
    let t : length (take (s.r + s.extras) (left_out s ex xs)) ≤ length (left_out s ex xs) = taken (s.r + s.extras) (left_out s ex xs) in
    omega arith

pub item_most : (s : Spec) (lost : List ℕ) (loss : Bool) (wave n : ℕ) (settled : List ℕ) → length (item_nodes s lost loss wave n settled) ≤ length (nodes_of s)
item_most s lost loss wave n settled = cond_both (is_wide s lost loss) (without settled (left_nodes s lost)) (if nat_lt (length settled) s.r then choice s lost n wave else []) (λ ys. length ys ≤ length (nodes_of s))
    (λ t. let a : length (without settled (left_nodes s lost)) ≤ length (left_nodes s lost) = filtered (λ x. not (is_in x settled)) (left_nodes s lost) in let b : length (left_nodes s lost) ≤ length (nodes_of s) = filtered (λ x. not (is_in x lost)) (nodes_of s) in omega arith)
    (λ t. cond_both (nat_lt (length settled) s.r) (choice s lost n wave) [] (λ ys. length ys ≤ length (nodes_of s)) (λ u. chosen_most s lost n wave) (λ u. omega arith))

module _ (n : ℕ) (s : Spec) (few : length (nodes_of s) ≤ n) where
  pub items_most : (lost : List ℕ) (loss : Bool) (lng wave : ℕ) (is : List (ℕ × Planned)) → length (item_stores s lost loss lng wave is) ≤ n * length is
  items_most lost loss lng wave [] = omega arith
  items_most lost loss lng wave (i ∷ is) =
      let ih : length (item_stores s lost loss lng wave is) ≤ n * length is = items_most lost loss lng wave is in
      let here : length (to_each (bodies.Store i.0 lng i.1.what) (item_nodes s lost loss wave i.0 i.1.settled)) ≡ length (item_nodes s lost loss wave i.0 i.1.settled) = each (bodies.Store i.0 lng i.1.what) (item_nodes s lost loss wave i.0 i.1.settled) in
      let most : length (item_nodes s lost loss wave i.0 i.1.settled) ≤ length (nodes_of s) = item_most s lost loss wave i.0 i.1.settled in
      let both : length (item_stores s lost loss lng wave (i ∷ is)) ≡ length (to_each (bodies.Store i.0 lng i.1.what) (item_nodes s lost loss wave i.0 i.1.settled)) + length (item_stores s lost loss lng wave is)
      = length-append (to_each (bodies.Store i.0 lng i.1.what) (item_nodes s lost loss wave i.0 i.1.settled)) (item_stores s lost loss lng wave is) in
      let more : n * suc (length is) ≡ n * length is + n = mul-suc n (length is) in
      omega arith

  pub appends_most : (lost : List ℕ) (lng : ℕ) (ps : List (ℕ × Append)) → length (append_stores s lost lng ps) ≤ n * length ps
  appends_most lost lng [] = omega arith
  appends_most lost lng (p ∷ ps) =
      let ih : length (append_stores s lost lng ps) ≤ n * length ps = appends_most lost lng ps in
      let here : List (ℕ × Body) = if is_acked s p.1 then [] else to_each (bodies.Store p.0 lng (Rec p.1.payload)) (without p.1.stored (choice s lost p.0 p.1.wave)) in
      let most : length here ≤ n = cond_both (is_acked s p.1) [] (to_each (bodies.Store p.0 lng (Rec p.1.payload)) (without p.1.stored (choice s lost p.0 p.1.wave))) (λ ms. length ms ≤ n) (λ t. omega arith) (λ t.
      let a : length (to_each (bodies.Store p.0 lng (Rec p.1.payload)) (without p.1.stored (choice s lost p.0 p.1.wave))) ≡ length (without p.1.stored (choice s lost p.0 p.1.wave)) = each (bodies.Store p.0 lng (Rec p.1.payload)) (without p.1.stored (choice s lost p.0 p.1.wave)) in
      let b : length (without p.1.stored (choice s lost p.0 p.1.wave)) ≤ length (choice s lost p.0 p.1.wave) = filtered (λ x. not (is_in x p.1.stored)) (choice s lost p.0 p.1.wave) in
      let d : length (choice s lost p.0 p.1.wave) ≤ length (nodes_of s) = chosen_most s lost p.0 p.1.wave in omega arith) in
      let both : length (append_stores s lost lng (p ∷ ps)) ≡ length here + length (append_stores s lost lng ps) = length-append here (append_stores s lost lng ps) in
      let more : n * suc (length ps) ≡ n * length ps + n = mul-suc n (length ps) in
      omega arith

pub planned_length : (is : List Item) → length (planned is) ≡ length is
planned_length [] = refl
planned_length (i ∷ is) = ap suc (planned_length is)

pub asks_most : (d : List Told) → length (digest_asks d) ≤ length d
asks_most [] = omega arith
asks_most (t ∷ d) = let ih : length (digest_asks d) ≤ length d = asks_most d in cond_both t.whole (digest_asks d) ((t.node, bodies.DigestAsk t.asked) ∷ digest_asks d) (λ ms. length ms ≤ suc (length d)) (λ u. omega arith) (λ u. omega arith)

pub none_told : (s : Spec) (e : ℕ) → length (no_digest s e) ≡ length (nodes_of s)
none_told s e = mapped (told_nothing e) (nodes_of s)

pub next_most : (y : ℕ) (d : List Told) → length (next_ask y d) ≤ 1
next_most y [] = omega arith
next_most y (t ∷ d) = cond_both (t.node == y) (if t.whole then [] else (y, bodies.DigestAsk t.asked) ∷ []) (next_ask y d) (λ ms. length ms ≤ 1)
    (λ u. cond_both t.whole [] ((y, bodies.DigestAsk t.asked) ∷ []) (λ ms. length ms ≤ 1) (λ v. omega arith) (λ v. omega arith)) (λ u. next_most y d)

-- ---- one call ----

pub release_most : (old new : Sequencer) → length (release_messages old new) ≤ length (nodes_of new.spec)
release_most old new = cond_both (rose old new) (to_each (bodies.Release (released_of new)) (nodes_of new.spec)) [] (λ ms. length ms ≤ length (nodes_of new.spec)) (λ t. let e = each (bodies.Release (released_of new)) (nodes_of new.spec) in omega arith) (λ t. omega arith)

-- nothing is released that was before
pub release_none : (old new : Sequencer) → released_of new ≡ released_of old → length (release_messages old new) ≡ 0
release_none old new h = cond_both (rose old new) (to_each (bodies.Release (released_of new)) (nodes_of new.spec)) [] (λ ms. length ms ≡ 0) (λ t. absurd (let z = ltb-true (released_of old) (released_of new) t in omega arith)) (λ t. refl)

pub acted_length : (old : Sequencer) (a : Acts) → length (acted_messages old a) ≡ length a.cleans + (length (release_messages old a.sequencer) + (length a.asks + length a.stores))
acted_length old a =
    let x = length-append a.cleans (release_messages old a.sequencer ++ (a.asks ++ a.stores)) in
    let y = length-append (release_messages old a.sequencer) (a.asks ++ a.stores) in
    let z = length-append a.asks a.stores in omega arith
