-- What a sequencer sends to nodes is one that a frame can carry.
use Rattle.std.proofs.Common.{◌≡◌, ◌≤◌, ◌<◌, ℕ, ◌+◌, ◌-◌, ◌^◌, sym, subst, false, ◌==◌, nat_lt, cond, Bool, List, [], ◌∷◌, length, arith}
use Rattle.std.specs.List.{AllByRecursion}
use Rattle.std.proofs.lemmas.Bool.{cond_both, eqb-true, ltb-true}
use Rattle.ld_table.specs.Words.{without}
use Rattle.ld_ids.specs.Id.{IsNode}
use Rattle.ld_ids.specs.declared.set.Spec.{Spec}
use Rattle.ld_ids.specs.Choice.{nodes_of}
use Rattle.ld_lsn.specs.Number.{numbered, epoch_end}
use Rattle.ld_msg.specs.declared.msg.Who.TheVariants as whos
use Rattle.ld_msg.specs.declared.msg.What.TheVariants.{Rec}
use Rattle.ld_msg.specs.declared.msg.Summary.{Summary}
use Rattle.ld_msg.specs.declared.msg.Body.TheVariants as bodies
use Rattle.ld_msg.specs.Choice.{choice}
use Rattle.ld_msg.specs.Bounds.{IsLng, Is64, IsEpoch, IsSummary, Fits}
use Rattle.ld_msg.specs.Digest.{Told}
use Rattle.ld_msg.specs.Sequencer.{Sequencer, Append, Planned, released_of, to_each, digest_asks, left_nodes, is_wide, item_nodes, item_stores, next_ask, is_acked, append_stores, rose, release_messages}
use Rattle.ld_sequencer_bounds.specs.Sequencers.{IsAppend, IsTold, IsPlanned, Posts}
use Rattle.ld_node_bounds.proofs.Alls.{all-append}
use Rattle.ld_node_bounds.proofs.Posts.{IsPost, each_post, without_nodes}
use Rattle.ld_sequencer_bounds.proofs.Posts.{choice_nodes}

-- the sequencer of an epoch sends to nodes
module _ (own : ℕ) (E : IsEpoch own) where
  module _ (e : ℕ) (one : 1 ≤ e) (before : e < own) where
    -- ---- asks ----
    ask_is : (t : Told) → t.whole ≡ false → IsTold e t → IsPost (whos.Sequencer own) (t.node, bodies.DigestAsk t.asked)
    ask_is t w i = let a = i.asked w in let z = a.0 in ((E, i.node), omega arith, omega arith, a.1)

    pub asks_are : (d : List Told) → AllByRecursion (IsTold e) d → Posts own (digest_asks d)
    asks_are [] a = tt
    asks_are (t ∷ d) a = cond_both t.whole (digest_asks d) ((t.node, bodies.DigestAsk t.asked) ∷ digest_asks d) (AllByRecursion (IsPost (whos.Sequencer own))) (λ w. asks_are d a.1) (λ w. (ask_is t w a.0, asks_are d a.1))

    pub next_ask_is : (y : ℕ) (d : List Told) → AllByRecursion (IsTold e) d → Posts own (next_ask y d)
    next_ask_is y [] a = tt
    next_ask_is y (t ∷ d) a = cond_both (t.node == y) (cond t.whole [] ((y, bodies.DigestAsk t.asked) ∷ [])) (next_ask y d) (AllByRecursion (IsPost (whos.Sequencer own)))
        (λ h. cond_both t.whole [] ((y, bodies.DigestAsk t.asked) ∷ []) (AllByRecursion (IsPost (whos.Sequencer own))) (λ w. tt) (λ w. (subst (λ n. IsPost (whos.Sequencer own) (n, bodies.DigestAsk t.asked)) (eqb-true t.node y h) (ask_is t w a.0), tt)))
        (λ h. next_ask_is y d a.1)

    -- ---- items of a plan ----
    item_is : (lng : ℕ) → IsLng lng → (i : ℕ × Planned) (y : ℕ) → IsPlanned e i → IsNode y → Fits (whos.Sequencer own) (whos.Node y) (bodies.Store i.0 lng i.1.what)
    item_is lng l i y p h = let z = p.epoch_is in
        ((E, h), l, record { epoch = (omega arith, (let m = E.1 in omega arith)); from_one = p.from_one; place = p.place; ballot = omega arith; ballot_most = E.1; short = p.short }, p.kept, (λ q. absurd (omega arith)))

    item_nodes_are : (s : Spec) (lost : List ℕ) (loss : Bool) (wave n : ℕ) (settled : List ℕ) → AllByRecursion IsNode (nodes_of s) → AllByRecursion IsNode (item_nodes s lost loss wave n settled)
    item_nodes_are s lost loss wave n settled a = cond_both (is_wide s lost loss) (without settled (left_nodes s lost)) (cond (nat_lt (length settled) s.r) (choice s lost n wave) []) (AllByRecursion IsNode)
        (λ t. without_nodes settled (left_nodes s lost) (without_nodes lost (nodes_of s) a))
        (λ t. cond_both (nat_lt (length settled) s.r) (choice s lost n wave) [] (AllByRecursion IsNode) (λ u. choice_nodes s lost n wave a) (λ u. tt))

    pub items_sent : (s : Spec) (lost : List ℕ) (loss : Bool) (lng wave : ℕ) (is : List (ℕ × Planned)) → IsLng lng → AllByRecursion IsNode (nodes_of s) → AllByRecursion (IsPlanned e) is → Posts own (item_stores s lost loss lng wave is)
    items_sent s lost loss lng wave [] l n a = tt
    items_sent s lost loss lng wave (i ∷ is) l n a = all-append (IsPost (whos.Sequencer own)) (to_each (bodies.Store i.0 lng i.1.what) (item_nodes s lost loss wave i.0 i.1.settled)) (item_stores s lost loss lng wave is)
        (each_post (whos.Sequencer own) (bodies.Store i.0 lng i.1.what) (item_nodes s lost loss wave i.0 i.1.settled) (λ y h. item_is lng l i y a.0 h) (item_nodes_are s lost loss wave i.0 i.1.settled n))
        (items_sent s lost loss lng wave is l n a.1)

    -- ---- closes ----
    pub cleans_sent : (y : Summary) (ns : List ℕ) → IsSummary e y → AllByRecursion IsNode ns → Posts own (to_each (bodies.Clean e y) ns)
    cleans_sent y ns s a = each_post (whos.Sequencer own) (bodies.Clean e y) ns (λ n h. ((E, h), (one, (let m = E.1 in omega arith)), s)) a

  -- ---- appends ----
  append_is : (lng : ℕ) → IsLng lng → (p : ℕ × Append) (y : ℕ) → IsAppend own p → IsNode y → Fits (whos.Sequencer own) (whos.Node y) (bodies.Store p.0 lng (Rec p.1.payload))
  append_is lng l p y a h = let z = a.epoch_is in
      ((E, h), l, record { epoch = subst IsEpoch (sym z) E; from_one = a.from_one; place = a.place; ballot = omega arith; ballot_most = E.1; short = a.short }, tt, (λ q. tt))

  pub append_sent : (lng : ℕ) → IsLng lng → (p : ℕ × Append) (ns : List ℕ) → IsAppend own p → AllByRecursion IsNode ns → Posts own (to_each (bodies.Store p.0 lng (Rec p.1.payload)) ns)
  append_sent lng l p ns a n = each_post (whos.Sequencer own) (bodies.Store p.0 lng (Rec p.1.payload)) ns (λ y h. append_is lng l p y a h) n

  pub appends_sent : (s : Spec) (lost : List ℕ) (lng : ℕ) (ps : List (ℕ × Append)) → IsLng lng → AllByRecursion IsNode (nodes_of s) → AllByRecursion (IsAppend own) ps → Posts own (append_stores s lost lng ps)
  appends_sent s lost lng [] l n a = tt
  appends_sent s lost lng (p ∷ ps) l n a = all-append (IsPost (whos.Sequencer own)) (cond (is_acked s p.1) [] (to_each (bodies.Store p.0 lng (Rec p.1.payload)) (without p.1.stored (choice s lost p.0 p.1.wave)))) (append_stores s lost lng ps)
      (cond_both (is_acked s p.1) [] (to_each (bodies.Store p.0 lng (Rec p.1.payload)) (without p.1.stored (choice s lost p.0 p.1.wave))) (AllByRecursion (IsPost (whos.Sequencer own))) (λ t. tt)
      (λ t. append_sent lng l p (without p.1.stored (choice s lost p.0 p.1.wave)) a.0 (without_nodes p.1.stored (choice s lost p.0 p.1.wave) (choice_nodes s lost p.0 p.1.wave n))))
      (appends_sent s lost lng ps l n a.1)

  -- ---- what is released, and trims ----
  pub trims_sent : (t : ℕ) (ns : List ℕ) → Is64 t → AllByRecursion IsNode ns → Posts own (to_each (bodies.Trim t) ns)
  trims_sent t ns b a = each_post (whos.Sequencer own) (bodies.Trim t) ns (λ y h. ((E, h), b)) a

  pub releases_sent : (old new : Sequencer) → Is64 (released_of new) → AllByRecursion IsNode (nodes_of new.spec) → Posts own (release_messages old new)
  releases_sent old new b a = cond_both (rose old new) (to_each (bodies.Release (released_of new)) (nodes_of new.spec)) [] (AllByRecursion (IsPost (whos.Sequencer own)))
      (λ t. each_post (whos.Sequencer own) (bodies.Release (released_of new)) (nodes_of new.spec) (λ y h. ((E, h), b)) a) (λ t. tt)

pub released_bound : (q : Sequencer) → IsEpoch q.epoch → q.lng ≤ 2 ^ 32 - 2 → Is64 (released_of q)
released_bound q E h = let m = E.1 in cond_both (nat_lt (q.lce + 1) q.epoch) (epoch_end q.lce) (numbered q.epoch q.lng) Is64 (λ t. let z = ltb-true (q.lce + 1) q.epoch t in omega arith) (λ t. omega arith)
