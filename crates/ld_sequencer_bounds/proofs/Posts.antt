-- Lists of nodes and messages in their bounds.
use Rattle.std.proofs.Common.{◌≡◌, ◌++◌, ℕ, zero, suc, ◌+◌, ◌%◌, nat_lt, List, [], ◌∷◌, map, take, drop, length, sym, subst}
use Rattle.std.specs.List.{AllByRecursion}
use Rattle.std.proofs.lemmas.Bool.{cond_both}
use Rattle.ld_table.specs.Words.{without}
use Rattle.ld_ids.specs.Id.{IsNode}
use Rattle.ld_ids.specs.declared.set.Spec.{Spec}
use Rattle.ld_ids.specs.Choice.{nodes_of, ring, left_out, choice_at}
use Rattle.ld_lsn.specs.Number.{epoch_of, esn_of}
use Rattle.ld_msg.specs.Choice.{choice}
use Rattle.ld_node_bounds.proofs.Alls.{all-append}
use Rattle.ld_msg.specs.declared.msg.Who.TheVariants as whos
use Rattle.ld_msg.specs.declared.msg.Msg.{Msg}
use Rattle.ld_msg.specs.declared.msg.Body.{Body}
use Rattle.ld_msg.specs.Bounds.{IsMessage}
use Rattle.ld_msg.specs.Network.{posted}
use Rattle.ld_ids.specs.Id.{IsLog}
use Rattle.ld_node_bounds.specs.Messages.{AreMessages}
use Rattle.ld_node_bounds.proofs.Posts.{posts_sent, without_nodes}
use Rattle.ld_sequencer_bounds.specs.Sequencers.{Posts}

pub all-map : {X Y : Type 0} (P : X → Type 0) (Q : Y → Type 0) (f : X → Y) (xs : List X) → ((x : X) → P x → Q (f x)) → AllByRecursion P xs → AllByRecursion Q (map f xs)
all-map P Q f [] g a = tt
all-map P Q f (x ∷ xs) g a = (g x a.0, all-map P Q f xs g a.1)

module _ {X : Type 0} (P : X → Type 0) where
  pub all-take : (k : ℕ) (xs : List X) → AllByRecursion P xs → AllByRecursion P (take k xs)
  all-take zero xs a = tt
  all-take (suc k) [] a = tt
  all-take (suc k) (x ∷ xs) a = (a.0, all-take k xs a.1)

  pub all-drop : (k : ℕ) (xs : List X) → AllByRecursion P xs → AllByRecursion P (drop k xs)
  all-drop zero xs a = a
  all-drop (suc k) [] a = tt
  all-drop (suc k) (x ∷ xs) a = all-drop k xs a.1

ring_nodes : (p : ℕ) (xs : List ℕ) → AllByRecursion IsNode xs → AllByRecursion IsNode (ring p xs)
ring_nodes p xs a = all-append IsNode (drop p xs) (take p xs) (all-drop IsNode p xs a) (all-take IsNode p xs a)

left_nodes : (s : Spec) (excluded xs : List ℕ) → AllByRecursion IsNode xs → AllByRecursion IsNode (left_out s excluded xs)
left_nodes s excluded xs a = cond_both (nat_lt (length (without excluded xs)) s.r) xs (without excluded xs) (AllByRecursion IsNode) (λ t. a) (λ t. without_nodes excluded xs a)

pub choice_nodes : (s : Spec) (excluded : List ℕ) (n wave : ℕ) → AllByRecursion IsNode (nodes_of s) → AllByRecursion IsNode (choice s excluded n wave)
unfolding choice_at
choice_nodes s excluded n wave a = let p = (epoch_of n + esn_of n + wave) % length (nodes_of s) in
    all-take IsNode (s.r + s.extras) (left_out s excluded (ring p (nodes_of s))) (left_nodes s excluded (ring p (nodes_of s)) (ring_nodes p (nodes_of s) a))

-- what is sent behind messages
pub sent_behind : (own l : ℕ) (bs : List (ℕ × Body)) (old new : List Msg) → IsLog l → Posts own bs → new ≡ old ++ posted (whos.Sequencer own) l bs → AreMessages old → AreMessages new
sent_behind own l bs old new h p e a = subst AreMessages (sym e) (all-append IsMessage old (posted (whos.Sequencer own) l bs) a (posts_sent (whos.Sequencer own) l bs h p))

pub unsent_behind : (old new : List Msg) → new ≡ old → AreMessages old → AreMessages new
unsent_behind old new e a = subst AreMessages (sym e) a
