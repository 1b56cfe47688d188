-- What an actor sends to nodes is in its bounds.
use Rattle.std.proofs.Common.{ℕ, not, List, [], ◌∷◌}
use Rattle.std.specs.List.{AllByRecursion}
use Rattle.ld_table.specs.Words.{is_in, without}
use Rattle.ld_ids.specs.Id.{IsNode, IsLog}
use Rattle.ld_msg.specs.declared.msg.Who.{Who}
use Rattle.ld_msg.specs.declared.msg.Who.TheVariants as whos
use Rattle.ld_msg.specs.declared.msg.Body.{Body}
use Rattle.ld_msg.specs.Bounds.{Fits}
use Rattle.ld_msg.specs.Network.{posted}
use Rattle.ld_msg.specs.Sequencer.{to_each}
use Rattle.ld_node_bounds.specs.Messages.{AreMessages}
use Rattle.ld_node_bounds.proofs.Alls.{all-filter}

-- a body to a node
abbrev pub IsPost : Who → ℕ × Body → Type 0
IsPost who p = Fits who (whos.Node p.0) p.1

pub posts_sent : (who : Who) (l : ℕ) (bs : List (ℕ × Body)) → IsLog l → AllByRecursion (IsPost who) bs → AreMessages (posted who l bs)
posts_sent who l [] h a = tt
posts_sent who l (b ∷ bs) h a = (record { log = h; fits = a.0 }, posts_sent who l bs h a.1)

pub each_post : (who : Who) (b : Body) (ys : List ℕ) → ((y : ℕ) → IsNode y → Fits who (whos.Node y) b) → AllByRecursion IsNode ys → AllByRecursion (IsPost who) (to_each b ys)
each_post who b [] f a = tt
each_post who b (y ∷ ys) f a = (f y a.0, each_post who b ys f a.1)

pub without_nodes : (ys xs : List ℕ) → AllByRecursion IsNode xs → AllByRecursion IsNode (without ys xs)
without_nodes ys xs a = all-filter IsNode (λ x. not (is_in x ys)) xs a
