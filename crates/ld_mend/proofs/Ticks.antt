-- What a tick does to a node.
use Rattle.std.proofs.Common.{◌≡◌, ℕ, List, [], ◌∷◌, Option, None, refl, sym, ap, ◌∙◌, subst}
use Rattle.ld_disk.specs.declared.disk.Disk.{Ghosts}
use Rattle.ld_config.specs.declared.config.Config.{Config}
use Rattle.ld_msg.specs.declared.msg.Msg.{Msg}
use Rattle.ld_msg.specs.declared.msg.Who.TheVariants as whos
use Rattle.ld_msg.specs.declared.msg.Body.{Body}
use Rattle.ld_msg.specs.Network.{posted}
use Rattle.ld_msg.specs.Register.{Register}
use Rattle.ld_op.specs.Ticks as ticks
use Rattle.ld_op.specs.Ticks.{node_asks}
use Rattle.ld_machine.specs.Disk as machine
use Rattle.ld_node.specs.Known.{Known}
use Rattle.ld_node.specs.Changes.{kept, laid_with, IsPast}
use Rattle.ld_node.specs.Looks.{ticked, op_of, answer_of}
use Rattle.ld_node.specs.declared.node.Node.{Node}
use Rattle.ld_node.specs.declared.tick.Ticked.{Ticked}
use Rattle.ld_node.specs.declared.tick.Ticked.TheVariants as answers
use Rattle.ld_node.specs.Node.{id_of, known_of, plain_of, released_of, layout_of}
use Rattle.ld_mend.specs.Course.{At, Ticks, after, asked_by, tick_answer, tick_op}
use Rattle.ld_mend.specs.Standing.{at_of, AreFrom}
use Rattle.ld_mend.proofs.Nodes.{at_is}

module _ {D : Type 0} {g : Ghosts D} (old : Node D g) (id : ℕ) (known : Known) (c : Config) (r : Register) (l : ℕ) (asked : List Msg) (far : Option (List (ℕ × machine.Node))) (number : id_of old ≡ id) (known_is : known_of old ≡ known) where
  pub answered : (answer : Ticked) → answer ≡ answer_of (id_of old) l (known_of old).nodes (ticked (known_of old) (plain_of old) l r) → answer ≡ tick_answer id known c r (at_of old asked far) l
  answered answer e = e ∙ (ap (λ n. answer_of n l (known_of old).nodes (ticked (known_of old) (plain_of old) l r)) number ∙ ap (λ (x : Known). answer_of id l x.nodes (ticked x (plain_of old) l r)) known_is)

  pub fits : IsPast (layout_of old) (tick_op id known c r (at_of old asked far) l) → IsPast (layout_of old) (op_of l (ticked (known_of old) (plain_of old) l r))
  fits past = subst (λ (x : Known). IsPast (layout_of old) (op_of l (ticked x (plain_of old) l r))) (sym known_is) past

  pub ticked_at : (new : Node D g) (answer : Ticked) → plain_of new ≡ kept (op_of l (ticked (known_of old) (plain_of old) l r)) (plain_of old) → released_of new ≡ released_of old
      → layout_of new ≡ laid_with (layout_of old) (op_of l (ticked (known_of old) (plain_of old) l r)) → answer ≡ answer_of (id_of old) l (known_of old).nodes (ticked (known_of old) (plain_of old) l r)
      → at_of new (asked_by answer) far ≡ after id known c r (at_of old asked far) (Ticks l)
  ticked_at new answer plain released layout e =
      at_is _ _ _ _ _ _ _ _ far
      (plain ∙ ap (λ (x : Known). kept (op_of l (ticked x (plain_of old) l r)) (plain_of old)) known_is)
      released
      (layout ∙ ap (λ (x : Known). laid_with (layout_of old) (op_of l (ticked x (plain_of old) l r))) known_is)
      (ap asked_by (answered answer e))

-- a tick that asks and one that has nothing to do keep nothing
pub asks_nothing : (id l : ℕ) (nodes : List ℕ) (t : ticks.Ticked) (asks : List Msg) → answer_of id l nodes t ≡ answers.Asked asks → op_of l t ≡ None
asks_nothing id l nodes (ticks.Cleans epoch y) asks e = absurd cc
asks_nothing id l nodes ticks.Rebuilt asks e = absurd cc
asks_nothing id l nodes (ticks.Asks from) asks e = refl
asks_nothing id l nodes ticks.Nothing asks e = refl

pub idles_nothing : (id l : ℕ) (nodes : List ℕ) (t : ticks.Ticked) → answer_of id l nodes t ≡ answers.Nothing → op_of l t ≡ None
idles_nothing id l nodes (ticks.Cleans epoch y) e = absurd cc
idles_nothing id l nodes ticks.Rebuilt e = absurd cc
idles_nothing id l nodes (ticks.Asks from) e = absurd cc
idles_nothing id l nodes ticks.Nothing e = refl

-- so the next tick does the same
pub again : (id : ℕ) (known : Known) (c : Config) (r : Register) (s t : At) (l : ℕ) (answer : Ticked) → t.plain ≡ kept (tick_op id known c r s l) s.plain → tick_op id known c r s l ≡ None → answer ≡ tick_answer id known c r s l → tick_answer id known c r t l ≡ answer
again id known c r s t l answer plain none is = ap (λ p. answer_of id l known.nodes (ticked known p l r)) (plain ∙ ap (λ o. kept o s.plain) none) ∙ sym is

-- the asks come of the node
pub posted_from : (id l : ℕ) (bs : List (ℕ × Body)) → AreFrom id (posted (whos.Node id) l bs)
posted_from id l [] = tt
posted_from id l (b ∷ bs) = (refl, posted_from id l bs)

pub asked_of : (id l : ℕ) (nodes : List ℕ) (t : ticks.Ticked) (asks : List Msg) → answer_of id l nodes t ≡ answers.Asked asks → AreFrom id asks
asked_of id l nodes (ticks.Cleans epoch y) asks e = absurd cc
asked_of id l nodes ticks.Rebuilt asks e = absurd cc
asked_of id l nodes (ticks.Asks from) asks e = let f : posted (whos.Node id) l (node_asks id nodes from) ≡ asks = cc in subst (λ ms. AreFrom id ms) f (posted_from id l (node_asks id nodes from))
asked_of id l nodes ticks.Nothing asks e = absurd cc
