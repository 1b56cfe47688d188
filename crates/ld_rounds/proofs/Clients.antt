-- What a step of an actor leaves.
use Rattle.std.proofs.Common.{◌≡◌, ℕ, Bool, true, false, List, [], ◌∷◌, refl, if◌then◌else◌}
use Rattle.std.specs.List.{AllByRecursion}
use Rattle.ld_msg.specs.declared.msg.Who.{Who}
use Rattle.ld_msg.specs.declared.msg.Body.{Body}
use Rattle.ld_msg.specs.Network.{posted}
use Rattle.ld_machine.specs.State.{State, Done, unchanged}
use Rattle.ld_bounds.specs.Sound.{is_node}
use Rattle.ld_rounds.specs.News.{is_answer}
use Rattle.ld_rounds.specs.Drives.{own_lines}

-- neither nodes nor messages have changed, and all that is written and sent is an actor's
pub record IsClient (s : State) (d : Done) : Type 0 where
  pub nodes : d.state.nodes ≡ s.nodes
  pub network : d.state.network ≡ s.network
  pub own : own_lines d.lines ≡ d.lines
  pub asks : AllByRecursion (λ m. is_answer m ≡ false) d.sends

pub client_if : (b : Bool) (s : State) (x y : Done) → IsClient s x → IsClient s y → IsClient s (if b then x else y)
client_if true s x y h k = h
client_if false s x y h k = k

pub nothing_client : (s : State) → IsClient s (unchanged s)
nothing_client s = record { nodes = refl; network = refl; own = refl; asks = tt }

pub posted_asks : (w : Who) (l : ℕ) (bs : List (ℕ × Body)) → is_node w ≡ false → AllByRecursion (λ m. is_answer m ≡ false) (posted w l bs)
posted_asks w l [] h = tt
posted_asks w l (b ∷ bs) h = (h, posted_asks w l bs h)
