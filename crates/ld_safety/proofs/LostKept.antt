-- Along a run the register's logs rise and are the configuration's, and a node with a plain state that is lost for an epoch stands lost for it in the lines.
use Rattle.std.proofs.Common.{◌≡◌, ◌<◌, ℕ, inl, inr, sym, subst, Bool, true, false, cond, List, [], ◌∷◌, ◌++◌, Option, Some, arith}
use Rattle.std.specs.Option.{unwrap_or}
use Rattle.ld_table.specs.Table.{find}
use Rattle.ld_ids.specs.Set.{members}
use Rattle.ld_config.specs.declared.config.Config.{Config}
use Rattle.ld_msg.specs.Register.{swap, swapped_epochs, Register, Epochs, activate, close, draw, with_epochs, next_epoch, closed_epochs, no_epochs, epochs_of, empty_register}
use Rattle.ld_machine.specs.Config.{has_log}
use Rattle.ld_machine.specs.Disk.{Node, new_node}
use Rattle.ld_machine.specs.State.{new_nodes, finish, node_at}
use Rattle.ld_machine.specs.Facts.{Happened, Lost, standing, stands_for}
use Rattle.ld_machine.specs.World.{World}
use Rattle.ld_machine.specs.Run.{after_step}
use Rattle.ld_machine.specs.Step as Step
use Rattle.ld_safety.proofs.Traces.{Keeps, step_happened, beside_kept}
use Rattle.ld_safety.proofs.Base.{Base, base_kept}
use Rattle.ld_safety.proofs.Steps.{told}
use Rattle.ld_safety.proofs.Events.{NamesOnce, dispatch}
use Rattle.ld_safety.proofs.Rising.{Rising, Rising-put}
use Rattle.ld_safety.proofs.RegisterSteps.{Same, epochs_put, activate_leaves, close_leaves, draw_leaves, swap_leaves}
use Rattle.ld_safety.proofs.Registers.{register_kept}
use Rattle.ld_safety.proofs.LostNodes.{LostIn}
use Rattle.ld_safety.proofs.LostStanding.{Stands, new_stands}
use Rattle.ld_safety.proofs.LostStands.{OnlyLogs, stands_cases}
use Rattle.ld_machine.specs.Calm.{Move}

-- ---- the register's logs ----
abbrev pub LogsFine : Config → Register → Type 0
LogsFine c r = Rising r.logs × OnlyLogs c r

same_fine : (c : Config) (r n : Register) → n.logs ≡ r.logs → LogsFine c r → LogsFine c n
same_fine c r n q h = (subst Rising (sym q) h.0, λ l z. h.1 l (subst (λ m. 0 < (unwrap_or (find l m) no_epochs).epoch) q z))

put_fine : (c : Config) (r n : Register) (l : ℕ) (x : Epochs) → (0 < x.epoch → has_log c l ≡ true) → Same (with_epochs r l x) n → LogsFine c r → LogsFine c n
put_fine c r n l x a s h = same_fine c (with_epochs r l x) n s.0 (
  Rising-put l x r.logs h.0,
  λ k z. elim (epochs_put r l k x) [
    | inl p ↦ subst (λ j. has_log c j ≡ true) (sym p.0) (a (subst (λ (v : Epochs). 0 < v.epoch) p.1 z))
    | inr p ↦ h.1 k (subst (λ (v : Epochs). 0 < v.epoch) p.1 z)
  ],
)

fine_step : (c : Config) (w : World) (e : Move) → NamesOnce w.state → LogsFine c w.state.register → LogsFine c (after_step c w e).state.register
unfolding finish
fine_step c w e N h = let r = w.state.register in register_kept c w.state e (λ n. LogsFine c n) h
    (λ l g. let p = Step.spec_set c w.state l in elim (activate_leaves r l p) [ inl a ↦ same_fine c r (activate r l p).register a.0 h | inr a ↦ put_fine c r (activate r l p).register l (next_epoch (epochs_of r l) p) (λ z. g) a.1 h ])
    (λ l k y b. elim (close_leaves r l k y b) [ inl a ↦ same_fine c r (close r l k y b).register a.0 h | inr a ↦ put_fine c r (close r l k y b).register l (closed_epochs (epochs_of r l) k y) (h.1 l) a.1 h ])
    (λ n. elim (draw_leaves r n) [ inl a ↦ same_fine c r (draw r n).register a.0 h | inr a ↦ same_fine c r (draw r n).register a.0 h ])
    (λ l upto old new. elim (swap_leaves r l upto old new) [ inl a ↦ same_fine c r (swap r l upto old new).register a.0 h | inr a ↦ put_fine c r (swap r l upto old new).register l (swapped_epochs (epochs_of r l) upto old new) (h.1 l) a h ])
    (λ n q. same_fine c r n q h) N

start_fine : (c : Config) → LogsFine c empty_register
unfolding find
start_fine c = (tt, λ l z. absurd (omega arith))

-- ---- nodes ----
abbrev pub Standings : Config → List Happened → World → Type 0
Standings c hs w = LogsFine c w.state.register × ((n l : ℕ) → Stands (standing n l hs Lost) l (node_at w.state n))

standings_step : (c : Config) (hs : List Happened) (w : World) (e : Move) → NamesOnce w.state → Standings c hs w → Standings c (hs ++ step_happened c w.state e ∷ []) (after_step c w e)
unfolding finish
standings_step c hs w e N h = (fine_step c w e N h.0, λ n l. dispatch c w.state e (λ d m. (n l : ℕ) → Stands (standing n l (hs ++ told w.state.register e d ∷ []) Lost) l (node_at d.state n)) N (stands_cases c hs w.state e h.1 h.0) n l)

starts_new : (ns : List ℕ) (y l : ℕ) → Stands Lost l (unwrap_or (find y (new_nodes ns)) new_node)
unfolding find
starts_new [] y l = new_stands l
starts_new (n ∷ ns) y l = start_or _ (find y (new_nodes ns)) (starts_new ns y l) where
  start_or : (b : Bool) (o : Option Node) → Stands Lost l (unwrap_or o new_node) → Stands Lost l (unwrap_or (cond b (Some new_node) o) new_node)
  start_or true o i = new_stands l
  start_or false o i = i

pub standings_kept : (c : Config) → Keeps c (λ hs w. Base c hs w × Standings c hs w)
standings_kept c = beside_kept c (Base c) (Standings c) (base_kept c) (start_fine c, λ n l. starts_new (members c.nodes) n l) (λ hs w e B C h. standings_step c hs w e B.0.0 h)

-- lost in a plain state, lost in the lines
pub stands_there : (c : Config) (hs : List Happened) (w : World) → Standings c hs w → (y l e g : ℕ) → LostIn (node_at w.state y) l e g → stands_for e (standing y l hs Lost) ≡ true
stands_there c hs w h y l e g k = (h.1 y l).lost k.plain e k.held k.lost
