-- Each step leaves the messages in their places, but for one that is no longer new; so new messages have offsets in every run.
use Rattle.std.proofs.Common.{◌≡◌, ℕ, refl, subst, sym, List, Option, Some, None, length, ◌<◌, ap, ◌∙◌}
use Rattle.ld_config.specs.declared.config.Config.{Config}
use Rattle.ld_msg.specs.declared.msg.Msg.{Msg}
use Rattle.ld_msg.specs.declared.msg.Body.{Body}
use Rattle.ld_op.specs.declared.op.Op.{Op}
use Rattle.ld_op.specs.Ticks.{Ticked, Cleans, Rebuilt, Asks, Nothing}
use Rattle.ld_machine.specs.State.{State, Done, finish, node_at, with_node}
use Rattle.ld_machine.specs.World.{begin}
use Rattle.ld_machine.specs.Step as Step
use Rattle.ld_machine.specs.Calm as Calm
use Rattle.ld_machine.specs.Calm.{Move}
use Rattle.ld_safety.proofs.Traces.{Keeps, beside_kept}
use Rattle.ld_safety.proofs.Events.{Cases, Older, dispatch, refreshed}
use Rattle.ld_safety.proofs.Base.{Base, base_kept}
use Rattle.ld_calm.proofs.Weights.{InPlace, start_in_place, sent_in_place}

-- the messages are those that were sent, and none is new that wasn't so before
record Still (s : State) (d : Done) : Type 0 where
  sent : d.state.network.sent ≡ s.network.sent
  count : d.state.network.count ≡ s.network.count
  older : Older s d.state.network.fresh

module _ (c : Config) (s : State) (e : Move) where
  same : (d : Done) → d.state.network ≡ s.network → Still s d
  same d q = record { sent = ap (λ w. w.sent) q; count = ap (λ w. w.count) q; older = subst (Older s) (sym (ap (λ w. w.fresh) q)) (λ i h. h) }

  marked : (f : List ℕ) (d : Done) → Older s f → d.state.network ≡ (refreshed s f).network → Still s d
  marked f d older q = record { sent = ap (λ w. w.sent) q; count = ap (λ w. w.count) q; older = subst (Older s) (sym (ap (λ w. w.fresh) q)) older }

  still_cases : Cases c s e (λ d m. Still s d)
  still_cases = record {
    still = λ f older i. marked f _ older refl;
    says = λ x q. same _ refl;
    node_hears = λ f older n m i t v o. handled f older n m (Step.node_handles n (node_at s n) m).op (Step.node_handles n (node_at s n) m).answer;
    loads = λ n ls q b o. same _ refl;
    draw_fails = λ n b. same _ refl;
    formats = λ n r g b v i. same _ refl;
    ticks = λ n l t v i o. ticked n l t;
    stops = λ n b. same _ refl;
    wipes = λ n. same _ refl;
    faults = λ n f o. same _ refl;
    sets = λ l r x set g. same _ refl;
    swaps = λ n m l x r q i. same _ refl;
    arms = λ k done o. same _ refl;
    hears = λ f older name q m i t l v o. marked f _ older refl;
    retries = λ again name q v o. same _ refl;
    appends = λ name q p v a i. same _ refl;
    trims = λ name q t v b. same _ refl;
    drops = λ name q v o. same _ refl;
    activates = λ name l r g n i x. same _ refl;
    activate_fails = λ name l x g q. same _ refl;
    answers = λ f older name d m i t v o. marked f _ older refl;
    polls = λ name d v o. same _ refl;
    opens = λ style name l from until o x. same _ refl;
  } where
    handled : (f : List ℕ) → Older s f → (n : ℕ) (m : Msg) (o : Option Op) (b : Option Body) → Still s (Step.handles (with_node (refreshed s f) n (Step.releases (node_at s n) m.log m.body)) n m o b)
    handled f older n m None b = marked f _ older refl
    handled f older n m (Some o) b = marked f _ older refl

    ticked : (n l : ℕ) (t : Ticked) → Still s (Step.ticks_as c s n l t)
    ticked n l (Cleans k y) = same _ refl
    ticked n l Rebuilt = same _ refl
    ticked n l (Asks from) = same _ refl
    ticked n l Nothing = same _ refl

place_after : (s : State) (d : Done) → Still s d → InPlace s.network → InPlace (finish d).state.network
unfolding finish
place_after s d S h = sent_in_place d.state.network d.sends (record { count = S.count ∙ (h.count ∙ sym (ap length S.sent)); fresh = λ i j. subst (λ k. i < k) (sym S.count) (h.fresh i (S.older i j)) })

-- in every run
pub places_kept : (c : Config) → Keeps c (λ hs w. Base c hs w × InPlace w.state.network)
places_kept c = beside_kept c (Base c) (λ hs w. InPlace w.state.network) (base_kept c) (start_in_place (begin c).state.network refl refl refl)
    (λ hs w e B n p. place_after w.state (Calm.moves c w.state e) (dispatch c w.state e (λ d m. Still w.state d) B.0.0 (still_cases c w.state e)) p)
