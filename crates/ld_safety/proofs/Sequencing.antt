-- Epochs of sequencers were handed out, none twice; what acknowledged numbers and held answers are, in every state.
use Rattle.std.proofs.Common.{◌≡◌, ◌∙◌, ℕ, sym, subst, List, [], true}
use Rattle.std.proofs.lemmas.Bool.{le-leb}
use Rattle.ld_lsn.specs.Number.{epoch_of}
use Rattle.ld_config.specs.declared.config.Config.{Config}
use Rattle.ld_machine.specs.Facts.{Happened}
use Rattle.ld_machine.specs.World.{World, begin, chosen}
use Rattle.ld_machine.specs.Invariant.{SequencersDrawn, Acked}
use Rattle.ld_machine.specs.Run.{Move, world_after, trace}
use Rattle.ld_safety.proofs.Lists.{Some_inj}
use Rattle.ld_safety.proofs.Names.{found}
use Rattle.ld_safety.proofs.Traces.{later}
use Rattle.ld_safety.proofs.Base.{Base, base_kept}
use Rattle.ld_safety.proofs.Settled.{Acknowledged}
use Rattle.ld_safety.proofs.Told.{AllTold}

pub sequencers_here : (c : Config) (hs : List Happened) (w : World) → Base c hs w → SequencersDrawn w
sequencers_here c hs w B = record {
  drawn = λ q i. let f = found w.state.sequencers q B.0.0.0 i in (B.0.1.epochs.positive q.0 q.1 f, B.0.1.epochs.drawn q.0 q.1 f);
  once = λ q r i j l e. B.0.1.epochs.once q.0 r.0 q.1 r.1 (found w.state.sequencers q B.0.0.0 i) (found w.state.sequencers r B.0.0.0 j) l e;
}

pub acknowledged_of : (c : Config) (hs : List Happened) (w : World) → AllTold c hs w → (l n : ℕ) → Acked hs l n → Acknowledged c hs w.state.network.sent w.state.register l n
acknowledged_of c hs w T l n a = let z = T.acked a.0 a.1.name n a.1.told in let q : z.0 ≡ l = Some_inj (sym z.1 ∙ a.1.of_log) in subst (λ k. Acknowledged c hs w.state.network.sent w.state.register k n) q z.2

pub acked_chosen : (c : Config) (hs : List Happened) (w : World) → AllTold c hs w → (l n : ℕ) → Acked hs l n → chosen c w l n (epoch_of n) ≡ true
unfolding chosen
acked_chosen c hs w T l n a = le-leb _ _ (acknowledged_of c hs w T l n a).chosen

pub epochs_are_drawn_once : (c : Config) (es : List Move) → SequencersDrawn (world_after c (begin c) es)
epochs_are_drawn_once c es = sequencers_here c (trace c (begin c) es) (world_after c (begin c) es) (later c (Base c) (base_kept c) [] (begin c) es (base_kept c).begins)
