-- No hole or bridge that a reader gets holds a number that was acknowledged or read as a record or a message, earlier or later.
use Rattle.std.proofs.Common.{◌≡◌, ◌∙◌, ◌≤◌, ℕ, inl, inr, ap, sym, subst, List, arith}
use Rattle.ld_safety.proofs.Settled.{Acknowledged}
use Rattle.ld_config.specs.declared.config.Config.{Config}
use Rattle.ld_schedule.specs.declared.event.Event.{Event}
use Rattle.ld_transcript.specs.declared.line.Line.TheVariants as lines
use Rattle.ld_transcript.specs.declared.line.GapKind.{GapKind}
use Rattle.ld_msg.specs.declared.msg.What.TheVariants.{Hole}
use Rattle.ld_machine.specs.Facts.{Happened, Writes, ReadsLog, Opening, Acks, GivesRecord, GivesGap, GivesMessage}
use Rattle.ld_machine.specs.Safe.{SaysNone, NothingHidden}
use Rattle.ld_machine.specs.World.{World}
use Rattle.ld_machine.specs.Run.{history}
use Rattle.ld_safety.proofs.Lists.{Some_inj}
use Rattle.ld_safety.proofs.Traces.{Keeps, at_end, both_kept, beside_kept}
use Rattle.ld_safety.proofs.Numbers.{one_payload}
use Rattle.ld_safety.proofs.Tiles.{Reads, tiles_kept}
use Rattle.ld_safety.proofs.GivenSteps.{BaseGiven}
use Rattle.ld_safety.proofs.Protocol.{AppendsOnce}
use Rattle.ld_safety.proofs.Along.{Along}
use Rattle.ld_safety.proofs.AlongSteps.{along_kept}
use Rattle.ld_safety.proofs.ItemFacts.{ClosedItem, RecordAt, BridgeAt, no_hole, no_bridge_over}
use Rattle.ld_safety.proofs.Told.{AllTold, start_told, told_step}

abbrev pub Everything : Config → List Happened → World → Type 0
Everything c hs w = (Reads c hs w × (BaseGiven c hs w × Along c hs w)) × AllTold c hs w

pub everything_kept : (c : Config) → Keeps c (Everything c)
everything_kept c = beside_kept c (λ hs w. Reads c hs w × (BaseGiven c hs w × Along c hs w)) (AllTold c) (both_kept c (Reads c) (λ hs w. BaseGiven c hs w × Along c hs w) (tiles_kept c) (along_kept c)) (start_told c)
    (λ hs w e B C T. told_step c hs w e B.1.0.0 B.1.0.1 B.1.1 B.0.1 T)

same_reads : (c : Config) (hs : List Happened) (l k : ℕ) (name : List ℕ) → ReadsLog c hs l name → ReadsLog c hs k name → l ≡ k
same_reads c hs l k name a b = let q : a.0 ≡ b.0 = Some_inj (sym a.1 ∙ b.1) in sym a.2 ∙ (ap (λ (x : Opening). x.log) q ∙ b.2)

module _ (c : Config) (hs : List Happened) (w : World) (E : Everything c hs w) where
  once : AppendsOnce hs
  once l n p q a b = one_payload hs w.state.sequencers w.state.register E.0.1.0.0.0.1 l n a.0 b.0 p q a.1 b.1

  acked_record : (l n j : ℕ) → Acks hs l n j → RecordAt c hs w.made w.state.network.sent w.state.register l n
  acked_record l n j a = let z = E.1.acked j a.name n a.told in let q : z.0 ≡ l = Some_inj (sym z.1 ∙ a.of_log) in inl (subst (λ k. Acknowledged c hs w.state.network.sent w.state.register k n) q z.2)

  given_record : (l n j : ℕ) (p : List ℕ) → GivesRecord c hs l n p j → RecordAt c hs w.made w.state.network.sent w.state.register l n
  given_record l n j p g = let z = E.1.records j g.name n p g.told in subst (λ k. RecordAt c hs w.made w.state.network.sent w.state.register k n) (same_reads c hs z.0 l g.name z.1 g.of_log) z.2

  given_message : (l n j index : ℕ) (m : List ℕ) → GivesMessage c hs l n index m j → RecordAt c hs w.made w.state.network.sent w.state.register l n
  given_message l n j index m g = let z = E.1.batches j g.name n index m g.told in subst (λ k. RecordAt c hs w.made w.state.network.sent w.state.register k n) (same_reads c hs z.0 l g.name z.1 g.of_log) z.2

  no_record : (l low high n i : ℕ) (kind : GapKind) → SaysNone kind → GivesGap c hs l kind low high i → low ≤ n → n ≤ high → RecordAt c hs w.made w.state.network.sent w.state.register l n → ⊥
  no_record l low high n i kind (inl q) g lo hi h =
      let z = E.1.holes i g.name low high (subst (λ k. Writes hs i (lines.Gap g.name k low high)) q g.told) in
      let s = same_reads c hs z.0 l g.name z.1 g.of_log in
      let e : low ≡ n = (let y = z.2 in omega arith) in
      no_hole c hs w.made w.state.network.sent w.state.register once E.0.1.1.once E.0.1.1.plans E.0.1.1.last l n (subst (λ k. ClosedItem c hs w.made w.state.network.sent w.state.register l k Hole) e (subst (λ k. ClosedItem c hs w.made w.state.network.sent w.state.register k low Hole) s z.3)) h
  no_record l low high n i kind (inr q) g lo hi h =
      let z = E.1.bridges i g.name low high (subst (λ k. Writes hs i (lines.Gap g.name k low high)) q g.told) in
      let s = same_reads c hs z.0 l g.name z.1 g.of_log in
      no_bridge_over c hs w.made w.state.network.sent w.state.register once E.0.1.1.once E.0.1.1.plans E.0.1.1.last l low high n (subst (λ k. BridgeAt c hs w.made w.state.network.sent w.state.register k low high) s z.2) lo hi h

  hidden_here : NothingHidden c hs
  hidden_here l low high n i j kind k g lo hi = ((λ a. no_record l low high n i kind k g lo hi (acked_record l n j a)), (λ p r. no_record l low high n i kind k g lo hi (given_record l n j p r)), (λ index m r. no_record l low high n i kind k g lo hi (given_message l n j index m r)))

pub nothing_hidden : (c : Config) (es : List Event) → NothingHidden c (history c es)
nothing_hidden c es = let p = at_end c (Everything c) (everything_kept c) es in hidden_here c (history c es) p.0 p.1
