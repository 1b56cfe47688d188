-- While a confirmation lasts, the reader's next number lies between the trim and the end of a closed epoch's plan.
use Rattle.std.proofs.Common.{◌≡◌, ℕ, inl, inr, sym, subst, List, [], ◌∷◌, ◌++◌, Some}
use Rattle.ld_table.specs.Named.{find_named}
use Rattle.ld_lsn.specs.Number.{home_epoch}
use Rattle.ld_config.specs.declared.config.Config.{Config}
use Rattle.ld_msg.specs.Reader.{Reader, Confirmation, seen_nodes}
use Rattle.ld_machine.specs.Facts.{Happened}
use Rattle.ld_machine.specs.World.{World}
use Rattle.ld_machine.specs.Run.{after_step}
use Rattle.ld_machine.specs.Calm.{Move}
use Rattle.ld_safety.proofs.Lists.{not_none}
use Rattle.ld_safety.proofs.Traces.{Keeps, step_happened, beside_kept}
use Rattle.ld_safety.proofs.Events.{NamesOnce}
use Rattle.ld_safety.proofs.Registers.{OnlyClosed}
use Rattle.ld_safety.proofs.GivenSteps.{BaseGiven}
use Rattle.ld_safety.proofs.Along.{Along}
use Rattle.ld_safety.proofs.LostTrims.{TrimsTold, trims_kept}
use Rattle.ld_safety.proofs.LostJoined.{clean_kept}
use Rattle.ld_safety.proofs.LostShown.{Shown, shown_kept, closed_step}
use Rattle.ld_safety.proofs.LostBegins.{came}
use Rattle.ld_safety.proofs.LostSettled.{Within}
use Rattle.ld_safety.proofs.LostSettled as settled

abbrev pub Trimming : Config → List Happened → World → Type 0
Trimming c hs w = (BaseGiven c hs w × Along c hs w) × TrimsTold w

-- what readers are told stands on this
abbrev pub Telling : Config → List Happened → World → Type 0
Telling c hs w = Shown c (Trimming c) (clean_kept c) hs w

abbrev pub AllBetween : World → Type 0
AllBetween w = (name : List ℕ) (d : Reader) (v : Confirmation) → find_named name w.state.readers ≡ Some d → d.confirming ≡ Some v → Within w d.log d.next

within_later : (c : Config) (w : World) (e : Move) → NamesOnce w.state → OnlyClosed w.state.register → (l s : ℕ) → Within w l s → Within (after_step c w e) l s
within_later c w e N O l s W = record { summary = W.summary; closed = closed_step c w e N O l (home_epoch s) W.summary W.closed; positive = W.positive; above = W.above; below = W.below }

between_step : (c : Config) (hs : List Happened) (w : World) (e : Move) → Telling c hs w → Telling c (hs ++ step_happened c w.state e ∷ []) (after_step c w e) → AllBetween w → AllBetween (after_step c w e)
between_step c hs w e G T H t x v f q = elim (came c w e G.0.0.0.0.0.0 t x v f q) [
  | inl o ↦ subst (λ l. Within (after_step c w e) l x.next) (sym o.log) (subst (Within (after_step c w e) o.reader.log) (sym o.next) (within_later c w e G.0.0.0.0.0.0 G.1.0 o.reader.log o.reader.next (H t o.reader o.before o.named o.was)))
  | inr n ↦ settled.within c (after_step c w e) T.0.0.0.1.1 T.1.1 t x f (seen_nodes n.view) n.loss
]

-- in every run
pub between_kept : (c : Config) → Keeps c (λ hs w. Telling c hs w × AllBetween w)
unfolding find_named
between_kept c = beside_kept c (Telling c) (λ hs w. AllBetween w) (shown_kept c (Trimming c) (clean_kept c) (trims_kept c)) (λ t x v f. absurd (not_none f)) (λ hs w e B C A. between_step c hs w e B C A)
