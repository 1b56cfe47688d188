-- How the drive of a sequencer ends.
use Rattle.std.proofs.Common.{◌≡◌, ◌⊎◌, inl, inr, ℕ, Bool, true, false, List, [], Option, None, Some, Ok, Err, refl, ap, ◌∙◌, ⊎_elim, subst, arith, IfErr, IfSome}
use Rattle.std.specs.Prelude.{MatchResult}
use Rattle.std.specs.declared.result.Result.{Result}
use Rattle.std.specs.Io.KnownBytes.{Appends}
use Rattle.ld_transcript.specs.declared.line.Line.{Line}
use Rattle.ld_transcript.specs.Text.{text}
use Rattle.ld_msg.specs.declared.msg.Msg.{Msg}
use Rattle.ld_rounds.specs.declared.actor.Heard.{Heard}
use Rattle.ld_rounds.specs.declared.ended.Refusal.TheVariants as refusals
use Rattle.ld_rounds.specs.declared.ended.Ended.{Ended}
use Rattle.ld_rounds.specs.declared.ended.Ended.TheVariants as ends
use Rattle.ld_wire.specs.declared.fault.WireFault.{WireFault}
use Rattle.ld_rounds.specs.Endings.{IsLater, IsOffAs}
use Rattle.ld_rounds.specs.Input.{Input}
use Rattle.ld_rounds.specs.Feeding.{IsAppendEnding}
use Rattle.ld_rounds.specs.Output.{WritesFault}
use Rattle.ld_rounds.specs.Telling.{HasTold, IsTelling}
use Rattle.ld_rounds.proofs.Endings.{ending_said}
use Rattle.ld_rounds.proofs.Going.{NoFrame}
use Rattle.ld_rounds.proofs.Feeding.{append_since, same_here}
use Rattle.ld_rounds.proofs.Joining.{IsPartly}
use Rattle.ld_append.specs.Refusing.{IsStartTold}
use Rattle.ld_append.specs.Appends.{IsStartEnding, IsDriveEnding, IsEndOfAppend, taken_end}

module _ (crowded : Type 0) (damaged : ℕ → Type 0) (before now : ℕ) (old new : Option (List ℕ)) where
  -- a line that wasn't written is none
  silent_start : (ls : List Line) → ls ≡ [] → Appends old new (text ls) → Appends old new []
  silent_start ls e w = subst (λ x. Appends old new (text x)) e w

  said_start : (ls : List Line) (e : Ended) → (e ≡ ends.LogLimit → crowded) → ((place : ℕ) → e ≡ ends.Register (refusals.Damaged place) → damaged place) → IsStartTold ls e → Appends old new (text ls) → IsStartEnding crowded damaged before now old new e
  said_start ls ends.LogLimit k d t w = (silent_start ls t w, k refl)
  said_start ls (ends.Register (refusals.Damaged place)) k d t w = (silent_start ls t w, d place refl)
  said_start ls (ends.Register refusals.Failed) k d t w = ending_said before now old new ls (ends.Register refusals.Failed) t w
  said_start ls (ends.Register refusals.Full) k d t w = ending_said before now old new ls (ends.Register refusals.Full) t w
  said_start ls (ends.Preempted by) k d t w = ending_said before now old new ls (ends.Preempted by) t w
  said_start ls ends.EpochLimit k d t w = ending_said before now old new ls ends.EpochLimit t w
  said_start ls ends.EpochFull k d t w = ending_said before now old new ls ends.EpochFull t w
  said_start ls ends.Done k d t w = absurd t
  said_start ls ends.Rounds k d t w = absurd t
  said_start ls (ends.BadFrame fault) k d t w = absurd t
  said_start ls (ends.BadLine line place) k d t w = absurd t
  said_start ls ends.Read k d t w = absurd t
  said_start ls ends.Write k d t w = absurd t
  said_start ls ends.NoMemory k d t w = absurd t

  write_start : (e : Ended) → WritesFault before now e → IsStartEnding crowded damaged before now old new e
  write_start ends.Write f = f
  write_start ends.NoMemory f = tt
  write_start ends.LogLimit f = absurd f
  write_start (ends.Register fault) f = absurd f
  write_start (ends.Preempted by) f = absurd f
  write_start ends.EpochLimit f = absurd f
  write_start ends.EpochFull f = absurd f
  write_start ends.Done f = absurd f
  write_start ends.Rounds f = absurd f
  write_start (ends.BadFrame fault) f = absurd f
  write_start (ends.BadLine line place) f = absurd f
  write_start ends.Read f = absurd f

  module _ (heard : Heard) (qs rs : List (List Msg)) (t : IfSome heard.end (IsStartTold heard.lines.items)) (k : heard.end ≡ Some ends.LogLimit → crowded) (d : (place : ℕ) → heard.end ≡ Some (ends.Register (refusals.Damaged place)) → damaged place) where
    ended_start : (e : Ended) → heard.end ≡ Some e → IsStartTold heard.lines.items e → IsTelling heard qs rs old new e → IsStartEnding crowded damaged before now old new e
    ended_start ends.NoMemory is s w = absurd s
    ended_start ends.Write is s w = absurd s
    ended_start ends.LogLimit is s w = said_start heard.lines.items ends.LogLimit (λ q. k (is ∙ ap (λ (x : Ended). Some x) q)) (λ place q. d place (is ∙ ap (λ (x : Ended). Some x) q)) s w.written
    ended_start (ends.Register fault) is s w = said_start heard.lines.items (ends.Register fault) (λ q. k (is ∙ ap (λ (x : Ended). Some x) q)) (λ place q. d place (is ∙ ap (λ (x : Ended). Some x) q)) s w.written
    ended_start (ends.Preempted by) is s w = said_start heard.lines.items (ends.Preempted by) (λ q. k (is ∙ ap (λ (x : Ended). Some x) q)) (λ place q. d place (is ∙ ap (λ (x : Ended). Some x) q)) s w.written
    ended_start ends.EpochLimit is s w = said_start heard.lines.items ends.EpochLimit (λ q. k (is ∙ ap (λ (x : Ended). Some x) q)) (λ place q. d place (is ∙ ap (λ (x : Ended). Some x) q)) s w.written
    ended_start ends.EpochFull is s w = said_start heard.lines.items ends.EpochFull (λ q. k (is ∙ ap (λ (x : Ended). Some x) q)) (λ place q. d place (is ∙ ap (λ (x : Ended). Some x) q)) s w.written
    ended_start ends.Done is s w = absurd s
    ended_start ends.Rounds is s w = absurd s
    ended_start (ends.BadFrame fault) is s w = absurd s
    ended_start (ends.BadLine line place) is s w = absurd s
    ended_start ends.Read is s w = absurd s

    told_start : (e : Ended) → (heard.end ≡ Some e) ⊎ WritesFault before now e → IsTelling heard qs rs old new e → IsStartEnding crowded damaged before now old new e
    told_start e (inl is) w = ended_start e is (subst (λ (x : Option Ended). IfSome x (IsStartTold heard.lines.items)) is t) w
    told_start e (inr f) w = write_start e f

    pub start_cause : (r : Result (Unit {0}) Ended) → MatchResult r (λ u. HasTold heard qs rs old new) (IsTelling heard qs rs old new) → IfErr r (λ e. (heard.end ≡ Some e) ⊎ WritesFault before now e) → IfErr r (IsStartEnding crowded damaged before now old new)
    start_cause (Ok u) w f = tt
    start_cause (Err e) w f = told_start e f w

module _ (crowded : Type 0) (damaged : ℕ → Type 0) (i : Option Input) (p q k m : ℕ) (a c : Option (List ℕ)) where
  pub end_of : (e : Ended) → IsDriveEnding crowded damaged i p q k m a c e → IsEndOfAppend crowded damaged i p q k m a c e
  end_of ends.Done h = tt
  end_of ends.Rounds h = tt
  end_of ends.LogLimit (inl h) = h.1
  end_of ends.LogLimit (inr h) = absurd h.said
  end_of (ends.Register fault) h = h
  end_of (ends.Preempted by) h = h
  end_of ends.EpochLimit h = h
  end_of ends.EpochFull h = h
  end_of (ends.BadFrame fault) h = h
  end_of (ends.BadLine line place) h = h
  end_of ends.Read h = h
  end_of ends.Write h = h
  end_of ends.NoMemory h = h

  pub taken_is : (b : Bool) → (b ≡ true → crowded) → IsEndOfAppend crowded damaged i p q k m a c (taken_end b)
  taken_is true f = f refl
  taken_is false f = tt

  pub rounds_cause : {R : Type 0} (n : ℕ) (b : Option (List ℕ)) (r : Result R Ended) → IsLater k n a b → IfErr r (IsAppendEnding i p q n m b c) → IfErr r (IsDriveEnding crowded damaged i p q k m a c)
  rounds_cause n b (Ok v) l h = tt
  rounds_cause n b (Err e) l h = inr (append_since i i p p q k n m a b c e (same_here i) (omega arith) l h)

-- a refused activation is no frame that is off
told_unframed : (ls : List Line) (e : Ended) → IsStartTold ls e → NoFrame (Some e)
told_unframed ls (ends.BadFrame fault) t = t
told_unframed ls e t = tt

pub start_unframed : (ls : List Line) (o : Option Ended) → IfSome o (IsStartTold ls) → NoFrame o
start_unframed ls None t = tt
start_unframed ls (Some e) t = told_unframed ls e t

-- so the nodes needn't say why
off_start : (ls : List Line) (off : Option WireFault) (e : Ended) → IsStartTold ls e → IsOffAs off e
off_start ls off (ends.BadFrame fault) t = absurd t
off_start ls off e t = tt

off_write : (before now : ℕ) (off : Option WireFault) (e : Ended) → WritesFault before now e → IsOffAs off e
off_write before now off (ends.BadFrame fault) f = absurd f
off_write before now off e f = tt

pub start_off : (before now : ℕ) (ls : List Line) (end : Option Ended) (off : Option WireFault) (r : Result (Unit {0}) Ended) → IfSome end (IsStartTold ls) → IfErr r (λ e. (end ≡ Some e) ⊎ WritesFault before now e) → IfErr r (IsOffAs off)
start_off before now ls end off (Ok u) t f = tt
start_off before now ls end off (Err e) t f = ⊎_elim (λ is. off_start ls off e (subst (λ (o : Option Ended). IfSome o (IsStartTold ls)) is t)) (λ w. off_write before now off e w) f

-- a drive that ends at the activation is neither done nor at a line with a syntax error
pub start_partly : (crowded : Type 0) (damaged : ℕ → Type 0) (before now : ℕ) (old new : Option (List ℕ)) (e : Ended) → IsStartEnding crowded damaged before now old new e → IsPartly e
start_partly crowded damaged k m a c ends.Done i = absurd i.said
start_partly crowded damaged k m a c (ends.BadLine line place) i = absurd i.said
start_partly crowded damaged k m a c ends.Rounds i = tt
start_partly crowded damaged k m a c (ends.Preempted by) i = tt
start_partly crowded damaged k m a c ends.LogLimit i = tt
start_partly crowded damaged k m a c ends.EpochLimit i = tt
start_partly crowded damaged k m a c ends.EpochFull i = tt
start_partly crowded damaged k m a c (ends.Register fault) i = tt
start_partly crowded damaged k m a c (ends.BadFrame fault) i = tt
start_partly crowded damaged k m a c ends.Read i = tt
start_partly crowded damaged k m a c ends.Write i = tt
start_partly crowded damaged k m a c ends.NoMemory i = tt
