-- A text that was written or not.
use Rattle.std.proofs.Common.{◌≡◌, ◌⊎◌, ℕ, List, [], ◌++◌, Option, Ok, Err, refl, sym, ◌∙◌, subst, inl, inr}
use Rattle.std.specs.Prelude.{MatchResult, IfErr}
use Rattle.std.specs.declared.result.Result.{Result}
use Rattle.std.proofs.lemmas.List.{append-nil}
use Rattle.ld_mend.specs.Output.{WritesPart}
use Rattle.ld_stopped.specs.declared.stop.Stop.{Stop}
use Rattle.ld_stopped.specs.declared.stop.Stop.TheVariants as stops
use Rattle.ld_stopped.specs.Opening.{IsLoadStop}
use Rattle.ld_stopped.specs.Output.{Tells}
use Rattle.ld_stopped.specs.Showing.{IsShowStop}
use Rattle.ld_stopped.specs.Stops.{OutputCounts, DiskCounts}

-- nothing is a part of each text
pub none_written : (old text : List ℕ) → WritesPart old old text
none_written old text = record { part = []; missing = text; written = sym (append-nil old); whole = refl }

pub nothing_written : (old new text : List ℕ) → new ≡ old → WritesPart old new text
nothing_written old new text e = record { part = []; missing = text; written = e ∙ sym (append-nil old); whole = refl }

module _ (old new text : List ℕ) where
  -- a text that is the same is told the same
  pub tells_as : (other : List ℕ) (r : Result Unit Stop) → text ≡ other → Tells old new text r → Tells old new other r
  tells_as other r e told = subst (λ t. Tells old new t r) e told

  pub all_or_part : (r : Result Unit Stop) → Tells old new text r → MatchResult r (λ _. new ≡ old ++ text) (λ _. WritesPart old new text)
  all_or_part (Ok done) told = told
  all_or_part (Err stops.Write) told = told
  all_or_part (Err stops.NoMemory) told = nothing_written old new text told
  all_or_part (Err stops.Disk) told = absurd told
  all_or_part (Err stops.Register) told = absurd told
  all_or_part (Err (stops.BadFrame fault)) told = absurd told
  all_or_part (Err (stops.Damaged which place)) told = absurd told
  all_or_part (Err stops.Blank) told = absurd told
  all_or_part (Err (stops.Full which)) told = absurd told
  all_or_part (Err stops.SwapLimit) told = absurd told

  pub unwritten : (r : Result Unit Stop) → Tells old new text r → IfErr r (λ stop. (stop ≡ stops.Write) ⊎ (new ≡ old))
  unwritten (Ok done) told = tt
  unwritten (Err stops.Write) told = inl refl
  unwritten (Err stops.NoMemory) told = inr told
  unwritten (Err stops.Disk) told = absurd told
  unwritten (Err stops.Register) told = absurd told
  unwritten (Err (stops.BadFrame fault)) told = absurd told
  unwritten (Err (stops.Damaged which place)) told = absurd told
  unwritten (Err stops.Blank) told = absurd told
  unwritten (Err (stops.Full which)) told = absurd told
  unwritten (Err stops.SwapLimit) told = absurd told

  -- the disk isn't called meanwhile
  pub disk_same : (before now : ℕ) (r : Result Unit Stop) → now ≡ before → Tells old new text r → MatchResult r (λ _. now ≡ before) (DiskCounts before now)
  disk_same before now (Ok done) same told = same
  disk_same before now (Err stops.Write) same told = same
  disk_same before now (Err stops.NoMemory) same told = same
  disk_same before now (Err stops.Disk) same told = absurd told
  disk_same before now (Err stops.Register) same told = same
  disk_same before now (Err (stops.BadFrame fault)) same told = same
  disk_same before now (Err (stops.Damaged which place)) same told = same
  disk_same before now (Err stops.Blank) same told = same
  disk_same before now (Err (stops.Full which)) same told = same
  disk_same before now (Err stops.SwapLimit) same told = same

  pub show_caused : (before now : ℕ) (seen : Option (List ℕ)) (output output_now : ℕ) (r : Result Unit Stop) → Tells old new text r → MatchResult r (λ _. output_now ≡ output) (OutputCounts output output_now) → IfErr r (IsShowStop before now seen output output_now)
  show_caused before now seen output output_now (Ok done) told counts = tt
  show_caused before now seen output output_now (Err stops.Write) told counts = counts
  show_caused before now seen output output_now (Err stops.NoMemory) told counts = tt
  show_caused before now seen output output_now (Err stops.Disk) told counts = absurd told
  show_caused before now seen output output_now (Err stops.Register) told counts = absurd told
  show_caused before now seen output output_now (Err (stops.BadFrame fault)) told counts = absurd told
  show_caused before now seen output output_now (Err (stops.Damaged which place)) told counts = absurd told
  show_caused before now seen output output_now (Err stops.Blank) told counts = absurd told
  show_caused before now seen output output_now (Err (stops.Full which)) told counts = absurd told
  show_caused before now seen output output_now (Err stops.SwapLimit) told counts = absurd told

-- a stop of a load is one of a call that shows
pub load_shown : (before now : ℕ) (seen : Option (List ℕ)) (output output_now : ℕ) (stop : Stop) → IsLoadStop before now seen stop → IsShowStop before now seen output output_now stop
load_shown before now seen output output_now stops.NoMemory is = is
load_shown before now seen output output_now stops.Disk is = is
load_shown before now seen output output_now stops.Register is = is
load_shown before now seen output output_now stops.Write is = absurd is
load_shown before now seen output output_now (stops.BadFrame fault) is = is
load_shown before now seen output output_now (stops.Damaged which place) is = is
load_shown before now seen output output_now stops.Blank is = is
load_shown before now seen output output_now (stops.Full which) is = is
load_shown before now seen output output_now stops.SwapLimit is = is

-- no output fails in a load
pub load_output : (before now : ℕ) (seen : Option (List ℕ)) (output : ℕ) (stop : Stop) → IsLoadStop before now seen stop → OutputCounts output output stop
load_output before now seen output stops.NoMemory is = refl
load_output before now seen output stops.Disk is = refl
load_output before now seen output stops.Register is = refl
load_output before now seen output stops.Write is = absurd is
load_output before now seen output (stops.BadFrame fault) is = refl
load_output before now seen output (stops.Damaged which place) is = refl
load_output before now seen output stops.Blank is = refl
load_output before now seen output (stops.Full which) is = refl
load_output before now seen output stops.SwapLimit is = refl
