-- A row whose appends are all acknowledged has none left.
use Rattle.std.proofs.Common.{◌≡◌, ℕ, ◌+◌, Bool, true, false, ◌&&◌, List, [], ◌∷◌, length, map, drop, refl, ap, sym, ◌∙◌, ◌==◌, arith}
use Rattle.std.proofs.lemmas.Bool.{ne_eqb}
use Rattle.ld_ids.specs.declared.set.Spec.{Spec}
use Rattle.ld_lsn.specs.Number.{numbered}
use Rattle.ld_window.specs.Flags.{leading}
use Rattle.ld_appender.specs.Waiting.{Waiting, is_enough}
use Rattle.ld_sequencer.specs.Appends.{IsInStep, shown, carried, numbered_from, all_acked}
use Rattle.ld_sequencer.proofs.Rounds.{acked_is}

-- the flag behind the first ones isn't set
first_unset : (flags : List Bool) (b : Bool) (rest : List Bool) → drop (leading flags) flags ≡ b ∷ rest → b ≡ false
first_unset [] b rest h = absurd cc
first_unset (true ∷ flags) b rest h = first_unset flags b rest h
first_unset (false ∷ flags) b rest h = cc

pub none_or : (s : Spec) (epoch : ℕ) (flags : List Bool) (ws : List Waiting) → IsInStep s.r flags ws → (length ws == 0) ≡ all_acked s (shown s epoch flags ws).appends
none_or s epoch flags [] h = refl
none_or s epoch flags (w ∷ ws) h =
    let e = acked_is s w false h.waiting.0.factor (first_unset flags (is_enough w) (map is_enough ws) h.marks) in
    ne_eqb (length (w ∷ ws)) 0 (omega arith) ∙ sym (ap (λ b. b && all_acked s (numbered_from (numbered epoch (leading flags + 1) + 1) (carried ws))) e)
