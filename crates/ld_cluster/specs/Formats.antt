-- What a format writes.
use Rattle.std.specs.Prelude.{ℕ, ◌≡◌, ◌==◌, List, [], ◌∷◌, ◌++◌, if◌then◌else◌}
use Rattle.ld_transcript.specs.declared.line.Line.{Line}
use Rattle.ld_transcript.specs.declared.line.Line.TheVariants as lines
use Rattle.ld_config.specs.declared.config.Config.{Config}
use Rattle.ld_msg.specs.Register.{Register, generation_of, epochs_in}
use Rattle.ld_register.specs.declared.fault.RegisterFault.{RegisterFault}
use Rattle.ld_register.specs.declared.fault.RegisterFault.TheVariants as faults
use Rattle.ld_ids.specs.declared.set.Spec.{Spec}
use Rattle.ld_register.specs.declared.register.Drawn.{Drawn}
use Rattle.ld_machine.specs.Step.{format_lines, kept_lines, lost_line}
use Rattle.ld_host.specs.Done.{shown_kept}
use Rattle.ld_host.specs.declared.kept.Formatted.{Formatted}
use Rattle.ld_host.specs.declared.kept.Formatted.TheVariants as formats

-- of the register's refusals the end of the generations has a line of its own
abbrev pub refused_line : ℕ → RegisterFault → Line
refused_line n faults.GenLimit = lines.NodeRefusedGenLimit n
refused_line n _ = lines.NodeRefusedRegister n

-- what was drawn is what this register holds
abbrev pub Draws : ℕ → Register → Formatted → Type 0
Draws n r (formats.Done d) = (d.gen_ ≡ generation_of r n) × (d.epochs ≡ epochs_in r.logs)
Draws n r _ = Unit {0}

-- the epoch of a log among these, 0 where it has none
abbrev pub epoch_among : ℕ → List (ℕ × ℕ) → ℕ
epoch_among l [] = 0
epoch_among l (e ∷ es) = if e.0 == l then e.1 else epoch_among l es

abbrev pub lost_among : ℕ → List (ℕ × ℕ) → List Spec → List Line
lost_among n es [] = []
lost_among n es (p ∷ ps) = lost_line n (epoch_among p.log es) p ++ lost_among n es ps

-- the lines of a format under what was drawn
abbrev pub drawn_lines : Config → ℕ → Drawn → List Line
drawn_lines c n d = lines.NodeFormatted n d.gen_ ∷ lost_among n d.epochs c.logs

abbrev pub told_of : Config → ℕ → Formatted → List Line
told_of c n (formats.NotLoaded k) = kept_lines n [] (shown_kept k)
told_of c n (formats.Refused f) = refused_line n f ∷ []
told_of c n (formats.NotKept k) = kept_lines n [] (shown_kept k)
told_of c n (formats.Done d) = drawn_lines c n d

-- the lines of a format that left the register so
abbrev pub told_by : Config → ℕ → Register → Formatted → List Line
told_by c n r (formats.Done d) = format_lines c n r
told_by c n r (formats.NotLoaded k) = kept_lines n [] (shown_kept k)
told_by c n r (formats.Refused f) = refused_line n f ∷ []
told_by c n r (formats.NotKept k) = kept_lines n [] (shown_kept k)
