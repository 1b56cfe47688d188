-- The first line of an input.
use Rattle.std.proofs.Common.{◌≡◌, ◌≤◌, inl, inr, ℕ, Bool, true, false, List, ◌++◌, length, sym, ◌∙◌, refl}
use Rattle.std.specs.Prelude.{Some, Ok, Err}
use Rattle.std.specs.Str.{IsUtf8, is_utf8}
use Rattle.std.proofs.lemmas.Str.{IsUtf8-from_is_utf8, is_utf8-from_IsUtf8}
use Rattle.serde_json.specs.Read.{read}
use Rattle.ld_lsn.specs.Text.{Lacks}
use Rattle.ld_config.specs.declared.config.Config.{Config}
use Rattle.ld_config.specs.declared.fault.ConfigFault.TheVariants.{NotJson, NoMemory}
use Rattle.ld_config.specs.Config.{config_of_text, OrNoMemory}
use Rattle.ld_cli.specs.Lines.{longest, ended}
use Rattle.ld_cli.specs.Schedule.{Says}
use Rattle.ld_cli.specs.NextEvent.{TakesConfig}

by_test : (b : Bool) (line : List ℕ) (config : Config) → is_utf8 line ≡ b → ((IsUtf8 line → ⊥) → OrNoMemory (Err NotJson) (Ok config)) → IsUtf8 line
by_test true line config e h = IsUtf8-from_is_utf8 line e
by_test false line config e h = elim (h (λ u. let x : true ≡ false = sym (is_utf8-from_IsUtf8 line u) ∙ e in cc)) [
  | inl answer ↦ (let x : Ok config ≡ Err NotJson = answer in cc)
  | inr memory ↦ (let x : Ok config ≡ Err NoMemory = memory in cc)
]

says : (line : List ℕ) (config : Config) → (IsUtf8 line → OrNoMemory (config_of_text (read line)) (Ok config)) → IsUtf8 line → Says line config
says line config text utf8 = elim (text utf8) [
  | inl answer ↦ (utf8, sym answer)
  | inr memory ↦ (let x : Ok config ≡ Err NoMemory = memory in cc)
]

-- a line that was read says its configuration
pub took : (old new line shown : List ℕ) (config : Config) → Lacks 10 line → length line ≤ longest → old ≡ ended line ++ new → shown ≡ line
    → (IsUtf8 shown → OrNoMemory (config_of_text (read shown)) (Ok config)) → ((IsUtf8 shown → ⊥) → OrNoMemory (Err NotJson) (Ok config))
    → TakesConfig (Some old) (Some new) config
took old new line shown config one short taken e text no_text =
    let said : Says shown config = says shown config text (by_test (is_utf8 shown) shown config refl no_text) in
    record { line = line; configures = record { short = short; one = one; says = rw (← e) said }; taken = taken }
