-- Lines that are off, by what was taken of the input.
use Rattle.std.proofs.Common.{◌≡◌, ◌≢◌, inl, inr, ◌≤◌, ◌<◌, ◌+◌, ℕ, List, [], ◌∷◌, ◌++◌, length, refl, sym, ap, ◌∙◌, arith}
use Rattle.std.specs.Prelude.{Result, Ok, Err}
use Rattle.std.specs.Str.{IsUtf8}
use Rattle.std.proofs.lemmas.List.{append-nil, length-append}
use Rattle.serde_json.specs.Read.{read}
use Rattle.ld_lsn.specs.Text.{Lacks}
use Rattle.ld_schedule.specs.Grammar.{IsNamed, event_text}
use Rattle.ld_schedule.specs.Reading.{IsOff}
use Rattle.ld_config.specs.declared.config.Config.{Config}
use Rattle.ld_config.specs.declared.fault.ConfigFault.{ConfigFault}
use Rattle.ld_config.specs.declared.fault.ConfigFault.TheVariants.{NoMemory}
use Rattle.ld_config.specs.Config.{config_of_text, OrNoMemory}
use Rattle.ld_cli.specs.Lines.{longest, ended}
use Rattle.ld_cli.specs.Schedule.{Says, IsLong, IsCutLine, Begins, IsOffFirst, IsOffLater}

-- ---- what the bytes are ----

all_taken : (x line y : List ℕ) → x ≡ line ++ y → y ≡ [] → x ≡ line
all_taken x line y taken ends = taken ∙ ap (λ l. line ++ l) ends ∙ append-nil line

cut_line : (x line y : List ℕ) → Lacks 10 line → length line ≤ longest → x ≡ line ++ y → y ≡ [] → IsCutLine x (length line)
cut_line x line y one short taken ends =
    let whole = all_taken x line y taken ends in
    record { one = rw whole one; short = rw whole short; at = rw whole refl }

no_more : (x : List ℕ) → x ≡ [] → IsCutLine x 0
no_more x ends = record { one = rw ends tt; short = rw ends (omega arith); at = rw ends refl }

long_line : (x line y : List ℕ) → Lacks 10 line → length line ≡ longest + 1 → x ≡ line ++ y → IsLong x longest
long_line x line y one long taken = record { front = line; rest = y; splits = taken; long = long; one = one; at = refl }

begins_with : (x line y : List ℕ) → Lacks 10 line → length line ≤ longest → x ≡ ended line ++ y → Begins x line y
begins_with x line y one short taken = record { splits = taken; one = one; short = short }

some_of : (x front y : List ℕ) → x ≡ front ++ y → 1 ≤ length front → 1 ≤ length x
some_of x front y taken some = omega (arith, ap length taken, length-append front y)

some_line : (line : List ℕ) → 1 ≤ length (ended line)
some_line line = omega (arith, length-append line (10 ∷ []))

-- ---- the first line ----

pub first_ends : (x : List ℕ) → x ≡ [] → IsOffFirst x 0
first_ends x ends = inr (inl (no_more x ends))

pub first_cut : (x y line : List ℕ) → Lacks 10 line → length line ≤ longest → x ≡ line ++ y → y ≡ [] → IsOffFirst x (length line)
first_cut x y line one short taken ends = inr (inl (cut_line x line y one short taken ends))

pub first_long : (x y line : List ℕ) → Lacks 10 line → length line ≡ longest + 1 → x ≡ line ++ y → IsOffFirst x longest
first_long x y line one long taken = inl (long_line x line y one long taken)

-- what a refused text says
pub says_none : (line : List ℕ) (result : Result Config ConfigFault) (fault : ConfigFault) → (IsUtf8 line → OrNoMemory (config_of_text (read line)) result)
    → result ≡ Err fault → fault ≢ NoMemory → (config : Config) → Says line config → ⊥
says_none line result fault text failed other config says = elim (text says.0) [
  | inl answer ↦ (let e : Ok config ≡ Err fault = sym says.1 ∙ sym answer ∙ failed in cc)
  | inr memory ↦ (let e : Err fault ≡ Err NoMemory = sym failed ∙ memory in other (cc))
]

pub first_refused : (x y line shown : List ℕ) → Lacks 10 line → length line ≤ longest → x ≡ ended line ++ y → shown ≡ line
    → ((config : Config) → Says shown config → ⊥) → IsOffFirst x 0
first_refused x y line shown one short taken e off =
    inr (inr (record { line = line; rest = y; begins = begins_with x line y one short taken; off = λ config says. off config (rw e says); at = refl }))

-- ---- a later line ----

pub later_cut : (x y line : List ℕ) → Lacks 10 line → length line ≤ longest → 0 < length line → x ≡ line ++ y → y ≡ [] → IsOffLater x (length line)
later_cut x y line one short some taken ends = record { some = some_of x line y taken (omega (arith, some)); off = inr (inl (cut_line x line y one short taken ends)) }

pub later_long : (x y line : List ℕ) → Lacks 10 line → length line ≡ longest + 1 → x ≡ line ++ y → IsOffLater x longest
later_long x y line one long taken = record { some = some_of x line y taken (omega (arith, long)); off = inl (long_line x line y one long taken) }

pub later_bad : (x y line : List ℕ) (place : ℕ) → Lacks 10 line → length line ≤ longest → x ≡ ended line ++ y → IsOff IsNamed event_text line place → IsOffLater x place
later_bad x y line place one short taken off =
    record { some = some_of x (ended line) y taken (some_line line); off = inr (inr (record { line = line; rest = y; begins = begins_with x line y one short taken; off = off })) }
