-- What each picture of a crash in an append represents.
use Rattle.std.proofs.Common.{◌≡◌, ◌≢◌, inl, inr, ℕ, zero, suc, ◌≤◌, Option, None, Some, false, refl, ◌+◌, ◌<◌, ◌^◌, ◌==◌, if◌then◌else◌, List, [], ◌∷◌, ◌++◌, length, drop, sym, ◌∙◌, ap, subst, arith}
use Rattle.std.proofs.lemmas.Bool.{cases_eq}
use Rattle.std.proofs.lemmas.Bool.Decides.{nat_tests}
use Rattle.ld_disk.specs.Images.{overwrite}
use Rattle.ld_disk.specs.Record.{State, state_of, made, painted, synced}
use Rattle.ld_disk.specs.Plain.{Plain, IsTold, fault_of, after_calls, all_made}
use Rattle.ld_disk.specs.declared.disk.Picture.{Picture}
use Rattle.ld_disk.specs.declared.disk.Picture.TheVariants as pictures
use Rattle.ld_disk.proofs.History.{made_is_torn}
use Rattle.ld_disk.proofs.Writes.{overwrite_at}
use Rattle.ld_journal.specs.Format.{records, Fits, IsJournal, behind, append_calls}
use Rattle.ld_journal.specs.Pictures.{shows_gate, is_there, IsSafe, crashed_by, appended}
use Rattle.ld_journal.proofs.Records.{opened, fits-push}
use Rattle.ld_journal.proofs.Crash.{torn_behind, written_behind}

-- what is read after crashes: the last one decides
abbrev reads_as : List Picture → State → List ℕ
reads_as [] s = s.bytes
reads_as (picture ∷ pictures) s = painted picture s.stable s.pending

record SameWrites (s t : State) : Type 0 where
  stable : s.stable ≡ t.stable
  pending : s.pending ≡ t.pending

crashed_keeps : (later : List Picture) (s : State) → SameWrites (crashed_by later s) s
crashed_keeps [] s = record { stable = refl; pending = refl }
crashed_keeps (picture ∷ pictures) s = let rest = crashed_keeps pictures s in record { stable = rest.stable; pending = rest.pending }

crashed_reads : (later : List Picture) (s : State) → (crashed_by later s).bytes ≡ reads_as later s
crashed_reads [] s = refl
crashed_reads (picture ∷ pictures) s = let rest = crashed_keeps pictures s in λ i. painted picture (rest.stable i) (rest.pending i)

module _ (bodies : List (List ℕ)) (body after : List ℕ) (gate place : ℕ) (shut : gate ≢ 1) (place_is : place ≡ length (records bodies)) (fits : Fits bodies) (short : length body < 2 ^ 32) where
  abbrev old : List ℕ
  old = records bodies ++ gate ∷ after

  abbrev rest : List ℕ
  rest = drop (length (behind body)) after

  -- the first write, torn
  pub early : (picture : Picture) → IsJournal bodies (made picture (place + 1, behind body) old)
  early picture = torn_behind bodies gate after place place_is shut fits (length (behind body)) _ (made_is_torn picture (place + 1, behind body) old)

  abbrev staged : List ℕ
  staged = overwrite (place + 1) (behind body) old

  staged_is : staged ≡ records bodies ++ gate ∷ (behind body ++ rest)
  staged_is = written_behind bodies gate after place place_is (behind body)

  closed : (g : ℕ) (c : List ℕ) → g ≢ 1 → c ≡ records bodies ++ g ∷ (behind body ++ rest) → IsJournal bodies c
  closed g c not_open is = record { gate = g; after = behind body ++ rest; bytes_are = is; shut = not_open; fits = fits }

  counted : (c : List ℕ) → c ≡ records bodies ++ 1 ∷ (behind body ++ rest) → IsJournal (bodies ++ body ∷ []) c
  counted c is = record { gate = 0; after = rest; bytes_are = is ∙ opened bodies body rest; shut = omega arith; fits = fits-push bodies body fits short }

  one_byte : (b : ℕ) → overwrite place (b ∷ []) staged ≡ records bodies ++ b ∷ (behind body ++ rest)
  one_byte b = ap (overwrite place (b ∷ [])) staged_is ∙ overwrite_at (records bodies) (gate ∷ (behind body ++ rest)) place place_is (b ∷ [])

  -- the gate's write, as a picture has it
  pub late : (picture : Picture) → IsJournal (if shows_gate picture then bodies ++ body ∷ [] else bodies) (made picture (place, 1 ∷ []) staged)
  late pictures.Old = closed gate staged shut staged_is
  late pictures.New = counted (overwrite place (1 ∷ []) staged) (one_byte 1)
  late (pictures.Byte b) = elim (cases_eq b 1) [
    | inl is ↦ let same : (if b == 1 then bodies ++ body ∷ [] else bodies) ≡ bodies ++ body ∷ [] = grind (arith, nat_tests) in
        subst (λ l. IsJournal l (overwrite place (b ∷ []) staged)) (sym same) (counted (overwrite place (b ∷ []) staged) (one_byte b ∙ ap (λ g. records bodies ++ g ∷ (behind body ++ rest)) is))
    | inr not ↦ let same : (if b == 1 then bodies ++ body ∷ [] else bodies) ≡ bodies = grind (arith, nat_tests) in
        subst (λ l. IsJournal l (overwrite place (b ∷ []) staged)) (sym same) (closed b (overwrite place (b ∷ []) staged) not (one_byte b))
  ]

  abbrev told : ℕ → Option Picture → Plain
  told call how = record { state = state_of old [] old; armed = Some (fault_of call how); crashed = false }

  abbrev left : ℕ → Option Picture → State
  left call how = (after_calls (append_calls place body) (told call how)).state

  decides : (call : ℕ) (how : Option Picture) (later : List Picture) → 1 ≤ call → call ≤ 4 → IsJournal (if is_there call how later then bodies ++ body ∷ [] else bodies) (reads_as later (left call how))
  decides zero how later least most = absurd (omega (arith, least))
  decides (suc zero) None [] least most = early pictures.Old
  decides (suc zero) None (p ∷ ps) least most = early pictures.Old
  decides (suc zero) (Some q) [] least most = early q
  decides (suc zero) (Some q) (p ∷ ps) least most = early p
  decides (suc (suc zero)) None [] least most = early pictures.New
  decides (suc (suc zero)) None (p ∷ ps) least most = early p
  decides (suc (suc zero)) (Some q) [] least most = early q
  decides (suc (suc zero)) (Some q) (p ∷ ps) least most = early p
  decides (suc (suc (suc zero))) None [] least most = early pictures.New
  decides (suc (suc (suc zero))) None (p ∷ ps) least most = early pictures.New
  decides (suc (suc (suc zero))) (Some q) [] least most = late q
  decides (suc (suc (suc zero))) (Some q) (p ∷ ps) least most = late p
  decides (suc (suc (suc (suc zero)))) None [] least most = late pictures.New
  decides (suc (suc (suc (suc zero)))) None (p ∷ ps) least most = late p
  decides (suc (suc (suc (suc zero)))) (Some q) [] least most = late q
  decides (suc (suc (suc (suc zero)))) (Some q) (p ∷ ps) least most = late p
  decides (suc (suc (suc (suc (suc k))))) how later least most = absurd (omega (arith, most))

  pub pictures_decide : (call : ℕ) (how : Option Picture) (later : List Picture) (p : Plain) → IsSafe old p.state → IsTold call how p → call ≤ 4
      → IsJournal (if is_there call how later then bodies ++ body ∷ [] else bodies) (crashed_by later (after_calls (append_calls place body) p).state).bytes
  pictures_decide call how later p safe is most =
      let same : told call how ≡ p = λ i. record { state = sym safe i; armed = sym is.told i; crashed = sym is.stands i } in
      subst (λ q. IsJournal (if is_there call how later then bodies ++ body ∷ [] else bodies) (crashed_by later (after_calls (append_calls place body) q).state).bytes) same
      (subst (λ bytes. IsJournal (if is_there call how later then bodies ++ body ∷ [] else bodies) bytes) (sym (crashed_reads later (left call how))) (decides call how later is.counts most))

-- crashes of a disk on which all is safe change nothing
pub safe_stays : (bytes : List ℕ) (later : List Picture) (s : State) → IsSafe bytes s → IsSafe bytes (crashed_by later s)
safe_stays bytes [] s safe = safe
safe_stays bytes (picture ∷ pictures) s safe = ap (synced (Some picture)) (safe_stays bytes pictures s safe)

pub append_safe : (place : ℕ) (body bytes : List ℕ) (s : State) → IsSafe bytes s → IsSafe (appended place body bytes) (all_made (append_calls place body) s)
append_safe place body bytes s safe = ap (all_made (append_calls place body)) safe
