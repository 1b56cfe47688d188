-- A fault in a row of calls, by groups of calls that end in a sync.
use Rattle.std.proofs.Common.{◌≡◌, ℕ, zero, suc, ◌-◌, ◌≤◌, ◌==◌, Option, None, Some, false, refl, List, [], ◌∷◌, ◌++◌, ◌∙◌, arith}
use Rattle.std.proofs.lemmas.Bool.Decides.{nat_tests}
use Rattle.ld_disk.specs.Images.{overwrite}
use Rattle.ld_disk.specs.Record.{State, Write, state_of, made, painted}
use Rattle.ld_disk.specs.Plain.{Plain, Call, fault_of, after_calls, called}
use Rattle.ld_disk.specs.declared.disk.Picture.{Picture}
use Rattle.ld_journal.specs.Pictures.{crashed_by, seen_by}
use Rattle.ld_segment.specs.Left.{safe_calls, both_calls}

-- what is read after crashes: the last one decides
abbrev pub reads_as : List Picture → State → List ℕ
reads_as [] s = s.bytes
reads_as (picture ∷ pictures) s = painted picture s.stable s.pending

pub record SameWrites (s t : State) : Type 0 where
  stable : s.stable ≡ t.stable
  pending : s.pending ≡ t.pending

crashed_keeps : (later : List Picture) (s : State) → SameWrites (crashed_by later s) s
crashed_keeps [] s = record { stable = refl; pending = refl }
crashed_keeps (picture ∷ pictures) s = let rest = crashed_keeps pictures s in record { stable = rest.stable; pending = rest.pending }

pub crashed_reads : (later : List Picture) (s : State) → (crashed_by later s).bytes ≡ reads_as later s
crashed_reads [] s = refl
crashed_reads (picture ∷ pictures) s = let rest = crashed_keeps pictures s in λ i. painted picture (rest.stable i) (rest.pending i)

-- a disk on which all that is read is safe, told of a fault
abbrev pub told : ℕ → Option Picture → List ℕ → Plain
told call how b = record { state = state_of b [] b; armed = Some (fault_of call how); crashed = false }

-- told of a fault in a later call, whatever its contents
abbrev armed : ℕ → Option Picture → State → Plain
armed call how s = record { state = s; armed = Some (fault_of call how); crashed = false }

-- a call before the one with the fault is made
one_made : (call : Call) (calls : List Call) (s : State) (k : ℕ) (how : Option Picture) → after_calls (call ∷ calls) (armed (suc (suc k)) how s) ≡ after_calls calls (armed (suc k) how (called call None s))
one_made call calls s k how = later how (suc (suc k)) (let more : (suc (suc k) == 1) ≡ false = grind (arith, nat_tests) in more) (omega arith)
  where
    later : (how : Option Picture) (n : ℕ) → (n == 1) ≡ false → n - 1 ≡ suc k → after_calls (call ∷ calls) (armed n how s) ≡ after_calls calls (armed (suc k) how (called call None s))
    later None n more is = rw (more, is) refl
    later (Some q) n more is = rw (more, is) refl

-- a write as the pictures since have it, the newest first; as it was made, where there is none
abbrev pub shown : List Picture → Write → List ℕ → List ℕ
shown [] w b = overwrite w.0 w.1 b
shown (p ∷ ps) w b = made p w b

-- what a fault in a write and its sync leaves: a write that fails leaves all
abbrev pub safe_left : ℕ → Option Picture → List Picture → Write → List ℕ → List ℕ
safe_left (suc zero) None later w b = b
safe_left call how later w b = shown (seen_by how later) w b

module _ (at : ℕ) (bs : List ℕ) (ys : List Call) (b : List ℕ) where
  -- a fault in it: what follows isn't called
  pub safe_cut : (call : ℕ) (how : Option Picture) (later : List Picture) → 1 ≤ call → call ≤ 2
      → reads_as later (after_calls (safe_calls at bs ++ ys) (told call how b)).state ≡ safe_left call how later (at, bs) b
  safe_cut zero how later least most = absurd (omega (arith, least))
  safe_cut (suc zero) None [] least most = refl
  safe_cut (suc zero) None (p ∷ ps) least most = refl
  safe_cut (suc zero) (Some q) [] least most = refl
  safe_cut (suc zero) (Some q) (p ∷ ps) least most = refl
  safe_cut (suc (suc zero)) None [] least most = refl
  safe_cut (suc (suc zero)) None (p ∷ ps) least most = refl
  safe_cut (suc (suc zero)) (Some q) [] least most = refl
  safe_cut (suc (suc zero)) (Some q) (p ∷ ps) least most = refl
  safe_cut (suc (suc (suc k))) how later least most = absurd (omega (arith, most))

  -- a fault behind it: it is made, and safe
  pub past_safe : (k : ℕ) (how : Option Picture) → after_calls (safe_calls at bs ++ ys) (told (suc (suc (suc k))) how b) ≡ after_calls ys (told (suc k) how (overwrite at bs b))
  past_safe k how = one_made (Some (at, bs)) (None ∷ ys) (state_of b [] b) (suc k) how ∙ one_made None ys (called (Some (at, bs)) None (state_of b [] b)) k how

-- two writes as the pictures since have them
abbrev pub both_shown : List Picture → Write → Write → List ℕ → List ℕ
both_shown [] w v b = overwrite v.0 v.1 (overwrite w.0 w.1 b)
both_shown (p ∷ ps) w v b = made p v (made p w b)

abbrev pub both_left : ℕ → Option Picture → List Picture → Write → Write → List ℕ → List ℕ
both_left (suc zero) None later w v b = b
both_left (suc zero) (Some q) later w v b = shown (seen_by (Some q) later) w b
both_left (suc (suc zero)) None later w v b = shown later w b
both_left call how later w v b = both_shown (seen_by how later) w v b

module _ (at : ℕ) (bs : List ℕ) (at_2 : ℕ) (bs_2 : List ℕ) (ys : List Call) (b : List ℕ) where
  pub both_cut : (call : ℕ) (how : Option Picture) (later : List Picture) → 1 ≤ call → call ≤ 3
      → reads_as later (after_calls (both_calls at bs at_2 bs_2 ++ ys) (told call how b)).state ≡ both_left call how later (at, bs) (at_2, bs_2) b
  both_cut zero how later least most = absurd (omega (arith, least))
  both_cut (suc zero) None [] least most = refl
  both_cut (suc zero) None (p ∷ ps) least most = refl
  both_cut (suc zero) (Some q) [] least most = refl
  both_cut (suc zero) (Some q) (p ∷ ps) least most = refl
  both_cut (suc (suc zero)) None [] least most = refl
  both_cut (suc (suc zero)) None (p ∷ ps) least most = refl
  both_cut (suc (suc zero)) (Some q) [] least most = refl
  both_cut (suc (suc zero)) (Some q) (p ∷ ps) least most = refl
  both_cut (suc (suc (suc zero))) None [] least most = refl
  both_cut (suc (suc (suc zero))) None (p ∷ ps) least most = refl
  both_cut (suc (suc (suc zero))) (Some q) [] least most = refl
  both_cut (suc (suc (suc zero))) (Some q) (p ∷ ps) least most = refl
  both_cut (suc (suc (suc (suc k)))) how later least most = absurd (omega (arith, most))

  pub past_both : (k : ℕ) (how : Option Picture) → after_calls (both_calls at bs at_2 bs_2 ++ ys) (told (suc (suc (suc (suc k)))) how b) ≡ after_calls ys (told (suc k) how (overwrite at_2 bs_2 (overwrite at bs b)))
  past_both k how = one_made (Some (at, bs)) (Some (at_2, bs_2) ∷ None ∷ ys) (state_of b [] b) (suc (suc k)) how
      ∙ (one_made (Some (at_2, bs_2)) (None ∷ ys) (called (Some (at, bs)) None (state_of b [] b)) (suc k) how
      ∙ one_made None ys (called (Some (at_2, bs_2)) None (called (Some (at, bs)) None (state_of b [] b))) k how)
