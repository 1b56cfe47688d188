-- The call of a fault and the pictures of the crashes since then decide what a row of calls leaves.
use Rattle.std.proofs.Common.{◌≡◌, ◌≢◌, inl, inr, refl, ℕ, zero, suc, ◌+◌, ◌≤◌, ◌==◌, ◌&&◌, ◌||◌, List, [], ◌∷◌, ◌++◌, length, get_or, Option, None, Some, is_some, Bool, true, false, sym, ◌∙◌, ap, subst, arith}
use Rattle.std.proofs.lemmas.Bool.{cases_eq}
use Rattle.std.proofs.lemmas.Bool.Decides.{nat_tests}
use Rattle.ld_disk.specs.Images.{overwrite, Torn}
use Rattle.ld_disk.specs.Record.{Write, made}
use Rattle.ld_disk.specs.Plain.{Call, after_calls}
use Rattle.ld_disk.specs.declared.disk.Picture.{Picture}
use Rattle.ld_disk.specs.declared.disk.Picture.TheVariants as pictures
use Rattle.ld_disk.proofs.Overwrites.{torn_same, torn_whole}
use Rattle.ld_disk.proofs.History.{made_is_torn}
use Rattle.ld_journal.specs.Format.{append_calls, behind}
use Rattle.ld_journal.specs.Pictures.{shows_gate, gate_reads, seen_by}
use Rattle.ld_segment.specs.Left.{TornTwice, safe_calls, both_calls, staged}
use Rattle.ld_segment.specs.Lies.{with_body, gate_shows}
use Rattle.ld_segment.proofs.Pictures.{reads_as, told, shown, safe_left, both_shown, both_left, safe_cut, past_safe, both_cut}
use Rattle.ld_segment.proofs.Ranges.{stands_written}
use Rattle.ld_segment.proofs.Standing.{front_byte}

-- one of two
abbrev pub Choose : Bool → (List ℕ → Type 0) → (List ℕ → Type 0) → List ℕ → Type 0
Choose true without with_it c = with_it c
Choose false without with_it c = without c

-- a gate that is written by another call shows nothing
pub never_shows : (calls call : ℕ) (how : Option Picture) (later : List Picture) → (call == calls) ≡ false → (call + 1 == calls) ≡ false → gate_shows calls call how later ≡ false
never_shows calls call how later this next =
    (λ i. (this i || (is_some how && next i)) && gate_reads (seen_by how later)) ∙ by (is_some how) (gate_reads (seen_by how later))
  where
    by : (a b : Bool) → ((false || (a && false)) && b) ≡ false
    by true b = refl
    by false b = refl

-- ---- what a write and its sync leave ----

shown_torn : (pictures : List Picture) (w : Write) (b : List ℕ) → Torn w.0 (length w.1) b (shown pictures w b)
shown_torn [] w b = torn_whole w.0 w.1 b
shown_torn (q ∷ qs) w b = made_is_torn q w b

safe_torn : (call : ℕ) (how : Option Picture) (later : List Picture) (w : Write) (b : List ℕ) → Torn w.0 (length w.1) b (safe_left call how later w b)
safe_torn zero how later w b = shown_torn (seen_by how later) w b
safe_torn (suc zero) None later w b = torn_same w.0 (length w.1) b
safe_torn (suc zero) (Some q) later w b = shown_torn (seen_by (Some q) later) w b
safe_torn (suc (suc k)) how later w b = shown_torn (seen_by how later) w b

twice : (w v : Write) (b c d : List ℕ) → Torn w.0 (length w.1) b c → Torn v.0 (length v.1) c d → TornTwice w.0 (length w.1) v.0 (length v.1) b d
twice w v b c d first second = record { between = c; first = first; second = second }

both_shown_torn : (pictures : List Picture) (w v : Write) (b : List ℕ) → TornTwice w.0 (length w.1) v.0 (length v.1) b (both_shown pictures w v b)
both_shown_torn [] w v b = twice w v b (overwrite w.0 w.1 b) (overwrite v.0 v.1 (overwrite w.0 w.1 b)) (torn_whole w.0 w.1 b) (torn_whole v.0 v.1 (overwrite w.0 w.1 b))
both_shown_torn (q ∷ qs) w v b = twice w v b (made q w b) (made q v (made q w b)) (made_is_torn q w b) (made_is_torn q v (made q w b))

once : (w v : Write) (b c : List ℕ) → Torn w.0 (length w.1) b c → TornTwice w.0 (length w.1) v.0 (length v.1) b c
once w v b c first = twice w v b c c first (torn_same v.0 (length v.1) c)

both_torn : (call : ℕ) (how : Option Picture) (later : List Picture) (w v : Write) (b : List ℕ) → TornTwice w.0 (length w.1) v.0 (length v.1) b (both_left call how later w v b)
both_torn zero how later w v b = both_shown_torn (seen_by how later) w v b
both_torn (suc zero) None later w v b = once w v b b (torn_same w.0 (length w.1) b)
both_torn (suc zero) (Some q) later w v b = once w v b (shown (seen_by (Some q) later) w b) (shown_torn (seen_by (Some q) later) w b)
both_torn (suc (suc zero)) None later w v b = once w v b (shown later w b) (shown_torn later w b)
both_torn (suc (suc zero)) (Some q) later w v b = both_shown_torn (seen_by (Some q) later) w v b
both_torn (suc (suc (suc k))) how later w v b = both_shown_torn (seen_by how later) w v b

-- ---- a gate that is opened ----

one_there : (at byte : ℕ) (b : List ℕ) → get_or (overwrite at (byte ∷ []) b) at 0 ≡ byte
one_there at byte b = sym (front_byte at (overwrite at (byte ∷ []) b)) ∙ ap (λ l. get_or l 0 0) (stands_written at (byte ∷ []) b)

module _ (at : ℕ) (b : List ℕ) (A B : List ℕ → Type 0) (as_it_was : A b) (shut : (c : List ℕ) → Torn at 1 b c → get_or c at 0 ≢ 1 → A c) (open_gate : B (overwrite at (1 ∷ []) b)) where
  gate_picture : (q : Picture) → Choose (shows_gate q) A B (made q (at, 1 ∷ []) b)
  gate_picture pictures.Old = as_it_was
  gate_picture pictures.New = open_gate
  gate_picture (pictures.Byte x) = elim (cases_eq x 1) [
    | inl is ↦ let shows : (x == 1) ≡ true = grind (arith, nat_tests) in
        subst (λ t. Choose t A B (overwrite at (x ∷ []) b)) (sym shows) (subst (λ g. B (overwrite at (g ∷ []) b)) (sym is) open_gate)
    | inr other ↦ let hides : (x == 1) ≡ false = grind (arith, nat_tests) in
        subst (λ t. Choose t A B (overwrite at (x ∷ []) b)) (sym hides) (shut (overwrite at (x ∷ []) b) (torn_whole at (x ∷ []) b) (λ same. other (sym (one_there at x b) ∙ same)))
  ]

  gate_left : (call : ℕ) (how : Option Picture) (later : List Picture) → 1 ≤ call → call ≤ 2 → Choose (gate_shows 2 call how later) A B (safe_left call how later (at, 1 ∷ []) b)
  gate_left zero how later least most = absurd (omega (arith, least))
  gate_left (suc zero) None later least most = as_it_was
  gate_left (suc zero) (Some q) [] least most = gate_picture q
  gate_left (suc zero) (Some q) (p ∷ ps) least most = gate_picture p
  gate_left (suc (suc zero)) None [] least most = open_gate
  gate_left (suc (suc zero)) None (p ∷ ps) least most = gate_picture p
  gate_left (suc (suc zero)) (Some q) [] least most = gate_picture q
  gate_left (suc (suc zero)) (Some q) (p ∷ ps) least most = gate_picture p
  gate_left (suc (suc (suc k))) how later least most = absurd (omega (arith, most))

  -- a fault in its two calls
  pub gate_cut : (ys : List Call) (call : ℕ) (how : Option Picture) (later : List Picture) → 1 ≤ call → call ≤ 2 → Choose (gate_shows 2 call how later) A B (reads_as later (after_calls (safe_calls at (1 ∷ []) ++ ys) (told call how b)).state)
  gate_cut ys call how later least most = subst (λ c. Choose (gate_shows 2 call how later) A B c) (sym (safe_cut at (1 ∷ []) ys b call how later least most)) (gate_left call how later least most)

-- ---- a write that counts for nothing yet ----

module _ (at : ℕ) (bs b : List ℕ) (A : List ℕ → Type 0) (torn : (c : List ℕ) → Torn at (length bs) b c → A c) where
  pub early_cut : (ys : List Call) (call : ℕ) (how : Option Picture) (later : List Picture) → 1 ≤ call → call ≤ 2 → A (reads_as later (after_calls (safe_calls at bs ++ ys) (told call how b)).state)
  early_cut ys call how later least most = subst A (sym (safe_cut at bs ys b call how later least most)) (torn (safe_left call how later (at, bs) b) (safe_torn call how later (at, bs) b))

  -- once it is made
  pub early_made : A (overwrite at bs b)
  early_made = torn (overwrite at bs b) (torn_whole at bs b)

module _ (at : ℕ) (bs : List ℕ) (at_2 : ℕ) (bs_2 b : List ℕ) (A : List ℕ → Type 0) (torn : (c : List ℕ) → TornTwice at (length bs) at_2 (length bs_2) b c → A c) where
  pub twice_cut : (ys : List Call) (call : ℕ) (how : Option Picture) (later : List Picture) → 1 ≤ call → call ≤ 3 → A (reads_as later (after_calls (both_calls at bs at_2 bs_2 ++ ys) (told call how b)).state)
  twice_cut ys call how later least most = subst A (sym (both_cut at bs at_2 bs_2 ys b call how later least most)) (torn (both_left call how later (at, bs) (at_2, bs_2) b) (both_torn call how later (at, bs) (at_2, bs_2) b))

-- ---- a record ----

module _ (gate : ℕ) (body b : List ℕ) (A B : List ℕ → Type 0) (torn : (c : List ℕ) → Torn (gate + 1) (length (behind body)) b c → A c)
    (shut : (c : List ℕ) → Torn gate 1 (staged gate body b) c → get_or c gate 0 ≢ 1 → A c) (there : B (with_body gate body b)) where
  without : (calls call : ℕ) (how : Option Picture) (later : List Picture) (c : List ℕ) → (call == calls) ≡ false → (call + 1 == calls) ≡ false → A c → Choose (gate_shows calls call how later) A B c
  without calls call how later c this next left = subst (λ t. Choose t A B c) (sym (never_shows calls call how later this next)) left

  opened : (ys : List Call) (call : ℕ) (how : Option Picture) (later : List Picture) → 1 ≤ call → call ≤ 2
      → Choose (gate_shows 2 call how later) A B (reads_as later (after_calls (safe_calls gate (1 ∷ []) ++ ys) (told call how (staged gate body b))).state)
  opened ys call how later least most = gate_cut gate (staged gate body b) A B (early_made (gate + 1) (behind body) b A torn) shut there ys call how later least most

  behind_it : (ys : List Call) (k : ℕ) (how : Option Picture) → after_calls (append_calls gate body ++ ys) (told (suc (suc (suc k))) how b) ≡ after_calls (safe_calls gate (1 ∷ []) ++ ys) (told (suc k) how (staged gate body b))
  behind_it ys k how = past_safe (gate + 1) (behind body) (safe_calls gate (1 ∷ []) ++ ys) b k how

  pub record_cut : (ys : List Call) (call : ℕ) (how : Option Picture) (later : List Picture) → 1 ≤ call → call ≤ 4 → Choose (gate_shows 4 call how later) A B (reads_as later (after_calls (append_calls gate body ++ ys) (told call how b)).state)
  record_cut ys zero how later least most = absurd (omega (arith, least))
  record_cut ys (suc zero) how later least most = without 4 1 how later _ refl refl (early_cut (gate + 1) (behind body) b A torn (safe_calls gate (1 ∷ []) ++ ys) 1 how later (omega arith) (omega arith))
  record_cut ys (suc (suc zero)) how later least most = without 4 2 how later _ refl refl (early_cut (gate + 1) (behind body) b A torn (safe_calls gate (1 ∷ []) ++ ys) 2 how later (omega arith) (omega arith))
  record_cut ys (suc (suc (suc zero))) how later least most = subst (λ s. Choose (gate_shows 2 1 how later) A B (reads_as later s.state)) (sym (behind_it ys 0 how)) (opened ys 1 how later (omega arith) (omega arith))
  record_cut ys (suc (suc (suc (suc zero)))) how later least most = subst (λ s. Choose (gate_shows 2 2 how later) A B (reads_as later s.state)) (sym (behind_it ys 1 how)) (opened ys 2 how later (omega arith) (omega arith))
  record_cut ys (suc (suc (suc (suc (suc k))))) how later least most = absurd (omega (arith, most))

  pub past_record : (ys : List Call) (k : ℕ) (how : Option Picture) → after_calls (append_calls gate body ++ ys) (told (suc (suc (suc (suc (suc k))))) how b) ≡ after_calls ys (told (suc k) how (with_body gate body b))
  past_record ys k how = behind_it ys (suc (suc k)) how ∙ past_safe gate (1 ∷ []) ys (staged gate body b) k how
