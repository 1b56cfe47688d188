-- Rows of records at offsets of a disk: what writes elsewhere leave of them, and what a record more does.
use Rattle.std.proofs.Common.{◌≡◌, ◌≢◌, ◌⊎◌, min, inl, inr, ⊎_elim, ℕ, ◌+◌, ◌≤◌, ◌<◌, ◌^◌, List, [], ◌∷◌, ◌++◌, length, get_or, take, drop, sym, ◌∙◌, ap, subst, arith, length-append, append_assoc, take-append-drop}
use Rattle.std.proofs.lemmas.List.{take_at, drop_at, length-take-le, drop-drop}
use Rattle.std.specs.Int.{w32, to_be_bytes}
use Rattle.ld_disk.specs.Images.{overwrite, Torn}
use Rattle.ld_disk.proofs.Writes.{overwrite_at, torn_byte}
use Rattle.ld_journal.specs.Format.{records, IsJournal, IsWithOrWithout, behind}
use Rattle.ld_journal.proofs.Records.{opened, gate_decides, fits-push}
use Rattle.ld_segment.specs.Stays.{StaysOutside, StandsAt}
use Rattle.ld_segment.specs.Left.{staged, IsRecordTorn, IsFirstSwitchTorn}
use Rattle.ld_segment.proofs.Ranges.{stays_at, stands_on, torn_round, written_round, torn_far, written_far, stands_written, widened, stays_then}

-- the records and the gate behind them are all that counts
pub same_front : (bodies : List (List ℕ)) (bytes other : List ℕ) → IsJournal bodies bytes → take (length (records bodies) + 1) other ≡ take (length (records bodies) + 1) bytes → IsJournal bodies other
same_front bodies bytes other journal same =
    let n = length (records bodies) + 1 in
    let front = records bodies ++ journal.gate ∷ [] in
    let long : length front ≡ n = length-append (records bodies) (journal.gate ∷ []) in
    let split : bytes ≡ front ++ journal.after = journal.bytes_are ∙ sym (append_assoc (records bodies) (journal.gate ∷ []) journal.after) in
    let begins : take n other ≡ front = same ∙ ap (λ (l : List ℕ). take n l) split ∙ take_at front journal.after n long in
    record {
      gate = journal.gate;
      after = drop n other;
      bytes_are = sym (take-append-drop n other) ∙ ap (λ (l : List ℕ). l ++ drop n other) begins ∙ append_assoc (records bodies) (journal.gate ∷ []) (drop n other);
      shut = journal.shut;
      fits = journal.fits;
    }

-- a row of records that lies before a range or behind it
pub row_stays : (from to at : ℕ) (bodies : List (List ℕ)) (old new : List ℕ) → StaysOutside from to old new → (at + (length (records bodies) + 1) ≤ from) ⊎ (to ≤ at) → IsJournal bodies (drop at old) → IsJournal bodies (drop at new)
row_stays from to at bodies old new stays apart journal =
    same_front bodies (drop at old) (drop at new) journal (stays_at from to at (length (records bodies) + 1) old new stays apart)

pub length-behind : (body : List ℕ) → length (behind body) ≡ 5 + length body
length-behind body = omega (arith, length-append body (0 ∷ []))

-- the body stands behind its gate as soon as that is written
pub body_behind : (gate : ℕ) (body old : List ℕ) → (rest : List ℕ) × (drop (gate + 5) (staged gate body old) ≡ body ++ rest)
body_behind gate body old =
    let now = staged gate body old in
    let back = drop (length (behind body)) (drop (gate + 1) now) in
    let split : drop (gate + 1) now ≡ behind body ++ back = sym (take-append-drop (length (behind body)) (drop (gate + 1) now)) ∙ ap (λ (l : List ℕ). l ++ back) (stands_written (gate + 1) (behind body) old) in
    let step : gate + 1 + 4 ≡ gate + 5 = omega arith in (
      0 ∷ back,
      ap (λ (k : ℕ). drop k now) (sym step)
          ∙ sym (drop-drop 4 (gate + 1) now)
          ∙ ap (λ (l : List ℕ). drop 4 l) (split ∙ append_assoc (to_be_bytes w32 (length body) ++ body) (0 ∷ []) back),
    )

module _ (at : ℕ) (bodies : List (List ℕ)) (body old : List ℕ) (inside : at ≤ length old) (short : length body < 2 ^ 32) (journal : IsJournal bodies (drop at old)) where
  abbrev gate_at : ℕ
  gate_at = at + length (records bodies)

  abbrev front : List ℕ
  front = take at old ++ records bodies

  pub front_long : gate_at ≡ length front
  front_long = omega (arith, length-append (take at old) (records bodies), length-take-le at old inside)

  pub old_is : old ≡ front ++ journal.gate ∷ journal.after
  old_is = sym (take-append-drop at old) ∙ ap (λ (l : List ℕ). take at old ++ l) journal.bytes_are ∙ sym (append_assoc (take at old) (records bodies) (journal.gate ∷ journal.after))

  old_long : gate_at + 1 ≤ length old
  old_long = omega (arith, ap length old_is, length-append front (journal.gate ∷ journal.after), front_long)

  pub behind_front : (c : List ℕ) (gate : ℕ) (rest : List ℕ) → c ≡ front ++ gate ∷ rest → drop at c ≡ records bodies ++ gate ∷ rest
  behind_front c gate rest is =
      ap (λ (l : List ℕ). drop at l) (is ∙ append_assoc (take at old) (records bodies) (gate ∷ rest)) ∙ drop_at (take at old) (records bodies ++ gate ∷ rest) at (length-take-le at old inside)

  abbrev rest : List ℕ
  rest = drop (length (behind body)) journal.after

  staged_is : staged gate_at body old ≡ front ++ journal.gate ∷ (behind body ++ rest)
  staged_is =
      let wide = front ++ journal.gate ∷ [] in
      let long : gate_at + 1 ≡ length wide = omega (arith, length-append front (journal.gate ∷ []), front_long) in
      ap (λ (l : List ℕ). overwrite (gate_at + 1) (behind body) l) (old_is ∙ sym (append_assoc front (journal.gate ∷ []) journal.after))
      ∙ overwrite_at wide journal.after (gate_at + 1) long (behind body)
      ∙ append_assoc front (journal.gate ∷ []) (behind body ++ rest)

  staged_round : StaysOutside gate_at (gate_at + 6 + length body) old (staged gate_at body old)
  staged_round =
      widened (gate_at + 1) (gate_at + 1 + length (behind body)) gate_at (gate_at + 6 + length body) old (staged gate_at body old) (omega arith) (omega (arith, length-behind body))
      (written_round (gate_at + 1) (behind body) old old_long)

  -- what is staged doesn't count yet
  pub early : (c : List ℕ) → Torn (gate_at + 1) (length (behind body)) old c → IsJournal bodies (drop at c)
  early c torn = row_stays (gate_at + 1) (gate_at + 1 + length (behind body)) at bodies old c (torn_round (gate_at + 1) (length (behind body)) old c old_long torn) (inl (omega arith)) journal

  late : (c : List ℕ) → Torn gate_at 1 (staged gate_at body old) c → IsWithOrWithout bodies body (drop at c)
  late c torn =
      let one : c ≡ front ++ get_or c gate_at 0 ∷ (behind body ++ rest) = torn_byte front (behind body ++ rest) journal.gate gate_at front_long c (subst (λ l. Torn gate_at 1 l c) staged_is torn) in
      gate_decides bodies body rest (drop at c) (get_or c gate_at 0) journal.fits short (behind_front c (get_or c gate_at 0) (behind body ++ rest) one)

  -- behind a gate that isn't open, either
  pub shut_late : (c : List ℕ) → Torn gate_at 1 (staged gate_at body old) c → get_or c gate_at 0 ≢ 1 → IsJournal bodies (drop at c)
  shut_late c torn shut =
      let one : c ≡ front ++ get_or c gate_at 0 ∷ (behind body ++ rest) = torn_byte front (behind body ++ rest) journal.gate gate_at front_long c (subst (λ l. Torn gate_at 1 l c) staged_is torn) in
      record { gate = get_or c gate_at 0; after = behind body ++ rest; bytes_are = behind_front c (get_or c gate_at 0) (behind body ++ rest) one; shut = shut; fits = journal.fits }

  -- the row has the record or doesn't
  pub there_or_not : (c : List ℕ) → IsRecordTorn gate_at body old c → IsWithOrWithout bodies body (drop at c)
  there_or_not c torn = ⊎_elim (λ first. inl (early c first)) (λ second. late c second) torn

  -- and all stays round it
  pub round_it : (c : List ℕ) → IsRecordTorn gate_at body old c → StaysOutside gate_at (gate_at + 6 + length body) old c
  round_it c torn = ⊎_elim
      (λ first. widened (gate_at + 1) (gate_at + 1 + length (behind body)) gate_at (gate_at + 6 + length body) old c (omega arith) (omega (arith, length-behind body)) (torn_round (gate_at + 1) (length (behind body)) old c old_long first))
      (λ second. stays_then gate_at (gate_at + 6 + length body) old (staged gate_at body old) c staged_round
      (widened gate_at (gate_at + 1) gate_at (gate_at + 6 + length body) (staged gate_at body old) c (omega arith) (omega arith) (torn_round gate_at 1 (staged gate_at body old) c (omega (arith, old_long, staged_round.no_shorter)) second)))
      torn

  abbrev done : List ℕ
  done = overwrite gate_at (1 ∷ []) (staged gate_at body old)

  -- once all calls are made it is there
  pub is_there : IsJournal (bodies ++ body ∷ []) (drop at done)
  is_there =
      let whole : done ≡ front ++ 1 ∷ (behind body ++ rest) = ap (λ (l : List ℕ). overwrite gate_at (1 ∷ []) l) staged_is ∙ overwrite_at front (journal.gate ∷ (behind body ++ rest)) gate_at front_long (1 ∷ []) in
      record {
        gate = 0;
        after = rest;
        bytes_are = behind_front done 1 (behind body ++ rest) whole ∙ opened bodies body rest;
        shut = omega arith;
        fits = fits-push bodies body journal.fits short;
      }

  pub round_done : StaysOutside gate_at (gate_at + 6 + length body) old done
  round_done = stays_then gate_at (gate_at + 6 + length body) old (staged gate_at body old) done staged_round
      (widened gate_at (gate_at + 1) gate_at (gate_at + 6 + length body) (staged gate_at body old) done (omega arith) (omega arith) (written_round gate_at (1 ∷ []) (staged gate_at body old) (omega (arith, old_long, staged_round.no_shorter))))

-- ---- the first switch ----

-- the slots and the Base stand behind the shut gate of the first segment, or the head's record does, too
pub head_there_or_not : (bodies : List (List ℕ)) (head : List ℕ) (slots_at : ℕ) (slots old c : List ℕ) → length head < 2 ^ 32 → IsJournal bodies (drop 0 old) → length (records bodies) + 6 + length head ≤ slots_at
    → IsFirstSwitchTorn (record { gate_at = 0 + length (records bodies); slots_at = slots_at; slots = slots; head = head }) old c
    → IsJournal bodies (drop 0 c) ⊎ (IsJournal (bodies ++ head ∷ []) (drop 0 c) × StandsAt slots_at slots c)
head_there_or_not bodies head slots_at slots old c short journal far torn = ⊎_elim
    (λ first. inl (row_stays (min slots_at (length old)) (slots_at + length slots) 0 bodies old c (torn_far slots_at (length slots) old c first) (inl (row_within first)) journal))
    (λ later. both later)
    torn
  where
    long : length (records bodies) + 1 ≤ length old
    long = omega (arith, ap length journal.bytes_are, length-append (records bodies) (journal.gate ∷ journal.after))

    row_within : Torn slots_at (length slots) old c → 0 + (length (records bodies) + 1) ≤ min slots_at (length old)
    row_within first = omega (arith, long, far)

    laid : List ℕ
    laid = overwrite slots_at slots old

    laid_journal : IsJournal bodies (drop 0 laid)
    laid_journal = row_stays (min slots_at (length old)) (slots_at + length slots) 0 bodies old laid (written_far slots_at slots old) (inl (omega (arith, long, far))) journal

    both : IsRecordTorn (0 + length (records bodies)) head laid c → IsJournal bodies (drop 0 c) ⊎ (IsJournal (bodies ++ head ∷ []) (drop 0 c) × StandsAt slots_at slots c)
    both later =
        let round = round_it 0 bodies head laid (omega arith) short laid_journal c later in
        let stands = stands_on (0 + length (records bodies)) (0 + length (records bodies) + 6 + length head) slots_at slots laid c round (inr (omega (arith, far))) (stands_written slots_at slots old) in
        ⊎_elim (λ without. inl without) (λ with_it. inr (with_it, stands)) (there_or_not 0 bodies head laid (omega arith) short laid_journal c later)
