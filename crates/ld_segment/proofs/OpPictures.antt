-- Of a fault in an op's calls, that call and the pictures of the crashes since then decide what a load finds.
use Rattle.std.proofs.Common.{◌≡◌, refl, ℕ, zero, suc, ◌+◌, ◌≤◌, ◌==◌, ◌||◌, not, nat_le, List, [], ◌∷◌, ◌++◌, Option, None, Some, Bool, true, false, cond, sym, ◌∙◌, ap, subst, arith}
use Rattle.ld_disk.specs.Plain.{Plain as DiskPlain, Call, IsTold, after_calls}
use Rattle.ld_disk.specs.declared.disk.Picture.{Picture}
use Rattle.ld_disk.proofs.Overwrites.{torn_whole}
use Rattle.ld_journal.specs.Format.{append_calls}
use Rattle.ld_journal.specs.Pictures.{IsSafe, crashed_by}
use Rattle.ld_msg.specs.Register.{record_length}
use Rattle.ld_op.specs.declared.op.Op.{Op}
use Rattle.ld_op.specs.declared.record.Record.TheVariants.{Now}
use Rattle.ld_op.specs.Plain.{Plain, apply, op_length}
use Rattle.ld_op.specs.Bytes.{op_bytes}
use Rattle.ld_op.specs.Cells.{read_plain}
use Rattle.ld_layout.specs.Layout.{Layout, Segment, kind_of, switches, switched_to, switch_calls, laid_for, kept_in}
use Rattle.ld_segment.specs.Left.{Switching, safe_calls, based, named, laid_out}
use Rattle.ld_segment.specs.Slots.{head_bytes}
use Rattle.ld_segment.specs.Lies.{Slots, LiesAs, IsSound, MayKeep, written, gate_in, segment_for, first_slots, first_switch, next_switch, switch_row, slots_after, switched_bytes, calls_by, op_row, switching, gate_shows, layout_left, plain_left}
use Rattle.ld_segment.proofs.Pictures.{reads_as, told, crashed_reads, past_safe, past_both}
use Rattle.ld_segment.proofs.Bodies.{record_long}
use Rattle.ld_segment.proofs.Kept.{Left}
use Rattle.ld_segment.proofs.Switched as switched
use Rattle.ld_segment.proofs.OpRow as row
use Rattle.ld_segment.proofs.Decides.{Choose, never_shows, early_cut, twice_cut, gate_cut, record_cut, past_record}

abbrev Has : Plain → Layout → List ℕ → Type 0
Has p y c = (w : Slots) × Left p y w c

-- ---- what is chosen ----

-- of the layout as it was, the new one and that with the record
abbrev Chosen : ℕ → ℕ → Option Picture → List Picture → (List ℕ → Type 0) → (List ℕ → Type 0) → (List ℕ → Type 0) → List ℕ → Type 0
Chosen calls call how later old new kept c = Choose (gate_shows (calls + 4) call how later) (Choose (not (nat_le call calls) || gate_shows calls call how later) old new) kept c

-- in a switch: its last gate decides
low : (calls call : ℕ) (how : Option Picture) (later : List Picture) (old new kept : List ℕ → Type 0) (c : List ℕ) → (call == calls + 4) ≡ false → (call + 1 == calls + 4) ≡ false → nat_le call calls ≡ true
    → Choose (gate_shows calls call how later) old new c → Chosen calls call how later old new kept c
low calls call how later old new kept c this next within left =
    subst (λ t. Choose t (Choose (not (nat_le call calls) || gate_shows calls call how later) old new) kept c) (sym (never_shows (calls + 4) call how later this next))
    (subst (λ t. Choose (not t || gate_shows calls call how later) old new c) (sym within) left)

-- before that gate is written
lower : (calls call : ℕ) (how : Option Picture) (later : List Picture) (old new kept : List ℕ → Type 0) (c : List ℕ) → (call == calls + 4) ≡ false → (call + 1 == calls + 4) ≡ false → nat_le call calls ≡ true
    → (call == calls) ≡ false → (call + 1 == calls) ≡ false → old c → Chosen calls call how later old new kept c
lower calls call how later old new kept c this next within not_this not_next left =
    low calls call how later old new kept c this next within (subst (λ t. Choose t old new c) (sym (never_shows calls call how later not_this not_next)) left)

-- behind a switch: the record's gate does
high : (calls call : ℕ) (how : Option Picture) (later : List Picture) (old new kept : List ℕ → Type 0) (c : List ℕ) → nat_le call calls ≡ false
    → Choose (gate_shows (calls + 4) call how later) new kept c → Chosen calls call how later old new kept c
high calls call how later old new kept c past left = by (gate_shows (calls + 4) call how later) left
  where
    by : (t : Bool) → Choose t new kept c → Choose t (Choose (not (nat_le call calls) || gate_shows calls call how later) old new) kept c
    by true there = there
    by false there = subst (λ t. Choose (not t || gate_shows calls call how later) old new c) (sym past) there

-- where there is no switch, the new one is as it was
same_new : (calls call : ℕ) (how : Option Picture) (later : List Picture) (old kept : List ℕ → Type 0) (c : List ℕ) → Choose (gate_shows (calls + 4) call how later) old kept c → Chosen calls call how later old old kept c
same_new calls call how later old kept c left = by (gate_shows (calls + 4) call how later) (not (nat_le call calls) || gate_shows calls call how later) left
  where
    by : (t u : Bool) → Choose t old kept c → Choose t (Choose u old old) kept c
    by true u there = there
    by false true there = there
    by false false there = there

chosen : (p q : Plain) (old new kept : Layout) (c : List ℕ) (t u : Bool) → Choose t (Choose u (Has p old) (Has p new)) (Has q kept) c → (w : Slots) × Left (cond t q p) (cond t kept (cond u new old)) w c
chosen p q old new kept c true u left = left
chosen p q old new kept c false true left = left
chosen p q old new kept c false false left = left

module _ (y : Layout) (z : Slots) (b : List ℕ) (o : Op) (lies : LiesAs (written y) y z b) (sound : IsSound y) (may : MayKeep y o) where
  abbrev n : ℕ
  n = op_length o

  abbrev body : List ℕ
  body = op_bytes o

  abbrev p : Plain
  p = read_plain b y.index

  abbrev q : Plain
  q = apply p o

  abbrev Old : List ℕ → Type 0
  Old = Has p y

  abbrev Kept : List ℕ → Type 0
  Kept = Has q (kept_in y o)

  -- ---- in the current segment ----

  module _ (goes : switches y n ≡ false) where
    here_cut : (call : ℕ) (how : Option Picture) (later : List Picture) → 1 ≤ call → call ≤ 4 → Chosen 0 call how later Old Old Kept (reads_as later (after_calls (append_calls (gate_in y y.later) body) (told call how b)).state)
    here_cut call how later least most = same_new 0 call how later Old Kept (reads_as later (after_calls (append_calls (gate_in y y.later) body) (told call how b)).state)
        (record_cut (gate_in y y.later) body b Old Kept
        (λ c torn. (z, row.here_staged y z b o lies sound may goes c torn))
        (λ c torn shut. (z, row.here_shut y z b o lies sound may goes c torn shut))
        (z, row.here_there y z b o lies sound may goes)
        [] call how later least most)

  -- ---- behind a switch ----

  module _ (is : switches y n ≡ true) where
    abbrev g : Segment
    g = segment_for y n

    abbrev new : Layout
    new = switched_to y (row.cause y z b o lies sound may is) 0

    abbrev New : List ℕ → Type 0
    New = Has p new

    record_part : (a : Option Segment) → y.later ≡ a → (call : ℕ) (how : Option Picture) (later : List Picture) → 1 ≤ call → call ≤ 4
        → Choose (gate_shows 4 call how later) New Kept (reads_as later (after_calls (append_calls g.end body) (told call how (switched_bytes (kind_of y) y z g a b))).state)
    record_part a e call how later least most =
        subst (λ t. Choose (gate_shows 4 call how later) New Kept (reads_as later (after_calls (append_calls g.end body) (told call how (switched_bytes (kind_of y) y z g t b))).state)) e
        (record_cut g.end body (switched_bytes (kind_of y) y z g y.later b) New Kept
        (λ c torn. (slots_after y z y.later, row.new_staged y z b o lies sound may is c torn))
        (λ c torn shut. (slots_after y z y.later, row.new_shut y z b o lies sound may is c torn shut))
        (slots_after y z y.later, row.new_there y z b o lies sound may is)
        [] call how later least most)

    -- the first switch
    module _ (e : y.later ≡ None) where
      abbrev head : List ℕ
      head = head_bytes (y.end + 15)

      abbrev laid : List ℕ
      laid = laid_out (first_switch (kind_of y) y g) b

      abbrev first_row : List Call
      first_row = switch_row (kind_of y) y z g None ++ append_calls g.end body

      slots_cut : (call : ℕ) (how : Option Picture) (later : List Picture) → 1 ≤ call → call ≤ 2 → Old (reads_as later (after_calls first_row (told call how b)).state)
      slots_cut call how later least most =
          early_cut (y.end + 15) (first_slots (kind_of y) y g) b Old (λ c torn. (z, switched.first_slots_torn (written y) (kind_of y) y z b lies sound (row.cause y z b o lies sound may is) (row.passes y z b o lies sound may is) (row.kind_is y z b o lies sound may is) (row.not_nine y z b o lies sound may is) (row.room_is y z b o lies sound may is) e c torn)) (append_calls y.end head ++ append_calls g.end body) call how later least most

      past_slots : (k : ℕ) (how : Option Picture) → after_calls first_row (told (suc (suc (suc k))) how b) ≡ after_calls (append_calls y.end head ++ append_calls g.end body) (told (suc k) how laid)
      past_slots k how = past_safe (y.end + 15) (first_slots (kind_of y) y g) (append_calls y.end head ++ append_calls g.end body) b k how

      head_cut : (k : ℕ) (how : Option Picture) (later : List Picture) → k ≤ 3 → Choose (gate_shows 4 (suc k) how later) Old New (reads_as later (after_calls first_row (told (suc (suc (suc k))) how b)).state)
      head_cut k how later most =
          subst (λ s. Choose (gate_shows 4 (suc k) how later) Old New (reads_as later s.state)) (sym (past_slots k how))
          (record_cut y.end head laid Old New
          (λ c torn. (z, switched.first_head_torn (written y) (kind_of y) y z b lies sound (row.cause y z b o lies sound may is) (row.passes y z b o lies sound may is) (row.kind_is y z b o lies sound may is) (row.not_nine y z b o lies sound may is) (row.room_is y z b o lies sound may is) e c torn))
          (λ c torn shut. (z, switched.first_head_shut (written y) (kind_of y) y z b lies sound (row.cause y z b o lies sound may is) (row.passes y z b o lies sound may is) (row.kind_is y z b o lies sound may is) (row.not_nine y z b o lies sound may is) (row.room_is y z b o lies sound may is) e c torn shut))
          (slots_after y z None, row.first_done y z b o lies sound may is e)
          (append_calls g.end body) (suc k) how later (omega arith) (omega arith))

      past_head : (k : ℕ) (how : Option Picture) → after_calls first_row (told (suc (suc (suc (suc (suc (suc (suc k))))))) how b) ≡ after_calls (append_calls g.end body) (told (suc k) how (switched_bytes (kind_of y) y z g None b))
      past_head k how = past_slots (suc (suc (suc (suc k)))) how ∙ past_record y.end head laid Old New
          (λ c torn. (z, switched.first_head_torn (written y) (kind_of y) y z b lies sound (row.cause y z b o lies sound may is) (row.passes y z b o lies sound may is) (row.kind_is y z b o lies sound may is) (row.not_nine y z b o lies sound may is) (row.room_is y z b o lies sound may is) e c torn))
          (λ c torn shut. (z, switched.first_head_shut (written y) (kind_of y) y z b lies sound (row.cause y z b o lies sound may is) (row.passes y z b o lies sound may is) (row.kind_is y z b o lies sound may is) (row.not_nine y z b o lies sound may is) (row.room_is y z b o lies sound may is) e c torn shut))
          (slots_after y z None, row.first_done y z b o lies sound may is e)
          (append_calls g.end body) k how

      body_cut : (k : ℕ) (how : Option Picture) (later : List Picture) → k ≤ 3 → Choose (gate_shows 4 (suc k) how later) New Kept (reads_as later (after_calls first_row (told (suc (suc (suc (suc (suc (suc (suc k))))))) how b)).state)
      body_cut k how later most = subst (λ s. Choose (gate_shows 4 (suc k) how later) New Kept (reads_as later s.state)) (sym (past_head k how)) (record_part None e (suc k) how later (omega arith) (omega arith))

      first_cut : (call : ℕ) (how : Option Picture) (later : List Picture) → 1 ≤ call → call ≤ 10 → Chosen 6 call how later Old New Kept (reads_as later (after_calls first_row (told call how b)).state)
      first_cut zero how later least most = absurd (omega (arith, least))
      first_cut (suc zero) how later least most = lower 6 1 how later Old New Kept _ refl refl refl refl refl (slots_cut 1 how later (omega arith) (omega arith))
      first_cut (suc (suc zero)) how later least most = lower 6 2 how later Old New Kept _ refl refl refl refl refl (slots_cut 2 how later (omega arith) (omega arith))
      first_cut (suc (suc (suc zero))) how later least most = low 6 3 how later Old New Kept _ refl refl refl (head_cut 0 how later (omega arith))
      first_cut (suc (suc (suc (suc zero)))) how later least most = low 6 4 how later Old New Kept _ refl refl refl (head_cut 1 how later (omega arith))
      first_cut (suc (suc (suc (suc (suc zero))))) how later least most = low 6 5 how later Old New Kept _ refl refl refl (head_cut 2 how later (omega arith))
      first_cut (suc (suc (suc (suc (suc (suc zero)))))) how later least most = low 6 6 how later Old New Kept _ refl refl refl (head_cut 3 how later (omega arith))
      first_cut (suc (suc (suc (suc (suc (suc (suc zero))))))) how later least most = high 6 7 how later Old New Kept _ refl (body_cut 0 how later (omega arith))
      first_cut (suc (suc (suc (suc (suc (suc (suc (suc zero)))))))) how later least most = high 6 8 how later Old New Kept _ refl (body_cut 1 how later (omega arith))
      first_cut (suc (suc (suc (suc (suc (suc (suc (suc (suc zero))))))))) how later least most = high 6 9 how later Old New Kept _ refl (body_cut 2 how later (omega arith))
      first_cut (suc (suc (suc (suc (suc (suc (suc (suc (suc (suc zero)))))))))) how later least most = high 6 10 how later Old New Kept _ refl (body_cut 3 how later (omega arith))
      first_cut (suc (suc (suc (suc (suc (suc (suc (suc (suc (suc (suc k))))))))))) how later least most = absurd (omega (arith, most))

    -- a later one
    module _ (s : Segment) (e : y.later ≡ Some s) where
      abbrev w : Switching
      w = next_switch (kind_of y) y z g

      abbrev gates : List Call
      gates = safe_calls w.slot_at (1 ∷ []) ++ append_calls g.end body

      abbrev later_row : List Call
      later_row = switch_row (kind_of y) y z g (Some s) ++ append_calls g.end body

      base_cut : (call : ℕ) (how : Option Picture) (later : List Picture) → 1 ≤ call → call ≤ 3 → Old (reads_as later (after_calls later_row (told call how b)).state)
      base_cut call how later least most =
          twice_cut w.base_at w.base w.slot_at w.shut b Old (λ c torn. switched.later_base_torn (written y) (kind_of y) y z b lies sound (row.cause y z b o lies sound may is) (row.passes y z b o lies sound may is) (row.kind_is y z b o lies sound may is) (row.not_nine y z b o lies sound may is) (row.room_is y z b o lies sound may is) s e c torn) (safe_calls (w.slot_at + 1) w.says ++ gates) call how later least most

      past_base : (k : ℕ) (how : Option Picture) → after_calls later_row (told (suc (suc (suc (suc k)))) how b) ≡ after_calls (safe_calls (w.slot_at + 1) w.says ++ gates) (told (suc k) how (based w b))
      past_base k how = past_both w.base_at w.base w.slot_at w.shut (safe_calls (w.slot_at + 1) w.says ++ gates) b k how

      says_cut : (k : ℕ) (how : Option Picture) (later : List Picture) → k ≤ 1 → Old (reads_as later (after_calls later_row (told (suc (suc (suc (suc k)))) how b)).state)
      says_cut k how later most = subst (λ t. Old (reads_as later t.state)) (sym (past_base k how))
          (early_cut (w.slot_at + 1) w.says (based w b) Old (λ c torn. switched.later_says_torn (written y) (kind_of y) y z b lies sound (row.cause y z b o lies sound may is) (row.passes y z b o lies sound may is) (row.kind_is y z b o lies sound may is) (row.not_nine y z b o lies sound may is) (row.room_is y z b o lies sound may is) s e c torn) gates (suc k) how later (omega arith) (omega arith))

      past_says : (k : ℕ) (how : Option Picture) → after_calls later_row (told (suc (suc (suc (suc (suc (suc k)))))) how b) ≡ after_calls gates (told (suc k) how (named w b))
      past_says k how = past_base (suc (suc k)) how ∙ past_safe (w.slot_at + 1) w.says gates (based w b) k how

      open_cut : (k : ℕ) (how : Option Picture) (later : List Picture) → k ≤ 1 → Choose (gate_shows 2 (suc k) how later) Old New (reads_as later (after_calls later_row (told (suc (suc (suc (suc (suc (suc k)))))) how b)).state)
      open_cut k how later most = subst (λ t. Choose (gate_shows 2 (suc k) how later) Old New (reads_as later t.state)) (sym (past_says k how))
          (gate_cut w.slot_at (named w b) Old New
          (switched.later_says_torn (written y) (kind_of y) y z b lies sound (row.cause y z b o lies sound may is) (row.passes y z b o lies sound may is) (row.kind_is y z b o lies sound may is) (row.not_nine y z b o lies sound may is) (row.room_is y z b o lies sound may is) s e (named w b) (torn_whole (w.slot_at + 1) w.says (based w b)))
          (λ c torn shut. switched.later_shut (written y) (kind_of y) y z b lies sound (row.cause y z b o lies sound may is) (row.passes y z b o lies sound may is) (row.kind_is y z b o lies sound may is) (row.not_nine y z b o lies sound may is) (row.room_is y z b o lies sound may is) s e c torn shut)
          (slots_after y z (Some s), row.later_done y z b o lies sound may is s e)
          (append_calls g.end body) (suc k) how later (omega arith) (omega arith))

      past_gate : (k : ℕ) (how : Option Picture) → after_calls later_row (told (suc (suc (suc (suc (suc (suc (suc (suc k)))))))) how b) ≡ after_calls (append_calls g.end body) (told (suc k) how (switched_bytes (kind_of y) y z g (Some s) b))
      past_gate k how = past_says (suc (suc k)) how ∙ past_safe w.slot_at (1 ∷ []) (append_calls g.end body) (named w b) k how

      late_cut : (k : ℕ) (how : Option Picture) (later : List Picture) → k ≤ 3 → Choose (gate_shows 4 (suc k) how later) New Kept (reads_as later (after_calls later_row (told (suc (suc (suc (suc (suc (suc (suc (suc k)))))))) how b)).state)
      late_cut k how later most = subst (λ t. Choose (gate_shows 4 (suc k) how later) New Kept (reads_as later t.state)) (sym (past_gate k how)) (record_part (Some s) e (suc k) how later (omega arith) (omega arith))

      later_cut : (call : ℕ) (how : Option Picture) (later : List Picture) → 1 ≤ call → call ≤ 11 → Chosen 7 call how later Old New Kept (reads_as later (after_calls later_row (told call how b)).state)
      later_cut zero how later least most = absurd (omega (arith, least))
      later_cut (suc zero) how later least most = lower 7 1 how later Old New Kept _ refl refl refl refl refl (base_cut 1 how later (omega arith) (omega arith))
      later_cut (suc (suc zero)) how later least most = lower 7 2 how later Old New Kept _ refl refl refl refl refl (base_cut 2 how later (omega arith) (omega arith))
      later_cut (suc (suc (suc zero))) how later least most = lower 7 3 how later Old New Kept _ refl refl refl refl refl (base_cut 3 how later (omega arith) (omega arith))
      later_cut (suc (suc (suc (suc zero)))) how later least most = lower 7 4 how later Old New Kept _ refl refl refl refl refl (says_cut 0 how later (omega arith))
      later_cut (suc (suc (suc (suc (suc zero))))) how later least most = lower 7 5 how later Old New Kept _ refl refl refl refl refl (says_cut 1 how later (omega arith))
      later_cut (suc (suc (suc (suc (suc (suc zero)))))) how later least most = low 7 6 how later Old New Kept _ refl refl refl (open_cut 0 how later (omega arith))
      later_cut (suc (suc (suc (suc (suc (suc (suc zero))))))) how later least most = low 7 7 how later Old New Kept _ refl refl refl (open_cut 1 how later (omega arith))
      later_cut (suc (suc (suc (suc (suc (suc (suc (suc zero)))))))) how later least most = high 7 8 how later Old New Kept _ refl (late_cut 0 how later (omega arith))
      later_cut (suc (suc (suc (suc (suc (suc (suc (suc (suc zero))))))))) how later least most = high 7 9 how later Old New Kept _ refl (late_cut 1 how later (omega arith))
      later_cut (suc (suc (suc (suc (suc (suc (suc (suc (suc (suc zero)))))))))) how later least most = high 7 10 how later Old New Kept _ refl (late_cut 2 how later (omega arith))
      later_cut (suc (suc (suc (suc (suc (suc (suc (suc (suc (suc (suc zero))))))))))) how later least most = high 7 11 how later Old New Kept _ refl (late_cut 3 how later (omega arith))
      later_cut (suc (suc (suc (suc (suc (suc (suc (suc (suc (suc (suc (suc k)))))))))))) how later least most = absurd (omega (arith, most))

    -- either
    switch_cut : (call : ℕ) (how : Option Picture) (later : List Picture) → 1 ≤ call → call ≤ switch_calls y.later + 4
        → Chosen (switch_calls y.later) call how later Old New Kept (reads_as later (after_calls (switch_row (kind_of y) y z g y.later ++ append_calls g.end body) (told call how b)).state)
    switch_cut call how later least most = by y.later refl most
      where
        by : (a : Option Segment) → y.later ≡ a → call ≤ switch_calls a + 4 → Chosen (switch_calls a) call how later Old New Kept (reads_as later (after_calls (switch_row (kind_of y) y z g a ++ append_calls g.end body) (told call how b)).state)
        by None e few = first_cut e call how later least few
        by (Some s) e few = later_cut s e call how later least few

  -- ---- all calls ----

  abbrev Result : ℕ → Option Picture → List Picture → List ℕ → Type 0
  Result call how later c = (w : Slots) × Left (plain_left p y o call how later) (layout_left y o call how later) w c

  chosen_by : (calls call : ℕ) (how : Option Picture) (later : List Picture) (new : Layout) (c : List ℕ) → switching y o ≡ calls → laid_for y o 0 ≡ new → Chosen calls call how later Old (Has p new) Kept c → Result call how later c
  chosen_by calls call how later new c so_many laid left =
      subst (λ k. (w : Slots) × Left (cond (gate_shows (k + 4) call how later) q p) (cond (gate_shows (k + 4) call how later) (kept_in y o) (cond (not (nat_le call k) || gate_shows k call how later) (laid_for y o 0) y)) w c) (sym so_many)
      (subst (λ l. (w : Slots) × Left (cond (gate_shows (calls + 4) call how later) q p) (cond (gate_shows (calls + 4) call how later) (kept_in y o) (cond (not (nat_le call calls) || gate_shows calls call how later) l y)) w c) (sym laid)
      (chosen p q y new (kept_in y o) c (gate_shows (calls + 4) call how later) (not (nat_le call calls) || gate_shows calls call how later) left))

  result_by : (t : Bool) → switches y n ≡ t → (call : ℕ) (how : Option Picture) (later : List Picture) → 1 ≤ call → call ≤ switching y o + 4 → Result call how later (reads_as later (after_calls (calls_by (kind_of y) y z body n t) (told call how b)).state)
  result_by true is call how later least most =
      let so_many : switching y o ≡ switch_calls y.later = ap (λ t. cond t (switch_calls y.later) 0) is in
      let laid : laid_for y o 0 ≡ new is = ap (λ t. cond t (new is) y) is in
      chosen_by (switch_calls y.later) call how later (new is) _ so_many laid (switch_cut is call how later least (omega (arith, most, so_many)))
  result_by false goes call how later least most =
      let so_many : switching y o ≡ 0 = ap (λ t. cond t (switch_calls y.later) 0) goes in
      let laid : laid_for y o 0 ≡ y = ap (λ t. cond t (switched_to y (record_length n) 0) y) goes in
      chosen_by 0 call how later y _ so_many laid (here_cut goes call how later least (omega (arith, most, so_many)))

  pub decided : (call : ℕ) (how : Option Picture) (later : List Picture) (d : DiskPlain) → IsSafe b d.state → IsTold call how d → call ≤ switching y o + 4
      → Result call how later (crashed_by later (after_calls (op_row y z o) d).state).bytes
  decided call how later d safe is most =
      let same : told call how b ≡ d = λ i. record { state = sym safe i; armed = sym is.told i; crashed = sym is.stands i } in
      let calls : op_row y z o ≡ calls_by (kind_of y) y z body n (switches y n) = ap (λ m. calls_by (kind_of y) y z body m (switches y m)) (record_long (Now o)) in
      subst (λ t. Result call how later (crashed_by later (after_calls (op_row y z o) t).state).bytes) same
      (subst (λ l. Result call how later l) (sym (crashed_reads later (after_calls (op_row y z o) (told call how b)).state))
      (subst (λ cs. Result call how later (reads_as later (after_calls cs (told call how b)).state)) (sym calls) (result_by (switches y n) refl call how later is.counts most)))
