-- Each item that a row of the table gives leaves fewer rows.
use Rattle.std.proofs.Common.{◌≡◌, ℕ, ◌+◌, ◌-◌, ◌/◌, ◌^◌, ◌<◌, ◌≤◌, List, [], ◌∷◌, Option, Some, None, Bool, true, false, refl, ap, sym, ◌∙◌, arith, inl, inr, nat_lt, nat_le}
use Rattle.std.specs.Prelude.{◌==◌, ◌&&◌, ◌||◌, if◌then◌else◌}
use Rattle.std.proofs.lemmas.Bool.{cases_Bool, cases_lt}
use Rattle.std.proofs.lemmas.Bool.Decides.{nat_tests}
use Rattle.ld_table.specs.Words.{any_of, or_else}
use Rattle.ld_lsn.specs.Number.{home_epoch, epoch_end, epoch_of, esn_of}
use Rattle.ld_msg.specs.declared.msg.What.{What}
use Rattle.ld_msg.specs.declared.msg.What.TheVariants.{Rec, Hole, Bridge, Plug, Withheld}
use Rattle.ld_msg.specs.declared.msg.Entry.{Entry}
use Rattle.ld_msg.specs.declared.msg.Body.{Body}
use Rattle.ld_msg.specs.declared.msg.Body.TheVariants as bodies
use Rattle.ld_msg.specs.Reading.{Held, Item, TrimTo, RecordHere, HoleHere, BridgeTo, LossHere, LossTo, Verdict, Gives, Confirms, AsksAll, NotYet, decide, trim_told, trim_held, record_held, hole_held, plug_held, withheld_held, end_shown, end_held, bridge_to, entry_at, page_at, record_of, is_hole, is_plug, entry_verdict, copy_verdict, end_verdict, loss_verdict, is_loss, within, lost_held}
use Rattle.ld_msg.specs.Reader.{item_end}
use Rattle.ld_reader.specs.Given.{entries_from, rows_of, rows_from}

-- a home epoch by one division
pub home_is : (v : ℕ) → home_epoch v ≡ (v - 1) / 2 ^ 32
home_is v = elim (cases_Bool (esn_of v == 0)) [
  | inl zero_esn ↦ elim (cases_Bool (nat_lt 0 (epoch_of v))) [
    | inl above ↦ grind (arith, nat_tests)
    | inr first ↦ grind (arith, nat_tests)
  ]
  | inr other ↦ grind (arith, nat_tests)
]

pub home_rises : (s t : ℕ) → s ≤ t → home_epoch s ≤ home_epoch t
home_rises s t h = omega (arith, home_is s, home_is t)

entries_fall : (s t : ℕ) (es : List Entry) → s ≤ t → entries_from t es ≤ entries_from s es
entries_fall s t [] h = omega arith
entries_fall s t (e ∷ es) h = let ih = entries_fall s t es h in grind (arith, nat_tests)

of_falls : (s t : ℕ) (b : Body) → s ≤ t → rows_of t b ≤ rows_of s b
of_falls s t (bodies.ReadPage round from upto clean es) h = entries_fall s t es h
of_falls s t (bodies.ReadTrim round from trim) h = grind (arith, nat_tests)
of_falls s t (bodies.ReadEnded round from end loss) h = let r = home_rises s t h in grind (arith, nat_tests)
of_falls s t _ h = omega arith

pub rows_fall : (s t : ℕ) (hs : List (ℕ × Held)) → s ≤ t → rows_from t hs ≤ rows_from s hs
rows_fall s t [] h = omega arith
rows_fall s t (x ∷ hs) h = omega (arith, of_falls s t x.1.body h, rows_fall s t hs h)

-- ---- trims ----

trim_falls_here : (s t : ℕ) (b : Body) → s ≤ t → trim_told b ≡ t → 0 < t → rows_of (t + 1) b < rows_of s b
trim_falls_here s t (bodies.ReadTrim round from trim) h e p = grind (arith, nat_tests)
trim_falls_here s t _ h e p = absurd (omega arith)

trim_falls : (s t : ℕ) (hs : List (ℕ × Held)) → s ≤ t → trim_held hs ≡ t → 0 < t → rows_from (t + 1) hs < rows_from s hs
trim_falls s t [] h e p = absurd (omega arith)
trim_falls s t (x ∷ hs) h e p = elim (cases_lt (trim_held hs) (trim_told x.1.body)) [
  | inl here ↦
      let told : trim_told x.1.body ≡ t = omega arith in
      omega (arith, trim_falls_here s t x.1.body h told p, rows_fall s (t + 1) hs (omega arith))
  | inr later ↦
      let told : trim_held hs ≡ t = omega arith in
      omega (arith, of_falls s (t + 1) x.1.body (omega arith), trim_falls s t hs h told p)
]

-- ---- entries ----

entry_falls : (s : ℕ) (es : List Entry) (w : What) → entry_at s es ≡ Some w → entries_from (s + 1) es < entries_from s es
entry_falls s [] w e = absurd cc
entry_falls s (x ∷ es) w e = elim (cases_Bool (x.number == s)) [
  | inl here ↦ let r = entries_fall s (s + 1) es (omega arith) in grind (arith, nat_tests)
  | inr other ↦ let later : entry_at s es ≡ Some w = rw other at e in let r = entry_falls s es w later in grind (arith, nat_tests)
]

page_falls : (s : ℕ) (b : Body) (w : What) → page_at s b ≡ Some w → rows_of (s + 1) b < rows_of s b
page_falls s (bodies.ReadPage round from upto clean es) w e = entry_falls s es w e
page_falls s _ w e = absurd cc

record_here : (o : Option What) (p : List ℕ) → record_of o ≡ Some p → o ≡ Some (Rec p)
record_here None p e = absurd cc
record_here (Some (Rec q)) p e = let same : q ≡ p = cc in ap (λ r. Some (Rec r)) same
record_here (Some Hole) p e = absurd cc
record_here (Some Bridge) p e = absurd cc
record_here (Some Plug) p e = absurd cc
record_here (Some Withheld) p e = absurd cc

-- where nothing doesn't pass a test, what passes it is an entry
entry_here : (test : Option What → Bool) → test None ≡ false → (o : Option What) → test o ≡ true → (w : What) × (o ≡ Some w)
entry_here test none None e = absurd (let wrong : true ≡ false = sym e ∙ none in cc)
entry_here test none (Some w) e = (w, refl)

record_falls : (s : ℕ) (hs : List (ℕ × Held)) (p : List ℕ) → record_held s hs ≡ Some p → rows_from (s + 1) hs < rows_from s hs
record_falls s [] p e = absurd cc
record_falls s (x ∷ hs) p e = elim (record_of (page_at s x.1.body)) as (λ o. record_of (page_at s x.1.body) ≡ o → or_else o (record_held s hs) ≡ Some p → rows_from (s + 1) (x ∷ hs) < rows_from s (x ∷ hs)) [
  | Some q ↦ λ here f. omega (arith, page_falls s x.1.body (Rec q) (record_here _ q here), rows_fall s (s + 1) hs (omega arith))
  | None ↦ λ here f. omega (arith, of_falls s (s + 1) x.1.body (omega arith), record_falls s hs p f)
] refl e

any_falls : (test : Option What → Bool) → test None ≡ false → (s : ℕ) (hs : List (ℕ × Held)) → any_of (λ h. test (page_at s h.1.body)) hs ≡ true → rows_from (s + 1) hs < rows_from s hs
any_falls test none s [] e = absurd cc
any_falls test none s (x ∷ hs) e = elim (test (page_at s x.1.body)) as (λ b. test (page_at s x.1.body) ≡ b → (b || any_of (λ h. test (page_at s h.1.body)) hs) ≡ true → rows_from (s + 1) (x ∷ hs) < rows_from s (x ∷ hs)) [
  | true ↦ λ here f. let w = entry_here test none (page_at s x.1.body) here in omega (arith, page_falls s x.1.body w.0 w.1, rows_fall s (s + 1) hs (omega arith))
  | false ↦ λ here f. omega (arith, of_falls s (s + 1) x.1.body (omega arith), any_falls test none s hs f)
] refl e

-- ---- ends ----

past_end : (s : ℕ) → home_epoch s < home_epoch (epoch_end (home_epoch s) + 1)
past_end s = omega (arith, home_is (epoch_end (home_epoch s) + 1))

pub below_end : (s : ℕ) → s ≤ epoch_end (home_epoch s)
below_end s = omega (arith, home_is s)

shown_if : (b loss l : Bool) → (if b then Some loss else None) ≡ Some l → b ≡ true
shown_if true loss l e = refl
shown_if false loss l e = absurd cc

ended_falls : (s : ℕ) (b : Body) (l : Bool) → end_shown s b ≡ Some l → rows_of (bridge_to s + 1) b < rows_of s b
ended_falls s (bodies.ReadEnded round from end loss) l e = let p = past_end s in let t = shown_if ((home_epoch end == home_epoch s) && nat_le end s) loss l e in grind (arith, nat_tests)
ended_falls s _ l e = absurd cc

end_falls : (s : ℕ) (hs : List (ℕ × Held)) (l : Bool) → end_held s hs ≡ Some l → rows_from (bridge_to s + 1) hs < rows_from s hs
end_falls s [] l e = absurd cc
end_falls s (x ∷ hs) l e = elim (end_shown s x.1.body) as (λ o. end_shown s x.1.body ≡ o → or_else o (end_held s hs) ≡ Some l → rows_from (bridge_to s + 1) (x ∷ hs) < rows_from s (x ∷ hs)) [
  | Some k ↦ λ here f. omega (arith, ended_falls s x.1.body k here, rows_fall s (bridge_to s + 1) hs (omega (arith, below_end s)))
  | None ↦ λ here f. omega (arith, of_falls s (bridge_to s + 1) x.1.body (omega (arith, below_end s)), end_falls s hs l f)
] refl e

-- ---- the table ----

by_entries : (s : ℕ) (hs : List (ℕ × Held)) (r : Option (List ℕ)) (h p : Bool) (other : Verdict) (i : Item) → record_held s hs ≡ r → hole_held s hs ≡ h → plug_held s hs ≡ p
    → (other ≡ Gives i → rows_from (item_end s i + 1) hs < rows_from s hs) → entry_verdict r h p other ≡ Gives i → rows_from (item_end s i + 1) hs < rows_from s hs
by_entries s hs (Some x) h p other i here hole plug rest e = let same : RecordHere x ≡ i = cc in rw (← same) (record_falls s hs x here)
by_entries s hs None true p other i here hole plug rest e = let same : HoleHere ≡ i = cc in rw (← same) (any_falls is_hole refl s hs hole)
by_entries s hs None false true other i here hole plug rest e = let same : LossHere ≡ i = cc in rw (← same) (any_falls is_plug refl s hs plug)
by_entries s hs None false false other i here hole plug rest e = rest e

-- nothing is given where all nodes are to be asked
pub by_copy : (P : Type 0) (w m : Bool) (other : Verdict) (i : Item) → (other ≡ Gives i → P) → copy_verdict w m other ≡ Gives i → P
by_copy P w m other i rest e = elim (w && m) as (λ b. (if b then AsksAll else other) ≡ Gives i → P) [
  | true ↦ λ f. absurd cc
  | false ↦ rest
] e

pub no_loss : (s : ℕ) (mc : Bool) (set : List ℕ) (hs : List (ℕ × Held)) (i : Item) → loss_verdict s mc set hs ≡ Gives i → ⊥
no_loss s mc set hs i e = elim (mc && is_loss s set hs) as (λ b. (if b then Confirms (lost_held s (within set hs)) else NotYet) ≡ Gives i → ⊥) [
  | true ↦ λ f. cc
  | false ↦ λ f. cc
] e

by_end : (s : ℕ) (mc : Bool) (set : List ℕ) (hs : List (ℕ × Held)) (o : Option Bool) (i : Item) → end_held s hs ≡ o → end_verdict s o (loss_verdict s mc set hs) ≡ Gives i → rows_from (item_end s i + 1) hs < rows_from s hs
by_end s mc set hs (Some true) i here e = let same : LossTo (bridge_to s) ≡ i = cc in rw (← same) (end_falls s hs true here)
by_end s mc set hs (Some false) i here e = let same : BridgeTo (bridge_to s) ≡ i = cc in rw (← same) (end_falls s hs false here)
by_end s mc set hs None i here e = absurd (no_loss s mc set hs i e)

by_trim : (s : ℕ) (mc : Bool) (set : List ℕ) (hs : List (ℕ × Held)) (b : Bool) (i : Item) (rest : Verdict) → nat_le s (trim_held hs) ≡ b → 0 < s
    → (rest ≡ Gives i → rows_from (item_end s i + 1) hs < rows_from s hs) → (if b then Gives (TrimTo (trim_held hs)) else rest) ≡ Gives i → rows_from (item_end s i + 1) hs < rows_from s hs
by_trim s mc set hs true i rest here p other e =
    let le : s ≤ trim_held hs = grind (arith, nat_tests) in
    let same : TrimTo (trim_held hs) ≡ i = cc in
    rw (← same) (trim_falls s (trim_held hs) hs le refl (omega arith))
by_trim s mc set hs false i rest here p other e = other e

pub table_falls : (s : ℕ) (m mc : Bool) (set : List ℕ) (hs : List (ℕ × Held)) (i : Item) → 0 < s → decide s m mc set hs ≡ Gives i → rows_from (item_end s i + 1) hs < rows_from s hs
unfolding decide
table_falls s m mc set hs i p e =
    by_trim s mc set hs (nat_le s (trim_held hs)) i _ refl p
    (λ f. by_entries s hs (record_held s hs) (hole_held s hs) (plug_held s hs) _ i refl refl refl (by_copy _ (withheld_held s hs) m _ i (by_end s mc set hs (end_held s hs) i refl)) f) e
