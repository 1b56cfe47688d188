-- An input is a schedule, and a rest with a syntax error, in one way.
use Rattle.std.proofs.Common.{◌≡◌, ◌<◌, inl, inr, ℕ, List, [], ◌∷◌, ◌++◌, length, refl, sym, ap, ◌∙◌, arith}
use Rattle.std.specs.Prelude.{flat_map, Ok}
use Rattle.std.specs.Prelude.{Option}
use Rattle.std.proofs.lemmas.List.{append_assoc, append-nil, length-append}
use Rattle.serde_json.specs.Read.{read}
use Rattle.ld_lsn.specs.Text.{Lacks}
use Rattle.ld_lsn.proofs.Texts.{parted, Lacks-not}
use Rattle.ld_schedule.specs.declared.event.Event.{Event}
use Rattle.ld_schedule.specs.Grammar.{event_text}
use Rattle.ld_schedule.proofs.OneEvent.{one_event}
use Rattle.ld_schedule.proofs.LineEnds.{text_lacks}
use Rattle.ld_config.specs.declared.config.Config.{Config}
use Rattle.ld_config.specs.Config.{config_of_text}
use Rattle.ld_cli.specs.Lines.{ended}
use Rattle.ld_cli.specs.Schedule.{Configures, IsSpelt, AreSpelt, event_line, schedule_text, IsOffFirst, IsOffLater}
use Rattle.ld_cli.specs.Ends.{IsSchedule, StopsLater, IsStopped}
use Rattle.ld_cli.specs.OneReading.{Ends}

-- no byte among the first ones is c
no_such : (c : ℕ) (xs zs l more : List ℕ) → Lacks c xs → length l < length xs → xs ++ zs ≡ l ++ c ∷ more → ⊥
no_such c [] zs l more lacks short is = absurd (omega arith)
no_such c (x ∷ xs) zs [] more lacks short is = lacks.0 (cc)
no_such c (x ∷ xs) zs (y ∷ l) more lacks short is = let tails : xs ++ zs ≡ l ++ c ∷ more = cc in no_such c xs zs l more lacks.1 (omega arith) tails

-- a line and what follows it
line_splits : (line more : List ℕ) → ended line ++ more ≡ line ++ 10 ∷ more
line_splits line more = append_assoc line (10 ∷ []) more

no_event : (e : Event) (rest more : List ℕ) → IsSpelt e → rest ≡ event_text e ++ 10 ∷ more → (place : ℕ) → IsOffLater rest place → ⊥
no_event e rest more can is place off = elim off.off [
  | inl long ↦ no_such 10 long.front long.rest (event_text e) more long.one (omega (arith, long.long, can.1)) (sym long.splits ∙ is)
  | inr others ↦ elim others [
    | inl cut ↦ Lacks-not 10 (event_text e) more (rw (← is) cut.one)
    | inr none ↦ none.off.none e can.0
        (parted 10 none.line (event_text e) none.rest more none.begins.one (text_lacks e can.0) (sym (none.begins.splits ∙ line_splits none.line none.rest) ∙ is)).0
  ]
]

no_more : (e : Event) (rest more : List ℕ) → Ends rest → IsSpelt e → rest ≡ event_line e ++ more → ⊥
no_more e rest more (inl none) can is = omega (arith, ap length (sym none ∙ is ∙ line_splits (event_text e) more), length-append (event_text e) (10 ∷ more))
no_more e rest more (inr off) can is = no_event e rest more can (is ∙ line_splits (event_text e) more) off.place off.off

same : (es fs : List Event) (rest more : List ℕ) → AreSpelt es → AreSpelt fs → Ends rest → Ends more
    → flat_map event_line es ++ rest ≡ flat_map event_line fs ++ more → (es ≡ fs) × (rest ≡ more)
unfolding AreSpelt
same [] [] rest more can can' ends ends' is = (refl, is)
same [] (f ∷ fs) rest more can can' ends ends' is =
    absurd (no_more f rest (flat_map event_line fs ++ more) ends can'.0 (is ∙ append_assoc (event_line f) (flat_map event_line fs) more))
same (e ∷ es) [] rest more can can' ends ends' is =
    absurd (no_more e more (flat_map event_line es ++ rest) ends' can.0 (sym is ∙ append_assoc (event_line e) (flat_map event_line es) rest))
same (e ∷ es) (f ∷ fs) rest more can can' ends ends' is =
    let x = flat_map event_line es ++ rest in
    let y = flat_map event_line fs ++ more in
    let there : event_text e ++ 10 ∷ x ≡ event_text f ++ 10 ∷ y =
    sym (line_splits (event_text e) x) ∙ sym (append_assoc (event_line e) (flat_map event_line es) rest) ∙ is
    ∙ append_assoc (event_line f) (flat_map event_line fs) more ∙ line_splits (event_text f) y in
    let parts = parted 10 (event_text e) (event_text f) x y (text_lacks e can.0.0) (text_lacks f can'.0.0) there in
    let heads : e ≡ f = one_event e f can.0.0 can'.0.0 parts.0 in
    let tails = same es fs rest more can.1 can'.1 ends ends' parts.1 in
    (ap (λ g. g ∷ es) heads ∙ ap (λ l. f ∷ l) tails.0, tails.1)

one_config : (line first : List ℕ) (config other : Config) → line ≡ first → Configures line config → Configures first other → config ≡ other
one_config line first config other is a b =
    let e : Ok config ≡ Ok other = sym a.says.1 ∙ ap (λ l. config_of_text (read l)) is ∙ b.says.1 in cc

pub one_reading : (line first : List ℕ) (config other : Config) (es fs : List Event) (rest more : List ℕ) → Configures line config → Configures first other
    → AreSpelt es → AreSpelt fs → Ends rest → Ends more → schedule_text line es ++ rest ≡ schedule_text first fs ++ more
    → (line ≡ first) × (config ≡ other) × (es ≡ fs) × (rest ≡ more)
unfolding schedule_text
one_reading line first config other es fs rest more a b can can' ends ends' is =
    let x = flat_map event_line es ++ rest in
    let y = flat_map event_line fs ++ more in
    let there : line ++ 10 ∷ x ≡ first ++ 10 ∷ y =
    sym (line_splits line x) ∙ sym (append_assoc (ended line) (flat_map event_line es) rest) ∙ is
    ∙ append_assoc (ended first) (flat_map event_line fs) more ∙ line_splits first y in
    let parts = parted 10 line first x y a.one b.one there in
    let tails = same es fs rest more can can' ends ends' parts.1 in
    (parts.0, one_config line first config other parts.0 a b, tails.0, tails.1)

-- ---- a schedule has no line that is off ----

whole_splits : (line : List ℕ) (es : List Event) → schedule_text line es ≡ line ++ 10 ∷ flat_map event_line es
unfolding schedule_text
whole_splits line es = line_splits line (flat_map event_line es)

not_off_first : (bytes : List ℕ) (place : ℕ) → IsSchedule bytes → IsOffFirst bytes place → ⊥
not_off_first bytes place s (inl long) =
    no_such 10 long.front long.rest s.line (flat_map event_line s.events) long.one (omega (arith, long.long, s.configures.short)) (sym long.splits ∙ s.whole ∙ whole_splits s.line s.events)
not_off_first bytes place s (inr (inl cut)) = Lacks-not 10 s.line (flat_map event_line s.events) (rw (← whole_splits, ← s.whole) cut.one)
not_off_first bytes place s (inr (inr none)) =
    let there : none.line ++ 10 ∷ none.rest ≡ s.line ++ 10 ∷ flat_map event_line s.events =
    sym (line_splits none.line none.rest) ∙ sym none.begins.splits ∙ s.whole ∙ whole_splits s.line s.events in
    let same_line = (parted 10 none.line s.line none.rest (flat_map event_line s.events) none.begins.one s.configures.one there).0 in
    none.off s.config (rw same_line s.configures.says)

not_off_later : (bytes : List ℕ) (old new : Option (List ℕ)) (line place : ℕ) → IsSchedule bytes → StopsLater bytes old new line place → ⊥
not_off_later bytes old new line place s stops =
    let whole : schedule_text stops.first stops.events ++ stops.rest ≡ schedule_text s.line s.events ++ [] = sym stops.front ∙ s.whole ∙ sym (append-nil (schedule_text s.line s.events)) in
    let same_rest = (one_reading stops.first s.line stops.config s.config stops.events s.events stops.rest [] stops.configures s.configures stops.spelt s.spelt (inr (record { place = place; off = stops.off })) (inl refl) whole).3 in
    omega (arith, stops.off.some, ap length same_rest)

pub never_off : (bytes : List ℕ) (old new : Option (List ℕ)) (line place : ℕ) → IsSchedule bytes → IsStopped bytes old new line place → ⊥
never_off bytes old new line place s (inl first) = not_off_first bytes place s first.off
never_off bytes old new line place s (inr later) = not_off_later bytes old new line place s later
