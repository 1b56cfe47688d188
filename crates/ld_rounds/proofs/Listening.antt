-- The answers of a node are taken, one after the other.
use Rattle.std.proofs.Common.{◌≡◌, ◌⊎◌, inl, inr, ℕ, Bool, true, false, List, ◌++◌, Option, Some, None, Ok, Err, refl, ap, sym, ◌∙◌, subst, append_assoc, if◌then◌else◌}
use Rattle.std.specs.Prelude.{IfOk, IfErr, IfSome, MatchResult}
use Rattle.std.specs.declared.result.Result.{Result}
use Rattle.std.specs.Io.KnownBytes.{Appends}
use Rattle.std.proofs.lemmas.List.Elements.{Contains-append_left}
use Rattle.ld_config.specs.declared.config.Config.{Config}
use Rattle.ld_transcript.specs.declared.line.Line.{Line}
use Rattle.ld_transcript.specs.declared.line.Line.TheVariants as lines
use Rattle.ld_transcript.specs.Text.{text}
use Rattle.ld_wire.specs.declared.fault.WireFault.{WireFault}
use Rattle.ld_msg.specs.declared.msg.Msg.{Msg}
use Rattle.ld_machine.specs.State.{State}
use Rattle.ld_dial.specs.Far.{Far}
use Rattle.ld_rounds.specs.declared.ended.Ended.{Ended}
use Rattle.ld_rounds.specs.declared.ended.Ended.TheVariants as ends
use Rattle.ld_rounds.specs.declared.actor.Heard.{Heard}
use Rattle.ld_rounds.specs.Ends.{IsSaid, Says}
use Rattle.ld_rounds.specs.Endings.{IsLater, SaysWhy, IsEnding, IsOffAs, EndsOff}
use Rattle.ld_rounds.specs.Telling.{HasTold, IsTelling}
use Rattle.ld_rounds.specs.Listening.{is_cut, listens_on, first_end, end_then, ends_by, still_due, WroteLines, Writes}
use Rattle.ld_rounds.specs.Rounds.{Visiting, VisitEnd}
use Rattle.ld_rounds.specs.Drives.{Driver, Went, Stops, GoesOn}
use Rattle.ld_rounds.proofs.Endings.{ending_since, goes_unoff, err_is}
use Rattle.ld_rounds.proofs.Writing.{Appends-trans, text-append}

-- ---- what is written ----

telling_writes : (heard : Heard) (before now : List (List Msg)) (old new : Option (List ℕ)) (e : Ended) → IsTelling heard before now old new e → is_cut e ≡ false → WroteLines old new
telling_writes heard before now old new ends.NoMemory t n = absurd cc
telling_writes heard before now old new ends.Write t n = absurd cc
telling_writes heard before now old new e t n = record { lines = heard.lines.items; written = t.written }

pub told_writes : (heard : Heard) (before now : List (List Msg)) (old new : Option (List ℕ)) (r : Result (Unit {0}) Ended) → MatchResult r (λ u. HasTold heard before now old new) (IsTelling heard before now old new) → Writes old new r
told_writes heard before now old new (Ok u) t = record { lines = heard.lines.items; written = t.written }
told_writes heard before now old new (Err e) t = telling_writes heard before now old new e t

-- ---- where it listens on ----

by_cut : (e : Ended) (b on : Bool) → is_cut e ≡ b → (if b then Err e else Ok true) ≡ Ok on → is_cut e ≡ false
by_cut e true on c h = absurd cc
by_cut e false on c h = c

pub uncut : (e : Ended) (on : Bool) → listens_on (Err e) ≡ Ok on → is_cut e ≡ false
uncut e on h = by_cut e (is_cut e) on refl h

by_end : (e f : Ended) (b : Bool) → is_cut f ≡ b → ◌≡◌ {A = Result Bool Ended} (if b then Err f else Ok true) (Err e) → (f ≡ e) × (is_cut f ≡ true)
by_end e f true c h = (err_is Bool f e h, c)
by_end e f false c h = absurd cc

-- where it doesn't, that is why
pub cut_off : (r : Result Bool Ended) (e : Ended) → listens_on r ≡ Err e → (r ≡ Err e) × (is_cut e ≡ true)
cut_off (Ok on) e h = absurd cc
cut_off (Err f) e h =
    let p = by_end e f (is_cut f) refl h in
    (ap (λ (x : Ended). Err x) p.0, ap is_cut (sym p.0) ∙ p.1)

pub on_due : (n : ℕ) (r : Result Bool Ended) → listens_on r ≡ Ok true → still_due n r ≡ n
on_due n (Ok true) h = refl
on_due n (Ok false) h = absurd cc
on_due n (Err e) h = refl

not_off : (e : Ended) (b : Bool) → ◌≡◌ {A = Result Bool Ended} (if b then Err e else Ok true) (Ok false) → ⊥
not_off e true h = absurd cc
not_off e false h = absurd cc

pub goes_off : (r : Result Bool Ended) → listens_on r ≡ Ok false → r ≡ Ok false
goes_off (Ok true) h = absurd cc
goes_off (Ok false) h = refl
goes_off (Err e) h = absurd (not_off e (is_cut e) h)

pub off_due : (n : ℕ) (r : Result Bool Ended) → listens_on r ≡ Ok false → still_due n r ≡ 0
off_due n r h = ap (still_due n) (goes_off r h)

-- ---- why it ends ----

-- the actor ended its drive, and the last lines that were written say why
abbrev pub HasEnded : Option (List ℕ) → Option (List ℕ) → Ended → Type 0
HasEnded old new e = (is_cut e ≡ false) × SaysWhy old new e

says_more : (line : List ℕ → Line) (ls ms : List Line) → Says line ls → Says line (ls ++ ms)
says_more line ls ms h = record { name = h.name; there = Contains-append_left ls ms (line h.name) h.there }

said_more : (ls ms : List Line) (e : Ended) → IsSaid ls e → IsSaid (ls ++ ms) e
said_more ls ms (ends.Preempted by) h = says_more (λ name. lines.RefusedPreempted name by) ls ms h
said_more ls ms ends.EpochLimit h = says_more lines.RefusedEpochLimit ls ms h
said_more ls ms ends.EpochFull h = says_more lines.RefusedEpochFull ls ms h
said_more ls ms (ends.Register fault) h = says_more lines.RefusedRegister ls ms h
said_more ls ms e h = absurd h

why_until : (old mid new : Option (List ℕ)) (e : Ended) → HasEnded old mid e → WroteLines mid new → HasEnded old new e
why_until old mid new e h w = (
  h.0,
  record {
    before = h.1.before;
    lines = h.1.lines ++ w.lines;
    written = subst (λ l. Appends old new l) (append_assoc h.1.before (text h.1.lines) (text w.lines) ∙ ap (λ l. h.1.before ++ l) (sym (text-append h.1.lines w.lines)))
        (Appends-trans old mid new (h.1.before ++ text h.1.lines) (text w.lines) h.1.written w.written);
    said = said_more h.1.lines w.lines e h.1.said;
  },
)

why_whole : (f g : ℕ) (old new : Option (List ℕ)) (e : Ended) → is_cut e ≡ false → IsEnding f g old new e → HasEnded old new e
why_whole f g old new ends.NoMemory c i = absurd cc
why_whole f g old new ends.Write c i = absurd cc
why_whole f g old new (ends.BadFrame fault) c i = absurd cc
why_whole f g old new e c i = (c, i)

whole_why : (f g : ℕ) (old new : Option (List ℕ)) (e : Ended) → HasEnded old new e → IsEnding f g old new e
whole_why f g old new ends.NoMemory h = absurd (let c = h.0 in cc)
whole_why f g old new ends.Write h = absurd (let c = h.0 in cc)
whole_why f g old new (ends.BadFrame fault) h = absurd (let c = h.0 in cc)
whole_why f g old new e h = h.1

-- it listens on
pub ended_on : (k f g : ℕ) (old mid new : Option (List ℕ)) (o : Option Ended) (r : Result Bool Ended) (on : Bool) → listens_on r ≡ Ok on → IfSome o (HasEnded old mid) → IsLater k f old mid → IfErr r (IsEnding f g mid new) → Writes mid new r → IfSome (end_then o r) (HasEnded old new)
ended_on k f g old mid new None (Ok v) on h o l i w = tt
ended_on k f g old mid new (Some x) (Ok v) on h o l i w = why_until old mid new x o w
ended_on k f g old mid new q (Err e) on h o l i w = by_first q (is_cut e) (uncut e on h) o
  where
    by_first : (q : Option Ended) (b : Bool) → b ≡ false → IfSome q (HasEnded old mid) → IfSome (if b then q else first_end q e) (HasEnded old new)
    by_first q true c o = absurd cc
    by_first None false c o = why_whole k g old new e (uncut e on h) (ending_since k f g old mid new e l i)
    by_first (Some x) false c o = why_until old mid new x o (w (uncut e on h))

-- all is taken
pub ended_cause : (f g : ℕ) (old new : Option (List ℕ)) (o : Option Ended) (on : Bool) → IfSome o (HasEnded old new) → IfErr (ends_by o on) (IsEnding f g old new)
ended_cause f g old new None on h = tt
ended_cause f g old new (Some e) on h = whole_why f g old new e h

pub ended_broken : (X : Type 0) (o : Option Ended) (on : Bool) → (on ≡ false → X) → IfOk (ends_by o on) (λ v. v ≡ false → X)
ended_broken X None on f = f
ended_broken X (Some e) on f = tt

whole_off : (off : Option WireFault) (e : Ended) → is_cut e ≡ false → IsOffAs off e
whole_off off (ends.BadFrame fault) h = absurd cc
whole_off off e h = tt

pub ended_off : (off : Option WireFault) (old new : Option (List ℕ)) (o : Option Ended) (on : Bool) → IfSome o (HasEnded old new) → IfErr (ends_by o on) (IsOffAs off)
ended_off off old new None on h = tt
ended_off off old new (Some e) on h = whole_off off e h.0

-- where it listens on no bytes began no frame
pub unoff_on : (off : Option WireFault) (r : Result Bool Ended) (on : Bool) → listens_on r ≡ Ok on → EndsOff off r → off ≡ None
unoff_on off (Ok v) on h e = goes_unoff off v e
unoff_on None (Err x) on h e = refl
unoff_on (Some fault) (Err x) on h e =
    let c = uncut x on h in
    let same : x ≡ ends.BadFrame fault = err_is Bool x (ends.BadFrame fault) e in
    absurd (cut_not fault (sym (ap is_cut same) ∙ c))
  where
    cut_not : (fault : WireFault) → is_cut (ends.BadFrame fault) ≡ false → ⊥
    cut_not fault h = absurd cc

-- ---- the drive goes on ----

module _ (who : Driver) (broken : Type 0) (c : Config) (first : ℕ) (y : ℕ) (A : Config → State → Type 0) (s : State) (qs : List (List Msg)) (old new : Option (List ℕ)) where
  on_whole : (U : Far → Type 0) (e : Ended) → Stops who broken (VisitEnd c first y) A U c first s qs old new e → GoesOn {T = Bool} who broken (Visiting c first y) (VisitEnd c first y) A U c first s qs old new (if is_cut e then Err e else Ok true)
  on_whole U ends.NoMemory w = w
  on_whole U ends.Write w = w
  on_whole U (ends.BadFrame fault) w = w
  on_whole U e w = w

  whole_on : (U : Far → Type 0) (r : Result Bool Ended) → GoesOn who broken (Visiting c first y) (VisitEnd c first y) A U c first s qs old new r → GoesOn who broken (Visiting c first y) (VisitEnd c first y) A U c first s qs old new (listens_on r)
  whole_on U (Ok on) w = w
  whole_on U (Err e) w = on_whole U e w

  -- where the actor has ended its drive it goes on first
  pub listened : (X : Type 0) (U : Far → Type 0) (r z : Result Bool Ended) → listens_on r ≡ z → X ⊎ GoesOn who broken (Visiting c first y) (VisitEnd c first y) A U c first s qs old new r → X ⊎ GoesOn who broken (Visiting c first y) (VisitEnd c first y) A U c first s qs old new z
  listened X U r z h (inl x) = inl x
  listened X U r z h (inr w) = inr (subst (λ (v : Result Bool Ended). GoesOn who broken (Visiting c first y) (VisitEnd c first y) A U c first s qs old new v) h (whole_on U r w))

  -- it ends at once
  pub cut_goes : (R : Type 0) (U V : Far → Type 0) (e : Ended) → is_cut e ≡ true → Stops who broken (VisitEnd c first y) A U c first s qs old new e → GoesOn {T = R} who broken (Visiting c first y) (VisitEnd c first y) A V c first s qs old new (Err e)
  cut_goes R U V ends.NoMemory k w = w
  cut_goes R U V ends.Write k w = w
  cut_goes R U V (ends.BadFrame fault) k w = w
  cut_goes R U V e k w = absurd cc

  pub listened_cut : (X : Type 0) (U V : Far → Type 0) (r : Result Bool Ended) (e : Ended) → listens_on r ≡ Err e → is_cut e ≡ true → X ⊎ GoesOn who broken (Visiting c first y) (VisitEnd c first y) A U c first s qs old new r → X ⊎ GoesOn {T = Bool} who broken (Visiting c first y) (VisitEnd c first y) A V c first s qs old new (Err e)
  listened_cut X U V r e h k g = elim (listened X U r (Err e) h g) [
    | inl x ↦ inl x
    | inr w ↦ inr (cut_goes Bool U V e k w)
  ]

  -- it ends once all is taken
  whole_goes : (U : Far → Type 0) (e : Ended) → is_cut e ≡ false → Went who broken (Visiting c first y) A U c first s qs old new → Stops who broken (VisitEnd c first y) A U c first s qs old new e
  whole_goes U ends.NoMemory k w = absurd cc
  whole_goes U ends.Write k w = absurd cc
  whole_goes U (ends.BadFrame fault) k w = absurd cc
  whole_goes U e k w = w

  pub ended_goes : (U : Far → Type 0) (from till : Option (List ℕ)) (o : Option Ended) (on : Bool) → IfSome o (HasEnded from till) → Went who broken (Visiting c first y) A U c first s qs old new → GoesOn who broken (Visiting c first y) (VisitEnd c first y) A U c first s qs old new (ends_by o on)
  ended_goes U from till None on h w = w
  ended_goes U from till (Some e) on h w = whole_goes U e h.0 w
