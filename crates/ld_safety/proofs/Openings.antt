-- An event that opens a reader leaves the reader there, or a line that refuses it.
use Rattle.std.proofs.Common.{◌≡◌, ◌∙◌, ℕ, refl, ap, sym, subst, Bool, true, false, not, ◌&&◌, ◌||◌, ◌==◌, List, length, Option, Some, None, is_some, cond, nat_lt, nat_le}
use Rattle.std.proofs.lemmas.Bool.{and_parts, and_from, or_left}
use Rattle.ld_table.specs.Named.{same, find_named, put_named}
use Rattle.ld_table.specs.Words.{any_of}
use Rattle.ld_table.proofs.NameLaws.{same-self, same-true, find_named-put_named}
use Rattle.ld_schedule.specs.declared.event.Event.TheVariants as events
use Rattle.ld_transcript.specs.declared.line.Line.{Line}
use Rattle.ld_transcript.specs.declared.line.Line.TheVariants as lines
use Rattle.ld_config.specs.declared.config.Config.{Config}
use Rattle.ld_msg.specs.declared.style.Style.{Style}
use Rattle.ld_msg.specs.declared.style.Style.TheVariants as styles
use Rattle.ld_msg.specs.declared.msg.Body.{Body}
use Rattle.ld_msg.specs.Register.{View}
use Rattle.ld_msg.specs.Reader.{Reader, opened, on_answer}
use Rattle.ld_machine.specs.Config.{has_log}
use Rattle.ld_machine.specs.State.{State, Done, finish, with_line}
use Rattle.ld_machine.specs.Facts.{opening_of, opened_as, refuses_reader}
use Rattle.ld_machine.specs.Calm.{Move, Takes, event_of, moves}
use Rattle.ld_machine.specs.Step as Step
use Rattle.ld_safety.proofs.Lists.{not_both, not_none, cond_both}
use Rattle.ld_safety.proofs.Events.{opens_as}
use Rattle.ld_safety.proofs.ReaderSteps.{ReadKeeps, answered}

-- whether a reader is opened for messages
abbrev pub of_messages : Style → Bool
of_messages styles.EachCopy = false
of_messages styles.OneCopy = false
of_messages styles.OfMessages = true

pub opens_of : (c : Config) (style : Style) (r : List ℕ) (ls : List Line) (name : List ℕ) (l from until : ℕ) → opening_of c r ls (event_of (opens_as style name l from until)) ≡ opened_as c r ls (of_messages style) name l from until
opens_of c styles.EachCopy r ls name l from until = refl
opens_of c styles.OneCopy r ls name l from until = refl
opens_of c styles.OfMessages r ls name l from until = refl

module _ (c : Config) (s : State) where
  refused : (name : List ℕ) (x : Line) → refuses_reader name x ≡ true → any_of (refuses_reader name) (finish (with_line s x)).lines ≡ true
  unfolding finish
  refused name x h = or_left _ _ h

  there : (name : List ℕ) (d : Reader) → find_named name (put_named name d s.readers) ≡ Some d
  there name d = find_named-put_named name name d s.readers ∙ ap (λ b. cond b (Some d) (find_named name s.readers)) (same-self name)

  -- no reader of the name is there, so it is refused
  abbrev Refuses : List ℕ → Done → Type 0
  Refuses name d = find_named name d.state.readers ≡ None → any_of (refuses_reader name) (finish d).lines ≡ true

  opens_told : (style : Style) (name : List ℕ) (l from until : ℕ) → Refuses name (Step.opens s style name l from until)
  opens_told style name l from until = cond_both ((from == 0) || nat_lt until from) _ _ (Refuses name) (λ t f. refused name (lines.RefusedRange name) (same-self name))
      (λ t. cond_both (nat_le Step.reader_limit (length s.readers)) _ _ (Refuses name) (λ u f. refused name (lines.RefusedFull name) (same-self name))
      (λ u f. absurd (not_none (sym f ∙ there name (opened style l (length s.readers) from until)))))

  opens_new_told : (style : Style) (name : List ℕ) (l from until : ℕ) → has_log c l ≡ true → find_named name s.readers ≡ None → Refuses name (Step.opens_new c s style name l from until)
  opens_new_told style name l from until h n = cond_both (has_log c l && not (is_some (find_named name s.readers))) _ _ (Refuses name) (λ t. opens_told style name l from until)
      (λ t f. absurd (not_both _ (and_from (has_log c l) (not (is_some (find_named name s.readers))) h (ap (λ (o : Option Reader). not (is_some o)) n)) t))

  unopened : (style : Style) (name : List ℕ) (l from until : ℕ) (r : List ℕ) → find_named r s.readers ≡ None → find_named r (Step.opens_new c s style name l from until).state.readers ≡ None
      → opened_as c r (finish (Step.opens_new c s style name l from until)).lines (of_messages style) name l from until ≡ None
  unopened style name l from until r n f = cond_both ((same name r && has_log c l) && not (any_of (refuses_reader r) (finish (Step.opens_new c s style name l from until)).lines)) _ None (λ o. o ≡ None)
      (λ t. let p = and_parts (same name r && has_log c l) _ t in let q = and_parts (same name r) (has_log c l) p.0 in
      absurd (let u : any_of (refuses_reader r) (finish (Step.opens_new c s style name l from until)).lines ≡ true = told (same-true name r q.0) q.1 in
      let v : not true ≡ true = subst (λ b. not b ≡ true) u p.1 in cc)) (λ t. refl) where
        told : name ≡ r → has_log c l ≡ true → any_of (refuses_reader r) (finish (Step.opens_new c s style name l from until)).lines ≡ true
        told e h = subst (λ k. find_named k s.readers ≡ None → Refuses k (Step.opens_new c s style name l from until)) e (λ m. opens_new_told style name l from until h m) n f

  -- a name that no reader has, neither before a step nor after it, was opened by nothing
  abbrev pub Unopened : Move → Done → Type 0
  Unopened e d = (r : List ℕ) → find_named r s.readers ≡ None → find_named r d.state.readers ≡ None → opening_of c r (finish d).lines (event_of e) ≡ None

  pub no_opening : (e : Move) → Unopened e (moves c s e)
  unfolding Step.happens
  no_opening (Takes (events.Open name l from until)) r n f = unopened styles.EachCopy name l from until r n f
  no_opening (Takes (events.OpenOne name l from until)) r n f = unopened styles.OneCopy name l from until r n f
  no_opening (Takes (events.OpenMessages name l from until)) r n f = unopened styles.OfMessages name l from until r n f
  no_opening _ r n f = refl

-- a reader's style stays
same_keeps : (looks : ℕ → View) (d : Reader) (y : ℕ) (b : Body) → ReadKeeps looks d y b (λ a. a.reader.style ≡ d.style)
same_keeps looks d y b = record {
  starts = refl;
  ignored = λ h. refl;
  loss = λ h n. refl;
  swapped = λ h n. refl;
  trim = λ a g n t. g;
  record_there = λ a p g n t. g;
  hole_there = λ a g n t. g;
  plug = λ a g n t. g;
  bridge = λ a g n t. g;
  lossy_end = λ a g n t. g;
  confirm = λ a g n m t. g;
  asks_all = λ a g t. g;
  polls_on = λ a g t. g;
}

pub same_style : (looks : ℕ → View) (d : Reader) (y : ℕ) (b : Body) → (on_answer looks d y b).reader.style ≡ d.style
same_style looks d y b = answered looks d y b (λ a. a.reader.style ≡ d.style) (same_keeps looks d y b)
