-- What a reader gets is in the style that it was opened in: messages of batches, or records.
use Rattle.std.proofs.Common.{◌≡◌, ◌∙◌, ℕ, ◌+◌, inl, inr, refl, ap, sym, subst, true, false, List, [], ◌∷◌, ◌++◌, Some}
use Rattle.ld_table.specs.Named.{find_named}
use Rattle.ld_config.specs.declared.config.Config.{Config}
use Rattle.ld_schedule.specs.declared.event.Event.{Event}
use Rattle.ld_transcript.specs.declared.line.Line.{Line}
use Rattle.ld_transcript.specs.declared.line.Line.TheVariants as lines
use Rattle.ld_transcript.specs.declared.line.GapKind.{GapKind}
use Rattle.ld_transcript.specs.declared.line.GapKind.TheVariants as gaps
use Rattle.ld_batch.specs.Batch.{Unpacked, Messages, Bad, unpacked}
use Rattle.ld_msg.specs.declared.style.Style.{Style}
use Rattle.ld_msg.specs.declared.style.Style.TheVariants as styles
use Rattle.ld_msg.specs.Reading.{Item, TrimTo, RecordHere, HoleHere, BridgeTo, LossHere, LossTo}
use Rattle.ld_msg.specs.Reader.{Reader, on_answer}
use Rattle.ld_machine.specs.Config.{looks_at}
use Rattle.ld_machine.specs.State.{State}
use Rattle.ld_machine.specs.Facts.{Happened, Opening, opening, opening_of}
use Rattle.ld_machine.specs.Safe.{StylesAreKept}
use Rattle.ld_machine.specs.World.{In}
use Rattle.ld_machine.specs.Run.{history}
use Rattle.ld_machine.specs.Calm.{Move, moves}
use Rattle.ld_machine.specs.Step as Step
use Rattle.ld_safety.proofs.Lists.{Some_inj, not_both, In-append, first_left}
use Rattle.ld_safety.proofs.Traces.{at_step}
use Rattle.ld_safety.proofs.Events.{NamesOnce, dispatch, is_quiet}
use Rattle.ld_safety.proofs.Lines.{Group, OfItems, AllOf}
use Rattle.ld_safety.proofs.ItemLines.{line_cases}
use Rattle.ld_safety.proofs.Openings.{of_messages, same_style}
use Rattle.ld_safety.proofs.Tiles.{Got, Reads, got_of, tiles_kept}
use Rattle.ld_safety.proofs.GivenItems.{line_at}

-- ---- the lines of an item ----

-- the line is of the name; a record that a reader of messages gets is no batch, and a message is of such a reader
pub record Fits (style : Style) (name : List ℕ) (x : Line) : Type 0 where
  pub record_line : (a : List ℕ) (n : ℕ) (p : List ℕ) → x ≡ lines.Record a n p → (a ≡ name) × (of_messages style ≡ true → (ms : List (List ℕ)) → unpacked p ≡ Messages ms → ⊥)
  pub message_line : (a : List ℕ) (n index : ℕ) (m : List ℕ) → x ≡ lines.BatchMessage a n index m → (a ≡ name) × (of_messages style ≡ true)

gap_fits : (style : Style) (name : List ℕ) (kind : GapKind) (low high : ℕ) → Fits style name (lines.Gap name kind low high)
gap_fits style name kind low high = record { record_line = λ a n p e. absurd cc; message_line = λ a n index m e. absurd cc }

record_fits : (style : Style) (name : List ℕ) (s : ℕ) (q : List ℕ) → (of_messages style ≡ true → (ms : List (List ℕ)) → unpacked q ≡ Messages ms → ⊥) → Fits style name (lines.Record name s q)
record_fits style name s q bad = record {
  record_line = λ a n p e. (let x : a ≡ name = cc in let y : q ≡ p = cc in (x, λ t ms h. bad t ms (ap unpacked y ∙ h)));
  message_line = λ a n index m e. absurd cc;
}

message_fits : (style : Style) (name : List ℕ) (s index : ℕ) (m : List ℕ) → of_messages style ≡ true → Fits style name (lines.BatchMessage name s index m)
message_fits style name s index m t = record { record_line = λ a n p e. absurd cc; message_line = λ a n i o e. (let x : a ≡ name = cc in (x, t)) }

-- an item's one line, where it isn't a record of a reader of messages
item_fits : (style : Style) (name : List ℕ) (s until : ℕ) (i : Item) → ((p : List ℕ) → i ≡ RecordHere p → of_messages style ≡ false) → Fits style name (Step.item_line name s until i)
item_fits style name s until (TrimTo last) h = gap_fits style name gaps.Trim s _
item_fits style name s until (RecordHere p) h = record_fits style name s p (λ t ms e. not_both (of_messages style) t (h p refl))
item_fits style name s until HoleHere h = gap_fits style name gaps.Hole s s
item_fits style name s until (BridgeTo last) h = gap_fits style name gaps.Bridge s _
item_fits style name s until LossHere h = gap_fits style name gaps.DataLoss s s
item_fits style name s until (LossTo last) h = gap_fits style name gaps.DataLoss s _

messages_fit : (style : Style) (name : List ℕ) (s index : ℕ) (ms : List (List ℕ)) → of_messages style ≡ true → (x : Line) → In x (Step.message_lines_from name s index ms) → Fits style name x
messages_fit style name s index [] t x i = absurd i
messages_fit style name s index (m ∷ ms) t x (inl e) = subst (Fits style name) (sym e) (message_fits style name s index m t)
messages_fit style name s index (m ∷ ms) t x (inr i) = messages_fit style name s (index + 1) ms t x i

payload_fits : (name : List ℕ) (s : ℕ) (p : List ℕ) (u : Unpacked) → unpacked p ≡ u → (x : Line) → In x (Step.payload_lines name s p u) → Fits styles.OfMessages name x
payload_fits name s p (Messages ms) q x i = messages_fit styles.OfMessages name s 0 ms refl x i
payload_fits name s p (Bad place) q x (inl e) = subst (Fits styles.OfMessages name) (sym e) (record_fits styles.OfMessages name s p (λ t ms h. (let z : Bad place ≡ Messages ms = sym q ∙ h in cc)))
payload_fits name s p (Bad place) q x (inr i) = absurd i

one_fits : (style : Style) (name : List ℕ) (s until : ℕ) (i : Item) → ((p : List ℕ) → i ≡ RecordHere p → of_messages style ≡ false) → (x : Line) → In x (Step.item_line name s until i ∷ []) → Fits style name x
one_fits style name s until i h x (inl e) = subst (Fits style name) (sym e) (item_fits style name s until i h)
one_fits style name s until i h x (inr j) = absurd j

lines_fit : (style : Style) (name : List ℕ) (s until : ℕ) (i : Item) (x : Line) → In x (Step.lines_of_item style name s until i) → Fits style name x
lines_fit styles.EachCopy name s until i x h = one_fits styles.EachCopy name s until i (λ p e. refl) x h
lines_fit styles.OneCopy name s until i x h = one_fits styles.OneCopy name s until i (λ p e. refl) x h
lines_fit styles.OfMessages name s until (RecordHere p) x h = payload_fits name s p (unpacked p) refl x h
lines_fit styles.OfMessages name s until (TrimTo last) x h = one_fits styles.OfMessages name s until (TrimTo last) (λ p e. absurd cc) x h
lines_fit styles.OfMessages name s until HoleHere x h = one_fits styles.OfMessages name s until HoleHere (λ p e. absurd cc) x h
lines_fit styles.OfMessages name s until (BridgeTo last) x h = one_fits styles.OfMessages name s until (BridgeTo last) (λ p e. absurd cc) x h
lines_fit styles.OfMessages name s until LossHere x h = one_fits styles.OfMessages name s until LossHere (λ p e. absurd cc) x h
lines_fit styles.OfMessages name s until (LossTo last) x h = one_fits styles.OfMessages name s until (LossTo last) (λ p e. absurd cc) x h

items_fit : (style : Style) (name : List ℕ) (until : ℕ) (is : List (ℕ × Item)) (x : Line) → In x (Step.item_lines style name until is) → Fits style name x
items_fit style name until [] x h = absurd h
items_fit style name until (i ∷ is) x h = elim (In-append x (Step.lines_of_item style name i.0 until i.1) (Step.item_lines style name until is) h) [ inl a ↦ lines_fit style name i.0 until i.1 x a | inr b ↦ items_fit style name until is x b ]

-- ---- the lines of a step ----

-- an item is of a reader that is there, and fits its style
pub record StylesTold (s : State) (ls : List Line) : Type 0 where
  pub records : (name : List ℕ) (n : ℕ) (p : List ℕ) → In (lines.Record name n p) ls → (d : Reader) × (find_named name s.readers ≡ Some d) × (of_messages d.style ≡ true → (ms : List (List ℕ)) → unpacked p ≡ Messages ms → ⊥)
  pub messages : (name : List ℕ) (n index : ℕ) (m : List ℕ) → In (lines.BatchMessage name n index m) ls → (d : Reader) × (find_named name s.readers ≡ Some d) × (of_messages d.style ≡ true)

other_lines : (s : State) (g : Group) (ls : List Line) → (g ≡ OfItems → ⊥) → AllOf g ls → StylesTold s ls
other_lines s g ls n a = record { records = λ name m p i. absurd (n (sym (a _ i))); messages = λ name m j p i. absurd (n (sym (a _ i))) }

quiet_lines : (s : State) (ls : List Line) → ((x : Line) → In x ls → is_quiet x ≡ true) → StylesTold s ls
quiet_lines s ls q = record { records = λ name n p i. absurd (let z = q _ i in cc); messages = λ name n j p i. absurd (let z = q _ i in cc) }

item_lines_told : (s : State) (style : Style) (name : List ℕ) (d : Reader) (until : ℕ) (is : List (ℕ × Item)) → style ≡ d.style → find_named name s.readers ≡ Some d → StylesTold s (Step.item_lines style name until is)
item_lines_told s style name d until is e f = record {
  records = λ a n p i. let z = (items_fit style name until is _ i).record_line a n p refl in (d, subst (λ k. find_named k s.readers ≡ Some d) (sym z.0) f, subst (λ k. of_messages k ≡ true → (ms : List (List ℕ)) → unpacked p ≡ Messages ms → ⊥) e z.1);
  messages = λ a n index m i. let z = (items_fit style name until is _ i).message_line a n index m refl in (d, subst (λ k. find_named k s.readers ≡ Some d) (sym z.0) f, sym (ap of_messages e) ∙ z.1);
}

styles_told : (c : Config) (s : State) (e : Move) → NamesOnce s → StylesTold s (moves c s e).lines
styles_told c s e N = dispatch c s e (λ d m. StylesTold s d.lines) N (line_cases c s e (StylesTold s) (other_lines s)
    (λ f name d m i t v o. item_lines_told s _ name d _ (on_answer (looks_at c s.register d.log) d (Step.sender_node m.from) m.body).items (same_style (looks_at c s.register d.log) d (Step.sender_node m.from) m.body) v.named) (quiet_lines s))

-- ---- the law ----

-- a reader that was there has the style that it was opened in
same_opening : (c : Config) (before after hs : List Happened) (name : List ℕ) (d : Reader) (o : Opening) → hs ≡ before ++ after → Got c before name d → opening c name hs ≡ Some o → o.messages ≡ of_messages d.style
same_opening c before after hs name d o s g f =
    let q : opening c name hs ≡ Some g.open_as = subst (λ (x : List Happened). opening c name x ≡ Some g.open_as) (sym s) (first_left (λ (h : Happened). opening_of c name h.lines h.event) before after g.open_as g.is) in
    ap (λ (x : Opening). x.messages) (Some_inj (sym f ∙ q)) ∙ g.messages

pub styles_are_kept : (c : Config) (es : List Event) → StylesAreKept c (history c es)
styles_are_kept c es r o n k f = (
  λ t p ms wr u.
      let a = line_at c (Reads c) es k _ (at_step c (Reads c) (tiles_kept c) es) (λ h. cc) wr in
      let x = (styles_told c a.world.state a.move a.holds.0.0.0.0).records r n p a.there in
      x.2 (sym (same_opening c a.before a.after (history c es) r x.0 o a.split (got_of c a.before a.world a.holds.1 r x.0 x.1) f) ∙ t) ms u,
  λ t index m wr.
      let a = line_at c (Reads c) es k _ (at_step c (Reads c) (tiles_kept c) es) (λ h. cc) wr in
      let x = (styles_told c a.world.state a.move a.holds.0.0.0.0).messages r n index m a.there in
      not_both o.messages (same_opening c a.before a.after (history c es) r x.0 o a.split (got_of c a.before a.world a.holds.1 r x.0 x.1) f ∙ x.2) t,
)
