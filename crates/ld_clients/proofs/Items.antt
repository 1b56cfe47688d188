-- The lines and the asks of a reader.
use Rattle.std.proofs.Common.{◌≡◌, ℕ, ◌+◌, ◌<◌, List, [], ◌∷◌, ◌++◌, length, take, get_or, refl, ap, sym, ◌∙◌, arith, append_assoc}
use Rattle.std.proofs.lemmas.List.{take_more, append-nil, length-take-le}
use Rattle.ld_msg.specs.declared.msg.Who.TheVariants as whos
use Rattle.ld_msg.specs.declared.msg.Body.{Body}
use Rattle.ld_msg.specs.Reading.{Item, TrimTo, RecordHere, HoleHere, BridgeTo, LossHere, LossTo}
use Rattle.ld_msg.specs.Network.{posted}
use Rattle.ld_transcript.specs.declared.line.Line.TheVariants as lines
use Rattle.ld_msg.specs.declared.style.Style.{Style}
use Rattle.ld_msg.specs.declared.style.Style.TheVariants as styles
use Rattle.ld_machine.specs.Step.{item_line, lines_of_item, item_lines, message_lines_from}
use Rattle.ld_reader.specs.Clipped.{clipped, all_clipped}
use Rattle.ld_reader.specs.Following.{messages_from}
use Rattle.ld_clients.specs.Items.{given_line, given_lines, lines_given, unpacked_lines}

line_is : (name : List ℕ) (s until : ℕ) (i : Item) → given_line name s (clipped until i) ≡ item_line name s until i
line_is name s until (TrimTo last) = refl
line_is name s until (RecordHere p) = refl
line_is name s until HoleHere = refl
line_is name s until (BridgeTo last) = refl
line_is name s until LossHere = refl
line_is name s until (LossTo last) = refl

lines_of_one : (style : Style) (name : List ℕ) (s until : ℕ) (i : Item) → lines_given style name s (clipped until i) ≡ lines_of_item style name s until i
lines_of_one styles.OfMessages name s until (TrimTo last) = refl
lines_of_one styles.OfMessages name s until (RecordHere p) = refl
lines_of_one styles.OfMessages name s until HoleHere = refl
lines_of_one styles.OfMessages name s until (BridgeTo last) = refl
lines_of_one styles.OfMessages name s until LossHere = refl
lines_of_one styles.OfMessages name s until (LossTo last) = refl
lines_of_one styles.EachCopy name s until i = ap (λ l. l ∷ []) (line_is name s until i)
lines_of_one styles.OneCopy name s until i = ap (λ l. l ∷ []) (line_is name s until i)

pub lines_are : (style : Style) (name : List ℕ) (until : ℕ) (is : List (ℕ × Item)) → given_lines style name (all_clipped until is) ≡ item_lines style name until is
lines_are style name until [] = refl
lines_are style name until (i ∷ is) = λ j. lines_of_one style name i.0 until i.1 j ++ lines_are style name until is j

given_lines-push : (style : Style) (name : List ℕ) (is : List (ℕ × Item)) (i : ℕ × Item) → given_lines style name (is ++ i ∷ []) ≡ given_lines style name is ++ lines_given style name i.0 i.1
given_lines-push style name [] i = append-nil (lines_given style name i.0 i.1)
given_lines-push style name (x ∷ is) i = ap (λ l. lines_given style name x.0 x.1 ++ l) (given_lines-push style name is i) ∙ sym (append_assoc (lines_given style name x.0 x.1) (given_lines style name is) (lines_given style name i.0 i.1))

pub given_lines_more : (style : Style) (name : List ℕ) (is : List (ℕ × Item)) (i : ℕ) (x : ℕ × Item) → i < length is → x ≡ get_or is i x → given_lines style name (take (i + 1) is) ≡ given_lines style name (take i is) ++ lines_given style name x.0 x.1
given_lines_more style name is i x l e = ap (given_lines style name) (take_more is i x l ∙ ap (λ y. take i is ++ y ∷ []) (sym e)) ∙ given_lines-push style name (take i is) x

-- ---- the messages of a batch ----

message_lines-push : (name : List ℕ) (s k : ℕ) (ms : List (List ℕ)) (m : List ℕ) → message_lines_from name s k (ms ++ m ∷ []) ≡ message_lines_from name s k ms ++ lines.BatchMessage name s (k + length ms) m ∷ []
message_lines-push name s k [] m = ap (λ j. lines.BatchMessage name s j m ∷ []) (omega arith)
message_lines-push name s k (x ∷ ms) m = ap (λ l. lines.BatchMessage name s k x ∷ l) (message_lines-push name s (k + 1) ms m ∙ ap (λ j. message_lines_from name s (k + 1) ms ++ lines.BatchMessage name s j m ∷ []) (omega arith))

pub message_lines_more : (name : List ℕ) (s : ℕ) (ms : List (List ℕ)) (i : ℕ) (m : List ℕ) → i < length ms → m ≡ get_or ms i m → message_lines_from name s 0 (take (i + 1) ms) ≡ message_lines_from name s 0 (take i ms) ++ lines.BatchMessage name s i m ∷ []
message_lines_more name s ms i m l e = ap (message_lines_from name s 0) (take_more ms i m l ∙ ap (λ y. take i ms ++ y ∷ []) (sym e)) ∙ (message_lines-push name s 0 (take i ms) m ∙ ap (λ j. message_lines_from name s 0 (take i ms) ++ lines.BatchMessage name s j m ∷ []) (let z = length-take-le i ms (omega arith) in omega arith))

-- what is no record has one line
pub no_record : (name : List ℕ) (s : ℕ) (i : Item) → ((p : List ℕ) → i ≡ RecordHere p → ⊥) → unpacked_lines name s i ≡ given_line name s i ∷ []
no_record name s (TrimTo last) n = refl
no_record name s (RecordHere p) n = absurd (n p refl)
no_record name s HoleHere n = refl
no_record name s (BridgeTo last) n = refl
no_record name s LossHere n = refl
no_record name s (LossTo last) n = refl

pub messages_are : (number l : ℕ) (bs : List (ℕ × Body)) → messages_from number l bs ≡ posted (whos.Reader number) l bs
messages_are number l [] = refl
messages_are number l (b ∷ bs) = ap (λ ms. record { from = whos.Reader number; to = whos.Node b.0; log = l; body = b.1 } ∷ ms) (messages_are number l bs)
