-- No text of an event has the byte that ends a line.
use Rattle.std.specs.Prelude.{Bool}
use Rattle.std.proofs.Common.{inl, inr, sym, subst, ℕ, ◌<◌, ◌^◌, List, [], ◌∷◌, ◌++◌, true, false, refl, arith, decimal}
use Rattle.std.specs.List.{All}
use Rattle.std.proofs.lemmas.List.Elements.{All-head, All-tail}
use Rattle.std.proofs.lemmas.Bool.{cases_Bool}
use Rattle.hex.specs.Hex.{encode_lower}
use Rattle.ld_lsn.specs.Text.{Lacks}
use Rattle.ld_lsn.specs.Number.{epoch_of, esn_of, pair_text, lsn_text}
use Rattle.ld_lsn.proofs.Texts.{Lacks-append}
use Rattle.ld_ids.specs.Bytes.{AreBytes, hex_text}
use Rattle.ld_ids.specs.Id.{IsLog}
use Rattle.ld_ids.specs.Set.{members, numbers_text}
use Rattle.ld_schedule.specs.declared.event.Picture.{Picture}
use Rattle.ld_schedule.specs.declared.event.Picture.TheVariants as pictures
use Rattle.ld_schedule.specs.declared.event.Event.{Event}
use Rattle.ld_schedule.specs.declared.event.Event.TheVariants.{Format, Activate, Append, Batch, Trim, Retry, Drop, Deliver, Lose, Flow, Open, OpenOne, OpenMessages, Poll, Tick, Down, Up, Wipe, Fail, Tear, Set, Replace, Calm, RegFail}
use Rattle.ld_schedule.specs.Grammar.{IsName, IsLsn, IsPicture, is_name_byte, is_digit, IsNodes, picture_text, done_text, nodes_text, messages_text, IsNamed, event_text, blank}
use Rattle.ld_schedule.specs.Form.{form_of}
use Rattle.ld_schedule.specs.declared.form.Form.TheVariants as forms
use Rattle.ld_schedule.specs.Rising.{IsRising}
use Rattle.ld_schedule.specs.WordLaws.{decimal_lacks}
use Rattle.ld_schedule.proofs.Rising.{members_rising}
use Rattle.ld_schedule.proofs.HexTexts.{encode_passes}
use Rattle.ld_schedule.proofs.MessageLists.{passed_lack}
use Rattle.ld_schedule.proofs.OneEvent.{byte_bytes, word_of, words_lack, parts_of, text_parts, is_calm, calm_is}

name_10 : (name : List ℕ) → IsName name → Lacks 10 name
name_10 name named = passed_lack is_name_byte 10 refl name named.2

number_10 : (n : ℕ) → n < 2 ^ 64 → Lacks 10 (decimal n)
number_10 n small = decimal_lacks 10 n (inl (omega arith)) small

digits_10 : (bytes : List ℕ) → AreBytes bytes → Lacks 10 (encode_lower bytes)
digits_10 bytes are = passed_lack is_digit 10 refl (encode_lower bytes) (encode_passes bytes are)

payload_10 : (bytes : List ℕ) → AreBytes bytes → Lacks 10 (hex_text bytes)
unfolding hex_text
payload_10 [] are = (omega arith, tt)
payload_10 (b ∷ bytes) are = digits_10 (b ∷ bytes) are

lsn_10 : (v : ℕ) → IsLsn v → Lacks 10 (lsn_text v)
unfolding pair_text
lsn_10 v named = (omega arith, Lacks-append 10 (decimal (epoch_of v)) (110 ∷ decimal (esn_of v)) (number_10 (epoch_of v) (omega arith)) (omega arith, number_10 (esn_of v) (omega arith)))

picture_10 : (p : Picture) → IsPicture p → Lacks 10 (picture_text p)
unfolding picture_text
picture_10 pictures.Old named = (omega arith, (omega arith, (omega arith, tt)))
picture_10 pictures.New named = (omega arith, (omega arith, (omega arith, tt)))
picture_10 (pictures.Byte b) named = digits_10 (b ∷ []) (byte_bytes b named)

numbers_10 : (low : ℕ) (ns : List ℕ) → IsRising low ns → Lacks 10 (numbers_text ns)
numbers_10 low [] are = tt
numbers_10 low (n ∷ []) are = number_10 n (omega (arith, are.0.1))
numbers_10 low (n ∷ m ∷ ns) are = Lacks-append 10 (decimal n) (44 ∷ numbers_text (m ∷ ns)) (number_10 n (omega (arith, are.0.1))) (omega arith, numbers_10 n (m ∷ ns) are.1)

nodes_10 : (set : List Bool) → IsNodes set → Lacks 10 (nodes_text set)
nodes_10 set can = numbers_10 0 (members set) (members_rising set can.0)

messages_10 : (ms : List (List ℕ)) → All AreBytes ms → Lacks 10 (messages_text ms)
messages_10 [] all = tt
messages_10 (m ∷ []) all = payload_10 m (All-head AreBytes m [] all)
messages_10 (m ∷ n ∷ ms) all =
    Lacks-append 10 (hex_text m) (44 ∷ messages_text (n ∷ ms)) (payload_10 m (All-head AreBytes m (n ∷ ms) all)) (omega arith, messages_10 (n ∷ ms) (All-tail AreBytes m (n ∷ ms) all))

done_10 : (d : Bool) → Lacks 10 (done_text d)
done_10 true = (omega arith, (omega arith, (omega arith, (omega arith, tt))))
done_10 false = (omega arith, (omega arith, (omega arith, (omega arith, (omega arith, (omega arith, tt))))))

between : (a b : List ℕ) → Lacks 10 a → Lacks 10 b → Lacks 10 (a ++ blank ∷ b)
between a b first second = Lacks-append 10 a (blank ∷ b) first (omega arith, second)

opened_10 : (s : List ℕ) (l f u : ℕ) → IsName s × IsLog l × IsLsn f × IsLsn u → Lacks 10 (s ++ blank ∷ (decimal l ++ blank ∷ (lsn_text f ++ blank ∷ lsn_text u)))
opened_10 s l f u can = between s (decimal l ++ blank ∷ (lsn_text f ++ blank ∷ lsn_text u)) (name_10 s can.0) (between (decimal l) (lsn_text f ++ blank ∷ lsn_text u) (number_10 l (omega (arith, can.1.1))) (between (lsn_text f) (lsn_text u) (lsn_10 f can.2) (lsn_10 u can.3)))

parts_10 : (e : Event) → IsNamed e → Lacks 10 (parts_of e)
parts_10 (Format n) can = number_10 n (omega (arith, can.1))
parts_10 (Activate s l) can = between s (decimal l) (name_10 s can.0) (number_10 l (omega (arith, can.1.1)))
parts_10 (Append s p) can = between s (hex_text p) (name_10 s can.0) (payload_10 p can.1)
parts_10 (Batch s ms) can = between s (messages_text ms) (name_10 s can.0) (messages_10 ms can.1.2)
parts_10 (Trim s p) can = between s (lsn_text p) (name_10 s can.0) (lsn_10 p can.1)
parts_10 (Retry s) can = name_10 s can
parts_10 (Drop s) can = name_10 s can
parts_10 (Deliver i) can = number_10 i (omega (arith, can))
parts_10 (Lose i) can = number_10 i (omega (arith, can))
parts_10 (Flow k) can = number_10 k (omega (arith, can.1))
parts_10 (Open s l f u) can = opened_10 s l f u can
parts_10 (OpenOne s l f u) can = opened_10 s l f u can
parts_10 (OpenMessages s l f u) can = opened_10 s l f u can
parts_10 (Poll s) can = name_10 s can
parts_10 (Tick n l) can = between (decimal n) (decimal l) (number_10 n (omega (arith, can.0.1))) (number_10 l (omega (arith, can.1.1)))
parts_10 (Down n) can = number_10 n (omega (arith, can.1))
parts_10 (Up n) can = number_10 n (omega (arith, can.1))
parts_10 (Wipe n) can = number_10 n (omega (arith, can.1))
parts_10 (Fail n k) can = between (decimal n) (decimal k) (number_10 n (omega (arith, can.0.1))) (number_10 k (omega (arith, can.1.1)))
parts_10 (Tear n k p) can = between (decimal n) (decimal k ++ blank ∷ picture_text p) (number_10 n (omega (arith, can.0.1))) (between (decimal k) (picture_text p) (number_10 k (omega (arith, can.1.1))) (picture_10 p can.2))
parts_10 (Set l r x s) can = between (decimal l) (decimal r ++ blank ∷ (decimal x ++ blank ∷ nodes_text s)) (number_10 l (omega (arith, can.0.1))) (between (decimal r) (decimal x ++ blank ∷ nodes_text s) (number_10 r (omega (arith, can.1.1))) (between (decimal x) (nodes_text s) (number_10 x (omega (arith, can.2))) (nodes_10 s can.3)))
parts_10 (Replace n m l) can = between (decimal n) (decimal m ++ blank ∷ decimal l) (number_10 n (omega (arith, can.0.1))) (between (decimal m) (decimal l) (number_10 m (omega (arith, can.1.1))) (number_10 l (omega (arith, can.2.1))))
parts_10 Calm can = tt
parts_10 (RegFail k d) can = between (decimal k) (done_text d) (number_10 k (omega (arith, can.1))) (done_10 d)

pub text_lacks : (e : Event) → IsNamed e → Lacks 10 (event_text e)
unfolding event_text
text_lacks e can = elim (cases_Bool (is_calm e)) [
  | inl p ↦ subst (λ f. Lacks 10 (event_text f)) (sym (calm_is e p)) (words_lack 10 forms.Calm refl)
  | inr p ↦ rw (text_parts e p) (between (word_of (form_of e)) (parts_of e) (words_lack 10 (form_of e) refl) (parts_10 e can))
]
