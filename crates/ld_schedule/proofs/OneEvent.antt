-- A text is that of one event.
use Rattle.std.specs.Prelude.{codes, Bool, ◌&&◌, if◌then◌else◌, ◌==◌, Result}
use Rattle.std.specs.Cmp.Lexicographic.{pointwise}
use Rattle.std.proofs.Common.{◌≡◌, inl, inr, ℕ, zero, suc, ◌-◌, ◌<◌, subst, List, [], ◌∷◌, ◌++◌, length, get_or, true, false, refl, sym, ap, ◌∙◌, arith, decimal, Ok}
use Rattle.std.proofs.lemmas.Bool.{and_parts, cases_Bool}
use Rattle.std.proofs.lemmas.List.Elements.{All-head, All-tail}
use Rattle.std.proofs.lemmas.Fmt.{decimal_injective}
use Rattle.hex.specs.Hex.{lower_digits, decode_of}
use Rattle.hex.specs.declared.error.FromHexError.{FromHexError}
use Rattle.hex.proofs.HexLemmas.{length-encode_with, decode_of-encode_lower}
use Rattle.ld_lsn.specs.Text.{Lacks}
use Rattle.ld_lsn.specs.Number.{lsn_text}
use Rattle.ld_lsn.proofs.Texts.{parted, one_lsn, Lacks-not}
use Rattle.ld_ids.specs.Bytes.{AreBytes, hex_text}
use Rattle.ld_ids.specs.Id.{IsNode, IsLog}
use Rattle.ld_schedule.specs.declared.event.Picture.TheVariants as pictures
use Rattle.ld_schedule.specs.declared.event.Event.{Event}
use Rattle.ld_schedule.specs.declared.event.Event.TheVariants.{Format, Activate, Append, Batch, Trim, Retry, Drop, Deliver, Lose, Flow, Open, OpenOne, OpenMessages, Poll, Tick, Down, Up, Wipe, Fail, Tear, Set, Replace, Calm, RegFail}
use Rattle.ld_schedule.specs.declared.form.Form.{Form}
use Rattle.ld_schedule.specs.declared.form.Form.TheVariants as forms
use Rattle.ld_schedule.specs.declared.form.NodeForm.TheVariants as node_forms
use Rattle.ld_schedule.specs.declared.form.NameForm.TheVariants as name_forms
use Rattle.ld_schedule.specs.declared.form.CountForm.TheVariants as count_forms
use Rattle.ld_schedule.specs.Reading.{AllLack}
use Rattle.ld_schedule.specs.Grammar.{IsName, IsCount, IsMessage, IsLsn, IsPicture, IsByte, IsFactor, AreExtras, AreParts, IsBatch, messages_text, picture_text, byte_text, done_text, nodes_text, is_name_byte, IsNamed, event_text, blank}
use Rattle.ld_schedule.specs.Form.{form_of}
use Rattle.ld_schedule.specs.WordLaws.{node_lacks, log_lacks, count_lacks, factor_lacks, extras_lack, name_lacks, lsn_lacks}
use Rattle.ld_schedule.proofs.Rising.{one_nodes}
use Rattle.ld_schedule.proofs.MessageLists.{payload_comma}
use Rattle.ld_batch.specs.Batch.{batch_limit}

-- a text of the language is that of one value
abbrev HasOne : {V : Type 0} → (V → Type 0) → (V → List ℕ) → Type 0
HasOne {V} named text = (v w : V) → named v → named w → text v ≡ text w → v ≡ w

abbrev itself : List ℕ → List ℕ
itself name = name

one_node : HasOne IsNode decimal
one_node v w a b e = decimal_injective v w (omega (arith, a.1)) (omega (arith, b.1)) e

one_log : HasOne IsLog decimal
one_log v w a b e = decimal_injective v w (omega (arith, a.1)) (omega (arith, b.1)) e

one_count : HasOne IsCount decimal
one_count v w a b e = decimal_injective v w (omega (arith, a.1)) (omega (arith, b.1)) e

one_factor : HasOne IsFactor decimal
one_factor v w a b e = decimal_injective v w (omega (arith, a.1)) (omega (arith, b.1)) e

one_extras : HasOne AreExtras decimal
one_extras v w a b e = decimal_injective v w (omega (arith, a)) (omega (arith, b)) e

one_message : HasOne IsMessage decimal
one_message v w a b e = decimal_injective v w (omega (arith, a)) (omega (arith, b)) e

ok_injective : (a b : List ℕ) → ◌≡◌ {A = Result (List ℕ) FromHexError} (Ok a) (Ok b) → a ≡ b
ok_injective a b e = cc

one_payload : HasOne AreBytes hex_text
unfolding hex_text
one_payload [] [] a b e = refl
one_payload [] (x ∷ q) a b e = absurd (omega (arith, ap length e, length-encode_with lower_digits (x ∷ q)))
one_payload (x ∷ p) [] a b e = absurd (omega (arith, ap length e, length-encode_with lower_digits (x ∷ p)))
one_payload (x ∷ p) (y ∷ q) a b e =
    ok_injective (x ∷ p) (y ∷ q) (sym (decode_of-encode_lower (x ∷ p) a) ∙ ap decode_of e ∙ decode_of-encode_lower (y ∷ q) b)

pub byte_bytes : (b : ℕ) → b < 256 → AreBytes (b ∷ [])
byte_bytes b small zero = small
byte_bytes b small (suc i) = omega arith

first_of : (a b : ℕ) → a ∷ [] ≡ b ∷ [] → a ≡ b
first_of a b e = cc

one_byte : HasOne IsByte byte_text
one_byte v w a b e =
    first_of v w (ok_injective (v ∷ []) (w ∷ []) (sym (decode_of-encode_lower (v ∷ []) (byte_bytes v a)) ∙ ap decode_of e ∙ decode_of-encode_lower (w ∷ []) (byte_bytes w b)))

one_picture : HasOne IsPicture picture_text
unfolding picture_text
one_picture pictures.Old pictures.Old a b e = refl
one_picture pictures.Old pictures.New a b e = absurd (omega (arith, ap (λ l. get_or l 0 0) e))
one_picture pictures.Old (pictures.Byte w) a b e = absurd (omega (arith, ap length e, length-encode_with lower_digits (w ∷ [])))
one_picture pictures.New pictures.Old a b e = absurd (omega (arith, ap (λ l. get_or l 0 0) e))
one_picture pictures.New pictures.New a b e = refl
one_picture pictures.New (pictures.Byte w) a b e = absurd (omega (arith, ap length e, length-encode_with lower_digits (w ∷ [])))
one_picture (pictures.Byte v) pictures.Old a b e = absurd (omega (arith, ap length e, length-encode_with lower_digits (v ∷ [])))
one_picture (pictures.Byte v) pictures.New a b e = absurd (omega (arith, ap length e, length-encode_with lower_digits (v ∷ [])))
one_picture (pictures.Byte v) (pictures.Byte w) a b e = ap (λ n. pictures.Byte n) (one_byte v w a b e)

one_done : (v w : Bool) → done_text v ≡ done_text w → v ≡ w
one_done true true e = refl
one_done true false e = absurd (omega (arith, ap (λ l. get_or l 0 0) e))
one_done false true e = absurd (omega (arith, ap (λ l. get_or l 0 0) e))
one_done false false e = refl

-- a text is that of one list of messages
one_batch : (most : ℕ) → HasOne (AreParts most) messages_text
one_batch most [] w a b e = absurd (omega (arith, a.0))
one_batch most (m ∷ ms) [] a b e = absurd (omega (arith, b.0))
one_batch most (m ∷ []) (k ∷ []) a b e = ap (λ n. n ∷ []) (one_payload m k (All-head AreBytes m [] a.2) (All-head AreBytes k [] b.2) e)
one_batch most (m ∷ []) (k ∷ l ∷ ks) a b e = absurd (Lacks-not 44 (hex_text k) (messages_text (l ∷ ks)) (subst (Lacks 44) e (payload_comma m (All-head AreBytes m [] a.2))))
one_batch most (m ∷ n ∷ ms) (k ∷ []) a b e = absurd (Lacks-not 44 (hex_text m) (messages_text (n ∷ ms)) (subst (Lacks 44) (sym e) (payload_comma k (All-head AreBytes k [] b.2))))
one_batch most (m ∷ n ∷ ms) (k ∷ l ∷ ks) a b e =
    let first = All-head AreBytes m (n ∷ ms) a.2 in
    let other = All-head AreBytes k (l ∷ ks) b.2 in
    let parts = parted 44 (hex_text m) (hex_text k) (messages_text (n ∷ ms)) (messages_text (l ∷ ks)) (payload_comma m first) (payload_comma k other) e in
    let rest = one_batch (most - 1) (n ∷ ms) (l ∷ ks) (omega arith, omega (arith, a.1), All-tail AreBytes m (n ∷ ms) a.2) (omega arith, omega (arith, b.1), All-tail AreBytes k (l ∷ ks) b.2) parts.1 in
    ap (λ x. x ∷ n ∷ ms) (one_payload m k first other parts.0) ∙ ap (λ l. k ∷ l) rest

one_messages : HasOne IsBatch messages_text
one_messages v w a b e = one_batch batch_limit v w a b e

-- the parts on both sides of a byte that the first part lacks
pub record AreSame {A B : Type 0} (v x : A) (b y : B) : Type 0 where
  pub first : v ≡ x
  pub second : b ≡ y

same_parts : {A : Type 0} (m : A → Type 0) (s : A → List ℕ) (v w : A) (x y : List ℕ) → AllLack m s 32 → HasOne m s → m v → m w → s v ++ 32 ∷ x ≡ s w ++ 32 ∷ y → AreSame v w x y
same_parts m s v w x y lack one a b e =
    let parts = parted 32 (s v) (s w) x y (lack v a) (lack w b) e in
    record { first = one v w a b parts.0; second = parts.1 }

one_name : HasOne IsName itself
one_name v w a b e = e

-- the first word of a line, without the blank behind it
abbrev pub word_of : Form → List ℕ
word_of (forms.Node node_forms.Format) = codes "format"
word_of (forms.Name name_forms.Activate) = codes "activate"
word_of (forms.Name name_forms.Append) = codes "append"
word_of (forms.Name name_forms.Trim) = codes "trim"
word_of (forms.Name name_forms.Retry) = codes "retry"
word_of (forms.Name name_forms.Drop) = codes "drop"
word_of (forms.Count count_forms.Deliver) = codes "deliver"
word_of (forms.Count count_forms.Lose) = codes "lose"
word_of (forms.Count count_forms.Flow) = codes "flow"
word_of (forms.Name name_forms.Open) = codes "open"
word_of (forms.Name name_forms.Poll) = codes "poll"
word_of (forms.Node node_forms.Tick) = codes "tick"
word_of (forms.Node node_forms.Down) = codes "down"
word_of (forms.Node node_forms.Up) = codes "up"
word_of (forms.Node node_forms.Wipe) = codes "wipe"
word_of (forms.Node node_forms.Fail) = codes "fail"
word_of (forms.Node node_forms.Tear) = codes "tear"
word_of (forms.Count count_forms.Set) = codes "set"
word_of (forms.Node node_forms.Replace) = codes "replace"
word_of (forms.Name name_forms.Batch) = codes "batch"
word_of (forms.Name name_forms.OpenOne) = codes "openone"
word_of (forms.Name name_forms.OpenMessages) = codes "openmsgs"
word_of (forms.Count count_forms.RegFail) = codes "regfail"
word_of forms.Calm = codes "calm"

abbrev is_word : List ℕ → List ℕ → Bool
is_word = pointwise ◌==◌

-- the form that a word tells
abbrev told : List ℕ → Form
told word =
    if is_word word (codes "format") then (forms.Node node_forms.Format)
    else if is_word word (codes "activate") then (forms.Name name_forms.Activate)
    else if is_word word (codes "append") then (forms.Name name_forms.Append)
    else if is_word word (codes "trim") then (forms.Name name_forms.Trim)
    else if is_word word (codes "retry") then (forms.Name name_forms.Retry)
    else if is_word word (codes "drop") then (forms.Name name_forms.Drop)
    else if is_word word (codes "deliver") then (forms.Count count_forms.Deliver)
    else if is_word word (codes "lose") then (forms.Count count_forms.Lose)
    else if is_word word (codes "flow") then (forms.Count count_forms.Flow)
    else if is_word word (codes "open") then (forms.Name name_forms.Open)
    else if is_word word (codes "poll") then (forms.Name name_forms.Poll)
    else if is_word word (codes "tick") then (forms.Node node_forms.Tick)
    else if is_word word (codes "down") then (forms.Node node_forms.Down)
    else if is_word word (codes "up") then (forms.Node node_forms.Up)
    else if is_word word (codes "wipe") then (forms.Node node_forms.Wipe)
    else if is_word word (codes "fail") then (forms.Node node_forms.Fail)
    else if is_word word (codes "tear") then (forms.Node node_forms.Tear)
    else if is_word word (codes "set") then (forms.Count count_forms.Set)
    else if is_word word (codes "replace") then (forms.Node node_forms.Replace)
    else if is_word word (codes "batch") then (forms.Name name_forms.Batch)
    else if is_word word (codes "openone") then (forms.Name name_forms.OpenOne)
    else if is_word word (codes "openmsgs") then (forms.Name name_forms.OpenMessages)
    else if is_word word (codes "calm") then forms.Calm
    else (forms.Count count_forms.RegFail)

told_again : (form : Form) → told (word_of form) ≡ form
told_again (forms.Node node_forms.Format) = refl
told_again (forms.Name name_forms.Activate) = refl
told_again (forms.Name name_forms.Append) = refl
told_again (forms.Name name_forms.Trim) = refl
told_again (forms.Name name_forms.Retry) = refl
told_again (forms.Name name_forms.Drop) = refl
told_again (forms.Count count_forms.Deliver) = refl
told_again (forms.Count count_forms.Lose) = refl
told_again (forms.Count count_forms.Flow) = refl
told_again (forms.Name name_forms.Open) = refl
told_again (forms.Name name_forms.Poll) = refl
told_again (forms.Node node_forms.Tick) = refl
told_again (forms.Node node_forms.Down) = refl
told_again (forms.Node node_forms.Up) = refl
told_again (forms.Node node_forms.Wipe) = refl
told_again (forms.Node node_forms.Fail) = refl
told_again (forms.Node node_forms.Tear) = refl
told_again (forms.Count count_forms.Set) = refl
told_again (forms.Node node_forms.Replace) = refl
told_again (forms.Name name_forms.Batch) = refl
told_again (forms.Name name_forms.OpenOne) = refl
told_again (forms.Name name_forms.OpenMessages) = refl
told_again (forms.Count count_forms.RegFail) = refl
told_again forms.Calm = refl

abbrev are_letters : List ℕ → Bool
are_letters [] = true
are_letters (x ∷ xs) = is_name_byte x && are_letters xs

letters_of : (form : Form) → are_letters (word_of form) ≡ true
letters_of (forms.Node node_forms.Format) = refl
letters_of (forms.Name name_forms.Activate) = refl
letters_of (forms.Name name_forms.Append) = refl
letters_of (forms.Name name_forms.Trim) = refl
letters_of (forms.Name name_forms.Retry) = refl
letters_of (forms.Name name_forms.Drop) = refl
letters_of (forms.Count count_forms.Deliver) = refl
letters_of (forms.Count count_forms.Lose) = refl
letters_of (forms.Count count_forms.Flow) = refl
letters_of (forms.Name name_forms.Open) = refl
letters_of (forms.Name name_forms.Poll) = refl
letters_of (forms.Node node_forms.Tick) = refl
letters_of (forms.Node node_forms.Down) = refl
letters_of (forms.Node node_forms.Up) = refl
letters_of (forms.Node node_forms.Wipe) = refl
letters_of (forms.Node node_forms.Fail) = refl
letters_of (forms.Node node_forms.Tear) = refl
letters_of (forms.Count count_forms.Set) = refl
letters_of (forms.Node node_forms.Replace) = refl
letters_of (forms.Name name_forms.Batch) = refl
letters_of (forms.Name name_forms.OpenOne) = refl
letters_of (forms.Name name_forms.OpenMessages) = refl
letters_of (forms.Count count_forms.RegFail) = refl
letters_of forms.Calm = refl

letters_lack : (c : ℕ) (xs : List ℕ) → is_name_byte c ≡ false → are_letters xs ≡ true → Lacks c xs
letters_lack c [] other are = tt
letters_lack c (x ∷ xs) other are =
    let parts = and_parts (is_name_byte x) (are_letters xs) are in
    (λ e. let both : true ≡ false = sym parts.0 ∙ ap is_name_byte e ∙ other in cc, letters_lack c xs other parts.1)

-- the first word lacks each byte that isn't a small letter or a digit
pub words_lack : (c : ℕ) (form : Form) → is_name_byte c ≡ false → Lacks c (word_of form)
words_lack c form other = letters_lack c (word_of form) other (letters_of form)

-- what follows the first word and the blank
abbrev pub parts_of : Event → List ℕ
parts_of (Format n) = decimal n
parts_of (Activate s l) = s ++ blank ∷ decimal l
parts_of (Append s p) = s ++ blank ∷ hex_text p
parts_of (Batch s ms) = s ++ blank ∷ messages_text ms
parts_of (Trim s p) = s ++ blank ∷ lsn_text p
parts_of (Retry s) = s
parts_of (Drop s) = s
parts_of (Deliver i) = decimal i
parts_of (Lose i) = decimal i
parts_of (Flow k) = decimal k
parts_of (Open s l f u) = s ++ blank ∷ (decimal l ++ blank ∷ (lsn_text f ++ blank ∷ lsn_text u))
parts_of (OpenOne s l f u) = s ++ blank ∷ (decimal l ++ blank ∷ (lsn_text f ++ blank ∷ lsn_text u))
parts_of (OpenMessages s l f u) = s ++ blank ∷ (decimal l ++ blank ∷ (lsn_text f ++ blank ∷ lsn_text u))
parts_of (Poll s) = s
parts_of (Tick n l) = decimal n ++ blank ∷ decimal l
parts_of (Down n) = decimal n
parts_of (Up n) = decimal n
parts_of (Wipe n) = decimal n
parts_of (Fail n k) = decimal n ++ blank ∷ decimal k
parts_of (Tear n k p) = decimal n ++ blank ∷ (decimal k ++ blank ∷ picture_text p)
parts_of (Set l r x s) = decimal l ++ blank ∷ (decimal r ++ blank ∷ (decimal x ++ blank ∷ nodes_text s))
parts_of (Replace n m l) = decimal n ++ blank ∷ (decimal m ++ blank ∷ decimal l)
parts_of Calm = []
parts_of (RegFail k d) = decimal k ++ blank ∷ done_text d

-- the event whose line is its word alone
abbrev pub is_calm : Event → Bool
is_calm Calm = true
is_calm _ = false

pub calm_is : (e : Event) → is_calm e ≡ true → e ≡ Calm
calm_is Calm h = refl
calm_is _ h = absurd cc

-- the line of any other event
pub text_parts : (e : Event) → is_calm e ≡ false → event_text e ≡ word_of (form_of e) ++ 32 ∷ parts_of e
unfolding event_text
text_parts (Format n) h = refl
text_parts (Activate s l) h = refl
text_parts (Append s p) h = refl
text_parts (Batch s ms) h = refl
text_parts (Trim s p) h = refl
text_parts (Retry s) h = refl
text_parts (Drop s) h = refl
text_parts (Deliver i) h = refl
text_parts (Lose i) h = refl
text_parts (Flow k) h = refl
text_parts (Open s l f u) h = refl
text_parts (OpenOne s l f u) h = refl
text_parts (OpenMessages s l f u) h = refl
text_parts (Poll s) h = refl
text_parts (Tick n l) h = refl
text_parts (Down n) h = refl
text_parts (Up n) h = refl
text_parts (Wipe n) h = refl
text_parts (Fail n k) h = refl
text_parts (Tear n k p) h = refl
text_parts (Set l r x s) h = refl
text_parts (Replace n m l) h = refl
text_parts Calm h = absurd cc
text_parts (RegFail k d) h = refl

same_form : (a b : Event) → is_calm a ≡ false → is_calm b ≡ false → event_text a ≡ event_text b → AreSame (form_of a) (form_of b) (parts_of a) (parts_of b)
same_form a b p q e =
    let parts = parted 32 (word_of (form_of a)) (word_of (form_of b)) (parts_of a) (parts_of b) (words_lack 32 (form_of a) refl) (words_lack 32 (form_of b) refl) (sym (text_parts a p) ∙ e ∙ text_parts b q) in
    record { first = sym (told_again (form_of a)) ∙ ap told parts.0 ∙ told_again (form_of b); second = parts.1 }

same_event : (a b : Event) → IsNamed a → IsNamed b → form_of a ≡ form_of b → parts_of a ≡ parts_of b → a ≡ b
same_event (Format n) (Format n2) a b form e = ap (λ x. Format x) (one_node n n2 a b e)
same_event (Format n) _ a b form e = absurd (cc)
same_event (Activate s l) (Activate s2 l2) a b form e =
    let parts = same_parts IsName itself s s2 _ _ name_lacks one_name a.0 b.0 e in
    let x : s ≡ s2 = parts.first in
    let y : l ≡ l2 = one_log l l2 a.1 b.1 parts.second in cc
same_event (Activate s l) _ a b form e = absurd (cc)
same_event (Append s p) (Append s2 p2) a b form e =
    let parts = same_parts IsName itself s s2 _ _ name_lacks one_name a.0 b.0 e in
    let x : s ≡ s2 = parts.first in
    let y : p ≡ p2 = one_payload p p2 a.1 b.1 parts.second in cc
same_event (Append s p) _ a b form e = absurd (cc)
same_event (Batch s ms) (Batch s2 ms2) a b form e =
    let parts = same_parts IsName itself s s2 _ _ name_lacks one_name a.0 b.0 e in
    let x : s ≡ s2 = parts.first in
    let y : ms ≡ ms2 = one_messages ms ms2 a.1 b.1 parts.second in cc
same_event (Batch s ms) _ a b form e = absurd (cc)
same_event (Trim s p) (Trim s2 p2) a b form e =
    let parts = same_parts IsName itself s s2 _ _ name_lacks one_name a.0 b.0 e in
    let x : s ≡ s2 = parts.first in
    let y : p ≡ p2 = one_lsn p p2 a.1 b.1 parts.second in cc
same_event (Trim s p) _ a b form e = absurd (cc)
same_event (Retry s) (Retry s2) a b form e = ap (λ x. Retry x) e
same_event (Retry s) _ a b form e = absurd (cc)
same_event (Drop s) (Drop s2) a b form e = ap (λ x. Drop x) e
same_event (Drop s) _ a b form e = absurd (cc)
same_event (Deliver i) (Deliver i2) a b form e = ap (λ x. Deliver x) (one_message i i2 a b e)
same_event (Deliver i) _ a b form e = absurd (cc)
same_event (Lose i) (Lose i2) a b form e = ap (λ x. Lose x) (one_message i i2 a b e)
same_event (Lose i) _ a b form e = absurd (cc)
same_event (Flow k) (Flow k2) a b form e = ap (λ x. Flow x) (one_count k k2 a b e)
same_event (Flow k) _ a b form e = absurd (cc)
same_event (Open s l f u) (Open s2 l2 f2 u2) a b form e =
    let one = same_parts IsName itself s s2 _ _ name_lacks one_name a.0 b.0 e in
    let two = same_parts IsLog decimal l l2 _ _ log_lacks one_log a.1 b.1 one.second in
    let three = same_parts IsLsn lsn_text f f2 _ _ lsn_lacks one_lsn a.2 b.2 two.second in
    let w : s ≡ s2 = one.first in
    let x : l ≡ l2 = two.first in
    let y : f ≡ f2 = three.first in
    let z : u ≡ u2 = one_lsn u u2 a.3 b.3 three.second in cc
same_event (Open s l f u) _ a b form e = absurd (cc)
same_event (OpenOne s l f u) (OpenOne s2 l2 f2 u2) a b form e =
    let one = same_parts IsName itself s s2 _ _ name_lacks one_name a.0 b.0 e in
    let two = same_parts IsLog decimal l l2 _ _ log_lacks one_log a.1 b.1 one.second in
    let three = same_parts IsLsn lsn_text f f2 _ _ lsn_lacks one_lsn a.2 b.2 two.second in
    let w : s ≡ s2 = one.first in
    let x : l ≡ l2 = two.first in
    let y : f ≡ f2 = three.first in
    let z : u ≡ u2 = one_lsn u u2 a.3 b.3 three.second in cc
same_event (OpenOne s l f u) _ a b form e = absurd (cc)
same_event (OpenMessages s l f u) (OpenMessages s2 l2 f2 u2) a b form e =
    let one = same_parts IsName itself s s2 _ _ name_lacks one_name a.0 b.0 e in
    let two = same_parts IsLog decimal l l2 _ _ log_lacks one_log a.1 b.1 one.second in
    let three = same_parts IsLsn lsn_text f f2 _ _ lsn_lacks one_lsn a.2 b.2 two.second in
    let w : s ≡ s2 = one.first in
    let x : l ≡ l2 = two.first in
    let y : f ≡ f2 = three.first in
    let z : u ≡ u2 = one_lsn u u2 a.3 b.3 three.second in cc
same_event (OpenMessages s l f u) _ a b form e = absurd (cc)
same_event (Poll s) (Poll s2) a b form e = ap (λ x. Poll x) e
same_event (Poll s) _ a b form e = absurd (cc)
same_event (Tick n l) (Tick n2 l2) a b form e =
    let parts = same_parts IsNode decimal n n2 _ _ node_lacks one_node a.0 b.0 e in
    let x : n ≡ n2 = parts.first in
    let y : l ≡ l2 = one_log l l2 a.1 b.1 parts.second in cc
same_event (Tick n l) _ a b form e = absurd (cc)
same_event (Down n) (Down n2) a b form e = ap (λ x. Down x) (one_node n n2 a b e)
same_event (Down n) _ a b form e = absurd (cc)
same_event (Up n) (Up n2) a b form e = ap (λ x. Up x) (one_node n n2 a b e)
same_event (Up n) _ a b form e = absurd (cc)
same_event (Wipe n) (Wipe n2) a b form e = ap (λ x. Wipe x) (one_node n n2 a b e)
same_event (Wipe n) _ a b form e = absurd (cc)
same_event (Fail n k) (Fail n2 k2) a b form e =
    let parts = same_parts IsNode decimal n n2 _ _ node_lacks one_node a.0 b.0 e in
    let x : n ≡ n2 = parts.first in
    let y : k ≡ k2 = one_count k k2 a.1 b.1 parts.second in cc
same_event (Fail n k) _ a b form e = absurd (cc)
same_event (Tear n k p) (Tear n2 k2 p2) a b form e =
    let one = same_parts IsNode decimal n n2 _ _ node_lacks one_node a.0 b.0 e in
    let two = same_parts IsCount decimal k k2 _ _ count_lacks one_count a.1 b.1 one.second in
    let x : n ≡ n2 = one.first in
    let y : k ≡ k2 = two.first in
    let z : p ≡ p2 = one_picture p p2 a.2 b.2 two.second in cc
same_event (Tear n k p) _ a b form e = absurd (cc)
same_event (Set l r x s) (Set l2 r2 x2 s2) a b form e =
    let one = same_parts IsLog decimal l l2 _ _ log_lacks one_log a.0 b.0 e in
    let two = same_parts IsFactor decimal r r2 _ _ factor_lacks one_factor a.1 b.1 one.second in
    let three = same_parts AreExtras decimal x x2 _ _ extras_lack one_extras a.2 b.2 two.second in
    let w : l ≡ l2 = one.first in
    let u : r ≡ r2 = two.first in
    let y : x ≡ x2 = three.first in
    let z : s ≡ s2 = one_nodes s s2 a.3 b.3 three.second in cc
same_event (Set l r x s) _ a b form e = absurd (cc)
same_event (Replace n m l) (Replace n2 m2 l2) a b form e =
    let one = same_parts IsNode decimal n n2 _ _ node_lacks one_node a.0 b.0 e in
    let two = same_parts IsNode decimal m m2 _ _ node_lacks one_node a.1 b.1 one.second in
    let x : n ≡ n2 = one.first in
    let y : m ≡ m2 = two.first in
    let z : l ≡ l2 = one_log l l2 a.2 b.2 two.second in cc
same_event (Replace n m l) _ a b form e = absurd (cc)
same_event Calm Calm a b form e = refl
same_event Calm _ a b form e = absurd (cc)
same_event (RegFail k d) (RegFail k2 d2) a b form e =
    let parts = same_parts IsCount decimal k k2 _ _ count_lacks one_count a b e in
    let x : k ≡ k2 = parts.first in
    let y : d ≡ d2 = one_done d d2 parts.second in cc
same_event (RegFail k d) _ a b form e = absurd (cc)

-- no other event has that line
not_alone : (e : Event) → is_calm e ≡ false → event_text e ≡ codes "calm" → ⊥
not_alone e h is = Lacks-not 32 (word_of (form_of e)) (parts_of e) (subst (Lacks 32) (sym is ∙ text_parts e h) (words_lack 32 forms.Calm refl))

pub one_event : (a b : Event) → IsNamed a → IsNamed b → event_text a ≡ event_text b → a ≡ b
unfolding event_text
one_event a b can also e = elim (cases_Bool (is_calm a)) [
  | inl p ↦ elim (cases_Bool (is_calm b)) [
    | inl q ↦ calm_is a p ∙ sym (calm_is b q)
    | inr q ↦ absurd (not_alone b q (sym e ∙ ap event_text (calm_is a p)))
  ]
  | inr p ↦ elim (cases_Bool (is_calm b)) [
    | inl q ↦ absurd (not_alone a p (e ∙ ap event_text (calm_is b q)))
    | inr q ↦ let same = same_form a b p q e in same_event a b can also same.first same.second
  ]
]
