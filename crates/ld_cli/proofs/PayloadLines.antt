-- The payloads and trims of an input, a line at a time.
use Rattle.std.proofs.Common.{◌≡◌, ◌≢◌, inl, inr, ◌≤◌, ◌<◌, ◌+◌, ◌&&◌, nat_le, ℕ, Bool, true, false, List, [], ◌∷◌, ◌++◌, length, Option, None, Some, Ok, Err, refl, sym, ap, ◌∙◌, subst, arith, if◌then◌else◌, append_assoc, suc, map, ◌==◌, ◌^◌, nat_lt, take, drop, decimal}
use Rattle.std.specs.Prelude.{Result, IfSome}
use Rattle.std.specs.Io.KnownBytes.{prepend_known, Consumes, IsAtEnd}
use Rattle.std.proofs.lemmas.Bool.{ne_eqb, le-leb, lt-ltb, ltb-true, cases_eq}
use Rattle.std.proofs.lemmas.Bool.Decides.{nat_tests}
use Rattle.std.specs.List.{All}
use Rattle.std.specs.Str.Parse.{AllDigits, digits_value}
use Rattle.std.proofs.lemmas.Str.Parse.{IsNumeralModel, numerals_by_value, tells_digits}
use Rattle.std.proofs.lemmas.Fmt.{digits_value-decimal}
use Rattle.std.proofs.lemmas.List.{append-nil, length-append, take-append-drop}
use Rattle.std.proofs.lemmas.List.Elements.{All-nil, All-cons, All-head, All-tail}
use Rattle.hex.specs.Hex.{decode_of}
use Rattle.hex.specs.declared.error.FromHexError.{FromHexError}
use Rattle.hex.proofs.HexLemmas.{decode_of-encode_lower, decode_of-ok}
use Rattle.ld_io.specs.Memory.{is_listed}
use Rattle.ld_table.specs.Named.{same}
use Rattle.ld_table.proofs.NameLaws.{same-true, same-self}
use Rattle.ld_lsn.specs.Text.{Lacks}
use Rattle.ld_lsn.specs.Number.{epoch_of, esn_of, pair_text, lsn_text}
use Rattle.ld_lsn.proofs.Texts.{decimal_lacks}
use Rattle.ld_ids.specs.Bytes.{AreBytes, hex_text}
use Rattle.ld_batch.specs.Batch.{batch_limit}
use Rattle.ld_schedule.specs.Grammar.{IsBatch, messages_text}
use Rattle.ld_schedule.proofs.MessageLists.{payload_comma}
use Rattle.ld_schedule.specs.WordLaws.{no_bytes}
use Rattle.ld_rounds.specs.Lines.{longest, ended, trim_word, trim_text, IsNoTrim, IsOffTrim, IsOffPayload, IsMisspelt, IsOffRequest}
use Rattle.ld_rounds.specs.Input.{Input, all_taken, Gives}
use Rattle.ld_rounds.specs.Input as inputs
use Rattle.ld_rounds.specs.declared.payloads.InputFault.{InputFault}
use Rattle.ld_rounds.specs.declared.payloads.InputFault.TheVariants as faults
use Rattle.ld_rounds.specs.declared.request.Request.{Request}
use Rattle.ld_rounds.specs.declared.request.Request.TheVariants as asks
use Rattle.ld_cli.specs.Payloads.{batch_payload, IsBatchLine, SpellsPayload, Spells, IsUnspelt, halves_from, numbered_by, point_in, trim_in, append_of, request_in, decoded, bytes_in, single_in, parts_from, messages_in, batch_in, payload_in, counted, cut_at, with_line, input_from, input_after, line_ready, payloads_in}

-- ---- a line ----

decoded_text : (payload : List ℕ) → AreBytes payload → bytes_in (hex_text payload) ≡ payload
unfolding hex_text
decoded_text [] bytes = refl
decoded_text (b ∷ payload) bytes = ap decoded (decode_of-encode_lower (b ∷ payload) bytes)

decoded_bytes : (line : List ℕ) (r : Result (List ℕ) FromHexError) → decode_of line ≡ r → AreBytes (decoded r)
decoded_bytes line (Ok bytes) e = (decode_of-ok line bytes e).3
decoded_bytes line (Err fault) e = no_bytes

both_true : (a b : Bool) → a ≡ true → b ≡ true → (a && b) ≡ true
both_true true b h k = k
both_true false b h k = absurd cc

-- a line that spells a payload is read as it
spells_single : (line payload : List ℕ) → length line ≤ longest → line ≡ hex_text payload → AreBytes payload → single_in line ≡ Some payload
spells_single line payload short is bytes =
    let d : bytes_in line ≡ payload = ap bytes_in is ∙ decoded_text payload bytes in
    let s : same line (hex_text (bytes_in line)) ≡ true = ap (λ p. same line (hex_text p)) d ∙ (ap (same line) (sym is) ∙ same-self line) in
    ap (λ (b : Bool). if b then Some (bytes_in line) else None) (both_true (nat_le (length line) longest) (same line (hex_text (bytes_in line))) (le-leb (length line) longest short) s) ∙ ap (λ (p : List ℕ). Some p) d

none_by : (b : Bool) (line : List ℕ) → same line (hex_text (bytes_in line)) ≡ b → ((value : List ℕ) → AreBytes value → line ≢ hex_text value) → b ≡ false
none_by false line e none = refl
none_by true line e none = absurd (none (bytes_in line) (decoded_bytes line (decode_of line) refl) (same-true line (hex_text (bytes_in line)) e))

and_false : (a b : Bool) → b ≡ false → (a && b) ≡ false
and_false true b h = h
and_false false b h = refl

-- another line isn't
single_none : (line : List ℕ) → ((value : List ℕ) → AreBytes value → line ≢ hex_text value) → single_in line ≡ None
single_none line none =
    ap (λ (b : Bool). if b then Some (bytes_in line) else None)
    (and_false (nat_le (length line) longest) (same line (hex_text (bytes_in line))) (none_by (same line (hex_text (bytes_in line))) line refl none))

-- ---- the messages of a line ----

parts_front : (seen front rest : List ℕ) → Lacks 44 front → parts_from seen (front ++ rest) ≡ parts_from (seen ++ front) rest
parts_front seen [] rest lacks = ap (λ l. parts_from l rest) (sym (append-nil seen))
parts_front seen (b ∷ front) rest lacks =
    ap (λ (x : Bool). if x then seen ∷ parts_from [] (front ++ rest) else parts_from (seen ++ b ∷ []) (front ++ rest)) (ne_eqb b 44 lacks.0)
    ∙ (parts_front (seen ++ b ∷ []) front rest lacks.1 ∙ ap (λ l. parts_from l rest) (append_assoc seen (b ∷ []) front))

parts_one : (front : List ℕ) → Lacks 44 front → parts_from [] front ≡ front ∷ []
parts_one front lacks = ap (parts_from []) (sym (append-nil front)) ∙ parts_front [] front [] lacks

parts_text : (m : List ℕ) (ms : List (List ℕ)) → All AreBytes (m ∷ ms) → parts_from [] (messages_text (m ∷ ms)) ≡ map hex_text (m ∷ ms)
parts_text m [] are = parts_one (hex_text m) (payload_comma m (All-head AreBytes m [] are))
parts_text m (n ∷ ms) are =
    parts_front [] (hex_text m) (44 ∷ messages_text (n ∷ ms)) (payload_comma m (All-head AreBytes m (n ∷ ms) are))
    ∙ ap (λ l. hex_text m ∷ l) (parts_text n ms (All-tail AreBytes m (n ∷ ms) are))

messages_decoded : (ms : List (List ℕ)) → All AreBytes ms → map bytes_in (map hex_text ms) ≡ ms
messages_decoded [] are = refl
messages_decoded (m ∷ ms) are = ap (λ p. p ∷ map bytes_in (map hex_text ms)) (decoded_text m (All-head AreBytes m ms are)) ∙ ap (λ l. m ∷ l) (messages_decoded ms (All-tail AreBytes m ms are))

messages_of : (ms : List (List ℕ)) → 1 ≤ length ms → All AreBytes ms → messages_in (messages_text ms) ≡ ms
messages_of [] some are = absurd (omega (arith, some))
messages_of (m ∷ ms) some are = ap (map bytes_in) (parts_text m ms are) ∙ messages_decoded (m ∷ ms) are

is_batch : (line : List ℕ) (ms : List (List ℕ)) → line ≡ messages_text ms → IsBatch ms → messages_in line ≡ ms
is_batch line ms is can = ap messages_in is ∙ messages_of ms can.0 can.2

-- a line that spells the messages of a batch is read as its payload
spells_batch : (line payload : List ℕ) → length line ≤ longest → IsBatchLine line payload → batch_in line ≡ Some payload
spells_batch line payload short b =
    let d : messages_in line ≡ b.messages = is_batch line b.messages b.text.is b.text.can in
    let few : nat_le (length (messages_in line)) batch_limit ≡ true = ap (λ (ms : List (List ℕ)). nat_le (length ms) batch_limit) d ∙ le-leb (length b.messages) batch_limit b.text.can.1 in
    let s : same line (messages_text (messages_in line)) ≡ true = ap (λ ms. same line (messages_text ms)) d ∙ (ap (same line) (sym b.text.is) ∙ same-self line) in
    let whole = both_true (nat_le (length line) longest) (nat_le (length (messages_in line)) batch_limit && same line (messages_text (messages_in line))) (le-leb (length line) longest short) (both_true (nat_le (length (messages_in line)) batch_limit) (same line (messages_text (messages_in line))) few s) in
    ap (λ (x : Bool). if x then Some (batch_payload (messages_in line)) else None) whole ∙ ap (λ (p : List ℕ). Some p) (ap batch_payload d ∙ sym b.packs)

some_if : (b : Bool) (x y : List (List ℕ)) → 1 ≤ length x → 1 ≤ length y → 1 ≤ length (if b then x else y)
some_if true x y h k = h
some_if false x y h k = k

some_parts : (seen line : List ℕ) → 1 ≤ length (parts_from seen line)
some_parts seen [] = omega arith
some_parts seen (b ∷ line) = some_if (b == 44) (seen ∷ parts_from [] line) (parts_from (seen ++ b ∷ []) line) (omega arith) (some_parts (seen ++ b ∷ []) line)

some_decoded : (ps : List (List ℕ)) → length (map bytes_in ps) ≡ length ps
some_decoded [] = refl
some_decoded (p ∷ ps) = ap suc (some_decoded ps)

all_decoded : (ps : List (List ℕ)) → All AreBytes (map bytes_in ps)
all_decoded [] = All-nil AreBytes
all_decoded (p ∷ ps) = All-cons AreBytes (bytes_in p) (map bytes_in ps) (decoded_bytes p (decode_of p) refl) (all_decoded ps)

no_batch_by : (few s : Bool) (line : List ℕ) → nat_le (length (messages_in line)) batch_limit ≡ few → same line (messages_text (messages_in line)) ≡ s
    → ((ms : List (List ℕ)) → IsBatch ms → line ≢ messages_text ms) → (few && s) ≡ false
no_batch_by false s line e f none = refl
no_batch_by true false line e f none = refl
no_batch_by true true line e f none =
    let some : 1 ≤ length (messages_in line) = omega (arith, some_decoded (parts_from [] line), some_parts [] line) in
    let limit : length (messages_in line) ≤ batch_limit = grind (arith, nat_tests, e) in
    absurd (none (messages_in line) (some, limit, all_decoded (parts_from [] line)) (same-true line (messages_text (messages_in line)) f))

batch_none : (line : List ℕ) → ((ms : List (List ℕ)) → IsBatch ms → line ≢ messages_text ms) → batch_in line ≡ None
batch_none line none =
    ap (λ (b : Bool). if b then Some (batch_payload (messages_in line)) else None)
    (and_false (nat_le (length line) longest) (nat_le (length (messages_in line)) batch_limit && same line (messages_text (messages_in line)))
    (no_batch_by (nat_le (length (messages_in line)) batch_limit) (same line (messages_text (messages_in line))) line refl refl none))

-- ---- a line of either kind ----

spells_payload : (batches : Bool) (line payload : List ℕ) → length line ≤ longest → SpellsPayload batches line payload → payload_in batches line ≡ Some payload
spells_payload false line payload short text = spells_single line payload short text.is text.can
spells_payload true line payload short text = spells_batch line payload short text

payload_none : (batches : Bool) (line : List ℕ) (place : ℕ) → IsOffPayload batches line place → payload_in batches line ≡ None
payload_none false line place off = single_none line off.none
payload_none true line place off = batch_none line off.none

-- ---- a trim ----

halves_front : (seen front rest : List ℕ) → Lacks 110 front → halves_from seen (front ++ 110 ∷ rest) ≡ (seen ++ front, rest)
halves_front seen [] rest lacks = ap (λ (l : List ℕ). (l, rest)) (sym (append-nil seen))
halves_front seen (b ∷ front) rest lacks =
    ap (λ (x : Bool). if x then (seen, front ++ 110 ∷ rest) else halves_from (seen ++ b ∷ []) (front ++ 110 ∷ rest)) (ne_eqb b 110 lacks.0)
    ∙ (halves_front (seen ++ b ∷ []) front rest lacks.1 ∙ ap (λ (l : List ℕ). (l, rest)) (append_assoc seen (b ∷ []) front))

numerals : IsNumeralModel (AllDigits 10) (digits_value 10)
numerals = numerals_by_value (AllDigits 10) tells_digits

-- the text of a number is read as it
point_of_text : (point : ℕ) → point < 2 ^ 64 → point_in (lsn_text point) ≡ point
unfolding pair_text
point_of_text point small =
    let x : ℕ = epoch_of point in
    let y : ℕ = esn_of point in
    let parts = halves_front [] (decimal x) (decimal y) (decimal_lacks 110 x (inr (omega arith)) (omega (arith, small))) in
    let high : digits_value 10 (decimal x) ≡ x = digits_value-decimal numerals x (omega (arith, small)) in
    let low : digits_value 10 (decimal y) ≡ y = digits_value-decimal numerals y (omega arith) in
    ap numbered_by parts ∙ omega (arith, high, low)

begins_trim : (line behind : List ℕ) → line ≡ trim_word ++ behind → same (take 5 line) trim_word ≡ true
begins_trim line behind e = ap (λ (l : List ℕ). same (take 5 l) trim_word) e ∙ same-self trim_word

no_trim_by : (b : Bool) (line : List ℕ) → same (take 5 line) trim_word ≡ b → IsNoTrim line → b ≡ false
no_trim_by false line e none = refl
no_trim_by true line e none = absurd (none (drop 5 line) (sym (take-append-drop 5 line) ∙ ap (λ (l : List ℕ). l ++ drop 5 line) (same-true (take 5 line) trim_word e)))

no_trim : (batches : Bool) (line : List ℕ) → IsNoTrim line → request_in batches line ≡ append_of (payload_in batches line)
no_trim batches line none = ap (λ (b : Bool). if b then trim_in line else append_of (payload_in batches line)) (no_trim_by (same (take 5 line) trim_word) line refl none)

is_trim : (batches : Bool) (line behind : List ℕ) → line ≡ trim_word ++ behind → request_in batches line ≡ trim_in line
is_trim batches line behind e = ap (λ (b : Bool). if b then trim_in line else append_of (payload_in batches line)) (begins_trim line behind e)

spells_trim : (line : List ℕ) (point : ℕ) → length line ≤ longest → point < 2 ^ 64 → line ≡ trim_text point → trim_in line ≡ Some (asks.Trim point)
spells_trim line point short small is =
    let rest : drop 5 line ≡ lsn_text point = ap (drop 5) is in
    let p : point_in (drop 5 line) ≡ point = ap point_in rest ∙ point_of_text point small in
    let below : nat_lt (point_in (drop 5 line)) (2 ^ 64) ≡ true = ap (λ (n : ℕ). nat_lt n (2 ^ 64)) p ∙ lt-ltb point (2 ^ 64) small in
    let s : same (drop 5 line) (lsn_text (point_in (drop 5 line))) ≡ true = ap (λ (n : ℕ). same (drop 5 line) (lsn_text n)) p ∙ (ap (same (drop 5 line)) (sym rest) ∙ same-self (drop 5 line)) in
    let whole = both_true (nat_le (length line) longest) (nat_lt (point_in (drop 5 line)) (2 ^ 64) && same (drop 5 line) (lsn_text (point_in (drop 5 line)))) (le-leb (length line) longest short)
    (both_true (nat_lt (point_in (drop 5 line)) (2 ^ 64)) (same (drop 5 line) (lsn_text (point_in (drop 5 line)))) below s) in
    ap (λ (x : Bool). if x then Some (asks.Trim (point_in (drop 5 line))) else None) whole ∙ ap (λ (n : ℕ). Some (asks.Trim n)) p

off_trim_by : (below s : Bool) (line behind : List ℕ) → drop 5 line ≡ behind → nat_lt (point_in (drop 5 line)) (2 ^ 64) ≡ below → same (drop 5 line) (lsn_text (point_in (drop 5 line))) ≡ s
    → ((point : ℕ) → point < 2 ^ 64 → behind ≢ lsn_text point) → (below && s) ≡ false
off_trim_by false s line behind d e f none = refl
off_trim_by true false line behind d e f none = refl
off_trim_by true true line behind d e f none =
    let small : point_in (drop 5 line) < 2 ^ 64 = ltb-true (point_in (drop 5 line)) (2 ^ 64) e in
    absurd (none (point_in (drop 5 line)) small (sym d ∙ same-true (drop 5 line) (lsn_text (point_in (drop 5 line))) f))

trim_none : (line : List ℕ) (place : ℕ) → IsOffTrim line place → trim_in line ≡ None
trim_none line place off =
    ap (λ (b : Bool). if b then Some (asks.Trim (point_in (drop 5 line))) else None)
    (and_false (nat_le (length line) longest) (nat_lt (point_in (drop 5 line)) (2 ^ 64) && same (drop 5 line) (lsn_text (point_in (drop 5 line))))
    (off_trim_by (nat_lt (point_in (drop 5 line)) (2 ^ 64)) (same (drop 5 line) (lsn_text (point_in (drop 5 line)))) line off.behind (ap (drop 5) off.begins) refl refl off.none))

-- ---- what a line asks for ----

spells : (batches : Bool) (line : List ℕ) (request : Request) → length line ≤ longest → Spells batches line request → request_in batches line ≡ Some request
spells batches line (asks.Append payload) short text = no_trim batches line text.0 ∙ ap append_of (spells_payload batches line payload short text.1)
spells batches line (asks.Trim point) short text = is_trim batches line (lsn_text point) text.1 ∙ spells_trim line point short text.0 text.1

spells_none : (batches : Bool) (line : List ℕ) (place : ℕ) → IsMisspelt batches line place → request_in batches line ≡ None
spells_none batches line place (inl off) = is_trim batches line off.behind off.begins ∙ trim_none line place off
spells_none batches line place (inr off) = no_trim batches line off.0 ∙ ap append_of (payload_none batches line place off.1)

not_short : (n : ℕ) → longest < n → nat_le n longest ≡ false
not_short n l = grind (arith, nat_tests)

too_long_payload : (batches : Bool) (line : List ℕ) → longest < length line → payload_in batches line ≡ None
too_long_payload false line l = ap (λ (b : Bool). if b && same line (hex_text (bytes_in line)) then Some (bytes_in line) else None) (not_short (length line) l)
too_long_payload true line l =
    ap (λ (b : Bool). if b && (nat_le (length (messages_in line)) batch_limit && same line (messages_text (messages_in line))) then Some (batch_payload (messages_in line)) else None) (not_short (length line) l)

if_none : (b : Bool) (x y : Option Request) → x ≡ None → y ≡ None → (if b then x else y) ≡ None
if_none true x y h k = h
if_none false x y h k = k

too_long : (batches : Bool) (line : List ℕ) → longest < length line → request_in batches line ≡ None
too_long batches line l =
    if_none (same (take 5 line) trim_word) (trim_in line) (append_of (payload_in batches line))
    (ap (λ (b : Bool). if b && (nat_lt (point_in (drop 5 line)) (2 ^ 64) && same (drop 5 line) (lsn_text (point_in (drop 5 line)))) then Some (asks.Trim (point_in (drop 5 line))) else None) (not_short (length line) l))
    (ap append_of (too_long_payload batches line l))

-- ---- bytes ----

module _ (batches : Bool) where
  -- bytes that end no line belong to it
  scan_front : (number : ℕ) (seen line rest : List ℕ) → Lacks 10 line → input_from batches number seen (line ++ rest) ≡ input_from batches number (seen ++ line) rest
  unfolding input_from
  scan_front number seen [] rest one = ap (λ l. input_from batches number l rest) (sym (append-nil seen))
  scan_front number seen (b ∷ line) rest one =
      ap (λ (x : Bool). if x then with_line batches number seen (line ++ rest) (request_in batches seen) (input_from batches (counted number) [] (line ++ rest)) else input_from batches number (seen ++ b ∷ []) (line ++ rest)) (ne_eqb b 10 one.0)
      ∙ (scan_front number (seen ++ b ∷ []) line rest one.1 ∙ ap (λ l. input_from batches number l rest) (append_assoc seen (b ∷ []) line))

  scan_line : (number : ℕ) (line rest : List ℕ) → Lacks 10 line → input_from batches number [] (ended line ++ rest) ≡ with_line batches number line rest (request_in batches line) (input_from batches (counted number) [] rest)
  unfolding input_from
  scan_line number line rest one = ap (input_from batches number []) (append_assoc line (10 ∷ []) rest) ∙ scan_front number [] line (10 ∷ rest) one

  scan_cut : (number : ℕ) (line : List ℕ) → Lacks 10 line → input_from batches number [] line ≡ cut_at batches number line
  unfolding input_from
  scan_cut number line one = ap (input_from batches number []) (sym (append-nil line)) ∙ scan_front number [] line [] one

  -- nothing is asked for any more, and the bytes are from the line of this number on
  pub record IsStuck (number : ℕ) (bytes : List ℕ) (input : Input) : Type 0 where
    pub none : input.requests ≡ []
    pub off : input.off ≡ Some (record { number = number; bytes = bytes; batches = batches })

  stuck_cut : (number : ℕ) (line : List ℕ) → 0 < length line → IsStuck number line (cut_at batches number line)
  stuck_cut number [] l = absurd (omega arith)
  stuck_cut number (b ∷ line) l = record { none = refl; off = refl }

  stuck_line : (number : ℕ) (line rest : List ℕ) (o : Option Request) (input : Input) → o ≡ None → IsStuck number (line ++ 10 ∷ rest) (with_line batches number line rest o input)
  stuck_line number line rest None input e = record { none = refl; off = refl }
  stuck_line number line rest (Some p) input e = absurd cc

  stuck_as : (number other : ℕ) (bytes more : List ℕ) (input : Input) → number ≡ other → bytes ≡ more → IsStuck number bytes input → IsStuck other more input
  stuck_as number other bytes more input e f s = record {
    none = s.none;
    off = s.off ∙ (ap (λ l. Some (record { number = number; bytes = l; batches = batches })) f ∙ ap (λ n. Some (record { number = n; bytes = more; batches = batches })) e);
  }

  -- a line that is too long
  scan_long : (number : ℕ) (seen rest : List ℕ) → longest < length seen → IsStuck number (seen ++ rest) (input_from batches number seen rest)
  unfolding input_from
  scan_long number seen [] l = stuck_as number number seen (seen ++ []) (cut_at batches number seen) refl (sym (append-nil seen)) (stuck_cut number seen (omega (arith, l)))
  scan_long number seen (b ∷ rest) l = elim (cases_eq b 10) [
    | inl e ↦ subst (λ (x : ℕ). IsStuck number (seen ++ x ∷ rest) (input_from batches number seen (x ∷ rest))) (sym e) (stuck_line number seen rest (request_in batches seen) (input_from batches (counted number) [] rest) (too_long batches seen l))
    | inr n ↦
        let longer : longest < length (seen ++ b ∷ []) = omega (arith, l, length-append seen (b ∷ [])) in
        let next : input_from batches number seen (b ∷ rest) ≡ input_from batches number (seen ++ b ∷ []) rest =
        ap (λ (x : Bool). if x then with_line batches number seen rest (request_in batches seen) (input_from batches (counted number) [] rest) else input_from batches number (seen ++ b ∷ []) rest) (ne_eqb b 10 n) in
        subst (λ (x : Input). IsStuck number (seen ++ b ∷ rest) x) (sym next) (stuck_as number number ((seen ++ b ∷ []) ++ rest) (seen ++ b ∷ rest) (input_from batches number (seen ++ b ∷ []) rest) refl (append_assoc seen (b ∷ []) rest) (scan_long number (seen ++ b ∷ []) rest longer))
  ]

-- ---- what each line gives ----

off_by : (batches : Bool) (number place : ℕ) (bytes : List ℕ) (input : Input) → IsStuck batches number bytes input → IsOffRequest batches bytes place → inputs.IsOff input number place
off_by batches number place bytes input s off = record { none = s.none; off = record { rest = bytes; batches = batches; off = s.off; at = off } }

some_of : (x front y : List ℕ) → x ≡ front ++ y → 1 ≤ length front → 1 ≤ length x
some_of x front y taken some = omega (arith, ap length taken, length-append front y)

module _ (batches : Bool) (k number : ℕ) (count : number ≡ counted k) (line : List ℕ) (one : Lacks 10 line) where
  pub request_gives : (a b : Option (List ℕ)) (request : Request) → length line ≤ longest → Consumes a b (ended line) → Spells batches line request → Gives (input_after batches k a) (input_after batches number b) (Ok (Some request))
  request_gives None b request short taken text = tt
  request_gives (Some x) None request short taken text = absurd taken
  request_gives (Some x) (Some y) request short taken text =
      let rest : Input = input_from batches (counted (counted k)) [] y in
      let whole : input_from batches (counted k) [] x ≡ record { requests = request ∷ rest.requests; off = rest.off } =
      ap (input_from batches (counted k) []) taken ∙ (scan_line batches (counted k) line y one ∙ ap (λ o. with_line batches (counted k) line y o rest) (spells batches line request short text)) in
      record {
        rest = rest.requests;
        first = ap (λ (i : Input). i.requests) whole;
        left = ap (λ n. Some (input_from batches (counted n) [] y)) count ∙ ap (λ o. Some (record { requests = rest.requests; off = o })) (sym (ap (λ (i : Input). i.off) whole));
      }

  unspelt_off : (x y : List ℕ) (place : ℕ) → length line ≤ longest → x ≡ ended line ++ y → IsMisspelt batches line place → inputs.IsOff (input_from batches (counted k) [] x) number place
  unspelt_off x y place short taken off =
      let input : Input = input_from batches (counted k) [] x in
      let whole : input ≡ with_line batches (counted k) line y (request_in batches line) (input_from batches (counted (counted k)) [] y) = ap (input_from batches (counted k) []) taken ∙ scan_line batches (counted k) line y one in
      let stuck : IsStuck batches (counted k) (line ++ 10 ∷ y) input =
      subst (λ (i : Input). IsStuck batches (counted k) (line ++ 10 ∷ y) i) (sym whole) (stuck_line batches (counted k) line y (request_in batches line) (input_from batches (counted (counted k)) [] y) (spells_none batches line place off)) in
      let bytes : line ++ 10 ∷ y ≡ x = sym (taken ∙ append_assoc line (10 ∷ []) y) in
      off_by batches number place x input (stuck_as batches (counted k) number (line ++ 10 ∷ y) x input (sym count) bytes stuck)
      (record { some = some_of x (ended line) y taken (omega (arith, length-append line (10 ∷ []))); off = inr (inr (record { line = line; rest = y; begins = record { splits = taken; one = one; short = short }; off = off })) })

  unspelt_by : (x y : List ℕ) (fault : InputFault) → length line ≤ longest → x ≡ ended line ++ y → IsUnspelt batches number line fault → Gives (input_after batches k (Some x)) (input_after batches number (Some y)) (Err fault)
  unspelt_by x y (faults.BadLine at place) short taken off = subst (λ (n : ℕ). inputs.IsOff (input_from batches (counted k) [] x) n place) (sym off.0) (unspelt_off x y place short taken off.1)
  unspelt_by x y faults.NoMemory short taken off = tt
  unspelt_by x y faults.Read short taken off = absurd off

  pub unspelt_gives : (a b : Option (List ℕ)) (fault : InputFault) → length line ≤ longest → Consumes a b (ended line) → IsUnspelt batches number line fault → Gives (input_after batches k a) (input_after batches number b) (Err fault)
  unspelt_gives None b fault short taken off = tt
  unspelt_gives (Some x) None fault short taken off = absurd taken
  unspelt_gives (Some x) (Some y) fault short taken off = unspelt_by x y fault short taken off

  pub cut_gives : (a b : Option (List ℕ)) → length line ≤ longest → 0 < length line → Consumes a b line → IsAtEnd b → Gives (input_after batches k a) (input_after batches number b) (Err (faults.BadLine number (length line)))
  cut_gives None b short some taken end = tt
  cut_gives (Some x) None short some taken end = absurd taken
  cut_gives (Some x) (Some y) short some taken end =
      let whole : x ≡ line = taken ∙ (ap (λ l. line ++ l) end ∙ append-nil line) in
      let input : input_from batches (counted k) [] x ≡ cut_at batches (counted k) line = ap (input_from batches (counted k) []) whole ∙ scan_cut batches (counted k) line one in
      let stuck : IsStuck batches (counted k) line (input_from batches (counted k) [] x) = subst (λ (i : Input). IsStuck batches (counted k) line i) (sym input) (stuck_cut batches (counted k) line some) in
      off_by batches number (length line) x (input_from batches (counted k) [] x) (stuck_as batches (counted k) number line x (input_from batches (counted k) [] x) (sym count) (sym whole) stuck)
      (record { some = omega (arith, ap length whole, some); off = inr (inl (record { one = subst (Lacks 10) (sym whole) one; short = omega (arith, ap length whole, short); at = ap length (sym whole) })) })

  pub long_gives : (a b : Option (List ℕ)) → length line ≡ longest + 1 → Consumes a b line → Gives (input_after batches k a) (input_after batches number b) (Err (faults.BadLine number longest))
  long_gives None b long taken = tt
  long_gives (Some x) None long taken = absurd taken
  long_gives (Some x) (Some y) long taken =
      let input : input_from batches (counted k) [] x ≡ input_from batches (counted k) line y = ap (input_from batches (counted k) []) taken ∙ scan_front batches (counted k) [] line y one in
      let stuck : IsStuck batches (counted k) (line ++ y) (input_from batches (counted k) [] x) = subst (λ (i : Input). IsStuck batches (counted k) (line ++ y) i) (sym input) (scan_long batches (counted k) line y (omega (arith, long))) in
      off_by batches number longest x (input_from batches (counted k) [] x) (stuck_as batches (counted k) number (line ++ y) x (input_from batches (counted k) [] x) (sym count) (sym taken) stuck)
      (record { some = some_of x line y taken (omega (arith, long)); off = inl (record { front = line; rest = y; splits = taken; long = long; one = one; at = refl }) })

none_left : (batches : Bool) (number : ℕ) (bytes : List ℕ) → bytes ≡ [] → input_from batches number [] bytes ≡ all_taken
unfolding input_from
none_left batches number bytes e = ap (input_from batches number []) e

pub end_gives : (batches : Bool) (k number : ℕ) (a b : Option (List ℕ)) → IsAtEnd a → IsAtEnd b → Consumes a b [] → Gives (input_after batches k a) (input_after batches number b) (Ok None)
end_gives batches k number None b p q taken = tt
end_gives batches k number (Some x) None p q taken = absurd taken
end_gives batches k number (Some x) (Some y) p q taken = (none_left batches (counted k) x p, ap (λ (i : Input). Some i) (none_left batches (counted number) y q))

-- a fault without a line
pub read_gives : (i j : Option Input) → Gives i j (Err faults.Read)
read_gives None j = tt
read_gives (Some i) j = tt

pub memory_gives : (i j : Option Input) → Gives i j (Err faults.NoMemory)
memory_gives None j = tt
memory_gives (Some i) j = tt

-- nothing was read yet
nothing_read : (batches : Bool) (a : Option (List ℕ)) → input_after batches 0 (prepend_known [] a) ≡ payloads_in batches a
nothing_read batches None = refl
nothing_read batches (Some x) = refl

pub nothing_held : (batches kind : Bool) (k : ℕ) (held : List ℕ) (a : Option (List ℕ)) → kind ≡ batches → k ≡ 0 → held ≡ [] → input_after kind k (prepend_known held a) ≡ payloads_in batches a
nothing_held batches kind k held a s e h =
    ap (λ b. input_after b k (prepend_known held a)) s ∙ (ap (λ n. input_after batches n (prepend_known held a)) e ∙ (ap (λ l. input_after batches 0 (prepend_known l a)) h ∙ nothing_read batches a))

-- ---- whether a line is there ----

pub ready_held : (bytes : List ℕ) (o : Option Bool) (b : Bool) → b ≡ is_listed 10 bytes → b ≡ true → IfSome (line_ready bytes o) (λ is_ready. true ≡ is_ready)
ready_held bytes None b h t = tt
ready_held bytes (Some true) b h t = refl
ready_held bytes (Some false) b h t = sym t ∙ h

pub ready_read : (bytes : List ℕ) (o : Option Bool) (b result : Bool) → b ≡ is_listed 10 bytes → b ≡ false → IfSome o (λ is_ready. result ≡ is_ready) → IfSome (line_ready bytes o) (λ is_ready. result ≡ is_ready)
ready_read bytes None b result h f s = tt
ready_read bytes (Some true) b result h f s = s
ready_read bytes (Some false) b result h f s = s ∙ (sym f ∙ h)
