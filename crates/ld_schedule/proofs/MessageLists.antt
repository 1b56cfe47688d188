-- How far a line goes with lists of messages.
use Rattle.std.proofs.Common.{◌≡◌, ◌≢◌, ◌⊎◌, ◌∙◌, inl, inr, ℕ, ◌+◌, ◌-◌, ◌*◌, ◌≤◌, ◌<◌, List, [], ◌∷◌, ◌++◌, length, true, false, refl, sym, ap, subst, arith, append_assoc, Err}
use Rattle.std.specs.Prelude.{Bool}
use Rattle.std.specs.List.{AllPass}
use Rattle.std.proofs.lemmas.List.{length-append, append-nil}
use Rattle.std.proofs.lemmas.List.Elements.{All-nil, All-cons, All-head, All-tail}
use Rattle.hex.specs.Hex.{encode_lower, lower_digits}
use Rattle.hex.proofs.HexLemmas.{length-encode_with}
use Rattle.ld_lsn.specs.Text.{Lacks}
use Rattle.ld_lsn.proofs.Texts.{parted, Lacks-not}
use Rattle.ld_ids.specs.Bytes.{AreBytes, hex_text}
use Rattle.ld_batch.specs.Batch.{packed}
use Rattle.ld_batch.proofs.Packing.{length-packed-none, length-packed-front}
use Rattle.ld_schedule.specs.declared.fault.LineFault.{LineFault}
use Rattle.ld_schedule.specs.declared.fault.LineFault.TheVariants.{Bad, NoMemory}
use Rattle.ld_schedule.specs.Reading.{Begins, IsOff, IsText, IsRead, Always, further}
use Rattle.ld_schedule.specs.Grammar.{AreParts, messages_text, is_digit}
use Rattle.ld_schedule.proofs.Prefixes.{parted_twice, past, Lacks-front}
use Rattle.ld_schedule.proofs.Languages.{begins_first}
use Rattle.ld_schedule.proofs.HexTexts.{encode_passes}

-- bytes that pass a test which the byte fails
pub passed_lack : (test : ℕ → Bool) (c : ℕ) → test c ≡ false → (xs : List ℕ) → AllPass test xs → Lacks c xs
passed_lack test c other [] all = tt
passed_lack test c other (x ∷ xs) all = (
  λ e. let both : true ≡ false = sym (All-head (λ b. test b ≡ true) x xs all) ∙ ap test e ∙ other in cc,
  passed_lack test c other xs (All-tail (λ b. test b ≡ true) x xs all),
)

pub payload_comma : (bytes : List ℕ) → AreBytes bytes → Lacks 44 (hex_text bytes)
unfolding hex_text
payload_comma [] are = (omega arith, tt)
payload_comma (b ∷ bytes) are = passed_lack is_digit 44 refl (encode_lower (b ∷ bytes)) (encode_passes (b ∷ bytes) are)

by_length : (a b : List ℕ) → (length a ≤ length b) ⊎ (length b < length a)
by_length a b = grind arith

-- a text that is parted at its first comma
record IsCut (most : ℕ) (front tail : List ℕ) : Type 0 where
  pub first : List ℕ
  pub others : List (List ℕ)
  pub is : front ≡ hex_text first
  pub can : AreBytes first
  pub rest : tail ≡ messages_text others
  pub are : AreParts (most - 1) others

cut : (most : ℕ) (ms : List (List ℕ)) (front tail : List ℕ) → Lacks 44 front → AreParts most ms → messages_text ms ≡ front ++ 44 ∷ tail → IsCut most front tail
cut most [] front tail lacks can is = absurd (omega (arith, can.0))
cut most (m ∷ []) front tail lacks can is = absurd (Lacks-not 44 front tail (subst (Lacks 44) is (payload_comma m (All-head AreBytes m [] can.2))))
cut most (m ∷ n ∷ ms) front tail lacks can is =
    let parts = parted 44 front (hex_text m) tail (messages_text (n ∷ ms)) lacks (payload_comma m (All-head AreBytes m (n ∷ ms) can.2)) (sym is) in
    record { first = m; others = n ∷ ms; is = parts.0; can = All-head AreBytes m (n ∷ ms) can.2; rest = parts.1; are = (omega arith, omega (arith, can.1), All-tail AreBytes m (n ∷ ms) can.2) }

first_of : (most : ℕ) (a rest : List ℕ) (ms : List (List ℕ)) → Lacks 44 a → AreParts most ms → messages_text ms ≡ a ++ rest → Begins AreBytes hex_text a
first_of most a rest [] lacks can is = absurd (omega (arith, can.0))
first_of most a rest (m ∷ []) lacks can is = record { value = m; can = All-head AreBytes m [] can.2; rest = rest; is = is }
first_of most a rest (m ∷ n ∷ ms) lacks can is =
    begins_first AreBytes Always hex_text 44 messages_text a lacks (record { value = (m, n ∷ ms); can = (All-head AreBytes m (n ∷ ms) can.2, tt); rest = rest; is = is })

single : (most : ℕ) (m : List ℕ) → 1 ≤ most → AreBytes m → AreParts most (m ∷ [])
single most m some are = (omega arith, omega (arith, some), All-cons AreBytes m [] are (All-nil AreBytes))

begins_single : (most : ℕ) (a : List ℕ) → 1 ≤ most → Begins AreBytes hex_text a → Begins (AreParts most) messages_text a
begins_single most a some begins = record { value = begins.value ∷ []; can = single most begins.value some begins.can; rest = begins.rest; is = begins.is }

no_list : (most : ℕ) (line : List ℕ) (ms : List (List ℕ)) → Lacks 44 line → ((m : List ℕ) → AreBytes m → line ≢ hex_text m) → AreParts most ms → line ≡ messages_text ms → ⊥
no_list most line [] lacks none can is = omega (arith, can.0)
no_list most line (m ∷ []) lacks none can is = none m (All-head AreBytes m [] can.2) is
no_list most line (m ∷ n ∷ ms) lacks none can is = Lacks-not 44 (hex_text m) (messages_text (n ∷ ms)) (subst (Lacks 44) is lacks)

-- a line without a comma that is no message
off_one : (most : ℕ) (line : List ℕ) (k : ℕ) → 1 ≤ most → Lacks 44 line → IsOff AreBytes hex_text line k → IsOff (AreParts most) messages_text line k
off_one most line k some lacks off = record {
  none = λ ms can is. no_list most line ms lacks off.none can is;
  far = record {
    front = off.far.front;
    rest = off.far.rest;
    splits = off.far.splits;
    long = off.far.long;
    begins = begins_single most off.far.front some off.far.begins;
    longest = λ a b is begins. off.far.longest a b is (first_of most a begins.rest begins.value (Lacks-front 44 a b (subst (Lacks 44) is lacks)) begins.can begins.is);
  };
}

-- a longer front of a text is parted at the first comma
cut_longer : (most : ℕ) (line front rest a b : List ℕ) → Lacks 44 front → line ≡ front ++ 44 ∷ rest → line ≡ a ++ b → length front < length a
    → (begins : Begins (AreParts most) messages_text a) → (more : List ℕ) × (a ≡ front ++ 44 ∷ more) × (rest ≡ more ++ b) × IsCut most front (more ++ begins.rest)
cut_longer most line front rest a b lacks is splits long begins =
    let more = past 44 front rest a b (sym is ∙ splits) long in
    let same : messages_text begins.value ≡ front ++ 44 ∷ (more.more ++ begins.rest) = begins.is ∙ ap (λ l. l ++ begins.rest) more.longer ∙ append_assoc front (44 ∷ more.more) begins.rest in
    (more.more, more.longer, more.rest_is, cut most begins.value front (more.more ++ begins.rest) lacks begins.can same)

-- what stands before the comma is no message
off_front : (most : ℕ) (line front rest : List ℕ) (k : ℕ) → 1 ≤ most → line ≡ front ++ 44 ∷ rest → Lacks 44 front → IsOff AreBytes hex_text front k → IsOff (AreParts most) messages_text line k
off_front most line front rest k some is lacks off = record {
  none = λ ms can spelt. let c = cut most ms front rest lacks can (sym spelt ∙ is) in off.none c.first c.can c.is;
  far = record {
    front = off.far.front;
    rest = off.far.rest ++ 44 ∷ rest;
    splits = is ∙ ap (λ l. l ++ 44 ∷ rest) off.far.splits ∙ append_assoc off.far.front off.far.rest (44 ∷ rest);
    long = off.far.long;
    begins = begins_single most off.far.front some off.far.begins;
    longest = λ a b splits begins. elim (by_length a front) [
      | inl short ↦
          let parts = parted_twice a b front (44 ∷ rest) (sym splits ∙ is) short in
          off.far.longest a parts.middle parts.longer (first_of most a begins.rest begins.value (Lacks-front 44 a parts.middle (subst (Lacks 44) parts.longer lacks)) begins.can begins.is)
      | inr long ↦ let c = (cut_longer most line front rest a b lacks is splits long begins).3 in absurd (off.none c.first c.can c.is)
    ];
  };
}

no_other : (most : ℕ) (front tail : List ℕ) → most ≡ 1 → IsCut most front tail → ⊥
no_other most front tail last c = omega (arith, c.are.0, c.are.1)

-- nothing stands behind the last message
off_last : (most : ℕ) (m line front rest : List ℕ) → line ≡ front ++ 44 ∷ rest → Lacks 44 front → IsText AreBytes hex_text front m → most ≡ 1 → IsOff (AreParts most) messages_text line (length front)
off_last most m line front rest is lacks read last = record {
  none = λ ms can spelt. no_other most front rest last (cut most ms front rest lacks can (sym spelt ∙ is));
  far = record {
    front = front;
    rest = 44 ∷ rest;
    splits = is;
    long = refl;
    begins = begins_single most front (omega (arith, last)) (record { value = m; can = read.can; rest = []; is = sym read.is ∙ sym (append-nil front) });
    longest = λ a b splits begins. elim (by_length a front) [
      | inl short ↦ short
      | inr long ↦ absurd (no_other most front _ last (cut_longer most line front rest a b lacks is splits long begins).3)
    ];
  };
}

longer_text : (m : List ℕ) (ms : List (List ℕ)) → 1 ≤ length ms → messages_text (m ∷ ms) ≡ hex_text m ++ 44 ∷ messages_text ms
longer_text m [] some = absurd (omega arith)
longer_text m (n ∷ ms) some = refl

one_more : (most : ℕ) (m : List ℕ) (ms : List (List ℕ)) → AreBytes m → AreParts (most - 1) ms → AreParts most (m ∷ ms)
one_more most m ms are others = (omega arith, omega (arith, others.0, others.1), All-cons AreBytes m ms are others.2)

-- what stands behind the comma is no list of messages
off_later : (most : ℕ) (m line front rest : List ℕ) (k : ℕ) → line ≡ front ++ 44 ∷ rest → Lacks 44 front → IsText AreBytes hex_text front m
    → IsOff (AreParts (most - 1)) messages_text rest k → IsOff (AreParts most) messages_text line (length front + 1 + k)
off_later most m line front rest k is lacks read off = record {
  none = λ ms can spelt. let c = cut most ms front rest lacks can (sym spelt ∙ is) in off.none c.others c.are c.rest;
  far = record {
    front = front ++ 44 ∷ off.far.front;
    rest = off.far.rest;
    splits = is ∙ ap (λ l. front ++ 44 ∷ l) off.far.splits ∙ sym (append_assoc front (44 ∷ off.far.front) off.far.rest);
    long = length-append front (44 ∷ off.far.front) ∙ omega (arith, off.far.long);
    begins = record {
      value = m ∷ off.far.begins.value;
      can = one_more most m off.far.begins.value read.can off.far.begins.can;
      rest = off.far.begins.rest;
      is = longer_text m off.far.begins.value off.far.begins.can.0 ∙ ap (λ l. l ++ 44 ∷ messages_text off.far.begins.value) (sym read.is) ∙ ap (λ l. front ++ 44 ∷ l) off.far.begins.is
          ∙ sym (append_assoc front (44 ∷ off.far.front) off.far.begins.rest);
    };
    longest = λ a b splits begins. elim (by_length a front) [
      | inl short ↦ omega arith
      | inr long ↦
          let found = cut_longer most line front rest a b lacks is splits long begins in
          let within = off.far.longest found.0 b found.2 (record { value = found.3.others; can = found.3.are; rest = begins.rest; is = sym found.3.rest }) in
          omega (arith, within, ap length found.1, length-append front (44 ∷ found.0))
    ];
  };
}

pub fault_one : (most : ℕ) (line : List ℕ) (fault : LineFault) → 1 ≤ most → Lacks 44 line → IsRead AreBytes hex_text line (Err fault) → IsRead (AreParts most) messages_text line (Err fault)
fault_one most line (Bad k) some lacks off = off_one most line k some lacks off
fault_one most line NoMemory some lacks off = tt

pub fault_message : (most : ℕ) (line front rest : List ℕ) (fault : LineFault) → 1 ≤ most → line ≡ front ++ 44 ∷ rest → Lacks 44 front → IsRead AreBytes hex_text front (Err fault)
    → IsRead (AreParts most) messages_text line (Err fault)
fault_message most line front rest (Bad k) some is lacks off = off_front most line front rest k some is lacks off
fault_message most line front rest NoMemory some is lacks off = tt

pub fault_full : (most : ℕ) (m line front rest : List ℕ) → line ≡ front ++ 44 ∷ rest → Lacks 44 front → IsText AreBytes hex_text front m → most ≡ 1
    → IsRead (AreParts most) messages_text line (Err (Bad (length front)))
fault_full most m line front rest is lacks read last = off_last most m line front rest is lacks read last

pub fault_others : (most : ℕ) (m line front rest : List ℕ) (fault : LineFault) → line ≡ front ++ 44 ∷ rest → Lacks 44 front → IsText AreBytes hex_text front m
    → IsRead (AreParts (most - 1)) messages_text rest (Err fault) → IsRead (AreParts most) messages_text line (Err (further (length front + 1) fault))
fault_others most m line front rest (Bad k) is lacks read off = off_later most m line front rest k is lacks read off
fault_others most m line front rest NoMemory is lacks read off = tt

pub one_read : (most : ℕ) (m line : List ℕ) → 1 ≤ most → IsText AreBytes hex_text line m → IsText (AreParts most) messages_text line (m ∷ [])
one_read most m line some read = record { can = single most m some read.can; is = read.is }

pub more_read : (most : ℕ) (m line front rest : List ℕ) (ms : List (List ℕ)) → line ≡ front ++ 44 ∷ rest → IsText AreBytes hex_text front m → IsText (AreParts (most - 1)) messages_text rest ms
    → IsText (AreParts most) messages_text line (m ∷ ms)
more_read most m line front rest ms is read others = record {
  can = one_more most m ms read.can others.can;
  is = is ∙ ap (λ l. l ++ 44 ∷ rest) read.is ∙ ap (λ l. hex_text m ++ 44 ∷ l) others.is ∙ sym (longer_text m ms others.can.0);
}

-- a batch is hardly longer than its text
message_room : (m : List ℕ) → length m ≤ length (hex_text m)
unfolding hex_text
message_room [] = omega arith
message_room (b ∷ bytes) = omega (arith, length-encode_with lower_digits (b ∷ bytes))

text_room : (ms : List (List ℕ)) → length (packed ms) ≤ 2 + 2 * length ms + length (messages_text ms)
text_room [] = omega (arith, length-packed-none)
text_room (m ∷ []) = omega (arith, length-packed-front m [], length-packed-none, message_room m)
text_room (m ∷ n ∷ ms) =
    omega (arith, text_room (n ∷ ms), length-packed-front m (n ∷ ms), message_room m, length-append (hex_text m) (44 ∷ messages_text (n ∷ ms)))

pub line_room : (most : ℕ) (line : List ℕ) (ms : List (List ℕ)) → IsText (AreParts most) messages_text line ms → length (packed ms) ≤ 2 + 2 * most + length line
line_room most line ms read = omega (arith, text_room ms, ap length read.is, read.can.1)

pub one_room : (m line : List ℕ) → IsText AreBytes hex_text line m → length m ≤ length line
one_room m line read = omega (arith, message_room m, ap length read.is)

pub one_packed : (m : List ℕ) → length (packed (m ∷ [])) ≡ length m + 4
one_packed m = omega (arith, length-packed-front m [], length-packed-none)
