-- How far a line goes with lists of nodes that rise above a number.
use Rattle.std.proofs.Common.{◌≡◌, ◌≢◌, ◌⊎◌, ◌∙◌, inl, inr, ℕ, ◌+◌, ◌-◌, ◌≤◌, ◌<◌, List, [], ◌∷◌, ◌++◌, length, true, refl, sym, ap, subst, arith, append_assoc, decimal, Ok, Err}
use Rattle.std.specs.Prelude.{Bool, Result}
use Rattle.std.proofs.lemmas.List.{length-append, append-nil, length-set}
use Rattle.ld_lsn.specs.Text.{Lacks}
use Rattle.ld_lsn.proofs.Texts.{parted, Lacks-not}
use Rattle.ld_ids.specs.Set.{with_node, members, numbers_text}
use Rattle.ld_schedule.specs.declared.fault.LineFault.{LineFault}
use Rattle.ld_schedule.specs.declared.fault.LineFault.TheVariants.{Bad, NoMemory}
use Rattle.ld_schedule.specs.Reading.{Begins, IsOff, IsText, IsRead, Always, further}
use Rattle.ld_schedule.specs.Grammar.{IsNodes, nodes_text}
use Rattle.ld_schedule.specs.Rising.{IsAbove, AreListed, AreAbove}
use Rattle.ld_schedule.proofs.Prefixes.{parted_twice, past, Lacks-front}
use Rattle.ld_schedule.proofs.Languages.{begins_first}
use Rattle.ld_schedule.proofs.Faults.{fault_along}
use Rattle.ld_schedule.proofs.Rising.{comma_free, same_number, first_member, flags_of, flags_set, flags_members, nodes_above}

by_length : (a b : List ℕ) → (length a ≤ length b) ⊎ (length b < length a)
by_length a b = grind arith

-- a text that is parted at its first comma
record IsCut (low : ℕ) (front tail : List ℕ) : Type 0 where
  pub first : ℕ
  pub others : List ℕ
  pub is : front ≡ decimal first
  pub can : IsAbove low first
  pub rest : tail ≡ numbers_text others
  pub rise : AreListed first others

cut : (low : ℕ) (ns front tail : List ℕ) → Lacks 44 front → AreListed low ns → numbers_text ns ≡ front ++ 44 ∷ tail → IsCut low front tail
cut low [] front tail lacks can is = absurd (omega (arith, can.1))
cut low (n ∷ []) front tail lacks can is = absurd (Lacks-not 44 front tail (subst (Lacks 44) is (comma_free n can.0.0.1)))
cut low (n ∷ m ∷ ns) front tail lacks can is =
    let parts = parted 44 front (decimal n) tail (numbers_text (m ∷ ns)) lacks (comma_free n can.0.0.1) (sym is) in
    record { first = n; others = m ∷ ns; is = parts.0; can = can.0.0; rest = parts.1; rise = (can.0.1, omega arith) }

first_of : (low : ℕ) (a rest ns : List ℕ) → Lacks 44 a → AreListed low ns → numbers_text ns ≡ a ++ rest → Begins (IsAbove low) decimal a
first_of low a rest [] lacks can is = absurd (omega (arith, can.1))
first_of low a rest (n ∷ []) lacks can is = record { value = n; can = can.0.0; rest = rest; is = is }
first_of low a rest (n ∷ m ∷ ns) lacks can is =
    begins_first (IsAbove low) Always decimal 44 numbers_text a lacks (record { value = (n, m ∷ ns); can = (can.0.0, tt); rest = rest; is = is })

begins_single : (low : ℕ) (a : List ℕ) → Begins (IsAbove low) decimal a → Begins (AreListed low) numbers_text a
begins_single low a begins = record { value = begins.value ∷ []; can = ((begins.can, tt), omega arith); rest = begins.rest; is = begins.is }

no_list : (low : ℕ) (line ns : List ℕ) → Lacks 44 line → ((n : ℕ) → IsAbove low n → line ≢ decimal n) → AreListed low ns → line ≡ numbers_text ns → ⊥
no_list low line [] lacks none can is = omega (arith, can.1)
no_list low line (n ∷ []) lacks none can is = none n can.0.0 is
no_list low line (n ∷ m ∷ ns) lacks none can is = Lacks-not 44 (decimal n) (numbers_text (m ∷ ns)) (subst (Lacks 44) is lacks)

-- a line without a comma that is no number
off_number : (low : ℕ) (line : List ℕ) (k : ℕ) → Lacks 44 line → IsOff (IsAbove low) decimal line k → IsOff (AreListed low) numbers_text line k
off_number low line k lacks off = record {
  none = λ ns can is. no_list low line ns lacks off.none can is;
  far = record {
    front = off.far.front;
    rest = off.far.rest;
    splits = off.far.splits;
    long = off.far.long;
    begins = begins_single low off.far.front off.far.begins;
    longest = λ a b is begins. off.far.longest a b is (first_of low a begins.rest begins.value (Lacks-front 44 a b (subst (Lacks 44) is lacks)) begins.can begins.is);
  };
}

-- a longer front of a text is parted at the first comma
cut_longer : (low : ℕ) (line front rest a b : List ℕ) → Lacks 44 front → line ≡ front ++ 44 ∷ rest → line ≡ a ++ b → length front < length a
    → (begins : Begins (AreListed low) numbers_text a) → (more : List ℕ) × (a ≡ front ++ 44 ∷ more) × (rest ≡ more ++ b) × IsCut low front (more ++ begins.rest)
cut_longer low line front rest a b lacks is splits long begins =
    let more = past 44 front rest a b (sym is ∙ splits) long in
    let same : numbers_text begins.value ≡ front ++ 44 ∷ (more.more ++ begins.rest) = begins.is ∙ ap (λ l. l ++ begins.rest) more.longer ∙ append_assoc front (44 ∷ more.more) begins.rest in
    (more.more, more.longer, more.rest_is, cut low begins.value front (more.more ++ begins.rest) lacks begins.can same)

-- what stands before the comma is no number
off_front : (low : ℕ) (line front rest : List ℕ) (k : ℕ) → line ≡ front ++ 44 ∷ rest → Lacks 44 front → IsOff (IsAbove low) decimal front k → IsOff (AreListed low) numbers_text line k
off_front low line front rest k is lacks off = record {
  none = λ ns can spelt. let c = cut low ns front rest lacks can (sym spelt ∙ is) in off.none c.first c.can c.is;
  far = record {
    front = off.far.front;
    rest = off.far.rest ++ 44 ∷ rest;
    splits = is ∙ ap (λ l. l ++ 44 ∷ rest) off.far.splits ∙ append_assoc off.far.front off.far.rest (44 ∷ rest);
    long = off.far.long;
    begins = begins_single low off.far.front off.far.begins;
    longest = λ a b splits begins. elim (by_length a front) [
      | inl short ↦
          let parts = parted_twice a b front (44 ∷ rest) (sym splits ∙ is) short in
          off.far.longest a parts.middle parts.longer (first_of low a begins.rest begins.value (Lacks-front 44 a parts.middle (subst (Lacks 44) parts.longer lacks)) begins.can begins.is)
      | inr long ↦ let c = (cut_longer low line front rest a b lacks is splits long begins).3 in absurd (off.none c.first c.can c.is)
    ];
  };
}

none_above : (n : ℕ) (ns : List ℕ) → 16 ≤ n → AreListed n ns → ⊥
none_above n [] last can = omega (arith, can.1)
none_above n (m ∷ ns) last can = omega (arith, can.0.0.0, can.0.0.1)

no_other : (low n : ℕ) (front tail : List ℕ) → 16 ≤ n → IsAbove low n → front ≡ decimal n → IsCut low front tail → ⊥
no_other low n front tail last can is c =
    let same : n ≡ c.first = same_number n c.first can.1 c.can.1 (sym is ∙ c.is) in
    none_above c.first c.others (omega (arith, same)) c.rise

-- nothing stands behind the last node
pub off_last : (low n : ℕ) (line front rest : List ℕ) → line ≡ front ++ 44 ∷ rest → Lacks 44 front → IsText (IsAbove low) decimal front n → n ≡ 16 → IsOff (AreListed low) numbers_text line (length front)
off_last low n line front rest is lacks read last = record {
  none = λ ns can spelt. no_other low n front rest (omega (arith, last)) read.can read.is (cut low ns front rest lacks can (sym spelt ∙ is));
  far = record {
    front = front;
    rest = 44 ∷ rest;
    splits = is;
    long = refl;
    begins = begins_single low front (record { value = n; can = read.can; rest = []; is = sym read.is ∙ sym (append-nil front) });
    longest = λ a b splits begins. elim (by_length a front) [
      | inl short ↦ short
      | inr long ↦ absurd (no_other low n front _ (omega (arith, last)) read.can read.is (cut_longer low line front rest a b lacks is splits long begins).3)
    ];
  };
}

longer_text : (n : ℕ) (ns : List ℕ) → 1 ≤ length ns → numbers_text (n ∷ ns) ≡ decimal n ++ 44 ∷ numbers_text ns
longer_text n [] some = absurd (omega arith)
longer_text n (m ∷ ns) some = refl

listed_more : (low n : ℕ) (ns : List ℕ) → IsAbove low n → AreListed n ns → AreListed low (n ∷ ns)
listed_more low n ns can rise = ((can, rise.0), omega arith)

-- the others of a text whose first number is known
others_of : (low n : ℕ) (front tail : List ℕ) → IsAbove low n → front ≡ decimal n → IsCut low front tail → (ns : List ℕ) × AreListed n ns × (tail ≡ numbers_text ns)
others_of low n front tail can is c =
    let same : c.first ≡ n = same_number c.first n c.can.1 can.1 (sym c.is ∙ is) in
    (c.others, subst (λ m. AreListed m c.others) same c.rise, c.rest)

-- what stands behind the comma is no list above the first number
pub off_later : (low n : ℕ) (line front rest : List ℕ) (k : ℕ) → line ≡ front ++ 44 ∷ rest → Lacks 44 front → IsText (IsAbove low) decimal front n
    → IsOff (AreListed n) numbers_text rest k → IsOff (AreListed low) numbers_text line (length front + 1 + k)
off_later low n line front rest k is lacks read off = record {
  none = λ ns can spelt. let o = others_of low n front rest read.can read.is (cut low ns front rest lacks can (sym spelt ∙ is)) in off.none o.0 o.1 o.2;
  far = record {
    front = front ++ 44 ∷ off.far.front;
    rest = off.far.rest;
    splits = is ∙ ap (λ l. front ++ 44 ∷ l) off.far.splits ∙ sym (append_assoc front (44 ∷ off.far.front) off.far.rest);
    long = length-append front (44 ∷ off.far.front) ∙ omega (arith, off.far.long);
    begins = record {
      value = n ∷ off.far.begins.value;
      can = listed_more low n off.far.begins.value read.can off.far.begins.can;
      rest = off.far.begins.rest;
      is = longer_text n off.far.begins.value off.far.begins.can.1 ∙ ap (λ l. l ++ 44 ∷ numbers_text off.far.begins.value) (sym read.is) ∙ ap (λ l. front ++ 44 ∷ l) off.far.begins.is
          ∙ sym (append_assoc front (44 ∷ off.far.front) off.far.begins.rest);
    };
    longest = λ a b splits begins. elim (by_length a front) [
      | inl short ↦ omega arith
      | inr long ↦
          let found = cut_longer low line front rest a b lacks is splits long begins in
          let o = others_of low n front (found.0 ++ begins.rest) read.can read.is found.3 in
          let within = off.far.longest found.0 b found.2 (record { value = o.0; can = o.1; rest = begins.rest; is = sym o.2 }) in
          omega (arith, within, ap length found.1, length-append front (44 ∷ found.0))
    ];
  };
}

-- lists and sets spell the same texts
into_flags : (low : ℕ) (ns : List ℕ) → AreListed low ns → AreAbove low (flags_of ns) × (nodes_text (flags_of ns) ≡ numbers_text ns)
into_flags low ns can =
    let same : members (flags_of ns) ≡ ns = flags_members low ns can.0 in
    ((flags_set ns, subst (AreListed low) (sym same) can), ap numbers_text same)

fault_flags : (low : ℕ) (line : List ℕ) (fault : LineFault) → IsRead (AreListed low) numbers_text line (Err fault) → IsRead (AreAbove low) nodes_text line (Err fault)
fault_flags low line fault read = fault_along (AreListed low) numbers_text (AreAbove low) nodes_text line fault flags_of (into_flags low) (λ flags can. (members flags, can.1, refl)) read

fault_lists : (low : ℕ) (line : List ℕ) (fault : LineFault) → IsRead (AreAbove low) nodes_text line (Err fault) → IsRead (AreListed low) numbers_text line (Err fault)
fault_lists low line fault read = fault_along (AreAbove low) nodes_text (AreListed low) numbers_text line fault members (λ flags can. (can.1, refl))
    (λ ns can. let in_flags = into_flags low ns can in (flags_of ns, in_flags.0, in_flags.1)) read

pub fault_number : (low : ℕ) (line : List ℕ) (fault : LineFault) → Lacks 44 line → IsRead (IsAbove low) decimal line (Err fault) → IsRead (AreAbove low) nodes_text line (Err fault)
fault_number low line (Bad k) lacks off = fault_flags low line (Bad k) (off_number low line k lacks off)
fault_number low line NoMemory lacks off = tt

pub fault_front : (low : ℕ) (line front rest : List ℕ) (fault : LineFault) → line ≡ front ++ 44 ∷ rest → Lacks 44 front → IsRead (IsAbove low) decimal front (Err fault) → IsRead (AreAbove low) nodes_text line (Err fault)
fault_front low line front rest (Bad k) is lacks off = fault_flags low line (Bad k) (off_front low line front rest k is lacks off)
fault_front low line front rest NoMemory is lacks off = tt

pub fault_last : (low n : ℕ) (line front rest : List ℕ) → line ≡ front ++ 44 ∷ rest → Lacks 44 front → IsText (IsAbove low) decimal front n → n ≡ 16 → IsRead (AreAbove low) nodes_text line (Err (Bad (length front)))
fault_last low n line front rest is lacks read last = fault_flags low line (Bad (length front)) (off_last low n line front rest is lacks read last)

off_both : (low n : ℕ) (line front rest : List ℕ) (fault : LineFault) → line ≡ front ++ 44 ∷ rest → Lacks 44 front → IsText (IsAbove low) decimal front n
    → IsRead (AreListed n) numbers_text rest (Err fault) → IsRead (AreListed low) numbers_text line (Err (further (length front + 1) fault))
off_both low n line front rest (Bad k) is lacks read off = off_later low n line front rest k is lacks read off
off_both low n line front rest NoMemory is lacks read off = tt

pub fault_later : (low n : ℕ) (line front rest : List ℕ) (fault : LineFault) → line ≡ front ++ 44 ∷ rest → Lacks 44 front → IsText (IsAbove low) decimal front n
    → IsRead (AreAbove n) nodes_text rest (Err fault) → IsRead (AreAbove low) nodes_text line (Err (further (length front + 1) fault))
fault_later low n line front rest fault is lacks read off =
    fault_flags low line (further (length front + 1) fault) (off_both low n line front rest fault is lacks read (fault_lists n rest fault off))

-- the set of one node
pub one_read : (low n : ℕ) (line : List ℕ) → IsText (IsAbove low) decimal line n → IsText (AreAbove low) nodes_text line (flags_of (n ∷ []))
one_read low n line read =
    let in_flags = into_flags low (n ∷ []) ((read.can, tt), omega arith) in
    record { can = in_flags.0; is = read.is ∙ sym in_flags.1 }

-- a set with one node more, below all others
pub more_read : (low n : ℕ) (line front rest : List ℕ) (flags : List Bool) → line ≡ front ++ 44 ∷ rest → IsText (IsAbove low) decimal front n → IsText (AreAbove n) nodes_text rest flags
    → IsText (AreAbove low) nodes_text line (with_node n flags)
more_read low n line front rest flags is read others =
    let same : members (with_node n flags) ≡ n ∷ members flags = first_member n flags (omega (arith, read.can.0), read.can.1) others.can.0 others.can.1.0 in
    record {
      can = (length-set flags (n - 1) true ∙ others.can.0, subst (AreListed low) (sym same) (listed_more low n (members flags) read.can others.can.1));
      is = is ∙ ap (λ l. l ++ 44 ∷ rest) read.is ∙ ap (λ l. decimal n ++ 44 ∷ l) others.is ∙ sym (longer_text n (members flags) others.can.1.1) ∙ ap numbers_text (sym same);
    }

-- all nodes are above 0
pub nodes_read : (line : List ℕ) (result : Result (List Bool) LineFault) → IsRead (AreAbove 0) nodes_text line result → IsRead IsNodes nodes_text line result
nodes_read line (Ok flags) read = record { can = (read.can.0, read.can.1.1); is = read.is }
nodes_read line (Err fault) read = fault_along (AreAbove 0) nodes_text IsNodes nodes_text line fault (λ flags. flags) (λ flags can. ((can.0, can.1.1), refl)) (λ flags can. (flags, nodes_above flags can, refl)) read
