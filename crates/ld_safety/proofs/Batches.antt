-- The lines of items: one each, or one for each message of a batch.
use Rattle.std.proofs.Common.{◌≡◌, ◌∙◌, ◌⊎◌, ◌≤◌, ◌<◌, ℕ, zero, suc, ◌+◌, ◌==◌, ◌||◌, ◌&&◌, inl, inr, refl, ap, sym, subst, true, false, nat_lt, cond, if◌then◌else◌, List, [], ◌∷◌, ◌++◌, length, filter_map, Some, None, append_assoc, arith}
use Rattle.std.proofs.lemmas.Bool.{cases_Bool, and_parts, or_parts, ltb-false, eqb-true}
use Rattle.std.proofs.lemmas.List.Elements.{filter_map-append}
use Rattle.ld_table.specs.Named.{same}
use Rattle.ld_table.specs.Words.{any_of}
use Rattle.ld_table.proofs.NameLaws.{same-self, same-true}
use Rattle.ld_transcript.specs.declared.line.Line.{Line}
use Rattle.ld_transcript.specs.declared.line.Line.TheVariants as lines
use Rattle.ld_batch.specs.Batch.{Unpacked, Messages, Bad, unpacked, with_first, read_messages, number_at}
use Rattle.ld_msg.specs.declared.style.Style.{Style}
use Rattle.ld_msg.specs.declared.style.Style.TheVariants as styles
use Rattle.ld_msg.specs.Reading.{Item, TrimTo, RecordHere, HoleHere, BridgeTo, LossHere, LossTo}
use Rattle.ld_machine.specs.Facts.{interval_of, gives_message}
use Rattle.ld_machine.specs.Safe.{TilesFrom}
use Rattle.ld_machine.specs.World.{In}
use Rattle.ld_machine.specs.Step as Step
use Rattle.ld_safety.proofs.Lists.{cond_both, only, In-append, In_left}

-- ---- what is unpacked ----

-- a payload that is a batch has a message
first_there : (m : List ℕ) (u : Unpacked) (ms : List (List ℕ)) → with_first m u ≡ Messages ms → 0 < length ms
first_there m (Messages qs) ms h = let z : m ∷ qs ≡ ms = cc in subst (λ xs. 0 < length xs) z (omega arith)
first_there m (Bad place) ms h = absurd cc

some_read : (k : ℕ) (bs : List ℕ) (at : ℕ) (ms : List (List ℕ)) → 0 < k → read_messages k bs at ≡ Messages ms → 0 < length ms
some_read zero bs at ms p h = absurd (omega arith)
some_read (suc k) bs at ms p h = cond_both (nat_lt (length bs) (at + 2) || nat_lt (length bs) (at + 2 + number_at bs at)) (Bad at) _ (λ u. u ≡ Messages ms → 0 < length ms) (λ t q. absurd cc) (λ t q. first_there _ _ ms q) h

unpacked_some : (bs : List ℕ) (ms : List (List ℕ)) → unpacked bs ≡ Messages ms → 0 < length ms
unfolding unpacked
unpacked_some bs ms h = cond_both (nat_lt (length bs) 2 || (nat_lt (number_at bs 0) 1 || nat_lt 1024 (number_at bs 0))) (Bad 0) _ (λ u. u ≡ Messages ms → 0 < length ms) (λ t q. absurd cc)
    (λ t q. let p = or_parts (nat_lt (length bs) 2) (nat_lt (number_at bs 0) 1 || nat_lt 1024 (number_at bs 0)) t in let r = or_parts (nat_lt (number_at bs 0) 1) (nat_lt 1024 (number_at bs 0)) p.1 in
    some_read (number_at bs 0) bs 2 ms (let z = ltb-false _ _ r.0 in omega arith) q) h

-- ---- the lines of an item ----

-- a message of the record that is given at the number, which is a batch
record OfBatch (name : List ℕ) (n : ℕ) (i : Item) (x : Line) : Type 0 where
  payload : List ℕ
  is : i ≡ RecordHere payload
  index : ℕ
  message : List ℕ
  line : x ≡ lines.BatchMessage name n index message
  messages : List (List ℕ)
  reads : unpacked payload ≡ Messages messages

-- the item's one line, or one of its messages
LineOf : List ℕ → ℕ → ℕ → Item → Line → Type 0
LineOf name n until i x = (x ≡ Step.item_line name n until i) ⊎ OfBatch name n i x

message_of : (name : List ℕ) (n first : ℕ) (ms : List (List ℕ)) (x : Line) → In x (Step.message_lines_from name n first ms) → (index : ℕ) × (m : List ℕ) × (x ≡ lines.BatchMessage name n index m)
message_of name n first [] x h = absurd h
message_of name n first (m ∷ ms) x (inl e) = (first, m, e)
message_of name n first (m ∷ ms) x (inr i) = message_of name n (first + 1) ms x i

one_line : (name : List ℕ) (n until : ℕ) (i : Item) (x : Line) → In x (Step.item_line name n until i ∷ []) → LineOf name n until i x
unfolding LineOf
one_line name n until i x (inl e) = inl e
one_line name n until i x (inr h) = absurd h

line_of : (style : Style) (name : List ℕ) (n until : ℕ) (i : Item) (x : Line) → In x (Step.lines_of_item style name n until i) → LineOf name n until i x
unfolding LineOf
line_of styles.EachCopy name n until i x h = one_line name n until i x h
line_of styles.OneCopy name n until i x h = one_line name n until i x h
line_of styles.OfMessages name n until (RecordHere p) x h = by_payload (unpacked p) refl h where
  by_payload : (u : Unpacked) → unpacked p ≡ u → In x (Step.payload_lines name n p u) → (x ≡ lines.Record name n p) ⊎ OfBatch name n (RecordHere p) x
  by_payload (Bad place) q (inl e) = inl e
  by_payload (Bad place) q (inr k) = absurd k
  by_payload (Messages ms) q k = let r = message_of name n 0 ms x k in inr (record { payload = p; is = refl; index = r.0; message = r.1; line = r.2; messages = ms; reads = q })
line_of styles.OfMessages name n until (TrimTo last) x h = one_line name n until (TrimTo last) x h
line_of styles.OfMessages name n until HoleHere x h = one_line name n until HoleHere x h
line_of styles.OfMessages name n until (BridgeTo last) x h = one_line name n until (BridgeTo last) x h
line_of styles.OfMessages name n until LossHere x h = one_line name n until LossHere x h
line_of styles.OfMessages name n until (LossTo last) x h = one_line name n until (LossTo last) x h

-- the item of a line
record ItemOf (name : List ℕ) (until : ℕ) (is : List (ℕ × Item)) (x : Line) : Type 0 where
  item : ℕ × Item
  there : In item is
  line : LineOf name item.0 until item.1 x

item_of : (style : Style) (name : List ℕ) (until : ℕ) (is : List (ℕ × Item)) (x : Line) → In x (Step.item_lines style name until is) → ItemOf name until is x
item_of style name until [] x h = absurd h
item_of style name until (i ∷ is) x h = elim (In-append x (Step.lines_of_item style name i.0 until i.1) (Step.item_lines style name until is) h) [
  | inl a ↦ record { item = i; there = inl refl; line = line_of style name i.0 until i.1 x a }
  | inr b ↦ let r = item_of style name until is x b in record { item = r.item; there = inr r.there; line = r.line }
]

-- a line that gives no message is its item's one line
pub record OneLine (name : List ℕ) (until : ℕ) (is : List (ℕ × Item)) (x : Line) : Type 0 where
  pub item : ℕ × Item
  pub there : In item is
  pub line : x ≡ Step.item_line name item.0 until item.1

pub one_of : (style : Style) (name : List ℕ) (until : ℕ) (is : List (ℕ × Item)) (x : Line) → ((a : List ℕ) (n index : ℕ) (m : List ℕ) → x ≡ lines.BatchMessage a n index m → ⊥) → In x (Step.item_lines style name until is) → OneLine name until is x
unfolding LineOf
one_of style name until is x other h = let r = item_of style name until is x h in elim r.line [
  | inl e ↦ record { item = r.item; there = r.there; line = e }
  | inr o ↦ absurd (other name r.item.0 o.index o.message o.line)
]

-- a message is of a record that is given
pub record MessageOf (name : List ℕ) (is : List (ℕ × Item)) (a : List ℕ) (n : ℕ) : Type 0 where
  pub payload : List ℕ
  pub there : In {X = ℕ × Item} (n, RecordHere payload) is
  pub whose : a ≡ name
  pub messages : List (List ℕ)
  pub reads : unpacked payload ≡ Messages messages

no_message : (name : List ℕ) (s until : ℕ) (i : Item) (a : List ℕ) (n index : ℕ) (m : List ℕ) → lines.BatchMessage a n index m ≡ Step.item_line name s until i → ⊥
no_message name s until (TrimTo last) a n index m h = cc
no_message name s until (RecordHere p) a n index m h = cc
no_message name s until HoleHere a n index m h = cc
no_message name s until (BridgeTo last) a n index m h = cc
no_message name s until LossHere a n index m h = cc
no_message name s until (LossTo last) a n index m h = cc

pub message_in : (style : Style) (name : List ℕ) (until : ℕ) (is : List (ℕ × Item)) (a : List ℕ) (n index : ℕ) (m : List ℕ) → In (lines.BatchMessage a n index m) (Step.item_lines style name until is) → MessageOf name is a n
unfolding LineOf
message_in style name until is a n index m h = let r = item_of style name until is (lines.BatchMessage a n index m) h in elim r.line [
  | inl e ↦ absurd (no_message name r.item.0 until r.item.1 a n index m e)
  | inr o ↦ let q : n ≡ r.item.0 = number o.line in record {
    payload = o.payload;
    there = subst (λ (i : ℕ × Item). In i is) (λ k. (sym q k, o.is k)) r.there;
    whose = whose o.line;
    messages = o.messages;
    reads = o.reads;
  }
] where
  whose : {a b : List ℕ} {n k i j : ℕ} {m t : List ℕ} → lines.BatchMessage a n i m ≡ lines.BatchMessage b k j t → a ≡ b
  whose e = cc

  number : {a b : List ℕ} {n k i j : ℕ} {m t : List ℕ} → lines.BatchMessage a n i m ≡ lines.BatchMessage b k j t → n ≡ k
  number e = cc

-- ---- the interval of an item ----

-- later messages of a batch begin no interval
later_none : (r name : List ℕ) (n first : ℕ) (ms : List (List ℕ)) → 0 < first → filter_map (interval_of r) (Step.message_lines_from name n first ms) ≡ []
later_none r name n first [] p = refl
later_none r name n first (m ∷ ms) p = rw no_start (later_none r name n (first + 1) ms (omega arith)) where
  no_start : interval_of r (lines.BatchMessage name n first m) ≡ None
  no_start = cond_both (same name r && (first == 0)) (Some (record { low = n; high = n })) None (λ o. o ≡ None) (λ t. absurd (let q = eqb-true first 0 (and_parts (same name r) (first == 0) t).1 in omega arith)) (λ t. refl)

first_some : (r : List ℕ) (n : ℕ) (ms : List (List ℕ)) → 0 < length ms → filter_map (interval_of r) (Step.message_lines_from r n 0 ms) ≡ record { low = n; high = n } ∷ []
first_some r n [] p = absurd (omega arith)
first_some r n (m ∷ ms) p = rw start (ap (λ is. record { low = n; high = n } ∷ is) (later_none r r n 1 ms (omega arith))) where
  start : interval_of r (lines.BatchMessage r n 0 m) ≡ Some (record { low = n; high = n })
  start = ap (λ b. cond (b && true) (Some (record { low = n; high = n })) None) (same-self r)

-- the lines of an item tell what its one line would
pub interval_same : (style : Style) (r : List ℕ) (n until : ℕ) (i : Item) → filter_map (interval_of r) (Step.lines_of_item style r n until i) ≡ filter_map (interval_of r) (Step.item_line r n until i ∷ [])
interval_same styles.EachCopy r n until i = refl
interval_same styles.OneCopy r n until i = refl
interval_same styles.OfMessages r n until (RecordHere p) = by_payload (unpacked p) refl where
  by_payload : (u : Unpacked) → unpacked p ≡ u → filter_map (interval_of r) (Step.payload_lines r n p u) ≡ filter_map (interval_of r) (lines.Record r n p ∷ [])
  by_payload (Bad place) q = refl
  by_payload (Messages ms) q = rw (same-self r) (first_some r n ms (unpacked_some p ms q))
interval_same styles.OfMessages r n until (TrimTo last) = refl
interval_same styles.OfMessages r n until HoleHere = refl
interval_same styles.OfMessages r n until (BridgeTo last) = refl
interval_same styles.OfMessages r n until LossHere = refl
interval_same styles.OfMessages r n until (LossTo last) = refl

-- and nothing of another reader
none_same : (r q : List ℕ) (n first : ℕ) (ms : List (List ℕ)) → same r q ≡ false → filter_map (interval_of q) (Step.message_lines_from r n first ms) ≡ []
none_same r q n first [] h = refl
none_same r q n first (m ∷ ms) h = rw h (none_same r q n (first + 1) ms h)

other_item : (r q : List ℕ) (n until : ℕ) (i : Item) → same r q ≡ false → filter_map (interval_of q) (Step.item_line r n until i ∷ []) ≡ []
other_item r q n until (TrimTo last) h = rw h refl
other_item r q n until (RecordHere p) h = rw h refl
other_item r q n until HoleHere h = rw h refl
other_item r q n until (BridgeTo last) h = rw h refl
other_item r q n until LossHere h = rw h refl
other_item r q n until (LossTo last) h = rw h refl

other_one : (style : Style) (r q : List ℕ) (n until : ℕ) (i : Item) → same r q ≡ false → filter_map (interval_of q) (Step.lines_of_item style r n until i) ≡ []
other_one styles.EachCopy r q n until i h = other_item r q n until i h
other_one styles.OneCopy r q n until i h = other_item r q n until i h
other_one styles.OfMessages r q n until (RecordHere p) h = by_payload (unpacked p) where
  by_payload : (u : Unpacked) → filter_map (interval_of q) (Step.payload_lines r n p u) ≡ []
  by_payload (Bad place) = other_item r q n until (RecordHere p) h
  by_payload (Messages ms) = none_same r q n 0 ms h
other_one styles.OfMessages r q n until (TrimTo last) h = other_item r q n until (TrimTo last) h
other_one styles.OfMessages r q n until HoleHere h = other_item r q n until HoleHere h
other_one styles.OfMessages r q n until (BridgeTo last) h = other_item r q n until (BridgeTo last) h
other_one styles.OfMessages r q n until LossHere h = other_item r q n until LossHere h
other_one styles.OfMessages r q n until (LossTo last) h = other_item r q n until (LossTo last) h

pub others_lines : (style : Style) (r q : List ℕ) (until : ℕ) (is : List (ℕ × Item)) → same r q ≡ false → filter_map (interval_of q) (Step.item_lines style r until is) ≡ []
others_lines style r q until [] h = refl
others_lines style r q until (i ∷ is) h = filter_map-append (interval_of q) (Step.lines_of_item style r i.0 until i.1) (Step.item_lines style r until is) ∙ (λ j. other_one style r q i.0 until i.1 h j ++ others_lines style r q until is h j)

pub item_lines-append : (style : Style) (r : List ℕ) (until : ℕ) (is js : List (ℕ × Item)) → Step.item_lines style r until (is ++ js) ≡ Step.item_lines style r until is ++ Step.item_lines style r until js
item_lines-append style r until [] js = refl
item_lines-append style r until (i ∷ is) js = ap (λ l. Step.lines_of_item style r i.0 until i.1 ++ l) (item_lines-append style r until is js) ∙ sym (append_assoc (Step.lines_of_item style r i.0 until i.1) (Step.item_lines style r until is) (Step.item_lines style r until js))

-- ---- the lines of a batch are a run ----

-- the messages stand one after the other, in order, and no other of the number beside them
pub record RunAt (ls : List Line) (name : List ℕ) (n : ℕ) (ms : List (List ℕ)) : Type 0 where
  pub before : List Line
  pub after : List Line
  pub is : ls ≡ before ++ (Step.message_lines_from name n 0 ms ++ after)
  pub none_before : (index : ℕ) (m : List ℕ) → In (lines.BatchMessage name n index m) before → ⊥
  pub none_after : (index : ℕ) (m : List ℕ) → In (lines.BatchMessage name n index m) after → ⊥

-- items whose numbers rise
Rise : ℕ → List (ℕ × Item) → Type 0
Rise low [] = Unit {0}
Rise low (i ∷ is) = (low ≤ i.0) × Rise (i.0 + 1) is

rise_from : (low high : ℕ) (is : List (ℕ × Item)) → low ≤ high → Rise high is → Rise low is
unfolding Rise
rise_from low high [] h r = tt
rise_from low high (i ∷ is) h r = (let z = r.0 in omega arith, r.1)

above : (low : ℕ) (is : List (ℕ × Item)) (i : ℕ × Item) → Rise low is → In i is → low ≤ i.0
unfolding Rise
above low [] i r h = absurd h
above low (j ∷ is) i r (inl e) = subst (λ (k : ℕ × Item). low ≤ k.0) (sym e) r.0
above low (j ∷ is) i r (inr h) = let z = above (j.0 + 1) is i r.1 h in let y = r.0 in omega arith

-- the item of one line
one_interval : (r : List ℕ) (n until : ℕ) (i : Item) → (high : ℕ) × (filter_map (interval_of r) (Step.item_line r n until i ∷ []) ≡ record { low = n; high = high } ∷ [])
one_interval r n until (TrimTo last) = (if nat_lt until last then until else last, rw (same-self r) refl)
one_interval r n until (RecordHere p) = (n, rw (same-self r) refl)
one_interval r n until HoleHere = (n, rw (same-self r) refl)
one_interval r n until (BridgeTo last) = (if nat_lt until last then until else last, rw (same-self r) refl)
one_interval r n until LossHere = (n, rw (same-self r) refl)
one_interval r n until (LossTo last) = (if nat_lt until last then until else last, rw (same-self r) refl)

-- items that tile rise
tiles_rise : (style : Style) (r : List ℕ) (until last next : ℕ) (is : List (ℕ × Item)) → TilesFrom last next (filter_map (interval_of r) (Step.item_lines style r until is)) → Rise next is
unfolding Rise
tiles_rise style r until last next [] h = tt
tiles_rise style r until last next (i ∷ is) h =
    let k = one_interval r i.0 until i.1 in
    let t = subst (λ js. TilesFrom last next js) (filter_map-append (interval_of r) (Step.lines_of_item style r i.0 until i.1) (Step.item_lines style r until is) ∙ ap (λ js. js ++ filter_map (interval_of r) (Step.item_lines style r until is)) (interval_same style r i.0 until i.1 ∙ k.1)) h in
    (let z = t.0 in omega arith, rise_from (i.0 + 1) (k.0 + 1) is (let z = t.1 in omega arith) (tiles_rise style r until last (k.0 + 1) is t.3))

-- of readers that don't get messages no line gives one
none_each : (name : List ℕ) (until : ℕ) (is : List (ℕ × Item)) (a : List ℕ) (n index : ℕ) (m : List ℕ) → In (lines.BatchMessage a n index m) (Step.item_lines styles.EachCopy name until is) → ⊥
none_each name until [] a n index m h = absurd h
none_each name until (i ∷ is) a n index m (inl e) = no_message name i.0 until i.1 a n index m e
none_each name until (i ∷ is) a n index m (inr h) = none_each name until is a n index m h

none_one : (name : List ℕ) (until : ℕ) (is : List (ℕ × Item)) (a : List ℕ) (n index : ℕ) (m : List ℕ) → In (lines.BatchMessage a n index m) (Step.item_lines styles.OneCopy name until is) → ⊥
none_one name until [] a n index m h = absurd h
none_one name until (i ∷ is) a n index m (inl e) = no_message name i.0 until i.1 a n index m e
none_one name until (i ∷ is) a n index m (inr h) = none_one name until is a n index m h

item_number : (n : ℕ) (p : List ℕ) (i : ℕ × Item) → (n, RecordHere p) ≡ i → n ≡ i.0
item_number n p i e = ap (λ (k : ℕ × Item). k.0) e

run_of : (name : List ℕ) (until low : ℕ) (is : List (ℕ × Item)) (n : ℕ) (p : List ℕ) (ms : List (List ℕ)) → Rise low is → In {X = ℕ × Item} (n, RecordHere p) is → unpacked p ≡ Messages ms → RunAt (Step.item_lines styles.OfMessages name until is) name n ms
unfolding Rise
run_of name until low [] n p ms r h u = absurd h
run_of name until low (i ∷ is) n p ms r (inl e) u = record {
  before = [];
  after = Step.item_lines styles.OfMessages name until is;
  is = ap (λ (k : ℕ × Item). Step.lines_of_item styles.OfMessages name k.0 until k.1 ++ Step.item_lines styles.OfMessages name until is) (sym e) ∙ ap (λ v. Step.payload_lines name n p v ++ Step.item_lines styles.OfMessages name until is) u;
  none_before = λ index m j. absurd j;
  none_after = λ index m j. let o = message_in styles.OfMessages name until is name n index m j in let z = above (i.0 + 1) is _ r.1 o.there in let y = item_number n p i e in absurd (omega arith);
}
run_of name until low (i ∷ is) n p ms r (inr h) u = let k = run_of name until (i.0 + 1) is n p ms r.1 h u in record {
  before = Step.lines_of_item styles.OfMessages name i.0 until i.1 ++ k.before;
  after = k.after;
  is = ap (λ ls. Step.lines_of_item styles.OfMessages name i.0 until i.1 ++ ls) k.is ∙ sym (append_assoc (Step.lines_of_item styles.OfMessages name i.0 until i.1) k.before (Step.message_lines_from name n 0 ms ++ k.after));
  none_before = λ index m j. elim (In-append _ (Step.lines_of_item styles.OfMessages name i.0 until i.1) k.before j) [
    | inl a ↦ absurd (let o = message_in styles.OfMessages name until (i ∷ []) name n index m (In_left _ (Step.lines_of_item styles.OfMessages name i.0 until i.1) [] a) in let y = item_number n o.payload i (only _ i o.there) in let z = above (i.0 + 1) is _ r.1 h in omega arith)
    | inr b ↦ k.none_before index m b
  ];
  none_after = k.none_after;
}

-- the messages of a record among items that tile
pub message_run : (style : Style) (name : List ℕ) (until last next : ℕ) (is : List (ℕ × Item)) (a : List ℕ) (n index : ℕ) (m : List ℕ) (o : MessageOf name is a n) → In (lines.BatchMessage a n index m) (Step.item_lines style name until is)
    → TilesFrom last next (filter_map (interval_of a) (Step.item_lines style name until is)) → RunAt (Step.item_lines style name until is) a n o.messages
message_run styles.EachCopy name until last next is a n index m o h t = absurd (none_each name until is a n index m h)
message_run styles.OneCopy name until last next is a n index m o h t = absurd (none_one name until is a n index m h)
message_run styles.OfMessages name until last next is a n index m o h t =
    let r = tiles_rise styles.OfMessages name until last next is (subst (λ b. TilesFrom last next (filter_map (interval_of b) (Step.item_lines styles.OfMessages name until is))) o.whose t) in
    subst (λ b. RunAt (Step.item_lines styles.OfMessages name until is) b n o.messages) (sym o.whose) (run_of name until next is n o.payload o.messages r o.there o.reads)

-- ---- no line gives a message ----

gives_one : (name : List ℕ) (n : ℕ) (x : Line) → gives_message name n x ≡ true → (index : ℕ) × (m : List ℕ) × (x ≡ lines.BatchMessage name n index m)
gives_one name n (lines.BatchMessage r number index m) h = let p = and_parts (same r name) (number == n) h in (index, m, λ i. lines.BatchMessage (same-true r name p.0 i) (eqb-true number n p.1 i) index m)
gives_one name n _ h = absurd cc

pub none_given : (name : List ℕ) (n : ℕ) (ls : List Line) → ((index : ℕ) (m : List ℕ) → In (lines.BatchMessage name n index m) ls → ⊥) → any_of (gives_message name n) ls ≡ false
none_given name n [] h = refl
none_given name n (x ∷ ls) h = elim (cases_Bool (gives_message name n x)) [
  | inl t ↦ absurd (let g = gives_one name n x t in h g.0 g.1 (inl (sym g.2)))
  | inr f ↦ rw f (none_given name n ls (λ index m j. h index m (inr j)))
]
