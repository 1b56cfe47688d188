-- The bytes of an index, item by item.
use Rattle.std.proofs.Common.{◌≡◌, ◌<◌, ◌≤◌, ◌+◌, ℕ, suc, zero, Bool, true, false, cond, List, [], ◌∷◌, ◌++◌, Option, Some, None, Result, Ok, Err, OnOk, refl, ap, sym, ◌∙◌, subst, append_assoc, length, is_some, arith}
use Rattle.std.proofs.lemmas.List.{append-nil}
use Rattle.byteorder.specs.Endian.{big_bytes}
use Rattle.ld_table.specs.Table.{map_values}
use Rattle.ld_table.specs.Words.{numbers_from}
use Rattle.ld_msg.specs.declared.msg.Entry.{Entry}
use Rattle.ld_msg.specs.declared.msg.Summary.{Summary}
use Rattle.ld_fields.specs.Items.{summary_bytes}
use Rattle.ld_op.specs.Plain.{Log}
use Rattle.ld_op.specs.Places.{filled, filled_one}
use Rattle.ld_op.specs.Room.{Held, if_there, there_of}
use Rattle.ld_op.specs.declared.pointed.Place.{Place}
use Rattle.ld_op.specs.declared.pointed.Held.{Held as Stands}
use Rattle.ld_op.specs.declared.pointed.Held.TheVariants.{Rec}
use Rattle.ld_op.specs.Pointed.{seen_what}
use Rattle.ld_op.specs.Indexed.{first_of, start_of, entry_starts, payload_starts, first_place, what_based, entry_based, entries_bytes_based, summaries_based, lngs_based, state_based, tables_based, logs_bytes_based}

-- ---- one item more ----

two : (a b r : List ℕ) → a ++ (b ++ r) ≡ (a ++ (b ++ [])) ++ r
two a b r = sym (append_assoc a (b ++ []) r ∙ ap (λ x. a ++ x) (append_assoc b [] r))

one : (a r : List ℕ) → a ++ r ≡ (a ++ []) ++ r
one a r = sym (append_assoc a [] r)

module _ {X : Type 0} where
  -- the bytes of what is left, once an item is written
  pub put_on : (f : List (ℕ × X) → List ℕ) (s : ℕ × X) (before after : List (ℕ × X)) (old out new : List ℕ) → ((t : ℕ × X) (m : List (ℕ × X)) → f (t ∷ m) ≡ f (t ∷ []) ++ f m) → before ≡ s ∷ after → new ≡ out ++ f (s ∷ []) → out ++ f before ≡ old → new ++ f after ≡ old
  put_on f s before after old out new both b n h = ap (λ r. r ++ f after) n ∙ (append_assoc out (f (s ∷ [])) (f after) ∙ (ap (λ r. out ++ r) (sym (both s after) ∙ ap f (sym b)) ∙ h))

  -- all is written
  pub put_all : (f : List (ℕ × X) → List ℕ) (before : List (ℕ × X)) (old out : List ℕ) → f [] ≡ [] → before ≡ [] → out ++ f before ≡ old → out ≡ old
  put_all f before old out none b h = sym (append-nil out) ∙ (ap (λ r. out ++ r) (sym none ∙ ap f (sym b)) ∙ h)

  -- one more is counted, where it is there
  some_more : (k : ℕ) (o : Option X) (m : List (ℕ × X)) → length (filled_one k o m) ≡ cond (is_some o) 1 0 + length m
  some_more k None m = omega arith
  some_more k (Some v) m = omega arith

  pub count_on : (s : ℕ × Option X) (before after : List (ℕ × Option X)) (n : ℕ) → before ≡ s ∷ after → n ≡ cond (is_some s.1) 1 0 → length (filled before) ≡ n + length (filled after)
  unfolding filled
  count_on s before after n b h = ap (λ m. length (filled m)) b ∙ (some_more s.0 s.1 (filled after) ∙ ap (λ k. k + length (filled after)) (sym h))

  pub count_all : (before : List (ℕ × Option X)) (n all : ℕ) → before ≡ [] → n + length (filled before) ≡ all → n ≡ all
  unfolding filled
  count_all before n all b h = let l : length (filled before) ≡ 0 = ap (λ m. length (filled m)) b in omega arith

  -- no more are there than offsets
  one_most : (k : ℕ) (o : Option X) (m : List (ℕ × X)) (n : ℕ) → length m ≤ n → length (filled_one k o m) ≤ suc n
  one_most k None m n h = omega arith
  one_most k (Some v) m n h = omega arith

  pub filled_most : (m : List (ℕ × Option X)) → length (filled m) ≤ length m
  unfolding filled
  filled_most [] = omega arith
  filled_most (s ∷ m) = one_most s.0 s.1 (filled m) (length m) (filled_most m)

module _ {T E : Type 0} where
  -- what was written is spelt in another way
  pub written : (r : Result T E) (new out xs ys : List ℕ) → xs ≡ ys → OnOk r (new ≡ out ++ xs) → OnOk r (new ≡ out ++ ys)
  written r new out xs ys e h = subst (λ zs. OnOk r (new ≡ out ++ zs)) e h

pub nothing_written : (out xs : List ℕ) → xs ≡ [] → out ≡ out ++ xs
nothing_written out xs e = sym (append-nil out) ∙ ap (λ r. out ++ r) (sym e)

-- ---- tables ----

summary_more : (k : ℕ) (o : Option Summary) (m : List (ℕ × Summary)) → summaries_based (filled_one k o m) ≡ summaries_based (filled_one k o []) ++ summaries_based m
summary_more k None m = refl
summary_more k (Some y) m = two (big_bytes 4 k) (summary_bytes y) (summaries_based m)

abbrev pub summaries_of : List (ℕ × Option Summary) → List ℕ
summaries_of m = summaries_based (filled m)

pub summaries_more : (s : ℕ × Option Summary) (m : List (ℕ × Option Summary)) → summaries_of (s ∷ m) ≡ summaries_of (s ∷ []) ++ summaries_of m
unfolding filled
summaries_more s m = summary_more s.0 s.1 (filled m)

lng_more : (k : ℕ) (o : Option ℕ) (m : List (ℕ × ℕ)) → lngs_based (filled_one k o m) ≡ lngs_based (filled_one k o []) ++ lngs_based m
lng_more k None m = refl
lng_more k (Some y) m = two (big_bytes 4 k) (big_bytes 4 y) (lngs_based m)

abbrev pub lngs_of : List (ℕ × Option ℕ) → List ℕ
lngs_of m = lngs_based (filled m)

pub lngs_more : (s : ℕ × Option ℕ) (m : List (ℕ × Option ℕ)) → lngs_of (s ∷ m) ≡ lngs_of (s ∷ []) ++ lngs_of m
unfolding filled
lngs_more s m = lng_more s.0 s.1 (filled m)

entry_more : (k : ℕ) (o : Option Entry) (m : List (ℕ × Entry)) → entries_bytes_based (filled_one k o m) ≡ entries_bytes_based (filled_one k o []) ++ entries_bytes_based m
entry_more k None m = refl
entry_more k (Some e) m = one (entry_based e) (entries_bytes_based m)

abbrev pub entries_of : List (ℕ × Option Entry) → List ℕ
entries_of m = entries_bytes_based (filled m)

pub entries_more : (s : ℕ × Option Entry) (m : List (ℕ × Option Entry)) → entries_of (s ∷ m) ≡ entries_of (s ∷ []) ++ entries_of m
unfolding filled
entries_more s m = entry_more s.0 s.1 (filled m)

log_more : (k : ℕ) (o : Option Log) (m : List (ℕ × Log)) → logs_bytes_based (filled_one k o m) ≡ logs_bytes_based (filled_one k o []) ++ logs_bytes_based m
log_more k None m = refl
log_more k (Some g) m = two (state_based k g) (tables_based g) (logs_bytes_based m)

abbrev pub logs_of : List (ℕ × Held) → List ℕ
logs_of m = logs_bytes_based (there_of m)

pub logs_more : (s : ℕ × Held) (m : List (ℕ × Held)) → logs_of (s ∷ m) ≡ logs_of (s ∷ []) ++ logs_of m
unfolding filled
logs_more s m = log_more s.0 (if_there s.1) (filled (map_values if_there m))

pub summaries_none : summaries_of [] ≡ []
unfolding filled
summaries_none = refl

pub lngs_none : lngs_of [] ≡ []
unfolding filled
lngs_none = refl

pub entries_none : entries_of [] ≡ []
unfolding filled
entries_none = refl

pub logs_none : logs_of [] ≡ []
unfolding filled
logs_none = refl

pub summary_one : (k : ℕ) (o : Option Summary) (y : Summary) → o ≡ Some y → big_bytes 4 k ++ summary_bytes y ≡ summaries_of ((k, o) ∷ [])
unfolding filled
summary_one k o y h = ap (λ r. big_bytes 4 k ++ r) (sym (append-nil (summary_bytes y))) ∙ sym (ap (λ p. summaries_based (filled_one k p [])) h)

pub summary_none : (k : ℕ) (o : Option Summary) → o ≡ None → summaries_of ((k, o) ∷ []) ≡ []
unfolding filled
summary_none k o h = ap (λ p. summaries_based (filled_one k p [])) h

pub lng_one : (k : ℕ) (o : Option ℕ) (y : ℕ) → o ≡ Some y → big_bytes 4 k ++ big_bytes 4 y ≡ lngs_of ((k, o) ∷ [])
unfolding filled
lng_one k o y h = ap (λ r. big_bytes 4 k ++ r) (sym (append-nil (big_bytes 4 y))) ∙ sym (ap (λ p. lngs_based (filled_one k p [])) h)

pub lng_none : (k : ℕ) (o : Option ℕ) → o ≡ None → lngs_of ((k, o) ∷ []) ≡ []
unfolding filled
lng_none k o h = ap (λ p. lngs_based (filled_one k p [])) h

pub entry_one : (k : ℕ) (o : Option Entry) (e : Entry) → o ≡ Some e → entry_based e ≡ entries_of ((k, o) ∷ [])
unfolding filled
entry_one k o e h = sym (append-nil (entry_based e)) ∙ sym (ap (λ p. entries_bytes_based (filled_one k p [])) h)

pub entry_none : (k : ℕ) (o : Option Entry) → o ≡ None → entries_of ((k, o) ∷ []) ≡ []
unfolding filled
entry_none k o h = ap (λ p. entries_bytes_based (filled_one k p [])) h

there_some : (h : Held) → h.there ≡ true → if_there h ≡ Some h.log
there_some h t = ap (λ b. cond b (Some h.log) None) t

there_no : (h : Held) → h.there ≡ false → if_there h ≡ None
there_no h t = ap (λ b. cond b (Some h.log) None) t

pub log_one : (k : ℕ) (h : Held) → h.there ≡ true → state_based k h.log ++ tables_based h.log ≡ logs_of ((k, h) ∷ [])
unfolding filled
log_one k h t = ap (λ r. state_based k h.log ++ r) (sym (append-nil (tables_based h.log))) ∙ sym (ap (λ p. logs_bytes_based (filled_one k p [])) (there_some h t))

pub log_none : (k : ℕ) (h : Held) → h.there ≡ false → logs_of ((k, h) ∷ []) ≡ []
unfolding filled
log_none k h t = ap (λ p. logs_bytes_based (filled_one k p [])) (there_no h t)

there_more : (h : Held) (k : ℕ) (m : List (ℕ × Log)) (b : Bool) → h.there ≡ b → length (filled_one k (cond b (Some h.log) None) m) ≡ cond b 1 0 + length m
there_more h k m true e = omega arith
there_more h k m false e = omega arith

pub logs_on : (s : ℕ × Held) (before after : List (ℕ × Held)) (n : ℕ) → before ≡ s ∷ after → n ≡ cond s.1.there 1 0 → length (there_of before) ≡ n + length (there_of after)
unfolding filled
logs_on s before after n b h = ap (λ m. length (there_of m)) b ∙ (there_more s.1 s.0 (there_of after) s.1.there refl ∙ ap (λ k. k + length (there_of after)) (sym h))

pub logs_all : (before : List (ℕ × Held)) (n all : ℕ) → before ≡ [] → n + length (there_of before) ≡ all → n ≡ all
unfolding filled
logs_all before n all b h = let l : length (there_of before) ≡ 0 = ap (λ m. length (there_of m)) b in omega arith

length-map_values : (m : List (ℕ × Held)) → length (map_values if_there m) ≡ length m
length-map_values [] = refl
length-map_values (s ∷ m) = ap suc (length-map_values m)

pub there_most : (m : List (ℕ × Held)) → length (there_of m) ≤ length m
there_most m = let a = filled_most (map_values if_there m) in let l = length-map_values m in omega arith

numbers-length : (at n : ℕ) → length (numbers_from at n) ≡ n
numbers-length at zero = refl
numbers-length at (suc n) = ap suc (numbers-length (at + 1) n)

-- what stands under a number, with its payload's offset
pub place_is : (held : Stands) (place : Place) → held ≡ Rec place → big_bytes 1 0 ++ (big_bytes 8 (first_place (numbers_from place.at place.len)) ++ big_bytes 2 place.len) ≡ what_based (seen_what held)
place_is held place h = ap (λ n. big_bytes 1 0 ++ (big_bytes 8 (first_place (numbers_from place.at place.len)) ++ big_bytes 2 n)) (sym (numbers-length place.at place.len)) ∙ sym (ap (λ x. what_based (seen_what x)) h)

pub place_written : {T E : Type 0} (r : Result T E) (out one two : List ℕ) (held : Stands) (place : Place) → OnOk r (two ≡ one ++ (big_bytes 8 (first_place (numbers_from place.at place.len)) ++ big_bytes 2 place.len)) → one ≡ out ++ big_bytes 1 0 → held ≡ Rec place
    → OnOk r (two ≡ out ++ what_based (seen_what held))
place_written (Ok v) out one two held place h k e = h ∙ (ap (λ r. r ++ (big_bytes 8 (first_place (numbers_from place.at place.len)) ++ big_bytes 2 place.len)) k
    ∙ (append_assoc out (big_bytes 1 0) (big_bytes 8 (first_place (numbers_from place.at place.len)) ++ big_bytes 2 place.len) ∙ ap (λ r. out ++ r) (place_is held place e)))
place_written (Err v) out one two held place h k e = tt

-- ---- where payloads begin ----

start_more : (k : ℕ) (o : Option Entry) (m : List (ℕ × Entry)) → entry_starts (filled_one k o m) ≡ entry_starts (filled_one k o []) ++ entry_starts m
start_more k None m = refl
start_more k (Some e) m = one (start_of e.what) (entry_starts m)

abbrev pub starts_of : List (ℕ × Option Entry) → List ℕ
starts_of m = entry_starts (filled m)

pub starts_more : (s : ℕ × Option Entry) (m : List (ℕ × Option Entry)) → starts_of (s ∷ m) ≡ starts_of (s ∷ []) ++ starts_of m
unfolding filled
starts_more s m = start_more s.0 s.1 (filled m)

pub starts_none : starts_of [] ≡ []
unfolding filled
starts_none = refl

pub start_one : (k : ℕ) (o : Option Entry) (e : Entry) → o ≡ Some e → start_of e.what ≡ starts_of ((k, o) ∷ [])
unfolding filled
start_one k o e h = sym (append-nil (start_of e.what)) ∙ sym (ap (λ p. entry_starts (filled_one k p [])) h)

pub start_none : (k : ℕ) (o : Option Entry) → o ≡ None → starts_of ((k, o) ∷ []) ≡ []
unfolding filled
start_none k o h = ap (λ p. entry_starts (filled_one k p [])) h

all_more : (k : ℕ) (o : Option Log) (m : List (ℕ × Log)) → payload_starts (filled_one k o m) ≡ payload_starts (filled_one k o []) ++ payload_starts m
all_more k None m = refl
all_more k (Some g) m = one (entry_starts g.entries) (payload_starts m)

abbrev pub all_starts_of : List (ℕ × Held) → List ℕ
all_starts_of m = payload_starts (there_of m)

pub all_starts_more : (s : ℕ × Held) (m : List (ℕ × Held)) → all_starts_of (s ∷ m) ≡ all_starts_of (s ∷ []) ++ all_starts_of m
unfolding filled
all_starts_more s m = all_more s.0 (if_there s.1) (filled (map_values if_there m))

pub all_starts_none : all_starts_of [] ≡ []
unfolding filled
all_starts_none = refl

pub all_start_one : (k : ℕ) (h : Held) → h.there ≡ true → entry_starts h.log.entries ≡ all_starts_of ((k, h) ∷ [])
unfolding filled
all_start_one k h t = sym (append-nil (entry_starts h.log.entries)) ∙ sym (ap (λ p. payload_starts (filled_one k p [])) (there_some h t))

pub all_start_none : (k : ℕ) (h : Held) → h.there ≡ false → all_starts_of ((k, h) ∷ []) ≡ []
unfolding filled
all_start_none k h t = ap (λ p. payload_starts (filled_one k p [])) (there_no h t)

pub no_start : (at len : ℕ) → len ≡ 0 → first_of (numbers_from at len) ≡ []
no_start at len h = ap (λ n. first_of (numbers_from at n)) h

pub a_start : (at len : ℕ) → 0 < len → first_of (numbers_from at len) ≡ at ∷ []
a_start at zero h = absurd (omega arith)
a_start at (suc n) h = refl

-- what a record lists
pub start_is : {T E : Type 0} (r : Result T E) (out new : List ℕ) (held : Stands) (place : Place) → OnOk r (new ≡ out ++ first_of (numbers_from place.at place.len)) → held ≡ Rec place → OnOk r (new ≡ out ++ start_of (seen_what held))
start_is r out new held place h e = subst (λ x. OnOk r (new ≡ out ++ start_of (seen_what x))) (sym e) h
