-- Pages that are asked for one after the other join.
use Rattle.std.proofs.Common.{◌≡◌, inl, inr, ℕ, zero, suc, ◌+◌, ◌*◌, ◌-◌, ◌≤◌, ◌<◌, ◌^◌, max, Bool, true, false, not, cond, ◌&&◌, ◌==◌, List, [], ◌∷◌, ◌++◌, filter, take, drop, length, Some, None, nat_cmp, nat_le, nat_lt, Less, refl, ap, sym, ◌∙◌, subst, arith}
use Rattle.std.specs.Map as map
use Rattle.std.specs.List.{AllByRecursion}
use Rattle.std.specs.List.Sorted.{IsStrictlySortedBy}
use Rattle.std.proofs.lemmas.Bool.{cond_both, and_parts, leb-true, cases_Bool}
use Rattle.std.proofs.lemmas.Bool.Decides.{nat_tests}
use Rattle.std.proofs.lemmas.List.{take-append-drop, length-drop, append-nil}
use Rattle.ld_table.specs.Table.{find, Ordered}
use Rattle.ld_table.specs.Words.{values}
use Rattle.ld_table.proofs.Order.{found}
use Rattle.ld_lsn.specs.Number.{epoch_of, esn_of, numbered, home_epoch, home_esn, last_esn}
use Rattle.ld_msg.specs.declared.msg.Entry.{Entry}
use Rattle.ld_msg.specs.declared.msg.Summary.{Summary}
use Rattle.ld_msg.specs.declared.msg.Body.{Body}
use Rattle.ld_msg.specs.declared.msg.Body.TheVariants as bodies
use Rattle.ld_msg.specs.Digest.{is_bridge}
use Rattle.ld_op.specs.Plain.{Log, summary_at, is_lost}
use Rattle.ld_op.specs.Whole.{AreNumbered}
use Rattle.ld_op.specs.Answers.{entries_within, readable, page_limit, page_upto, last_number, digest_page, read_page, read_answer, epoch_answer, lets_read}
use Rattle.ld_readnode.specs.Answered.{digest_in}
use Rattle.ld_readnode.specs.Joined.{reached, entries_in, entries_of, AskedOn, Join, Cover}

-- ---- entries whose numbers rise ----

-- from a number on
abbrev pub Rises : ℕ → List Entry → Type 0
Rises from [] = Unit {0}
Rises from (e ∷ es) = (from ≤ e.number) × Rises (e.number + 1) es

rises_before : (a b : ℕ) (es : List Entry) → a ≤ b → Rises b es → Rises a es
rises_before a b [] h r = tt
rises_before a b (e ∷ es) h r = (omega (arith, r.0), r.1)

rises-filter : (p : Entry → Bool) (from : ℕ) (es : List Entry) → Rises from es → Rises from (filter p es)
rises-filter p from [] r = tt
rises-filter p from (e ∷ es) r = cond_both (p e) (e ∷ filter p es) (filter p es) (Rises from)
    (λ t. (r.0, rises-filter p (e.number + 1) es r.1))
    (λ t. rises_before from (e.number + 1) (filter p es) (omega (arith, r.0)) (rises-filter p (e.number + 1) es r.1))

after : (x y : ℕ) → nat_cmp x y ≡ Less → x + 1 ≤ y
after x y h = grind (arith, nat_tests)

all_after : (x : ℕ) (ks : List ℕ) → AllByRecursion (λ y. nat_cmp x y ≡ Less) ks → AllByRecursion (λ y. x + 1 ≤ y) ks
all_after x [] h = tt
all_after x (k ∷ ks) h = (after x k h.0, all_after x ks h.1)

table_rises : (from : ℕ) (m : List (ℕ × Entry)) → Ordered m → AllByRecursion (λ s. s.1.number ≡ s.0) m → AllByRecursion (λ y. from ≤ y) (map.keys_of m) → Rises from (values m)
unfolding IsStrictlySortedBy
table_rises from [] o a b = tt
table_rises from (e ∷ m) o a b =
    (omega (arith, b.0, a.0), table_rises (e.1.number + 1) m o.1 a.1 (subst (λ x. AllByRecursion (λ y. x + 1 ≤ y) (map.keys_of m)) (sym a.0) (all_after e.0 (map.keys_of m) o.0)))

from_zero : (ks : List ℕ) → AllByRecursion (λ y. 0 ≤ y) ks
from_zero [] = tt
from_zero (k ∷ ks) = (omega arith, from_zero ks)

numbered_as : (g : Log) (m : List (ℕ × Entry)) → AreNumbered g → AllByRecursion (λ s. find s.0 g.entries ≡ Some s.1) m → AllByRecursion (λ s. s.1.number ≡ s.0) m
numbered_as g [] a f = tt
numbered_as g (s ∷ m) a f = (a s.0 s.1 f.0, numbered_as g m a f.1)

log_rises : (g : Log) → Ordered g.entries → AreNumbered g → Rises 0 (values g.entries)
log_rises g o a = table_rises 0 g.entries o (numbered_as g g.entries a (found g.entries o)) (from_zero (map.keys_of g.entries))

-- ---- the entries from a number on ----

abbrev pub from_on : ℕ → List Entry → List Entry
from_on n es = filter (λ e. nat_le n e.number) es

all_from : (n : ℕ) (es : List Entry) → Rises n es → from_on n es ≡ es
all_from n [] r = refl
all_from n (e ∷ es) r =
    let b : nat_le n e.number ≡ true = grind (arith, nat_tests) in
    ap (λ c. cond c (e ∷ from_on n es) (from_on n es)) b ∙ ap (λ k. e ∷ k) (all_from n es (rises_before n (e.number + 1) es (omega (arith, r.0)) r.1))

not_from : (n : ℕ) (e : Entry) (es : List Entry) → e.number < n → from_on n (e ∷ es) ≡ from_on n es
not_from n e es h = let b : nat_le n e.number ≡ false = grind (arith, nat_tests) in ap (λ c. cond c (e ∷ from_on n es) (from_on n es)) b

-- behind the last number of a front stands the rest
pub record IsParted (k low : ℕ) (es : List Entry) : Type 0 where
  pub first : low ≤ last_number (take (suc k) es)
  pub rest : from_on (last_number (take (suc k) es) + 1) es ≡ drop (suc k) es

parted : (k low : ℕ) (es : List Entry) → Rises low es → k < length es → IsParted k low es
parted k low [] r h = absurd (omega arith)
parted zero low (e ∷ es) r h = record { first = r.0; rest = not_from (e.number + 1) e es (omega arith) ∙ all_from (e.number + 1) es r.1 }
parted (suc k) low (e ∷ []) r h = absurd (omega arith)
parted (suc k) low (e ∷ f ∷ es) r h =
    let p = parted k (e.number + 1) (f ∷ es) r.1 (omega arith) in
    record {
      first = omega (arith, p.first, r.0);
      rest = not_from (last_number (take (suc k) (f ∷ es)) + 1) e (f ∷ es) (omega (arith, p.first)) ∙ p.rest;
    }

last_within : (k last : ℕ) (es : List Entry) → AllByRecursion (λ e. e.number ≤ last) es → k < length es → last_number (take (suc k) es) ≤ last
last_within k last [] a h = absurd (omega arith)
last_within zero last (e ∷ es) a h = a.0
last_within (suc k) last (e ∷ []) a h = absurd (omega arith)
last_within (suc k) last (e ∷ f ∷ es) a h = last_within k last (f ∷ es) a.1 (omega arith)

none_past : (last : ℕ) (es : List Entry) → Rises (last + 1) es → AllByRecursion (λ e. e.number ≤ last) es → es ≡ []
none_past last [] r a = refl
none_past last (e ∷ es) r a = absurd (omega (arith, r.0, a.0))

-- ---- what is to be given ----

-- from each number on the entries rise, none is past the last number, and from a later number on they are the later ones of them
pub record AreGiven (last : ℕ) (given : ℕ → List Entry) : Type 0 where
  pub rise : (n : ℕ) → Rises n (given n)
  pub within : (n : ℕ) → AllByRecursion (λ e. e.number ≤ last) (given n)
  pub onward : (n m : ℕ) → n ≤ m → given m ≡ from_on m (given n)

within-filter : (last : ℕ) (p : Entry → Bool) (es : List Entry) → AllByRecursion (λ e. e.number ≤ last) es → AllByRecursion (λ e. e.number ≤ last) (filter p es)
within-filter last p [] a = tt
within-filter last p (e ∷ es) a = cond_both (p e) (e ∷ filter p es) (filter p es) (AllByRecursion (λ e. e.number ≤ last)) (λ t. (a.0, within-filter last p es a.1)) (λ t. within-filter last p es a.1)

filter_step : (a b c : Bool) (e : Entry) (q r : Entry → Bool) (es fs gs : List Entry) → a ≡ c && b → r e ≡ b → es ≡ filter r fs → cond a (e ∷ es) es ≡ filter r (cond c (e ∷ fs) fs)
filter_step a b true e q r es fs gs h k i = ap (λ x. cond x (e ∷ es) es) (h ∙ sym k) ∙ ap (λ x. cond (r e) (e ∷ x) x) i
filter_step a b false e q r es fs gs h k i = ap (λ x. cond x (e ∷ es) es) h ∙ i

filter_nested : (q s r : Entry → Bool) (es : List Entry) → ((e : Entry) → q e ≡ s e && r e) → filter q es ≡ filter r (filter s es)
filter_nested q s r [] h = refl
filter_nested q s r (e ∷ es) h = filter_step (q e) (r e) (s e) e q r (filter q es) (filter s es) [] (h e) refl (filter_nested q s r es h)

swapped : (a b : Bool) → a && b ≡ b && a
swapped true true = refl
swapped true false = refl
swapped false true = refl
swapped false false = refl

filter_swapped : (p q : Entry → Bool) (es : List Entry) → filter p (filter q es) ≡ filter q (filter p es)
filter_swapped p q es = sym (filter_nested (λ e. q e && p e) q p es (λ e. refl)) ∙ filter_nested (λ e. q e && p e) p q es (λ e. swapped (q e) (p e))

within_rises : (low n last : ℕ) (es : List Entry) → Rises low es → Rises (max low n) (filter (λ e. nat_le n e.number && nat_le e.number last) es)
within_rises low n last [] r = tt
within_rises low n last (e ∷ es) r =
    let rest = filter (λ e. nat_le n e.number && nat_le e.number last) es in
    let i = within_rises (e.number + 1) n last es r.1 in
    cond_both (nat_le n e.number && nat_le e.number last) (e ∷ rest) rest (Rises (max low n))
    (λ t. let f = leb-true n e.number (and_parts (nat_le n e.number) (nat_le e.number last) t).0 in (omega (arith, f, r.0), rises_before (e.number + 1) (max (e.number + 1) n) rest (omega arith) i))
    (λ t. rises_before (max low n) (max (e.number + 1) n) rest (omega (arith, r.0)) i)

all_within : (n last : ℕ) (es : List Entry) → AllByRecursion (λ e. e.number ≤ last) (filter (λ e. nat_le n e.number && nat_le e.number last) es)
all_within n last [] = tt
all_within n last (e ∷ es) =
    let rest = filter (λ e. nat_le n e.number && nat_le e.number last) es in
    cond_both (nat_le n e.number && nat_le e.number last) (e ∷ rest) rest (AllByRecursion (λ e. e.number ≤ last))
    (λ t. (leb-true e.number last (and_parts (nat_le n e.number) (nat_le e.number last) t).1, all_within n last es))
    (λ t. all_within n last es)

in_both : (n m last x : ℕ) → n ≤ m → (nat_le m x && nat_le x last) ≡ ((nat_le n x && nat_le x last) && nat_le m x)
in_both n m last x h = grind (arith, nat_tests)

all_given : (g : Log) (last : ℕ) → Ordered g.entries → AreNumbered g → AreGiven last (λ n. entries_within g n last)
all_given g last o a = record {
  rise = λ n. let e : max 0 n ≡ n = omega arith in subst (λ k. Rises k (entries_within g n last)) e (within_rises 0 n last (values g.entries) (log_rises g o a));
  within = λ n. all_within n last (values g.entries);
  onward = λ n m h. filter_nested (λ e. nat_le m e.number && nat_le e.number last) (λ e. nat_le n e.number && nat_le e.number last) (λ e. nat_le m e.number) (values g.entries) (λ e. in_both n m last e.number h);
}

some_given : (last : ℕ) (p : Entry → Bool) (given : ℕ → List Entry) → AreGiven last given → AreGiven last (λ n. filter p (given n))
some_given last p given w = record {
  rise = λ n. rises-filter p n (given n) (w.rise n);
  within = λ n. within-filter last p (given n) (w.within n);
  onward = λ n m h. ap (filter p) (w.onward n m h) ∙ filter_swapped p (λ e. nat_le m e.number) (given n);
}

-- ---- a page ----

-- from each number of a range an answer is the page of what is to be given from there on
pub record ArePages (answer : ℕ → Body) (first last : ℕ) (given : ℕ → List Entry) : Type 0 where
  pub upto : (n : ℕ) → first ≤ n → n ≤ last → reached (answer n) ≡ page_upto (given n) last
  pub entries : (n : ℕ) → first ≤ n → n ≤ last → entries_in (answer n) ≡ take page_limit (given n)

-- a page reaches on, and behind it stands the rest
record Steps (answer : ℕ → Body) (last : ℕ) (given : ℕ → List Entry) (n : ℕ) : Type 0 where
  on : n ≤ reached (answer n)
  within : reached (answer n) ≤ last
  parts : entries_in (answer n) ++ given (reached (answer n) + 1) ≡ given n
  last_one : length (given n) ≤ 64 → reached (answer n) ≡ last
  fewer : 64 < length (given n) → length (given (reached (answer n) + 1)) + 64 ≡ length (given n)

steps_full : (answer : ℕ → Body) (last : ℕ) (given : ℕ → List Entry) (n : ℕ) → AreGiven last given → reached (answer n) ≡ last_number (take 64 (given n)) → entries_in (answer n) ≡ take 64 (given n) → 64 < length (given n) → Steps answer last given n
steps_full answer last given n w u t h =
    let p = parted 63 n (given n) (w.rise n) (omega arith) in
    let m = last_within 63 last (given n) (w.within n) (omega arith) in
    let rest : given (reached (answer n) + 1) ≡ drop 64 (given n) = w.onward n (reached (answer n) + 1) (omega (arith, p.first)) ∙ (ap (λ k. from_on (k + 1) (given n)) u ∙ p.rest) in
    record {
      on = subst (λ k. n ≤ k) (sym u) p.first;
      within = subst (λ k. k ≤ last) (sym u) m;
      parts = ap (λ k. k ++ given (reached (answer n) + 1)) t ∙ (ap (λ k. take 64 (given n) ++ k) rest ∙ take-append-drop 64 (given n));
      last_one = λ s. absurd (omega arith);
      fewer = λ s. let l = ap length rest ∙ length-drop 64 (given n) in omega arith;
    }

take_all : (k : ℕ) (es : List Entry) → length es ≤ k → take k es ≡ es
take_all zero [] h = refl
take_all zero (e ∷ es) h = absurd (omega arith)
take_all (suc k) [] h = refl
take_all (suc k) (e ∷ es) h = ap (λ r. e ∷ r) (take_all k es (omega arith))

steps_short : (answer : ℕ → Body) (last : ℕ) (given : ℕ → List Entry) (n : ℕ) → AreGiven last given → reached (answer n) ≡ last → entries_in (answer n) ≡ take 64 (given n) → length (given n) ≤ 64 → n ≤ last → Steps answer last given n
steps_short answer last given n w u t h l =
    let none : given (reached (answer n) + 1) ≡ [] = ap (λ k. given (k + 1)) u ∙ none_past last (given (last + 1)) (w.rise (last + 1)) (w.within (last + 1)) in
    record {
      on = omega arith;
      within = omega arith;
      parts = ap (λ k. k ++ given (reached (answer n) + 1)) (t ∙ take_all 64 (given n) h) ∙ (ap (λ k. given n ++ k) none ∙ append-nil (given n));
      last_one = λ s. u;
      fewer = λ s. absurd (omega arith);
    }

upto_is : (es : List Entry) (last : ℕ) (b : Bool) → nat_lt page_limit (length es) ≡ b → page_upto es last ≡ cond b (last_number (take page_limit es)) last
upto_is es last b h = ap (λ c. cond c (last_number (take page_limit es)) last) h

steps : (answer : ℕ → Body) (first last : ℕ) (given : ℕ → List Entry) → AreGiven last given → ArePages answer first last given → (n : ℕ) → first ≤ n → n ≤ last → Steps answer last given n
steps answer first last given w p n f l = elim (cases_Bool (nat_lt page_limit (length (given n)))) [
  | inl full ↦ steps_full answer last given n w (p.upto n f l ∙ upto_is (given n) last true full) (p.entries n f l) (grind (arith, nat_tests))
  | inr short ↦ steps_short answer last given n w (p.upto n f l ∙ upto_is (given n) last false short) (p.entries n f l) (grind (arith, nat_tests)) l
]

-- ---- all pages ----

module _ (answer : ℕ → Body) (first last : ℕ) (given : ℕ → List Entry) (w : AreGiven last given) (p : ArePages answer first last given) where
  all_join : (pages : List Body) (from : ℕ) → first ≤ from → from ≤ last + 1 → AskedOn answer last from pages → Join last from pages
  all_join [] from f l a = omega arith
  all_join (b ∷ bs) from f l a =
      let s = steps answer first last given w p from f a.0 in
      let r : reached b ≡ reached (answer from) = ap reached a.1 in
      (omega (arith, s.on, r), all_join bs (reached b + 1) (omega (arith, s.on, r)) (omega (arith, s.within, r)) a.2)

  all_once : (pages : List Body) (from : ℕ) → first ≤ from → from ≤ last + 1 → AskedOn answer last from pages → entries_of pages ≡ given from
  all_once [] from f l a =
      let e : from ≡ last + 1 = omega arith in
      sym (ap given e ∙ none_past last (given (last + 1)) (w.rise (last + 1)) (w.within (last + 1)))
  all_once (b ∷ bs) from f l a =
      let s = steps answer first last given w p from f a.0 in
      let r : reached b ≡ reached (answer from) = ap reached a.1 in
      ap (λ k. entries_in b ++ k) (all_once bs (reached b + 1) (omega (arith, s.on, r)) (omega (arith, s.within, r)) a.2)
      ∙ (ap (λ k. entries_in k ++ given (reached k + 1)) a.1 ∙ s.parts)

  abbrev Ends : ℕ → Type 0
  Ends from = (pages : List Body) × AskedOn answer last from pages × (64 * length pages ≤ length (given from) + 64)

  one_page : (from : ℕ) → from ≤ last → reached (answer from) ≡ last → Ends from
  one_page from l e = (answer from ∷ [], (l, refl, omega arith), omega arith)

  page_more : (from : ℕ) → first ≤ from → from ≤ last → 64 < length (given from) → Ends (reached (answer from) + 1) → Ends from
  page_more from f l more rest = let s = steps answer first last given w p from f l in (answer from ∷ rest.0, (l, refl, rest.1), let c = rest.2 in let n = s.fewer more in omega arith)

  all_end : (k from : ℕ) → length (given from) ≤ k → first ≤ from → from ≤ last → Ends from
  all_end zero from h f l = one_page from l ((steps answer first last given w p from f l).last_one (omega arith))
  all_end (suc k) from h f l =
      let s = steps answer first last given w p from f l in
      elim (cases_Bool (nat_lt 64 (length (given from)))) [
        | inl full ↦ let more : 64 < length (given from) = grind (arith, nat_tests) in elim (cases_Bool (nat_lt (reached (answer from)) last)) [
          | inl before ↦ page_more from f l more (all_end k (reached (answer from) + 1) (omega (arith, s.fewer more)) (omega (arith, s.on)) (grind (arith, nat_tests)))
          | inr end ↦ one_page from l (let i = s.within in let j : last ≤ reached (answer from) = grind (arith, nat_tests) in omega arith)
        ]
        | inr short ↦ one_page from l (s.last_one (grind (arith, nat_tests)))
      ]

  pub covered : (from : ℕ) → first ≤ from → from ≤ last → Cover answer last from (given from)
  covered from f l = record {
    join = λ pages a. all_join pages from f (omega arith) a;
    once = λ pages a. all_once pages from f (omega arith) a;
    end = all_end (length (given from)) from (omega arith) f l;
  }

-- ---- a digest ----

epoch_is : (epoch n : ℕ) → numbered epoch 0 ≤ n → n ≤ numbered epoch last_esn → epoch_of n ≡ epoch
epoch_is epoch n h k = omega arith

digest_is : (g : Log) (epoch n : ℕ) → epoch_of n ≡ epoch → digest_in g (bodies.DigestAsk n) ≡ digest_page g n (entries_within g n (numbered epoch last_esn)) (numbered epoch last_esn)
digest_is g epoch n h = ap (λ e. digest_page g n (entries_within g n (numbered e last_esn)) (numbered e last_esn)) h

digest_pages : (g : Log) (epoch : ℕ) → ArePages (λ n. digest_in g (bodies.DigestAsk n)) (numbered epoch 0) (numbered epoch last_esn) (λ n. entries_within g n (numbered epoch last_esn))
digest_pages g epoch = record {
  upto = λ n f l. ap reached (digest_is g epoch n (epoch_is epoch n f l));
  entries = λ n f l. ap entries_in (digest_is g epoch n (epoch_is epoch n f l));
}

pub digest_covers : (g : Log) (epoch from : ℕ) → Ordered g.entries → AreNumbered g → numbered epoch 0 ≤ from → from ≤ numbered epoch last_esn
    → Cover (λ n. digest_in g (bodies.DigestAsk n)) (numbered epoch last_esn) from (entries_within g from (numbered epoch last_esn))
digest_covers g epoch from o a f l =
    covered (λ n. digest_in g (bodies.DigestAsk n)) (numbered epoch 0) (numbered epoch last_esn) (λ n. entries_within g n (numbered epoch last_esn)) (all_given g (numbered epoch last_esn) o a) (digest_pages g epoch) from f l

-- ---- a reader's pages ----

readable_given : (g : Log) (last : ℕ) → Ordered g.entries → AreNumbered g → AreGiven last (λ n. readable g n last)
readable_given g last o a = some_given last (λ e. not (is_bridge e.what)) (λ n. entries_within g n last) (all_given g last o a)

-- an offset of an epoch belongs to it
home_is : (epoch n : ℕ) → numbered epoch 1 ≤ n → n ≤ numbered epoch last_esn → (home_epoch n ≡ epoch) × (home_esn n ≡ n - numbered epoch 0)
home_is epoch n h k = elim (cases_Bool (esn_of n == 0)) [
  | inl none ↦ let e : esn_of n ≡ 0 = grind (arith, nat_tests) in absurd (omega arith)
  | inr other ↦ (
    ap (λ b. cond (b && nat_lt 0 (epoch_of n)) (epoch_of n - 1) (epoch_of n)) other ∙ epoch_is epoch n (omega arith) k,
    ap (λ b. cond (b && nat_lt 0 (epoch_of n)) (2 ^ 32) (esn_of n)) other ∙ omega arith,
  )
]

off : (b : Bool) (x y : Body) → b ≡ false → cond b x y ≡ y
off true x y h = absurd (cc h)
off false x y h = refl

on : (b : Bool) (x y : Body) → b ≡ true → cond b x y ≡ x
on true x y h = refl
on false x y h = absurd (cc h)

clean_is : (g : Log) (generation released round epoch n : ℕ) (y : Summary) → summary_at g epoch ≡ Some y → is_lost g epoch ≡ false → g.trim < n → home_epoch n ≡ epoch → home_esn n < y.end
    → read_answer generation g released round n ≡ read_page round n true (numbered epoch (y.end - 1)) (readable g n (numbered epoch (y.end - 1)))
unfolding read_answer
clean_is g generation released round epoch n y s lost t h e =
    off (nat_le n g.trim) _ _ (grind (arith, nat_tests))
    ∙ (ap (epoch_answer generation g released round n) (ap (summary_at g) h ∙ s)
    ∙ (off (nat_le y.end (home_esn n)) _ _ (grind (arith, nat_tests))
    ∙ (off (is_lost g (home_epoch n)) _ _ (ap (is_lost g) h ∙ lost)
    ∙ ap (λ k. read_page round n true (numbered k (y.end - 1)) (readable g n (numbered k (y.end - 1)))) h)))

pub clean_covers : (g : Log) (generation released round epoch from : ℕ) (y : Summary) → Ordered g.entries → AreNumbered g
    → summary_at g epoch ≡ Some y → is_lost g epoch ≡ false → y.end < 2 ^ 32 → g.trim < from → numbered epoch 1 ≤ from → from < numbered epoch y.end
    → Cover (λ n. read_answer generation g released round n) (numbered epoch (y.end - 1)) from (readable g from (numbered epoch (y.end - 1)))
clean_covers g generation released round epoch from y o a s lost small t f l =
    let last = numbered epoch (y.end - 1) in
    let is : (n : ℕ) → from ≤ n → n ≤ last → read_answer generation g released round n ≡ read_page round n true last (readable g n last) = λ n i j.
    let h = home_is epoch n (omega arith) (omega arith) in clean_is g generation released round epoch n y s lost (omega arith) h.0 (omega (arith, h.1)) in
    covered (λ n. read_answer generation g released round n) from last (λ n. readable g n last) (readable_given g last o a) (record { upto = λ n i j. ap reached (is n i j); entries = λ n i j. ap entries_in (is n i j) }) from (omega arith) (omega arith)

lets : (released epoch n : ℕ) → 0 < esn_of released → epoch_of released ≡ epoch → home_epoch n ≡ epoch → n ≤ released → lets_read released n ≡ true
lets released epoch n p e h l = grind (arith, nat_tests)

open_is : (g : Log) (generation released round epoch n : ℕ) → summary_at g epoch ≡ None → is_lost g epoch ≡ false → g.trim < n → home_epoch n ≡ epoch → lets_read released n ≡ true
    → read_answer generation g released round n ≡ read_page round n false released (readable g n released)
unfolding read_answer
open_is g generation released round epoch n s lost t h may =
    off (nat_le n g.trim) _ _ (grind (arith, nat_tests))
    ∙ (ap (epoch_answer generation g released round n) (ap (summary_at g) h ∙ s)
    ∙ (off (is_lost g (home_epoch n)) _ _ (ap (is_lost g) h ∙ lost)
    ∙ on (lets_read released n) _ _ may))

pub open_covers : (g : Log) (generation released round epoch from : ℕ) → Ordered g.entries → AreNumbered g
    → summary_at g epoch ≡ None → is_lost g epoch ≡ false → epoch_of released ≡ epoch → 0 < esn_of released → g.trim < from → numbered epoch 1 ≤ from → from ≤ released
    → Cover (λ n. read_answer generation g released round n) released from (readable g from released)
open_covers g generation released round epoch from o a s lost e p t f l =
    let is : (n : ℕ) → from ≤ n → n ≤ released → read_answer generation g released round n ≡ read_page round n false released (readable g n released) = λ n i j.
    let h = home_is epoch n (omega arith) (omega arith) in open_is g generation released round epoch n s lost (omega arith) h.0 (lets released epoch n p e h.0 j) in
    covered (λ n. read_answer generation g released round n) from released (λ n. readable g n released) (readable_given g released o a) (record { upto = λ n i j. ap reached (is n i j); entries = λ n i j. ap entries_in (is n i j) }) from (omega arith) l
