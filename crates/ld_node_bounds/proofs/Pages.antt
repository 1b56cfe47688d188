-- What a node shows of its entries is a page: its numbers rise in their range, and it is short; and so it is where records are withheld.
use Rattle.std.proofs.Common.{◌≡◌, ◌≤◌, ◌<◌, ℕ, zero, suc, ◌+◌, sym, subst, Bool, true, false, ◌&&◌, not, List, [], ◌∷◌, filter, map, take, length, nat_cmp, nat_le, nat_lt, Less, arith}
use Rattle.std.specs.Map as maps
use Rattle.std.specs.List.{AllByRecursion}
use Rattle.std.specs.List.Sorted.{IsStrictlySortedBy}
use Rattle.std.proofs.lemmas.Bool.{cond_both, and_parts, leb-true, ltb-true}
use Rattle.std.proofs.lemmas.Bool.Decides.{nat_tests}
use Rattle.ld_table.specs.Table.{Ordered}
use Rattle.ld_table.specs.Words.{values}
use Rattle.ld_lsn.specs.Number.{esn_of, home_epoch}
use Rattle.ld_msg.specs.declared.msg.Who.{Who}
use Rattle.ld_msg.specs.declared.msg.Entry.{Entry}
use Rattle.ld_msg.specs.declared.msg.What.{What}
use Rattle.ld_msg.specs.declared.msg.What.TheVariants.{Rec, Hole, Bridge, Plug, Withheld}
use Rattle.ld_msg.specs.Digest.{is_bridge}
use Rattle.ld_msg.specs.Bounds.{Is64, IsEntry, IsShort, AreEntries, IsReader, IsReadable, AreReadable, IsKept, AreKept, RiseWithin, IsPage, last_place}
use Rattle.ld_op.specs.Plain.{Log}
use Rattle.ld_op.specs.Answers.{entries_within, readable, page_limit, page_upto, last_number, is_node, withheld_what, withheld}
use Rattle.ld_msg.specs.Choice.{sender}
use Rattle.ld_node_bounds.specs.States.{IsStored, IsLogState}
use Rattle.ld_node_bounds.proofs.Numbers.{home_between}

-- entries from a number on, their numbers rising
abbrev Rises : ℕ → List Entry → Type 0
Rises from [] = Unit {0}
Rises from (e ∷ es) = (from ≤ e.number) × IsEntry e × Rises (e.number + 1) es

after : (x y : ℕ) → nat_cmp x y ≡ Less → x + 1 ≤ y
after x y h = grind (arith, nat_tests)

all_after : (x : ℕ) (ks : List ℕ) → AllByRecursion (λ y. nat_cmp x y ≡ Less) ks → AllByRecursion (λ y. x + 1 ≤ y) ks
all_after x [] h = tt
all_after x (k ∷ ks) h = (after x k h.0, all_after x ks h.1)

table_rises : (from : ℕ) (m : List (ℕ × Entry)) → Ordered m → AllByRecursion IsStored m → AllByRecursion (λ y. from ≤ y) (maps.keys_of m) → Rises from (values m)
unfolding IsStrictlySortedBy
table_rises from [] o a b = tt
table_rises from (e ∷ m) o a b = let q = a.0.number in
    (omega (arith, b.0, q), a.0.entry, table_rises (e.1.number + 1) m o.1 a.1 (subst (λ x. AllByRecursion (λ y. x + 1 ≤ y) (maps.keys_of m)) (sym q) (all_after e.0 (maps.keys_of m) o.0)))

from_zero : (ks : List ℕ) → AllByRecursion (λ y. 0 ≤ y) ks
from_zero [] = tt
from_zero (k ∷ ks) = (omega arith, from_zero ks)

-- ---- a range ----

within_rises : (low from upto bound : ℕ) (es : List Entry) → ((n : ℕ) → low ≤ n → from ≤ n → bound ≤ n) → Rises low es → RiseWithin bound upto (filter (λ e. nat_le from e.number && nat_le e.number upto) es)
within_rises low from upto bound [] b r = tt
within_rises low from upto bound (e ∷ es) b r =
    cond_both (nat_le from e.number && nat_le e.number upto) (e ∷ filter (λ e. nat_le from e.number && nat_le e.number upto) es) (filter (λ e. nat_le from e.number && nat_le e.number upto) es) (RiseWithin bound upto)
    (λ t. let p = and_parts (nat_le from e.number) (nat_le e.number upto) t in let lo = leb-true from e.number p.0 in
    (b e.number r.0 lo, leb-true e.number upto p.1, within_rises (e.number + 1) from upto (e.number + 1) es (λ n i j. i) r.2))
    (λ t. within_rises (e.number + 1) from upto bound es (λ n i j. b n (let z = r.0 in omega arith) j) r.2)

rise_entries : (from : ℕ) (es : List Entry) → Rises from es → AreEntries es
rise_entries from [] r = tt
rise_entries from (e ∷ es) r = (r.1, rise_entries (e.number + 1) es r.2)

pub entries-filter : (p : Entry → Bool) (es : List Entry) → AreEntries es → AreEntries (filter p es)
entries-filter p [] a = tt
entries-filter p (e ∷ es) a = cond_both (p e) (e ∷ filter p es) (filter p es) AreEntries (λ t. (a.0, entries-filter p es a.1)) (λ t. entries-filter p es a.1)

rise_down : (low high upto : ℕ) (es : List Entry) → low ≤ high → RiseWithin high upto es → RiseWithin low upto es
rise_down low high upto [] h r = tt
rise_down low high upto (e ∷ es) h r = (let z = r.0 in omega arith, r.1, r.2)

rise_filter : (p : Entry → Bool) (from upto : ℕ) (es : List Entry) → RiseWithin from upto es → RiseWithin from upto (filter p es)
rise_filter p from upto [] r = tt
rise_filter p from upto (e ∷ es) r = let rest : RiseWithin (e.number + 1) upto (filter p es) = rise_filter p (e.number + 1) upto es r.2 in
    cond_both (p e) (e ∷ filter p es) (filter p es) (RiseWithin from upto) (λ t. (r.0, r.1, rest)) (λ t. rise_down from (e.number + 1) upto (filter p es) (let z = r.0 in omega arith) rest)

not_bridge : (to : Who) (x : What) → IsKept x → not (is_bridge x) ≡ true → IsReadable to x
not_bridge to (Rec p) k h = tt
not_bridge to Hole k h = tt
not_bridge to Bridge k h = absurd cc
not_bridge to Plug k h = tt
not_bridge to Withheld k h = absurd k

readable-filter : (to : Who) (es : List Entry) → AreKept es → AreReadable to (filter (λ e. not (is_bridge e.what)) es)
readable-filter to [] k = tt
readable-filter to (e ∷ es) k = cond_both (not (is_bridge e.what)) (e ∷ filter (λ e. not (is_bridge e.what)) es) (filter (λ e. not (is_bridge e.what)) es) (AreReadable to) (λ t. (not_bridge to e.what k.0 t, readable-filter to es k.1)) (λ t. readable-filter to es k.1)

-- ---- kept entries ----

table_kept : (m : List (ℕ × Entry)) → AllByRecursion IsStored m → AreKept (values m)
table_kept [] a = tt
table_kept (e ∷ m) a = (a.0.kept, table_kept m a.1)

pub kept-filter : (p : Entry → Bool) (es : List Entry) → AreKept es → AreKept (filter p es)
kept-filter p [] k = tt
kept-filter p (e ∷ es) k = cond_both (p e) (e ∷ filter p es) (filter p es) AreKept (λ t. (k.0, kept-filter p es k.1)) (λ t. kept-filter p es k.1)

kept-take : (n : ℕ) (es : List Entry) → AreKept es → AreKept (take n es)
kept-take zero es k = tt
kept-take (suc n) [] k = tt
kept-take (suc n) (e ∷ es) k = (k.0, kept-take n es k.1)

-- ---- a page's length ----

entries-take : (k : ℕ) (es : List Entry) → AreEntries es → AreEntries (take k es)
entries-take zero es a = tt
entries-take (suc k) [] a = tt
entries-take (suc k) (e ∷ es) a = (a.0, entries-take k es a.1)

readable-take : (to : Who) (k : ℕ) (es : List Entry) → AreReadable to es → AreReadable to (take k es)
readable-take to zero es a = tt
readable-take to (suc k) [] a = tt
readable-take to (suc k) (e ∷ es) a = (a.0, readable-take to k es a.1)

rise-take : (k from upto : ℕ) (es : List Entry) → RiseWithin from upto es → RiseWithin from upto (take k es)
rise-take zero from upto es r = tt
rise-take (suc k) from upto [] r = tt
rise-take (suc k) from upto (e ∷ es) r = (r.0, r.1, rise-take k (e.number + 1) upto es r.2)

few-take : (k : ℕ) (es : List Entry) → length (take k es) ≤ k
few-take zero es = omega arith
few-take (suc k) [] = omega arith
few-take (suc k) (e ∷ es) = omega (arith, few-take k es)

some-take : (k : ℕ) (es : List Entry) → 1 ≤ k → k < length es → 1 ≤ length (take k es)
some-take zero es h i = absurd (omega arith)
some-take (suc k) [] h i = absurd (omega arith)
some-take (suc k) (e ∷ es) h i = omega arith

-- up to the last one
record Last (from upto : ℕ) (es : List Entry) : Type 0 where
  least : from ≤ last_number es
  most : last_number es ≤ upto
  rise : RiseWithin from (last_number es) es

rise_last : (from upto : ℕ) (es : List Entry) → 1 ≤ length es → RiseWithin from upto es → Last from upto es
rise_last from upto [] h r = absurd (omega arith)
rise_last from upto (e ∷ []) h r = record { least = r.0; most = r.1; rise = (r.0, omega arith, tt) }
rise_last from upto (e ∷ f ∷ es) h r = let i = rise_last (e.number + 1) upto (f ∷ es) (omega arith) r.2 in let z = r.0 in let k = i.least in
    record { least = omega arith; most = i.most; rise = (r.0, omega arith, i.rise) }

pub page_is : (from bound : ℕ) (es : List Entry) → 1 ≤ from → from ≤ bound → Is64 bound → home_epoch from ≡ home_epoch bound → AreEntries es → RiseWithin from bound es → IsPage from (page_upto es bound) (take page_limit es)
page_is from bound es one le b h a r = cond_both (nat_lt page_limit (length es)) (last_number (take page_limit es)) bound (λ u. IsPage from u (take page_limit es))
    (λ t. let l = rise_last from bound (take page_limit es) (some-take page_limit es (omega arith) (ltb-true page_limit (length es) t)) (rise-take page_limit from bound es r) in
    let lo = l.least in let hi = l.most in
    record { range = lo; bound = omega (arith, b, hi); home = home_between from (last_number (take page_limit es)) bound one lo hi h; few = few-take page_limit es; entries = entries-take page_limit es a; rise = l.rise })
    (λ t. record { range = le; bound = b; home = h; few = few-take page_limit es; entries = entries-take page_limit es a; rise = rise-take page_limit from bound es r })

module _ {most : ℕ} (g : Log) (G : IsLogState most g) where
  log_rises : Rises 0 (values g.entries)
  log_rises = table_rises 0 g.entries G.rise G.entries (from_zero (maps.keys_of g.entries))

  pub within_is : (from upto : ℕ) → RiseWithin from upto (entries_within g from upto)
  within_is from upto = within_rises 0 from upto from (values g.entries) (λ n i j. j) log_rises

  pub within_entries : (from upto : ℕ) → AreEntries (entries_within g from upto)
  within_entries from upto = entries-filter (λ e. nat_le from e.number && nat_le e.number upto) (values g.entries) (rise_entries 0 (values g.entries) log_rises)

  pub digest_is : (from bound : ℕ) → 1 ≤ from → from ≤ bound → Is64 bound → home_epoch from ≡ home_epoch bound → IsPage from (page_upto (entries_within g from bound) bound) (take page_limit (entries_within g from bound))
  digest_is from bound one le b h = page_is from bound (entries_within g from bound) one le b h (within_entries from bound) (within_is from bound)

  pub read_is : (from bound : ℕ) → 1 ≤ from → from ≤ bound → Is64 bound → home_epoch from ≡ home_epoch bound → IsPage from (page_upto (readable g from bound) bound) (take page_limit (readable g from bound))
  read_is from bound one le b h = page_is from bound (readable g from bound) one le b h (entries-filter (λ e. not (is_bridge e.what)) (entries_within g from bound) (within_entries from bound)) (rise_filter (λ e. not (is_bridge e.what)) from bound (entries_within g from bound) (within_is from bound))

  within_kept : (from upto : ℕ) → AreKept (entries_within g from upto)
  within_kept from upto = kept-filter (λ e. nat_le from e.number && nat_le e.number upto) (values g.entries) (table_kept g.entries G.entries)

  pub digest_kept : (from bound : ℕ) → AreKept (take page_limit (entries_within g from bound))
  digest_kept from bound = kept-take page_limit (entries_within g from bound) (within_kept from bound)

  pub read_readable : (to : Who) (from bound : ℕ) → AreReadable to (take page_limit (readable g from bound))
  read_readable to from bound = readable-take to page_limit (readable g from bound) (readable-filter to (entries_within g from bound) (within_kept from bound))

-- ---- records of which another node sends the payload ----

withheld_place : (mine : Bool) (x : What) (n : ℕ) → n ≤ last_place x → n ≤ last_place (withheld_what mine x)
withheld_place true (Rec p) n h = h
withheld_place false (Rec p) n h = h
withheld_place mine Hole n h = h
withheld_place mine Bridge n h = h
withheld_place mine Plug n h = h
withheld_place mine Withheld n h = h

withheld_short : (mine : Bool) (x : What) → IsShort x → IsShort (withheld_what mine x)
withheld_short true (Rec p) h = h
withheld_short false (Rec p) h = tt
withheld_short mine Hole h = h
withheld_short mine Bridge h = h
withheld_short mine Plug h = h
withheld_short mine Withheld h = h

withheld_readable : (to : Who) (mine : Bool) (x : What) → IsReader to → IsReadable to x → IsReadable to (withheld_what mine x)
withheld_readable to true (Rec p) r h = tt
withheld_readable to false (Rec p) r h = r
withheld_readable to mine Hole r h = h
withheld_readable to mine Bridge r h = h
withheld_readable to mine Plug r h = h
withheld_readable to mine Withheld r h = h

module _ (n : ℕ) (set excluded : List Bool) where
  withheld_entry : (e : Entry) → IsEntry e → IsEntry (withheld n set excluded e)
  withheld_entry e i = let mine : Bool = is_node n (sender set excluded e.number) in
      record { epoch = i.epoch; from_one = i.from_one; place = withheld_place mine e.what (esn_of e.number) i.place; ballot = i.ballot; ballot_most = i.ballot_most; short = withheld_short mine e.what i.short }

  withheld_entries : (es : List Entry) → AreEntries es → AreEntries (map (withheld n set excluded) es)
  withheld_entries [] a = tt
  withheld_entries (e ∷ es) a = (withheld_entry e a.0, withheld_entries es a.1)

  withheld_rise : (from upto : ℕ) (es : List Entry) → RiseWithin from upto es → RiseWithin from upto (map (withheld n set excluded) es)
  withheld_rise from upto [] r = tt
  withheld_rise from upto (e ∷ es) r = (r.0, r.1, withheld_rise (e.number + 1) upto es r.2)

  withheld_few : (k : ℕ) (es : List Entry) → length es ≤ k → length (map (withheld n set excluded) es) ≤ k
  withheld_few k [] h = h
  withheld_few zero (e ∷ es) h = absurd (omega arith)
  withheld_few (suc k) (e ∷ es) h = omega (arith, withheld_few k es (omega arith))

  -- a page with records withheld is one
  pub withheld_page : (from upto : ℕ) (es : List Entry) → IsPage from upto es → IsPage from upto (map (withheld n set excluded) es)
  withheld_page from upto es i = record { range = i.range; bound = i.bound; home = i.home; few = withheld_few 64 es i.few; entries = withheld_entries es i.entries; rise = withheld_rise from upto es i.rise }

  pub all_withheld : (to : Who) (es : List Entry) → IsReader to → AreReadable to es → AreReadable to (map (withheld n set excluded) es)
  all_withheld to [] r a = tt
  all_withheld to (e ∷ es) r a = (withheld_readable to (is_node n (sender set excluded e.number)) e.what r a.0, all_withheld to es r a.1)
