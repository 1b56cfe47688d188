-- A digest stays in its bounds page by page, and so is the plan that follows from it.
use Rattle.std.proofs.Common.{◌≡◌, ◌≤◌, ◌<◌, ℕ, Bool, zero, suc, ◌+◌, ◌-◌, ◌^◌, min, max, refl, subst, true, false, ◌&&◌, ◌==◌, not, nat_lt, cond, List, [], ◌∷◌, ◌++◌, Option, Some, None, arith}
use Rattle.std.specs.List.{AllByRecursion}
use Rattle.std.proofs.lemmas.Bool.{cond_both, and_parts, eqb-true, leb-false, not-true}
use Rattle.ld_table.specs.Words.{numbers_from}
use Rattle.ld_ids.specs.Id.{IsNode}
use Rattle.ld_ids.specs.declared.set.Spec.{Spec}
use Rattle.ld_ids.specs.Choice.{nodes_of}
use Rattle.ld_lsn.specs.Number.{epoch_of, esn_of, numbered, last_esn}
use Rattle.ld_msg.specs.declared.msg.What.{What}
use Rattle.ld_msg.specs.declared.msg.What.TheVariants.{Rec, Hole, Bridge, Plug, Withheld}
use Rattle.ld_msg.specs.declared.msg.Entry.{Entry}
use Rattle.ld_msg.specs.Bounds.{IsLng, Is64, IsEntry, AreEntries, IsShort, IsKept, IsPage, last_place}
use Rattle.ld_msg.specs.Digest.{Told, better, is_bridge, says, statement, told_nothing, no_digest, told_page, takes_page, with_page, told_lost, with_lost, asked_anew, with_asks, digest_lng, best, is_content, no_record, record_or, content, digest_trim, trim_place, plan_floor, top_in, top_place, plan_end, Item, record_items, places_between, plan_to, plan}
use Rattle.ld_table.specs.Words.{with_one}
use Rattle.ld_msg.specs.Sequencer.{Planned, Storing, planned, storing_of, settle, settled_by}
use Rattle.ld_sequencer_bounds.specs.Sequencers.{IsTold, IsPlanned, IsStoring}
use Rattle.ld_node_bounds.proofs.Alls.{all-append}
use Rattle.ld_sequencer_bounds.proofs.Posts.{all-map}
use Rattle.ld_node_bounds.proofs.Numbers.{epoch_numbered, esn_numbered}

-- ---- digests ----

pub no_digest_is : (s : Spec) (e : ℕ) → AllByRecursion IsNode (nodes_of s) → AllByRecursion (IsTold e) (no_digest s e)
no_digest_is s e a = all-map IsNode (IsTold e) (told_nothing e) (nodes_of s) (λ y h. record {
  node = h;
  asked = λ w. (epoch_numbered e 1 (omega arith), (let z = esn_numbered e 1 (omega arith) in omega arith));
  entries = tt;
  trim = omega arith;
  lng = omega arith;
}) a

entries-append : (xs ys : List Entry) → AreEntries xs → AreEntries ys → AreEntries (xs ++ ys)
entries-append [] ys a b = b
entries-append (x ∷ xs) ys a b = (a.0, entries-append xs ys a.1 b)

digest_lng_is : (e : ℕ) (d : List Told) → AllByRecursion (IsTold e) d → IsLng (digest_lng d)
unfolding digest_lng
digest_lng_is e [] a = omega arith
digest_lng_is e (t ∷ d) a = let l = a.0.lng in let m = digest_lng_is e d a.1 in omega arith

-- a number of the epoch that a node may be asked from
abbrev IsAsked : ℕ → ℕ → Type 0
IsAsked e n = (epoch_of n ≡ e) × (1 ≤ esn_of n)

greater_asked : (e a b : ℕ) → IsAsked e a → IsAsked e b → IsAsked e (max a b)
greater_asked e a b h k = let h0 = h.0 in let h1 = h.1 in let k0 = k.0 in let k1 = k.1 in (omega arith, omega arith)

past_good : (e good : ℕ) → IsLng good → IsAsked e (numbered e (good + 1))
past_good e good l = let a : good + 1 < 2 ^ 32 = omega arith in (epoch_numbered e (good + 1) a, (let z = esn_numbered e (good + 1) a in omega arith))

module _ (e y from upto trim lng : ℕ) (es : List Entry) (page : IsPage from upto es) (trim_is : Is64 trim) (lng_is : IsLng lng) where
  next_number : epoch_of from ≡ e → 1 ≤ esn_of from → upto < numbered e last_esn → IsAsked e (upto + 1)
  next_number h k l = let r = page.range in (omega arith, omega arith)

  paged : (good : ℕ) → IsLng good → (t : Told) → takes_page y from t ≡ true → IsTold e t → IsTold e (told_page e good upto trim lng es t)
  paged good good_is t h i =
      let p = and_parts (t.node == y) ((t.asked == from) && not t.whole) h in
      let q = and_parts (t.asked == from) (not t.whole) p.1 in
      let a = i.asked (not-true t.whole q.1) in
      let z : t.asked ≡ from = eqb-true t.asked from q.0 in
      record {
        node = i.node;
        asked = λ w. greater_asked e (upto + 1) (numbered e (good + 1)) (next_number (subst (λ n. epoch_of n ≡ e) z a.0) (subst (λ n. 1 ≤ esn_of n) z a.1) (leb-false (numbered e last_esn) upto w)) (past_good e good good_is);
        entries = entries-append t.entries es i.entries page.entries;
        trim = (let b = i.trim in omega (arith, trim_is));
        lng = (let b = i.lng in omega (arith, lng_is));
      }

  pub with_page_is : (d : List Told) → AllByRecursion (IsTold e) d → AllByRecursion (IsTold e) (with_page e y from upto trim lng es d)
  unfolding with_page
  with_page_is d a =
      let good_is : IsLng (max (digest_lng d) lng) = (let g = digest_lng_is e d a in omega (arith, lng_is)) in
      all-map (IsTold e) (IsTold e) (λ t. cond (takes_page y from t) (told_page e (max (digest_lng d) lng) upto trim lng es t) t) d
      (λ t i. cond_both (takes_page y from t) (told_page e (max (digest_lng d) lng) upto trim lng es t) t (IsTold e) (λ h. paged (max (digest_lng d) lng) good_is t h i) (λ h. i)) a

anew_is : (e good : ℕ) → IsLng good → (t : Told) → IsTold e t → IsTold e (asked_anew e good t)
anew_is e good l t i = record {
  node = i.node;
  asked = λ w. cond_both (t.asked == numbered e 1) t.asked (max t.asked (numbered e (good + 1))) (IsAsked e) (λ h. i.asked w) (λ h. greater_asked e t.asked (numbered e (good + 1)) (i.asked w) (past_good e good l));
  entries = i.entries;
  trim = i.trim;
  lng = i.lng;
}

pub with_asks_is : (e : ℕ) (d : List Told) → AllByRecursion (IsTold e) d → AllByRecursion (IsTold e) (with_asks e d)
unfolding with_asks
with_asks_is e d a = all-map (IsTold e) (IsTold e) (asked_anew e (digest_lng d)) d (λ t i. anew_is e (digest_lng d) (digest_lng_is e d a) t i) a

pub with_lost_is : (e y : ℕ) (d : List Told) → AllByRecursion (IsTold e) d → AllByRecursion (IsTold e) (with_lost y d)
unfolding with_lost
with_lost_is e y d a = all-map (IsTold e) (IsTold e) (told_lost y) d (λ t i. record { node = i.node; asked = i.asked; entries = i.entries; trim = i.trim; lng = i.lng }) a

-- ---- what a digest says of a number ----

abbrev MayBe : Option Entry → Type 0
MayBe None = Unit {0}
MayBe (Some e) = IsEntry e

better_is : (o p : Option Entry) → MayBe o → MayBe p → MayBe (better o p)
better_is None p a b = b
better_is (Some e) None a b = a
better_is (Some e) (Some f) a b = cond_both (nat_lt e.ballot f.ballot) (Some f) (Some e) MayBe (λ t. b) (λ t. a)

says_is : (s : ℕ) (e : Entry) → IsEntry e → MayBe (says s e)
says_is s e i = cond_both (e.number == s) (Some e) (cond (is_bridge e.what && nat_lt e.number s) (Some e) None) MayBe (λ t. i) (λ t. cond_both (is_bridge e.what && nat_lt e.number s) (Some e) None MayBe (λ u. i) (λ u. tt))

statement_is : (s : ℕ) (es : List Entry) → AreEntries es → MayBe (statement s es)
unfolding statement
statement_is s [] a = tt
statement_is s (e ∷ es) a = better_is (statement s es) (says s e) (statement_is s es a.1) (says_is s e a.0)

none_short : (loss : Bool) → IsShort (no_record loss)
none_short true = tt
none_short false = tt

none_place : (loss : Bool) → last_place (no_record loss) ≡ last_esn - 1
none_place true = refl
none_place false = refl

short_of : (loss : Bool) (x : What) → IsShort x → IsShort (record_or (no_record loss) x)
short_of loss (Rec p) h = h
short_of loss Hole h = none_short loss
short_of loss Bridge h = none_short loss
short_of loss Plug h = none_short loss
short_of loss Withheld h = none_short loss

place_of : (loss : Bool) (x : What) → last_place (record_or (no_record loss) x) ≡ last_esn - 1
place_of loss (Rec p) = refl
place_of loss Hole = none_place loss
place_of loss Bridge = none_place loss
place_of loss Plug = none_place loss
place_of loss Withheld = none_place loss

none_kept : (loss : Bool) → IsKept (no_record loss)
none_kept true = tt
none_kept false = tt

kept_of : (loss : Bool) (x : What) → IsKept (record_or (no_record loss) x)
kept_of loss (Rec p) = tt
kept_of loss Hole = none_kept loss
kept_of loss Bridge = none_kept loss
kept_of loss Plug = none_kept loss
kept_of loss Withheld = none_kept loss

-- what a plan says is never withheld
content_kept : (loss : Bool) (o : Option Entry) → IsKept (content loss o)
content_kept loss None = none_kept loss
content_kept loss (Some e) = kept_of loss e.what

content_short : (loss : Bool) (o : Option Entry) → MayBe o → IsShort (content loss o)
content_short loss None a = none_short loss
content_short loss (Some e) a = short_of loss e.what a.short

content_place : (loss : Bool) (o : Option Entry) → last_place (content loss o) ≡ last_esn - 1
content_place loss None = none_place loss
content_place loss (Some e) = place_of loss e.what

below_bridge : (x : What) → not (is_bridge x) ≡ true → last_place x ≡ last_esn - 1
below_bridge (Rec p) h = refl
below_bridge Hole h = refl
below_bridge Bridge h = absurd cc
below_bridge Plug h = refl
below_bridge Withheld h = refl

top_in_most : (d : List Told) (es : List Entry) → AreEntries es → top_in d es ≤ last_esn - 1
top_in_most d [] a = omega arith
top_in_most d (e ∷ es) a = let rest : top_in d es ≤ last_esn - 1 = top_in_most d es a.1 in
    cond_both (not (is_bridge e.what) && is_content (best e.number d)) (max (esn_of e.number) (top_in d es)) (top_in d es) (λ n. n ≤ last_esn - 1)
    (λ t. let p = (and_parts (not (is_bridge e.what)) (is_content (best e.number d)) t).0 in let q = below_bridge e.what p in let z = a.0.place in omega (arith, rest)) (λ t. rest)

trim_place_most : (e trim : ℕ) → trim_place e trim ≤ last_esn - 1
trim_place_most e trim = cond_both (nat_lt (epoch_of trim) e) 0 (cond (nat_lt e (epoch_of trim)) (last_esn - 1) (min (esn_of trim) (last_esn - 1))) (λ n. n ≤ last_esn - 1) (λ t. omega arith)
    (λ t. cond_both (nat_lt e (epoch_of trim)) (last_esn - 1) (min (esn_of trim) (last_esn - 1)) (λ n. n ≤ last_esn - 1) (λ u. omega arith) (λ u. omega arith))

module _ (e : ℕ) where
  best_is : (s : ℕ) (d : List Told) → AllByRecursion (IsTold e) d → MayBe (best s d)
  unfolding best
  best_is s [] a = tt
  best_is s (t ∷ d) a = better_is (statement s t.entries) (best s d) (statement_is s t.entries a.0.entries) (best_is s d a.1)

  top_place_most : (d rest : List Told) → AllByRecursion (IsTold e) rest → top_place d rest ≤ last_esn - 1
  unfolding top_place
  top_place_most d [] a = omega arith
  top_place_most d (t ∷ rest) a = let p = top_in_most d t.entries a.0.entries in let q = top_place_most d rest a.1 in omega arith

  digest_trim_is : (d : List Told) → AllByRecursion (IsTold e) d → Is64 (digest_trim d)
  unfolding digest_trim
  digest_trim_is [] a = omega arith
  digest_trim_is (t ∷ d) a = let p = a.0.trim in let q = digest_trim_is d a.1 in omega arith

  floor_most : (d : List Told) → AllByRecursion (IsTold e) d → plan_floor e d ≤ last_esn - 1
  unfolding plan_floor
  floor_most d a = let q = trim_place_most e (digest_trim d) in let l = digest_lng_is e d a in omega arith

  end_is : (d : List Told) → AllByRecursion (IsTold e) d → (1 ≤ plan_end e d) × (plan_end e d ≤ last_esn)
  unfolding plan_end
  end_is d a = let p = top_place_most d d a in let q = floor_most d a in (omega arith, omega arith)

  -- ---- the plan ----

  record IsItem (i : Item) : Type 0 where
    epoch_is : epoch_of i.number ≡ e
    from_one : 1 ≤ esn_of i.number
    place : esn_of i.number ≤ last_place i.what
    short : IsShort i.what
    kept : IsKept i.what

  abbrev IsPlace : ℕ → Type 0
  IsPlace n = (1 ≤ n) × (n ≤ last_esn - 1)

  places_are : (first k : ℕ) → 1 ≤ first → first + k ≤ last_esn → AllByRecursion IsPlace (numbers_from first k)
  places_are first zero h i = tt
  places_are first (suc k) h i = ((h, omega arith), places_are (first + 1) k (omega arith) (omega arith))

  items_are : (loss : Bool) (d : List Told) (ns : List ℕ) → AllByRecursion (IsTold e) d → AllByRecursion IsPlace ns → AllByRecursion IsItem (record_items e loss d ns)
  items_are loss d [] a b = tt
  items_are loss d (n ∷ ns) a b = let p = b.0 in let lo = p.0 in let hi = p.1 in
      let z = esn_numbered e n (omega arith) in let w = content_place loss (best (numbered e n) d) in
      (record { epoch_is = epoch_numbered e n (omega arith); from_one = omega arith; place = omega arith; short = content_short loss (best (numbered e n) d) (best_is (numbered e n) d a); kept = content_kept loss (best (numbered e n) d) }, items_are loss d ns a b.1)

  planned_are : (is : List Item) → AllByRecursion IsItem is → AllByRecursion (IsPlanned e) (planned is)
  planned_are [] a = tt
  planned_are (i ∷ is) a = (record { epoch_is = a.0.epoch_is; from_one = a.0.from_one; place = a.0.place; short = a.0.short; kept = a.0.kept }, planned_are is a.1)

  pub plan_is : (loss : Bool) (d : List Told) → AllByRecursion (IsTold e) d → IsStoring e (storing_of (plan e loss d))
  unfolding plan
  plan_is loss d a =
      let b = end_is d a in let lo = b.0 in let hi = b.1 in
      let t = floor_most d a in
      let z = esn_numbered e (plan_end e d) (omega arith) in
      record {
        trim = digest_trim_is d a;
        lng = digest_lng_is e d a;
        end = lo;
        end_most = hi;
        items = planned_are (plan_to e loss d (plan_end e d)).items
            (all-append IsItem (record_items e loss d (places_between (plan_floor e d) (plan_end e d))) (record { number = numbered e (plan_end e d); what = Bridge } ∷ [])
            (items_are loss d (places_between (plan_floor e d) (plan_end e d)) a (places_are (plan_floor e d + 1) (plan_end e d - 1 - plan_floor e d) (omega arith) (omega arith)))
            (record { epoch_is = epoch_numbered e (plan_end e d) (omega arith); from_one = omega arith; place = omega arith; short = tt; kept = tt }, tt));
      }

  -- ---- what nodes settle ----

  settle_are : (p : ℕ → Bool) (y : ℕ) (is : List (ℕ × Planned)) → AllByRecursion (IsPlanned e) is → AllByRecursion (IsPlanned e) (settle p y is)
  settle_are p y [] a = tt
  settle_are p y (i ∷ is) a = (
    cond_both (p i.0) (record { what = i.1.what; settled = with_one y i.1.settled }) i.1 (λ (x : Planned). IsPlanned e (i.0, x))
        (λ t. record { epoch_is = a.0.epoch_is; from_one = a.0.from_one; place = a.0.place; short = a.0.short; kept = a.0.kept }) (λ t. a.0),
    settle_are p y is a.1,
  )

  pub settled_is : (p : ℕ → Bool) (y : ℕ) (g : Storing) → IsStoring e g → IsStoring e (settled_by p y g)
  settled_is p y g G = record { trim = G.trim; lng = G.lng; end = G.end; end_most = G.end_most; items = settle_are p y g.items G.items }
