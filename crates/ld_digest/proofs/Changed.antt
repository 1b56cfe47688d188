-- A digest with a page or a loss more.
use Rattle.std.proofs.Common.{◌≡◌, ℕ, zero, suc, ◌+◌, ◌<◌, max, length, arith, List, [], ◌∷◌, ◌++◌, map, set, get_or, take, drop, Some, true, false, refl, subst, ap, sym, ◌∙◌, append_assoc, add-one}
use Rattle.std.specs.Prelude.{◌==◌, ◌&&◌, not, if◌then◌else◌}
use Rattle.std.specs.List.{slice_get}
use Rattle.std.proofs.lemmas.Bool.{ne_eqb}
use Rattle.ld_table.specs.Words.{is_in}
use Rattle.ld_lsn.specs.Number.{last_esn}
use Rattle.ld_msg.specs.declared.msg.Entry.{Entry}
use Rattle.ld_msg.specs.declared.msg.Body.TheVariants as bodies
use Rattle.ld_msg.specs.Digest.{Told, takes_page, told_page, told_lost, told_nothing, with_page, with_lost, asked_anew, digest_lng}
use Rattle.ld_msg.specs.Sequencer.{takes_any}
use Rattle.ld_digest.specs.declared.added.Added.{Added}
use Rattle.ld_digest.specs.declared.added.Added.TheVariants.{Ask, Whole, Ignored}
use Rattle.ld_digest.specs.Gathering.{nodes_told, IsNodeAt, AreInPlace, IsToldInPlace, IsInPlace}
use Rattle.ld_digest.specs.Added.{page_added, IsAnswer, IsAdded}
use Rattle.ld_digest.proofs.Placed.{Apart, map_none, map_at, takes_at, ask_at, nodes_set, node_at}
use Rattle.ld_table.proofs.Places.{drop_at_place}

-- ---- a page ----

abbrev page_of : ℕ → ℕ → ℕ → ℕ → ℕ → ℕ → ℕ → List Entry → Told → Told
page_of epoch good y from upto trim lng es t = if takes_page y from t then told_page epoch good upto trim lng es t else t

-- the digest's last known good offset, a page counted
abbrev pub good_with : List Told → ℕ → ℕ
good_with d lng = max (digest_lng d) lng

page_other : (epoch good y from upto trim lng : ℕ) (es : List Entry) (t : Told) → (t.node ≡ y → ⊥) → page_of epoch good y from upto trim lng es t ≡ t
page_other epoch good y from upto trim lng es t n = ap (λ b. if (b && ((t.asked == from) && not t.whole)) then told_page epoch good upto trim lng es t else t) (ne_eqb t.node y n)

page_same : (epoch good y from upto trim lng : ℕ) (es : List Entry) (t : Told) → t.node ≡ y → page_of epoch good y from upto trim lng es t ≡ page_added epoch good from upto trim lng es t
page_same epoch good y from upto trim lng es t e = ap (λ n. if takes_page n from t then told_page epoch good upto trim lng es t else t) (sym e)

pub page_none : (epoch y from upto trim lng : ℕ) (es : List Entry) (d : List Told) → is_in y (nodes_told d) ≡ false → with_page epoch y from upto trim lng es d ≡ d
unfolding with_page
page_none epoch y from upto trim lng es d e = map_none y (page_of epoch (good_with d lng) y from upto trim lng es) d e (page_other epoch (good_with d lng) y from upto trim lng es)

pub page_at_place : (epoch y from upto trim lng : ℕ) (es : List Entry) (d : List Told) (i : ℕ) (t u : Told) → Apart (nodes_told d) → IsNodeAt d i y → t ≡ get_or d i t → u ≡ page_added epoch (good_with d lng) from upto trim lng es t
    → set d i u ≡ with_page epoch y from upto trim lng es d
unfolding with_page
page_at_place epoch y from upto trim lng es d i t u a e g p =
    let here : t.node ≡ y = ap (λ (v : Told). v.node) g ∙ node_at y d i t e in
    ap (λ v. set d i v) (p ∙ sym (page_same epoch (good_with d lng) y from upto trim lng es t here) ∙ ap (page_of epoch (good_with d lng) y from upto trim lng es) g)
    ∙ sym (map_at y (page_of epoch (good_with d lng) y from upto trim lng es) d i t a e (page_other epoch (good_with d lng) y from upto trim lng es))

node_kept : (epoch good from upto trim lng : ℕ) (es : List Entry) (t : Told) → (page_added epoch good from upto trim lng es t).node ≡ t.node
node_kept epoch good from upto trim lng es t = elim (takes_page t.node from t) as (λ b. (if b then told_page epoch good upto trim lng es t else t).node ≡ t.node) [ true ↦ refl | false ↦ refl ]

pub nodes_after : (epoch good y from upto trim lng : ℕ) (es : List Entry) (d : List Told) (i : ℕ) (t u : Told) → IsNodeAt d i y → t ≡ get_or d i t → u ≡ page_added epoch good from upto trim lng es t → nodes_told (set d i u) ≡ nodes_told d
nodes_after epoch good y from upto trim lng es d i t u e g p =
    nodes_set y d i u e (ap (λ (v : Told). v.node) p ∙ (node_kept epoch good from upto trim lng es t ∙ (ap (λ (v : Told). v.node) g ∙ node_at y d i t e)))

pub answer_at_place : (epoch good y from upto trim lng : ℕ) (es : List Entry) (d : List Told) (i : ℕ) (t u : Told) (a : Added) → Apart (nodes_told d) → IsNodeAt d i y → t ≡ get_or d i t → u ≡ page_added epoch good from upto trim lng es t
    → IsAnswer a from t u → IsAdded a y from d (set d i u)
answer_at_place epoch good y from upto trim lng es d i t u a apart e g p answer =
    let here : t.node ≡ y = ap (λ (v : Told). v.node) g ∙ node_at y d i t e in
    let takes : takes_any y from d ≡ takes_page t.node from t = takes_at y from d i t apart e ∙ (ap (λ (v : Told). takes_page y from v) (sym g) ∙ ap (λ n. takes_page n from t) (sym here)) in
    let ask = ask_at y d i u apart e (ap (λ (v : Told). v.node) p ∙ (node_kept epoch good from upto trim lng es t ∙ here)) in
    elim a as (λ a. IsAnswer a from t u → IsAdded a y from d (set d i u)) [
      | Ask next ↦ λ f. (takes ∙ f.0, ask ∙ (ap (λ b. if b then [] else (y, bodies.DigestAsk u.asked) ∷ []) f.1 ∙ ap (λ n. (y, bodies.DigestAsk n) ∷ []) f.2))
      | Whole ↦ λ f. (takes ∙ f.0, ask ∙ ap (λ b. if b then [] else (y, bodies.DigestAsk u.asked) ∷ []) f.1)
      | Ignored ↦ λ f. takes ∙ f
    ] answer

-- ---- a loss ----

lost_other : (y : ℕ) (t : Told) → (t.node ≡ y → ⊥) → told_lost y t ≡ t
lost_other y t n = ap (λ b. record t { lost = if b then true else t.lost }) (ne_eqb t.node y n)

pub lost_none : (y : ℕ) (d : List Told) → is_in y (nodes_told d) ≡ false → with_lost y d ≡ d
unfolding with_lost
lost_none y d e = map_none y (told_lost y) d e (lost_other y)

pub lost_at_place : (y : ℕ) (d : List Told) (i : ℕ) (t u : Told) → Apart (nodes_told d) → IsNodeAt d i y → t ≡ get_or d i t → u ≡ told_lost t.node t → set d i u ≡ with_lost y d
unfolding with_lost
lost_at_place y d i t u a e g p =
    let here : t.node ≡ y = ap (λ (v : Told). v.node) g ∙ node_at y d i t e in
    ap (λ v. set d i v) (p ∙ ap (λ n. told_lost n t) here ∙ ap (told_lost y) g) ∙ sym (map_at y (told_lost y) d i t a e (lost_other y))

pub nodes_lost : (y : ℕ) (d : List Told) (i : ℕ) (t u : Told) → IsNodeAt d i y → t ≡ get_or d i t → u ≡ told_lost t.node t → nodes_told (set d i u) ≡ nodes_told d
nodes_lost y d i t u e g p = nodes_set y d i u e (ap (λ (v : Told). v.node) p ∙ (ap (λ (v : Told). v.node) g ∙ node_at y d i t e))

-- ---- the beginning ----

pub nodes_nothing : (epoch : ℕ) (ns : List ℕ) → nodes_told (map (told_nothing epoch) ns) ≡ ns
nodes_nothing epoch [] = refl
nodes_nothing epoch (n ∷ ns) = ap (λ r. n ∷ r) (nodes_nothing epoch ns)

pub one_more : (epoch : ℕ) (ns : List ℕ) (i n : ℕ) (told : List Told) → slice_get ns i ≡ Some n → (told ++ told_nothing epoch n ∷ []) ++ map (told_nothing epoch) (drop (i + 1) ns) ≡ told ++ map (told_nothing epoch) (drop i ns)
one_more epoch ns i n told e = append_assoc told _ _ ∙ ap (λ r. told ++ map (told_nothing epoch) r) (sym (drop_at_place ns i n e))

-- ---- places ----

pub both_in_place : (xs ys : List Entry) → AreInPlace xs → AreInPlace ys → AreInPlace (xs ++ ys)
both_in_place [] ys h k = k
both_in_place (x ∷ xs) ys h k = (h.0, both_in_place xs ys h.1 k)

page_in_place : (epoch good from upto trim lng : ℕ) (es : List Entry) (t : Told) → AreInPlace es → lng < last_esn → IsToldInPlace t → IsToldInPlace (page_added epoch good from upto trim lng es t)
page_in_place epoch good from upto trim lng es t h l k = elim (takes_page t.node from t) as (λ b. IsToldInPlace (if b then told_page epoch good upto trim lng es t else t)) [ true ↦ (both_in_place t.entries es k.0 h, (let m = k.1 in omega arith)) | false ↦ k ]

set_in_place : (d : List Told) (i : ℕ) (u : Told) → IsInPlace d → IsToldInPlace u → IsInPlace (set d i u)
set_in_place [] i u h k = tt
set_in_place (t ∷ d) zero u h k = (k, h.1)
set_in_place (t ∷ d) (suc i) u h k = (h.0, set_in_place d i u h.1 k)

get_in_place : (d : List Told) (i : ℕ) (t : Told) → IsInPlace d → i < length d → IsToldInPlace (get_or d i t)
get_in_place [] i t h lt = absurd (omega arith)
get_in_place (x ∷ d) zero t h lt = h.0
get_in_place (x ∷ d) (suc i) t h lt = get_in_place d i t h.1 (omega arith)

pub added_in_place : (epoch good from upto trim lng : ℕ) (es : List Entry) (d : List Told) (i : ℕ) (t u : Told) → IsInPlace d → AreInPlace es → lng < last_esn → i < length d → t ≡ get_or d i t → u ≡ page_added epoch good from upto trim lng es t → IsInPlace (set d i u)
added_in_place epoch good from upto trim lng es d i t u h k l lt g p = set_in_place d i u h (subst IsToldInPlace (sym p) (page_in_place epoch good from upto trim lng es t k l (subst IsToldInPlace (sym g) (get_in_place d i t h lt))))

pub lost_in_place : (d : List Told) (i : ℕ) (t u : Told) → IsInPlace d → i < length d → t ≡ get_or d i t → u ≡ told_lost t.node t → IsInPlace (set d i u)
lost_in_place d i t u h lt g p = set_in_place d i u h (subst IsToldInPlace (sym p) (subst IsToldInPlace (sym g) (get_in_place d i t h lt)))

pub nothing_in_place : (epoch : ℕ) (ns : List ℕ) → IsInPlace (map (told_nothing epoch) ns)
nothing_in_place epoch [] = tt
nothing_in_place epoch (n ∷ ns) = ((tt, omega arith), nothing_in_place epoch ns)

-- ---- what is known good ----

pub good_below : (d : List Told) → IsInPlace d → digest_lng d < last_esn
unfolding digest_lng
good_below [] h = omega arith
good_below (t ∷ d) h = let l = h.0.1 in let m = good_below d h.1 in omega arith

-- ---- a retry ----

-- so many nodes are asked anew, and those behind them not yet
abbrev pub anew_to : ℕ → ℕ → List Told → ℕ → List Told
anew_to epoch good d i = map (asked_anew epoch good) (take i d) ++ drop i d

anew_next : (epoch good : ℕ) (d : List Told) (i : ℕ) (t u : Told) → i < length d → t ≡ get_or (anew_to epoch good d i) i t → u ≡ asked_anew epoch good t → set (anew_to epoch good d i) i u ≡ anew_to epoch good d (suc i)
anew_next epoch good [] i t u lt g p = absurd (omega arith)
anew_next epoch good (x ∷ d) zero t u lt g p = ap (λ v. v ∷ d) (p ∙ ap (asked_anew epoch good) g)
anew_next epoch good (x ∷ d) (suc i) t u lt g p = ap (λ r. asked_anew epoch good x ∷ r) (anew_next epoch good d i t u (omega arith) g p)

-- one node more is asked anew
pub one_anew : (epoch good : ℕ) (d : List Told) (i : ℕ) (t u : Told) → i < length d → t ≡ get_or (anew_to epoch good d i) i t → u ≡ asked_anew epoch good t → set (anew_to epoch good d i) i u ≡ anew_to epoch good d (i + 1)
one_anew epoch good d i t u lt g p = rw add-one (anew_next epoch good d i t u lt g p)

pub none_anew : (epoch good : ℕ) (d : List Told) → anew_to epoch good d 0 ≡ d
none_anew epoch good [] = refl
none_anew epoch good (t ∷ d) = refl

pub all_anew : (epoch good : ℕ) (d : List Told) → anew_to epoch good d (length d) ≡ map (asked_anew epoch good) d
all_anew epoch good [] = refl
all_anew epoch good (t ∷ d) = ap (λ r. asked_anew epoch good t ∷ r) (all_anew epoch good d)

pub nodes_anew : (epoch good : ℕ) (d : List Told) → nodes_told (map (asked_anew epoch good) d) ≡ nodes_told d
nodes_anew epoch good [] = refl
nodes_anew epoch good (t ∷ d) = ap (λ r. t.node ∷ r) (nodes_anew epoch good d)

pub anew_in_place : (epoch good : ℕ) (d : List Told) → IsInPlace d → IsInPlace (map (asked_anew epoch good) d)
anew_in_place epoch good [] h = tt
anew_in_place epoch good (t ∷ d) h = (h.0, anew_in_place epoch good d h.1)
