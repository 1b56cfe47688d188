-- The pairs of an answer, one after the other.
use Rattle.std.proofs.Common.{◌≡◌, ◌<◌, ◌≤◌, ◌+◌, ℕ, suc, List, [], ◌∷◌, ◌++◌, length, take, drop, map, get_or, ap, sym, ◌∙◌, subst, arith, append_assoc, length-append}
use Rattle.std.proofs.lemmas.List.{append-nil, map_more, map-append, take-append-drop, take_all}
use Rattle.serde_json.specs.Data.{Data, Items}
use Rattle.serde_json.specs.View.{view, items_of, items_view}
use Rattle.serde_json.specs.declared.value.Value.{Value}
use Rattle.ld_records.specs.Growth.{Grows}
use Rattle.ld_etcd.specs.Gateway.{IsPair, BeginWith, AreAll, Takes, TakesAll, TakesOne}

all_push : (p : List ℕ) (n : ℕ) (ds : List Data) (vs : List (List ℕ)) (d : Data) (v : List ℕ) → AreAll p n (items_of ds) vs → IsPair p (n + length vs) d v → AreAll p n (items_of (ds ++ d ∷ [])) (vs ++ v ∷ [])
all_push p n [] [] d v h pair = (let is : n + 0 ≡ n = omega arith in subst (λ k. IsPair p k d v) is pair, tt)
all_push p n [] (w ∷ vs) d v h pair = absurd h
all_push p n (e ∷ ds) [] d v h pair = absurd h
all_push p n (e ∷ ds) (w ∷ vs) d v h pair = (h.0, all_push p (suc n) ds vs d v h.1 (let is : n + length (w ∷ vs) ≡ suc n + length vs = omega arith in subst (λ k. IsPair p k d v) is pair))

begin_of_all : (p : List ℕ) (n : ℕ) (ds es : List Data) (vs : List (List ℕ)) → AreAll p n (items_of ds) vs → BeginWith p n (items_of (ds ++ es)) vs
begin_of_all p n [] es [] h = tt
begin_of_all p n [] es (v ∷ vs) h = absurd h
begin_of_all p n (d ∷ ds) es [] h = absurd h
begin_of_all p n (d ∷ ds) es (v ∷ vs) h = (h.0, begin_of_all p (suc n) ds es vs h.1)

-- the first so many pairs
abbrev pub first_of : ℕ → List Value → Items
first_of k pairs = items_of (map view (take k pairs))

pub takes_none : (p : List ℕ) (pairs : List Value) (before : List (List ℕ)) → TakesAll p (first_of 0 pairs) before before
takes_none p pairs before = record { more = []; is = sym (append-nil before); pairs_are = tt }

pub takes_more : (p : List ℕ) (pairs : List Value) (k : ℕ) (pair : Value) (before mid now : List (List ℕ)) → k < length pairs → TakesAll p (first_of k pairs) before mid → TakesOne p (view pair) mid now → pair ≡ get_or pairs k pair
    → TakesAll p (first_of (k + 1) pairs) before now
takes_more p pairs k pair before mid now less all one is = record {
  more = all.more ++ one.value ∷ [];
  is = one.is ∙ ap (λ l. l ++ one.value ∷ []) all.is ∙ append_assoc before all.more (one.value ∷ []);
  pairs_are =
      let more : map view (take (k + 1) pairs) ≡ map view (take k pairs) ++ view pair ∷ [] = map_more view pairs k pair less ∙ ap (λ (v : Value). map view (take k pairs) ++ view v ∷ []) (sym is) in
      let number : length mid ≡ length before + length all.more = ap length all.is ∙ length-append before all.more in
      subst (λ l. AreAll p (length before) (items_of l) (all.more ++ one.value ∷ [])) (sym more)
      (all_push p (length before) (map view (take k pairs)) all.more (view pair) one.value all.pairs_are (subst (λ n. IsPair p n (view pair) one.value) number one.pair_is));
}

pub takes_some : (p : List ℕ) (pairs : List Value) (k : ℕ) (before now : List (List ℕ)) → TakesAll p (first_of k pairs) before now → Takes p (items_view pairs) before now
takes_some p pairs k before now all = record {
  more = all.more;
  is = all.is;
  pairs_are =
      let parts : map view pairs ≡ map view (take k pairs) ++ map view (drop k pairs) = ap (λ l. map view l) (sym (take-append-drop k pairs)) ∙ map-append view (take k pairs) (drop k pairs) in
      subst (λ l. BeginWith p (length before) (items_of l) all.more) (sym parts) (begin_of_all p (length before) (map view (take k pairs)) (map view (drop k pairs)) all.more all.pairs_are);
}

pub takes_whole : (p : List ℕ) (pairs : List Value) (k : ℕ) (before now : List (List ℕ)) → length pairs ≤ k → TakesAll p (first_of k pairs) before now → TakesAll p (items_view pairs) before now
takes_whole p pairs k before now is all = subst (λ l. TakesAll p (items_of (map view l)) before now) (take_all k pairs is) all

pub takes_grows : (p : List ℕ) (pairs : Items) (before now : List (List ℕ)) → Takes p pairs before now → Grows before now
takes_grows p pairs before now t = record { more = t.more; is = t.is }
