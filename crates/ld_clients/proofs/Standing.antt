-- Where sequencers stand, and what is kept of it.
use Rattle.std.proofs.Common.{◌≡◌, ℕ, suc, Bool, true, false, cond, ◌&&◌, ◌==◌, List, [], ◌∷◌, length, slice_get, Option, Some, None, is_some, option_map, refl, ap, sym, ◌∙◌, subst, if◌then◌else◌}
use Rattle.std.proofs.lemmas.Bool.{eqb-true, and_parts}
use Rattle.ld_table.specs.Words.{or_else}
use Rattle.ld_table.specs.Named.{same, find_named, put_named}
use Rattle.ld_clients.specs.declared.client.Client.{Client}
use Rattle.ld_clients.specs.Serving.{log_in, epoch_in, serving_in, IsWholeIn, GoesOn, AreWhole}
use Rattle.ld_clients.specs.Places.{serves, place_in, kept_place, AreServed}
use Rattle.ld_clients.proofs.Names.{all_put, all_none}
use Rattle.ld_clients.proofs.Serving.{are_whole_after}

abbrev Serving : Type 0
Serving = List (List ℕ × Client)

abbrev Kept : Type 0
Kept = List ((ℕ × ℕ) × ℕ)

-- ---- the place is the walk's ----

at_step : (b : Bool) (k : List ℕ × Client) (ks : Serving) (o : Option ℕ) (p : Option (List ℕ × Client)) (i : ℕ) → ((j : ℕ) → o ≡ Some j → p ≡ slice_get ks j)
    → (if b then Some 0 else option_map suc o) ≡ Some i → (if b then Some k else p) ≡ slice_get (k ∷ ks) i
at_step true k ks o p i f h = let e : 0 ≡ i = cc in subst (λ j. Some k ≡ slice_get (k ∷ ks) j) e refl
at_step false k ks None p i f h = absurd cc
at_step false k ks (Some j) p i f h = let e : suc j ≡ i = cc in subst (λ n. p ≡ slice_get (k ∷ ks) n) e (f j refl)

serving_at : (l e : ℕ) (ks : Serving) (i : ℕ) → place_in l e ks ≡ Some i → serving_in l e ks ≡ slice_get ks i
serving_at l e [] i h = absurd cc
serving_at l e (k ∷ ks) i h = at_step (serves l e k.1) k ks (place_in l e ks) (serving_in l e ks) i (λ j g. serving_at l e ks j g) h

none_step : (b : Bool) (k : List ℕ × Client) (o : Option ℕ) (p : Option (List ℕ × Client)) → (o ≡ None → p ≡ None) → (if b then Some 0 else option_map suc o) ≡ None → (if b then Some k else p) ≡ None
none_step true k o p f h = absurd cc
none_step false k None p f h = f refl
none_step false k (Some j) p f h = absurd cc

serving_none : (l e : ℕ) (ks : Serving) → place_in l e ks ≡ None → serving_in l e ks ≡ None
serving_none l e [] h = refl
serving_none l e (k ∷ ks) h = none_step (serves l e k.1) k (place_in l e ks) (serving_in l e ks) (serving_none l e ks) h

pub known : (l e : ℕ) (ks : Serving) (m : Kept) (i : ℕ) → Some i ≡ kept_place l e m → AreServed ks m → serving_in l e ks ≡ slice_get ks i
known l e ks m i h s = serving_at l e ks i (sym (s.places l e) ∙ sym h)

pub unknown : (l e : ℕ) (ks : Serving) (m : Kept) → None ≡ kept_place l e m → AreServed ks m → serving_in l e ks ≡ None
unknown l e ks m h s = serving_none l e ks (sym (s.places l e) ∙ sym h)

-- ---- one that goes on in its place ----

put_step : (b : Bool) (l e : ℕ) (k g : Client) (x : List ℕ × Client) (ks rest : Serving) (o : Option Client) → cond b (Some x.1) o ≡ Some k → serves l e g ≡ serves l e k → (o ≡ Some k → place_in l e rest ≡ place_in l e ks)
    → place_in l e (if b then (x.0, g) ∷ ks else x ∷ rest) ≡ place_in l e (x ∷ ks)
put_step true l e k g x ks rest o h s f = let t : x.1 ≡ k = cc in ap (λ c. if c then Some 0 else option_map suc (place_in l e ks)) (s ∙ ap (serves l e) (sym t))
put_step false l e k g x ks rest o h s f = ap (λ p. if serves l e x.1 then Some 0 else option_map suc p) (f h)

place_put : (l e : ℕ) (name : List ℕ) (k g : Client) (ks : Serving) → find_named name ks ≡ Some k → serves l e g ≡ serves l e k → place_in l e (put_named name g ks) ≡ place_in l e ks
unfolding find_named put_named
place_put l e name k g [] h s = absurd cc
place_put l e name k g (x ∷ ks) h s = put_step (same name x.0) l e k g x ks _ _ h s (λ t. place_put l e name k g ks t s)

same_serves : (l e : ℕ) (k g : Client) → GoesOn k g → serves l e g ≡ serves l e k
same_serves l e k g s = λ i. (s.log i == l) && (s.epoch i == e)

pub served_after : (name : List ℕ) (k g : Client) (ks gs : Serving) (m : Kept) → find_named name ks ≡ Some k → GoesOn k g → gs ≡ put_named name g ks → AreServed ks m → AreServed gs m
served_after name k g ks gs m f s e a = record {
  whole = are_whole_after name k g ks gs f s e a.whole;
  places = λ l epoch. a.places l epoch ∙ sym (ap (place_in l epoch) e ∙ place_put l epoch name k g ks f (same_serves l epoch k g s));
}

pub served_none : (ks : Serving) (m : Kept) → ks ≡ [] → m ≡ [] → AreServed ks m
served_none ks m e f = subst (λ (x : Serving). AreServed x m) (sym e) (subst (λ (x : Kept). AreServed [] x) (sym f) record { whole = all_none IsWholeIn; places = λ l epoch. refl })

-- ---- a new one at the end ----

new_place : (c d : Bool) (o : Option ℕ) (n : ℕ) → (if c then Some 0 else option_map suc (or_else o (if d then Some n else None))) ≡ or_else (if c then Some 0 else option_map suc o) (if d then Some (suc n) else None)
new_place true d o n = refl
new_place false d (Some j) n = refl
new_place false true None n = refl
new_place false false None n = refl

new_step : (b : Bool) (l e : ℕ) (g : Client) (x : List ℕ × Client) (ks rest : Serving) (o : Option Client) → cond b (Some x.1) o ≡ None → (o ≡ None → place_in l e rest ≡ or_else (place_in l e ks) (if serves l e g then Some (length ks) else None))
    → place_in l e (if b then (x.0, g) ∷ ks else x ∷ rest) ≡ or_else (place_in l e (x ∷ ks)) (if serves l e g then Some (suc (length ks)) else None)
new_step true l e g x ks rest o h f = absurd cc
new_step false l e g x ks rest o h f = ap (λ p. if serves l e x.1 then Some 0 else option_map suc p) (f h) ∙ new_place (serves l e x.1) (serves l e g) (place_in l e ks) (length ks)

place_new : (l e : ℕ) (name : List ℕ) (g : Client) (ks : Serving) → find_named name ks ≡ None → place_in l e (put_named name g ks) ≡ or_else (place_in l e ks) (if serves l e g then Some (length ks) else None)
unfolding find_named put_named
place_new l e name g [] h = refl
place_new l e name g (x ∷ ks) h = new_step (same name x.0) l e g x ks _ _ h (λ t. place_new l e name g ks t)

pub served_new : (name : List ℕ) (g : Client) (ks gs : Serving) (m n : Kept) (log epoch place : ℕ) → find_named name ks ≡ None → IsWholeIn g → gs ≡ put_named name g ks → log ≡ log_in g → epoch ≡ epoch_in g → place ≡ length ks
    → ((l e : ℕ) → kept_place l e n ≡ or_else (kept_place l e m) (if (log == l) && (epoch == e) then Some place else None)) → AreServed ks m → AreServed gs n
served_new name g ks gs m n log epoch place f w e a b c h s = record {
  whole = subst AreWhole (sym e) (all_put IsWholeIn name g ks w s.whole);
  places = λ l t. h l t ∙ ((λ i. or_else (s.places l t i) (if (a i == l) && (b i == t) then Some (c i) else None)) ∙ sym (ap (place_in l t) e ∙ place_new l t name g ks f));
}

-- ---- what is kept ----

or_none : (o : Option ℕ) → o ≡ or_else o None
or_none None = refl
or_none (Some x) = refl

or_some : (b : Bool) (o : Option ℕ) (p : ℕ) → (b ≡ true → is_some o ≡ true) → o ≡ or_else o (if b then Some p else None)
or_some b (Some x) p h = refl
or_some true None p h = let t = h refl in absurd cc
or_some false None p h = refl

kept_moved : (log epoch l e : ℕ) (m : Kept) → ((log == l) && (epoch == e)) ≡ true → kept_place l e m ≡ kept_place log epoch m
kept_moved log epoch l e m h = let p = and_parts _ _ h in λ i. kept_place (sym (eqb-true log l p.0) i) (sym (eqb-true epoch e p.1) i) m

-- one that is kept before
pub kept_before : (log epoch place : ℕ) (m : Kept) → is_some (kept_place log epoch m) ≡ true → (l e : ℕ) → kept_place l e m ≡ or_else (kept_place l e m) (if (log == l) && (epoch == e) then Some place else None)
kept_before log epoch place m h l e = or_some ((log == l) && (epoch == e)) (kept_place l e m) place (λ t. ap is_some (kept_moved log epoch l e m t) ∙ h)

new_kept : (b : Bool) (o : Option ℕ) (p : ℕ) → (b ≡ true → o ≡ None) → cond b (Some p) o ≡ or_else o (if b then Some p else None)
new_kept false o p h = or_none o
new_kept true o p h = ap (λ x. or_else x (Some p)) (sym (h refl))

-- one that is kept now
pub kept_now : (log epoch place : ℕ) (m n : Kept) → kept_place log epoch m ≡ None → ((q : ℕ × ℕ) → kept_place q.0 q.1 n ≡ cond ((log == q.0) && (epoch == q.1)) (Some place) (kept_place q.0 q.1 m)) → (l e : ℕ)
    → kept_place l e n ≡ or_else (kept_place l e m) (if (log == l) && (epoch == e) then Some place else None)
kept_now log epoch place m n h f l e = f (l, e) ∙ new_kept ((log == l) && (epoch == e)) (kept_place l e m) place (λ t. kept_moved log epoch l e m t ∙ h)
