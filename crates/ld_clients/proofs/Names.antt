-- Tables under names: values that are written in their places, seen as others, or all of a kind.
use Rattle.std.proofs.Common.{◌≡◌, ℕ, suc, Bool, true, false, cond, List, [], ◌∷◌, length, Option, Some, None, is_some, option_map, refl, ap, sym, ◌∙◌, subst, ◌⊎◌, inl, inr, if◌then◌else◌}
use Rattle.std.specs.Map as map
use Rattle.ld_table.specs.Named.{same, find_named, put_named}
use Rattle.ld_table.proofs.NameLaws.{find_named-put_named}
use Rattle.ld_machine.specs.State.{name_of}
use Rattle.ld_clients.specs.Names.{each_as, AllNamed}

module _ {X : Type 0} where
  named_step : (b : Bool) (a : List (List ℕ × X)) (e : List ℕ × X) (xs ys : List (List ℕ × X)) → (b ≡ false → xs ≡ ys) → cond b a (e ∷ xs) ≡ (if b then a else e ∷ ys)
  named_step true a e xs ys h = refl
  named_step false a e xs ys h = ap (λ l. e ∷ l) (h refl)

  -- a value that is written under its name
  pub set_named_is_put : (k : List ℕ) (v w : X) (m : List (List ℕ × X)) → find_named k m ≡ Some v → map.set_value (same k) m w ≡ put_named k w m
  unfolding find_named put_named
  set_named_is_put k v w [] h = absurd cc
  set_named_is_put k v w (e ∷ m) h = named_step (same k e.0) _ e _ _ (λ b. set_named_is_put k v w m (rw b at h))

  same_step : (b : Bool) (e : List ℕ × X) (v : X) (m n : List (List ℕ × X)) (o : Option X) → cond b (Some e.1) o ≡ Some v → (o ≡ Some v → n ≡ m) → (if b then (e.0, v) ∷ m else e ∷ n) ≡ e ∷ m
  same_step true e v m n o h k = let s : e.1 ≡ v = cc in ap (λ x. (e.0, x) ∷ m) (sym s)
  same_step false e v m n o h k = ap (λ x. e ∷ x) (k h)

  -- a value that is written once more
  pub put_same : (k : List ℕ) (v : X) (m : List (List ℕ × X)) → find_named k m ≡ Some v → put_named k v m ≡ m
  unfolding find_named put_named
  put_same k v [] h = absurd cc
  put_same k v (e ∷ m) h = same_step (same k e.0) e v m _ _ h (λ t. put_same k v m t)

  cond_case : (b : Bool) (v w : X) (o : Option X) → cond b (Some v) o ≡ Some w → (v ≡ w) ⊎ (o ≡ Some w)
  cond_case true v w o h = inl cc
  cond_case false v w o h = inr h

  pub all_put : (P : X → Type 0) (k : List ℕ) (v : X) (m : List (List ℕ × X)) → P v → AllNamed P m → AllNamed P (put_named k v m)
  all_put P k v m p a q w h = elim (cond_case (same q k) v w (find_named q m) (sym (find_named-put_named q k v m) ∙ h)) [
    | inl e ↦ subst P e p
    | inr t ↦ a q w t
  ]

  pub all_none : (P : X → Type 0) → AllNamed P []
  unfolding find_named
  all_none P q w h = absurd cc

  -- one that is found by another way, under its name
  pub found_name : (found name : List ℕ) (m : List (List ℕ × X)) (o : Option (List ℕ × X)) → Some found ≡ option_map (λ e. e.0) o → name ≡ found → ((e : List ℕ × X) → o ≡ Some e → find_named e.0 m ≡ Some e.1)
      → (x : X) × (o ≡ Some (name, x)) × (find_named name m ≡ Some x)
  found_name found name m None h n u = absurd cc
  found_name found name m (Some e) h n u =
      let s : e.0 ≡ name = (let t : found ≡ e.0 = cc in sym t) ∙ sym n in
      (e.1, ap (λ q. Some (q, e.1)) s, ap (λ q. find_named q m) (sym s) ∙ u e refl)

  pub none_found : (o : Option (List ℕ × X)) → None ≡ option_map (λ e. e.0) o → o ≡ None
  none_found None h = refl
  none_found (Some e) h = absurd cc

  pub none_is : (o : Option X) → is_some o ≡ false → o ≡ None
  none_is None h = refl
  none_is (Some x) h = absurd cc

module _ {X Y : Type 0} (f : X → Y) where
  find_step : (b : Bool) (v : X) (o : Option X) (p : Option Y) → p ≡ option_map f o → cond b (Some (f v)) p ≡ option_map f (cond b (Some v) o)
  find_step true v o p h = refl
  find_step false v o p h = h

  pub find_each : (k : List ℕ) (m : List (List ℕ × X)) → find_named k (each_as f m) ≡ option_map f (find_named k m)
  unfolding find_named
  find_each k [] = refl
  find_each k (e ∷ m) = find_step (same k e.0) e.1 _ _ (find_each k m)

  pub find_each_some : (k : List ℕ) (v : X) (m : List (List ℕ × X)) → find_named k m ≡ Some v → find_named k (each_as f m) ≡ Some (f v)
  find_each_some k v m h = find_each k m ∙ ap (option_map f) h

  pub find_each_none : (k : List ℕ) (m : List (List ℕ × X)) → find_named k m ≡ None → find_named k (each_as f m) ≡ None
  find_each_none k m h = find_each k m ∙ ap (option_map f) h

  -- an entry whose value is seen so
  abbrev pub entry_as : List ℕ × X → List ℕ × Y
  entry_as e = (e.0, f e.1)

  -- the first one is the first one seen
  pub first_step : (b c : Bool) (e : List ℕ × X) (o : Option (List ℕ × X)) (p : Option (List ℕ × Y)) → c ≡ b → p ≡ option_map entry_as o → (if c then Some (entry_as e) else p) ≡ option_map entry_as (if b then Some e else o)
  first_step true true e o p t h = refl
  first_step false false e o p t h = h
  first_step true false e o p t h = absurd cc
  first_step false true e o p t h = absurd cc

  -- its name stays
  pub name_as : (o : Option (List ℕ × X)) → name_of (option_map entry_as o) ≡ name_of o
  name_as None = refl
  name_as (Some e) = refl

  pub none_seen : (o : Option X) → option_map f o ≡ None → o ≡ None
  none_seen None h = refl
  none_seen (Some x) h = absurd cc

  put_step : (b : Bool) (e : List ℕ × X) (v : X) (m n : List (List ℕ × X)) (r : List (List ℕ × Y)) → r ≡ each_as f n
      → (if b then (e.0, f v) ∷ each_as f m else (e.0, f e.1) ∷ r) ≡ each_as f (if b then (e.0, v) ∷ m else e ∷ n)
  put_step true e v m n r h = refl
  put_step false e v m n r h = ap (λ l. (e.0, f e.1) ∷ l) h

  pub put_each : (k : List ℕ) (v : X) (m : List (List ℕ × X)) → put_named k (f v) (each_as f m) ≡ each_as f (put_named k v m)
  unfolding put_named
  put_each k v [] = refl
  put_each k v (e ∷ m) = put_step (same k e.0) e v m _ _ (put_each k v m)

  pub length_each : (m : List (List ℕ × X)) → length (each_as f m) ≡ length m
  length_each [] = refl
  length_each (e ∷ m) = ap suc (length_each m)

  some_map : (o : Option X) → is_some (option_map f o) ≡ is_some o
  some_map None = refl
  some_map (Some x) = refl

  pub some_each : (k : List ℕ) (m : List (List ℕ × X)) → is_some (find_named k (each_as f m)) ≡ is_some (find_named k m)
  some_each k m = ap is_some (find_each k m) ∙ some_map (find_named k m)
