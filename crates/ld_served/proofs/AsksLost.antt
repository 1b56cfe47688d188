-- Whom a confirmation asks: the nodes of a set that an answer says are lost, and some there are. And what is held of a node once its answer is heard.
use Rattle.std.proofs.Common.{◌≡◌, ◌∙◌, ◌≤◌, ℕ, inl, inr, refl, ap, sym, subst, Bool, true, false, ◌&&◌, ◌==◌, nat_le, if◌then◌else◌, List, [], ◌∷◌, ◌++◌, Option, Some, None, arith}
use Rattle.std.proofs.lemmas.Bool.{and_parts, leb-true, leb-false}
use Rattle.ld_table.specs.Table.{find, put}
use Rattle.ld_table.specs.Words.{is_in, all_of, any_of}
use Rattle.ld_table.proofs.Laws.{put_cases, find-put_same}
use Rattle.ld_lsn.specs.Number.{home_epoch}
use Rattle.ld_msg.specs.declared.msg.Body.{Body}
use Rattle.ld_msg.specs.declared.msg.Body.TheVariants as bodies
use Rattle.ld_msg.specs.Reading.{Held, is_lost_for, is_loss, leaves_open, knows_end_above, lost_generation, lost_held, within}
use Rattle.ld_msg.specs.Reader.{keys, round_of, is_newer, held_with}
use Rattle.ld_machine.specs.World.{In}
use Rattle.ld_safety.proofs.Lists.{cond_both, In-append, In_left, In_right, any_in}
use Rattle.ld_safety.proofs.Members.{In_filter}
use Rattle.ld_safety.proofs.Votes.{in_of}

-- ---- who is asked ----

key_in : (y g : ℕ) (ks : List (ℕ × ℕ)) → In {X = ℕ × ℕ} (y, g) ks → In y (keys ks)
key_in y g [] i = absurd i
key_in y g (k ∷ ks) (inl e) = inl (ap (λ (x : ℕ × ℕ). x.0) e)
key_in y g (k ∷ ks) (inr i) = inr (key_in y g ks i)

key_of : (y : ℕ) (ks : List (ℕ × ℕ)) → In y (keys ks) → (g : ℕ) × In {X = ℕ × ℕ} (y, g) ks
key_of y [] i = absurd i
key_of y (k ∷ ks) (inl e) = (k.1, inl (λ i. (e i, k.1)))
key_of y (k ∷ ks) (inr i) = let r = key_of y ks i in (r.0, inr r.1)

generation_there : (n y : ℕ) (b : Body) → is_lost_for n b ≡ true → (g : ℕ) × In {X = ℕ × ℕ} (y, g) (lost_generation n y b)
generation_there n y (bodies.LostHere number round generation end) h = (generation, cond_both (home_epoch number == home_epoch n) ((y, generation) ∷ []) [] (λ ks. In {X = ℕ × ℕ} (y, generation) ks) (λ t. inl refl) (λ t. absurd (let z : true ≡ false = sym h ∙ t in cc)))
generation_there n y _ h = absurd cc

lost_there : (n : ℕ) (hs : List (ℕ × Held)) (h : ℕ × Held) → In h hs → is_lost_for n h.1.body ≡ true → (g : ℕ) × In {X = ℕ × ℕ} (h.0, g) (lost_held n hs)
lost_there n [] h i l = absurd i
lost_there n (x ∷ hs) h (inl e) l = let z = generation_there n h.0 h.1.body l in (z.0, subst (λ (v : ℕ × Held). In {X = ℕ × ℕ} (h.0, z.0) (lost_generation n v.0 v.1.body ++ lost_held n hs)) e (In_left _ (lost_generation n h.0 h.1.body) (lost_held n hs) z.1))
lost_there n (x ∷ hs) h (inr i) l = let z = lost_there n hs h i l in (z.0, In_right _ (lost_generation n x.0 x.1.body) (lost_held n hs) z.1)

-- one that is lost, of the set
pub record OneLost (n : ℕ) (set : List ℕ) (hs : List (ℕ × Held)) : Type 0 where
  pub answer : ℕ × Held
  pub there : In answer hs
  pub member : In answer.0 set
  pub lost : is_lost_for n answer.1.body ≡ true
  pub asked : In answer.0 (keys (lost_held n (within set hs)))

pub one_lost : (n : ℕ) (set : List ℕ) (hs : List (ℕ × Held)) → is_loss n set hs ≡ true → OneLost n set hs
unfolding is_loss
one_lost n set hs h =
    let p = and_parts (all_of (λ y. leaves_open n (find y hs)) set && any_of (λ (h : ℕ × Held). is_lost_for n h.1.body) (within set hs)) (any_of (λ (h : ℕ × Held). knows_end_above n h.1.body) (within set hs)) h in
    let q = and_parts (all_of (λ y. leaves_open n (find y hs)) set) (any_of (λ (h : ℕ × Held). is_lost_for n h.1.body) (within set hs)) p.0 in
    let z = any_in (λ (h : ℕ × Held). is_lost_for n h.1.body) (within set hs) q.1 in
    let f = In_filter (λ (h : ℕ × Held). is_in h.0 set) z.0 hs z.1 in
    let k = lost_there n (within set hs) z.0 z.1 z.2 in
    record { answer = z.0; there = f.0; member = in_of z.0.0 set f.1; lost = z.2; asked = key_in z.0.0 k.0 (lost_held n (within set hs)) k.1 }

-- all that are asked are of the set
pub asked_within : (n y : ℕ) (set : List ℕ) (hs : List (ℕ × Held)) → In y (keys (lost_held n (within set hs))) → In y set
asked_within n y set hs i = let k = key_of y (lost_held n (within set hs)) i in let z = of_within (within set hs) k.0 k.1 in in_of y set (subst (λ x. is_in x set ≡ true) z.2 (In_filter (λ (h : ℕ × Held). is_in h.0 set) z.0 hs z.1).1) where
  of_one : (x : ℕ) (b : Body) (g : ℕ) → In {X = ℕ × ℕ} (y, g) (lost_generation n x b) → y ≡ x
  of_one x (bodies.LostHere number round generation end) g j = cond_both (home_epoch number == home_epoch n) ((x, generation) ∷ []) [] (λ ks. In {X = ℕ × ℕ} (y, g) ks → y ≡ x) (λ t v. elim v [ inl e ↦ ap (λ (z : ℕ × ℕ). z.0) e | inr e ↦ absurd e ]) (λ t v. absurd v) j
  of_one x _ g j = absurd j

  of_within : (ks : List (ℕ × Held)) (g : ℕ) → In {X = ℕ × ℕ} (y, g) (lost_held n ks) → (h : ℕ × Held) × In h ks × (h.0 ≡ y)
  of_within [] g j = absurd j
  of_within (h ∷ ks) g j = elim (In-append (y, g) (lost_generation n h.0 h.1.body) (lost_held n ks) j) [
    | inl a ↦ (h, inl refl, sym (of_one h.0 h.1.body g a))
    | inr a ↦ (let z = of_within ks g a in (z.0, inr z.1, z.2))
  ]

-- ---- what is held ----

-- an answer of its round, or of a later one
pub record IsHeld (hs : List (ℕ × Held)) (y round : ℕ) : Type 0 where
  pub held : Held
  pub found : find y hs ≡ Some held
  pub from : round ≤ held.round

pub heard_is : (hs : List (ℕ × Held)) (y : ℕ) (b : Body) → IsHeld (held_with hs y b) y (round_of b)
heard_is hs y b = by_found (find y hs) refl where
  put_there : IsHeld (put y (record { round = round_of b; body = b }) hs) y (round_of b)
  put_there = record { held = record { round = round_of b; body = b }; found = find-put_same y y (record { round = round_of b; body = b }) hs refl; from = omega arith }

  by_newer : (h : Held) → find y hs ≡ Some h → (t : Bool) → nat_le h.round (round_of b) ≡ t → IsHeld (if t then put y (record { round = round_of b; body = b }) hs else hs) y (round_of b)
  by_newer h e true t = put_there
  by_newer h e false t = record { held = h; found = e; from = let z = leb-false h.round (round_of b) t in omega arith }

  by_found : (o : Option Held) → find y hs ≡ o → IsHeld (if is_newer (find y hs) (round_of b) then put y (record { round = round_of b; body = b }) hs else hs) y (round_of b)
  by_found None e = subst (λ (o : Option Held). IsHeld (if is_newer o (round_of b) then put y (record { round = round_of b; body = b }) hs else hs) y (round_of b)) (sym e) put_there
  by_found (Some h) e = subst (λ (o : Option Held). IsHeld (if is_newer o (round_of b) then put y (record { round = round_of b; body = b }) hs else hs) y (round_of b)) (sym e) (by_newer h e (nat_le h.round (round_of b)) refl)

-- what was held is, or an answer of a later round
pub held_still : (hs : List (ℕ × Held)) (y z : ℕ) (b : Body) (h : Held) → find z hs ≡ Some h → IsHeld (held_with hs y b) z h.round
held_still hs y z b h e = by_newer (is_newer (find y hs) (round_of b)) refl where
  by_newer : (t : Bool) → is_newer (find y hs) (round_of b) ≡ t → IsHeld (if t then put y (record { round = round_of b; body = b }) hs else hs) z h.round
  by_newer false t = record { held = h; found = e; from = omega arith }
  by_newer true t = elim (put_cases z y (record { round = round_of b; body = b }) hs) [
    | inl a ↦ record { held = record { round = round_of b; body = b }; found = a.1; from = leb-true h.round (round_of b) (ap (λ o. is_newer o (round_of b)) (sym (ap (λ x. find x hs) (sym a.0) ∙ e)) ∙ t) }
    | inr a ↦ record { held = h; found = a.1 ∙ e; from = omega arith }
  ]
