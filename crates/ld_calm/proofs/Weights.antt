-- What new messages weigh: a delivery takes the weight of its message away, and what is sent adds its own.
use Rattle.std.proofs.Common.{◌≡◌, ◌∙◌, ◌≤◌, ◌<◌, ℕ, zero, suc, ◌+◌, ◌-◌, inl, inr, refl, ap, sym, subst, Bool, true, false, not, ◌==◌, nat_lt, if◌then◌else◌, List, [], ◌∷◌, ◌++◌, length, filter, Option, Some, None, arith, slice_get}
use Rattle.std.proofs.lemmas.Bool.{lt-ltb, eq-eqb}
use Rattle.ld_table.specs.Words.{first}
use Rattle.ld_msg.specs.declared.msg.Msg.{Msg}
use Rattle.ld_msg.specs.declared.msg.Body.{Body}
use Rattle.ld_msg.specs.declared.msg.Body.TheVariants as bodies
use Rattle.ld_msg.specs.Network.{Network, send, send_all, message, mark, oldest_new}
use Rattle.ld_machine.specs.World.{In}
use Rattle.ld_safety.proofs.Lists.{cond_both, In-append, Some_inj, not_none}

-- what a node answers weighs two, and all else one
abbrev pub weight : Body → ℕ
weight (bodies.Store n lng x) = 2
weight (bodies.DigestAsk n) = 2
weight (bodies.ReadAsk round n) = 2
weight (bodies.ReadOne round n set excluded) = 2
weight _ = 1

abbrev pub weight_of : Option Msg → ℕ
weight_of None = 0
weight_of (Some m) = weight m.body

abbrev pub weights_at : Network → List ℕ → ℕ
weights_at w [] = 0
weights_at w (i ∷ is) = weight_of (message w i) + weights_at w is

abbrev pub new_weight : Network → ℕ
new_weight w = weights_at w w.fresh

abbrev pub weights : List Msg → ℕ
weights [] = 0
weights (m ∷ ms) = weight m.body + weights ms

pub weight_most : (b : Body) → weight b ≤ 2
weight_most (bodies.Store n lng x) = omega arith
weight_most (bodies.DigestAsk n) = omega arith
weight_most (bodies.ReadAsk round n) = omega arith
weight_most (bodies.ReadOne round n set excluded) = omega arith
weight_most _ = omega arith

pub weight_least : (b : Body) → 1 ≤ weight b
weight_least (bodies.Store n lng x) = omega arith
weight_least (bodies.DigestAsk n) = omega arith
weight_least (bodies.ReadAsk round n) = omega arith
weight_least (bodies.ReadOne round n set excluded) = omega arith
weight_least _ = omega arith

-- each new place is one of a message
pub record InPlace (w : Network) : Type 0 where
  pub count : w.count ≡ length w.sent
  pub fresh : (i : ℕ) → In i w.fresh → i < w.count

pub start_in_place : (w : Network) → w.sent ≡ [] → w.count ≡ 0 → w.fresh ≡ [] → InPlace w
start_in_place w a b c = record { count = b ∙ sym (ap length a); fresh = λ i h. absurd (subst (λ is. In i is) c h) }

send_in_place : (w : Network) (m : Msg) → InPlace w → InPlace (send w m)
send_in_place w m h = record {
  count = let c = h.count in let s : w.count + 1 ≡ suc (length w.sent) = omega arith in s;
  fresh = λ i j. elim (In-append i w.fresh (w.count ∷ []) j) [ inl a ↦ (let z = h.fresh i a in omega arith) | inr (inl e) ↦ (let z : i ≡ w.count = e in omega arith) | inr (inr a) ↦ absurd a ];
}

pub sent_in_place : (w : Network) (ms : List Msg) → InPlace w → InPlace (send_all w ms)
sent_in_place w [] h = h
sent_in_place w (m ∷ ms) h = sent_in_place (send w m) ms (send_in_place w m h)

filter_in : (p : ℕ → Bool) (i : ℕ) (is : List ℕ) → In i (filter p is) → In i is
filter_in p i [] h = absurd h
filter_in p i (j ∷ js) h = cond_both (p j) (j ∷ filter p js) (filter p js) (λ ks. In i ks → In i (j ∷ js)) (λ t k. elim k [ inl e ↦ inl e | inr q ↦ inr (filter_in p i js q) ]) (λ t k. inr (filter_in p i js k)) h

pub mark_in_place : (w : Network) (i : ℕ) → InPlace w → InPlace (mark w i)
mark_in_place w i h = record { count = h.count; fresh = λ j k. h.fresh j (filter_in (λ x. not (i == x)) j w.fresh k) }

-- ---- messages keep their places ----

slice_step : {X : Type 0} (x : X) (xs : List X) (n k : ℕ) → n ≡ suc k → slice_get (x ∷ xs) n ≡ slice_get xs k
slice_step x xs n k e = ap (slice_get (x ∷ xs)) e

message_stays : (w : Network) (m : Msg) (i : ℕ) → i < w.count → message (send w m) i ≡ message w i
unfolding message
message_stays w m i h =
    let a : nat_lt i w.count ≡ true = lt-ltb i w.count h in let b : nat_lt i (w.count + 1) ≡ true = lt-ltb i (w.count + 1) (omega arith) in
    (λ j. if b j then slice_get (m ∷ w.sent) (w.count + 1 - 1 - i) else None) ∙ (slice_step m w.sent (w.count + 1 - 1 - i) (w.count - 1 - i) (omega arith) ∙ sym (λ j. if a j then slice_get w.sent (w.count - 1 - i) else None))

message_new : (w : Network) (m : Msg) → message (send w m) w.count ≡ Some m
unfolding message
message_new w m = let b : nat_lt w.count (w.count + 1) ≡ true = lt-ltb w.count (w.count + 1) (omega arith) in
    (λ j. if b j then slice_get (m ∷ w.sent) (w.count + 1 - 1 - w.count) else None) ∙ ap (slice_get (m ∷ w.sent)) (let z : w.count + 1 - 1 - w.count ≡ 0 = omega arith in z)

pub there : (w : Network) (i : ℕ) → InPlace w → In i w.fresh → (m : Msg) × (message w i ≡ Some m)
unfolding message
there w i h j = let l = h.fresh i j in let c = h.count in let a : nat_lt i w.count ≡ true = lt-ltb i w.count l in
    let s = found w.sent (w.count - 1 - i) (omega arith) in (s.0, (λ k. if a k then slice_get w.sent (w.count - 1 - i) else None) ∙ s.1) where
      found : {X : Type 0} (xs : List X) (k : ℕ) → k < length xs → (x : X) × (slice_get xs k ≡ Some x)
      found [] k l = absurd (omega arith)
      found (x ∷ xs) zero l = (x, refl)
      found (x ∷ xs) (suc k) l = found xs k (omega arith)

-- ---- sums ----

stay_at : (w : Network) (m : Msg) (is : List ℕ) → ((i : ℕ) → In i is → i < w.count) → weights_at (send w m) is ≡ weights_at w is
stay_at w m [] h = refl
stay_at w m (i ∷ is) h = let a : weight_of (message (send w m) i) ≡ weight_of (message w i) = ap weight_of (message_stays w m i (h i (inl refl))) in let b : weights_at (send w m) is ≡ weights_at w is = stay_at w m is (λ j k. h j (inr k)) in omega arith

at_end : (w : Network) (is : List ℕ) (i : ℕ) → weights_at w (is ++ i ∷ []) ≡ weights_at w is + weight_of (message w i)
at_end w [] i = omega arith
at_end w (j ∷ is) i = let a : weights_at w (is ++ i ∷ []) ≡ weights_at w is + weight_of (message w i) = at_end w is i in omega arith

sent_one : (w : Network) (m : Msg) → InPlace w → new_weight (send w m) ≡ new_weight w + weight m.body
sent_one w m h = let a = at_end (send w m) w.fresh w.count in let b = stay_at w m w.fresh h.fresh in let c : weight_of (message (send w m) w.count) ≡ weight m.body = ap weight_of (message_new w m) in omega arith

-- what is sent adds its weight
pub sent_weight : (w : Network) (ms : List Msg) → InPlace w → new_weight (send_all w ms) ≡ new_weight w + weights ms
sent_weight w [] h = omega arith
sent_weight w (m ∷ ms) h = let a : new_weight (send_all (send w m) ms) ≡ new_weight (send w m) + weights ms = sent_weight (send w m) ms (send_in_place w m h) in let b = sent_one w m h in omega arith

marked_not_more : (w : Network) (i : ℕ) (is : List ℕ) → weights_at w (filter (λ j. not (i == j)) is) ≤ weights_at w is
marked_not_more w i [] = omega arith
marked_not_more w i (j ∷ is) = let ih : weights_at w (filter (λ j. not (i == j)) is) ≤ weights_at w is = marked_not_more w i is in
    cond_both (not (i == j)) (j ∷ filter (λ j. not (i == j)) is) (filter (λ j. not (i == j)) is) (λ ks. weights_at w ks ≤ weight_of (message w j) + weights_at w is) (λ t. omega arith) (λ t. omega arith)

marked_less : (w : Network) (i : ℕ) (is : List ℕ) → In i is → weights_at w (filter (λ j. not (i == j)) is) + weight_of (message w i) ≤ weights_at w is
marked_less w i [] h = absurd h
marked_less w i (j ∷ is) (inl e) = let ih : weights_at w (filter (λ j. not (i == j)) is) ≤ weights_at w is = marked_not_more w i is in let s : weight_of (message w i) ≡ weight_of (message w j) = ap (λ k. weight_of (message w k)) e in
    let t : not (i == j) ≡ false = (let u : (i == j) ≡ true = eq-eqb i j e in ap not u) in
    let g : weights_at w (filter (λ j. not (i == j)) (j ∷ is)) ≡ weights_at w (filter (λ j. not (i == j)) is) = (λ k. weights_at w (if t k then j ∷ filter (λ j. not (i == j)) is else filter (λ j. not (i == j)) is)) in omega arith
marked_less w i (j ∷ is) (inr h) = let ih : weights_at w (filter (λ j. not (i == j)) is) + weight_of (message w i) ≤ weights_at w is = marked_less w i is h in
    cond_both (not (i == j)) (j ∷ filter (λ j. not (i == j)) is) (filter (λ j. not (i == j)) is) (λ ks. weights_at w ks + weight_of (message w i) ≤ weight_of (message w j) + weights_at w is) (λ t. omega arith) (λ t. omega arith)

-- a delivery of a new message takes its weight away
pub mark_weight : (w : Network) (i : ℕ) → In i w.fresh → new_weight (mark w i) + weight_of (message w i) ≤ new_weight w
unfolding message
mark_weight w i h = marked_less w i w.fresh h

pub oldest_is : (w : Network) (i : ℕ) → oldest_new w ≡ Some i → In i w.fresh
oldest_is w i h = by_list w.fresh h where
  by_list : (is : List ℕ) → first is ≡ Some i → In i is
  by_list [] q = absurd (not_none q)
  by_list (j ∷ is) q = inl (sym (Some_inj q))
