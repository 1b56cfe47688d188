-- What a sequencer that recovers an epoch waits for is under way: after a page the next ask is, and once enough is told each item of the plan goes to enough nodes.
use Rattle.std.proofs.Common.{◌≡◌, ◌∙◌, ◌⊎◌, ◌≤◌, ℕ, zero, suc, ◌+◌, ◌%◌, max, inl, inr, refl, ap, sym, subst, Bool, true, false, not, ◌&&◌, ◌||◌, ◌==◌, if◌then◌else◌, nat_lt, List, [], ◌∷◌, ◌++◌, length, map, take, drop, arith, length-append}
use Rattle.std.specs.List.{AllByRecursion, IsDistinct}
use Rattle.std.proofs.lemmas.Bool.{cases_Bool, and_parts, and_from, eqb-true, eq-eqb, ltb-false}
use Rattle.ld_table.specs.Words.{is_in, without}
use Rattle.ld_lsn.specs.Number.{epoch_of, esn_of, home_epoch}
use Rattle.ld_ids.specs.declared.set.Spec.{Spec}
use Rattle.ld_ids.specs.Choice.{nodes_of, ring, left_out, choice_at}
use Rattle.ld_msg.specs.declared.msg.Entry.{Entry}
use Rattle.ld_msg.specs.declared.msg.Summary.{Summary}
use Rattle.ld_msg.specs.declared.msg.Who.TheVariants as whos
use Rattle.ld_msg.specs.declared.msg.Msg.{Msg}
use Rattle.ld_msg.specs.declared.msg.Body.{Body}
use Rattle.ld_msg.specs.declared.msg.Body.TheVariants as bodies
use Rattle.ld_msg.specs.Choice.{choice}
use Rattle.ld_msg.specs.Digest.{Told, takes_page, told_page, with_page, digest_lng}
use Rattle.ld_msg.specs.Sequencer.{Sequencer, Planned, to_each, next_ask, item_nodes, item_stores, is_wide, left_nodes}
use Rattle.ld_machine.specs.World.{In, from_node, to_node_of}
use Rattle.ld_safety.proofs.Lists.{cond_both, In-append, In_left, In_right, In-map}
use Rattle.ld_safety.proofs.Members.{filter_in, filter_apart, members_apart}
use Rattle.ld_safety.proofs.InSet.{choice_in}
use Rattle.ld_calm.proofs.Lefts.{cut_in_two}

-- what is told of a node in a digest is under way: it is asked on, or its page comes, or it says that the epoch is clean
pub data Asked (N : Msg → Type 0) (l b e : ℕ) (t : Told) : Type 0 where
  asked_on : N (to_node_of l b t.node (bodies.DigestAsk t.asked)) → Asked N l b e t
  page_comes : (upto trim lng : ℕ) (es : List Entry) → N (from_node l t.node b (bodies.DigestPage t.asked upto trim lng es)) → Asked N l b e t
  says_clean : (n : ℕ) (y : Summary) → home_epoch n ≡ e → N (from_node l t.node b (bodies.CleanHere n y)) → Asked N l b e t

-- each node that hasn't told all
abbrev pub AllAsked : (Msg → Type 0) → ℕ → ℕ → ℕ → List Told → Type 0
AllAsked N l b e d = (t : Told) → In t d → t.whole ≡ false → Asked N l b e t

-- ---- a page ----

-- each node stands once in a digest
abbrev pub OnceTold : List Told → Type 0
OnceTold [] = Unit {0}
OnceTold (t ∷ d) = ((u : Told) → In u d → (u.node == t.node) ≡ false) × OnceTold d

module _ (e good y from upto trim lng : ℕ) (es : List Entry) where
  abbrev paged : Told → Told
  paged t = if takes_page y from t then told_page e good upto trim lng es t else t

  paged_node : (t : Told) → (paged t).node ≡ t.node
  paged_node t = cond_both (takes_page y from t) (told_page e good upto trim lng es t) t (λ u. u.node ≡ t.node) (λ h. refl) (λ h. refl)

  -- the node's next ask goes out, unless it told all
  next_goes : (d : List Told) (t : Told) → OnceTold d → In t d → t.node ≡ y → (paged t).whole ≡ false → In {X = ℕ × Body} (y, bodies.DigestAsk (paged t).asked) (next_ask y (map paged d))
  next_goes [] t o i n w = absurd i
  next_goes (u ∷ d) t o (inl k) n w = let here : ((paged u).node == y) ≡ true = eq-eqb (paged u).node y (paged_node u ∙ (ap (λ (x : Told). x.node) (sym k) ∙ n)) in
      let not_whole : (paged u).whole ≡ false = subst (λ (x : Told). (paged x).whole ≡ false) k w in
      subst (λ (x : Told). In {X = ℕ × Body} (y, bodies.DigestAsk (paged x).asked) (next_ask y (map paged (u ∷ d)))) (sym k)
      (subst (λ b. In {X = ℕ × Body} (y, bodies.DigestAsk (paged u).asked) (if b then (if (paged u).whole then [] else (y, bodies.DigestAsk (paged u).asked) ∷ []) else next_ask y (map paged d))) (sym here)
      (subst (λ b. In {X = ℕ × Body} (y, bodies.DigestAsk (paged u).asked) (if b then [] else (y, bodies.DigestAsk (paged u).asked) ∷ [])) (sym not_whole) (inl refl)))
  next_goes (u ∷ d) t o (inr i) n w =
      let other : ((paged u).node == y) ≡ false = elim (cases_Bool ((paged u).node == y)) [
        | inl b ↦ absurd (let z : t.node ≡ u.node = n ∙ (sym (eqb-true (paged u).node y b) ∙ paged_node u) in let x : (t.node == u.node) ≡ true = eq-eqb t.node u.node z in let v = o.0 t i in let k : true ≡ false = sym x ∙ v in cc)
        | inr b ↦ b
      ] in
      subst (λ b. In {X = ℕ × Body} (y, bodies.DigestAsk (paged t).asked) (if b then (if (paged u).whole then [] else (y, bodies.DigestAsk (paged u).asked) ∷ []) else next_ask y (map paged d))) (sym other) (next_goes d t o.1 i n w)

-- after a page that is taken all is under way again: the page was, and nothing else is gone
pub page_asked : (N M : Msg → Type 0) (q : Sequencer) (e y from upto trim lng : ℕ) (es : List Entry) (d : List Told) → OnceTold d → AllAsked N q.log q.epoch e d
    → ((m : Msg) → N m → (m ≡ from_node q.log y q.epoch (bodies.DigestPage from upto trim lng es)) ⊎ M m) → ((b : ℕ × Body) → In b (next_ask y (with_page e y from upto trim lng es d)) → M (to_node_of q.log q.epoch b.0 b.1))
    → AllAsked M q.log q.epoch e (with_page e y from upto trim lng es d)
unfolding with_page
page_asked N M q e y from upto trim lng es d O A keeps sends u i w = by_told (In-map _ u d i) where
  good : ℕ
  good = max (digest_lng d) lng

  still : (t : Told) → takes_page y from t ≡ false → t.whole ≡ false → Asked N q.log q.epoch e t → Asked M q.log q.epoch e t
  still t f nw (asked_on n) = elim (keeps _ n) [
    | inl z ↦ absurd (let x : whos.Sequencer q.epoch ≡ whos.Node y = ap (λ (m : Msg). m.from) z in cc)
    | inr m ↦ asked_on m
  ]
  still t f nw (page_comes up tr ln xs n) = elim (keeps _ n) [
    | inl z ↦ absurd (let x : whos.Node t.node ≡ whos.Node y = ap (λ (m : Msg). m.from) z in let a : t.node ≡ y = cc in
        let b : bodies.DigestPage t.asked up tr ln xs ≡ bodies.DigestPage from upto trim lng es = ap (λ (m : Msg). m.body) z in let k : t.asked ≡ from = cc in
        let g : takes_page y from t ≡ true = and_from (t.node == y) ((t.asked == from) && not t.whole) (eq-eqb t.node y a) (and_from (t.asked == from) (not t.whole) (eq-eqb t.asked from k) (ap not nw)) in let h : true ≡ false = sym g ∙ f in cc)
    | inr m ↦ page_comes up tr ln xs m
  ]
  still t f nw (says_clean n s h k) = elim (keeps _ k) [
    | inl z ↦ absurd (let x : bodies.CleanHere n s ≡ bodies.DigestPage from upto trim lng es = ap (λ (m : Msg). m.body) z in cc)
    | inr m ↦ says_clean n s h m
  ]

  by_told : (t : Told) × In t d × (u ≡ (if takes_page y from t then told_page e good upto trim lng es t else t)) → Asked M q.log q.epoch e u
  by_told p = subst (Asked M q.log q.epoch e) (sym p.2) (by_test (takes_page y from p.0) refl (subst (λ (x : Told). x.whole ≡ false) p.2 w)) where
    by_test : (b : Bool) → takes_page y from p.0 ≡ b → (if takes_page y from p.0 then told_page e good upto trim lng es p.0 else p.0).whole ≡ false → Asked M q.log q.epoch e (if takes_page y from p.0 then told_page e good upto trim lng es p.0 else p.0)
    by_test true t nw =
        let r = and_parts (p.0.node == y) ((p.0.asked == from) && not p.0.whole) t in let here : p.0.node ≡ y = eqb-true p.0.node y r.0 in
        let go = next_goes e good y from upto trim lng es d p.0 O p.1 here nw in
        asked_on (subst (λ k. M (to_node_of q.log q.epoch k (bodies.DigestAsk (paged e good y from upto trim lng es p.0).asked))) (sym (paged_node e good y from upto trim lng es p.0 ∙ here)) (sends (y, bodies.DigestAsk (paged e good y from upto trim lng es p.0).asked) go))
    by_test false t nw = subst (Asked M q.log q.epoch e) (sym (ap (λ b. if b then told_page e good upto trim lng es p.0 else p.0) t))
        (let nw2 : p.0.whole ≡ false = subst (λ b. (if b then told_page e good upto trim lng es p.0 else p.0).whole ≡ false) t nw in still p.0 t nw2 (A p.0 p.1 nw2))

-- ---- lists without a number twice ----

-- none of one list is in another
abbrev Across : List ℕ → List ℕ → Type 0
Across xs ys = (x y : ℕ) → In x xs → In y ys → (x == y) ≡ false

pub all_from : (P : ℕ → Type 0) (xs : List ℕ) → ((x : ℕ) → In x xs → P x) → AllByRecursion P xs
all_from P [] h = tt
all_from P (x ∷ xs) h = (h x (inl refl), all_from P xs (λ y i. h y (inr i)))

pub all_at : (P : ℕ → Type 0) (xs : List ℕ) (x : ℕ) → AllByRecursion P xs → In x xs → P x
all_at P [] x h i = absurd i
all_at P (y ∷ xs) x h (inl e) = subst P (sym e) h.0
all_at P (y ∷ xs) x h (inr i) = all_at P xs x h.1 i

apart_both : (xs ys : List ℕ) → IsDistinct ◌==◌ xs → IsDistinct ◌==◌ ys → Across xs ys → IsDistinct ◌==◌ (xs ++ ys)
unfolding IsDistinct
apart_both [] ys a b c = b
apart_both (x ∷ xs) ys a b c = (all_from (λ z. (x == z) ≡ false) (xs ++ ys) (λ z i. elim (In-append z xs ys i) [ inl j ↦ all_at (λ k. (x == k) ≡ false) xs z a.0 j | inr j ↦ c x z (inl refl) j ]), apart_both xs ys a.1 b (λ u v i j. c u v (inr i) j))

apart_left : (xs ys : List ℕ) → IsDistinct ◌==◌ (xs ++ ys) → IsDistinct ◌==◌ xs
unfolding IsDistinct
apart_left [] ys h = tt
apart_left (x ∷ xs) ys h = (all_from (λ z. (x == z) ≡ false) xs (λ z i. all_at (λ k. (x == k) ≡ false) (xs ++ ys) z h.0 (In_left z xs ys i)), apart_left xs ys h.1)

apart_right : (xs ys : List ℕ) → IsDistinct ◌==◌ (xs ++ ys) → IsDistinct ◌==◌ ys
unfolding IsDistinct
apart_right [] ys h = h
apart_right (x ∷ xs) ys h = apart_right xs ys h.1

apart_across : (xs ys : List ℕ) → IsDistinct ◌==◌ (xs ++ ys) → Across xs ys
unfolding IsDistinct
apart_across [] ys h u v i j = absurd i
apart_across (x ∷ xs) ys h u v (inl e) j = subst (λ k. (k == v) ≡ false) (sym e) (all_at (λ k. (x == k) ≡ false) (xs ++ ys) v h.0 (In_right v xs ys j))
apart_across (x ∷ xs) ys h u v (inr i) j = apart_across xs ys h.1 u v i j

cut : (n : ℕ) (xs : List ℕ) → take n xs ++ drop n xs ≡ xs
cut zero xs = refl
cut (suc n) [] = refl
cut (suc n) (x ∷ xs) = ap (λ ys. x ∷ ys) (cut n xs)

flipped : (a b : ℕ) → (a == b) ≡ false → (b == a) ≡ false
flipped a b h = elim (cases_Bool (b == a)) [ inl t ↦ absurd (let z : (a == b) ≡ true = eq-eqb a b (sym (eqb-true b a t)) in let k : true ≡ false = sym z ∙ h in cc) | inr t ↦ t ]

take_apart : (n : ℕ) (xs : List ℕ) → IsDistinct ◌==◌ xs → IsDistinct ◌==◌ (take n xs)
take_apart n xs h = apart_left (take n xs) (drop n xs) (subst (λ ys. IsDistinct ◌==◌ ys) (sym (cut n xs)) h)

ring_apart : (p : ℕ) (xs : List ℕ) → IsDistinct ◌==◌ xs → IsDistinct ◌==◌ (ring p xs)
ring_apart p xs h = let w : IsDistinct ◌==◌ (take p xs ++ drop p xs) = subst (λ ys. IsDistinct ◌==◌ ys) (sym (cut p xs)) h in
    apart_both (drop p xs) (take p xs) (apart_right (take p xs) (drop p xs) w) (apart_left (take p xs) (drop p xs) w) (λ x y i j. flipped y x (apart_across (take p xs) (drop p xs) w y x j i))

take_least : {X : Type 0} (n k : ℕ) (xs : List X) → n ≤ k → n ≤ length xs → n ≤ length (take k xs)
take_least zero k xs a b = omega arith
take_least (suc n) zero xs a b = absurd (omega arith)
take_least (suc n) (suc k) [] a b = absurd (omega arith)
take_least (suc n) (suc k) (x ∷ xs) a b = let ih : n ≤ length (take k xs) = take_least n k xs (omega arith) (omega arith) in omega arith

ring_length : (p : ℕ) (xs : List ℕ) → length (ring p xs) ≡ length xs
ring_length p xs = length-append (drop p xs) (take p xs) ∙ cut_in_two p xs

-- ---- a plan ----

-- as many nodes of the epoch as it needs copies
pub record Chosen (s : Spec) (P : ℕ → Type 0) : Type 0 where
  pub nodes : List ℕ
  pub apart : IsDistinct ◌==◌ nodes
  pub members : (y : ℕ) → In y nodes → In y (nodes_of s)
  pub enough : s.r ≤ length nodes
  pub each : (y : ℕ) → In y nodes → P y

abbrev around : Spec → ℕ → ℕ → List ℕ
around s n w = ring ((epoch_of n + esn_of n + w) % length (nodes_of s)) (nodes_of s)

-- a choice is of so many, where there are so many
pub choice_enough : (s : Spec) (ex : List ℕ) (n w : ℕ) → s.r ≤ length (nodes_of s) → Chosen s (λ y. In y (choice s ex n w))
unfolding choice_at
choice_enough s ex n w h = record {
  nodes = choice s ex n w;
  apart = take_apart (s.r + s.extras) (left_out s ex (around s n w)) (left_apart (nat_lt (length (without ex (around s n w))) s.r));
  members = λ y i. choice_in s ex n w y i;
  enough = take_least s.r (s.r + s.extras) (left_out s ex (around s n w)) (omega arith) (left_enough (nat_lt (length (without ex (around s n w))) s.r) refl);
  each = λ y i. i;
} where
  around_length : length (around s n w) ≡ length (nodes_of s)
  around_length = ring_length ((epoch_of n + esn_of n + w) % length (nodes_of s)) (nodes_of s)

  left_apart : (b : Bool) → IsDistinct ◌==◌ (if b then around s n w else without ex (around s n w))
  left_apart true = ring_apart ((epoch_of n + esn_of n + w) % length (nodes_of s)) (nodes_of s) (members_apart s.set)
  left_apart false = filter_apart (λ x. not (is_in x ex)) (around s n w) (ring_apart ((epoch_of n + esn_of n + w) % length (nodes_of s)) (nodes_of s) (members_apart s.set))

  left_enough : (b : Bool) → nat_lt (length (without ex (around s n w))) s.r ≡ b → s.r ≤ length (if b then around s n w else without ex (around s n w))
  left_enough true e = let z = around_length in omega arith
  left_enough false e = ltb-false (length (without ex (around s n w))) s.r e

-- where each item of a plan that too few nodes settled is on its way: to as many nodes as it needs copies, unless the plan says what is lost; or to each that isn't lost
pub data ItemsGo (s : Spec) (lost : List ℕ) (loss : Bool) (is : List (ℕ × Planned)) (Goes : ℕ × Planned → ℕ → Type 0) : Type 0 where
  to_enough : loss ≡ false → ((i : ℕ × Planned) → In i is → nat_lt (length i.1.settled) s.r ≡ true → Chosen s (Goes i)) → ItemsGo s lost loss is Goes
  to_all : ((i : ℕ × Planned) → In i is → (y : ℕ) → In y (nodes_of s) → (is_in y lost ≡ true) ⊎ ((is_in y i.1.settled ≡ true) ⊎ Goes i y)) → ItemsGo s lost loss is Goes

or_parts_false : (a b : Bool) → (a || b) ≡ false → a ≡ false
or_parts_false true b h = h
or_parts_false false b h = refl

pub each_in : (b : Body) (y : ℕ) (ys : List ℕ) → In y ys → In {X = ℕ × Body} (y, b) (to_each b ys)
each_in b y [] i = absurd i
each_in b y (z ∷ ys) (inl e) = inl (λ j. (e j, b))
each_in b y (z ∷ ys) (inr i) = inr (each_in b y ys i)

store_in : (s : Spec) (lost : List ℕ) (loss : Bool) (lng wave : ℕ) (is : List (ℕ × Planned)) (i : ℕ × Planned) (y : ℕ) → In i is → In y (item_nodes s lost loss wave i.0 i.1.settled) → In {X = ℕ × Body} (y, bodies.Store i.0 lng i.1.what) (item_stores s lost loss lng wave is)
store_in s lost loss lng wave [] i y j k = absurd j
store_in s lost loss lng wave (x ∷ is) i y (inl e) k = In_left _ (to_each (bodies.Store x.0 lng x.1.what) (item_nodes s lost loss wave x.0 x.1.settled)) (item_stores s lost loss lng wave is)
    (subst (λ (z : ℕ × Planned). In {X = ℕ × Body} (y, bodies.Store z.0 lng z.1.what) (to_each (bodies.Store x.0 lng x.1.what) (item_nodes s lost loss wave x.0 x.1.settled))) (sym e)
    (each_in (bodies.Store x.0 lng x.1.what) y (item_nodes s lost loss wave x.0 x.1.settled) (subst (λ (z : ℕ × Planned). In y (item_nodes s lost loss wave z.0 z.1.settled)) e k)))
store_in s lost loss lng wave (x ∷ is) i y (inr j) k = In_right _ (to_each (bodies.Store x.0 lng x.1.what) (item_nodes s lost loss wave x.0 x.1.settled)) (item_stores s lost loss lng wave is) (store_in s lost loss lng wave is i y j k)

-- the stores of a wave: of a new plan, or of one at a retry
pub items_go : (s : Spec) (lost : List ℕ) (loss : Bool) (lng wave : ℕ) (is : List (ℕ × Planned)) → s.r ≤ length (nodes_of s)
    → ItemsGo s lost loss is (λ i y. In {X = ℕ × Body} (y, bodies.Store i.0 lng i.1.what) (item_stores s lost loss lng wave is))
items_go s lost loss lng wave is h = by_wide (is_wide s lost loss) refl where
  by_wide : (b : Bool) → is_wide s lost loss ≡ b → ItemsGo s lost loss is (λ i y. In {X = ℕ × Body} (y, bodies.Store i.0 lng i.1.what) (item_stores s lost loss lng wave is))
  by_wide true e = to_all (λ i j y k. elim (cases_Bool (is_in y lost)) [
    | inl t ↦ inl t
    | inr t ↦ inr (elim (cases_Bool (is_in y i.1.settled)) [
      | inl u ↦ inl u
      | inr u ↦ inr (store_in s lost loss lng wave is i y j (subst (λ b. In y (if b then without i.1.settled (left_nodes s lost) else if nat_lt (length i.1.settled) s.r then choice s lost i.0 wave else [])) (sym e)
          (filter_in (λ x. not (is_in x i.1.settled)) y (left_nodes s lost) (filter_in (λ x. not (is_in x lost)) y (nodes_of s) k (ap not t)) (ap not u))))
    ])
  ])
  by_wide false e = to_enough (or_parts_false loss _ e) (λ i j few. let ch = choice_enough s lost i.0 wave h in record {
    nodes = ch.nodes;
    apart = ch.apart;
    members = ch.members;
    enough = ch.enough;
    each = λ y k. store_in s lost loss lng wave is i y j (subst (λ b. In y (if b then without i.1.settled (left_nodes s lost) else if nat_lt (length i.1.settled) s.r then choice s lost i.0 wave else [])) (sym e)
        (subst (λ b. In y (if b then choice s lost i.0 wave else [])) (sym few) (ch.each y k)));
  })
