-- Messages that are new, as they are sent, taken and lost.
use Rattle.std.proofs.Common.{◌≡◌, ◌≢◌, ℕ, suc, ◌+◌, ◌-◌, ◌<◌, ◌≤◌, Bool, true, false, not, ◌==◌, ◌&&◌, ◌||◌, List, [], ◌∷◌, ◌++◌, filter, length, set, Option, Some, None, refl, ap, sym, ◌∙◌, subst, inl, inr, arith, nat_le, slice_get, if◌then◌else◌, replicate, zero}
use Rattle.std.proofs.lemmas.List.{append-nil, append_assoc, get_or-set_same, get_or-set_other, length-set}
use Rattle.std.proofs.lemmas.List.Elements.{filter-append}
use Rattle.std.proofs.lemmas.Bool.{eq-eqb, eqb-true, ne_eqb, le-leb, lt-ltb, cases_eq}
use Rattle.std.specs.List.{AllByRecursion}
use Rattle.ld_table.specs.Words.{any_of, is_in}
use Rattle.ld_ids.specs.Id.{IsNode}
use Rattle.ld_msg.specs.declared.msg.Who.{Who}
use Rattle.ld_msg.specs.declared.msg.Who.TheVariants as whos
use Rattle.ld_msg.specs.declared.msg.Msg.{Msg}
use Rattle.ld_msg.specs.Network.{Network, message, send, send_all, mark}
use Rattle.ld_bounds.specs.Sound.{is_node}
use Rattle.ld_rounds.specs.Queued.{queue_of, no_queues, put_to, put_one, put_all, waits}
use Rattle.ld_rounds.specs.News.{goes_to, waits_for, is_answer, chosen, places_of, without, RiseBelow, AreAt, AreNews, such_in, one_waits, some_wait}
use Rattle.ld_rounds.specs.Turns.{IsFirst}

-- ---- taken ----

-- the first message that is so, of a place before which none is, and those that stay
pub record Picked (low high : ℕ) (p : Msg → Bool) (es : List (ℕ × Msg)) (m : Msg) (rest : List Msg) : Type 0 where
  pub place : ℕ
  pub above : low ≤ place
  pub below : place < high
  pub there : (w : Network) → AreAt w es → message w place ≡ Some m
  pub is : p m ≡ true
  pub stands : is_in place (places_of es) ≡ true
  pub least : (w : Network) → AreAt w es → (j : ℕ) → is_in j (places_of es) ≡ true → j < place → such_in p (message w j) ≡ false
  pub chosen_are : chosen p (without place es) ≡ rest
  pub others : (q : Msg → Bool) → q m ≡ false → chosen q (without place es) ≡ chosen q es

rise_from : (low k high : ℕ) (es : List (ℕ × Msg)) → low ≤ k → RiseBelow k high es → RiseBelow low high es
rise_from low k high [] h r = tt
rise_from low k high (e ∷ es) h r = (omega (arith, h, r.0), r.1, r.2)

-- a place below all is none of theirs
without_below : (i k high : ℕ) (es : List (ℕ × Msg)) → i < k → RiseBelow k high es → without i es ≡ es
without_below i k high [] h r = refl
without_below i k high (e ∷ es) h r =
    rw (ne_eqb i e.0 (omega (arith, h, r.0))) (ap (λ l. e ∷ l) (without_below i (e.0 + 1) high es (omega (arith, h, r.0)) r.2))

none_below : (j k high : ℕ) (es : List (ℕ × Msg)) → j < k → RiseBelow k high es → is_in j (places_of es) ≡ false
none_below j k high [] h r = refl
none_below j k high (e ∷ es) h r = rw (ne_eqb e.0 j (omega (arith, h, r.0))) (none_below j (e.0 + 1) high es (omega (arith, h, r.0)) r.2)

-- none before the first one
none_before : (j high : ℕ) (e : ℕ × Msg) (es : List (ℕ × Msg)) (p : Msg → Bool) (o : Option Msg) → j < e.0 → RiseBelow (e.0 + 1) high es → is_in j (places_of (e ∷ es)) ≡ true → such_in p o ≡ false
none_before j high e es p o l r i =
    let none : is_in j (places_of (e ∷ es)) ≡ false = rw (ne_eqb e.0 j (omega (arith, l))) (none_below j (e.0 + 1) high es (omega (arith, l)) r) in
    let wrong : true ≡ false = sym i ∙ none in
    absurd cc

-- the first one isn't so, and of the others none that is before
least_by : (p : Msg → Bool) (w : Network) (n j : ℕ) (m : Msg) (b x : Bool) → (n == j) ≡ b → (b || x) ≡ true → message w n ≡ Some m → p m ≡ false → (x ≡ true → such_in p (message w j) ≡ false) → such_in p (message w j) ≡ false
least_by p w n j m true x q i there h more = subst (λ (k : ℕ). such_in p (message w k) ≡ false) (eqb-true n j q) (ap (such_in p) there ∙ h)
least_by p w n j m false x q i there h more = more i

or_right : (a b : Bool) → b ≡ true → (a || b) ≡ true
or_right true b h = refl
or_right false b h = h

picked_here : (low high : ℕ) (p : Msg → Bool) (e : ℕ × Msg) (es : List (ℕ × Msg)) → RiseBelow low high (e ∷ es) → p e.1 ≡ true → Picked low high p (e ∷ es) e.1 (chosen p es)
picked_here low high p e es r h =
    let w : without e.0 (e ∷ es) ≡ es = rw (eq-eqb e.0 e.0 refl) (without_below e.0 (e.0 + 1) high es (omega arith) r.2) in
    record {
      place = e.0;
      above = r.0;
      below = r.1;
      there = λ n at. at.0;
      is = h;
      stands = ap (λ b. b || is_in e.0 (places_of es)) (eq-eqb e.0 e.0 refl);
      least = λ n at j i l. none_before j high e es p (message n j) l r.2 i;
      chosen_are = ap (chosen p) w;
      others = λ q f. ap (chosen q) w ∙ sym (ap (λ (b : Bool). if b then e.1 ∷ chosen q es else chosen q es) f);
    }

picked_later : (low high : ℕ) (p : Msg → Bool) (e : ℕ × Msg) (es : List (ℕ × Msg)) (m : Msg) (rest : List Msg) → RiseBelow low high (e ∷ es) → p e.1 ≡ false
    → Picked (e.0 + 1) high p es m rest → Picked low high p (e ∷ es) m rest
picked_later low high p e es m rest r h k =
    let w : without k.place (e ∷ es) ≡ e ∷ without k.place es = ap (λ (b : Bool). if not b then e ∷ without k.place es else without k.place es) (ne_eqb k.place e.0 (omega (arith, k.above))) in
    record {
      place = k.place;
      above = (let a = k.above in let b = r.0 in omega (arith, a, b));
      below = k.below;
      there = λ n at. k.there n at.1;
      is = k.is;
      stands = or_right (e.0 == k.place) (is_in k.place (places_of es)) k.stands;
      least = λ n at j i l. least_by p n e.0 j e.1 (e.0 == j) (is_in j (places_of es)) refl i at.0 h (λ more. k.least n at.1 j more l);
      chosen_are = ap (chosen p) w ∙ (ap (λ (b : Bool). if b then e.1 ∷ chosen p (without k.place es) else chosen p (without k.place es)) h ∙ k.chosen_are);
      others = λ q f. ap (chosen q) w ∙ ap (λ (l : List Msg). if q e.1 then e.1 ∷ l else l) (k.others q f);
    }

head_or : Msg → List Msg → Msg
head_or d [] = d
head_or d (z ∷ zs) = z

tail_of : List Msg → List Msg
tail_of [] = []
tail_of (z ∷ zs) = zs

head_is : {a b : Msg} {xs ys : List Msg} → a ∷ xs ≡ b ∷ ys → a ≡ b
unfolding head_or
head_is {a} {b} {xs} {ys} q = ap (head_or a) q

tail_is : {a b : Msg} {xs ys : List Msg} → a ∷ xs ≡ b ∷ ys → xs ≡ ys
unfolding tail_of
tail_is {a} {b} {xs} {ys} q = ap tail_of q

pick_by : (low high : ℕ) (p : Msg → Bool) (e : ℕ × Msg) (es : List (ℕ × Msg)) (m : Msg) (rest : List Msg) (b : Bool) → p e.1 ≡ b → RiseBelow low high (e ∷ es)
    → ((k : ℕ) → RiseBelow k high es → chosen p es ≡ m ∷ rest → Picked k high p es m rest)
    → (if b then e.1 ∷ chosen p es else chosen p es) ≡ m ∷ rest → Picked low high p (e ∷ es) m rest
pick_by low high p e es m rest true h r more c =
    let x : e.1 ≡ m = head_is c in
    let y : chosen p es ≡ rest = tail_is c in
    subst (λ (z : Msg). Picked low high p (e ∷ es) z rest) x (subst (λ (l : List Msg). Picked low high p (e ∷ es) e.1 l) y (picked_here low high p e es r h))
pick_by low high p e es m rest false h r more c = picked_later low high p e es m rest r h (more (e.0 + 1) r.2 c)

pub pick : (low high : ℕ) (p : Msg → Bool) (es : List (ℕ × Msg)) (m : Msg) (rest : List Msg) → RiseBelow low high es → chosen p es ≡ m ∷ rest → Picked low high p es m rest
pick low high p [] m rest r c = absurd cc
pick low high p (e ∷ es) m rest r c = pick_by low high p e es m rest (p e.1) refl r (λ k rk ck. pick k high p es m rest rk ck) c

-- ---- marked ----

places_by : (b : Bool) (n : ℕ) (e : ℕ × Msg) (es : List (ℕ × Msg)) (xs : List ℕ) → places_of es ≡ xs → places_of (if b then e ∷ es else es) ≡ (if b then e.0 ∷ xs else xs)
places_by true n e es xs h = ap (λ l. e.0 ∷ l) h
places_by false n e es xs h = h

places-without : (i : ℕ) (es : List (ℕ × Msg)) → places_of (without i es) ≡ filter (λ j. not (i == j)) (places_of es)
places-without i [] = refl
places-without i (e ∷ es) = places_by (not (i == e.0)) i e (without i es) (filter (λ j. not (i == j)) (places_of es)) (places-without i es)

rise_by : (b : Bool) (low high : ℕ) (e : ℕ × Msg) (es : List (ℕ × Msg)) → low ≤ e.0 → e.0 < high → RiseBelow (e.0 + 1) high es → RiseBelow low high (if b then e ∷ es else es)
rise_by true low high e es l h r = (l, h, r)
rise_by false low high e es l h r = rise_from low (e.0 + 1) high es (omega (arith, l)) r

rise-without : (i low high : ℕ) (es : List (ℕ × Msg)) → RiseBelow low high es → RiseBelow low high (without i es)
rise-without i low high [] r = tt
rise-without i low high (e ∷ es) r = rise_by (not (i == e.0)) low high e (without i es) r.0 r.1 (rise-without i (e.0 + 1) high es r.2)

at_by : (b : Bool) (w : Network) (e : ℕ × Msg) (es : List (ℕ × Msg)) → message w e.0 ≡ Some e.1 → AreAt w es → AreAt w (if b then e ∷ es else es)
at_by true w e es h a = (h, a)
at_by false w e es h a = a

same_message : (w : Network) (k i : ℕ) → message (mark w k) i ≡ message w i
unfolding message
same_message w k i = refl

at-marked : (w : Network) (i k : ℕ) (es : List (ℕ × Msg)) → AreAt w es → AreAt (mark w k) (without i es)
at-marked w i k [] a = tt
at-marked w i k (e ∷ es) a = at_by (not (i == e.0)) (mark w k) e (without i es) (same_message w k e.0 ∙ a.0) (at-marked w i k es a.1)

-- two choices, in either order
swap_by : (p q : ℕ → Bool) (x : ℕ) (xs ys : List ℕ) (a b : Bool) → p x ≡ a → q x ≡ b → filter p xs ≡ filter q ys → filter p (if b then x ∷ xs else xs) ≡ filter q (if a then x ∷ ys else ys)
swap_by p q x xs ys true true e f h = rw (e, f) (ap (λ l. x ∷ l) h)
swap_by p q x xs ys true false e f h = rw f h
swap_by p q x xs ys false true e f h = rw e h
swap_by p q x xs ys false false e f h = h

filter_swap : (p q : ℕ → Bool) (xs : List ℕ) → filter p (filter q xs) ≡ filter q (filter p xs)
filter_swap p q [] = refl
filter_swap p q (x ∷ xs) = swap_by p q x (filter q xs) (filter p xs) (p x) (q x) refl refl (filter_swap p q xs)

-- what is left of the news once the message of a place is no longer new
marked_fresh : (first i : ℕ) (w : Network) (es : List (ℕ × Msg)) → filter (λ j. nat_le first j) w.fresh ≡ places_of es → filter (λ j. nat_le first j) (mark w i).fresh ≡ places_of (without i es)
marked_fresh first i w es h = filter_swap (λ j. nat_le first j) (λ j. not (i == j)) w.fresh ∙ (ap (filter (λ j. not (i == j))) h ∙ sym (places-without i es))

-- the next message that is so is taken out of the network, and what is still new is this
pub record Taken (p : Msg → Bool) (first : ℕ) (w : Network) (m : Msg) (queues : List (List Msg)) (answers : List Msg) : Type 0 where
  pub place : ℕ
  pub there : message w place ≡ Some m
  pub foremost : IsFirst p first w place
  pub news : AreNews first (mark w place) queues answers

foremost_of : (first : ℕ) (w : Network) (qs : List (List Msg)) (ans : List Msg) (p : Msg → Bool) (m : Msg) (rest : List Msg) → (n : AreNews first w qs ans) → (k : Picked first w.count p n.news m rest) → IsFirst p first w k.place
foremost_of first w qs ans p m rest n k = record {
  fresh = ap (is_in k.place) n.fresh ∙ k.stands;
  least = λ j i l. k.least w n.there j (sym (ap (is_in j) n.fresh) ∙ i) l;
}

waits_there : (y : ℕ) (b : Bool) (t : Who) → (not b && goes_to y t) ≡ true → b ≡ false
waits_there y true t h = absurd cc
waits_there y false t h = refl

waits_once : (y z : ℕ) (b : Bool) (t : Who) → (not b && goes_to y t) ≡ true → y ≢ z → (not b && goes_to z t) ≡ false
waits_once y z true t h n = refl
waits_once y z false (whos.Node k) h n = let e : k ≡ y = eqb-true k y h in ne_eqb k z (λ f. n (sym e ∙ f))
waits_once y z false (whos.Sequencer k) h n = refl
waits_once y z false (whos.Reader k) h n = refl

waits_by : (y : ℕ) (b : Bool) (t : Who) → (not b && goes_to y t) ≡ true → t ≡ whos.Node y
waits_by y true t e = absurd cc
waits_by y false (whos.Node k) e = ap (λ n. whos.Node n) (eqb-true k y e)
waits_by y false (whos.Sequencer k) e = absurd cc
waits_by y false (whos.Reader k) e = absurd cc

pub waits_is : (y : ℕ) (m : Msg) → waits_for y m ≡ true → m.to ≡ whos.Node y
waits_is y m h = waits_by y (is_node m.from) m.to h

-- the first message that waits for a node
pub take_first : (first : ℕ) (w : Network) (qs : List (List Msg)) (ans : List Msg) (y : ℕ) (m : Msg) (rest : List Msg) → AreNews first w qs ans → IsNode y → length qs ≡ 17 → queue_of qs y ≡ m ∷ rest
    → Taken (waits_for y) first w m (set qs y rest) ans
take_first first w qs ans y m rest n is l q =
    let k = pick first w.count (waits_for y) n.news m rest n.rise (n.queued y is ∙ q) in
    record {
      place = k.place;
      there = k.there w n.there;
      foremost = foremost_of first w qs ans (waits_for y) m rest n k;
      news = record {
        news = without k.place n.news;
        from = n.from;
        fresh = marked_fresh first k.place w n.news n.fresh;
        there = at-marked w k.place k.place n.news n.there;
        rise = rise-without k.place first w.count n.news n.rise;
        queued = λ z isz. elim (cases_eq z y) [
          | inl e ↦ subst (λ x. chosen (waits_for x) (without k.place n.news) ≡ queue_of (set qs y rest) x) (sym e) (k.chosen_are ∙ sym (get_or-set_same qs y rest [] (omega (arith, l, is.1))))
          | inr ne ↦ k.others (waits_for z) (waits_once y z (is_node m.from) m.to k.is (λ e. ne (sym e))) ∙ (n.queued z isz ∙ sym (get_or-set_other qs y z rest [] ne))
        ];
        answers_are = k.others is_answer (waits_there y (is_node m.from) m.to k.is) ∙ n.answers_are;
      };
    }

answer_waits : (z : ℕ) (b : Bool) (t : Who) → b ≡ true → (not b && goes_to z t) ≡ false
answer_waits z true t h = refl
answer_waits z false t h = absurd cc

-- the first answer
pub take_answer : (first : ℕ) (w : Network) (qs : List (List Msg)) (ans : List Msg) (m : Msg) (rest : List Msg) → AreNews first w qs ans → ans ≡ m ∷ rest → Taken is_answer first w m qs rest
take_answer first w qs ans m rest n e =
    let k = pick first w.count is_answer n.news m rest n.rise (n.answers_are ∙ e) in
    record {
      place = k.place;
      there = k.there w n.there;
      foremost = foremost_of first w qs ans is_answer m rest n k;
      news = record {
        news = without k.place n.news;
        from = n.from;
        fresh = marked_fresh first k.place w n.news n.fresh;
        there = at-marked w k.place k.place n.news n.there;
        rise = rise-without k.place first w.count n.news n.rise;
        queued = λ z isz. k.others (waits_for z) (answer_waits z (is_node m.from) m.to k.is) ∙ n.queued z isz;
        answers_are = k.chosen_are;
      };
    }

-- ---- sent ----

push_by : (a b : Bool) (x m : Msg) (xs ys : List Msg) → ys ≡ (if b then xs ++ m ∷ [] else xs) → (if a then x ∷ ys else ys) ≡ (if b then (if a then x ∷ xs else xs) ++ m ∷ [] else (if a then x ∷ xs else xs))
push_by true true x m xs ys h = ap (λ l. x ∷ l) h
push_by true false x m xs ys h = ap (λ l. x ∷ l) h
push_by false true x m xs ys h = h
push_by false false x m xs ys h = h

chosen-push : (p : Msg → Bool) (es : List (ℕ × Msg)) (i : ℕ) (m : Msg) → chosen p (es ++ (i, m) ∷ []) ≡ (if p m then chosen p es ++ m ∷ [] else chosen p es)
chosen-push p [] i m = refl
chosen-push p (e ∷ es) i m = push_by (p e.1) (p m) e.1 m (chosen p es) (chosen p (es ++ (i, m) ∷ [])) (chosen-push p es i m)

places-push : (es : List (ℕ × Msg)) (i : ℕ) (m : Msg) → places_of (es ++ (i, m) ∷ []) ≡ places_of es ++ i ∷ []
places-push [] i m = refl
places-push (e ∷ es) i m = ap (λ l. e.0 ∷ l) (places-push es i m)

rise-push : (low high : ℕ) (es : List (ℕ × Msg)) (m : Msg) → low ≤ high → RiseBelow low high es → RiseBelow low (high + 1) (es ++ (high, m) ∷ [])
rise-push low high [] m h r = (h, omega arith, tt)
rise-push low high (e ∷ es) m h r = (r.0, (let b = r.1 in omega (arith, b)), rise-push (e.0 + 1) high es m (let b = r.1 in omega (arith, b)) r.2)

filter-push : (p : ℕ → Bool) (xs : List ℕ) (x : ℕ) → p x ≡ true → filter p (xs ++ x ∷ []) ≡ filter p xs ++ x ∷ []
filter-push p xs x h = filter-append p xs (x ∷ []) ∙ ap (λ (b : Bool). filter p xs ++ (if b then x ∷ [] else [])) h

message_later : (w : Network) (m : Msg) (i : ℕ) (x : Msg) → i < w.count → message w i ≡ Some x → message (send w m) i ≡ Some x
unfolding message
message_later w m i x l h =
    rw (lt-ltb i (w.count + 1) (omega (arith, l))) (
    let e : w.count + 1 - 1 - i ≡ suc (w.count - 1 - i) = omega (arith, l) in
    ap (λ k. slice_get (m ∷ w.sent) k) e ∙ (sym (ap (λ (b : Bool). if b then slice_get w.sent (w.count - 1 - i) else None) (lt-ltb i w.count l)) ∙ h))

message_last : (w : Network) (m : Msg) → message (send w m) w.count ≡ Some m
unfolding message
message_last w m =
    rw (lt-ltb w.count (w.count + 1) (omega arith)) (let e : w.count + 1 - 1 - w.count ≡ 0 = omega arith in ap (λ k. slice_get (m ∷ w.sent) k) e)

at-sent : (w : Network) (m : Msg) (low : ℕ) (es : List (ℕ × Msg)) → RiseBelow low w.count es → AreAt w es → AreAt (send w m) (es ++ (w.count, m) ∷ [])
at-sent w m low [] r a = (message_last w m, tt)
at-sent w m low (e ∷ es) r a = (message_later w m e.0 e.1 r.1 a.0, at-sent w m (e.0 + 1) es r.2 a.1)

-- the news and one more
sent_one : (first : ℕ) (w : Network) (qs now : List (List Msg)) (ans new : List Msg) (m : Msg) → AreNews first w qs ans
    → ((y : ℕ) → IsNode y → (if waits_for y m then queue_of qs y ++ m ∷ [] else queue_of qs y) ≡ queue_of now y)
    → (if is_answer m then ans ++ m ∷ [] else ans) ≡ new
    → AreNews first (send w m) now new
sent_one first w qs now ans new m n q a = record {
  news = n.news ++ (w.count, m) ∷ [];
  from = (let f = n.from in omega (arith, f));
  fresh = filter-push (λ j. nat_le first j) w.fresh w.count (le-leb first w.count n.from) ∙ (ap (λ l. l ++ w.count ∷ []) n.fresh ∙ sym (places-push n.news w.count m));
  there = at-sent w m first n.news n.rise n.there;
  rise = rise-push first w.count n.news m n.from n.rise;
  queued = λ y is. chosen-push (waits_for y) n.news w.count m ∙ (ap (λ l. if waits_for y m then l ++ m ∷ [] else l) (n.queued y is) ∙ q y is);
  answers_are = chosen-push is_answer n.news w.count m ∙ (ap (λ l. if is_answer m then l ++ m ∷ [] else l) n.answers_are ∙ a);
}

-- answers of a node are sent
pub sent_answers : (first : ℕ) (w : Network) (qs : List (List Msg)) (ans ms : List Msg) → AreNews first w qs ans → AllByRecursion (λ m. is_answer m ≡ true) ms → AreNews first (send_all w ms) qs (ans ++ ms)
sent_answers first w qs ans [] n f = subst (λ l. AreNews first w qs l) (sym (append-nil ans)) n
sent_answers first w qs ans (m ∷ ms) n f =
    let one : AreNews first (send w m) qs (ans ++ m ∷ []) = sent_one first w qs qs ans (ans ++ m ∷ []) m n
    (λ y is. ap (λ (b : Bool). if b then queue_of qs y ++ m ∷ [] else queue_of qs y) (answer_waits y (is_node m.from) m.to f.0))
    (ap (λ (b : Bool). if b then ans ++ m ∷ [] else ans) f.0) in
    subst (λ l. AreNews first (send_all (send w m) ms) qs l) (append_assoc ans (m ∷ []) ms) (sent_answers first (send w m) qs (ans ++ m ∷ []) ms one f.1)

put_by : (qs : List (List Msg)) (m : Msg) (b : Bool) (t : Who) (y : ℕ) → IsNode y → length qs ≡ 17 → b ≡ false
    → (if not b && goes_to y t then queue_of qs y ++ m ∷ [] else queue_of qs y) ≡ queue_of (put_to qs m t) y
put_by qs m true t y is l h = absurd cc
put_by qs m false (whos.Sequencer k) y is l h = refl
put_by qs m false (whos.Reader k) y is l h = refl
put_by qs m false (whos.Node k) y is l h = elim (cases_eq y k) [
  | inl e ↦ subst (λ x. (if x == y then queue_of qs y ++ m ∷ [] else queue_of qs y) ≡ queue_of (set qs x (queue_of qs x ++ m ∷ [])) y) e
      (ap (λ (b : Bool). if b then queue_of qs y ++ m ∷ [] else queue_of qs y) (eq-eqb y y refl) ∙ sym (get_or-set_same qs y (queue_of qs y ++ m ∷ []) [] (omega (arith, l, is.1))))
  | inr ne ↦ ap (λ (b : Bool). if b then queue_of qs y ++ m ∷ [] else queue_of qs y) (ne_eqb k y (λ e. ne (sym e))) ∙ sym (get_or-set_other qs k y (queue_of qs k ++ m ∷ []) [] ne)
]

length-put_to : (qs : List (List Msg)) (m : Msg) (t : Who) → length (put_to qs m t) ≡ length qs
length-put_to qs m (whos.Node k) = length-set qs k (queue_of qs k ++ m ∷ [])
length-put_to qs m (whos.Sequencer k) = refl
length-put_to qs m (whos.Reader k) = refl

length-put_one : (qs : List (List Msg)) (m : Msg) → length (put_one qs m) ≡ length qs
length-put_one qs m = length-put_to qs m m.to

pub length-put_all : (qs : List (List Msg)) (ms : List Msg) → length (put_all qs ms) ≡ length qs
length-put_all qs [] = refl
length-put_all qs (m ∷ ms) = length-put_all (put_one qs m) ms ∙ length-put_one qs m

-- messages of an actor are sent
pub sent_asks : (first : ℕ) (w : Network) (qs : List (List Msg)) (ans ms : List Msg) → AreNews first w qs ans → length qs ≡ 17 → AllByRecursion (λ m. is_answer m ≡ false) ms → AreNews first (send_all w ms) (put_all qs ms) ans
sent_asks first w qs ans [] n l f = n
sent_asks first w qs ans (m ∷ ms) n l f =
    let one : AreNews first (send w m) (put_one qs m) ans = sent_one first w qs (put_one qs m) ans ans m n
    (λ y is. put_by qs m (is_node m.from) m.to y is l f.0)
    (ap (λ (b : Bool). if b then ans ++ m ∷ [] else ans) f.0) in
    sent_asks first (send w m) (put_one qs m) ans ms one (length-put_to qs m m.to ∙ l) f.1

-- the first message that waits for a node does
pub first_is : (first : ℕ) (w : Network) (qs : List (List Msg)) (ans : List Msg) (y : ℕ) (m : Msg) (rest : List Msg) → AreNews first w qs ans → IsNode y → queue_of qs y ≡ m ∷ rest → waits_for y m ≡ true
first_is first w qs ans y m rest n is q = (pick first w.count (waits_for y) n.news m rest n.rise (n.queued y is ∙ q)).is

-- the first message that waits for a node goes to it
pub first_waits : (first : ℕ) (w : Network) (qs : List (List Msg)) (ans : List Msg) (y : ℕ) (m : Msg) (rest : List Msg) → AreNews first w qs ans → IsNode y → queue_of qs y ≡ m ∷ rest → m.to ≡ whos.Node y
first_waits first w qs ans y m rest n is q = waits_is y m (pick first w.count (waits_for y) n.news m rest n.rise (n.queued y is ∙ q)).is

-- it is no answer
pub first_asks : (first : ℕ) (w : Network) (qs : List (List Msg)) (ans : List Msg) (y : ℕ) (m : Msg) (rest : List Msg) → AreNews first w qs ans → IsNode y → queue_of qs y ≡ m ∷ rest → is_answer m ≡ false
first_asks first w qs ans y m rest n is q = waits_there y (is_node m.from) m.to (pick first w.count (waits_for y) n.news m rest n.rise (n.queued y is ∙ q)).is

-- an answer that is to be taken is one
pub answer_is : (first : ℕ) (w : Network) (qs : List (List Msg)) (ans : List Msg) (m : Msg) (rest : List Msg) → AreNews first w qs ans → ans ≡ m ∷ rest → is_answer m ≡ true
answer_is first w qs ans m rest n e = (pick first w.count is_answer n.news m rest n.rise (n.answers_are ∙ e)).is

-- ---- at first ----

none_waits : (n y : ℕ) → let none : List Msg = [] in queue_of (replicate n none) y ≡ none
none_waits zero y = refl
none_waits (suc n) zero = refl
none_waits (suc n) (suc y) = none_waits n y

-- where no message is new that is still to be sent, nothing waits, and no answer is to be taken
pub no_news : (w : Network) → filter (λ i. nat_le w.count i) w.fresh ≡ [] → AreNews w.count w no_queues []
no_news w h = record {
  news = [];
  from = omega arith;
  fresh = h;
  there = tt;
  rise = tt;
  queued = λ y is. sym (none_waits 17 y);
  answers_are = refl;
}

-- ---- waiting ----

waits_by_one : (b : Bool) (m : Msg) (ms : List Msg) (a : Bool) → a ≡ waits ms → (b || a) ≡ waits (if b then m ∷ ms else ms)
waits_by_one true m ms a h = refl
waits_by_one false m ms a h = h

any_there : (w : Network) (y : ℕ) (es : List (ℕ × Msg)) → AreAt w es → any_of (λ i. such_in (waits_for y) (message w i)) (places_of es) ≡ waits (chosen (waits_for y) es)
any_there w y [] a = refl
any_there w y (e ∷ es) a =
    ap (λ o. such_in (waits_for y) o || any_of (λ i. such_in (waits_for y) (message w i)) (places_of es)) a.0 ∙ waits_by_one (waits_for y e.1) e.1 (chosen (waits_for y) es) (any_of (λ i. such_in (waits_for y) (message w i)) (places_of es)) (any_there w y es a.1)

-- a message waits for a node just where its queue has one
pub one_queued : (first : ℕ) (w : Network) (qs : List (List Msg)) (ans : List Msg) (y : ℕ) → AreNews first w qs ans → IsNode y → one_waits first w y ≡ waits (queue_of qs y)
one_queued first w qs ans y n is = ap (any_of (λ i. such_in (waits_for y) (message w i))) n.fresh ∙ (any_there w y n.news n.there ∙ ap waits (n.queued y is))

pub some_queued : (first : ℕ) (w : Network) (qs : List (List Msg)) (ans : List Msg) (ys : List ℕ) → AreNews first w qs ans → AllByRecursion IsNode ys → some_wait first w ys ≡ any_of (λ y. waits (queue_of qs y)) ys
some_queued first w qs ans [] n is = refl
some_queued first w qs ans (y ∷ ys) n is =
    ap (λ b. b || some_wait first w ys) (one_queued first w qs ans y n is.0) ∙ ap (λ b. waits (queue_of qs y) || b) (some_queued first w qs ans ys n is.1)
