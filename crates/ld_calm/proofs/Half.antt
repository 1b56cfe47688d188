-- What a node's answer tells of how it is in this half, and what a reader that holds such answers may rely on.
use Rattle.std.proofs.Common.{◌≡◌, ◌∙◌, ◌⊎◌, ◌≤◌, ◌<◌, ℕ, suc, ◌+◌, inl, inr, refl, ap, sym, subst, Bool, true, false, not, ◌&&◌, ◌||◌, ◌==◌, if◌then◌else◌, nat_lt, nat_le, List, [], ◌∷◌, ◌++◌, length, filter, Option, Some, None, is_some, arith, length-append}
use Rattle.std.proofs.Common.{nat_cmp, Less}
use Rattle.std.specs.Cmp.{nat_cmp_total}
use Rattle.std.specs.Ordering.{is_eq, ordering_reverse}
use Rattle.std.specs.BTreeMap.{is_at}
use Rattle.std.specs.Map as map
use Rattle.std.specs.List.{AllByRecursion}
use Rattle.std.specs.List.Sorted.{IsStrictlySortedBy}
use Rattle.std.proofs.lemmas.Bool.{cases_Bool, and_parts, and_from, le-leb, ltb-true, eqb-true, eq-eqb, ne_eqb}
use Rattle.ld_table.specs.Table.{find, put, Ordered}
use Rattle.ld_table.specs.Words.{is_in, with_one}
use Rattle.ld_table.proofs.Laws.{tied}
use Rattle.ld_table.proofs.Order.{found, Ordered-put}
use Rattle.ld_lsn.specs.Number.{home_epoch, home_esn, last_esn, numbered}
use Rattle.ld_msg.specs.declared.msg.Summary.{Summary}
use Rattle.ld_msg.specs.declared.msg.Body.{Body}
use Rattle.ld_msg.specs.declared.msg.Body.TheVariants as bodies
use Rattle.ld_msg.specs.Register.{View}
use Rattle.ld_msg.specs.Reading.{Held, lost_held, within, lost_generation, LossHere}
use Rattle.ld_msg.specs.Reader.{Reader, Confirmation, is_finished, round_of, is_newer, held_with, confirming_with, confirms_loss, is_confirmed, heard, nothing_read, loses, gives_all, gave_item, most_items, look_of, gives, Read}
use Rattle.ld_op.specs.Plain.{Log, summary_at, is_lost}
use Rattle.ld_op.specs.Answers.{read_answer, withheld_in, lost_or, epoch_answer, clean_page, open_answer}
use Rattle.ld_op.specs.Handles.{handled_by}
use Rattle.ld_machine.specs.World.{In}
use Rattle.ld_safety.proofs.Lists.{cond_both, Some_inj, not_both, of_some}
use Rattle.ld_safety.proofs.Members.{find_in, In_put, filter_in}
use Rattle.ld_safety.proofs.LostRounds.{place_of, IsAsk, Answers, ask_answer, ask_answered}
use Rattle.ld_safety.proofs.NodeSteps.{read_answered}
use Rattle.ld_safety.proofs.LostBegins.{HeldLost, lost_in}
use Rattle.ld_calm.proofs.Asking as asking
use Rattle.ld_calm.proofs.Asking.{is_fresh, is_wrong, is_unsure, asks_wrongly}
use Rattle.ld_calm.proofs.Fairly.{fair}
use Rattle.ld_calm.proofs.Confirming.{IsApart}

-- ---- an answer ----

-- each summary of a log ends within its epoch
abbrev pub EndsFine : Log → Type 0
EndsFine g = (e : ℕ) (z : Summary) → summary_at g e ≡ Some z → (1 ≤ z.end) × (z.end ≤ last_esn)

-- the answer of a node y as it is in this half: where it is lost under a generation, and where not
pub record Fresh (right : ℕ → ℕ → ℕ → Bool) (y : ℕ) (b : Body) : Type 0 where
  pub generation : ℕ
  pub released : ℕ
  pub round : ℕ
  pub from : ℕ
  pub log : Log
  pub answers : Answers generation round from log b
  pub lost : is_lost log (home_epoch from) ≡ true → b ≡ read_answer generation log released round from
  pub now : (k e : ℕ) → right y k e ≡ ((generation == k) && is_lost log e)
  pub ends : EndsFine log

-- a node that is lost for the number withholds nothing from its answer
module _ (n generation : ℕ) (g : Log) (released round from : ℕ) (set excluded : List Bool) (t : is_lost g (home_epoch from) ≡ true) where
  abbrev Same : Body → Type 0
  Same b = withheld_in n set excluded b ≡ b

  by_summary : (o : Option Summary) → Same (epoch_answer generation g released round from o)
  by_summary None = subst (λ u. Same (lost_or u generation round from 0 (open_answer g released round from))) (sym t) refl
  by_summary (Some z) = cond_both (nat_le z.end (home_esn from)) (bodies.ReadEnded round from (numbered (home_epoch from) z.end) z.loss) (lost_or (is_lost g (home_epoch from)) generation round from (numbered (home_epoch from) z.end) (clean_page g round from z)) Same
      (λ u. refl) (λ u. subst (λ v. Same (lost_or v generation round from (numbered (home_epoch from) z.end) (clean_page g round from z))) (sym t) refl)

  pub withholds_none : Same (read_answer generation g released round from)
  unfolding read_answer
  withholds_none = cond_both (nat_le from g.trim) (bodies.ReadTrim round from g.trim) (epoch_answer generation g released round from (summary_at g (home_epoch from))) Same (λ u. refl) (λ u. by_summary (summary_at g (home_epoch from)))

-- so what comes to an ask is such an answer, where the node is now as it is in the half
pub fresh_answer : (right : ℕ → ℕ → ℕ → Bool) (n generation : ℕ) (g : Log) (l ballot released : ℕ) (b x : Body) (q : IsAsk b) → (handled_by n generation g l ballot released b).answer ≡ Some x
    → ((k e : ℕ) → right n k e ≡ ((generation == k) && is_lost g e)) → EndsFine g → Fresh right n x
fresh_answer right n generation g l ballot released b x q h now ends = record {
  generation = generation;
  released = released;
  round = q.round;
  from = q.from;
  log = g;
  answers = ask_answer n generation g l ballot released b x q h;
  lost = ask_answered n generation g l ballot released b x q (λ z. is_lost g (home_epoch q.from) ≡ true → z ≡ read_answer generation g released q.round q.from) h (λ t. refl)
      (λ set excluded z k t. ap (withheld_in n set excluded) (k t) ∙ withholds_none n generation g released q.round q.from set excluded t);
  now = now;
  ends = ends;
}

-- ---- what a reader holds ----

-- each entry of a table is found
pub found_at : {X : Type 0} (m : List (ℕ × X)) → Ordered m → (h : ℕ × X) → In h m → find h.0 m ≡ Some h.1
found_at m o h i = every m (found m o) i where
  every : (es : List (ℕ × _)) → AllByRecursion (λ e. find e.0 m ≡ Some e.1) es → In h es → find h.0 m ≡ Some h.1
  every [] a j = absurd j
  every (e ∷ es) a (inl j) = subst (λ z. find z.0 m ≡ Some z.1) (sym j) a.0
  every (e ∷ es) a (inr j) = every es a.1 j

-- of the nodes once each, each with its round, and those of a round since then as they are now
pub record HeldWell (all : List ℕ) (since : ℕ) (right : ℕ → ℕ → ℕ → Bool) (hs : List (ℕ × Held)) : Type 0 where
  pub once : Ordered hs
  pub rounds : (h : ℕ × Held) → In h hs → h.1.round ≡ round_of h.1.body
  pub nodes : (h : ℕ × Held) → In h hs → In h.0 all
  pub fresh : (h : ℕ × Held) → In h hs → since < h.1.round → Fresh right h.0 h.1.body

-- with one more answer
pub heard_well : (all : List ℕ) (since : ℕ) (right : ℕ → ℕ → ℕ → Bool) (hs : List (ℕ × Held)) (y : ℕ) (b : Body) → HeldWell all since right hs → In y all → (since < round_of b → Fresh right y b) → HeldWell all since right (held_with hs y b)
heard_well all since right hs y b H i f = cond_both (is_newer (find y hs) (round_of b)) (put y (record { round = round_of b; body = b }) hs) hs (HeldWell all since right) (λ t. record {
  once = Ordered-put y (record { round = round_of b; body = b }) hs H.once;
  rounds = λ h j. elim (In_put y (record { round = round_of b; body = b }) hs h j) [ inl e ↦ subst (λ (z : ℕ × Held). z.1.round ≡ round_of z.1.body) (sym e) refl | inr k ↦ H.rounds h k ];
  nodes = λ h j. elim (In_put y (record { round = round_of b; body = b }) hs h j) [ inl e ↦ subst (λ (z : ℕ × Held). In z.0 all) (sym e) i | inr k ↦ H.nodes h k ];
  fresh = λ h j. elim (In_put y (record { round = round_of b; body = b }) hs h j) [ inl e ↦ subst (λ (z : ℕ × Held). since < z.1.round → Fresh right z.0 z.1.body) (sym e) f | inr k ↦ H.fresh h k ];
}) (λ t. H)

-- ---- Facts.right ----

fresh_round : (since : ℕ) (o : Option Held) → is_fresh since o ≡ true → (h : Held) × (o ≡ Some h) × (since < h.round)
fresh_round since None f = absurd cc
fresh_round since (Some h) f = (h, refl, ltb-true since h.round f)

-- who is held as lost by an answer of a round since then is so now, under the generation that is held for it
pub lost_right : (all : List ℕ) (since : ℕ) (right : ℕ → ℕ → ℕ → Bool) (hs : List (ℕ × Held)) → HeldWell all since right hs → (s : ℕ) (set : List ℕ) (x : ℕ) → is_fresh since (find x hs) ≡ true
    → is_wrong right (home_epoch s) x (find x (lost_held s (within set hs))) ≡ false
lost_right all since right hs H s set x f = by_found (find x (lost_held s (within set hs))) refl where
  by_found : (o : Option ℕ) → find x (lost_held s (within set hs)) ≡ o → is_wrong right (home_epoch s) x o ≡ false
  by_found None e = refl
  by_found (Some k) e =
      let l : HeldLost s x k hs = lost_in s x k set hs (find_in x (lost_held s (within set hs)) k e) in
      let r = fresh_round since (find x hs) f in
      by_held l r
    where
      by_held : HeldLost s x k hs → ((h : Held) × (find x hs ≡ Some h) × (since < h.round)) → not (right x k (home_epoch s)) ≡ false
      by_held l r =
          let at : find x hs ≡ Some l.answer.1 = subst (λ z. find z hs ≡ Some l.answer.1) l.node (found_at hs H.once l.answer l.there) in
          let same : r.0 ≡ l.answer.1 = Some_inj (sym r.1 ∙ at) in
          let above : since < l.answer.1.round = subst (λ (z : Held). since < z.round) same r.2 in
          let w : Fresh right l.answer.0 l.answer.1.body = H.fresh l.answer l.there above in
          let v = w.answers.lost l.number l.round k l.end l.is in
          let here : is_lost w.log (home_epoch s) ≡ true = subst (λ e. is_lost w.log e ≡ true) (ap home_epoch (sym v.2) ∙ l.same_epoch) v.3 in
          let said : right l.answer.0 k (home_epoch s) ≡ true = w.now k (home_epoch s) ∙ and_from (w.generation == k) (is_lost w.log (home_epoch s)) (eq-eqb w.generation k (sym v.0)) here in
          ap not (subst (λ z. right z k (home_epoch s) ≡ true) l.node said)

-- ---- Facts.few ----

shorter : {X : Type 0} (p : X → Bool) (xs : List X) → length (filter p xs) ≤ length xs
shorter p [] = omega arith
shorter p (x ∷ xs) = let ih : length (filter p xs) ≤ length xs = shorter p xs in cond_both (p x) (x ∷ filter p xs) (filter p xs) (λ ys. length ys ≤ suc (length xs)) (λ t. omega arith) (λ t. omega arith)

one_most : (s y : ℕ) (b : Body) → length (lost_generation s y b) ≤ 1
one_most s y (bodies.LostHere number round generation end) = cond_both (home_epoch number == home_epoch s) ((y, generation) ∷ []) [] (λ ys. length ys ≤ 1) (λ t. omega arith) (λ t. omega arith)
one_most s y _ = omega arith

-- one at most of each answer
pub lost_most : (s : ℕ) (hs : List (ℕ × Held)) → length (lost_held s hs) ≤ length hs
lost_most s [] = omega arith
lost_most s (h ∷ hs) =
    let ih : length (lost_held s hs) ≤ length hs = lost_most s hs in let a = one_most s h.0 h.1.body in
    let l : length (lost_generation s h.0 h.1.body ++ lost_held s hs) ≡ length (lost_generation s h.0 h.1.body) + length (lost_held s hs) = length-append (lost_generation s h.0 h.1.body) (lost_held s hs) in omega arith

-- so many are held at most as there are nodes
apart_keys : (x k : ℕ) → nat_cmp x k ≡ Less → x ≡ k → ⊥
apart_keys x k l e =
    let a : is_at (nat_cmp k) x ≡ false = ap is_eq (nat_cmp_total.antisymm k x ∙ ap ordering_reverse l) in
    let b : is_at (nat_cmp k) x ≡ true = subst (λ z. is_at (nat_cmp k) z ≡ true) (sym e) (tied k k ∙ eq-eqb k k refl) in
    not_both (is_at (nat_cmp k) x) b a

above_keys : {X : Type 0} (x : ℕ) (hs : List (ℕ × X)) → AllByRecursion (λ y. nat_cmp x y ≡ Less) (map.keys_of hs) → (h : ℕ × X) → In h hs → nat_cmp x h.0 ≡ Less
above_keys x [] a h i = absurd i
above_keys x (k ∷ hs) a h (inl e) = subst (λ z. nat_cmp x z.0 ≡ Less) (sym e) a.0
above_keys x (k ∷ hs) a h (inr i) = above_keys x hs a.1 h i

one_less : (y : ℕ) (all : List ℕ) → In y all → length (filter (λ z. not (z == y)) all) + 1 ≤ length all
one_less y [] i = absurd i
one_less y (z ∷ zs) (inl e) = cond_both (not (z == y)) (z ∷ filter (λ z. not (z == y)) zs) (filter (λ z. not (z == y)) zs) (λ ks. length ks + 1 ≤ suc (length zs))
    (λ t. absurd (let a : (z == y) ≡ true = eq-eqb z y (sym e) in let n : not (z == y) ≡ false = ap not a in not_both (not (z == y)) t n)) (λ t. let l = shorter (λ z. not (z == y)) zs in omega arith)
one_less y (z ∷ zs) (inr i) = let ih : length (filter (λ z. not (z == y)) zs) + 1 ≤ length zs = one_less y zs i in
    cond_both (not (z == y)) (z ∷ filter (λ z. not (z == y)) zs) (filter (λ z. not (z == y)) zs) (λ ks. length ks + 1 ≤ suc (length zs)) (λ t. omega arith) (λ t. omega arith)

held_few : {X : Type 0} (hs : List (ℕ × X)) → Ordered hs → (all : List ℕ) → ((h : ℕ × X) → In h hs → In h.0 all) → length hs ≤ length all
unfolding IsStrictlySortedBy
held_few [] o all i = omega arith
held_few (h ∷ hs) o all i =
    let ih : length hs ≤ length (filter (λ z. not (z == h.0)) all) = held_few hs o.1 (filter (λ z. not (z == h.0)) all) (λ k j. filter_in (λ z. not (z == h.0)) k.0 all (i k (inr j))
    (ap not (ne_eqb k.0 h.0 (λ e. apart_keys h.0 k.0 (above_keys h.0 hs o.0 k j) (sym e))))) in
    let l = one_less h.0 all (i h (inl refl)) in omega arith

pub few_lost : (all : List ℕ) (since : ℕ) (right : ℕ → ℕ → ℕ → Bool) (hs : List (ℕ × Held)) → HeldWell all since right hs → (s : ℕ) (set : List ℕ) → length (lost_held s (within set hs)) ≤ length all
few_lost all since right hs H s set =
    let a = lost_most s (within set hs) in let b : length (within set hs) ≤ length hs = shorter (λ (h : ℕ × Held). is_in h.0 set) hs in let d = held_few hs H.once all H.nodes in omega arith

-- ---- EndsFairly ----

pub answer_round : (generation : ℕ) (g : Log) (released round from : ℕ) → round_of (read_answer generation g released round from) ≡ round
answer_round generation g released round from = read_answered generation g released round from (λ x. round_of x ≡ round) (record {
  trimmed = λ h. refl;
  ended = λ y a h k. refl;
  lost_clean = λ y a h k t. refl;
  lost = λ a h t. refl;
  clean = λ y a h k t. refl;
  open_page = λ a h t u. refl;
  waits = λ a. refl;
})

or_neither : (t u : Bool) → (t || u) ≡ false → (t ≡ false) × (u ≡ false)
or_neither false u h = (refl, h)
or_neither true u h = absurd cc

not_false : (t : Bool) → not t ≡ false → t ≡ true
not_false true h = refl
not_false false h = absurd cc

-- an answer b of node y comes to a reader: what is known of it
pub record Comes (all : List ℕ) (since : ℕ) (right : ℕ → ℕ → ℕ → Bool) (d : Reader) (y : ℕ) (b : Body) : Type 0 where
  pub held : HeldWell all since right d.held
  pub top : (h : ℕ × Held) → In h d.held → h.1.round ≤ d.round
  pub apart : IsApart d
  pub member : In y all
  pub fresh : since < round_of b → Fresh right y b
  -- an answer of a confirmation's round is of a node that it asks, for the next number
  pub waved : (v : Confirmation) → d.confirming ≡ Some v → round_of b ≡ v.round → (place_of b ≡ d.next) × (is_some (find y v.asked) ≡ true)

module _ (looks : ℕ → View) (g : asking.Ground) (d : Reader) (y : ℕ) (b : Body) (open_still : is_finished d ≡ false) (K : Comes g.all g.since g.right d y b) where
  pub is_newest : (v : Confirmation) → d.confirming ≡ Some v → (round_of b == v.round) ≡ true → is_newer (find y d.held) (round_of b) ≡ true
  is_newest v e t = by_held (find y d.held) refl where
    by_held : (o : Option Held) → find y d.held ≡ o → is_newer o (round_of b) ≡ true
    by_held None q = refl
    by_held (Some h) q = let l = K.top (y, h) (find_in y d.held h q) in let r = (K.apart v e).1 in let u = eqb-true (round_of b) v.round t in le-leb h.round (round_of b) (omega arith)

  -- no confirmation lasts after an answer of its round that doesn't confirm it
  ended : (v : Confirmation) → d.confirming ≡ Some v → (round_of b == v.round) ≡ true → confirms_loss v.asked y b ≡ false → (heard d y b).confirming ≡ None
  ended v c e l = ap (λ o. confirming_with o y b) c ∙ ((λ i. if not (e i) then Some v else if confirms_loss v.asked y b then Some (record { round = v.round; asked = v.asked; told = with_one y v.told }) else None)
      ∙ (λ i. if l i then Some (record { round = v.round; asked = v.asked; told = with_one y v.told }) else None))

  -- a node that is held by an answer of such a round and asked rightly ends no confirmation, or gives an item
  pub unsure_or_item : (v : Confirmation) → d.confirming ≡ Some v → nat_lt g.since v.round ≡ true → (round_of b == v.round) ≡ true → confirms_loss v.asked y b ≡ false
      → (is_unsure g (home_epoch d.next) d.held (Some v) y ≡ true) ⊎ (gave_item (gives_all (most_items (heard d y b)) looks (loses looks (heard d y b))).items ≡ true)
  unsure_or_item v e f t l = elim (cases_Bool (is_unsure g (home_epoch d.next) d.held (Some v) y)) [ inl u ↦ inl u | inr u ↦ inr (sure u) ] where
    sure : is_unsure g (home_epoch d.next) d.held (Some v) y ≡ false → gave_item (gives_all (most_items (heard d y b)) looks (loses looks (heard d y b))).items ≡ true
    sure u =
        let r : round_of b ≡ v.round = eqb-true (round_of b) v.round t in
        let w : Fresh g.right y b = K.fresh (let z = ltb-true g.since v.round f in omega arith) in
        let a = K.waved v e r in
        let k = of_some (find y v.asked) a.1 in
        let p = or_neither (not (is_fresh g.since (find y d.held))) (nat_lt g.since v.round && is_wrong g.right (home_epoch d.next) y (find y v.asked)) u in
        let wrong : is_wrong g.right (home_epoch d.next) y (find y v.asked) ≡ false = subst (λ z. (z && is_wrong g.right (home_epoch d.next) y (find y v.asked)) ≡ false) f p.1 in
        let said : g.right y k.0 (home_epoch d.next) ≡ true = not_false (g.right y k.0 (home_epoch d.next)) (subst (λ o. is_wrong g.right (home_epoch d.next) y o ≡ false) k.1 wrong) in
        let n = and_parts (w.generation == k.0) (is_lost w.log (home_epoch d.next)) (sym (w.now k.0 (home_epoch d.next)) ∙ said) in
        let here : w.from ≡ d.next = sym w.answers.place ∙ a.0 in
        let is : b ≡ read_answer w.generation w.log w.released w.round w.from = w.lost (subst (λ z. is_lost w.log (home_epoch z) ≡ true) (sym here) n.1) in
        let round : w.round ≡ v.round = sym (answer_round w.generation w.log w.released w.round w.from) ∙ (ap round_of (sym is) ∙ r) in
        let now : b ≡ read_answer w.generation w.log w.released v.round d.next = is ∙ (ap (λ z. read_answer w.generation w.log w.released z w.from) round ∙ ap (λ z. read_answer w.generation w.log w.released v.round z) here) in
        let asked : find y v.asked ≡ Some w.generation = k.1 ∙ ap Some (sym (eqb-true w.generation k.0 n.0)) in
        let q = subst (λ (x : Body). is_newer (find y d.held) (round_of x) ≡ true → (confirms_loss v.asked y x ≡ true) ⊎ (gave_item (gives_all (most_items (heard d y x)) looks (nothing_read (heard d y x))).items ≡ true)) (sym now)
        (fair looks d y v w.generation w.released w.log e (K.apart v e).0 open_still asked n.1 (w.ends (home_epoch d.next))) in
        elim (q (is_newest v e t)) [
          | inl c ↦ absurd (not_both (confirms_loss v.asked y b) c l)
          | inr c ↦ (let none : loses looks (heard d y b) ≡ nothing_read (heard d y b) = (λ i. if is_confirmed (ended v e t l i) then gives (nothing_read (record (heard d y b) { seen = Some (look_of looks (heard d y b)) })) LossHere else nothing_read (heard d y b)) in
              subst (λ (x : Read). gave_item (gives_all (most_items (heard d y b)) looks x).items ≡ true) (sym none) c)
        ]
