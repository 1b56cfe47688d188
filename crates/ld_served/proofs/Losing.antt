-- A sequencer knows a lost node of each digest that is spent, and of each plan that says what is lost or is closed short.
use Rattle.std.proofs.Common.{◌≡◌, ◌∙◌, ◌⊎◌, ◌≤◌, ℕ, suc, ◌+◌, max, inl, inr, refl, ap, sym, subst, Bool, true, false, not, ◌&&◌, ◌||◌, ◌==◌, if◌then◌else◌, nat_lt, nat_le, filter, List, [], ◌∷◌, ◌++◌, length, map, Option, Some, None, arith, eq-eqb, le-leb, lt-ltb}
use Rattle.std.specs.List.{IsDistinct, AllByRecursion}
use Rattle.std.proofs.lemmas.Bool.{cases_Bool, and_parts, or_cases, or_left, or_right, not-true, eqb-true}
use Rattle.ld_table.specs.Named.{find_named, put_named}
use Rattle.ld_table.specs.Words.{is_in, with_one, how_many, all_of}
use Rattle.ld_ids.specs.Choice.{nodes_of}
use Rattle.ld_ids.specs.declared.set.Spec.{Spec}
use Rattle.ld_config.specs.declared.config.Config.{Config}
use Rattle.ld_config.specs.Bounds.{IsInBounds}
use Rattle.ld_msg.specs.declared.msg.Summary.{Summary}
use Rattle.ld_msg.specs.declared.msg.Msg.{Msg}
use Rattle.ld_msg.specs.declared.msg.Body.{Body}
use Rattle.ld_msg.specs.Digest.{Told, told_nothing, takes_page, told_page, with_page, told_lost, with_lost, asked_anew, with_asks, digest_lng, enough, is_spent, plan}
use Rattle.ld_msg.specs.Register.{Register, View, epochs_of, lce_of}
use Rattle.ld_msg.specs.Sequencer.{Sequencer, Recovery, Stage, Seals, Stores, Closes, Storing, Planned, Acts, recovery_of, recovery_lost, begun, next_try, is_ready, is_ready_short, activated, bare}
use Rattle.ld_op.specs.declared.op.Op.{Op}
use Rattle.ld_op.specs.Ticks.{Ticked, Cleans, Rebuilt, Asks, Nothing}
use Rattle.ld_machine.specs.Config.{looks_at}
use Rattle.ld_machine.specs.State.{State, Done, finish, node_at, with_node}
use Rattle.ld_machine.specs.Facts.{Happened}
use Rattle.ld_machine.specs.World.{World, In}
use Rattle.ld_machine.specs.Step as Step
use Rattle.ld_machine.specs.Calm.{Move}
use Rattle.ld_safety.proofs.Lists.{Some_inj, not_none, cond_both, In-map, all_in}
use Rattle.ld_safety.proofs.Members.{filter_in, members_apart}
use Rattle.ld_safety.proofs.Votes.{in_of}
use Rattle.ld_safety.proofs.Names.{named_cases}
use Rattle.ld_safety.proofs.Traces.{Keeps, beside_kept}
use Rattle.ld_safety.proofs.Events.{Cases, dispatch, refreshed}
use Rattle.ld_safety.proofs.Digesting as digesting
use Rattle.ld_safety.proofs.Specs.{SpecFine, each_fine}
use Rattle.ld_safety.proofs.AckedLines.{lines_kept}
use Rattle.ld_safety.proofs.SequencerSteps.{Acting, Retrying, Closing, Planning, Hearing, heard_page, heard_lost, Hearing_stored, heard_settled, heard_gone, is_closing, is_short, gone_of, replied, retried}
use Rattle.ld_served.proofs.Waits.{Lined}

-- ---- lists ----

some_of : {X : Type 0} (p : X → Bool) (xs : List X) → ((x : X) × In x xs × (p x ≡ true)) ⊎ ((x : X) → In x xs → p x ≡ false)
some_of p [] = inr (λ x i. absurd i)
some_of p (y ∷ xs) = elim (cases_Bool (p y)) [
  | inl t ↦ inl (y, inl refl, t)
  | inr t ↦ elim (some_of p xs) [
    | inl z ↦ inl (z.0, inr z.1, z.2)
    | inr z ↦ inr (λ x i. elim i [ inl e ↦ subst (λ v. p v ≡ false) (sym e) t | inr j ↦ z x j ])
  ]
]

none_all : {X : Type 0} (p : X → Bool) (xs : List X) → all_of p xs ≡ false → (x : X) × In x xs × (p x ≡ false)
none_all p [] h = absurd cc
none_all p (y ∷ xs) h = by_first (p y) refl (none_all p xs) h where
  by_first : (b : Bool) → p y ≡ b → (all_of p xs ≡ false → (x : _) × In x xs × (p x ≡ false)) → (b && all_of p xs) ≡ false → (x : _) × In x (y ∷ xs) × (p x ≡ false)
  by_first false t ih k = (y, inl refl, t)
  by_first true t ih k = let z = ih k in (z.0, inr z.1, z.2)

-- one less, without a number that is there
less_without : (n : ℕ) (ys : List ℕ) → In n ys → length (filter (λ z. not (z == n)) ys) + 1 ≤ length ys
less_without n [] i = absurd i
less_without n (y ∷ ys) i = by_same (y == n) refl (less_without n ys) i where
  most : (zs : List ℕ) → length (filter (λ z. not (z == n)) zs) ≤ length zs
  most [] = omega arith
  most (z ∷ zs) = cond_both (not (z == n)) (z ∷ filter (λ z. not (z == n)) zs) (filter (λ z. not (z == n)) zs) (λ k. length k ≤ suc (length zs)) (λ t. let m = most zs in omega arith) (λ t. let m = most zs in omega arith)

  by_same : (b : Bool) → (y == n) ≡ b → (In n ys → length (filter (λ z. not (z == n)) ys) + 1 ≤ length ys) → In n (y ∷ ys) → length (if not b then y ∷ filter (λ z. not (z == n)) ys else filter (λ z. not (z == n)) ys) + 1 ≤ suc (length ys)
  by_same true t ih j = let m = most ys in omega arith
  by_same false t ih (inl e) = absurd (let z : (y == n) ≡ true = eq-eqb y n (sym e) in let k : true ≡ false = sym z ∙ t in cc)
  by_same false t ih (inr j) = let m = ih j in omega arith

all_apart : (x : ℕ) (ns : List ℕ) (y : ℕ) → AllByRecursion (λ z. (x == z) ≡ false) ns → In y ns → (x == y) ≡ false
all_apart x [] y h i = absurd i
all_apart x (z ∷ ns) y h (inl e) = subst (λ v. (x == v) ≡ false) (sym e) h.0
all_apart x (z ∷ ns) y h (inr i) = all_apart x ns y h.1 i

-- numbers, none twice, that all stand in a list are no more than it has
pub fits_in : (ns ys : List ℕ) → IsDistinct ◌==◌ ns → ((y : ℕ) → In y ns → In y ys) → length ns ≤ length ys
unfolding IsDistinct
fits_in [] ys d h = omega arith
fits_in (n ∷ ns) ys d h =
    let m = less_without n ys (h n (inl refl)) in
    let k = fits_in ns (filter (λ z. not (z == n)) ys) d.1 (λ y i. filter_in (λ z. not (z == n)) y ys (h y (inr i)) (ap not (flipped n y (all_apart n ns y d.0 i)))) in omega arith where
      flipped : (a b : ℕ) → (a == b) ≡ false → (b == a) ≡ false
      flipped a b t = elim (cases_Bool (b == a)) [ inl u ↦ absurd (let z : (a == b) ≡ true = eq-eqb a b (sym (eqb-true b a u)) in let k : true ≡ false = sym z ∙ t in cc) | inr u ↦ u ]

one_end : (y : ℕ) (xs : List ℕ) → is_in y (xs ++ y ∷ []) ≡ true
one_end y [] = or_left (y == y) false (eq-eqb y y refl)
one_end y (x ∷ xs) = or_right (x == y) (is_in y (xs ++ y ∷ [])) (one_end y xs)

one_more : (y z : ℕ) (xs : List ℕ) → is_in z xs ≡ true → is_in z (xs ++ y ∷ []) ≡ true
one_more y z [] h = absurd cc
one_more y z (x ∷ xs) h = elim (or_cases (x == z) (is_in z xs) h) [ inl a ↦ or_left (x == z) (is_in z (xs ++ y ∷ [])) a | inr a ↦ or_right (x == z) (is_in z (xs ++ y ∷ [])) (one_more y z xs a) ]

pub one_there : (y : ℕ) (xs : List ℕ) → is_in y (with_one y xs) ≡ true
one_there y xs = cond_both (is_in y xs) xs (xs ++ y ∷ []) (λ l. is_in y l ≡ true) (λ t. t) (λ t. one_end y xs)

pub one_keeps : (y z : ℕ) (xs : List ℕ) → is_in z xs ≡ true → is_in z (with_one y xs) ≡ true
one_keeps y z xs h = cond_both (is_in y xs) xs (xs ++ y ∷ []) (λ l. is_in z l ≡ true) (λ t. h) (λ t. one_more y z xs h)

-- ---- a digest that is spent ----

-- where all are whole, and none is lost, it is enough
whole_count : (d : List Told) → all_of (λ (t : Told). t.whole || t.lost) d ≡ true → ((t : Told) → In t d → t.lost ≡ false) → how_many (λ (t : Told). t.whole && not t.lost) d ≡ length d
whole_count [] h n = refl
whole_count (t ∷ d) h n = by_flags t.whole t.lost (n t (inl refl)) (and_parts (t.whole || t.lost) (all_of (λ (x : Told). x.whole || x.lost) d) h).0 (whole_count d (and_parts (t.whole || t.lost) (all_of (λ (x : Told). x.whole || x.lost) d) h).1 (λ x i. n x (inr i))) where
  by_flags : (a b : Bool) → b ≡ false → (a || b) ≡ true → how_many (λ (x : Told). x.whole && not x.lost) d ≡ length d → (if a && not b then suc (how_many (λ (x : Told). x.whole && not x.lost) d) else how_many (λ (x : Told). x.whole && not x.lost) d) ≡ suc (length d)
  by_flags true false e k ih = ap suc ih
  by_flags true true e k ih = absurd cc
  by_flags false false e k ih = absurd cc
  by_flags false true e k ih = absurd cc

map_length : {X Y : Type 0} (f : X → Y) (xs : List X) → length (map f xs) ≡ length xs
map_length f [] = refl
map_length f (x ∷ xs) = ap suc (map_length f xs)

-- a digest of all nodes that is spent has a lost one
spent_some : (s : Spec) (d : List Told) → SpecFine s → map (λ (t : Told). t.node) d ≡ nodes_of s → is_spent s d ≡ true → (t : Told) × In t d × (t.lost ≡ true)
unfolding is_spent enough
spent_some s d F n h = elim (some_of (λ (t : Told). t.lost) d) [
  | inl z ↦ z
  | inr z ↦ absurd (
      let p = and_parts (all_of (λ (t : Told). t.whole || t.lost) d) _ h in
      let e : nat_lt (length (nodes_of s)) (s.r + how_many (λ (t : Told). t.whole && not t.lost) d) ≡ false = not-true _ p.1 in
      let w = whole_count d p.0 z in
      let l : length (nodes_of s) ≡ length d = ap length (sym n) ∙ map_length (λ (t : Told). t.node) d in
      let t : nat_lt (length (nodes_of s)) (s.r + how_many (λ (t : Told). t.whole && not t.lost) d) ≡ true = lt-ltb _ _ (let f = F.least in omega arith) in
      let k : true ≡ false = sym t ∙ e in cc)
]

-- ---- what a recovery knows ----

-- some node of its set has said that it is lost
abbrev pub SomeLost : Recovery → Type 0
SomeLost v = (y : ℕ) × In y (nodes_of v.spec) × (is_in y v.lost ≡ true)

abbrev pub StageLost : Recovery → Stage → Type 0
StageLost v (Seals d) = (t : Told) → In t d → t.lost ≡ true → is_in t.node v.lost ≡ true
StageLost v (Stores g) = g.loss ≡ true → SomeLost v
StageLost v (Closes y short) = short ≡ true → SomeLost v

abbrev pub KnowsLost : Sequencer → Type 0
KnowsLost q = (v : Recovery) → q.recovery ≡ Some v → StageLost v v.stage

pub in_map : (t : Told) (d : List Told) → In t d → In t.node (map (λ (x : Told). x.node) d)
in_map t [] i = absurd i
in_map t (u ∷ d) (inl e) = inl (ap (λ (x : Told). x.node) e)
in_map t (u ∷ d) (inr i) = inr (in_map t d i)

-- a digest that is spent shows one
pub spent_lost : (w : Recovery) (d : List Told) → SpecFine w.spec → map (λ (t : Told). t.node) d ≡ nodes_of w.spec → StageLost w (Seals d) → is_spent w.spec d ≡ true → SomeLost w
spent_lost w d F n h s = let t = spent_some w.spec d F n s in (t.0.node, subst (In t.0.node) n (in_map t.0 d t.1), h t.0 t.1 t.2)

begun_none : (w : View) → StageLost (begun w) (begun w).stage
begun_none w t i h = let z = In-map (told_nothing w.at) t (nodes_of w.spec) i in absurd (let k : t.lost ≡ false = ap (λ (x : Told). x.lost) z.2 in let u : true ≡ false = sym h ∙ k in cc)

begins : (looks : ℕ → View) (a : Sequencer) (lce : ℕ) (v : Recovery) → recovery_of looks a lce ≡ Some v → StageLost v v.stage
begins looks a lce v = cond_both (nat_lt (lce + 1) a.epoch) (Some (begun (looks (lce + 1)))) None (λ o. o ≡ Some v → StageLost v v.stage) (λ t h. subst (λ (x : Recovery). StageLost x x.stage) (Some_inj h) (begun_none (looks (lce + 1)))) (λ t h. absurd (not_none h))

-- a plan that is closed short, or says what is lost
pub short_some : (v : Recovery) (g : Storing) → SpecFine v.spec → (g.loss ≡ true → SomeLost v) → is_closing v g ≡ true → is_short v g ≡ true → SomeLost v
unfolding is_ready is_ready_short
short_some v g F L c s = by_loss g.loss refl c s where
  by_loss : (b : Bool) → g.loss ≡ b → ((not b && is_ready v.spec g) || is_ready_short v.spec v.lost g) ≡ true → not (not b && is_ready v.spec g) ≡ true → SomeLost v
  by_loss true e p q = L e
  by_loss false e p q =
      let no : is_ready v.spec g ≡ false = not-true (is_ready v.spec g) q in
      let few = none_all (λ (i : ℕ × Planned). nat_le v.spec.r (length i.1.settled)) g.items no in
      let short : is_ready_short v.spec v.lost g ≡ true = subst (λ b. (b || is_ready_short v.spec v.lost g) ≡ true) no p in
      let each : all_of (λ y. is_in y few.0.1.settled || is_in y v.lost) (nodes_of v.spec) ≡ true = all_in (λ (i : ℕ × Planned). all_of (λ y. is_in y i.1.settled || is_in y v.lost) (nodes_of v.spec)) few.0 g.items short few.1 in
      elim (some_of (λ y. is_in y v.lost) (nodes_of v.spec)) [
        | inl z ↦ z
        | inr z ↦ absurd (
            let all : (y : ℕ) → In y (nodes_of v.spec) → In y few.0.1.settled = λ y i. in_of y few.0.1.settled (elim (or_cases (is_in y few.0.1.settled) (is_in y v.lost) (all_in (λ x. is_in x few.0.1.settled || is_in x v.lost) y (nodes_of v.spec) each i)) [ inl a ↦ a | inr a ↦ absurd (let k : true ≡ false = sym a ∙ z y i in cc) ]) in
            let m = fits_in (nodes_of v.spec) few.0.1.settled (members_apart v.spec.set) all in
            let t : nat_le v.spec.r (length few.0.1.settled) ≡ true = le-leb _ _ (let f = F.most in omega arith) in
            let k : true ≡ false = sym t ∙ few.2 in cc)
      ]

-- ---- one call ----
module _ (c : Config) (r : Register) (q : Sequencer) (fine : (v : Recovery) → q.recovery ≡ Some v → SpecFine v.spec) (nodes : (v : Recovery) (d : List Told) → q.recovery ≡ Some v → v.stage ≡ Seals d → map (λ (t : Told). t.node) d ≡ nodes_of v.spec) (N : KnowsLost q) where
  -- a digest after a reply
  pub record Heard (w : Recovery) (d : List Told) : Type 0 where
    pub set : SpecFine w.spec
    pub all : map (λ (t : Told). t.node) d ≡ nodes_of w.spec
    pub lost : (t : Told) → In t d → t.lost ≡ true → is_in t.node w.lost ≡ true

  same_nodes : (f : Told → Told) → ((t : Told) → (f t).node ≡ t.node) → (d : List Told) → map (λ (t : Told). t.node) (map f d) ≡ map (λ (t : Told). t.node) d
  same_nodes f h [] = refl
  same_nodes f h (t ∷ d) = λ i. h t i ∷ same_nodes f h d i

  stage_is : (v : Recovery) (g : Stage) → q.recovery ≡ Some v → v.stage ≡ g → StageLost v g
  stage_is v g e k = subst (StageLost v) k (N v e)

  pub heard : (y : ℕ) (b : Body) (w : Recovery) (d : List Told) → Hearing q y b w d → Heard w d
  unfolding with_page with_lost
  heard y b w d (heard_page f from upto trim lng es e k i g t j) =
      let p : Told → Told = λ u. if takes_page y from u then told_page w.epoch (max (digest_lng f) lng) upto trim lng es u else u in
      subst (Heard w) (sym j) (record {
        set = fine w e;
        all = same_nodes p (λ u. cond_both (takes_page y from u) (told_page w.epoch (max (digest_lng f) lng) upto trim lng es u) u (λ x. x.node ≡ u.node) (λ h. refl) (λ h. refl)) f ∙ nodes w f e k;
        lost = λ u i h. (let z = In-map p u f i in
            subst (λ (x : Told). is_in x.node w.lost ≡ true) (sym z.2)
            (cond_both (takes_page y from z.0) (told_page w.epoch (max (digest_lng f) lng) upto trim lng es z.0) z.0 (λ x. x.lost ≡ true → is_in x.node w.lost ≡ true) (λ t l. stage_is w (Seals f) e k z.0 z.1 l) (λ t l. stage_is w (Seals f) e k z.0 z.1 l) (subst (λ (x : Told). x.lost ≡ true) z.2 h)));
      })
  heard y b w d (heard_lost v f n round generation end e k i g j z) = subst (λ (x : Recovery). Heard x d) (sym j) (subst (Heard (recovery_lost y v)) (sym z) (record {
    set = fine v e;
    all = same_nodes (told_lost y) (λ u. refl) f ∙ nodes v f e k;
    lost = λ u x h. (let a = In-map (told_lost y) u f x in
        subst (λ (m : Told). is_in m.node (with_one y v.lost) ≡ true) (sym a.2)
        (elim (cases_Bool (a.0.node == y)) [
          | inl t ↦ subst (λ m. is_in m (with_one y v.lost) ≡ true) (sym (eqb-true a.0.node y t)) (one_there y v.lost)
          | inr t ↦ one_keeps y a.0.node v.lost (stage_is v (Seals f) e k a.0 a.1 (ap (λ b. if b then true else a.0.lost) (sym t) ∙ (ap (λ (m : Told). m.lost) (sym a.2) ∙ h)))
        ]));
  }))

  pub stores_of : (y : ℕ) (b : Body) (w : Recovery) (g : Storing) → Hearing_stored q y b w g → SpecFine w.spec × (g.loss ≡ true → SomeLost w)
  stores_of y b w g (heard_settled f p e k s m j) = (fine w e, λ h. stage_is w (Stores f) e k (ap (λ (x : Storing). x.loss) (sym j) ∙ h))
  stores_of y b w g (heard_gone v n round generation end e k i h j) = subst (λ (x : Recovery). SpecFine x.spec × (g.loss ≡ true → SomeLost x)) (sym j) (fine v e, λ l. let z = stage_is v (Stores g) e k l in (z.0, z.1, one_keeps y z.0 v.lost z.2))

  -- a plan of a digest that is spent, or of one that is enough
  plan_some : (w : Recovery) (d : List Told) (loss : Bool) (look : View) → Heard w d → Planning look q w d loss → loss ≡ true → SomeLost w
  plan_some w d loss look h (inl z) l = absurd (let k : true ≡ false = sym l ∙ z.0 in cc)
  plan_some w d loss look h (inr z) l = spent_lost w d h.set h.all h.lost z.1.spent

  knows : (w : Recovery) (s : Stage) → StageLost w s → (v : Recovery) → Some (record w { stage = s }) ≡ Some v → StageLost v v.stage
  knows w s h v e = subst (λ (x : Recovery). StageLost x x.stage) (Some_inj e) (by_stage s h) where
    by_stage : (s : Stage) → StageLost w s → StageLost (record w { stage = s }) s
    by_stage (Seals d) k = k
    by_stage (Stores g) k = k
    by_stage (Closes y short) k = k

  close_knows : (a : Acts) (e : ℕ) (y : Summary) (short : Bool) → KnowsLost a.sequencer → Closing r (looks_at c r q.log) a e y short (λ k. KnowsLost k.acts.sequencer)
  close_knows a e y short nx = record {
    granted = λ n h o g v i. begins (looks_at c r q.log) a.sequencer e v i;
    passed = λ h. nx;
    behind = λ b h v i. begins (looks_at c r q.log) a.sequencer (lce_of r a.sequencer.log) v i;
    overtaken = λ h o. nx;
    failed = λ n g. nx;
  }

  acting_knows : (gone : Recovery → List ℕ) (y : ℕ) (b : Body) → Acting c r gone q y b (λ k m. KnowsLost k.acts.sequencer)
  unfolding plan
  acting_knows gone y b = record {
    quiet = N;
    sealed = λ n k f i l. N;
    cleaned_own = λ n s f i h. N;
    acks = λ n p f i g h m. N;
    lost_own = λ n round g end f i h. N;
    cleaned = λ v n s f e i h w k. begins (looks_at c r q.log) q v.epoch w k;
    asks_more = λ w d asks f H a n u v k. knows w (Seals d) (heard y b w d H).lost v k;
    plans = λ w d loss f H p v k. knows w _ (plan_some w d loss _ (heard y b w d H) p) v k;
    looks_closed = λ w d s f H u o v k. begins (looks_at c r q.log) q w.epoch v k;
    looks_later = λ w d f H u o n. N;
    stores_on = λ w g f H t v k. knows w (Stores g) (stores_of y b w g H).1 v k;
    closes_now = λ w g f H t. close_knows _ w.epoch _ _ (λ v k. knows w _ (short_some w g (stores_of y b w g H).0 (stores_of y b w g H).1 t) v k);
    lost_closing = λ v s short n round g end f e i h j w k. knows (recovery_lost y v) (Closes s short) (λ l. let z = stage_is v (Closes s short) e i l in (z.0, z.1, one_keeps y z.0 v.lost z.2)) w k;
  }

  anew : (v : Recovery) (d : List Told) → q.recovery ≡ Some v → v.stage ≡ Seals d → (t : Told) → In t (with_asks v.epoch d) → t.lost ≡ true → is_in t.node v.lost ≡ true
  unfolding with_asks
  anew v d e k t i h = let z = In-map (asked_anew v.epoch (digest_lng d)) t d i in subst (λ (x : Told). is_in x.node v.lost ≡ true) (sym z.2) (stage_is v (Seals d) e k z.0 z.1 (ap (λ (x : Told). x.lost) (sym z.2) ∙ h))

  retrying_knows : (gone : Recovery → List ℕ) → Retrying c r gone q (λ k m. KnowsLost k.acts.sequencer)
  unfolding plan
  retrying_knows gone = record {
    quiet = N;
    appends = λ f. N;
    seals = λ v d f e h u w k. knows v (Seals (with_asks v.epoch d)) (anew v d e h) w k;
    plans = λ v d f e h p w k. knows v _ (plan_some v d true _ (record { set = fine v e; all = nodes v d e h; lost = stage_is v (Seals d) e h }) (inr (refl, p))) w k;
    looks_closed = λ v d s f e h u o w k. begins (looks_at c r q.log) q v.epoch w k;
    looks_later = λ v d f e h u o n. N;
    stores_on = λ v g f e h t w k. knows v (Stores (next_try g)) (stage_is v (Stores g) e h) w k;
    closes_now = λ v g f e h t. close_knows _ v.epoch _ _ (λ w k. knows v _ (short_some v g (fine v e) (stage_is v (Stores g) e h) t) w k);
    closes = λ v y short f e h. close_knows _ v.epoch y short N;
  }

-- ---- every step ----

abbrev pub AllKnow : List (List ℕ × Sequencer) → Type 0
AllKnow qs = (name : List ℕ) (q : Sequencer) → find_named name qs ≡ Some q → KnowsLost q

put_knows : (name : List ℕ) (p : Sequencer) (qs : List (List ℕ × Sequencer)) → AllKnow qs → KnowsLost p → AllKnow (put_named name p qs)
put_knows name p qs a h t q f = elim (named_cases t name p qs) [ inl k ↦ subst KnowsLost (Some_inj (sym k.1 ∙ f)) h | inr k ↦ a t q (sym k.1 ∙ f) ]

module _ (c : Config) (s : State) (e : Move) (fine : (name : List ℕ) (q : Sequencer) → find_named name s.sequencers ≡ Some q → (v : Recovery) → q.recovery ≡ Some v → SpecFine v.spec)
    (nodes : (name : List ℕ) (q : Sequencer) → find_named name s.sequencers ≡ Some q → (v : Recovery) (d : List Told) → q.recovery ≡ Some v → v.stage ≡ Seals d → map (λ (t : Told). t.node) d ≡ nodes_of v.spec) (H : AllKnow s.sequencers) where
  abbrev Result : Done → Type 0
  Result d = AllKnow d.state.sequencers

  knows_cases : Cases c s e (λ d m. Result d)
  unfolding activated
  knows_cases = record {
    still = λ f older i. H;
    says = λ x q. H;
    node_hears = λ f older n m i t v o. handled f n m (Step.node_handles n (node_at s n) m).op (Step.node_handles n (node_at s n) m).answer;
    loads = λ n ls q b o. H;
    draw_fails = λ n b. H;
    formats = λ n r g b v i. H;
    ticks = λ n l t v i o. ticked n l t;
    stops = λ n b. H;
    wipes = λ n. H;
    faults = λ n f o. H;
    sets = λ l r x set g. H;
    swaps = λ n m l x r q i. H;
    arms = λ k done o. H;
    hears = λ f older name q m i t l v o. put_knows name _ s.sequencers H (replied c s name q v.there (Step.sender_node m.from) m.body (λ k n. KnowsLost k.acts.sequencer) (acting_knows c s.register q (fine name q v.named) (nodes name q v.named) (H name q v.named) (gone_of s q) (Step.sender_node m.from) m.body));
    retries = λ again name q v o. put_knows name _ s.sequencers H (retried c s q v.there (λ k n. KnowsLost k.acts.sequencer) (retrying_knows c s.register q (fine name q v.named) (nodes name q v.named) (H name q v.named) (gone_of s q)));
    appends = λ name q p v a i. put_knows name _ s.sequencers H (H name q v.named);
    trims = λ name q t v b. H;
    drops = λ name q v o. put_knows name (Step.dropped q) s.sequencers H (H name q v.named);
    activates = λ name l r g n i x. put_knows name _ s.sequencers H (λ v k. begins (looks_at c r l) (bare (Step.spec_set c s l) l (epochs_of r l).epoch (lce_of r l)) (lce_of r l) v k);
    activate_fails = λ name l x g q. H;
    answers = λ f older name d m i t v o. H;
    polls = λ name d v o. H;
    opens = λ style name l from until o x. H;
  } where
    handled : (f : List ℕ) (n : ℕ) (m : Msg) (o : Option Op) (b : Option Body) → Result (Step.handles (with_node (refreshed s f) n (Step.releases (node_at s n) m.log m.body)) n m o b)
    handled f n m None b = H
    handled f n m (Some o) b = H

    ticked : (n l : ℕ) (t : Ticked) → Result (Step.ticks_as c s n l t)
    ticked n l (Cleans k y) = H
    ticked n l Rebuilt = H
    ticked n l (Asks from) = H
    ticked n l Nothing = H

-- what is known of recoveries in every run
module _ (c : Config) (hs : List Happened) (w : World) (B : Lined c hs w) where
  recovers : (name : List ℕ) (q : Sequencer) → find_named name w.state.sequencers ≡ Some q → (v : Recovery) → q.recovery ≡ Some v → digesting.InRecovery c hs w.state.network.sent w.made w.state.register q.log q.epoch v
  recovers name q f v e = subst (digesting.RecoveryFine c hs w.state.network.sent w.made w.state.register q.log q.epoch) e (B.0.1.recoveries name q f)

  pub recovery_fine : (name : List ℕ) (q : Sequencer) → find_named name w.state.sequencers ≡ Some q → (v : Recovery) → q.recovery ≡ Some v → SpecFine v.spec
  recovery_fine name q f v e = let z = recovers name q f v e in let k = each_fine c w.state.register q.log v.epoch B.1.1.1 B.1.1.2 z.reached in record {
    least = subst (λ n. 1 ≤ n) (sym z.spec.factor) k.least;
    most = (let a = k.most in let b = z.spec.size in let x = z.spec.factor in omega arith);
  }

  pub digest_nodes : (name : List ℕ) (q : Sequencer) → find_named name w.state.sequencers ≡ Some q → (v : Recovery) (d : List Told) → q.recovery ≡ Some v → v.stage ≡ Seals d → map (λ (t : Told). t.node) d ≡ nodes_of v.spec
  digest_nodes name q f v d e k = (subst (digesting.StageFine c hs w.state.network.sent w.made w.state.register v.spec q.log q.epoch v.epoch) k (recovers name q f v e).stage).nodes

-- in every run
pub knows_kept : (c : Config) → IsInBounds c → Keeps c (λ hs w. Lined c hs w × AllKnow w.state.sequencers)
unfolding finish find_named
knows_kept c b = beside_kept c (Lined c) (λ hs w. AllKnow w.state.sequencers) (lines_kept c b) (λ name q f. absurd (not_none f))
    (λ hs w e B n h. dispatch c w.state e (λ d m. AllKnow (finish d).state.sequencers) B.0.0.0.0.0 (knows_cases c w.state e (recovery_fine c hs w B) (digest_nodes c hs w B) h))
