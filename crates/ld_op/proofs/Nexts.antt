-- A walk over the clean epochs that were lost.
use Rattle.std.proofs.Common.{◌≡◌, ◌≤◌, ◌<◌, ◌+◌, inl, inr, ℕ, Bool, true, false, nat_lt, nat_cmp, Less, is_none, is_some, IfSome, IfNone, List, [], ◌∷◌, Option, Some, None, refl, ap, sym, ◌∙◌, subst, cond, if◌then◌else◌, arith}
use Rattle.std.specs.List.{AllByRecursion}
use Rattle.std.specs.List.Sorted.{IsStrictlySortedBy}
use Rattle.std.specs.Map as map
use Rattle.std.proofs.lemmas.Bool.{eq-eqb, ne_eqb}
use Rattle.std.proofs.lemmas.Bool.Decides.{nat_tests}
use Rattle.ld_table.specs.Table.{find, first_from, Ordered}
use Rattle.ld_table.proofs.Laws.{find-empty, tied}
use Rattle.ld_lsn.specs.Number.{numbered, epoch_of}
use Rattle.ld_msg.specs.declared.msg.Entry.{Entry}
use Rattle.ld_msg.specs.declared.msg.Summary.{Summary}
use Rattle.ld_op.specs.Plain.{Log}
use Rattle.ld_op.specs.Whole.{Lacks, IsWhole, HasAll, IsLowest, IsNext, IsLast, EndInEpochs, IsFirstIn, HaveEntries}
use Rattle.ld_table.specs.Words.{first}
use Rattle.ld_op.specs.Ticks.{missing}
use Rattle.ld_op.proofs.Firsts.{above_it, lowest_is}
use Rattle.ld_op.proofs.Wholes.{order}

-- ---- the first from one on ----

module _ {X : Type 0} where
  other : (q : ℕ) (e : ℕ × X) (m : List (ℕ × X)) → (q ≡ e.0 → ⊥) → find q (e ∷ m) ≡ find q m
  unfolding find
  other q e m h = ap (λ b. cond b (Some e.1) (find q m)) (tied q e.0 ∙ ne_eqb q e.0 h)

  same : (e : ℕ × X) (m : List (ℕ × X)) → find e.0 (e ∷ m) ≡ Some e.1
  unfolding find
  same e m = ap (λ b. cond b (Some e.1) (find e.0 m)) (tied e.0 e.0 ∙ eq-eqb e.0 e.0 refl)

  not_above : (x q : ℕ) (m : List (ℕ × X)) → AllByRecursion (λ y. nat_cmp x y ≡ Less) (map.keys_of m) → q ≤ x → find q m ≡ None
  not_above x q m a l = elim (find q m) as (λ o. find q m ≡ o → o ≡ None) [
    | None ↦ λ h. refl
    | Some v ↦ λ h. absurd (let z = above_it x q m v a h in omega arith)
  ] refl

  -- what a walk from a key on finds
  pub record IsFound (k : ℕ) (m : List (ℕ × X)) (e : ℕ × X) : Type 0 where
    pub above : k ≤ e.0
    pub here : find e.0 m ≡ Some e.1
    pub none : (q : ℕ) → k ≤ q → q < e.0 → find q m ≡ None

  step : (k : ℕ) (f : ℕ × X) (m : List (ℕ × X)) (e : ℕ × X) (b : Bool) → nat_lt f.0 k ≡ b → AllByRecursion (λ y. nat_cmp f.0 y ≡ Less) (map.keys_of m) → (first_from k m ≡ Some e → IsFound k m e) → (if b then first_from k m else Some f) ≡ Some e → IsFound k (f ∷ m) e
  step k f m e true t a ih h =
      let i = ih h in
      let l : f.0 < k = grind (arith, nat_tests) in
      record {
        above = i.above;
        here = other e.0 f m (λ s. let j = i.above in omega arith) ∙ i.here;
        none = λ q n o. other q f m (λ s. omega arith) ∙ i.none q n o;
      }
  step k f m e false t a ih h =
      let s : f ≡ e = cc in
      let l : k ≤ f.0 = grind (arith, nat_tests) in
      subst (λ x. IsFound k (f ∷ m) x) s (record {
        above = l;
        here = same f m;
        none = λ q n o. other q f m (λ s. omega arith) ∙ not_above f.0 q m a (omega arith);
      })

  pub found_from : (k : ℕ) (m : List (ℕ × X)) (e : ℕ × X) → Ordered m → first_from k m ≡ Some e → IsFound k m e
  unfolding first_from IsStrictlySortedBy
  found_from k [] e o h = absurd cc
  found_from k (f ∷ m) e o h = step k f m e (nat_lt f.0 k) refl o.0 (λ g. found_from k m e o.1 g) h

  none_step : (k q : ℕ) (f : ℕ × X) (m : List (ℕ × X)) (b : Bool) → nat_lt f.0 k ≡ b → k ≤ q → (first_from k m ≡ None → find q m ≡ None) → (if b then first_from k m else Some f) ≡ None → find q (f ∷ m) ≡ None
  none_step k q f m true t l ih h = let i : f.0 < k = grind (arith, nat_tests) in other q f m (λ s. omega arith) ∙ ih h
  none_step k q f m false t l ih h = absurd cc

  pub none_from : (k q : ℕ) (m : List (ℕ × X)) → first_from k m ≡ None → k ≤ q → find q m ≡ None
  unfolding first_from
  none_from k q [] h l = find-empty q
  none_from k q (f ∷ m) h l = none_step k q f m (nat_lt f.0 k) refl l (λ g. none_from k q m g l) h

pub next_of : (g : Log) (from : ℕ) (s : ℕ × Summary) → Ordered g.summaries → first_from from g.summaries ≡ Some s → s.0 ≤ g.lost_to → IsNext g from s
next_of g from s o h l = let f = found_from from g.summaries s o h in record { above = f.above; lost = l; clean = f.here; none = f.none }

pub last_of : (g : Log) (from : ℕ) (s : ℕ × Summary) → Ordered g.summaries → first_from from g.summaries ≡ Some s → g.lost_to < s.0 → IsLast g from
last_of g from s o h l = let f = found_from from g.summaries s o h in λ epoch n m. f.none epoch n (omega arith)

pub last_none : (g : Log) (from : ℕ) → first_from from g.summaries ≡ None → IsLast g from
last_none g from h = λ epoch n m. none_from from epoch g.summaries h n

-- ---- up to where nothing is missing ----

-- no epoch below that of a number lacks one from it on
before : (g : Log) (from k : ℕ) (z : Summary) (n : ℕ) → EndInEpochs g → find k g.summaries ≡ Some z → Lacks g k z n → from ≤ n → epoch_of from ≤ k
before g from k z n e c l m = let i = e k z c in let j = l.1.1.1.0 in omega arith

absent : (o : Option Summary) (z : Summary) → o ≡ None → o ≡ Some z → ⊥
absent o z h i = let j = sym h ∙ i in cc

entered : (o : Option Entry) → is_none o ≡ false → o ≡ None → ⊥
entered o h i = let j = sym (ap is_none i) ∙ h in cc

-- the epochs from the walked one on
behind : (g : Log) (from e : ℕ) (y : Summary) (k : ℕ) (z : Summary) (n : ℕ) → EndInEpochs g → IsWhole g from → IsNext g (epoch_of from) (e, y) → find k g.summaries ≡ Some z → Lacks g k z n → e ≤ k
behind g from e y k z n i w s c l =
    let b = before g from k z n i c l (w k z n c l) in
    elim (order k e) [
      | inl m ↦ absurd (absent (find k g.summaries) z (s.none k b m) c)
      | inr m ↦ m
    ]

one_summary : (g : Log) (e k : ℕ) (y z : Summary) → find e g.summaries ≡ Some y → find k g.summaries ≡ Some z → k ≡ e → z ≡ y
one_summary g e k y z h i s = let j = sym (ap (λ q. find q g.summaries) s) ∙ i in let m = sym h ∙ j in cc

lacks_there : (g : Log) (from e : ℕ) (y : Summary) (k : ℕ) (z : Summary) (n below : ℕ) → find e g.summaries ≡ Some y → find k g.summaries ≡ Some z → k ≡ e → Lacks g k z n → from ≤ n → HaveEntries g from e below → below ≤ n
lacks_there g from e y k z n below h i s l m a = elim (order n below) [
  | inl b ↦ absurd (entered (find n g.entries) (a n m (let f = l.1.0 in omega arith) l.1.1.0 b) l.1.1.1.1)
  | inr b ↦ b
]

pub whole_behind : (g : Log) (from e : ℕ) (y : Summary) → EndInEpochs g → IsWhole g from → IsNext g (epoch_of from) (e, y) → HaveEntries g from e (numbered e y.end) → IsWhole g (numbered (e + 1) 0)
whole_behind g from e y i w s a = λ k z n c l.
    let b = behind g from e y k z n i w s c l in
    elim (order e k) [
      | inl m ↦ let f = l.1.0 in omega arith
      | inr m ↦
          let t : k ≡ e = omega arith in
          let r = lacks_there g from e y k z n (numbered e y.end) s.clean c t l (w k z n c l) a in
          let u = ap (λ (x : Summary). x.end) (one_summary g e k y z s.clean c t) in
          let d = l.1.1.1.0 in
          absurd (omega arith)
    ]

pub lowest_here : (g : Log) (from e : ℕ) (y : Summary) (n : ℕ) → EndInEpochs g → IsWhole g from → IsNext g (epoch_of from) (e, y) → IsFirstIn g from e y n → IsLowest g n
lowest_here g from e y n i w s f = record {
  epoch = e;
  summary = y;
  clean = s.clean;
  lacks = (s.lost, (f.first, (f.above, (f.below, f.none))));
  whole = λ k z m c l.
      let b = behind g from e y k z m i w s c l in
      elim (order e k) [
        | inl o ↦ let d = i e y s.clean in let p = f.below in let q = l.1.0 in omega arith
        | inr o ↦ let t : k ≡ e = omega arith in lacks_there g from e y k z m n s.clean c t l (w k z m c l) f.entries
      ];
}

pub all_there : (g : Log) (from : ℕ) → EndInEpochs g → IsWhole g from → IsLast g (epoch_of from) → HasAll g
all_there g from i w s = λ k z n c l. absent (find k g.summaries) z (s k (before g from k z n i c l (w k z n c l)) l.0) c

pub all_up_to : (g : Log) (e : ℕ) → EndInEpochs g → IsWhole g (numbered (e + 1) 0) → g.lost_to ≡ e → HasAll g
all_up_to g e i w s = λ k z n c l. let a = w k z n c l in let b = i k z c in let d = l.1.1.1.0 in let f = l.0 in omega arith

-- ---- what the walk answers ----

pub first_is : (g : Log) (from e : ℕ) (y : Summary) (o : Option ℕ) → Ordered g.summaries → EndInEpochs g → IsWhole g from → IsNext g (epoch_of from) (e, y) → IfSome o (λ n. IsFirstIn g from e y n) → is_some o ≡ true → o ≡ first (missing g)
first_is g from e y None r i w s f h = absurd cc
first_is g from e y (Some n) r i w s f h = sym (lowest_is g n r (lowest_here g from e y n i w s f))

pub first_whole : (g : Log) (from e : ℕ) (y : Summary) (o : Option ℕ) → EndInEpochs g → IsWhole g from → IsNext g (epoch_of from) (e, y) → IfSome o (λ n. IsFirstIn g from e y n) → IfSome o (λ n. IsWhole g n)
first_whole g from e y None i w s f = tt
first_whole g from e y (Some n) i w s f = (lowest_here g from e y n i w s f).whole

pub none_of : {P : Type 0} (o : Option ℕ) → IfNone o P → is_some o ≡ false → P
none_of None p h = p
none_of (Some n) p h = absurd cc

pub next_at : (g : Log) (k from : ℕ) (s : ℕ × Summary) → k ≡ epoch_of from → IsNext g k s → IsNext g (epoch_of from) s
next_at g k from s e n = subst (λ q. IsNext g q s) e n
