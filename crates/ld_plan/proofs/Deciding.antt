-- What the claims decide, the greatest ballot first.
use Rattle.std.proofs.Common.{◌≡◌, ◌⊎◌, ℕ, ◌<◌, ◌≤◌, max, List, [], ◌∷◌, Option, Some, None, is_some, Bool, true, false, not, refl, ap, sym, ◌∙◌, subst, arith, nat_lt, inl, inr}
use Rattle.std.specs.Prelude.{◌&&◌, ◌||◌, if◌then◌else◌}
use Rattle.std.proofs.lemmas.Bool.{cases_Bool, cases_eq, cases_lt, eq-eqb, ne_eqb}
use Rattle.std.proofs.lemmas.Bool.Decides.{nat_tests}
use Rattle.ld_table.specs.Table.{find, put}
use Rattle.ld_table.specs.Words.{or_else}
use Rattle.ld_table.proofs.Laws.{find-put_same, find-put_other, find-empty}
use Rattle.ld_lsn.specs.Number.{esn_of}
use Rattle.ld_msg.specs.declared.msg.What.{What}
use Rattle.ld_msg.specs.declared.msg.What.TheVariants.{Rec, Hole, Bridge, Plug, Withheld}
use Rattle.ld_msg.specs.declared.msg.Entry.{Entry}
use Rattle.ld_msg.specs.Digest.{says, is_bridge, no_record, content, record_or, is_content}
use Rattle.ld_plan.specs.Claims.{last_for, Decided, is_bridged, is_decided, claimed, decided_by}

pub a_bridge : (w : What) → is_bridge w ≡ true → w ≡ Bridge
a_bridge (Rec p) e = absurd cc
a_bridge Hole e = absurd cc
a_bridge Bridge e = refl
a_bridge Plug e = absurd cc
a_bridge Withheld e = absurd cc

-- ---- what one claim says ----

pub says_own : (s : ℕ) (e : Entry) → s ≡ e.number → says s e ≡ Some e
says_own s e h = ap (λ b. if b then Some e else if is_bridge e.what && nat_lt e.number s then Some e else None) (eq-eqb e.number s (sym h))

says_other : (s : ℕ) (e : Entry) → (s ≡ e.number → ⊥) → says s e ≡ (if is_bridge e.what && nat_lt e.number s then Some e else None)
says_other s e n = ap (λ b. if b then Some e else if is_bridge e.what && nat_lt e.number s then Some e else None) (ne_eqb e.number s (λ h. n (sym h)))

says_above : (s : ℕ) (e : Entry) → (s ≡ e.number → ⊥) → (is_bridge e.what && nat_lt e.number s) ≡ true → says s e ≡ Some e
says_above s e n h = says_other s e n ∙ ap (λ b. if b then Some e else None) h

says_none : (s : ℕ) (e : Entry) → (s ≡ e.number → ⊥) → (is_bridge e.what && nat_lt e.number s) ≡ false → says s e ≡ None
says_none s e n h = says_other s e n ∙ ap (λ b. if b then Some e else None) h

-- ---- what is decided ----

-- each number is decided where a claim speaks of it, and as the last such claim says
pub record Decides (es : List Entry) : Type 0 where
  pub decided : (s : ℕ) → is_decided s (decided_by es) ≡ is_some (last_for s es)
  pub content : (loss : Bool) (s : ℕ) → content loss (find s (decided_by es).entries) ≡ content loss (last_for s es)

-- the same of one number and of any state
record DecidesOne (s : ℕ) (c : Decided) (o : Option Entry) : Type 0 where
  decided : is_decided s c ≡ is_some o
  content : (loss : Bool) → content loss (find s c.entries) ≡ content loss o

there : (s : ℕ) (c : Decided) (o : Option Entry) → DecidesOne s c o → is_decided s c ≡ true → (x : Entry) × (o ≡ Some x)
there s c None d h = absurd (let t : true ≡ false = sym h ∙ d.decided in cc)
there s c (Some x) d h = (x, refl)

absent : (s : ℕ) (c : Decided) (o : Option Entry) → DecidesOne s c o → is_decided s c ≡ false → o ≡ None
absent s c None d h = refl
absent s c (Some x) d h = absurd (let t : false ≡ true = sym h ∙ d.decided in cc)

-- ---- the parts of a state with a claim more ----

off : (a b : Bool) → b ≡ true → (a && not b) ≡ false
off true b h = ap not h
off false b h = refl

on : (a b : Bool) → a ≡ true → b ≡ false → (a && not b) ≡ true
on a b h k = ap (λ x. x && not b) h ∙ ap not k

first_of : (a b : Bool) → (a && b) ≡ true → a ≡ true
first_of true b h = refl
first_of false b h = absurd cc

second_of : (a b : Bool) → (a && b) ≡ true → b ≡ true
second_of true b h = h
second_of false b h = absurd cc

second_not : (a b : Bool) → (a && not b) ≡ true → b ≡ false
second_not true true h = absurd cc
second_not true false h = refl
second_not false b h = absurd cc

neither_first : (a b : Bool) → (a || b) ≡ false → a ≡ false
neither_first true b h = absurd cc
neither_first false b h = refl

neither_second : (a b : Bool) → (a || b) ≡ false → b ≡ false
neither_second true b h = absurd cc
neither_second false b h = h

not_bridge : (e : Entry) → is_content (Some e) ≡ true → is_bridge e.what ≡ false
not_bridge e h = elim (is_bridge e.what) as (λ b. not b ≡ true → b ≡ false) [ true ↦ λ k. absurd cc | false ↦ λ k. refl ] h

by_left : (a b : Bool) → (a || b) ≡ true → b ≡ false → a ≡ true
by_left true b h k = refl
by_left false b h k = absurd (let t : true ≡ false = sym h ∙ k in cc)

kept_entries : (e : Entry) (c : Decided) → is_decided e.number c ≡ true → (claimed e c).entries ≡ c.entries
kept_entries e c h = ap (λ t. if t then c.entries else put e.number e c.entries) h

new_entries : (e : Entry) (c : Decided) → is_decided e.number c ≡ false → (claimed e c).entries ≡ put e.number e c.entries
new_entries e c h = ap (λ t. if t then c.entries else put e.number e c.entries) h

kept_bridge : (e : Entry) (c : Decided) → (is_bridge e.what && not (is_bridged e.number c.bridge)) ≡ false → (claimed e c).bridge ≡ c.bridge
kept_bridge e c h = ap (λ t. if t then Some e.number else c.bridge) h

new_bridge : (e : Entry) (c : Decided) → (is_bridge e.what && not (is_bridged e.number c.bridge)) ≡ true → (claimed e c).bridge ≡ Some e.number
new_bridge e c h = ap (λ t. if t then Some e.number else c.bridge) h

same_find : (s : ℕ) (e : Entry) (c : Decided) → (s ≡ e.number → ⊥) → find s (claimed e c).entries ≡ find s c.entries
same_find s e c n = elim (cases_Bool (is_decided e.number c)) [
  | inl d ↦ ap (find s) (kept_entries e c d)
  | inr d ↦ ap (find s) (new_entries e c d) ∙ find-put_other s e.number e c.entries n
]

bridged_up : (n s : ℕ) (g : Option ℕ) → is_bridged n g ≡ true → n < s → is_bridged s g ≡ true
bridged_up n s None h lt = h
bridged_up n s (Some b) h lt = grind (arith, nat_tests)

bridged_down : (n s : ℕ) (g : Option ℕ) → is_bridged n g ≡ false → s ≤ n → is_bridged s g ≡ false
bridged_down n s None h le = refl
bridged_down n s (Some b) h le = grind (arith, nat_tests)

or_true : (a b : Bool) → b ≡ true → (a || b) ≡ true
or_true true b h = refl
or_true false b h = h

-- ---- the number itself ----

own_decided : (e : Entry) (c : Decided) → is_decided e.number c ≡ true → is_decided e.number (claimed e c) ≡ true
own_decided e c h = elim (cases_Bool (is_bridged e.number c.bridge)) [
  | inl b ↦ or_true (is_some (find e.number (claimed e c).entries)) (is_bridged e.number (claimed e c).bridge) (ap (is_bridged e.number) (kept_bridge e c (off (is_bridge e.what) (is_bridged e.number c.bridge) b)) ∙ b)
  | inr b ↦
      ap (λ m. is_some (find e.number m) || is_bridged e.number (claimed e c).bridge) (kept_entries e c h)
      ∙ ap (λ t. t || is_bridged e.number (claimed e c).bridge) (by_left (is_some (find e.number c.entries)) (is_bridged e.number c.bridge) h b)
]

own_one : (e : Entry) (c : Decided) (o : Option Entry) → DecidesOne e.number c o → DecidesOne e.number (claimed e c) (or_else o (says e.number e))
own_one e c o d = elim (cases_Bool (is_decided e.number c)) [
  | inl h ↦
      let x = there e.number c o d h in
      let last : or_else o (says e.number e) ≡ Some x.0 = ap (λ p. or_else p (says e.number e)) x.1 in
      record {
        decided = own_decided e c h ∙ sym (ap is_some last);
        content = λ loss. ap (λ m. content loss (find e.number m)) (kept_entries e c h) ∙ (d.content loss ∙ (ap (content loss) x.1 ∙ sym (ap (content loss) last)));
      }
  | inr h ↦
      let none = absent e.number c o d h in
      let last : or_else o (says e.number e) ≡ Some e = ap (λ p. or_else p (says e.number e)) none ∙ says_own e.number e refl in
      let found : find e.number (claimed e c).entries ≡ Some e = ap (find e.number) (new_entries e c h) ∙ find-put_same e.number e.number e c.entries refl in
      record {
        decided = ap (λ p. is_some p || is_bridged e.number (claimed e c).bridge) found ∙ sym (ap is_some last);
        content = λ loss. ap (content loss) found ∙ sym (ap (content loss) last);
      }
]

-- ---- the other numbers ----

above_decided : (s : ℕ) (e : Entry) (c : Decided) → is_bridge e.what ≡ true → e.number < s → is_bridged s (claimed e c).bridge ≡ true
above_decided s e c h lt = elim (cases_Bool (is_bridged e.number c.bridge)) [
  | inl b ↦ ap (is_bridged s) (kept_bridge e c (off (is_bridge e.what) (is_bridged e.number c.bridge) b)) ∙ bridged_up e.number s c.bridge b lt
  | inr b ↦ ap (is_bridged s) (new_bridge e c (on (is_bridge e.what) (is_bridged e.number c.bridge) h b)) ∙ grind (arith, nat_tests)
]

below_same : (s : ℕ) (e : Entry) (c : Decided) → (is_bridge e.what && nat_lt e.number s) ≡ false → is_bridged s (claimed e c).bridge ≡ is_bridged s c.bridge
below_same s e c h = elim (cases_Bool (is_bridge e.what && not (is_bridged e.number c.bridge))) [
  | inr k ↦ ap (is_bridged s) (kept_bridge e c k)
  | inl k ↦
      let br : is_bridge e.what ≡ true = first_of (is_bridge e.what) (not (is_bridged e.number c.bridge)) k in
      let nb : is_bridged e.number c.bridge ≡ false = second_not (is_bridge e.what) (is_bridged e.number c.bridge) k in
      let lt : nat_lt e.number s ≡ false = sym (ap (λ t. t && nat_lt e.number s) br) ∙ h in
      ap (is_bridged s) (new_bridge e c k) ∙ (lt ∙ sym (bridged_down e.number s c.bridge nb (grind (arith, nat_tests))))
]

content_bridge : (loss : Bool) (e : Entry) → is_bridge e.what ≡ true → content loss (Some e) ≡ no_record loss
content_bridge loss e h = ap (record_or (no_record loss)) (a_bridge e.what h)

with_bridge : (loss : Bool) (e : Entry) (o : Option Entry) → is_bridge e.what ≡ true → content loss o ≡ content loss (or_else o (Some e))
with_bridge loss e None h = sym (content_bridge loss e h)
with_bridge loss e (Some x) h = refl

or_nothing : (o : Option Entry) → or_else o None ≡ o
or_nothing None = refl
or_nothing (Some x) = refl

is_some_or : (o : Option Entry) (e : Entry) → is_some (or_else o (Some e)) ≡ true
is_some_or None e = refl
is_some_or (Some x) e = refl

other_one : (s : ℕ) (e : Entry) (c : Decided) (o : Option Entry) → (s ≡ e.number → ⊥) → DecidesOne s c o → DecidesOne s (claimed e c) (or_else o (says s e))
other_one s e c o n d = elim (cases_Bool (is_bridge e.what && nat_lt e.number s)) [
  | inl a ↦
      let br : is_bridge e.what ≡ true = first_of (is_bridge e.what) (nat_lt e.number s) a in
      let lt : e.number < s = (let t : nat_lt e.number s ≡ true = second_of (is_bridge e.what) (nat_lt e.number s) a in grind (arith, nat_tests)) in
      let last = ap (or_else o) (says_above s e n a) in
      record {
        decided = or_true (is_some (find s (claimed e c).entries)) (is_bridged s (claimed e c).bridge) (above_decided s e c br lt) ∙ sym (ap is_some last ∙ is_some_or o e);
        content = λ loss. ap (content loss) (same_find s e c n) ∙ (d.content loss ∙ (with_bridge loss e o br ∙ sym (ap (content loss) last)));
      }
  | inr a ↦
      let last = ap (or_else o) (says_none s e n a) ∙ or_nothing o in
      record {
        decided = ap (λ p. is_some p || is_bridged s (claimed e c).bridge) (same_find s e c n) ∙ (ap (λ t. is_some (find s c.entries) || t) (below_same s e c a) ∙ (d.decided ∙ sym (ap is_some last)));
        content = λ loss. ap (content loss) (same_find s e c n) ∙ (d.content loss ∙ sym (ap (content loss) last));
      }
]

one_more : (s : ℕ) (e : Entry) (c : Decided) (o : Option Entry) → DecidesOne s c o → DecidesOne s (claimed e c) (or_else o (says s e))
one_more s e c o d = elim (cases_eq s e.number) [
  | inl same ↦ subst (λ n. DecidesOne n (claimed e c) (or_else o (says n e))) (sym same) (own_one e c o (subst (λ n. DecidesOne n c o) same d))
  | inr other ↦ other_one s e c o other d
]

decides_one : (s : ℕ) (es : List Entry) → DecidesOne s (decided_by es) (last_for s es)
unfolding decided_by last_for
decides_one s [] = record { decided = ap (λ p. is_some p || false) (find-empty {X = Entry} s); content = λ loss. ap (content loss) (find-empty {X = Entry} s) }
decides_one s (e ∷ es) = one_more s e (decided_by es) (last_for s es) (decides_one s es)

pub decides : (es : List Entry) → Decides es
decides es = record { decided = λ s. (decides_one s es).decided; content = λ loss s. (decides_one s es).content loss }

-- ---- the greatest place ----

-- a number is the greatest offset of a record, a hole or a plug
pub record IsTop (f : ℕ → Option Entry) (top : ℕ) : Type 0 where
  pub bounds : (s : ℕ) → is_content (f s) ≡ true → esn_of s ≤ top
  pub reached : (top ≡ 0) ⊎ ((s : ℕ) × (esn_of s ≡ top) × (is_content (f s) ≡ true))

below_top : (f : ℕ → Option Entry) (a b : ℕ) → IsTop f a → IsTop f b → a ≤ b
below_top f a b h k = elim h.reached [
  | inl zero_a ↦ omega arith
  | inr w ↦ omega (arith, k.bounds w.0 w.2, w.1)
]

pub one_top : (f : ℕ → Option Entry) (a b : ℕ) → IsTop f a → IsTop f b → a ≡ b
one_top f a b h k = omega (arith, below_top f a b h k, below_top f b a k h)

kept_top : (e : Entry) (c : Decided) → (is_bridge e.what || is_decided e.number c) ≡ true → (claimed e c).top ≡ c.top
kept_top e c h = ap (λ t. if t then c.top else max c.top (esn_of e.number)) h

new_top : (e : Entry) (c : Decided) → (is_bridge e.what || is_decided e.number c) ≡ false → (claimed e c).top ≡ max c.top (esn_of e.number)
new_top e c h = ap (λ t. if t then c.top else max c.top (esn_of e.number)) h

rises : (e : Entry) (c : Decided) → c.top ≤ (claimed e c).top
rises e c = elim (cases_Bool (is_bridge e.what || is_decided e.number c)) [
  | inl h ↦ omega (arith, kept_top e c h)
  | inr h ↦ omega (arith, new_top e c h)
]

-- what is content stays so
stays : (s : ℕ) (e : Entry) (o : Option Entry) → is_content o ≡ true → is_content (or_else o (says s e)) ≡ true
stays s e None h = absurd cc
stays s e (Some x) h = h

pub content_own : (s : ℕ) (e : Entry) → is_content (says s e) ≡ true → (s ≡ e.number) × (is_bridge e.what ≡ false)
content_own s e h = elim (cases_eq s e.number) [
  | inl same ↦ (same, not_bridge e (ap is_content (sym (says_own s e same)) ∙ h))
  | inr other ↦ elim (cases_Bool (is_bridge e.what && nat_lt e.number s)) [
    | inl a ↦
        let no : not (is_bridge e.what) ≡ true = ap is_content (sym (says_above s e other a)) ∙ h in
        let br = first_of (is_bridge e.what) (nat_lt e.number s) a in
        absurd (let t : false ≡ true = sym (ap not br) ∙ no in cc)
    | inr a ↦ absurd (let t : false ≡ true = ap is_content (sym (says_none s e other a)) ∙ h in cc)
  ]
]

top_bounds : (s : ℕ) (e : Entry) (c : Decided) (o : Option Entry) → DecidesOne s c o → (is_content o ≡ true → esn_of s ≤ c.top) → is_content (or_else o (says s e)) ≡ true → esn_of s ≤ (claimed e c).top
top_bounds s e c (Some x) d k h = omega (arith, k h, rises e c)
top_bounds s e c None d k h =
    let own = content_own s e h in
    let free : is_decided e.number c ≡ false = ap (λ n. is_decided n c) (sym own.0) ∙ d.decided in
    let t = new_top e c (ap (λ b. b || is_decided e.number c) own.1 ∙ free) in
    omega (arith, t, ap esn_of own.0)

top_step : (es : List Entry) (e : Entry) (c : Decided) → ((s : ℕ) → DecidesOne s c (last_for s es)) → IsTop (λ s. last_for s es) c.top → IsTop (λ s. or_else (last_for s es) (says s e)) (claimed e c).top
top_step es e c d t = record {
  bounds = λ s h. top_bounds s e c (last_for s es) (d s) (t.bounds s) h;
  reached = elim (cases_Bool (is_bridge e.what || is_decided e.number c)) [
    | inl k ↦ elim t.reached [
      | inl z ↦ inl (kept_top e c k ∙ z)
      | inr w ↦ inr (w.0, w.1 ∙ sym (kept_top e c k), stays w.0 e (last_for w.0 es) w.2)
    ]
    | inr k ↦ elim (cases_lt c.top (esn_of e.number)) [
      | inl up ↦
          let br : is_bridge e.what ≡ false = neither_first (is_bridge e.what) (is_decided e.number c) k in
          let free : is_decided e.number c ≡ false = neither_second (is_bridge e.what) (is_decided e.number c) k in
          let none = absent e.number c (last_for e.number es) (d e.number) free in
          inr (e.number, omega (arith, new_top e c k), ap (λ o. is_content (or_else o (says e.number e))) none ∙ (ap is_content (says_own e.number e refl) ∙ ap not br))
      | inr down ↦ elim t.reached [
        | inl z ↦ inl (omega (arith, new_top e c k))
        | inr w ↦ inr (w.0, omega (arith, new_top e c k, w.1), stays w.0 e (last_for w.0 es) w.2)
      ]
    ]
  ];
}

pub top_is : (es : List Entry) → IsTop (λ s. last_for s es) (decided_by es).top
unfolding decided_by last_for
top_is [] = record { bounds = λ s h. absurd cc; reached = inl refl }
top_is (e ∷ es) = top_step es e (decided_by es) (λ s. decides_one s es) (top_is es)
