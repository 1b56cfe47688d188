-- The statement of the greatest ballot, in whatever order the claims are looked through.
use Rattle.std.proofs.Common.{◌≡◌, ℕ, ◌<◌, ◌≤◌, List, [], ◌∷◌, ◌++◌, Option, Some, None, true, false, refl, ap, sym, ◌∙◌, subst, arith, cond, nat_lt, inl, inr}
use Rattle.std.specs.Prelude.{◌==◌, ◌&&◌, if◌then◌else◌}
use Rattle.std.specs.List.{filter}
use Rattle.std.proofs.lemmas.Bool.{cases_Bool, cases_lt, cases_eq, eq-eqb, ne_eqb}
use Rattle.std.proofs.lemmas.Bool.Decides.{nat_tests}
use Rattle.ld_table.specs.Words.{or_else}
use Rattle.ld_msg.specs.declared.msg.Entry.{Entry}
use Rattle.ld_msg.specs.Digest.{Told, better, says, statement, best, is_bridge}
use Rattle.ld_plan.specs.Claims.{claims_of, last_for}

-- ---- the better of two ----

better_none : (o : Option Entry) → better o None ≡ o
better_none None = refl
better_none (Some e) = refl

better_assoc : (a b c : Option Entry) → better (better a b) c ≡ better a (better b c)
better_assoc None b c = refl
better_assoc (Some e) None c = refl
better_assoc (Some e) (Some f) None = better_none (better (Some e) (Some f))
better_assoc (Some e) (Some f) (Some g) = elim (cases_Bool (nat_lt e.ballot f.ballot)) [
  | inl ef ↦ elim (cases_Bool (nat_lt f.ballot g.ballot)) [
    | inl fg ↦ let eg : nat_lt e.ballot g.ballot ≡ true = grind (arith, nat_tests) in grind (arith, nat_tests)
    | inr fg ↦ grind (arith, nat_tests)
  ]
  | inr ef ↦ elim (cases_Bool (nat_lt f.ballot g.ballot)) [
    | inl fg ↦ grind (arith, nat_tests)
    | inr fg ↦ let eg : nat_lt e.ballot g.ballot ≡ false = grind (arith, nat_tests) in grind (arith, nat_tests)
  ]
]

-- ---- one list of all claims ----

pub statement-append : (s : ℕ) (xs ys : List Entry) → statement s (xs ++ ys) ≡ better (statement s ys) (statement s xs)
unfolding statement
statement-append s [] ys = sym (better_none (statement s ys))
statement-append s (x ∷ xs) ys = ap (λ o. better o (says s x)) (statement-append s xs ys) ∙ better_assoc (statement s ys) (statement s xs) (says s x)

pub best_is : (s : ℕ) (d : List Told) → best s d ≡ statement s (claims_of d)
unfolding best statement
best_is s [] = refl
best_is s (t ∷ d) = ap (better (statement s t.entries)) (best_is s d) ∙ sym (statement-append s (claims_of d) t.entries)

-- ---- claims of one ballot ----

abbrev pub of_ballot : ℕ → List Entry → List Entry
of_ballot b es = filter (λ e. e.ballot == b) es

-- what is chosen is the last one of its ballot, and none of a greater ballot speaks of the number
abbrev IsChosen : ℕ → List Entry → Option Entry → Type 0
IsChosen s es None = (b : ℕ) → last_for s (of_ballot b es) ≡ None
IsChosen s es (Some e) = (last_for s (of_ballot e.ballot es) ≡ Some e) × ((b : ℕ) → e.ballot < b → last_for s (of_ballot b es) ≡ None)

same_ballot : (s b : ℕ) (x : Entry) (es : List Entry) → x.ballot ≡ b → last_for s (of_ballot b (x ∷ es)) ≡ or_else (last_for s (of_ballot b es)) (says s x)
unfolding last_for
same_ballot s b x es e = ap (λ t. last_for s (cond t (x ∷ of_ballot b es) (of_ballot b es))) (eq-eqb x.ballot b e)

other_ballot : (s b : ℕ) (x : Entry) (es : List Entry) → (x.ballot ≡ b → ⊥) → last_for s (of_ballot b (x ∷ es)) ≡ last_for s (of_ballot b es)
other_ballot s b x es n = ap (λ t. last_for s (cond t (x ∷ of_ballot b es) (of_ballot b es))) (ne_eqb x.ballot b n)

or_none : (o : Option Entry) → or_else o None ≡ o
or_none None = refl
or_none (Some e) = refl

silent : (s b : ℕ) (x : Entry) (es : List Entry) → says s x ≡ None → last_for s (of_ballot b (x ∷ es)) ≡ last_for s (of_ballot b es)
silent s b x es e = elim (cases_eq x.ballot b) [
  | inl same ↦ same_ballot s b x es same ∙ ap (or_else (last_for s (of_ballot b es))) e ∙ or_none (last_for s (of_ballot b es))
  | inr other ↦ other_ballot s b x es other
]

pub said : (s : ℕ) (x e : Entry) → says s x ≡ Some e → x ≡ e
said s x e h = elim (cases_Bool (x.number == s)) [
  | inl a ↦ let t : Some x ≡ Some e = sym (ap (λ b. if b then Some x else if is_bridge x.what && nat_lt x.number s then Some x else None) a) ∙ h in cc
  | inr a ↦
      let u : (if is_bridge x.what && nat_lt x.number s then Some x else None) ≡ Some e = sym (ap (λ b. if b then Some x else if is_bridge x.what && nat_lt x.number s then Some x else None) a) ∙ h in
      elim (cases_Bool (is_bridge x.what && nat_lt x.number s)) [
        | inl b ↦ let t : Some x ≡ Some e = sym (ap (λ c. if c then Some x else None) b) ∙ u in cc
        | inr b ↦ absurd (let t : None ≡ Some e = sym (ap (λ c. if c then Some x else None) b) ∙ u in cc)
      ]
]

choice : (s : ℕ) (x : Entry) (es : List Entry) (old said_x : Option Entry) → IsChosen s es old → says s x ≡ said_x → IsChosen s (x ∷ es) (better old said_x)
choice s x es None None h e = λ b. silent s b x es e ∙ h b
choice s x es (Some f) None h e = (silent s f.ballot x es e ∙ h.0, λ b lt. silent s b x es e ∙ h.1 b lt)
choice s x es None (Some y) h e =
    let same : x ≡ y = said s x y e in
    let ballots : x.ballot ≡ y.ballot = ap (λ (v : Entry). v.ballot) same in
    (same_ballot s y.ballot x es ballots ∙ ap (λ o. or_else o (says s x)) (h y.ballot) ∙ e, λ b lt. other_ballot s b x es (λ k. omega arith) ∙ h b)
choice s x es (Some f) (Some y) h e =
    let same : x ≡ y = said s x y e in
    let ballots : x.ballot ≡ y.ballot = ap (λ (v : Entry). v.ballot) same in
    elim (cases_Bool (nat_lt f.ballot y.ballot)) [
      | inl less ↦
          let lt : f.ballot < y.ballot = grind (arith, nat_tests) in
          subst (IsChosen s (x ∷ es)) (sym (ap (λ t. if t then Some y else Some f) less))
          (same_ballot s y.ballot x es ballots ∙ ap (λ o. or_else o (says s x)) (h.1 y.ballot lt) ∙ e, λ b more. other_ballot s b x es (λ k. omega arith) ∙ h.1 b (omega arith))
      | inr more ↦
          let le : y.ballot ≤ f.ballot = grind (arith, nat_tests) in
          subst (IsChosen s (x ∷ es)) (sym (ap (λ t. if t then Some y else Some f) more)) (
            elim (cases_eq x.ballot f.ballot) [
              | inl tied ↦ same_ballot s f.ballot x es tied ∙ ap (λ o. or_else o (says s x)) h.0
              | inr apart ↦ other_ballot s f.ballot x es apart ∙ h.0
            ],
            λ b above. other_ballot s b x es (λ k. omega arith) ∙ h.1 b above,
          )
    ]

is_chosen : (s : ℕ) (es : List Entry) → IsChosen s es (statement s es)
unfolding statement last_for
is_chosen s [] = λ b. refl
is_chosen s (x ∷ es) = choice s x es (statement s es) (says s x) (is_chosen s es) refl

-- only one can be chosen
one_chosen : (s : ℕ) (xs ys : List Entry) (o p : Option Entry) → ((b : ℕ) → of_ballot b xs ≡ of_ballot b ys) → IsChosen s xs o → IsChosen s ys p → o ≡ p
one_chosen s xs ys None None k h g = refl
one_chosen s xs ys None (Some f) k h g = absurd (let t : None ≡ Some f = sym (h f.ballot) ∙ ap (last_for s) (k f.ballot) ∙ g.0 in cc)
one_chosen s xs ys (Some e) None k h g = absurd (let t : Some e ≡ None = sym h.0 ∙ ap (last_for s) (k e.ballot) ∙ g e.ballot in cc)
one_chosen s xs ys (Some e) (Some f) k h g = elim (cases_lt e.ballot f.ballot) [
  | inl less ↦ absurd (let t : None ≡ Some f = sym (h.1 f.ballot less) ∙ ap (last_for s) (k f.ballot) ∙ g.0 in cc)
  | inr more ↦ elim (cases_lt f.ballot e.ballot) [
    | inl less ↦ absurd (let t : Some e ≡ None = sym h.0 ∙ ap (last_for s) (k e.ballot) ∙ g.1 e.ballot less in cc)
    | inr same ↦
        let eq : e.ballot ≡ f.ballot = omega arith in
        sym h.0 ∙ (ap (λ b. last_for s (of_ballot b xs)) eq ∙ (ap (last_for s) (k f.ballot) ∙ g.0))
  ]
]

-- another order with the claims of each ballot in theirs makes no difference
pub same_statement : (s : ℕ) (xs ys : List Entry) → ((b : ℕ) → of_ballot b xs ≡ of_ballot b ys) → statement s xs ≡ statement s ys
same_statement s xs ys k = one_chosen s xs ys (statement s xs) (statement s ys) k (is_chosen s xs) (is_chosen s ys)

-- ---- claims in the order of their ballots ----

-- the ballots rise
abbrev pub Rise : List Entry → Type 0
Rise [] = Unit {0}
Rise (e ∷ es) = ((f : Entry) → (s : ℕ) → last_for s es ≡ Some f → e.ballot ≤ f.ballot) × Rise es

pub last_is : (s : ℕ) (es : List Entry) → Rise es → statement s es ≡ last_for s es
unfolding statement last_for
last_is s [] h = refl
last_is s (e ∷ es) h = ap (λ o. better o (says s e)) (last_is s es h.1) ∙ elim (last_for s es) as (λ o. last_for s es ≡ o → better o (says s e) ≡ or_else o (says s e)) [
  | None ↦ λ k. refl
  | Some f ↦ λ k. elim (says s e) as (λ p. says s e ≡ p → better (Some f) p ≡ Some f) [
    | None ↦ λ l. refl
    | Some g ↦ λ l.
        let same : e ≡ g = said s e g l in
        let le : e.ballot ≤ f.ballot = h.0 f s k in
        let lt : nat_lt f.ballot g.ballot ≡ false = (let b : e.ballot ≡ g.ballot = ap (λ (v : Entry). v.ballot) same in grind (arith, nat_tests)) in
        ap (λ t. if t then Some g else Some f) lt
  ] refl
] refl
